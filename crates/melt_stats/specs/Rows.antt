-- What a writer of comma-separated lines into memory has written.
use Rattle.std.specs.Prelude.{◌≡◌, ℕ, List, ◌++◌, false}
use Rattle.std.specs.declared.alloc.Global.{Global}
use Rattle.std.specs.declared.vec.Vec.{Vec}
use Rattle.csv.specs.declared.writer.Writer.{Writer}
use Rattle.csv.specs.Writing.{default_writer, fields_written, has_written, writer_pending, writer_setup, writer_under}

-- the writer quotes as by default, and no field of a next line is written
pub record IsAtLine (writer : Writer (Vec ℕ Global)) : Type 0 where
  pub setup : writer_setup writer ≡ default_writer
  pub fields : fields_written writer ≡ 0
  pub clean : has_written writer ≡ false

-- the bytes written so far
abbrev pub written : Writer (Vec ℕ Global) → List ℕ
written writer = (writer_under writer).items ++ writer_pending writer
