-- What a file in memory holds.
use Rattle.std.specs.Prelude.{ℕ, List, []}
use Rattle.std.specs.Option.{option_map_or}
use Rattle.melt_io.specs.declared.mem_file.MemFile.{MemFile}

-- the bytes, of which there are none before the file is made
abbrev pub bytes_of : MemFile → List ℕ
bytes_of file = option_map_or (λ bytes. bytes.items) file.bytes []
