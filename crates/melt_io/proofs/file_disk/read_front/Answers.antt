use Rattle.std.proofs.Common.{◌≡◌, ◌≤◌, ◌-◌, length, arith, length-drop, length-take, ◌∙◌}
use Rattle.melt_io.proofs.Runs.{length-overwritten, reads-on}
use Rattle.melt_io.proofs.file_disk.read_front.Goals as goal

pub loop-filled-preserved : goal.loop-filled-preserved
loop-filled-preserved g c =
    let bytes = c.loop-filled.bytes in
    let at = c.loop-filled.filled in
    let part : length c.read_at.new.buf ≡ length bytes - at =
    simp (length-take, length-drop) at c.read_at.auto.buf ∙ omega arith in
    let fits : c.in_ok-taken.taken ≤ length c.read_at.new.buf =
    omega (arith, c.read_at.auto.buf, c.in_ok-taken.ensures.within) in
    record {
      within = omega (
        arith,
        length-overwritten bytes c.read_at.new.buf at (length bytes - at) (omega arith) part,
        fits,
      );
      read = reads-on _ bytes c.read_at.new.buf _ c.args.at c.in_ok-taken.taken c.loop-filled.invariant.within fits
          c.loop-filled.invariant.read (rw c.loop-filled.invariant.kept at c.in_ok-taken.ensures.read);
      kept = c.in_ok-taken.ensures.kept ∙ c.loop-filled.invariant.kept;
      no_fault = c.in_ok-taken.ensures.no_fault ∙ c.loop-filled.invariant.no_fault;
    }
