-- The next mutator gets the reader that was lent, and the registers of its thread.
use Rattle.std.proofs.Common.{◌≡◌, ℕ, List, get_or, length, ◌∙◌, ap, subst, arith}
use Rattle.std.proofs.lemmas.Option.{get_or_from_slice_get}
use Rattle.std.specs.Prelude.{None, Some, slice_get}
use Rattle.melt_scion.specs.declared.registers.Registers.{Registers}
use Rattle.melt_epoch.specs.declared.mutator.Mutator.{Mutator}
use Rattle.melt_pool.specs.declared.worker.Worker.{Worker}
use Rattle.melt_pool.proofs.Armed.{LentAt, all_below, lends_one, next_below, one_below}
use Rattle.melt_pool.proofs.arming.lend_all.Goals as goal

pub arm-requires : goal.arm-requires
arm-requires g c =
    let M : Type 0 = Mutator (Worker g.row.D-Reader.Denot) in
    let m : M = get_or c.loop-k.mutators c.loop-k.k c.index-mutators-k.result in
    record {
      no_seat = c.requires.none_seated c.loop-k.k m (next_below _ c.loop-k.k c.args.mutators.now c.loop-k.mutators
          c.index-mutators-k.result c.loop-k.invariant.done c.loop-k-test.true);
    }

pub loop-k-preserved : goal.loop-k-preserved
loop-k-preserved g c =
    let M : Type 0 = Mutator (Worker g.row.D-Reader.Denot) in
    let i = c.loop-k.invariant in
    let olds : List M = c.args.mutators.now in
    let ms : List M = c.loop-k.mutators in
    let k : ℕ = c.loop-k.k in
    let m : M = get_or ms k c.index-mutators-k.result in
    let w : Worker g.row.D-Reader.Denot = record { reader = c.in_ok-reader.reader; state = None } in
    let at : slice_get olds k ≡ Some m = next_below _ k olds ms c.index-mutators-k.result i.done c.loop-k-test.true in
    let here : LentAt g.D.Reader.RecordReader.image g.D.Reader.RecordReader.faults
    (g.D.StaleDisk.image c.args.space.now.disk.now) c.args.registers.now k m c.arm.new.m =
    λ r at_r. record {
      reader = c.in_ok-reader.reader;
      is = c.arm.ensures.armed
          ∙ ap (λ (q : Registers). let z : M = record m { registers = q; reader = Some w } in z)
          (get_or_from_slice_get c.args.registers.now k r _ at_r);
      size = subst (λ (q : Registers). length q.regs ≡ 16) (get_or_from_slice_get c.args.registers.now k r _ at_r)
          c.arm.ensures.size;
      tells = c.in_ok-reader.ensures.lent ∙ i.image;
      unfailed = c.in_ok-reader.ensures.no_fault_yet;
    } in
    record {
      done = one_below _ k olds ms m c.arm.new.m i.done at here;
      image = c.in_ok-reader.ensures.image ∙ i.image;
      count = (let before = i.count in let more = c.in_ok-reader.ensures.count in omega (arith, before, more));
      read_faults = c.in_ok-reader.ensures.read_faults ∙ i.read_faults;
      lends = lends_one k _ _ _ i.lends c.in_ok-reader.ensures.lends;
      writes = c.in_ok-reader.ensures.writes ∙ i.writes;
      end = c.in_ok-reader.ensures.end ∙ i.end;
      limit = c.in_ok-reader.ensures.limit ∙ i.limit;
      same_disk = c.in_ok-reader.ensures.same_disk ∙ i.same_disk;
    }

pub returns-clause-lent : goal.returns-clause-lent
returns-clause-lent g c =
    let i = c.loop-k.invariant in
    record {
      count = i.done.count;
      each = λ t r m n at_r at_m at_n.
          all_below _ c.loop-k.k c.args.mutators.now c.loop-k.mutators i.done c.loop-k-test.false t m n at_m at_n r
          at_r;
    }
