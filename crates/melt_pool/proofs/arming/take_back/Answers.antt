-- From the next mutator its operations and its registers are taken, and its reader is given back.
use Rattle.std.proofs.Common.{◌≡◌, ℕ, ◌+◌, ◌<◌, List, [], ◌∷◌, get_or, length, length-append, refl, sym, ◌∙◌, ap, subst}
use Rattle.std.proofs.Common.{arith}
use Rattle.std.proofs.lemmas.Option.{same_Some}
use Rattle.std.specs.Prelude.{Some, slice_get}
use Rattle.melt_scion.specs.declared.registers.Registers.{Registers}
use Rattle.melt_epoch.specs.declared.mutator.Mutator.{Mutator}
use Rattle.melt_safepoint.specs.declared.thread.ThreadState.{ThreadState}
use Rattle.melt_pool.specs.Arming.{CountsReaders}
use Rattle.melt_pool.specs.declared.worker.Worker.{Worker}
use Rattle.melt_pool.proofs.Armed.{HeldAt, TakenAt, disarmed, next_below, one_below, one_brought, reads_one, take_whole}
use Rattle.melt_pool.proofs.arming.take_back.Goals as goal

pub disarm-reader-requires : goal.disarm-reader-requires
disarm-reader-requires g c =
    let M : Type 0 = Mutator (Worker g.row.D-Reader.Denot) in
    let k : ℕ = c.loop-k.k in
    let m : M = get_or c.loop-k.mutators k c.index-mutators-k.result in
    record {
      brings = c.requires.bring k m (next_below _ k c.args.mutators.now c.loop-k.mutators c.index-mutators-k.result
          c.loop-k.invariant.taken c.loop-k-test.true);
    }

pub loop-k-preserved : goal.loop-k-preserved
loop-k-preserved g c =
    let M : Type 0 = Mutator (Worker g.row.D-Reader.Denot) in
    let i = c.loop-k.invariant in
    let olds : List M = c.args.mutators.now in
    let ms : List M = c.loop-k.mutators in
    let k : ℕ = c.loop-k.k in
    let m : M = get_or ms k c.index-mutators-k.result in
    let none : Registers = record { regs = [] } in
    let r : Registers = get_or c.loop-k.registers k none in
    let state : ThreadState = c.disarm-reader.result.1 in
    let worker : Worker g.row.D-Reader.Denot = record { reader = c.disarm-reader.result.0; state = Some state } in
    let many : length c.args.registers.now ≡ length olds = c.requires.as_many in
    let below : k < length olds = c.loop-k-test.true in
    let at : slice_get olds k ≡ Some m = next_below _ k olds ms c.index-mutators-k.result i.taken below in
    let at_r : slice_get c.args.registers.now k ≡ Some r =
    next_below _ k c.args.registers.now c.loop-k.registers none i.held (omega (arith, below, many)) in
    let here : HeldAt olds k r c.disarm-reader.result.2 = (
      λ x at_x. c.disarm-reader.ensures.registers ∙ ap (λ (y : M). y.registers) (same_Some m x (sym at ∙ at_x)),
      c.disarm-reader.ensures.size,
    ) in
    let before : length c.loop-k.states.items ≡ k = i.many in
    record {
      taken = one_below TakenAt k olds ms m c.disarm-reader.new.m i.taken at c.disarm-reader.ensures.left;
      held = one_below (HeldAt olds) k c.args.registers.now c.loop-k.registers r c.disarm-reader.result.2 i.held at_r
          here;
      many = (let more : length c.push_reserved.new.self.items ≡ length c.loop-k.states.items + 1 =
          ap length c.push_reserved.ensures.items ∙ length-append c.loop-k.states.items (state ∷ []) in
          omega (arith, more, before));
      brought = one_brought olds c.loop-k.states.items {state = state} i.brought before c.push_reserved.ensures.items at
          (record { worker = worker; there = c.disarm-reader.ensures.reader; state = refl });
      room = c.push_reserved.ensures.capacity ∙ i.room;
      reads = reads_one olds k i.reads at c.disarm-reader.ensures.reader c.give_back.ensures.read_faults;
      image = c.give_back.ensures.image ∙ i.image;
      count = c.give_back.ensures.count ∙ i.count;
      lends = c.give_back.ensures.lends ∙ i.lends;
      writes = c.give_back.ensures.writes ∙ i.writes;
      end = c.give_back.ensures.end ∙ i.end;
      limit = c.give_back.ensures.limit ∙ i.limit;
      same_disk = c.give_back.ensures.same_disk ∙ i.same_disk;
    }

pub returns-clause-disarmed : goal.returns-clause-disarmed
returns-clause-disarmed g c =
    let i = c.loop-k.invariant in
    disarmed c.loop-k.k c.args.mutators.now c.loop-k.mutators c.loop-k.states.items c.args.registers.now
    c.loop-k.registers c.loop-k-test.false (omega (arith, c.loop-k.auto.k-end)) i.many c.requires.as_many i.taken i.held
    i.brought

pub returns-clause-read_faults : goal.returns-clause-read_faults
returns-clause-read_faults g c =
    let M : Type 0 = Mutator (Worker g.row.D-Reader.Denot) in
    subst (λ (ms : List M). CountsReaders g.D.Reader.RecordReader.faults ms
    (g.D.StaleDisk.read_faults c.args.space.now.disk.now) (g.D.StaleDisk.read_faults c.loop-k.space.disk.now))
    (take_whole c.loop-k.k c.args.mutators.now c.loop-k-test.false) c.loop-k.invariant.reads
