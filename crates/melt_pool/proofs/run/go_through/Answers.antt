-- The mutators are armed for the epoch, and after it all is taken from them that they brought.
use Rattle.std.proofs.Common.{◌≡◌, ◌≤◌, ℕ, length, sym, ◌∙◌, subst, arith}
use Rattle.std.specs.Prelude.{Bool}
use Rattle.melt_trace.specs.Script.{Script}
use Rattle.melt_safepoint.specs.Epochs.{EndsEpoch}
use Rattle.melt_safepoint.specs.Shown.{shown_by}
use Rattle.melt_safepoint.proofs.Shown.{shown_is}
use Rattle.melt_pool.specs.Beginning.{IsAtRest, start_of}
use Rattle.melt_pool.specs.Epochs.{AllRest, Ended}
use Rattle.melt_pool.specs.Machines.{AreArmed, machine_row}
use Rattle.melt_pool.specs.Parts.{parts_view}
use Rattle.melt_pool.specs.Workers.{image_of}
use Rattle.melt_pool.proofs.Armed.{AllSized, armed, lent_sized, lent_work}
use Rattle.melt_pool.proofs.MachineBegins.{begins_at_rest, begins_first, begins_threads}
use Rattle.melt_pool.proofs.MachineLeaves.{leaves_away, leaves_bring, leaves_count, leaves_ends, leaves_lost}
use Rattle.melt_pool.proofs.MachineLeaves.{leaves_nameless}
use Rattle.melt_pool.proofs.run.go_through.Given.{Over}
use Rattle.melt_pool.proofs.run.go_through.Goals as goal
use Rattle.melt_pool.proofs.run.go_through.Goals.{After-hand_out, In_ok-paused}

pub hand_out-requires-clause-work : goal.hand_out-requires-clause-work
hand_out-requires-clause-work g c =
    let r = c.requires.ready in
    lent_work g.D.Reader.RecordReader.image g.D.Reader.RecordReader.faults
    (g.D.StaleDisk.image c.args.space.now.disk.now) c.args.registers.now r.before c.args.mutators.now r.lent
    (sym r.away.count)

-- they are armed then
are_armed : (g : Over) (c : After-hand_out g) → AreArmed g.D.Reader.RecordReader.image g.D.Reader.RecordReader.faults
    (g.D.StaleDisk.image c.args.space.now.disk.now)
    (parts_view c.args.paused.heap c.args.paused.pass c.args.registers.now) c.args.states.now.items c.args.registers.now
    c.hand_out.new.mutators
are_armed g c =
    let r = c.requires.ready in
    armed r.away (c.requires.as_many ∙ r.lent.count) r.lent c.hand_out.ensures.handed

-- and there is one at least
some : (g : Over) (c : After-hand_out g) → 1 ≤ length c.hand_out.new.mutators
some g c = omega (arith, c.requires.some, c.hand_out.ensures.handed.count)

pub resume-requires-clause-rest : goal.resume-requires-clause-rest
resume-requires-clause-rest g c κs within =
    let at = (goal.at.resume-requires-clause-rest g c).After-hand_out in
    let may = c.requires.may in
    subst (λ (n : ℕ). IsAtRest (image_of g.D.Reader.RecordReader.image) c.args.paused.told c.args.paused.heap
    c.args.paused.pass n c.hand_out.new.mutators) (sym c.requires.end)
    (begins_at_rest g.D.Reader.RecordReader.image g.D.Reader.RecordReader.faults
    (shown_by g.D.StaleDisk.image c.args.space.now) c.args.first c.args.paused.told c.args.paused.heap
    c.args.paused.pass
    c.args.registers.now c.args.states.now.items may.0 may.1 c.args.every c.hand_out.new.mutators c.requires.nameless
    (are_armed g at) (some g at) may.2)

-- each thread rests, by what the run shows of the disk
rest : (g : Over) (c : After-hand_out g) → (script : Script)
    × AllRest script (start_of (image_of g.D.Reader.RecordReader.image) c.args.paused.told c.args.paused.heap
    c.args.paused.pass c.args.space.now.end c.hand_out.new.mutators).began c.hand_out.new.mutators
rest g c =
    let may = c.requires.may in
    begins_threads g.D.Reader.RecordReader.image g.D.Reader.RecordReader.faults
    (shown_by g.D.StaleDisk.image c.args.space.now) c.args.first c.args.paused.told c.args.paused.heap
    c.args.paused.pass
    c.args.registers.now c.args.states.now.items may.0 may.1 c.args.every c.hand_out.new.mutators c.requires.nameless
    (are_armed g c) (some g c) may.2

pub resume-requires-clause-threads : goal.resume-requires-clause-threads
resume-requires-clause-threads g c κs within =
    subst (λ (n : ℕ). (script : Script) × AllRest script (start_of (image_of g.D.Reader.RecordReader.image)
    c.args.paused.told c.args.paused.heap c.args.paused.pass n c.hand_out.new.mutators).began c.hand_out.new.mutators)
    (sym c.requires.end) (rest g (goal.at.resume-requires-clause-threads g c).After-hand_out)

pub resume-requires-clause-first : goal.resume-requires-clause-first
resume-requires-clause-first g c κs within =
    let at = (goal.at.resume-requires-clause-first g c).After-hand_out in
    let may = c.requires.may in
    begins_first g.D.Reader.RecordReader.image g.D.Reader.RecordReader.faults
    (shown_by g.D.StaleDisk.image c.args.space.now) c.args.first c.args.paused.told c.args.paused.heap
    c.args.paused.pass
    c.args.registers.now c.args.states.now.items may.0 may.1 c.args.every c.hand_out.new.mutators c.requires.nameless
    (are_armed g at) (some g at) may.2

-- what stands after the epoch, by what the run shows of the disk
ended : (g : Over) (c : In_ok-paused g)
    → Ended g.D.Reader.RecordReader.image g.D.Reader.RecordReader.faults c.args.space.now.end c.args.every c.args.first
    (start_of (image_of g.D.Reader.RecordReader.image) c.args.paused.told c.args.paused.heap c.args.paused.pass
    c.args.space.now.end c.hand_out.new.mutators).began c.hand_out.new.mutators c.resume.new.mutators
    c.in_ok-paused.paused.heap c.in_ok-paused.paused.pass c.in_ok-paused.lacks
ended g c =
    subst (λ (n : ℕ). Ended g.D.Reader.RecordReader.image g.D.Reader.RecordReader.faults n c.args.every c.args.first
    (start_of (image_of g.D.Reader.RecordReader.image) c.args.paused.told c.args.paused.heap c.args.paused.pass n
    c.hand_out.new.mutators).began c.hand_out.new.mutators c.resume.new.mutators c.in_ok-paused.paused.heap
    c.in_ok-paused.paused.pass c.in_ok-paused.lacks) c.requires.end c.in_ok-paused.ensures.ended

pub take_back-requires-clause-room : goal.take_back-requires-clause-room
take_back-requires-clause-room g c =
    let at = goal.at.take_back-requires-clause-room g c in
    let count : length c.resume.new.mutators ≡ length c.hand_out.new.mutators =
    leaves_count g.D.Reader.RecordReader.image g.D.Reader.RecordReader.faults
    (shown_by g.D.StaleDisk.image c.args.space.now)
    c.args.paused.told c.args.paused.heap c.args.paused.pass c.args.registers.now c.args.states.now.items
    c.hand_out.new.mutators c.requires.nameless (are_armed g at.After-hand_out) (some g at.After-hand_out) c.args.every
    c.in_ok-paused.paused.heap c.in_ok-paused.paused.pass c.resume.new.mutators (rest g at.After-hand_out) c.args.first
    c.in_ok-paused.lacks (ended g at.In_ok-paused) in
    omega (
      arith,
      count,
      c.hand_out.ensures.handed.count,
      c.requires.as_many,
      c.args.states.now.ok.0,
      c.args.states.now.ok.1,
      c.hand_out.ensures.room,
    )

pub take_back-requires-clause-as_many : goal.take_back-requires-clause-as_many
take_back-requires-clause-as_many g c =
    let at = goal.at.take_back-requires-clause-as_many g c in
    let r = c.requires.ready in
    let count : length c.resume.new.mutators ≡ length c.hand_out.new.mutators =
    leaves_count g.D.Reader.RecordReader.image g.D.Reader.RecordReader.faults
    (shown_by g.D.StaleDisk.image c.args.space.now)
    c.args.paused.told c.args.paused.heap c.args.paused.pass c.args.registers.now c.args.states.now.items
    c.hand_out.new.mutators c.requires.nameless (are_armed g at.After-hand_out) (some g at.After-hand_out) c.args.every
    c.in_ok-paused.paused.heap c.in_ok-paused.paused.pass c.resume.new.mutators (rest g at.After-hand_out) c.args.first
    c.in_ok-paused.lacks (ended g at.In_ok-paused) in
    omega (arith, count, c.hand_out.ensures.handed.count, r.lent.count, r.away.count)

pub take_back-requires-clause-bring : goal.take_back-requires-clause-bring
take_back-requires-clause-bring g c κs within =
    let at = goal.at.take_back-requires-clause-bring g c in
    leaves_bring g.D.Reader.RecordReader.image g.D.Reader.RecordReader.faults
    (shown_by g.D.StaleDisk.image c.args.space.now)
    c.args.paused.told c.args.paused.heap c.args.paused.pass c.args.registers.now c.args.states.now.items
    c.hand_out.new.mutators c.requires.nameless (are_armed g at.After-hand_out) (some g at.After-hand_out) c.args.every
    c.in_ok-paused.paused.heap c.in_ok-paused.paused.pass c.resume.new.mutators (rest g at.After-hand_out) c.args.first
    c.in_ok-paused.lacks (ended g at.In_ok-paused)

pub returns-clause-nameless : goal.returns-clause-nameless
returns-clause-nameless g c =
    let at = goal.at.returns-clause-nameless g c in
    leaves_nameless g.D.Reader.RecordReader.image g.D.Reader.RecordReader.faults
    (shown_by g.D.StaleDisk.image c.args.space.now)
    c.args.paused.told c.args.paused.heap c.args.paused.pass c.args.registers.now c.args.states.now.items
    c.hand_out.new.mutators c.requires.nameless (are_armed g at.After-hand_out) (some g at.After-hand_out) c.args.every
    c.in_ok-paused.paused.heap c.in_ok-paused.paused.pass c.resume.new.mutators (rest g at.After-hand_out) c.args.first
    c.in_ok-paused.lacks (ended g at.In_ok-paused)

-- each thread had its 16 registers
sized : (g : Over) (c : After-hand_out g) → AllSized c.args.registers.now
sized g c =
    let r = c.requires.ready in
    lent_sized g.D.Reader.RecordReader.image g.D.Reader.RecordReader.faults
    (g.D.StaleDisk.image c.args.space.now.disk.now) c.args.registers.now r.before c.args.mutators.now r.lent
    (sym r.away.count)

pub returns-clause-away : goal.returns-clause-away
returns-clause-away g c =
    let at = goal.at.returns-clause-away g c in
    let r = c.requires.ready in
    leaves_away g.D.Reader.RecordReader.image g.D.Reader.RecordReader.faults
    (shown_by g.D.StaleDisk.image c.args.space.now)
    c.args.paused.told c.args.paused.heap c.args.paused.pass c.args.registers.now c.args.states.now.items
    c.hand_out.new.mutators c.requires.nameless (are_armed g at.After-hand_out) (some g at.After-hand_out) c.args.every
    c.in_ok-paused.paused.heap c.in_ok-paused.paused.pass c.resume.new.mutators (rest g at.After-hand_out) c.args.first
    c.in_ok-paused.lacks (ended g at.In_ok-paused)
    c.take_back.new.states.items c.take_back.new.registers c.take_back.new.mutators c.take_back.ensures.disarmed
    (sized g at.After-hand_out) (omega (arith, c.hand_out.ensures.handed.count, r.lent.count, r.away.few))

pub returns-clause-ends : goal.returns-clause-ends
returns-clause-ends g c = λ collector room may.
    let at = goal.at.returns-clause-ends g c in
    subst (λ (told : Bool). EndsEpoch (shown_by g.D.StaleDisk.image c.args.space.now) c.args.first
    (machine_row c.args.paused.heap c.args.paused.pass c.args.registers.now c.args.states.now.items collector room
    c.args.every c.args.paused.told) (machine_row c.in_ok-paused.paused.heap c.in_ok-paused.paused.pass
    c.take_back.new.registers c.take_back.new.states.items collector room c.args.every told) c.in_ok-paused.lacks)
    (sym c.in_ok-paused.ensures.told)
    (leaves_ends g.D.Reader.RecordReader.image g.D.Reader.RecordReader.faults
    (shown_by g.D.StaleDisk.image c.args.space.now)
    c.args.paused.told c.args.paused.heap c.args.paused.pass c.args.registers.now c.args.states.now.items
    c.hand_out.new.mutators c.requires.nameless (are_armed g at.After-hand_out) (some g at.After-hand_out) c.args.every
    c.in_ok-paused.paused.heap c.in_ok-paused.paused.pass c.resume.new.mutators (rest g at.After-hand_out) c.args.first
    c.in_ok-paused.lacks (ended g at.In_ok-paused)
    c.take_back.new.states.items c.take_back.new.registers c.take_back.new.mutators c.take_back.ensures.disarmed
    (sized g at.After-hand_out) collector room may)

pub returns-clause-lost : goal.returns-clause-lost
returns-clause-lost g c =
    let at = goal.at.returns-clause-lost g c in
    let may = c.requires.may in
    leaves_lost g.D.Reader.RecordReader.image g.D.Reader.RecordReader.faults
    (shown_by g.D.StaleDisk.image c.args.space.now) c.args.paused.told c.args.paused.heap c.args.paused.pass
    c.args.registers.now c.args.states.now.items c.hand_out.new.mutators c.requires.nameless
    (are_armed g at.After-hand_out) (some g at.After-hand_out) c.args.every c.in_ok-paused.paused.heap
    c.in_ok-paused.paused.pass c.resume.new.mutators (rest g at.After-hand_out) c.take_back.ensures.disarmed may.0 may.1
    c.args.first c.in_ok-paused.lacks may.2 (ended g at.In_ok-paused)
    (leaves_ends g.D.Reader.RecordReader.image g.D.Reader.RecordReader.faults
    (shown_by g.D.StaleDisk.image c.args.space.now)
    c.args.paused.told c.args.paused.heap c.args.paused.pass c.args.registers.now c.args.states.now.items
    c.hand_out.new.mutators c.requires.nameless (are_armed g at.After-hand_out) (some g at.After-hand_out) c.args.every
    c.in_ok-paused.paused.heap c.in_ok-paused.paused.pass c.resume.new.mutators (rest g at.After-hand_out) c.args.first
    c.in_ok-paused.lacks (ended g at.In_ok-paused) c.take_back.new.states.items c.take_back.new.registers
    c.take_back.new.mutators
    c.take_back.ensures.disarmed (sized g at.After-hand_out) may.0 may.1 may.2) c.take_back.ensures.read_faults

pub returns-clause-shown : goal.returns-clause-shown
returns-clause-shown g c =
    shown_is (shown_by g.D.StaleDisk.image c.take_back.new.space) (shown_by g.D.StaleDisk.image c.args.space.now)
    c.take_back.ensures.end c.take_back.ensures.limit c.take_back.ensures.image
