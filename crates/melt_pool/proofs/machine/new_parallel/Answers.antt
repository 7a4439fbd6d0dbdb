-- Its heap is new, and so are the mutators of its threads.
use Rattle.std.proofs.Common.{◌≡◌, List, length, arith, rules}
use Rattle.std.specs.Prelude.{replicate}
use Rattle.melt_scion.specs.declared.heap.Heap.{Heap}
use Rattle.melt_scion.specs.declared.registers.Registers.{Registers}
use Rattle.melt_core.specs.Epochs.{no_registers}
use Rattle.melt_epoch.specs.declared.mutator.Mutator.{Mutator}
use Rattle.melt_pool.specs.declared.worker.Worker.{Worker}
use Rattle.melt_pool.proofs.NewMutators.{new_up_to_more, new_up_to_none}
use Rattle.melt_pool.proofs.NewRun.{new_away, new_nameless}
use Rattle.melt_pool.proofs.machine.new_parallel.Goals as goal

pub loop-t-init : goal.loop-t-init
loop-t-init g c = new_up_to_none c.in_ok-mutators.mutators.items c.in_ok-mutators.ensures.items

pub loop-t-preserved : goal.loop-t-preserved
loop-t-preserved g c =
    let new = c.new-in-loop-t.ensures in
    rw c.in_ok-push.ensures.items
    (new_up_to_more c.loop-t.t c.loop-t.mutators.items c.new-in-loop-t.result c.loop-t.invariant
    (new.thread, new.seat, new.reader, new.values))

pub invariant_of-result : goal.invariant_of-result
invariant_of-result g c =
    let heap : Heap = c.in_ok-heap.heap in
    let registers : List Registers = c.in_ok-registers.registers.items in
    let ms : List (Mutator (Worker g.row.R.Denot)) = c.loop-t.mutators.items in
    let held : registers ≡ replicate c.threads-threads.result no_registers = search rules in
    let count : length ms ≡ c.threads-threads.result =
    omega (arith, c.loop-t.invariant.count, c.loop-t.auto.t-end, c.loop-t-test.false) in
    record {
      nameless = new_nameless c.args.config c.globals.result heap c.requires.ranges c.globals.ensures.within
          c.in_ok-heap.ensures;
      away = rw c.new-2.ensures (new_away c.threads-threads.result heap registers ms
          c.threads-threads.ensures.within.1 held count c.loop-t.invariant.each);
      none_stored = c.new-3.ensures.items;
    }
