-- Neither the registers of the thread nor its mutator hold anything.
use Rattle.std.proofs.Common.{◌<◌, ℕ, List, length, refl, sym, subst}
use Rattle.std.proofs.lemmas.Option.{slice_get_read}
use Rattle.melt_epoch.specs.declared.mutator.Mutator.{Mutator}
use Rattle.melt_pool.specs.declared.worker.Worker.{Worker}
use Rattle.melt_pool.proofs.Away.{away_dropped, thread_dropped}
use Rattle.melt_pool.proofs.parallel.ParallelMachine.drop_all.Goals as goal

pub invariant_of-self : goal.invariant_of-self
invariant_of-self g c =
    let ms : List (Mutator (Worker g.row.R.Denot)) = c.args.self.now.mutators.items in
    let t : ℕ = c.args.thread in
    let m : Mutator (Worker g.row.R.Denot) = c.index_mut-2.result.now in
    let within : t < length ms = subst (λ (n : ℕ). t < n) (sym c.args.self.now.away.count) c.requires.thread in
    record {
      nameless = c.args.self.now.nameless;
      away = away_dropped c.args.self.now.heap c.args.self.now.pass t c.requires.thread
          (slice_get_read ms (length ms) t m refl within
          c.index_mut-2.ensures.value) c.drop_all.ensures c.args.self.now.away;
      none_stored = c.args.self.now.none_stored;
    }

pub returns : goal.returns
returns g c = record {
  dropped = thread_dropped c.args.self.now.heap c.args.self.now.pass c.args.self.now.registers.items c.args.thread
      c.requires.thread;
}
