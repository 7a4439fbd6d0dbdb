-- The heap is left as it is, with the history.
use Rattle.std.proofs.Common.{refl, ◌∙◌}
use Rattle.melt_core.specs.Views.{View}
use Rattle.melt_pool.specs.Machines.{parallel_view}
use Rattle.melt_pool.proofs.Names.{names_hold}
use Rattle.melt_pool.proofs.parallel.ParallelMachine.finish.Goals as goal

pub returns : goal.returns
returns g c =
    let v : View = parallel_view c.args.self in
    record {
      left = record {
        heap = c.args.self.heap;
        there = c.left_of.ensures.heap;
        w = v;
        log = c.left_of.ensures.history;
        stands = λ told disk stands. (
          record {
            stands = stands;
            quiet = c.requires.quiet;
            globals = refl;
            words = refl;
            forwards = refl;
            threads = refl;
            capacity = refl;
            history = refl;
            values = λ t. refl;
          },
          record {
            space = refl;
            scions = refl;
            globals = refl;
            forward = refl;
            free = refl;
            has_maps = (names_hold c.args.self.heap c.args.self.nameless).has;
          },
        );
      };
      stores = c.left_of.ensures.log ∙ c.args.self.none_stored;
    }
