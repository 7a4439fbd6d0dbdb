use Rattle.std.proofs.Common.{◌≡◌, ◌<◌, true, [], ◌∷◌, length, refl, sym, ◌∙◌, ap, subst, arith}
use Rattle.std.specs.Prelude.{ℕ, ◌^◌, Bool, List, Option, Some}
use Rattle.melt_model.specs.declared.history.Entry.{Entry}
use Rattle.melt_epoch.proofs.Empty.{empty_start, new_heap_begins, no_history_begins}
use Rattle.melt_rule.specs.declared.began.Began.{Began}
use Rattle.melt_pool.specs.Beginning.{IsAtRest, start_of}
use Rattle.melt_pool.specs.Epochs.{AllRest}
use Rattle.melt_pool.specs.declared.worker.Worker.{Worker}
use Rattle.melt_pool_tests.specs.declared.tests.NoDisk.{NoDisk}
use Rattle.melt_pool_tests.proofs.Resting.{begun_rests}
use Rattle.melt_pool_tests.proofs.tests.run_on.Goals as goal

-- the image of a disk without words, which each worker's reader tells
abbrev none : Worker NoDisk → Option (List ℕ)
none worker = Some []

pub resume-requires-clause-rest : goal.resume-requires-clause-rest
resume-requires-clause-rest g c κs within =
    let ms = c.args.mutators.now in
    let heap = c.args.heap in
    let threads : List ℕ = 0 ∷ 1 ∷ [] in
    let small : 64 < 2 ^ 30 = omega arith in
    let rests : IsAtRest none true heap [] 1 ms =
    begun_rests none (empty_start threads heap) heap [] 1 ms refl refl
    (new_heap_begins threads heap 64 1 1 small (omega arith) (omega arith) c.requires.heap)
    (no_history_begins threads heap 64 1 1 small (omega arith) (omega arith) c.requires.heap)
    (c.requires.mutators (empty_start threads heap) refl c.requires.threads)
    (omega (arith, ap length c.requires.heap.nothing_forwarded)) in
    subst (λ (told : Bool). IsAtRest none told heap c.new.result 1 ms) (sym c.pick.ensures)
    (subst (λ (h : List Entry). IsAtRest none true heap h 1 ms) (sym c.new.ensures) rests)

pub resume-requires-clause-threads : goal.resume-requires-clause-threads
resume-requires-clause-threads g c κs within =
    let ms = c.args.mutators.now in
    let new = c.requires.new in
    let globals : length c.args.heap.globals ≡ 1 = ap length c.requires.heap.globals_hold_nothing in
    let begun : Bool → List Entry → Began = λ told h. (start_of none told c.args.heap h 1 ms).began in
    let rest : AllRest new.0 (begun true []) ms = record { globals = globals ∙ sym new.1; each = new.2 } in (
      new.0,
      subst (λ (told : Bool). AllRest new.0 (begun told c.new.result) ms) (sym c.pick.ensures)
          (subst (λ (h : List Entry). AllRest new.0 (begun true h) ms) (sym c.new.ensures) rest),
    )
