use Rattle.std.proofs.Common.{◌≡◌, ℕ, List, [], ◌++◌, take, drop, length, refl, sym, ◌∙◌, subst, ap, arith}
use Rattle.std.specs.Prelude.{Option}
use Rattle.std.proofs.Math.Seq.{take-append_seam}
use Rattle.melt_space.specs.Space.{IsSpace}
use Rattle.melt_scion.specs.GhostMaps.{NamePairs}
use Rattle.melt_scion.specs.declared.heap.Names.{Names}
use Rattle.melt_scion.specs.declared.heap.Heap.{Heap}
use Rattle.melt_copy.specs.declared.names.Renaming.{Renaming}
use Rattle.melt_copy.specs.Copied.{AreRenamed}
use Rattle.melt_copy.specs.Evacuating.{AreCarried, place_of}
use Rattle.melt_copy.specs.Tracking.{MovesScions}
use Rattle.melt_copy.specs.Visits.{VisitsAtMost}
use Rattle.melt_copy.proofs.Collects.{put_collects}
use Rattle.melt_copy.proofs.Outs.{AllMoved, GlobalsMoved, HeldFound, ScionsMoved, all_fits, all_given, before_globals, before_scan}
use Rattle.melt_copy.proofs.Outs.{before_scions, copies, few_copied, held_copy, held_small, names_carried}
use Rattle.melt_copy.proofs.Outs.{registers_moved, scions_moved, stands_in}
use Rattle.melt_copy.proofs.Reachable.{visits_at_most}
use Rattle.melt_copy.proofs.Starting.{Begins, collection_of, evacuates_start}
use Rattle.melt_copy.proofs.collect.collect_copy.Given.{Over}
use Rattle.melt_copy.proofs.collect.collect_copy.Goals as goal
use Rattle.melt_copy.proofs.collect.collect_copy.Goals.{After-live_scions, After-new-to, After-evacuate_held}
use Rattle.melt_copy.proofs.collect.collect_copy.Goals.{After-move_globals, After-evacuate_scions, After-scan}

-- nothing was copied yet
begins : (g : Over) (c : After-new-to g) → Begins c.args.heap.now c.heap.inside.0.0 c.new-to.result
begins g c =
    let same = c.heap.view_is ∙ c.words_for_copy.ensures.unchanged in
    let space_is : c.heap.inside.0.0 ≡ c.args.heap.now.space = ap (λ (h : Heap). h.space) same in
    let room = c.in_ok-words.ensures.room in
    let same_words = ap length c.new-to.ensures.words in
    record {
      space_is = space_is;
      is_space = subst IsSpace space_is c.words.ensures.within;
      next = c.new-to.ensures.next;
      room = omega (arith, room, same_words);
      moves = c.new-to.ensures.moves;
      names =
          subst (λ (names : Option Names). AreCarried names c.new-to.result.names []) (ap (λ (h : Heap). h.names) same)
          (subst (λ (names : Option Renaming). AreCarried c.heap.inside.0.1.1.1.1.0 names [])
          (sym c.new-to.ensures.names) c.in_ok-names.ensures.carried);
      made = c.requires.formed.made.names;
    }

-- the objects in registers were found
held_found : (g : Over) (c : After-evacuate_held g) → Begins c.args.heap.now c.heap.inside.0.0 c.new-to.result
    → HeldFound c.args.heap.now c.args.held.now c.evacuate_held.new.held c.evacuate_held.new.space
    c.evacuate_held.new.self
held_found g c start = record {
  start_space = c.heap.inside.0.0;
  start = c.new-to.result;
  begins = start;
  moves = c.evacuate_held.ensures.moves;
  finds = c.evacuate_held.ensures.finds;
  evacuates = c.evacuate_held.ensures.evacuates;
}

-- what globals refer to
globals_found : (g : Over) (c : After-move_globals g)
    → HeldFound c.args.heap.now c.args.held.now c.evacuate_held.new.held c.evacuate_held.new.space
    c.evacuate_held.new.self
    → GlobalsMoved c.args.phase c.args.heap.now c.args.held.now c.evacuate_held.new.held c.evacuate_held.new.self.next
    c.move_globals.new.globals c.move_globals.new.space c.move_globals.new.self
globals_found g c found = record {
  first_space = c.evacuate_held.new.space;
  first = c.evacuate_held.new.self;
  before = found;
  held_is = refl;
  words = c.deref_mut.result.now;
  words_are =
      c.deref_mut.ensures.value
      ∙ ap (λ (h : Heap). h.globals) (c.heap.view_is ∙ c.words_for_copy.ensures.unchanged);
  count = c.move_globals.auto.globals;
  moves = c.move_globals.ensures.moves;
  more = c.move_globals.ensures.more;
  evacuates = c.move_globals.ensures.evacuates;
}

-- the objects of live scions
scions_found : (g : Over) (c : After-evacuate_scions g)
    → GlobalsMoved c.args.phase c.args.heap.now c.args.held.now c.evacuate_held.new.held c.evacuate_held.new.self.next
    c.move_globals.new.globals c.move_globals.new.space c.move_globals.new.self
    → ScionsMoved c.args.phase c.args.heap.now c.args.held.now c.evacuate_held.new.held c.evacuate_held.new.self.next
    c.move_globals.new.globals c.evacuate_scions.new.scions c.evacuate_scions.new.space c.evacuate_scions.new.self
scions_found g c found = record {
  second_space = c.move_globals.new.space;
  second = c.move_globals.new.self;
  before = found;
  table = c.heap.inside.0.1.0;
  table_is = ap (λ (h : Heap). h.scions) (c.heap.view_is ∙ c.words_for_copy.ensures.unchanged);
  moves = c.evacuate_scions.ensures.moves;
  finds = c.evacuate_scions.ensures.finds;
  more = c.evacuate_scions.ensures.more;
  evacuates = c.evacuate_scions.ensures.evacuates;
}

-- and what slots lead to
all_found : (g : Over) (c : After-scan g)
    → ScionsMoved c.args.phase c.args.heap.now c.args.held.now c.evacuate_held.new.held c.evacuate_held.new.self.next
    c.move_globals.new.globals c.evacuate_scions.new.scions c.evacuate_scions.new.space c.evacuate_scions.new.self
    → AllMoved c.args.phase c.args.heap.now c.args.held.now c.evacuate_held.new.held c.evacuate_held.new.self.next
    c.move_globals.new.globals c.evacuate_scions.new.scions c.scan.new.space c.scan.new.self
all_found g c roots = record {
  third_space = c.evacuate_scions.new.space;
  third = c.evacuate_scions.new.self;
  before = roots;
  more = c.scan.ensures.more;
  evacuates = c.scan.ensures.evacuates;
}

pub evacuate_held-requires : goal.evacuate_held-requires
evacuate_held-requires g c =
    let formed = c.requires.formed in
    let at = goal.at.evacuate_held-requires g c in (
      collection_of c.args.phase c.args.heap.now c.args.held.now formed.disk 0,
      evacuates_start formed.maps formed.disk c.args.heap.now c.args.held.now c.args.phase 0 c.heap.inside.0.0
          c.new-to.result (begins g at.After-new-to) formed.formed,
    )

pub move_globals-requires : goal.move_globals-requires
move_globals-requires g c =
    let formed = c.requires.formed in
    let at = goal.at.move_globals-requires g c in
    let found = held_found g at.After-evacuate_held (begins g at.After-new-to) in (
      collection_of c.args.phase c.args.heap.now c.args.held.now formed.disk 0,
      before_globals c.args.phase c.args.heap.now c.args.held.now c.evacuate_held.new.held formed.maps formed.disk
          formed.formed 0 c.deref_mut.result.now
          (c.deref_mut.ensures.value
          ∙ ap (λ (h : Heap). h.globals) (c.heap.view_is ∙ c.words_for_copy.ensures.unchanged)) found,
    )

pub evacuate_scions-requires-clause-scions : goal.evacuate_scions-requires-clause-scions
evacuate_scions-requires-clause-scions g c =
    let formed = c.requires.formed in
    let at = goal.at.evacuate_scions-requires-clause-scions g c in
    let found = globals_found g at.After-move_globals
    (held_found g at.After-evacuate_held (begins g at.After-new-to)) in (
      collection_of c.args.phase c.args.heap.now c.args.held.now formed.disk 0,
      before_scions c.args.phase c.args.heap.now c.args.held.now c.evacuate_held.new.held formed.maps formed.disk
          formed.formed 0 c.heap.inside.0.1.0
          (ap (λ (h : Heap). h.scions) (c.heap.view_is ∙ c.words_for_copy.ensures.unchanged)) found,
    )

pub scan-requires : goal.scan-requires
scan-requires g c =
    let formed = c.requires.formed in
    let at = goal.at.scan-requires g c in
    let roots = scions_found g at.After-evacuate_scions (globals_found g at.After-move_globals
    (held_found g at.After-evacuate_held (begins g at.After-new-to))) in (
      collection_of c.args.phase c.args.heap.now c.args.held.now formed.disk (length (held_copy roots).moves),
      before_scan roots formed.maps formed.disk formed.formed,
    )

pub put_back-requires-clause-given : goal.put_back-requires-clause-given
put_back-requires-clause-given g c =
    let at = goal.at.put_back-requires-clause-given g c in
    let roots = scions_found g at.After-evacuate_scions (globals_found g at.After-move_globals
    (held_found g at.After-evacuate_held (begins g at.After-new-to))) in
    let moved = all_found g at.After-scan roots in
    all_given moved c.requires.formed

pub put_back-requires-clause-fits : goal.put_back-requires-clause-fits
put_back-requires-clause-fits g c =
    let at = goal.at.put_back-requires-clause-fits g c in
    let roots = scions_found g at.After-evacuate_scions (globals_found g at.After-move_globals
    (held_found g at.After-evacuate_held (begins g at.After-new-to))) in
    let moved = all_found g at.After-scan roots in
    all_fits moved c.requires.formed

-- what a slice of all items holds is written back
written_back : (count : ℕ) (items words : List ℕ) → count ≡ length words
    → take count (words ++ drop (length words) items) ≡ words
written_back count items words same =
    ap (λ (n : ℕ). take n (words ++ drop (length words) items)) same
    ∙ take-append_seam words (drop (length words) items)

pub returns-clause-collected : goal.returns-clause-collected
returns-clause-collected g c =
    let at = goal.at.returns-clause-collected g c in
    let roots = scions_found g at.After-evacuate_scions (globals_found g at.After-move_globals
    (held_found g at.After-evacuate_held (begins g at.After-new-to))) in
    let moved = all_found g at.After-scan roots in
    let same = c.heap.view_is ∙ c.words_for_copy.ensures.unchanged in
    let formed = c.requires.formed in
    put_collects c.requires.phase c.requires.settled (copies moved) (record {
      space = stands_in moved formed c.put_back.ensures.space;
      globals =
          c.put_back.ensures.globals
          ∙ written_back c.heap.inside.0.1.1.0.items.len c.heap.inside.0.1.1.0.items.items c.move_globals.new.globals
          (let count = c.move_globals.auto.globals in
          let len = c.heap.inside.0.1.1.0.items.ok.0 in
          let value = ap length c.deref_mut.ensures.value in
          omega (arith, count, len, value));
      registers = registers_moved moved formed;
      names = subst (λ (maps : NamePairs). AreRenamed c.args.heap.now.names maps c.put_back.new.heap.names
          c.put_back.new.heap.maps c.scan.new.self.moves) (ap (λ (h : Heap). h.maps) same)
          (c.put_back.ensures.names c.args.heap.now.names (names_carried moved formed));
      scions = subst (MovesScions (place_of c.scan.new.self.moves) c.args.heap.now.scions)
          (sym c.put_back.ensures.scions) (scions_moved moved);
      forward = c.put_back.ensures.forward ∙ ap (λ (h : Heap). h.forward) same;
    }) (record {
      held = refl;
      rest = record {
        of_phase = refl;
        live_words = c.used.ensures.value;
        no_bodies = refl;
        no_stubs = refl;
        no_end = refl;
      };
    })

pub overflow_cast-result : goal.overflow_cast-result
overflow_cast-result g c =
    let at = goal.at.overflow_cast-result g c in
    let roots = scions_found g at.After-evacuate_scions (globals_found g at.After-move_globals
    (held_found g at.After-evacuate_held (begins g at.After-new-to))) in
    let moved = all_found g at.After-scan roots in
    let small = held_small moved c.requires.formed in
    omega (arith, small)

pub returns-in_err-words-clause-visits : goal.returns-in_err-words-clause-visits
returns-in_err-words-clause-visits g c =
    visits_at_most 4 c.args.heap.now c.args.held.now c.args.steps.now c.args.steps.now c.requires.formed
    (λ words entry. omega arith)

-- live scions alone were visited
visits_yet : (g : Over) (c : After-live_scions g)
    → VisitsAtMost 4 c.args.heap.now c.args.held.now c.args.steps.now c.live_scions.new.steps
visits_yet g c =
    visits_at_most 4 c.args.heap.now c.args.held.now c.args.steps.now c.live_scions.new.steps c.requires.formed
    (λ words entry.
    let until = c.live_scions.ensures.visits in
    let is = entry.is in
    omega (
      arith,
      until,
      is,
      ap (λ (h : Heap). length h.scions.live) (c.heap.view_is ∙ c.words_for_copy.ensures.unchanged),
    ))

pub returns-in_err-live-clause-visits : goal.returns-in_err-live-clause-visits
returns-in_err-live-clause-visits g c =
    visits_yet g (goal.at.returns-in_err-live-clause-visits g c).After-live_scions

pub returns-in_err-names-clause-visits : goal.returns-in_err-names-clause-visits
returns-in_err-names-clause-visits g c =
    visits_yet g (goal.at.returns-in_err-names-clause-visits g c).After-live_scions

pub returns-clause-visits : goal.returns-clause-visits
returns-clause-visits g c =
    let at = goal.at.returns-clause-visits g c in
    let roots = scions_found g at.After-evacuate_scions (globals_found g at.After-move_globals
    (held_found g at.After-evacuate_held (begins g at.After-new-to))) in
    let moved = all_found g at.After-scan roots in
    let same = c.heap.view_is ∙ c.words_for_copy.ensures.unchanged in
    visits_at_most 4 c.args.heap.now c.args.held.now c.args.steps.now c.scan.new.steps c.requires.formed
    (λ words entry.
    let few = few_copied moved c.requires.formed entry.objects entry.reached in
    let is = entry.is in
    omega (
      arith,
      few,
      is,
      c.live_scions.ensures.visits,
      c.evacuate_held.ensures.visits,
      c.move_globals.ensures.visits,
      c.evacuate_scions.ensures.visits,
      c.scan.ensures.visits,
      c.new-to.ensures.next,
      ap length c.deref_mut.ensures.value,
      ap length c.deref.ensures.value,
      ap length c.in_ok-live.ensures.live,
      ap (λ (h : Heap). length h.globals) same,
      ap (λ (h : Heap). length h.scions.live) same,
    ))
