use Rattle.std.proofs.Common.{◌+◌, ◌∙◌, List, refl, sym, subst, ap, arith, inl, inr, Vec, Global}
use Rattle.std.specs.Prelude.{slice_get}
use Rattle.std.proofs.lemmas.Option.{slice_get-get_or}
use Rattle.melt_copy.specs.declared.forwarding.Forwarding.{Forwarding}
use Rattle.melt_copy.specs.declared.forwarding.Relocation.{Relocation}
use Rattle.melt_move.specs.declared.choice.Departure.{Departure}
use Rattle.melt_copy.proofs.Finding.{at_within, at_header}
use Rattle.melt_move.proofs.Choosing.{HasChosen, chosen_start, chosen_leaves, chosen_stays, found_at, is_chosen}
use Rattle.melt_move.proofs.choice.choose.Goals as goal
use Rattle.melt_move.proofs.choice.choose.Goals.{then-k-live+then-is_stale+in_ok-push, else-k-live+in_ok-find}
use Rattle.melt_move.proofs.choice.choose.Goals.{else-k-live-via-then-k-live+else-is_stale, else-k-live-via-else-k-live}

pub is_stale-requires-clause-word : goal.is_stale-requires-clause-word
is_stale-requires-clause-word g c =
    let s = c.requires.0 in
    let space = c.args.space.now in
    let at = found_at space s c.args.live.now c.requires.1 c.requires.2 c.loop-k.stay c.loop-k.k _
    (c.loop-k.invariant.chosen s c.requires.1 c.requires.2).tracks
    (ap (λ (ms : List Relocation). slice_get ms c.loop-k.k) (sym c.deref-m-items.ensures.value)
    ∙ slice_get-get_or c.deref-m-items.result.now c.loop-k.k _ c.loop-k-test.true) in
    let within = at_within space s c.loop-k.stay _ at in
    record { first = within.0; last = omega (arith, within.2, c.used.ensures.within.used) }

pub is_stale-requires-clause-header : goal.is_stale-requires-clause-header
is_stale-requires-clause-header g c =
    let s = c.requires.0 in
    at_header c.args.space.now s c.loop-k.stay _
    (found_at c.args.space.now s c.args.live.now c.requires.1 c.requires.2 c.loop-k.stay c.loop-k.k _
    (c.loop-k.invariant.chosen s c.requires.1 c.requires.2).tracks
    (ap (λ (ms : List Relocation). slice_get ms c.loop-k.k) (sym c.deref-m-items.ensures.value)
    ∙ slice_get-get_or c.deref-m-items.result.now c.loop-k.k _ c.loop-k-test.true))

pub find-requires : goal.find-requires
find-requires g c =
    let s = c.requires.0 in (
      s,
      found_at c.args.space.now s c.args.live.now c.requires.1 c.requires.2 c.loop-k.stay c.loop-k.k _
          (c.loop-k.invariant.chosen s c.requires.1 c.requires.2).tracks
          (ap (λ (ms : List Relocation). slice_get ms c.loop-k.k) (sym c.deref-m-items.ensures.value)
          ∙ slice_get-get_or c.deref-m-items.result.now c.loop-k.k _ c.loop-k-test.true),
    )

pub loop-k-init : goal.loop-k-init
loop-k-init g c = record {
  chosen = λ s seen is.
      chosen_start c.args.space.now s c.args.live.now seen is c.in_ok-stay.stay c.new-leaving.result.items c.used.result
      c.used.ensures.value c.in_ok-stay.ensures.entries c.in_ok-stay.ensures.moves c.in_ok-stay.ensures.next
      c.new-leaving.ensures.items;
  visits = omega arith;
}

pub loop-k-preserved : goal.loop-k-preserved
loop-k-preserved g c = record {
  chosen = λ s seen is.
      let space = c.args.space.now in
      let live = c.args.live.now in
      let k = c.loop-k.k in
      let stay = c.loop-k.stay in
      let before = c.loop-k.invariant.chosen s seen is in
      let at = ap (λ (ms : List Relocation). slice_get ms k) (sym c.deref-m-items.ensures.value)
      ∙ slice_get-get_or c.deref-m-items.result.now k _ c.loop-k-test.true in
      elim c.if-k-live.branch [
        | then-k-live+then-is_stale+in_ok-push w ↦
            subst (λ (a : Forwarding). HasChosen space s live a c.if-k-live.leaving.items (k + 1)) (sym w.stay-is)
            (subst (λ (ds : List Departure). HasChosen space s live stay ds (k + 1))
            (sym (ap (λ (v : Vec Departure Global). v.items) w.leaving-is ∙ w.in_ok-push.ensures.items))
            (chosen_leaves space s live seen is stay c.loop-k.leaving.items k _ _ before at w.if-k-live.true
            w.if-is_stale.ensures refl refl))
        | else-k-live+in_ok-find w ↦
            subst (λ (a : Forwarding). HasChosen space s live a c.if-k-live.leaving.items (k + 1)) (sym w.stay-is)
            (subst (λ (v : Vec Departure Global). HasChosen space s live w.find.new.self v.items (k + 1))
            (sym w.leaving-is)
            (chosen_stays space s live seen is stay w.find.new.self c.loop-k.leaving.items k _ before at
            (elim w.else-k-live.branch [
              | else-k-live-via-then-k-live+else-is_stale w' ↦ inr w'.if-is_stale.ensures
              | else-k-live-via-else-k-live w' ↦ inl w'.if-k-live.false
            ])
            w.find.ensures.grows w.find.ensures.only
            (λ none. w.in_ok-find.ensures.found.1 (sym w.in_ok-find.ensures.found.0 ∙ none))
            (w.find.ensures.tracks s (found_at space s live seen is stay k _ before.tracks at))))
      ];
  visits = omega (arith, c.loop-k.invariant.visits, c.tick.ensures);
}

pub returns-clause-chooses : goal.returns-clause-chooses
returns-clause-chooses g c = λ s seen is.
    is_chosen c.args.space.now s c.args.live.now seen is _ c.loop-k.k (c.loop-k.invariant.chosen s seen is)
    (omega (arith, c.loop-k-test.false))
