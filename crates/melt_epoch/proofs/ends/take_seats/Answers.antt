use Rattle.std.proofs.Common.{◌≡◌, ℕ, suc, ◌+◌, ◌<◌, List, ◌++◌, length, map, drop, take, get_or, sym, ◌∙◌, ap, arith}
use Rattle.std.proofs.Math.ListN.{length-set, set}
use Rattle.std.specs.Prelude.{Option, Some}
use Rattle.atomic_table.specs.declared.shared.Seat.{Seat}
use Rattle.melt_rule.specs.Giving.{joined_view}
use Rattle.melt_rule.specs.Rule.{is_bound}
use Rattle.melt_rule.specs.Seats.{knows_of}
use Rattle.melt_rule.specs.declared.view.View.{View}
use Rattle.melt_epoch.proofs.Mutating.{drop_map, get_half, set_half}
use Rattle.melt_epoch.specs.Ends.{unseated, view_in, view_of}
use Rattle.melt_epoch.specs.Gathering.{gathered}
use Rattle.melt_epoch.specs.declared.mutator.Mutator.{Mutator}
use Rattle.melt_epoch.proofs.ends.take_seats.Goals as goal

pub loop-k-preserved : goal.loop-k-preserved
loop-k-preserved g c =
    let M : Type 0 = Mutator g.row.R.Denot in
    let i = c.loop-k.invariant in
    let olds : List M = c.args.mutators.now in
    let ms : List M = c.loop-k.mutators in
    let k = c.loop-k.k in
    let d = c.index-mutators-k.result in
    let gone_first : M = record (get_or olds 0 c.index-mutators-0.result) { seat = c.take.new.self } in
    let below : k < length olds =
    (let test = c.loop-k-test.true in let size = length-set olds 0 gone_first in omega arith) in
    let next : suc k ≡ k + 1 = omega arith in
    let same : get_or ms k d ≡ get_or olds k d =
    ap (λ (l : List M). get_or l k d) i.left ∙ get_half unseated olds k d below in
    let has : (get_or ms k d).seat ≡ Some c.in-Some-take.other = sym c.in-Some-take.ensures.value in
    let knows : view_of (get_or olds k d) ≡ knows_of c.in-Some-take.other =
    ap (λ (m : M). view_in m.seat) (sym same) ∙ ap view_in has in
    let step : gathered (knows_of c.take_seat.new.seat) (drop (k + 1) (map view_of olds))
    ≡ gathered (knows_of c.loop-k.seat) (drop k (map view_of olds)) =
    ap (λ (v : View). gathered v (drop (k + 1) (map view_of olds))) c.take_seat.ensures.takes
    ∙ (ap (λ (w : View). gathered (joined_view (knows_of c.loop-k.seat) w) (drop (k + 1) (map view_of olds)))
    (sym knows)
    ∙ (ap (λ (n : ℕ). gathered (joined_view (knows_of c.loop-k.seat) (view_of (get_or olds k d)))
    (drop n (map view_of olds)))
    (sym next)
    ∙ ap (gathered (knows_of c.loop-k.seat)) (sym (drop_map view_of olds k d below)))) in
    record {
      seat = c.take_seat.ensures.seat;
      goes_on = ap (λ (v : View). is_bound v.doing) c.take_seat.ensures.takes ∙ i.goes_on;
      gathers = step ∙ i.gathers;
      left =
          let without : M = record (get_or ms k d) { seat = c.take-in-loop-k.new.self } in
          let gone : without ≡ unseated (get_or olds k d) =
          ap (λ (s : Option (Seat ℕ View)). record (get_or ms k d) { seat = s }) c.take-in-loop-k.ensures.after
          ∙ ap unseated same in
          ap (λ (l : List M). set l k without) i.left
          ∙ (set_half unseated olds k d without below gone
          ∙ ap (λ (n : ℕ). map unseated (take n olds) ++ drop n olds) next);
    }
