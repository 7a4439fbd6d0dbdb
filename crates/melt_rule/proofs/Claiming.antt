-- What a seat can tell of the first free place that its claim found.
use Rattle.std.proofs.Common.{◌≡◌, ℕ, ◌+◌, ◌<◌, List, length, get_or, refl, ap, arith}
use Rattle.std.specs.List.{sum_by}
use lib.ListN.{get_elem?}
use mathlib.Core.Option.{some}
use Rattle.melt_rule.proofs.Ending.{sum_is}
use Rattle.melt_rule.proofs.Views.{sum_set}
use Rattle.melt_rule.specs.Making.{FirstFree}
use Rattle.melt_rule.specs.Rule.{Kept, SeatStands}
use Rattle.melt_rule.specs.Shown.{shows, free_place}
use Rattle.melt_rule.specs.declared.began.Began.{Began}
use Rattle.melt_rule.specs.declared.began.Start.{Start}
use Rattle.melt_rule.specs.declared.view.View.{View}

module _ (start : Start) (words : List ℕ) (views : List View) (kept : Kept start words views) (id : ℕ) (v : View)
    (at : get_elem? views id ≡ some v) (live : 0 < v.parts) where
  abbrev claimed_by_all : ℕ
  claimed_by_all = sum_by (λ (u : View). u.claimed) views

  free_is : get_or words free_place 0 ≡ v.began.free + claimed_by_all
  free_is =
      let stood : SeatStands start.began kept.maps (shows start.began words) kept.history v = kept.seats id v at live in
      let began : v.began.free ≡ start.began.free = ap (λ (b : Began). b.free) stood.began in
      let sum : get_or words free_place 0 ≡ start.began.free + claimed_by_all = kept.sums.free in
      omega arith

  pub found_first : FirstFree v (get_or words free_place 0)
  found_first = record {
    from =
        let none : View = record v { claimed = 0 } in
        let others = sum_set (λ (u : View). u.claimed) views id v none at in
        let free = free_is in
        omega arith;
    alone = λ all.
        let stood : SeatStands start.began kept.maps (shows start.began words) kept.history v =
        kept.seats id v at live in
        let threads : length v.began.threads ≡ length start.began.threads =
        ap (λ (b : Began). length b.threads) stood.began in
        let mine : claimed_by_all ≡ v.claimed =
        sum_is start words views kept id v at live (omega arith) (λ (u : View). u.claimed) refl in
        let free = free_is in
        omega arith;
  }
