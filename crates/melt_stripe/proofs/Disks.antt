-- One disk of several is called: what that is for all of them. A disk that is read is the item of its place, whatever
-- stands for one past the end.
use Rattle.std.proofs.Common.{◌≡◌, ℕ, ◌+◌, ◌%◌, ◌<◌, ◌≤◌, List, length, map, get_or, slice_set, Option, None, IfSome}
use Rattle.std.proofs.Common.{inl, inr}
use Rattle.std.proofs.Common.{sym, ◌∙◌, ap, arith, get_or-set_same, get_or-set_other}
use Rattle.std.proofs.lemmas.Bool.{cases_eq}
use Rattle.std.proofs.lemmas.List.{get_or-map, length-map, length-set, map-set, set-get_or}
use Rattle.melt_io.specs.Outside.{KeepsOthers, Writes, words_at}
use Rattle.melt_stripe.specs.Counts.{NoneFell}
use Rattle.melt_stripe.specs.Images.{image_of}
use Rattle.melt_stripe.specs.Units.{disk_of, place_of}
use Rattle.melt_stripe.proofs.Telling.{AreIn, keeps_all, on, reads_all, writes_all}

-- where one of them is another that shows the same
pub same_shown : {X Y : Type 0} (show : X → Y) (disks : List X) (d : ℕ) (past new : X) → d < length disks
    → show new ≡ show (get_or disks d past) → map show (slice_set disks d new) ≡ map show disks
same_shown {X} {Y} show disks d past new below same =
    let none : Y = show past in
    map-set show disks d new
    ∙ ap (λ one. slice_set (map show disks) d one) (same ∙ sym (get_or-map show disks d past none below))
    ∙ set-get_or (map show disks) d none

-- words of one unit, and the call for them of the disk on which they lie
pub record IsCall {X : Type 0} (disks : List X) (d p w n : ℕ) : Type 0 where
  pub some : 0 < length disks
  pub more : 0 < n
  pub unit : w % 64 + n ≤ 64
  pub disk : d ≡ disk_of (length disks) w
  pub place : p ≡ place_of (length disks) w
  pub below : d < length disks

module _ {X : Type 0} (image : X → Option (List ℕ)) (disks : List X) (d p w n : ℕ) (past : X)
    (call : IsCall disks d p w n) where
  are_in : AreIn (map image disks) w n
  are_in = record { some = omega (arith, length-map disks image, call.some); more = call.more; unit = call.unit }

  on_is : on (map image disks) w ≡ d
  on_is = ap (λ k. disk_of k w) (length-map disks image) ∙ sym call.disk

  at_is : place_of (length (map image disks)) w ≡ p
  at_is = ap (λ k. place_of k w) (length-map disks image) ∙ sym call.place

  shown_on : get_or (map image disks) (on (map image disks) w) None ≡ image (get_or disks d past)
  shown_on = ap (λ e. get_or (map image disks) e None) on_is ∙ get_or-map image disks d past None call.below

  set_on : (new : X) → slice_set (map image disks) (on (map image disks) w) (image new)
      ≡ map image (slice_set disks d new)
  set_on new = ap (λ e. slice_set (map image disks) e (image new)) on_is ∙ sym (map-set image disks d new)

  pub call_keeps : (new : X) → KeepsOthers (image (get_or disks d past)) p n (image new)
      → KeepsOthers (image_of (map image disks)) w n (image_of (map image (slice_set disks d new)))
  call_keeps new keeps =
      let old = image (get_or disks d past) in
      let there : KeepsOthers old (place_of (length (map image disks)) w) n (image new) = rw at_is keeps in
      rw (← set_on new) (keeps_all (map image disks) w n old (image new) are_in shown_on there)

  pub call_writes : (words : List ℕ) (new : X) → length words ≡ n
      → Writes (image (get_or disks d past)) p words (image new)
      → Writes (image_of (map image disks)) w words (image_of (map image (slice_set disks d new)))
  call_writes words new len written =
      let old = image (get_or disks d past) in
      let there : Writes old (place_of (length (map image disks)) w) words (image new) = rw at_is written in
      let are : AreIn (map image disks) w (length words) = rw len are_in in
      rw (← set_on new) (writes_all (map image disks) w words old (image new) are shown_on there)

  pub call_reads : (words : List ℕ) → IfSome (image (get_or disks d past)) (λ held. words ≡ words_at held p n)
      → IfSome (image_of (map image disks)) (λ all. words ≡ words_at all w n)
  call_reads words read =
      let there : IfSome (get_or (map image disks) (on (map image disks) w) None)
      (λ held. words ≡ words_at held (place_of (length (map image disks)) w) n) = rw (shown_on, at_is) read in
      reads_all (map image disks) w n words are_in there

-- a count of one of them that did not fall
pub none_fell_on : {X : Type 0} (count : X → ℕ) (disks : List X) (d : ℕ) (past new : X) → d < length disks
    → count (get_or disks d past) ≤ count new → NoneFell (map count disks) (map count (slice_set disks d new))
none_fell_on count disks d past new below rise =
    let set : map count (slice_set disks d new) ≡ slice_set (map count disks) d (count new) =
    map-set count disks d new in
    let low : d < length (map count disks) = omega (arith, length-map disks count) in
    record {
      size = ap length set ∙ length-set (map count disks) d (count new);
      each = λ e. rw set (elim (cases_eq e d) [
        | inl same ↦
            let was : get_or (map count disks) e 0 ≡ count (get_or disks d past) =
            ap (λ i. get_or (map count disks) i 0) same ∙ get_or-map count disks d past 0 below in
            let now : get_or (slice_set (map count disks) d (count new)) e 0 ≡ count new =
            ap (λ i. get_or (slice_set (map count disks) d (count new)) i 0) same
            ∙ get_or-set_same (map count disks) d (count new) 0 low in
            omega arith
        | inr other ↦
            let now = get_or-set_other (map count disks) d e (count new) 0 other in
            omega arith
      ]);
    }
