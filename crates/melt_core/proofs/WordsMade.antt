-- An event makes no more words than come into use by it.
use Rattle.std.proofs.Common.{◌≡◌, ℕ, ◌+◌, ◌<◌, ◌≤◌, ◌⊎◌, inl, inr, List, [], ◌∷◌, ◌++◌, refl, sym, ◌∙◌, ap, subst}
use Rattle.std.proofs.Common.{arith}
use Rattle.std.proofs.lemmas.Bool.{cases_lt}
use Rattle.std.proofs.lemmas.List.Sums.{sum-map, sum_by-append}
use Rattle.std.specs.Prelude.{Bool, true, Option, None, Some}
use Rattle.std.specs.List.{sum_by}
use Rattle.melt_model.specs.Alive.{words_of, CostsSum}
use Rattle.melt_model.specs.History.{Shape, made as makes, shapes}
use Rattle.melt_model.specs.declared.history.Act.{Act}
use Rattle.melt_model.specs.declared.history.Act.TheVariants.{Make, Read, Write}
use Rattle.melt_model.specs.declared.history.Entry.{Entry}
use Rattle.melt_model.proofs.Histories.{made-append, shapes-append}
use Rattle.melt_model.proofs.Sums.{CostsSum-more, CostsSum-one, CostsSum-part}
use Rattle.melt_scion.specs.State.{State}
use Rattle.melt_scion.specs.Placed.{Maps}
use Rattle.melt_scion.specs.Regions.{Region}
use Rattle.melt_scion.specs.Heaps.{OnDisk}
use Rattle.melt_core.specs.Answering.{entry, with_entry}
use Rattle.melt_core.specs.Events.{Event}
use Rattle.melt_core.specs.Known.{Evolves}
use Rattle.melt_core.specs.Made.{made_words, KeepsMade}
use Rattle.melt_core.specs.Views.{View, Standing, Counts, InUse, maps, state}
use Rattle.melt_core.proofs.Counting.{in_use_made, in_use_later, new_words}

-- the words that were made, with one entry more
made_more : (h k : List Entry) → made_words (h ++ k) ≡ made_words h + made_words k
made_more h k =
    let cost = λ (z : Shape). 2 + z.refs + z.nums in
    let joined : sum_by cost (shapes (h ++ k)) ≡ sum_by cost (shapes h ++ shapes k) =
    ap (sum_by cost) (shapes-append h k) in
    omega (
      arith,
      joined,
      sum_by-append cost (shapes h) (shapes k),
      sum-map cost (shapes (h ++ k)),
      sum-map cost (shapes h),
      sum-map cost (shapes k),
    )

-- what an event makes is in use after it
abbrev Named : List Entry → Maps → Option Act → Type 0
Named h new None = Unit {0}
Named h new (Some (Make refs nums)) = InUse new (makes h)
Named h new (Some (Read at value)) = Unit {0}
Named h new (Some (Write at value)) = Unit {0}

module _ (told : Bool) (h : List Entry) (maps new : Maps) (s t : State) where
  named_event : (mine : Region) (cleared : ℕ) (act : Option Act) → Event told h maps new s t mine cleared act
      → Named h new act
  named_event mine cleared act (Event.quiet is same) = tt
  named_event mine cleared act (Event.reads_place place at value is same slot clean last) = tt
  named_event mine cleared act (Event.reads_number object n j shape is same word) = tt
  named_event mine cleared act
      (Event.writes_place place at address value is slot where_at may value_is changes) = tt
  named_event mine cleared act (Event.writes_number object n j word shape is number changes) = tt
  named_event mine cleared act (Event.claims words is moves) = tt
  named_event mine cleared act (Event.stores r at word is owns from to changes) = tt
  named_event mine cleared act (Event.publishes address stored shape small stores all changes appears) =
      (address, appears.here)
  named_event mine cleared act (Event.clears address header is named starts changes) = tt
  named_event mine cleared act
      (Event.untags place at found target value is slot range was named fresh same last changes) = tt
  named_event mine cleared act (Event.commits home tried p n address shape rest may changes appears) = tt

  -- So where all objects from some number on are in use, they are after an event too.
  pub made_stay : (thread : ℕ) (mine : Region) (cleared : ℕ) (act : Option Act)
      → Event told h maps new s t mine cleared act → Evolves maps new s t cleared → (first : ℕ)
      → ((n : ℕ) → first ≤ n → n < makes h → InUse maps n) → (n : ℕ) → first ≤ n
      → n < makes (with_entry thread h act) → InUse new n
  made_stay thread mine cleared act event evolves first before n from below =
      by_act act (named_event mine cleared act event) below
    where
      kept : n < makes h → InUse new n
      kept less = let was = before n from less in (was.0, evolves.names was.0 n was.1)

      by_act : (x : Option Act) → Named h new x → n < makes (with_entry thread h x) → InUse new n
      by_act None named less = kept less
      by_act (Some (Make refs nums)) named less =
          let e : Entry = entry thread (Make refs nums) in
          let one : makes (e ∷ []) ≡ 1 = refl in
          let more = made-append h (e ∷ []) in
          elim (cases_lt n (makes h)) [
            | inl old ↦ kept old
            | inr past ↦
                let same : makes h ≡ n = omega (arith, less, past, one, more) in subst (InUse new) same named
          ]
      by_act (Some (Read at value)) named less =
          let none : makes (entry thread (Read at value) ∷ []) ≡ 0 = refl in
          let more = made-append h (entry thread (Read at value) ∷ []) in
          kept (omega (arith, less, none, more))
      by_act (Some (Write at value)) named less =
          let none : makes (entry thread (Write at value) ∷ []) ≡ 0 = refl in
          let more = made-append h (entry thread (Write at value) ∷ []) in
          kept (omega (arith, less, none, more))

-- the objects that were in use are, and so are those that were made
module _ (disk : OnDisk) (v w : View) (t : ℕ) (s : Standing true disk v) (now : Counts w)
    (stay : (a n : ℕ) → (maps v).address a ≡ Some n → (maps w).address a ≡ Some n) where
  grows_with : (total : ℕ) → CostsSum (words_of w.log) (InUse (maps v)) total → total ≤ now.in_use
  grows_with total sum =
      CostsSum-part (words_of w.log) (InUse (maps v)) (InUse (maps w)) total now.in_use
      (λ n is. (is.0, stay is.0 n is.1)) sum now.adds_up

  grows_same : (h : List Entry) → made_words h ≡ made_words v.log → w.log ≡ h
      → CostsSum (words_of h) (InUse (maps v)) (s.counts refl).in_use
      → made_words w.log + (s.counts refl).in_use ≤ made_words v.log + now.in_use
  grows_same h none log sum =
      let total : ℕ = (s.counts refl).in_use in
      let part : total ≤ now.in_use =
      grows_with total (subst (λ (k : List Entry). CostsSum (words_of k) (InUse (maps v)) total) (sym log) sum) in
      let same : made_words w.log ≡ made_words h = ap made_words log in
      omega (arith, part, same, none)

  grows_made : (refs nums : ℕ) → w.log ≡ v.log ++ entry t (Make refs nums) ∷ [] → InUse (maps w) (makes v.log)
      → made_words w.log + (s.counts refl).in_use ≤ made_words v.log + now.in_use
  grows_made refs nums log named =
      let e : Entry = entry t (Make refs nums) in
      let total : ℕ = (s.counts refl).in_use in
      let sum : CostsSum (words_of w.log) (InUse (maps v)) total =
      subst (λ (k : List Entry). CostsSum (words_of k) (InUse (maps v)) total) (sym log) (in_use_later disk v e s) in
      let cost : words_of w.log (makes v.log) ≡ 2 + refs + nums =
      ap (λ (k : List Entry). words_of k (makes v.log)) log ∙ new_words v.log e refs nums refl in
      let more : CostsSum (words_of w.log) (λ m. InUse (maps v) m ⊎ (m ≡ makes v.log))
      (total + words_of w.log (makes v.log)) =
      CostsSum-more (words_of w.log) (InUse (maps v)) (makes v.log) total
      (λ is. let less : makes v.log < makes v.log = in_use_made disk v (makes v.log) s is in omega arith) sum in
      let part : total + words_of w.log (makes v.log) ≤ now.in_use =
      CostsSum-part (words_of w.log) (λ m. InUse (maps v) m ⊎ (m ≡ makes v.log)) (InUse (maps w))
      (total + words_of w.log (makes v.log)) now.in_use
      (λ n is. elim is [
        | inl old ↦ (old.0, stay old.0 n old.1)
        | inr same ↦ subst (InUse (maps w)) (sym same) named
      ]) more now.adds_up in
      let one : made_words (e ∷ []) ≡ 2 + refs + nums = omega arith in
      let longer : made_words w.log ≡ made_words (v.log ++ e ∷ []) = ap made_words log in
      omega (arith, part, cost, one, longer, made_more v.log (e ∷ []))

  grows : (act : Option Act) → w.log ≡ with_entry t v.log act → Named v.log (maps w) act
      → made_words w.log + (s.counts refl).in_use ≤ made_words v.log + now.in_use
  grows None log named = grows_same v.log refl log (s.counts refl).adds_up
  grows (Some (Make refs nums)) log named = grows_made refs nums log named
  grows (Some (Read at value)) log named =
      let e : Entry = entry t (Read at value) in
      let one : made_words (e ∷ []) ≡ 0 = refl in
      grows_same (v.log ++ e ∷ []) (omega (arith, one, made_more v.log (e ∷ []))) log (in_use_later disk v e s)
  grows (Some (Write at value)) log named =
      let e : Entry = entry t (Write at value) in
      let one : made_words (e ∷ []) ≡ 0 = refl in
      grows_same (v.log ++ e ∷ []) (omega (arith, one, made_more v.log (e ∷ []))) log (in_use_later disk v e s)

-- whatever an event makes comes into use
pub keeps_made : {disk : OnDisk} {v w : View} (t : ℕ) {mine : Region} {cleared : ℕ} {act : Option Act}
    → Standing true disk v → Counts w → ((a n : ℕ) → (maps v).address a ≡ Some n → (maps w).address a ≡ Some n)
    → w.log ≡ with_entry t v.log act → Event true v.log (maps v) (maps w) (state disk v) (state disk w) mine cleared act
    → KeepsMade v w
keeps_made {disk} {v} {w} t {mine} {cleared} {act} s now stay log event past had =
    let named : Named v.log (maps w) act =
    named_event true v.log (maps v) (maps w) (state disk v) (state disk w) mine cleared act event in
    let same : had.in_use ≡ (s.counts refl).in_use =
    CostsSum-one (words_of v.log) (InUse (maps v)) had.in_use (s.counts refl).in_use had.adds_up
    (s.counts refl).adds_up in
    let grown : made_words w.log + (s.counts refl).in_use ≤ made_words v.log + now.in_use =
    grows disk v w t s now stay act log named in
    record { in_use = now.in_use; adds_up = now.adds_up; within = omega (arith, had.within, same, grown) }
