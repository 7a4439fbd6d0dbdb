-- What a Move leaves beside the objects that registers hold: only objects with the stale bit, and none of those that
-- had it already. What registers hold is a part of what is left by a collection of any phase.
use Rattle.std.proofs.Common.{◌≡◌, ◌≢◌, ℕ, ◌≤◌, List, inl, inr, refl, sym, ◌∙◌, ap}
use Rattle.std.proofs.Common.{subst, arith, Bool, true, false}
use Rattle.std.specs.Prelude.{Option, Some}
use Rattle.melt_model.specs.Alive.{CostsSum}
use Rattle.melt_model.specs.declared.reports.Phase.{Phase}
use Rattle.melt_model.specs.declared.reports.Phase.TheVariants.{Move}
use Rattle.melt_model.specs.declared.reports.Journal.{Journal}
use Rattle.melt_model.proofs.Sums.{CostsSum-part}
use Rattle.melt_word.specs.Words.{cost_of}
use Rattle.melt_word.specs.declared.header.Header.{Header}
use Rattle.melt_scion.specs.State.{State, HeaderAt, ObjectAt, HoldsAt, Reached}
use Rattle.melt_scion.specs.Placed.{Maps, IsNamed, Formed}
use Rattle.melt_scion.specs.Moves.{Arrives}
use Rattle.melt_scion.specs.Collected.{Collected, CountsWords, HeldAt}
use Rattle.melt_scion.specs.Heaps.{OnDisk, state_of}
use Rattle.melt_scion.specs.declared.heap.Names as name_table
use Rattle.melt_scion.specs.declared.heap.Heap.{Heap}
use Rattle.melt_scion.specs.declared.registers.Registers.{Registers}
use Rattle.melt_scion.proofs.Geometry.{one_header}
use Rattle.melt_scion.proofs.Phases.{leaving_not_held}
use Rattle.melt_core.specs.Views.{maps_of}
use Rattle.melt_safepoint.specs.Collections.{AllMarked}
use Rattle.melt_safepoint.specs.Resting.{Beside, with_names_held, rest_view}
use Rattle.melt_safepoint.proofs.Collecting.{RestsOver, formed_now, maps_after}
use Rattle.melt_safepoint.proofs.MovedSums.{contains_or_not, moved_counts}
use Rattle.melt_safepoint.proofs.PlannedRest.{Carried}

module _ (phase : Phase) (m after : Maps) (s t : State) (to home scion : ℕ → ℕ) (formed : Formed m s)
    (collected : Collected phase m after s t to home scion) where
  -- what a register holds is an object
  held_named : (a : ℕ) → HeldAt s a → IsNamed m a
  held_named a is = elim (formed.registers is.0.thread is.0.register) [
    | inl none ↦ absurd (is.1 (sym is.0.holds ∙ none))
    | inr named ↦ subst (IsNamed m) is.0.holds named.0
  ]

  -- and stays
  held_stays : (a : ℕ) → HeldAt s a → to a ≢ 0
  held_stays a is = elim (collected.words.chooses.go a reached) [
    | inl stays ↦ stays
    | inr leaves ↦ absurd (leaving_not_held phase s a leaves is.0)
  ]
    where
      reached : Reached s a
      reached = Reached.in_register is.0.thread is.0.register a is.0.holds (let some = is.1 in omega (arith, some))

  -- an object that stays takes as many words as before
  same_cost : (Is Has : ℕ → Type 0) {before beyond : ℕ} (was : CountsWords s Is before) (is : CountsWords t Has beyond)
      (a : ℕ) {n : ℕ} → m.address a ≡ Some n → to a ≢ 0 → was.cost a ≡ is.cost (to a)
  same_cost Is Has was is a {n} named stays =
      let object : (header : Header) × ObjectAt s a header = formed.words.objects a n named in
      let arrives : Arrives phase s t to home scion a object.0 =
      collected.words.arrives a object.0 stays object.1.starts in
      was.costs.is a object.0 object.1.starts
      ∙ (ap cost_of (sym arrives.shape) ∙ sym (is.costs.is (to a) arrives.later arrives.starts))

  -- the words of what registers hold, counted where it is then
  held_moved : (held live : ℕ) (helds : CountsWords s (HeldAt s) held) (lives : CountsWords t (IsNamed after) live)
      → CostsSum lives.cost (λ b. (a : ℕ) × HeldAt s a × (to a ≡ b)) held
  held_moved held live helds lives =
      moved_counts to s (HeldAt s) held helds lives.cost
      (λ a b is other same. collected.words.chooses.once a b (held_stays a is) same)
      (λ a is. let named = held_named a is in
      same_cost (HeldAt s) (IsNamed after) helds lives a named.1 (held_stays a is))

  -- the words of all that is left
  all_left : (live : ℕ) (lives : CountsWords t (IsNamed after) live) → CostsSum lives.cost (IsNamed after) live
  all_left live lives =
      record { members = lives.members; once = lives.once; all = lives.all; adds_up = lives.adds_up }

  -- what registers hold is a part of what is left
  pub held_part : (held live : ℕ) → CountsWords s (HeldAt s) held → CountsWords t (IsNamed after) live → held ≤ live
  held_part held live helds lives =
      CostsSum-part lives.cost (λ b. (a : ℕ) × HeldAt s a × (to a ≡ b)) (IsNamed after) held live
      (λ b is.
      let named = held_named is.0 is.1 in (
        named.0,
        ap after.address (sym is.2) ∙ (collected.names.names is.0 (held_stays is.0 is.1) ∙ named.1),
      ))
      (held_moved held live helds lives) (all_left live lives)

  -- and all of it, where each object that is left was in a register
  pub all_held : (held live : ℕ) → CountsWords s (HeldAt s) held → CountsWords t (IsNamed after) live
      → ((b : ℕ) → IsNamed after b → (a : ℕ) × HeldAt s a × (to a ≡ b)) → live ≡ held
  all_held held live helds lives each =
      let more : live ≤ held =
      CostsSum-part lives.cost (IsNamed after) (λ b. (a : ℕ) × HeldAt s a × (to a ≡ b)) live held each
      (all_left live lives) (held_moved held live helds lives) in
      omega (arith, more, held_part held live helds lives)

module _ (m after : Maps) (s t : State) (to home scion : ℕ → ℕ) (formed : Formed m s)
    (collected : Collected Move m after s t to home scion) where
  -- a Move leaves no object that has the stale bit and that no register holds
  left_held : (held : ℕ) → CountsWords s (HeldAt s) held
      → ((a : ℕ) (header : Header) → IsNamed m a → HeaderAt s a header → (HoldsAt s a → ⊥) → header.stale ≡ true)
      → (b : ℕ) → IsNamed after b → (a : ℕ) × HeldAt s a × (to a ≡ b)
  left_held held helds marked b named =
      let from = collected.names.only b named.0 named.1 in
      let a : ℕ = from.0 in
      let some : to a ≢ 0 = from.1 in
      let full : a ≢ 0 = λ none. some (ap to none ∙ collected.words.chooses.nothing) in
      let chosen = collected.words.chooses.stay a some in
      let object : (header : Header) × ObjectAt s a header = formed.words.objects a named.0 from.3 in
      elim (contains_or_not helds.members a) [
        | inl has ↦ (a, (helds.all a).1 has, from.2)
        | inr none ↦ absurd (
            let lone : HoldsAt s a → ⊥ = λ holds. none ((helds.all a).0 (holds, full)) in
            chosen.1 (
              chosen.0,
              lone,
              (
                object.0,
                object.1.starts,
                marked a object.0 (named.0, from.3) object.1.starts lone,
              ),
            )
            )
      ]

  -- so nothing but held objects is left, where all others had it
  pub tight_words : (held live : ℕ) → CountsWords s (HeldAt s) held → CountsWords t (IsNamed after) live
      → ((a : ℕ) (header : Header) → IsNamed m a → HeaderAt s a header → (HoldsAt s a → ⊥) → header.stale ≡ true)
      → live ≡ held
  tight_words held live helds lives marked =
      all_held Move m after s t to home scion formed collected held live helds lives (left_held held helds marked)

  not_fresh : (b : Bool) → (b ≡ false → ⊥) → b ≡ true
  not_fresh true not = refl
  not_fresh false not = absurd (not refl)

  -- and each object that no register holds has the stale bit then
  pub marked_words : (b : ℕ) (header : Header) → IsNamed after b → HeaderAt t b header → (HoldsAt t b → ⊥)
      → header.stale ≡ true
  marked_words b header named starts lone =
      let from = collected.names.only b named.0 named.1 in
      let a : ℕ = from.0 in
      let object : (header : Header) × ObjectAt s a header = formed.words.objects a named.0 from.3 in
      let arrives : Arrives Move s t to home scion a object.0 =
      collected.words.arrives a object.0 from.1 object.1.starts in
      let there : HeaderAt t b arrives.later =
      subst (λ (at : ℕ). HeaderAt t at arrives.later) from.2 arrives.starts in
      let same : header ≡ arrives.later = one_header t b header arrives.later starts there in
      ap (λ (x : Header). x.stale) same
      ∙ not_fresh arrives.later.stale (λ fresh.
      let holds : HoldsAt s a = arrives.marked.0 fresh in
      lone (record {
        thread = holds.thread;
        register = holds.register;
        holds = collected.words.register holds.thread holds.register ∙ (ap to holds.holds ∙ from.2);
      }))

module _ (told : Bool) (disk : OnDisk) (heap new : Heap) (b : Beside) (names : Option name_table.Names)
    (registers : List Registers) (finish : ℕ) (image : Option (List ℕ)) (journal : Journal)
    (rests : RestsOver told disk heap b)
    (c : Carried told Move disk heap new b names registers finish image journal) where
  abbrev s : State
  s = state_of c.mid b.held c.between

  abbrev t : State
  t = state_of new registers c.was.later

  -- what had the stale bit has it still in the settled heap
  marked_between : AllMarked (rest_view heap b) → (a : ℕ) (header : Header) → IsNamed (maps_of b.names) a
      → HeaderAt s a header → (HoldsAt s a → ⊥) → header.stale ≡ true
  marked_between marked a header had starts lone =
      let object : (h : Header) × ObjectAt (state_of heap b.held disk) a h =
      rests.stands.holds.formed.objects a had.0 had.1 in
      let there : HeaderAt s a object.0 = c.headers a had.0 object.0 had.1 object.1.starts in
      ap (λ (x : Header). x.stale) (one_header s a header object.0 starts there)
      ∙ marked a object.0 had
      (record { in_range = object.1.starts.in_range; word = object.1.starts.word })
      (λ holds. lone (record { thread = holds.thread; register = holds.register; holds = holds.holds }))

  -- a Move leaves the words of what registers hold, where all other objects had the stale bit
  pub move_tight : AllMarked (rest_view heap b) → journal.live ≡ journal.held
  move_tight marked =
      tight_words (maps_of b.names) c.was.after s t c.was.to c.was.home c.was.scion
      (formed_now told c.between (rest_view c.mid b) c.at_mid.stands) c.was.collected journal.held journal.live
      c.was.held_words c.was.live (marked_between marked)

  -- and then all others have it
  pub move_marks : AllMarked (rest_view new (with_names_held b names registers))
  move_marks a header named starts lone =
      marked_words (maps_of b.names) c.was.after s t c.was.to c.was.home c.was.scion
      (formed_now told c.between (rest_view c.mid b) c.at_mid.stands) c.was.collected a header
      (subst (λ (m : Maps). IsNamed m a)
      (sym (maps_after Move finish image journal told c.between c.mid new b names registers c.at_mid c.at_rest.names
      c.was)) named)
      (record { in_range = starts.in_range; word = starts.word })
      (λ holds. lone (record { thread = holds.thread; register = holds.register; holds = holds.holds }))
