-- The tag of a reference is taken away by one compare-exchange on its word, and the rule stays, whether it won or lost.
use Rattle.std.proofs.Common.{◌≡◌, ◌≢◌, ℕ, ◌+◌, ◌*◌, ◌<◌, ◌≤◌, true, List, [], ◌∷◌, ◌++◌}
use Rattle.std.proofs.Common.{length, get_or, refl, sym, ◌∙◌, ap, subst, arith, inl, inr, eq-eqb, ne_eqb}
use Rattle.std.proofs.Math.ListN.{set}
use Rattle.std.proofs.lemmas.Bool.Decides.{eqb_tells}
use Rattle.std.specs.Prelude.{Option, None, Some, ◌==◌}
use lib.ListN.{get_elem?}
use mathlib.Core.Option.{some, none}
use prog.Atomic.{either}
use Rattle.atomic_table.specs.Table.{Me, Allows, step}
use Rattle.melt_model.specs.History.{last, given}
use Rattle.melt_model.specs.declared.history.Act.{Act}
use Rattle.melt_model.specs.declared.history.Act.TheVariants.{Read}
use Rattle.melt_model.specs.declared.history.Slot.{Slot}
use Rattle.melt_model.specs.declared.history.Slot.TheVariants as slot
use Rattle.melt_model.specs.declared.history.Value.{Value}
use Rattle.melt_model.specs.declared.history.Value.TheVariants.{Nil, Ref as Object}
use Rattle.melt_word.specs.Words.{IsRef, ref_word}
use Rattle.melt_word.specs.declared.header.Shape.{Shape}
use Rattle.melt_word.specs.declared.reference.Ref.{Ref}
use Rattle.melt_word.specs.declared.reference.Ref.TheVariants.{Null, Clean, Stale, Disk}
use Rattle.melt_scion.specs.Changes.{WordChanges, GlobalChanges}
use Rattle.melt_scion.specs.Placed.{IsNamed, IsReferenceWord, MayStand}
use Rattle.melt_scion.specs.Regions.{no_region}
use Rattle.melt_scion.specs.State.{State, IsFresh}
use Rattle.std.specs.Option.{option_map}
use Rattle.std.proofs.lemmas.Option.{same_Some}
use Rattle.melt_core.proofs.Keeping.{event_keeps}
use Rattle.melt_core.proofs.Regions.{no_region_apart}
use Rattle.melt_core.proofs.Staying.{fresh_stays}
use Rattle.melt_core.specs.Answering.{with_entry}
use Rattle.melt_core.specs.Events.{Event, PlaceChanges, LastAt}
use Rattle.melt_core.specs.Events.Event.{untags}
use Rattle.melt_core.specs.Known.{Known, SlotAt, word_in}
use Rattle.melt_core.specs.declared.call.Place.{Place}
use Rattle.melt_core.specs.declared.call.Place.TheVariants.{Field, Global}
use Rattle.melt_rule.proofs.Allowed.{loaded, one_object}
use Rattle.melt_rule.proofs.Keeping.{IsStep, ReadsLook, adds, keeps_bits}
use Rattle.melt_rule.proofs.Loads.{looks, snoc_old, snoc_new, snoc_here, stands_at}
use Rattle.melt_rule.proofs.Showing.{word_is, global_is, word_changes, global_changes}
use Rattle.melt_rule.proofs.Leaving.{OnlyObjects, leaves, only_global, only_space}
use Rattle.melt_rule.proofs.Within.{allowed, within}
use Rattle.melt_rule.specs.Barriers.{Untags, UntagPlay, GlobalUntagPlay}
use Rattle.melt_rule.specs.Rule.{Has, SeatStands, Kept, Rule, is_lacking}
use Rattle.melt_rule.specs.Shown.{shows, owned, global_place, word_place, Knows, core_stage}
use Rattle.melt_rule.specs.Tells.{FitsIn, view_after, Reads}
use Rattle.melt_rule.specs.declared.began.Began.{Began}
use Rattle.melt_rule.specs.declared.began.Pair.{Pair}
use Rattle.melt_rule.specs.declared.began.Start.{Start}
use Rattle.melt_rule.specs.declared.view.Doing.TheVariants.{Cleared}
use Rattle.melt_rule.specs.declared.view.View.{View}

-- what a call knows that is about to exchange
module _ (start : Start) (words : List ℕ) (views : List View) (kept : Kept start words views) (id : ℕ) (v : View)
    (at : get_elem? views id ≡ some v) (live : 0 < v.parts) (place : Place) (found : Ref) (target : ℕ)
    (cleared : v.doing ≡ Some (Cleared place found target)) where
  abbrev old : State
  old = shows start.began words

  stood : SeatStands start.began kept.maps old kept.history v
  stood = kept.seats id v at live

  pub knows : Known start.began.told kept.maps old v.rest (core_stage (Cleared place found target))
  knows = subst (Knows start.began.told kept.maps old v.rest) cleared stood.doing

  -- either way the slot of the look is read
  reads : (after : List ℕ) (slot_ : Slot) → SlotAt kept.maps place slot_ → (value : Value)
      → ReadsLook start words after views kept id v at live (Some (Read slot_ value))
  reads after slot_ is_slot value = record {
    place = place;
    found = found;
    target = target;
    stage = cleared;
    slot = slot_;
    is_slot = is_slot;
    value = value;
    reads = refl;
  }

  -- the exchange was lost: the word that stands there has no tag, and is read
  pub loses : (slot_ : Slot) → SlotAt kept.maps place slot_ → IsReferenceWord kept.maps old (word_in old place)
      → word_in old place ≢ ref_word found
      → (w : View) × IsStep start words words views kept id v at live w
      × ((answer : ℕ) × (word_in old place ≡ 4 * answer) × Reads v w slot_ answer)
  loses slot_ is_slot reference other = go reference.reference refl
    where
      go : (r : Ref) → reference.reference ≡ r
          → (w : View) × IsStep start words words views kept id v at live w
          × ((answer : ℕ) × (word_in old place ≡ 4 * answer) × Reads v w slot_ answer)
      go Null is =
          let r = looks start words views kept id v at live (ap is_lacking cleared) place slot_ Null knows.0.at is_slot
          (subst IsRef is reference.in_range)
          (reference.is ∙ ap ref_word is)
          (subst (MayStand kept.maps old) is reference.stands)
          (inr (reads words slot_ is_slot Nil)) in
          (r.0, r.1, (0, reference.is ∙ ap ref_word is, r.2))
      go (Clean a) is =
          let r = looks start words views kept id v at live (ap is_lacking cleared) place slot_
          (Clean a) knows.0.at is_slot
          (subst IsRef is reference.in_range)
          (reference.is ∙ ap ref_word is)
          (subst (MayStand kept.maps old) is reference.stands)
          (λ n. inr (reads words slot_ is_slot (Object n))) in
          (r.0, r.1, (a, reference.is ∙ ap ref_word is, r.2))
      go (Stale a) is = absurd (other (knows.0.unless_clean (record {
        reference = Stale a;
        in_range = subst IsRef is reference.in_range;
        tag = tt;
        is = reference.is ∙ ap ref_word is;
      })))
      go (Disk home) is = absurd (other (knows.0.unless_clean (record {
        reference = Disk home;
        in_range = subst IsRef is reference.in_range;
        tag = tt;
        is = reference.is ∙ ap ref_word is;
      })))

  -- the object of this number is at the target
  module _ (after : List ℕ) (only : OnlyObjects start words after) (n : ℕ) (named : kept.maps.address target ≡ Some n)
    where
      abbrev new : State
      new = shows start.began after

      abbrev pub pair : Pair
      pair = record { address = target; object = n }

      -- the view after an exchange that was won
      abbrev pub won : Slot → View
      won slot_ = view_after v (with_entry v.thread kept.history (Some (Read slot_ (Object n))))
          (v.known ++ pair ∷ []) None

      pub wins : (slot_ : Slot) → SlotAt kept.maps place slot_ → word_in old place ≡ ref_word found
          → PlaceChanges old new place (ref_word (Clean target))
          → IsStep start words after views kept id v at live (won slot_) × Reads v (won slot_) slot_ target
      wins slot_ is_slot same changes =
          let act : Option Act = Some (Read slot_ (Object n)) in
          let last_at : start.began.told ≡ true → LastAt kept.history kept.maps place slot_ (Object n) =
          λ told. record {
            slot = is_slot;
            last =
                let e : Some (Object n) ≡ Some (last kept.history slot_) =
                ap (option_map Object) (sym named)
                ∙ (sym (knows.1.same told)
                ∙ stands_at start words views kept id v at live
                (ap is_lacking cleared) place slot_ found knows.0.at is_slot
                knows.0.in_range
                same
                told) in
                cc;
          } in
          let event : Event start.began.told kept.history kept.maps kept.maps old new no_region 0 act =
          untags place slot_ found target (Object n) refl knows.0.at knows.0.in_range same (n, named) knows.2
          knows.1.same last_at changes in
          let keeps = event_keeps start.began.told v.thread kept.history kept.maps kept.maps old new no_region 0 act
          kept.legal kept.holds event in
          let w : View = won slot_ in
          let still : (a : ℕ) → IsNamed kept.maps a → IsFresh old a → IsFresh new a =
          fresh_stays kept.maps kept.maps old new 0 kept.holds.formed keeps.evolves in
          let is_step =
          leaves start words after views kept id v at live (ap is_lacking cleared) only kept.maps no_region 0 act
          (v.known ++ pair ∷ [])
          None
          (record {
            event = event;
            apart = λ i u other is alive. no_region_apart (owned u.doing);
            owns = inr refl;
            names = λ a m is. inl is;
            more = snoc_old v.known pair;
            named = λ a m has. elim (snoc_new v.known pair a m has) [
              | inl before ↦ stood.known a m before
              | inr this ↦ subst (λ (x : Pair). kept.maps.address x.address ≡ Some x.object) this named
            ];
            fresh = λ a m has. elim (snoc_new v.known pair a m has) [
              | inl before ↦ still a (m, stood.known a m before) (stood.fresh a m before)
              | inr this ↦ subst (λ (x : Pair). IsFresh new x.address) this (still target (n, named) knows.2)
            ];
            knows = tt;
            bits = keeps_bits start words after views kept id v at live act (v.known ++ pair ∷ []) None (inl refl)
                (inr (reads after slot_ is_slot (Object n)))
                (λ m gives.
                let same_act : Read slot_ (Object n) ≡ gives.0 = same_Some (Read slot_ (Object n)) gives.0 gives.1 in
                let e : Object n ≡ Object m =
                same_Some (Object n) (Object m) (ap (given kept.history) same_act ∙ gives.2) in
                let one : n ≡ m = cc in
                (target, subst (λ (k : ℕ). Has (v.known ++ pair ∷ []) target k) one (snoc_here v.known pair)));
          }) in (
            is_step.0,
            record {
              value = Object n;
              adds = adds start words after views kept id v at live w is_step.0 (Read slot_ (Object n)) is_step.1;
              names = inr (n, refl, snoc_here v.known pair);
              more = snoc_old v.known pair;
              is = refl;
            },
          )

-- a compare-exchange by whether it won
pub either_yes : (x a b : ℕ) → x ≡ a → either (x == a) b x ≡ b
either_yes x a b e = rw (eq-eqb x a e) refl

pub either_no : (x a b : ℕ) → x ≢ a → either (x == a) b x ≡ x
either_no x a b differ = rw (ne_eqb x a differ) refl

-- the exchange at a place
module _ (start : Start) (words : List ℕ) (views : List View) (kept : Kept start words views) (id : ℕ) (v : View)
    (at : get_elem? views id ≡ some v) (live : 0 < v.parts) (place : Place) (found : Ref) (target : ℕ)
    (cleared : v.doing ≡ Some (Cleared place found target)) (slot_ : Slot)
    (is_slot : SlotAt kept.maps place slot_) where
  abbrev now : State
  now = shows start.began words

  exchanges : (i before_ after_ : ℕ) → before_ ≡ ref_word found → IsReferenceWord kept.maps now (word_in now place)
      → get_or words i 0 ≡ word_in now place → OnlyObjects start words (set words i after_)
      → PlaceChanges now (shows start.began (set words i after_)) place (ref_word (Clean target))
      → (w : View) × IsStep start words (set words i (either (get_or words i 0 == before_) after_ (get_or words i 0)))
      views kept id v at live w × Untags v w slot_ found target (get_or words i 0)
  exchanges i before_ after_ from reference word only changes =
      let x : ℕ = get_or words i 0 in
      let known_ = knows start words views kept id v at live place found target cleared in
      elim (eqb_tells x before_) [
        | inl won_ ↦
            let n : ℕ = known_.1.named.0 in
            let r = wins start words views kept id v at live place found target cleared (set words i after_) only n
            known_.1.named.1
            slot_
            is_slot
            (sym word ∙ (won_.1 ∙ from))
            changes in
            let w : View = won start words views kept id v at live place found target cleared
            (set words i after_) only n
            known_.1.named.1
            slot_ in (
              w,
              subst (λ (z : ℕ). IsStep start words (set words i z) views kept id v at live w)
                  (sym (either_yes x before_ after_ won_.1)) r.0,
              record {
                answer = target;
                exchanged = record {
                  won = λ is. refl;
                  lost = λ differ. absurd (differ (won_.1 ∙ from));
                  reads = r.1;
                };
              },
            )
        | inr lost_ ↦
            let r = loses start words views kept id v at live place found target cleared slot_ is_slot reference
            (λ same. lost_.1 (word ∙ (same ∙ sym from))) in (
              r.0,
              subst (λ (z : ℕ). IsStep start words (set words i z) views kept id v at live r.0)
                  (sym (either_no x before_ after_ lost_.1))
                  (loaded kept i r.1),
              record {
                answer = r.2.0;
                exchanged = record {
                  won = λ is. absurd (lost_.1 (is ∙ sym from));
                  lost = λ differ. word ∙ r.2.1;
                  reads = r.2.2;
                };
              },
            )
      ]

pub untags_at : {start : Start} {slots : ℕ} (id : ℕ) {i a n k target before_ after_ : ℕ} {found : Ref} {me : Me ℕ View}
    → 0 < me.0.parts → Has me.0.known a n → me.0.doing ≡ Some (Cleared (Field a k) found target)
    → i ≡ word_place me.0.began (a + 2 + k) → before_ ≡ ref_word found → after_ ≡ ref_word (Clean target)
    → Allows (Rule start) slots id me i (λ x. either (x == before_) after_ x)
    (UntagPlay (step slots i before_ after_ none) me)
untags_at {start} {slots} id {i} {a} {n} {k} {target} {before_} {after_} {found} {me} live has cleared place from
    to =
    allowed slots id i me (λ x. either (x == before_) after_ x) (UntagPlay (step slots i before_ after_ none) me) live
    (λ words views kept at alive small.
    let stood_ = kept.seats id me.0 at alive in
    let s : State = shows start.began words in
    let known_ = knows start words views kept id me.0 at alive (Field a k) found target cleared in
    let object = known_.0.at.1 in
    let shape_ : Shape = known_.0.at.0 in
    let below : k < shape_.refs = known_.0.at.2 in
    let named : kept.maps.address a ≡ Some n = stood_.known a n has in
    let refs : object.header.shape.refs ≡ shape_.refs = ap (λ (y : Shape). y.refs) object.shape_is in
    let fits : a + 2 + k ≤ start.began.size =
    subst (λ (b : Began). a + 2 + k ≤ b.size) stood_.began
    (subst (FitsIn me.0.began) cleared (within start words views kept id me.0 at alive).doing).3 in
    let place : i ≡ word_place start.began (a + 2 + k) =
    place ∙ ap (λ (b : Began). word_place b (a + 2 + k)) stood_.began in
    let in_words : word_place start.began (a + 2 + k) < length words = let size = kept.size in omega arith in
    let after : List ℕ = set words i after_ in
    let r = exchanges start words views kept id me.0 at alive (Field a k) found target cleared (slot.Field n k)
    (n, named, refl) i before_ after_ from
    (kept.holds.formed.slots a n k object.header named object.starts (omega arith))
    (ap (λ (p : ℕ). get_or words p 0) place ∙ sym (word_is start.began words (a + 2 + k) (omega arith)))
    (subst (λ (p : ℕ). OnlyObjects start words (set words p after_)) (sym place)
    (only_space start words (a + 2 + k) after_ (omega arith) in_words))
    (subst (λ (z : ℕ). WordChanges s (shows start.began after) (a + 2 + k) z) to
    (subst (λ (p : ℕ). WordChanges s (shows start.began (set words p after_)) (a + 2 + k) after_) (sym place)
    (word_changes start.began words (a + 2 + k) after_ (omega arith) in_words))) in (
      r.0,
      r.1,
      λ inside. (
        (refl, inside),
        λ b m j t g also other_has there.
            let both : Some (Cleared (Field a k) found target) ≡ Some (Cleared (Field b j) g t) = sym cleared ∙ also in
            let at_a : a ≡ b = cc in
            let is_k : k ≡ j = cc in
            let is_g : found ≡ g = cc in
            let is_t : target ≡ t = cc in
            let is_n : n ≡ m = one_object kept id me.0 at alive b n m (subst (λ (y : ℕ). Has me.0.known y n) at_a has)
            other_has in
            let U : ℕ → ℕ → Ref → ℕ → Type 0 = λ p q f u. Untags me.0 r.0 (slot.Field p q) f u (get_or words i 0) in
            subst (λ (p : ℕ). U p j g t) is_n
            (subst (λ (q : ℕ). U n q g t) is_k
            (subst (λ (f : Ref). U n k f t) is_g (subst (λ (u : ℕ). U n k found u) is_t r.2))),
      ),
    ))

pub global_untags : {start : Start} {slots : ℕ} (id : ℕ) {g target before_ after_ : ℕ} {found : Ref} {me : Me ℕ View}
    → 0 < me.0.parts → me.0.doing ≡ Some (Cleared (Global g) found target) → before_ ≡ ref_word found
    → after_ ≡ ref_word (Clean target)
    → Allows (Rule start) slots id me (global_place g) (λ x. either (x == before_) after_ x)
    (GlobalUntagPlay (step slots (global_place g) before_ after_ none) me)
global_untags {start} {slots} id {g} {target} {before_} {after_} {found} {me} live cleared from to =
    allowed slots id (global_place g) me (λ x. either (x == before_) after_ x)
    (GlobalUntagPlay (step slots (global_place g) before_ after_ none) me) live (λ words views kept at alive small.
    let s : State = shows start.began words in
    let known_ = knows start words views kept id me.0 at alive (Global g) found target cleared in
    let below : g < start.began.globals = known_.0.at in
    let in_words : global_place g < length words = let size = kept.size in omega arith in
    let after : List ℕ = set words (global_place g) after_ in
    let changes = global_changes start.began words g after_ below in_words in
    let r = exchanges start words views kept id me.0 at alive (Global g) found target cleared (slot.Global g) refl
    (global_place g)
    before_ after_ from
    (kept.holds.formed.globals g below)
    (sym (global_is start.began words g below))
    (only_global start words g after_ below in_words)
    (subst (λ (z : ℕ). GlobalChanges s (shows start.began after) g z) to changes) in (
      r.0,
      r.1,
      λ inside. (
        (refl, inside),
        λ h t f also there.
            let both : Some (Cleared (Global g) found target) ≡ Some (Cleared (Global h) f t) = sym cleared ∙ also in
            let is_g : g ≡ h = cc in
            let is_f : found ≡ f = cc in
            let is_t : target ≡ t = cc in
            let U : ℕ → Ref → ℕ → Type 0 =
            λ p q u. Untags me.0 r.0 (slot.Global p) q u (get_or words (global_place g) 0) in
            subst (λ (p : ℕ). U p f t) is_g
            (subst (λ (q : Ref). U g q t) is_f (subst (λ (u : ℕ). U g found u) is_t r.2)),
      ),
    ))
