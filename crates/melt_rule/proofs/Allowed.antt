-- Each kind of step keeps the rule, and tells what it tells.
use Rattle.std.proofs.Common.{◌≡◌, ℕ, ◌+◌, ◌*◌, ◌<◌, ◌≤◌, Bool, true, false, List, length, get_or, refl, sym, ◌∙◌, ap}
use Rattle.std.proofs.Common.{subst}
use Rattle.std.proofs.Common.{arith, inl, inr}
use Rattle.std.proofs.Math.ListN.{set}
use Rattle.std.proofs.lemmas.List.{set-get_or}
use Rattle.std.specs.Prelude.{None, Some}
use lib.ListN.{get_elem?}
use mathlib.Core.Option.{some, none}
use Rattle.atomic_table.specs.Table.{Me, Allows, step}
use Rattle.melt_model.specs.declared.history.Act.TheVariants.{Read, Write}
use Rattle.melt_model.specs.declared.history.Slot.{Slot}
use Rattle.melt_model.specs.declared.history.Slot.TheVariants as slot
use Rattle.melt_model.specs.declared.history.Value.{Value}
use Rattle.melt_model.specs.declared.history.Value.TheVariants.{Ref, Num}
use Rattle.melt_word.specs.Words.{header_word, cost_of}
use Rattle.melt_word.specs.declared.header.Header.{Header}
use Rattle.melt_word.specs.declared.header.Shape.{Shape}
use Rattle.melt_scion.specs.Changes.{WordChanges, GlobalChanges}
use Rattle.melt_scion.specs.Placed.{IsReferenceWord}
use Rattle.melt_scion.specs.State.{State}
use Rattle.melt_core.specs.Events.{IsNumberWord, number_place}
use Rattle.melt_core.specs.Known.{IsObjectAt, IsPlace, SlotAt, word_in}
use Rattle.melt_core.specs.declared.call.Place.{Place}
use Rattle.melt_core.specs.declared.call.Place.TheVariants.{Field, Global}
use Rattle.melt_rule.proofs.Keeping.{IsStep}
use Rattle.melt_rule.proofs.Loads.{read, reaches, stops, looks, may_answer, numbers}
use Rattle.melt_rule.proofs.Showing.{word_is, global_is, word_changes, global_changes}
use Rattle.melt_rule.proofs.Leaving.{OnlyObjects, only_global, only_space}
use Rattle.melt_rule.proofs.Stores.{wrote, stores, puts}
use Rattle.melt_rule.proofs.Within.{allowed, within, headed_fits}
use Rattle.melt_rule.specs.Plays.{PollPlay, HeadPlay, LookPlay, GlobalLookPlay, NumberPlay, StorePlay, GlobalStorePlay}
use Rattle.melt_rule.specs.Plays.{NumberStorePlay, FindsHeader, FindsReference}
use Rattle.melt_rule.specs.Rule.{Has, Kept, Rule, has_cause, is_lacking, is_reading}
use Rattle.melt_rule.specs.Shown.{shows, global_place, word_place, Knows}
use Rattle.melt_rule.specs.Tells.{FitsIn, view_after, Names, Ends}
use Rattle.melt_rule.specs.declared.began.Began.{Began}
use Rattle.melt_rule.specs.declared.began.Start.{Start}
use Rattle.melt_rule.specs.declared.view.Doing.TheVariants.{Polled, Headed}
use Rattle.melt_rule.specs.declared.view.View.{View}

-- a load puts back what it found
pub loaded : {start : Start} {words : List ℕ} {views : List View} (kept : Kept start words views) {id : ℕ} {v : View}
    {at : get_elem? views id ≡ some v} {live : 0 < v.parts} {w : View} (i : ℕ)
    → IsStep start words words views kept id v at live w
    → IsStep start words (set words i (get_or words i 0)) views kept id v at live w
loaded {start} {words} {views} kept {id} {v} {at} {live} {w} i s =
    subst (λ (after : List ℕ). IsStep start words after views kept id v at live w) (sym (set-get_or words i 0)) s

-- where the stop word is not set, a seat that goes on has no cause to stop
no_cause : (start : Start) (words : List ℕ) (views : List View) (kept : Kept start words views) (id : ℕ) (v : View)
    → get_elem? views id ≡ some v → is_lacking v.doing ≡ false → get_or words 0 0 ≡ 0 → has_cause v ≡ false
no_cause start words views kept id v at goes_on off = go (has_cause v) refl
  where
    go : (b : Bool) → has_cause v ≡ b → b ≡ false
    go false is = refl
    go true is = let on = kept.stop.sets id v at is goes_on in absurd (let e : 0 ≡ 1 = sym off ∙ on in omega arith)

pub polls : {start : Start} {slots : ℕ} (id : ℕ) {me : Me ℕ View} → 0 < me.0.parts → is_lacking me.0.doing ≡ false
    → is_reading me.0.doing ≡ false → Allows (Rule start) slots id me 0 (λ n. n) (PollPlay (step slots 0 0 0 none) me)
polls {start} {slots} id {me} live goes_on left =
    allowed slots id 0 me (λ n. n) (PollPlay (step slots 0 0 0 none) me) live
    (λ words views kept at alive small. elim kept.stop.bit [
      | inl zero ↦
          let r = reaches start words views kept id me.0 at alive goes_on (Some Polled) tt refl (inl refl) left in
          let w : View = view_after me.0 kept.history me.0.known (Some Polled) in (
            w,
            loaded kept 0 r.0,
            λ inside. ((refl, inside), inl (zero, (r.1, no_cause start words views kept id me.0 at goes_on zero))),
          )
      | inr one ↦
          let r = stops start words views kept id me.0 at alive goes_on one left in
          let w : View = record (view_after me.0 kept.history me.0.known None) { stopped = true } in (
            w,
            loaded kept 0 r.0,
            λ inside. ((refl, inside), inr (one, r.1)),
          )
    ])

-- a seat knows one object at an address
pub one_object : {start : Start} {words : List ℕ} {views : List View} (kept : Kept start words views) (id : ℕ)
    (v : View) → get_elem? views id ≡ some v → 0 < v.parts → (a n m : ℕ) → Has v.known a n → Has v.known a m → n ≡ m
one_object kept id v at live a n m x y =
    let stood = kept.seats id v at live in
    let e : Some n ≡ Some m = sym (stood.known a n x) ∙ stood.known a m y in
    cc

pub heads : {start : Start} {slots : ℕ} (id : ℕ) {i a n : ℕ} {me : Me ℕ View} → 0 < me.0.parts
    → me.0.doing ≡ Some Polled → Has me.0.known a n → i ≡ word_place me.0.began a
    → Allows (Rule start) slots id me i (λ n. n) (HeadPlay (step slots i 0 0 none) me)
heads {start} {slots} id {i} {a} {n} {me} live polled has at_i =
    allowed slots id i me (λ n. n) (HeadPlay (step slots i 0 0 none) me) live (λ words views kept at alive small.
    let stood = kept.seats id me.0 at alive in
    let now : State = shows start.began words in
    let named : kept.maps.address a ≡ Some n = stood.known a n has in
    let object = kept.holds.formed.objects a n named in
    let header : Header = object.0 in
    let found : ℕ = get_or words i 0 in
    let there : IsObjectAt kept.maps now a header.shape =
    record { number = n; named = named; header = header; starts = object.1.starts; shape_is = refl } in
    let r = reaches start words views kept id me.0 at alive (ap is_lacking polled) (Some (Headed a header.shape))
    there refl (inl refl) (ap is_reading polled) in
    let w : View = view_after me.0 kept.history me.0.known (Some (Headed a header.shape)) in
    let word : found ≡ header_word header =
    ap (λ (k : ℕ). get_or words k 0) at_i
    ∙ (ap (λ (b : Began). get_or words (word_place b a) 0) stood.began
    ∙ (sym (word_is start.began words a object.1.first) ∙ object.1.starts.word)) in
    let finds : FindsHeader me.0 w a n found = record {
      header = header;
      in_range = object.1.starts.in_range;
      is = word;
      heads = record {
        reaches = r.1;
        shaped = λ told.
            (kept.holds.tells (sym (ap (λ (b : Began). b.told) stood.began) ∙ told)).shapes a n header named
            object.1.starts;
      };
    } in (
      w,
      loaded kept i r.0,
      λ inside. (
        (refl, inside),
        λ b m other place.
            let at_a : a ≡ b = omega arith in
            let is_n : n ≡ m = one_object kept id me.0 at alive b n m (subst (λ (x : ℕ). Has me.0.known x n) at_a has)
            other in
            subst (λ (x : ℕ). FindsHeader me.0 w x m found) at_a
            (subst (λ (x : ℕ). FindsHeader me.0 w a x found) is_n finds),
      ),
    ))

-- the object of which the call speaks is there, as the seat knows
module _ (start : Start) (words : List ℕ) (views : List View) (kept : Kept start words views) (id : ℕ) (v : View)
    (at : get_elem? views id ≡ some v) (live : 0 < v.parts) where
  abbrev now : State
  now = shows start.began words

  spoken : (a : ℕ) (z : Shape) → v.doing ≡ Some (Headed a z) → IsObjectAt kept.maps now a z
  spoken a z is = subst (Knows start.began.told kept.maps now v.rest) is (kept.seats id v at live).doing

  -- the reference in its slot
  slot_word : (a n i : ℕ) (z : Shape) → v.doing ≡ Some (Headed a z) → Has v.known a n → i < z.refs
      → IsPlace kept.maps now (Field a i) × SlotAt kept.maps (Field a i) (slot.Field n i)
      × IsReferenceWord kept.maps now (word_in now (Field a i))
  slot_word a n i z is has below =
      let o = spoken a z is in
      let named : kept.maps.address a ≡ Some n = (kept.seats id v at live).known a n has in
      let refs : o.header.shape.refs ≡ z.refs = ap (λ (y : Shape). y.refs) o.shape_is in (
        (z, o, below),
        (n, named, refl),
        kept.holds.formed.slots a n i o.header named o.starts (omega arith),
      )

  -- the step after a look at a place
  look_step : is_lacking v.doing ≡ false → is_reading v.doing ≡ false → (i : ℕ) (place : Place) (at_slot : Slot)
      → IsPlace kept.maps now place → SlotAt kept.maps place at_slot
      → IsReferenceWord kept.maps now (word_in now place) → get_or words i 0 ≡ word_in now place
      → (w : View) × IsStep start words (set words i (get_or words i 0)) views kept id v at live w
      × FindsReference v w at_slot place (get_or words i 0)
  look_step goes_on left i place at_slot there is_slot reference word =
      let r = looks start words views kept id v at live goes_on place at_slot reference.reference there is_slot
      reference.in_range reference.is reference.stands
      (may_answer start words views kept id v at live goes_on at_slot reference.reference left) in (
        r.0,
        loaded kept i r.1,
        record {
          reference = reference.reference;
          in_range = reference.in_range;
          is = word ∙ reference.is;
          looks = r.2;
        },
      )

pub looks_at : {start : Start} {slots : ℕ} (id : ℕ) {at_i a n i : ℕ} {z : Shape} {me : Me ℕ View} → 0 < me.0.parts
    → Has me.0.known a n → me.0.doing ≡ Some (Headed a z) → i < z.refs → at_i ≡ word_place me.0.began (a + 2 + i)
    → Allows (Rule start) slots id me at_i (λ n. n) (LookPlay (step slots at_i 0 0 none) me)
looks_at {start} {slots} id {at_i} {a} {n} {i} {z} {me} live has headed below place_is =
    allowed slots id at_i me (λ n. n) (LookPlay (step slots at_i 0 0 none) me) live (λ words views kept at alive small.
    let stood = kept.seats id me.0 at alive in
    let now : State = shows start.began words in
    let s = slot_word start words views kept id me.0 at alive a n i z headed has below in
    let word : get_or words at_i 0 ≡ now.word (a + 2 + i) =
    ap (λ (k : ℕ). get_or words k 0) place_is
    ∙ (ap (λ (b : Began). get_or words (word_place b (a + 2 + i)) 0) stood.began
    ∙ sym (word_is start.began words (a + 2 + i) (omega arith))) in
    let r = look_step start words views kept id me.0 at alive (ap is_lacking headed) (ap is_reading headed) at_i
    (Field a i) (slot.Field n i) s.0 s.1 s.2 word in (
      r.0,
      r.1,
      λ inside. (
        (refl, inside),
        λ b m j y headed_b other below_j place.
            let both : Some (Headed a z) ≡ Some (Headed b y) = sym headed ∙ headed_b in
            let at_a : a ≡ b = cc in
            let is_j : i ≡ j = omega arith in
            let is_n : n ≡ m = one_object kept id me.0 at alive b n m (subst (λ (x : ℕ). Has me.0.known x n) at_a has)
            other in
            let F : ℕ → ℕ → ℕ → Type 0 =
            λ x y k. FindsReference me.0 r.0 (slot.Field y k) (Field x k) (get_or words at_i 0) in
            subst (λ (x : ℕ). F x m j) at_a (subst (λ (x : ℕ). F a x j) is_n (subst (λ (x : ℕ). F a n x) is_j r.2)),
      ),
    ))

pub global_looks : {start : Start} {slots : ℕ} (id : ℕ) {g : ℕ} {me : Me ℕ View} → 0 < me.0.parts
    → me.0.doing ≡ Some Polled → g < me.0.began.globals
    → Allows (Rule start) slots id me (global_place g) (λ n. n)
    (GlobalLookPlay (step slots (global_place g) 0 0 none) me)
global_looks {start} {slots} id {g} {me} live polled below =
    allowed slots id (global_place g) me (λ n. n) (GlobalLookPlay (step slots (global_place g) 0 0 none) me) live
    (λ words views kept at alive small.
    let stood = kept.seats id me.0 at alive in
    let here : g < start.began.globals = subst (λ (b : Began). g < b.globals) stood.began below in
    let r = look_step start words views kept id me.0 at alive (ap is_lacking polled) (ap is_reading polled)
    (global_place g) (Global g) (slot.Global g) here refl
    (kept.holds.formed.globals g here)
    (sym (global_is start.began words g here)) in (
      r.0,
      r.1,
      λ inside. (
        (refl, inside),
        λ h under place.
            let same : g ≡ h = omega arith in
            subst (λ (x : ℕ). FindsReference me.0 r.0 (slot.Global x) (Global x) (get_or words (global_place g) 0)) same
            r.2,
      ),
    ))

-- the word of the space after a place of it
module _ (start : Start) (words : List ℕ) (views : List View) (kept : Kept start words views) (id : ℕ) (v : View)
    (at : get_elem? views id ≡ some v) (live : 0 < v.parts) where
  space_word : (i address : ℕ) → 1 ≤ address → i ≡ word_place v.began address
      → get_or words i 0 ≡ (shows start.began words).word address
  space_word i address first place =
      ap (λ (k : ℕ). get_or words k 0) place
      ∙ (ap (λ (b : Began). get_or words (word_place b address) 0) (kept.seats id v at live).began
      ∙ sym (word_is start.began words address first))

  number_word : (a n j : ℕ) (z : Shape) → v.doing ≡ Some (Headed a z) → Has v.known a n → j < z.nums
      → IsNumberWord kept.maps (shows start.began words) a z n j
  number_word a n j z is has below = record {
    object_is = spoken start words views kept id v at live a z is;
    below = below;
    named = (kept.seats id v at live).known a n has;
  }

pub numbers_at : {start : Start} {slots : ℕ} (id : ℕ) {i a n j : ℕ} {z : Shape} {me : Me ℕ View} → 0 < me.0.parts
    → Has me.0.known a n → me.0.doing ≡ Some (Headed a z) → j < z.nums
    → i ≡ word_place me.0.began (number_place a z j)
    → Allows (Rule start) slots id me i (λ n. n) (NumberPlay (step slots i 0 0 none) me)
numbers_at {start} {slots} id {i} {a} {n} {j} {z} {me} live has headed below place_is =
    allowed slots id i me (λ n. n) (NumberPlay (step slots i 0 0 none) me) live (λ words views kept at alive small.
    let now : State = shows start.began words in
    let object = number_word start words views kept id me.0 at alive a n j z headed has below in
    let r = numbers start words views kept id me.0 at alive (ap is_lacking headed) a n j z object
    (ap is_reading headed) in
    let word : now.word (number_place a z j) ≡ get_or words i 0 =
    sym (space_word start words views kept id me.0 at alive i (number_place a z j) (omega arith) place_is) in
    let w : View = read start words views kept id me.0 at alive (ap is_lacking headed) (slot.Cell n j)
    (Num (get_or words i 0)) me.0.known in
    let both : IsStep start words words views kept id me.0 at alive w × Ends me.0 w (Read (slot.Cell n j) (Num
    (get_or words i 0))) =
    subst (λ (x : ℕ).
    let u : View = read start words views kept id me.0 at alive (ap is_lacking headed) (slot.Cell n j)
    (Num x) me.0.known in
    IsStep start words words views kept id me.0 at alive u × Ends me.0 u (Read (slot.Cell n j) (Num x))) word r in (
      w,
      loaded kept i both.0,
      λ inside. (
        (refl, inside),
        λ b m k y headed_b other below_k place.
            let same : Some (Headed a z) ≡ Some (Headed b y) = sym headed ∙ headed_b in
            let at_a : a ≡ b = cc in
            let is_z : z ≡ y = cc in
            let is_k : j ≡ k = let refs : z.refs ≡ y.refs = ap (λ (x : Shape). x.refs) is_z in omega arith in
            let is_n : n ≡ m = one_object kept id me.0 at alive b n m (subst (λ (x : ℕ). Has me.0.known x n) at_a has)
            other in
            let F : ℕ → ℕ → Type 0 = λ x l. Ends me.0 w (Read (slot.Cell x l) (Num (get_or words i 0))) in
            subst (λ (x : ℕ). F x k) is_n (subst (λ (l : ℕ). F n l) is_k both.1),
      ),
    ))

-- a value that the address in a register stands for is one
one_value : {start : Start} {words : List ℕ} {views : List View} (kept : Kept start words views) (id : ℕ) (v : View)
    (at : get_elem? views id ≡ some v) (live : 0 < v.parts) (held : ℕ) {x y : Value} → Names v.known held x
    → Names v.known held y → x ≡ y
one_value {start} {words} {views} kept id v at live held (inl a) (inl b) = a.1 ∙ sym b.1
one_value {start} {words} {views} kept id v at live held (inl a) (inr b) =
    let some_ = (within start words views kept id v at live).known held b.0 b.2 in
    absurd (let zero_ : held ≡ 0 = a.0 in let first : 1 ≤ held = some_.0 in omega arith)
one_value {start} {words} {views} kept id v at live held (inr a) (inl b) =
    let some_ = (within start words views kept id v at live).known held a.0 a.2 in
    absurd (let zero_ : held ≡ 0 = b.0 in let first : 1 ≤ held = some_.0 in omega arith)
one_value {start} {words} {views} kept id v at live held (inr a) (inr b) =
    a.1 ∙ (ap Ref (one_object kept id v at live held a.0 b.0 a.2 b.2) ∙ sym b.1)

-- the table has the word of an address of the space
in_table : (start : Start) (words : List ℕ) (views : List View) (kept : Kept start words views) (address : ℕ)
    → address ≤ start.began.size → word_place start.began address < length words
in_table start words views kept address below = let size = kept.size in omega arith

pub stores_at : {start : Start} {slots : ℕ} (id : ℕ) {i a n k held x : ℕ} {z : Shape} {value : Value} {me : Me ℕ View}
    → 0 < me.0.parts → Has me.0.known a n → me.0.doing ≡ Some (Headed a z) → k < z.refs
    → i ≡ word_place me.0.began (a + 2 + k) → Names me.0.known held value → x ≡ 4 * held
    → Allows (Rule start) slots id me i (λ _. x) (λ found. StorePlay (step slots i x 0 none) me x)
stores_at {start} {slots} id {i} {a} {n} {k} {held} {x} {z} {value} {me} live has headed below place_is names word =
    allowed slots id i me (λ _. x) (λ found. StorePlay (step slots i x 0 none) me x) live
    (λ words views kept at alive small.
    let stood = kept.seats id me.0 at alive in
    let now : State = shows start.began words in
    let s = slot_word start words views kept id me.0 at alive a n k z headed has below in
    let there = spoken start words views kept id me.0 at alive a z headed in
    let inside = (within start words views kept id me.0 at alive).doing in
    let fits : a + cost_of z ≤ start.began.size + 1 =
    headed_fits start.began me.0.doing a z headed
    (subst (λ (b : Began). FitsIn b me.0.doing) stood.began inside) in
    let place : i ≡ word_place start.began (a + 2 + k) =
    place_is ∙ ap (λ (b : Began). word_place b (a + 2 + k)) stood.began in
    let in_words : word_place start.began (a + 2 + k) < length words =
    in_table start words views kept (a + 2 + k) (omega arith) in
    let only : OnlyObjects start words (set words i x) = subst (λ (p : ℕ). OnlyObjects start words (set words p x))
    (sym place)
    (only_space start words (a + 2 + k) x (omega arith) in_words) in
    let changes : WordChanges now (shows start.began (set words i x)) (a + 2 + k) (4 * held) =
    subst (λ (y : ℕ). WordChanges now (shows start.began (set words i x)) (a + 2 + k) y) word
    (subst (λ (p : ℕ). WordChanges now (shows start.began (set words p x)) (a + 2 + k) x) (sym place)
    (word_changes start.began words (a + 2 + k) x (omega arith) in_words)) in
    let r = stores start words (set words i x) views kept id me.0 at alive (ap is_lacking headed) only (Field a k)
    (slot.Field n k) held value
    s.0 s.1 names changes (ap is_reading headed) in
    let w : View = wrote start words (set words i x) views kept id me.0 at alive (ap is_lacking headed) only
    (Write (slot.Field n k) value) in (
      w,
      r.0,
      λ within_. (
        (refl, within_),
        λ b m j g y other headed_b has_b below_j place_j stored names_g.
            let same : Some (Headed a z) ≡ Some (Headed b y) = sym headed ∙ headed_b in
            let at_a : a ≡ b = cc in
            let is_k : k ≡ j = omega arith in
            let is_held : held ≡ g = omega arith in
            let is_n : n ≡ m = one_object kept id me.0 at alive b n m (subst (λ (p : ℕ). Has me.0.known p n) at_a has)
            has_b in
            let is_value : value ≡ other = one_value kept id me.0 at alive g
            (subst (λ (p : ℕ). Names me.0.known p value) is_held names) names_g in
            let F : ℕ → ℕ → Value → Type 0 = λ p l u. Ends me.0 w (Write (slot.Field p l) u) in
            subst (λ (p : ℕ). F p j other) is_n
            (subst (λ (l : ℕ). F n l other) is_k (subst (λ (u : Value). F n k u) is_value r.1)),
      ),
    ))

pub global_stores : {start : Start} {slots : ℕ} (id : ℕ) {g held x : ℕ} {value : Value} {me : Me ℕ View}
    → 0 < me.0.parts → me.0.doing ≡ Some Polled → g < me.0.began.globals → Names me.0.known held value → x ≡ 4 * held
    → Allows (Rule start) slots id me (global_place g) (λ _. x)
    (λ found. GlobalStorePlay (step slots (global_place g) x 0 none) me x)
global_stores {start} {slots} id {g} {held} {x} {value} {me} live polled below names word =
    allowed slots id (global_place g) me (λ _. x) (λ found. GlobalStorePlay (step slots (global_place g) x 0 none) me x)
    live (λ words views kept at alive small.
    let stood = kept.seats id me.0 at alive in
    let now : State = shows start.began words in
    let here : g < start.began.globals = subst (λ (b : Began). g < b.globals) stood.began below in
    let in_words : global_place g < length words = let size = kept.size in omega arith in
    let changes = global_changes start.began words g x here in_words in
    let only : OnlyObjects start words (set words (global_place g) x) = only_global start words g x here in_words in
    let r = stores start words (set words (global_place g) x) views kept id me.0 at alive (ap is_lacking polled) only
    (Global g) (slot.Global g) held value here refl names
    (subst (λ (y : ℕ). GlobalChanges now (shows start.began (set words (global_place g) x)) g y) word changes)
    (ap is_reading polled) in
    let w : View = wrote start words (set words (global_place g) x) views kept id me.0 at alive (ap is_lacking polled)
    only (Write (slot.Global g) value) in (
      w,
      r.0,
      λ within_. (
        (refl, within_),
        λ h f other below_h place stored names_f.
            let is_g : g ≡ h = omega arith in
            let is_held : held ≡ f = omega arith in
            let is_value : value ≡ other = one_value kept id me.0 at alive f
            (subst (λ (p : ℕ). Names me.0.known p value) is_held names) names_f in
            let F : ℕ → Value → Type 0 = λ p u. Ends me.0 w (Write (slot.Global p) u) in
            subst (λ (p : ℕ). F p other) is_g (subst (λ (u : Value). F g u) is_value r.1),
      ),
    ))

pub number_stores : {start : Start} {slots : ℕ} (id : ℕ) {i a n j x : ℕ} {z : Shape} {me : Me ℕ View} → 0 < me.0.parts
    → Has me.0.known a n → me.0.doing ≡ Some (Headed a z) → j < z.nums
    → i ≡ word_place me.0.began (number_place a z j)
    → Allows (Rule start) slots id me i (λ _. x) (λ found. NumberStorePlay (step slots i x 0 none) me x)
number_stores {start} {slots} id {i} {a} {n} {j} {x} {z} {me} live has headed below place_is =
    allowed slots id i me (λ _. x) (λ found. NumberStorePlay (step slots i x 0 none) me x) live
    (λ words views kept at alive small.
    let stood = kept.seats id me.0 at alive in
    let now : State = shows start.began words in
    let object = number_word start words views kept id me.0 at alive a n j z headed has below in
    let inside = (within start words views kept id me.0 at alive).doing in
    let fits : a + cost_of z ≤ start.began.size + 1 =
    headed_fits start.began me.0.doing a z headed
    (subst (λ (b : Began). FitsIn b me.0.doing) stood.began inside) in
    let at_word : ℕ = number_place a z j in
    let place : i ≡ word_place start.began at_word = place_is ∙ ap (λ (b : Began). word_place b at_word) stood.began in
    let in_words : word_place start.began at_word < length words =
    in_table start words views kept at_word (omega arith) in
    let only : OnlyObjects start words (set words i x) = subst (λ (p : ℕ). OnlyObjects start words (set words p x))
    (sym place)
    (only_space start words at_word x (omega arith) in_words) in
    let changes : WordChanges now (shows start.began (set words i x)) at_word x =
    subst (λ (p : ℕ). WordChanges now (shows start.began (set words p x)) at_word x) (sym place)
    (word_changes start.began words at_word x (omega arith) in_words) in
    let r = puts start words (set words i x) views kept id me.0 at alive (ap is_lacking headed) only a n j x z object
    changes
    (ap is_reading headed) in
    let w : View = wrote start words (set words i x) views kept id me.0 at alive (ap is_lacking headed) only
    (Write (slot.Cell n j) (Num x)) in (
      w,
      r.0,
      λ within_. (
        (refl, within_),
        λ b m k y headed_b has_b below_k place_k.
            let same : Some (Headed a z) ≡ Some (Headed b y) = sym headed ∙ headed_b in
            let at_a : a ≡ b = cc in
            let is_z : z ≡ y = cc in
            let is_k : j ≡ k = let refs : z.refs ≡ y.refs = ap (λ (s : Shape). s.refs) is_z in omega arith in
            let is_n : n ≡ m = one_object kept id me.0 at alive b n m (subst (λ (p : ℕ). Has me.0.known p n) at_a has)
            has_b in
            let F : ℕ → ℕ → Type 0 = λ p l. Ends me.0 w (Write (slot.Cell p l) (Num x)) in
            subst (λ (p : ℕ). F p k) is_n (subst (λ (l : ℕ). F n l) is_k r.1),
      ),
    ))
