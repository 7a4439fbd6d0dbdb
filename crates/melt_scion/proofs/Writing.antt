-- One slot, one number word or one global is replaced.
use Rattle.std.proofs.Common.{◌≡◌, ◌≢◌, ℕ, ◌+◌, ◌<◌, refl, sym, ◌∙◌, ap, subst, arith, inl, inr, List}
use Rattle.std.proofs.lemmas.Bool.Decides.{eqb_tells}
use Rattle.std.specs.Prelude.{Some, false}
use Rattle.melt_model.specs.History.{last, slot_eq}
use Rattle.melt_model.specs.declared.history.Entry.{Entry}
use Rattle.melt_model.specs.declared.history.Value.{Value}
use Rattle.melt_model.specs.declared.history.Value.TheVariants.{Num}
use Rattle.melt_model.specs.declared.history.Slot.TheVariants.{Field, Cell, Global}
use Rattle.melt_word.specs.declared.header.Header.{Header}
use Rattle.melt_scion.specs.State.{State, HeaderAt}
use Rattle.melt_scion.specs.Placed.{Maps, IsReferenceWord, Stands, FormedWords, Tells}
use Rattle.melt_scion.specs.Changes.{WordChanges, GlobalChanges}
use Rattle.melt_scion.proofs.Geometry.{one_header}
use Rattle.melt_scion.proofs.Parts.{PartAt, slot_part, number_part, same_slot, same_number, slot_or_number}
use Rattle.melt_scion.proofs.Entries.{fields_differ, cells_differ}
use Rattle.melt_scion.proofs.Following.{ValueChanges}
use Rattle.melt_scion.proofs.Frame.{FormedWords_stay, Tells_stay}
use Rattle.melt_scion.proofs.Changing.{keeps_part, keeps_global}

-- what holds of a word that was replaced, or of one that stays
word_or_other : (P : ℕ → Type 0) (s t : State) (x y word : ℕ) → WordChanges s t x word → (y ≡ x → P word) →
    (y ≢ x → P (s.word y)) → P (t.word y)
word_or_other P s t x y word changes here there = elim (eqb_tells y x) [
  | inl same ↦ subst P (sym (ap t.word same.1 ∙ changes.here)) (here same.1)
  | inr other ↦ subst P (sym (changes.others y other.1)) (there other.1)
]

-- and the same of a global
global_or_other : (P : ℕ → Type 0) (s t : State) (g k word : ℕ) → GlobalChanges s t g word → (k ≡ g → P word) →
    (k ≢ g → P (s.global k)) → P (t.global k)
global_or_other P s t g k word changes here there = elim (eqb_tells k g) [
  | inl same ↦ subst P (sym (ap t.global same.1 ∙ changes.here)) (here same.1)
  | inr other ↦ subst P (sym (changes.others k other.1)) (there other.1)
]

-- one is not the number of an object with an address, which the other is
not_nowhere : (maps : Maps) (a n m : ℕ) → maps.address a ≡ Some n → ((b : ℕ) → maps.address b ≢ Some m) → n ≢ m
not_nowhere maps a n m named nowhere = λ same. nowhere a (named ∙ ap Some same)

module _ (maps : Maps) (s t : State) (a n i word : ℕ) (h : Header) (formed : FormedWords maps s)
    (named : maps.address a ≡ Some n)
    (starts : HeaderAt s a h) (within : i < h.shape.refs) (changes : WordChanges s t (a + 2 + i) word) where
  part : PartAt maps s a n (2 + i) (a + 2 + i) h
  part = slot_part maps s a n i h named starts within

  -- a slot is replaced
  pub Formed_slot : IsReferenceWord maps s word → FormedWords maps t
  Formed_slot may = FormedWords_stay maps s t
      (keeps_part maps s t (a + 2 + i) word formed changes a n (2 + i) h part (omega arith)) formed (record {
        slots = λ b m j k named_b at_b below.
            word_or_other (IsReferenceWord maps s) s t (a + 2 + i) (b + 2 + j) word changes (λ same. may)
            (λ other. formed.slots b m j k named_b at_b below);
        globals = λ g below. subst (IsReferenceWord maps s) (sym (changes.global g)) (formed.globals g below);
        forward = changes.forward;
      })

  pub Tells_slot : (before after : List Entry) (v : Value) → ValueChanges before after (Field n i) v →
      Stands maps word v → Tells before maps s → Tells after maps t
  Tells_slot before after v values stands tells =
      Tells_stay maps s t (keeps_part maps s t (a + 2 + i) word formed changes a n (2 + i) h part
      (omega arith)) before after tells values.shapes
      (λ m. record {
        nowhere = λ is. is;
        slots = λ is j. values.others (Field m j) (fields_differ n m i j (λ e f. not_nowhere maps a n m named is e));
        numbers = λ is j. values.others (Cell m j) refl;
      })
      (record {
        slots = λ b m j k named_b at_b below. word_or_other (λ w. Stands maps w (last after (Field m j))) s t
            (a + 2 + i) (b + 2 + j) word changes
            (λ same. let one = same_slot maps s i j formed part (slot_part maps s b m j k named_b at_b below) same in
            subst (Stands maps word)
            (sym (ap (λ (l : ℕ). last after (Field l j)) one.0
            ∙ (ap (λ (l : ℕ). last after (Field n l)) one.1 ∙ values.here))) stands)
            (λ other. subst (Stands maps (s.word (b + 2 + j)))
            (sym (values.others (Field m j) (fields_differ n m i j (λ e f.
            let same : b ≡ a = tells.one_address b a n (named_b ∙ ap Some (sym e)) named in
            other (omega arith))))) (tells.slots b m j k named_b at_b below));
        numbers = λ b m j k named_b at_b below.
            ap Num (changes.others (b + 2 + k.shape.refs + j)
            (slot_or_number maps s i j formed part (number_part maps s b m j k named_b at_b below) within))
            ∙ (tells.numbers b m j k named_b at_b below ∙ sym (values.others (Cell m j) refl));
        globals = λ g below.
            subst (λ w. Stands maps w (last after (Global g))) (sym (changes.global g))
            (subst (Stands maps (s.global g)) (sym (values.others (Global g) refl)) (tells.globals g below));
      })

module _ (maps : Maps) (s t : State) (a n i word : ℕ) (h : Header) (formed : FormedWords maps s)
    (named : maps.address a ≡ Some n)
    (starts : HeaderAt s a h) (within : i < h.shape.nums)
    (changes : WordChanges s t (a + 2 + h.shape.refs + i) word) where
  abbrev x : ℕ
  x = a + 2 + h.shape.refs + i

  part_of : PartAt maps s a n (2 + h.shape.refs + i) x h
  part_of = number_part maps s a n i h named starts within

  slot_stays : (b m j : ℕ) (k : Header) → maps.address b ≡ Some m → HeaderAt s b k → j < k.shape.refs →
      t.word (b + 2 + j) ≡ s.word (b + 2 + j)
  slot_stays b m j k named_b at_b below =
      changes.others (b + 2 + j)
      (λ e. slot_or_number maps s j i formed (slot_part maps s b m j k named_b at_b below) part_of below (sym e))

  -- a number word is replaced
  pub Formed_number : FormedWords maps t
  Formed_number = FormedWords_stay maps s t
      (keeps_part maps s t x word formed changes a n (2 + h.shape.refs + i) h part_of (omega arith)) formed (record {
        slots = λ b m j k named_b at_b below.
            subst (IsReferenceWord maps s) (sym (slot_stays b m j k named_b at_b below))
            (formed.slots b m j k named_b at_b below);
        globals = λ g below. subst (IsReferenceWord maps s) (sym (changes.global g)) (formed.globals g below);
        forward = changes.forward;
      })

  pub Tells_number : (before after : List Entry) → ValueChanges before after (Cell n i) (Num word) →
      Tells before maps s → Tells after maps t
  Tells_number before after values tells =
      Tells_stay maps s t (keeps_part maps s t x word formed changes a n (2 + h.shape.refs + i) h part_of
      (omega arith)) before after tells values.shapes
      (λ m. record {
        nowhere = λ is. is;
        slots = λ is j. values.others (Field m j) refl;
        numbers = λ is j. values.others (Cell m j) (cells_differ n m i j (λ e f. not_nowhere maps a n m named is e));
      })
      (record {
        slots = λ b m j k named_b at_b below.
            subst (λ w. Stands maps w (last after (Field m j))) (sym (slot_stays b m j k named_b at_b below))
            (subst (Stands maps (s.word (b + 2 + j))) (sym (values.others (Field m j) refl))
            (tells.slots b m j k named_b at_b below));
        numbers = λ b m j k named_b at_b below. word_or_other (λ w. Num w ≡ last after (Cell m j)) s t x
            (b + 2 + k.shape.refs + j) word changes
            (λ same. let one = same_number maps s i j formed part_of (number_part maps s b m j k named_b at_b below)
            same in
            sym (ap (λ (l : ℕ). last after (Cell l j)) one.0
            ∙ (ap (λ (l : ℕ). last after (Cell n l)) one.1 ∙ values.here)))
            (λ other. tells.numbers b m j k named_b at_b below
            ∙ sym (values.others (Cell m j) (cells_differ n m i j (λ e f.
            let same : b ≡ a = tells.one_address b a n (named_b ∙ ap Some (sym e)) named in
            let at_a : HeaderAt s a k = subst (λ (c : ℕ). HeaderAt s c k) same at_b in
            let refs : k.shape.refs ≡ h.shape.refs = ap (λ (z : Header). z.shape.refs)
            (one_header s a k h at_a starts) in
            other (omega arith)))));
        globals = λ g below.
            subst (λ w. Stands maps w (last after (Global g))) (sym (changes.global g))
            (subst (Stands maps (s.global g)) (sym (values.others (Global g) refl)) (tells.globals g below));
      })

module _ (maps : Maps) (s t : State) (g word : ℕ) (changes : GlobalChanges s t g word) where
  -- a global is replaced
  pub Formed_global : FormedWords maps s → IsReferenceWord maps s word → FormedWords maps t
  Formed_global formed may = FormedWords_stay maps s t (keeps_global maps s t g word changes) formed (record {
    slots = λ b m j k named at_b below. subst (IsReferenceWord maps s) (sym (changes.word_stays (b + 2 + j)))
        (formed.slots b m j k named at_b below);
    globals = λ l below. global_or_other (IsReferenceWord maps s) s t g l word changes (λ same. may)
        (λ other. formed.globals l below);
    forward = changes.forward;
  })

  globals_differ : (l : ℕ) → l ≢ g → slot_eq (Global g) (Global l) ≡ false
  globals_differ l other = elim (eqb_tells g l) [ inl same ↦ absurd (other (sym same.1)) | inr differ ↦ differ.0 ]

  pub Tells_global : (before after : List Entry) (v : Value) → ValueChanges before after (Global g) v →
      Stands maps word v → Tells before maps s → Tells after maps t
  Tells_global before after v values stands tells =
      Tells_stay maps s t (keeps_global maps s t g word changes) before after tells values.shapes
      (λ m. record {
        nowhere = λ is. is;
        slots = λ is j. values.others (Field m j) refl;
        numbers = λ is j. values.others (Cell m j) refl;
      })
      (record {
        slots = λ b m j k named at_b below.
            subst (λ w. Stands maps w (last after (Field m j))) (sym (changes.word_stays (b + 2 + j)))
            (subst (Stands maps (s.word (b + 2 + j))) (sym (values.others (Field m j) refl))
            (tells.slots b m j k named at_b below));
        numbers = λ b m j k named at_b below.
            ap Num (changes.word_stays (b + 2 + k.shape.refs + j))
            ∙ (tells.numbers b m j k named at_b below ∙ sym (values.others (Cell m j) refl));
        globals = λ l below. global_or_other (λ w. Stands maps w (last after (Global l))) s t g l word changes
            (λ same. subst (Stands maps word) (sym (ap (λ (j : ℕ). last after (Global j)) same ∙ values.here)) stands)
            (λ other. subst (Stands maps (s.global l)) (sym (values.others (Global l) (globals_differ l other)))
            (tells.globals l below));
      })
