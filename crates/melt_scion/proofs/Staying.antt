-- Changes that keep all slots, number words and globals of objects keep what a state tells.
use Rattle.std.proofs.Common.{◌≡◌, ℕ, ◌+◌, ◌<◌, ◌≤◌, refl, sym, ◌∙◌, ap, subst, arith, List}
use Rattle.std.specs.Prelude.{Some, false}
use Rattle.melt_model.specs.History.{last}
use Rattle.melt_model.specs.declared.history.Entry.{Entry}
use Rattle.melt_model.specs.declared.history.Value.TheVariants.{Num}
use Rattle.melt_model.specs.declared.history.Slot.TheVariants.{Field, Cell, Global}
use Rattle.melt_word.specs.Words.{header_word}
use Rattle.melt_word.specs.declared.header.Header.{Header}
use Rattle.melt_scion.specs.State.{State, HeaderAt, NoGaps}
use Rattle.melt_scion.specs.Placed.{Maps, IsReferenceWord, Stands, FormedWords, Tells}
use Rattle.melt_scion.specs.Regions.{Region, Owns}
use Rattle.melt_scion.specs.Changes.{SameWords, WordChanges, FreeMoves}
use Rattle.melt_scion.proofs.Keeping.{KeepsObjects, NoGaps_stays}
use Rattle.melt_scion.proofs.Parts.{PartAt, slot_part, number_part, part_outside}
use Rattle.melt_scion.proofs.Following.{SameValues}
use Rattle.melt_scion.proofs.Homes.{BodyKeeps}
use Rattle.melt_scion.proofs.Frame.{FormedWords_stay, Tells_stay}
use Rattle.melt_scion.proofs.Changing.{keeps_words, keeps_free, keeps_ends, keeps_outside, after_cleared}
use Rattle.melt_scion.proofs.Changing.{keeps_cleared}

-- objects are kept, and with them all words after their home words, globals and forwarding words
pub record SameParts (maps : Maps) (s t : State) : Type 0 where
  pub keeps : KeepsObjects maps maps s t
  pub part : (a n p x : ℕ) (h : Header) → PartAt maps s a n p x h → 2 ≤ p → t.word x ≡ s.word x
  pub global : (g : ℕ) → t.global g ≡ s.global g
  pub forward : (p : ℕ) → t.forward p ≡ s.forward p

-- bodies keep their values where all do
pub same_bodies : (h k : List Entry) (maps : Maps) → SameValues h k → (n : ℕ) → BodyKeeps h k maps maps n
same_bodies h k maps same n = record {
  nowhere = λ is. is;
  slots = λ is i. same.last (Field n i);
  numbers = λ is j. same.last (Cell n j);
}

module _ (maps : Maps) (s t : State) (same : SameParts maps s t) where
  pub FormedWords_same : FormedWords maps s → FormedWords maps t
  FormedWords_same formed = FormedWords_stay maps s t same.keeps formed (record {
    slots = λ a n i h named starts below.
        subst (IsReferenceWord maps s)
        (sym (same.part a n (2 + i) (a + 2 + i) h (slot_part maps s a n i h named starts below) (omega arith)))
        (formed.slots a n i h named starts below);
    globals = λ g below. subst (IsReferenceWord maps s) (sym (same.global g)) (formed.globals g below);
    forward = same.forward;
  })

  pub Tells_same : (h k : List Entry) → SameValues h k → Tells h maps s → Tells k maps t
  Tells_same h k values tells = Tells_stay maps s t same.keeps h k tells values.shapes (same_bodies h k maps values)
      (record {
        slots = λ a n i hd named starts below.
            subst (λ w. Stands maps w (last k (Field n i)))
            (sym (same.part a n (2 + i) (a + 2 + i) hd (slot_part maps s a n i hd named starts below) (omega arith)))
            (subst (Stands maps (s.word (a + 2 + i))) (sym (values.last (Field n i)))
            (tells.slots a n i hd named starts below));
        numbers = λ a n j hd named starts below.
            ap Num (same.part a n (2 + hd.shape.refs + j) (a + 2 + hd.shape.refs + j) hd
            (number_part maps s a n j hd named starts below) (omega arith))
            ∙ (tells.numbers a n j hd named starts below ∙ sym (values.last (Cell n j)));
        globals = λ g below.
            subst (λ w. Stands maps w (last k (Global g))) (sym (same.global g))
            (subst (Stands maps (s.global g)) (sym (values.last (Global g))) (tells.globals g below));
      })

  pub NoGaps_same : NoGaps s → NoGaps t
  NoGaps_same gaps = NoGaps_stays s t same.keeps.base same.forward gaps

-- all words stay
pub same_words : (maps : Maps) (s t : State) → SameWords s t → SameParts maps s t
same_words maps s t same = record {
  keeps = keeps_words maps s t same;
  part = λ a n p x h part after. same.word x;
  global = same.global;
  forward = same.forward;
}

-- the first free place moves on
pub free_moves : (maps : Maps) (s t : State) (free : ℕ) → s.free ≤ free → FreeMoves s t free → SameParts maps s t
free_moves maps s t free up moves = record {
  keeps = keeps_free maps s t free up moves;
  part = λ a n p x h part after. moves.word x;
  global = moves.global;
  forward = moves.forward;
}

-- the first free place is another
pub free_shifts : (maps : Maps) (s t : State) → FreeMoves s t t.free →
    ((end : ℕ) → end ≤ s.free → end ≤ s.base.size + 1 → end ≤ t.free) → SameParts maps s t
free_shifts maps s t moves ends = record {
  keeps = keeps_ends maps s t moves ends;
  part = λ a n p x h part after. moves.word x;
  global = moves.global;
  forward = moves.forward;
}

-- a word in a region of a thread is replaced
pub word_outside : (maps : Maps) (s t : State) (x word : ℕ) (r : Region) → FormedWords maps s → WordChanges s t x word →
    Owns maps s r → r.at ≤ x → x < r.at + r.words → SameParts maps s t
word_outside maps s t x word r formed changes owns from below = record {
  keeps = keeps_outside maps s t x word formed changes r owns from below;
  part = λ a n p y h part after. changes.others y (part_outside maps s x owns part from below);
  global = changes.global;
  forward = changes.forward;
}

-- the stale bit of an object is cleared
pub bit_cleared : (maps : Maps) (s t : State) (a n : ℕ) (h : Header) → FormedWords maps s → maps.address a ≡ Some n →
    HeaderAt s a h → WordChanges s t a (header_word (record { shape = h.shape; stale = false })) → SameParts maps s t
bit_cleared maps s t a n h formed named starts changes = record {
  keeps = keeps_cleared maps s t a n h formed named starts changes;
  part = λ b m p y k part after. after_cleared maps s t a n h formed named starts changes b m p y k part
      (omega arith);
  global = changes.global;
  forward = changes.forward;
}

-- an entry that reads, while the state stays
pub Tells_reads : (h k : List Entry) (maps : Maps) (s : State) → SameValues h k → Tells h maps s → Tells k maps s
Tells_reads h k maps s values tells =
    Tells_same maps s s
    (same_words maps s s (record {
      base = refl;
      free = refl;
      word = λ a. refl;
      global = λ g. refl;
      forward = λ p.
          refl;
    })) h k
    values tells
