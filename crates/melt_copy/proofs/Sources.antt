-- The objects that a collection found, where they were before.
use Rattle.std.proofs.Common.{◌≡◌, ◌≢◌, ℕ, ◌+◌, ◌-◌, ◌<◌, ◌≤◌, List, sym, ◌∙◌, ap, subst, arith, inl, inr}
use Rattle.std.specs.Prelude.{slice_get, Some}
use Rattle.std.proofs.lemmas.Bool.{cases_order}
use Rattle.melt_model.specs.declared.reports.Phase.{Phase}
use Rattle.melt_word.specs.Words.{cost_of}
use Rattle.melt_word.specs.declared.header.Shape.{Shape}
use Rattle.melt_word.specs.declared.header.Header.{Header}
use Rattle.melt_word.specs.declared.reference.Ref.{Ref}
use Rattle.melt_word.specs.declared.reference.Ref.TheVariants.{Null, Clean, Stale, Disk}
use Rattle.melt_word.proofs.OneToOne.{same_ref}
use Rattle.melt_scion.specs.State.{Scion, State, HeaderAt, ObjectAt, address_in, RefersTo, Reached, in_register}
use Rattle.melt_scion.specs.State.{in_global, at_scion, in_slot}
use Rattle.melt_copy.specs.declared.forwarding.Relocation.{Relocation}
use Rattle.melt_copy.specs.Moving.{IsWhole, words_in, IsRelocation, Relocates, IsFound, WordMoves, AreHeld, IsCopy}
use Rattle.melt_copy.specs.Reaching.{FindsAll}
use Rattle.melt_scion.proofs.Geometry.{one_header}
use Rattle.melt_copy.proofs.Places.{place_found, same_source}
use Rattle.melt_copy.proofs.Packing.{AreApart, packed}

-- the object of a move, where it was
pub source_object : (s : State) (m : Relocation) → IsWhole s → (is : IsRelocation s m) → ObjectAt s m.from is.header
source_object s m whole is =
    let o = whole.objects m.from is.reached in
    subst (ObjectAt s m.from) (one_header s m.from o.0 is.header o.1.starts is.starts) o.1

-- it takes as many words as the move says
pub source_cost : (s : State) (m : Relocation) → (is : IsRelocation s m) → cost_of is.header.shape ≡ cost_of m.shape
source_cost s m is = ap cost_of is.shape

-- a header at the old address has the shape of the move
pub source_shape : (s : State) (m : Relocation) (h : Header) → IsRelocation s m → HeaderAt s m.from h
    → h.shape ≡ m.shape
source_shape s m h is starts = ap (λ (x : Header). x.shape) (one_header s m.from h is.header starts is.starts)
    ∙ is.shape

-- objects that were found do not overlap
sources_apart : (s : State) (f : ℕ → ℕ) (moves : List Relocation) (free : ℕ) → IsWhole s → Relocates s f moves free
    → AreApart moves
sources_apart s f moves free whole forwarding i j a b first second before =
    let one = forwarding.whole i a first in
    let other = forwarding.whole j b second in
    elim (cases_order a.from b.from) [
      | inl same ↦ absurd (omega (arith, (same_source i j forwarding first second same).0))
      | inr differ ↦ elim differ [
        | inl below ↦ inl (omega (
          arith,
          source_cost s a one,
          whole.apart a.from b.from one.header one.reached other.reached one.starts below,
        ))
        | inr above ↦ inr (omega (
          arith,
          source_cost s b other,
          whole.apart b.from a.from other.header other.reached one.reached other.starts above,
        ))
      ]
    ]

-- the words of the objects that were found are below the first free place
pub found_words : (s : State) (f : ℕ → ℕ) (moves : List Relocation) (free : ℕ) → IsWhole s → Relocates s f moves free
    → words_in moves ≤ s.free - 1
found_words s f moves free whole forwarding =
    packed (s.free - 1) moves (sources_apart s f moves free whole forwarding)
    (λ k m at. (source_object s m whole (forwarding.whole k m at)).first)
    (λ k m at. let o = source_object s m whole (forwarding.whole k m at) in
    omega (arith, o.below, o.first, source_cost s m (forwarding.whole k m at)))

-- where there is an object, the new words fit into the old
pub found_fits : (s : State) (f : ℕ → ℕ) (moves : List Relocation) (free k : ℕ) (m : Relocation) → IsWhole s
    → Relocates s f moves free → slice_get moves k ≡ Some m → free ≤ s.free
found_fits s f moves free k m whole forwarding at =
    let o = source_object s m whole (forwarding.whole k m at) in
    omega (arith, found_words s f moves free whole forwarding, forwarding.after, o.below, o.first)

-- the move of an object that was found
pub record MoveOf (f : ℕ → ℕ) (moves : List Relocation) (address : ℕ) : Type 0 where
  pub index : ℕ
  pub move : Relocation
  pub is : slice_get moves index ≡ Some move
  pub from : move.from ≡ address
  pub to : f address ≡ move.to

-- an address that was found has a move
pub goes : (s : State) (f : ℕ → ℕ) (moves : List Relocation) (free address : ℕ) → Relocates s f moves free
    → f address ≢ 0 → MoveOf f moves address
goes s f moves free address forwarding found =
    let m = forwarding.only address found in
    record { index = m.0; move = m.1; is = m.2; from = m.3; to = ap f (sym m.3) ∙ forwarding.found m.0 m.1 m.2 }

-- an address in a reference whose object was found
pub found_in : (f : ℕ → ℕ) (r : Ref) (address : ℕ) → IsFound f r → address_in r ≡ Some address → f address ≢ 0
found_in f Null address found at = absurd (cc)
found_in f (Clean a) address found at = let same : a ≡ address = cc in λ none. found (ap f same ∙ none)
found_in f (Stale a) address found at = let same : a ≡ address = cc in λ none. found (ap f same ∙ none)
found_in f (Disk home) address found at = absurd (cc)

-- an address in a word that was moved was found
pub found_in_word : {phase : Phase} (f : ℕ → ℕ) (old new address : ℕ) → WordMoves phase f old new → RefersTo old address
    → f address ≢ 0
found_in_word f old new address moves refers =
    let same : refers.reference ≡ moves.reference =
    same_ref refers.reference moves.reference refers.in_range moves.in_range (sym refers.is ∙ moves.was) in
    found_in f moves.reference address moves.found (ap address_in (sym same) ∙ refers.at)

-- Nothing is left to find: the objects in registers were found, those of live scions, and those to which globals refer
-- and the slots of all that were found.
pub record IsClosed (s : State) (f : ℕ → ℕ) (moves : List Relocation) (held_count : ℕ) : Type 0 where
  pub held : AreHeld s moves held_count
  pub globals : (g address : ℕ) → g < s.base.globals → RefersTo (s.global g) address → f address ≢ 0
  pub scions : (k : ℕ) (x : Scion) → s.base.scion k ≡ Some x → f x.address ≢ 0
  pub slots : FindsAll s f moves

-- so what can be reached was found
pub reached_found : (s : State) (f : ℕ → ℕ) (moves : List Relocation) (free held_count : ℕ) → Relocates s f moves free
    → IsClosed s f moves held_count → (address : ℕ) → Reached s address → f address ≢ 0
reached_found s f moves free held_count forwarding closed address (in_register u r a holds first) =
    let held : s.register u r ≢ 0 = λ none. omega (arith, holds, none, first) in
    let m = closed.held.all u r held in
    λ none. place_found s f moves free m.0 m.1 forwarding m.2 (ap f (m.4 ∙ holds) ∙ none)
reached_found s f moves free held_count forwarding closed address (in_global g a below refers) =
    closed.globals g a below refers
reached_found s f moves free held_count forwarding closed address (at_scion k x live) = closed.scions k x live
reached_found s f moves free held_count forwarding closed address (in_slot from i a header reached starts below refers)
    =
    let m = goes s f moves free from forwarding (reached_found s f moves free held_count forwarding closed from reached)
    in
    let starts_there : HeaderAt s m.move.from header = subst (λ (b : ℕ). HeaderAt s b header) (sym m.from) starts in
    let shape : header.shape.refs ≡ m.move.shape.refs =
    ap (λ (z : Shape). z.refs) (source_shape s m.move header (forwarding.whole m.index m.move m.is) starts_there) in
    closed.slots m.index m.move m.is i a (omega (arith, shape, below))
    (subst (λ (b : ℕ). RefersTo (s.word (b + 2 + i)) a) (sym m.from) refers)

-- a copy leaves nothing to find
pub copy_closed : {phase : Phase} (s t : State) (f : ℕ → ℕ) (moves : List Relocation) (held_count : ℕ)
    → IsCopy phase s t f moves held_count → IsClosed s f moves held_count
copy_closed s t f moves held_count copy = record {
  held = copy.held;
  globals = λ g address below refers.
      found_in_word f (s.global g) (t.global g) address (copy.global g below) refers;
  scions = copy.scions_found;
  slots = λ k m at i address below refers.
      found_in_word f (s.word (m.from + 2 + i)) (t.word (m.to + 2 + i)) address
      ((copy.objects k m at).slots i below) refers;
}
