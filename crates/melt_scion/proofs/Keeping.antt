-- What a change that keeps each object where it is keeps of references, home words, scions and forwarding words.
use Rattle.std.proofs.Common.{◌≡◌, ℕ, zero, suc, ◌+◌, ◌<◌, ◌≤◌, refl, sym, ◌∙◌, ap, subst, arith, inl, inr}
use Rattle.std.specs.Prelude.{◌↔◌, Option, None, Some, false}
use Rattle.std.specs.Option.{option_map}
use Rattle.melt_model.specs.declared.history.Value.{Value}
use Rattle.melt_model.specs.declared.history.Value.TheVariants.{Ref}
use Rattle.melt_word.specs.declared.header.Header.{Header}
use Rattle.melt_word.specs.declared.reference.Ref as reference
use Rattle.melt_word.specs.declared.reference.Ref.TheVariants.{Null, Clean, Stale, Disk}
use Rattle.melt_forward.specs.Forwarding.{Sends, probe}
use Rattle.melt_scion.specs.State.{Base, Scion, State, HeaderAt, IsFresh, Forwards, NoGaps}
use Rattle.melt_scion.specs.Placed.{Maps, IsNamed, HasObject, MayStand, IsReferenceWord, MayHold, HasHome, IsHomeWord}
use Rattle.melt_scion.specs.Placed.{ScionStands, ForwardStands, ForwardMayStand, value_of, value_at, Stands}

-- Objects keep their addresses, their shapes and their home words, and none gets the stale bit. New ones may appear.
pub record KeepsObjects (maps new : Maps) (s t : State) : Type 0 where
  pub base : t.base ≡ s.base
  pub ends : (end : ℕ) → end ≤ s.free → end ≤ s.base.size + 1 → end ≤ t.free
  pub names : (a n : ℕ) → maps.address a ≡ Some n → new.address a ≡ Some n
  pub homes : (home : ℕ) → new.home home ≡ maps.home home
  pub was : (a n : ℕ) (header : Header) → maps.address a ≡ Some n → HeaderAt t a header →
      (old : Header) × HeaderAt s a old × (old.shape ≡ header.shape) × (old.stale ≡ false → header.stale ≡ false)
  pub now : (a n : ℕ) (header : Header) → maps.address a ≡ Some n → HeaderAt s a header →
      (later : Header) × HeaderAt t a later × (later.shape ≡ header.shape)
  pub home_word : (a n : ℕ) → maps.address a ≡ Some n → t.word (a + 1) ≡ s.word (a + 1)
  pub forwards : (home a n : ℕ) → maps.address a ≡ Some n → Forwards s home a ↔ Forwards t home a

-- a home that is forwarded stays so, where forwarding words do
pub Forwards_stays : (s t : State) (home a : ℕ) → t.base ≡ s.base → ((p : ℕ) → t.forward p ≡ s.forward p) →
    Forwards s home a → Forwards t home a
Forwards_stays s t home a base same forwards = record {
  place = forwards.place;
  within = subst (λ (b : Base). forwards.place < b.forwards) (sym base) forwards.within;
  sends = subst (λ w. Sends w home a) (sym (same forwards.place)) forwards.sends;
}

-- and was so before
pub same_forwards : (s t : State) (home a : ℕ) → t.base ≡ s.base → ((p : ℕ) → t.forward p ≡ s.forward p) →
    Forwards s home a ↔ Forwards t home a
same_forwards s t home a base same = (
  Forwards_stays s t home a base same,
  Forwards_stays t s home a (sym base) (λ p. sym (same p)),
)

-- a search for a home ends at the first empty forwarding word, where these words stay
pub NoGaps_stays : (s t : State) → t.base ≡ s.base → ((p : ℕ) → t.forward p ≡ s.forward p) → NoGaps s → NoGaps t
NoGaps_stays s t base same gaps = record {
  filled = λ home address k i below sends less empty.
      let count : t.base.forwards ≡ s.base.forwards = ap (λ (b : Base). b.forwards) base in
      let at : (j : ℕ) → t.forward (probe home t.base.forwards j) ≡ s.forward (probe home s.base.forwards j) =
      λ j. ap (λ c. t.forward (probe home c j)) count ∙ same (probe home s.base.forwards j) in
      gaps.filled home address k i (omega arith) (subst (λ w. Sends w home address) (at k) sends) less
      (sym (at i) ∙ empty);
}

-- a map that keeps the names of another keeps what references stand for
pub named_value : (old new : Option ℕ) (v : Value) → ((n : ℕ) → old ≡ Some n → new ≡ Some n) →
    option_map Ref old ≡ Some v → option_map Ref new ≡ Some v
named_value None new v keeps is = absurd (cc)
named_value (Some n) new v keeps is = ap (option_map Ref) (keeps n refl) ∙ is

module _ (maps new : Maps) (s t : State) (keeps : KeepsObjects maps new s t) where
  pub named_stays : (a : ℕ) → IsNamed maps a → IsNamed new a
  named_stays a named = (named.0, keeps.names a named.0 named.1)

  -- an object without the stale bit stays so
  pub fresh_stays : (a : ℕ) → IsNamed maps a → IsFresh s a → IsFresh t a
  fresh_stays a named fresh header starts =
      let old = keeps.was a named.0 header named.1 starts in
      old.3 (fresh old.0 old.1)

  -- a reference that may stand may stand on
  pub MayStand_stays : (r : reference.Ref) → MayStand maps s r → MayStand new t r
  MayStand_stays Null may = tt
  MayStand_stays (Clean a) may = (named_stays a may.0, fresh_stays a may.0 may.1)
  MayStand_stays (Stale a) may = named_stays a may
  MayStand_stays (Disk home) may = (may.0, subst (λ (b : Base). home < b.end) (sym keeps.base) may.1)

  pub IsReferenceWord_stays : (word : ℕ) → IsReferenceWord maps s word → IsReferenceWord new t word
  IsReferenceWord_stays word is = record {
    reference = is.reference;
    in_range = is.in_range;
    is = is.is;
    stands = MayStand_stays is.reference is.stands;
  }

  pub MayHold_stays : (a : ℕ) → MayHold maps s a → MayHold new t a
  MayHold_stays a (inl nothing) = inl nothing
  MayHold_stays a (inr holds) = inr (named_stays a holds.0, fresh_stays a holds.0 holds.1)

  -- and stands for the same value
  pub value_stays : (r : reference.Ref) (v : Value) → value_of maps r ≡ Some v → value_of new r ≡ Some v
  value_stays Null v is = is
  value_stays (Clean a) v is = named_value (maps.address a) (new.address a) v (λ n e. keeps.names a n e) is
  value_stays (Stale a) v is = named_value (maps.address a) (new.address a) v (λ n e. keeps.names a n e) is
  value_stays (Disk home) v is = ap (option_map Ref) (keeps.homes home) ∙ is

  pub Stands_stays : (word : ℕ) (v : Value) → Stands maps word v → Stands new word v
  Stands_stays word v is = record {
    reference = is.reference;
    in_range = is.in_range;
    is = is.is;
    stands_for = value_stays is.reference v is.stands_for;
  }

  pub value_at_stays : (a : ℕ) (v : Value) → value_at maps a ≡ Some v → value_at new a ≡ Some v
  value_at_stays zero v is = is
  value_at_stays (suc a) v is = named_value (maps.address (suc a)) (new.address (suc a)) v
      (λ n e. keeps.names (suc a) n e) is

  -- an object keeps its home
  HasHome_stays : (a n words home scion : ℕ) → maps.address a ≡ Some n → HasHome s a words home scion →
      HasHome t a words home scion
  HasHome_stays a n words home scion named has = record {
    in_range = has.in_range;
    is = keeps.home_word a n named ∙ has.is;
    within = subst (λ (b : Base). home + words ≤ b.end) (sym keeps.base) has.within;
    forwarded = (
      λ none. (keeps.forwards home a n named).0 (has.forwarded.0 none),
      λ forwards. has.forwarded.1 ((keeps.forwards home a n named).1 forwards),
    );
    live = λ some. ap (λ (b : Base). b.scion scion) keeps.base ∙ has.live some;
  }

  pub IsHomeWord_stays : (a n words : ℕ) → maps.address a ≡ Some n → IsHomeWord s a words → IsHomeWord t a words
  IsHomeWord_stays a n words named (inl none) = inl (keeps.home_word a n named ∙ none)
  IsHomeWord_stays a n words named (inr has) = inr (has.0, has.1, HasHome_stays a n words has.0 has.1 named has.2)

  pub ScionStands_stays : (k : ℕ) (x : Scion) → ScionStands maps s k x → ScionStands new t k x
  ScionStands_stays k x is = record {
    first = is.first;
    small = is.small;
    named = named_stays x.address is.named;
    home_word = keeps.home_word x.address is.named.0 is.named.1 ∙ is.home_word;
  }

  ForwardStands_stays : (home a : ℕ) → ForwardStands maps s home a → ForwardStands new t home a
  ForwardStands_stays home a is = record {
    named = named_stays a is.named;
    home_word = keeps.home_word a is.named.0 is.named.1 ∙ is.home_word;
    fresh = fresh_stays a is.named is.fresh;
  }

  pub ForwardMayStand_stays : (word : ℕ) → ForwardMayStand maps s word → ForwardMayStand new t word
  ForwardMayStand_stays word (inl empty) = inl empty
  ForwardMayStand_stays word (inr is) = inr (is.0, is.1, is.2, ForwardStands_stays is.0 is.1 is.3)

  pub HasObject_stays : (home : ℕ) → HasObject maps home ↔ HasObject new home
  HasObject_stays home = (
    λ has. (has.0, keeps.homes home ∙ has.1),
    λ has. (has.0, sym (keeps.homes home) ∙ has.1),
  )
