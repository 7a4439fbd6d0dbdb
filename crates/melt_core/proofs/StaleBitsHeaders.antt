-- The headers of objects before an event and after it, and what an event owes that changes them.
use Rattle.std.proofs.Common.{◌≡◌, ◌≢◌, ◌⊎◌, ℕ, ◌≤◌, inl, inr, List, refl, sym, ◌∙◌, ap, subst, arith}
use Rattle.std.proofs.lemmas.Bool.Decides.{eqb_tells}
use Rattle.std.specs.Prelude.{Bool, true, false, Option, Some, IfSome}
use Rattle.melt_model.specs.History.{given}
use Rattle.melt_model.specs.declared.history.Value.TheVariants as value
use Rattle.melt_model.specs.declared.history.Act.{Act}
use Rattle.melt_model.specs.declared.history.Entry.{Entry}
use Rattle.melt_word.specs.Words.{IsShape, header_word}
use Rattle.melt_word.specs.declared.header.Shape.{Shape}
use Rattle.melt_word.specs.declared.header.Header.{Header}
use Rattle.melt_word.proofs.OneToOne.{same_header}
use Rattle.melt_scion.specs.State.{State, HeaderAt, IsFresh}
use Rattle.melt_scion.specs.Placed.{Maps, FormedWords}
use Rattle.melt_core.specs.declared.call.Stage.{Stage}
use Rattle.melt_core.specs.Answering.{with_entry}
use Rattle.melt_core.specs.Known.{Evolves}
use Rattle.melt_core.specs.StaleBits.{BitIs, HasBit, HasNoBit, Passed, Pending, Sight, Watched}
use Rattle.melt_core.specs.StaleBits.{look_of, pending, sight_of}
use Rattle.melt_core.proofs.StaleBitsTying.{Touches, one_bit}

module _ (h : List Entry) (maps : Maps) (s : State) (stage : ℕ → Option Stage) where
  -- a bit is read off the header of an object
  bit_at : (a n : ℕ) (header : Header) (stale : Bool) → maps.address a ≡ Some n → HeaderAt s a header
      → header.stale ≡ stale → BitIs (sight_of h maps s stage) n stale
  bit_at a n header stale named starts is = record {
    address = a;
    named = named;
    shape = header.shape;
    small = starts.in_range;
    word = starts.word ∙ ap (λ (b : Bool). header_word (record { shape = header.shape; stale = b })) is;
  }

  pub no_bit_at : (a n : ℕ) → FormedWords maps s → maps.address a ≡ Some n → IsFresh s a
      → HasNoBit (sight_of h maps s stage) n
  no_bit_at a n formed named fresh =
      let object = formed.objects a n named in
      bit_at a n object.0 false named object.1.starts (fresh object.0 object.1.starts)

-- no object stands at address 0
pub not_null : (maps : Maps) (s : State) (a n : ℕ) → FormedWords maps s → maps.address a ≡ Some n → a ≢ 0
not_null maps s a n formed named = λ null.
    let object = formed.objects a n named in
    let first : 1 ≤ a = object.1.first in
    omega arith

module _ (h k : List Entry) (maps new : Maps) (s t : State) (before after : ℕ → Option Stage) (cleared : ℕ)
    (formed : FormedWords maps s) (evolves : Evolves maps new s t cleared) where
  abbrev old : Sight
  old = sight_of h maps s before

  abbrev now : Sight
  now = sight_of k new t after

  -- an object without the bit stays without
  fresh_stays : (n : ℕ) → HasNoBit old n → HasNoBit now n
  fresh_stays n bit =
      let header : Header = record { shape = bit.shape; stale = false } in
      let starts : HeaderAt s bit.address header = record { in_range = bit.small; word = bit.word } in
      let named = evolves.names bit.address n bit.named in
      elim (eqb_tells bit.address cleared) [
        | inl here ↦
            let later = evolves.clears n header (subst (λ (a : ℕ). maps.address a ≡ Some n) here.1 bit.named)
            (subst (λ (a : ℕ). HeaderAt s a header) here.1 starts) in
            bit_at k new t after cleared n header false
            (subst (λ (a : ℕ). new.address a ≡ Some n) here.1 named) later refl
        | inr other ↦ bit_at k new t after bit.address n header false named
            (evolves.header bit.address n header bit.named other.1 starts) refl
      ]

  -- the object whose bit the event clears has none after it
  cleared_fresh : (n : ℕ) → maps.address cleared ≡ Some n → HasNoBit now n
  cleared_fresh n named =
      let object = formed.objects cleared n named in
      bit_at k new t after cleared n (record { shape = object.0.shape; stale = false }) false
      (evolves.names cleared n named) (evolves.clears n object.0 named object.1.starts) refl

  -- each other object had the bit that it has
  bit_before : (a n : ℕ) (shape : Shape) (stale : Bool) → maps.address a ≡ Some n → a ≢ cleared → IsShape shape
      → t.word a ≡ header_word (record { shape = shape; stale = stale }) → BitIs old n stale
  bit_before a n shape stale named other small word =
      let object = formed.objects a n named in
      let later : HeaderAt t a object.0 = evolves.header a n object.0 named other object.1.starts in
      let header : Header = record { shape = shape; stale = stale } in
      let same : object.0 ≡ header =
      same_header object.0 header later.in_range small (sym later.word ∙ word) in
      bit_at h maps s before a n object.0 stale named object.1.starts (ap (λ (x : Header). x.stale) same)

  -- so no bit is set
  stale_before : (n : ℕ) → ((a b : ℕ) → new.address a ≡ Some n → new.address b ≡ Some n → a ≡ b)
      → ((a : ℕ) → new.address a ≡ Some n → (maps.address a ≡ Some n) ⊎ HasNoBit now n)
      → HasBit now n → HasBit old n
  stale_before n one was bit = elim (was bit.address bit.named) [
    | inr fresh ↦ absurd (one_bit now n one fresh bit)
    | inl named ↦ elim (eqb_tells bit.address cleared) [
      | inl here ↦ absurd (one_bit now n one
          (cleared_fresh n (subst (λ (a : ℕ). maps.address a ≡ Some n) here.1 named)) bit)
      | inr other ↦ bit_before bit.address n bit.shape true named other.1 bit.small bit.word
    ]
  ]

  -- What is left to say of such an event of a thread, with the act of its entry, if it has one: what becomes of the
  -- look of its call, of an object that it brings into use or whose bit it clears, of one whose slot it was about to
  -- read, and of one that its entry gives.
  pub record Owes (q thread : ℕ) (act : Option Act) : Type 0 where
    pub log : k ≡ with_entry thread h act
    pub others : (x : ℕ) → x ≢ thread → after x ≡ before x
    pub one_address : (a b n : ℕ) → new.address a ≡ Some n → new.address b ≡ Some n → a ≡ b
    pub watched : IfSome (look_of (after thread)) (Watched q now thread)
    pub appears : (a n : ℕ) → new.address a ≡ Some n
        → (maps.address a ≡ Some n) ⊎ (HasNoBit now n × (Passed k q n ⊎ Pending now n))
    pub clears : cleared ≢ 0 → pending (after thread) ≡ Some cleared
    pub exchanges : (a n : ℕ) → pending (before thread) ≡ Some a → maps.address a ≡ Some n → Passed k q n
    pub gives : (n : ℕ) (x : Act) → act ≡ Some x → given h x ≡ Some (value.Ref n) → HasNoBit now n

  pub touched : (q thread : ℕ) (act : Option Act) → Owes q thread act → Touches q thread act old now
  touched q thread act owes = record {
    log = owes.log;
    others = owes.others;
    names = evolves.names;
    homes = evolves.homes;
    watched = owes.watched;
    fresh = fresh_stays;
    stale = λ n bit. stale_before n (λ a b. owes.one_address a b n) (λ a named.
        elim (owes.appears a n named) [ inl was ↦ inl was | inr at ↦ inr at.0 ]) bit;
    clears = λ n bit. elim (owes.appears bit.address n bit.named) [
      | inr at ↦ inr at.1
      | inl was ↦ elim (eqb_tells bit.address cleared) [
        | inl here ↦ inr (inr (record {
          thread = thread;
          address = bit.address;
          is = owes.clears (λ null. not_null maps s bit.address n formed was (here.1 ∙ null)) ∙ ap Some (sym here.1);
          named = bit.named;
        }))
        | inr other ↦ inl (bit_before bit.address n bit.shape false was other.1 bit.small bit.word)
      ]
    ];
    in_use = λ n used. elim (owes.appears used.0 n used.1) [
      | inl was ↦ inl (used.0, was)
      | inr at ↦ inr at.0
    ];
    exchanges = owes.exchanges;
    gives = owes.gives;
  }
