-- Each small change of a state keeps the objects.
use Rattle.std.proofs.Common.{◌≡◌, ◌≢◌, ℕ, ◌+◌, ◌<◌, ◌≤◌, refl, sym, ap, subst, arith, inl, inr}
use Rattle.std.proofs.lemmas.Bool.Decides.{eqb_tells}
use Rattle.std.specs.Prelude.{Some, false}
use Rattle.melt_word.specs.Words.{header_word}
use Rattle.melt_word.specs.declared.header.Header.{Header}
use Rattle.melt_scion.specs.State.{State, HeaderAt}
use Rattle.melt_scion.specs.Placed.{Maps, FormedWords}
use Rattle.melt_scion.specs.Regions.{Region, Owns}
use Rattle.melt_scion.specs.Changes.{SameWords, WordChanges, GlobalChanges, FreeMoves}
use Rattle.melt_scion.proofs.Geometry.{one_header, header_moves}
use Rattle.melt_scion.proofs.Keeping.{KeepsObjects, same_forwards}
use Rattle.melt_scion.proofs.Parts.{PartAt, head_part, home_part, parts_differ, part_outside}

-- The same words, globals aside: the headers and the home words of all objects stay, and what is not in words.
pub record SameHeads (maps : Maps) (s t : State) : Type 0 where
  pub base : t.base ≡ s.base
  pub ends : (end : ℕ) → end ≤ s.free → end ≤ s.base.size + 1 → end ≤ t.free
  pub forward : (p : ℕ) → t.forward p ≡ s.forward p
  pub header : (a n : ℕ) → maps.address a ≡ Some n → t.word a ≡ s.word a
  pub home_word : (a n : ℕ) → maps.address a ≡ Some n → t.word (a + 1) ≡ s.word (a + 1)

pub keeps_heads : (maps : Maps) (s t : State) → SameHeads maps s t → KeepsObjects maps maps s t
keeps_heads maps s t same = record {
  base = same.base;
  ends = same.ends;
  names = λ a n named. named;
  homes = λ home. refl;
  was = λ a n header named starts.
      (header, header_moves s t a header (sym (same.header a n named)) starts, refl, λ fresh. fresh);
  now = λ a n header named starts. (header, header_moves t s a header (same.header a n named) starts, refl);
  home_word = same.home_word;
  forwards = λ home a n named. same_forwards s t home a same.base same.forward;
}

-- where all words stay
pub keeps_words : (maps : Maps) (s t : State) → SameWords s t → KeepsObjects maps maps s t
keeps_words maps s t same = keeps_heads maps s t (record {
  base = same.base;
  ends = λ end below inside. let e : t.free ≡ s.free = same.free in omega arith;
  forward = same.forward;
  header = λ a n named. same.word a;
  home_word = λ a n named. same.word (a + 1);
})

-- where the first free place moves on
pub keeps_free : (maps : Maps) (s t : State) (free : ℕ) → s.free ≤ free → FreeMoves s t free →
    KeepsObjects maps maps s t
keeps_free maps s t free up moves = keeps_heads maps s t (record {
  base = moves.base;
  ends = λ end below inside. let e : t.free ≡ free = moves.is in omega arith;
  forward = moves.forward;
  header = λ a n named. moves.word a;
  home_word = λ a n named. moves.word (a + 1);
})

-- where the first free place is another, before which all ends that ended before the old one, and within the words
pub keeps_ends : (maps : Maps) (s t : State) → FreeMoves s t t.free →
    ((end : ℕ) → end ≤ s.free → end ≤ s.base.size + 1 → end ≤ t.free) → KeepsObjects maps maps s t
keeps_ends maps s t moves ends = keeps_heads maps s t (record {
  base = moves.base;
  ends = ends;
  forward = moves.forward;
  header = λ a n named. moves.word a;
  home_word = λ a n named. moves.word (a + 1);
})

-- where a global changes
pub keeps_global : (maps : Maps) (s t : State) (g word : ℕ) → GlobalChanges s t g word → KeepsObjects maps maps s t
keeps_global maps s t g word changes = keeps_heads maps s t (record {
  base = changes.base;
  ends = λ end below inside. let e : t.free ≡ s.free = changes.free in omega arith;
  forward = changes.forward;
  header = λ a n named. changes.word_stays a;
  home_word = λ a n named. changes.word_stays (a + 1);
})

module _ (maps : Maps) (s t : State) (x word : ℕ) (formed : FormedWords maps s) (changes : WordChanges s t x word) where
  -- where a word changes that is neither the header nor the home word of an object
  keeps_word : ((a n : ℕ) → maps.address a ≡ Some n → a ≢ x) → ((a n : ℕ) → maps.address a ≡ Some n → a + 1 ≢ x) →
      KeepsObjects maps maps s t
  keeps_word no_header no_home = keeps_heads maps s t (record {
    base = changes.base;
    ends = λ end below inside. let e : t.free ≡ s.free = changes.free in omega arith;
    forward = changes.forward;
    header = λ a n named. changes.others a (no_header a n named);
    home_word = λ a n named. changes.others (a + 1) (no_home a n named);
  })

  -- a slot or a number word of an object
  pub keeps_part : (a n p : ℕ) (h : Header) → PartAt maps s a n p x h → 2 ≤ p → KeepsObjects maps maps s t
  keeps_part a n p h part after = keeps_word
      (λ b m named.
      let object = formed.objects b m named in
      parts_differ maps s formed part (head_part maps s b m object.0 named object.1.starts) (omega arith))
      (λ b m named.
      let object = formed.objects b m named in
      parts_differ maps s formed part (home_part maps s b m object.0 named object.1.starts) (omega arith))

  -- a word of a region of a thread
  pub keeps_outside : (r : Region) → Owns maps s r → r.at ≤ x → x < r.at + r.words → KeepsObjects maps maps s t
  keeps_outside r owns from below = keeps_word
      (λ b m named.
      let object = formed.objects b m named in
      part_outside maps s x owns (head_part maps s b m object.0 named object.1.starts) from below)
      (λ b m named.
      let object = formed.objects b m named in
      part_outside maps s x owns (home_part maps s b m object.0 named object.1.starts) from below)

-- the header without the stale bit
abbrev pub fresh_header : Header → Header
fresh_header h = record { shape = h.shape; stale = false }

module _ (maps : Maps) (s t : State) (a n : ℕ) (h : Header) (formed : FormedWords maps s)
    (named : maps.address a ≡ Some n)
    (starts : HeaderAt s a h)
    (changes : WordChanges s t a (header_word (record { shape = h.shape; stale = false }))) where
  -- a word after a header is another
  pub after_cleared : (b m q y : ℕ) (k : Header) → PartAt maps s b m q y k → 1 ≤ q → t.word y ≡ s.word y
  after_cleared b m q y k part after =
      changes.others y (parts_differ maps s formed (head_part maps s a n h named starts) part (omega arith))

  cleared_starts : HeaderAt t a (fresh_header h)
  cleared_starts = record { in_range = starts.in_range; word = changes.here }

  cleared_was : (b : ℕ) (k : Header) → HeaderAt t b k →
      (old : Header) × HeaderAt s b old × (old.shape ≡ k.shape) × (old.stale ≡ false → k.stale ≡ false)
  cleared_was b k at_b = elim (eqb_tells b a) [
    | inl same ↦
        let is : k ≡ fresh_header h = one_header t a k (fresh_header h)
        (subst (λ (c : ℕ). HeaderAt t c k) same.1 at_b) cleared_starts in (
          h,
          subst (λ (c : ℕ). HeaderAt s c h) (sym same.1) starts,
          ap (λ (x : Header). x.shape) (sym is),
          λ fresh.
              ap (λ (x : Header). x.stale) is,
        )
    | inr other ↦ (k, header_moves s t b k (sym (changes.others b other.1)) at_b, refl, λ fresh. fresh)
  ]

  cleared_now : (b : ℕ) (k : Header) → HeaderAt s b k → (later : Header) × HeaderAt t b later × (later.shape ≡ k.shape)
  cleared_now b k at_b = elim (eqb_tells b a) [
    | inl same ↦
        let is : k ≡ h = one_header s a k h (subst (λ (c : ℕ). HeaderAt s c k) same.1 at_b) starts in (
          fresh_header h,
          subst (λ (c : ℕ). HeaderAt t c (fresh_header h))
              (sym same.1) cleared_starts,
          ap (λ (x : Header). x.shape) (sym is),
        )
    | inr other ↦ (k, header_moves t s b k (changes.others b other.1) at_b, refl)
  ]

  -- where the stale bit of an object is cleared
  pub keeps_cleared : KeepsObjects maps maps s t
  keeps_cleared = record {
    base = changes.base;
    ends = λ end below inside. let e : t.free ≡ s.free = changes.free in omega arith;
    names = λ b m is. is;
    homes = λ home. refl;
    was = λ b m k named_b at_b. cleared_was b k at_b;
    now = λ b m k named_b at_b. cleared_now b k at_b;
    home_word = λ b m named_b.
        let object = formed.objects b m named_b in
        after_cleared b m 1 (b + 1) object.0 (home_part maps s b m object.0 named_b object.1.starts) (omega arith);
    forwards = λ home b m named_b. same_forwards s t home b changes.base changes.forward;
  }
