-- Where the parts of objects lie: each word belongs to one part of one object at most.
use Rattle.std.proofs.Common.{◌≡◌, ◌≢◌, ℕ, ◌+◌, ◌<◌, ◌≤◌, sym, ◌∙◌, ap, subst, arith, ◌⊎◌, inl, inr}
use Rattle.std.proofs.lemmas.Bool.Decides.{eqb_tells}
use Rattle.std.specs.Prelude.{Some}
use Rattle.melt_word.specs.Words.{cost_of}
use Rattle.melt_word.specs.declared.header.Header.{Header}
use Rattle.melt_word.proofs.OneToOne.{same_header}
use Rattle.melt_scion.specs.State.{State, HeaderAt}
use Rattle.melt_scion.specs.Placed.{Maps, FormedWords}

-- one word holds one header
pub one_header : (s : State) (a : ℕ) (h k : Header) → HeaderAt s a h → HeaderAt s a k → h ≡ k
one_header s a h k starts other = same_header h k starts.in_range other.in_range (sym starts.word ∙ other.word)

-- a header at a place that holds the same word in another state
pub header_moves : (s t : State) (a : ℕ) (h : Header) → s.word a ≡ t.word a → HeaderAt t a h → HeaderAt s a h
header_moves s t a h same starts = record { in_range = starts.in_range; word = same ∙ starts.word }

-- two stretches of which the lower ends before the other begins have no place in common
pub stretches_apart : (a b p q : ℕ) {x y : ℕ} (ca cb : ℕ) → (a < b → a + ca ≤ b) → (b < a → b + cb ≤ a) → a ≢ b → p < ca
    → q < cb → x ≡ a + p → y ≡ b + q → y ≢ x
stretches_apart a b p q ca cb up down differ in_a in_b is_x is_y = λ same. grind arith

-- the place q of the object at b is the place p of the object at a, or another word
pub one_part : {maps : Maps} {s : State} {a b n m : ℕ} (p q : ℕ) {x y : ℕ} {h k : Header} → FormedWords maps s
    → maps.address a ≡ Some n → maps.address b ≡ Some m → HeaderAt s a h → HeaderAt s b k → p < cost_of h.shape
    → q < cost_of k.shape → x ≡ a + p → y ≡ b + q → ((b ≡ a) × (k ≡ h) × (q ≡ p) × (m ≡ n)) ⊎ (y ≢ x)
one_part {maps} {s} {a} {b} {n} {m} p q {h} {k} formed named_a named_b at_a at_b in_a in_b is_x is_y =
    elim (eqb_tells b a) [
      | inl same ↦
          let k_at_a : HeaderAt s a k = subst (λ (c : ℕ). HeaderAt s c k) same.1 at_b in
          let number : m ≡ n = let e : Some m ≡ Some n = sym named_b ∙ (ap maps.address same.1 ∙ named_a) in cc in
          elim (eqb_tells q p) [
            | inl one ↦ inl (same.1, one_header s a k h k_at_a at_a, one.1, number)
            | inr two ↦ inr (let same_start : b ≡ a = same.1 in let differ : q ≢ p = two.1 in omega arith)
          ]
      | inr other ↦ inr (stretches_apart a b p q (cost_of h.shape) (cost_of k.shape)
          (formed.apart a b n m h named_a named_b at_a) (formed.apart b a m n k named_b named_a at_b)
          (λ e. other.1 (sym e)) in_a in_b is_x is_y)
    ]

-- a word after the header of an object is no header
pub after_header : {maps : Maps} {s : State} (a : ℕ) {b n m : ℕ} (q : ℕ) {y : ℕ} {k : Header} → FormedWords maps s
    → maps.address a ≡ Some n → maps.address b ≡ Some m → HeaderAt s b k → 1 ≤ q → q < cost_of k.shape → y ≡ b + q
    → a ≢ y
after_header a {n} q formed named_a named_b at_b after within is =
    let object = formed.objects a n named_a in
    elim (one_part 0 q formed named_a named_b object.1.starts at_b (omega arith) within (omega arith) is) [
      | inl same ↦ absurd (let e : q ≡ 0 = same.2 in omega arith)
      | inr other ↦ λ e. other (sym e)
    ]
