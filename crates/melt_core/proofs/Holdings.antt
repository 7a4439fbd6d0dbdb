-- The words of the objects that registers hold, where one register is looked at after the other.
use Rattle.std.proofs.Common.{◌≡◌, ◌≢◌, ◌⊎◌, ℕ, ◌+◌, ◌*◌, ◌/◌, ◌%◌, ◌<◌, ◌≤◌, inl, inr, length, refl, sym}
use Rattle.std.proofs.Common.{◌∙◌, ap, subst, arith}
use Rattle.std.proofs.Math.ListN.{length-map}
use Rattle.std.proofs.lemmas.Bool.{cases_lt}
use Rattle.std.proofs.lemmas.List.{get_or_past}
use Rattle.std.specs.Prelude.{◌↔◌, true, Some, Option}
use Rattle.std.specs.Option.{option_map_or}
use Rattle.melt_model.specs.Alive.{Held, words_of, CostsSum}
use Rattle.melt_model.specs.declared.history.Value.TheVariants.{Nil, Ref}
use Rattle.melt_model.specs.History.{Shape as ModelShape}
use Rattle.melt_model.proofs.Sums.{CostsSum-empty, CostsSum-more, CostsSum-same}
use Rattle.melt_word.specs.Words.{IsHeader, cost_of, header_word}
use Rattle.melt_word.specs.declared.header.Header.{Header}
use Rattle.melt_word.specs.declared.header.Shape.{Shape}
use Rattle.melt_space.specs.Space.{HasHeader, IsWord, SpaceWords, word_at}
use Rattle.melt_scion.specs.Heaps.{OnDisk}
use Rattle.melt_scion.specs.State.{ObjectAt}
use Rattle.melt_scion.proofs.Reaching.{held_address}
use Rattle.melt_core.specs.Holdings.{IsHeld, IsHeldBefore, Takes, nth_register}
use Rattle.melt_core.specs.Views.{View, Standing, maps, registers_in, state, value, values_of}
use Rattle.melt_core.proofs.Alive.{held_within, placed}
use Rattle.melt_core.proofs.Objects.{value_named}

-- one of the first registers, so many of them, holds the object
abbrev pub HeldBelow : View → ℕ → ℕ → Type 0
HeldBelow v k n = (i : ℕ) × (i < k) × (value v (i / 16) (i % 16) ≡ Ref n)

-- What is known when the first registers, so many of them, were looked at: the objects in them take so many words, at
-- most 126 for each register, and the threads to which they belong have 16 each.
pub record Counted (v : View) (k words : ℕ) : Type 0 where
  pub few : words ≤ 126 * k
  pub sixteen : (t : ℕ) → 16 * t < k → length (registers_in v.held t) ≡ 16
  pub adds_up : (disk : OnDisk) → Standing true disk v → CostsSum (words_of v.log) (HeldBelow v k) words

-- The register is the first that holds its object, which takes so many words; its thread has 16.
pub record FirstAt (v : View) (k words : ℕ) : Type 0 where
  pub sixteen : length (registers_in v.held (k / 16)) ≡ 16
  pub some : nth_register v.held k ≢ 0
  pub first : IsHeldBefore v.held k → ⊥
  pub takes : Takes v (nth_register v.held k) words

-- before the first register no word is counted
pub counted_none : (v : View) → Counted v 0 0
counted_none v = record {
  few = omega arith;
  sixteen = λ t none. absurd (omega (arith, none));
  adds_up = λ disk s.
      CostsSum-empty (words_of v.log) (HeldBelow v 0) (λ n is. let below = is.1 in omega (arith, below));
}

-- the threads up to that of one register more have 16 each
sixteen_more : (v : View) (k : ℕ) → ((t : ℕ) → 16 * t < k → length (registers_in v.held t) ≡ 16)
    → length (registers_in v.held (k / 16)) ≡ 16 → (t : ℕ) → 16 * t < k + 1 → length (registers_in v.held t) ≡ 16
sixteen_more v k before here t below = elim (cases_lt (16 * t) k) [
  | inl less ↦ before t less
  | inr same ↦
      let is : k / 16 ≡ t = omega (arith, same, below) in
      subst (λ (u : ℕ). length (registers_in v.held u) ≡ 16) is here
]

module _ (disk : OnDisk) (v : View) (s : Standing true disk v) where
  -- a register that holds an object has its address
  address_at : (i n : ℕ) → value v (i / 16) (i % 16) ≡ Ref n
      → (1 ≤ nth_register v.held i) × ((maps v).address (nth_register v.held i) ≡ Some n)
  address_at i n is =
      held_address (maps v) n (nth_register v.held i) (value v (i / 16) (i % 16))
      ((placed disk v s).registers (i / 16) (i % 16)) is

  -- the address of an object tells which one the register holds
  same_object : (i k n m : ℕ) → i ≡ k → (maps v).address (nth_register v.held k) ≡ Some n
      → value v (i / 16) (i % 16) ≡ Ref m → m ≡ n
  same_object i k n m same named is =
      let there : (maps v).address (nth_register v.held i) ≡ Some m = (address_at i m is).1 in
      let here : (maps v).address (nth_register v.held i) ≡ Some n =
      ap (λ (j : ℕ). (maps v).address (nth_register v.held j)) same ∙ named in
      cc

  -- the objects in one register more, where that holds one
  one_more : (k n m : ℕ) → (maps v).address (nth_register v.held k) ≡ Some n
      → (HeldBelow v k m ⊎ (m ≡ n)) ↔ HeldBelow v (k + 1) m
  one_more k n m named = (
    λ is. elim is [
      | inl before ↦ (before.0, let below = before.1 in omega (arith, below), before.2)
      | inr same ↦ (
        k,
        omega arith,
        value_named v (k / 16) (k % 16) (nth_register v.held k) n refl named ∙ ap Ref (sym same),
      )
    ],
    λ is. elim (cases_lt is.0 k) [
      | inl below ↦ inl (is.0, below, is.2)
      | inr above ↦
          inr (same_object is.0 k n m (let below = is.1 in omega (arith, above, below)) named is.2)
    ],
  )

  -- and where it holds nothing, or what a register before it holds
  no_more : (k m : ℕ) → (nth_register v.held k ≡ 0) ⊎ IsHeldBefore v.held k → HeldBelow v k m ↔ HeldBelow v (k + 1) m
  no_more k m none = (
    λ is. (is.0, let below = is.1 in omega (arith, below), is.2),
    λ is. elim (cases_lt is.0 k) [
      | inl below ↦ (is.0, below, is.2)
      | inr above ↦
          let same : is.0 ≡ k = let below = is.1 in omega (arith, above, below) in
          let at = address_at k m (subst (λ (i : ℕ). value v (i / 16) (i % 16) ≡ Ref m) same is.2) in
          elim none [
            | inl nothing ↦ absurd (let first = at.0 in omega (arith, nothing, first))
            | inr before ↦ (
              before.0,
              before.1,
              value_named v (before.0 / 16) (before.0 % 16) (nth_register v.held k) m before.2 at.1,
            )
          ]
    ],
  )

  -- the first register that holds an object adds its words
  first_adds : (k words more n : ℕ) → CostsSum (words_of v.log) (HeldBelow v k) words → FirstAt v k more
      → (maps v).address (nth_register v.held k) ≡ Some n
      → CostsSum (words_of v.log) (HeldBelow v (k + 1)) (words + more)
  first_adds k words more n before at named =
      let new : HeldBelow v k n → ⊥ = λ is.
      at.first (
        is.0,
        is.1,
        (s.holds.tells refl).one_address (nth_register v.held is.0) (nth_register v.held k) n
            (address_at is.0 n is.2).1 named,
      ) in
      subst (λ (w : ℕ). CostsSum (words_of v.log) (HeldBelow v (k + 1)) (words + w)) (sym (at.takes.is disk n s named))
      (CostsSum-same (words_of v.log) (λ m. HeldBelow v k m ⊎ (m ≡ n)) (HeldBelow v (k + 1))
      (words + words_of v.log n) (λ m. one_more k n m named)
      (CostsSum-more (words_of v.log) (HeldBelow v k) n words new before))

-- a register that holds nothing, or what one before it holds, adds no words
pub counted_more : (v : View) (k words : ℕ) → Counted v k words → length (registers_in v.held (k / 16)) ≡ 16
    → (nth_register v.held k ≡ 0) ⊎ IsHeldBefore v.held k → Counted v (k + 1) words
counted_more v k words before here none = record {
  few = let few = before.few in omega (arith, few);
  sixteen = sixteen_more v k before.sixteen here;
  adds_up = λ disk s.
      CostsSum-same (words_of v.log) (HeldBelow v k) (HeldBelow v (k + 1)) words (λ m. no_more disk v s k m none)
      (before.adds_up disk s);
}

-- and the first that holds its object adds the words of that
pub counted_first : (v : View) (k words more : ℕ) → Counted v k words → FirstAt v k more
    → Counted v (k + 1) (words + more)
counted_first v k words more before at = record {
  few = let few = before.few in let small = at.takes.few in omega (arith, few, small);
  sixteen = sixteen_more v k before.sixteen at.sixteen;
  adds_up = λ disk s. elim (s.registers (k / 16) (k % 16)) [
    | inl nothing ↦ absurd (at.some nothing)
    | inr holds ↦ first_adds disk v s k words more holds.0.0 (before.adds_up disk s) at holds.0.1
  ];
}

-- a thread has no register past the last one
register_within : (v : View) (t r n : ℕ) → length (registers_in v.held t) ≡ 16 → value v t r ≡ Ref n → r < 16
register_within v t r n sixteen is = elim (cases_lt r 16) [
  | inl below ↦ below
  | inr past ↦ absurd (
      let size : length (values_of v t) ≡ length (registers_in v.held t) = length-map (registers_in v.held t) _ in
      let nil : value v t r ≡ Nil = get_or_past (values_of v t) r Nil (omega (arith, size, sixteen, past)) in
      cc
      )
]

-- the object in a register of a thread is in one of all registers in a row
held_below : (v : View) (k n : ℕ) → 16 * length v.held ≤ k
    → ((t : ℕ) → 16 * t < k → length (registers_in v.held t) ≡ 16) → Held (value v) n → HeldBelow v k n
held_below v k n whole sixteen held =
    let t = held.thread in
    let r = held.register in
    let thread : t < length v.held = held_within v t r n held.holds in
    let below : r < 16 = register_within v t r n (sixteen t (omega (arith, thread, whole))) held.holds in
    let at_thread : (16 * t + r) / 16 ≡ t = omega (arith, below) in
    let at_register : (16 * t + r) % 16 ≡ r = omega (arith, below) in (
      16 * t + r,
      omega (arith, thread, whole, below),
      ap (λ (u : ℕ). value v u ((16 * t + r) % 16)) at_thread ∙ (ap (value v t) at_register ∙ held.holds),
    )

-- when all registers were looked at, the words are those of all objects in registers
pub all_held : (v : View) (k words : ℕ) → Counted v k words → 16 * length v.held ≤ k → (disk : OnDisk)
    → Standing true disk v → CostsSum (words_of v.log) (Held (value v)) words
all_held v k words counted whole = λ disk s.
    CostsSum-same (words_of v.log) (HeldBelow v k) (Held (value v)) words (λ n. (
      λ is. record { thread = is.0 / 16; register = is.0 % 16; holds = is.2 },
      λ held. held_below v k n whole counted.sixteen held,
    )) (counted.adds_up disk s)

-- an object stands where a register points
held_object : (v : View) (address : ℕ) (is : IsHeld v address)
    → (header : Header) × ObjectAt (state is.sound.0 v) address header
held_object v address is = elim (is.sound.1.registers is.holds.0 is.holds.1) [
  | inl nothing ↦ absurd (is.some (sym is.holds.2 ∙ nothing))
  | inr holds ↦
      is.sound.1.holds.formed.objects address holds.0.0 (ap (maps v).address (sym is.holds.2) ∙ holds.0.1)
]

-- so a header is at its address
pub header_held : (space : SpaceWords) (v : View) (address : ℕ) → v.space ≡ space → IsHeld v address
    → IsWord space address × HasHeader space address
header_held space v address same is =
    let object = held_object v address is in
    subst (λ (s : SpaceWords). IsWord s address × HasHeader s address) same (
      record {
        first = object.1.first;
        last = let within = object.1.within in omega (arith, within);
      },
      record { header = object.0; in_range = object.1.starts.in_range; word = object.1.starts.word },
    )

-- the shape that was read off the header tells how many words the object takes, in each view of these words
pub takes_shape : (space : SpaceWords) (v : View) (address words : ℕ) (shape : Shape) → v.space ≡ space
    → IsHeld v address → ((h : Header) → IsHeader h → word_at space address ≡ header_word h → shape ≡ h.shape)
    → words ≡ cost_of shape → (w : View) → w.space ≡ space → Takes w address words
takes_shape space v address words shape same is shaped costs w seen =
    let object = held_object v address is in
    let shape_is : shape ≡ object.0.shape =
    shaped object.0 object.1.starts.in_range
    (ap (λ (s : SpaceWords). word_at s address) (sym same) ∙ object.1.starts.word) in
    record {
      few =
          let refs : object.0.shape.refs ≤ 62 = object.1.starts.in_range.refs in
          let nums : object.0.shape.nums ≤ 62 = object.1.starts.in_range.nums in
          let cost : words ≡ 2 + object.0.shape.refs + object.0.shape.nums = costs ∙ ap cost_of shape_is in
          omega (arith, refs, nums, cost);
      is = λ disk n s named.
          let there = s.holds.formed.objects address n named in
          let there_is : shape ≡ there.0.shape =
          shaped there.0 there.1.starts.in_range
          (ap (λ (s : SpaceWords). word_at s address) (sym seen) ∙ there.1.starts.word) in
          costs
          ∙ (ap cost_of there_is
          ∙ sym (ap (λ (o : Option ModelShape). option_map_or (λ (z : ModelShape). 2 + z.refs + z.nums) o 0)
          ((s.holds.tells refl).shapes address n there.0 named there.1.starts)));
    }
