-- Between two events the state is placed for the history; what is alive has an address or a home, and its words have a
-- sum.
use Rattle.std.proofs.Common.{◌≡◌, ◌⊎◌, ℕ, ◌+◌, ◌<◌, ◌≤◌, List, [], length, refl, sym, ◌∙◌, ap, arith, inl, inr}
use Rattle.std.proofs.Math.ListN.{length-map}
use Rattle.std.proofs.lemmas.Bool.{cases_lt}
use Rattle.std.proofs.lemmas.List.{get_or_past}
use Rattle.std.specs.Prelude.{true, Option, None, Some, map}
use Rattle.std.specs.Option.{option_map}
use Rattle.melt_model.specs.History.{Shape as ModelShape, Legal, shape, last}
use Rattle.melt_model.specs.Alive.{Alive, words_of, CostsSum}
use Rattle.melt_model.specs.Thread.{value_in}
use Rattle.melt_model.specs.declared.history.Entry.{Entry}
use Rattle.melt_model.specs.declared.history.Slot.TheVariants.{Field, Global}
use Rattle.melt_model.specs.declared.history.Value.{Value}
use Rattle.melt_model.specs.declared.history.Value.TheVariants.{Nil, Ref}
use Rattle.melt_model.proofs.AliveSums as sums
use Rattle.melt_model.proofs.Histories.{last_no_field, last_no_global}
use Rattle.melt_word.specs.declared.reference.Ref as words
use Rattle.melt_word.specs.declared.reference.Ref.TheVariants.{Null, Clean, Stale, Disk}
use Rattle.melt_scion.specs.State.{State}
use Rattle.melt_scion.specs.Placed.{Maps, Placed, Stands, HomeStands, value_of}
use Rattle.melt_scion.specs.Heaps.{OnDisk, register_in}
use Rattle.melt_scion.specs.declared.registers.Registers.{Registers}
use Rattle.melt_scion.proofs.Reaching.{held_address}
use Rattle.melt_core.specs.Views.{View, InUse, maps, state, value, values_of, registers_in, held_values, Standing}
use Rattle.melt_core.proofs.Values.{value_held, may_value}

-- the state is placed for the history, with the values of all registers
pub placed : (disk : OnDisk) (v : View) → Standing true disk v → Placed v.log (value v) (maps v) (state disk v)
placed disk v s = record {
  formed = record { words = s.holds.formed; registers = s.registers };
  tells = s.holds.tells refl;
  registers = λ t r. may_value v.names (state disk v) (register_in v.held t r) (s.registers t r)
      ∙ ap Some (sym (value_held v.names (registers_in v.held t) r));
}

-- the object has an address or a home
abbrev pub HasPlace : Maps → ℕ → Type 0
HasPlace maps n = InUse maps n ⊎ ((home : ℕ) × (maps.home home ≡ Some n))

mapped : (o : Option ℕ) (n : ℕ) → option_map Ref o ≡ Some (Ref n) → o ≡ Some n
mapped None n e = absurd (cc)
mapped (Some m) n e = cc

-- so has one for which a reference stands
referred_place : (maps : Maps) (n : ℕ) (r : words.Ref) → value_of maps r ≡ Some (Ref n) → HasPlace maps n
referred_place maps n Null stands = absurd (cc)
referred_place maps n (Clean a) stands = inl (a, mapped (maps.address a) n stands)
referred_place maps n (Stale a) stands = inl (a, mapped (maps.address a) n stands)
referred_place maps n (Disk home) stands = inr (home, mapped (maps.home home) n stands)

word_place : (maps : Maps) (word n : ℕ) (value : Value) → Stands maps word value → value ≡ Ref n → HasPlace maps n
word_place maps word n value stands is = referred_place maps n stands.reference (stands.stands_for ∙ ap Some is)

-- Nil is no object
not_nil : (value : Value) (n : ℕ) → value ≡ Nil → value ≡ Ref n → ⊥
not_nil value n nil ref = cc

module _ (h : List Entry) (value : ℕ → ℕ → Value) (maps : Maps) (s : State) (legal : Legal h s.base.globals)
    (placed : Placed h value maps s) where
  global_place : (g n : ℕ) → last h (Global g) ≡ Ref n → HasPlace maps n
  global_place g n is = elim (cases_lt g s.base.globals) [
    | inl below ↦ word_place maps (s.global g) n (last h (Global g)) (placed.tells.globals g below) is
    | inr above ↦ absurd (not_nil (last h (Global g)) n (last_no_global h s.base.globals g legal above) is)
  ]

  -- no value of a slot that the shape does not have is an object
  no_slot : (m i n : ℕ) (z : ModelShape) → shape h m ≡ Some z → z.refs ≤ i → last h (Field m i) ≡ Ref n → ⊥
  no_slot m i n z is above at =
      not_nil (last h (Field m i)) n (last_no_field h s.base.globals m i z legal is above) at

  -- what a slot of an object holds has a place, where the object has an address
  slot_place : (m i n : ℕ) → InUse maps m → last h (Field m i) ≡ Ref n → HasPlace maps n
  slot_place m i n (from, named) at =
      let object = placed.formed.words.objects from m named in
      let shaped : shape h m ≡ Some (record { refs = object.0.shape.refs; nums = object.0.shape.nums }) =
      placed.tells.shapes from m object.0 named object.1.starts in
      elim (cases_lt i object.0.shape.refs) [
        | inl below ↦ word_place maps (s.word (from + 2 + i)) n (last h (Field m i))
            (placed.tells.slots from m i object.0 named object.1.starts below) at
        | inr above ↦ absurd (no_slot m i n _ shaped above at)
      ]

  -- and where it has a home
  body_place : (m i n home : ℕ) → HomeStands h maps s home m → last h (Field m i) ≡ Ref n → HasPlace maps n
  body_place m i n home stands at = elim stands.is [
    | inl body ↦ elim (cases_lt i stands.reserved_for.refs) [
      | inl below ↦ word_place maps (s.base.image (home + 2 + i)) n (last h (Field m i)) (body.slots i below) at
      | inr above ↦ absurd (no_slot m i n _ stands.shape_is above at)
    ]
    | inr named ↦ elim named [
      | inl stub ↦ slot_place m i n (stub.address, stub.named) at
      | inr forwarded ↦ slot_place m i n (forwarded.address, forwarded.named) at
    ]
  ]

  -- what is alive has an address or a home
  pub alive_place : (n : ℕ) → Alive h value n → HasPlace maps n
  alive_place n (Alive.in_register k held) =
      let at = s.register held.thread held.register in
      let is = held_address maps k at (value held.thread held.register)
      (placed.registers held.thread held.register) held.holds in
      inl (at, is.1)
  alive_place n (Alive.in_global g k is) = global_place g k is
  alive_place n (Alive.in_slot m i k lives is) = elim (alive_place m lives) [
    | inl named ↦ slot_place m i k named is
    | inr home ↦ body_place m i k home.0 (placed.tells.homes home.0 m home.1) is
  ]

-- a thread that is not there holds nothing
pub held_within : (v : View) (t r n : ℕ) → value_in (values_of v t) r ≡ Ref n → t < length v.held
held_within v t r n is = elim (cases_lt t (length v.held)) [
  | inl below ↦ below
  | inr past ↦ absurd (
      let size : length (map (λ (x : Registers). x.regs) v.held) ≡ length v.held =
      length-map v.held (λ (x : Registers). x.regs) in
      let none : registers_in v.held t ≡ [] = get_or_past (map (λ (x : Registers). x.regs) v.held) t [] (omega arith) in
      let nil : value_in (values_of v t) r ≡ Nil = ap (λ (regs : List ℕ). value_in (held_values v.names regs) r) none in
      cc
      )
]

pub alive_sum : (disk : OnDisk) (v : View) → Standing true disk v
    → (total : ℕ) × CostsSum (words_of v.log) (Alive v.log (value v)) total
alive_sum disk v s = sums.alive_sum v.log (values_of v) (length v.held) (λ t r n is. held_within v t r n is)
