-- Each object that is alive is in use, or lies on the disk; and a collection of a settled heap finds it where it is in use.
use Rattle.std.proofs.Common.{◌≡◌, ◌⊎◌, ℕ, ◌+◌, ◌*◌, ◌<◌, ◌≤◌, List, inl, inr, refl, ◌∙◌, ap, subst, arith}
use Rattle.std.proofs.lemmas.Bool.{cases_lt}
use Rattle.std.specs.Prelude.{Option, None, Some}
use Rattle.std.specs.Option.{option_map}
use Rattle.melt_model.specs.Alive.{Alive}
use Rattle.melt_model.specs.History.{Shape as ModelShape, Legal, shape, last}
use Rattle.melt_model.specs.declared.history.Entry.{Entry}
use Rattle.melt_model.specs.declared.history.Slot.TheVariants.{Field, Global}
use Rattle.melt_model.specs.declared.history.Value.{Value}
use Rattle.melt_model.specs.declared.history.Value.TheVariants.{Nil, Ref}
use Rattle.melt_model.proofs.Histories.{last_no_field, last_no_global}
use Rattle.melt_word.specs.Words.{IsRef, ref_word}
use Rattle.melt_word.specs.declared.header.Header.{Header}
use Rattle.melt_word.specs.declared.header.Shape.{Shape}
use Rattle.melt_word.specs.declared.reference.Ref as words
use Rattle.melt_word.specs.declared.reference.Ref.TheVariants.{Null, Clean, Stale, Disk}
use Rattle.melt_record.specs.Records.{IsSlotWord}
use Rattle.melt_scion.specs.State.{Forwards, HeaderAt, Reached, RefersTo, Scion, State, address_in}
use Rattle.melt_scion.specs.Placed.{Maps, Placed, Stands, HomeStands, IsBody, value_of}
use Rattle.melt_scion.proofs.Reaching.{held_address}
use Rattle.melt_scion.proofs.Starting.{sends_nothing}
use Rattle.melt_core.specs.Views.{InUse}
use Rattle.melt_safepoint.specs.Bits.{IsOnDisk}

mapped : (o : Option ℕ) (n : ℕ) → option_map Ref o ≡ Some (Ref n) → o ≡ Some n
mapped None n e = absurd (cc)
mapped (Some m) n e = cc

-- Nil is no object
not_nil : (value : Value) (n : ℕ) → value ≡ Nil → value ≡ Ref n → ⊥
not_nil value n nil ref = cc

-- the reference of a slot word has no address
slot_homes : (end a : ℕ) (r : words.Ref) → IsRef r → IsSlotWord end (ref_word r) → address_in r ≡ Some a → ⊥
slot_homes end a Null range slot at = absurd (cc)
slot_homes end a (Clean b) range slot at =
    let first : 0 < b = range.not_null in
    elim slot [ inl none ↦ omega arith | inr some ↦ let e : 4 * b ≡ 4 * some.0 + 3 = some.3 in omega arith ]
slot_homes end a (Stale b) range slot at =
    elim slot [ inl none ↦ omega arith | inr some ↦ let e : 4 * b + 1 ≡ 4 * some.0 + 3 = some.3 in omega arith ]
slot_homes end a (Disk home) range slot at = absurd (cc)

-- so it refers to no address
slot_refers : (end word a : ℕ) → IsSlotWord end word → RefersTo word a → ⊥
slot_refers end word a slot refers =
    slot_homes end a refers.reference refers.in_range (subst (IsSlotWord end) refers.is slot) refers.at

-- Addresses are found so: what registers hold, what globals and slots of what is found refer to, and what scions and
-- forwarding words name.
record Finds (s : State) (At : ℕ → Type 0) : Type 0 where
  held : (t r : ℕ) → 1 ≤ s.register t r → At (s.register t r)
  in_global : (g a : ℕ) → g < s.base.globals → RefersTo (s.global g) a → At a
  in_slot : (from i a : ℕ) (header : Header) → At from → HeaderAt s from header → i < header.shape.refs
      → RefersTo (s.word (from + 2 + i)) a → At a
  at_scion : (k : ℕ) (x : Scion) → s.base.scion k ≡ Some x → At x.address
  sent : (home a : ℕ) → Forwards s home a → At a

-- a collection of a settled heap finds so what it reaches
finds_reached : (s : State) → ((p : ℕ) → p < s.base.forwards → s.forward p ≡ 0) → Finds s (Reached s)
finds_reached s settled = record {
  held = λ t r some. Reached.in_register t r (s.register t r) refl some;
  in_global = λ g a below refers. Reached.in_global g a below refers;
  in_slot = λ from i a header reached starts below refers.
      Reached.in_slot from i a header reached starts below refers;
  at_scion = λ k x live. Reached.at_scion k x live;
  sent = λ home a forwards.
      absurd (sends_nothing (s.forward forwards.place) home a (settled forwards.place forwards.within) forwards.sends);
}

-- and each address is found in some way
finds_each : (s : State) → Finds s (λ a. Unit {0})
finds_each s = record {
  held = λ t r some. tt;
  in_global = λ g a below refers. tt;
  in_slot = λ from i a header is starts below refers. tt;
  at_scion = λ k x live. tt;
  sent = λ home a forwards. tt;
}

module _ (h : List Entry) (value : ℕ → ℕ → Value) (m : Maps) (s : State) (legal : Legal h s.base.globals)
    (placed : Placed h value m s) (At : ℕ → Type 0) (finds : Finds s At) where
  -- the object is found at its address
  abbrev FoundAt : ℕ → Type 0
  FoundAt n = (a : ℕ) × (m.address a ≡ Some n) × At a

  -- or a Body on disk has its values
  record InBody (n : ℕ) : Type 0 where
    home : ℕ
    named : m.home home ≡ Some n
    reserved_for : Shape
    shape_is : shape h n ≡ Some (record { refs = reserved_for.refs; nums = reserved_for.nums })
    body : IsBody h m s.base home n reserved_for

  abbrev IsFound : ℕ → Type 0
  IsFound n = FoundAt n ⊎ InBody n

  -- an object with a home is found by its scion or a forwarding word, or is in a Body
  home_found : (home n : ℕ) → m.home home ≡ Some n → IsFound n
  home_found home n named =
      let stands : HomeStands h m s home n = placed.tells.homes home n named in
      elim stands.is [
        | inl body ↦ inr (record {
          home = home;
          named = named;
          reserved_for = stands.reserved_for;
          shape_is = stands.shape_is;
          body = body;
        })
        | inr other ↦ elim other [
          | inl stub ↦ inl (
            stub.address,
            stub.named,
            finds.at_scion stub.scion (record { home = home; address = stub.address }) stub.live,
          )
          | inr sent ↦ inl (sent.address, sent.named, finds.sent home sent.address sent.forwards)
        ]
      ]

  -- what is in a Body lies on the disk
  in_body : (n : ℕ) → InBody n → IsOnDisk m n
  in_body n is = record {
    home = is.home;
    named = is.named;
    nowhere = λ in_use. is.body.nowhere in_use.0 in_use.1;
  }

  -- and so is one for which a reference stands, where what it refers to is found
  ref_found : (word n : ℕ) (r : words.Ref) → IsRef r → word ≡ ref_word r → value_of m r ≡ Some (Ref n)
      → ((a : ℕ) → RefersTo word a → At a) → IsFound n
  ref_found word n Null range is stands find = absurd (cc)
  ref_found word n (Clean a) range is stands find = inl (
    a,
    mapped (m.address a) n stands,
    find a (record { reference = Clean a; in_range = range; is = is; at = refl }),
  )
  ref_found word n (Stale a) range is stands find = inl (
    a,
    mapped (m.address a) n stands,
    find a (record { reference = Stale a; in_range = range; is = is; at = refl }),
  )
  ref_found word n (Disk home) range is stands find = home_found home n (mapped (m.home home) n stands)

  word_found : (word n : ℕ) (x : Value) → Stands m word x → x ≡ Ref n → ((a : ℕ) → RefersTo word a → At a)
      → IsFound n
  word_found word n x stands is find =
      ref_found word n stands.reference stands.in_range stands.is (stands.stands_for ∙ ap Some is) find

  global_found : (g n : ℕ) → last h (Global g) ≡ Ref n → IsFound n
  global_found g n is = elim (cases_lt g s.base.globals) [
    | inl below ↦ word_found (s.global g) n (last h (Global g)) (placed.tells.globals g below) is
        (λ a refers. finds.in_global g a below refers)
    | inr above ↦ absurd (not_nil (last h (Global g)) n (last_no_global h s.base.globals g legal above) is)
  ]

  -- no value of a slot that the shape does not have is an object
  no_slot : (k i n : ℕ) (z : ModelShape) → shape h k ≡ Some z → z.refs ≤ i → last h (Field k i) ≡ Ref n → ⊥
  no_slot k i n z is above at =
      not_nil (last h (Field k i)) n (last_no_field h s.base.globals k i z legal is above) at

  -- what a slot holds is found, where its object is
  slot_found : (k i n : ℕ) → FoundAt k → last h (Field k i) ≡ Ref n → IsFound n
  slot_found k i n (from, named, found) at =
      let object = placed.formed.words.objects from k named in
      elim (cases_lt i object.0.shape.refs) [
        | inl below ↦ word_found (s.word (from + 2 + i)) n (last h (Field k i))
            (placed.tells.slots from k i object.0 named object.1.starts below) at
            (λ a refers. finds.in_slot from i a object.0 found object.1.starts below refers)
        | inr above ↦ absurd (no_slot k i n _ (placed.tells.shapes from k object.0 named object.1.starts) above at)
      ]

  -- or is in a Body
  body_found : (k i n : ℕ) → InBody k → last h (Field k i) ≡ Ref n → IsFound n
  body_found k i n at is = elim (cases_lt i at.reserved_for.refs) [
    | inl below ↦ word_found (s.base.image (at.home + 2 + i)) n (last h (Field k i)) (at.body.slots i below) is
        (λ a refers. absurd (
        slot_refers s.base.end (s.base.image (at.home + 2 + i)) a (at.body.are_slots i below) refers
        ))
    | inr above ↦ absurd (no_slot k i n _ at.shape_is above is)
  ]

  -- what is alive is found or is in a Body
  alive_found : (n : ℕ) → Alive h value n → IsFound n
  alive_found n (Alive.in_register k held) =
      let at = s.register held.thread held.register in
      let is = held_address m k at (value held.thread held.register)
      (placed.registers held.thread held.register) held.holds in
      inl (at, is.1, finds.held held.thread held.register is.0)
  alive_found n (Alive.in_global g k is) = global_found g k is
  alive_found n (Alive.in_slot k i j lives is) = elim (alive_found k lives) [
    | inl at ↦ slot_found k i j at is
    | inr body ↦ body_found k i j body is
  ]

module _ (h : List Entry) (value : ℕ → ℕ → Value) (m : Maps) (s : State) (legal : Legal h s.base.globals)
    (placed : Placed h value m s) where
  -- what is alive is in use or lies on the disk
  pub alive_lies : (n : ℕ) → Alive h value n → InUse m n ⊎ IsOnDisk m n
  alive_lies n alive = elim (alive_found h value m s legal placed (λ a. Unit {0}) (finds_each s) n alive) [
    | inl at ↦ inl (at.0, at.1)
    | inr body ↦ inr (in_body h value m s legal placed (λ a. Unit {0}) (finds_each s) n body)
  ]

  module _ (settled : (p : ℕ) → p < s.base.forwards → s.forward p ≡ 0) where
    -- where no forwarding word is filled, what is in use and alive is reached
    pub alive_reached : (n a : ℕ) → Alive h value n → m.address a ≡ Some n → Reached s a
    alive_reached n a alive named =
        elim (alive_found h value m s legal placed (Reached s) (finds_reached s settled) n alive) [
          | inl at ↦ subst (Reached s) (placed.tells.one_address at.0 a n at.1 named) at.2
          | inr body ↦ absurd (body.body.nowhere a named)
        ]

    -- and so is what has a home, or it lies on the disk
    pub home_reached : (home n : ℕ) → m.home home ≡ Some n
        → ((a : ℕ) × (m.address a ≡ Some n) × Reached s a) ⊎ IsOnDisk m n
    home_reached home n named =
        elim (home_found h value m s legal placed (Reached s) (finds_reached s settled) home n named) [
          | inl at ↦ inl at
          | inr body ↦ inr (in_body h value m s legal placed (Reached s) (finds_reached s settled) n body)
        ]
