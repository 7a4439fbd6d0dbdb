-- What a collection finds in a state are the objects that are alive in the history for which it stands.
use Rattle.std.proofs.Common.{◌≡◌, ℕ, ◌+◌, ◌<◌, ◌≤◌, zero, suc, List, [], refl, sym, ◌∙◌, ap, subst, arith, ◌⊎◌, inl}
use Rattle.std.proofs.Common.{inr}
use Rattle.std.proofs.lemmas.Bool.{cases_lt}
use Rattle.std.specs.Prelude.{Option, None, Some}
use Rattle.std.specs.Option.{option_map}
use Rattle.melt_model.specs.History.{Legal, last}
use Rattle.melt_model.specs.Alive.{Alive}
use Rattle.melt_model.specs.declared.history.Value.{Value}
use Rattle.melt_model.specs.declared.history.Value.TheVariants.{Nil, Ref}
use Rattle.melt_model.specs.declared.history.Slot.TheVariants.{Field, Global}
use Rattle.melt_model.specs.declared.history.Entry.{Entry}
use Rattle.melt_model.proofs.Histories.{last_no_field, last_no_global}
use Rattle.melt_word.specs.Words.{ref_word, IsRef}
use Rattle.melt_word.specs.declared.reference.Ref as words
use Rattle.melt_word.specs.declared.reference.Ref.TheVariants.{Null, Clean, Stale, Disk}
use Rattle.melt_word.specs.declared.header.Header.{Header}
use Rattle.melt_word.proofs.OneToOne.{same_ref}
use Rattle.melt_scion.specs.State.{State, Reached, RefersTo, address_in, HeaderAt}
use Rattle.melt_scion.specs.Placed.{Maps, IsNamed, Formed, Placed, MayStand, MayHold, IsReferenceWord, Stands, value_of}
use Rattle.melt_scion.specs.Placed.{value_at}
use Rattle.melt_scion.proofs.Homeless.{no_homes}

-- the address of a reference that may stand in a slot is that of an object
named_by : (maps : Maps) (s : State) (address : ℕ) (r : words.Ref) → MayStand maps s r → address_in r ≡ Some address
    → IsNamed maps address
named_by maps s address Null stands at = absurd (cc)
named_by maps s address (Clean a) stands at = let e : a ≡ address = cc in subst (IsNamed maps) e stands.0
named_by maps s address (Stale a) stands at = let e : a ≡ address = cc in subst (IsNamed maps) e stands
named_by maps s address (Disk home) stands at = absurd (cc)

-- the reference that a word is known by is the one that it refers by
named_in : (maps : Maps) (s : State) (word address : ℕ) → IsReferenceWord maps s word → RefersTo word address
    → IsNamed maps address
named_in maps s word address is refers =
    let e : is.reference ≡ refers.reference =
    same_ref is.reference refers.reference is.in_range refers.in_range (sym is.is ∙ refers.is) in
    named_by maps s address is.reference is.stands (ap address_in e ∙ refers.at)

-- an address in a register is that of an object
held_named : (maps : Maps) (s : State) (address : ℕ) → MayHold maps s address → 1 ≤ address → IsNamed maps address
held_named maps s address (inl none) first = absurd (omega arith)
held_named maps s address (inr some) first = some.0

-- whatever is reached is an object of the map
pub reached_named : (maps : Maps) (s : State) (address : ℕ) → Formed maps s → Reached s address → IsNamed maps address
reached_named maps s address formed (Reached.in_register t r a e first) =
    held_named maps s a (subst (MayHold maps s) e (formed.registers t r)) first
reached_named maps s address formed (Reached.in_global g a below refers) =
    named_in maps s (s.global g) a (formed.words.globals g below) refers
reached_named maps s address formed (Reached.at_scion k x live) = (formed.words.scions k x live).named
reached_named maps s address formed (Reached.in_slot from i a header found starts below refers) =
    let object = reached_named maps s from formed found in
    named_in maps s (s.word (from + 2 + i)) a (formed.words.slots from object.0 i header object.1 starts below) refers

-- the value of a reference by the address of an object is that object
value_by : (maps : Maps) (address n : ℕ) (r : words.Ref) (value : Value) → value_of maps r ≡ Some value
    → address_in r ≡ Some address → maps.address address ≡ Some n → value ≡ Ref n
value_by maps address n Null value is at named = absurd (cc)
value_by maps address n (Clean a) value is at named = let e : a ≡ address = cc in let f : maps.address a ≡ Some n =
    ap maps.address e ∙ named in let g : option_map Ref (maps.address a) ≡ Some (Ref n) = ap (option_map Ref) f in cc
value_by maps address n (Stale a) value is at named = let e : a ≡ address = cc in let f : maps.address a ≡ Some n =
    ap maps.address e ∙ named in let g : option_map Ref (maps.address a) ≡ Some (Ref n) = ap (option_map Ref) f in cc
value_by maps address n (Disk home) value is at named = absurd (cc)

value_in_word : (maps : Maps) (word address n : ℕ) (value : Value) → Stands maps word value → RefersTo word address
    → maps.address address ≡ Some n → value ≡ Ref n
value_in_word maps word address n value stands refers named =
    let e : stands.reference ≡ refers.reference =
    same_ref stands.reference refers.reference stands.in_range refers.in_range (sym stands.is ∙ refers.is) in
    value_by maps address n stands.reference value stands.stands_for (ap address_in e ∙ refers.at) named

-- the value of a register with the address of an object is that object
pub value_held : (maps : Maps) (address n : ℕ) (value : Value) → value_at maps address ≡ Some value → 1 ≤ address
    → maps.address address ≡ Some n → value ≡ Ref n
value_held maps zero n value is first named = absurd (omega arith)
value_held maps (suc a) n value is first named = let g : option_map Ref (maps.address (suc a)) ≡ Some (Ref n) =
    ap (option_map Ref) named in cc

-- Where no scion is live, what is reached is alive. A scion may hold an object to which only the dead on disk refer.
pub reached_alive : (h : List Entry) (value : ℕ → ℕ → Value) (maps : Maps) (s : State) (address n : ℕ)
    → Placed h value maps s → ((k : ℕ) → s.base.scion k ≡ None) → Reached s address → maps.address address ≡ Some n
    → Alive h value n
reached_alive h value maps s address n placed no_scions (Reached.in_register t r a e first) named =
    Alive.in_register n (record {
      thread = t;
      register = r;
      holds =
          value_held maps a n (value t r) (ap (value_at maps) (sym e) ∙ placed.registers t r) first named;
    })
reached_alive h value maps s address n placed no_scions (Reached.in_global g a below refers) named =
    Alive.in_global g n (value_in_word maps (s.global g) a n (last h (Global g))
    (placed.tells.globals g below) refers named)
reached_alive h value maps s address n placed no_scions (Reached.at_scion k x live) named =
    absurd (let dead = no_scions k in cc)
reached_alive h value maps s address n placed no_scions
    (Reached.in_slot from i a header found starts below refers) named =
    let object = reached_named maps s from placed.formed found in
    Alive.in_slot object.0 i n (reached_alive h value maps s from object.0 placed no_scions found object.1)
    (value_in_word maps (s.word (from + 2 + i)) a n (last h (Field object.0 i))
    (placed.tells.slots from object.0 i header object.1 starts below) refers named)

-- the word refers to the address of the object
abbrev FoundIn : Maps → ℕ → ℕ → Type 0
FoundIn maps word n = (address : ℕ) × (maps.address address ≡ Some n) × RefersTo word address

named_value : (o : Option ℕ) (n : ℕ) → option_map Ref o ≡ Some (Ref n) → o ≡ Some n
named_value None n e = absurd (cc)
named_value (Some m) n e = cc

-- a word that stands for an object, where none has a home, refers to the address of that object
found_by : (maps : Maps) (word n : ℕ) (r : words.Ref) → ((home m : ℕ) → maps.home home ≡ Some m → ⊥) → IsRef r
    → word ≡ ref_word r → value_of maps r ≡ Some (Ref n) → FoundIn maps word n
found_by maps word n Null homeless in_range is stands = absurd (cc)
found_by maps word n (Clean a) homeless in_range is stands =
    (a, named_value (maps.address a) n stands, record { reference = Clean a; in_range = in_range; is = is; at = refl })
found_by maps word n (Stale a) homeless in_range is stands =
    (a, named_value (maps.address a) n stands, record { reference = Stale a; in_range = in_range; is = is; at = refl })
found_by maps word n (Disk home) homeless in_range is stands =
    absurd (homeless home n (named_value (maps.home home) n stands))

found_in : (maps : Maps) (word n : ℕ) (value : Value) → ((home m : ℕ) → maps.home home ≡ Some m → ⊥)
    → Stands maps word value → value ≡ Ref n → FoundIn maps word n
found_in maps word n value homeless stands is =
    found_by maps word n stands.reference homeless stands.in_range stands.is (stands.stands_for ∙ ap Some is)

abbrev FoundAt : Maps → State → ℕ → Type 0
FoundAt maps s n = (address : ℕ) × (maps.address address ≡ Some n) × Reached s address

-- the address in a register that stands for an object
pub held_address : (maps : Maps) (n address : ℕ) (value : Value) → value_at maps address ≡ Some value → value ≡ Ref n
    → (1 ≤ address) × (maps.address address ≡ Some n)
held_address maps n zero value stands is = absurd (cc)
held_address maps n (suc a) value stands is = (omega arith, named_value (maps.address (suc a)) n (stands ∙ ap Some is))

-- Nil is no object
not_nil : (value : Value) (n : ℕ) → value ≡ Nil → value ≡ Ref n → ⊥
not_nil value n nil ref = cc

module _ (h : List Entry) (value : ℕ → ℕ
    → Value) (maps : Maps) (s : State) (legal : Legal h s.base.globals) (placed : Placed h value maps s)
    (none_reserved : s.base.homes ≡ []) where
  homeless : (home m : ℕ) → maps.home home ≡ Some m → ⊥
  homeless = no_homes h maps s placed.tells none_reserved

  found_global : (g n : ℕ) → last h (Global g) ≡ Ref n → (g < s.base.globals) ⊎ (s.base.globals ≤ g) → FoundAt maps s n
  found_global g n is (inl below) =
      let found = found_in maps (s.global g) n (last h (Global g)) homeless (placed.tells.globals g below) is in
      (found.0, found.1, Reached.in_global g found.0 below found.2)
  found_global g n is (inr above) =
      absurd (not_nil (last h (Global g)) n (last_no_global h s.base.globals g legal above) is)

  found_slot : (from m i n : ℕ) (header : Header) → maps.address from ≡ Some m → HeaderAt s from header → Reached s from
      → last h (Field m i) ≡ Ref n → (i < header.shape.refs) ⊎ (header.shape.refs ≤ i) → FoundAt maps s n
  found_slot from m i n header named starts reaches is (inl below) =
      let found = found_in maps (s.word (from + 2 + i)) n (last h (Field m i)) homeless
      (placed.tells.slots from m i header named starts below) is in
      (found.0, found.1, Reached.in_slot from i found.0 header reaches starts below found.2)
  found_slot from m i n header named starts reaches is (inr above) =
      absurd (not_nil (last h (Field m i)) n
      (last_no_field h s.base.globals m i _ legal (placed.tells.shapes from m header named starts) above) is)

  -- where no object has a home, what is alive is reached at its address
  pub alive_reached : (n : ℕ) → Alive h value n → (address : ℕ) × (maps.address address ≡ Some n) × Reached s address
  alive_reached n (Alive.in_register k held) =
      let at = s.register held.thread held.register in
      let is = held_address maps k at (value held.thread held.register)
      (placed.registers held.thread held.register) held.holds in
      (at, is.1, Reached.in_register held.thread held.register at refl is.0)
  alive_reached n (Alive.in_global g k is) = found_global g k is (cases_lt g s.base.globals)
  alive_reached n (Alive.in_slot m i k lives is) =
      let from = alive_reached m lives in
      let object = placed.formed.words.objects from.0 m from.1 in
      found_slot from.0 m i k object.0 from.1 object.1.starts from.2 is (cases_lt i object.0.shape.refs)
