-- References stand for the same values after a collection: those in what stays, and those in Bodies.
use Rattle.std.proofs.Common.{◌≡◌, ◌≢◌, ℕ, ◌+◌, ◌<◌, ◌≤◌, refl, sym, ◌∙◌, ap, subst, arith, inl, inr, List}
use Rattle.std.specs.Prelude.{Some}
use Rattle.std.specs.Option.{option_map}
use Rattle.melt_model.specs.declared.history.Entry.{Entry}
use Rattle.melt_model.specs.declared.history.Value.{Value}
use Rattle.melt_model.specs.declared.history.Value.TheVariants.{Ref}
use Rattle.melt_word.specs.Words.{IsRef, ref_word, cost_of}
use Rattle.melt_word.specs.declared.header.Header.{Header}
use Rattle.melt_word.specs.declared.reference.Ref as words
use Rattle.melt_word.specs.declared.reference.Ref.TheVariants.{Null, Clean, Stale, Disk}
use Rattle.melt_record.specs.Records.{IsSlotWord}
use Rattle.melt_scion.specs.State.{State, HeaderAt, address_in, RefersTo, Reached}
use Rattle.melt_scion.specs.Placed.{MayStand, IsReferenceWord, value_of, Stands, Tells}
use Rattle.melt_scion.specs.Moves.{Leaves, kept_tag}
use Rattle.melt_scion.specs.Moves.{by_place, moved_ref, body_ref, WordBecomes, NamesHomes, MovesDisk}
use Rattle.melt_scion.proofs.Keeping.{named_value}
use Rattle.melt_scion.proofs.Phases.{leaving_reached, tag_value, by_place_there, by_place_away}
use Rattle.melt_scion.proofs.Moving.{Collection, Found, HasReached, RefReached, same_reference, becomes_refers, found}
use Rattle.melt_scion.proofs.Moving.{nowhere, home_in_range, becomes_fits}

-- a collection of a state that tells a history, with what it does to the disk
pub record ToldCollection : Type 0 where
  pub c : Collection
  pub h : List Entry
  pub tells : Tells h c.maps c.s
  pub homes : NamesHomes c.maps c.new c.s c.home
  pub disk : MovesDisk c.phase c.s c.t c.to c.home c.scion

-- all that the reference refers to was reached, and has a home
abbrev pub RefAtHome : Collection → words.Ref → Type 0
RefAtHome c r = (a : ℕ) → address_in r ≡ Some a → Found c a × (c.home a ≢ 0)

-- and the same of a word
abbrev pub WordAtHome : Collection → ℕ → Type 0
WordAtHome c word = (a : ℕ) → RefersTo word a → Found c a × (c.home a ≢ 0)

module _ (m : ToldCollection) where
  abbrev c : Collection
  c = m.c

  abbrev s : State
  s = m.c.s

  abbrev t : State
  t = m.c.t

  -- an object has its home in the map, once it has one
  pub home_has : (a : ℕ) (f : Found c a) → c.home a ≢ 0 → c.new.home (c.home a) ≡ Some f.number
  home_has a f some = elim (c.formed.words.home_words a f.number f.header f.named f.object.starts) [
    | inl none ↦
        m.homes.new_homes a f.number (record { reached = f.reached; had_none = none; has_one = some }) f.named
    | inr has ↦
        let same = (c.moves.homes.kept a has.0 has.1 f.reached has.2.in_range has.2.is).0 in
        ap c.new.home same
        ∙ m.homes.old has.0 f.number (m.tells.named_homes a f.number has.0 has.1 f.named has.2.in_range has.2.is)
  ]

  -- a home with the number of an object is the home of the object with this number
  pub whose_home : (a k n : ℕ) (f : Found c a) → c.home a ≢ 0 → c.home a ≡ k → c.new.home k ≡ Some n →
      c.maps.address a ≡ Some n
  whose_home a k n f some is has = f.named ∙ (sym (home_has a f some) ∙ (ap c.new.home is ∙ has))

  -- the home stands for the object
  home_value : (a : ℕ) (f : Found c a) (v : Value) → c.home a ≢ 0 → option_map Ref (c.maps.address a) ≡ Some v →
      value_of c.new (Disk (c.home a)) ≡ Some v
  home_value a f v some is = ap (option_map Ref) (home_has a f some ∙ sym f.named) ∙ is

  -- an old home stands for what it stood for
  old_home_value : (k : ℕ) (v : Value) → value_of c.maps (Disk k) ≡ Some v → value_of c.new (Disk k) ≡ Some v
  old_home_value k v is = named_value (c.maps.home k) (c.new.home k) v (λ n e. m.homes.old k n e) is

  -- a reference to an object that was reached stands for it, where its tag there does
  address_value : (a : ℕ) (there : words.Ref) (v : Value) → Reached s a →
      value_of c.new there ≡ option_map Ref (c.new.address (c.to a)) → option_map Ref (c.maps.address a) ≡ Some v →
      value_of c.new (by_place (c.to a) there (Disk (c.home a))) ≡ Some v
  address_value a there v reached tag is = elim (c.moves.chooses.go a reached) [
    | inl some ↦
        ap (value_of c.new) (by_place_there (c.to a) there (Disk (c.home a)) some)
        ∙ (tag ∙ (ap (option_map Ref) (c.names.names a some) ∙ is))
    | inr leaves ↦
        ap (value_of c.new) (by_place_away (c.to a) there (Disk (c.home a)) (nowhere c a leaves))
        ∙ home_value a (found c a reached) v (c.moves.homes.leaving a leaves) is
  ]

  -- a reference in what stays stands for what it stood for
  moved_value : (r : words.Ref) (v : Value) → RefReached s r → value_of c.maps r ≡ Some v →
      value_of c.new (moved_ref c.phase c.to c.home r) ≡ Some v
  moved_value Null v reached is = is
  moved_value (Clean a) v reached is =
      address_value a (kept_tag c.phase (c.to a)) v (reached a refl) (tag_value c.phase c.new (c.to a)) is
  moved_value (Stale a) v reached is = address_value a (Stale (c.to a)) v (reached a refl) refl is
  moved_value (Disk k) v reached is = old_home_value k v is

  -- and so does its word
  pub word_stands : (old later : ℕ) (v : Value) → HasReached s old → IsReferenceWord c.maps s old →
      Stands c.maps old v → WordBecomes (moved_ref c.phase c.to c.home) old later → Stands c.new later v
  word_stands old later v reached may stands becomes =
      let same : stands.reference ≡ becomes.reference =
      same_reference _ old later stands.reference becomes stands.in_range stands.is in
      record {
        reference = moved_ref c.phase c.to c.home becomes.reference;
        in_range = (becomes_fits c old later reached may becomes).1;
        is = becomes.is;
        stands_for = moved_value becomes.reference v (λ a at. reached a (becomes_refers _ old later a becomes at))
            (ap (value_of c.maps) (sym same) ∙ stands.stands_for);
      }

  -- a reference in a Body stands for what it stood for
  body_value : (r : words.Ref) (v : Value) → RefAtHome c r → value_of c.maps r ≡ Some v →
      value_of c.new (body_ref c.home r) ≡ Some v
  body_value Null v homes is = is
  body_value (Clean a) v homes is = let at = homes a refl in home_value a at.0 v at.1 is
  body_value (Stale a) v homes is = let at = homes a refl in home_value a at.0 v at.1 is
  body_value (Disk k) v homes is = old_home_value k v is

  -- null, or a reference to a home before the end
  abbrev IsBodyRef : words.Ref → Type 0
  IsBodyRef r = IsRef r × IsSlotWord t.base.end (ref_word r)

  -- the reference to the home of an object is one
  home_is_body_ref : (a : ℕ) (f : Found c a) → c.home a ≢ 0 → IsBodyRef (Disk (c.home a))
  home_is_body_ref a f some =
      let range = home_in_range c a f some in
      let within : c.home a + cost_of f.header.shape ≤ t.base.end = range.1 in
      (range.0, inr (c.home a, range.0.not_null, omega arith, refl))

  -- so are all references in a Body
  is_body_ref : (r : words.Ref) → RefAtHome c r → IsRef r → MayStand c.maps s r → IsBodyRef (body_ref c.home r)
  is_body_ref Null homes range may = (tt, inl refl)
  is_body_ref (Clean a) homes range may = let at = homes a refl in home_is_body_ref a at.0 at.1
  is_body_ref (Stale a) homes range may = let at = homes a refl in home_is_body_ref a at.0 at.1
  is_body_ref (Disk k) homes range may =
      let first : 1 ≤ k = may.0 in
      let below : k < s.base.end = may.1 in
      let up : s.base.end ≤ t.base.end = c.moves.homes.end in
      (range, inr (k, omega arith, omega arith, refl))

  -- and those of its words
  becomes_body_ref : (old later : ℕ) → WordAtHome c old → IsReferenceWord c.maps s old →
      (becomes : WordBecomes (body_ref c.home) old later) → IsBodyRef (body_ref c.home becomes.reference)
  becomes_body_ref old later homes may becomes =
      is_body_ref becomes.reference (λ a at. homes a (becomes_refers _ old later a becomes at)) becomes.in_range
      (subst (MayStand c.maps s) (same_reference _ old later may.reference becomes may.in_range may.is) may.stands)

  -- so a word in a Body stands for what it stood for
  pub body_stands : (old later : ℕ) (v : Value) → WordAtHome c old → IsReferenceWord c.maps s old →
      Stands c.maps old v → WordBecomes (body_ref c.home) old later → Stands c.new later v
  body_stands old later v homes may stands becomes =
      let same : stands.reference ≡ becomes.reference =
      same_reference _ old later stands.reference becomes stands.in_range stands.is in
      record {
        reference = body_ref c.home becomes.reference;
        in_range = (becomes_body_ref old later homes may becomes).0;
        is = becomes.is;
        stands_for = body_value becomes.reference v (λ a at. homes a (becomes_refers _ old later a becomes at))
            (ap (value_of c.maps) (sym same) ∙ stands.stands_for);
      }

  -- and is a slot word
  pub body_slot : (old later : ℕ) → WordAtHome c old → IsReferenceWord c.maps s old →
      WordBecomes (body_ref c.home) old later → IsSlotWord t.base.end later
  body_slot old later homes may becomes =
      subst (IsSlotWord t.base.end) (sym becomes.is) (becomes_body_ref old later homes may becomes).1

  -- all that a slot of an object that leaves refers to has a home
  pub leaving_slot : (a i : ℕ) (header : Header) → Leaves c.phase s a → HeaderAt s a header →
      i < header.shape.refs → WordAtHome c (s.word (a + 2 + i))
  leaving_slot a i header leaves starts below target refers = (
    found c target (Reached.in_slot a i target header (leaving_reached c.phase s a leaves) starts below refers),
    c.moves.homes.named target (record {
      object = a;
      header = header;
      slot = i;
      leaves = leaves;
      starts = starts;
      below = below;
      refers = refers;
    }),
  )
