-- What the search for the address of a home finds: the object to which a forwarding word sends it, or, where none does,
-- its record on disk; and what that record tells.
use Rattle.std.proofs.Common.{◌≡◌, ℕ, ◌+◌, ◌<◌, inl, inr, sym, ◌∙◌, ap, subst, arith, List}
use Rattle.std.specs.Prelude.{Some, slice_index}
use Rattle.std.specs.Option.{option_map}
use Rattle.melt_model.specs.declared.history.Entry.{Entry}
use Rattle.melt_model.specs.declared.history.Value.TheVariants.{Ref}
use Rattle.melt_word.specs.Words.{IsDiskHome}
use Rattle.melt_word.specs.declared.header.Shape.{Shape}
use Rattle.melt_word.specs.declared.reference.Ref.TheVariants.{Clean, Disk}
use Rattle.melt_record.specs.declared.damage.Damaged.{Damaged}
use Rattle.melt_record.specs.declared.head.Head.{Head}
use Rattle.melt_record.specs.declared.head.Kind.TheVariants.{Body, Stub}
use Rattle.melt_record.specs.Records.{IsHead, IsSlotWord, IsHeadDamage, IsSlotDamage}
use Rattle.melt_record.proofs.Heads.{same_head}
use Rattle.melt_forward.specs.Forwarding.{HaveNoGaps, probe}
use Rattle.melt_scion.specs.State.{Base, State, IsFresh, Forwards, NoGaps}
use Rattle.melt_scion.specs.Placed.{Maps, IsNamed, HasObject, HeadIs, value_of, FormedWords, Tells}
use Rattle.melt_scion.specs.Commits.{Probed, HasRecord}
use Rattle.melt_scion.specs.Heaps.{OnDisk, state_of}
use Rattle.melt_scion.specs.declared.heap.Heap.{Heap}
use Rattle.melt_scion.specs.declared.registers.Registers.{Registers}
use Rattle.melt_scion.proofs.Committing.{none_sends}
use Rattle.melt_scion.proofs.Forwarded.{forward_stands, forwarded_object}

-- Forwarding words without gaps, as the state says it and as a list. So one that keeps them may be searched at once.
pub words_without_gaps : (heap : Heap) (held : List Registers) (disk : OnDisk) → NoGaps (state_of heap held disk)
    → HaveNoGaps heap.forward
words_without_gaps heap held disk gaps = record { filled = gaps.filled }

pub gaps_of_words : (heap : Heap) (held : List Registers) (disk : OnDisk) → HaveNoGaps heap.forward
    → NoGaps (state_of heap held disk)
gaps_of_words heap held disk words = record { filled = words.filled }

module _ (maps : Maps) (s : State) (formed : FormedWords maps s) where
  -- a forwarding word sends a home to an object without the stale bit
  pub sent_named : (home a : ℕ) → Forwards s home a → IsNamed maps a
  sent_named home a is = (forward_stands maps s home a formed is).named

  pub sent_fresh : (home a : ℕ) → Forwards s home a → IsFresh s a
  sent_fresh home a is = (forward_stands maps s home a formed is).fresh

  -- a live scion names an object
  pub scion_named : (scion home a : ℕ) → s.base.scion scion ≡ Some (record { home = home; address = a })
      → IsNamed maps a
  scion_named scion home a live = (formed.scions scion (record { home = home; address = a }) live).named

  module _ (h : List Entry) (tells : Tells h maps s) where
    -- which is that of the home
    pub sent_same : (home a : ℕ) → Forwards s home a → value_of maps (Disk home) ≡ value_of maps (Clean a)
    sent_same home a is =
        let named = (forward_stands maps s home a formed is).named in
        ap (option_map Ref) (forwarded_object maps s home a formed is h tells ∙ sym named.1)

    -- and the object of a live scion is that of its home
    pub scion_same : (scion home a : ℕ) → IsDiskHome home
        → s.base.scion scion ≡ Some (record { home = home; address = a })
        → value_of maps (Disk home) ≡ value_of maps (Clean a)
    scion_same scion home a range live =
        let stands = formed.scions scion (record { home = home; address = a }) live in
        ap (option_map Ref) (tells.named_homes a stands.named.0 home scion stands.named.1
        (record { home = range; scion = stands.small }) stands.home_word ∙ sym stands.named.1)

    -- where a search ended at an empty word, the record is a Body, or a Stub with a live scion
    pub missed_record : (home tried : ℕ) → NoGaps s → Probed s home tried → tried < s.base.forwards
        → s.forward (probe home s.base.forwards tried) ≡ 0 → HasObject maps home → HasRecord s.base home
    missed_record home tried gaps probed within empty has =
        let stands = tells.homes home has.0 has.1 in
        elim stands.is [
          | inl is ↦ inl (record { shape = stands.reserved_for; head = is.head; slots = is.are_slots })
          | inr (inl is) ↦ inr (record {
            shape = stands.reserved_for;
            scion = is.scion;
            address = is.address;
            head = is.head;
            live = is.live;
          })
          | inr (inr is) ↦ absurd (none_sends s home tried gaps probed within empty is.address is.forwards)
        ]

module _ (b : Base) (home : ℕ) (stands : HasRecord b home) where
  -- such a record has a head
  pub some_head : (head : Head) × HeadIs b home head
  some_head = elim stands [
    | inl body ↦ (record { shape = body.shape; kind = Body }, body.head)
    | inr stub ↦ (record { shape = stub.shape; kind = Stub stub.scion }, stub.head)
  ]

  -- so it is not damaged there
  pub no_head_damage : (first second : ℕ) (damage : Damaged) → first ≡ b.image home → second ≡ b.image (home + 1)
      → IsHeadDamage home b.end first second damage → ⊥
  no_head_damage first second damage same_first same_second damaged =
      let head : IsHead home b.end first second some_head.0 =
      subst (λ (x : ℕ). IsHead home b.end x second some_head.0) (sym same_first)
      (subst (λ (y : ℕ). IsHead home b.end (b.image home) y some_head.0) (sym same_second) some_head.1) in
      elim damaged.place [
        | inl bad ↦ bad.bad some_head.0.kind some_head.0.shape head.first_word
        | inr bad ↦ bad.bad some_head.0 head
      ]

  -- the scion of a Stub is live, and of this home
  pub stub_live : (z : Shape) (scion : ℕ) → HeadIs b home (record { shape = z; kind = Stub scion })
      → (a : ℕ) × (b.scion scion ≡ Some (record { home = home; address = a }))
  stub_live z scion head =
      let read : Head = record { shape = z; kind = Stub scion } in
      elim stands [
        | inl body ↦ absurd (
            let e : read ≡ record { shape = body.shape; kind = Body } =
            (same_head head body.head).1 in
            let k : Stub scion ≡ Body = ap (λ (x : Head). x.kind) e in
            cc
            )
        | inr stub ↦
            let e : read ≡ record { shape = stub.shape; kind = Stub stub.scion } =
            (same_head head stub.head).1 in
            let k : Stub scion ≡ Stub stub.scion = ap (λ (x : Head). x.kind) e in
            let same : scion ≡ stub.scion = cc in
            (stub.address, ap b.scion same ∙ stub.live)
      ]

  -- and the slots of a Body are slot words
  pub body_slots : (z : Shape) → HeadIs b home (record { shape = z; kind = Body }) → (i : ℕ) → i < z.refs
      → IsSlotWord b.end (b.image (home + 2 + i))
  body_slots z head i below =
      let read : Head = record { shape = z; kind = Body } in
      elim stands [
        | inl body ↦
            let e : read ≡ record { shape = body.shape; kind = Body } =
            (same_head head body.head).1 in
            let refs : z.refs ≡ body.shape.refs = ap (λ (x : Head). x.shape.refs) e in
            body.slots i (omega (arith, below, refs))
        | inr stub ↦ absurd (
            let e : read ≡ record { shape = stub.shape; kind = Stub stub.scion } =
            (same_head head stub.head).1 in
            let k : Body ≡ Stub stub.scion = ap (λ (x : Head). x.kind) e in
            cc
            )
      ]

  -- so no slot that was read is damaged
  pub no_slot_damage : (z : Shape) (words : List ℕ) (damage : Damaged)
      → HeadIs b home (record { shape = z; kind = Body })
      → ((i : ℕ) → i < z.refs → slice_index words i ≡ b.image (home + 2 + i))
      → IsSlotDamage home b.end z.refs words damage → ⊥
  no_slot_damage z words damage head are damaged =
      damaged.bad (subst (IsSlotWord b.end) (sym (are damaged.slot damaged.in_range))
      (body_slots z head damaged.slot damaged.in_range))
