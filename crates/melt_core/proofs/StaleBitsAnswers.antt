-- What the entry of an answered call says of the objects that it gives and at which the call looked.
use Rattle.std.proofs.Common.{◌≡◌, ℕ, ◌<◌, inl, inr, List, [], ◌∷◌, ◌++◌}
use Rattle.std.proofs.Common.{length, refl, sym, ◌∙◌, ap, subst, arith}
use Rattle.std.proofs.Math.ListN.{length-map}
use Rattle.std.proofs.lemmas.List.{get_or-set_same}
use Rattle.std.proofs.lemmas.Option.{same_Some}
use Rattle.std.specs.Prelude.{true, slice_set, Option, None, Some, unwrap_or}
use Rattle.melt_model.specs.History.{Shape, given}
use Rattle.melt_model.specs.Thread.{Deed, does, unchanged, on_part, found as reply_found, number, value_in}
use Rattle.melt_model.specs.declared.history.Value.{Value}
use Rattle.melt_model.specs.declared.history.Value.TheVariants.{Nil, Ref, Num}
use Rattle.melt_model.specs.declared.history.Slot.{Slot}
use Rattle.melt_model.specs.declared.history.Slot.TheVariants as slot
use Rattle.melt_model.specs.declared.history.Act.{Act}
use Rattle.melt_model.specs.declared.history.Act.TheVariants.{Read, Write}
use Rattle.melt_model.specs.declared.history.Entry.{Entry}
use Rattle.melt_model.specs.declared.operations.Op.{Op}
use Rattle.melt_model.specs.declared.operations.Op.TheVariants as op
use Rattle.melt_model.specs.declared.operations.Reply.{Reply}
use Rattle.melt_model.specs.declared.operations.Reply.TheVariants as reply
use Rattle.melt_model.proofs.Transcripts.{number_at, on_part_is, reference_at}
use Rattle.melt_word.specs.declared.reference.Ref as words
use Rattle.melt_scion.specs.Heaps.{OnDisk, register_in}
use Rattle.melt_core.specs.declared.call.Place.{Place}
use Rattle.melt_core.specs.declared.call.Place.TheVariants.{Field, Global}
use Rattle.melt_core.specs.Answering.{Answers, entry, gives, with_entry}
use Rattle.melt_core.specs.Known.{HasLooked, IsPlace, Leads, SlotAt}
use Rattle.melt_core.specs.Stages.{LoadsAt}
use Rattle.melt_core.specs.Advances.{InBounds, Sets}
use Rattle.melt_core.specs.Views.{View, Standing, maps, stage_of, state, values_of, registers_in, held_value}
use Rattle.melt_core.specs.StaleBits.{Passed, HasNoBit, Watched, sight}
use Rattle.melt_core.proofs.Answers.{part_there}
use Rattle.melt_core.proofs.Objects.{object_shape, value_named}
use Rattle.melt_core.proofs.Tasks.{load_is, gload_is}
use Rattle.melt_core.proofs.Values.{value_held}
use Rattle.melt_core.proofs.StaleBitsHeaders.{no_bit_at}
use Rattle.melt_core.proofs.StaleBitsWatching.{look_passes}

-- a register that an operation sets is one of the sixteen
sets_within : (globals : ℕ) (o : Op) (r : ℕ) → InBounds globals o → Sets o r → r < 16
sets_within globals (op.New dst refs nums) r bounds is = omega (arith, bounds.0, is)
sets_within globals (op.Load dst src i) r bounds is = omega (arith, bounds.0, is)
sets_within globals (op.GLoad dst g) r bounds is = omega (arith, bounds.0, is)
sets_within globals (op.Copy dst src) r bounds is = omega (arith, bounds.0, is)
sets_within globals (op.Drop dst) r bounds is = omega (arith, bounds, is)
sets_within globals o r bounds is = absurd is

module _ (h : List Entry) (rs : List Value) (n : ℕ) where
  -- the object that the act gives is what the operation puts into its register
  abbrev Puts : Op → Value → Deed → Type 0
  Puts o x d = (act : Act) → d.act ≡ Some act → given h act ≡ Some (Ref n)
      → (dst : ℕ) × Sets o dst × (d.registers ≡ slice_set rs dst x)

  no_act : (o : Op) (x : Value) (d : Deed) → d.act ≡ None → Puts o x d
  no_act o x d none act is gives_it = absurd (cc)

  no_gift : (o : Op) (x : Value) (d : Deed) (act : Act) → d.act ≡ Some act → (given h act ≡ Some (Ref n) → ⊥)
      → Puts o x d
  no_gift o x d act does_it never other is gives_it =
      absurd (never (ap (given h) (same_Some act other (sym does_it ∙ is)) ∙ gives_it))

  writes_nothing : (at : Slot) (v : Value) → given h (Write at v) ≡ Some (Ref n) → ⊥
  writes_nothing at v is = let nothing : None ≡ Some (Ref n) = is in cc

  reads_number : (at : Slot) (k : ℕ) → given h (Read at (Num k)) ≡ Some (Ref n) → ⊥
  reads_number at k is = let number_is : Some (Num k) ≡ Some (Ref n) = is in cc

  puts : (o : Op) (x : Value) → Puts o x (does h rs o x)
  puts (op.New dst refs nums) x = λ act is gives_it. (dst, refl, refl)
  puts (op.Load dst src i) x =
      on_part_is (Puts (op.Load dst src i) x) (reference_at i) h rs (value_in rs src)
      (λ (m : ℕ). record {
        act = Some (Read (slot.Field m i) x);
        reply = reply_found x;
        registers = slice_set rs dst x;
      })
      (λ r. no_act (op.Load dst src i) x (unchanged rs r) refl) (λ m act is gives_it. (dst, refl, refl))
  puts (op.Store obj i src) x =
      let writes : ℕ → Deed = λ m. record {
        act = Some (Write (slot.Field m i) (value_in rs src));
        reply = reply.Done;
        registers = rs;
      } in
      on_part_is (Puts (op.Store obj i src) x) (reference_at i) h rs (value_in rs obj) writes
      (λ r. no_act (op.Store obj i src) x (unchanged rs r) refl)
      (λ m. no_gift (op.Store obj i src) x (writes m) (Write (slot.Field m i) (value_in rs src)) refl
      (writes_nothing (slot.Field m i) (value_in rs src)))
  puts (op.Get src j) x =
      let reads : ℕ → Deed = λ m. record {
        act = Some (Read (slot.Cell m j) (Num (number x)));
        reply = reply.Num (number x);
        registers = rs;
      } in
      on_part_is (Puts (op.Get src j) x) (number_at j) h rs (value_in rs src) reads
      (λ r. no_act (op.Get src j) x (unchanged rs r) refl)
      (λ m. no_gift (op.Get src j) x (reads m) (Read (slot.Cell m j) (Num (number x))) refl
      (reads_number (slot.Cell m j) (number x)))
  puts (op.Put obj j v) x =
      let writes : ℕ → Deed = λ m. record {
        act = Some (Write (slot.Cell m j) (Num v));
        reply = reply.Done;
        registers = rs;
      } in
      on_part_is (Puts (op.Put obj j v) x) (number_at j) h rs (value_in rs obj) writes
      (λ r. no_act (op.Put obj j v) x (unchanged rs r) refl)
      (λ m. no_gift (op.Put obj j v) x (writes m) (Write (slot.Cell m j) (Num v)) refl
      (writes_nothing (slot.Cell m j) (Num v)))
  puts (op.GLoad dst g) x = λ act is gives_it. (dst, refl, refl)
  puts (op.GStore g src) x =
      no_gift (op.GStore g src) x (does h rs (op.GStore g src) x) (Write (slot.Global g) (value_in rs src)) refl
      (writes_nothing (slot.Global g) (value_in rs src))
  puts (op.Same a b) x = no_act (op.Same a b) x (does h rs (op.Same a b) x) refl
  puts (op.Copy dst src) x = no_act (op.Copy dst src) x (does h rs (op.Copy dst src) x) refl
  puts (op.Drop r) x = no_act (op.Drop r) x (does h rs (op.Drop r) x) refl
  puts op.Collect x = no_act op.Collect x (does h rs op.Collect x) refl

-- The object is in use where a register holds it, and has no stale bit.
pub record Holding (v : View) (n : ℕ) : Type 0 where
  pub address : ℕ
  pub named : (maps v).address address ≡ Some n
  pub fresh : HasNoBit (sight v) n

held_object : (disk : OnDisk) (v : View) (t r n : ℕ) → Standing true disk v → value_in (values_of v t) r ≡ Ref n
    → Holding v n
held_object disk v t r n s is =
    let address : ℕ = register_in v.held t r in
    elim (s.registers t r) [
      | inl nothing ↦ absurd (
          let holds : value_in (values_of v t) r ≡ Nil =
          value_held v.names (registers_in v.held t) r ∙ ap (held_value v.names) nothing in
          cc)
      | inr holds ↦
          let value : Ref holds.0.0 ≡ Ref n = sym (value_named v t r address holds.0.0 refl holds.0.1) ∙ is in
          let same : holds.0.0 ≡ n = cc in
          let named : (maps v).address address ≡ Some n = holds.0.1 ∙ ap Some same in
          record {
            address = address;
            named = named;
            fresh = no_bit_at v.log (maps v) (state disk v) (stage_of v) address n s.holds.formed named holds.1;
          }
    ]

-- The object that the entry of an answered call gives is in a register after the event, so it has no stale bit.
pub given_held : {disk : OnDisk} (v : View) {w : View} {t : ℕ} (globals : ℕ) {n : ℕ} {o : Op} {r : Reply} {act : Act}
    → Standing true disk w → InBounds globals o → length (registers_in v.held t) ≡ 16
    → (is : Answers t v.log (values_of v t) o r w.log (values_of w t))
    → (does v.log (values_of v t) o is.value).act ≡ Some act → given v.log act ≡ Some (Ref n) → Holding w n
given_held {disk} v {w} {t} globals {n} {o} {act} s bounds sixteen is does_it gives_it =
    let rs : List Value = values_of v t in
    let d : Deed = does v.log rs o is.value in
    let value : is.value ≡ Ref n =
    sym is.given ∙ (ap (gives v.log) does_it ∙ ap (λ (x : Option Value). unwrap_or x Nil) gives_it) in
    let set = puts v.log rs n o is.value act does_it gives_it in
    let size : length rs ≡ length (registers_in v.held t) =
    length-map (registers_in v.held t) (held_value v.names) in
    let small : set.0 < 16 = sets_within globals o set.0 bounds set.1 in
    let within : set.0 < length rs = omega (arith, size, sixteen, small) in
    held_object disk w t set.0 n s
    (ap (λ (xs : List Value). value_in xs set.0) (is.registers ∙ set.2)
    ∙ (get_or-set_same rs set.0 is.value Nil within ∙ value))

-- the entry of a load reads the slot of its place
loads_read : {disk : OnDisk} {v : View} (t : ℕ) (o : Op) (place : Place) (dst : ℕ) (at : Slot) (x : Value)
    → Standing true disk v → LoadsAt (register_in v.held t) o place dst → IsPlace (maps v) (state disk v) place
    → SlotAt (maps v) place at → (does v.log (values_of v t) o x).act ≡ Some (Read at x)
loads_read {disk} {v} t o (Field object i) dst at x s loads there is =
    let rs : List Value = values_of v t in
    let reads : ℕ → Deed = λ m. record {
      act = Some (Read (slot.Field m i) x);
      reply = reply_found x;
      registers = slice_set rs dst x;
    } in
    let part : on_part (λ (z : Shape). z.refs) v.log rs (value_in rs loads.0) i reads ≡ reads is.0 =
    part_there (λ (z : Shape). z.refs) v.log rs i reads (value_named v t loads.0 object is.0 loads.2 is.1)
    (object_shape disk v object is.0 there.0 s there.1 is.1) there.2 in
    ap (λ (p : Op). (does v.log rs p x).act) (load_is o loads.0 dst i loads.1)
    ∙ (ap (λ (d : Deed). d.act) part ∙ ap (λ (y : Slot). Some (Read y x)) (sym is.2))
loads_read {disk} {v} t o (Global g) dst at x s loads there is =
    ap (λ (p : Op). (does v.log (values_of v t) p x).act) (gload_is o dst g loads)
    ∙ ap (λ (y : Slot). Some (Read y x)) (sym is)

pub load_passes : {disk : OnDisk} {v : View} (w : View) {q t target : ℕ} (dst : ℕ) {n : ℕ} {o : Op} {r : Reply}
    {place : Place} {found : words.Ref} → Standing true disk v → HasLooked (maps v) (state disk v) place found
    → Leads true (maps v) found target → LoadsAt (register_in v.held t) o place dst
    → Answers t v.log (values_of v t) o r w.log (values_of w t)
    → Watched q (sight v) t (record { place = place; found = found }) → (maps v).address target ≡ Some n
    → Passed w.log q n
load_passes {v} w {q} {t} {target} dst {n} {o} {place} s looked leads loads is watched named =
    let act : (does v.log (values_of v t) o is.value).act ≡ Some (Read watched.slot is.value) =
    loads_read t o place dst watched.slot is.value s loads looked.at watched.at in
    let log : w.log ≡ v.log ++ entry t (Read watched.slot is.value) ∷ [] =
    is.history ∙ ap (with_entry t v.log) act in
    subst (λ (h : List Entry). Passed h q n) (sym log)
    (look_passes target is.value (leads.same refl) named watched)
