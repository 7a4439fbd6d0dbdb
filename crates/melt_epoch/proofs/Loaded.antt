-- A mutator whose register holds what a load read, or whose load was refused.
use Rattle.std.proofs.Common.{◌≡◌, ◌≢◌, ◌⊎◌, ℕ, ◌<◌, ◌++◌, Bool, List, length, refl, sym, ◌∙◌, ap, subst, arith, inl}
use Rattle.std.proofs.Common.{inr}
use Rattle.std.proofs.Math.ListN.{set}
use Rattle.std.specs.Prelude.{Option, Some}
use Rattle.atomic_table.specs.declared.shared.Seat.{Seat}
use Rattle.melt_core.specs.Answering.{entry}
use Rattle.melt_core.specs.declared.answer.Refusal.{Refusal}
use Rattle.melt_core.proofs.Answers.{load_answers, range_answers}
use Rattle.melt_model.specs.Thread.{found, value_in}
use Rattle.melt_model.specs.declared.history.Act.TheVariants.{Read}
use Rattle.melt_model.specs.declared.history.Slot.{Slot}
use Rattle.melt_model.specs.declared.history.Value.{Value}
use Rattle.melt_model.specs.declared.history.Value.TheVariants.{Nil, Ref}
use Rattle.melt_model.specs.declared.operations.Op.TheVariants.{Load}
use Rattle.melt_model.specs.declared.operations.Reply.{Reply}
use Rattle.melt_model.specs.declared.operations.Reply.TheVariants as reply
use Rattle.melt_scion.specs.Scions.{Scions}
use Rattle.melt_rule.specs.Seats.{EpochWords, knows_of}
use Rattle.melt_rule.specs.Tells.{IsWithin, Names, Sees}
use Rattle.melt_rule.specs.declared.view.View.{View}
use Rattle.melt_epoch.proofs.Following.{Way}
use Rattle.melt_epoch.proofs.Holding.{last_given-push}
use Rattle.melt_epoch.proofs.Plainly.{adds_replies, nil_plain, way_replies}
use Rattle.melt_epoch.proofs.Seated.{seated_by, seated_held}
use Rattle.melt_epoch.specs.Calls.{Counts}
use Rattle.melt_epoch.specs.Loading.{HasRead, LacksSlot, LoadAsked, LoadRefused, Loads, LoadsFrom}
use Rattle.melt_epoch.specs.Mutators.{IsIdle, IsSeated, last_given, with_reference}
use Rattle.melt_epoch.specs.declared.mutator.Mutator.{Mutator}

-- the last entry gives what was read
pub value_read : (v w : View) (s : Slot) (most address : ℕ) (loads : Loads v w s most address)
    → last_given w.seen ≡ loads.value
value_read v w s most address loads =
    ap last_given loads.adds.seen ∙ last_given-push (v.seen ++ loads.adds.between) (entry v.thread (Read s loads.value))

-- and the reply is that of it
pub reply_found : (w : View) (address : ℕ) (value : Value) (r : Reply) → IsWithin w → Names w.known address value
    → (address ≡ 0 → r ≡ reply.Null) → (address ≢ 0 → r ≡ reply.Ref) → found value ≡ r
reply_found w address value r within (inl none) null some_ = ap found none.1 ∙ sym (null none.0)
reply_found w address value r within (inr object) null some_ =
    let first = (within.known address object.0 object.2).0 in
    ap found object.1 ∙ sym (some_ (λ e. absurd (omega arith)))

-- another reader changes no register
seated_reader : {R : Type 0} (words : EpochWords) (m : Mutator R) (reader : Option R) → IsSeated words m
    → IsSeated words (record m { reader = reader })
seated_reader words m reader seated = record {
  seat = seated.seat;
  there = seated.there;
  idle = seated.idle;
  thread = seated.thread;
  one = seated.one;
  alone = seated.alone;
  size = seated.size;
  registers = seated.registers;
}

module _ {R : Type 0} (words : EpochWords) (m : Mutator R) (seated : IsSeated words m) (seat : Seat ℕ View)
    (is : Some seat ≡ m.seat) (new : Seat ℕ View) (reader : Option R) (idle : IsIdle words new) where
  pub loaded_seated : (s : Slot) (most dst address : ℕ) → Loads (knows_of seat) (knows_of new) s most address
      → length m.registers.regs ≡ 16 → dst < 16
      → IsSeated words (with_reference (record m { seat = Some new; reader = reader }) dst address
      (last_given (knows_of new).seen))
  loaded_seated s most dst address loads few below =
      seated_held words (record m { reader = reader }) (seated_reader words m reader seated) seat is dst address
      (last_given (knows_of new).seen) idle loads.counts few below (subst (Names (knows_of new).known address)
      (sym (value_read (knows_of seat) (knows_of new) s most address loads)) loads.names)

  pub refused_seated : {told : Bool} {image : Option (List ℕ)} {scions : Scions} {end before after : ℕ} {s : Slot}
      {most : ℕ} {why : Refusal}
      → LoadAsked (knows_of seat) (knows_of new) most why
      ⊎ LoadRefused told image scions end before after (knows_of seat) (knows_of new) s most why
      → IsSeated words (record m { seat = Some new; reader = reader })
  refused_seated refused = elim refused [
    | inl asked ↦ seated_by words (record m { reader = reader }) (seated_reader words m reader seated) seat is new idle
        asked.stays.counts.thread asked.stays.counts.parts asked.stays.counts.away asked.stays.counts.known
    | inr (inl full) ↦ seated_by words (record m { reader = reader }) (seated_reader words m reader seated) seat is new
        idle full.full.filled.thread full.full.filled.parts full.full.filled.away full.full.filled.known
    | inr (inr (inl lacks)) ↦ seated_by words (record m { reader = reader }) (seated_reader words m reader seated) seat
        is new idle lacks.lacked.thread lacks.lacked.parts lacks.lacked.away lacks.lacked.known
    | inr (inr (inr lost)) ↦ seated_by words (record m { reader = reader }) (seated_reader words m reader seated) seat
        is new idle lost.stays.counts.thread lost.stays.counts.parts lost.stays.counts.away lost.stays.counts.known
  ]

  -- a load that found no slot
  pub kept_seated : (most : ℕ) → Counts (knows_of seat) (knows_of new) 0 0 most
      → IsSeated words (record m { seat = Some new; reader = reader })
  kept_seated most counts =
      seated_by words (record m { reader = reader }) (seated_reader words m reader seated) seat is new
      idle counts.thread counts.parts counts.away counts.known

-- nothing was in the register
pub nil_read : {v w : View} (rs : List Value) (dst src i most : ℕ) → w ≡ v → Sees v v.seen → value_in rs src ≡ Nil
    → HasRead v w rs rs dst src i most reply.Nil
nil_read {v} rs dst src i most same sound nothing =
    subst (λ (x : View). HasRead v x rs rs dst src i most reply.Nil) (sym same)
    (let plain = nil_plain v rs (Load dst src i) most sound nothing in
    record {
      replies = plain.comes;
      words = 0;
      wins = 0;
      counts = plain.counts;
      claims = inl (refl, refl);
    })

-- the object lacks the slot
pub range_read : {v w : View} (rs : List Value) (dst src : ℕ) {i n most : ℕ} → value_in rs src ≡ Ref n
    → LacksSlot v w n i most → HasRead v w rs rs dst src i most reply.Range
range_read {v} {w} rs dst src {i} {n} {most} is lacks =
    let way : Way v w 0 0 most = record { sees = lacks.stays.sees; counts = lacks.stays.counts } in
    record {
      replies = way_replies rs (Load dst src i) reply.Range way
          (λ told. range_answers v.thread (Load dst src i) n lacks.z (is, lacks.few) (lacks.shaped told) refl refl
          refl);
      words = 0;
      wins = 0;
      counts = lacks.stays.counts;
      claims = inl (refl, refl);
    }

-- or has it
pub slot_read : {v w : View} (old : List Value) {new : List Value} (dst src : ℕ) {i n most address : ℕ} {r : Reply}
    → value_in old src ≡ Ref n → (from : LoadsFrom v w n i most address) → found from.loads.value ≡ r
    → new ≡ set old dst from.loads.value → HasRead v w old new dst src i most r
slot_read {v} {w} old {new} dst src {i} {n} {r} is from told_ values =
    let loads = from.loads in
    record {
      replies = adds_replies w old new (Load dst src i) r loads.adds
          (λ told. load_answers (v.seen ++ loads.adds.between) old dst src from.z loads.value is (from.shaped told)
          from.below told_ values refl);
      words = loads.words;
      wins = loads.wins;
      counts = loads.counts;
      claims = elim loads.claims [
        | inl none ↦ inl none
        | inr some_ ↦ inr (n, some_.0, is, some_.1, some_.2, some_.3)
      ];
    }
