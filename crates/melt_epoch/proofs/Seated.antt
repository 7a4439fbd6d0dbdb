-- A mutator whose seat went on in a call.
use Rattle.std.proofs.Common.{◌≡◌, ◌<◌, ℕ, List, length, Result, refl, sym, ◌∙◌, ap, subst, arith, inl, inr}
use Rattle.std.proofs.Math.ListN.{set, length-set}
use Rattle.std.proofs.lemmas.List.{get_or-set_same, get_or-set_other}
use native.Mathlib.Decide.{ℕ_discrete}
use Rattle.melt_model.specs.declared.history.Value.TheVariants.{Nil}
use Rattle.std.specs.Prelude.{Option, Some, slice_index}
use Rattle.atomic_table.specs.declared.shared.Seat.{Seat}
use Rattle.melt_model.specs.Thread.{value_in}
use Rattle.melt_model.specs.declared.history.Value.{Value}
use Rattle.melt_model.specs.declared.operations.Op.{Op}
use Rattle.melt_model.specs.declared.operations.Reply.{Reply}
use Rattle.melt_core.specs.declared.answer.Refusal.{Refusal}
use Rattle.melt_rule.specs.Seats.{EpochWords, knows_of}
use Rattle.melt_rule.specs.Tells.{HasAll, Names}
use Rattle.melt_rule.specs.declared.began.Pair.{Pair}
use Rattle.melt_rule.specs.declared.view.View.{View}
use Rattle.melt_epoch.specs.Calls.{IsPlain, Counts, Plain}
use Rattle.melt_epoch.specs.Mutators.{IsIdle, IsSeated, StandFor, with_reference}
use Rattle.melt_epoch.specs.declared.mutator.Mutator.{Mutator}

-- what an address stands for, it stands for where more is known
pub names_more : (old new : List Pair) (address : ℕ) (value : Value) → HasAll old new → Names old address value
    → Names new address value
names_more old new address value more (inl none) = inl none
names_more old new address value more (inr object) = inr (object.0, object.1, more address object.0 object.2)

-- one register holds another address, which stands for its value
pub stand_set : (known : List Pair) (regs : List ℕ) (values : List Value) (r address : ℕ) (value : Value)
    → r < length values → r < length regs → StandFor known regs values → Names known address value
    → StandFor known (set regs r address) (set values r value)
stand_set known regs values r address value has_value has_reg stand names q = elim (ℕ_discrete q r) [
  | yes same ↦
      let reg : slice_index (set regs r address) q ≡ address =
      ap (slice_index (set regs r address)) same ∙ get_or-set_same regs r address 0 has_reg in
      let val : value_in (set values r value) q ≡ value =
      ap (value_in (set values r value)) same ∙ get_or-set_same values r value Nil has_value in
      subst (λ (a : ℕ). Names known a (value_in (set values r value) q)) (sym reg)
      (subst (Names known address) (sym val) names)
  | no other ↦
      let reg : slice_index (set regs r address) q ≡ slice_index regs q = get_or-set_other regs r q address 0 other in
      let val : value_in (set values r value) q ≡ value_in values q = get_or-set_other values r q value Nil other in
      subst (λ (a : ℕ). Names known a (value_in (set values r value) q)) (sym reg)
      (subst (Names known (slice_index regs q)) (sym val) (stand q))
]

-- what is so of two seats is so of those that a mutator has before and after
pub by_seats : (P : View → View → Type 0) {seat new s t : Seat ℕ View} {before after : Option (Seat ℕ View)}
    → Some seat ≡ before → after ≡ Some new → before ≡ Some s → after ≡ Some t → P (knows_of seat) (knows_of new)
    → P (knows_of s) (knows_of t)
by_seats P {seat} {new} {s} {t} is there at_s at_t holds =
    let one : seat ≡ s = let both : Some seat ≡ Some s = is ∙ at_s in cc in
    let two : new ≡ t = let both : Some new ≡ Some t = sym there ∙ at_t in cc in
    subst (λ (x : Seat ℕ View). P (knows_of x) (knows_of t)) one
    (subst (λ (y : Seat ℕ View). P (knows_of seat) (knows_of y)) two holds)

module _ {R : Type 0} (words : EpochWords) (m : Mutator R) (seated : IsSeated words m) (seat : Seat ℕ View)
    (is : Some seat ≡ m.seat) where
  same_seat : seated.seat ≡ seat
  same_seat = let both : Some seat ≡ Some seated.seat = is ∙ seated.there in cc

  pub idle_here : IsIdle words seat
  idle_here = subst (IsIdle words) same_seat seated.idle

  pub names_here : (r : ℕ) → Names (knows_of seat).known (slice_index m.registers.regs r) (value_in m.values r)
  names_here r =
      subst (λ (s : Seat ℕ View). Names (knows_of s).known (slice_index m.registers.regs r) (value_in m.values r))
      same_seat (seated.registers r)

  -- the mutator after a call that leaves its registers
  pub seated_by : (new : Seat ℕ View) → IsIdle words new → (knows_of new).thread ≡ (knows_of seat).thread
      → (knows_of new).parts ≡ (knows_of seat).parts → (knows_of new).away ≡ (knows_of seat).away
      → HasAll (knows_of seat).known (knows_of new).known → IsSeated words (record m { seat = Some new })
  seated_by new idle thread parts away known = record {
    seat = new;
    there = refl;
    idle = idle;
    thread = thread ∙ (ap (λ (s : Seat ℕ View). (knows_of s).thread) (sym same_seat) ∙ seated.thread);
    one = parts ∙ (ap (λ (s : Seat ℕ View). (knows_of s).parts) (sym same_seat) ∙ seated.one);
    alone = away ∙ (ap (λ (s : Seat ℕ View). (knows_of s).away) (sym same_seat) ∙ seated.alone);
    size = seated.size;
    registers = λ r. names_more (knows_of seat).known (knows_of new).known (slice_index m.registers.regs r)
        (value_in m.values r) known (names_here r);
  }

  pub seated_again : (new : Seat ℕ View) (claimed wins most : ℕ) → IsIdle words new
      → Counts (knows_of seat) (knows_of new) claimed wins most → IsSeated words (record m { seat = Some new })
  seated_again new claimed wins most idle counts =
      seated_by new idle counts.thread counts.parts counts.away counts.known

  -- and after one that lets a register hold what it found
  pub seated_held : {new : Seat ℕ View} {claimed wins most : ℕ} (r address : ℕ) (value : Value) → IsIdle words new
      → Counts (knows_of seat) (knows_of new) claimed wins most → length m.registers.regs ≡ 16 → r < 16
      → Names (knows_of new).known address value
      → IsSeated words (with_reference (record m { seat = Some new }) r address value)
  seated_held {new} r address value idle counts few below names = record {
    seat = new;
    there = refl;
    idle = idle;
    thread = counts.thread ∙ (ap (λ (s : Seat ℕ View). (knows_of s).thread) (sym same_seat) ∙ seated.thread);
    one = counts.parts ∙ (ap (λ (s : Seat ℕ View). (knows_of s).parts) (sym same_seat) ∙ seated.one);
    alone = counts.away ∙ (ap (λ (s : Seat ℕ View). (knows_of s).away) (sym same_seat) ∙ seated.alone);
    size = length-set m.values r value ∙ seated.size;
    registers = stand_set (knows_of new).known m.registers.regs m.values r address value
        (let s = seated.size in omega arith)
        (omega arith)
        (λ q. names_more (knows_of seat).known (knows_of new).known (slice_index m.registers.regs q)
        (value_in m.values q) counts.known (names_here q))
        names;
  }

  pub plain_again : (new : Seat ℕ View) (o : Op) (most : ℕ) (result : Result Reply Refusal)
      → Plain (knows_of seat) (knows_of new) m.values m.values o most result
      → IsPlain m (record m { seat = Some new }) o most result
  plain_again new o most result plain = (
    refl,
    λ s t at_s at_t. by_seats (λ (v w : View). Plain v w m.values m.values o most result) is refl at_s at_t plain,
  )
