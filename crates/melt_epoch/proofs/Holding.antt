-- A mutator whose registers changed.
use Rattle.std.proofs.Common.{◌≡◌, ◌≢◌, ℕ, ◌+◌, ◌-◌, ◌<◌, Bool, true, false, List, [], ◌∷◌, ◌++◌, length, take}
use Rattle.std.proofs.Common.{Ok, refl, sym, ◌∙◌, ap, subst, arith, inl, inr, eq-eqb, ne_eqb}
use Rattle.std.proofs.Math.ListN.{length-set}
use Rattle.std.proofs.Math.Seq.{take-append_seam}
use Rattle.std.specs.Prelude.{Option, unwrap_or, option_and_then, if◌then◌else◌}
use Rattle.std.specs.Option.{option_map}
use Rattle.std.proofs.lemmas.Bool.{cases_eq}
use Rattle.atomic_table.specs.declared.shared.Seat.{Seat}
use Rattle.melt_model.proofs.Histories.{slice_get-append_seam}
use Rattle.melt_model.specs.History.{given}
use Rattle.melt_model.specs.Thread.{given_at, unchanged, value_eq, value_in}
use Rattle.melt_model.specs.declared.history.Act.{Act}
use Rattle.melt_model.specs.declared.history.Entry.{Entry}
use Rattle.melt_model.specs.declared.history.Value.{Value}
use Rattle.melt_model.specs.declared.history.Value.TheVariants.{Nil, Num, Ref}
use Rattle.melt_model.specs.declared.operations.Op.TheVariants as op
use Rattle.melt_model.specs.declared.operations.Reply.{Reply}
use Rattle.melt_model.specs.declared.operations.Reply.TheVariants as reply
use Rattle.melt_core.proofs.Answers.{Answers_by}
use Rattle.melt_core.specs.Answering.{Answers}
use Rattle.melt_rule.specs.Rule.{Has}
use Rattle.melt_rule.specs.Seats.{EpochWords, knows_of}
use Rattle.melt_rule.specs.Tells.{IsWithin, Names}
use Rattle.melt_rule.specs.declared.view.View.{View}
use Rattle.melt_epoch.proofs.Seated.{stand_set}
use Rattle.melt_epoch.specs.Calls.{HoldsOnly}
use Rattle.melt_epoch.specs.Mutators.{IsSeated, last_given, with_reference}
use Rattle.melt_epoch.specs.declared.mutator.Mutator.{Mutator}

-- what the last entry gives
pub last_given-push : (g : List Entry) (e : Entry) → last_given (g ++ e ∷ []) ≡ unwrap_or (given g e.act) Nil
last_given-push g e =
    let place : length (g ++ e ∷ []) - 1 ≡ length g = length_push g e in
    ap (λ (p : ℕ). unwrap_or (given_at (g ++ e ∷ []) p) Nil) place
    ∙ (ap (λ (a : Option Act). unwrap_or (option_and_then (given (take (length g) (g ++ e ∷ []))) a) Nil)
    (ap (option_map (λ (x : Entry). x.act)) (slice_get-append_seam g e []))
    ∙ ap (λ (h : List Entry). unwrap_or (given h e.act) Nil) (take-append_seam g (e ∷ [])))
  where
    length_push : (g : List Entry) (e : Entry) → length (g ++ e ∷ []) - 1 ≡ length g
    length_push [] e = refl
    length_push (x ∷ g) e = let more = length_more g e in omega arith
      where
        length_more : (g : List Entry) (e : Entry) → length (g ++ e ∷ []) ≡ length g + 1
        length_more [] e = refl
        length_more (x ∷ g) e = let more = length_more g e in omega arith

-- so of a mutator
pub seated_set : {R : Type 0} (words : EpochWords) (m : Mutator R) (r address : ℕ) (value : Value)
    (seated : IsSeated words m) → length m.registers.regs ≡ 16 → r < 16
    → Names (knows_of seated.seat).known address value → IsSeated words (with_reference m r address value)
seated_set words m r address value seated few below names = record {
  seat = seated.seat;
  there = seated.there;
  idle = seated.idle;
  thread = seated.thread;
  one = seated.one;
  alone = seated.alone;
  size = length-set m.values r value ∙ seated.size;
  registers = stand_set (knows_of seated.seat).known m.registers.regs m.values r address value
      (let s = seated.size in omega arith)
      (omega arith)
      seated.registers
      names;
}

-- nothing else of a mutator changes where a register holds what a call found
pub holds_only : {R : Type 0} (m : Mutator R) {n : Mutator R} (seat : Option (Seat ℕ View)) (reader : Option R)
    (dst address : ℕ) (value : Value) → n ≡ with_reference (record m { seat = seat; reader = reader }) dst address value
    → n ≡ with_reference (record m { seat = n.seat; reader = n.reader }) dst address value
holds_only {R} m seat reader dst address value is =
    subst (λ (x : Mutator R). x ≡ with_reference (record m { seat = x.seat; reader = x.reader }) dst address value)
    (sym is)
    refl

pub holds_found : {R : Type 0} (m : Mutator R) {n : Mutator R} (seat : Option (Seat ℕ View)) (reader : Option R)
    (dst : ℕ) {address : ℕ} (value : Value) (r : Reply)
    → n ≡ with_reference (record m { seat = seat; reader = reader }) dst address value → (address ≡ 0 → r ≡ reply.Null)
    → (address ≢ 0 → r ≡ reply.Ref) → HoldsOnly m n dst (Ok r)
holds_found m {n} seat reader dst {address} value r is null some_ = elim (cases_eq address 0) [
  | inl none ↦ subst (λ (x : Reply). HoldsOnly m n dst (Ok x)) (sym (null none))
      (address, value, holds_only m seat reader dst address value is)
  | inr object ↦ subst (λ (x : Reply). HoldsOnly m n dst (Ok x)) (sym (some_ object))
      (address, value, holds_only m seat reader dst address value is)
]

-- equal addresses stand for equal values
value_same : (v : Value) → value_eq v v ≡ true
value_same Nil = refl
value_same (Ref n) = eq-eqb n n refl
value_same (Num n) = eq-eqb n n refl

pub equal_values : (v : View) (a b : ℕ) (x y : Value) → IsWithin v → Names v.known a x → Names v.known b y → a ≡ b
    → value_eq x y ≡ true
equal_values v a b x y within (inl p) (inl q) same = rw (p.1, q.1) refl
equal_values v a b x y within (inl p) (inr q) same =
    let first = (within.known b q.0 q.2).0 in
    let none : a ≡ 0 = p.0 in
    absurd (omega arith)
equal_values v a b x y within (inr p) (inl q) same =
    let first = (within.known a p.0 p.2).0 in
    let none : b ≡ 0 = q.0 in
    absurd (omega arith)
equal_values v a b x y within (inr p) (inr q) same =
    let one : p.0 ≡ q.0 = within.one_object b p.0 q.0 (subst (λ (c : ℕ). Has v.known c p.0) same p.2) q.2 in
    ap (λ (z : Value). value_eq z y) p.1
    ∙ (ap (value_eq (Ref p.0)) q.1 ∙ eq-eqb p.0 q.0 one)

-- and others for others, where the epoch is told
pub other_values : (v : View) (a b : ℕ) (x y : Value) → IsWithin v → v.began.told ≡ true → Names v.known a x
    → Names v.known b y → a ≢ b → value_eq x y ≡ false
other_values v a b x y within told (inl p) (inl q) differ = absurd (differ (p.0 ∙ sym q.0))
other_values v a b x y within told (inl p) (inr q) differ = rw (p.1, q.1) refl
other_values v a b x y within told (inr p) (inl q) differ = rw (p.1, q.1) refl
other_values v a b x y within told (inr p) (inr q) differ =
    ap (λ (z : Value). value_eq z y) p.1
    ∙ (ap (value_eq (Ref p.0)) q.1
    ∙ ne_eqb p.0 q.0 (λ same. differ (within.one_address told a b q.0 (subst (Has v.known a) same p.2) q.2)))

-- the reply to a comparison
pub same_answers : (t : ℕ) (h : List Entry) (rs : List Value) (a b : ℕ) (equal : Bool)
    → value_eq (value_in rs a) (value_in rs b) ≡ equal
    → Answers t h rs (op.Same a b) (if equal then reply.Yes else reply.No) h rs
same_answers t h rs a b equal is =
    Answers_by t h rs (op.Same a b) (ap (λ (x : Bool). unchanged rs (if x then reply.Yes else reply.No)) is) refl refl
    refl refl
