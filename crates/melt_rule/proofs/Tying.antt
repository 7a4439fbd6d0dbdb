-- The stages of calls that the views of all seats show, and what the stale bit is tied to by them.
use Rattle.std.proofs.Common.{◌≡◌, ◌≢◌, ℕ, zero, suc, ◌<◌, List, [], ◌∷◌, ◌++◌}
use Rattle.std.proofs.Common.{length, refl, sym, ◌∙◌, ap, subst, arith, inl, inr, eq-eqb, ne_eqb}
use Rattle.std.proofs.Math.ListN.{set}
use Rattle.std.proofs.Math.Path.{fun_ext}
use Rattle.std.proofs.lemmas.Bool.Decides.{eqb_tells}
use Rattle.std.specs.Option.{option_or}
use Rattle.std.specs.Prelude.{Bool, true, false, ◌||◌, ◌==◌, if◌then◌else◌, Option, None, Some, IfSome}
use lib.ListN.{get_elem?}
use mathlib.Core.Option.{some, some-injective, some-ne-none}
use Rattle.melt_model.specs.declared.history.Entry.{Entry}
use Rattle.melt_scion.specs.Placed.{Maps}
use Rattle.melt_scion.specs.State.{State}
use Rattle.melt_core.proofs.StaleBitsStages.{known_look}
use Rattle.melt_core.proofs.StaleBitsTying.{look_stays}
use Rattle.melt_core.specs.Known.{HasLooked}
use Rattle.melt_core.specs.StaleBits.{BitIs, Look, Sight, Tied, Watched, look_of, pending, sight_of}
use Rattle.melt_core.specs.declared.call.Stage.{Stage}
use Rattle.melt_rule.proofs.Views.{cases_zero}
use Rattle.melt_rule.specs.Rule.{Kept, is_bound, is_lacking, is_reading}
use Rattle.melt_rule.specs.Shown.{Knows, core_stage, staged}
use Rattle.melt_rule.specs.Sights.{stage_at, own_stage}
use Rattle.melt_rule.specs.declared.began.Start.{Start}
use Rattle.melt_rule.specs.declared.view.Doing.{Doing}
use Rattle.melt_rule.specs.declared.view.Doing.TheVariants.{Cleared}
use Rattle.melt_rule.specs.declared.view.View.{View}

-- neither of two
or_false : (a b : Bool) → a || b ≡ false → (a ≡ false) × (b ≡ false)
or_false true b is = absurd (let e : true ≡ false = is in cc)
or_false false b is = (refl, is)

pub not_lacking : (doing : Option Doing) → is_bound doing ≡ false → is_lacking doing ≡ false
not_lacking doing goes_on = (or_false (is_lacking doing) (is_reading doing) goes_on).0

pub not_reading : (doing : Option Doing) → is_bound doing ≡ false → is_reading doing ≡ false
not_reading doing goes_on = (or_false (is_lacking doing) (is_reading doing) goes_on).1

-- a call that is not to read a slot next has passed all objects that it was to pass
pub none_pending : (doing : Option Doing) → is_reading doing ≡ false → pending (staged doing) ≡ None
none_pending (Some (Cleared place found target)) left = absurd (let e : true ≡ false = left in cc)
none_pending doing left = refl

-- the look of a call has been
pub knows_look : (told : Bool) (maps : Maps) (s : State) (rest : List ℕ) (doing : Option Doing) (look : Look)
    → look_of (staged doing) ≡ Some look → Knows told maps s rest doing → HasLooked maps s look.place look.found
knows_look told maps s rest None look is knows = absurd (let e : None ≡ Some look = is in cc)
knows_look told maps s rest (Some doing) look is knows = known_look told maps s rest (core_stage doing) look is knows

no_stage : (b : Bool) → let none : Option Stage = None in (if b then none else none) ≡ none
no_stage true = refl
no_stage false = refl

or_none : (o : Option Stage) → option_or o None ≡ o
or_none None = refl
or_none (Some stage) = refl

-- the stage that a seat shows: of its own thread, of another, and where no call is in flight
pub stage_own : (v : View) → own_stage v v.thread ≡ staged v.doing
stage_own v = rw (eq-eqb v.thread v.thread refl) refl

pub stage_other : (v : View) (t : ℕ) → v.thread ≢ t → own_stage v t ≡ None
stage_other v t other = rw (ne_eqb v.thread t other) refl

pub stage_idle : (v : View) (t : ℕ) → v.doing ≡ None → own_stage v t ≡ None
stage_idle v t idle =
    ap (λ (doing : Option Doing). if v.thread == t then staged doing else None) idle ∙ no_stage (v.thread == t)

module _ (t : ℕ) where
  -- a thread is at the stage at which it was where the seat that is replaced shows the same
  pub stage_set : (views : List View) (id : ℕ) (v w : View) → get_elem? views id ≡ some v
      → own_stage w t ≡ own_stage v t → stage_at (set views id w) t ≡ stage_at views t
  stage_set [] id v w at same = absurd (some-ne-none v (sym at))
  stage_set (x ∷ xs) zero v w at same =
      ap (λ (o : Option Stage). option_or o (stage_at xs t))
      (same ∙ ap (λ (u : View). own_stage u t) (sym (some-injective x v at)))
  stage_set (x ∷ xs) (suc id) v w at same = ap (option_or (own_stage x t)) (stage_set xs id v w at same)

  -- and where a seat is added without a call
  pub stage_more : (views : List View) (w : View) → own_stage w t ≡ None
      → stage_at (views ++ w ∷ []) t ≡ stage_at views t
  stage_more [] w none = ap (λ (o : Option Stage). option_or o None) none
  stage_more (x ∷ xs) w none = ap (option_or (own_stage x t)) (stage_more xs w none)

  pub stage_none : (views : List View) → ((j : ℕ) (u : View) → get_elem? views j ≡ some u → own_stage u t ≡ None)
      → stage_at views t ≡ None
  stage_none [] none = refl
  stage_none (x ∷ xs) none =
      ap (λ (o : Option Stage). option_or o (stage_at xs t)) (none 0 x refl)
      ∙ stage_none xs (λ j u at. none (suc j) u at)

  -- it is at the stage that one seat shows where no other shows one
  pub stage_one : (views : List View) (id : ℕ) (v : View) → get_elem? views id ≡ some v
      → ((j : ℕ) (u : View) → j ≢ id → get_elem? views j ≡ some u → own_stage u t ≡ None)
      → stage_at views t ≡ own_stage v t
  stage_one [] id v at others = absurd (some-ne-none v (sym at))
  stage_one (x ∷ xs) zero v at others =
      ap (option_or (own_stage x t)) (stage_none xs (λ j u e. others (suc j) u (λ same. omega arith) e))
      ∙ (or_none (own_stage x t) ∙ ap (λ (u : View). own_stage u t) (some-injective x v at))
  stage_one (x ∷ xs) (suc id) v at others =
      ap (λ (o : Option Stage). option_or o (stage_at xs t)) (others 0 x (λ same. omega arith) refl)
      ∙ stage_one xs id v at (λ j u ne e. others (suc j) u (λ same. ne (omega arith)) e)

module _ (start : Start) (words : List ℕ) (views : List View) (kept : Kept start words views) (id : ℕ) (v : View)
    (at : get_elem? views id ≡ some v) (live : 0 < v.parts) where
  -- no other seat shows a stage of the thread of a seat,
  pub stage_apart : (j : ℕ) (u : View) → j ≢ id → get_elem? views j ≡ some u → own_stage u v.thread ≡ None
  stage_apart j u other is = elim (cases_zero u.parts) [
    | inl none ↦ stage_idle u v.thread (ap (λ (z : View). z.doing) (kept.spent j u is none))
    | inr alive ↦ stage_other u v.thread
        (λ same. other (kept.distinct j id 0 0 u.thread u v is at alive live refl (ap some (sym same))).0)
  ]

  -- which is at the stage of its call
  pub stage_here : stage_at views v.thread ≡ staged v.doing
  stage_here = stage_one v.thread views id v at stage_apart ∙ stage_own v

-- A call may be left that is not to read the slot of its look next.
module _ (u : Sight) (h : List Entry) (maps : Maps) (s : State) (before after : ℕ → Option Stage) (t : ℕ)
    (others : (x : ℕ) → x ≢ t → after x ≡ before x) (none : after t ≡ None) (left : pending (before t) ≡ None) where
  same_bit : (f g : ℕ → Option Stage) (n : ℕ) (stale : Bool) → BitIs (sight_of h maps s f) n stale
      → BitIs (sight_of h maps s g) n stale
  same_bit f g n stale bit =
      record { address = bit.address; named = bit.named; shape = bit.shape; small = bit.small; word = bit.word }

  pub left_tied : Tied u (sight_of h maps s before) → Tied u (sight_of h maps s after)
  left_tied tied = record {
    since = tied.since;
    watched = λ x. elim (eqb_tells x t) [
      | inl same ↦
          let nothing : look_of (after x) ≡ None = ap look_of (ap after same.1 ∙ none) in
          subst (λ (g : Option Look). IfSome g (Watched (length u.log) (sight_of h maps s after) x)) (sym nothing) tt
      | inr other ↦
          subst (λ (g : Option Look). IfSome g (Watched (length u.log) (sight_of h maps s after) x))
          (sym (ap look_of (others x other.1)))
          (look_stays (length u.log) x x (sight_of h maps s before) (sight_of h maps s after) (look_of (before x)) refl
          (λ a n is. is) (λ home. refl) (inr refl) (tied.watched x))
    ];
    cleared = λ n bit. elim (tied.cleared n (same_bit after before n false bit)) [
      | inl first ↦ inl first
      | inr later ↦ inr (elim later [
        | inl passed ↦ inl passed
        | inr waits ↦ inr (record {
          thread = waits.thread;
          address = waits.address;
          is = ap pending (others waits.thread (λ same.
              let nothing : pending (before waits.thread) ≡ None = ap (λ (x : ℕ). pending (before x)) same ∙ left in
              let some_ : pending (before waits.thread) ≡ Some waits.address = waits.is in
              cc)) ∙ waits.is;
          named = waits.named;
        })
      ])
    ];
    stale = λ n bit. tied.stale n (same_bit after before n true bit);
    used = λ n in_use used. same_bit before after n false (tied.used n in_use used);
    in_use = tied.in_use;
    stays = tied.stays;
    homes = tied.homes;
  }

-- where each is at the stage at which it was
pub same_tied : (u : Sight) (h : List Entry) (maps : Maps) (s : State) (before after : ℕ → Option Stage)
    → ((t : ℕ) → after t ≡ before t) → Tied u (sight_of h maps s before) → Tied u (sight_of h maps s after)
same_tied u h maps s before after same tied =
    subst (λ (stage : ℕ → Option Stage). Tied u (sight_of h maps s stage)) (fun_ext (λ t. sym (same t))) tied
