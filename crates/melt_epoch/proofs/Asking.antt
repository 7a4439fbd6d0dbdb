-- A thread asks all to stop.
use Rattle.std.proofs.Common.{◌≡◌, ℕ, Bool, true, false, List, refl, sym, ◌∙◌, ap, subst}
use Rattle.std.specs.Prelude.{None, Some, slice_index, if◌then◌else◌}
use Rattle.melt_model.specs.Thread.{value_in}
use Rattle.std.proofs.lemmas.Bool.{false≢true}
use Rattle.atomic_table.specs.declared.shared.Seat.{Seat}
use Rattle.melt_rule.specs.Rule.{has_cause}
use Rattle.melt_rule.specs.Seats.{EpochWords, IsSeat, knows_of}
use Rattle.melt_rule.specs.Tells.{Asks, Names, view_after}
use Rattle.melt_rule.specs.declared.began.Pair.{Pair}
use Rattle.melt_rule.specs.declared.view.View.{View}
use Rattle.melt_epoch.proofs.Following.{idle_seat, sound_sees}
use Rattle.melt_epoch.proofs.Seated.{by_seats, idle_here, names_here}
use Rattle.melt_epoch.specs.Calls.{HasAsked, IsAsked}
use Rattle.melt_epoch.specs.Mutators.{IsIdle, IsSeated}
use Rattle.melt_epoch.specs.declared.mutator.Mutator.{Mutator}

-- what the view is after it
record After (v w : View) : Type 0 where
  pub asked : Bool
  pub is : w ≡ record (view_after v w.seen v.known None) { asked = asked }
  pub cause : (has_cause v ≡ true → asked ≡ v.asked) × (has_cause v ≡ false → asked ≡ true)

asked_after : (v w : View) → Asks v w → After v w
asked_after v w asks = go (has_cause v) refl
  where
    go : (b : Bool) → has_cause v ≡ b → After v w
    go true is = record {
      asked = v.asked;
      is = asks.1
          ∙ ap (λ (b : Bool). let u : View = view_after v w.seen v.known None in
          if b then u else record u { asked = true })
          is;
      cause = (λ e. refl, λ e. absurd (false≢true (sym e ∙ is)));
    }
    go false is = record {
      asked = true;
      is = asks.1
          ∙ ap (λ (b : Bool). let u : View = view_after v w.seen v.known None in
          if b then u else record u { asked = true })
          is;
      cause = (λ e. absurd (false≢true (sym is ∙ e)), λ e. refl);
    }

pub asks_has : (v w : View) → Asks v w → HasAsked v w
asks_has v w asks =
    let b = asked_after v w asks in
    record {
      sees = asks.0;
      is = asks.1;
      thread = ap (λ (x : View). x.thread) b.is;
      began = ap (λ (x : View). x.began) b.is;
      known = ap (λ (x : View). x.known) b.is;
      cause = (
        λ e. ap (λ (x : View). x.asked) b.is ∙ b.cause.0 e,
        λ e. ap (λ (x : View). x.asked) b.is ∙ b.cause.1 e,
      );
      spaced = ap (λ (x : View). x.spaced) b.is;
      forwarded = ap (λ (x : View). x.forwarded) b.is;
      claimed = ap (λ (x : View). x.claimed) b.is;
      over = ap (λ (x : View). x.over) b.is;
      won = ap (λ (x : View). x.won) b.is;
      steps = ap (λ (x : View). x.steps) b.is;
    }

module _ {R : Type 0} (m : Mutator R) (seat : Seat ℕ View) (is : Some seat ≡ m.seat) where
  -- the mutator after it
  pub asked_again : (words : EpochWords) → IsSeated words m → (new : Seat ℕ View) → IsSeat words new
      → Asks (knows_of seat) (knows_of new) → IsSeated words (record m { seat = Some new })
  asked_again words seated new is_seat asks =
      let b = asked_after (knows_of seat) (knows_of new) asks in
      let idle : IsIdle words seat = idle_here words m seated seat is in
      let same : seated.seat ≡ seat = let both : Some seat ≡ Some seated.seat = is ∙ seated.there in cc in
      record {
        seat = new;
        there = refl;
        idle = idle_seat words (knows_of seat) new None is_seat (ap (λ (x : View). x.doing) b.is) refl
            (sound_sees (knows_of seat) (knows_of new) asks.0 (ap (λ (x : View). x.began) b.is))
            (ap (λ (x : View). x.mine) b.is);
        thread = ap (λ (x : View). x.thread) b.is
            ∙ (ap (λ (s : Seat ℕ View). (knows_of s).thread) (sym same) ∙ seated.thread);
        one = ap (λ (x : View). x.parts) b.is
            ∙ (ap (λ (s : Seat ℕ View). (knows_of s).parts) (sym same) ∙ seated.one);
        alone = ap (λ (x : View). x.away) b.is
            ∙ (ap (λ (s : Seat ℕ View). (knows_of s).away) (sym same) ∙ seated.alone);
        size = seated.size;
        registers = λ r. subst (λ (l : List Pair). Names l (slice_index m.registers.regs r) (value_in m.values r))
            (sym (ap (λ (x : View). x.known) b.is)) (names_here words m seated seat is r);
      }

  pub is_asked : (new : Seat ℕ View) → Asks (knows_of seat) (knows_of new) → IsAsked m (record m { seat = Some new })
  is_asked new asks = (
    refl,
    λ s t at_s at_t. by_seats HasAsked is refl at_s at_t (asks_has (knows_of seat) (knows_of new) asks),
  )
