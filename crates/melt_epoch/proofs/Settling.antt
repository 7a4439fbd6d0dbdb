-- The exchanges and reads of forwarding words, with a copy at hand.
use Rattle.std.proofs.Common.{◌≡◌, ℕ, ◌+◌, ◌*◌, ◌-◌, ◌<◌, ◌≤◌, Bool, true, false, subst, arith}
use Rattle.std.specs.Prelude.{Option, None, Some}
use Rattle.atomic_table.specs.declared.shared.Seat.{Seat}
use Rattle.melt_core.specs.Stages.{retried}
use Rattle.melt_core.specs.declared.call.Activation.{Activation}
use Rattle.melt_rule.specs.Coming.{ProbesShared, Wins}
use Rattle.melt_rule.specs.Seats.{EpochWords, IsSeat, knows_of}
use Rattle.melt_rule.specs.Tells.{FitsIn, Reaches}
use Rattle.melt_rule.specs.declared.began.Began.{Began}
use Rattle.melt_rule.specs.declared.view.Doing.{Doing}
use Rattle.melt_rule.specs.declared.view.Doing.TheVariants.{Copied, Retrying}
use Rattle.melt_rule.specs.declared.view.View.{View}
use Rattle.melt_epoch.specs.Bringing.{FindsSent, at_hand}

-- In how many steps so many words were passed. The first was empty, so that it was not read before its exchange.
abbrev pub spent : Bool → ℕ → ℕ
spent true passed = 2 * passed
spent false passed = 2 * passed - 1

pub spent_most : (empty : Bool) (passed : ℕ) → spent empty passed ≤ 2 * passed
spent_most true passed = omega arith
spent_most false passed = omega arith

-- one word is passed
pub spent_next : (empty : Bool) (passed : ℕ) → spent empty passed + 1 ≤ spent false (passed + 1)
spent_next true passed = omega arith
spent_next false passed = omega arith

-- or found empty
pub spent_again : (empty : Bool) (passed : ℕ) → empty ≡ false → 0 < passed → spent empty passed + 1 ≤ spent true passed
spent_again true passed is some_ = absurd (cc)
spent_again false passed is some_ = omega arith

-- a word that is filled is found the same, by an exchange or by a read
pub finds_filled : (v w : View) (empty : Bool) (a : Activation) (sent : ℕ × ℕ) → FindsSent v w empty a (Some sent)
    → ProbesShared v w a.search (Copied a) (Retrying (retried a)) (Some sent)
finds_filled v w true a sent finds = finds
finds_filled v w false a sent finds = finds

pub finds_won : (v w : View) (empty : Bool) (a : Activation) → empty ≡ true → FindsSent v w empty a None → Wins v w a
finds_won v w true a is finds = finds
finds_won v w false a is finds = absurd (cc)

pub finds_empty : (v w : View) (empty : Bool) (a : Activation) → empty ≡ false → FindsSent v w empty a None
    → Reaches v w (Some (Copied a))
finds_empty v w true a is finds = absurd (cc)
finds_empty v w false a is finds = finds

-- as many words were passed as there are at most
pub hand_within : (words : EpochWords) (seat : Seat ℕ View) (empty : Bool) (a : Activation) → IsSeat words seat
    → (knows_of seat).doing ≡ Some (at_hand empty a) → a.search.tried ≤ words.start.began.forwards
hand_within words seat empty a is_seat at =
    subst (λ (b : Began). a.search.tried ≤ b.forwards) is_seat.began
    (within empty (subst (λ (d : Option Doing). FitsIn (knows_of seat).began d) at is_seat.within.doing))
  where
    within : (e : Bool) → FitsIn (knows_of seat).began (Some (at_hand e a))
        → a.search.tried ≤ (knows_of seat).began.forwards
    within true fits = fits.0.search.tried
    within false fits = fits.search.tried
