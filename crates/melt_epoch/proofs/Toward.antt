-- A call that goes on from a view, of which no more is known to be seen soundly than its next step tells.
use Rattle.std.proofs.Common.{◌≡◌, ℕ, ◌+◌, ◌≤◌, List, sym, ◌∙◌, ap, subst, arith}
use Rattle.std.specs.Prelude.{Option, Some}
use Rattle.atomic_table.specs.declared.shared.Seat.{Seat}
use Rattle.melt_model.specs.declared.history.Entry.{Entry}
use Rattle.melt_core.specs.declared.answer.Refusal.{Refusal}
use Rattle.melt_core.specs.declared.call.Activation.{Activation}
use Rattle.melt_core.specs.declared.call.Search.{Search}
use Rattle.melt_rule.proofs.Loads.{snoc_old}
use Rattle.melt_rule.specs.Coming.{Fills, Wins}
use Rattle.melt_rule.specs.Rule.{Has}
use Rattle.melt_rule.specs.Seats.{EpochWords, IsSeat, knows_of}
use Rattle.melt_rule.specs.Tells.{FitsIn, Reaches, Sees}
use Rattle.melt_rule.specs.declared.began.Began.{Began}
use Rattle.melt_rule.specs.declared.view.Doing.{Doing}
use Rattle.melt_rule.specs.declared.view.Doing.TheVariants.{Searching}
use Rattle.melt_rule.specs.declared.view.View.{View}
use Rattle.melt_epoch.proofs.Following.{counts_most, counts_on, first_on, no_counts, sees_on, step_counts}
use Rattle.melt_epoch.specs.Bringing.{IsFull, in_use_at}
use Rattle.melt_epoch.specs.Calls.{Counts, Filled, IsOnItsWay, Lacked}

-- What is seen from the second view on is seen from the first; so much was counted between them.
pub record Toward (v w : View) (words wins most : ℕ) : Type 0 where
  pub on : (h : List Entry) → Sees w h → Sees v h
  pub counts : Counts v w words wins most

pub toward_itself : (v : View) → Toward v v 0 0 0
toward_itself v = record { on = λ h sees. sees; counts = no_counts v }

pub toward_most : (v w : View) (a b m n : ℕ) → m ≤ n → Toward v w a b m → Toward v w a b n
toward_most v w a b m n le toward = record { on = toward.on; counts = counts_most v w a b m n le toward.counts }

pub toward_counts : {v w u : View} {a b c d m n : ℕ} (k : ℕ) → m + n ≤ k → Toward v w a b m → Counts w u c d n
    → Counts v u (a + c) (b + d) k
toward_counts {v} {u} {a} {b} {c} {d} {m} {n} k le toward counts =
    counts_most v u (a + c) (b + d) (m + n) k le (counts_on toward.counts counts)

-- the counts of a step that claims and wins nothing
toward_step : {v w u : View} {a b m : ℕ} (k : ℕ) → m + 1 ≤ k → Toward v w a b m → Counts w u 0 0 1 → Counts v u a b k
toward_step {v} {u} {a} {b} k le toward counts =
    subst (λ (c : ℕ). Counts v u c b k) (let e : a + 0 ≡ a = omega arith in e)
    (subst (λ (d : ℕ). Counts v u (a + 0) d k) (let e : b + 0 ≡ b = omega arith in e)
    (toward_counts k le toward counts))

pub toward_sees : (v w u : View) (a b m : ℕ) → Toward v w a b m → Sees w u.seen → Sees v u.seen
toward_sees v w u a b m toward sees = toward.on u.seen sees

-- one step more, without an entry
pub toward_on : {v w u : View} {a b m : ℕ} (k : ℕ) {doing : Doing} → m + 1 ≤ k → Toward v w a b m
    → Reaches w u (Some doing) → Toward v u a b k
toward_on {w} {u} k {doing} le toward step =
    let counts = step_counts w u w.known (Some doing) (λ x n has. has) step.is in
    record {
      on = λ h sees. toward.on h (sees_on w u h step.sees counts.thread counts.began sees);
      counts = toward_step k le toward counts;
    }

pub toward_goes : {v w u : View} {a b m : ℕ} (k : ℕ) {doing : Doing} → m + 1 ≤ k → Toward v w a b m
    → Reaches w u (Some doing) → IsOnItsWay v u a b k doing
toward_goes {u} k {doing} le toward step = record {
  sees = toward.on u.seen step.sees;
  counts = (toward_on k le toward step).counts;
  at = ap (λ (x : View). x.doing) step.is;
}

-- and the last one, of a call that found all forwarding words filled
pub toward_filled : (v w u : View) (a m k : ℕ) → m + 1 ≤ k → Toward v w a 0 m → Fills w u → Filled v u a k
toward_filled v w u a m k le toward fills =
    let is = fills.1 in
    let so = toward.counts in
    record {
      thread = ap (λ (x : View). x.thread) is ∙ so.thread;
      parts = ap (λ (x : View). x.parts) is ∙ so.parts;
      away = ap (λ (x : View). x.away) is ∙ so.away;
      began = ap (λ (x : View). x.began) is ∙ so.began;
      known = λ x n has. subst (λ (y : View). Has y.known x n) (sym is) (so.known x n has);
      asked = ap (λ (x : View). x.asked) is ∙ so.asked;
      spaced = ap (λ (x : View). x.spaced) is ∙ so.spaced;
      forwarded = ap (λ (x : View). x.forwarded) is;
      claimed = let e = ap (λ (x : View). x.claimed) is in let s = so.claimed in omega arith;
      over = ap (λ (x : View). x.over) is ∙ so.over;
      won = let e = ap (λ (x : View). x.won) is in let s = so.won in omega arith;
      steps = let e = ap (λ (x : View). x.steps) is in let s = so.steps in omega arith;
      counted = let e = ap (λ (x : View). x.steps) is in let s = so.counted in omega arith;
    }

-- a copy became the object of its home
pub toward_wins : {v w u : View} {a m : ℕ} (k : ℕ) {activation : Activation} → m + 1 ≤ k → Toward v w a 0 m
    → Wins w u activation → IsOnItsWay v u a 1 k (in_use_at activation.search activation.address)
toward_wins {w} {u} k {activation} le toward wins =
    let is = wins.is in
    let so = toward.counts in
    record {
      sees = toward.on u.seen wins.sees;
      counts = record {
        thread = ap (λ (x : View). x.thread) is ∙ so.thread;
        parts = ap (λ (x : View). x.parts) is ∙ so.parts;
        away = ap (λ (x : View). x.away) is ∙ so.away;
        began = ap (λ (x : View). x.began) is ∙ so.began;
        known = λ x n has. subst (λ (y : View). Has y.known x n) (sym is)
            (snoc_old w.known (record { address = activation.address; object = wins.object }) x n (so.known x n has));
        asked = ap (λ (x : View). x.asked) is ∙ so.asked;
        spaced = ap (λ (x : View). x.spaced) is ∙ so.spaced;
        forwarded = ap (λ (x : View). x.forwarded) is ∙ so.forwarded;
        claimed = let e = ap (λ (x : View). x.claimed) is in let s = so.claimed in omega arith;
        over = ap (λ (x : View). x.over) is ∙ so.over;
        won = let e = ap (λ (x : View). x.won) is in let s = so.won in omega arith;
        steps = let e = ap (λ (x : View). x.steps) is in let s = so.steps in omega arith;
        counted = let e = ap (λ (x : View). x.steps) is in let s = so.counted in omega arith;
      };
      at = ap (λ (x : View). x.doing) is;
    }

-- a search has read as many forwarding words as there are at most
pub searches_within : (words : EpochWords) (seat : Seat ℕ View) (search : Search) → IsSeat words seat
    → (knows_of seat).doing ≡ Some (Searching search) → search.tried ≤ words.start.began.forwards
searches_within words seat search is_seat at =
    subst (λ (b : Began). search.tried ≤ b.forwards) is_seat.began
    (subst (λ (d : Option Doing). FitsIn (knows_of seat).began d) at is_seat.within.doing).tried

-- a call goes on from where it has come
pub goes_toward : (v w : View) (a b m : ℕ) (doing : Doing) → IsOnItsWay v w a b m doing → Toward v w a b m
goes_toward v w a b m doing goes = record {
  on = λ h sees. sees_on v w h goes.sees goes.counts.thread goes.counts.began sees;
  counts = goes.counts;
}

pub toward_both : {v w u : View} {a b m n : ℕ} (k : ℕ) → m + n ≤ k → Toward v w a b m → Toward w u 0 0 n
    → Toward v u a b k
toward_both {v} {u} {a} {b} k le first more = record {
  on = λ h sees. first.on h (more.on h sees);
  counts = subst (λ (c : ℕ). Counts v u c b k) (let e : a + 0 ≡ a = omega arith in e)
      (subst (λ (d : ℕ). Counts v u (a + 0) d k) (let e : b + 0 ≡ b = omega arith in e)
      (toward_counts k le first more.counts));
}

pub toward_then : {v w u : View} {a b m n : ℕ} (k : ℕ) {doing : Doing} → m + n ≤ k → Toward v w a 0 m
    → IsOnItsWay w u 0 b n doing → IsOnItsWay v u a b k doing
toward_then {v} {u} {a} {b} k le toward goes = record {
  sees = toward.on u.seen goes.sees;
  counts = subst (λ (c : ℕ). Counts v u c b k) (let e : a + 0 ≡ a = omega arith in e)
      (subst (λ (d : ℕ). Counts v u (a + 0) d k) (let e : 0 + b ≡ b = omega arith in e)
      (toward_counts k le toward goes.counts));
  at = goes.at;
}

pub toward_full : {v w u : View} {a c all m n : ℕ} (k : ℕ) {refusal : Refusal} → a + c ≡ all → m + n ≤ k
    → Toward v w a 0 m → IsFull w u c n refusal → IsFull v u all k refusal
toward_full {u} k sum le toward full =
    let more = full.filled in
    let so = toward.counts in
    record {
      is = full.is;
      sees = toward.on u.seen full.sees;
      filled = record {
        thread = more.thread ∙ so.thread;
        parts = more.parts ∙ so.parts;
        away = more.away ∙ so.away;
        began = more.began ∙ so.began;
        known = λ x i has. more.known x i (so.known x i has);
        asked = more.asked ∙ so.asked;
        spaced = more.spaced ∙ so.spaced;
        forwarded = more.forwarded;
        claimed = let e = more.claimed in let s = so.claimed in omega arith;
        over = more.over ∙ so.over;
        won = let e = more.won in let s = so.won in omega arith;
        steps = let e = more.steps in let s = so.steps in omega arith;
        counted = let e = more.counted in let s = so.counted in omega arith;
      };
      over = full.over;
    }

pub goes_then : {v w u : View} {a b m n : ℕ} (k : ℕ) {doing : Doing} → m + n ≤ k → Toward v w 0 0 m
    → IsOnItsWay w u a b n doing → IsOnItsWay v u a b k doing
goes_then {v} {u} {a} {b} k le toward goes = record {
  sees = toward.on u.seen goes.sees;
  counts = subst (λ (c : ℕ). Counts v u c b k) (let e : 0 + a ≡ a = omega arith in e)
      (subst (λ (d : ℕ). Counts v u (0 + a) d k) (let e : 0 + b ≡ b = omega arith in e)
      (toward_counts k le toward goes.counts));
  at = goes.at;
}

pub toward_lacked : {v w u : View} {need m n : ℕ} (k : ℕ) → m + n ≤ k → Toward v w 0 0 m → Lacked w u need n
    → Lacked v u need k
toward_lacked {v} {w} {m} k le toward more =
    let so = toward.counts in
    record {
      thread = more.thread ∙ so.thread;
      parts = more.parts ∙ so.parts;
      away = more.away ∙ so.away;
      began = more.began ∙ so.began;
      known = λ x i has. more.known x i (so.known x i has);
      asked = more.asked ∙ so.asked;
      spaced = more.spaced;
      forwarded = more.forwarded ∙ so.forwarded;
      claimed = let e = more.claimed in let s = so.claimed in omega arith;
      over = let e = more.over in let s = so.over in omega arith;
      won = let e = more.won in let s = so.won in omega arith;
      steps = let e = more.steps in let s = so.steps in omega arith;
      counted = let e = more.counted in let s = so.counted in omega arith;
      found = more.found;
      first = first_on v w m more.found so more.first;
      past = let b = ap (λ (b : Began). b.size) so.began in let p = more.past in omega arith;
    }
