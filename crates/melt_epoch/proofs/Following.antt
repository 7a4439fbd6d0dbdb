-- Steps one after the other: what a seat has seen and counted on the way of a call.
use Rattle.std.proofs.Common.{◌≡◌, ℕ, ◌+◌, ◌≤◌, false, List, [], ◌∷◌, ◌++◌, length}
use Rattle.std.proofs.Common.{refl, sym, ◌∙◌, ap, subst, arith, append_assoc}
use Rattle.std.proofs.lemmas.List.{append_cancel_right}
use Rattle.std.specs.Prelude.{Option, Some}
use Rattle.atomic_table.specs.declared.shared.Seat.{Seat}
use Rattle.melt_model.proofs.Histories.{own-push_own, shape-append}
use Rattle.melt_model.specs.History.{Legal, Shape, shape}
use Rattle.melt_model.specs.Thread.{own}
use Rattle.melt_model.specs.declared.history.Act.{Act}
use Rattle.melt_model.specs.declared.history.Entry.{Entry}
use Rattle.melt_scion.proofs.Entries.{was_made}
use Rattle.melt_core.specs.Answering.{entry}
use Rattle.melt_rule.specs.Making.{FirstFree}
use Rattle.melt_rule.specs.Rule.{is_bound}
use Rattle.melt_rule.specs.Seats.{EpochWords, IsSeat, knows_of}
use Rattle.melt_rule.specs.Tells.{Adds, HasAll, Reaches, Sees, Since, view_after}
use Rattle.melt_rule.specs.declared.began.Began.{Began}
use Rattle.melt_rule.specs.declared.began.Pair.{Pair}
use Rattle.melt_rule.specs.declared.view.Doing.{Doing}
use Rattle.melt_rule.specs.declared.view.View.{View}
use Rattle.melt_epoch.specs.Calls.{Counts}
use Rattle.melt_epoch.specs.Mutators.{IsIdle}

-- So far the call has no entry, and has counted so much.
pub record Way (v w : View) (words wins most : ℕ) : Type 0 where
  pub sees : Sees v w.seen
  pub counts : Counts v w words wins most

pub no_counts : (v : View) → Counts v v 0 0 0
no_counts v = record {
  thread = refl;
  parts = refl;
  away = refl;
  began = refl;
  known = λ a n has. has;
  asked = refl;
  spaced = refl;
  forwarded = refl;
  claimed = omega arith;
  over = refl;
  won = omega arith;
  steps = omega arith;
  counted = omega arith;
}

after_counts : (v : View) (h : List Entry) (known : List Pair) (doing : Option Doing) → HasAll v.known known
    → Counts v (view_after v h known doing) 0 0 1
after_counts v h known doing more = record {
  thread = refl;
  parts = refl;
  away = refl;
  began = refl;
  known = more;
  asked = refl;
  spaced = refl;
  forwarded = refl;
  claimed = omega arith;
  over = refl;
  won = omega arith;
  steps = omega arith;
  counted = omega arith;
}

pub counts_on : {v w u : View} {a b c d m n : ℕ} → Counts v w a b m → Counts w u c d n
    → Counts v u (a + c) (b + d) (m + n)
counts_on first more = record {
  thread = more.thread ∙ first.thread;
  parts = more.parts ∙ first.parts;
  away = more.away ∙ first.away;
  began = more.began ∙ first.began;
  known = λ x k has. more.known x k (first.known x k has);
  asked = more.asked ∙ first.asked;
  spaced = more.spaced ∙ first.spaced;
  forwarded = more.forwarded ∙ first.forwarded;
  claimed = let s = first.claimed in let t = more.claimed in omega arith;
  over = more.over ∙ first.over;
  won = let s = first.won in let t = more.won in omega arith;
  steps = let s = first.steps in let t = more.steps in omega arith;
  counted = let s = first.counted in let t = more.counted in omega arith;
}

pub counts_most : (v w : View) (a b m n : ℕ) → m ≤ n → Counts v w a b m → Counts v w a b n
counts_most v w a b m n le counts = record {
  thread = counts.thread;
  parts = counts.parts;
  away = counts.away;
  began = counts.began;
  known = counts.known;
  asked = counts.asked;
  spaced = counts.spaced;
  forwarded = counts.forwarded;
  claimed = counts.claimed;
  over = counts.over;
  won = counts.won;
  steps = let s = counts.steps in omega arith;
  counted = counts.counted;
}

-- the first free place that a claim found, told after a way that claimed none
pub first_on : (v w : View) (most found : ℕ) → Counts v w 0 0 most → FirstFree w found → FirstFree v found
first_on v w most found counts first = record {
  from =
      let free = ap (λ (b : Began). b.free) counts.began in
      let claimed = counts.claimed in
      let from = first.from in
      omega arith;
  alone = λ all.
      let free = ap (λ (b : Began). b.free) counts.began in
      let threads : length w.began.threads ≡ length v.began.threads =
      ap (λ (b : Began). length b.threads) counts.began in
      let claimed = counts.claimed in
      let parts = counts.parts in
      let is = first.alone (omega arith) in
      omega arith;
}

-- a step to a view that is told
pub step_counts : (v w : View) (known : List Pair) (doing : Option Doing) → HasAll v.known known
    → w ≡ view_after v w.seen known doing → Counts v w 0 0 1
step_counts v w known doing more is =
    subst (λ (x : View). Counts v x 0 0 1) (sym is) (after_counts v w.seen known doing more)

pub idle_way : (v : View) → Sees v v.seen → Way v v 0 0 0
idle_way v sound = record { sees = sound; counts = no_counts v }

-- what came after what was seen, after a way
pub sees_on : (v w : View) (h : List Entry) → Sees v w.seen → w.thread ≡ v.thread → w.began ≡ v.began → Sees w h
    → Sees v h
sees_on v w h first thread began more = record {
  begins = (
    first.begins.0 ++ more.begins.0,
    sym (append_assoc v.seen first.begins.0 more.begins.0)
        ∙ (ap (λ (l : List Entry). l ++ more.begins.0) first.begins.1 ∙ more.begins.1),
  );
  since = subst (λ (b : Began). Since b h) began more.since;
  legal = λ told. subst (λ (b : Began). Legal h b.globals) began
      (more.legal (ap (λ (b : Began). b.told) began ∙ told));
  own_same = ap (own h) (sym thread) ∙ (more.own_same ∙ (ap (own w.seen) thread ∙ first.own_same));
}

-- and an entry after it
pub adds_on : (v w : View) (h : List Entry) (act : Act) → Sees v w.seen → w.thread ≡ v.thread → w.began ≡ v.began
    → Adds w h act → Adds v h act
adds_on v w h act first thread began more =
    let between : List Entry = first.begins.0 ++ more.between in
    let front : w.seen ++ more.between ≡ v.seen ++ between =
    ap (λ (l : List Entry). l ++ more.between) (sym first.begins.1)
    ∙ append_assoc v.seen first.begins.0 more.between in
    record {
      between = between;
      seen = more.seen
          ∙ (ap (λ (l : List Entry). l ++ entry w.thread act ∷ []) front
          ∙ ap (λ (t : ℕ). (v.seen ++ between) ++ entry t act ∷ []) thread);
      since = subst (λ (b : Began). Since b h) began more.since;
      legal = λ told. subst (λ (b : Began). Legal h b.globals) began
          (more.legal (ap (λ (b : Began). b.told) began ∙ told));
      own_grows = ap (own h) (sym thread)
          ∙ (more.own_grows
          ∙ (ap (λ (l : List ℕ). l ++ length (w.seen ++ more.between) ∷ []) (ap (own w.seen) thread ∙ first.own_same)
          ∙ ap (λ (l : List Entry). own v.seen v.thread ++ length l ∷ []) front));
    }

-- a step without an entry
pub reach_way : {v w u : View} {a b most : ℕ} {doing : Option Doing} → Way v w a b most → Reaches w u doing
    → Way v u a b (most + 1)
reach_way {v} {w} {u} {a} {b} {most} {doing} way step = record {
  sees = sees_on v w u.seen way.sees way.counts.thread way.counts.began step.sees;
  counts = subst (λ (c : ℕ). Counts v u c b (most + 1)) (let e : a + 0 ≡ a = omega arith in e)
      (subst (λ (d : ℕ). Counts v u (a + 0) d (most + 1)) (let e : b + 0 ≡ b = omega arith in e)
      (counts_on way.counts (step_counts w u w.known doing (λ x n has. has) step.is)));
}

-- What a call adds is seen soundly.
pub sound_sees : (v w : View) → Sees v w.seen → w.began ≡ v.began → Sees w w.seen
sound_sees v w sees began = record {
  begins = ([], append_nothing w.seen);
  since = subst (λ (b : Began). Since b w.seen) (sym began) sees.since;
  legal = λ told. subst (λ (b : Began). Legal w.seen b.globals) (sym began)
      (sees.legal (sym (ap (λ (b : Began). b.told) began) ∙ told));
  own_same = refl;
}
  where
    append_nothing : (l : List Entry) → l ++ [] ≡ l
    append_nothing [] = refl
    append_nothing (e ∷ l) = ap (λ (m : List Entry). e ∷ m) (append_nothing l)

pub sound_adds : (v w : View) (act : Act) → Adds v w.seen act → w.began ≡ v.began → Sees w w.seen
sound_adds v w act adds began = record {
  begins = ([], append_nothing w.seen);
  since = subst (λ (b : Began). Since b w.seen) (sym began) adds.since;
  legal = λ told. subst (λ (b : Began). Legal w.seen b.globals) (sym began)
      (adds.legal (sym (ap (λ (b : Began). b.told) began) ∙ told));
  own_same = refl;
}
  where
    append_nothing : (l : List Entry) → l ++ [] ≡ l
    append_nothing [] = refl
    append_nothing (e ∷ l) = ap (λ (m : List Entry). e ∷ m) (append_nothing l)

-- what others added has no entry of the thread
pub between_own : (v : View) (h : List Entry) (act : Act) (adds : Adds v h act)
    → own (v.seen ++ adds.between) v.thread ≡ own v.seen v.thread
between_own v h act adds =
    let front : List Entry = v.seen ++ adds.between in
    append_cancel_right (own front v.thread) (own v.seen v.thread) (length front ∷ [])
    (sym (own-push_own front (entry v.thread act) v.thread refl)
    ∙ (ap (λ (l : List Entry). own l v.thread) (sym adds.seen) ∙ adds.own_grows))

-- a shape that was seen stays
pub shape_stays : (g h more : List Entry) (n : ℕ) (z : Shape) → g ++ more ≡ h → shape g n ≡ Some z → shape h n ≡ Some z
shape_stays g h more n z is at =
    ap (λ (l : List Entry). shape l n) (sym is) ∙ (shape-append g more n (was_made g n z at) ∙ at)

-- the seat after a call
pub idle_seat : (words : EpochWords) (v : View) (seat : Seat ℕ View) (doing : Option Doing) → IsSeat words seat
    → (knows_of seat).doing ≡ doing → is_bound doing ≡ false → Sees (knows_of seat) (knows_of seat).seen
    → (knows_of seat).mine ≡ (knows_of seat).seen → IsIdle words seat
idle_seat words v seat doing is_seat at goes_on sound own = record {
  is_seat = is_seat;
  goes_on = ap is_bound at ∙ goes_on;
  sound = sound;
  own = own;
}
