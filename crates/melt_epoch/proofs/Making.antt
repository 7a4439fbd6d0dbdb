-- An object is made by its steps: a claim, the stores into its words, and that of its header.
use Rattle.std.proofs.Common.{◌≡◌, ℕ, ◌+◌, ◌-◌, ◌≤◌, false, List, [], ◌∷◌, ◌++◌, refl, sym, ◌∙◌, ap, subst}
use Rattle.std.proofs.Common.{arith}
use Rattle.std.proofs.lemmas.List.{append_cancel_right}
use Rattle.std.specs.Prelude.{Option, None, Some}
use Rattle.melt_model.specs.History.{made}
use Rattle.melt_model.specs.declared.history.Act.TheVariants.{Make}
use Rattle.melt_model.specs.declared.history.Entry.{Entry}
use Rattle.melt_word.specs.Words.{cost_of}
use Rattle.melt_word.specs.declared.header.Shape.{Shape}
use Rattle.melt_core.specs.Answering.{entry}
use Rattle.melt_rule.proofs.Loads.{snoc_here, snoc_old}
use Rattle.melt_rule.specs.Making.{Claims, Lacks, Makes as Publishes}
use Rattle.melt_rule.specs.Rule.{Has}
use Rattle.melt_rule.specs.Tells.{Adds, HasAll, Polls, Reaches, Sees, Stops, view_after}
use Rattle.melt_rule.specs.declared.began.Began.{Began}
use Rattle.melt_rule.specs.declared.began.Pair.{Pair}
use Rattle.melt_rule.specs.declared.view.Doing.{Doing}
use Rattle.melt_rule.specs.declared.view.Doing.TheVariants.{Claimed}
use Rattle.melt_rule.specs.declared.view.View.{View}
use Rattle.melt_epoch.proofs.Following.{Way, adds_on, counts_on, first_on, idle_way, no_counts, reach_way, sees_on}
use Rattle.melt_epoch.proofs.Following.{sound_sees, step_counts}
use Rattle.melt_epoch.specs.Calls.{Counts, FillsRegion, LacksRoomToMake, Made}
use Rattle.melt_core.specs.declared.answer.Pause.TheVariants.{Space}
use Rattle.melt_core.specs.declared.answer.Refusal.TheVariants.{Pause}

pub no_fills : (v : View) (address : ℕ) → Sees v v.seen → FillsRegion v v address 0
no_fills v address sound z is = record { sees = sound; counts = no_counts v; at = is }

pub fills_more : (v w u : View) (address k : ℕ) → FillsRegion v w address k
    → ((z : Shape) → w.doing ≡ Some (Claimed address z k) → Reaches w u (Some (Claimed address z (k + 1))))
    → FillsRegion v u address (k + 1)
fills_more v w u address k fills step z is =
    let goes = fills z is in
    let reaches = step z goes.at in
    let way : Way v w 0 0 k = record { sees = goes.sees; counts = goes.counts } in
    let more = reach_way way reaches in
    record { sees = more.sees; counts = more.counts; at = ap (λ (x : View). x.doing) reaches.is }

-- after a claim that fits
claimed_counts : (v : View) (h : List Entry) (doing : Option Doing) (cost : ℕ)
    → Counts v (record (view_after v h v.known doing) { claimed = v.claimed + cost }) cost 0 1
claimed_counts v h doing cost = record {
  thread = refl;
  parts = refl;
  away = refl;
  began = refl;
  known = λ a n has. has;
  asked = refl;
  spaced = refl;
  forwarded = refl;
  claimed = refl;
  over = refl;
  won = omega arith;
  steps = omega arith;
  counted = omega arith;
}

pub claimed_way : (v w u : View) (address cost : ℕ) → Sees v v.seen → Polls v w false → Claims w u address cost
    → Way v u cost 0 2
claimed_way v w u address cost sound polls claims =
    let way = reach_way (idle_way v sound) polls.0 in
    let step : Counts w u cost 0 1 = subst (λ (x : View). Counts w x cost 0 1) (sym claims.is)
    (claimed_counts w u.seen (Some (Claimed address claims.shape 0)) cost) in
    record {
      sees = sees_on v w u.seen way.sees way.counts.thread way.counts.began claims.sees;
      counts = subst (λ (c : ℕ). Counts v u c 0 2) (let e : 0 + cost ≡ cost = omega arith in e)
          (counts_on way.counts step);
    }

-- after its stores and the store of the header
pub made_it : {v w u : View} (x y : View) {address : ℕ} (z : Shape) (claims : Claims w u address (cost_of z))
    → Sees v v.seen → Polls v w false → FillsRegion u x address (cost_of z - 1) → Publishes x y address z
    → 1 ≤ cost_of z → Made v y z address
made_it {v} {w} {u} x y {address} z claims sound polls fills publishes some_ =
    let before = claimed_way v w u address (cost_of z) sound polls claims in
    let goes = fills claims.shape (ap (λ (k : View). k.doing) claims.is) in
    let sees : Sees v x.seen = sees_on v u x.seen before.sees before.counts.thread before.counts.began goes.sees in
    let counts = counts_on before.counts goes.counts in
    let act = Make z.refs z.nums in
    let adds : Adds v y.seen act = adds_on v x y.seen act sees counts.thread counts.began publishes.adds in
    let pair : ℕ → Pair = λ n. record { address = address; object = n } in
    let number : ℕ = made (x.seen ++ publishes.adds.between) in
    let known : y.known ≡ x.known ++ pair number ∷ [] = ap (λ (k : View). k.known) publishes.is in
    let more : HasAll x.known y.known =
    subst (HasAll x.known) (sym known) (snoc_old x.known (pair number)) in
    let last = step_counts x y (x.known ++ pair number ∷ []) None (snoc_old x.known (pair number)) publishes.is in
    let front : x.seen ++ publishes.adds.between ≡ v.seen ++ adds.between =
    append_cancel_right (x.seen ++ publishes.adds.between) (v.seen ++ adds.between) (entry v.thread act ∷ [])
    (ap (λ (t : ℕ). (x.seen ++ publishes.adds.between) ++ entry t act ∷ []) (sym counts.thread)
    ∙ (sym publishes.adds.seen ∙ adds.seen)) in
    let here : Has y.known address number =
    subst (λ (l : List Pair). Has l address number) (sym known) (snoc_here x.known (pair number)) in
    record {
      adds = adds;
      counts = made_counts v y (cost_of z) some_
          (counts_on counts last);
      names = subst (λ (h : List Entry). Has y.known address (made h)) front here;
    }
  where
    made_counts : (v y : View) (cost : ℕ) → 1 ≤ cost → Counts v y (cost + 0 + 0) (0 + 0 + 0) (2 + (cost - 1) + 1)
        → Counts v y cost 0 (cost + 2)
    made_counts v y cost some_ counts = record {
      thread = counts.thread;
      parts = counts.parts;
      away = counts.away;
      began = counts.began;
      known = counts.known;
      asked = counts.asked;
      spaced = counts.spaced;
      forwarded = counts.forwarded;
      claimed = let c = counts.claimed in omega arith;
      over = counts.over;
      won = let c = counts.won in omega arith;
      steps = let c = counts.steps in omega arith;
      counted = counts.counted;
    }

-- after a claim that does not fit, and the stop word
pub lacked_it : (v w u x : View) (z : Shape) → Sees v v.seen → Polls v w false → Lacks w u (cost_of z) → Stops u x
    → LacksRoomToMake v x z (Pause (Space (cost_of z)))
lacked_it v w u x z sound polls lacks stops =
    let way = reach_way (idle_way v sound) polls.0 in
    let first = way.counts in
    let sees_u : Sees v u.seen = sees_on v w u.seen way.sees first.thread first.began lacks.sees in
    let thread_u : u.thread ≡ v.thread = ap (λ (k : View). k.thread) lacks.is ∙ first.thread in
    let began_u : u.began ≡ v.began = ap (λ (k : View). k.began) lacks.is ∙ first.began in
    let known_u : (a n : ℕ) → Has v.known a n → Has u.known a n =
    λ a n has. subst (λ (k : View). Has k.known a n) (sym lacks.is) (first.known a n has) in
    record {
      is = refl;
      sees = sees_on v u x.seen sees_u thread_u began_u stops.sees;
      lacked = record {
        thread = ap (λ (k : View). k.thread) stops.is ∙ thread_u;
        parts = ap (λ (k : View). k.parts) stops.is ∙ (ap (λ (k : View). k.parts) lacks.is ∙ first.parts);
        away = ap (λ (k : View). k.away) stops.is ∙ (ap (λ (k : View). k.away) lacks.is ∙ first.away);
        began = ap (λ (k : View). k.began) stops.is ∙ began_u;
        known = λ a n has. subst (λ (k : View). Has k.known a n) (sym stops.is) (known_u a n has);
        asked = ap (λ (k : View). k.asked) stops.is ∙ (ap (λ (k : View). k.asked) lacks.is ∙ first.asked);
        spaced = ap (λ (k : View). k.spaced) stops.is ∙ ap (λ (k : View). k.spaced) lacks.is;
        forwarded = ap (λ (k : View). k.forwarded) stops.is
            ∙ (ap (λ (k : View). k.forwarded) lacks.is ∙ first.forwarded);
        claimed =
            let a = ap (λ (k : View). k.claimed) stops.is in
            let b = ap (λ (k : View). k.claimed) lacks.is in
            let c = first.claimed in
            omega arith;
        over =
            let a = ap (λ (k : View). k.over) stops.is in
            let b = ap (λ (k : View). k.over) lacks.is in
            let c = first.over in
            omega arith;
        won =
            let a = ap (λ (k : View). k.won) stops.is in
            let b = ap (λ (k : View). k.won) lacks.is in
            let c = first.won in
            omega arith;
        steps =
            let a = ap (λ (k : View). k.steps) stops.is in
            let b = ap (λ (k : View). k.steps) lacks.is in
            let c = first.steps in
            omega arith;
        counted =
            let a = ap (λ (k : View). k.steps) stops.is in
            let b = ap (λ (k : View). k.steps) lacks.is in
            let c = first.counted in
            omega arith;
        found = lacks.found;
        first = first_on v w 1 lacks.found first lacks.first;
        past = let b = ap (λ (b : Began). b.size) first.began in let p = lacks.past in omega arith;
      };
    }

-- what was seen by then
pub stopped_sees : (v w u x : View) (cost : ℕ) → Sees v v.seen → Polls v w false → Lacks w u cost → Stops u x
    → Sees x x.seen
stopped_sees v w u x cost sound polls lacks stops =
    let way = reach_way (idle_way v sound) polls.0 in
    let thread_u : u.thread ≡ v.thread = ap (λ (k : View). k.thread) lacks.is ∙ way.counts.thread in
    let began_u : u.began ≡ v.began = ap (λ (k : View). k.began) lacks.is ∙ way.counts.began in
    let sees_u : Sees v u.seen = sees_on v w u.seen way.sees way.counts.thread way.counts.began lacks.sees in
    sound_sees v x (sees_on v u x.seen sees_u thread_u began_u stops.sees)
    (ap (λ (k : View). k.began) stops.is ∙ began_u)
