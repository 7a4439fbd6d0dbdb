use Rattle.std.proofs.Common.{◌≡◌, ◌<◌, ◌≤◌, List, length, get_or, refl, sym, ◌∙◌, ap, arith}
use Rattle.std.proofs.Math.ListN.{length-set}
use Rattle.std.proofs.lemmas.List.{length-map}
use Rattle.std.specs.Prelude.{Some}
use Rattle.melt_rule.specs.Giving.{giver_view, given_view}
use Rattle.melt_epoch.proofs.Given.{giver_next, given_next, giver_last, thread_at}
use Rattle.melt_epoch.proofs.Mutating.{first_too, map_set, one_more}
use Rattle.melt_epoch.specs.Ends.{unseated}
use Rattle.melt_epoch.specs.Gathering.{IsGiven, fresh_view}
use Rattle.melt_epoch.specs.declared.mutator.Mutator.{Mutator}
use Rattle.melt_epoch.proofs.ends.give_seats.Goals as goal

pub loop-k-preserved : goal.loop-k-preserved
loop-k-preserved g c =
    let M : Type 0 = Mutator g.row.R.Denot in
    let i = c.loop-k.invariant in
    let start = c.args.words.now.start in
    let olds : List M = c.args.mutators.now in
    let ms : List M = c.loop-k.mutators in
    let k = c.loop-k.k in
    let d : M = c.index-mutators-k.result in
    let size : length ms ≡ length olds = c.loop-k.auto.mutators in
    let many : length olds ≡ length start.began.threads =
    sym (length-map olds (λ (m : M). m.thread)) ∙ ap length c.requires.threads in
    let there : k < length ms = (let test = c.loop-k-test.true in omega arith) in
    let below : k < length start.began.threads = omega arith in
    let new : M = record (get_or ms k d) { seat = Some c.give_seat-seat.result } in
    let given : IsGiven c.args.words.now new = record {
      seat = c.give_seat-seat.result;
      there = refl;
      is = c.give_seat-seat.ensures.given_seat;
      knows = c.give_seat-seat.ensures.given
          ∙ (ap given_view i.knows
          ∙ (given_next start k below
          ∙ ap (fresh_view start) (thread_at ms olds start.began.threads k d i.kept c.requires.threads there)));
    } in
    record {
      seat = c.give_seat-seat.ensures.seat;
      knows = c.give_seat-seat.ensures.gives ∙ (ap giver_view i.knows ∙ giver_next start k below);
      from_1 = omega arith;
      kept = map_set unseated ms k d new refl ∙ i.kept;
      given = one_more (IsGiven c.args.words.now) ms k new there i.given given;
    }

pub returns-clause-given : goal.returns-clause-given
returns-clause-given g c =
    let M : Type 0 = Mutator g.row.R.Denot in
    let i = c.loop-k.invariant in
    let start = c.args.words.now.start in
    let olds : List M = c.args.mutators.now in
    let ms : List M = c.loop-k.mutators in
    let k = c.loop-k.k in
    let d : M = c.index-mutators-0.result in
    let size : length ms ≡ length olds = c.loop-k.auto.mutators in
    let many : length olds ≡ length start.began.threads =
    sym (length-map olds (λ (m : M). m.thread)) ∙ ap length c.requires.threads in
    let some_ : 1 ≤ length ms = (let s = c.requires.some in omega arith) in
    let past : length ms ≤ k = (let test = c.loop-k-test.false in omega arith) in
    let all : k ≡ length start.began.threads = (let a = c.loop-k.auto.k in omega arith) in
    let new : M = record (get_or ms 0 d) { seat = Some c.loop-k.first } in
    let given : IsGiven c.args.words.now new = record {
      seat = c.loop-k.first;
      there = refl;
      is = i.seat;
      knows = i.knows
          ∙ (giver_last start k all
          ∙ ap (fresh_view start) (thread_at ms olds start.began.threads 0 d i.kept c.requires.threads some_));
    } in
    λ j e below. first_too (IsGiven c.args.words.now) ms new some_
    (λ h x from to. i.given h x from (omega arith)) given j e
    (let s = length-set ms 0 new in omega arith)
