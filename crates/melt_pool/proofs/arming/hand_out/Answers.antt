-- The last operations that are left are those of the last mutator that has none.
use Rattle.std.proofs.Common.{◌≡◌, ℕ, ◌+◌, ◌≤◌, List, [], ◌∷◌, ◌++◌, get_or, length, length-append, sym, ◌∙◌, ap, subst}
use Rattle.std.proofs.Common.{arith}
use Rattle.std.proofs.lemmas.Option.{same_Some}
use Rattle.std.specs.Prelude.{None, Some, slice_get, slice_set}
use Rattle.melt_epoch.specs.declared.mutator.Mutator.{Mutator}
use Rattle.melt_safepoint.specs.declared.thread.ThreadState.{ThreadState}
use Rattle.melt_pool.specs.declared.worker.Worker.{Worker}
use Rattle.melt_pool.proofs.Armed.{DoneFrom, HandedAt, front_got, last_got, next_from, one_from}
use Rattle.melt_pool.proofs.arming.hand_out.Goals as goal

pub unreachable-requires : goal.unreachable-requires
unreachable-requires g c =
    let M : Type 0 = Mutator (Worker g.row.R.Denot) in
    let i = c.loop-state.invariant in
    let olds : List M = c.args.mutators.now in
    let ms : List M = c.loop-state.mutators in
    let xs : List ThreadState = c.pop.new.self.items in
    let s : ThreadState = c.in-Some.state in
    let items : c.loop-state.states.items ≡ xs ++ s ∷ [] = c.in-Some.ensures.items in
    let next : length c.loop-state.states.items ≡ length xs + 1 = ap length items ∙ length-append xs (s ∷ []) in
    let place : c.len.result ≡ length xs = c.len.ensures ∙ c.pop.new.self.ok.0 in
    let many : length c.args.states.now.items ≡ length olds = c.requires.as_many in
    let few : length c.loop-state.states.items ≤ length c.args.states.now.items = i.few in
    let m : M = get_or ms c.len.result c.index-mutators-len.result in
    let at : slice_get olds c.len.result ≡ Some m =
    next_from _ c.len.result (length c.loop-state.states.items) olds ms c.index-mutators-len.result i.done
    (omega (arith, next, place)) (omega (arith, many, few)) in
    let work = c.requires.work c.len.result m at in
    let e : None ≡ Some work.0 = sym c.in_default-take_reader.is ∙ (c.take_reader.ensures.reader ∙ work.1) in cc

pub loop-state-preserved : goal.loop-state-preserved
loop-state-preserved g c =
    let M : Type 0 = Mutator (Worker g.row.R.Denot) in
    let i = c.loop-state.invariant in
    let olds : List M = c.args.mutators.now in
    let ms : List M = c.loop-state.mutators in
    let all : List ThreadState = c.args.states.now.items in
    let old : List ThreadState = c.loop-state.states.items in
    let xs : List ThreadState = c.pop.new.self.items in
    let s : ThreadState = c.in-Some.state in
    let j : ℕ = c.len.result in
    let n : M = c.set_reader.new.self in
    let w : Worker g.row.R.Denot = c.in-Some-take_reader.worker in
    let items : old ≡ xs ++ s ∷ [] = c.in-Some.ensures.items in
    let next : length old ≡ length xs + 1 = ap length items ∙ length-append xs (s ∷ []) in
    let place : j ≡ length xs = c.len.ensures ∙ c.pop.new.self.ok.0 in
    let many : length all ≡ length olds = c.requires.as_many in
    let few : length old ≤ length all = i.few in
    let m : M = get_or ms j c.index-mutators-len.result in
    let at : slice_get olds j ≡ Some m =
    next_from _ j (length old) olds ms c.index-mutators-len.result i.done (omega (arith, next, place))
    (omega (arith, many, few)) in
    let got : slice_get all j ≡ Some s =
    sym (i.front j (omega (arith, next, place)))
    ∙ (ap (λ (ys : List ThreadState). slice_get ys j) items
    ∙ (ap (slice_get (xs ++ s ∷ [])) place ∙ last_got xs s)) in
    let here : HandedAt all j m n = λ r at_r.
    let same : s ≡ r = same_Some s r (sym got ∙ at_r) in
    record {
      worker = w;
      there = sym c.take_reader.ensures.reader ∙ c.in-Some-take_reader.is;
      is = c.set_reader.ensures
          ∙ (ap (λ (y : M). let z : M = record y { reader = Some (record w { state = Some s }) } in z)
          c.take_reader.ensures.none
          ∙ ap (λ (q : ThreadState). let z : M = record m { reader = Some (record w { state = Some q }) } in z) same);
    } in
    record {
      few = omega (arith, next, few);
      front = λ t below. sym (front_got xs (s ∷ []) t below)
          ∙ (ap (λ (ys : List ThreadState). slice_get ys t) (sym items) ∙ i.front t (omega (arith, below, next)));
      done = subst (λ (q : ℕ). DoneFrom (HandedAt all) q olds (slice_set ms j n)) place
          (one_from _ j (length old) olds ms m n (omega (arith, next, place)) i.done at here);
      room = c.in-Some.ensures.capacity ∙ i.room;
    }

pub returns-clause-handed : goal.returns-clause-handed
returns-clause-handed g c =
    let i = c.loop-state.invariant in
    let none : length c.loop-state.states.items ≡ 0 = sym c.loop-state.states.ok.0 ∙ c.in_default.ensures.cases.0 in
    record {
      count = i.done.count;
      each = λ t s m n at_s at_m at_n. i.done.done t m n (omega (arith, none)) at_m at_n s at_s;
    }
