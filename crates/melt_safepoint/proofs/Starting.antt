-- The threads of a run before their first events.
use Rattle.std.specs.Prelude.{Bool, Option, None, Some, IsSome, slice_get}
use Rattle.std.specs.List.{count_by}
use Rattle.std.proofs.Common.{◌≡◌, ℕ, ◌+◌, ◌*◌, ◌/◌, ◌%◌, ◌<◌, ◌≤◌, zero, suc, List, [], ◌∷◌, length, take, refl, sym}
use Rattle.std.proofs.Common.{◌∙◌, ap, subst, arith, inl, inr}
use Rattle.std.proofs.Math.Nat.{div-add-mod, mul-le-mul_left}
use Rattle.std.proofs.lemmas.Bool.{cases_lt}
use Rattle.std.proofs.lemmas.List.Sums.{sum-map, sum_by-cons}
use Rattle.std.proofs.lemmas.Option.{slice_get_cases}
use Rattle.melt_model.specs.declared.config.Config.{Config}
use Rattle.melt_model.specs.declared.history.Entry.{Entry}
use Rattle.melt_model.specs.declared.operations.Op.{Op}
use Rattle.melt_trace.specs.Script.{Script, operations}
use Rattle.melt_safepoint.specs.declared.thread.ThreadState.{ThreadState}
use Rattle.melt_safepoint.specs.Counts.{CountsCollections}
use Rattle.melt_safepoint.specs.Asked.{collects, is_collect, silent_in, collections}
use Rattle.melt_safepoint.specs.Run.{HasNoOperations}
use Rattle.melt_safepoint.specs.Threads.{AreNewThreads, IsNewThread, replies_of, owing, AllEnded, left, with_first}
use Rattle.melt_safepoint.specs.Endings.{EndsSo}
use Rattle.melt_safepoint.specs.Modes.{HadNoRoom, lost, owes, IsEnded}
use Rattle.melt_safepoint.specs.Losses.{losses}
use Rattle.melt_safepoint.proofs.Counting.{overs_most}
use Rattle.melt_safepoint.proofs.Cuts.{replies_here, replies_past}

-- no thread has a reply
no_replies : (script : Script) (entries t : ℕ) (states : List ThreadState) → AreNewThreads script states entries
    → replies_of states t ≡ []
no_replies script entries t states new_states = elim (slice_get_cases states t).1 [
  | inl w ↦ replies_here states t w.0 w.2 ∙ (new_states.each t w.0 w.2).replies
  | inr w ↦ replies_past states t w.0
]

-- a thread that has ended at once has no operations
pub ends_new : (told : Bool) {script : Script} (log : List Entry) (config : Config) {entries : ℕ} (t : ℕ)
    {states : List ThreadState} {s : ThreadState} → AreNewThreads script states entries → slice_get states t ≡ Some s
    → EndsSo told script log states config t s.mode
ends_new told {script} log config {entries} t {states} {s} new_states at =
    let new : IsNewThread (operations script t) script.globals s = new_states.each t s at in
    elim new.mode [
      | inl runs ↦ subst (EndsSo told script log states config t) (sym runs.0) tt
      | inr over ↦ subst (EndsSo told script log states config t) (sym over.0)
          (ap length (no_replies script entries t states new_states) ∙ ap length (sym over.1 ∙ new.to_come))
    ]

-- no thread has ended for want of room before the first event
pub none_new : {script : Script} {entries : ℕ} {states : List ThreadState} → AreNewThreads script states entries
    → (t : ℕ) (s : ThreadState) → slice_get states t ≡ Some s → HadNoRoom s.mode → ⊥
none_new new_states t s at none = elim (new_states.each t s at).mode [
  | inl runs ↦ subst HadNoRoom runs.0 none
  | inr over ↦ subst HadNoRoom over.0 none
]

-- no silent collection comes without a reply
silent_none : (every : ℕ) → silent_in every 0 ≡ 0
silent_none zero = refl
silent_none (suc e) =
    let some : 0 < suc e = omega arith in
    let by : suc e * (0 / suc e) + 0 % suc e ≡ 0 = div-add-mod 0 (suc e) in
    elim (cases_lt 0 (0 / suc e)) [
      | inl more ↦ absurd (let one : 1 ≤ 0 / suc e = omega (arith, more) in
          let large : suc e * 1 ≤ suc e * (0 / suc e) = mul-le-mul_left (suc e) one in omega (arith, large, by))
      | inr none ↦ omega (arith, none)
    ]

-- no `collect` was answered
asked_new : (script : Script) (entries n : ℕ) (states : List ThreadState) → AreNewThreads script states entries
    → collects script (replies_of states) n ≡ 0
asked_new script entries zero states new_states = refl
asked_new script entries (suc n) states new_states =
    let none : length (replies_of states n) ≡ 0 = ap length (no_replies script entries n states new_states) in
    let own : count_by is_collect (take (length (replies_of states n)) (operations script n)) ≡ 0 =
    ap (λ (k : ℕ). count_by is_collect (take k (operations script n))) none in
    omega (arith, asked_new script entries n states new_states, own)

-- no silent collection is to come
owing_none : (states : List ThreadState) → ((t : ℕ) (s : ThreadState) → slice_get states t ≡ Some s → owes s.mode ≡ 0)
    → owing states ≡ 0
owing_none [] each = refl
owing_none (s ∷ states) each =
    let f : ThreadState → ℕ = λ (x : ThreadState). owes x.mode in
    let here : owes s.mode ≡ 0 = each 0 s refl in
    let others : owing states ≡ 0 = owing_none states (λ t x at. each (suc t) x at) in
    omega (arith, here, others, sum-map f states, sum-map f (s ∷ states), sum_by-cons f s states)

-- no collection was answered
pub collections_new : (script : Script) (config : Config) (entries n : ℕ) (states : List ThreadState)
    → AreNewThreads script states entries → collections script config (replies_of states) n ≡ 0
collections_new script config entries zero states new_states = refl
collections_new script config entries (suc n) states new_states =
    let none : length (replies_of states n) ≡ 0 = ap length (no_replies script entries n states new_states) in
    let own : count_by is_collect (take (length (replies_of states n)) (operations script n)) ≡ 0 =
    ap (λ (k : ℕ). count_by is_collect (take k (operations script n))) none in
    omega (
      arith,
      collections_new script config entries n states new_states,
      own,
      ap (silent_in config.every) none,
      silent_none config.every,
    )

-- so all that is counted is nothing
pub counts_new : (script : Script) (config : Config) (entries : ℕ) (states : List ThreadState)
    → AreNewThreads script states entries → CountsCollections script config 0 states 0
counts_new script config entries states new_states = record {
  collected = omega (arith, collections_new script config entries (length script.programs) states new_states);
  asked = omega (arith, asked_new script entries (length script.programs) states new_states);
  bounded = omega (
    arith,
    owing_none states (λ t s at. elim (new_states.each t s at).mode [
      | inl runs ↦ ap owes runs.0
      | inr ends ↦ ap owes ends.0
    ]),
  );
  pays = omega (arith, overs_most states);
}

-- where no thread is lost, none is counted
none_lost : (states : List ThreadState) → ((t : ℕ) (s : ThreadState) → slice_get states t ≡ Some s → lost s.mode ≡ 0)
    → losses states ≡ 0
none_lost [] each = refl
none_lost (s ∷ states) each =
    let f : ThreadState → ℕ = λ (x : ThreadState). lost x.mode in
    let here : lost s.mode ≡ 0 = each 0 s refl in
    let others : losses states ≡ 0 = none_lost states (λ t x at. each (suc t) x at) in
    omega (arith, here, others, sum-map f states, sum-map f (s ∷ states), sum_by-cons f s states)

-- no new thread is
pub losses_new : (script : Script) (entries : ℕ) (states : List ThreadState) → AreNewThreads script states entries
    → losses states ≡ 0
losses_new script entries states new_states =
    none_lost states (λ t s at. elim (new_states.each t s at).mode [
      | inl runs ↦ ap lost runs.0
      | inr over ↦ ap lost over.0
    ])

-- what is next is not nothing
no_next : (next : Option Op) (ops : List Op) → with_first next ops ≡ [] → IsSome next → ⊥
no_next None ops nothing some = absurd (cc)
no_next (Some o) ops nothing some = absurd (let wrong : o ∷ ops ≡ [] = nothing in cc)

-- no new thread goes on where none has an operation
pub idle_new : (script : Script) (entries : ℕ) (states : List ThreadState) → AreNewThreads script states entries
    → HasNoOperations script → AllEnded states
idle_new script entries states new_states none t s at =
    let new = new_states.each t s at in
    let nothing : left s ≡ [] = new.to_come ∙ none t in
    elim new.mode [
      | inl runs ↦ absurd (no_next s.op s.cursor.operations nothing runs.1)
      | inr over ↦ subst IsEnded (sym over.0) tt
    ]
