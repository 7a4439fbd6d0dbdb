-- How a thread of a run by real threads goes on with its next call.
use Rattle.std.proofs.Common.{◌≡◌, ◌≢◌, ℕ, suc, ◌+◌, ◌*◌, ◌<◌, ◌≤◌, List, length, refl, sym, ◌∙◌, ap, subst, arith}
use Rattle.std.proofs.Common.{inl, inr, true}
use Rattle.std.specs.Prelude.{Bool, Option, Some, Result, Ok, Err, slice_get}
use Rattle.melt_model.specs.Thread.{own}
use Rattle.melt_model.specs.declared.operations.Op.{Op}
use Rattle.melt_model.specs.declared.operations.Op.TheVariants.{Collect}
use Rattle.melt_model.specs.declared.operations.Reply.{Reply}
use Rattle.melt_trace.specs.Script.{Script, operations}
use Rattle.melt_scion.specs.Scions.{Scions}
use Rattle.melt_core.specs.declared.answer.Refusal.{Refusal}
use Rattle.melt_rule.specs.Rule.{has_cause}
use Rattle.melt_rule.specs.Seats.{EpochWords, knows_of}
use Rattle.melt_rule.specs.declared.view.View.{View}
use Rattle.melt_epoch.specs.Calls.{HasAsked, IsAsked}
use Rattle.melt_epoch.specs.Ends.{view_of}
use Rattle.melt_epoch.specs.Loading.{KeepsCount}
use Rattle.melt_epoch.specs.Mutators.{HasReader, IsSeated}
use Rattle.melt_epoch.specs.declared.mutator.Mutator.{Mutator}
use Rattle.melt_safepoint.specs.Modes.{CallsAgain, FitsMode, IsEnded, MayGo, Waits, jobs, mode_for, owes}
use Rattle.melt_safepoint.specs.Threads.{jobs_of, left, with_first, TakesReply}
use Rattle.melt_safepoint.specs.declared.thread.Mode.{Mode}
use Rattle.melt_safepoint.specs.declared.thread.Mode.TheVariants.{Running, Due, Silent, Collecting, Asked}
use Rattle.melt_safepoint.specs.declared.thread.Mode.TheVariants.{Lacking, Ended}
use Rattle.melt_safepoint.specs.declared.thread.ThreadState.{ThreadState}
use Rattle.melt_safepoint.proofs.Threads.{get_next}
use Rattle.melt_pool.specs.Calling.{Calls, IsCalled}
use Rattle.melt_pool.specs.Programs.{DueOnly, EndsWell, ThreadWentOn, HasEndedWell, OwesSilent, ProgramStands, Took}
use Rattle.melt_pool.specs.Programs.{Works}
use Rattle.melt_pool.specs.Programs.{dropped_for, one_going, turns_left}
use Rattle.melt_pool.proofs.Onward.{mode_goes, refused_few, reply_goes}
use Rattle.melt_pool.proofs.Owing.{refused_owes}
use Rattle.melt_pool.proofs.Refused.{refused_asked, refused_caused, refused_ends, refused_fits, refused_looks}
use Rattle.melt_pool.proofs.Refused.{refused_stops}
use Rattle.melt_pool.proofs.Refused.{refused_thread, refused_waits}
use Rattle.melt_pool.proofs.Waiting.{asks_causes, told_goes}
use Rattle.melt_pool.proofs.Working.{dropped_reader, dropped_thread, dropped_view, goes_on, replied, runs_free}
use Rattle.melt_pool.proofs.Working.{seated_thread, seated_view, seen_same, thread_stays}

-- the next operation of a thread stands where its replies end
pub next_stands : (script : Script) (t : ℕ) (s : ThreadState) (op : Op) → ProgramStands script t s → s.op ≡ Some op
    → slice_get (operations script t) (length s.replies.items) ≡ Some op
next_stands script t s op p next =
    get_next (operations script t) s.cursor.operations (length s.replies.items) op
    (sym p.to_come ∙ ap (λ (o : Option Op). with_first o s.cursor.operations) next)

-- a thread that was told its last reply has replies to all operations
ends_told : (told : Bool) (finish : ℕ) {script : Script} {t : ℕ} (faults : ℕ) {s after : ThreadState} (op : Op)
    {reply : Reply} → ProgramStands script t after → TakesReply s after reply
    → EndsWell told finish script t (length after.replies.items) faults after.mode
ends_told told finish {script} {t} faults {after} op p takes =
    let E : Mode → Type 0 = EndsWell told finish script t (length after.replies.items) faults in
    elim takes.fits [
      | inl runs ↦ subst E (sym runs.0) tt
      | inr over ↦ elim over [
        | inl due ↦ subst E (sym due) tt
        | inr ended ↦
            let all : length after.replies.items ≡ length (operations script t) =
            let w : length after.replies.items + length (left after) ≡ length (operations script t) = p.within in
            omega (arith, w, ap length ended.1) in
            subst E (sym ended.0) all
      ]
    ]

goes_few : (mode : Mode) → one_going mode ≤ 1
goes_few Running = omega arith
goes_few Due = omega arith
goes_few Silent = omega arith
goes_few Collecting = omega arith
goes_few Asked = omega arith
goes_few Lacking = omega arith
goes_few (Ended e) = omega arith

-- a reply leaves less to do
less_told : (s after : ThreadState) (op : Op) (reply : Reply) → s.op ≡ Some op → TakesReply s after reply
    → turns_left after < turns_left s
less_told s after op reply next takes =
    let had : length (left s) ≡ suc (length s.cursor.operations) =
    ap length (ap (λ (o : Option Op). with_first o s.cursor.operations) next) in
    let has : length (left after) ≡ length s.cursor.operations = ap length takes.to_come in
    let few : one_going after.mode ≤ 1 = goes_few after.mode in
    omega (arith, had, has, few)

-- a thread that waits keeps what it holds
waits_keeps : {R : Type 0} (n : Mutator R) (mode : Mode) → Waits mode → dropped_for mode n ≡ n
waits_keeps n Running w = absurd w
waits_keeps n Due w = absurd w
waits_keeps n Silent w = refl
waits_keeps n Collecting w = refl
waits_keeps n Asked w = absurd w
waits_keeps n Lacking w = refl
waits_keeps n (Ended e) w = absurd w

-- a thread that may go on has not ended
pub may_not_end : (mode : Mode) → MayGo mode → IsEnded mode → ⊥
may_not_end Running may over = over
may_not_end Due may over = over
may_not_end Silent may over = may
may_not_end Collecting may over = may
may_not_end Asked may over = may
may_not_end Lacking may over = may
may_not_end (Ended e) may over = may

module _ {R : Type 0} (image : R → Option (List ℕ)) (faults : R → ℕ) (script : Script) (words : EpochWords)
    (scions : Scions) (finish : ℕ) (m n : Mutator R) (s : ThreadState) where
  abbrev told : Bool
  told = words.start.began.told

  -- what a call came to, by the views
  pub by_views : (p q : R) (op : Op) (result : Result Reply Refusal) → IsSeated words m → IsSeated words n
      → m.reader ≡ Some p → n.reader ≡ Some q → IsCalled image faults told scions finish m n op result
      → Calls told (image p) scions finish (faults p) (faults q) (view_of m) (view_of n) m.values n.values op result
  by_views p q op result before after mp nq called =
      let C : View → View → Type 0 =
      λ v w. Calls told (image p) scions finish (faults p) (faults q) v w m.values n.values op result in
      subst (λ (v : View). C v (view_of n)) (sym (seated_view words m before))
      (subst (λ (w : View). C (knows_of before.seat) w) (sym (seated_view words n after))
      (called before.seat after.seat p q before.there after.there mp nq))

  -- a thread made its call
  pub called_works : (p q : R) (after : ThreadState) (op : Op) (result : Result Reply Refusal) → Works script words m s
      → s.mode ≡ Running → s.op ≡ Some op → op ≢ Collect → IsSeated words n → m.reader ≡ Some p → n.reader ≡ Some q
      → IsCalled image faults told scions finish m n op result → Took s after result
      → Works script words (dropped_for after.mode n) after
  called_works p q after op (Ok reply) works runs next other seated mp nq called took =
      let call = by_views p q op (Ok reply) works.seated seated mp nq called in
      replied script words m n s works seated after op reply runs next took call.0 call.1
  called_works p q after op (Err why) works runs next other seated mp nq called took =
      let call = by_views p q op (Err why) works.seated seated mp nq called in
      let v : View = view_of m in
      let w : View = view_of n in
      subst (λ (x : ThreadState). Works script words (dropped_for x.mode n) x) (sym took)
      (goes_on script words m n s works seated (mode_for why) call.0
      (refused_thread told (image p) scions finish (faults p) (faults q) v w m.values op why call.2) call.1
      (refused_fits told (image p) scions finish (faults p) (faults q) v w m.values op why s.op next other call.2)
      (refused_looks told (image p) scions finish (faults p) (faults q) v w m.values op why s.op next call.2)
      (λ over. subst IsEnded runs over)
      (refused_waits told (image p) scions finish (faults p) (faults q) v w m.values op why call.2
      (runs_free script words m s works runs))
      (refused_asked told (image p) scions finish (faults p) (faults q) v w m.values op why call.2))

  -- and why it has ended, if it has
  pub called_ends : (p q : R) (after : ThreadState) (op : Op) (result : Result Reply Refusal) → Works script words m s
      → s.mode ≡ Running → s.op ≡ Some op → op ≢ Collect → IsSeated words n → m.reader ≡ Some p → n.reader ≡ Some q
      → IsCalled image faults told scions finish m n op result → KeepsCount faults m n → Took s after result
      → HasEndedWell faults told finish script (dropped_for after.mode n) after
  called_ends p q after op (Ok reply) works runs next other seated mp nq called count took r there =
      let now : Works script words (dropped_for after.mode n) after =
      called_works p q after op (Ok reply) works runs next other seated mp nq called took in
      ends_told told finish (faults r) op now.program took
  called_ends p q after op (Err why) works runs next other seated mp nq called count took r there =
      let call = by_views p q op (Err why) works.seated seated mp nq called in
      let v : View = view_of m in
      let w : View = view_of n in
      let is_reader : q ≡ r =
      let both : Some q ≡ Some r = sym nq ∙ (sym (dropped_reader after.mode n) ∙ there) in cc in
      let thread : (dropped_for after.mode n).thread ≡ m.thread =
      dropped_thread after.mode n
      ∙ thread_stays words m n works.seated seated
      (refused_thread told (image p) scions finish (faults p) (faults q) v w m.values op why call.2) in
      let ends : EndsWell told finish script m.thread (length s.replies.items) (faults q) (mode_for why) =
      refused_ends told (image p) scions finish (faults p) (faults q) v w m.values op why script m.thread
      (length s.replies.items) (count p q mp nq) (next_stands script m.thread s op works.program next) call.2 in
      let E : ℕ → ℕ → ThreadState → Type 0 =
      λ t f x. EndsWell told finish script t (length x.replies.items) f x.mode in
      subst (λ (t : ℕ). E t (faults r) after) (sym thread)
      (subst (λ (x : R). E m.thread (faults x) after) is_reader
      (subst (λ (x : ThreadState). E m.thread (faults q) x) (sym took) ends))

  -- it goes on
  pub called_goes : (every : ℕ) (p q : R) (after : ThreadState) (op : Op) (result : Result Reply Refusal)
      → Works script words m s → s.mode ≡ Running → s.op ≡ Some op → op ≢ Collect → IsSeated words n
      → m.reader ≡ Some p → n.reader ≡ Some q → IsCalled image faults told scions finish m n op result
      → Took s after result → OwesSilent every s after → DueOnly every s after
      → ThreadWentOn every script m (dropped_for after.mode n) s after
  called_goes every p q after op (Ok reply) works runs next other seated mp nq called took owing due =
      let call = by_views p q op (Ok reply) works.seated seated mp nq called in
      let few : length (own (view_of n).seen m.thread) ≤ length (own (view_of m).seen m.thread) + 1 =
      subst (λ (t : ℕ). length (own (view_of n).seen t) ≤ length (own (view_of m).seen t) + 1)
      (seated_thread words m works.seated) call.0.own_few in
      reply_goes every script m (dropped_for after.mode n) s after op reply
      (dropped_thread after.mode n ∙ thread_stays words m n works.seated seated call.1.thread) works.program runs next
      other took owing due
      (subst (λ (w : View). length (own w.seen m.thread) ≤ length (own (view_of m).seen m.thread) + 1)
      (sym (dropped_view after.mode n)) few)
  called_goes every p q after op (Err why) works runs next other seated mp nq called took owing due =
      let call = by_views p q op (Err why) works.seated seated mp nq called in
      mode_goes every script m (dropped_for after.mode n) s after (mode_for why) took
      (dropped_thread after.mode n
      ∙ thread_stays words m n works.seated seated
      (refused_thread told (image p) scions finish (faults p) (faults q) (view_of m) (view_of n) m.values op why
      call.2))
      (subst (λ (w : View). own w.seen m.thread ≡ own (view_of m).seen m.thread) (sym (dropped_view after.mode n))
      (seen_same script words m n s works seated call.0)) (refused_owes why ∙ sym (ap owes runs))
      (refused_few s why runs)

  -- it has less to do then
  pub called_nearer : (after : ThreadState) (op : Op) (result : Result Reply Refusal) → s.mode ≡ Running
      → s.op ≡ Some op → Took s after result → turns_left after < turns_left s
  called_nearer after op (Ok reply) runs next took = less_told s after op reply next took
  called_nearer after op (Err why) runs next took =
      let now : turns_left after ≡ 2 * length (left s) + 0 =
      ap turns_left took ∙ ap (λ (k : ℕ). 2 * length (left s) + k) (refused_stops why) in
      let was : turns_left s ≡ 2 * length (left s) + 1 =
      ap (λ (mode : Mode). 2 * length (left s) + one_going mode) runs in
      omega (arith, now, was)

  -- if it waits then, its seat has a cause
  pub called_caused : (p q : R) (after : ThreadState) (op : Op) (result : Result Reply Refusal) → IsSeated words m
      → IsSeated words n → m.reader ≡ Some p → n.reader ≡ Some q
      → IsCalled image faults told scions finish m n op result → Took s after result → Waits after.mode
      → has_cause (view_of (dropped_for after.mode n)) ≡ true
  called_caused p q after op (Ok reply) before seated mp nq called took waits =
      absurd (told_goes s after reply took waits)
  called_caused p q after op (Err why) before seated mp nq called took waits =
      let call = by_views p q op (Err why) before seated mp nq called in
      ap has_cause (dropped_view after.mode n)
      ∙ refused_caused told (image p) scions finish (faults p) (faults q) (view_of m) (view_of n) m.values op why call.2
      (subst (λ (x : ThreadState). Waits x.mode) took waits)

  -- its mutator is of the same thread, and has a reader still
  pub called_thread : (p q : R) (mode : Mode) (op : Op) (result : Result Reply Refusal) → IsSeated words m
      → IsSeated words n → m.reader ≡ Some p → n.reader ≡ Some q
      → IsCalled image faults told scions finish m n op result → (dropped_for mode n).thread ≡ m.thread
  called_thread p q mode op (Ok reply) before seated mp nq called =
      let call = by_views p q op (Ok reply) before seated mp nq called in
      dropped_thread mode n ∙ thread_stays words m n before seated call.1.thread
  called_thread p q mode op (Err why) before seated mp nq called =
      let call = by_views p q op (Err why) before seated mp nq called in
      dropped_thread mode n
      ∙ thread_stays words m n before seated
      (refused_thread told (image p) scions finish (faults p) (faults q) (view_of m) (view_of n) m.values op why call.2)

-- a mutator that drops what it holds keeps its reader
pub reader_stays : {R : Type 0} (image : R → Option (List ℕ)) (words : EpochWords) (mode : Mode) (n : Mutator R)
    → HasReader image words n → HasReader image words (dropped_for mode n)
reader_stays image words mode n has = record {
  reader = has.reader;
  there = dropped_reader mode n ∙ has.there;
  tells = has.tells;
}

-- what a thread that asked all to stop leaves of its seat, by the views
asked_views : {R : Type 0} (words : EpochWords) (m n : Mutator R) → IsSeated words m → IsSeated words n → IsAsked m n
    → HasAsked (view_of m) (view_of n)
asked_views words m n before seated asked =
    subst (λ (v : View). HasAsked v (view_of n)) (sym (seated_view words m before))
    (subst (λ (w : View). HasAsked (knows_of before.seat) w) (sym (seated_view words n seated))
    (asked.1 before.seat seated.seat before.there seated.there))

-- a thread asks all to stop, and waits
pub asked_works : {R : Type 0} (script : Script) (words : EpochWords) (m n : Mutator R) (s : ThreadState) (mode : Mode)
    → Works script words m s → MayGo s.mode → IsSeated words n → IsAsked m n → FitsMode mode s.op
    → (CallsAgain mode → ⊥) → Waits mode
    → Works script words n (record s { mode = mode })
asked_works {R} script words m n s mode works may seated asked fits once waits =
    let has = asked_views words m n works.seated seated asked in
    subst (λ (x : Mutator R). Works script words x (record s { mode = mode })) (waits_keeps n mode waits)
    (goes_on script words m n s works seated mode has.sees has.thread (ap (λ (x : Mutator R). x.values) asked.0) fits
    (λ again. absurd (once again)) (may_not_end s.mode may) (λ cause. waits) (λ is. absurd (subst Waits is waits)))

-- and goes on
pub asked_goes : {R : Type 0} (every : ℕ) {script : Script} {words : EpochWords} {m n : Mutator R}
    {s after : ThreadState} (mode : Mode) → Works script words m s → IsSeated words n → IsAsked m n
    → after ≡ record s { mode = mode } → owes mode ≡ owes s.mode → jobs mode (length (left s)) ≤ jobs_of s
    → ThreadWentOn every script m n s after
asked_goes {R} every {script} {words} {m} {n} {s} {after} mode works seated asked is owed few =
    mode_goes every script m n s after mode is (ap (λ (x : Mutator R). x.thread) asked.0)
    (seen_same script words m n s works seated (asked_views words m n works.seated seated asked).sees) owed few

-- and has a cause
pub asked_caused : {R : Type 0} (words : EpochWords) (m n : Mutator R) → IsSeated words m → IsSeated words n
    → IsAsked m n → has_cause (view_of n) ≡ true
asked_caused words m n before seated asked =
    asks_causes (view_of m) (view_of n) (asked_views words m n before seated asked)

-- and is of the same thread
pub asked_thread : {R : Type 0} (m n : Mutator R) → IsAsked m n → n.thread ≡ m.thread
asked_thread {R} m n asked = ap (λ (x : Mutator R). x.thread) asked.0
