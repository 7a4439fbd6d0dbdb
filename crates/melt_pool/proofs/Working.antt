-- How a thread of a run by real threads stands after its next call.
use Rattle.std.proofs.Common.{[], ◌≡◌, ℕ, suc, ◌+◌, ◌≤◌, List, ◌∷◌, ◌++◌, length, take, drop, refl, sym}
use Rattle.std.proofs.Common.{◌∙◌, ap, subst, arith, length-append, inl, inr, true}
use Rattle.std.specs.Prelude.{◌⊎◌, Option, Some, IfSome, replicate, vec_capacity, ◌||◌}
use Rattle.melt_model.specs.History.{Legal}
use Rattle.melt_model.specs.Standing.{Stands}
use Rattle.melt_model.specs.Thread.{does, own, value_in}
use Rattle.melt_model.specs.declared.history.Entry.{Entry}
use Rattle.melt_model.specs.declared.history.Value.{Value}
use Rattle.melt_model.specs.declared.history.Value.TheVariants.{Nil}
use Rattle.melt_model.specs.declared.operations.Op.{Op}
use Rattle.melt_model.specs.declared.operations.Reply.{Reply}
use Rattle.melt_model.specs.declared.reports.ThreadEnd.TheVariants as end
use Rattle.melt_trace.specs.Grammar.{InRange}
use Rattle.melt_trace.specs.Script.{Script, operations}
use Rattle.melt_core.specs.Answering.{Answers}
use Rattle.melt_core.specs.Stages.{LooksAtStop}
use Rattle.melt_rule.specs.Rule.{Begins, has_cause}
use Rattle.melt_rule.specs.Seats.{EpochWords, knows_of}
use Rattle.melt_rule.specs.Tells.{Sees}
use Rattle.melt_rule.specs.declared.began.Began.{Began}
use Rattle.melt_rule.specs.declared.view.View.{View}
use Rattle.melt_epoch.specs.Calls.{Replies}
use Rattle.melt_epoch.specs.Ends.{view_in, view_of}
use Rattle.melt_epoch.specs.Mutators.{IsSeated, with_none}
use Rattle.melt_epoch.specs.declared.mutator.Mutator.{Mutator}
use Rattle.melt_epoch.proofs.Empty.{none_held}
use Rattle.melt_safepoint.specs.Modes.{CallsAgain, FitsMode, IsEnded, Waits}
use Rattle.melt_safepoint.specs.Threads.{left, with_first, TakesReply}
use Rattle.melt_safepoint.specs.declared.thread.Mode.{Mode}
use Rattle.melt_safepoint.specs.declared.thread.Mode.TheVariants.{Running, Due, Silent, Collecting, Asked}
use Rattle.melt_safepoint.specs.declared.thread.Mode.TheVariants.{Lacking, Ended}
use Rattle.melt_safepoint.specs.declared.thread.ThreadState.{ThreadState}
use Rattle.melt_safepoint.proofs.Modes.{told_again}
use Rattle.melt_safepoint.proofs.Threads.{drop_next, take_next}
use Rattle.melt_safepoint.proofs.Telling.{Stands_answers, with_more}
use Rattle.melt_pool.specs.Calling.{SameCauses}
use Rattle.melt_pool.specs.Programs.{ProgramStands, RepliesStandIn, Works, dropped_for}
use Rattle.melt_pool.proofs.Growing.{legal_front, stands_more}

-- what is to come after a reply
pub program_takes : (script : Script) (t : ℕ) (s after : ThreadState) (op : Op) (reply : Reply)
    → ProgramStands script t s → s.op ≡ Some op → TakesReply s after reply → ProgramStands script t after
program_takes script t s after op reply p next takes =
    let ops : List Op = operations script t in
    let k : ℕ = length s.replies.items in
    let first : left s ≡ op ∷ s.cursor.operations = ap (λ (o : Option Op). with_first o s.cursor.operations) next in
    let count : length after.replies.items ≡ suc k =
    omega (arith, ap length takes.replies, length-append s.replies.items (reply ∷ [])) in
    let fewer : length (left after) ≡ length s.cursor.operations = ap length takes.to_come in
    let more : length (left s) ≡ suc (length s.cursor.operations) = ap length first in
    record {
      to_come = takes.to_come
          ∙ sym (ap (λ (n : ℕ). drop n ops) count ∙ drop_next ops s.cursor.operations k op (sym p.to_come ∙ first));
      within = let w : k + length (left s) ≡ length ops = p.within in omega (arith, w, count, fewer, more);
      none_left = takes.none_left;
      fits = elim takes.fits [
        | inl runs ↦ subst (λ (m : Mode). FitsMode m after.op) (sym runs.0) runs.1
        | inr over ↦ elim over [
          | inl due ↦ subst (λ (m : Mode). FitsMode m after.op) (sym due) tt
          | inr ended ↦ subst (λ (m : Mode). FitsMode m after.op) (sym ended.0) tt
        ]
      ];
      in_range = subst (λ (g : ℕ). IfSome after.op (InRange g)) p.globals takes.in_range;
      globals = takes.globals ∙ p.globals;
      room = let r : k + length (left s) ≤ vec_capacity s.replies = p.room in
          omega (arith, r, count, fewer, more, takes.capacity);
    }

-- a thread that waits, or has ended, has the same to come
pub program_stays : (script : Script) (t : ℕ) (s : ThreadState) (mode : Mode) → ProgramStands script t s
    → FitsMode mode s.op → ProgramStands script t (record s { mode = mode })
program_stays script t s mode p fits = record {
  to_come = p.to_come;
  within = p.within;
  none_left = p.none_left;
  fits = fits;
  in_range = p.in_range;
  globals = p.globals;
  room = p.room;
}

-- what the thread was told after a reply
pub told_takes : {script : Script} {h later : List Entry} {t : ℕ} (globals : ℕ) {s after : ThreadState}
    {old new : List Value} (values : List Value) {op : Op} {reply : Reply} → ProgramStands script t s → s.op ≡ Some op
    → (IsEnded s.mode → ⊥) → TakesReply s after reply → Legal h globals → Legal later globals
    → RepliesStandIn script h t s old → Answers t h old op reply later new → IsEnded after.mode ⊎ (new ≡ values)
    → RepliesStandIn script later t after values
told_takes {script} {h} {later} {t} globals {s} {after} {old} {new} values {op} {reply} p next goes takes before legal
    told answers ends =
    let ops : List Op = operations script t in
    let k : ℕ = length s.replies.items in
    let first : left s ≡ op ∷ s.cursor.operations = ap (λ (o : Option Op). with_first o s.cursor.operations) next in
    let count : length after.replies.items ≡ suc k =
    omega (arith, ap length takes.replies, length-append s.replies.items (reply ∷ [])) in
    let held : told.registers ≡ old = elim told.in_registers [
      | inl over ↦ absurd (goes over)
      | inr same ↦ same
    ] in
    let stands : Stands h t (take k ops) s.replies.items old =
    subst (λ (rs : List Value). Stands h t (take k ops) s.replies.items rs) held told.stands in
    let answered : Stands later t (take k ops ++ op ∷ []) (s.replies.items ++ reply ∷ []) new =
    Stands_answers globals before legal stands answers in
    let taken : take k ops ++ op ∷ [] ≡ take (length after.replies.items) ops =
    sym (ap (λ (n : ℕ). take n ops) count ∙ take_next ops s.cursor.operations k op (sym p.to_come ∙ first)) in
    record {
      registers = new;
      stands = subst (λ (rs : List Reply). Stands later t (take (length after.replies.items) ops) rs new)
          (sym takes.replies)
          (subst (λ (os : List Op). Stands later t os (s.replies.items ++ reply ∷ []) new) taken answered);
      in_registers = ends;
    }

-- and where it got none
pub told_stays : {script : Script} {h later : List Entry} {t : ℕ} {s : ThreadState} (mode : Mode) {old : List Value}
    (values : List Value) → Begins h later → own later t ≡ own h t → (IsEnded s.mode → ⊥)
    → RepliesStandIn script h t s old
    → IsEnded mode ⊎ (old ≡ values) → RepliesStandIn script later t (record s { mode = mode }) values
told_stays {script} {h} {t} {s} mode values begins own_same goes told ends = record {
  registers = told.registers;
  stands = subst
      (λ (g : List Entry). Stands g t (take (length s.replies.items) (operations script t)) s.replies.items
      told.registers) begins.1
      (stands_more h begins.0 t (take (length s.replies.items) (operations script t)) s.replies.items told.registers
      (ap (λ (g : List Entry). own g t) begins.1 ∙ own_same) told.stands);
  in_registers = elim told.in_registers [
    | inl over ↦ absurd (goes over)
    | inr held ↦ elim ends [
      | inl over ↦ inl over
      | inr same ↦ inr (held ∙ same)
    ]
  ];
}

-- a seat that has the causes that another has, has one where that has
pub same_cause : (v w : View) → SameCauses v w → has_cause w ≡ has_cause v
same_cause v w same = λ i. same.asked i || (same.spaced i || same.forwarded i)

-- the same with entries of others after what was seen
told_between : (script : Script) (h between : List Entry) (t : ℕ) (s : ThreadState) (values : List Value)
    → own (h ++ between) t ≡ own h t → RepliesStandIn script h t s values → RepliesStandIn script (h ++ between) t s
    values
told_between script h between t s values same told = record {
  registers = told.registers;
  stands = stands_more h between t (take (length s.replies.items) (operations script t)) s.replies.items told.registers
      same told.stands;
  in_registers = told.in_registers;
}

-- the history before the entry of an answer is legal
legal_before : {h later : List Entry} {t : ℕ} (globals : ℕ) {op : Op} {old new : List Value} {reply : Reply}
    → Answers t h old op reply later new → Legal later globals → Legal h globals
legal_before {h} {t} globals {op} {old} answers legal =
    let more = with_more h t (does h old op answers.value).act in
    legal_front h more.0 globals (subst (λ (g : List Entry). Legal g globals) (answers.history ∙ more.1) legal)

module _ {R : Type 0} where
  -- a thread that has ended holds nothing
  pub dropped_values : (mode : Mode) (n : Mutator R) → IsEnded mode → (dropped_for mode n).values ≡ replicate 16 Nil
  dropped_values Running n over = absurd over
  dropped_values Due n over = absurd over
  dropped_values Silent n over = absurd over
  dropped_values Collecting n over = absurd over
  dropped_values Asked n over = absurd over
  dropped_values Lacking n over = absurd over
  dropped_values (Ended e) n over = refl

  -- one that has not holds what it held
  pub dropped_or_not : (mode : Mode) (n : Mutator R) → IsEnded mode ⊎ (n.values ≡ (dropped_for mode n).values)
  dropped_or_not Running n = inr refl
  dropped_or_not Due n = inr refl
  dropped_or_not Silent n = inr refl
  dropped_or_not Collecting n = inr refl
  dropped_or_not Asked n = inr refl
  dropped_or_not Lacking n = inr refl
  dropped_or_not (Ended e) n = inl tt

  -- nor does one that makes its call again
  dropped_again : (mode : Mode) (n : Mutator R) → CallsAgain mode → n.values ≡ (dropped_for mode n).values
  dropped_again Asked n again = refl
  dropped_again Lacking n again = refl
  dropped_again mode n again = absurd again

  pub dropped_view : (mode : Mode) (n : Mutator R) → view_of (dropped_for mode n) ≡ view_of n
  dropped_view Running n = refl
  dropped_view Due n = refl
  dropped_view Silent n = refl
  dropped_view Collecting n = refl
  dropped_view Asked n = refl
  dropped_view Lacking n = refl
  dropped_view (Ended e) n = refl

  pub dropped_thread : (mode : Mode) (n : Mutator R) → (dropped_for mode n).thread ≡ n.thread
  dropped_thread Running n = refl
  dropped_thread Due n = refl
  dropped_thread Silent n = refl
  dropped_thread Collecting n = refl
  dropped_thread Asked n = refl
  dropped_thread Lacking n = refl
  dropped_thread (Ended e) n = refl

  pub dropped_reader : (mode : Mode) (n : Mutator R) → (dropped_for mode n).reader ≡ n.reader
  dropped_reader Running n = refl
  dropped_reader Due n = refl
  dropped_reader Silent n = refl
  dropped_reader Collecting n = refl
  dropped_reader Asked n = refl
  dropped_reader Lacking n = refl
  dropped_reader (Ended e) n = refl

  -- a mutator that holds nothing keeps its seat
  none_seated : (words : EpochWords) (n : Mutator R) → IsSeated words n → IsSeated words (with_none n)
  none_seated words n is = record {
    seat = is.seat;
    there = is.there;
    idle = is.idle;
    thread = is.thread;
    one = is.one;
    alone = is.alone;
    size = refl;
    registers = none_held (knows_of is.seat).known (replicate 16 0) (replicate 16 Nil) refl refl;
  }

  pub dropped_seated : (words : EpochWords) (mode : Mode) (n : Mutator R) → IsSeated words n
      → IsSeated words (dropped_for mode n)
  dropped_seated words Running n is = is
  dropped_seated words Due n is = is
  dropped_seated words Silent n is = is
  dropped_seated words Collecting n is = is
  dropped_seated words Asked n is = is
  dropped_seated words Lacking n is = is
  dropped_seated words (Ended e) n is = none_seated words n is

  -- the view of a seated mutator is that of its seat, and of its thread
  pub seated_view : (words : EpochWords) (m : Mutator R) (is : IsSeated words m) → view_of m ≡ knows_of is.seat
  seated_view words m is = ap view_in is.there

  pub seated_thread : (words : EpochWords) (m : Mutator R) → IsSeated words m → (view_of m).thread ≡ m.thread
  seated_thread words m is = ap (λ (v : View). v.thread) (seated_view words m is) ∙ is.thread

  -- the seat of a thread that runs has no cause to stop
  pub runs_free : (script : Script) (words : EpochWords) (m : Mutator R) (s : ThreadState) → Works script words m s
      → s.mode ≡ Running → has_cause (view_of m) ≡ true → ⊥
  runs_free script words m s works runs cause = subst Waits runs (works.waits cause)

  -- the thread of a mutator is that of its view before and after
  pub thread_stays : (words : EpochWords) (m n : Mutator R) → IsSeated words m → IsSeated words n
      → (view_of n).thread ≡ (view_of m).thread → n.thread ≡ m.thread
  thread_stays words m n before after same =
      sym (seated_thread words n after) ∙ (same ∙ seated_thread words m before)

  module _ (script : Script) (words : EpochWords) (m n : Mutator R) (s : ThreadState) (works : Works script words m s)
      (seated : IsSeated words n) where
    -- what the seat has seen anew has no entry more of the thread
    pub seen_same : Sees (view_of m) (view_of n).seen → own (view_of n).seen m.thread ≡ own (view_of m).seen m.thread
    seen_same sees = subst (λ (t : ℕ). own (view_of n).seen t ≡ own (view_of m).seen t)
        (seated_thread words m works.seated) sees.own_same

    -- A thread goes on in another mode, without a reply.
    pub goes_on : (mode : Mode) → Sees (view_of m) (view_of n).seen → (view_of n).thread ≡ (view_of m).thread
        → n.values ≡ m.values → FitsMode mode s.op → (CallsAgain mode → IfSome s.op (LooksAtStop (value_in m.values)))
        → (IsEnded s.mode → ⊥)
        → (has_cause (view_of n) ≡ true → Waits mode) → (mode ≡ Asked → (view_of n).stopped ≡ true)
        → Works script words (dropped_for mode n) (record s { mode = mode })
    goes_on mode sees same values fits looks goes waits asked =
        let thread : (dropped_for mode n).thread ≡ m.thread =
        dropped_thread mode n ∙ thread_stays words m n works.seated seated same in
        let view_is : view_of (dropped_for mode n) ≡ view_of n = dropped_view mode n in
        record {
          seated = dropped_seated words mode n seated;
          program = subst (λ (t : ℕ). ProgramStands script t (record s { mode = mode })) (sym thread)
              (program_stays script m.thread s mode works.program fits);
          replies_stand = λ tells.
              let told : RepliesStandIn script (view_of n).seen m.thread (record s { mode = mode })
              (dropped_for mode n).values =
              told_stays mode (dropped_for mode n).values sees.begins (seen_same sees) goes (works.replies_stand tells)
              (elim (dropped_or_not mode n) [
                | inl over ↦ inl over
                | inr held ↦ inr (sym values ∙ held)
              ]) in
              subst
              (λ (t : ℕ). RepliesStandIn script (view_of (dropped_for mode n)).seen t (record s { mode = mode })
              (dropped_for mode n).values) (sym thread)
              (subst
              (λ (v : View). RepliesStandIn script v.seen m.thread (record s { mode = mode }) (dropped_for mode
              n).values)
              (sym view_is) told);
          dropped = dropped_values mode n;
          waits = λ cause. waits (sym (ap has_cause view_is) ∙ cause);
          asked = λ is. ap (λ (v : View). v.stopped) view_is ∙ asked is;
          looks = λ again. subst (λ (rs : List Value). IfSome s.op (LooksAtStop (value_in rs)))
              (sym values ∙ dropped_again mode n again) (looks again);
          globals = works.globals;
        }

    -- It goes on with a reply.
    pub replied : (after : ThreadState) (op : Op) (reply : Reply) → s.mode ≡ Running → s.op ≡ Some op
        → TakesReply s after reply → Replies (view_of m) (view_of n) m.values n.values op reply
        → SameCauses (view_of m) (view_of n) → Works script words (dropped_for after.mode n) after
    replied after op reply runs next takes replies causes =
        let mode : Mode = after.mode in
        let thread : (dropped_for mode n).thread ≡ m.thread =
        dropped_thread mode n ∙ thread_stays words m n works.seated seated causes.thread in
        let view_is : view_of (dropped_for mode n) ≡ view_of n = dropped_view mode n in
        let v : View = view_of m in
        let w : View = view_of n in
        let own_thread : v.thread ≡ m.thread = seated_thread words m works.seated in
        let goes : IsEnded s.mode → ⊥ = λ over. subst IsEnded runs over in
        let began : v.began.told ≡ words.start.began.told =
        ap (λ (b : Began). b.told)
        (ap (λ (x : View). x.began) (seated_view words m works.seated) ∙ works.seated.idle.is_seat.began) in
        record {
          seated = dropped_seated words mode n seated;
          program = subst (λ (t : ℕ). ProgramStands script t after) (sym thread)
              (program_takes script m.thread s after op reply works.program next takes);
          replies_stand = λ tells.
              let here : v.began.told ≡ true = began ∙ tells in
              let legal : Legal w.seen v.began.globals = replies.legal here in
              let answers : Answers m.thread (v.seen ++ replies.between) m.values op reply w.seen n.values =
              subst (λ (t : ℕ). Answers t (v.seen ++ replies.between) m.values op reply w.seen n.values) own_thread
              (replies.answers here) in
              let before : Legal (v.seen ++ replies.between) v.began.globals =
              legal_before v.began.globals answers legal in
              let was : RepliesStandIn script (v.seen ++ replies.between) m.thread s m.values =
              told_between script v.seen replies.between m.thread s m.values
              (subst (λ (t : ℕ). own (v.seen ++ replies.between) t ≡ own v.seen t) own_thread replies.own_same)
              (works.replies_stand tells) in
              let told : RepliesStandIn script w.seen m.thread after (dropped_for mode n).values =
              told_takes v.began.globals (dropped_for mode n).values works.program next goes takes before legal was
              answers (dropped_or_not mode n) in
              subst (λ (t : ℕ). RepliesStandIn script (view_of (dropped_for mode n)).seen t after (dropped_for mode
              n).values)
              (sym thread)
              (subst (λ (x : View). RepliesStandIn script x.seen m.thread after (dropped_for mode n).values) (sym
              view_is)
              told);
          dropped = dropped_values mode n;
          waits = λ cause.
              absurd (runs_free script words m s works runs
              (sym (same_cause v w causes) ∙ (sym (ap has_cause view_is) ∙ cause)));
          asked = λ is. absurd (elim takes.fits [
            | inl goes_on ↦ let no : Running ≡ Asked = sym goes_on.0 ∙ is in cc
            | inr over ↦ elim over [
              | inl due ↦ let no : Due ≡ Asked = sym due ∙ is in cc
              | inr ended ↦ let no : Ended end.Done ≡ Asked = sym ended.0 ∙ is in cc
            ]
          ]);
          looks = λ again. absurd (told_again takes again);
          globals = works.globals;
        }
