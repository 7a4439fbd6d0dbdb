-- Each event of a core keeps the stale bit tied to the history, where the disk tells its words.
use Rattle.std.proofs.Common.{◌≡◌, ◌≢◌, ◌⊎◌, ℕ, ◌+◌, ◌<◌, ◌≤◌, inl, inr, List, [], ◌∷◌, ◌++◌}
use Rattle.std.proofs.Common.{length, refl, sym, ◌∙◌, ap, subst, arith}
use Rattle.std.proofs.lemmas.Option.{same_Some}
use Rattle.std.specs.Prelude.{true, Option, None, Some, IfSome}
use Rattle.melt_model.specs.History.{given, made}
use Rattle.melt_model.specs.Thread.{does}
use Rattle.melt_model.specs.declared.history.Value.TheVariants as value
use Rattle.melt_model.specs.declared.history.Act.{Act}
use Rattle.melt_model.specs.declared.history.Act.TheVariants.{Make}
use Rattle.melt_model.specs.declared.history.Entry.{Entry}
use Rattle.melt_model.specs.declared.operations.Op.{Op}
use Rattle.melt_model.specs.declared.operations.Op.TheVariants as op
use Rattle.melt_model.specs.declared.operations.Reply.{Reply}
use Rattle.melt_word.specs.Words.{ref_word}
use Rattle.melt_word.specs.declared.header.Shape.{Shape}
use Rattle.melt_scion.specs.Changes.{SameWords}
use Rattle.melt_scion.specs.Heaps.{OnDisk, register_in}
use Rattle.melt_core.specs.declared.answer.Pause.TheVariants.{Asked, Space, Forward}
use Rattle.melt_core.specs.declared.answer.Refusal.{Refusal}
use Rattle.melt_core.specs.declared.answer.Refusal.TheVariants as refusal
use Rattle.melt_core.specs.declared.answer.StepResult.{StepResult}
use Rattle.melt_core.specs.declared.answer.StepResult.TheVariants.{Going, Answered, Refused}
use Rattle.melt_core.specs.declared.call.Activation.{Activation}
use Rattle.melt_core.specs.declared.call.Place.{Place}
use Rattle.melt_core.specs.declared.call.Place.TheVariants.{Field, Global}
use Rattle.melt_core.specs.declared.call.Stage.{Stage}
use Rattle.melt_core.specs.declared.call.Stage.TheVariants.{Looked, Cleared, Claimed, Copied}
use Rattle.melt_core.specs.Answering.{Answers, entry, with_entry}
use Rattle.melt_core.specs.Known.{Known, word_in}
use Rattle.melt_core.specs.Stages.{Applies, Next, Nothing, change_of, cleared_by, next_forward, reached}
use Rattle.melt_core.specs.Advances.{Asks, AdvancesOver, CallGoesOn, IsAnswered, Refuses}
use Rattle.melt_core.specs.Views.{View, Standing, maps, state, stage_of, stage_in, rest_of}
use Rattle.melt_core.specs.Views.{values_of}
use Rattle.melt_core.specs.StaleBits.{Passed, HasNoBit, HasRegisters, Look, look_of, pending, Pending, sight}
use Rattle.melt_core.specs.StaleBits.{TiedTo, Watched}
use Rattle.melt_core.proofs.Asked.{fits_at, known_so}
use Rattle.melt_core.proofs.Tasks.{new_is}
use Rattle.melt_core.proofs.Values.{named_made}
use Rattle.melt_core.proofs.StaleBitsPassing.{used_push}
use Rattle.melt_core.proofs.StaleBitsTying.{look_stays, tied_later}
use Rattle.melt_core.proofs.StaleBitsLooks.{LookGoes, none, same, looks, next_look}
use Rattle.melt_core.proofs.StaleBitsHeaders.{Owes, no_bit_at, touched}
use Rattle.melt_core.proofs.StaleBitsStages.{AppearsAt, named_before, goes_appears, goes_clears, goes_not_pending}
use Rattle.melt_core.proofs.StaleBitsStages.{pending_is, MayBeRefused, lacks_refused, searches_refused, reads_refused}
use Rattle.melt_core.proofs.StaleBitsStages.{refused_appears, refused_clears, refused_not_pending, known_look}
use Rattle.melt_core.proofs.StaleBitsWatching.{watch_begins}
use Rattle.melt_core.proofs.StaleBitsAnswers.{Holding, given_held, load_passes}

-- What is left to say of an event, by its outcome: its entry, and what becomes of the look of its call, of an object
-- that it brings into use or whose bit it clears, of one whose slot it was about to
-- read, and of one that its entry gives.
record Outcomes (disk : OnDisk) (q t : ℕ) (act : Option Act) (v w : View) : Type 0 where
  log : w.log ≡ with_entry t v.log act
  watched : IfSome (look_of (stage_of w t)) (Watched q (sight w) t)
  appears : (a n : ℕ) → AppearsAt (state disk v) (stage_of v t) a → (maps w).address a ≡ Some n
      → HasNoBit (sight w) n × (Passed w.log q n ⊎ Pending (sight w) n)
  clears : (a : ℕ) → a ≢ 0 → cleared_by (stage_of v t) ≡ a → pending (stage_of w t) ≡ Some a
  exchanges : (a n : ℕ) → pending (stage_of v t) ≡ Some a → (maps v).address a ≡ Some n → Passed w.log q n
  gives : (n : ℕ) (x : Act) → act ≡ Some x → given v.log x ≡ Some (value.Ref n) → HasNoBit (sight w) n

module _ (disk : OnDisk) (u v w : View) (t : ℕ) (o : Op) (result : StepResult)
    (s : Standing true disk v)
    (is : AdvancesOver disk v w t o result) where
  later : Standing true disk w
  later = is.keeps true (λ told. tt) s

  before : (a n : ℕ) → (maps w).address a ≡ Some n
      → ((maps v).address a ≡ Some n) ⊎ AppearsAt (state disk v) (stage_of v t) a
  before a n named = named_before (state disk v) (register_in v.held t) (rest_of v t) (maps v) (maps w) (state disk w)
      (stage_of v t) a n is.changes named

  -- the outcome says the rest of what an event owes
  owed : (act : Option Act) → Outcomes disk (length u.log) t act v w
      → Owes v.log w.log (maps v) (maps w) (state disk v) (state disk w) (stage_of v) (stage_of w)
      (cleared_by (stage_of v t)) s.holds.formed is.evolves (length u.log) t act
  owed act out = record {
    log = out.log;
    others = λ x other. ap stage_in (is.others.calls x other);
    one_address = (later.holds.tells refl).one_address;
    watched = out.watched;
    appears = λ a n named. elim (before a n named) [ inl old ↦ inl old | inr at ↦ inr (out.appears a n at named) ];
    clears = λ some. out.clears (cleared_by (stage_of v t)) some refl;
    exchanges = out.exchanges;
    gives = out.gives;
  }

  tied_by : (act : Option Act) → TiedTo u v → Outcomes disk (length u.log) t act v w → TiedTo u w
  tied_by act tied out =
      tied_later t act (sight u) (sight v) (sight w)
      (touched v.log w.log (maps v) (maps w) (state disk v) (state disk w) (stage_of v) (stage_of w)
      (cleared_by (stage_of v t)) s.holds.formed is.evolves (length u.log) t act (owed act out))
      tied

  -- A call that goes on:
  same_word : (place : Place) → SameWords (state disk v) (state disk w)
      → word_in (state disk w) place ≡ word_in (state disk v) place
  same_word (Field object i) kept = kept.word (object + 2 + i)
  same_word (Global g) kept = kept.global g

  module _ (tied : TiedTo u v) (goes : CallGoesOn disk v w t o) where
    at_next : stage_of w t ≡ Some goes.stage
    at_next = ap stage_in goes.call

    known_next : Known true (maps w) (state disk w) (rest_of w t) goes.stage
    known_next = later.known t (record { op = o; stage = goes.stage }) goes.call

    log_stays : length u.log ≤ length w.log
    log_stays = let since : length u.log ≤ length v.log = tied.since in omega (arith, since, ap length goes.own.history)

    look_begins : (look : Look) → look_of (Some goes.stage) ≡ Some look
        → word_in (state disk v) look.place ≡ ref_word look.found
        → ((rest : List ℕ) → change_of (state disk v) (register_in v.held t) rest (stage_of v t) ≡ Nothing)
        → Watched (length u.log) (sight w) t look
    look_begins look at word still =
        let kept : Applies (maps v) (maps w) (state disk v) (state disk w) Nothing =
        subst (Applies (maps v) (maps w) (state disk v) (state disk w)) (still (rest_of v t)) is.changes in
        watch_begins (stage_of w) (length u.log) t look (later.holds.tells refl)
        (known_look true (maps w) (state disk w) (rest_of w t) goes.stage look at known_next)
        (same_word look.place kept.1 ∙ word) log_stays

    look_later : LookGoes (state disk v) (register_in v.held t) (stage_of v t) goes.stage
        → IfSome (look_of (Some goes.stage)) (Watched (length u.log) (sight w) t)
    look_later (none nothing) =
        subst (λ (g : Option Look). IfSome g (Watched (length u.log) (sight w) t)) (sym nothing) tt
    look_later (same kept) =
        subst (λ (g : Option Look). IfSome g (Watched (length u.log) (sight w) t)) (sym kept)
        (look_stays (length u.log) t t (sight v) (sight w) (look_of (stage_of v t)) goes.own.history is.evolves.names
        is.evolves.homes (inr refl) (tied.watched t))
    look_later (looks look at word still) =
        subst (λ (g : Option Look). IfSome g (Watched (length u.log) (sight w) t)) (sym at)
        (look_begins look at word still)

    goes_fresh : (a n : ℕ) → pending (Some goes.stage) ≡ Some a → (maps w).address a ≡ Some n → HasNoBit (sight w) n
    goes_fresh a n waits named =
        let at = pending_is (Some goes.stage) a waits in
        let known : Known true (maps w) (state disk w) (rest_of w t) (Cleared at.0 at.1 a at.2) =
        subst (Known true (maps w) (state disk w) (rest_of w t))
        (same_Some goes.stage (Cleared at.0 at.1 a at.2) at.3) known_next in
        no_bit_at w.log (maps w) (state disk w) (stage_of w) a n later.holds.formed named known.2

    goes_on : Outcomes disk (length u.log) t None v w
    goes_on = record {
      log = goes.own.history;
      watched = subst (λ (g : Option Stage). IfSome (look_of g) (Watched (length u.log) (sight w) t)) (sym at_next)
          (look_later (next_look (state disk v) (register_in v.held t) (maps v) v.stop o (stage_of v t) goes.stage
          goes.next));
      appears = λ a n at named.
          let waits : pending (Some goes.stage) ≡ Some a =
          goes_appears disk v t o (stage_of v t) goes.stage goes.next
          at in (
            goes_fresh a n waits named,
            inr (record {
              thread = t;
              address = a;
              is = ap pending at_next ∙ waits;
              named = named;
            }),
          );
      clears = λ a some clears. ap pending at_next
          ∙ goes_clears disk v t o (stage_of v t) goes.stage goes.next some
          clears;
      exchanges = λ a n waits named. absurd (goes_not_pending disk v t o
          (stage_of v t) goes.stage goes.next waits);
      gives = λ n x has gives. absurd (cc);
    }

  over : stage_of w t ≡ None → IfSome (look_of (stage_of w t)) (Watched (length u.log) (sight w) t)
  over nothing = subst (λ (g : Option Stage). IfSome (look_of g) (Watched (length u.log) (sight w) t)) (sym nothing) tt

  -- A call that is refused:
  refused : MayBeRefused (stage_of v t) → w.log ≡ v.log → stage_of w t ≡ None
      → Outcomes disk (length u.log) t None v w
  refused may log nothing = record {
    log = log;
    watched = over nothing;
    appears = λ a n at named. absurd (refused_appears (state disk v) (stage_of v t) a may at);
    clears = λ a some clears. absurd (refused_clears (stage_of v t) a may some clears);
    exchanges = λ a n waits named. absurd (refused_not_pending (stage_of v t) a may waits);
    gives = λ n x has gives. absurd (cc);
  }

  refuses : (r : Refusal) → Refuses (Unit {0}) disk v w t o r → Outcomes disk (length u.log) t None v w
  refuses (refusal.Pause Asked) out =
      let first : stage_of v t ≡ None = ap stage_in out.first in
      refused (subst MayBeRefused (sym first) tt) (ap (λ (x : View). x.log) out.same)
      (ap (λ (x : View). stage_of x t) out.same ∙ first)
  refuses (refusal.Pause (Space need)) out =
      refused (lacks_refused (stage_of v t) need out.lacks) out.own.history (ap stage_in out.call)
  refuses (refusal.Pause Forward) out =
      refused (searches_refused (stage_of v t) out.search out.searches) out.own.history (ap stage_in out.call)
  refuses refusal.DiskFault out =
      refused (reads_refused (stage_of v t) out.0 out.1.reads) out.1.own.history (ap stage_in out.1.call)
  refuses (refusal.Damaged damaged) out =
      refused (reads_refused (stage_of v t) damaged.home out.lost.reads) out.lost.own.history
      (ap stage_in out.lost.call)

  -- A call that is answered:
  module _ (reply : Reply) (asks : Asks disk v t o) (sixteen : HasRegisters v t) (tied : TiedTo u v)
      (out : IsAnswered disk v w t o reply) where
    answers : Answers t v.log (values_of v t) o reply w.log (values_of w t)
    answers = out.answers s

    holds : (n : ℕ) (x : Act) → (does v.log (values_of v t) o answers.value).act ≡ Some x
        → given v.log x ≡ Some (value.Ref n) → Holding w n
    holds n x has gives = given_held v (length v.globals) later asks.bounds sixteen answers has gives

    -- the object that was published is the one that the entry made
    publishes : (address stored dst a n : ℕ) (shape : Shape)
        → stage_of v t ≡ Some (Claimed address shape stored dst) → a ≡ address → (maps w).address a ≡ Some n
        → HasNoBit (sight w) n × (Passed w.log (length u.log) n ⊎ Pending (sight w) n)
    publishes address stored dst a n shape at here named =
        let is_new : o ≡ op.New dst shape.refs shape.nums =
        new_is o dst shape (fits_at disk v t o (Claimed address shape stored dst) asks at) in
        let makes : (does v.log (values_of v t) o answers.value).act ≡ Some (Make shape.refs shape.nums) =
        ap (λ (p : Op). (does v.log (values_of v t) p answers.value).act) is_new in
        let held : Holding w (made v.log) = holds (made v.log) (Make shape.refs shape.nums) makes refl in
        let number : made v.log ≡ n = made_number address stored dst a n shape at here named held in
        let log : w.log ≡ v.log ++ entry t (Make shape.refs shape.nums) ∷ [] =
        answers.history ∙ ap (with_entry t v.log) makes in
        let used : Passed w.log (length u.log) (made v.log) =
        subst (λ (h : List Entry). Passed h (length u.log) (made v.log)) (sym log)
        (inl (used_push v.log (entry t (Make shape.refs shape.nums)) (length u.log) (made v.log) tied.since refl)) in (
          subst (HasNoBit (sight w)) number held.fresh,
          inl (subst (Passed w.log (length u.log)) number used),
        )
      where
        made_number : (address stored dst a n : ℕ) (shape : Shape)
            → stage_of v t ≡ Some (Claimed address shape stored dst) → a ≡ address → (maps w).address a ≡ Some n
            → Holding w (made v.log) → made v.log ≡ n
        made_number address stored dst a n shape at here named held =
            elim (before held.address (made v.log) held.named) [
              | inl old ↦ absurd (
                  let below : made v.log < made v.log =
                  named_made v.log (maps v) (state disk v) held.address (made v.log) s.holds.formed (s.holds.tells refl)
                  old in
                  omega arith)
              | inr appeared ↦
                  let there : AppearsAt (state disk v) (Some (Claimed address shape stored dst)) held.address =
                  subst (λ (g : Option Stage). AppearsAt (state disk v) g held.address) at appeared in
                  same_Some (made v.log) n
                  (sym held.named ∙ (ap (maps w).address (there.1 ∙ sym here) ∙ named))
            ]

    -- a commit that won goes on
    not_committed : (x : Activation) → stage_of v t ≡ Some (Copied x) → next_forward (state disk v) x.search ≡ 0 → ⊥
    not_committed x at empty =
        let known = known_so true disk v t o (Copied x) asks at s in
        out.last (reached x.search x.address)
        (subst (λ (g : Option Stage). Next (maps v) (state disk v) (register_in v.held t) v.stop o g
        (reached x.search x.address)) (sym at) (known.1, inr (inl (empty, refl))))

    appears : (stage : Option Stage) (a n : ℕ) → stage_of v t ≡ stage → AppearsAt (state disk v) stage a
        → (maps w).address a ≡ Some n
        → HasNoBit (sight w) n × (Passed w.log (length u.log) n ⊎ Pending (sight w) n)
    appears (Some (Claimed address shape stored dst)) a n at there named =
        publishes address stored dst a n shape at there.1 named
    appears (Some (Copied x)) a n at there named = absurd (not_committed x at there.0)
    appears stage a n at there named = absurd there

    -- and so does a call that clears a bit
    not_cleared : (stage : Option Stage) (a : ℕ) → stage_of v t ≡ stage → a ≢ 0 → cleared_by stage ≡ a → ⊥
    not_cleared (Some (Looked place found target dst)) a at some clears =
        out.last (Cleared place found target dst)
        (subst (λ (g : Option Stage). Next (maps v) (state disk v) (register_in v.held t) v.stop o g
        (Cleared place found target dst)) (sym at) refl)
    not_cleared stage a at some clears = some (sym clears)

    exchanges : (a n : ℕ) → pending (stage_of v t) ≡ Some a → (maps v).address a ≡ Some n
        → Passed w.log (length u.log) n
    exchanges a n waits named =
        let at = pending_is (stage_of v t) a waits in
        let stage : Stage = Cleared at.0 at.1 a at.2 in
        let known : Known true (maps v) (state disk v) (rest_of v t) (Cleared at.0 at.1 a at.2) =
        known_so true disk v t o stage asks at.3 s in
        let watched : Watched (length u.log) (sight v) t (record { place = at.0; found = at.1 }) =
        subst (λ (g : Option Stage). IfSome (look_of g) (Watched (length u.log) (sight v) t)) at.3 (tied.watched t) in
        load_passes w at.2 s known.0 known.1 (fits_at disk v t o stage asks at.3) answers watched named

    is_answered : Outcomes disk (length u.log) t (does v.log (values_of v t) o answers.value).act v w
    is_answered = record {
      log = answers.history;
      watched = over (ap stage_in out.call);
      appears = λ a n at named. appears (stage_of v t) a n refl at named;
      clears = λ a some clears. absurd (not_cleared (stage_of v t) a refl some clears);
      exchanges = exchanges;
      gives = λ n x has gives. (holds n x has gives).fresh;
    }

    answered : TiedTo u w
    answered = tied_by (does v.log (values_of v t) o answers.value).act tied is_answered

-- by its outcome
pub event_tied : {disk : OnDisk} (u : View) {v w : View} {t : ℕ} {o : Op} (result : StepResult) → Standing true disk v
    → Asks disk v t o → HasRegisters v t → AdvancesOver disk v w t o result → TiedTo u v → TiedTo u w
event_tied {disk} u {v} {w} {t} {o} Going s asks sixteen is tied =
    tied_by disk u v w t o Going s is None tied (goes_on disk u v w t o Going s is tied is.outcome)
event_tied {disk} u {v} {w} {t} {o} (Answered reply) s asks sixteen is tied =
    answered disk u v w t o (Answered reply) s is reply asks sixteen tied is.outcome
event_tied {disk} u {v} {w} {t} {o} (Refused r) s asks sixteen is tied =
    tied_by disk u v w t o (Refused r) s is None tied (refuses disk u v w t o (Refused r) s is r is.outcome)
