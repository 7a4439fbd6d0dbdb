-- Moments of a run stay moments of it while it goes on.
use Rattle.std.specs.Prelude.{if◌then◌else◌, Option, None, Some, slice_get}
use Rattle.std.proofs.Common.{◌≡◌, ℕ, ◌≤◌, zero, suc, true, false, List, [], ◌∷◌, ◌++◌, length, take, drop}
use Rattle.std.proofs.Common.{refl, sym, ◌∙◌, ap, subst, arith, length-append, ◌⊎◌, inl, inr}
use Rattle.std.proofs.lemmas.List.{take-append-le}
use Rattle.std.proofs.lemmas.Option.{slice_get_cases, same_Some}
use Rattle.melt_model.specs.Alive.{Alive, Held, words_of, CostsSum}
use Rattle.melt_model.specs.Thread.{registers_after, value_in, Transcript}
use Rattle.melt_model.specs.declared.config.Config.{Config}
use Rattle.melt_model.specs.declared.history.Entry.{Entry}
use Rattle.melt_model.specs.declared.history.Slot.{Slot}
use Rattle.melt_model.specs.declared.history.Slot.TheVariants.{Field, Global}
use Rattle.melt_model.specs.declared.history.Value.{Value}
use Rattle.melt_model.specs.declared.history.Value.TheVariants.{Nil}
use Rattle.melt_model.specs.declared.operations.Op.{Op}
use Rattle.melt_model.specs.declared.operations.Op.TheVariants as op
use Rattle.melt_model.specs.declared.operations.Reply.{Reply}
use Rattle.melt_model.specs.declared.reports.Journal.{Journal}
use Rattle.melt_model.proofs.Sums.{CostsSum-same}
use Rattle.melt_trace.specs.Script.{Script, operations}
use Rattle.melt_safepoint.specs.declared.thread.ThreadState.{ThreadState}
use Rattle.melt_safepoint.specs.declared.thread.Mode.{Mode}
use Rattle.melt_safepoint.specs.declared.thread.Mode.TheVariants.{Running, Due, Silent, Collecting, Asked, Lacking}
use Rattle.melt_safepoint.specs.declared.thread.Mode.TheVariants.{Ended}
use Rattle.melt_safepoint.specs.Needs.{NeedsObject, NeedsWords}
use Rattle.melt_safepoint.specs.Cuts.{Cut, IsCut, IsCollectedAt, LacksRoom}
use Rattle.melt_safepoint.specs.Threads.{with_first, replies_of, Later}
use Rattle.melt_safepoint.specs.Modes.{owes_silent, FitsMode, IsEnded}
use Rattle.melt_safepoint.specs.Endings.{GoneIn, gone_in, has_gone, now}

-- the replies of a thread of the run
pub replies_here : (states : List ThreadState) (u : ℕ) (s : ThreadState) → slice_get states u ≡ Some s
    → replies_of states u ≡ s.replies.items
replies_here [] u s at = absurd (cc)
replies_here (x ∷ states) zero s at =
    let same : x ≡ s = same_Some x s at in
    ap (λ (y : ThreadState). y.replies.items) same
replies_here (x ∷ states) (suc u) s at = replies_here states u s at

-- a thread that the run lacks has none
pub replies_past : (states : List ThreadState) (u : ℕ) → length states ≤ u → replies_of states u ≡ []
replies_past [] u past = refl
replies_past (x ∷ states) zero past = absurd (omega arith)
replies_past (x ∷ states) (suc u) past = replies_past states u (omega arith)

-- a thread that had ended at the moment gets no further reply
same_replies : (states after : List ThreadState) (cut : Cut) (u : ℕ) → Later states after → GoneIn states cut
    → cut.ended u ≡ true → replies_of after u ≡ replies_of states u
same_replies states after cut u later gone ended = elim (slice_get_cases states u).1 [
  | inl w ↦ replies_here after u w.0 (later.ended u w.0 w.2 (gone u w.0 w.2 ended))
      ∙ sym (replies_here states u w.0 w.2)
  | inr w ↦ replies_past after u (omega (arith, later.count, w.0)) ∙ sym (replies_past states u w.0)
]

-- a moment is one of the longer run
pub IsCut_later : {script : Script} {log : List Entry} (more : List Entry) {states after : List ThreadState}
    {config : Config} {cut : Cut} → Later states after → GoneIn states cut
    → IsCut script log (replies_of states) config cut → IsCut script (log ++ more) (replies_of after) config cut
IsCut_later {script} {log} more {states} {after} {cut} later gone is = record {
  within = omega (arith, is.within, length-append log more);
  few = λ u.
      let extra : (rs : List Reply) × (replies_of after u ≡ replies_of states u ++ rs) = later.replies u in
      omega (arith, is.few u, ap length extra.1, length-append (replies_of states u) extra.0);
  transcripts = λ u.
      let extra : (rs : List Reply) × (replies_of after u ≡ replies_of states u ++ rs) = later.replies u in
      let history : take cut.entries (log ++ more) ≡ take cut.entries log =
      take-append-le cut.entries log more is.within in
      let replies : take (cut.replies u) (replies_of after u) ≡ take (cut.replies u) (replies_of states u) =
      ap (take (cut.replies u)) extra.1 ∙ take-append-le (cut.replies u) (replies_of states u) extra.0 (is.few u) in
      subst (λ (h : List Entry). Transcript h u (operations script u) (take (cut.replies u) (replies_of after u)))
      (sym history)
      (subst (λ (rs : List Reply). Transcript (take cut.entries log) u (operations script u) rs) (sym replies)
      (is.transcripts u));
  last = λ u ended. is.last u ended ∙ ap length (sym (same_replies states after cut u later gone ended));
  over = is.over;
}

-- the registers at the moment, by the history at the moment
abbrev pub registers_by : Script → Cut → List Entry → ℕ → ℕ → Value
registers_by script cut h u r = if cut.ended u then Nil else value_in
    (registers_after h u (operations script u) (cut.replies u)) r

-- the words of the objects that registers hold at the moment, by the history at the moment
abbrev pub HoldsBy : Script → Cut → ℕ → List Entry → Type 0
HoldsBy script cut words h = CostsSum (words_of h) (Held (registers_by script cut h)) words

-- and of those that are reached
abbrev pub ReachesBy : Script → Cut → ℕ → List Entry → Type 0
ReachesBy script cut words h = CostsSum (words_of h) (Alive h (registers_by script cut h)) words

-- the words that an operation needs at the moment, by the history at the moment
abbrev pub NeedsBy : Script → Cut → ℕ → Op → ℕ → List Entry → Type 0
NeedsBy script cut t o need h = NeedsWords h (registers_by script cut h) t o need

-- the words of a collection stay what they were at its moment
pub IsCollectedAt_later : {script : Script} {log : List Entry} (more : List Entry) {entry : Journal} {cut : Cut}
    → cut.entries ≤ length log → IsCollectedAt script log entry cut → IsCollectedAt script (log ++ more) entry cut
IsCollectedAt_later {script} {log} more {entry} {cut} within at =
    let history : take cut.entries (log ++ more) ≡ take cut.entries log = take-append-le cut.entries log more within in
    record {
      holds = subst (HoldsBy script cut entry.held) (sym history) at.holds;
      alive = at.alive;
      reach = subst (ReachesBy script cut at.alive) (sym history) at.reach;
      fits = at.fits;
    }

-- a thread that lacks room, and gets no further reply
pub LacksRoom_later : {script : Script} {log : List Entry} (more : List Entry) {states after : List ThreadState}
    {config : Config} {cut : Cut} {t held_words need : ℕ} → Later states after → GoneIn states cut
    → replies_of after t ≡ replies_of states t → LacksRoom script log (replies_of states) config cut t held_words need
    → LacksRoom script (log ++ more) (replies_of after) config cut t held_words need
LacksRoom_later {script} {log} more {states} {after} {config} {cut} {t} {held_words} {need} later gone same x =
    let history : take cut.entries (log ++ more) ≡ take cut.entries log =
    take-append-le cut.entries log more x.is_cut.is.within in
    record {
      is_cut = record {
        is = IsCut_later more later gone x.is_cut.is;
        count = x.is_cut.count ∙ ap length (sym same);
        alive = x.is_cut.alive;
      };
      over = x.over;
      op = x.op;
      next = ap (λ (rs : List Reply). slice_get (operations script t) (length rs)) same ∙ x.next;
      needed = subst (NeedsBy script cut t x.op need) (sym history) x.needed;
      holds = subst (HoldsBy script cut held_words) (sym history) x.holds;
      above = x.above;
    }

-- a thread has ended or has not
pub gone_cases : (mode : Mode)
    → (IsEnded mode × (has_gone mode ≡ true)) ⊎ ((IsEnded mode → ⊥) × (has_gone mode ≡ false))
gone_cases Running = inr (λ is. is, refl)
gone_cases Due = inr (λ is. is, refl)
gone_cases Silent = inr (λ is. is, refl)
gone_cases Collecting = inr (λ is. is, refl)
gone_cases Asked = inr (λ is. is, refl)
gone_cases Lacking = inr (λ is. is, refl)
gone_cases (Ended e) = inl (tt, refl)

-- of a thread of the run
pub gone_here : (states : List ThreadState) (u : ℕ) (s : ThreadState) → slice_get states u ≡ Some s
    → gone_in states u ≡ has_gone s.mode
gone_here [] u s at = absurd (cc)
gone_here (x ∷ states) zero s at = let same : x ≡ s = same_Some x s at in ap (λ (y : ThreadState). has_gone y.mode) same
gone_here (x ∷ states) (suc u) s at = gone_here states u s at

-- a thread that the run lacks counts as one of them
pub gone_past : (states : List ThreadState) (u : ℕ) → length states ≤ u → gone_in states u ≡ true
gone_past [] u past = refl
gone_past (x ∷ states) zero past = absurd (omega arith)
gone_past (x ∷ states) (suc u) past = gone_past states u (omega arith)

-- a thread that has ended now has ended
pub gone_now : (log : List Entry) (states : List ThreadState) → GoneIn states (now log states)
gone_now log states = λ u s at is.
    elim (gone_cases s.mode) [
      | inl gone ↦ gone.0
      | inr goes ↦ absurd (let wrong : true ≡ false = sym is ∙ (gone_here states u s at ∙ goes.1) in cc)
    ]

-- a thread without operations that has not ended has a silent collection still to come
pub owes_last : (mode : Mode) → FitsMode mode None → (IsEnded mode → ⊥) → owes_silent mode ≡ true
owes_last Running fits open_ = absurd (cc)
owes_last Due fits open_ = refl
owes_last Silent fits open_ = refl
owes_last Collecting fits open_ = absurd (cc)
owes_last Asked fits open_ = absurd (let none = fits.0 in cc)
owes_last Lacking fits open_ = absurd (let none = fits.0 in cc)
owes_last (Ended e) fits open_ = absurd (open_ tt)

-- a thread with all its replies has no next operation
pub none_next : (op : Option Op) (ops : List Op) → length (with_first op ops) ≡ 0 → op ≡ None
none_next None ops none = refl
none_next (Some o) ops none = absurd (omega (arith, none))

-- objects that are alive, where registers hold the same
pub alive_same : (h : List Entry) (a b : ℕ → ℕ → Value) (n : ℕ) → ((t r : ℕ) → a t r ≡ b t r) → Alive h a n
    → Alive h b n
alive_same h a b n same (Alive.in_register m held) =
    Alive.in_register m (record {
      thread = held.thread;
      register = held.register;
      holds = sym (same held.thread held.register) ∙ held.holds;
    })
alive_same h a b n same (Alive.in_global g m at) = Alive.in_global g m at
alive_same h a b n same (Alive.in_slot from i m found at) = Alive.in_slot from i m (alive_same h a b from same found) at

-- their words, where registers hold the same
pub words_same : (h : List Entry) (a b : ℕ → ℕ → Value) (held_words : ℕ) → ((t r : ℕ) → a t r ≡ b t r)
    → CostsSum (words_of h) (Alive h a) held_words → CostsSum (words_of h) (Alive h b) held_words
words_same h a b held_words same reach =
    CostsSum-same (words_of h) (Alive h a) (Alive h b) held_words
    (λ n. (alive_same h a b n same, alive_same h b a n (λ t r. sym (same t r)))) reach

-- an object that is held, where registers hold the same
pub held_same : (a b : ℕ → ℕ → Value) (n : ℕ) → ((t r : ℕ) → a t r ≡ b t r) → Held a n → Held b n
held_same a b n same held = record {
  thread = held.thread;
  register = held.register;
  holds = sym (same held.thread held.register) ∙ held.holds;
}

-- the words of all that is held, where registers hold the same
pub held_words_same : (h : List Entry) (a b : ℕ → ℕ → Value) (words : ℕ) → ((t r : ℕ) → a t r ≡ b t r)
    → CostsSum (words_of h) (Held a) words → CostsSum (words_of h) (Held b) words
held_words_same h a b words same holds =
    CostsSum-same (words_of h) (Held a) (Held b) words
    (λ n. (held_same a b n same, held_same b a n (λ t r. sym (same t r)))) holds

-- what a slot needs, where registers hold the same
object_same : (h : List Entry) (a b : ℕ → ℕ → Value) (slot : Slot) (need : ℕ) → ((t r : ℕ) → a t r ≡ b t r)
    → NeedsObject h a slot need → NeedsObject h b slot need
object_same h a b slot need same needs = record {
  number = needs.number;
  refers = needs.refers;
  not_held = λ held. needs.not_held (held_same b a needs.number (λ t r. sym (same t r)) held);
  words = needs.words;
}

-- what an operation needs, where registers hold the same
pub needs_same : (h : List Entry) (a b : ℕ → ℕ → Value) (t : ℕ) (o : Op) (need : ℕ) → ((u r : ℕ) → a u r ≡ b u r)
    → NeedsWords h a t o need → NeedsWords h b t o need
needs_same h a b t (op.New dst refs nums) need same needs = needs
needs_same h a b t (op.Load dst src i) need same needs =
    (needs.0, sym (same t src) ∙ needs.1, object_same h a b (Field needs.0 i) need same needs.2)
needs_same h a b t (op.Store obj i src) need same needs = needs
needs_same h a b t (op.Get src j) need same needs = needs
needs_same h a b t (op.Put obj j v) need same needs = needs
needs_same h a b t (op.GLoad dst g) need same needs = object_same h a b (Global g) need same needs
needs_same h a b t (op.GStore g src) need same needs = needs
needs_same h a b t (op.Same c d) need same needs = needs
needs_same h a b t (op.Copy dst src) need same needs = needs
needs_same h a b t (op.Drop r) need same needs = needs
needs_same h a b t op.Collect need same needs = needs

-- the first of the operations that are left
pub first_left : (ops : List Op) (k : ℕ) (o : Op) (rest : List Op) → o ∷ rest ≡ drop k ops → slice_get ops k ≡ Some o
first_left [] zero o rest is = absurd (cc)
first_left [] (suc k) o rest is = absurd (cc)
first_left (x ∷ ops) zero o rest is = let same : o ≡ x = cc in ap Some (sym same)
first_left (x ∷ ops) (suc k) o rest is = first_left ops k o rest is
