-- What the call of each operation comes to, as what a call of any comes to.
use Rattle.std.proofs.Common.{◌≡◌, ℕ, ◌+◌, ◌≤◌, List, arith, refl, sym, ◌∙◌, ap, subst, inl, inr, [], true}
use Rattle.std.proofs.lemmas.List.{append-nil}
use Rattle.std.specs.Prelude.{Bool, Option, Some, Result, Ok, Err}
use Rattle.atomic_table.specs.declared.shared.Seat.{Seat}
use Rattle.melt_model.specs.Thread.{own, value_in}
use Rattle.melt_model.specs.declared.history.Entry.{Entry}
use Rattle.melt_model.specs.declared.history.Slot.{Slot}
use Rattle.melt_model.specs.declared.history.Value.TheVariants.{Nil, Ref}
use Rattle.melt_model.specs.declared.operations.Op.{Op}
use Rattle.melt_model.specs.declared.operations.Op.TheVariants.{New, Load, GLoad}
use Rattle.melt_model.specs.declared.operations.Reply.{Reply}
use Rattle.melt_word.specs.Words.{IsShape, cost_of}
use Rattle.melt_word.specs.declared.header.Shape.{Shape}
use Rattle.melt_scion.specs.Scions.{Scions}
use Rattle.melt_core.specs.Answering.{Answers}
use Rattle.melt_core.specs.Stages.{LooksAtStop}
use Rattle.melt_core.specs.declared.answer.Pause.TheVariants.{Asked, Space, Forward}
use Rattle.melt_core.specs.declared.answer.Refusal.{Refusal}
use Rattle.melt_core.specs.declared.answer.Refusal.TheVariants as refusal
use Rattle.melt_core.specs.declared.answer.Refusal.TheVariants.{Pause}
use Rattle.melt_rule.specs.Seats.{EpochWords, knows_of}
use Rattle.melt_rule.specs.Tells.{Sees}
use Rattle.melt_rule.specs.declared.began.Began.{Began}
use Rattle.melt_rule.specs.declared.view.View.{View}
use Rattle.melt_epoch.specs.Calls.{Counts, HoldsOnly, IsMade, IsPlain, Lacked, Replies}
use Rattle.melt_epoch.specs.Loading.{IsGlobalLoaded, IsSlotLoaded, LoadAsked, LoadRefused}
use Rattle.melt_epoch.specs.Mutators.{IsSeated}
use Rattle.melt_epoch.specs.declared.mutator.Mutator.{Mutator}
use Rattle.melt_safepoint.specs.Needs.{IsLoad}
use Rattle.melt_pool.specs.Calling.{IsCalled, NeedsAt, NeedsIn, RefusedFor, RefusedKeeps, SameCauses, WasSpaced}

-- what a call leaves that counts so
same_by : (v w : View) (words wins most : ℕ) → Counts v w words wins most → SameCauses v w
same_by v w words wins most c = record {
  thread = c.thread;
  began = c.began;
  asked = c.asked;
  spaced = c.spaced;
  forwarded = c.forwarded;
}

-- no object takes more words
few_words : (z : Shape) → IsShape z → cost_of z ≤ 126
few_words z small = omega (arith, small.refs, small.nums)

-- a call that lacked words has the cause space
spaced_by : (v w : View) (need most : ℕ) → need ≤ 126 → Lacked v w need most → WasSpaced v w need
spaced_by v w need most few l = record {
  thread = l.thread;
  began = l.began;
  spaced = l.spaced;
  claimed = l.claimed;
  won = l.won;
  small = few;
}

-- two seats of one mutator are one
same_seat : {R : Type 0} (m : Mutator R) (s t : Seat ℕ View) → m.seat ≡ Some s → m.seat ≡ Some t → s ≡ t
same_seat m s t a b = cc

module _ {R : Type 0} (image : R → Option (List ℕ)) (faults : R → ℕ) (told : Bool) (scions : Scions) (end : ℕ)
    (m n : Mutator R) where
  -- a call that claims no words
  pub plain_called : (o : Op) (steps : ℕ) (result : Result Reply Refusal) → IsPlain m n o steps result
      → IsCalled image faults told scions end m n o result
  plain_called o steps (Ok reply) is s t p q ms nt mp nq =
      let plain = is.1 s t ms nt in (plain.comes, same_by (knows_of s) (knows_of t) 0 0 steps plain.counts)
  plain_called o steps (Err refused) is s t p q ms nt mp nq =
      let plain = is.1 s t ms nt in
      let why : RefusedFor told (image p) scions end (faults p) (faults q) (knows_of s) (knows_of t) m.values o
      (Pause Asked) = (
        same_by (knows_of s) (knows_of t) 0 0 steps plain.counts,
        ap (λ (x : View). x.stopped) plain.refused.1.1,
        plain.looks,
      ) in (
        plain.comes.0,
        plain.comes.1,
        subst (RefusedFor told (image p) scions end (faults p) (faults q) (knows_of s) (knows_of t) m.values o)
            (sym plain.refused.0) why,
      )

  -- one that makes an object
  pub made_called : (dst : ℕ) (z : Shape) (result : Result Reply Refusal) → IsShape z
      → IsMade m n (New dst z.refs z.nums) z result
      → IsCalled image faults told scions end m n (New dst z.refs z.nums) result
  made_called dst z (Ok reply) small is s t p q ms nt mp nq =
      let made = is.2 s t ms nt in
      (made.0, same_by (knows_of s) (knows_of t) (cost_of z) 0 (cost_of z + 2) made.1)
  made_called dst z (Err refused) small is s t p q ms nt mp nq =
      let v : View = knows_of s in
      let w : View = knows_of t in
      let made = is.2 s t ms nt in
      let Why : Refusal → Type 0 =
      RefusedFor told (image p) scions end (faults p) (faults q) v w m.values (New dst z.refs z.nums) in
      elim made.1 [
        | inl asks ↦
            let why : Why (Pause Asked) =
            (same_by v w 0 0 1 asks.counts, ap (λ (x : View). x.stopped) asks.was.1.1, tt) in
            (asks.sees, made.0, subst Why (sym asks.was.0) why)
        | inr lacks ↦
            let why : Why (Pause (Space (cost_of z))) =
            (spaced_by v w (cost_of z) 3 (few_words z small) lacks.lacked, refl) in
            (lacks.sees, made.0, subst Why (sym lacks.is) why)
      ]

  -- why a load was refused, by what its slot is
  load_refused : (o : Op) {slot : Slot} {most : ℕ} (why : Refusal) (s t : Seat ℕ View) (p q : R) → IsLoad o
      → LooksAtStop (value_in m.values) o
      → ((need : ℕ) → NeedsAt (knows_of s) (knows_of t) slot need → NeedsIn (knows_of s) (knows_of t) m.values o need)
      → LoadRefused told (image p) scions end (faults p) (faults q) (knows_of s) (knows_of t) slot most why
      → Sees (knows_of s) (knows_of t).seen
      × RefusedFor told (image p) scions end (faults p) (faults q) (knows_of s) (knows_of t) m.values o why
  load_refused o {most} why s t p q loads looks needs (inl full) =
      let Why : Refusal → Type 0 =
      RefusedFor told (image p) scions end (faults p) (faults q) (knows_of s) (knows_of t) m.values o in
      let filled = full.full.filled in
      let forwarded : Why (Pause Forward) = (
        record { thread = filled.thread; began = filled.began; forwarded = filled.forwarded; won = filled.won },
        loads,
        looks,
      ) in
      (full.full.sees, subst Why (sym full.full.is) forwarded)
  load_refused o {most} why s t p q loads looks needs (inr (inl lacks)) =
      let Why : Refusal → Type 0 =
      RefusedFor told (image p) scions end (faults p) (faults q) (knows_of s) (knows_of t) m.values o in
      let spaced : Why (Pause (Space (cost_of lacks.shape))) = (
        spaced_by (knows_of s) (knows_of t) (cost_of lacks.shape) most (few_words lacks.shape lacks.small)
            lacks.lacked,
        needs (cost_of lacks.shape) (lacks.shape, refl, lacks.held),
      ) in
      (lacks.sees, subst Why (sym lacks.is) spaced)
  load_refused o {most} refusal.DiskFault s t p q loads looks needs (inr (inr lost)) =
      (lost.stays.sees, (same_by (knows_of s) (knows_of t) 0 0 most lost.stays.counts, loads, lost.lost))
  load_refused o {most} (refusal.Damaged damaged) s t p q loads looks needs (inr (inr lost)) = (
    lost.stays.sees,
    (
      same_by (knows_of s) (knows_of t) 0 0 most lost.stays.counts,
      loads,
      lost.lost.1,
      (lost.home, lost.below, lost.lost.0),
    ),
  )
  load_refused o {most} (Pause cause) s t p q loads looks needs (inr (inr lost)) = absurd lost.lost

  -- or refused as the stop word was set
  load_asked : (o : Op) {most : ℕ} {why : Refusal} (s t : Seat ℕ View) (p q : R)
      → LooksAtStop (value_in m.values) o
      → LoadAsked (knows_of s) (knows_of t) most why → Sees (knows_of s) (knows_of t).seen
      × RefusedFor told (image p) scions end (faults p) (faults q) (knows_of s) (knows_of t) m.values o why
  load_asked o {most} s t p q looks asked =
      let Why : Refusal → Type 0 =
      RefusedFor told (image p) scions end (faults p) (faults q) (knows_of s) (knows_of t) m.values o in
      let is_asked : Why (Pause Asked) = (
        same_by (knows_of s) (knows_of t) 0 0 most asked.stays.counts,
        ap (λ (x : View). x.stopped) asked.was.1.1,
        looks,
      ) in
      (asked.stays.sees, subst Why (sym asked.was.0) is_asked)

  -- a load of a slot
  pub slot_called : (dst src i most : ℕ) (result : Result Reply Refusal)
      → IsSlotLoaded image faults told scions end m n dst src i most result
      → IsCalled image faults told scions end m n (Load dst src i) result
  slot_called dst src i most (Ok reply) is s t p q ms nt mp nq =
      let loaded = is s t p q ms nt mp nq in
      (loaded.replies, same_by (knows_of s) (knows_of t) loaded.words loaded.wins most loaded.counts)
  slot_called dst src i most (Err refused) is s t p q ms nt mp nq =
      let loaded = is s t p q ms nt mp nq in
      let looks : LooksAtStop (value_in m.values) (Load dst src i) =
      λ nothing. let wrong : Ref loaded.1 ≡ Nil = sym loaded.2 ∙ nothing in absurd (cc) in
      let why : Sees (knows_of s) (knows_of t).seen
      × RefusedFor told (image p) scions end (faults p) (faults q) (knows_of s) (knows_of t) m.values (Load dst src i)
      refused =
      elim loaded.3 [
        | inl asked ↦ load_asked (Load dst src i) s t p q looks asked
        | inr because ↦
            load_refused (Load dst src i) refused s t p q tt looks (λ need at. (loaded.1, loaded.2, at)) because
      ] in
      (why.0, loaded.0, why.1)

  -- a load of a global
  pub global_called : (dst g most : ℕ) (result : Result Reply Refusal)
      → IsGlobalLoaded image faults told scions end m n dst g most result
      → IsCalled image faults told scions end m n (GLoad dst g) result
  global_called dst g most (Ok reply) is s t p q ms nt mp nq =
      let loaded = is s t p q ms nt mp nq in
      (loaded.replies, same_by (knows_of s) (knows_of t) loaded.words loaded.wins most loaded.counts)
  global_called dst g most (Err refused) is s t p q ms nt mp nq =
      let loaded = is s t p q ms nt mp nq in
      let why : Sees (knows_of s) (knows_of t).seen
      × RefusedFor told (image p) scions end (faults p) (faults q) (knows_of s) (knows_of t) m.values (GLoad dst g)
      refused =
      elim loaded.1 [
        | inl asked ↦ load_asked (GLoad dst g) s t p q tt asked
        | inr because ↦ load_refused (GLoad dst g) refused s t p q tt tt (λ need at. at) because
      ] in
      (why.0, loaded.0, why.1)

  -- an operation on registers alone, which the seat has no part in
  pub local_called : (words : EpochWords) (o : Op) (reply : Reply) → IsSeated words m → n.seat ≡ m.seat
      → ((h : List Entry) → words.start.began.told ≡ true → Answers m.thread h m.values o reply h n.values)
      → IsCalled image faults told scions end m n o (Ok reply)
  local_called words o reply seated same answers s t p q ms nt mp nq =
      let v : View = knows_of s in
      let alike : s ≡ t = same_seat m s t ms (sym same ∙ nt) in
      let is : seated.seat ≡ s = same_seat m seated.seat s seated.there ms in
      let sound : Sees v v.seen =
      subst (λ (x : Seat ℕ View). Sees (knows_of x) (knows_of x).seen) is seated.idle.sound in
      let began = ap (λ (x : Seat ℕ View). (knows_of x).began) (sym is) ∙ seated.idle.is_seat.began in
      let thread : v.thread ≡ m.thread = ap (λ (x : Seat ℕ View). (knows_of x).thread) (sym is) ∙ seated.thread in
      let here : Replies v v m.values n.values o reply = record {
        between = [];
        answers = λ tells.
            subst (λ (h : List Entry). Answers v.thread h m.values o reply v.seen n.values) (sym (append-nil v.seen))
            (subst (λ (k : ℕ). Answers k v.seen m.values o reply v.seen n.values) (sym thread)
            (answers v.seen (ap (λ (b : Began). b.told) (sym began) ∙ tells)));
        legal = sound.legal;
        since = sound.since;
        own_same = ap (λ (h : List Entry). own h v.thread) (append-nil v.seen);
        own_few = omega arith;
      } in
      let same_here : SameCauses v v =
      record { thread = refl; began = refl; asked = refl; spaced = refl; forwarded = refl } in
      subst (λ (x : Seat ℕ View). Replies v (knows_of x) m.values n.values o reply × SameCauses v (knows_of x)) alike
      (here, same_here)

module _ {R : Type 0} (m n : Mutator R) where
  -- a call that was refused leaves the registers
  pub plain_keeps : (o : Op) (steps : ℕ) (result : Result Reply Refusal) → IsPlain m n o steps result
      → RefusedKeeps m n result
  plain_keeps o steps (Ok reply) is = tt
  plain_keeps o steps (Err refused) is =
      let reader : n.reader ≡ m.reader = ap (λ (x : Mutator R). x.reader) is.0 in
      is.0 ∙ (λ i. record m { seat = n.seat; reader = sym reader i })

  pub held_keeps : (dst : ℕ) (result : Result Reply Refusal) → HoldsOnly m n dst result → RefusedKeeps m n result
  held_keeps dst (Ok reply) is = tt
  held_keeps dst (Err refused) is = is
