-- The answers of calls that claim no words, by what their steps told.
use Rattle.std.proofs.Common.{◌≡◌, ◌≢◌, ℕ, ◌≤◌, true, false, List, [], ◌∷◌, ◌++◌, length, length-append}
use Rattle.std.proofs.Common.{Ok, Err, refl, sym, ◌∙◌, ap, subst, arith, inl, inr}
use Rattle.std.proofs.lemmas.List.{append_cancel_right}
use Rattle.std.specs.Prelude.{None, Some}
use Rattle.atomic_table.specs.declared.shared.Seat.{Seat}
use Rattle.melt_model.specs.History.{shape}
use Rattle.melt_model.specs.Thread.{own, value_in}
use Rattle.melt_model.specs.declared.history.Act.{Act}
use Rattle.melt_model.specs.declared.history.Entry.{Entry}
use Rattle.melt_model.specs.declared.history.Value.{Value}
use Rattle.melt_model.specs.declared.history.Value.TheVariants.{Nil, Ref}
use Rattle.melt_model.specs.declared.operations.Op.{Op}
use Rattle.melt_model.specs.declared.operations.Reply.{Reply}
use Rattle.melt_model.specs.declared.operations.Reply.TheVariants as reply
use Rattle.melt_word.specs.declared.header.Shape as word
use Rattle.melt_core.proofs.Answers.{HoldsNil, LacksPart, nil_answers, range_answers, shape_of}
use Rattle.melt_core.specs.Answering.{Answers, entry}
use Rattle.melt_core.specs.Stages.{LooksAtStop}
use Rattle.melt_core.specs.declared.answer.Pause.TheVariants.{Asked}
use Rattle.melt_core.specs.declared.answer.Refusal.TheVariants.{Pause}
use Rattle.melt_rule.specs.Rule.{Has}
use Rattle.melt_rule.specs.Seats.{EpochWords, IsSeat, SpeaksOf, knows_of}
use Rattle.melt_rule.specs.Tells.{Adds, Ends, HasAll, Heads, Names, Polls, Sees, view_after}
use Rattle.melt_rule.specs.declared.began.Began.{Began}
use Rattle.melt_rule.specs.declared.view.Doing.TheVariants.{Headed}
use Rattle.melt_rule.specs.declared.view.View.{View}
use Rattle.melt_epoch.proofs.Following.{Way, adds_on, between_own, idle_seat, idle_way, counts_most, counts_on}
use Rattle.melt_epoch.proofs.Following.{reach_way}
use Rattle.melt_epoch.proofs.Following.{shape_stays, sound_adds, sound_sees, step_counts}
use Rattle.melt_epoch.specs.Calls.{Counts, Plain, Replies}
use Rattle.melt_epoch.specs.Mutators.{IsIdle}

-- an address that is known is not 0, and stands for an object
pub held_object : (words : EpochWords) (seat : Seat ℕ View) (address : ℕ) (value : Value) → IsIdle words seat
    → Names (knows_of seat).known address value → (address ≡ 0 → ⊥)
    → (n : ℕ) × (value ≡ Ref n) × Has (knows_of seat).known address n
held_object words seat address value idle (inl none) some_ = absurd (some_ none.0)
held_object words seat address value idle (inr object) some_ = object

pub held_some : (words : EpochWords) (seat : Seat ℕ View) (address : ℕ) (value : Value) → IsIdle words seat
    → Names (knows_of seat).known address value → (address ≡ 0 → ⊥) → value ≢ Nil
held_some words seat address value idle names some_ nothing =
    let object = held_object words seat address value idle names some_ in
    let wrong : Ref object.0 ≡ Nil = sym object.1 ∙ nothing in absurd (cc)

pub held_nothing : (words : EpochWords) (seat : Seat ℕ View) (address : ℕ) (value : Value) → IsIdle words seat
    → Names (knows_of seat).known address value → address ≡ 0 → value ≡ Nil
held_nothing words seat address value idle (inl none) is = none.1
held_nothing words seat address value idle (inr object) is =
    let first = (idle.is_seat.within.known address object.0 object.2).0 in absurd (omega arith)

-- answered without an entry, after a way
pub way_replies : {v w : View} {a b most : ℕ} (rs : List Value) (o : Op) (r : Reply) → Way v w a b most
    → (v.began.told ≡ true → Answers v.thread w.seen rs o r w.seen rs) → Replies v w rs rs o r
way_replies {v} {w} rs o r way answers = record {
  between = way.sees.begins.0;
  answers = λ told. subst (λ (h : List Entry). Answers v.thread h rs o r w.seen rs) (sym way.sees.begins.1)
      (answers told);
  legal = way.sees.legal;
  since = way.sees.since;
  own_same = ap (λ (h : List Entry). own h v.thread) way.sees.begins.1 ∙ way.sees.own_same;
  own_few = let same = ap length way.sees.own_same in omega (arith, same);
}

-- and with one
pub adds_replies : {v : View} (w : View) {act : Act} (old new : List Value) (o : Op) (r : Reply)
    (adds : Adds v w.seen act) → (v.began.told ≡ true → Answers v.thread (v.seen ++ adds.between) old o r ((v.seen ++
    adds.between) ++ entry v.thread act ∷ []) new) → Replies v w old new o r
adds_replies {v} w {act} old new o r adds answers = record {
  between = adds.between;
  answers = λ told. subst (λ (h : List Entry). Answers v.thread (v.seen ++ adds.between) old o r h new) (sym adds.seen)
      (answers told);
  legal = adds.legal;
  since = adds.since;
  own_same = between_own v w.seen act adds;
  own_few =
      let before : List ℕ = own v.seen v.thread in
      let grown = ap length adds.own_grows in
      let one = length-append before (length (v.seen ++ adds.between) ∷ []) in
      omega (arith, grown, one);
}

-- nothing was in the register
pub nil_plain : (v : View) (rs : List Value) (o : Op) (most : ℕ) → Sees v v.seen → HoldsNil rs o
    → Plain v v rs rs o most (Ok reply.Nil)
nil_plain v rs o most sound nothing =
    let way = idle_way v sound in
    record {
      comes = way_replies rs o reply.Nil way (λ told. nil_answers v.thread o nothing refl refl refl);
      counts = counts_most v v 0 0 0 most (omega arith) way.counts;
      refused = tt;
      looks = tt;
    }

pub asked_counts : (v w : View) → w ≡ record (view_after v w.seen v.known None) { stopped = true } → Counts v w 0 0 1
asked_counts v w is = record {
  thread = ap (λ (x : View). x.thread) is;
  parts = ap (λ (x : View). x.parts) is;
  away = ap (λ (x : View). x.away) is;
  began = ap (λ (x : View). x.began) is;
  known = λ a n has. subst (λ (x : View). Has x.known a n) (sym is) has;
  asked = ap (λ (x : View). x.asked) is;
  spaced = ap (λ (x : View). x.spaced) is;
  forwarded = ap (λ (x : View). x.forwarded) is;
  claimed = let e = ap (λ (x : View). x.claimed) is in omega arith;
  over = ap (λ (x : View). x.over) is;
  won = let e = ap (λ (x : View). x.won) is in omega arith;
  steps = let s = ap (λ (x : View). x.steps) is in omega arith;
  counted = let s = ap (λ (x : View). x.steps) is in omega arith;
}

-- the stop word was set
pub asked_plain : (v w : View) (rs : List Value) (o : Op) (most : ℕ) → 1 ≤ most → Polls v w true
    → LooksAtStop (value_in rs) o → Plain v w rs rs o most (Err (Pause Asked))
asked_plain v w rs o most some_ polls looks = record {
  comes = (polls.0, refl);
  counts = counts_most v w 0 0 1 most some_ (asked_counts v w polls.1);
  refused = (refl, polls);
  looks = looks;
}

pub asked_idle : (words : EpochWords) (v : View) (seat : Seat ℕ View) → IsSeat words seat → Polls v (knows_of seat) true
    → IsIdle words seat
asked_idle words v seat is_seat polls =
    idle_seat words v seat None is_seat (ap (λ (x : View). x.doing) polls.1) refl
    (sound_sees v (knows_of seat) polls.0 (ap (λ (x : View). x.began) polls.1))
    (ap (λ (x : View). x.mine) polls.1)

-- the way through poll and head
pub headed_way : (v w u : View) (address n : ℕ) (z : word.Shape) → Sees v v.seen → Polls v w false
    → Heads w u address n z → Way v u 0 0 2
headed_way v w u address n z sound polls heads =
    reach_way (reach_way (idle_way v sound) polls.0) heads.reaches

-- the object lacks the part
pub range_plain : {v w u : View} (rs : List Value) (o : Op) (most : ℕ) {address n : ℕ} {z : word.Shape} → 2 ≤ most
    → Sees v v.seen → Polls v w false → Heads w u address n z → LacksPart rs o n z
    → Plain v u rs rs o most (Ok reply.Range)
range_plain {v} {w} {u} rs o most {address} {n} {z} many sound polls heads lacks =
    let way = headed_way v w u address n z sound polls heads in
    let began : w.began ≡ v.began = ap (λ (x : View). x.began) polls.0.is in
    record {
      comes = way_replies rs o reply.Range way
          (λ told. range_answers v.thread o n z lacks (heads.shaped (ap (λ (b : Began). b.told) began ∙ told)) refl refl
          refl);
      counts = counts_most v u 0 0 2 most many way.counts;
      refused = tt;
      looks = tt;
    }

pub headed_idle : {words : EpochWords} {v w : View} {seat : Seat ℕ View} {address n : ℕ} {z : word.Shape}
    → Sees v v.seen → Polls v w false → Heads w (knows_of seat) address n z → IsSeat words seat → IsIdle words seat
headed_idle {words} {v} {w} {seat} {address} {n} {z} sound polls heads is_seat =
    let way = headed_way v w (knows_of seat) address n z sound polls heads in
    idle_seat words v seat (Some (Headed address z)) is_seat (ap (λ (x : View). x.doing) heads.reaches.is) refl
    (sound_sees v (knows_of seat) way.sees way.counts.began)
    (ap (λ (x : View). x.mine) heads.reaches.is)

-- What a call tells that ends with an entry, after poll and head.
pub record EndsAfter (v x : View) (act : Act) (n : ℕ) (z : word.Shape) : Type 0 where
  pub adds : Adds v x.seen act
  pub counts : Counts v x 0 0 3
  pub shaped : v.began.told ≡ true → shape (v.seen ++ adds.between) n ≡ Some (shape_of z)

pub ends_after : {v w u x : View} {act : Act} {address n : ℕ} {z : word.Shape} → Sees v v.seen → Polls v w false
    → Heads w u address n z → Ends u x act → EndsAfter v x act n z
ends_after {v} {w} {u} {x} {act} {address} {n} {z} sound polls heads ends =
    let way = headed_way v w u address n z sound polls heads in
    let began : w.began ≡ v.began = ap (λ (y : View). y.began) polls.0.is in
    let adds : Adds v x.seen act = adds_on v u x.seen act way.sees way.counts.thread way.counts.began ends.adds in
    record {
      adds = adds;
      counts = counts_on way.counts (step_counts u x u.known None (λ a m has. has) ends.is);
      shaped = λ told. shape_stays u.seen (v.seen ++ adds.between) ends.adds.between n (shape_of z)
          (append_cancel_right (u.seen ++ ends.adds.between) (v.seen ++ adds.between) (entry v.thread act ∷ [])
          (ap (λ (t : ℕ). (u.seen ++ ends.adds.between) ++ entry t act ∷ []) (sym way.counts.thread)
          ∙ (sym ends.adds.seen ∙ adds.seen)))
          (heads.shaped (ap (λ (b : Began). b.told) began ∙ told));
    }

-- and after poll alone
pub ends_polled : (v w x : View) (act : Act) → Sees v v.seen → Polls v w false → Ends w x act
    → Adds v x.seen act × Counts v x 0 0 2
ends_polled v w x act sound polls ends =
    let way = reach_way (idle_way v sound) polls.0 in (
      adds_on v w x.seen act way.sees way.counts.thread way.counts.began ends.adds,
      counts_on way.counts (step_counts w x w.known None (λ a m has. has) ends.is),
    )

pub ended_idle : (words : EpochWords) (v u : View) (seat : Seat ℕ View) (act : Act) → Adds v (knows_of seat).seen act
    → Counts v (knows_of seat) 0 0 3 → Ends u (knows_of seat) act → IsSeat words seat → IsIdle words seat
ended_idle words v u seat act adds counts ends is_seat =
    idle_seat words v seat None is_seat (ap (λ (x : View). x.doing) ends.is) refl
    (sound_adds v (knows_of seat) act adds counts.began)
    (ap (λ (x : View). x.mine) ends.is)

-- what was known before a read of the stop word is known after it
pub polled_knows : (v w : View) (a n : ℕ) → Polls v w false → Has v.known a n → Has w.known a n
polled_knows v w a n polls has = subst (λ (x : View). Has x.known a n) (sym polls.0.is) has

pub headed_knows : (v : View) {w u : View} (a n : ℕ) {address m : ℕ} {z : word.Shape} → Polls v w false
    → Heads w u address m z → Has v.known a n → Has u.known a n
headed_knows v {w} a n polls heads has =
    subst (λ (x : View). Has x.known a n) (sym heads.reaches.is) (polled_knows v w a n polls has)

-- What a call knows of the object in a register, after the load of its header.
pub record Opened (v w u : View) (address : ℕ) (z : word.Shape) (value : Value) : Type 0 where
  pub object : ℕ
  pub is : value ≡ Ref object
  pub sound : Sees v v.seen
  pub polls : Polls v w false
  pub heads : Heads w u address object z
  pub known : Has u.known address object
  pub more : HasAll v.known u.known

pub opened : {words : EpochWords} {seat : Seat ℕ View} (w u : View) (address : ℕ) (z : word.Shape) (value : Value)
    → IsIdle words seat → Names (knows_of seat).known address value → (address ≡ 0 → ⊥) → Polls (knows_of seat) w false
    → ((n : ℕ) → Has w.known address n → Heads w u address n z) → Opened (knows_of seat) w u address z value
opened {words} {seat} w u address z value idle names some_ polls loads =
    let v = knows_of seat in
    let found = held_object words seat address value idle names some_ in
    let heads = loads found.0 (polled_knows v w address found.0 polls found.2) in
    let more : HasAll v.known u.known = λ a n has. headed_knows v a n polls heads has in
    record {
      object = found.0;
      is = found.1;
      sound = idle.sound;
      polls = polls;
      heads = heads;
      known = more address found.0 found.2;
      more = more;
    }

module _ {v w u : View} {address : ℕ} {z : word.Shape} {value : Value} where
  -- the object lacks the part
  pub opened_range : (rs : List Value) (o : Op) (most : ℕ) (h : Opened v w u address z value) → 2 ≤ most
      → LacksPart rs o h.object z → Plain v u rs rs o most (Ok reply.Range)
  opened_range rs o most h many lacks =
      range_plain rs o most many h.sound h.polls h.heads lacks

  -- the call may speak of it
  pub opened_speaks : (P : word.Shape → Type 0) → Opened v w u address z value → P z → SpeaksOf u address P
  opened_speaks P h has = ((h.object, h.known), (z, ap (λ (x : View). x.doing) h.heads.reaches.is, has))

  -- and then ends with an entry
  pub opened_ends : (x : View) (act : Act) (h : Opened v w u address z value) → Ends u x act
      → EndsAfter v x act h.object z
  opened_ends x act h ends = ends_after h.sound h.polls h.heads ends

  pub opened_ended : (words : EpochWords) (seat : Seat ℕ View) (act : Act) → Opened v w u address z value
      → Ends u (knows_of seat) act → IsSeat words seat → IsIdle words seat
  opened_ended words seat act h ends is_seat =
      let after = opened_ends (knows_of seat) act h ends in
      ended_idle words v u seat act after.adds after.counts ends is_seat

pub opened_idle : {v w : View} {address : ℕ} {z : word.Shape} {value : Value} (words : EpochWords) (seat : Seat ℕ View)
    → Opened v w (knows_of seat) address z value → IsSeat words seat → IsIdle words seat
opened_idle {v} {w} {address} {z} words seat h is_seat =
    headed_idle h.sound h.polls h.heads is_seat
