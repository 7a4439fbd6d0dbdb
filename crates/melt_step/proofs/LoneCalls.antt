-- A call that a thread makes alone.
use Rattle.std.proofs.Common.{◌≡◌, ◌≢◌, ℕ, ◌+◌, ◌^◌, ◌<◌, ◌≤◌, true, false, List, length, refl, sym, ◌∙◌, ap}
use Rattle.std.proofs.Common.{subst, arith, inl, inr}
use Rattle.std.specs.Prelude.{Bool, if◌then◌else◌, ◌==◌, Option, None, Some, slice_index}
use Rattle.std.proofs.Math.Path.{fun_ext}
use Rattle.std.proofs.lemmas.Bool.{cases_eq, cases_lt}
use Rattle.melt_model.specs.Thread.{value_in}
use Rattle.melt_model.specs.declared.history.Entry.{Entry}
use Rattle.melt_model.specs.declared.history.Value.{Value}
use Rattle.melt_model.specs.declared.operations.Op.{Op}
use Rattle.melt_model.specs.declared.operations.Op.TheVariants as op
use Rattle.melt_model.specs.declared.operations.Op.TheVariants.{Collect}
use Rattle.melt_model.specs.declared.operations.Reply.{Reply}
use Rattle.melt_word.specs.Words.{cost_of, ref_word}
use Rattle.melt_word.specs.declared.header.Shape.{Shape}
use Rattle.melt_word.specs.declared.reference.Ref.TheVariants.{Disk}
use Rattle.melt_record.specs.declared.damage.Damaged.{Damaged}
use Rattle.melt_record.specs.declared.head.Kind.{Kind}
use Rattle.melt_record.specs.declared.head.Kind.TheVariants.{Body, Stub}
use Rattle.melt_space.specs.Space.{word_at}
use Rattle.melt_forward.proofs.Searching.{empty_sends_not}
use Rattle.melt_scion.specs.Changes.{SameWords, FreeMoves}
use Rattle.melt_scion.specs.Commits.{HasHead}
use Rattle.melt_scion.specs.Heaps.{OnDisk, no_homes_on, register_in}
use Rattle.melt_scion.specs.Placed.{IsNamed, Maps}
use Rattle.melt_scion.specs.State.{State}
use Rattle.melt_core.specs.Advances.{IsDamage, MayAdvance}
use Rattle.melt_core.specs.Advances.{AdvancesWhere, Continues, CallGoesOn, InBounds, IsAnswered, IsAsked, IsFull}
use Rattle.melt_core.specs.Advances.{IsRefused}
use Rattle.melt_core.specs.Advances.{KeepsOthers, Refuses, TellsDisk}
use Rattle.melt_core.specs.Known.{Known, word_in}
use Rattle.melt_core.specs.Stages.{Word}
use Rattle.melt_core.specs.Stages.{Applies, FindsTag, Fits, Lacks, Next, Probes, ReadAs, SearchesOn, change_of}
use Rattle.melt_core.specs.Stages.{further, next_forward, reached, retried}
use Rattle.melt_core.specs.Views.{View, call_of, maps, registers_in, rest_of, stage_in, stage_of, state, Standing}
use Rattle.melt_core.specs.Views.{value}
use Rattle.melt_core.specs.Views.{values_of}
use Rattle.melt_core.specs.declared.answer.Pause.TheVariants as pause
use Rattle.melt_core.specs.declared.answer.Refusal.{Refusal}
use Rattle.melt_core.specs.declared.answer.Refusal.TheVariants as refusal
use Rattle.melt_core.specs.declared.answer.StepResult.TheVariants.{Going, Refused}
use Rattle.melt_core.specs.declared.call.Access.TheVariants.{Load, Store, Get, Put}
use Rattle.melt_core.specs.declared.call.Activation.{Activation}
use Rattle.melt_core.specs.declared.call.Call.{Call}
use Rattle.melt_core.specs.declared.call.Place.{Place}
use Rattle.melt_core.specs.declared.call.Place.TheVariants.{Field, Global}
use Rattle.melt_core.specs.declared.call.Search.{Search}
use Rattle.melt_core.specs.declared.call.Stage.{Stage}
use Rattle.melt_core.specs.declared.call.Stage.TheVariants as stage
use Rattle.melt_core.specs.declared.call.Stage.TheVariants.{Polled, Headed, Looked, Cleared, Claimed, Searching, Missed}
use Rattle.melt_core.specs.declared.call.Stage.TheVariants.{HeadRead, BodyRead, Copying, Copied, Retrying, LackingCopy}
use Rattle.melt_core.specs.declared.call.Task.TheVariants.{Make, Use, LoadGlobal, StoreGlobal}
use Rattle.melt_core.proofs.Tasks.{new_is}
use Rattle.melt_safepoint.specs.declared.thread.Mode.TheVariants.{Lacking}
use Rattle.melt_safepoint.specs.declared.thread.ThreadState.{ThreadState}
use Rattle.melt_safepoint.specs.Modes.{words_lacked_by, IsEnded, mode_for, owes_silent}
use Rattle.melt_safepoint.specs.Needs.{NeedsWords}
use Rattle.melt_safepoint.specs.Shown.{Underlies}
use Rattle.melt_safepoint.specs.Threads.{TakesReply, most_forwards}
use Rattle.melt_safepoint.proofs.Modes.{NoPause}
use Rattle.melt_safepoint.specs.Collections.{AllMarked, NoneForwarded}
use Rattle.melt_step.specs.Lone.{CalledOver, IsAloneReady}
use Rattle.melt_safepoint.specs.Tables.{DropsIfEnded}
use Rattle.melt_step.proofs.Calling.{Begins, KeepsOthers_both, dropped_stands, lost_state, stop_dropped, thread_there}
use Rattle.melt_step.proofs.Calling.{told_state}
use Rattle.melt_step.proofs.Lone.{load_needs}

-- Names, words, globals and forwarding words are as they were when the call began.
pub record Keeps (v w : View) : Type 0 where
  pub names : maps w ≡ maps v
  pub word : (k : ℕ) → word_at w.space k ≡ word_at v.space k
  pub global : (g : ℕ) → slice_index w.globals g ≡ slice_index v.globals g
  pub forward : (p : ℕ) → slice_index w.forward p ≡ slice_index v.forward p

-- and so is the first free place
pub record Untouched (v w : View) : Type 0 where
  pub keeps : Keeps v w
  pub free : w.free ≡ v.free

-- a claim of so many words ended past the last one
pub record HasLacked (v w : View) (need : ℕ) : Type 0 where
  pub keeps : Keeps v w
  pub above : length v.space.list + 1 < v.free + need

-- The search for a home has read no forwarding word that sends another. The home is still at the place.
pub record IsFirst (w : View) (search : Search) : Type 0 where
  pub tried : search.tried ≡ 0
  pub word : word_in (state no_homes_on w) search.place ≡ ref_word (Disk search.home)

-- a copy is made for a home, and no forwarding word is filled
pub record IsCopied (w : View) (search : Search) : Type 0 where
  pub tried : search.tried ≡ 0
  pub none : NoneForwarded w

-- What is known of a call that is made alone, by its stage. It has filled no forwarding word before its last event but
-- one, so that its search finds an empty one first.
abbrev pub By : View → View → Option Stage → Type 0
By v w None = Untouched v w
By v w (Some (Polled task)) = Untouched v w
By v w (Some (Headed address shape access)) = Untouched v w
By v w (Some (stage.Lacking need)) = HasLacked v w need
By v w (Some (Searching search)) = Untouched v w × IsFirst w search
By v w (Some (Missed search)) = Untouched v w × IsFirst w search
By v w (Some (HeadRead search shape)) = Untouched v w × IsFirst w search
By v w (Some (BodyRead search shape)) = Untouched v w × IsFirst w search
By v w (Some (LackingCopy search shape)) = HasLacked v w (cost_of shape) × IsFirst w search
By v w (Some (Copying a stored)) = IsCopied w a.search
By v w (Some (Copied a)) = IsCopied w a.search
By v w (Some (Retrying a)) = ⊥
By v w (Some g) = Unit {0}

-- An event that changes nothing, or moves the first free place alone.
module _ (v w x : View) (disk : OnDisk) where
  abbrev s : State
  s = state disk w

  abbrev after : State
  after = state disk x

  keeps_same : maps x ≡ maps w → SameWords s after → Keeps v w → Keeps v x
  keeps_same names same keeps = record {
    names = names ∙ keeps.names;
    word = λ k. same.word k ∙ keeps.word k;
    global = λ g. same.global g ∙ keeps.global g;
    forward = λ p. same.forward p ∙ keeps.forward p;
  }

  keeps_free : (free : ℕ) → maps x ≡ maps w → FreeMoves s after free → Keeps v w → Keeps v x
  keeps_free free names moves keeps = record {
    names = names ∙ keeps.names;
    word = λ k. moves.word k ∙ keeps.word k;
    global = λ g. moves.global g ∙ keeps.global g;
    forward = λ p. moves.forward p ∙ keeps.forward p;
  }

  untouched_same : maps x ≡ maps w → SameWords s after → Untouched v w → Untouched v x
  untouched_same names same is =
      record { keeps = keeps_same names same is.keeps; free = same.free ∙ is.free }

  -- the word at a place is as it was
  place_same : (place : Place) → ((k : ℕ) → word_at x.space k ≡ word_at w.space k)
      → ((g : ℕ) → slice_index x.globals g ≡ slice_index w.globals g)
      → word_in (state no_homes_on x) place ≡ word_in (state no_homes_on w) place
  place_same (Field object i) word global = word (object + 2 + i)
  place_same (Global g) word global = global g

  first_same : (search : Search) → SameWords s after → IsFirst w search → IsFirst x search
  first_same search same is =
      record { tried = is.tried; word = place_same search.place same.word same.global ∙ is.word }

  first_free : (search : Search) (free : ℕ) → FreeMoves s after free → IsFirst w search → IsFirst x search
  first_free search free moves is =
      record { tried = is.tried; word = place_same search.place moves.word moves.global ∙ is.word }

-- where no forwarding word was filled, none is
none_kept : (v w : View) → NoneForwarded v → Keeps v w → NoneForwarded w
none_kept v w none keeps p = keeps.forward p ∙ none p

-- a search that reads an empty forwarding word is at its end
probes_empty : (s : State) (search : Search) (empty another next : Stage) → next_forward s search ≡ 0
    → Probes s search empty another next → next ≡ empty
probes_empty s search empty another next none probes = elim probes.1 [
  | inl sent ↦ absurd (empty_sends_not (next_forward s search) search.home none sent.0 sent.1)
  | inr other ↦ elim other [
    | inl is ↦ is.1
    | inr sent ↦ absurd (empty_sends_not (next_forward s search) sent.0.0 none sent.0.1 sent.0.3)
  ]
]

-- the claim for a new object
by_made : {v w : View} (x : View) (disk : OnDisk) (dst : ℕ) (shape : Shape) (next : Stage) → Untouched v w
    → length w.space.list ≡ length v.space.list → maps x ≡ maps w
    → FreeMoves (state disk w) (state disk x) (w.free + cost_of shape)
    → (w.free + cost_of shape ≤ length w.space.list + 1 → next ≡ Claimed w.free shape 0 dst)
    → (length w.space.list + 1 < w.free + cost_of shape → next ≡ stage.Lacking (cost_of shape)) → By v x (Some next)
by_made {v} {w} x disk dst shape next is words names moves fits lacks =
    elim (cases_lt (length w.space.list + 1) (w.free + cost_of shape)) [
      | inl above ↦
          let lacked : HasLacked v x (cost_of shape) = record {
            keeps = keeps_free v w x disk (w.free + cost_of shape) names moves is.keeps;
            above = let free : w.free ≡ v.free = is.free in omega (arith, above, free, words);
          } in
          subst (λ (g : Stage). By v x (Some g)) (sym (lacks above)) lacked
      | inr below ↦ subst (λ (g : Stage). By v x (Some g)) (sym (fits below)) tt
    ]

-- the claim for a copy
by_fetched : {v w : View} (x : View) (disk : OnDisk) {search : Search} (shape : Shape) (next : Stage) → NoneForwarded v
    → Untouched v w → IsFirst w search → length w.space.list ≡ length v.space.list → maps x ≡ maps w
    → FreeMoves (state disk w) (state disk x) (w.free + cost_of shape) → (w.free + cost_of shape ≤ length w.space.list +
    1 → next ≡ Copying (record { search = search; address = w.free; shape = shape }) 0)
    → (length w.space.list + 1 < w.free + cost_of shape → next ≡ LackingCopy search shape) → By v x (Some next)
by_fetched {v} {w} x disk {search} shape next none is first words names moves fits lacks =
    let keeps : Keeps v x = keeps_free v w x disk (w.free + cost_of shape) names moves is.keeps in
    elim (cases_lt (length w.space.list + 1) (w.free + cost_of shape)) [
      | inl above ↦
          let lacked : HasLacked v x (cost_of shape) = record {
            keeps = keeps;
            above = let free : w.free ≡ v.free = is.free in omega (arith, above, free, words);
          } in
          subst (λ (g : Stage). By v x (Some g)) (sym (lacks above))
          (lacked, first_free v w x disk search (w.free + cost_of shape) moves first)
      | inr below ↦
          let copies : IsCopied x search = record { tried = first.tried; none = none_kept v x none keeps } in
          subst (λ (g : Stage). By v x (Some g)) (sym (fits below)) copies
    ]

-- what a load finds at its place
by_found : {v w : View} (x : View) (disk : OnDisk) (place : Place) (dst : ℕ) (next : Stage) → Untouched v w
    → maps x ≡ maps w → SameWords (state disk w) (state disk x)
    → FindsTag (word_in (state no_homes_on w) place) place dst next → By v x (Some next)
by_found {v} {w} x disk place dst next is names same (inl stale) =
    subst (λ (g : Stage). By v x (Some g)) (sym stale.2) tt
by_found {v} {w} x disk place dst next is names same (inr home) =
    let search : Search = record { place = place; home = home.0; tried = 0; dst = dst } in
    let first : IsFirst x search =
    record { tried = refl; word = place_same v w x disk place same.word same.global ∙ home.1 } in
    subst (λ (g : Stage). By v x (Some g)) (sym home.2) (untouched_same v w x disk names same is, first)

-- the head of a record was read
by_read : {v x : View} (s : State) {search : Search} (shape : Shape) (kind : Kind) (next : Stage)
    → Untouched v x × IsFirst x search → ReadAs s search shape kind next → By v x (Some next)
by_read {v} {x} s {search} shape Body next is reads =
    subst (λ (g : Stage). By v x (Some g)) (sym reads) (later (shape.refs + shape.nums == 0))
  where
    later : (whole : Bool) → By v x (Some (if whole then BodyRead search shape else HeadRead search shape))
    later true = is
    later false = is
by_read {v} {x} s {search} shape (Stub scion) next is reads = subst (λ (g : Stage). By v x (Some g)) (sym reads.2) tt

by_copied : (v x : View) (a : Activation) (stored : ℕ) (next : Stage) → IsCopied x a.search
    → (stored + 1 < cost_of a.shape → next ≡ Copying a (stored + 1))
    → (cost_of a.shape ≤ stored + 1 → next ≡ Copied a) → By v x (Some next)
by_copied v x a stored next is more all = elim (cases_lt (stored + 1) (cost_of a.shape)) [
  | inl goes ↦ subst (λ (g : Stage). By v x (Some g)) (sym (more goes)) is
  | inr over ↦ subst (λ (g : Stage). By v x (Some g)) (sym (all over)) is
]

-- A thread makes its call alone: so far neither the others nor history and registers saw anything of it, and nobody set
-- the stop word.
pub record OnCall (v w : View) (t : ℕ) (o : Op) : Type 0 where
  pub others : KeepsOthers v w t
  pub continued : Continues (call_of w t) o
  pub history : w.log ≡ v.log
  pub registers : registers_in w.held t ≡ registers_in v.held t
  pub values : values_of w t ≡ values_of v t
  pub stop : w.stop ≡ false
  pub by : By v w (stage_of w t)

-- the call goes on
pub call_goes : {v w x : View} {t : ℕ} {o : Op} {tells : Type 0} {disk : OnDisk} → NoneForwarded v → OnCall v w t o
    → AdvancesWhere tells disk w x t o Going → OnCall v x t o
call_goes {v} {w} {x} {t} {o} {disk} none on advances =
    let goes : CallGoesOn disk w x t o = advances.outcome in
    let after : stage_of x t ≡ Some goes.stage = ap stage_in goes.call in
    record {
      others = KeepsOthers_both v w x t on.others advances.others;
      continued = subst (λ (c : Option Call). Continues c o) (sym goes.call) refl;
      history = goes.own.history ∙ on.history;
      registers = goes.own.registers ∙ on.registers;
      values = goes.own.values ∙ on.values;
      stop = goes.stop ∙ on.stop;
      by = subst (By v x) (sym after)
          (by_goes (stage_of w t) goes.stage on.by goes.next advances.changes);
    }
  where
    -- a word of the copy was stored
    copied_on : {search : Search} (last : Bool) (at word to other : ℕ) → IsCopied w search
        → Applies (maps w) (maps x) (state disk w) (state disk x) (if last then Word at word else Word to other)
        → IsCopied x search
    copied_on true at word to other is applies =
        record { tried = is.tried; none = λ p. applies.1.forward p ∙ is.none p }
    copied_on false at word to other is applies =
        record { tried = is.tried; none = λ p. applies.1.forward p ∙ is.none p }

    -- what is known of the call stays known with each event after which it goes on
    by_goes : (from : Option Stage) (next : Stage) → By v w from
        → Next (maps w) (state disk w) (register_in w.held t) w.stop o from next
        → Applies (maps w) (maps x) (state disk w) (state disk x)
        (change_of (state disk w) (register_in w.held t) (rest_of w t) from)
        → By v x (Some next)
    by_goes None next is goes applies =
        subst (λ (g : Stage). By v x (Some g)) (sym goes.3) (untouched_same v w x disk applies.0 applies.1 is)
    by_goes (Some (Polled (Make dst shape))) next is goes applies =
        by_made x disk dst shape next is on.others.words applies.0 applies.1 goes.0 goes.1
    by_goes (Some (Polled (Use r access))) next is goes applies =
        subst (λ (g : Stage). By v x (Some g)) (sym goes.3) (untouched_same v w x disk applies.0 applies.1 is)
    by_goes (Some (Polled (LoadGlobal dst g))) next is goes applies =
        by_found x disk (Global g) dst next is applies.0 applies.1 goes
    by_goes (Some (Polled (StoreGlobal g src))) next is goes applies =
        absurd goes
    by_goes (Some (Headed object shape (Load dst i))) next is goes applies =
        by_found x disk (Field object i) dst next is applies.0 applies.1 goes
    by_goes (Some (Headed object shape (Store i src))) next is goes applies =
        absurd goes
    by_goes (Some (Headed object shape (Get j))) next is goes applies =
        absurd goes
    by_goes (Some (Headed object shape (Put j n))) next is goes applies =
        absurd goes
    by_goes (Some (Looked place found target dst)) next is goes applies =
        subst (λ (g : Stage). By v x (Some g)) (sym goes) tt
    by_goes (Some (Cleared place found target dst)) next is goes applies =
        absurd goes
    by_goes (Some (Claimed address shape stored dst)) next is goes applies =
        subst (λ (g : Stage). By v x (Some g)) (sym goes.1) tt
    by_goes (Some (stage.Lacking need)) next is goes applies = absurd goes
    by_goes (Some (Searching search)) next is goes applies =
        subst (λ (g : Stage). By v x (Some g))
        (sym (probes_empty (state disk w) search (Missed search) (Searching (further search)) next
        (none_kept v w none is.0.keeps _) goes))
        (untouched_same v w x disk applies.0 applies.1 is.0, first_same v w x disk search applies.1 is.1)
    by_goes (Some (Missed search)) next is goes applies =
        by_read (state disk w) goes.0 goes.1 next
        (untouched_same v w x disk applies.0 applies.1 is.0, first_same v w x disk search applies.1 is.1) goes.2
    by_goes (Some (HeadRead search shape)) next is goes applies =
        subst (λ (g : Stage). By v x (Some g)) (sym goes)
        (untouched_same v w x disk applies.0 applies.1 is.0, first_same v w x disk search applies.1 is.1)
    by_goes (Some (BodyRead search shape)) next is goes applies =
        by_fetched x disk shape next none is.0 is.1 on.others.words applies.0 applies.1 goes.0 goes.1
    by_goes (Some (Copying a stored)) next is goes applies =
        by_copied v x a stored next
        (copied_on (stored + 1 == cost_of a.shape) _ _ _ _ is applies) goes.0 goes.1
    by_goes (Some (Copied a)) next is goes applies =
        subst (λ (g : Stage). By v x (Some g))
        (sym (probes_empty (state disk w) a.search (reached a.search a.address) (Retrying (retried a)) next
        (is.none _) goes)) tt
    by_goes (Some (Retrying a)) next is goes applies = absurd is
    by_goes (Some (LackingCopy search shape)) next is goes applies = absurd goes

-- what the stage says of the call's search
searches_first : (v w : View) (from : Option Stage) (search : Search) → By v w from → SearchesOn from search
    → search.tried ≡ 0
searches_first v w (Some (Searching search)) of is searches = ap (λ (x : Search). x.tried) (sym searches) ∙ is.1.tried
searches_first v w (Some (Retrying a)) of is searches = absurd is
searches_first v w from of is searches = absurd searches

-- so it is never refused for want of a forwarding word
pub never_full : (v w x : View) (t : ℕ) (o : Op) → 1 ≤ length v.forward → OnCall v w t o → IsFull w x t o → ⊥
never_full v w x t o some on full =
    let first : full.search.tried ≡ 0 = searches_first v w (stage_of w t) full.search on.by full.searches in
    let all : full.search.tried ≡ length w.forward = full.all in
    let same : length w.forward ≡ length v.forward = on.others.forwards in
    omega (arith, some, first, all, same)

-- nor as the stop word is set
pub never_asked : (v w x : View) (t : ℕ) (o : Op) → OnCall v w t o → IsAsked w x t o → ⊥
never_asked v w x t o on asked = let e : false ≡ true = sym on.stop ∙ asked.pauses.1 in cc

-- a claim that ended past the last word
lacked_by : (v w : View) (from : Option Stage) (need : ℕ) → By v w from → Lacks from need → HasLacked v w need
lacked_by v w (Some (stage.Lacking words)) need is lacks = subst (HasLacked v w) lacks is
lacked_by v w (Some (LackingCopy search shape)) need is lacks = subst (HasLacked v w) lacks is.0
lacked_by v w from need is lacks = absurd lacks

-- and its event, which changes no word
lacked_keeps : {v w : View} (x : View) (disk : OnDisk) (register : ℕ → ℕ) (rest : List ℕ) (from : Option Stage)
    (need : ℕ) → Lacks from need → Keeps v w
    → Applies (maps w) (maps x) (state disk w) (state disk x) (change_of (state disk w) register rest from) → Keeps v x
lacked_keeps {v} {w} x disk register rest (Some (stage.Lacking words)) need lacks keeps applies =
    keeps_same v w x disk applies.0 applies.1 keeps
lacked_keeps {v} {w} x disk register rest (Some (LackingCopy search shape)) need lacks keeps applies =
    keeps_same v w x disk applies.0 applies.1 keeps
lacked_keeps {v} {w} x disk register rest from need lacks keeps applies = absurd lacks

-- an object of an operation takes few words
small_made : (globals : ℕ) (o : Op) (dst : ℕ) (shape : Shape) → InBounds globals o
    → o ≡ op.New dst shape.refs shape.nums → cost_of shape ≤ 126
small_made globals o dst shape bounds is =
    let within : InBounds globals (op.New dst shape.refs shape.nums) = subst (InBounds globals) is bounds in
    let refs : shape.refs ≤ 62 = within.1 in
    let nums : shape.nums ≤ 62 = within.2 in
    omega (arith, refs, nums)

-- What a call lacks, over a disk: few words, and those that its operation needs where it is told.
record LacksThese (told : Bool) (w : View) (t : ℕ) (o : Op) (need : ℕ) : Type 0 where
  small : need ≤ 126
  needs : told ≡ true → NeedsWords w.log (value w) t o need

-- words for a new object
lacks_made : (told : Bool) (register : ℕ → ℕ) (w : View) (t : ℕ) (o : Op) {words need : ℕ} (globals : ℕ)
    → InBounds globals o → Fits register o (stage.Lacking words) → words ≡ need → LacksThese told w t o need
lacks_made told register w t o {need} globals bounds fits same =
    let is : o ≡ op.New fits.0 fits.1.refs fits.1.nums = new_is o fits.0 fits.1 fits.2 in
    let cost : need ≡ cost_of fits.1 = sym same ∙ fits.3 in
    let small : cost_of fits.1 ≤ 126 = small_made globals o fits.0 fits.1 bounds is in
    record {
      small = omega (arith, cost, small);
      needs = λ told. subst (λ (p : Op). NeedsWords w.log (value w) t p need) (sym is) cost;
    }

-- words for a copy
lacks_copy : {told : Bool} {disk : OnDisk} {w : View} (t : ℕ) (o : Op) {search : Search} (shape : Shape)
    → Standing told disk w → NoneForwarded w → IsFirst w search
    → Fits (register_in w.held t) o (LackingCopy search shape)
    → Known told (maps w) (state disk w) (rest_of w t) (LackingCopy search shape)
    → LacksThese told w t o (cost_of shape)
lacks_copy {disk} {w} t o {search} shape stands none first fits known =
    let refs : shape.refs ≤ 62 = known.2.small.refs in
    let nums : shape.nums ≤ 62 = known.2.small.nums in
    record {
      small = omega (arith, refs, nums);
      needs = λ is.
          load_needs t o search.place search.dst (subst (λ (b : Bool). Standing b disk w) is stands) fits (record {
            none = none;
            at = known.1.searches.looked.at;
            word = place_on w disk search.place ∙ first.word;
            has = known.1.searches.object is;
            head = subst (λ (b : Bool). HasHead b (state disk w).base search.home shape) is known.2;
          });
    }
  where
    place_on : (w : View) (disk : OnDisk) (place : Place)
        → word_in (state disk w) place ≡ word_in (state no_homes_on w) place
    place_on w disk (Field object i) = refl
    place_on w disk (Global g) = refl

-- by the stage
lacks_these : {told : Bool} {disk : OnDisk} {v w : View} {t : ℕ} {o : Op} (need globals : ℕ) → InBounds globals o
    → NoneForwarded w → OnCall v w t o → Standing told disk w → Lacks (stage_of w t) need → LacksThese told w t o need
lacks_these {told} {disk} {v} {w} {t} {o} need globals bounds none on stands lacks =
    by_call (call_of w t) refl on.continued on.by lacks
  where
    by_stage : (g : Stage) → Fits (register_in w.held t) o g → Known told (maps w) (state disk w) (rest_of w t) g
        → By v w (Some g) → Lacks (Some g) need → LacksThese told w t o need
    by_stage (stage.Lacking words) fits known by lacks =
        lacks_made told (register_in w.held t) w t o globals bounds fits lacks
    by_stage (LackingCopy search shape) fits known by lacks =
        subst (LacksThese told w t o) lacks (lacks_copy t o shape stands none by.1 fits known)
    by_stage g fits known by lacks = absurd lacks

    by_call : (now : Option Call) → call_of w t ≡ now → Continues now o → By v w (stage_in now)
        → Lacks (stage_in now) need
        → LacksThese told w t o need
    by_call None is continued by lacks = absurd lacks
    by_call (Some c) is continued by lacks =
        by_stage c.stage
        (subst (λ (p : Op). Fits (register_in w.held t) p c.stage) (sym continued) (stands.fits t c is))
        (stands.known t c is) by lacks

-- Each object that no register holds has the stale bit still, where registers are as they were.
marked_still : (v w : View) → Keeps v w → ((u : ℕ) → registers_in w.held u ≡ registers_in v.held u) → AllMarked v
    → AllMarked w
marked_still v w keeps registers marked a header named starts unheld =
    marked a header (subst (λ (m : Maps). IsNamed m a) keeps.names named)
    (record { in_range = starts.in_range; word = sym (keeps.word a) ∙ starts.word })
    (λ holds. unheld (record {
      thread = holds.thread;
      register = holds.register;
      holds = ap (λ (regs : List ℕ). slice_index regs holds.register) (registers holds.thread) ∙ holds.holds;
    }))

-- what holds of the others and of the thread holds of all
of_all : {A : Type 0} (f g : ℕ → A) (t : ℕ) → f t ≡ g t → ((u : ℕ) → u ≢ t → f u ≡ g u) → (u : ℕ) → f u ≡ g u
of_all f g t here others u = elim (cases_eq u t) [
  | inl same ↦ subst (λ (k : ℕ). f k ≡ g k) (sym same) here
  | inr other ↦ others u other
]

-- the values in the registers are those of the beginning, and so are the words that are needed
needs_same : (v w : View) (t : ℕ) (o : Op) (need : ℕ) → w.log ≡ v.log → ((u : ℕ) → values_of w u ≡ values_of v u)
    → NeedsWords w.log (value w) t o need → NeedsWords v.log (value v) t o need
needs_same v w t o need log values needs =
    let same : value w ≡ value v =
    fun_ext (λ u. fun_ext (λ r. ap (λ (vs : List Value). value_in vs r) (values u))) in
    subst (λ (f : ℕ → ℕ → Value). NeedsWords v.log f t o need) same
    (subst (λ (h : List Entry). NeedsWords h (value w) t o need) log needs)

-- the call was refused: its claim ended past the last word of the heap
pub call_lacks : {told : Bool} {tells : Type 0} {disk : OnDisk} {v w x : View} {t : ℕ} {o : Op} (need globals : ℕ)
    (s : ThreadState) → InBounds globals o → NoneForwarded v → OnCall v w t o → Standing told disk w
    → (told ≡ true → tells) → AdvancesWhere tells disk w x t o (Refused (refusal.Pause (pause.Space need)))
    → CalledOver told disk v x t s s o (Some need)
call_lacks {told} {disk} {v} {w} {x} {t} {o} need globals s bounds none on stands tell advances =
    let refused : IsRefused w x t o need = advances.outcome in
    let lacked : HasLacked v w need = lacked_by v w (stage_of w t) need on.by refused.lacks in
    let keeps : Keeps v x =
    lacked_keeps x disk (register_in w.held t) (rest_of w t) (stage_of w t) need refused.lacks lacked.keeps
    advances.changes in
    let others : KeepsOthers v x t = KeepsOthers_both v w x t on.others advances.others in
    let these : LacksThese told w t o need =
    lacks_these need globals bounds (none_kept v w none lacked.keeps) on stands refused.lacks in
    let registers : registers_in x.held t ≡ registers_in v.held t = refused.own.registers ∙ on.registers in
    record {
      stands = advances.keeps told tell stands;
      others = others;
      what = inr (
        need,
        refl,
        record {
          same = refl;
          above = lacked.above;
          small = these.small;
          needs = λ is. needs_same v w t o need on.history
              (of_all (values_of w) (values_of v) t on.values on.others.values) (these.needs is);
          call = refused.call;
          history = refused.own.history ∙ on.history;
          registers = registers;
          values = refused.own.values ∙ on.values;
          none_forwarded = none_kept v x none keeps;
          marked = marked_still v x keeps
              (of_all (registers_in x.held) (registers_in v.held) t registers others.registers);
        },
      );
    }

-- the call was answered
pub call_told : {told : Bool} {disk : OnDisk} {v w x : View} (y : View) {t : ℕ} {o : Op} {reply : Reply}
    {s after : ThreadState} → s.mode ≡ Lacking → s.op ≡ Some o → o ≢ Collect → OnCall v w t o → Standing told disk w
    → Standing told disk x → KeepsOthers w x t → IsAnswered disk w x t o reply → TakesReply s after reply
    → DropsIfEnded x y t after.mode → CalledOver told disk v y t s after o None
call_told {told} {disk} {v} {w} {x} y {t} {after} lacking next no_collect on stood stands others answered takes drops =
    let later = dropped_stands told disk x y t after.mode stands drops in
    record {
      stands = later.0;
      others = KeepsOthers_both v w y t on.others (KeepsOthers_both w x y t others later.1);
      what = inl (
        refl,
        stop_dropped x y t after.mode drops ∙ (answered.stop ∙ on.stop),
        inr (told_state v y next no_collect on.history on.values stood answered (ap owes_silent lacking) takes drops),
      );
    }

-- the thread was lost
pub call_lost : {told : Bool} {image : Option (List ℕ)} {disk : OnDisk} {v w x : View} (y : View) {t : ℕ} {o : Op}
    (s : ThreadState) {why : Refusal} → s.mode ≡ Lacking → s.op ≡ Some o → NoPause why → OnCall v w t o
    → Begins told image disk w t o why → AdvancesWhere (TellsDisk image disk) disk w x t o (Refused why)
    → DropsIfEnded x y t (mode_for why) → CalledOver told disk v y t s (record s { mode = mode_for why }) o None
call_lost {told} {image} {disk} {v} {w} {x} y {t} {o} s {why} lacking next no_pause on begins advances drops =
    let later =
    dropped_stands told disk x y t (mode_for why) (advances.keeps told begins.tells begins.stands) drops in
    record {
      stands = later.0;
      others = KeepsOthers_both v w y t on.others (KeepsOthers_both w x y t advances.others later.1);
      what = inl (
        refl,
        stop_dropped x y t (mode_for why) drops ∙ (lost_stop why no_pause advances.outcome ∙ on.stop),
        inl (lost_state v x y s next (ap owes_silent lacking) (λ over. subst IsEnded lacking over) on.history no_pause
            begins advances.outcome drops),
      );
    }
  where
    lost_stop : (why : Refusal) → NoPause why → Refuses (TellsDisk image disk) disk w x t o why → x.stop ≡ w.stop
    lost_stop (refusal.Pause cause) none is = absurd none
    lost_stop refusal.DiskFault none is = is.1.stop
    lost_stop (refusal.Damaged damaged) none is = is.lost.stop

-- each event of the call asks what it asked when it began
pub call_asks : {finish : ℕ} {v w : View} {t : ℕ} {s : ThreadState} {o : Op} → (ready : IsAloneReady finish v t s o)
    → OnCall v w t o → Standing false ready.disk w → MayAdvance finish w t o
call_asks {v} {w} {t} {o} ready on stands = record {
  disk = ready.disk;
  ends = ready.ends;
  asks = record {
    stands = stands;
    thread = thread_there v w t on.others ready.thread;
    bounds = subst (λ (n : ℕ). InBounds n o) (sym on.others.globals) ready.bounds;
    no_collect = ready.no_collect;
    continued = on.continued;
    room =
        subst (λ (n : ℕ). length w.log < n) (sym on.others.capacity)
        (subst (λ (h : List Entry). length h < v.capacity) (sym on.history) ready.entries);
    few = subst (λ (h : List Entry). length h < 2 ^ 32) (sym on.history) ready.few;
  };
}

-- a call that lacks no words was refused for no pause
pub never_pauses : (tells : Type 0) (disk : OnDisk) {v w : View} (x : View) {t : ℕ} {o : Op} (why : Refusal)
    → 1 ≤ length v.forward → OnCall v w t o → Refuses tells disk w x t o why → words_lacked_by why ≡ None → NoPause why
never_pauses tells disk {v} {w} x {t} {o} (refusal.Pause pause.Asked) some on is lacks =
    absurd (never_asked v w x t o on is)
never_pauses tells disk {v} {w} x {t} {o} (refusal.Pause (pause.Space need)) some on is lacks = absurd (cc)
never_pauses tells disk {v} {w} x {t} {o} (refusal.Pause pause.Forward) some on is lacks =
    absurd (never_full v w x t o some on is)
never_pauses tells disk {v} {w} x {t} {o} refusal.DiskFault some on is lacks = tt
never_pauses tells disk {v} {w} x {t} {o} (refusal.Damaged damaged) some on is lacks = tt

-- what may be read of the disk in an event of the call
pub call_reads : {told : Bool} {image : Option (List ℕ)} {finish : ℕ} {disk : OnDisk} {v w : View} {t : ℕ} {o : Op}
    (why : Refusal) → OnCall v w t o → Underlies told finish image disk → Standing told disk w
    → ((damaged : Damaged) → why ≡ refusal.Damaged damaged → IsDamage image finish w t damaged)
    → Begins told image disk w t o why
call_reads {image} {w} {t} why on under stands damage = record {
  stands = stands;
  continued = on.continued;
  tells = under.tells;
  damage = λ damaged is. subst (λ (k : ℕ). IsDamage image k w t damaged) (sym under.ends) (damage damaged is);
}

-- there are few forwarding words still
pub few_still : (v w : View) (t : ℕ) (o : Op) → OnCall v w t o → length v.forward ≤ most_forwards
    → length w.forward ≤ most_forwards
few_still v w t o on few =
    let same : length w.forward ≡ length v.forward = on.others.forwards in omega (arith, same, few)
