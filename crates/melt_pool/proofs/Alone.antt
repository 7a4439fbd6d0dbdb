-- An epoch in which one call alone was made, which was not answered.
use Rattle.std.proofs.Common.{[], ◌≡◌, ◌≢◌, ℕ, zero, suc, ◌+◌, ◌<◌, ◌≤◌, List, ◌∷◌, ◌++◌, length, map, refl, sym}
use Rattle.std.proofs.Common.{◌∙◌, ap, subst, arith, length-append, inl, inr, true, false, get_or}
use Rattle.std.proofs.lemmas.Bool.{cases_lt}
use Rattle.std.proofs.lemmas.List.{append-nil, get_or_past, length-map}
use Rattle.std.proofs.lemmas.Option.{get_or_from_slice_get, slice_get-get_or, slice_get-map}
use Rattle.std.specs.List.{sum_by}
use Rattle.std.specs.Prelude.{All, Contains, Option, None, Some, slice_get, slice_index}
use Rattle.std.specs.Option.{option_map}
use lib.ListN.{get_elem?}
use mathlib.Core.Option.{some, some-injective, some-ne-none}
use Rattle.melt_model.specs.History.{last, shape}
use Rattle.melt_model.specs.Thread.{own}
use Rattle.melt_model.specs.declared.history.Entry.{Entry}
use Rattle.melt_model.specs.declared.history.Slot.{Slot}
use Rattle.melt_model.specs.declared.history.Slot.TheVariants.{Field, Global}
use Rattle.melt_model.specs.declared.history.Value.{Value}
use Rattle.melt_model.specs.declared.history.Value.TheVariants.{Ref}
use Rattle.melt_model.specs.declared.operations.Op.{Op}
use Rattle.melt_model.specs.declared.operations.Op.TheVariants as op
use Rattle.melt_record.specs.declared.head.Kind.TheVariants.{Body}
use Rattle.melt_scion.specs.GhostMaps.{named}
use Rattle.melt_scion.specs.Placed.{HeadIs}
use Rattle.melt_scion.specs.declared.heap.Heap.{Heap}
use Rattle.melt_rule.specs.Rule.{Begins, Saw, filled_count, filled_one, has_cause}
use Rattle.melt_rule.specs.Seats.{EpochWords}
use Rattle.melt_rule.specs.Shown.{base_at}
use Rattle.melt_rule.specs.declared.began.Began.{Began}
use Rattle.melt_rule.specs.declared.view.View.{View}
use Rattle.melt_epoch.specs.Ends.{HasEnded, HasJoined, SomeCause, free_after, unseated, view_of}
use Rattle.melt_epoch.specs.declared.mutator.Mutator.{Mutator}
use Rattle.melt_safepoint.specs.declared.thread.ThreadState.{ThreadState}
use Rattle.melt_pool.specs.Calling.{NeedsAt, NeedsIn}
use Rattle.melt_pool.specs.Epochs.{HasLacked, IsAsBefore, NeedsFrom, RefersTo}
use Rattle.melt_pool.specs.Firsts.{ChangedAt, LackedFirst, WasStopped}
use Rattle.melt_pool.specs.Workers.{Brings}
use Rattle.melt_pool.specs.declared.worker.Worker.{Worker}
use Rattle.melt_pool.proofs.Changed.{at_changed, changed_sum}
use Rattle.melt_pool.proofs.Growing.{other_first}
use Rattle.melt_pool.proofs.Passing.{all_at}
use Rattle.melt_pool.proofs.Working.{same_cause, seated_thread, seated_view}

-- a word that does not count as filled is 0
one_none : (word : ℕ) → filled_one word ≡ 0 → word ≡ 0
one_none zero none = refl
one_none (suc word) none = absurd (omega (arith, none))

-- and so are all of which none counts
none_filled : (word : ℕ → ℕ) (n p : ℕ) → filled_count word n ≡ 0 → p < n → word p ≡ 0
none_filled word zero p none below = absurd (omega (arith, below))
none_filled word (suc n) p none below =
    let both : filled_count word n + filled_one (word n) ≡ 0 = none in
    elim (cases_lt p n) [
      | inl less ↦ none_filled word n p (omega (arith, both)) less
      | inr more ↦
          let same : n ≡ p = omega (arith, more, below) in
          subst (λ (k : ℕ). word k ≡ 0) same (one_none (word n) (omega (arith, both)))
    ]

-- a history that came between two that are one is that one
between_same : (g mid h : List Entry) → Begins g mid → Begins mid h → h ≡ g → mid ≡ g
between_same g mid h first second same = by first.0 first.1
  where
    by : (more : List Entry) → g ++ more ≡ mid → mid ≡ g
    by [] is = sym is ∙ append-nil g
    by (e ∷ more) is = absurd (omega (
      arith,
      ap length is,
      length-append g (e ∷ more),
      ap length second.1,
      length-append mid second.0,
      ap length same,
    ))

-- no entry came to a history to which none of any thread came
nothing_added : (g h : List Entry) (threads : List ℕ) → Begins g h
    → ((t : ℕ) → Contains threads t → own h t ≡ own g t)
    → ((t : ℕ) → (Contains threads t → ⊥) → own h t ≡ own g t) → h ≡ g
nothing_added g h threads begins members strangers = by begins.0 begins.1
  where
    by : (more : List Entry) → g ++ more ≡ h → h ≡ g
    by [] is = sym is ∙ append-nil g
    by (e ∷ more) is =
        let never : own h e.thread ≡ own g e.thread → ⊥ =
        λ same. other_first g more e.thread e (ap (λ (x : List Entry). own x e.thread) is ∙ same) refl in
        absurd (never (strangers e.thread (λ member. never (members e.thread member))))

-- an element by its place
by_place : {A : Type 0} (xs : List A) (k : ℕ) (x : A) → get_elem? xs k ≡ some x → slice_get xs k ≡ Some x
by_place [] k x at = absurd (some-ne-none x (sym at))
by_place (y ∷ xs) zero x at = ap (λ (z : _). Some z) (some-injective y x at)
by_place (y ∷ xs) (suc k) x at = by_place xs k x at

-- a seat that has just joined has no cause to stop
joined_free : {R : Type 0} (words : EpochWords) (m : Mutator R) → HasJoined words m → has_cause (view_of m) ≡ false
joined_free words m joined = rw (joined.asked, joined.spaced, joined.forwarded) refl

-- for what an operation needs words, by the history with which the epoch began
module _ (b : Began) (v w : View) (tells : b.told ≡ true) (began : v.began ≡ b) (seen : v.seen ≡ b.history)
    (same : w.seen ≡ b.history) where
  refers_to : (slot : Slot) (need : ℕ) → NeedsAt v w slot need → RefersTo b slot need
  refers_to slot need at =
      let held = at.2 (ap (λ (x : Began). x.told) began ∙ tells) in
      let then_ : held.then_ ≡ b.history =
      between_same v.seen held.then_ w.seen held.from held.until (same ∙ sym seen) ∙ seen in
      record {
        object = held.object;
        home = held.home;
        z = at.0;
        refers = subst (λ (h : List Entry). last h slot ≡ Ref held.object) then_ held.held;
        shaped = subst
            (λ (h : List Entry). shape h held.object ≡ Some (record { refs = at.0.refs; nums = at.0.nums })) same
            held.shaped;
        homed = subst (λ (x : Began). named x.maps.homes held.home ≡ Some held.object) began held.of;
        body = subst (λ (x : Began). HeadIs (base_at x) held.home (record { shape = at.0; kind = Body })) began
            held.body;
        words = at.1;
      }

  needs_from : (values : List Value) (o : Op) (need : ℕ) → NeedsIn v w values o need → NeedsFrom b values o need
  needs_from values (op.New dst refs nums) need needs = needs
  needs_from values (op.Load dst src i) need needs =
      (needs.0, needs.1, refers_to (Field needs.0 i) need needs.2)
  needs_from values (op.Store obj i src) need needs = absurd needs
  needs_from values (op.Get src j) need needs = absurd needs
  needs_from values (op.Put obj j value) need needs = absurd needs
  needs_from values (op.GLoad dst g) need needs = refers_to (Global g) need needs
  needs_from values (op.GStore g src) need needs = absurd needs
  needs_from values (op.Same x y) need needs = absurd needs
  needs_from values (op.Copy dst src) need needs = absurd needs
  needs_from values (op.Drop r) need needs = absurd needs
  needs_from values op.Collect need needs = absurd needs

module _ {R : Type 0} (faults : R → ℕ) (words : EpochWords) (t : ℕ) (ms ns rs qs : List (Mutator (Worker R)))
    (heap : Heap) (h : List Entry) (kept : map unseated ns ≡ ms) (joined : All (HasJoined words) ns)
    (left : qs ≡ map unseated rs) (ended : HasEnded words.start.began rs heap h) where
  abbrev b : Began
  b = words.start.began

  joined_at : (k : ℕ) (m : Mutator (Worker R)) → slice_get ns k ≡ Some m → HasJoined words m
  joined_at k m at = all_at (HasJoined words) ns k m joined at

  -- the call cannot have been refused for what others do
  pub never_stopped : ChangedAt t ns rs (λ (m n : Mutator (Worker R)). WasStopped words m n) → 1 ≤ b.forwards → ⊥
  never_stopped c some_forward =
      let Is : Mutator (Worker R) → Mutator (Worker R) → Type 0 = λ m n. WasStopped words m n in
      let before = joined_at t c.before c.was in
      elim c.is.why [
        | inl asked ↦
            let some_cause : SomeCause rs =
            all_at (λ (m : Mutator (Worker R)). (view_of m).stopped ≡ true → SomeCause rs) rs t c.after
            ended.heap_ends.stops c.now asked.1 in
            let free : has_cause (view_of some_cause.mutator) ≡ false =
            elim (at_changed Is c some_cause.place (by_place rs some_cause.place some_cause.mutator some_cause.at)) [
              | inl same ↦
                  ap (λ (m : Mutator (Worker R)). has_cause (view_of m)) (sym same.1)
                  ∙ (same_cause (view_of c.before) (view_of c.after) asked.0 ∙ joined_free words c.before before)
              | inr other ↦
                  joined_free words some_cause.mutator (joined_at some_cause.place some_cause.mutator other.1)
            ] in
            let no : true ≡ false = sym some_cause.is ∙ free in
            absurd (cc)
        | inr forwarded ↦
            let full =
            all_at
            (λ (m : Mutator (Worker R)). (view_of m).forwarded ≡ true → (p : ℕ) → p < b.forwards
            → slice_index heap.forward p ≢ 0) rs t c.after ended.heap_ends.forwarded c.now forwarded.forwarded in
            let sum : sum_by (λ (m : Mutator (Worker R)). (view_of m).won) rs ≡ (view_of c.after).won =
            changed_sum (λ (m : Mutator (Worker R)). (view_of m).won) t ns rs Is c
            (λ k m at. (joined_at k m at).won) in
            let none : filled_count (slice_index heap.forward) b.forwards ≡ 0 =
            ended.heap_ends.won ∙ (sum ∙ (forwarded.won ∙ before.won)) in
            full 0 (omega (arith, some_forward))
            (none_filled (slice_index heap.forward) b.forwards 0 none (omega (arith, some_forward)))
      ]

  module _ (need : ℕ) (c : ChangedAt t ns rs (λ (m n : Mutator (Worker R)). LackedFirst faults words m n need)) where
    abbrev Is : Mutator (Worker R) → Mutator (Worker R) → Type 0
    Is m n = LackedFirst faults words m n need

    before : HasJoined words c.before
    before = joined_at t c.before c.was

    -- each thread has the entries that it had
    own_each : (k : ℕ) (r : Mutator (Worker R)) → slice_get rs k ≡ Some r → own h r.thread ≡ own b.history r.thread
    own_each k r at =
        let saw : Saw h r.thread (view_of r).seen =
        all_at (λ (m : Mutator (Worker R)). Saw h m.thread (view_of m).seen) rs k r ended.history.saw at in
        elim (at_changed Is c k at) [
          | inl same ↦
              let threads : c.after.thread ≡ c.before.thread =
              ap (λ (m : Mutator (Worker R)). m.thread) c.is.lacked.same in
              let own_same : own (view_of c.after).seen c.before.thread ≡ own (view_of c.before).seen c.before.thread =
              subst (λ (u : ℕ). own (view_of c.after).seen u ≡ own (view_of c.before).seen u)
              (seated_thread words c.before before.seated) c.is.lacked.sees.own_same in
              let here : own (view_of c.after).seen c.after.thread ≡ own b.history c.after.thread =
              subst (λ (u : ℕ). own (view_of c.after).seen u ≡ own b.history u) (sym threads)
              (own_same ∙ ap (λ (g : List Entry). own g c.before.thread) before.seen) in
              saw.own_same
              ∙ subst (λ (m : Mutator (Worker R)). own (view_of m).seen m.thread ≡ own b.history m.thread) same.1 here
          | inr other ↦
              saw.own_same ∙ ap (λ (g : List Entry). own g r.thread) (joined_at k r other.1).seen
        ]

    own_member : (u : ℕ) → Contains (map (λ (m : Mutator (Worker R)). m.thread) rs) u → own h u ≡ own b.history u
    own_member u member =
        let thread : Mutator (Worker R) → ℕ = λ m. m.thread in
        let below : member.0 < length rs = let w = member.1 in omega (arith, w, length-map rs thread) in
        let r : Mutator (Worker R) = get_or rs member.0 c.after in
        let at : slice_get rs member.0 ≡ Some r = slice_get-get_or rs member.0 c.after below in
        let there : slice_get (map thread rs) member.0 ≡ Some r.thread =
        slice_get-map thread rs member.0 ∙ ap (option_map thread) at in
        let is : r.thread ≡ u = sym (get_or_from_slice_get (map thread rs) member.0 r.thread u there) ∙ member.2 in
        subst (λ (x : ℕ). own h x ≡ own b.history x) is (own_each member.0 r at)

    same_history : h ≡ b.history
    same_history =
        nothing_added b.history h (map (λ (m : Mutator (Worker R)). m.thread) rs) ended.history.since own_member
        ended.history.strangers

    -- its words end past the last one
    is_past : b.size + 1 < b.free + need
    is_past =
        let past : b.size + 1 < free_after b rs =
        all_at (λ (m : Mutator (Worker R)). (view_of m).spaced ≡ true → b.size + 1 < free_after b rs) rs t c.after
        ended.heap_ends.spaced c.now c.is.lacked.spaced.spaced in
        let sum : sum_by (λ (m : Mutator (Worker R)). (view_of m).claimed) rs ≡ (view_of c.after).claimed =
        changed_sum (λ (m : Mutator (Worker R)). (view_of m).claimed) t ns rs Is c
        (λ k m at. (joined_at k m at).claimed) in
        omega (arith, past, sum, c.is.lacked.spaced.claimed, before.claimed)

    -- no forwarding word is filled
    none_won : (p : ℕ) → slice_index heap.forward p ≡ 0
    none_won p =
        let sum : sum_by (λ (m : Mutator (Worker R)). (view_of m).won) rs ≡ (view_of c.after).won =
        changed_sum (λ (m : Mutator (Worker R)). (view_of m).won) t ns rs Is c
        (λ k m at. (joined_at k m at).won) in
        let none : filled_count (slice_index heap.forward) b.forwards ≡ 0 =
        ended.heap_ends.won ∙ (sum ∙ (c.is.lacked.spaced.won ∙ before.won)) in
        elim (cases_lt p b.forwards) [
          | inl below ↦ none_filled (slice_index heap.forward) b.forwards p none below
          | inr past ↦ get_or_past heap.forward p 0 (omega (arith, past, ended.heap_ends.forwards))
        ]

    -- the mutator is as it was
    as_before : IsAsBefore faults (unseated c.before) (unseated c.after)
    as_before = record {
      same = λ i. record (c.is.lacked.same i) { seat = None };
      brings = λ s brings.
          let back =
          c.is.brings s (record { worker = brings.worker; there = brings.there; state = brings.state }) in
          record { worker = back.worker; there = back.there; state = back.state };
      count = c.is.lacked.count;
    }

    needs_here : (s : ThreadState) (o : Op) → Brings (unseated c.before) s → s.op ≡ Some o → b.told ≡ true
        → NeedsFrom b (unseated c.before).values o need
    needs_here s o brings next tells =
        let saw : Saw h c.after.thread (view_of c.after).seen =
        all_at (λ (m : Mutator (Worker R)). Saw h m.thread (view_of m).seen) rs t c.after ended.history.saw c.now in
        let began : (view_of c.before).began ≡ b = c_began in
        let first : Begins b.history (view_of c.after).seen =
        subst (λ (g : List Entry). Begins g (view_of c.after).seen) before.seen c.is.lacked.sees.begins in
        let same : (view_of c.after).seen ≡ b.history =
        between_same b.history (view_of c.after).seen h first saw.begins same_history in
        needs_from b (view_of c.before) (view_of c.after) tells began before.seen same c.before.values o need
        (c.is.needs s o (record { worker = brings.worker; there = brings.there; state = brings.state }) next)
      where
        c_began : (view_of c.before).began ≡ b
        c_began =
            ap (λ (v : View). v.began) (seated_view words c.before before.seated) ∙ before.seated.idle.is_seat.began

    -- so the epoch came to this alone
    pub has_lacked : (image : R → Option (List ℕ)) → HasLacked image faults t need b ms qs heap h
    has_lacked image =
        let seat : Mutator (Worker R) → Mutator (Worker R) = unseated in
        let was_at : (k : ℕ) → slice_get ms k ≡ option_map seat (slice_get ns k) =
        λ k. ap (λ (xs : List (Mutator (Worker R))). slice_get xs k) (sym kept) ∙ slice_get-map seat ns k in
        let is_at : (k : ℕ) → slice_get qs k ≡ option_map seat (slice_get rs k) =
        λ k. ap (λ (xs : List (Mutator (Worker R))). slice_get xs k) left ∙ slice_get-map seat rs k in
        record {
          seats = rs;
          left = left;
          ended = ended;
          same_history = same_history;
          count = ap length left
              ∙ (length-map rs unseated ∙ (c.count ∙ (sym (length-map ns unseated) ∙ ap length kept)));
          others = λ k differ. is_at k ∙ (ap (option_map seat) (c.others k differ) ∙ sym (was_at k));
          small = c.is.lacked.spaced.small;
          past = is_past;
          none_won = none_won;
          here = λ m n at there.
              let was : unseated c.before ≡ m =
              let both : Some (unseated c.before) ≡ Some m = sym (was_at t ∙ ap (option_map seat) c.was) ∙ at in cc in
              let is : unseated c.after ≡ n =
              let both : Some (unseated c.after) ≡ Some n = sym (is_at t ∙ ap (option_map seat) c.now)
              ∙ there in cc in (
                subst (λ (x : Mutator (Worker R)). IsAsBefore faults x n) was
                    (subst (λ (x : Mutator (Worker R)). IsAsBefore faults (unseated c.before) x) is as_before),
                subst
                    (λ (x : Mutator (Worker R)). (s : ThreadState) (o : Op) → Brings x s → s.op ≡ Some o
                    → b.told ≡ true → NeedsFrom b x.values o need) was needs_here,
              );
        }
