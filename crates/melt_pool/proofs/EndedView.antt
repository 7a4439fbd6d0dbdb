-- After an epoch: its heap stands for its history, with the registers of its mutators in order.
use Rattle.std.proofs.Common.{◌≡◌, ◌≢◌, ℕ, zero, suc, ◌+◌, ◌<◌, ◌≤◌, List, [], ◌∷◌, length, get_or, refl, sym, ◌∙◌, ap}
use Rattle.std.proofs.Common.{◌-◌, ◌++◌, min, take, subst, arith, inl, inr, true, false}
use Rattle.std.proofs.Math.ListN.{get_or-map, length-map}
use Rattle.std.proofs.Math.Path.{fun_ext}
use Rattle.std.proofs.lemmas.Bool.{cases_lt}
use Rattle.std.proofs.lemmas.List.{ext_get_or, get_or_past, length-replicate}
use Rattle.std.proofs.lemmas.List.Sums.{sum-map, sum_by-cons}
use Rattle.std.proofs.lemmas.Option.{same_Some, slice_get-map, slice_get_past, slice_get_within}
use Rattle.std.specs.Option.{is_some, option_and_then, option_map}
use Rattle.std.specs.Prelude.{◌^◌, Bool, map, replicate, Option, None, Some, IsSome, slice_get, slice_index}
use Rattle.melt_model.specs.Alive.{Held, words_of, CostsSum}
use Rattle.melt_model.specs.History.{Legal, given, made}
use Rattle.melt_model.specs.Thread.{value_in}
use Rattle.melt_model.specs.declared.history.Entry.{Entry}
use Rattle.melt_model.specs.declared.history.Value.TheVariants.{Nil, Ref}
use Rattle.melt_word.specs.Words.{cost_of, header_word}
use Rattle.melt_word.specs.declared.header.Header.{Header}
use Rattle.melt_word.specs.declared.header.Shape.{Shape}
use Rattle.melt_record.specs.declared.head.Kind.TheVariants.{Body, Stub}
use Rattle.melt_record.specs.declared.head.Head.{Head}
use Rattle.melt_record.proofs.Heads.{same_head}
use Rattle.melt_space.specs.Space.{SpaceWords, word_at}
use Rattle.melt_scion.specs.GhostMaps.{named}
use Rattle.melt_scion.specs.Heaps.{AreScionsFor, HasNames, OnDisk, Shows, no_homes_on, register_in, state_of}
use Rattle.melt_scion.specs.Placed.{HeadIs, Holds, HomeStands, Maps, MayHold, value_at}
use Rattle.melt_scion.specs.State.{HoldsAt, State}
use Rattle.melt_scion.specs.declared.heap.Heap.{Heap}
use Rattle.melt_scion.specs.declared.heap.Names as name_table
use Rattle.melt_scion.specs.declared.registers.Registers.{Registers}
use Rattle.melt_scion.proofs.Reaching.{held_address}
use Rattle.melt_scion.proofs.Starting.{sends_nothing}
use Rattle.melt_core.specs.Made.{HasMade, made_words}
use Rattle.melt_core.specs.StaleBits.{BitsTold, HasNoBit, Passed, Sight, sight}
use Rattle.melt_core.specs.Views.{Counts, InUse, IsQuiet, Standing, View, call_of, claimed, claimed_in, held_value}
use Rattle.melt_core.specs.Views.{held_values, maps, max_rest, registers_in, stage_in, state, value, values_of}
use Rattle.melt_core.proofs.Making.{hold_words}
use Rattle.melt_core.proofs.Resting.{holds_shifts}
use Rattle.melt_core.proofs.Values.{get_or_replicate, held_is, named_made, named_value, value_held}
use Rattle.melt_rule.specs.Shown.{base_at, globals_from, maps_at}
use Rattle.melt_rule.specs.Sights.{first_sight, last_sight}
use Rattle.melt_rule.specs.declared.began.Began.{Began}
use Rattle.melt_epoch.specs.Ends.{HasEnded, HoldsValues, disk_of, free_after}
use Rattle.melt_epoch.specs.declared.mutator.Mutator.{Mutator}
use Rattle.melt_safepoint.specs.Collections.{AllMarked, NoneForwarded}
use Rattle.melt_safepoint.specs.Shown.{Underlies}
use Rattle.melt_safepoint.proofs.Collecting.{values_now}
use Rattle.melt_pool.specs.Beginning.{first_image, start_of, words_told}
use Rattle.melt_pool.specs.Parts.{IsNameless, parts_view}
use Rattle.melt_pool.proofs.AtRest.{found_at, registers_of}
use Rattle.melt_pool.proofs.InUse.{TakesWords, grown, takes_words}
use Rattle.melt_core.proofs.Nameless.{is_none}
use Rattle.melt_pool.proofs.Names.{names_hold, names_of_heap}
use Rattle.melt_pool.proofs.Passing.{all_at}

-- the registers of mutators in order
abbrev pub registers_at : {R : Type 0} → List (Mutator R) → List Registers
registers_at {R} ms = map (λ (m : Mutator R). m.registers) ms

pub registers_past : (registers : List Registers) (t : ℕ) → length registers ≤ t → registers_in registers t ≡ []
registers_past registers t past =
    let none : Registers = record { regs = [] } in
    get_or-map (λ (x : Registers). x.regs) registers t none
    ∙ ap (λ (x : Registers). x.regs) (get_or_past registers t none past)

-- where no call is in flight, no region is owned
unclaimed : (n : ℕ) → claimed (replicate n None) ≡ 0
unclaimed zero = refl
unclaimed (suc n) =
    let here : claimed_in None ≡ 0 = refl in
    omega (
      arith,
      here,
      unclaimed n,
      sum-map claimed_in (replicate n None),
      sum-map claimed_in (None ∷ replicate n None),
      sum_by-cons claimed_in None (replicate n None),
    )

replicated : {A : Type 0} (n k : ℕ) (x d : A) → k < n → get_or (replicate n x) k d ≡ x
replicated zero k x d below = absurd (omega (arith, below))
replicated (suc n) zero x d below = refl
replicated (suc n) (suc k) x d below = replicated n k x d (omega (arith, below))

-- a word is one of the list
word_listed : (space : SpaceWords) (a : ℕ) → word_at (record { list = space.list; used = 0 }) a ≡ word_at space a
word_listed space zero = refl
word_listed space (suc a) = refl

-- the words that are told are shown
shows_told : (o words : Option (List ℕ)) → o ≡ words → Shows words (slice_index (words_told o))
shows_told o None same = tt
shows_told o (Some words) same = λ k. ap (λ (x : Option (List ℕ)). slice_index (words_told x) k) same

-- after the end of a history nothing was passed
none_passed : (h k : List Entry) (n : ℕ) → k ≡ h → Passed k (length h) n → ⊥
none_passed h k n same (inl used) =
    let past : length k ≤ used.place =
    let from : length h ≤ used.place = used.from in omega (arith, from, ap length same) in
    let none : slice_get k used.place ≡ None = slice_get_past k used.place past in
    let nothing : None ≡ Some (Ref n) =
    sym (ap (λ (o : Option Entry).
    option_and_then (given (take used.place k)) (option_map (λ (e : Entry). e.act) o)) none) ∙ used.gives in
    cc
none_passed h k n same (inr looked) =
    let below : looked.place < length k = slice_get_within k looked.place looked.entry looked.stands in
    let from : length h ≤ looked.moment = looked.from in
    let to : looked.moment ≤ looked.place = looked.to in
    omega (arith, below, from, to, ap length same)

module _ {R : Type 0} (image : R → Option (List ℕ)) (told : Bool) (heap new : Heap) (h k : List Entry) (finish : ℕ)
    (registers : List Registers) (ms seats : List (Mutator R)) where
  abbrev b : Began
  b = (start_of image told heap h finish ms).began

  abbrev v : View
  v = parts_view heap h registers

  abbrev w : View
  w = parts_view new k (registers_at seats)

  -- the words that are told are those of the disk under the epoch
  pub ended_under : (words : Option (List ℕ)) → first_image image ms ≡ words → (told ≡ true → IsSome words)
      → Underlies told finish words (disk_of b)
  ended_under words first some =
      record { ends = refl; tells = λ tells. (some tells, shows_told (first_image image ms) words first) }

  -- no call is in flight
  pub ended_quiet : IsQuiet w
  ended_quiet t = get_or_replicate (length (registers_at seats)) t None

  module _ (nameless : IsNameless heap) (ended : HasEnded b seats new k) where
    abbrev s : State
    s = state_of new [] (disk_of b)

    abbrev shown : State
    shown = state (disk_of b) w

    -- the heap is as large as before
    pub ended_words : length new.space.list ≡ length heap.space.list
    ended_words = ended.heap_ends.size

    pub ended_globals : length new.globals ≡ length heap.globals
    ended_globals = ended.heap_ends.globals

    pub ended_forwards : length new.forward ≡ length heap.forward
    ended_forwards = ended.heap_ends.forwards

    -- and keeps no names still
    pub ended_nameless : IsNameless new
    ended_nameless =
        let none : new.names ≡ None = ended.heap_ends.nameless in
        let names = subst (λ (o : Option name_table.Names). HasNames o new.maps ended.maps) none ended.has_maps in
        let words : length new.space.list ≡ length heap.space.list = ended_words in
        let globals : length new.globals ≡ length heap.globals = ended_globals in
        let forwards : length new.forward ≡ length heap.forward = ended_forwards in
        record {
          nameless = ap is_some none;
          within = λ a n is.
              let object = ended.holds.formed.objects a n (names.0 a ∙ is) in
              let last : a + cost_of object.0.shape ≤ length new.space.list + 1 = object.1.within in
              (object.1.first, omega (arith, last));
          some_forward = subst (λ (n : ℕ). 1 ≤ n) (sym forwards) nameless.some_forward;
          few_globals = subst (λ (n : ℕ). n ≤ 255) (sym globals) nameless.few_globals;
          few_words =
              let few : globals_from + length heap.globals + length heap.forward + length heap.space.list ≤ 2 ^ 32 =
              nameless.few_words in
              omega (arith, few, words, globals, forwards);
        }

    -- what the view shows are the maps at the end, and those at the beginning
    pub ended_maps : maps w ≡ ended.maps
    ended_maps = names_of_heap new ended.maps ended_nameless ended.has_maps

    begun_maps : maps v ≡ maps_at b
    begun_maps =
        let none : heap.names ≡ None = is_none heap.names nameless.nameless in
        names_of_heap heap (maps_at b) nameless
        (subst (λ (o : Option name_table.Names). HasNames o heap.maps (maps_at b)) (sym none)
        (λ a. refl, λ home. refl))

    -- and so to what the stale bit is tied: nothing else of it is in names
    begun_sight : sight v ≡ first_sight b
    begun_sight = λ i. record {
      log = h;
      maps = begun_maps i;
      word = fun_ext (λ a. sym (word_listed heap.space a)) i;
      stage = fun_ext (λ t. ap stage_in (get_or_replicate (length registers) t None)) i;
    }

    ended_sight : sight w ≡ last_sight k ended.maps s
    ended_sight = λ i. record {
      log = k;
      maps = ended_maps i;
      word = word_at new.space;
      stage = fun_ext (λ t. ap stage_in (ended_quiet t)) i;
    }

    -- what became of the stale bits
    pub ended_bits : told ≡ true → BitsTold (sight v) (sight w)
    ended_bits tells =
        subst (λ (x : Sight). BitsTold x (sight w)) (sym begun_sight)
        (subst (BitsTold (first_sight b)) (sym ended_sight) (ended.bits tells))

    -- what was in use is
    pub stays_in_use : (n : ℕ) → InUse (maps v) n → InUse ended.maps n
    stays_in_use n is =
        (is.0, ended.named.begun is.0 n (ap (λ (m : Maps). m.address is.0) (sym begun_maps) ∙ is.1))

    -- the registers of a thread
    pub ended_registers : (t : ℕ) (m : Mutator R) → slice_get seats t ≡ Some m
        → registers_in (registers_at seats) t ≡ m.registers.regs
    ended_registers t m at =
        registers_of (registers_at seats) t m.registers
        (slice_get-map (λ (x : Mutator R). x.registers) seats t
        ∙ ap (option_map (λ (x : Mutator R). x.registers)) at)

    values_at : (t : ℕ) (m : Mutator R) → slice_get seats t ≡ Some m → HoldsValues ended.maps s m
    values_at t m at = all_at (HoldsValues ended.maps s) seats t m ended.registers at

    -- registers may hold what they hold
    may_hold : (t r : ℕ) → MayHold (maps w) shown (register_in (registers_at seats) t r)
    may_hold t r = elim (cases_lt t (length seats)) [
      | inl below ↦
          let m = found_at seats t below in
          subst (λ (regs : List ℕ). MayHold (maps w) shown (slice_index regs r)) (sym (ended_registers t m.0 m.1))
          (subst (λ (x : Maps). MayHold x shown (slice_index m.0.registers.regs r)) (sym ended_maps)
          (hold_words ended.maps s shown (slice_index m.0.registers.regs r) (λ a. refl)
          ((values_at t m.0 m.1).hold r)))
      | inr past ↦
          let size : length (registers_at seats) ≡ length seats =
          length-map seats (λ (x : Mutator R). x.registers) in
          inl (ap (λ (regs : List ℕ). slice_index regs r)
          (registers_past (registers_at seats) t (omega (arith, past, size))))
    ]

    -- the values of a thread are those that its mutator has
    pub ended_values : (t : ℕ) (m : Mutator R) → slice_get seats t ≡ Some m → length m.registers.regs ≡ 16
        → length m.values ≡ 16 → values_of w t ≡ m.values
    ended_values t m at some_registers some_values =
        ap (held_values w.names) (ended_registers t m at)
        ∙ ext_get_or Nil (held_values w.names m.registers.regs) m.values
        (length-map m.registers.regs (held_value w.names) ∙ (some_registers ∙ sym some_values))
        (λ r below.
        value_held w.names m.registers.regs r
        ∙ held_is w.names (get_or m.registers.regs r 0) (value_in m.values r)
        (ap (λ (x : Maps). value_at x (get_or m.registers.regs r 0)) ended_maps ∙ (values_at t m at).stand r))

    -- the words of what is in use, where the epoch is told
    takes : told ≡ true → TakesWords k ended.maps s
    takes tells = takes_words k ended.maps s ended.holds.formed (ended.holds.tells tells) (omega arith)

    in_use_sum : (tells : told ≡ true) → CostsSum (words_of k) (InUse (maps w)) (takes tells).total
    in_use_sum tells =
        subst (λ (x : Maps). CostsSum (words_of k) (InUse x) (takes tells).total) (sym ended_maps)
        (takes tells).adds_up

    counts_after : told ≡ true → Counts w
    counts_after tells =
        let none : claimed w.calls ≡ 0 = unclaimed (length (registers_at seats)) in
        let below : (takes tells).total + 1 ≤ new.space.used + 1 = (takes tells).below in
        let within : (takes tells).total ≤ length new.space.list = (takes tells).within in
        record {
          in_use = (takes tells).total;
          adds_up = in_use_sum tells;
          below = omega (arith, none, below);
          within = omega (arith, none, within);
        }

    module _ (disk : OnDisk) (stands : Standing told disk (parts_view heap h registers)) where
      -- The heap stands for the history, over the disk under the epoch.
      pub ended_stands : length seats ≤ 8 → Standing told (disk_of b) w
      ended_stands few =
          let holds : Holds told k ended.maps shown =
          holds_shifts told k ended.maps s shown
          (record { base = refl; is = refl; word = λ a. refl; global = λ g. refl; forward = λ p. refl })
          (λ end below within. below) ended.holds in
          let size : length (registers_at seats) ≡ length seats =
          length-map seats (λ (x : Mutator R). x.registers) in
          let used : new.space.used ≡ min (free_after b seats - 1) (length heap.space.list) =
          ended.heap_ends.used in
          let words : length new.space.list ≡ length heap.space.list = ended_words in
          let names = names_hold new ended_nameless in
          record {
            named = names.named;
            room = names.room;
            scions_made = subst (λ (n : ℕ). AreScionsFor n new.scions) (sym words)
                (subst (AreScionsFor (length heap.space.list)) (sym ended.heap_ends.scions) stands.scions_made);
            few = omega (arith, few, size);
            each = length-replicate (length (registers_at seats)) None;
            buffers = length-replicate (length (registers_at seats)) (replicate max_rest 0);
            rests = λ t below.
                ap length (replicated (length (registers_at seats)) t (replicate max_rest 0) [] below)
                ∙ length-replicate {A = ℕ} max_rest 0;
            counted = refl;
            first = omega arith;
            bounded = inl (omega (arith, used, words));
            holds = subst (λ (x : Maps). Holds told k x shown) (sym ended_maps) holds;
            legal = λ tells. subst (Legal k) (sym ended_globals) (ended.history.legal tells);
            registers = may_hold;
            known = λ t c call. let quiet : call_of w t ≡ None = ended_quiet t in absurd (cc);
            fits = λ t c call. let quiet : call_of w t ≡ None = ended_quiet t in absurd (cc);
            apart = λ t u c d other call at. let quiet : call_of w t ≡ None = ended_quiet t in absurd (cc);
            counts = counts_after;
          }

      -- whatever words were made are those of objects in use, but for as many as before
      pub ended_made : told ≡ true → (past : ℕ) → HasMade past v → HasMade past w
      ended_made tells past had =
          let since = ended.history.since in
          let total : ℕ = (takes tells).total in
          let all : CostsSum (words_of (h ++ since.0)) (InUse ended.maps) total =
          subst (λ (x : List Entry). CostsSum (words_of x) (InUse ended.maps) total) (sym since.1)
          (takes tells).adds_up in
          let more : made_words (h ++ since.0) + had.in_use ≤ made_words h + total =
          grown h since.0 (InUse (maps v)) (InUse ended.maps) had.in_use total had.adds_up all stays_in_use
          (λ n is. named_made h (maps v) (state disk v) is.0 n stands.holds.formed (stands.holds.tells tells) is.1)
          (λ n from below. ended.stay tells n from (subst (λ (x : List Entry). n < made x) since.1 below)) in
          let same : made_words (h ++ since.0) ≡ made_words k = ap made_words since.1 in
          let within : made_words h ≤ past + had.in_use = had.within in
          record { in_use = total; adds_up = in_use_sum tells; within = omega (arith, more, same, within) }

      -- a register that holds an object has its address
      held_at : told ≡ true → length seats ≤ 8 → (a n : ℕ) → ended.maps.address a ≡ Some n → Held (value w) n
          → HoldsAt (state no_homes_on w) a
      held_at tells few a n at now =
          let address : ℕ = register_in (registers_at seats) now.thread now.register in
          let found = held_address (maps w) n address (value w now.thread now.register)
          (values_now told (disk_of b) w (ended_stands few) now.thread now.register) now.holds in
          let there : ended.maps.address address ≡ Some n =
          ap (λ (m : Maps). m.address address) (sym ended_maps) ∙ found.1 in
          record {
            thread = now.thread;
            register = now.register;
            holds = (ended.holds.tells tells).one_address address a n there at;
          }

      -- an object that had no stale bit when the epoch began was held
      was_held : (n : ℕ) → HasNoBit (first_sight b) n → AllMarked v → (Held (value v) n → ⊥) → ⊥
      was_held n old marked unheld =
          let first : Header = record { shape = old.shape; stale = false } in
          let there : (maps v).address old.address ≡ Some n =
          ap (λ (m : Maps). m.address old.address) begun_maps ∙ old.named in
          let word : word_at heap.space old.address ≡ header_word first =
          sym (word_listed heap.space old.address) ∙ old.word in
          let named_so : value_at (maps v) old.address ≡ Some (Ref n) = named_value v.names old.address n there in
          let no : false ≡ true =
          marked old.address first (n, there) (record { in_range = old.small; word = word }) (λ holds.
          let t : ℕ = holds.thread in
          let r : ℕ = holds.register in
          let stood : value_at (maps v) old.address ≡ Some (value v t r) =
          ap (value_at (maps v)) (sym holds.holds) ∙ values_now told disk v stands t r in
          let is : value v t r ≡ Ref n = same_Some (value v t r) (Ref n) (sym stood ∙ named_so) in
          unheld (record { thread = t; register = r; holds = is })) in
          cc

      -- Where nothing was done in the epoch, each object that no register holds has the stale bit still, if what
      -- registers held is held.
      pub ended_marked : told ≡ true → length seats ≤ 8 → k ≡ h
          → ((n : ℕ) → Held (value v) n → Held (value w) n) → AllMarked v → AllMarked w
      ended_marked tells few same holding marked a header is starts unheld = by_bit header.stale refl
        where
          at : ended.maps.address a ≡ Some is.0
          at = ap (λ (m : Maps). m.address a) (sym ended_maps) ∙ is.1

          -- an object that had no bit at the beginning was held, and is
          held_still : HasNoBit (first_sight b) is.0 → ⊥
          held_still old =
              was_held is.0 old marked
              (λ held. unheld (held_at tells few a is.0 at (holding is.0 held)))

          by_bit : (bit : Bool) → header.stale ≡ bit → header.stale ≡ true
          by_bit true stale = stale
          by_bit false stale =
              let clear : HasNoBit (last_sight k ended.maps s) is.0 = record {
                address = a;
                named = at;
                shape = header.shape;
                small = starts.in_range;
                word = starts.word
                    ∙ ap (λ (x : Bool). header_word (record { shape = header.shape; stale = x })) stale;
              } in
              absurd (elim ((ended.bits tells).since is.0 clear) [
                | inl old ↦ held_still old
                | inr passed ↦ none_passed h k is.0 same passed
              ])

    -- Where no forwarding word is filled, an object whose home had its Body has no address.
    pub ended_body : told ≡ true → NoneForwarded w → (home n : ℕ) (z : Shape) → named heap.maps.homes home ≡ Some n
        → HeadIs (base_at b) home (record { shape = z; kind = Body }) → (a : ℕ) → (maps w).address a ≢ Some n
    ended_body tells none home n z homed head a there =
        let stands : HomeStands k ended.maps s home n =
        (ended.holds.tells tells).homes home n (ended.named.homes home ∙ homed) in
        elim stands.is [
          | inl body ↦ body.nowhere a (ap (λ (m : Maps). m.address a) (sym ended_maps) ∙ there)
          | inr other ↦ elim other [
            | inl stub ↦
                let one = same_head head stub.head in
                let kinds : Body ≡ Stub stub.scion = ap (λ (x : Head). x.kind) one.1 in
                cc
            | inr sent ↦
                sends_nothing (s.forward sent.forwards.place) home sent.address (none sent.forwards.place)
                sent.forwards.sends
          ]
        ]

    module _ (disk : OnDisk) (stands : Standing told disk (parts_view heap h registers)) where
      -- so no register holds it
      pub ended_unheld : told ≡ true → length seats ≤ 8 → NoneForwarded w → (home n : ℕ) (z : Shape)
          → named heap.maps.homes home ≡ Some n → HeadIs (base_at b) home (record { shape = z; kind = Body })
          → Held (value w) n → ⊥
      ended_unheld tells few none home n z homed head held =
          let address : ℕ = register_in (registers_at seats) held.thread held.register in
          let found = held_address (maps w) n address (value w held.thread held.register)
          (values_now told (disk_of b) w (ended_stands disk stands few) held.thread held.register) held.holds in
          ended_body tells none home n z homed head address found.1
