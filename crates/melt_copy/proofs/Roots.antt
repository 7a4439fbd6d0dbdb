-- What registers, globals and live scions of a heap name is found first, in this order.
use Rattle.std.proofs.Common.{◌≡◌, ◌≢◌, ℕ, ◌+◌, ◌-◌, ◌/◌, List, [], length, take, replicate, refl, sym, subst, ap, ◌∙◌}
use Rattle.std.proofs.Common.{arith, inl, inr}
use Rattle.std.specs.Prelude.{Option, None, Some, slice_get}
use Rattle.std.proofs.lemmas.List.{length-replicate, take_all}
use Rattle.std.proofs.lemmas.Option.{same_Some, slice_get_within}
use Rattle.melt_space.specs.Space.{IsSpace}
use Rattle.std.specs.Option.{option_map}
use Rattle.melt_scion.specs.State.{Scion, State}
use Rattle.melt_scion.specs.State.Reached.{in_register, in_global, at_scion}
use Rattle.melt_scion.specs.Scions.{scion_at}
use Rattle.melt_scion.specs.Placed.{Maps, Formed}
use Rattle.melt_scion.specs.Heaps.{OnDisk, register_in, scion_in, state_of, IsFormed}
use Rattle.melt_scion.specs.declared.registers.Registers.{Registers}
use Rattle.melt_scion.specs.declared.heap.Heap.{Heap}
use Rattle.melt_copy.specs.declared.forwarding.Relocation.{Relocation}
use Rattle.melt_copy.specs.declared.forwarding.Forwarding.{Forwarding}
use Rattle.melt_copy.specs.declared.live.LiveSet.{LiveSet}
use Rattle.melt_copy.specs.Moving.{IsWhole, Relocates, AreHeld, words_in}
use Rattle.melt_copy.specs.Tracking.{goes, Tracks, TracksIn, TracksThreads, TracksScions, FindsThreads, FindsScions}
use Rattle.melt_copy.specs.Tracking.{Grows, looked_up}
use Rattle.melt_copy.specs.Reaching.{IsHeldAlone, FindsHeldAlone}
use Rattle.melt_copy.proofs.Entries.{nothing_looked_up}
use Rattle.melt_copy.proofs.Whole.{formed_whole}
use Rattle.melt_copy.proofs.Growth.{Grows-more, stays_there}
use Rattle.melt_copy.proofs.Held.{still_known}
use Rattle.melt_copy.proofs.Queue.{was_there, words_in-stay}

pub whole_heap : (maps : Maps) (heap : Heap) (held : List Registers) (disk : OnDisk) → IsSpace heap.space
    → Formed maps (state_of heap held disk) → IsWhole (state_of heap held disk)
whole_heap maps heap held disk space formed =
    formed_whole maps (state_of heap held disk) (omega (arith, space.used)) formed

-- of a list without moves none is there
pub none_there : (ms : List Relocation) (k : ℕ) (m : Relocation) → ms ≡ [] → slice_get ms k ≡ Some m → ⊥
none_there ms k m empty at = let below = slice_get_within ms k m at in let nought =
    ap length empty in omega (arith, below, nought)

pub no_moves : (s : State) (forwarding : Forwarding) (used : ℕ) → forwarding.entries.items ≡ replicate (used / 2 + 1) 0
    → forwarding.moves.items ≡ [] → forwarding.next ≡ 1
    → Relocates s (goes forwarding) forwarding.moves.items forwarding.next
no_moves s forwarding used forward moves next = record {
  whole = λ k m at. absurd (none_there forwarding.moves.items k m moves at);
  found = λ k m at. absurd (none_there forwarding.moves.items k m moves at);
  only = λ a known.
      absurd (known (ap (λ (es : List ℕ). looked_up es a) forward ∙ nothing_looked_up (used / 2 + 1) a));
  places = λ k m at. absurd (none_there forwarding.moves.items k m moves at);
  after = next ∙ ap (λ (ms : List Relocation). 1 + words_in ms) (sym moves);
}

-- before the first object is found
pub tracks_start : (heap : Heap) (held : List Registers) (disk : OnDisk) (forwarding : Forwarding) (used : ℕ)
    → IsWhole (state_of heap held disk) → used ≡ heap.space.used → forwarding.entries.items ≡ replicate (used / 2 + 1) 0
    → forwarding.moves.items ≡ [] → forwarding.next ≡ 1
    → TracksThreads heap.space (state_of heap held disk) forwarding held
tracks_start heap held disk forwarding used whole same forward moves next = record {
  tracks = record {
    whole = whole;
    word = λ k. refl;
    size = refl;
    free = refl;
    holds = no_moves (state_of heap held disk) forwarding used forward moves next;
    table = ap length forward ∙ (length-replicate (used / 2 + 1) 0 ∙ ap (λ (n : ℕ). n / 2 + 1) same);
  };
  reached = λ t r full. in_register t r (register_in held t r) refl (omega (arith, full));
}

-- What is known of the heap at the start, and of a forwarding that has found nothing.
pub record Begins (heap : Heap) (start : Forwarding) (used : ℕ) : Type 0 where
  pub space : IsSpace heap.space
  pub used_is : used ≡ heap.space.used
  pub entries : start.entries.items ≡ replicate (used / 2 + 1) 0
  pub moves : start.moves.items ≡ []
  pub next : start.next ≡ 1

module _ (heap : Heap) (held : List Registers) (start : Forwarding) (used : ℕ) (begins : Begins heap start used) where
  tracks_begun : (maps : Maps) (disk : OnDisk) → Formed maps (state_of heap held disk)
      → TracksThreads heap.space (state_of heap held disk) start held
  tracks_begun maps disk formed =
      tracks_start heap held disk start used (whole_heap maps heap held disk begins.space formed) begins.used_is
      begins.entries begins.moves begins.next

  -- a state that the heap shows, in which the objects in registers can be found
  pub may_find_held : IsFormed heap held → (s : State) × TracksThreads heap.space s start held
  may_find_held formed = (state_of heap held formed.disk, tracks_begun formed.maps formed.disk formed.formed)

  -- those in registers were found
  pub finds_front : (first : Forwarding)
      → ((s : State) → TracksThreads heap.space s start held → Tracks heap.space s first)
      → FindsThreads start first held → (held_count words : ℕ) → held_count ≡ length first.moves.items
      → words ≡ first.next - 1
      → FindsHeldAlone heap held (record { forwarding = first; held_count = held_count; held_words = words })
  finds_front first finds found held_count words front_is words_are maps disk formed =
      let tracks = finds (state_of heap held disk) (tracks_begun maps disk formed) in
      record {
        tracks = tracks;
        held = record {
          each = λ k m at under. elim (found.each k m at) [
            | inl before ↦ absurd (none_there start.moves.items k m begins.moves before)
            | inr held ↦ held
          ];
          all = λ t r full.
              let move = tracks.holds.only (register_in held t r) (found.all t r full) in
              let within = slice_get_within first.moves.items move.0 move.1 move.2 in
              (move.0, move.1, move.2, omega (arith, within, front_is), move.3);
        };
        held_count = front_is;
        held_words = let after = tracks.holds.after in omega (arith, words_are, after);
      }

-- the globals are words of references
pub tracks_globals : (heap : Heap) (held : List Registers) (disk : OnDisk) (forwarding : Forwarding) (words : List ℕ)
    → words ≡ heap.globals → Tracks heap.space (state_of heap held disk) forwarding
    → TracksIn heap.space (state_of heap held disk) forwarding words
tracks_globals heap held disk forwarding words same tracks =
    subst (TracksIn heap.space (state_of heap held disk) forwarding) (sym same) (record {
      tracks = tracks;
      references = λ g below. tracks.whole.globals g below;
      reached = λ g at below refers. in_global g at below refers;
    })

-- the pair of a scion in the table
pub scion_of : (o : Option (ℕ × ℕ)) (x : Scion)
    → option_map (λ (pair : ℕ × ℕ). record { home = pair.0; address = pair.1 }) o ≡ Some x
    → (pair : ℕ × ℕ) × (o ≡ Some pair) × (pair.1 ≡ x.address)
scion_of None x is = absurd (cc)
scion_of (Some pair) x is = (pair, refl, ap (λ (y : Scion). y.address) (same_Some _ x is))

-- the objects of live scions are reached
pub tracks_scions : (heap : Heap) (held : List Registers) (disk : OnDisk) (forwarding : Forwarding)
    → Tracks heap.space (state_of heap held disk) forwarding
    → TracksScions heap.space (state_of heap held disk) forwarding heap.scions
tracks_scions heap held disk forwarding tracks = record {
  tracks = tracks;
  reached = λ k pair at. at_scion k (record { home = pair.0; address = pair.1 })
      (ap (option_map (λ (p : ℕ × ℕ). record { home = p.0; address = p.1 })) at);
}

-- objects that were found meanwhile are after those in registers
AreHeld-more : (s : State) (a b : Forwarding) (held_count : ℕ) → Grows a b → held_count ≡ length a.moves.items
    → AreHeld s a.moves.items held_count → AreHeld s b.moves.items held_count
AreHeld-more s a b held_count grows front_is held = record {
  each = λ k m at under. held.each k m (was_there a b k m grows (omega (arith, under, front_is)) at) under;
  all = λ t r full.
      let move = held.all t r full in
      (move.0, move.1, stays_there a b move.0 move.1 grows move.2, move.3, move.4);
}

-- The objects in registers were found, then what globals refer to, then the objects of live scions, and then others.
pub record FindsRoots (heap : Heap) (s : State) (live : LiveSet) (second third last : Forwarding) : Type 0 where
  pub held_alone : IsHeldAlone heap.space s live
  pub globals_grow : Grows live.forwarding second
  pub scions_grow : Grows second third
  pub scions : FindsScions third heap.scions
  pub rest_grows : Grows third last

module _ (heap : Heap) (held : List Registers) (disk : OnDisk) (live : LiveSet) (second third last : Forwarding)
    (roots : FindsRoots heap (state_of heap held disk) live second third last) where
  pub since_globals : Grows second last
  since_globals = Grows-more second third last roots.scions_grow roots.rest_grows

  since_front : Grows live.forwarding last
  since_front = Grows-more live.forwarding second last roots.globals_grow since_globals

  -- the objects in registers are the first
  pub front_held : AreHeld (state_of heap held disk) last.moves.items live.held_count
  front_held = AreHeld-more (state_of heap held disk) live.forwarding last live.held_count since_front
      roots.held_alone.held_count
      roots.held_alone.held

  -- the words that were counted are theirs
  pub front_words : live.held_words ≡ words_in (take live.held_count last.moves.items)
  front_words =
      let front_is = roots.held_alone.held_count in
      let whole : take live.held_count live.forwarding.moves.items ≡ live.forwarding.moves.items =
      take_all live.held_count live.forwarding.moves.items (omega (arith, front_is)) in
      roots.held_alone.held_words ∙ (sym (ap words_in whole)
      ∙ sym (words_in-stay live.forwarding last live.held_count since_front (omega (arith, front_is))))

  pub scions_found : (k : ℕ) (x : Scion) → scion_in heap.scions k ≡ Some x → goes last x.address ≢ 0
  scions_found k x live =
      let at = scion_of (scion_at heap.scions k) x live in
      still_known third last x.address roots.rest_grows
      (subst (λ (address : ℕ). goes third address ≢ 0) at.2 (roots.scions k at.0 at.1))

module _ (old now : Heap) (held : List Registers) (same : old ≡ now) (live : LiveSet)
    (held_alone : FindsHeldAlone now held live) where
  front_of : FindsHeldAlone old held live
  front_of = subst (λ (heap : Heap). FindsHeldAlone heap held live) (sym same) held_alone

  formed_before : IsFormed now held → IsFormed old held
  formed_before formed = subst (λ (heap : Heap). IsFormed heap held) (sym same) formed

  -- when all were found
  pub roots_found : (second third last : Forwarding) → Grows live.forwarding second → Grows second third
      → FindsScions third old.scions → Grows third last → (maps : Maps) (disk : OnDisk)
      → Formed maps (state_of old held disk) → FindsRoots old (state_of old held disk) live second third last
  roots_found second third last globals_grow scions_grow scions rest_grows maps disk formed = record {
    held_alone = front_of maps disk formed;
    globals_grow = globals_grow;
    scions_grow = scions_grow;
    scions = scions;
    rest_grows = rest_grows;
  }

  module _ (words : List ℕ) (words_are : words ≡ old.globals) where
    before_globals : (maps : Maps) (disk : OnDisk) → Formed maps (state_of old held disk)
        → TracksIn old.space (state_of old held disk) live.forwarding words
    before_globals maps disk formed =
        tracks_globals old held disk live.forwarding words words_are (front_of maps disk formed).tracks

    -- a state that the heap shows, in which those in globals can be found
    pub may_find_globals : IsFormed now held → (s : State) × TracksIn old.space s live.forwarding words
    may_find_globals formed =
        let before = formed_before formed in
        (state_of old held before.disk, before_globals before.maps before.disk before.formed)

    module _ (second : Forwarding)
        (finds : (s : State) → TracksIn old.space s live.forwarding words → Tracks old.space s second) where
      pub before_scions : (maps : Maps) (disk : OnDisk) → Formed maps (state_of old held disk)
          → TracksScions old.space (state_of old held disk) second old.scions
      before_scions maps disk formed =
          tracks_scions old held disk second (finds (state_of old held disk) (before_globals maps disk formed))

      -- and those of live scions
      pub may_find_scions : IsFormed now held → (s : State) × TracksScions old.space s second old.scions
      may_find_scions formed =
          let before = formed_before formed in
          (state_of old held before.disk, before_scions before.maps before.disk before.formed)
