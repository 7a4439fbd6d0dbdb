-- What is found of a heap is all that can be reached in it.
use Rattle.std.proofs.Common.{◌≡◌, ℕ, List, subst}
use Rattle.melt_scion.specs.State.{State}
use Rattle.melt_scion.specs.Heaps.{OnDisk, state_of}
use Rattle.melt_scion.specs.declared.registers.Registers.{Registers}
use Rattle.melt_scion.specs.declared.heap.Heap.{Heap}
use Rattle.melt_copy.specs.declared.forwarding.Forwarding.{Forwarding}
use Rattle.melt_copy.specs.declared.live.LiveSet.{LiveSet}
use Rattle.melt_copy.specs.Tracking.{goes, Tracks, TracksIn, TracksScions, FindsScions, Grows}
use Rattle.melt_copy.specs.Reaching.{FindsHeldAlone, FindsWords, FindsAll, IsLiveSet, ReachesLive}
use Rattle.melt_copy.proofs.Held.{still_known}
use Rattle.melt_copy.proofs.Sources.{IsClosed, reached_found}
use Rattle.melt_copy.proofs.Roots.{FindsRoots, since_globals, front_held, front_words, scions_found}
use Rattle.melt_copy.proofs.Roots.{roots_found, before_scions}

module _ (heap : Heap) (held : List Registers) (disk : OnDisk) (live : LiveSet) (second third last : Forwarding)
    (roots : FindsRoots heap (state_of heap held disk) live second third last)
    (globals : FindsWords (goes second) heap.globals) (tracks : Tracks heap.space (state_of heap held disk) last)
    (slots : FindsAll (state_of heap held disk) (goes last) last.moves.items) where
  nothing_left : IsClosed (state_of heap held disk) (goes last) last.moves.items live.held_count
  nothing_left = record {
    held = front_held heap held disk live second third last roots;
    globals = λ g address below refers.
        still_known second last address (since_globals heap held disk live second third last roots)
        (globals g address below refers);
    scions = scions_found heap held disk live second third last roots;
    slots = slots;
  }

  pub is_live_set : IsLiveSet (state_of heap held disk) (record live { forwarding = last })
  is_live_set = record {
    whole = tracks.whole;
    found = tracks.holds;
    all = reached_found (state_of heap held disk) (goes last) last.moves.items last.next live.held_count tracks.holds
        nothing_left;
    held = front_held heap held disk live second third last roots;
    held_words = front_words heap held disk live second third last roots;
  }

pub reaches : {old now : Heap} (held : List Registers) (same : old ≡ now) (live : LiveSet)
    (held_alone : FindsHeldAlone now held live) {words : List ℕ} (words_are : words ≡ old.globals) {second : Forwarding}
    (finds_globals : (s : State) → TracksIn old.space s live.forwarding words → Tracks old.space s second)
    {third last : Forwarding} → Grows live.forwarding second → FindsWords (goes second) words → Grows second third
    → FindsScions third old.scions
    → ((s : State) → TracksScions old.space s second old.scions → Tracks old.space s third) → Grows third last
    → ((s : State) → Tracks old.space s third → Tracks old.space s last)
    → ((s : State) → Tracks old.space s third → FindsAll s (goes last) last.moves.items)
    → ReachesLive now held (record live { forwarding = last })
reaches {old} {now} held same live held_alone {words} words_are {second} finds_globals {third} {last} grows globals
    grows_scions scions finds_scions grows_last finds_rest slots =
    subst (λ (heap : Heap). ReachesLive heap held (record live { forwarding = last })) same (λ maps disk formed.
    let moved = finds_scions (state_of old held disk)
    (before_scions old now held same live held_alone words words_are second finds_globals maps disk formed) in
    is_live_set old held disk live second third last
    (roots_found old now held same live held_alone second third last grows grows_scions scions grows_last maps disk
    formed)
    (subst (FindsWords (goes second)) words_are globals) (finds_rest (state_of old held disk) moved)
    (slots (state_of old held disk) moved))
