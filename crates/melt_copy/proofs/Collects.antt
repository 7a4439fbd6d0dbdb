-- What was copied and put back is a collection.
use Rattle.std.proofs.Common.{◌≡◌, ℕ, ◌+◌, ◌<◌, ◌≤◌, zero, suc, List, [], ◌∷◌, length, take, refl, sym, subst, ap}
use Rattle.std.proofs.Common.{◌∙◌, arith}
use Rattle.std.specs.Option.{option_map}
use Rattle.std.specs.Prelude.{Bool, Option, None, Some, slice_get, slice_index, if◌then◌else◌, ◌==◌}
use Rattle.melt_model.specs.declared.reports.Journal.{Journal}
use Rattle.melt_model.specs.declared.reports.Phase.{Phase}
use Rattle.melt_word.specs.Words.{cost_of}
use Rattle.melt_space.specs.Space.{SpaceWords, word_at}
use Rattle.melt_scion.specs.State.{State}
use Rattle.melt_scion.specs.Placed.{Maps, IsNamed, Formed}
use Rattle.melt_scion.specs.Collected.{CountsWords, HeldAt}
use Rattle.melt_scion.specs.Names.{name_at}
use Rattle.melt_scion.specs.HomeNames.{NamedHomes, home_name}
use Rattle.melt_scion.specs.GhostMaps.{NamePairs, named}
use Rattle.melt_scion.specs.Scions.{scion_at}
use Rattle.melt_scion.specs.Heaps.{OnDisk, state_of, HasNames, KeepsNames, NamesMade, IsSettled}
use Rattle.melt_scion.specs.declared.registers.Registers.{Registers}
use Rattle.melt_scion.specs.declared.heap.Names.{Names}
use Rattle.melt_scion.specs.declared.heap.Heap.{Heap}
use Rattle.melt_copy.specs.declared.forwarding.Relocation.{Relocation}
use Rattle.melt_copy.specs.Moving.{Relocates, IsCopy, ObjectMoves, WordMoves, moved_scion, words_in, name_after}
use Rattle.melt_copy.specs.Moving.{maps_after}
use Rattle.melt_copy.specs.Tracking.{moved_pair, word_numbered}
use Rattle.melt_copy.specs.Evacuating.{place_of}
use Rattle.melt_copy.proofs.Pairs.{pairs_after}
use Rattle.melt_copy.specs.Copied.{NumbersAre, Copied, IsCopied, CopiesHeap, PlacesApart, MayRename, AreRenamed}
use Rattle.melt_copy.specs.Copied.{StandIn, IsPutBack}
use Rattle.melt_copy.specs.Copying.{IsCopying, Journals, Collects}
use Rattle.melt_scion.proofs.NobodyLeaves.{old_home, old_scion}
use Rattle.melt_copy.proofs.Places.{place_below, same_place}
use Rattle.melt_copy.proofs.Moved.{copy_carries, copy_collects}
use Rattle.melt_copy.proofs.Counted.{live_words, held_words}

none_of : (o : Option ℕ) → ((n : ℕ) → o ≡ Some n → ⊥) → o ≡ None
none_of None none = refl
none_of (Some n) none = absurd (none n refl)

-- no object stands after the words in use
pub none_after : (maps : Maps) (s : State) (k : ℕ) → Formed maps s → s.free ≤ k → maps.address k ≡ None
none_after maps s k formed above =
    none_of (maps.address k) (λ n named. let object = formed.words.objects k n named in
    let below : k + cost_of object.0.shape ≤ s.free = object.1.below in omega (arith, below, above))

pub can_rename : {used : ℕ} (size : ℕ) (pairs : NamePairs) (maps : Maps) (names : Option Names)
    (moves : List Relocation) (numbers : List (Option ℕ)) → HasNames names pairs maps → NamesMade size names
    → NumbersAre names moves numbers → used ≤ size → ((k : ℕ) → used < k → maps.address k ≡ None)
    → ((k : ℕ) (m : Relocation) → slice_get moves k ≡ Some m → (1 ≤ m.to) × (m.to ≤ used)) → PlacesApart moves
    → MayRename used names moves numbers
can_rename size pairs maps None moves numbers has made are fits later places apart = apart
can_rename size pairs maps (Some names) moves numbers has made are fits later places apart = record {
  room = omega (arith, made, fits);
  after = λ k above. sym (has.0 k) ∙ later k above;
  numbers_are = are;
  places = places;
  apart = apart;
}

-- each move has a place of its own
moves_apart : {phase : Phase} (s : State) (copied : Copied) → IsCopied phase s copied → PlacesApart copied.moves
moves_apart s copied is i j m n here there same = (same_place i j is.holds here there same).0

-- a name stands where it moved
name_after_same : (a b : ℕ → Option ℕ) (moves : List Relocation) (k : ℕ) → ((k : ℕ) → a k ≡ b k)
    → name_after a moves k ≡ name_after b moves k
name_after_same a b [] k same = refl
name_after_same a b (m ∷ moves) k same =
    ap (λ (o : Option ℕ). if m.to == k then o else name_after a moves k) (same m.from)
    ∙ ap (λ (o : Option ℕ). if m.to == k then b m.from else o) (name_after_same a b moves k same)

pub has_names : (maps : Maps) (old new : Option Names) (pairs pairs_then : NamePairs) (moves : List Relocation)
    → PlacesApart moves → HasNames old pairs maps → AreRenamed old pairs new pairs_then moves
    → HasNames new pairs_then (maps_after maps moves)
has_names maps None None pairs pairs_then moves apart has renamed = (
  λ k.
      name_after_same maps.address (named pairs.addresses) moves k has.0
      ∙ (sym (pairs_after pairs.addresses moves k apart)
      ∙ ap (λ (p : NamePairs). named p.addresses k) (sym renamed)),
  λ k. has.1 k ∙ ap (λ (p : NamePairs). named p.homes k) (sym renamed),
)
has_names maps (Some old) (Some new) pairs pairs_then moves apart has renamed = (
  λ k. name_after_same maps.address (name_at old.addresses) moves k has.0 ∙ sym (renamed.0 k),
  λ k. has.1 k ∙ ap (λ (homes : NamedHomes). home_name homes k) (sym renamed.2),
)
has_names maps None (Some new) pairs pairs_then moves apart has renamed = absurd renamed
has_names maps (Some old) None pairs pairs_then moves apart has renamed = absurd renamed

names_stay : (old new : Option Names) (pairs pairs_then : NamePairs) (moves : List Relocation)
    → AreRenamed old pairs new pairs_then moves → KeepsNames old new
names_stay None None pairs pairs_then moves renamed = tt
names_stay (Some old) (Some new) pairs pairs_then moves renamed = renamed.1
names_stay None (Some new) pairs pairs_then moves renamed = absurd renamed
names_stay (Some old) None pairs pairs_then moves renamed = absurd renamed

-- an object in other words that are the same where it stands
pub other_words : {phase : Phase} {bit : Bool} (f : ℕ → ℕ) (s : State) (v w : ℕ → ℕ) (m : Relocation)
    → ((k : ℕ) → m.to ≤ k → k < m.to + cost_of m.shape → w k ≡ v k) → ObjectMoves phase bit f s v m
    → ObjectMoves phase bit f s w m
other_words {phase} f s v w m same object = record {
  header = λ header starts. same m.to (omega arith) (omega arith) ∙ object.header header starts;
  home = same (m.to + 1) (omega arith) (omega arith) ∙ object.home;
  slots = λ i below. subst (WordMoves phase f (s.word (m.from + 2 + i)))
      (sym (same (m.to + 2 + i) (omega arith) (omega (arith, below)))) (object.slots i below);
  numbers = λ j below. same (m.to + 2 + m.shape.refs + j) (omega arith) (omega (arith, below)) ∙ object.numbers j below;
}

replaced_word : (old new : SpaceWords) (words : List ℕ) (k : ℕ) → StandIn old new words → 1 ≤ k → k ≤ length words
    → word_at new k ≡ word_numbered words k
replaced_word old new words zero replaces first last = absurd (omega (arith, first))
replaced_word old new words (suc k) replaces first last = replaces.front k (omega (arith, last))

scion_moves : (f : ℕ → ℕ) (o : Option (ℕ × ℕ))
    → option_map (λ (pair : ℕ × ℕ). record { home = pair.0; address = pair.1 }) (option_map (moved_pair f) o)
    ≡ option_map (moved_scion f) (option_map (λ (pair : ℕ × ℕ). record { home = pair.0; address = pair.1 }) o)
scion_moves f None = refl
scion_moves f (Some pair) = refl

-- the heap that was put back is a copy
put_copy : {phase : Phase} {old new : Heap} {held after : List Registers} (disk : OnDisk) {copied : Copied}
    → IsSettled old → (is : IsCopied phase (state_of old held disk) copied)
    → IsPutBack old new held after copied
    → IsCopy phase (state_of old held disk) (state_of new after disk) (place_of copied.moves)
    copied.moves is.held_count
put_copy {phase} {old} {new} {held} disk {copied} settled is put =
    let s : State = state_of old held disk in
    let f = place_of copied.moves in
    let moves = copied.moves in
    let free : length copied.words + 1 ≡ new.space.used + 1 =
    (let used = put.space.used in omega (arith, used)) in
    let globals : length new.globals ≡ length old.globals = ap length put.globals ∙ is.globals_count in
    record {
      found = subst (Relocates s f moves) free is.holds;
      objects = λ k m at.
          let place = place_below s f moves (length copied.words + 1) k m is.holds at in
          other_words f s (word_numbered copied.words) (word_at new.space) m
          (λ a from to. replaced_word old.space new.space copied.words a put.space
          (let first = place.0 in omega (arith, first, from))
          (let below = place.1 in omega (arith, below, to)))
          (is.objects k m at);
      global = λ g below.
          subst (λ (ws : List ℕ). WordMoves phase f (s.global g) (slice_index ws g)) (sym put.globals)
          (is.globals g below);
      register = put.registers;
      held = is.held;
      scions_found = is.scions;
      scion = λ k.
          ap (option_map (λ (pair : ℕ × ℕ). record { home = pair.0; address = pair.1 })) (put.scions.each k)
          ∙ scion_moves f (scion_at old.scions k);
      sizes = record { size = put.space.size; globals = globals; forwards = ap length put.forward };
      homes = record { end = refl; homes = refl; free_homes = refl };
      image = λ k. refl;
      settled = settled;
      forward = λ p. ap (λ (words : List ℕ). slice_index words p) put.forward ∙ settled p;
    }

-- what the journal of a collection says
pub record JournalSays (journal : Journal) (phase : Phase) (copied : Copied) (used : ℕ) : Type 0 where
  pub held : journal.held ≡ copied.held
  pub rest : Journals journal phase used

-- what was put back is a collection
pub put_collects : {old new : Heap} {held after : List Registers} {copied : Copied} {phase : Phase} {journal : Journal}
    → IsCopying phase → IsSettled old → CopiesHeap phase old held copied → IsPutBack old new held after copied
    → JournalSays journal phase copied new.space.used → Collects old held new after phase journal
put_collects {old} {new} {held} {after} {copied} {phase} {journal} copying settled copies put told = record {
  each = λ maps disk names formed.
      let s : State = state_of old held disk in
      let t : State = state_of new after disk in
      let f = place_of copied.moves in
      let moves = copied.moves in
      let is = copies maps disk formed in
      let copy = put_copy disk settled is put in
      let carries = copy_carries phase maps s t f moves is.held_count is.whole copy formed copying in
      let live : journal.live ≡ words_in moves =
      (let words = told.rest.live_words ∙ put.space.used in
      let later = is.holds.after in
      omega (arith, words, later)) in
      let held_is : journal.held ≡ words_in (take is.held_count moves) = told.held ∙ is.held_words in
      record {
        after = maps_after maps moves;
        to = f;
        home = old_home s;
        scion = old_scion s;
        names = has_names maps old.names new.names old.maps new.maps moves
            (moves_apart s copied is) names put.names;
        collected = copy_collects phase maps s t f moves is.held_count is.whole copy formed copying;
        live = subst (CountsWords t (IsNamed (maps_after maps moves))) (sym live)
            (live_words phase maps s t f moves is.held_count carries formed);
        held_words = subst (CountsWords s (HeldAt s)) (sym held_is)
            (held_words phase maps s t f moves is.held_count carries);
        journals = told.rest;
      };
  tables = record {
    scions = record { is_table = put.scions.is_table; size = put.scions.size };
    forwards = ap length put.forward;
    names = names_stay old.names new.names old.maps new.maps copied.moves put.names;
  };
  settled = λ p. ap (λ (words : List ℕ). slice_index words p) put.forward ∙ settled p;
}
