-- How many visits a collection makes, by what it finds.
use Rattle.std.proofs.Common.{◌≡◌, ◌≢◌, ℕ, zero, suc, ◌+◌, ◌*◌, ◌<◌, ◌≤◌, List, [], ◌∷◌, length, take, refl, subst}
use Rattle.std.proofs.Common.{sym, ◌∙◌, arith}
use Rattle.std.specs.Prelude.{slice_get, Some}
use Rattle.std.proofs.lemmas.Option.{slice_get_within}
use Rattle.melt_model.proofs.Sums.{CostsSum-part}
use Rattle.melt_word.specs.Words.{cost_of}
use Rattle.melt_word.specs.declared.header.Header.{Header}
use Rattle.melt_scion.specs.State.{State, HeaderAt, Reached, in_register, in_global, at_scion, in_slot}
use Rattle.melt_scion.specs.Heaps.{OnDisk, IsFormed, state_of}
use Rattle.melt_scion.specs.Collected.{CountsWords}
use Rattle.melt_scion.specs.declared.registers.Registers.{Registers}
use Rattle.melt_scion.specs.declared.heap.Heap.{Heap}
use Rattle.melt_copy.specs.declared.forwarding.Relocation.{Relocation}
use Rattle.melt_copy.specs.declared.forwarding.Forwarding.{Forwarding}
use Rattle.melt_copy.specs.Moving.{IsRelocation, Relocates, words_in}
use Rattle.melt_copy.specs.declared.live.LiveSet.{LiveSet}
use Rattle.melt_copy.specs.Tracking.{goes, Grows, Tracks, TracksIn, TracksScions}
use Rattle.melt_copy.specs.Reaching.{FindsHeldAlone}
use Rattle.melt_copy.specs.Visits.{CountsReached}
use Rattle.melt_copy.proofs.Counting.{counts_moves}
use Rattle.melt_copy.proofs.Places.{words_in-cons, same_source}
use Rattle.melt_copy.proofs.Sources.{source_cost}
use Rattle.melt_copy.proofs.Queue.{words_in-next, words_in-stay}
use Rattle.melt_copy.proofs.Roots.{before_scions}

-- a header stands in the heap, whatever is on the disk
header_over : (heap : Heap) (held : List Registers) (d e : OnDisk) (a : ℕ) (header : Header)
    → HeaderAt (state_of heap held d) a header → HeaderAt (state_of heap held e) a header
header_over heap held d e a header at = record { in_range = at.in_range; word = at.word }

-- and so does all that can be reached
reached_over : (heap : Heap) (held : List Registers) (d e : OnDisk) (a : ℕ) → Reached (state_of heap held d) a
    → Reached (state_of heap held e) a
reached_over heap held d e a (in_register t r b holds first) = in_register t r a holds first
reached_over heap held d e a (in_global g b below refers) = in_global g a below refers
reached_over heap held d e a (at_scion k x live) = at_scion k x live
reached_over heap held d e a (in_slot from i b header reached starts below refers) =
    in_slot from i a header (reached_over heap held d e from reached) (header_over heap held d e from header starts)
    below refers

-- so their words are the same over each disk
pub counts_over : (heap : Heap) (held : List Registers) (e : OnDisk) (total : ℕ) → CountsReached heap held total
    → CountsWords (state_of heap held e) (Reached (state_of heap held e)) total
counts_over heap held e total reached =
    let d : OnDisk = reached.disk in
    let counts = reached.counts in
    record {
      members = counts.members;
      cost = counts.cost;
      costs = record { is = λ a header starts. counts.costs.is a header (header_over heap held e d a header starts) };
      once = counts.once;
      all = λ a. (
        λ is. (counts.all a).0 (reached_over heap held e d a is),
        λ has. reached_over heap held d e a ((counts.all a).1 has),
      );
      adds_up = counts.adds_up;
    }

-- the object of one of these moves stood at the address
abbrev pub IsSource : List Relocation → ℕ → Type 0
IsSource moves a = (k : ℕ) × (m : Relocation) × (slice_get moves k ≡ Some m) × (m.from ≡ a)

-- objects that can be reached, each once, take no more words than all that can be reached
pub few_words : (s : State) (moves : List Relocation)
    → ((k : ℕ) (m : Relocation) → slice_get moves k ≡ Some m → IsRelocation s m)
    → ((i j : ℕ) (a b : Relocation) → slice_get moves i ≡ Some a → slice_get moves j ≡ Some b → i < j
    → a.from ≢ b.from) → (total : ℕ) → CountsWords s (Reached s) total → words_in moves ≤ total
few_words s moves each differ total counts =
    CostsSum-part counts.cost (IsSource moves) (Reached s) (words_in moves) total
    (λ a is. subst (Reached s) is.3 (each is.0 is.1 is.2).reached)
    (counts_moves counts.cost (IsSource moves) (λ (m : Relocation). m.from) moves differ
    (λ k m at. let is = each k m at in counts.costs.is m.from is.header is.starts ∙ source_cost s m is)
    (λ a is. is) (λ k m at. (k, m, at, refl)))
    (record { members = counts.members; once = counts.once; all = counts.all; adds_up = counts.adds_up })

-- as do those that were found
pub few_found : (s : State) (f : ℕ → ℕ) (moves : List Relocation) (free : ℕ) → Relocates s f moves free → (total : ℕ)
    → CountsWords s (Reached s) total → words_in moves ≤ total
few_found s f moves free holds =
    few_words s moves holds.whole (λ i j a b first second before same.
    let one = (same_source i j holds first second same).0 in omega (arith, one, before))

-- of a heap
pub few_tracked : (heap : Heap) (held : List Registers) (disk : OnDisk) (forwarding : Forwarding) (total : ℕ)
    → Tracks heap.space (state_of heap held disk) forwarding → CountsReached heap held total
    → words_in forwarding.moves.items ≤ total
few_tracked heap held disk forwarding total tracks reached =
    few_found (state_of heap held disk) (goes forwarding) forwarding.moves.items forwarding.next tracks.holds total
    (counts_over heap held disk total reached)

-- each object takes two words at least
pub two_each : (moves : List Relocation) → 2 * length moves ≤ words_in moves
two_each [] = omega arith
two_each (m ∷ moves) = omega (arith, two_each moves, words_in-cons m moves)

-- the first ones take no more words than all
pub first_words : (moves : List Relocation) (k : ℕ) → words_in (take k moves) ≤ words_in moves
first_words moves zero = omega arith
first_words [] (suc k) = omega arith
first_words (m ∷ moves) (suc k) =
    omega (arith, first_words moves k, words_in-cons m moves, words_in-cons m (take k moves))

-- the turn of an object of the queue, after which others may have been found
module _ (a b : Forwarding) (done : ℕ) (m : Relocation) (grows : Grows a b)
    (at : slice_get a.moves.items done ≡ Some m) where
  pub turn_words : words_in (take (done + 1) b.moves.items) ≡ words_in (take done a.moves.items) + cost_of m.shape
  turn_words =
      let below = slice_get_within a.moves.items done m at in
      words_in-stay a b (done + 1) grows (omega (arith, below)) ∙ words_in-next a.moves.items done m at

  pub turn_within : words_in (take done a.moves.items) + cost_of m.shape ≤ words_in b.moves.items
  turn_within = let all = first_words b.moves.items (done + 1) in omega (arith, all, turn_words)

-- What was found last takes no more words than all that can be reached in the heap, by what each call found before.
module _ (old now : Heap) (held : List Registers) (same : old ≡ now) (live : LiveSet) (held_alone : FindsHeldAlone now
    held live)
    (words : List ℕ) (words_are : words ≡ old.globals) (second : Forwarding)
    (finds_globals : (s : State) → TracksIn old.space s live.forwarding words → Tracks old.space s second)
    (third last : Forwarding)
    (finds_scions : (s : State) → TracksScions old.space s second old.scions → Tracks old.space s third)
    (finds_rest : (s : State) → Tracks old.space s third → Tracks old.space s last) where
  pub few_last : IsFormed now held → (total : ℕ) → CountsReached now held total → words_in last.moves.items ≤ total
  few_last formed total counts =
      let before : IsFormed old held = subst (λ (heap : Heap). IsFormed heap held) (sym same) formed in
      let s : State = state_of old held before.disk in
      few_tracked old held before.disk last total
      (finds_rest s (finds_scions s (before_scions old now held same live held_alone words words_are second
      finds_globals
      before.maps before.disk before.formed)))
      (subst (λ (heap : Heap). CountsReached heap held total) (sym same) counts)
