-- The objects that were found first stay the first when more are found, and stand before the next one.
use Rattle.std.proofs.Common.{◌≡◌, ℕ, ◌+◌, ◌<◌, ◌≤◌, List, [], ◌∷◌, length, take, get_or, refl, sym, ap, ◌∙◌}
use Rattle.std.proofs.Common.{arith, length-append}
use Rattle.std.specs.Prelude.{slice_get, Some}
use Rattle.std.specs.List.{sum_by}
use Rattle.std.proofs.lemmas.List.{take-append-le}
use Rattle.std.proofs.lemmas.List.Sums.{sum-map, sum_by_more}
use Rattle.std.proofs.lemmas.Option.{slice_get_within, slice_get_read, get_or_from_slice_get}
use Rattle.melt_model.proofs.Histories.{slice_get-append_left}
use Rattle.melt_word.specs.Words.{cost_of}
use Rattle.melt_space.specs.Space.{SpaceWords}
use Rattle.melt_scion.specs.State.{State}
use Rattle.melt_copy.specs.declared.forwarding.Relocation.{Relocation}
use Rattle.melt_copy.specs.declared.forwarding.Forwarding.{Forwarding}
use Rattle.melt_copy.specs.Moving.{words_in}
use Rattle.melt_copy.specs.Tracking.{goes, Tracks, TracksOf, Grows}
use Rattle.melt_copy.proofs.Places.{words_in-cons}
use Rattle.melt_copy.proofs.Sources.{found_words}

-- each object takes a word at least
count_words : (moves : List Relocation) → length moves ≤ words_in moves
count_words [] = omega arith
count_words (m ∷ moves) = let rest = count_words moves in omega (arith, rest, words_in-cons m moves)

-- no more objects are found than there are words in use
pub count_fits : (space : SpaceWords) (s : State) (forwarding : Forwarding) → Tracks space s forwarding
    → length forwarding.moves.items ≤ space.used
count_fits space s forwarding tracks =
    let words = found_words s (goes forwarding) forwarding.moves.items forwarding.next tracks.whole tracks.holds in
    omega (arith, words, tracks.free, count_words forwarding.moves.items)

pub words_in-next : (moves : List Relocation) (k : ℕ) (m : Relocation) → slice_get moves k ≡ Some m
    → words_in (take (k + 1) moves) ≡ words_in (take k moves) + cost_of m.shape
words_in-next moves k m at =
    let below : k < length moves = slice_get_within moves k m at in
    let there : get_or moves k m ≡ m = get_or_from_slice_get moves k m m at in
    sum-map (λ (x : Relocation). cost_of x.shape) (take (k + 1) moves)
    ∙ (sum_by_more (λ (x : Relocation). cost_of x.shape) moves k m below
    ∙ (ap (λ (x : Relocation). sum_by (λ (y : Relocation). cost_of y.shape) (take k moves) + cost_of x.shape) there
    ∙ ap (λ (n : ℕ). n + cost_of m.shape) (sym (sum-map (λ (x : Relocation). cost_of x.shape) (take k moves)))))

-- the front of a forwarding that grows
pub words_in-stay : (a b : Forwarding) (k : ℕ) → Grows a b → k ≤ length a.moves.items
    → words_in (take k b.moves.items) ≡ words_in (take k a.moves.items)
words_in-stay a b k grows within = ap (λ (ms : List Relocation). words_in (take k ms)) grows.moves
    ∙ ap words_in (take-append-le k a.moves.items grows.rest within)

pub was_there : (a b : Forwarding) (k : ℕ) (m : Relocation) → Grows a b → k < length a.moves.items
    → slice_get b.moves.items k ≡ Some m → slice_get a.moves.items k ≡ Some m
was_there a b k m grows below at = sym (slice_get-append_left a.moves.items grows.rest k below)
    ∙ (sym (ap (λ (ms : List Relocation). slice_get ms k) grows.moves) ∙ at)

pub longer : (a b : Forwarding) → Grows a b → length a.moves.items ≤ length b.moves.items
longer a b grows = let sum : length b.moves.items ≡ length a.moves.items + length grows.rest =
    ap length grows.moves ∙ length-append a.moves.items grows.rest in omega (arith, sum)

-- the next object of the queue, which was found
pub next_object : (space : SpaceWords) (s : State) (forwarding : Forwarding) (done : ℕ) (m : Relocation)
    → Tracks space s forwarding → done < length forwarding.moves.items → m ≡ get_or forwarding.moves.items done m
    → TracksOf space s forwarding m
next_object space s forwarding done m tracks below is = record {
  tracks = tracks;
  move = tracks.holds.whole done m
      (slice_get_read forwarding.moves.items (length forwarding.moves.items) done m refl below is);
}
