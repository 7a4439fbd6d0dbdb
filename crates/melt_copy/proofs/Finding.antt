-- A forwarding that finds one object more.
use Rattle.std.proofs.Common.{◌≡◌, ◌≢◌, ℕ, ◌+◌, ◌<◌, ◌≤◌, ◌^◌, List, [], ◌∷◌, ◌++◌, length, take, refl, sym, subst, ap}
use Rattle.std.proofs.Common.{◌∙◌, ◌/◌, arith, ◌⊎◌, inl, inr, get_or}
use Rattle.std.proofs.lemmas.List.{take-append-le, length-set, get_or_default}
use Rattle.std.proofs.lemmas.List.Sums.{sum-map, sum_by_push}
use Rattle.std.proofs.lemmas.Bool.{cases_order}
use Rattle.std.proofs.lemmas.Bool.Decides.{eqb_tells}
use Rattle.std.proofs.lemmas.Option.{slice_get_within}
use Rattle.std.proofs.Math.Seq.{take-append_seam}
use Rattle.std.specs.Prelude.{slice_get, slice_index, slice_set, Some}
use Rattle.melt_model.proofs.Histories.{last_place, slice_get-append_left, slice_get-append_seam}
use Rattle.melt_word.specs.Words.{IsRef, ref_word, IsHeader, header_word, cost_of}
use Rattle.melt_word.specs.declared.reference.Ref.{Ref}
use Rattle.melt_word.specs.declared.header.Header.{Header}
use Rattle.melt_word.specs.declared.header.Shape.{Shape}
use Rattle.melt_space.specs.Space.{SpaceWords, word_at, HasHeader}
use Rattle.melt_scion.specs.State.{State, HeaderAt, address_in, Reached}
use Rattle.melt_copy.specs.declared.forwarding.Relocation.{Relocation}
use Rattle.melt_copy.specs.declared.forwarding.Forwarding.{Forwarding}
use Rattle.melt_copy.specs.Moving.{words_in, IsRelocation, Relocates}
use Rattle.melt_copy.specs.Tracking.{goes, entry_of, looked_up, Grows, Tracks, TracksAt, TracksFor}
use Rattle.melt_copy.proofs.Entries.{known_here, unknown_both, written_here, written_others}
use Rattle.melt_copy.proofs.Places.{place_below}
use Rattle.melt_copy.proofs.Sources.{found_words}

pub words_in-push : (ms : List Relocation) (m : Relocation) → words_in (ms ++ m ∷ []) ≡ words_in ms + cost_of m.shape
words_in-push ms m = sum-map (λ (m : Relocation). cost_of m.shape) (ms ++ m ∷ [])
    ∙ (sum_by_push (λ (m : Relocation). cost_of m.shape) ms m
    ∙ ap (λ (n : ℕ). n + cost_of m.shape) (sym (sum-map (λ (m : Relocation). cost_of m.shape) ms)))

in_front : (ms : List Relocation) (m : Relocation) (k : ℕ) (x : Relocation) → slice_get ms k ≡ Some x
    → slice_get (ms ++ m ∷ []) k ≡ Some x
in_front ms m k x at = slice_get-append_left ms (m ∷ []) k (slice_get_within ms k x at) ∙ at

-- an object that was not found before takes the next place
pub relocates_push : {s : State} {f : ℕ → ℕ} (g : ℕ → ℕ) {moves : List Relocation} {free : ℕ} (m : Relocation)
    {header : Header} → Relocates s f moves free → Reached s m.from → HeaderAt s m.from header → header.shape ≡ m.shape
    → m.to ≡ free → f m.from ≡ 0 → g m.from ≡ free → ((a : ℕ) → a ≢ m.from → g a ≡ f a)
    → Relocates s g (moves ++ m ∷ []) (free + cost_of m.shape)
relocates_push {s} {f} g {moves} m {header} forwarding reached starts shape to unknown here others = record {
  whole = λ k x at. elim (last_place moves m k x at) [
    | inl old ↦ forwarding.whole k x old.1
    | inr new ↦ subst (IsRelocation s) new.1
        (record { reached = reached; header = header; starts = starts; shape = shape })
  ];
  found = λ k x at. elim (last_place moves m k x at) [
    | inl old ↦
        let was : f x.from ≡ x.to = forwarding.found k x old.1 in
        let place : x.to ≡ 1 + words_in (take k moves) = forwarding.places k x old.1 in
        others x.from (λ (same : x.from ≡ m.from). let nought : f x.from ≡ 0 = ap f same ∙ unknown in
        omega (arith, nought, was, place)) ∙ was
    | inr new ↦ subst (λ (y : Relocation). g y.from ≡ y.to) new.1 (here ∙ sym to)
  ];
  only = λ a known. elim (eqb_tells a m.from) [
    | inl same ↦ (length moves, m, slice_get-append_seam moves m [], sym same.1)
    | inr other ↦
        let was = forwarding.only a (λ (nought : f a ≡ 0). known (others a other.1 ∙ nought)) in
        (was.0, was.1, in_front moves m was.0 was.1 was.2, was.3)
  ];
  places = λ k x at. elim (last_place moves m k x at) [
    | inl old ↦ forwarding.places k x old.1
        ∙ ap (λ (ms : List Relocation). 1 + words_in ms) (sym (take-append-le k moves (m ∷ []) (omega (arith, old.0))))
    | inr new ↦ subst (λ (y : Relocation). y.to ≡ 1 + words_in (take k (moves ++ m ∷ []))) new.1
        (to ∙ (forwarding.after ∙ ap (λ (ms : List Relocation). 1 + words_in ms)
        (sym (ap (λ (n : ℕ). take n (moves ++ m ∷ [])) new.0 ∙ take-append_seam moves (m ∷ [])))))
  ];
  after = omega (arith, words_in-push moves m, forwarding.after);
}

-- an object that is found lies within the words in use
pub at_within : (space : SpaceWords) (s : State) (forwarding : Forwarding) (address : ℕ)
    → TracksAt space s forwarding address → (1 ≤ address) × (address / 2 < length forwarding.entries.items)
    × (address ≤ space.used)
at_within space s forwarding address at =
    let object = at.tracks.whole.objects address at.reached in
    let below : address + cost_of object.0.shape ≤ s.free = object.1.below in
    (object.1.first, omega (arith, below, at.tracks.free, at.tracks.table), omega (arith, below, at.tracks.free))

-- no object that was found overlaps one that can be found, so none starts at the other address of the two
pub none_beside : (space : SpaceWords) (s : State) (forwarding : Forwarding) (address : ℕ)
    → TracksAt space s forwarding address → (a : ℕ) → a ≢ address → a / 2 ≡ address / 2 → goes forwarding a ≡ 0
none_beside space s forwarding address at a other pair = elim (eqb_tells (goes forwarding a) 0) [
  | inl none ↦ none.1
  | inr known ↦
      let move = at.tracks.holds.only a known.1 in
      let there = subst (Reached s) move.3 (at.tracks.holds.whole move.0 move.1 move.2).reached in
      let first = at.tracks.whole.objects a there in
      let second = at.tracks.whole.objects address at.reached in
      elim (cases_order a address) [
        | inl same ↦ absurd (other same)
        | inr differ ↦ elim differ [
          | inl below ↦ absurd (omega (
            arith,
            pair,
            at.tracks.whole.apart a address first.0 there at.reached first.1.starts below,
          ))
          | inr above ↦ absurd (omega (
            arith,
            pair,
            at.tracks.whole.apart address a second.0 at.reached there second.1.starts above,
          ))
        ]
      ]
]

-- the header of an object that is found, as the space has it
pub at_header : (space : SpaceWords) (s : State) (forwarding : Forwarding) (address : ℕ)
    → TracksAt space s forwarding address → HasHeader space address
at_header space s forwarding address at =
    let object = at.tracks.whole.objects address at.reached in
    record {
      header = object.0;
      in_range = object.1.starts.in_range;
      word = sym (at.tracks.word address)
          ∙ object.1.starts.word;
    }

-- the object at an address takes the next place
pub relocates_found : (space : SpaceWords) (s : State) (forwarding : Forwarding) (address : ℕ) (shape : Shape)
    → TracksAt space s forwarding address → goes forwarding address ≡ 0
    → ((h : Header) → IsHeader h → word_at space address ≡ header_word h → shape ≡ h.shape)
    → Relocates s (looked_up (slice_set forwarding.entries.items (address / 2) (entry_of address forwarding.next)))
    (forwarding.moves.items ++ (record { from = address; to = forwarding.next; shape = shape }) ∷ [])
    (forwarding.next + cost_of shape)
relocates_found space s forwarding address shape at unknown told =
    let object = at.tracks.whole.objects address at.reached in
    let header = object.0 in
    let same : shape ≡ header.shape = told header object.1.starts.in_range
    (sym (at.tracks.word address) ∙ object.1.starts.word) in
    let m : Relocation = record { from = address; to = forwarding.next; shape = shape } in
    let within = (at_within space s forwarding address at).1 in
    relocates_push (looked_up (slice_set forwarding.entries.items (address / 2) (entry_of address forwarding.next))) m
    at.tracks.holds at.reached object.1.starts (sym same) refl unknown
    (written_here forwarding.entries.items address forwarding.next within)
    (λ a other. written_others forwarding.entries.items address forwarding.next a within
    (none_beside space s forwarding address at) other)

-- what is found is within the words in use
pub next_fits : (space : SpaceWords) (s : State) (forwarding : Forwarding) → Tracks space s forwarding
    → forwarding.next ≤ space.used + 1
next_fits space s forwarding tracks = let words =
    found_words s (goes forwarding) forwarding.moves.items forwarding.next tracks.whole tracks.holds in
    omega (arith, words, tracks.free, tracks.holds.after)

pub next_after_fits : (space : SpaceWords) (s : State) (forwarding : Forwarding) (address : ℕ) (shape : Shape)
    → TracksAt space s forwarding address → goes forwarding address ≡ 0
    → ((h : Header) → IsHeader h → word_at space address ≡ header_word h → shape ≡ h.shape)
    → forwarding.next + cost_of shape ≤ space.used + 1
next_after_fits space s forwarding address shape at unknown told =
    let after = relocates_found space s forwarding address shape at unknown told in
    let words = found_words s _ _ (forwarding.next + cost_of shape) at.tracks.whole after in
    omega (arith, words, at.tracks.free, after.after)

-- fewer than 2^30 words are in use
pub used_small : (space : SpaceWords) (s : State) (forwarding : Forwarding) → Tracks space s forwarding
    → space.used + 1 ≤ 2 ^ 30
used_small space s forwarding tracks = omega (arith, tracks.whole.small, tracks.whole.inside, tracks.free)

-- the forwarding in which the object at an address has the next place
pub tracks_found : (space : SpaceWords) (s : State) (forwarding new : Forwarding) (address : ℕ) (shape : Shape)
    → TracksAt space s forwarding address → goes forwarding address ≡ 0
    → ((h : Header) → IsHeader h → word_at space address ≡ header_word h → shape ≡ h.shape)
    → new.entries.items ≡ slice_set forwarding.entries.items (address / 2) (entry_of address forwarding.next)
    → new.moves.items ≡ forwarding.moves.items ++ (record { from = address; to = forwarding.next; shape = shape }) ∷ []
    → new.next ≡ forwarding.next + cost_of shape → Tracks space s new
tracks_found space s forwarding new address shape at unknown told forward moves next = record {
  whole = at.tracks.whole;
  word = at.tracks.word;
  size = at.tracks.size;
  free = at.tracks.free;
  holds = subst (λ (es : List ℕ). Relocates s (looked_up es) new.moves.items new.next) (sym forward)
      (subst (λ (ms : List Relocation).
      Relocates s (looked_up (slice_set forwarding.entries.items (address / 2) (entry_of address forwarding.next))) ms
      new.next) (sym moves)
      (subst
      (Relocates s (looked_up (slice_set forwarding.entries.items (address / 2) (entry_of address forwarding.next)))
      (forwarding.moves.items ++ (record { from = address; to = forwarding.next; shape = shape }) ∷ [])) (sym next)
      (relocates_found space s forwarding address shape at unknown told)));
  table = ap length forward
      ∙ (length-set forwarding.entries.items (address / 2) (entry_of address forwarding.next) ∙ at.tracks.table);
}

-- a place after the first word is not 0
pub next_there : (space : SpaceWords) (s : State) (forwarding : Forwarding) → Tracks space s forwarding
    → forwarding.next ≢ 0
next_there space s forwarding tracks = let later = tracks.holds.after in omega (arith, later)

-- the object has the next place then
pub found_here : (space : SpaceWords) (s : State) (forwarding : Forwarding) {entries : List ℕ} (address : ℕ)
    → TracksAt space s forwarding address
    → entries ≡ slice_set forwarding.entries.items (address / 2) (entry_of address forwarding.next)
    → looked_up entries address ≡ forwarding.next
found_here space s forwarding address at is = ap (λ (es : List ℕ). looked_up es address) is
    ∙ written_here forwarding.entries.items address forwarding.next (at_within space s forwarding address at).1

-- what was found before stays
pub grows_found : (space : SpaceWords) (s : State) (forwarding new : Forwarding) (address : ℕ) (m : Relocation)
    → TracksAt space s forwarding address → goes forwarding address ≡ 0
    → new.entries.items ≡ slice_set forwarding.entries.items (address / 2) (entry_of address forwarding.next)
    → new.moves.items ≡ forwarding.moves.items ++ m ∷ [] → Grows forwarding new
grows_found space s forwarding new address m at unknown entries moves = record {
  rest = m ∷ [];
  moves = moves;
  goes = λ a known.
      ap (λ (es : List ℕ). looked_up es a) entries
      ∙ written_others forwarding.entries.items address forwarding.next a (at_within space s forwarding address at).1
      (none_beside space s forwarding address at)
      (λ (same : a ≡ address). known (ap (goes forwarding) same ∙ unknown));
}

pub find_only : (old : List Relocation) {new : List Relocation} (address to : ℕ) (shape : Shape)
    → new ≡ old ++ (record { from = address; to = to; shape = shape }) ∷ [] → (k : ℕ) (m : Relocation)
    → slice_get new k ≡ Some m → (slice_get old k ≡ Some m) ⊎ (m.from ≡ address)
find_only old address to shape is k m at =
    elim (last_place old (record { from = address; to = to; shape = shape }) k m
    (ap (λ (ms : List Relocation). slice_get ms k) (sym is) ∙ at)) [
      | inl before ↦ inl before.1
      | inr last ↦ inr (ap (λ (x : Relocation). x.from) (sym last.1))
    ]

-- the entry of an object, as the table has it
entry_is : (space : SpaceWords) (s : State) (forwarding : Forwarding) (address entry : ℕ)
    → TracksAt space s forwarding address → entry ≡ get_or forwarding.entries.items (address / 2) entry
    → entry / 2 ≡ slice_index forwarding.entries.items (address / 2) / 2
entry_is space s forwarding address entry at is = ap (λ (n : ℕ). n / 2) (is
    ∙ get_or_default forwarding.entries.items (address / 2) entry 0 (at_within space s forwarding address at).1)

-- an object was not found whose entry has no new address
pub not_known : (space : SpaceWords) (s : State) (forwarding : Forwarding) (address entry known : ℕ)
    → TracksAt space s forwarding address → entry ≡ get_or forwarding.entries.items (address / 2) entry
    → known ≡ entry / 2 → known ≡ 0 → goes forwarding address ≡ 0
not_known space s forwarding address entry known at is half none =
    unknown_both forwarding.entries.items address
    (sym (entry_is space s forwarding address entry at is) ∙ (sym half ∙ none))

-- an object was found whose entry has a new address
pub is_known : (space : SpaceWords) (s : State) (forwarding : Forwarding) (address entry known : ℕ)
    → TracksAt space s forwarding address → entry ≡ get_or forwarding.entries.items (address / 2) entry
    → known ≡ entry / 2 → known ≢ 0 → known ≡ goes forwarding address
is_known space s forwarding address entry known at is half some =
    let there = entry_is space s forwarding address entry at is in
    half ∙ (there ∙ sym (known_here forwarding.entries.items address (none_beside space s forwarding address at)
    (λ (none : slice_index forwarding.entries.items (address / 2) / 2 ≡ 0). some (half ∙ (there ∙ none)))))

-- the place of an object that was found is an address
pub known_small : (space : SpaceWords) (s : State) (forwarding : Forwarding) (address : ℕ) → Tracks space s forwarding
    → goes forwarding address ≢ 0 → goes forwarding address < 2 ^ 30
known_small space s forwarding address tracks known =
    let move = tracks.holds.only address known in
    let to : goes forwarding address ≡ move.1.to =
    sym (ap (goes forwarding) move.3) ∙ tracks.holds.found move.0 move.1 move.2 in
    let place = place_below s (goes forwarding) forwarding.moves.items forwarding.next move.0 move.1 tracks.holds
    move.2 in
    let fits = next_fits space s forwarding tracks in
    let small = used_small space s forwarding tracks in
    let cost : 2 ≤ cost_of move.1.shape = omega arith in
    omega (arith, to, place.1, fits, small, cost)

-- the object to which a word refers
pub tracks_at : (space : SpaceWords) (s : State) (forwarding : Forwarding) (word address : ℕ) (r : Ref)
    → IsRef r × (word ≡ ref_word r) → address_in r ≡ Some address → TracksFor space s forwarding word
    → TracksAt space s forwarding address
tracks_at space s forwarding word address r is at for =
    record {
      tracks = for.tracks;
      reached = for.reached address (record { reference = r; in_range = is.0; is = is.1; at = at });
    }
