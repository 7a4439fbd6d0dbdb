-- Who stays and who leaves, decided object by object in the order in which they were found.
use Rattle.std.proofs.Common.{◌≡◌, ◌≢◌, ℕ, suc, ◌+◌, ◌/◌, ◌<◌, ◌≤◌, List, [], ◌∷◌, ◌++◌, length, take, replicate}
use Rattle.std.proofs.Common.{refl, sym, ap, subst, ◌∙◌, ◌⊎◌, inl, inr, arith, true, false}
use Rattle.std.specs.Prelude.{slice_get, Some}
use Rattle.std.proofs.lemmas.Bool.{cases_eq, cases_lt}
use Rattle.std.proofs.lemmas.List.{take_all, take_more, take-take, take-append-le, length-replicate, length-take}
use Rattle.std.proofs.lemmas.List.{append-nil}
use Rattle.std.proofs.lemmas.Option.{same_Some, slice_get_within, get_or_from_slice_get}
use Rattle.melt_model.proofs.Histories.{slice_get-append_left, slice_get-append_seam, last_place}
use Rattle.melt_model.specs.declared.reports.Phase.TheVariants.{Move}
use Rattle.melt_word.specs.Words.{IsHeader, header_word}
use Rattle.melt_word.specs.declared.header.Header.{Header}
use Rattle.melt_space.specs.Space.{SpaceWords, word_at}
use Rattle.melt_scion.specs.State.{State, HeaderAt, HoldsAt, Reached}
use Rattle.melt_scion.specs.Moves.{Leaves, Chooses}
use Rattle.melt_copy.specs.declared.live.LiveSet.{LiveSet}
use Rattle.melt_copy.specs.declared.forwarding.Forwarding.{Forwarding}
use Rattle.melt_copy.specs.declared.forwarding.Relocation.{Relocation}
use Rattle.melt_copy.specs.Moving.{words_in, AreHeld}
use Rattle.melt_copy.specs.Reaching.{IsLiveSet}
use Rattle.melt_copy.specs.Tracking.{goes, Tracks, TracksAt, Grows}
use Rattle.melt_copy.proofs.Counting.{slice_get-take, slice_get_in_front}
use Rattle.melt_copy.proofs.Held.{still_known}
use Rattle.melt_copy.proofs.Roots.{no_moves}
use Rattle.melt_copy.proofs.Places.{same_place, same_source}
use Rattle.melt_copy.proofs.Sources.{source_shape}
use Rattle.melt_move.specs.declared.choice.Departure.{Departure}
use Rattle.melt_move.specs.declared.choice.Choice.{Choice}
use Rattle.melt_move.specs.Plans.{IsSeen, IsShaped, AreDepartures, IsChoice}

-- the object was among the first that were found, so many of them
pub record WasFound (live : LiveSet) (count address : ℕ) : Type 0 where
  pub index : ℕ
  pub move : Relocation
  pub below : index < count
  pub is : slice_get live.forwarding.moves.items index ≡ Some move
  pub from : move.from ≡ address

-- What holds when the first objects that were found, so many of them, were decided on.
pub record HasChosen (space : SpaceWords) (s : State) (live : LiveSet) (stay : Forwarding) (leaving : List Departure)
    (count : ℕ) : Type 0 where
  pub tracks : Tracks space s stay
  pub stays : (k : ℕ) (m : Relocation) → slice_get stay.moves.items k ≡ Some m
      → WasFound live count m.from × (Leaves Move s m.from → ⊥)
  pub leave : (k : ℕ) (d : Departure) → slice_get leaving k ≡ Some d
      → WasFound live count d.from × Leaves Move s d.from × IsShaped s d.from d.shape
  pub once : (i j : ℕ) (d e : Departure) → slice_get leaving i ≡ Some d → slice_get leaving j ≡ Some e → d.from ≡ e.from
      → i ≡ j
  pub each : (i : ℕ) (m : Relocation) → i < count → slice_get live.forwarding.moves.items i ≡ Some m
      → (goes stay m.from ≢ 0) ⊎ ((k : ℕ) × (d : Departure) × (slice_get leaving k ≡ Some d) × (d.from ≡ m.from))
  pub all_held : count ≤ live.held_count → stay.moves.items ≡ take count live.forwarding.moves.items
  pub first : live.held_count ≤ count
      → take live.held_count stay.moves.items ≡ take live.held_count live.forwarding.moves.items

-- nothing stands in an empty list
pub none_there : {A : Type 0} (xs : List A) (k : ℕ) (x : A) → xs ≡ [] → slice_get xs k ≡ Some x → ⊥
none_there xs k x empty at = let below = slice_get_within xs k x at in let nought =
    ap length empty in omega (arith, below, nought)

-- nothing stands after the last element
not_after : {A : Type 0} (xs : List A) (k : ℕ) (x : A) → length xs ≤ k → slice_get xs k ≡ Some x → ⊥
not_after xs k x past at = let below = slice_get_within xs k x at in omega (arith, below, past)

-- the element after the seam
further : {A : Type 0} (xs : List A) (y z : A) (ys : List A) → slice_get (xs ++ y ∷ z ∷ ys) (length xs + 1) ≡ Some z
further [] y z ys = refl
further (x ∷ xs) y z ys =
    let next : length (x ∷ xs) + 1 ≡ suc (length xs + 1) = omega arith in
    ap (slice_get (x ∷ xs ++ y ∷ z ∷ ys)) next ∙ further xs y z ys

more_found : (live : LiveSet) (count address : ℕ) → WasFound live count address → WasFound live (count + 1) address
more_found live count address found = record {
  index = found.index;
  move = found.move;
  below = let below = found.below in omega (arith, below);
  is = found.is;
  from = found.from;
}

-- an object that was not found before is put after the others
push_found : (space : SpaceWords) (s : State) (a b : Forwarding) (address : ℕ) (rest : List Relocation)
    → Tracks space s b → b.moves.items ≡ a.moves.items ++ rest
    → ((k : ℕ) (m : Relocation) → slice_get b.moves.items k ≡ Some m
    → (slice_get a.moves.items k ≡ Some m) ⊎ (m.from ≡ address))
    → goes b address ≢ 0 → ((k : ℕ) (m : Relocation) → slice_get a.moves.items k ≡ Some m → m.from ≢ address)
    → (m : Relocation) × (m.from ≡ address) × (b.moves.items ≡ a.moves.items ++ m ∷ [])
push_found space s a b address [] tracks moves only known fresh =
    let m = tracks.holds.only address known in
    absurd (fresh m.0 m.1 (ap (λ (ms : List Relocation). slice_get ms m.0)
    (sym (moves ∙ append-nil a.moves.items)) ∙ m.2) m.3)
push_found space s a b address (m ∷ []) tracks moves only known fresh =
    let at : slice_get b.moves.items (length a.moves.items) ≡ Some m =
    ap (λ (ms : List Relocation). slice_get ms (length a.moves.items)) moves
    ∙ slice_get-append_seam a.moves.items m [] in (
      m,
      elim (only (length a.moves.items) m at) [
        | inl old ↦ absurd (not_after a.moves.items (length a.moves.items) m (omega arith) old)
        | inr new ↦ new
      ],
      moves,
    )
push_found space s a b address (m ∷ n ∷ rest) tracks moves only known fresh =
    let at : slice_get b.moves.items (length a.moves.items) ≡ Some m =
    ap (λ (ms : List Relocation). slice_get ms (length a.moves.items)) moves
    ∙ slice_get-append_seam a.moves.items m (n ∷ rest) in
    let after : slice_get b.moves.items (length a.moves.items + 1) ≡ Some n =
    ap (λ (ms : List Relocation). slice_get ms (length a.moves.items + 1)) moves
    ∙ further a.moves.items m n rest in
    let first : m.from ≡ address = elim (only (length a.moves.items) m at) [
      | inl old ↦ absurd (not_after a.moves.items (length a.moves.items) m (omega arith) old)
      | inr new ↦ new
    ] in
    let second : n.from ≡ address = elim (only (length a.moves.items + 1) n after) [
      | inl old ↦ absurd (not_after a.moves.items (length a.moves.items + 1) n (omega arith) old)
      | inr new ↦ new
    ] in
    let same = same_source (length a.moves.items) (length a.moves.items + 1) tracks.holds at after
    (first ∙ sym second) in
    absurd (omega (arith, same.0))

module _ (space : SpaceWords) (s : State) (live : LiveSet) (seen : IsSeen space s) (is : IsLiveSet s live) where
  -- an object that was found is at its address
  pub found_at : (stay : Forwarding) (k : ℕ) (m : Relocation) → Tracks space s stay
      → slice_get live.forwarding.moves.items k ≡ Some m → TracksAt space s stay m.from
  found_at stay k m tracks at = record { tracks = tracks; reached = (is.found.whole k m at).reached }

  -- it is among the first no more
  not_before : (count : ℕ) (m : Relocation) → slice_get live.forwarding.moves.items count ≡ Some m
      → WasFound live count m.from → ⊥
  not_before count m at found =
      let same = same_source found.index count is.found found.is at found.from in
      let below = found.below in omega (arith, below, same.0)

  -- the first ones are in registers
  held_before : (k : ℕ) (m : Relocation) → slice_get live.forwarding.moves.items k ≡ Some m → k < live.held_count
      → HoldsAt s m.from
  held_before k m at before =
      let there = is.held.each k m at before in
      record { thread = there.0; register = there.1; holds = there.2 }

  -- no others are
  held_only : (k : ℕ) (m : Relocation) → slice_get live.forwarding.moves.items k ≡ Some m → live.held_count ≤ k
      → HoldsAt s m.from → ⊥
  held_only k m at after holds =
      let first = (is.whole.objects m.from (is.found.whole k m at).reached).1.first in
      let full : s.register holds.thread holds.register ≢ 0 = λ none. let here = holds.holds in
      omega (arith, none, here, first) in
      let there = is.held.all holds.thread holds.register full in
      let same = same_source there.0 k is.found there.2 at (there.4 ∙ holds.holds) in
      let before = there.3 in omega (arith, before, after, same.0)

  -- nobody was decided on
  pub chosen_start : (stay : Forwarding) (leaving : List Departure) (used : ℕ) → used ≡ space.used
      → stay.entries.items ≡ replicate (used / 2 + 1) 0 → stay.moves.items ≡ [] → stay.next ≡ 1 → leaving ≡ []
      → HasChosen space s live stay leaving 0
  chosen_start stay leaving used same entries moves next nobody = record {
    tracks = record {
      whole = seen.whole;
      word = seen.word;
      size = seen.size;
      free = seen.free;
      holds = no_moves s stay used entries moves next;
      table = ap length entries ∙ (length-replicate (used / 2 + 1) 0 ∙ ap (λ (n : ℕ). n / 2 + 1) same);
    };
    stays = λ k m at. absurd (none_there stay.moves.items k m moves at);
    leave = λ k d at. absurd (none_there leaving k d nobody at);
    once = λ i j d e first second from. absurd (none_there leaving i d nobody first);
    each = λ i m below at. absurd (omega (arith, below));
    all_held = λ within. moves;
    first = λ none.
        let nought : live.held_count ≡ 0 = omega (arith, none) in
        subst (λ (n : ℕ). take n stay.moves.items ≡ take n live.forwarding.moves.items) (sym nought) refl;
  }

  -- one more leaves
  pub chosen_leaves : (stay : Forwarding) (leaving : List Departure) (count : ℕ) (m : Relocation) (d : Departure)
      → HasChosen space s live stay leaving count → slice_get live.forwarding.moves.items count ≡ Some m
      → live.held_count ≤ count
      → ((h : Header) → IsHeader h → word_at space m.from ≡ header_word h → true ≡ h.stale)
      → d.from ≡ m.from → d.shape ≡ m.shape
      → HasChosen space s live stay (leaving ++ d ∷ []) (count + 1)
  chosen_leaves stay leaving count m d before at after stale from shape =
      let move = is.found.whole count m at in
      let word : word_at space m.from ≡ header_word move.header = sym (seen.word m.from) ∙ move.starts.word in
      let goes_away : Leaves Move s m.from = (
        move.reached,
        held_only count m at after,
        (move.header, move.starts, sym (stale move.header move.starts.in_range word)),
      ) in
      let was : slice_get (leaving ++ d ∷ []) (length leaving) ≡ Some d = slice_get-append_seam leaving d [] in
      let here : WasFound live (count + 1) d.from =
      record { index = count; move = m; below = omega arith; is = at; from = sym from } in
      let new : (k : ℕ) (e : Departure) → slice_get leaving k ≡ Some e → e.from ≡ d.from → ⊥ =
      λ k e old same. not_before count m at
      (subst (WasFound live count) (same ∙ from) (before.leave k e old).0) in
      record {
        tracks = before.tracks;
        stays = λ k x there. let old = before.stays k x there in (more_found live count x.from old.0, old.1);
        leave = λ k e there. elim (last_place leaving d k e there) [
          | inl old ↦ let one = before.leave k e old.1 in (more_found live count e.from one.0, one.1, one.2)
          | inr last ↦ subst (λ (y : Departure).
              WasFound live (count + 1) y.from × Leaves Move s y.from × IsShaped s y.from y.shape) last.1 (
                here,
                subst (Leaves Move s) (sym from) goes_away,
                record {
                  header = move.header;
                  starts = subst (λ (a : ℕ). HeaderAt s a move.header) (sym from) move.starts;
                  is = move.shape ∙ sym shape;
                },
              )
        ];
        once = λ i j x y first second same. elim (last_place leaving d i x first) [
          | inl i_old ↦ elim (last_place leaving d j y second) [
            | inl j_old ↦ before.once i j x y i_old.1 j_old.1 same
            | inr j_last ↦ absurd (new i x i_old.1 (same ∙ ap (λ (z : Departure). z.from) (sym j_last.1)))
          ]
          | inr i_last ↦ elim (last_place leaving d j y second) [
            | inl j_old ↦ absurd (new j y j_old.1 (sym same ∙ ap (λ (z : Departure). z.from) (sym i_last.1)))
            | inr j_last ↦ i_last.0 ∙ sym j_last.0
          ]
        ];
        each = λ i x below there. elim (cases_eq i count) [
          | inl same ↦
              let one : x ≡ m = same_Some x m (sym there ∙ (ap (slice_get live.forwarding.moves.items) same ∙ at)) in
              inr (length leaving, d, was, from ∙ ap (λ (y : Relocation). y.from) (sym one))
          | inr other ↦ elim (before.each i x (omega (arith, below, other)) there) [
            | inl stays ↦ inl stays
            | inr leaves ↦ inr (
              leaves.0,
              leaves.1,
              slice_get-append_left leaving (d ∷ []) leaves.0 (slice_get_within leaving leaves.0 leaves.1 leaves.2)
                  ∙ leaves.2,
              leaves.3,
            )
          ]
        ];
        all_held = λ within. absurd (omega (arith, within, after));
        first = λ later. before.first after;
      }

  -- the place of the object that is found next is the same while all that were found stay
  same_move : (stay b : Forwarding) (count : ℕ) (m new : Relocation) → Tracks space s b
      → slice_get live.forwarding.moves.items count ≡ Some m
      → stay.moves.items ≡ take count live.forwarding.moves.items → b.moves.items ≡ stay.moves.items ++ new ∷ []
      → new.from ≡ m.from → b.moves.items ≡ take (count + 1) live.forwarding.moves.items
  same_move stay b count m new tracks at stays pushed from =
      let found = live.forwarding.moves.items in
      let below : count < length found = slice_get_within found count m at in
      let size : length stay.moves.items ≡ count = ap length stays ∙ (length-take count found ∙ omega (arith, below)) in
      let last : slice_get b.moves.items count ≡ Some new =
      ap (λ (n : ℕ). slice_get b.moves.items n) (sym size)
      ∙ (ap (λ (ms : List Relocation). slice_get ms (length stay.moves.items)) pushed
      ∙ slice_get-append_seam stay.moves.items new []) in
      let front : take count b.moves.items ≡ take count found =
      ap (take count) pushed
      ∙ (take-append-le count stay.moves.items (new ∷ []) (omega (arith, size))
      ∙ (take_all count stay.moves.items (omega (arith, size)) ∙ stays)) in
      let to : new.to ≡ m.to = tracks.holds.places count new last
      ∙ (ap (λ (ms : List Relocation). 1 + words_in ms) front ∙ sym (is.found.places count m at)) in
      let one = tracks.holds.whole count new last in
      let shape : new.shape ≡ m.shape =
      sym one.shape ∙ source_shape s m one.header (is.found.whole count m at)
      (subst (λ (a : ℕ). HeaderAt s a one.header) from one.starts) in
      let same : new ≡ m = λ i. record { from = from i; to = to i; shape = shape i } in
      pushed ∙ (ap (λ (ms : List Relocation). ms ++ new ∷ []) stays
      ∙ (ap (λ (x : Relocation). take count found ++ x ∷ []) (same ∙ sym (get_or_from_slice_get found count m m at))
      ∙ sym (take_more found count m below)))

  -- one more stays
  pub chosen_stays : (stay b : Forwarding) (leaving : List Departure) (count : ℕ) (m : Relocation)
      → HasChosen space s live stay leaving count → slice_get live.forwarding.moves.items count ≡ Some m
      → (count < live.held_count) ⊎ ((h : Header) → IsHeader h → word_at space m.from ≡ header_word h → false ≡ h.stale)
      → Grows stay b
      → ((k : ℕ) (x : Relocation) → slice_get b.moves.items k ≡ Some x
      → (slice_get stay.moves.items k ≡ Some x) ⊎ (x.from ≡ m.from))
      → goes b m.from ≢ 0 → Tracks space s b → HasChosen space s live b leaving (count + 1)
  chosen_stays stay b leaving count m before at why grows only known tracks =
      let found = live.forwarding.moves.items in
      let new = push_found space s stay b m.from grows.rest tracks grows.moves only known
      (λ k x old from. not_before count m at (subst (WasFound live count) from (before.stays k x old).0)) in
      let remains : Leaves Move s m.from → ⊥ = λ leaves. elim why [
        | inl held ↦ leaves.1 (held_before count m at held)
        | inr clean ↦
            let header = leaves.2.0 in
            let is_clean : false ≡ header.stale = clean header leaves.2.1.in_range
            (sym (seen.word m.from) ∙ leaves.2.1.word) in
            let is_stale = leaves.2.2 in
            cc
      ] in
      let here : WasFound live (count + 1) m.from =
      record { index = count; move = m; below = omega arith; is = at; from = refl } in
      let below : count < length found = slice_get_within found count m at in
      let all_stay : count < live.held_count → b.moves.items ≡ take (count + 1) found = λ held.
      same_move stay b count m new.0 tracks at (before.all_held (omega (arith, held))) new.2 new.1 in
      record {
        tracks = tracks;
        stays = λ k x there. elim (only k x there) [
          | inl old ↦ let one = before.stays k x old in (more_found live count x.from one.0, one.1)
          | inr from ↦
              subst (λ (a : ℕ). WasFound live (count + 1) a × (Leaves Move s a → ⊥)) (sym from) (here, remains)
        ];
        leave = λ k d there. let one = before.leave k d there in (more_found live count d.from one.0, one.1, one.2);
        once = before.once;
        each = λ i x lower there. elim (cases_eq i count) [
          | inl same ↦
              let one : x ≡ m = same_Some x m (sym there ∙ (ap (slice_get found) same ∙ at)) in
              inl (subst (λ (y : Relocation). goes b y.from ≢ 0) (sym one) known)
          | inr other ↦ elim (before.each i x (omega (arith, lower, other)) there) [
            | inl stays ↦ inl (still_known stay b x.from grows stays)
            | inr leaves ↦ inr leaves
          ]
        ];
        all_held = λ within. all_stay (omega (arith, within));
        first = λ later. elim (cases_lt count live.held_count) [
          | inl held ↦
              let whole : count + 1 ≡ live.held_count = omega (arith, held, later) in
              ap (take live.held_count) (all_stay held)
              ∙ (ap (λ (n : ℕ). take live.held_count (take n found)) whole
              ∙ take-take live.held_count live.held_count found (omega arith))
          | inr past ↦
              let same = before.first past in
              let sizes : length (take live.held_count stay.moves.items) ≡ length (take live.held_count found) = ap
              length same in
              let stays = length-take live.held_count stay.moves.items in
              let finds = length-take live.held_count found in
              let long : live.held_count ≤ length stay.moves.items = omega (arith, sizes, stays, finds, below, past) in
              ap (take live.held_count) grows.moves
              ∙ (take-append-le live.held_count stay.moves.items grows.rest long ∙ same)
        ];
      }

  -- all were decided on
  module _ (stay : Forwarding) (leaving : List Departure) (count : ℕ)
      (chosen : HasChosen space s live stay leaving count) (whole : length live.forwarding.moves.items ≤ count) where
    -- each object that can be reached stays or leaves
    decided : (a : ℕ) → Reached s a
        → (goes stay a ≢ 0) ⊎ ((k : ℕ) × (d : Departure) × (slice_get leaving k ≡ Some d) × (d.from ≡ a))
    decided a reached =
        let m = is.found.only a (is.all a reached) in
        let below = slice_get_within live.forwarding.moves.items m.0 m.1 m.2 in
        subst (λ (b : ℕ). (goes stay b ≢ 0)
        ⊎ ((k : ℕ) × (d : Departure) × (slice_get leaving k ≡ Some d) × (d.from ≡ b))) m.3
        (chosen.each m.0 m.1 (omega (arith, below, whole)) m.2)

    remains : (a : ℕ) → goes stay a ≢ 0 → Reached s a × (Leaves Move s a → ⊥)
    remains a known =
        let m = chosen.tracks.holds.only a known in
        subst (λ (b : ℕ). Reached s b × (Leaves Move s b → ⊥)) m.3
        ((chosen.tracks.holds.whole m.0 m.1 m.2).reached, (chosen.stays m.0 m.1 m.2).1)

    first_ones : take live.held_count stay.moves.items ≡ take live.held_count live.forwarding.moves.items
    first_ones = elim (cases_lt count live.held_count) [
      | inl short ↦
          let found = live.forwarding.moves.items in
          ap (take live.held_count) (chosen.all_held (omega (arith, short)) ∙ take_all count found whole)
      | inr long ↦ chosen.first long
    ]

    are_held : AreHeld s stay.moves.items live.held_count
    are_held = record {
      each = λ k m at before. is.held.each k m (slice_get-take live.forwarding.moves.items live.held_count k m
          (ap (λ (ms : List Relocation). slice_get ms k) (sym first_ones)
          ∙ slice_get_in_front stay.moves.items live.held_count k m before at)).1 before;
      all = λ t r full.
          let m = is.held.all t r full in
          let there = slice_get-take stay.moves.items live.held_count m.0 m.1
          (ap (λ (ms : List Relocation). slice_get ms m.0) first_ones
          ∙ slice_get_in_front live.forwarding.moves.items live.held_count m.0 m.1 m.3 m.2) in
          (m.0, m.1, there.1, m.3, m.4);
    }

    chooses : Chooses Move s (goes stay)
    chooses = record {
      stay = remains;
      go = λ a reached. elim (decided a reached) [
        | inl known ↦ inl known
        | inr d ↦ inr (subst (Leaves Move s) d.3 (chosen.leave d.0 d.1 d.2).1)
      ];
      once = λ a b known same.
          let m = chosen.tracks.holds.only a known in
          let n = chosen.tracks.holds.only b (λ (none : goes stay b ≡ 0). known (same ∙ none)) in
          let first : m.1.to ≡ goes stay a =
          sym (chosen.tracks.holds.found m.0 m.1 m.2) ∙ ap (goes stay) m.3 in
          let second : n.1.to ≡ goes stay b =
          sym (chosen.tracks.holds.found n.0 n.1 n.2) ∙ ap (goes stay) n.3 in
          let one = same_place m.0 n.0 chosen.tracks.holds m.2 n.2 (first ∙ (same ∙ sym second)) in
          sym m.3 ∙ (ap (λ (x : Relocation). x.from) one.1 ∙ n.3);
      nothing = elim (cases_eq (goes stay 0) 0) [
        | inl none ↦ none
        | inr known ↦
            let first = (is.whole.objects 0 (remains 0 known).0).1.first in
            absurd (omega (arith, first))
      ];
    }

    departures : AreDepartures s leaving
    departures = record {
      each = λ k d at. let one = chosen.leave k d at in (one.1, one.2);
      all = λ a leaves. elim (decided a leaves.0) [
        | inl known ↦ absurd ((remains a known).1 leaves)
        | inr d ↦ d
      ];
      once = chosen.once;
    }

  -- the choice, when all were decided on
  pub is_chosen : (choice : Choice) (count : ℕ)
      → HasChosen space s live choice.stay choice.leaving.items count
      → length live.forwarding.moves.items ≤ count → IsChoice s live choice
  is_chosen choice count chosen whole = record {
    stay = chosen.tracks.holds;
    chooses = chooses choice.stay choice.leaving.items count chosen whole;
    held = are_held choice.stay choice.leaving.items count chosen whole;
    first = first_ones choice.stay choice.leaving.items count chosen whole;
    leave = departures choice.stay choice.leaving.items count chosen whole;
  }
