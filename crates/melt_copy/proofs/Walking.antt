-- A walk over the live scions of a table, and what is done for each of them.
use Rattle.std.proofs.Common.{◌≡◌, ◌≢◌, ◌⊎◌, inl, inr, ℕ, ◌+◌, ◌<◌, List, [], ◌∷◌, ◌++◌, length, length-append}
use Rattle.std.proofs.Common.{append_assoc, refl, sym, ◌∙◌, ap, subst, arith}
use Rattle.std.specs.Prelude.{Option, None, Some, is_some, slice_index}
use Rattle.std.specs.List.{Contains}
use Rattle.std.specs.Option.{option_map}
use Rattle.std.proofs.lemmas.Bool.{cases_eq}
use Rattle.std.proofs.lemmas.Option.{same_Some}
use Rattle.std.proofs.lemmas.List.{get_or_default}
use Rattle.std.proofs.lemmas.List.Elements.{Contains-append_right}
use Rattle.melt_space.specs.Space.{SpaceWords}
use Rattle.melt_scion.specs.State.{State}
use Rattle.melt_scion.specs.Scions.{Scions, IsTable, SetsAddress, EachOnce, scion_at, first_of, next_after}
use Rattle.melt_scion.proofs.Numbers.{contains_here, after_split}
use Rattle.melt_copy.specs.declared.forwarding.Forwarding.{Forwarding}
use Rattle.melt_copy.specs.Tracking.{goes, moved_pair, Grows, Tracks, TracksAt, TracksScions, FindsScions, MovesScions}
use Rattle.melt_copy.proofs.Growth.{Grows-more, Grows-start}
use Rattle.melt_copy.proofs.Held.{still_known}

-- The scions that were passed are the first of those that are live, and the next is the one after them.
pub record IsWalked (live done : List ℕ) (next : Option ℕ) : Type 0 where
  pub rest : List ℕ
  pub whole : live ≡ done ++ rest
  pub next_is : next ≡ first_of rest

-- the list that begins with a scion
begins : (rest : List ℕ) (x : ℕ) → Some x ≡ first_of rest → (more : List ℕ) × (rest ≡ x ∷ more)
begins [] x is = absurd (cc)
begins (y ∷ more) x is = (more, let same : x ≡ y = cc in ap (λ (z : ℕ). z ∷ more) (sym same))

module _ (live done : List ℕ) (x : ℕ) (walked : IsWalked live done (Some x)) where
  after_it : (more : List ℕ) × (walked.rest ≡ x ∷ more)
  after_it = begins walked.rest x walked.next_is

  whole_is : live ≡ done ++ x ∷ after_it.0
  whole_is = walked.whole ∙ ap (λ (xs : List ℕ). done ++ xs) after_it.1

  pub walk_live : Contains live x
  walk_live =
      subst (λ (xs : List ℕ). Contains xs x) (sym whole_is)
      (Contains-append_right done (x ∷ after_it.0) x (contains_here x after_it.0))

  pub walk_left : length done < length live
  walk_left = let size = ap length whole_is ∙ length-append done (x ∷ after_it.0) in omega (arith, size)

  pub walk_more : (next : Option ℕ) → EachOnce live → next ≡ next_after live x → IsWalked live (done ++ x ∷ []) next
  walk_more next once is = record {
    rest = after_it.0;
    whole = whole_is ∙ sym (append_assoc done (x ∷ []) after_it.0);
    next_is =
        is ∙ (ap (λ (xs : List ℕ). next_after xs x) whole_is
        ∙ after_split x done after_it.0 (subst EachOnce whole_is once));
  }

-- nothing is left after the last
nothing_left : (rest : List ℕ) → None ≡ first_of rest → rest ≡ []
nothing_left [] is = refl
nothing_left (y ∷ more) is = absurd (cc)

-- an element of a list by its place
pub record IsPlaced (xs : List ℕ) (x : ℕ) : Type 0 where
  pub place : ℕ
  pub below : place < length xs
  pub is : slice_index xs place ≡ x

pub placed_in : (xs : List ℕ) (x : ℕ) → Contains xs x → IsPlaced xs x
placed_in xs x (k, below, is) = record { place = k; below = below; is = sym (get_or_default xs k x 0 below) ∙ is }

-- a scion that is live has a place in the list
pub live_place : (table : Scions) (live : List ℕ) (k : ℕ) (pair : ℕ × ℕ) → IsTable table → live ≡ table.live
    → scion_at table k ≡ Some pair → IsPlaced live k
live_place table live k pair is same at =
    subst (λ (xs : List ℕ). IsPlaced xs k) (sym same)
    (placed_in table.live k ((is.live k).1 (ap is_some at)))

-- The first scions of the list, so many of them, have the new addresses of their objects, and all others are as before.
pub record HasMoved (f : ℕ → ℕ) (old new : Scions) (live : List ℕ) (count : ℕ) : Type 0 where
  pub is_table : IsTable new
  pub done : (j : ℕ) → j < count
      → scion_at new (slice_index live j) ≡ option_map (moved_pair f) (scion_at old (slice_index live j))
  pub rest : (k : ℕ) → ((j : ℕ) → j < count → slice_index live j ≢ k) → scion_at new k ≡ scion_at old k
  pub size : length new.pairs ≡ length old.pairs

-- the scion at a place is another than those before it
other_before : (live : List ℕ) (n j : ℕ) → EachOnce live → n < length live → j < n
    → slice_index live j ≢ slice_index live n
other_before live n j once below before = once j n 0 before below

module _ (f : ℕ → ℕ) (old new : Scions) (live : List ℕ) (n : ℕ) (once : EachOnce live) (below : n < length live)
    (moved : HasMoved f old new live n) where
  -- the scion at the place is as before
  pub not_moved : scion_at new (slice_index live n) ≡ scion_at old (slice_index live n)
  not_moved = moved.rest (slice_index live n) (λ j before. other_before live n j once below before)

  done_more : (after : Scions)
      → scion_at after (slice_index live n) ≡ option_map (moved_pair f) (scion_at old (slice_index live n))
      → ((k : ℕ) → k ≢ slice_index live n → scion_at after k ≡ scion_at new k)
      → IsTable after → length after.pairs ≡ length new.pairs → HasMoved f old after live (n + 1)
  done_more after here others table size = record {
    is_table = table;
    done = λ j lower. elim (cases_eq j n) [
      | inl same ↦
          subst (λ (i : ℕ). scion_at after (slice_index live i)
          ≡ option_map (moved_pair f) (scion_at old (slice_index live i))) (sym same) here
      | inr differ ↦
          let before : j < n = omega (arith, lower, differ) in
          others (slice_index live j) (other_before live n j once below before) ∙ moved.done j before
    ];
    rest = λ k free.
        others k (λ same. free n (omega arith) (sym same)) ∙ moved.rest k (λ j before. free j (omega (arith, before)));
    size = size ∙ moved.size;
  }

  pub moved_more : (after : Scions) (pair : ℕ × ℕ) → scion_at new (slice_index live n) ≡ Some pair
      → SetsAddress new after (slice_index live n) (f pair.1) → IsTable after → HasMoved f old after live (n + 1)
  moved_more after pair is sets table =
      done_more after (sets.here ∙ (ap (option_map (λ (p : ℕ × ℕ). (p.0, f pair.1))) is
      ∙ ap (option_map (moved_pair f)) (sym is ∙ not_moved))) sets.others table sets.size

  pub moved_none : scion_at new (slice_index live n) ≡ None → HasMoved f old new live (n + 1)
  moved_none is =
      done_more new (is ∙ ap (option_map (moved_pair f)) (sym is ∙ not_moved)) (λ k other. refl) moved.is_table refl

cases_place : (table : Scions) (live : List ℕ) (k : ℕ) (o : Option (ℕ × ℕ)) → o ≡ scion_at table k → IsTable table
    → live ≡ table.live → (scion_at table k ≡ None) ⊎ IsPlaced live k
cases_place table live k None is of same = inl (sym is)
cases_place table live k (Some pair) is of same = inr (live_place table live k pair of same (sym is))

contains_at : (xs : List ℕ) (j k : ℕ) → j < length xs → slice_index xs j ≡ k → Contains xs k
contains_at xs j k below is = (j, below, get_or_default xs j k 0 below ∙ is)

-- all of them
pub moved_all : (f : ℕ → ℕ) (old new : Scions) (live : List ℕ) (n : ℕ) → IsTable old → live ≡ old.live
    → length live ≡ n → HasMoved f old new live n → MovesScions f old new
moved_all f old new live n table same whole moved = record {
  is_table = moved.is_table;
  each = λ k. elim (cases_place old live k (scion_at old k) refl table same) [
    | inl none ↦
        moved.rest k (λ j below is.
        let there : Contains old.live k =
        subst (λ (xs : List ℕ). Contains xs k) same (contains_at live j k (omega (arith, whole, below)) is) in
        let some = (table.live k).0 there in cc)
        ∙ (none ∙ ap (option_map (moved_pair f)) (sym none))
    | inr at ↦
        subst (λ (i : ℕ). scion_at new i ≡ option_map (moved_pair f) (scion_at old i)) at.is
        (moved.done at.place (let below = at.below in omega (arith, below, whole)))
  ];
  size = moved.size;
}

-- the objects of the first scions of the list, so many of them, were found
abbrev pub FindsFirst : Forwarding → Scions → List ℕ → ℕ → Type 0
FindsFirst forwarding table live count =
    (j : ℕ) (pair : ℕ × ℕ) → j < count → scion_at table (slice_index live j) ≡ Some pair → goes forwarding pair.1 ≢ 0

pub finds_more : (old new : Forwarding) (table : Scions) (live : List ℕ) (n : ℕ) → Grows old new
    → FindsFirst old table live n
    → ((pair : ℕ × ℕ) → scion_at table (slice_index live n) ≡ Some pair → goes new pair.1 ≢ 0)
    → FindsFirst new table live (n + 1)
finds_more old new table live n grows before here j pair below at = elim (cases_eq j n) [
  | inl same ↦ here pair (ap (λ (i : ℕ). scion_at table (slice_index live i)) (sym same) ∙ at)
  | inr differ ↦ still_known old new pair.1 grows (before j pair (omega (arith, below, differ)) at)
]

pub finds_all : (forwarding : Forwarding) (table : Scions) (live : List ℕ) (n : ℕ) → IsTable table
    → live ≡ table.live → length live ≡ n → FindsFirst forwarding table live n → FindsScions forwarding table
finds_all forwarding table live n is same whole finds k pair at =
    let place = live_place table live k pair is same at in
    finds place.place pair (let below = place.below in omega (arith, below, whole))
    (ap (scion_at table) place.is ∙ at)

-- a state in which the object of a scion is found
pub tracks_scion : {space : SpaceWords} {s : State} {old new : Forwarding} {table : Scions} (k : ℕ) {pair : ℕ × ℕ}
    → TracksScions space s old table → Tracks space s new → scion_at table k ≡ Some pair → TracksAt space s new pair.1
tracks_scion k {pair} tracks now at = record { tracks = now; reached = tracks.reached k pair at }

-- What stands when the first scions of the list, so many of them, were passed.
pub record IsFoundSoFar (space : SpaceWords) (old now : Forwarding) (table : Scions) (live : List ℕ)
    (count : ℕ) : Type 0 where
  pub finds : FindsFirst now table live count
  pub grows : Grows old now
  pub tracks : (s : State) → TracksScions space s old table → Tracks space s now

pub found_scion : {space : SpaceWords} {old a b : Forwarding} {table : Scions} {live : List ℕ} {n : ℕ} {pair : ℕ × ℕ}
    → IsFoundSoFar space old a table live n → scion_at table (slice_index live n) ≡ Some pair → {to : ℕ} → to ≢ 0
    → goes b pair.1 ≡ to → Grows a b → ((s : State) → TracksAt space s a pair.1 → Tracks space s b)
    → IsFoundSoFar space old b table live (n + 1)
found_scion {old} {a} {b} {table} {live} {n} {pair} before at there goes_there grows tracks = record {
  finds = finds_more a b table live n grows before.finds (λ other is.
      let same : other ≡ pair = same_Some other pair (sym is ∙ at) in
      λ nought. there (sym goes_there ∙ (ap (λ (p : ℕ × ℕ). goes b p.1) (sym same) ∙ nought)));
  grows = Grows-more old a b before.grows grows;
  tracks = λ s scions. tracks s
      (tracks_scion (slice_index live n) scions (before.tracks s scions) at);
}

pub no_scion_found : (space : SpaceWords) (old now : Forwarding) (table : Scions) (live : List ℕ) (n : ℕ)
    → IsFoundSoFar space old now table live n → scion_at table (slice_index live n) ≡ None
    → IsFoundSoFar space old now table live (n + 1)
no_scion_found space old now table live n before none = record {
  finds = finds_more now now table live n (Grows-start now) before.finds (λ pair is. absurd (cc));
  grows = before.grows;
  tracks = before.tracks;
}
