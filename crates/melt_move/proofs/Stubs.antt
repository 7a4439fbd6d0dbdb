-- The Stubs of new homes, as an image of the disk has them.
use Rattle.std.proofs.Common.{◌≡◌, ◌≢◌, ◌⊎◌, ℕ, zero, suc, ◌+◌, ◌<◌, ◌≤◌, List, [], ◌∷◌, ◌++◌, length, take, get_or}
use Rattle.std.proofs.Common.{refl, sym, ◌∙◌, ap, subst, arith, inl, inr, length-append}
use Rattle.std.specs.Prelude.{Bool, true, false, nat_lt, if◌then◌else◌, filter, slice_get, Option, Some}
use Rattle.std.proofs.lemmas.Bool.{cases_eq}
use Rattle.std.proofs.lemmas.List.{length-take, take_more}
use Rattle.std.proofs.lemmas.List.Elements.{filter-append}
use Rattle.std.proofs.lemmas.Option.{same_Some, get_or_from_slice_get, slice_get_within}
use Rattle.melt_word.specs.Words.{IsShape, cost_of}
use Rattle.melt_word.specs.declared.header.Shape.{Shape}
use Rattle.melt_io.specs.Outside.{Writes}
use Rattle.melt_record.specs.Records.{IsHead, IsScion, stub_words}
use Rattle.melt_record.specs.declared.head.Kind.TheVariants.{Stub}
use Rattle.melt_space.specs.Space.{word_at}
use Rattle.melt_scion.specs.Heaps.{Shows}
use Rattle.melt_scion.specs.declared.heap.Heap.{Heap}
use Rattle.melt_copy.specs.declared.forwarding.Relocation.{Relocation}
use Rattle.melt_copy.proofs.Counting.{slice_get-take, slice_get_in_front}
use Rattle.melt_move.specs.declared.homes.NewHomes.{NewHomes}
use Rattle.melt_move.specs.GivenScions.{NamesScion, WritesStubs, given_home, given_count}
use Rattle.melt_move.specs.ScionTurns.{WritesStub}
use Rattle.melt_move.proofs.Showing.{Puts, ShowsWrite, write_shows}
use Rattle.melt_move.proofs.Freeing.{one_name}
use Rattle.melt_move.proofs.Turns.{same_name}

-- the two words of a Stub
head_stands : (home end scion : ℕ) (shape : Shape) (image after : ℕ → ℕ) → IsShape shape → home + cost_of shape ≤ end
    → IsScion scion → Puts image home (stub_words home shape scion) after
    → IsHead home end (after home) (after (home + 1)) (record { shape = shape; kind = Stub scion })
head_stands home end scion shape image after is_shape within is_scion puts =
    let at_first : home + 0 ≡ home = omega arith in
    record {
      first_word = record {
        in_range = is_shape;
        within = within;
        spelled = ap after (sym at_first) ∙ puts.here 0 (omega arith);
      };
      second_word = (is_scion, puts.here 1 (omega arith));
    }

-- The image of the disk's words after a Stub was written, for an object whose home word names home and scion.
pub stub_shows : (told new : Option (List ℕ)) (heap : Heap) (m : Relocation) {home scion : ℕ} (end : ℕ) (image : ℕ → ℕ)
    → Shows told image → Writes told home (stub_words home m.shape scion) new → IsShape m.shape
    → home + cost_of m.shape ≤ end → IsScion scion → NamesScion (word_at heap.space) m.to home scion
    → (after : ℕ → ℕ) × Shows new after × WritesStub heap m home end image after
stub_shows told new heap m {home} {scion} end image shows writes is_shape within is_scion names =
    let w : ShowsWrite new image home (stub_words home m.shape scion) =
    write_shows told home (stub_words home m.shape scion) new image shows writes in (
      w.after,
      w.shows,
      record {
        stub = λ other named.
            let same : scion ≡ other = (one_name (word_at heap.space) m.to home scion home other names named).1 in
            subst (λ (k : ℕ). IsHead home end (w.after home) (w.after (home + 1)) (record {
              shape = m.shape;
              kind = Stub k;
            })) same (head_stands home end scion m.shape image w.after is_shape within is_scion w.puts);
        others = λ at outside. w.puts.others at (elim outside [
          | inl before ↦ inl before
          | inr later ↦ inr (omega (arith, later))
        ]);
      },
    )

-- the only object of a list of one
only_one : (m x : Relocation) (k : ℕ) → slice_get (m ∷ []) k ≡ Some x → m ≡ x
only_one m x zero at = same_Some m x at
only_one m x (suc k) at = absurd (cc)

-- one with a new home gets its Stub there
pub one_stub : (homes : NewHomes) {m : Relocation} {heap : Heap} {end home : ℕ} {image after : ℕ → ℕ}
    → home ≡ given_home homes m → home ≢ 0 → WritesStub heap m home end image after
    → WritesStubs homes (m ∷ []) heap end image after
one_stub homes {m} {heap} {end} {image} {after} same some writes =
    let writes_there : WritesStub heap m (given_home homes m) end image after =
    subst (λ (h : ℕ). WritesStub heap m h end image after) same writes in
    record {
      stubs = λ k x scion at there names.
          let one : m ≡ x = only_one m x k at in
          let P : Relocation → Type 0 = λ y. (scion : ℕ)
          → NamesScion (word_at heap.space) y.to (given_home homes y) scion
          → IsHead (given_home homes y) end (after (given_home homes y)) (after (given_home homes y + 1)) (record {
            shape = y.shape;
            kind = Stub scion;
          }) in
          subst P one writes_there.stub scion names;
      others = λ at outside. writes_there.others at (outside 0 m refl (λ none. some (same ∙ none)));
    }

-- before the first turn no Stub was written
pub stubs_start : (homes : NewHomes) (moves : List Relocation) (heap : Heap) (end : ℕ) (image : ℕ → ℕ)
    → WritesStubs homes (take 0 moves) heap end image image
stubs_start homes moves heap end image =
    record { stubs = λ k m scion at. absurd (cc); others = λ at outside. refl }

-- one Stub more
module _ (homes : NewHomes) (moves : List Relocation) (count : ℕ) (m : Relocation) (end : ℕ) (now new : Heap)
    (image mid after : ℕ → ℕ) (at : slice_get moves count ≡ Some m)
    (before : WritesStubs homes (take count moves) now end image mid)
    (turn : WritesStubs homes (m ∷ []) new end mid after)
    (same : (k : ℕ) (x : Relocation) → slice_get moves k ≡ Some x → k ≢ count
    → word_at new.space (x.to + 1) ≡ word_at now.space (x.to + 1))
    (apart : (i j : ℕ) (x y : Relocation) → slice_get moves i ≡ Some x → slice_get moves j ≡ Some y → i ≢ j
    → given_home homes x ≢ 0 → given_home homes y ≢ 0
    → (given_home homes x + cost_of x.shape ≤ given_home homes y)
    ⊎ (given_home homes y + cost_of y.shape ≤ given_home homes x)) where
  -- the words of another home stay
  apart_stays : (k : ℕ) (x : Relocation) (i : ℕ) → slice_get moves k ≡ Some x → k ≢ count → given_home homes x ≢ 0
      → i < cost_of x.shape → after (given_home homes x + i) ≡ mid (given_home homes x + i)
  apart_stays k x i there other some within = turn.others (given_home homes x + i) (λ j y only wants.
      let one : m ≡ y = only_one m y j only in
      let wanted : given_home homes m ≢ 0 = λ none. wants (ap (given_home homes) (sym one) ∙ none) in
      subst (λ (z : Relocation). (given_home homes x + i < given_home homes z)
      ⊎ (given_home homes z + cost_of z.shape ≤ given_home homes x + i)) one
      (elim (apart k count x m there at other some wanted) [
        | inl less ↦ inl (omega (arith, less, within))
        | inr more ↦ inr (omega (arith, more))
      ]))

  pub stubs_more : WritesStubs homes (take (count + 1) moves) new end image after
  stubs_more = record {
    stubs = λ k x scion first some names.
        let is = slice_get-take moves (count + 1) k x first in
        elim (cases_eq k count) [
          | inl one ↦
              let mine : m ≡ x = same_Some m x (sym at ∙ (ap (slice_get moves) (sym one) ∙ is.1)) in
              turn.stubs 0 x scion (ap Some mine) some names
          | inr other ↦
              let home : ℕ = given_home homes x in
              let old = before.stubs k x scion
              (slice_get_in_front moves count k x (omega (arith, is.0, other)) is.1) some
              (same_name (word_at new.space) (word_at now.space) x.to home scion (sym (same k x is.1 other)) names) in
              let at_first : home + 0 ≡ home = omega arith in
              let one : mid home ≡ after home =
              ap mid (sym at_first) ∙ (sym (apart_stays k x 0 is.1 other some (omega arith)) ∙ ap after at_first) in
              let two : mid (home + 1) ≡ after (home + 1) =
              sym (apart_stays k x 1 is.1 other some (omega arith)) in
              subst (λ (w : ℕ). IsHead home end (after home) w (record { shape = x.shape; kind = Stub scion })) two
              (subst (λ (w : ℕ). IsHead home end w (mid (home + 1)) (record {
                shape = x.shape;
                kind = Stub scion;
              })) one old)
        ];
    others = λ place outside.
        turn.others place (λ j y only some.
        let mine : m ≡ y = only_one m y j only in
        outside count y (slice_get_in_front moves (count + 1) count y (omega arith) (at ∙ ap Some mine)) some)
        ∙ before.others place (λ k x first some.
        let is = slice_get-take moves count k x first in
        outside k x (slice_get_in_front moves (count + 1) k x (omega (arith, is.0)) is.1) some);
  }

-- how many new homes there are, with one object more
pub count_more : (homes : NewHomes) (moves : List Relocation) (count : ℕ) (m : Relocation)
    → slice_get moves count ≡ Some m
    → given_count homes (take (count + 1) moves) ≡ given_count homes (take count moves) + given_count homes (m ∷ [])
count_more homes moves count m at =
    let wants : Relocation → Bool = λ x. nat_lt 0 (given_home homes x) in
    let last : get_or moves count m ≡ m = get_or_from_slice_get moves count m m at in
    let more : take (count + 1) moves ≡ take count moves ++ m ∷ [] =
    take_more moves count m (slice_get_within moves count m at)
    ∙ ap (λ (x : Relocation). take count moves ++ x ∷ []) last in
    ap (λ (ms : List Relocation). length (filter wants ms)) more
    ∙ (ap length (filter-append wants (take count moves) (m ∷ []))
    ∙ length-append (filter wants (take count moves)) (filter wants (m ∷ [])))

kept : (b : Bool) (m : Relocation) (moves : List Relocation) (n : ℕ) → length moves ≤ n
    → length (if b then m ∷ moves else moves) ≤ suc n
kept true m moves n few = omega (arith, few)
kept false m moves n few = omega (arith, few)

count_within : (homes : NewHomes) (moves : List Relocation) → given_count homes moves ≤ length moves
count_within homes [] = omega arith
count_within homes (m ∷ moves) =
    kept (nat_lt 0 (given_home homes m)) m (filter (λ (x : Relocation). nat_lt 0 (given_home homes x)) moves)
    (length moves) (count_within homes moves)

-- at most one for each object
pub count_few : (homes : NewHomes) (moves : List Relocation) (count : ℕ)
    → given_count homes (take count moves) ≤ length moves
count_few homes moves count = omega (arith, count_within homes (take count moves), length-take count moves)
