-- What stands of heap and disk while the objects that stay get their scions, one after the other.
use Rattle.std.proofs.Common.{◌≡◌, ◌≢◌, ℕ, ◌+◌, ◌<◌, List, length, refl, sym, ◌∙◌, ap, subst, arith}
use Rattle.std.proofs.Common.{inl, inr}
use Rattle.std.specs.Prelude.{slice_get, is_some, Some}
use Rattle.std.proofs.lemmas.Bool.{cases_eq, cases_order}
use Rattle.std.proofs.lemmas.Option.{same_Some, slice_get_within}
use Rattle.melt_space.specs.Space.{SpaceWords, word_at}
use Rattle.melt_scion.specs.Scions.{Scions, IsTable, scion_at}
use Rattle.melt_scion.specs.declared.heap.Heap.{Heap}
use Rattle.melt_copy.specs.declared.forwarding.Relocation.{Relocation}
use Rattle.melt_move.specs.declared.homes.NewHomes.{NewHomes}
use Rattle.melt_move.specs.GivenScions.{AwaitScions, HaveScions, MayNameScion, NamesScion, given_home}
use Rattle.melt_move.specs.ScionTurns.{AwaitsTurn, SameBeside, TakesTurn}
use Rattle.melt_move.proofs.Freeing.{named_not_none, one_name}
use Rattle.melt_move.proofs.ScionRoom.{LieApart, few_moves, scions_few}
use Rattle.melt_move.proofs.Turns.{ScionsFirst, same_name, none_more, told_more, given_more}

-- The turns of the first objects, so many of them, have come.
pub record HaveFirst (homes : NewHomes) (moves : List Relocation) (count : ℕ) (old new : Heap) : Type 0 where
  pub scions : ScionsFirst homes moves count (word_at old.space) (word_at new.space) new.scions
  pub space_size : length new.space.list ≡ length old.space.list
  pub used : new.space.used ≡ old.space.used
  pub is_table : IsTable new.scions
  pub size : length new.scions.pairs ≡ length old.scions.pairs
  pub beside : SameBeside old new

module _ (homes : NewHomes) (moves : List Relocation) (end : ℕ) (old : Heap)
    (await : AwaitScions old homes moves end) where
  lie : LieApart (length old.space.list) moves
  lie = record { placed = await.placed; apart = await.apart }

  -- there are fewer than words
  pub moves_few : length moves < 1073741824
  moves_few = omega (arith, few_moves (length old.space.list) moves lie, await.small_space)

  -- two objects have two home words
  pub other_place : (i j : ℕ) (x y : Relocation) → slice_get moves i ≡ Some x → slice_get moves j ≡ Some y → i ≢ j
      → x.to + 1 ≢ y.to + 1
  other_place i j x y first second other same = elim (cases_order i j) [
    | inl one ↦ other one
    | inr (inl before) ↦ (let far = await.apart i j x y first second before in omega (arith, far, same))
    | inr (inr after) ↦ (let far = await.apart j i y x second first after in omega (arith, far, same))
  ]

  -- a home word before the first turn
  named_before : (k : ℕ) (m : Relocation) (home scion : ℕ) → slice_get moves k ≡ Some m
      → NamesScion (word_at old.space) m.to home scion → scion_at old.scions scion ≡ Some (home, m.from)
  named_before k m home scion at names = elim (await.old_homes k m at) [
    | inl none ↦ absurd (named_not_none (word_at old.space) m.to home scion names none)
    | inr has ↦
        let one = one_name (word_at old.space) m.to home scion has.0 has.1 names has.2 in
        ap (scion_at old.scions) one.1 ∙ (has.3 ∙ ap (λ (h : ℕ). Some (h, m.from)) (sym one.0))
  ]

  pub have_none : HaveFirst homes moves 0 old old
  have_none = record {
    scions = record {
      given = λ k m below. absurd (omega (arith, below));
      live = λ k m home scion at names. record {
        address = m.from;
        is = named_before k m home scion at names;
        moved = λ below. absurd (omega (arith, below));
      };
      own = λ i j m n home other scion first second a b.
          let both : Some (home, m.from) ≡ Some (other, n.from) =
          sym (named_before i m home scion first a) ∙ named_before j n other scion second b in
          let one : (home, m.from) ≡ (other, n.from) = same_Some (home, m.from) (other, n.from) both in
          await.once i j m n first second (ap (λ (p : ℕ × ℕ). p.1) one);
      only = λ scion pair live.
          let is = await.live scion pair live in
          record {
            index = is.0;
            move = is.1;
            is = is.2;
            names = is.4;
            moved = λ below. absurd (omega (arith, below));
          };
      words = λ at free. refl;
    };
    space_size = refl;
    used = refl;
    is_table = await.is_table;
    size = refl;
    beside = record { globals = refl; forward = refl; names = refl; maps = refl };
  }

  module _ (count : ℕ) (m : Relocation) (now : Heap) (at : slice_get moves count ≡ Some m)
      (first : HaveFirst homes moves count old now) where
    word_here : word_at now.space (m.to + 1) ≡ word_at old.space (m.to + 1)
    word_here = first.scions.words (m.to + 1) (λ k x below there some same.
        other_place k count x m there at (λ one. omega (arith, one, below)) (sym same))

    names_here : MayNameScion (word_at now.space) m.to
    names_here = elim (await.old_homes count m at) [
      | inl none ↦ inl (word_here ∙ none)
      | inr has ↦ inr (has.0, has.1, same_name (word_at old.space) (word_at now.space) m.to has.0 has.1 word_here has.2)
    ]

    -- the turn of the next object may come
    pub awaits : AwaitsTurn now homes m end
    awaits = record {
      lies = record {
        small = omega (arith, await.small_space, first.space_size);
        shape = await.shapes count m at;
        first = (await.placed count m at).0;
        last = (let last = (await.placed count m at).1 in omega (arith, last, first.space_size));
      };
      names = names_here;
      live = λ home scion names. ap is_some (first.scions.live count m home scion at names).is;
      wants = λ some.
          let new = await.new_homes count m at some in
          let few = scions_few (length old.space.list) moves count (word_at now.space) now.scions count m at
          (word_here ∙ new.0) lie first.scions.only first.is_table in
          record {
            no_home = word_here ∙ new.0;
            within = new.2;
            room = omega (arith, few, first.size, await.size);
            few = omega (arith, first.size, await.size, await.small_space);
          };
      small_end = await.small_end;
      is_table = first.is_table;
    }

    -- an object with a home word from before gets no new home
    no_new_home : (home scion : ℕ) → NamesScion (word_at now.space) m.to home scion → given_home homes m ≡ 0
    no_new_home home scion names = elim (cases_eq (given_home homes m) 0) [
      | inl none ↦ none
      | inr some ↦ absurd (named_not_none (word_at now.space) m.to home scion names
          (word_here ∙ (await.new_homes count m at some).0))
    ]

    module _ (new : Heap) (turn : TakesTurn homes m now new) where
      beside_more : SameBeside old new
      beside_more = record {
        globals = turn.beside.globals ∙ first.beside.globals;
        forward = turn.beside.forward ∙ first.beside.forward;
        names = turn.beside.names ∙ first.beside.names;
        maps = turn.beside.maps ∙ first.beside.maps;
      }

      -- the scions and the space, where the space is as before
      Stands : SpaceWords → Scions → Type 0
      Stands space scions = ScionsFirst homes moves (count + 1) (word_at old.space) (word_at space) scions

      stays : Stands now.space new.scions → new.space ≡ now.space → length new.scions.pairs ≡ length now.scions.pairs
          → HaveFirst homes moves (count + 1) old new
      unfolding Stands
      stays scions same size = record {
        scions = subst (λ (space : SpaceWords). Stands space new.scions) (sym same) scions;
        space_size = ap (λ (space : SpaceWords). length space.list) same ∙ first.space_size;
        used = ap (λ (space : SpaceWords). space.used) same ∙ first.used;
        is_table = turn.is_table;
        size = size ∙ first.size;
        beside = beside_more;
      }

      -- what stands once its turn has come
      pub have_more : HaveFirst homes moves (count + 1) old new
      unfolding Stands
      have_more = elim turn.is [
        | inl none ↦
            stays (subst (λ (scions : Scions). Stands now.space scions) (sym none.scions)
            (none_more homes moves count (word_at old.space) (word_at now.space) now.scions m at first.scions
            none.no_home none.no_new_home))
            none.space (ap (λ (scions : Scions). length scions.pairs) none.scions)
        | inr (inl told) ↦
            stays (told_more homes moves count (word_at old.space) (word_at now.space) now.scions m at first.scions
            new.scions told.home told.scion (no_new_home told.home told.scion told.names) told.names told.sets)
            told.space told.sets.size
        | inr (inr gives) ↦
            let given = gives.gives in
            let is = await.new_homes count m at gives.new_home in
            let names : NamesScion (word_at new.space) m.to (given_home homes m) given.scion = record {
              in_range = record {
                home = record { not_null = omega (arith, is.1); small = omega (arith, is.2, await.small_end) };
                scion = given.in_range.small;
              };
              some = omega (arith, given.in_range.not_null);
              is = given.sets.here;
            } in
            record {
              scions = given_more homes moves count (word_at old.space) (word_at now.space) now.scions m at first.scions
                  (word_at new.space) new.scions given.scion gives.no_home gives.new_home given.adds names
                  (λ k x there other. other_place k count x m there at other) given.sets.others;
              space_size = given.sets.size ∙ first.space_size;
              used = given.sets.used ∙ first.used;
              is_table = turn.is_table;
              size = given.adds.size ∙ first.size;
              beside = beside_more;
            }
      ]

      -- the home words of all other objects stay
      pub others_stay : (k : ℕ) (x : Relocation) → slice_get moves k ≡ Some x → k ≢ count
          → word_at new.space (x.to + 1) ≡ word_at now.space (x.to + 1)
      others_stay k x there other = elim turn.is [
        | inl none ↦ ap (λ (space : SpaceWords). word_at space (x.to + 1)) none.space
        | inr (inl told) ↦ ap (λ (space : SpaceWords). word_at space (x.to + 1)) told.space
        | inr (inr gives) ↦ gives.gives.sets.others (x.to + 1) (other_place k count x m there at other)
      ]

  -- once the turns of all have come
  pub have_all : (count : ℕ) (new : Heap) → length moves ≡ count → HaveFirst homes moves count old new
      → HaveScions homes moves old new
  have_all count new whole first =
      let below : (k : ℕ) (m : Relocation) → slice_get moves k ≡ Some m → k < count =
      λ k m at. omega (arith, slice_get_within moves k m at, whole) in
      record {
        new_homes = λ k m at some.
            let given = first.scions.given k m (below k m at) at some in
            let is = first.scions.live k m (given_home homes m) given.0 at given.1 in
            record {
              scion = given.0;
              names = given.1;
              live = is.is ∙ ap (λ (a : ℕ). Some (given_home homes m, a)) (is.moved (below k m at));
            };
        old_homes = λ k m home scion at names.
            let same : word_at new.space (m.to + 1) ≡ word_at old.space (m.to + 1) =
            first.scions.words (m.to + 1) (λ i x before there some. elim (cases_eq k i) [
              | inl one ↦
                  let mine : x ≡ m = same_Some x m (sym there ∙ (ap (slice_get moves) (sym one) ∙ at)) in
                  absurd (named_not_none (word_at old.space) m.to home scion names (await.new_homes k m at
                  (λ none. some (ap (given_home homes) mine ∙ none))).0)
              | inr other ↦ other_place k i m x at there other
            ]) in
            let is = first.scions.live k m home scion at
            (same_name (word_at old.space) (word_at new.space) m.to home scion same names) in
            is.is ∙ ap (λ (a : ℕ). Some (home, a)) (is.moved (below k m at));
        only = λ scion pair live.
            let is = first.scions.only scion pair live in
            (is.index, is.move, is.is, is.moved (below is.index is.move is.is), is.names);
        words = λ at free. first.scions.words at (λ k m before. free k m);
        space_size = first.space_size;
        used = first.used;
        is_table = first.is_table;
        size = first.size;
        globals = first.beside.globals;
        forward = first.beside.forward;
        names = first.beside.names;
        maps = first.beside.maps;
      }
