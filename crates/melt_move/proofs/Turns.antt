-- The scions of objects that stay, one after the other.
use Rattle.std.proofs.Common.{◌≡◌, ◌≢◌, ℕ, ◌+◌, ◌<◌, List, length, refl, sym, ◌∙◌, ap, subst, arith, inl, inr}
use Rattle.std.specs.Prelude.{◌^◌, slice_get, Some, None}
use Rattle.std.specs.List.{Contains}
use Rattle.std.specs.Option.{option_map}
use Rattle.std.proofs.lemmas.Bool.{cases_eq}
use Rattle.std.proofs.lemmas.Option.{same_Some}
use Rattle.melt_record.specs.Records.{IsScion}
use Rattle.melt_scion.specs.Scions.{Scions, IsTable, IsUnused, Adds, SetsAddress, scion_at}
use Rattle.melt_scion.proofs.Numbers.{contains_here}
use Rattle.melt_copy.specs.declared.forwarding.Relocation.{Relocation}
use Rattle.melt_move.specs.declared.homes.NewHomes.{NewHomes}
use Rattle.melt_move.specs.GivenScions.{NamesScion, given_home}
use Rattle.melt_move.proofs.Freeing.{named_not_none, one_name}

-- a live scion is not unused
not_fresh : (scions : Scions) (scion : ℕ) (pair : ℕ × ℕ) → scion_at scions scion ≡ Some pair
    → scion_at scions scion ≡ None → ⊥
not_fresh scions scion pair live none = let both : Some pair ≡ None = sym live ∙ none in cc

-- the number that is given is a scion
pub given_scion : (old new : Scions) (home address scion : ℕ) → IsTable old → length old.pairs < 2 ^ 30
    → Adds old new home address scion → IsScion scion
given_scion old new home address scion table few adds =
    let first : IsUnused old scion =
    (table.unused scion).0
    (subst (λ (xs : List ℕ). Contains xs scion) (sym adds.given) (contains_here scion new.unused)) in
    record { not_null = first.from_1; small = omega (arith, first.in_range, few) }

-- The scion is live for this home; its address is the new one of its object once the turn of that has come.
pub record IsLiveFor (scions : Scions) (count k : ℕ) (m : Relocation) (home scion : ℕ) : Type 0 where
  pub address : ℕ
  pub is : scion_at scions scion ≡ Some (home, address)
  pub moved : k < count → address ≡ m.to

-- the object of a live scion, whose address is the new one once its turn has come
pub record IsOwner (moves : List Relocation) (count : ℕ) (word : ℕ → ℕ) (scion : ℕ) (pair : ℕ × ℕ) : Type 0 where
  pub index : ℕ
  pub move : Relocation
  pub is : slice_get moves index ≡ Some move
  pub names : NamesScion word move.to pair.0 scion
  pub moved : index < count → pair.1 ≡ move.to

-- What stands once the turns of the first objects, so many of them, have come: their new homes are named, each scion
-- that is named is live, and each live scion is named by one object.
pub record ScionsFirst (homes : NewHomes) (moves : List Relocation) (count : ℕ) (old word : ℕ → ℕ)
    (scions : Scions) : Type 0 where
  pub given : (k : ℕ) (m : Relocation) → k < count → slice_get moves k ≡ Some m → given_home homes m ≢ 0
      → (scion : ℕ) × NamesScion word m.to (given_home homes m) scion
  pub live : (k : ℕ) (m : Relocation) (home scion : ℕ) → slice_get moves k ≡ Some m
      → NamesScion word m.to home scion → IsLiveFor scions count k m home scion
  pub own : (i j : ℕ) (m n : Relocation) (home other scion : ℕ) → slice_get moves i ≡ Some m
      → slice_get moves j ≡ Some n → NamesScion word m.to home scion → NamesScion word n.to other scion → i ≡ j
  pub only : (scion : ℕ) (pair : ℕ × ℕ) → scion_at scions scion ≡ Some pair → IsOwner moves count word scion pair
  pub words : (at : ℕ)
      → ((k : ℕ) (m : Relocation) → k < count → slice_get moves k ≡ Some m → given_home homes m ≢ 0 → at ≢ m.to + 1)
      → word at ≡ old at

same_move : (moves : List Relocation) (k count : ℕ) (x m : Relocation) → slice_get moves k ≡ Some x
    → slice_get moves count ≡ Some m → k ≡ count → x ≡ m
same_move moves k count x m there at same =
    same_Some x m (sym there ∙ (ap (slice_get moves) same ∙ at))

-- a home word that is the same names the same
pub same_name : (word after : ℕ → ℕ) (at home scion : ℕ) → after (at + 1) ≡ word (at + 1)
    → NamesScion word at home scion → NamesScion after at home scion
same_name word after at home scion same names =
    record { in_range = names.in_range; some = names.some; is = same ∙ names.is }

module _ (homes : NewHomes) (moves : List Relocation) (count : ℕ) (old word : ℕ → ℕ) (scions : Scions)
    (m : Relocation) (at : slice_get moves count ≡ Some m)
    (before : ScionsFirst homes moves count old word scions) where
  here : (k : ℕ) (x : Relocation) → slice_get moves k ≡ Some x → k ≡ count → x ≡ m
  here k x there same = same_move moves k count x m there at same

  name_here : (after : ℕ → ℕ) (k : ℕ) (x : Relocation) (home scion : ℕ) → slice_get moves k ≡ Some x → k ≡ count
      → NamesScion after x.to home scion → NamesScion after m.to home scion
  name_here after k x home scion there same names =
      subst (λ (y : Relocation). NamesScion after y.to home scion) (here k x there same) names

  given_here : (k : ℕ) (x : Relocation) → slice_get moves k ≡ Some x → k ≡ count
      → given_home homes x ≡ given_home homes m
  given_here k x there same = ap (given_home homes) (here k x there same)

  less : (k : ℕ) → k < count + 1 → k ≢ count → k < count
  less k below other = omega (arith, below, other)

  -- an object without a home
  pub none_more : word (m.to + 1) ≡ 0 → given_home homes m ≡ 0
      → ScionsFirst homes moves (count + 1) old word scions
  none_more none no_home = record {
    given = λ k x below there some. elim (cases_eq k count) [
      | inl same ↦ absurd (some (given_here k x there same ∙ no_home))
      | inr other ↦ before.given k x (less k below other) there some
    ];
    live = λ k x home scion there names.
        let is = before.live k x home scion there names in record {
          address = is.address;
          is = is.is;
          moved = λ below. elim (cases_eq k count) [
            | inl same ↦ absurd (named_not_none word m.to home scion (name_here word k x home scion there same names)
                none)
            | inr other ↦ is.moved (less k below other)
          ];
        };
    own = before.own;
    only = λ scion pair live.
        let is = before.only scion pair live in record {
          index = is.index;
          move = is.move;
          is = is.is;
          names = is.names;
          moved = λ below. elim (cases_eq is.index count) [
            | inl same ↦ absurd (named_not_none word m.to pair.0 scion
                (name_here word is.index is.move pair.0 scion is.is same is.names) none)
            | inr other ↦ is.moved (less is.index below other)
          ];
        };
    words = λ place free. before.words place (λ k x below. free k x (omega (arith, below)));
  }

  -- an object whose scion is told its new address
  pub told_more : (new : Scions) (home scion : ℕ) → given_home homes m ≡ 0 → NamesScion word m.to home scion
      → SetsAddress scions new scion m.to → ScionsFirst homes moves (count + 1) old word new
  told_more new home scion no_home names sets =
      let was = before.live count m home scion at names in
      let now : scion_at new scion ≡ Some (home, m.to) =
      sets.here ∙ ap (option_map (λ (pair : ℕ × ℕ). (pair.0, m.to))) was.is in
      record {
        given = λ k x below there some. elim (cases_eq k count) [
          | inl same ↦ absurd (some (given_here k x there same ∙ no_home))
          | inr other ↦ before.given k x (less k below other) there some
        ];
        live = λ k x h n there named. elim (cases_eq n scion) [
          | inl same ↦
              let again : NamesScion word x.to h scion =
              subst (λ (i : ℕ). NamesScion word x.to h i) same named in
              let one : k ≡ count = before.own k count x m h home scion there at again names in
              let mine = one_name word m.to h scion home scion (name_here word k x h scion there one again) names in
              record {
                address = m.to;
                is = ap (scion_at new) same ∙ (now ∙ ap (λ (i : ℕ). Some (i, m.to)) (sym mine.0));
                moved = λ below. ap (λ (y : Relocation). y.to) (sym (here k x there one));
              }
          | inr other ↦
              let is = before.live k x h n there named in record {
                address = is.address;
                is = sets.others n other ∙ is.is;
                moved = λ below. elim (cases_eq k count) [
                  | inl same ↦ absurd (other (one_name word m.to h n home scion
                      (name_here word k x h n there same named) names).1)
                  | inr apart ↦ is.moved (less k below apart)
                ];
              }
        ];
        own = before.own;
        only = λ n pair live. elim (cases_eq n scion) [
          | inl same ↦
              let both : Some (home, m.to) ≡ Some pair = sym now ∙ (ap (scion_at new) (sym same) ∙ live) in
              let one : (home, m.to) ≡ pair = same_Some (home, m.to) pair both in
              subst (IsOwner moves (count + 1) word n) one (record {
                index = count;
                move = m;
                is = at;
                names = subst (λ (i : ℕ). NamesScion word m.to home i) (sym same) names;
                moved = λ below. refl;
              })
          | inr other ↦
              let is = before.only n pair (sym (sets.others n other) ∙ live) in record {
                index = is.index;
                move = is.move;
                is = is.is;
                names = is.names;
                moved = λ below. elim (cases_eq is.index count) [
                  | inl same ↦ absurd (other (one_name word m.to pair.0 n home scion
                      (name_here word is.index is.move pair.0 n is.is same is.names) names).1)
                  | inr apart ↦ is.moved (less is.index below apart)
                ];
              }
        ];
        words = λ place free. before.words place (λ k x below. free k x (omega (arith, below)));
      }

  -- an object that is given a scion for its new home
  pub given_more : (after : ℕ → ℕ) (new : Scions) (scion : ℕ) → word (m.to + 1) ≡ 0 → given_home homes m ≢ 0
      → Adds scions new (given_home homes m) m.to scion → NamesScion after m.to (given_home homes m) scion
      → ((k : ℕ) (x : Relocation) → slice_get moves k ≡ Some x → k ≢ count → x.to + 1 ≢ m.to + 1)
      → ((place : ℕ) → place ≢ m.to + 1 → after place ≡ word place)
      → ScionsFirst homes moves (count + 1) old after new
  given_more after new scion none some adds names apart others =
      let kept : (k : ℕ) (x : Relocation) (h n : ℕ) → slice_get moves k ≡ Some x → k ≢ count
      → NamesScion after x.to h n → NamesScion word x.to h n =
      λ k x h n there other. same_name after word x.to h n (sym (others (x.to + 1) (apart k x there other))) in
      let keeps : (k : ℕ) (x : Relocation) (h n : ℕ) → slice_get moves k ≡ Some x → k ≢ count
      → NamesScion word x.to h n → NamesScion after x.to h n =
      λ k x h n there other. same_name word after x.to h n (others (x.to + 1) (apart k x there other)) in
      let fresh : (k : ℕ) (x : Relocation) (h n : ℕ) → slice_get moves k ≡ Some x → NamesScion word x.to h n
      → n ≢ scion =
      λ k x h n there named same. not_fresh scions scion _
      (ap (scion_at scions) (sym same) ∙ (before.live k x h n there named).is) adds.was_unused in
      record {
        given = λ k x below there wants. elim (cases_eq k count) [
          | inl same ↦ (
            scion,
            subst (λ (y : Relocation). NamesScion after y.to (given_home homes y) scion)
                (sym (here k x there same)) names,
          )
          | inr other ↦
              let is = before.given k x (less k below other) there wants in
              (is.0, keeps k x (given_home homes x) is.0 there other is.1)
        ];
        live = λ k x h n there named. elim (cases_eq k count) [
          | inl same ↦
              let one = one_name after m.to h n (given_home homes m) scion (name_here after k x h n there same named)
              names in
              record {
                address = m.to;
                is = ap (scion_at new) one.1 ∙ (adds.here ∙ ap (λ (i : ℕ). Some (i, m.to)) (sym one.0));
                moved = λ below. ap (λ (y : Relocation). y.to) (sym (here k x there same));
              }
          | inr other ↦
              let was = kept k x h n there other named in
              let is = before.live k x h n there was in record {
                address = is.address;
                is = adds.others n (fresh k x h n there was) ∙ is.is;
                moved = λ below. is.moved (less k below other);
              }
        ];
        own = λ i j x y h g n first second a b. elim (cases_eq i count) [
          | inl same ↦ elim (cases_eq j count) [
            | inl also ↦ same ∙ sym also
            | inr other ↦
                let one = one_name after m.to h n (given_home homes m) scion (name_here after i x h n first same a)
                names in
                absurd (fresh j y g n second (kept j y g n second other b) one.1)
          ]
          | inr other ↦ elim (cases_eq j count) [
            | inl same ↦
                let one = one_name after m.to g n (given_home homes m) scion (name_here after j y g n second same b)
                names in
                absurd (fresh i x h n first (kept i x h n first other a) one.1)
            | inr also ↦
                before.own i j x y h g n first second (kept i x h n first other a) (kept j y g n second also b)
          ]
        ];
        only = λ n pair live. elim (cases_eq n scion) [
          | inl same ↦
              let both : Some (given_home homes m, m.to) ≡ Some pair =
              sym adds.here ∙ (ap (scion_at new) (sym same) ∙ live) in
              let one : (given_home homes m, m.to) ≡ pair = same_Some (given_home homes m, m.to) pair both in
              subst (IsOwner moves (count + 1) after n) one (record {
                index = count;
                move = m;
                is = at;
                names = subst (λ (i : ℕ). NamesScion after m.to (given_home homes m) i) (sym same) names;
                moved = λ below. refl;
              })
          | inr other ↦
              let is = before.only n pair (sym (adds.others n other) ∙ live) in
              let elsewhere : is.index ≢ count =
              λ same. named_not_none word m.to pair.0 n
              (name_here word is.index is.move pair.0 n is.is same is.names) none in
              record {
                index = is.index;
                move = is.move;
                is = is.is;
                names = keeps is.index is.move pair.0 n is.is elsewhere is.names;
                moved = λ below. is.moved (less is.index below elsewhere);
              }
        ];
        words = λ place free.
            others place (free count m (omega arith) at some)
            ∙ before.words place (λ k x below. free k x (omega (arith, below)));
      }
