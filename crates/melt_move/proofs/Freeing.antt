-- The scions that home words name, and what frees those of the objects that leave.
use Rattle.std.proofs.Common.{◌≡◌, ◌≢◌, ℕ, ◌+◌, ◌<◌, ◌⊎◌, List, length, refl, sym, ◌∙◌, ap, subst, arith, inl, inr}
use Rattle.std.specs.Option.{option_map}
use Rattle.std.specs.Prelude.{◌^◌, slice_get, is_some, Option, None, Some}
use Rattle.std.proofs.lemmas.Bool.{cases_eq}
use Rattle.std.proofs.lemmas.Option.{same_Some, slice_get_within}
use Rattle.melt_word.specs.Words.{IsHome, home_word}
use Rattle.melt_word.specs.declared.home.HomeWord.{HomeWord}
use Rattle.melt_space.specs.Space.{SpaceWords, IsWord, word_at}
use Rattle.melt_scion.specs.State.{State, Reached, Scion}
use Rattle.melt_scion.specs.Scions.{Scions, IsTable, IsLive, Frees, scion_at}
use Rattle.melt_scion.proofs.NobodyLeaves.{parts_of_word}
use Rattle.melt_move.specs.declared.choice.Departure.{Departure}
use Rattle.melt_move.specs.declared.decision.Decision.{Decision}
use Rattle.melt_move.specs.Plans.{IsDecision}
use Rattle.melt_move.specs.GivenScions.{NamesScion, NamesScionsOf, MayNameScion, FreesScions}

-- a word that names a scion is not 0
pub named_not_none : (word : ℕ → ℕ) (at home scion : ℕ) → NamesScion word at home scion → word (at + 1) ≢ 0
named_not_none word at home scion names none =
    omega (arith, names.is, none, names.in_range.home.not_null)

-- a word names one home and one scion
pub one_name : (word : ℕ → ℕ) (at home scion other_home other : ℕ) → NamesScion word at home scion
    → NamesScion word at other_home other → (home ≡ other_home) × (scion ≡ other)
one_name word at home scion other_home other first second =
    let a = parts_of_word (word (at + 1)) home scion first.in_range.scion first.is in
    let b = parts_of_word (word (at + 1)) other_home other second.in_range.scion second.is in
    (sym a.0 ∙ b.0, sym a.1 ∙ b.1)

-- a home word is that of a home, or of none
pub home_word_is : (word : ℕ → ℕ) (at : ℕ) → MayNameScion word at
    → (h : Option HomeWord) × IsHome h × (word (at + 1) ≡ home_word h)
home_word_is word at names = elim names [
  | inl none ↦ (None, tt, none)
  | inr some ↦ (Some (record { home = some.0; scion = some.1 }), some.2.in_range, some.2.is)
]

-- One of the first objects names the scion.
pub record IsOfFirst (word : ℕ → ℕ) (leaving : List Departure) (count scion : ℕ) : Type 0 where
  pub index : ℕ
  pub departure : Departure
  pub home : ℕ
  pub below : index < count
  pub is : slice_get leaving index ≡ Some departure
  pub names : NamesScion word departure.from home scion

-- The scions of the first objects, so many of them, are free, and all others are as before.
pub record FreesFirst (word : ℕ → ℕ) (leaving : List Departure) (count : ℕ) (old new : Scions) : Type 0 where
  pub gone : (scion : ℕ) → IsOfFirst word leaving count scion → scion_at new scion ≡ None
  pub others : (scion : ℕ) → (IsOfFirst word leaving count scion → ⊥) → scion_at new scion ≡ scion_at old scion
  pub is_table : IsTable new
  pub size : length new.pairs ≡ length old.pairs

-- one of the first objects is one of one more
one_more : (word : ℕ → ℕ) (leaving : List Departure) (count scion : ℕ) → IsOfFirst word leaving count scion
    → IsOfFirst word leaving (count + 1) scion
one_more word leaving count scion of = record {
  index = of.index;
  departure = of.departure;
  home = of.home;
  below = omega (arith, of.below);
  is = of.is;
  names = of.names;
}

module _ (word : ℕ → ℕ) (leaving : List Departure) (count : ℕ) (d : Departure) (old now : Scions)
    (at : slice_get leaving count ≡ Some d) (frees : FreesFirst word leaving count old now) where
  -- an object among one more is one of the first ones, or this one
  last_or : (scion : ℕ) → IsOfFirst word leaving (count + 1) scion
      → IsOfFirst word leaving count scion ⊎ ((home : ℕ) × NamesScion word d.from home scion)
  last_or scion of = elim (cases_eq of.index count) [
    | inl same ↦
        let both : Some of.departure ≡ Some d = sym of.is ∙ (ap (slice_get leaving) same ∙ at) in
        let one : of.departure ≡ d = same_Some of.departure d both in
        inr (of.home, subst (λ (x : Departure). NamesScion word x.from of.home scion) one of.names)
    | inr other ↦ inl (record {
      index = of.index;
      departure = of.departure;
      home = of.home;
      below = omega (arith, of.below, other);
      is = of.is;
      names = of.names;
    })
  ]

  -- one scion more is free
  pub frees_more : (new : Scions) (home scion : ℕ) → NamesScion word d.from home scion → Frees now new scion
      → IsTable new → FreesFirst word leaving (count + 1) old new
  frees_more new home scion names free table = record {
    gone = λ k of. elim (cases_eq k scion) [
      | inl same ↦ ap (scion_at new) same ∙ free.gone
      | inr other ↦ elim (last_or k of) [
        | inl first ↦ free.others k other ∙ frees.gone k first
        | inr last ↦ absurd (other (one_name word d.from last.0 k home scion last.1 names).1)
      ]
    ];
    others = λ k not_of.
        let other : k ≢ scion =
        λ same. not_of (record {
          index = count;
          departure = d;
          home = home;
          below = omega arith;
          is = at;
          names = subst (NamesScion word d.from home) (sym same) names;
        }) in
        free.others k other ∙ frees.others k (λ of. not_of (one_more word leaving count k of));
    is_table = table;
    size = free.size ∙ frees.size;
  }

  -- an object without a home
  pub frees_none : word (d.from + 1) ≡ 0 → FreesFirst word leaving (count + 1) old now
  frees_none none = record {
    gone = λ k of. elim (last_or k of) [
      | inl first ↦ frees.gone k first
      | inr last ↦ absurd (named_not_none word d.from last.0 k last.1 none)
    ];
    others = λ k not_of. frees.others k (λ of. not_of (one_more word leaving count k of));
    is_table = frees.is_table;
    size = frees.size;
  }

-- all of them
pub frees_all : (word : ℕ → ℕ) (leaving : List Departure) (count : ℕ) (old new : Scions) → length leaving ≡ count
    → FreesFirst word leaving count old new → FreesScions word leaving old new
frees_all word leaving count old new whole frees = record {
  gone = λ scion of. frees.gone scion (record {
    index = of.0;
    departure = of.1;
    home = of.2;
    below = omega (arith, whole, slice_get_within leaving of.0 of.1 of.3);
    is = of.3;
    names = of.4;
  });
  others = λ scion not_of. frees.others scion (λ of. not_of (of.index, of.departure, of.home, of.is, of.names));
  is_table = frees.is_table;
  size = frees.size;
}

not_below : (i k : ℕ) → i ≡ k → i < k → ⊥
not_below i k same below = omega (arith, same, below)

-- what a scion of the table names
pair_in : (scions : Scions) (scion home address : ℕ) (pair : Option (ℕ × ℕ)) → pair ≡ scion_at scions scion
    → option_map {U = Scion} (λ (p : ℕ × ℕ). record { home = p.0; address = p.1 }) pair
    ≡ Some (record { home = home; address = address }) → scion_at scions scion ≡ Some (home, address)
pair_in scions scion home address None of is = absurd (cc)
pair_in scions scion home address (Some pair) of is =
    let same : Scion = record { home = home; address = address } in
    let there : Scion = record { home = pair.0; address = pair.1 } in
    let one : there ≡ same = same_Some there same is in
    sym of ∙ ap (λ (x : Scion). Some (x.home, x.address)) one

-- The home word of an object that leaves names a live scion, which names both, or none.
pub record DepartureIs (space : SpaceWords) (scions : Scions) (d : Departure) : Type 0 where
  pub within : IsWord space (d.from + 1)
  pub small : d.from + 1 < 2 ^ 32
  pub names : MayNameScion (word_at space) d.from
  pub live : (home scion : ℕ) → NamesScion (word_at space) d.from home scion
      → scion_at scions scion ≡ Some (home, d.from)

module _ (space : SpaceWords) (s : State) (decision : Decision) (scions : Scions)
    (decided : IsDecision space s decision) (named : NamesScionsOf s scions) where
  pub departure_is : (k : ℕ) (d : Departure) → slice_get decision.choice.leaving.items k ≡ Some d
      → DepartureIs space scions d
  departure_is k d at =
      let reached : Reached s d.from = (decided.choice.leave.each k d at).0.0 in
      let object = (decided.seen.whole.objects d.from reached).1 in
      let size = decided.seen.size in
      let small = decided.seen.whole.small in
      let same = decided.seen.word (d.from + 1) in
      record {
        within = record {
          first = omega arith;
          last = omega (arith, object.within, size);
        };
        small = omega (arith, object.within, small);
        names = elim (decided.old_homes d.from reached) [
          | inl none ↦ inl (sym same ∙ none)
          | inr old ↦ inr (
            old.0,
            old.1,
            record { in_range = old.2.in_range; some = old.2.some; is = sym same ∙ old.2.is },
          )
        ];
        live = λ home scion names. elim (decided.old_homes d.from reached) [
          | inl none ↦ absurd (named_not_none (word_at space) d.from home scion names (sym same ∙ none))
          | inr old ↦
              let one = one_name (word_at space) d.from home scion old.0 old.1 names
              (record { in_range = old.2.in_range; some = old.2.some; is = sym same ∙ old.2.is }) in
              let there : scion_at scions old.1 ≡ Some (old.0, d.from) =
              pair_in scions old.1 old.0 d.from (scion_at scions old.1) refl (sym (named.is old.1) ∙ old.2.live) in
              ap (scion_at scions) one.1 ∙ (there ∙ ap (λ (h : ℕ). Some (h, d.from)) (sym one.0))
        ];
      }

  -- The scion of an object that leaves is live still while those of the objects before it are free.
  pub still_live : (k : ℕ) (d : Departure) (now : Scions) (home scion : ℕ)
      → slice_get decision.choice.leaving.items k ≡ Some d
      → FreesFirst (word_at space) decision.choice.leaving.items k scions now
      → NamesScion (word_at space) d.from home scion → IsLive now scion
  still_live k d now home scion at frees names =
      let live = (departure_is k d at).live home scion names in
      let not_of : IsOfFirst (word_at space) decision.choice.leaving.items k scion → ⊥ =
      λ of.
      let other = (departure_is of.index of.departure of.is).live of.home scion of.names in
      let both : Some (of.home, of.departure.from) ≡ Some (home, d.from) = sym other ∙ live in
      let pair : (of.home, of.departure.from) ≡ (home, d.from) =
      same_Some (of.home, of.departure.from) (home, d.from) both in
      let one : of.index ≡ k =
      decided.choice.leave.once of.index k of.departure d of.is at (ap (λ (p : ℕ × ℕ). p.1) pair) in
      not_below of.index k one of.below in
      ap is_some (frees.others scion not_of ∙ live)
