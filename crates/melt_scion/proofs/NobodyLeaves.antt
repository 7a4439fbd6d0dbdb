-- A collection in which nobody leaves: nobody gets a home, so names of homes stay as they were, and so does the disk.
use Rattle.std.proofs.Common.{◌≡◌, ◌≢◌, ℕ, ◌+◌, ◌*◌, ◌<◌, ◌≤◌, sym, ◌∙◌, ap, subst, arith, ◌⊎◌, inl}
use Rattle.std.proofs.Common.{inr, List}
use Rattle.std.specs.Prelude.{◌^◌, Some}
use Rattle.melt_model.specs.declared.reports.Phase.{Phase}
use Rattle.melt_word.specs.Words.{home_word, home_part, scion_part}
use Rattle.melt_word.proofs.OneToOne.{home_part_is, scion_part_is}
use Rattle.melt_scion.specs.State.{Home, State, Follow, IsReserved, Reached}
use Rattle.melt_scion.specs.Placed.{Maps, Formed}
use Rattle.melt_scion.specs.Moves.{Leaves}
use Rattle.melt_scion.specs.Settles.{SameHomes}
use Rattle.melt_scion.specs.Moves.{GetsHome, GivesHomes, NamesHomes, MovesDisk}
use Rattle.melt_scion.proofs.Reaching.{reached_named}

-- no object leaves
abbrev pub NobodyLeaves : Phase → State → Type 0
NobodyLeaves phase s = (a : ℕ) → Leaves phase s a → ⊥

-- each object that was reached has the home of its home word, or none
abbrev pub HasOldHomes : State → (ℕ → ℕ) → Type 0
HasOldHomes s home = (a : ℕ) → Reached s a
    → (home a ≡ 0) ⊎ ((scion : ℕ) × (s.word (a + 1) ≡ home_word (Some (record { home = home a; scion = scion }))))

module _ (s : State) (home : ℕ → ℕ) (old : HasOldHomes s home) where
  -- so nobody gets a home
  pub gets_none : (a : ℕ) → GetsHome s home a → ⊥
  gets_none a gets = elim (old a gets.reached) [
    | inl none ↦ gets.has_one none
    | inr has ↦
        let word : s.word (a + 1) ≡ 4294967296 * home a + 4 * has.0 = has.1 in
        let empty : s.word (a + 1) ≡ 0 = gets.had_none in
        let some : home a ≢ 0 = gets.has_one in
        omega arith
  ]

  -- the names of homes are those from before
  pub names_stay : (maps new : Maps) → ((k : ℕ) → new.home k ≡ maps.home k) → NamesHomes maps new s home
  names_stay maps new same = record {
    old = λ k n has. same k ∙ has;
    new_homes = λ a n gets named. absurd (gets_none a gets);
    only = λ k n has. inl (sym (same k) ∙ has);
  }

  -- and the disk may stay as it was
  pub disk_stays : (phase : Phase) (t : State) (to scion : ℕ → ℕ) → NobodyLeaves phase s → SameHomes s.base t.base →
      ((k : ℕ) → t.base.image k ≡ s.base.image k) → MovesDisk phase s t to home scion
  disk_stays phase t to scion nobody same image = record {
    follow = λ follows.
        subst (λ (homes : List Home). Follow 1 homes t.base.end) (sym same.homes)
        (subst (λ (end : ℕ). Follow 1 s.base.homes end) (sym same.end) follows);
    old_homes = λ k z. subst (λ (homes : List Home). IsReserved homes k z) (sym same.homes);
    only_homes = λ k z is. inl (subst (λ (homes : List Home). IsReserved homes k z) same.homes is);
    free_homes = same.free_homes;
    bodies = λ a header leaves starts. absurd (nobody a leaves);
    stubs = λ a header gets some starts. absurd (gets_none a gets);
    kept = λ k j z is others below. image (k + j);
  }

-- the home in the home word of an object, and 0 where it has none
abbrev pub old_home : State → ℕ → ℕ
old_home s a = home_part (s.word (a + 1))

-- the scion there
abbrev pub old_scion : State → ℕ → ℕ
old_scion s a = scion_part (s.word (a + 1))

-- the home and the scion of a home word
pub parts_of_word : (word home scion : ℕ) → scion < 2 ^ 30
    → word ≡ home_word (Some (record { home = home; scion = scion }))
    → (home_part word ≡ home) × (scion_part word ≡ scion)
parts_of_word word home scion small is =
    (ap home_part is ∙ home_part_is home scion small, ap scion_part is ∙ scion_part_is home scion small)

module _ (maps : Maps) (s : State) (formed : Formed maps s) where
  -- these are homes as they were
  pub has_old_homes : HasOldHomes s (old_home s)
  has_old_homes a reached =
      let named = reached_named maps s a formed reached in
      let object = formed.words.objects a named.0 named.1 in
      elim (formed.words.home_words a named.0 object.0 named.1 object.1.starts) [
        | inl none ↦ inl (ap home_part none)
        | inr has ↦
            let parts = parts_of_word (s.word (a + 1)) has.0 has.1 has.2.in_range.scion has.2.is in
            inr (has.1, has.2.is ∙ ap (λ (h : ℕ). home_word (Some (record { home = h; scion = has.1 }))) (sym parts.0))
      ]

  -- where nobody leaves, these are the homes of a collection that keeps the end
  pub homes_stay : (phase : Phase) (t : State) (to : ℕ → ℕ) → NobodyLeaves phase s → t.base.end ≡ s.base.end →
      GivesHomes phase s t to (old_home s) (old_scion s)
  homes_stay phase t to nobody end = record {
    kept = λ a home scion reached range is.
        let parts = parts_of_word (s.word (a + 1)) home scion range.scion is in (parts.0, λ some. parts.1);
    leaving = λ a leaves. absurd (nobody a leaves);
    named = λ a is. absurd (nobody is.object is.leaves);
    only = λ a gets. absurd (gets_none s (old_home s) has_old_homes a gets);
    new = λ a header gets starts. absurd (gets_none s (old_home s) has_old_homes a gets);
    first_end = formed.words.first_end;
    end = omega arith;
    small_end = let small : s.base.end ≤ 4294967296 = formed.words.small_end in omega arith;
  }
