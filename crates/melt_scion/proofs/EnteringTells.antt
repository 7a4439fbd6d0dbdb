-- What the words tell when a stretch outside all objects becomes an object.
use Rattle.std.proofs.Common.{◌≡◌, ◌≢◌, ℕ, ◌+◌, ◌<◌, sym, ◌∙◌, ap, subst, arith, ◌⊎◌, inl, inr, List}
use Rattle.std.proofs.lemmas.Bool.Decides.{eqb_tells}
use Rattle.std.specs.Prelude.{Some, Contains}
use Rattle.melt_model.specs.History as model
use Rattle.melt_model.specs.History.{shape, last}
use Rattle.melt_model.specs.declared.history.Entry.{Entry}
use Rattle.melt_model.specs.declared.history.Value.TheVariants.{Num}
use Rattle.melt_model.specs.declared.history.Slot.TheVariants.{Field, Cell, Global}
use Rattle.melt_word.specs.Words.{IsHomeAndScion, home_word}
use Rattle.melt_word.specs.declared.header.Shape.{Shape}
use Rattle.melt_word.specs.declared.header.Header.{Header}
use Rattle.melt_record.specs.declared.head.Kind.TheVariants.{Stub}
use Rattle.melt_scion.specs.State.{Base, State, HeaderAt, Follow}
use Rattle.melt_scion.specs.Placed.{Maps, HeadIs, IsFreeHome, Stands, HomeStands, FormedWords, Tells}
use Rattle.melt_scion.proofs.Keeping.{KeepsObjects, Stands_stays}
use Rattle.melt_scion.proofs.Parts.{PartAt, slot_part, number_part}
use Rattle.melt_scion.proofs.Following.{SameValues}
use Rattle.melt_scion.proofs.Homes.{IsNowhere, BodyKeeps, HomeStands_stays}
use Rattle.melt_scion.proofs.Frame.{taken_stays}
use Rattle.melt_scion.proofs.Entering.{ObjectAppears, old_part, keeps_appears, name_cases, new_shape, header_was}

-- The words of the new object stand for its values, and its home word names the home that it has, if it has one.
pub record NewTells (k : List Entry) (new : Maps) (t : State) (at n : ℕ) (z : Shape) : Type 0 where
  pub shape_is : shape k n ≡ Some (record { refs = z.refs; nums = z.nums })
  pub slots : (i : ℕ) → i < z.refs → Stands new (t.word (at + 2 + i)) (last k (Field n i))
  pub numbers : (j : ℕ) → j < z.nums → Num (t.word (at + 2 + z.refs + j)) ≡ last k (Cell n j)
  pub homes : (home : ℕ) → new.home home ≡ Some n → HomeStands k new t home n
  pub home_words : (home : ℕ) → new.home home ≡ Some n →
      (scion : ℕ) × (t.word (at + 1) ≡ home_word (Some (record { home = home; scion = scion })))
  pub named_homes : (home scion : ℕ) → IsHomeAndScion (record { home = home; scion = scion }) →
      t.word (at + 1) ≡ home_word (Some (record { home = home; scion = scion })) → new.home home ≡ Some n

module _ (h k : List Entry) (maps new : Maps) (s t : State) (at n : ℕ) (z : Shape) (formed : FormedWords maps s)
    (appears : ObjectAppears maps new s t at n z) (values : SameValues h k) (tells : Tells h maps s)
    (nowhere : IsNowhere maps n) (words : NewTells k new t at n z) where
  abbrev keeps : KeepsObjects maps new s t
  keeps = keeps_appears maps new s t at n z formed appears

  abbrev cases : (a m : ℕ) → new.address a ≡ Some m → ((a ≡ at) × (m ≡ n)) ⊎ (maps.address a ≡ Some m)
  cases = name_cases maps new s t at n z formed appears

  abbrev was : (a m : ℕ) (hd : Header) → maps.address a ≡ Some m → HeaderAt t a hd → HeaderAt s a hd
  was = header_was maps new s t at n z formed appears

  abbrev stays : (a m p x : ℕ) (hd : Header) → PartAt maps s a m p x hd → t.word x ≡ s.word x
  stays = old_part maps new s t at n z formed appears

  one_address : (a b m : ℕ) → new.address a ≡ Some m → new.address b ≡ Some m → a ≡ b
  one_address a b m named_a named_b = elim (cases a m named_a) [
    | inl new_a ↦ elim (cases b m named_b) [
      | inl new_b ↦ new_a.0 ∙ sym new_b.0
      | inr old_b ↦ absurd (nowhere b (old_b ∙ ap Some new_a.1))
    ]
    | inr old_a ↦ elim (cases b m named_b) [
      | inl new_b ↦ absurd (nowhere a (old_a ∙ ap Some new_b.1))
      | inr old_b ↦ tells.one_address a b m old_a old_b
    ]
  ]

  bodies : (m : ℕ) → m ≢ n → BodyKeeps h k maps new m
  bodies m other = record {
    nowhere = λ none a named. elim (cases a m named) [ inl here ↦ other here.1 | inr old ↦ none a old ];
    slots = λ none i. values.last (Field m i);
    numbers = λ none j. values.last (Cell m j);
  }

  homes : (home m : ℕ) → new.home home ≡ Some m → HomeStands k new t home m
  homes home m is = elim (eqb_tells m n) [
    | inl same ↦ subst (HomeStands k new t home) (sym same.1) (words.homes home (is ∙ ap Some same.1))
    | inr other ↦
        HomeStands_stays h k maps new s t keeps home m (values.shapes m) (bodies m other.1)
        (tells.homes home m (sym (keeps.homes home) ∙ is))
  ]

  slots : (a m i : ℕ) (hd : Header) → new.address a ≡ Some m → HeaderAt t a hd → i < hd.shape.refs →
      Stands new (t.word (a + 2 + i)) (last k (Field m i))
  slots a m i hd named starts below = elim (cases a m named) [
    | inl here ↦
        let refs : hd.shape.refs ≡ z.refs = ap (λ (x : Shape). x.refs)
        (new_shape maps new s t at n z formed appears a hd here.0 starts) in
        subst (λ (c : ℕ). Stands new (t.word (c + 2 + i)) (last k (Field m i))) (sym here.0)
        (subst (λ (l : ℕ). Stands new (t.word (at + 2 + i)) (last k (Field l i))) (sym here.1)
        (words.slots i (omega arith)))
    | inr old ↦
        let at_s : HeaderAt s a hd = was a m hd old starts in
        subst (λ w. Stands new w (last k (Field m i)))
        (sym (stays a m (2 + i) (a + 2 + i) hd (slot_part maps s a m i hd old at_s below)))
        (subst (Stands new (s.word (a + 2 + i))) (sym (values.last (Field m i)))
        (Stands_stays maps new s t keeps (s.word (a + 2 + i)) (last h (Field m i))
        (tells.slots a m i hd old at_s below)))
  ]

  numbers : (a m j : ℕ) (hd : Header) → new.address a ≡ Some m → HeaderAt t a hd → j < hd.shape.nums →
      Num (t.word (a + 2 + hd.shape.refs + j)) ≡ last k (Cell m j)
  numbers a m j hd named starts below = elim (cases a m named) [
    | inl here ↦
        let same : hd.shape ≡ z = new_shape maps new s t at n z formed appears a hd here.0 starts in
        let nums : hd.shape.nums ≡ z.nums = ap (λ (x : Shape). x.nums) same in
        let place : a + 2 + hd.shape.refs + j ≡ at + 2 + z.refs + j =
        ap (λ (c : ℕ). c + 2 + hd.shape.refs + j) here.0 ∙ ap (λ (x : Shape). at + 2 + x.refs + j) same in
        ap (λ (y : ℕ). Num (t.word y)) place
        ∙ (words.numbers j (omega arith) ∙ ap (λ (l : ℕ). last k (Cell l j)) (sym here.1))
    | inr old ↦
        let at_s : HeaderAt s a hd = was a m hd old starts in
        ap Num (stays a m (2 + hd.shape.refs + j) (a + 2 + hd.shape.refs + j) hd
        (number_part maps s a m j hd old at_s below))
        ∙ (tells.numbers a m j hd old at_s below ∙ sym (values.last (Cell m j)))
  ]

  old_home_word : (a m : ℕ) → maps.address a ≡ Some m → t.word (a + 1) ≡ s.word (a + 1)
  old_home_word = keeps.home_word

  -- the words with one object more tell the later history
  pub Tells_enters : Tells k new t
  Tells_enters = record {
    one_address = one_address;
    one_home = λ a b m at_a at_b. tells.one_home a b m (sym (keeps.homes a) ∙ at_a) (sym (keeps.homes b) ∙ at_b);
    homes_follow = subst (λ (b : Base). Follow 1 b.homes b.end) (sym keeps.base) tells.homes_follow;
    taken = taken_stays maps new s t keeps h tells;
    free_homes = subst (λ (b : Base). (home : ℕ) → Contains b.free_homes home → IsFreeHome b home)
        (sym keeps.base) tells.free_homes;
    shapes = λ a m hd named starts. elim (cases a m named) [
      | inl here ↦
          ap (shape k) here.1
          ∙ (words.shape_is ∙ ap (λ (x : Shape). let y : model.Shape = record { refs = x.refs; nums = x.nums } in
          Some y) (sym (new_shape maps new s t at n z formed appears a hd here.0 starts)))
      | inr old ↦ values.shapes m (record { refs = hd.shape.refs; nums = hd.shape.nums })
          (tells.shapes a m hd old (was a m hd old starts))
    ];
    slots = slots;
    numbers = numbers;
    globals = λ g below.
        subst (λ w. Stands new w (last k (Global g))) (sym (appears.global g))
        (subst (Stands new (s.global g)) (sym (values.last (Global g)))
        (Stands_stays maps new s t keeps (s.global g) (last h (Global g))
        (tells.globals g (subst (λ (b : Base). g < b.globals) keeps.base below))));
    homes = homes;
    home_words = λ a m home named has. elim (cases a m named) [
      | inl here ↦
          subst (λ (c : ℕ). (scion : ℕ) × (t.word (c + 1) ≡ home_word (Some (record { home = home; scion = scion }))))
          (sym here.0)
          (words.home_words home (has ∙ ap Some here.1))
      | inr old ↦
          let before = tells.home_words a m home old (sym (keeps.homes home) ∙ has) in
          (before.0, old_home_word a m old ∙ before.1)
    ];
    named_homes = λ a m home scion named range is. elim (cases a m named) [
      | inl here ↦ words.named_homes home scion range (ap (λ (c : ℕ). t.word (c + 1)) (sym here.0) ∙ is) ∙ ap Some
          (sym here.1)
      | inr old ↦ keeps.homes home ∙ tells.named_homes a m home scion old range (sym (old_home_word a m old) ∙ is)
    ];
    stubs = λ j x live.
        let was_live : s.base.scion j ≡ Some x = sym (ap (λ (b : Base). b.scion j) keeps.base) ∙ live in
        let stub = tells.stubs j x was_live in (
          stub.0,
          stub.1,
          keeps.homes x.home ∙ stub.2,
          subst (λ (b : Base). HeadIs b x.home (record { shape = stub.1; kind = Stub j })) (sym keeps.base) stub.3,
        );
  }
