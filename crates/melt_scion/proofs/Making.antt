-- An object without a home appears, in words that its thread set to 0.
use Rattle.std.proofs.Common.{◌≡◌, ◌≢◌, ℕ, ◌+◌, ◌<◌, ◌≤◌, refl, sym, ◌∙◌, ap, subst, arith, inl, List, [], ◌∷◌, ◌++◌}
use Rattle.std.specs.Prelude.{Some, false}
use Rattle.melt_model.specs.History.{shape, made, write_of, Legal}
use Rattle.melt_model.specs.declared.history.Entry.{Entry}
use Rattle.melt_model.specs.declared.history.Act.TheVariants.{Make}
use Rattle.melt_model.specs.declared.history.Value.TheVariants.{Nil, Num}
use Rattle.melt_model.specs.declared.history.Slot.TheVariants.{Field, Cell}
use Rattle.melt_model.proofs.Histories.{last_unmade, last_unmade_cell}
use Rattle.melt_word.specs.Words.{IsShape, IsHomeAndScion, header_word, home_word, cost_of}
use Rattle.melt_word.specs.declared.header.Shape.{Shape}
use Rattle.melt_word.specs.declared.reference.Ref.TheVariants.{Null}
use Rattle.melt_forward.specs.Forwarding.{Sends}
use Rattle.melt_scion.specs.State.{Base, State}
use Rattle.melt_scion.specs.Placed.{Maps, IsReferenceWord, ForwardMayStand, Stands, FormedWords, Tells}
use Rattle.melt_scion.specs.Regions.{HasStored}
use Rattle.melt_scion.specs.Changes.{WordChanges, NameAppears}
use Rattle.melt_scion.proofs.Keeping.{same_forwards, ForwardMayStand_stays}
use Rattle.melt_scion.proofs.Entries.{was_made, made_shape}
use Rattle.melt_scion.proofs.Following.{quiet_entry}
use Rattle.melt_scion.proofs.Homes.{IsNowhere}
use Rattle.melt_scion.proofs.Entering.{stretch, ObjectAppears, NewWords, keeps_appears, Formed_enters}
use Rattle.melt_scion.proofs.EnteringTells.{Tells_enters}

-- the word of Null may stand anywhere
pub null_may : (maps : Maps) (s : State) (word : ℕ) → word ≡ 0 → IsReferenceWord maps s word
null_may maps s word is = record { reference = Null; in_range = tt; is = is; stands = tt }

-- it stands for Nil
pub null_stands : (maps : Maps) (word : ℕ) → word ≡ 0 → Stands maps word Nil
null_stands maps word is = record { reference = Null; in_range = tt; is = is; stands_for = refl }

-- objects with an address were made
pub named_made : (h : List Entry) (maps : Maps) (s : State) (a n : ℕ) → FormedWords maps s → Tells h maps s →
    maps.address a ≡ Some n → n < made h
named_made h maps s a n formed tells named =
    let object = formed.objects a n named in
    was_made h n (record { refs = object.0.shape.refs; nums = object.0.shape.nums })
    (tells.shapes a n object.0 named object.1.starts)

-- and so were those with a home
pub home_made : (h : List Entry) (maps : Maps) (s : State) (home n : ℕ) → Tells h maps s → maps.home home ≡ Some n →
    n < made h
home_made h maps s home n tells has =
    let stands = tells.homes home n has in
    was_made h n (record { refs = stands.reserved_for.refs; nums = stands.reserved_for.nums }) stands.shape_is

module _ (maps new : Maps) (s t : State) (at n stored : ℕ) (z : Shape) (formed : FormedWords maps s) (small : IsShape z)
    (holds : HasStored maps s (stretch at z) (λ k. 0) stored) (all : stored + 1 ≡ cost_of z)
    (changes : WordChanges s t at (header_word (record { shape = z; stale = false })))
    (named : NameAppears maps new at n) where
  appears : ObjectAppears maps new s t at n z
  appears = record {
    owns = holds.owns;
    named = named;
    base = changes.base;
    free = let e : t.free ≡ s.free = changes.free in omega arith;
    small = small;
    header = changes.here;
    others = λ k outside. changes.others k (λ here. outside (omega arith) (omega arith));
    global = changes.global;
    forwards = λ home a m is. same_forwards s t home a changes.base changes.forward;
  }

  -- the words after the header are 0
  zero_word : (q y : ℕ) → 1 ≤ q → q < cost_of z → y ≡ at + q → t.word y ≡ 0
  zero_word q y after below is = changes.others y (omega arith) ∙ (ap s.word is ∙ holds.are q after (omega arith))

  new_words : NewWords new t at z
  new_words = record {
    slots = λ i below. null_may new t (t.word (at + 2 + i))
        (zero_word (2 + i) (at + 2 + i) (omega arith) (omega arith) (omega arith));
    home_word = inl (zero_word 1 (at + 1) (omega arith) (omega arith) refl);
    forwards = λ p below.
        ForwardMayStand_stays maps new s t (keeps_appears maps new s t at n z formed appears) (t.forward p)
        (subst (ForwardMayStand maps s) (sym (changes.forward p))
        (formed.forwards p (subst (λ (b : Base). p < b.forwards) changes.base below)));
    one_forward = λ p q home a b in_p in_q sends_a sends_b.
        formed.one_forward p q home a b (subst (λ (c : Base). p < c.forwards) changes.base in_p)
        (subst (λ (c : Base). q < c.forwards) changes.base in_q)
        (subst (λ w. Sends w home a) (changes.forward p) sends_a)
        (subst (λ w. Sends w home b) (changes.forward q) sends_b);
  }

  -- the words with the new object are well formed
  pub Formed_made : FormedWords new t
  Formed_made = Formed_enters maps new s t at n z formed appears new_words

  no_home_word : (home scion : ℕ) → IsHomeAndScion (record { home = home; scion = scion }) →
      t.word (at + 1) ≢ home_word (Some (record { home = home; scion = scion }))
  no_home_word home scion range is =
      let none : t.word (at + 1) ≡ 0 = zero_word 1 (at + 1) (omega arith) (omega arith) refl in
      let some : 0 < home = range.home.not_null in
      omega arith

  -- and tell the history with its entry
  pub Tells_made : (h : List Entry) (e : Entry) (globals : ℕ) → Legal h globals → Tells h maps s → n ≡ made h →
      e.act ≡ Make z.refs z.nums →
      Tells (h ++ e ∷ []) new t
  Tells_made h e globals legal tells is act =
      let k : List Entry = h ++ e ∷ [] in
      let nowhere : IsNowhere maps n = λ a here. let below : n < made h = named_made h maps s a n formed tells here in
      omega arith in
      let no_home : (home : ℕ) → new.home home ≢ Some n =
      λ home here. let below : n < made h = home_made h maps s home n tells (sym (named.home home) ∙ here) in
      omega arith in
      let values = quiet_entry h e (ap write_of act) in
      Tells_enters h k maps new s t at n z formed appears values tells nowhere (record {
        shape_is = ap (shape k) is ∙ made_shape h e z.refs z.nums act;
        slots = λ i below.
            subst (Stands new (t.word (at + 2 + i)))
            (sym (values.last (Field n i) ∙ last_unmade h globals n i legal (omega arith)))
            (null_stands new (t.word (at + 2 + i))
            (zero_word (2 + i) (at + 2 + i) (omega arith) (omega arith) (omega arith)));
        numbers = λ j below.
            ap Num (zero_word (2 + z.refs + j) (at + 2 + z.refs + j) (omega arith) (omega arith) (omega arith))
            ∙ sym (values.last (Cell n j) ∙ last_unmade_cell h globals n j legal (omega arith));
        homes = λ home here. absurd (no_home home here);
        home_words = λ home here. absurd (no_home home here);
        named_homes = λ home scion range here. absurd (no_home_word home scion range here);
      })
