-- A forwarded object gets the scion of the Stub at its home: the state stands for the history for which it stood.
use Rattle.std.proofs.Common.{◌≡◌, ◌≢◌, ℕ, ◌+◌, ◌*◌, ◌<◌, sym, ◌∙◌, ap, subst, arith, inl, inr, List}
use Rattle.std.specs.Prelude.{Some}
use Rattle.std.proofs.lemmas.Bool.{cases_eq}
use Rattle.std.proofs.lemmas.Option.{same_Some}
use Rattle.melt_model.specs.declared.history.Entry.{Entry}
use Rattle.melt_model.specs.declared.history.Value.{Value}
use Rattle.melt_word.specs.Words.{IsHomeAndScion, home_word}
use Rattle.melt_word.specs.declared.header.Shape.{Shape}
use Rattle.melt_record.specs.declared.head.Head.{Head}
use Rattle.melt_record.specs.declared.head.Kind.TheVariants.{Stub}
use Rattle.melt_scion.specs.State.{Scion, State, IsReserved}
use Rattle.melt_scion.specs.Placed.{Maps, FormedWords, HeadIs, IsStub, HomeStands, Tells, value_at, Placed}
use Rattle.melt_scion.specs.Settles.{SettlesOne}
use Rattle.melt_scion.proofs.HomesApart.{reserved_once}
use Rattle.melt_scion.proofs.KeptRecords.{KeepsRecord, IsOneOfThree, HasStub, head_kept, three_kept, free_home_kept}
use Rattle.melt_scion.proofs.SameObjects.{HomesTell, reserved_on, was_free, tells_on}
use Rattle.melt_scion.proofs.Forwarded.{forwarded_object}
use Rattle.melt_scion.proofs.Settling.{was_forwarded, object_stood, home_word_same, settle_same, forwarded_on, live_on}
use Rattle.melt_scion.proofs.Settling.{live_before, this_scion, settle_registers}

module _ (maps : Maps) (s t : State) (place home address scion : ℕ)
    (settles : SettlesOne s t place home address scion) (formed : FormedWords maps s) (z : Shape)
    (head : HeadIs s.base home (record { shape = z; kind = Stub scion })) (reserved : IsReserved s.base.homes home z)
    (h : List Entry) (tells : Tells h maps s) where
  -- the number of the object
  abbrev number : ℕ
  number = (object_stood maps s t place home address scion settles formed).named.0

  is_named : maps.address address ≡ Some number
  is_named = (object_stood maps s t place home address scion settles formed).named.1

  -- which its home has
  has_number : maps.home home ≡ Some number
  has_number =
      forwarded_object maps s home address formed
      (was_forwarded maps s t place home address scion settles formed) h tells

  -- no record changes
  record_on : (k : ℕ) (y : Shape) → KeepsRecord s.base t.base k y
  record_on k y = record {
    end = let end : t.base.end ≡ s.base.end = settles.same_homes.end in omega arith;
    words = λ j below. settles.image (k + j);
  }

  head_on : (k : ℕ) (it : Head) → HeadIs s.base k it → HeadIs t.base k it
  head_on k it is = head_kept s.base t.base k it.shape (record_on k it.shape) it is

  -- nor does a home
  reserved_then : (k : ℕ) (y : Shape) → IsReserved s.base.homes k y → IsReserved t.base.homes k y
  reserved_then k y =
      reserved_on maps s t formed (settle_same maps s t place home address scion settles formed) k y

  -- the object of another home has another address
  elsewhere : (k n a : ℕ) → k ≢ home → maps.home k ≡ Some n → maps.address a ≡ Some n → a ≢ address
  elsewhere k n a other has named same =
      let one : Some n ≡ Some number = sym named ∙ (ap maps.address same ∙ is_named) in
      other (tells.one_home k home number (has ∙ one) has_number)

  -- and its home is what it was
  other_home : (k n : ℕ) (y : Shape) → k ≢ home → maps.home k ≡ Some n → IsOneOfThree h maps s k n y →
      IsOneOfThree h maps t k n y
  other_home k n y other has three =
      three_kept h maps s t (live_on maps s t place home address scion settles formed) k n y (record_on k y)
      (λ a named. forwarded_on maps s t place home address scion settles formed k a (elsewhere k n a other has named))
      three

  -- the home of the object is a Stub
  this_home : IsStub maps t.base home number z
  this_home = record {
    scion = scion;
    address = address;
    head = head_on home _ head;
    live = settles.live;
    named = is_named;
  }

  this_home_is : (k n : ℕ) (y : Shape) → k ≡ home → maps.home k ≡ Some n → IsReserved s.base.homes k y →
      IsStub maps t.base k n y
  this_home_is k n y same has is =
      let one : number ≡ n = same_Some number n (sym has_number ∙ (ap maps.home (sym same) ∙ has)) in
      let at : IsReserved s.base.homes home y = subst (λ (j : ℕ). IsReserved s.base.homes j y) same is in
      let shape : z ≡ y = reserved_once s.base.homes s.base.end tells.homes_follow home z y reserved at in
      subst (λ (j : ℕ). IsStub maps t.base j n y) (sym same)
      (subst (λ (j : ℕ). IsStub maps t.base home j y) one (subst (IsStub maps t.base home number) shape this_home))

  -- so all homes stand
  homes_on : (k n : ℕ) → maps.home k ≡ Some n → HomeStands h maps t k n
  homes_on k n has =
      let stands = tells.homes k n has in
      let y : Shape = stands.reserved_for in
      record {
        reserved_for = y;
        reserved = reserved_then k y stands.reserved;
        shape_is = stands.shape_is;
        is = elim (cases_eq k home) [
          | inl same ↦ inr (inl (this_home_is k n y same has stands.reserved))
          | inr other ↦ other_home k n y other has stands.is
        ];
      }

  -- the home of each object is in its home word
  home_words_on : (a n k : ℕ) → maps.address a ≡ Some n → maps.home k ≡ Some n →
      (j : ℕ) × (t.word (a + 1) ≡ home_word (Some (record { home = k; scion = j })))
  home_words_on a n k named has = elim (cases_eq a address) [
    | inl same ↦
        let one : Some n ≡ Some number = sym named ∙ (ap maps.address same ∙ is_named) in
        let is : home ≡ k = tells.one_home home k number has_number (has ∙ one) in (
          scion,
          ap (λ (b : ℕ). t.word (b + 1)) same
              ∙ (settles.home_word_is ∙ ap (λ (j : ℕ). home_word (Some (record { home = j; scion = scion }))) is),
        )
    | inr other ↦
        let word = tells.home_words a n k named has in
        (word.0, home_word_same maps s t place home address scion settles formed a other ∙ word.1)
  ]

  -- and what is there is its home
  named_homes_on : (a n k j : ℕ) → maps.address a ≡ Some n → IsHomeAndScion (record { home = k; scion = j }) →
      t.word (a + 1) ≡ home_word (Some (record { home = k; scion = j })) → maps.home k ≡ Some n
  named_homes_on a n k j named range is = elim (cases_eq a address) [
    | inl same ↦
        let word : 4294967296 * k + 4 * j ≡ 4294967296 * home + 4 * scion =
        sym is ∙ (ap (λ (b : ℕ). t.word (b + 1)) same ∙ settles.home_word_is) in
        let few : j < 1073741824 = range.scion in
        let small : scion < 1073741824 = settles.small in
        let one : k ≡ home = omega arith in
        ap maps.home one ∙ (has_number ∙ (sym is_named ∙ (ap maps.address (sym same) ∙ named)))
    | inr other ↦
        tells.named_homes a n k j named range
        (sym (home_word_same maps s t place home address scion settles formed a other) ∙ is)
  ]

  -- each live scion is that of a Stub
  stubs_on : (k : ℕ) (x : Scion) → t.base.scion k ≡ Some x → HasStub maps t.base k x.home
  stubs_on k x live = elim (cases_eq k scion) [
    | inl same ↦
        subst (λ (j : ℕ). HasStub maps t.base j x.home) (sym same)
        (subst (λ (y : Scion). HasStub maps t.base scion y.home)
        (this_scion maps s t place home address scion settles formed k x same live)
        (number, z, has_number, head_on home _ head))
    | inr other ↦
        let stub = tells.stubs k x (live_before maps s t place home address scion settles formed k x other live) in
        (stub.0, stub.1, stub.2, head_on x.home _ stub.3)
  ]

  -- what the homes tell stays
  homes_tell : HomesTell h maps t
  homes_tell = record {
    free_homes = λ k free.
        let was = tells.free_homes k
        (was_free maps s t formed (settle_same maps s t place home address scion settles formed) k free) in
        free_home_kept s.base t.base k was (reserved_then k was.reserved_for was.reserved)
        (record_on k was.reserved_for);
    homes = homes_on;
    home_words = home_words_on;
    named_homes = named_homes_on;
    stubs = stubs_on;
  }

  -- so what the state tells stays
  pub settle_tells : Tells h maps t
  settle_tells =
      tells_on maps s t formed (settle_same maps s t place home address scion settles formed) h tells homes_tell

-- the state stands for the history that it stood for, with the same values in registers
pub settle_placed : {maps : Maps} {s t : State} {place home address scion : ℕ} → SettlesOne s t place home address scion
    → {z : Shape} → HeadIs s.base home (record { shape = z; kind = Stub scion }) → IsReserved s.base.homes home z
    → ((u r : ℕ) → t.register u r ≡ s.register u r) → {h : List Entry} {value : ℕ → ℕ → Value} → Placed h value maps s
    → Placed h value maps t
settle_placed {maps} {s} {t} {place} {home} {address} {scion} settles {z} head reserved stay {h} placed = record {
  formed = settle_registers maps s t place home address scion settles stay placed.formed;
  tells = settle_tells maps s t place home address scion settles placed.formed.words z head reserved h placed.tells;
  registers = λ u r. ap (value_at maps) (stay u r) ∙ placed.registers u r;
}
