-- What stands at each home after a collection: the record from before, or a Body or a Stub that the collection wrote.
use Rattle.std.proofs.Common.{◌≡◌, ◌≢◌, ℕ, ◌+◌, ◌<◌, ◌≤◌, sym, ◌∙◌, ap, subst, arith, inl, inr}
use Rattle.std.specs.Prelude.{Option, Some}
use Rattle.std.proofs.lemmas.Option.{same_Some}
use Rattle.melt_model.specs.History.{Shape, shape}
use Rattle.melt_model.specs.declared.history.Value.TheVariants.{Num}
use Rattle.melt_word.specs.Words.{IsDiskHome, IsHomeAndScion, cost_of}
use Rattle.melt_word.specs.declared.header.Shape as words
use Rattle.melt_word.specs.declared.header.Header.{Header}
use Rattle.melt_forward.proofs.Pairs.{forward_word-filled}
use Rattle.melt_scion.specs.State.{Scion, State, HeaderAt, Reached, IsReserved}
use Rattle.melt_scion.specs.Placed.{IsBody, IsStub, IsForwarded, HomeStands}
use Rattle.melt_scion.specs.Moves.{Leaves}
use Rattle.melt_scion.specs.Moves.{GetsHome}
use Rattle.melt_scion.proofs.Homes.{IsNowhere}
use Rattle.melt_scion.proofs.HomesApart.{reserved_within}
use Rattle.melt_scion.proofs.KeptRecords.{KeepsRecord, IsOneOfThree, head_kept, body_kept}
use Rattle.melt_scion.proofs.Phases.{leaving_reached}
use Rattle.melt_scion.proofs.Moving.{Collection, found, nowhere}
use Rattle.melt_scion.proofs.MovingValues.{ToldCollection, whose_home, body_stands, body_slot, leaving_slot}

-- two shapes that are that of one object
same_shape : (o : Option Shape) (z w : words.Shape) → o ≡ Some (record { refs = z.refs; nums = z.nums }) →
    o ≡ Some (record { refs = w.refs; nums = w.nums }) → z ≡ w
same_shape o z w is also =
    let x : Shape = record { refs = z.refs; nums = z.nums } in
    let y : Shape = record { refs = w.refs; nums = w.nums } in
    let back : Shape → words.Shape = λ v. record { refs = v.refs; nums = v.nums } in
    ap back (same_Some x y (sym is ∙ also))

module _ (m : ToldCollection) where
  abbrev c : Collection
  c = m.c

  abbrev s : State
  s = m.c.s

  abbrev t : State
  t = m.c.t

  -- no object leaves for the home
  abbrev pub NoneLeavesFor : ℕ → Type 0
  NoneLeavesFor k = (a : ℕ) → Leaves c.phase s a → c.home a ≢ k

  -- so its record stays
  pub keeps_record : (k : ℕ) (z : words.Shape) → IsReserved s.base.homes k z → NoneLeavesFor k →
      KeepsRecord s.base t.base k z
  keeps_record k z reserved none = record {
    end = c.moves.homes.end;
    words = λ j below. m.disk.kept k j z reserved none below;
  }

  -- an object without an address has none then
  nowhere_then : (n : ℕ) → IsNowhere c.maps n → IsNowhere c.new n
  nowhere_then n none b named = let one = c.names.only b n named in none one.0 one.3

  -- an object that left has none
  left_nowhere : (a n : ℕ) → Leaves c.phase s a → c.maps.address a ≡ Some n → IsNowhere c.new n
  left_nowhere a n leaves named b there =
      let one = c.names.only b n there in
      one.1 (ap c.to (m.tells.one_address one.0 a n one.3 named) ∙ nowhere c a leaves)

  -- its home is a Body
  pub left_body : (a n : ℕ) (header : Header) → Leaves c.phase s a → c.maps.address a ≡ Some n → HeaderAt s a header →
      IsBody m.h c.new t.base (c.home a) n header.shape
  left_body a n header leaves named starts =
      let body = m.disk.bodies a header leaves starts in
      record {
        nowhere = left_nowhere a n leaves named;
        head = body.head;
        slots = λ i below.
            body_stands m (s.word (a + 2 + i)) (t.base.image (c.home a + 2 + i)) _
            (leaving_slot m a i header leaves starts below) (c.formed.words.slots a n i header named starts below)
            (m.tells.slots a n i header named starts below) (body.slots i below);
        are_slots = λ i below.
            body_slot m (s.word (a + 2 + i)) (t.base.image (c.home a + 2 + i))
            (leaving_slot m a i header leaves starts below) (c.formed.words.slots a n i header named starts below)
            (body.slots i below);
        numbers = λ j below. ap Num (body.numbers j below) ∙ m.tells.numbers a n j header named starts below;
      }

  -- nobody leaves for the home of an object that stays
  pub none_leaves_for : (k n b : ℕ) → c.maps.home k ≡ Some n → c.to b ≢ 0 → c.maps.address b ≡ Some n → NoneLeavesFor k
  none_leaves_for k n b has some named a leaves same =
      let f = found c a (leaving_reached c.phase s a leaves) in
      let is = whose_home m a k n f (c.moves.homes.leaving a leaves) same (m.homes.old k n has) in
      (c.moves.chooses.stay b some).1 (subst (Leaves c.phase s) (m.tells.one_address a b n is named) leaves)

  -- nor for that of one without an address
  none_leaves_nowhere : (k n : ℕ) → c.maps.home k ≡ Some n → IsNowhere c.maps n → NoneLeavesFor k
  none_leaves_nowhere k n has none a leaves same =
      let f = found c a (leaving_reached c.phase s a leaves) in
      none a (whose_home m a k n f (c.moves.homes.leaving a leaves) same (m.homes.old k n has))

  module _ (k n : ℕ) (z : words.Shape) (has : c.maps.home k ≡ Some n) (reserved : IsReserved s.base.homes k z) where
    -- a Body stays one
    old_body : IsBody m.h c.maps s.base k n z → IsBody m.h c.new t.base k n z
    old_body body =
        body_kept s.base t.base k z (keeps_record k z reserved (none_leaves_nowhere k n has body.nowhere)) m.h c.maps
        c.new n m.homes.old (nowhere_then n) body

    -- the home is in the range of homes
    home_small : IsDiskHome k
    home_small =
        let within = reserved_within s.base.homes s.base.end m.tells.homes_follow k z reserved in
        let first : 1 ≤ k = within.0 in
        let last : k + cost_of z ≤ s.base.end = within.1 in
        let small : s.base.end ≤ 4294967296 = c.formed.words.small_end in
        record { not_null = omega arith; small = omega arith }

    -- so are home and scion of a Stub
    stub_range : (is : IsStub c.maps s.base k n z) → IsHomeAndScion (record { home = k; scion = is.scion })
    stub_range is = record { home = home_small; scion = (c.formed.words.scions is.scion _ is.live).small }

    -- which its object keeps
    stub_kept : (is : IsStub c.maps s.base k n z) →
        (c.home is.address ≡ k) × (c.to is.address ≢ 0 → c.scion is.address ≡ is.scion)
    stub_kept is =
        c.moves.homes.kept is.address k is.scion (Reached.at_scion is.scion _ is.live) (stub_range is)
        (c.formed.words.scions is.scion _ is.live).home_word

    -- the object of a Stub stays, with its scion
    stub_stays : (is : IsStub c.maps s.base k n z) → c.to is.address ≢ 0 → IsStub c.new t.base k n z
    stub_stays is some =
        let kept = stub_kept is in
        let first : 0 < k = home_small.not_null in
        let same : c.home is.address ≡ k = kept.0 in
        let takes = c.moves.scions is.address some (omega arith) in
        let at : (home : ℕ) → Option Scion = λ home. Some (record { home = home; address = c.to is.address }) in
        record {
          scion = is.scion;
          address = c.to is.address;
          head = head_kept s.base t.base k z
              (keeps_record k z reserved (none_leaves_for k n is.address has some is.named)) _ is.head;
          live = ap t.base.scion (sym (kept.1 some)) ∙ (takes.live ∙ ap at same);
          named = c.names.names is.address some ∙ is.named;
        }

    -- or leaves, and its home is a Body
    stub_leaves : shape m.h n ≡ Some (record { refs = z.refs; nums = z.nums }) → (is : IsStub c.maps s.base k n z) →
        Leaves c.phase s is.address → IsBody m.h c.new t.base k n z
    stub_leaves shape_is is leaves =
        let a : ℕ = is.address in
        let object = c.formed.words.objects a n is.named in
        let same : object.0.shape ≡ z =
        same_shape (shape m.h n) object.0.shape z (m.tells.shapes a n object.0 is.named object.1.starts) shape_is in
        subst (IsBody m.h c.new t.base k n) same
        (subst (λ (j : ℕ). IsBody m.h c.new t.base j n object.0.shape) (stub_kept is).0
        (left_body a n object.0 leaves is.named object.1.starts))

    -- no home was forwarded
    old_forwarded : IsForwarded c.maps s k n → ⊥
    old_forwarded is =
        let f = is.forwards in
        forward_word-filled k is.address f.sends.home_in_range (sym f.sends.is ∙ c.moves.settled f.place f.within)

    -- so an old home is one of the three
    old_home : IsOneOfThree m.h c.maps s k n z →
        shape m.h n ≡ Some (record { refs = z.refs; nums = z.nums }) → IsOneOfThree m.h c.new t k n z
    old_home (inl body) shape_is = inl (old_body body)
    old_home (inr (inl stub)) shape_is =
        elim (c.moves.chooses.go stub.address (Reached.at_scion stub.scion _ stub.live)) [
          | inl some ↦ inr (inl (stub_stays stub some))
          | inr leaves ↦ inl (stub_leaves shape_is stub leaves)
        ]
    old_home (inr (inr forwarded)) shape_is = absurd (old_forwarded forwarded)

  -- and so is a new one
  new_home : (a n : ℕ) (header : Header) → GetsHome s c.home a → c.maps.address a ≡ Some n → HeaderAt s a header →
      IsOneOfThree m.h c.new t (c.home a) n header.shape
  new_home a n header gets named starts = elim (c.moves.chooses.go a gets.reached) [
    | inl some ↦ inr (inl (record {
      scion = c.scion a;
      address = c.to a;
      head = m.disk.stubs a header gets some starts;
      live = (c.moves.scions a some gets.has_one).live;
      named = c.names.names a some ∙ named;
    }))
    | inr leaves ↦ inl (left_body a n header leaves named starts)
  ]

  -- so each home with a name stands
  pub homes_stand : (k n : ℕ) → c.new.home k ≡ Some n → HomeStands m.h c.new t k n
  homes_stand k n has = elim (m.homes.only k n has) [
    | inl was ↦
        let stands = m.tells.homes k n was in
        record {
          reserved_for = stands.reserved_for;
          reserved = m.disk.old_homes k stands.reserved_for stands.reserved;
          shape_is = stands.shape_is;
          is = old_home k n stands.reserved_for was stands.reserved stands.is stands.shape_is;
        }
    | inr gets ↦
        let object = c.formed.words.objects gets.0 n gets.3 in
        let header : Header = object.0 in
        subst (λ (j : ℕ). HomeStands m.h c.new t j n) gets.2 (record {
          reserved_for = header.shape;
          reserved = (c.moves.homes.new gets.0 header gets.1 object.1.starts).reserved;
          shape_is = m.tells.shapes gets.0 n header gets.3 object.1.starts;
          is = new_home gets.0 n header gets.1 gets.3 object.1.starts;
        })
  ]
