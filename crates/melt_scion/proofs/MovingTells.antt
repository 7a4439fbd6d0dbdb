-- A collection of any phase leaves a state that stands for the same history, and registers that hold the same values.
use Rattle.std.proofs.Common.{◌≡◌, ◌≢◌, ℕ, zero, suc, ◌+◌, ◌*◌, ◌<◌, ◌≤◌, refl, sym, ◌∙◌, ap, subst, arith, inl, inr}
use Rattle.std.proofs.Common.{List}
use Rattle.std.specs.Prelude.{Option, Some, Contains}
use Rattle.std.specs.Option.{option_map}
use Rattle.std.proofs.lemmas.Bool.{cases_eq}
use Rattle.std.proofs.lemmas.Option.{same_Some}
use Rattle.melt_model.specs.History.{Shape, last}
use Rattle.melt_model.specs.declared.history.Entry.{Entry}
use Rattle.melt_model.specs.declared.history.Value.{Value}
use Rattle.melt_model.specs.declared.history.Value.TheVariants.{Ref, Num}
use Rattle.melt_model.specs.declared.history.Slot.TheVariants.{Field, Cell, Global}
use Rattle.melt_model.specs.declared.reports.Phase.{Phase}
use Rattle.melt_word.specs.Words.{IsHomeAndScion, home_word, cost_of}
use Rattle.melt_word.specs.declared.header.Shape as words
use Rattle.melt_word.specs.declared.header.Header.{Header}
use Rattle.melt_record.specs.declared.head.Kind.TheVariants.{Stub}
use Rattle.melt_scion.specs.State.{Scion, State, HeaderAt, Reached, IsReserved}
use Rattle.melt_scion.specs.Placed.{Maps, HasObject, IsTaken, IsFreeHome, HeadIs, Stands, Formed, Tells, value_at}
use Rattle.melt_scion.specs.Placed.{Placed}
use Rattle.melt_scion.specs.Moves.{GetsHome, IsNewHome, MovesWords, MovesNames, NamesHomes, MovesDisk}
use Rattle.melt_scion.proofs.HomesApart.{reserved_within}
use Rattle.melt_scion.proofs.KeptRecords.{HasStub, head_kept, free_home_kept}
use Rattle.melt_scion.proofs.Phases.{leaving_reached}
use Rattle.melt_scion.proofs.Moving.{Collection, Found, found, staying, came, came_shape, slot_reached, held_stays}
use Rattle.melt_scion.proofs.Moving.{collection, moves_formed}
use Rattle.melt_scion.proofs.MovingValues.{ToldCollection, home_has, word_stands}
use Rattle.melt_scion.proofs.MovingHomes.{NoneLeavesFor, keeps_record, none_leaves_for, homes_stand}

-- the value of a register that holds an address
value_some : (maps : Maps) (a : ℕ) → a ≢ 0 → value_at maps a ≡ option_map Ref (maps.address a)
value_some maps zero some = absurd (some refl)
value_some maps (suc a) some = refl

module _ (m : ToldCollection) where
  abbrev c : Collection
  c = m.c

  abbrev s : State
  s = m.c.s

  abbrev t : State
  t = m.c.t

  -- a new home, with the header of its object
  new_is : (a n : ℕ) → GetsHome s c.home a → c.maps.address a ≡ Some n → (header : Header) ×
      IsNewHome s t c.home a header
  new_is a n gets named =
      let object = c.formed.words.objects a n named in
      (object.0, c.moves.homes.new a object.0 gets object.1.starts)

  -- an old home lies before the old end
  within_before : (k : ℕ) (z : words.Shape) → IsReserved s.base.homes k z → (1 ≤ k) × (k + cost_of z ≤ s.base.end)
  within_before k z = reserved_within s.base.homes s.base.end m.tells.homes_follow k z

  -- an object whose home word is empty had no home in the map
  no_home_before : (a k n : ℕ) → s.word (a + 1) ≡ 0 → c.maps.address a ≡ Some n → c.maps.home k ≡ Some n → ⊥
  no_home_before a k n none named has =
      let word = m.tells.home_words a n k named has in
      let taken = (m.tells.taken k).0 (n, has) in
      let first : 1 ≤ k = (within_before k taken.reserved_for taken.reserved).0 in
      let is : s.word (a + 1) ≡ 4294967296 * k + 4 * word.0 = word.1 in
      omega arith

  -- so each object has one home
  one_home : (a b n : ℕ) → c.new.home a ≡ Some n → c.new.home b ≡ Some n → a ≡ b
  one_home a b n first second = elim (m.homes.only a n first) [
    | inl was ↦ elim (m.homes.only b n second) [
      | inl also ↦ m.tells.one_home a b n was also
      | inr gets ↦ absurd (no_home_before gets.0 a n gets.1.had_none gets.3 was)
    ]
    | inr gets ↦ elim (m.homes.only b n second) [
      | inl also ↦ absurd (no_home_before gets.0 b n gets.1.had_none gets.3 also)
      | inr other ↦ sym gets.2 ∙ (ap c.home (m.tells.one_address gets.0 other.0 n gets.3 other.3) ∙ other.2)
    ]
  ]

  -- a new home lies after all free ones
  new_not_free : (a k n : ℕ) → GetsHome s c.home a → c.home a ≡ k → c.maps.address a ≡ Some n →
      Contains s.base.free_homes k → ⊥
  new_not_free a k n gets is named free =
      let was = m.tells.free_homes k free in
      let within : k + cost_of was.reserved_for ≤ s.base.end = (within_before k was.reserved_for was.reserved).1 in
      let after : s.base.end ≤ c.home a = (new_is a n gets named).1.after in
      omega arith

  was_free : (k : ℕ) → Contains t.base.free_homes k → Contains s.base.free_homes k
  was_free k free = subst (λ (homes : List ℕ). Contains homes k) m.disk.free_homes free

  -- a home with a name is taken
  taken_then : (k : ℕ) → HasObject c.new k → IsTaken t.base k
  taken_then k has = elim (m.homes.only k has.0 has.1) [
    | inl was ↦
        let taken = (m.tells.taken k).0 (has.0, was) in
        record {
          reserved_for = taken.reserved_for;
          reserved = m.disk.old_homes k taken.reserved_for taken.reserved;
          not_free = λ free. taken.not_free (was_free k free);
        }
    | inr gets ↦
        let new = new_is gets.0 has.0 gets.1 gets.3 in
        record {
          reserved_for = new.0.shape;
          reserved = subst (λ (j : ℕ). IsReserved t.base.homes j new.0.shape) gets.2 new.1.reserved;
          not_free = λ free. new_not_free gets.0 k has.0 gets.1 gets.2 gets.3 (was_free k free);
        }
  ]

  -- and one that is taken has a name
  has_then : (k : ℕ) → IsTaken t.base k → HasObject c.new k
  has_then k taken = elim (m.disk.only_homes k taken.reserved_for taken.reserved) [
    | inl was ↦
        let has = (m.tells.taken k).1 (record {
          reserved_for = taken.reserved_for;
          reserved = was;
          not_free = λ free.
              taken.not_free (subst (λ (homes : List ℕ). Contains homes k) (sym m.disk.free_homes) free);
        }) in
        (has.0, m.homes.old k has.0 has.1)
    | inr gets ↦
        let f = found c gets.0 gets.1.reached in
        (f.number, ap c.new.home (sym gets.2) ∙ m.homes.new_homes gets.0 f.number gets.1 f.named)
  ]

  -- nobody leaves for a free home
  none_leaves_free : (k : ℕ) → Contains t.base.free_homes k → NoneLeavesFor m k
  none_leaves_free k free a leaves same =
      let f = found c a (leaving_reached c.phase s a leaves) in
      let has = home_has m a f (c.moves.homes.leaving a leaves) in
      (taken_then k (f.number, ap c.new.home (sym same) ∙ has)).not_free free

  -- so free homes stay
  free_then : (k : ℕ) → Contains t.base.free_homes k → IsFreeHome t.base k
  free_then k free =
      let was = m.tells.free_homes k (was_free k free) in
      free_home_kept s.base t.base k was (m.disk.old_homes k was.reserved_for was.reserved)
      (keeps_record m k was.reserved_for was.reserved (none_leaves_free k free))

  -- an object with a name for its home has the home
  has_one : (k n a : ℕ) (f : Found c a) → c.new.home k ≡ Some n → c.maps.address a ≡ Some n → c.home a ≢ 0
  has_one k n a f has named none = elim (m.homes.only k n has) [
    | inl was ↦ elim (c.formed.words.home_words a f.number f.header f.named f.object.starts) [
      | inl empty ↦ no_home_before a k n empty named was
      | inr home ↦
          let first : 0 < home.0 = home.2.in_range.home.not_null in
          let same : c.home a ≡ home.0 =
          (c.moves.homes.kept a home.0 home.1 f.reached home.2.in_range home.2.is).0 in
          omega arith
    ]
    | inr gets ↦ gets.1.has_one (ap c.home (m.tells.one_address gets.0 a n gets.3 named) ∙ none)
  ]

  -- which is in its home word then
  home_words_then : (b n k : ℕ) → c.new.address b ≡ Some n → c.new.home k ≡ Some n →
      (scion : ℕ) × (t.word (b + 1) ≡ home_word (Some (record { home = k; scion = scion })))
  home_words_then b n k named has =
      let it = came c b n named in
      let a : ℕ = it.from in
      let some = has_one k n a it.found has it.named in
      let one : Some it.found.number ≡ Some n = sym it.found.named ∙ it.named in
      let is : c.home a ≡ k = one_home (c.home a) k n (home_has m a it.found some ∙ one) has in (
        c.scion a,
        ap (λ (x : ℕ). t.word (x + 1)) (sym it.is)
            ∙ (it.arrives.at_home some ∙ ap (λ (x : ℕ). home_word (Some (record { home = x; scion = c.scion a }))) is),
      )

  -- and the home in a home word is that of the object
  named_homes_then : (b n k scion : ℕ) → c.new.address b ≡ Some n →
      IsHomeAndScion (record { home = k; scion = scion }) →
      t.word (b + 1) ≡ home_word (Some (record { home = k; scion = scion })) → c.new.home k ≡ Some n
  named_homes_then b n k scion named range is =
      let it = came c b n named in
      let a : ℕ = it.from in
      let word : t.word (c.to a + 1) ≡ 4294967296 * k + 4 * scion = ap (λ (x : ℕ). t.word (x + 1)) it.is ∙ is in
      let first : 0 < k = range.home.not_null in
      elim (cases_eq (c.home a) 0) [
        | inl none ↦ absurd (let empty : t.word (c.to a + 1) ≡ 0 = it.arrives.no_home none in omega arith)
        | inr some ↦
            let home : t.word (c.to a + 1) ≡ 4294967296 * c.home a + 4 * c.scion a = it.arrives.at_home some in
            let small : c.scion a < 1073741824 = (c.moves.scions a it.some some).small in
            let few : scion < 1073741824 = range.scion in
            let same : c.home a ≡ k = omega arith in
            ap c.new.home (sym same) ∙ (home_has m a it.found some ∙ (sym it.found.named ∙ it.named))
      ]

  -- the record at the home of an object that stays and had one
  old_stub : (a home scion : ℕ) (f : Found c a) → c.to a ≢ 0 → c.home a ≡ home → c.scion a ≡ scion →
      s.base.scion scion ≡ Some (record { home = home; address = a }) → c.maps.home home ≡ Some f.number →
      (z : words.Shape) × HeadIs t.base (c.home a) (record { shape = z; kind = Stub (c.scion a) })
  old_stub a home scion f some same same_scion live has =
      let stub = m.tells.stubs scion (record { home = home; address = a }) live in
      let stands = m.tells.homes home f.number has in
      let keeps = keeps_record m home stands.reserved_for stands.reserved
      (none_leaves_for m home f.number a has some f.named) in
      let head = head_kept s.base t.base home stands.reserved_for keeps (record { shape = stub.1; kind = Stub scion })
      stub.3 in (
        stub.1,
        subst (λ (k : ℕ). HeadIs t.base (c.home a) (record { shape = stub.1; kind = Stub k })) (sym same_scion)
            (subst (λ (j : ℕ). HeadIs t.base j (record { shape = stub.1; kind = Stub scion })) (sym same) head),
      )

  -- and of one that has one then
  stub_at : (a : ℕ) (f : Found c a) → c.to a ≢ 0 → c.home a ≢ 0 →
      (z : words.Shape) × HeadIs t.base (c.home a) (record { shape = z; kind = Stub (c.scion a) })
  stub_at a f some home = elim (c.formed.words.home_words a f.number f.header f.named f.object.starts) [
    | inl none ↦ (
      f.header.shape,
      m.disk.stubs a f.header (record { reached = f.reached; had_none = none; has_one = home }) some f.object.starts,
    )
    | inr has ↦
        let kept = c.moves.homes.kept a has.0 has.1 f.reached has.2.in_range has.2.is in
        let first : 1 ≤ c.scion a = (c.moves.scions a some home).first in
        let same : c.scion a ≡ has.1 = kept.1 some in
        old_stub a has.0 has.1 f some kept.0 same (has.2.live (omega arith))
        (m.tells.named_homes a f.number has.0 has.1 f.named has.2.in_range has.2.is)
  ]

  -- each live scion is that of a Stub
  stubs_then : (k : ℕ) (x : Scion) → t.base.scion k ≡ Some x → HasStub c.new t.base k x.home
  stubs_then k x live =
      let own = c.moves.only_scions k x live in
      let a : ℕ = own.0 in
      let f = staying c a own.1 in
      let y : Scion = record { home = c.home a; address = c.to a } in
      let takes : t.base.scion (c.scion a) ≡ Some y = (c.moves.scions a own.1 own.2).live in
      let is : y ≡ x = same_Some y x (sym takes ∙ (ap t.base.scion own.3 ∙ live)) in
      let stub = stub_at a f own.1 own.2 in
      subst (λ (j : ℕ). HasStub c.new t.base j x.home) own.3
      (subst (λ (z : Scion). HasStub c.new t.base (c.scion a) z.home) is
      (f.number, stub.0, home_has m a f own.2, stub.1))

  -- slots, number words and globals stand for what they stood for
  slots_then : (b n i : ℕ) (header : Header) → c.new.address b ≡ Some n → HeaderAt t b header →
      i < header.shape.refs → Stands c.new (t.word (b + 2 + i)) (last m.h (Field n i))
  slots_then b n i header named starts below =
      let it = came c b n named in
      let a : ℕ = it.from in
      let refs : header.shape.refs ≡ it.found.header.shape.refs =
      ap (λ (z : words.Shape). z.refs) (came_shape c b n it header starts) in
      let few : i < it.found.header.shape.refs = omega arith in
      let at : HeaderAt s a it.found.header = it.found.object.starts in
      subst (λ (x : ℕ). Stands c.new (t.word (x + 2 + i)) (last m.h (Field n i))) it.is
      (word_stands m (s.word (a + 2 + i)) (t.word (c.to a + 2 + i)) (last m.h (Field n i))
      (slot_reached c a i it.found.header it.found.reached at few)
      (c.formed.words.slots a n i it.found.header it.named at few)
      (m.tells.slots a n i it.found.header it.named at few) (it.arrives.slots i few))

  numbers_then : (b n j : ℕ) (header : Header) → c.new.address b ≡ Some n → HeaderAt t b header →
      j < header.shape.nums → Num (t.word (b + 2 + header.shape.refs + j)) ≡ last m.h (Cell n j)
  numbers_then b n j header named starts below =
      let it = came c b n named in
      let a : ℕ = it.from in
      let same : header.shape ≡ it.found.header.shape = came_shape c b n it header starts in
      let nums : header.shape.nums ≡ it.found.header.shape.nums = ap (λ (z : words.Shape). z.nums) same in
      let few : j < it.found.header.shape.nums = omega arith in
      ap (λ (z : words.Shape). Num (t.word (b + 2 + z.refs + j))) same
      ∙ (ap (λ (x : ℕ). Num (t.word (x + 2 + it.found.header.shape.refs + j))) (sym it.is)
      ∙ (ap Num (it.arrives.numbers j few)
      ∙ m.tells.numbers a n j it.found.header it.named it.found.object.starts few))

  globals_then : (g : ℕ) → g < t.base.globals → Stands c.new (t.global g) (last m.h (Global g))
  globals_then g below =
      let globals : t.base.globals ≡ s.base.globals = c.moves.globals in
      let few : g < s.base.globals = omega arith in
      word_stands m (s.global g) (t.global g) (last m.h (Global g)) (λ a refers. Reached.in_global g a few refers)
      (c.formed.words.globals g few) (m.tells.globals g few) (c.moves.global g few)

  -- so the state tells the history
  pub tells_there : Tells m.h c.new t
  tells_there = record {
    one_address = λ a b n first second.
        let x = came c a n first in
        let y = came c b n second in
        sym x.is ∙ (ap c.to (m.tells.one_address x.from y.from n x.named y.named) ∙ y.is);
    one_home = one_home;
    homes_follow = m.disk.follow m.tells.homes_follow;
    taken = λ k. (taken_then k, has_then k);
    free_homes = free_then;
    shapes = λ b n header named starts.
        let it = came c b n named in
        let made_as : words.Shape → Option Shape = λ z. Some (record { refs = z.refs; nums = z.nums }) in
        m.tells.shapes it.from n it.found.header it.named it.found.object.starts
        ∙ ap made_as (sym (came_shape c b n it header starts));
    slots = slots_then;
    numbers = numbers_then;
    globals = globals_then;
    homes = homes_stand m;
    home_words = home_words_then;
    named_homes = named_homes_then;
    stubs = stubs_then;
  }

  -- a register holds what it held
  pub value_there : (u r : ℕ) (v : Value) → value_at c.maps (s.register u r) ≡ Some v →
      value_at c.new (c.to (s.register u r)) ≡ Some v
  value_there u r v is =
      let a : ℕ = s.register u r in
      elim (cases_eq a 0) [
        | inl none ↦
            ap (λ (x : ℕ). value_at c.new (c.to x)) none
            ∙ (ap (value_at c.new) c.moves.chooses.nothing ∙ (ap (value_at c.maps) (sym none) ∙ is))
        | inr full ↦
            let some = held_stays c u r full in
            value_some c.new (c.to a) some
            ∙ (ap (option_map Ref) (c.names.names a some) ∙ (sym (value_some c.maps a full) ∙ is))
      ]

module _ (phase : Phase) (maps new : Maps) (s t : State) (to home scion : ℕ → ℕ)
    (moves : MovesWords phase s t to home scion) (names : MovesNames maps new to) (homes : NamesHomes maps new s home)
    (disk : MovesDisk phase s t to home scion) (h : List Entry) where
  -- the parts of a collection that is told as one
  abbrev told : Formed maps s → Tells h maps s → ToldCollection
  told formed tells = record {
    c = collection phase maps new s t to home scion formed moves names;
    h = h;
    tells = tells;
    homes = homes;
    disk = disk;
  }

  -- the state after a collection tells the history that the one before told
  pub moves_tells : Formed maps s → Tells h maps s → Tells h new t
  moves_tells formed tells = tells_there (told formed tells)

  -- and stands for it, with the same values in registers
  pub moves_placed : (value : ℕ → ℕ → Value) → Placed h value maps s → Placed h value new t
  moves_placed value placed = record {
    formed = moves_formed phase maps new s t to home scion placed.formed moves names;
    tells = moves_tells placed.formed placed.tells;
    registers = λ u r.
        ap (value_at new) (moves.register u r)
        ∙ value_there (told placed.formed placed.tells) u r (value u r) (placed.registers u r);
  }
