-- A collection of any phase leaves well-formed words and registers.
use Rattle.std.proofs.Common.{◌≡◌, ◌≢◌, ℕ, ◌+◌, ◌<◌, ◌≤◌, refl, sym, ◌∙◌, ap, subst, arith, inl, inr}
use Rattle.std.proofs.lemmas.Bool.{cases_eq}
use Rattle.std.proofs.lemmas.Option.{same_Some}
use Rattle.std.specs.Prelude.{Some}
use Rattle.melt_model.specs.declared.reports.Phase.{Phase}
use Rattle.melt_word.specs.Words.{IsAddress, IsDiskHome, IsRef, ref_word, cost_of}
use Rattle.melt_word.specs.declared.header.Shape.{Shape}
use Rattle.melt_word.specs.declared.header.Header.{Header}
use Rattle.melt_word.specs.declared.reference.Ref as words
use Rattle.melt_word.specs.declared.reference.Ref.TheVariants.{Null, Clean, Stale, Disk}
use Rattle.melt_word.proofs.OneToOne.{same_ref}
use Rattle.melt_forward.specs.Forwarding.{Sends}
use Rattle.melt_forward.proofs.Pairs.{forward_word-filled}
use Rattle.melt_scion.specs.State.{Scion, State, HeaderAt, ObjectAt, IsFresh, HoldsAt, address_in, RefersTo, Reached}
use Rattle.melt_scion.specs.Placed.{Maps, IsNamed, MayStand, IsReferenceWord, MayHold, IsHomeWord, ScionStands}
use Rattle.melt_scion.specs.Placed.{FormedWords, Formed}
use Rattle.melt_scion.specs.Moves.{Leaves, kept_tag}
use Rattle.melt_scion.specs.Moves.{GetsHome, by_place, moved_ref, WordBecomes, Arrives, MovesWords, MovesNames}
use Rattle.melt_scion.proofs.Geometry.{one_header}
use Rattle.melt_scion.proofs.Reaching.{reached_named}
use Rattle.melt_scion.proofs.Phases.{leaving_not_held, held_fresh, tag_in_range, tag_may_stand}
use Rattle.melt_scion.proofs.Phases.{by_place_there, by_place_away}

-- a collection of a well-formed state, without what it does to the disk
pub record Collection : Type 0 where
  pub phase : Phase
  pub maps : Maps
  pub new : Maps
  pub s : State
  pub t : State
  pub to : ℕ → ℕ
  pub home : ℕ → ℕ
  pub scion : ℕ → ℕ
  pub formed : Formed maps s
  pub moves : MovesWords phase s t to home scion
  pub names : MovesNames maps new to

-- an object that was reached, with its number and its header
pub record Found (c : Collection) (a : ℕ) : Type 0 where
  pub reached : Reached c.s a
  pub number : ℕ
  pub named : c.maps.address a ≡ Some number
  pub header : Header
  pub object : ObjectAt c.s a header

-- the object that came to an address
pub record Came (c : Collection) (b n : ℕ) : Type 0 where
  pub from : ℕ
  pub some : c.to from ≢ 0
  pub is : c.to from ≡ b
  pub named : c.maps.address from ≡ Some n
  pub found : Found c from
  pub arrives : Arrives c.phase c.s c.t c.to c.home c.scion from found.header

-- all that the word may refer to was reached
abbrev pub HasReached : State → ℕ → Type 0
HasReached s word = (a : ℕ) → RefersTo word a → Reached s a

-- and the same of a reference
abbrev pub RefReached : State → words.Ref → Type 0
RefReached s r = (a : ℕ) → address_in r ≡ Some a → Reached s a

-- the reference may stand, and is in range
abbrev pub Fits : Maps → State → words.Ref → Type 0
Fits maps s r = MayStand maps s r × IsRef r

-- a word is that of the reference by which it becomes another
pub same_reference : (change : words.Ref → words.Ref) (old later : ℕ) (r : words.Ref) →
    (becomes : WordBecomes change old later) → IsRef r → old ≡ ref_word r → r ≡ becomes.reference
same_reference change old later r becomes range is =
    same_ref r becomes.reference range becomes.in_range (sym is ∙ becomes.was)

-- so it refers to what this reference refers to
pub becomes_refers : (change : words.Ref → words.Ref) (old later address : ℕ) →
    (becomes : WordBecomes change old later) → address_in becomes.reference ≡ Some address → RefersTo old address
becomes_refers change old later address becomes at =
    record { reference = becomes.reference; in_range = becomes.in_range; is = becomes.was; at = at }

module _ (c : Collection) where
  abbrev s : State
  s = c.s

  abbrev t : State
  t = c.t

  pub found : (a : ℕ) → Reached s a → Found c a
  found a reached =
      let named = reached_named c.maps s a c.formed reached in
      let object = c.formed.words.objects a named.0 named.1 in
      record { reached = reached; number = named.0; named = named.1; header = object.0; object = object.1 }

  -- an object that stays was reached
  pub staying : (a : ℕ) → c.to a ≢ 0 → Found c a
  staying a some = found a (c.moves.chooses.stay a some).0

  -- one that leaves gets no address
  pub nowhere : (a : ℕ) → Leaves c.phase s a → c.to a ≡ 0
  nowhere a leaves = elim (cases_eq (c.to a) 0) [
    | inl none ↦ none
    | inr some ↦ absurd ((c.moves.chooses.stay a some).1 leaves)
  ]

  -- what is known of an object that stays, at its new address
  pub arrives : (a : ℕ) (f : Found c a) → c.to a ≢ 0 → Arrives c.phase s t c.to c.home c.scion a f.header
  arrives a f some = c.moves.arrives a f.header some f.object.starts

  -- the home of an object that was reached lies before the end
  pub home_in_range : (a : ℕ) (f : Found c a) → c.home a ≢ 0 →
      IsDiskHome (c.home a) × (c.home a + cost_of f.header.shape ≤ t.base.end)
  home_in_range a f some =
      let homes = c.moves.homes in
      let small : t.base.end ≤ 4294967296 = homes.small_end in
      elim (c.formed.words.home_words a f.number f.header f.named f.object.starts) [
        | inl none ↦
            let gets : GetsHome s c.home a = record { reached = f.reached; had_none = none; has_one = some } in
            let within : c.home a + cost_of f.header.shape ≤ t.base.end =
            (homes.new a f.header gets f.object.starts).within in
            (record { not_null = omega arith; small = omega arith }, within)
        | inr has ↦
            let same : c.home a ≡ has.0 = (homes.kept a has.0 has.1 f.reached has.2.in_range has.2.is).0 in
            let within : has.0 + cost_of f.header.shape ≤ s.base.end = has.2.within in
            let up : s.base.end ≤ t.base.end = homes.end in
            (subst IsDiskHome (sym same) has.2.in_range.home, omega arith)
      ]

  -- a new address lies within the space
  pub to_in_range : (a : ℕ) → c.to a ≢ 0 → IsAddress (c.to a)
  to_in_range a some =
      let f = staying a some in
      let below : c.to a + cost_of f.header.shape ≤ t.free = (arrives a f some).below in
      let free : t.free ≤ t.base.size + 1 = c.moves.free in
      let size : t.base.size ≡ s.base.size = c.moves.size in
      let small : s.base.size < 1073741824 = c.formed.words.small in
      record { not_null = omega arith; small = omega arith }

  -- and has the name of the object
  pub named_there : (a : ℕ) (f : Found c a) → c.to a ≢ 0 → IsNamed c.new (c.to a)
  named_there a f some = (f.number, c.names.names a some ∙ f.named)

  -- an object stays fresh where its stale bit is that from before
  fresh_there : (a : ℕ) (f : Found c a) (some : c.to a ≢ 0) → IsFresh s a →
      (arrives a f some).later.stale ≡ f.header.stale → IsFresh t (c.to a)
  fresh_there a f some fresh same header starts =
      let here = arrives a f some in
      ap (λ (x : Header). x.stale) (one_header t (c.to a) header here.later starts here.starts)
      ∙ (same ∙ fresh f.header f.object.starts)

  -- a reference to its home
  home_fits : (a : ℕ) (f : Found c a) → c.home a ≢ 0 → Fits c.new t (Disk (c.home a))
  home_fits a f some =
      let range = home_in_range a f some in
      let within : c.home a + cost_of f.header.shape ≤ t.base.end = range.1 in
      ((omega arith, omega arith), range.0)

  -- a reference to an object that was reached, with this tag where it stays
  address_fits : (a : ℕ) (f : Found c a) (there : words.Ref) → (c.to a ≢ 0 → Fits c.new t there) →
      Fits c.new t (by_place (c.to a) there (Disk (c.home a)))
  address_fits a f there fits = elim (c.moves.chooses.go a f.reached) [
    | inl some ↦ subst (Fits c.new t) (sym (by_place_there (c.to a) there (Disk (c.home a)) some)) (fits some)
    | inr leaves ↦
        subst (Fits c.new t) (sym (by_place_away (c.to a) there (Disk (c.home a)) (nowhere a leaves)))
        (home_fits a f (c.moves.homes.leaving a leaves))
  ]

  -- a reference in what stays, by the one that stood there
  pub ref_fits : (r : words.Ref) → RefReached s r → IsRef r → MayStand c.maps s r →
      Fits c.new t (moved_ref c.phase c.to c.home r)
  ref_fits Null reached range may = (tt, tt)
  ref_fits (Clean a) reached range may =
      let f = found a (reached a refl) in
      address_fits a f (kept_tag c.phase (c.to a)) (λ some. (
        tag_may_stand c.phase c.new s a f.header (arrives a f some).later (named_there a f some)
            (arrives a f some).marked (fresh_there a f some may.1),
        tag_in_range c.phase (c.to a) (to_in_range a some),
      ))
  ref_fits (Stale a) reached range may =
      let f = found a (reached a refl) in
      address_fits a f (Stale (c.to a)) (λ some. (named_there a f some, to_in_range a some))
  ref_fits (Disk k) reached range may =
      let below : k < s.base.end = may.1 in
      let up : s.base.end ≤ t.base.end = c.moves.homes.end in
      ((may.0, omega arith), range)

  -- and by the word of that
  pub becomes_fits : (old later : ℕ) → HasReached s old → IsReferenceWord c.maps s old →
      (becomes : WordBecomes (moved_ref c.phase c.to c.home) old later) →
      Fits c.new t (moved_ref c.phase c.to c.home becomes.reference)
  becomes_fits old later reached is becomes =
      ref_fits becomes.reference (λ a at. reached a (becomes_refers _ old later a becomes at)) becomes.in_range
      (subst (MayStand c.maps s) (same_reference _ old later is.reference becomes is.in_range is.is) is.stands)

  -- so a word in what stays is that of a reference
  word_may : (old later : ℕ) → HasReached s old → IsReferenceWord c.maps s old →
      WordBecomes (moved_ref c.phase c.to c.home) old later → IsReferenceWord c.new t later
  word_may old later reached is becomes =
      let fits = becomes_fits old later reached is becomes in
      record {
        reference = moved_ref c.phase c.to c.home becomes.reference;
        in_range = fits.1;
        is = becomes.is;
        stands = fits.0;
      }

  -- each name is that of an object that stays
  pub came : (b n : ℕ) → c.new.address b ≡ Some n → Came c b n
  came b n named =
      let one = c.names.only b n named in
      let object = c.formed.words.objects one.0 n one.3 in
      record {
        from = one.0;
        some = one.1;
        is = one.2;
        named = one.3;
        found = record {
          reached = (c.moves.chooses.stay one.0 one.1).0;
          number = n;
          named = one.3;
          header = object.0;
          object = object.1;
        };
        arrives = c.moves.arrives one.0 object.0 one.1 object.1.starts;
      }

  -- which kept its shape
  pub came_shape : (b n : ℕ) (it : Came c b n) (header : Header) → HeaderAt t b header →
      header.shape ≡ it.found.header.shape
  came_shape b n it header starts =
      let there : HeaderAt t (c.to it.from) header = subst (λ (x : ℕ). HeaderAt t x header) (sym it.is) starts in
      ap (λ (x : Header). x.shape) (one_header t (c.to it.from) header it.arrives.later there it.arrives.starts)
      ∙ it.arrives.shape

  -- what a slot of an object that was reached refers to was reached
  pub slot_reached : (a i : ℕ) (header : Header) → Reached s a → HeaderAt s a header → i < header.shape.refs →
      HasReached s (s.word (a + 2 + i))
  slot_reached a i header reached starts below target refers =
      Reached.in_slot a i target header reached starts below refers

  -- no home is forwarded then
  no_forwards : (p home b : ℕ) → p < t.base.forwards → Sends (t.forward p) home b → ⊥
  no_forwards p home b below sends =
      forward_word-filled home b sends.home_in_range (sym sends.is ∙ c.moves.forwards p below)

  -- the home word of an object that stays
  home_word_there : (a : ℕ) (f : Found c a) → c.to a ≢ 0 → IsHomeWord t (c.to a) (cost_of f.header.shape)
  home_word_there a f some = elim (cases_eq (c.home a) 0) [
    | inl none ↦ inl ((arrives a f some).no_home none)
    | inr home ↦
        let range = home_in_range a f home in
        let own = c.moves.scions a some home in
        let first : 1 ≤ c.scion a = own.first in
        inr (
          c.home a,
          c.scion a,
          record {
            in_range = record { home = range.0; scion = own.small };
            is = (arrives a f some).at_home home;
            within = range.1;
            forwarded = (
              λ none. absurd (omega arith),
              λ is. absurd (no_forwards is.place (c.home a) (c.to a) is.within is.sends),
            );
            live = λ not_null. own.live;
          },
        )
  ]

  -- each live scion is that of an object that stays
  scion_stands : (k : ℕ) (x : Scion) → t.base.scion k ≡ Some x → ScionStands c.new t k x
  scion_stands k x live =
      let own = c.moves.only_scions k x live in
      let takes = c.moves.scions own.0 own.1 own.2 in
      let f = staying own.0 own.1 in
      let y : Scion = record { home = c.home own.0; address = c.to own.0 } in
      let is : y ≡ x = same_Some y x (sym takes.live ∙ (ap t.base.scion own.3 ∙ live)) in
      let stands : ScionStands c.new t (c.scion own.0) y = record {
        first = takes.first;
        small = takes.small;
        named = named_there own.0 f own.1;
        home_word = (arrives own.0 f own.1).at_home own.2;
      } in
      subst (λ (j : ℕ). ScionStands c.new t j x) own.3 (subst (ScionStands c.new t (c.scion own.0)) is stands)

  -- all objects lie within the space, and apart
  object_there : (b n : ℕ) → c.new.address b ≡ Some n → (header : Header) × ObjectAt t b header
  object_there b n named =
      let it = came b n named in
      let cost : cost_of it.arrives.later.shape ≡ cost_of it.found.header.shape = ap cost_of it.arrives.shape in
      let below : c.to it.from + cost_of it.found.header.shape ≤ t.free = it.arrives.below in
      let free : t.free ≤ t.base.size + 1 = c.moves.free in
      let some : c.to it.from ≢ 0 = it.some in
      subst (λ (x : ℕ). (header : Header) × ObjectAt t x header) it.is (
        it.arrives.later,
        record { starts = it.arrives.starts; first = omega arith; within = omega arith; below = omega arith },
      )

  apart_there : (a b n m : ℕ) (header : Header) → c.new.address a ≡ Some n → c.new.address b ≡ Some m →
      HeaderAt t a header → a < b → a + cost_of header.shape ≤ b
  apart_there a b n m header first second starts less =
      let x = came a n first in
      let y = came b m second in
      let cost : cost_of header.shape ≡ cost_of x.found.header.shape = ap cost_of (came_shape a n x header starts) in
      let is : c.to x.from ≡ a = x.is in
      let also : c.to y.from ≡ b = y.is in
      let order : c.to x.from + cost_of x.found.header.shape ≤ c.to y.from =
      c.moves.order x.from y.from x.found.header x.some y.some x.found.object.starts (omega arith) in
      omega arith

  -- slots and globals may stand
  slot_there : (b n i : ℕ) (header : Header) → c.new.address b ≡ Some n → HeaderAt t b header →
      i < header.shape.refs → IsReferenceWord c.new t (t.word (b + 2 + i))
  slot_there b n i header named starts below =
      let it = came b n named in
      let refs : header.shape.refs ≡ it.found.header.shape.refs =
      ap (λ (z : Shape). z.refs) (came_shape b n it header starts) in
      let few : i < it.found.header.shape.refs = omega arith in
      subst (λ (x : ℕ). IsReferenceWord c.new t (t.word (x + 2 + i))) it.is
      (word_may (s.word (it.from + 2 + i)) (t.word (c.to it.from + 2 + i))
      (slot_reached it.from i it.found.header it.found.reached it.found.object.starts few)
      (c.formed.words.slots it.from n i it.found.header it.named it.found.object.starts few) (it.arrives.slots i few))

  global_there : (g : ℕ) → g < t.base.globals → IsReferenceWord c.new t (t.global g)
  global_there g below =
      let globals : t.base.globals ≡ s.base.globals = c.moves.globals in
      let few : g < s.base.globals = omega arith in
      word_may (s.global g) (t.global g) (λ a refers. Reached.in_global g a few refers)
      (c.formed.words.globals g few) (c.moves.global g few)

  -- so all words are well formed
  words_there : FormedWords c.new t
  words_there = record {
    small =
        let size : t.base.size ≡ s.base.size = c.moves.size in
        let small : s.base.size < 1073741824 = c.formed.words.small in
        omega arith;
    first_end =
        let up : s.base.end ≤ t.base.end = c.moves.homes.end in
        let first : 1 ≤ s.base.end = c.moves.homes.first_end in
        omega arith;
    small_end = c.moves.homes.small_end;
    objects = object_there;
    apart = apart_there;
    slots = slot_there;
    home_words = λ b n header named starts.
        let it = came b n named in
        subst (λ (x : ℕ). IsHomeWord t x (cost_of header.shape)) it.is
        (subst (λ (z : Shape). IsHomeWord t (c.to it.from) (cost_of z)) (sym (came_shape b n it header starts))
        (home_word_there it.from it.found it.some));
    globals = global_there;
    scions = scion_stands;
    forwards = λ p below. inl (c.moves.forwards p below);
    one_forward = λ p q home a b below also first second. absurd (no_forwards p home a below first);
  }

  -- an object in a register stays
  pub held_stays : (u r : ℕ) → s.register u r ≢ 0 → c.to (s.register u r) ≢ 0
  held_stays u r full =
      let a : ℕ = s.register u r in
      elim (c.moves.chooses.go a (Reached.in_register u r a refl (omega arith))) [
        | inl some ↦ some
        | inr leaves ↦ absurd (leaving_not_held c.phase s a leaves (record { thread = u; register = r; holds = refl }))
      ]

  -- and is fresh then
  register_there : (u r : ℕ) → MayHold c.new t (c.to (s.register u r))
  register_there u r = elim (cases_eq (s.register u r) 0) [
    | inl none ↦ inl (ap c.to none ∙ c.moves.chooses.nothing)
    | inr full ↦
        let a : ℕ = s.register u r in
        let some = held_stays u r full in
        let f = staying a some in
        inr (
          named_there a f some,
          λ header starts.
              let here = arrives a f some in
              let holds : HoldsAt s a = record { thread = u; register = r; holds = refl } in
              let was : IsFresh s a = elim (c.formed.registers u r) [ inl none ↦ absurd (full none) | inr is ↦ is.1 ] in
              ap (λ (x : Header). x.stale) (one_header t (c.to a) header here.later starts here.starts)
              ∙ held_fresh c.phase s a f.header here.later here.marked holds (was f.header f.object.starts),
        )
  ]

  -- what a collection leaves of a well-formed state is well formed
  pub formed_there : Formed c.new t
  formed_there = record {
    words = words_there;
    registers = λ u r. subst (MayHold c.new t) (sym (c.moves.register u r)) (register_there u r);
  }

module _ (phase : Phase) (maps new : Maps) (s t : State) (to home scion : ℕ → ℕ) where
  -- the parts of a collection as one
  abbrev pub collection : Formed maps s → MovesWords phase s t to home scion → MovesNames maps new to → Collection
  collection formed moves names = record {
    phase = phase;
    maps = maps;
    new = new;
    s = s;
    t = t;
    to = to;
    home = home;
    scion = scion;
    formed = formed;
    moves = moves;
    names = names;
  }

  -- the law of a collection of any phase, where all that is asked is that the state is well formed
  pub moves_formed : Formed maps s → MovesWords phase s t to home scion → MovesNames maps new to → Formed new t
  moves_formed formed moves names = formed_there (collection formed moves names)
