-- A state stays well formed, and tells a history, where its objects stay and its words may stand and tell of it.
use Rattle.std.proofs.Common.{◌≡◌, ℕ, ◌+◌, ◌<◌, ◌≤◌, sym, ◌∙◌, ap, subst, arith, List}
use Rattle.std.specs.Prelude.{◌↔◌, ◌^◌, Some, Contains}
use Rattle.melt_model.specs.History.{Shape, shape, last}
use Rattle.melt_model.specs.declared.history.Entry.{Entry}
use Rattle.melt_model.specs.declared.history.Value.TheVariants.{Num}
use Rattle.melt_model.specs.declared.history.Slot.TheVariants.{Field, Cell, Global}
use Rattle.melt_word.specs.Words.{cost_of}
use Rattle.melt_word.specs.declared.header.Shape as words
use Rattle.melt_word.specs.declared.header.Header.{Header}
use Rattle.melt_forward.specs.Forwarding.{Sends}
use Rattle.melt_scion.specs.State.{Base, Scion, State, HeaderAt, ObjectAt, Follow}
use Rattle.melt_record.specs.declared.head.Kind.TheVariants.{Stub}
use Rattle.melt_scion.specs.Placed.{Maps, HasObject, HeadIs, IsFreeHome, IsReferenceWord, IsHomeWord, ScionStands}
use Rattle.melt_scion.specs.Placed.{ForwardMayStand, Stands, IsTaken, FormedWords, Tells}
use Rattle.melt_scion.proofs.Keeping.{KeepsObjects, IsReferenceWord_stays, IsHomeWord_stays, ScionStands_stays}
use Rattle.melt_scion.proofs.Keeping.{ForwardMayStand_stays}
use Rattle.melt_scion.proofs.Homes.{BodyKeeps, HomeStands_stays}

-- the words of the later state may stand in the earlier one
pub record WordsMayStand (maps : Maps) (s t : State) : Type 0 where
  pub slots : (a n i : ℕ) (header : Header) → maps.address a ≡ Some n → HeaderAt s a header → i < header.shape.refs →
      IsReferenceWord maps s (t.word (a + 2 + i))
  pub globals : (g : ℕ) → g < s.base.globals → IsReferenceWord maps s (t.global g)
  pub forward : (p : ℕ) → t.forward p ≡ s.forward p

-- they stand for the values of the later history
pub record WordsTell (k : List Entry) (maps : Maps) (s t : State) : Type 0 where
  pub slots : (a n i : ℕ) (header : Header) → maps.address a ≡ Some n → HeaderAt s a header → i < header.shape.refs →
      Stands maps (t.word (a + 2 + i)) (last k (Field n i))
  pub numbers : (a n j : ℕ) (header : Header) → maps.address a ≡ Some n → HeaderAt s a header →
      j < header.shape.nums → Num (t.word (a + 2 + header.shape.refs + j)) ≡ last k (Cell n j)
  pub globals : (g : ℕ) → g < s.base.globals → Stands maps (t.global g) (last k (Global g))

below_refs : (j : ℕ) (z w : words.Shape) → z ≡ w → j < w.refs → j < z.refs
below_refs j z w same below = let e : z.refs ≡ w.refs = ap (λ (x : words.Shape). x.refs) same in omega arith

below_nums : (j : ℕ) (z w : words.Shape) → z ≡ w → j < w.nums → j < z.nums
below_nums j z w same below = let e : z.nums ≡ w.nums = ap (λ (x : words.Shape). x.nums) same in omega arith

module _ (maps new : Maps) (s t : State) (keeps : KeepsObjects maps new s t) where
  -- an object lies where it lay
  pub ObjectAt_stays : (a n : ℕ) (header : Header) → maps.address a ≡ Some n → ObjectAt s a header →
      (later : Header) × ObjectAt t a later
  ObjectAt_stays a n header named was =
      let now = keeps.now a n header named was.starts in
      let cost : cost_of now.0.shape ≡ cost_of header.shape = ap cost_of now.2 in (
        now.0,
        record {
          starts = now.1;
          first = was.first;
          within =
              let size : t.base.size ≡ s.base.size = ap (λ (b : Base). b.size) keeps.base in
              let within : a + cost_of header.shape ≤ s.base.size + 1 = was.within in
              omega arith;
          below =
              let below : a + cost_of header.shape ≤ t.free =
              keeps.ends (a + cost_of header.shape) was.below was.within in
              omega arith;
        },
      )

  -- its home word stays one
  pub home_word_stays : (a n : ℕ) (header : Header) → FormedWords maps s → maps.address a ≡ Some n →
      HeaderAt t a header →
      IsHomeWord t a (cost_of header.shape)
  home_word_stays a n header formed named starts =
      let was = keeps.was a n header named starts in
      IsHomeWord_stays maps new s t keeps a n (cost_of header.shape) named
      (subst (λ (z : words.Shape). IsHomeWord s a (cost_of z)) was.2 (formed.home_words a n was.0 named was.1))

  -- live scions stay
  pub scions_stay : FormedWords maps s → (j : ℕ) (x : Scion) → t.base.scion j ≡ Some x → ScionStands new t j x
  scions_stay formed j x live =
      ScionStands_stays maps new s t keeps j x
      (formed.scions j x (sym (ap (λ (b : Base). b.scion j) keeps.base) ∙ live))

  pub taken_stays : (h : List Entry) → Tells h maps s → (home : ℕ) → HasObject new home ↔ IsTaken t.base home
  taken_stays h tells home =
      subst (λ (b : Base). HasObject new home ↔ IsTaken b home) (sym keeps.base) (
        λ has. (tells.taken home).0 (has.0, sym (keeps.homes home) ∙ has.1),
        λ is. let has = (tells.taken home).1 is in (has.0, keeps.homes home ∙ has.1),
      )

module _ (maps : Maps) (s t : State) (keeps : KeepsObjects maps maps s t) where
  -- well-formed words stay so
  pub FormedWords_stay : FormedWords maps s → WordsMayStand maps s t → FormedWords maps t
  FormedWords_stay formed may = record {
    small = subst (λ (b : Base). b.size < 2 ^ 30) (sym keeps.base) formed.small;
    first_end = subst (λ (b : Base). 1 ≤ b.end) (sym keeps.base) formed.first_end;
    small_end = subst (λ (b : Base). b.end ≤ 2 ^ 32) (sym keeps.base) formed.small_end;
    objects = λ a n named. let was = formed.objects a n named in
        ObjectAt_stays maps maps s t keeps a n was.0 named was.1;
    apart = λ a b n m header named_a named_b starts less.
        let was = keeps.was a n header named_a starts in
        subst (λ (z : words.Shape). a + cost_of z ≤ b) was.2 (formed.apart a b n m was.0 named_a named_b was.1 less);
    slots = λ a n i header named starts below.
        let was = keeps.was a n header named starts in
        IsReferenceWord_stays maps maps s t keeps (t.word (a + 2 + i))
        (may.slots a n i was.0 named was.1 (below_refs i was.0.shape header.shape was.2 below));
    home_words = λ a n header named starts. home_word_stays maps maps s t keeps a n header formed named starts;
    globals = λ g below.
        IsReferenceWord_stays maps maps s t keeps (t.global g)
        (may.globals g (subst (λ (b : Base). g < b.globals) keeps.base below));
    scions = scions_stay maps maps s t keeps formed;
    forwards = λ p below.
        ForwardMayStand_stays maps maps s t keeps (t.forward p)
        (subst (ForwardMayStand maps s) (sym (may.forward p))
        (formed.forwards p (subst (λ (b : Base). p < b.forwards) keeps.base below)));
    one_forward = λ p q home a b in_p in_q sends_a sends_b.
        formed.one_forward p q home a b (subst (λ (b : Base). p < b.forwards) keeps.base in_p)
        (subst (λ (b : Base). q < b.forwards) keeps.base in_q)
        (subst (λ w. Sends w home a) (may.forward p) sends_a) (subst (λ w. Sends w home b) (may.forward q) sends_b);
  }

  -- the words tell the later history
  pub Tells_stay : (h k : List Entry) → Tells h maps s →
      ((n : ℕ) (z : Shape) → shape h n ≡ Some z → shape k n ≡ Some z) →
      ((n : ℕ) → BodyKeeps h k maps maps n) → WordsTell k maps s t → Tells k maps t
  Tells_stay h k tells shapes bodies tell = record {
    one_address = tells.one_address;
    one_home = tells.one_home;
    homes_follow = subst (λ (b : Base). Follow 1 b.homes b.end) (sym keeps.base) tells.homes_follow;
    taken = taken_stays maps maps s t keeps h tells;
    free_homes = subst (λ (b : Base). (home : ℕ) → Contains b.free_homes home → IsFreeHome b home)
        (sym keeps.base) tells.free_homes;
    shapes = λ a n header named starts.
        let was = keeps.was a n header named starts in
        let z : Shape = record { refs = header.shape.refs; nums = header.shape.nums } in
        let is : shape h n ≡ Some z = tells.shapes a n was.0 named was.1
        ∙ ap (λ (x : words.Shape). let y : Shape = record { refs = x.refs; nums = x.nums } in Some y) was.2 in
        shapes n z is;
    slots = λ a n i header named starts below.
        let was = keeps.was a n header named starts in
        tell.slots a n i was.0 named was.1 (below_refs i was.0.shape header.shape was.2 below);
    numbers = λ a n j header named starts below.
        let was = keeps.was a n header named starts in
        ap (λ (x : words.Shape). Num (t.word (a + 2 + x.refs + j))) (sym was.2) ∙ tell.numbers a n j was.0 named was.1
        (below_nums j was.0.shape header.shape was.2 below);
    globals = λ g below. tell.globals g (subst (λ (b : Base). g < b.globals) keeps.base below);
    homes = λ home n is. HomeStands_stays h k maps maps s t keeps home n (shapes n) (bodies n) (tells.homes home n is);
    home_words = λ a n home named has. let was = tells.home_words a n home named has in
        (was.0, keeps.home_word a n named ∙ was.1);
    named_homes = λ a n home scion named range is. tells.named_homes a n home scion named range
        (sym (keeps.home_word a n named) ∙ is);
    stubs = subst (λ (b : Base). (j : ℕ)
        (x : Scion) → b.scion j ≡ Some x →
        (n : ℕ) × (z : words.Shape) × (maps.home x.home ≡ Some n) × HeadIs b x.home
        (record { shape = z; kind = Stub j })) (sym keeps.base) tells.stubs;
  }
