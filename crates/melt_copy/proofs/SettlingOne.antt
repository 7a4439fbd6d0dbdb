-- One object is settled: what the heap stood for it still stands for, whether the Stub could be written or not.
use Rattle.std.proofs.Common.{◌≡◌, ◌≢◌, inl, inr, ℕ, ◌+◌, ◌*◌, ◌<◌, ◌≤◌, List, ◌∷◌, length, refl, sym, ◌∙◌}
use Rattle.std.proofs.Common.{ap, subst, arith}
use Rattle.std.proofs.Math.ListN.{length-set}
use Rattle.std.proofs.lemmas.List.{get_or-set_same, get_or-set_other}
use Rattle.std.proofs.lemmas.Option.{same_Some}
use Rattle.std.specs.Prelude.{◌^◌, ◌/◌, Option, Some, slice_index}
use Rattle.std.specs.List.{Contains}
use Rattle.std.specs.Option.{option_map}
use Rattle.melt_model.specs.History as model
use Rattle.melt_model.specs.declared.history.Entry.{Entry}
use Rattle.melt_word.specs.Words.{IsShape, IsHeader, cost_of, header_word}
use Rattle.melt_word.specs.declared.header.Shape.{Shape}
use Rattle.melt_word.specs.declared.header.Header.{Header}
use Rattle.melt_forward.specs.Forwarding.{Sends}
use Rattle.melt_record.specs.Records.{head_word, stub_words}
use Rattle.melt_record.specs.declared.head.Kind.TheVariants.{Stub}
use Rattle.melt_space.specs.Space.{word_at}
use Rattle.melt_io.specs.Outside.{KeepsOthers, Writes}
use Rattle.melt_scion.specs.State.{Scion, State, HeaderAt, ObjectAt, Forwards, IsReserved}
use Rattle.melt_scion.specs.Placed.{Maps, MayHold, ForwardStands, FormedWords, HeadIs, HomeStands}
use Rattle.melt_scion.specs.Placed.{Tells}
use Rattle.melt_scion.specs.Settles.{WritesHome, SettlesOne}
use Rattle.melt_scion.specs.Scions.{Scions, Adds, IsTable, IsUnused}
use Rattle.melt_scion.specs.Heaps.{OnDisk, AreScionsFor, HasMaps, HasNames, state_of}
use Rattle.melt_scion.specs.declared.registers.Registers.{Registers}
use Rattle.melt_scion.specs.declared.heap.Names as heap
use Rattle.melt_scion.specs.GhostMaps.{NamePairs}
use Rattle.melt_scion.specs.declared.heap.Heap.{Heap}
use Rattle.melt_scion.proofs.Few.{room_for_scion}
use Rattle.melt_scion.proofs.Forwarded.{forward_stands, forwarded_object}
use Rattle.melt_scion.proofs.Geometry.{after_header}
use Rattle.melt_scion.proofs.Numbers.{contains_here}
use Rattle.melt_scion.proofs.SameObjects.{header_was}
use Rattle.melt_scion.proofs.Settling.{settle_same, settle_formed}
use Rattle.melt_scion.proofs.SettlingTells.{settle_tells}
use Rattle.melt_scion.proofs.WritingHome.{written_formed, written_tells}
use Rattle.melt_copy.specs.Settling.{Keeps, SettlesAt, with_image}
use Rattle.melt_copy.proofs.Stubs.{ChangesTwo, PutsTwo, puts_two, changes_two}

same_shape : (y z : Shape)
    → Some (let known : model.Shape = record { refs = y.refs; nums = y.nums } in known)
    ≡ Some (record { refs = z.refs; nums = z.nums }) → y ≡ z
same_shape y z same =
    let one : record { refs = y.refs; nums = y.nums } ≡ record { refs = z.refs; nums = z.nums } = same_Some _ _ same in
    let refs : y.refs ≡ z.refs = ap (λ (s : model.Shape). s.refs) one in
    let nums : y.nums ≡ z.nums = ap (λ (s : model.Shape). s.nums) one in
    ap (λ (n : ℕ). let s : Shape = record { refs = n; nums = y.nums } in s) refs
    ∙ ap (λ (n : ℕ). let s : Shape = record { refs = z.refs; nums = n } in s) nums

-- The object to which a forwarding word sends its home.
module _ (maps : Maps) (heap : Heap) (held : List Registers) (disk : OnDisk) (place home address : ℕ)
    (formed : FormedWords maps (state_of heap held disk)) (within : place < length heap.forward)
    (sends : Sends (slice_index heap.forward place) home address) where
  abbrev pub before : State
  before = state_of heap held disk

  abbrev pub forwards : Forwards before home address
  forwards = record { place = place; within = within; sends = sends }

  abbrev pub stands : ForwardStands maps before home address
  stands = forward_stands maps before home address formed forwards

  abbrev pub object : (header : Header) × ObjectAt before address header
  object = formed.objects address stands.named.0 stands.named.1

  -- its words lie before the end from its home on
  pub home_within : home + cost_of object.0.shape ≤ disk.end
  home_within =
      let is : word_at heap.space (address + 1) ≡ 4294967296 * home + 4 * 0 = stands.home_word in
      let first : 0 < home = sends.home_in_range.not_null in
      elim (formed.home_words address stands.named.0 object.0 stands.named.1 object.1.starts) [
        | inl none ↦ absurd (omega (arith, none, is, first))
        | inr has ↦
            let also : word_at heap.space (address + 1) ≡ 4294967296 * has.0 + 4 * has.1 = has.2.is in
            let small : has.1 < 1073741824 = has.2.in_range.scion in
            let inside : has.0 + cost_of object.0.shape ≤ disk.end = has.2.within in
            omega (arith, is, also, small, inside)
      ]

  -- there is a scion for it
  pub has_room : AreScionsFor (length heap.space.list) heap.scions
      → length heap.scions.live < length heap.scions.pairs
  has_room table = room_for_scion maps heap held disk address stands.named.0 table formed stands.named.1
      (inr (home, stands.home_word))

  -- a write of two words at its home, whatever they are
  module _ (after : Option (List ℕ)) (changes : ChangesTwo disk.image after home) where
    abbrev pub written : State
    written = state_of heap held (with_image disk changes.image)

    pub writes : WritesHome before written home 2
    writes = record {
      sizes = record { size = refl; globals = refl; forwards = refl };
      same_homes = record { end = refl; homes = refl; free_homes = refl };
      scion = λ k. refl;
      others = changes.others;
      free = refl;
      word = λ k. refl;
      global = λ g. refl;
      forward = λ p. refl;
    }

    pub formed_then : FormedWords maps written
    formed_then = written_formed maps before written home 2 writes formed

    pub header_before : (a : ℕ) (header : Header) → HeaderAt written a header → HeaderAt before a header
    header_before a header starts = record { in_range = starts.in_range; word = starts.word }

    pub header_then : (a : ℕ) (header : Header) → HeaderAt before a header → HeaderAt written a header
    header_then a header starts = record { in_range = starts.in_range; word = starts.word }

    pub holds_then : (a : ℕ) → MayHold maps before a → MayHold maps written a
    holds_then a (inl nothing) = inl nothing
    holds_then a (inr holds) = inr (holds.0, λ header starts. holds.1 header (header_before a header starts))

    -- the home of the object, by what was told
    pub home_stands : (h : List Entry) → Tells h maps before → HomeStands h maps before home stands.named.0
    home_stands h tells =
        tells.homes home stands.named.0 (forwarded_object maps before home address formed forwards h tells)

    pub tells_then : (h : List Entry) → Tells h maps before → Tells h maps written
    tells_then h tells =
        let it = home_stands h tells in
        written_tells maps before written home 2 writes address it.reserved_for formed forwards it.reserved
        (omega arith) h tells

    -- the home was reserved for the shape of the object
    pub shape_is : (h : List Entry) (tells : Tells h maps before) → (home_stands h tells).reserved_for ≡ object.0.shape
    shape_is h tells =
        let it = home_stands h tells in
        let also = tells.shapes address stands.named.0 object.0 stands.named.1 object.1.starts in
        same_shape it.reserved_for object.0.shape (sym it.shape_is ∙ also)

-- So a write that failed leaves all that the heap stands for.
pub keeps_failed : (heap : Heap) (end place : ℕ) {home address : ℕ} (before after : Option (List ℕ))
    → place < length heap.forward → Sends (slice_index heap.forward place) home address
    → KeepsOthers before home 2 after → Keeps heap heap end before after
keeps_failed heap end place {home} {address} before after within sends others maps disk held is shows names formed =
    let changes : ChangesTwo disk.image after home = changes_two before disk.image after home shows others in
    record {
      image = changes.image;
      shows = changes.shows;
      names = names;
      formed = formed_then maps heap held disk place home address formed within sends after changes;
      holds = holds_then maps heap held disk place home address formed within sends after changes;
      headers = λ a n header named starts.
          header_then maps heap held disk place home address formed within sends after changes a header starts;
      tells = tells_then maps heap held disk place home address formed within sends after changes;
    }

-- the number that an addition gives is one that the table is for
pub given_unused : (old new : Scions) (home address scion : ℕ) → IsTable old → Adds old new home address scion
    → IsUnused old scion
given_unused old new home address scion table adds =
    let first : Contains (scion ∷ new.unused) scion = contains_here scion new.unused in
    (table.unused scion).0 (subst (λ (xs : List ℕ). Contains xs scion) (sym adds.given) first)

-- the heap keeps its maps
pub maps_kept : (old new : Heap) (maps : Maps) → new.names ≡ old.names → new.maps ≡ old.maps → HasMaps old maps
    → HasMaps new maps
maps_kept old new maps names pairs has =
    subst (λ (o : Option heap.Names). HasNames o new.maps maps) (sym names)
    (subst (λ (p : NamePairs). HasNames old.names p maps) (sym pairs) has)

-- Scion, home word and forwarding word changed together.
module _ (maps : Maps) (old new : Heap) (held : List Registers) (disk : OnDisk) (place home address : ℕ)
    (formed : FormedWords maps (state_of old held disk)) (table : AreScionsFor (length old.space.list) old.scions)
    (within : place < length old.forward) (sends : Sends (slice_index old.forward place) home address)
    (settles : SettlesAt old new place home address) where
  abbrev was : State
  was = state_of old held disk

  abbrev is_now : State
  is_now = state_of new held disk

  unused : IsUnused old.scions settles.scion
  unused = given_unused old.scions new.scions home address settles.scion table.is_table settles.adds

  pub small_scion : settles.scion < 2 ^ 30
  small_scion =
      let range : settles.scion ≤ length old.scions.pairs = unused.in_range in
      let size : length old.scions.pairs ≡ length old.space.list / 2 = table.size in
      let small : length old.space.list < 1073741824 = formed.small in
      omega (arith, range, size, small)

  pub settles_one : SettlesOne was is_now place home address settles.scion
  settles_one = record {
    within = within;
    sends = sends;
    first = let first = unused.from_1 in omega (arith, first);
    small = small_scion;
    not_live = ap (option_map (λ (pair : ℕ × ℕ). let x : Scion = record { home = pair.0; address = pair.1 } in x))
        settles.adds.was_unused;
    sizes = record {
      size = settles.space.size;
      globals = ap length settles.globals;
      forwards = ap length settles.forward ∙ length-set old.forward place 0;
    };
    same_homes = record { end = refl; homes = refl; free_homes = refl };
    image = λ k. refl;
    live = ap (option_map (λ (pair : ℕ × ℕ). let x : Scion = record { home = pair.0; address = pair.1 } in x))
        settles.adds.here;
    other_scions = λ k other.
        ap (option_map (λ (pair : ℕ × ℕ). let x : Scion = record { home = pair.0; address = pair.1 } in x))
        (settles.adds.others k other);
    free = ap (λ (n : ℕ). n + 1) settles.space.used;
    home_word_is = settles.space.here;
    other_words = settles.space.others;
    global = λ g. ap (λ (xs : List ℕ). slice_index xs g) settles.globals;
    empty = ap (λ (xs : List ℕ). slice_index xs place) settles.forward ∙ get_or-set_same old.forward place 0 0 within;
    other_forwards = λ q other. ap (λ (xs : List ℕ). slice_index xs q) settles.forward
        ∙ get_or-set_other old.forward place q 0 0 other;
  }

  pub formed_more : FormedWords maps is_now
  formed_more = settle_formed maps was is_now place home address settles.scion settles_one formed

  pub header_was_there : (a n : ℕ) (header : Header) → maps.address a ≡ Some n → HeaderAt is_now a header
      → HeaderAt was a header
  header_was_there a n header named starts =
      header_was maps was is_now formed
      (settle_same maps was is_now place home address settles.scion settles_one formed) a n header named starts

  -- no header is the home word of the object
  pub header_stays : (a n : ℕ) (header : Header) → maps.address a ≡ Some n → HeaderAt was a header
      → HeaderAt is_now a header
  header_stays a n header named starts =
      let it = stands maps old held disk place home address formed within sends in
      let at = object maps old held disk place home address formed within sends in
      let other : a ≢ address + 1 =
      after_header a 1 formed named it.named.1 at.1.starts (omega arith) (omega arith) refl in
      record { in_range = starts.in_range; word = settles.space.others a other ∙ starts.word }

  pub holds_more : (a : ℕ) → MayHold maps was a → MayHold maps is_now a
  holds_more a (inl nothing) = inl nothing
  holds_more a (inr holds) =
      inr (holds.0, λ header starts. holds.1 header (header_was_there a holds.0.0 header holds.0.1 starts))

-- The object is settled once its Stub stands.
pub keeps_settled : {old new : Heap} (end : ℕ) {place home address : ℕ} (z : Shape) (before after : Option (List ℕ))
    → AreScionsFor (length old.space.list) old.scions → place < length old.forward
    → Sends (slice_index old.forward place) home address
    → ((header : Header) → IsHeader header → word_at old.space address ≡ header_word header → z ≡ header.shape)
    → (settles : SettlesAt old new place home address) → Writes before home (stub_words home z settles.scion) after
    → Keeps old new end before after
keeps_settled {old} {new} end {place} {home} {address} z before after table within sends shape settles writes maps disk
    held is shows names formed =
    let puts : PutsTwo disk.image after home (head_word 2 z home) settles.scion =
    puts_two before disk.image after home (head_word 2 z home) settles.scion shows writes in
    let changes : ChangesTwo disk.image after home = puts.changes in
    let then : OnDisk = with_image disk changes.image in
    let s : State = state_of old held disk in
    let written : State = state_of old held then in
    let t : State = state_of new held then in
    let at = object maps old held disk place home address formed within sends in
    let formed_then : FormedWords maps written =
    formed_then maps old held disk place home address formed within sends after changes in
    let one : SettlesOne written t place home address settles.scion =
    settles_one maps old new held then place home address formed_then table within sends settles in
    record {
      image = changes.image;
      shows = changes.shows;
      names = maps_kept old new maps settles.names settles.maps names;
      formed = formed_more maps old new held then place home address formed_then table within sends settles;
      holds = λ a may.
          holds_more maps old new held then place home address formed_then table within sends settles a
          (holds_then maps old held disk place home address formed within sends after changes a may);
      headers = λ a n header named starts.
          header_stays maps old new held then place home address formed_then table within sends settles a n header named
          (header_then maps old held disk place home address formed within sends after changes a header starts);
      tells = λ h tells.
          let it = home_stands maps old held disk place home address formed within sends after changes h tells in
          let shape_here : z ≡ at.0.shape = shape at.0 at.1.starts.in_range at.1.starts.word in
          let reserved_for : it.reserved_for ≡ z =
          shape_is maps old held disk place home address formed within sends after changes h tells ∙ sym shape_here in
          let cost : home + cost_of at.0.shape ≤ disk.end =
          home_within maps old held disk place home address formed within sends in
          let head : HeadIs written.base home (record { shape = z; kind = Stub settles.scion }) = record {
            first_word = record {
              in_range = subst IsShape (sym shape_here) at.1.starts.in_range;
              within = subst (λ (y : Shape). home + cost_of y ≤ disk.end) (sym shape_here) cost;
              spelled = puts.first_is;
            };
            second_word = (
              record {
                not_null = let first = one.first in omega (arith, first);
                small = one.small;
              },
              puts.second_is,
            );
          } in
          settle_tells maps written t place home address settles.scion one formed_then z head
          (subst (IsReserved disk.homes home) reserved_for it.reserved) h
          (tells_then maps old held disk place home address formed within sends after changes h tells);
    }
