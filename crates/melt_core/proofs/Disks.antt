-- What is well formed over one disk is so over each that ends at the same word: only that word is looked at.
use Rattle.std.proofs.Common.{◌≡◌, ℕ, ◌+◌, ◌*◌, ◌<◌, ◌≤◌, ◌^◌, inl, inr, refl, sym, ◌∙◌, subst, arith}
use Rattle.std.specs.Prelude.{Bool, true, false, List, Option}
use Rattle.melt_model.specs.declared.history.Entry.{Entry}
use Rattle.melt_model.specs.declared.operations.Op.{Op}
use Rattle.melt_core.specs.declared.answer.StepResult.{StepResult}
use Rattle.melt_word.specs.Words.{cost_of}
use Rattle.melt_word.specs.declared.header.Shape.{Shape}
use Rattle.melt_word.specs.declared.header.Header.{Header}
use Rattle.melt_word.specs.declared.reference.Ref.{Ref}
use Rattle.melt_word.specs.declared.reference.Ref.TheVariants.{Null, Clean, Stale, Disk}
use Rattle.melt_scion.specs.State.{Scion, Base, State, HeaderAt, IsFresh, Forwards}
use Rattle.melt_scion.specs.Placed.{Maps, MayStand, IsReferenceWord, MayHold, IsHomeWord, ScionStands}
use Rattle.melt_scion.specs.Placed.{ForwardMayStand, FormedWords, Holds}
use Rattle.melt_scion.specs.Regions.{Region, Owns}
use Rattle.melt_scion.specs.Heaps.{OnDisk, register_in}
use Rattle.melt_core.specs.declared.call.Place.{Place}
use Rattle.melt_core.specs.declared.call.Place.TheVariants.{Field, Global}
use Rattle.melt_core.specs.declared.call.Stage.{Stage}
use Rattle.melt_core.specs.declared.call.Stage.TheVariants.{Polled, Headed, Looked, Cleared, Claimed, Lacking}
use Rattle.melt_core.specs.declared.call.Stage.TheVariants.{Searching, Missed, HeadRead, BodyRead, Copying, Copied}
use Rattle.melt_core.specs.declared.call.Stage.TheVariants.{Retrying, LackingCopy}
use Rattle.melt_core.specs.declared.call.Search.{Search}
use Rattle.melt_core.specs.declared.call.Activation.{Activation}
use Rattle.melt_scion.specs.Commits.{HasHead, HasBody, HasCopy}
use Rattle.melt_record.specs.Records.{AreSlots}
use Rattle.melt_core.specs.Known.{IsObjectAt, IsPlace, HasLooked, Known, region, word_in, IsTagged}
use Rattle.melt_core.specs.Known.{Searches, Misses, Fetches, HoldsCopy}
use Rattle.melt_core.specs.declared.answer.Refusal.TheVariants as refusal
use Rattle.melt_core.specs.declared.answer.StepResult.TheVariants.{Going, Answered, Refused}
use Rattle.melt_core.specs.Advances.{MayAdvance, MakesEvent, Advances, AdvancesWhere, AdvancesOver, StepOutcome}
use Rattle.melt_core.specs.Advances.{TellsDisk}
use Rattle.melt_core.specs.Views.{View, Standing, maps, state, rest_of}

-- the state over another disk
abbrev pub over_disk : State → OnDisk → State
over_disk s disk =
    record s {
      base = record s.base {
        end = disk.end;
        homes = disk.homes;
        free_homes = disk.free_homes;
        image = disk.image;
      };
    }

module _ (maps : Maps) (s : State) (disk : OnDisk) (ends : disk.end ≡ s.base.end) where
  abbrev t : State
  t = over_disk s disk

  pub header_on : (a : ℕ) (header : Header) → HeaderAt s a header → HeaderAt t a header
  header_on a header starts = record { in_range = starts.in_range; word = starts.word }

  pub header_back : (a : ℕ) (header : Header) → HeaderAt t a header → HeaderAt s a header
  header_back a header starts = record { in_range = starts.in_range; word = starts.word }

  pub fresh_on : (a : ℕ) → IsFresh s a → IsFresh t a
  fresh_on a fresh header starts = fresh header (header_back a header starts)

  pub stand_on : (r : Ref) → MayStand maps s r → MayStand maps t r
  stand_on Null may = tt
  stand_on (Clean a) may = (may.0, fresh_on a may.1)
  stand_on (Stale a) may = may
  stand_on (Disk home) may = (may.0, let below : home < s.base.end = may.1 in omega (arith, below, ends))

  word_on : (word : ℕ) → IsReferenceWord maps s word → IsReferenceWord maps t word
  word_on word is = record {
    reference = is.reference;
    in_range = is.in_range;
    is = is.is;
    stands = stand_on is.reference is.stands;
  }

  pub hold_on : (a : ℕ) → MayHold maps s a → MayHold maps t a
  hold_on a (inl nothing) = inl nothing
  hold_on a (inr holds) = inr (holds.0, fresh_on a holds.1)

  forwards_on : (home a : ℕ) → Forwards s home a → Forwards t home a
  forwards_on home a is = record { place = is.place; within = is.within; sends = is.sends }

  forwards_back : (home a : ℕ) → Forwards t home a → Forwards s home a
  forwards_back home a is = record { place = is.place; within = is.within; sends = is.sends }

  home_on : (a words : ℕ) → IsHomeWord s a words → IsHomeWord t a words
  home_on a words (inl none) = inl none
  home_on a words (inr is) = inr (
    is.0,
    is.1,
    record {
      in_range = is.2.in_range;
      is = is.2.is;
      within = let within : is.0 + words ≤ s.base.end = is.2.within in omega (arith, within, ends);
      forwarded = (
        λ none. forwards_on is.0 a (is.2.forwarded.0 none),
        λ forwards. is.2.forwarded.1 (forwards_back is.0 a forwards),
      );
      live = is.2.live;
    },
  )

  scion_on : (k : ℕ) (x : Scion) → ScionStands maps s k x → ScionStands maps t k x
  scion_on k x is = record { first = is.first; small = is.small; named = is.named; home_word = is.home_word }

  forward_on : (word : ℕ) → ForwardMayStand maps s word → ForwardMayStand maps t word
  forward_on word (inl empty) = inl empty
  forward_on word (inr is) = inr (
    is.0,
    is.1,
    is.2,
    record { named = is.3.named; home_word = is.3.home_word; fresh = fresh_on is.1 is.3.fresh },
  )

  formed_on : FormedWords maps s → FormedWords maps t
  formed_on formed = record {
    small = formed.small;
    first_end = subst (λ (end : ℕ). 1 ≤ end) (sym ends) formed.first_end;
    small_end = subst (λ (end : ℕ). end ≤ 2 ^ 32) (sym ends) formed.small_end;
    objects = λ a n named.
        let object = formed.objects a n named in (
          object.0,
          record {
            starts = header_on a object.0 object.1.starts;
            first = object.1.first;
            within = object.1.within;
            below = object.1.below;
          },
        );
    apart = λ a b n m header named_a named_b starts.
        formed.apart a b n m header named_a named_b (header_back a header starts);
    slots = λ a n i header named starts below.
        word_on (s.word (a + 2 + i)) (formed.slots a n i header named (header_back a header starts) below);
    home_words = λ a n header named starts.
        home_on a (cost_of header.shape) (formed.home_words a n header named (header_back a header starts));
    globals = λ g below. word_on (s.global g) (formed.globals g below);
    scions = λ k x live. scion_on k x (formed.scions k x live);
    forwards = λ p below. forward_on (s.forward p) (formed.forwards p below);
    one_forward = formed.one_forward;
  }

  pub holds_on : (h : List Entry) → Holds false h maps s → Holds false h maps t
  holds_on h holds = record {
    formed = formed_on holds.formed;
    no_gaps = record { filled = holds.no_gaps.filled };
    tells = λ (told : false ≡ true). absurd (cc);
  }

  object_on : (a : ℕ) (shape : Shape) → IsObjectAt maps s a shape → IsObjectAt maps t a shape
  object_on a shape is = record {
    number = is.number;
    named = is.named;
    header = is.header;
    starts = header_on a is.header is.starts;
    shape_is = is.shape_is;
  }

  place_on : (place : Place) → IsPlace maps s place → IsPlace maps t place
  place_on (Field object i) is = (is.0, object_on object is.0 is.1, is.2)
  place_on (Global g) is = is

  word_at_place : (place : Place) → word_in t place ≡ word_in s place
  word_at_place (Field object i) = refl
  word_at_place (Global g) = refl

  looked_on : (place : Place) (found : Ref) → HasLooked maps s place found → HasLooked maps t place found
  looked_on place found is = record {
    at = place_on place is.at;
    in_range = is.in_range;
    tag = is.tag;
    may_stand = stand_on found is.may_stand;
    unless_clean = λ tagged. word_at_place place ∙ is.unless_clean (subst IsTagged (word_at_place place) tagged);
  }

  owns_on : (r : Region) → Owns maps s r → Owns maps t r
  owns_on r is = record {
    first = is.first;
    below = is.below;
    within = is.within;
    outside = λ b n header named starts. is.outside b n header named (header_back b header starts);
  }

  searches_on : (place : Place) (home tried : ℕ) → Searches false maps s place home tried
      → Searches false maps t place home tried
  searches_on place home tried is = record {
    looked = looked_on place (Disk home) is.looked;
    probed = record { few = is.probed.few; others = is.probed.others };
    object = λ (told : false ≡ true). absurd (cc);
  }

  misses_on : (search : Search) → Misses false maps s search → Misses false maps t search
  misses_on search is = record {
    searches = searches_on search.place search.home search.tried is.searches;
    within = is.within;
  }

  head_of : (home : ℕ) (z : Shape) → HasHead false s.base home z → HasHead false t.base home z
  head_of home z is = record {
    in_range = is.in_range;
    small = is.small;
    within = subst (λ (end : ℕ). home + cost_of z ≤ end) (sym ends) is.within;
    on_disk = λ (told : false ≡ true). absurd (cc);
  }

  body_on : (home : ℕ) (z : Shape) (rest : List ℕ) → HasBody false s.base home z rest → HasBody false t.base home z rest
  body_on home z rest is = record {
    head = head_of home z is.head;
    slots = subst (λ (end : ℕ). AreSlots end z.refs rest) (sym ends) is.slots;
    on_disk = λ (told : false ≡ true). absurd (cc);
  }

  copy_on : (address home : ℕ) (z : Shape) (rest : List ℕ) → HasCopy maps s address home z rest
      → HasCopy maps t address home z rest
  copy_on address home z rest is = record { owns = owns_on (region address z) is.owns; are = is.are }

  fetches_on : (rest : List ℕ) (search : Search) (z : Shape) → Fetches false maps s rest search z
      → Fetches false maps t rest search z
  fetches_on rest search z is = record {
    misses = misses_on search is.misses;
    body = body_on search.home z rest is.body;
  }

  holds_copy_on : (rest : List ℕ) (a : Activation) → HoldsCopy false maps s rest a → HoldsCopy false maps t rest a
  holds_copy_on rest a is = record {
    searches = searches_on a.search.place a.search.home a.search.tried is.searches;
    body = body_on a.search.home a.shape rest is.body;
    copy = copy_on a.address a.search.home a.shape rest is.copy;
  }

  pub known_on : (rest : List ℕ) (stage : Stage) → Known false maps s rest stage → Known false maps t rest stage
  known_on rest (Polled task) is = tt
  known_on rest (Headed address shape access) is = object_on address shape is
  known_on rest (Looked place found target dst) is = (looked_on place found is.0, is.1)
  known_on rest (Cleared place found target dst) is = (looked_on place found is.0, is.1, fresh_on target is.2)
  known_on rest (Claimed address shape stored dst) is = (
    is.0,
    record { owns = owns_on (region address shape) is.1.owns; few = is.1.few; are = is.1.are },
  )
  known_on rest (Lacking need) is = is
  known_on rest (Searching search) is = searches_on search.place search.home search.tried is
  known_on rest (Missed search) is = (misses_on search is.0, λ (told : false ≡ true). absurd (cc))
  known_on rest (HeadRead search shape) is =
      (misses_on search is.0, head_of search.home shape is.1, is.2, λ (told : false ≡ true). absurd (cc))
  known_on rest (BodyRead search shape) is = fetches_on rest search shape is
  known_on rest (Copying a stored) is = (
    fetches_on rest a.search a.shape is.0,
    record { owns = owns_on (region a.address a.shape) is.1.owns; few = is.1.few; are = is.1.are },
  )
  known_on rest (Copied a) is = (holds_copy_on rest a is.0, is.1)
  known_on rest (Retrying a) is = holds_copy_on rest a is
  known_on rest (LackingCopy search shape) is = (is.0, misses_on search is.1, head_of search.home shape is.2)

-- what stands over a disk, untold, stands over each that ends at the same word
pub stands_over : (disk other : OnDisk) (v : View) → other.end ≡ disk.end → Standing false disk v
    → Standing false other v
stands_over disk other v ends s = record {
  named = s.named;
  room = s.room;
  scions_made = s.scions_made;
  few = s.few;
  each = s.each;
  buffers = s.buffers;
  rests = s.rests;
  counted = s.counted;
  first = s.first;
  bounded = s.bounded;
  holds = holds_on (maps v) (state disk v) other ends v.log s.holds;
  legal = λ (told : false ≡ true). absurd (cc);
  registers = λ t r. hold_on (maps v) (state disk v) other ends (register_in v.held t r) (s.registers t r);
  known = λ t c is. known_on (maps v) (state disk v) other ends (rest_of v t) c.stage (s.known t c is);
  fits = s.fits;
  apart = s.apart;
  counts = λ (told : false ≡ true). absurd (cc);
}

-- an event that needs the disk's words told where nothing has to be told for it
pub weaker : (tells : Type 0) {disk : OnDisk} {v w : View} {t : ℕ} {o : Op} {result : StepResult}
    → AdvancesOver disk v w t o result → AdvancesWhere tells disk v w t o result
weaker tells {disk} {v} {w} {t} {o} {result} is = record {
  keeps = λ told tell stands. is.keeps told (λ same. tt) stands;
  changes = is.changes;
  evolves = is.evolves;
  others = is.others;
  outcome = weaker_outcome tells disk v w t o result is.outcome;
  clean = is.clean;
  makes = λ tell stands. is.makes tt stands;
}
  where
    weaker_outcome : (tells : Type 0) (disk : OnDisk) (v w : View) (t : ℕ) (o : Op) (result : StepResult)
        → StepOutcome (Unit {0}) disk v w t o result → StepOutcome tells disk v w t o result
    weaker_outcome tells disk v w t o Going is = is
    weaker_outcome tells disk v w t o (Answered reply) is = is
    weaker_outcome tells disk v w t o (Refused (refusal.Pause pause)) is = is
    weaker_outcome tells disk v w t o (Refused refusal.DiskFault) is = is
    weaker_outcome tells disk v w t o (Refused (refusal.Damaged damaged)) is =
        record { lost = is.lost; untold = λ tell. is.untold tt }

-- an event over each disk over which the words are well formed is one over each that ends where one of them does
pub moves_advance : {end : ℕ} (image : Option (List ℕ)) {v w : View} {t : ℕ} {o : Op} {result : StepResult}
    → MayAdvance end v t o → MakesEvent v w t o result → Advances end image v w t o result
moves_advance image {v} may moves = record {
  over = λ disk ends. weaker (TellsDisk image disk)
      (moves.over disk (stands_over may.disk disk v (ends ∙ sym may.ends) may.asks.stands));
}

-- over a disk that ends where it begins no home has an object, so no forwarding word is filled
pub none_forwarded : (maps : Maps) (s : State) → s.base.end ≡ 1 → FormedWords maps s → (p : ℕ) → p < s.base.forwards
    → s.forward p ≡ 0
none_forwarded maps s ends formed p below = elim (formed.forwards p below) [
  | inl empty ↦ empty
  | inr sends ↦
      let named = sends.3.named in
      let object = formed.objects sends.1 named.0 named.1 in
      let home : 0 < sends.0 = sends.2.home_in_range.not_null in
      absurd (elim (formed.home_words sends.1 named.0 object.0 named.1 object.1.starts) [
        | inl none ↦ let e : 0 ≡ 4294967296 * sends.0 + 4 * 0 = sym none ∙ sends.3.home_word in omega arith
        | inr has ↦ let within : has.0 + cost_of object.0.shape ≤ s.base.end = has.2.within in
            omega (arith, within, ends)
      ])
]

searches_untold : (told : Bool) (m : Maps) (s : State) (place : Place) (home tried : ℕ)
    → Searches told m s place home tried → Searches false m s place home tried
searches_untold told m s place home tried is =
    record { looked = is.looked; probed = is.probed; object = λ (tells : false ≡ true). absurd (cc) }

misses_untold : (told : Bool) (m : Maps) (s : State) (search : Search) → Misses told m s search
    → Misses false m s search
misses_untold told m s search is = record {
  searches = searches_untold told m s search.place search.home search.tried is.searches;
  within = is.within;
}

head_untold : (told : Bool) (b : Base) (home : ℕ) (z : Shape) → HasHead told b home z → HasHead false b home z
head_untold told b home z is = record {
  in_range = is.in_range;
  small = is.small;
  within = is.within;
  on_disk = λ (tells : false ≡ true). absurd (cc);
}

body_untold : (told : Bool) (b : Base) (home : ℕ) (z : Shape) (rest : List ℕ) → HasBody told b home z rest
    → HasBody false b home z rest
body_untold told b home z rest is = record {
  head = head_untold told b home z is.head;
  slots = is.slots;
  on_disk = λ (tells : false ≡ true). absurd (cc);
}

fetches_untold : (told : Bool) (m : Maps) (s : State) (rest : List ℕ) (search : Search) (z : Shape)
    → Fetches told m s rest search z → Fetches false m s rest search z
fetches_untold told m s rest search z is = record {
  misses = misses_untold told m s search is.misses;
  body = body_untold told s.base search.home z rest is.body;
}

holds_copy_untold : (told : Bool) (m : Maps) (s : State) (rest : List ℕ) (a : Activation) → HoldsCopy told m s rest a
    → HoldsCopy false m s rest a
holds_copy_untold told m s rest a is = record {
  searches = searches_untold told m s a.search.place a.search.home a.search.tried is.searches;
  body = body_untold told s.base a.search.home a.shape rest is.body;
  copy = is.copy;
}

known_untold : (told : Bool) (m : Maps) (s : State) (rest : List ℕ) (stage : Stage) → Known told m s rest stage
    → Known false m s rest stage
known_untold told m s rest (Polled task) is = tt
known_untold told m s rest (Headed address shape access) is = is
known_untold told m s rest (Looked place found target dst) is =
    (is.0, record { named = is.1.named; same = λ (tells : false ≡ true). absurd (cc) })
known_untold told m s rest (Cleared place found target dst) is =
    (is.0, record { named = is.1.named; same = λ (tells : false ≡ true). absurd (cc) }, is.2)
known_untold told m s rest (Claimed address shape stored dst) is = is
known_untold told m s rest (Lacking need) is = is
known_untold told m s rest (Searching search) is =
    searches_untold told m s search.place search.home search.tried is
known_untold told m s rest (Missed search) is =
    (misses_untold told m s search is.0, λ (tells : false ≡ true). absurd (cc))
known_untold told m s rest (HeadRead search shape) is = (
  misses_untold told m s search is.0,
  head_untold told s.base search.home shape is.1,
  is.2,
  λ (tells : false ≡ true). absurd (cc),
)
known_untold told m s rest (BodyRead search shape) is = fetches_untold told m s rest search shape is
known_untold told m s rest (Copying a stored) is = (fetches_untold told m s rest a.search a.shape is.0, is.1)
known_untold told m s rest (Copied a) is = (holds_copy_untold told m s rest a is.0, is.1)
known_untold told m s rest (Retrying a) is = holds_copy_untold told m s rest a is
known_untold told m s rest (LackingCopy search shape) is =
    (is.0, misses_untold told m s search is.1, head_untold told s.base search.home shape is.2)

-- what stands, told or not, stands untold
pub stands_untold : (told : Bool) (disk : OnDisk) (v : View) → Standing told disk v → Standing false disk v
stands_untold told disk v s = record {
  named = s.named;
  room = s.room;
  scions_made = s.scions_made;
  few = s.few;
  each = s.each;
  buffers = s.buffers;
  rests = s.rests;
  counted = s.counted;
  first = s.first;
  bounded = s.bounded;
  holds = record {
    formed = s.holds.formed;
    no_gaps = s.holds.no_gaps;
    tells = λ (tells : false ≡ true). absurd (cc);
  };
  legal = λ (tells : false ≡ true). absurd (cc);
  registers = s.registers;
  known = λ t c is. known_untold told (maps v) (state disk v) (rest_of v t) c.stage (s.known t c is);
  fits = s.fits;
  apart = s.apart;
  counts = λ (tells : false ≡ true). absurd (cc);
}
