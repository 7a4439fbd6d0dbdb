-- What the stage of a call says of the object that its next event brings into use, clears or reads.
use Rattle.std.proofs.Common.{◌≡◌, ◌≢◌, ◌⊎◌, ℕ, ◌+◌, ◌*◌, ◌<◌, inl, inr, List, sym, ◌∙◌, ap, subst, arith}
use Rattle.std.proofs.lemmas.Bool.Decides.{eqb_tells}
use Rattle.std.proofs.lemmas.Option.{same_Some}
use Rattle.std.specs.Prelude.{Bool, true, false, ◌==◌, if◌then◌else◌, Option, None, Some}
use Rattle.melt_model.specs.declared.operations.Op.{Op}
use Rattle.melt_word.specs.Words.{cost_of}
use Rattle.melt_forward.specs.Forwarding.{Sends}
use Rattle.melt_scion.specs.State.{State}
use Rattle.melt_scion.specs.Heaps.{OnDisk, register_in}
use Rattle.melt_core.specs.Views.{View, maps, state}
use Rattle.melt_scion.specs.Placed.{Maps}
use Rattle.melt_core.specs.declared.call.Access.TheVariants.{Load, Store, Get, Put}
use Rattle.melt_core.specs.declared.call.Task.TheVariants.{Make, Use, LoadGlobal, StoreGlobal}
use Rattle.melt_core.specs.declared.call.Place.{Place}
use Rattle.melt_core.specs.declared.call.Search.{Search}
use Rattle.melt_core.specs.declared.call.Stage.{Stage}
use Rattle.melt_core.specs.declared.call.Stage.TheVariants.{Polled, Headed, Looked, Cleared, Claimed, Lacking}
use Rattle.melt_core.specs.declared.call.Stage.TheVariants.{Searching, Missed, HeadRead, BodyRead, Copying, Copied}
use Rattle.melt_core.specs.declared.call.Stage.TheVariants.{Retrying, LackingCopy}
use Rattle.melt_word.specs.declared.reference.Ref.{Ref}
use Rattle.melt_core.specs.Known.{Known, HasLooked}
use Rattle.melt_core.specs.Stages.{Change, Nothing, Word, SetGlobal, Free, Clear, Untag, Publish, Commit}
use Rattle.melt_core.specs.Stages.{Applies, Next, change_of, cleared_by, next_forward, Lacks, SearchesOn, ReadsAt}
use Rattle.melt_core.specs.StaleBits.{Look, home_look, look_of, pending}

-- an object comes into use at the address by the change
abbrev Appears : State → Change → ℕ → Type 0
Appears s (Publish address shape) a = a ≡ address
Appears s (Commit x) a = (next_forward s x.search ≡ 0) × (a ≡ x.address)
Appears s change a = ⊥

-- and by the next event
abbrev pub AppearsAt : State → Option Stage → ℕ → Type 0
AppearsAt s (Some (Claimed address shape stored dst)) a = (stored + 1 ≡ cost_of shape) × (a ≡ address)
AppearsAt s (Some (Copied x)) a = (next_forward s x.search ≡ 0) × (a ≡ x.address)
AppearsAt s stage a = ⊥

same_name : (maps new : Maps) (a n : ℕ) → new ≡ maps → new.address a ≡ Some n → maps.address a ≡ Some n
same_name maps new a n same named = subst (λ (m : Maps). m.address a ≡ Some n) same named

applied_name : (maps new : Maps) (s t : State) (c : Change) (a : ℕ) {n : ℕ} → Applies maps new s t c
    → new.address a ≡ Some n → (maps.address a ≡ Some n) ⊎ Appears s c a
applied_name maps new s t Nothing a {n} is named = inl (same_name maps new a n is.0 named)
applied_name maps new s t (Word at word) a {n} is named = inl (same_name maps new a n is.0 named)
applied_name maps new s t (SetGlobal g word) a {n} is named = inl (same_name maps new a n is.0 named)
applied_name maps new s t (Free free) a {n} is named = inl (same_name maps new a n is.0 named)
applied_name maps new s t (Clear address) a {n} is named = inl (same_name maps new a n is.0 named)
applied_name maps new s t (Untag place found target) a {n} is named = inl (same_name maps new a n is.0 named)
applied_name maps new s t (Publish address shape) a {n} is named = elim (eqb_tells a address) [
  | inl here ↦ inr here.1
  | inr other ↦ inl (sym (is.1.1.others a other.1) ∙ named)
]
applied_name maps new s t (Commit x) a {n} is named = elim (eqb_tells (next_forward s x.search) 0) [
  | inr filled ↦ inl (same_name maps new a n (is.1 filled.1).0 named)
  | inl empty ↦ elim (eqb_tells a x.address) [
    | inl here ↦ inr (empty.1, here.1)
    | inr other ↦ inl (sym ((is.0 empty.1).1.1.others a other.1) ∙ named)
  ]
]

module _ (s : State) (register : ℕ → ℕ) (rest : List ℕ) where
  claimed_appears : (address stored dst a : ℕ) (shape : _)
      → Appears s (change_of s register rest (Some (Claimed address shape stored dst))) a
      → AppearsAt s (Some (Claimed address shape stored dst)) a
  claimed_appears address stored dst a shape is = elim (eqb_tells (stored + 1) (cost_of shape)) [
    | inl all ↦ (
      all.1,
      subst (λ (b : Bool). Appears s (if b then Publish address shape
          else Word (address + 1 + stored) 0) a) all.0 is,
    )
    | inr more ↦ absurd (subst (λ (b : Bool). Appears s (if b then Publish address shape
        else Word (address + 1 + stored) 0) a) more.0 is)
  ]

  word_appears : (b : Bool) (at word other value a : ℕ)
      → Appears s (if b then Word at word else Word other value) a → ⊥
  word_appears true at word other value a is = is
  word_appears false at word other value a is = is

  appears_at : (stage : Option Stage) (a : ℕ) → Appears s (change_of s register rest stage) a → AppearsAt s stage a
  appears_at None a is = absurd is
  appears_at (Some (Polled (Make dst shape))) a is = absurd is
  appears_at (Some (Polled (Use r access))) a is = absurd is
  appears_at (Some (Polled (LoadGlobal dst g))) a is = absurd is
  appears_at (Some (Polled (StoreGlobal g src))) a is = absurd is
  appears_at (Some (Headed address shape (Load dst i))) a is = absurd is
  appears_at (Some (Headed address shape (Store i src))) a is = absurd is
  appears_at (Some (Headed address shape (Get j))) a is = absurd is
  appears_at (Some (Headed address shape (Put j v))) a is = absurd is
  appears_at (Some (Looked place found target dst)) a is = absurd is
  appears_at (Some (Cleared place found target dst)) a is = absurd is
  appears_at (Some (Claimed address shape stored dst)) a is = claimed_appears address stored dst a shape is
  appears_at (Some (Lacking need)) a is = absurd is
  appears_at (Some (Searching search)) a is = absurd is
  appears_at (Some (Missed search)) a is = absurd is
  appears_at (Some (HeadRead search shape)) a is = absurd is
  appears_at (Some (BodyRead search shape)) a is = absurd is
  appears_at (Some (Copying x stored)) a is = absurd (word_appears (stored + 1 == cost_of x.shape) _ _ _ _ a is)
  appears_at (Some (Copied x)) a is = is
  appears_at (Some (Retrying x)) a is = absurd is
  appears_at (Some (LackingCopy search shape)) a is = absurd is

  -- an address that is named after an event was named before it, or the object came into use by the event
  pub named_before : (maps new : Maps) (t : State) (stage : Option Stage) (a n : ℕ)
      → Applies maps new s t (change_of s register rest stage) → new.address a ≡ Some n
      → (maps.address a ≡ Some n) ⊎ AppearsAt s stage a
  named_before maps new t stage a n is named =
      elim (applied_name maps new s t (change_of s register rest stage) a is named) [
        | inl old ↦ inl old
        | inr appears ↦ inr (appears_at stage a appears)
      ]

-- a word that sends a home is not empty
filled : (word home address : ℕ) → Sends word home address → word ≡ 0 → ⊥
filled word home address sends empty =
    let first : 0 < address = sends.address_in_range.not_null in
    let is : word ≡ 4294967296 * home + 4 * address = sends.is in
    omega arith

-- A call that goes on is about to read the slot of the object that it brought into use,
pub goes_appears : (disk : OnDisk) (v : View) (t : ℕ) (o : Op) (stage : Option Stage) (next : Stage)
    {a : ℕ} → Next (maps v) (state disk v) (register_in v.held t) v.stop o stage next → AppearsAt (state disk v) stage a
    → pending (Some next) ≡ Some a
goes_appears disk v t o None next is at = absurd at
goes_appears disk v t o (Some (Claimed address shape stored dst)) next is at =
    absurd (let more : stored + 1 < cost_of shape = is.0 in omega (arith, more, at.0))
goes_appears disk v t o (Some (Copied x)) next is at = elim is.1 [
  | inl here ↦ absurd (filled (next_forward (state disk v) x.search) x.search.home here.0 here.1 at.0)
  | inr other ↦ elim other [
    | inl none ↦ ap (λ (g : Stage). pending (Some g)) none.1 ∙ ap Some (sym at.1)
    | inr sent ↦ absurd (filled (next_forward (state disk v) x.search) sent.0.0 sent.0.1 sent.0.3 at.0)
  ]
]
goes_appears disk v t o stage next is at = absurd at

-- and that of the object that it cleared,
pub goes_clears : (disk : OnDisk) (v : View) (t : ℕ) (o : Op) (stage : Option Stage) (next : Stage)
    {a : ℕ} → Next (maps v) (state disk v) (register_in v.held t) v.stop o stage next → a ≢ 0
    → cleared_by stage ≡ a → pending (Some next) ≡ Some a
goes_clears disk v t o (Some (Looked place found target dst)) next is some clears =
    ap (λ (g : Stage). pending (Some g)) is ∙ ap Some clears
goes_clears disk v t o stage next is some clears = absurd (some (sym clears))

-- by the last event of the call.
pub pending_is : (stage : Option Stage) (a : ℕ) → pending stage ≡ Some a
    → (place : Place) × (found : Ref) × (dst : ℕ) × (stage ≡ Some (Cleared place found a dst))
pending_is (Some (Cleared place found target dst)) a is =
    (place, found, dst, ap (λ (x : ℕ). Some (Cleared place found x dst)) (same_Some target a is))
pending_is stage a is = absurd (cc)

pub goes_not_pending : (disk : OnDisk) (v : View) (t : ℕ) (o : Op) (stage : Option Stage) (next : Stage)
    {a : ℕ} → Next (maps v) (state disk v) (register_in v.held t) v.stop o stage next
    → pending stage ≡ Some a → ⊥
goes_not_pending disk v t o stage next {a} is waits =
    let at = pending_is stage a waits in
    subst (λ (g : Option Stage). Next (maps v) (state disk v) (register_in v.held t) v.stop o g next) at.3 is

-- A call may be refused at the stage: its next event neither clears a bit, nor brings an object into use, nor reads the
-- slot of its look.
abbrev pub MayBeRefused : Option Stage → Type 0
MayBeRefused (Some (Looked place found target dst)) = ⊥
MayBeRefused (Some (Cleared place found target dst)) = ⊥
MayBeRefused (Some (Claimed address shape stored dst)) = ⊥
MayBeRefused (Some (Copied a)) = ⊥
MayBeRefused stage = Unit {0}

pub lacks_refused : (stage : Option Stage) (need : ℕ) → Lacks stage need → MayBeRefused stage
lacks_refused (Some (Lacking words)) need is = tt
lacks_refused (Some (LackingCopy search shape)) need is = tt
lacks_refused stage need is = absurd is

pub searches_refused : (stage : Option Stage) (search : Search) → SearchesOn stage search → MayBeRefused stage
searches_refused (Some (Searching of)) search is = tt
searches_refused (Some (Retrying a)) search is = tt
searches_refused stage search is = absurd is

pub reads_refused : (stage : Option Stage) (home : ℕ) → ReadsAt stage home → MayBeRefused stage
reads_refused (Some (Missed search)) home is = tt
reads_refused (Some (HeadRead search shape)) home is = tt
reads_refused stage home is = absurd is

pub refused_appears : (s : State) (stage : Option Stage) (a : ℕ) → MayBeRefused stage → AppearsAt s stage a → ⊥
refused_appears s (Some (Claimed address shape stored dst)) a may at = may
refused_appears s (Some (Copied x)) a may at = may
refused_appears s stage a may at = at

pub refused_clears : (stage : Option Stage) (a : ℕ) → MayBeRefused stage → a ≢ 0 → cleared_by stage ≡ a → ⊥
refused_clears (Some (Looked place found target dst)) a may some clears = may
refused_clears stage a may some clears = some (sym clears)

pub refused_not_pending : (stage : Option Stage) (a : ℕ) → MayBeRefused stage → pending stage ≡ Some a → ⊥
refused_not_pending stage a may waits = let at = pending_is stage a waits in subst MayBeRefused at.3 may

-- the reference of a look was found at its place
looked_as : (maps : Maps) (s : State) (look other : Look) → Some look ≡ Some other
    → HasLooked maps s look.place look.found → HasLooked maps s other.place other.found
looked_as maps s look other same is =
    subst (λ (x : Look). HasLooked maps s x.place x.found) (same_Some look other same) is

pub known_look : (told : Bool) (maps : Maps) (s : State) (rest : List ℕ) (stage : Stage) (look : Look)
    → look_of (Some stage) ≡ Some look → Known told maps s rest stage → HasLooked maps s look.place look.found
known_look told maps s rest (Polled task) look is known = absurd (cc)
known_look told maps s rest (Headed address shape access) look is known = absurd (cc)
known_look told maps s rest (Looked place found target dst) look is known =
    looked_as maps s (record { place = place; found = found }) look is known.0
known_look told maps s rest (Cleared place found target dst) look is known =
    looked_as maps s (record { place = place; found = found }) look is known.0
known_look told maps s rest (Claimed address shape stored dst) look is known = absurd (cc)
known_look told maps s rest (Lacking need) look is known = absurd (cc)
known_look told maps s rest (Searching search) look is known = looked_as maps s (home_look search) look is known.looked
known_look told maps s rest (Missed search) look is known =
    looked_as maps s (home_look search) look is known.0.searches.looked
known_look told maps s rest (HeadRead search shape) look is known =
    looked_as maps s (home_look search) look is known.0.searches.looked
known_look told maps s rest (BodyRead search shape) look is known =
    looked_as maps s (home_look search) look is known.misses.searches.looked
known_look told maps s rest (Copying a stored) look is known =
    looked_as maps s (home_look a.search) look is known.0.misses.searches.looked
known_look told maps s rest (Copied a) look is known =
    looked_as maps s (home_look a.search) look is known.0.searches.looked
known_look told maps s rest (Retrying a) look is known =
    looked_as maps s (home_look a.search) look is known.searches.looked
known_look told maps s rest (LackingCopy search shape) look is known =
    looked_as maps s (home_look search) look is known.1.searches.looked
