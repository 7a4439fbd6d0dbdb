-- Private stores: a thread sets a word of the region that its call owns, and the call goes on with that region.
use Rattle.std.proofs.Common.{◌≡◌, ◌≢◌, ℕ, ◌+◌, ◌<◌, ◌≤◌, inl, inr, refl, sym, ◌∙◌, ap, subst, arith}
use Rattle.std.proofs.lemmas.Bool.{cases_eq}
use Rattle.std.specs.Prelude.{Bool, false, None, Some}
use Rattle.melt_model.specs.declared.operations.Op.{Op}
use Rattle.melt_word.specs.Words.{cost_of}
use Rattle.melt_word.specs.declared.header.Shape.{Shape}
use Rattle.melt_word.specs.declared.header.Header.{Header}
use Rattle.melt_space.specs.Space.{SpaceWords, SetsWord}
use Rattle.melt_scion.specs.State.{Base, State}
use Rattle.melt_scion.specs.Placed.{Maps, FormedWords}
use Rattle.melt_scion.specs.Regions.{Region, Apart, Owns, HasStored}
use Rattle.melt_scion.specs.Changes.{WordChanges}
use Rattle.melt_scion.specs.Heaps.{OnDisk, register_in}
use Rattle.melt_scion.proofs.Geometry.{one_header, header_moves}
use Rattle.melt_core.specs.declared.answer.StepResult.TheVariants.{Going}
use Rattle.melt_core.specs.declared.call.Stage.{Stage}
use Rattle.melt_core.specs.Known.{Known, Evolves, region, region_of}
use Rattle.melt_core.specs.Events.{Event, stores}
use Rattle.melt_core.specs.Stages.{Next, Applies, Word, change_of, cleared_by}
use Rattle.melt_core.specs.Advances.{Asks, AdvancesOver}
use Rattle.melt_core.specs.Views.{View, Standing, maps, state, rest_of, stage_of}
use Rattle.melt_core.proofs.Evolving.{evolves_event}
use Rattle.melt_core.proofs.Retaining.{retained, retains}
use Rattle.melt_core.proofs.Words.{word_set}

-- an object apart from a region does not start in it
outside_at : (b cost at : ℕ) (r : Region) → Apart (record { at = b; words = 2 + cost }) r → r.at ≤ at
    → at < r.at + r.words → b ≢ at
outside_at b cost at r apart from to = λ same. elim (cases_eq b r.at) [
  | inl first ↦ apart.differ (omega arith) (omega arith) first
  | inr other ↦ let past : r.at + r.words ≤ b = apart.after (omega arith) in omega arith
]

-- the region of a thread, where one of its own words is stored
owns_stored : (m : Maps) (s t : State) (r : Region) (at word : ℕ) → FormedWords m s → Owns m s r → r.at ≤ at
    → at < r.at + r.words → WordChanges s t at word → Owns m t r
owns_stored m s t r at word formed owns from to changes = record {
  first = owns.first;
  below = let e : t.free ≡ s.free = changes.free in let below : r.at + r.words ≤ s.free = owns.below in omega arith;
  within = subst (λ (b : Base). r.at + r.words ≤ b.size + 1) (sym changes.base) owns.within;
  outside = λ b n header named starts.
      let object = formed.objects b n named in
      let apart : Apart (record { at = b; words = cost_of object.0.shape }) r =
      owns.outside b n object.0 named object.1.starts in
      let other : b ≢ at = outside_at b (object.0.shape.refs + object.0.shape.nums) at r
      (subst (λ (n : ℕ). Apart (record { at = b; words = n }) r)
      (let e : cost_of object.0.shape ≡ 2 + (object.0.shape.refs + object.0.shape.nums) = omega arith in e) apart)
      from to in
      let same : object.0 ≡ header =
      one_header s b object.0 header object.1.starts
      (header_moves s t b header (sym (changes.others b other)) starts) in
      subst (λ (h : Header). Apart (record { at = b; words = cost_of h.shape }) r) same apart;
}

-- none of the words after the header is stored yet
pub none_stored : (m : Maps) (s : State) (address : ℕ) (shape : Shape) (holds : ℕ → ℕ) → Owns m s (region address shape)
    → HasStored m s (region address shape) holds 0
none_stored m s address shape holds owns = record {
  owns = owns;
  few = omega arith;
  are = λ k one none. absurd (omega arith);
}

-- and now one more is
pub stored_more : {m : Maps} {s t : State} {r : Region} {holds : ℕ → ℕ} {stored at word : ℕ}
    → HasStored m s r holds stored → Owns m t r → at ≡ r.at + (stored + 1) → word ≡ holds (stored + 1)
    → stored + 1 < r.words → WordChanges s t at word → HasStored m t r holds (stored + 1)
stored_more {t} {r} {holds} {stored} {at} {word} has owns place is few changes = record {
  owns = owns;
  few = few;
  are = λ k one up_to. elim (cases_eq k (stored + 1)) [
    | inl same ↦ subst (λ (j : ℕ). t.word (r.at + j) ≡ holds j) (sym same) (ap t.word (sym place) ∙ (changes.here ∙ is))
    | inr other ↦ changes.others (r.at + k) (λ e. other (omega (arith, e, place))) ∙ has.are k one (omega arith)
  ];
}

-- What a private store shows: the stages around it, and the word that it sets, in the
-- region that the call owns at both.
pub record Storing (disk : OnDisk) (v : View) (space : SpaceWords) (t place word : ℕ) (o : Op) (before after : Stage)
    : Type 0 where
  pub asks : Asks disk v t o
  pub at : stage_of v t ≡ Some before
  pub sets : SetsWord v.space space place word
  pub owns : Owns (maps v) (state disk v) (region_of before)
  pub from : (region_of before).at ≤ place
  pub to : place < (region_of before).at + (region_of before).words
  pub keeps : region_of after ≡ region_of before
  pub no_clear : cleared_by (Some before) ≡ 0
  pub change : change_of (state disk v) (register_in v.held t) (rest_of v t) (Some before) ≡ Word place word
  pub next : Next (maps v) (state disk v) (register_in v.held t) v.stop o (Some before) after
  pub known : (told : Bool) → Standing told disk v → (s : State) → Evolves (maps v) (maps v) (state disk v) s 0
      → Owns (maps v) s (region_of before) → WordChanges (state disk v) s place word
      → Known told (maps v) s (rest_of v t) after

-- A word of the region was stored.
pub store_advances : (disk : OnDisk) {v : View} {space : SpaceWords} {t place word : ℕ} {o : Op} {before after : Stage}
    → Storing disk v space t place word o before after
    → AdvancesOver disk v (retained v space t o after) t o Going
store_advances disk {v} {space} {t} {place} {word} {o} {before} {after} is =
    let s : Standing false disk v = is.asks.stands in
    let w : View = retained v space t o after in
    let mine : Region = region_of before in
    let changes : WordChanges (state disk v) (state disk w) place word =
    word_set disk v space v.held place word is.sets in
    let owns : Owns (maps w) (state disk w) mine =
    owns_stored (maps v) (state disk v) (state disk w) mine place word s.holds.formed is.owns is.from is.to changes in
    let event : (told : Bool) → Event told v.log (maps v) (maps w) (state disk v) (state disk w) mine 0 None =
    λ told. stores mine place word refl is.owns is.from is.to changes in
    let evolves : Evolves (maps v) (maps w) (state disk v) (state disk w) 0 =
    evolves_event false v.log (maps v) (maps w) (state disk v) (state disk w) mine 0 None s.holds.formed
    (event false) in
    retains is.asks (record {
      at = is.at;
      keeps = is.keeps;
      mine_is = inr refl;
      no_clear = is.no_clear;
      event = event;
      words = is.sets.size;
      applies = subst (Applies (maps v) (maps w) (state disk v) (state disk w)) (sym is.change) (refl, changes);
      next = is.next;
      known = λ told stands. is.known told stands (state disk w) evolves owns changes;
    })
