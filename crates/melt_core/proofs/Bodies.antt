-- How a copy of a Body is made: the events of its claim and of its private stores.
use Rattle.std.proofs.Common.{◌≡◌, ℕ, ◌+◌, ◌<◌, inl, inr, refl, sym, ◌∙◌, ap, subst, arith}
use Rattle.std.proofs.lemmas.Bool.{cases_eq, eq-eqb, ne_eqb}
use Rattle.std.specs.Prelude.{Bool, false, List, Some, if◌then◌else◌}
use Rattle.melt_model.specs.declared.operations.Op.{Op}
use Rattle.melt_word.specs.Words.{header_word, cost_of}
use Rattle.melt_word.specs.declared.header.Shape.{Shape}
use Rattle.melt_space.specs.Space.{SpaceWords, SetsWord}
use Rattle.melt_scion.specs.State.{State}
use Rattle.melt_scion.specs.Placed.{Maps}
use Rattle.melt_scion.specs.Regions.{Owns, HasStored}
use Rattle.melt_scion.specs.Changes.{WordChanges}
use Rattle.melt_scion.specs.Commits.{HasCopy, copy_word}
use Rattle.melt_scion.specs.Heaps.{OnDisk}
use Rattle.melt_core.specs.declared.answer.StepResult.TheVariants.{Going}
use Rattle.melt_core.specs.declared.call.Activation.{Activation}
use Rattle.melt_core.specs.declared.call.Search.{Search}
use Rattle.melt_core.specs.declared.call.Stage.TheVariants.{BodyRead, Copying, Copied, LackingCopy}
use Rattle.melt_core.specs.Known.{Evolves, Fetches, region}
use Rattle.melt_core.specs.Stages.{Word, fresh_header}
use Rattle.melt_core.specs.Advances.{Asks, AdvancesOver}
use Rattle.melt_core.specs.Views.{View, Standing, maps, state, rest_of, stage_of}
use Rattle.melt_core.proofs.Asked.{known_at, known_so}
use Rattle.melt_core.proofs.Making.{AroundClaim}
use Rattle.melt_core.proofs.Staying.{fetches_stays}
use Rattle.melt_core.proofs.Retaining.{retained}
use Rattle.melt_core.proofs.Storing.{Storing, none_stored, store_advances, stored_more}

-- the stages around a claim for a copy
pub around_copy : (disk : OnDisk) (v : View) (t : ℕ) (o : Op) (search : Search) (shape : Shape) → Asks disk v t o
    → stage_of v t ≡ Some (BodyRead search shape)
    → AroundClaim disk v t o shape (BodyRead search shape)
    (Copying (record { search = search; address = v.free; shape = shape }) 0) (LackingCopy search shape)
around_copy disk v t o search shape asks at =
    let read = known_at disk v t o (BodyRead search shape) asks at in
    let later : (told : Bool) → Standing told disk v → (s : State)
    → Evolves (maps v) (maps v) (state disk v) s 0 → Fetches told (maps v) s (rest_of v t) search shape =
    λ told stands s evolves. fetches_stays (maps v) (maps v) (state disk v) s 0 stands.holds.formed evolves told
    (rest_of v t) search shape (known_so told disk v t o (BodyRead search shape) asks at stands) in
    record {
      asks = asks;
      at = at;
      small = read.body.head.small;
      no_clear = refl;
      unclaimed = refl;
      may_claim = refl;
      no_claim = refl;
      owns = refl;
      owns_none = refl;
      change = refl;
      next = λ stage fits lacks. (fits, lacks);
      known = λ told stands s evolves owns. (
        later told stands s evolves,
        none_stored (maps v) s v.free shape (copy_word search.home shape (rest_of v t)) owns,
      );
      known_none = λ told stands s evolves above.
          let has = later told stands s evolves in (above, has.misses, has.body.head);
    }

-- what a call knows that stores a copy
pub copying_known : (disk : OnDisk) (v : View) (t : ℕ) (o : Op) (a : Activation) (stored : ℕ) → Asks disk v t o
    → stage_of v t ≡ Some (Copying a stored) → Fetches false (maps v) (state disk v) (rest_of v t) a.search a.shape
    × HasStored (maps v) (state disk v) (region a.address a.shape)
    (copy_word a.search.home a.shape (rest_of v t)) stored
copying_known disk v t o a stored asks at = known_at disk v t o (Copying a stored) asks at

-- what was stored of a copy is all of it, once its header is
whole_copy : (m : Maps) (s t : State) (a : Activation) (rest : List ℕ) (stored : ℕ)
    → HasStored m s (region a.address a.shape) (copy_word a.search.home a.shape rest) stored
    → Owns m t (region a.address a.shape) → stored + 1 ≡ cost_of a.shape
    → WordChanges s t a.address (fresh_header a.shape) → HasCopy m t a.address a.search.home a.shape rest
whole_copy m s t a rest stored has owns all changes = record {
  owns = owns;
  are = λ k below. elim (cases_eq k 0) [
    | inl first ↦ subst (λ (j : ℕ). t.word (a.address + j) ≡ copy_word a.search.home a.shape rest j) (sym first)
        (ap t.word (let e : a.address + 0 ≡ a.address = omega arith in e) ∙ changes.here)
    | inr other ↦ changes.others (a.address + k) (λ e. other (omega (arith, e)))
        ∙ has.are k (omega arith) (omega arith)
  ];
}

-- A word of a copy after its header was stored.
pub copy_word_advances : {disk : OnDisk} {v : View} {space : SpaceWords} {t : ℕ} {o : Op} {a : Activation}
    {stored word : ℕ} → Asks disk v t o → stage_of v t ≡ Some (Copying a stored) → stored + 1 < cost_of a.shape
    → word ≡ copy_word a.search.home a.shape (rest_of v t) (stored + 1)
    → SetsWord v.space space (a.address + (stored + 1)) word
    → AdvancesOver disk v (retained v space t o (Copying a (stored + 1))) t o Going
copy_word_advances {disk} {v} {space} {t} {o} {a} {stored} asks at few is sets =
    let known = copying_known disk v t o a stored asks at in
    let place : ℕ = a.address + 1 + stored in
    let holds : ℕ → ℕ = copy_word a.search.home a.shape (rest_of v t) in
    let storing : Storing disk v space t place (holds (stored + 1)) o (Copying a stored) (Copying a (stored + 1)) =
    record {
      asks = asks;
      at = at;
      sets = subst (λ (p : ℕ). SetsWord v.space space p (holds (stored + 1)))
          (let e : a.address + (stored + 1) ≡ place = omega arith in e)
          (subst (SetsWord v.space space (a.address + (stored + 1))) is sets);
      owns = known.1.owns;
      from = omega arith;
      to = omega arith;
      keeps = refl;
      no_clear = refl;
      change = ap (λ (b : Bool). if b then Word a.address (fresh_header a.shape)
          else Word place (holds (stored + 1))) (ne_eqb (stored + 1) (cost_of a.shape) (λ e. omega arith));
      next = (λ more. refl, λ all. absurd (omega arith));
      known = λ told stands s evolves owns changes.
          let now = known_so told disk v t o (Copying a stored) asks at stands in (
            fetches_stays (maps v) (maps v) (state disk v) s 0 stands.holds.formed evolves told (rest_of v t) a.search
                a.shape now.0,
            stored_more now.1 owns (omega arith) refl few changes,
          );
    } in
    store_advances disk storing

-- The header of a copy was stored, and with it the whole copy.
pub copy_header_advances : {disk : OnDisk} {v : View} {space : SpaceWords} {t : ℕ} {o : Op} {a : Activation}
    {stored word : ℕ} → Asks disk v t o → stage_of v t ≡ Some (Copying a stored) → stored + 1 ≡ cost_of a.shape
    → word ≡ header_word (record { shape = a.shape; stale = false }) → SetsWord v.space space a.address word
    → AdvancesOver disk v (retained v space t o (Copied a)) t o Going
copy_header_advances {disk} {v} {space} {t} {o} {a} {stored} asks at all is sets =
    let known = copying_known disk v t o a stored asks at in
    let storing : Storing disk v space t a.address (fresh_header a.shape) o (Copying a stored) (Copied a) =
    record {
      asks = asks;
      at = at;
      sets = subst (SetsWord v.space space a.address) is sets;
      owns = known.1.owns;
      from = omega arith;
      to = omega arith;
      keeps = refl;
      no_clear = refl;
      change = ap (λ (b : Bool). if b then Word a.address (fresh_header a.shape)
          else Word (a.address + 1 + stored) (copy_word a.search.home a.shape (rest_of v t) (stored + 1)))
          (eq-eqb (stored + 1) (cost_of a.shape) all);
      next = (λ more. absurd (omega arith), λ whole. refl);
      known = λ told stands s evolves owns changes.
          let now = known_so told disk v t o (Copying a stored) asks at stands in
          let later = fetches_stays (maps v) (maps v) (state disk v) s 0 stands.holds.formed evolves told (rest_of v t)
          a.search a.shape now.0 in (
            record {
              searches = later.misses.searches;
              body = later.body;
              copy = whole_copy (maps v) (state disk v) s a (rest_of v t) stored now.1 owns all changes;
            },
            later.misses.within,
          );
    } in
    store_advances disk storing
