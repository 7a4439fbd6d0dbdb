use Rattle.std.proofs.Common.{◌≡◌, ℕ, ◌+◌, List, [], ◌∷◌, ◌++◌, sym, ap, ◌∙◌, subst, arith, inl, inr}
use Rattle.std.specs.Prelude.{Option, slice_get}
use Rattle.melt_model.proofs.Histories.{last_place}
use Rattle.melt_word.specs.Words.{cost_of}
use Rattle.melt_space.specs.Space.{AreWords, SetsWord}
use Rattle.melt_copy.specs.declared.forwarding.Relocation.{Relocation}
use Rattle.melt_copy.specs.declared.names.Renaming.{Renaming}
use Rattle.melt_copy.specs.Evacuating.{CarriesName, HasPlace, place_of}
use Rattle.melt_copy.proofs.Evacuated.{next_move, object, used_below, words_fit, fits_then, place_free, place_then, evacuates_then}
use Rattle.melt_copy.proofs.Forwarded.{forwarding_word, not_found, found_there}
use Rattle.melt_copy.proofs.to_space.ToSpace.evacuate.Given.{Over}
use Rattle.melt_copy.proofs.to_space.ToSpace.evacuate.Goals as goal
use Rattle.melt_copy.proofs.to_space.ToSpace.evacuate.Goals.{In_default, After-set_word}

-- the object is a new one
new_here : (g : Over) (c : In_default g) → place_of c.args.self.now.moves c.args.address ≡ 0
new_here g c =
    not_found c.requires.2 c.word.ensures c.forwarded_to.ensures.stays c.forwarded_to.ensures.moves c.in_default.is

pub overflow_cast-to : goal.overflow_cast-to
overflow_cast-to g c =
    let it = c.requires.2.evacuates in
    omega (arith, words_fit c.args.self.now it, (used_below it).0)

pub overflow_add-to : goal.overflow_add-to
overflow_add-to g c =
    let it = c.requires.2.evacuates in
    omega (arith, words_fit c.args.self.now it, (used_below it).0)

pub shape-shape-requires-clause-header : goal.shape-shape-requires-clause-header
shape-shape-requires-clause-header g c =
    let at = c.requires.2 in
    let new = new_here g (goal.at.shape-shape-requires-clause-header g c).In_default in
    let there = object at new in
    record {
      header = there.0;
      in_range = there.1.starts.in_range;
      word = at.evacuates.kept c.args.address new ∙ there.1.starts.word;
    }

pub words_at-requires-clause-last : goal.words_at-requires-clause-last
words_at-requires-clause-last g c =
    let at = c.requires.2 in
    let new = new_here g (goal.at.words_at-requires-clause-last g c).In_default in
    let there = object at new in
    let shape = c.shape-shape.ensures there.0 there.1.starts.in_range
    (at.evacuates.kept c.args.address new ∙ there.1.starts.word) in
    let below = there.1.below in
    omega (arith, below, at.evacuates.free, (used_below at.evacuates).1, c.cost.ensures, ap cost_of shape)

pub put-requires : goal.put-requires
put-requires g c =
    let at = c.requires.2 in
    omega (
      arith,
      fits_then at (new_here g (goal.at.put-requires g c).In_default) c.shape-shape.ensures,
      at.evacuates.room,
      c.words_at.ensures.count_is,
      c.cost.ensures,
    )

pub carry_name-requires : goal.carry_name-requires
carry_name-requires g c =
    subst (λ (names : Option Renaming). HasPlace names (c.args.self.now.next + 1)) (sym c.put.ensures.names)
    (place_free c.requires.2 (new_here g (goal.at.carry_name-requires g c).In_default) c.shape-shape.ensures)

pub encode_ref-requires : goal.encode_ref-requires
encode_ref-requires g c =
    let at = c.requires.2 in
    record {
      not_null = omega arith;
      small = omega (
        arith,
        fits_then at (new_here g (goal.at.encode_ref-requires g c).In_default) c.shape-shape.ensures,
        (used_below at.evacuates).0,
      );
    }

-- the moves, with that of the object after them
moves_then : (g : Over) (c : After-set_word g)
    → c.pick.result ≡ c.args.self.now.moves ++ next_move c.args.self.now c.args.address c.shape-shape.result ∷ []
moves_then g c =
    c.pick.ensures
    ∙ ap (λ (ms : List Relocation). ms ++ next_move c.args.self.now c.args.address c.shape-shape.result ∷ [])
    c.put.ensures.moves

pub returns-clause-place : goal.returns-clause-place
returns-clause-place g c =
    let then_ = goal.at.returns-clause-place g c in
    ap (λ (ms : List Relocation). place_of ms c.args.address) (moves_then g then_.After-set_word)
    ∙ place_then c.requires.2 (new_here g then_.In_default) c.shape-shape.ensures

pub returns-clause-found : goal.returns-clause-found
returns-clause-found g c =
    let at = c.requires.2 in
    record {
      not_null = omega arith;
      small = omega (
        arith,
        fits_then at (new_here g (goal.at.returns-clause-found g c).In_default) c.shape-shape.ensures,
        (used_below at.evacuates).0,
      );
    }

pub returns-clause-only : goal.returns-clause-only
returns-clause-only g c = λ k m there.
    elim (last_place c.args.self.now.moves (next_move c.args.self.now c.args.address c.shape-shape.result) k m
    (ap (λ (ms : List Relocation). slice_get ms k)
    (sym (moves_then g (goal.at.returns-clause-only g c).After-set_word)) ∙ there)) [
      | inl old ↦ inl old.1
      | inr last ↦ inr (sym (ap (λ (x : Relocation). x.from) last.1))
    ]

pub returns-clause-evacuates : goal.returns-clause-evacuates
returns-clause-evacuates g c = λ d done at.
    let then_ = goal.at.returns-clause-evacuates g c in
    let now = c.args.self.now in
    let put = c.put.new.self in
    let new = new_here g then_.In_default in
    evacuates_then at new c.shape-shape.ensures
    (record { words = put.words; next = put.next; moves = c.pick.result; names = c.carry_name.new.names })
    (subst (λ (n : ℕ). AreWords c.args.space.now c.args.address n c.words_at.result.now) c.cost.ensures c.words_at.ensures)
    c.put.ensures.words c.put.ensures.next (moves_then g then_.After-set_word)
    (subst (λ (names : Option Renaming). CarriesName names c.carry_name.new.names c.args.address (now.next + 1))
    c.put.ensures.names c.carry_name.ensures)
    (subst (SetsWord c.args.space.now c.set_word.new.self c.args.address) c.encode_ref.ensures c.set_word.ensures)

pub forwarded_to-requires : goal.forwarded_to-requires
forwarded_to-requires g c = forwarding_word c.requires.2 c.word.ensures

pub returns-in-Some-clause-place : goal.returns-in-Some-clause-place
returns-in-Some-clause-place g c =
    (found_there c.requires.2 c.word.ensures c.forwarded_to.ensures.stays c.forwarded_to.ensures.moves c.in-Some.is).0

pub returns-in-Some-clause-found : goal.returns-in-Some-clause-found
returns-in-Some-clause-found g c =
    (found_there c.requires.2 c.word.ensures c.forwarded_to.ensures.stays c.forwarded_to.ensures.moves c.in-Some.is).1
