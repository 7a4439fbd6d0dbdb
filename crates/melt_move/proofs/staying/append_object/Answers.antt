use Rattle.std.proofs.Common.{[], ◌∷◌, ◌++◌, ◌+◌, refl, ap, ◌∙◌, subst, append_assoc}
use Rattle.std.specs.Prelude.{slice_index}
use Rattle.std.proofs.lemmas.List.{take_rest}
use Rattle.melt_space.specs.Space.{AreWords}
use Rattle.melt_move.proofs.KeptObjects.{object_sources, object_stays}
use Rattle.melt_move.proofs.staying.append_object.Goals as goal

pub append_words-requires-clause-sources : goal.append_words-requires-clause-sources
append_words-requires-clause-sources g c = (
  c.requires.stays.0,
  object_sources c.args.space.now c.requires.stays.0 c.args.decision.now c.args.m c.words_at-object.result.now
      (subst (λ n. AreWords c.args.space.now c.args.m.from n c.words_at-object.result.now) c.cost.ensures
      c.words_at-object.ensures) c.requires.stays.1,
)

pub returns-clause-object : goal.returns-clause-object
returns-clause-object g c = λ s of to.
    object_stays c.args.held c.args.out.now.items _
    (subst (λ n. AreWords c.args.space.now c.args.m.from n c.words_at-object.result.now) c.cost.ensures
    c.words_at-object.ensures) of to refl c.move_header-header.ensures refl
    (c.push_reserved-2.ensures.items
    ∙ (ap (λ l. l ++ slice_index c.words_at-object.result.now 1 ∷ []) c.push_reserved.ensures.items
    ∙ append_assoc c.args.out.now.items (c.move_header-header.result ∷ [])
    (slice_index c.words_at-object.result.now 1 ∷ [])))
    c.append_words.ensures.extends
    (c.append_words.ensures.stay s (object_sources c.args.space.now s c.args.decision.now c.args.m
    c.words_at-object.result.now
    (subst (λ n. AreWords c.args.space.now c.args.m.from n c.words_at-object.result.now) c.cost.ensures
    c.words_at-object.ensures) of)) (c.push_words.ensures.items
    ∙ ap (λ l. c.append_words.new.out.items ++ l) (take_rest c.words_at-object.result.now (2 + c.args.m.shape.refs)))
