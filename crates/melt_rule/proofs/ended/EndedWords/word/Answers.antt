use Rattle.std.proofs.Common.{ℕ, List, sym, ◌∙◌, ap}
use Rattle.std.specs.Prelude.{slice_index}
use Rattle.std.specs.Slots.{slots_items}
use Rattle.melt_rule.proofs.Pieces.{read_at}
use Rattle.melt_rule.proofs.ended.EndedWords.word.Goals as goal

pub returns : goal.returns
returns c =
    sym (read_at (slots_items c.self.inside.closed.words) c.args.i c.word.result c.word.ensures)
    ∙ ap (λ (l : List ℕ). slice_index l c.args.i) c.self.view_is
