use Rattle.std.proofs.Common.{◌≡◌, length, ap, sym, ◌∙◌, subst}
use Rattle.std.specs.Slots.{slots_items}
use Rattle.melt_rule.proofs.Ending.{closes}
use Rattle.melt_rule.proofs.Tying.{not_reading}
use Rattle.melt_rule.specs.Ending.{HasEnded}
use Rattle.melt_rule.specs.Seats.{EpochWords, knows_of}
use Rattle.melt_rule.specs.declared.began.Start.{Start}
use Rattle.melt_rule.proofs.words.Words.close.Goals as goal

pub returns : goal.returns
returns c =
    let closed = c.close_with-closed.result in
    let seat = c.args.seat in
    let same : c.self.inside.table.shared.key ≡ c.args.self.start = ap (λ (w : EpochWords). w.start) c.self.view_is in
    let all : (knows_of seat).parts ≡ length c.self.inside.table.shared.key.began.threads =
    c.requires.all ∙ ap (λ (s : Start). length s.began.threads) (sym same) in
    record {
      ended = subst (λ (s : Start). HasEnded s (slots_items closed.words) (knows_of seat)) same
          (closes c.self.inside.table.shared.key seat.id (knows_of seat) (slots_items closed.words)
          (slots_items closed.slots)
          c.close_with-closed.ensures.values.2
          c.requires.seat.live
          (not_reading (knows_of seat).doing c.requires.goes_on)
          all);
    }
