use Rattle.std.proofs.Common.{rules}
use Rattle.melt_copy.proofs.Finding.{tracks_at}
use Rattle.melt_copy.proofs.forwarding.Forwarding.find_word.Goals as goal

pub returns-in_err-find-clause-tracks : goal.returns-in_err-find-clause-tracks
returns-in_err-find-clause-tracks c = λ s for.
    c.find.ensures.tracks s
    (tracks_at c.args.space.now s c.args.self.now c.args.word _ c.reference_of.result
    (c.reference_of.ensures.in_range, c.reference_of.ensures.is) (search rules) for)

pub returns-in_ok-find-clause-tracks : goal.returns-in_ok-find-clause-tracks
returns-in_ok-find-clause-tracks c = λ s for.
    c.find.ensures.tracks s
    (tracks_at c.args.space.now s c.args.self.now c.args.word _ c.reference_of.result
    (c.reference_of.ensures.in_range, c.reference_of.ensures.is) (search rules) for)
