use Rattle.std.proofs.Common.{arith}
use Rattle.std.proofs.lemmas.List.{get_or_default}
use Rattle.melt_copy.proofs.Growth.{Grows-more}
use Rattle.melt_copy.proofs.Held.{tracks_thread, threads_more, each_thread_more}
use Rattle.melt_copy.proofs.live.find_all_held.Goals as goal

pub find_held-requires : goal.find_held-requires
find_held-requires g c =
    let s = c.requires.0 in (
      s,
      tracks_thread c.loop-registers.registers-index (omega arith)
          (get_or_default c.args.held.now c.loop-registers.registers-index _ _ (omega arith)) c.requires.1
          (c.loop-registers.invariant.tracks s c.requires.1),
    )

pub returns-in_err-find_held-clause-tracks : goal.returns-in_err-find_held-clause-tracks
returns-in_err-find_held-clause-tracks g c =
    λ s threads. c.find_held.ensures.tracks s
    (tracks_thread c.loop-registers.registers-index (omega arith)
    (get_or_default c.args.held.now c.loop-registers.registers-index _ _ (omega arith)) threads
    (c.loop-registers.invariant.tracks s threads))

pub loop-registers-preserved : goal.loop-registers-preserved
loop-registers-preserved g c = record {
  all =
      threads_more c.args.held.now c.loop-registers.registers-index (omega arith)
      (get_or_default c.args.held.now c.loop-registers.registers-index _ _ (omega arith)) c.find_held.ensures.grows
      c.in_ok-find_held.ensures.finds c.loop-registers.invariant.all;
  each = each_thread_more c.args.forwarding.now c.args.held.now c.loop-registers.registers-index (omega arith)
      (get_or_default c.args.held.now c.loop-registers.registers-index _ _ (omega arith))
      c.in_ok-find_held.ensures.finds c.loop-registers.invariant.each;
  grows =
      Grows-more c.args.forwarding.now c.loop-registers.forwarding c.find_held.new.forwarding
      c.loop-registers.invariant.grows c.find_held.ensures.grows;
  tracks = λ s threads. c.find_held.ensures.tracks s
      (tracks_thread c.loop-registers.registers-index (omega arith)
      (get_or_default c.args.held.now c.loop-registers.registers-index _ _ (omega arith)) threads
      (c.loop-registers.invariant.tracks s threads));
  visits = omega (arith, c.loop-registers.invariant.visits, c.tick.ensures, c.find_held.ensures.visits);
}
