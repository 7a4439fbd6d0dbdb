use Rattle.std.proofs.Common.{◌+◌, sym, subst, arith}
use Rattle.std.specs.Prelude.{slice_index}
use Rattle.melt_copy.specs.declared.forwarding.Forwarding.{Forwarding}
use Rattle.melt_copy.proofs.Held.{tracks_register, HoldsSoFar, holds_found, holds_empty}
use Rattle.melt_copy.proofs.live.find_held.Goals as goal
use Rattle.melt_copy.proofs.live.find_held.Goals.{then-address-ne0+in_ok-find, else-address-ne0}

pub returns-in_err-find-clause-tracks : goal.returns-in_err-find-clause-tracks
returns-in_err-find-clause-tracks g c =
    λ s held. c.find.ensures.tracks s
    (tracks_register c.args.space.now s c.args.forwarding.now c.loop-address.forwarding
    (slice_index c.args.registers.now.regs) c.loop-address.address-index held
    (c.loop-address.invariant.tracks s held) c.if-address-ne0.true)

pub loop-address-preserved : goal.loop-address-preserved
loop-address-preserved g c =
    let register = slice_index c.args.registers.now.regs in
    let n = c.loop-address.address-index in
    let before : HoldsSoFar c.args.space.now c.args.forwarding.now c.loop-address.forwarding register n =
    record {
      all = c.loop-address.invariant.all;
      each = c.loop-address.invariant.each;
      grows = c.loop-address.invariant.grows;
      tracks = c.loop-address.invariant.tracks;
    } in
    elim c.if-address-ne0.branch [
      | then-address-ne0+in_ok-find w ↦
          let after : HoldsSoFar c.args.space.now c.args.forwarding.now c.if-address-ne0.forwarding register (n + 1) =
          subst (λ (p : Forwarding). HoldsSoFar c.args.space.now c.args.forwarding.now p register (n + 1))
          (sym w.forwarding-is)
          (holds_found before w.if-address-ne0.true w.in_ok-find.ensures.found.1 w.in_ok-find.ensures.found.0
          w.find.ensures.grows w.find.ensures.only w.find.ensures.tracks) in
          record {
            all = after.all;
            each = after.each;
            grows = after.grows;
            tracks = after.tracks;
            visits = omega (arith, c.loop-address.invariant.visits, c.tick.ensures);
          }
      | else-address-ne0 w ↦
          let after : HoldsSoFar c.args.space.now c.args.forwarding.now c.if-address-ne0.forwarding register (n + 1) =
          subst (λ (p : Forwarding). HoldsSoFar c.args.space.now c.args.forwarding.now p register (n + 1))
          (sym w.forwarding-is)
          (holds_empty c.args.space.now c.args.forwarding.now c.loop-address.forwarding register n before
          w.if-address-ne0.false) in
          record {
            all = after.all;
            each = after.each;
            grows = after.grows;
            tracks = after.tracks;
            visits = omega (arith, c.loop-address.invariant.visits, c.tick.ensures);
          }
    ]
