use Rattle.std.proofs.Common.{◌≡◌, ◌+◌, sym, ◌∙◌, subst, arith}
use Rattle.melt_scion.specs.Scions.{scion_at}
use Rattle.melt_copy.specs.declared.forwarding.Forwarding.{Forwarding}
use Rattle.std.specs.Prelude.{Some, slice_index}
use Rattle.melt_copy.proofs.Walking.{IsFoundSoFar, found_scion, no_scion_found, finds_all, tracks_scion}
use Rattle.melt_copy.proofs.scions.find_scions.Goals as goal
use Rattle.melt_copy.proofs.scions.find_scions.Goals.{in-Some+in_ok-find, in_default}

pub find-requires : goal.find-requires
find-requires g c =
    let s = c.requires.tracks.0 in (
      s,
      tracks_scion _ c.requires.tracks.1 (c.loop-scion.invariant.tracks s c.requires.tracks.1)
          (sym c.get.ensures.pair ∙ c.in-Some.is),
    )

pub returns-in_err-find-clause-tracks : goal.returns-in_err-find-clause-tracks
returns-in_err-find-clause-tracks g c = λ s tracks.
    c.find.ensures.tracks s (tracks_scion _ tracks (c.loop-scion.invariant.tracks s tracks)
    (sym c.get.ensures.pair ∙ c.in-Some.is))

pub loop-scion-preserved : goal.loop-scion-preserved
loop-scion-preserved g c =
    let table = c.args.scions.now in
    let live = c.args.live.now in
    let n = c.loop-scion.scion-index in
    elim c.match-get.branch [
      | in-Some+in_ok-find w ↦
          let at : scion_at table (slice_index live n) ≡ Some (w.in-Some.field-0-0, w.in-Some.address) =
          sym c.get.ensures.pair ∙ w.in-Some.is in
          let after : IsFoundSoFar c.args.space.now c.args.forwarding.now w.find.new.self table live (n + 1) =
          found_scion (record {
            finds = c.loop-scion.invariant.finds;
            grows = c.loop-scion.invariant.grows;
            tracks = c.loop-scion.invariant.tracks;
          }) at w.in_ok-find.ensures.found.1 w.in_ok-find.ensures.found.0 w.find.ensures.grows w.find.ensures.tracks in
          let there =
          subst (λ (p : Forwarding). IsFoundSoFar c.args.space.now c.args.forwarding.now p table live (n + 1))
          (sym w.forwarding-is) after in
          record {
            finds = there.finds;
            grows = there.grows;
            tracks = there.tracks;
            visits = omega (arith, c.loop-scion.invariant.visits, c.tick.ensures);
          }
      | in_default w ↦
          let after : IsFoundSoFar c.args.space.now c.args.forwarding.now c.loop-scion.forwarding table live (n + 1) =
          no_scion_found c.args.space.now c.args.forwarding.now c.loop-scion.forwarding table live n
          (record {
            finds = c.loop-scion.invariant.finds;
            grows = c.loop-scion.invariant.grows;
            tracks = c.loop-scion.invariant.tracks;
          })
          (sym c.get.ensures.pair ∙ w.in_default.is) in
          let there =
          subst (λ (p : Forwarding). IsFoundSoFar c.args.space.now c.args.forwarding.now p table live (n + 1))
          (sym w.forwarding-is) after in
          record {
            finds = there.finds;
            grows = there.grows;
            tracks = there.tracks;
            visits = omega (arith, c.loop-scion.invariant.visits, c.tick.ensures);
          }
    ]

pub returns-clause-finds : goal.returns-clause-finds
returns-clause-finds g c =
    finds_all c.loop-scion.forwarding c.args.scions.now c.args.live.now c.loop-scion.scion-index c.requires.table
    c.requires.live (omega arith) c.loop-scion.invariant.finds
