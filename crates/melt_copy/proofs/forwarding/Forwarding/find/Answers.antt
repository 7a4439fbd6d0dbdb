use Rattle.std.proofs.Common.{◌≡◌, ◌+◌, ◌/◌, ◌∙◌, ap, refl, sym, arith}
use Rattle.std.specs.Prelude.{slice_set}
use Rattle.melt_copy.specs.Tracking.{goes}
use Rattle.melt_copy.proofs.Finding.{is_known, next_after_fits, used_small, known_small, not_known, next_there}
use Rattle.melt_copy.proofs.Finding.{find_only, tracks_found, found_here, grows_found}
use Rattle.melt_copy.proofs.forwarding.Forwarding.find.Goals as goal

pub returns-then-known-ne0-clause-found : goal.returns-then-known-ne0-clause-found
returns-then-known-ne0-clause-found c = (
  sym (is_known c.args.space.now c.requires.0 c.args.self.now c.args.address c.index.result.now _ c.requires.1
      c.index.ensures refl c.if-known-ne0.true),
  c.if-known-ne0.true,
)

pub returns-then-known-ne0-clause-small : goal.returns-then-known-ne0-clause-small
returns-then-known-ne0-clause-small c =
    let at = c.requires.1 in
    let space = c.args.space.now in
    let forwarding = c.args.self.now in
    let known : c.index.result.now / 2 ≡ goes forwarding c.args.address =
    is_known space c.requires.0 forwarding c.args.address c.index.result.now _ at c.index.ensures refl
    c.if-known-ne0.true in
    let small = known_small space c.requires.0 forwarding c.args.address at.tracks
    (λ (nought : goes forwarding c.args.address ≡ 0). c.if-known-ne0.true (known ∙ nought)) in
    omega (arith, known, small)

pub entry-requires : goal.entry-requires
entry-requires c =
    let at = c.requires.1 in
    let space = c.args.space.now in
    let fits = next_after_fits space c.requires.0 c.args.self.now c.args.address c.shape-shape.result at
    (not_known space c.requires.0 c.args.self.now c.args.address c.index.result.now _ at c.index.ensures refl
    c.if-known-ne0.false) c.shape-shape.ensures in
    let small = used_small space c.requires.0 c.args.self.now at.tracks in
    omega (arith, fits, small)

pub returns-clause-found : goal.returns-clause-found
returns-clause-found c = (
  found_here c.args.space.now c.requires.0 c.args.self.now c.args.address c.requires.1
      (ap (slice_set c.args.self.now.entries.items (c.args.address / 2)) c.entry.ensures),
  next_there c.args.space.now c.requires.0 c.args.self.now c.requires.1.tracks,
)

pub returns-clause-small : goal.returns-clause-small
returns-clause-small c =
    let at = c.requires.1 in
    let space = c.args.space.now in
    let fits = next_after_fits space c.requires.0 c.args.self.now c.args.address c.shape-shape.result at
    (not_known space c.requires.0 c.args.self.now c.args.address c.index.result.now _ at c.index.ensures refl
    c.if-known-ne0.false) c.shape-shape.ensures in
    let small = used_small space c.requires.0 c.args.self.now at.tracks in
    omega (arith, fits, small)

pub overflow_add-self : goal.overflow_add-self
overflow_add-self c =
    let at = c.requires.1 in
    let space = c.args.space.now in
    let fits = next_after_fits space c.requires.0 c.args.self.now c.args.address c.shape-shape.result at
    (not_known space c.requires.0 c.args.self.now c.args.address c.index.result.now _ at c.index.ensures refl
    c.if-known-ne0.false) c.shape-shape.ensures in
    let small = used_small space c.requires.0 c.args.self.now at.tracks in
    omega (arith, fits, small, c.cost.ensures)

pub returns-clause-grows : goal.returns-clause-grows
returns-clause-grows c =
    grows_found c.args.space.now c.requires.0 c.args.self.now _ c.args.address _ c.requires.1
    (not_known c.args.space.now c.requires.0 c.args.self.now c.args.address c.index.result.now _ c.requires.1
    c.index.ensures refl c.if-known-ne0.false)
    (ap (slice_set c.args.self.now.entries.items (c.args.address / 2)) c.entry.ensures) c.in_ok-push.ensures.items

pub returns-clause-only : goal.returns-clause-only
returns-clause-only c = find_only c.args.self.now.moves.items c.args.address _ _ c.in_ok-push.ensures.items

pub returns-clause-tracks : goal.returns-clause-tracks
returns-clause-tracks c = λ s at.
    tracks_found c.args.space.now s c.args.self.now _ c.args.address c.shape-shape.result at
    (not_known c.args.space.now s c.args.self.now c.args.address c.index.result.now _ at c.index.ensures refl
    c.if-known-ne0.false) c.shape-shape.ensures
    (ap (slice_set c.args.self.now.entries.items (c.args.address / 2)) c.entry.ensures) c.in_ok-push.ensures.items
    (ap (λ n. c.args.self.now.next + n) c.cost.ensures)
