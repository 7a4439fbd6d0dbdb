use Rattle.std.proofs.Common.{List, ℕ, sym, subst, ap, ◌∙◌, length, arith}
use Rattle.std.specs.Prelude.{Some}
use Rattle.std.proofs.lemmas.List.{length_push}
use Rattle.melt_copy.proofs.Walking.{IsWalked, walk_live, walk_more}
use Rattle.melt_copy.proofs.scions.live_scions.Goals as goal

pub next-next-requires : goal.next-next-requires
next-next-requires g c =
    let walked : IsWalked c.args.scions.now.live c.loop-next.live.items (Some c.in-Some.scion) =
    subst (IsWalked c.args.scions.now.live c.loop-next.live.items) c.in-Some.is c.loop-next.invariant.walked in
    (c.loop-next.invariant.table.live c.in-Some.scion).0
    (walk_live c.args.scions.now.live c.loop-next.live.items c.in-Some.scion walked)

pub loop-next-preserved : goal.loop-next-preserved
loop-next-preserved g c =
    let live = c.args.scions.now.live in
    let walked : IsWalked live c.loop-next.live.items (Some c.in-Some.scion) =
    subst (IsWalked live c.loop-next.live.items) c.in-Some.is c.loop-next.invariant.walked in
    record {
      table = c.loop-next.invariant.table;
      walked =
          subst (λ (xs : List ℕ). IsWalked live xs c.next-next.result) (sym c.in_ok-push.ensures.items)
          (walk_more live c.loop-next.live.items c.in-Some.scion walked c.next-next.result
          c.loop-next.invariant.table.live_once c.next-next.ensures.next);
      visits = let longer = ap length c.in_ok-push.ensures.items ∙ length_push c.loop-next.live.items c.in-Some.scion in
          omega (arith, longer, c.loop-next.invariant.visits, c.tick.ensures);
    }
