use Rattle.std.proofs.Common.{sym, subst}
use Rattle.melt_word.specs.Words.{ref_word}
use Rattle.melt_word.specs.declared.reference.Ref.TheVariants.{Clean}
use Rattle.melt_core.specs.Changed.{HasRead, IsNamedOrNone, OnlyWords}
use Rattle.melt_core.specs.Known.{IsPlace}
use Rattle.melt_core.specs.Views.{View, maps, state, view}
use Rattle.melt_core.proofs.Asked.{asks_over}
use Rattle.melt_core.proofs.Words.{only_place}
use Rattle.melt_core.proofs.Loading.{IsCleared, cleared_known, cleared_loads, finds_null, finds_clean}
use Rattle.melt_core.proofs.Loading.{untag_lost, untag_won, untag_place}
use Rattle.melt_core.proofs.Noting.{held_named, named_some}
use Rattle.melt_core.proofs.Objects.{either_tagged, tagged_is}
use Rattle.melt_core.proofs.machine.Core.untag.Goals as goal

pub read-requires-in-Stale-clause-place : goal.read-requires-in-Stale-clause-place
read-requires-in-Stale-clause-place c =
    let disk = c.requires.asks.disk in
    let v : View = view c.args.self.now in
    let m : View = view c.set_word_in.new.self in
    let only : OnlyWords v m = c.set_word_in.ensures.only in
    let changes = only_place disk v m c.args.looked.place (ref_word (Clean c.args.looked.target)) c.encode_ref.result
    only
    c.encode_ref.ensures (c.set_word_in.ensures.changes disk) in
    let is : IsCleared disk v c.args.thread c.args.op c.args.looked.place c.args.looked.found c.args.looked.target
    c.args.looked.dst =
    record { asks = c.requires.asks.asks; at = c.requires.stage } in (
      disk,
      subst (λ (x : View). IsPlace (maps x) (state disk x) c.args.looked.place) (sym only)
          (untag_place disk m.space m.globals is
          (either_tagged _ c.reference_in.result (c.reference_in.ensures disk) c.in-Stale.is) changes),
    )

pub read-requires-in-Clean-clause-named : goal.read-requires-in-Clean-clause-named
read-requires-in-Clean-clause-named c =
    let disk = c.requires.asks.disk in
    let v : View = view c.args.self.now in
    let is : IsCleared disk v c.args.thread c.args.op c.args.looked.place c.args.looked.found c.args.looked.target
    c.args.looked.dst =
    record { asks = c.requires.asks.asks; at = c.requires.stage } in
    held_named (maps v) (state disk v) c.in-Clean.current
    (finds_clean c.args.thread c.args.op c.args.looked.place c.args.looked.dst c.requires.asks.asks.stands
    (cleared_loads disk is) (cleared_known disk is).0.at (c.in-Clean.ensures disk)).may_hold

pub read-requires-in-Stale-clause-named : goal.read-requires-in-Stale-clause-named
read-requires-in-Stale-clause-named c =
    let disk = c.requires.asks.disk in
    let v : View = view c.args.self.now in
    let is : IsCleared disk v c.args.thread c.args.op c.args.looked.place c.args.looked.found c.args.looked.target
    c.args.looked.dst =
    record { asks = c.requires.asks.asks; at = c.requires.stage } in
    subst (λ (x : View). IsNamedOrNone x c.args.looked.target) (sym c.set_word_in.ensures.only)
    (λ some. named_some ((maps v).address c.args.looked.target) (cleared_known disk is).1.named)

pub returns-in-Null : goal.returns-in-Null
returns-in-Null c = record {
  over = λ disk stands.
      let asks = asks_over (view c.args.self.now) c.args.thread c.args.op c.requires.asks disk stands in
      let v : View = view c.args.self.now in
      let is : IsCleared disk v c.args.thread c.args.op c.args.looked.place c.args.looked.found c.args.looked.target
      c.args.looked.dst =
      record { asks = asks; at = c.requires.stage } in
      untag_lost disk is
      (finds_null disk v c.args.thread c.args.op c.args.looked.place c.args.looked.dst stands
      (cleared_loads disk is) (cleared_known disk is).0.at (c.in-Null.ensures disk))
      (tagged_is _ _ (c.in-Null.ensures disk)) c.read.ensures;
}

pub returns-in-Clean : goal.returns-in-Clean
returns-in-Clean c = record {
  over = λ disk stands.
      let asks = asks_over (view c.args.self.now) c.args.thread c.args.op c.requires.asks disk stands in
      let v : View = view c.args.self.now in
      let is : IsCleared disk v c.args.thread c.args.op c.args.looked.place c.args.looked.found c.args.looked.target
      c.args.looked.dst =
      record { asks = asks; at = c.requires.stage } in
      untag_lost disk is
      (finds_clean c.args.thread c.args.op c.args.looked.place c.args.looked.dst stands (cleared_loads disk is)
      (cleared_known disk is).0.at (c.in-Clean.ensures disk))
      (tagged_is _ _ (c.in-Clean.ensures disk)) c.read-in-Clean.ensures;
}

pub returns-in-Stale : goal.returns-in-Stale
returns-in-Stale c = record {
  over = λ disk stands.
      let asks = asks_over (view c.args.self.now) c.args.thread c.args.op c.requires.asks disk stands in
      let v : View = view c.args.self.now in
      let m : View = view c.set_word_in.new.self in
      let w : View = view c.read-in-Stale.new.self in
      let only : OnlyWords v m = c.set_word_in.ensures.only in
      let changes = only_place disk v m c.args.looked.place (ref_word (Clean c.args.looked.target)) c.encode_ref.result
      only
      c.encode_ref.ensures (c.set_word_in.ensures.changes disk) in
      let is : IsCleared disk v c.args.thread c.args.op c.args.looked.place c.args.looked.found c.args.looked.target
      c.args.looked.dst =
      record { asks = asks; at = c.requires.stage } in
      untag_won disk m.space m.globals is
      (either_tagged _ c.reference_in.result (c.reference_in.ensures disk) c.in-Stale.is) changes
      (subst (λ (x : View). HasRead x w c.args.thread c.args.looked.place c.args.looked.dst c.args.looked.target
      c.read-in-Stale.result) only c.read-in-Stale.ensures);
}
