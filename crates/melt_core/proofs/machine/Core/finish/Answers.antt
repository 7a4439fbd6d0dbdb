use Rattle.std.proofs.Common.{◌≡◌, ◌+◌, refl, ap, subst, sym, arith}
use Rattle.std.specs.Prelude.{Some, false, length}
use Rattle.melt_space.specs.Space.{SpaceWords}
use Rattle.melt_scion.specs.GhostMaps.{NamePairs, named}
use Rattle.melt_core.specs.Epochs.{HasFinished, core_of}
use Rattle.melt_core.specs.Views.{Standing, view}
use Rattle.melt_core.proofs.Naming.{left_view}
use Rattle.melt_core.proofs.Nameless.{within_words}
use Rattle.melt_core.proofs.Resting.{stands_finish}
use Rattle.melt_core.proofs.machine.Core.finish.Goals as goal
use Rattle.melt_core.proofs.machine.Core.finish.Goals.{After-drop-heap}

-- the names are the same by pairs of the words alone
left : (c : After-drop-heap)
    → view (core_of (record c.args.self.heap { space = c.set_used.new.self; maps = c.pick.result }) c.args.self.rest)
    ≡ record (view c.args.self) {
      space = c.set_used.new.self;
      free = c.set_used.new.self.used + 1;
      stop = false;
    }
left c = left_view c.args.self c.set_used.new.self c.pick.result (ap (λ (x : SpaceWords). x.list) c.set_used.ensures)
    c.pick.ensures

pub returns-clause-within : goal.returns-clause-within
returns-clause-within c = λ address n is. within_words (length c.set_used.new.self.list) c.args.self.heap.maps address n
    (subst (λ (p : NamePairs). named p.addresses address ≡ Some n) c.pick.ensures is)

pub returns-clause-finished : goal.returns-clause-finished
returns-clause-finished c =
    subst (HasFinished (view c.args.self)) (sym (left c)) (record {
      words = ap (λ (x : SpaceWords). x.list) c.set_used.ensures;
      used = omega (
        arith,
        ap (λ (x : SpaceWords). x.used) c.set_used.ensures,
        c.min-used.ensures,
        c.saturating_sub.ensures,
        c.words.ensures.value,
      );
      scions = refl;
      globals = refl;
      forward = refl;
      names = refl;
      held = refl;
      calls = refl;
      records = refl;
      log = refl;
      capacity = refl;
      made = refl;
    })

pub returns-clause-rests : goal.returns-clause-rests
returns-clause-rests c = λ told disk stands. record {
  stands = subst (Standing told disk) (sym (left c))
      (stands_finish disk told (view c.args.self) c.set_used.new.self stands c.requires.quiet
      (ap (λ (x : SpaceWords). x.list) c.set_used.ensures)
      (omega (
        arith,
        ap (λ (x : SpaceWords). x.used) c.set_used.ensures,
        c.min-used.ensures,
        c.saturating_sub.ensures,
        c.words.ensures.value,
      )));
  quiet = c.requires.quiet;
}
