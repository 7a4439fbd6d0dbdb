-- In a state that is well formed, what can be reached is whole.
use Rattle.std.proofs.Common.{◌+◌, ◌≤◌}
use Rattle.melt_scion.specs.State.{State}
use Rattle.melt_scion.specs.Placed.{Maps, Formed}
use Rattle.melt_scion.proofs.Reaching.{reached_named}
use Rattle.melt_copy.specs.Moving.{IsWhole}

-- what is well formed is whole
pub formed_whole : (maps : Maps) (s : State) → s.free ≤ s.base.size + 1 → Formed maps s → IsWhole s
formed_whole maps s inside formed = record {
  small = formed.words.small;
  inside = inside;
  objects = λ address reached. let n = reached_named maps s address formed reached in
      formed.words.objects address n.0 n.1;
  apart = λ a b header first second starts before.
      let n = reached_named maps s a formed first in
      let m = reached_named maps s b formed second in
      formed.words.apart a b n.0 m.0 header n.1 m.1 starts before;
  slots = λ address i header reached starts below.
      let n = reached_named maps s address formed reached in
      let is = formed.words.slots address n.0 i header n.1 starts below in
      record { reference = is.reference; in_range = is.in_range; is = is.is };
  globals = λ g below. let is = formed.words.globals g below in
      record { reference = is.reference; in_range = is.in_range; is = is.is };
}
