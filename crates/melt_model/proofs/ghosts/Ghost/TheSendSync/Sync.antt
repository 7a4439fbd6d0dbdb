-- A ghost owns nothing, so any thread may share it.
use denote.RattleType.{RattleType}
use denote.Param.Send.{IsSync, whole-keyless}
use Rattle.melt_model.specs.contracts.ghosts.Ghost.{the_row}

pub sync : (T : RattleType) → IsSync (the_row T)
sync T = record {
  shared = λ d b o κ x. (
    (λ q. whole-keyless _ _ (λ y vs. ((λ vss. (tt, ((λ uss. (tt, tt)), tt))), tt)) q x.0 b o),
    tt,
  );
}
