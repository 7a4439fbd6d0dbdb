-- A ghost owns nothing, so it may go to any thread.
use denote.RattleType.{RattleType}
use denote.Param.Send.{IsSend}
use Rattle.melt_model.specs.contracts.ghosts.Ghost.{the_row}

pub send : (T : RattleType) → IsSend (the_row T)
send T = record { owned = λ d vs x. (((λ vss. (tt, ((λ uss. (tt, tt)), tt))), tt), tt); leaving = λ k f vs. tt }
