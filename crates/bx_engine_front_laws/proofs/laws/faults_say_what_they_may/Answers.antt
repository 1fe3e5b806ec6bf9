use Rattle.dscript_eval_laws.proofs.SaidPrograms.{user_says}
use Rattle.bx_engine_front_laws.proofs.Placed.{malformed_placed}
use Rattle.bx_engine_front_laws.proofs.laws.faults_say_what_they_may.Goals as goal

pub returns-clause-message : goal.returns-clause-message
returns-clause-message c =
    λ limits tree kind file message has. user_says has.0 tree limits.eval_budget kind file message has.3

pub returns-clause-place : goal.returns-clause-place
returns-clause-place c = λ limits tree fault place has is. malformed_placed tree fault has place is
