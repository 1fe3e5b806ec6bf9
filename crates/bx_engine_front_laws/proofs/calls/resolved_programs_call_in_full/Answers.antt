use Rattle.bx_engine_front_laws.proofs.CallsInFull.{in_full}
use Rattle.bx_engine_front_laws.proofs.calls.resolved_programs_call_in_full.Goals as goal

pub returns : goal.returns
returns c = in_full
