use Rattle.retire_laws.proofs.SecondBuilds.{no_late, no_tool, stays_fair}
use Rattle.retire_laws.proofs.again.second_build.Goals as goal

pub returns-clause-fair : goal.returns-clause-fair
returns-clause-fair c =
    λ pips tree budget held kept before now list keeps free read named fair was is left.
    stays_fair pips tree budget held list keeps free read named fair kept before now was is left

pub returns-clause-none_late : goal.returns-clause-none_late
returns-clause-none_late c = no_late

pub returns-clause-runs_no_tool : goal.returns-clause-runs_no_tool
returns-clause-runs_no_tool c = no_tool
