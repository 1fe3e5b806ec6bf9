use Rattle.tool_run.specs.Described.{described}
use Rattle.run_record.proofs.SameWork.{holds_run, one_weak, read_both, sound_at}
use Rattle.run_record.proofs.holding.what_holds_is_run.Goals as goal

pub returns-clause-run : goal.returns-clause-run
returns-clause-run c = λ f d see. holds_run f d see (c.noninterference.ensures (described f.desc))

pub returns-clause-sound : goal.returns-clause-sound
returns-clause-sound c = sound_at

pub returns-clause-weak : goal.returns-clause-weak
returns-clause-weak c = one_weak

pub returns-clause-read : goal.returns-clause-read
returns-clause-read c = read_both
