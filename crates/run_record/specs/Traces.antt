-- What a run asked and was answered, and the facts that follow.
use Rattle.std.specs.Prelude.{List}
use Rattle.pip_model_types.specs.declared.desc.Desc.{Desc}
use Rattle.observed.specs.declared.ask.Ask.{Ask}
use Rattle.observed.specs.declared.access.Answer.{Answer}
use Rattle.run_record.specs.declared.outcome.Outcome.{Outcome}
use Rattle.run_record.specs.Answered.{answered}
use Rattle.run_record.specs.Facts.{Facts, run_for}

-- a path set with an answer to each of its asks
pub record TraceData : Type 0 where
  pub paths : List Ask
  pub answers : List Answer

-- What a process with these asks, answers and outcome makes a record of: the accesses are those of the run on these answers.
abbrev pub facts_of : Desc → TraceData → Outcome → Facts
facts_of d t o = record {
  desc = d;
  paths = t.paths;
  answers = t.answers;
  accesses = (run_for d (answered t.paths t.answers)).accesses;
  outcome = o;
}
