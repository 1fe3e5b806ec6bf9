-- What a record holds, and that it is sound.
use Rattle.std.specs.Prelude.{◌≡◌, List, length, map}
use Rattle.pip_model_types.specs.declared.desc.Desc.{Desc}
use Rattle.observed.specs.declared.ask.Ask.{Ask}
use Rattle.observed.specs.declared.access.Access.{Access}
use Rattle.observed.specs.declared.access.Answer.{Answer}
use Rattle.tool_run.specs.Described.{described}
use Rattle.tool_run.specs.Run.{Run, path_set, run_of}
use Rattle.run_record.specs.declared.outcome.Outcome.{Outcome}
use Rattle.run_record.specs.Answered.{answered}
use Rattle.run_record.specs.Outcomes.{outcome_of}

-- a process with its contents, a path set with an answer to each of its asks, accesses and an outcome
pub record Facts : Type 0 where
  pub desc : Desc
  pub paths : List Ask
  pub answers : List Answer
  pub accesses : List Access
  pub outcome : Outcome

-- the run of a process, where asks are answered so
abbrev pub run_for : Desc → (Ask → Answer) → Run
run_for d a = run_of (described d) a

-- The facts are those of this run.
pub record AreOf (f : Facts) (r : Run) : Type 0 where
  pub paths : path_set (described f.desc) r.accesses ≡ f.paths
  pub accesses : r.accesses ≡ f.accesses
  pub outcome : outcome_of (described f.desc) r ≡ f.outcome

-- There is an answer to each ask, and the run on these answers has the path set, the accesses and the
-- outcome.
pub record Sound (f : Facts) : Type 0 where
  pub number : length f.answers ≡ length f.paths
  pub run : AreOf f (run_for f.desc (answered f.paths f.answers))

-- The facts are those of the run of this process over these answers.
pub record IsRun (f : Facts) (d : Desc) (a : Ask → Answer) : Type 0 where
  pub desc : f.desc ≡ d
  pub run : AreOf f (run_for d a)
  pub answers : f.answers ≡ map a f.paths

-- The facts have this process, path set and answers, and are those of the run on them.
pub record Replays (f : Facts) (d : Desc) (paths : List Ask) (stored : List Answer) : Type 0 where
  pub desc : f.desc ≡ d
  pub paths_are : f.paths ≡ paths
  pub answers_are : f.answers ≡ stored
  pub run : AreOf f (run_for d (answered paths stored))
