-- Honest stores.
use Rattle.std.specs.Prelude.{◌≡◌, List, length}
use Rattle.bx_tree.specs.Trees.{Files}
use Rattle.pip_model_types.specs.declared.desc.Desc.{Desc}
use Rattle.observed.specs.Texts.{has_match}
use Rattle.observed.specs.declared.ask.Ask.{Ask}
use Rattle.observed.specs.declared.access.Answer.{Answer}
use Rattle.bx_io.specs.Holdings.{Holdings}
use Rattle.tool_run.specs.Described.{described}
use Rattle.tool_run.specs.Description.{Description}
use Rattle.tool_run.specs.Run.{path_set, run_of}
use Rattle.run_record.specs.Answered.{answered}
use Rattle.run_record.specs.Outcomes.{outcome_of}
use Rattle.run_record.specs.declared.outcome.Outcome.TheVariants.{Good}
use Rattle.prints.specs.Processes.{weak_parts}
use Rattle.prints.specs.Strong.{strong_parts}
use Rattle.memo_format.specs.Found.{output_lines}
use Rattle.memo_format.specs.StoreNames.{HoldsEntry}
use Rattle.memo_format.specs.declared.entry.Entry.{Entry}
use Rattle.two_phase_meaning.specs.Contents.{HoldsAll, HoldsPaths, HoldsStrong, HoldsWeak}
use Rattle.run_record.specs.Collisions.{contents_of}
use Rattle.two_phase_meaning.specs.Contents.{desc_contents, given_contents}

-- The run of a description over these answers has just this path set, and succeeds with these files.
pub record IsGoodRun (d : Description) (a : Ask → Answer) (paths : List Ask) (files : Files)
    : Type 0 where
  pub paths_are : path_set d (run_of d a).accesses ≡ paths
  pub outcome : outcome_of d (run_of d a) ≡ Good files

-- An entry is honest where its three texts are held under the digests that it names, the strong text names
-- that weak text and that path set and is of the version of that path set, each content that the entry or one of the texts names is held under its
-- digest, and the run on these contents, in which each ask of the path set is answered by its line, asks for
-- nothing else, has that path set, and succeeds with just the entry's outputs.
pub record HonestEntry (S : Holdings) (e : Entry) : Type 0 where
  pub desc : Desc
  pub asks : List Ask
  pub given : List Answer
  pub files : Files
  pub weak : HoldsWeak S e.weak (weak_parts desc)
  pub paths : HoldsPaths S e.paths asks
  pub strong : HoldsStrong S e.strong (strong_parts (has_match asks) e.weak e.paths given)
  pub one_each : length given ≡ length asks
  pub declared : HoldsAll S (desc_contents desc)
  pub answers : HoldsAll S (given_contents given)
  pub made : HoldsAll S (contents_of files)
  pub outputs : output_lines files ≡ e.outputs
  pub run : IsGoodRun (described desc) (answered asks given) asks files

-- Each entry that is held under its own strong digest is honest.
abbrev pub Honest : Holdings → Type 0
Honest S = (e : Entry) → HoldsEntry S e → HonestEntry S e
