-- The parts of an honest entry, one after the other.
use Rattle.std.specs.Prelude.{◌≡◌, ℕ, List, length, map, Option, Some, None}
use Rattle.sha2.specs.Sha256.{sha256}
use Rattle.bx_tree.specs.Paths.{Atoms}
use Rattle.bx_tree.specs.Trees.{Files}
use Rattle.pip_model_types.specs.declared.desc.Desc.{Desc}
use Rattle.observed.specs.Texts.{has_match}
use Rattle.observed.specs.declared.ask.Ask.{Ask}
use Rattle.observed.specs.declared.access.Answer.{Answer}
use Rattle.bx_io.specs.Holdings.{Holdings}
use Rattle.tool_run.specs.Described.{described}
use Rattle.run_record.specs.Answered.{answered}
use Rattle.run_record.specs.Collisions.{contents_of}
use Rattle.prints.specs.Processes.{weak_parts}
use Rattle.prints.specs.Strong.{line_of}
use Rattle.prints.specs.declared.strong_parts.AnswerLine.{AnswerLine}
use Rattle.prints.specs.declared.weak_parts.WeakParts.{WeakParts}
use Rattle.memo_format.specs.Found.{output_lines}
use Rattle.memo_format.specs.StoreNames.{HoldsBlob}
use Rattle.memo_format.specs.declared.entry.Entry.{Entry}
use Rattle.memo_format.specs.declared.entry.OutputLine.{OutputLine}
use Rattle.two_phase_meaning.specs.Contents.{HoldsAll, HoldsPaths, HoldsStrong, HoldsWeak, desc_contents, given_contents}
use Rattle.two_phase_meaning.specs.Honest.{IsGoodRun}
use Rattle.cache_care_check.specs.declared.texts.EntryTexts.{EntryTexts}

-- The three texts that an entry names are held, the strong one names the other two and is of the version of the path set, and
-- it has a line for each ask.
pub record AreTexts (S : Holdings) (e : Entry) (t : EntryTexts) : Type 0 where
  pub weak : HoldsWeak S e.weak t.weak
  pub paths : HoldsPaths S e.paths t.paths
  pub strong : HoldsStrong S e.strong
      (record { second = has_match t.paths; weak = e.weak; paths = e.paths; lines = t.lines })
  pub one_each : length t.lines ≡ length t.paths

-- The texts of an entry, of which the first two say this.
pub record AddsStrong (S : Holdings) (e : Entry) (weak : WeakParts) (paths : List Ask) (t : EntryTexts) : Type 0 where
  pub weak_is : t.weak ≡ weak
  pub paths_are : t.paths ≡ paths
  pub strong : HoldsStrong S e.strong
      (record { second = has_match t.paths; weak = e.weak; paths = e.paths; lines = t.lines })
  pub one_each : length t.lines ≡ length t.paths

-- the process that a weak text says, with its contents, which are held
abbrev pub IsDescOf : Holdings → WeakParts → Desc → Type 0
IsDescOf S parts desc = (weak_parts desc ≡ parts) × HoldsAll S (desc_contents desc)

-- the answers that lines say, with their contents, which are held
abbrev pub AreAnswersOf : Holdings → List AnswerLine → List Answer → Type 0
AreAnswersOf S lines given = (map line_of given ≡ lines) × HoldsAll S (given_contents given)

-- the output is this file, by path and digest, and its content is held
abbrev pub IsFileOf : Holdings → OutputLine → Atoms × List ℕ → Type 0
IsFileOf S output f = (output ≡ record { path = f.0; digest = sha256 f.1 }) × HoldsBlob S f.1

-- the files that are these outputs, by path and digest, and which are held
abbrev pub AreFilesOf : Holdings → List OutputLine → Files → Type 0
AreFilesOf S outputs files = (output_lines files ≡ outputs) × HoldsAll S (contents_of files)

-- the files of a run over these answers that asks just this path set and succeeds, or that it does not
abbrev pub MakesJust : Desc → List Ask → List Answer → Option Files → Type 0
MakesJust d asks given (Some files) = IsGoodRun (described d) (answered asks given) asks files
MakesJust d asks given None = (files : Files) → IsGoodRun (described d) (answered asks given) asks files → ⊥

-- What the texts name is held, and the run on it gives just the outputs of the entry.
pub record KeepsTexts (S : Holdings) (e : Entry) (t : EntryTexts) : Type 0 where
  pub desc : Desc
  pub given : List Answer
  pub files : Files
  pub desc_is : IsDescOf S t.weak desc
  pub given_are : AreAnswersOf S t.lines given
  pub run : IsGoodRun (described desc) (answered t.paths given) t.paths files
  pub made : AreFilesOf S e.outputs files
