-- What a lookup finds, as contracts see it.
use Rattle.std.specs.Prelude.{◌≡◌, ℕ, List, Some, length, map}
use Rattle.std.specs.List.{flat_map}
use Rattle.sha2.specs.Sha256.{sha256}
use Rattle.bx_tree.specs.Paths.{Atoms}
use Rattle.bx_tree.specs.Trees.{Files, NoneNested, paths_of}
use Rattle.observed.specs.Texts.{has_match}
use Rattle.observed.specs.declared.access.Answer.{Answer}
use Rattle.observed.specs.declared.ask.Ask.{Ask}
use Rattle.pip_model_types.specs.declared.desc.Desc.{Desc}
use Rattle.prints.specs.Processes.{weak_parts}
use Rattle.prints.specs.ReadWeak.{read_weak_text}
use Rattle.prints.specs.Strong.{strong_parts, strong_text}
use Rattle.prints.specs.Weak.{weak_text}
use Rattle.memo_format.specs.Entries.{output_line}
use Rattle.memo_format.specs.declared.entry.Entry.{Entry}
use Rattle.memo_format.specs.declared.entry.OutputLine.{OutputLine}

-- an entry, its path set, what the asks are answered now, and the files of its outputs
pub record FoundParts : Type 0 where
  pub entry : Entry
  pub paths : List Ask
  pub answers : List Answer
  pub made : Files

abbrev pub found_parts : Entry → List Ask → List Answer → Files → FoundParts
found_parts entry paths answers made = record { entry = entry; paths = paths; answers = answers; made = made }

-- files, with their contents named by digest
abbrev pub output_lines : Files → List OutputLine
output_lines = map (λ (f : Atoms × List ℕ). record { path = f.0; digest = sha256 f.1 })

-- the digest of the lines of files, by path
abbrev pub outputs_digest : Files → List ℕ
outputs_digest files = sha256 (flat_map output_line (output_lines files))

-- the digest of the strong text of the answers, under the weak text and the path set that the entry names
abbrev pub strong_of_found : FoundParts → List ℕ
strong_of_found f = sha256 (strong_text (strong_parts (has_match f.paths) f.entry.weak f.entry.paths f.answers))

-- There is one answer for each ask, and their strong text has the entry's strong digest; the files are just the outputs of the
-- entry, and none is below another.
pub record IsFound (f : FoundParts) : Type 0 where
  pub one_each : length f.answers ≡ length f.paths
  pub strong : strong_of_found f ≡ f.entry.strong
  pub made : output_lines f.made ≡ f.entry.outputs
  pub unnested : NoneNested (paths_of f.made)

-- It was found for this process: the entry names its weak text, which is read back.
pub record IsFoundFor (f : FoundParts) (d : Desc) : Type 0 where
  pub weak : f.entry.weak ≡ sha256 (weak_text (weak_parts d))
  pub read : read_weak_text (weak_text (weak_parts d)) ≡ Some (weak_parts d)
