-- What is found for a work, or that nothing is.
use Rattle.std.specs.Prelude.{◌≡◌, ℕ, ◌↔◌, Bool, IsTrue, List, Option, Some, None, ⊤}
use Rattle.std.specs.List.{AllByRecursion}
use Rattle.sha2.specs.Sha256.{sha256}
use Rattle.bx_io.specs.Holdings.{Holdings}
use Rattle.bx_tree.specs.Paths.{Atoms}
use Rattle.bx_tree.specs.Trees.{Files}
use Rattle.dscript_program.specs.Workspaces.{modules_data}
use Rattle.dscript_program.specs.declared.workspace.ModuleText.{ModuleText}
use Rattle.dscript_program.specs.declared.workspace.Workspace.{Workspace}
use Rattle.dscript_sdk_calls.specs.Sources.{Answers}
use Rattle.pip_model_types.specs.declared.pip.Pip.{Pip}
use Rattle.graph_texts.specs.Entries.{IsGraphEntry, graph_entry_text}
use Rattle.graph_texts.specs.Keys.{text_at}
use Rattle.graph_texts.specs.declared.asks.AskLine.{AskLine}
use Rattle.graph_texts.specs.declared.entry.GraphEntry.{GraphEntry}
use Rattle.graph_memo_meaning.specs.Contents.{HoldsDigest, HoldsGraph, line_for}
use Rattle.graph_memo_meaning.specs.Usable.{HasUsableGraph, UsableGraph}
use Rattle.graph_memo_meaning.specs.Work.{Work}
use Rattle.graph_memo.specs.declared.finding.GraphFound.{GraphFound}
use Rattle.graph_memo.specs.declared.finding.GraphFound.TheVariants as found

-- a workspace over source files within a budget of steps
abbrev pub work_of : Workspace → Files → ℕ → Work
work_of work tree budget = record { budget = budget; modules = modules_data work.modules.items; sources = tree }

-- Whether what is told to be held has the property.
abbrev pub Decides : Option Holdings → (Holdings → Type 0) → Bool → Type 0
Decides told P answer = (G : Holdings) → told ≡ Some G → IsTrue answer ↔ P G

-- The entry is held, and has this key.
pub record IsEntryOf (G : Holdings) (key : List ℕ) (e : GraphEntry) : Type 0 where
  pub held : HoldsGraph G e
  pub key_is : e.key ≡ key

-- Whether an entry is usable in what is told to be held, if it is held there.
abbrev pub DecidesUsable : Option Holdings → Work → GraphEntry → Bool → Type 0
DecidesUsable told w e answer =
    (G : Holdings) → told ≡ Some G → IsEntryOf G e.key e → IsTrue answer ↔ UsableGraph G w e

-- What a text that was held under the digest of a key is read as: the entry that has it and that key, or none.
abbrev pub ChecksGraph : List ℕ → List ℕ → Option GraphEntry → Type 0
ChecksGraph text key (Some e) = IsGraphEntry e × (text ≡ graph_entry_text e) × (e.key ≡ key)
ChecksGraph text key None = (e : GraphEntry) → IsGraphEntry e → text ≡ graph_entry_text e → e.key ≡ key → ⊥

-- the text of a specification is held under its digest
abbrev pub HoldsSpec : Files → Holdings → Atoms → Type 0
HoldsSpec sources G path = HoldsDigest G (sha256 (text_at sources path))

-- those of all specifications of a module
abbrev pub HoldsModule : Files → Holdings → ModuleText → Type 0
HoldsModule sources G m = AllByRecursion (HoldsSpec sources G) m.files.items

-- The listing of the ask is held, and it is what the source files answer.
pub record IsAnswered (answers : Answers) (G : Holdings) (line : AskLine) : Type 0 where
  pub same : line_for answers line.ask ≡ line
  pub held : HoldsDigest G line.listing

-- A usable entry has these pips.
pub record Leads (G : Holdings) (w : Work) (pips : List Pip) : Type 0 where
  pub entry : GraphEntry
  pub usable : UsableGraph G w entry
  pub pips_are : entry.pips ≡ pips

-- A hit has the pips of a usable entry, and a miss says that there is none. Nothing is said of the other answers.
abbrev pub IsFound : Holdings → Work → GraphFound → Type 0
IsFound G w (found.Hit pips) = Leads G w pips
IsFound G w found.Miss = HasUsableGraph G w → ⊥
IsFound G w found.Fault = ⊤
IsFound G w found.Memory = ⊤

-- That of what is told to be held.
abbrev pub FindsGraph : Option Holdings → Work → GraphFound → Type 0
FindsGraph told w answer = (G : Holdings) → told ≡ Some G → IsFound G w answer
