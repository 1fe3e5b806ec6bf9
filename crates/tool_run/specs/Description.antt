-- What a run uses of a process.
use Rattle.std.specs.Prelude.{ℕ, Bool, ◌&&◌, ◌||◌, not, List, [], ◌∷◌, Option, Some, None}
use Rattle.std.specs.Prelude.{if◌then◌else◌, ◌==◌}
use Rattle.std.specs.List.{list_any}
use Rattle.bx_tree.specs.Paths.{Atoms, same_path}
use Rattle.bx_tree.specs.Trees.{Files, file_at}
use Rattle.bx_path.specs.Joining.{join_of}
use Rattle.observed.specs.declared.ask.AskKind.{AskKind}
use Rattle.observed.specs.declared.ask.AskKind.TheVariants as kinds
use Rattle.observed.specs.declared.ask.Ask.{Ask}
use Rattle.observed.specs.declared.access.Answer.{Answer}
use Rattle.observed.specs.declared.access.Answer.TheVariants as answers
use Rattle.tool_text.specs.declared.tool.Instr.{Instr}
use Rattle.bx_tree.specs.Below.{is_below}
use Rattle.pip_model_types.specs.Outputs.{is_console}

-- What a run uses of a process: its tool, if the executable is one; the executable and the declared
-- files, each as its path and its bytes; the working directory, arguments and variables; the output
-- files, the directories below which it may write, the file for what it says; and how many steps it
-- may take. Input directories, and whether output directories are shared, say nothing to a run.
pub record Description : Type 0 where
  pub tool : Option (List Instr)
  pub exe : Atoms × List ℕ
  pub files : Files
  pub dir : Atoms
  pub args : List (List ℕ)
  pub env : List (List ℕ × List ℕ)
  pub outs : List Atoms
  pub outdirs : List Atoms
  pub console : Option Atoms
  pub budget : ℕ

-- the bytes of the executable or of a declared file
abbrev pub declared_at : Description → Atoms → Option (List ℕ)
declared_at d path = file_at (d.exe ∷ d.files) path

-- what a declared file answers: a read and a probe, not a listing
abbrev pub file_answer : AskKind → Option (List ℕ) → Option Answer
file_answer kind None = None
file_answer kinds.Read (Some bytes) = Some (answers.Content bytes)
file_answer kinds.Probe (Some bytes) = Some answers.File
file_answer kinds.List (Some bytes) = None
file_answer (kinds.Match pattern) (Some bytes) = None

abbrev pub given : Description → Ask → Option Answer
given d ask = file_answer ask.kind (declared_at d ask.path)

abbrev pub or_else : Option Answer → Answer → Answer
or_else None answer = answer
or_else (Some answer) other = answer

-- what an ask is answered: by the declared files first, and else by the view
abbrev pub answer_of : Description → (Ask → Answer) → Ask → Answer
answer_of d a ask = or_else (given d ask) (a ask)

-- whether a run may write the path: it is an output file or lies strictly below an output directory,
-- and is not the console file
abbrev pub permits : Description → Atoms → Bool
permits d path =
    (list_any (λ out. same_path out path) d.outs || list_any (λ dir. is_below path dir) d.outdirs)
    && not (is_console d.console path)

-- The path that a text stands for: `/` alone is the root, what follows a `/` is joined to the root,
-- and any other text to the working directory.
abbrev pub resolved : Atoms → List ℕ → Option Atoms
resolved dir [] = join_of dir []
resolved dir (b ∷ []) = if b == 47 then Some [] else join_of dir (b ∷ [])
resolved dir (b ∷ c ∷ cs) = if b == 47 then join_of [] (c ∷ cs) else join_of dir (b ∷ c ∷ cs)
