-- What is found at once, from what is known of where an expression is evaluated.
use Rattle.std.specs.Prelude.{◌≡◌, ℕ, Bool, true, false, List, [], map, slice_get, unwrap_or, option_map, option_and_then}
use Rattle.std.specs.Prelude.{Option, Some, None, Ok}
use Rattle.bx_tree.specs.Paths.{Atoms}
use Rattle.bx_path.specs.Joining.{parent}
use Rattle.dscript_ast.specs.declared.expr.PathKind.{PathKind}
use Rattle.dscript_ast.specs.declared.expr.PathKind.TheVariants as letters
use Rattle.dscript_program.specs.BoundTree as tree
use Rattle.dscript_program.specs.BoundTree.{ElementRow, ExprData, ExprRow, OperandRow, PartRow, PropData, PropRow}
use Rattle.dscript_program.specs.ProgramData.{DeclData, FileData, KindData, ProgramData}
use Rattle.dscript_program.specs.Views.{program_data}
use Rattle.dscript_value.specs.Plain as plain
use Rattle.dscript_value.specs.Plain.{Plain, PlainField, plain_of}
use Rattle.dscript_value.specs.declared.parts.Callee.{Callee}
use Rattle.dscript_eval_meaning.specs.Acts.{Acts}
use Rattle.dscript_eval_meaning.specs.Calls.{Whole}
use Rattle.dscript_eval_meaning.specs.Constants.{Table}
use Rattle.dscript_eval_meaning.specs.Evaluating.{Gives}
use Rattle.dscript_eval_meaning.specs.Expressions.{after, arguments, elements, fields, operands, value}
use Rattle.dscript_eval_meaning.specs.Lookups.{path_in}
use Rattle.dscript_eval_meaning.specs.States.{State}
use Rattle.dscript_eval_frames.specs.Statuses.{statuses}
use Rattle.dscript_eval_direct.specs.declared.known.Known.{Known}

-- What is known of where an expression is evaluated: the files of the program, the number of the file of the running
-- body, the number of the body's first own local, the values of its own locals from that one on, and the constants.
pub record Knowledge : Type 0 where
  pub files : List FileData
  pub file : ℕ
  pub first : ℕ
  pub own : List Plain
  pub constants : Table

-- what the fast path is told
abbrev pub knowledge : Known → Knowledge
knowledge k = record {
  files = (program_data k.program.now).files;
  file = k.file;
  first = k.first;
  own = map plain_of k.own.now;
  constants = statuses k.constants.now;
}

-- it holds of a program and a state
pub record Knows (k : Knowledge) (p : ProgramData) (s : State) : Type 0 where
  pub files_are : p.files ≡ k.files
  pub file_is : s.frame.file ≡ k.file
  pub first_is : s.frame.first ≡ k.first
  pub own_are : (n : ℕ) (x : Plain) → slice_get k.own n ≡ Some x → slice_get s.frame.own n ≡ Some x
  pub constants_are : s.constants ≡ k.constants

-- with these steps left, this gives a result, and leaves these steps, wherever that is known
abbrev pub GivesAtOnce : {A : Type 0} → Knowledge → (ProgramData → Acts → Gives A) → ℕ → A → ℕ → Type 0
GivesAtOnce known m left x later =
    (p : ProgramData) (act : Acts) (s : State) → Knows known p s
    → m p act (record s { left = left }) ≡ Ok (x, record s { left = later })

-- an expression gives a value at once
abbrev pub IsAtOnce : Knowledge → ExprData → ℕ → Plain → ℕ → Type 0
IsAtOnce known e left x later = GivesAtOnce known (λ p act. value p act e) left x later

-- the operands of a chain after a value give a value at once
abbrev pub GoesAtOnce : Knowledge → OperandRow → Plain → ℕ → Plain → ℕ → Type 0
GoesAtOnce known more x left y later =
    GivesAtOnce known (λ p act. operands p act more x) left y later

-- the elements of a list, after these items, give all its items at once
abbrev pub GoesOnAtOnce : Knowledge → ElementRow → List Plain → ℕ → List Plain → ℕ → Type 0
GoesOnAtOnce known es done left xs later =
    GivesAtOnce known (λ p act. elements p act es done) left xs later

-- the properties of an object give its fields at once
abbrev pub HasFieldsAtOnce : Knowledge → PropRow → ℕ → List PlainField → ℕ → Type 0
HasFieldsAtOnce known ps left fs later =
    GivesAtOnce known (λ p act. fields p act ps) left fs later

-- the parts after a value give a value at once
abbrev pub FollowsAtOnce : Knowledge → PartRow → Plain → ℕ → Plain → ℕ → Type 0
FollowsAtOnce known parts x left y later =
    GivesAtOnce known (λ p act. after p act parts (Whole x)) left y later

-- the arguments of a call give these values at once
abbrev pub HasArgumentsAtOnce : Knowledge → ExprRow → ℕ → List Plain → ℕ → Type 0
HasArgumentsAtOnce known es left xs later =
    GivesAtOnce known (λ p act. arguments p act es) left xs later

-- what is declared in these files
abbrev pub declared_in : List FileData → ℕ → ℕ → Option KindData
declared_in files file decl =
    option_and_then
    (λ (f : FileData). option_map (λ (d : DeclData). d.kind) (slice_get f.decls decl))
    (slice_get files file)

-- the directory of the file of the running body
abbrev pub directory_in : Knowledge → Atoms
directory_in k = unwrap_or (parent (path_in (slice_get k.files k.file))) []

-- whether a literal with this letter is that of a path, a file or a directory
abbrev pub is_rooted : PathKind → Bool
is_rooted letters.Path = true
is_rooted letters.File = true
is_rooted letters.Directory = true
is_rooted letters.Relative = false
is_rooted letters.Atom = false

-- what a value calls, if it is a function
abbrev pub callee_of : Plain → Option Callee
callee_of (plain.Function callee depth held) = Some callee
callee_of _ = None

-- the name and the expression of a property that has both
abbrev pub name_and_value : PropData → Option (List ℕ × ExprData)
name_and_value (tree.Named name e) = Some (name, e)
name_and_value (tree.Quoted name e) = Some (name, e)
name_and_value _ = None
