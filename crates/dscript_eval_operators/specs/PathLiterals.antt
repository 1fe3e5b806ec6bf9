-- Path, file and directory literals.
use Rattle.std.specs.Prelude.{ℕ, ◌==◌, if◌then◌else◌, List, [], ◌∷◌, ◌++◌, Option, Some}
use Rattle.std.specs.Prelude.{None, Ok, Err}
use Rattle.bx_tree.specs.Paths.{Atoms}
use Rattle.bx_tree.specs.declared.file_input.FileInput.TheVariants.{Source}
use Rattle.bx_path.specs.Joining.{join_of}
use Rattle.dscript_ast.specs.declared.expr.PathKind.{PathKind}
use Rattle.dscript_ast.specs.declared.expr.PathKind.TheVariants as letters
use Rattle.dscript_value.specs.Plain as plain
use Rattle.dscript_value.specs.Plain.{Plain}
use Rattle.dscript_sdk_values.specs.declared.fault.SdkFault.TheVariants.{BadPath, Kind}
use Rattle.dscript_sdk_values.specs.Outcomes.{Outcome, ◌>>=◌, unless_none}
use Rattle.dscript_eval_operators.specs.Texts.{literal_hole}
use Rattle.bx_tree.specs.FileInputs.{input_path}

-- the base that a value gives: the path of a path, a file or a directory
abbrev pub base_of : Plain → Option Atoms
base_of (plain.Path path) = Some path
base_of (plain.File file) = Some (input_path file)
base_of (plain.Directory path) = Some path
base_of _ = None

-- the hole at the start of a literal: the base that it gives, or else a text
abbrev pub leading_hole : Option Atoms → Plain → Outcome (Option Atoms × List ℕ)
leading_hole (Some base) v = Ok (Some base, [])
leading_hole None v = literal_hole v >>= λ text. Ok (None, text)

-- The text of a literal up to its first hole, and the hole. It is at the start where no text comes before it.
unfoldable pub first_hole : List ℕ → Plain → Outcome (Option Atoms × List ℕ)
first_hole [] v = leading_hole (base_of v) v
first_hole (b ∷ bs) v = literal_hole v >>= λ hole. Ok (None, b ∷ bs ++ hole)

-- What follows a base: nothing, which leads to the base itself, or a `/` and a text that is joined to it.
abbrev pub path_from_base : Atoms → List ℕ → Option Atoms
path_from_base base [] = Some base
path_from_base base (b ∷ rest) = if b == 47 then join_of base rest else None

-- Where a text leads: from its base, or else from the directory of the file. A text with a `/` at its start
-- has an empty first part, so without a base it leads nowhere.
abbrev pub path_to : Atoms → Option Atoms → List ℕ → Option Atoms
path_to dir (Some base) text = path_from_base base text
path_to dir None text = join_of dir text

-- the path as what the letter of the literal asks for; the root is a directory alone
abbrev pub lettered : PathKind → Atoms → Outcome Plain
lettered letters.Path [] = Err BadPath
lettered letters.Path (atom ∷ atoms) = Ok (plain.Path (atom ∷ atoms))
lettered letters.File [] = Err BadPath
lettered letters.File (atom ∷ atoms) = Ok (plain.File (Source (atom ∷ atoms)))
lettered letters.Directory path = Ok (plain.Directory path)
lettered _ path = Err Kind

-- what a literal gives in a file of this directory, by its base, if it has one, and the text after that
unfoldable pub path_literal : PathKind → Atoms → Option Atoms → List ℕ → Outcome Plain
path_literal letter dir base text = unless_none BadPath (path_to dir base text) >>= lettered letter
