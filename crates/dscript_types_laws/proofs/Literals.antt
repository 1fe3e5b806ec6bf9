-- What path literals, relative paths and atoms come to.
use Rattle.std.proofs.Common.{ℕ, Bool, true, false, cond, List, [], ◌∷◌, Option, Some, None, Ok, Err, refl, codes}
use Rattle.std.specs.List.{slice_split}
use Rattle.std.specs.Prelude.{◌==◌}
use Rattle.std.specs.Str.{bytes_eq}
use Rattle.bx_tree.specs.Paths.{Atoms}
use Rattle.bx_tree.specs.declared.file_input.FileInput.TheVariants.{Source}
use Rattle.bx_path.specs.Joining.{is_atom}
use Rattle.dscript_ast.specs.declared.expr.PathKind.TheVariants as letters
use Rattle.dscript_value.specs.Plain as plain
use Rattle.dscript_value.specs.Plain.{Plain}
use Rattle.dscript_sdk_values.specs.declared.fault.SdkFault.TheVariants.{BadPath}
use Rattle.dscript_sdk_values.specs.Outcomes.{Outcome, ◌>>=◌, unless_none}
use Rattle.dscript_eval_operators.specs.PathLiterals.{lettered, path_literal, path_to}
use Rattle.dscript_eval_operators.specs.RelativeLiterals.{atom_literal, atoms_of, part_before, relative_literal}
use Rattle.dscript_types_meaning.specs.declared.kind.Kind.TheVariants as kinds
use Rattle.dscript_types_meaning.specs.Types.{kind_type}
use Rattle.dscript_types_values.proofs.Fitting.{kind_has}
use Rattle.dscript_types_laws.proofs.Holes.{Reads}
use Rattle.dscript_types_laws.proofs.Operating.{AnswersOf}
use Rattle.dscript_types_laws.proofs.Reading.{then_reads}

path_case : (o : Option Atoms) → AnswersOf (kind_type kinds.Path) (unless_none BadPath o >>= lettered letters.Path)
path_case None = tt
path_case (Some []) = tt
path_case (Some (atom ∷ atoms)) = kind_has kinds.Path (plain.Path (atom ∷ atoms)) (atom ∷ atoms, refl)

pub path_has
    : (dir : Atoms) (base : Option Atoms) (text : List ℕ) → AnswersOf (kind_type kinds.Path) (path_literal letters.Path dir base text)
unfolding path_literal
path_has dir base text = path_case (path_to dir base text)

file_case : (o : Option Atoms) → AnswersOf (kind_type kinds.File) (unless_none BadPath o >>= lettered letters.File)
file_case None = tt
file_case (Some []) = tt
file_case (Some (atom ∷ atoms)) = kind_has kinds.File (plain.File (Source (atom ∷ atoms))) (Source (atom ∷ atoms), refl)

pub file_has
    : (dir : Atoms) (base : Option Atoms) (text : List ℕ) → AnswersOf (kind_type kinds.File) (path_literal letters.File dir base text)
unfolding path_literal
file_has dir base text = file_case (path_to dir base text)

directory_case : (o : Option Atoms) → AnswersOf (kind_type kinds.Directory) (unless_none BadPath o >>= lettered letters.Directory)
directory_case None = tt
directory_case (Some path) = kind_has kinds.Directory (plain.Directory path) (path, refl)

pub directory_has
    : (dir : Atoms) (base : Option Atoms) (text : List ℕ)
    → AnswersOf (kind_type kinds.Directory) (path_literal letters.Directory dir base text)
unfolding path_literal
directory_has dir base text = directory_case (path_to dir base text)

part_case
    : (part : List ℕ) (atoms : List (List ℕ)) (a b : Bool)
    → Reads (cond a (Ok atoms) (cond b (Ok (part ∷ atoms)) (Err BadPath)))
part_case part atoms true b = tt
part_case part atoms false true = tt
part_case part atoms false false = tt

part_reads : (part : List ℕ) (atoms : List (List ℕ)) → Reads (part_before part atoms)
part_reads part atoms = part_case part atoms (bytes_eq part (codes ".")) (is_atom part)

atoms_read : (parts : List (List ℕ)) → Reads (atoms_of parts)
atoms_read [] = tt
atoms_read (part ∷ parts) = then_reads (atoms_of parts) (part_before part) (atoms_read parts) (part_reads part)

relative_case
    : (o : Outcome (List (List ℕ))) → Reads o → AnswersOf (kind_type kinds.RelativePath) (o >>= λ atoms. Ok (plain.Relative atoms))
relative_case (Ok atoms) h = kind_has kinds.RelativePath (plain.Relative atoms) (atoms, refl)
relative_case (Err fault) h = h

pub relative_has : (text : List ℕ) → AnswersOf (kind_type kinds.RelativePath) (relative_literal text)
unfolding relative_literal
relative_has text =
    relative_case (atoms_of (slice_split (λ b. b == 47) text)) (atoms_read (slice_split (λ b. b == 47) text))

atom_case : (text : List ℕ) (b : Bool) → AnswersOf (kind_type kinds.PathAtom) (cond b (Ok (plain.Atom text)) (Err BadPath))
atom_case text true = kind_has kinds.PathAtom (plain.Atom text) (text, refl)
atom_case text false = tt

pub atom_has : (text : List ℕ) → AnswersOf (kind_type kinds.PathAtom) (atom_literal text)
unfolding atom_literal
atom_has text = atom_case text (is_atom text)
