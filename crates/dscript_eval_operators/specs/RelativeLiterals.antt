-- Relative path literals and atom literals.
use Rattle.std.specs.Prelude.{ℕ, ◌==◌, if◌then◌else◌, List, [], ◌∷◌, codes, Ok, Err}
use Rattle.std.specs.List.{slice_split}
use Rattle.std.specs.Str.{bytes_eq}
use Rattle.bx_path.specs.Joining.{is_atom}
use Rattle.dscript_value.specs.Plain as plain
use Rattle.dscript_value.specs.Plain.{Plain}
use Rattle.dscript_sdk_values.specs.declared.fault.SdkFault.TheVariants.{BadPath}
use Rattle.dscript_sdk_values.specs.Outcomes.{Outcome, ◌>>=◌}

-- a part before the atoms of the others: `.` is dropped, and else it must be an atom
abbrev pub part_before : List ℕ → List (List ℕ) → Outcome (List (List ℕ))
part_before part atoms =
    if bytes_eq part (codes ".") then Ok atoms else (if is_atom part then Ok (part ∷ atoms) else Err BadPath)

abbrev pub atoms_of : List (List ℕ) → Outcome (List (List ℕ))
atoms_of [] = Ok []
atoms_of (part ∷ parts) = atoms_of parts >>= part_before part

-- the relative path whose atoms are the parts of a text between its `/`
unfoldable pub relative_literal : List ℕ → Outcome Plain
relative_literal text = atoms_of (slice_split (λ b. b == 47) text) >>= λ atoms. Ok (plain.Relative atoms)

unfoldable pub atom_literal : List ℕ → Outcome Plain
atom_literal text = if is_atom text then Ok (plain.Atom text) else Err BadPath
