-- Values as parts of texts.
use Rattle.std.specs.Prelude.{ℕ, true, false, List, ◌++◌, codes, Ok, Err}
use Rattle.std.specs.Fmt.{signed_decimal}
use Rattle.std.specs.List.{join_by}
use Rattle.bx_tree.specs.Paths.{Atoms, path_text}
use Rattle.dscript_value.specs.Plain as plain
use Rattle.dscript_value.specs.Plain.{Plain}
use Rattle.dscript_sdk_values.specs.declared.fault.SdkFault.TheVariants.{Kind}
use Rattle.dscript_sdk_values.specs.Outcomes.{Outcome}
use Rattle.bx_tree.specs.FileInputs.{input_path}
use Rattle.dscript_sdk_values.specs.PathTexts.{path_argument}

-- the atoms of a relative path with `/` between them; without atoms it is empty
abbrev pub written_relative : List (List ℕ) → List ℕ
written_relative atoms = join_by (λ atom. atom) (codes "/") atoms

-- the text of a hole in a path literal: of a text, a number, an atom or a relative path
unfoldable pub literal_hole : Plain → Outcome (List ℕ)
literal_hole (plain.Text text) = Ok text
literal_hole (plain.Number number) = Ok (signed_decimal number)
literal_hole (plain.Atom atom) = Ok atom
literal_hole (plain.Relative atoms) = Ok (written_relative atoms)
literal_hole _ = Err Kind

-- the text of a hole in a template: of these, and of a flag, a path, a file or a directory
unfoldable pub template_hole : Plain → Outcome (List ℕ)
template_hole (plain.Flag true) = Ok (codes "true")
template_hole (plain.Flag false) = Ok (codes "false")
template_hole (plain.Path path) = Ok (path_argument path)
template_hole (plain.File file) = Ok (path_argument (input_path file))
template_hole (plain.Directory path) = Ok (path_argument path)
template_hole v = literal_hole v

-- a text, and what a hole adds to it
abbrev pub appended_hole : List ℕ → Outcome (List ℕ) → Outcome (List ℕ)
appended_hole text (Ok hole) = Ok (text ++ hole)
appended_hole text (Err fault) = Err fault
