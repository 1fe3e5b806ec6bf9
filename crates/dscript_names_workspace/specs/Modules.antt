-- What a module file says of its module.
use Rattle.std.specs.Prelude.{ℕ, Bool, true, false, ◌&&◌, if◌then◌else◌, List, [], ◌∷◌, codes}
use Rattle.std.specs.Prelude.{Option, Some, None, option_map, option_and_then}
use Rattle.std.specs.List.{list_all}
use Rattle.std.specs.Option.{option_map_or}
use Rattle.std.specs.Str.{bytes_eq}
use Rattle.bx_tree.specs.Paths.{Atoms}
use Rattle.bx_tree.specs.Trees.{Files}
use Rattle.dscript_ast.specs.ExprTree as tree
use Rattle.dscript_ast.specs.ExprTree.{ExprTree, PartTree, PropTree, parts_of}
use Rattle.dscript_names_workspace.specs.Paths.{in_tree, is_empty, is_specification}
use Rattle.bx_tree.specs.Below.{is_below}
use Rattle.dscript_names_workspace.specs.Lists.{files_listed, only_of}
use Rattle.dscript_names_workspace.specs.Objects.{object_with, field_named}
use Rattle.dscript_ast.specs.Literals.{name_of, string_of}

-- a module: its name, and the files that it lists, in the order of the tree and each once
pub record DescriptionData : Type 0 where
  pub name : List ℕ
  pub projects : Option (List Atoms)

-- a name: a string that is not empty
abbrev pub name_in : ExprTree → Option (List ℕ)
name_in e = option_and_then (λ text. if is_empty text then None else Some text) (string_of e)

-- all of the paths are below the directory and end in `.dsc`
abbrev pub are_projects : Atoms → List Atoms → Bool
are_projects dir paths = list_all (λ path. is_below path dir && is_specification path) paths

-- the files of a list, in the order of the tree and each once, if all of them are allowed
abbrev pub projects_in : Files → Atoms → ExprTree → Option (List Atoms)
projects_in files dir e =
    option_and_then (λ paths. if are_projects dir paths then Some (in_tree files paths) else None)
    (files_listed files dir e)

-- the files that the field says, or none where there is no field
abbrev pub optional_projects : Files → Atoms → Option ExprTree → Option (Option (List Atoms))
optional_projects files dir None = Some None
optional_projects files dir (Some e) = option_map Some (projects_in files dir e)

-- the files that a module lists, or none where it has no field for them, if they are allowed
abbrev pub projects_of : Files → Atoms → List PropTree → Option (Option (List Atoms))
projects_of files dir fields = optional_projects files dir (field_named (codes "projects") fields)

-- the name of a member
abbrev pub member_of : PartTree → Option (List ℕ)
member_of (tree.Member name) = Some name
member_of _ = None

-- whether this is the text, if there is one
abbrev pub is_text : List ℕ → Option (List ℕ) → Bool
is_text text found = option_map_or (λ other. bytes_eq other text) found false

-- `NameResolutionSemantics.implicitProjectReferences`
abbrev pub is_semantics : ExprTree → Bool
is_semantics (tree.Postfix callee parts) =
    is_text (codes "NameResolutionSemantics") (name_of callee)
    && is_text (codes "implicitProjectReferences") (option_and_then member_of (only_of (parts_of parts)))
is_semantics _ = false

-- the module that these fields describe, in a module file in this directory
abbrev pub described_by : Files → Atoms → List PropTree → Option DescriptionData
described_by files dir fields =
    if option_map_or is_semantics (field_named (codes "nameResolutionSemantics") fields) true
    then option_and_then (λ name. option_map (λ projects. record { name = name; projects = projects })
    (projects_of files dir fields))
    (option_and_then name_in (field_named (codes "name") fields)) else None

-- The module that a module file in this directory describes, if it describes one:
-- `{name: "NAME", projects: [files], nameResolutionSemantics: ..}`, where the last two may be left out.
abbrev pub described : Files → Atoms → ExprTree → Option DescriptionData
described files dir e =
    option_and_then (described_by files dir)
    (object_with (codes "name" ∷ codes "projects" ∷ codes "nameResolutionSemantics" ∷ []) e)
