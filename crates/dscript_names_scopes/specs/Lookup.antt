-- What a dotted name stands for.
use Rattle.std.specs.Prelude.{ℕ, ◌+◌, Bool, false, ◌&&◌, ◌||◌, ◌==◌, List, [], ◌∷◌, ◌++◌, map, reverse, codes}
use Rattle.std.specs.Prelude.{Option, Some, None, Result, Ok, Err, if◌then◌else◌}
use Rattle.std.specs.Option.{option_or, option_map, ok_or}
use Rattle.std.specs.List.{find, list_any, position, position_from, join_with_byte}
use Rattle.std.specs.Str.{bytes_eq}
use Rattle.bx_tree.specs.Paths.{same_path}
use Rattle.dscript_program.specs.Ambient.{written_name}
use Rattle.dscript_program.specs.declared.ambient.TheConstants.{AMBIENT_CALLS}
use Rattle.dscript_ast.specs.ExprTree as tree
use Rattle.dscript_ast.specs.ExprTree.{ExprTree, PartTree, ExprTrees, PartTrees}
use Rattle.dscript_ast.specs.declared.file.Mark.{Mark}
use Rattle.dscript_program.specs.ProgramData.{Dotted}
use Rattle.dscript_program.specs.declared.target.Target.{Target}
use Rattle.dscript_program.specs.declared.target.Target.TheVariants as targets
use Rattle.dscript_program.specs.Workspaces.{sdk_name}
use Rattle.dscript_program.specs.declared.spec_fault.SpecKind.{SpecKind}
use Rattle.dscript_program.specs.declared.spec_fault.SpecKind.TheVariants as faults
use Rattle.dscript_names_scopes.specs.declared.found.Found.{Found}
use Rattle.dscript_names_scopes.specs.declared.names.Declared.{Declared}
use Rattle.dscript_names_scopes.specs.declared.names.Imported.{Imported}
use Rattle.dscript_names_scopes.specs.declared.local.Local.{Local}
use Rattle.dscript_names_scopes.specs.Blocks.{Block}
use Rattle.dscript_names_scopes.specs.Names.{FileNames, World}
use Rattle.dscript_names_scopes.specs.Declarations.{is_any, is_exported, is_public}
use Rattle.dscript_ast.specs.Literals.{string_of}

-- what a level of names has: nothing, so that the next level outwards is asked, or a target or a fault
abbrev pub Level : Type 0
Level = Option (Result Found SpecKind)

-- The shortest prefix of the names that stands for something, in the namespaces before them. To a prefix of
-- one name belong this many parts: none where the name itself is the first word, one where it follows the
-- name of a whole module, two where it follows a call of `importFrom`.
abbrev pub shortest : (Dotted → Option Target) → ℕ → Dotted → Dotted → Option Found
shortest target_of parts before [] = None
shortest target_of parts before (x ∷ names) =
    option_or (option_map (λ t. record { target = t; parts = parts }) (target_of (before ++ x ∷ [])))
    (shortest target_of (parts + 1) (before ++ x ∷ []) names)

-- what a level has, or else what those outwards have
abbrev pub result_of_level : Level → Result Found SpecKind → Result Found SpecKind
result_of_level None outwards = outwards
result_of_level (Some found) outwards = found

-- the first level that has something; without one the name is unknown
abbrev pub first_level : List Level → Result Found SpecKind
first_level [] = Err faults.UnknownName
first_level (None ∷ levels) = first_level levels
first_level (Some found ∷ levels) = found

-- ## Blocks

-- the local of this name that the block declares
abbrev pub local_in : List ℕ → Block → Option Local
local_in x block = find (λ l. bytes_eq l.name x) block.locals

-- a local has a number after its declaration, and is unknown before
abbrev pub known : Option ℕ → Result Found SpecKind
known None = Err faults.UnknownName
known (Some n) = Ok (record { target = targets.Local n; parts = 0 })

-- the innermost block that declares the name anywhere decides
abbrev pub in_blocks : List Block → List ℕ → Level
in_blocks [] x = None
in_blocks (block ∷ blocks) x =
    option_or (option_map (λ l. known l.number) (local_in x block)) (in_blocks blocks x)

-- An assignment is to a variable of the function that it is in: to the local that the innermost block
-- declares, up to the block that is the function's body. Another local is not assigned, and a variable not
-- before its declaration.
abbrev pub assigned_local : Local → Result ℕ SpecKind
assigned_local l = if l.is_let then ok_or l.number faults.UnknownName else Err faults.AssignCaptured

abbrev pub assigned : List Block → List ℕ → Result ℕ SpecKind
assigned [] x = Err faults.AssignCaptured
assigned (block ∷ blocks) x =
    elim (local_in x block) [
      | Some l ↦ assigned_local l
      | None ↦ if block.is_body then Err faults.AssignCaptured else assigned blocks x
    ]

-- the locals with this number for the one of this name, after its declaration
abbrev pub with_number : List ℕ → ℕ → List Local → List Local
with_number x n [] = []
with_number x n (l ∷ ls) =
    if bytes_eq l.name x then record l { number = Some n } ∷ ls else l ∷ with_number x n ls

-- the innermost block with that local
abbrev pub declare_in : List ℕ → ℕ → List Block → List Block
declare_in x n [] = []
declare_in x n (block ∷ blocks) = record block { locals = with_number x n block.locals } ∷ blocks

-- ## Namespaces

-- the declaration is a value of this dotted name, and has such a mark
abbrev pub is_value_of : (Mark → Bool) → Dotted → Declared → Bool
is_value_of sees name d = d.is_value && sees d.mark && same_path d.name name

-- The number of the first value of this dotted name with such a mark. All declarations of the file are
-- counted, from 0.
abbrev pub value_in : (Mark → Bool) → FileNames → Dotted → Option ℕ
value_in sees file name = position_from (is_value_of sees name) 0 file.decls

-- the beginnings of a dotted name, the shortest first
abbrev pub beginnings : Dotted → List Dotted
beginnings [] = [] ∷ []
beginnings (x ∷ names) = [] ∷ map (λ before. x ∷ before) (beginnings names)

-- in the namespaces outwards: the first of these that has a value of a prefix of the name
abbrev pub in_namespaces : ℕ → FileNames → List Dotted → Dotted → Option Found
in_namespaces n file [] written = None
in_namespaces n file (around ∷ outer) written =
    option_or (shortest (λ d. option_map (targets.Declared n) (value_in is_any file d)) 0 around written)
    (in_namespaces n file outer written)

-- ## Modules

-- the value of this dotted name in the files of a module, from the file of this number on
abbrev pub value_of_module : (Mark → Bool) → ℕ → ℕ → List FileNames → Dotted → Option Target
value_of_module sees m n [] name = None
value_of_module sees m n (file ∷ files) name =
    option_or
    (if file.module_number == m then option_map (targets.Declared n) (value_in sees file name) else None)
    (value_of_module sees m (n + 1) files name)

-- Through an import the public values of a module are seen, also where a module imports itself. A name is not
-- public where a prefix of it is a value of the module, and no prefix is a public one.
abbrev pub in_other_module : World → ℕ → ℕ → Dotted → Result Found SpecKind
in_other_module world m parts names =
    elim (shortest (value_of_module is_public m 0 world.files) parts [] names) [
      | Some found ↦ Ok found
      | None ↦
          elim (shortest (value_of_module is_any m 0 world.files) parts [] names) [
            | Some hidden ↦ Err faults.NotPublic
            | None ↦ Err faults.UnknownName
          ]
    ]

-- the ambient call of this dotted name
abbrev pub ambient_of : Dotted → Option Target
ambient_of name =
    option_map targets.Ambient
    (find (λ call. bytes_eq (written_name call) (join_with_byte 46 name)) AMBIENT_CALLS)

-- what the module that is always there has
abbrev pub is_sdk_namespace : List ℕ → Bool
is_sdk_namespace x = list_any (bytes_eq x) (codes "Transformer" ∷ codes "Cmd" ∷ codes "Artifact" ∷ [])

-- the ambient call of this dotted name, if it begins with one of these namespaces
abbrev pub sdk_call : Dotted → Option Target
sdk_call [] = None
sdk_call (x ∷ names) = if is_sdk_namespace x then ambient_of (x ∷ names) else None

-- the number of the module of this name
abbrev pub module_number : World → List ℕ → Option ℕ
module_number world name = position (bytes_eq name) world.modules

-- what the names stand for in the module that is always there, after this number of parts
abbrev pub sdk_found : ℕ → Dotted → Result Found SpecKind
sdk_found parts names = ok_or (shortest sdk_call parts [] names) faults.UnknownName

-- what the names stand for in the module of this name; to a prefix of one name belong this many parts
abbrev pub in_module : World → List ℕ → ℕ → Dotted → Result Found SpecKind
in_module world name parts names =
    if bytes_eq name sdk_name then sdk_found parts names
    else elim (module_number world name) [
      | Some m ↦ in_other_module world m parts names
      | None ↦ Err faults.UnknownModule
    ]

-- ## Imports

-- a whole module is followed by a dotted name; a name in braces stands for a name of the module
abbrev pub after_import : World → List ℕ → Option (List ℕ) → Dotted → Result Found SpecKind
after_import world module_name None rest = in_module world module_name 1 rest
after_import world module_name (Some x) rest = in_module world module_name 0 (x ∷ rest)

-- what an import stands for, with the names that follow it
abbrev pub through_import : World → Dotted → Imported → Result Found SpecKind
through_import world rest i = after_import world i.module_name i.original rest

-- the file's imports, by the first name
abbrev pub in_imports : World → FileNames → Dotted → Level
in_imports world file [] = None
in_imports world file (x ∷ rest) =
    option_map (through_import world rest) (find (λ i. bytes_eq i.name x) file.imports)

-- there is a module of this name
abbrev pub is_module : World → List ℕ → Bool
is_module world name = bytes_eq name sdk_name || list_any (bytes_eq name) world.modules

-- the file is of the module and opens a namespace of this name
abbrev pub opens : List ℕ → Option ℕ → FileNames → Bool
opens x None file = false
opens x (Some m) file = file.module_number == m && list_any (bytes_eq x) file.opened

-- the module has a namespace of this name
abbrev pub has_namespace : World → List ℕ → List ℕ → Bool
has_namespace world module_name x =
    if bytes_eq module_name sdk_name then is_sdk_namespace x
    else list_any (opens x (module_number world module_name)) world.files

-- the fault, if there is one
abbrev pub lookup_fault : Result Found SpecKind → Option SpecKind
lookup_fault (Ok found) = None
lookup_fault (Err kind) = Some kind

-- a module that is named has to be there
abbrev pub unknown_module_fault : World → List ℕ → Option SpecKind
unknown_module_fault world name = if is_module world name then None else Some faults.UnknownModule

-- a name in braces is that of a namespace or of a value of its module, or else a fault
abbrev pub import_fault : World → List ℕ → List ℕ → Option SpecKind
import_fault world module_name x =
    if has_namespace world module_name x then None else lookup_fault (in_module world module_name 0 (x ∷ []))

-- ## `importFrom`

-- the one argument of a call, if that is a string
abbrev pub one_string : PartTree → Option (List ℕ)
one_string (tree.Call (tree.more_exprs e tree.no_exprs)) = string_of e
one_string _ = None

-- the names after dots at the start of these parts
abbrev pub members_at : PartTrees → Dotted
members_at (tree.more_parts (tree.Member x) parts) = x ∷ members_at parts
members_at _ = []

-- a call on one string that is followed by a name: what the names stand for in that module
abbrev pub named_import : World → Option (List ℕ) → Dotted → Level
named_import world (Some name) (x ∷ names) = Some (in_module world name 2 (x ∷ names))
named_import world _ _ = None

-- the name with its parts as a call of `importFrom` in that form
abbrev pub in_import_call : World → List ℕ → PartTrees → Level
in_import_call world x (tree.more_parts part parts) =
    if bytes_eq x (codes "importFrom") then named_import world (one_string part) (members_at parts) else None
in_import_call world x tree.no_parts = None

-- ## All levels

-- where a name occurs: the number and the names of its file, and the namespaces around it
pub record Site : Type 0 where
  pub number : ℕ
  pub file : FileNames
  pub around : Dotted

-- among the values that the module of the file exports
abbrev pub in_own_module : World → FileNames → Dotted → Option Found
in_own_module world file written =
    shortest (value_of_module is_exported file.module_number 0 world.files) 0 [] written

-- What a name stands for outside of blocks, with the parts after it: the namespaces outwards, the imports of
-- the file, what its module exports, calls of `importFrom`, ambient names. At each level the shortest prefix
-- counts.
unfoldable pub found_outside : World → Site → List ℕ → PartTrees → Result Found SpecKind
found_outside world site x parts =
    let written = x ∷ members_at parts in
    first_level (
    option_map Ok (in_namespaces site.number site.file (reverse (beginnings site.around)) written)
    ∷ in_imports world site.file written
    ∷ option_map Ok (in_own_module world site.file written)
    ∷ in_import_call world x parts
    ∷ option_map Ok (shortest ambient_of 0 [] written)
    ∷ [])

-- What a name stands for, with the parts after it: the blocks outwards come before all else.
unfoldable pub found_at : World → Site → List Block → List ℕ → PartTrees → Result Found SpecKind
found_at world site blocks x parts =
    result_of_level (in_blocks blocks x) (found_outside world site x parts)
