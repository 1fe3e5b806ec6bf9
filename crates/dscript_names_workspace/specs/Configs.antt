-- What `config.dsc` says: the module files that it lists.
use Rattle.std.specs.Prelude.{Bool, false, if◌then◌else◌, List, [], ◌∷◌, codes}
use Rattle.std.specs.Prelude.{Option, Some, None, option_map, option_and_then}
use Rattle.std.specs.List.{list_all}
use Rattle.std.specs.Option.{option_map_or}
use Rattle.std.specs.Str.{bytes_eq}
use Rattle.bx_tree.specs.Paths.{Atoms}
use Rattle.bx_tree.specs.Trees.{Files}
use Rattle.dscript_ast.specs.ExprTree.{ExprTree}
use Rattle.dscript_names_workspace.specs.Paths.{in_tree, is_empty, is_module_file}
use Rattle.dscript_names_workspace.specs.Lists.{ItemTree, One, Many, concat_if_all, items_of}
use Rattle.dscript_names_workspace.specs.Lists.{listed_by, files_listed}
use Rattle.dscript_names_workspace.specs.Objects.{object_with, field_named}
use Rattle.dscript_ast.specs.Literals.{string_of}

-- `"DScript"`, the one kind of resolvers
abbrev pub is_kind : ExprTree → Bool
is_kind e = option_map_or (λ text. bytes_eq text (codes "DScript")) (string_of e) false

-- the module files of a list, if all of its files are module files
abbrev pub module_files : Files → ExprTree → Option (List Atoms)
module_files files e =
    option_and_then (λ paths. if list_all is_module_file paths then Some paths else None)
    (files_listed files [] e)

-- the list of modules of a resolver: `{kind: "DScript", modules: [files]}`
abbrev pub modules_list : ExprTree → Option ExprTree
modules_list e =
    option_and_then (λ fields. option_and_then (λ kind. option_and_then (λ modules.
    if is_kind kind then Some modules else None)
    (field_named (codes "modules") fields)) (field_named (codes "kind") fields))
    (object_with (codes "kind" ∷ codes "modules" ∷ []) e)

-- the module files of a resolver
abbrev pub resolver : Files → ExprTree → Option (List Atoms)
resolver files e = option_and_then (module_files files) (modules_list e)

-- the module files of an item of the resolvers; a glob that lists nothing is an empty list, and otherwise its
-- files are no resolvers
abbrev pub resolver_at : Files → ItemTree → Option (List Atoms)
resolver_at files (One e) = resolver files e
resolver_at files (Many e) =
    option_and_then (λ paths. if is_empty paths then Some [] else None) (listed_by files [] e)

-- the list of resolvers of a configuration: `{resolvers: [resolvers]}`
abbrev pub resolvers_list : ExprTree → Option ExprTree
resolvers_list e =
    option_and_then (field_named (codes "resolvers")) (object_with (codes "resolvers" ∷ []) e)

-- the module files of resolvers, in the order of the text and with repetitions
abbrev pub resolvers : Files → ExprTree → Option (List Atoms)
resolvers files list = concat_if_all (resolver_at files) (items_of list)

-- the module files that a configuration lists, in the order of the tree and each once, if it is one
abbrev pub configured : Files → ExprTree → Option (List Atoms)
configured files e = option_map (in_tree files) (option_and_then (resolvers files) (resolvers_list e))
