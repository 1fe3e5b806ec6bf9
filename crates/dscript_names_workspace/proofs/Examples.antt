-- What some configurations say, worked out.
use Rattle.std.proofs.Common.{◌≡◌, ℕ, true, false, List, [], ◌∷◌, Some, None, codes, map, refl}
use Rattle.bx_tree.specs.Paths.{Atoms}
use Rattle.bx_tree.specs.Trees.{Files}
use Rattle.dscript_ast.specs.ExprTree as tree
use Rattle.dscript_ast.specs.ExprTree.{ExprTree, to_elements, to_exprs, to_parts, to_props}
use Rattle.dscript_ast.specs.declared.expr.PathKind.TheVariants as letters
use Rattle.dscript_names_workspace.specs.Configs.{resolver_at}
use Rattle.dscript_names_workspace.specs.Lists.{One, Many, files_listed, items_of}
use Rattle.dscript_names_workspace.specs.Modules.{name_in}
use Rattle.dscript_names_workspace.specs.Objects.{object_with}
use Rattle.dscript_names_workspace.specs.Paths.{is_module_file, is_specification}
use Rattle.bx_tree.specs.Below.{is_below}

abbrev a_name : ExprTree
a_name = tree.Name (codes "a")

abbrev b_name : ExprTree
b_name = tree.Name (codes "b")

-- a tree of two files, `a` and `s/b`
abbrev two_files : Files
two_files = ((codes "a" ∷ []), []) ∷ ((codes "s" ∷ codes "b" ∷ []), []) ∷ []

abbrev file : List ℕ → ExprTree
file text = tree.Path letters.File text tree.no_holes

abbrev list : List ExprTree → ExprTree
list xs = tree.Elements (to_elements (map (tree.Element false) xs))

-- a glob of the directory of the file
abbrev glob_call : List ℕ → List ℕ → ExprTree
glob_call name pattern =
    tree.Postfix (tree.Name name)
    (to_parts (tree.Call (to_exprs (tree.Path letters.Directory (codes ".") tree.no_holes ∷ tree.Str pattern ∷ [])) ∷ []))

-- ## Lists

spread_list : items_of (tree.Elements (to_elements (tree.Element true (list (a_name ∷ [])) ∷ tree.Element false b_name ∷ [])))
    ≡ One a_name ∷ One b_name ∷ []
spread_list = refl

list_in_list : items_of (list (list (a_name ∷ []) ∷ [])) ≡ One (list (a_name ∷ [])) ∷ []
list_in_list = refl

one_file : files_listed two_files (codes "s" ∷ []) (list (file (codes "../a") ∷ [])) ≡ Some ((codes "a" ∷ []) ∷ [])
one_file = refl

missing_file : files_listed two_files [] (list (file (codes "b") ∷ [])) ≡ None
missing_file = refl

flat_glob : files_listed two_files [] (glob_call (codes "glob") (codes "*")) ≡ Some ((codes "a" ∷ []) ∷ [])
flat_glob = refl

deep_glob : files_listed two_files [] (glob_call (codes "globR") (codes "b")) ≡ Some ((codes "s" ∷ codes "b" ∷ []) ∷ [])
deep_glob = refl

no_pattern : files_listed two_files [] (glob_call (codes "glob") (codes "a/b")) ≡ None
no_pattern = refl

-- files are no resolvers, but a glob that lists none is an empty list
no_resolvers : resolver_at two_files (Many (glob_call (codes "glob") (codes "z"))) ≡ Some []
no_resolvers = refl

file_resolvers : resolver_at two_files (Many (glob_call (codes "glob") (codes "a"))) ≡ None
file_resolvers = refl

-- ## Objects

given_twice : object_with (codes "x" ∷ [])
    (tree.Object (to_props (tree.Named (codes "x") a_name ∷ tree.Quoted (codes "x") b_name ∷ []))) ≡ None
given_twice = refl

another_field : object_with (codes "x" ∷ []) (tree.Object (to_props (tree.Named (codes "y") a_name ∷ []))) ≡ None
another_field = refl

-- ## Names and paths

empty_name : name_in (tree.Str []) ≡ None
empty_name = refl

template_name : name_in (tree.Template (codes "A") tree.no_holes) ≡ None
template_name = refl

named_module : is_module_file (codes "a" ∷ codes "module.config.dsc" ∷ []) ≡ true
named_module = refl

other_name : is_module_file (codes "a" ∷ codes "xmodule.config.dsc" ∷ []) ≡ false
other_name = refl

shortest_name : is_specification (codes ".dsc" ∷ []) ≡ true
shortest_name = refl

not_below_itself : is_below (codes "a" ∷ []) (codes "a" ∷ []) ≡ false
not_below_itself = refl
