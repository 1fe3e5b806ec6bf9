-- A file declares at most as many names as its size.
use Rattle.std.proofs.Common.{◌≤◌, List, [], ◌∷◌, ◌++◌, length, arith}
use Rattle.std.specs.List.{flat_map}
use Rattle.std.proofs.lemmas.List.{length-append}
use Rattle.dscript_ast.specs.FileTree as file
use Rattle.dscript_ast.specs.FileTree.{MarkedTree, DeclTree, MarkedTrees, ItemTree, Marked}
use Rattle.dscript_ast.specs.declared.file.Mark.{Mark}
use Rattle.dscript_program.specs.ProgramData.{Dotted}
use Rattle.dscript_names_scopes.specs.Declarations.{all_declared, declared_as, declared_by, item_declared}
use Rattle.dscript_names.specs.Sizes.{all_marked_size, decl_size, item_size, items_size, marked_size}

mutual
  unfolding declared_by marked_size

  marked_declares : (m : MarkedTree) (around : Dotted) → length (declared_by around m) ≤ marked_size m
  marked_declares (Marked x d) around = decl_declares d around x

  decl_declares : (d : DeclTree) (around : Dotted) (x : Mark) → length (declared_as around x d) ≤ decl_size d
  decl_declares (file.Const y t e) around x = omega arith
  decl_declares (file.Function y ts ps t ss) around x = omega arith
  decl_declares (file.Namespace names ms) around x = all_declare ms (around ++ names)
  decl_declares (file.Interface y ts es ms) around x = omega arith
  decl_declares (file.TypeAlias y ts t) around x = omega arith

  all_declare : (ms : MarkedTrees) (around : Dotted) → length (all_declared around ms) ≤ all_marked_size ms
  all_declare file.no_marked around = omega arith
  all_declare (file.more_marked m ms) around =
      let first : length (declared_by around m) ≤ marked_size m = marked_declares m around in
      let others : length (all_declared around ms) ≤ all_marked_size ms = all_declare ms around in
      omega (arith, first, others, length-append (declared_by around m) (all_declared around ms))

item_declares : (i : ItemTree) → length (item_declared i) ≤ item_size i
item_declares (file.ImportAll x module_name) = omega arith
item_declares (file.ImportNames imported module_name) = omega arith
item_declares (file.Declared m) = marked_declares m []
item_declares file.Empty = omega arith

pub items_declare : (is : List ItemTree) → length (flat_map item_declared is) ≤ items_size is
items_declare [] = omega arith
items_declare (i ∷ is) =
    let first : length (item_declared i) ≤ item_size i = item_declares i in
    let others : length (flat_map item_declared is) ≤ items_size is = items_declare is in
    omega (arith, first, others, length-append (item_declared i) (flat_map item_declared is))
