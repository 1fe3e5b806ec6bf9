-- What lists in configurations have: expressions, and the files that globs list.
use Rattle.std.specs.Prelude.{ℕ, Bool, true, false, ◌&&◌, nat_le, if◌then◌else◌}
use Rattle.std.specs.Prelude.{List, [], ◌∷◌, ◌++◌, length, codes}
use Rattle.std.specs.Prelude.{Option, Some, None, option_map, option_and_then}
use Rattle.std.specs.List.{list_all}
use Rattle.std.specs.Str.{bytes_eq}
use Rattle.bx_tree.specs.Paths.{Atoms}
use Rattle.bx_tree.specs.Trees.{Files}
use Rattle.bx_path.specs.Joining.{join_of}
use Rattle.bx_path.specs.Globbing.{glob_of, is_pattern, is_pattern_byte}
use Rattle.bx_path.specs.declared.globbing.TheConstants.{MAX_PATTERN_BYTES}
use Rattle.dscript_ast.specs.ExprTree as tree
use Rattle.dscript_ast.specs.ExprTree.{ExprTree, PartTree, ElementTree, ElementTrees, exprs_of, parts_of}
use Rattle.dscript_ast.specs.declared.expr.PathKind.TheVariants as letters
use Rattle.dscript_names_workspace.specs.Paths.{is_source}
use Rattle.dscript_ast.specs.Literals.{string_of}

-- ## Items

-- an item of a list as it is written: an element, or an expression that is spread in the list or written in
-- place of it, all of whose elements are in the list
pub data ItemTree : Type 0 where
  One : ExprTree → ItemTree
  Many : ExprTree → ItemTree

-- the items of a list, with those of each list that is spread in it
abbrev mutual
  pub items_of : ExprTree → List ItemTree
  items_of (tree.Elements elements) = items_in elements
  items_of e = Many e ∷ []

  pub items_at : ElementTree → List ItemTree
  items_at (tree.Element false e) = One e ∷ []
  items_at (tree.Element true e) = items_of e

  pub items_in : ElementTrees → List ItemTree
  items_in tree.no_elements = []
  items_in (tree.more_elements element rest) = items_at element ++ items_in rest

-- ## Strings and literals

-- the text of a literal of a file without holes
abbrev pub file_text : ExprTree → Option (List ℕ)
file_text (tree.Path letters.File text tree.no_holes) = Some text
file_text _ = None

-- the text of a literal of a directory without holes
abbrev pub directory_text : ExprTree → Option (List ℕ)
directory_text (tree.Path letters.Directory text tree.no_holes) = Some text
directory_text _ = None

-- ## Globs

-- whether a callee is `globR`, which lists all files below a directory, or `glob`, which lists those directly
-- in it; none for another callee
abbrev pub depth_of : ExprTree → Option Bool
depth_of (tree.Name name) =
    if bytes_eq name (codes "glob") then Some false else
    (if bytes_eq name (codes "globR") then Some true else None)
depth_of _ = None

-- the element of a list of one, and those of a list of two
abbrev pub only_of : {X : Type 0} → List X → Option X
only_of (x ∷ []) = Some x
only_of _ = None

abbrev pub pair_of : {X : Type 0} → List X → Option (X × X)
pair_of (x ∷ y ∷ []) = Some (x, y)
pair_of _ = None

-- the arguments of a call
abbrev pub arguments_of : PartTree → Option (List ExprTree)
arguments_of (tree.Call values) = Some (exprs_of values)
arguments_of _ = None

-- the two arguments of a call that is the only one of these parts
abbrev pub arguments_in : List PartTree → Option (ExprTree × ExprTree)
arguments_in parts = option_and_then pair_of (option_and_then arguments_of (only_of parts))

-- what a glob says: whether it lists all below the directory, the directory's text, and the pattern
pub record GlobData : Type 0 where
  pub deep : Bool
  pub directory : List ℕ
  pub pattern : List ℕ

-- what a glob with these arguments says
abbrev pub glob_with : Bool → ExprTree × ExprTree → Option GlobData
glob_with deep both =
    option_and_then (λ directory. option_map (λ pattern.
    record { deep = deep; directory = directory; pattern = pattern })
    (string_of both.1)) (directory_text both.0)

-- a call of `glob` or `globR`, with a directory and a pattern
abbrev pub glob_call : ExprTree → Option GlobData
glob_call (tree.Postfix callee parts) =
    option_and_then
    (λ deep. option_and_then (glob_with deep) (arguments_in (parts_of parts)))
    (depth_of callee)
glob_call _ = None

-- the files that a glob lists; none where its directory is no path, or its pattern no pattern
abbrev pub glob_in : Files → Atoms → GlobData → Option (List Atoms)
glob_in files dir call =
    option_and_then (λ path.
    if is_pattern call.pattern then Some (glob_of files path call.pattern call.deep) else None)
    (join_of dir call.directory)

-- the files that an expression lists, if it is a glob
abbrev pub listed_by : Files → Atoms → ExprTree → Option (List Atoms)
listed_by files dir e = option_and_then (glob_in files dir) (glob_call e)

-- ## Files

-- the path of a literal of a file
abbrev pub literal_at : Atoms → ExprTree → Option Atoms
literal_at dir e = option_and_then (join_of dir) (file_text e)

-- the paths that an item stands for: that of a literal, or those that a glob lists
abbrev pub files_at : Files → Atoms → ItemTree → Option (List Atoms)
files_at files dir (One e) = option_map (λ path. path ∷ []) (literal_at dir e)
files_at files dir (Many e) = listed_by files dir e

-- source files, if all of these are
abbrev pub sources : Files → List Atoms → Option (List Atoms)
sources files paths = if list_all (is_source files) paths then Some paths else None

-- the lists for these, one after the other, if there is one for each
abbrev pub concat_if_all : {X Y : Type 0} → (X → Option (List Y)) → List X → Option (List Y)
concat_if_all f [] = Some []
concat_if_all f (x ∷ xs) = option_and_then (λ ys. option_map (λ more. ys ++ more) (concat_if_all f xs)) (f x)

-- the source files that an item stands for
abbrev pub sources_at : Files → Atoms → ItemTree → Option (List Atoms)
sources_at files dir item = option_and_then (sources files) (files_at files dir item)

-- the source files of a list, in the order of the text and with repetitions
abbrev pub files_listed : Files → Atoms → ExprTree → Option (List Atoms)
files_listed files dir e = concat_if_all (sources_at files dir) (items_of e)
