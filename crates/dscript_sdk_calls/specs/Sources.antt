-- What calls ask of the source tree: all that they know of it, they know from the answers.
use Rattle.std.specs.Prelude.{◌≡◌, ℕ, Bool, true, false, List, filter}
use Rattle.std.specs.List.{AllByRecursion}
use Rattle.bx_tree.specs.Below.{is_below, is_directly_in}
use Rattle.bx_tree.specs.Paths.{Atoms}
use Rattle.bx_tree.specs.Trees.{Files, paths_of}
use Rattle.bx_path.specs.Globbing.{glob_of}
use Rattle.dscript_sdk_calls.specs.declared.tree_ask.TreeAsk.{TreeAsk}
use Rattle.dscript_sdk_calls.specs.declared.tree_ask.TreeAsk.TheVariants.{Glob, GlobDeep, Below}

-- ## Asks and answers

-- What answers asks: any function from asks to paths. A call uses it for the asks that it makes, and for
-- nothing else.
abbrev pub Answers : Type 0
Answers = TreeAsk → List Atoms

-- two answerers answer each of these asks alike
abbrev pub AgreeOn : Answers → Answers → List TreeAsk → Type 0
AgreeOn a b asks = AllByRecursion (λ ask. a ask ≡ b ask) asks

-- what a glob asks
abbrev pub glob_ask : Bool → Atoms → List ℕ → TreeAsk
glob_ask false dir pattern = Glob dir pattern
glob_ask true dir pattern = GlobDeep dir pattern

-- those of the answered paths that are directly in the directory
abbrev pub directly_in : Atoms → List Atoms → List Atoms
directly_in dir paths = filter (λ path. is_directly_in path dir) paths

-- ## The answers of a tree

-- the source files below a directory, by path
unfoldable pub files_below : Files → Atoms → List Atoms
files_below sources dir = filter (λ path. is_below path dir) (paths_of sources)

-- the source files that are directly in a directory
abbrev pub files_directly_in : Files → Atoms → List Atoms
files_directly_in sources dir = directly_in dir (files_below sources dir)

-- the source files that a pattern finds in a directory, or anywhere below it where the glob is deep, by path
unfoldable pub files_found : Files → Atoms → List ℕ → Bool → List Atoms
files_found sources dir pattern deep = glob_of sources dir pattern deep

-- what the source files of a tree answer
abbrev pub tree_answers : Files → Answers
tree_answers sources (Glob dir pattern) = files_found sources dir pattern false
tree_answers sources (GlobDeep dir pattern) = files_found sources dir pattern true
tree_answers sources (Below dir) = files_below sources dir
