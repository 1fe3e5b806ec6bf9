-- The files that a run has written, and what they answer.
use Rattle.std.specs.Prelude.{◌≡◌, ℕ, Bool, true, false, List, [], Option, Some, None, if◌then◌else◌}
use Rattle.std.specs.List.{list_any, filter_map}
use Rattle.std.specs.BTreeMap.{insert_entry}
use Rattle.std.specs.BTreeSet.{BTreeSet, contains}
use Rattle.bx_tree.specs.Paths.{Atoms, path_cmp}
use Rattle.bx_tree.specs.Trees.{Files, file_at}
use Rattle.observed.specs.declared.ask.AskKind.{AskKind}
use Rattle.observed.specs.declared.ask.AskKind.TheVariants as kinds
use Rattle.observed.specs.declared.ask.Ask.{Ask}
use Rattle.observed.specs.declared.access.Answer.{Answer}
use Rattle.observed.specs.declared.access.Answer.TheVariants as answers
use Rattle.bx_tree.specs.Below.{is_below, is_nested, next_atom}

-- the files, in the order of paths, with this one written
abbrev pub with_file : Files → Atoms → List ℕ → Files
with_file writes path bytes = insert_entry path_cmp writes path bytes

-- whether a file was written strictly below the path
abbrev pub has_below : Files → Atoms → Bool
has_below writes path = list_any (λ f. is_below f.0 path) writes

-- the set has exactly the directories in which the files lie
abbrev pub AreDirectories : BTreeSet Atoms → Files → Type 0
AreDirectories dirs writes = (q : Atoms) → contains path_cmp dirs q ≡ has_below writes q

-- whether a file was written strictly below the path, or the path lies strictly below one
abbrev pub clashes : Files → Atoms → Bool
clashes writes path = list_any (λ f. is_nested f.0 path) writes

-- the files with this one written, and whether it was: they stay as they are where its path clashes with one
abbrev pub put_file : Files → Atoms → List ℕ → Files × Bool
put_file writes path bytes =
    if clashes writes path then (writes, false) else (with_file writes path bytes, true)

-- the names that files written below a directory add to its listing
abbrev pub own_names : Files → Atoms → List (List ℕ)
own_names writes dir = filter_map (λ f. next_atom dir f.0) writes

-- what a written file, or one that was written below the path, answers
abbrev pub own_file : AskKind → Option (List ℕ) → Bool → Option Answer
own_file kinds.Read (Some bytes) below = Some (answers.Content bytes)
own_file kinds.Probe (Some bytes) below = Some answers.File
own_file kinds.List (Some bytes) below = Some (answers.Names [])
own_file (kinds.Match pattern) (Some bytes) below = Some (answers.Names [])
own_file kinds.Read None below = if below then Some answers.Directory else None
own_file kinds.Probe None below = if below then Some answers.Directory else None
own_file kinds.List None below = None
own_file (kinds.Match pattern) None below = None

-- what the run's own writes answer to an ask, if anything
abbrev pub own_answer : Files → Ask → Option Answer
own_answer writes ask = own_file ask.kind (file_at writes ask.path) (has_below writes ask.path)
