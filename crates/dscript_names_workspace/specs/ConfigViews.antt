-- Fields of objects and items of lists as contracts see them.
use Rattle.std.specs.Prelude.{◌≡◌, ℕ, List, map, Option, Some, None, option_map, MatchOption}
use Rattle.std.specs.declared.alloc.Global.{Global}
use Rattle.std.specs.declared.vec.Vec.{Vec}
use Rattle.std.specs.Option.{IfSome}
use Rattle.bx_tree.specs.Paths.{Atoms, has_path}
use Rattle.bx_tree.specs.Trees.{Files}
use Rattle.dscript_ast.specs.Views.{expr_tree}
use Rattle.dscript_names_workspace.specs.Lists.{ItemTree, One, Many, GlobData}
use Rattle.dscript_names_workspace.specs.declared.glob_call.GlobCall.{GlobCall}
use Rattle.dscript_names_workspace.specs.Modules.{DescriptionData}
use Rattle.dscript_names_workspace.specs.Paths.{AreWithin, paths_at}
use Rattle.dscript_names_workspace.specs.declared.module.Description.{Description}
use Rattle.dscript_names_workspace.specs.declared.list.ListItem.{ListItem}
use Rattle.dscript_names_workspace.specs.declared.list.ListItem.TheVariants as items

-- an item, without addresses
abbrev pub item_tree : ListItem → ItemTree
item_tree (items.One e) = One (expr_tree e.now)
item_tree (items.Many e) = Many (expr_tree e.now)

-- items, without addresses
abbrev pub item_trees : List ListItem → List ItemTree
item_trees = map item_tree

-- what a glob says, without addresses
abbrev pub glob_data : GlobCall → GlobData
glob_data call = record { deep = call.deep; directory = call.directory.now; pattern = call.pattern.now }

-- the files that are meant are those at these positions, or none are meant
abbrev pub ArePositions : Files → Option (List Atoms) → Vec ℕ Global → Type 0
ArePositions files meant positions =
    (meant ≡ Some (paths_at files positions.items)) × AreWithin files positions.items

-- positions are found where files are meant, and none otherwise
abbrev pub FindsPositions : Files → Option (List Atoms) → Option (Vec ℕ Global) → Type 0
FindsPositions files meant found = MatchOption found (meant ≡ None) (ArePositions files meant)

-- the positions are those of these files, in any order and with any repetitions
pub record ArePlaces (files : Files) (paths : List Atoms) (positions : List ℕ) : Type 0 where
  pub within : AreWithin files positions
  pub same : (path : Atoms) → has_path (paths_at files positions) path ≡ has_path paths path

-- the files that are meant are those at these positions, in any order and with any repetitions
abbrev pub HasPlaces : Files → Option (List Atoms) → Vec ℕ Global → Type 0
HasPlaces files meant positions =
    (paths : List Atoms) × (meant ≡ Some paths) × ArePlaces files paths positions.items

abbrev pub FindsPlaces : Files → Option (List Atoms) → Option (Vec ℕ Global) → Type 0
FindsPlaces files meant found = MatchOption found (meant ≡ None) (HasPlaces files meant)

-- the paths at positions, where there are any
abbrev pub project_paths : Files → Option (Vec ℕ Global) → Option (List Atoms)
project_paths files projects = option_map (λ positions. paths_at files positions.items) projects

-- the positions, where there are any, are those of files
abbrev pub AreProjectsWithin : Files → Option (Vec ℕ Global) → Type 0
AreProjectsWithin files projects = IfSome projects (λ positions. AreWithin files positions.items)

-- the files that are meant are those at these positions
abbrev pub IsProjects : Files → Option (Option (List Atoms)) → Option (Vec ℕ Global) → Type 0
IsProjects files meant projects =
    (meant ≡ Some (project_paths files projects)) × AreProjectsWithin files projects

-- a module as it is described, with paths in place of positions
abbrev pub description_data : Files → Description → DescriptionData
description_data files d = record { name = d.name; projects = project_paths files d.projects }

-- the module that is meant is described by this
abbrev pub Describes : Files → Option DescriptionData → Description → Type 0
Describes files meant d = (meant ≡ Some (description_data files d)) × AreProjectsWithin files d.projects
