use Rattle.bx_tree_paths.proofs.sorted_paths.SortedPaths.paths_below.Given as goal

abbrev pub ghosts-below_from : goal.ghosts-below_from
ghosts-below_from a = record { name = a.blank.name; parts = a.blank.parts }
