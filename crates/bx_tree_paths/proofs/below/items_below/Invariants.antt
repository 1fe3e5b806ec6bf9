use Rattle.bx_tree_paths.proofs.below.items_below.Given as goal

abbrev pub ghosts-items_from : goal.ghosts-items_from
ghosts-items_from g a = record { name = a.blank.name; parts = a.blank.parts }
