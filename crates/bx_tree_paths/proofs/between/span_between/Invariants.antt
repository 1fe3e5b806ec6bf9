use Rattle.bx_tree_paths.proofs.between.span_between.Given as goal

abbrev pub ghosts-span_from : goal.ghosts-span_from
ghosts-span_from g a = record { name = a.blank.name; parts = a.blank.parts }
