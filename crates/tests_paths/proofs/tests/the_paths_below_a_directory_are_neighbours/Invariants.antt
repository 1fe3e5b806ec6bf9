use Rattle.tests_paths.proofs.tests.the_paths_below_a_directory_are_neighbours.Given as goal

abbrev pub ghosts-ends_below : goal.ghosts-ends_below
ghosts-ends_below g a = record { name = a.blank.name; parts = a.blank.parts }
