-- The two ledgers are those that are made here.
use Rattle.tests_sched_board.proofs.histories.another_worker_makes_what_is_given_back.Given as goal

abbrev pub ghosts-by_the_second_of_two-L-Ledger : goal.ghosts-by_the_second_of_two-L-Ledger
ghosts-by_the_second_of_two-L-Ledger g a = record { name = a.events.name; parts = a.events.parts }

abbrev pub ghosts-by_the_second_of_two-E-Ledger : goal.ghosts-by_the_second_of_two-E-Ledger
ghosts-by_the_second_of_two-E-Ledger g a = record { name = a.marks.name; parts = a.marks.parts }
