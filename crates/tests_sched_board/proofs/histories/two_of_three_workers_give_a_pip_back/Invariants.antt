-- The two ledgers are those that are made here.
use Rattle.tests_sched_board.proofs.histories.two_of_three_workers_give_a_pip_back.Given as goal

abbrev pub ghosts-by_all_of_three-L-Ledger : goal.ghosts-by_all_of_three-L-Ledger
ghosts-by_all_of_three-L-Ledger g a = record { name = a.events.name; parts = a.events.parts }

abbrev pub ghosts-by_all_of_three-E-Ledger : goal.ghosts-by_all_of_three-E-Ledger
ghosts-by_all_of_three-E-Ledger g a = record { name = a.marks.name; parts = a.marks.parts }
