-- The two ledgers are those that are made here.
use Rattle.tests_sched_board.proofs.histories.a_worker_waits_while_another_holds_the_last_pip.Given as goal

abbrev pub ghosts-by_one_of_two-L-Ledger : goal.ghosts-by_one_of_two-L-Ledger
ghosts-by_one_of_two-L-Ledger g a = record { name = a.events.name; parts = a.events.parts }

abbrev pub ghosts-by_one_of_two-E-Ledger : goal.ghosts-by_one_of_two-E-Ledger
ghosts-by_one_of_two-E-Ledger g a = record { name = a.marks.name; parts = a.marks.parts }
