-- The two ledgers are those that are made here.
use Rattle.tests_sched_board_refusals.proofs.lies.another_text_is_refused.Given as goal

abbrev pub ghosts-another_text-L-Ledger : goal.ghosts-another_text-L-Ledger
ghosts-another_text-L-Ledger g a = record { name = a.events.name; parts = a.events.parts }

abbrev pub ghosts-another_text-E-Ledger : goal.ghosts-another_text-E-Ledger
ghosts-another_text-E-Ledger g a = record { name = a.marks.name; parts = a.marks.parts }
