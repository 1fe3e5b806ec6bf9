use Rattle.bx_engine.proofs.crew.work_as.Given as goal

abbrev pub ghosts-work_with-L-Ledger : goal.ghosts-work_with-L-Ledger
ghosts-work_with-L-Ledger g a = record { name = a.events.name; parts = a.events.parts }

abbrev pub ghosts-work_with-E-Ledger : goal.ghosts-work_with-E-Ledger
ghosts-work_with-E-Ledger g a = record { name = a.marks.name; parts = a.marks.parts }
