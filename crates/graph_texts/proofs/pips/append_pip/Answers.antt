use Rattle.graph_texts.proofs.pips.append_pip.Goals as goal

pub returns-in-Process-clause-text : goal.returns-in-Process-clause-text
returns-in-Process-clause-text c = rw c.in-Process.is c.append_process.ensures.text

pub returns-in-Process-clause-row : goal.returns-in-Process-clause-row
returns-in-Process-clause-row c = rw c.in-Process.is c.append_process.ensures.row

pub returns-in-Copy-clause-text : goal.returns-in-Copy-clause-text
returns-in-Copy-clause-text c = rw c.in-Copy.is c.append_copy.ensures.text

pub returns-in-Copy-clause-row : goal.returns-in-Copy-clause-row
returns-in-Copy-clause-row c = rw c.in-Copy.is c.append_copy.ensures.row

pub returns-in-Write-clause-text : goal.returns-in-Write-clause-text
returns-in-Write-clause-text c = rw c.in-Write.is c.append_write.ensures.text

pub returns-in-Write-clause-row : goal.returns-in-Write-clause-row
returns-in-Write-clause-row c = rw c.in-Write.is c.append_write.ensures.row

pub returns-in-Seal-clause-text : goal.returns-in-Seal-clause-text
returns-in-Seal-clause-text c = rw c.in-Seal.is c.append_seal.ensures.text

pub returns-in-Seal-clause-row : goal.returns-in-Seal-clause-row
returns-in-Seal-clause-row c = rw c.in-Seal.is c.append_seal.ensures.row
