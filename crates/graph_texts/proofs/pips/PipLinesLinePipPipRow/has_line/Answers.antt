use Rattle.graph_texts.proofs.pips.PipLinesLinePipPipRow.has_line.Goals as goal

pub returns-in-Process : goal.returns-in-Process
returns-in-Process c = record { spec = c.text-spec.ensures.is_path; kind = rw c.in-Process.is c.has_process.ensures }

pub returns-in-Copy : goal.returns-in-Copy
returns-in-Copy c = record { spec = c.text-spec.ensures.is_path; kind = rw c.in-Copy.is c.has_copy.ensures }

pub returns-in-Write : goal.returns-in-Write
returns-in-Write c = record { spec = c.text-spec.ensures.is_path; kind = rw c.in-Write.is c.has_write.ensures }

pub returns-in-Seal : goal.returns-in-Seal
returns-in-Seal c = record { spec = c.text-spec.ensures.is_path; kind = rw c.in-Seal.is c.has_seal.ensures }
