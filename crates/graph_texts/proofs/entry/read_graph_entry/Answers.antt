use Rattle.graph_texts.proofs.entry.read_graph_entry.Goals as goal

pub returns-in-Err-BadPrint : goal.returns-in-Err-BadPrint
returns-in-Err-BadPrint c = λ e h is. (rw c.in-Err-BadPrint.field-0-is at c.in-Err-BadPrint.ensures) e h is
