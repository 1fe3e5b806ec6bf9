use Rattle.graph_texts.proofs.Linked.{none_rise}
use Rattle.graph_texts.proofs.pips.has_order.Goals as goal

pub returns-in-Process : goal.returns-in-Process
returns-in-Process c = rw c.in-Process.is c.dirs-dirs.ensures.rising

pub returns-in-Copy : goal.returns-in-Copy
returns-in-Copy c = rw c.in-Copy.is none_rise

pub returns-in-Write : goal.returns-in-Write
returns-in-Write c = rw c.in-Write.is none_rise

pub returns-in-Seal : goal.returns-in-Seal
returns-in-Seal c = rw c.in-Seal.is none_rise
