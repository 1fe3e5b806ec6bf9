use Rattle.std.proofs.lemmas.Result.{IfOk-weaker}
use Rattle.one_thread.proofs.SharedSets.{clash_above, clash_there, clash_within}
use Rattle.one_thread.proofs.shared.SharedFiles.clashes.Goals as goal

pub returns-then-contains : goal.returns-then-contains
returns-then-contains c = λ paths h.
    clash_there c.args.self.now.files c.args.self.now.dirs paths c.args.path.now _ h c.contains.ensures c.if-contains.true

pub returns-then-contains-2 : goal.returns-then-contains-2
returns-then-contains-2 c = λ paths h.
    clash_within c.args.self.now.files c.args.self.now.dirs paths c.args.path.now _ _ h c.contains.ensures c.if-contains.false c.contains-2.ensures
    c.if-contains-2.true

pub returns : goal.returns
returns c =
    IfOk-weaker c.has_above.result _ _ (λ yes f. λ paths h.
    clash_above c.args.self.now.files c.args.self.now.dirs paths c.args.path.now _ _ yes h c.contains.ensures c.if-contains.false c.contains-2.ensures
    c.if-contains-2.false (f paths h)) c.has_above.ensures
