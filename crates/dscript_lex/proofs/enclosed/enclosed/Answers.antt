use Rattle.std.proofs.Common.{sym, ap, ◌∙◌, arith}
use Rattle.std.proofs.lemmas.List.{drop_all}
use Rattle.dscript_lex.specs.Scanning.{reach}
use Rattle.dscript_lex.proofs.ReachByStep.{resume}
use Rattle.dscript_lex.proofs.enclosed.enclosed.Goals as goal

-- nothing reaches past the end
pub returns-clause-found : goal.returns-clause-found
unfolding reach
returns-clause-found c =
    let nothing_left = drop_all c.steps.at c.args.bytes.now (omega arith) in
    sym (ap (λ s. resume c.steps.value.items c.steps.at (reach c.args.delimiter s)) nothing_left) ∙ c.steps.invariant.reached
