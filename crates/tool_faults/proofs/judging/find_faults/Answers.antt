use Rattle.std.proofs.Common.{◌≡◌, ◌∙◌, ap, subst, ℕ, List, IfOk}
use Rattle.bx_tree.specs.Lent.{texts_now}
use Rattle.tool_faults.specs.Faults.{faults_of_lines}
use Rattle.tool_faults.proofs.Exact.{exact_given}
use Rattle.tool_faults.proofs.judging.find_faults.Goals as goal

pub returns-clause-exact : goal.returns-clause-exact
returns-clause-exact c =
    exact_given c.args.text.now c.faults_in.result
    (subst (λ (ls : List (List ℕ)). IfOk c.faults_in.result (λ found. found.items ≡ faults_of_lines ls)) (ap texts_now c.as_slice.ensures.value ∙ c.in_ok-lines.ensures) c.faults_in.ensures)
