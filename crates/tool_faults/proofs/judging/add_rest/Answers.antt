use Rattle.std.proofs.Common.{◌≡◌, ◌++◌, ◌∙◌, ℕ, List, OnOk, ap, filter, subst}
use Rattle.bx_tree.specs.Lent.{texts_now}
use Rattle.tool_text.specs.Grammar.{says}
use Rattle.tool_faults.specs.Faults.{faults_in, numbers_from}
use Rattle.tool_faults.proofs.judging.add_rest.Goals as goal

pub add_lines-requires : goal.add_lines-requires
add_lines-requires c = c.in_ok-table.ensures

pub returns : goal.returns
returns c =
    let texts = texts_now c.args.rest.now in
    let kept : texts_now c.as_slice-lines.result.now ≡ filter says texts = ap texts_now c.as_slice-lines.ensures.value ∙ c.in_ok-kept.ensures in
    subst
    (λ (ls : List (List ℕ)). OnOk c.add_lines.result (c.add_lines.new.found.items ≡ c.args.found.now.items ++ faults_in c.args.second (numbers_from 2 texts) ls))
    kept
    (subst
    (λ (ns : List ℕ). OnOk c.add_lines.result (c.add_lines.new.found.items ≡ c.args.found.now.items ++ faults_in c.args.second ns (texts_now c.as_slice-lines.result.now)))
    c.in_ok-numbers.ensures c.add_lines.ensures)
