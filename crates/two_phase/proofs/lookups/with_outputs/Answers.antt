use Rattle.std.proofs.Common.{◌≡◌, ◌∙◌, IfSome, List, Option, Some, ap, subst, sym}
use Rattle.bx_tree.specs.Trees.{Files, NoneNested, paths_of}
use Rattle.memo_format.specs.Found.{output_lines}
use Rattle.memo_format.specs.declared.entry.OutputLine.{OutputLine}
use Rattle.two_phase.specs.Finding.{AreOutputs, FindsOne}
use Rattle.two_phase.proofs.Tried.{no_outputs, with_found}
use Rattle.two_phase.proofs.lookups.with_outputs.Goals as goal

pub returns-in_ok-found-in-Some-clause-found : goal.returns-in_ok-found-in-Some-clause-found
returns-in_ok-found-in-Some-clause-found g c =
    let all = subst (λ (os : List OutputLine). FindsOne (g.R.KeepReader.held c.outputs.new.reader) (λ S fs. AreOutputs S os fs) c.in_ok-made.field-0) c.lines.ensures c.in_ok-made.ensures.found in
    let found = subst (λ (o : Option Files). FindsOne (g.R.KeepReader.held c.outputs.new.reader) (λ S fs. AreOutputs S c.args.held.entry.outputs fs) o) c.in-Some.is all in
    with_found (g.R.KeepReader.held c.outputs.new.reader) c.args.held.entry c.args.paths.asks c.args.answers.items c.in_ok-found-in-Some.found
    (subst (λ (fs : Files). FindsOne (g.R.KeepReader.held c.outputs.new.reader) (λ S x. AreOutputs S c.args.held.entry.outputs x) (Some fs)) (sym c.in_ok-found-in-Some.ensures.made) found)
    c.in_ok-found-in-Some.ensures.entry c.in_ok-found-in-Some.ensures.paths (c.in_ok-found-in-Some.ensures.answers ∙ c.in_ok-answers-in-Some.ensures)

pub returns-in-None-clause-found : goal.returns-in-None-clause-found
returns-in-None-clause-found g c =
    let all = subst (λ (os : List OutputLine). FindsOne (g.R.KeepReader.held c.outputs.new.reader) (λ S fs. AreOutputs S os fs) c.in_ok-made.field-0) c.lines.ensures c.in_ok-made.ensures.found in
    no_outputs (g.R.KeepReader.held c.outputs.new.reader) c.args.held.entry c.args.paths.asks c.args.answers.items
    (subst (λ (o : Option Files). FindsOne (g.R.KeepReader.held c.outputs.new.reader) (λ S fs. AreOutputs S c.args.held.entry.outputs fs) o) c.in-None.is all)

pub returns-in_ok-found-in-Some-clause-parts : goal.returns-in_ok-found-in-Some-clause-parts
returns-in_ok-found-in-Some-clause-parts g c = record {
  entry_is = c.in_ok-found-in-Some.ensures.entry;
  asks_are = c.in_ok-found-in-Some.ensures.paths;
  given_are = c.in_ok-found-in-Some.ensures.answers ∙ c.in_ok-answers-in-Some.ensures;
  lines_are =
      ap output_lines c.in_ok-found-in-Some.ensures.made
      ∙ subst (λ (o : Option Files). IfSome o (λ (fs : Files). output_lines fs ≡ c.lines.result.now)) c.in-Some.is c.in_ok-made.ensures.made
      ∙ c.lines.ensures;
  unnested =
      subst (λ (fs : Files). NoneNested (paths_of fs)) (sym c.in_ok-found-in-Some.ensures.made)
      (subst (λ (o : Option Files). IfSome o (λ (fs : Files). NoneNested (paths_of fs))) c.in-Some.is c.in_ok-made.ensures.unnested);
}
