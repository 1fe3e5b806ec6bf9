use Rattle.std.proofs.Common.{List, Option, Some, subst, sym}
use Rattle.memo_format.specs.StoreNames.{HoldsList}
use Rattle.memo_format.specs.declared.selector.Selector.{Selector}
use Rattle.two_phase.specs.Finding.{FindsOne}
use Rattle.two_phase.proofs.Kept.{listed_in}
use Rattle.two_phase.proofs.rechecking.is_listed.Goals as goal

pub returns-in-Some-clause-listed : goal.returns-in-Some-clause-listed
returns-in-Some-clause-listed g c = λ yes.
    let there = subst (λ (o : Option (List Selector)). FindsOne (g.R.KeepReader.held c.selectors.new.reader) (λ S l. HoldsList S c.args.entry.now.weak l) o) c.in-Some.is c.in_ok-held.ensures.found in
    listed_in (g.R.KeepReader.held c.selectors.new.reader) c.args.entry.now c.list.result.now c.has_selector.result
    (subst (λ (l : List Selector). FindsOne (g.R.KeepReader.held c.selectors.new.reader) (λ S x. HoldsList S c.args.entry.now.weak x) (Some l)) (sym c.list.ensures) there)
    c.has_selector.ensures yes
