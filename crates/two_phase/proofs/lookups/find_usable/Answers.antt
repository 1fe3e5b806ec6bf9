use Rattle.std.proofs.Common.{ℕ, List, Option, Some, subst, sym}
use Rattle.memo_format.specs.StoreNames.{HoldsList}
use Rattle.memo_format.specs.declared.selector.Selector.{Selector}
use Rattle.run_record.specs.Digests.{weak_of}
use Rattle.two_phase.specs.Finding.{FindsOne}
use Rattle.two_phase.proofs.Tried.{list_tried, no_list_for}
use Rattle.two_phase.proofs.lookups.find_usable.Goals as goal

pub returns-in-Some-clause-found : goal.returns-in-Some-clause-found
returns-in-Some-clause-found g c =
    let d = c.args.desc.now in
    let held = subst (λ (w : List ℕ). FindsOne (g.R.KeepReader.held c.selectors.new.reader) (λ S l. HoldsList S w l) c.in_ok-held.field-0) c.requires c.in_ok-held.ensures.found in
    let there = subst (λ (o : Option (List Selector)). FindsOne (g.R.KeepReader.held c.selectors.new.reader) (λ S l. HoldsList S (weak_of d) l) o) c.in-Some.is held in
    list_tried (g.R.KeepReader.held c.selectors.new.reader) (g.R.KeepReader.held c.first_usable.new.reader) d (g.V.View.answers c.args.view.now) c.list.result.now c.first_usable.result c.first_usable.ensures.reader.held_is
    (subst (λ (l : List Selector). FindsOne (g.R.KeepReader.held c.selectors.new.reader) (λ S x. HoldsList S (weak_of d) x) (Some l)) (sym c.list.ensures) there) c.first_usable.ensures.found

pub returns-in-None-clause-found : goal.returns-in-None-clause-found
returns-in-None-clause-found g c =
    let d = c.args.desc.now in
    let held = subst (λ (w : List ℕ). FindsOne (g.R.KeepReader.held c.selectors.new.reader) (λ S l. HoldsList S w l) c.in_ok-held.field-0) c.requires c.in_ok-held.ensures.found in
    no_list_for (g.R.KeepReader.held c.selectors.new.reader) d (g.V.View.answers c.args.view.now) (subst (λ (o : Option (List Selector)). FindsOne (g.R.KeepReader.held c.selectors.new.reader) (λ S l. HoldsList S (weak_of d) l) o) c.in-None.is held)
