use Rattle.std.proofs.Common.{◌≡◌, IfOk, Option, ℕ, subst}
use Rattle.violations.specs.Verdicts.{with_pip}
use Rattle.violations.specs.declared.verdict.ViolationKind.{ViolationKind}
use Rattle.violations.specs.Classes.{other_class}
use Rattle.violations.proofs.classes.looked.Goals as goal

pub returns-in-Some : goal.returns-in-Some
returns-in-Some c =
    subst (λ (o : Option ℕ). IfOk c.with_other.result (λ v. v ≡ other_class c.args.plan.now.pips c.args.pip c.args.deed c.args.path.now o))
    c.in-Some.ensures.least
    (subst (λ (k : ViolationKind). IfOk c.with_other.result (λ v. v ≡ with_pip k c.args.deed c.args.path.now c.in-Some.other))
    c.look_kind.ensures c.with_other.ensures)

pub returns-in-None : goal.returns-in-None
returns-in-None c =
    subst (λ (o : Option ℕ). IfOk c.alone.result (λ v. v ≡ other_class c.args.plan.now.pips c.args.pip c.args.deed c.args.path.now o))
    c.in-None.ensures.least c.alone.ensures
