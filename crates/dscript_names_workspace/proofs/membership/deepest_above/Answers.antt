use Rattle.std.proofs.Common.{sym, ◌∙◌, subst}
use Rattle.dscript_names_workspace.specs.PathSets.{has}
use Rattle.dscript_names_workspace.proofs.Deepest.{IsUpTo, found, goes_up, nowhere, starts}
use Rattle.dscript_names_workspace.proofs.membership.deepest_above.Goals as goal

pub dirs-init : goal.dirs-init
dirs-init c = starts (has c.args.dirs.now) c.args.path.now c.in_ok-next.next c.in_ok-next.ensures

pub returns-then-contains : goal.returns-then-contains
returns-then-contains c =
    found (has c.args.dirs.now) c.args.path.now c.in-Some.dir
    (subst (IsUpTo (has c.args.dirs.now) c.args.path.now) c.in-Some.is c.dirs.invariant) (sym c.contains.ensures ∙ c.if-contains.true)

pub dirs-preserved : goal.dirs-preserved
dirs-preserved c =
    goes_up (has c.args.dirs.now) c.args.path.now c.in-Some.dir c.in_ok-next-2.next
    (subst (IsUpTo (has c.args.dirs.now) c.args.path.now) c.in-Some.is c.dirs.invariant) (sym c.contains.ensures ∙ c.if-contains.false)
    c.in_ok-next-2.ensures

pub returns : goal.returns
returns c =
    nowhere (has c.args.dirs.now) c.args.path.now
    (subst (IsUpTo (has c.args.dirs.now) c.args.path.now) c.in_default.is c.dirs.invariant)
