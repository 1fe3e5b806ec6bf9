use Rattle.std.proofs.Common.{◌≡◌, MatchResult, None, Some, sym, ◌∙◌, subst}
use Rattle.std.proofs.lemmas.Bool.{false≢true}
use Rattle.bx_tree.specs.declared.path.PathFault.TheVariants.{BadPath}
use Rattle.dscript_sdk_members.proofs.JoinedPaths.{with_last-atom, with_last-other}
use Rattle.dscript_sdk_members.proofs.path_members.with_last.Goals as goal

pub returns-then-not-is_atom : goal.returns-then-not-is_atom
returns-then-not-is_atom c e =
    with_last-other c.args.path.now c.args.atom.now (λ h. false≢true (sym c.if-not-is_atom.true ∙ c.is_atom.ensures.1 h))

pub returns-in-Ok-Some : goal.returns-in-Ok-Some
returns-in-Ok-Some c =
    let e =
    with_last-atom c.args.path.now c.in-Ok-Some.dir c.args.atom.now (c.is_atom.ensures.0 c.if-not-is_atom.false)
    (c.in-Ok-Some.ensures ∙ c.in-Ok-Some.field-0-is) in
    subst (λ o. MatchResult c.join.result (λ to. o ≡ Some to) (λ fault. fault ≡ BadPath → o ≡ None)) (sym e) c.join.ensures
