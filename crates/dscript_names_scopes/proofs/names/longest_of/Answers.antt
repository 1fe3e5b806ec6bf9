use Rattle.std.proofs.Common.{ℕ, List, length, ap, subst, take_all, arith}
use Rattle.dscript_names_scopes.specs.Tables.{AreWithin}
use Rattle.dscript_names_scopes.proofs.Longest.{within_more}
use Rattle.dscript_names_scopes.proofs.names.longest_of.Goals as goal

pub decls-preserved : goal.decls-preserved
decls-preserved c =
    let same = ap (λ (name : List (List ℕ)). length name) c.parts.ensures in
    let most = c.greater-longest.ensures.second in
    within_more c.args.decls.now c.decls.decl-index c.decls.longest c.greater-longest.result c.decl-item.result c.decls-test.true c.decl-item.is
    c.decls.invariant c.greater-longest.ensures.first (omega (arith, same, most))

pub returns : goal.returns
returns c = subst (AreWithin c.decls.longest) (take_all c.decls.decl-index c.args.decls.now c.decls-test.false) c.decls.invariant
