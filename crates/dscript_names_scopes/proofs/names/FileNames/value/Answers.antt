use Rattle.std.proofs.Common.{ℕ, List, length, ap, sym, ◌∙◌, arith}
use Rattle.dscript_names_scopes.specs.Declarations.{is_any}
use Rattle.dscript_names_scopes.specs.Lookup.{value_in}
use Rattle.dscript_names_scopes.specs.Names.{FileNames}
use Rattle.dscript_names_scopes.proofs.Longest.{none_longer}
use Rattle.dscript_names_scopes.proofs.names.FileNames.value.Goals as goal

pub returns-then-parts-self : goal.returns-then-parts-self
returns-then-parts-self c =
    let many = c.if-parts-self.true in
    let long = ap (λ (name : List (List ℕ)). length name) c.parts.ensures in
    sym (ap (λ (file : FileNames). value_in is_any file c.args.name.now) (sym c.self.view_is)
    ∙ none_longer is_any c.args.name.now c.self.inside.longest 0 c.self.inside.decls.items c.self.invariant.longest (omega (arith, many, long)))
