use Rattle.std.proofs.Common.{Some, ap, ◌∙◌}
use Rattle.std.specs.List.{list_any}
use Rattle.dscript_names_scopes.specs.Names.{World}
use Rattle.dscript_names_scopes.specs.Lookup.{opens}
use Rattle.dscript_names_scopes.proofs.names.World.opens.Goals as goal

pub returns : goal.returns
returns c =
    c.has.ensures ∙ c.self.invariant.namespaces c.args.number c.args.name.now
    ∙ ap (λ (w : World). list_any (opens c.args.name.now (Some c.args.number)) w.files) c.self.view_is
