use Rattle.std.proofs.Common.{ap, ◌∙◌}
use Rattle.dscript_names_scopes.specs.Names.{World}
use Rattle.dscript_names_scopes.specs.Lookup.{module_number}
use Rattle.dscript_names_scopes.proofs.Placed.{text_placed}
use Rattle.dscript_names_scopes.proofs.names.World.module_number.Goals as goal

pub returns : goal.returns
returns c =
    let x = c.args.name.now in
    c.place.ensures ∙ c.self.invariant.numbers x ∙ text_placed x c.self.inside.modules.items
    ∙ ap (λ (w : World). module_number w x) c.self.view_is
