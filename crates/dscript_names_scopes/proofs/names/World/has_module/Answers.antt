use Rattle.std.proofs.Common.{ap, ◌∙◌}
use Rattle.std.proofs.lemmas.Iterator.Adapters.{position_from-zero}
use Rattle.std.specs.Option.{is_some}
use Rattle.std.specs.Str.{bytes_eq}
use Rattle.dscript_names_scopes.proofs.Placed.{any_placed}
use Rattle.dscript_names_scopes.proofs.names.World.has_module.Goals as goal

pub returns : goal.returns
returns c =
    let x = c.args.name.now in
    c.is_some.ensures ∙ ap is_some (c.module_number.ensures ∙ position_from-zero (bytes_eq x) c.args.self.now.modules)
    ∙ any_placed (bytes_eq x) 0 c.args.self.now.modules
