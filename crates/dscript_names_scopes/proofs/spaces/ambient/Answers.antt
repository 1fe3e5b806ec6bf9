use Rattle.std.proofs.Common.{ap, sym, ◌∙◌}
use Rattle.std.specs.Option.{option_map}
use Rattle.dscript_program.specs.declared.target.Target.TheVariants as targets
use Rattle.dscript_names_scopes.proofs.AmbientCalls.{find_named}
use Rattle.dscript_names_scopes.proofs.spaces.ambient.Goals as goal

pub returns-in-Some : goal.returns-in-Some
returns-in-Some c =
    sym (ap (option_map targets.Ambient)
    (find_named c.in-Some.call _ (c.in-Some.ensures ∙ c.as_slice.ensures.value ∙ c.in_ok-text.ensures)))
