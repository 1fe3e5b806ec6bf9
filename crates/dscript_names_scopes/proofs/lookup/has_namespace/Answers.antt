use Rattle.std.proofs.Common.{ap, sym, ◌∙◌}
use Rattle.std.specs.Str.{bytes_eq}
use Rattle.dscript_program.specs.Workspaces.{sdk_name}
use Rattle.dscript_names_scopes.proofs.Outwards.{no_namespace}
use Rattle.dscript_names_scopes.proofs.lookup.has_namespace.Goals as goal

pub returns-in-None : goal.returns-in-None
returns-in-None c =
    sym (no_namespace c.args.world.now c.args.module_name.now c.args.name.now
    (ap (λ t. bytes_eq t sdk_name) (sym c.bytes.ensures)
    ∙ ap (λ t. bytes_eq c.bytes.result.now t) (sym c.as_slice.ensures) ∙ sym c.eq.ensures ∙ c.if-eq.false)
    (sym c.module_number.ensures ∙ c.in-None.is))
