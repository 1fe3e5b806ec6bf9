use Rattle.std.proofs.Common.{sym, ◌∙◌}
use Rattle.dscript_names_scopes.proofs.Outwards.{found_here}
use Rattle.dscript_names_scopes.proofs.lookup.in_namespaces.Goals as goal

pub returns-in-Some : goal.returns-in-Some
returns-in-Some c =
    sym (sym c.outwards.invariant ∙ found_here c.args.site.now.number c.args.site.now.file.now c.outwards.around.now
    c.args.written.now c.in-Some.found (sym c.in-Some.is ∙ c.in_ok-found.ensures))
