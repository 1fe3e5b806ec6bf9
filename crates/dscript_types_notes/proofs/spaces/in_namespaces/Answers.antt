use Rattle.std.proofs.Common.{ap, sym, ◌∙◌}
use Rattle.std.specs.Option.{option_map}
use Rattle.dscript_types_notes.specs.Found.{found_data, found_in}
use Rattle.dscript_types_notes.specs.declared.spaces.Space.TheVariants as spaces
use Rattle.dscript_types_notes.proofs.Shorter.{out_further, out_here}
use Rattle.dscript_types_notes.proofs.spaces.in_namespaces.Goals as goal

pub returns-in-Some : goal.returns-in-Some
returns-in-Some c =
    out_here (found_in c.args.names.now (spaces.File c.args.file)) c.args.written.now c.outwards.around.now _ _
    (sym c.in_ok-found.ensures ∙ ap (option_map found_data) c.in-Some.is) c.outwards.invariant

pub outwards-preserved : goal.outwards-preserved
outwards-preserved c =
    out_further (found_in c.args.names.now (spaces.File c.args.file)) c.args.written.now c.outwards.around.now _ _ _
    c.in-Some-split_last.ensures.cases.0 (sym (ap (option_map found_data) c.in_default.is) ∙ c.in_ok-found.ensures) c.outwards.invariant
