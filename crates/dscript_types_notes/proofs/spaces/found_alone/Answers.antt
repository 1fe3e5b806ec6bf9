use Rattle.std.proofs.Common.{[], ap, sym, ◌∙◌}
use Rattle.std.specs.Option.{option_map}
use Rattle.dscript_types_notes.specs.Found.{found_data, found_in}
use Rattle.dscript_types_notes.specs.declared.spaces.Space.TheVariants as spaces
use Rattle.dscript_types_meaning.specs.Lookups.{shortest}
use Rattle.dscript_types_notes.proofs.Shorter.{or_first, or_second, shortest_alone}
use Rattle.dscript_types_notes.proofs.spaces.found_alone.Goals as goal

pub returns-in-Some : goal.returns-in-Some
returns-in-Some c =
    or_first _ (shortest (found_in c.args.names.now (spaces.Module c.args.owner)) [] c.args.written.now) _
    (sym (ap (option_map found_data) c.in-Some.is) ∙ c.found_whole.ensures
    ∙ shortest_alone (found_in c.args.names.now (spaces.File c.args.file)) _ c.args.written.now c.in_ok-name.ensures c.requires)

pub returns : goal.returns
returns c =
    or_second _ (shortest (found_in c.args.names.now (spaces.Module c.args.owner)) [] c.args.written.now) _
    (sym (ap (option_map found_data) c.in_default.is) ∙ c.found_whole.ensures
    ∙ shortest_alone (found_in c.args.names.now (spaces.File c.args.file)) _ c.args.written.now c.in_ok-name.ensures c.requires)
    (c.found_whole-2.ensures
    ∙ shortest_alone (found_in c.args.names.now (spaces.Module c.args.owner)) _ c.args.written.now c.in_ok-name.ensures c.requires)
