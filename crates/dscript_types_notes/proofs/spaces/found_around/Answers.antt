use Rattle.std.proofs.Common.{◌≡◌, [], Option, ap, sym, ◌∙◌}
use Rattle.std.specs.Option.{option_map, option_or}
use Rattle.dscript_program.specs.ProgramData.{Dotted}
use Rattle.dscript_types_meaning.specs.Lookups.{Place, found_type, module_at, shortest}
use Rattle.dscript_types_notes.specs.Found.{found_data, found_in}
use Rattle.dscript_types_notes.specs.Means.{program_of}
use Rattle.dscript_types_notes.specs.declared.spaces.FoundType.{FoundType}
use Rattle.dscript_types_notes.specs.declared.spaces.Space.TheVariants as spaces
use Rattle.dscript_types_notes.proofs.Going.{if_ok}
use Rattle.dscript_types_notes.proofs.Naming.{found_by}
use Rattle.dscript_types_notes.proofs.spaces.found_around.Goals as goal

pub returns-in-Some : goal.returns-in-Some
returns-in-Some c =
    let w = c.args.world.now in
    let others : Option (Place × Dotted) =
    shortest (found_in w.names.now (spaces.Module (module_at (program_of w) c.args.file))) [] c.args.written.now in
    ap (λ (o : Option (Place × Dotted)). option_or o others) (sym (ap (option_map found_data) c.in-Some.is) ∙ c.in_ok-found.ensures)
    ∙ found_by (program_of w) w.names.now c.requires c.args.file c.args.before.now c.args.written.now

pub returns : goal.returns
returns c =
    let w = c.args.world.now in
    let others : Option (Place × Dotted) =
    shortest (found_in w.names.now (spaces.Module (module_at (program_of w) c.args.file))) [] c.args.written.now in
    if_ok
    (λ (found : Option FoundType). option_map found_data found
    ≡ shortest (found_in w.names.now (spaces.Module c.module_of.result)) [] c.args.written.now)
    (λ (found : Option FoundType). option_map found_data found
    ≡ found_type (program_of w) c.args.file c.args.before.now c.args.written.now)
    c.shortest.result
    (λ found is.
    is ∙ ap (λ m. shortest (found_in w.names.now (spaces.Module m)) [] c.args.written.now) c.module_of.ensures
    ∙ ap (λ (o : Option (Place × Dotted)). option_or o others) (sym (ap (option_map found_data) c.in_default.is) ∙ c.in_ok-found.ensures)
    ∙ found_by (program_of w) w.names.now c.requires c.args.file c.args.before.now c.args.written.now)
    c.shortest.ensures
