use Rattle.std.proofs.Common.{◌≡◌, [], Option, ap, arith, length, sym, ◌∙◌}
use Rattle.std.proofs.lemmas.Bool.Decides.{nat_tests}
use Rattle.std.specs.Option.{option_map, option_or}
use Rattle.bx_tree.proofs.Lists.{none_left}
use Rattle.dscript_program.specs.ProgramData.{Dotted}
use Rattle.dscript_types_meaning.specs.Lookups.{Place, found_type, module_at, shortest}
use Rattle.dscript_types_notes.specs.Found.{found_data, found_in}
use Rattle.dscript_types_notes.specs.Means.{program_of}
use Rattle.dscript_types_notes.specs.declared.spaces.FoundType.{FoundType}
use Rattle.dscript_types_notes.specs.declared.spaces.Space.TheVariants as spaces
use Rattle.dscript_types_notes.proofs.Going.{if_ok}
use Rattle.dscript_types_notes.proofs.Naming.{found_by}
use Rattle.dscript_types_notes.proofs.Shorter.{out_alone}
use Rattle.dscript_types_notes.proofs.spaces.found_type.Goals as goal

pub returns-then-written-eq1 : goal.returns-then-written-eq1
returns-then-written-eq1 c =
    let w = c.args.world.now in
    let written = c.args.written.now in
    let in_file = found_in w.names.now (spaces.File c.args.file) in
    let empty = c.if-is_empty.ensures in
    let none : length c.args.before.now ≡ 0 = grind (arith, nat_tests) in
    if_ok
    (λ (found : Option FoundType). option_map found_data found
    ≡ option_or (shortest in_file [] written) (shortest (found_in w.names.now (spaces.Module c.module_of.result)) [] written))
    (λ (found : Option FoundType). option_map found_data found
    ≡ found_type (program_of w) c.args.file c.args.before.now written)
    c.found_alone.result
    (λ found is.
    is
    ∙ ap (λ m. option_or (shortest in_file [] written) (shortest (found_in w.names.now (spaces.Module m)) [] written)) c.module_of.ensures
    ∙ ap
    (λ (o : Option (Place × Dotted)). option_or o (shortest (found_in w.names.now (spaces.Module (module_at (program_of w) c.args.file))) [] written))
    (sym (out_alone in_file written c.args.before.now (none_left c.args.before.now none)))
    ∙ found_by (program_of w) w.names.now c.requires c.args.file c.args.before.now written)
    c.found_alone.ensures
