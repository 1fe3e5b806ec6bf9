use Rattle.std.proofs.Common.{◌∙◌, ap, arith, length, sym}
use Rattle.std.proofs.lemmas.List.{length-map}
use Rattle.dscript_program.specs.Views.{file_data}
use Rattle.dscript_types_meaning.specs.Typed.{is_typed_file}
use Rattle.dscript_types_notes.specs.Means.{program_of}
use Rattle.dscript_types.proofs.Judged.{file_decls, typed_all, typed_more, untyped_first}
use Rattle.dscript_types.proofs.verdicts.first_untyped.Goals as goal

pub checked-init : goal.checked-init
checked-init c = λ earlier l. absurd (omega (arith, l))

pub returns : goal.returns
returns c =
    typed_all (program_of c.args.world.now) c.checked.place
    (omega (
      arith,
      c.checked-test.false,
      ap (λ fs. length fs) c.files-files.ensures,
      length-map c.args.world.now.program.now.files.items file_data,
    ))
    c.checked.invariant

pub checked-preserved : goal.checked-preserved
checked-preserved c =
    typed_more (program_of c.args.world.now) c.checked.place
    (sym (c.in_ok-typed.ensures ∙ ap (is_typed_file (program_of c.args.world.now)) c.in_ok-number.ensures) ∙ c.if-not-typed.false)
    c.checked.invariant

pub returns-then-not-typed : goal.returns-then-not-typed
returns-then-not-typed c =
    untyped_first c.args.world.now.program.now _ c.files-files.ensures c.checked.place c.index-files-place.result c.checked-test.true
    c.index-files-place.is
    (sym (c.in_ok-typed.ensures ∙ ap (is_typed_file (program_of c.args.world.now)) c.in_ok-number.ensures) ∙ c.if-not-typed.true)
    c.checked.invariant

pub is_typed-requires : goal.is_typed-requires
is_typed-requires c = record {
  sound = c.requires.sound;
  full = c.requires.full;
  reach = c.requires.reach;
  there = file_decls c.args.world.now.program.now _ c.files-files.ensures c.checked.place c.index-files-place.result c.checked-test.true
      c.index-files-place.is _ c.in_ok-number.ensures _ c.as_slice.ensures.value;
}
