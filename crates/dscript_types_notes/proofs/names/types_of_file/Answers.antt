use Rattle.std.proofs.Common.{◌∙◌, sym}
use Rattle.dscript_program.specs.Views.{decl_data}
use Rattle.dscript_types_notes.proofs.FirstTypes.{number_passed, number_put}
use Rattle.dscript_types_notes.proofs.Listed.{counted_last, mapped_last}
use Rattle.dscript_types_notes.proofs.names.types_of_file.Goals as goal

pub last-preserved-in_ok-insert : goal.last-preserved-in_ok-insert
last-preserved-in_ok-insert c = λ name.
    number_put _ _ (decl_data c.in-Some.decl.now) c.in_ok-name_of.field-0 name _ _ _ _
    (mapped_last decl_data _ _ _ c.in-Some.ensures.cases.0) (sym c.is_type.ensures ∙ c.if-is_type.true) c.in_ok-name_of.ensures
    (c.in_ok-number.ensures ∙ counted_last decl_data c.in-Some.before.now)
    (c.in_ok-insert.ensures.updates.0 name) (c.last.invariant name)

pub last-preserved : goal.last-preserved
last-preserved c = λ name.
    number_passed _ _ (decl_data c.in-Some.decl.now) name _ _
    (mapped_last decl_data _ _ _ c.in-Some.ensures.cases.0) (sym c.is_type.ensures ∙ c.if-is_type.false) (c.last.invariant name)
