use Rattle.std.proofs.Common.{◌∙◌}
use Rattle.dscript_program.specs.Views.{file_data}
use Rattle.dscript_types_notes.proofs.FirstTypes.{file_put}
use Rattle.dscript_types_notes.proofs.Listed.{counted_last, mapped_last}
use Rattle.dscript_types_notes.proofs.names.types_of_modules.Goals as goal

pub last-preserved : goal.last-preserved
last-preserved c = λ m name.
    file_put m _ _ _ (file_data c.in-Some.file.now) name _ _ _
    (mapped_last file_data _ _ _ c.in-Some.ensures.cases.0)
    (c.in_ok-number.ensures ∙ counted_last file_data c.in-Some.before.now)
    (c.in_ok-add_file.ensures m name) (c.last.invariant m name)
