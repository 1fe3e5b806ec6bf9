use Rattle.std.proofs.Common.{List, map, subst}
use Rattle.dscript_program.specs.ProgramData.{FileData}
use Rattle.dscript_program.specs.Views.{decl_data, file_data}
use Rattle.dscript_program.specs.declared.program.BoundDecl.{BoundDecl}
use Rattle.dscript_types_notes.specs.Names.{HasTypesOf}
use Rattle.dscript_types_notes.proofs.Listed.{all_zipped, zipped_next}
use Rattle.dscript_types_notes.proofs.names.types_of_files.Goals as goal

pub files-preserved : goal.files-preserved
files-preserved c =
    zipped_next (λ (f : FileData) types. HasTypesOf f.decls types) file_data c.args.files.now c.files.file-index c.file-item.result
    c.files.all.items c.in_ok-types_of_file.field-0 c.push.new.self.items c.files-test.true c.file-item.is
    c.in_ok-push.ensures.items
    (subst (λ (ds : List BoundDecl). HasTypesOf (map decl_data ds) c.in_ok-types_of_file.field-0) c.as_slice.ensures.value c.in_ok-types_of_file.ensures)
    c.files.invariant

pub returns : goal.returns
returns c =
    all_zipped (λ (f : FileData) types. HasTypesOf f.decls types) file_data c.args.files.now c.files.file-index c.files.all.items
    c.files-test.false c.files.invariant
