use Rattle.std.proofs.Common.{length, ap, arith}
use Rattle.std.proofs.lemmas.List.{length-map}
use Rattle.dscript_program.specs.Views.{file_data, program_data}
use Rattle.dscript_types.proofs.Judged.{file_decls, file_seen, file_size}
use Rattle.dscript_types.proofs.Looking.{files_begin, files_end, files_go}
use Rattle.dscript_types.proofs.finding.Finder.pass.Goals as goal

pub looked-init : goal.looked-init
looked-init c = files_begin (program_data c.args.self.now.program.now) _ _ c.requires.right

pub returns : goal.returns
returns c =
    files_end (program_data c.args.self.now.program.now) _ _ c.looked.file c.looked.table c.looked.visits
    (omega (
      arith,
      c.looked-test.false,
      ap (λ fs. length fs) c.files-files.ensures,
      length-map c.args.self.now.program.now.files.items file_data,
    ))
    c.in_ok-visits.ensures.none c.looked.invariant

pub look_at_file-requires : goal.look_at_file-requires
look_at_file-requires c = record {
  ready = c.requires.ready;
  right = c.looked.invariant.looks.right;
  there = file_decls c.args.self.now.program.now _ c.files-files.ensures c.looked.file c.index-files-file.result c.looked-test.true
      c.index-files-file.is _ c.in_ok-number.ensures _ c.as_slice.ensures.value;
  size = file_size c.args.self.now.program.now _ c.files-files.ensures c.looked.file c.index-files-file.result c.looked-test.true
      c.index-files-file.is _ c.in_ok-number.ensures _ c.as_slice.ensures.value c.looked.visits c.in_ok-visits.visits c.looked.invariant.looks.size c.in_ok-visits.ensures.size;
}

pub looked-preserved : goal.looked-preserved
looked-preserved c =
    files_go (program_data c.args.self.now.program.now) _ _ c.looked.file _ _ _ _ c.looked.invariant c.in_ok-look_at_file.ensures.over
    (file_seen c.args.self.now.program.now _ c.files-files.ensures c.looked.file c.index-files-file.result c.looked-test.true
    c.index-files-file.is _ c.in_ok-number.ensures _ c.as_slice.ensures.value c.look_at_file.new.visits c.in_ok-look_at_file.ensures.seen)
