use Rattle.std.proofs.Common.{ap, sym, ◌∙◌}
use Rattle.std.specs.Prelude.{option_map}
use Rattle.dscript_program.specs.SpecFaults.{fault_data}
use Rattle.dscript_names_workspace.specs.PathSets.{has}
use Rattle.dscript_names_workspace.proofs.FirstFaults.{fault_here, fault_later, taken_more}
use Rattle.dscript_names_workspace.proofs.module_file.file_fault.Goals as goal

pub returns-in-Some : goal.returns-in-Some
returns-in-Some c =
    fault_here c.args.all.now c.files.module_file-index c.module_file-item.result (has c.files.taken)
    (fault_data c.in-Some.fault) c.files-test.true c.module_file-item.is c.files.invariant.taken
    (ap (option_map fault_data) (sym c.in-Some.is) ∙ c.in_ok-fault.ensures)
    ∙ c.files.invariant.rest

pub files-preserved : goal.files-preserved
files-preserved c = record {
  taken = λ path.
      taken_more c.args.all.now c.files.module_file-index c.module_file-item.result path (has c.files.taken path)
      (has c.take_files.new.taken path) c.files-test.true c.module_file-item.is (c.in_ok-take_files.ensures path)
      (c.files.invariant.taken path);
  rest =
      fault_later c.args.all.now c.files.module_file-index c.module_file-item.result (has c.files.taken) c.files-test.true
      c.module_file-item.is c.files.invariant.taken (ap (option_map fault_data) (sym c.in_default.is) ∙ c.in_ok-fault.ensures)
      ∙ c.files.invariant.rest;
}
