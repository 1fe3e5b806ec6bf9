use Rattle.std.proofs.Common.{ap, refl, sym, ◌∙◌}
use Rattle.std.specs.Prelude.{Some}
use Rattle.std.specs.List.{list_any}
use Rattle.std.specs.Ordering.{is_eq, nat_cmp}
use Rattle.std.specs.Cmp.Lexicographic.{slice_cmp}
use Rattle.dscript_names_workspace.specs.PathSets.{has_name}
use Rattle.dscript_names_workspace.specs.Workspaces.{is_used}
use Rattle.dscript_names_workspace.proofs.FirstNames.{fault_here, fault_later, first_name, used_more, was_new, was_there}
use Rattle.dscript_names_workspace.proofs.module_file.name_fault.Goals as goal

pub modules-init : goal.modules-init
modules-init c = record {
  used = λ name.
      first_name c.as_slice.result.now name.now (has_name c.insert.new.self name) (has_name c.new-used.result name)
      c.as_slice.ensures (c.in_ok-insert.ensures.updates.0 name)
      (ap (list_any (λ other. is_eq (slice_cmp nat_cmp name.now other.now))) c.new-used.ensures.empty);
  rest = refl;
}

pub returns-then-not-branch : goal.returns-then-not-branch
returns-then-not-branch c =
    let used = was_there (has_name c.modules.used c.bytes.result) c.in_ok-insert-2.field-0 c.in_ok-insert-2.ensures.added
    c.if-not-branch.true in
    ap Some c.in_ok-fault.ensures
    ∙ fault_here c.args.modules.now c.modules.module-index c.module-item.result c.modules-test.true c.module-item.is
    (ap (is_used _) (sym c.bytes.ensures) ∙ sym (c.modules.invariant.used c.bytes.result) ∙ used)
    ∙ c.modules.invariant.rest

pub modules-preserved : goal.modules-preserved
modules-preserved c =
    let unused = was_new (has_name c.modules.used c.bytes.result) c.in_ok-insert-2.field-0 c.in_ok-insert-2.ensures.added
    c.if-not-branch.false in
    record {
      used = λ name.
          used_more c.args.modules.now c.modules.module-index c.module-item.result c.bytes.result.now name.now
          (has_name c.insert-in-modules.new.self name) (has_name c.modules.used name) c.modules-test.true c.module-item.is
          c.bytes.ensures (c.in_ok-insert-2.ensures.updates.0 name) (c.modules.invariant.used name);
      rest =
          fault_later c.args.modules.now c.modules.module-index c.module-item.result c.modules-test.true c.module-item.is
          (ap (is_used _) (sym c.bytes.ensures) ∙ sym (c.modules.invariant.used c.bytes.result) ∙ unused)
          ∙ c.modules.invariant.rest;
    }
