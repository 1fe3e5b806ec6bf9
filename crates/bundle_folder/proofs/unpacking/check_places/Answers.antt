use Rattle.std.proofs.Common.{List, arith, refl, subst, ◌∙◌}
use Rattle.std.proofs.lemmas.List.{take_all}
use Rattle.std.proofs.lemmas.Result.{err_from_is_err_and}
use Rattle.bx_tree.specs.Views.{files_of}
use Rattle.bx_tree.specs.declared.tree_file.TreeFile.{TreeFile}
use Rattle.bundle_folder.specs.Folders.{Known}
use Rattle.bundle_folder.specs.Unpacking.{AreFreeBut, IsWayFault}
use Rattle.bundle_folder.proofs.Ends.{free_but_more, has_path}
use Rattle.bundle_folder.proofs.Rising.{cause_since, no_answer}
use Rattle.bundle_folder.proofs.unpacking.check_places.Goals as goal

pub files-init : goal.files-init
files-init g c = record {
  free = λ nodes e path h. absurd (omega (arith, h.1));
  same = refl;
  later = omega arith;
}

pub files-preserved : goal.files-preserved
files-preserved g c = record {
  free = λ nodes e. free_but_more c.args.replace nodes c.args.files.now c.files.file-index c.file-item.result
      c.files-test.true c.file-item.is (c.files.invariant.free nodes e)
      (c.in_ok-check_file.ensures.free nodes (c.files.invariant.same ∙ e));
  same = c.in_ok-check_file.ensures.same ∙ c.files.invariant.same;
  later = omega (arith, c.files.invariant.later, c.in_ok-check_file.ensures.cause.later);
}

pub returns-in_err-check_file-clause-fault : goal.returns-in_err-check_file-clause-fault
returns-in_err-check_file-clause-fault g c =
    let p = err_from_is_err_and c.from_residual.result c.from_residual.ensures.1 in
    let file = c.file-item.result in
    rw (p.1, p.2) (
      file.path,
      has_path c.args.files.now c.files.file-index file c.files-test.true c.file-item.is,
      c.in_err-check_file.ensures.asked,
      subst (λ h. IsWayFault h file.path c.in_err-check_file.field-0.0) c.files.invariant.same c.in_err-check_file.ensures.fault,
    )

pub returns-in_err-check_file-clause-same : goal.returns-in_err-check_file-clause-same
returns-in_err-check_file-clause-same g c = c.in_err-check_file.ensures.same ∙ c.files.invariant.same

pub returns-in_err-check_file-clause-cause : goal.returns-in_err-check_file-clause-cause
returns-in_err-check_file-clause-cause g c =
    let p = err_from_is_err_and c.from_residual.result c.from_residual.ensures.1 in
    rw (p.1, p.2) (cause_since _ _ _ c.files.invariant.later c.in_err-check_file.ensures.cause)

pub returns-clause-free : goal.returns-clause-free
returns-clause-free g c =
    subst (λ (fs : List TreeFile). Known (g.F.Folder.holds c.args.folder.now) (λ nodes. AreFreeBut c.args.replace nodes (files_of fs)))
    (take_all c.files.file-index c.args.files.now c.files-test.false) c.files.invariant.free

pub returns-clause-same : goal.returns-clause-same
returns-clause-same g c = c.files.invariant.same

pub returns-clause-cause : goal.returns-clause-cause
returns-clause-cause g c = no_answer _ _ c.files.invariant.later (λ x. x)
