use Rattle.std.proofs.Common.{◌≡◌, List, arith, refl, subst, sym}
use Rattle.std.proofs.lemmas.List.{take_all}
use Rattle.std.proofs.lemmas.Result.{err_from_is_err_and}
use Rattle.bx_tree.specs.Views.{files_of}
use Rattle.bx_tree.specs.declared.tree_file.TreeFile.{TreeFile}
use Rattle.bundle_folder.specs.Folders.{with_files}
use Rattle.bundle_folder.proofs.Ends.{made_more, stop_at}
use Rattle.bundle_folder.proofs.Free.{with_none}
use Rattle.bundle_folder.proofs.Rising.{cause_since, no_answer}
use Rattle.bundle_folder.proofs.unpacking.make_files.Goals as goal

pub files-init : goal.files-init
files-init g c = record { made = sym (with_none (g.F.Folder.holds c.args.folder.now)); later = omega arith }

pub files-preserved : goal.files-preserved
files-preserved g c = record {
  made = made_more (g.F.Folder.holds c.args.folder.now) _ _ c.args.files.now c.files.made c.index-files-made.result
      c.files-test.true c.index-files-made.is c.files.invariant.made c.in_ok-make_file.ensures.made;
  later = omega (arith, c.files.invariant.later, c.in_ok-make_file.ensures.cause.later);
}

pub returns-in_err-make_file-clause-fault : goal.returns-in_err-make_file-clause-fault
returns-in_err-make_file-clause-fault g c =
    let p = err_from_is_err_and c.from_residual.result c.from_residual.ensures.1 in
    rw (p.1, p.2) (stop_at (g.F.Folder.holds c.args.folder.now) _ _ c.args.files.now c.files.made c.index-files-made.result
    c.in_err-make_file.field-0.0 c.files-test.true c.index-files-made.is c.requires.tree c.requires.free
    c.files.invariant.made c.in_err-make_file.ensures.refused c.in_err-make_file.ensures.fault)

pub returns-in_err-make_file-clause-cause : goal.returns-in_err-make_file-clause-cause
returns-in_err-make_file-clause-cause g c =
    let p = err_from_is_err_and c.from_residual.result c.from_residual.ensures.1 in
    rw (p.1, p.2) (cause_since _ _ _ c.files.invariant.later c.in_err-make_file.ensures.cause)

pub returns-clause-made : goal.returns-clause-made
returns-clause-made g c = (
  refl,
  subst (λ (fs : List TreeFile). g.F.Folder.holds c.files.folder ≡ with_files (g.F.Folder.holds c.args.folder.now) (files_of fs))
      (take_all c.files.made c.args.files.now c.files-test.false) c.files.invariant.made,
)

pub returns-clause-cause : goal.returns-clause-cause
returns-clause-cause g c = no_answer _ _ c.files.invariant.later (λ x. x)
