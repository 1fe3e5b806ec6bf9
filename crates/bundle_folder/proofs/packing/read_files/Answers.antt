use Rattle.std.proofs.Common.{◌≡◌, ◌+◌, ◌++◌, ◌∷◌, ◌<◌, ◌≤◌, List, [], ℕ, arith, length, subst, sym, take, ◌∙◌}
use Rattle.std.specs.Prelude.{sum_by}
use Rattle.std.specs.List.{All}
use Rattle.std.proofs.lemmas.List.Elements.{All-push}
use Rattle.std.proofs.lemmas.Result.{err_from_is_err_and}
use Rattle.bx_tree.specs.Paths.{Atoms}
use Rattle.bx_tree.specs.Trees.{paths_of}
use Rattle.bx_tree.specs.Views.{files_of}
use Rattle.bx_tree.specs.declared.limits.TheConstants.{MAX_BUNDLE_BYTES, MAX_FILE_BYTES}
use Rattle.bx_tree.specs.declared.tree_file.TreeFile.{TreeFile}
use Rattle.bundle_folder.specs.Steps.{AreRead}
use Rattle.bundle_folder.proofs.Held.{long_text, paths_step, read_step, size_step}
use Rattle.bundle_folder.proofs.packing.read_files.Goals as goal

pub returns-in_err-file-clause-fault : goal.returns-in_err-file-clause-fault
returns-in_err-file-clause-fault g c =
    let p = err_from_is_err_and c.from_residual.result c.from_residual.ensures.1 in
    let path = c.path-item.result in
    rw (p.1, p.2) (λ nodes e left_out are.
    c.in_err-file.ensures.fault nodes (c.paths.invariant.same ∙ e) left_out
    (are.held path (c.paths.path-index, c.paths-test.true, sym c.path-item.is)))

pub returns-then-size-gt-MAX_BUNDLE_BYTES-clause-fault : goal.returns-then-size-gt-MAX_BUNDLE_BYTES-clause-fault
returns-then-size-gt-MAX_BUNDLE_BYTES-clause-fault g c nodes e left_out are =
    let i = c.paths.path-index in
    let files = c.paths.files.items in
    let file = c.in_ok-file.file in
    let path = c.path-item.result in
    let long : MAX_BUNDLE_BYTES < sum_by (λ (f : Atoms × List ℕ). length f.1) (files_of (files ++ file ∷ [])) =
    omega (arith, size_step files file c.paths.size c.paths.invariant.size) in
    long_text left_out nodes c.args.paths.now (files ++ file ∷ []) (i + 1) are
    (paths_step files file c.args.paths.now i path c.paths-test.true c.paths.invariant.paths (sym c.path-item.is) c.in_ok-file.ensures.path)
    (read_step nodes files file path (c.paths.invariant.held nodes e) c.in_ok-file.ensures.path
    (c.in_ok-file.ensures.held nodes (c.paths.invariant.same ∙ e))) long

pub paths-preserved : goal.paths-preserved
paths-preserved g c =
    let i = c.paths.path-index in
    let files = c.paths.files.items in
    let file = c.in_ok-file.file in
    let path = c.path-item.result in
    let pushed : c.push.new.self.items ≡ files ++ file ∷ [] = c.in_ok-push.ensures.items in
    record {
      paths = subst (λ (fs : List TreeFile). paths_of (files_of fs) ≡ take (i + 1) c.args.paths.now) (sym pushed)
          (paths_step files file c.args.paths.now i path c.paths-test.true c.paths.invariant.paths (sym c.path-item.is)
          c.in_ok-file.ensures.path);
      sizes = subst (λ (fs : List TreeFile). All (λ (f : TreeFile). length f.bytes.items ≤ MAX_FILE_BYTES) fs) (sym pushed)
          (All-push (λ (f : TreeFile). length f.bytes.items ≤ MAX_FILE_BYTES) files file c.paths.invariant.sizes
          c.in_ok-file.ensures.size);
      held = λ nodes e. subst (AreRead nodes) (sym pushed)
          (read_step nodes files file path (c.paths.invariant.held nodes e) c.in_ok-file.ensures.path
          (c.in_ok-file.ensures.held nodes (c.paths.invariant.same ∙ e)));
      size = subst (λ (fs : List TreeFile). c.paths.size + c.len-size.result ≡ sum_by (λ (f : Atoms × List ℕ). length f.1) (files_of fs))
          (sym pushed)
          (omega (arith, size_step files file c.paths.size c.paths.invariant.size));
      bound = omega arith;
      same = c.in_ok-file.ensures.same ∙ c.paths.invariant.same;
      later = omega (arith, c.paths.invariant.later, c.in_ok-file.ensures.cause.later);
    }
