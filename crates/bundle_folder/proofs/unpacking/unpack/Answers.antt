use Rattle.std.proofs.Common.{◌∙◌, ap, subst, sym}
use Rattle.std.specs.Prelude.{Contains}
use Rattle.std.proofs.lemmas.Result.{err_from_is_err_and}
use Rattle.bx_tree.specs.Bundle.{IsBundle}
use Rattle.bx_tree.specs.Trees.{Files, paths_of}
use Rattle.bx_tree.specs.Views.{files_of}
use Rattle.bundle_folder.specs.Folders.{Known}
use Rattle.bundle_folder.specs.Unpacking.{AreFreeBut, EndsUnpack, start}
use Rattle.bundle_folder.proofs.Ends.{made_ends, way_ends}
use Rattle.bundle_folder.proofs.Free.{free_at_start}
use Rattle.bundle_folder.proofs.unpacking.unpack.Goals as goal

pub returns-in_err-tree-clause-unpacked : goal.returns-in_err-tree-clause-unpacked
returns-in_err-tree-clause-unpacked g c =
    let p = err_from_is_err_and c.from_residual.result c.from_residual.ensures.1 in
    rw (p.1, p.2) (c.in_err-tree.ensures.read c.args.replace (g.F.Folder.holds c.args.folder.now))

pub returns-in_err-check_places-clause-unpacked : goal.returns-in_err-check_places-clause-unpacked
returns-in_err-check_places-clause-unpacked g c =
    let p = err_from_is_err_and c.from_residual-in_err-check_places.result c.from_residual-in_err-check_places.ensures.1 in
    let text = c.args.text.now in
    let before = g.F.Folder.holds c.args.folder.now in
    let files = files_of c.files.result.now in
    let fault = c.in_err-check_places.field-0.0 in
    let way = c.in_err-check_places.ensures.fault in
    rw (p.1, p.2) (subst (λ now. EndsUnpack text c.args.replace before now fault) (sym c.in_err-check_places.ensures.same)
    (way_ends text c.args.replace before files way.0 fault
    (subst (IsBundle text) (sym c.files.ensures.files) c.in_ok-tree.ensures.read) way.1 way.2 way.3))

pub returns-in_err-clear-clause-unpacked : goal.returns-in_err-clear-clause-unpacked
returns-in_err-clear-clause-unpacked g c =
    let p = err_from_is_err_and c.from_residual-in_err-clear.result c.from_residual-in_err-clear.ensures.1 in
    let text = c.args.text.now in
    let now = g.F.Folder.holds c.clear.new.folder in
    rw (p.1, p.2) (subst (λ before. EndsUnpack text c.args.replace before now c.in_err-clear.field-0.0) c.in_ok-check_places.ensures.same
    (c.in_err-clear.ensures.fault text))

pub make_files-requires-clause-free : goal.make_files-requires-clause-free
make_files-requires-clause-free g c nodes e path h =
    let before = g.F.Folder.holds c.args.folder.now in
    let tree = c.in_ok-tree.tree in
    let replace = c.args.replace in
    free_at_start replace before tree c.files.ensures.tree
    (subst (λ (fs : Files). Known before (λ nodes. AreFreeBut replace nodes fs)) c.files.ensures.files c.in_ok-check_places.ensures.free)
    nodes (ap (start replace) (sym c.in_ok-check_places.ensures.same) ∙ sym c.in_ok-clear.ensures.gone ∙ e)
    path (subst (λ (fs : Files). Contains (paths_of fs) path) c.files-2.ensures.files h)

pub returns-clause-unpacked : goal.returns-clause-unpacked
returns-clause-unpacked g c =
    made_ends c.args.text.now c.args.replace (g.F.Folder.holds c.args.folder.now) _ _ c.files-2.result.now c.in_ok-tree.tree
    c.make_files.result c.in_ok-tree.ensures.read c.files-2.ensures.files
    (c.in_ok-clear.ensures.gone ∙ ap (start c.args.replace) c.in_ok-check_places.ensures.same)
    (subst (λ (fs : Files). Known (g.F.Folder.holds c.args.folder.now) (λ nodes. AreFreeBut c.args.replace nodes fs))
    c.files.ensures.files c.in_ok-check_places.ensures.free)
    c.make_files.ensures.made c.make_files.ensures.fault
