use Rattle.std.proofs.Common.{◌≡◌, ℕ, List, Option, Some, IfOk, ap, subst, sym, ◌∙◌}
use Rattle.bx_tree.specs.Trees.{file_at}
use Rattle.pip_view_directories.specs.Near.{AreTaken}
use Rattle.pip_model_types.specs.declared.pip.ProcessDesc.{ProcessDesc}
use Rattle.pip_view.specs.Seen.{ViewData, taken_by}
use Rattle.pip_view.proofs.view.PipView.taken.Goals as goal

pub returns-in-Some : goal.returns-in-Some
returns-in-Some c =
    let path = c.args.path.now in
    let process = c.in-Some.process.now in
    let view = c.self.inside in
    subst (λ (o : Option (List ℕ)). IfOk c.taken_blob.result (λ found. found ≡ o))
    (ap (λ (v : ViewData). file_at (taken_by v (Some process)) path) c.self.view_is
    ∙ ap (λ (o : Option ProcessDesc). file_at (taken_by c.args.self.now o) path) c.in-Some.ensures.found)
    c.taken_blob.ensures

pub returns-in-None : goal.returns-in-None
returns-in-None c = ap (λ (o : Option ProcessDesc). file_at (taken_by c.args.self.now o) c.args.path.now) c.in-None.ensures.found

pub taken_blob-requires : goal.taken_blob-requires
taken_blob-requires c =
    subst (λ (v : ViewData). AreTaken v.pips c.in-Some.process.now.dirs) (sym c.self.view_is) c.in-Some.ensures.taken
