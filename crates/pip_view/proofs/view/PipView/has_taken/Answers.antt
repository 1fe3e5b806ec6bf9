use Rattle.std.proofs.Common.{◌≡◌, Bool, List, Option, Some, IfOk, ap, subst, sym, ◌∙◌}
use Rattle.tool_run_writes.specs.Writes.{has_below}
use Rattle.pip_view_directories.specs.Near.{AreTaken}
use Rattle.pip_model_types.specs.declared.pip.ProcessDesc.{ProcessDesc}
use Rattle.pip_view.specs.Seen.{ViewData, taken_by}
use Rattle.pip_view.specs.Taken.{taken_files}
use Rattle.pip_view.proofs.TakenFiles.{below_taken}
use Rattle.pip_view.proofs.view.PipView.has_taken.Goals as goal

pub returns-in-Some : goal.returns-in-Some
returns-in-Some c =
    let path = c.args.path.now in
    let process = c.in-Some.process.now in
    let view = c.self.inside in
    subst (λ (t : Bool). IfOk c.has_taken.result (λ yes. yes ≡ t))
    (below_taken view.sources.now view.inputs.now path (taken_files view.plan.now.pips process)
    ∙ ap (λ (v : ViewData). has_below (taken_by v (Some process)) path) c.self.view_is
    ∙ ap (λ (o : Option ProcessDesc). has_below (taken_by c.args.self.now o) path) c.in-Some.ensures.found)
    c.has_taken.ensures

pub returns-in-None : goal.returns-in-None
returns-in-None c = ap (λ (o : Option ProcessDesc). has_below (taken_by c.args.self.now o) c.args.path.now) c.in-None.ensures.found

pub has_taken-requires : goal.has_taken-requires
has_taken-requires c =
    subst (λ (v : ViewData). AreTaken v.pips c.in-Some.process.now.dirs) (sym c.self.view_is) c.in-Some.ensures.taken
