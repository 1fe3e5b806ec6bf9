use Rattle.std.proofs.Common.{◌≡◌, ◌++◌, ℕ, List, Option, Some, OnOk, ap, append-nil, subst, sym, ◌∙◌}
use Rattle.bx_tree.specs.Lent.{texts_now}
use Rattle.tool_run_writes.specs.Writes.{own_names}
use Rattle.pip_view_directories.specs.Near.{AreTaken}
use Rattle.pip_model_types.specs.declared.pip.ProcessDesc.{ProcessDesc}
use Rattle.pip_view.specs.Seen.{ViewData, taken_by}
use Rattle.pip_view.specs.Taken.{taken_files}
use Rattle.pip_view.proofs.TakenFiles.{names_of_taken}
use Rattle.pip_view.proofs.view.PipView.add_taken.Goals as goal

pub returns-in-Some : goal.returns-in-Some
returns-in-Some c =
    let dir = c.args.dir.now in
    let process = c.in-Some.process.now in
    let view = c.self.inside in
    subst (λ (ns : List (List ℕ)). OnOk c.add_taken.result (texts_now c.add_taken.new.names.items ≡ texts_now c.args.names.now.items ++ ns))
    (names_of_taken view.sources.now view.inputs.now dir (taken_files view.plan.now.pips process)
    ∙ ap (λ (v : ViewData). own_names (taken_by v (Some process)) dir) c.self.view_is
    ∙ ap (λ (o : Option ProcessDesc). own_names (taken_by c.args.self.now o) dir) c.in-Some.ensures.found)
    c.add_taken.ensures

pub returns-in-None : goal.returns-in-None
returns-in-None c =
    sym (append-nil (texts_now c.args.names.now.items))
    ∙ ap (λ (o : Option ProcessDesc). texts_now c.args.names.now.items ++ own_names (taken_by c.args.self.now o) c.args.dir.now) c.in-None.ensures.found

pub add_taken-requires : goal.add_taken-requires
add_taken-requires c =
    subst (λ (v : ViewData). AreTaken v.pips c.in-Some.process.now.dirs) (sym c.self.view_is) c.in-Some.ensures.taken
