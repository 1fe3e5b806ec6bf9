use Rattle.std.proofs.Common.{◌≡◌, List, [], subst, sym, ◌∙◌}
use Rattle.std.proofs.lemmas.Bool.{false≢true}
use Rattle.pip_model_types.specs.declared.dir_inputs.DirInput.{DirInput}
use Rattle.pip_view_directories.specs.Around.{IsTextAround}
use Rattle.pip_view_directories.specs.Ranges.{AddsAll}
use Rattle.pip_view_directories.proofs.AtPaths.{around_found}
use Rattle.pip_view_directories.proofs.around.around_dirs.Goals as goal

pub returns : goal.returns
returns c =
    let path = c.args.path.now in
    let text = c.as_bytes.result.now in
    let some = λ (e : path ≡ []). false≢true (sym c.if-is_root.false ∙ c.is_root.ensures.root.1 e) in
    around_found path text c.args.dirs.now c.new-found.result.items c.add_around.new.found.items c.of.result some
    (c.as_bytes.ensures.value ∙ c.text.ensures.text) c.new-found.ensures.items
    (subst (λ (ds : List DirInput). AddsAll ds (IsTextAround text) c.new-found.result.items c.add_around.new.found.items)
    c.dirs-all.ensures.dirs (c.in_ok-add_around.ensures c.if-not-branch.false))
    c.of.ensures
