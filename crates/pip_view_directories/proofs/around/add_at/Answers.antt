use Rattle.std.proofs.Common.{◌++◌, ◌∷◌, []}
use Rattle.std.proofs.lemmas.Result.{IfOk-weaker}
use Rattle.bx_tree_paths.proofs.BetweenTexts.{text_between}
use Rattle.pip_model_types.specs.Dirs.{dir_path}
use Rattle.pip_view_directories.specs.Around.{HasText}
use Rattle.pip_view_directories.specs.Ranges.{IsWithin}
use Rattle.pip_view_directories.proofs.Between.{adds_fewer}
use Rattle.pip_view_directories.proofs.around.add_at.Goals as goal

pub returns : goal.returns
returns c =
    let text = c.args.text.now in
    IfOk-weaker c.add_between.result _ _
    (λ few h e. adds_fewer (IsWithin (text ++ []) (text ++ 0 ∷ [])) (HasText text) c.args.dirs.now c.args.found.now.items
    c.add_between.new.found.items (λ d. text_between text 0 (dir_path d)) (h e))
    c.add_between.ensures
