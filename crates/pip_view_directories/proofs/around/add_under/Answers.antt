use Rattle.std.proofs.Common.{◌++◌, ◌∷◌, []}
use Rattle.std.proofs.lemmas.Result.{IfOk-weaker}
use Rattle.bx_tree_paths.proofs.BetweenTexts.{under_between}
use Rattle.pip_model_types.specs.Dirs.{dir_path}
use Rattle.pip_view_directories.specs.Around.{IsUnder}
use Rattle.pip_view_directories.specs.Ranges.{IsWithin}
use Rattle.pip_view_directories.proofs.Between.{adds_fewer}
use Rattle.pip_view_directories.proofs.around.add_under.Goals as goal

pub returns : goal.returns
returns c =
    let text = c.args.text.now in
    IfOk-weaker c.add_between.result _ _
    (λ few h e. adds_fewer (IsWithin (text ++ 47 ∷ []) (text ++ 48 ∷ [])) (IsUnder text) c.args.dirs.now c.args.found.now.items
    c.add_between.new.found.items (λ d (rest, is). under_between text rest (dir_path d) is) (h e))
    c.add_between.ensures
