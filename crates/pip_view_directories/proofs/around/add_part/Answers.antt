use Rattle.std.proofs.Common.{take}
use Rattle.std.proofs.lemmas.Result.{IfOk-weaker}
use Rattle.pip_view_directories.specs.Around.{HasText, IsPart}
use Rattle.pip_view_directories.proofs.Between.{adds_fewer}
use Rattle.pip_view_directories.proofs.around.add_part.Goals as goal

pub returns : goal.returns
returns c =
    let text = c.args.text.now in
    let place = c.args.place in
    IfOk-weaker c.add_at.result _ _
    (λ few h e. adds_fewer (HasText (take place text)) (IsPart text place) c.args.dirs.now c.args.found.now.items c.add_at.new.found.items
    (λ d is. is.1) (h e))
    c.add_at.ensures
