use Rattle.std.proofs.Common.{ap}
use Rattle.dscript_types_scenes.proofs.Answering.{seen_is}
use Rattle.dscript_types_scenes.specs.declared.found.Seen.{Seen}
use Rattle.dscript_types_scenes.specs.declared.found.Typing.TheVariants as typings
use Rattle.dscript_types_scenes.proofs.functions.found_above.Goals as goal

pub returns : goal.returns
returns c =
    ap (λ (s : Seen). typings.Found c.args.t s)
    (seen_is c.args.first c.args.rank _ _ c.args.right _ c.in_ok-further.ensures c.in_ok-next.ensures c.larger.ensures)
