use Rattle.pip_model_types.specs.declared.pip.PipKind.TheVariants as kinds
use Rattle.dscript_sdk_pips.specs.States.{over_tree}
use Rattle.dscript_sdk_pips.proofs.NewPips.{directory_of_asked_seal}
use Rattle.dscript_sdk_pips.proofs.sealing.add_asked_seal.Goals as goal

pub returns-clause-answer : goal.returns-clause-answer
returns-clause-answer c =
    directory_of_asked_seal c.args.site.now.file c.args.seal.root c.in_ok-root.root (kinds.Seal c.args.seal) c.in_ok-ask.ask
    (over_tree c.args.state.now) (over_tree c.add_asked.new.self) c.in_ok-number.number c.in_ok-number.ensures.added c.in_ok-ask.ensures
    c.in_ok-root.ensures
