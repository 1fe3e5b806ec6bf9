use Rattle.dscript_types_scenes.proofs.Answering.{not_called_back}
use Rattle.dscript_types_scenes.proofs.functions.by_answer.Goals as goal

pub returns-in_default : goal.returns-in_default
returns-in_default c =
    not_called_back c.args.member c.args.item c.args.further.items c.args.answer c.in_default.not-Map c.in_default.not-Filter
    c.in_default.not-MapMany c.in_default.not-Reduce
