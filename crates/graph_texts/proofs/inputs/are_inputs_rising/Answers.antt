use Rattle.std.proofs.Common.{rules}
use Rattle.std.proofs.lemmas.Fn.{always_returns_same}
use Rattle.prints.proofs.Rising.{neighbours_rise}
use Rattle.graph_texts.specs.Inputs.{input_before}
use Rattle.graph_texts.proofs.inputs.are_inputs_rising.Goals as goal

pub returns : goal.returns
returns c = neighbours_rise input_before c.args.files.now c.is_sorted_by.result (c.is_sorted_by.ensures.cases input_before (always_returns_same _ _ _ (λ a r f k. (search rules, search rules))))
