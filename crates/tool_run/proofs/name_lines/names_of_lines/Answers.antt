use Rattle.std.proofs.Common.{◌∙◌, ap, rules, eqb}
use Rattle.std.specs.Slice.Iter as slice
use Rattle.std.proofs.lemmas.Iterator.Consumers.{YieldsList-from_filter, map_from_collect}
use Rattle.std.proofs.lemmas.Iterator.Splits.{YieldsList-from_slice_split}
use Rattle.tool_run.specs.Listings.{is_some_name}
use Rattle.tool_run.proofs.SomeNames.{some_name}
use Rattle.tool_run.proofs.name_lines.names_of_lines.Goals as goal

pub returns : goal.returns
returns c =
    map_from_collect _ c.collect.ensures.ran
    (YieldsList-from_filter _ is_some_name
    (YieldsList-from_slice_split _ (λ b. eqb b 10) c.args.text.now
    (ap slice.split_rest c.filter.ensures.source ∙ c.split.ensures.rest)
    (ap slice.split_done c.filter.ensures.source ∙ c.split.ensures.done)
    (ap slice.split_callee c.filter.ensures.source ∙ c.split.ensures.closure) (λ x b q k. search rules))
    c.filter.ensures.closure (λ x b q k. search (rules, some_name)))
