use Rattle.std.proofs.Common.{◌≡◌, ◌++◌, codes, take}
use Rattle.std.specs.List.{AllByRecursion, flat_map}
use Rattle.observed.specs.PathSets.{IsAsk}
use Rattle.observed.specs.Texts.{ask_line, first_line, has_match}
use Rattle.observed.proofs.texts.text_of.Given as goal

abbrev pub invariant-asks : goal.invariant-asks
invariant-asks l = record {
  text : l.text.items ≡ first_line (has_match l.asks) ++ codes "\n" ++ flat_map ask_line (take l.ask-index l.asks);
  asks : AllByRecursion IsAsk (take l.ask-index l.asks);
}
