use Rattle.std.proofs.Common.{map, take}
use Rattle.memo_format.specs.declared.selector.Selector.{Selector}
use Rattle.cache_care.specs.Digests.{AddsAll}
use Rattle.cache_care.proofs.trimming.add_selected.Given as goal

abbrev pub invariant-selectors : goal.invariant-selectors
invariant-selectors l = AddsAll l.fn.selected l.selected (map (λ (s : Selector). s.strong) (take l.selector-index l.list))
