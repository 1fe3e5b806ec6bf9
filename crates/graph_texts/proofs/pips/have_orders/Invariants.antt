use Rattle.std.proofs.Common.{take}
use Rattle.std.specs.List.{AllByRecursion}
use Rattle.pip_model_types.specs.Dirs.{RiseByForm}
use Rattle.pip_model_types.specs.Kinds.{taken_dirs}
use Rattle.graph_texts.proofs.pips.have_orders.Given as goal

abbrev pub invariant-pips : goal.invariant-pips
invariant-pips l = AllByRecursion (λ p. RiseByForm (taken_dirs p.kind)) (take l.pip-index l.pips)
