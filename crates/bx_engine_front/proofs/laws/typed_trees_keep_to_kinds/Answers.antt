use Rattle.bx_engine_front.proofs.TypedTrees.{typed_trees}
use Rattle.bx_engine_front.proofs.laws.typed_trees_keep_to_kinds.Goals as goal

pub returns : goal.returns
returns c limits tree kind file message asked fault =
    typed_trees limits tree kind file message asked fault c.typed_programs_keep_to_kinds.ensures
