use Rattle.dscript_types_data.proofs.Few.{all_end, all_go}
use Rattle.dscript_types_data.proofs.unions.joined_all.Goals as goal

pub types-preserved : goal.types-preserved
types-preserved c = (
  c.in-Some-joined.ensures.0,
  all_go c.types.left.now c.in-Some-split_last.before.now c.args.types.now c.in-Some-split_last.t.now c.types.answer.now
      c.in-Some-joined.u.now c.in-Some-split_last.ensures.cases.0 c.in-Some-joined.ensures.0 c.in-Some-joined.ensures.1
      c.types.invariant.1,
)

pub returns : goal.returns
returns c =
    all_end c.types.left.now c.args.types.now c.types.answer.now c.in_default-split_last.ensures.cases c.types.invariant.0
    c.types.invariant.1
