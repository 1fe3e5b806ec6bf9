use Rattle.std.proofs.Common.{sym, ◌∙◌, arith}
use Rattle.dscript_types_data.proofs.Few.{are_equal, both_alike, none_before, none_behind, seen_few}
use Rattle.dscript_types_data.proofs.unions.joined.Goals as goal

pub returns-in_default : goal.returns-in_default
returns-in_default c =
    let few = seen_few c.members-right.result.now c.args.b.now c.members-right.ensures (omega (arith, c.if-right-gt1.false)) in
    (few, none_before c.args.a.now c.args.b.now _ _ c.members-left.ensures c.members-right.ensures c.in_default.ensures.cases few)

pub returns-in_default-split_first : goal.returns-in_default-split_first
returns-in_default-split_first c =
    let few = seen_few c.members-left.result.now c.args.a.now c.members-left.ensures (omega (arith, c.if-left-gt1.false)) in (
      few,
      none_behind c.args.a.now c.args.b.now _ _ c.members-left.ensures c.members-right.ensures
          c.in_default-split_first.ensures.cases few,
    )

pub returns-then-is_eq : goal.returns-then-is_eq
returns-then-is_eq c = (
  seen_few c.members-right.result.now c.args.b.now c.members-right.ensures (omega (arith, c.if-right-gt1.false)),
  both_alike c.args.a.now c.args.b.now _ _ c.members-left.ensures c.members-right.ensures _ _ _ _ c.in-Some.ensures.cases.0
      c.in-Some-split_first.ensures.cases.0 (omega (arith, c.if-left-gt1.false)) (omega (arith, c.if-right-gt1.false))
      (sym c.compare_members.ensures ∙ are_equal _ (sym c.is_eq.ensures ∙ c.if-is_eq.true)),
)
