use Rattle.std.proofs.Common.{◌≡◌, IfOk, Option, Some, ap, arith, cond, length, subst, sym}
use Rattle.dscript_types_meaning.specs.Functions.{by_answer}
use Rattle.dscript_types_meaning.specs.Types.{TypeData, never}
use Rattle.dscript_types_scenes.proofs.Answering.{members_not_never}
use Rattle.dscript_types_scenes.proofs.functions.member_answer.Goals as goal

pub returns : goal.returns
returns c =
    let some : length c.members.result.now ≡ 0 → ⊥ = λ e. grind (arith, c.is_empty.ensures, c.if-is_empty.false, e) in
    subst (λ (o : Option TypeData). IfOk c.by_answer.result (λ found. found ≡ o))
    (sym (ap (λ b. cond b (Some never) (by_answer c.args.member c.args.item c.args.further.items c.args.answer))
    (members_not_never c.members.result.now c.args.t c.members.ensures some)))
    c.by_answer.ensures
