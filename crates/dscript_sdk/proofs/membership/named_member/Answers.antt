use Rattle.std.proofs.Common.{◌≡◌, ◌∷◌, [], cond, MatchResult, Ok, Some, ap, sym, ◌∙◌, subst}
use Rattle.dscript_value.specs.declared.parts.Callee.TheVariants.{Member}
use Rattle.dscript_value.specs.Plain.{plain_of}
use Rattle.dscript_sdk_values.specs.Answers.{function_answer}
use Rattle.dscript_sdk_values.specs.Outcomes.{Refuses}
use Rattle.dscript_sdk.specs.Members.{member_answer, property_at, property_or_missing}
use Rattle.dscript_sdk.proofs.membership.named_member.Goals as goal

pub returns-then-is_function : goal.returns-then-is_function
returns-then-is_function c s =
    let held = function_answer (Member c.args.name.now) (plain_of c.args.value.now ∷ []) in
    let e : member_answer s c.args.name.now (plain_of c.args.value.now) (Some c.args.member) ≡ held =
    ap (λ b. cond b held (property_or_missing (property_at c.args.member (plain_of c.args.value.now))))
    (c.is_function.ensures s ∙ c.if-is_function.true) in
    subst (λ o. MatchResult c.held_function.result (λ answer. o ≡ Ok (plain_of answer)) (λ fault. Refuses fault o)) (sym e)
    c.held_function.ensures
