use Rattle.std.proofs.Common.{◌≡◌, ℤ, Bool, true, false, rules, length, map, IfSome, Ok, ap, subst, sym, ◌∙◌}
use Rattle.std.proofs.lemmas.Bool.{eqb-true}
use Rattle.std.proofs.lemmas.List.{length-map}
use mir.Syntax.{w32}
use mir.Val.{to_z, of_z}
use Rattle.dscript_program.specs.BoundTree as tree
use Rattle.dscript_program.specs.BoundTree.{to_operands}
use Rattle.dscript_program.specs.Views.{expr_data, operand_data}
use Rattle.dscript_program.proofs.NodeViews.{expr_data-Chain, expr_data-Cond, expr_data-Name, expr_data-Number}
use Rattle.dscript_value.specs.Plain as plain
use Rattle.dscript_eval_frames.proofs.Rows.{operator_count_row}
use Rattle.dscript_eval_operators.specs.Operators.{is_settled, operated}
use Rattle.dscript_eval_direct.specs.Now.{GoesAtOnce, IsAtOnce, knowledge}
use Rattle.dscript_eval_direct.proofs.NumberSteps.{chain_gets, flag_is, one_gets, operand_gets, other_gets, same_expr, then_gets}
use Rattle.dscript_eval_direct.proofs.Steps.{chain_from, cond_from, next_left, none_left}
use Rattle.dscript_eval_direct.proofs.numbers.+number.Goals as goal

pub number_of-returns-in-Number : goal.number_of-returns-in-Number
number_of-returns-in-Number t c =
    let same : to_z w32 (of_z w32 c.in-Number.number) ≡ c.in-Number.number = search rules in
    same_expr (knowledge c.args.known.now) ℤ plain.Number _ _ _ c.args.left.now _
    (ap expr_data c.in-Number.is ∙ expr_data-Number _ ∙ ap tree.Number (sym same)) c.literal_number.ensures

pub number_of-returns-in-Name : goal.number_of-returns-in-Name
number_of-returns-in-Name t c =
    same_expr (knowledge c.args.known.now) ℤ plain.Number _ _ _ c.args.left.now _
    (ap expr_data c.in-Name.is ∙ expr_data-Name _) c.named_number.ensures

pub number_of-returns-in-Chain : goal.number_of-returns-in-Chain
number_of-returns-in-Chain t c =
    same_expr (knowledge c.args.known.now) ℤ plain.Number _ _ _ c.args.left.now _
    (chain_from _ c.in-Chain.e.value c.deref.result.now c.in-Chain.more.items c.as_slice.result.now
    (ap expr_data c.in-Chain.is ∙ expr_data-Chain c.in-Chain.e c.in-Chain.more) c.deref.ensures c.as_slice.ensures.value)
    c.chain_number.ensures

pub number_of-returns-in-Cond : goal.number_of-returns-in-Cond
number_of-returns-in-Cond t c =
    same_expr (knowledge c.args.known.now) ℤ plain.Number _ _ _ c.args.left.now _
    (cond_from _ c.in-Cond.condition.value c.in-Cond.then.value c.in-Cond.other.value c.deref-in-Cond.result.now
    c.deref-in-Cond-2.result.now c.deref-in-Cond-3.result.now
    (ap expr_data c.in-Cond.is ∙ expr_data-Cond c.in-Cond.condition c.in-Cond.then c.in-Cond.other) c.deref-in-Cond.ensures
    c.deref-in-Cond-2.ensures c.deref-in-Cond-3.ensures)
    c.cond_number.ensures

pub flag_of-returns-in-Chain : goal.flag_of-returns-in-Chain
flag_of-returns-in-Chain t c =
    same_expr (knowledge c.args.known.now) Bool plain.Flag _ _ _ c.args.left.now _
    (chain_from _ c.in-Chain.e.value c.deref.result.now c.in-Chain.more.items c.as_slice.result.now
    (ap expr_data c.in-Chain.is ∙ expr_data-Chain c.in-Chain.e c.in-Chain.more) c.deref.ensures c.as_slice.ensures.value)
    c.chain_flag.ensures

pub chain_number-returns : goal.chain_number-returns
chain_number-returns t c =
    let n = c.in_ok-number.number in
    let same : to_z w32 (of_z w32 n) ≡ n = search rules in
    let P : ℤ → Type 0 = λ k. IsAtOnce (knowledge c.args.known.now) (expr_data c.args.e.now) c.spend.new.left
    (plain.Number k) c.number_of.new.left in
    chain_gets (knowledge c.args.known.now) ℤ plain.Number _ (expr_data c.args.e.now)
    (to_operands (map operand_data c.args.more.now)) (plain.Number (to_z w32 (of_z w32 n))) c.args.left.now
    (length c.args.more.now) c.spend.new.left c.number_of.new.left c.operands_number.new.left
    (operator_count_row (map operand_data c.args.more.now) ∙ length-map c.args.more.now operand_data)
    (c.spend.ensures.enough c.if-not-spend.false) (c.spend.ensures.spent c.if-not-spend.false)
    (subst P (sym same) c.in_ok-number.ensures) c.operands_number.ensures

pub operands_number-operands-preserved : goal.operands_number-operands-preserved
operands_number-operands-preserved t c = λ y later rest.
    let n = c.in-Some-operand_number.next in
    let same : to_z w32 (of_z w32 n) ≡ n = search rules in
    let P : ℤ → Type 0 = λ k. GoesAtOnce (knowledge c.args.known.now)
    (to_operands (map operand_data c.in-Some.others.now)) (plain.Number k) c.operand_number.new.left y later in
    c.operands.invariant y later
    (next_left (knowledge c.args.known.now) c.operands.rest.now c.in-Some.others.now c.in-Some.operand.now
    _ y c.operands.left later c.in-Some.ensures.cases.0
    (c.in-Some-operand_number.ensures (to_operands (map operand_data c.in-Some.others.now)) y later (subst P same rest)))

pub operands_number-returns : goal.operands_number-returns
operands_number-returns t c =
    let n = c.args.number in
    let same : to_z w32 (of_z w32 n) ≡ n = search rules in
    let P : ℤ → Type 0 = λ k. GoesAtOnce (knowledge c.args.known.now)
    (to_operands (map operand_data c.args.more.now)) (plain.Number k) c.args.left.now
    (plain.Number (to_z w32 c.operands.answer-bits)) c.operands.left in
    subst P same
    (c.operands.invariant _ _
    (none_left (knowledge c.args.known.now) c.operands.rest.now _ c.operands.left c.in_default.ensures.cases))

pub operand_number-returns-in-Some : goal.operand_number-returns-in-Some
operand_number-returns-in-Some t c =
    let op = c.operand_parts-operator.result.0 in
    let x = c.args.number in
    let y = c.in-Some.right in
    let x_same : to_z w32 (of_z w32 x) ≡ x = search rules in
    let y_same : to_z w32 (of_z w32 y) ≡ y = search rules in
    let S : ℤ → Type 0 = λ k. IfSome c.arithmetic.result (λ z. is_settled op (plain.Number k) ≡ false) in
    let A : ℤ → Type 0 =
    λ k. IfSome c.arithmetic.result (λ z. operated op (plain.Number k) (plain.Number (to_z w32 (of_z w32 y))) ≡ Ok (plain.Number z)) in
    let B : ℤ → Type 0 = λ k. IfSome c.arithmetic.result (λ z. operated op (plain.Number x) (plain.Number k) ≡ Ok (plain.Number z)) in
    operand_gets (knowledge c.args.known.now) ℤ plain.Number _ (operand_data c.args.operand.now)
    op (expr_data c.operand_parts-operator.result.1.now) (plain.Number x)
    (plain.Number y) c.args.left.now c.number_of.new.left c.operand_parts-operator.ensures c.in-Some.ensures
    (subst S x_same c.arithmetic.ensures.settled) (subst B y_same (subst A x_same c.arithmetic.ensures.answer))

pub operand_flag-returns-in-Some : goal.operand_flag-returns-in-Some
operand_flag-returns-in-Some t c =
    let op = c.operand_parts-operator.result.0 in
    let x = c.args.number in
    let y = c.in-Some.right in
    let x_same : to_z w32 (of_z w32 x) ≡ x = search rules in
    let y_same : to_z w32 (of_z w32 y) ≡ y = search rules in
    let S : ℤ → Type 0 = λ k. IfSome c.comparison.result (λ z. is_settled op (plain.Number k) ≡ false) in
    let A : ℤ → Type 0 =
    λ k. IfSome c.comparison.result (λ z. operated op (plain.Number k) (plain.Number (to_z w32 (of_z w32 y))) ≡ Ok (plain.Flag z)) in
    let B : ℤ → Type 0 = λ k. IfSome c.comparison.result (λ z. operated op (plain.Number x) (plain.Number k) ≡ Ok (plain.Flag z)) in
    operand_gets (knowledge c.args.known.now) Bool plain.Flag _ (operand_data c.args.operand.now)
    op (expr_data c.operand_parts-operator.result.1.now) (plain.Number x)
    (plain.Number y) c.args.left.now c.number_of.new.left c.operand_parts-operator.ensures c.in-Some.ensures
    (subst S x_same c.comparison.ensures.settled) (subst B y_same (subst A x_same c.comparison.ensures.answer))

pub cond_number-returns-then-holds : goal.cond_number-returns-then-holds
cond_number-returns-then-holds t c =
    then_gets (knowledge c.args.known.now) ℤ plain.Number _ (expr_data c.args.condition.now)
    (expr_data c.args.then.now) (expr_data c.args.other.now) (plain.Flag c.in_ok-holds.holds) c.args.left.now _ _ _
    (c.spend.ensures.enough c.if-not-spend.false) (c.spend.ensures.spent c.if-not-spend.false) c.in_ok-holds.ensures
    (flag_is c.in_ok-holds.holds true c.if-holds.true) c.number_of.ensures

pub cond_number-returns-else-holds : goal.cond_number-returns-else-holds
cond_number-returns-else-holds t c =
    other_gets (knowledge c.args.known.now) ℤ plain.Number _ (expr_data c.args.condition.now)
    (expr_data c.args.then.now) (expr_data c.args.other.now) (plain.Flag c.in_ok-holds.holds) c.args.left.now _ _ _
    (c.spend.ensures.enough c.if-not-spend.false) (c.spend.ensures.spent c.if-not-spend.false) c.in_ok-holds.ensures
    (flag_is c.in_ok-holds.holds false c.if-holds.false) c.number_of-else-holds.ensures

pub chain_flag-returns : goal.chain_flag-returns
chain_flag-returns t c =
    let n = c.in_ok-number.number in
    let same : to_z w32 (of_z w32 n) ≡ n = search rules in
    let P : ℤ → Type 0 = λ k. IsAtOnce (knowledge c.args.known.now) (expr_data c.args.e.now) c.spend.new.left
    (plain.Number k) c.number_of.new.left in
    one_gets (knowledge c.args.known.now) Bool plain.Flag _ (expr_data c.args.e.now) c.args.more.now
    c.in_ok-operand.others.now c.in_ok-operand.operand.now (plain.Number (to_z w32 (of_z w32 n))) c.args.left.now
    c.spend.new.left c.number_of.new.left c.operand_flag.new.left c.in_ok-operand.ensures.cases.0
    (eqb-true (length c.in_ok-operand.others.now) 0 (sym c.is_empty.ensures ∙ c.if-not-is_empty.false))
    (c.spend.ensures.enough c.if-not-spend.false) (c.spend.ensures.spent c.if-not-spend.false)
    (subst P (sym same) c.in_ok-number.ensures) c.operand_flag.ensures
