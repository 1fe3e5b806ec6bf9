-- What comes of expressions comes of the works in their places.
use Rattle.std.proofs.Common.{◌≡◌, ℕ, Bool, true, false, cond, List, [], ◌∷◌, length, map, refl, ap, sym, ◌∙◌}
use Rattle.std.specs.Borrow.{Bor}
use Rattle.bx_tree.proofs.Lists.{none_left}
use Rattle.dscript_ast.specs.declared.operator.BinaryOp.{BinaryOp}
use Rattle.dscript_ast.specs.declared.operator.UnaryOp.{UnaryOp}
use Rattle.dscript_program.specs.BoundTree as tree
use Rattle.dscript_program.specs.BoundTree.{more_operands, to_operands, to_parts}
use Rattle.dscript_program.specs.Views.{expr_data, operand_data, part_data}
use Rattle.dscript_program.specs.declared.bound.BoundExpr.{BoundExpr}
use Rattle.dscript_program.specs.declared.bound.BoundOperand.{BoundOperand}
use Rattle.dscript_program.specs.declared.bound.BoundPart.{BoundPart}
use Rattle.dscript_value.specs.Plain as plain
use Rattle.dscript_value.specs.Plain.{Plain, plain_of}
use Rattle.dscript_value.specs.declared.value.Value.{Value}
use Rattle.dscript_eval_operators.specs.Operators.{is_settled, operated, prefixed}
use Rattle.dscript_eval_operators.specs.Truth.{is_true}
use Rattle.dscript_eval_meaning.specs.Evaluating.{answered, followed}
use Rattle.dscript_eval_meaning.specs.Expressions.{operands, value}
use Rattle.dscript_eval_meaning.specs.Statements.{On}
use Rattle.dscript_eval_frames.specs.Forms.{acts_at, chain_form, cond_form, postfix_form, unary_form, value_at}
use Rattle.dscript_eval_frames.specs.Views.{View}
use Rattle.dscript_eval_frames.specs.Works.{comes, comes_by, comes_with, run}
use Rattle.dscript_eval_frames.specs.declared.work.ExprWork.TheVariants as expr
use Rattle.dscript_eval_frames.specs.declared.work.Work.TheVariants as works
use Rattle.dscript_eval_exprs.proofs.Equations.{no_operands-is, operands-are}
use Rattle.dscript_eval_frames.proofs.Followed.{followed-followed, followed-same}

pub cond_move
    : (v : View) (c a b : Bor BoundExpr)
    → comes_by (cond_form v.program (acts_at v) (expr_data c.now) (expr_data a.now) (expr_data b.now)) v
    ≡ comes (record v { work = works.Expr (expr.Value c) ∷ works.Expr (expr.Choose a b) ∷ v.work })
cond_move v c a b = followed-followed (value_at v (expr_data c.now) v.state) _ _

pub chain_move
    : (v : View) (e : Bor BoundExpr) (more : Bor (List BoundOperand))
    → comes_by (chain_form v.program (acts_at v) (expr_data e.now) (to_operands (map operand_data more.now))) v
    ≡ comes (record v { work = works.Expr (expr.Value e) ∷ works.Expr (expr.Operands more) ∷ v.work })
chain_move v e more = followed-followed (value_at v (expr_data e.now) v.state) _ _

pub unary_move
    : (v : View) (ops : Bor (List UnaryOp)) (e : Bor BoundExpr)
    → comes_by (unary_form v.program (acts_at v) ops.now (expr_data e.now)) v
    ≡ comes (record v { work = works.Expr (expr.Value e) ∷ works.Expr (expr.Prefix ops) ∷ v.work })
unary_move v ops e = followed-followed (value_at v (expr_data e.now) v.state) _ _

pub postfix_move
    : (v : View) (e : Bor BoundExpr) (parts : Bor (List BoundPart))
    → comes_by (postfix_form v.program (acts_at v) (expr_data e.now) (to_parts (map part_data parts.now))) v
    ≡ comes (record v { work = works.Expr (expr.Value e) ∷ works.Expr (expr.After parts) ∷ v.work })
postfix_move v e parts = followed-followed (value_at v (expr_data e.now) v.state) _ _

-- ## Operands

pub operands_end
    : (v : View) (more : Bor (List BoundOperand)) → length more.now ≡ 0
    → comes_with (works.Expr (expr.Operands more)) v ≡ comes v
operands_end v more none =
    ap (λ os. followed (operands v.program (acts_at v) (to_operands (map operand_data os)) v.given v.state)
    (λ x later. run v.program v.work On v.openable x later)) (none_left more.now none)
    ∙ ap (λ r. followed r (λ x later. run v.program v.work On v.openable x later))
    (no_operands-is v.program (acts_at v) v.state v.given)

-- what comes of the first operand and those after it
operands_first
    : (v : View) (more others : Bor (List BoundOperand)) (o : BoundOperand) (op : BinaryOp) (e : BoundExpr)
    → more.now ≡ o ∷ others.now → operand_data o ≡ tree.Operand op (expr_data e)
    → comes_with (works.Expr (expr.Operands more)) v
    ≡ comes_by (cond (is_settled op v.given)
    (operands v.program (acts_at v) (to_operands (map operand_data others.now)) v.given)
    (λ s. followed (value_at v (expr_data e) s) (λ y s1. followed (answered (operated op v.given y) s1)
    (λ z s2. operands v.program (acts_at v) (to_operands (map operand_data others.now)) z s2)))) v
operands_first v more others o op e is parts =
    ap (λ os. followed (operands v.program (acts_at v) (to_operands (map operand_data os)) v.given v.state)
    (λ x later. run v.program v.work On v.openable x later)) is
    ∙ ap (λ d. followed (operands v.program (acts_at v) (more_operands d (to_operands (map operand_data others.now))) v.given v.state)
    (λ x later. run v.program v.work On v.openable x later)) parts
    ∙ ap (λ r. followed r (λ x later. run v.program v.work On v.openable x later))
    (operands-are v.program (acts_at v) v.state op (expr_data e) (to_operands (map operand_data others.now)) v.given)

pub operands_settled
    : (v : View) (more others : Bor (List BoundOperand)) (o : BoundOperand) (op : BinaryOp) (e : BoundExpr)
    → more.now ≡ o ∷ others.now → operand_data o ≡ tree.Operand op (expr_data e) → is_settled op v.given ≡ true
    → comes_with (works.Expr (expr.Operands more)) v
    ≡ comes (record v { work = works.Expr (expr.Operands others) ∷ v.work })
operands_settled v more others o op e is parts holds =
    operands_first v more others o op e is parts
    ∙ ap (λ b. comes_by (cond b
    (operands v.program (acts_at v) (to_operands (map operand_data others.now)) v.given)
    (λ s. followed (value_at v (expr_data e) s) (λ y s1. followed (answered (operated op v.given y) s1)
    (λ z s2. operands v.program (acts_at v) (to_operands (map operand_data others.now)) z s2)))) v) holds

pub operands_move
    : (v w : View) (more others : Bor (List BoundOperand)) (o : BoundOperand) (op : BinaryOp) (e : Bor BoundExpr) (x : Value)
    → more.now ≡ o ∷ others.now → operand_data o ≡ tree.Operand op (expr_data e.now) → is_settled op v.given ≡ false
    → plain_of x ≡ v.given → w ≡ record v { given = plain.Undefined }
    → comes_with (works.Expr (expr.Operands more)) v
    ≡ comes (record w { work = works.Expr (expr.Value e) ∷ works.Expr (expr.Operate op x others) ∷ w.work })
operands_move v w more others o op e x is parts never same taken =
    operands_first v more others o op e.now is parts
    ∙ ap (λ b. comes_by (cond b
    (operands v.program (acts_at v) (to_operands (map operand_data others.now)) v.given)
    (λ s. followed (value_at v (expr_data e.now) s) (λ y s1. followed (answered (operated op v.given y) s1)
    (λ z s2. operands v.program (acts_at v) (to_operands (map operand_data others.now)) z s2)))) v) never
    ∙ followed-followed (value_at v (expr_data e.now) v.state) _ _
    ∙ ap (λ a. followed (value_at v (expr_data e.now) v.state) (λ y s1. followed (followed (answered (operated op a y) s1)
    (λ z s2. operands v.program (acts_at v) (to_operands (map operand_data others.now)) z s2))
    (λ z later. run v.program v.work On v.openable z later))) (sym same)
    ∙ ap (λ (u : View). comes (record u { work = works.Expr (expr.Value e) ∷ works.Expr (expr.Operate op x others) ∷ u.work })) (sym taken)

pub operated_move
    : (v : View) (op : BinaryOp) (x : Value) (others : Bor (List BoundOperand))
    → comes_with (works.Expr (expr.Operate op x others)) v
    ≡ comes_by (answered (operated op (plain_of x) v.given)) (record v { work = works.Expr (expr.Operands others) ∷ v.work })
operated_move v op x others = followed-followed (answered (operated op (plain_of x) v.given) v.state) _ _

-- an operator at its operands comes to what the machine comes to that goes on with the other operands
pub operated_then
    : (v u : View) (op : BinaryOp) (x : Value) (others : Bor (List BoundOperand))
    → u ≡ record v { work = works.Expr (expr.Operands others) ∷ v.work }
    → comes_with (works.Expr (expr.Operate op x others)) v
    ≡ comes_by (answered (operated op (plain_of x) u.given)) u
operated_then v u op x others is =
    operated_move v op x others
    ∙ ap (λ (z : View). comes_by (answered (operated op (plain_of x) z.given)) z) (sym is)

-- the last operator of a chain
pub operated_alone
    : (v : View) (op : BinaryOp) (x : Value) (others : Bor (List BoundOperand)) → length others.now ≡ 0
    → comes_with (works.Expr (expr.Operate op x others)) v ≡ comes_by (answered (operated op (plain_of x) v.given)) v
operated_alone v op x others none =
    operated_move v op x others
    ∙ followed-same (answered (operated op (plain_of x) v.given) v.state) _ _
    (λ y s. operands_end (record v { given = y; state = s }) others none)

-- ## Conditions and prefixes

choice_of
    : (v : View) (a b : Bor BoundExpr) (given : Bool) → is_true v.given ≡ given
    → comes_with (works.Expr (expr.Choose a b)) v
    ≡ comes_by (cond given (value_at v (expr_data a.now)) (value_at v (expr_data b.now))) v
choice_of v a b given is = ap (λ t. comes_by (cond t (value_at v (expr_data a.now)) (value_at v (expr_data b.now))) v) is

pub choose_first
    : (v : View) (a b : Bor BoundExpr) → is_true v.given ≡ true
    → comes_with (works.Expr (expr.Choose a b)) v ≡ comes_by (value_at v (expr_data a.now)) v
choose_first v a b holds = choice_of v a b true holds

pub choose_second
    : (v : View) (a b : Bor BoundExpr) → is_true v.given ≡ false
    → comes_with (works.Expr (expr.Choose a b)) v ≡ comes_by (value_at v (expr_data b.now)) v
choose_second v a b never = choice_of v a b false never

pub prefix_move
    : (v w : View) (ops : Bor (List UnaryOp)) (x : Value) → plain_of x ≡ v.given
    → w ≡ record v { given = plain.Undefined }
    → comes_with (works.Expr (expr.Prefix ops)) v ≡ comes_by (answered (prefixed ops.now (plain_of x))) w
prefix_move v w ops x same taken =
    ap (λ g. comes_by (answered (prefixed ops.now g)) v) (sym same)
    ∙ ap (λ (u : View). comes_by (answered (prefixed ops.now (plain_of x))) u) (sym taken)
