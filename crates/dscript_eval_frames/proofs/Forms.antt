-- Each form of expression: its steps, and then the rest.
use Rattle.std.proofs.Common.{◌≡◌, ℕ, ◌+◌, ◌-◌, List, [], ◌∷◌, length, cond, true, nat_le, Ok, refl, ap, sym, ◌∙◌, arith}
use Rattle.std.proofs.lemmas.Bool.{le-leb}
use Rattle.dscript_ast.specs.declared.expr.PathKind.TheVariants as letters
use Rattle.dscript_program.specs.BoundTree as tree
use Rattle.dscript_program.specs.BoundTree.{ExprData, OperandData, to_operands}
use Rattle.dscript_program.specs.ProgramData.{ProgramData}
use Rattle.dscript_value.specs.Plain.{Plain}
use Rattle.dscript_eval_meaning.specs.Acts.{Acts}
use Rattle.dscript_eval_meaning.specs.Evaluating.{Gives, fails, spend, followed, ◌>>◌}
use Rattle.dscript_eval_meaning.specs.declared.fault.EvalKind.TheVariants as kinds
use Rattle.dscript_eval_meaning.specs.Expressions.{operator_count, value}
use Rattle.dscript_eval_meaning.specs.States.{State}
use Rattle.dscript_eval_frames.specs.Forms.{rest_of}
use Rattle.dscript_eval_frames.specs.Costs.{expr_cost}

-- no steps are always left
pub no_steps : {A : Type 0} (m : Gives A) (s : State) → m s ≡ (spend 0 >> m) s
no_steps m s =
    let all : s.left - 0 ≡ s.left = omega arith in
    let same : record s { left = s.left - 0 } ≡ s = ap (λ n. record s { left = n }) all in
    let enough : nat_le 0 s.left ≡ true = le-leb 0 s.left (omega arith) in
    sym (ap (λ b. followed (cond b (Ok (tt, record s { left = s.left - 0 })) (fails kinds.Budget s)) (λ x. m)) enough ∙ ap m same)

pub value_begins : (p : ProgramData) (act : Acts) (e : ExprData) (s : State) → value p act e s ≡ (spend (expr_cost e) >> rest_of p act e) s
unfolding value
value_begins p act (tree.Arrow n) s = refl
value_begins p act (tree.Cond c a b) s = refl
value_begins p act (tree.Chain e more) s = refl
value_begins p act (tree.Unary ops e) s = refl
value_begins p act (tree.Postfix e parts) s = no_steps (rest_of p act (tree.Postfix e parts)) s
value_begins p act (tree.Number n) s = refl
value_begins p act (tree.Str t) s = refl
value_begins p act tree.True s = refl
value_begins p act tree.False s = refl
value_begins p act tree.Undefined s = refl
value_begins p act (tree.Template t hs) s = refl
value_begins p act (tree.Path letters.Path t hs) s = refl
value_begins p act (tree.Path letters.File t hs) s = refl
value_begins p act (tree.Path letters.Directory t hs) s = refl
value_begins p act (tree.Path letters.Relative t hs) s = refl
value_begins p act (tree.Path letters.Atom t hs) s = refl
value_begins p act (tree.Name target) s = refl
value_begins p act (tree.Elements es) s = refl
value_begins p act (tree.Object ps) s = refl
