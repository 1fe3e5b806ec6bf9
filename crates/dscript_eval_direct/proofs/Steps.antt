-- What expressions give at once, by what their parts give.
use Rattle.std.proofs.Common.{◌≡◌, ℕ, ◌+◌, ◌-◌, ◌<◌, ◌≤◌, ℤ, Bool, true, false, cond, nat_le, nat_lt, List, [], ◌∷◌, length, map, IfSome, Option, Some, None, Ok, refl, ap, sym, subst, ◌∙◌, arith}
use Rattle.std.specs.Prelude.{is_some, unwrap_or, slice_get}
use Rattle.std.proofs.lemmas.Bool.{le-leb, le-ltb, lt-leb}
use Rattle.dscript_ast.specs.declared.operator.BinaryOp.{BinaryOp}
use Rattle.dscript_program.specs.BoundTree as tree
use Rattle.dscript_program.specs.BoundTree.{ExprData, OperandData, OperandRow, no_operands, more_operands, to_operands}
use Rattle.dscript_program.specs.Views.{expr_data, operand_data}
use Rattle.dscript_program.specs.declared.bound.BoundExpr.{BoundExpr}
use Rattle.dscript_program.specs.declared.bound.BoundOperand.{BoundOperand}
use Rattle.dscript_program.specs.ProgramData as kinds_of
use Rattle.dscript_program.specs.ProgramData.{KindData, ProgramData}
use Rattle.dscript_program.specs.declared.ambient.Ambient.{Ambient as AmbientCall}
use Rattle.dscript_program.specs.declared.target.Target.{Target}
use Rattle.dscript_program.specs.declared.target.Target.TheVariants as targets
use Rattle.dscript_value.specs.Plain as plain
use Rattle.dscript_value.specs.Plain.{Plain, plain_of}
use Rattle.dscript_value.specs.declared.value.Value.{Value}
use Rattle.dscript_value.specs.declared.parts.Callee.TheVariants as callees
use Rattle.dscript_sdk_values.specs.Answers.{function_answer, text_answer}
use Rattle.dscript_eval_operators.specs.Operators.{is_settled, operated}
use Rattle.dscript_eval_operators.specs.Truth.{is_true}
use Rattle.dscript_eval_meaning.specs.Acts.{Acts}
use Rattle.dscript_eval_meaning.specs.Evaluating.{Gives, answered, fails, followed, gives, spend, step, ◌>>=◌, ◌>>◌}
use Rattle.dscript_eval_meaning.specs.declared.fault.EvalKind.TheVariants as kinds
use Rattle.dscript_eval_meaning.specs.Constants.{by_status, constant, status_in}
use Rattle.dscript_eval_meaning.specs.Expressions.{declared, named, operands, operator_count, value}
use Rattle.dscript_eval_meaning.specs.Lookups.{declared_at}
use Rattle.dscript_eval_meaning.specs.Frames.{captured_value, local_value}
use Rattle.dscript_eval_meaning.specs.States.{Done, State}
use Rattle.dscript_eval_frames.specs.Consts.{const_of}
use Rattle.dscript_eval_direct.specs.Now.{GivesAtOnce, GoesAtOnce, IsAtOnce, Knowledge, Knows, declared_in}

-- steps of which enough are left are spent
pub spent
    : {A : Type 0} (n : ℕ) (m : Gives A) (s : State) (left : ℕ) → n ≤ left
    → (spend n >> m) (record s { left = left }) ≡ m (record s { left = left - n })
spent n m s left le =
    ap (λ b. followed (cond b (Ok (tt, record s { left = left - n })) (fails kinds.Budget (record s { left = left }))) (λ x. m))
    (le-leb n left le)

-- the value of what is chosen
chosen
    : (p : ProgramData) (act : Acts) (flag : Bool) (a b : ExprData) (s : State)
    → cond flag (value p act a) (value p act b) s ≡ value p act (cond flag a b) s
chosen p act true a b s = refl
chosen p act false a b s = refl

-- a constant is no other declaration
of_constant
    : (act : Acts) (file decl : ℕ) (k : Option KindData) → is_some (const_of k) ≡ true
    → declared act file decl k ≡ constant act file decl
of_constant act file decl (Some (kinds_of.Const t e)) is = refl
of_constant act file decl (Some (kinds_of.Function ts t number)) is = absurd (let never : false ≡ true = is in cc)
of_constant act file decl (Some (kinds_of.Interface ts es ms)) is = absurd (let never : false ≡ true = is in cc)
of_constant act file decl (Some (kinds_of.TypeAlias ts t)) is = absurd (let never : false ≡ true = is in cc)
of_constant act file decl None is = absurd (let never : false ≡ true = is in cc)

module _ (known : Knowledge) where
  -- the steps that are left may be written in another way
  pub at_later
      : (e : ExprData) (left : ℕ) (x : Plain) (later other : ℕ) → later ≡ other
      → IsAtOnce known e left x other → IsAtOnce known e left x later
  at_later e left x later other is now =
      let P : ℕ → Type 0 = λ n. IsAtOnce known e left x n in subst P (sym is) now

  pub number_gives
      : (n : ℤ) (x : Plain) (left : ℕ) → x ≡ plain.Number n → 1 ≤ left
      → IsAtOnce known (tree.Number n) left x (left - 1)
  unfolding value
  number_gives n x left is le p act s knows =
      spent 1 (gives (plain.Number n)) s left le ∙ ap (λ y. Ok (y, record s { left = left - 1 })) (sym is)

  -- what a known local holds
  held
      : (p : ProgramData) (s : State) (n : ℕ) (x : Plain) → Knows known p s → nat_lt n known.first ≡ false
      → slice_get known.own (n - known.first) ≡ Some x → local_value s.frame n ≡ x
  held p s n x knows own is =
      let f = s.frame in
      ap (λ k. cond (nat_lt n k) (captured_value f.captured f.held n) (unwrap_or (slice_get f.own (n - k)) plain.Undefined)) knows.first_is
      ∙ ap (λ b. cond b (captured_value f.captured f.held n) (unwrap_or (slice_get f.own (n - known.first)) plain.Undefined)) own
      ∙ ap (λ o. unwrap_or o plain.Undefined) (knows.own_are (n - known.first) x is)

  pub local_gives
      : (target : Target) (n : ℕ) (x : Plain) (left : ℕ) → target ≡ targets.Local n → nat_lt n known.first ≡ false
      → slice_get known.own (n - known.first) ≡ Some x → 1 ≤ left
      → IsAtOnce known (tree.Name target) left x (left - 1)
  unfolding value named
  local_gives target n x left is own there le p act s knows =
      ap (λ t. value p act (tree.Name t) (record s { left = left })) is
      ∙ spent 1 (λ t. Ok (local_value t.frame n, t)) s left le
      ∙ ap (λ y. Ok (y, record s { left = left - 1 })) (held p s n x knows own there)

  -- a constant that was evaluated has its value
  pub constant_gives
      : (target : Target) (file decl : ℕ) (x : Plain) (left : ℕ) → target ≡ targets.Declared file decl
      → is_some (const_of (declared_in known.files file decl)) ≡ true
      → status_in known.constants file decl ≡ Done x → 1 ≤ left
      → IsAtOnce known (tree.Name target) left x (left - 1)
  unfolding value named constant
  constant_gives target file decl x left is const done le p act s knows =
      ap (λ t. value p act (tree.Name t) (record s { left = left })) is
      ∙ spent 1 (declared act file decl (declared_at p file decl)) s left le
      ∙ ap (λ fs. declared act file decl (declared_in fs file decl) (record s { left = left - 1 })) knows.files_are
      ∙ ap (λ g. g (record s { left = left - 1 })) (of_constant act file decl (declared_in known.files file decl) const)
      ∙ ap (λ table. by_status act file decl (status_in table file decl) (record s { left = left - 1 })) knows.constants_are
      ∙ ap (λ status. by_status act file decl status (record s { left = left - 1 })) done

  -- an ambient call is a value
  pub call_value_gives
      : (target : Target) (call : AmbientCall) (x : Plain) (left : ℕ) → target ≡ targets.Ambient call
      → function_answer (callees.Ambient call) [] ≡ Ok x → 1 ≤ left
      → IsAtOnce known (tree.Name target) left x (left - 1)
  unfolding value named
  call_value_gives target call x left is there le p act s knows =
      ap (λ t. value p act (tree.Name t) (record s { left = left })) is
      ∙ spent 1 (answered (function_answer (callees.Ambient call) [])) s left le
      ∙ ap (λ o. answered o (record s { left = left - 1 })) there

  pub text_gives
      : (text : List ℕ) (x : Plain) (left : ℕ) → text_answer text ≡ Ok x → 1 ≤ left
      → IsAtOnce known (tree.Str text) left x (left - 1)
  unfolding value
  text_gives text x left there le p act s knows =
      spent 1 (answered (text_answer text)) s left le ∙ ap (λ o. answered o (record s { left = left - 1 })) there

  -- the steps of a chain, its first operand and the others
  pub chain_gives
      : (e : ExprData) (more : OperandRow) (x y : Plain) (left mid later : ℕ)
      → operator_count more ≤ left
      → IsAtOnce known e (left - operator_count more) x mid → GoesAtOnce known more x mid y later
      → IsAtOnce known (tree.Chain e more) left y later
  unfolding value
  chain_gives e more x y left mid later le head rest p act s knows =
      spent (operator_count more) (value p act e >>= λ z. operands p act more z) s left le
      ∙ ap (λ r. followed r (λ z. operands p act more z)) (head p act s knows)
      ∙ rest p act s knows

  pub no_more : (x : Plain) (left : ℕ) → GoesAtOnce known no_operands x left x left
  unfolding operands
  no_more x left p act s knows = refl

  pub settled_more
      : (o : OperandData) (op : BinaryOp) (e : ExprData) (more : OperandRow) (x w : Plain) (left later : ℕ)
      → o ≡ tree.Operand op e → is_settled op x ≡ true → GoesAtOnce known more x left w later
      → GoesAtOnce known (more_operands o more) x left w later
  unfolding operands
  settled_more o op e more x w left later o_is holds rest p act s knows =
      ap (λ d. operands p act (more_operands d more) x (record s { left = left })) o_is
      ∙ ap (λ b. cond b (operands p act more x)
      (value p act e >>= λ a. answered (operated op x a) >>= λ c. operands p act more c) (record s { left = left })) holds
      ∙ rest p act s knows

  pub one_more
      : (o : OperandData) (op : BinaryOp) (e : ExprData) (more : OperandRow) (x y z w : Plain) (left mid later : ℕ)
      → o ≡ tree.Operand op e → is_settled op x ≡ false → IsAtOnce known e left y mid → operated op x y ≡ Ok z
      → GoesAtOnce known more z mid w later
      → GoesAtOnce known (more_operands o more) x left w later
  unfolding operands
  one_more o op e more x y z w left mid later o_is never right is rest p act s knows =
      ap (λ d. operands p act (more_operands d more) x (record s { left = left })) o_is
      ∙ ap (λ b. cond b (operands p act more x)
      (value p act e >>= λ a. answered (operated op x a) >>= λ c. operands p act more c) (record s { left = left })) never
      ∙ ap (λ r. followed r (λ a. answered (operated op x a) >>= λ c. operands p act more c)) (right p act s knows)
      ∙ ap (λ o. followed (answered o (record s { left = mid })) (λ c. operands p act more c)) is
      ∙ rest p act s knows

  pub cond_gives
      : (c a b : ExprData) (flag : Bool) (x y : Plain) (left mid later : ℕ)
      → 1 ≤ left → IsAtOnce known c (left - 1) x mid → is_true x ≡ flag
      → IsAtOnce known (cond flag a b) mid y later
      → IsAtOnce known (tree.Cond c a b) left y later
  unfolding value
  cond_gives c a b flag x y left mid later le head is rest p act s knows =
      spent 1 (value p act c >>= λ z. cond (is_true z) (value p act a) (value p act b)) s left le
      ∙ ap (λ r. followed r (λ z. cond (is_true z) (value p act a) (value p act b))) (head p act s knows)
      ∙ ap (λ t. cond t (value p act a) (value p act b) (record s { left = mid })) is
      ∙ chosen p act flag a b (record s { left = mid })
      ∙ rest p act s knows

  -- ## What calls find

  pub found_as
      : (r : Option (Value × ℕ)) (e d : ExprData) (left : ℕ) → e ≡ d
      → IfSome r (λ y. IsAtOnce known d left (plain_of y.0) y.1)
      → IfSome r (λ y. IsAtOnce known e left (plain_of y.0) y.1)
  found_as (Some y) e d left is now =
      let P : ExprData → Type 0 = λ a. IsAtOnce known a left (plain_of y.0) y.1 in subst P (sym is) now
  found_as None e d left is now = now

  pub chain_found
      : (r : Option (Value × ℕ)) (e : ExprData) (more : OperandRow) (x : Plain) (left n after mid : ℕ)
      → operator_count more ≡ n → n ≤ left → after ≡ left - n → IsAtOnce known e after x mid
      → IfSome r (λ y. GoesAtOnce known more x mid (plain_of y.0) y.1)
      → IfSome r (λ y. IsAtOnce known (tree.Chain e more) left (plain_of y.0) y.1)
  chain_found (Some y) e more x left n after mid count le is head rest =
      let P : ℕ → Type 0 = λ k. IsAtOnce known e k x mid in
      let Q : ℕ → Type 0 = λ k. k ≤ left in
      chain_gives e more x (plain_of y.0) left mid y.1 (subst Q (sym count) le)
      (subst P (is ∙ ap (λ k. left - k) (sym count)) head) rest
  chain_found None e more x left n after mid count le is head rest = rest

  pub then_found
      : (r : Option (Value × ℕ)) (c a b : ExprData) (x : Plain) (left after mid : ℕ)
      → 1 ≤ left → after ≡ left - 1 → IsAtOnce known c after x mid → is_true x ≡ true
      → IfSome r (λ y. IsAtOnce known a mid (plain_of y.0) y.1)
      → IfSome r (λ y. IsAtOnce known (tree.Cond c a b) left (plain_of y.0) y.1)
  then_found (Some y) c a b x left after mid le is head holds rest =
      let P : ℕ → Type 0 = λ k. IsAtOnce known c k x mid in
      cond_gives c a b true x (plain_of y.0) left mid y.1 le (subst P is head) holds rest
  then_found None c a b x left after mid le is head holds rest = rest

  pub other_found
      : (r : Option (Value × ℕ)) (c a b : ExprData) (x : Plain) (left after mid : ℕ)
      → 1 ≤ left → after ≡ left - 1 → IsAtOnce known c after x mid → is_true x ≡ false
      → IfSome r (λ y. IsAtOnce known b mid (plain_of y.0) y.1)
      → IfSome r (λ y. IsAtOnce known (tree.Cond c a b) left (plain_of y.0) y.1)
  other_found (Some y) c a b x left after mid le is head never rest =
      let P : ℕ → Type 0 = λ k. IsAtOnce known c k x mid in
      cond_gives c a b false x (plain_of y.0) left mid y.1 le (subst P is head) never rest
  other_found None c a b x left after mid le is head never rest = rest

  pub operand_found
      : (r : Option (Value × ℕ)) (o : OperandData) (op : BinaryOp) (e : ExprData) (x y : Plain) (left mid : ℕ)
      → o ≡ tree.Operand op e → is_settled op x ≡ false → IsAtOnce known e left y mid
      → IfSome r (λ z. operated op x y ≡ Ok (plain_of z.0)) → IfSome r (λ z. z.1 ≡ mid)
      → IfSome r (λ z. (more : OperandRow) (w : Plain) (later : ℕ) → GoesAtOnce known more (plain_of z.0) z.1 w later
      → GoesAtOnce known (more_operands o more) x left w later)
  operand_found (Some z) o op e x y left mid o_is never right is steps = λ more w later rest.
      let P : ℕ → Type 0 = λ k. GoesAtOnce known more (plain_of z.0) k w later in
      one_more o op e more x y (plain_of z.0) w left mid later o_is never right is (subst P steps rest)
  operand_found None o op e x y left mid o_is never right is steps = is

  pub none_left
      : (os : List BoundOperand) (x : Plain) (left : ℕ) → length os ≡ 0
      → GoesAtOnce known (to_operands (map operand_data os)) x left x left
  none_left [] x left none = no_more x left
  none_left (o ∷ os) x left none = absurd (omega (arith, none))

  pub next_left
      : (os others : List BoundOperand) (o : BoundOperand) (x y : Plain) (left later : ℕ) → os ≡ o ∷ others
      → GoesAtOnce known (more_operands (operand_data o) (to_operands (map operand_data others))) x left y later
      → GoesAtOnce known (to_operands (map operand_data os)) x left y later
  next_left os others o x y left later is now =
      let P : List BoundOperand → Type 0 = λ l. GoesAtOnce known (to_operands (map operand_data l)) x left y later in
      subst P (sym is) now

-- ## The parts of nodes, where they are read

pub chain_from
    : (t : ExprData) (f d : BoundExpr) (v l : List BoundOperand)
    → t ≡ tree.Chain (expr_data f) (to_operands (map operand_data v)) → d ≡ f → l ≡ v
    → t ≡ tree.Chain (expr_data d) (to_operands (map operand_data l))
chain_from t f d v l e p q =
    e
    ∙ ap (λ y. tree.Chain (expr_data y) (to_operands (map operand_data v))) (sym p)
    ∙ ap (λ y. tree.Chain (expr_data d) (to_operands (map operand_data y))) (sym q)

pub cond_from
    : (t : ExprData) (a b d a' b' d' : BoundExpr) → t ≡ tree.Cond (expr_data a) (expr_data b) (expr_data d) → a' ≡ a
    → b' ≡ b → d' ≡ d → t ≡ tree.Cond (expr_data a') (expr_data b') (expr_data d')
cond_from t a b d a' b' d' e p q r =
    e
    ∙ ap (λ y. tree.Cond (expr_data y) (expr_data b) (expr_data d)) (sym p)
    ∙ ap (λ y. tree.Cond (expr_data a') (expr_data y) (expr_data d)) (sym q)
    ∙ ap (λ y. tree.Cond (expr_data a') (expr_data b') (expr_data y)) (sym r)
