-- Conditions that have been evaluated, and the locals that they speak of.
use Rattle.std.proofs.Common.{◌≡◌, ℕ, ◌-◌, Bool, true, false, cond, not, [], ◌∷◌, Option, Some, None, Result, Ok, Err}
use Rattle.std.proofs.Common.{refl, sym, ap, ◌∙◌, subst, inl, inr}
use Rattle.std.specs.Prelude.{nat_le}
use Rattle.dscript_ast.specs.declared.operator.BinaryOp.{BinaryOp}
use Rattle.dscript_ast.specs.declared.operator.BinaryOp.TheVariants as binary
use Rattle.dscript_ast.specs.declared.operator.UnaryOp.TheVariants as unary
use Rattle.dscript_value.specs.Plain as plain
use Rattle.dscript_value.specs.Plain.{Plain}
use Rattle.dscript_sdk_values.specs.Outcomes.{Outcome}
use Rattle.dscript_program.specs.BoundTree as tree
use Rattle.dscript_program.specs.BoundTree.{ExprData, no_operands, more_operands}
use Rattle.dscript_program.specs.ProgramData.{ProgramData}
use Rattle.dscript_program.specs.declared.target.Target.TheVariants as targets
use Rattle.dscript_eval_operators.specs.Equalities.{is_equal, is_unequal}
use Rattle.dscript_eval_operators.specs.Operators.{is_settled, operated, prefixed}
use Rattle.dscript_eval_operators.specs.Truth.{is_true}
use Rattle.dscript_eval_meaning.specs.declared.fault.EvalKind.TheVariants as faults
use Rattle.dscript_eval_meaning.specs.Acts.{Acts}
use Rattle.dscript_eval_meaning.specs.Evaluating.{Gives, Stop, answered, fails, followed, gives, spend, ◌>>=◌}
use Rattle.dscript_eval_meaning.specs.Expressions.{named, operands, value}
use Rattle.dscript_eval_meaning.specs.Frames.{local_value}
use Rattle.dscript_eval_meaning.specs.States.{Frame, State}
use Rattle.dscript_types_meaning.specs.Narrowing.{Told, told}
use Rattle.dscript_types_laws.proofs.Conditions.{IsThere, SaysThere}
use Rattle.dscript_types_laws.proofs.Pairs.{ok_pair, ok_same}
use Rattle.dscript_types_laws.proofs.Told.{Says, says}

-- ## One thing after another, where it ends well

module _ {A B : Type 0} where
  followed_case
      : (r : Result (A × State) Stop) (f : A → Gives B) (y : B) (after : State) → followed r f ≡ Ok (y, after)
      → (x : A) × (between : State) × (r ≡ Ok (x, between)) × (f x between ≡ Ok (y, after))
  followed_case (Ok r) f y after e = (r.0, r.1, refl, e)
  followed_case (Err stop) f y after e = absurd cc

spent_case
    : (k : ℕ) (s : State) (u : Unit {0}) (after : State) (b : Bool)
    → cond b (Ok (tt, record s { left = s.left - k })) (fails {A = Unit {0}} faults.Budget s) ≡ Ok (u, after)
    → after.frame ≡ s.frame
spent_case k s u after true e = ap (λ (t : State). t.frame) (sym (ok_pair tt u (record s { left = s.left - k }) after e).1)
spent_case k s u after false e = absurd cc

spent_frame : (k : ℕ) (s : State) (u : Unit {0}) (after : State) → spend k s ≡ Ok (u, after) → after.frame ≡ s.frame
spent_frame k s u after e = spent_case k s u after (nat_le k s.left) e

answered_case
    : (o : Outcome Plain) (s : State) (y : Plain) (after : State) → answered o s ≡ Ok (y, after)
    → (o ≡ Ok y) × (after ≡ s)
answered_case (Ok x) s y after e = let q = ok_pair x y s after e in (ap Ok q.0, sym q.1)
answered_case (Err fault) s y after e = absurd cc

-- ## The three conditions

module _ (p : ProgramData) (act : Acts) where
  -- a local that is named
  local_named_is
      : (n : ℕ) (s : State) (x : Plain) (after : State) → value p act (tree.Name (targets.Local n)) s ≡ Ok (x, after)
      → (x ≡ local_value s.frame n) × (after.frame ≡ s.frame)
  unfolding value named
  local_named_is n s x after e =
      let f = followed_case (spend 1 s) (λ u. named p act (targets.Local n)) x after e in
      let same = spent_frame 1 s f.0 f.1 f.2 in
      let is : Ok (local_value f.1.frame n, f.1) ≡ Ok (x, after) = f.3 in
      let q = ok_pair (local_value f.1.frame n) x f.1 after is in
      (sym q.0 ∙ ap (λ (fr : Frame). local_value fr n) same, ap (λ (t : State). t.frame) (sym q.1) ∙ same)

  true_there : (x : Plain) → is_true x ≡ true → x ≡ plain.Undefined → ⊥
  unfolding is_true
  true_there x e is = let no : false ≡ true = ap is_true (sym is) ∙ e in absurd cc

  name_there
      : (n : ℕ) (s : State) (x : Plain) (after : State) → value p act (tree.Name (targets.Local n)) s ≡ Ok (x, after)
      → is_true x ≡ true → IsThere s.frame n
  name_there n s x after e holds undefined =
      let is = local_named_is n s x after e in true_there x holds (is.0 ∙ undefined)

  not_there
      : (n : ℕ) (s : State) (x : Plain) (after : State)
      → value p act (tree.Unary (unary.Not ∷ []) (tree.Name (targets.Local n))) s ≡ Ok (x, after)
      → is_true x ≡ false → IsThere s.frame n
  unfolding value prefixed is_true
  not_there n s x after e holds undefined =
      let f = followed_case (spend 1 s) (λ u. value p act (tree.Name (targets.Local n)) >>= λ a. answered (prefixed (unary.Not ∷ []) a)) x after e in
      let g = followed_case (value p act (tree.Name (targets.Local n)) f.1) (λ a. answered (prefixed (unary.Not ∷ []) a)) x after f.3 in
      let is = local_named_is n f.1 g.0 g.1 g.2 in
      let a = answered_case (prefixed (unary.Not ∷ []) g.0) g.1 x after g.3 in
      let none : g.0 ≡ plain.Undefined = is.0 ∙ ap (λ (fr : Frame). local_value fr n) (spent_frame 1 s f.0 f.1 f.2) ∙ undefined in
      let at : Ok (plain.Flag (not (is_true plain.Undefined))) ≡ Ok x
      = ap (λ (v : Plain). prefixed (unary.Not ∷ []) v) (sym none) ∙ a.0 in
      let flag = ok_same (plain.Flag (not (is_true plain.Undefined))) x at in
      let never : true ≡ false = ap is_true flag ∙ holds in absurd cc

  undefined_is
      : (s : State) (y : Plain) (after : State) → value p act tree.Undefined s ≡ Ok (y, after) → y ≡ plain.Undefined
  unfolding value
  undefined_is s y after e =
      let f = followed_case (spend 1 s) (λ u. gives plain.Undefined) y after e in
      let is : Ok (plain.Undefined, f.1) ≡ Ok (y, after) = f.3 in sym (ok_pair plain.Undefined y f.1 after is).0

  -- what a local that is compared with undefined comes to
  compared_is
      : (op : BinaryOp) (n : ℕ) (s : State) (x : Plain) (after : State) → ((a : Plain) → is_settled op a ≡ false)
      → value p act (tree.Chain (tree.Name (targets.Local n)) (more_operands (tree.Operand op tree.Undefined) no_operands)) s
      ≡ Ok (x, after)
      → operated op (local_value s.frame n) plain.Undefined ≡ Ok x
  unfolding value operands
  compared_is op n s x after unsettled e =
      let rest : Plain → Gives Plain = λ a. operands p act (more_operands (tree.Operand op tree.Undefined) no_operands) a in
      let f = followed_case (spend 1 s) (λ u. value p act (tree.Name (targets.Local n)) >>= rest) x after e in
      let g = followed_case (value p act (tree.Name (targets.Local n)) f.1) rest x after f.3 in
      let is = local_named_is n f.1 g.0 g.1 g.2 in
      let last : Plain → Gives Plain = λ y. answered (operated op g.0 y) >>= λ z. operands p act no_operands z in
      let opened : followed (value p act tree.Undefined g.1) last ≡ Ok (x, after)
      = subst (λ b. cond b (operands p act no_operands g.0) (value p act tree.Undefined >>= last) g.1 ≡ Ok (x, after))
      (unsettled g.0) g.3 in
      let h = followed_case (value p act tree.Undefined g.1) last x after opened in
      let y = undefined_is g.1 h.0 h.1 h.2 in
      let k = followed_case (answered (operated op g.0 h.0) h.1) (λ z. operands p act no_operands z) x after h.3 in
      let a = answered_case (operated op g.0 h.0) h.1 k.0 k.1 k.2 in
      let z : Ok (k.0, k.1) ≡ Ok (x, after) = k.3 in
      let same = (ok_pair k.0 x k.1 after z).0 in
      let value_there : g.0 ≡ local_value s.frame n
      = is.0 ∙ ap (λ (fr : Frame). local_value fr n) (spent_frame 1 s f.0 f.1 f.2) in
      ap (λ v. operated op v plain.Undefined) (sym value_there) ∙ ap (operated op g.0) (sym y) ∙ a.0 ∙ ap Ok same

  equal_there
      : (n : ℕ) (s : State) (x : Plain) (after : State)
      → value p act (tree.Chain (tree.Name (targets.Local n)) (more_operands (tree.Operand binary.Equal tree.Undefined) no_operands)) s
      ≡ Ok (x, after)
      → is_true x ≡ false → IsThere s.frame n
  unfolding is_settled operated is_equal is_true
  equal_there n s x after e holds undefined =
      let is = compared_is binary.Equal n s x after (λ a. refl) e in
      let at : operated binary.Equal plain.Undefined plain.Undefined ≡ Ok x = ap (λ v. operated binary.Equal v plain.Undefined) (sym undefined) ∙ is in
      let flag = ok_same (plain.Flag true) x at in
      let no : true ≡ false = ap is_true flag ∙ holds in absurd cc

  unequal_there
      : (n : ℕ) (s : State) (x : Plain) (after : State)
      → value p act (tree.Chain (tree.Name (targets.Local n)) (more_operands (tree.Operand binary.NotEqual tree.Undefined) no_operands)) s
      ≡ Ok (x, after)
      → is_true x ≡ true → IsThere s.frame n
  unfolding is_settled operated is_unequal is_true
  unequal_there n s x after e holds undefined =
      let is = compared_is binary.NotEqual n s x after (λ a. refl) e in
      let at : operated binary.NotEqual plain.Undefined plain.Undefined ≡ Ok x = ap (λ v. operated binary.NotEqual v plain.Undefined) (sym undefined) ∙ is in
      let flag = ok_same (plain.Flag false) x at in
      let no : false ≡ true = ap is_true flag ∙ holds in absurd cc

  -- ## What they say

  says_of
      : (e : ExprData) (t : Told) (s : State) (x : Plain) (after : State) (outcome : Bool) → Says e t
      → value p act e s ≡ Ok (x, after) → is_true x ≡ outcome → outcome ≡ t.1 → IsThere s.frame t.0
  says_of e t s x after outcome (n, inl h) is holds same =
      subst (λ (k : Told). IsThere s.frame k.0) (sym h.1)
      (name_there n s x after (subst (λ d. value p act d s ≡ Ok (x, after)) h.0 is) (holds ∙ same ∙ ap (λ (k : Told). k.1) h.1))
  says_of e t s x after outcome (n, inr (inl h)) is holds same =
      subst (λ (k : Told). IsThere s.frame k.0) (sym h.1)
      (not_there n s x after (subst (λ d. value p act d s ≡ Ok (x, after)) h.0 is) (holds ∙ same ∙ ap (λ (k : Told). k.1) h.1))
  says_of e t s x after outcome (n, inr (inr (op, whole, inl h))) is holds same =
      let chain : ExprData = tree.Chain (tree.Name (targets.Local n)) (more_operands (tree.Operand binary.Equal tree.Undefined) no_operands) in
      let form : e ≡ chain = cc (whole, h.0) in
      subst (λ (k : Told). IsThere s.frame k.0) (sym h.1)
      (equal_there n s x after (subst (λ d. value p act d s ≡ Ok (x, after)) form is) (holds ∙ same ∙ ap (λ (k : Told). k.1) h.1))
  says_of e t s x after outcome (n, inr (inr (op, whole, inr h))) is holds same =
      let chain : ExprData = tree.Chain (tree.Name (targets.Local n)) (more_operands (tree.Operand binary.NotEqual tree.Undefined) no_operands) in
      let form : e ≡ chain = cc (whole, h.0) in
      subst (λ (k : Told). IsThere s.frame k.0) (sym h.1)
      (unequal_there n s x after (subst (λ d. value p act d s ≡ Ok (x, after)) form is) (holds ∙ same ∙ ap (λ (k : Told). k.1) h.1))

  told_says
      : (e : ExprData) (o : Option Told) (s : State) (x : Plain) (after : State) (outcome : Bool) → told e ≡ o
      → value p act e s ≡ Ok (x, after) → is_true x ≡ outcome → SaysThere s.frame outcome o
  told_says e None s x after outcome form is holds = tt
  told_says e (Some t) s x after outcome form is holds = λ same. says_of e t s x after outcome (says e t form) is holds same

  -- a condition that has been evaluated says what typing has of it
  pub condition_says
      : (e : ExprData) (s : State) (x : Plain) (after : State) (outcome : Bool) → value p act e s ≡ Ok (x, after)
      → is_true x ≡ outcome → SaysThere s.frame outcome (told e)
  condition_says e s x after outcome is holds = told_says e (told e) s x after outcome refl is holds
