-- The meaning of each form, one equation at a time.
use Rattle.std.proofs.Common.{◌≡◌, ℕ, true, false, if◌then◌else◌, List, [], ◌∷◌, ◌++◌, Option, Some, None, refl}
use Rattle.dscript_ast.specs.declared.operator.BinaryOp.{BinaryOp}
use Rattle.dscript_program.specs.BoundTree as tree
use Rattle.dscript_program.specs.BoundTree.{ElementRow, ExprData, ExprRow, HoleRow, OperandRow, PartRow, PropRow}
use Rattle.dscript_program.specs.BoundTree.{MaybeStmt, StmtData, StmtRow, no_stmt, a_stmt, no_stmts, more_stmts}
use Rattle.dscript_program.specs.BoundTree.{no_elements, more_elements, no_exprs, more_exprs, no_holes, more_holes}
use Rattle.dscript_program.specs.BoundTree.{no_operands, more_operands, no_parts, more_parts, no_props, more_props}
use Rattle.dscript_program.specs.ProgramData.{ProgramData}
use Rattle.dscript_program.specs.declared.target.Target.{Target}
use Rattle.dscript_value.specs.Plain.{Plain, PlainField}
use Rattle.dscript_sdk_values.specs.Outcomes.{Outcome}
use Rattle.dscript_eval_operators.specs.Indexing.{indexed}
use Rattle.dscript_eval_operators.specs.Operators.{is_settled, operated}
use Rattle.dscript_eval_operators.specs.Spreads.{spread_fields, with_items_of}
use Rattle.dscript_eval_meaning.specs.Acts.{Acts}
use Rattle.dscript_eval_meaning.specs.Calls.{Subject, Named, Whole, subject_call, whole}
use Rattle.dscript_eval_meaning.specs.Evaluating.{Gives, answered, gives, step, ◌>>=◌, ◌>>◌}
use Rattle.dscript_eval_meaning.specs.Expressions.{after, arguments, elements, fields, hole_texts, named, operands, value}
use Rattle.dscript_eval_meaning.specs.States.{State}

module _ (p : ProgramData) (act : Acts) (s : State) where
  -- chains
  pub no_operands-is : (x : Plain) → operands p act no_operands x s ≡ gives x s
  unfolding operands
  no_operands-is x = refl

  pub operands-are
      : (op : BinaryOp) (e : ExprData) (more : OperandRow) (x : Plain)
      → operands p act (more_operands (tree.Operand op e) more) x s
      ≡ (if is_settled op x then operands p act more x
      else (value p act e >>= λ y. answered (operated op x y) >>= λ z. operands p act more z)) s
  unfolding operands
  operands-are op e more x = refl

  -- parts
  pub no_parts-is : (subject : Subject) → after p act no_parts subject s ≡ whole subject s
  unfolding after
  no_parts-is subject = refl

  pub member-is
      : (name : List ℕ) (more : PartRow) (subject : Subject)
      → after p act (more_parts (tree.Member name) more) subject s
      ≡ (whole subject >>= λ x. step >> after p act more (Named x name)) s
  unfolding after
  member-is name more subject = refl

  pub index-is
      : (e : ExprData) (more : PartRow) (subject : Subject)
      → after p act (more_parts (tree.Index e) more) subject s
      ≡ (whole subject >>= λ x. step >> value p act e >>= λ i. answered (indexed x i)
      >>= λ y. after p act more (Whole y)) s
  unfolding after
  index-is e more subject = refl

  pub call-is
      : (args : ExprRow) (more : PartRow) (subject : Subject)
      → after p act (more_parts (tree.Call args) more) subject s
      ≡ (subject_call p act (arguments p act args) subject >>= λ y. after p act more (Whole y)) s
  unfolding after
  call-is args more subject = refl

  -- arguments
  pub no_arguments-is : arguments p act no_exprs s ≡ gives [] s
  unfolding arguments
  no_arguments-is = refl

  pub arguments-are
      : (e : ExprData) (more : ExprRow)
      → arguments p act (more_exprs e more) s
      ≡ (value p act e >>= λ x. arguments p act more >>= λ xs. gives (x ∷ xs)) s
  unfolding arguments
  arguments-are e more = refl

  -- elements
  pub no_elements-is : (done : List Plain) → elements p act no_elements done s ≡ gives done s
  unfolding elements
  no_elements-is done = refl

  pub element-is
      : (e : ExprData) (more : ElementRow) (done : List Plain)
      → elements p act (more_elements (tree.Element false e) more) done s
      ≡ (value p act e >>= λ x. elements p act more (done ++ x ∷ [])) s
  unfolding elements
  element-is e more done = refl

  pub spread-is
      : (e : ExprData) (more : ElementRow) (done : List Plain)
      → elements p act (more_elements (tree.Element true e) more) done s
      ≡ (value p act e >>= λ x. answered (with_items_of done x) >>= λ items. elements p act more items) s
  unfolding elements
  spread-is e more done = refl

  -- properties
  pub no_fields-is : fields p act no_props s ≡ gives [] s
  unfolding fields
  no_fields-is = refl

  pub named-is
      : (name : List ℕ) (e : ExprData) (more : PropRow)
      → fields p act (more_props (tree.Named name e) more) s
      ≡ (value p act e >>= λ x. fields p act more >>= λ found. gives ((name, x) ∷ found)) s
  unfolding fields
  named-is name e more = refl

  pub quoted-is
      : (name : List ℕ) (e : ExprData) (more : PropRow)
      → fields p act (more_props (tree.Quoted name e) more) s
      ≡ (value p act e >>= λ x. fields p act more >>= λ found. gives ((name, x) ∷ found)) s
  unfolding fields
  quoted-is name e more = refl

  pub short-is
      : (name : List ℕ) (target : Target) (more : PropRow)
      → fields p act (more_props (tree.Short name target) more) s
      ≡ (step >> named p act target >>= λ x. fields p act more >>= λ found. gives ((name, x) ∷ found)) s
  unfolding fields
  short-is name target more = refl

  pub spread_fields-are
      : (e : ExprData) (more : PropRow)
      → fields p act (more_props (tree.Spread e) more) s
      ≡ (value p act e >>= λ x. answered (spread_fields x) >>= λ these.
      fields p act more >>= λ found. gives (these ++ found)) s
  unfolding fields
  spread_fields-are e more = refl

  -- holes
  pub no_holes-is : (read : Plain → Outcome (List ℕ)) → hole_texts p act read no_holes s ≡ gives [] s
  unfolding hole_texts
  no_holes-is read = refl

  pub holes-are
      : (read : Plain → Outcome (List ℕ)) (e : ExprData) (text : List ℕ) (more : HoleRow)
      → hole_texts p act read (more_holes (tree.Hole e text) more) s
      ≡ (value p act e >>= λ x. answered (read x) >>= λ hole.
      hole_texts p act read more >>= λ rest. gives (hole ++ text ++ rest)) s
  unfolding hole_texts
  holes-are read e text more = refl
