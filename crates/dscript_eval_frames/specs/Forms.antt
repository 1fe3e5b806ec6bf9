-- What is left of an expression once its own steps are spent.
use Rattle.std.specs.Prelude.{ℕ, Bool, true, false, if◌then◌else◌, List, [], ◌∷◌, ◌++◌, Option, Some, None}
use Rattle.dscript_ast.specs.declared.expr.PathKind.{PathKind}
use Rattle.dscript_ast.specs.declared.expr.PathKind.TheVariants as letters
use Rattle.dscript_ast.specs.declared.operator.UnaryOp.{UnaryOp}
use Rattle.dscript_program.specs.BoundTree as tree
use Rattle.dscript_program.specs.BoundTree.{ElementRow, ExprData, ExprRow, HoleRow, OperandRow, PartData}
use Rattle.dscript_program.specs.BoundTree.{PartRow, PropRow}
use Rattle.dscript_program.specs.BoundTree.{StmtData, more_parts}
use Rattle.dscript_program.specs.ProgramData.{ProgramData}
use Rattle.dscript_value.specs.Plain as plain
use Rattle.dscript_value.specs.Plain.{Plain, PlainField}
use Rattle.dscript_sdk_values.specs.Answers.{list_answer, text_answer}
use Rattle.dscript_sdk_values.specs.Kinds.{items_in}
use Rattle.dscript_eval_operators.specs.Indexing.{indexed}
use Rattle.dscript_eval_operators.specs.Operators.{prefixed}
use Rattle.dscript_eval_operators.specs.RelativeLiterals.{atom_literal, relative_literal}
use Rattle.dscript_eval_operators.specs.Texts.{literal_hole, template_hole}
use Rattle.dscript_eval_operators.specs.Truth.{is_true}
use Rattle.dscript_eval_meaning.specs.Acts.{Acts}
use Rattle.dscript_sdk_members.specs.declared.member.Member.TheVariants as members
use Rattle.dscript_eval_meaning.specs.Callbacks.{callbacks}
use Rattle.dscript_eval_meaning.specs.Calls.{Named, Whole, applied, method}
use Rattle.dscript_eval_meaning.specs.Evaluating.{Gives, answered, gives, step, ◌>>=◌, ◌>>◌}
use Rattle.dscript_eval_meaning.specs.Expressions.{after, arguments, arrow, elements, fields, hole_texts, named}
use Rattle.dscript_eval_meaning.specs.Expressions.{operands}
use Rattle.dscript_eval_meaning.specs.Expressions.{path_holes, value}
use Rattle.dscript_eval_meaning.specs.Frames.{bind}
use Rattle.dscript_eval_meaning.specs.Meaning.{acts}
use Rattle.dscript_eval_meaning.specs.Statements.{Way, Back, On, all, does, next, otherwise, turns}
use Rattle.dscript_eval_frames.specs.Views.{View}
use Rattle.dscript_eval_frames.specs.Works.{ended, reader, used}
use Rattle.dscript_eval_frames.specs.Made.{object_answer}
use Rattle.dscript_eval_frames.specs.declared.work.Literal.{Literal}
use Rattle.dscript_eval_frames.specs.declared.work.Callback.{Callback}
use Rattle.dscript_eval_frames.specs.declared.work.Callback.TheVariants as callback_kinds
use Rattle.dscript_eval_frames.specs.declared.work.Use.{Use}

module _ (p : ProgramData) (act : Acts) where
  abbrev pub cond_form : ExprData → ExprData → ExprData → Gives Plain
  cond_form c a b = value p act c >>= λ x. if is_true x then value p act a else value p act b

  abbrev pub chain_form : ExprData → OperandRow → Gives Plain
  chain_form e more = value p act e >>= λ x. operands p act more x

  abbrev pub unary_form : List UnaryOp → ExprData → Gives Plain
  unary_form ops e = value p act e >>= λ x. answered (prefixed ops x)

  abbrev pub postfix_form : ExprData → PartRow → Gives Plain
  postfix_form e parts = value p act e >>= λ x. after p act parts (Whole x)

  abbrev pub template_form : List ℕ → HoleRow → Gives Plain
  template_form text holes =
      hole_texts p act template_hole holes >>= λ rest. answered (text_answer (text ++ rest))

  abbrev pub literal_form : Literal → List ℕ → HoleRow → Gives Plain
  literal_form literal text holes =
      hole_texts p act (reader literal) holes >>= λ rest. ended p literal (text ++ rest)

  abbrev pub path_form : PathKind → List ℕ → HoleRow → Gives Plain
  path_form letters.Relative text holes =
      hole_texts p act literal_hole holes >>= λ rest. answered (relative_literal (text ++ rest))
  path_form letters.Atom text holes =
      hole_texts p act literal_hole holes >>= λ rest. answered (atom_literal (text ++ rest))
  path_form letter text holes = path_holes p act letter text holes

  abbrev pub list_form : ElementRow → Gives Plain
  list_form es = elements p act es [] >>= λ items. answered (list_answer items)

  abbrev pub object_form : PropRow → Gives Plain
  object_form ps = fields p act ps >>= λ found. answered (object_answer found)

  -- the value of a field, which goes after these fields, and then the other properties
  abbrev pub field_form : List ℕ → List PlainField → PropRow → Gives Plain → Gives Plain
  field_form name done more m =
      m >>= λ x. fields p act more >>= λ found. answered (object_answer (done ++ (name, x) ∷ found))

  abbrev pub rest_of : ExprData → Gives Plain
  rest_of (tree.Number n) = gives (plain.Number n)
  rest_of (tree.Str text) = answered (text_answer text)
  rest_of tree.True = gives (plain.Flag true)
  rest_of tree.False = gives (plain.Flag false)
  rest_of tree.Undefined = gives plain.Undefined
  rest_of (tree.Template text holes) = template_form text holes
  rest_of (tree.Path letter text holes) = path_form letter text holes
  rest_of (tree.Elements es) = list_form es
  rest_of (tree.Object ps) = object_form ps
  rest_of (tree.Name target) = named p act target
  rest_of (tree.Arrow number) = arrow p number
  rest_of (tree.Cond c a b) = cond_form c a b
  rest_of (tree.Chain e more) = chain_form e more
  rest_of (tree.Unary ops e) = unary_form ops e
  rest_of (tree.Postfix e parts) = postfix_form e parts

-- what is left of a part after a value, and of the parts after it, once the step of the part is spent
abbrev pub part_form : ProgramData → Acts → Plain → PartData → PartRow → Gives Plain
part_form p act x (tree.Member name) more = after p act more (Named x name)
part_form p act x (tree.Index e) more =
    value p act e >>= λ i. answered (indexed x i) >>= λ y. after p act more (Whole y)
part_form p act f (tree.Call args) more =
    (arguments p act args >>= λ xs. applied p act f xs) >>= λ y. after p act more (Whole y)

-- the arguments of a call, the call, and the parts after it
abbrev pub call_form : ProgramData → Acts → ExprRow → Use → PartRow → Gives Plain
call_form p act args use' more =
    (arguments p act args >>= λ xs. used p act use' xs) >>= λ y. after p act more (Whole y)

-- the arguments of a call, the call of a member function of a value, and the parts after it
abbrev pub method_form : ProgramData → Acts → Plain → List ℕ → ExprRow → PartRow → Gives Plain
method_form p act x name args more =
    (arguments p act args >>= λ xs. method act x name xs) >>= λ y. after p act more (Whole y)

-- the step of that call, and then all of this
abbrev pub method_step_form : ProgramData → Acts → Plain → List ℕ → ExprRow → PartRow → Gives Plain
method_step_form p act x name args more = step >> method_form p act x name args more

-- whether the first part is a call
abbrev pub begins_with_call : PartRow → Bool
begins_with_call (more_parts (tree.Call args) more) = true
begins_with_call _ = false

-- a local holds no value yet
abbrev pub unset_form : ℕ → Gives Way
unset_form n = bind n plain.Undefined >> gives On

module _ (p : ProgramData) (act : Acts) where
  abbrev pub bind_form : ℕ → ExprData → Gives Way
  bind_form n e = value p act e >>= λ x. bind n x >> gives On

  -- a local holds the value of an expression, or no value yet
  abbrev pub let_form : ℕ → Option ExprData → Gives Way
  let_form n None = unset_form n
  let_form n (Some e) = bind_form n e

  -- the body returns the value of an expression, or none
  abbrev pub return_form : Option ExprData → Gives Way
  return_form None = gives (Back plain.Undefined)
  return_form (Some e) = value p act e >>= λ x. gives (Back x)

  -- what is left of a statement once its step is spent
  abbrev pub stmt_form : StmtData → Gives Way
  stmt_form (tree.Const n t e) = bind_form n e
  stmt_form (tree.Let n t e) = let_form n e
  stmt_form (tree.Assign n e) = bind_form n e
  stmt_form (tree.If c s other) =
      value p act c >>= λ x. if is_true x then does p act s else otherwise p act other
  stmt_form (tree.For kind n list s) =
      value p act list >>= λ xs. answered (items_in xs) >>= λ items. turns n (does p act s) items
  stmt_form (tree.Return e) = return_form e
  stmt_form (tree.Value e) = value p act e >>= λ x. gives On
  stmt_form (tree.Block ss) = all p act ss
  stmt_form tree.Empty = gives On

  -- a turn of a loop with an item, once its step is spent, and the turns with the others
  abbrev pub turn_form : ℕ → StmtData → Plain → List Plain → Gives Way
  turn_form n s x others = bind n x >> does p act s >>= λ way. next way (turns n (does p act s) others)

-- the call of a member that calls functions
abbrev pub each_form : Acts → Callback → List Plain → List Plain → Gives Plain
each_form act callback_kinds.Map items args = callbacks act (Some members.Map) items args
each_form act callback_kinds.Filter items args = callbacks act (Some members.Filter) items args
each_form act callback_kinds.MapMany items args = callbacks act (Some members.MapMany) items args
each_form act callback_kinds.Reduce items args = callbacks act (Some members.Reduce) items args

-- how opened calls are evaluated where the machine is
abbrev pub acts_at : View → Acts
acts_at v = acts v.program v.openable

abbrev pub value_at : View → ExprData → Gives Plain
value_at v e = value v.program (acts_at v) e

abbrev pub rest_at : View → ExprData → Gives Plain
rest_at v e = rest_of v.program (acts_at v) e
