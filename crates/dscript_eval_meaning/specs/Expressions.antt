-- The value of an expression: the steps that it takes, and then what it comes to, from left to right.
use Rattle.std.specs.Prelude.{ℕ, ◌+◌, true, false, if◌then◌else◌, unwrap_or, List, [], ◌∷◌, ◌++◌, length}
use Rattle.std.specs.Prelude.{Option, Some, None}
use Rattle.bx_tree.specs.Paths.{Atoms}
use Rattle.bx_path.specs.Joining.{parent}
use Rattle.dscript_ast.specs.declared.expr.PathKind.{PathKind}
use Rattle.dscript_ast.specs.declared.expr.PathKind.TheVariants as letters
use Rattle.dscript_value.specs.declared.parts.Callee.TheVariants as callees
use Rattle.dscript_value.specs.Depths.{object_value}
use Rattle.dscript_value.specs.Plain as plain
use Rattle.dscript_value.specs.Plain.{Plain, PlainField}
use Rattle.dscript_sdk_values.specs.declared.fault.SdkFault.TheVariants.{Range}
use Rattle.dscript_sdk_values.specs.Answers.{function_answer, list_answer, text_answer}
use Rattle.dscript_sdk_values.specs.Outcomes.{Outcome, unless_none}
use Rattle.dscript_program.specs.BoundTree as tree
use Rattle.dscript_program.specs.BoundTree.{ExprData, OperandRow, PartRow, ExprRow, ElementRow, PropRow}
use Rattle.dscript_program.specs.BoundTree.{HoleRow, no_exprs, more_exprs, no_operands, more_operands}
use Rattle.dscript_program.specs.BoundTree.{no_parts, more_parts, no_elements, more_elements, no_props}
use Rattle.dscript_program.specs.BoundTree.{more_props, no_holes, more_holes}
use Rattle.dscript_program.specs.ProgramData as kinds
use Rattle.dscript_program.specs.ProgramData.{FunctionData, KindData, ProgramData}
use Rattle.dscript_program.specs.declared.target.Target.{Target}
use Rattle.dscript_program.specs.declared.target.Target.TheVariants as targets
use Rattle.dscript_eval_operators.specs.Indexing.{indexed}
use Rattle.dscript_eval_operators.specs.Operators.{is_settled, operated, prefixed}
use Rattle.dscript_eval_operators.specs.PathLiterals.{first_hole, path_literal}
use Rattle.dscript_eval_operators.specs.RelativeLiterals.{atom_literal, relative_literal}
use Rattle.dscript_eval_operators.specs.Spreads.{spread_fields, with_items_of}
use Rattle.dscript_eval_operators.specs.Texts.{literal_hole, template_hole}
use Rattle.dscript_eval_operators.specs.Truth.{is_true}
use Rattle.dscript_eval_meaning.specs.declared.fault.EvalKind.TheVariants as faults
use Rattle.dscript_eval_meaning.specs.Acts.{Acts}
use Rattle.dscript_eval_meaning.specs.Calls.{Subject, Named, Whole, subject_call, whole}
use Rattle.dscript_eval_meaning.specs.Constants.{constant}
use Rattle.dscript_eval_meaning.specs.Evaluating.{Gives, answered, fails, gives, spend, step, ◌>>=◌, ◌>>◌}
use Rattle.dscript_eval_meaning.specs.Frames.{captures, local}
use Rattle.dscript_eval_meaning.specs.Lookups.{declared_at, function_at, path_at}
use Rattle.dscript_eval_meaning.specs.States.{State}

-- the directory of the file of the running body
abbrev pub directory : ProgramData → State → Atoms
directory p s = unwrap_or (parent (path_at p s.frame.file)) []

-- what a path, file or directory literal in the file of the running body gives
abbrev pub path_value : ProgramData → PathKind → Option Atoms → List ℕ → Gives Plain
path_value p letter base text s = answered (path_literal letter (directory p s) base text) s

abbrev pub captured_of : Option FunctionData → List ℕ
captured_of None = []
captured_of (Some f) = f.captured

-- an arrow function, which holds what its captured locals hold now
unfoldable pub arrow : ProgramData → ℕ → Gives Plain
arrow p number s =
    answered (function_answer (callees.Place number) (captures (captured_of (function_at p number)) s)) s

-- the value of a name of a declaration; types have no values
abbrev pub declared : Acts → ℕ → ℕ → Option KindData → Gives Plain
declared act file decl None = fails faults.Kind
declared act file decl (Some (kinds.Const t e)) = constant act file decl
declared act file decl (Some (kinds.Function ts t number)) =
    answered (function_answer (callees.Place number) [])
declared act file decl (Some (kinds.Interface ts es ms)) = fails faults.Kind
declared act file decl (Some (kinds.TypeAlias ts t)) = fails faults.Kind

-- the value of a name
unfoldable pub named : ProgramData → Acts → Target → Gives Plain
named p act (targets.Local n) = local n
named p act (targets.Declared file decl) = declared act file decl (declared_at p file decl)
named p act (targets.Ambient call) = answered (function_answer (callees.Ambient call) [])

-- how many operators a chain has
abbrev pub operator_count : OperandRow → ℕ
operator_count no_operands = 0
operator_count (more_operands x more) = operator_count more + 1

-- From other modules these functions take the program and the open calls first: `value p act e`.
module _ (p : ProgramData) (act : Acts) where
  unfoldable mutual
    pub value : ExprData → Gives Plain
    -- literals
    value (tree.Number n) = step >> gives (plain.Number n)
    value (tree.Str text) = step >> answered (text_answer text)
    value tree.True = step >> gives (plain.Flag true)
    value tree.False = step >> gives (plain.Flag false)
    value tree.Undefined = step >> gives plain.Undefined
    value (tree.Template text holes) =
        step >> hole_texts template_hole holes >>= λ rest. answered (text_answer (text ++ rest))
    value (tree.Path letters.Relative text holes) =
        step >> hole_texts literal_hole holes >>= λ rest. answered (relative_literal (text ++ rest))
    value (tree.Path letters.Atom text holes) =
        step >> hole_texts literal_hole holes >>= λ rest. answered (atom_literal (text ++ rest))
    value (tree.Path letter text holes) = step >> path_holes letter text holes
    -- lists and objects
    value (tree.Elements es) = step >> elements es [] >>= λ items. answered (list_answer items)
    value (tree.Object ps) =
        step >> fields ps >>= λ found. answered (unless_none Range (object_value found))
    -- names and functions
    value (tree.Name target) = step >> named p act target
    value (tree.Arrow number) = step >> arrow p number
    -- the condition, and then one of the two
    value (tree.Cond c a b) = step >> value c >>= λ x. if is_true x then value a else value b
    -- one step for each operator, before the first operand
    value (tree.Chain e more) = spend (operator_count more) >> value e >>= λ x. operands more x
    value (tree.Unary ops e) = spend (length ops) >> value e >>= λ x. answered (prefixed ops x)
    -- no step but those of the parts
    value (tree.Postfix e parts) = value e >>= λ x. after parts (Whole x)

    -- The operands of a chain after a value, from left to right. One that is settled leaves the next out.
    pub operands : OperandRow → Plain → Gives Plain
    operands no_operands x = gives x
    operands (more_operands (tree.Operand op e) more) x =
        if is_settled op x then operands more x
        else (value e >>= λ y. answered (operated op x y) >>= λ z. operands more z)

    -- the members, indices and calls after a value, each of which takes its step before its index or
    -- arguments
    pub after : PartRow → Subject → Gives Plain
    after no_parts subject = whole subject
    after (more_parts (tree.Member name) more) subject =
        whole subject >>= λ x. step >> after more (Named x name)
    after (more_parts (tree.Index e) more) subject =
        whole subject >>= λ x. step >> value e >>= λ i. answered (indexed x i) >>= λ y. after more (Whole y)
    after (more_parts (tree.Call args) more) subject =
        subject_call p act (arguments args) subject >>= λ y. after more (Whole y)

    pub arguments : ExprRow → Gives (List Plain)
    arguments no_exprs = gives []
    arguments (more_exprs e more) = value e >>= λ x. arguments more >>= λ xs. gives (x ∷ xs)

    -- The items of a list, after those that are done. What is spread is looked at before the next element.
    pub elements : ElementRow → List Plain → Gives (List Plain)
    elements no_elements done = gives done
    elements (more_elements (tree.Element false e) more) done =
        value e >>= λ x. elements more (done ++ x ∷ [])
    elements (more_elements (tree.Element true e) more) done =
        value e >>= λ x. answered (with_items_of done x) >>= λ items. elements more items

    -- the fields of an object as they are written, some of which may have one name
    pub fields : PropRow → Gives (List PlainField)
    fields no_props = gives []
    fields (more_props (tree.Named name e) more) =
        value e >>= λ x. fields more >>= λ found. gives ((name, x) ∷ found)
    fields (more_props (tree.Quoted name e) more) =
        value e >>= λ x. fields more >>= λ found. gives ((name, x) ∷ found)
    fields (more_props (tree.Short name target) more) =
        step >> named p act target >>= λ x. fields more >>= λ found. gives ((name, x) ∷ found)
    fields (more_props (tree.Spread e) more) =
        value e >>= λ x. answered (spread_fields x) >>= λ these.
        fields more >>= λ found. gives (these ++ found)

    -- a path, file or directory literal; a hole with which it begins may be the base
    pub path_holes : PathKind → List ℕ → HoleRow → Gives Plain
    path_holes letter text no_holes = path_value p letter None text
    path_holes letter text (more_holes (tree.Hole e following) more) =
        value e >>= λ x. answered (first_hole text x) >>= λ first.
        hole_texts literal_hole more >>= λ rest. path_value p letter first.0 (first.1 ++ following ++ rest)

    -- the text of holes with what follows each; a hole is looked at before the next
    pub hole_texts : (Plain → Outcome (List ℕ)) → HoleRow → Gives (List ℕ)
    hole_texts read no_holes = gives []
    hole_texts read (more_holes (tree.Hole e text) more) =
        value e >>= λ x. answered (read x) >>= λ hole.
        hole_texts read more >>= λ rest. gives (hole ++ text ++ rest)
