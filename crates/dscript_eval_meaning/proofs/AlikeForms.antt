-- Each form comes to one outcome, however opened calls are evaluated, unless it stops for a reason that excuses it.
use Rattle.std.proofs.Common.{ℕ, ◌+◌, true, false, List, [], ◌∷◌, ◌++◌, length, Option, Some, None}
use Rattle.dscript_ast.specs.declared.expr.PathKind.{PathKind}
use Rattle.dscript_ast.specs.declared.expr.PathKind.TheVariants as letters
use Rattle.dscript_value.specs.declared.parts.Callee.{Callee}
use Rattle.dscript_value.specs.declared.parts.Callee.TheVariants as callees
use Rattle.dscript_value.specs.Plain as plain
use Rattle.dscript_value.specs.Plain.{Plain, PlainField, item_list}
use Rattle.dscript_sdk_values.specs.Kinds.{items_in}
use Rattle.dscript_sdk_values.specs.Outcomes.{Outcome}
use Rattle.dscript_sdk_members.specs.declared.member.Member.{Member}
use Rattle.dscript_sdk_members.specs.declared.member.Member.TheVariants as members
use Rattle.dscript_sdk_members.specs.Names.{member_named}
use Rattle.dscript_sdk.specs.Members.{is_callback_named, is_function_named}
use Rattle.dscript_program.specs.BoundTree as tree
use Rattle.dscript_program.specs.BoundTree.{ExprData, OperandRow, PartRow, ExprRow, ElementRow, PropRow}
use Rattle.dscript_program.specs.BoundTree.{HoleRow}
use Rattle.dscript_program.specs.BoundTree.{no_exprs, more_exprs, no_operands, more_operands, no_parts}
use Rattle.dscript_program.specs.BoundTree.{more_parts, no_elements, more_elements, no_props, more_props}
use Rattle.dscript_program.specs.BoundTree.{no_holes, more_holes, StmtData, MaybeStmt, no_stmt, a_stmt}
use Rattle.dscript_program.specs.BoundTree.{StmtRow, no_stmts, more_stmts, BodyData, to_stmts}
use Rattle.dscript_program.specs.ProgramData as kinds
use Rattle.dscript_program.specs.ProgramData.{KindData, ProgramData}
use Rattle.dscript_program.specs.declared.target.Target.{Target}
use Rattle.dscript_program.specs.declared.target.Target.TheVariants as targets
use Rattle.dscript_eval_operators.specs.CallbackArguments.{Function}
use Rattle.dscript_eval_operators.specs.Indexing.{indexed}
use Rattle.dscript_eval_meaning.specs.Acts.{Act, Acts, Call, Demand}
use Rattle.dscript_eval_meaning.specs.Callbacks.{callbacks, filtered, joined, mapped, reduced}
use Rattle.dscript_eval_meaning.specs.Calls.{Subject, Named, Whole, applied, call_of_function, held_method, items_of}
use Rattle.dscript_eval_meaning.specs.Calls.{member, method, subject_call, whole}
use Rattle.dscript_eval_meaning.specs.Constants.{by_status, constant, status_in}
use Rattle.dscript_eval_meaning.specs.Evaluating.{Gives, Stop, answered, gives, spend, step, ◌>>=◌, ◌>>◌}
use Rattle.dscript_eval_meaning.specs.Frames.{bind}
use Rattle.dscript_eval_meaning.specs.Expressions.{after, arguments, declared, elements, fields, hole_texts, named}
use Rattle.dscript_eval_meaning.specs.Expressions.{operands, operator_count, path_holes, value}
use Rattle.dscript_eval_meaning.specs.Lookups.{declared_at}
use Rattle.dscript_eval_meaning.specs.States.{Status, Waiting, Running, Done}
use Rattle.dscript_eval_meaning.specs.Statements.{Way, On, Back, all, body_value, does, next, otherwise, turns}
use Rattle.dscript_eval_meaning.proofs.Alike.{Alike, both, bound, choice, same}

module _ (E : Stop → Type 0) (act act' : Acts) (opens : (a : Act) → Alike E Plain (act a) (act' a)) where
  -- ## Callbacks

  mapped_alike
      : (f : Function) (n : ℕ) (xs : List Plain)
      → Alike E (List Plain) (mapped act f n xs) (mapped act' f n xs)
  mapped_alike f n [] = same E _ _
  mapped_alike f n (x ∷ xs) =
      bound E _ _ _ _ _ _ (opens _) (λ y. bound E _ _ _ _ _ _ (mapped_alike f (n + 1) xs) (λ ys. same E _ _))

  filtered_alike
      : (f : Function) (n : ℕ) (xs : List Plain)
      → Alike E (List Plain) (filtered act f n xs) (filtered act' f n xs)
  filtered_alike f n [] = same E _ _
  filtered_alike f n (x ∷ xs) =
      bound E _ _ _ _ _ _ (opens _) (λ y. bound E _ _ _ _ _ _ (filtered_alike f (n + 1) xs) (λ ys. same E _ _))

  joined_alike
      : (f : Function) (n : ℕ) (done xs : List Plain)
      → Alike E (List Plain) (joined act f n done xs) (joined act' f n done xs)
  joined_alike f n done [] = same E _ _
  joined_alike f n done (x ∷ xs) =
      bound E _ _ _ _ _ _ (opens _) (λ y. bound E _ _ _ _ _ _ (same E _ _)
      (λ more. joined_alike f (n + 1) more xs))

  reduced_alike
      : (f : Function) (n : ℕ) (x : Plain) (xs : List Plain)
      → Alike E Plain (reduced act f n x xs) (reduced act' f n x xs)
  reduced_alike f n so_far [] = same E _ _
  reduced_alike f n so_far (x ∷ xs) = bound E _ _ _ _ _ _ (opens _) (λ y. reduced_alike f (n + 1) y xs)

  callbacks_alike
      : (m : Option Member) (items args : List Plain)
      → Alike E Plain (callbacks act m items args) (callbacks act' m items args)
  unfolding callbacks
  callbacks_alike (Some members.Map) items args =
      bound E _ _ _ _ _ _ (same E _ _) (λ f. bound E _ _ _ _ _ _ (mapped_alike f 0 items) (λ ys. same E _ _))
  callbacks_alike (Some members.Filter) items args =
      bound E _ _ _ _ _ _ (same E _ _) (λ f. bound E _ _ _ _ _ _ (filtered_alike f 0 items) (λ ys. same E _ _))
  callbacks_alike (Some members.MapMany) items args =
      bound E _ _ _ _ _ _ (same E _ _) (λ f. bound E _ _ _ _ _ _ (joined_alike f 0 [] items) (λ ys. same E _ _))
  callbacks_alike (Some members.Reduce) items args =
      bound E _ _ _ _ _ _ (same E _ _) (λ r. reduced_alike r.0 0 r.1 items)
  callbacks_alike _ items args = same E _ _

  -- ## Calls

  method_alike
      : (x : Plain) (name : List ℕ) (args : List Plain)
      → Alike E Plain (method act x name args) (method act' x name args)
  unfolding method
  method_alike x name args =
      choice E _ (is_callback_named name x) _ _ _ _ (callbacks_alike (member_named name) (items_of x) args)
      (same E _ _)

  pub held_method_alike
      : (held : List Plain) (name : List ℕ) (args : List Plain)
      → Alike E Plain (held_method act held name args) (held_method act' held name args)
  held_method_alike [] name args = same E _ _
  held_method_alike (x ∷ others) name args = method_alike x name args

  called_alike
      : (p : ProgramData) (callee : Callee) (held args : List Plain)
      → Alike E Plain (call_of_function p act callee held args) (call_of_function p act' callee held args)
  called_alike p (callees.Place number) held args = opens (Call (callees.Place number) held args)
  called_alike p (callees.Ambient name) held args = same E _ _
  called_alike p (callees.Member name) held args = held_method_alike held name args

  applied_alike
      : (p : ProgramData) (f : Plain) (args : List Plain)
      → Alike E Plain (applied p act f args) (applied p act' f args)
  unfolding applied
  applied_alike p (plain.Function callee depth held) args = called_alike p callee (item_list held) args
  applied_alike p _ args = same E _ _

  method_call
      : (xs xs' : Gives (List Plain)) → Alike E (List Plain) xs xs' → (x : Plain) (name : List ℕ)
      → Alike E Plain (step >> xs >>= λ args. method act x name args)
      (step >> xs' >>= λ args. method act' x name args)
  method_call xs xs' alike x name =
      both E _ _ _ _ _ _ (same E _ step) (bound E _ _ _ _ _ _ alike (λ args. method_alike x name args))

  value_call
      : (p : ProgramData) (xs xs' : Gives (List Plain)) → Alike E (List Plain) xs xs' → (f : Plain)
      → Alike E Plain (step >> xs >>= λ args. applied p act f args)
      (step >> xs' >>= λ args. applied p act' f args)
  value_call p xs xs' alike f =
      both E _ _ _ _ _ _ (same E _ step) (bound E _ _ _ _ _ _ alike (λ args. applied_alike p f args))

  member_call
      : (p : ProgramData) (xs xs' : Gives (List Plain))
      → Alike E (List Plain) xs xs' → (x : Plain) (name : List ℕ)
      → Alike E Plain (member x name >>= λ f. step >> xs >>= λ args. applied p act f args)
      (member x name >>= λ f. step >> xs' >>= λ args. applied p act' f args)
  member_call p xs xs' alike x name =
      bound E _ _ _ _ _ _ (same E _ (member x name)) (λ f. value_call p xs xs' alike f)

  subject_alike
      : (p : ProgramData) (xs xs' : Gives (List Plain)) → Alike E (List Plain) xs xs' → (subject : Subject)
      → Alike E Plain (subject_call p act xs subject) (subject_call p act' xs' subject)
  unfolding subject_call
  subject_alike p xs xs' alike (Whole f) s = value_call p xs xs' alike f s
  subject_alike p xs xs' alike (Named x name) s =
      choice E Plain (is_function_named s.calls x name) _ _ _ _ (method_call xs xs' alike x name)
      (member_call p xs xs' alike x name) s

  -- ## Names

  by_status_alike
      : (file decl : ℕ) (status : Status)
      → Alike E Plain (by_status act file decl status) (by_status act' file decl status)
  by_status_alike file decl Waiting = opens (Demand file decl)
  by_status_alike file decl Running = same E _ _
  by_status_alike file decl (Done x) = same E _ _

  pub constant_alike : (file decl : ℕ) → Alike E Plain (constant act file decl) (constant act' file decl)
  unfolding constant
  constant_alike file decl s = by_status_alike file decl (status_in s.constants file decl) s

  declared_alike
      : (file decl : ℕ) (kind : Option KindData)
      → Alike E Plain (declared act file decl kind) (declared act' file decl kind)
  declared_alike file decl None = same E _ _
  declared_alike file decl (Some (kinds.Const t e)) = constant_alike file decl
  declared_alike file decl (Some (kinds.Function ts t number)) = same E _ _
  declared_alike file decl (Some (kinds.Interface ts es ms)) = same E _ _
  declared_alike file decl (Some (kinds.TypeAlias ts t)) = same E _ _

  named_alike : (p : ProgramData) (target : Target) → Alike E Plain (named p act target) (named p act' target)
  unfolding named
  named_alike p (targets.Local n) = same E _ _
  named_alike p (targets.Declared file decl) = declared_alike file decl (declared_at p file decl)
  named_alike p (targets.Ambient call) = same E _ _

  module _ (p : ProgramData) where
    -- ## Expressions

    mutual
      unfolding value operands after arguments elements fields path_holes hole_texts

      pub value_alike : (e : ExprData) → Alike E Plain (value p act e) (value p act' e)
      value_alike (tree.Number n) = both E _ _ _ _ _ _ (same E _ step) (same E _ _)
      value_alike (tree.Str text) = both E _ _ _ _ _ _ (same E _ step) (same E _ _)
      value_alike tree.True = both E _ _ _ _ _ _ (same E _ step) (same E _ _)
      value_alike tree.False = both E _ _ _ _ _ _ (same E _ step) (same E _ _)
      value_alike tree.Undefined = both E _ _ _ _ _ _ (same E _ step) (same E _ _)
      value_alike (tree.Template text holes) =
          both E _ _ _ _ _ _ (same E _ step) (bound E _ _ _ _ _ _ (holes_alike _ holes) (λ rest. same E _ _))
      value_alike (tree.Path letters.Relative text holes) =
          both E _ _ _ _ _ _ (same E _ step) (bound E _ _ _ _ _ _ (holes_alike _ holes) (λ rest. same E _ _))
      value_alike (tree.Path letters.Atom text holes) =
          both E _ _ _ _ _ _ (same E _ step) (bound E _ _ _ _ _ _ (holes_alike _ holes) (λ rest. same E _ _))
      value_alike (tree.Path letters.Path text holes) =
          both E _ _ _ _ _ _ (same E _ step) (path_alike letters.Path text holes)
      value_alike (tree.Path letters.File text holes) =
          both E _ _ _ _ _ _ (same E _ step) (path_alike letters.File text holes)
      value_alike (tree.Path letters.Directory text holes) =
          both E _ _ _ _ _ _ (same E _ step) (path_alike letters.Directory text holes)
      value_alike (tree.Elements es) =
          both E _ _ _ _ _ _ (same E _ step) (bound E _ _ _ _ _ _ (elements_alike es []) (λ items. same E _ _))
      value_alike (tree.Object ps) =
          both E _ _ _ _ _ _ (same E _ step) (bound E _ _ _ _ _ _ (fields_alike ps) (λ found. same E _ _))
      value_alike (tree.Name target) = both E _ _ _ _ _ _ (same E _ step) (named_alike p target)
      value_alike (tree.Arrow number) = both E _ _ _ _ _ _ (same E _ step) (same E _ _)
      value_alike (tree.Cond c a b) =
          both E _ _ _ _ _ _ (same E _ step)
          (bound E _ _ _ _ _ _ (value_alike c) (λ x. choice E _ _ _ _ _ _ (value_alike a) (value_alike b)))
      value_alike (tree.Chain e more) =
          both E _ _ _ _ _ _ (same E _ (spend (operator_count more)))
          (bound E _ _ _ _ _ _ (value_alike e) (λ x. operands_alike more x))
      value_alike (tree.Unary ops e) =
          both E _ _ _ _ _ _ (same E _ (spend (length ops))) (bound E _ _ _ _ _ _ (value_alike e) (λ x. same E _ _))
      value_alike (tree.Postfix e parts) =
          bound E _ _ _ _ _ _ (value_alike e) (λ x. after_alike parts (Whole x))

      pub operands_alike
          : (more : OperandRow) (x : Plain)
          → Alike E Plain (operands p act more x) (operands p act' more x)
      operands_alike no_operands x = same E _ _
      operands_alike (more_operands (tree.Operand op e) more) x =
          choice E _ _ _ _ _ _ (operands_alike more x)
          (bound E _ _ _ _ _ _ (value_alike e) (λ y. bound E _ _ _ _ _ _ (same E _ _) (λ z. operands_alike more z)))

      pub after_alike
          : (parts : PartRow) (subject : Subject)
          → Alike E Plain (after p act parts subject) (after p act' parts subject)
      after_alike no_parts subject = same E _ _
      after_alike (more_parts (tree.Member name) more) subject =
          bound E _ _ _ _ _ _ (same E _ (whole subject))
          (λ x. both E _ _ _ _ _ _ (same E _ step) (after_alike more (Named x name)))
      after_alike (more_parts (tree.Index e) more) subject =
          bound E _ _ _ _ _ _ (same E _ (whole subject)) (λ x. both E _ _ _ _ _ _ (same E _ step)
          (bound E _ _ _ _ _ _ (value_alike e) (λ i. bound E _ _ _ _ _ _ (same E _ (answered (indexed x i)))
          (λ y. after_alike more (Whole y)))))
      after_alike (more_parts (tree.Call args) more) subject =
          bound E _ _ _ _ _ _
          (subject_alike p (arguments p act args) (arguments p act' args) (arguments_alike args) subject)
          (λ y. after_alike more (Whole y))

      pub arguments_alike : (es : ExprRow) → Alike E (List Plain) (arguments p act es) (arguments p act' es)
      arguments_alike no_exprs = same E _ _
      arguments_alike (more_exprs e more) =
          bound E _ _ _ _ _ _ (value_alike e) (λ x. bound E _ _ _ _ _ _ (arguments_alike more) (λ xs. same E _ _))

      pub elements_alike
          : (es : ElementRow) (done : List Plain)
          → Alike E (List Plain) (elements p act es done) (elements p act' es done)
      elements_alike no_elements done = same E _ _
      elements_alike (more_elements (tree.Element false e) more) done =
          bound E _ _ _ _ _ _ (value_alike e) (λ x. elements_alike more (done ++ x ∷ []))
      elements_alike (more_elements (tree.Element true e) more) done =
          bound E _ _ _ _ _ _ (value_alike e) (λ x. bound E _ _ _ _ _ _ (same E _ _)
          (λ items. elements_alike more items))

      pub fields_alike : (ps : PropRow) → Alike E (List PlainField) (fields p act ps) (fields p act' ps)
      fields_alike no_props = same E _ _
      fields_alike (more_props (tree.Named name e) more) =
          bound E _ _ _ _ _ _ (value_alike e) (λ x. bound E _ _ _ _ _ _ (fields_alike more) (λ found. same E _ _))
      fields_alike (more_props (tree.Quoted name e) more) =
          bound E _ _ _ _ _ _ (value_alike e) (λ x. bound E _ _ _ _ _ _ (fields_alike more) (λ found. same E _ _))
      fields_alike (more_props (tree.Short name target) more) =
          both E _ _ _ _ _ _ (same E _ step) (bound E _ _ _ _ _ _ (named_alike p target)
          (λ x. bound E _ _ _ _ _ _ (fields_alike more) (λ found. same E _ _)))
      fields_alike (more_props (tree.Spread e) more) =
          bound E _ _ _ _ _ _ (value_alike e) (λ x. bound E _ _ _ _ _ _ (same E _ _)
          (λ these. bound E _ _ _ _ _ _ (fields_alike more) (λ found. same E _ _)))

      pub path_alike
          : (letter : PathKind) (text : List ℕ) (holes : HoleRow)
          → Alike E Plain (path_holes p act letter text holes) (path_holes p act' letter text holes)
      path_alike letter text no_holes = same E _ _
      path_alike letter text (more_holes (tree.Hole e following) more) =
          bound E _ _ _ _ _ _ (value_alike e) (λ x. bound E _ _ _ _ _ _ (same E _ _)
          (λ first. bound E _ _ _ _ _ _ (holes_alike _ more) (λ rest. same E _ _)))

      pub holes_alike
          : (read : Plain → Outcome (List ℕ)) (holes : HoleRow)
          → Alike E (List ℕ) (hole_texts p act read holes) (hole_texts p act' read holes)
      holes_alike read no_holes = same E _ _
      holes_alike read (more_holes (tree.Hole e text) more) =
          bound E _ _ _ _ _ _ (value_alike e) (λ x. bound E _ _ _ _ _ _ (same E _ _)
          (λ hole. bound E _ _ _ _ _ _ (holes_alike read more) (λ rest. same E _ _)))

    -- ## Statements

    next_alike
        : (way : Way) (more more' : Gives Way) → Alike E Way more more'
        → Alike E Way (next way more) (next way more')
    next_alike On more more' alike = alike
    next_alike (Back x) more more' alike = same E _ _

    turns_alike
        : (n : ℕ) (body body' : Gives Way) → Alike E Way body body' → (items : List Plain)
        → Alike E Way (turns n body items) (turns n body' items)
    turns_alike n body body' alike [] = same E _ _
    turns_alike n body body' alike (x ∷ xs) =
        both E _ _ _ _ _ _ (same E _ step) (both E _ _ _ _ _ _ (same E _ (bind n x))
        (bound E _ _ _ _ _ _ alike (λ way. next_alike way _ _ (turns_alike n body body' alike xs))))

    mutual
      unfolding does otherwise all

      pub does_alike : (s : StmtData) → Alike E Way (does p act s) (does p act' s)
      does_alike (tree.Const n t e) =
          both E _ _ _ _ _ _ (same E _ step)
          (bound E _ _ _ _ _ _ (value_alike e)
          (λ x. both E _ _ _ _ _ _ (same E _ (bind n x)) (same E Way (gives On))))
      does_alike (tree.Let n t None) =
          both E _ _ _ _ _ _ (same E _ step)
          (both E _ _ _ _ _ _ (same E _ (bind n plain.Undefined)) (same E Way (gives On)))
      does_alike (tree.Let n t (Some e)) =
          both E _ _ _ _ _ _ (same E _ step)
          (bound E _ _ _ _ _ _ (value_alike e)
          (λ x. both E _ _ _ _ _ _ (same E _ (bind n x)) (same E Way (gives On))))
      does_alike (tree.Assign n e) =
          both E _ _ _ _ _ _ (same E _ step)
          (bound E _ _ _ _ _ _ (value_alike e)
          (λ x. both E _ _ _ _ _ _ (same E _ (bind n x)) (same E Way (gives On))))
      does_alike (tree.If c s other) =
          both E _ _ _ _ _ _ (same E _ step)
          (bound E _ _ _ _ _ _ (value_alike c) (λ x. choice E _ _ _ _ _ _ (does_alike s) (otherwise_alike other)))
      does_alike (tree.For kind n list s) =
          both E _ _ _ _ _ _ (same E _ step) (bound E _ _ _ _ _ _ (value_alike list)
          (λ xs. bound E _ _ _ _ _ _ (same E _ (answered (items_in xs)))
          (λ items. turns_alike n (does p act s) (does p act' s) (does_alike s) items)))
      does_alike (tree.Return None) = both E _ _ _ _ _ _ (same E _ step) (same E _ _)
      does_alike (tree.Return (Some e)) =
          both E _ _ _ _ _ _ (same E _ step) (bound E _ _ _ _ _ _ (value_alike e) (λ x. same E _ _))
      does_alike (tree.Value e) =
          both E _ _ _ _ _ _ (same E _ step) (bound E _ _ _ _ _ _ (value_alike e) (λ x. same E _ _))
      does_alike (tree.Block ss) = all_alike ss
      does_alike tree.Empty = same E _ _

      pub otherwise_alike : (other : MaybeStmt) → Alike E Way (otherwise p act other) (otherwise p act' other)
      otherwise_alike no_stmt = same E _ _
      otherwise_alike (a_stmt s) = does_alike s

      pub all_alike : (ss : StmtRow) → Alike E Way (all p act ss) (all p act' ss)
      all_alike no_stmts = same E _ _
      all_alike (more_stmts s more) =
          bound E _ _ _ _ _ _ (does_alike s) (λ way. next_alike way _ _ (all_alike more))

    pub body_alike : (body : BodyData) → Alike E Plain (body_value p act body) (body_value p act' body)
    unfolding body_value
    body_alike (tree.Expr e) = value_alike e
    body_alike (tree.Stmts ss) = bound E _ _ _ _ _ _ (all_alike (to_stmts ss)) (λ way. same E _ _)
