-- Each form says what it may.
use Rattle.std.proofs.Common.{ℕ, ◌+◌, Bool, true, false, cond, List, [], ◌∷◌, ◌++◌, length, Option, Some}
use Rattle.std.proofs.Common.{None, Ok, refl}
use Rattle.bx_tree.specs.Paths.{Atoms}
use Rattle.dscript_program.specs.declared.ambient.Ambient.{Ambient as AmbientCall}
use Rattle.dscript_ast.specs.declared.expr.PathKind.{PathKind}
use Rattle.dscript_ast.specs.declared.expr.PathKind.TheVariants as letters
use Rattle.dscript_value.specs.declared.parts.Callee.{Callee}
use Rattle.dscript_value.specs.declared.parts.Callee.TheVariants as callees
use Rattle.dscript_value.specs.Plain as plain
use Rattle.dscript_value.specs.Plain.{Plain, PlainField, item_list}
use Rattle.dscript_sdk_values.specs.Answers.{function_answer}
use Rattle.dscript_sdk_values.specs.Kinds.{items_in}
use Rattle.dscript_sdk_values.specs.Outcomes.{Outcome}
use Rattle.dscript_sdk_members.specs.declared.member.Member.{Member}
use Rattle.dscript_sdk_members.specs.declared.member.Member.TheVariants as members
use Rattle.dscript_sdk_members.specs.Names.{member_named}
use Rattle.dscript_sdk.specs.Calls.{call_of}
use Rattle.dscript_sdk.specs.Members.{is_callback_named, is_function_named, member_of, method_of}
use Rattle.dscript_program.specs.BoundTree as tree
use Rattle.dscript_program.specs.BoundTree.{ExprData, OperandRow, PartRow, ExprRow, ElementRow, PropRow}
use Rattle.dscript_program.specs.BoundTree.{HoleRow}
use Rattle.dscript_program.specs.BoundTree.{no_exprs, more_exprs, no_operands, more_operands, no_parts}
use Rattle.dscript_program.specs.BoundTree.{more_parts, no_elements, more_elements, no_props, more_props}
use Rattle.dscript_program.specs.BoundTree.{no_holes, more_holes, StmtData, MaybeStmt, no_stmt, a_stmt}
use Rattle.dscript_program.specs.BoundTree.{StmtRow, no_stmts, more_stmts, BodyData, to_stmts}
use Rattle.dscript_program.specs.ProgramData as kinds
use Rattle.dscript_program.specs.ProgramData.{KindData, ProgramData}
use Rattle.dscript_program.specs.declared.target.Target.{Target}
use Rattle.dscript_program.specs.declared.target.Target.TheVariants as targets
use Rattle.dscript_eval_operators.specs.CallbackArguments.{Function}
use Rattle.dscript_eval_operators.specs.PathLiterals.{path_literal}
use Rattle.dscript_eval_operators.specs.Spreads.{with_items_of}
use Rattle.dscript_eval_meaning.specs.declared.fault.EvalKind.TheVariants as faults
use Rattle.dscript_eval_meaning.specs.Acts.{Act, Acts, Call, Demand}
use Rattle.dscript_eval_meaning.specs.Callbacks.{callbacks, filtered, joined, mapped, reduced}
use Rattle.dscript_eval_meaning.specs.Calls.{Subject, Named, Whole, ambient, applied, call_of_function, held_method}
use Rattle.dscript_eval_meaning.specs.Calls.{items_of}
use Rattle.dscript_eval_meaning.specs.Calls.{member, method, plain_method, subject_call, whole}
use Rattle.dscript_eval_meaning.specs.Constants.{by_status, constant, status_in}
use Rattle.dscript_eval_meaning.specs.Evaluating.{Gives, answered, step, ◌>>=◌, ◌>>◌}
use Rattle.dscript_eval_meaning.specs.Expressions.{after, arguments, arrow, captured_of, declared, directory}
use Rattle.dscript_eval_meaning.specs.Expressions.{elements, fields, hole_texts, named, operands, path_holes}
use Rattle.dscript_eval_meaning.specs.Expressions.{operator_count, path_value, value}
use Rattle.dscript_eval_meaning.specs.Frames.{bind, captures, local, local_value, with_local}
use Rattle.dscript_eval_meaning.specs.Lookups.{declared_at, function_at, path_at}
use Rattle.dscript_eval_meaning.specs.States.{Status, Waiting, Running, Done}
use Rattle.dscript_eval_meaning.specs.Statements.{Way, On, Back, all, body_value, does, next, otherwise, returned}
use Rattle.dscript_eval_meaning.specs.Statements.{turns}
use Rattle.dscript_eval_laws.proofs.Said.{Said, answer, both, bound, changed, failed, free, given, same_runs}
use Rattle.dscript_eval_laws.proofs.Said.{spent}

pub choice
    : (A : Type 0) (b : Bool) (m m' : Gives A) → Said A m → Said A m' → Said A (cond b m m')
choice A true m m' one other = one
choice A false m m' one other = other

pub local_said : (n : ℕ) → Said Plain (local n)
local_said n s = free Plain (local n) s (Ok (local_value s.frame n, s)) tt (λ k. refl)

pub bind_said : (n : ℕ) (x : Plain) → Said (Unit {0}) (bind n x)
bind_said n x s =
    free (Unit {0}) (bind n x) s (Ok (tt, record s { frame = with_local n x s.frame })) tt (λ k. refl)

member_said : (x : Plain) (name : List ℕ) → Said Plain (member x name)
unfolding member
member_said x name s =
    same_runs Plain (answered (member_of s.calls x name)) (member x name) s s (λ n. refl)
    (answer Plain (member_of s.calls x name) s)

plain_method_said
    : (x : Plain) (name : List ℕ) (args : List Plain) → Said Plain (plain_method x name args)
plain_method_said x name args s =
    changed (plain_method x name args) s (method_of s.calls x name args) (λ n. refl)

pub whole_said : (subject : Subject) → Said Plain (whole subject)
whole_said (Whole x) = given Plain x
whole_said (Named x name) = member_said x name

pub ambient_said
    : (p : ProgramData) (name : AmbientCall) (args : List Plain) → Said Plain (ambient p name args)
unfolding ambient
ambient_said p name args s =
    changed (ambient p name args) s (call_of name (path_at p s.frame.file) args s.calls) (λ n. refl)

path_value_said
    : (p : ProgramData) (letter : PathKind) (base : Option Atoms) (text : List ℕ)
    → Said Plain (path_value p letter base text)
path_value_said p letter base text s =
    same_runs Plain (answered (path_literal letter (directory p s) base text)) (path_value p letter base text)
    s s (λ n. refl) (answer Plain (path_literal letter (directory p s) base text) s)

arrow_said : (p : ProgramData) (number : ℕ) → Said Plain (arrow p number)
unfolding arrow
arrow_said p number s =
    let made = function_answer (callees.Place number) (captures (captured_of (function_at p number)) s) in
    same_runs Plain (answered made) (arrow p number) s s (λ n. refl) (answer Plain made s)

module _ (act : Acts) (opens : (a : Act) → Said Plain (act a)) where
  -- ## Callbacks

  mapped_said : (f : Function) (n : ℕ) (xs : List Plain) → Said (List Plain) (mapped act f n xs)
  mapped_said f n [] = given _ []
  mapped_said f n (x ∷ xs) =
      bound _ _ _ _ (opens _) (λ y. bound _ _ _ _ (mapped_said f (n + 1) xs) (λ ys. given _ (y ∷ ys)))

  filtered_said : (f : Function) (n : ℕ) (xs : List Plain) → Said (List Plain) (filtered act f n xs)
  filtered_said f n [] = given _ []
  filtered_said f n (x ∷ xs) =
      bound _ _ _ _ (opens _) (λ y. bound _ _ _ _ (filtered_said f (n + 1) xs) (λ ys. given _ _))

  joined_said
      : (f : Function) (n : ℕ) (done xs : List Plain) → Said (List Plain) (joined act f n done xs)
  joined_said f n done [] = given _ done
  joined_said f n done (x ∷ xs) =
      bound _ _ _ _ (opens _) (λ y. bound _ _ _ _ (answer _ (with_items_of done y))
      (λ more. joined_said f (n + 1) more xs))

  reduced_said
      : (f : Function) (n : ℕ) (x : Plain) (xs : List Plain) → Said Plain (reduced act f n x xs)
  reduced_said f n so_far [] = given _ so_far
  reduced_said f n so_far (x ∷ xs) = bound _ _ _ _ (opens _) (λ y. reduced_said f (n + 1) y xs)

  callbacks_said
      : (m : Option Member) (items args : List Plain) → Said Plain (callbacks act m items args)
  unfolding callbacks
  callbacks_said (Some members.Map) items args =
      bound _ _ _ _ (answer _ _) (λ f. bound _ _ _ _ (mapped_said f 0 items) (λ ys. answer _ _))
  callbacks_said (Some members.Filter) items args =
      bound _ _ _ _ (answer _ _) (λ f. bound _ _ _ _ (filtered_said f 0 items) (λ ys. answer _ _))
  callbacks_said (Some members.MapMany) items args =
      bound _ _ _ _ (answer _ _) (λ f. bound _ _ _ _ (joined_said f 0 [] items) (λ ys. answer _ _))
  callbacks_said (Some members.Reduce) items args =
      bound _ _ _ _ (answer _ _) (λ r. reduced_said r.0 0 r.1 items)
  callbacks_said _ items args = failed Plain faults.Missing tt

  -- ## Calls

  method_said
      : (x : Plain) (name : List ℕ) (args : List Plain) → Said Plain (method act x name args)
  unfolding method
  method_said x name args =
      choice _ (is_callback_named name x) _ _ (callbacks_said (member_named name) (items_of x) args)
      (plain_method_said x name args)

  pub held_method_said
      : (held : List Plain) (name : List ℕ) (args : List Plain)
      → Said Plain (held_method act held name args)
  held_method_said [] name args = failed Plain faults.Kind tt
  held_method_said (x ∷ others) name args = method_said x name args

  called_said
      : (p : ProgramData) (callee : Callee) (held args : List Plain)
      → Said Plain (call_of_function p act callee held args)
  called_said p (callees.Place number) held args = opens (Call (callees.Place number) held args)
  called_said p (callees.Ambient name) held args = ambient_said p name args
  called_said p (callees.Member name) held args = held_method_said held name args

  applied_said : (p : ProgramData) (f : Plain) (args : List Plain) → Said Plain (applied p act f args)
  unfolding applied
  applied_said p (plain.Function callee depth held) args = called_said p callee (item_list held) args
  applied_said p _ args = failed Plain faults.Kind tt

  method_call
      : (xs : Gives (List Plain)) → Said (List Plain) xs → (x : Plain) (name : List ℕ)
      → Said Plain (step >> xs >>= λ args. method act x name args)
  method_call xs said x name =
      both _ _ _ _ (spent 1) (bound _ _ _ _ said (λ args. method_said x name args))

  value_call
      : (p : ProgramData) (xs : Gives (List Plain)) → Said (List Plain) xs → (f : Plain)
      → Said Plain (step >> xs >>= λ args. applied p act f args)
  value_call p xs said f =
      both _ _ _ _ (spent 1) (bound _ _ _ _ said (λ args. applied_said p f args))

  member_call
      : (p : ProgramData) (xs : Gives (List Plain)) → Said (List Plain) xs → (x : Plain) (name : List ℕ)
      → Said Plain (member x name >>= λ f. step >> xs >>= λ args. applied p act f args)
  member_call p xs said x name =
      bound _ _ _ _ (member_said x name) (λ f. value_call p xs said f)

  subject_said
      : (p : ProgramData) (xs : Gives (List Plain)) → Said (List Plain) xs → (subject : Subject)
      → Said Plain (subject_call p act xs subject)
  unfolding subject_call
  subject_said p xs said (Whole f) s = value_call p xs said f s
  subject_said p xs said (Named x name) s =
      same_runs Plain _ (subject_call p act xs (Named x name)) s s (λ n. refl)
      (choice Plain (is_function_named s.calls x name) _ _ (method_call xs said x name)
      (member_call p xs said x name) s)

  -- ## Names

  by_status_said
      : (file decl : ℕ) (status : Status) → Said Plain (by_status act file decl status)
  by_status_said file decl Waiting = opens (Demand file decl)
  by_status_said file decl Running = failed Plain faults.Cycle tt
  by_status_said file decl (Done x) = given Plain x

  pub constant_said : (file decl : ℕ) → Said Plain (constant act file decl)
  unfolding constant
  constant_said file decl s =
      same_runs Plain (by_status act file decl (status_in s.constants file decl)) (constant act file decl) s s
      (λ n. refl) (by_status_said file decl (status_in s.constants file decl) s)

  declared_said
      : (file decl : ℕ) (kind : Option KindData) → Said Plain (declared act file decl kind)
  declared_said file decl None = failed Plain faults.Kind tt
  declared_said file decl (Some (kinds.Const t e)) = constant_said file decl
  declared_said file decl (Some (kinds.Function ts t number)) =
      answer Plain (function_answer (callees.Place number) [])
  declared_said file decl (Some (kinds.Interface ts es ms)) = failed Plain faults.Kind tt
  declared_said file decl (Some (kinds.TypeAlias ts t)) = failed Plain faults.Kind tt

  named_said : (p : ProgramData) (target : Target) → Said Plain (named p act target)
  unfolding named
  named_said p (targets.Local n) = local_said n
  named_said p (targets.Declared file decl) = declared_said file decl (declared_at p file decl)
  named_said p (targets.Ambient call) = answer Plain (function_answer (callees.Ambient call) [])

  module _ (p : ProgramData) where
    -- ## Expressions

    mutual
      unfolding value operands after arguments elements fields path_holes hole_texts

      pub value_said : (e : ExprData) → Said Plain (value p act e)
      value_said (tree.Number n) = both _ _ _ _ (spent 1) (given _ _)
      value_said (tree.Str text) = both _ _ _ _ (spent 1) (answer _ _)
      value_said tree.True = both _ _ _ _ (spent 1) (given _ _)
      value_said tree.False = both _ _ _ _ (spent 1) (given _ _)
      value_said tree.Undefined = both _ _ _ _ (spent 1) (given _ _)
      value_said (tree.Template text holes) =
          both _ _ _ _ (spent 1) (bound _ _ _ _ (holes_said _ holes) (λ rest. answer _ _))
      value_said (tree.Path letters.Relative text holes) =
          both _ _ _ _ (spent 1) (bound _ _ _ _ (holes_said _ holes) (λ rest. answer _ _))
      value_said (tree.Path letters.Atom text holes) =
          both _ _ _ _ (spent 1) (bound _ _ _ _ (holes_said _ holes) (λ rest. answer _ _))
      value_said (tree.Path letters.Path text holes) =
          both _ _ _ _ (spent 1) (path_said letters.Path text holes)
      value_said (tree.Path letters.File text holes) =
          both _ _ _ _ (spent 1) (path_said letters.File text holes)
      value_said (tree.Path letters.Directory text holes) =
          both _ _ _ _ (spent 1) (path_said letters.Directory text holes)
      value_said (tree.Elements es) =
          both _ _ _ _ (spent 1) (bound _ _ _ _ (elements_said es []) (λ items. answer _ _))
      value_said (tree.Object ps) =
          both _ _ _ _ (spent 1) (bound _ _ _ _ (fields_said ps) (λ found. answer _ _))
      value_said (tree.Name target) = both _ _ _ _ (spent 1) (named_said p target)
      value_said (tree.Arrow number) = both _ _ _ _ (spent 1) (arrow_said p number)
      value_said (tree.Cond c a b) =
          both _ _ _ _ (spent 1)
          (bound _ _ _ _ (value_said c) (λ x. choice _ _ _ _ (value_said a) (value_said b)))
      value_said (tree.Chain e more) =
          both _ _ _ _ (spent (operator_count more))
          (bound _ _ _ _ (value_said e) (λ x. operands_said more x))
      value_said (tree.Unary ops e) =
          both _ _ _ _ (spent (length ops)) (bound _ _ _ _ (value_said e) (λ x. answer _ _))
      value_said (tree.Postfix e parts) =
          bound _ _ _ _ (value_said e) (λ x. after_said parts (Whole x))

      pub operands_said : (more : OperandRow) (x : Plain) → Said Plain (operands p act more x)
      operands_said no_operands x = given _ x
      operands_said (more_operands (tree.Operand op e) more) x =
          choice _ _ _ _ (operands_said more x)
          (bound _ _ _ _ (value_said e) (λ y. bound _ _ _ _ (answer _ _) (λ z. operands_said more z)))

      pub after_said : (parts : PartRow) (subject : Subject) → Said Plain (after p act parts subject)
      after_said no_parts subject = whole_said subject
      after_said (more_parts (tree.Member name) more) subject =
          bound _ _ _ _ (whole_said subject)
          (λ x. both _ _ _ _ (spent 1) (after_said more (Named x name)))
      after_said (more_parts (tree.Index e) more) subject =
          bound _ _ _ _ (whole_said subject) (λ x. both _ _ _ _ (spent 1)
          (bound _ _ _ _ (value_said e) (λ i. bound _ _ _ _ (answer _ _)
          (λ y. after_said more (Whole y)))))
      after_said (more_parts (tree.Call args) more) subject =
          bound _ _ _ _ (subject_said p (arguments p act args) (arguments_said args) subject)
          (λ y. after_said more (Whole y))

      pub arguments_said : (es : ExprRow) → Said (List Plain) (arguments p act es)
      arguments_said no_exprs = given _ []
      arguments_said (more_exprs e more) =
          bound _ _ _ _ (value_said e) (λ x. bound _ _ _ _ (arguments_said more) (λ xs. given _ _))

      pub elements_said
          : (es : ElementRow) (done : List Plain) → Said (List Plain) (elements p act es done)
      elements_said no_elements done = given _ done
      elements_said (more_elements (tree.Element false e) more) done =
          bound _ _ _ _ (value_said e) (λ x. elements_said more (done ++ x ∷ []))
      elements_said (more_elements (tree.Element true e) more) done =
          bound _ _ _ _ (value_said e) (λ x. bound _ _ _ _ (answer _ _)
          (λ items. elements_said more items))

      pub fields_said : (ps : PropRow) → Said (List PlainField) (fields p act ps)
      fields_said no_props = given _ []
      fields_said (more_props (tree.Named name e) more) =
          bound _ _ _ _ (value_said e) (λ x. bound _ _ _ _ (fields_said more) (λ found. given _ _))
      fields_said (more_props (tree.Quoted name e) more) =
          bound _ _ _ _ (value_said e) (λ x. bound _ _ _ _ (fields_said more) (λ found. given _ _))
      fields_said (more_props (tree.Short name target) more) =
          both _ _ _ _ (spent 1) (bound _ _ _ _ (named_said p target)
          (λ x. bound _ _ _ _ (fields_said more) (λ found. given _ _)))
      fields_said (more_props (tree.Spread e) more) =
          bound _ _ _ _ (value_said e) (λ x. bound _ _ _ _ (answer _ _)
          (λ these. bound _ _ _ _ (fields_said more) (λ found. given _ _)))

      pub path_said
          : (letter : PathKind) (text : List ℕ) (holes : HoleRow)
          → Said Plain (path_holes p act letter text holes)
      path_said letter text no_holes = path_value_said p letter None text
      path_said letter text (more_holes (tree.Hole e following) more) =
          bound _ _ _ _ (value_said e) (λ x. bound _ _ _ _ (answer _ _)
          (λ first. bound _ _ _ _ (holes_said _ more) (λ rest. path_value_said p letter _ _)))

      pub holes_said
          : (read : Plain → Outcome (List ℕ)) (holes : HoleRow)
          → Said (List ℕ) (hole_texts p act read holes)
      holes_said read no_holes = given _ []
      holes_said read (more_holes (tree.Hole e text) more) =
          bound _ _ _ _ (value_said e) (λ x. bound _ _ _ _ (answer _ _)
          (λ hole. bound _ _ _ _ (holes_said read more) (λ rest. given _ _)))

    -- ## Statements

    next_said : (way : Way) (more : Gives Way) → Said Way more → Said Way (next way more)
    next_said On more said = said
    next_said (Back x) more said = given Way (Back x)

    turns_said
        : (n : ℕ) (body : Gives Way) → Said Way body → (items : List Plain)
        → Said Way (turns n body items)
    turns_said n body said [] = given _ On
    turns_said n body said (x ∷ xs) =
        both _ _ _ _ (spent 1) (both _ _ _ _ (bind_said n x)
        (bound _ _ _ _ said (λ way. next_said way _ (turns_said n body said xs))))

    mutual
      unfolding does otherwise all

      pub does_said : (s : StmtData) → Said Way (does p act s)
      does_said (tree.Const n t e) =
          both _ _ _ _ (spent 1)
          (bound _ _ _ _ (value_said e) (λ x. both _ _ _ _ (bind_said n x) (given _ On)))
      does_said (tree.Let n t None) =
          both _ _ _ _ (spent 1) (both _ _ _ _ (bind_said n plain.Undefined) (given _ On))
      does_said (tree.Let n t (Some e)) =
          both _ _ _ _ (spent 1)
          (bound _ _ _ _ (value_said e) (λ x. both _ _ _ _ (bind_said n x) (given _ On)))
      does_said (tree.Assign n e) =
          both _ _ _ _ (spent 1)
          (bound _ _ _ _ (value_said e) (λ x. both _ _ _ _ (bind_said n x) (given _ On)))
      does_said (tree.If c s other) =
          both _ _ _ _ (spent 1)
          (bound _ _ _ _ (value_said c) (λ x. choice _ _ _ _ (does_said s) (otherwise_said other)))
      does_said (tree.For kind n list s) =
          both _ _ _ _ (spent 1) (bound _ _ _ _ (value_said list)
          (λ xs. bound _ _ _ _ (answer _ (items_in xs))
          (λ items. turns_said n (does p act s) (does_said s) items)))
      does_said (tree.Return None) = both _ _ _ _ (spent 1) (given _ _)
      does_said (tree.Return (Some e)) =
          both _ _ _ _ (spent 1) (bound _ _ _ _ (value_said e) (λ x. given _ _))
      does_said (tree.Value e) =
          both _ _ _ _ (spent 1) (bound _ _ _ _ (value_said e) (λ x. given _ On))
      does_said (tree.Block ss) = all_said ss
      does_said tree.Empty = given _ On

      pub otherwise_said : (other : MaybeStmt) → Said Way (otherwise p act other)
      otherwise_said no_stmt = given _ On
      otherwise_said (a_stmt s) = does_said s

      pub all_said : (ss : StmtRow) → Said Way (all p act ss)
      all_said no_stmts = given _ On
      all_said (more_stmts s more) =
          bound _ _ _ _ (does_said s) (λ way. next_said way _ (all_said more))

    pub body_said : (body : BodyData) → Said Plain (body_value p act body)
    unfolding body_value
    body_said (tree.Expr e) = value_said e
    body_said (tree.Stmts ss) = bound _ _ _ _ (all_said (to_stmts ss)) (λ way. given _ (returned way))
