-- Each form takes a number of steps.
use Rattle.std.proofs.Common.{ℕ, ◌+◌, Bool, true, false, cond, List, [], ◌∷◌, ◌++◌, length, Option, Some}
use Rattle.std.proofs.Common.{None, Ok, refl}
use Rattle.bx_tree.specs.Paths.{Atoms}
use Rattle.dscript_program.specs.declared.ambient.Ambient.{Ambient as AmbientCall}
use Rattle.dscript_ast.specs.declared.expr.PathKind.{PathKind}
use Rattle.dscript_ast.specs.declared.expr.PathKind.TheVariants as letters
use Rattle.dscript_value.specs.declared.parts.Callee.{Callee}
use Rattle.dscript_value.specs.declared.parts.Callee.TheVariants as callees
use Rattle.dscript_value.specs.Plain as plain
use Rattle.dscript_value.specs.Plain.{Plain, PlainField, item_list}
use Rattle.dscript_sdk_values.specs.Answers.{function_answer}
use Rattle.dscript_sdk_values.specs.Kinds.{items_in}
use Rattle.dscript_sdk_values.specs.Outcomes.{Outcome}
use Rattle.dscript_sdk_members.specs.declared.member.Member.{Member}
use Rattle.dscript_sdk_members.specs.declared.member.Member.TheVariants as members
use Rattle.dscript_sdk_members.specs.Names.{member_named}
use Rattle.dscript_sdk.specs.Calls.{call_of}
use Rattle.dscript_sdk.specs.Members.{is_callback_named, is_function_named, member_of, method_of}
use Rattle.dscript_program.specs.BoundTree as tree
use Rattle.dscript_program.specs.BoundTree.{ExprData, OperandRow, PartRow, ExprRow, ElementRow, PropRow}
use Rattle.dscript_program.specs.BoundTree.{HoleRow}
use Rattle.dscript_program.specs.BoundTree.{no_exprs, more_exprs, no_operands, more_operands, no_parts}
use Rattle.dscript_program.specs.BoundTree.{more_parts, no_elements, more_elements, no_props, more_props}
use Rattle.dscript_program.specs.BoundTree.{no_holes, more_holes, StmtData, MaybeStmt, no_stmt, a_stmt}
use Rattle.dscript_program.specs.BoundTree.{StmtRow, no_stmts, more_stmts, BodyData, to_stmts}
use Rattle.dscript_program.specs.ProgramData as kinds
use Rattle.dscript_program.specs.ProgramData.{KindData, ProgramData}
use Rattle.dscript_program.specs.declared.target.Target.{Target}
use Rattle.dscript_program.specs.declared.target.Target.TheVariants as targets
use Rattle.dscript_eval_operators.specs.CallbackArguments.{Function}
use Rattle.dscript_eval_operators.specs.PathLiterals.{path_literal}
use Rattle.dscript_eval_operators.specs.Spreads.{with_items_of}
use Rattle.dscript_eval_meaning.specs.declared.fault.EvalKind.TheVariants as faults
use Rattle.dscript_eval_meaning.specs.Acts.{Act, Acts, Call, Demand}
use Rattle.dscript_eval_meaning.specs.Callbacks.{callbacks, filtered, joined, mapped, reduced}
use Rattle.dscript_eval_meaning.specs.Calls.{Subject, Named, Whole, ambient, applied, call_of_function, held_method}
use Rattle.dscript_eval_meaning.specs.Calls.{items_of}
use Rattle.dscript_eval_meaning.specs.Calls.{member, method, plain_method, subject_call, whole}
use Rattle.dscript_eval_meaning.specs.Constants.{by_status, constant, status_in}
use Rattle.dscript_eval_meaning.specs.Evaluating.{Gives, answered, step, ◌>>=◌, ◌>>◌}
use Rattle.dscript_eval_meaning.specs.Expressions.{after, arguments, arrow, captured_of, declared, directory}
use Rattle.dscript_eval_meaning.specs.Expressions.{elements, fields, hole_texts, named, operands, path_holes}
use Rattle.dscript_eval_meaning.specs.Expressions.{operator_count, path_value, value}
use Rattle.dscript_eval_meaning.specs.Frames.{bind, captures, local, local_value, with_local}
use Rattle.dscript_eval_meaning.specs.Lookups.{declared_at, function_at, path_at}
use Rattle.dscript_eval_meaning.specs.States.{Status, Waiting, Running, Done}
use Rattle.dscript_eval_meaning.specs.Statements.{Way, On, Back, all, body_value, does, next, otherwise, returned}
use Rattle.dscript_eval_meaning.specs.Statements.{turns}
use Rattle.dscript_eval_meaning.proofs.Counted.{Counted, answer, both, bound, changed, failed, free, given, same_runs}
use Rattle.dscript_eval_meaning.proofs.Counted.{spent}

pub choice
    : (A : Type 0) (b : Bool) (m m' : Gives A) → Counted A m → Counted A m' → Counted A (cond b m m')
choice A true m m' one other = one
choice A false m m' one other = other

pub local_counted : (n : ℕ) → Counted Plain (local n)
local_counted n s = free Plain (local n) s (Ok (local_value s.frame n, s)) tt (λ k. refl)

pub bind_counted : (n : ℕ) (x : Plain) → Counted (Unit {0}) (bind n x)
bind_counted n x s =
    free (Unit {0}) (bind n x) s (Ok (tt, record s { frame = with_local n x s.frame })) tt (λ k. refl)

member_counted : (x : Plain) (name : List ℕ) → Counted Plain (member x name)
unfolding member
member_counted x name s =
    same_runs Plain (answered (member_of s.calls x name)) (member x name) s s (λ n. refl)
    (answer Plain (member_of s.calls x name) s)

plain_method_counted
    : (x : Plain) (name : List ℕ) (args : List Plain) → Counted Plain (plain_method x name args)
plain_method_counted x name args s =
    changed (plain_method x name args) s (method_of s.calls x name args) (λ n. refl)

pub whole_counted : (subject : Subject) → Counted Plain (whole subject)
whole_counted (Whole x) = given Plain x
whole_counted (Named x name) = member_counted x name

pub ambient_counted
    : (p : ProgramData) (name : AmbientCall) (args : List Plain) → Counted Plain (ambient p name args)
unfolding ambient
ambient_counted p name args s =
    changed (ambient p name args) s (call_of name (path_at p s.frame.file) args s.calls) (λ n. refl)

path_value_counted
    : (p : ProgramData) (letter : PathKind) (base : Option Atoms) (text : List ℕ)
    → Counted Plain (path_value p letter base text)
path_value_counted p letter base text s =
    same_runs Plain (answered (path_literal letter (directory p s) base text)) (path_value p letter base text)
    s s (λ n. refl) (answer Plain (path_literal letter (directory p s) base text) s)

arrow_counted : (p : ProgramData) (number : ℕ) → Counted Plain (arrow p number)
unfolding arrow
arrow_counted p number s =
    let made = function_answer (callees.Place number) (captures (captured_of (function_at p number)) s) in
    same_runs Plain (answered made) (arrow p number) s s (λ n. refl) (answer Plain made s)

module _ (act : Acts) (opens : (a : Act) → Counted Plain (act a)) where
  -- ## Callbacks

  mapped_counted : (f : Function) (n : ℕ) (xs : List Plain) → Counted (List Plain) (mapped act f n xs)
  mapped_counted f n [] = given _ []
  mapped_counted f n (x ∷ xs) =
      bound _ _ _ _ (opens _) (λ y. bound _ _ _ _ (mapped_counted f (n + 1) xs) (λ ys. given _ (y ∷ ys)))

  filtered_counted : (f : Function) (n : ℕ) (xs : List Plain) → Counted (List Plain) (filtered act f n xs)
  filtered_counted f n [] = given _ []
  filtered_counted f n (x ∷ xs) =
      bound _ _ _ _ (opens _) (λ y. bound _ _ _ _ (filtered_counted f (n + 1) xs) (λ ys. given _ _))

  joined_counted
      : (f : Function) (n : ℕ) (done xs : List Plain) → Counted (List Plain) (joined act f n done xs)
  joined_counted f n done [] = given _ done
  joined_counted f n done (x ∷ xs) =
      bound _ _ _ _ (opens _) (λ y. bound _ _ _ _ (answer _ (with_items_of done y))
      (λ more. joined_counted f (n + 1) more xs))

  reduced_counted
      : (f : Function) (n : ℕ) (x : Plain) (xs : List Plain) → Counted Plain (reduced act f n x xs)
  reduced_counted f n so_far [] = given _ so_far
  reduced_counted f n so_far (x ∷ xs) = bound _ _ _ _ (opens _) (λ y. reduced_counted f (n + 1) y xs)

  callbacks_counted
      : (m : Option Member) (items args : List Plain) → Counted Plain (callbacks act m items args)
  unfolding callbacks
  callbacks_counted (Some members.Map) items args =
      bound _ _ _ _ (answer _ _) (λ f. bound _ _ _ _ (mapped_counted f 0 items) (λ ys. answer _ _))
  callbacks_counted (Some members.Filter) items args =
      bound _ _ _ _ (answer _ _) (λ f. bound _ _ _ _ (filtered_counted f 0 items) (λ ys. answer _ _))
  callbacks_counted (Some members.MapMany) items args =
      bound _ _ _ _ (answer _ _) (λ f. bound _ _ _ _ (joined_counted f 0 [] items) (λ ys. answer _ _))
  callbacks_counted (Some members.Reduce) items args =
      bound _ _ _ _ (answer _ _) (λ r. reduced_counted r.0 0 r.1 items)
  callbacks_counted _ items args = failed Plain faults.Missing tt

  -- ## Calls

  method_counted
      : (x : Plain) (name : List ℕ) (args : List Plain) → Counted Plain (method act x name args)
  unfolding method
  method_counted x name args =
      choice _ (is_callback_named name x) _ _ (callbacks_counted (member_named name) (items_of x) args)
      (plain_method_counted x name args)

  pub held_method_counted
      : (held : List Plain) (name : List ℕ) (args : List Plain)
      → Counted Plain (held_method act held name args)
  held_method_counted [] name args = failed Plain faults.Kind tt
  held_method_counted (x ∷ others) name args = method_counted x name args

  called_counted
      : (p : ProgramData) (callee : Callee) (held args : List Plain)
      → Counted Plain (call_of_function p act callee held args)
  called_counted p (callees.Place number) held args = opens (Call (callees.Place number) held args)
  called_counted p (callees.Ambient name) held args = ambient_counted p name args
  called_counted p (callees.Member name) held args = held_method_counted held name args

  applied_counted : (p : ProgramData) (f : Plain) (args : List Plain) → Counted Plain (applied p act f args)
  unfolding applied
  applied_counted p (plain.Function callee depth held) args = called_counted p callee (item_list held) args
  applied_counted p _ args = failed Plain faults.Kind tt

  method_call
      : (xs : Gives (List Plain)) → Counted (List Plain) xs → (x : Plain) (name : List ℕ)
      → Counted Plain (step >> xs >>= λ args. method act x name args)
  method_call xs counted x name =
      both _ _ _ _ (spent 1) (bound _ _ _ _ counted (λ args. method_counted x name args))

  value_call
      : (p : ProgramData) (xs : Gives (List Plain)) → Counted (List Plain) xs → (f : Plain)
      → Counted Plain (step >> xs >>= λ args. applied p act f args)
  value_call p xs counted f =
      both _ _ _ _ (spent 1) (bound _ _ _ _ counted (λ args. applied_counted p f args))

  member_call
      : (p : ProgramData) (xs : Gives (List Plain)) → Counted (List Plain) xs → (x : Plain) (name : List ℕ)
      → Counted Plain (member x name >>= λ f. step >> xs >>= λ args. applied p act f args)
  member_call p xs counted x name =
      bound _ _ _ _ (member_counted x name) (λ f. value_call p xs counted f)

  subject_counted
      : (p : ProgramData) (xs : Gives (List Plain)) → Counted (List Plain) xs → (subject : Subject)
      → Counted Plain (subject_call p act xs subject)
  unfolding subject_call
  subject_counted p xs counted (Whole f) s = value_call p xs counted f s
  subject_counted p xs counted (Named x name) s =
      same_runs Plain _ (subject_call p act xs (Named x name)) s s (λ n. refl)
      (choice Plain (is_function_named s.calls x name) _ _ (method_call xs counted x name)
      (member_call p xs counted x name) s)

  -- ## Names

  by_status_counted
      : (file decl : ℕ) (status : Status) → Counted Plain (by_status act file decl status)
  by_status_counted file decl Waiting = opens (Demand file decl)
  by_status_counted file decl Running = failed Plain faults.Cycle tt
  by_status_counted file decl (Done x) = given Plain x

  pub constant_counted : (file decl : ℕ) → Counted Plain (constant act file decl)
  unfolding constant
  constant_counted file decl s =
      same_runs Plain (by_status act file decl (status_in s.constants file decl)) (constant act file decl) s s
      (λ n. refl) (by_status_counted file decl (status_in s.constants file decl) s)

  declared_counted
      : (file decl : ℕ) (kind : Option KindData) → Counted Plain (declared act file decl kind)
  declared_counted file decl None = failed Plain faults.Kind tt
  declared_counted file decl (Some (kinds.Const t e)) = constant_counted file decl
  declared_counted file decl (Some (kinds.Function ts t number)) =
      answer Plain (function_answer (callees.Place number) [])
  declared_counted file decl (Some (kinds.Interface ts es ms)) = failed Plain faults.Kind tt
  declared_counted file decl (Some (kinds.TypeAlias ts t)) = failed Plain faults.Kind tt

  named_counted : (p : ProgramData) (target : Target) → Counted Plain (named p act target)
  unfolding named
  named_counted p (targets.Local n) = local_counted n
  named_counted p (targets.Declared file decl) = declared_counted file decl (declared_at p file decl)
  named_counted p (targets.Ambient call) = answer Plain (function_answer (callees.Ambient call) [])

  module _ (p : ProgramData) where
    -- ## Expressions

    mutual
      unfolding value operands after arguments elements fields path_holes hole_texts

      pub value_counted : (e : ExprData) → Counted Plain (value p act e)
      value_counted (tree.Number n) = both _ _ _ _ (spent 1) (given _ _)
      value_counted (tree.Str text) = both _ _ _ _ (spent 1) (answer _ _)
      value_counted tree.True = both _ _ _ _ (spent 1) (given _ _)
      value_counted tree.False = both _ _ _ _ (spent 1) (given _ _)
      value_counted tree.Undefined = both _ _ _ _ (spent 1) (given _ _)
      value_counted (tree.Template text holes) =
          both _ _ _ _ (spent 1) (bound _ _ _ _ (holes_counted _ holes) (λ rest. answer _ _))
      value_counted (tree.Path letters.Relative text holes) =
          both _ _ _ _ (spent 1) (bound _ _ _ _ (holes_counted _ holes) (λ rest. answer _ _))
      value_counted (tree.Path letters.Atom text holes) =
          both _ _ _ _ (spent 1) (bound _ _ _ _ (holes_counted _ holes) (λ rest. answer _ _))
      value_counted (tree.Path letters.Path text holes) =
          both _ _ _ _ (spent 1) (path_counted letters.Path text holes)
      value_counted (tree.Path letters.File text holes) =
          both _ _ _ _ (spent 1) (path_counted letters.File text holes)
      value_counted (tree.Path letters.Directory text holes) =
          both _ _ _ _ (spent 1) (path_counted letters.Directory text holes)
      value_counted (tree.Elements es) =
          both _ _ _ _ (spent 1) (bound _ _ _ _ (elements_counted es []) (λ items. answer _ _))
      value_counted (tree.Object ps) =
          both _ _ _ _ (spent 1) (bound _ _ _ _ (fields_counted ps) (λ found. answer _ _))
      value_counted (tree.Name target) = both _ _ _ _ (spent 1) (named_counted p target)
      value_counted (tree.Arrow number) = both _ _ _ _ (spent 1) (arrow_counted p number)
      value_counted (tree.Cond c a b) =
          both _ _ _ _ (spent 1)
          (bound _ _ _ _ (value_counted c) (λ x. choice _ _ _ _ (value_counted a) (value_counted b)))
      value_counted (tree.Chain e more) =
          both _ _ _ _ (spent (operator_count more))
          (bound _ _ _ _ (value_counted e) (λ x. operands_counted more x))
      value_counted (tree.Unary ops e) =
          both _ _ _ _ (spent (length ops)) (bound _ _ _ _ (value_counted e) (λ x. answer _ _))
      value_counted (tree.Postfix e parts) =
          bound _ _ _ _ (value_counted e) (λ x. after_counted parts (Whole x))

      pub operands_counted : (more : OperandRow) (x : Plain) → Counted Plain (operands p act more x)
      operands_counted no_operands x = given _ x
      operands_counted (more_operands (tree.Operand op e) more) x =
          choice _ _ _ _ (operands_counted more x)
          (bound _ _ _ _ (value_counted e) (λ y. bound _ _ _ _ (answer _ _) (λ z. operands_counted more z)))

      pub after_counted : (parts : PartRow) (subject : Subject) → Counted Plain (after p act parts subject)
      after_counted no_parts subject = whole_counted subject
      after_counted (more_parts (tree.Member name) more) subject =
          bound _ _ _ _ (whole_counted subject)
          (λ x. both _ _ _ _ (spent 1) (after_counted more (Named x name)))
      after_counted (more_parts (tree.Index e) more) subject =
          bound _ _ _ _ (whole_counted subject) (λ x. both _ _ _ _ (spent 1)
          (bound _ _ _ _ (value_counted e) (λ i. bound _ _ _ _ (answer _ _)
          (λ y. after_counted more (Whole y)))))
      after_counted (more_parts (tree.Call args) more) subject =
          bound _ _ _ _ (subject_counted p (arguments p act args) (arguments_counted args) subject)
          (λ y. after_counted more (Whole y))

      pub arguments_counted : (es : ExprRow) → Counted (List Plain) (arguments p act es)
      arguments_counted no_exprs = given _ []
      arguments_counted (more_exprs e more) =
          bound _ _ _ _ (value_counted e) (λ x. bound _ _ _ _ (arguments_counted more) (λ xs. given _ _))

      pub elements_counted
          : (es : ElementRow) (done : List Plain) → Counted (List Plain) (elements p act es done)
      elements_counted no_elements done = given _ done
      elements_counted (more_elements (tree.Element false e) more) done =
          bound _ _ _ _ (value_counted e) (λ x. elements_counted more (done ++ x ∷ []))
      elements_counted (more_elements (tree.Element true e) more) done =
          bound _ _ _ _ (value_counted e) (λ x. bound _ _ _ _ (answer _ _)
          (λ items. elements_counted more items))

      pub fields_counted : (ps : PropRow) → Counted (List PlainField) (fields p act ps)
      fields_counted no_props = given _ []
      fields_counted (more_props (tree.Named name e) more) =
          bound _ _ _ _ (value_counted e) (λ x. bound _ _ _ _ (fields_counted more) (λ found. given _ _))
      fields_counted (more_props (tree.Quoted name e) more) =
          bound _ _ _ _ (value_counted e) (λ x. bound _ _ _ _ (fields_counted more) (λ found. given _ _))
      fields_counted (more_props (tree.Short name target) more) =
          both _ _ _ _ (spent 1) (bound _ _ _ _ (named_counted p target)
          (λ x. bound _ _ _ _ (fields_counted more) (λ found. given _ _)))
      fields_counted (more_props (tree.Spread e) more) =
          bound _ _ _ _ (value_counted e) (λ x. bound _ _ _ _ (answer _ _)
          (λ these. bound _ _ _ _ (fields_counted more) (λ found. given _ _)))

      pub path_counted
          : (letter : PathKind) (text : List ℕ) (holes : HoleRow)
          → Counted Plain (path_holes p act letter text holes)
      path_counted letter text no_holes = path_value_counted p letter None text
      path_counted letter text (more_holes (tree.Hole e following) more) =
          bound _ _ _ _ (value_counted e) (λ x. bound _ _ _ _ (answer _ _)
          (λ first. bound _ _ _ _ (holes_counted _ more) (λ rest. path_value_counted p letter _ _)))

      pub holes_counted
          : (read : Plain → Outcome (List ℕ)) (holes : HoleRow)
          → Counted (List ℕ) (hole_texts p act read holes)
      holes_counted read no_holes = given _ []
      holes_counted read (more_holes (tree.Hole e text) more) =
          bound _ _ _ _ (value_counted e) (λ x. bound _ _ _ _ (answer _ _)
          (λ hole. bound _ _ _ _ (holes_counted read more) (λ rest. given _ _)))

    -- ## Statements

    next_counted : (way : Way) (more : Gives Way) → Counted Way more → Counted Way (next way more)
    next_counted On more counted = counted
    next_counted (Back x) more counted = given Way (Back x)

    turns_counted
        : (n : ℕ) (body : Gives Way) → Counted Way body → (items : List Plain)
        → Counted Way (turns n body items)
    turns_counted n body counted [] = given _ On
    turns_counted n body counted (x ∷ xs) =
        both _ _ _ _ (spent 1) (both _ _ _ _ (bind_counted n x)
        (bound _ _ _ _ counted (λ way. next_counted way _ (turns_counted n body counted xs))))

    mutual
      unfolding does otherwise all

      pub does_counted : (s : StmtData) → Counted Way (does p act s)
      does_counted (tree.Const n t e) =
          both _ _ _ _ (spent 1)
          (bound _ _ _ _ (value_counted e) (λ x. both _ _ _ _ (bind_counted n x) (given _ On)))
      does_counted (tree.Let n t None) =
          both _ _ _ _ (spent 1) (both _ _ _ _ (bind_counted n plain.Undefined) (given _ On))
      does_counted (tree.Let n t (Some e)) =
          both _ _ _ _ (spent 1)
          (bound _ _ _ _ (value_counted e) (λ x. both _ _ _ _ (bind_counted n x) (given _ On)))
      does_counted (tree.Assign n e) =
          both _ _ _ _ (spent 1)
          (bound _ _ _ _ (value_counted e) (λ x. both _ _ _ _ (bind_counted n x) (given _ On)))
      does_counted (tree.If c s other) =
          both _ _ _ _ (spent 1)
          (bound _ _ _ _ (value_counted c) (λ x. choice _ _ _ _ (does_counted s) (otherwise_counted other)))
      does_counted (tree.For kind n list s) =
          both _ _ _ _ (spent 1) (bound _ _ _ _ (value_counted list)
          (λ xs. bound _ _ _ _ (answer _ (items_in xs))
          (λ items. turns_counted n (does p act s) (does_counted s) items)))
      does_counted (tree.Return None) = both _ _ _ _ (spent 1) (given _ _)
      does_counted (tree.Return (Some e)) =
          both _ _ _ _ (spent 1) (bound _ _ _ _ (value_counted e) (λ x. given _ _))
      does_counted (tree.Value e) =
          both _ _ _ _ (spent 1) (bound _ _ _ _ (value_counted e) (λ x. given _ On))
      does_counted (tree.Block ss) = all_counted ss
      does_counted tree.Empty = given _ On

      pub otherwise_counted : (other : MaybeStmt) → Counted Way (otherwise p act other)
      otherwise_counted no_stmt = given _ On
      otherwise_counted (a_stmt s) = does_counted s

      pub all_counted : (ss : StmtRow) → Counted Way (all p act ss)
      all_counted no_stmts = given _ On
      all_counted (more_stmts s more) =
          bound _ _ _ _ (does_counted s) (λ way. next_counted way _ (all_counted more))

    pub body_counted : (body : BodyData) → Counted Plain (body_value p act body)
    unfolding body_value
    body_counted (tree.Expr e) = value_counted e
    body_counted (tree.Stmts ss) = bound _ _ _ _ (all_counted (to_stmts ss)) (λ way. given _ (returned way))
