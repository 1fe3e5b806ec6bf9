-- Each form hears what it asks.
use Rattle.std.proofs.Common.{ℕ, ◌+◌, Bool, true, false, cond, List, [], ◌∷◌, ◌++◌, length, Option, Some}
use Rattle.std.proofs.Common.{None, Ok, refl, ap}
use Rattle.bx_tree.specs.Paths.{Atoms}
use Rattle.dscript_program.specs.declared.ambient.Ambient.{Ambient as AmbientCall}
use Rattle.dscript_ast.specs.declared.expr.PathKind.{PathKind}
use Rattle.dscript_ast.specs.declared.expr.PathKind.TheVariants as letters
use Rattle.dscript_value.specs.declared.parts.Callee.{Callee}
use Rattle.dscript_value.specs.declared.parts.Callee.TheVariants as callees
use Rattle.dscript_value.specs.Plain as plain
use Rattle.dscript_value.specs.Plain.{Plain, PlainField, item_list}
use Rattle.dscript_sdk_values.specs.Answers.{function_answer}
use Rattle.dscript_sdk_values.specs.Kinds.{items_in}
use Rattle.dscript_sdk_values.specs.Outcomes.{Outcome}
use Rattle.dscript_sdk_members.specs.declared.member.Member.{Member}
use Rattle.dscript_sdk_members.specs.declared.member.Member.TheVariants as members
use Rattle.dscript_sdk_members.specs.Names.{member_named}
use Rattle.dscript_sdk.specs.Calls.{call_of}
use Rattle.dscript_eval_laws.proofs.HeardCalls.{call_heard, is_function_elsewhere, member_elsewhere, method_heard}
use Rattle.dscript_sdk.specs.Members.{is_callback_named, is_function_named, member_of, method_of}
use Rattle.dscript_program.specs.BoundTree as tree
use Rattle.dscript_program.specs.BoundTree.{ExprData, OperandRow, PartRow, ExprRow, ElementRow, PropRow}
use Rattle.dscript_program.specs.BoundTree.{HoleRow}
use Rattle.dscript_program.specs.BoundTree.{no_exprs, more_exprs, no_operands, more_operands, no_parts}
use Rattle.dscript_program.specs.BoundTree.{more_parts, no_elements, more_elements, no_props, more_props}
use Rattle.dscript_program.specs.BoundTree.{no_holes, more_holes, StmtData, MaybeStmt, no_stmt, a_stmt}
use Rattle.dscript_program.specs.BoundTree.{StmtRow, no_stmts, more_stmts, BodyData, to_stmts}
use Rattle.dscript_program.specs.ProgramData as kinds
use Rattle.dscript_program.specs.ProgramData.{KindData, ProgramData}
use Rattle.dscript_program.specs.declared.target.Target.{Target}
use Rattle.dscript_program.specs.declared.target.Target.TheVariants as targets
use Rattle.dscript_eval_operators.specs.CallbackArguments.{Function}
use Rattle.dscript_eval_operators.specs.PathLiterals.{path_literal}
use Rattle.dscript_eval_operators.specs.Spreads.{with_items_of}
use Rattle.dscript_eval_meaning.specs.declared.fault.EvalKind.TheVariants as faults
use Rattle.dscript_eval_meaning.specs.Acts.{Act, Acts, Call, Demand}
use Rattle.dscript_eval_meaning.specs.Callbacks.{callbacks, filtered, joined, mapped, reduced}
use Rattle.dscript_eval_meaning.specs.Calls.{Subject, Named, Whole, ambient, applied, call_of_function, held_method}
use Rattle.dscript_eval_meaning.specs.Calls.{items_of}
use Rattle.dscript_eval_meaning.specs.Calls.{member, method, plain_method, subject_call, whole}
use Rattle.dscript_eval_meaning.specs.Constants.{by_status, constant, status_in}
use Rattle.dscript_eval_meaning.specs.Evaluating.{Gives, answered, step, ◌>>=◌, ◌>>◌}
use Rattle.dscript_eval_meaning.specs.Expressions.{after, arguments, arrow, captured_of, declared, directory}
use Rattle.dscript_eval_meaning.specs.Expressions.{elements, fields, hole_texts, named, operands, path_holes}
use Rattle.dscript_eval_meaning.specs.Expressions.{operator_count, path_value, value}
use Rattle.dscript_eval_meaning.specs.Frames.{bind, captures, local, local_value, with_local}
use Rattle.dscript_eval_meaning.specs.Lookups.{declared_at, function_at, path_at}
use Rattle.dscript_eval_meaning.specs.States.{Status, Waiting, Running, Done}
use Rattle.dscript_eval_meaning.specs.Statements.{Way, On, Back, all, body_value, does, next, otherwise, returned}
use Rattle.dscript_eval_meaning.specs.Statements.{turns}
use Rattle.dscript_eval_laws.proofs.Heard.{Heard, answer, both, bound, changed, failed, free, given, same_runs}
use Rattle.dscript_eval_laws.proofs.Heard.{spent, with_answers}

pub choice
    : (A : Type 0) (b : Bool) (m m' : Gives A) → Heard A m → Heard A m' → Heard A (cond b m m')
choice A true m m' one other = one
choice A false m m' one other = other

pub local_heard : (n : ℕ) → Heard Plain (local n)
local_heard n s = free Plain (local n) s (Ok (local_value s.frame n, s)) refl (λ k. refl)

pub bind_heard : (n : ℕ) (x : Plain) → Heard (Unit {0}) (bind n x)
bind_heard n x s =
    free (Unit {0}) (bind n x) s (Ok (tt, record s { frame = with_local n x s.frame })) refl (λ k. refl)

member_heard : (x : Plain) (name : List ℕ) → Heard Plain (member x name)
unfolding member
member_heard x name s =
    same_runs Plain (answered (member_of s.calls x name)) (member x name) s s refl
    (λ b. ap (λ o. answered o (with_answers b s)) (member_elsewhere b s.calls x name))
    (answer Plain (member_of s.calls x name) s)

plain_method_heard
    : (x : Plain) (name : List ℕ) (args : List Plain) → Heard Plain (plain_method x name args)
plain_method_heard x name args s =
    changed (plain_method x name args) s (λ c. method_of c x name args) (method_heard x name args) (λ b. refl)

pub whole_heard : (subject : Subject) → Heard Plain (whole subject)
whole_heard (Whole x) = given Plain x
whole_heard (Named x name) = member_heard x name

pub ambient_heard
    : (p : ProgramData) (name : AmbientCall) (args : List Plain) → Heard Plain (ambient p name args)
unfolding ambient
ambient_heard p name args s =
    changed (ambient p name args) s (call_of name (path_at p s.frame.file) args)
    (call_heard name (path_at p s.frame.file) args) (λ b. refl)

path_value_heard
    : (p : ProgramData) (letter : PathKind) (base : Option Atoms) (text : List ℕ)
    → Heard Plain (path_value p letter base text)
path_value_heard p letter base text s =
    same_runs Plain (answered (path_literal letter (directory p s) base text)) (path_value p letter base text)
    s s refl (λ n. refl) (answer Plain (path_literal letter (directory p s) base text) s)

arrow_heard : (p : ProgramData) (number : ℕ) → Heard Plain (arrow p number)
unfolding arrow
arrow_heard p number s =
    let made = function_answer (callees.Place number) (captures (captured_of (function_at p number)) s) in
    same_runs Plain (answered made) (arrow p number) s s refl (λ n. refl) (answer Plain made s)

module _ (act : Acts) (opens : (a : Act) → Heard Plain (act a)) where
  -- ## Callbacks

  mapped_heard : (f : Function) (n : ℕ) (xs : List Plain) → Heard (List Plain) (mapped act f n xs)
  mapped_heard f n [] = given _ []
  mapped_heard f n (x ∷ xs) =
      bound _ _ _ _ (opens _) (λ y. bound _ _ _ _ (mapped_heard f (n + 1) xs) (λ ys. given _ (y ∷ ys)))

  filtered_heard : (f : Function) (n : ℕ) (xs : List Plain) → Heard (List Plain) (filtered act f n xs)
  filtered_heard f n [] = given _ []
  filtered_heard f n (x ∷ xs) =
      bound _ _ _ _ (opens _) (λ y. bound _ _ _ _ (filtered_heard f (n + 1) xs) (λ ys. given _ _))

  joined_heard
      : (f : Function) (n : ℕ) (done xs : List Plain) → Heard (List Plain) (joined act f n done xs)
  joined_heard f n done [] = given _ done
  joined_heard f n done (x ∷ xs) =
      bound _ _ _ _ (opens _) (λ y. bound _ _ _ _ (answer _ (with_items_of done y))
      (λ more. joined_heard f (n + 1) more xs))

  reduced_heard
      : (f : Function) (n : ℕ) (x : Plain) (xs : List Plain) → Heard Plain (reduced act f n x xs)
  reduced_heard f n so_far [] = given _ so_far
  reduced_heard f n so_far (x ∷ xs) = bound _ _ _ _ (opens _) (λ y. reduced_heard f (n + 1) y xs)

  callbacks_heard
      : (m : Option Member) (items args : List Plain) → Heard Plain (callbacks act m items args)
  unfolding callbacks
  callbacks_heard (Some members.Map) items args =
      bound _ _ _ _ (answer _ _) (λ f. bound _ _ _ _ (mapped_heard f 0 items) (λ ys. answer _ _))
  callbacks_heard (Some members.Filter) items args =
      bound _ _ _ _ (answer _ _) (λ f. bound _ _ _ _ (filtered_heard f 0 items) (λ ys. answer _ _))
  callbacks_heard (Some members.MapMany) items args =
      bound _ _ _ _ (answer _ _) (λ f. bound _ _ _ _ (joined_heard f 0 [] items) (λ ys. answer _ _))
  callbacks_heard (Some members.Reduce) items args =
      bound _ _ _ _ (answer _ _) (λ r. reduced_heard r.0 0 r.1 items)
  callbacks_heard _ items args = failed Plain faults.Missing tt

  -- ## Calls

  method_call_heard
      : (x : Plain) (name : List ℕ) (args : List Plain) → Heard Plain (method act x name args)
  unfolding method
  method_call_heard x name args =
      choice _ (is_callback_named name x) _ _ (callbacks_heard (member_named name) (items_of x) args)
      (plain_method_heard x name args)

  pub held_method_heard
      : (held : List Plain) (name : List ℕ) (args : List Plain)
      → Heard Plain (held_method act held name args)
  held_method_heard [] name args = failed Plain faults.Kind tt
  held_method_heard (x ∷ others) name args = method_call_heard x name args

  called_heard
      : (p : ProgramData) (callee : Callee) (held args : List Plain)
      → Heard Plain (call_of_function p act callee held args)
  called_heard p (callees.Place number) held args = opens (Call (callees.Place number) held args)
  called_heard p (callees.Ambient name) held args = ambient_heard p name args
  called_heard p (callees.Member name) held args = held_method_heard held name args

  applied_heard : (p : ProgramData) (f : Plain) (args : List Plain) → Heard Plain (applied p act f args)
  unfolding applied
  applied_heard p (plain.Function callee depth held) args = called_heard p callee (item_list held) args
  applied_heard p _ args = failed Plain faults.Kind tt

  method_call
      : (xs : Gives (List Plain)) → Heard (List Plain) xs → (x : Plain) (name : List ℕ)
      → Heard Plain (step >> xs >>= λ args. method act x name args)
  method_call xs heard x name =
      both _ _ _ _ (spent 1) (bound _ _ _ _ heard (λ args. method_call_heard x name args))

  value_call
      : (p : ProgramData) (xs : Gives (List Plain)) → Heard (List Plain) xs → (f : Plain)
      → Heard Plain (step >> xs >>= λ args. applied p act f args)
  value_call p xs heard f =
      both _ _ _ _ (spent 1) (bound _ _ _ _ heard (λ args. applied_heard p f args))

  member_call
      : (p : ProgramData) (xs : Gives (List Plain)) → Heard (List Plain) xs → (x : Plain) (name : List ℕ)
      → Heard Plain (member x name >>= λ f. step >> xs >>= λ args. applied p act f args)
  member_call p xs heard x name =
      bound _ _ _ _ (member_heard x name) (λ f. value_call p xs heard f)

  subject_heard
      : (p : ProgramData) (xs : Gives (List Plain)) → Heard (List Plain) xs → (subject : Subject)
      → Heard Plain (subject_call p act xs subject)
  unfolding subject_call
  subject_heard p xs heard (Whole f) s = value_call p xs heard f s
  subject_heard p xs heard (Named x name) s =
      same_runs Plain _ (subject_call p act xs (Named x name)) s s refl
      (λ b. ap
      (λ (t : Bool). (cond t (step >> xs >>= λ args. method act x name args)
      (member x name >>= λ f. step >> xs >>= λ args. applied p act f args)) (with_answers b s))
      (is_function_elsewhere b s.calls x name))
      (choice Plain (is_function_named s.calls x name) _ _ (method_call xs heard x name)
      (member_call p xs heard x name) s)

  -- ## Names

  by_status_heard
      : (file decl : ℕ) (status : Status) → Heard Plain (by_status act file decl status)
  by_status_heard file decl Waiting = opens (Demand file decl)
  by_status_heard file decl Running = failed Plain faults.Cycle tt
  by_status_heard file decl (Done x) = given Plain x

  pub constant_heard : (file decl : ℕ) → Heard Plain (constant act file decl)
  unfolding constant
  constant_heard file decl s =
      same_runs Plain (by_status act file decl (status_in s.constants file decl)) (constant act file decl) s s
      refl (λ n. refl) (by_status_heard file decl (status_in s.constants file decl) s)

  declared_heard
      : (file decl : ℕ) (kind : Option KindData) → Heard Plain (declared act file decl kind)
  declared_heard file decl None = failed Plain faults.Kind tt
  declared_heard file decl (Some (kinds.Const t e)) = constant_heard file decl
  declared_heard file decl (Some (kinds.Function ts t number)) =
      answer Plain (function_answer (callees.Place number) [])
  declared_heard file decl (Some (kinds.Interface ts es ms)) = failed Plain faults.Kind tt
  declared_heard file decl (Some (kinds.TypeAlias ts t)) = failed Plain faults.Kind tt

  named_heard : (p : ProgramData) (target : Target) → Heard Plain (named p act target)
  unfolding named
  named_heard p (targets.Local n) = local_heard n
  named_heard p (targets.Declared file decl) = declared_heard file decl (declared_at p file decl)
  named_heard p (targets.Ambient call) = answer Plain (function_answer (callees.Ambient call) [])

  module _ (p : ProgramData) where
    -- ## Expressions

    mutual
      unfolding value operands after arguments elements fields path_holes hole_texts

      pub value_heard : (e : ExprData) → Heard Plain (value p act e)
      value_heard (tree.Number n) = both _ _ _ _ (spent 1) (given _ _)
      value_heard (tree.Str text) = both _ _ _ _ (spent 1) (answer _ _)
      value_heard tree.True = both _ _ _ _ (spent 1) (given _ _)
      value_heard tree.False = both _ _ _ _ (spent 1) (given _ _)
      value_heard tree.Undefined = both _ _ _ _ (spent 1) (given _ _)
      value_heard (tree.Template text holes) =
          both _ _ _ _ (spent 1) (bound _ _ _ _ (holes_heard _ holes) (λ rest. answer _ _))
      value_heard (tree.Path letters.Relative text holes) =
          both _ _ _ _ (spent 1) (bound _ _ _ _ (holes_heard _ holes) (λ rest. answer _ _))
      value_heard (tree.Path letters.Atom text holes) =
          both _ _ _ _ (spent 1) (bound _ _ _ _ (holes_heard _ holes) (λ rest. answer _ _))
      value_heard (tree.Path letters.Path text holes) =
          both _ _ _ _ (spent 1) (path_heard letters.Path text holes)
      value_heard (tree.Path letters.File text holes) =
          both _ _ _ _ (spent 1) (path_heard letters.File text holes)
      value_heard (tree.Path letters.Directory text holes) =
          both _ _ _ _ (spent 1) (path_heard letters.Directory text holes)
      value_heard (tree.Elements es) =
          both _ _ _ _ (spent 1) (bound _ _ _ _ (elements_heard es []) (λ items. answer _ _))
      value_heard (tree.Object ps) =
          both _ _ _ _ (spent 1) (bound _ _ _ _ (fields_heard ps) (λ found. answer _ _))
      value_heard (tree.Name target) = both _ _ _ _ (spent 1) (named_heard p target)
      value_heard (tree.Arrow number) = both _ _ _ _ (spent 1) (arrow_heard p number)
      value_heard (tree.Cond c a b) =
          both _ _ _ _ (spent 1)
          (bound _ _ _ _ (value_heard c) (λ x. choice _ _ _ _ (value_heard a) (value_heard b)))
      value_heard (tree.Chain e more) =
          both _ _ _ _ (spent (operator_count more))
          (bound _ _ _ _ (value_heard e) (λ x. operands_heard more x))
      value_heard (tree.Unary ops e) =
          both _ _ _ _ (spent (length ops)) (bound _ _ _ _ (value_heard e) (λ x. answer _ _))
      value_heard (tree.Postfix e parts) =
          bound _ _ _ _ (value_heard e) (λ x. after_heard parts (Whole x))

      pub operands_heard : (more : OperandRow) (x : Plain) → Heard Plain (operands p act more x)
      operands_heard no_operands x = given _ x
      operands_heard (more_operands (tree.Operand op e) more) x =
          choice _ _ _ _ (operands_heard more x)
          (bound _ _ _ _ (value_heard e) (λ y. bound _ _ _ _ (answer _ _) (λ z. operands_heard more z)))

      pub after_heard : (parts : PartRow) (subject : Subject) → Heard Plain (after p act parts subject)
      after_heard no_parts subject = whole_heard subject
      after_heard (more_parts (tree.Member name) more) subject =
          bound _ _ _ _ (whole_heard subject)
          (λ x. both _ _ _ _ (spent 1) (after_heard more (Named x name)))
      after_heard (more_parts (tree.Index e) more) subject =
          bound _ _ _ _ (whole_heard subject) (λ x. both _ _ _ _ (spent 1)
          (bound _ _ _ _ (value_heard e) (λ i. bound _ _ _ _ (answer _ _)
          (λ y. after_heard more (Whole y)))))
      after_heard (more_parts (tree.Call args) more) subject =
          bound _ _ _ _ (subject_heard p (arguments p act args) (arguments_heard args) subject)
          (λ y. after_heard more (Whole y))

      pub arguments_heard : (es : ExprRow) → Heard (List Plain) (arguments p act es)
      arguments_heard no_exprs = given _ []
      arguments_heard (more_exprs e more) =
          bound _ _ _ _ (value_heard e) (λ x. bound _ _ _ _ (arguments_heard more) (λ xs. given _ _))

      pub elements_heard
          : (es : ElementRow) (done : List Plain) → Heard (List Plain) (elements p act es done)
      elements_heard no_elements done = given _ done
      elements_heard (more_elements (tree.Element false e) more) done =
          bound _ _ _ _ (value_heard e) (λ x. elements_heard more (done ++ x ∷ []))
      elements_heard (more_elements (tree.Element true e) more) done =
          bound _ _ _ _ (value_heard e) (λ x. bound _ _ _ _ (answer _ _)
          (λ items. elements_heard more items))

      pub fields_heard : (ps : PropRow) → Heard (List PlainField) (fields p act ps)
      fields_heard no_props = given _ []
      fields_heard (more_props (tree.Named name e) more) =
          bound _ _ _ _ (value_heard e) (λ x. bound _ _ _ _ (fields_heard more) (λ found. given _ _))
      fields_heard (more_props (tree.Quoted name e) more) =
          bound _ _ _ _ (value_heard e) (λ x. bound _ _ _ _ (fields_heard more) (λ found. given _ _))
      fields_heard (more_props (tree.Short name target) more) =
          both _ _ _ _ (spent 1) (bound _ _ _ _ (named_heard p target)
          (λ x. bound _ _ _ _ (fields_heard more) (λ found. given _ _)))
      fields_heard (more_props (tree.Spread e) more) =
          bound _ _ _ _ (value_heard e) (λ x. bound _ _ _ _ (answer _ _)
          (λ these. bound _ _ _ _ (fields_heard more) (λ found. given _ _)))

      pub path_heard
          : (letter : PathKind) (text : List ℕ) (holes : HoleRow)
          → Heard Plain (path_holes p act letter text holes)
      path_heard letter text no_holes = path_value_heard p letter None text
      path_heard letter text (more_holes (tree.Hole e following) more) =
          bound _ _ _ _ (value_heard e) (λ x. bound _ _ _ _ (answer _ _)
          (λ first. bound _ _ _ _ (holes_heard _ more) (λ rest. path_value_heard p letter _ _)))

      pub holes_heard
          : (read : Plain → Outcome (List ℕ)) (holes : HoleRow)
          → Heard (List ℕ) (hole_texts p act read holes)
      holes_heard read no_holes = given _ []
      holes_heard read (more_holes (tree.Hole e text) more) =
          bound _ _ _ _ (value_heard e) (λ x. bound _ _ _ _ (answer _ _)
          (λ hole. bound _ _ _ _ (holes_heard read more) (λ rest. given _ _)))

    -- ## Statements

    next_heard : (way : Way) (more : Gives Way) → Heard Way more → Heard Way (next way more)
    next_heard On more heard = heard
    next_heard (Back x) more heard = given Way (Back x)

    turns_heard
        : (n : ℕ) (body : Gives Way) → Heard Way body → (items : List Plain)
        → Heard Way (turns n body items)
    turns_heard n body heard [] = given _ On
    turns_heard n body heard (x ∷ xs) =
        both _ _ _ _ (spent 1) (both _ _ _ _ (bind_heard n x)
        (bound _ _ _ _ heard (λ way. next_heard way _ (turns_heard n body heard xs))))

    mutual
      unfolding does otherwise all

      pub does_heard : (s : StmtData) → Heard Way (does p act s)
      does_heard (tree.Const n t e) =
          both _ _ _ _ (spent 1)
          (bound _ _ _ _ (value_heard e) (λ x. both _ _ _ _ (bind_heard n x) (given _ On)))
      does_heard (tree.Let n t None) =
          both _ _ _ _ (spent 1) (both _ _ _ _ (bind_heard n plain.Undefined) (given _ On))
      does_heard (tree.Let n t (Some e)) =
          both _ _ _ _ (spent 1)
          (bound _ _ _ _ (value_heard e) (λ x. both _ _ _ _ (bind_heard n x) (given _ On)))
      does_heard (tree.Assign n e) =
          both _ _ _ _ (spent 1)
          (bound _ _ _ _ (value_heard e) (λ x. both _ _ _ _ (bind_heard n x) (given _ On)))
      does_heard (tree.If c s other) =
          both _ _ _ _ (spent 1)
          (bound _ _ _ _ (value_heard c) (λ x. choice _ _ _ _ (does_heard s) (otherwise_heard other)))
      does_heard (tree.For kind n list s) =
          both _ _ _ _ (spent 1) (bound _ _ _ _ (value_heard list)
          (λ xs. bound _ _ _ _ (answer _ (items_in xs))
          (λ items. turns_heard n (does p act s) (does_heard s) items)))
      does_heard (tree.Return None) = both _ _ _ _ (spent 1) (given _ _)
      does_heard (tree.Return (Some e)) =
          both _ _ _ _ (spent 1) (bound _ _ _ _ (value_heard e) (λ x. given _ _))
      does_heard (tree.Value e) =
          both _ _ _ _ (spent 1) (bound _ _ _ _ (value_heard e) (λ x. given _ On))
      does_heard (tree.Block ss) = all_heard ss
      does_heard tree.Empty = given _ On

      pub otherwise_heard : (other : MaybeStmt) → Heard Way (otherwise p act other)
      otherwise_heard no_stmt = given _ On
      otherwise_heard (a_stmt s) = does_heard s

      pub all_heard : (ss : StmtRow) → Heard Way (all p act ss)
      all_heard no_stmts = given _ On
      all_heard (more_stmts s more) =
          bound _ _ _ _ (does_heard s) (λ way. next_heard way _ (all_heard more))

    pub body_heard : (body : BodyData) → Heard Plain (body_value p act body)
    unfolding body_value
    body_heard (tree.Expr e) = value_heard e
    body_heard (tree.Stmts ss) = bound _ _ _ _ (all_heard (to_stmts ss)) (λ way. given _ (returned way))
