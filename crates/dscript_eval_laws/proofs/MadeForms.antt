-- Each form evaluates to values that are made.
use Rattle.std.proofs.Common.{ℕ, ◌+◌, ◌-◌, Bool, true, false, cond, List, [], ◌∷◌, ◌++◌, length, Option, Some}
use Rattle.std.proofs.Common.{None, subst, sym}
use Rattle.bx_tree.proofs.Lists.{all_append, all_push}
use Rattle.pip_model_types.specs.declared.pip.Pip.{Pip}
use Rattle.dscript_eval_operators.specs.Truth.{is_true}
use Rattle.bx_tree.specs.Paths.{Atoms}
use Rattle.dscript_program.specs.declared.ambient.Ambient.{Ambient as AmbientCall}
use Rattle.dscript_ast.specs.declared.expr.PathKind.{PathKind}
use Rattle.dscript_ast.specs.declared.expr.PathKind.TheVariants as letters
use Rattle.dscript_value.specs.declared.parts.Callee.{Callee}
use Rattle.dscript_value.specs.declared.parts.Callee.TheVariants as callees
use Rattle.dscript_value.specs.Plain as plain
use Rattle.dscript_value.specs.Plain.{Plain, PlainField, item_list}
use Rattle.dscript_value.specs.Depths.{object_value}
use Rattle.dscript_sdk_values.specs.declared.fault.SdkFault.TheVariants.{Range}
use Rattle.dscript_sdk_values.specs.Answers.{function_answer, list_answer, text_answer}
use Rattle.dscript_sdk_values.specs.Kinds.{items_in}
use Rattle.dscript_sdk_values.specs.Outcomes.{Outcome, unless_none}
use Rattle.dscript_sdk_members.specs.declared.member.Member.{Member}
use Rattle.dscript_sdk_members.specs.declared.member.Member.TheVariants as members
use Rattle.dscript_sdk_members.specs.Names.{member_named}
use Rattle.dscript_sdk.specs.Calls.{call_of}
use Rattle.dscript_sdk.specs.Members.{is_callback_named, is_function_named, member_of, method_of}
use Rattle.dscript_program.specs.BoundTree as tree
use Rattle.dscript_program.specs.BoundTree.{ExprData, OperandRow, PartRow, ExprRow, ElementRow, PropRow}
use Rattle.dscript_program.specs.BoundTree.{HoleRow}
use Rattle.dscript_program.specs.BoundTree.{no_exprs, more_exprs, no_operands, more_operands, no_parts}
use Rattle.dscript_program.specs.BoundTree.{more_parts, no_elements, more_elements, no_props, more_props}
use Rattle.dscript_program.specs.BoundTree.{no_holes, more_holes, StmtData, MaybeStmt, no_stmt, a_stmt}
use Rattle.dscript_program.specs.BoundTree.{StmtRow, no_stmts, more_stmts, BodyData, to_stmts}
use Rattle.dscript_program.specs.ProgramData as kinds
use Rattle.dscript_program.specs.ProgramData.{KindData, ProgramData}
use Rattle.dscript_program.specs.declared.target.Target.{Target}
use Rattle.dscript_program.specs.declared.target.Target.TheVariants as targets
use Rattle.dscript_eval_operators.specs.CallbackArguments.{Function, callback_in, reduction_in}
use Rattle.dscript_eval_operators.specs.Indexing.{indexed}
use Rattle.dscript_eval_operators.specs.Operators.{is_settled, operated, prefixed}
use Rattle.dscript_eval_operators.specs.PathLiterals.{first_hole, path_literal}
use Rattle.dscript_eval_operators.specs.RelativeLiterals.{atom_literal, relative_literal}
use Rattle.dscript_eval_operators.specs.Texts.{literal_hole, template_hole}
use Rattle.dscript_eval_operators.specs.Spreads.{spread_fields, with_items_of}
use Rattle.dscript_eval_meaning.specs.declared.fault.EvalKind.TheVariants as faults
use Rattle.dscript_eval_meaning.specs.Acts.{Act, Acts, Call, Demand}
use Rattle.dscript_eval_meaning.specs.Callbacks.{callbacks, filtered, joined, mapped, reduced}
use Rattle.dscript_eval_meaning.specs.Calls.{Subject, Named, Whole, ambient, applied, call_of_function, held_method}
use Rattle.dscript_eval_meaning.specs.Calls.{items_of}
use Rattle.dscript_eval_meaning.specs.Calls.{member, method, plain_method, subject_call, whole}
use Rattle.dscript_eval_meaning.specs.Constants.{by_status, constant, status_in}
use Rattle.dscript_eval_meaning.specs.Evaluating.{Gives, answered, gives, spend, step, ◌>>=◌, ◌>>◌}
use Rattle.dscript_eval_meaning.specs.Expressions.{after, arguments, arrow, captured_of, declared, directory}
use Rattle.dscript_eval_meaning.specs.Expressions.{elements, fields, hole_texts, named, operands, path_holes}
use Rattle.dscript_eval_meaning.specs.Expressions.{operator_count, path_value, value}
use Rattle.dscript_eval_meaning.specs.Frames.{bind, captures, local}
use Rattle.dscript_eval_meaning.specs.Lookups.{declared_at, function_at, path_at}
use Rattle.dscript_eval_meaning.specs.States.{Status, Waiting, Running, Done}
use Rattle.dscript_eval_meaning.specs.Statements.{Way, On, Back, all, body_value, does, next, otherwise, returned}
use Rattle.dscript_eval_meaning.specs.Statements.{turns}
use Rattle.dscript_eval_laws.proofs.MadeCalls.{call_made}
use Rattle.dscript_eval_laws.proofs.MadeMembers.{member_made, method_made}
use Rattle.dscript_eval_laws.proofs.FoundLocals.{as_many_held}
use Rattle.dscript_eval_laws.proofs.MadeOperators.{IsFunctionMade, IsReductionMade, atom_made, callback_made, indexed_made}
use Rattle.dscript_eval_laws.proofs.MadeOperators.{operated_made, path_made}
use Rattle.dscript_eval_laws.proofs.MadeOperators.{prefixed_made, reduction_made, relative_made, spread_made}
use Rattle.dscript_eval_laws.proofs.MadeOperators.{with_items_made}
use Rattle.dscript_eval_laws.proofs.MadeOutcomes.{If, anything, either, function_answered, in_list, list_answered}
use Rattle.dscript_eval_laws.proofs.MadeOutcomes.{object_answered, text_answered}
use Rattle.dscript_eval_laws.proofs.MadeStates.{Keeps, Whatever, answer, answer_at, both, bound, captures_made, changed}
use Rattle.dscript_eval_laws.proofs.MadeStates.{failed, given, local_made, pips_of, set_at, spent, status_made}
use Rattle.dscript_eval_laws.proofs.MadeStates.{IsStatusMade}
use Rattle.dscript_eval_laws.proofs.MadeValues.{AreFieldsMade, AreMade, Grows, IsHolding, IsMade, all_still, fields_still}
use Rattle.dscript_eval_laws.proofs.MadeValues.{grown_on, items_made, no_growth, still_made}

module _ (F : ℕ → ℕ → Type 0) where
  pub choice
      : (A : Type 0) (P : List Pip → A → Type 0) (pips : List Pip) (b : Bool) (m m' : Gives A) → Keeps F A P pips m
      → Keeps F A P pips m' → Keeps F A P pips (cond b m m')
  choice A P pips true m m' one other = one
  choice A P pips false m m' one other = other

  -- ## Locals, members and ambient calls

  local_kept : (pips : List Pip) (n : ℕ) → Keeps F Plain (IsMade F) pips (local n)
  local_kept pips n = λ s grows sound. record {
    grows = no_growth (pips_of s);
    sound = sound;
    value = local_made F (pips_of s) s.frame n sound.frame;
  }

  bind_kept
      : (pips : List Pip) (n : ℕ) (x : Plain) → IsMade F pips x
      → Keeps F (Unit {0}) (Whatever (Unit {0})) pips (bind n x)
  bind_kept pips n x h = λ s grows sound. record {
    grows = no_growth (pips_of s);
    sound = record {
      fit = sound.fit;
      frame = record {
        held = sound.frame.held;
        own = set_at (IsMade F (pips_of s)) s.frame.own (n - s.frame.first) x sound.frame.own
            (still_made F pips (pips_of s) grows x h);
      };
      constants = sound.constants;
    };
    value = tt;
  }

  member_kept : (pips : List Pip) (x : Plain) (name : List ℕ) → IsMade F pips x → Keeps F Plain (IsMade F) pips (member x name)
  unfolding member
  member_kept pips x name h =
      answer_at F Plain (IsMade F) pips (λ s. member_of s.calls x name)
      (λ s grows sound. member_made F s.calls sound.fit x name (still_made F pips (pips_of s) grows x h))

  plain_method_kept
      : (pips : List Pip) (x : Plain) (name : List ℕ) (args : List Plain) → IsMade F pips x → AreMade F pips args
      → Keeps F Plain (IsMade F) pips (plain_method x name args)
  plain_method_kept pips x name args h all =
      changed F pips (λ s. method_of s.calls x name args)
      (λ s grows sound. method_made F s.calls sound.fit x name args (still_made F pips (pips_of s) grows x h)
      (all_still F pips (pips_of s) grows args all))

  abbrev pub IsSubjectMade : List Pip → Subject → Type 0
  IsSubjectMade pips (Whole x) = IsMade F pips x
  IsSubjectMade pips (Named x name) = IsMade F pips x

  whole_kept : (pips : List Pip) (subject : Subject) → IsSubjectMade pips subject → Keeps F Plain (IsMade F) pips (whole subject)
  whole_kept pips (Whole x) h = given F Plain (IsMade F) pips x (λ now grows. still_made F pips now grows x h)
  whole_kept pips (Named x name) h = member_kept pips x name h

  pub ambient_kept
      : (p : ProgramData) (pips : List Pip) (name : AmbientCall) (args : List Plain) → AreMade F pips args
      → Keeps F Plain (IsMade F) pips (ambient p name args)
  unfolding ambient
  ambient_kept p pips name args all =
      changed F pips (λ s. call_of name (path_at p s.frame.file) args s.calls)
      (λ s grows sound. call_made F (path_at p s.frame.file) args s.calls sound.fit
      (all_still F pips (pips_of s) grows args all) name)

  path_value_kept
      : (p : ProgramData) (pips : List Pip) (letter : PathKind) (base : Option Atoms) (text : List ℕ)
      → Keeps F Plain (IsMade F) pips (path_value p letter base text)
  path_value_kept p pips letter base text =
      answer_at F Plain (IsMade F) pips (λ s. path_literal letter (directory p s) base text)
      (λ s grows sound. path_made F (pips_of s) letter (directory p s) base text)

  -- each arrow function and each declared one holds as many values as F says
  abbrev pub IsKindHolding : Option KindData → Type 0
  IsKindHolding None = Unit {0}
  IsKindHolding (Some (kinds.Const t e)) = Unit {0}
  IsKindHolding (Some (kinds.Function ts t number)) = F number 0
  IsKindHolding (Some (kinds.Interface ts es ms)) = Unit {0}
  IsKindHolding (Some (kinds.TypeAlias ts t)) = Unit {0}

  pub record Holds (p : ProgramData) : Type 0 where
    pub arrows : (number : ℕ) → F number (length (captured_of (function_at p number)))
    pub declares : (file decl : ℕ) → IsKindHolding (declared_at p file decl)

  arrow_kept : (p : ProgramData) → Holds p → (pips : List Pip) (number : ℕ) → Keeps F Plain (IsMade F) pips (arrow p number)
  unfolding arrow
  arrow_kept p holds pips number =
      let locals = captured_of (function_at p number) in
      answer_at F Plain (IsMade F) pips (λ s. function_answer (callees.Place number) (captures locals s))
      (λ s grows sound. function_answered F (pips_of s) (callees.Place number) (captures locals s)
      (subst (F number) (sym (as_many_held locals s)) (holds.arrows number))
      (captures_made F (pips_of s) locals s sound.frame))

  abbrev pub IsActMade : List Pip → Act → Type 0
  IsActMade pips (Call callee held args) =
      IsHolding F callee (length held) × AreMade F pips held × AreMade F pips args
  IsActMade pips (Demand file decl) = Unit {0}

  -- what is opened with values that are made evaluates to one
  abbrev pub Opens : Acts → Type 0
  Opens act = (pips : List Pip) (a : Act) → IsActMade pips a → Keeps F Plain (IsMade F) pips (act a)

  module _ (act : Acts) (opens : Opens act) where
    -- ## Callbacks

    mapped_kept
        : (f : Function) (n : ℕ) (xs : List Plain) (pips : List Pip) → IsHolding F f.0 (length f.1)
        → AreMade F pips f.1 → AreMade F pips xs
        → Keeps F (List Plain) (AreMade F) pips (mapped act f n xs)
    mapped_kept f n [] pips c h k = given F (List Plain) (AreMade F) pips [] (λ now grows. tt)
    mapped_kept f n (x ∷ xs) pips c h k =
        bound F Plain (List Plain) (IsMade F) (AreMade F) pips _ _ (opens pips _ (c, h, (k.0, (tt, tt))))
        (λ now y grows made. bound F (List Plain) (List Plain) (AreMade F) (AreMade F) now _ _
        (mapped_kept f (n + 1) xs now c (all_still F pips now grows f.1 h) (all_still F pips now grows xs k.1))
        (λ later ys more all. given F (List Plain) (AreMade F) later (y ∷ ys)
        (λ last on. (still_made F now last (grown_on now later last more on) y made, all_still F later last on ys all))))

    filtered_kept
        : (f : Function) (n : ℕ) (xs : List Plain) (pips : List Pip) → IsHolding F f.0 (length f.1)
        → AreMade F pips f.1 → AreMade F pips xs
        → Keeps F (List Plain) (AreMade F) pips (filtered act f n xs)
    filtered_kept f n [] pips c h k = given F (List Plain) (AreMade F) pips [] (λ now grows. tt)
    filtered_kept f n (x ∷ xs) pips c h k =
        bound F Plain (List Plain) (IsMade F) (AreMade F) pips _ _ (opens pips _ (c, h, (k.0, (tt, tt))))
        (λ now y grows made. bound F (List Plain) (List Plain) (AreMade F) (AreMade F) now _ _
        (filtered_kept f (n + 1) xs now c (all_still F pips now grows f.1 h) (all_still F pips now grows xs k.1))
        (λ later kept more all. given F (List Plain) (AreMade F) later _
        (λ last on. either (AreMade F last) (is_true y) (x ∷ kept) kept (
          (still_made F) pips last (grown_on pips later last (grown_on pips now later grows more) on) x k.0,
          (all_still F) later last on kept all,
        ) (all_still F later last on kept all))))

    joined_kept
        : (f : Function) (n : ℕ) (done xs : List Plain) (pips : List Pip) → IsHolding F f.0 (length f.1)
        → AreMade F pips f.1 → AreMade F pips done
        → AreMade F pips xs → Keeps F (List Plain) (AreMade F) pips (joined act f n done xs)
    joined_kept f n done [] pips c h d k = given F (List Plain) (AreMade F) pips done (λ now grows. all_still F pips now grows done d)
    joined_kept f n done (x ∷ xs) pips c h d k =
        bound F Plain (List Plain) (IsMade F) (AreMade F) pips _ _ (opens pips _ (c, h, (k.0, (tt, tt))))
        (λ now y grows made. bound F (List Plain) (List Plain) (AreMade F) (AreMade F) now _ _
        (answer F (List Plain) (AreMade F) now (with_items_of done y)
        (λ later more. with_items_made F later done y (all_still F pips later (grown_on pips now later grows more) done d)
        (still_made F now later more y made)))
        (λ later all more made'. joined_kept f (n + 1) all xs later c
        (all_still F pips later (grown_on pips now later grows more) f.1 h) made'
        (all_still F pips later (grown_on pips now later grows more) xs k.1)))

    reduced_kept
        : (f : Function) (n : ℕ) (x : Plain) (xs : List Plain) (pips : List Pip) → IsHolding F f.0 (length f.1)
        → AreMade F pips f.1
        → IsMade F pips x → AreMade F pips xs → Keeps F Plain (IsMade F) pips (reduced act f n x xs)
    reduced_kept f n so_far [] pips c h d k =
        given F Plain (IsMade F) pips so_far (λ now grows. still_made F pips now grows so_far d)
    reduced_kept f n so_far (x ∷ xs) pips c h d k =
        bound F Plain Plain (IsMade F) (IsMade F) pips _ _ (opens pips _ (c, h, (d, (k.0, (tt, tt)))))
        (λ now y grows made. reduced_kept f (n + 1) y xs now c (all_still F pips now grows f.1 h) made
        (all_still F pips now grows xs k.1))

    listed : (pips : List Pip) (ys : List Plain) → AreMade F pips ys → Keeps F Plain (IsMade F) pips (answered (list_answer ys))
    listed pips ys h =
        answer F Plain (IsMade F) pips (list_answer ys) (λ now grows. list_answered F now ys (all_still F pips now grows ys h))

    callbacks_kept
        : (m : Option Member) (items args : List Plain) (pips : List Pip) → AreMade F pips items → AreMade F pips args
        → Keeps F Plain (IsMade F) pips (callbacks act m items args)
    unfolding callbacks
    callbacks_kept (Some members.Map) items args pips h k =
        bound F Function Plain (IsFunctionMade F) (IsMade F) pips _ _
        (answer F Function (IsFunctionMade F) pips (callback_in args)
        (λ now grows. callback_made F now args (all_still F pips now grows args k)))
        (λ now f grows made. bound F (List Plain) Plain (AreMade F) (IsMade F) now _ _
        (mapped_kept f 0 items now made.0 made.1 (all_still F pips now grows items h)) (λ later ys more all. listed later ys all))
    callbacks_kept (Some members.Filter) items args pips h k =
        bound F Function Plain (IsFunctionMade F) (IsMade F) pips _ _
        (answer F Function (IsFunctionMade F) pips (callback_in args)
        (λ now grows. callback_made F now args (all_still F pips now grows args k)))
        (λ now f grows made. bound F (List Plain) Plain (AreMade F) (IsMade F) now _ _
        (filtered_kept f 0 items now made.0 made.1 (all_still F pips now grows items h)) (λ later ys more all. listed later ys all))
    callbacks_kept (Some members.MapMany) items args pips h k =
        bound F Function Plain (IsFunctionMade F) (IsMade F) pips _ _
        (answer F Function (IsFunctionMade F) pips (callback_in args)
        (λ now grows. callback_made F now args (all_still F pips now grows args k)))
        (λ now f grows made. bound F (List Plain) Plain (AreMade F) (IsMade F) now _ _
        (joined_kept f 0 [] items now made.0 made.1 tt (all_still F pips now grows items h))
        (λ later ys more all. listed later ys all))
    callbacks_kept (Some members.Reduce) items args pips h k =
        bound F (Function × Plain) Plain (IsReductionMade F) (IsMade F) pips _ _
        (answer F (Function × Plain) (IsReductionMade F) pips (reduction_in args)
        (λ now grows. reduction_made F now args (all_still F pips now grows args k)))
        (λ now r grows made. reduced_kept r.0 0 r.1 items now made.0.0 made.0.1 made.1 (all_still F pips now grows items h))
    callbacks_kept _ items args pips h k = failed F Plain (IsMade F) pips faults.Missing (λ file h. h)

    -- ## Calls

    items_are : (pips : List Pip) (x : Plain) → IsMade F pips x → AreMade F pips (items_of x)
    items_are pips (plain.Listed depth items) h = items_made F pips items h
    items_are pips _ h = tt

    method_kept
        : (x : Plain) (name : List ℕ) (args : List Plain) (pips : List Pip) → IsMade F pips x → AreMade F pips args
        → Keeps F Plain (IsMade F) pips (method act x name args)
    unfolding method
    method_kept x name args pips h all =
        choice Plain (IsMade F) pips (is_callback_named name x) _ _
        (callbacks_kept (member_named name) (items_of x) args pips (items_are pips x h) all)
        (plain_method_kept pips x name args h all)

    pub held_method_kept
        : (held : List Plain) (name : List ℕ) (args : List Plain) (pips : List Pip) → AreMade F pips held
        → AreMade F pips args → Keeps F Plain (IsMade F) pips (held_method act held name args)
    held_method_kept [] name args pips h all = failed F Plain (IsMade F) pips faults.Kind (λ file h. h)
    held_method_kept (x ∷ others) name args pips h all = method_kept x name args pips h.0 all

    called_kept
        : (p : ProgramData) (callee : Callee) (held args : List Plain) (pips : List Pip)
        → IsHolding F callee (length held) → AreMade F pips held
        → AreMade F pips args → Keeps F Plain (IsMade F) pips (call_of_function p act callee held args)
    called_kept p (callees.Place number) held args pips c h all =
        opens pips (Call (callees.Place number) held args) (c, h, all)
    called_kept p (callees.Ambient name) held args pips c h all = ambient_kept p pips name args all
    called_kept p (callees.Member name) held args pips c h all = held_method_kept held name args pips h all

    applied_kept
        : (p : ProgramData) (f : Plain) (args : List Plain) (pips : List Pip) → IsMade F pips f → AreMade F pips args
        → Keeps F Plain (IsMade F) pips (applied p act f args)
    unfolding applied
    applied_kept p (plain.Function callee depth held) args pips h all =
        called_kept p callee (item_list held) args pips h.0 (items_made F pips held h.1) all
    applied_kept p _ args pips h all = failed F Plain (IsMade F) pips faults.Kind (λ file h. h)

    method_call
        : (xs : Gives (List Plain)) → ((now : List Pip) → Keeps F (List Plain) (AreMade F) now xs) → (x : Plain)
        (name : List ℕ) (pips : List Pip) → IsMade F pips x
        → Keeps F Plain (IsMade F) pips (step >> xs >>= λ args. method act x name args)
    method_call xs kept x name pips h =
        both F (Unit {0}) Plain (Whatever (Unit {0})) (IsMade F) pips _ _ (spent F 1 pips)
        (λ now grows. bound F (List Plain) Plain (AreMade F) (IsMade F) now _ _ (kept now)
        (λ later args more all. method_kept x name args later
        (still_made F pips later (grown_on pips now later grows more) x h) all))

    value_call
        : (p : ProgramData) (xs : Gives (List Plain)) → ((now : List Pip) → Keeps F (List Plain) (AreMade F) now xs)
        → (f : Plain) (pips : List Pip) → IsMade F pips f
        → Keeps F Plain (IsMade F) pips (step >> xs >>= λ args. applied p act f args)
    value_call p xs kept f pips h =
        both F (Unit {0}) Plain (Whatever (Unit {0})) (IsMade F) pips _ _ (spent F 1 pips)
        (λ now grows. bound F (List Plain) Plain (AreMade F) (IsMade F) now _ _ (kept now)
        (λ later args more all. applied_kept p f args later
        (still_made F pips later (grown_on pips now later grows more) f h) all))

    member_call
        : (p : ProgramData) (xs : Gives (List Plain)) → ((now : List Pip) → Keeps F (List Plain) (AreMade F) now xs)
        → (x : Plain) (name : List ℕ) (pips : List Pip) → IsMade F pips x
        → Keeps F Plain (IsMade F) pips (member x name >>= λ f. step >> xs >>= λ args. applied p act f args)
    member_call p xs kept x name pips h =
        bound F Plain Plain (IsMade F) (IsMade F) pips _ _ (member_kept pips x name h)
        (λ now f grows made. value_call p xs kept f now made)

    subject_kept
        : (p : ProgramData) (xs : Gives (List Plain)) → ((now : List Pip) → Keeps F (List Plain) (AreMade F) now xs)
        → (subject : Subject) (pips : List Pip) → IsSubjectMade pips subject
        → Keeps F Plain (IsMade F) pips (subject_call p act xs subject)
    unfolding subject_call
    subject_kept p xs kept (Whole f) pips h = value_call p xs kept f pips h
    subject_kept p xs kept (Named x name) pips h =
        λ s grows sound. choice Plain (IsMade F) pips (is_function_named s.calls x name) _ _
        (method_call xs kept x name pips h) (member_call p xs kept x name pips h) s grows sound

    -- ## Names

    by_status_kept
        : (file decl : ℕ) (status : Status) (pips : List Pip) → IsStatusMade F pips status
        → Keeps F Plain (IsMade F) pips (by_status act file decl status)
    by_status_kept file decl Waiting pips h = opens pips (Demand file decl) tt
    by_status_kept file decl Running pips h = failed F Plain (IsMade F) pips faults.Cycle (λ file h. h)
    by_status_kept file decl (Done x) pips h =
        given F Plain (IsMade F) pips x (λ now grows. still_made F pips now grows x h)

    pub constant_kept : (file decl : ℕ) (pips : List Pip) → Keeps F Plain (IsMade F) pips (constant act file decl)
    unfolding constant
    constant_kept file decl pips =
        λ s grows sound. by_status_kept file decl (status_in s.constants file decl) (pips_of s)
        (status_made F (pips_of s) s.constants file decl sound.constants) s (no_growth (pips_of s)) sound

    declared_kept
        : (file decl : ℕ) (kind : Option KindData) (pips : List Pip) → IsKindHolding kind
        → Keeps F Plain (IsMade F) pips (declared act file decl kind)
    declared_kept file decl None pips h = failed F Plain (IsMade F) pips faults.Kind (λ file h. h)
    declared_kept file decl (Some (kinds.Const t e)) pips h = constant_kept file decl pips
    declared_kept file decl (Some (kinds.Function ts t number)) pips h =
        answer F Plain (IsMade F) pips (function_answer (callees.Place number) [])
        (λ now grows. function_answered F now (callees.Place number) [] h tt)
    declared_kept file decl (Some (kinds.Interface ts es ms)) pips h = failed F Plain (IsMade F) pips faults.Kind (λ file h. h)
    declared_kept file decl (Some (kinds.TypeAlias ts t)) pips h = failed F Plain (IsMade F) pips faults.Kind (λ file h. h)

    named_kept : (p : ProgramData) → Holds p → (target : Target) (pips : List Pip) → Keeps F Plain (IsMade F) pips (named p act target)
    unfolding named
    named_kept p holds (targets.Local n) pips = local_kept pips n
    named_kept p holds (targets.Declared file decl) pips = declared_kept file decl (declared_at p file decl) pips (holds.declares file decl)
    named_kept p holds (targets.Ambient call) pips =
        answer F Plain (IsMade F) pips (function_answer (callees.Ambient call) [])
        (λ now grows. function_answered F now (callees.Ambient call) [] tt tt)

    module _ (p : ProgramData) (holds : Holds p) where
      -- ## Expressions

      -- a step, and then a value
      after_steps
          : (n : ℕ) (pips : List Pip) (m : Gives Plain) → ((now : List Pip) → Grows pips now → Keeps F Plain (IsMade F) now m)
          → Keeps F Plain (IsMade F) pips (spend n >> m)
      after_steps n pips m next = both F (Unit {0}) Plain (Whatever (Unit {0})) (IsMade F) pips (spend n) m (spent F n pips) next

      -- a value that is made wherever the pips are
      constant_value
          : (n : ℕ) (pips : List Pip) (x : Plain) → ((now : List Pip) → IsMade F now x)
          → Keeps F Plain (IsMade F) pips (spend n >> gives x)
      constant_value n pips x h = after_steps n pips (gives x) (λ now grows. given F Plain (IsMade F) now x (λ later more. h later))

      -- a text, and then what is answered to it
      text_read
          : (pips : List Pip) (texts : Gives (List ℕ)) (answer' : List ℕ → Outcome Plain)
          → ((now : List Pip) → Keeps F (List ℕ) (Whatever (List ℕ)) now texts)
          → ((now : List Pip) (text : List ℕ) → If (IsMade F now) (answer' text))
          → Keeps F Plain (IsMade F) pips (texts >>= λ text. answered (answer' text))
      text_read pips texts answer' kept made =
          bound F (List ℕ) Plain (Whatever (List ℕ)) (IsMade F) pips _ _ (kept pips)
          (λ now text grows any. answer F Plain (IsMade F) now (answer' text) (λ later more. made later text))

      mutual
        unfolding value operands after arguments elements fields path_holes hole_texts

        pub value_kept : (e : ExprData) (pips : List Pip) → Keeps F Plain (IsMade F) pips (value p act e)
        value_kept (tree.Number n) pips = constant_value 1 pips (plain.Number n) (λ now. tt)
        value_kept (tree.Str text) pips =
            after_steps 1 pips _ (λ now grows. answer F Plain (IsMade F) now (text_answer text) (λ later more. text_answered F later text))
        value_kept tree.True pips = constant_value 1 pips (plain.Flag true) (λ now. tt)
        value_kept tree.False pips = constant_value 1 pips (plain.Flag false) (λ now. tt)
        value_kept tree.Undefined pips = constant_value 1 pips plain.Undefined (λ now. tt)
        value_kept (tree.Template text holes) pips =
            after_steps 1 pips _ (λ now grows. text_read now (hole_texts p act template_hole holes) (λ rest. text_answer (text ++ rest))
            (λ later. holes_kept template_hole holes later) (λ later rest. text_answered F later (text ++ rest)))
        value_kept (tree.Path letters.Relative text holes) pips =
            after_steps 1 pips _ (λ now grows. text_read now (hole_texts p act literal_hole holes) (λ rest. relative_literal (text ++ rest))
            (λ later. holes_kept literal_hole holes later) (λ later rest. relative_made F later (text ++ rest)))
        value_kept (tree.Path letters.Atom text holes) pips =
            after_steps 1 pips _ (λ now grows. text_read now (hole_texts p act literal_hole holes) (λ rest. atom_literal (text ++ rest))
            (λ later. holes_kept literal_hole holes later) (λ later rest. atom_made F later (text ++ rest)))
        value_kept (tree.Path letters.Path text holes) pips = after_steps 1 pips _ (λ now grows. path_kept letters.Path text holes now)
        value_kept (tree.Path letters.File text holes) pips = after_steps 1 pips _ (λ now grows. path_kept letters.File text holes now)
        value_kept (tree.Path letters.Directory text holes) pips =
            after_steps 1 pips _ (λ now grows. path_kept letters.Directory text holes now)
        value_kept (tree.Elements es) pips =
            after_steps 1 pips _ (λ now grows. bound F (List Plain) Plain (AreMade F) (IsMade F) now _ _ (elements_kept es [] now tt)
            (λ later items more all. listed later items all))
        value_kept (tree.Object ps) pips =
            after_steps 1 pips _ (λ now grows. bound F (List PlainField) Plain (AreFieldsMade F) (IsMade F) now _ _ (fields_kept ps now)
            (λ later found more all. answer F Plain (IsMade F) later (unless_none Range (object_value found))
            (λ last on. object_answered F last found (fields_still F later last on found all))))
        value_kept (tree.Name target) pips = after_steps 1 pips _ (λ now grows. named_kept p holds target now)
        value_kept (tree.Arrow number) pips = after_steps 1 pips _ (λ now grows. arrow_kept p holds now number)
        value_kept (tree.Cond c a b) pips =
            after_steps 1 pips _ (λ now grows. bound F Plain Plain (IsMade F) (IsMade F) now _ _ (value_kept c now)
            (λ later x more made. choice Plain (IsMade F) later (is_true x) _ _ (value_kept a later) (value_kept b later)))
        value_kept (tree.Chain e more) pips =
            after_steps (operator_count more) pips _ (λ now grows. bound F Plain Plain (IsMade F) (IsMade F) now _ _ (value_kept e now)
            (λ later x on made. operands_kept more x later made))
        value_kept (tree.Unary ops e) pips =
            after_steps (length ops) pips _ (λ now grows. bound F Plain Plain (IsMade F) (IsMade F) now _ _ (value_kept e now)
            (λ later x more made. answer F Plain (IsMade F) later (prefixed ops x)
            (λ last on. prefixed_made F last ops x (still_made F later last on x made))))
        value_kept (tree.Postfix e parts) pips =
            bound F Plain Plain (IsMade F) (IsMade F) pips _ _ (value_kept e pips) (λ now x grows made. after_kept parts (Whole x) now made)

        pub operands_kept : (more : OperandRow) (x : Plain) (pips : List Pip) → IsMade F pips x → Keeps F Plain (IsMade F) pips (operands p act more x)
        operands_kept no_operands x pips h = given F Plain (IsMade F) pips x (λ now grows. still_made F pips now grows x h)
        operands_kept (more_operands (tree.Operand op e) more) x pips h =
            choice Plain (IsMade F) pips (is_settled op x) _ _ (operands_kept more x pips h)
            (bound F Plain Plain (IsMade F) (IsMade F) pips _ _ (value_kept e pips)
            (λ now y grows made. bound F Plain Plain (IsMade F) (IsMade F) now _ _
            (answer F Plain (IsMade F) now (operated op x y) (λ later on. operated_made F later op x y (still_made F now later on y made)))
            (λ later z on made'. operands_kept more z later made')))

        pub after_kept : (parts : PartRow) (subject : Subject) (pips : List Pip) → IsSubjectMade pips subject → Keeps F Plain (IsMade F) pips (after p act parts subject)
        after_kept no_parts subject pips h = whole_kept pips subject h
        after_kept (more_parts (tree.Member name) more) subject pips h =
            bound F Plain Plain (IsMade F) (IsMade F) pips _ _ (whole_kept pips subject h)
            (λ now x grows made. after_steps 1 now _ (λ later on. after_kept more (Named x name) later (still_made F now later on x made)))
        after_kept (more_parts (tree.Index e) more) subject pips h =
            bound F Plain Plain (IsMade F) (IsMade F) pips _ _ (whole_kept pips subject h)
            (λ now x grows made. after_steps 1 now _
            (λ later on. bound F Plain Plain (IsMade F) (IsMade F) later _ _ (value_kept e later)
            (λ last i further made'. bound F Plain Plain (IsMade F) (IsMade F) last _ _
            (answer F Plain (IsMade F) last (indexed x i)
            (λ end g. indexed_made F end x i (still_made F now end (grown_on now last end (grown_on now later last on further) g) x made)))
            (λ end y g made''. after_kept more (Whole y) end made''))))
        after_kept (more_parts (tree.Call args) more) subject pips h =
            bound F Plain Plain (IsMade F) (IsMade F) pips _ _
            (subject_kept p (arguments p act args) (λ now. arguments_kept args now) subject pips h)
            (λ now y grows made. after_kept more (Whole y) now made)

        pub arguments_kept : (es : ExprRow) (pips : List Pip) → Keeps F (List Plain) (AreMade F) pips (arguments p act es)
        arguments_kept no_exprs pips = given F (List Plain) (AreMade F) pips [] (λ now grows. tt)
        arguments_kept (more_exprs e more) pips =
            bound F Plain (List Plain) (IsMade F) (AreMade F) pips _ _ (value_kept e pips)
            (λ now x grows made. bound F (List Plain) (List Plain) (AreMade F) (AreMade F) now _ _ (arguments_kept more now)
            (λ later xs on all. given F (List Plain) (AreMade F) later (x ∷ xs)
            (λ last g. (still_made F now last (grown_on now later last on g) x made, all_still F later last g xs all))))

        pub elements_kept : (es : ElementRow) (done : List Plain) (pips : List Pip) → AreMade F pips done → Keeps F (List Plain) (AreMade F) pips (elements p act es done)
        elements_kept no_elements done pips h = given F (List Plain) (AreMade F) pips done (λ now grows. all_still F pips now grows done h)
        elements_kept (more_elements (tree.Element false e) more) done pips h =
            bound F Plain (List Plain) (IsMade F) (AreMade F) pips _ _ (value_kept e pips)
            (λ now x grows made. elements_kept more (done ++ x ∷ []) now (all_push (IsMade F now) done x (all_still F pips now grows done h) made))
        elements_kept (more_elements (tree.Element true e) more) done pips h =
            bound F Plain (List Plain) (IsMade F) (AreMade F) pips _ _ (value_kept e pips)
            (λ now x grows made. bound F (List Plain) (List Plain) (AreMade F) (AreMade F) now _ _
            (answer F (List Plain) (AreMade F) now (with_items_of done x)
            (λ later on. with_items_made F later done x (all_still F pips later (grown_on pips now later grows on) done h) (still_made F now later on x made)))
            (λ later items on all. elements_kept more items later all))

        pub fields_kept : (ps : PropRow) (pips : List Pip) → Keeps F (List PlainField) (AreFieldsMade F) pips (fields p act ps)
        fields_kept no_props pips = given F (List PlainField) (AreFieldsMade F) pips [] (λ now grows. tt)
        fields_kept (more_props (tree.Named name e) more) pips =
            bound F Plain (List PlainField) (IsMade F) (AreFieldsMade F) pips _ _ (value_kept e pips)
            (λ now x grows made. bound F (List PlainField) (List PlainField) (AreFieldsMade F) (AreFieldsMade F) now _ _ (fields_kept more now)
            (λ later found on all. given F (List PlainField) (AreFieldsMade F) later ((name, x) ∷ found)
            (λ last g. (still_made F now last (grown_on now later last on g) x made, fields_still F later last g found all))))
        fields_kept (more_props (tree.Quoted name e) more) pips =
            bound F Plain (List PlainField) (IsMade F) (AreFieldsMade F) pips _ _ (value_kept e pips)
            (λ now x grows made. bound F (List PlainField) (List PlainField) (AreFieldsMade F) (AreFieldsMade F) now _ _ (fields_kept more now)
            (λ later found on all. given F (List PlainField) (AreFieldsMade F) later ((name, x) ∷ found)
            (λ last g. (still_made F now last (grown_on now later last on g) x made, fields_still F later last g found all))))
        fields_kept (more_props (tree.Short name target) more) pips =
            both F (Unit {0}) (List PlainField) (Whatever (Unit {0})) (AreFieldsMade F) pips _ _ (spent F 1 pips)
            (λ first start. bound F Plain (List PlainField) (IsMade F) (AreFieldsMade F) first _ _ (named_kept p holds target first)
            (λ now x grows made. bound F (List PlainField) (List PlainField) (AreFieldsMade F) (AreFieldsMade F) now _ _ (fields_kept more now)
            (λ later found on all. given F (List PlainField) (AreFieldsMade F) later ((name, x) ∷ found)
            (λ last g. (still_made F now last (grown_on now later last on g) x made, fields_still F later last g found all)))))
        fields_kept (more_props (tree.Spread e) more) pips =
            bound F Plain (List PlainField) (IsMade F) (AreFieldsMade F) pips _ _ (value_kept e pips)
            (λ now x grows made. bound F (List PlainField) (List PlainField) (AreFieldsMade F) (AreFieldsMade F) now _ _
            (answer F (List PlainField) (AreFieldsMade F) now (spread_fields x) (λ later on. spread_made F later x (still_made F now later on x made)))
            (λ later these on all. bound F (List PlainField) (List PlainField) (AreFieldsMade F) (AreFieldsMade F) later _ _ (fields_kept more later)
            (λ last found g all'. given F (List PlainField) (AreFieldsMade F) last (these ++ found)
            (λ end e'. all_append (λ (f : PlainField). IsMade F end f.1) these found
            (fields_still F later end (grown_on later last end g e') these all) (fields_still F last end e' found all')))))

        pub path_kept : (letter : PathKind) (text : List ℕ) (holes : HoleRow) (pips : List Pip) → Keeps F Plain (IsMade F) pips (path_holes p act letter text holes)
        path_kept letter text no_holes pips = path_value_kept p pips letter None text
        path_kept letter text (more_holes (tree.Hole e following) more) pips =
            bound F Plain Plain (IsMade F) (IsMade F) pips _ _ (value_kept e pips)
            (λ now x grows made. bound F (Option Atoms × List ℕ) Plain (Whatever (Option Atoms × List ℕ)) (IsMade F) now _ _
            (answer F (Option Atoms × List ℕ) (Whatever (Option Atoms × List ℕ)) now (first_hole text x) (λ later on. anything (first_hole text x)))
            (λ later first on any. bound F (List ℕ) Plain (Whatever (List ℕ)) (IsMade F) later _ _ (holes_kept literal_hole more later)
            (λ last rest g any'. path_value_kept p last letter first.0 (first.1 ++ following ++ rest))))

        pub holes_kept : (read : Plain → Outcome (List ℕ)) (holes : HoleRow) (pips : List Pip) → Keeps F (List ℕ) (Whatever (List ℕ)) pips (hole_texts p act read holes)
        holes_kept read no_holes pips = given F (List ℕ) (Whatever (List ℕ)) pips [] (λ now grows. tt)
        holes_kept read (more_holes (tree.Hole e text) more) pips =
            bound F Plain (List ℕ) (IsMade F) (Whatever (List ℕ)) pips _ _ (value_kept e pips)
            (λ now x grows made. bound F (List ℕ) (List ℕ) (Whatever (List ℕ)) (Whatever (List ℕ)) now _ _
            (answer F (List ℕ) (Whatever (List ℕ)) now (read x) (λ later on. anything (read x)))
            (λ later hole on any. bound F (List ℕ) (List ℕ) (Whatever (List ℕ)) (Whatever (List ℕ)) later _ _ (holes_kept read more later)
            (λ last rest g any'. given F (List ℕ) (Whatever (List ℕ)) last (hole ++ text ++ rest) (λ end e'. tt))))

      -- ## Statements

      abbrev IsWayMade : List Pip → Way → Type 0
      IsWayMade pips On = Unit {0}
      IsWayMade pips (Back x) = IsMade F pips x

      goes_on : (pips : List Pip) → Keeps F Way IsWayMade pips (gives On)
      goes_on pips = given F Way IsWayMade pips On (λ now grows. tt)

      gives_back : (pips : List Pip) (x : Plain) → IsMade F pips x → Keeps F Way IsWayMade pips (gives (Back x))
      gives_back pips x h = given F Way IsWayMade pips (Back x) (λ now grows. still_made F pips now grows x h)

      next_kept : (way : Way) (more : Gives Way) (pips : List Pip) → IsWayMade pips way → Keeps F Way IsWayMade pips more → Keeps F Way IsWayMade pips (next way more)
      next_kept On more pips h kept = kept
      next_kept (Back x) more pips h kept = gives_back pips x h

      way_after
          : (pips : List Pip) (m : Gives Way) → ((now : List Pip) → Grows pips now → Keeps F Way IsWayMade now m)
          → Keeps F Way IsWayMade pips (step >> m)
      way_after pips m kept = both F (Unit {0}) Way (Whatever (Unit {0})) IsWayMade pips step m (spent F 1 pips) kept

      bind_on : (n : ℕ) (x : Plain) (pips : List Pip) → IsMade F pips x → Keeps F Way IsWayMade pips (bind n x >> gives On)
      bind_on n x pips h =
          both F (Unit {0}) Way (Whatever (Unit {0})) IsWayMade pips (bind n x) (gives On) (bind_kept pips n x h) (λ now grows. goes_on now)

      turns_kept
          : (n : ℕ) (body : Gives Way) → ((now : List Pip) → Keeps F Way IsWayMade now body) → (items : List Plain) (pips : List Pip) → AreMade F pips items
          → Keeps F Way IsWayMade pips (turns n body items)
      turns_kept n body kept [] pips h = goes_on pips
      turns_kept n body kept (x ∷ xs) pips h =
          way_after pips _
          (λ now grows. both F (Unit {0}) Way (Whatever (Unit {0})) IsWayMade now (bind n x) _ (bind_kept now n x (still_made F pips now grows x h.0))
          (λ later on. bound F Way Way IsWayMade IsWayMade later _ _ (kept later)
          (λ last way g made. next_kept way _ last made
          (turns_kept n body kept xs last (all_still F pips last (grown_on pips later last (grown_on pips now later grows on) g) xs h.1)))))

      mutual
        unfolding does otherwise all

        pub does_kept : (s : StmtData) (pips : List Pip) → Keeps F Way IsWayMade pips (does p act s)
        does_kept (tree.Const n t e) pips =
            way_after pips _ (λ now grows. bound F Plain Way (IsMade F) IsWayMade now _ _ (value_kept e now) (λ later x on made. bind_on n x later made))
        does_kept (tree.Let n t None) pips = way_after pips _ (λ now grows. bind_on n plain.Undefined now tt)
        does_kept (tree.Let n t (Some e)) pips =
            way_after pips _ (λ now grows. bound F Plain Way (IsMade F) IsWayMade now _ _ (value_kept e now) (λ later x on made. bind_on n x later made))
        does_kept (tree.Assign n e) pips =
            way_after pips _ (λ now grows. bound F Plain Way (IsMade F) IsWayMade now _ _ (value_kept e now) (λ later x on made. bind_on n x later made))
        does_kept (tree.If c s other) pips =
            way_after pips _ (λ now grows. bound F Plain Way (IsMade F) IsWayMade now _ _ (value_kept c now)
            (λ later x on made. choice Way IsWayMade later (is_true x) _ _ (does_kept s later) (otherwise_kept other later)))
        does_kept (tree.For kind n list s) pips =
            way_after pips _ (λ now grows. bound F Plain Way (IsMade F) IsWayMade now _ _ (value_kept list now)
            (λ later xs on made. bound F (List Plain) Way (AreMade F) IsWayMade later _ _
            (answer F (List Plain) (AreMade F) later (items_in xs) (λ last g. in_list F last xs (still_made F later last g xs made)))
            (λ last items g all. turns_kept n (does p act s) (λ end. does_kept s end) items last all)))
        does_kept (tree.Return None) pips = way_after pips _ (λ now grows. gives_back now plain.Undefined tt)
        does_kept (tree.Return (Some e)) pips =
            way_after pips _ (λ now grows. bound F Plain Way (IsMade F) IsWayMade now _ _ (value_kept e now) (λ later x on made. gives_back later x made))
        does_kept (tree.Value e) pips =
            way_after pips _ (λ now grows. bound F Plain Way (IsMade F) IsWayMade now _ _ (value_kept e now) (λ later x on made. goes_on later))
        does_kept (tree.Block ss) pips = all_kept ss pips
        does_kept tree.Empty pips = goes_on pips

        pub otherwise_kept : (other : MaybeStmt) (pips : List Pip) → Keeps F Way IsWayMade pips (otherwise p act other)
        otherwise_kept no_stmt pips = goes_on pips
        otherwise_kept (a_stmt s) pips = does_kept s pips

        pub all_kept : (ss : StmtRow) (pips : List Pip) → Keeps F Way IsWayMade pips (all p act ss)
        all_kept no_stmts pips = goes_on pips
        all_kept (more_stmts s more) pips =
            bound F Way Way IsWayMade IsWayMade pips _ _ (does_kept s pips)
            (λ now way grows made. next_kept way _ now made (all_kept more now))

      returned_made : (pips : List Pip) (way : Way) → IsWayMade pips way → IsMade F pips (returned way)
      returned_made pips On h = tt
      returned_made pips (Back x) h = h

      way_still : (before now : List Pip) → Grows before now → (way : Way) → IsWayMade before way → IsWayMade now way
      way_still before now grows On h = tt
      way_still before now grows (Back x) h = still_made F before now grows x h

      pub body_kept : (body : BodyData) (pips : List Pip) → Keeps F Plain (IsMade F) pips (body_value p act body)
      unfolding body_value
      body_kept (tree.Expr e) pips = value_kept e pips
      body_kept (tree.Stmts ss) pips =
          bound F Way Plain IsWayMade (IsMade F) pips _ _ (all_kept (to_stmts ss) pips)
          (λ now way grows made. given F Plain (IsMade F) now (returned way)
          (λ later on. returned_made later way (way_still now later on way made)))
