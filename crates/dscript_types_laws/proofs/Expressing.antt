-- Expressions come to what their subjects say: each form.
use Rattle.std.proofs.Common.{◌≡◌, ℕ, ◌+◌, Bool, true, false, cond, List, [], ◌∷◌, ◌++◌, length, Option, Some, None, Ok, Err, refl, sym, ap, ◌∙◌, subst, inl, inr}
use Rattle.std.specs.List.{AllByRecursion, AllZip}
use Rattle.std.specs.Prelude.{nat_lt}
use Rattle.bx_tree.specs.Paths.{Atoms}
use Rattle.dscript_ast.specs.declared.expr.PathKind.{PathKind}
use Rattle.dscript_ast.specs.declared.expr.PathKind.TheVariants as letters
use Rattle.dscript_ast.specs.declared.operator.BinaryOp.{BinaryOp}
use Rattle.dscript_ast.specs.declared.operator.UnaryOp.{UnaryOp}
use Rattle.dscript_value.specs.Depths.{greatest_depth, object_value, put_field as put_value, put_fields as put_values, values_of}
use Rattle.dscript_value.specs.declared.makers.TheConstants.{MAX_DEPTH}
use Rattle.dscript_value.specs.Plain as plain
use Rattle.dscript_value.specs.Plain.{Plain, PlainField, to_members}
use Rattle.dscript_sdk_values.specs.declared.fault.SdkFault.TheVariants.{Range}
use Rattle.dscript_sdk_values.specs.Answers.{list_answer, text_answer}
use Rattle.dscript_sdk_values.specs.Outcomes.{Outcome, unless_none}
use Rattle.dscript_sdk.specs.Members.{member_of}
use Rattle.dscript_program.specs.BoundTree as tree
use Rattle.dscript_program.specs.BoundTree.{ExprData, OperandRow, PartRow, ExprRow, ElementRow, PropRow, HoleRow}
use Rattle.dscript_program.specs.BoundTree.{no_exprs, more_exprs, no_operands, more_operands, no_parts, more_parts}
use Rattle.dscript_program.specs.BoundTree.{no_elements, more_elements, no_props, more_props, no_holes, more_holes}
use Rattle.dscript_program.specs.Numbering.{HasConsecutiveLocals}
use Rattle.dscript_program.specs.ProgramData.{ProgramData}
use Rattle.dscript_program.specs.declared.target.Target.{Target}
use Rattle.dscript_names.specs.Captures.{AllCaptureOuter}
use Rattle.dscript_eval_operators.specs.Indexing.{indexed as indexed_value}
use Rattle.dscript_eval_operators.specs.Operators as values
use Rattle.dscript_eval_operators.specs.Operators.{is_settled}
use Rattle.dscript_eval_operators.specs.PathLiterals.{first_hole as first_text, path_literal}
use Rattle.dscript_eval_operators.specs.RelativeLiterals.{atom_literal, relative_literal}
use Rattle.dscript_eval_operators.specs.Spreads.{spread_fields as spread_values, with_items_of}
use Rattle.dscript_eval_operators.specs.Texts as texts
use Rattle.dscript_eval_operators.specs.Truth.{is_true}
use Rattle.dscript_eval_meaning.specs.Acts.{Acts}
use Rattle.dscript_eval_meaning.specs.Calls as applied
use Rattle.dscript_eval_meaning.specs.Calls.{Subject as Applied}
use Rattle.dscript_eval_meaning.specs.Evaluating.{Gives, answered, gives, spend, step, ◌>>=◌, ◌>>◌}
use Rattle.dscript_eval_meaning.specs.Expressions as eval
use Rattle.dscript_eval_meaning.specs.Expressions.{directory, operator_count, path_value, value}
use Rattle.dscript_eval_meaning.specs.States.{Frame, State}
use Rattle.dscript_types_meaning.specs.declared.kind.Kind.TheVariants as kinds
use Rattle.dscript_types_meaning.specs.Types.{TypeData, FieldData, kind_type, list_type, object_type}
use Rattle.dscript_types_meaning.specs.Unions.{is_list_type, items_of, join, join_all, undefined_type}
use Rattle.dscript_types_meaning.specs.Fits.{fits}
use Rattle.dscript_types_meaning.specs.Objects.{holding, put_field, spread_fields, write_fields}
use Rattle.dscript_types_meaning.specs.Access.{indexed}
use Rattle.dscript_types_meaning.specs.Narrowing.{following, narrowed, outcome_of}
use Rattle.dscript_types_meaning.specs.Operators as types
use Rattle.dscript_types_meaning.specs.Operators.{boolean_type, literal_hole, number_type, template_hole, text_type}
use Rattle.dscript_types_meaning.specs.Contexts.{Context, Known, Local, Standing, needs, only}
use Rattle.dscript_types_meaning.specs.Expressions as typing
use Rattle.dscript_types_meaning.specs.Expressions.{Subject, Whole, Named, Function, Ambient, expr_type, first_hole, is, letter_type, subject, typed, whole}
use Rattle.dscript_types_meaning.specs.Functions.{callback_answer}
use Rattle.dscript_types_meaning.specs.Values.{HasType}
use Rattle.dscript_types_values.proofs.Among.{Among}
use Rattle.dscript_types_values.proofs.Fielding.{AreOnce, Holds, all_once, holds_none, holds_put, object_has, put_append}
use Rattle.dscript_types_values.proofs.Fitting.{fits_has, kind_has}
use Rattle.dscript_types_values.proofs.Joining.{has_left, has_one_of, has_right, undefined_itself}
use Rattle.dscript_types_laws.specs.Invariants.{Answers, ComesTo, HoldsConstants, HoldsLocals, IsOfSubject, IsSound}
use Rattle.dscript_types_laws.specs.Invariants.{IsSoundAt, MayStand, OpensSoundly, Stands}
use Rattle.dscript_types_laws.proofs.Callbacks.{IsCalledBack, callback_sound, spread_has}
use Rattle.dscript_types_laws.proofs.Calling.{AllSound, BackSound, IsCalling, call_sound, call_stands}
use Rattle.dscript_types_laws.proofs.Comparing.{flag_has}
use Rattle.dscript_types_laws.proofs.Holes.{Reads, first_read, literal_read, template_read}
use Rattle.dscript_types_laws.proofs.Indexing.{indexed_has}
use Rattle.dscript_types_laws.proofs.ListMethods.{append_all}
use Rattle.dscript_types_laws.proofs.Literals.{atom_has, directory_has, file_has, path_has, relative_has}
use Rattle.dscript_types_laws.proofs.Methods.{list_answered}
use Rattle.dscript_types_laws.proofs.Naming.{named_sound}
use Rattle.dscript_types_laws.proofs.Operating.{AnswersOf, text_answered}
use Rattle.dscript_types_laws.proofs.Operators.{operated_has, prefixed_has, settled_has}
use Rattle.dscript_types_laws.proofs.Pairs.{ok_same}
use Rattle.dscript_types_laws.proofs.Sound.{Sound, answer, both, bound, comes_wider, given, in_order, spent, wider}
use Rattle.dscript_types_laws.proofs.Spreading.{spread_holds}
use Rattle.dscript_types_laws.proofs.Typing.{AreChecked, checked_first, checked_more, gives_is, in_turn, needs_is, only_is, then_is}
use Rattle.dscript_types_laws.proofs.Walking.{AllAre, ExprSound, IsLast, TypedSound, and_head, following_holds, of_whole, or_head}
use Rattle.dscript_types_laws.proofs.Walking.{outcome_all, settled_has_all, settled_stays, side_sound, typed_from, whole_stands, within_whole}

module _ (p : ProgramData) (known : Known) (act : Acts) (opens : OpensSoundly p known act) (outer : AllCaptureOuter p)
    (runs : HasConsecutiveLocals p) where
  -- ## Parts

  sound_wider
      : (A : Type 0) (Is Js : A → Type 0) (m : Gives A) (s : State) → ((x : A) → Is x → Js x) → Sound A known Is m s
      → Sound A known Js m s
  sound_wider A Is Js m s wide sound constants = comes_wider known [] A Is Js s.frame (m s) wide (sound constants)

  -- a literal that is of its type
  literal_sound
      : (c : Context) (t : TypeData) (s : Subject) (bodies : List Standing) (x : Plain) → is t ≡ Some (s, bodies) → HasType x t
      → IsSound Plain known c.locals (IsOfSubject p s) (step >> gives x)
  literal_sound c t s bodies x typed h =
      of_whole p known act t s c.locals (step >> gives x) (sym (gives_is (Whole t) s bodies typed).0)
      (both known c.locals _ Plain _ _ step (gives x) (spent known c.locals 1) (given known c.locals Plain (λ y. HasType y t) x h))

  -- a part that has been evaluated and is looked at
  then_answered
      : (A B : Type 0) (Is : A → Type 0) (Js : B → Type 0) (o : Outcome A) (f : A → Gives B) (s : State) → Answers A Is o
      → ((x : A) → o ≡ Ok x → Is x → Sound B known Js (f x) s) → Sound B known Js (answered o >>= f) s
  then_answered A B Is Js (Ok x) f s h next = next x refl h
  then_answered A B Is Js (Err fault) f s h next = λ constants. answer known [] B Js (Err fault) h s tt constants

  -- a text that is of its type
  text_sound
      : (text : List ℕ) (c : Context) (s : Subject) (bodies : List Standing) → is text_type ≡ Some (s, bodies)
      → IsSound Plain known c.locals (IsOfSubject p s) (step >> answered (text_answer text))
  text_sound text c s bodies typed_all =
      of_whole p known act text_type s c.locals _ (sym (gives_is (Whole text_type) s bodies typed_all).0)
      (both known c.locals _ Plain _ _ step _ (spent known c.locals 1)
      (answer known c.locals Plain (λ x. HasType x text_type) (text_answer text) (text_answered text)))

  a_name_sound
      : (target : Target) (c : Context) (s : Subject) (bodies : List Standing) → typing.named p known c target ≡ Some (s, bodies)
      → IsSound Plain known c.locals (IsOfSubject p s) (step >> eval.named p act target)
  a_name_sound target c s bodies typed_all =
      both known c.locals _ Plain _ _ step _ (spent known c.locals 1) (named_sound p known act opens c target s bodies typed_all)

  -- ## Operands

  abbrev pub OperandsSound : OperandRow → Option Bool → Context → ExprData → Subject → Type 0
  OperandsSound more outcome c left s =
      (t : TypeData) (bodies : List Standing) (x : Plain) → AllAre p known act outcome more
      → typing.operands p known outcome c left more t ≡ Some (s, bodies) → AreChecked p known bodies → HasType x t
      → (at : State) → IsLast p known act outcome left x at → HoldsLocals at.frame c.locals
      → Sound Plain known (IsOfSubject p s) (eval.operands p act more x) at

  rest_are
      : (outcome : Option Bool) (op : BinaryOp) (e : ExprData) (more : OperandRow)
      → AllAre p known act outcome (more_operands (tree.Operand op e) more) → AllAre p known act outcome more
  rest_are None op e more all = tt
  rest_are (Some true) op e more all = (and_head p known act op e more all).1
  rest_are (Some false) op e more all = (or_head p known act op e more all).1

  -- where a chain narrows, an operator between operands gives the right one
  last_now
      : (outcome : Option Bool) (op : BinaryOp) (e : ExprData) (more : OperandRow) (x y z : Plain) (before after : State)
      → AllAre p known act outcome (more_operands (tree.Operand op e) more) → values.operated op x y ≡ Ok z
      → value p act e before ≡ Ok (y, after) → after.frame ≡ before.frame → IsLast p known act outcome e z after
  unfolding values.operated
  last_now None op e more x y z before after all is came same = tt
  last_now (Some true) op e more x y z before after all is came same =
      let head = and_head p known act op e more all in
      let right : y ≡ z = ok_same y z (sym (ap (λ o. values.operated o x y) head.0) ∙ is) in
      (before, subst (λ w. value p act e before ≡ Ok (w, after)) right came, same)
  last_now (Some false) op e more x y z before after all is came same =
      let head = or_head p known act op e more all in
      let right : y ≡ z = ok_same y z (sym (ap (λ o. values.operated o x y) head.0) ∙ is) in
      (before, subst (λ w. value p act e before ≡ Ok (w, after)) right came, same)

  module _ (op : BinaryOp) (e : ExprData) (more : OperandRow) (outcome : Option Bool) (c : Context) (left : ExprData) (s : Subject)
      (t u a : TypeData) (bodies : List Standing) (x : Plain) (at : State)
      (all : AllAre p known act outcome (more_operands (tree.Operand op e) more)) (answers : types.operated op t u ≡ Some a)
      (typed_rest : typing.operands p known outcome (following outcome left c) e more a ≡ Some (s, bodies))
      (checked : AreChecked p known bodies) (h : HasType x t) (last : IsLast p known act outcome left x at)
      (holds : HoldsLocals at.frame c.locals) (rest : OperandsSound more outcome (following outcome left c) e s)
      (operand : IsSoundAt known (following outcome left c).locals u (value p act e)) where
    stays
        : (r : TypeData) → s ≡ Whole r → HasType x r → eval.operands p act more x at ≡ Ok (x, at)
        → Sound Plain known (IsOfSubject p s) (eval.operands p act more x) at
    stays r whole_is has same constants =
        subst (λ o. ComesTo Plain known (IsOfSubject p s) at.frame o) (sym same)
        (record { is = subst (λ v. IsOfSubject p v x) (sym whole_is) has; frame = refl; constants = constants })

    settled_now : (o : Option Bool) → outcome ≡ o → is_settled op x ≡ true → Sound Plain known (IsOfSubject p s) (eval.operands p act more x) at
    settled_now None same settled =
        rest a bodies x (rest_are outcome op e more all) typed_rest checked (settled_has op t u a x answers settled h) at
        (subst (λ o. IsLast p known act o e x at) (sym same) tt)
        (subst (λ (o : Option Bool). HoldsLocals at.frame (following o left c).locals) (sym same) holds)
    settled_now (Some true) same settled =
        let head = and_head p known act op e more (subst (λ o. AllAre p known act o (more_operands (tree.Operand op e) more)) same all) in
        let r = settled_has_all p known act more outcome (following outcome left c) e a s bodies x op (inl (head.1, head.0)) settled
        (settled_has op t u a x answers settled h) typed_rest in
        stays r.0 r.1 r.2 (settled_stays p known act op more x at settled (inl (head.1, head.0)))
    settled_now (Some false) same settled =
        let head = or_head p known act op e more (subst (λ o. AllAre p known act o (more_operands (tree.Operand op e) more)) same all) in
        let r = settled_has_all p known act more outcome (following outcome left c) e a s bodies x op (inr (head.1, head.0)) settled
        (settled_has op t u a x answers settled h) typed_rest in
        stays r.0 r.1 r.2 (settled_stays p known act op more x at settled (inr (head.1, head.0)))

    evaluated_now
        : is_settled op x ≡ false
        → Sound Plain known (IsOfSubject p s)
        (value p act e >>= λ y. answered (values.operated op x y) >>= λ z. eval.operands p act more z) at
    evaluated_now un =
        let there = following_holds p known act outcome op e left more c x at all un last holds in
        in_order known Plain Plain (λ y. HasType y u) (IsOfSubject p s) (value p act e) _ at (operand at there)
        (λ y after came is same.
        then_answered Plain Plain (λ z. HasType z a) (IsOfSubject p s) (values.operated op x y) _ after
        (operated_has op t u a x y answers h is)
        (λ z right has.
        rest a bodies z (rest_are outcome op e more all) typed_rest checked has after
        (last_now outcome op e more x y z at after all right came same)
        (subst (λ (f : Frame). HoldsLocals f (following outcome left c).locals) (sym same) there)))

    by_settled
        : (b : Bool) → is_settled op x ≡ b
        → Sound Plain known (IsOfSubject p s)
        (cond b (eval.operands p act more x)
        (value p act e >>= λ y. answered (values.operated op x y) >>= λ z. eval.operands p act more z)) at
    by_settled true settled = settled_now outcome refl settled
    by_settled false un = evaluated_now un

  operands_step
      : (op : BinaryOp) (e : ExprData) (more : OperandRow) (outcome : Option Bool) (c : Context) (left : ExprData) (s : Subject)
      → TypedSound p known act (following outcome left c) e → OperandsSound more outcome (following outcome left c) e s
      → OperandsSound (more_operands (tree.Operand op e) more) outcome c left s
  unfolding typing.operands eval.operands
  operands_step op e more outcome c left s operand rest t bodies x all typed_all checked h at last holds =
      let first = in_turn (expr_type p known (following outcome left c) e) _ s bodies typed_all in
      let second = in_turn (only (types.operated op t first.0)) _ s first.2 first.4 in
      let answers = (only_is (types.operated op t first.0) second.0 second.1 second.3).0 in
      let one = checked_first p known first.1 first.2 bodies first.5 checked in
      let others = checked_more p known second.1 second.2 first.2 second.5 (checked_more p known first.1 first.2 bodies first.5 checked) in
      by_settled op e more outcome c left s t first.0 second.0 second.2 x at all answers second.4 others h last holds rest
      (operand first.0 first.1 first.3 one) (is_settled op x) refl

  no_operands_sound
      : (outcome : Option Bool) (c : Context) (left : ExprData) (s : Subject) → OperandsSound no_operands outcome c left s
  unfolding typing.operands eval.operands
  no_operands_sound outcome c left s t bodies x all typed_all checked h at last holds constants =
      let same = (gives_is (Whole t) s bodies typed_all).0 in
      record { is = subst (λ v. IsOfSubject p v x) same h; frame = refl; constants = constants }

  last_of
      : (outcome : Option Bool) (e : ExprData) (x : Plain) (s after : State) → value p act e s ≡ Ok (x, after)
      → after.frame ≡ s.frame → IsLast p known act outcome e x after
  last_of None e x s after came same = tt
  last_of (Some b) e x s after came same = (s, came, same)

  chain_sound
      : (e : ExprData) (more : OperandRow) (c : Context) → TypedSound p known act c e
      → ((s : Subject) → OperandsSound more (outcome_of more) c e s) → ExprSound p known act c (tree.Chain e more)
  unfolding subject value
  chain_sound e more c first rest s bodies typed_all checked stands =
      let one = in_turn (expr_type p known c e) _ s bodies typed_all in
      both known c.locals _ Plain _ _ (spend (operator_count more)) _ (spent known c.locals (operator_count more))
      (λ at holds. in_order known Plain Plain (λ x. HasType x one.0) (IsOfSubject p s) (value p act e) _ at
      (first one.0 one.1 one.3 (checked_first p known one.1 one.2 bodies one.5 checked) at holds)
      (λ x after came is same.
      rest s one.0 one.2 x (outcome_all p known act more) one.4 (checked_more p known one.1 one.2 bodies one.5 checked) is after
      (last_of (outcome_of more) e x at after came same)
      (subst (λ (f : Frame). HoldsLocals f c.locals) (sym same) holds)))

  -- ## Conditions

  sides_case
      : (x a b : ExprData) (c : Context) (t u : TypeData) (y : Plain) (s after : State) (o : Bool)
      → IsSoundAt known (narrowed true x c).locals t (value p act a) → IsSoundAt known (narrowed false x c).locals u (value p act b)
      → HoldsLocals s.frame c.locals → value p act x s ≡ Ok (y, after) → after.frame ≡ s.frame → is_true y ≡ o
      → Sound Plain known (λ z. HasType z (join t u)) (cond o (value p act a) (value p act b)) after
  sides_case x a b c t u y s after true one other holds came same is =
      sound_wider Plain (λ z. HasType z t) (λ z. HasType z (join t u)) (value p act a) after (λ z h. has_left z t u h)
      (side_sound p known act c x a true t s after y one holds came same is)
  sides_case x a b c t u y s after false one other holds came same is =
      sound_wider Plain (λ z. HasType z u) (λ z. HasType z (join t u)) (value p act b) after (λ z h. has_right z t u h)
      (side_sound p known act c x b false u s after y other holds came same is)

  cond_sound
      : (x a b : ExprData) (c : Context) → TypedSound p known act c x → TypedSound p known act (narrowed true x c) a
      → TypedSound p known act (narrowed false x c) b → ExprSound p known act c (tree.Cond x a b)
  unfolding subject value
  cond_sound x a b c condition one other s bodies typed_all checked stands =
      let first = in_turn (expr_type p known c x) _ s bodies typed_all in
      let second = in_turn (expr_type p known (narrowed true x c) a) _ s first.2 first.4 in
      let third = in_turn (expr_type p known (narrowed false x c) b) _ s second.2 second.4 in
      let more = checked_more p known first.1 first.2 bodies first.5 checked in
      let most = checked_more p known second.1 second.2 first.2 second.5 more in
      of_whole p known act (join second.0 third.0) s c.locals _ (within_whole p known act (join second.0 third.0) s third.2 third.4)
      (both known c.locals _ Plain _ _ step _ (spent known c.locals 1)
      (λ at holds. in_order known Plain Plain (λ y. HasType y first.0) (λ z. HasType z (join second.0 third.0)) (value p act x) _ at
      (condition first.0 first.1 first.3 (checked_first p known first.1 first.2 bodies first.5 checked) at holds)
      (λ y after came is same.
      sides_case x a b c second.0 third.0 y at after (is_true y)
      (one second.0 second.1 second.3 (checked_first p known second.1 second.2 first.2 second.5 more))
      (other third.0 third.1 third.3 (checked_first p known third.1 third.2 second.2 third.5 most)) holds came same refl)))

  -- ## Operators before an operand

  unary_sound : (ops : List UnaryOp) (e : ExprData) (c : Context) → TypedSound p known act c e → ExprSound p known act c (tree.Unary ops e)
  unfolding subject value
  unary_sound ops e c operand s bodies typed_all checked stands =
      let first = in_turn (expr_type p known c e) _ s bodies typed_all in
      let second = in_turn (only (types.prefixed ops first.0)) is s first.2 first.4 in
      let answers = (only_is (types.prefixed ops first.0) second.0 second.1 second.3).0 in
      of_whole p known act second.0 s c.locals _ (sym (gives_is (Whole second.0) s second.2 second.4).0)
      (both known c.locals _ Plain _ _ (spend (length ops)) _ (spent known c.locals (length ops))
      (bound known c.locals Plain Plain (λ x. HasType x first.0) (λ x. HasType x second.0) (value p act e) _
      (operand first.0 first.1 first.3 (checked_first p known first.1 first.2 bodies first.5 checked))
      (λ x h. answer known c.locals Plain (λ y. HasType y second.0) (values.prefixed ops x) (prefixed_has ops first.0 second.0 x answers h))))

  -- ## Lists

  abbrev pub ItemsSound : ElementRow → Context → Type 0
  ItemsSound es c =
      (ts : List TypeData) (bodies : List Standing) → typing.items p known c es ≡ Some (ts, bodies) → AreChecked p known bodies
      → (item : TypeData) → ((t : TypeData) → Among ts t → (y : Plain) → HasType y t → HasType y item) → (done : List Plain)
      → AllByRecursion (λ y. HasType y item) done
      → IsSound (List Plain) known c.locals (λ ys. AllByRecursion (λ y. HasType y item) ys) (eval.elements p act es done)

  no_items : (c : Context) → ItemsSound no_elements c
  unfolding eval.elements
  no_items c ts bodies typed_all checked item wide done all = given known c.locals (List Plain) _ done all

  one_item
      : (e : ExprData) (more : ElementRow) (c : Context) → TypedSound p known act c e → ItemsSound more c
      → ItemsSound (more_elements (tree.Element false e) more) c
  unfolding typing.items eval.elements
  one_item e more c first rest ts bodies typed_all checked item wide done all =
      let one = in_turn (expr_type p known c e) _ ts bodies typed_all in
      let two = in_turn (typing.items p known c more) _ ts one.2 one.4 in
      let same = (gives_is (one.0 ∷ two.0) ts two.2 two.4).0 in
      let others = checked_more p known one.1 one.2 bodies one.5 checked in
      bound known c.locals Plain (List Plain) (λ x. HasType x one.0) _ (value p act e) _
      (first one.0 one.1 one.3 (checked_first p known one.1 one.2 bodies one.5 checked))
      (λ x h. rest two.0 two.1 two.3 (checked_first p known two.1 two.2 one.2 two.5 others) item
      (λ t a y g. wide t (subst (λ us. Among us t) same (inr a)) y g) (done ++ x ∷ [])
      (append_all (λ y. HasType y item) done (x ∷ []) all (wide one.0 (subst (λ us. Among us one.0) same (inl refl)) x h, tt)))

  spread_item
      : (e : ExprData) (more : ElementRow) (c : Context) → TypedSound p known act c e → ItemsSound more c
      → ItemsSound (more_elements (tree.Element true e) more) c
  unfolding typing.items eval.elements
  spread_item e more c first rest ts bodies typed_all checked item wide done all =
      let one = in_turn (expr_type p known c e) _ ts bodies typed_all in
      let lists = in_turn (needs (is_list_type one.0)) _ ts one.2 one.4 in
      let two = in_turn (typing.items p known c more) _ ts lists.2 lists.4 in
      let same = (gives_is (items_of one.0 ∷ two.0) ts two.2 two.4).0 in
      let others = checked_more p known lists.1 lists.2 one.2 lists.5 (checked_more p known one.1 one.2 bodies one.5 checked) in
      bound known c.locals Plain (List Plain) (λ x. HasType x one.0) _ (value p act e) _
      (first one.0 one.1 one.3 (checked_first p known one.1 one.2 bodies one.5 checked))
      (λ x h. bound known c.locals (List Plain) (List Plain) (λ ys. AllByRecursion (λ y. HasType y item) ys) _
      (answered (with_items_of done x)) _
      (answer known c.locals (List Plain) _ (with_items_of done x)
      (spread_has done x one.0 item (needs_is (is_list_type one.0) lists.0 lists.1 lists.3).0 h all
      (λ y g. wide (items_of one.0) (subst (λ us. Among us (items_of one.0)) same (inl refl)) y g)))
      (λ items now. rest two.0 two.1 two.3 (checked_first p known two.1 two.2 lists.2 two.5 others) item
      (λ t a y g. wide t (subst (λ us. Among us t) same (inr a)) y g) items now))

  elements_sound : (es : ElementRow) (c : Context) → ItemsSound es c → ExprSound p known act c (tree.Elements es)
  unfolding subject value
  elements_sound es c items s bodies typed_all checked stands =
      let first = in_turn (typing.items p known c es) _ s bodies typed_all in
      let item = join_all first.0 in
      of_whole p known act (list_type item) s c.locals _ (within_whole p known act (list_type item) s first.2 first.4)
      (both known c.locals _ Plain _ _ step _ (spent known c.locals 1)
      (bound known c.locals (List Plain) Plain (λ ys. AllByRecursion (λ y. HasType y item) ys) (λ x. HasType x (list_type item))
      (eval.elements p act es []) _
      (items first.0 first.1 first.3 (checked_first p known first.1 first.2 bodies first.5 checked) item
      (λ t a y h. has_one_of y first.0 t a h) [] tt)
      (λ ys all. answer known c.locals Plain (λ x. HasType x (list_type item)) (list_answer ys) (list_answered ys item all))))

  -- ## Objects

  -- what is found for properties, after fields that hold values of their types
  abbrev IsFound : List FieldData → List FieldData → List PlainField → Type 0
  IsFound done fs found = (es : List PlainField) → Holds es done → Holds (put_values es found) fs

  abbrev pub FieldsSound : PropRow → Context → Type 0
  FieldsSound ps c =
      (done fs : List FieldData) (bodies : List Standing) → typing.fields p known c ps done ≡ Some (fs, bodies)
      → AreChecked p known bodies → IsSound (List PlainField) known c.locals (IsFound done fs) (eval.fields p act ps)

  no_fields_sound : (c : Context) → FieldsSound no_props c
  unfolding typing.fields eval.fields
  no_fields_sound c done fs bodies typed_all checked =
      let same = (gives_is done fs bodies typed_all).0 in
      given known c.locals (List PlainField) (IsFound done fs) [] (λ es holds. subst (λ gs. Holds es gs) same holds)

  -- a field, from what gives its value
  field_sound
      : (name : List ℕ) (m : Gives Plain) (more : PropRow) (c : Context) (t : TypeData) (done fs : List FieldData)
      (bodies : List Standing) → IsSoundAt known c.locals t m
      → typing.fields p known c more (put_field done (holding name t)) ≡ Some (fs, bodies) → AreChecked p known bodies
      → FieldsSound more c
      → IsSound (List PlainField) known c.locals (IsFound done fs)
      (m >>= λ x. eval.fields p act more >>= λ found. gives ((name, x) ∷ found))
  field_sound name m more c t done fs bodies first typed_all checked rest =
      bound known c.locals Plain (List PlainField) (λ x. HasType x t) (IsFound done fs) m _ first
      (λ x h. bound known c.locals (List PlainField) (List PlainField) (IsFound (put_field done (holding name t)) fs) (IsFound done fs)
      (eval.fields p act more) _ (rest (put_field done (holding name t)) fs bodies typed_all checked)
      (λ found more_found. given known c.locals (List PlainField) (IsFound done fs) ((name, x) ∷ found)
      (λ es holds. more_found (put_value es (name, x)) (holds_put es done name x (holding name t) refl h holds))))

  named_field
      : (name : List ℕ) (e : ExprData) (more : PropRow) (c : Context) → TypedSound p known act c e → FieldsSound more c
      → FieldsSound (more_props (tree.Named name e) more) c
  unfolding typing.fields eval.fields
  named_field name e more c first rest done fs bodies typed_all checked =
      let one = in_turn (expr_type p known c e) _ fs bodies typed_all in
      field_sound name (value p act e) more c one.0 done fs one.2
      (first one.0 one.1 one.3 (checked_first p known one.1 one.2 bodies one.5 checked)) one.4
      (checked_more p known one.1 one.2 bodies one.5 checked) rest

  quoted_field
      : (name : List ℕ) (e : ExprData) (more : PropRow) (c : Context) → TypedSound p known act c e → FieldsSound more c
      → FieldsSound (more_props (tree.Quoted name e) more) c
  unfolding typing.fields eval.fields
  quoted_field name e more c first rest done fs bodies typed_all checked =
      let one = in_turn (expr_type p known c e) _ fs bodies typed_all in
      field_sound name (value p act e) more c one.0 done fs one.2
      (first one.0 one.1 one.3 (checked_first p known one.1 one.2 bodies one.5 checked)) one.4
      (checked_more p known one.1 one.2 bodies one.5 checked) rest

  -- a name as a value
  name_sound
      : (c : Context) (target : Target) (t : TypeData) (bodies : List Standing)
      → typed (typing.named p known c target) ≡ Some (t, bodies) → IsSoundAt known c.locals t (eval.named p act target)
  name_sound c target t bodies typed_all =
      let r = in_turn (typing.named p known c target) whole t bodies typed_all in
      let w = whole_stands p known act r.0 t r.2 r.4 in
      wider known c.locals Plain (IsOfSubject p r.0) (λ x. HasType x t) (eval.named p act target) w.1
      (named_sound p known act opens c target r.0 r.1 r.3)

  short_field
      : (name : List ℕ) (target : Target) (more : PropRow) (c : Context) → FieldsSound more c
      → FieldsSound (more_props (tree.Short name target) more) c
  unfolding typing.fields eval.fields
  short_field name target more c rest done fs bodies typed_all checked =
      let one = in_turn (typed (typing.named p known c target)) _ fs bodies typed_all in
      both known c.locals _ (List PlainField) _ _ step _ (spent known c.locals 1)
      (field_sound name (eval.named p act target) more c one.0 done fs one.2 (name_sound c target one.0 one.1 one.3) one.4
      (checked_more p known one.1 one.2 bodies one.5 checked) rest)

  spread_field_sound
      : (e : ExprData) (more : PropRow) (c : Context) → TypedSound p known act c e → FieldsSound more c
      → FieldsSound (more_props (tree.Spread e) more) c
  unfolding typing.fields eval.fields
  spread_field_sound e more c first rest done fs bodies typed_all checked =
      let one = in_turn (expr_type p known c e) _ fs bodies typed_all in
      let two = in_turn {X = List FieldData} (only (spread_fields one.0)) _ fs one.2 one.4 in
      let three = in_turn {X = List FieldData} (only (write_fields done two.0)) _ fs two.2 two.4 in
      let adds = (only_is (spread_fields one.0) two.0 two.1 two.3).0 in
      let writes = (only_is (write_fields done two.0) three.0 three.1 three.3).0 in
      let more_checked = checked_more p known two.1 two.2 one.2 two.5 (checked_more p known one.1 one.2 bodies one.5 checked) in
      bound known c.locals Plain (List PlainField) (λ x. HasType x one.0) (IsFound done fs) (value p act e) _
      (first one.0 one.1 one.3 (checked_first p known one.1 one.2 bodies one.5 checked))
      (λ x h. bound known c.locals (List PlainField) (List PlainField) (IsFound done three.0) (IsFound done fs)
      (answered (spread_values x)) _
      (answer known c.locals (List PlainField) (IsFound done three.0) (spread_values x)
      (spread_holds x one.0 two.0 done three.0 adds writes h))
      (λ these put. bound known c.locals (List PlainField) (List PlainField) (IsFound three.0 fs) (IsFound done fs)
      (eval.fields p act more) _
      (rest three.0 fs three.2 three.4 (checked_more p known three.1 three.2 two.2 three.5 more_checked))
      (λ found more_found. given known c.locals (List PlainField) (IsFound done fs) (these ++ found)
      (λ es holds. subst (λ ds. Holds ds fs) (sym (put_append es these found)) (more_found (put_values es these) (put es holds))))))

  object_case
      : (es : List PlainField) (fs : List FieldData) (b : Bool) → AreOnce es → Holds es fs
      → AnswersOf (object_type fs)
      (unless_none Range (cond b (Some (plain.Object (greatest_depth (values_of es) + 1) (to_members es))) None))
  object_case es fs true once holds = object_has (greatest_depth (values_of es) + 1) es fs once holds
  object_case es fs false once holds = tt

  object_sound : (ps : PropRow) (c : Context) → FieldsSound ps c → ExprSound p known act c (tree.Object ps)
  unfolding subject value
  object_sound ps c fields s bodies typed_all checked stands =
      let first = in_turn (typing.fields p known c ps []) _ s bodies typed_all in
      of_whole p known act (object_type first.0) s c.locals _ (within_whole p known act (object_type first.0) s first.2 first.4)
      (both known c.locals _ Plain _ _ step _ (spent known c.locals 1)
      (bound known c.locals (List PlainField) Plain (IsFound [] first.0) (λ x. HasType x (object_type first.0)) (eval.fields p act ps) _
      (fields [] first.0 first.1 first.3 (checked_first p known first.1 first.2 bodies first.5 checked))
      (λ found put. answer known c.locals Plain (λ x. HasType x (object_type first.0)) (unless_none Range (object_value found))
      (object_case (put_values [] found) first.0 (nat_lt (greatest_depth (values_of (put_values [] found))) MAX_DEPTH)
      (all_once [] found tt) (put [] holds_none)))))

  -- ## Holes

  abbrev pub HolesSound : HoleRow → Context → Type 0
  HolesSound holes c =
      (allowed : TypeData) (read : Plain → Outcome (List ℕ)) (u : Unit {0}) (bodies : List Standing)
      → ((x : Plain) → HasType x allowed → Reads (read x)) → typing.holes_fit p known c allowed holes ≡ Some (u, bodies)
      → AreChecked p known bodies → IsSound (List ℕ) known c.locals (λ text. Unit {0}) (eval.hole_texts p act read holes)

  no_holes_sound : (c : Context) → HolesSound no_holes c
  unfolding eval.hole_texts
  no_holes_sound c allowed read u bodies reads typed_all checked = given known c.locals (List ℕ) _ [] tt

  hole_sound
      : (e : ExprData) (text : List ℕ) (more : HoleRow) (c : Context) → TypedSound p known act c e → HolesSound more c
      → HolesSound (more_holes (tree.Hole e text) more) c
  unfolding typing.holes_fit eval.hole_texts
  hole_sound e text more c first rest allowed read u bodies reads typed_all checked =
      let one = in_turn (expr_type p known c e) _ u bodies typed_all in
      let fit = in_turn (needs (fits one.0 allowed)) _ u one.2 one.4 in
      let others = checked_more p known fit.1 fit.2 one.2 fit.5 (checked_more p known one.1 one.2 bodies one.5 checked) in
      bound known c.locals Plain (List ℕ) (λ x. HasType x one.0) _ (value p act e) _
      (first one.0 one.1 one.3 (checked_first p known one.1 one.2 bodies one.5 checked))
      (λ x h. bound known c.locals (List ℕ) (List ℕ) (λ t. Unit {0}) _ (answered (read x)) _
      (answer known c.locals (List ℕ) _ (read x) (reads x (fits_has x one.0 allowed (needs_is (fits one.0 allowed) fit.0 fit.1 fit.3).0 h)))
      (λ hole t. bound known c.locals (List ℕ) (List ℕ) (λ r. Unit {0}) _ (eval.hole_texts p act read more) _
      (rest allowed read u fit.2 reads fit.4 others)
      (λ rest_text r. given known c.locals (List ℕ) _ (hole ++ text ++ rest_text) tt)))

  template_sound : (text : List ℕ) (holes : HoleRow) (c : Context) → HolesSound holes c → ExprSound p known act c (tree.Template text holes)
  unfolding subject value
  template_sound text holes c sound s bodies typed_all checked stands =
      let first = in_turn (typing.holes_fit p known c template_hole holes) _ s bodies typed_all in
      of_whole p known act text_type s c.locals _ (sym (gives_is (Whole text_type) s first.2 first.4).0)
      (both known c.locals _ Plain _ _ step _ (spent known c.locals 1)
      (bound known c.locals (List ℕ) Plain (λ t. Unit {0}) (λ x. HasType x text_type) _ _
      (sound template_hole texts.template_hole first.0 first.1 template_read first.3
      (checked_first p known first.1 first.2 bodies first.5 checked))
      (λ rest t. answer known c.locals Plain (λ x. HasType x text_type) (text_answer (text ++ rest)) (text_answered (text ++ rest)))))

  -- ## Path literals

  same_holes
      : (holes : HoleRow) (c : Context) → typing.literal_fits p known c literal_hole holes ≡ typing.holes_fit p known c literal_hole holes
  unfolding typing.literal_fits typing.holes_fit
  same_holes no_holes c = refl
  same_holes (more_holes (tree.Hole e text) more) c = refl

  -- what a literal comes to in the file of the running body
  path_value_sound
      : (locals : List Local) (letter : PathKind) (base : Option Atoms) (text : List ℕ) (t : TypeData)
      → ((dir : Atoms) → AnswersOf t (path_literal letter dir base text)) → IsSoundAt known locals t (path_value p letter base text)
  path_value_sound locals letter base text t has s holds constants =
      answer known locals Plain (λ x. HasType x t) (path_literal letter (directory p s) base text) (has (directory p s)) s holds constants

  -- the holes of a path, file or directory literal
  abbrev pub PathSound : HoleRow → Context → Type 0
  PathSound holes c =
      (letter : PathKind) (text : List ℕ) (t : TypeData) (u : Unit {0}) (bodies : List Standing)
      → ((dir : Atoms) (base : Option Atoms) (text : List ℕ) → AnswersOf t (path_literal letter dir base text))
      → typing.literal_fits p known c (first_hole letter text) holes ≡ Some (u, bodies) → AreChecked p known bodies
      → IsSoundAt known c.locals t (eval.path_holes p act letter text holes)

  no_path_holes : (c : Context) → PathSound no_holes c
  unfolding eval.path_holes
  no_path_holes c letter text t u bodies has typed_all checked =
      path_value_sound c.locals letter None text t (λ dir. has dir None text)

  path_hole
      : (e : ExprData) (after : List ℕ) (more : HoleRow) (c : Context) → TypedSound p known act c e → HolesSound more c
      → PathSound (more_holes (tree.Hole e after) more) c
  unfolding typing.literal_fits eval.path_holes
  path_hole e after more c first rest letter text t u bodies has typed_all checked =
      let one = in_turn (expr_type p known c e) _ u bodies typed_all in
      let fit = in_turn (needs (fits one.0 (first_hole letter text))) _ u one.2 one.4 in
      let others = checked_more p known fit.1 fit.2 one.2 fit.5 (checked_more p known one.1 one.2 bodies one.5 checked) in
      bound known c.locals Plain Plain (λ x. HasType x one.0) (λ x. HasType x t) (value p act e) _
      (first one.0 one.1 one.3 (checked_first p known one.1 one.2 bodies one.5 checked))
      (λ x h. bound known c.locals (Option Atoms × List ℕ) Plain (λ r. Unit {0}) (λ y. HasType y t) (answered (first_text text x)) _
      (answer known c.locals (Option Atoms × List ℕ) _ (first_text text x)
      (first_read letter text x
      (fits_has x one.0 (first_hole letter text) (needs_is (fits one.0 (first_hole letter text)) fit.0 fit.1 fit.3).0 h)))
      (λ found r. bound known c.locals (List ℕ) Plain (λ q. Unit {0}) (λ y. HasType y t) (eval.hole_texts p act texts.literal_hole more) _
      (rest literal_hole texts.literal_hole u fit.2 literal_read fit.4 others)
      (λ rest_text q. path_value_sound c.locals letter found.0 (found.1 ++ after ++ rest_text) t
      (λ dir. has dir found.0 (found.1 ++ after ++ rest_text)))))

  -- a literal of another letter, whose holes are all alike
  other_sound
      : (text : List ℕ) (holes : HoleRow) (c : Context) (t : TypeData) (make : List ℕ → Outcome Plain) (s : Subject)
      (bodies : List Standing) → HolesSound holes c → ((text : List ℕ) → AnswersOf t (make text))
      → then_is (typing.literal_fits p known c literal_hole holes) t ≡ Some (s, bodies) → AreChecked p known bodies
      → IsSound Plain known c.locals (IsOfSubject p s)
      (step >> eval.hole_texts p act texts.literal_hole holes >>= λ rest. answered (make (text ++ rest)))
  other_sound text holes c t make s bodies sound has typed_all checked =
      let first = in_turn (typing.literal_fits p known c literal_hole holes) _ s bodies typed_all in
      of_whole p known act t s c.locals _ (sym (gives_is (Whole t) s first.2 first.4).0)
      (both known c.locals _ Plain _ _ step _ (spent known c.locals 1)
      (bound known c.locals (List ℕ) Plain (λ r. Unit {0}) (λ x. HasType x t) _ _
      (sound literal_hole texts.literal_hole first.0 first.1 literal_read (sym (same_holes holes c) ∙ first.3)
      (checked_first p known first.1 first.2 bodies first.5 checked))
      (λ rest r. answer known c.locals Plain (λ x. HasType x t) (make (text ++ rest)) (has (text ++ rest)))))

  path_of
      : (letter : PathKind) (text : List ℕ) (holes : HoleRow) (c : Context) (t : TypeData) (s : Subject) (bodies : List Standing)
      → PathSound holes c → ((dir : Atoms) (base : Option Atoms) (text : List ℕ) → AnswersOf t (path_literal letter dir base text))
      → then_is (typing.literal_fits p known c (first_hole letter text) holes) t ≡ Some (s, bodies) → AreChecked p known bodies
      → IsSound Plain known c.locals (IsOfSubject p s) (step >> eval.path_holes p act letter text holes)
  path_of letter text holes c t s bodies sound has typed_all checked =
      let first = in_turn (typing.literal_fits p known c (first_hole letter text) holes) _ s bodies typed_all in
      of_whole p known act t s c.locals _ (sym (gives_is (Whole t) s first.2 first.4).0)
      (both known c.locals _ Plain _ _ step _ (spent known c.locals 1)
      (sound letter text t first.0 first.1 has first.3 (checked_first p known first.1 first.2 bodies first.5 checked)))

  path_sound
      : (letter : PathKind) (text : List ℕ) (holes : HoleRow) (c : Context) → HolesSound holes c → PathSound holes c
      → ExprSound p known act c (tree.Path letter text holes)
  unfolding subject value
  path_sound letters.Path text holes c all first s bodies typed_all checked stands =
      path_of letters.Path text holes c (kind_type kinds.Path) s bodies first path_has typed_all checked
  path_sound letters.File text holes c all first s bodies typed_all checked stands =
      path_of letters.File text holes c (kind_type kinds.File) s bodies first file_has typed_all checked
  path_sound letters.Directory text holes c all first s bodies typed_all checked stands =
      path_of letters.Directory text holes c (kind_type kinds.Directory) s bodies first directory_has typed_all checked
  path_sound letters.Relative text holes c all first s bodies typed_all checked stands =
      other_sound text holes c (kind_type kinds.RelativePath) relative_literal s bodies all relative_has typed_all checked
  path_sound letters.Atom text holes c all first s bodies typed_all checked stands =
      other_sound text holes c (kind_type kinds.PathAtom) atom_literal s bodies all atom_has typed_all checked

  -- ## Members, indices and calls

  -- a subject as a value
  applied_sound
      : (c : Context) (s : Subject) (a : Applied) → Stands p s a → MayStand s
      → IsSound Plain known c.locals (IsOfSubject p s) (applied.whole a)
  unfolding applied.member
  applied_sound c s (applied.Whole x) h stands = given known c.locals Plain (IsOfSubject p s) x h
  applied_sound c (Named t name) (applied.Named x member) h stands =
      subst (λ n. IsSound Plain known c.locals (IsOfSubject p (Named t name)) (applied.whole (applied.Named x n))) (sym h.0)
      (λ s holds constants. named_answer s (member_of s.calls x name) refl (stands x s.calls h.1) holds constants)
    where
      named_answer
          : (s : State) (o : Outcome Plain) → member_of s.calls x name ≡ o → Answers Plain (λ y. Unit {0}) o
          → HoldsLocals s.frame c.locals → HoldsConstants known s
          → ComesTo Plain known (IsOfSubject p (Named t name)) s.frame (answered o s)
      named_answer s (Ok y) is good holds constants = record { is = (x, s.calls, h.1, is); frame = refl; constants = constants }
      named_answer s (Err fault) is good holds constants =
          answer known c.locals Plain (IsOfSubject p (Named t name)) (Err fault) good s holds constants
  applied_sound c (Whole t) (applied.Named x member) h stands = absurd h
  applied_sound c (Function file decl) (applied.Named x member) h stands = absurd h
  applied_sound c (Ambient call) (applied.Named x member) h stands = absurd h

  -- as a value of its type
  applied_type
      : (c : Context) (s : Subject) (a : Applied) (t : TypeData) (bodies : List Standing) → Stands p s a
      → whole s ≡ Some (t, bodies) → IsSoundAt known c.locals t (applied.whole a)
  applied_type c s a t bodies h typed_all =
      let w = whole_stands p known act s t bodies typed_all in
      wider known c.locals Plain (IsOfSubject p s) (λ x. HasType x t) (applied.whole a) w.1 (applied_sound c s a h w.0)

  abbrev pub AfterSound : PartRow → Context → Type 0
  AfterSound parts c =
      (s end : Subject) (a : Applied) (bodies : List Standing) → typing.after p known c parts s ≡ Some (end, bodies)
      → AreChecked p known bodies → Stands p s a → MayStand end
      → IsSound Plain known c.locals (IsOfSubject p end) (eval.after p act parts a)

  no_parts_sound : (c : Context) → AfterSound no_parts c
  unfolding typing.after eval.after
  no_parts_sound c s end a bodies typed_all checked h stands =
      let same = (gives_is s end bodies typed_all).0 in
      applied_sound c end a (subst (λ u. Stands p u a) same h) stands

  member_part : (name : List ℕ) (more : PartRow) (c : Context) → AfterSound more c → AfterSound (more_parts (tree.Member name) more) c
  unfolding typing.after eval.after
  member_part name more c rest s end a bodies typed_all checked h stands =
      let one = in_turn (whole s) _ end bodies typed_all in
      bound known c.locals Plain Plain (λ x. HasType x one.0) (IsOfSubject p end) (applied.whole a) _
      (applied_type c s a one.0 one.1 h one.3)
      (λ x g. both known c.locals _ Plain _ _ step _ (spent known c.locals 1)
      (rest (Named one.0 name) end (applied.Named x name) one.2 one.4 (checked_more p known one.1 one.2 bodies one.5 checked) (refl, g)
      stands))

  index_part
      : (e : ExprData) (more : PartRow) (c : Context) → TypedSound p known act c e → AfterSound more c
      → AfterSound (more_parts (tree.Index e) more) c
  unfolding typing.after eval.after
  index_part e more c index rest s end a bodies typed_all checked h stands =
      let one = in_turn (whole s) _ end bodies typed_all in
      let two = in_turn (expr_type p known c e) _ end one.2 one.4 in
      let three = in_turn (only (indexed one.0 two.0)) _ end two.2 two.4 in
      let answers = (only_is (indexed one.0 two.0) three.0 three.1 three.3).0 in
      let first = checked_more p known one.1 one.2 bodies one.5 checked in
      let second = checked_more p known two.1 two.2 one.2 two.5 first in
      bound known c.locals Plain Plain (λ x. HasType x one.0) (IsOfSubject p end) (applied.whole a) _
      (applied_type c s a one.0 one.1 h one.3)
      (λ x g. both known c.locals _ Plain _ _ step _ (spent known c.locals 1)
      (bound known c.locals Plain Plain (λ i. HasType i two.0) (IsOfSubject p end) (value p act e) _
      (index two.0 two.1 two.3 (checked_first p known two.1 two.2 one.2 two.5 first))
      (λ i k. bound known c.locals Plain Plain (λ y. HasType y three.0) (IsOfSubject p end) (answered (indexed_value x i)) _
      (answer known c.locals Plain (λ y. HasType y three.0) (indexed_value x i) (indexed_has one.0 two.0 three.0 x i answers g k))
      (λ y j. rest (Whole three.0) end (applied.Whole y) three.2 three.4 (checked_more p known three.1 three.2 two.2 three.5 second) j stands))))

  call_part
      : (es : ExprRow) (more : PartRow) (c : Context) → AllSound p known act opens c es (eval.arguments p act es)
      → BackSound p known act opens c es (eval.arguments p act es) → AfterSound more c → AfterSound (more_parts (tree.Call es) more) c
  unfolding typing.after eval.after
  call_part es more c all back rest s end a bodies typed_all checked h stands =
      let one = in_turn (typing.subject_call p known c (typing.first_of es) (typing.arguments p known c es)
      (typing.further_arguments p known c es) s) _ end bodies typed_all in
      bound known c.locals Plain Plain (λ y. HasType y one.0) (IsOfSubject p end) (applied.subject_call p act (eval.arguments p act es) a) _
      (call_sound p known act opens c es (eval.arguments p act es) s a one.0 one.1 one.3
      (checked_first p known one.1 one.2 bodies one.5 checked) all back h)
      (λ y g. rest (Whole one.0) end (applied.Whole y) one.2 one.4 (checked_more p known one.1 one.2 bodies one.5 checked) g stands)

  -- what stands before parts may stand
  parts_stand
      : (parts : PartRow) (c : Context) (s end : Subject) (bodies : List Standing) → typing.after p known c parts s ≡ Some (end, bodies)
      → MayStand end → MayStand s
  unfolding typing.after
  parts_stand no_parts c s end bodies typed_all stands = subst MayStand (sym (gives_is s end bodies typed_all).0) stands
  parts_stand (more_parts (tree.Member name) more) c s end bodies typed_all stands =
      let one = in_turn (whole s) _ end bodies typed_all in (whole_stands p known act s one.0 one.1 one.3).0
  parts_stand (more_parts (tree.Index e) more) c s end bodies typed_all stands =
      let one = in_turn (whole s) _ end bodies typed_all in (whole_stands p known act s one.0 one.1 one.3).0
  parts_stand (more_parts (tree.Call es) more) c s end bodies typed_all stands =
      let one = in_turn (typing.subject_call p known c (typing.first_of es) (typing.arguments p known c es)
      (typing.further_arguments p known c es) s) _ end bodies typed_all in
      call_stands p known act opens c es (eval.arguments p act es) s one.0 one.1 one.3

  postfix_sound
      : (e : ExprData) (parts : PartRow) (c : Context) → ExprSound p known act c e → AfterSound parts c
      → ExprSound p known act c (tree.Postfix e parts)
  unfolding subject value
  postfix_sound e parts c first rest s bodies typed_all checked stands =
      let one = in_turn (subject p known c e) _ s bodies typed_all in
      bound known c.locals Plain Plain (IsOfSubject p one.0) (IsOfSubject p s) (value p act e) _
      (first one.0 one.1 one.3 (checked_first p known one.1 one.2 bodies one.5 checked) (parts_stand parts c one.0 s one.2 one.4 stands))
      (λ x h. rest one.0 s (applied.Whole x) one.2 one.4 (checked_more p known one.1 one.2 bodies one.5 checked) h stands)

  -- ## Arguments

  abbrev pub ArgumentsSound : ExprRow → Context → Type 0
  ArgumentsSound es c = AllSound p known act opens c es (eval.arguments p act es)

  no_arguments : (c : Context) → ArgumentsSound no_exprs c
  unfolding typing.arguments eval.arguments
  no_arguments c ts bodies typed_all checked =
      let same = (gives_is [] ts bodies typed_all).0 in
      given known c.locals (List Plain) (λ xs. AllZip HasType xs ts) [] (subst (λ us. AllZip HasType [] us) same tt)

  one_argument
      : (e : ExprData) (more : ExprRow) (c : Context) → TypedSound p known act c e → ArgumentsSound more c
      → ArgumentsSound (more_exprs e more) c
  unfolding typing.arguments eval.arguments
  one_argument e more c first rest ts bodies typed_all checked =
      let one = in_turn (expr_type p known c e) _ ts bodies typed_all in
      let two = in_turn (typing.arguments p known c more) _ ts one.2 one.4 in
      let same = (gives_is (one.0 ∷ two.0) ts two.2 two.4).0 in
      let others = checked_more p known one.1 one.2 bodies one.5 checked in
      bound known c.locals Plain (List Plain) (λ x. HasType x one.0) (λ xs. AllZip HasType xs ts) (value p act e) _
      (first one.0 one.1 one.3 (checked_first p known one.1 one.2 bodies one.5 checked))
      (λ x h. bound known c.locals (List Plain) (List Plain) (λ xs. AllZip HasType xs two.0) (λ xs. AllZip HasType xs ts)
      (eval.arguments p act more) _ (rest two.0 two.1 two.3 (checked_first p known two.1 two.2 one.2 two.5 others))
      (λ xs zip. given known c.locals (List Plain) (λ ys. AllZip HasType ys ts) (x ∷ xs)
      (subst (λ us. AllZip HasType (x ∷ xs) us) same (h, zip))))

  abbrev pub FirstSound : ExprRow → Context → Type 0
  FirstSound es c = BackSound p known act opens c es (eval.arguments p act es)

  no_first : (c : Context) → FirstSound no_exprs c
  unfolding callback_answer
  no_first c given_types further r first more typed_all back one other = absurd cc

  a_first : (e : ExprData) (more : ExprRow) (c : Context) → ArgumentsSound more c → FirstSound (more_exprs e more) c
  unfolding typing.further_arguments eval.arguments
  a_first e more c rest given_types further r first others typed_all back one other =
      bound known c.locals Plain (List Plain) (IsCalledBack known act given_types r) (IsCalling p known act opens c (more_exprs e more) (eval.arguments p act (more_exprs e more)) given_types r further) (value p act e) _
      (callback_sound p known act opens outer runs c e given_types r others back other)
      (λ f calls. bound known c.locals (List Plain) (List Plain) (λ ys. AllZip HasType ys further) _ (eval.arguments p act more) _
      (rest further first typed_all one)
      (λ ys zip. given known c.locals (List Plain) _ (f ∷ ys) (f, ys, refl, calls, zip)))

  -- ## All expressions

  mutual
    unfolding subject value

    pub subject_sound : (e : ExprData) (c : Context) → ExprSound p known act c e
    subject_sound (tree.Number n) c s bodies typed_all checked stands =
        literal_sound c number_type s bodies (plain.Number n) typed_all (kind_has kinds.Number (plain.Number n) (n, refl))
    subject_sound (tree.Str text) c s bodies typed_all checked stands = text_sound text c s bodies typed_all
    subject_sound tree.True c s bodies typed_all checked stands =
        literal_sound c boolean_type s bodies (plain.Flag true) typed_all (flag_has true)
    subject_sound tree.False c s bodies typed_all checked stands =
        literal_sound c boolean_type s bodies (plain.Flag false) typed_all (flag_has false)
    subject_sound tree.Undefined c s bodies typed_all checked stands =
        literal_sound c undefined_type s bodies plain.Undefined typed_all undefined_itself
    subject_sound (tree.Template text holes) c s bodies typed_all checked stands =
        template_sound text holes c (holes_sound holes c) s bodies typed_all checked stands
    subject_sound (tree.Path letter text holes) c s bodies typed_all checked stands =
        path_sound letter text holes c (holes_sound holes c) (path_holes_sound holes c) s bodies typed_all checked stands
    subject_sound (tree.Elements es) c s bodies typed_all checked stands =
        elements_sound es c (items_sound es c) s bodies typed_all checked stands
    subject_sound (tree.Object ps) c s bodies typed_all checked stands =
        object_sound ps c (fields_sound ps c) s bodies typed_all checked stands
    subject_sound (tree.Name target) c s bodies typed_all checked stands = a_name_sound target c s bodies typed_all
    subject_sound (tree.Arrow number) c s bodies typed_all checked stands = absurd cc
    subject_sound (tree.Cond x a b) c s bodies typed_all checked stands =
        cond_sound x a b c (typed_from p known act c x (subject_sound x c))
        (typed_from p known act (narrowed true x c) a (subject_sound a (narrowed true x c)))
        (typed_from p known act (narrowed false x c) b (subject_sound b (narrowed false x c))) s bodies typed_all checked stands
    subject_sound (tree.Chain e more) c s bodies typed_all checked stands =
        chain_sound e more c (typed_from p known act c e (subject_sound e c))
        (λ u. operands_sound more (outcome_of more) c e u) s bodies typed_all checked stands
    subject_sound (tree.Unary ops e) c s bodies typed_all checked stands =
        unary_sound ops e c (typed_from p known act c e (subject_sound e c)) s bodies typed_all checked stands
    subject_sound (tree.Postfix e parts) c s bodies typed_all checked stands =
        postfix_sound e parts c (subject_sound e c) (after_sound parts c) s bodies typed_all checked stands

    operands_sound : (more : OperandRow) (outcome : Option Bool) (c : Context) (left : ExprData) (s : Subject) → OperandsSound more outcome c left s
    operands_sound no_operands outcome c left s = no_operands_sound outcome c left s
    operands_sound (more_operands (tree.Operand op e) more) outcome c left s =
        operands_step op e more outcome c left s
        (typed_from p known act (following outcome left c) e (subject_sound e (following outcome left c)))
        (operands_sound more outcome (following outcome left c) e s)

    after_sound : (parts : PartRow) (c : Context) → AfterSound parts c
    after_sound no_parts c = no_parts_sound c
    after_sound (more_parts (tree.Member name) more) c = member_part name more c (after_sound more c)
    after_sound (more_parts (tree.Index e) more) c =
        index_part e more c (typed_from p known act c e (subject_sound e c)) (after_sound more c)
    after_sound (more_parts (tree.Call es) more) c =
        call_part es more c (arguments_sound es c) (first_sound es c) (after_sound more c)

    arguments_sound : (es : ExprRow) (c : Context) → ArgumentsSound es c
    arguments_sound no_exprs c = no_arguments c
    arguments_sound (more_exprs e more) c =
        one_argument e more c (typed_from p known act c e (subject_sound e c)) (arguments_sound more c)

    first_sound : (es : ExprRow) (c : Context) → FirstSound es c
    first_sound no_exprs c = no_first c
    first_sound (more_exprs e more) c = a_first e more c (arguments_sound more c)

    items_sound : (es : ElementRow) (c : Context) → ItemsSound es c
    items_sound no_elements c = no_items c
    items_sound (more_elements (tree.Element false e) more) c =
        one_item e more c (typed_from p known act c e (subject_sound e c)) (items_sound more c)
    items_sound (more_elements (tree.Element true e) more) c =
        spread_item e more c (typed_from p known act c e (subject_sound e c)) (items_sound more c)

    fields_sound : (ps : PropRow) (c : Context) → FieldsSound ps c
    fields_sound no_props c = no_fields_sound c
    fields_sound (more_props (tree.Named name e) more) c =
        named_field name e more c (typed_from p known act c e (subject_sound e c)) (fields_sound more c)
    fields_sound (more_props (tree.Quoted name e) more) c =
        quoted_field name e more c (typed_from p known act c e (subject_sound e c)) (fields_sound more c)
    fields_sound (more_props (tree.Short name target) more) c = short_field name target more c (fields_sound more c)
    fields_sound (more_props (tree.Spread e) more) c =
        spread_field_sound e more c (typed_from p known act c e (subject_sound e c)) (fields_sound more c)

    holes_sound : (holes : HoleRow) (c : Context) → HolesSound holes c
    holes_sound no_holes c = no_holes_sound c
    holes_sound (more_holes (tree.Hole e text) more) c =
        hole_sound e text more c (typed_from p known act c e (subject_sound e c)) (holes_sound more c)

    path_holes_sound : (holes : HoleRow) (c : Context) → PathSound holes c
    path_holes_sound no_holes c = no_path_holes c
    path_holes_sound (more_holes (tree.Hole e text) more) c =
        path_hole e text more c (typed_from p known act c e (subject_sound e c)) (holes_sound more c)

  -- an expression that has a type comes to a value of it
  pub expr_sound : (e : ExprData) (c : Context) → TypedSound p known act c e
  expr_sound e c = typed_from p known act c e (subject_sound e c)
