-- Expressions come to what their subjects say.
use Rattle.std.proofs.Common.{◌≡◌, Bool, true, false, cond, not, List, [], ◌∷◌, Option, Some, None, Ok, Err, refl, sym, ap, ◌∙◌, subst, inl, inr, ◌⊎◌}
use Rattle.std.specs.List.{AllByRecursion}
use Rattle.dscript_ast.specs.declared.operator.BinaryOp.{BinaryOp}
use Rattle.dscript_ast.specs.declared.operator.BinaryOp.TheVariants as binary
use Rattle.dscript_value.specs.Plain.{Plain}
use Rattle.dscript_sdk_values.specs.Outcomes.{Outcome}
use Rattle.dscript_program.specs.BoundTree as tree
use Rattle.dscript_program.specs.BoundTree.{ExprData, OperandRow, PartRow, ExprRow, ElementRow, PropRow, HoleRow}
use Rattle.dscript_program.specs.BoundTree.{no_exprs, more_exprs, no_operands, more_operands, no_parts, more_parts}
use Rattle.dscript_program.specs.BoundTree.{no_elements, more_elements, no_props, more_props, no_holes, more_holes}
use Rattle.dscript_program.specs.ProgramData.{ProgramData}
use Rattle.dscript_eval_operators.specs.Operators.{is_settled}
use Rattle.dscript_eval_operators.specs.Truth.{is_true}
use Rattle.dscript_eval_meaning.specs.Acts.{Acts}
use Rattle.dscript_eval_meaning.specs.Evaluating.{Gives}
use Rattle.dscript_eval_meaning.specs.Expressions as eval
use Rattle.dscript_eval_meaning.specs.Expressions.{operator_count, value}
use Rattle.dscript_eval_meaning.specs.States.{Frame, State}
use Rattle.dscript_types_meaning.specs.Types.{TypeData}
use Rattle.dscript_types_meaning.specs.Sizes.{within_limit}
use Rattle.dscript_types_meaning.specs.Unions.{join_all}
use Rattle.dscript_types_meaning.specs.Access.{member_type}
use Rattle.dscript_types_meaning.specs.Narrowing.{each_operator, following, is_and, is_or, narrowed, outcome_of}
use Rattle.dscript_types_meaning.specs.Operators as types
use Rattle.dscript_types_meaning.specs.Contexts.{Context, Known, Local, Standing, only}
use Rattle.dscript_types_meaning.specs.Expressions as typing
use Rattle.dscript_types_meaning.specs.Expressions.{Subject, Whole, Named, Function, Ambient, expr_type, is, subject, typed, whole}
use Rattle.dscript_types_meaning.specs.Values.{HasType}
use Rattle.dscript_types_values.proofs.Among.{Among}
use Rattle.dscript_types_values.proofs.Joining.{has_one_of}
use Rattle.dscript_types_laws.specs.Invariants.{Answers, HoldsLocals, IsOfSubject}
use Rattle.dscript_types_laws.specs.Invariants.{IsSound, IsSoundAt, MayStand}
use Rattle.dscript_types_laws.proofs.Conditions.{narrowed_held}
use Rattle.dscript_types_laws.proofs.Evaluated.{condition_says}
use Rattle.dscript_types_laws.proofs.Members.{member_has}
use Rattle.dscript_types_laws.proofs.Operating.{AnswersOf}
use Rattle.dscript_types_laws.proofs.Operators.{settled_has, within_is}
use Rattle.dscript_types_laws.proofs.Sound.{Sound, wider}
use Rattle.dscript_types_laws.proofs.Typing.{AreChecked, checked_first, gives_is, in_turn, only_is}

module _ (p : ProgramData) (known : Known) (act : Acts) where
  -- ## What is said of an expression

  abbrev pub ExprSound : Context → ExprData → Type 0
  ExprSound c e =
      (s : Subject) (bodies : List Standing) → subject p known c e ≡ Some (s, bodies) → AreChecked p known bodies
      → MayStand s → IsSound Plain known c.locals (IsOfSubject p s) (value p act e)

  abbrev pub TypedSound : Context → ExprData → Type 0
  TypedSound c e =
      (t : TypeData) (bodies : List Standing) → expr_type p known c e ≡ Some (t, bodies) → AreChecked p known bodies
      → IsSoundAt known c.locals t (value p act e)

  pub any_member : (t : TypeData) (o : Outcome Plain) → AnswersOf t o → Answers Plain (λ x. Unit {0}) o
  any_member t (Ok x) h = tt
  any_member t (Err fault) h = h

  -- a subject that has a type as a value may stand, and is of that type
  pub whole_stands
      : (s : Subject) (t : TypeData) (bodies : List Standing) → whole s ≡ Some (t, bodies)
      → MayStand s × ((x : Plain) → IsOfSubject p s x → HasType x t)
  whole_stands (Whole u) t bodies e =
      let same = (gives_is u t bodies e).0 in (tt, λ x h. subst (λ v. HasType x v) same h)
  whole_stands (Named u name) t bodies e =
      let is = (only_is (member_type u name) t bodies e).0 in (
        λ x calls h. any_member t _ (member_has u t name x calls is h),
        λ x h. subst (λ o. AnswersOf t o) h.3 (member_has u t name h.0 h.1 is h.2),
      )
  whole_stands (Function file decl) t bodies e = absurd cc
  whole_stands (Ambient call) t bodies e = absurd cc

  pub typed_from : (c : Context) (e : ExprData) → ExprSound c e → TypedSound c e
  typed_from c e sound t bodies typed checked =
      let r = in_turn (subject p known c e) whole t bodies typed in
      let w = whole_stands r.0 t r.2 r.4 in
      wider known c.locals Plain (IsOfSubject p r.0) (λ x. HasType x t) (value p act e) w.1
      (sound r.0 r.1 r.3 (checked_first p known r.1 r.2 bodies r.5 checked) w.0)

  pub as_whole
      : (t : TypeData) (s : Subject) (bodies : List Standing) (locals : List Local) (m : Gives Plain)
      → is t ≡ Some (s, bodies) → IsSoundAt known locals t m → IsSound Plain known locals (IsOfSubject p s) m
  as_whole t s bodies locals m e sound =
      subst (λ u. IsSound Plain known locals (IsOfSubject p u) m) (gives_is (Whole t) s bodies e).0 sound

  -- ## Conditions

  -- a side of a condition, from the state in which the condition came out so
  pub side_sound
      : (c : Context) (condition side : ExprData) (outcome : Bool) (t : TypeData) (s after : State) (x : Plain)
      → IsSoundAt known (narrowed outcome condition c).locals t (value p act side)
      → HoldsLocals s.frame c.locals → value p act condition s ≡ Ok (x, after) → after.frame ≡ s.frame
      → is_true x ≡ outcome → Sound Plain known (λ y. HasType y t) (value p act side) after
  side_sound c condition side outcome t s after x sound holds is same came =
      sound after
      (subst (λ (frame : Frame). HoldsLocals frame (narrowed outcome condition c).locals) (sym same)
      (narrowed_held s.frame c outcome condition (condition_says p act condition s x after outcome is came) holds))

  pub choice_sound
      : (b : Bool) (t : TypeData) (m n : Gives Plain) (s : State) → (b ≡ true → Sound Plain known (λ y. HasType y t) m s)
      → (b ≡ false → Sound Plain known (λ y. HasType y t) n s) → Sound Plain known (λ y. HasType y t) (cond b m n) s
  choice_sound true t m n s one other = one refl
  choice_sound false t m n s one other = other refl

  -- ## Operands

  -- the operators of a chain after one that comes out so are all of one kind
  abbrev pub AllAre : Option Bool → OperandRow → Type 0
  AllAre None more = Unit {0}
  AllAre (Some true) more = each_operator is_and more ≡ true
  AllAre (Some false) more = each_operator is_or more ≡ true

  outcome_case
      : (more : OperandRow) (a b : Bool) → each_operator is_and more ≡ a → each_operator is_or more ≡ b
      → AllAre (cond a (Some true) (cond b (Some false) None)) more
  outcome_case more true b p q = p
  outcome_case more false true p q = q
  outcome_case more false false p q = tt

  pub outcome_all : (more : OperandRow) → AllAre (outcome_of more) more
  outcome_all more = outcome_case more (each_operator is_and more) (each_operator is_or more) refl refl

  pub and_head : (op : BinaryOp) (e : ExprData) (more : OperandRow) → each_operator is_and (more_operands (tree.Operand op e) more) ≡ true
      → (op ≡ binary.And) × (each_operator is_and more ≡ true)
  and_head binary.And e more all = (refl, all)
  and_head binary.Or e more all = absurd cc
  and_head binary.Equal e more all = absurd cc
  and_head binary.NotEqual e more all = absurd cc
  and_head binary.Less e more all = absurd cc
  and_head binary.LessOrEqual e more all = absurd cc
  and_head binary.Greater e more all = absurd cc
  and_head binary.GreaterOrEqual e more all = absurd cc
  and_head binary.Add e more all = absurd cc
  and_head binary.Subtract e more all = absurd cc
  and_head binary.Multiply e more all = absurd cc

  pub or_head : (op : BinaryOp) (e : ExprData) (more : OperandRow) → each_operator is_or (more_operands (tree.Operand op e) more) ≡ true
      → (op ≡ binary.Or) × (each_operator is_or more ≡ true)
  or_head binary.Or e more all = (refl, all)
  or_head binary.And e more all = absurd cc
  or_head binary.Equal e more all = absurd cc
  or_head binary.NotEqual e more all = absurd cc
  or_head binary.Less e more all = absurd cc
  or_head binary.LessOrEqual e more all = absurd cc
  or_head binary.Greater e more all = absurd cc
  or_head binary.GreaterOrEqual e more all = absurd cc
  or_head binary.Add e more all = absurd cc
  or_head binary.Subtract e more all = absurd cc
  or_head binary.Multiply e more all = absurd cc

  -- A value that settles `&&` or `||` is left as it is by the operands that are all of this operator.
  pub settled_stays
      : (op : BinaryOp) (more : OperandRow) (x : Plain) (s : State) → is_settled op x ≡ true
      → (each_operator is_and more ≡ true) × (op ≡ binary.And) ⊎ (each_operator is_or more ≡ true) × (op ≡ binary.Or)
      → eval.operands p act more x s ≡ Ok (x, s)
  unfolding eval.operands
  settled_stays op no_operands x s settled all = refl
  settled_stays op (more_operands (tree.Operand other e) more) x s settled (inl all) =
      let h = and_head other e more all.0 in
      let same : is_settled other x ≡ true = ap (λ o. is_settled o x) (h.0 ∙ sym all.1) ∙ settled in
      rw same (settled_stays op more x s settled (inl (h.1, all.1)))
  settled_stays op (more_operands (tree.Operand other e) more) x s settled (inr all) =
      let h = or_head other e more all.0 in
      let same : is_settled other x ≡ true = ap (λ o. is_settled o x) (h.0 ∙ sym all.1) ∙ settled in
      rw same (settled_stays op more x s settled (inr (h.1, all.1)))

  -- ## Pieces of typing

  pub within_whole
      : (t : TypeData) (s : Subject) (bodies : List Standing) → typing.within t ≡ Some (s, bodies) → s ≡ Whole t
  within_whole t s bodies e =
      let r = in_turn (only (within_limit t)) is s bodies e in
      let limit = within_is t r.0 (only_is (within_limit t) r.0 r.1 r.3).0 in
      sym (gives_is (Whole r.0) s r.2 r.4).0 ∙ ap Whole (sym limit)

  -- from each state whose frame holds the locals, a value of the type of a subject that is whole
  pub of_whole
      : (t : TypeData) (s : Subject) (locals : List Local) (m : Gives Plain) → s ≡ Whole t → IsSoundAt known locals t m
      → IsSound Plain known locals (IsOfSubject p s) m
  of_whole t s locals m e sound = subst (λ u. IsSound Plain known locals (IsOfSubject p u) m) (sym e) sound

  -- each value is of the type at its place
  pub all_items
      : (xs : List Plain) (t : TypeData) (ts : List TypeData) → Among ts t → AllByRecursion (λ x. HasType x t) xs
      → AllByRecursion (λ x. HasType x (join_all ts)) xs
  all_items [] t ts a h = tt
  all_items (x ∷ xs) t ts a h = (has_one_of x ts t a h.0, all_items xs t ts a h.1)

  -- ## Operands

  -- what a chain comes to whose value settles all that is left of it
  pub settled_has_all
      : (more : OperandRow) (outcome : Option Bool) (c : Context) (left : ExprData) (t : TypeData) (s : Subject)
      (bodies : List Standing) (x : Plain) (op : BinaryOp)
      → (each_operator is_and more ≡ true) × (op ≡ binary.And) ⊎ (each_operator is_or more ≡ true) × (op ≡ binary.Or)
      → is_settled op x ≡ true → HasType x t → typing.operands p known outcome c left more t ≡ Some (s, bodies)
      → (a : TypeData) × (s ≡ Whole a) × HasType x a
  unfolding typing.operands
  settled_has_all no_operands outcome c left t s bodies x op all settled h typed =
      (t, sym (gives_is (Whole t) s bodies typed).0, h)
  settled_has_all (more_operands (tree.Operand other e) more) outcome c left t s bodies x op (inl all) settled h typed =
      let first = in_turn (expr_type p known (following outcome left c) e) _ s bodies typed in
      let second = in_turn (only (types.operated other t first.0)) _ s first.2 first.4 in
      let answer = (only_is (types.operated other t first.0) second.0 second.1 second.3).0 in
      let head = and_head other e more all.0 in
      let here : is_settled other x ≡ true = ap (λ o. is_settled o x) (head.0 ∙ sym all.1) ∙ settled in
      settled_has_all more outcome (following outcome left c) e second.0 s second.2 x op (inl (head.1, all.1)) settled
      (settled_has other t first.0 second.0 x answer here h) second.4
  settled_has_all (more_operands (tree.Operand other e) more) outcome c left t s bodies x op (inr all) settled h typed =
      let first = in_turn (expr_type p known (following outcome left c) e) _ s bodies typed in
      let second = in_turn (only (types.operated other t first.0)) _ s first.2 first.4 in
      let answer = (only_is (types.operated other t first.0) second.0 second.1 second.3).0 in
      let head = or_head other e more all.0 in
      let here : is_settled other x ≡ true = ap (λ o. is_settled o x) (head.0 ∙ sym all.1) ∙ settled in
      settled_has_all more outcome (following outcome left c) e second.0 s second.2 x op (inr (head.1, all.1)) settled
      (settled_has other t first.0 second.0 x answer here h) second.4

  -- A chain after an operand. What is known of its value: the value of the last operand, where the chain narrows.
  abbrev pub IsLast : Option Bool → ExprData → Plain → State → Type 0
  IsLast None left x s = Unit {0}
  IsLast (Some outcome) left x s = (before : State) × (value p act left before ≡ Ok (x, s)) × (s.frame ≡ before.frame)

  -- an operand that is evaluated after one that has not settled the chain, from a frame that holds what it stands under
  pub following_holds
      : (outcome : Option Bool) (op : BinaryOp) (e left : ExprData) (more : OperandRow) (c : Context) (x : Plain) (s : State)
      → AllAre outcome (more_operands (tree.Operand op e) more) → is_settled op x ≡ false → IsLast outcome left x s
      → HoldsLocals s.frame c.locals → HoldsLocals s.frame (following outcome left c).locals
  unfolding is_settled
  following_holds None op e left more c x s all un last holds = holds
  following_holds (Some true) op e left more c x s all un last holds =
      let head = and_head op e more all in
      let true_there : is_true x ≡ true = not_false (is_true x) (ap (λ o. is_settled o x) (sym head.0) ∙ un) in
      subst (λ (frame : Frame). HoldsLocals frame (narrowed true left c).locals) (sym last.2)
      (narrowed_held last.0.frame c true left (condition_says p act left last.0 x s true last.1 true_there)
      (subst (λ (frame : Frame). HoldsLocals frame c.locals) last.2 holds))
    where
      not_false : (b : Bool) → not b ≡ false → b ≡ true
      not_false true e = refl
      not_false false e = absurd cc
  following_holds (Some false) op e left more c x s all un last holds =
      let head = or_head op e more all in
      let false_there : is_true x ≡ false = ap (λ o. is_settled o x) (sym head.0) ∙ un in
      subst (λ (frame : Frame). HoldsLocals frame (narrowed false left c).locals) (sym last.2)
      (narrowed_held last.0.frame c false left (condition_says p act left last.0 x s false last.1 false_there)
      (subst (λ (frame : Frame). HoldsLocals frame c.locals) last.2 holds))
