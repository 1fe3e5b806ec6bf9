-- Statements and bodies come to what their types say.
use Rattle.std.proofs.Common.{◌≡◌, ℕ, zero, suc, ◌+◌, ◌-◌, ◌<◌, ◌≤◌, Bool, true, false, cond, ◌&&◌, ◌||◌, List, [], ◌∷◌, ◌++◌, length, Option, Some, None, Result, Ok, Err, refl, sym, ap, ◌∙◌, subst, inl, inr, arith}
use Rattle.std.specs.List.{AllByRecursion, list_all}
use Rattle.std.specs.Option.{option_and_then}
use Rattle.std.specs.Prelude.{IfSome, ◌==◌}
use Rattle.std.specs.Bool.{beq}
use Rattle.std.proofs.lemmas.Bool.{eqb-false, eqb-true}
use Rattle.dscript_ast.specs.TypeTree.{TypeTree}
use Rattle.dscript_ast.specs.declared.expr.LoopKind.{LoopKind}
use Rattle.dscript_value.specs.Plain as plain
use Rattle.dscript_value.specs.Plain.{Plain, item_list}
use Rattle.dscript_sdk_values.specs.Kinds.{items_in}
use Rattle.dscript_program.specs.BoundTree as tree
use Rattle.dscript_program.specs.BoundTree.{ExprData, StmtData, MaybeStmt, StmtRow, BodyData, no_stmt, a_stmt, no_stmts, more_stmts, to_stmts}
use Rattle.dscript_program.specs.Numbering.{FillRun, HasConsecutiveLocals, Taker, body_takers, else_takers, maybe_takers, stmt_takers, stmts_takers}
use Rattle.dscript_program.specs.Numbering.{takers_of}
use Rattle.dscript_program.specs.ProgramData.{ProgramData}
use Rattle.dscript_names.specs.Captures.{AllCaptureOuter}
use Rattle.dscript_eval_operators.specs.Truth.{is_true}
use Rattle.dscript_eval_meaning.specs.Acts.{Acts}
use Rattle.dscript_eval_meaning.specs.Evaluating.{Gives as Giving, Stop, answered, followed, gives, step, ◌>>=◌, ◌>>◌}
use Rattle.dscript_eval_meaning.specs.Expressions.{value}
use Rattle.dscript_eval_meaning.specs.Frames.{bind, local_value, with_local as with_value}
use Rattle.dscript_eval_meaning.specs.States.{Frame, State}
use Rattle.dscript_eval_meaning.specs.Statements as eval
use Rattle.dscript_eval_meaning.specs.Statements.{Way, On, Back, body_value, does, next, otherwise, returned, turns}
use Rattle.dscript_types_meaning.specs.Types.{TypeData}
use Rattle.dscript_types_meaning.specs.Sizes.{within_limit}
use Rattle.dscript_types_meaning.specs.Unions.{if_optional, is_list_type, items_of}
use Rattle.dscript_types_meaning.specs.Fits.{fits, fits_some}
use Rattle.dscript_types_meaning.specs.Narrowing.{Told, narrow_held, narrow_local, narrow_told, narrowed, told}
use Rattle.dscript_types_meaning.specs.Annotations.{meant}
use Rattle.dscript_types_meaning.specs.Contexts.{Captured, Context, Fixed, Hold, Known, Local, Standing, Types, Variable, bare, local_at}
use Rattle.dscript_types_meaning.specs.Contexts.{needs, type_if_variable, with_local}
use Rattle.dscript_types_meaning.specs.Expressions.{expr_type}
use Rattle.dscript_types_meaning.specs.Bodies.{Spot, Alone, Assigned, Declared, Looped, Returned, Use, after_stmt, all_pass, body_uses, else_passes}
use Rattle.dscript_types_meaning.specs.Bodies.{else_returns_nothing, else_uses, fits_note, hold_in_loop, is_right_at, item_of_list, may_end, passes}
use Rattle.dscript_types_meaning.specs.Bodies.{returns_nothing, some_return_nothing, standing_uses, stmt_uses, stmts_uses, type_in_loop}
use Rattle.dscript_types_meaning.specs.Bodies.{type_of_value, type_without_value, use_at, use_type}
use Rattle.dscript_types_meaning.specs.Typed.{with_bodies_that}
use Rattle.dscript_types_meaning.specs.Values.{HasType}
use Rattle.dscript_types_values.proofs.Among.{Among, contains_of}
use Rattle.dscript_types_values.proofs.Fitting.{fits_has, holds_some}
use Rattle.dscript_types_values.proofs.Joining.{has_undefined, list_has, undefined_itself}
use Rattle.dscript_types_laws.specs.Invariants.{Comes, ComesTo, HoldsConstants, HoldsLocal, HoldsLocals, IsScene}
use Rattle.dscript_types_laws.specs.Invariants.{KeepsToKindsAt, OpensSoundly, is_checked}
use Rattle.dscript_types_laws.proofs.Conditions.{narrowed_held}
use Rattle.dscript_types_laws.proofs.Evaluated.{condition_says}
use Rattle.dscript_types_laws.proofs.Expressing.{expr_sound}
use Rattle.dscript_types_laws.proofs.Framing.{hold_as, holds_as, local_other, local_set, set_length}
use Rattle.dscript_types_laws.proofs.Operators.{within_is}
use Rattle.dscript_types_laws.proofs.Scenes.{local_among, narrowed_scene, run_parts, run_rises, scene_later, scene_next}
use Rattle.dscript_types_laws.proofs.Sound.{spent}
use Rattle.dscript_types_laws.proofs.Typing.{AreChecked, gives_is, in_turn, needs_is}

-- ## Uses

module _ (p : ProgramData) (known : Known) where
  -- an expression with a type of its place
  abbrev pub IsTypedUse : Use → TypeData → List Standing → Type 0
  IsTypedUse u v bodies =
      (expr_type p known u.context u.expr ≡ Some (v, bodies)) × AreChecked p known bodies
      × (is_right_at p known u.context u.spot v ≡ true)

  use_case
      : (n : ℕ) (u : Use) (o : Types TypeData) → use_type p known u ≡ o
      → with_bodies_that (λ body. list_all (λ v. is_checked p known n v) (standing_uses p known body)) o ≡ true
      → (v : TypeData) × (bodies : List Standing) × IsTypedUse u v bodies
  unfolding use_type
  use_case n u None is e = absurd cc
  use_case n u (Some r) is e =
      let first = in_turn (expr_type p known u.context u.expr) _ r.0 r.1 is in
      let right = in_turn (needs (is_right_at p known u.context u.spot first.0)) _ r.0 first.2 first.4 in
      let given = gives_is first.0 r.0 right.2 right.4 in
      let good = needs_is (is_right_at p known u.context u.spot first.0) right.0 right.1 right.3 in
      let bodies : r.1 ≡ first.1
      = first.5 ∙ ap (λ bs. first.1 ++ bs) (right.5 ∙ ap (λ bs. bs ++ right.2) good.1 ∙ given.1) ∙ nothing first.1 in
      let checked : list_all (λ body. list_all (λ v. is_checked p known n v) (standing_uses p known body)) first.1 ≡ true
      = ap (list_all (λ body. list_all (λ v. is_checked p known n v) (standing_uses p known body))) (sym bodies) ∙ e in
      (first.0, first.1, (first.3, record { depth = n; is = checked }, good.0))
    where
      nothing : (bs : List Standing) → bs ++ [] ≡ bs
      nothing [] = refl
      nothing (b ∷ bs) = ap (λ cs. b ∷ cs) (nothing bs)

  -- an expression that is checked has a type
  pub use_typed
      : (n : ℕ) (u : Use) → is_checked p known n u ≡ true
      → (v : TypeData) × (bodies : List Standing) × IsTypedUse u v bodies
  unfolding is_checked
  use_typed zero u e = absurd cc
  use_typed (suc n) u e = use_case n u (use_type p known u) refl e

  -- whether the expression is returned
  abbrev pub IsReturned : Spot → Type 0
  IsReturned (Returned answer) = Unit {0}
  IsReturned Alone = ⊥
  IsReturned (Declared note) = ⊥
  IsReturned (Assigned n) = ⊥
  IsReturned Looped = ⊥

  -- it is checked, and where it is returned its values are of this type
  abbrev pub IsGood : ℕ → TypeData → Use → Type 0
  IsGood n t u =
      (is_checked p known n u ≡ true)
      × (IsReturned u.spot → (v : TypeData) (bodies : List Standing) → expr_type p known u.context u.expr ≡ Some (v, bodies)
      → is_right_at p known u.context u.spot v ≡ true → (x : Plain) → HasType x v → HasType x t)

  -- ## Values of declarations

  pub note_holds
      : (c : Context) (e : ExprData) (note : Option TypeTree) (v : TypeData) (bodies : List Standing) (x : Plain)
      → expr_type p known c e ≡ Some (v, bodies) → fits_note p known c v note ≡ true → HasType x v
      → IfSome (type_of_value p known c e note) (λ t. HasType x t)
  note_holds c e None v bodies x typed fit h = subst (λ o. IfSome (bare o) (λ t. HasType x t)) (sym typed) h
  note_holds c e (Some annotation) v bodies x typed fit h =
      let s = holds_some (fits v) (meant p known c annotation) fit in
      subst (λ o. IfSome o (λ t. HasType x t)) (sym s.1) (fits_has x v s.0 s.2 h)

  optional_case
      : (o : Option TypeData)
      → IfSome (option_and_then (λ u. within_limit (if_optional true u)) o) (λ t. HasType plain.Undefined t)
  optional_case None = tt
  optional_case (Some u) = by_limit (within_limit (if_optional true u)) refl
    where
      by_limit : (q : Option TypeData) → within_limit (if_optional true u) ≡ q → IfSome q (λ t. HasType plain.Undefined t)
      by_limit None is = tt
      by_limit (Some t) is = subst (λ v. HasType plain.Undefined v) (within_is (if_optional true u) t is) (has_undefined u)

  nothing_holds : (c : Context) (note : Option TypeTree) → IfSome (type_without_value p known c note) (λ t. HasType plain.Undefined t)
  nothing_holds c None = undefined_itself
  nothing_holds c (Some annotation) = optional_case (meant p known c annotation)

  -- what is assigned to a variable
  assigned_case
      : (c : Context) (n : ℕ) (v : TypeData) (o : Option Local) → local_at c n ≡ o
      → fits_some v (option_and_then (λ (l : Local). type_if_variable l.hold l.type_data) o) ≡ true
      → (l : Local) × (t : TypeData) × (local_at c n ≡ Some l) × (l.hold ≡ Variable) × (l.type_data ≡ Some t) × (fits v t ≡ true)
  assigned_case c n v None at e = absurd cc
  assigned_case c n v (Some l) at e = by_hold l.hold refl (holds_some (fits v) (type_if_variable l.hold l.type_data) e)
    where
      by_hold
          : (h : Hold) → l.hold ≡ h → (t : TypeData) × (type_if_variable l.hold l.type_data ≡ Some t) × (fits v t ≡ true)
          → (l : Local) × (t : TypeData) × (local_at c n ≡ Some l) × (l.hold ≡ Variable) × (l.type_data ≡ Some t) × (fits v t ≡ true)
      by_hold Fixed is s =
          absurd (let no : None ≡ Some s.0 = sym (ap (λ k. type_if_variable k l.type_data) is) ∙ s.1 in cc)
      by_hold Variable is s = (l, s.0, at, is, sym (ap (λ k. type_if_variable k l.type_data) is) ∙ s.1, s.2)
      by_hold Captured is s =
          absurd (let no : None ≡ Some s.0 = sym (ap (λ k. type_if_variable k l.type_data) is) ∙ s.1 in cc)

  -- ## Contexts only grow

  held_keeps
      : (f : Frame) (n : ℕ) (t : Option TypeData) (h : Hold) (c : Context) → HoldsLocals f (narrow_held n t h c).locals
      → HoldsLocals f c.locals
  held_keeps f n t Fixed c holds = holds.1
  held_keeps f n t Variable c holds = holds
  held_keeps f n t Captured c holds = holds

  local_keeps
      : (f : Frame) (n : ℕ) (o : Option Local) (c : Context) → HoldsLocals f (narrow_local n o c).locals → HoldsLocals f c.locals
  local_keeps f n None c holds = holds
  local_keeps f n (Some l) c holds = held_keeps f n l.type_data l.hold c holds

  told_keeps
      : (f : Frame) (outcome : Bool) (t : Told) (b : Bool) (c : Context) → beq outcome t.1 ≡ b
      → HoldsLocals f (narrow_told outcome (Some t) c).locals → HoldsLocals f c.locals
  told_keeps f outcome t true c is = rw (is, narrow_told) (λ holds. local_keeps f t.0 (local_at c t.0) c holds)
  told_keeps f outcome t false c is = rw (is, narrow_told) (λ holds. holds)

  narrowed_keeps
      : (f : Frame) (outcome : Bool) (e : ExprData) (c : Context) → HoldsLocals f (narrowed outcome e c).locals
      → HoldsLocals f c.locals
  unfolding narrowed
  narrowed_keeps f outcome e c holds = by_told (told e) holds
    where
      by_told : (o : Option Told) → HoldsLocals f (narrow_told outcome o c).locals → HoldsLocals f c.locals
      by_told None h = h
      by_told (Some t) h = told_keeps f outcome t (beq outcome t.1) c refl h

  after_keeps
      : (f : Frame) (c : Context) (s : StmtData) → HoldsLocals f (after_stmt p known c s).locals → HoldsLocals f c.locals
  unfolding after_stmt
  after_keeps f c (tree.Const n note e) holds = holds.1
  after_keeps f c (tree.Let n note None) holds = holds.1
  after_keeps f c (tree.Let n note (Some e)) holds = holds.1
  after_keeps f c (tree.Assign n e) holds = holds
  after_keeps f c (tree.If x s other) holds = holds
  after_keeps f c (tree.For kind n list s) holds = holds
  after_keeps f c (tree.Return e) holds = holds
  after_keeps f c (tree.Value e) holds = holds
  after_keeps f c (tree.Block ss) holds = holds
  after_keeps f c tree.Empty holds = holds

  -- a declaration takes the first number that is free
  declared_next
      : (first from to n : ℕ) (ts : List Taker) (c : Context) (t : Option TypeData) (h : Hold) → first ≤ from → n ≡ from
      → FillRun p.functions (from + 1) ts to → IsScene first from c.locals → IsScene first to (with_local n t h c).locals
  declared_next first from to n ts c t h low is run scene =
      let rises = run_rises p.functions (from + 1) ts to run in
      let above : from < to = omega (arith, rises) in
      subst (λ k. IsScene first to (with_local k t h c).locals) (sym is) (scene_next first from to c t h low above scene)

  after_scene
      : (first from to : ℕ) (c : Context) (s : StmtData) → first ≤ from → FillRun p.functions from (stmt_takers s) to
      → IsScene first from c.locals → IsScene first to (after_stmt p known c s).locals
  unfolding after_stmt stmt_takers FillRun
  after_scene first from to c (tree.Const n note e) low run scene =
      declared_next first from to n (takers_of e) c _ Fixed low run.0 run.1 scene
  after_scene first from to c (tree.Let n note None) low run scene =
      declared_next first from to n [] c _ Variable low run.0 run.1 scene
  after_scene first from to c (tree.Let n note (Some e)) low run scene =
      declared_next first from to n (takers_of e) c _ Variable low run.0 run.1 scene
  after_scene first from to c (tree.Assign n e) low run scene =
      scene_later first from to c.locals (run_rises p.functions from (takers_of e) to run) scene
  after_scene first from to c (tree.If x s other) low run scene =
      scene_later first from to c.locals (run_rises p.functions from (takers_of x ++ stmt_takers s ++ else_takers other) to run) scene
  after_scene first from to c (tree.For kind n list s) low run scene =
      scene_later first from to c.locals (later (run_rises p.functions (from + 1) (takers_of list ++ stmt_takers s) to run.1)) scene
    where
      later : from + 1 ≤ to → from ≤ to
      later le = omega (arith, le)
  after_scene first from to c (tree.Return e) low run scene =
      scene_later first from to c.locals (run_rises p.functions from (maybe_takers e) to run) scene
  after_scene first from to c (tree.Value e) low run scene =
      scene_later first from to c.locals (run_rises p.functions from (takers_of e) to run) scene
  after_scene first from to c (tree.Block ss) low run scene =
      scene_later first from to c.locals (run_rises p.functions from (stmts_takers ss) to run) scene
  after_scene first from to c tree.Empty low run scene = scene_later first from to c.locals (same run) scene
    where
      same : from ≡ to → from ≤ to
      same e = omega (arith, e)

-- ## What statements come to

-- a frame whose own locals are these
pub record IsFrame (first end : ℕ) (f : Frame) : Type 0 where
  pub first_is : f.first ≡ first
  pub end_is : first + length f.own ≡ end

bound_frame : (first end n : ℕ) (x : Plain) (f : Frame) → IsFrame first end f → IsFrame first end (with_value n x f)
bound_frame first end n x f h = record {
  first_is = h.first_is;
  end_is = ap (λ k. first + k) (set_length f.own (n - f.first) x) ∙ h.end_is;
}

-- a local is bound that no other has the number of
bound_holds
    : (first from end n : ℕ) (x : Plain) (f : Frame) (c : Context) (t : Option TypeData) (h : Hold) → IsFrame first end f
    → first ≤ from → from < end → n ≡ from → IsScene first from c.locals → IfSome t (λ u. HasType x u) → HoldsLocals f c.locals
    → HoldsLocals (with_value n x f) (with_local n t h c).locals
bound_holds first from end n x f c t h frame low lt is scene has holds = (here, others)
  where
    fi : f.first ≡ first
    fi = frame.first_is

    ge : f.first ≤ n
    ge = omega (arith, fi, low, is)

    within : n - f.first < length f.own
    within = let e = frame.end_is in omega (arith, fi, e, lt, is, low)

    here : IfSome t (λ u. HasType (local_value (with_value n x f) n) u)
    here = subst (λ y. IfSome t (λ u. HasType y u)) (sym (local_set f n x ge within)) has

    apart : (l : Local) → Among c.locals l → n ≡ l.number → ⊥
    apart l a same = let b = scene.bound l (contains_of c.locals l a) in absurd (omega (arith, b, same, is))

    others : HoldsLocals (with_value n x f) c.locals
    others =
        hold_as f (with_value n x f) c.locals (λ l a. sym (local_other f n l.number x ge (apart l a))) holds

-- a variable is assigned
assigned_holds
    : (first from end n : ℕ) (x : Plain) (f : Frame) (c : Context) (l : Local) (t : TypeData) → IsFrame first end f
    → IsScene first from c.locals → from ≤ end → local_at c n ≡ Some l → l.hold ≡ Variable → l.type_data ≡ Some t → HasType x t
    → HoldsLocals f c.locals → HoldsLocals (with_value n x f) c.locals
assigned_holds first from end n x f c l t frame scene le at variable typed h holds = all c.locals (λ m a. a) holds
  where
    there : Among c.locals l × (l.number ≡ n)
    there = local_among c n l at

    low : first ≤ l.number
    low = scene.own l (contains_of c.locals l there.0) variable

    ge : f.first ≤ n
    ge = let fi = frame.first_is in let is = there.1 in omega (arith, fi, low, is)

    within : n - f.first < length f.own
    within =
        let fi = frame.first_is in
        let e = frame.end_is in
        let b = scene.bound l (contains_of c.locals l there.0) in
        let is = there.1 in omega (arith, fi, e, b, is, le, low)

    same_type : (m : Local) → Among c.locals m → m.number ≡ n → m.type_data ≡ Some t
    same_type m a is =
        (scene.alone l m (contains_of c.locals l there.0) (contains_of c.locals m a) variable (is ∙ sym there.1)).0 ∙ typed

    assigned : (m : Local) → Among c.locals m → m.number ≡ n → HoldsLocal (with_value n x f) m
    assigned m a is =
        subst (λ o. IfSome o (λ u. HasType (local_value (with_value n x f) m.number) u)) (sym (same_type m a is))
        (subst (λ k. HasType (local_value (with_value n x f) k) t) (sym is)
        (subst (λ y. HasType y t) (sym (local_set f n x ge within)) h))

    one : (m : Local) (b : Bool) → (m.number == n) ≡ b → Among c.locals m → HoldsLocal f m → HoldsLocal (with_value n x f) m
    one m true is a held = assigned m a (eqb-true m.number n is)
    one m false is a held =
        holds_as f (with_value n x f) m
        (sym (local_other f n m.number x ge (λ e. eqb-false m.number n is (sym e)))) held

    all : (ls : List Local) → ((m : Local) → Among ls m → Among c.locals m) → HoldsLocals f ls → HoldsLocals (with_value n x f) ls
    all [] sub held = tt
    all (m ∷ ls) sub held = (one m (m.number == n) refl (sub m (inl refl)) held.0, all ls (λ k a. sub k (inr a)) held.1)

-- a value of the type, whatever becomes of the frame
abbrev pub Gives : Known → TypeData → Result (Plain × State) Stop → Type 0
Gives known t (Ok r) = HasType r.0 t × HoldsConstants known r.1
Gives known t (Err stop) = KeepsToKindsAt stop

module _ (p : ProgramData) (known : Known) (act : Acts) (opens : OpensSoundly p known act) (outer : AllCaptureOuter p)
    (runs : HasConsecutiveLocals p) (first end : ℕ) (depth : ℕ) (t : TypeData) where
  -- where a statement ends, of a body that returns values of the type
  abbrev Ended : List Local → Bool → Way → State → Type 0
  Ended ls passing On after =
      IsFrame first end after.frame × HoldsLocals after.frame ls × HoldsConstants known after × (passing ≡ true)
  Ended ls passing (Back x) after = HasType x t × HoldsConstants known after

  abbrev Ends : List Local → Bool → Result (Way × State) Stop → Type 0
  Ends ls passing (Ok r) = Ended ls passing r.0 r.1
  Ends ls passing (Err stop) = KeepsToKindsAt stop

  ended_wider
      : (ls ks : List Local) (a b : Bool) (w : Way) (s : State) → ((f : Frame) → HoldsLocals f ls → HoldsLocals f ks)
      → (a ≡ true → b ≡ true) → Ended ls a w s → Ended ks b w s
  ended_wider ls ks a b On s wide more h = (h.0, wide s.frame h.1, h.2, more h.3)
  ended_wider ls ks a b (Back x) s wide more h = h

  ends_wider
      : (ls ks : List Local) (a b : Bool) (r : Result (Way × State) Stop) → ((f : Frame) → HoldsLocals f ls → HoldsLocals f ks)
      → (a ≡ true → b ≡ true) → Ends ls a r → Ends ks b r
  ends_wider ls ks a b (Ok r) wide more h = ended_wider ls ks a b r.0 r.1 wide more h
  ends_wider ls ks a b (Err stop) wide more h = h

  followed_ends
      : (A : Type 0) (Is : A → Type 0) (before : Frame) (r : Result (A × State) Stop) (k : A → Giving Way) (ls : List Local) (b : Bool)
      → ComesTo A known Is before r
      → ((x : A) (after : State) → r ≡ Ok (x, after) → Comes A known Is before x after → Ends ls b (k x after))
      → Ends ls b (followed r k)
  followed_ends A Is before (Ok r) k ls b c more = more r.0 r.1 refl c
  followed_ends A Is before (Err stop) k ls b c more = c

  -- a step, and then what follows
  stepped
      : (s : State) (k : Giving Way) (ls : List Local) (b : Bool) → HoldsConstants known s
      → ((after : State) → after.frame ≡ s.frame → HoldsConstants known after → Ends ls b (k after)) → Ends ls b ((step >> k) s)
  stepped s k ls b constants more =
      followed_ends (Unit {0}) (λ x. Unit {0}) s.frame (step s) (λ x. k) ls b (spent known [] 1 s tt constants)
      (λ x after is c. more after c.frame c.constants)

  -- an expression, and then what follows
  valued
      : (c : Context) (e : ExprData) (v : TypeData) (bodies : List Standing) (s : State) (k : Plain → Giving Way) (ls : List Local) (b : Bool)
      → expr_type p known c e ≡ Some (v, bodies) → AreChecked p known bodies → HoldsLocals s.frame c.locals → HoldsConstants known s
      → ((x : Plain) (after : State) → value p act e s ≡ Ok (x, after) → HasType x v → after.frame ≡ s.frame
      → HoldsConstants known after → Ends ls b (k x after))
      → Ends ls b ((value p act e >>= k) s)
  valued c e v bodies s k ls b typed checked holds constants more =
      followed_ends Plain (λ x. HasType x v) s.frame (value p act e s) k ls b
      (expr_sound p known act opens outer runs e c v bodies typed checked s holds constants)
      (λ x after is h. more x after is h.is h.frame h.constants)

  frame_as : (f g : Frame) → g ≡ f → IsFrame first end f → IsFrame first end g
  frame_as f g e h = subst (λ k. IsFrame first end k) (sym e) h

  holds_in : (f g : Frame) (ls : List Local) → g ≡ f → HoldsLocals f ls → HoldsLocals g ls
  holds_in f g ls e h = subst (λ k. HoldsLocals k ls) (sym e) h

  -- ## Statements that bind

  abbrev pub Good : List Use → Type 0
  Good us = AllByRecursion (IsGood p known depth t) us

  abbrev pub StmtSound : StmtData → Type 0
  StmtSound s =
      (c : Context) (answer : Option TypeTree) (from to : ℕ) → Good (stmt_uses p known answer c s)
      → (returns_nothing s ≡ true → HasType plain.Undefined t) → first ≤ from → to ≤ end
      → FillRun p.functions from (stmt_takers s) to → IsScene first from c.locals → (s0 : State) → IsFrame first end s0.frame
      → HoldsLocals s0.frame c.locals → HoldsConstants known s0 → Ends (after_stmt p known c s).locals (passes s) (does p act s s0)

  -- a value is bound to a new local, and the next statement follows
  binding
      : (c : Context) (n from to : ℕ) (ts : List Taker) (x : Plain) (u : Option TypeData) (h : Hold) (s0 after : State)
      → first ≤ from → to ≤ end → n ≡ from → FillRun p.functions (from + 1) ts to → IsScene first from c.locals
      → IsFrame first end s0.frame → HoldsLocals s0.frame c.locals → after.frame ≡ s0.frame → HoldsConstants known after
      → IfSome u (λ v. HasType x v) → Ends (with_local n u h c).locals true ((bind n x >> gives On) after)
  binding c n from to ts x u h s0 after low le is run scene frame holds same constants has =
      let rises = run_rises p.functions (from + 1) ts to run in
      let above : from < end = omega (arith, rises, le) in (
        bound_frame first end n x after.frame (frame_as s0.frame after.frame same frame),
        bound_holds first from end n x after.frame c u h (frame_as s0.frame after.frame same frame) low above is scene has
            (holds_in s0.frame after.frame c.locals same holds),
        constants,
        refl,
      )

  const_does : (n : ℕ) (note : Option TypeTree) (e : ExprData) → StmtSound (tree.Const n note e)
  unfolding does stmt_uses after_stmt passes stmt_takers FillRun
  const_does n note e c answer from to good nothing low le run scene s0 frame holds constants =
      let u = use_typed p known depth (use_at c (Declared note) e) good.0.0 in
      stepped s0 _ (with_local n (type_of_value p known c e note) Fixed c).locals true constants
      (λ at same now. valued c e u.0 u.1 at (λ x. bind n x >> gives On) (with_local n (type_of_value p known c e note) Fixed c).locals true u.2.0 u.2.1 (holds_in s0.frame at.frame c.locals same holds) now
      (λ x after came h kept later.
      binding c n from to (takers_of e) x (type_of_value p known c e note) Fixed s0 after low le run.0 run.1 scene frame holds (kept ∙ same) later
      (note_holds p known c e note u.0 u.1 x u.2.0 u.2.2 h)))

  let_does : (n : ℕ) (note : Option TypeTree) (e : Option ExprData) → StmtSound (tree.Let n note e)
  unfolding does stmt_uses after_stmt passes stmt_takers FillRun
  let_does n note None c answer from to good nothing low le run scene s0 frame holds constants =
      stepped s0 _ (with_local n (type_without_value p known c note) Variable c).locals true constants
      (λ at same now.
      binding c n from to [] plain.Undefined (type_without_value p known c note) Variable s0 at low le run.0 run.1 scene frame holds same now
      (nothing_holds p known c note))
  let_does n note (Some e) c answer from to good nothing low le run scene s0 frame holds constants =
      let u = use_typed p known depth (use_at c (Declared note) e) good.0.0 in
      stepped s0 _ (with_local n (type_of_value p known c e note) Variable c).locals true constants
      (λ at same now. valued c e u.0 u.1 at (λ x. bind n x >> gives On) (with_local n (type_of_value p known c e note) Variable c).locals true u.2.0 u.2.1 (holds_in s0.frame at.frame c.locals same holds) now
      (λ x after came h kept later.
      binding c n from to (takers_of e) x (type_of_value p known c e note) Variable s0 after low le run.0 run.1 scene frame holds (kept ∙ same) later
      (note_holds p known c e note u.0 u.1 x u.2.0 u.2.2 h)))

  assign_does : (n : ℕ) (e : ExprData) → StmtSound (tree.Assign n e)
  unfolding does stmt_uses after_stmt passes stmt_takers
  assign_does n e c answer from to good nothing low le run scene s0 frame holds constants =
      let u = use_typed p known depth (use_at c (Assigned n) e) good.0.0 in
      let l = assigned_case p known c n u.0 (local_at c n) refl u.2.2 in
      let rises = run_rises p.functions from (takers_of e) to run in
      let below : from ≤ end = omega (arith, rises, le) in
      stepped s0 _ _ true constants
      (λ at same now. valued c e u.0 u.1 at (λ x. bind n x >> gives On) _ true u.2.0 u.2.1 (holds_in s0.frame at.frame c.locals same holds) now
      (λ x after came h kept later. (
        bound_frame first end n x after.frame (frame_as s0.frame after.frame (kept ∙ same) frame),
        assigned_holds first from end n x after.frame c l.0 l.1 (frame_as s0.frame after.frame (kept ∙ same) frame) scene below l.2 l.3 l.4
            (fits_has x u.0 l.1 l.5 h) (holds_in s0.frame after.frame c.locals (kept ∙ same) holds),
        later,
        refl,
      )))

  -- ## Statements that return, and expressions

  return_does : (e : Option ExprData) → StmtSound (tree.Return e)
  unfolding does stmt_uses after_stmt passes returns_nothing
  return_does None c answer from to good nothing low le run scene s0 frame holds constants =
      stepped s0 _ _ false constants (λ at same now. (nothing refl, now))
  return_does (Some e) c answer from to good nothing low le run scene s0 frame holds constants =
      let u = use_typed p known depth (use_at c (Returned answer) e) good.0.0 in
      stepped s0 _ _ false constants
      (λ at same now. valued c e u.0 u.1 at (λ x. gives (Back x)) _ false u.2.0 u.2.1 (holds_in s0.frame at.frame c.locals same holds) now
      (λ x after came h kept later. (good.0.1 tt u.0 u.1 u.2.0 u.2.2 x h, later)))

  value_does : (e : ExprData) → StmtSound (tree.Value e)
  unfolding does stmt_uses after_stmt passes
  value_does e c answer from to good nothing low le run scene s0 frame holds constants =
      let u = use_typed p known depth (use_at c Alone e) good.0.0 in
      stepped s0 _ _ true constants
      (λ at same now. valued c e u.0 u.1 at (λ x. gives On) _ true u.2.0 u.2.1 (holds_in s0.frame at.frame c.locals same holds) now
      (λ x after came h kept later. (
        frame_as s0.frame after.frame (kept ∙ same) frame,
        holds_in s0.frame after.frame c.locals (kept ∙ same) holds,
        later,
        refl,
      )))

  -- ## Conditions

  abbrev pub ElseSound : MaybeStmt → Type 0
  ElseSound s =
      (c : Context) (answer : Option TypeTree) (from to : ℕ) → Good (else_uses p known answer c s)
      → (else_returns_nothing s ≡ true → HasType plain.Undefined t) → first ≤ from → to ≤ end
      → FillRun p.functions from (else_takers s) to → IsScene first from c.locals → (s0 : State) → IsFrame first end s0.frame
      → HoldsLocals s0.frame c.locals → HoldsConstants known s0 → Ends c.locals (else_passes s) (otherwise p act s s0)

  no_else : ElseSound no_stmt
  unfolding otherwise else_passes
  no_else c answer from to good nothing low le run scene s0 frame holds constants = (frame, holds, constants, refl)

  an_else : (s : StmtData) → StmtSound s → ElseSound (a_stmt s)
  unfolding otherwise else_uses else_takers else_passes else_returns_nothing
  an_else s sound c answer from to good nothing low le run scene s0 frame holds constants =
      ends_wider (after_stmt p known c s).locals c.locals (passes s) (passes s) (does p act s s0) (λ f h. after_keeps p known f c s h) (λ e. e)
      (sound c answer from to good nothing low le run scene s0 frame holds constants)

  or_left : (a b : Bool) → a ≡ true → (a || b) ≡ true
  or_left true b e = refl
  or_left false b e = absurd cc

  or_right : (a b : Bool) → b ≡ true → (a || b) ≡ true
  or_right true b e = refl
  or_right false b e = e

  good_parts : (us vs : List Use) → Good (us ++ vs) → Good us × Good vs
  good_parts [] vs h = (tt, h)
  good_parts (u ∷ us) vs h = let r = good_parts us vs h.1 in ((h.0, r.0), r.1)

  side_holds
      : (x : ExprData) (c : Context) (outcome : Bool) (y : Plain) (s after : State) → value p act x s ≡ Ok (y, after)
      → is_true y ≡ outcome → after.frame ≡ s.frame → HoldsLocals s.frame c.locals
      → HoldsLocals after.frame (narrowed outcome x c).locals
  side_holds x c outcome y s after came is same holds =
      subst (λ (f : Frame). HoldsLocals f (narrowed outcome x c).locals) (sym same)
      (narrowed_held s.frame c outcome x (condition_says p act x s y after outcome came is) holds)

  if_does : (x : ExprData) (s : StmtData) (other : MaybeStmt) → StmtSound s → ElseSound other → StmtSound (tree.If x s other)
  unfolding does stmt_uses after_stmt passes stmt_takers returns_nothing
  if_does x s other one two c answer from to good nothing low le run scene s0 frame holds constants =
      let u = use_typed p known depth (use_at c Alone x) good.0.0 in
      let parts = good_parts (stmt_uses p known answer (narrowed true x c) s) (else_uses p known answer (narrowed false x c) other) good.1 in
      let b = run_parts p.functions from (takers_of x ++ stmt_takers s) (else_takers other) to run in
      let a = run_parts p.functions from (takers_of x) (stmt_takers s) b.0 b.1 in
      let up = run_rises p.functions from (takers_of x) a.0 a.1 in
      let higher = run_rises p.functions a.0 (stmt_takers s) b.0 a.2 in
      let highest = run_rises p.functions b.0 (else_takers other) to b.2 in
      let low_one : first ≤ a.0 = omega (arith, low, up) in
      let le_one : b.0 ≤ end = omega (arith, highest, le) in
      let low_two : first ≤ b.0 = omega (arith, low, up, higher) in
      stepped s0 _ _ (passes s || else_passes other) constants
      (λ at same now. valued c x u.0 u.1 at (λ y. cond (is_true y) (does p act s) (otherwise p act other)) _ (passes s || else_passes other) u.2.0 u.2.1
      (holds_in s0.frame at.frame c.locals same holds) now
      (λ y after came h kept later.
      sides a.0 b.0 b.0 (narrowed_scene first a.0 true x c (scene_later first from a.0 c.locals up scene))
      (narrowed_scene first b.0 false x c (scene_later first a.0 b.0 c.locals higher (scene_later first from a.0 c.locals up scene)))
      parts.0 parts.1 low_one le_one a.2 low_two b.2 at y after came kept (holds_in s0.frame at.frame c.locals same holds)
      (frame_as s0.frame after.frame (kept ∙ same) frame) later (is_true y) refl))
    where
      sides
          : (one_from one_to two_from : ℕ) → IsScene first one_from (narrowed true x c).locals
          → IsScene first two_from (narrowed false x c).locals → Good (stmt_uses p known answer (narrowed true x c) s)
          → Good (else_uses p known answer (narrowed false x c) other) → first ≤ one_from → one_to ≤ end
          → FillRun p.functions one_from (stmt_takers s) one_to → first ≤ two_from → FillRun p.functions two_from (else_takers other) to
          → (at : State) (y : Plain) (after : State) → value p act x at ≡ Ok (y, after) → after.frame ≡ at.frame
          → HoldsLocals at.frame c.locals → IsFrame first end after.frame → HoldsConstants known after → (o : Bool) → is_true y ≡ o
          → Ends c.locals (passes s || else_passes other) (cond o (does p act s) (otherwise p act other) after)
      sides one_from one_to two_from one_scene two_scene one_good two_good low_one le_one one_run low_two two_run at y after came kept there now later true is =
          ends_wider (after_stmt p known (narrowed true x c) s).locals c.locals (passes s) (passes s || else_passes other) (does p act s after)
          (λ f h. narrowed_keeps p known f true x c (after_keeps p known f (narrowed true x c) s h))
          (or_left (passes s) (else_passes other))
          (one (narrowed true x c) answer one_from one_to one_good
          (λ e. nothing (or_left (returns_nothing s) (else_returns_nothing other) e)) low_one le_one one_run one_scene after now
          (side_holds x c true y at after came is kept there) later)
      sides one_from one_to two_from one_scene two_scene one_good two_good low_one le_one one_run low_two two_run at y after came kept there now later false is =
          ends_wider (narrowed false x c).locals c.locals (else_passes other) (passes s || else_passes other) (otherwise p act other after)
          (λ f h. narrowed_keeps p known f false x c h) (or_right (passes s) (else_passes other))
          (two (narrowed false x c) answer two_from to two_good
          (λ e. nothing (or_right (returns_nothing s) (else_returns_nothing other) e)) low_two le two_run two_scene after now
          (side_holds x c false y at after came is kept there) later)

  -- ## Loops

  -- a turn of a loop, and the turns after it
  next_turn
      : (ls : List Local) (r : Result (Way × State) Stop) (more : Giving Way) (passing : Bool) → Ends ls passing r
      → ((after : State) → IsFrame first end after.frame → HoldsLocals after.frame ls → HoldsConstants known after → Ends ls true (more after))
      → Ends ls true (followed r (λ way. next way more))
  next_turn ls (Err stop) more passing h later = h
  next_turn ls (Ok (On, after)) more passing h later = later after h.0 h.1 h.2
  next_turn ls (Ok (Back x, after)) more passing h later = h

  turns_end
      : (n : ℕ) (body : Giving Way) (item : TypeData) (ls : List Local) (xs : List Plain) (s : State)
      → ((x : Plain) (at : State) → HasType x item → IsFrame first end at.frame → HoldsLocals at.frame ls → HoldsConstants known at
      → (passing : Bool) × Ends ls passing ((bind n x >> body) at))
      → AllByRecursion (λ x. HasType x item) xs → IsFrame first end s.frame → HoldsLocals s.frame ls → HoldsConstants known s
      → Ends ls true (turns n body xs s)
  turns_end n body item ls [] s turn all frame holds constants = (frame, holds, constants, refl)
  turns_end n body item ls (x ∷ xs) s turn all frame holds constants =
      stepped s (bind n x >> body >>= λ way. next way (turns n body xs)) ls true constants
      (λ at same now.
      let done = turn x at all.0 (frame_as s.frame at.frame same frame) (holds_in s.frame at.frame ls same holds) now in
      next_turn ls ((bind n x >> body) at) (turns n body xs) done.0 done.1
      (λ after f h k. turns_end n body item ls xs after turn all.1 f h k))

  listed
      : (v : TypeData) (xs : Plain) (s : State) (k : List Plain → Giving Way) (ls : List Local) (b : Bool) → is_list_type v ≡ true
      → HasType xs v → ((items : List Plain) → AllByRecursion (λ x. HasType x (items_of v)) items → Ends ls b (k items s))
      → Ends ls b ((answered (items_in xs) >>= k) s)
  listed v xs s k ls b lists h more =
      let l = list_has xs v lists h in
      subst (λ y. Ends ls b ((answered (items_in y) >>= k) s)) (sym l.2) (more (item_list l.1) l.3)

  loop_type
      : (c : Context) (list : ExprData) (v : TypeData) (bodies : List Standing) → expr_type p known c list ≡ Some (v, bodies)
      → is_list_type v ≡ true → type_in_loop p known c list ≡ Some (items_of v)
  loop_type c list v bodies typed lists =
      ap (λ o. option_and_then item_of_list (bare o)) typed ∙ ap (λ b. cond b (Some (items_of v)) None) lists

  -- a loop whose variable holds an item in this way
  abbrev ForSound : ℕ → ExprData → StmtData → Hold → Type 0
  ForSound n list s h =
      (c : Context) (answer : Option TypeTree) (from to : ℕ)
      → Good (use_at c Looped list ∷ stmt_uses p known answer (with_local n (type_in_loop p known c list) h c) s)
      → (returns_nothing s ≡ true → HasType plain.Undefined t) → first ≤ from → to ≤ end → n ≡ from
      → FillRun p.functions (from + 1) (takers_of list ++ stmt_takers s) to → IsScene first from c.locals → (s0 : State)
      → IsFrame first end s0.frame → HoldsLocals s0.frame c.locals → HoldsConstants known s0
      → Ends c.locals true
      ((step >> value p act list >>= λ xs. answered (items_in xs) >>= λ items. turns n (does p act s) items) s0)

  for_does : (n : ℕ) (list : ExprData) (s : StmtData) (h : Hold) → StmtSound s → ForSound n list s h
  for_does n list s h sound c answer from to good nothing low le declared run scene s0 frame holds constants =
      let u = use_typed p known depth (use_at c Looped list) good.0.0 in
      let a = run_parts p.functions (from + 1) (takers_of list) (stmt_takers s) to run in
      let up = run_rises p.functions (from + 1) (takers_of list) a.0 a.1 in
      let high = run_rises p.functions a.0 (stmt_takers s) to a.2 in
      let above : from < a.0 = omega (arith, up) in
      let below : from < end = omega (arith, up, high, le) in
      let low_in : first ≤ a.0 = omega (arith, low, up) in
      let inside = subst (λ k. IsScene first a.0 (with_local k (type_in_loop p known c list) h c).locals) (sym declared)
      (scene_next first from a.0 c (type_in_loop p known c list) h low above scene) in
      stepped s0 _ _ true constants
      (λ at same now. valued c list u.0 u.1 at (λ xs. answered (items_in xs) >>= λ items. turns n (does p act s) items) _ true u.2.0 u.2.1
      (holds_in s0.frame at.frame c.locals same holds) now
      (λ xs after came is kept later. listed u.0 xs after _ _ true u.2.2 is
      (λ items all. turns_end n (does p act s) (items_of u.0) c.locals items after
      (λ x turn_at x_is f holds_now k. (
        passes s,
        ends_wider (after_stmt p known (with_local n (type_in_loop p known c list) h c) s).locals c.locals (passes s) (passes s)
            (does p act s (record turn_at { frame = with_value n x turn_at.frame }))
            (λ g holding. (after_keeps p known g (with_local n (type_in_loop p known c list) h c) s holding).1) (λ e. e)
            (sound (with_local n (type_in_loop p known c list) h c) answer a.0 to good.1 nothing low_in le a.2 inside
            (record turn_at { frame = with_value n x turn_at.frame }) (bound_frame first end n x turn_at.frame f)
            (bound_holds first from end n x turn_at.frame c (type_in_loop p known c list) h f low below declared scene
            (subst (λ o. IfSome o (λ w. HasType x w)) (sym (loop_type c list u.0 u.1 u.2.0 u.2.2)) x_is) holds_now) k),
      ))
      all (frame_as s0.frame after.frame (kept ∙ same) frame) (holds_in s0.frame after.frame c.locals (kept ∙ same) holds) later)))

  a_for : (kind : LoopKind) (n : ℕ) (list : ExprData) (s : StmtData) → StmtSound s → StmtSound (tree.For kind n list s)
  unfolding does stmt_uses after_stmt passes stmt_takers returns_nothing FillRun
  a_for kind n list s sound c answer from to good nothing low le run scene s0 frame holds constants =
      for_does n list s (hold_in_loop kind) sound c answer from to good nothing low le run.0 run.1 scene s0 frame holds constants

  -- ## Rows of statements

  abbrev pub StmtsSound : StmtRow → Type 0
  StmtsSound ss =
      (c : Context) (answer : Option TypeTree) (from to : ℕ) → Good (stmts_uses p known answer c ss)
      → (some_return_nothing ss ≡ true → HasType plain.Undefined t) → first ≤ from → to ≤ end
      → FillRun p.functions from (stmts_takers ss) to → IsScene first from c.locals → (s0 : State) → IsFrame first end s0.frame
      → HoldsLocals s0.frame c.locals → HoldsConstants known s0 → Ends c.locals (all_pass ss) (eval.all p act ss s0)

  no_stmts_do : StmtsSound no_stmts
  unfolding eval.all all_pass
  no_stmts_do c answer from to good nothing low le run scene s0 frame holds constants = (frame, holds, constants, refl)

  and_true : (a b : Bool) → a ≡ true → b ≡ true → (a && b) ≡ true
  and_true true b p q = q
  and_true false b p q = absurd cc

  then_ends
      : (ls ks : List Local) (a b : Bool) (r : Result (Way × State) Stop) (more : Giving Way) → Ends ls a r
      → ((after : State) → IsFrame first end after.frame → HoldsLocals after.frame ls → HoldsConstants known after → Ends ks b (more after))
      → Ends ks (a && b) (followed r (λ way. next way more))
  then_ends ls ks a b (Err stop) more h later = h
  then_ends ls ks a b (Ok (On, after)) more h later =
      ends_wider ks ks b (a && b) (more after) (λ f k. k) (λ e. and_true a b h.3 e) (later after h.0 h.1 h.2)
  then_ends ls ks a b (Ok (Back x, after)) more h later = h

  more_stmts_do : (s : StmtData) (more : StmtRow) → StmtSound s → StmtsSound more → StmtsSound (more_stmts s more)
  unfolding eval.all stmts_uses stmts_takers all_pass some_return_nothing
  more_stmts_do s more one rest c answer from to good nothing low le run scene s0 frame holds constants =
      let parts = good_parts (stmt_uses p known answer c s) (stmts_uses p known answer (after_stmt p known c s) more) good in
      let a = run_parts p.functions from (stmt_takers s) (stmts_takers more) to run in
      let up = run_rises p.functions from (stmt_takers s) a.0 a.1 in
      let high = run_rises p.functions a.0 (stmts_takers more) to a.2 in
      let le_one : a.0 ≤ end = omega (arith, high, le) in
      let low_two : first ≤ a.0 = omega (arith, low, up) in
      then_ends (after_stmt p known c s).locals c.locals (passes s) (all_pass more) (does p act s s0) (eval.all p act more)
      (one c answer from a.0 parts.0 (λ e. nothing (or_left (returns_nothing s) (some_return_nothing more) e)) low le_one a.1 scene s0 frame
      holds constants)
      (λ after f h k. ends_wider (after_stmt p known c s).locals c.locals (all_pass more) (all_pass more) (eval.all p act more after)
      (λ g holding. after_keeps p known g c s holding) (λ e. e)
      (rest (after_stmt p known c s) answer a.0 to parts.1 (λ e. nothing (or_right (returns_nothing s) (some_return_nothing more) e)) low_two le
      a.2 (after_scene p known first from a.0 c s low a.1 scene) after f h k))

  block_does : (ss : StmtRow) → StmtsSound ss → StmtSound (tree.Block ss)
  unfolding does stmt_uses after_stmt passes stmt_takers returns_nothing
  block_does ss sound c answer from to good nothing low le run scene s0 frame holds constants =
      sound c answer from to good nothing low le run scene s0 frame holds constants

  empty_does : StmtSound tree.Empty
  unfolding does after_stmt passes
  empty_does c answer from to good nothing low le run scene s0 frame holds constants = (frame, holds, constants, refl)

  mutual
    pub stmt_sound : (s : StmtData) → StmtSound s
    stmt_sound (tree.Const n note e) = const_does n note e
    stmt_sound (tree.Let n note e) = let_does n note e
    stmt_sound (tree.Assign n e) = assign_does n e
    stmt_sound (tree.If x s other) = if_does x s other (stmt_sound s) (else_sound other)
    stmt_sound (tree.For kind n list s) = a_for kind n list s (stmt_sound s)
    stmt_sound (tree.Return e) = return_does e
    stmt_sound (tree.Value e) = value_does e
    stmt_sound (tree.Block ss) = block_does ss (stmts_sound ss)
    stmt_sound tree.Empty = empty_does

    else_sound : (s : MaybeStmt) → ElseSound s
    else_sound no_stmt = no_else
    else_sound (a_stmt s) = an_else s (stmt_sound s)

    pub stmts_sound : (ss : StmtRow) → StmtsSound ss
    stmts_sound no_stmts = no_stmts_do
    stmts_sound (more_stmts s more) = more_stmts_do s more (stmt_sound s) (stmts_sound more)

  -- ## Bodies

  same_takers : (ss : List StmtData) → body_takers (tree.Stmts ss) ≡ stmts_takers (to_stmts ss)
  unfolding body_takers stmts_takers
  same_takers [] = refl
  same_takers (s ∷ ss) = ap (λ ts. stmt_takers s ++ ts) (same_takers ss)

  comes_gives
      : (Is : Plain → Type 0) (before : Frame) (r : Result (Plain × State) Stop) → ((x : Plain) → Is x → HasType x t)
      → ComesTo Plain known Is before r → Gives known t r
  comes_gives Is before (Ok r) wide c = (wide r.0 c.is, c.constants)
  comes_gives Is before (Err stop) wide c = c

  returned_gives
      : (ls : List Local) (b : Bool) (r : Result (Way × State) Stop) → (b ≡ true → HasType plain.Undefined t) → Ends ls b r
      → Gives known t (followed r (λ way. gives (returned way)))
  returned_gives ls b (Err stop) nothing h = h
  returned_gives ls b (Ok (On, after)) nothing h = (nothing h.3, h.2)
  returned_gives ls b (Ok (Back x, after)) nothing h = h

  -- the value of a body whose expressions are checked
  pub body_sound
      : (body : BodyData) (c : Context) (answer : Option TypeTree) (from : ℕ) → Good (body_uses p known answer c body)
      → (may_end body ≡ true → HasType plain.Undefined t) → first ≤ from → FillRun p.functions from (body_takers body) end
      → IsScene first from c.locals → (s0 : State) → IsFrame first end s0.frame → HoldsLocals s0.frame c.locals
      → HoldsConstants known s0 → Gives known t (body_value p act body s0)
  unfolding body_value body_uses
  body_sound (tree.Expr e) c answer from good ends low run scene s0 frame holds constants =
      let u = use_typed p known depth (use_at c (Returned answer) e) good.0.0 in
      comes_gives (λ x. HasType x u.0) s0.frame (value p act e s0) (λ x h. good.0.1 tt u.0 u.1 u.2.0 u.2.2 x h)
      (expr_sound p known act opens outer runs e c u.0 u.1 u.2.0 u.2.1 s0 holds constants)
  body_sound (tree.Stmts ss) c answer from good ends low run scene s0 frame holds constants =
      let le : end ≤ end = omega arith in
      returned_gives c.locals (all_pass (to_stmts ss)) (eval.all p act (to_stmts ss) s0)
      (λ e. ends (or_left (all_pass (to_stmts ss)) (some_return_nothing (to_stmts ss)) e))
      (stmts_sound (to_stmts ss) c answer from end good (λ e. ends (or_right (all_pass (to_stmts ss)) (some_return_nothing (to_stmts ss)) e))
      low le (subst (λ ts. FillRun p.functions from ts end) (same_takers ss) run) scene s0 frame holds constants)
