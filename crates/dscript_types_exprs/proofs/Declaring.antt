-- Statements, and the locals that they declare.
use Rattle.std.proofs.Common.{◌++◌, ◌+◌, ◌<◌, ◌∙◌, ◌∷◌, ◌≡◌, ◌≤◌, ℕ, List, None, Option, Some, [], ap, append_assoc, drop, false, get_or, length, map, refl, subst, sym, true}
use Rattle.std.specs.List.{filter_map}
use Rattle.std.specs.declared.alloc.Global.{Global}
use Rattle.std.specs.declared.vec.Vec.{Vec}
use Rattle.dscript_ast.specs.TypeTree.{TypeTree}
use Rattle.dscript_ast.specs.declared.expr.LoopKind.{LoopKind}
use Rattle.dscript_program.specs.BoundTree.{ExprData, MaybeStmt, StmtData, a_stmt, no_stmt, to_stmts}
use Rattle.dscript_program.specs.BoundTree as tree
use Rattle.dscript_program.specs.ProgramData.{ProgramData}
use Rattle.dscript_program.specs.Views.{body_data, expr_data, stmt_data}
use Rattle.dscript_program.specs.declared.bound.Body.{Body}
use Rattle.dscript_program.specs.declared.bound.Body.TheVariants as bodies
use Rattle.dscript_program.specs.declared.bound.BoundExpr.{BoundExpr}
use Rattle.dscript_program.specs.declared.bound.BoundStmt.{BoundStmt}
use Rattle.dscript_types_known.specs.Matching.{FoundLocal, LocalMatches, LocalsMatch}
use Rattle.dscript_types_known.specs.Views.{found_local, locals_at}
use Rattle.dscript_types_known.specs.declared.locals.Local.{Local as AnyLocal}
use Rattle.dscript_types_meaning.specs.Bodies.{Alone, Declared, Looped, Returned, Spot, Use, after_stmt, body_uses, hold_in_loop, if_returned, is_right_at, stmt_uses, stmts_uses, type_in_loop, use_at}
use Rattle.dscript_types_meaning.specs.Contexts.{Context, Hold, Known, Variable, local_at, with_local}
use Rattle.dscript_types_meaning.specs.Narrowing.{narrowed}
use Rattle.dscript_types_meaning.specs.Typed.{known_within}
use Rattle.dscript_types_meaning.specs.Types.{TypeData}
use Rattle.dscript_types_notes.proofs.Meant.{drop_all, drop_next}
use Rattle.dscript_types_notes.specs.Means.{IsAt, program_of}
use Rattle.dscript_types_notes.specs.declared.world.Place.{Place}
use Rattle.dscript_types_notes.specs.declared.world.World.{World}
use Rattle.dscript_types_scenes.proofs.Going.{nil_right}
use Rattle.dscript_types_scenes.proofs.Ruling.{rules_at}
use Rattle.dscript_types_scenes.proofs.Scening.{locals_with, same_matches, with_matches}
use Rattle.dscript_types_scenes.specs.Scenes.{Closed, FindsAs, GoesTo, IsSameScene, IsSceneWith, Matches, TypesAs, with_found}
use Rattle.dscript_types_scenes.specs.Statements.{IsSceneAfter}
use Rattle.dscript_types_scenes.specs.Typings.{both_right}
use Rattle.dscript_types_scenes.specs.Walks.{RulesAs, finding_types, judged, returned}
use Rattle.dscript_types_scenes.specs.declared.found.Typing.{Typing}
use Rattle.dscript_types_scenes.specs.declared.scene.Scene.{Scene}
use Rattle.dscript_types_scenes.specs.declared.walk.Rule.{Rule}
use Rattle.dscript_types_scenes.specs.declared.walk.Walk.{Walk}
use Rattle.dscript_types_exprs.proofs.Choosing.{typed_as, value_of}
use Rattle.dscript_types_exprs.proofs.Walking.{Uses, walks_in, walks_out, walks_over, walks_then}
use Rattle.dscript_types_exprs.specs.Statements.{GoesToWith, type_of_variable, use_of, value_uses}
use Rattle.dscript_types_exprs.specs.Walks.{IsWalk, Walks}

-- ## One expression

module _ (w : World) (scene : Scene) (e : ExprData) (spot : Spot) (old new : Walk) (found : Typing TypeData) (rule : Rule)
    (types : TypesAs typed_as w scene found (value_of e))
    (meets : RulesAs w scene found rule (λ p known c t. is_right_at p known c spot t))
    (right : new.right ≡ both_right old.right (judged found rule)) where
  -- one that is not returned
  pub use_over
      : ((c : Context) → filter_map if_returned (use_at c spot e ∷ []) ≡ []) → new.returns ≡ old.returns
      → Walks w scene old new (λ p known c. use_of c spot e)
  use_over passed same n more c before below within m is =
      walks_over (program_of w) (Closed w more) n before (use_at c spot e) old new is found rule (types n more c below within m)
      (λ t seen eq. rules_at w scene (λ p known d u. is_right_at p known d spot u) found rule meets n more c below within m t seen eq)
      right (passed c) same

  -- one that is
  pub use_out
      : ((c : Context) → filter_map if_returned (use_at c spot e ∷ []) ≡ use_at c spot e ∷ [])
      → finding_types new.returns ≡ returned (finding_types old.returns) found
      → Walks w scene old new (λ p known c. use_of c spot e)
  use_out kept adds n more c before below within m is =
      walks_out (program_of w) (Closed w more) n before (use_at c spot e) old new is found rule (types n more c below within m)
      (λ t seen eq. rules_at w scene (λ p known d u. is_right_at p known d spot u) found rule meets n more c below within m t seen eq)
      right (kept c) adds

-- ## The same, said in another way

module _ (w : World) (scene : Scene) where
  pub walks_as
      : (old new : Walk) (uses others : Uses) → ((p : ProgramData) (known : Known) (c : Context) → uses p known c ≡ others p known c)
      → Walks w scene old new uses → Walks w scene old new others
  walks_as old new uses others same walks n more c before below within m is =
      subst (λ (us : List Use). IsWalk (program_of w) (Closed w more) n (before ++ us) new)
      (same (program_of w) (known_within (program_of w) n) c) (walks n more c before below within m is)

  pub goes_as
      : (added : Option (ℕ × AnyLocal)) (f g : ProgramData → Known → Context → Context)
      → ((p : ProgramData) (known : Known) (c : Context) → f p known c ≡ g p known c) → GoesToWith w scene added f
      → GoesToWith w scene added g
  goes_as None f g same goes = λ n more c below within m.
      subst (λ (d : Context). Matches (Closed w more) n scene d) (same (program_of w) (known_within (program_of w) n) c)
      (goes n more c below within m)
  goes_as (Some added) f g same goes = λ n more c below within m.
      subst
      (λ (d : Context). IsAt scene.place d × LocalsMatch (Closed w more) n (with_found (locals_at scene.locals) added.0 (found_local added.1)) d)
      (same (program_of w) (known_within (program_of w) n) c) (goes n more c below within m)

  pub goes_none
      : (f g : ProgramData → Known → Context → Context) → ((p : ProgramData) (known : Known) (c : Context) → f p known c ≡ g p known c)
      → GoesToWith w scene None f → GoesToWith w scene None g
  goes_none f g same goes = goes_as None f g same goes

  pub goes_some
      : (number : ℕ) (l : AnyLocal) (f g : ProgramData → Known → Context → Context)
      → ((p : ProgramData) (known : Known) (c : Context) → f p known c ≡ g p known c) → GoesToWith w scene (Some (number, l)) f
      → GoesToWith w scene (Some (number, l)) g
  goes_some number l f g same goes = goes_as (Some (number, l)) f g same goes

  -- ## Locals

  -- nothing is declared
  pub stays : GoesToWith w scene None (λ p known c. c)
  stays n more c below within m = m

  -- a local is declared
  pub declares
      : (number : ℕ) (l : AnyLocal) (hold : Hold) (answer : ProgramData → Known → Context → Option TypeData)
      → (found_local l).hold ≡ hold → FindsAs w scene (found_local l).type_data answer
      → GoesToWith w scene (Some (number, l)) (λ p known c. with_local number (answer p known c) hold c)
  declares number l hold answer holds finds n more c below within m = (
    record { file = m.place.file; around = m.place.around; parameters = m.place.parameters },
    locals_with (Closed w more) n (locals_at scene.locals) c number (found_local l) (answer (program_of w) (known_within (program_of w) n) c)
        hold holds (finds n more c below within m) m.locals,
  )

  -- and is in the new scene
  pub goes_after
      : (added : Option (ℕ × AnyLocal)) (new : Scene) (f : ProgramData → Known → Context → Context) → IsSceneAfter scene added new
      → GoesToWith w scene added f → GoesTo w scene new f
  goes_after None new f is goes n more c below within m =
      subst (λ (s : Scene). Matches (Closed w more) n s (f (program_of w) (known_within (program_of w) n) c)) (sym is)
      (goes n more c below within m)
  goes_after (Some added) new f is goes n more c below within m =
      let d = f (program_of w) (known_within (program_of w) n) c in
      let g = goes n more c below within m in
      record {
        place = subst (λ (q : Place). IsAt q d) (sym is.place) g.0;
        locals = λ other. subst (λ (o : Option FoundLocal). LocalMatches (Closed w more) n o (local_at d other)) (sym (is.locals other))
            (g.1 other);
      }

-- ## Conditions

module _ (w : World) (scene : Scene) (note : Option TypeTree) (x : ExprData) (one : StmtData) (old mid last : Walk) (inner : Scene)
    (alone : Walks w scene old mid (λ p known c. use_of c Alone x))
    (goes_in : GoesTo w scene inner (λ p known c. narrowed true x c))
    (first : Walks w inner mid last (λ p known c. stmt_uses p known note c one)) where
  abbrev if_uses : MaybeStmt → Uses
  if_uses other p known c = stmt_uses p known note c (tree.If x one other)

  to_first : Walks w scene old last (λ p known c. use_of c Alone x ++ stmt_uses p known note (narrowed true x c) one)
  to_first =
      walks_then w scene old mid last (λ p known c. use_of c Alone x) (λ p known c. stmt_uses p known note (narrowed true x c) one)
      alone
      (walks_in w scene inner (λ p known c. narrowed true x c) mid last (λ p known c. stmt_uses p known note c one) goes_in first)

  -- no `else`
  pub walks_if : Walks w scene old last (if_uses no_stmt)
  unfolding stmt_uses
  walks_if =
      walks_as w scene old last (λ p known c. use_of c Alone x ++ stmt_uses p known note (narrowed true x c) one) (if_uses no_stmt)
      (λ p known c. ap (λ us. use_at c Alone x ∷ us) (sym (nil_right (stmt_uses p known note (narrowed true x c) one)))) to_first

  pub walks_either
      : (new : Walk) (outer : Scene) (other : StmtData) → GoesTo w scene outer (λ p known c. narrowed false x c)
      → Walks w outer last new (λ p known c. stmt_uses p known note c other) → Walks w scene old new (if_uses (a_stmt other))
  unfolding stmt_uses
  walks_either new outer other goes_out second =
      walks_as w scene old new
      (λ p known c. (use_of c Alone x ++ stmt_uses p known note (narrowed true x c) one) ++ stmt_uses p known note (narrowed false x c) other)
      (if_uses (a_stmt other))
      (λ p known c. append_assoc (use_of c Alone x) (stmt_uses p known note (narrowed true x c) one)
      (stmt_uses p known note (narrowed false x c) other))
      (walks_then w scene old last new (λ p known c. use_of c Alone x ++ stmt_uses p known note (narrowed true x c) one)
      (λ p known c. stmt_uses p known note (narrowed false x c) other) to_first
      (walks_in w scene outer (λ p known c. narrowed false x c) last new (λ p known c. stmt_uses p known note c other) goes_out second))

-- ## Loops

pub walks_each
    : (w : World) (scene : Scene) (note : Option TypeTree) (kind : LoopKind) (number : ℕ) (list : ExprData) (body : StmtData)
    (old mid new : Walk) (inner : Scene) (f : FoundLocal)
    → Walks w scene old mid (λ p known c. use_of c Looped list)
    → FindsAs w scene f.type_data (λ p known c. type_in_loop p known c list) → f.hold ≡ hold_in_loop kind
    → IsSceneWith scene number f inner
    → Walks w inner mid new (λ p known c. stmt_uses p known note c body)
    → Walks w scene old new (λ p known c. stmt_uses p known note c (tree.For kind number list body))
unfolding stmt_uses
walks_each w scene note kind number list body old mid new inner f looped finds holds is walks =
    walks_then w scene old mid new (λ p known c. use_of c Looped list)
    (λ p known c. stmt_uses p known note (with_local number (type_in_loop p known c list) (hold_in_loop kind) c) body) looped
    (walks_in w scene inner (λ p known c. with_local number (type_in_loop p known c list) (hold_in_loop kind) c) mid new
    (λ p known c. stmt_uses p known note c body)
    (λ n more c below within m.
    with_matches (Closed w more) n scene inner c number f (type_in_loop (program_of w) (known_within (program_of w) n) c list)
    (hold_in_loop kind) is holds (finds n more c below within m) m)
    walks)

-- ## Statements, one after another

module _ (w : World) (scene : Scene) (note : Option TypeTree) (stmts : List BoundStmt) (old : Walk) where
  abbrev rest_uses : ℕ → Uses
  rest_uses i p known d = stmts_uses p known note d (to_stmts (map stmt_data (drop i stmts)))

  -- The scene after some statements is that of the context after them, and what the walk has come to is that of those that were
  -- walked.
  abbrev pub StmtsGo : ℕ → Scene → Walk → Type 0
  StmtsGo i here walk =
      (n more : ℕ) (c : Context) (before : List Use) → n ≤ more → n ≤ w.left → Matches (Closed w more) n scene c
      → IsWalk (program_of w) (Closed w more) n before old
      → (d : Context) × Matches (Closed w more) n here d
      × (sofar : List Use) × IsWalk (program_of w) (Closed w more) n (before ++ sofar) walk
      × (stmts_uses (program_of w) (known_within (program_of w) n) note c (to_stmts (map stmt_data stmts))
      ≡ sofar ++ rest_uses i (program_of w) (known_within (program_of w) n) d)

  pub stmts_begin : (here : Scene) → IsSameScene scene here → StmtsGo 0 here old
  stmts_begin here same n more c before below within m is = (
    c,
    same_matches (Closed w more) n scene here c same m,
    [],
    subst (λ (us : List Use). IsWalk (program_of w) (Closed w more) n us old) (sym (nil_right before)) is,
    refl,
  )

  pub stmts_go
      : (i : ℕ) (here next : Scene) (walk new : Walk) (each : BoundStmt) (added : Option (ℕ × AnyLocal)) → StmtsGo i here walk
      → i < length stmts → each ≡ get_or stmts i each
      → Walks w here walk new (λ p known c. stmt_uses p known note c (stmt_data each))
      → GoesToWith w here added (λ p known c. after_stmt p known c (stmt_data each)) → IsSceneAfter here added next
      → StmtsGo (i + 1) next new
  unfolding stmts_uses
  stmts_go i here next walk new each added goes l e walks after is n more c before below within m begun =
      let p = program_of w in let known = known_within p n in
      let g = goes n more c before below within m begun in
      let d = g.0 in
      let uses = stmt_uses p known note d (stmt_data each) in
      let there = goes_after w here added next (λ q k x. after_stmt q k x (stmt_data each)) is after n more d below within g.1 in (
        after_stmt p known d (stmt_data each),
        there,
        g.2 ++ uses,
        subst (λ (us : List Use). IsWalk p (Closed w more) n us new) (append_assoc before g.2 uses)
            (walks n more d (before ++ g.2) below within g.1 g.3),
        g.4
            ∙ ap (λ ss. g.2 ++ stmts_uses p known note d (to_stmts (map stmt_data ss))) (drop_next stmts i each l e)
            ∙ sym (append_assoc g.2 uses (rest_uses (i + 1) p known (after_stmt p known d (stmt_data each)))),
      )

  pub stmts_end
      : (i : ℕ) (here : Scene) (walk : Walk) → length stmts ≤ i → StmtsGo i here walk
      → Walks w scene old walk (λ p known c. stmts_uses p known note c (to_stmts (map stmt_data stmts)))
  unfolding stmts_uses
  stmts_end i here walk l goes n more c before below within m begun =
      let p = program_of w in let known = known_within p n in
      let g = goes n more c before below within m begun in
      subst (λ (us : List Use). IsWalk p (Closed w more) n (before ++ us) walk)
      (sym (g.4 ∙ ap (λ ss. g.2 ++ stmts_uses p known note g.0 (to_stmts (map stmt_data ss))) (drop_all stmts i l)
      ∙ nil_right g.2))
      g.3

-- ## Bodies

module _ (p : ProgramData) (known : Known) (note : Option TypeTree) (c : Context) (b : Body) where
  pub uses_of_expr : (e : BoundExpr) → b ≡ bodies.Expr e → use_of c (Returned note) (expr_data e) ≡ body_uses p known note c (body_data b)
  unfolding body_uses
  uses_of_expr e is = sym (ap (λ (x : Body). body_uses p known note c (body_data x)) is)

  pub uses_of_block
      : (ss : Vec BoundStmt Global) (slice : List BoundStmt) → slice ≡ ss.items → b ≡ bodies.Block ss
      → stmts_uses p known note c (to_stmts (map stmt_data slice)) ≡ body_uses p known note c (body_data b)
  unfolding body_uses
  uses_of_block ss slice same is =
      ap (λ xs. stmts_uses p known note c (to_stmts (map stmt_data xs))) same
      ∙ sym (ap (λ (x : Body). body_uses p known note c (body_data x)) is)

-- ## Values that may be missing

pub let_uses
    : (p : ProgramData) (known : Known) (answer note : Option TypeTree) (c : Context) (n : ℕ) (e : Option ExprData)
    → value_uses c (Declared note) e ≡ stmt_uses p known answer c (tree.Let n note e)
unfolding stmt_uses
let_uses p known answer note c n None = refl
let_uses p known answer note c n (Some e) = refl

pub return_uses
    : (p : ProgramData) (known : Known) (answer : Option TypeTree) (c : Context) (e : Option ExprData)
    → value_uses c (Returned answer) e ≡ stmt_uses p known answer c (tree.Return e)
unfolding stmt_uses
return_uses p known answer c None = refl
return_uses p known answer c (Some e) = refl

pub after_let
    : (p : ProgramData) (known : Known) (note : Option TypeTree) (c : Context) (n : ℕ) (e : Option ExprData)
    → with_local n (type_of_variable p known c note e) Variable c ≡ after_stmt p known c (tree.Let n note e)
unfolding after_stmt
after_let p known note c n None = refl
after_let p known note c n (Some e) = refl
