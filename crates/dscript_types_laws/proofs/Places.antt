-- Where the expressions of a body stand: in the file, the namespaces and the type parameters of the body.
use Rattle.std.proofs.Common.{◌≡◌, ℕ, Bool, true, false, List, [], ◌∷◌, ◌++◌, Option, Some, None, refl, ◌∙◌}
use Rattle.std.specs.Bool.{beq}
use Rattle.std.specs.List.{AllByRecursion}
use Rattle.dscript_ast.specs.TypeTree.{TypeTree}
use Rattle.dscript_program.specs.BoundTree as tree
use Rattle.dscript_program.specs.BoundTree.{ExprData, StmtData, MaybeStmt, StmtRow, BodyData, no_stmt, a_stmt, no_stmts, more_stmts, to_stmts}
use Rattle.dscript_program.specs.ProgramData.{ProgramData}
use Rattle.dscript_types_meaning.specs.Types.{TypeData}
use Rattle.dscript_types_meaning.specs.Contexts.{Captured, Context, Fixed, Hold, Known, Local, Variable, local_at, with_local}
use Rattle.dscript_types_meaning.specs.Narrowing.{Told, narrow_held, narrow_local, narrow_told, narrowed, told}
use Rattle.dscript_types_meaning.specs.Bodies.{Returned, Use, after_stmt, body_uses, else_uses}
use Rattle.dscript_types_meaning.specs.Bodies.{hold_in_loop, stmt_uses, stmts_uses, type_in_loop}
use Rattle.dscript_types_laws.proofs.Doing.{IsReturned}
use Rattle.dscript_types_laws.proofs.Rising.{SamePlace}

here : (c : Context) → SamePlace c c
here c = record { file = refl; around = refl; parameters = refl }

there : (c d e : Context) → SamePlace c d → SamePlace d e → SamePlace c e
there c d e one other = record {
  file = one.file ∙ other.file;
  around = one.around ∙ other.around;
  parameters = one.parameters ∙ other.parameters;
}

held_place : (n : ℕ) (t : Option TypeData) (h : Hold) (c : Context) → SamePlace c (narrow_held n t h c)
held_place n t Fixed c = record { file = refl; around = refl; parameters = refl }
held_place n t Variable c = here c
held_place n t Captured c = here c

local_place : (n : ℕ) (o : Option Local) (c : Context) → SamePlace c (narrow_local n o c)
local_place n None c = here c
local_place n (Some l) c = held_place n l.type_data l.hold c

told_place : (outcome : Bool) (t : Told) (b : Bool) (c : Context) → beq outcome t.1 ≡ b → SamePlace c (narrow_told outcome (Some t) c)
told_place outcome t true c is = rw (is, narrow_told) (local_place t.0 (local_at c t.0) c)
told_place outcome t false c is = rw (is, narrow_told) (here c)

narrowed_place : (outcome : Bool) (e : ExprData) (c : Context) → SamePlace c (narrowed outcome e c)
unfolding narrowed
narrowed_place outcome e c = by_told (told e)
  where
    by_told : (o : Option Told) → SamePlace c (narrow_told outcome o c)
    by_told None = here c
    by_told (Some t) = told_place outcome t (beq outcome t.1) c refl

module _ (p : ProgramData) (known : Known) where
  after_place : (c : Context) (s : StmtData) → SamePlace c (after_stmt p known c s)
  unfolding after_stmt
  after_place c (tree.Const n note e) = record { file = refl; around = refl; parameters = refl }
  after_place c (tree.Let n note None) = record { file = refl; around = refl; parameters = refl }
  after_place c (tree.Let n note (Some e)) = record { file = refl; around = refl; parameters = refl }
  after_place c (tree.Assign n e) = here c
  after_place c (tree.If x s other) = here c
  after_place c (tree.For kind n list s) = here c
  after_place c (tree.Return e) = here c
  after_place c (tree.Value e) = here c
  after_place c (tree.Block ss) = here c
  after_place c tree.Empty = here c

  -- it stands in the place of the body, and what is returned is so with the annotation of the body
  abbrev pub IsOf : Context → Option TypeTree → Use → Type 0
  IsOf c answer u = SamePlace c u.context × (IsReturned p known u.spot → u.spot ≡ Returned answer)

  all_from
      : (c d : Context) (answer : Option TypeTree) (us : List Use) → SamePlace c d → AllByRecursion (IsOf d answer) us
      → AllByRecursion (IsOf c answer) us
  all_from c d answer [] place h = tt
  all_from c d answer (u ∷ us) place h = ((there c d u.context place h.0.0, h.0.1), all_from c d answer us place h.1)

  both_of
      : (c : Context) (answer : Option TypeTree) (us vs : List Use) → AllByRecursion (IsOf c answer) us
      → AllByRecursion (IsOf c answer) vs → AllByRecursion (IsOf c answer) (us ++ vs)
  both_of c answer [] vs p q = q
  both_of c answer (u ∷ us) vs p q = (p.0, both_of c answer us vs p.1 q)

  mutual
    unfolding stmt_uses else_uses stmts_uses

    pub stmt_of : (s : StmtData) (answer : Option TypeTree) (c : Context) → AllByRecursion (IsOf c answer) (stmt_uses p known answer c s)
    stmt_of (tree.Const n note e) answer c = ((here c, λ is. absurd is), tt)
    stmt_of (tree.Let n note None) answer c = tt
    stmt_of (tree.Let n note (Some e)) answer c = ((here c, λ is. absurd is), tt)
    stmt_of (tree.Assign n e) answer c = ((here c, λ is. absurd is), tt)
    stmt_of (tree.If x s other) answer c = (
      (here c, λ is. absurd is),
      both_of c answer _ _
          (all_from c (narrowed true x c) answer _ (narrowed_place true x c) (stmt_of s answer (narrowed true x c)))
          (all_from c (narrowed false x c) answer _ (narrowed_place false x c) (else_of other answer (narrowed false x c))),
    )
    stmt_of (tree.For kind n list s) answer c = (
      (here c, λ is. absurd is),
      all_from c (with_local n (type_in_loop p known c list) (hold_in_loop kind) c) answer _
          (record { file = refl; around = refl; parameters = refl })
          (stmt_of s answer (with_local n (type_in_loop p known c list) (hold_in_loop kind) c)),
    )
    stmt_of (tree.Return None) answer c = tt
    stmt_of (tree.Return (Some e)) answer c = ((here c, λ is. refl), tt)
    stmt_of (tree.Value e) answer c = ((here c, λ is. absurd is), tt)
    stmt_of (tree.Block ss) answer c = stmts_of ss answer c
    stmt_of tree.Empty answer c = tt

    else_of : (s : MaybeStmt) (answer : Option TypeTree) (c : Context) → AllByRecursion (IsOf c answer) (else_uses p known answer c s)
    else_of no_stmt answer c = tt
    else_of (a_stmt s) answer c = stmt_of s answer c

    stmts_of : (ss : StmtRow) (answer : Option TypeTree) (c : Context) → AllByRecursion (IsOf c answer) (stmts_uses p known answer c ss)
    stmts_of no_stmts answer c = tt
    stmts_of (more_stmts s more) answer c =
        both_of c answer _ _ (stmt_of s answer c)
        (all_from c (after_stmt p known c s) answer _ (after_place c s) (stmts_of more answer (after_stmt p known c s)))

  pub body_of : (body : BodyData) (answer : Option TypeTree) (c : Context) → AllByRecursion (IsOf c answer) (body_uses p known answer c body)
  unfolding body_uses
  body_of (tree.Expr e) answer c = ((here c, λ is. refl), tt)
  body_of (tree.Stmts ss) answer c = stmts_of (to_stmts ss) answer c
