-- What bodies answer rises with what is known, and so what is known within a number is found by itself.
use Rattle.std.proofs.Common.{◌≡◌, ℕ, zero, suc, ◌+◌, true, false, List, [], ◌∷◌, ◌++◌, Option, Some, None, refl, sym, ap, ◌∙◌, subst}
use Rattle.std.specs.List.{AllZip, cons_option, filter_map}
use Rattle.std.specs.Option.{option_and_then}
use Rattle.dscript_ast.specs.ExprTree.{ParamTree}
use Rattle.dscript_ast.specs.TypeTree.{TypeTree}
use Rattle.dscript_program.specs.BoundTree as tree
use Rattle.dscript_program.specs.BoundTree.{ExprData, StmtData, MaybeStmt, StmtRow, BodyData, no_stmt, a_stmt, no_stmts}
use Rattle.dscript_program.specs.BoundTree.{more_stmts, to_stmts}
use Rattle.dscript_program.specs.ProgramData as declared
use Rattle.dscript_program.specs.ProgramData.{DeclData, FunctionData, KindData, ProgramData}
use Rattle.dscript_types_meaning.specs.Sizes.{within_limit}
use Rattle.dscript_types_meaning.specs.Unions.{join_all}
use Rattle.dscript_types_meaning.specs.Narrowing.{narrowed}
use Rattle.dscript_types_meaning.specs.Contexts.{Answer, Ask, Callback, Constant, Context, Fixed, Known, Meaning, Variable, bare}
use Rattle.dscript_types_meaning.specs.Lookups.{decl_at, function_at}
use Rattle.dscript_types_meaning.specs.Expressions.{expr_type}
use Rattle.dscript_types_meaning.specs.Functions.{context_of, declared_locals, function_context}
use Rattle.dscript_types_meaning.specs.Bodies.{Spot, Alone, Assigned, Declared, Looped, Returned, Use, after_stmt, all_types}
use Rattle.dscript_types_meaning.specs.Bodies.{annotated, answered, body_uses, else_uses, hold_in_loop, if_ends, if_returned, inferred}
use Rattle.dscript_types_meaning.specs.Bodies.{item_of_list, may_end, returned_at, stmt_uses, stmts_uses, type_in_loop, type_of_value}
use Rattle.dscript_types_meaning.specs.Bodies.{type_without_value}
use Rattle.dscript_types_meaning.specs.Typed.{answer_of_callback, answer_of_decl, answer_of_function, constant_of_decl}
use Rattle.dscript_types_meaning.specs.Typed.{constant_of_kind, found, known_within, meaning_of_decl, number_of}
use Rattle.dscript_types_laws.specs.Invariants.{IsStable}
use Rattle.dscript_types_laws.proofs.Rising.{AskBelow, Below, ContextBelow, KnownBelow, LocalBelow, and_below, ask_itself, bare_below}
use Rattle.dscript_types_laws.proofs.Rising.{below_itself, context_itself, map_below, same_place, with_below}
use Rattle.dscript_types_laws.proofs.RisingForms.{expr_below}
use Rattle.dscript_types_laws.proofs.RisingNotes.{declared_below, meant_below, narrowed_below, noted_below, parameter_below}

-- ## Expressions that stand in bodies

abbrev pub UseBelow : Use → Use → Type 0
UseBelow u v = (u.expr ≡ v.expr) × (u.spot ≡ v.spot) × ContextBelow u.context v.context

uses_append
    : (a b c d : List Use) → AllZip UseBelow a b → AllZip UseBelow c d → AllZip UseBelow (a ++ c) (b ++ d)
uses_append [] [] c d p q = q
uses_append [] (y ∷ b) c d p q = absurd p
uses_append (x ∷ a) [] c d p q = absurd p
uses_append (x ∷ a) (y ∷ b) c d p q = (p.0, uses_append a b c d p.1 q)

spot_case
    : (u v : Use) (us vs : List Use) (spot : Spot) → UseBelow u v → u.spot ≡ spot
    → AllZip UseBelow (filter_map if_returned us) (filter_map if_returned vs)
    → AllZip UseBelow (cons_option (returned_at u spot) (filter_map if_returned us))
    (cons_option (returned_at v spot) (filter_map if_returned vs))
spot_case u v us vs Alone below is rest = rest
spot_case u v us vs (Declared note) below is rest = rest
spot_case u v us vs (Assigned n) below is rest = rest
spot_case u v us vs Looped below is rest = rest
spot_case u v us vs (Returned note) below is rest = (below, rest)

returned_below
    : (us vs : List Use) → AllZip UseBelow us vs → AllZip UseBelow (filter_map if_returned us) (filter_map if_returned vs)
returned_below [] [] zip = tt
returned_below [] (v ∷ vs) zip = absurd zip
returned_below (u ∷ us) [] zip = absurd zip
returned_below (u ∷ us) (v ∷ vs) zip =
    subst (λ spot. AllZip UseBelow (cons_option (returned_at u u.spot) (filter_map if_returned us))
    (cons_option (returned_at v spot) (filter_map if_returned vs))) zip.0.1
    (spot_case u v us vs u.spot zip.0 refl (returned_below us vs zip.1))

module _ (p : ProgramData) (k l : Known) (knows : KnownBelow k l) where
  value_below
      : (c d : Context) (e : ExprData) (note : Option TypeTree) → ContextBelow c d
      → Below (type_of_value p k c e note) (type_of_value p l d e note)
  value_below c d e None below = bare_below _ _ (expr_below p k l knows e c d below)
  value_below c d e (Some t) below = meant_below p k l knows c d (same_place below) t

  without_below
      : (c d : Context) (note : Option TypeTree) → ContextBelow c d
      → Below (type_without_value p k c note) (type_without_value p l d note)
  without_below c d None below = below_itself _
  without_below c d (Some t) below = noted_below p k l knows c d (same_place below) true t

  loop_below
      : (c d : Context) (list : ExprData) → ContextBelow c d → Below (type_in_loop p k c list) (type_in_loop p l d list)
  loop_below c d list below =
      and_below _ _ item_of_list item_of_list (bare_below _ _ (expr_below p k l knows list c d below)) (λ t. below_itself (item_of_list t))

  pub after_stmt_below
      : (c d : Context) (s : StmtData) → ContextBelow c d → ContextBelow (after_stmt p k c s) (after_stmt p l d s)
  unfolding after_stmt
  after_stmt_below c d (tree.Const n note e) below = with_below c d n _ _ Fixed below (value_below c d e note below)
  after_stmt_below c d (tree.Let n note None) below = with_below c d n _ _ Variable below (without_below c d note below)
  after_stmt_below c d (tree.Let n note (Some e)) below = with_below c d n _ _ Variable below (value_below c d e note below)
  after_stmt_below c d (tree.Assign n e) below = below
  after_stmt_below c d (tree.If x s other) below = below
  after_stmt_below c d (tree.For kind n list s) below = below
  after_stmt_below c d (tree.Return e) below = below
  after_stmt_below c d (tree.Value e) below = below
  after_stmt_below c d (tree.Block ss) below = below
  after_stmt_below c d tree.Empty below = below

  mutual
    unfolding stmt_uses else_uses stmts_uses

    pub stmt_below
        : (s : StmtData) (answer : Option TypeTree) (c d : Context) → ContextBelow c d
        → AllZip UseBelow (stmt_uses p k answer c s) (stmt_uses p l answer d s)
    stmt_below (tree.Const n note e) answer c d below = ((refl, refl, below), tt)
    stmt_below (tree.Let n note None) answer c d below = tt
    stmt_below (tree.Let n note (Some e)) answer c d below = ((refl, refl, below), tt)
    stmt_below (tree.Assign n e) answer c d below = ((refl, refl, below), tt)
    stmt_below (tree.If x s other) answer c d below = (
      (refl, refl, below),
      uses_append _ _ _ _
          (stmt_below s answer (narrowed true x c) (narrowed true x d) (narrowed_below c d true x below))
          (else_below other answer (narrowed false x c) (narrowed false x d) (narrowed_below c d false x below)),
    )
    stmt_below (tree.For kind n list s) answer c d below = (
      (refl, refl, below),
      stmt_below s answer _ _ (with_below c d n _ _ (hold_in_loop kind) below (loop_below c d list below)),
    )
    stmt_below (tree.Return None) answer c d below = tt
    stmt_below (tree.Return (Some e)) answer c d below = ((refl, refl, below), tt)
    stmt_below (tree.Value e) answer c d below = ((refl, refl, below), tt)
    stmt_below (tree.Block ss) answer c d below = stmts_below ss answer c d below
    stmt_below tree.Empty answer c d below = tt

    else_below
        : (other : MaybeStmt) (answer : Option TypeTree) (c d : Context) → ContextBelow c d
        → AllZip UseBelow (else_uses p k answer c other) (else_uses p l answer d other)
    else_below no_stmt answer c d below = tt
    else_below (a_stmt s) answer c d below = stmt_below s answer c d below

    stmts_below
        : (ss : StmtRow) (answer : Option TypeTree) (c d : Context) → ContextBelow c d
        → AllZip UseBelow (stmts_uses p k answer c ss) (stmts_uses p l answer d ss)
    stmts_below no_stmts answer c d below = tt
    stmts_below (more_stmts s more) answer c d below =
        uses_append _ _ _ _ (stmt_below s answer c d below)
        (stmts_below more answer (after_stmt p k c s) (after_stmt p l d s) (after_stmt_below c d s below))

  pub body_below
      : (body : BodyData) (answer : Option TypeTree) (c d : Context) → ContextBelow c d
      → AllZip UseBelow (body_uses p k answer c body) (body_uses p l answer d body)
  unfolding body_uses
  body_below (tree.Expr e) answer c d below = ((refl, refl, below), tt)
  body_below (tree.Stmts ss) answer c d below = stmts_below (to_stmts ss) answer c d below

  -- ## Answers

  use_case
      : (u v : Use) → UseBelow u v
      → Below (bare (expr_type p k u.context u.expr)) (bare (expr_type p l v.context v.expr))
  use_case u v below =
      subst (λ e. Below (bare (expr_type p k u.context u.expr)) (bare (expr_type p l v.context e))) below.0
      (bare_below _ _ (expr_below p k l knows u.expr u.context v.context below.2))

  types_below
      : (us vs : List Use) → AllZip UseBelow us vs → Below (all_types p k us) (all_types p l vs)
  types_below [] [] zip = below_itself (Some [])
  types_below [] (v ∷ vs) zip = absurd zip
  types_below (u ∷ us) [] zip = absurd zip
  types_below (u ∷ us) (v ∷ vs) zip =
      and_below _ _ _ _ (use_case u v zip.0) (λ t. map_below _ _ (λ ts. t ∷ ts) (types_below us vs zip.1))

  inferred_below
      : (body : BodyData) (c d : Context) → ContextBelow c d → Below (inferred p k c body) (inferred p l d body)
  unfolding inferred
  inferred_below body c d below =
      and_below _ _ _ _ (types_below _ _ (returned_below _ _ (body_below body None c d below)))
      (λ ts. below_itself (within_limit (join_all (if_ends (may_end body) ++ ts))))

  answered_below
      : (body : BodyData) (note : Option TypeTree) (c d : Context) → ContextBelow c d
      → Below (answered p k c body note) (answered p l d body note)
  answered_below body None c d below = inferred_below body c d below
  answered_below body (Some t) c d below =
      and_below _ _ _ _ (meant_below p k l knows c d (same_place below) t) (λ u. below_itself (annotated body u))

  -- ## What is found

  params_below
      : (c : Context) (n : ℕ) (params : List ParamTree)
      → AllZip LocalBelow (declared_locals p k c n params) (declared_locals p l c n params)
  params_below c n [] = tt
  params_below c n (param ∷ more) =
      ((refl, refl, parameter_below p k l knows c c (same_place (context_itself c)) param), params_below c (n + 1) more)

  function_context_below
      : (file : ℕ) (d : DeclData) (ts : List (List ℕ)) (f : FunctionData)
      → ContextBelow (function_context p k file d ts f) (function_context p l file d ts f)
  function_context_below file d ts f = record {
    file = refl;
    around = refl;
    parameters = refl;
    locals = params_below (context_of file d ts) f.first_local f.params;
  }

  meaning_below : (file : ℕ) (o : Option DeclData) → Below (meaning_of_decl p k file o) (meaning_of_decl p l file o)
  meaning_below file None = below_itself None
  meaning_below file (Some d) =
      declared_below p k l knows (context_of file d []) (context_of file d []) (same_place (context_itself (context_of file d []))) d.kind

  constant_kind_below
      : (file : ℕ) (d : DeclData) (kind : KindData)
      → Below (constant_of_kind p k file d kind) (constant_of_kind p l file d kind)
  constant_kind_below file d (declared.Const note e) =
      value_below (context_of file d []) (context_of file d []) e note (context_itself (context_of file d []))
  constant_kind_below file d (declared.Function ts note number) = below_itself None
  constant_kind_below file d (declared.Interface ts es ms) = below_itself None
  constant_kind_below file d (declared.TypeAlias ts t) = below_itself None

  constant_below : (file : ℕ) (o : Option DeclData) → Below (constant_of_decl p k file o) (constant_of_decl p l file o)
  constant_below file None = below_itself None
  constant_below file (Some d) = constant_kind_below file d d.kind

  function_answer_below
      : (file : ℕ) (d : DeclData) (kind : KindData) (f : Option FunctionData)
      → Below (answer_of_function p k file d kind f) (answer_of_function p l file d kind f)
  function_answer_below file d (declared.Function ts note number) (Some f) =
      answered_below f.body note _ _ (function_context_below file d ts f)
  function_answer_below file d (declared.Function ts note number) None = below_itself None
  function_answer_below file d (declared.Const note e) f = below_itself None
  function_answer_below file d (declared.Interface ts es ms) f = below_itself None
  function_answer_below file d (declared.TypeAlias ts t) f = below_itself None

  answer_below : (file : ℕ) (o : Option DeclData) → Below (answer_of_decl p k file o) (answer_of_decl p l file o)
  answer_below file None = below_itself None
  answer_below file (Some d) = function_answer_below file d d.kind (option_and_then (function_at p) (number_of d.kind))

  callback_answer_below
      : (c d : Context) (f : Option FunctionData) → ContextBelow c d
      → Below (answer_of_callback p k c f) (answer_of_callback p l d f)
  callback_answer_below c d None below = below_itself None
  callback_answer_below c d (Some f) below = inferred_below f.body c d below

  pub found_below : (a b : Ask) → AskBelow a b → Below (found p k a) (found p l b)
  found_below (Meaning file decl) b below t e =
      ap (found p l) below ∙ meaning_below file (decl_at p file decl) t e
  found_below (Constant file decl) b below t e =
      ap (found p l) below ∙ constant_below file (decl_at p file decl) t e
  found_below (Answer file decl) b below t e = ap (found p l) below ∙ answer_below file (decl_at p file decl) t e
  found_below (Callback number c) (Callback other d) below t e =
      ap (λ n. answer_of_callback p l d (function_at p n)) (sym below.0)
      ∙ callback_answer_below c d (function_at p number) below.1 t e
  found_below (Callback number c) (Meaning file decl) below t e = absurd below
  found_below (Callback number c) (Constant file decl) below t e = absurd below
  found_below (Callback number c) (Answer file decl) below t e = absurd below

-- ## Numbers

-- what is known within a number is known within one more
pub one_more : (p : ProgramData) (n : ℕ) → KnownBelow (known_within p n) (known_within p (suc n))
unfolding known_within
one_more p zero a b below t e = absurd cc
one_more p (suc n) a b below t e = found_below p (known_within p n) (known_within p (suc n)) (one_more p n) a b below t e

-- and so it is found where it is known
pub stable : (p : ProgramData) (n : ℕ) → IsStable p (known_within p n)
unfolding known_within
stable p n ask t e = one_more p n ask ask (ask_itself ask) t e
