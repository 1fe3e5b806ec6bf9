-- The locals of each function in a tree are numbered in one run.
use Rattle.std.proofs.Common.{◌≡◌, ℕ, zero, suc, List, [], ◌∷◌, ◌++◌, drop, Option, Some, None, refl, sym, ◌∙◌, ap}
use Rattle.std.specs.List.{AllByRecursion}
use Rattle.dscript_ast.specs.ExprTree as tree
use Rattle.dscript_ast.specs.ExprTree.{HeadTree, ExprTree, OperandTree, PartTree, ElementTree, PropTree, HoleTree, StmtTree, MaybeExpr, MaybeStmt, ExprTrees, OperandTrees, PartTrees, ElementTrees, PropTrees, HoleTrees, StmtTrees}
use Rattle.dscript_program.specs.BoundTree as bound
use Rattle.dscript_program.specs.BoundTree.{ExprData, OperandData, PartData, ElementData, PropData, HoleData, StmtData, MaybeStmt as MaybeBound, BodyData, to_elements, to_exprs, to_holes, to_operands, to_parts, to_props, to_stmts}
use Rattle.dscript_program.specs.Numbering.{Taker, Declares, Holds, takers_of, operands_takers, part_takers, parts_takers, exprs_takers, elements_takers, prop_takers, props_takers, holes_takers, stmt_takers, maybe_takers, else_takers, stmts_takers, body_takers}
use Rattle.dscript_names_scopes.specs.Names.{World}
use Rattle.dscript_names_scopes.specs.declared.local.Local.{Local}
use Rattle.dscript_names_scopes.specs.Lookup.{Site}
use Rattle.dscript_names_binding.specs.Walk.{Binds, ◌>>=◌, gives, in_turn, declare, within}
use Rattle.dscript_names_scopes.specs.Blocks.{block_locals, stmt_locals}
use Rattle.dscript_names_binding.specs.Binding.{bind_expr, bind_exprs, bind_operand, bind_operands, bind_part, bind_parts, bind_element, bind_elements, bind_prop, bind_props, bind_hole, bind_holes, bind_stmt, bind_maybe, bind_else, bind_stmts, arrow, postfix, with_parts, loop_local, params_of}
use Rattle.dscript_names.proofs.Numbered.{Numbers, step, done, IsBody, next_numbers, declare_numbers, name_numbers, assigns_numbers, within_numbers, function_numbers}
use Rattle.dscript_ast.specs.Literals.{name_of}

-- ## Lists of takers

abbrev Takers : Type 0
Takers = List Taker

nil_right : (xs : Takers) → xs ++ [] ≡ xs
nil_right [] = refl
nil_right (x ∷ xs) = ap (λ ys. x ∷ ys) (nil_right xs)

assoc : (xs ys zs : Takers) → (xs ++ ys) ++ zs ≡ xs ++ (ys ++ zs)
assoc [] ys zs = refl
assoc (x ∷ xs) ys zs = ap (λ us. x ∷ us) (assoc xs ys zs)

one : (a ts : Takers) → a ≡ ts → a ≡ ts ++ []
one a ts h = h ∙ sym (nil_right ts)

two : (a b ts us : Takers) → a ≡ ts → b ≡ us → a ++ b ≡ ts ++ (us ++ [])
two a b ts us h g = ap (λ xs. xs ++ b) h ∙ ap (λ xs. ts ++ xs) (one b us g)

three : (a b c ts us vs : Takers) → a ≡ ts → b ≡ us → c ≡ vs → (a ++ b) ++ c ≡ ts ++ (us ++ (vs ++ []))
three a b c ts us vs h g k = assoc a b c ∙ ap (λ xs. xs ++ (b ++ c)) h ∙ ap (λ xs. ts ++ xs)
    (two b c us vs g k)

-- no takers before, or after
after_none : (a ts us : Takers) → ts ≡ [] → a ≡ us → a ≡ ts ++ (us ++ [])
after_none a ts us h g = one a us g ∙ ap (λ xs. xs ++ (us ++ [])) (sym h)

before_none : (a b ts us vs : Takers) → a ≡ ts → b ≡ us → vs ≡ [] → a ++ b ≡ ts ++ (us ++ (vs ++ []))
before_none a b ts us vs h g k = two a b ts us h g ∙ ap (λ xs. ts ++ (us ++ (xs ++ []))) (sym k)

-- ## Relations

abbrev operand_takers : OperandData → Takers
operand_takers (bound.Operand op e) = takers_of e

abbrev element_takers : ElementData → Takers
element_takers (bound.Element spread e) = takers_of e

abbrev hole_takers : HoleData → Takers
hole_takers (bound.Hole e text) = takers_of e

abbrev pub IsExpr : ExprData → Takers → Type 0
IsExpr b ts = takers_of b ≡ ts

abbrev IsOperand : OperandData → Takers → Type 0
IsOperand b ts = operand_takers b ≡ ts

abbrev IsPart : PartData → Takers → Type 0
IsPart b ts = part_takers b ≡ ts

abbrev IsElement : ElementData → Takers → Type 0
IsElement b ts = element_takers b ≡ ts

abbrev IsProp : PropData → Takers → Type 0
IsProp b ts = prop_takers b ≡ ts

abbrev IsHole : HoleData → Takers → Type 0
IsHole b ts = hole_takers b ≡ ts

abbrev pub IsStmt : StmtData → Takers → Type 0
IsStmt b ts = stmt_takers b ≡ ts

abbrev IsMaybe : Option ExprData → Takers → Type 0
IsMaybe b ts = maybe_takers b ≡ ts

abbrev IsElse : MaybeBound → Takers → Type 0
IsElse b ts = else_takers b ≡ ts

abbrev IsExprs : List ExprData → Takers → Type 0
IsExprs b ts = exprs_takers (to_exprs b) ≡ ts

abbrev IsOperands : List OperandData → Takers → Type 0
IsOperands b ts = operands_takers (to_operands b) ≡ ts

abbrev IsParts : List PartData → Takers → Type 0
IsParts b ts = parts_takers (to_parts b) ≡ ts

abbrev IsElements : List ElementData → Takers → Type 0
IsElements b ts = elements_takers (to_elements b) ≡ ts

abbrev IsProps : List PropData → Takers → Type 0
IsProps b ts = props_takers (to_props b) ≡ ts

abbrev IsHoles : List HoleData → Takers → Type 0
IsHoles b ts = holes_takers (to_holes b) ≡ ts

abbrev IsStmts : List StmtData → Takers → Type 0
IsStmts b ts = stmts_takers (to_stmts b) ≡ ts

abbrev IsBodyOf : List StmtData → Takers → Type 0
IsBodyOf b ts = body_takers (bound.Stmts b) ≡ ts

-- ## Lists of parts

-- one after the other
turns : {A : Type 0} (R : A → Takers → Type 0) (S : List A → Takers → Type 0) → S [] []
    → ((x : A) (xs : List A) (ts us : Takers) → R x ts → S xs us → S (x ∷ xs) (ts ++ (us ++ [])))
    → (ms : List (Binds A)) → AllByRecursion (Numbers R) ms → Numbers S (in_turn ms)
turns R S none more [] h = done none
turns R S none more (m ∷ ms) h =
    step h.0 (λ x ts ex. step (turns R S none more ms h.1) (λ xs us exs. done (more x xs ts us ex exs)))

exprs_turn : (ms : List (Binds ExprData)) → AllByRecursion (Numbers IsExpr) ms → Numbers IsExprs (in_turn ms)
unfolding takers_of
exprs_turn ms h = turns IsExpr IsExprs refl (λ x xs ts us ex exs.
    two (takers_of x) (exprs_takers (to_exprs xs)) ts us ex exs) ms h

operand_first : (x : OperandData) (xs : List OperandData) (ts us : Takers) → IsOperand x ts → IsOperands xs us
    → IsOperands (x ∷ xs) (ts ++ (us ++ []))
unfolding takers_of
operand_first (bound.Operand op e) xs ts us ex exs =
    two (takers_of e) (operands_takers (to_operands xs)) ts us ex exs

operands_turn : (ms : List (Binds OperandData)) → AllByRecursion (Numbers IsOperand) ms
    → Numbers IsOperands (in_turn ms)
unfolding takers_of
operands_turn ms h = turns IsOperand IsOperands refl operand_first ms h

parts_turn : (ms : List (Binds PartData)) → AllByRecursion (Numbers IsPart) ms → Numbers IsParts (in_turn ms)
unfolding takers_of
parts_turn ms h = turns IsPart IsParts refl (λ x xs ts us ex exs.
    two (part_takers x) (parts_takers (to_parts xs)) ts us ex exs) ms h

element_first : (x : ElementData) (xs : List ElementData) (ts us : Takers) → IsElement x ts → IsElements xs us
    → IsElements (x ∷ xs) (ts ++ (us ++ []))
unfolding takers_of
element_first (bound.Element spread e) xs ts us ex exs =
    two (takers_of e) (elements_takers (to_elements xs)) ts us ex exs

elements_turn : (ms : List (Binds ElementData)) → AllByRecursion (Numbers IsElement) ms
    → Numbers IsElements (in_turn ms)
unfolding takers_of
elements_turn ms h = turns IsElement IsElements refl element_first ms h

props_turn : (ms : List (Binds PropData)) → AllByRecursion (Numbers IsProp) ms → Numbers IsProps (in_turn ms)
unfolding takers_of
props_turn ms h = turns IsProp IsProps refl (λ x xs ts us ex exs.
    two (prop_takers x) (props_takers (to_props xs)) ts us ex exs) ms h

hole_first : (x : HoleData) (xs : List HoleData) (ts us : Takers) → IsHole x ts → IsHoles xs us
    → IsHoles (x ∷ xs) (ts ++ (us ++ []))
unfolding takers_of
hole_first (bound.Hole e text) xs ts us ex exs =
    two (takers_of e) (holes_takers (to_holes xs)) ts us ex exs

holes_turn : (ms : List (Binds HoleData)) → AllByRecursion (Numbers IsHole) ms → Numbers IsHoles (in_turn ms)
unfolding takers_of
holes_turn ms h = turns IsHole IsHoles refl hole_first ms h

stmts_turn : (ms : List (Binds StmtData)) → AllByRecursion (Numbers IsStmt) ms → Numbers IsStmts (in_turn ms)
unfolding takers_of stmt_takers
stmts_turn ms h = turns IsStmt IsStmts refl (λ x xs ts us ex exs.
    two (stmt_takers x) (stmts_takers (to_stmts xs)) ts us ex exs) ms h

body_turn : (ms : List (Binds StmtData)) → AllByRecursion (Numbers IsStmt) ms → Numbers IsBodyOf (in_turn ms)
unfolding takers_of stmt_takers body_takers
body_turn ms h = turns IsStmt IsBodyOf refl (λ x xs ts us ex exs.
    two (stmt_takers x) (body_takers (bound.Stmts xs)) ts us ex exs) ms h

all_drop : {X : Type 0} (P : X → Type 0) (n : ℕ) (xs : List X) → AllByRecursion P xs → AllByRecursion P
    (drop n xs)
all_drop P zero xs h = h
all_drop P (suc n) [] h = h
all_drop P (suc n) (x ∷ xs) h = all_drop P n xs h.1

parts_takers_of : (e : ExprData) (ps : List PartData) → takers_of (with_parts e ps)
    ≡ takers_of e ++ parts_takers (to_parts ps)
unfolding takers_of
parts_takers_of e [] = sym (nil_right (takers_of e))
parts_takers_of e (p ∷ ps) = refl

postfix_numbers : (world : World) (site : Site) (name : Option (List ℕ)) (e : Binds ExprData)
    (parts : PartTrees) (ms : List (Binds PartData))
    → Numbers IsExpr e → AllByRecursion (Numbers IsPart) ms → Numbers IsExpr
    (postfix world site name e parts ms)
unfolding takers_of
postfix_numbers world site (Some x) e parts ms he hs =
    step (name_numbers world site x parts) (λ f ts ef.
    step (parts_turn (drop f.parts ms) (all_drop (Numbers IsPart) f.parts ms hs)) (λ ps us eps.
    done (parts_takers_of (bound.Name f.target) ps ∙ after_none (parts_takers (to_parts ps)) ts us ef eps)))
postfix_numbers world site None e parts ms he hs =
    step he (λ b ts eb. step (parts_turn ms hs) (λ ps us eps.
    done (parts_takers_of b ps ∙ two (takers_of b) (parts_takers (to_parts ps)) ts us eb eps)))

pub body_numbers : (ms : List (Binds StmtData)) → AllByRecursion (Numbers IsStmt) ms
    → Numbers IsBody (in_turn ms >>= λ bs. gives (bound.Stmts bs))
body_numbers ms h = step (body_turn ms h) (λ bs ts e. done (one (body_takers (bound.Stmts bs)) ts e))

-- ## Expressions and statements

module _ (world : World) (site : Site) where
  arrow_numbers : (head : HeadTree) (locals : List Local) (body : Binds BodyData)
      → Numbers IsBody body → Numbers IsExpr (arrow world site head locals body)
  unfolding takers_of
  arrow_numbers head locals body h =
      step (function_numbers site.number (params_of head) locals body h) (λ n ts e. done (one (Holds n
      ∷ []) ts (sym e)))

  mutual
    unfolding bind_expr takers_of stmt_takers body_takers

    pub expr_numbers : (e : ExprTree) → Numbers IsExpr (bind_expr world site e)
    expr_numbers (tree.Arrow head e) =
        arrow_numbers head [] _ (step (expr_numbers e) (λ b ts eb. done (one (takers_of b) ts eb)))
    expr_numbers (tree.BlockArrow head ss) =
        arrow_numbers head (block_locals ss) _ (body_numbers _ (stmts_numbers ss))
    expr_numbers (tree.Cond c a b) =
        step (expr_numbers c) (λ x ts ex. step (expr_numbers a) (λ y us ey. step (expr_numbers b)
        (λ z vs ez.
        done (three (takers_of x) (takers_of y) (takers_of z) ts us vs ex ey ez))))
    expr_numbers (tree.Chain level e more) =
        step (expr_numbers e) (λ x ts ex. step (operands_turn _ (operands_numbers more)) (λ xs us exs.
        done (two (takers_of x) (operands_takers (to_operands xs)) ts us ex exs)))
    expr_numbers (tree.Unary ops e) = step (expr_numbers e) (λ x ts ex. done (one (takers_of x) ts ex))
    expr_numbers (tree.Postfix e parts) = postfix_numbers world site (name_of e) _ parts _
        (expr_numbers e) (parts_numbers parts)
    expr_numbers (tree.Number n) = done refl
    expr_numbers (tree.Str s) = done refl
    expr_numbers tree.True = done refl
    expr_numbers tree.False = done refl
    expr_numbers tree.Undefined = done refl
    expr_numbers (tree.Template text holes) =
        step (holes_turn _ (holes_numbers holes)) (λ xs ts ex. done (one (holes_takers (to_holes xs)) ts ex))
    expr_numbers (tree.Path kind text holes) =
        step (holes_turn _ (holes_numbers holes)) (λ xs ts ex. done (one (holes_takers (to_holes xs)) ts ex))
    expr_numbers (tree.Name x) = step (name_numbers world site x tree.no_parts) (λ f ts e. done (one [] ts
        (sym e)))
    expr_numbers (tree.Elements es) =
        step (elements_turn _ (elements_numbers es)) (λ xs ts ex.
        done (one (elements_takers (to_elements xs)) ts ex))
    expr_numbers (tree.Object ps) =
        step (props_turn _ (props_numbers ps)) (λ xs ts ex. done (one (props_takers (to_props xs)) ts ex))

    exprs_numbers : (es : ExprTrees) → AllByRecursion (Numbers IsExpr) (bind_exprs world site es)
    exprs_numbers tree.no_exprs = tt
    exprs_numbers (tree.more_exprs e more) = (expr_numbers e, exprs_numbers more)

    operand_numbers : (o : OperandTree) → Numbers IsOperand (bind_operand world site o)
    operand_numbers (tree.Operand op e) = step (expr_numbers e) (λ x ts ex. done (one (takers_of x) ts ex))

    operands_numbers : (os : OperandTrees) → AllByRecursion (Numbers IsOperand) (bind_operands world site os)
    operands_numbers tree.no_operands = tt
    operands_numbers (tree.more_operands o more) = (operand_numbers o, operands_numbers more)

    part_numbers : (p : PartTree) → Numbers IsPart (bind_part world site p)
    part_numbers (tree.Member x) = done refl
    part_numbers (tree.Index e) = step (expr_numbers e) (λ x ts ex. done (one (takers_of x) ts ex))
    part_numbers (tree.Call es) =
        step (exprs_turn _ (exprs_numbers es)) (λ xs ts ex. done (one (exprs_takers (to_exprs xs)) ts ex))

    parts_numbers : (ps : PartTrees) → AllByRecursion (Numbers IsPart) (bind_parts world site ps)
    parts_numbers tree.no_parts = tt
    parts_numbers (tree.more_parts p ps) = (part_numbers p, parts_numbers ps)

    element_numbers : (e : ElementTree) → Numbers IsElement (bind_element world site e)
    element_numbers (tree.Element spread e) =
        step (expr_numbers e) (λ x ts ex. done (one (takers_of x) ts ex))

    elements_numbers : (es : ElementTrees) → AllByRecursion (Numbers IsElement) (bind_elements world site es)
    elements_numbers tree.no_elements = tt
    elements_numbers (tree.more_elements e more) = (element_numbers e, elements_numbers more)

    prop_numbers : (p : PropTree) → Numbers IsProp (bind_prop world site p)
    prop_numbers (tree.Named x e) = step (expr_numbers e) (λ b ts eb. done (one (takers_of b) ts eb))
    prop_numbers (tree.Quoted s e) = step (expr_numbers e) (λ b ts eb. done (one (takers_of b) ts eb))
    prop_numbers (tree.Short x) = step (name_numbers world site x tree.no_parts) (λ f ts e. done
        (one [] ts (sym e)))
    prop_numbers (tree.Spread e) = step (expr_numbers e) (λ b ts eb. done (one (takers_of b) ts eb))

    props_numbers : (ps : PropTrees) → AllByRecursion (Numbers IsProp) (bind_props world site ps)
    props_numbers tree.no_props = tt
    props_numbers (tree.more_props p more) = (prop_numbers p, props_numbers more)

    hole_numbers : (h : HoleTree) → Numbers IsHole (bind_hole world site h)
    hole_numbers (tree.Hole e text) = step (expr_numbers e) (λ x ts ex. done (one (takers_of x) ts ex))

    holes_numbers : (hs : HoleTrees) → AllByRecursion (Numbers IsHole) (bind_holes world site hs)
    holes_numbers tree.no_holes = tt
    holes_numbers (tree.more_holes h more) = (hole_numbers h, holes_numbers more)

    stmt_numbers : (s : StmtTree) → Numbers IsStmt (bind_stmt world site s)
    stmt_numbers (tree.Const x t e) =
        step {next = λ n. bind_expr world site e >>= λ b. declare x n >>= λ m. gives
        (bound.Const n t b)} next_numbers (λ n ts en.
        step {next = λ b. declare x n >>= λ m. gives (bound.Const n t b)} (expr_numbers e) (λ b us eb.
        step {next = λ m. gives (bound.Const n t b)} (declare_numbers x n) (λ m vs em.
        done (before_none (Declares n ∷ []) (takers_of b) ts us vs (sym en) eb em))))
    stmt_numbers (tree.Let x t e) =
        step {next = λ n. bind_maybe world site e >>= λ b. declare x n >>= λ m. gives
        (bound.Let n t b)} next_numbers (λ n ts en.
        step {next = λ b. declare x n >>= λ m. gives (bound.Let n t b)} (maybe_numbers e) (λ b us eb.
        step {next = λ m. gives (bound.Let n t b)} (declare_numbers x n) (λ m vs em.
        done (before_none (Declares n ∷ []) (maybe_takers b) ts us vs (sym en) eb em))))
    stmt_numbers (tree.Assign x e) =
        step (assigns_numbers x) (λ n ts en. step (expr_numbers e) (λ b us eb.
        done (after_none (takers_of b) ts us en eb)))
    stmt_numbers (tree.If c s other) =
        step (expr_numbers c) (λ x ts ex. step (within_numbers (stmt_locals s) (stmt_numbers s)) (λ y us ey.
        step (else_numbers other) (λ z vs ez.
        done (three (takers_of x) (stmt_takers y) (else_takers z) ts us vs ex ey ez))))
    stmt_numbers (tree.For kind x list s) =
        step {next = λ n. bind_expr world site list >>= λ l. within (loop_local kind x n) (within
        (stmt_locals s) (bind_stmt world site s)) >>= λ b. gives (bound.For kind n l b)} next_numbers
        (λ n ts en. step (expr_numbers list) (λ l us el.
        step (within_numbers (loop_local kind x n) (within_numbers (stmt_locals s) (stmt_numbers s)))
        (λ b vs eb.
        done (three (Declares n ∷ []) (takers_of l) (stmt_takers b) ts us vs (sym en) el eb))))
    stmt_numbers (tree.Return e) = step (maybe_numbers e) (λ b ts eb. done (one (maybe_takers b) ts eb))
    stmt_numbers (tree.Value e) = step (expr_numbers e) (λ b ts eb. done (one (takers_of b) ts eb))
    stmt_numbers (tree.Block ss) =
        step (within_numbers (block_locals ss) (stmts_turn _ (stmts_numbers ss))) (λ bs ts eb.
        done (one (stmts_takers (to_stmts bs)) ts eb))
    stmt_numbers tree.Empty = done refl

    maybe_numbers : (e : MaybeExpr) → Numbers IsMaybe (bind_maybe world site e)
    maybe_numbers tree.no_expr = done refl
    maybe_numbers (tree.an_expr e) = step (expr_numbers e) (λ b ts eb. done (one (takers_of b) ts eb))

    else_numbers : (s : MaybeStmt) → Numbers IsElse (bind_else world site s)
    else_numbers tree.no_stmt = done refl
    else_numbers (tree.a_stmt s) =
        step (within_numbers (stmt_locals s) (stmt_numbers s)) (λ b ts eb. done (one (stmt_takers b) ts eb))

    pub stmts_numbers : (ss : StmtTrees) → AllByRecursion (Numbers IsStmt) (bind_stmts world site ss)
    stmts_numbers tree.no_stmts = tt
    stmts_numbers (tree.more_stmts s ss) = (stmt_numbers s, stmts_numbers ss)
