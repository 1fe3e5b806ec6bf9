-- What a walk through an expression or a statement resolves is there.
use Rattle.std.proofs.Common.{◌≡◌, ℕ, zero, suc, ◌+◌, ◌<◌, ◌≤◌, List, [], ◌∷◌, ◌++◌, drop, length, Option, Some, None, refl, sym, ◌∙◌, ap, inr, arith}
use Rattle.std.specs.Prelude.{slice_get}
use Rattle.std.specs.List.{AllByRecursion}
use Rattle.dscript_ast.specs.ExprTree as tree
use Rattle.dscript_ast.specs.ExprTree.{HeadTree, ExprTree, OperandTree, PartTree, ElementTree, PropTree, HoleTree, StmtTree, MaybeExpr, MaybeStmt, ExprTrees, OperandTrees, PartTrees, ElementTrees, PropTrees, HoleTrees, StmtTrees}
use Rattle.dscript_ast.specs.Literals.{name_of}
use Rattle.dscript_program.specs.BoundTree as bound
use Rattle.dscript_program.specs.BoundTree.{ExprData, OperandData, PartData, ElementData, PropData, HoleData, StmtData, MaybeStmt as MaybeBound, BodyData, to_elements, to_exprs, to_holes, to_operands, to_parts, to_props, to_stmts}
use Rattle.dscript_program.specs.ProgramData.{FunctionData}
use Rattle.dscript_names_scopes.specs.Blocks.{block_locals, stmt_locals}
use Rattle.dscript_names_scopes.specs.Lookup.{Site}
use Rattle.dscript_names_scopes.specs.Names.{World}
use Rattle.dscript_names_scopes.specs.declared.local.Local.{Local}
use Rattle.dscript_names_binding.specs.Binding.{bind_expr, bind_exprs, bind_operand, bind_operands, bind_part, bind_parts, bind_element, bind_elements, bind_prop, bind_props, bind_hole, bind_holes, bind_stmt, bind_maybe, bind_else, bind_stmts, arrow, postfix, with_parts, loop_local, params_of}
use Rattle.dscript_names_binding.specs.Walk.{Binds, Here, ◌>>=◌, gives, in_turn, declare, within}
use Rattle.dscript_names_laws.specs.Whole.{Use, Names, Sets, Makes, uses_of, operands_uses, part_uses, parts_uses, exprs_uses, elements_uses, prop_uses, props_uses, holes_uses, maybe_uses, stmt_uses, else_uses, stmts_uses, body_uses}
use Rattle.dscript_names_laws.proofs.ScopeBlocks.{block_undeclared, loop_numbered, stmt_undeclared}
use Rattle.dscript_names_laws.proofs.ScopeSteps.{IsBody, Scopes, Within, assigns_scopes, declare_scopes, done, function_scopes, name_scopes, new_scopes, step, within_scopes}
use Rattle.dscript_names_laws.proofs.Targets.{AllNumbers}

-- ## Lists of uses

abbrev Uses : Type 0
Uses = List Use

nil_right : (xs : Uses) → xs ++ [] ≡ xs
nil_right [] = refl
nil_right (x ∷ xs) = ap (λ (ys : Uses). x ∷ ys) (nil_right xs)

assoc : (xs ys zs : Uses) → (xs ++ ys) ++ zs ≡ xs ++ (ys ++ zs)
assoc [] ys zs = refl
assoc (x ∷ xs) ys zs = ap (λ (us : Uses). x ∷ us) (assoc xs ys zs)

one : (a ts : Uses) → a ≡ ts → a ≡ ts ++ []
one a ts h = h ∙ sym (nil_right ts)

two : (a b ts us : Uses) → a ≡ ts → b ≡ us → a ++ b ≡ ts ++ (us ++ [])
two a b ts us h g = ap (λ (xs : Uses). xs ++ b) h ∙ ap (λ (xs : Uses). ts ++ xs) (one b us g)

three : (a b c ts us vs : Uses) → a ≡ ts → b ≡ us → c ≡ vs → (a ++ b) ++ c ≡ ts ++ (us ++ (vs ++ []))
three a b c ts us vs h g k =
    assoc a b c ∙ ap (λ (xs : Uses). xs ++ (b ++ c)) h ∙ ap (λ (xs : Uses). ts ++ xs) (two b c us vs g k)

-- uses, and then none
before_none : (a b ts us vs : Uses) → a ≡ ts → b ≡ us → vs ≡ [] → a ++ b ≡ ts ++ (us ++ (vs ++ []))
before_none a b ts us vs h g k = two a b ts us h g ∙ ap (λ (xs : Uses). ts ++ (us ++ (xs ++ []))) (sym k)

-- ## Relations

abbrev operand_uses : OperandData → Uses
operand_uses (bound.Operand op e) = uses_of e

abbrev element_uses : ElementData → Uses
element_uses (bound.Element spread e) = uses_of e

abbrev hole_uses : HoleData → Uses
hole_uses (bound.Hole e text) = uses_of e

abbrev pub IsExpr : ExprData → Uses → Type 0
IsExpr b ts = uses_of b ≡ ts

abbrev IsOperand : OperandData → Uses → Type 0
IsOperand b ts = operand_uses b ≡ ts

abbrev IsPart : PartData → Uses → Type 0
IsPart b ts = part_uses b ≡ ts

abbrev IsElement : ElementData → Uses → Type 0
IsElement b ts = element_uses b ≡ ts

abbrev IsProp : PropData → Uses → Type 0
IsProp b ts = prop_uses b ≡ ts

abbrev IsHole : HoleData → Uses → Type 0
IsHole b ts = hole_uses b ≡ ts

abbrev pub IsStmt : StmtData → Uses → Type 0
IsStmt b ts = stmt_uses b ≡ ts

abbrev IsMaybe : Option ExprData → Uses → Type 0
IsMaybe b ts = maybe_uses b ≡ ts

abbrev IsElse : MaybeBound → Uses → Type 0
IsElse b ts = else_uses b ≡ ts

abbrev IsExprs : List ExprData → Uses → Type 0
IsExprs b ts = exprs_uses (to_exprs b) ≡ ts

abbrev IsOperands : List OperandData → Uses → Type 0
IsOperands b ts = operands_uses (to_operands b) ≡ ts

abbrev IsParts : List PartData → Uses → Type 0
IsParts b ts = parts_uses (to_parts b) ≡ ts

abbrev IsElements : List ElementData → Uses → Type 0
IsElements b ts = elements_uses (to_elements b) ≡ ts

abbrev IsProps : List PropData → Uses → Type 0
IsProps b ts = props_uses (to_props b) ≡ ts

abbrev IsHoles : List HoleData → Uses → Type 0
IsHoles b ts = holes_uses (to_holes b) ≡ ts

abbrev IsStmts : List StmtData → Uses → Type 0
IsStmts b ts = stmts_uses (to_stmts b) ≡ ts

abbrev IsBodyOf : List StmtData → Uses → Type 0
IsBodyOf b ts = body_uses (bound.Stmts b) ≡ ts

module _ (world : World) (table : List FunctionData) where
  -- a part that is so wherever the walk is
  pub record Always {A : Type 0} (W : ℕ → Type 0) (first : ℕ) (R : A → Uses → Type 0) (m : Binds A) : Type 0 where
    pub at : (here : Here) → Scopes world table W first R m here

  -- ## Lists of parts

  turns : {A : Type 0} (W : ℕ → Type 0) (first : ℕ) (R : A → Uses → Type 0) (S : List A → Uses → Type 0) → S [] []
      → ((x : A) (xs : List A) (ts us : Uses) → R x ts → S xs us → S (x ∷ xs) (ts ++ (us ++ [])))
      → (ms : List (Binds A)) → AllByRecursion (Always W first R) ms → (here : Here) → Scopes world table W first S (in_turn ms) here
  turns W first R S none more [] h here = done world table none
  turns W first R S none more (m ∷ ms) h here =
      step world table (h.0.at here) (λ now x ts up ex. step world table (turns W first R S none more ms h.1 now)
      (λ later xs us on exs. done world table (more x xs ts us ex exs)))

  module _ (W : ℕ → Type 0) (first : ℕ) where
    exprs_turn : (ms : List (Binds ExprData)) → AllByRecursion (Always W first IsExpr) ms → (here : Here) → Scopes world table W first IsExprs (in_turn ms) here
    unfolding uses_of
    exprs_turn ms h here = turns W first IsExpr IsExprs refl (λ x xs ts us ex exs. two (uses_of x) (exprs_uses (to_exprs xs)) ts us ex exs) ms h here

    operand_first : (x : OperandData) (xs : List OperandData) (ts us : Uses) → IsOperand x ts → IsOperands xs us → IsOperands (x ∷ xs) (ts ++ (us ++ []))
    unfolding uses_of
    operand_first (bound.Operand op e) xs ts us ex exs = two (uses_of e) (operands_uses (to_operands xs)) ts us ex exs

    operands_turn : (ms : List (Binds OperandData)) → AllByRecursion (Always W first IsOperand) ms → (here : Here)
        → Scopes world table W first IsOperands (in_turn ms) here
    unfolding uses_of
    operands_turn ms h here = turns W first IsOperand IsOperands refl operand_first ms h here

    parts_turn : (ms : List (Binds PartData)) → AllByRecursion (Always W first IsPart) ms → (here : Here) → Scopes world table W first IsParts (in_turn ms) here
    unfolding uses_of
    parts_turn ms h here = turns W first IsPart IsParts refl (λ x xs ts us ex exs. two (part_uses x) (parts_uses (to_parts xs)) ts us ex exs) ms h here

    element_first : (x : ElementData) (xs : List ElementData) (ts us : Uses) → IsElement x ts → IsElements xs us → IsElements (x ∷ xs) (ts ++ (us ++ []))
    unfolding uses_of
    element_first (bound.Element spread e) xs ts us ex exs = two (uses_of e) (elements_uses (to_elements xs)) ts us ex exs

    elements_turn : (ms : List (Binds ElementData)) → AllByRecursion (Always W first IsElement) ms → (here : Here)
        → Scopes world table W first IsElements (in_turn ms) here
    unfolding uses_of
    elements_turn ms h here = turns W first IsElement IsElements refl element_first ms h here

    props_turn : (ms : List (Binds PropData)) → AllByRecursion (Always W first IsProp) ms → (here : Here) → Scopes world table W first IsProps (in_turn ms) here
    unfolding uses_of
    props_turn ms h here = turns W first IsProp IsProps refl (λ x xs ts us ex exs. two (prop_uses x) (props_uses (to_props xs)) ts us ex exs) ms h here

    hole_first : (x : HoleData) (xs : List HoleData) (ts us : Uses) → IsHole x ts → IsHoles xs us → IsHoles (x ∷ xs) (ts ++ (us ++ []))
    unfolding uses_of
    hole_first (bound.Hole e text) xs ts us ex exs = two (uses_of e) (holes_uses (to_holes xs)) ts us ex exs

    holes_turn : (ms : List (Binds HoleData)) → AllByRecursion (Always W first IsHole) ms → (here : Here) → Scopes world table W first IsHoles (in_turn ms) here
    unfolding uses_of
    holes_turn ms h here = turns W first IsHole IsHoles refl hole_first ms h here

    stmts_turn : (ms : List (Binds StmtData)) → AllByRecursion (Always W first IsStmt) ms → (here : Here) → Scopes world table W first IsStmts (in_turn ms) here
    unfolding uses_of stmt_uses
    stmts_turn ms h here = turns W first IsStmt IsStmts refl (λ x xs ts us ex exs. two (stmt_uses x) (stmts_uses (to_stmts xs)) ts us ex exs) ms h here

    body_turn : (ms : List (Binds StmtData)) → AllByRecursion (Always W first IsStmt) ms → (here : Here) → Scopes world table W first IsBodyOf (in_turn ms) here
    unfolding uses_of stmt_uses body_uses
    body_turn ms h here = turns W first IsStmt IsBodyOf refl (λ x xs ts us ex exs. two (stmt_uses x) (body_uses (bound.Stmts xs)) ts us ex exs) ms h here

    pub body_scopes : (ms : List (Binds StmtData)) → AllByRecursion (Always W first IsStmt) ms → (here : Here)
        → Scopes world table W first (IsBody world table) (in_turn ms >>= λ bs. gives (bound.Stmts bs)) here
    body_scopes ms h here = step world table (body_turn ms h here) (λ now bs ts up e. done world table (one (body_uses (bound.Stmts bs)) ts e))

  all_drop : {X : Type 0} (P : X → Type 0) (n : ℕ) (xs : List X) → AllByRecursion P xs → AllByRecursion P (drop n xs)
  all_drop P zero xs h = h
  all_drop P (suc n) [] h = h
  all_drop P (suc n) (x ∷ xs) h = all_drop P n xs h.1

  parts_uses_of : (e : ExprData) (ps : List PartData) → uses_of (with_parts e ps) ≡ uses_of e ++ parts_uses (to_parts ps)
  unfolding uses_of
  parts_uses_of e [] = sym (nil_right (uses_of e))
  parts_uses_of e (p ∷ ps) = refl

  module _ (site : Site) (is : slice_get world.files site.number ≡ Some site.file) (among : site.number < length world.files) where
    postfix_scopes
        : (W : ℕ → Type 0) (first : ℕ) (name : Option (List ℕ)) (e : Binds ExprData) (parts : PartTrees) (ms : List (Binds PartData)) → Always W first IsExpr e
        → AllByRecursion (Always W first IsPart) ms → (here : Here) → Scopes world table W first IsExpr (postfix world site name e parts ms) here
    unfolding uses_of
    postfix_scopes W first (Some x) e parts ms he hs here =
        step world table (name_scopes world table W first site is x parts here)
        (λ now f ts up ef. step world table (parts_turn W first (drop f.parts ms) (all_drop (Always W first IsPart) f.parts ms hs) now)
        (λ later ps us on eps. done world table
        (parts_uses_of (bound.Name f.target) ps ∙ two (Names f.target ∷ []) (parts_uses (to_parts ps)) ts us (sym ef) eps)))
    postfix_scopes W first None e parts ms he hs here =
        step world table (he.at here) (λ now b ts up eb. step world table (parts_turn W first ms hs now)
        (λ later ps us on eps. done world table (parts_uses_of b ps ∙ two (uses_of b) (parts_uses (to_parts ps)) ts us eb eps)))

    arrow_scopes
        : (W : ℕ → Type 0) (first : ℕ) (head : HeadTree) (locals : List Local) (body : Binds BodyData) (here : Here) → ((P : ℕ → Type 0) → AllNumbers P locals)
        → ((inside : Here) → Scopes world table (Within world table W here.locals) here.locals (IsBody world table) body inside)
        → Scopes world table W first IsExpr (arrow world site head locals body) here
    unfolding uses_of
    arrow_scopes W first head locals body here undeclared h =
        step world table (function_scopes world table W first site.number (params_of head) locals body here among undeclared h)
        (λ now n ts up e. done world table (one (Makes n ∷ []) ts (sym e)))

    -- new locals are of the kind
    abbrev Opens : (ℕ → Type 0) → ℕ → Type 0
    Opens W first = (n : ℕ) → first ≤ n → W n

    abbrev none_undeclared : (P : ℕ → Type 0) → AllNumbers P []
    none_undeclared P = tt

    below_later : (here now later : ℕ) → now ≡ here + 1 → now ≤ later → here < later
    below_later here now later same on = omega (arith, same, on)

    -- a block whose locals are not declared yet
    block_scopes
        : {A : Type 0} {R : A → Uses → Type 0} {m : Binds A} (W : ℕ → Type 0) (first : ℕ) (locals : List Local) → ((P : ℕ → Type 0) → AllNumbers P locals)
        → Always W first R m → (here : Here) → Scopes world table W first R (within locals m) here
    block_scopes W first locals undeclared h here =
        within_scopes world table W first locals here (undeclared _) (undeclared _) (λ inside same. h.at inside)

    -- ## Expressions and statements

    mutual
      unfolding bind_expr uses_of stmt_uses body_uses

      pub expr_scopes : (W : ℕ → Type 0) (first : ℕ) (e : ExprTree) → Always W first IsExpr (bind_expr world site e)
      expr_scopes W first (tree.Arrow head e) = record {
        at = λ here. arrow_scopes W first head [] (bind_expr world site e >>= λ b. gives (bound.Expr b)) here none_undeclared
            (λ inside. step world table ((expr_scopes (Within world table W here.locals) here.locals e).at inside) (λ now b ts up eb. done world table (one (uses_of b) ts eb)));
      }
      expr_scopes W first (tree.BlockArrow head ss) = record {
        at = λ here. arrow_scopes W first head (block_locals ss) _ here (λ P. block_undeclared P ss)
            (λ inside. body_scopes (Within world table W here.locals) here.locals _
            (stmts_scopes (Within world table W here.locals) here.locals (λ n low. inr low) ss) inside);
      }
      expr_scopes W first (tree.Cond c a b) = record {
        at = λ here. step world table ((expr_scopes W first c).at here) (λ now x ts up ex. step world table ((expr_scopes W first a).at now)
            (λ later y us on ey. step world table ((expr_scopes W first b).at later)
            (λ last z vs more ez. done world table (three (uses_of x) (uses_of y) (uses_of z) ts us vs ex ey ez))));
      }
      expr_scopes W first (tree.Chain level e more) = record {
        at = λ here. step world table ((expr_scopes W first e).at here) (λ now x ts up ex. step world table (operands_turn W first _ (operands_scopes W first more) now)
            (λ later xs us on exs. done world table (two (uses_of x) (operands_uses (to_operands xs)) ts us ex exs)));
      }
      expr_scopes W first (tree.Unary ops e) = record {
        at = λ here. step world table ((expr_scopes W first e).at here) (λ now x ts up ex. done world table (one (uses_of x) ts ex));
      }
      expr_scopes W first (tree.Postfix e parts) = record {
        at = λ here. postfix_scopes W first (name_of e) _ parts _ (expr_scopes W first e) (parts_scopes W first parts) here;
      }
      expr_scopes W first (tree.Number n) = record { at = λ here. done world table refl }
      expr_scopes W first (tree.Str s) = record { at = λ here. done world table refl }
      expr_scopes W first tree.True = record { at = λ here. done world table refl }
      expr_scopes W first tree.False = record { at = λ here. done world table refl }
      expr_scopes W first tree.Undefined = record { at = λ here. done world table refl }
      expr_scopes W first (tree.Template text holes) = record {
        at = λ here. step world table (holes_turn W first _ (holes_scopes W first holes) here) (λ now xs ts up ex. done world table (one (holes_uses (to_holes xs)) ts ex));
      }
      expr_scopes W first (tree.Path kind text holes) = record {
        at = λ here. step world table (holes_turn W first _ (holes_scopes W first holes) here) (λ now xs ts up ex. done world table (one (holes_uses (to_holes xs)) ts ex));
      }
      expr_scopes W first (tree.Name x) = record {
        at = λ here. step world table (name_scopes world table W first site is x tree.no_parts here)
            (λ now f ts up e. done world table (one (Names f.target ∷ []) ts (sym e)));
      }
      expr_scopes W first (tree.Elements es) = record {
        at = λ here. step world table (elements_turn W first _ (elements_scopes W first es) here)
            (λ now xs ts up ex. done world table (one (elements_uses (to_elements xs)) ts ex));
      }
      expr_scopes W first (tree.Object ps) = record {
        at = λ here. step world table (props_turn W first _ (props_scopes W first ps) here) (λ now xs ts up ex. done world table (one (props_uses (to_props xs)) ts ex));
      }

      exprs_scopes : (W : ℕ → Type 0) (first : ℕ) (es : ExprTrees) → AllByRecursion (Always W first IsExpr) (bind_exprs world site es)
      exprs_scopes W first tree.no_exprs = tt
      exprs_scopes W first (tree.more_exprs e more) = (expr_scopes W first e, exprs_scopes W first more)

      operand_scopes : (W : ℕ → Type 0) (first : ℕ) (o : OperandTree) → Always W first IsOperand (bind_operand world site o)
      operand_scopes W first (tree.Operand op e) = record {
        at = λ here. step world table ((expr_scopes W first e).at here) (λ now x ts up ex. done world table (one (uses_of x) ts ex));
      }

      operands_scopes : (W : ℕ → Type 0) (first : ℕ) (os : OperandTrees) → AllByRecursion (Always W first IsOperand) (bind_operands world site os)
      operands_scopes W first tree.no_operands = tt
      operands_scopes W first (tree.more_operands o more) = (operand_scopes W first o, operands_scopes W first more)

      part_scopes : (W : ℕ → Type 0) (first : ℕ) (p : PartTree) → Always W first IsPart (bind_part world site p)
      part_scopes W first (tree.Member x) = record { at = λ here. done world table refl }
      part_scopes W first (tree.Index e) = record {
        at = λ here. step world table ((expr_scopes W first e).at here) (λ now x ts up ex. done world table (one (uses_of x) ts ex));
      }
      part_scopes W first (tree.Call es) = record {
        at = λ here. step world table (exprs_turn W first _ (exprs_scopes W first es) here) (λ now xs ts up ex. done world table (one (exprs_uses (to_exprs xs)) ts ex));
      }

      parts_scopes : (W : ℕ → Type 0) (first : ℕ) (ps : PartTrees) → AllByRecursion (Always W first IsPart) (bind_parts world site ps)
      parts_scopes W first tree.no_parts = tt
      parts_scopes W first (tree.more_parts p ps) = (part_scopes W first p, parts_scopes W first ps)

      element_scopes : (W : ℕ → Type 0) (first : ℕ) (e : ElementTree) → Always W first IsElement (bind_element world site e)
      element_scopes W first (tree.Element spread e) = record {
        at = λ here. step world table ((expr_scopes W first e).at here) (λ now x ts up ex. done world table (one (uses_of x) ts ex));
      }

      elements_scopes : (W : ℕ → Type 0) (first : ℕ) (es : ElementTrees) → AllByRecursion (Always W first IsElement) (bind_elements world site es)
      elements_scopes W first tree.no_elements = tt
      elements_scopes W first (tree.more_elements e more) = (element_scopes W first e, elements_scopes W first more)

      prop_scopes : (W : ℕ → Type 0) (first : ℕ) (p : PropTree) → Always W first IsProp (bind_prop world site p)
      prop_scopes W first (tree.Named x e) = record {
        at = λ here. step world table ((expr_scopes W first e).at here) (λ now b ts up eb. done world table (one (uses_of b) ts eb));
      }
      prop_scopes W first (tree.Quoted s e) = record {
        at = λ here. step world table ((expr_scopes W first e).at here) (λ now b ts up eb. done world table (one (uses_of b) ts eb));
      }
      prop_scopes W first (tree.Short x) = record {
        at = λ here. step world table (name_scopes world table W first site is x tree.no_parts here)
            (λ now f ts up e. done world table (one (Names f.target ∷ []) ts (sym e)));
      }
      prop_scopes W first (tree.Spread e) = record {
        at = λ here. step world table ((expr_scopes W first e).at here) (λ now b ts up eb. done world table (one (uses_of b) ts eb));
      }

      props_scopes : (W : ℕ → Type 0) (first : ℕ) (ps : PropTrees) → AllByRecursion (Always W first IsProp) (bind_props world site ps)
      props_scopes W first tree.no_props = tt
      props_scopes W first (tree.more_props p more) = (prop_scopes W first p, props_scopes W first more)

      hole_scopes : (W : ℕ → Type 0) (first : ℕ) (h : HoleTree) → Always W first IsHole (bind_hole world site h)
      hole_scopes W first (tree.Hole e text) = record {
        at = λ here. step world table ((expr_scopes W first e).at here) (λ now x ts up ex. done world table (one (uses_of x) ts ex));
      }

      holes_scopes : (W : ℕ → Type 0) (first : ℕ) (hs : HoleTrees) → AllByRecursion (Always W first IsHole) (bind_holes world site hs)
      holes_scopes W first tree.no_holes = tt
      holes_scopes W first (tree.more_holes h more) = (hole_scopes W first h, holes_scopes W first more)

      stmt_scopes : (W : ℕ → Type 0) (first : ℕ) → Opens W first → (s : StmtTree) → Always W first IsStmt (bind_stmt world site s)
      stmt_scopes W first new (tree.Const x t e) = record {
        at = λ here. new_scopes world table (λ n. bind_expr world site e >>= λ b. declare x n >>= λ m. gives (bound.Const n t b)) W first new here
            (λ now same kind low. step world table {next = λ b. declare x here.locals >>= λ m. gives (bound.Const here.locals t b)} ((expr_scopes W first e).at now)
            (λ later b us on eb. step world table {next = λ m. gives (bound.Const here.locals t b)}
            (declare_scopes world table W first x here.locals later kind low (below_later here.locals now.locals later.locals same on))
            (λ last m vs more em. done world table (before_none (Sets here.locals ∷ []) (uses_of b) (Sets here.locals ∷ []) us vs refl eb em))));
      }
      stmt_scopes W first new (tree.Let x t e) = record {
        at = λ here. new_scopes world table (λ n. bind_maybe world site e >>= λ b. declare x n >>= λ m. gives (bound.Let n t b)) W first new here
            (λ now same kind low. step world table {next = λ b. declare x here.locals >>= λ m. gives (bound.Let here.locals t b)} ((maybe_scopes W first e).at now)
            (λ later b us on eb. step world table {next = λ m. gives (bound.Let here.locals t b)}
            (declare_scopes world table W first x here.locals later kind low (below_later here.locals now.locals later.locals same on))
            (λ last m vs more em. done world table (before_none (Sets here.locals ∷ []) (maybe_uses b) (Sets here.locals ∷ []) us vs refl eb em))));
      }
      stmt_scopes W first new (tree.Assign x e) = record {
        at = λ here. step world table (assigns_scopes world table W first x here) (λ now n ts up en. step world table ((expr_scopes W first e).at now)
            (λ later b us on eb. done world table (two (Sets n ∷ []) (uses_of b) ts us (sym en) eb)));
      }
      stmt_scopes W first new (tree.If c s other) = record {
        at = λ here. step world table ((expr_scopes W first c).at here)
            (λ now x ts up ex. step world table (block_scopes W first (stmt_locals s) (λ P. stmt_undeclared P s) (stmt_scopes W first new s) now)
            (λ later y us on ey. step world table ((else_scopes W first new other).at later)
            (λ last z vs more ez. done world table (three (uses_of x) (stmt_uses y) (else_uses z) ts us vs ex ey ez))));
      }
      stmt_scopes W first new (tree.For kind x list s) = record {
        at = λ here. new_scopes world table
            (λ n. bind_expr world site list >>= λ l. within (loop_local kind x n) (within (stmt_locals s) (bind_stmt world site s)) >>= λ b. gives (bound.For kind n l b))
            W first new here
            (λ now same kind' low. step world table ((expr_scopes W first list).at now)
            (λ later l us on el. step world table
            (within_scopes world table W first (loop_local kind x here.locals) later
            (loop_numbered (λ m. W m × (m < later.locals)) kind x here.locals (kind', below_later here.locals now.locals later.locals same on))
            (loop_numbered (λ m. first ≤ m) kind x here.locals low)
            (λ inside same'. block_scopes W first (stmt_locals s) (λ P. stmt_undeclared P s) (stmt_scopes W first new s) inside))
            (λ last b vs more eb. done world table
            (three (Sets here.locals ∷ []) (uses_of l) (stmt_uses b) (Sets here.locals ∷ []) us vs refl el eb))));
      }
      stmt_scopes W first new (tree.Return e) = record {
        at = λ here. step world table ((maybe_scopes W first e).at here) (λ now b ts up eb. done world table (one (maybe_uses b) ts eb));
      }
      stmt_scopes W first new (tree.Value e) = record {
        at = λ here. step world table ((expr_scopes W first e).at here) (λ now b ts up eb. done world table (one (uses_of b) ts eb));
      }
      stmt_scopes W first new (tree.Block ss) = record {
        at = λ here. step world table
            (within_scopes world table W first (block_locals ss) here (block_undeclared _ ss) (block_undeclared _ ss)
            (λ inside same. stmts_turn W first _ (stmts_scopes W first new ss) inside))
            (λ now bs ts up eb. done world table (one (stmts_uses (to_stmts bs)) ts eb));
      }
      stmt_scopes W first new tree.Empty = record { at = λ here. done world table refl }

      maybe_scopes : (W : ℕ → Type 0) (first : ℕ) (e : MaybeExpr) → Always W first IsMaybe (bind_maybe world site e)
      maybe_scopes W first tree.no_expr = record { at = λ here. done world table refl }
      maybe_scopes W first (tree.an_expr e) = record {
        at = λ here. step world table ((expr_scopes W first e).at here) (λ now b ts up eb. done world table (one (uses_of b) ts eb));
      }

      else_scopes : (W : ℕ → Type 0) (first : ℕ) → Opens W first → (s : MaybeStmt) → Always W first IsElse (bind_else world site s)
      else_scopes W first new tree.no_stmt = record { at = λ here. done world table refl }
      else_scopes W first new (tree.a_stmt s) = record {
        at = λ here. step world table (block_scopes W first (stmt_locals s) (λ P. stmt_undeclared P s) (stmt_scopes W first new s) here)
            (λ now b ts up eb. done world table (one (stmt_uses b) ts eb));
      }

      pub stmts_scopes : (W : ℕ → Type 0) (first : ℕ) → Opens W first → (ss : StmtTrees) → AllByRecursion (Always W first IsStmt) (bind_stmts world site ss)
      stmts_scopes W first new tree.no_stmts = tt
      stmts_scopes W first new (tree.more_stmts s ss) = (stmt_scopes W first new s, stmts_scopes W first new ss)
