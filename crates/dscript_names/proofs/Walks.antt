-- A walk through an expression or a statement counts at most its size.
use Rattle.std.proofs.Common.{◌≡◌, ℕ, zero, suc, ◌+◌, List, [], ◌∷◌, length, drop, Some, None, Option, refl, arith}
use Rattle.dscript_ast.specs.ExprTree as tree
use Rattle.dscript_ast.specs.ExprTree.{HeadTree, ExprTree, OperandTree, PartTree, ElementTree, PropTree, HoleTree, StmtTree, MaybeExpr, MaybeStmt, ExprTrees, OperandTrees, PartTrees, ElementTrees, PropTrees, HoleTrees, StmtTrees}
use Rattle.dscript_names_scopes.specs.Blocks.{block_locals, stmt_locals}
use Rattle.dscript_names_binding.specs.Binding.{bind_expr, bind_exprs, bind_operand, bind_operands, bind_part, bind_parts, bind_element, bind_elements, bind_prop, bind_props, bind_hole, bind_holes, bind_stmt, bind_maybe, bind_else, bind_stmts, arrow, postfix, with_parts, loop_local, params_of}
use Rattle.dscript_names_binding.specs.Walk.{Binds, ◌>>=◌, gives, in_turn, declare, within}
use Rattle.dscript_program.specs.BoundTree as bound
use Rattle.dscript_program.specs.BoundTree.{BodyData, ExprData, PartData, to_elements, to_exprs, to_holes, to_operands, to_props, to_stmts}
use Rattle.dscript_names_scopes.specs.Lookup.{Site}
use Rattle.dscript_names_scopes.specs.Names.{World}
use Rattle.dscript_names_scopes.specs.declared.local.Local.{Local}
use Rattle.dscript_names.specs.Sizes.{expr_size, operand_size, operands_size, part_size, parts_size, exprs_size, element_size, elements_size, prop_size, props_size, hole_size, holes_size, stmt_size, maybe_size, else_size, stmts_size, head_size}
use Rattle.dscript_names.proofs.Steps.{Counts, more, step, done, last, next_counts, declare_counts, name_counts, assigns_counts, within_counts, function_counts}
use Rattle.dscript_ast.specs.Literals.{name_of}

-- one, and then the others
turn : {A : Type 0} {n k : ℕ} {m : Binds A} (ms : List (Binds A)) → Counts n m → Counts k (in_turn ms)
    → Counts (n + k) (in_turn (m ∷ ms))
turn ms first others = step first (λ x. last (λ xs. x ∷ xs) others)

none_dropped : {A : Type 0} (j : ℕ) → Counts 0 (in_turn {A = A} (drop j []))
none_dropped zero = done
none_dropped (suc j) = done

-- some are left out
dropped : {A : Type 0} {n k : ℕ} {m : Binds A} (ms : List (Binds A)) → Counts n m → ((j : ℕ) → Counts k (in_turn (drop j ms)))
    → (j : ℕ) → Counts (n + k) (in_turn (drop j (m ∷ ms)))
dropped ms first others zero = turn ms first (others zero)
dropped {n = n} {k = k} ms first others (suc j) = more k (n + k) (omega arith) (others j)

head_length : (x : HeadTree) → length (params_of x) ≡ head_size x
head_length (tree.Single x) = refl
head_length (tree.Params ps) = refl

arrow_counts : {n : ℕ} {body : Binds BodyData} (world : World) (site : Site) (x : HeadTree) (locals : List Local)
    → Counts n body → Counts (1 + head_size x + n) (arrow world site x locals body)
arrow_counts {n = n} {body = body} world site x locals h =
    more (1 + length (params_of x) + n) (1 + head_size x + n) (omega (arith, head_length x))
    (last bound.Arrow (function_counts site.number (params_of x) locals h))

postfix_counts : {n : ℕ} (k : ℕ) (world : World) (site : Site) (name : Option (List ℕ)) (e : Binds ExprData) (parts : tree.PartTrees)
    (ms : List (Binds PartData)) → Counts n e → ((j : ℕ) → Counts k (in_turn (drop j ms)))
    → Counts (n + k) (postfix world site name e parts ms)
postfix_counts {n = n} k world site (Some x) e parts ms he hs =
    more (0 + k) (n + k) (omega arith)
    (step (name_counts world site x parts) (λ f. last (λ ps. with_parts (bound.Name f.target) ps) (hs f.parts)))
postfix_counts k world site None e parts ms he hs = step he (λ b. last (λ ps. with_parts b ps) (hs 0))

module _ (world : World) (site : Site) where
  mutual
    unfolding bind_expr expr_size

    pub expr_counts : (e : ExprTree) → Counts (expr_size e) (bind_expr world site e)
    expr_counts (tree.Arrow x e) = arrow_counts world site x [] (last bound.Expr (expr_counts e))
    expr_counts (tree.BlockArrow x ss) = arrow_counts world site x (block_locals ss) (last bound.Stmts (stmts_counts ss))
    expr_counts (tree.Cond c a b) =
        more (expr_size c + (expr_size a + expr_size b)) (expr_size c + expr_size a + expr_size b) (omega arith)
        (step (expr_counts c) (λ x. step (expr_counts a) (λ y. last (λ z. bound.Cond x y z) (expr_counts b))))
    expr_counts (tree.Chain level e os) =
        step (expr_counts e) (λ x. last (λ xs. bound.Chain x (to_operands xs)) (operands_counts os))
    expr_counts (tree.Unary ops e) = last (bound.Unary ops) (expr_counts e)
    expr_counts (tree.Postfix e parts) =
        postfix_counts (parts_size parts) world site (name_of e) (bind_expr world site e) parts (bind_parts world site parts)
        (expr_counts e) (parts_counts parts)
    expr_counts (tree.Number n) = done
    expr_counts (tree.Str s) = done
    expr_counts tree.True = done
    expr_counts tree.False = done
    expr_counts tree.Undefined = done
    expr_counts (tree.Template text holes) = last (λ hs. bound.Template text (to_holes hs)) (holes_counts holes)
    expr_counts (tree.Path kind text holes) = last (λ hs. bound.Path kind text (to_holes hs)) (holes_counts holes)
    expr_counts (tree.Name x) = last (λ f. bound.Name f.target) (name_counts world site x tree.no_parts)
    expr_counts (tree.Elements es) = last (λ xs. bound.Elements (to_elements xs)) (elements_counts es)
    expr_counts (tree.Object ps) = last (λ xs. bound.Object (to_props xs)) (props_counts ps)

    operand_counts : (o : OperandTree) → Counts (operand_size o) (bind_operand world site o)
    operand_counts (tree.Operand op e) = last (bound.Operand op) (expr_counts e)

    operands_counts : (os : OperandTrees) → Counts (operands_size os) (in_turn (bind_operands world site os))
    operands_counts tree.no_operands = done
    operands_counts (tree.more_operands o os) = turn (bind_operands world site os) (operand_counts o) (operands_counts os)

    part_counts : (p : PartTree) → Counts (part_size p) (bind_part world site p)
    part_counts (tree.Member x) = done
    part_counts (tree.Index e) = last bound.Index (expr_counts e)
    part_counts (tree.Call es) = last (λ xs. bound.Call (to_exprs xs)) (exprs_counts es)

    parts_counts : (ps : PartTrees) → (j : ℕ) → Counts (parts_size ps) (in_turn (drop j (bind_parts world site ps)))
    parts_counts tree.no_parts = none_dropped
    parts_counts (tree.more_parts p ps) = dropped (bind_parts world site ps) (part_counts p) (parts_counts ps)

    exprs_counts : (es : ExprTrees) → Counts (exprs_size es) (in_turn (bind_exprs world site es))
    exprs_counts tree.no_exprs = done
    exprs_counts (tree.more_exprs e es) = turn (bind_exprs world site es) (expr_counts e) (exprs_counts es)

    element_counts : (e : ElementTree) → Counts (element_size e) (bind_element world site e)
    element_counts (tree.Element spread e) = last (bound.Element spread) (expr_counts e)

    elements_counts : (es : ElementTrees) → Counts (elements_size es) (in_turn (bind_elements world site es))
    elements_counts tree.no_elements = done
    elements_counts (tree.more_elements e es) = turn (bind_elements world site es) (element_counts e) (elements_counts es)

    prop_counts : (p : PropTree) → Counts (prop_size p) (bind_prop world site p)
    prop_counts (tree.Named x e) = last (bound.Named x) (expr_counts e)
    prop_counts (tree.Quoted s e) = last (bound.Quoted s) (expr_counts e)
    prop_counts (tree.Short x) = last (λ f. bound.Short x f.target) (name_counts world site x tree.no_parts)
    prop_counts (tree.Spread e) = last bound.Spread (expr_counts e)

    props_counts : (ps : PropTrees) → Counts (props_size ps) (in_turn (bind_props world site ps))
    props_counts tree.no_props = done
    props_counts (tree.more_props p ps) = turn (bind_props world site ps) (prop_counts p) (props_counts ps)

    hole_counts : (h : HoleTree) → Counts (hole_size h) (bind_hole world site h)
    hole_counts (tree.Hole e text) = last (λ x. bound.Hole x text) (expr_counts e)

    holes_counts : (hs : HoleTrees) → Counts (holes_size hs) (in_turn (bind_holes world site hs))
    holes_counts tree.no_holes = done
    holes_counts (tree.more_holes h hs) = turn (bind_holes world site hs) (hole_counts h) (holes_counts hs)

    stmt_counts : (s : StmtTree) → Counts (stmt_size s) (bind_stmt world site s)
    stmt_counts (tree.Const x t e) =
        more (1 + (expr_size e + 0)) (1 + expr_size e) (omega arith)
        (step {next = λ n. bind_expr world site e >>= λ b. declare x n >>= λ m. gives (bound.Const n t b)} next_counts
        (λ n. step {next = λ b. declare x n >>= λ m. gives (bound.Const n t b)} (expr_counts e)
        (λ b. last (λ m. bound.Const n t b) (declare_counts x n))))
    stmt_counts (tree.Let x t e) =
        more (1 + (maybe_size e + 0)) (1 + maybe_size e) (omega arith)
        (step {next = λ n. bind_maybe world site e >>= λ b. declare x n >>= λ m. gives (bound.Let n t b)} next_counts
        (λ n. step {next = λ b. declare x n >>= λ m. gives (bound.Let n t b)} (maybe_counts e)
        (λ b. last (λ m. bound.Let n t b) (declare_counts x n))))
    stmt_counts (tree.Assign x e) =
        more (0 + expr_size e) (expr_size e) (omega arith)
        (step (assigns_counts x) (λ n. last (bound.Assign n) (expr_counts e)))
    stmt_counts (tree.If c s other) =
        more (expr_size c + (stmt_size s + else_size other)) (expr_size c + stmt_size s + else_size other) (omega arith)
        (step (expr_counts c) (λ x. step (within_counts (stmt_locals s) (stmt_counts s))
        (λ y. last (λ z. bound.If x y z) (else_counts other))))
    stmt_counts (tree.For kind x list s) =
        more (1 + (expr_size list + stmt_size s)) (1 + expr_size list + stmt_size s) (omega arith)
        (step {next = λ n. bind_expr world site list >>= λ l. within (loop_local kind x n) (within
        (stmt_locals s) (bind_stmt world site s)) >>= λ b. gives (bound.For kind n l b)} next_counts
        (λ n. step (expr_counts list) (λ l. last (bound.For kind n l)
        (within_counts (loop_local kind x n) (within_counts (stmt_locals s) (stmt_counts s))))))
    stmt_counts (tree.Return e) = last bound.Return (maybe_counts e)
    stmt_counts (tree.Value e) = last bound.Value (expr_counts e)
    stmt_counts (tree.Block ss) = last (λ bs. bound.Block (to_stmts bs)) (within_counts (block_locals ss) (stmts_counts ss))
    stmt_counts tree.Empty = done

    maybe_counts : (e : MaybeExpr) → Counts (maybe_size e) (bind_maybe world site e)
    maybe_counts tree.no_expr = done
    maybe_counts (tree.an_expr e) = last Some (expr_counts e)

    else_counts : (s : MaybeStmt) → Counts (else_size s) (bind_else world site s)
    else_counts tree.no_stmt = done
    else_counts (tree.a_stmt s) = last bound.a_stmt (within_counts (stmt_locals s) (stmt_counts s))

    pub stmts_counts : (ss : StmtTrees) → Counts (stmts_size ss) (in_turn (bind_stmts world site ss))
    stmts_counts tree.no_stmts = done
    stmts_counts (tree.more_stmts s ss) = turn (bind_stmts world site ss) (stmt_counts s) (stmts_counts ss)
