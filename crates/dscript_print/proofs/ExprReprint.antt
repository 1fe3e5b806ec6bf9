-- The tokens that are printed of an expression or a statement derive it, within the height within which other tokens do.
use Rattle.std.proofs.Common.{◌≡◌, ℕ, zero, suc, ◌≤◌, ◌<◌, Bool, true, false, ◌&&◌, ◌||◌, ◌==◌, List, [], ◌∷◌, ◌++◌, map, Option, Some, None, nat_lt, refl, ap, sym, ◌∙◌, subst, ◌⊎◌, inl, inr, arith}
use Rattle.std.proofs.lemmas.Bool.{false≢true}
use Rattle.std.proofs.lemmas.Bool.Decides.{nat_tests}
use Rattle.dscript_lex.specs.declared.token.TokenKind.{TokenKind}
use Rattle.dscript_lex.specs.declared.token.TokenKind.TheVariants as kinds
use Rattle.dscript_grammar.specs.Language.{Language, token, punctuator, name, ◌⋅◌, given, only_if, optional, many, list, not_before}
use Rattle.dscript_ast.specs.TypeTree.{TypeTree}
use Rattle.dscript_grammar.specs.TypeGrammar.{any_type, type_at}
use Rattle.dscript_ast.specs.ExprTree.{ParamTree, HeadTree, Single, Params, ExprTree, Arrow, BlockArrow, Cond, Chain, Unary, Postfix, Number, Str, True, False, Undefined, Template, Path, Name, Elements, Object, OperandTree, Operand, PartTree, Member, Index, Call, ElementTree, Element, PropTree, Named, Quoted, Short, Spread, Hole, StmtTree, Const, Let, Assign, If, For, Return, Value, Block, Empty, MaybeExpr, no_expr, an_expr, no_stmt, a_stmt, ExprTrees, no_exprs, more_exprs, OperandTrees, no_operands, more_operands, PartTrees, no_parts, more_parts, ElementTrees, no_elements, more_elements, PropTrees, no_props, more_props, HoleTrees, no_holes, more_holes, StmtTrees, no_stmts, more_stmts, expr_of, exprs_of, operands_of, parts_of, elements_of, props_of, holes_of, stmts_of}
use Rattle.dscript_ast.specs.Operators.{spelling}
use Rattle.dscript_grammar.specs.ExprGrammar.{expr_precedence, any_expr, or_expr, postfix_expr, primary_expr, prefix, letter, loop_keyword, type_note, param, params, head, operand, chain, part, holes, template, element, prop, block, expr_node, value, stmt_node, expr_at, stmt_at}
use Rattle.dscript_ast.specs.declared.expr.LoopKind.{LoopKind}
use Rattle.dscript_ast.specs.declared.expr.LoopKind.TheVariants as loops
use Rattle.dscript_ast.specs.declared.operator.BinaryOp.{BinaryOp}
use Rattle.dscript_ast.specs.declared.operator.BinaryOp.TheVariants as binary
use Rattle.dscript_ast.specs.declared.expr.PathKind.{PathKind}
use Rattle.dscript_ast.specs.declared.expr.PathKind.TheVariants as letters
use Rattle.dscript_ast.specs.declared.operator.UnaryOp.{UnaryOp}
use Rattle.dscript_ast.specs.declared.operator.UnaryOp.TheVariants as unary
use Rattle.dscript_print.specs.Runs.{punct, keyword, enclosed, run_if, concat_tokens, separate}
use Rattle.dscript_print.specs.TypeKinds.{note_kinds, type_kinds}
use Rattle.dscript_print.specs.ExprKinds.{is_object, is_enclosed, placed, tighter, prefix_kind, operator_kind, letter_kind, loop_kind, param_kinds, params_kinds, head_kinds, first_text, node_kinds, exprs_kinds, operand_kinds, operands_kinds, part_kinds, parts_kinds, element_kinds, elements_kinds, prop_kinds, props_kinds, holes_kinds, stmt_kinds, value_kinds, maybe_kinds, stmts_kinds, expr_kinds}
use Rattle.dscript_print.proofs.Spelled.{is_plain, Closes, append_assoc, balanced_head, closes_tail, closes_middle, closes_after}
use Rattle.dscript_print.proofs.Reprint.{AllSpell, token_left, seq_holds, IsReprint, Reprints, reprint_seq, reprints_seq, reprints_nothing, reprints_token, reprints_after, reprints_id, reprints_after_id, reprints_given, reprints_if, reprints_many, reprints_list, reprints_in_braces, reprints_alone, reprint_enclosed}
use Rattle.dscript_print.proofs.TypeReprint.{type_reprint}

pub exprs_runs : (xs : ExprTrees) → exprs_kinds xs ≡ map (expr_kinds false any_expr) (exprs_of xs)
unfolding exprs_kinds
exprs_runs no_exprs = refl
exprs_runs (more_exprs x xs) = ap (λ ys. expr_kinds false any_expr x ∷ ys) (exprs_runs xs)

pub operands_runs : (tight : ℕ) (xs : OperandTrees) → operands_kinds tight xs ≡ map (operand_kinds tight) (operands_of xs)
unfolding operands_kinds
operands_runs tight no_operands = refl
operands_runs tight (more_operands x xs) = ap (λ ys. operand_kinds tight x ∷ ys) (operands_runs tight xs)

pub parts_runs : (xs : PartTrees) → parts_kinds xs ≡ map part_kinds (parts_of xs)
unfolding parts_kinds
parts_runs no_parts = refl
parts_runs (more_parts x xs) = ap (λ ys. part_kinds x ∷ ys) (parts_runs xs)

pub elements_runs : (xs : ElementTrees) → elements_kinds xs ≡ map element_kinds (elements_of xs)
unfolding elements_kinds
elements_runs no_elements = refl
elements_runs (more_elements x xs) = ap (λ ys. element_kinds x ∷ ys) (elements_runs xs)

pub props_runs : (xs : PropTrees) → props_kinds xs ≡ map prop_kinds (props_of xs)
unfolding props_kinds
props_runs no_props = refl
props_runs (more_props x xs) = ap (λ ys. prop_kinds x ∷ ys) (props_runs xs)

pub stmts_runs : (xs : StmtTrees) → stmts_kinds xs ≡ map stmt_kinds (stmts_of xs)
unfolding stmts_kinds
stmts_runs no_stmts = refl
stmts_runs (more_stmts x xs) = ap (λ ys. stmt_kinds x ∷ ys) (stmts_runs xs)

-- the tokens do not begin with `{`
abbrev pub Clear : List TokenKind → Type 0
Clear ts = (more : List TokenKind) → ts ≡ punct "{" ∷ more → ⊥

-- tokens of a hole, which they close
record ShownClosing (B : Language) (xs rest : List TokenKind) : Type 0 where
  derived : (more : List TokenKind) → B (xs ++ more) more
  closes : Closes xs
  left : AllSpell rest

reprints_prefix : (s : UnaryOp) → Reprints (prefix s) (prefix s) (prefix_kind s ∷ [])
reprints_prefix unary.Not = reprints_token (punct "!") refl
reprints_prefix unary.Negate = reprints_token (punct "-") refl

reprints_letter : (k : PathKind) (B B2 : Language) (ys : List TokenKind) → Reprints B B2 ys → Reprints (letter k ⋅ B) (letter k ⋅ B2) (letter_kind k ∷ ys)
reprints_letter letters.Path B B2 ys b = reprints_after (keyword "p") refl B B2 ys b
reprints_letter letters.File B B2 ys b = reprints_after (keyword "f") refl B B2 ys b
reprints_letter letters.Directory B B2 ys b = reprints_after (keyword "d") refl B B2 ys b
reprints_letter letters.Relative B B2 ys b = reprints_after (keyword "r") refl B B2 ys b
reprints_letter letters.Atom B B2 ys b = reprints_after (keyword "a") refl B B2 ys b

reprints_loop_word : (k : LoopKind) (B B2 : Language) (ys : List TokenKind) → Reprints B B2 ys → Reprints (loop_keyword k ⋅ B) (loop_keyword k ⋅ B2) (loop_kind k ∷ ys)
reprints_loop_word loops.Const B B2 ys b = reprints_after (keyword "const") refl B B2 ys b
reprints_loop_word loops.Let B B2 ys b = reprints_after (keyword "let") refl B B2 ys b

operator_plain : (o : BinaryOp) → is_plain (punct (spelling o)) ≡ true
operator_plain binary.Or = refl
operator_plain binary.And = refl
operator_plain binary.Equal = refl
operator_plain binary.NotEqual = refl
operator_plain binary.Less = refl
operator_plain binary.LessOrEqual = refl
operator_plain binary.Greater = refl
operator_plain binary.GreaterOrEqual = refl
operator_plain binary.Add = refl
operator_plain binary.Subtract = refl
operator_plain binary.Multiply = refl

operator_spelled : (o : BinaryOp) → operator_kind o ≡ punct (spelling o)
operator_spelled binary.Or = refl
operator_spelled binary.And = refl
operator_spelled binary.Equal = refl
operator_spelled binary.NotEqual = refl
operator_spelled binary.Less = refl
operator_spelled binary.LessOrEqual = refl
operator_spelled binary.Greater = refl
operator_spelled binary.GreaterOrEqual = refl
operator_spelled binary.Add = refl
operator_spelled binary.Subtract = refl
operator_spelled binary.Multiply = refl

joined_one : {X : Type 0} (k : X → TokenKind) (xs : List X) → concat_tokens (map (λ x. k x ∷ []) xs) ≡ map k xs
joined_one k [] = refl
joined_one k (x ∷ xs) = ap (λ ys. k x ∷ ys) (joined_one k xs)

-- parts whose types have at most these heights
module _ (h h2 : ℕ) (le : h ≤ h2) where
  pub reprints_type_note : (t : TypeTree) → Reprints (type_note h t) (type_note h2 t) (punct ":" ∷ type_kinds any_type t)
  reprints_type_note t = reprints_after (punct ":") refl (type_at h any_type t) (type_at h2 any_type t) _ (type_reprint h h2 le any_type t)

  pub reprints_notes : (o : Option TypeTree) → Reprints (optional (type_note h) o) (optional (type_note h2) o) (note_kinds o)
  reprints_notes None = reprints_nothing
  reprints_notes (Some t) = reprints_type_note t

  reprints_param : (p : ParamTree) → Reprints (param h p) (param h2 p) (param_kinds p)
  reprints_param p =
      reprints_after_id p.name _ _ _
      (reprints_seq (only_if p.optional (punctuator "?")) (only_if p.optional (punctuator "?")) (optional (type_note h) p.type_node) (optional (type_note h2) p.type_node) (run_if p.optional (punct "?" ∷ [])) (note_kinds p.type_node)
      (reprints_if p.optional (punctuator "?") (punctuator "?") _ (reprints_token (punct "?") refl)) (reprints_notes p.type_node))

  pub reprints_params : (ps : List ParamTree) → Reprints (params h ps) (params h2 ps) (params_kinds ps)
  reprints_params ps =
      reprints_after (punct "(") refl _ _ _ (reprints_seq (list (param h) ps) (list (param h2) ps) (punctuator ")") (punctuator ")") (separate "," (map param_kinds ps)) (punct ")" ∷ [])
      (reprints_list (param h) (param h2) param_kinds reprints_param ps) (reprints_token (punct ")") refl))

  reprints_head : (x : HeadTree) → Reprints (head h x) (head h2 x) (head_kinds x)
  reprints_head (Single x) = reprints_id x
  reprints_head (Params ps) = reprints_params ps

  module _ (expr expr2 : ℕ → ExprTree → Language) (stmt stmt2 : StmtTree → Language) (Free : Bool → List TokenKind → Type 0)
      (anywhere : (ts : List TokenKind) → Free false ts) (clear : (ts : List TokenKind) → Clear ts → Free true ts)
      (at : (unbraced : Bool) (level : ℕ) (e : ExprTree) (ts rest : List TokenKind) → Free unbraced ts → AllSpell ts → expr level e ts rest → IsReprint (expr2 level e) (expr_kinds unbraced level e) rest)
      (unbraced : (e : ExprTree) (ts rest : List TokenKind) → expr any_expr e ts rest → (more : List TokenKind) → Clear (expr_kinds true any_expr e ++ more))
      (stmt_one : (s : StmtTree) → Reprints (stmt s) (stmt2 s) (stmt_kinds s)) where
    one : (level : ℕ) (e : ExprTree) → Reprints (expr level e) (expr2 level e) (expr_kinds false level e)
    one level e ts rest fine d = at false level e ts rest (anywhere ts) fine d

    any_one : (e : ExprTree) → Reprints (expr any_expr e) (expr2 any_expr e) (expr_kinds false any_expr e)
    any_one e = one any_expr e

    reprints_unbraced : (e : ExprTree) → Reprints (not_before "{" (expr any_expr e)) (not_before "{" (expr2 any_expr e)) (expr_kinds true any_expr e)
    reprints_unbraced e ts rest fine d =
        let s = at true any_expr e ts rest (clear ts d.0) fine d.1 in
        record { derived = λ more. (unbraced e ts rest d.1 more, s.derived more); fine = s.fine; left = s.left }

    abbrev ReprintsAt : Bool → Language → Language → List TokenKind → Type 0
    ReprintsAt unbraced A B xs = (ts rest : List TokenKind) → Free unbraced ts → AllSpell ts → A ts rest → IsReprint B xs rest

    reprints_first : (unbraced : Bool) (A A2 B B2 : Language) (xs ys : List TokenKind) → ReprintsAt unbraced A A2 xs → Reprints B B2 ys → ReprintsAt unbraced (A ⋅ B) (A2 ⋅ B2) (xs ++ ys)
    reprints_first unbraced A A2 B B2 xs ys a b ts rest free fine d =
        reprint_seq A2 B2 xs ys d.0 rest (a ts d.0 free fine d.1) (λ f. b d.0 rest f d.2)

    reprints_given_at : (unbraced : Bool) (P : Type 0) (A B : Language) (xs : List TokenKind) → ReprintsAt unbraced A B xs → ReprintsAt unbraced (given P A) (given P B) xs
    reprints_given_at unbraced P A B xs a ts rest free fine d =
        let s = a ts rest free fine d.1 in
        record { derived = λ more. (d.0, s.derived more); fine = s.fine; left = s.left }

    reprints_there : (unbraced : Bool) (A B : Language) (xs : List TokenKind) → Reprints A B xs → ReprintsAt unbraced A B xs
    reprints_there unbraced A B xs a ts rest free fine d = a ts rest fine d

    reprints_operand : (level tight : ℕ) (x : OperandTree) → Reprints (operand h expr stmt level tight x) (operand h2 expr2 stmt2 level tight x) (operand_kinds tight x)
    unfolding operand_kinds
    reprints_operand level tight (Operand op e) =
        subst (λ (k : TokenKind). Reprints (operand h expr stmt level tight (Operand op e)) (operand h2 expr2 stmt2 level tight (Operand op e)) (k ∷ expr_kinds false tight e)) (sym (operator_spelled op))
        (reprints_given _ _ _ _ (reprints_after (punct (spelling op)) (operator_plain op) (expr tight e) (expr2 tight e) _ (one tight e)))

    reprints_operands : (level tight : ℕ) (xs : OperandTrees) → Reprints (many (operand h expr stmt level tight) (operands_of xs)) (many (operand h2 expr2 stmt2 level tight) (operands_of xs)) (concat_tokens (operands_kinds tight xs))
    reprints_operands level tight xs =
        subst (λ (runs : List (List TokenKind)). Reprints (many (operand h expr stmt level tight) (operands_of xs)) (many (operand h2 expr2 stmt2 level tight) (operands_of xs)) (concat_tokens runs)) (sym (operands_runs tight xs))
        (reprints_many (operand h expr stmt level tight) (operand h2 expr2 stmt2 level tight) (operand_kinds tight) (reprints_operand level tight) (operands_of xs))

    reprints_chain : (unbraced : Bool) (level : ℕ) (e : ExprTree) (xs : OperandTrees)
        → ReprintsAt unbraced (chain h expr stmt level e (operands_of xs)) (chain h2 expr2 stmt2 level e (operands_of xs)) (expr_kinds unbraced (tighter level) e ++ concat_tokens (operands_kinds (tighter level) xs))
    reprints_chain unbraced zero e xs = λ ts rest free fine d. absurd d
    reprints_chain unbraced (suc tight) e xs =
        reprints_given_at unbraced _ _ _ _ (reprints_first unbraced (expr tight e) (expr2 tight e) _ _ (expr_kinds unbraced tight e) _ (at unbraced tight e) (reprints_operands (suc tight) tight xs))

    reprints_exprs : (xs : ExprTrees) → Reprints (list (expr any_expr) (exprs_of xs)) (list (expr2 any_expr) (exprs_of xs)) (separate "," (exprs_kinds xs))
    reprints_exprs xs =
        subst (λ (runs : List (List TokenKind)). Reprints (list (expr any_expr) (exprs_of xs)) (list (expr2 any_expr) (exprs_of xs)) (separate "," runs)) (sym (exprs_runs xs))
        (reprints_list (expr any_expr) (expr2 any_expr) (expr_kinds false any_expr) any_one (exprs_of xs))

    reprints_part : (x : PartTree) → Reprints (part h expr stmt x) (part h2 expr2 stmt2 x) (part_kinds x)
    unfolding part_kinds
    reprints_part (Member x) = reprints_after (punct ".") refl (name x) (name x) _ (reprints_token (kinds.Word x) refl)
    reprints_part (Index e) = reprints_after (punct "[") refl _ _ _ (reprints_seq (expr any_expr e) (expr2 any_expr e) (punctuator "]") (punctuator "]") (expr_kinds false any_expr e) (punct "]" ∷ []) (any_one e) (reprints_token (punct "]") refl))
    reprints_part (Call args) =
        reprints_after (punct "(") refl _ _ _ (reprints_seq (list (expr any_expr) (exprs_of args)) (list (expr2 any_expr) (exprs_of args)) (punctuator ")") (punctuator ")") (separate "," (exprs_kinds args)) (punct ")" ∷ []) (reprints_exprs args) (reprints_token (punct ")") refl))

    reprints_parts : (xs : PartTrees) → Reprints (many (part h expr stmt) (parts_of xs)) (many (part h2 expr2 stmt2) (parts_of xs)) (concat_tokens (parts_kinds xs))
    reprints_parts xs =
        subst (λ (runs : List (List TokenKind)). Reprints (many (part h expr stmt) (parts_of xs)) (many (part h2 expr2 stmt2) (parts_of xs)) (concat_tokens runs)) (sym (parts_runs xs))
        (reprints_many (part h expr stmt) (part h2 expr2 stmt2) part_kinds reprints_part (parts_of xs))

    reprints_element : (x : ElementTree) → Reprints (element h expr stmt x) (element h2 expr2 stmt2 x) (element_kinds x)
    unfolding element_kinds
    reprints_element (Element spread e) =
        reprints_seq (only_if spread (punctuator "...")) (only_if spread (punctuator "...")) (expr any_expr e) (expr2 any_expr e) (run_if spread (punct "..." ∷ [])) (expr_kinds false any_expr e)
        (reprints_if spread (punctuator "...") (punctuator "...") _ (reprints_token (punct "...") refl)) (any_one e)

    reprints_elements : (xs : ElementTrees) → Reprints (list (element h expr stmt) (elements_of xs)) (list (element h2 expr2 stmt2) (elements_of xs)) (separate "," (elements_kinds xs))
    reprints_elements xs =
        subst (λ (runs : List (List TokenKind)). Reprints (list (element h expr stmt) (elements_of xs)) (list (element h2 expr2 stmt2) (elements_of xs)) (separate "," runs)) (sym (elements_runs xs))
        (reprints_list (element h expr stmt) (element h2 expr2 stmt2) element_kinds reprints_element (elements_of xs))

    reprints_colon : (e : ExprTree) → Reprints (punctuator ":" ⋅ expr any_expr e) (punctuator ":" ⋅ expr2 any_expr e) (punct ":" ∷ expr_kinds false any_expr e)
    reprints_colon e = reprints_after (punct ":") refl (expr any_expr e) (expr2 any_expr e) _ (any_one e)

    reprints_prop : (x : PropTree) → Reprints (prop h expr stmt x) (prop h2 expr2 stmt2 x) (prop_kinds x)
    unfolding prop_kinds
    reprints_prop (Named x e) = reprints_after (kinds.Word x) refl _ _ _ (reprints_colon e)
    reprints_prop (Quoted s e) = reprints_after (kinds.Str s) refl _ _ _ (reprints_colon e)
    reprints_prop (Short x) = reprints_id x
    reprints_prop (Spread e) = reprints_after (punct "...") refl (expr any_expr e) (expr2 any_expr e) _ (any_one e)

    reprints_props : (xs : PropTrees) → Reprints (list (prop h expr stmt) (props_of xs)) (list (prop h2 expr2 stmt2) (props_of xs)) (separate "," (props_kinds xs))
    reprints_props xs =
        subst (λ (runs : List (List TokenKind)). Reprints (list (prop h expr stmt) (props_of xs)) (list (prop h2 expr2 stmt2) (props_of xs)) (separate "," runs)) (sym (props_runs xs))
        (reprints_list (prop h expr stmt) (prop h2 expr2 stmt2) prop_kinds reprints_prop (props_of xs))

    reprints_holes : (hs : HoleTrees) (ts rest : List TokenKind) → AllSpell ts → holes h expr stmt (holes_of hs) ts rest → ShownClosing (holes h2 expr2 stmt2 (holes_of hs)) (holes_kinds hs) rest
    unfolding holes_kinds
    reprints_holes no_holes ts rest fine d = absurd d
    reprints_holes (more_holes (Hole e text) no_holes) ts rest fine d =
        let s = any_one e ts d.0 fine d.1 in
        let both = token_left (kinds.Tail text) d.0 rest s.left d.2 in
        record {
          derived = seq_holds (expr2 any_expr e) (token (kinds.Tail text)) (expr_kinds false any_expr e) (kinds.Tail text ∷ []) s.derived (λ more. refl);
          closes = closes_after (expr_kinds false any_expr e) (kinds.Tail text ∷ []) s.fine (closes_tail text both.0);
          left = both.1;
        }
    reprints_holes (more_holes (Hole e text) (more_holes x more)) ts rest fine d =
        let s = any_one e ts d.0 fine d.1 in
        let both = token_left (kinds.Middle text) d.0 d.2.0 s.left d.2.1 in
        let o = reprints_holes (more_holes x more) d.2.0 rest both.1 d.2.2 in
        record {
          derived = seq_holds (expr2 any_expr e) (token (kinds.Middle text) ⋅ holes h2 expr2 stmt2 (holes_of (more_holes x more))) (expr_kinds false any_expr e) (kinds.Middle text ∷ holes_kinds (more_holes x more)) s.derived (λ m. (holes_kinds (more_holes x more) ++ m, refl, o.derived m));
          closes = closes_after (expr_kinds false any_expr e) (kinds.Middle text ∷ holes_kinds (more_holes x more)) s.fine (closes_middle text (holes_kinds (more_holes x more)) both.0 o.closes);
          left = o.left;
        }

    reprints_template : (text : List ℕ) (hs : HoleTrees) → Reprints (template h expr stmt text (holes_of hs)) (template h2 expr2 stmt2 text (holes_of hs)) (first_text hs text ∷ holes_kinds hs)
    unfolding holes_kinds
    reprints_template text no_holes = reprints_token (kinds.Whole text) refl
    reprints_template text (more_holes x more) = λ ts rest fine d.
        let both = token_left (kinds.Head text) ts d.0 fine d.1 in
        let o = reprints_holes (more_holes x more) d.0 rest both.1 d.2 in
        record {
          derived = λ m. (holes_kinds (more_holes x more) ++ m, refl, o.derived m);
          fine = balanced_head text (holes_kinds (more_holes x more)) both.0 o.closes;
          left = o.left;
        }

    reprints_stmts : (ss : StmtTrees) → Reprints (block h expr stmt (stmts_of ss)) (block h2 expr2 stmt2 (stmts_of ss)) (punct "{" ∷ (concat_tokens (stmts_kinds ss) ++ (punct "}" ∷ [])))
    reprints_stmts ss =
        subst (λ (runs : List (List TokenKind)). Reprints (block h expr stmt (stmts_of ss)) (block h2 expr2 stmt2 (stmts_of ss)) (punct "{" ∷ (concat_tokens runs ++ (punct "}" ∷ [])))) (sym (stmts_runs ss))
        (reprints_in_braces (many stmt (stmts_of ss)) (many stmt2 (stmts_of ss)) (concat_tokens (map stmt_kinds (stmts_of ss))) (reprints_many stmt stmt2 stmt_kinds stmt_one (stmts_of ss)))

    reprints_signs : (ops : List UnaryOp) → Reprints (many prefix ops) (many prefix ops) (map prefix_kind ops)
    reprints_signs ops =
        subst (λ (xs : List TokenKind). Reprints (many prefix ops) (many prefix ops) xs) (joined_one prefix_kind ops)
        (reprints_many prefix prefix (λ s. prefix_kind s ∷ []) reprints_prefix ops)

    pub reprints_expr_node : (e : ExprTree) (unbraced : Bool) → ReprintsAt unbraced (expr_node h expr stmt e) (expr_node h2 expr2 stmt2 e) (node_kinds e unbraced)
    unfolding node_kinds
    reprints_expr_node (Arrow x e) unbraced =
        reprints_there unbraced _ _ _ (reprints_seq (head h x) (head h2 x) _ _ (head_kinds x) _ (reprints_head x) (reprints_after (punct "=>") refl _ _ (expr_kinds true any_expr e) (reprints_unbraced e)))
    reprints_expr_node (BlockArrow x ss) unbraced =
        reprints_there unbraced _ _ _ (reprints_seq (head h x) (head h2 x) _ _ (head_kinds x) _ (reprints_head x) (reprints_after (punct "=>") refl _ _ _ (reprints_stmts ss)))
    reprints_expr_node (Cond c a b) unbraced =
        reprints_first unbraced (expr or_expr c) (expr2 or_expr c) _ _ (expr_kinds unbraced or_expr c) _ (at unbraced or_expr c)
        (reprints_after (punct "?") refl _ _ _ (reprints_seq (expr any_expr a) (expr2 any_expr a) _ _ (expr_kinds false any_expr a) _ (any_one a) (reprints_colon b)))
    reprints_expr_node (Chain level e more) unbraced = reprints_given_at unbraced _ _ _ _ (reprints_chain unbraced level e more)
    reprints_expr_node (Unary ops e) unbraced =
        reprints_there unbraced _ _ _ (reprints_given _ _ _ _ (reprints_seq (many prefix ops) (many prefix ops) (expr postfix_expr e) (expr2 postfix_expr e) (map prefix_kind ops) (expr_kinds false postfix_expr e) (reprints_signs ops) (one postfix_expr e)))
    reprints_expr_node (Postfix e parts) unbraced =
        reprints_given_at unbraced _ _ _ _ (reprints_first unbraced (expr primary_expr e) (expr2 primary_expr e) _ _ (expr_kinds unbraced primary_expr e) _ (at unbraced primary_expr e) (reprints_parts parts))
    reprints_expr_node (Number n) unbraced = reprints_there unbraced _ _ _ (reprints_token (kinds.Number n) refl)
    reprints_expr_node (Str s) unbraced = reprints_there unbraced _ _ _ (reprints_token (kinds.Str s) refl)
    reprints_expr_node True unbraced = reprints_there unbraced _ _ _ (reprints_token (keyword "true") refl)
    reprints_expr_node False unbraced = reprints_there unbraced _ _ _ (reprints_token (keyword "false") refl)
    reprints_expr_node Undefined unbraced = reprints_there unbraced _ _ _ (reprints_token (keyword "undefined") refl)
    reprints_expr_node (Template text hs) unbraced = reprints_there unbraced _ _ _ (reprints_template text hs)
    reprints_expr_node (Path kind text hs) unbraced = reprints_there unbraced _ _ _ (reprints_letter kind _ _ _ (reprints_template text hs))
    reprints_expr_node (Name x) unbraced = reprints_there unbraced _ _ _ (reprints_id x)
    reprints_expr_node (Elements es) unbraced =
        reprints_there unbraced _ _ _ (reprints_after (punct "[") refl _ _ _ (reprints_seq (list (element h expr stmt) (elements_of es)) (list (element h2 expr2 stmt2) (elements_of es)) (punctuator "]") (punctuator "]") (separate "," (elements_kinds es)) (punct "]" ∷ []) (reprints_elements es) (reprints_token (punct "]") refl)))
    reprints_expr_node (Object ps) unbraced =
        reprints_there unbraced _ _ _ (reprints_in_braces (list (prop h expr stmt) (props_of ps)) (list (prop h2 expr2 stmt2) (props_of ps)) (separate "," (props_kinds ps)) (reprints_props ps))

    reprints_end : (e : ExprTree) → Reprints (expr any_expr e ⋅ punctuator ";") (expr2 any_expr e ⋅ punctuator ";") (expr_kinds false any_expr e ++ (punct ";" ∷ []))
    reprints_end e = reprints_seq (expr any_expr e) (expr2 any_expr e) (punctuator ";") (punctuator ";") (expr_kinds false any_expr e) (punct ";" ∷ []) (any_one e) (reprints_token (punct ";") refl)

    reprints_value : (e : ExprTree) → Reprints (value h expr stmt e) (value h2 expr2 stmt2 e) (punct "=" ∷ expr_kinds false any_expr e)
    reprints_value e = reprints_after (punct "=") refl (expr any_expr e) (expr2 any_expr e) _ (any_one e)

    reprints_value_end : (e : ExprTree) → Reprints (value h expr stmt e ⋅ punctuator ";") (value h2 expr2 stmt2 e ⋅ punctuator ";") (punct "=" ∷ (expr_kinds false any_expr e ++ (punct ";" ∷ [])))
    reprints_value_end e = reprints_seq (value h expr stmt e) (value h2 expr2 stmt2 e) (punctuator ";") (punctuator ";") (punct "=" ∷ expr_kinds false any_expr e) (punct ";" ∷ []) (reprints_value e) (reprints_token (punct ";") refl)

    reprints_start : (o : MaybeExpr) → Reprints (optional (value h expr stmt) (expr_of o)) (optional (value h2 expr2 stmt2) (expr_of o)) (value_kinds o)
    unfolding value_kinds
    reprints_start no_expr = reprints_nothing
    reprints_start (an_expr e) = reprints_value e

    reprints_maybe : (o : MaybeExpr) → Reprints (optional (expr any_expr) (expr_of o)) (optional (expr2 any_expr) (expr_of o)) (maybe_kinds o)
    unfolding maybe_kinds
    reprints_maybe no_expr = reprints_nothing
    reprints_maybe (an_expr e) = any_one e

    -- an expression in the parentheses of a statement, and the tokens after it
    reprints_tested : (e : ExprTree) (B B2 : Language) (ys : List TokenKind) → Reprints B B2 ys
        → Reprints (expr any_expr e ⋅ punctuator ")" ⋅ B) (expr2 any_expr e ⋅ punctuator ")" ⋅ B2) (expr_kinds false any_expr e ++ (punct ")" ∷ ys))
    reprints_tested e B B2 ys b = reprints_seq (expr any_expr e) (expr2 any_expr e) _ _ (expr_kinds false any_expr e) _ (any_one e) (reprints_after (punct ")") refl B B2 ys b)

    reprints_noted : (t : Option TypeTree) (B B2 : Language) (ys : List TokenKind) → Reprints B B2 ys → Reprints (optional (type_note h) t ⋅ B) (optional (type_note h2) t ⋅ B2) (note_kinds t ++ ys)
    reprints_noted t B B2 ys b = reprints_seq (optional (type_note h) t) (optional (type_note h2) t) B B2 (note_kinds t) ys (reprints_notes t) b

    pub reprints_stmt_node : (s : StmtTree) → Reprints (stmt_node h expr stmt s) (stmt_node h2 expr2 stmt2 s) (stmt_kinds s)
    unfolding stmt_kinds
    reprints_stmt_node (Const x t e) =
        reprints_after (keyword "const") refl _ _ _ (reprints_after_id x _ _ _ (reprints_noted t _ _ _ (reprints_value_end e)))
    reprints_stmt_node (Let x t e) =
        reprints_after (keyword "let") refl _ _ _ (reprints_after_id x _ _ _ (reprints_noted t _ _ _
        (reprints_seq (optional (value h expr stmt) (expr_of e)) (optional (value h2 expr2 stmt2) (expr_of e)) (punctuator ";") (punctuator ";") (value_kinds e) (punct ";" ∷ []) (reprints_start e) (reprints_token (punct ";") refl))))
    reprints_stmt_node (Assign x e) = reprints_after_id x _ _ _ (reprints_value_end e)
    reprints_stmt_node (If c s no_stmt) =
        reprints_after (keyword "if") refl _ _ _ (reprints_after (punct "(") refl _ _ _ (reprints_tested c (stmt s) (stmt2 s) (stmt_kinds s ++ []) (reprints_alone (stmt2 s) (stmt s) (stmt_kinds s) (stmt_one s))))
    reprints_stmt_node (If c s (a_stmt other)) =
        reprints_given _ _ _ _ (reprints_after (keyword "if") refl _ _ _ (reprints_after (punct "(") refl _ _ _ (reprints_tested c _ _ _
        (reprints_seq (stmt s) (stmt2 s) _ _ (stmt_kinds s) _ (stmt_one s) (reprints_after (keyword "else") refl (stmt other) (stmt2 other) (stmt_kinds other) (stmt_one other))))))
    reprints_stmt_node (For kind x list s) =
        reprints_after (keyword "for") refl _ _ _ (reprints_after (punct "(") refl _ _ _ (reprints_loop_word kind _ _ _ (reprints_after_id x _ _ _ (reprints_after (keyword "of") refl _ _ _
        (reprints_tested list (stmt s) (stmt2 s) (stmt_kinds s) (stmt_one s))))))
    reprints_stmt_node (Return e) =
        reprints_after (keyword "return") refl _ _ _ (reprints_seq (optional (expr any_expr) (expr_of e)) (optional (expr2 any_expr) (expr_of e)) (punctuator ";") (punctuator ";") (maybe_kinds e) (punct ";" ∷ []) (reprints_maybe e) (reprints_token (punct ";") refl))
    reprints_stmt_node (Value e) =
        reprints_seq (not_before "{" (expr any_expr e)) (not_before "{" (expr2 any_expr e)) (punctuator ";") (punctuator ";") (expr_kinds true any_expr e) (punct ";" ∷ []) (reprints_unbraced e) (reprints_token (punct ";") refl)
    reprints_stmt_node (Block ss) = reprints_stmts ss
    reprints_stmt_node Empty = reprints_token (punct ";") refl

-- whether the tokens begin with `{`
is_brace : List ℕ → Bool
is_brace (b ∷ []) = b == 0x7b
is_brace _ = false

begins : List TokenKind → Bool
begins (kinds.Punct s ∷ _) = is_brace s
begins _ = false

clear_if : (ts : List TokenKind) → begins ts ≡ false → Clear ts
unfolding begins is_brace
clear_if ts e more is = false≢true (sym e ∙ ap begins is)

placed_begins : (b : Bool) (node : Bool → List TokenKind) (more : List TokenKind) → (b ≡ false → begins (node true ++ more) ≡ false) → begins (placed b true node ++ more) ≡ false
unfolding begins is_brace
placed_begins true node more p = refl
placed_begins false node more p = p refl

or_last : (a b : Bool) → a || b ≡ false → b ≡ false
or_last true b e = absurd (false≢true (sym e))
or_last false b e = e

begins_before : (xs ys more : List TokenKind) → begins (xs ++ (ys ++ more)) ≡ false → begins ((xs ++ ys) ++ more) ≡ false
begins_before xs ys more e = subst (λ (zs : List TokenKind). begins zs ≡ false) (sym (append_assoc xs ys more)) e

head_begins : (x : HeadTree) (ys : List TokenKind) → begins (head_kinds x ++ ys) ≡ false
unfolding begins is_brace
head_begins (Single x) ys = refl
head_begins (Params ps) ys = refl

letter_begins : (k : PathKind) (ys : List TokenKind) → begins (letter_kind k ∷ ys) ≡ false
unfolding begins is_brace
letter_begins letters.Path ys = refl
letter_begins letters.File ys = refl
letter_begins letters.Directory ys = refl
letter_begins letters.Relative ys = refl
letter_begins letters.Atom ys = refl

prefix_begins : (s : UnaryOp) (ys : List TokenKind) → begins (prefix_kind s ∷ ys) ≡ false
unfolding begins is_brace
prefix_begins unary.Not ys = refl
prefix_begins unary.Negate ys = refl

text_begins : (hs : HoleTrees) (text : List ℕ) (ys : List TokenKind) → begins (first_text hs text ∷ ys) ≡ false
unfolding begins is_brace
text_begins no_holes text ys = refl
text_begins (more_holes _ _) text ys = refl

-- a node other than an object does not begin with `{` where that is not allowed
node_begins : (h level : ℕ) (e : ExprTree) (ts rest more : List TokenKind) → is_object e ≡ false → expr_at h level e ts rest → begins (node_kinds e true ++ more) ≡ false
unfolding expr_at node_kinds begins is_brace
node_begins zero level e ts rest more n d = absurd d
node_begins (suc h) level (Arrow x e) ts rest more n (inl p) = begins_before (head_kinds x) _ more (head_begins x _)
node_begins (suc h) level (BlockArrow x ss) ts rest more n (inl p) = begins_before (head_kinds x) _ more (head_begins x _)
node_begins (suc h) level (Cond c a b) ts rest more n (inl p) =
    begins_before (expr_kinds true or_expr c) _ more
    (placed_begins (is_enclosed true or_expr c) (node_kinds c) _ (λ e. node_begins h or_expr c ts p.1.0 _ (or_last _ _ e) p.1.1))
node_begins (suc h) level (Chain zero e xs) ts rest more n (inl p) = absurd (p.1.1)
node_begins (suc h) level (Chain (suc tight) e xs) ts rest more n (inl p) =
    begins_before (expr_kinds true tight e) _ more
    (placed_begins (is_enclosed true tight e) (node_kinds e) _ (λ q. node_begins h tight e ts p.1.1.1.0 _ (or_last _ _ q) p.1.1.1.1))
node_begins (suc h) level (Unary [] e) ts rest more n (inl p) = absurd (omega (arith, p.1.0))
node_begins (suc h) level (Unary (op ∷ ops) e) ts rest more n (inl p) = prefix_begins op ((map prefix_kind ops ++ expr_kinds false postfix_expr e) ++ more)
node_begins (suc h) level (Postfix e parts) ts rest more n (inl p) =
    begins_before (expr_kinds true primary_expr e) _ more
    (placed_begins (is_enclosed true primary_expr e) (node_kinds e) _ (λ q. node_begins h primary_expr e ts p.1.1.0 _ (or_last _ _ q) p.1.1.1))
node_begins (suc h) level (Number _) ts rest more n (inl p) = refl
node_begins (suc h) level (Str _) ts rest more n (inl p) = refl
node_begins (suc h) level True ts rest more n (inl p) = refl
node_begins (suc h) level False ts rest more n (inl p) = refl
node_begins (suc h) level Undefined ts rest more n (inl p) = refl
node_begins (suc h) level (Template text hs) ts rest more n (inl p) = text_begins hs text _
node_begins (suc h) level (Path kind text hs) ts rest more n (inl p) = letter_begins kind _
node_begins (suc h) level (Name _) ts rest more n (inl p) = refl
node_begins (suc h) level (Elements _) ts rest more n (inl p) = refl
node_begins (suc h) level (Object _) ts rest more n (inl p) = absurd (false≢true (sym n))
node_begins (suc h) level e ts rest more n (inr p) = node_begins h any_expr e p.0 p.2.0 more n p.2.1

expr_clear : (h level : ℕ) (e : ExprTree) (ts rest : List TokenKind) → expr_at h level e ts rest → (more : List TokenKind) → Clear (expr_kinds true level e ++ more)
expr_clear h level e ts rest d more =
    clear_if _ (placed_begins (is_enclosed true level e) (node_kinds e) more (λ q. node_begins h level e ts rest more (or_last _ _ q) d))

-- whether an expression is allowed: its tokens do not begin with `{`, or the height allows a pair of parentheses
abbrev Free : ℕ → ℕ → Bool → List TokenKind → Type 0
Free h m unbraced ts = unbraced ≡ true → Clear ts ⊎ (suc h ≤ m)

-- nodes that some tokens derive at this height are printed within each height that is no less
record Layer (k : ℕ) : Type 0 where
  exprs : (m : ℕ) → k ≤ m → (e : ExprTree) (unbraced : Bool) (ts rest : List TokenKind) → Free k m unbraced ts → AllSpell ts
      → expr_node k (expr_at k) (stmt_at k) e ts rest → IsReprint (expr_node m (expr_at m) (stmt_at m) e) (node_kinds e unbraced) rest
  stmts : (m : ℕ) → k ≤ m → (s : StmtTree) → Reprints (stmt_node k (expr_at k) (stmt_at k) s) (stmt_node m (expr_at m) (stmt_at m) s) (stmt_kinds s)

-- a node that some tokens derive, below the parentheses around it
record Inner (h level : ℕ) (e : ExprTree) (ts rest : List TokenKind) : Type 0 where
  k : ℕ
  unbraced : List TokenKind
  back : List TokenKind
  node : expr_node k (expr_at k) (stmt_at k) e unbraced back
  place : ((expr_precedence e ≤ level) × (suc k ≤ h) × (unbraced ≡ ts)) ⊎ (suc (suc k) ≤ h)
  fine : AllSpell unbraced
  left : AllSpell back → AllSpell rest

unwrapped : (h level : ℕ) (e : ExprTree) (ts rest : List TokenKind) → AllSpell ts → expr_at h level e ts rest → Inner h level e ts rest
unfolding expr_at
unwrapped zero level e ts rest fine d = absurd d
unwrapped (suc h) level e ts rest fine (inl p) =
    record { k = h; unbraced = ts; back = rest; node = p.1; place = inl (p.0, omega arith, refl); fine = fine; left = λ f. f }
unwrapped (suc h) level e ts rest fine (inr p) =
    let i = unwrapped h any_expr e p.0 p.2.0 (token_left (punct "(") ts p.0 fine p.1).1 p.2.1 in
    record { k = i.k; unbraced = i.unbraced; back = i.back; node = i.node; place = inr (within i.k i.place); fine = i.fine; left = λ f. (token_left (punct ")") p.2.0 rest (i.left f) p.2.2).1 }
  where
    within : {A B : Type 0} (k : ℕ) → ((A × (suc k ≤ h) × B) ⊎ (suc (suc k) ≤ h)) → suc (suc k) ≤ suc h
    within k (inl q) = omega (arith, q.1)
    within k (inr q) = omega (arith, q)

-- each node that some tokens derive has at most the level of any expression
tight_enough : (h : ℕ) (e : ExprTree) (ts rest : List TokenKind) → expr_node h (expr_at h) (stmt_at h) e ts rest → expr_precedence e ≤ any_expr
tight_enough h (Arrow _ _) ts rest d = omega arith
tight_enough h (BlockArrow _ _) ts rest d = omega arith
tight_enough h (Cond _ _ _) ts rest d = omega arith
tight_enough h (Chain level _ _) ts rest d = omega (arith, d.0.1)
tight_enough h (Unary _ _) ts rest d = omega arith
tight_enough h (Postfix _ _) ts rest d = omega arith
tight_enough h (Number _) ts rest d = omega arith
tight_enough h (Str _) ts rest d = omega arith
tight_enough h True ts rest d = omega arith
tight_enough h False ts rest d = omega arith
tight_enough h Undefined ts rest d = omega arith
tight_enough h (Template _ _) ts rest d = omega arith
tight_enough h (Path _ _ _) ts rest d = omega arith
tight_enough h (Name _) ts rest d = omega arith
tight_enough h (Elements _) ts rest d = omega arith
tight_enough h (Object _) ts rest d = omega arith

node_placed : (m k level : ℕ) (e : ExprTree) (unbraced : Bool) (ts rest : List TokenKind) → suc k ≤ m → expr_precedence e ≤ level → Layer k → (unbraced ≡ true → Clear ts ⊎ (suc (suc k) ≤ m)) → AllSpell ts
    → expr_node k (expr_at k) (stmt_at k) e ts rest → IsReprint (expr_at m level e) (node_kinds e unbraced) rest
unfolding expr_at
node_placed zero k level e unbraced ts rest le tight layer free fine d = absurd (omega (arith, le))
node_placed (suc m) k level e unbraced ts rest le tight layer free fine d =
    let s = layer.exprs m (omega (arith, le)) e unbraced ts rest (λ q. lower (free q)) fine d in
    record { derived = λ more. inl (tight, s.derived more); fine = s.fine; left = s.left }
  where
    lower : Clear ts ⊎ (suc (suc k) ≤ suc m) → Clear ts ⊎ (suc k ≤ m)
    lower (inl c) = inl c
    lower (inr l) = inr (omega (arith, l))

enclosed_placed : (m k level : ℕ) (e : ExprTree) (ts rest : List TokenKind) → suc (suc k) ≤ m → Layer k → AllSpell ts
    → expr_node k (expr_at k) (stmt_at k) e ts rest → IsReprint (expr_at m level e) (enclosed (node_kinds e false)) rest
unfolding expr_at
enclosed_placed zero k level e ts rest le layer fine d = absurd (omega (arith, le))
enclosed_placed (suc m) k level e ts rest le layer fine d =
    let s = reprint_enclosed (expr_at m any_expr e) (node_kinds e false) rest
    (node_placed m k any_expr e false ts rest (omega (arith, le)) (tight_enough k e ts rest d) layer (λ q. absurd (false≢true q)) fine d) in
    record { derived = λ more. inr (s.derived more); fine = s.fine; left = s.left }

-- an object begins with `{`
object_unclear : (k : ℕ) (e : ExprTree) (ts rest : List TokenKind) → is_object e ≡ true → expr_node k (expr_at k) (stmt_at k) e ts rest → Clear ts → ⊥
object_unclear k (Object ps) ts rest o d c = c d.0 d.1
object_unclear k (Arrow _ _) ts rest o d c = false≢true o
object_unclear k (BlockArrow _ _) ts rest o d c = false≢true o
object_unclear k (Cond _ _ _) ts rest o d c = false≢true o
object_unclear k (Chain _ _ _) ts rest o d c = false≢true o
object_unclear k (Unary _ _) ts rest o d c = false≢true o
object_unclear k (Postfix _ _) ts rest o d c = false≢true o
object_unclear k (Number _) ts rest o d c = false≢true o
object_unclear k (Str _) ts rest o d c = false≢true o
object_unclear k True ts rest o d c = false≢true o
object_unclear k False ts rest o d c = false≢true o
object_unclear k Undefined ts rest o d c = false≢true o
object_unclear k (Template _ _) ts rest o d c = false≢true o
object_unclear k (Path _ _ _) ts rest o d c = false≢true o
object_unclear k (Name _) ts rest o d c = false≢true o
object_unclear k (Elements _) ts rest o d c = false≢true o

-- where parentheses are needed, the height allows them
depth_for_parens : (h m level : ℕ) (unbraced : Bool) (e : ExprTree) (ts rest : List TokenKind) → h ≤ m → Free h m unbraced ts → is_enclosed unbraced level e ≡ true → (i : Inner h level e ts rest) → suc (suc i.k) ≤ m
depth_for_parens h m level unbraced e ts rest le free needed i = by i.place
  where
    by_object : (tight : expr_precedence e ≤ level) (within : suc i.k ≤ h) (same : i.unbraced ≡ ts) → nat_lt level (expr_precedence e) ≡ false → (f : Bool) → f ≡ unbraced → (f && is_object e) ≡ true → suc (suc i.k) ≤ m
    by_object tight within same t false q o = absurd (false≢true o)
    by_object tight within same t true q o = of (free (sym q))
      where
        of : Clear ts ⊎ (suc h ≤ m) → suc (suc i.k) ≤ m
        of (inl c) = absurd (object_unclear i.k e i.unbraced i.back o i.node (λ more is. c more (sym same ∙ is)))
        of (inr l) = omega (arith, l, within)

    or_second : (a b : Bool) → a ≡ false → a || b ≡ true → b ≡ true
    or_second true b x y = absurd (false≢true (sym x))
    or_second false b x y = y

    by : ((expr_precedence e ≤ level) × (suc i.k ≤ h) × (i.unbraced ≡ ts)) ⊎ (suc (suc i.k) ≤ h) → suc (suc i.k) ≤ m
    by (inr l) = omega (arith, l, le)
    by (inl q) =
        let t : nat_lt level (expr_precedence e) ≡ false = grind (arith, nat_tests, q.0) in
        by_object q.0 q.1 q.2 t unbraced refl (or_second (nat_lt level (expr_precedence e)) (unbraced && is_object e) t needed)

or_first : (a b : Bool) → a || b ≡ false → a ≡ false
or_first true b e = e
or_first false b e = refl

expr_placed : (h : ℕ) → ((k : ℕ) → k < h → Layer k) → (m : ℕ) → h ≤ m → (unbraced : Bool) (level : ℕ) (e : ExprTree) (ts rest : List TokenKind) → Free h m unbraced ts → AllSpell ts
    → expr_at h level e ts rest → IsReprint (expr_at m level e) (expr_kinds unbraced level e) rest
expr_placed h below m le unbraced level e ts rest free fine d = by (is_enclosed unbraced level e) refl
  where
    i : Inner h level e ts rest
    i = unwrapped h level e ts rest fine d

    within : ((expr_precedence e ≤ level) × (suc i.k ≤ h) × (i.unbraced ≡ ts)) ⊎ (suc (suc i.k) ≤ h) → suc i.k ≤ h
    within (inl q) = q.1
    within (inr q) = omega (arith, q)

    left : (xs : List TokenKind) → IsReprint (expr_at m level e) xs i.back → IsReprint (expr_at m level e) xs rest
    left xs s = record { derived = s.derived; fine = s.fine; left = i.left s.left }

    layer : Layer i.k
    layer = below i.k (omega (arith, within i.place))

    at_start : ((expr_precedence e ≤ level) × (suc i.k ≤ h) × (i.unbraced ≡ ts)) ⊎ (suc (suc i.k) ≤ h) → unbraced ≡ true → Clear i.unbraced ⊎ (suc (suc i.k) ≤ m)
    at_start (inr l) q = inr (omega (arith, l, le))
    at_start (inl p) q = of (free q)
      where
        of : Clear ts ⊎ (suc h ≤ m) → Clear i.unbraced ⊎ (suc (suc i.k) ≤ m)
        of (inl c) = inl (λ more is. c more (sym p.2 ∙ is))
        of (inr l) = inr (omega (arith, l, p.1))

    by : (b : Bool) → is_enclosed unbraced level e ≡ b → IsReprint (expr_at m level e) (placed b unbraced (node_kinds e)) rest
    by false q =
        let tight : expr_precedence e ≤ level = grind (arith, nat_tests, or_first (nat_lt level (expr_precedence e)) (unbraced && is_object e) q) in
        left (node_kinds e unbraced) (node_placed m i.k level e unbraced i.unbraced i.back (omega (arith, le, within i.place)) tight layer (at_start i.place) i.fine i.node)
    by true q =
        left (enclosed (node_kinds e false)) (enclosed_placed m i.k level e i.unbraced i.back (depth_for_parens h m level unbraced e ts rest le free q i) layer i.fine i.node)

stmt_placed : (h : ℕ) → ((k : ℕ) → k < h → Layer k) → (m : ℕ) → h ≤ m → (s : StmtTree) → Reprints (stmt_at h s) (stmt_at m s) (stmt_kinds s)
unfolding expr_at
stmt_placed zero below m le s = λ ts rest fine d. absurd d
stmt_placed (suc k) below zero le s = absurd (omega (arith, le))
stmt_placed (suc k) below (suc m) le s = (below k (omega arith)).stmts m (omega (arith, le)) s

layers : (n k : ℕ) → k < n → Layer k
layers zero k l = absurd (omega (arith, l))
layers (suc n) k l =
    let below : (j : ℕ) → j < k → Layer j = λ j lj. layers n j (omega (arith, l, lj)) in
    record {
      exprs = λ m le e unbraced ts rest free.
          reprints_expr_node k m le (expr_at k) (expr_at m) (stmt_at k) (stmt_at m) (Free k m) (λ us q. absurd (false≢true q)) (λ us c q. inl c)
          (λ f level x us vs fr. expr_placed k below m le f level x us vs fr) (λ x us vs dx. expr_clear k any_expr x us vs dx) (λ s. stmt_placed k below m le s) e unbraced ts rest free;
      stmts = λ m le s.
          reprints_stmt_node k m le (expr_at k) (expr_at m) (stmt_at k) (stmt_at m) (Free k m) (λ us q. absurd (false≢true q)) (λ us c q. inl c)
          (λ f level x us vs fr. expr_placed k below m le f level x us vs fr) (λ x us vs dx. expr_clear k any_expr x us vs dx) (λ t. stmt_placed k below m le t) s;
    }

-- an expression and a statement that tokens derive, printed within their height
pub expr_reprint : (h m : ℕ) → h ≤ m → (e : ExprTree) → Reprints (expr_at h any_expr e) (expr_at m any_expr e) (expr_kinds false any_expr e)
expr_reprint h m le e ts rest fine d = expr_placed h (λ k l. layers h k l) m le false any_expr e ts rest (λ q. absurd (false≢true q)) fine d

pub stmt_reprint : (h m : ℕ) → h ≤ m → (s : StmtTree) → Reprints (stmt_at h s) (stmt_at m s) (stmt_kinds s)
stmt_reprint h m le s = stmt_placed h (λ k l. layers h k l) m le s
