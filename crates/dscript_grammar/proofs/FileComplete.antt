-- The readers of items and declarations are complete: what is derived at the start is read.
use Prim.Native.String.{String as Letters}
use Rattle.std.proofs.Common.{◌≡◌, ℕ, zero, suc, ◌<◌, ◌≤◌, true, false, not, List, [], ◌∷◌, length, Option, Some, None, codes, refl, ap, ◌∙◌, arith}
use Rattle.dscript_lex.specs.declared.token.TokenKind.{TokenKind}
use Rattle.dscript_lex.specs.declared.token.TokenKind.TheVariants as kinds
use Rattle.dscript_grammar.specs.Reading.{Reader, got, and_then, choose, is_punctuator, is_keyword, at_punctuator, take_punctuator, take_keyword, read_identifier}
use Rattle.dscript_ast.specs.TypeTree.{TypeTree}
use Rattle.dscript_grammar.specs.TypeGrammar.{any_type, type_at, body}
use Rattle.dscript_grammar.specs.TypeReading.{read_type}
use Rattle.dscript_ast.specs.ExprTree.{ExprTree}
use Rattle.dscript_grammar.specs.ExprGrammar.{any_expr, expr_at, stmt_at, type_note, params}
use Rattle.dscript_grammar.specs.ExprReading.{read_expr, read_stmt}
use Rattle.dscript_ast.specs.FileTree.{MarkedTree, Marked, DeclTree, Const, Function, Namespace, Interface, TypeAlias, marked_of, ImportTree, ItemTree, ImportAll, ImportNames, Declared, Empty}
use Rattle.dscript_grammar.specs.FileGrammar.{import_name, mark, type_params, extends, block_at, decl_node, marked_at, item_at}
use Rattle.dscript_grammar.specs.FileReading.{read_import_name, read_mark, read_type_params, read_extends, read_const, read_function, read_namespace, read_interface, read_alias, read_decl, read_declared, read_marked, read_source, read_import_all, read_import_names, read_import, read_item, read_called}
use Rattle.dscript_ast.specs.declared.file.Mark.{Mark}
use Rattle.dscript_ast.specs.declared.file.Mark.TheVariants as marks
use Rattle.dscript_grammar.specs.Language.{Language, keyword, punctuator, identifier, string, ◌⋅◌, optional, many, separated}
use Rattle.dscript_grammar.proofs.Combinators.{Reads, reads_done, reads_bind, take_bind, choose_some, choose_none, reads_moved, punctuator_taken, keyword_taken, identifier_complete, string_complete, many_complete, separated_complete, list_complete, NotLonger, Consumes, token_consumes, identifier_consumes, not_longer, consumes_then, not_longer_then, many_count, many_not_longer, separated_count, separated_consumes, list_count, list_not_longer}
use Rattle.dscript_ast.proofs.TreeLists.{to_marked-of}
use Rattle.dscript_grammar.proofs.TypeComplete.{EndsType, ends_at, not_taken, at_first, reads_as, type_consumes, type_complete, body_consumes, body_complete, nothing_not_longer}
use Rattle.dscript_grammar.proofs.ExprLengths.{optional_not_longer, note_consumes, params_consumes, expr_consumes, stmt_consumes}
use Rattle.dscript_grammar.proofs.ExprFirst.{keyword_not_taken}
use Rattle.dscript_grammar.proofs.ExprComplete.{stops_at, after_note, expr_complete, stmt_complete, note_complete, params_complete, block_complete, value_complete}

-- How many tokens declarations and items consume.
pub import_name_consumes : (i : ImportTree) → Consumes (import_name i)
import_name_consumes i ts rest p =
    consumes_then (identifier_consumes i.name) (optional_not_longer (λ x. keyword "as" ⋅ identifier x) (λ x us vs q. consumes_then (token_consumes _) (not_longer (identifier_consumes x)) us vs q) i.alias) ts rest p

mark_not_longer : (m : Mark) → NotLonger (mark m)
mark_not_longer marks.Plain ts rest p = nothing_not_longer ts rest p
mark_not_longer marks.Export ts rest p = not_longer (token_consumes _) ts rest p
mark_not_longer marks.Public ts rest p = not_longer (consumes_then (token_consumes _) (not_longer (consumes_then (token_consumes _) (not_longer (token_consumes _))))) ts rest p

pub type_params_not_longer : (xs : List (List ℕ)) → NotLonger (type_params xs)
type_params_not_longer [] ts rest p = nothing_not_longer ts rest p
type_params_not_longer (x ∷ more) ts rest p = not_longer (consumes_then (token_consumes _) (not_longer (consumes_then (separated_consumes identifier identifier_consumes "," (x ∷ more)) (not_longer (token_consumes _))))) ts rest p

pub extends_not_longer : (h : ℕ) (xs : List TypeTree) → NotLonger (extends h xs)
extends_not_longer h [] ts rest p = nothing_not_longer ts rest p
extends_not_longer h (x ∷ more) ts rest p = not_longer (consumes_then (token_consumes _) (not_longer (separated_consumes (type_at h any_type) (type_consumes h any_type) "," (x ∷ more)))) ts rest p

module _ (h : ℕ) (marked : MarkedTree → Language) (consumes : (m : MarkedTree) → Consumes (marked m)) where
  decl_consumes : (d : DeclTree) → Consumes (decl_node h marked d)
  decl_consumes (Const x t e) ts rest p =
      consumes_then (token_consumes _) (not_longer (consumes_then (identifier_consumes x) (not_longer_then (optional_not_longer (type_note h) (note_consumes h) t)
      (not_longer (consumes_then (token_consumes _) (not_longer (consumes_then (expr_consumes h any_expr e) (not_longer (token_consumes _))))))))) ts rest p
  decl_consumes (Function x ps xs t ss) ts rest p =
      consumes_then (token_consumes _) (not_longer (consumes_then (identifier_consumes x) (not_longer_then (type_params_not_longer ps) (not_longer (consumes_then (params_consumes h xs) (not_longer_then (optional_not_longer (type_note h) (note_consumes h) t)
      (not_longer (consumes_then (token_consumes _) (not_longer_then (many_not_longer (stmt_at h) (stmt_consumes h) ss) (not_longer (token_consumes _))))))))))) ts rest p
  decl_consumes (Namespace xs row) ts rest p =
      consumes_then (token_consumes _) (not_longer (consumes_then (separated_consumes identifier identifier_consumes "." xs) (not_longer (consumes_then (token_consumes _) (not_longer_then (many_not_longer marked consumes (marked_of row)) (not_longer (token_consumes _))))))) ts rest p
  decl_consumes (Interface x ps es ms) ts rest p =
      consumes_then (token_consumes _) (not_longer (consumes_then (identifier_consumes x) (not_longer_then (type_params_not_longer ps) (not_longer_then (extends_not_longer h es) (not_longer (body_consumes (type_at h) (type_consumes h) ms)))))) ts rest p
  decl_consumes (TypeAlias x ps t) ts rest p =
      consumes_then (token_consumes _) (not_longer (consumes_then (identifier_consumes x) (not_longer_then (type_params_not_longer ps) (not_longer (consumes_then (token_consumes _) (not_longer (consumes_then (type_consumes h any_type t) (not_longer (token_consumes _))))))))) ts rest p

marked_consumes : (h : ℕ) (m : MarkedTree) → Consumes (marked_at h m)
unfolding marked_at
marked_consumes zero m ts rest p = absurd p
marked_consumes (suc h) (Marked m d) ts rest (mid, p, q) =
    let l : length mid ≤ length ts = mark_not_longer m ts mid p in
    let k : length rest < length mid = decl_consumes h (marked_at h) (marked_consumes h) d mid rest q in omega arith

pub item_consumes : (h : ℕ) (i : ItemTree) → Consumes (item_at h i)
unfolding item_at
item_consumes zero i ts rest p = absurd p
item_consumes (suc h) (ImportAll x s) ts rest p =
    consumes_then (token_consumes _) (not_longer (consumes_then (token_consumes _) (not_longer (consumes_then (token_consumes _) (not_longer (consumes_then (identifier_consumes x) (not_longer (consumes_then (token_consumes _) (not_longer (consumes_then (token_consumes _) (not_longer (token_consumes _)))))))))))) ts rest p
item_consumes (suc h) (ImportNames xs s) ts rest p =
    consumes_then (token_consumes _) (not_longer (consumes_then (token_consumes _) (not_longer_then (list_not_longer import_name import_name_consumes xs) (not_longer (consumes_then (token_consumes _) (not_longer (consumes_then (token_consumes _) (not_longer (consumes_then (token_consumes _) (not_longer (token_consumes _))))))))))) ts rest p
item_consumes (suc h) (Declared m) ts rest p = marked_consumes (suc h) m ts rest p
item_consumes (suc h) Empty ts rest p = token_consumes _ ts rest p

-- Reading.
import_name_complete : (h : ℕ) (i : ImportTree) (ts rest : List TokenKind) → import_name i ts rest → take_keyword "as" rest ≡ None → Reads (read_import_name ts) h i rest
unfolding read_import_name
import_name_complete h i ts rest (m, p, q) none = reads_bind _ (identifier_complete {h = h} p) λ a la. by i.alias q
  where
    by : (o : Option (List ℕ)) → optional (λ x. keyword "as" ⋅ identifier x) o m rest
        → Reads {X = ImportTree} (choose (take_keyword "as" m) (got {X = ImportTree} (record { name = i.name; alias = None }) 0 m) (λ r. and_then (read_identifier r) (λ y. got {X = ImportTree} (record { name = i.name; alias = Some y.value }) 0 y.rest))) h (record { name = i.name; alias = o }) rest
    by None e = choose_none _ (ap (take_keyword "as") e ∙ none) (reads_moved e (omega arith))
    by (Some x) (m2, w, s) = choose_some _ _ (keyword_taken "as" w) (reads_bind _ (identifier_complete {h = h} s) λ b lb. reads_done (omega arith))

mark_complete : (h : ℕ) (m : Mark) (ts rest : List TokenKind) → mark m ts rest → take_punctuator "@@" rest ≡ None → take_keyword "export" rest ≡ None → Reads (read_mark ts) h m rest
unfolding read_mark
mark_complete h marks.Plain ts rest e a b = choose_none _ (ap (take_punctuator "@@") e ∙ a) (choose_none _ (ap (take_keyword "export") e ∙ b) (reads_moved e (omega arith)))
mark_complete h marks.Export ts rest e a b = choose_none _ (not_taken "@@" e refl) (choose_some _ _ (keyword_taken "export" e) (reads_done (omega arith)))
mark_complete h marks.Public ts rest (m, e, (m2, w, w2)) a b =
    choose_some _ _ (punctuator_taken "@@" e) (take_bind _ (keyword_taken "public" w) (take_bind _ (keyword_taken "export" w2) (reads_done (omega arith))))

type_params_complete : (h : ℕ) (xs : List (List ℕ)) (ts rest : List TokenKind) → type_params xs ts rest → take_punctuator "<" rest ≡ None → Reads (read_type_params ts) h xs rest
unfolding read_type_params
type_params_complete h [] ts rest e none = choose_none _ (ap (take_punctuator "<") e ∙ none) (reads_moved e (omega arith))
type_params_complete h (x ∷ more) ts rest (m, e, (m2, p, e2)) none =
    choose_some _ _ (punctuator_taken "<" e)
    (reads_bind _ (separated_complete identifier read_identifier h (λ us. Unit {0}) (λ y us vs q u. identifier_complete q) "," (λ us after c. tt) (x ∷ more) m m2 (length m) p (not_taken "," e2 refl) tt
    (omega (arith, separated_count identifier identifier_consumes "," (x ∷ more) m m2 p))) λ i li. take_bind _ (punctuator_taken ">" e2) (reads_done (omega arith)))

-- the tokens that may follow the types that an interface extends
extends_complete : (depth h : ℕ) → h ≤ depth → (xs : List TypeTree) (ts m rest : List TokenKind) → extends h xs ts m → punctuator "{" m rest → Reads (read_extends depth ts) h xs m
unfolding read_extends
extends_complete depth h fits [] ts m rest e b = choose_none _ (keyword_not_taken "extends" (e ∙ b) refl) (reads_moved e (omega arith))
extends_complete depth h fits (x ∷ more) ts m rest (m2, w, p) b =
    choose_some _ _ (keyword_taken "extends" w)
    (separated_complete (type_at h any_type) (read_type depth) h EndsType (type_complete depth h fits) "," (λ us after c. ends_at c refl refl refl refl) (x ∷ more) m2 m (length m2) p (not_taken "," b refl) (ends_at b refl refl refl refl)
    (omega (arith, separated_count (type_at h any_type) (type_consumes h any_type) "," (x ∷ more) m2 m p)))

extends_angle : (h : ℕ) (xs : List TypeTree) (ts m rest : List TokenKind) → extends h xs ts m → punctuator "{" m rest → take_punctuator "<" ts ≡ None
extends_angle h [] ts m rest e b = not_taken "<" (e ∙ b) refl
extends_angle h (x ∷ more) ts m rest p b = not_taken "<" p.1 refl

-- a declaration begins with its keyword
decl_no_punctuator : (s : Letters) (h : ℕ) (marked : MarkedTree → Language) (d : DeclTree) (ts rest : List TokenKind) → is_punctuator s (kinds.Word (codes "const")) ≡ false → is_punctuator s (kinds.Word (codes "function")) ≡ false
    → is_punctuator s (kinds.Word (codes "namespace")) ≡ false → is_punctuator s (kinds.Word (codes "interface")) ≡ false → is_punctuator s (kinds.Word (codes "type")) ≡ false → decl_node h marked d ts rest → at_punctuator s ts ≡ false
decl_no_punctuator s h marked (Const x t e) ts rest a b c d f p = at_first s p.1 ∙ a
decl_no_punctuator s h marked (Function x ps xs t ss) ts rest a b c d f p = at_first s p.1 ∙ b
decl_no_punctuator s h marked (Namespace xs row) ts rest a b c d f p = at_first s p.1 ∙ c
decl_no_punctuator s h marked (Interface x ps es ms) ts rest a b c d f p = at_first s p.1 ∙ d
decl_no_punctuator s h marked (TypeAlias x ps t) ts rest a b c d f p = at_first s p.1 ∙ f

decl_no_taken : (s : Letters) (h : ℕ) (marked : MarkedTree → Language) (d : DeclTree) (ts rest : List TokenKind) → is_punctuator s (kinds.Word (codes "const")) ≡ false → is_punctuator s (kinds.Word (codes "function")) ≡ false
    → is_punctuator s (kinds.Word (codes "namespace")) ≡ false → is_punctuator s (kinds.Word (codes "interface")) ≡ false → is_punctuator s (kinds.Word (codes "type")) ≡ false → decl_node h marked d ts rest → take_punctuator s ts ≡ None
decl_no_taken s h marked (Const x t e) ts rest a b c d f p = not_taken s p.1 a
decl_no_taken s h marked (Function x ps xs t ss) ts rest a b c d f p = not_taken s p.1 b
decl_no_taken s h marked (Namespace xs row) ts rest a b c d f p = not_taken s p.1 c
decl_no_taken s h marked (Interface x ps es ms) ts rest a b c d f p = not_taken s p.1 d
decl_no_taken s h marked (TypeAlias x ps t) ts rest a b c d f p = not_taken s p.1 f

decl_no_keyword : (w : Letters) (h : ℕ) (marked : MarkedTree → Language) (d : DeclTree) (ts rest : List TokenKind) → is_keyword w (kinds.Word (codes "const")) ≡ false → is_keyword w (kinds.Word (codes "function")) ≡ false
    → is_keyword w (kinds.Word (codes "namespace")) ≡ false → is_keyword w (kinds.Word (codes "interface")) ≡ false → is_keyword w (kinds.Word (codes "type")) ≡ false → decl_node h marked d ts rest → take_keyword w ts ≡ None
decl_no_keyword w h marked (Const x t e) ts rest a b c d f p = keyword_not_taken w p.1 a
decl_no_keyword w h marked (Function x ps xs t ss) ts rest a b c d f p = keyword_not_taken w p.1 b
decl_no_keyword w h marked (Namespace xs row) ts rest a b c d f p = keyword_not_taken w p.1 c
decl_no_keyword w h marked (Interface x ps es ms) ts rest a b c d f p = keyword_not_taken w p.1 d
decl_no_keyword w h marked (TypeAlias x ps t) ts rest a b c d f p = keyword_not_taken w p.1 f

module _ (depth : ℕ) (marked : Reader MarkedTree)
    (complete : (h : ℕ) → h ≤ depth → (m : MarkedTree) (ts rest : List TokenKind) → marked_at h m ts rest → Reads (marked ts) h m rest) where
  marked_start : (h : ℕ) (m : MarkedTree) (ts rest : List TokenKind) → marked_at h m ts rest → (not (at_punctuator "}" ts) ≡ true) × Unit {0}
  unfolding marked_at
  marked_start zero m ts rest p = absurd p
  marked_start (suc h) (Marked marks.Export d) ts rest p = (ap not (at_first "}" p.1), tt)
  marked_start (suc h) (Marked marks.Public d) ts rest p = (ap not (at_first "}" p.1.1), tt)
  marked_start (suc h) (Marked marks.Plain d) ts rest (m, e, p) = (ap (λ us. not (at_punctuator "}" us)) e ∙ ap not (decl_no_punctuator "}" h (marked_at h) d m rest refl refl refl refl refl p), tt)

  const_complete : (h : ℕ) → h ≤ depth → (x : List ℕ) (t : Option TypeTree) (e : ExprTree) (ts m rest : List TokenKind) → (identifier x ⋅ optional (type_note h) t ⋅ punctuator "=" ⋅ expr_at h any_expr e ⋅ punctuator ";") m rest
      → Reads (read_const depth marked m) h (Const x t e) rest
  unfolding read_const
  const_complete h fits x t e ts m rest (m2, p, (m3, q, r)) =
      reads_bind _ (identifier_complete {h = h} p) λ i li. reads_bind _ (note_complete depth (read_expr depth) (read_stmt depth) (expr_complete depth) (stmt_complete depth) h fits t m2 m3 q (after_note r.1 refl refl refl refl refl)) λ j lj.
      reads_bind _ (value_complete depth (read_expr depth) (read_stmt depth) (expr_complete depth) (stmt_complete depth) h fits e m3 rest r) λ k lk. reads_done (omega arith)

  function_complete : (h : ℕ) → h ≤ depth → (x : List ℕ) (ps : List (List ℕ)) (xs : _) (t : Option TypeTree) (ss : _) (m rest : List TokenKind)
      → (identifier x ⋅ type_params ps ⋅ params h xs ⋅ optional (type_note h) t ⋅ block_at h ss) m rest → Reads (read_function depth marked m) h (Function x ps xs t ss) rest
  unfolding read_function
  function_complete h fits x ps xs t ss m rest (m2, p, (m3, q, (m4, r, (m5, s, u)))) =
      reads_bind _ (identifier_complete {h = h} p) λ a la. reads_bind _ (type_params_complete h ps m2 m3 q (not_taken "<" r.1 refl)) λ b lb.
      reads_bind _ (params_complete depth (read_expr depth) (read_stmt depth) (expr_complete depth) (stmt_complete depth) h fits xs m3 m4 r) λ c lc.
      reads_bind _ (note_complete depth (read_expr depth) (read_stmt depth) (expr_complete depth) (stmt_complete depth) h fits t m4 m5 s (after_note u.1 refl refl refl refl refl)) λ d ld.
      reads_bind _ (block_complete depth (read_expr depth) (read_stmt depth) (expr_complete depth) (stmt_complete depth) h fits ss m5 rest u) λ e le. reads_done (omega arith)

  namespace_complete : (h : ℕ) → h ≤ depth → (xs : List (List ℕ)) (row : _) (m rest : List TokenKind)
      → (separated "." identifier xs ⋅ punctuator "{" ⋅ many (marked_at h) (marked_of row) ⋅ punctuator "}") m rest → Reads (read_namespace depth marked m) h (Namespace xs row) rest
  unfolding read_namespace
  namespace_complete h fits xs row m rest (m2, p, (m3, e, (m4, q, e2))) =
      reads_as (ap (Namespace xs) (to_marked-of row))
      (reads_bind _ (separated_complete identifier read_identifier h (λ us. Unit {0}) (λ y us vs r u. identifier_complete r) "." (λ us after c. tt) xs m m2 (length m) p (not_taken "." e refl) tt
      (omega (arith, separated_count identifier identifier_consumes "." xs m m2 p))) λ a la. take_bind _ (punctuator_taken "{" e)
      (reads_bind _ (many_complete (marked_at h) marked h (λ us. Unit {0}) (λ y us vs r u. complete h fits y us vs r) (λ us. not (at_punctuator "}" us)) (marked_start h)
      (marked_of row) m3 m4 (suc (length m3)) q (ap not (at_first "}" e2)) tt (omega (arith, many_count (marked_at h) (marked_consumes h) (marked_of row) m3 m4 q))) λ b lb.
      take_bind _ (punctuator_taken "}" e2) (reads_done lb)))

  interface_complete : (h : ℕ) → h ≤ depth → (x : List ℕ) (ps : List (List ℕ)) (es : List TypeTree) (ms : _) (m rest : List TokenKind)
      → (identifier x ⋅ type_params ps ⋅ extends h es ⋅ body (type_at h) ms) m rest → Reads (read_interface depth marked m) h (Interface x ps es ms) rest
  unfolding read_interface
  interface_complete h fits x ps es ms m rest (m2, p, (m3, q, (m4, r, s))) =
      reads_bind _ (identifier_complete {h = h} p) λ a la. reads_bind _ (type_params_complete h ps m2 m3 q (extends_angle h es m3 m4 s.0 r s.1)) λ b lb.
      reads_bind _ (extends_complete depth h fits es m3 m4 s.0 r s.1) λ c lc. reads_bind _ (body_complete (read_type depth) depth (type_complete depth) h fits ms m4 rest s) λ d ld. reads_done (omega arith)

  alias_complete : (h : ℕ) → h ≤ depth → (x : List ℕ) (ps : List (List ℕ)) (t : TypeTree) (m rest : List TokenKind)
      → (identifier x ⋅ type_params ps ⋅ punctuator "=" ⋅ type_at h any_type t ⋅ punctuator ";") m rest → Reads (read_alias depth marked m) h (TypeAlias x ps t) rest
  unfolding read_alias
  alias_complete h fits x ps t m rest (m2, p, (m3, q, (m4, e, (m5, s, e2)))) =
      reads_bind _ (identifier_complete {h = h} p) λ a la. reads_bind _ (type_params_complete h ps m2 m3 q (not_taken "<" e refl)) λ b lb. take_bind _ (punctuator_taken "=" e)
      (reads_bind _ (type_complete depth h fits t m4 m5 s (ends_at e2 refl refl refl refl)) λ c lc. take_bind _ (punctuator_taken ";" e2) (reads_done lc))

  decl_complete : (h : ℕ) → h ≤ depth → (d : DeclTree) (ts rest : List TokenKind) → decl_node h (marked_at h) d ts rest → Reads (read_decl depth marked ts) h d rest
  unfolding read_decl
  decl_complete h fits (Const x t e) ts rest (m, w, p) = choose_some _ _ (keyword_taken "const" w) (const_complete h fits x t e ts m rest p)
  decl_complete h fits (Function x ps xs t ss) ts rest (m, w, p) = choose_none _ (keyword_not_taken "const" w refl) (choose_some _ _ (keyword_taken "function" w) (function_complete h fits x ps xs t ss m rest p))
  decl_complete h fits (Namespace xs row) ts rest (m, w, p) =
      choose_none _ (keyword_not_taken "const" w refl) (choose_none _ (keyword_not_taken "function" w refl) (choose_some _ _ (keyword_taken "namespace" w) (namespace_complete h fits xs row m rest p)))
  decl_complete h fits (Interface x ps es ms) ts rest (m, w, p) =
      choose_none _ (keyword_not_taken "const" w refl) (choose_none _ (keyword_not_taken "function" w refl) (choose_none _ (keyword_not_taken "namespace" w refl)
      (choose_some _ _ (keyword_taken "interface" w) (interface_complete h fits x ps es ms m rest p))))
  decl_complete h fits (TypeAlias x ps t) ts rest (m, w, p) =
      choose_none _ (keyword_not_taken "const" w refl) (choose_none _ (keyword_not_taken "function" w refl) (choose_none _ (keyword_not_taken "namespace" w refl) (choose_none _ (keyword_not_taken "interface" w refl)
      (take_bind _ (keyword_taken "type" w) (alias_complete h fits x ps t m rest p)))))

  declared_complete : (h : ℕ) → h ≤ suc depth → (m : MarkedTree) (ts rest : List TokenKind) → marked_at h m ts rest → Reads (read_declared depth marked ts) h m rest
  unfolding read_declared marked_at
  declared_complete zero fits m ts rest p = absurd p
  declared_complete (suc h) fits (Marked m d) ts rest (mid, p, q) =
      reads_bind _ (mark_complete h m ts mid p (decl_no_taken "@@" h (marked_at h) d mid rest refl refl refl refl refl q) (decl_no_keyword "export" h (marked_at h) d mid rest refl refl refl refl refl q)) λ i li.
      reads_bind _ (decl_complete h (omega arith) d mid rest q) λ j lj. reads_done (omega arith)

pub marked_complete : (depth h : ℕ) → h ≤ depth → (m : MarkedTree) (ts rest : List TokenKind) → marked_at h m ts rest → Reads (read_marked depth ts) h m rest
unfolding read_marked marked_at
marked_complete zero zero fits m ts rest p = absurd p
marked_complete zero (suc h) fits m ts rest p = absurd (omega arith)
marked_complete (suc depth) h fits m ts rest p = declared_complete depth (read_marked depth) (marked_complete depth) h fits m ts rest p

marked_first : (h : ℕ) (m : MarkedTree) (ts rest : List TokenKind) → marked_at (suc h) m ts rest → (take_punctuator ";" ts ≡ None) × (take_keyword "import" ts ≡ None)
unfolding marked_at
marked_first h (Marked marks.Export d) ts rest p = (not_taken ";" p.1 refl, keyword_not_taken "import" p.1 refl)
marked_first h (Marked marks.Public d) ts rest p = (not_taken ";" p.1.1 refl, keyword_not_taken "import" p.1.1 refl)
marked_first h (Marked marks.Plain d) ts rest (m, e, p) =
    (ap (take_punctuator ";") e ∙ decl_no_taken ";" h (marked_at h) d m rest refl refl refl refl refl p, ap (take_keyword "import") e ∙ decl_no_keyword "import" h (marked_at h) d m rest refl refl refl refl refl p)

source_complete : (h : ℕ) (s : List ℕ) (ts rest : List TokenKind) → (keyword "from" ⋅ string s ⋅ punctuator ";") ts rest → Reads (read_source ts) h s rest
unfolding read_source
source_complete h s ts rest (m, w, (m2, p, e)) = take_bind _ (keyword_taken "from" w) (reads_bind _ (string_complete {h = h} p) λ i li. take_bind _ (punctuator_taken ";" e) (reads_done (omega arith)))

import_start : (i : ImportTree) (ts rest : List TokenKind) → import_name i ts rest → at_punctuator "}" ts ≡ false
import_start i ts rest p = at_first "}" p.1.0

pub item_complete : (depth h : ℕ) → h ≤ depth → (i : ItemTree) (ts rest : List TokenKind) → item_at h i ts rest → Reads (read_item depth ts) h i rest
unfolding item_at read_item read_import read_import_all read_import_names
item_complete zero zero fits i ts rest p = absurd p
item_complete zero (suc h) fits i ts rest p = absurd (omega arith)
item_complete (suc depth) zero fits i ts rest p = absurd p
item_complete (suc depth) (suc h) fits (ImportAll x s) ts rest (m, w, (m2, e, (m3, w2, (m4, p, q)))) =
    choose_none _ (not_taken ";" w refl) (choose_some _ _ (keyword_taken "import" w) (choose_some _ _ (punctuator_taken "*" e) (take_bind _ (keyword_taken "as" w2)
    (reads_bind _ (identifier_complete {h = h} p) λ i li. reads_bind _ (source_complete h s m4 rest q) λ j lj. reads_done (omega arith)))))
item_complete (suc depth) (suc h) fits (ImportNames xs s) ts rest (m, w, (m2, e, (m3, p, (m4, e2, q)))) =
    choose_none _ (not_taken ";" w refl) (choose_some _ _ (keyword_taken "import" w) (choose_none _ (not_taken "*" e refl) (take_bind _ (punctuator_taken "{" e)
    (reads_bind _ (list_complete import_name read_import_name h (λ us. take_keyword "as" us ≡ None) (import_name_complete h) "}" (λ us after c. keyword_not_taken "as" c refl) import_start
    xs m2 m3 (suc (length m2)) p (at_first "}" e2) (not_taken "," e2 refl) (keyword_not_taken "as" e2 refl) (omega (arith, list_count import_name import_name_consumes xs m2 m3 p))) λ i li.
    take_bind _ (punctuator_taken "}" e2) (reads_bind _ (source_complete h s m4 rest q) λ j lj. reads_done (omega arith))))))
item_complete (suc depth) (suc h) fits (Declared m) ts rest p =
    let s = marked_first h m ts rest p in
    choose_none _ s.0 (choose_none _ s.1 (reads_bind _ (marked_complete (suc depth) (suc h) fits m ts rest p) λ i li. reads_done li))
item_complete (suc depth) (suc h) fits Empty ts rest p = choose_some _ _ (punctuator_taken ";" p) (reads_done (omega arith))

pub called_complete : (depth h : ℕ) → h ≤ depth → (e : ExprTree) (ts rest : List TokenKind) → (punctuator "(" ⋅ expr_at h any_expr e ⋅ punctuator ")" ⋅ punctuator ";") ts rest → Reads (read_called depth ts) h e rest
unfolding read_called
called_complete depth h fits e ts rest (m, q, (m2, p, (m3, q2, q3))) =
    take_bind _ (punctuator_taken "(" q) (reads_bind _ (expr_complete depth h fits e m m2 p (stops_at 10 (omega arith) q2 refl)) λ i li.
    take_bind _ (punctuator_taken ")" q2) (take_bind _ (punctuator_taken ";" q3) (reads_done li)))
