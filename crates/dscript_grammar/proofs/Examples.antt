-- Worked examples, which pin the grammar down.
use Prim.Native.String.{String as Letters}
use Rattle.std.proofs.Common.{◌≡◌, ℕ, zero, suc, false, List, [], ◌∷◌, ◌++◌, Some, None, replicate, codes, pos, refl, sym, ◌∙◌, subst, arith}
use Rattle.std.proofs.lemmas.Option.{none-some}
use Rattle.dscript_lex.specs.declared.token.TokenKind.{TokenKind}
use Rattle.dscript_lex.specs.declared.token.TokenKind.TheVariants as kinds
use Rattle.dscript_ast.specs.ExprTree.{ExprTree}
use Rattle.dscript_ast.specs.ExprTree as expr
use Rattle.dscript_ast.specs.TypeTree as type
use Rattle.dscript_ast.specs.FileTree.{Marked, DeclTree, Const, Function, Namespace, TypeAlias, no_marked, more_marked, Declared, FileTree, Project}
use Rattle.dscript_grammar.specs.Derives.{Derives}
use Rattle.dscript_grammar.specs.Place.{IsRefusedAt}
use Rattle.dscript_ast.specs.declared.file.Form.{Form}
use Rattle.dscript_ast.specs.declared.file.Form.TheVariants as forms
use Rattle.dscript_ast.specs.declared.file.Mark.TheVariants as marks
use Rattle.dscript_grammar.specs.Language.{is_reserved}
use Rattle.dscript_grammar.specs.Reading.{got, and_then, choose, pick, read_name, read_identifier, read_string, read_many, read_separated, read_list, take_punctuator_bytes, take_keyword_bytes, at_punctuator_bytes, flag_by}
use Rattle.dscript_grammar.specs.TypeReading as types
use Rattle.dscript_grammar.specs.ExprReading as exprs
use Rattle.dscript_grammar.specs.FileReading as files
use Rattle.dscript_ast.specs.declared.operator.BinaryOp.TheVariants as binary
use Rattle.dscript_grammar.proofs.WholeFile.{file_sound, file_complete}
use Rattle.dscript_grammar.proofs.FileLaws.{reading_sound, reading_complete}
use Rattle.dscript_grammar.proofs.Places.{reading_refuses, refused_at}

abbrev w : Letters → TokenKind
w s = kinds.Word (codes s)

abbrev p : Letters → TokenKind
p s = kinds.Punct (codes s)

-- const x = e;
abbrev constant : Letters → List TokenKind → List TokenKind
constant x e = w "const" ∷ w x ∷ p "=" ∷ (e ++ p ";" ∷ [])

abbrev one : TokenKind
one = kinds.Number (pos 1)

abbrev decl_tree : DeclTree → FileTree
decl_tree d = Project (Declared (Marked marks.Plain d) ∷ [])

abbrev constant_tree : Letters → ExprTree → FileTree
constant_tree x e = decl_tree (Const (codes x) None e)

abbrev name : Letters → ExprTree
name x = expr.Name (codes x)

-- `1` in n pairs of parentheses
abbrev enclosed : ℕ → List TokenKind
enclosed n = constant "x" (replicate n (p "(") ++ one ∷ replicate n (p ")"))

-- `{a}` in n pairs of parentheses
abbrev short_property : ℕ → List TokenKind
short_property n = constant "x" (replicate n (p "(") ++ p "{" ∷ w "a" ∷ p "}" ∷ replicate n (p ")"))

abbrev short_property_tree : FileTree
short_property_tree = constant_tree "x" (expr.Object (expr.more_props (expr.Short (codes "a")) expr.no_props))

-- two semicolons, and a constant without a value
abbrev wrong_item : List TokenKind
wrong_item = p ";" ∷ p ";" ∷ constant "x" []

-- a constant, and one that is cut off
abbrev cut_off : List TokenKind
cut_off = constant "x" (one ∷ []) ++ w "const" ∷ w "y" ∷ []

-- n + 1 namespaces one in another
abbrev namespaces : ℕ → List TokenKind → List TokenKind
namespaces zero inside = inside
namespaces (suc n) inside = w "namespace" ∷ w "a" ∷ p "{" ∷ namespaces n (inside ++ p "}" ∷ [])

abbrev namespaces_tree : ℕ → DeclTree
namespaces_tree zero = Namespace (codes "a" ∷ []) no_marked
namespaces_tree (suc n) = Namespace (codes "a" ∷ []) (more_marked (Marked marks.Plain (namespaces_tree n)) no_marked)

-- function f() { body }
abbrev function : List TokenKind → List TokenKind
function body = w "function" ∷ w "f" ∷ p "(" ∷ p ")" ∷ p "{" ∷ (body ++ p "}" ∷ [])

-- if (a) if (b) ; else ;
abbrev dangling : List TokenKind
dangling = w "if" ∷ p "(" ∷ w "a" ∷ p ")" ∷ w "if" ∷ p "(" ∷ w "b" ∷ p ")" ∷ p ";" ∷ w "else" ∷ p ";" ∷ []

abbrev alias : List TokenKind → List TokenKind
alias t = w "type" ∷ w "T" ∷ p "=" ∷ (t ++ p ";" ∷ [])

abbrev type_name : Letters → type.TypeTree
type_name x = type.Named (codes x ∷ []) type.no_types

record Readings : Type 0 where
  constant_read : files.read_file 3 forms.Project (constant "x" (one ∷ [])) ≡ got (constant_tree "x" (expr.Number (pos 1))) 3 []
  constant_low : files.read_file 2 forms.Project (constant "x" (one ∷ [])) ≡ None
  enclosed_197 : files.file_of forms.Project (enclosed 197) ≡ Some (constant_tree "x" (expr.Number (pos 1)))
  enclosed_198 : files.file_of forms.Project (enclosed 198) ≡ None
  short_197 : files.file_of forms.Project (short_property 197) ≡ Some short_property_tree
  short_198 : files.file_of forms.Project (short_property 198) ≡ None
  wrong_item_refused : files.file_of forms.Project wrong_item ≡ None
  wrong_item_place : files.tokens_read wrong_item ≡ 2
  cut_off_refused : files.file_of forms.Project cut_off ≡ None
  cut_off_place : files.tokens_read cut_off ≡ 5
  nothing_called : files.file_of forms.Config [] ≡ None
  namespaces_199 : files.file_of forms.Project (namespaces 199 []) ≡ Some (decl_tree (namespaces_tree 198))
  namespaces_200 : files.file_of forms.Project (namespaces 200 []) ≡ None
  else_nearest : files.file_of forms.Project (function dangling) ≡ Some (decl_tree (Function (codes "f") [] [] None
      (expr.If (name "a") (expr.If (name "b") expr.Empty (expr.a_stmt expr.Empty)) expr.no_stmt ∷ [])))
  result_far : files.file_of forms.Project (alias (p "(" ∷ p ")" ∷ p "=>" ∷ w "A" ∷ p "|" ∷ w "B" ∷ []))
      ≡ Some (decl_tree (TypeAlias (codes "T") [] (type.Function type.no_fields (type.Union (type.more_types (type_name "A") (type.more_types (type_name "B") type.no_types))))))
  one_node : files.file_of forms.Project (constant "x" (one ∷ p "-" ∷ w "a" ∷ p "-" ∷ w "b" ∷ []))
      ≡ Some (constant_tree "x" (expr.Chain 4 (expr.Number (pos 1)) (expr.more_operands (expr.Operand binary.Subtract (name "a")) (expr.more_operands (expr.Operand binary.Subtract (name "b")) expr.no_operands))))
  block_body : files.file_of forms.Project (constant "x" (w "a" ∷ p "=>" ∷ p "{" ∷ p "}" ∷ [])) ≡ Some (constant_tree "x" (expr.BlockArrow (expr.Single (codes "a")) expr.no_stmts))
  last_comma : files.file_of forms.Project (constant "x" (p "[" ∷ one ∷ p "," ∷ p "]" ∷ []))
      ≡ Some (constant_tree "x" (expr.Elements (expr.more_elements (expr.Element false (expr.Number (pos 1))) expr.no_elements)))
  lone_comma : files.file_of forms.Project (constant "x" (p "[" ∷ p "," ∷ p "]" ∷ [])) ≡ None
  reserved_name : files.file_of forms.Project (constant "true" (one ∷ [])) ≡ None
  reserved_field : files.file_of forms.Project (constant "x" (p "{" ∷ w "true" ∷ p ":" ∷ one ∷ p "}" ∷ []))
      ≡ Some (constant_tree "x" (expr.Object (expr.more_props (expr.Named (codes "true") (expr.Number (pos 1))) expr.no_props)))

readings : Readings
unfolding and_then choose pick at_punctuator_bytes take_punctuator_bytes take_keyword_bytes read_name read_identifier read_string flag_by read_many read_separated read_list types.above types.at_identifier types.at_fields types.at_function types.after_member_end types.read_field types.read_fields types.read_method types.read_member types.read_ended types.read_body types.read_arguments types.read_named types.read_literal types.read_enclosed types.read_base types.read_function types.read_brackets types.as_array types.read_array types.read_union types.as_union types.read_any types.read_type exprs.read_whole exprs.read_head exprs.read_middle exprs.read_tail exprs.at_template exprs.letter_of exprs.read_letter exprs.read_one_of exprs.read_operator exprs.operator_precedence exprs.read_prefix exprs.at_prefix exprs.at_part exprs.ends_param exprs.at_params exprs.optional_param exprs.closes_params exprs.at_arrow exprs.at_assign exprs.read_note exprs.read_param exprs.read_params exprs.read_arrow_head exprs.read_block exprs.read_arrow_body exprs.read_arrow exprs.read_holes exprs.read_template exprs.read_element exprs.read_word_prop exprs.read_prop exprs.read_literal exprs.read_named exprs.read_elements exprs.read_object exprs.read_enclosed exprs.read_plain exprs.read_primary exprs.read_index exprs.read_call exprs.read_part exprs.as_postfix exprs.read_postfix exprs.as_unary exprs.read_unary exprs.read_operand exprs.as_chain exprs.read_chain exprs.read_branches exprs.read_cond exprs.read_any exprs.read_value exprs.read_const exprs.read_start exprs.read_let exprs.read_assign exprs.read_else exprs.read_if exprs.read_loop_keyword exprs.read_for exprs.read_return exprs.read_simple exprs.read_by_keyword exprs.read_any_stmt files.read_import_name files.read_mark files.read_type_params files.read_extends files.read_const files.read_function files.read_namespace files.read_interface files.read_alias files.read_decl files.read_declared files.read_marked files.read_source files.read_import_all files.read_import_names files.read_import files.read_item files.at_end files.read_called files.read_items files.as_project files.read_file exprs.read_expr exprs.read_stmt is_reserved files.file_of
readings = record {
  constant_read = refl;
  constant_low = refl;
  enclosed_197 = refl;
  enclosed_198 = refl;
  short_197 = refl;
  short_198 = refl;
  wrong_item_refused = refl;
  wrong_item_place = refl;
  cut_off_refused = refl;
  cut_off_place = refl;
  nothing_called = refl;
  namespaces_199 = refl;
  namespaces_200 = refl;
  else_nearest = refl;
  result_far = refl;
  one_node = refl;
  block_body = refl;
  last_comma = refl;
  lone_comma = refl;
  reserved_name = refl;
  reserved_field = refl;
}

-- tokens without a reading are derived as no file
refused : (form : Form) (tokens : List TokenKind) → files.file_of form tokens ≡ None → (f : FileTree) (h : ℕ) → Derives form tokens f h → ⊥
refused form tokens none f h d = none-some f (sym none ∙ reading_complete form tokens f h d)

-- `const x = 1;` has the height 3, and no less
constant_height : Derives forms.Project (constant "x" (one ∷ [])) (constant_tree "x" (expr.Number (pos 1))) 3
constant_height = record { counts = omega arith; derived = (file_sound 3 forms.Project (constant "x" (one ∷ []))).is _ readings.constant_read 3 (omega arith) }

constant_no_less : (f : FileTree) → Derives forms.Project (constant "x" (one ∷ [])) f 2 → ⊥
constant_no_less f d =
    let r = file_complete 2 2 (omega arith) forms.Project f (constant "x" (one ∷ [])) d.derived in none-some _ (sym readings.constant_low ∙ r.is)

-- 197 pairs of parentheses are within the greatest height, 198 are not
parentheses_derived : Derives forms.Project (enclosed 197) (constant_tree "x" (expr.Number (pos 1))) 200
parentheses_derived = reading_sound forms.Project (enclosed 197) _ readings.enclosed_197

parentheses_too_many : (f : FileTree) (h : ℕ) → Derives forms.Project (enclosed 198) f h → ⊥
parentheses_too_many = refused forms.Project (enclosed 198) readings.enclosed_198

-- a short property adds nothing of its own: 197 pairs around its object are within the greatest height, 198 are not
short_property_derived : Derives forms.Project (short_property 197) short_property_tree 200
short_property_derived = reading_sound forms.Project (short_property 197) _ readings.short_197

short_property_too_high : (f : FileTree) (h : ℕ) → Derives forms.Project (short_property 198) f h → ⊥
short_property_too_high = refused forms.Project (short_property 198) readings.short_198

-- `;;const x = ;` is refused at its third token
wrong_item_at : IsRefusedAt forms.Project wrong_item 2
wrong_item_at =
    subst (IsRefusedAt forms.Project wrong_item) readings.wrong_item_place (reading_refuses wrong_item readings.wrong_item_refused)

-- `const x = 1; const y` is refused at the second `const`
cut_off_at : IsRefusedAt forms.Project cut_off 5
cut_off_at = subst (IsRefusedAt forms.Project cut_off) readings.cut_off_place (reading_refuses cut_off readings.cut_off_refused)

-- a configuration without tokens is refused at 0
nothing_at : IsRefusedAt forms.Config [] 0
nothing_at = refused_at forms.Config [] 0 readings.nothing_called refl

-- 199 namespaces one in another are within the greatest height, 200 are not
namespaces_derived : Derives forms.Project (namespaces 199 []) (decl_tree (namespaces_tree 198)) 200
namespaces_derived = reading_sound forms.Project (namespaces 199 []) _ readings.namespaces_199

namespaces_too_many : (f : FileTree) (h : ℕ) → Derives forms.Project (namespaces 200 []) f h → ⊥
namespaces_too_many = refused forms.Project (namespaces 200 []) readings.namespaces_200
