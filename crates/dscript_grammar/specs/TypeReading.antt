-- Reading types.
use Rattle.std.specs.Prelude.{ℕ, zero, suc, max, Bool, false, not, ◌||◌, List, [], ◌∷◌, length, Option, None}
use Rattle.std.specs.Prelude.{nat_le, codes, bytes_eq}
use Rattle.dscript_lex.specs.declared.token.TokenKind.{TokenKind}
use Rattle.dscript_lex.specs.declared.token.TokenKind.TheVariants as kinds
use Rattle.dscript_grammar.specs.Language.{is_reserved}
use Rattle.dscript_grammar.specs.Reading.{Read, Reader, got, ◌>>=◌, choose, pick, at_punctuator}
use Rattle.dscript_grammar.specs.Reading.{take_punctuator, read_name, read_identifier, read_flag, read_many}
use Rattle.dscript_grammar.specs.Reading.{read_separated, read_list}
use Rattle.dscript_ast.specs.TypeTree.{TypeTree, Union, Array, Named, Str, Number, Undefined, True, False}
use Rattle.dscript_ast.specs.TypeTree.{Body, Function, FieldTree, Field, MemberTree, Property, Method}
use Rattle.dscript_ast.specs.TypeTree.{TypeTrees, no_types, to_types, to_fields, to_members}

-- a node over parts of this height, if the depth allows one level more
unfoldable pub above : {X : Type 0} → ℕ → ℕ → X → List TokenKind → Option (Read X)
above depth n x rest = pick (nat_le n depth) (got x (suc n) rest) None

-- whether the first token is a name
unfoldable pub at_identifier : List TokenKind → Bool
at_identifier [] = false
at_identifier (kinds.Word w ∷ ts) = not (is_reserved w)
at_identifier (_ ∷ ts) = false

-- whether the parameters of a function type follow, after `(`, and not a type
unfoldable pub at_fields : List TokenKind → Bool
at_fields [] = false
at_fields (kinds.Word w ∷ ts) = at_punctuator ":" ts || at_punctuator "?" ts
at_fields (t ∷ ts) = at_punctuator ")" (t ∷ ts)

unfoldable pub at_function : List TokenKind → Bool
at_function ts = choose (take_punctuator "(" ts) false at_fields

-- the tokens after the `;` or `,` of a member, if it has one
unfoldable pub after_member_end : List TokenKind → List TokenKind
after_member_end ts = choose (take_punctuator ";" ts) (choose (take_punctuator "," ts) ts (λ r. r)) (λ r. r)

unfoldable pub read_literal : Reader TypeTree
read_literal [] = None
read_literal (kinds.Str s ∷ ts) = got (Str s) 1 ts
read_literal (kinds.Number n ∷ ts) = got (Number n) 1 ts
read_literal (kinds.Word w ∷ ts) =
    pick (bytes_eq w (codes "undefined")) (got Undefined 1 ts)
    (pick (bytes_eq w (codes "true")) (got True 1 ts)
    (pick (bytes_eq w (codes "false")) (got False 1 ts) None))
read_literal (_ ∷ ts) = None

-- the number of `[]` at the start
unfoldable pub read_brackets : ℕ → Reader ℕ
read_brackets zero ts = got 0 0 ts
read_brackets (suc n) ts =
    choose (take_punctuator "[" ts) (got 0 0 ts)
    (λ r. take_punctuator "]" r
    >>= λ r2. read_brackets n r2
    >>= λ k. got (suc k.value) 0 k.rest)

-- `type` reads the types that are parts of one
module _ (type : Reader TypeTree) where
  unfoldable pub read_field : Reader FieldTree
  read_field ts =
      read_identifier ts
      >>= λ x. read_flag "?" x.rest
      >>= λ o. take_punctuator ":" o.rest
      >>= λ r. type r
      >>= λ t. got (Field x.value o.value t.value) t.height t.rest

  unfoldable pub read_fields : Reader (List FieldTree)
  read_fields ts =
      take_punctuator "(" ts
      >>= λ r. read_list ")" read_field (suc (length r)) r
      >>= λ fs. take_punctuator ")" fs.rest
      >>= λ r2. got fs.value fs.height r2

  unfoldable pub read_method : List ℕ → Bool → Reader MemberTree
  read_method x o ts =
      read_fields ts
      >>= λ fs. take_punctuator ":" fs.rest
      >>= λ r. type r
      >>= λ t. got (Method x o (to_fields fs.value) t.value) (max fs.height t.height) t.rest

  unfoldable pub read_member : Reader MemberTree
  read_member ts =
      read_name ts
      >>= λ x. read_flag "?" x.rest
      >>= λ o. choose (take_punctuator ":" o.rest) (read_method x.value o.value o.rest)
      (λ r. type r >>= λ t. got (Property x.value o.value t.value) t.height t.rest)

  unfoldable pub read_ended : Reader MemberTree
  read_ended ts = read_member ts >>= λ m. got m.value m.height (after_member_end m.rest)

  unfoldable pub read_body : Reader (List MemberTree)
  read_body ts =
      take_punctuator "{" ts
      >>= λ r. read_many (λ us. not (at_punctuator "}" us)) read_ended (suc (length r)) r
      >>= λ ms. take_punctuator "}" ms.rest
      >>= λ r2. got ms.value ms.height r2

  unfoldable pub read_arguments : Reader TypeTrees
  read_arguments ts =
      choose (take_punctuator "<" ts) (got no_types 0 ts)
      (λ r. read_separated "," type (length r) r
      >>= λ args. take_punctuator ">" args.rest
      >>= λ r2. got (to_types args.value) args.height r2)

  unfoldable pub read_named : Reader TypeTree
  read_named ts =
      read_separated "." read_identifier (length ts) ts
      >>= λ xs. read_arguments xs.rest
      >>= λ args. got (Named xs.value args.value) (suc args.height) args.rest

  -- a type in parentheses
  unfoldable pub read_enclosed : Reader TypeTree
  read_enclosed ts =
      type ts
      >>= λ t. take_punctuator ")" t.rest
      >>= λ r. got t.value (suc t.height) r

  -- a type that `[` may follow
  unfoldable pub read_base : Reader TypeTree
  read_base ts =
      choose (take_punctuator "(" ts)
      (pick (at_punctuator "{" ts)
      (read_body ts >>= λ ms. got (Body (to_members ms.value)) (suc ms.height) ms.rest)
      (pick (at_identifier ts) (read_named ts) (read_literal ts)))
      read_enclosed

  unfoldable pub read_function : Reader TypeTree
  read_function ts =
      read_fields ts
      >>= λ fs. take_punctuator "=>" fs.rest
      >>= λ r. type r
      >>= λ t. got (Function (to_fields fs.value) t.value) (suc (max fs.height t.height)) t.rest

  module _ (depth : ℕ) where
    unfoldable pub as_array : TypeTree → ℕ → ℕ → List TokenKind → Option (Read TypeTree)
    as_array t n k rest = pick (nat_le k 0) (got t n rest) (above depth n (Array t k) rest)

    unfoldable pub read_array : Reader TypeTree
    read_array ts =
        read_base ts
        >>= λ t. read_brackets (length t.rest) t.rest
        >>= λ k. as_array t.value t.height k.value k.rest

    -- types with `|` between any two; a function type is the last
    unfoldable pub read_union : ℕ → Reader (List TypeTree)
    read_union zero ts = None
    read_union (suc n) ts =
        pick (at_function ts)
        (read_function ts >>= λ t. got (t.value ∷ []) t.height t.rest)
        (read_array ts
        >>= λ t. choose (take_punctuator "|" t.rest) (got (t.value ∷ []) t.height t.rest)
        (λ r. read_union n r >>= λ more. got (t.value ∷ more.value) (max t.height more.height) more.rest))

    unfoldable pub as_union : List TypeTree → ℕ → List TokenKind → Option (Read TypeTree)
    as_union [] n rest = None
    as_union (t ∷ []) n rest = got t n rest
    as_union (t ∷ u ∷ more) n rest = above depth n (Union (to_types (t ∷ u ∷ more))) rest

    unfoldable pub read_any : Reader TypeTree
    read_any ts = read_union (suc (length ts)) ts >>= λ parts. as_union parts.value parts.height parts.rest

-- a type, where nodes may be nested to this depth
unfoldable pub read_type : ℕ → Reader TypeTree
read_type zero ts = None
read_type (suc depth) ts = read_any (read_type depth) depth ts
