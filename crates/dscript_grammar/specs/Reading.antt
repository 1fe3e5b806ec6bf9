-- Reading at the start of a list of tokens. A reader gives a value, the height of its highest node and the
-- tokens after it, or nothing. The readers of the rules find the one tree that the grammar derives.
use Prim.Native.String.{String}
use Rattle.std.specs.Prelude.{ℕ, zero, suc, max, Bool, true, false, List, [], ◌∷◌, Option, Some, None, codes}
use Rattle.std.specs.Prelude.{bytes_eq}
use Rattle.dscript_lex.specs.declared.token.TokenKind.{TokenKind}
use Rattle.dscript_lex.specs.declared.token.TokenKind.TheVariants as kinds
use Rattle.dscript_grammar.specs.Language.{is_reserved}

pub record Read (X : Type 0) : Type 0 where
  pub value : X
  pub height : ℕ
  pub rest : List TokenKind

abbrev pub Reader : Type 0 → Type 0
Reader X = List TokenKind → Option (Read X)

abbrev pub got : {X : Type 0} → X → ℕ → List TokenKind → Option (Read X)
got x n rest = Some (record { value = x; height = n; rest = rest })

-- one step, and then another with its value
unfoldable pub and_then : {A B : Type 0} → Option A → (A → Option B) → Option B
and_then None f = None
and_then (Some x) f = f x

infixl 10 ◌>>=◌
abbrev pub ◌>>=◌ : {A B : Type 0} → Option A → (A → Option B) → Option B
m >>= f = and_then m f

-- the first answer where the option is empty, and otherwise the second at its value
unfoldable pub choose : {A B : Type 0} → Option A → B → (A → B) → B
choose None x f = x
choose (Some a) x f = f a

unfoldable pub pick : {A : Type 0} → Bool → A → A → A
pick true x y = x
pick false x y = y

-- single tokens: punctuators and words, by their bytes or by their letters
abbrev pub is_punctuator_bytes : List ℕ → TokenKind → Bool
is_punctuator_bytes s (kinds.Punct p) = bytes_eq p s
is_punctuator_bytes s _ = false

abbrev pub is_keyword_bytes : List ℕ → TokenKind → Bool
is_keyword_bytes w (kinds.Word p) = bytes_eq p w
is_keyword_bytes w _ = false

unfoldable pub at_punctuator_bytes : List ℕ → List TokenKind → Bool
at_punctuator_bytes s [] = false
at_punctuator_bytes s (t ∷ ts) = is_punctuator_bytes s t

-- the tokens after it, if it is the first token
unfoldable pub take_punctuator_bytes : List ℕ → List TokenKind → Option (List TokenKind)
take_punctuator_bytes s [] = None
take_punctuator_bytes s (t ∷ ts) = pick (is_punctuator_bytes s t) (Some ts) None

unfoldable pub take_keyword_bytes : List ℕ → List TokenKind → Option (List TokenKind)
take_keyword_bytes w [] = None
take_keyword_bytes w (t ∷ ts) = pick (is_keyword_bytes w t) (Some ts) None

abbrev pub is_punctuator : String → TokenKind → Bool
is_punctuator s = is_punctuator_bytes (codes s)

abbrev pub is_keyword : String → TokenKind → Bool
is_keyword w = is_keyword_bytes (codes w)

abbrev pub at_punctuator : String → List TokenKind → Bool
at_punctuator s = at_punctuator_bytes (codes s)

abbrev pub take_punctuator : String → List TokenKind → Option (List TokenKind)
take_punctuator s = take_punctuator_bytes (codes s)

abbrev pub take_keyword : String → List TokenKind → Option (List TokenKind)
take_keyword w = take_keyword_bytes (codes w)

unfoldable pub read_name : Reader (List ℕ)
read_name [] = None
read_name (kinds.Word w ∷ ts) = got w 0 ts
read_name (_ ∷ ts) = None

unfoldable pub read_identifier : Reader (List ℕ)
read_identifier [] = None
read_identifier (kinds.Word w ∷ ts) = pick (is_reserved w) None (got w 0 ts)
read_identifier (_ ∷ ts) = None

unfoldable pub read_string : Reader (List ℕ)
read_string [] = None
read_string (kinds.Str s ∷ ts) = got s 0 ts
read_string (_ ∷ ts) = None

-- whether the punctuator is the first token, which is then read
unfoldable pub flag_by : List ℕ → Reader Bool
flag_by s ts = choose (take_punctuator_bytes s ts) (got false 0 ts) (λ rest. got true 0 rest)

abbrev pub read_flag : String → Reader Bool
read_flag s = flag_by (codes s)

-- Repetitions, of at most n values: while the test holds
unfoldable pub read_many : {X : Type 0} → (List TokenKind → Bool) → Reader X → ℕ → Reader (List X)
read_many go one zero ts = got [] 0 ts
read_many go one (suc n) ts =
    pick (go ts)
    (one ts
    >>= λ x. read_many go one n x.rest
    >>= λ xs. got (x.value ∷ xs.value) (max x.height xs.height) xs.rest)
    (got [] 0 ts)

-- with a punctuator between any two
unfoldable pub read_separated : {X : Type 0} → String → Reader X → ℕ → Reader (List X)
read_separated s one zero ts = one ts >>= λ x. got (x.value ∷ []) x.height x.rest
read_separated s one (suc n) ts =
    one ts
    >>= λ x. choose (take_punctuator s x.rest) (got (x.value ∷ []) x.height x.rest)
    (λ after. read_separated s one n after
    >>= λ xs. got (x.value ∷ xs.value) (max x.height xs.height) xs.rest)

-- with a `,` between any two and perhaps after the last, up to the closing punctuator
unfoldable pub read_list : {X : Type 0} → String → Reader X → ℕ → Reader (List X)
read_list close one zero ts = got [] 0 ts
read_list close one (suc n) ts =
    pick (at_punctuator close ts)
    (got [] 0 ts)
    (one ts
    >>= λ x. choose (take_punctuator "," x.rest) (got (x.value ∷ []) x.height x.rest)
    (λ after. read_list close one n after
    >>= λ xs. got (x.value ∷ xs.value) (max x.height xs.height) xs.rest))
