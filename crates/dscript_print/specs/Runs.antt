-- Lists of tokens, of which the tokens of a tree are made.
use Prim.Native.String.{String}
use Rattle.std.specs.Prelude.{ℕ, zero, suc, Bool, true, false, List, [], ◌∷◌, ◌++◌, codes}
use Rattle.dscript_lex.specs.declared.token.TokenKind.{TokenKind}
use Rattle.dscript_lex.specs.declared.token.TokenKind.TheVariants as kinds

-- the punctuator with this spelling
abbrev pub punct : String → TokenKind
punct s = kinds.Punct (codes s)

-- the word with this spelling
abbrev pub keyword : String → TokenKind
keyword w = kinds.Word (codes w)

-- the tokens, in parentheses
abbrev pub enclosed : List TokenKind → List TokenKind
enclosed xs = punct "(" ∷ (xs ++ (punct ")" ∷ []))

-- the tokens, in parentheses where the flag is set
abbrev pub enclosed_if : Bool → List TokenKind → List TokenKind
enclosed_if true xs = enclosed xs
enclosed_if false xs = xs

-- the tokens, where the flag is set
abbrev pub run_if : Bool → List TokenKind → List TokenKind
run_if true xs = xs
run_if false xs = []

-- the lists, one after another
abbrev pub concat_tokens : List (List TokenKind) → List TokenKind
concat_tokens [] = []
concat_tokens (x ∷ xs) = x ++ concat_tokens xs

-- the lists, with the punctuator before each
abbrev pub preceded : String → List (List TokenKind) → List TokenKind
preceded s [] = []
preceded s (x ∷ xs) = punct s ∷ (x ++ preceded s xs)

-- the lists, with the punctuator between any two
abbrev pub separate : String → List (List TokenKind) → List TokenKind
separate s [] = []
separate s (x ∷ xs) = x ++ preceded s xs

-- a word as a list
abbrev pub word_run : List ℕ → List TokenKind
word_run w = kinds.Word w ∷ []

-- the tokens, n times
abbrev pub repeated : ℕ → List TokenKind → List TokenKind
repeated zero xs = []
repeated (suc n) xs = xs ++ repeated n xs
