-- Languages, of which the grammar is made. `X ts rest` says that `ts` is some tokens that X derives, and then
-- `rest`.
use Prim.Native.String.{String}
use Rattle.std.specs.Prelude.{◌≡◌, ℕ, zero, suc, Bool, true, false, ◌⊎◌, ◌||◌, List, [], ◌∷◌, Option, Some}
use Rattle.std.specs.Prelude.{None, codes, bytes_eq}
use Rattle.dscript_lex.specs.declared.token.TokenKind.{TokenKind}
use Rattle.dscript_lex.specs.declared.token.TokenKind.TheVariants as kinds

abbrev pub Language : Type 1
Language = List TokenKind → List TokenKind → Type 0

-- no token
abbrev pub nothing : Language
nothing ts rest = ts ≡ rest

-- no list of tokens at all
abbrev pub never : Language
never ts rest = ⊥

-- this token
abbrev pub token : TokenKind → Language
token t ts rest = ts ≡ t ∷ rest

-- the word with this spelling
abbrev pub keyword : String → Language
keyword w = token (kinds.Word (codes w))

-- the punctuator with this spelling
abbrev pub punctuator : String → Language
punctuator s = token (kinds.Punct (codes s))

-- a word of the list
abbrev pub is_one_of : List ℕ → List (List ℕ) → Bool
is_one_of w [] = false
is_one_of w (v ∷ vs) = bytes_eq w v || is_one_of w vs

-- the reserved words
abbrev pub reserved : List (List ℕ)
reserved =
    codes "import" ∷ codes "export" ∷ codes "const" ∷ codes "let" ∷ codes "function" ∷ codes "interface"
    ∷ codes "if" ∷ codes "else" ∷ codes "for" ∷ codes "return" ∷ codes "true" ∷ codes "false"
    ∷ codes "undefined"
    ∷ codes "class" ∷ codes "enum" ∷ codes "switch" ∷ codes "while" ∷ codes "do" ∷ codes "new" ∷ codes "var"
    ∷ codes "default" ∷ codes "typeof" ∷ codes "this" ∷ codes "null" ∷ codes "break" ∷ codes "continue"
    ∷ codes "try" ∷ codes "throw" ∷ codes "in" ∷ []

unfoldable pub is_reserved : List ℕ → Bool
is_reserved w = is_one_of w reserved

-- Name: any word, reserved ones included
abbrev pub name : List ℕ → Language
name w = token (kinds.Word w)

-- Id: a word that is not reserved
abbrev pub identifier : List ℕ → Language
identifier w ts rest = (ts ≡ kinds.Word w ∷ rest) × (is_reserved w ≡ false)

-- Str: a string
abbrev pub string : List ℕ → Language
string s = token (kinds.Str s)

-- A B: one, and then the other
infixr 14 ◌⋅◌
abbrev pub ◌⋅◌ : Language → Language → Language
(A ⋅ B) ts rest = (middle : List TokenKind) × A ts middle × B middle rest

-- A | B
abbrev pub either : Language → Language → Language
either A B ts rest = A ts rest ⊎ B ts rest

-- A, if the fact holds
abbrev pub given : Type 0 → Language → Language
given P A ts rest = P × A ts rest

-- A, if the flag is set
abbrev pub only_if : Bool → Language → Language
only_if true A = A
only_if false A = nothing

-- X?
abbrev pub optional : {X : Type 0} → (X → Language) → Option X → Language
optional x None = nothing
optional x (Some a) = x a

-- X*
abbrev pub many : {X : Type 0} → (X → Language) → List X → Language
many x [] = nothing
many x (a ∷ more) = x a ⋅ many x more

-- A, n times
abbrev pub times : ℕ → Language → Language
times zero A = nothing
times (suc n) A = A ⋅ times n A

-- X (punctuator X)*
abbrev pub separated : {X : Type 0} → String → (X → Language) → List X → Language
separated s x [] = never
separated s x (a ∷ []) = x a
separated s x (a ∷ b ∷ more) = x a ⋅ punctuator s ⋅ separated s x (b ∷ more)

-- list(X): any number of X with a `,` between any two, and perhaps a `,` after the last one
abbrev pub list : {X : Type 0} → (X → Language) → List X → Language
list x [] = nothing
list x (a ∷ []) = x a ⋅ either (punctuator ",") nothing
list x (a ∷ b ∷ more) = x a ⋅ punctuator "," ⋅ list x (b ∷ more)

-- A, if the first token is not this punctuator
abbrev pub not_before : String → Language → Language
not_before s A ts rest = ((more : List TokenKind) → ts ≡ kinds.Punct (codes s) ∷ more → ⊥) × A ts rest
