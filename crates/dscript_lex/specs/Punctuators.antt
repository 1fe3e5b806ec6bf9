-- The spellings of punctuators: brackets, operators and the like.
use Rattle.std.specs.Prelude.{ℕ, Bool, true, false, ◌&&◌, ◌==◌, List, [], ◌∷◌, codes}
use Rattle.std.specs.List.{list_any}

-- the punctuators of one byte, of two and of three
abbrev pub punctuators_of_one : List ℕ
punctuators_of_one = codes "{}()[].;,<>+-*!?:=|/%&^~"

abbrev pub punctuators_of_two : List (List ℕ)
punctuators_of_two =
    codes "<=" ∷ codes ">=" ∷ codes "&&" ∷ codes "||" ∷ codes "=>" ∷ codes "@@" ∷ codes "==" ∷ codes "!="
    ∷ codes "++" ∷ codes "--" ∷ codes "+=" ∷ codes "-=" ∷ codes "*=" ∷ codes "**" ∷ codes "<<"
    ∷ codes "??" ∷ codes "?." ∷ []

abbrev pub punctuators_of_three : List (List ℕ)
punctuators_of_three = codes "..." ∷ codes "===" ∷ codes "!==" ∷ []

-- whether the two lists have equal bytes
abbrev pub spells : List ℕ → List ℕ → Bool
spells [] [] = true
spells (x ∷ xs) (y ∷ ys) = x == y && spells xs ys
spells _ _ = false

-- whether the text is the spelling of a punctuator
unfoldable pub is_punctuator : List ℕ → Bool
is_punctuator (a ∷ []) = list_any (λ b. b == a) punctuators_of_one
is_punctuator (a ∷ b ∷ []) = list_any (spells (a ∷ b ∷ [])) punctuators_of_two
is_punctuator (a ∷ b ∷ c ∷ []) = list_any (spells (a ∷ b ∷ c ∷ [])) punctuators_of_three
is_punctuator _ = false
