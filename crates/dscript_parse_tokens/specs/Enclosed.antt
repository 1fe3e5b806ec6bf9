-- What is read up to a closing punctuator, and that punctuator.
use Prim.Native.String.{String}
use Rattle.std.specs.Prelude.{suc, List, length, not}
use Rattle.dscript_grammar.specs.Reading.{Reader, got, ◌>>=◌, at_punctuator, take_punctuator, read_list}
use Rattle.dscript_grammar.specs.Reading.{read_many}

-- how a punctuator is spelled
abbrev pub Spelling : Type 0
Spelling = String

-- a list with commas
abbrev pub read_closed_list : {X : Type 0} → String → Reader X → Reader (List X)
read_closed_list close one ts =
    read_list close one (suc (length ts)) ts
    >>= λ xs. take_punctuator close xs.rest
    >>= λ r. got xs.value xs.height r

-- one after the other
abbrev pub read_closed_many : {X : Type 0} → String → Reader X → Reader (List X)
read_closed_many close one ts =
    read_many (λ us. not (at_punctuator close us)) one (suc (length ts)) ts
    >>= λ xs. take_punctuator close xs.rest
    >>= λ r. got xs.value xs.height r
