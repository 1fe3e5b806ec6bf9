-- Where types end.
use Rattle.std.specs.Prelude.{◌≡◌, List, None}
use Rattle.dscript_lex.specs.declared.token.TokenKind.{TokenKind}
use Rattle.dscript_grammar.specs.Reading.{take_punctuator}

-- no type goes on with the first of these tokens
pub record EndsType (rest : List TokenKind) : Type 0 where
  pub no_dot : take_punctuator "." rest ≡ None
  pub no_angle : take_punctuator "<" rest ≡ None
  pub no_bracket : take_punctuator "[" rest ≡ None
  pub no_bar : take_punctuator "|" rest ≡ None
