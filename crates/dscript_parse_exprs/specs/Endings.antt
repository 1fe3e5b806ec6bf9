-- Where expressions and notes of a type end.
use Rattle.std.specs.Prelude.{◌≡◌, ◌<◌, false, List, None}
use Rattle.dscript_lex.specs.declared.token.TokenKind.{TokenKind}
use Rattle.dscript_grammar.specs.ExprGrammar.{any_expr}
use Rattle.dscript_grammar.specs.ExprReading.{at_part, at_template, operator_precedence}
use Rattle.dscript_grammar.specs.Reading.{at_punctuator, take_punctuator}
use Rattle.dscript_parse_tokens.specs.Endings.{EndsType}

-- no expression goes on with the first of these tokens
pub record EndsExpr (rest : List TokenKind) : Type 0 where
  pub no_arrow : at_punctuator "=>" rest ≡ false
  pub no_template : at_template rest ≡ false
  pub no_part : at_part rest ≡ false
  pub no_operator : any_expr < operator_precedence rest
  pub no_question : take_punctuator "?" rest ≡ None

-- no type begins or goes on with the first of these tokens
pub record EndsNote (rest : List TokenKind) : Type 0 where
  pub no_colon : take_punctuator ":" rest ≡ None
  pub no_more : EndsType rest
