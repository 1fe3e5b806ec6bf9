-- A text has at most as many tokens as bytes.
use Rattle.std.proofs.Common.{ℕ, ◌+◌, ◌≤◌, ◌<◌, List, [], ◌∷◌, length, arith}
use Rattle.dscript_lex.specs.declared.token.Token.{Token}
use Rattle.dscript_lex.specs.Tokens.{AreTokens, Rise}
use Rattle.dscript_lex.proofs.TokenPlaces.{places}

-- tokens that rise between two places are no more than the bytes between them
between : (from to : ℕ) (ts : List Token) → Rise from ts to → from + length ts ≤ to
between from to [] rise = omega (arith, rise)
between from to (t ∷ ts) rise =
    let others = between t.end to ts rise.2 in
    omega (arith, rise.0, rise.1, others)

pub at_most_bytes : (bytes : List ℕ) (tokens : List Token) → AreTokens bytes tokens → length tokens ≤ length bytes
at_most_bytes bytes tokens are =
    let count = between 0 (length bytes) tokens (places bytes tokens are).rise in
    omega (arith, count)
