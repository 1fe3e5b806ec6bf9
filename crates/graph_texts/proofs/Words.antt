-- What follows a word.
use Rattle.std.proofs.Common.{◌≡◌, ℕ, false, List, Option, Some, None, refl}
use Rattle.std.specs.Prelude.{is_some}
use Rattle.observed.specs.Texts.{after_prefix}
use Rattle.prints.specs.Lines.{begins}

none_there : (o : Option (List ℕ)) → is_some o ≡ false → o ≡ None
none_there None e = refl
none_there (Some rest) e = absurd cc

-- a text that does not begin with a word has nothing after it
pub passes : (word text : List ℕ) → begins word text ≡ false → after_prefix word text ≡ None
passes word text e = none_there (after_prefix word text) e
