-- Lists that are empty.
use Rattle.std.proofs.Common.{◌≡◌, ◌∙◌, ℕ, Bool, true, arith, sym}
use Rattle.std.specs.Bool.{◌==◌}
use Rattle.std.proofs.lemmas.Bool.Decides.{Decides-eqb}

-- a list of no elements, where a test of the length says so
pub none_there : (b : Bool) (len n : ℕ) → b ≡ (len == 0) → b ≡ true → len ≡ n → n ≡ 0
none_there b len n e t same = let zero = (Decides-eqb len 0).0 (sym e ∙ t) in omega (arith, zero, same)
