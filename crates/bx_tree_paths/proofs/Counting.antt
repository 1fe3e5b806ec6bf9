-- The steps of a search by halving.
use Rattle.std.proofs.Common.{◌≡◌, ℕ, ◌+◌, ◌*◌, ◌^◌, ◌<◌, ◌≤◌, sym, subst, arith}
use Rattle.std.proofs.Math.Nat.{mul_assoc}
use Rattle.std.proofs.lemmas.Grind.{pow_more}
use Rattle.std.proofs.lemmas.Nat.{mul-le, pow-add}
use Rattle.bx_tree_paths.specs.Steps.{TookAtMost}

-- k steps were taken of a search among n items, and so many items are left
pub record Taken (old now n left : ℕ) : Type 0 where
  pub k : ℕ
  pub steps : now ≡ old + k
  pub halved : 2 ^ k * left ≤ n
  pub few : 2 ^ k ≤ 2 * n + 1

pub none_taken : (old n : ℕ) → Taken old old n n
none_taken old n = record { k = 0; steps = omega arith; halved = omega arith; few = omega arith }

-- twice as much of at most half is no more
doubled : (p left half n : ℕ) → p * left ≤ n → 2 * half ≤ left → (p * 2) * half ≤ n
doubled p left half n small fits =
    let less : p * (2 * half) ≤ p * left = mul-le p (2 * half) p left (omega arith) fits in
    let level : (p * 2) * half ≡ p * (2 * half) = mul_assoc p 2 half in
    omega (arith, small, less, level)

at_least : (p left n : ℕ) → p * left ≤ n → 0 < left → p ≤ n
at_least p left n small some =
    let less : p * 1 ≤ p * left = mul-le p 1 p left (omega arith) some in
    omega (arith, small, less)

pub one_more : (old now new n left half : ℕ) → Taken old now n left → 0 < left → 2 * half ≤ left → new ≡ now + 1 → Taken old new n half
one_more old now new n left half t some fits e =
    let more : 2 ^ (t.k + 1) ≡ 2 ^ t.k * 2 = pow_more 2 t.k in
    let small : 2 ^ t.k ≤ n = at_least (2 ^ t.k) left n t.halved some in
    record {
      k = t.k + 1;
      steps = omega (arith, e, t.steps);
      halved = subst (λ p. p * half ≤ n) (sym more) (doubled (2 ^ t.k) left half n t.halved fits);
      few = omega (arith, more, small);
    }

pub took : (old now n left : ℕ) → Taken old now n left → TookAtMost old now (2 * n + 1)
took old now n left t = (t.k, t.steps, t.few)

-- two searches, one after the other
pub took_both : (old now new n : ℕ) → TookAtMost old now n → TookAtMost now new n → TookAtMost old new (n * n)
took_both old now new n a b =
    let more : 2 ^ (a.0 + b.0) ≡ 2 ^ a.0 * 2 ^ b.0 = pow-add 2 a.0 b.0 in
    let less : 2 ^ a.0 * 2 ^ b.0 ≤ n * n = mul-le (2 ^ a.0) (2 ^ b.0) n n a.2 b.2 in
    (a.0 + b.0, omega (arith, a.1, b.1), omega (arith, more, less))

-- fewer steps are within a larger bound
pub took_less : (old new m n : ℕ) → m ≤ n → TookAtMost old new m → TookAtMost old new n
took_less old new m n less a = (a.0, a.1, omega (arith, a.2, less))
