-- Counts of faults over several calls.
use Rattle.std.proofs.Common.{ℕ, ◌≤◌, arith}
use Rattle.bx_io.specs.Causes.{HasCause, Rose}

-- a rise after a while is a rise
pub rose_since : (a b c : ℕ) → a ≤ b → Rose b c → Rose a c
rose_since a b c h k = omega arith

-- a call after a while has the cause
pub cause_since : {P : Type 0} (a b c : ℕ) → a ≤ b → HasCause b c P → HasCause a c P
cause_since a b c h k = record { later = omega (arith, k.later); rose = λ p. rose_since a b c h (k.rose p) }

-- what did not come has a cause
pub no_answer : {P : Type 0} (a b : ℕ) → a ≤ b → (P → ⊥) → HasCause a b P
no_answer a b h n = record { later = h; rose = λ p. absurd (n p) }

-- an answer that comes only with another has its cause
pub cause_of : {P Q : Type 0} (a b : ℕ) → (Q → P) → HasCause a b P → HasCause a b Q
cause_of a b f k = record { later = k.later; rose = λ q. k.rose (f q) }
