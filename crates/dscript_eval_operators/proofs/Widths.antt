-- Which numbers have 32 bits.
use Rattle.std.proofs.Common.{◌≡◌, ◌^◌, ◌<◌, ℤ, pos, negsuc, cond, Ok, Err, ap, FitsSigned, w32, inl, inr}
use Rattle.std.proofs.lemmas.Bool.{cases_lt, lt-ltb, le-ltb}
use Rattle.dscript_value.specs.Plain as plain
use Rattle.dscript_value.specs.Plain.{Plain}
use Rattle.dscript_sdk_values.specs.Outcomes.{Outcome}
use Rattle.dscript_sdk_values.specs.declared.fault.SdkFault.TheVariants.{Range}
use Rattle.dscript_eval_operators.specs.Numbers.{fits, integer_answer}

pub integer_within : (n : ℤ) → FitsSigned w32 n → integer_answer n ≡ Ok (plain.Number n)
integer_within (pos n) h =
    ap (λ b. cond b (Ok (plain.Number (pos n))) (Err Range)) (lt-ltb n (2 ^ 31) h.sfits)
integer_within (negsuc n) h =
    ap (λ b. cond b (Ok (plain.Number (negsuc n))) (Err Range)) (lt-ltb n (2 ^ 31) h.sfits)

pub integer_outside : (n : ℤ) → ¬ FitsSigned w32 n → integer_answer n ≡ Err Range
integer_outside (pos n) h = elim (cases_lt n (2 ^ 31)) [
  | inl less ↦ absurd (h (record { sfits = less }))
  | inr more ↦ ap (λ b. cond b (Ok (plain.Number (pos n))) (Err Range)) (le-ltb n (2 ^ 31) more)
]
integer_outside (negsuc n) h = elim (cases_lt n (2 ^ 31)) [
  | inl less ↦ absurd (h (record { sfits = less }))
  | inr more ↦ ap (λ b. cond b (Ok (plain.Number (negsuc n))) (Err Range)) (le-ltb n (2 ^ 31) more)
]
