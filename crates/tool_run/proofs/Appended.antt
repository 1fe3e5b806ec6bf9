-- A register with bytes added at its end, in place.
use Rattle.std.proofs.Common.{◌≡◌, ◌≢◌, ℕ, ◌+◌, ◌≤◌, cond, List, [], ◌∷◌, length, set, Some, None, refl, ap, sym, ◌∙◌, zero, suc}
use Rattle.std.proofs.lemmas.Bool.{le-ltb}
use Rattle.std.proofs.lemmas.List.{get_or-set_other}
use Rattle.observed.specs.declared.access.End.TheVariants as ends
use Rattle.tool_text.specs.declared.tool.Operand.{Operand}
use Rattle.tool_text.specs.declared.tool.Operand.TheVariants.{Register, Constant}
use Rattle.tool_run.specs.declared.limits.TheConstants.{MAX_REGISTER}
use Rattle.tool_run.specs.declared.effect.Effect.TheVariants as effects
use Rattle.tool_run.specs.Machine.{Machine, effect_of, fitting, with_register}
use Rattle.tool_run.specs.Values.{value_of}

set_twice : (xs : List (List ℕ)) (n : ℕ) (a b : List ℕ) → set (set xs n a) n b ≡ set xs n b
set_twice [] n a b = refl
set_twice (x ∷ xs) zero a b = refl
set_twice (x ∷ xs) (suc n) a b = ap (λ ys. x ∷ ys) (set_twice xs n a b)

-- another operand is as it was while a register is empty
pub other_value : (registers : List (List ℕ)) (r : ℕ) (bytes : List ℕ) (y : Operand) → y ≢ Register r → value_of (set registers r bytes) y ≡ value_of registers y
other_value registers r bytes (Register k) other = get_or-set_other registers r k bytes [] (λ e. other (ap Register e))
other_value registers r bytes (Constant text) other = refl

pub appended : (m : Machine) (r : ℕ) (bytes content empty : List ℕ) → content ≡ bytes → length bytes ≤ MAX_REGISTER
    → (record m { place = m.place + 1; registers = set (set m.registers r empty) r content }, effects.Goes) ≡ effect_of (fitting m r bytes)
appended m r bytes content empty is short =
    ap (λ rs. (record m { place = m.place + 1; registers = rs }, effects.Goes)) (set_twice m.registers r empty content ∙ ap (set m.registers r) is)
    ∙ ap (λ t. effect_of (cond t (m, Some ends.TooLong) (with_register m r bytes, None))) (sym (le-ltb MAX_REGISTER (length bytes) short))
