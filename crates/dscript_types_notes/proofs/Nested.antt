-- Lists of lists.
use Rattle.std.proofs.Common.{◌≡◌, ℕ, zero, suc, ◌-◌, ◌<◌, ◌≤◌, refl, ap, ◌∙◌, arith}
use Rattle.dscript_types_meaning.specs.Annotations.{lists_of}
use Rattle.dscript_types_meaning.specs.Types.{TypeData, list_type}

inner_list : (n : ℕ) (t : TypeData) → lists_of n (list_type t) ≡ list_type (lists_of n t)
inner_list zero t = refl
inner_list (suc n) t = ap list_type (inner_list n t)

-- one list is made
pub list_made
    : (left : ℕ) (t u whole : TypeData) → 0 < left → u ≡ list_type t → lists_of left t ≡ whole → lists_of (left - 1) u ≡ whole
list_made zero t u whole l is kept = absurd (omega (arith, l))
list_made (suc n) t u whole l is kept =
    let less : suc n - 1 ≡ n = omega arith in
    ap (lists_of (suc n - 1)) is ∙ ap (λ (k : ℕ). lists_of k (list_type t)) less ∙ inner_list n t ∙ kept

-- all are made
pub lists_made : (left : ℕ) (t whole : TypeData) → left ≤ 0 → lists_of left t ≡ whole → t ≡ whole
lists_made zero t whole l kept = kept
lists_made (suc n) t whole l kept = absurd (omega (arith, l))
