-- The lines of a report, one after the other.
use Rattle.std.proofs.Common.{◌≡◌, ℕ, suc, ◌+◌, ◌<◌, ◌≤◌, List, [], ◌∷◌, ◌++◌, length, drop, get_or, ap, sym, refl, ◌∙◌, add-one, append_assoc, append-nil}
use Rattle.std.proofs.lemmas.List.{drop_all}
use Rattle.std.proofs.Math.Seq.{drop-cons}
use Rattle.pip_model_types.specs.declared.pip.Pip.{Pip}
use Rattle.violations.specs.declared.verdict.Verdict.{Verdict}
use Rattle.build_report.specs.Reports.{pip_line, pip_lines}

-- the line of one pip, and those of the pips after it
pub line_and_more : (pips : List Pip) (vs : List Verdict) (n : ℕ) (pip : Pip) (v : Verdict) → n < length pips → n < length vs
    → pip ≡ get_or pips n pip → v ≡ get_or vs n v
    → pip_lines n (drop n pips) (drop n vs) ≡ pip_line n pip.kind v ++ pip_lines (n + 1) (drop (n + 1) pips) (drop (n + 1) vs)
line_and_more pips vs n pip v l k is_pip is_v =
    ap (λ ps. pip_lines n ps (drop n vs)) (drop-cons pips n pip l)
    ∙ ap (pip_lines n (get_or pips n pip ∷ drop (suc n) pips)) (drop-cons vs n v k)
    ∙ ap (λ (p : Pip). pip_line n p.kind (get_or vs n v) ++ pip_lines (n + 1) (drop (suc n) pips) (drop (suc n) vs)) (sym is_pip)
    ∙ ap (λ w. pip_line n pip.kind w ++ pip_lines (n + 1) (drop (suc n) pips) (drop (suc n) vs)) (sym is_v)
    ∙ ap (λ m. pip_line n pip.kind v ++ pip_lines (n + 1) (drop m pips) (drop m vs)) (sym (add-one n))

-- one more line is written
pub one_more_line : (pips : List Pip) (vs : List Verdict) (n : ℕ) (pip : Pip) (v : Verdict) (text next whole : List ℕ) → n < length pips
    → n < length vs → pip ≡ get_or pips n pip → v ≡ get_or vs n v → text ++ pip_lines n (drop n pips) (drop n vs) ≡ whole
    → next ≡ text ++ pip_line n pip.kind v → next ++ pip_lines (n + 1) (drop (n + 1) pips) (drop (n + 1) vs) ≡ whole
one_more_line pips vs n pip v text next whole l k is_pip is_v so_far more =
    ap (λ t. t ++ pip_lines (n + 1) (drop (n + 1) pips) (drop (n + 1) vs)) more
    ∙ append_assoc text (pip_line n pip.kind v) (pip_lines (n + 1) (drop (n + 1) pips) (drop (n + 1) vs))
    ∙ ap (λ t. text ++ t) (sym (line_and_more pips vs n pip v l k is_pip is_v))
    ∙ so_far

no_lines : (n : ℕ) (pips : List Pip) → pip_lines n pips [] ≡ []
no_lines n [] = refl
no_lines n (pip ∷ pips) = refl

-- all lines are written
pub all_lines : (pips : List Pip) (vs : List Verdict) (n : ℕ) (text whole : List ℕ) → length vs ≤ n
    → text ++ pip_lines n (drop n pips) (drop n vs) ≡ whole → text ≡ whole
all_lines pips vs n text whole l so_far =
    sym (append-nil text)
    ∙ ap (λ t. text ++ t) (sym (ap (pip_lines n (drop n pips)) (drop_all n vs l) ∙ no_lines n (drop n pips)))
    ∙ so_far
