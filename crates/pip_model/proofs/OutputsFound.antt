-- Pips are found by their outputs, one by one.
use Rattle.std.proofs.Common.{◌≡◌, ℕ, suc, ◌+◌, ◌<◌, ◌≤◌, List, ◌++◌, length, drop, get_or, ap, append_assoc, append-nil, sym, ◌∙◌, add-one}
use Rattle.std.proofs.lemmas.List.{drop_all}
use Rattle.std.proofs.Math.Seq.{drop-cons}
use Rattle.pip_model_types.specs.declared.pip.Pip.{Pip}
use Rattle.pip_model.specs.Outputs.{numbers_at, numbers_from, output_paths}

next_numbers : (text : List ℕ) (pips : List Pip) (j : ℕ) (pip : Pip) → j < length pips → pip ≡ get_or pips j pip
    → numbers_from j text (drop j pips)
    ≡ numbers_at j text (output_paths pip.kind) ++ numbers_from (j + 1) text (drop (j + 1) pips)
next_numbers text pips j pip l is =
    ap (numbers_from j text) (drop-cons pips j pip l)
    ∙ ap (λ (p : Pip). numbers_at j text (output_paths p.kind) ++ numbers_from (j + 1) text (drop (suc j) pips)) (sym is)
    ∙ ap (λ m. numbers_at j text (output_paths pip.kind) ++ numbers_from (j + 1) text (drop m pips)) (sym (add-one j))

pub next_pip : (text : List ℕ) (pips : List Pip) (j : ℕ) (pip : Pip) (old new : List ℕ) → j < length pips → pip ≡ get_or pips j pip
    → new ≡ old ++ numbers_at j text (output_paths pip.kind)
    → old ++ numbers_from j text (drop j pips) ≡ numbers_from 0 text pips
    → new ++ numbers_from (j + 1) text (drop (j + 1) pips) ≡ numbers_from 0 text pips
next_pip text pips j pip old new l is e h =
    let here = numbers_at j text (output_paths pip.kind) in
    let rest = numbers_from (j + 1) text (drop (j + 1) pips) in
    ap (λ ys. ys ++ rest) e ∙ append_assoc old here rest
    ∙ ap (λ ys. old ++ ys) (sym (next_numbers text pips j pip l is)) ∙ h

pub no_pip_left : (text : List ℕ) (pips : List Pip) (j : ℕ) (old : List ℕ) → length pips ≤ j
    → old ++ numbers_from j text (drop j pips) ≡ numbers_from 0 text pips → old ≡ numbers_from 0 text pips
no_pip_left text pips j old l h =
    sym (append-nil old) ∙ ap (λ ps. old ++ numbers_from j text ps) (sym (drop_all j pips l)) ∙ h
