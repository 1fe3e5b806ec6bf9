-- Lines that are written one after another, and the files of the bundle.
use Rattle.std.proofs.Common.{◌≡◌, ℕ, zero, suc, ◌+◌, ◌-◌, ◌<◌, ◌≤◌, List, [], ◌∷◌, ◌++◌, codes, ap, sym, refl, ◌∙◌, append_assoc, append-nil, arith}
use Rattle.bx_tree.specs.Bundle.{bundle, file_text}
use Rattle.bx_tree.specs.Paths.{Atoms}
use Rattle.bx_engine_generate.specs.Generated.{generated, line_at, lines_from, specification_path, state_after, tool_path, tool_text}

no_lines : (pip x : ℕ) → lines_from zero pip x ≡ []
unfolding lines_from
no_lines pip x = refl

next_line : (left pip x : ℕ) → lines_from (suc left) pip x ≡ line_at pip x ++ lines_from left (pip + 1) (state_after pip x)
unfolding lines_from
next_line left pip x = refl

-- one more line is written
pub one_more_line : (pips pip x y : ℕ) (text next whole : List ℕ) → pip < pips → text ++ lines_from (pips - pip) pip x ≡ whole
    → next ≡ text ++ line_at pip x → y ≡ state_after pip x
    → next ++ lines_from (pips - (pip + 1)) (pip + 1) y ≡ whole
one_more_line pips pip x y text next whole l so_far more state =
    let count : suc (pips - (pip + 1)) ≡ pips - pip = omega (arith, l) in
    ap (λ t. t ++ lines_from (pips - (pip + 1)) (pip + 1) y) more
    ∙ append_assoc text (line_at pip x) (lines_from (pips - (pip + 1)) (pip + 1) y)
    ∙ ap (λ z. text ++ (line_at pip x ++ lines_from (pips - (pip + 1)) (pip + 1) z)) state
    ∙ ap (λ t. text ++ t) (sym (next_line (pips - (pip + 1)) pip x))
    ∙ ap (λ n. text ++ lines_from n pip x) count
    ∙ so_far

-- all lines are written
pub all_lines : (pips pip x : ℕ) (text whole : List ℕ) → pips ≤ pip → text ++ lines_from (pips - pip) pip x ≡ whole → text ≡ whole
all_lines pips pip x text whole l so_far =
    let none : pips - pip ≡ 0 = omega (arith, l) in
    sym (append-nil text)
    ∙ ap (λ t. text ++ t) (sym (ap (λ n. lines_from n pip x) none ∙ no_lines pip x))
    ∙ so_far

-- ## The bundle

regroup : (a b c d : List ℕ) → ((a ++ b) ++ c) ++ d ≡ a ++ ((b ++ (c ++ [])) ++ d)
regroup a b c d = simp (append_assoc, append-nil)

two_files : (start one two whole head first second last : List ℕ) → start ≡ head → one ≡ start ++ first → two ≡ one ++ second
    → whole ≡ two ++ last → whole ≡ head ++ ((first ++ (second ++ [])) ++ last)
two_files start one two whole head first second last h0 h1 h2 h3 =
    h3 ∙ ap (λ t. t ++ last) (h2 ∙ ap (λ t. t ++ second) (h1 ∙ ap (λ t. t ++ first) h0)) ∙ regroup head first second last

-- both files are written, between the first line and the end
pub bundled : (start one two whole spec tool : List ℕ) (a b : Atoms) (seed pips : ℕ) → start ≡ codes "bundle 1\n"
    → one ≡ start ++ file_text (a, spec) → two ≡ one ++ file_text (b, tool) → whole ≡ two ++ codes "end\n" → a ≡ specification_path
    → spec ≡ lines_from pips 0 seed → b ≡ tool_path → tool ≡ tool_text → whole ≡ generated seed pips
bundled start one two whole spec tool a b seed pips h0 h1 h2 h3 ha hs hb ht =
    two_files start one two whole (codes "bundle 1\n") (file_text (a, spec)) (file_text (b, tool)) (codes "end\n") h0 h1 h2 h3
    ∙ ap (λ (p : Atoms). bundle ((p, spec) ∷ (b, tool) ∷ [])) ha
    ∙ ap (λ (t : List ℕ). bundle ((specification_path, t) ∷ (b, tool) ∷ [])) hs
    ∙ ap (λ (p : Atoms). bundle ((specification_path, lines_from pips 0 seed) ∷ (p, tool) ∷ [])) hb
    ∙ ap (λ (t : List ℕ). bundle ((specification_path, lines_from pips 0 seed) ∷ (tool_path, t) ∷ [])) ht
