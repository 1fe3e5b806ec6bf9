-- A text is the notes of one set of counts at most.
use Rattle.std.proofs.Common.{◌≡◌, ◌≢◌, ℕ, ◌<◌, ◌^◌, List, [], ◌∷◌, ◌++◌, codes, Option, Some, None, refl, sym, ap, ◌∙◌, subst, arith, append_assoc, append-nil}
use Rattle.std.specs.Fmt.{decimal}
use Rattle.std.specs.Char.{digit_value}
use Rattle.std.specs.List.{AllByRecursion}
use Rattle.std.specs.Str.Parse.{AllDigits}
use Rattle.std.proofs.lemmas.Fmt.{decimal_injective, decimal_is_IsNumeral}
use Rattle.std.proofs.lemmas.List.{append_cancel_left}
use Rattle.bx_tree.proofs.HeaderParts.{split_one_way}
use Rattle.build_report.specs.declared.counts.Counts.{Counts}
use Rattle.build_report.specs.declared.counts.GraphLine.{GraphLine}
use Rattle.build_report.specs.declared.counts.GraphLine.TheVariants.{Hit, Ran, Fault}
use Rattle.build_report.specs.Notes.{AreInRange, count_line, graph_line, notes_text}

-- no digit is a newline
no_newline : (ds : List ℕ) → AllDigits 10 ds → AllByRecursion (λ b. b ≢ 10) ds
no_newline [] h = tt
no_newline (d ∷ ds) h = (
  λ e. omega (arith, subst (λ (b : ℕ). digit_value b < 10) e h.0),
  no_newline ds h.1,
)

after_name : (name digits x : List ℕ) → name ++ codes " " ++ digits ++ codes "\n" ++ x ≡ name ++ codes " " ++ (digits ++ 10 ∷ x)
after_name name digits x =
    append_assoc (name ++ codes " " ++ digits) (codes "\n") x ∙ append_assoc (name ++ codes " ") digits (10 ∷ x)

-- two texts that begin with a line of one name have one count there, and go on in one way
one_count : (name : List ℕ) (m n : ℕ) (x y : List ℕ) → m < 2 ^ 64 → n < 2 ^ 64 → count_line name m ++ x ≡ count_line name n ++ y
    → (m ≡ n) × (x ≡ y)
one_count name m n x y small few e =
    let lines = append_cancel_left (name ++ codes " ") (decimal m ++ 10 ∷ x) (decimal n ++ 10 ∷ y)
    (sym (after_name name (decimal m) x) ∙ e ∙ after_name name (decimal n) y) in
    let parts = split_one_way 10 (decimal m) x (decimal n) y
    (no_newline (decimal m) (decimal_is_IsNumeral m small).0.1) (no_newline (decimal n) (decimal_is_IsNumeral n few).0.1) lines in
    (decimal_injective m n small few parts.0, parts.1)

-- the words after "graph " begin with one letter
letters : (m n : ℕ) {x y : List ℕ} → (m ≡ n → ⊥) → codes "graph " ++ m ∷ x ≡ codes "graph " ++ n ∷ y → ⊥
letters m n other e = let same : m ≡ n = cc in other same

-- one line says where the pips came from
one_graph : (a b : Option GraphLine) → graph_line a ≡ graph_line b → a ≡ b
one_graph None None e = refl
one_graph None (Some Hit) e = absurd cc
one_graph None (Some Ran) e = absurd cc
one_graph None (Some Fault) e = absurd cc
one_graph (Some Hit) None e = absurd cc
one_graph (Some Hit) (Some Hit) e = refl
one_graph (Some Hit) (Some Ran) e = absurd (letters 104 114 (λ m. omega (arith, m)) e)
one_graph (Some Hit) (Some Fault) e = absurd (letters 104 102 (λ m. omega (arith, m)) e)
one_graph (Some Ran) None e = absurd cc
one_graph (Some Ran) (Some Hit) e = absurd (letters 114 104 (λ m. omega (arith, m)) e)
one_graph (Some Ran) (Some Ran) e = refl
one_graph (Some Ran) (Some Fault) e = absurd (letters 114 102 (λ m. omega (arith, m)) e)
one_graph (Some Fault) None e = absurd cc
one_graph (Some Fault) (Some Hit) e = absurd (letters 102 104 (λ m. omega (arith, m)) e)
one_graph (Some Fault) (Some Ran) e = absurd (letters 102 114 (λ m. omega (arith, m)) e)
one_graph (Some Fault) (Some Fault) e = refl

in_order : (a b c d e f : List ℕ) → a ++ b ++ c ++ d ++ e ++ f ≡ a ++ (b ++ (c ++ (d ++ (e ++ f))))
in_order a b c d e f = simp (append_assoc, append-nil)

same_counts : (c d : Counts) → c.hits ≡ d.hits → c.ran ≡ d.ran → c.late ≡ d.late → c.faults ≡ d.faults → c.starved ≡ d.starved
    → c.graph ≡ d.graph → c ≡ d
same_counts c d hits ran late faults starved graph =
    λ i. record { hits = hits i; ran = ran i; late = late i; faults = faults i; starved = starved i; graph = graph i }

pub one_set : (counts others : Counts) → AreInRange counts → AreInRange others → notes_text counts ≡ notes_text others → counts ≡ others
one_set c d small few e =
    let lines = sym (in_order (count_line (codes "hits") c.hits) (count_line (codes "ran") c.ran) (count_line (codes "late") c.late)
    (count_line (codes "store-faults") c.faults) (count_line (codes "starved") c.starved) (graph_line c.graph))
    ∙ e
    ∙ in_order (count_line (codes "hits") d.hits) (count_line (codes "ran") d.ran) (count_line (codes "late") d.late)
    (count_line (codes "store-faults") d.faults) (count_line (codes "starved") d.starved) (graph_line d.graph) in
    let hits = one_count (codes "hits") c.hits d.hits _ _ small.hits few.hits lines in
    let ran = one_count (codes "ran") c.ran d.ran _ _ small.ran few.ran hits.1 in
    let late = one_count (codes "late") c.late d.late _ _ small.late few.late ran.1 in
    let faults = one_count (codes "store-faults") c.faults d.faults _ _ small.faults few.faults late.1 in
    let starved = one_count (codes "starved") c.starved d.starved _ _ small.starved few.starved faults.1 in
    same_counts c d hits.0 ran.0 late.0 faults.0 starved.0 (one_graph c.graph d.graph starved.1)
