use Rattle.std.proofs.Common.{◌≡◌, ◌++◌, ◌∙◌, ℕ, List, ap, append_assoc, codes}
use Rattle.std.specs.Fmt.{decimal}
use Rattle.pip_graph.specs.GraphText.{kind_word, output_lines}
use Rattle.pip_graph.proofs.nodes.add_label.Goals as goal

-- a label before the outputs of its pip
abbrev front : ℕ → List ℕ → List ℕ
front n word = codes "  p" ++ decimal n ++ codes " [label = \"" ++ decimal n ++ codes " " ++ word

pub returns : goal.returns
returns c =
    let n = c.args.number in
    let old = c.args.text.now.items in
    let lines = output_lines c.args.kind.now in
    let whole = front n (kind_word c.args.kind.now) in
    let made : c.in_ok-start.start.bytes.items ≡ front n c.kind_word-word.result.now = simp append_assoc c.in_ok-start.ensures.ok in
    let start : c.as_bytes.result.now ≡ whole = c.as_bytes.ensures.value ∙ made ∙ ap (front n) c.kind_word-word.ensures in
    c.in_ok-push.ensures.items
    ∙ ap (λ (t : List ℕ). t ++ codes "\"") (c.in_ok-add_outputs.ensures ∙ ap (λ (t : List ℕ). t ++ lines) (c.in_ok-extend_from_slice.ensures.items ∙ ap (λ (t : List ℕ). old ++ t) start))
    ∙ ap (λ (t : List ℕ). t ++ codes "\"") (append_assoc old whole lines) ∙ append_assoc old (whole ++ lines) (codes "\"")
