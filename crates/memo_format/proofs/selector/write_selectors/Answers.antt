use Rattle.std.proofs.Common.{◌≡◌, ◌++◌, ◌∙◌, List, ℕ, codes, map, ap, subst}
use Rattle.std.specs.List.{AllByRecursion, flat_map}
use Rattle.std.proofs.lemmas.List.{map-id}
use Rattle.memo_format.specs.Seals.{sealed}
use Rattle.memo_format.specs.Selectors.{IsSelector, read_selectors_text, select_line, selectors_text}
use Rattle.memo_format.proofs.FormTexts.{selectors_again}
use Rattle.memo_format.proofs.selector.write_selectors.Goals as goal

written : (start text line all : List ℕ) → start ≡ codes "selectors 1\n" → text ≡ start ++ line → all ≡ sealed text → all ≡ sealed (codes "selectors 1\n" ++ line)
written start text line all is more end = end ∙ ap sealed (more ∙ ap (λ t. t ++ line) is)

pub returns-clause-text : goal.returns-clause-text
returns-clause-text c =
    written c.in_ok-text.text.items c.append_lines.new.text.items (flat_map select_line (map (λ s. s) c.args.list.now)) c.seal.new.text.items
    c.in_ok-text.ensures.items c.in_ok-append_lines.ensures.text c.in_ok-seal.ensures
    ∙ ap (λ list. selectors_text list) (map-id c.args.list.now)

pub returns-clause-read : goal.returns-clause-read
returns-clause-read c =
    let text =
    written c.in_ok-text.text.items c.append_lines.new.text.items (flat_map select_line (map (λ s. s) c.args.list.now)) c.seal.new.text.items
    c.in_ok-text.ensures.items c.in_ok-append_lines.ensures.text c.in_ok-seal.ensures
    ∙ ap (λ list. selectors_text list) (map-id c.args.list.now) in
    ap read_selectors_text text
    ∙ selectors_again c.args.list.now (record { few = c.requires; each = subst (AllByRecursion IsSelector) (map-id c.args.list.now) c.in_ok-append_lines.ensures.fit })
