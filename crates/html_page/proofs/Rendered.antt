-- The text of a page is that of its pieces, one after the other.
use Rattle.std.proofs.Common.{◌≡◌, ℕ, List, [], ◌∷◌, ◌++◌, refl, ap, sym, ◌∙◌, append_assoc, append-nil}
use Rattle.std.specs.List.{flat_map}
use Rattle.html_page.specs.Pages.{Markup, Part, body_parts, head_text, page_text, part_text, parts_of, piece_text, tail_text}
use Rattle.html_page.specs.declared.piece.Piece.{Piece}

parts_append : (xs ys : List Part) → flat_map part_text (xs ++ ys) ≡ flat_map part_text xs ++ flat_map part_text ys
parts_append [] ys = refl
parts_append (x ∷ xs) ys = ap (λ t. part_text x ++ t) (parts_append xs ys) ∙ sym (append_assoc (part_text x) (flat_map part_text xs) (flat_map part_text ys))

body_text : (all : List Piece) → flat_map part_text (body_parts all) ≡ flat_map piece_text all
body_text [] = refl
body_text (piece ∷ all) = parts_append (parts_of piece) (body_parts all) ∙ ap (λ t. piece_text piece ++ t) (body_text all)

pub whole_page : (all : List Piece) (text : List ℕ) → text ≡ (head_text ++ flat_map piece_text all) ++ tail_text → text ≡ page_text all
whole_page all text e =
    e ∙ append_assoc head_text (flat_map piece_text all) tail_text
    ∙ ap (λ t. head_text ++ (t ++ tail_text)) (sym (body_text all))
    ∙ ap (λ t. head_text ++ (flat_map part_text (body_parts all) ++ t)) (sym (append-nil tail_text))
    ∙ ap (λ t. head_text ++ t) (sym (parts_append (body_parts all) (Markup tail_text ∷ [])))
