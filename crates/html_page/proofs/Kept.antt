-- In a page no byte of a given text leads a reader out of its mode.
use Rattle.std.proofs.Common.{◌≡◌, ℕ, true, false, Bool, ◌&&◌, ◌==◌, cond, List, [], ◌∷◌, ◌++◌, inl, inr, refl, ap, sym, ◌∙◌, subst, append_assoc, codes}
use Rattle.std.specs.Bool.{nat_le}
use Rattle.std.specs.List.{AllByRecursion}
use Rattle.bx_tree.proofs.Lists.{all_append}
use Rattle.html_page.specs.Escaping.{escaped, escaped_byte, shown_byte}
use Rattle.html_page.specs.Pages.{Given, Markup, Part, attr_name, attr_start, body_parts, closing, head_text, page_parts, parts_of, quote, tag_name, tag_start, tail_text}
use Rattle.html_page.specs.Reading.{InTag, InText, InValue, IsKept, Mode, Stays, mode_after, step}
use Rattle.html_page.specs.declared.piece.Attr.{Attr}
use Rattle.html_page.specs.declared.piece.Attr.TheVariants as attrs
use Rattle.html_page.specs.declared.piece.Piece.{Piece}
use Rattle.html_page.specs.declared.piece.Piece.TheVariants as pieces
use Rattle.html_page.specs.declared.piece.Tag.{Tag}
use Rattle.html_page.specs.declared.piece.Tag.TheVariants as tags

-- ## Markup

mode_append : (mode : Mode) (xs ys : List ℕ) → mode_after mode (xs ++ ys) ≡ mode_after (mode_after mode xs) ys
mode_append mode [] ys = refl
mode_append mode (x ∷ xs) ys = mode_append (step mode x) xs ys

in_tag : (tag : Tag) → mode_after InTag (tag_name tag) ≡ InTag
in_tag tags.Heading = refl
in_tag tags.Subheading = refl
in_tag tags.Paragraph = refl
in_tag tags.Table = refl
in_tag tags.Row = refl
in_tag tags.HeadCell = refl
in_tag tags.Cell = refl
in_tag tags.Link = refl
in_tag tags.Section = refl
in_tag tags.List = refl
in_tag tags.Item = refl
in_tag tags.Code = refl
in_tag tags.Picture = refl
in_tag tags.Group = refl
in_tag tags.Box = refl
in_tag tags.Line = refl
in_tag tags.Label = refl

in_attr : (attr : Attr) → mode_after InTag (attr_name attr) ≡ InTag
in_attr attrs.Id = refl
in_attr attrs.Class = refl
in_attr attrs.Href = refl
in_attr attrs.Transform = refl
in_attr attrs.Course = refl
in_attr attrs.ViewBox = refl

-- after the name of a tag
after_tag : (tag : Tag) (text : List ℕ) → mode_after InText (tag_start tag ++ text) ≡ mode_after InTag text
after_tag tag text = mode_append InTag (tag_name tag) text ∙ ap (λ m. mode_after m text) (in_tag tag)

after_attr : (attr : Attr) → mode_after InTag (attr_start attr) ≡ InValue
after_attr attr =
    mode_append InTag (attr_name attr ++ codes "=") quote
    ∙ ap (λ m. mode_after m quote) (mode_append InTag (attr_name attr) (codes "=") ∙ ap (λ m. mode_after m (codes "=")) (in_attr attr))

after_closing : (tag : Tag) → mode_after InText (closing tag) ≡ InText
after_closing tag = mode_append InTag (tag_name tag) (codes ">") ∙ ap (λ m. mode_after m (codes ">")) (in_tag tag)

-- ## Given texts

-- a byte that opens no tag and ends no value
record IsPlain (b : ℕ) : Type 0 where
  in_text : step InText b ≡ InText
  in_value : step InValue b ≡ InValue

plain_byte : (b : ℕ) → (b == 60) ≡ false → (b == 34) ≡ false → IsPlain b
plain_byte b e f = record { in_text = ap (λ t. cond t InTag InText) e; in_value = ap (λ t. cond t InTag InValue) f }

plain_shown : (b : ℕ) → (b == 60) ≡ false → (b == 34) ≡ false → IsPlain (shown_byte b)
plain_shown b e f = by_test (nat_le 32 b && nat_le b 126)
  where
    by_test : (t : Bool) → IsPlain (cond t b 63)
    by_test true = plain_byte b e f
    by_test false = record { in_text = refl; in_value = refl }

abbrev AllPlain : List ℕ → Type 0
AllPlain text = AllByRecursion IsPlain text

plain_escaped : (b : ℕ) → AllPlain (escaped_byte b)
plain_escaped b = by_tests (b == 38) (b == 60) (b == 62) (b == 34) (b == 39) refl refl
  where
    one : (x : ℕ) → step InText x ≡ InText → step InValue x ≡ InValue → IsPlain x
    one x e f = record { in_text = e; in_value = f }

    by_tests : (and less more quotes apostrophe : Bool) → (b == 60) ≡ less → (b == 34) ≡ quotes
        → AllPlain (cond and (codes "&amp;") (cond less (codes "&lt;") (cond more (codes "&gt;") (cond quotes (codes "&quot;") (cond apostrophe (codes "&#39;") (shown_byte b ∷ []))))))
    by_tests true less more quotes apostrophe e f = (one 38 refl refl, (one 97 refl refl, (one 109 refl refl, (one 112 refl refl, (one 59 refl refl, tt)))))
    by_tests false true more quotes apostrophe e f = (one 38 refl refl, (one 108 refl refl, (one 116 refl refl, (one 59 refl refl, tt))))
    by_tests false false true quotes apostrophe e f = (one 38 refl refl, (one 103 refl refl, (one 116 refl refl, (one 59 refl refl, tt))))
    by_tests false false false true apostrophe e f = (one 38 refl refl, (one 113 refl refl, (one 117 refl refl, (one 111 refl refl, (one 116 refl refl, (one 59 refl refl, tt))))))
    by_tests false false false false true e f = (one 38 refl refl, (one 35 refl refl, (one 51 refl refl, (one 57 refl refl, (one 59 refl refl, tt)))))
    by_tests false false false false false e f = (plain_shown b e f, tt)

all_plain : (text : List ℕ) → AllPlain (escaped text)
all_plain [] = tt
all_plain (b ∷ bs) = all_append IsPlain (escaped_byte b) (escaped bs) (plain_escaped b) (all_plain bs)

stays_in_text : (text : List ℕ) → AllPlain text → Stays InText text
stays_in_text [] h = tt
stays_in_text (b ∷ bs) h = (h.0.in_text, stays_in_text bs h.1)

stays_in_value : (text : List ℕ) → AllPlain text → Stays InValue text
stays_in_value [] h = tt
stays_in_value (b ∷ bs) h = (h.0.in_value, stays_in_value bs h.1)

-- ## Pieces

text_kept : (text : List ℕ) (rest : List Part) → IsKept InText rest → IsKept InText (Given text ∷ rest)
text_kept text rest h = (inl refl, stays_in_text (escaped text) (all_plain text), h)

value_kept : (text : List ℕ) (rest : List Part) → IsKept InValue rest → IsKept InValue (Given text ∷ rest)
value_kept text rest h = (inr refl, stays_in_value (escaped text) (all_plain text), h)

markup_kept : (mode next : Mode) (text : List ℕ) (rest : List Part) → mode_after mode text ≡ next → IsKept next rest → IsKept mode (Markup text ∷ rest)
markup_kept mode next text rest e h = subst (λ m. IsKept m rest) (sym e) h

piece_kept : (piece : Piece) (rest : List Part) → IsKept InText rest → IsKept InText (parts_of piece ++ rest)
piece_kept (pieces.Open tag) rest h = markup_kept InText InText (tag_start tag ++ codes ">") rest (after_tag tag (codes ">")) h
piece_kept (pieces.OpenWith tag attr value) rest h =
    markup_kept InText InValue (tag_start tag ++ attr_start attr) (Given value ∷ Markup (quote ++ codes ">") ∷ rest)
    (after_tag tag (attr_start attr) ∙ after_attr attr)
    (value_kept value (Markup (quote ++ codes ">") ∷ rest) (markup_kept InValue InText (quote ++ codes ">") rest refl h))
piece_kept (pieces.Close tag) rest h = markup_kept InText InText (closing tag) rest (after_closing tag) h
piece_kept (pieces.Text text) rest h = text_kept text rest h

body_kept : (all : List Piece) (rest : List Part) → IsKept InText rest → IsKept InText (body_parts all ++ rest)
body_kept [] rest h = h
body_kept (piece ∷ all) rest h =
    subst (IsKept InText) (sym (append_assoc (parts_of piece) (body_parts all) rest))
    (piece_kept piece (body_parts all ++ rest) (body_kept all rest h))

after_head : mode_after InText head_text ≡ InText
unfolding head_text
after_head = refl

pub kept : (all : List Piece) → IsKept InText (page_parts all)
kept all =
    markup_kept InText InText head_text (body_parts all ++ Markup tail_text ∷ []) after_head
    (body_kept all (Markup tail_text ∷ []) (markup_kept InText InText tail_text [] refl refl))
