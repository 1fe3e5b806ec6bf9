-- The text of a page.
use Rattle.std.specs.Prelude.{ℕ, List, [], ◌∷◌, ◌++◌, codes}
use Rattle.std.specs.List.{flat_map}
use Rattle.html_page.specs.Escaping.{escaped}
use Rattle.html_page.specs.declared.piece.Attr.{Attr}
use Rattle.html_page.specs.declared.piece.Attr.TheVariants as attrs
use Rattle.html_page.specs.declared.piece.Piece.{Piece}
use Rattle.html_page.specs.declared.piece.Piece.TheVariants as pieces
use Rattle.html_page.specs.declared.piece.Tag.{Tag}
use Rattle.html_page.specs.declared.piece.Tag.TheVariants as tags

-- ## Names

abbrev pub tag_name : Tag → List ℕ
tag_name tags.Heading = codes "h1"
tag_name tags.Subheading = codes "h2"
tag_name tags.Paragraph = codes "p"
tag_name tags.Table = codes "table"
tag_name tags.Row = codes "tr"
tag_name tags.HeadCell = codes "th"
tag_name tags.Cell = codes "td"
tag_name tags.Link = codes "a"
tag_name tags.Section = codes "section"
tag_name tags.List = codes "ul"
tag_name tags.Item = codes "li"
tag_name tags.Code = codes "code"
tag_name tags.Picture = codes "svg"
tag_name tags.Group = codes "g"
tag_name tags.Box = codes "rect"
tag_name tags.Line = codes "path"
tag_name tags.Label = codes "text"

abbrev pub attr_name : Attr → List ℕ
attr_name attrs.Id = codes "id"
attr_name attrs.Class = codes "class"
attr_name attrs.Href = codes "href"
attr_name attrs.Transform = codes "transform"
attr_name attrs.Course = codes "d"
attr_name attrs.ViewBox = codes "viewBox"

-- ## Parts

-- what a page is made of: its own markup, and texts that are given, as those of users
pub data Part : Type 0 where
  Markup : List ℕ → Part
  Given : List ℕ → Part

-- markup stands as it is, and what is given escaped
abbrev pub part_text : Part → List ℕ
part_text (Markup text) = text
part_text (Given text) = escaped text

abbrev pub quote : List ℕ
quote = 34 ∷ []

-- the beginning of a tag, and that of an attribute up to the first byte of its value
abbrev pub tag_start : Tag → List ℕ
tag_start tag = codes "<" ++ tag_name tag

abbrev pub attr_start : Attr → List ℕ
attr_start attr = codes " " ++ attr_name attr ++ codes "=" ++ quote

abbrev pub closing : Tag → List ℕ
closing tag = codes "</" ++ tag_name tag ++ codes ">"

abbrev pub parts_of : Piece → List Part
parts_of (pieces.Open tag) = Markup (tag_start tag ++ codes ">") ∷ []
parts_of (pieces.OpenWith tag attr value) =
    Markup (tag_start tag ++ attr_start attr) ∷ Given value ∷ Markup (quote ++ codes ">") ∷ []
parts_of (pieces.Close tag) = Markup (closing tag) ∷ []
parts_of (pieces.Text text) = Given text ∷ []

abbrev pub piece_text : Piece → List ℕ
piece_text piece = flat_map part_text (parts_of piece)

-- ## Pages

-- What precedes all pieces: the document type, the encoding, a title and the styles. Nothing is loaded from elsewhere.
unfoldable pub head_text : List ℕ
head_text = codes "<!doctype html><html lang=en><head><meta charset=utf-8><title>Build graph</title><style>body{font:14px sans-serif;margin:1em;padding-right:36%}table{border-collapse:collapse}td,th{border:1px solid #ccc;padding:2px 6px;text-align:left;vertical-align:top}td p{margin:0}code{white-space:pre-wrap;word-break:break-all}section{display:none;border:1px solid #888;padding:0 1em 1em;position:fixed;right:1em;top:1em;width:32%;max-height:92%;overflow:auto;background:#fff}section:target{display:block}svg{width:100%;border:1px solid #ccc}rect{width:44px;height:18px;stroke:#555;fill:#fff}path{stroke:#999;fill:none}text{font:10px sans-serif;text-anchor:middle}.ok{background:#c8e6c9;fill:#c8e6c9}.bad{background:#ffcdd2;fill:#ffcdd2}.skip{background:#e0e0e0;fill:#e0e0e0}</style></head><body>"

abbrev pub tail_text : List ℕ
tail_text = codes "</body></html>"

abbrev pub body_parts : List Piece → List Part
body_parts all = flat_map parts_of all

-- all parts of the page of these pieces
abbrev pub page_parts : List Piece → List Part
page_parts all = Markup head_text ∷ body_parts all ++ Markup tail_text ∷ []

abbrev pub page_text : List Piece → List ℕ
page_text all = flat_map part_text (page_parts all)
