use Rattle.std.proofs.Common.{◌≡◌, ◌++◌, drop}
use Rattle.std.specs.List.{flat_map}
use Rattle.html_page.specs.Pages.{piece_text}
use Rattle.html_page.proofs.rendering.add_pieces.Given as goal

abbrev pub invariant-pieces : goal.invariant-pieces
invariant-pieces l = l.text.items ++ flat_map piece_text (drop l.piece-index l.pieces) ≡ l.fn.text.items ++ flat_map piece_text l.pieces
