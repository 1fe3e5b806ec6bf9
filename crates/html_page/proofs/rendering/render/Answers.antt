use Rattle.std.proofs.Common.{◌≡◌, ◌++◌}
use Rattle.std.specs.List.{flat_map}
use Rattle.html_page.specs.Pages.{head_text, piece_text, tail_text}
use Rattle.html_page.proofs.Rendered.{whole_page}
use Rattle.html_page.proofs.rendering.render.Goals as goal

pub returns-clause-page : goal.returns-clause-page
returns-clause-page c =
    let e : c.extend_from_slice.new.self.items ≡ (head_text ++ flat_map piece_text c.args.pieces.now) ++ tail_text =
    cc (c.in_ok-extend_from_slice.ensures.items, c.as_bytes-2.ensures.value, c.in_ok-add_pieces.ensures, c.in_ok-text.ensures.items, c.as_bytes.ensures.value, c.head.ensures) in
    whole_page c.args.pieces.now c.extend_from_slice.new.self.items e
