use Rattle.std.proofs.Common.{◌≡◌, ◌∙◌, ◌++◌, ◌||◌, ap, sym, string_bytes}
use Rattle.std.specs.Str.{bytes_eq}
use Rattle.bx_io_disk.specs.Files.{is_among}
use Rattle.bx_io_disk.proofs.Listing.{among_push, path_behind}
use Rattle.bx_io_disk.proofs.mem_disk.add_below.Goals as goal

pub returns-clause-added : goal.returns-clause-added
returns-clause-added c q =
    let strip = c.in-Some.ensures.cases in
    let inside = c.args.inside.now in
    let file = c.args.file.now in
    let rest : file ≡ inside ++ c.in-Some.name.now = strip.1.1 ∙ ap (λ r. inside ++ r) (sym strip.2) in
    let same : bytes_eq q (string_bytes c.in_ok-from_str.field-0) ≡ bytes_eq (inside ++ q) file = ap (bytes_eq q) c.in_ok-from_str.ensures.ok ∙ sym (path_behind inside q file c.in-Some.name.now rest) in
    ap (is_among q) c.in_ok-push.ensures.items
    ∙ among_push q c.args.names.now.items c.in_ok-from_str.field-0
    ∙ ap (λ b. is_among q c.args.names.now.items || b) same
