use Rattle.std.proofs.Common.{◌≡◌, ◌∙◌, ap}
use Rattle.std.specs.String.{string_bytes}
use Rattle.std.specs.Arc.{arc_value}
use Rattle.bx_tree.specs.Paths.{IsPathText}
use Rattle.bx_tree.proofs.PathTexts.{path_text-is_utf8, kept_is}
use Rattle.bx_tree.proofs.path.Path.read.Goals as goal

pub returns-in_default : goal.returns-in_default
returns-in_default c = λ e h. c.in_default.ensures.cases.0 (path_text-is_utf8 c.args.text.now h)

pub invariant_of-result : goal.invariant_of-result
invariant_of-result c =
    let same : string_bytes (arc_value c.in_ok-new.field-0) ≡ c.args.text.now =
    ap string_bytes c.in_ok-new.ensures.ok ∙ c.in_ok-from_str.ensures.ok ∙ c.in-Ok.ensures.cases.0 in
    let named : IsPathText c.args.text.now = c.is_path.ensures.0 c.if-not-is_path.false in
    (kept_is c.args.text.now (string_bytes (arc_value c.in_ok-new.field-0)) same named).0

pub returns : goal.returns
returns c =
    let same : string_bytes (arc_value c.in_ok-new.field-0) ≡ c.args.text.now =
    ap string_bytes c.in_ok-new.ensures.ok ∙ c.in_ok-from_str.ensures.ok ∙ c.in-Ok.ensures.cases.0 in
    let named : IsPathText c.args.text.now = c.is_path.ensures.0 c.if-not-is_path.false in
    (kept_is c.args.text.now (string_bytes (arc_value c.in_ok-new.field-0)) same named).1
