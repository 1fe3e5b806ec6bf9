use Rattle.std.proofs.Common.{◌<◌, List, ℕ, length, ◌∙◌, arith}
use Rattle.std.specs.Borrow.{Bor}
use Rattle.std.proofs.lemmas.Result.{MatchResult-weaker}
use Rattle.std.proofs.lemmas.List.{length-map}
use Rattle.bx_path.proofs.StepsOfTexts.{short_from_names, none_from_no_path}
use Rattle.bx_path.proofs.joining.path_of.Goals as goal
use Rattle.bx_tree.specs.Lent.{texts_now}

pub returns : goal.returns
returns c =
    let some : 0 < length c.args.atoms.now = grind arith in
    let some' : 0 < length (texts_now c.args.atoms.now) = omega (arith, some, length-map c.args.atoms.now (λ (part : Bor (List ℕ)). part.now)) in
    let text = c.as_slice.ensures.value ∙ c.in_ok-text.ensures in
    MatchResult-weaker c.read.result c.read.ensures
    (λ path n. short_from_names path (texts_now c.args.atoms.now) c.as_slice.result.now some' c.requires text n)
    (λ fault n e. none_from_no_path (texts_now c.args.atoms.now) c.as_slice.result.now some' c.requires text (n e))
