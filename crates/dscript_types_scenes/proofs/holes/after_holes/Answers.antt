use Rattle.std.proofs.Common.{◌∙◌, Some, ap, sym}
use Rattle.dscript_types_meaning.specs.Types.{kind_type}
use Rattle.dscript_types_scenes.specs.Holes.{after_typing}
use Rattle.dscript_types_scenes.specs.Subjects.{is_whole, only_found}
use Rattle.dscript_types_scenes.proofs.holes.after_holes.Goals as goal

pub returns-in_ok-kind-in-Found : goal.returns-in_ok-kind-in-Found
returns-in_ok-kind-in-Found c =
    c.is.ensures ∙ ap (λ t. is_whole (only_found (Some t) c.in-Found.seen)) c.in_ok-kind-in-Found.ensures
    ∙ sym (ap (λ f. after_typing f (kind_type c.args.kind)) c.in-Found.is)
