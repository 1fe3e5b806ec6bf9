use Rattle.std.proofs.Common.{◌∙◌, ap, sym}
use Rattle.dscript_types_meaning.specs.Sizes.{within_limit}
use Rattle.dscript_types_meaning.specs.Unions.{join_all}
use Rattle.dscript_types_notes.specs.Means.{found_if}
use Rattle.dscript_types_scenes.specs.Functions.{inferred_from}
use Rattle.dscript_types_scenes.specs.Walks.{finding_types}
use Rattle.dscript_types_scenes.proofs.functions.inferred.Goals as goal

pub returns-in-Some : goal.returns-in-Some
returns-in-Some c =
    ap (λ o. found_if o c.in-Found.rank)
    (sym c.in-Some.is ∙ c.within_limit.ensures
    ∙ ap within_limit (c.in_ok-join_all-in-Found.ensures ∙ ap join_all (c.as_slice.ensures.value ∙ c.in_ok-all-in-Found.ensures)))
    ∙ sym (ap (λ f. inferred_from c.args.ends (finding_types f)) c.in-Found.is)
