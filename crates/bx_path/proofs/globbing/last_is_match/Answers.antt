use Rattle.std.proofs.Common.{◌&&◌, ap, sym, ◌∙◌}
use Rattle.bx_path.specs.Globbing.{last_is_match}
use Rattle.bx_path.proofs.LastAtoms.{last_after_first}
use Rattle.bx_tree.proofs.AtomsBelow.{split_whole}
use Rattle.bx_tree.proofs.PathTexts.{is_slash}
use Rattle.std.specs.List.{slice_split}
use Rattle.bx_path.proofs.globbing.last_is_match.Goals as goal

pub returns-in_default : goal.returns-in_default
returns-in_default c =
    c.name_matches.ensures ∙ sym (ap (last_is_match c.args.pattern.now c.args.deep) (split_whole c.parts.rest.now c.in_default.ensures)) ∙ c.parts.invariant

pub returns-then-not-deep : goal.returns-then-not-deep
returns-then-not-deep c =
    let cut = last_after_first c.args.pattern.now c.args.deep c.parts.rest.now c.in-Some.field-0-0.now c.in-Some.after.now c.in-Some.ensures.1 c.in-Some.ensures.0 in
    sym (cut ∙ ap (λ b. b && last_is_match c.args.pattern.now c.args.deep (slice_split is_slash c.in-Some.after.now)) c.if-not-deep.true) ∙ c.parts.invariant

pub parts-preserved : goal.parts-preserved
parts-preserved c =
    let cut = last_after_first c.args.pattern.now c.args.deep c.parts.rest.now c.in-Some.field-0-0.now c.in-Some.after.now c.in-Some.ensures.1 c.in-Some.ensures.0 in
    sym (cut ∙ ap (λ b. b && last_is_match c.args.pattern.now c.args.deep (slice_split is_slash c.in-Some.after.now)) c.if-not-deep.false) ∙ c.parts.invariant
