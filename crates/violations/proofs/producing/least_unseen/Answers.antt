use Rattle.std.proofs.Common.{ℕ, List, ap, length, subst, ◌∙◌}
use Rattle.std.specs.Prelude.{slice_get}
use Rattle.pip_model_types.specs.declared.dir_inputs.DirInput.{DirInput}
use Rattle.pip_model_types.specs.declared.pip.Pip.{Pip}
use Rattle.pip_model.specs.Outputs.{numbers_from}
use Rattle.violations.specs.Least.{Covers, CoversAbove, is_producer}
use Rattle.violations.specs.Producing.{dirs_at, least_unseen}
use Rattle.violations.proofs.LeastUnseen.{least_is, there}
use Rattle.violations.proofs.Producers.{all_covered}
use Rattle.violations.proofs.producing.least_unseen.Goals as goal

pub returns-clause-least : goal.returns-clause-least
returns-clause-least c =
    let dirs = c.dirs_at-dirs.result.now in
    let pips = c.args.plan.now.pips in
    let path = c.args.path.now in
    let found = c.least_above.result in
    let test = is_producer dirs c.args.pip path pips in
    let text_is = c.as_bytes-text.ensures.value ∙ c.text.ensures.text in
    let passes = c.least_above.ensures.passes (c.least_at-at_root.ensures.passes (c.least_at-at_path.ensures.passes tt)) in
    let here =
    subst (λ (t : List ℕ). Covers test (numbers_from 0 t pips) found) text_is
    (λ j found_at passed. c.least_above.ensures.stays j (c.least_at-at_root.ensures.stays j (c.least_at-at_path.ensures.covers j found_at passed)))
    in
    let above = subst (λ (t : List ℕ). CoversAbove test pips t (length t) found) text_is c.least_above.ensures.covers in
    let exact =
    all_covered dirs c.args.pip path pips found here
    (λ j found_at passed. c.least_above.ensures.stays j (c.least_at-at_root.ensures.covers j found_at passed)) above
    in
    least_is dirs c.args.pip path pips found passes exact
    ∙ ap (λ (ds : List DirInput). least_unseen ds c.args.pip path 0 pips)
    (c.dirs_at-dirs.ensures ∙ ap (λ (ps : List Pip). dirs_at (slice_get ps c.args.pip)) c.pips.ensures.pips)

pub returns-clause-there : goal.returns-clause-there
returns-clause-there c =
    there c.dirs_at-dirs.result.now c.args.pip c.args.path.now c.args.plan.now.pips c.least_above.result
    (c.least_above.ensures.passes (c.least_at-at_root.ensures.passes (c.least_at-at_path.ensures.passes tt)))
