use Rattle.std.proofs.Common.{rules, ◌∙◌}
use Rattle.std.proofs.lemmas.Fn.{always_returns_same}
use Rattle.bx_tree.specs.Paths.{path_cmp}
use Rattle.memo_format.specs.declared.entry.OutputLine.{OutputLine}
use Rattle.pip_model_types.proofs.Placed.{place_from_search}
use Rattle.two_phase.proofs.FoundOutputs.{output_found}
use Rattle.two_phase.proofs.fitting.has_output.Goals as goal

pub returns : goal.returns
returns c =
    c.is_ok.ensures.value
    ∙ output_found c.args.outputs.now c.args.path.now _
    (place_from_search (λ (o : OutputLine). o.path) c.args.outputs.now c.args.path.now _ c.requires c.binary_search_by.ensures.bound
    (c.binary_search_by.ensures.position (λ (o : OutputLine). path_cmp o.path c.args.path.now) (always_returns_same _ _ _ (λ a r g h. search rules))))
