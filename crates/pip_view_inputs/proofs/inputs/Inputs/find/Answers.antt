use Rattle.std.proofs.Common.{List, map, ap, sym, subst, ◌∙◌}
use Rattle.std.specs.List.Sorted.{IsStrictlyIncreasing}
use Rattle.pip_view_inputs.specs.Results.{ByPip, files_by}
use Rattle.pip_view_inputs.specs.Views.{made_pair}
use Rattle.pip_view_inputs.specs.declared.inputs.MadeBy.{MadeBy}
use Rattle.pip_view_inputs.proofs.inputs.Inputs.find.Goals as goal

pub files_in-requires : goal.files_in-requires
files_in-requires c =
    subst (λ (ms : List MadeBy). IsStrictlyIncreasing (map (λ (m : MadeBy). m.pip) ms)) (sym c.as_slice.ensures.value) c.self.invariant

pub returns : goal.returns
returns c =
    c.files_in.ensures ∙ ap (λ (ms : List MadeBy). files_by (map made_pair ms) c.args.pip) c.as_slice.ensures.value
    ∙ ap (λ (ms : ByPip). files_by ms c.args.pip) c.self.view_is
