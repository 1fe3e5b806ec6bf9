use Rattle.std.proofs.Common.{map, sym}
use Rattle.std.proofs.lemmas.Map.Keys.{sorted_from_strictly_increasing}
use Rattle.pip_view_inputs.specs.declared.inputs.MadeBy.{MadeBy}
use Rattle.pip_view_inputs.proofs.KeptInputs.{found_by, none_by}
use Rattle.pip_view_inputs.proofs.inputs.files_in.Goals as goal

pub returns-in-Some : goal.returns-in-Some
returns-in-Some c =
    sym (found_by c.args.made.now c.args.pip c.in-Some.place c.index-made-place.result
    (sorted_from_strictly_increasing (map (λ (m : MadeBy). m.pip) c.args.made.now) c.requires) c.in-Some.ensures.0 (c.in-Some.ensures.1 _))

pub returns-in-None : goal.returns-in-None
returns-in-None c = sym (none_by c.args.made.now c.args.pip c.in-None.ensures)
