-- What a run takes from its description agrees with what its pip sees.
use Rattle.std.specs.Prelude.{◌≡◌, ℕ, List, Some, slice_get}
use Rattle.bx_tree.specs.Trees.{Files}
use Rattle.observed.specs.declared.access.Answer.{Answer}
use Rattle.observed.specs.declared.ask.Ask.{Ask}
use Rattle.pip_model_types.specs.declared.pip.Pip.{Pip}
use Rattle.pip_model_types.specs.declared.pip.PipKind.TheVariants.{Process}
use Rattle.pip_model_types.specs.declared.pip.ProcessDesc.{ProcessDesc}
use Rattle.tool_run.specs.Described.{described}
use Rattle.tool_run.specs.Description.{given}
use Rattle.pip_view_inputs.specs.Plain.{desc_of}
use Rattle.pip_view_inputs.specs.Results.{ByPip}
use Rattle.pip_view.specs.Sees.{sees}

-- Where the description of process i answers a read or a probe of its executable or of a declared file, what
-- the pip sees answers so too.
abbrev pub ViewAgrees : Type 0
ViewAgrees =
    (pips : List Pip) (tree : Files) (made : ByPip) (budget i : ℕ) (pip : Pip) (d : ProcessDesc)
    (ask : Ask) (answer : Answer) → slice_get pips i ≡ Some pip → pip.kind ≡ Process d
    → given (described (desc_of tree made budget d)) ask ≡ Some answer → sees pips tree made i ask ≡ answer
