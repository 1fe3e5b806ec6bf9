-- What the answers of evaluation say of the meaning.
use Rattle.std.specs.Prelude.{◌≡◌, ℕ, List, Ok, Err}
use Rattle.bx_tree.specs.Trees.{Files}
use Rattle.pip_model_types.specs.declared.pip.Pip.{Pip}
use Rattle.dscript_sdk_calls.specs.Sources.{tree_answers}
use Rattle.dscript_sdk_calls.specs.declared.tree_ask.TreeAsk.{TreeAsk}
use Rattle.dscript_program.specs.ProgramData.{ProgramData}
use Rattle.dscript_eval_meaning.specs.declared.fault.EvalFault.{EvalFault}
use Rattle.dscript_eval_meaning.specs.declared.fault.EvalFault.TheVariants as eval_faults
use Rattle.dscript_eval_meaning.specs.Meaning.{Refused, answered_meaning, meaning}

-- the pips are those of the program
abbrev pub Builds : ProgramData → Files → ℕ → List Pip → Type 0
Builds p sources budget pips = meaning p sources budget ≡ Ok pips

-- the pips and the asks are those of the program
abbrev pub Asks : ProgramData → Files → ℕ → List Pip → List TreeAsk → Type 0
Asks p sources budget pips asks = answered_meaning p (tree_answers sources) budget ≡ Ok (pips, asks)

-- The first fault of the program has this kind, this file and this message. Want of memory says nothing.
abbrev pub Stops : ProgramData → Files → ℕ → EvalFault → Type 0
Stops p sources budget (eval_faults.Fault kind file message) =
    meaning p sources budget ≡ Err (Refused kind file message)
Stops p sources budget eval_faults.Memory = Unit {0}
