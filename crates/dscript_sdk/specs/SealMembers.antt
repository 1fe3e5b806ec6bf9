-- What a sealed directory holds, and what is asked for it.
use Rattle.std.specs.Prelude.{ℕ, List, [], map, slice_get, Option, Some, None}
use Rattle.bx_tree.specs.Paths.{Atoms}
use Rattle.bx_tree.specs.declared.file_input.FileInput.{FileInput}
use Rattle.bx_tree.specs.declared.file_input.FileInput.TheVariants.{Source}
use Rattle.pip_model_types.specs.declared.dir_inputs.SealForm.{SealForm}
use Rattle.pip_model_types.specs.declared.dir_inputs.SealForm.TheVariants.{Full, Partial, SourceTop, SourceAll}
use Rattle.pip_model_types.specs.declared.pip.Pip.{Pip}
use Rattle.pip_model_types.specs.declared.pip.PipKind.{PipKind}
use Rattle.pip_model_types.specs.declared.pip.PipKind.TheVariants as kinds
use Rattle.dscript_sdk_calls.specs.Sources.{Answers, directly_in}
use Rattle.dscript_sdk_calls.specs.declared.tree_ask.TreeAsk.{TreeAsk}
use Rattle.dscript_sdk_calls.specs.declared.tree_ask.TreeAsk.TheVariants.{Below}
use Rattle.dscript_sdk_pips.specs.States.{State}

-- ## Members

-- the files that a seal holds: those that it lists, or source files below its root
abbrev pub held_by : Answers → SealForm → Atoms → List FileInput → List FileInput
held_by answers Full root files = files
held_by answers Partial root files = files
held_by answers SourceTop root files = map Source (directly_in root (answers (Below root)))
held_by answers SourceAll root files = map Source (answers (Below root))

abbrev pub held_by_kind : Answers → PipKind → List FileInput
held_by_kind answers (kinds.Seal d) = held_by answers d.form d.root d.files
held_by_kind answers (kinds.Process d) = []
held_by_kind answers (kinds.Copy d) = []
held_by_kind answers (kinds.Write d) = []

abbrev pub held_by_pip : Answers → Option Pip → List FileInput
held_by_pip answers None = []
held_by_pip answers (Some pip) = held_by_kind answers pip.kind

-- the members of the seal with this number, by path
abbrev pub seal_members : State → ℕ → List FileInput
seal_members s number = held_by_pip s.answers (slice_get s.pips number)

-- ## Asks

-- The members of a source seal are asked for, all files below its root whatever its form. What a seal lists is
-- not asked.
abbrev pub ask_of_form : SealForm → Atoms → Option TreeAsk
ask_of_form Full root = None
ask_of_form Partial root = None
ask_of_form SourceTop root = Some (Below root)
ask_of_form SourceAll root = Some (Below root)

abbrev pub ask_of_kind : PipKind → Option TreeAsk
ask_of_kind (kinds.Seal d) = ask_of_form d.form d.root
ask_of_kind (kinds.Process d) = None
ask_of_kind (kinds.Copy d) = None
ask_of_kind (kinds.Write d) = None

abbrev pub ask_of_pip : Option Pip → Option TreeAsk
ask_of_pip None = None
ask_of_pip (Some pip) = ask_of_kind pip.kind

-- what is asked for the members of the seal with this number
abbrev pub seal_ask : State → ℕ → Option TreeAsk
seal_ask s number = ask_of_pip (slice_get s.pips number)
