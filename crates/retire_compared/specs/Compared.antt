-- What is compared in a whole build over a store.
use Rattle.std.specs.Prelude.{◌≡◌, ◌⊎◌, ℕ, ◌+◌, true, List, [], ◌∷◌, ◌++◌}
use Rattle.bx_tree.specs.Trees.{Files}
use Rattle.pip_model_types.specs.declared.desc.Desc.{Desc}
use Rattle.pip_model_types.specs.declared.pip.Pip.{Pip}
use Rattle.pip_model_types.specs.declared.pip.PipKind.{PipKind}
use Rattle.pip_model_types.specs.declared.pip.PipKind.TheVariants.{Process, Copy, Write, Seal}
use Rattle.pip_model_types.specs.declared.pip.ProcessDesc.{ProcessDesc}
use Rattle.observed.specs.declared.ask.Ask.{Ask}
use Rattle.observed.specs.declared.access.Answer.{Answer}
use Rattle.bx_io.specs.Holdings.{Holdings}
use Rattle.memo_format.specs.StoreNames.{HoldsBlob}
use Rattle.two_phase_meaning.specs.Compared.{ComparedInRun}
use Rattle.pip_view_inputs.specs.Plain.{desc_of}
use Rattle.pip_view_inputs.specs.Results.{ByPip, inputs_of}
use Rattle.pip_view.specs.Sees.{sees}
use Rattle.one_thread.specs.OneThread.{Result, inputs_are_good, made_by, result_of}

-- ## One pip, where these are the results of the pips before it

-- the files of the pips for which a pip waits
abbrev pub inputs_after : List Pip → PipKind → List Result → ByPip
inputs_after pips kind results = inputs_of pips kind (made_by results)

-- a process with the contents of its files
abbrev pub desc_after : List Pip → Files → ℕ → List Result → ProcessDesc → Desc
desc_after pips tree budget results d = desc_of tree (inputs_after pips (Process d) results) budget d

-- what process i sees
abbrev pub view_after : List Pip → Files → List Result → ℕ → ProcessDesc → Ask → Answer
view_after pips tree results i d = sees pips tree (inputs_after pips (Process d) results) i

-- what is compared where pip i runs; nothing but processes runs
abbrev pub compared_in_work : List Pip → Files → ℕ → Holdings → List Result → ℕ → PipKind → List ℕ → Type 0
compared_in_work pips tree budget S results i (Process d) x =
    ComparedInRun S (desc_after pips tree budget results d) (view_after pips tree results i d) x
compared_in_work pips tree budget S results i (Copy d) x = ⊥
compared_in_work pips tree budget S results i (Write d) x = ⊥
compared_in_work pips tree budget S results i (Seal d) x = ⊥

-- what is compared at pip i, which may be skipped
abbrev pub compared_at_pip : List Pip → Files → ℕ → Holdings → List Result → ℕ → PipKind → List ℕ → Type 0
compared_at_pip pips tree budget S results i kind x =
    (inputs_are_good pips kind results ≡ true) × compared_in_work pips tree budget S results i kind x

-- ## All pips

-- what is compared from pip i on, which is the first of these
abbrev pub compared_from : List Pip → Files → ℕ → Holdings → List Result → ℕ → List Pip → List ℕ → Type 0
compared_from pips tree budget S results i [] x = ⊥
compared_from pips tree budget S results i (pip ∷ left) x =
    compared_at_pip pips tree budget S results i pip.kind x
    ⊎ compared_from pips tree budget S (results ++ result_of pips tree budget results i pip.kind ∷ []) (i + 1)
    left x

-- What is compared in the build of these pips: what the store holds under its own digest, and at each process that
-- is not skipped what its run and its lookup meet.
abbrev pub Compared : List Pip → Files → ℕ → Holdings → List ℕ → Type 0
Compared pips tree budget S x = HoldsBlob S x ⊎ compared_from pips tree budget S [] 0 pips x
