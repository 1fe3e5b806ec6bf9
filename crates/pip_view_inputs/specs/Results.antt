-- What the pips made for which a pip waits.
use Rattle.std.specs.Prelude.{ℕ, ◌+◌, ◌==◌, if◌then◌else◌, List, [], ◌∷◌, Option, Some, None, slice_get}
use Rattle.std.specs.List.{list_any}
use Rattle.bx_tree.specs.Trees.{Files}
use Rattle.pip_model_types.specs.declared.pip.Pip.{Pip}
use Rattle.pip_model_types.specs.declared.pip.PipKind.{PipKind}
use Rattle.pip_model.specs.Edges.{targets}

-- files by the number of the pip that made them; the numbers rise
abbrev pub ByPip : Type 0
ByPip = List (ℕ × Files)

-- the files that a pip made, none where it has no result here
abbrev pub files_by : ByPip → ℕ → Files
files_by [] j = []
files_by (made ∷ rest) j = if made.0 == j then made.1 else files_by rest j

-- the files of these pips alone, where the pips from number k on made these files
abbrev pub kept_from : List ℕ → ℕ → List Files → ByPip
kept_from kept k [] = []
kept_from kept k (files ∷ rest) =
    if list_any (λ j. j == k) kept then (k, files) ∷ kept_from kept (k + 1) rest
    else kept_from kept (k + 1) rest

-- what the pips made for which a pip of this kind waits, where the first pips made these files
abbrev pub inputs_of : List Pip → PipKind → List Files → ByPip
inputs_of pips kind made = kept_from (targets pips kind) 0 made

abbrev pub kind_inputs : List Pip → Option Pip → List Files → ByPip
kind_inputs pips None made = []
kind_inputs pips (Some pip) made = inputs_of pips pip.kind made

-- what the pips made for which pip i waits
abbrev pub inputs_at : List Pip → ℕ → List Files → ByPip
inputs_at pips i made = kind_inputs pips (slice_get pips i) made
