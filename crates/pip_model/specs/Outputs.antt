-- Which pips have an output at a path.
use Rattle.std.specs.Prelude.{◌≡◌, ℕ, ◌+◌, List, [], ◌∷◌, ◌++◌, if◌then◌else◌}
use Rattle.std.specs.List.{flat_map}
use Rattle.std.specs.Option.{option_to_list}
use Rattle.std.specs.Str.{bytes_eq}
use Rattle.std.specs.declared.alloc.Global.{Global}
use Rattle.std.specs.declared.vec.Vec.{Vec}
use Rattle.bx_tree.specs.Paths.{Atoms, path_text}
use Rattle.pip_model_types.specs.declared.pip.Pip.{Pip}
use Rattle.pip_model_types.specs.declared.pip.PipKind.{PipKind}
use Rattle.pip_model_types.specs.declared.pip.PipKind.TheVariants.{Process, Copy, Write, Seal}
use Rattle.pip_model_types.specs.Outputs.{outdir_paths}

-- the paths of a pip's outputs: of its declared output files, its console file and its output directories
abbrev pub output_paths : PipKind → List Atoms
output_paths (Process d) = d.outs ++ option_to_list d.console ++ outdir_paths d.outdirs
output_paths (Copy d) = d.to ∷ []
output_paths (Write d) = d.to ∷ []
output_paths (Seal d) = []

-- the number of a pip, if the path of its output has the text
abbrev pub number_at : ℕ → List ℕ → Atoms → List ℕ
number_at j text path = if bytes_eq (path_text path) text then j ∷ [] else []

-- the number of a pip, once for each of these paths that has the text
abbrev pub numbers_at : ℕ → List ℕ → List Atoms → List ℕ
numbers_at j text = flat_map (number_at j text)

-- the numbers of the pips, counted from j on, once for each output whose path has the text
abbrev pub numbers_from : ℕ → List ℕ → List Pip → List ℕ
numbers_from j text [] = []
numbers_from j text (pip ∷ pips) = numbers_at j text (output_paths pip.kind) ++ numbers_from (j + 1) text pips

-- numbers of pips by path: those at each path are at its place
pub record Numbered : Type 0 where
  pub paths : List Atoms
  pub pips : List (Vec ℕ Global)

-- the numbers at the path with the text
abbrev pub numbers_of : List ℕ → List Atoms → List (Vec ℕ Global) → List ℕ
numbers_of text [] pips = []
numbers_of text (path ∷ paths) [] = []
numbers_of text (path ∷ paths) (numbers ∷ pips) =
    if bytes_eq (path_text path) text then numbers.items else numbers_of text paths pips

abbrev pub found_in : Numbered → List ℕ → List ℕ
found_in found text = numbers_of text found.paths found.pips

-- the pips are there by the paths of their outputs
abbrev pub HasOutputsOf : List Pip → Numbered → Type 0
HasOutputsOf pips found = (text : List ℕ) → found_in found text ≡ numbers_from 0 text pips
