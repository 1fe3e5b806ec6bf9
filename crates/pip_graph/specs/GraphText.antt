-- The graph of pips as a Graphviz text.
use Rattle.std.specs.Prelude.{◌≡◌, ℕ, ◌+◌, List, [], ◌∷◌, ◌++◌, codes, Option, Some, None, slice_get}
use Rattle.std.specs.Fmt.{decimal}
use Rattle.std.specs.List.{flat_map}
use Rattle.std.specs.Option.{option_map_or}
use Rattle.bx_tree.specs.Paths.{Atoms, path_text}
use Rattle.pip_model_types.specs.declared.outputs.OutDir.{OutDir}
use Rattle.pip_model_types.specs.declared.pip.Pip.{Pip}
use Rattle.pip_model_types.specs.declared.pip.PipKind.{PipKind}
use Rattle.pip_model_types.specs.declared.pip.PipKind.TheVariants.{Process, Copy, Write, Seal}
use Rattle.pip_model.specs.Plans.{AreAllInputs}
use Rattle.pip_graph.specs.declared.ended.Ended.{Ended}
use Rattle.pip_graph.specs.declared.ended.Ended.TheVariants.{Succeeded, Failed, Skipped}

-- ## Nodes

abbrev pub kind_word : PipKind → List ℕ
kind_word (Process d) = codes "process"
kind_word (Copy d) = codes "copy"
kind_word (Write d) = codes "write"
kind_word (Seal d) = codes "seal"

-- what ends a line of a label: a `\` and an `n`
abbrev pub line_end : List ℕ
line_end = 92 ∷ 110 ∷ []

-- a line of a label: a file, and a directory with a `/` after it
abbrev pub file_line : Atoms → List ℕ
file_line path = line_end ++ path_text path

abbrev pub dir_line : Atoms → List ℕ
dir_line path = line_end ++ path_text path ++ codes "/"

abbrev pub console_line : Option Atoms → List ℕ
console_line None = []
console_line (Some path) = file_line path

-- a line for each output of a pip, and for the root of a seal
abbrev pub output_lines : PipKind → List ℕ
output_lines (Process d) =
    flat_map file_line d.outs ++ console_line d.console ++ flat_map (λ (dir : OutDir). dir_line dir.path) d.outdirs
output_lines (Copy d) = file_line d.to
output_lines (Write d) = file_line d.to
output_lines (Seal d) = dir_line d.root

-- the colour of a pip that ended so: green, red or grey
abbrev pub colour : Ended → List ℕ
colour Succeeded = codes "#c8e6c9"
colour Failed = codes "#ffcdd2"
colour Skipped = codes "#e0e0e0"

-- a pip without a known end has no colour
abbrev pub fill_text : Option Ended → List ℕ
fill_text ended = option_map_or (λ (e : Ended). codes ", fillcolor = \"" ++ colour e ++ codes "\"") ended []

-- a node up to the end of its label: the number of the pip, its kind and its outputs
abbrev pub label_text : ℕ → PipKind → List ℕ
label_text number kind =
    codes "  p" ++ decimal number ++ codes " [label = \"" ++ decimal number ++ codes " " ++ kind_word kind
    ++ output_lines kind ++ codes "\""

abbrev pub node_line : ℕ → PipKind → Option Ended → List ℕ
node_line number kind ended = label_text number kind ++ fill_text ended ++ codes "];\n"

-- a node for each of the pips, of which the first has this number
abbrev pub node_lines : List Ended → ℕ → List Pip → List ℕ
node_lines ends number [] = []
node_lines ends number (pip ∷ pips) =
    node_line number pip.kind (slice_get ends number) ++ node_lines ends (number + 1) pips

-- ## Arrows

-- an arrow to a pip that a pip waits for
abbrev pub edge_line : ℕ → ℕ → List ℕ
edge_line number input = codes "  p" ++ decimal number ++ codes " -> p" ++ decimal input ++ codes ";\n"

-- the arrows of pips that wait for these, of which the first has this number
abbrev pub edge_lines : ℕ → List (List ℕ) → List ℕ
edge_lines number [] = []
edge_lines number (inputs ∷ more) = flat_map (edge_line number) inputs ++ edge_lines (number + 1) more

-- ## Texts

unfoldable pub head_text : List ℕ
head_text = codes "digraph pips {\n  rankdir = BT;\n  node [shape = box, style = filled, fillcolor = white];\n"

-- the text of the graph of pips that wait for these and ended so
abbrev pub graph_text : List Pip → List (List ℕ) → List Ended → List ℕ
graph_text pips inputs ends = head_text ++ node_lines ends 0 pips ++ edge_lines 0 inputs ++ codes "}\n"

-- It is the text of the graph: a node for each pip, and an arrow to each pip that a pip waits for.
pub record IsGraphText (pips : List Pip) (ends : List Ended) (text : List ℕ) : Type 0 where
  pub inputs : List (List ℕ)
  pub are : AreAllInputs pips inputs
  pub text_is : text ≡ graph_text pips inputs ends
