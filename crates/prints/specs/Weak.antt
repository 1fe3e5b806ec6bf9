-- The weak text: what a process is, its contents named by digest.
use Rattle.std.specs.Prelude.{ℕ, Bool, true, false, List, [], ◌∷◌, ◌++◌, codes, Option, Some, None, map}
use Rattle.std.specs.List.{flat_map}
use Rattle.sha2.specs.Sha256.{sha256}
use Rattle.bx_tree.specs.Paths.{Atoms, path_text}
use Rattle.pip_model_types.specs.declared.args.EnvPair.{EnvPair}
use Rattle.pip_model_types.specs.declared.dir_inputs.SealForm.{SealForm}
use Rattle.pip_model_types.specs.declared.dir_inputs.SealForm.TheVariants.{Full, Partial, SourceTop, SourceAll}
use Rattle.pip_model_types.specs.declared.dir_inputs.DirInput.{DirInput}
use Rattle.pip_model_types.specs.declared.dir_inputs.DirInput.TheVariants.{Sealed, Opaque}
use Rattle.pip_model_types.specs.declared.made.MadeFile.{MadeFile}
use Rattle.pip_model_types.specs.declared.outputs.OutDir.{OutDir}
use Rattle.prints.specs.Parts.{counted_part, digest_part, number_part, path_part}
use Rattle.prints.specs.declared.weak_parts.WeakParts.{WeakParts}
use Rattle.prints.specs.declared.weak_lines.DirLine.{DirLine}
use Rattle.prints.specs.declared.weak_lines.FileLine.{FileLine}
use Rattle.bx_tree.specs.FileInputs.{input_path}

-- ## Lines

-- the executable, with its digest
abbrev pub exe_line : Atoms → List ℕ → List ℕ
exe_line path digest = codes "exe " ++ (path_part 32 path ++ digest_part 10 digest)

-- the working directory
abbrev pub cwd_line : Atoms → List ℕ
cwd_line path = codes "cwd " ++ path_part 10 path

-- the steps that the tool may take
abbrev pub budget_line : ℕ → List ℕ
budget_line steps = codes "budget " ++ number_part 10 steps

-- the file of the console, if there is one
abbrev pub console_words : Option Atoms → List ℕ
console_words None = codes "no-console"
console_words (Some path) = codes "console " ++ path_text path

abbrev pub console_line : Option Atoms → List ℕ
console_line console = console_words console ++ codes "\n"

-- an argument: how many bytes, and they themselves
abbrev pub arg_line : List ℕ → List ℕ
arg_line bytes = codes "arg " ++ counted_part 10 bytes

-- a variable: its name and its value
abbrev pub env_line : EnvPair → List ℕ
env_line pair = codes "env " ++ (counted_part 32 pair.name ++ counted_part 10 pair.value)

-- a declared file, with its digest
abbrev pub in_line : FileLine → List ℕ
in_line file = codes "in " ++ (path_part 32 file.path ++ digest_part 10 file.digest)

-- the form of an input directory: of a seal, or an output directory of another process
abbrev pub form_word : Option SealForm → List ℕ
form_word (Some Full) = codes "full"
form_word (Some Partial) = codes "partial"
form_word (Some SourceTop) = codes "source-top"
form_word (Some SourceAll) = codes "source-all"
form_word None = codes "opaque"

-- an input directory: its form and its path
abbrev pub indir_line : DirLine → List ℕ
indir_line dir = codes "indir " ++ ((form_word dir.form ++ codes " ") ++ path_part 10 dir.path)

-- an output file
abbrev pub out_line : Atoms → List ℕ
out_line path = codes "out " ++ path_part 10 path

abbrev pub sharing_word : Bool → List ℕ
sharing_word false = codes "exclusive"
sharing_word true = codes "shared"

-- an output directory: who may write below it, and its path
abbrev pub outdir_line : OutDir → List ℕ
outdir_line dir = codes "outdir " ++ ((sharing_word dir.shared ++ codes " ") ++ path_part 10 dir.path)

-- ## The text

-- declared files with their digests
abbrev pub file_lines : List Atoms → List (List ℕ) → List FileLine
file_lines [] digests = []
file_lines (path ∷ paths) [] = []
file_lines (path ∷ paths) (digest ∷ digests) =
    record { path = path; digest = digest } ∷ file_lines paths digests

-- the form and the path of an input directory, without the pip
abbrev pub dir_with : Option SealForm → Atoms → DirLine
dir_with form path = record { form = form; path = path }

abbrev pub dir_line : DirInput → DirLine
dir_line (Sealed pip form root) = dir_with (Some form) root
dir_line (Opaque pip path) = dir_with None path

-- a file, its content named by digest
abbrev pub line_of_file : MadeFile → FileLine
line_of_file file = record { path = file.path; digest = sha256 file.blob }

-- the lines that are there once
abbrev pub head_text : WeakParts → List ℕ
head_text w =
    exe_line w.process.exe w.exe
    ++ (cwd_line w.process.dir ++ (budget_line w.budget ++ console_line w.process.console))

-- the lines of the lists, each in its order
abbrev pub lists_text : WeakParts → List ℕ
lists_text w =
    flat_map arg_line w.process.args ++ (flat_map env_line w.process.env
    ++ (flat_map in_line (file_lines (map input_path w.process.files) w.files)
    ++ (flat_map indir_line (map dir_line w.process.dirs)
    ++ (flat_map out_line w.process.outs ++ flat_map outdir_line w.process.outdirs))))

abbrev pub weak_text : WeakParts → List ℕ
weak_text w = codes "bxl 1\n" ++ (head_text w ++ lists_text w)
