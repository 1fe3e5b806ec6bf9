-- Files and directories that pips take, as parts of their lines.
use Rattle.std.specs.Prelude.{ℕ, ◌^◌, ◌<◌, nat_lt, Bool, List, ◌++◌, codes}
use Rattle.std.specs.Ordering.{is_lt}
use Rattle.bx_tree.specs.FileInputs.{input_path}
use Rattle.bx_tree.specs.Paths.{Atoms, IsPath, path_cmp}
use Rattle.bx_tree.specs.declared.file_input.FileInput.{FileInput}
use Rattle.bx_tree.specs.declared.file_input.FileInput.TheVariants.{Source, Made}
use Rattle.prints.specs.Parts.{number_at, number_part, path_at, path_part}
use Rattle.prints.specs.Reading.{Taken, after_word, as_at, both_at, only_at}
use Rattle.graph_texts.specs.Either.{first_of}
use Rattle.graph_texts.specs.declared.rows.DirRef.{DirRef}
use Rattle.graph_texts.specs.declared.rows.DirRef.TheVariants.{OfSeal, OfProcess}

-- ## Numbers of pips

-- the number of a pip has 32 bits
abbrev pub IsPipNumber : ℕ → Type 0
IsPipNumber n = n < 2 ^ 32

abbrev pub pip_number_at : ℕ → List ℕ → Taken ℕ
pip_number_at end = only_at (λ n. nat_lt n (2 ^ 32)) (number_at end)

-- a pip, and a path of its own
abbrev pub made_part : ℕ → ℕ → Atoms → List ℕ
made_part end pip path = number_part 32 pip ++ path_part end path

abbrev pub made_at : ℕ → List ℕ → Taken (ℕ × Atoms)
made_at end = both_at (pip_number_at 32) (path_at end)

-- ## Files

abbrev pub IsInput : FileInput → Type 0
IsInput (Source path) = IsPath path
IsInput (Made path maker) = IsPipNumber maker × IsPath path

-- a source file, or a file with the pip that makes it
abbrev pub input_part : ℕ → FileInput → List ℕ
input_part end (Source path) = codes "source " ++ path_part end path
input_part end (Made path maker) = codes "made " ++ made_part end maker path

abbrev pub made_input : ℕ × Atoms → FileInput
made_input made = Made made.1 made.0

unfoldable pub input_at : ℕ → List ℕ → Taken FileInput
input_at end =
    first_of (codes "source ") (as_at Source (path_at end))
    (after_word (codes "made ") (as_at made_input (made_at end)))

abbrev pub input_before : FileInput → FileInput → Bool
input_before a b = is_lt (path_cmp (input_path a) (input_path b))

-- ## Directories

abbrev pub IsRef : DirRef → Type 0
IsRef (OfSeal pip) = IsPipNumber pip
IsRef (OfProcess pip path) = IsPipNumber pip × IsPath path

-- the directory of a seal, by its pip alone, or an output directory with its process
abbrev pub ref_part : DirRef → List ℕ
ref_part (OfSeal pip) = codes "sealed " ++ number_part 10 pip
ref_part (OfProcess pip path) = codes "opaque " ++ made_part 10 pip path

abbrev pub process_ref : ℕ × Atoms → DirRef
process_ref made = OfProcess made.0 made.1

unfoldable pub ref_at : List ℕ → Taken DirRef
ref_at =
    first_of (codes "sealed ") (as_at OfSeal (pip_number_at 10))
    (after_word (codes "opaque ") (as_at process_ref (made_at 10)))
