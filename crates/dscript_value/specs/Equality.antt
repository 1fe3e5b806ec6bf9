-- What `===` answers.
use Rattle.std.specs.Prelude.{ℕ, ℤ, Bool, true, false, ◌&&◌, ◌==◌, nat_eq, List, Option, Some, None}
use Rattle.std.specs.Bool.{beq}
use Rattle.std.specs.Str.{bytes_eq}
use Rattle.std.specs.Ordering.{int_eq}
use Rattle.bx_tree.specs.Paths.{Atoms, same_path}
use Rattle.bx_tree.specs.declared.file_input.FileInput.{FileInput}
use Rattle.bx_tree.specs.declared.file_input.FileInput.TheVariants as files
use Rattle.dscript_value.specs.declared.parts.StaticDir.{StaticDir}
use Rattle.dscript_value.specs.declared.parts.StaticDir.TheVariants.{Seal, Opaque}
use Rattle.dscript_value.specs.declared.parts.Artifact.{Artifact as AnyArtifact}
use Rattle.dscript_value.specs.declared.parts.Artifact.TheVariants as artifacts
use Rattle.dscript_value.specs.declared.parts.ArgumentParts.{ArgumentParts as AnyArgument}
use Rattle.dscript_value.specs.Plain as plain
use Rattle.dscript_value.specs.Plain.{Plain}
use Rattle.bx_tree.specs.FileInputs.{input_path}

abbrev pub same_file : FileInput → FileInput → Bool
same_file a b = same_path (input_path a) (input_path b)

-- static directories are equal by kind, pip and path
abbrev pub static_kind : StaticDir → ℕ
static_kind (Seal pip path) = 0
static_kind (Opaque pip path) = 1

abbrev pub static_pip : StaticDir → ℕ
static_pip (Seal pip path) = pip
static_pip (Opaque pip path) = pip

abbrev pub static_path : StaticDir → Atoms
static_path (Seal pip path) = path
static_path (Opaque pip path) = path

abbrev pub same_static : StaticDir → StaticDir → Bool
same_static a b =
    static_kind a == static_kind b && static_pip a == static_pip b
    && same_path (static_path a) (static_path b)

-- artifacts are equal by kind, pip and path
abbrev pub artifact_kind : AnyArtifact → ℕ
artifact_kind (artifacts.Input file) = 0
artifact_kind (artifacts.InputDir (Seal pip path)) = 1
artifact_kind (artifacts.InputDir (Opaque pip path)) = 2
artifact_kind (artifacts.Output path) = 3
artifact_kind (artifacts.OutputDir path) = 4
artifact_kind (artifacts.Plain path) = 5

-- the pip of a directory that is taken; files are equal by path alone
abbrev pub artifact_pip : AnyArtifact → ℕ
artifact_pip (artifacts.Input file) = 0
artifact_pip (artifacts.InputDir dir) = static_pip dir
artifact_pip (artifacts.Output path) = 0
artifact_pip (artifacts.OutputDir path) = 0
artifact_pip (artifacts.Plain path) = 0

abbrev pub artifact_path : AnyArtifact → Atoms
artifact_path (artifacts.Input file) = input_path file
artifact_path (artifacts.InputDir dir) = static_path dir
artifact_path (artifacts.Output path) = path
artifact_path (artifacts.OutputDir path) = path
artifact_path (artifacts.Plain path) = path

abbrev pub same_artifact : AnyArtifact → AnyArtifact → Bool
same_artifact a b =
    artifact_kind a == artifact_kind b && artifact_pip a == artifact_pip b
    && same_path (artifact_path a) (artifact_path b)

-- two values that may be missing are equal where both are missing, or both are there and equal
abbrev pub both_or_neither : {X : Type 0} → (X → X → Bool) → Option X → Option X → Bool
both_or_neither same None None = true
both_or_neither same (Some x) (Some y) = same x y
both_or_neither same None (Some y) = false
both_or_neither same (Some x) None = false

abbrev pub same_argument : AnyArgument → AnyArgument → Bool
same_argument a b =
    both_or_neither bytes_eq a.text b.text && both_or_neither same_artifact a.artifact b.artifact

-- whether a value is of a kind, and equal to what is given
abbrev pub is_undefined : Plain → Bool
is_undefined plain.Undefined = true
is_undefined _ = false

abbrev pub is_flag : Bool → Plain → Bool
is_flag x (plain.Flag y) = beq x y
is_flag x _ = false

abbrev pub is_number : ℤ → Plain → Bool
is_number x (plain.Number y) = int_eq x y
is_number x _ = false

abbrev pub is_text : List ℕ → Plain → Bool
is_text x (plain.Text y) = bytes_eq x y
is_text x _ = false

abbrev pub is_path : Atoms → Plain → Bool
is_path x (plain.Path y) = same_path x y
is_path x _ = false

abbrev pub is_file : FileInput → Plain → Bool
is_file x (plain.File y) = same_file x y
is_file x _ = false

abbrev pub is_directory : Atoms → Plain → Bool
is_directory x (plain.Directory y) = same_path x y
is_directory x _ = false

abbrev pub is_relative : List (List ℕ) → Plain → Bool
is_relative x (plain.Relative y) = same_path x y
is_relative x _ = false

abbrev pub equals_atom : List ℕ → Plain → Bool
equals_atom x (plain.Atom y) = bytes_eq x y
equals_atom x _ = false

abbrev pub is_static : StaticDir → Plain → Bool
is_static x (plain.Static y) = same_static x y
is_static x _ = false

abbrev pub is_process : ℕ → Plain → Bool
is_process x (plain.Process y) = nat_eq x y
is_process x _ = false

abbrev pub is_artifact : AnyArtifact → Plain → Bool
is_artifact x (plain.Artifact y) = same_artifact x y
is_artifact x _ = false

abbrev pub is_argument : AnyArgument → Plain → Bool
is_argument x (plain.Argument y) = same_argument x y
is_argument x _ = false

abbrev pub is_list : Plain → Bool
is_list (plain.Listed depth items) = true
is_list _ = false

abbrev pub is_object : Plain → Bool
is_object (plain.Object depth members) = true
is_object _ = false

abbrev pub is_function : Plain → Bool
is_function (plain.Function callee depth held) = true
is_function _ = false

-- no answer where both are of a kind, and else that they differ
abbrev pub unanswered : Bool → Option Bool
unanswered true = None
unanswered false = Some false

-- Values of different kinds differ, and two of one kind are equal by what they are. Two lists, two
-- objects and two functions have no answer.
abbrev pub equal_of : Plain → Plain → Option Bool
equal_of plain.Undefined b = Some (is_undefined b)
equal_of (plain.Flag x) b = Some (is_flag x b)
equal_of (plain.Number x) b = Some (is_number x b)
equal_of (plain.Text x) b = Some (is_text x b)
equal_of (plain.Path x) b = Some (is_path x b)
equal_of (plain.File x) b = Some (is_file x b)
equal_of (plain.Directory x) b = Some (is_directory x b)
equal_of (plain.Relative x) b = Some (is_relative x b)
equal_of (plain.Atom x) b = Some (equals_atom x b)
equal_of (plain.Listed depth items) b = unanswered (is_list b)
equal_of (plain.Object depth members) b = unanswered (is_object b)
equal_of (plain.Function callee depth held) b = unanswered (is_function b)
equal_of (plain.Static x) b = Some (is_static x b)
equal_of (plain.Process x) b = Some (is_process x b)
equal_of (plain.Artifact x) b = Some (is_artifact x b)
equal_of (plain.Argument x) b = Some (is_argument x b)
