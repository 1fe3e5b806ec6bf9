-- Keys: the budget of evaluation, and the specifications of each module with their digests.
use Rattle.std.specs.Prelude.{◌≡◌, ℕ, ◌<◌, ◌^◌, List, [], ◌++◌, codes, map, unwrap_or}
use Rattle.std.specs.List.{AllByRecursion, flat_map}
use Rattle.sha2.specs.Sha256.{sha256}
use Rattle.bx_tree.specs.Paths.{Atoms, IsPath}
use Rattle.bx_tree.specs.Trees.{Files, file_at}
use Rattle.dscript_program.specs.Workspaces.{ModuleData}
use Rattle.prints.specs.Parts.{counted_part, digest_part, number_part, path_part}
use Rattle.prints.specs.Processes.{IsCountable}

-- the bytes of the source file at a path, none where there is no file
abbrev pub text_at : Files → Atoms → List ℕ
text_at sources path = unwrap_or (file_at sources path) []

-- a specification with the digest of its text
abbrev pub spec_line : Files → Atoms → List ℕ
spec_line sources path = codes "spec " ++ (path_part 32 path ++ digest_part 10 (sha256 (text_at sources path)))

-- a module: its name, and its specifications by path
abbrev pub module_lines : Files → ModuleData → List ℕ
module_lines sources m =
    codes "module " ++ (counted_part 10 m.name ++ flat_map (spec_line sources) m.files)

-- The key of evaluating these modules over these source files within a budget of steps.
abbrev pub key_text : ℕ → List ModuleData → Files → List ℕ
key_text budget modules sources =
    codes "graph 1\nbudget " ++ (number_part 10 budget ++ flat_map (module_lines sources) modules)

-- ## What a key says

abbrev pub IsModule : ModuleData → Type 0
IsModule m = IsCountable m.name × AllByRecursion IsPath m.files

-- What has a key: a budget of 64 bits, and modules with countable names.
pub record HasKey (budget : ℕ) (modules : List ModuleData) : Type 0 where
  pub small : budget < 2 ^ 64
  pub each : AllByRecursion IsModule modules

-- the digests of the texts of specifications, module by module
abbrev pub spec_digests : List ModuleData → Files → List (List (Atoms × List ℕ))
spec_digests modules sources =
    map (λ (m : ModuleData). map (λ path. (path, sha256 (text_at sources path))) m.files) modules

-- Two keys say the same: the budget, the names of the modules, and their specifications with their digests. The
-- file that describes a module is not in the key.
pub record SaySame (b c : ℕ) (m n : List ModuleData) (s t : Files) : Type 0 where
  pub budget : b ≡ c
  pub names : map (λ (a : ModuleData). a.name) m ≡ map (λ (a : ModuleData). a.name) n
  pub digests : spec_digests m s ≡ spec_digests n t
