-- The files of a bundle have fewer bytes than the bundle.
use Rattle.std.proofs.Common.{◌≡◌, ℕ, ◌≤◌, Bool, true, false, cond, List, [], ◌∷◌, ◌++◌, length, map, Ok, codes, ap, arith}
use Rattle.std.specs.Fmt.{decimal}
use Rattle.std.specs.List.{AllByRecursion, filter}
use Rattle.std.proofs.lemmas.List.Sums.{prefix_len-le-length}
use Rattle.std.proofs.lemmas.List.{length-map, length-append}
use Rattle.bx_tree.specs.Bundle.{IsBundle, body_text, file_text}
use Rattle.bx_tree.specs.Paths.{Atoms, path_text}
use Rattle.bx_tree.specs.Trees.{Files}
use Rattle.bx_tree.specs.declared.limits.TheConstants.{MAX_BUNDLE_BYTES, MAX_FILES}
use Rattle.dscript_program.specs.Workspaces.{ModuleData}
use Rattle.dscript_names.specs.Named.{named}
use Rattle.dscript_program.specs.ProgramData.{ProgramData}
use Rattle.dscript_names_scopes.specs.Declarations.{ParsedData, module_of, names_of, world_of}
use Rattle.dscript_names.specs.Counted.{ProgramWithin, WorldWithin}
use Rattle.dscript_names.specs.Texts.{AreProjects, AreProjectsAmong}
use Rattle.dscript_names.proofs.Programs.{bytes_of, names_within, program_more, program_within}

-- ## Bytes

within_file : (a b c d e bytes z : List ℕ) → length bytes ≤ length (a ++ b ++ c ++ d ++ e ++ bytes ++ z)
within_file a b c d e bytes z =
    omega (arith, length-append (a ++ b ++ c ++ d ++ e ++ bytes) z, length-append (a ++ b ++ c ++ d ++ e) bytes)

file_bytes : (f : Atoms × List ℕ) → length f.1 ≤ length (file_text f)
file_bytes f =
    within_file (codes "file ") (decimal (length f.1)) (codes " ") (path_text f.0) (codes "\n") f.1 (codes "\n")

body_bytes : (files : Files) → bytes_of files ≤ length (body_text files)
body_bytes [] = omega arith
body_bytes (f ∷ fs) =
    let first : length f.1 ≤ length (file_text f) = file_bytes f in
    let others : bytes_of fs ≤ length (body_text fs) = body_bytes fs in
    omega (arith, first, others, length-append (file_text f) (body_text fs))

within_bundle : (a body z : List ℕ) → length body ≤ length (a ++ body ++ z)
within_bundle a body z = omega (arith, length-append (a ++ body) z, length-append a body)

bundle_bytes : (text : List ℕ) (files : Files) → IsBundle text files → bytes_of files ≤ MAX_BUNDLE_BYTES
bundle_bytes text files is =
    let body : bytes_of files ≤ length (body_text files) = body_bytes files in
    let whole : length (body_text files) ≤ length (codes "bundle 1\n" ++ body_text files ++ codes "end\n") =
    within_bundle (codes "bundle 1\n") (body_text files) (codes "end\n") in
    let same : length text ≡ length (codes "bundle 1\n" ++ body_text files ++ codes "end\n") = ap length is.text_is in
    let short : length text ≤ MAX_BUNDLE_BYTES = is.whole in omega (arith, body, whole, same, short)

-- ## The files that are chosen

bytes_if : (b : Bool) (f : Atoms × List ℕ) (kept all : Files) → bytes_of kept ≤ bytes_of all
    → bytes_of (cond b (f ∷ kept) kept) ≤ bytes_of (f ∷ all)
bytes_if true f kept all h = omega (arith, h)
bytes_if false f kept all h = omega (arith, h)

bytes_chosen : (chosen : Atoms × List ℕ → Bool) (files : Files) → bytes_of (filter chosen files) ≤ bytes_of files
bytes_chosen chosen [] = omega arith
bytes_chosen chosen (f ∷ fs) = bytes_if (chosen f) f (filter chosen fs) fs (bytes_chosen chosen fs)

count_if : (b : Bool) (f : Atoms × List ℕ) (kept all : Files) → length kept ≤ length all
    → length (cond b (f ∷ kept) kept) ≤ length (f ∷ all)
count_if true f kept all h = omega (arith, h)
count_if false f kept all h = omega (arith, h)

count_chosen : (chosen : Atoms × List ℕ → Bool) (files : Files) → length (filter chosen files) ≤ length files
count_chosen chosen [] = omega arith
count_chosen chosen (f ∷ fs) = count_if (chosen f) f (filter chosen fs) fs (count_chosen chosen fs)

chosen_bytes : (text : List ℕ) (files : Files) (chosen : Atoms × List ℕ → Bool) → IsBundle text files
    → bytes_of (filter chosen files) ≤ MAX_BUNDLE_BYTES
chosen_bytes text files chosen is =
    let all : bytes_of files ≤ MAX_BUNDLE_BYTES = bundle_bytes text files is in omega (arith, all, bytes_chosen chosen files)

-- ## Programs and names

pub program_bundled : (text : List ℕ) (files : Files) → IsBundle text files
    → (chosen : Atoms × List ℕ → Bool) (parsed : List ParsedData) → AreProjectsAmong chosen files parsed
    → (modules : List ModuleData) (p : ProgramData) → named modules parsed ≡ Ok p → ProgramWithin MAX_BUNDLE_BYTES p
program_bundled text files is chosen parsed are modules p means =
    program_more (bytes_of (filter chosen files)) MAX_BUNDLE_BYTES p (chosen_bytes text files chosen is)
    (program_within modules (filter chosen files) parsed p are means)

module_within : (modules : List ModuleData) (path : Atoms) → module_of modules path ≤ length modules
module_within modules path = prefix_len-le-length _ modules

owners_within : (modules : List ModuleData) (n : ℕ) → length modules ≤ n → (ps : List ParsedData)
    → AllByRecursion (λ f. f.module_number ≤ n) (map (names_of modules) ps)
owners_within modules n le [] = tt
owners_within modules n le (p ∷ ps) =
    let l : module_of modules p.path ≤ length modules = module_within modules p.path in
    (omega (arith, l, le), owners_within modules n le ps)

length_projects : (files : Files) (parsed : List ParsedData) → AreProjects files parsed → length files ≡ length parsed
length_projects [] [] are = omega arith
length_projects [] (p ∷ ps) are = absurd are
length_projects (f ∷ fs) [] are = absurd are
length_projects (f ∷ fs) (p ∷ ps) are = let h = length_projects fs ps are.1 in omega (arith, h)

pub world_bundled : (text : List ℕ) (files : Files) → IsBundle text files
    → (chosen : Atoms × List ℕ → Bool) (parsed : List ParsedData) → AreProjectsAmong chosen files parsed
    → (modules : List ModuleData) → WorldWithin MAX_FILES MAX_BUNDLE_BYTES (world_of modules parsed)
world_bundled text files is chosen parsed are modules =
    let some : length (filter chosen files) ≤ length files = count_chosen chosen files in
    let count : length files ≤ MAX_FILES = is.in_size.count in
    let each : length (filter chosen files) ≡ length parsed =
    length_projects (filter chosen files) parsed are in
    let same : length (map (names_of modules) parsed) ≡ length parsed = length-map parsed (names_of modules) in
    let owners : length modules ≤ length (map (λ m. m.name) modules) = omega (arith, length-map modules (λ m. m.name)) in
    record {
      few_files = omega (arith, some, count, each, same);
      few_decls = names_within modules (filter chosen files) parsed MAX_BUNDLE_BYTES are (chosen_bytes text files chosen is);
      owners = owners_within modules (length (map (λ m. m.name) modules)) owners parsed;
    }
