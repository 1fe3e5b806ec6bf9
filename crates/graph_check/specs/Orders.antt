-- Processes are in one total order, in which just those of one description tie.
use Rattle.std.proofs.Common.{◌≡◌, ◌∙◌, ℕ, zero, suc, arith, List, [], ◌∷◌, Option, Some}
use Rattle.std.proofs.Common.{None, map, refl, ap, sym}
use Rattle.std.specs.Option.{option_to_list}
use Rattle.std.specs.Cmp.{IsTotalOrder}
use Rattle.std.specs.Cmp.Lexicographic.{slice_cmp}
use Rattle.std.specs.Ordering.{nat_cmp, ordering_then}
use Rattle.std.specs.declared.cmp.Ordering.{Ordering}
use Rattle.std.specs.declared.cmp.Ordering.TheVariants.{Equal}
use Rattle.std.proofs.lemmas.Cmp.{lists_total, nat_cmp_total, nat_list_cmp_total, on_total, then_total}
use Rattle.std.proofs.lemmas.Cmp.{tied_itself}
use Rattle.std.proofs.lemmas.Map.Lookups.{CmpEqualImpliesEq, exact_bytes, exact_unsigned}
use Rattle.bx_tree.specs.Orders.{equal_paths, path_cmp_total, both_equal, equal_lists}
use Rattle.bx_tree.specs.Paths.{Atoms, path_cmp}
use Rattle.bx_tree.specs.declared.file_input.FileInput.{FileInput}
use Rattle.bx_tree.specs.declared.file_input.FileInput.TheVariants.{Source, Made}
use Rattle.pip_model_types.specs.Dirs.{dir_path, form_rank}
use Rattle.pip_model_types.specs.Orders.{outdir_cmp_total}
use Rattle.pip_model_types.specs.Outputs.{outdir_cmp}
use Rattle.pip_model_types.specs.declared.args.EnvPair.{EnvPair}
use Rattle.pip_model_types.specs.declared.dir_inputs.DirInput.{DirInput}
use Rattle.pip_model_types.specs.declared.dir_inputs.DirInput.TheVariants.{Sealed, Opaque}
use Rattle.pip_model_types.specs.declared.dir_inputs.SealForm.TheVariants.{Full, Partial, SourceTop, SourceAll}
use Rattle.pip_model_types.specs.declared.pip.ProcessDesc.{ProcessDesc}
use Rattle.pip_model_types.proofs.SetsOf.{equal_outdirs}
use Rattle.graph_check.specs.Descriptions.{description, without_pip}
use Rattle.graph_check.specs.ProcessOrder.{call_cmp, env_cmp, file_cmp, form_cmp, inputs_cmp, maker_rank}
use Rattle.graph_check.specs.ProcessOrder.{outputs_cmp, process_cmp, text_cmp}
use Rattle.bx_tree.specs.FileInputs.{input_path}

inputs_cmp_total : IsTotalOrder inputs_cmp
inputs_cmp_total =
    then_total (on_total (λ (d : ProcessDesc). d.files)
    (lists_total (then_total (on_total input_path path_cmp_total) (on_total maker_rank nat_cmp_total))))
    (on_total (λ (d : ProcessDesc). d.dirs)
    (lists_total (then_total (on_total dir_path path_cmp_total) (on_total form_rank nat_cmp_total))))

outputs_cmp_total : IsTotalOrder outputs_cmp
outputs_cmp_total =
    then_total (on_total (λ (d : ProcessDesc). d.outs) (lists_total path_cmp_total))
    (then_total (on_total (λ (d : ProcessDesc). d.outdirs) (lists_total outdir_cmp_total))
    (on_total (λ (d : ProcessDesc). option_to_list d.console) (lists_total path_cmp_total)))

call_cmp_total : IsTotalOrder call_cmp
call_cmp_total =
    then_total (on_total (λ (d : ProcessDesc). d.exe) path_cmp_total)
    (then_total (on_total (λ (d : ProcessDesc). d.args) (lists_total nat_list_cmp_total))
    (then_total (on_total (λ (d : ProcessDesc). d.env)
    (lists_total (then_total (on_total (λ (v : EnvPair). v.name) nat_list_cmp_total)
    (on_total (λ (v : EnvPair). v.value) nat_list_cmp_total))))
    (on_total (λ (d : ProcessDesc). d.dir) path_cmp_total)))

pub process_cmp_total : IsTotalOrder process_cmp
process_cmp_total = then_total outputs_cmp_total (then_total call_cmp_total inputs_cmp_total)

-- lists tie only where their elements do, and so where what ties of them is equal
tied_lists : {X Y : Type 0} (f : X → Y) (R : X → X → Ordering) → ((x y : X) → R x y ≡ Equal → f x ≡ f y)
    → (xs ys : List X) → slice_cmp R xs ys ≡ Equal → map f xs ≡ map f ys
tied_lists f R same [] [] e = refl
tied_lists f R same [] (y ∷ ys) e = cc
tied_lists f R same (x ∷ xs) [] e = cc
tied_lists f R same (x ∷ xs) (y ∷ ys) e =
    let parts = both_equal (R x y) (slice_cmp R xs ys) e in
    let heads = same x y parts.0 in
    let tails = tied_lists f R same xs ys parts.1 in
    cc

exact_env : CmpEqualImpliesEq env_cmp
exact_env x y e =
    let parts = both_equal (text_cmp x.name y.name) (text_cmp x.value y.value) e in
    let names = exact_bytes x.name y.name parts.0 in
    let values = exact_bytes x.value y.value parts.1 in
    let make : List ℕ → List ℕ → EnvPair = λ n v. record { name = n; value = v } in
    ap (λ n. make n x.value) names ∙ ap (make y.name) values

same_file : (x y : FileInput) → input_path x ≡ input_path y → maker_rank x ≡ maker_rank y → x ≡ y
same_file (Source p) (Source q) e f = ap Source e
same_file (Source p) (Made q n) e f = absurd (omega (arith, f))
same_file (Made p m) (Source q) e f = absurd (omega (arith, f))
same_file (Made p m) (Made q n) e f = let same : m ≡ n = omega (arith, f) in cc

exact_file : CmpEqualImpliesEq file_cmp
exact_file x y e =
    let parts = both_equal (path_cmp (input_path x) (input_path y))
    (nat_cmp (maker_rank x) (maker_rank y)) e in
    same_file x y (equal_paths (input_path x) (input_path y) parts.0)
    (exact_unsigned (maker_rank x) (maker_rank y) parts.1)

-- a directory of no pip, by its path and its form's place
dir_of : Atoms → ℕ → DirInput
dir_of path zero = Sealed 0 Full path
dir_of path (suc zero) = Sealed 0 Partial path
dir_of path (suc (suc zero)) = Sealed 0 SourceTop path
dir_of path (suc (suc (suc zero))) = Sealed 0 SourceAll path
dir_of path (suc (suc (suc (suc n)))) = Opaque 0 path

dir_again : (x : DirInput) → dir_of (dir_path x) (form_rank x) ≡ without_pip x
unfolding dir_of
dir_again (Sealed pip Full root) = refl
dir_again (Sealed pip Partial root) = refl
dir_again (Sealed pip SourceTop root) = refl
dir_again (Sealed pip SourceAll root) = refl
dir_again (Opaque pip path) = refl

tied_dirs : (x y : DirInput) → form_cmp x y ≡ Equal → without_pip x ≡ without_pip y
tied_dirs x y e =
    let parts = both_equal (path_cmp (dir_path x) (dir_path y)) (nat_cmp (form_rank x) (form_rank y)) e in
    sym (dir_again x) ∙ ap (λ p. dir_of p (form_rank x)) (equal_paths (dir_path x) (dir_path y) parts.0)
    ∙ ap (dir_of (dir_path y)) (exact_unsigned (form_rank x) (form_rank y) parts.1) ∙ dir_again y

same_console : (a b : Option Atoms) → option_to_list a ≡ option_to_list b → a ≡ b
same_console None None e = refl
same_console None (Some q) e = cc
same_console (Some p) None e = cc
same_console (Some p) (Some q) e = cc

-- processes that tie have one description
pub tied_processes : (d e : ProcessDesc) → process_cmp d e ≡ Equal → description d ≡ description e
tied_processes d e tie =
    let one = both_equal (outputs_cmp d e) (ordering_then (call_cmp d e) (inputs_cmp d e)) tie in
    let two = both_equal (call_cmp d e) (inputs_cmp d e) one.1 in
    let by_outs = both_equal (slice_cmp path_cmp d.outs e.outs)
    (ordering_then (slice_cmp outdir_cmp d.outdirs e.outdirs)
    (slice_cmp path_cmp (option_to_list d.console) (option_to_list e.console))) one.0 in
    let by_dirs = both_equal (slice_cmp outdir_cmp d.outdirs e.outdirs)
    (slice_cmp path_cmp (option_to_list d.console) (option_to_list e.console)) by_outs.1 in
    let by_exe = both_equal (path_cmp d.exe e.exe)
    (ordering_then (slice_cmp text_cmp d.args e.args)
    (ordering_then (slice_cmp env_cmp d.env e.env) (path_cmp d.dir e.dir))) two.0 in
    let by_args = both_equal (slice_cmp text_cmp d.args e.args)
    (ordering_then (slice_cmp env_cmp d.env e.env) (path_cmp d.dir e.dir)) by_exe.1 in
    let by_env = both_equal (slice_cmp env_cmp d.env e.env) (path_cmp d.dir e.dir) by_args.1 in
    let by_files = both_equal (slice_cmp file_cmp d.files e.files) (slice_cmp form_cmp d.dirs e.dirs) two.1 in
    let outs = equal_lists path_cmp equal_paths d.outs e.outs by_outs.0 in
    let outdirs = equal_lists outdir_cmp equal_outdirs d.outdirs e.outdirs by_dirs.0 in
    let console = same_console d.console e.console
    (equal_lists path_cmp equal_paths (option_to_list d.console) (option_to_list e.console) by_dirs.1) in
    let exe = equal_paths d.exe e.exe by_exe.0 in
    let args = equal_lists text_cmp exact_bytes d.args e.args by_args.0 in
    let env = equal_lists env_cmp exact_env d.env e.env by_env.0 in
    let dir = equal_paths d.dir e.dir by_env.1 in
    let files = equal_lists file_cmp exact_file d.files e.files by_files.0 in
    let dirs = tied_lists without_pip form_cmp tied_dirs d.dirs e.dirs by_files.1 in
    cc

same_forms : (x y : DirInput) → form_cmp (without_pip x) (without_pip y) ≡ form_cmp x y
same_forms (Sealed m f p) (Sealed n g q) = refl
same_forms (Sealed m f p) (Opaque n q) = refl
same_forms (Opaque m p) (Sealed n g q) = refl
same_forms (Opaque m p) (Opaque n q) = refl

same_dirs : (xs ys : List DirInput)
    → slice_cmp form_cmp (map without_pip xs) (map without_pip ys) ≡ slice_cmp form_cmp xs ys
same_dirs [] [] = refl
same_dirs [] (y ∷ ys) = refl
same_dirs (x ∷ xs) [] = refl
same_dirs (x ∷ xs) (y ∷ ys) =
    ap (λ o. ordering_then o (slice_cmp form_cmp (map without_pip xs) (map without_pip ys))) (same_forms x y)
    ∙ ap (ordering_then (form_cmp x y)) (same_dirs xs ys)

-- processes compare as their descriptions do
by_description : (d e : ProcessDesc) → process_cmp (description d) (description e) ≡ process_cmp d e
by_description d e =
    ap (λ o. ordering_then (outputs_cmp d e)
    (ordering_then (call_cmp d e) (ordering_then (slice_cmp file_cmp d.files e.files) o)))
    (same_dirs d.dirs e.dirs)

-- processes of one description tie
pub described_alike : (d e : ProcessDesc) → description d ≡ description e → process_cmp d e ≡ Equal
described_alike d e same =
    sym (by_description d e) ∙ ap (process_cmp (description d)) (sym same)
    ∙ tied_itself process_cmp_total (description d)
