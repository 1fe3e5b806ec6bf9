-- What a seal of some files comes to, by tests of these files and of those that count.
use Rattle.std.proofs.Common.{◌≡◌, Bool, true, false, cond, ◌&&◌, List, Ok, Err, refl, ap, sym, ◌∙◌}
use Rattle.bx_tree.specs.Paths.{Atoms}
use Rattle.bx_tree.specs.declared.file_input.FileInput.{FileInput}
use Rattle.pip_model_types.specs.declared.dir_inputs.SealForm.TheVariants.{Full, Partial}
use Rattle.pip_model_types.specs.declared.pip.SealDesc.{SealDesc}
use Rattle.dscript_sdk_values.specs.Outcomes.{Outcome}
use Rattle.dscript_sdk_values.specs.declared.fault.SdkFault.TheVariants.{BadArgument}
use Rattle.dscript_sdk_pips.specs.FileSets.{files_by_path}
use Rattle.dscript_sdk_pips.specs.SealDirectory.{full_seal}
use Rattle.dscript_sdk_pips.specs.SealPartialDirectory.{partial_seal}
use Rattle.dscript_sdk_pips.specs.Seals.{are_below, lists_sources}
use Rattle.dscript_sdk_pips.proofs.Listed.{lists_by_path}

abbrev full : Atoms → List FileInput → Outcome SealDesc
full dir files = Ok (record { form = Full; root = dir; files = files_by_path files })

abbrev partial : Atoms → List FileInput → Outcome SealDesc
partial dir files = Ok (record { form = Partial; root = dir; files = files_by_path files })

and_false : (b : Bool) → (b && false) ≡ false
and_false true = refl
and_false false = refl

pub full_beside : (sources : List Atoms) (dir : Atoms) (files : List FileInput) → are_below dir files ≡ false
    → full_seal sources dir files ≡ Err BadArgument
full_beside sources dir files e = ap (λ b. cond (b && lists_sources sources files) (full dir files) (Err BadArgument)) e

pub full_left_out : (sources : List Atoms) (dir : Atoms) (files : List FileInput) → lists_sources sources (files_by_path files) ≡ false
    → full_seal sources dir files ≡ Err BadArgument
full_left_out sources dir files e =
    ap (λ b. cond (are_below dir files && b) (full dir files) (Err BadArgument)) (sym (lists_by_path sources files) ∙ e)
    ∙ ap (λ b. cond b (full dir files) (Err BadArgument)) (and_false (are_below dir files))

pub full_whole : (sources : List Atoms) (dir : Atoms) (files : List FileInput) → are_below dir files ≡ true
    → lists_sources sources (files_by_path files) ≡ true
    → full_seal sources dir files ≡ Ok (record { form = Full; root = dir; files = files_by_path files })
full_whole sources dir files e h =
    ap (λ b. cond (b && lists_sources sources files) (full dir files) (Err BadArgument)) e
    ∙ ap (λ b. cond b (full dir files) (Err BadArgument)) (sym (lists_by_path sources files) ∙ h)

pub partial_beside : (dir : Atoms) (files : List FileInput) → are_below dir files ≡ false → partial_seal dir files ≡ Err BadArgument
partial_beside dir files e = ap (λ b. cond b (partial dir files) (Err BadArgument)) e

pub partial_whole : (dir : Atoms) (files : List FileInput) → are_below dir files ≡ true
    → partial_seal dir files ≡ Ok (record { form = Partial; root = dir; files = files_by_path files })
partial_whole dir files e = ap (λ b. cond b (partial dir files) (Err BadArgument)) e
