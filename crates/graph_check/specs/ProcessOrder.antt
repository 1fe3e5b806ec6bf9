-- An order of the descriptions of processes in which just equal descriptions tie.
use Rattle.std.specs.Prelude.{ℕ, suc, List}
use Rattle.std.specs.Option.{option_to_list}
use Rattle.std.specs.Cmp.Lexicographic.{slice_cmp}
use Rattle.std.specs.Ordering.{nat_cmp, on, then_cmp}
use Rattle.std.specs.declared.cmp.Ordering.{Ordering}
use Rattle.bx_tree.specs.Paths.{path_cmp}
use Rattle.bx_tree.specs.declared.file_input.FileInput.{FileInput}
use Rattle.bx_tree.specs.declared.file_input.FileInput.TheVariants.{Source, Made}
use Rattle.pip_model_types.specs.Dirs.{dir_path, form_rank}
use Rattle.pip_model_types.specs.Outputs.{outdir_cmp}
use Rattle.pip_model_types.specs.declared.args.EnvPair.{EnvPair}
use Rattle.pip_model_types.specs.declared.dir_inputs.DirInput.{DirInput}
use Rattle.pip_model_types.specs.declared.pip.ProcessDesc.{ProcessDesc}
use Rattle.bx_tree.specs.FileInputs.{input_path}

-- texts, by their bytes
abbrev pub text_cmp : List ℕ → List ℕ → Ordering
text_cmp = slice_cmp nat_cmp

-- variables, by name and then by value
abbrev pub env_cmp : EnvPair → EnvPair → Ordering
env_cmp = then_cmp (on (λ (v : EnvPair). v.name) text_cmp) (on (λ (v : EnvPair). v.value) text_cmp)

-- source files before made files, and these by the number of their pip
abbrev pub maker_rank : FileInput → ℕ
maker_rank (Source path) = 0
maker_rank (Made path maker) = suc maker

-- files, by path and then by where they come from
abbrev pub file_cmp : FileInput → FileInput → Ordering
file_cmp = then_cmp (on input_path path_cmp) (on maker_rank nat_cmp)

-- input directories, by path and then by form
abbrev pub form_cmp : DirInput → DirInput → Ordering
form_cmp = then_cmp (on dir_path path_cmp) (on form_rank nat_cmp)

abbrev pub inputs_cmp : ProcessDesc → ProcessDesc → Ordering
inputs_cmp =
    then_cmp (on (λ (d : ProcessDesc). d.files) (slice_cmp file_cmp))
    (on (λ (d : ProcessDesc). d.dirs) (slice_cmp form_cmp))

abbrev pub outputs_cmp : ProcessDesc → ProcessDesc → Ordering
outputs_cmp =
    then_cmp (on (λ (d : ProcessDesc). d.outs) (slice_cmp path_cmp))
    (then_cmp (on (λ (d : ProcessDesc). d.outdirs) (slice_cmp outdir_cmp))
    (on (λ (d : ProcessDesc). option_to_list d.console) (slice_cmp path_cmp)))

-- what the tools of processes are called with
abbrev pub call_cmp : ProcessDesc → ProcessDesc → Ordering
call_cmp =
    then_cmp (on (λ (d : ProcessDesc). d.exe) path_cmp)
    (then_cmp (on (λ (d : ProcessDesc). d.args) (slice_cmp text_cmp))
    (then_cmp (on (λ (d : ProcessDesc). d.env) (slice_cmp env_cmp))
    (on (λ (d : ProcessDesc). d.dir) path_cmp)))

-- processes, by all that their descriptions say
abbrev pub process_cmp : ProcessDesc → ProcessDesc → Ordering
process_cmp = then_cmp outputs_cmp (then_cmp call_cmp inputs_cmp)
