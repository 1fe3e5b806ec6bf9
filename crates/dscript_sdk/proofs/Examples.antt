-- Worked examples of calls by name, and of members.
use Rattle.std.proofs.Common.{◌≡◌, ℕ, List, [], ◌∷◌, Ok, Err, codes, refl, true}
use Rattle.bx_tree.specs.Paths.{Atoms}
use Rattle.bx_tree.specs.Trees.{Files}
use Rattle.bx_tree.specs.declared.file_input.FileInput.TheVariants.{Source}
use Rattle.dscript_program.specs.declared.ambient.Ambient.TheVariants as calls
use Rattle.pip_model_types.specs.declared.pip.PipKind.TheVariants as kinds
use Rattle.pip_model_types.specs.declared.dir_inputs.SealForm.TheVariants.{SourceTop}
use Rattle.dscript_value.specs.Plain as plain
use Rattle.dscript_value.specs.Plain.{Plain, to_items}
use Rattle.dscript_sdk_values.specs.declared.fault.SdkFault.TheVariants.{BadArgument, Kind, Missing}
use Rattle.dscript_sdk_calls.specs.CmdArgument.{cmd_argument}
use Rattle.dscript_sdk_calls.specs.Sources.{files_below, tree_answers}
use Rattle.dscript_sdk_members.specs.Names.{member_named, written_name}
use Rattle.dscript_sdk_members.specs.TextMembers.{text_function, text_property}
use Rattle.dscript_sdk_pips.specs.States.{State, no_calls}
use Rattle.dscript_sdk.specs.Calls.{call_of}
use Rattle.dscript_sdk.specs.Members.{member_of, method_answer, method_of}
use Rattle.dscript_sdk.specs.ProcessMembers.{output_file}
use Rattle.dscript_sdk.specs.SealMembers.{seal_members}
use Rattle.dscript_sdk.specs.StaticMembers.{member_file}

-- ## What the examples are about

abbrev spec : Atoms
spec = codes "build.dsc" ∷ []

abbrev a : Atoms
a = codes "s" ∷ codes "a" ∷ []

abbrev b : Atoms
b = codes "s" ∷ codes "b" ∷ []

abbrev beside : Atoms
beside = codes "t" ∷ []

abbrev sources : Files
sources = (a, []) ∷ (b, []) ∷ (beside, []) ∷ []

abbrev start : State
start = no_calls (tree_answers sources)

abbrev text : List ℕ → Plain
text bytes = plain.Text bytes

-- ## Calls

a_missing_argument_is_not_undefined : call_of calls.CmdArgument spec [] start ≡ Err BadArgument
unfolding call_of cmd_argument
a_missing_argument_is_not_undefined = refl

-- ## Seals

abbrev after_seal : State
after_seal = record start {
  pips = record { spec = spec; kind = kinds.Seal (record { form = SourceTop; root = []; files = [] }) } ∷ [];
}

deeper_files_are_no_members : seal_members after_seal 0 ≡ Source beside ∷ []
unfolding files_below
deeper_files_are_no_members = refl

a_member_is_found_by_its_path : member_file after_seal 0 (plain.Path beside ∷ []) ≡ Ok (plain.File (Source beside))
unfolding files_below
a_member_is_found_by_its_path = refl

another_path_is_no_member : member_file after_seal 0 (plain.Path a ∷ []) ≡ Err BadArgument
unfolding files_below
another_path_is_no_member = refl

-- ## Processes

what_is_not_declared_is_refused : output_file after_seal 0 (plain.Path a ∷ []) ≡ Err BadArgument
what_is_not_declared_is_refused = refl

a_path_is_asked_for : output_file after_seal 0 (plain.Directory a ∷ []) ≡ Err Kind
a_path_is_asked_for = refl

-- ## Members

undefined_has_no_members : member_of start plain.Undefined (codes "length") ≡ Err Kind
unfolding member_of
undefined_has_no_members = refl

a_flag_has_no_members : member_of start (plain.Flag true) (codes "length") ≡ Err Missing
unfolding member_of member_named written_name
a_flag_has_no_members = refl

a_member_that_is_called_must_be_a_function : method_of start (text []) (codes "length") [] ≡ Err Kind
unfolding method_of method_answer member_of member_named written_name text_function text_property
a_member_that_is_called_must_be_a_function = refl
