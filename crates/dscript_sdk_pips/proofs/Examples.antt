-- Worked examples of calls that make pips and output directories, and of the order of their faults.
use Rattle.std.proofs.Common.{◌≡◌, ℕ, List, [], ◌∷◌, Ok, Err, codes, refl}
use Rattle.bx_tree.specs.Paths.{Atoms}
use Rattle.bx_tree.specs.Trees.{Files}
use Rattle.bx_tree.specs.declared.file_input.FileInput.TheVariants.{Source, Made}
use Rattle.pip_model_types.specs.declared.pip.PipKind.TheVariants as kinds
use Rattle.pip_model_types.specs.declared.dir_inputs.SealForm.TheVariants.{Full, Partial, SourceAll, SourceTop}
use Rattle.dscript_value.specs.declared.parts.StaticDir.TheVariants as static_dirs
use Rattle.dscript_value.specs.Plain as plain
use Rattle.dscript_value.specs.Plain.{Plain, PlainField, to_items, to_members}
use Rattle.dscript_sdk_values.specs.declared.fault.SdkFault.TheVariants.{BadArgument, Kind}
use Rattle.dscript_sdk_calls.specs.Sources.{files_below, tree_answers}
use Rattle.dscript_sdk_calls.specs.declared.tree_ask.TreeAsk.TheVariants.{Below}
use Rattle.dscript_sdk_pips.specs.declared.limits.TheConstants.{MAX_NUMBERED_PIPS}
use Rattle.dscript_sdk_pips.specs.CopyFile.{copy_file}
use Rattle.dscript_sdk_pips.specs.FileSets.{files_by_path}
use Rattle.dscript_sdk_pips.specs.NewOutputDirectory.{name_in_arguments, named_directory}
use Rattle.dscript_sdk_pips.specs.SealDirectory.{seal_directory}
use Rattle.dscript_sdk_pips.specs.SealPartialDirectory.{seal_partial_directory}
use Rattle.dscript_sdk_pips.specs.SealSourceDirectory.{form_in, seal_source_directory}
use Rattle.dscript_sdk_pips.specs.States.{State, no_calls}
use Rattle.dscript_sdk_pips.specs.WriteAllLines.{text_of_lines, written_lines}
use Rattle.dscript_sdk_pips.specs.WriteAllText.{write_all_text}

-- ## What the examples are about

abbrev spec : Atoms
spec = codes "build.dsc" ∷ []

abbrev a : Atoms
a = codes "s" ∷ codes "a" ∷ []

abbrev b : Atoms
b = codes "s" ∷ codes "b" ∷ []

abbrev beside : Atoms
beside = codes "t" ∷ []

abbrev s : Atoms
s = codes "s" ∷ []

abbrev sources : Files
sources = (a, []) ∷ (b, []) ∷ (beside, []) ∷ []

abbrev start : State
start = no_calls (tree_answers sources)

abbrev object : List PlainField → Plain
object fields = plain.Object 1 (to_members fields)

abbrev listed : List Plain → Plain
listed items = plain.Listed 1 (to_items items)

abbrev text : List ℕ → Plain
text bytes = plain.Text bytes

abbrev file : Atoms → Plain
file path = plain.File (Source path)

-- ## Written and copied files

as_many_pips_as_numbers_of_32_bits : MAX_NUMBERED_PIPS ≡ 4294967295
as_many_pips_as_numbers_of_32_bits = refl

the_kind_comes_before_the_fields : write_all_text spec (text [] ∷ []) start ≡ Err Kind
unfolding write_all_text
the_kind_comes_before_the_fields = refl

unknown_fields_come_before_values
    : write_all_text spec (object ((codes "outputPath", text []) ∷ (codes "text", text []) ∷ (codes "x", text []) ∷ []) ∷ []) start
    ≡ Err BadArgument
unfolding write_all_text
unknown_fields_come_before_values = refl

values_come_in_the_order_of_the_row
    : write_all_text spec (object ((codes "text", plain.Undefined) ∷ (codes "outputPath", plain.Path a) ∷ []) ∷ []) start
    ≡ Err Kind
unfolding write_all_text
values_come_in_the_order_of_the_row = refl

a_written_file_is_made
    : write_all_text spec (object ((codes "text", text (codes "x")) ∷ (codes "outputPath", plain.Path a) ∷ []) ∷ []) start
    ≡ Ok (
      plain.File (Made a 0),
      record start {
        pips = record { spec = spec; kind = kinds.Write (record { to = a; text = codes "x" }) } ∷ [];
      },
    )
unfolding write_all_text
a_written_file_is_made = refl

each_line_ends_in_a_newline : text_of_lines (codes "a" ∷ [] ∷ []) ≡ codes "a\n\n"
each_line_ends_in_a_newline = refl

lines_are_texts
    : written_lines (object ((codes "outputPath", plain.Path a) ∷ (codes "lines", listed (plain.Undefined ∷ [])) ∷ []) ∷ [])
    ≡ Err Kind
lines_are_texts = refl

a_copied_file_is_made
    : copy_file spec (file a ∷ plain.Path b ∷ []) start
    ≡ Ok (
      plain.File (Made b 0),
      record start {
        pips = record { spec = spec; kind = kinds.Copy (record { from = Source a; to = b }) } ∷ [];
      },
    )
unfolding copy_file
a_copied_file_is_made = refl

a_copy_is_of_a_file : copy_file spec (plain.Path a ∷ plain.Path b ∷ []) start ≡ Err Kind
unfolding copy_file
a_copy_is_of_a_file = refl

-- ## The files that count

the_source_file_counts : files_by_path (Made a 0 ∷ Source a ∷ []) ≡ Source a ∷ []
the_source_file_counts = refl

the_least_maker_counts : files_by_path (Made a 7 ∷ Made b 4 ∷ Made a 5 ∷ []) ≡ Made a 5 ∷ Made b 4 ∷ []
the_least_maker_counts = refl

-- ## Seals

a_file_beside_the_directory_is_refused
    : seal_directory spec (plain.Directory s ∷ listed (file a ∷ file b ∷ file beside ∷ []) ∷ []) start ≡ Err BadArgument
unfolding seal_directory files_below
a_file_beside_the_directory_is_refused = refl

no_source_file_is_left_out
    : seal_directory spec (plain.Directory s ∷ listed (file a ∷ []) ∷ []) start ≡ Err BadArgument
unfolding seal_directory files_below
no_source_file_is_left_out = refl

a_full_seal_asks_for_all_below_its_directory
    : seal_directory spec (plain.Directory s ∷ listed (file a ∷ file b ∷ []) ∷ []) start
    ≡ Ok (
      plain.Static (static_dirs.Seal 0 s),
      record start {
        pips =
            record { spec = spec; kind = kinds.Seal (record { form = Full; root = s; files = Source a ∷ Source b ∷ [] }) } ∷ [];
        asks = Below s ∷ [];
      },
    )
unfolding seal_directory files_below
a_full_seal_asks_for_all_below_its_directory = refl

a_partial_seal_may_leave_files_out
    : seal_partial_directory spec (plain.Directory s ∷ listed (file b ∷ file b ∷ []) ∷ []) start
    ≡ Ok (
      plain.Static (static_dirs.Seal 0 s),
      record start {
        pips =
            record { spec = spec; kind = kinds.Seal (record { form = Partial; root = s; files = Source b ∷ [] }) } ∷ [];
      },
    )
unfolding seal_partial_directory
a_partial_seal_may_leave_files_out = refl

a_source_seal_is_of_the_directory_alone_by_default
    : seal_source_directory spec (plain.Directory [] ∷ plain.Undefined ∷ []) start
    ≡ Ok (
      plain.Static (static_dirs.Seal 0 []),
      record start {
        pips = record { spec = spec; kind = kinds.Seal (record { form = SourceTop; root = []; files = [] }) } ∷ [];
      },
    )
unfolding seal_source_directory
a_source_seal_is_of_the_directory_alone_by_default = refl

a_source_seal_may_be_deep : form_in (text (codes "allDirectories")) ≡ Ok SourceAll
a_source_seal_may_be_deep = refl

another_text_is_no_form : form_in (text (codes "all")) ≡ Err BadArgument
another_text_is_no_form = refl

-- ## Output directories

an_output_directory_is_below_out : named_directory spec (codes "x") ≡ codes "out" ∷ codes "build.dsc" ∷ codes "x" ∷ []
an_output_directory_is_below_out = refl

its_name_is_an_atom : name_in_arguments (text (codes "a/b") ∷ []) ≡ Err BadArgument
its_name_is_an_atom = refl
