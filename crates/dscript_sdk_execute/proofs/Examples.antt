-- Worked examples: the order of faults, and what of inputs and outputs counts.
use Rattle.std.proofs.Common.{◌≡◌, ℕ, List, [], ◌∷◌, None, Err, codes, refl}
use Rattle.bx_tree.specs.Paths.{Atoms}
use Rattle.bx_tree.specs.declared.file_input.FileInput.TheVariants.{Source, Made}
use Rattle.dscript_value.specs.Plain as plain
use Rattle.dscript_value.specs.Plain.{Plain, PlainField, to_items, to_members}
use Rattle.dscript_sdk_values.specs.declared.fault.SdkFault.TheVariants.{BadArgument, Kind}
use Rattle.dscript_sdk_calls.specs.Sources.{tree_answers}
use Rattle.dscript_sdk_pips.specs.States.{State, Change, no_calls}
use Rattle.dscript_sdk_execute.specs.Execute.{execute}
use Rattle.dscript_sdk_execute.specs.ExecuteObject.{output_in, request_in, tool_in, variables_in}

-- ## What the examples are about

abbrev spec : Atoms
spec = codes "build.dsc" ∷ []

abbrev a : Atoms
a = codes "s" ∷ codes "a" ∷ []

abbrev s : Atoms
s = codes "s" ∷ []

abbrev start : State
start = no_calls (tree_answers [])

abbrev object : List PlainField → Plain
object fields = plain.Object 1 (to_members fields)

abbrev listed : List Plain → Plain
listed items = plain.Listed 1 (to_items items)

abbrev text : List ℕ → Plain
text bytes = plain.Text bytes

abbrev tool : Plain
tool = object ((codes "exe", plain.File (Source a)) ∷ [])

abbrev run : List PlainField → Change
run fields = execute spec (object ((codes "tool", tool) ∷ fields) ∷ []) start

-- ## Faults

unknown_fields_come_before_values
    : request_in (object ((codes "tool", text []) ∷ (codes "x", text []) ∷ [])) ≡ Err BadArgument
unfolding request_in
unknown_fields_come_before_values = refl

an_optional_field_does_not_hold_undefined
    : request_in (object ((codes "tool", tool) ∷ (codes "workingDirectory", plain.Undefined) ∷ [])) ≡ Err Kind
unfolding request_in
an_optional_field_does_not_hold_undefined = refl

tags_hold_anything : run ((codes "tags", plain.Undefined) ∷ []) ≡ run []
unfolding execute request_in
tags_hold_anything = refl

a_made_tool_is_refused_before_its_description
    : tool_in (object ((codes "exe", plain.File (Made a 0)) ∷ (codes "description", plain.Undefined) ∷ []))
    ≡ Err BadArgument
a_made_tool_is_refused_before_its_description = refl

another_kind_is_refused_before_the_directory
    : output_in (object ((codes "kind", text (codes "x")) ∷ (codes "directory", plain.Undefined) ∷ []))
    ≡ Err BadArgument
another_kind_is_refused_before_the_directory = refl

abbrev variable : List ℕ → Plain → Plain
variable name value = object ((codes "name", text name) ∷ (codes "value", value) ∷ [])

equal_names_come_after_all_variables
    : variables_in (listed (variable (codes "n") (text []) ∷ variable (codes "n") (text [])
    ∷ variable (codes "m") plain.Undefined ∷ []))
    ≡ Err Kind
equal_names_come_after_all_variables = refl

-- ## Inputs and outputs

abbrev outdir : Atoms → Plain
outdir path = object ((codes "kind", text (codes "shared")) ∷ (codes "directory", plain.Directory path) ∷ [])

equal_outputs_count_once
    : run ((codes "outputs", listed (plain.Path a ∷ plain.Path a ∷ [])) ∷ [])
    ≡ run ((codes "outputs", listed (plain.Path a ∷ [])) ∷ [])
unfolding execute request_in
equal_outputs_count_once = refl

no_directory_is_exclusive_and_shared
    : run ((codes "outputs", listed (plain.Directory s ∷ outdir s ∷ [])) ∷ []) ≡ Err BadArgument
unfolding execute request_in
no_directory_is_exclusive_and_shared = refl

the_console_is_no_other_output
    : run ((codes "outputs", listed (plain.Path a ∷ [])) ∷ (codes "consoleOutput", plain.Path a) ∷ [])
    ≡ Err BadArgument
unfolding execute request_in
the_console_is_no_other_output = refl

-- an argument without a text and without an artifact
abbrev none : Plain
none = plain.Argument (record { text = None; artifact = None })

no_argument_is_dropped : run ((codes "arguments", listed (none ∷ [])) ∷ []) ≡ run []
unfolding execute request_in
no_argument_is_dropped = refl
