-- What ambient calls answer at arguments of the types that they take.
use Rattle.std.proofs.Common.{◌≡◌, ℕ, Bool, true, false, cond, ◌&&◌, ◌⊎◌, List, [], ◌∷◌, ◌++◌, length, Option, Some, None, Ok, Err}
use Rattle.std.proofs.Common.{refl, sym, subst, inl, inr, codes}
use Rattle.std.specs.Fmt.{signed_decimal}
use Rattle.std.specs.List.{AllByRecursion, AllZip}
use Rattle.std.specs.Prelude.{nat_le}
use Rattle.std.specs.Str.{bytes_eq}
use Rattle.bx_tree.specs.FileInputs.{input_path}
use Rattle.bx_tree.specs.Paths.{Atoms}
use Rattle.bx_tree.specs.declared.file_input.FileInput.TheVariants.{Source, Made}
use Rattle.bx_path.specs.Globbing.{is_pattern}
use Rattle.bx_path.specs.Joining.{is_atom}
use Rattle.pip_model_types.specs.declared.dir_inputs.SealForm.TheVariants.{SourceTop, SourceAll}
use Rattle.pip_model_types.specs.declared.pip.PipKind.{PipKind}
use Rattle.pip_model_types.specs.declared.pip.PipKind.TheVariants as pips
use Rattle.dscript_program.specs.declared.ambient.Ambient.{Ambient}
use Rattle.dscript_program.specs.declared.ambient.Ambient.TheVariants as calls
use Rattle.dscript_value.specs.declared.parts.Artifact.{Artifact as AnyArtifact}
use Rattle.dscript_value.specs.declared.parts.Artifact.TheVariants as artifacts
use Rattle.dscript_value.specs.declared.parts.StaticDir.TheVariants as dirs
use Rattle.dscript_value.specs.Equality.{artifact_path}
use Rattle.dscript_value.specs.Plain as plain
use Rattle.dscript_value.specs.Plain.{Plain, PlainField, item_list, member_list}
use Rattle.dscript_sdk_values.specs.declared.fault.SdkFault.TheVariants.{BadArgument, BadPath, Memory, Range}
use Rattle.dscript_sdk_values.specs.declared.limits.TheConstants.{MAX_TEXT_BYTES}
use Rattle.dscript_sdk_values.specs.Kinds.{text_in}
use Rattle.dscript_sdk_values.specs.Outcomes.{Outcome, ◌>>=◌, unless_none}
use Rattle.dscript_sdk_values.specs.PathTexts.{path_argument}
use Rattle.dscript_sdk_calls.specs.ArgumentTexts.{argument_after, no_argument, text_argument}
use Rattle.dscript_sdk_calls.specs.ArtifactInput.{artifact_input, input_of}
use Rattle.dscript_sdk_calls.specs.ArtifactNone.{artifact_none, plain_path_of}
use Rattle.dscript_sdk_calls.specs.ArtifactOutput.{artifact_output, output_of}
use Rattle.dscript_sdk_calls.specs.CmdArgument.{cmd_argument}
use Rattle.dscript_sdk_calls.specs.CmdFlag.{cmd_flag, flagged}
use Rattle.dscript_sdk_calls.specs.CmdOption.{cmd_option}
use Rattle.dscript_sdk_calls.specs.ContractAssert.{contract_assert, unless_true}
use Rattle.dscript_sdk_calls.specs.ContractFail.{contract_fail}
use Rattle.dscript_sdk_calls.specs.Globs.{asked_glob, found_files, glob_files, pattern_in, source_values}
use Rattle.dscript_sdk_calls.specs.declared.tree_ask.TreeAsk.{TreeAsk}
use Rattle.dscript_sdk_calls.specs.declared.tree_ask.TreeAsk.TheVariants.{Below}
use Rattle.dscript_sdk_pips.specs.CopyFile.{copied_file, copy_file}
use Rattle.dscript_sdk_pips.specs.NewOutputDirectory.{atom_in, name_in_arguments, new_output_directory}
use Rattle.dscript_sdk_pips.specs.SealDirectory as full
use Rattle.dscript_sdk_pips.specs.SealPartialDirectory as partial
use Rattle.dscript_sdk_pips.specs.SealSourceDirectory.{form_in, form_of_rest, seal_source_directory, sealed_sources}
use Rattle.dscript_sdk_pips.specs.Seals.{are_below, lists_sources, sealed_in}
use Rattle.dscript_sdk_pips.specs.States.{Change, State as Calls, asking, unchanged, with_ask, with_pip}
use Rattle.dscript_sdk_pips.specs.WriteAllLines as lines
use Rattle.dscript_sdk_pips.specs.WriteAllText as texts
use Rattle.dscript_sdk.specs.Calls.{call_of}
use Rattle.dscript_sdk.specs.Members.{answer_with}
use Rattle.dscript_sdk_execute.specs.Execute.{asked_process, execute}
use Rattle.dscript_types_meaning.specs.declared.kind.Kind.{Kind}
use Rattle.dscript_types_meaning.specs.declared.kind.Kind.TheVariants as kinds
use Rattle.dscript_types_meaning.specs.Types.{TypeData, kind_type, list_type, never}
use Rattle.dscript_types_meaning.specs.Unions.{join, undefined_type, with_undefined}
use Rattle.dscript_types_meaning.specs.Annotations.{static_type}
use Rattle.dscript_types_meaning.specs.Operators.{boolean_type, text_type, types_of_kinds}
use Rattle.dscript_types_meaning.specs.Objects.{holding, put_fields}
use Rattle.dscript_types_meaning.specs.Access.{arguments_fit}
use Rattle.dscript_types_meaning.specs.Ambients.{ambient_signature, ambient_type, argument_value, directory_type, executed, file_type, looked_at}
use Rattle.dscript_types_meaning.specs.Ambients.{path_type, written_lines, written_text}
use Rattle.dscript_types_meaning.specs.Values.{HasType}
use Rattle.dscript_types_values.proofs.Among.{Among}
use Rattle.dscript_types_values.proofs.Fitting.{fits_has, has_kind, kind_has}
use Rattle.dscript_types_values.proofs.Joining.{join_has, undefined_itself}
use Rattle.dscript_types_values.proofs.KindForms.{IsKind}
use Rattle.dscript_types_laws.specs.Invariants.{Answers}
use Rattle.dscript_types_laws.proofs.Executing.{process_read}
use Rattle.dscript_types_laws.proofs.Holes.{Reads, kinds_have}
use Rattle.dscript_types_laws.proofs.ListMethods.{answer_fits}
use Rattle.dscript_types_laws.proofs.Methods.{list_answered}
use Rattle.dscript_types_laws.proofs.Operating.{AnswersOf}
use Rattle.dscript_types_laws.proofs.Reading.{directory_read, field_read, file_read, first_fit, flag_read, is_at, list_read, object_read}
use Rattle.dscript_types_laws.proofs.Reading.{one_answers, path_read, text_read, then_answers, then_reads, two_answers}

-- ## What calls change

-- a call answers a value of this type, and changes what it changes
abbrev pub ChangesTo : TypeData → Change → Type 0
ChangesTo t c = Answers (Plain × Calls) (λ r. HasType r.0 t) c

left_alone : (t : TypeData) (o : Outcome Plain) (s : Calls) → AnswersOf t o → ChangesTo t (unchanged o s)
left_alone t (Ok x) s h = h
left_alone t (Err fault) s h = h

-- what a call of a member answers and asks
pub method_changes : (t : TypeData) (ask : Option TreeAsk) (o : Outcome Plain) (s : Calls) → AnswersOf t o → ChangesTo t (answer_with ask o s)
method_changes t None o s h = left_alone t o s h
method_changes t (Some ask) (Ok x) s h = h
method_changes t (Some ask) (Err fault) s h = h

-- what a call answers that asks the tree once
ask_changes
    : (t : TypeData) (o : Outcome (Plain × TreeAsk)) (s : Calls) → Answers (Plain × TreeAsk) (λ r. HasType r.0 t) o
    → ChangesTo t (asking o s)
ask_changes t (Ok r) s h = h
ask_changes t (Err fault) s h = h

pip_case
    : (t : TypeData) (value : Plain) (s : Calls) (b : Bool) → HasType value t
    → ChangesTo t (cond b (Ok (value, s)) (Err Memory))
pip_case t value s true h = h
pip_case t value s false h = tt

pip_changes
    : (t : TypeData) (spec : Atoms) (kind : PipKind) (value : ℕ → Plain) (s : Calls) → ((n : ℕ) → HasType (value n) t)
    → ChangesTo t (with_pip spec kind value s)
pip_changes t spec kind value s h =
    pip_case t (value (length s.pips)) (record s { pips = s.pips ++ record { spec = spec; kind = kind } ∷ [] }) _ (h (length s.pips))

then_changes
    : {A : Type 0} (t : TypeData) (o : Outcome A) (f : A → Change) → Reads o → ((x : A) → ChangesTo t (f x))
    → ChangesTo t (o >>= f)
then_changes {A} t o f h more = then_answers A (Plain × Calls) (λ x. Unit {0}) (λ r. HasType r.0 t) o f h (λ x u. more x)

then_answers_of
    : {A : Type 0} (t : TypeData) (o : Outcome A) (f : A → Outcome Plain) → Reads o → ((x : A) → AnswersOf t (f x))
    → AnswersOf t (o >>= f)
then_answers_of {A} t o f h more = then_answers A Plain (λ x. Unit {0}) (λ x. HasType x t) o f h (λ x u. more x)

-- ## Writes and copies

limit_reads : {A : Type 0} (x : A) (b : Bool) → Reads (cond b (Ok x) (Err Range))
limit_reads x true = tt
limit_reads x false = tt

argument_reads : {A : Type 0} (x : A) (b : Bool) → Reads (cond b (Ok x) (Err BadArgument))
argument_reads x true = tt
argument_reads x false = tt

text_asked
    : (args : List Plain) (given : List TypeData) → arguments_fit (written_text ∷ []) given ≡ true → AllZip HasType args given
    → Reads (texts.written_text args)
text_asked [] given fit zip = tt
text_asked (x ∷ args) [] fit zip = absurd zip
text_asked (x ∷ args) (g ∷ given) fit zip =
    object_read (codes "outputPath" ∷ codes "text" ∷ []) [] _ x
    (put_fields [] (holding (codes "outputPath") path_type ∷ holding (codes "text") text_type ∷ []))
    (fits_has x g written_text (first_fit written_text g [] given fit).0 zip.0)
    (λ es holds.
    then_reads _ _ (field_read es (codes "outputPath") path_type _ (is_at es _ (codes "outputPath") path_type holds refl) path_read)
    (λ to. then_reads _ _ (field_read es (codes "text") text_type _ (is_at es _ (codes "text") text_type holds refl) text_read)
    (λ text. tt)))

lines_asked
    : (args : List Plain) (given : List TypeData) → arguments_fit (written_lines ∷ []) given ≡ true → AllZip HasType args given
    → Reads (lines.written_lines args)
lines_asked [] given fit zip = tt
lines_asked (x ∷ args) [] fit zip = absurd zip
lines_asked (x ∷ args) (g ∷ given) fit zip =
    object_read (codes "outputPath" ∷ codes "lines" ∷ []) [] _ x
    (put_fields [] (holding (codes "outputPath") path_type ∷ holding (codes "lines") (list_type text_type) ∷ []))
    (fits_has x g written_lines (first_fit written_lines g [] given fit).0 zip.0)
    (λ es holds.
    then_reads _ _ (field_read es (codes "outputPath") path_type _ (is_at es _ (codes "outputPath") path_type holds refl) path_read)
    (λ to. then_reads _ _
    (field_read es (codes "lines") (list_type text_type) _ (is_at es _ (codes "lines") (list_type text_type) holds refl)
    (list_read text_type text_in text_read))
    (λ all. then_reads (lines.whole_text all) _
    (limit_reads (lines.text_of_lines all) (nat_le (length (lines.text_of_lines all)) MAX_TEXT_BYTES)) (λ text. tt))))

copy_asked
    : (args : List Plain) (given : List TypeData) → arguments_fit (file_type ∷ path_type ∷ []) given ≡ true
    → AllZip HasType args given → Reads (copied_file args)
copy_asked args given fit zip =
    two_answers _ (λ d. Unit {0}) file_type path_type args given _ fit zip
    (λ x y h g. then_reads _ _ (file_read x h) (λ from. then_reads _ _ (path_read y g) (λ to. tt)))

made_file : (path : Atoms) (n : ℕ) → HasType (plain.File (Made path n)) file_type
made_file path n = kind_has kinds.File (plain.File (Made path n)) (Made path n, refl)

-- ## Seals

seal_asked
    : (args : List Plain) (given : List TypeData) → arguments_fit (directory_type ∷ list_type file_type ∷ []) given ≡ true
    → AllZip HasType args given → Reads (sealed_in args)
seal_asked args given fit zip =
    two_answers _ (λ d. Unit {0}) directory_type (list_type file_type) args given _ fit zip
    (λ x y h g. then_reads _ _ (directory_read x h) (λ dir. then_reads _ _ (list_read file_type _ file_read y g) (λ all. tt)))

full_asked
    : (args : List Plain) (given : List TypeData) (s : Calls) → arguments_fit (directory_type ∷ list_type file_type ∷ []) given ≡ true
    → AllZip HasType args given → Reads (full.asked_seal s.answers args)
full_asked args given s fit zip =
    then_reads (sealed_in args) _ (seal_asked args given fit zip)
    (λ d. argument_reads _ (are_below d.0 d.1 && lists_sources (s.answers (Below d.0)) d.1))

partial_asked
    : (args : List Plain) (given : List TypeData) → arguments_fit (directory_type ∷ list_type file_type ∷ []) given ≡ true
    → AllZip HasType args given → Reads (partial.asked_seal args)
partial_asked args given fit zip =
    then_reads (sealed_in args) _ (seal_asked args given fit zip) (λ d. argument_reads _ (are_below d.0 d.1))

form_text : (text : List ℕ) (a b : Bool) → Reads (cond a (Ok SourceTop) (cond b (Ok SourceAll) (Err BadArgument)))
form_text text true b = tt
form_text text false true = tt
form_text text false false = tt

form_case : (x : Plain) → HasType x text_type ⊎ HasType x undefined_type → Reads (form_in x)
form_case x (inl h) =
    let v = has_kind x kinds.String h in
    subst (λ y. Reads (form_in y)) (sym v.1)
    (form_text v.0 (bytes_eq v.0 (codes "topDirectoryOnly")) (bytes_eq v.0 (codes "allDirectories")))
form_case x (inr h) = subst (λ y. Reads (form_in y)) (sym (has_kind x kinds.Undefined h)) tt

form_read
    : (rest : List Plain) (given : List TypeData) → arguments_fit (with_undefined text_type ∷ []) given ≡ true
    → AllZip HasType rest given → Reads (form_of_rest rest)
form_read [] given fit zip = tt
form_read (x ∷ rest) [] fit zip = absurd zip
form_read (x ∷ rest) (g ∷ given) fit zip =
    form_case x (join_has x text_type undefined_type
    (fits_has x g (with_undefined text_type) (first_fit (with_undefined text_type) g [] given fit).0 zip.0))

sources_asked
    : (args : List Plain) (given : List TypeData) → arguments_fit (directory_type ∷ with_undefined text_type ∷ []) given ≡ true
    → AllZip HasType args given → Reads (sealed_sources args)
sources_asked [] given fit zip = tt
sources_asked (x ∷ rest) [] fit zip = absurd zip
sources_asked (x ∷ rest) (g ∷ given) fit zip =
    let one = first_fit directory_type g (with_undefined text_type ∷ []) given fit in
    then_reads _ _ (directory_read x (fits_has x g directory_type one.0 zip.0))
    (λ root. then_reads (form_of_rest rest) _ (form_read rest given one.1 zip.1) (λ form. tt))

made_seal : (root : Atoms) (n : ℕ) → HasType (plain.Static (dirs.Seal n root)) (kind_type kinds.Seal)
made_seal root n = kind_has kinds.Seal (plain.Static (dirs.Seal n root)) (n, root, refl)

-- ## Arguments of processes

abbrev argument_type : TypeData
argument_type = kind_type kinds.Argument

argument_has : (x : Plain) → IsKind kinds.Argument x → HasType x argument_type
argument_has x h = kind_has kinds.Argument x h

text_written : (before text : List ℕ) (b : Bool)
    → AnswersOf argument_type (cond b (Ok (plain.Argument (record { text = Some (before ++ text); artifact = None }))) (Err Range))
text_written before text true = argument_has _ (record { text = Some (before ++ text); artifact = None }, refl)
text_written before text false = tt

text_answers : (before text : List ℕ) → AnswersOf argument_type (text_argument before text)
text_answers before text = text_written before text (nat_le (length (before ++ text)) MAX_TEXT_BYTES)

artifact_written : (before : List ℕ) (a : AnyArtifact) (b : Bool)
    → AnswersOf argument_type (cond b (Ok (plain.Argument (record { text = Some before; artifact = Some a }))) (Err Range))
artifact_written before a true = argument_has _ (record { text = Some before; artifact = Some a }, refl)
artifact_written before a false = tt

none_answers : AnswersOf argument_type (Ok no_argument)
none_answers = argument_has no_argument (record { text = None; artifact = None }, refl)

abbrev argument_kinds : List Kind
argument_kinds =
    kinds.String ∷ kinds.Number ∷ kinds.Path ∷ kinds.File ∷ kinds.Directory ∷ kinds.PathAtom ∷ kinds.Artifact ∷ []

kind_written
    : (before : List ℕ) (x : Plain) (k : Kind) → Among argument_kinds k → IsKind k x → AnswersOf argument_type (argument_after before x)
kind_written before x k (inl is) h =
    let v : IsKind kinds.String x = subst (λ l. IsKind l x) (sym is) h in
    subst (λ y. AnswersOf argument_type (argument_after before y)) (sym v.1) (text_answers before v.0)
kind_written before x k (inr (inl is)) h =
    let v : IsKind kinds.Number x = subst (λ l. IsKind l x) (sym is) h in
    subst (λ y. AnswersOf argument_type (argument_after before y)) (sym v.1) (text_answers before (signed_decimal v.0))
kind_written before x k (inr (inr (inl is))) h =
    let v : IsKind kinds.Path x = subst (λ l. IsKind l x) (sym is) h in
    subst (λ y. AnswersOf argument_type (argument_after before y)) (sym v.1) (text_answers before (path_argument v.0))
kind_written before x k (inr (inr (inr (inl is)))) h =
    let v : IsKind kinds.File x = subst (λ l. IsKind l x) (sym is) h in
    subst (λ y. AnswersOf argument_type (argument_after before y)) (sym v.1) (text_answers before (path_argument (input_path v.0)))
kind_written before x k (inr (inr (inr (inr (inl is))))) h =
    let v : IsKind kinds.Directory x = subst (λ l. IsKind l x) (sym is) h in
    subst (λ y. AnswersOf argument_type (argument_after before y)) (sym v.1) (text_answers before (path_argument v.0))
kind_written before x k (inr (inr (inr (inr (inr (inl is)))))) h =
    let v : IsKind kinds.PathAtom x = subst (λ l. IsKind l x) (sym is) h in
    subst (λ y. AnswersOf argument_type (argument_after before y)) (sym v.1) (text_answers before v.0)
kind_written before x k (inr (inr (inr (inr (inr (inr (inl is))))))) h =
    let v : IsKind kinds.Artifact x = subst (λ l. IsKind l x) (sym is) h in
    subst (λ y. AnswersOf argument_type (argument_after before y)) (sym v.1)
    (artifact_written before v.0 (nat_le (length (before ++ path_argument (artifact_path v.0))) MAX_TEXT_BYTES))
kind_written before x k (inr (inr (inr (inr (inr (inr (inr none))))))) h = absurd none

value_case
    : (before : List ℕ) (x : Plain) → HasType x (types_of_kinds argument_kinds) ⊎ HasType x undefined_type
    → AnswersOf argument_type (argument_after before x)
value_case before x (inl h) = let k = kinds_have x argument_kinds h in kind_written before x k.0 k.1 k.2
value_case before x (inr h) =
    subst (λ y. AnswersOf argument_type (argument_after before y)) (sym (has_kind x kinds.Undefined h)) none_answers

value_written : (before : List ℕ) (x : Plain) → HasType x argument_value → AnswersOf argument_type (argument_after before x)
value_written before x h = value_case before x (join_has x (types_of_kinds argument_kinds) undefined_type h)

flag_case : (text : List ℕ) (flag : Bool) → AnswersOf argument_type (flagged text (plain.Flag flag))
flag_case text true = text_answers [] text
flag_case text false = none_answers

flag_written : (text : List ℕ) (x : Plain) → HasType x boolean_type ⊎ HasType x undefined_type → AnswersOf argument_type (flagged text x)
flag_written text x (inl h) =
    let v = has_kind x kinds.Boolean h in subst (λ y. AnswersOf argument_type (flagged text y)) (sym v.1) (flag_case text v.0)
flag_written text x (inr h) =
    subst (λ y. AnswersOf argument_type (flagged text y)) (sym (has_kind x kinds.Undefined h)) none_answers

-- ## Artifacts

abbrev artifact_type : TypeData
artifact_type = kind_type kinds.Artifact

artifact_has : (a : AnyArtifact) → HasType (plain.Artifact a) artifact_type
artifact_has a = kind_has kinds.Artifact (plain.Artifact a) (a, refl)

static_case : (x : Plain) → HasType x (kind_type kinds.Seal) ⊎ HasType x (kind_type kinds.Opaque) → AnswersOf artifact_type (input_of x)
static_case x (inl h) =
    let v = has_kind x kinds.Seal h in
    subst (λ y. AnswersOf artifact_type (input_of y)) (sym v.2) (artifact_has (artifacts.InputDir (dirs.Seal v.0 v.1)))
static_case x (inr h) =
    let v = has_kind x kinds.Opaque h in
    subst (λ y. AnswersOf artifact_type (input_of y)) (sym v.2) (artifact_has (artifacts.InputDir (dirs.Opaque v.0 v.1)))

input_case : (x : Plain) → HasType x file_type ⊎ HasType x static_type → AnswersOf artifact_type (input_of x)
input_case x (inl h) =
    let v = has_kind x kinds.File h in
    subst (λ y. AnswersOf artifact_type (input_of y)) (sym v.1) (artifact_has (artifacts.Input v.0))
input_case x (inr h) = static_case x (join_has x (kind_type kinds.Seal) (kind_type kinds.Opaque) h)

output_case : (x : Plain) → HasType x path_type ⊎ HasType x directory_type → AnswersOf artifact_type (output_of x)
output_case x (inl h) =
    let v = has_kind x kinds.Path h in
    subst (λ y. AnswersOf artifact_type (output_of y)) (sym v.1) (artifact_has (artifacts.Output v.0))
output_case x (inr h) =
    let v = has_kind x kinds.Directory h in
    subst (λ y. AnswersOf artifact_type (output_of y)) (sym v.1) (artifact_has (artifacts.OutputDir v.0))

plain_dir : (x : Plain) → HasType x file_type ⊎ HasType x directory_type → AnswersOf artifact_type (plain_path_of x)
plain_dir x (inl h) =
    let v = has_kind x kinds.File h in
    subst (λ y. AnswersOf artifact_type (plain_path_of y)) (sym v.1) (artifact_has (artifacts.Plain (input_path v.0)))
plain_dir x (inr h) =
    let v = has_kind x kinds.Directory h in
    subst (λ y. AnswersOf artifact_type (plain_path_of y)) (sym v.1) (artifact_has (artifacts.Plain v.0))

plain_case : (x : Plain) → HasType x path_type ⊎ HasType x (join file_type directory_type) → AnswersOf artifact_type (plain_path_of x)
plain_case x (inl h) =
    let v = has_kind x kinds.Path h in
    subst (λ y. AnswersOf artifact_type (plain_path_of y)) (sym v.1) (artifact_has (artifacts.Plain v.0))
plain_case x (inr h) = plain_dir x (join_has x file_type directory_type h)

-- ## Directories, contracts and globs

directory_case
    : (o : Option Atoms) (after : Calls) → ChangesTo directory_type (unless_none BadPath o >>= λ path. Ok (plain.Directory path, after))
directory_case None after = tt
directory_case (Some path) after = kind_has kinds.Directory (plain.Directory path) (path, refl)

atom_read : (x : Plain) → HasType x text_type → Reads (atom_in x)
atom_read x h = then_reads (text_in x) _ (text_read x h) (λ text. argument_reads text (is_atom text))

pattern_read : (x : Plain) → HasType x text_type → Reads (pattern_in x)
pattern_read x h = then_reads (text_in x) _ (text_read x h) (λ text. argument_reads text (is_pattern text))

holds_case : (b : Bool) (message : List ℕ) → AnswersOf undefined_type (unless_true b message)
holds_case true message = undefined_itself
holds_case false message = tt

assert_answers
    : (args : List Plain) (given : List TypeData) → arguments_fit (boolean_type ∷ text_type ∷ []) given ≡ true
    → AllZip HasType args given → AnswersOf undefined_type (contract_assert args)
unfolding contract_assert
assert_answers args given fit zip =
    two_answers Plain (λ x. HasType x undefined_type) boolean_type text_type args given _ fit zip
    (λ x y h g. then_answers_of undefined_type _ _ (flag_read x h)
    (λ b. then_answers_of undefined_type _ _ (text_read y g) (λ message. holds_case b message)))

source_files : (paths : List Atoms) → AllByRecursion (λ x. HasType x file_type) (source_values paths)
source_files [] = tt
source_files (path ∷ paths) = (kind_has kinds.File (plain.File (Source path)) (Source path, refl), source_files paths)

glob_asks
    : (deep : Bool) (args : List Plain) (given : List TypeData) → arguments_fit (directory_type ∷ text_type ∷ []) given ≡ true
    → AllZip HasType args given → Reads (asked_glob deep args)
glob_asks deep args given fit zip =
    two_answers TreeAsk (λ ask. Unit {0}) directory_type text_type args given _ fit zip
    (λ x y h g. then_reads _ _ (directory_read x h) (λ dir. then_reads _ _ (pattern_read y g) (λ pattern. tt)))

glob_answers
    : (deep : Bool) (args : List Plain) (given : List TypeData) (s : Calls)
    → arguments_fit (directory_type ∷ text_type ∷ []) given ≡ true → AllZip HasType args given
    → Answers (Plain × TreeAsk) (λ r. HasType r.0 (list_type file_type)) (glob_files deep args s.answers)
unfolding glob_files
glob_answers deep args given s fit zip =
    then_answers TreeAsk (Plain × TreeAsk) (λ ask. Unit {0}) (λ r. HasType r.0 (list_type file_type)) (asked_glob deep args) _
    (glob_asks deep args given fit zip)
    (λ ask any. then_answers Plain (Plain × TreeAsk) (λ x. HasType x (list_type file_type)) (λ r. HasType r.0 (list_type file_type))
    (found_files (s.answers ask)) _ (list_answered (source_values (s.answers ask)) file_type (source_files (s.answers ask)))
    (λ files h. h))

-- ## Processes

execute_answers
    : (given : List TypeData) (spec : Atoms) (args : List Plain) (s : Calls)
    → arguments_fit (executed ∷ []) (looked_at calls.Execute given) ≡ true → AllZip HasType args given
    → ChangesTo (kind_type kinds.Process) (execute spec args s)
unfolding execute
execute_answers given spec args s fit zip =
    then_changes (kind_type kinds.Process) (asked_process spec s.pips args) _ (process_read spec s.pips args given fit zip)
    (λ process. pip_changes (kind_type kinds.Process) spec (pips.Process process) plain.Process s
    (λ n. kind_has kinds.Process (plain.Process n) (n, refl)))

-- ## All calls

abbrev CallAnswers : Ambient → List TypeData → Type 0
CallAnswers call given =
    (spec : Atoms) (args : List Plain) (s : Calls)
    → arguments_fit (ambient_signature call).takes (looked_at call given) ≡ true → AllZip HasType args given
    → ChangesTo (ambient_signature call).answers (call_of call spec args s)

call_answers : (call : Ambient) (given : List TypeData) → CallAnswers call given
unfolding call_of ambient_signature texts.write_all_text lines.write_all_lines copy_file full.seal_directory
    partial.seal_partial_directory seal_source_directory cmd_argument cmd_option cmd_flag artifact_input artifact_output
    artifact_none new_output_directory contract_fail
call_answers calls.WriteAllText given spec args s fit zip =
    then_changes file_type (texts.written_text args) _ (text_asked args given fit zip)
    (λ d. pip_changes file_type spec (pips.Write d) _ s (made_file d.to))
call_answers calls.WriteAllLines given spec args s fit zip =
    then_changes file_type (lines.written_lines args) _ (lines_asked args given fit zip)
    (λ d. pip_changes file_type spec (pips.Write d) _ s (made_file d.to))
call_answers calls.CopyFile given spec args s fit zip =
    then_changes file_type (copied_file args) _ (copy_asked args given fit zip)
    (λ d. pip_changes file_type spec (pips.Copy d) _ s (made_file d.to))
call_answers calls.SealDirectory given spec args s fit zip =
    then_changes (kind_type kinds.Seal) (full.asked_seal s.answers args) _ (full_asked args given s fit zip)
    (λ d. pip_changes (kind_type kinds.Seal) spec (pips.Seal d) _ (with_ask (Below d.root) s) (made_seal d.root))
call_answers calls.SealPartialDirectory given spec args s fit zip =
    then_changes (kind_type kinds.Seal) (partial.asked_seal args) _ (partial_asked args given fit zip)
    (λ d. pip_changes (kind_type kinds.Seal) spec (pips.Seal d) _ s (made_seal d.root))
call_answers calls.SealSourceDirectory given spec args s fit zip =
    then_changes (kind_type kinds.Seal) (sealed_sources args) _ (sources_asked args given fit zip)
    (λ d. pip_changes (kind_type kinds.Seal) spec (pips.Seal d) _ s (made_seal d.root))
call_answers calls.Execute given spec args s fit zip = execute_answers given spec args s fit zip
call_answers calls.CmdArgument given spec args s fit zip =
    left_alone argument_type (cmd_argument args) s
    (one_answers Plain (λ x. HasType x argument_type) argument_value args given _ fit zip (λ x h. value_written [] x h))
call_answers calls.CmdOption given spec args s fit zip =
    left_alone argument_type (cmd_option args) s
    (two_answers Plain (λ x. HasType x argument_type) text_type argument_value args given _ fit zip
    (λ x y h g. then_answers_of argument_type _ _ (text_read x h) (λ before. value_written before y g)))
call_answers calls.CmdFlag given spec args s fit zip =
    left_alone argument_type (cmd_flag args) s
    (two_answers Plain (λ x. HasType x argument_type) text_type (with_undefined boolean_type) args given _ fit zip
    (λ x y h g. then_answers_of argument_type _ _ (text_read x h)
    (λ text. flag_written text y (join_has y boolean_type undefined_type g))))
call_answers calls.ArtifactInput given spec args s fit zip =
    left_alone artifact_type (artifact_input args) s
    (one_answers Plain (λ x. HasType x artifact_type) (join file_type static_type) args given _ fit zip
    (λ x h. input_case x (join_has x file_type static_type h)))
call_answers calls.ArtifactOutput given spec args s fit zip =
    left_alone artifact_type (artifact_output args) s
    (one_answers Plain (λ x. HasType x artifact_type) (join path_type directory_type) args given _ fit zip
    (λ x h. output_case x (join_has x path_type directory_type h)))
call_answers calls.ArtifactNone given spec args s fit zip =
    left_alone artifact_type (artifact_none args) s
    (one_answers Plain (λ x. HasType x artifact_type) (join path_type (join file_type directory_type)) args given _ fit zip
    (λ x h. plain_case x (join_has x path_type (join file_type directory_type) h)))
call_answers calls.NewOutputDirectory given spec args s fit zip =
    then_changes directory_type (name_in_arguments args) _
    (one_answers (List ℕ) (λ x. Unit {0}) text_type args given _ fit zip atom_read)
    (λ name. directory_case _ _)
call_answers calls.Fail given spec args s fit zip =
    left_alone never (contract_fail args) s
    (then_answers_of never _ _ (one_answers (List ℕ) (λ x. Unit {0}) text_type args given text_in fit zip text_read) (λ message. tt))
call_answers calls.Assert given spec args s fit zip =
    left_alone undefined_type (contract_assert args) s (assert_answers args given fit zip)
call_answers calls.Requires given spec args s fit zip =
    left_alone undefined_type (contract_assert args) s (assert_answers args given fit zip)
call_answers calls.Glob given spec args s fit zip =
    ask_changes (list_type file_type) (glob_files false args s.answers) s (glob_answers false args given s fit zip)
call_answers calls.GlobRecursive given spec args s fit zip =
    ask_changes (list_type file_type) (glob_files true args s.answers) s (glob_answers true args given s fit zip)

-- what an ambient call answers at arguments of types that it takes
pub ambient_has
    : (call : Ambient) (given : List TypeData) (t : TypeData) (spec : Atoms) (args : List Plain) (s : Calls)
    → ambient_type call given ≡ Some t → AllZip HasType args given → ChangesTo t (call_of call spec args s)
unfolding ambient_type
ambient_has call given t spec args s e zip =
    let a = answer_fits (ambient_signature call) (looked_at call given) t e in
    subst (λ u. ChangesTo u (call_of call spec args s)) a.1 (call_answers call given spec args s a.0 zip)
