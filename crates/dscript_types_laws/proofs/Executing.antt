-- What the object of `Transformer.execute` says, at a value of a type that it takes.
use Rattle.std.proofs.Common.{◌≡◌, ℕ, Bool, true, false, cond, not, ◌||◌, ◌⊎◌, List, [], ◌∷◌, Some, Ok, Err, refl, sym, ap}
use Rattle.std.proofs.Common.{◌∙◌, subst, inl, inr, codes, map}
use Rattle.std.specs.List.{AllZip, filter}
use Rattle.std.specs.Option.{option_map}
use Rattle.std.specs.Str.{bytes_eq}
use Rattle.bx_tree.specs.Paths.{Atoms}
use Rattle.bx_tree.specs.declared.file_input.FileInput.{FileInput}
use Rattle.bx_tree.specs.declared.file_input.FileInput.TheVariants as files
use Rattle.pip_model_types.specs.declared.pip.Pip.{Pip}
use Rattle.pip_model_types.specs.declared.pip.ProcessDesc.{ProcessDesc}
use Rattle.dscript_value.specs.Plain as plain
use Rattle.dscript_value.specs.Plain.{Plain, PlainField, member_list}
use Rattle.dscript_sdk_values.specs.declared.fault.SdkFault.TheVariants.{BadArgument}
use Rattle.dscript_sdk_values.specs.Kinds.{argument_in, directory_in, file_in, list_in, path_in, text_in}
use Rattle.dscript_sdk_execute.specs.Execute.{asked_process, clashes_console, process_of, shares_exclusive, unless_clashing}
use Rattle.dscript_sdk_execute.specs.ExecuteObject.{as_shared, dependency_in, exe_in, has_distinct_names, made_in, name_in}
use Rattle.dscript_sdk_execute.specs.ExecuteObject.{optional_fields, output_in, request_in, request_of, shared_directory_in, shared_in}
use Rattle.dscript_sdk_execute.specs.ExecuteObject.{source_of, taken_in, tool_in, variable_in, variables_in}
use Rattle.dscript_types_meaning.specs.declared.kind.Kind.TheVariants as kinds
use Rattle.dscript_types_meaning.specs.Types.{TypeData, MemberData, FieldData, FieldRow, Values, Lists, Objects, field_list, kind_type, list_type}
use Rattle.dscript_types_meaning.specs.Types.{Union, members_of, to_fields, to_members}
use Rattle.dscript_types_meaning.specs.Unions.{join, set_of, union_of}
use Rattle.dscript_types_meaning.specs.Annotations.{static_type}
use Rattle.dscript_types_meaning.specs.Fits.{are_required, field_named, fields_fit, fits, member_fits}
use Rattle.dscript_types_meaning.specs.Objects.{holding, put_fields}
use Rattle.dscript_types_meaning.specs.Operators.{text_type}
use Rattle.dscript_types_meaning.specs.Access.{arguments_fit}
use Rattle.dscript_program.specs.declared.ambient.Ambient.TheVariants as calls
use Rattle.dscript_types_meaning.specs.Ambients.{directory_type, executed, file_type, is_free_field, looked_at, optional_field, path_type}
use Rattle.dscript_types_meaning.specs.Ambients.{process_output, shared_directory, tool, variable, without_free}
use Rattle.dscript_types_meaning.specs.Values.{HasType, IsOf}
use Rattle.dscript_types_values.proofs.Among.{Among, among_map, and_left}
use Rattle.dscript_types_values.proofs.Fielding.{Holds, names_equal, objects_hold}
use Rattle.dscript_types_values.proofs.Fitting.{fits_has, fits_some_member, has_kind, named_fits}
use Rattle.dscript_types_values.proofs.Joining.{among_set, join_has, of_has}
use Rattle.dscript_types_laws.proofs.Holes.{Reads}
use Rattle.dscript_types_laws.proofs.Reading.{IsAt, argument_read, directory_read, field_read, fields_read, file_read, first_fit, is_at}
use Rattle.dscript_types_laws.proofs.Reading.{list_read, object_of_fields, object_read, optional_list_read, optional_read, path_read}
use Rattle.dscript_types_laws.proofs.Reading.{text_read, then_reads, type_at}

-- ## Single fields

given_or : {A : Type 0} (x : A) (b : Bool) → Reads (cond b (Ok x) (Err BadArgument))
given_or x true = tt
given_or x false = tt

refused_or : {A : Type 0} (x : A) (b : Bool) → Reads (cond b (Err BadArgument) (Ok x))
refused_or x true = tt
refused_or x false = tt

source_read : (file : FileInput) → Reads (source_of file)
source_read (files.Source path) = tt
source_read (files.Made path maker) = tt

exe_read : (x : Plain) → HasType x file_type → Reads (exe_in x)
exe_read x h = then_reads (file_in x) source_of (file_read x h) source_read

abbrev tool_fields : List FieldData
tool_fields = put_fields [] (holding (codes "exe") file_type ∷ optional_field (codes "description") text_type ∷ [])

tool_read : (x : Plain) → HasType x tool → Reads (tool_in x)
tool_read x h =
    object_read (codes "exe" ∷ []) (codes "description" ∷ []) _ x tool_fields h
    (λ es holds.
    then_reads _ _ (field_read es (codes "exe") file_type exe_in (is_at es tool_fields (codes "exe") file_type holds refl) exe_read)
    (λ exe. then_reads _ _
    (optional_read es (codes "description") text_type text_in (is_at es tool_fields (codes "description") text_type holds refl) text_read)
    (λ text. tt)))

static_read : (x : Plain) → HasType x (kind_type kinds.Seal) ⊎ HasType x (kind_type kinds.Opaque) → Reads (dependency_in x)
static_read x (inl h) = let v = has_kind x kinds.Seal h in subst (λ y. Reads (dependency_in y)) (sym v.2) tt
static_read x (inr h) = let v = has_kind x kinds.Opaque h in subst (λ y. Reads (dependency_in y)) (sym v.2) tt

dependency_case : (x : Plain) → HasType x file_type ⊎ HasType x static_type → Reads (dependency_in x)
dependency_case x (inl h) = let v = has_kind x kinds.File h in subst (λ y. Reads (dependency_in y)) (sym v.1) tt
dependency_case x (inr h) = static_read x (join_has x (kind_type kinds.Seal) (kind_type kinds.Opaque) h)

dependency_read : (x : Plain) → HasType x (join file_type static_type) → Reads (dependency_in x)
dependency_read x h = dependency_case x (join_has x file_type static_type h)

shared_read : (x : Plain) → HasType x text_type → Reads (shared_in x)
shared_read x h = then_reads (text_in x) _ (text_read x h) (λ text. given_or [] (bytes_eq text (codes "shared")))

abbrev shared_fields : List FieldData
shared_fields = put_fields [] (holding (codes "kind") text_type ∷ holding (codes "directory") directory_type ∷ [])

shared_directory_read : (x : Plain) → HasType x shared_directory → Reads (shared_directory_in x)
shared_directory_read x h =
    object_read (codes "kind" ∷ codes "directory" ∷ []) [] _ x shared_fields h
    (λ es holds.
    then_reads _ _ (field_read es (codes "kind") text_type shared_in (is_at es shared_fields (codes "kind") text_type holds refl) shared_read)
    (λ kind. field_read es (codes "directory") directory_type directory_in (is_at es shared_fields (codes "directory") directory_type holds refl) directory_read))

output_object : (x : Plain) → HasType x shared_directory → Reads (output_in x)
output_object x h =
    let o = object_of_fields x shared_fields h in
    let read : Reads (shared_directory_in (plain.Object o.0 o.1)) = subst (λ y. Reads (shared_directory_in y)) o.2 (shared_directory_read x h) in
    subst (λ y. Reads (output_in y)) (sym o.2)
    (then_reads (shared_directory_in (plain.Object o.0 o.1)) as_shared read (λ dir. tt))

output_dir : (x : Plain) → HasType x directory_type ⊎ HasType x shared_directory → Reads (output_in x)
output_dir x (inl h) = let v = has_kind x kinds.Directory h in subst (λ y. Reads (output_in y)) (sym v.1) tt
output_dir x (inr h) = output_object x h

output_case : (x : Plain) → HasType x path_type ⊎ HasType x (join directory_type shared_directory) → Reads (output_in x)
output_case x (inl h) = let v = has_kind x kinds.Path h in subst (λ y. Reads (output_in y)) (sym v.1) tt
output_case x (inr h) = output_dir x (join_has x directory_type shared_directory h)

output_read : (x : Plain) → HasType x process_output → Reads (output_in x)
output_read x h = output_case x (join_has x path_type (join directory_type shared_directory) h)

name_read : (x : Plain) → HasType x text_type → Reads (name_in x)
name_read x h = then_reads (text_in x) _ (text_read x h) (λ text. refused_or text (bytes_eq text []))

abbrev variable_fields : List FieldData
variable_fields = put_fields [] (holding (codes "name") text_type ∷ holding (codes "value") text_type ∷ [])

variable_read : (x : Plain) → HasType x variable → Reads (variable_in x)
variable_read x h =
    object_read (codes "name" ∷ codes "value" ∷ []) [] _ x variable_fields h
    (λ es holds.
    then_reads _ _ (field_read es (codes "name") text_type name_in (is_at es variable_fields (codes "name") text_type holds refl) name_read)
    (λ name. then_reads _ _ (field_read es (codes "value") text_type text_in (is_at es variable_fields (codes "value") text_type holds refl) text_read)
    (λ value. tt)))

variables_read : (x : Plain) → HasType x (list_type variable) → Reads (variables_in x)
variables_read x h =
    then_reads (list_in variable_in x) _ (list_read variable variable_in variable_read x h)
    (λ all. given_or _ (has_distinct_names all))

-- ## The fields that are looked at

abbrev executed_fields : List FieldData
executed_fields = put_fields [] (
    holding (codes "tool") tool
    ∷ optional_field (codes "arguments") (list_type (kind_type kinds.Argument))
    ∷ optional_field (codes "workingDirectory") directory_type
    ∷ optional_field (codes "dependencies") (list_type (join file_type static_type))
    ∷ optional_field (codes "outputs") (list_type process_output)
    ∷ optional_field (codes "consoleOutput") path_type
    ∷ optional_field (codes "environmentVariables") (list_type variable)
    ∷ [])

-- a field by a name that is not free is not taken away
kept_case
    : (name : List ℕ) (g f : FieldData) (fs : List FieldData) (a b : Bool) → bytes_eq g.name name ≡ a → is_free_field g ≡ b
    → ((h : FieldData) → h.name ≡ name → is_free_field h ≡ false)
    → (field_named fs name ≡ Some f → field_named (filter (λ h. not (is_free_field h)) fs) name ≡ Some f)
    → cond a (Some g) (field_named fs name) ≡ Some f
    → field_named (cond (not b) (g ∷ filter (λ h. not (is_free_field h)) fs) (filter (λ h. not (is_free_field h)) fs)) name ≡ Some f
kept_case name g f fs true true is free not_free more e =
    absurd (let no : false ≡ true = sym (not_free g (names_equal g.name name is)) ∙ free in cc)
kept_case name g f fs true false is free not_free more e =
    ap (λ c. cond c (Some g) (field_named (filter (λ h. not (is_free_field h)) fs) name)) is ∙ e
kept_case name g f fs false true is free not_free more e = more e
kept_case name g f fs false false is free not_free more e =
    ap (λ c. cond c (Some g) (field_named (filter (λ h. not (is_free_field h)) fs) name)) is ∙ more e

kept
    : (name : List ℕ) (f : FieldData) (fs : List FieldData) → ((h : FieldData) → h.name ≡ name → is_free_field h ≡ false)
    → field_named fs name ≡ Some f → field_named (filter (λ h. not (is_free_field h)) fs) name ≡ Some f
kept name f [] not_free e = absurd cc
kept name f (g ∷ fs) not_free e =
    kept_case name g f fs (bytes_eq g.name name) (is_free_field g) refl refl not_free (kept name f fs not_free) e

row_again : (fs : List FieldData) → field_list (to_fields fs) ≡ fs
row_again [] = refl
row_again (f ∷ fs) = ap (λ gs. f ∷ gs) (row_again fs)

-- what a field holds that is looked at
looked_at_is
    : (es : List PlainField) (row : FieldRow) (name : List ℕ) (t : TypeData) → Holds es (field_list row)
    → fields_fit (to_fields (filter (λ h. not (is_free_field h)) (field_list row))) executed_fields ≡ true
    → ((h : FieldData) → h.name ≡ name → is_free_field h ≡ false) → type_at executed_fields name ≡ Some t → IsAt es name t
looked_at_is es row name t holds fit not_free e y at =
    let f = holds.typed name y at in
    let there = kept name f.0 (field_list row) not_free f.1 in
    let g = named_fits (to_fields (filter (λ h. not (is_free_field h)) (field_list row))) executed_fields name f.0 fit
    (ap (λ gs. field_named gs name) (row_again (filter (λ h. not (is_free_field h)) (field_list row))) ∙ there) in
    let same : Some g.0.type_data ≡ Some t = ap (option_map (λ (k : FieldData). k.type_data)) (sym g.1) ∙ e in
    let is : g.0.type_data ≡ t = cc in
    subst (λ u. HasType y u) is (fits_has y f.0.type_data g.0.type_data g.2 f.2)

named_so : (name other : List ℕ) → bytes_eq name other ≡ false → (h : FieldData) → h.name ≡ name → bytes_eq h.name other ≡ false
named_so name other e h is = ap (λ n. bytes_eq n other) is ∙ e

not_free
    : (name : List ℕ) → bytes_eq name (codes "description") ≡ false → bytes_eq name (codes "tags") ≡ false
    → (h : FieldData) → h.name ≡ name → is_free_field h ≡ false
not_free name d t h is =
    both (bytes_eq h.name (codes "description")) (bytes_eq h.name (codes "tags")) (named_so name (codes "description") d h is)
    (named_so name (codes "tags") t h is)
  where
    both : (a b : Bool) → a ≡ false → b ≡ false → (a || (b || false)) ≡ false
    both true b p q = absurd cc
    both false true p q = absurd cc
    both false false p q = refl

-- ## The whole object

module _ (es : List PlainField) (at : (name : List ℕ) (t : TypeData) → ((h : FieldData) → h.name ≡ name → is_free_field h ≡ false)
    → type_at executed_fields name ≡ Some t → IsAt es name t) where
  taken_read : Reads (taken_in es)
  taken_read =
      then_reads _ _ (field_read es (codes "tool") tool tool_in (at (codes "tool") tool (not_free (codes "tool") refl refl) refl) tool_read)
      (λ exe. then_reads _ _
      (optional_list_read es (codes "arguments") (list_type (kind_type kinds.Argument)) _
      (at (codes "arguments") (list_type (kind_type kinds.Argument)) (not_free (codes "arguments") refl refl) refl)
      (list_read (kind_type kinds.Argument) argument_in argument_read))
      (λ arguments. then_reads _ _
      (optional_read es (codes "workingDirectory") directory_type directory_in
      (at (codes "workingDirectory") directory_type (not_free (codes "workingDirectory") refl refl) refl) directory_read)
      (λ directory. then_reads _ _
      (optional_list_read es (codes "dependencies") (list_type (join file_type static_type)) _
      (at (codes "dependencies") (list_type (join file_type static_type)) (not_free (codes "dependencies") refl refl) refl)
      (list_read (join file_type static_type) dependency_in dependency_read))
      (λ dependencies. tt))))

  made_read : Reads (made_in es)
  made_read =
      then_reads _ _
      (optional_list_read es (codes "outputs") (list_type process_output) _
      (at (codes "outputs") (list_type process_output) (not_free (codes "outputs") refl refl) refl)
      (list_read process_output output_in output_read))
      (λ outputs. then_reads _ _
      (optional_read es (codes "consoleOutput") path_type path_in
      (at (codes "consoleOutput") path_type (not_free (codes "consoleOutput") refl refl) refl) path_read)
      (λ console. then_reads _ _
      (optional_list_read es (codes "environmentVariables") (list_type variable) variables_in
      (at (codes "environmentVariables") (list_type variable) (not_free (codes "environmentVariables") refl refl) refl) variables_read)
      (λ variables. tt)))

-- a member whose looked at fields fit
abbrev Fitting : MemberData → Type 0
Fitting m = (o : MemberData) × Among (members_of executed) o × (member_fits (without_free m) o ≡ true)

fitting_row
    : (row : FieldRow) (o : MemberData) → (Objects (to_fields executed_fields) ≡ o) ⊎ ⊥
    → member_fits (without_free (Objects row)) o ≡ true
    → fields_fit (to_fields (filter (λ h. not (is_free_field h)) (field_list row))) executed_fields ≡ true
unfolding member_fits
fitting_row row o (inl is) e =
    let at : member_fits (without_free (Objects row)) (Objects (to_fields executed_fields)) ≡ true
    = ap (λ n. member_fits (without_free (Objects row)) n) is ∙ e in
    subst (λ gs. fields_fit (to_fields (filter (λ h. not (is_free_field h)) (field_list row))) gs ≡ true) (row_again executed_fields)
    (and_left (fields_fit (to_fields (filter (λ h. not (is_free_field h)) (field_list row))) (field_list (to_fields executed_fields)))
    (are_required (field_list (to_fields executed_fields)) (field_list (to_fields (filter (λ h. not (is_free_field h)) (field_list row)))))
    at)
fitting_row row o (inr none) e = absurd none

no_fit : (m o : MemberData) → (Objects (to_fields executed_fields) ≡ o) ⊎ ⊥ → member_fits m (Objects (to_fields executed_fields)) ≡ false
    → member_fits m o ≡ true → ⊥
no_fit m o (inl is) differs e = let wrong : false ≡ true = sym differs ∙ ap (member_fits m) is ∙ e in absurd cc
no_fit m o (inr none) differs e = absurd none

member_read : (x : Plain) (m : MemberData) → IsOf x m → Fitting m → Reads (request_in x)
unfolding request_in member_fits
member_read x (Values k) h (o, a, e) = absurd (no_fit (Values k) o a refl e)
member_read x (Lists item) h (o, a, e) = absurd (no_fit (Lists item) o a refl e)
member_read x (Objects row) h (o, a, e) =
    let v = objects_hold x row h in
    let fit = fitting_row row o a e in
    subst (λ y. Reads (request_in y)) (sym v.2)
    (fields_read (codes "tool" ∷ []) optional_fields _ v.0 v.1
    (then_reads (taken_in (member_list v.1)) _
    (taken_read (member_list v.1) (λ name t free is. looked_at_is (member_list v.1) row name t v.3 fit free is))
    (λ taken. then_reads (made_in (member_list v.1)) _
    (made_read (member_list v.1) (λ name t free is. looked_at_is (member_list v.1) row name t v.3 fit free is))
    (λ made. tt))))

union_among : (ms : List MemberData) (m : MemberData) → Among ms m → Among (members_of (union_of ms)) m
unfolding union_of
union_among ms m a = subst (λ ns. Among ns m) (sym (again (set_of ms))) (among_set ms m a)
  where
    again : (ns : List MemberData) → members_of (Union (to_members ns)) ≡ ns
    again [] = refl
    again (n ∷ ns) = ap (λ ks. n ∷ ks) (again ns)

value_read
    : (x : Plain) (g : TypeData) → fits (union_of (map without_free (members_of g))) executed ≡ true → HasType x g
    → Reads (request_in x)
value_read x g fit h =
    let r = of_has x g h in
    member_read x r.0 r.2
    (fits_some_member (union_of (map without_free (members_of g))) executed (without_free r.0) fit
    (union_among (map without_free (members_of g)) (without_free r.0) (among_map without_free (members_of g) r.0 r.1)))

request_read
    : (args : List Plain) (given : List TypeData) → arguments_fit (executed ∷ []) (looked_at calls.Execute given) ≡ true
    → AllZip HasType args given → Reads (request_of args)
request_read [] given fit zip = tt
request_read (x ∷ args) [] fit zip = absurd zip
request_read (x ∷ args) (g ∷ given) fit zip =
    value_read x g (first_fit executed (union_of (map without_free (members_of g))) [] given fit).0 zip.0

pub process_read
    : (spec : Atoms) (pips : List Pip) (args : List Plain) (given : List TypeData)
    → arguments_fit (executed ∷ []) (looked_at calls.Execute given) ≡ true → AllZip HasType args given
    → Reads (asked_process spec pips args)
process_read spec pips args given fit zip =
    then_reads (request_of args) _ (request_read args given fit zip)
    (λ request. clash (process_of spec pips request.0 request.1))
  where
    clash_case : (d : ProcessDesc) (b : Bool) → Reads (cond b (Err BadArgument) (Ok d))
    clash_case d true = tt
    clash_case d false = tt

    clash : (d : ProcessDesc) → Reads (unless_clashing d)
    clash d = clash_case d (shares_exclusive d.outdirs || clashes_console d.console d.outs d.outdirs)
