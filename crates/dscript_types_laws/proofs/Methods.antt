-- Member functions of values of the types that have them.
use Rattle.std.proofs.Common.{◌≡◌, ℕ, ◌+◌, Bool, true, false, cond, List, [], ◌∷◌, length, map, Option, Some, None, Ok, Err}
use Rattle.std.proofs.Common.{refl, sym, subst}
use Rattle.std.specs.List.{AllByRecursion, AllZip, ends_with, list_any, starts_with}
use Rattle.std.specs.Prelude.{nat_eq, nat_le, nat_lt, slice_get}
use Rattle.bx_tree.specs.FileInputs.{input_path}
use Rattle.bx_tree.specs.Paths.{Atoms, same_path}
use Rattle.bx_tree.specs.declared.file_input.FileInput.{FileInput}
use Rattle.bx_tree.specs.declared.file_input.FileInput.TheVariants.{Made}
use Rattle.bx_path.specs.Joining.{join_of}
use Rattle.dscript_value.specs.Depths.{greatest_depth}
use Rattle.dscript_value.specs.declared.makers.TheConstants.{MAX_DEPTH}
use Rattle.dscript_value.specs.declared.parts.StaticDir.TheVariants as dirs
use Rattle.dscript_value.specs.Plain as plain
use Rattle.dscript_value.specs.Plain.{Plain, item_list-to_items, to_items}
use Rattle.dscript_sdk_values.specs.declared.fault.SdkFault.TheVariants.{BadArgument, BadPath, Range}
use Rattle.dscript_sdk_values.specs.declared.limits.TheConstants.{MAX_LIST_ITEMS}
use Rattle.dscript_sdk_values.specs.Answers.{list_answer}
use Rattle.dscript_sdk_values.specs.Arguments.{one_of}
use Rattle.dscript_sdk_values.specs.Kinds.{directory_in, path_in, text_in}
use Rattle.dscript_sdk_values.specs.Outcomes.{Outcome, ◌>>=◌, unless_none}
use Rattle.dscript_sdk_members.specs.Functions.{MemberFunction}
use Rattle.dscript_sdk_members.specs.PathMembers.{combine_path, change_extension, directory_function, path_function, with_extension}
use Rattle.dscript_sdk_members.specs.TextMembers.{has_text, pieces_after, split_by, split_text, text_function, text_test}
use Rattle.dscript_sdk_members.specs.declared.member.Member.{Member}
use Rattle.dscript_sdk_members.specs.declared.member.Member.TheVariants as members
use Rattle.dscript_sdk.specs.Members.{function_at}
use Rattle.dscript_sdk.specs.ProcessMembers.{declared_by, directories_of_kind, files_of_kind, output_directory, output_file, process_function}
use Rattle.dscript_sdk.specs.SealMembers.{seal_members}
use Rattle.dscript_sdk.specs.StaticMembers.{content, file_with, member_file, static_function}
use Rattle.dscript_sdk_pips.specs.States.{State as Calls}
use Rattle.dscript_types_meaning.specs.declared.kind.Kind.{Kind}
use Rattle.dscript_types_meaning.specs.declared.kind.Kind.TheVariants as kinds
use Rattle.dscript_types_meaning.specs.Types.{TypeData, kind_type, list_type}
use Rattle.dscript_types_meaning.specs.Fits.{fits}
use Rattle.dscript_types_meaning.specs.Operators.{boolean_type, text_type}
use Rattle.dscript_types_meaning.specs.Access.{Signature, arguments_fit, method_of_kind}
use Rattle.dscript_types_meaning.specs.Values.{HasType}
use Rattle.dscript_types_values.proofs.Fitting.{fits_kind, kind_has}
use Rattle.dscript_types_values.proofs.Joining.{listed_has}
use Rattle.dscript_types_values.proofs.KindForms.{IsKind}
use Rattle.dscript_types_laws.proofs.Comparing.{flag_has}
use Rattle.dscript_types_laws.proofs.Operating.{AnswersOf}

-- ## Lists that are answered

depth_case
    : (items : List Plain) (item : TypeData) (b : Bool) → AllByRecursion (λ x. HasType x item) items
    → AnswersOf (list_type item)
    (unless_none Range (cond b (Some (plain.Listed (greatest_depth items + 1) (to_items items))) None))
depth_case items item true h =
    listed_has (greatest_depth items + 1) (to_items items) item
    (subst (λ xs. AllByRecursion (λ x. HasType x item) xs) (sym (item_list-to_items items)) h)
depth_case items item false h = tt

length_case
    : (items : List Plain) (item : TypeData) (b : Bool) → AllByRecursion (λ x. HasType x item) items
    → AnswersOf (list_type item)
    (cond b (unless_none Range (cond (nat_lt (greatest_depth items) MAX_DEPTH)
    (Some (plain.Listed (greatest_depth items + 1) (to_items items))) None)) (Err Range))
length_case items item true h = depth_case items item (nat_lt (greatest_depth items) MAX_DEPTH) h
length_case items item false h = tt

-- a list of items of a type
pub list_answered
    : (items : List Plain) (item : TypeData) → AllByRecursion (λ x. HasType x item) items
    → AnswersOf (list_type item) (list_answer items)
list_answered items item h = length_case items item (nat_le (length items) MAX_LIST_ITEMS) h

each_text : (texts : List (List ℕ)) → AllByRecursion (λ x. HasType x text_type) (map plain.Text texts)
each_text [] = tt
each_text (text ∷ texts) = (kind_has kinds.String (plain.Text text) (text, refl), each_text texts)

each_file : (files : List FileInput) → AllByRecursion (λ x. HasType x (kind_type kinds.File)) (map plain.File files)
each_file [] = tt
each_file (file ∷ files) = (kind_has kinds.File (plain.File file) (file, refl), each_file files)

-- ## The one argument

first_fits
    : (t g : TypeData) (given : List TypeData) (b : Bool) → fits g t ≡ b → arguments_fit (t ∷ []) (g ∷ given) ≡ true
    → fits g t ≡ true
first_fits t g given true is e = is
first_fits t g given false is e = absurd (let no : false ≡ true = rw (is, arguments_fit) at e in cc)

pub text_argument
    : (a : TypeData) (args : List Plain) (given : List TypeData) (f : List ℕ → Outcome Plain)
    → arguments_fit (text_type ∷ []) given ≡ true → AllZip HasType args given → ((y : List ℕ) → AnswersOf a (f y))
    → AnswersOf a (one_of args >>= text_in >>= f)
text_argument a [] given f fit zip answers = tt
text_argument a (x ∷ args) [] f fit zip answers = absurd zip
text_argument a (x ∷ args) (g ∷ given) f fit zip answers =
    let v = fits_kind x g kinds.String (first_fits text_type g given (fits g text_type) refl fit) zip.0 in
    subst (λ y. AnswersOf a (text_in y >>= f)) (sym v.1) (answers v.0)

path_argument
    : (a : TypeData) (args : List Plain) (given : List TypeData) (f : Atoms → Outcome Plain)
    → arguments_fit ((kind_type kinds.Path) ∷ []) given ≡ true → AllZip HasType args given → ((y : Atoms) → AnswersOf a (f y))
    → AnswersOf a (one_of args >>= path_in >>= f)
path_argument a [] given f fit zip answers = tt
path_argument a (x ∷ args) [] f fit zip answers = absurd zip
path_argument a (x ∷ args) (g ∷ given) f fit zip answers =
    let v = fits_kind x g kinds.Path (first_fits (kind_type kinds.Path) g given (fits g (kind_type kinds.Path)) refl fit) zip.0 in
    subst (λ y. AnswersOf a (path_in y >>= f)) (sym v.1) (answers v.0)

directory_argument
    : (a : TypeData) (args : List Plain) (given : List TypeData) (f : Atoms → Outcome Plain)
    → arguments_fit ((kind_type kinds.Directory) ∷ []) given ≡ true → AllZip HasType args given → ((y : Atoms) → AnswersOf a (f y))
    → AnswersOf a (one_of args >>= directory_in >>= f)
directory_argument a [] given f fit zip answers = tt
directory_argument a (x ∷ args) [] f fit zip answers = absurd zip
directory_argument a (x ∷ args) (g ∷ given) f fit zip answers =
    let v = fits_kind x g kinds.Directory (first_fits (kind_type kinds.Directory) g given (fits g (kind_type kinds.Directory)) refl fit) zip.0 in
    subst (λ y. AnswersOf a (directory_in y >>= f)) (sym v.1) (answers v.0)

-- ## What is answered

path_or_none : (o : Option Atoms) → AnswersOf (kind_type kinds.Path) (unless_none BadPath o >>= λ to. Ok (plain.Path to))
path_or_none None = tt
path_or_none (Some to) = kind_has kinds.Path (plain.Path to) (to, refl)

file_or_none
    : (o : Option FileInput) → AnswersOf (kind_type kinds.File) (unless_none BadArgument o >>= λ file. Ok (plain.File file))
file_or_none None = tt
file_or_none (Some file) = kind_has kinds.File (plain.File file) (file, refl)

pieces : (text separator : List ℕ) → AnswersOf (list_type text_type) (split_by text separator)
pieces text [] = tt
pieces text (b ∷ bs) = list_answered (map plain.Text (pieces_after (b ∷ bs) 0 text)) text_type (each_text (pieces_after (b ∷ bs) 0 text))

made_file : (path : Atoms) (number : ℕ) (b : Bool)
    → AnswersOf (kind_type kinds.File) (cond b (Ok (plain.File (Made path number))) (Err BadArgument))
made_file path number true = kind_has kinds.File (plain.File (Made path number)) (Made path number, refl)
made_file path number false = tt

made_directory : (dir : Atoms) (number : ℕ) (b : Bool)
    → AnswersOf (kind_type kinds.Opaque) (cond b (Ok (plain.Static (dirs.Opaque number dir))) (Err BadArgument))
made_directory dir number true = kind_has kinds.Opaque (plain.Static (dirs.Opaque number dir)) (number, dir, refl)
made_directory dir number false = tt

-- ## Kinds

-- the member function that a value of a kind has, and what it answers
abbrev pub HasMethod : Calls → Member → Plain → Signature → Type 0
HasMethod calls m x s =
    (f : MemberFunction) × (function_at calls m x ≡ Some f)
    × ((args : List Plain) (given : List TypeData) → arguments_fit s.takes given ≡ true → AllZip HasType args given
    → AnswersOf s.answers (f args))

method_as : (calls : Calls) (m : Member) (x : Plain) (s q : Signature) → Some s ≡ Some q → HasMethod calls m x s → HasMethod calls m x q
method_as calls m x s q e h = let same : s ≡ q = cc in subst (λ r. HasMethod calls m x r) same h

pub method_kind_has
    : (k : Kind) (m : Member) (s : Signature) (x : Plain) (calls : Calls) → method_of_kind k m ≡ Some s → IsKind k x
    → HasMethod calls m x s
unfolding text_function path_function directory_function static_function process_function
method_kind_has kinds.Undefined m s x calls e h = absurd cc
method_kind_has kinds.Boolean m s x calls e h = absurd cc
method_kind_has kinds.Number m s x calls e h = absurd cc
method_kind_has kinds.String members.Length s x calls e h = absurd cc
method_kind_has kinds.String members.Contains s x calls e h =
    subst (λ y. HasMethod calls members.Contains y s) (sym h.1)
    (method_as calls members.Contains (plain.Text h.0) _ s e
    (text_test has_text h.0, refl, λ args given fit zip. text_argument boolean_type args given _ fit zip (λ other. flag_has (has_text h.0 other))))
method_kind_has kinds.String members.StartsWith s x calls e h =
    subst (λ y. HasMethod calls members.StartsWith y s) (sym h.1)
    (method_as calls members.StartsWith (plain.Text h.0) _ s e
    (text_test (starts_with nat_eq) h.0, refl, λ args given fit zip. text_argument boolean_type args given _ fit zip (λ other. flag_has ((starts_with nat_eq) h.0 other))))
method_kind_has kinds.String members.EndsWith s x calls e h =
    subst (λ y. HasMethod calls members.EndsWith y s) (sym h.1)
    (method_as calls members.EndsWith (plain.Text h.0) _ s e
    (text_test (ends_with nat_eq) h.0, refl, λ args given fit zip. text_argument boolean_type args given _ fit zip (λ other. flag_has ((ends_with nat_eq) h.0 other))))
method_kind_has kinds.String members.Split s x calls e h =
    subst (λ y. HasMethod calls members.Split y s) (sym h.1)
    (method_as calls members.Split (plain.Text h.0) _ s e
    (split_text h.0, refl, λ args given fit zip. text_argument (list_type text_type) args given _ fit zip (pieces h.0)))
method_kind_has kinds.String members.Concat s x calls e h = absurd cc
method_kind_has kinds.String members.Join s x calls e h = absurd cc
method_kind_has kinds.String members.Map s x calls e h = absurd cc
method_kind_has kinds.String members.Filter s x calls e h = absurd cc
method_kind_has kinds.String members.MapMany s x calls e h = absurd cc
method_kind_has kinds.String members.Reduce s x calls e h = absurd cc
method_kind_has kinds.String members.Name s x calls e h = absurd cc
method_kind_has kinds.String members.Parent s x calls e h = absurd cc
method_kind_has kinds.String members.Path s x calls e h = absurd cc
method_kind_has kinds.String members.Combine s x calls e h = absurd cc
method_kind_has kinds.String members.ChangeExtension s x calls e h = absurd cc
method_kind_has kinds.String members.Root s x calls e h = absurd cc
method_kind_has kinds.String members.GetFile s x calls e h = absurd cc
method_kind_has kinds.String members.GetContent s x calls e h = absurd cc
method_kind_has kinds.String members.GetOutputFile s x calls e h = absurd cc
method_kind_has kinds.String members.GetOutputDirectory s x calls e h = absurd cc
method_kind_has kinds.Path members.Length s x calls e h = absurd cc
method_kind_has kinds.Path members.Contains s x calls e h = absurd cc
method_kind_has kinds.Path members.StartsWith s x calls e h = absurd cc
method_kind_has kinds.Path members.EndsWith s x calls e h = absurd cc
method_kind_has kinds.Path members.Split s x calls e h = absurd cc
method_kind_has kinds.Path members.Concat s x calls e h = absurd cc
method_kind_has kinds.Path members.Join s x calls e h = absurd cc
method_kind_has kinds.Path members.Map s x calls e h = absurd cc
method_kind_has kinds.Path members.Filter s x calls e h = absurd cc
method_kind_has kinds.Path members.MapMany s x calls e h = absurd cc
method_kind_has kinds.Path members.Reduce s x calls e h = absurd cc
method_kind_has kinds.Path members.Name s x calls e h = absurd cc
method_kind_has kinds.Path members.Parent s x calls e h = absurd cc
method_kind_has kinds.Path members.Path s x calls e h = absurd cc
method_kind_has kinds.Path members.Combine s x calls e h =
    subst (λ y. HasMethod calls members.Combine y s) (sym h.1)
    (method_as calls members.Combine (plain.Path h.0) _ s e
    (combine_path h.0, refl, λ args given fit zip. text_argument (kind_type kinds.Path) args given _ fit zip (λ text. path_or_none (join_of h.0 text))))
method_kind_has kinds.Path members.ChangeExtension s x calls e h =
    subst (λ y. HasMethod calls members.ChangeExtension y s) (sym h.1)
    (method_as calls members.ChangeExtension (plain.Path h.0) _ s e
    (change_extension h.0, refl, λ args given fit zip. text_argument (kind_type kinds.Path) args given _ fit zip (λ text. path_or_none (with_extension h.0 text))))
method_kind_has kinds.Path members.Root s x calls e h = absurd cc
method_kind_has kinds.Path members.GetFile s x calls e h = absurd cc
method_kind_has kinds.Path members.GetContent s x calls e h = absurd cc
method_kind_has kinds.Path members.GetOutputFile s x calls e h = absurd cc
method_kind_has kinds.Path members.GetOutputDirectory s x calls e h = absurd cc
method_kind_has kinds.File members.Length s x calls e h = absurd cc
method_kind_has kinds.File members.Contains s x calls e h = absurd cc
method_kind_has kinds.File members.StartsWith s x calls e h = absurd cc
method_kind_has kinds.File members.EndsWith s x calls e h = absurd cc
method_kind_has kinds.File members.Split s x calls e h = absurd cc
method_kind_has kinds.File members.Concat s x calls e h = absurd cc
method_kind_has kinds.File members.Join s x calls e h = absurd cc
method_kind_has kinds.File members.Map s x calls e h = absurd cc
method_kind_has kinds.File members.Filter s x calls e h = absurd cc
method_kind_has kinds.File members.MapMany s x calls e h = absurd cc
method_kind_has kinds.File members.Reduce s x calls e h = absurd cc
method_kind_has kinds.File members.Name s x calls e h = absurd cc
method_kind_has kinds.File members.Parent s x calls e h = absurd cc
method_kind_has kinds.File members.Path s x calls e h = absurd cc
method_kind_has kinds.File members.Combine s x calls e h =
    subst (λ y. HasMethod calls members.Combine y s) (sym h.1)
    (method_as calls members.Combine (plain.File h.0) _ s e
    (combine_path (input_path h.0), refl, λ args given fit zip. text_argument (kind_type kinds.Path) args given _ fit zip (λ text. path_or_none (join_of (input_path h.0) text))))
method_kind_has kinds.File members.ChangeExtension s x calls e h =
    subst (λ y. HasMethod calls members.ChangeExtension y s) (sym h.1)
    (method_as calls members.ChangeExtension (plain.File h.0) _ s e
    (change_extension (input_path h.0), refl, λ args given fit zip. text_argument (kind_type kinds.Path) args given _ fit zip (λ text. path_or_none (with_extension (input_path h.0) text))))
method_kind_has kinds.File members.Root s x calls e h = absurd cc
method_kind_has kinds.File members.GetFile s x calls e h = absurd cc
method_kind_has kinds.File members.GetContent s x calls e h = absurd cc
method_kind_has kinds.File members.GetOutputFile s x calls e h = absurd cc
method_kind_has kinds.File members.GetOutputDirectory s x calls e h = absurd cc
method_kind_has kinds.Directory members.Length s x calls e h = absurd cc
method_kind_has kinds.Directory members.Contains s x calls e h = absurd cc
method_kind_has kinds.Directory members.StartsWith s x calls e h = absurd cc
method_kind_has kinds.Directory members.EndsWith s x calls e h = absurd cc
method_kind_has kinds.Directory members.Split s x calls e h = absurd cc
method_kind_has kinds.Directory members.Concat s x calls e h = absurd cc
method_kind_has kinds.Directory members.Join s x calls e h = absurd cc
method_kind_has kinds.Directory members.Map s x calls e h = absurd cc
method_kind_has kinds.Directory members.Filter s x calls e h = absurd cc
method_kind_has kinds.Directory members.MapMany s x calls e h = absurd cc
method_kind_has kinds.Directory members.Reduce s x calls e h = absurd cc
method_kind_has kinds.Directory members.Name s x calls e h = absurd cc
method_kind_has kinds.Directory members.Parent s x calls e h = absurd cc
method_kind_has kinds.Directory members.Path s x calls e h = absurd cc
method_kind_has kinds.Directory members.Combine s x calls e h =
    subst (λ y. HasMethod calls members.Combine y s) (sym h.1)
    (method_as calls members.Combine (plain.Directory h.0) _ s e
    (combine_path h.0, refl, λ args given fit zip. text_argument (kind_type kinds.Path) args given _ fit zip (λ text. path_or_none (join_of h.0 text))))
method_kind_has kinds.Directory members.ChangeExtension s x calls e h = absurd cc
method_kind_has kinds.Directory members.Root s x calls e h = absurd cc
method_kind_has kinds.Directory members.GetFile s x calls e h = absurd cc
method_kind_has kinds.Directory members.GetContent s x calls e h = absurd cc
method_kind_has kinds.Directory members.GetOutputFile s x calls e h = absurd cc
method_kind_has kinds.Directory members.GetOutputDirectory s x calls e h = absurd cc
method_kind_has kinds.RelativePath m s x calls e h = absurd cc
method_kind_has kinds.PathAtom m s x calls e h = absurd cc
method_kind_has kinds.Seal members.Length s x calls e h = absurd cc
method_kind_has kinds.Seal members.Contains s x calls e h = absurd cc
method_kind_has kinds.Seal members.StartsWith s x calls e h = absurd cc
method_kind_has kinds.Seal members.EndsWith s x calls e h = absurd cc
method_kind_has kinds.Seal members.Split s x calls e h = absurd cc
method_kind_has kinds.Seal members.Concat s x calls e h = absurd cc
method_kind_has kinds.Seal members.Join s x calls e h = absurd cc
method_kind_has kinds.Seal members.Map s x calls e h = absurd cc
method_kind_has kinds.Seal members.Filter s x calls e h = absurd cc
method_kind_has kinds.Seal members.MapMany s x calls e h = absurd cc
method_kind_has kinds.Seal members.Reduce s x calls e h = absurd cc
method_kind_has kinds.Seal members.Name s x calls e h = absurd cc
method_kind_has kinds.Seal members.Parent s x calls e h = absurd cc
method_kind_has kinds.Seal members.Path s x calls e h = absurd cc
method_kind_has kinds.Seal members.Combine s x calls e h = absurd cc
method_kind_has kinds.Seal members.ChangeExtension s x calls e h = absurd cc
method_kind_has kinds.Seal members.Root s x calls e h = absurd cc
method_kind_has kinds.Seal members.GetFile s x calls e h =
    subst (λ y. HasMethod calls members.GetFile y s) (sym h.2)
    (method_as calls members.GetFile (plain.Static (dirs.Seal h.0 h.1)) _ s e
    (member_file calls h.0, refl, λ args given fit zip. path_argument (kind_type kinds.File) args given _ fit zip (λ path. file_or_none (file_with path (seal_members calls h.0)))))
method_kind_has kinds.Seal members.GetContent s x calls e h =
    subst (λ y. HasMethod calls members.GetContent y s) (sym h.2)
    (method_as calls members.GetContent (plain.Static (dirs.Seal h.0 h.1)) _ s e
    (content calls h.0, refl, λ args given fit zip. list_answered (map plain.File (seal_members calls h.0)) (kind_type kinds.File) (each_file (seal_members calls h.0))))
method_kind_has kinds.Seal members.GetOutputFile s x calls e h = absurd cc
method_kind_has kinds.Seal members.GetOutputDirectory s x calls e h = absurd cc
method_kind_has kinds.Opaque m s x calls e h = absurd cc
method_kind_has kinds.Process members.Length s x calls e h = absurd cc
method_kind_has kinds.Process members.Contains s x calls e h = absurd cc
method_kind_has kinds.Process members.StartsWith s x calls e h = absurd cc
method_kind_has kinds.Process members.EndsWith s x calls e h = absurd cc
method_kind_has kinds.Process members.Split s x calls e h = absurd cc
method_kind_has kinds.Process members.Concat s x calls e h = absurd cc
method_kind_has kinds.Process members.Join s x calls e h = absurd cc
method_kind_has kinds.Process members.Map s x calls e h = absurd cc
method_kind_has kinds.Process members.Filter s x calls e h = absurd cc
method_kind_has kinds.Process members.MapMany s x calls e h = absurd cc
method_kind_has kinds.Process members.Reduce s x calls e h = absurd cc
method_kind_has kinds.Process members.Name s x calls e h = absurd cc
method_kind_has kinds.Process members.Parent s x calls e h = absurd cc
method_kind_has kinds.Process members.Path s x calls e h = absurd cc
method_kind_has kinds.Process members.Combine s x calls e h = absurd cc
method_kind_has kinds.Process members.ChangeExtension s x calls e h = absurd cc
method_kind_has kinds.Process members.Root s x calls e h = absurd cc
method_kind_has kinds.Process members.GetFile s x calls e h = absurd cc
method_kind_has kinds.Process members.GetContent s x calls e h = absurd cc
method_kind_has kinds.Process members.GetOutputFile s x calls e h =
    subst (λ y. HasMethod calls members.GetOutputFile y s) (sym h.1)
    (method_as calls members.GetOutputFile (plain.Process h.0) _ s e
    (output_file calls h.0, refl, λ args given fit zip. path_argument (kind_type kinds.File) args given _ fit zip (λ path. made_file path h.0 (list_any (same_path path) (declared_by files_of_kind (slice_get calls.pips h.0))))))
method_kind_has kinds.Process members.GetOutputDirectory s x calls e h =
    subst (λ y. HasMethod calls members.GetOutputDirectory y s) (sym h.1)
    (method_as calls members.GetOutputDirectory (plain.Process h.0) _ s e
    (output_directory calls h.0, refl, λ args given fit zip. directory_argument (kind_type kinds.Opaque) args given _ fit zip (λ dir. made_directory dir h.0 (list_any (same_path dir) (declared_by directories_of_kind (slice_get calls.pips h.0))))))
method_kind_has kinds.Artifact m s x calls e h = absurd cc
method_kind_has kinds.Argument m s x calls e h = absurd cc
