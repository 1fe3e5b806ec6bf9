-- What the members of values that are made give is made.
use Rattle.std.proofs.Common.{◌≡◌, ℕ, Bool, true, cond, List, [], ◌∷◌, ◌++◌, length, map, take, Option, Some, None, Ok, Err}
use Rattle.std.proofs.Common.{suc, refl, sym, inl, inr, arith}
use Rattle.std.specs.Prelude.{Any as AnyOf, IsSomeAnd, find, slice_get}
use Rattle.std.specs.List.{AllByRecursion, list_any}
use Rattle.std.proofs.lemmas.Bool.{or_cases}
use Rattle.std.proofs.lemmas.List.Elements.{recursion_from_All}
use Rattle.bx_tree.specs.Members.{Has}
use Rattle.bx_tree.specs.Orders.{same_path_decides}
use Rattle.bx_tree.specs.Paths.{Atoms, same_path}
use Rattle.bx_tree.specs.FileInputs.{input_path}
use Rattle.bx_tree.specs.declared.file_input.FileInput.{FileInput}
use Rattle.bx_tree.specs.declared.file_input.FileInput.TheVariants.{Source, Made}
use Rattle.bx_tree.proofs.Lists.{all_append, all_weaker}
use Rattle.bx_tree.proofs.Sets.{contains_has}
use Rattle.bx_path.specs.Joining.{join_of, parent}
use Rattle.pip_model_types.specs.Makers.{HasOutDir, IsFileAmong, MakesFile, NamesAmong}
use Rattle.pip_model_types.specs.declared.dir_inputs.SealForm.{SealForm}
use Rattle.pip_model_types.specs.declared.dir_inputs.SealForm.TheVariants as forms
use Rattle.pip_model_types.specs.declared.outputs.OutDir.{OutDir}
use Rattle.pip_model_types.specs.declared.pip.Pip.{Pip}
use Rattle.pip_model_types.specs.declared.pip.PipKind.{PipKind}
use Rattle.pip_model_types.specs.declared.pip.PipKind.TheVariants as kinds
use Rattle.dscript_value.specs.declared.parts.Callee.TheVariants as callees
use Rattle.dscript_value.specs.declared.parts.StaticDir.{StaticDir}
use Rattle.dscript_value.specs.declared.parts.StaticDir.TheVariants as dirs
use Rattle.dscript_value.specs.Depths.{field_at}
use Rattle.dscript_value.specs.Plain as plain
use Rattle.dscript_value.specs.Plain.{Plain, item_list, member_list}
use Rattle.dscript_sdk_values.specs.declared.fault.SdkFault.TheVariants.{BadArgument, BadPath, Range}
use Rattle.dscript_sdk_values.specs.Answers.{function_answer, list_answer, text_answer}
use Rattle.dscript_sdk_values.specs.Arguments.{one_of}
use Rattle.dscript_sdk_values.specs.Kinds.{directory_in, each_in, items_in, path_in, text_in}
use Rattle.dscript_sdk_values.specs.Outcomes.{Outcome, ◌>>=◌, unless_none}
use Rattle.dscript_sdk_members.specs.Functions.{MemberFunction}
use Rattle.dscript_sdk_members.specs.ListMembers.{has_equal, list_function, list_property, separated_texts}
use Rattle.dscript_sdk_members.specs.Names.{member_named}
use Rattle.dscript_sdk_members.specs.PathMembers.{any_path_property, directory_function, file_property, last_atom}
use Rattle.dscript_sdk_members.specs.PathMembers.{path_function, with_extension}
use Rattle.dscript_sdk_members.specs.TextMembers.{pieces_after, split_by, text_function, text_property}
use Rattle.dscript_sdk_members.specs.declared.member.Member.{Member}
use Rattle.dscript_sdk_members.specs.declared.member.Member.TheVariants as members
use Rattle.dscript_sdk_calls.specs.Sources.{directly_in}
use Rattle.dscript_sdk_calls.specs.declared.tree_ask.TreeAsk.{TreeAsk}
use Rattle.dscript_sdk_calls.specs.declared.tree_ask.TreeAsk.TheVariants.{Below}
use Rattle.dscript_sdk.specs.Members.{answer_with, call_of_member, function_ask_named, function_at, function_named}
use Rattle.dscript_sdk.specs.Members.{is_function_of, member_answer, member_of, method_answer, method_of, or_else, own_member}
use Rattle.dscript_sdk.specs.Members.{property_at, property_or_missing}
use Rattle.dscript_sdk.specs.ProcessMembers.{declared_by, directories_of_kind, files_of_kind, process_function}
use Rattle.dscript_sdk.specs.SealMembers.{held_by, held_by_kind, held_by_pip, seal_members}
use Rattle.dscript_sdk.specs.StaticMembers.{file_with, seal_function, static_function, static_property}
use Rattle.dscript_sdk_pips.specs.States.{State}
use Rattle.dscript_eval_laws.proofs.MadeCalls.{Changes, none_changed}
use Rattle.dscript_eval_laws.proofs.MadeOutcomes.{Any, If, IfThere, and_then, anything, chosen, decided, either}
use Rattle.dscript_eval_laws.proofs.MadeOutcomes.{files_made, function_answered, in_list, list_answered}
use Rattle.dscript_eval_laws.proofs.MadeOutcomes.{number_answered, one_made, text_answered, texts_made, there_made}
use Rattle.dscript_eval_laws.proofs.MadeOutcomes.{there_or, unless_there}
use Rattle.dscript_eval_laws.proofs.MadeValues.{AllFit, AreMade, IsMade, front_grows, items_made}
use Rattle.dscript_eval_laws.proofs.MadeValues.{members_made, no_growth, still_file}

-- ## What a process declares

has_same : (path : Atoms) (paths : List Atoms) → list_any (same_path path) paths ≡ true → Has paths path
has_same path [] e = absurd cc
has_same path (p ∷ ps) e = elim (or_cases (same_path path p) (list_any (same_path path) ps) e) [
  | inl same ↦ inl (sym ((same_path_decides path p).0 same))
  | inr more ↦ inr (has_same path ps more)
]

any_dir
    : (path : Atoms) (outdirs : List OutDir) → Has (map (λ (dir : OutDir). dir.path) outdirs) path
    → AnyOf (λ (o : OutDir). o.path ≡ path) outdirs
any_dir path [] h = absurd h
any_dir path (o ∷ os) h = elim h [
  | inl here ↦ (0, o, omega arith, refl, here)
  | inr later ↦ let rest = any_dir path os later in (suc rest.0, rest.1, omega (arith, rest.2), rest.3, rest.4)
]

declared_file
    : (path : Atoms) (kind : PipKind) → list_any (same_path path) (files_of_kind kind) ≡ true
    → MakesFile path kind
declared_file path (kinds.Process d) e = contains_has d.outs path (has_same path d.outs e)
declared_file path (kinds.Copy d) e = absurd cc
declared_file path (kinds.Write d) e = absurd cc
declared_file path (kinds.Seal d) e = absurd cc

declared_dir
    : (path : Atoms) (kind : PipKind) → list_any (same_path path) (directories_of_kind kind) ≡ true
    → HasOutDir path kind
declared_dir path (kinds.Process d) e =
    any_dir path d.outdirs (has_same path (map (λ (dir : OutDir). dir.path) d.outdirs) e)
declared_dir path (kinds.Copy d) e = absurd cc
declared_dir path (kinds.Write d) e = absurd cc
declared_dir path (kinds.Seal d) e = absurd cc

declared_at
    : (what : PipKind → List Atoms) (P : PipKind → Type 0) (path : Atoms)
    → ((kind : PipKind) → list_any (same_path path) (what kind) ≡ true → P kind) → (o : Option Pip)
    → list_any (same_path path) (declared_by what o) ≡ true → IsSomeAnd o (λ (pip : Pip). P pip.kind)
declared_at what P path declares None e = absurd cc
declared_at what P path declares (Some pip) e = declares pip.kind e

module _ (F : ℕ → ℕ → Type 0) where
  module _ (s : State) (fit : AllFit s.pips) where
    abbrev Good : Plain → Type 0
    Good = IsMade F s.pips

    -- ## Seals

    sources_made : (paths : List Atoms) → AllByRecursion (IsFileAmong s.pips) (map Source paths)
    sources_made [] = tt
    sources_made (path ∷ paths) = (tt, sources_made paths)

    by_form
        : (form : SealForm) (root : Atoms) (files : List FileInput)
        → AllByRecursion (IsFileAmong s.pips) files
        → AllByRecursion (IsFileAmong s.pips) (held_by s.answers form root files)
    by_form forms.Full root files h = h
    by_form forms.Partial root files h = h
    by_form forms.SourceTop root files h = sources_made (directly_in root (s.answers (Below root)))
    by_form forms.SourceAll root files h = sources_made (s.answers (Below root))

    by_kind
        : (number : ℕ) (kind : PipKind) → NamesAmong (take number s.pips) kind
        → AllByRecursion (IsFileAmong s.pips) (held_by_kind s.answers kind)
    by_kind number (kinds.Seal d) h =
        by_form d.form d.root d.files
        (all_weaker (IsFileAmong (take number s.pips)) (IsFileAmong s.pips)
        (still_file (take number s.pips) s.pips (front_grows number s.pips)) d.files
        (recursion_from_All (IsFileAmong (take number s.pips)) d.files h))
    by_kind number (kinds.Process d) h = tt
    by_kind number (kinds.Copy d) h = tt
    by_kind number (kinds.Write d) h = tt

    by_pip
        : (number : ℕ) (o : Option Pip) → slice_get s.pips number ≡ o
        → AllByRecursion (IsFileAmong s.pips) (held_by_pip s.answers o)
    by_pip number None e = tt
    by_pip number (Some pip) e = by_kind number pip.kind (fit number pip e)

    seal_made : (number : ℕ) → AllByRecursion (IsFileAmong s.pips) (seal_members s number)
    seal_made number = by_pip number (slice_get s.pips number) refl

    found_made
        : (test : FileInput → Bool) (files : List FileInput) → AllByRecursion (IsFileAmong s.pips) files
        → IfThere (IsFileAmong s.pips) (find test files)
    found_made test [] h = tt
    found_made test (file ∷ files) h =
        either (IfThere (IsFileAmong s.pips)) (test file) (Some file) (find test files) h.0
        (found_made test files h.1)

    -- ## Member functions

    abbrev IsFunctionMade : Option MemberFunction → Type 0
    IsFunctionMade None = Unit {0}
    IsFunctionMade (Some function) = (args : List Plain) → AreMade F s.pips args → If Good (function args)

    -- what is made whatever the argument says
    one_read
        : {A : Type 0} (read : Plain → Outcome A) (next : A → Outcome Plain) → ((x : A) → If Good (next x))
        → (args : List Plain) → If Good (one_of args >>= read >>= next)
    one_read {A = A} read next gives args =
        and_then (Any A) Good (one_of args >>= read) next (anything (one_of args >>= read)) (λ x k. gives x)

    split_made : (text other : List ℕ) → If Good (split_by text other)
    split_made text [] = tt
    split_made text (b ∷ bs) =
        list_answered F s.pips (map plain.Text (pieces_after (b ∷ bs) 0 text))
        (texts_made F s.pips (pieces_after (b ∷ bs) 0 text))

    text_functions : (m : Member) (text : List ℕ) → IsFunctionMade (text_function m text)
    unfolding text_function
    text_functions members.Contains text = λ args h. one_read text_in _ (λ other. tt) args
    text_functions members.StartsWith text = λ args h. one_read text_in _ (λ other. tt) args
    text_functions members.EndsWith text = λ args h. one_read text_in _ (λ other. tt) args
    text_functions members.Split text = λ args h. one_read text_in (split_by text) (split_made text) args
    text_functions _ text = tt

    joined_made
        : (items : List Plain) (separator : List ℕ)
        → If Good (each_in text_in items >>= λ texts. text_answer (separated_texts separator texts))
    joined_made items separator =
        and_then (Any (List (List ℕ))) Good (each_in text_in items) _ (anything (each_in text_in items))
        (λ texts k. text_answered F s.pips (separated_texts separator texts))

    concat_made
        : (items : List Plain) → AreMade F s.pips items → (args : List Plain) → AreMade F s.pips args
        → If Good (one_of args >>= items_in >>= λ more. list_answer (items ++ more))
    concat_made items all args h =
        and_then (AreMade F s.pips) Good (one_of args >>= items_in) _
        (and_then Good (AreMade F s.pips) (one_of args) items_in (one_made F s.pips args h) (in_list F s.pips))
        (λ more k. list_answered F s.pips (items ++ more) (all_append Good items more all k))

    list_functions : (m : Member) (items : List Plain) → AreMade F s.pips items → IsFunctionMade (list_function m items)
    unfolding list_function
    list_functions members.Concat items all = concat_made items all
    list_functions members.Contains items all = λ args h. one_read (has_equal items) _ (λ found. tt) args
    list_functions members.Join items all = λ args h. one_read text_in _ (joined_made items) args
    list_functions _ items all = tt

    to_path : (o : Option Atoms) → If Good (unless_none BadPath o >>= λ to. Ok (plain.Path to))
    to_path None = tt
    to_path (Some to) = tt

    path_functions : (m : Member) (path : Atoms) → IsFunctionMade (path_function m path)
    unfolding path_function
    path_functions members.Combine path = λ args h. one_read text_in _ (λ text. to_path (join_of path text)) args
    path_functions members.ChangeExtension path =
        λ args h. one_read text_in _ (λ text. to_path (with_extension path text)) args
    path_functions _ path = tt

    directory_functions : (m : Member) (path : Atoms) → IsFunctionMade (directory_function m path)
    unfolding directory_function
    directory_functions members.Combine path =
        λ args h. one_read text_in _ (λ text. to_path (join_of path text)) args
    directory_functions _ path = tt

    member_file_made
        : (number : ℕ) (path : Atoms)
        → If Good (unless_none BadArgument (file_with path (seal_members s number)) >>= λ file. Ok (plain.File file))
    member_file_made number path =
        let found = file_with path (seal_members s number) in
        and_then (IsFileAmong s.pips) Good (unless_none BadArgument found) _
        (unless_there (IsFileAmong s.pips) BadArgument found
        (found_made (λ file. same_path (input_path file) path) (seal_members s number) (seal_made number)))
        (λ file k. k)

    seal_functions : (m : Member) (number : ℕ) → IsFunctionMade (seal_function s m number)
    seal_functions members.GetFile number = λ args h. one_read path_in _ (member_file_made number) args
    seal_functions members.GetContent number =
        λ args h. list_answered F s.pips (map plain.File (seal_members s number))
        (files_made F s.pips (seal_members s number) (seal_made number))
    seal_functions _ number = tt

    static_functions : (m : Member) (dir : StaticDir) → IsFunctionMade (static_function s m dir)
    unfolding static_function
    static_functions m (dirs.Seal number path) = seal_functions m number
    static_functions m (dirs.Opaque number path) = tt

    output_file_made
        : (number : ℕ) (path : Atoms)
        → If Good (cond (list_any (same_path path) (declared_by files_of_kind (slice_get s.pips number)))
        (Ok (plain.File (Made path number))) (Err BadArgument))
    output_file_made number path =
        decided (If Good) (list_any (same_path path) (declared_by files_of_kind (slice_get s.pips number)))
        (Ok (plain.File (Made path number))) (Err BadArgument)
        (λ e. declared_at files_of_kind (MakesFile path) path (declared_file path) (slice_get s.pips number) e)
        (λ e. tt)

    output_directory_made
        : (number : ℕ) (dir : Atoms)
        → If Good (cond (list_any (same_path dir) (declared_by directories_of_kind (slice_get s.pips number)))
        (Ok (plain.Static (dirs.Opaque number dir))) (Err BadArgument))
    output_directory_made number dir =
        decided (If Good) (list_any (same_path dir) (declared_by directories_of_kind (slice_get s.pips number)))
        (Ok (plain.Static (dirs.Opaque number dir))) (Err BadArgument)
        (λ e. declared_at directories_of_kind (HasOutDir dir) dir (declared_dir dir) (slice_get s.pips number) e)
        (λ e. tt)

    process_functions : (m : Member) (number : ℕ) → IsFunctionMade (process_function s m number)
    unfolding process_function
    process_functions members.GetOutputFile number = λ args h. one_read path_in _ (output_file_made number) args
    process_functions members.GetOutputDirectory number =
        λ args h. one_read directory_in _ (output_directory_made number) args
    process_functions _ number = tt

    functions_made : (m : Member) (x : Plain) → Good x → IsFunctionMade (function_at s m x)
    functions_made m (plain.Text text) h = text_functions m text
    functions_made m (plain.Listed depth items) h = list_functions m (item_list items) (items_made F s.pips items h)
    functions_made m (plain.Path path) h = path_functions m path
    functions_made m (plain.File file) h = path_functions m (input_path file)
    functions_made m (plain.Directory path) h = directory_functions m path
    functions_made m (plain.Static dir) h = static_functions m dir
    functions_made m (plain.Process number) h = process_functions m number
    functions_made m _ h = tt

    -- ## Members that are no functions

    abbrev IsPropertyMade : Option (Outcome Plain) → Type 0
    IsPropertyMade None = Unit {0}
    IsPropertyMade (Some outcome) = If Good outcome

    text_properties : (m : Member) (text : List ℕ) → IsPropertyMade (text_property m text)
    unfolding text_property
    text_properties members.Length text = number_answered F s.pips (length text)
    text_properties _ text = tt

    list_properties : (m : Member) (items : List Plain) → IsPropertyMade (list_property m items)
    unfolding list_property
    list_properties members.Length items = number_answered F s.pips (length items)
    list_properties _ items = tt

    last_made : (o : Option (List ℕ)) → If Good (unless_none Range o >>= λ atom. Ok (plain.Atom atom))
    last_made None = tt
    last_made (Some atom) = tt

    parent_made : (o : Option Atoms) → If Good (unless_none Range o >>= λ dir. Ok (plain.Directory dir))
    parent_made None = tt
    parent_made (Some dir) = tt

    path_properties : (m : Member) (path : Atoms) → IsPropertyMade (any_path_property m path)
    unfolding any_path_property
    path_properties members.Name path = last_made (last_atom path)
    path_properties members.Parent path = parent_made (parent path)
    path_properties _ path = tt

    file_properties : (m : Member) (path : Atoms) → IsPropertyMade (file_property m path)
    unfolding file_property
    file_properties members.Path path = tt
    file_properties members.Name path = path_properties members.Name path
    file_properties members.Parent path = path_properties members.Parent path
    file_properties _ path = tt

    static_properties : (m : Member) (dir : StaticDir) → IsPropertyMade (static_property m dir)
    unfolding static_property
    static_properties members.Root dir = tt
    static_properties _ dir = tt

    properties_made : (m : Member) (x : Plain) → IsPropertyMade (property_at m x)
    properties_made m (plain.Text text) = text_properties m text
    properties_made m (plain.Listed depth items) = list_properties m (item_list items)
    properties_made m (plain.Path path) = path_properties m path
    properties_made m (plain.File file) = file_properties m (input_path file)
    properties_made m (plain.Directory path) = path_properties m path
    properties_made m (plain.Static dir) = static_properties m dir
    properties_made m _ = tt

    -- ## Members by name

    own_made : (x : Plain) (name : List ℕ) → Good x → IsPropertyMade (own_member x name)
    own_made plain.Undefined name h = tt
    own_made (plain.Object depth fields) name h =
        there_or Good (field_at (member_list fields) name) plain.Undefined
        (there_made F s.pips (member_list fields) name (members_made F s.pips fields h)) tt
    own_made _ name h = tt

    or_missing : (o : Option (Outcome Plain)) → IsPropertyMade o → If Good (property_or_missing o)
    or_missing None h = tt
    or_missing (Some outcome) h = h

    or_other
        : (o : Option (Outcome Plain)) (other : Outcome Plain) → IsPropertyMade o → If Good other
        → If Good (or_else o other)
    or_other None other h k = k
    or_other (Some outcome) other h k = h

    answer_made : (name : List ℕ) (x : Plain) (m : Option Member) → Good x → If Good (member_answer s name x m)
    answer_made name x None h = tt
    answer_made name x (Some m) h =
        chosen Good (is_function_of s m x) (function_answer (callees.Member name) (x ∷ []))
        (property_or_missing (property_at m x)) (function_answered F s.pips (callees.Member name) (x ∷ []) tt (h, tt))
        (or_missing (property_at m x) (properties_made m x))

    pub member_made : (x : Plain) (name : List ℕ) → Good x → If Good (member_of s x name)
    unfolding member_of
    member_made x name h =
        or_other (own_member x name) (member_answer s name x (member_named name)) (own_made x name h)
        (answer_made name x (member_named name) h)

    named_made : (x : Plain) (m : Option Member) → Good x → IsFunctionMade (function_named s x m)
    named_made x None h = tt
    named_made x (Some m) h = functions_made m x h

    called_made
        : (x : Plain) (name : List ℕ) (args : List Plain) → Good x → AreMade F s.pips args
        → (function : Option MemberFunction) → IsFunctionMade function
        → If Good (call_of_member s x name args function)
    called_made x name args h all None k =
        and_then Good Good (member_of s x name) _ (member_made x name h) (λ y l. tt)
    called_made x name args h all (Some function) k = k args all

    method_answered
        : (x : Plain) (name : List ℕ) (args : List Plain) → Good x → AreMade F s.pips args
        → If Good (method_answer s x name args)
    unfolding method_answer
    method_answered x name args h all =
        called_made x name args h all (function_named s x (member_named name)) (named_made x (member_named name) h)

    with_made : (ask : Option TreeAsk) (answer : Outcome Plain) → If Good answer → Changes F s (answer_with ask answer s)
    with_made None answer h = none_changed F answer s fit h
    with_made (Some ask) (Ok x) h = record { grows = no_growth s.pips; fit = fit; made = h }
    with_made (Some ask) (Err fault) h = tt

    pub method_made
        : (x : Plain) (name : List ℕ) (args : List Plain) → Good x → AreMade F s.pips args
        → Changes F s (method_of s x name args)
    unfolding method_of
    method_made x name args h all =
        with_made (function_ask_named s x (member_named name)) (method_answer s x name args) (method_answered x name args h all)
