-- Ambient calls at values that are made: each pip that they add fits, and what they give is made.
use Rattle.std.proofs.Common.{◌≡◌, ℕ, Bool, true, false, ◌&&◌, ◌||◌, List, [], ◌∷◌, ◌++◌, length, map, Option, Some, None, Ok, Err}
use Rattle.std.proofs.Common.{refl, subst, inl, inr}
use Rattle.std.specs.Fmt.{decimal, signed_decimal}
use Rattle.std.specs.Prelude.{IsSomeAnd, nat_le, nat_lt, slice_get, codes}
use Rattle.std.specs.List.{AllByRecursion, filter_map}
use Rattle.std.specs.BTreeSet.{insert_key}
use Rattle.std.specs.declared.cmp.Ordering.{Ordering}
use Rattle.std.proofs.lemmas.List.Elements.{All-from_recursion}
use Rattle.bx_tree.specs.Paths.{Atoms}
use Rattle.bx_tree.specs.FileInputs.{input_path}
use Rattle.bx_tree.specs.declared.file_input.FileInput.{FileInput}
use Rattle.bx_tree.specs.declared.file_input.FileInput.TheVariants.{Made}
use Rattle.bx_tree.proofs.Lists.{all_append}
use Rattle.bx_tree.proofs.Members.{all_has, has_all}
use Rattle.bx_tree.proofs.Sets.{contains_has, has_contained, has_insert}
use Rattle.bx_path.specs.Joining.{if_short}
use Rattle.pip_model_types.specs.Dirs.{dir_cmp}
use Rattle.pip_model_types.specs.Makers.{IsDirAmong, IsFileAmong, IsSealOf, MakesFile, NamesAmong}
use Rattle.pip_model_types.specs.declared.pip.CopyDesc.{CopyDesc}
use Rattle.pip_model_types.specs.declared.pip.Pip.{Pip}
use Rattle.pip_model_types.specs.declared.pip.PipKind.{PipKind}
use Rattle.pip_model_types.specs.declared.pip.PipKind.TheVariants as kinds
use Rattle.pip_model_types.specs.declared.pip.ProcessDesc.{ProcessDesc}
use Rattle.pip_model_types.specs.declared.pip.SealDesc.{SealDesc}
use Rattle.pip_model_types.specs.declared.pip.WriteDesc.{WriteDesc}
use Rattle.pip_model_types.specs.declared.dir_inputs.SealForm.{SealForm}
use Rattle.pip_model_types.specs.declared.dir_inputs.SealForm.TheVariants.{Full, Partial}
use Rattle.dscript_program.specs.declared.ambient.Ambient.{Ambient}
use Rattle.dscript_program.specs.declared.ambient.Ambient.TheVariants as calls
use Rattle.dscript_value.specs.declared.parts.ArgumentParts.{ArgumentParts as AnyArgument}
use Rattle.dscript_value.specs.declared.parts.Artifact.{Artifact as AnyArtifact}
use Rattle.dscript_value.specs.declared.parts.Artifact.TheVariants as artifacts
use Rattle.dscript_value.specs.declared.parts.StaticDir.{StaticDir}
use Rattle.dscript_value.specs.declared.parts.StaticDir.TheVariants as static_dirs
use Rattle.dscript_value.specs.Equality.{artifact_path}
use Rattle.dscript_value.specs.Plain as plain
use Rattle.dscript_value.specs.Plain.{Plain, PlainField}
use Rattle.dscript_sdk_values.specs.declared.fault.SdkFault.TheVariants.{BadArgument, BadPath, Memory, Range}
use Rattle.dscript_sdk_values.specs.declared.limits.TheConstants.{MAX_TEXT_BYTES}
use Rattle.dscript_sdk_values.specs.Arguments.{one_of, two_of}
use Rattle.dscript_sdk_values.specs.Kinds.{argument_in, directory_in, file_in, flag_in, list_in, path_in, text_in}
use Rattle.dscript_sdk_values.specs.Objects.{fields_in, field_in, optional_in, optional_list_in}
use Rattle.dscript_sdk_values.specs.Outcomes.{Outcome, ◌>>=◌, unless_none}
use Rattle.dscript_sdk_values.specs.PathTexts.{path_argument}
use Rattle.dscript_sdk_calls.specs.ArgumentTexts.{argument_after, text_argument}
use Rattle.dscript_sdk_calls.specs.ArtifactInput.{artifact_input, input_of as input_argument}
use Rattle.dscript_sdk_calls.specs.ArtifactNone.{artifact_none, plain_path_of}
use Rattle.dscript_sdk_calls.specs.ArtifactOutput.{artifact_output, output_of}
use Rattle.dscript_sdk_calls.specs.CmdArgument.{cmd_argument}
use Rattle.dscript_sdk_calls.specs.CmdFlag.{cmd_flag, flagged}
use Rattle.dscript_sdk_calls.specs.CmdOption.{cmd_option}
use Rattle.dscript_sdk_calls.specs.ContractAssert.{contract_assert, unless_true}
use Rattle.dscript_sdk_calls.specs.ContractFail.{contract_fail}
use Rattle.dscript_sdk_calls.specs.Globs.{asked_glob, found_files, glob_files, source_values}
use Rattle.dscript_sdk_calls.specs.Sources.{Answers}
use Rattle.dscript_sdk_calls.specs.declared.tree_ask.TreeAsk.{TreeAsk}
use Rattle.dscript_sdk_calls.specs.declared.tree_ask.TreeAsk.TheVariants.{Below}
use Rattle.dscript_sdk_execute.specs.declared.dependency.Dependency.{Dependency}
use Rattle.dscript_sdk_execute.specs.declared.dependency.Dependency.TheVariants as dependencies
use Rattle.dscript_sdk_execute.specs.Execute.{artifact_of, artifacts_of, asked_process, clashes_console, dir_input}
use Rattle.dscript_sdk_execute.specs.Execute.{execute, form_of_kind, form_of_pip, input_of, inputs, process_of}
use Rattle.dscript_sdk_execute.specs.Execute.{shares_exclusive, taken_dir, taken_file}
use Rattle.dscript_sdk_execute.specs.ExecuteObject.{Made as MadeParts, Taken, dependency_in, made_in, optional_fields}
use Rattle.dscript_sdk_execute.specs.ExecuteObject.{request_in, request_of, taken_in, tool_in}
use Rattle.dscript_sdk_execute.specs.Sets.{set_by}
use Rattle.dscript_sdk.specs.Calls.{call_of}
use Rattle.dscript_sdk_pips.specs.CopyFile.{copied_file, copy_file, with_copy}
use Rattle.dscript_sdk_pips.specs.FileSets.{files_by_path}
use Rattle.dscript_sdk_pips.specs.NewOutputDirectory.{name_in_arguments, named_directory, new_output_directory, next_directory}
use Rattle.dscript_sdk_pips.specs.SealDirectory as full
use Rattle.dscript_sdk_pips.specs.SealDirectory.{seal_directory}
use Rattle.dscript_sdk_pips.specs.SealPartialDirectory as partial
use Rattle.dscript_sdk_pips.specs.SealPartialDirectory.{seal_partial_directory}
use Rattle.dscript_sdk_pips.specs.SealSourceDirectory.{form_of_rest, seal_source_directory, sealed_sources}
use Rattle.dscript_sdk_pips.specs.Seals.{are_below, lists_sources, sealed_in, with_sealed}
use Rattle.dscript_sdk_pips.specs.States.{Change, State, asking, count_in, unchanged, with_ask, with_pip}
use Rattle.dscript_sdk_pips.specs.WriteAllLines.{write_all_lines, written_lines}
use Rattle.dscript_sdk_pips.specs.WriteAllText.{with_write, write_all_text, written_text}
use Rattle.dscript_sdk_pips.specs.declared.limits.TheConstants.{MAX_NUMBERED_PIPS}
use Rattle.dscript_sdk_pips.proofs.Counted.{are_counted}
use Rattle.dscript_eval_laws.proofs.MadeOutcomes.{Any, If, IfThere, and_then, anything, argument_made, chosen, file_made}
use Rattle.dscript_eval_laws.proofs.MadeOutcomes.{fields_made, filtered, list_answered, list_made, one_made}
use Rattle.dscript_eval_laws.proofs.MadeOutcomes.{optional_list_made, two_made}
use Rattle.dscript_eval_laws.proofs.MadeValues.{AllFit, AreFieldsMade, AreMade, Grows, IsArgumentMade, IsArtifactMade}
use Rattle.dscript_eval_laws.proofs.MadeValues.{IsDirMade, IsMade, IsProcess, IsSealAt, all_fit, and_at, back_grows}
use Rattle.dscript_eval_laws.proofs.MadeValues.{last_at, no_growth}

-- ## Sets

set_made
    : {K : Type 0} (P : K → Type 0) (order : K → K → Ordering) (xs : List K) → AllByRecursion P xs
    → AllByRecursion P (set_by order xs)
set_made P order [] h = tt
set_made P order (x ∷ xs) h =
    let rest = set_made P order xs h.1 in
    all_has P (insert_key order (set_by order xs) x)
    (λ y m. elim (has_insert order (set_by order xs) x y m) [
      | inl new ↦ subst P new h.0
      | inr old ↦ has_all P (set_by order xs) y rest old
    ])

by_path_made
    : (P : FileInput → Type 0) (files : List FileInput) → AllByRecursion P files
    → AllByRecursion P (files_by_path files)
by_path_made P files h =
    all_has P (files_by_path files)
    (λ file m. has_all P files file h
    (has_contained files file ((are_counted files).given file (contains_has (files_by_path files) file m))))

module _ (F : ℕ → ℕ → Type 0) where
  -- ## What a call makes of the state

  -- the pips stay, each that is added fits, and the value is made
  pub record IsChanged (before : State) (x : Plain) (after : State) : Type 0 where
    pub grows : Grows before.pips after.pips
    pub fit : AllFit after.pips
    pub made : IsMade F after.pips x

  abbrev pub Changes : State → Change → Type 0
  Changes s change = If (λ (r : Plain × State). IsChanged s r.0 r.1) change

  pub none_changed : (outcome : Outcome Plain) (s : State) → AllFit s.pips → If (IsMade F s.pips) outcome → Changes s (unchanged outcome s)
  none_changed (Ok x) s fit h = record { grows = no_growth s.pips; fit = fit; made = h }
  none_changed (Err fault) s fit h = tt

  asked_changed
      : (outcome : Outcome (Plain × TreeAsk)) (s : State) → AllFit s.pips
      → If (λ (r : Plain × TreeAsk). IsMade F s.pips r.0) outcome → Changes s (asking outcome s)
  asked_changed (Ok r) s fit h = record { grows = no_growth s.pips; fit = fit; made = h }
  asked_changed (Err fault) s fit h = tt

  -- an ask before a call changes no pips
  from_asked : (ask : TreeAsk) (s : State) (change : Change) → Changes (with_ask ask s) change → Changes s change
  from_asked ask s (Ok r) h = record { grows = h.grows; fit = h.fit; made = h.made }
  from_asked ask s (Err fault) h = tt

  new_pip
      : (spec : Atoms) (kind : PipKind) (value : ℕ → Plain) (s : State) → AllFit s.pips
      → NamesAmong s.pips kind
      → ((pips : List Pip) → slice_get pips (length s.pips) ≡ Some (record { spec = spec; kind = kind })
      → IsMade F pips (value (length s.pips)))
      → Changes s (with_pip spec kind value s)
  new_pip spec kind value s fit names makes =
      let pip : Pip = record { spec = spec; kind = kind } in
      chosen (λ (r : Plain × State). IsChanged s r.0 r.1) (nat_lt (length s.pips) MAX_NUMBERED_PIPS)
      (Ok (value (length s.pips), record s { pips = s.pips ++ pip ∷ [] })) (Err Memory)
      (record {
        grows = back_grows s.pips (pip ∷ []);
        fit = all_fit s.pips pip fit names;
        made = makes (s.pips ++ pip ∷ []) (last_at s.pips pip (length s.pips) refl);
      }) tt

  -- ## Files

  module _ (pips : List Pip) where
    copied : (args : List Plain) → AreMade F pips args → If (λ (d : CopyDesc). IsFileAmong pips d.from) (copied_file args)
    copied args h =
        and_then (λ (two : Plain × Plain). IsMade F pips two.0 × IsMade F pips two.1)
        (λ (d : CopyDesc). IsFileAmong pips d.from) (two_of args) _ (two_made F pips args h)
        (λ two k. and_then (IsFileAmong pips) (λ (d : CopyDesc). IsFileAmong pips d.from) (file_in two.0) _
        (file_made F pips two.0 k.0)
        (λ from l. and_then (Any Atoms) (λ (d : CopyDesc). IsFileAmong pips d.from) (path_in two.1) _
        (anything (path_in two.1)) (λ to m. l)))

    -- ## Seals

    abbrev IsSealMade : SealDesc → Type 0
    IsSealMade d = AllByRecursion (IsFileAmong pips) d.files

    sealed
        : (args : List Plain) → AreMade F pips args
        → If (λ (given : Atoms × List FileInput). AllByRecursion (IsFileAmong pips) given.1) (sealed_in args)
    sealed args h =
        let P : Atoms × List FileInput → Type 0 = λ given. AllByRecursion (IsFileAmong pips) given.1 in
        and_then (λ (two : Plain × Plain). IsMade F pips two.0 × IsMade F pips two.1) P (two_of args) _
        (two_made F pips args h)
        (λ two k. and_then (Any Atoms) P (directory_in two.0) _ (anything (directory_in two.0))
        (λ dir l. and_then (AllByRecursion (IsFileAmong pips)) P (list_in file_in two.1) _
        (list_made F pips (IsFileAmong pips) file_in (file_made F pips) two.1 k.1) (λ files m. m)))

    full_made : (answers : Answers) (args : List Plain) → AreMade F pips args → If IsSealMade (full.asked_seal answers args)
    full_made answers args h =
        and_then (λ (given : Atoms × List FileInput). AllByRecursion (IsFileAmong pips) given.1) IsSealMade
        (sealed_in args) _ (sealed args h)
        (λ given k. chosen IsSealMade (are_below given.0 given.1 && lists_sources (answers (Below given.0)) given.1)
        (Ok (record { form = Full; root = given.0; files = files_by_path given.1 })) (Err BadArgument)
        (by_path_made (IsFileAmong pips) given.1 k) tt)

    partial_made : (args : List Plain) → AreMade F pips args → If IsSealMade (partial.asked_seal args)
    partial_made args h =
        and_then (λ (given : Atoms × List FileInput). AllByRecursion (IsFileAmong pips) given.1) IsSealMade
        (sealed_in args) _ (sealed args h)
        (λ given k. chosen IsSealMade (are_below given.0 given.1)
        (Ok (record { form = Partial; root = given.0; files = files_by_path given.1 })) (Err BadArgument)
        (by_path_made (IsFileAmong pips) given.1 k) tt)

    sources_sealed : (args : List Plain) → If IsSealMade (sealed_sources args)
    sources_sealed [] = tt
    sources_sealed (dir ∷ rest) =
        and_then (Any Atoms) IsSealMade (directory_in dir) _ (anything (directory_in dir))
        (λ root k. and_then (Any SealForm) IsSealMade (form_of_rest rest) _ (anything (form_of_rest rest)) (λ form l. tt))

    -- ## Processes

    abbrev IsDependencyMade : Dependency → Type 0
    IsDependencyMade (dependencies.File file) = IsFileAmong pips file
    IsDependencyMade (dependencies.Directory dir) = IsDirMade pips dir

    abbrev IsPartMade : AnyArgument → Type 0
    IsPartMade a = IsArgumentMade pips a.artifact

    abbrev IsTaken : Taken → Type 0
    IsTaken t = AllByRecursion IsPartMade t.arguments × AllByRecursion IsDependencyMade t.dependencies

    depended : (x : Plain) → IsMade F pips x → If IsDependencyMade (dependency_in x)
    depended (plain.File file) h = h
    depended (plain.Static dir) h = h
    depended _ h = tt

    taken_made : (fields : List PlainField) → AreFieldsMade F pips fields → If IsTaken (taken_in fields)
    taken_made fields h =
        and_then (Any Atoms) IsTaken (field_in fields (codes "tool") tool_in) _
        (anything (field_in fields (codes "tool") tool_in))
        (λ exe a. and_then (AllByRecursion IsPartMade) IsTaken
        (optional_list_in fields (codes "arguments") (list_in argument_in)) _
        (optional_list_made F pips IsPartMade fields (codes "arguments") (list_in argument_in) h
        (list_made F pips IsPartMade argument_in (argument_made F pips)))
        (λ arguments b. and_then (Any (Option Atoms)) IsTaken
        (optional_in fields (codes "workingDirectory") directory_in) _
        (anything (optional_in fields (codes "workingDirectory") directory_in))
        (λ directory c. and_then (AllByRecursion IsDependencyMade) IsTaken
        (optional_list_in fields (codes "dependencies") (list_in dependency_in)) _
        (optional_list_made F pips IsDependencyMade fields (codes "dependencies") (list_in dependency_in) h
        (list_made F pips IsDependencyMade dependency_in depended))
        (λ given d. (b, d)))))

    read_request : (x : Plain) → IsMade F pips x → If (λ (r : Taken × MadeParts). IsTaken r.0) (request_in x)
    unfolding request_in
    read_request x k =
        let P : Taken × MadeParts → Type 0 = λ r. IsTaken r.0 in
        and_then (AreFieldsMade F pips) P (fields_in (codes "tool" ∷ []) optional_fields x) _
        (fields_made F pips (codes "tool" ∷ []) optional_fields x k)
        (λ fields l. and_then IsTaken P (taken_in fields) _ (taken_made fields l)
        (λ taken m. and_then (Any MadeParts) P (made_in fields) _ (anything (made_in fields)) (λ made n. m)))

    requested : (args : List Plain) → AreMade F pips args → If (λ (r : Taken × MadeParts). IsTaken r.0) (request_of args)
    requested args h =
        and_then (IsMade F pips) (λ (r : Taken × MadeParts). IsTaken r.0) (one_of args) request_in (one_made F pips args h)
        read_request

    artifact_there : (a : AnyArgument) → IsPartMade a → IfThere (IsArtifactMade pips) (artifact_of a)
    artifact_there a h = there a.artifact h
      where
        there : (o : Option AnyArtifact) → IsArgumentMade pips o → IfThere (IsArtifactMade pips) o
        there None k = tt
        there (Some artifact) k = k

    input_there : (artifact : AnyArtifact) → IsArtifactMade pips artifact → IfThere IsDependencyMade (input_of artifact)
    input_there (artifacts.Input file) h = h
    input_there (artifacts.InputDir dir) h = h
    input_there (artifacts.Output path) h = tt
    input_there (artifacts.OutputDir path) h = tt
    input_there (artifacts.Plain path) h = tt

    file_there : (d : Dependency) → IsDependencyMade d → IfThere (IsFileAmong pips) (taken_file d)
    file_there (dependencies.File file) h = h
    file_there (dependencies.Directory dir) h = tt

    dir_there : (d : Dependency) → IsDependencyMade d → IfThere (IsDirMade pips) (taken_dir d)
    dir_there (dependencies.File file) h = tt
    dir_there (dependencies.Directory dir) h = h

    inputs_made : (t : Taken) → IsTaken t → AllByRecursion IsDependencyMade (inputs t)
    inputs_made t h =
        all_append IsDependencyMade t.dependencies (filter_map input_of (artifacts_of t.arguments)) h.1
        (filtered (IsArtifactMade pips) IsDependencyMade input_of input_there (artifacts_of t.arguments)
        (filtered IsPartMade (IsArtifactMade pips) artifact_of artifact_there t.arguments h.0))

    seal_of : (root : Atoms) (kind : PipKind) → IsSealAt root kind → IsSealOf (form_of_kind kind) root kind
    seal_of root (kinds.Process d) h = absurd h
    seal_of root (kinds.Copy d) h = absurd h
    seal_of root (kinds.Write d) h = absurd h
    seal_of root (kinds.Seal d) h = (refl, h)

    sealed_among
        : (root : Atoms) (o : Option Pip) → IsSomeAnd o (λ (pip : Pip). IsSealAt root pip.kind)
        → IsSomeAnd o (λ (pip : Pip). IsSealOf (form_of_pip o) root pip.kind)
    sealed_among root None h = absurd h
    sealed_among root (Some pip) h = seal_of root pip.kind h

    dir_among : (dir : StaticDir) → IsDirMade pips dir → IsDirAmong pips (dir_input pips dir)
    dir_among (static_dirs.Seal number root) h = sealed_among root (slice_get pips number) h
    dir_among (static_dirs.Opaque number path) h = h

    dirs_among
        : (dirs : List StaticDir) → AllByRecursion (IsDirMade pips) dirs
        → AllByRecursion (IsDirAmong pips) (map (dir_input pips) dirs)
    dirs_among [] h = tt
    dirs_among (dir ∷ dirs) h = (dir_among dir h.0, dirs_among dirs h.1)

    process_names
        : (spec : Atoms) (t : Taken) (m : MadeParts) → IsTaken t
        → NamesAmong pips (kinds.Process (process_of spec pips t m))
    process_names spec t m h =
        let all = inputs_made t h in
        let files = filter_map taken_file (inputs t) in
        let dirs = map (dir_input pips) (filter_map taken_dir (inputs t)) in (
          All-from_recursion (IsFileAmong pips) (files_by_path files)
              (by_path_made (IsFileAmong pips) files (filtered IsDependencyMade (IsFileAmong pips) taken_file file_there (inputs t) all)),
          All-from_recursion (IsDirAmong pips) (set_by dir_cmp dirs)
              (set_made (IsDirAmong pips) dir_cmp dirs
              (dirs_among (filter_map taken_dir (inputs t)) (filtered IsDependencyMade (IsDirMade pips) taken_dir dir_there (inputs t) all))),
        )

    abbrev pub IsProcessMade : ProcessDesc → Type 0
    IsProcessMade d = NamesAmong pips (kinds.Process d)

    asked : (spec : Atoms) (args : List Plain) → AreMade F pips args → If IsProcessMade (asked_process spec pips args)
    asked spec args h =
        and_then (λ (r : Taken × MadeParts). IsTaken r.0) IsProcessMade (request_of args) _ (requested args h)
        (λ r k. let d = process_of spec pips r.0 r.1 in
        chosen IsProcessMade (shares_exclusive d.outdirs || clashes_console d.console d.outs d.outdirs) (Err BadArgument) (Ok d) tt
        (process_names spec r.0 r.1 k))

    -- ## Calls that add no pip

    text_argued : (before text : List ℕ) → If (IsMade F pips) (text_argument before text)
    text_argued before text =
        chosen (IsMade F pips) (nat_le (length (before ++ text)) MAX_TEXT_BYTES)
        (Ok (plain.Argument (record { text = Some (before ++ text); artifact = None }))) (Err Range) tt tt

    argued : (before : List ℕ) (x : Plain) → IsMade F pips x → If (IsMade F pips) (argument_after before x)
    argued before plain.Undefined h = tt
    argued before (plain.Text text) h = text_argued before text
    argued before (plain.Number number) h = text_argued before (signed_decimal number)
    argued before (plain.Path path) h = text_argued before (path_argument path)
    argued before (plain.File file) h = text_argued before (path_argument (input_path file))
    argued before (plain.Directory path) h = text_argued before (path_argument path)
    argued before (plain.Atom atom) h = text_argued before atom
    argued before (plain.Artifact artifact) h =
        chosen (IsMade F pips) (nat_le (length (before ++ path_argument (artifact_path artifact))) MAX_TEXT_BYTES)
        (Ok (plain.Argument (record { text = Some before; artifact = Some artifact }))) (Err Range) h tt
    argued before _ h = tt

    argument_call : (args : List Plain) → AreMade F pips args → If (IsMade F pips) (cmd_argument args)
    unfolding cmd_argument
    argument_call args h =
        and_then (IsMade F pips) (IsMade F pips) (one_of args) (argument_after []) (one_made F pips args h) (argued [])

    option_call : (args : List Plain) → AreMade F pips args → If (IsMade F pips) (cmd_option args)
    unfolding cmd_option
    option_call args h =
        and_then (λ (two : Plain × Plain). IsMade F pips two.0 × IsMade F pips two.1) (IsMade F pips) (two_of args) _
        (two_made F pips args h)
        (λ two k. and_then (Any (List ℕ)) (IsMade F pips) (text_in two.0) _ (anything (text_in two.0))
        (λ before l. argued before two.1 k.1))

    flag_made : (text : List ℕ) (x : Plain) → If (IsMade F pips) (flagged text x)
    flag_made text plain.Undefined = tt
    flag_made text (plain.Flag true) = text_argued [] text
    flag_made text (plain.Flag false) = tt
    flag_made text _ = tt

    flag_call : (args : List Plain) → If (IsMade F pips) (cmd_flag args)
    unfolding cmd_flag
    flag_call args =
        and_then (Any (Plain × Plain)) (IsMade F pips) (two_of args) _ (anything (two_of args))
        (λ two k. and_then (Any (List ℕ)) (IsMade F pips) (text_in two.0) _ (anything (text_in two.0))
        (λ text l. flag_made text two.1))

    input_made : (x : Plain) → IsMade F pips x → If (IsMade F pips) (input_argument x)
    input_made (plain.File file) h = h
    input_made (plain.Static dir) h = h
    input_made _ h = tt

    input_call : (args : List Plain) → AreMade F pips args → If (IsMade F pips) (artifact_input args)
    unfolding artifact_input
    input_call args h =
        and_then (IsMade F pips) (IsMade F pips) (one_of args) input_argument (one_made F pips args h) input_made

    output_made : (x : Plain) → If (IsMade F pips) (output_of x)
    output_made (plain.Path path) = tt
    output_made (plain.Directory path) = tt
    output_made _ = tt

    output_call : (args : List Plain) → If (IsMade F pips) (artifact_output args)
    unfolding artifact_output
    output_call args =
        and_then (Any Plain) (IsMade F pips) (one_of args) output_of (anything (one_of args)) (λ x k. output_made x)

    path_made : (x : Plain) → If (IsMade F pips) (plain_path_of x)
    path_made (plain.Path path) = tt
    path_made (plain.File file) = tt
    path_made (plain.Directory path) = tt
    path_made _ = tt

    none_call : (args : List Plain) → If (IsMade F pips) (artifact_none args)
    unfolding artifact_none
    none_call args =
        and_then (Any Plain) (IsMade F pips) (one_of args) plain_path_of (anything (one_of args)) (λ x k. path_made x)

    fail_call : (args : List Plain) → If (IsMade F pips) (contract_fail args)
    unfolding contract_fail
    fail_call args =
        and_then (Any (List ℕ)) (IsMade F pips) (one_of args >>= text_in) _ (anything (one_of args >>= text_in))
        (λ message k. tt)

    true_made : (holds : Bool) (message : List ℕ) → If (IsMade F pips) (unless_true holds message)
    true_made true message = tt
    true_made false message = tt

    assert_call : (args : List Plain) → If (IsMade F pips) (contract_assert args)
    unfolding contract_assert
    assert_call args =
        and_then (Any (Plain × Plain)) (IsMade F pips) (two_of args) _ (anything (two_of args))
        (λ two k. and_then (Any Bool) (IsMade F pips) (flag_in two.0) _ (anything (flag_in two.0))
        (λ holds l. and_then (Any (List ℕ)) (IsMade F pips) (text_in two.1) _ (anything (text_in two.1))
        (λ message m. true_made holds message)))

    sources_made : (paths : List Atoms) → AreMade F pips (source_values paths)
    sources_made [] = tt
    sources_made (path ∷ paths) = (tt, sources_made paths)

    glob_call
        : (deep : Bool) (args : List Plain) (answers : Answers)
        → If (λ (r : Plain × TreeAsk). IsMade F pips r.0) (glob_files deep args answers)
    unfolding glob_files
    glob_call deep args answers =
        let P : Plain × TreeAsk → Type 0 = λ r. IsMade F pips r.0 in
        and_then (Any TreeAsk) P (asked_glob deep args) _ (anything (asked_glob deep args))
        (λ ask k. and_then (IsMade F pips) P (found_files (answers ask)) _
        (list_answered F pips (source_values (answers ask)) (sources_made (answers ask))) (λ files m. m))

  seal_added
      : (spec : Atoms) (d : SealDesc) (s : State) → AllFit s.pips → AllByRecursion (IsFileAmong s.pips) d.files
      → Changes s (with_sealed spec d s)
  seal_added spec d s fit h =
      new_pip spec (kinds.Seal d) (λ number. plain.Static (static_dirs.Seal number d.root)) s fit
      (All-from_recursion (IsFileAmong s.pips) d.files h)
      (λ pips e. and_at (λ (pip : Pip). IsSealAt d.root pip.kind) (slice_get pips (length s.pips))
      (record { spec = spec; kind = kinds.Seal d }) e refl)

  -- ## All calls

  module _ (spec : Atoms) (args : List Plain) (s : State) (fit : AllFit s.pips) (all : AreMade F s.pips args) where
    new_write : (d : WriteDesc) → Changes s (with_write spec d s)
    new_write d =
        new_pip spec (kinds.Write d) (λ number. plain.File (Made d.to number)) s fit tt
        (λ pips e. and_at (λ (pip : Pip). MakesFile d.to pip.kind) (slice_get pips (length s.pips))
        (record { spec = spec; kind = kinds.Write d }) e refl)

    new_copy : (d : CopyDesc) → IsFileAmong s.pips d.from → Changes s (with_copy spec d s)
    new_copy d h =
        new_pip spec (kinds.Copy d) (λ number. plain.File (Made d.to number)) s fit h
        (λ pips e. and_at (λ (pip : Pip). MakesFile d.to pip.kind) (slice_get pips (length s.pips))
        (record { spec = spec; kind = kinds.Copy d }) e refl)

    new_process : (d : ProcessDesc) → NamesAmong s.pips (kinds.Process d) → Changes s (with_pip spec (kinds.Process d) plain.Process s)
    new_process d h =
        new_pip spec (kinds.Process d) plain.Process s fit h
        (λ pips e. and_at (λ (pip : Pip). IsProcess pip.kind) (slice_get pips (length s.pips))
        (record { spec = spec; kind = kinds.Process d }) e tt)

    abbrev C : Plain × State → Type 0
    C r = IsChanged s r.0 r.1

    text_call : Changes s (write_all_text spec args s)
    unfolding write_all_text
    text_call =
        and_then (Any WriteDesc) C (written_text args) _ (anything (written_text args)) (λ d k. new_write d)

    lines_call : Changes s (write_all_lines spec args s)
    unfolding write_all_lines
    lines_call =
        and_then (Any WriteDesc) C (written_lines args) _ (anything (written_lines args)) (λ d k. new_write d)

    copy_call : Changes s (copy_file spec args s)
    unfolding copy_file
    copy_call =
        and_then (λ (d : CopyDesc). IsFileAmong s.pips d.from) C (copied_file args) _ (copied s.pips args all)
        (λ d k. new_copy d k)

    full_call : Changes s (seal_directory spec args s)
    unfolding seal_directory
    full_call =
        and_then (IsSealMade s.pips) C (full.asked_seal s.answers args) _ (full_made s.pips s.answers args all)
        (λ d k. from_asked (Below d.root) s (with_sealed spec d (with_ask (Below d.root) s))
        (seal_added spec d (with_ask (Below d.root) s) fit k))

    partial_call : Changes s (seal_partial_directory spec args s)
    unfolding seal_partial_directory
    partial_call =
        and_then (IsSealMade s.pips) C (partial.asked_seal args) _ (partial_made s.pips args all)
        (λ d k. seal_added spec d s fit k)

    source_call : Changes s (seal_source_directory spec args s)
    unfolding seal_source_directory
    source_call =
        and_then (IsSealMade s.pips) C (sealed_sources args) _ (sources_sealed s.pips args)
        (λ d k. seal_added spec d s fit k)

    execute_call : Changes s (execute spec args s)
    unfolding execute
    execute_call =
        and_then (IsProcessMade s.pips) C (asked_process spec s.pips args) _ (asked s.pips spec args all)
        (λ d k. new_process d k)

    next_made : (dir : Atoms) → Changes s (next_directory dir s)
    next_made dir =
        let path = if_short (dir ++ decimal (count_in s.counts dir) ∷ []) in
        and_then (Any Atoms) C (unless_none BadPath path) _ (anything (unless_none BadPath path))
        (λ to k. record { grows = no_growth s.pips; fit = fit; made = tt })

    directory_call : Changes s (new_output_directory spec args s)
    unfolding new_output_directory
    directory_call =
        and_then (Any (List ℕ)) C (name_in_arguments args) _ (anything (name_in_arguments args))
        (λ name k. next_made (named_directory spec name))

    pub call_made : (name : Ambient) → Changes s (call_of name spec args s)
    unfolding call_of
    call_made calls.WriteAllText = text_call
    call_made calls.WriteAllLines = lines_call
    call_made calls.CopyFile = copy_call
    call_made calls.SealDirectory = full_call
    call_made calls.SealPartialDirectory = partial_call
    call_made calls.SealSourceDirectory = source_call
    call_made calls.Execute = execute_call
    call_made calls.CmdArgument = none_changed (cmd_argument args) s fit (argument_call s.pips args all)
    call_made calls.CmdOption = none_changed (cmd_option args) s fit (option_call s.pips args all)
    call_made calls.CmdFlag = none_changed (cmd_flag args) s fit (flag_call s.pips args)
    call_made calls.ArtifactInput = none_changed (artifact_input args) s fit (input_call s.pips args all)
    call_made calls.ArtifactOutput = none_changed (artifact_output args) s fit (output_call s.pips args)
    call_made calls.ArtifactNone = none_changed (artifact_none args) s fit (none_call s.pips args)
    call_made calls.NewOutputDirectory = directory_call
    call_made calls.Fail = none_changed (contract_fail args) s fit (fail_call s.pips args)
    call_made calls.Assert = none_changed (contract_assert args) s fit (assert_call s.pips args)
    call_made calls.Requires = none_changed (contract_assert args) s fit (assert_call s.pips args)
    call_made calls.Glob = asked_changed (glob_files false args s.answers) s fit (glob_call s.pips false args s.answers)
    call_made calls.GlobRecursive = asked_changed (glob_files true args s.answers) s fit (glob_call s.pips true args s.answers)
