-- Calls come to the same where what they ask is answered alike.
use Rattle.std.proofs.Common.{◌≡◌, ℕ, Bool, true, false, cond, ◌||◌, ◌&&◌, List, [], ◌∷◌, ◌++◌, length, slice_get, is_some, map, Option, Some, None, Result, Ok, Err, refl, sym, ap, subst, ◌∙◌}
use Rattle.std.specs.Prelude.{nat_lt}
use Rattle.std.specs.Fmt.{decimal}
use Rattle.std.proofs.lemmas.List.{append-nil}
use Rattle.bx_path.specs.Joining.{if_short}
use Rattle.bx_tree.specs.Paths.{Atoms}
use Rattle.bx_tree.specs.declared.file_input.FileInput.{FileInput}
use Rattle.pip_model_types.specs.declared.dir_inputs.SealForm.{SealForm}
use Rattle.pip_model_types.specs.declared.dir_inputs.SealForm.TheVariants.{Full, Partial, SourceTop, SourceAll}
use Rattle.pip_model_types.specs.declared.pip.Pip.{Pip}
use Rattle.pip_model_types.specs.declared.pip.PipKind.{PipKind}
use Rattle.pip_model_types.specs.declared.pip.PipKind.TheVariants as kinds
use Rattle.pip_model_types.specs.declared.pip.SealDesc.{SealDesc}
use Rattle.bx_tree.specs.declared.file_input.FileInput.TheVariants.{Made, Source}
use Rattle.dscript_program.specs.declared.ambient.Ambient.{Ambient}
use Rattle.dscript_program.specs.declared.ambient.Ambient.TheVariants as calls
use Rattle.dscript_value.specs.declared.parts.Callee.TheVariants as callees
use Rattle.dscript_value.specs.declared.parts.StaticDir.{StaticDir}
use Rattle.dscript_value.specs.declared.parts.StaticDir.TheVariants.{Seal, Opaque}
use Rattle.dscript_value.specs.Plain as plain
use Rattle.dscript_value.specs.Plain.{Plain}
use Rattle.dscript_sdk_values.specs.Answers.{function_answer, list_answer}
use Rattle.dscript_sdk_values.specs.Arguments.{one_of}
use Rattle.dscript_sdk_values.specs.Kinds.{path_in}
use Rattle.dscript_sdk_values.specs.Outcomes.{Outcome, ◌>>=◌, unless_none}
use Rattle.dscript_sdk_values.specs.declared.fault.SdkFault.{SdkFault}
use Rattle.dscript_sdk_values.specs.declared.fault.SdkFault.TheVariants as faults
use Rattle.dscript_sdk_members.specs.Functions.{MemberFunction}
use Rattle.dscript_sdk_members.specs.Names.{member_named}
use Rattle.dscript_sdk_members.specs.declared.member.Member.{Member}
use Rattle.dscript_sdk_members.specs.declared.member.Member.TheVariants as members
use Rattle.dscript_sdk_calls.specs.ArtifactInput.{artifact_input}
use Rattle.dscript_sdk_calls.specs.ArtifactNone.{artifact_none}
use Rattle.dscript_sdk_calls.specs.ArtifactOutput.{artifact_output}
use Rattle.dscript_sdk_calls.specs.CmdArgument.{cmd_argument}
use Rattle.dscript_sdk_calls.specs.CmdFlag.{cmd_flag}
use Rattle.dscript_sdk_calls.specs.CmdOption.{cmd_option}
use Rattle.dscript_sdk_calls.specs.ContractAssert.{contract_assert}
use Rattle.dscript_sdk_calls.specs.ContractFail.{contract_fail}
use Rattle.dscript_sdk_calls.specs.Globs.{asked_glob, found_files, glob_files}
use Rattle.dscript_sdk_calls.specs.Sources.{AgreeOn, Answers, directly_in}
use Rattle.dscript_sdk_calls.specs.declared.tree_ask.TreeAsk.{TreeAsk}
use Rattle.dscript_sdk_calls.specs.declared.tree_ask.TreeAsk.TheVariants.{Below}
use Rattle.dscript_sdk_pips.specs.CopyFile.{copied_file, copy_file, with_copy}
use Rattle.dscript_sdk_pips.specs.NewOutputDirectory.{name_in_arguments, named_directory, new_output_directory, next_directory}
use Rattle.dscript_sdk_pips.specs.FileSets.{files_by_path}
use Rattle.dscript_sdk_pips.specs.SealDirectory.{full_seal, seal_directory}
use Rattle.dscript_sdk_pips.specs.SealPartialDirectory.{asked_seal as asked_partial, seal_partial_directory}
use Rattle.dscript_sdk_pips.specs.SealSourceDirectory.{seal_source_directory, sealed_sources}
use Rattle.dscript_sdk_pips.specs.Seals.{are_below, lists_sources, sealed_in, with_sealed}
use Rattle.dscript_sdk_pips.specs.States.{Change, State, asking, count_in, one_more, unchanged, with_ask, with_pip}
use Rattle.dscript_sdk_pips.specs.WriteAllLines.{write_all_lines, written_lines}
use Rattle.dscript_sdk_pips.specs.WriteAllText.{with_write, write_all_text, written_text}
use Rattle.dscript_sdk_pips.specs.declared.limits.TheConstants.{MAX_NUMBERED_PIPS}
use Rattle.dscript_sdk_execute.specs.Execute.{asked_process, execute}
use Rattle.dscript_sdk.specs.Calls.{call_of}
use Rattle.dscript_sdk.specs.Members.{answer_with, call_of_member, function_ask, function_ask_named, function_at, function_named}
use Rattle.dscript_sdk.specs.Members.{is_callback_of, is_function_found, is_function_named, member_answer, member_of}
use Rattle.dscript_sdk.specs.Members.{method_answer, method_of, or_else, own_member, property_at, property_or_missing}
use Rattle.dscript_sdk.specs.ProcessMembers.{process_function}
use Rattle.dscript_sdk.specs.SealMembers.{ask_of_form, ask_of_kind, ask_of_pip, held_by, held_by_kind, held_by_pip}
use Rattle.dscript_sdk.specs.StaticMembers.{file_with, static_function, static_function_ask}

-- ## What is given

abbrev pub Gave : (X E : Type 0) → X → Result X E
Gave X E x = Ok x

abbrev value_or : (X E : Type 0) → X → Result X E → X
value_or X E other (Ok x) = x
value_or X E other (Err fault) = other

-- what is given is one thing
pub one_given : (X E : Type 0) (a b : X) → Gave X E a ≡ Gave X E b → a ≡ b
one_given X E a b e = ap (value_or X E a) e

-- ## Where others answer

-- the state where these answer from now on
abbrev pub answering : Answers → State → State
answering b c = record c { answers = b }

-- What came of a state asked these last, and comes of it wherever these are answered alike.
pub record HearsCall (f : State → Change) (c : State) (x : Plain) (t : State) : Type 0 where
  pub later : List TreeAsk
  pub asks : t.asks ≡ c.asks ++ later
  pub answers : t.answers ≡ c.answers
  pub same : (b : Answers) → AgreeOn c.answers b later → f (answering b c) ≡ Ok (x, answering b t)

abbrev pub CallsHeard : (State → Change) → Type 0
CallsHeard f = (c : State) (x : Plain) (t : State) → f c ≡ Ok (x, t) → HearsCall f c x t

-- ## Calls that ask nothing

abbrev after : Answers → Change → Change
after b (Ok r) = Ok (r.0, answering b r.1)
after b (Err fault) = Err fault

-- no ask is new, and the same answer
abbrev AsksNone : State → Change → Type 0
AsksNone c (Ok r) = (r.1.asks ≡ c.asks) × (r.1.answers ≡ c.answers)
AsksNone c (Err fault) = Unit {0}

-- A call that asks nothing.
record Silent (f : State → Change) : Type 0 where
  pub elsewhere : (c : State) (b : Answers) → f (answering b c) ≡ after b (f c)
  pub none : (c : State) → AsksNone c (f c)

silent_heard : (f : State → Change) → Silent f → CallsHeard f
silent_heard f silent c x t e =
    let kept = subst (AsksNone c) e (silent.none c) in
    record {
      later = [];
      asks = kept.0 ∙ sym (append-nil c.asks);
      answers = kept.1;
      same = λ b agree. silent.elsewhere c b ∙ ap (after b) e;
    }

unchanged_silent : (o : Outcome Plain) → Silent (unchanged o)
unchanged_silent (Ok x) = record { elsewhere = λ c b. refl; none = λ c. (refl, refl) }
unchanged_silent (Err fault) = record { elsewhere = λ c b. refl; none = λ c. tt }

then_silent : {X : Type 0} (o : Outcome X) (g : X → State → Change) → ((x : X) → Silent (g x)) → Silent (λ s. o >>= λ x. g x s)
then_silent (Ok x) g silent = silent x
then_silent (Err fault) g silent = record { elsewhere = λ c b. refl; none = λ c. tt }

-- what comes first may depend on the pips and the counts, and not on the answers
then_silent_at : {X : Type 0} (o : State → Outcome X) (g : X → State → Change)
    → ((c : State) (b : Answers) → o (answering b c) ≡ o c) → ((x : X) → Silent (g x))
    → Silent (λ s. o s >>= λ x. g x s)
then_silent_at {X = X} o g same silent = record {
  elsewhere = λ c b. ap (λ r. r >>= λ x. g x (answering b c)) (same c b) ∙ (then_silent (o c) g silent).elsewhere c b;
  none = λ c. (then_silent (o c) g silent).none c;
}

pip_silent : (spec : Atoms) (kind : PipKind) (value : ℕ → Plain) → Silent (with_pip spec kind value)
pip_silent spec kind value = record {
  elsewhere = λ c b. few c b (nat_lt (length c.pips) MAX_NUMBERED_PIPS);
  none = λ c. none_asked c (nat_lt (length c.pips) MAX_NUMBERED_PIPS);
}
  where
    next : State → State
    next c = record c { pips = c.pips ++ record { spec = spec; kind = kind } ∷ [] }

    few : (c : State) (b : Answers) (t : Bool)
        → cond t (Ok (value (length c.pips), next (answering b c))) (Err faults.Memory)
        ≡ after b (cond t (Ok (value (length c.pips), next c)) (Err faults.Memory))
    few c b true = refl
    few c b false = refl

    none_asked : (c : State) (t : Bool) → AsksNone c (cond t (Ok (value (length c.pips), next c)) (Err faults.Memory))
    none_asked c true = (refl, refl)
    none_asked c false = tt

text_silent : (spec : Atoms) (args : List Plain) → Silent (write_all_text spec args)
unfolding write_all_text
text_silent spec args = then_silent (written_text args) (with_write spec)
    (λ d. pip_silent spec (kinds.Write d) (λ number. plain.File (Made d.to number)))

lines_silent : (spec : Atoms) (args : List Plain) → Silent (write_all_lines spec args)
unfolding write_all_lines
lines_silent spec args = then_silent (written_lines args) (with_write spec)
    (λ d. pip_silent spec (kinds.Write d) (λ number. plain.File (Made d.to number)))

copy_silent : (spec : Atoms) (args : List Plain) → Silent (copy_file spec args)
unfolding copy_file
copy_silent spec args = then_silent (copied_file args) (with_copy spec)
    (λ d. pip_silent spec (kinds.Copy d) (λ number. plain.File (Made d.to number)))

partial_silent : (spec : Atoms) (args : List Plain) → Silent (seal_partial_directory spec args)
unfolding seal_partial_directory
partial_silent spec args = then_silent (asked_partial args) (with_sealed spec)
    (λ d. pip_silent spec (kinds.Seal d) (λ number. plain.Static (Seal number d.root)))

source_silent : (spec : Atoms) (args : List Plain) → Silent (seal_source_directory spec args)
unfolding seal_source_directory
source_silent spec args = then_silent (sealed_sources args) (with_sealed spec)
    (λ d. pip_silent spec (kinds.Seal d) (λ number. plain.Static (Seal number d.root)))

execute_silent : (spec : Atoms) (args : List Plain) → Silent (execute spec args)
unfolding execute
execute_silent spec args =
    then_silent_at (λ s. asked_process spec s.pips args) (λ process. with_pip spec (kinds.Process process) plain.Process)
    (λ c b. refl) (λ process. pip_silent spec (kinds.Process process) plain.Process)

next_silent : (dir : Atoms) → Silent (next_directory dir)
next_silent dir =
    then_silent_at (λ s. unless_none faults.BadPath (if_short (dir ++ decimal (count_in s.counts dir) ∷ [])))
    (λ path s. Ok (plain.Directory path, record s { counts = one_more s.counts dir })) (λ c b. refl)
    (λ path. record { elsewhere = λ c b. refl; none = λ c. (refl, refl) })

directory_silent : (spec : Atoms) (args : List Plain) → Silent (new_output_directory spec args)
unfolding new_output_directory
directory_silent spec args =
    then_silent (name_in_arguments args) (λ name. next_directory (named_directory spec name))
    (λ name. next_silent (named_directory spec name))

-- ## Calls that ask

globbed_heard : (o : Outcome TreeAsk)
    → CallsHeard (λ s. asking (o >>= λ ask. found_files (s.answers ask) >>= λ files. Ok (files, ask)) s)
globbed_heard (Err fault) c x t e = absurd cc
globbed_heard (Ok ask) c x t e = by_files (found_files (c.answers ask)) refl e
  where
    finds : Outcome Plain → State → Change
    finds r s = asking (r >>= λ files. Ok (files, ask)) s

    by_files : (r : Outcome Plain) → found_files (c.answers ask) ≡ r → finds r c ≡ Ok (x, t)
        → HearsCall (λ s. finds (found_files (s.answers ask)) s) c x t
    by_files (Err fault) is e = absurd cc
    by_files (Ok files) is e =
        let both : (files, with_ask ask c) ≡ (x, t) = one_given (Plain × State) SdkFault (files, with_ask ask c) (x, t) e in
        let value : files ≡ x = ap (λ (r : Plain × State). r.0) both in
        let state : with_ask ask c ≡ t = ap (λ (r : Plain × State). r.1) both in
        subst (λ u. HearsCall (λ s. finds (found_files (s.answers ask)) s) c x u) state
        (subst (λ v. HearsCall (λ s. finds (found_files (s.answers ask)) s) c v (with_ask ask c)) value (record {
          later = ask ∷ [];
          asks = refl;
          answers = refl;
          same = λ b agree.
              ap (λ paths. finds (found_files paths) (answering b c)) (sym agree.0)
              ∙ ap (λ r. finds r (answering b c)) is;
        }))

glob_heard : (deep : Bool) (args : List Plain) → CallsHeard (λ s. asking (glob_files deep args s.answers) s)
unfolding glob_files
glob_heard deep args = globbed_heard (asked_glob deep args)

sealing : Atoms → Outcome SealDesc → State → Change
sealing spec o s = o >>= λ d. with_sealed spec d (with_ask (Below d.root) s)

seal_heard_at : (spec dir : Atoms) (files : List FileInput)
    → CallsHeard (λ s. sealing spec (full_seal (s.answers (Below dir)) dir files) s)
unfolding sealing
seal_heard_at spec dir files c x t e = by_test (are_below dir files && lists_sources (c.answers (Below dir)) files) refl e
  where
    seals : State → Change
    seals s = sealing spec (full_seal (s.answers (Below dir)) dir files) s

    desc : SealDesc
    desc = record { form = Full; root = dir; files = files_by_path files }

    sealed : Bool → Outcome SealDesc
    sealed test = cond test (Ok desc) (Err faults.BadArgument)

    by_test : (test : Bool) → (are_below dir files && lists_sources (c.answers (Below dir)) files) ≡ test
        → sealing spec (sealed test) c ≡ Ok (x, t) → HearsCall seals c x t
    by_test false is e = absurd cc
    by_test true is e =
        let pip = pip_silent spec (kinds.Seal desc) (λ number. plain.Static (Seal number dir)) in
        let kept = subst (AsksNone (with_ask (Below dir) c)) e (pip.none (with_ask (Below dir) c)) in
        record {
          later = Below dir ∷ [];
          asks = kept.0;
          answers = kept.1;
          same = λ b agree.
              ap (λ paths. sealing spec (full_seal paths dir files) (answering b c)) (sym agree.0)
              ∙ ap (λ test. sealing spec (sealed test) (answering b c)) is
              ∙ pip.elsewhere (with_ask (Below dir) c) b ∙ ap (after b) e;
        }

seal_heard : (spec : Atoms) (args : List Plain) → CallsHeard (seal_directory spec args)
unfolding seal_directory sealing
seal_heard spec args = by_given (sealed_in args)
  where
    by_given : (o : Outcome (Atoms × List FileInput))
        → CallsHeard (λ s. sealing spec (o >>= λ given. full_seal (s.answers (Below given.0)) given.0 given.1) s)
    by_given (Err fault) c x t e = absurd cc
    by_given (Ok given) c x t e = seal_heard_at spec given.0 given.1 c x t e

-- ## All ambient calls

pub call_heard : (name : Ambient) (spec : Atoms) (args : List Plain) → CallsHeard (call_of name spec args)
unfolding call_of
call_heard calls.WriteAllText spec args = silent_heard (write_all_text spec args) (text_silent spec args)
call_heard calls.WriteAllLines spec args = silent_heard (write_all_lines spec args) (lines_silent spec args)
call_heard calls.CopyFile spec args = silent_heard (copy_file spec args) (copy_silent spec args)
call_heard calls.SealDirectory spec args = seal_heard spec args
call_heard calls.SealPartialDirectory spec args =
    silent_heard (seal_partial_directory spec args) (partial_silent spec args)
call_heard calls.SealSourceDirectory spec args =
    silent_heard (seal_source_directory spec args) (source_silent spec args)
call_heard calls.Execute spec args = silent_heard (execute spec args) (execute_silent spec args)
call_heard calls.CmdArgument spec args = silent_heard _ (unchanged_silent (cmd_argument args))
call_heard calls.CmdOption spec args = silent_heard _ (unchanged_silent (cmd_option args))
call_heard calls.CmdFlag spec args = silent_heard _ (unchanged_silent (cmd_flag args))
call_heard calls.ArtifactInput spec args = silent_heard _ (unchanged_silent (artifact_input args))
call_heard calls.ArtifactOutput spec args = silent_heard _ (unchanged_silent (artifact_output args))
call_heard calls.ArtifactNone spec args = silent_heard _ (unchanged_silent (artifact_none args))
call_heard calls.NewOutputDirectory spec args =
    silent_heard (new_output_directory spec args) (directory_silent spec args)
call_heard calls.Fail spec args = silent_heard _ (unchanged_silent (contract_fail args))
call_heard calls.Assert spec args = silent_heard _ (unchanged_silent (contract_assert args))
call_heard calls.Requires spec args = silent_heard _ (unchanged_silent (contract_assert args))
call_heard calls.Glob spec args = glob_heard false args
call_heard calls.GlobRecursive spec args = glob_heard true args

-- ## Members

-- what is asked, if anything is
abbrev asked : Option TreeAsk → List TreeAsk
asked None = []
asked (Some ask) = ask ∷ []

module _ (b : Answers) (c : State) where
  process_same : (m : Member) (number : ℕ) → process_function (answering b c) m number ≡ process_function c m number
  unfolding process_function
  process_same members.GetOutputFile number = refl
  process_same members.GetOutputDirectory number = refl
  process_same _ number = refl

  -- the members of a seal are the same where its ask is answered alike
  held_same : (o : Option Pip) → AgreeOn c.answers b (asked (ask_of_pip o)) → held_by_pip b o ≡ held_by_pip c.answers o
  held_same None agree = refl
  held_same (Some pip) agree = by_kind pip.kind agree
    where
      by_form : (form : SealForm) (root : Atoms) (files : List FileInput)
          → AgreeOn c.answers b (asked (ask_of_form form root)) → held_by b form root files ≡ held_by c.answers form root files
      by_form Full root files agree = refl
      by_form Partial root files agree = refl
      by_form SourceTop root files agree = ap (λ paths. map Source (directly_in root paths)) (sym agree.0)
      by_form SourceAll root files agree = ap (map Source) (sym agree.0)

      by_kind : (kind : PipKind) → AgreeOn c.answers b (asked (ask_of_kind kind))
          → held_by_kind b kind ≡ held_by_kind c.answers kind
      by_kind (kinds.Seal d) agree = by_form d.form d.root d.files agree
      by_kind (kinds.Process d) agree = refl
      by_kind (kinds.Copy d) agree = refl
      by_kind (kinds.Write d) agree = refl

  abbrev file_among : List FileInput → MemberFunction
  file_among files args =
      one_of args >>= path_in >>= λ path.
      unless_none faults.BadArgument (file_with path files) >>= λ file.
      Ok (plain.File file)

  abbrev all_files : List FileInput → MemberFunction
  all_files files args = list_answer (map plain.File files)

  static_same : (m : Member) (dir : StaticDir) → AgreeOn c.answers b (asked (static_function_ask c m dir))
      → static_function (answering b c) m dir ≡ static_function c m dir
  unfolding static_function
  static_same members.GetFile (Seal number path) agree =
      ap (λ files. Some (file_among files)) (held_same (slice_get c.pips number) agree)
  static_same members.GetContent (Seal number path) agree =
      ap (λ files. Some (all_files files)) (held_same (slice_get c.pips number) agree)
  static_same _ (Seal number path) agree = refl
  static_same _ (Opaque number path) agree = refl

  function_same : (m : Member) (v : Plain) → AgreeOn c.answers b (asked (function_ask c m v))
      → function_at (answering b c) m v ≡ function_at c m v
  function_same m (plain.Static dir) agree = static_same m dir agree
  function_same m (plain.Process number) agree = process_same m number
  function_same m _ agree = refl

  -- whether there is one does not depend on the answers
  is_static_same : (m : Member) (dir : StaticDir)
      → is_some (static_function (answering b c) m dir) ≡ is_some (static_function c m dir)
  unfolding static_function
  is_static_same members.GetFile (Seal number path) = refl
  is_static_same members.GetContent (Seal number path) = refl
  is_static_same _ (Seal number path) = refl
  is_static_same _ (Opaque number path) = refl

  is_same : (m : Member) (v : Plain) → is_some (function_at (answering b c) m v) ≡ is_some (function_at c m v)
  is_same m (plain.Static dir) = is_static_same m dir
  is_same m (plain.Process number) = ap is_some (process_same m number)
  is_same m _ = refl

  answer_same : (name : List ℕ) (v : Plain) (m : Option Member)
      → member_answer (answering b c) name v m ≡ member_answer c name v m
  answer_same name v None = refl
  answer_same name v (Some m) =
      ap (λ t. cond (is_callback_of m v || t) (function_answer (callees.Member name) (v ∷ []))
      (property_or_missing (property_at m v))) (is_same m v)

  pub member_elsewhere : (v : Plain) (name : List ℕ) → member_of (answering b c) v name ≡ member_of c v name
  unfolding member_of
  member_elsewhere v name = ap (or_else (own_member v name)) (answer_same name v (member_named name))

  pub is_function_elsewhere : (v : Plain) (name : List ℕ)
      → is_function_named (answering b c) v name ≡ is_function_named c v name
  unfolding is_function_named
  is_function_elsewhere v name = by_member (member_named name)
    where
      by_member : (m : Option Member) → is_function_found (answering b c) v m ≡ is_function_found c v m
      by_member None = refl
      by_member (Some m) = ap (λ t. is_callback_of m v || t) (is_same m v)

  named_same : (v : Plain) (m : Option Member) → AgreeOn c.answers b (asked (function_ask_named c v m))
      → function_named (answering b c) v m ≡ function_named c v m
  named_same v None agree = refl
  named_same v (Some m) agree = function_same m v agree

  method_same : (v : Plain) (name : List ℕ) (args : List Plain)
      → AgreeOn c.answers b (asked (function_ask_named c v (member_named name)))
      → method_answer (answering b c) v name args ≡ method_answer c v name args
  unfolding method_answer
  method_same v name args agree =
      ap (call_of_member (answering b c) v name args) (named_same v (member_named name) agree)
      ∙ by_function (function_named c v (member_named name))
    where
      by_function : (o : Option MemberFunction)
          → call_of_member (answering b c) v name args o ≡ call_of_member c v name args o
      by_function None = ap (λ o. o >>= λ _. Err faults.Kind) (member_elsewhere v name)
      by_function (Some function) = refl

  ask_same : (v : Plain) (m : Option Member) → function_ask_named (answering b c) v m ≡ function_ask_named c v m
  ask_same v None = refl
  ask_same v (Some m) = by_value v
    where
      by_dir : (n : Member) (dir : StaticDir) → static_function_ask (answering b c) n dir ≡ static_function_ask c n dir
      by_dir members.GetFile (Seal number path) = refl
      by_dir members.GetContent (Seal number path) = refl
      by_dir _ (Seal number path) = refl
      by_dir _ (Opaque number path) = refl

      by_value : (v : Plain) → function_ask (answering b c) m v ≡ function_ask c m v
      by_value (plain.Static dir) = by_dir m dir
      by_value _ = refl

-- an answer with what was asked for it
answered_heard : (ask : State → Option TreeAsk) (answer : State → Outcome Plain)
    → ((b : Answers) (c : State) → ask (answering b c) ≡ ask c)
    → ((b : Answers) (c : State) → AgreeOn c.answers b (asked (ask c)) → answer (answering b c) ≡ answer c)
    → CallsHeard (λ c. answer_with (ask c) (answer c) c)
answered_heard ask answer same_ask same_answer c x t e =
    by_ask (ask c) (answer c) e (λ b agree. ap (λ o. answer_with o (answer (answering b c)) (answering b c)) (same_ask b c)
    ∙ ap (λ o. answer_with (ask c) o (answering b c)) (same_answer b c agree))
  where
    by_ask : (o : Option TreeAsk) (r : Outcome Plain) → answer_with o r c ≡ Ok (x, t)
        → ((b : Answers) → AgreeOn c.answers b (asked o)
        → answer_with (ask (answering b c)) (answer (answering b c)) (answering b c) ≡ answer_with o r (answering b c))
        → HearsCall (λ c. answer_with (ask c) (answer c) c) c x t
    by_ask None (Err fault) e is = absurd cc
    by_ask (Some a) (Err fault) e is = absurd cc
    by_ask None (Ok value) e is =
        let both : (value, c) ≡ (x, t) = one_given (Plain × State) SdkFault (value, c) (x, t) e in
        let given : value ≡ x = ap (λ (r : Plain × State). r.0) both in
        let state : c ≡ t = ap (λ (r : Plain × State). r.1) both in
        subst (λ u. HearsCall (λ c. answer_with (ask c) (answer c) c) c x u) state
        (subst (λ v. HearsCall (λ c. answer_with (ask c) (answer c) c) c v c) given (record {
          later = [];
          asks = sym (append-nil c.asks);
          answers = refl;
          same = λ b agree. is b agree;
        }))
    by_ask (Some a) (Ok value) e is =
        let both : (value, with_ask a c) ≡ (x, t) = one_given (Plain × State) SdkFault (value, with_ask a c) (x, t) e in
        let given : value ≡ x = ap (λ (r : Plain × State). r.0) both in
        let state : with_ask a c ≡ t = ap (λ (r : Plain × State). r.1) both in
        subst (λ u. HearsCall (λ c. answer_with (ask c) (answer c) c) c x u) state
        (subst (λ v. HearsCall (λ c. answer_with (ask c) (answer c) c) c v (with_ask a c)) given (record {
          later = a ∷ [];
          asks = refl;
          answers = refl;
          same = λ b agree. is b agree;
        }))

pub method_heard : (v : Plain) (name : List ℕ) (args : List Plain) → CallsHeard (λ c. method_of c v name args)
unfolding method_of
method_heard v name args =
    answered_heard (λ c. function_ask_named c v (member_named name)) (λ c. method_answer c v name args)
    (λ b c. ask_same b c v (member_named name)) (λ b c agree. method_same b c v name args agree)
