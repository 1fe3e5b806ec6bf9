-- What is compared by digest in a build over a store, as one list.
use Rattle.std.specs.Prelude.{ℕ, ◌+◌, if◌then◌else◌, List, [], ◌∷◌, ◌++◌, map, Option, Some, None}
use Rattle.std.specs.FinMap.{get, values}
use Rattle.std.specs.List.{flat_map}
use Rattle.sha2.specs.Sha256.{sha256}
use Rattle.bx_tree.specs.Trees.{Files}
use Rattle.bx_io.specs.Holdings.{Holdings}
use Rattle.pip_model_types.specs.declared.desc.Desc.{Desc}
use Rattle.pip_model_types.specs.declared.pip.Pip.{Pip}
use Rattle.pip_model_types.specs.declared.pip.PipKind.{PipKind}
use Rattle.pip_model_types.specs.declared.pip.PipKind.TheVariants.{Process, Copy, Write, Seal}
use Rattle.observed.specs.Texts.{paths_text, read_paths_text}
use Rattle.observed.specs.declared.ask.Ask.{Ask}
use Rattle.observed.specs.declared.access.Answer.{Answer}
use Rattle.tool_run.specs.Described.{described}
use Rattle.prints.specs.Processes.{weak_parts}
use Rattle.prints.specs.Weak.{weak_text}
use Rattle.memo_format.specs.StoreNames.{at_blob}
use Rattle.memo_format.specs.declared.selector.Selector.{Selector}
use Rattle.run_record.specs.Collisions.{contents_of}
use Rattle.run_record.specs.Digests.{weak_of}
use Rattle.run_record.specs.Facts.{run_for}
use Rattle.run_record.specs.Outcomes.{outcome_of}
use Rattle.two_phase_meaning.specs.Compared.{own_paths}
use Rattle.two_phase_meaning.specs.Contents.{desc_contents, given_contents}
use Rattle.two_phase_meaning.specs.Saving.{list_at, outcome_files}
use Rattle.two_phase_meaning.specs.Usable.{asked_text}
use Rattle.one_thread.specs.OneThread.{Result, inputs_are_good, result_of}
use Rattle.retire_compared.specs.Compared.{desc_after, view_after}

-- a path set with the digest of its text
pub record NamedPaths : Type 0 where
  pub digest : List ℕ
  pub asks : List Ask

-- the path set of this digest that a text says, if it says one
abbrev pub paths_said : List ℕ → Option (List Ask) → List NamedPaths
paths_said digest None = []
paths_said digest (Some asks) = record { digest = digest; asks = asks } ∷ []

abbrev pub paths_in : List ℕ → Option (List ℕ) → List NamedPaths
paths_in digest None = []
paths_in digest (Some text) = paths_said digest (read_paths_text text)

-- the path sets that are asked at a process: that of its run, and those that its selectors name, as they are held
abbrev pub path_sets : Holdings → Desc → (Ask → Answer) → List NamedPaths
path_sets S d see =
    record { digest = sha256 (paths_text (own_paths d see)); asks = own_paths d see }
    ∷ flat_map (λ (s : Selector). paths_in s.paths (get S (at_blob s.paths))) (list_at S (weak_of d))

-- the strong text of asking a path set now, and the contents and names that it is answered
abbrev pub asked_contents : Desc → (Ask → Answer) → NamedPaths → List (List ℕ)
asked_contents d see p = asked_text d see p.digest p.asks ∷ given_contents (map see p.asks)

-- what is compared at one process on its view
abbrev pub run_list : Holdings → Desc → (Ask → Answer) → List (List ℕ)
run_list S d see =
    weak_text (weak_parts d) ∷ paths_text (own_paths d see)
    ∷ (desc_contents d
    ++ (flat_map (asked_contents d see) (path_sets S d see)
    ++ contents_of (outcome_files (outcome_of (described d) (run_for d see)))))

-- what is compared at pip i, where these are the results of the pips before it
abbrev pub pip_list : List Pip → Files → ℕ → Holdings → List Result → ℕ → PipKind → List (List ℕ)
pip_list pips tree budget S results i (Process d) =
    if inputs_are_good pips (Process d) results
    then run_list S (desc_after pips tree budget results d) (view_after pips tree results i d)
    else []
pip_list pips tree budget S results i (Copy d) = []
pip_list pips tree budget S results i (Write d) = []
pip_list pips tree budget S results i (Seal d) = []

-- what is compared from pip i on, which is the first of these
abbrev pub list_from : List Pip → Files → ℕ → Holdings → List Result → ℕ → List Pip → List (List ℕ)
list_from pips tree budget S results i [] = []
list_from pips tree budget S results i (pip ∷ left) =
    pip_list pips tree budget S results i pip.kind
    ++ list_from pips tree budget S (results ++ result_of pips tree budget results i pip.kind ∷ []) (i + 1) left

-- what the store holds, and what is compared at each process that is not skipped
abbrev pub compared_list : List Pip → Files → ℕ → Holdings → List (List ℕ)
compared_list pips tree budget S = values S ++ list_from pips tree budget S [] 0 pips
