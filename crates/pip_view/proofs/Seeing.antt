-- What a view answers, from what it keeps.
use Rattle.std.proofs.Common.{◌≡◌, ◌⊎◌, ◌<◌, ℕ, Bool, true, false, ◌||◌, cond, List, [], ◌∷◌, ◌++◌, filter, length, Option, Some, None, refl, ap, sym, ◌∙◌, subst, inl, inr}
use Rattle.std.specs.Prelude.{is_some, slice_get}
use Rattle.std.specs.List.{filter_map, list_any}
use Rattle.std.specs.List.Sorted.{IsStrictlySortedBy}
use Rattle.std.proofs.lemmas.Bool.{false≢true}
use Rattle.bx_tree.specs.Paths.{Atoms, is_root}
use Rattle.bx_tree.specs.Trees.{Files, file_at, paths_of}
use Rattle.bx_tree.specs.Members.{Has}
use Rattle.bx_tree.proofs.Sets.{contains_has, has_contained}
use Rattle.bx_path.specs.Globbing.{is_match}
use Rattle.observed.specs.Asks.{asked_names, is_listing}
use Rattle.observed.specs.declared.access.Answer.{Answer}
use Rattle.observed.specs.declared.access.Answer.TheVariants as answers
use Rattle.observed.specs.declared.ask.Ask.{Ask}
use Rattle.observed.specs.declared.ask.AskKind.{AskKind}
use Rattle.observed.specs.declared.ask.AskKind.TheVariants as kinds
use Rattle.bx_tree.specs.Below.{is_below, next_atom}
use Rattle.bx_tree.proofs.Lists.{no_such_place}
use Rattle.bx_tree.proofs.Members.{has_either}
use Rattle.tool_run_writes.specs.Writes.{has_below, own_names}
use Rattle.violations.specs.Producing.{dirs_at, least_unseen}
use Rattle.pip_model_types.specs.declared.pip.Pip.{Pip}
use Rattle.pip_model_types.specs.declared.pip.PipKind.{PipKind}
use Rattle.pip_model_types.specs.declared.pip.ProcessDesc.{ProcessDesc}
use Rattle.pip_model_types.specs.declared.pip.PipKind.TheVariants.{Process, Copy, Write, Seal}
use Rattle.tool_run.specs.Listings.{add_names, names_text}
use Rattle.pip_view.specs.InputFiles.{input_files, is_source_of}
use Rattle.pip_view.specs.Sees.{as_input, as_source, looked, names_below, pip_sees}
use Rattle.pip_view.specs.Seen.{AnswerAs, ViewData, answer_by_source, answer_elsewhere, answer_unnamed, is_sealed_at, is_unseen_at, named_by, named_in, names_in, opaque_by, opaque_in, taken_by, taken_in, view_answers}
use Rattle.pip_view_inputs.specs.Plain.{kind_process, process_in}
use Rattle.pip_view.proofs.ByPip.{named_split}
use Rattle.tool_run.specs.NameSets.{IsNameSet}
use Rattle.tool_run.proofs.NameSets.{added_after, one_addition, set_has, set_kept}
use Rattle.pip_view.proofs.Together.{below_sources, names_sources}
use Rattle.pip_view.proofs.SourceMembers.{at_both, below_both, names_both, or_else, sealed_at, sealed_below, sealed_names, sealed_sources}
use Rattle.pip_model_types.specs.Kinds.{taken_dirs}

-- the input files are the named ones, and the members of seals of source files
all_inputs : (v : ViewData) (kind : PipKind) → input_files v.pips v.tree v.inputs kind ≡ named_by v (kind_process kind) ++ sealed_sources v.pips v.tree v.inputs (taken_dirs kind)
all_inputs v (Process d) = refl
all_inputs v (Copy d) = refl
all_inputs v (Write d) = refl
all_inputs v (Seal d) = refl

-- a read or a probe
abbrev pub IsLook : AskKind → Type 0
IsLook kinds.Read = Unit {0}
IsLook kinds.Probe = Unit {0}
IsLook kinds.List = ⊥
IsLook (kinds.Match pattern) = ⊥

-- where something lies below a path: the source files that are members add nothing
lies_somewhere : (tree named sealed root : Bool) → (sealed ≡ true → tree ≡ true) → (tree || (named || sealed) || root) ≡ (named || root || tree)
lies_somewhere true true s true f = refl
lies_somewhere true true s false f = refl
lies_somewhere true false s true f = refl
lies_somewhere true false s false f = refl
lies_somewhere false true s true f = refl
lies_somewhere false true s false f = refl
lies_somewhere false false true r f = absurd (false≢true (f refl))
lies_somewhere false false false true f = refl
lies_somewhere false false false false f = refl

empty_set : IsNameSet []
unfolding IsStrictlySortedBy
empty_set = tt

-- ## A read or a probe

-- what is answered where no named input file is at the path
unnamed_is : (v : ViewData) (kind : AskKind) (path : Atoms) (below dir : Bool) → dir ≡ (below || is_root path || has_below v.tree path)
    → (source : Option (List ℕ))
    → looked kind (cond (is_sealed_at v path) source None) (is_some source) (is_unseen_at v path) dir ≡ answer_by_source v kind path below source
unnamed_is v kind path below dir e (Some bytes) = by_seal (is_sealed_at v path)
  where
    by_seal : (t : Bool) → looked kind (cond t (Some bytes) None) true (is_unseen_at v path) dir ≡ cond t (as_input kind bytes) (as_source kind)
    by_seal true = refl
    by_seal false = refl
unnamed_is v kind path below dir e None = by_seal (is_sealed_at v path)
  where
    by_seal : (t : Bool) → looked kind (cond t None None) false (is_unseen_at v path) dir ≡ answer_elsewhere v path below
    by_seal true = ap (λ d. cond (is_unseen_at v path) answers.Denied (cond d answers.Directory answers.Absent)) e
    by_seal false = ap (λ d. cond (is_unseen_at v path) answers.Denied (cond d answers.Directory answers.Absent)) e

-- what is answered by the named input file at the path, if there is one
abbrev pub by_file : ViewData → AskKind → Atoms → Bool → Option (List ℕ) → Answer
by_file v kind path below (Some bytes) = as_input kind bytes
by_file v kind path below None = answer_unnamed v kind path below

looked_is : (v : ViewData) (kind : AskKind) (path : Atoms) (below dir : Bool) → dir ≡ (below || is_root path || has_below v.tree path)
    → (own : Option (List ℕ))
    → looked kind (or_else own (cond (is_sealed_at v path) (file_at v.tree path) None)) (is_some (file_at v.tree path)) (is_unseen_at v path) dir
    ≡ by_file v kind path below own
looked_is v kind path below dir e (Some bytes) = refl
looked_is v kind path below dir e None = unnamed_is v kind path below dir e (file_at v.tree path)

-- ## The pip of a view

-- the files of a view answer as the input files of its pip that are named
record Keeps (v : ViewData) (files : Files) (pip : Pip) : Type 0 where
  is : slice_get v.pips v.pip ≡ Some pip
  answer : AnswerAs files (named_by v (kind_process pip.kind))

keeps_of : (v : ViewData) (files : Files) → AnswerAs files (named_in v) → v.pip < length v.pips → (pip : Pip) × Keeps v files pip
keeps_of v files h l = by_pip (slice_get v.pips v.pip) refl
  where
    by_pip : (o : Option Pip) → slice_get v.pips v.pip ≡ o → (pip : Pip) × Keeps v files pip
    by_pip None e = absurd (no_such_place v.pips v.pip l e)
    by_pip (Some pip) e = (pip, record { is = e; answer = subst (λ o. AnswerAs files (named_by v (process_in o))) e h })

module _ (v : ViewData) (files : Files) (pip : Pip) (h : Keeps v files pip) (path : Atoms) where
  abbrev inputs : Files
  inputs = input_files v.pips v.tree v.inputs pip.kind

  abbrev sealed : Files
  sealed = sealed_sources v.pips v.tree v.inputs (taken_dirs pip.kind)

  dirs : taken_dirs pip.kind ≡ dirs_at (slice_get v.pips v.pip)
  dirs = ap dirs_at (sym h.is)

  at_path : file_at inputs path ≡ or_else (file_at files path) (cond (is_sealed_at v path) (file_at v.tree path) None)
  at_path =
      ap (λ (fs : Files). file_at fs path) (all_inputs v pip.kind)
      ∙ at_both (named_by v (kind_process pip.kind)) sealed path
      ∙ ap (λ o. or_else o (file_at sealed path)) (sym (h.answer.contents path))
      ∙ ap (or_else (file_at files path)) (sealed_at v.pips v.tree v.inputs (taken_dirs pip.kind) path
      ∙ ap (λ ds. cond (list_any (is_source_of path) ds) (file_at v.tree path) None) dirs)

  below_path : (has_below v.tree path || has_below inputs path || is_root path) ≡ (has_below files path || is_root path || has_below v.tree path)
  below_path =
      ap (λ t. has_below v.tree path || t || is_root path)
      (ap (λ (fs : Files). has_below fs path) (all_inputs v pip.kind)
      ∙ below_both (named_by v (kind_process pip.kind)) sealed path
      ∙ ap (λ t. t || has_below sealed path) (sym (h.answer.directories path)))
      ∙ lies_somewhere (has_below v.tree path) (has_below files path) (has_below sealed path) (is_root path)
      (sealed_below v.pips v.tree v.inputs (taken_dirs pip.kind) path)

  unseen_path : is_some (least_unseen (taken_dirs pip.kind) v.pip path 0 v.pips) ≡ is_unseen_at v path
  unseen_path = ap (λ ds. is_some (least_unseen ds v.pip path 0 v.pips)) dirs

  look : (kind : AskKind)
      → looked kind (file_at inputs path) (is_some (file_at v.tree path)) (is_some (least_unseen (taken_dirs pip.kind) v.pip path 0 v.pips))
      (has_below v.tree path || has_below inputs path || is_root path)
      ≡ by_file v kind path (has_below files path) (file_at files path)
  look kind =
      ap (λ o. looked kind o (is_some (file_at v.tree path)) (is_some (least_unseen (taken_dirs pip.kind) v.pip path 0 v.pips))
      (has_below v.tree path || has_below inputs path || is_root path)) at_path
      ∙ ap (λ u. looked kind (or_else (file_at files path) (cond (is_sealed_at v path) (file_at v.tree path) None)) (is_some (file_at v.tree path)) u
      (has_below v.tree path || has_below inputs path || is_root path)) unseen_path
      ∙ looked_is v kind path (has_below files path) (has_below v.tree path || has_below inputs path || is_root path) below_path (file_at files path)

  seen : (kind : AskKind) → IsLook kind
      → view_answers v (record { kind = kind; path = path }) ≡ by_file v kind path (has_below files path) (file_at files path)
  seen kinds.Read k = ap (λ o. pip_sees v.pips v.tree v.inputs v.pip o (record { kind = kinds.Read; path = path })) h.is ∙ look kinds.Read
  seen kinds.Probe k = ap (λ o. pip_sees v.pips v.tree v.inputs v.pip o (record { kind = kinds.Probe; path = path })) h.is ∙ look kinds.Probe
  seen kinds.List k = absurd k
  seen (kinds.Match pattern) k = absurd k

  -- ## A listing

  into : (n : List ℕ) → Has (own_names inputs path) n → Has (add_names [] (own_names v.tree path)) n ⊎ Has (own_names files path) n
  into n m = elim (has_either (own_names (named_by v (kind_process pip.kind)) path) (own_names sealed path) n
      (subst (λ (ns : List (List ℕ)). Has ns n) (ap (λ (fs : Files). own_names fs path) (all_inputs v pip.kind) ∙ names_both (named_by v (kind_process pip.kind)) sealed path) m)) [
        | inl a ↦ inr (has_contained (own_names files path) n ((h.answer.names path n).1 (contains_has (own_names (named_by v (kind_process pip.kind)) path) n a)))
        | inr b ↦ inl (set_has (own_names v.tree path) n (sealed_names v.pips v.tree v.inputs (taken_dirs pip.kind) path n b))
      ]

  back : (n : List ℕ) → Has (own_names files path) n → Has (add_names [] (own_names v.tree path)) n ⊎ Has (own_names inputs path) n
  back n m = inr (subst (λ (ns : List (List ℕ)). Has ns n)
      (sym (ap (λ (fs : Files). own_names fs path) (all_inputs v pip.kind) ∙ names_both (named_by v (kind_process pip.kind)) sealed path))
      (on_left (own_names (named_by v (kind_process pip.kind)) path) (own_names sealed path) n
      (has_contained (own_names (named_by v (kind_process pip.kind)) path) n ((h.answer.names path n).0 (contains_has (own_names files path) n m)))))
    where
      on_left : (xs ys : List (List ℕ)) (n : List ℕ) → Has xs n → Has (xs ++ ys) n
      on_left [] ys n h = absurd h
      on_left (x ∷ xs) ys n (inl e) = inl e
      on_left (x ∷ xs) ys n (inr h) = inr (on_left xs ys n h)

  names_are : names_below v.tree inputs path ≡ add_names (add_names [] (own_names v.tree path)) (own_names files path)
  names_are =
      added_after (own_names v.tree path) (own_names inputs path) []
      ∙ one_addition (add_names [] (own_names v.tree path)) (own_names inputs path) (own_names files path)
      (set_kept (own_names v.tree path) [] empty_set) into back

  listed : (kind : AskKind) → is_listing kind ≡ true → view_answers v (record { kind = kind; path = path })
      ≡ answers.Names (names_text (asked_names kind (add_names (add_names [] (own_names v.tree path)) (own_names files path))))
  listed kinds.Read k = cc
  listed kinds.Probe k = cc
  listed kinds.List k =
      ap (λ o. pip_sees v.pips v.tree v.inputs v.pip o (record { kind = kinds.List; path = path })) h.is
      ∙ ap (λ (ns : List (List ℕ)). answers.Names (names_text ns)) names_are
  listed (kinds.Match pattern) k =
      ap (λ o. pip_sees v.pips v.tree v.inputs v.pip o (record { kind = kinds.Match pattern; path = path })) h.is
      ∙ ap (λ (ns : List (List ℕ)). answers.Names (names_text (filter (is_match pattern) ns))) names_are

-- ## What a view answers

pub look_from : (kind : AskKind) → is_listing kind ≡ false → IsLook kind
look_from kinds.Read n = tt
look_from kinds.Probe n = tt
look_from kinds.List n = cc
look_from (kinds.Match pattern) n = cc

pub view_looks : (v : ViewData) (files : Files) → AnswerAs files (named_in v) → v.pip < length v.pips → (kind : AskKind) → IsLook kind → (path : Atoms)
    → view_answers v (record { kind = kind; path = path }) ≡ by_file v kind path (has_below files path) (file_at files path)
view_looks v files h l kind k path = let keeps = keeps_of v files h l in seen v files keeps.0 keeps.1 path kind k

pub view_lists : (v : ViewData) (files : Files) → AnswerAs files (named_in v) → v.pip < length v.pips → (kind : AskKind) → is_listing kind ≡ true → (path : Atoms)
    → view_answers v (record { kind = kind; path = path })
    ≡ answers.Names (names_text (asked_names kind (add_names (add_names [] (own_names v.tree path)) (own_names files path))))
view_lists v files h l kind k path = let keeps = keeps_of v files h l in listed v files keeps.0 keeps.1 path kind k

-- ## By the files that the pip takes by name, and the members of opaque directories

itself : (files : Files) → AnswerAs files files
itself files = record { contents = λ p. refl; directories = λ p. refl; names = λ p n. (λ h. h, λ h. h) }

-- the named input files are those that the pip takes by name, and the members of opaque directories
named_are : (v : ViewData) (o : Option ProcessDesc) → named_by v o ≡ taken_by v o ++ opaque_by v o
named_are v None = refl
named_are v (Some d) = named_split v.pips v.tree v.inputs d

split_in : (v : ViewData) → named_in v ≡ taken_in v ++ opaque_in v
split_in v = named_are v (process_in (slice_get v.pips v.pip))

-- the names that are gathered for a listing
pub names_gathered : (v : ViewData) (sources : List Atoms) (dir : Atoms) (none first more both : List (List ℕ))
    → sources ≡ paths_of v.tree → none ≡ [] → first ≡ none ++ filter_map (next_atom dir) sources
    → more ≡ first ++ own_names (taken_in v) dir → both ≡ more ++ own_names (opaque_in v) dir → add_names [] both ≡ names_in v dir
names_gathered v sources dir none first more both are_sources empty is_first is_more is_both =
    let own = own_names v.tree dir in
    let taken = own_names (taken_in v) dir in
    let opaque = own_names (opaque_in v) dir in
    let is_own : first ≡ own =
    is_first ∙ ap (λ (ns : List (List ℕ)). ns ++ filter_map (next_atom dir) sources) empty
    ∙ ap (filter_map (next_atom dir)) are_sources ∙ names_sources dir v.tree in
    ap (add_names []) (is_both ∙ ap (λ (ns : List (List ℕ)). ns ++ opaque) (is_more ∙ ap (λ (ns : List (List ℕ)). ns ++ taken) is_own))
    ∙ added_after (own ++ taken) opaque []
    ∙ ap (λ (ns : List (List ℕ)). add_names ns opaque) (added_after own taken [])

names_are_in : (v : ViewData) (dir : Atoms) → names_in v dir ≡ add_names (add_names [] (own_names v.tree dir)) (own_names (named_in v) dir)
names_are_in v dir =
    sym (added_after (own_names (taken_in v) dir) (own_names (opaque_in v) dir) (add_names [] (own_names v.tree dir)))
    ∙ ap (add_names (add_names [] (own_names v.tree dir)))
    (sym (ap (λ (fs : Files). own_names fs dir) (split_in v) ∙ names_both (taken_in v) (opaque_in v) dir))

-- the answer to a listing
pub names_listed : (v : ViewData) (ask : Ask) (names : List (List ℕ)) (text : List ℕ) → v.pip < length v.pips → is_listing ask.kind ≡ true
    → names ≡ names_in v ask.path → text ≡ names_text (asked_names ask.kind names) → answers.Names text ≡ view_answers v ask
names_listed v ask names text there k are is_text =
    ap answers.Names (is_text ∙ ap (λ (ns : List (List ℕ)). names_text (asked_names ask.kind ns)) (are ∙ names_are_in v ask.path))
    ∙ sym (view_lists v (named_in v) (itself (named_in v)) there ask.kind k ask.path)

at_named : (v : ViewData) (path : Atoms) → file_at (named_in v) path ≡ or_else (file_at (taken_in v) path) (file_at (opaque_in v) path)
at_named v path = ap (λ (fs : Files). file_at fs path) (split_in v) ∙ at_both (taken_in v) (opaque_in v) path

-- the file at a path is one that the pip takes by name, or else a member of an opaque directory
pub named_first : (v : ViewData) (path : Atoms) (bytes : List ℕ) → Some bytes ≡ file_at (taken_in v) path → Some bytes ≡ file_at (named_in v) path
named_first v path bytes e = ap (λ o. or_else o (file_at (opaque_in v) path)) e ∙ sym (at_named v path)

pub named_member : (v : ViewData) (path : Atoms) → None ≡ file_at (taken_in v) path → file_at (opaque_in v) path ≡ file_at (named_in v) path
named_member v path e = ap (λ o. or_else o (file_at (opaque_in v) path)) e ∙ sym (at_named v path)

-- whether a file lies below a path, by those that the pip takes by name and the members of opaque directories
pub below_named : (v : ViewData) (path : Atoms) (t : Bool) → t ≡ has_below (taken_in v) path
    → (t || has_below (opaque_in v) path) ≡ has_below (named_in v) path
below_named v path t e =
    ap (λ b. b || has_below (opaque_in v) path) e
    ∙ sym (ap (λ (fs : Files). has_below fs path) (split_in v) ∙ below_both (taken_in v) (opaque_in v) path)

pub below_first : (v : ViewData) (path : Atoms) (t : Bool) → t ≡ true → t ≡ has_below (taken_in v) path → true ≡ has_below (named_in v) path
below_first v path t there e =
    sym (ap (λ (fs : Files). has_below fs path) (split_in v) ∙ below_both (taken_in v) (opaque_in v) path
    ∙ ap (λ b. b || has_below (opaque_in v) path) (sym e ∙ there))

pub found_answers : (v : ViewData) (ask : Ask) (bytes : List ℕ) → v.pip < length v.pips → is_listing ask.kind ≡ false
    → Some bytes ≡ file_at (named_in v) ask.path → as_input ask.kind bytes ≡ view_answers v ask
found_answers v ask bytes l look e =
    sym (view_looks v (named_in v) (itself (named_in v)) l ask.kind (look_from ask.kind look) ask.path
    ∙ ap (by_file v ask.kind ask.path (has_below (named_in v) ask.path)) (sym e))

pub unnamed_answers : (v : ViewData) (ask : Ask) (below : Bool) → v.pip < length v.pips → is_listing ask.kind ≡ false
    → None ≡ file_at (named_in v) ask.path → below ≡ has_below (named_in v) ask.path → answer_unnamed v ask.kind ask.path below ≡ view_answers v ask
unnamed_answers v ask below l look e is =
    ap (answer_unnamed v ask.kind ask.path) is
    ∙ sym (view_looks v (named_in v) (itself (named_in v)) l ask.kind (look_from ask.kind look) ask.path
    ∙ ap (by_file v ask.kind ask.path (has_below (named_in v) ask.path)) (sym e))

-- whether a path is a directory, where no input file lies below it and it is not the root
pub directory_is : (below root : Bool) (path : Atoms) (tree : Files) (sources : List Atoms) → below ≡ false → root ≡ false → sources ≡ paths_of tree
    → list_any (λ p. is_below p path) sources ≡ (below || root || has_below tree path)
directory_is below root path tree sources b r e =
    ap (list_any (λ p. is_below p path)) e ∙ below_sources path tree
    ∙ sym (ap (λ t. t || root || has_below tree path) b ∙ ap (λ t. t || has_below tree path) r)
