-- The weak texts of two processes of a build have different digests.
use Rattle.std.proofs.Common.{◌≡◌, ◌⊎◌, ℕ, ◌+◌, zero, suc, List, [], ◌∷◌, ◌++◌, map, take, Option, Some, None, refl, sym, ap, ◌∙◌, subst, inl, inr}
use Rattle.std.specs.Prelude.{IsSomeAnd, slice_get}
use Rattle.std.specs.List.{Contains}
use Rattle.std.specs.Option.{option_to_list}
use Rattle.std.proofs.lemmas.Bool.{cases_Bool, cases_order, false≢true}
use Rattle.std.proofs.lemmas.List.Elements.{All-contains}
use Rattle.std.proofs.lemmas.Option.{same_Some, get_or_from_slice_get, slice_get_within}
use Rattle.pip_view.proofs.TakenDirs.{process_is}
use Rattle.bx_tree.specs.Orders.{same_path_decides}
use Rattle.bx_tree.specs.Paths.{Atoms, IsBelow, same_path}
use Rattle.bx_tree.specs.Trees.{Files, IsReserved, paths_of}
use Rattle.bx_tree.specs.declared.file_input.FileInput.{FileInput}
use Rattle.bx_tree.specs.declared.file_input.FileInput.TheVariants.{Source, Made}
use Rattle.bx_io.specs.Holdings.{Holdings}
use Rattle.pip_model_types.specs.Makers.{IsFileAmong, IsPipList, MakesFile, NamesAmong}
use Rattle.pip_model_types.specs.declared.desc.Desc.{Desc}
use Rattle.pip_model_types.specs.declared.dir_inputs.DirInput.{DirInput}
use Rattle.pip_model_types.specs.declared.dir_inputs.DirInput.TheVariants.{Sealed, Opaque}
use Rattle.pip_model_types.specs.declared.dir_inputs.SealForm.{SealForm}
use Rattle.pip_model_types.specs.declared.pip.Pip.{Pip}
use Rattle.pip_model_types.specs.declared.pip.PipKind.{PipKind}
use Rattle.pip_model_types.specs.declared.pip.PipKind.TheVariants.{Process, Copy, Write, Seal}
use Rattle.pip_model_types.specs.declared.pip.ProcessDesc.{ProcessDesc}
use Rattle.graph_check.specs.Descriptions.{description, without_pip}
use Rattle.observed.specs.declared.ask.Ask.{Ask}
use Rattle.observed.specs.declared.access.Answer.{Answer}
use Rattle.graph_check_outputs.specs.OutsideOut.{out_dir}
use Rattle.graph_check_outputs.specs.Outputs.{declared_files}
use Rattle.graph_check_outputs.specs.Outputs as outputs
use Rattle.graph_check.specs.NoSuchSource.{if_source, named_sources, sources_among}
use Rattle.graph_check.specs.Rules.{KeepsRules}
use Rattle.graph_check.specs.Twin.{descriptions}
use Rattle.graph_check.specs.declared.fault.GraphKind.TheVariants as rules
use Rattle.prints.specs.Processes.{numbered_from, weak_parts, with_pip}
use Rattle.prints.specs.ReadWeak.{read_weak_text}
use Rattle.prints.specs.Weak.{weak_text}
use Rattle.prints.specs.declared.weak_parts.WeakParts.{WeakParts}
use Rattle.run_record.specs.Collisions.{NoCollision}
use Rattle.run_record.specs.Digests.{IsReadBack, weak_of}
use Rattle.run_record.proofs.Same.{one_list}
use Rattle.pip_view_inputs.specs.Contents.{input_file}
use Rattle.pip_view_inputs.specs.Plain.{desc_of}
use Rattle.pip_view_inputs.specs.Results.{ByPip}
use Rattle.pip_view_inputs.proofs.TakenFiles.{paths_taken}
use Rattle.one_thread.proofs.Meeting.{declares, kept_below, made_below}
use Rattle.two_phase_meaning.specs.Compared as met
use Rattle.retire_compared.specs.Compared.{Compared, inputs_after}
use Rattle.retire.specs.Runs.{RunsAs, results_before}
use Rattle.retire.proofs.SoFar.{run_met}
use Rattle.bx_tree.specs.FileInputs.{input_path}
use Rattle.bx_tree.specs.Members.{Has}
use Rattle.bx_tree.proofs.Sets.{contains_has, has_contained}
use Rattle.bx_tree.proofs.Members.{has_front}

-- ## Lists

get_taken : {X : Type 0} (xs : List X) (n i : ℕ) (x : X) → slice_get (take n xs) i ≡ Some x → slice_get xs i ≡ Some x
get_taken xs zero zero x e = absurd cc
get_taken xs zero (suc i) x e = absurd cc
get_taken [] (suc n) zero x e = absurd cc
get_taken [] (suc n) (suc i) x e = absurd cc
get_taken (y ∷ ys) (suc n) zero x e = e
get_taken (y ∷ ys) (suc n) (suc i) x e = get_taken ys n i x e

some_there : {X : Type 0} (P : X → Type 0) (o : Option X) → IsSomeAnd o P → (x : X) × (o ≡ Some x) × P x
some_there P None h = absurd h
some_there P (Some x) h = (x, refl, h)

-- ## What a weak text says of files and directories

same_dir : (k : ℕ) (d e : DirInput) → with_pip k d ≡ with_pip k e → without_pip d ≡ without_pip e
same_dir k (Sealed a form root) (Sealed b other at) e =
    let forms : form ≡ other = cc in
    let roots : root ≡ at = cc in
    ap (λ (f : SealForm). Sealed 0 f root) forms ∙ ap (Sealed 0 other) roots
same_dir k (Sealed a form root) (Opaque b path) e = absurd cc
same_dir k (Opaque a path) (Sealed b form root) e = absurd cc
same_dir k (Opaque a path) (Opaque b other) e = let paths : path ≡ other = cc in ap (Opaque 0) paths

same_dirs : (k : ℕ) (ds es : List DirInput) → numbered_from k ds ≡ numbered_from k es → map without_pip ds ≡ map without_pip es
same_dirs k [] [] e = refl
same_dirs k [] (x ∷ es) e = absurd cc
same_dirs k (d ∷ ds) [] e = absurd cc
same_dirs k (d ∷ ds) (x ∷ es) e =
    let first : with_pip k d ≡ with_pip k x = cc in
    let rest : numbered_from (k + 1) ds ≡ numbered_from (k + 1) es = cc in
    ap (λ y. y ∷ map without_pip ds) (same_dir k d x first) ∙ ap (λ ys. without_pip x ∷ ys) (same_dirs (k + 1) ds es rest)

-- ## Files

makes_declared : (kind : PipKind) (path : Atoms) → MakesFile path kind → Has (declared_files kind) path
makes_declared (Process d) path h = has_front d.outs (option_to_list d.console) path (has_contained d.outs path h)
makes_declared (Copy d) path h = inl h
makes_declared (Write d) path h = inl h
makes_declared (Seal d) path h = absurd h

source_among : (files : List FileInput) (path : Atoms) → Has files (Source path) → Has (sources_among files) path
source_among [] path h = absurd h
source_among (f ∷ fs) path h = elim h [
  | inl e ↦ subst (λ (x : FileInput). Has (if_source x ++ sources_among fs) path) (sym e) (inl refl)
  | inr k ↦ later f (source_among fs path k)
]
  where
    later : (x : FileInput) → Has (sources_among fs) path → Has (if_source x ++ sources_among fs) path
    later (Source p) m = inr m
    later (Made p n) m = m

decided : (paths : List Atoms) (path : Atoms) → Has paths path ⊎ (Has paths path → ⊥)
decided [] path = inr (λ h. h)
decided (q ∷ qs) path = elim (cases_Bool (same_path q path)) [
  | inl e ↦ inl (inl ((same_path_decides q path).0 e))
  | inr e ↦ elim (decided qs path) [
    | inl k ↦ inl (inr k)
    | inr none ↦ inr (λ h. elim h [ inl same ↦ false≢true (sym e ∙ (same_path_decides q path).1 same) | inr k ↦ none k ])
  ]
]

module _ (pips : List Pip) (tree : Files) (list : IsPipList pips) (keeps : KeepsRules pips tree)
    (free : (path : Atoms) → Contains (paths_of tree) path → IsReserved path → ⊥) where
  -- a source file is in the tree, and a file that was made is declared by its maker
  abbrev IsKnown : FileInput → Type 0
  IsKnown (Source path) = Contains (paths_of tree) path
  IsKnown (Made path maker) = (pip : Pip) × (slice_get pips maker ≡ Some pip) × Has (declared_files pip.kind) path

  -- no file of the tree is declared
  not_both : (path : Atoms) (maker : ℕ) (pip : Pip) → slice_get pips maker ≡ Some pip → Has (declared_files pip.kind) path → Contains (paths_of tree) path → ⊥
  not_both path maker pip at h there =
      let below : IsBelow path out_dir = made_below pips maker pip path (kept_below pips tree keeps) at (inl h) in
      free path there (below.0, inl below.2)

  one_maker : (path : Atoms) (m n : ℕ) (p q : Pip) → slice_get pips m ≡ Some p → slice_get pips n ≡ Some q → Has (declared_files p.kind) path
      → Has (declared_files q.kind) path → m ≡ n
  one_maker path m n p q at_m at_n h k = elim (cases_order m n) [
    | inl same ↦ same
    | inr other ↦ elim other [
      | inl less ↦ absurd (keeps rules.DoubleProducer n (m, less, (path, declares declared_files pips n q path at_n k, declares declared_files pips m p path at_m h)))
      | inr more ↦ absurd (keeps rules.DoubleProducer m (n, more, (path, declares declared_files pips m p path at_m h, declares declared_files pips n q path at_n k)))
    ]
  ]

  one_input : (f g : FileInput) → IsKnown f → IsKnown g → input_path f ≡ input_path g → f ≡ g
  one_input (Source p) (Source q) k l e = ap Source e
  one_input (Source p) (Made q n) k l e = absurd (not_both q n l.0 l.1 l.2 (subst (Contains (paths_of tree)) e k))
  one_input (Made p m) (Source q) k l e = absurd (not_both p m k.0 k.1 k.2 (subst (Contains (paths_of tree)) (sym e) l))
  one_input (Made p m) (Made q n) k l e =
      let makers = one_maker q m n k.0 l.0 k.1 l.1 (subst (Has (declared_files k.0.kind)) e k.2) l.2 in
      ap (λ x. Made x m) e ∙ ap (Made q) makers

  same_inputs : (fs gs : List FileInput) → ((f : FileInput) → Has fs f → IsKnown f) → ((g : FileInput) → Has gs g → IsKnown g)
      → map input_path fs ≡ map input_path gs → fs ≡ gs
  same_inputs [] [] h k e = refl
  same_inputs [] (g ∷ gs) h k e = absurd cc
  same_inputs (f ∷ fs) [] h k e = absurd cc
  same_inputs (f ∷ fs) (g ∷ gs) h k e =
      let first : input_path f ≡ input_path g = cc in
      let rest : map input_path fs ≡ map input_path gs = cc in
      ap (λ x. x ∷ fs) (one_input f g (h f (inl refl)) (k g (inl refl)) first)
      ∙ ap (λ xs. g ∷ xs) (same_inputs fs gs (λ x m. h x (inr m)) (λ x m. k x (inr m)) rest)

  -- the files of process i are known
  names_before : (i : ℕ) (pip : Pip) → slice_get pips i ≡ Some pip → NamesAmong (take i pips) pip.kind
  names_before i pip at =
      subst (λ (p : Pip). NamesAmong (take i pips) p.kind) (get_or_from_slice_get pips i pip pip at) (list i (slice_get_within pips i pip at) pip)

  in_tree : (i : ℕ) (pip : Pip) (path : Atoms) → slice_get pips i ≡ Some pip → Has (named_sources pip.kind) path → Contains (paths_of tree) path
  in_tree i pip path at h = elim (decided (paths_of tree) path) [
    | inl there ↦ contains_has (paths_of tree) path there
    | inr none ↦
        absurd (keeps rules.NoSuchSource i (path, declares named_sources pips i pip path at h, λ c. none (has_contained (paths_of tree) path c)))
  ]

  known : (i : ℕ) (pip : Pip) (p : ProcessDesc) → slice_get pips i ≡ Some pip → pip.kind ≡ Process p → (f : FileInput) → Has p.files f → IsKnown f
  known i pip p at is f h =
      by_form f h (All-contains (IsFileAmong (take i pips)) p.files f
      (subst (λ (k : PipKind). NamesAmong (take i pips) k) is (names_before i pip at)).0 (contains_has p.files f h))
    where
      by_form : (f : FileInput) → Has p.files f → IsFileAmong (take i pips) f → IsKnown f
      by_form (Source path) h among =
          in_tree i pip path at (subst (λ (k : PipKind). Has (named_sources k) path) (sym is) (inr (source_among p.files path h)))
      by_form (Made path maker) h among =
          let there = some_there (λ (q : Pip). MakesFile path q.kind) (slice_get (take i pips) maker) among in
          (there.0, get_taken pips i maker there.0 there.1, makes_declared there.0.kind path there.2)

  -- ## Processes

  -- what weak texts say tells processes apart as their descriptions do
  one_description : (i j : ℕ) (a b : Pip) (p q : ProcessDesc) (made others : ByPip) (budget : ℕ) → slice_get pips i ≡ Some a → slice_get pips j ≡ Some b
      → a.kind ≡ Process p → b.kind ≡ Process q → weak_parts (desc_of tree made budget p) ≡ weak_parts (desc_of tree others budget q)
      → description p ≡ description q
  one_description i j a b p q made others budget at_i at_j is_p is_q w =
      let exe : p.exe ≡ q.exe = ap (λ (x : WeakParts). x.process.exe) w in
      let args : p.args ≡ q.args = ap (λ (x : WeakParts). x.process.args) w in
      let env : p.env ≡ q.env = ap (λ (x : WeakParts). x.process.env) w in
      let dir : p.dir ≡ q.dir = ap (λ (x : WeakParts). x.process.dir) w in
      let outs : p.outs ≡ q.outs = ap (λ (x : WeakParts). x.process.outs) w in
      let outdirs : p.outdirs ≡ q.outdirs = ap (λ (x : WeakParts). x.process.outdirs) w in
      let console : p.console ≡ q.console = ap (λ (x : WeakParts). x.process.console) w in
      let dirs : map without_pip p.dirs ≡ map without_pip q.dirs = same_dirs 0 p.dirs q.dirs (ap (λ (x : WeakParts). x.process.dirs) w) in
      let paths : paths_of (map (input_file tree made) p.files) ≡ paths_of (map (input_file tree others) q.files) =
      one_list (paths_of (map (input_file tree made) p.files)) (paths_of (map (input_file tree others) q.files)) (ap (λ (x : WeakParts). x.process.files) w) in
      let files : p.files ≡ q.files =
      same_inputs p.files q.files (known i a p at_i is_p) (known j b q at_j is_q)
      (sym (paths_taken tree made p.files) ∙ paths ∙ paths_taken tree others q.files) in
      cc

  described : (i : ℕ) (a : Pip) (p : ProcessDesc) → slice_get pips i ≡ Some a → a.kind ≡ Process p → outputs.PipHas descriptions pips i (description p)
  described i a p at is =
      declares descriptions pips i a (description p) at (subst (λ (k : PipKind). Has (descriptions k) (description p)) (sym is) (inl refl))

  twins : (i j : ℕ) (a b : Pip) (p q : ProcessDesc) → slice_get pips i ≡ Some a → slice_get pips j ≡ Some b → a.kind ≡ Process p → b.kind ≡ Process q
      → description p ≡ description q → i ≡ j
  twins i j a b p q at_i at_j is_p is_q same =
      let one = described i a p at_i is_p in
      let other = subst (outputs.PipHas descriptions pips j) (sym same) (described j b q at_j is_q) in
      elim (cases_order i j) [
        | inl e ↦ e
        | inr differ ↦ elim differ [
          | inl less ↦ absurd (keeps rules.Twin j (i, less, (description p, other, one)))
          | inr more ↦ absurd (keeps rules.Twin i (j, more, (description p, one, other)))
        ]
      ]

  -- Two processes of the build of which the weak texts say the same are one.
  one_by_parts : (budget : ℕ) (i j : ℕ) (d e : Desc) (see view : Ask → Answer) → RunsAs pips tree budget i d see → RunsAs pips tree budget j e view
      → weak_parts d ≡ weak_parts e → i ≡ j
  one_by_parts budget i j d e see view runs others parts =
      let a = process_is (slice_get pips i) runs.process runs.is_process in
      let b = process_is (slice_get pips j) others.process others.is_process in
      twins i j a.0 b.0 runs.process others.process a.1 b.1 a.2 b.2
      (one_description i j a.0 b.0 runs.process others.process
      (inputs_after pips (Process runs.process) (results_before pips tree budget i))
      (inputs_after pips (Process others.process) (results_before pips tree budget j)) budget a.1 b.1 a.2 b.2
      (ap weak_parts runs.desc_is ∙ parts ∙ ap weak_parts (sym others.desc_is)))

  pub one_described : (budget : ℕ) (i j : ℕ) (d e : Desc) (see view : Ask → Answer) → RunsAs pips tree budget i d see → RunsAs pips tree budget j e view → d ≡ e → i ≡ j
  one_described budget i j d e see view runs others same = one_by_parts budget i j d e see view runs others (ap weak_parts same)

  -- Two processes of the build whose weak texts have one digest are one.
  pub one_process : (budget : ℕ) (S : Holdings) (i j : ℕ) (d e : Desc) (see view : Ask → Answer) → NoCollision (Compared pips tree budget S)
      → RunsAs pips tree budget i d see → RunsAs pips tree budget j e view → IsReadBack d → IsReadBack e → weak_of d ≡ weak_of e → i ≡ j
  one_process budget S i j d e see view apart runs others read_d read_e same =
      let text : weak_text (weak_parts d) ≡ weak_text (weak_parts e) =
      apart (weak_text (weak_parts d)) (weak_text (weak_parts e))
      (run_met pips tree budget S (weak_text (weak_parts d)) i d see runs (met.weak refl))
      (run_met pips tree budget S (weak_text (weak_parts e)) j e view others (met.weak refl)) same in
      let parts : weak_parts d ≡ weak_parts e =
      same_Some (weak_parts d) (weak_parts e) (sym read_d ∙ ap read_weak_text text ∙ read_e) in
      one_by_parts budget i j d e see view runs others parts
