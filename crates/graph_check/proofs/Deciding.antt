-- Tests that say at which pip each rule fails. They make the law that pips keep the rules or have a first fault, and
-- compute the worked examples.
use Rattle.std.proofs.Common.{inl, inr, ◌⊎◌, ◌≡◌, ◌∙◌, ℕ, zero, suc, ◌<◌, Bool, true, false, ◌&&◌, ◌||◌, not, IsTrue, List, [], ◌∷◌, length, map, get_or, Some, None, arith, refl, ap, subst, sym}
use Rattle.std.specs.Prelude.{Option, IsSomeAnd, slice_get, nat_eq, nat_lt}
use Rattle.std.specs.Bool.{Decides}
use Rattle.std.specs.List.{Any, Contains, list_any}
use Rattle.std.specs.Ordering.{is_eq}
use Rattle.std.specs.Cmp.{Equal-is}
use Rattle.std.proofs.lemmas.Bool.{cases_lt, false≢true}
use Rattle.std.proofs.lemmas.Bool.Decides.{Decides-and, Decides-or, Decides-not, Decides-eqb, Decides-ltb}
use Rattle.std.proofs.lemmas.List.Folds.{Any-from_list_any, list_any-from_Any}
use Rattle.bx_tree.specs.Below.{IsAtOrBelow, is_at_or_below, is_below}
use Rattle.bx_tree.specs.Paths.{Atoms, IsBelow, same_path}
use Rattle.bx_tree.proofs.BelowPaths.{below_decides}
use Rattle.bx_tree.specs.Orders.{same_path_decides}
use Rattle.bx_tree.specs.Trees.{Files, paths_of}
use Rattle.pip_model_types.specs.declared.dir_inputs.DirInput.{DirInput}
use Rattle.pip_model_types.specs.declared.dir_inputs.DirInput.TheVariants.{Sealed, Opaque}
use Rattle.pip_model_types.specs.declared.outputs.OutDir.{OutDir}
use Rattle.pip_model_types.specs.declared.pip.Pip.{Pip}
use Rattle.pip_model_types.specs.declared.pip.PipKind.{PipKind}
use Rattle.pip_model_types.specs.declared.pip.PipKind.TheVariants.{Process, Copy, Write, Seal}
use Rattle.pip_model_types.specs.declared.pip.ProcessDesc.{ProcessDesc}
use Rattle.pip_model_types.specs.declared.pip.SealDesc.{SealDesc}
use Rattle.pip_model.specs.declared.plan.TheConstants.{MAX_PIPS}
use Rattle.graph_check.specs.declared.fault.GraphKind.{GraphKind}
use Rattle.graph_check.specs.declared.fault.GraphKind.TheVariants as rules
use Rattle.graph_check_outputs.specs.DoubleProducer.{DoubleProducerAt}
use Rattle.graph_check.specs.NoSuchSource.{NoSuchSourceAt, named_sources}
use Rattle.graph_check.specs.Orders.{described_alike, tied_processes}
use Rattle.graph_check_outputs.specs.Outputs.{PipHas, declared_files, outputs}
use Rattle.graph_check_outputs.specs.OutsideOut.{OutsideOutAt, out_dir}
use Rattle.graph_check_outputs.specs.Overlap.{FileIsDir, IsUnlisted, NestedOutputs, OverlapAt, Overlaps, SealMeetsDir, UnlistedFile, UnsharedDir, full_seals}
use Rattle.graph_check_outputs.specs.Overlap.Overlaps.{Nested, OnePath, Unshared, Unlisted, Meets}
use Rattle.graph_check.specs.Rules.{FailsAt}
use Rattle.graph_check.specs.Twin.{TwinAt, descriptions}
use Rattle.graph_check.specs.Descriptions.{description, without_pip}
use Rattle.graph_check.specs.ProcessOrder.{process_cmp}
use Rattle.graph_check_outputs.proofs.Unsharing.{has_along}
use Rattle.pip_model_types.specs.Kinds.{outdirs_of}
use Rattle.bx_tree.specs.FileInputs.{input_path}

-- ## Tests of what pips have

-- a test of a fact is a test of each fact that is equivalent to it
along : {P Q : Type 0} (b : Bool) → Decides b P → (P → Q) → (Q → P) → Decides b Q
along b d to from = (λ t. to (d.0 t), λ q. d.1 (from q))

abbrev pub any_at : {X : Type 0} → (PipKind → List X) → (X → Bool) → Option Pip → Bool
any_at items p None = false
any_at items p (Some pip) = list_any p (items pip.kind)

-- pip i has an item that passes the test
abbrev pub any_item : {X : Type 0} → (PipKind → List X) → (X → Bool) → List Pip → ℕ → Bool
any_item items p pips i = any_at items p (slice_get pips i)

decides_at : {X : Type 0} (items : PipKind → List X) (p : X → Bool) (P : X → Type 0) → ((x : X) → Decides (p x) (P x)) → (o : Option Pip)
    → Decides (any_at items p o) ((x : X) × IsSomeAnd o (λ (pip : Pip). Contains (items pip.kind) x) × P x)
decides_at items p P each None = (λ e. absurd (false≢true e), λ (x, h, q). absurd h)
decides_at items p P each (Some pip) = (
  λ e. found (Any-from_list_any p (items pip.kind) e),
  λ (x, (k, l, is), q). list_any-from_Any p (items pip.kind) (k, x, l, is, (each x).1 q),
)
  where
    found : Any (λ x. p x ≡ true) (items pip.kind) → (x : _) × Contains (items pip.kind) x × P x
    found (k, x, l, is, t) = (x, (k, l, is), (each x).0 t)

pub Decides-any_item : {X : Type 0} (items : PipKind → List X) (p : X → Bool) (P : X → Type 0) → ((x : X) → Decides (p x) (P x))
    → (pips : List Pip) (i : ℕ) → Decides (any_item items p pips i) ((x : X) × PipHas items pips i x × P x)
Decides-any_item items p P each pips i = decides_at items p P each (slice_get pips i)

-- some number below n passes the test
abbrev pub any_below : (ℕ → Bool) → ℕ → Bool
any_below p zero = false
any_below p (suc n) = p n || any_below p n

Decides-any_below : (p : ℕ → Bool) (P : ℕ → Type 0) → ((j : ℕ) → Decides (p j) (P j)) → (n : ℕ) → Decides (any_below p n) ((j : ℕ) × (j < n) × P j)
Decides-any_below p P each zero = (λ e. absurd (false≢true e), λ (j, l, h). absurd (omega (arith, l)))
Decides-any_below p P each (suc n) =
    along (p n || any_below p n) (Decides-or (p n) (any_below p n) (each n) (Decides-any_below p P each n))
    (λ h. elim h [ inl last ↦ (n, omega arith, last) | inr (j, l, before) ↦ (j, omega (arith, l), before) ])
    (λ (j, l, h). elim (cases_lt j n) [
      | inl less ↦ inr (j, less, h)
      | inr more ↦ let here : j ≡ n = omega (arith, l, more) in inl (subst P here h)
    ])

-- ## Tests of paths

Decides-within : (path dir : Atoms) → Decides (is_at_or_below path dir) (IsAtOrBelow path dir)
Decides-within path dir = Decides-or (same_path path dir) (is_below path dir) (same_path_decides path dir) (below_decides path dir)

abbrev pub among_test : Atoms → List Atoms → Bool
among_test path paths = list_any (same_path path) paths

Decides-among : (path : Atoms) (paths : List Atoms) → Decides (among_test path paths) (Contains paths path)
Decides-among path paths = (
  λ t. found (Any-from_list_any (same_path path) paths t),
  λ (k, l, is). list_any-from_Any (same_path path) paths (k, path, l, is, (same_path_decides path path).1 refl),
)
  where
    found : Any (λ x. same_path path x ≡ true) paths → Contains paths path
    found (k, x, l, is, t) = let same = (same_path_decides path x).0 t in subst (Contains paths) (sym same) (k, l, is)

-- ## Tests of each way to overlap

abbrev pub nested_test : List Pip → ℕ → ℕ → Bool
nested_test pips i j = any_item outputs (λ path. any_item outputs (λ dir. is_below path dir) pips j) pips i

Decides-nested : (pips : List Pip) (i j : ℕ) → Decides (nested_test pips i j) (NestedOutputs pips i j)
Decides-nested pips i j =
    along (nested_test pips i j)
    (Decides-any_item outputs (λ path. any_item outputs (λ dir. is_below path dir) pips j) (λ path. (dir : Atoms) × PipHas outputs pips j dir × IsBelow path dir)
    (λ path. Decides-any_item outputs (λ dir. is_below path dir) (λ dir. IsBelow path dir) (λ dir. below_decides path dir) pips j) pips i)
    (λ (path, h, (dir, k, b)). (path, dir, h, k, b)) (λ (path, dir, h, k, b). (path, h, (dir, k, b)))

abbrev pub file_dir_test : List Pip → ℕ → ℕ → Bool
file_dir_test pips i j = any_item declared_files (λ file. any_item outdirs_of (λ (dir : OutDir). same_path file dir.path) pips j) pips i

Decides-file_dir : (pips : List Pip) (i j : ℕ) → Decides (file_dir_test pips i j) (FileIsDir pips i j)
Decides-file_dir pips i j =
    along (file_dir_test pips i j)
    (Decides-any_item declared_files (λ file. any_item outdirs_of (λ (dir : OutDir). same_path file dir.path) pips j)
    (λ file. (dir : OutDir) × PipHas outdirs_of pips j dir × (file ≡ dir.path))
    (λ file. Decides-any_item outdirs_of (λ (dir : OutDir). same_path file dir.path) (λ (dir : OutDir). file ≡ dir.path)
    (λ (dir : OutDir). same_path_decides file dir.path) pips j) pips i)
    (λ (file, h, (dir, k, e)). (file, dir, h, k, e)) (λ (file, dir, h, k, e). (file, h, (dir, k, e)))

abbrev pub apart_test : OutDir → OutDir → Bool
apart_test dir other = same_path dir.path other.path && not (dir.shared && other.shared)

Decides-apart : (dir other : OutDir)
    → Decides (apart_test dir other) ((dir.path ≡ other.path) × (IsTrue dir.shared → IsTrue other.shared → ⊥))
Decides-apart dir other =
    Decides-and (same_path dir.path other.path) (not (dir.shared && other.shared)) (same_path_decides dir.path other.path)
    (not_both dir.shared other.shared)
  where
    not_both : (a b : Bool) → Decides (not (a && b)) (IsTrue a → IsTrue b → ⊥)
    not_both true true = (λ e. absurd (false≢true e), λ h. absurd (h refl refl))
    not_both true false = (λ e t u. false≢true u, λ h. refl)
    not_both false b = (λ e t u. false≢true t, λ h. refl)

abbrev pub unshared_test : List Pip → ℕ → ℕ → Bool
unshared_test pips i j = not (nat_eq i j) && any_item outdirs_of (λ dir. any_item outdirs_of (λ other. apart_test dir other) pips j) pips i

Decides-unshared : (pips : List Pip) (i j : ℕ) → Decides (unshared_test pips i j) (UnsharedDir pips i j)
Decides-unshared pips i j =
    Decides-and (not (nat_eq i j)) (any_item outdirs_of (λ dir. any_item outdirs_of (λ other. apart_test dir other) pips j) pips i)
    (Decides-not (nat_eq i j) (Decides-eqb i j))
    (along (any_item outdirs_of (λ dir. any_item outdirs_of (λ other. apart_test dir other) pips j) pips i)
    (Decides-any_item outdirs_of (λ dir. any_item outdirs_of (λ other. apart_test dir other) pips j)
    (λ (dir : OutDir). (other : OutDir) × PipHas outdirs_of pips j other
    × ((dir.path ≡ other.path) × (IsTrue dir.shared → IsTrue other.shared → ⊥)))
    (λ dir. Decides-any_item outdirs_of (λ other. apart_test dir other)
    (λ (other : OutDir). (dir.path ≡ other.path) × (IsTrue dir.shared → IsTrue other.shared → ⊥)) (λ other. Decides-apart dir other) pips j) pips i)
    (λ (dir, h, (other, k, (e, s))). (dir, other, h, k, e, s)) (λ (dir, other, h, k, e, s). (dir, h, (other, k, (e, s)))))

abbrev pub unlisted_test : List Pip → ℕ → ℕ → Bool
unlisted_test pips i j =
    any_item declared_files
    (λ file. any_item full_seals (λ (seal : SealDesc). is_at_or_below file seal.root && not (among_test file (map input_path seal.files))) pips j) pips i

Decides-unlisted : (pips : List Pip) (i j : ℕ) → Decides (unlisted_test pips i j) (UnlistedFile pips i j)
Decides-unlisted pips i j =
    along (unlisted_test pips i j)
    (Decides-any_item declared_files
    (λ file. any_item full_seals (λ (seal : SealDesc). is_at_or_below file seal.root && not (among_test file (map input_path seal.files))) pips j)
    (λ file. (seal : SealDesc) × PipHas full_seals pips j seal × IsUnlisted seal file)
    (λ file. Decides-any_item full_seals (λ (seal : SealDesc). is_at_or_below file seal.root && not (among_test file (map input_path seal.files)))
    (λ seal. IsUnlisted seal file)
    (λ (seal : SealDesc). Decides-and (is_at_or_below file seal.root) (not (among_test file (map input_path seal.files))) (Decides-within file seal.root)
    (Decides-not (among_test file (map input_path seal.files)) (Decides-among file (map input_path seal.files)))) pips j) pips i)
    (λ (file, h, (seal, k, u)). (file, seal, h, k, u)) (λ (file, seal, h, k, u). (file, h, (seal, k, u)))

abbrev pub seal_test : List Pip → ℕ → ℕ → Bool
seal_test pips i j =
    any_item full_seals
    (λ (seal : SealDesc). any_item outdirs_of (λ (dir : OutDir). is_at_or_below seal.root dir.path || is_below dir.path seal.root) pips j) pips i

Decides-seal : (pips : List Pip) (i j : ℕ) → Decides (seal_test pips i j) (SealMeetsDir pips i j)
Decides-seal pips i j =
    along (seal_test pips i j)
    (Decides-any_item full_seals
    (λ (seal : SealDesc). any_item outdirs_of (λ (dir : OutDir). is_at_or_below seal.root dir.path || is_below dir.path seal.root) pips j)
    (λ (seal : SealDesc). (dir : OutDir) × PipHas outdirs_of pips j dir × (IsAtOrBelow seal.root dir.path ⊎ IsBelow dir.path seal.root))
    (λ (seal : SealDesc). Decides-any_item outdirs_of (λ (dir : OutDir). is_at_or_below seal.root dir.path || is_below dir.path seal.root)
    (λ (dir : OutDir). IsAtOrBelow seal.root dir.path ⊎ IsBelow dir.path seal.root)
    (λ (dir : OutDir). Decides-or (is_at_or_below seal.root dir.path) (is_below dir.path seal.root) (Decides-within seal.root dir.path)
    (below_decides dir.path seal.root)) pips j) pips i)
    (λ (seal, h, (dir, k, m)). (seal, dir, h, k, m)) (λ (seal, dir, h, k, m). (seal, h, (dir, k, m)))

abbrev pub overlaps_test : List Pip → ℕ → ℕ → Bool
overlaps_test pips i j =
    nested_test pips i j || (file_dir_test pips i j || (unshared_test pips i j || (unlisted_test pips i j || seal_test pips i j)))

Decides-overlaps : (pips : List Pip) (i j : ℕ) → Decides (overlaps_test pips i j) (Overlaps pips i j)
Decides-overlaps pips i j =
    along (overlaps_test pips i j)
    (Decides-or (nested_test pips i j) (file_dir_test pips i j || (unshared_test pips i j || (unlisted_test pips i j || seal_test pips i j)))
    (Decides-nested pips i j)
    (Decides-or (file_dir_test pips i j) (unshared_test pips i j || (unlisted_test pips i j || seal_test pips i j)) (Decides-file_dir pips i j)
    (Decides-or (unshared_test pips i j) (unlisted_test pips i j || seal_test pips i j) (Decides-unshared pips i j)
    (Decides-or (unlisted_test pips i j) (seal_test pips i j) (Decides-unlisted pips i j) (Decides-seal pips i j)))))
    to from
  where
    to : NestedOutputs pips i j ⊎ (FileIsDir pips i j ⊎ (UnsharedDir pips i j ⊎ (UnlistedFile pips i j ⊎ SealMeetsDir pips i j))) → Overlaps pips i j
    to (inl h) = Nested h
    to (inr (inl h)) = OnePath h
    to (inr (inr (inl h))) = Unshared h
    to (inr (inr (inr (inl h)))) = Unlisted h
    to (inr (inr (inr (inr h)))) = Meets h

    from : Overlaps pips i j → NestedOutputs pips i j ⊎ (FileIsDir pips i j ⊎ (UnsharedDir pips i j ⊎ (UnlistedFile pips i j ⊎ SealMeetsDir pips i j)))
    from (Nested h) = inl h
    from (OnePath h) = inr (inl h)
    from (Unshared h) = inr (inr (inl h))
    from (Unlisted h) = inr (inr (inr (inl h)))
    from (Meets h) = inr (inr (inr (inr h)))

-- ## Tests of the rules

abbrev pub double_test : List Pip → ℕ → Bool
double_test pips i = any_below (λ j. any_item declared_files (λ file. any_item declared_files (same_path file) pips j) pips i) i

Decides-double : (pips : List Pip) (i : ℕ) → Decides (double_test pips i) (DoubleProducerAt pips i)
Decides-double pips i =
    Decides-any_below (λ j. any_item declared_files (λ file. any_item declared_files (same_path file) pips j) pips i)
    (λ j. (file : Atoms) × PipHas declared_files pips i file × PipHas declared_files pips j file)
    (λ j. Decides-any_item declared_files (λ file. any_item declared_files (same_path file) pips j) (λ file. PipHas declared_files pips j file)
    (λ file. along (any_item declared_files (same_path file) pips j)
    (Decides-any_item declared_files (same_path file) (λ other. file ≡ other) (λ other. same_path_decides file other) pips j)
    (λ (other, h, e). subst (PipHas declared_files pips j) (sym e) h) (λ h. (file, h, refl))) pips i) i

abbrev pub overlap_test : List Pip → ℕ → Bool
overlap_test pips i = any_below (λ j. overlaps_test pips i j || overlaps_test pips j i) (suc i)

Decides-overlap : (pips : List Pip) (i : ℕ) → Decides (overlap_test pips i) (OverlapAt pips i)
Decides-overlap pips i =
    along (overlap_test pips i)
    (Decides-any_below (λ j. overlaps_test pips i j || overlaps_test pips j i) (λ j. Overlaps pips i j ⊎ Overlaps pips j i)
    (λ j. Decides-or (overlaps_test pips i j) (overlaps_test pips j i) (Decides-overlaps pips i j) (Decides-overlaps pips j i)) (suc i))
    (λ (j, l, o). (j, omega (arith, l), o)) (λ (j, l, o). (j, omega (arith, l), o))

abbrev pub source_test : List Pip → Files → ℕ → Bool
source_test pips tree i = any_item named_sources (λ path. not (among_test path (paths_of tree))) pips i

Decides-source : (pips : List Pip) (tree : Files) (i : ℕ) → Decides (source_test pips tree i) (NoSuchSourceAt pips tree i)
Decides-source pips tree i =
    Decides-any_item named_sources (λ path. not (among_test path (paths_of tree))) (λ path. Contains (paths_of tree) path → ⊥)
    (λ path. Decides-not (among_test path (paths_of tree)) (Decides-among path (paths_of tree))) pips i

abbrev pub outside_test : List Pip → ℕ → Bool
outside_test pips i = any_item outputs (λ path. not (is_below path out_dir)) pips i

Decides-outside : (pips : List Pip) (i : ℕ) → Decides (outside_test pips i) (OutsideOutAt pips i)
Decides-outside pips i =
    Decides-any_item outputs (λ path. not (is_below path out_dir)) (λ path. IsBelow path out_dir → ⊥)
    (λ path. Decides-not (is_below path out_dir) (below_decides path out_dir)) pips i

abbrev pub twin_test : List Pip → ℕ → Bool
twin_test pips i = any_below (λ j. any_item descriptions (λ d. any_item descriptions (λ e. is_eq (process_cmp d e)) pips j) pips i) i

without_twice : (d : DirInput) → without_pip (without_pip d) ≡ without_pip d
without_twice (Sealed pip form root) = refl
without_twice (Opaque pip path) = refl

all_without : (ds : List DirInput) → map without_pip (map without_pip ds) ≡ map without_pip ds
all_without [] = refl
all_without (d ∷ ds) = ap (λ x. x ∷ map without_pip (map without_pip ds)) (without_twice d) ∙ ap (λ xs. without_pip d ∷ xs) (all_without ds)

described_twice : (d : ProcessDesc) → description (description d) ≡ description d
described_twice d = let with : List DirInput → ProcessDesc = λ ds. record d { dirs = ds } in ap with (all_without d.dirs)

-- what is among descriptions is a description, which is that of itself
itself_in : (kind : PipKind) (d : ProcessDesc) → Contains (descriptions kind) d → description d ≡ d
itself_in (Process p) d (k, l, e) =
    let first : k ≡ 0 = omega (arith, l) in
    let is : description p ≡ d = subst (λ n. get_or (description p ∷ []) n d ≡ d) first e in
    ap description (sym is) ∙ described_twice p ∙ is
itself_in (Copy p) d (k, l, e) = absurd (omega (arith, l))
itself_in (Write p) d (k, l, e) = absurd (omega (arith, l))
itself_in (Seal p) d (k, l, e) = absurd (omega (arith, l))

itself : (pips : List Pip) (i : ℕ) (d : ProcessDesc) → PipHas descriptions pips i d → description d ≡ d
itself pips i d h = (has_along descriptions descriptions d (λ e. description d ≡ d) (λ kind c. (d, c, itself_in kind d c)) pips i h).2

Decides-twin : (pips : List Pip) (i : ℕ) → Decides (twin_test pips i) (TwinAt pips i)
Decides-twin pips i =
    Decides-any_below (λ j. any_item descriptions (λ d. any_item descriptions (λ e. is_eq (process_cmp d e)) pips j) pips i)
    (λ j. (d : ProcessDesc) × PipHas descriptions pips i d × PipHas descriptions pips j d)
    (λ j. along (any_item descriptions (λ d. any_item descriptions (λ e. is_eq (process_cmp d e)) pips j) pips i)
    (Decides-any_item descriptions (λ d. any_item descriptions (λ e. is_eq (process_cmp d e)) pips j)
    (λ d. (e : ProcessDesc) × PipHas descriptions pips j e × (description d ≡ description e))
    (λ d. Decides-any_item descriptions (λ e. is_eq (process_cmp d e)) (λ e. description d ≡ description e)
    (λ e. (λ t. tied_processes d e ((Equal-is (process_cmp d e)).0 t), λ s. (Equal-is (process_cmp d e)).1 (described_alike d e s))) pips j) pips i)
    (λ (d, h, (e, k, s)).
    let same : e ≡ d = sym (itself pips j e k) ∙ sym s ∙ itself pips i d h in (d, h, subst (PipHas descriptions pips j) same k))
    (λ (d, h, k). (d, h, (d, k, refl)))) i

abbrev pub limit_test : List Pip → ℕ → Bool
limit_test pips i = nat_lt i (length pips) && nat_eq i MAX_PIPS

-- whether a rule fails at pip i
abbrev pub fails_test : GraphKind → List Pip → Files → ℕ → Bool
fails_test rules.DoubleProducer pips tree i = double_test pips i
fails_test rules.Overlap pips tree i = overlap_test pips i
fails_test rules.NoSuchSource pips tree i = source_test pips tree i
fails_test rules.OutsideOut pips tree i = outside_test pips i
fails_test rules.Twin pips tree i = twin_test pips i
fails_test rules.Limit pips tree i = limit_test pips i

pub Decides-fails : (rule : GraphKind) (pips : List Pip) (tree : Files) (i : ℕ) → Decides (fails_test rule pips tree i) (FailsAt rule pips tree i)
Decides-fails rules.DoubleProducer pips tree i = Decides-double pips i
Decides-fails rules.Overlap pips tree i = Decides-overlap pips i
Decides-fails rules.NoSuchSource pips tree i = Decides-source pips tree i
Decides-fails rules.OutsideOut pips tree i = Decides-outside pips i
Decides-fails rules.Twin pips tree i = Decides-twin pips i
Decides-fails rules.Limit pips tree i = Decides-and (nat_lt i (length pips)) (nat_eq i MAX_PIPS) (Decides-ltb i (length pips)) (Decides-eqb i MAX_PIPS)
