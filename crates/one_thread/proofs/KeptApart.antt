-- The files of a whole build keep apart.
use Rattle.std.proofs.Common.{◌≡◌, ◌⊎◌, ℕ, ◌<◌, zero, suc, true, List, [], ◌∷◌, length, take, Option, Some, None, refl, ap, sym, ◌∙◌, subst, inl, inr, arith}
use Rattle.std.specs.Prelude.{slice_get}
use Rattle.std.specs.List.{AllByRecursion}
use Rattle.std.specs.Option.{option_map}
use Rattle.std.specs.List.Sorted.{IsStrictlySortedBy}
use Rattle.std.proofs.lemmas.Bool.{cases_order}
use Rattle.std.proofs.lemmas.Option.{same_Some, slice_get-map, slice_get_within}
use Rattle.bx_tree.specs.Paths.{Atoms, IsBelow}
use Rattle.bx_tree.specs.Trees.{Files, paths_of}
use Rattle.bx_tree.specs.Members.{Has}
use Rattle.bx_tree.proofs.Sets.{has_contained}
use Rattle.bx_tree.proofs.Lists.{slice_get-take}
use Rattle.graph_check.specs.Rules.{KeepsRules}
use Rattle.graph_check_outputs.specs.OutsideOut.{out_dir}
use Rattle.one_thread.proofs.EachResult.{number_of_results, result_of_all}
use Rattle.one_thread.specs.OneThread.{Result, all_made, made_by, one_thread, outputs_of, put_all, result_of}
use Rattle.pip_model_types.specs.Made.{RisingFiles}
use Rattle.pip_model_types.specs.Makers.{IsPipList}
use Rattle.pip_model_types.specs.declared.outputs.OutDir.{OutDir}
use Rattle.pip_model_types.specs.declared.pip.Pip.{Pip}
use Rattle.pip_model_types.specs.declared.pip.PipKind.{PipKind}
use Rattle.pip_model_types.specs.declared.pip.PipKind.TheVariants.{Process, Copy, Write, Seal}
use Rattle.violations.specs.DoubleWrites.{shared_paths}
use Rattle.one_thread.specs.Keeping.{AreKept, AreOwnOutputs, KeptAt}
use Rattle.one_thread.specs.Outputs.{AreOutputs}
use Rattle.one_thread.proofs.Clashing.{clash_above, clash_below, no_clash_between, shared_has}
use Rattle.one_thread.proofs.Meeting.{Apart, InOneDir, both_share, in_one_dir, kept_apart, kept_below, made_below}
use Rattle.one_thread.proofs.OneResult.{AllHold, kept_result}
use Rattle.one_thread.proofs.PutAll.{MadeAt, has_put_all, made_at, put_all_rising}
use Rattle.pip_model_types.specs.Kinds.{outdirs_of}

-- ## Places in lists

pip_at : (pips : List Pip) (i : ℕ) → i < length pips → (pip : Pip) × (slice_get pips i ≡ Some pip)
pip_at [] i l = absurd (omega (arith, l))
pip_at (pip ∷ pips) zero l = (pip, refl)
pip_at (pip ∷ pips) (suc i) l = pip_at pips i (omega (arith, l))

same_dirs : (kind : PipKind) → outdirs_of kind ≡ outdirs_of kind
same_dirs (Process d) = refl
same_dirs (Copy d) = refl
same_dirs (Write d) = refl
same_dirs (Seal d) = refl

-- ## Two pips

shares : (pip : Pip) (dir : OutDir) (files : Files) (path : Atoms) → Has (outdirs_of pip.kind) dir → dir.shared ≡ true → IsBelow path dir.path
    → Has (paths_of files) path → Has (shared_paths (outdirs_of pip.kind) files) path
shares pip dir files path h shared below there =
    shared_has (outdirs_of pip.kind) files dir path (subst (λ (ds : List OutDir). Has ds dir) (same_dirs pip.kind) h) shared below there

module _ (pips : List Pip) (made : List Files) (apart : Apart pips) (i j : ℕ) (fs gs : Files) (at_fs : slice_get made i ≡ Some fs)
    (at_gs : slice_get made j ≡ Some gs) (k : KeptAt pips made i fs) (m : KeptAt pips made j gs) (p q : Atoms) (p_made : Has (paths_of fs) p)
    (q_made : Has (paths_of gs) q) (below : IsBelow p q) where
  one_dir : InOneDir k.pip.kind m.pip.kind p q
  one_dir = in_one_dir pips apart i j k.pip m.pip k.at m.at p q below (k.keeps.makes p p_made) (m.keeps.makes q q_made)

  shared : (i ≡ j → ⊥) → Has (shared_paths (outdirs_of k.pip.kind) fs) p × Has (shared_paths (outdirs_of m.pip.kind) gs) q
  shared differ =
      let both = both_share pips apart i j k.pip m.pip one_dir.first one_dir.second k.at m.at differ one_dir.has_first one_dir.has_second one_dir.one_path in (
        shares k.pip one_dir.first fs p one_dir.has_first both.0 one_dir.below_first p_made,
        shares m.pip one_dir.second gs q one_dir.has_second both.1 one_dir.below_second q_made,
      )

  -- the earlier of the two did not clash with the later, nor the later with the earlier
  pub between : (i < j) ⊎ (j < i) → ⊥
  between (inl less) =
      let h = shared (λ e. absurd (omega (arith, e, less))) in
      clash_above q p
      (no_clash_between (take j pips) made (outdirs_of m.pip.kind) gs i k.pip fs q p m.keeps.unclashed (slice_get-take pips j i less ∙ k.at) at_fs h.1 h.0) below
  between (inr more) =
      let h = shared (λ e. absurd (omega (arith, e, more))) in
      clash_below p q
      (no_clash_between (take i pips) made (outdirs_of k.pip.kind) fs j m.pip gs p q k.keeps.unclashed (slice_get-take pips i j more ∙ m.at) at_gs h.0 h.1) below

-- two files of one pip
within : (pips : List Pip) (made : List Files) (i j : ℕ) (fs gs : Files) → slice_get made i ≡ Some fs → slice_get made j ≡ Some gs
    → KeptAt pips made i fs → i ≡ j → (p q : Atoms) → Has (paths_of fs) p → Has (paths_of gs) q → IsBelow p q → ⊥
within pips made i j fs gs at_fs at_gs k e p q h m below =
    let same : gs ≡ fs = same_Some gs fs (sym at_gs ∙ ap (slice_get made) (sym e) ∙ at_fs) in
    k.keeps.unnested p q h (subst (λ (x : Files). Has (paths_of x) q) same m) below

-- no files rise
none_rising : RisingFiles []
unfolding IsStrictlySortedBy
none_rising = tt

-- ## Any files that keep to their pips

module _ (pips : List Pip) (tree : Files) (keeps : KeepsRules pips tree) (made : List Files) (kept : AreKept pips made) where
  place : (q : Atoms) → Has (paths_of (put_all [] (all_made made))) q → MadeAt made q
  place q h = elim (has_put_all (all_made made) [] q h) [
    | inl none ↦ absurd none
    | inr some ↦ made_at made q some
  ]

  nested : (p q : Atoms) → MadeAt made p → MadeAt made q → IsBelow p q → ⊥
  nested p q a b below =
      let k = kept a.number a.files a.there in
      elim (cases_order a.number b.number) [
        | inl same ↦ within pips made a.number b.number a.files b.files a.there b.there k same p q a.has b.has below
        | inr order ↦
            between pips made (kept_apart pips tree keeps) a.number b.number a.files b.files a.there b.there k (kept b.number b.files b.there) p q a.has b.has
            below order
      ]

  below_out : (q : Atoms) → MadeAt made q → IsBelow q out_dir
  below_out q a =
      let k = kept a.number a.files a.there in
      made_below pips a.number k.pip q (kept_below pips tree keeps) k.at (k.keeps.makes q a.has)

  all_below : (files : Files) → ((q : Atoms) → Has (paths_of files) q → IsBelow q out_dir) → AllByRecursion (λ path. IsBelow path out_dir) (paths_of files)
  all_below [] each = tt
  all_below (f ∷ fs) each = (each f.0 (inl refl), all_below fs (λ q h. each q (inr h)))

  pub are_outputs : AreOutputs (put_all [] (all_made made))
  are_outputs =
      let files = put_all [] (all_made made) in
      record {
        below = all_below files (λ q h. below_out q (place q h));
        rising = put_all_rising (all_made made) [] none_rising;
        unnested = λ dir path h k below. nested path dir (place path (has_contained (paths_of files) path k)) (place dir (has_contained (paths_of files) dir h)) below;
      }

-- ## The build on one thread

-- the result whose files these are
result_at : (o : Option Result) (files : Files) → option_map (λ (x : Result). x.files) o ≡ Some files → (r : Result) × (o ≡ Some r) × (r.files ≡ files)
result_at None files e = cc
result_at (Some r) files e = (r, refl, same_Some r.files files e)

module _ (pips : List Pip) (tree : Files) (budget : ℕ) (list : IsPipList pips) (keeps : KeepsRules pips tree) (hold : AllHold) where
  kept_result_at : (i : ℕ) (r : Result) → slice_get (one_thread pips tree budget) i ≡ Some r → KeptAt pips (made_by (one_thread pips tree budget)) i r.files
  kept_result_at i r at =
      let results = one_thread pips tree budget in
      let within_pips : i < length pips = let l = slice_get_within results i r at in omega (arith, l, number_of_results pips tree budget) in
      let here = pip_at pips i within_pips in
      let is : result_of pips tree budget results i here.0.kind ≡ r =
      same_Some (result_of pips tree budget results i here.0.kind) r (sym (result_of_all pips tree budget i here.0 list here.1) ∙ at) in
      record {
        pip = here.0;
        at = here.1;
        keeps = subst (λ (x : Result). AreOwnOutputs pips (made_by results) i here.0.kind x.files) is
            (kept_result pips tree budget i here.0 results (kept_apart pips tree keeps) hold here.1);
      }

  kept_at : AreKept pips (made_by (one_thread pips tree budget))
  kept_at i files at =
      let results = one_thread pips tree budget in
      let r = result_at (slice_get results i) files (sym (slice_get-map (λ (x : Result). x.files) results i) ∙ at) in
      subst (λ (fs : Files). KeptAt pips (made_by results) i fs) r.2 (kept_result_at i r.0 r.1)

  pub kept : AreOutputs (outputs_of (one_thread pips tree budget))
  kept = are_outputs pips tree keeps (made_by (one_thread pips tree budget)) kept_at
