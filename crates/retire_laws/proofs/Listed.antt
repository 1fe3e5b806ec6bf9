-- What is compared in a build is in its list.
use Rattle.std.proofs.Common.{◌≡◌, ◌⊎◌, ℕ, ◌+◌, Bool, true, false, cond, List, [], ◌∷◌, ◌++◌, map, Option, Some, sym, ap, ◌∙◌, subst, inl, inr}
use Rattle.std.specs.Ordering.{eq_by_cmp, nat_cmp}
use Rattle.std.specs.Cmp.Lexicographic.{slice_cmp}
use Rattle.std.specs.FinMap.{entries, find, get, get-entries, values}
use Rattle.std.specs.List.{flat_map}
use Rattle.std.proofs.lemmas.Option.{same_Some}
use Rattle.sha2.specs.Sha256.{sha256}
use Rattle.bx_tree.specs.Members.{Has}
use Rattle.bx_tree.specs.Trees.{Files}
use Rattle.bx_tree.proofs.Members.{has_back, has_front}
use Rattle.bx_io.specs.Holdings.{Holdings}
use Rattle.pip_model_types.specs.declared.desc.Desc.{Desc}
use Rattle.pip_model_types.specs.declared.pip.Pip.{Pip}
use Rattle.pip_model_types.specs.declared.pip.PipKind.{PipKind}
use Rattle.pip_model_types.specs.declared.pip.PipKind.TheVariants.{Process, Copy, Write, Seal}
use Rattle.observed.specs.Texts.{paths_text}
use Rattle.observed.specs.declared.ask.Ask.{Ask}
use Rattle.observed.specs.declared.access.Answer.{Answer}
use Rattle.tool_run.specs.Described.{described}
use Rattle.memo_format.specs.StoreNames.{HoldsBlob, HoldsList, at_blob}
use Rattle.memo_format.specs.declared.selector.Selector.{Selector}
use Rattle.run_record.specs.Collisions.{NoCollision, contents_of}
use Rattle.run_record.specs.Digests.{weak_of}
use Rattle.run_record.specs.Facts.{run_for}
use Rattle.run_record.specs.Outcomes.{outcome_of}
use Rattle.two_phase_meaning.specs.Compared as met
use Rattle.two_phase_meaning.specs.Compared.{ComparedInRun, IsComparedPathSet, IsSelected, own_paths}
use Rattle.two_phase_meaning.specs.Contents.{HoldsPaths, desc_contents}
use Rattle.two_phase_meaning.specs.Saving.{list_at, or_none, outcome_files, selectors_in}
use Rattle.one_thread.specs.OneThread.{Result, result_of}
use Rattle.retire_compared.specs.Compared.{Compared, compared_at_pip, compared_from, desc_after, view_after}
use Rattle.retire_laws.specs.ComparedList.{NamedPaths, asked_contents, compared_list, list_from, path_sets, paths_in, paths_said, pip_list, run_list}

-- ## Lists

flat_has : {X Y : Type 0} (f : X → List Y) (xs : List X) (x : X) (y : Y) → Has xs x → Has (f x) y → Has (flat_map f xs) y
flat_has f [] x y h k = absurd h
flat_has f (z ∷ zs) x y h k = elim h [
  | inl same ↦ has_front (f z) (flat_map f zs) y (subst (λ w. Has (f w) y) (sym same) k)
  | inr more ↦ has_back (f z) (flat_map f zs) y (flat_has f zs x y more k)
]

-- ## What a store holds

found_here : (b : Bool) (value x : List ℕ) (rest : Option (List ℕ)) → cond b (Some value) rest ≡ Some x → (value ≡ x) ⊎ (rest ≡ Some x)
found_here true value x rest e = inl (same_Some value x e)
found_here false value x rest e = inr e

found_value : (name : List ℕ) (es : List (List ℕ × List ℕ)) (x : List ℕ) → find (slice_cmp nat_cmp) name es ≡ Some x
    → Has (map (λ (e : List ℕ × List ℕ). e.1) es) x
found_value name [] x is = absurd cc
found_value name (e ∷ es) x is =
    elim (found_here (eq_by_cmp (slice_cmp nat_cmp) name e.0) e.1 x (find (slice_cmp nat_cmp) name es) is) [
      | inl here ↦ inl here
      | inr later ↦ inr (found_value name es x later)
    ]

held_value : (S : Holdings) (x : List ℕ) → HoldsBlob S x → Has (values S) x
held_value S x h = found_value (at_blob (sha256 x)) (entries S) x (sym (get-entries S (at_blob (sha256 x))) ∙ h)

list_is : (S : Holdings) (weak : List ℕ) (list : List Selector) → HoldsList S weak list → list_at S weak ≡ list
list_is S weak list held = ap selectors_in held.1 ∙ ap or_none held.2

-- ## Path sets

paths_held : (S : Holdings) (name digest : List ℕ) (asks : List Ask) → name ≡ digest → HoldsPaths S digest asks
    → paths_in name (get S (at_blob name)) ≡ (record { digest = name; asks = asks }) ∷ []
paths_held S name digest asks is held =
    let at : get S (at_blob name) ≡ Some held.0 = ap (λ g. get S (at_blob g)) (is ∙ sym held.1.digest_is) ∙ held.1.held in
    ap (paths_in name) at ∙ ap (paths_said name) held.2

module _ (S : Holdings) (d : Desc) (see : Ask → Answer) where
  selected_listed : (digest : List ℕ) (asks : List Ask) → IsSelected S d digest → HoldsPaths S digest asks
      → Has (path_sets S d see) (record { digest = digest; asks = asks })
  selected_listed digest asks sel held =
      let s : Selector = sel.2.0 in
      let here : Has (paths_in s.paths (get S (at_blob s.paths))) (record { digest = digest; asks = asks }) =
      subst (λ (ps : List NamedPaths). Has ps (record { digest = digest; asks = asks })) (sym (paths_held S s.paths digest asks sel.2.2 held))
      (inl (λ i. record { digest = sel.2.2 i; asks = asks })) in
      inr (flat_has (λ (t : Selector). paths_in t.paths (get S (at_blob t.paths))) (list_at S (weak_of d)) s _
      (subst (λ (ts : List Selector). Has ts s) (sym (list_is S (weak_of d) sel.0 sel.1)) sel.2.1) here)

  set_listed : (digest : List ℕ) (asks : List Ask) → IsComparedPathSet S d see digest asks
      → Has (path_sets S d see) (record { digest = digest; asks = asks })
  set_listed digest asks c = elim c [
    | inl own ↦
        let name : sha256 (paths_text (own_paths d see)) ≡ digest = ap (λ (qs : List Ask). sha256 (paths_text qs)) own.0 ∙ own.1 in
        inl (λ i. record { digest = name i; asks = own.0 i })
    | inr held ↦ selected_listed digest asks held.0 held.1
  ]

  -- ## One process

  abbrev asked : List (List ℕ)
  asked = flat_map (asked_contents d see) (path_sets S d see)

  abbrev made : List (List ℕ)
  made = contents_of (outcome_files (outcome_of (described d) (run_for d see)))

  in_asked : (x digest : List ℕ) (asks : List Ask) → IsComparedPathSet S d see digest asks
      → Has (asked_contents d see (record { digest = digest; asks = asks })) x → Has (run_list S d see) x
  in_asked x digest asks c h =
      inr (inr (has_back (desc_contents d) (asked ++ made) x
      (has_front asked made x (flat_has (asked_contents d see) (path_sets S d see) _ x (set_listed digest asks c) h))))

  run_listed : (x : List ℕ) → ComparedInRun S d see x → Has (values S) x ⊎ Has (run_list S d see) x
  run_listed x (met.stored h) = inl (held_value S x h)
  run_listed x (met.weak e) = inr (inl e)
  run_listed x (met.declared h) = inr (inr (inr (has_front (desc_contents d) (asked ++ made) x h)))
  run_listed x (met.own_set e) = inr (inr (inl e))
  run_listed x (met.strong digest asks c e) = inr (in_asked x digest asks c (inl e))
  run_listed x (met.given digest asks c h) = inr (in_asked x digest asks c (inr h))
  run_listed x (met.made files e h) =
      inr (inr (inr (has_back (desc_contents d) (asked ++ made) x (has_back asked made x
      (subst (λ (fs : Files). Has (contents_of fs) x) (sym (ap outcome_files e)) h)))))

-- ## All pips

module _ (pips : List Pip) (tree : Files) (budget : ℕ) (S : Holdings) (x : List ℕ) where
  pip_listed : (results : List Result) (i : ℕ) (kind : PipKind) → compared_at_pip pips tree budget S results i kind x
      → Has (values S) x ⊎ Has (pip_list pips tree budget S results i kind) x
  pip_listed results i (Process d) h = elim (run_listed S (desc_after pips tree budget results d) (view_after pips tree results i d) x h.1) [
    | inl held ↦ inl held
    | inr there ↦
        inr (subst (λ b. Has (cond b (run_list S (desc_after pips tree budget results d) (view_after pips tree results i d)) []) x) (sym h.0) there)
  ]
  pip_listed results i (Copy d) h = absurd h.1
  pip_listed results i (Write d) h = absurd h.1
  pip_listed results i (Seal d) h = absurd h.1

  from_listed : (left : List Pip) (results : List Result) (i : ℕ) → compared_from pips tree budget S results i left x
      → Has (values S) x ⊎ Has (list_from pips tree budget S results i left) x
  from_listed [] results i h = absurd h
  from_listed (pip ∷ left) results i h =
      let here = pip_list pips tree budget S results i pip.kind in
      let rest = list_from pips tree budget S (results ++ result_of pips tree budget results i pip.kind ∷ []) (i + 1) left in
      elim h [
        | inl now ↦ elim (pip_listed results i pip.kind now) [
          | inl held ↦ inl held
          | inr there ↦ inr (has_front here rest x there)
        ]
        | inr later ↦ elim (from_listed left (results ++ result_of pips tree budget results i pip.kind ∷ []) (i + 1) later) [
          | inl held ↦ inl held
          | inr there ↦ inr (has_back here rest x there)
        ]
      ]

  pub all_listed : Compared pips tree budget S x → Has (compared_list pips tree budget S) x
  all_listed h =
      let held_list = values S in
      let rest = list_from pips tree budget S [] 0 pips in
      elim h [
        | inl held ↦ has_front held_list rest x (held_value S x held)
        | inr from ↦ elim (from_listed pips [] 0 from) [
          | inl held ↦ has_front held_list rest x held
          | inr there ↦ has_back held_list rest x there
        ]
      ]

pub list_apart : (pips : List Pip) (tree : Files) (budget : ℕ) (S : Holdings) → NoCollision (Has (compared_list pips tree budget S))
    → NoCollision (Compared pips tree budget S)
list_apart pips tree budget S apart x y h k e = apart x y (all_listed pips tree budget S x h) (all_listed pips tree budget S y k) e
