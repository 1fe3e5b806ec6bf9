-- The files below `out` with the report after them are a tree.
use Rattle.std.proofs.Common.{◌≡◌, ◌≢◌, ℕ, inl, inr, Bool, true, false, cond, List, [], ◌∷◌, ◌++◌, codes, refl, sym, subst, ◌∙◌, ap}
use Rattle.std.specs.List.{AllByRecursion, Contains, list_all}
use Rattle.std.specs.List.Sorted.{IsStrictlySortedBy}
use Rattle.std.specs.declared.cmp.Ordering.TheVariants.{Less}
use Rattle.std.proofs.lemmas.List.{map-append}
use Rattle.std.proofs.lemmas.List.Elements.{All-contains, All-from_recursion, Contains-push_cases}
use Rattle.bx_tree.specs.Paths.{Atoms, IsPath, IsBelow, path_cmp}
use Rattle.bx_tree.specs.Trees.{Files, NoneNested, paths_of}
use Rattle.bx_tree.proofs.Lists.{all_weaker}
use Rattle.one_thread.specs.Outputs.{AreOutputs}
use Rattle.build_report.specs.declared.refusal.Refusal.{Refusal}
use Rattle.graph_check_outputs.specs.OutsideOut.{out_dir}
use Rattle.build_report.specs.Reports.{report_text}
use Rattle.pip_model_types.specs.declared.pip.Pip.{Pip}
use Rattle.violations.specs.Verdicts.{is_success}
use Rattle.violations.specs.declared.verdict.Verdict.{Verdict}
use Rattle.bx_engine.specs.Counting.{given_files, gone_output}
use Rattle.bx_engine.specs.Ending.{Ending, InputRefused, SpecificationRefused, ending_files, report_of, report_path}
use Rattle.bx_engine.specs.OutputTrees.{IsOutputPath, IsOutputText, IsOutputTree}
use Rattle.bx_engine.specs.Responses.{IsResponseTo}
use Rattle.bx_engine.specs.declared.fault.InputFault.{InputFault}
use Rattle.bx_engine.specs.declared.response.Response.{Response}
use Rattle.bx_engine.proofs.ReportPath.{named_report}

-- ## Lists

-- an element has what each has
contained : {X : Type 0} (P : X → Type 0) (xs : List X) (x : X) → AllByRecursion P xs → Contains xs x → P x
contained P xs x all h = All-contains P xs x (All-from_recursion P xs all) h

-- one more element in a list where each is so
all_pushed : {X : Type 0} (P : X → Type 0) (xs : List X) (x : X) → AllByRecursion P xs → P x → AllByRecursion P (xs ++ x ∷ [])
all_pushed P [] x all h = (h, tt)
all_pushed P (y ∷ ys) x all h = (all.0, all_pushed P ys x all.1 h)

-- ## Order

below_is_before : (rest : Atoms) → rest ≢ [] → path_cmp (codes "out" ∷ rest) report_path ≡ Less
below_is_before [] h = absurd (h refl)
below_is_before (a ∷ rest) h = refl

-- what is below `out` comes before the report
before_report : (path : Atoms) → IsBelow path out_dir → path_cmp path report_path ≡ Less
before_report path h = subst (λ p. path_cmp p report_path ≡ Less) (sym h.2) (below_is_before h.0 h.1)

-- one more path that is above each
sorted_pushed : (ps : List Atoms) (p : Atoms) → IsStrictlySortedBy path_cmp ps → AllByRecursion (λ q. path_cmp q p ≡ Less) ps
    → IsStrictlySortedBy path_cmp (ps ++ p ∷ [])
unfolding IsStrictlySortedBy
sorted_pushed [] p s all = (tt, tt)
sorted_pushed (q ∷ qs) p s all = (all_pushed (λ r. path_cmp q r ≡ Less) qs p s.0 all.0, sorted_pushed qs p s.1 all.1)

-- ## Nesting

out_is_other : codes "out" ≢ codes "report.txt"
out_is_other e = cc

first_same : (a b : List ℕ) (xs ys : Atoms) → a ∷ xs ≡ b ∷ ys → a ≡ b
first_same a b xs ys e = cc

tail_same : (a : List ℕ) (xs ys : Atoms) → a ∷ xs ≡ a ∷ ys → xs ≡ ys
tail_same a xs ys e = cc

-- the report does not lie below what is below `out`
report_apart : (dir : Atoms) → IsBelow dir out_dir → IsBelow report_path dir → ⊥
report_apart dir h b =
    out_is_other (sym (first_same (codes "report.txt") (codes "out") [] (h.0 ++ b.0) (b.2 ∙ ap (λ d. d ++ b.0) h.2)))

-- nor the other way round
out_apart : (path : Atoms) → IsBelow path out_dir → IsBelow path report_path → ⊥
out_apart path h b = out_is_other (first_same (codes "out") (codes "report.txt") h.0 b.0 (sym h.2 ∙ b.2))

-- nor below itself
not_below_itself : IsBelow report_path report_path → ⊥
not_below_itself b = b.1 (sym (tail_same (codes "report.txt") [] b.0 b.2))

unnested_pushed : (ps : List Atoms) → NoneNested ps → AllByRecursion (λ q. IsBelow q out_dir) ps → NoneNested (ps ++ report_path ∷ [])
unnested_pushed ps none below dir path d p is = elim (Contains-push_cases ps report_path dir d) [
  | inl dir_in ↦ elim (Contains-push_cases ps report_path path p) [
    | inl path_in ↦ none dir path dir_in path_in is
    | inr e ↦ report_apart dir (contained (λ q. IsBelow q out_dir) ps dir below dir_in) (subst (λ q. IsBelow q dir) (sym e) is)
  ]
  | inr f ↦ elim (Contains-push_cases ps report_path path p) [
    | inl path_in ↦ out_apart path (contained (λ q. IsBelow q out_dir) ps path below path_in) (subst (λ q. IsBelow path q) (sym f) is)
    | inr e ↦ not_below_itself (subst (λ q. IsBelow q report_path) (sym e) (subst (λ q. IsBelow path q) (sym f) is))
  ]
]

-- ## Trees

not_root : (path : Atoms) → IsBelow path out_dir → path ≢ []
not_root path h e = let k : codes "out" ∷ h.0 ≡ [] = sym h.2 ∙ e in cc

paths_pushed : (files : Files) (bytes : List ℕ) → paths_of (files ++ (report_path, bytes) ∷ []) ≡ paths_of files ++ report_path ∷ []
paths_pushed files bytes = map-append (λ f. f.0) files ((report_path, bytes) ∷ [])

-- outputs with their report are a tree
with_report : (files : Files) (bytes : List ℕ) → AreOutputs files → AllByRecursion IsPath (paths_of files)
    → IsOutputTree (files ++ (report_path, bytes) ∷ [])
with_report files bytes h paths =
    let e = sym (paths_pushed files bytes) in
    let ps = paths_of files in
    record {
      tree = record {
        paths = subst (AllByRecursion IsPath) e (all_pushed IsPath ps report_path paths named_report.is_path);
        no_root = subst (AllByRecursion (λ p. p ≢ [])) e
            (all_pushed (λ p. p ≢ []) ps report_path (all_weaker (λ q. IsBelow q out_dir) (λ p. p ≢ []) not_root ps h.below)
            named_report.not_root);
        rising = subst (IsStrictlySortedBy path_cmp) e
            (sorted_pushed ps report_path h.rising
            (all_weaker (λ q. IsBelow q out_dir) (λ q. path_cmp q report_path ≡ Less) before_report ps h.below));
        unnested = subst NoneNested e (unnested_pushed ps h.unnested h.below);
      };
      places = subst (AllByRecursion IsOutputPath) e
          (all_pushed IsOutputPath ps report_path (all_weaker (λ q. IsBelow q out_dir) IsOutputPath (λ q b. inr b) ps h.below) (inl refl));
    }

no_outputs : AreOutputs []
unfolding IsStrictlySortedBy
no_outputs = record {
  below = tt;
  rising = tt;
  unnested = λ dir path d p is. contained (λ q. ⊥) [] dir tt d;
}

-- ## Responses

shown_text : (ending : Ending) (notes : List ℕ) (response : Response) → IsResponseTo ending notes response → AreOutputs (ending_files ending)
    → AllByRecursion IsPath (paths_of (ending_files ending)) → IsOutputText response.bytes.items
shown_text ending notes response h outputs paths =
    (ending_files ending ++ (report_path, report_of ending) ∷ [], with_report (ending_files ending) (report_of ending) outputs paths, h.bytes_are)

outputs_if : (good : Bool) (files : Files) → AreOutputs files → AreOutputs (cond good files [])
outputs_if true files h = h
outputs_if false files h = no_outputs

-- the output of pips that were gone through
pub gone_text : (pips : List Pip) (verdicts : List Verdict) (files : Files) (text : List ℕ) → text ≡ gone_output pips verdicts files → AreOutputs files
    → AllByRecursion IsPath (paths_of (given_files verdicts files)) → IsOutputText text
gone_text pips verdicts files text is outputs paths =
    let given = given_files verdicts files in
    let report = report_text pips verdicts in
    (given ++ (report_path, report) ∷ [], with_report given report (outputs_if (list_all is_success verdicts) files outputs) paths, is)

pub input_text : (fault : InputFault) (response : Response) → IsResponseTo (InputRefused fault) [] response → IsOutputText response.bytes.items
input_text fault response h = shown_text (InputRefused fault) [] response h no_outputs tt

pub refusal_text : (refusal : Refusal) (response : Response) → IsResponseTo (SpecificationRefused refusal) [] response → IsOutputText response.bytes.items
refusal_text refusal response h = shown_text (SpecificationRefused refusal) [] response h no_outputs tt
