-- Where no digest differs, and all is apart, the run of now is that of the record.
use Rattle.std.proofs.Common.{◌≡◌, inl, inr, List, [], ◌∷◌, ℕ, map, refl, ap, sym, ◌∙◌, subst}
use Rattle.std.proofs.lemmas.Option.{same_Some}
use Rattle.sha2.specs.Sha256.{sha256}
use Rattle.bx_tree.specs.Paths.{Atoms}
use Rattle.bx_tree.specs.Trees.{Files, paths_of}
use Rattle.bx_tree.specs.declared.file_input.FileInput.TheVariants.{Source}
use Rattle.bx_tree.specs.Members.{Has}
use Rattle.pip_model_types.specs.declared.desc.Desc.{Desc}
use Rattle.observed.specs.declared.ask.Ask.{Ask}
use Rattle.observed.specs.declared.access.Answer.{Answer}
use Rattle.tool_text.specs.Reading.{tool_of}
use Rattle.tool_run.specs.Values.{variables}
use Rattle.prints.specs.declared.weak_parts.WeakParts.{WeakParts}
use Rattle.prints.specs.Processes.{weak_parts}
use Rattle.prints.specs.ReadWeak.{read_weak_text}
use Rattle.prints.specs.Weak.{weak_text}
use Rattle.tool_run.specs.Description.{Description}
use Rattle.tool_run.specs.Described.{described}
use Rattle.tool_run.specs.Laws.{DependsOnPathSet}
use Rattle.run_record.specs.Answered.{answered}
use Rattle.run_record.specs.Facts.{AreOf, Facts, Sound, run_for}
use Rattle.run_record.proofs.Stored.{stored_all}
use Rattle.run_record.specs.Collisions.{IsCompared, IsOfDesc, NoCollision, contents_of}
use Rattle.run_record.specs.Digests.{IsReadBack, weak_of}
use Rattle.run_record.specs.Matches.{IsSameDesc, Repeats, held_lines, lines_now}
use Rattle.run_record.proofs.AnswerLines.{same_answers}
use Rattle.pip_model_types.specs.Outputs.{outdir_paths}

-- ## Processes

pub one_list : (ps qs : List Atoms) → map Source ps ≡ map Source qs → ps ≡ qs
one_list [] [] e = refl
one_list [] (q ∷ qs) e = absurd cc
one_list (p ∷ ps) [] e = absurd cc
one_list (p ∷ ps) (q ∷ qs) e =
    let first : p ≡ q = cc in
    let rest : map Source ps ≡ map Source qs = cc in
    ap (λ x. x ∷ ps) first ∙ ap (λ xs. q ∷ xs) (one_list ps qs rest)

one_file : (f g : Atoms × List ℕ) → f.0 ≡ g.0 → f.1 ≡ g.1 → f ≡ g
one_file f g path bytes = ap (λ (p : Atoms). (p, f.1)) path ∙ ap (λ (b : List ℕ). (g.0, b)) bytes

abbrev pub content_digests : Files → List (List ℕ)
content_digests = map (λ (f : Atoms × List ℕ). sha256 f.1)

pub same_files : (M : List ℕ → Type 0) → NoCollision M → (fs gs : Files) → ((x : List ℕ) → Has (contents_of fs) x → M x) → ((x : List ℕ) → Has (contents_of gs) x → M x)
    → paths_of fs ≡ paths_of gs → content_digests fs ≡ content_digests gs → fs ≡ gs
same_files M apart [] [] in_fs in_gs paths digests = refl
same_files M apart [] (g ∷ gs) in_fs in_gs paths digests = absurd cc
same_files M apart (f ∷ fs) [] in_fs in_gs paths digests = absurd cc
same_files M apart (f ∷ fs) (g ∷ gs) in_fs in_gs paths digests =
    let path : f.0 ≡ g.0 = cc in
    let digest : sha256 f.1 ≡ sha256 g.1 = cc in
    let others : paths_of fs ≡ paths_of gs = cc in
    let other_digests : content_digests fs ≡ content_digests gs = cc in
    let file = one_file f g path (apart f.1 g.1 (in_fs f.1 (inl refl)) (in_gs g.1 (inl refl)) digest) in
    ap (λ (x : Atoms × List ℕ). x ∷ fs) file
    ∙ ap (λ (xs : Files). g ∷ xs) (same_files M apart fs gs (λ x h. in_fs x (inr h)) (λ x h. in_gs x (inr h)) others other_digests)

-- what a run uses of a process, by what the weak text says and the contents
abbrev pub with_contents : WeakParts → List ℕ → Files → Description
with_contents w exe files = record {
  tool = tool_of exe;
  exe = (w.process.exe, exe);
  files = files;
  dir = w.process.dir;
  args = w.process.args;
  env = variables w.process.env;
  outs = w.process.outs;
  outdirs = outdir_paths w.process.outdirs;
  console = w.process.console;
  budget = w.budget;
}

same_parts : (M : List ℕ → Type 0) → NoCollision M → (d e : Desc) → ((x : List ℕ) → IsOfDesc d x → M x) → ((x : List ℕ) → IsOfDesc e x → M x)
    → weak_parts d ≡ weak_parts e → described d ≡ described e
same_parts M apart d e of_d of_e parts =
    let exe = apart d.exe e.exe (of_d d.exe (inr (inl refl))) (of_e e.exe (inr (inl refl))) (ap (λ (w : WeakParts). w.exe) parts) in
    let files =
    same_files M apart d.files e.files (λ x h. of_d x (inr (inr h))) (λ x h. of_e x (inr (inr h)))
    (one_list (paths_of d.files) (paths_of e.files) (ap (λ (w : WeakParts). w.process.files) parts))
    (ap (λ (w : WeakParts). w.files) parts) in
    ap (λ (w : WeakParts). with_contents w d.exe d.files) parts
    ∙ ap (λ (b : List ℕ). with_contents (weak_parts e) b d.files) exe
    ∙ ap (λ (fs : Files). with_contents (weak_parts e) e.exe fs) files

-- processes whose weak texts share a digest are one to a run
pub same_desc : (M : List ℕ → Type 0) → NoCollision M → (d e : Desc) → ((x : List ℕ) → IsOfDesc d x → M x) → ((x : List ℕ) → IsOfDesc e x → M x)
    → IsReadBack d → IsReadBack e → weak_of d ≡ weak_of e → described d ≡ described e
same_desc M apart d e of_d of_e read_d read_e digests =
    let text = apart (weak_text (weak_parts d)) (weak_text (weak_parts e)) (of_d _ (inl refl)) (of_e _ (inl refl)) digests in
    same_parts M apart d e of_d of_e
    (same_Some (weak_parts d) (weak_parts e) (sym read_d ∙ ap read_weak_text text ∙ read_e))

-- ## Runs

-- the run on a view that gives the answers of a record is the record's
pub same_view : (f : Facts) (see : Ask → Answer) → DependsOnPathSet (described f.desc) → Sound f → f.answers ≡ map see f.paths → Repeats f (described f.desc) see
same_view f see depends sound same =
    let stored = answered f.paths f.answers in
    let one : run_for f.desc see ≡ run_for f.desc stored =
    depends stored see (λ q h. ap (λ xs. answered f.paths xs q) same
    ∙ stored_all see f.paths q (subst (λ (ps : List Ask). Has ps q) sound.run.paths h)) in
    let run : AreOf f (run_for f.desc see) = subst (AreOf f) (sym one) sound.run in
    record { accesses = run.accesses; paths = run.paths; outcome = run.outcome }

pub same_run : (d : Desc) (f : Facts) (see : Ask → Answer) → DependsOnPathSet (described f.desc) → Sound f → IsReadBack d → IsReadBack f.desc
    → IsSameDesc d f → held_lines f ≡ lines_now f see → NoCollision (IsCompared d f see) → Repeats f (described d) see
same_run d f see depends sound read read_held desc lines apart =
    let M = IsCompared d f see in
    let one = same_desc M apart f.desc d (λ x h. inl (inr h)) (λ x h. inl (inl h)) read_held read desc in
    let answers = same_answers M apart see f.answers f.paths (λ x h. inr (inl h)) (λ x h. inr (inr h)) lines in
    subst (λ (r : Description). Repeats f r see) one (same_view f see depends sound answers)
