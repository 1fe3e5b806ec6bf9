-- A record that holds now is of the run of now, and descriptions of the same work have one weak text.
use Rattle.std.proofs.Common.{◌≡◌, ℕ, List, Some, refl, ap, sym, ◌∙◌, subst, inl, inr}
use Rattle.std.proofs.lemmas.Option.{same_Some}
use Rattle.sha2.specs.Sha256.{sha256}
use Rattle.bx_tree.specs.Trees.{Files, paths_of}
use Rattle.pip_model_types.specs.declared.desc.Desc.{Desc}
use Rattle.pip_model_types.specs.declared.pip.ProcessDesc.{ProcessDesc}
use Rattle.observed.specs.declared.ask.Ask.{Ask}
use Rattle.observed.specs.declared.access.Answer.{Answer}
use Rattle.prints.specs.declared.weak_parts.WeakParts.{WeakParts}
use Rattle.prints.specs.Processes.{weak_parts, with_sources}
use Rattle.prints.specs.ReadWeak.{read_weak_text}
use Rattle.prints.specs.Weak.{weak_text}
use Rattle.tool_run.specs.Description.{Description}
use Rattle.tool_run.specs.Described.{described}
use Rattle.tool_run.specs.Laws.{DependsOnPathSet}
use Rattle.run_record.specs.Answered.{answered}
use Rattle.run_record.specs.Collisions.{IsOfDesc, NoCollision}
use Rattle.run_record.specs.Digests.{IsReadBack, weak_of}
use Rattle.run_record.specs.Facts.{Facts, IsRun, Sound}
use Rattle.run_record.specs.Holding.{HoldsNow, IsSameWork, at_desc}
use Rattle.run_record.specs.Matches.{Repeats}
use Rattle.run_record.proofs.Same.{content_digests, one_list, same_files, same_view, with_contents}

-- ## Descriptions

-- what a weak text says, by its parts
abbrev parts_of : ProcessDesc → ℕ → List ℕ → Files → WeakParts
parts_of process budget exe files =
    record { process = process; budget = budget; exe = sha256 exe; files = content_digests files }

pub same_weak : (d e : Desc) → IsSameWork d e → weak_parts d ≡ weak_parts e
same_weak d e same =
    ap (λ (p : ProcessDesc). parts_of p d.budget d.exe d.files) same.process
    ∙ ap (λ (b : ℕ). parts_of (with_sources e.files e.process) b d.exe d.files) same.budget
    ∙ ap (λ (x : List ℕ). parts_of (with_sources e.files e.process) e.budget x d.files) same.exe
    ∙ ap (λ (fs : Files). parts_of (with_sources e.files e.process) e.budget e.exe fs) same.files

-- of the same work there is one run
pub same_described : (d e : Desc) → IsSameWork d e → described d ≡ described e
same_described d e same =
    ap (λ (w : WeakParts). with_contents w d.exe d.files) (same_weak d e same)
    ∙ ap (λ (b : List ℕ). with_contents (weak_parts e) b d.files) same.exe
    ∙ ap (λ (fs : Files). with_contents (weak_parts e) e.exe fs) same.files

pub one_weak : (d e : Desc) → IsSameWork d e → weak_of d ≡ weak_of e
one_weak d e same = ap (λ (w : WeakParts). sha256 (weak_text w)) (same_weak d e same)

pub read_both : (d e : Desc) → IsSameWork d e → IsReadBack d → IsReadBack e
read_both d e same read = subst (λ (w : WeakParts). read_weak_text (weak_text w) ≡ Some w) (same_weak d e same) read

-- descriptions whose weak texts share a digest are the same work, where contents and weak texts are apart
pub work_of : (M : List ℕ → Type 0) → NoCollision M → (d e : Desc) → ((x : List ℕ) → IsOfDesc d x → M x) → ((x : List ℕ) → IsOfDesc e x → M x)
    → IsReadBack d → IsReadBack e → weak_of d ≡ weak_of e → IsSameWork d e
work_of M apart d e of_d of_e read_d read_e digests =
    let text = apart (weak_text (weak_parts d)) (weak_text (weak_parts e)) (of_d _ (inl refl)) (of_e _ (inl refl)) digests in
    let parts = same_Some (weak_parts d) (weak_parts e) (sym read_d ∙ ap read_weak_text text ∙ read_e) in
    record {
      process = ap (λ (w : WeakParts). w.process) parts;
      exe = apart d.exe e.exe (of_d d.exe (inr (inl refl))) (of_e e.exe (inr (inl refl))) (ap (λ (w : WeakParts). w.exe) parts);
      files =
          same_files M apart d.files e.files (λ x h. of_d x (inr (inr h))) (λ x h. of_e x (inr (inr h)))
          (one_list (paths_of d.files) (paths_of e.files) (ap (λ (w : WeakParts). w.process.files) parts))
          (ap (λ (w : WeakParts). w.files) parts);
      budget = ap (λ (w : WeakParts). w.budget) parts;
    }

-- ## Records

pub holds_run : (f : Facts) (d : Desc) (see : Ask → Answer) → DependsOnPathSet (described f.desc) → Sound f → HoldsNow d see f → IsRun (at_desc d f) d see
holds_run f d see depends sound holds =
    let here = subst (λ (x : Description). Repeats f x see) (same_described f.desc d holds.work) (same_view f see depends sound holds.answers) in
    record { desc = refl; run = record { paths = here.paths; accesses = here.accesses; outcome = here.outcome }; answers = holds.answers }

pub sound_at : (f : Facts) (d : Desc) → Sound f → IsSameWork f.desc d → Sound (at_desc d f)
sound_at f d sound work =
    let stored = answered f.paths f.answers in
    let held : Repeats f (described f.desc) stored = record { accesses = sound.run.accesses; paths = sound.run.paths; outcome = sound.run.outcome } in
    let here = subst (λ (x : Description). Repeats f x stored) (same_described f.desc d work) held in
    record { number = sound.number; run = record { paths = here.paths; accesses = here.accesses; outcome = here.outcome } }
