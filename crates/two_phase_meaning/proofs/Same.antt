-- Contents that are met are equal where their digests are, and so is all that names them by digest.
use Rattle.std.proofs.Common.{◌≡◌, ℕ, List, [], ◌∷◌, map, refl, ap, ◌∙◌}
use Rattle.std.specs.List.{AllByRecursion}
use Rattle.sha2.specs.Sha256.{sha256}
use Rattle.bx_tree.specs.Paths.{Atoms}
use Rattle.bx_tree.specs.Trees.{Files, paths_of}
use Rattle.bx_tree.specs.declared.file_input.FileInput.TheVariants.{Source}
use Rattle.bx_tree.proofs.Lists.{all_front, all_back}
use Rattle.pip_model_types.specs.declared.desc.Desc.{Desc}
use Rattle.observed.specs.declared.access.Answer.{Answer}
use Rattle.observed.specs.declared.access.Answer.TheVariants as answers
use Rattle.tool_text.specs.Reading.{tool_of}
use Rattle.tool_run.specs.Values.{variables}
use Rattle.tool_run.specs.Described.{described}
use Rattle.prints.specs.Processes.{weak_parts}
use Rattle.prints.specs.Strong.{IsAnswerLine, line_of}
use Rattle.prints.specs.declared.weak_parts.WeakParts.{WeakParts}
use Rattle.memo_format.specs.Found.{output_lines}
use Rattle.memo_format.specs.declared.entry.OutputLine.{OutputLine}
use Rattle.run_record.specs.Collisions.{NoCollision, contents_of}
use Rattle.prints.proofs.AnswersHaveLines.{is_line}
use Rattle.two_phase_meaning.specs.Contents.{answer_contents, desc_contents, given_contents}
use Rattle.pip_model_types.specs.Outputs.{outdir_paths}

-- ## Lists

pub all_map : {X : Type 0} (P Q : X → Type 0) (xs : List X) → ((x : X) → P x → Q x) → AllByRecursion P xs → AllByRecursion Q xs
all_map P Q [] f h = tt
all_map P Q (x ∷ xs) f h = (f x h.0, all_map P Q xs f h.1)

same_pair : {A B : Type 0} (p q : A × B) → p.0 ≡ q.0 → p.1 ≡ q.1 → p ≡ q
same_pair (a, b) (c, d) e f = cc

-- ## Lines of strong texts are of digests

pub lines_are : (given : List Answer) → AllByRecursion IsAnswerLine (map line_of given)
lines_are [] = tt
lines_are (a ∷ rest) = (is_line a, lines_are rest)

-- ## What is met

module _ (M : List ℕ → Type 0) (apart : NoCollision M) where
  same_answer : (a b : Answer) → line_of a ≡ line_of b → AllByRecursion M (answer_contents a) → AllByRecursion M (answer_contents b) → a ≡ b
  same_answer answers.Absent answers.Absent e h k = refl
  same_answer (answers.Content x) (answers.Content y) e h k = ap answers.Content (apart x y h.0 k.0 (cc))
  same_answer answers.File answers.File e h k = refl
  same_answer answers.Directory answers.Directory e h k = refl
  same_answer (answers.Names x) (answers.Names y) e h k = ap answers.Names (apart x y h.0 k.0 (cc))
  same_answer answers.Denied answers.Denied e h k = refl
  same_answer a b e h k = absurd cc

  pub same_answers : (as' bs : List Answer) → map line_of as' ≡ map line_of bs → AllByRecursion M (given_contents as') → AllByRecursion M (given_contents bs)
      → as' ≡ bs
  same_answers [] [] e h k = refl
  same_answers [] (b ∷ bs) e h k = absurd cc
  same_answers (a ∷ as') [] e h k = absurd cc
  same_answers (a ∷ as') (b ∷ bs) e h k =
      let first : line_of a ≡ line_of b = cc in
      let rest : map line_of as' ≡ map line_of bs = cc in
      let here = same_answer a b first (all_front M (answer_contents a) (given_contents as') h) (all_front M (answer_contents b) (given_contents bs) k) in
      let more = same_answers as' bs rest (all_back M (answer_contents a) (given_contents as') h) (all_back M (answer_contents b) (given_contents bs) k) in
      ap (λ x. x ∷ as') here ∙ ap (λ xs. b ∷ xs) more

  pub same_files : (fs gs : Files) → output_lines fs ≡ output_lines gs → AllByRecursion M (contents_of fs) → AllByRecursion M (contents_of gs) → fs ≡ gs
  same_files [] [] e h k = refl
  same_files [] (g ∷ gs) e h k = absurd cc
  same_files (f ∷ fs) [] e h k = absurd cc
  same_files (f ∷ fs) (g ∷ gs) e h k =
      let line : Atoms → List ℕ → OutputLine = λ path digest. record { path = path; digest = digest } in
      let first : line f.0 (sha256 f.1) ≡ line g.0 (sha256 g.1) = cc in
      let rest : output_lines fs ≡ output_lines gs = cc in
      let here : f ≡ g = same_pair f g (ap (λ (o : OutputLine). o.path) first) (apart f.1 g.1 h.0 k.0 (ap (λ (o : OutputLine). o.digest) first)) in
      ap (λ x. x ∷ fs) here ∙ ap (λ xs. g ∷ xs) (same_files fs gs rest h.1 k.1)

  -- files with equal paths, as source files, and equal digests
  same_sources : (fs gs : Files) → map Source (paths_of fs) ≡ map Source (paths_of gs)
      → map (λ (f : Atoms × List ℕ). sha256 f.1) fs ≡ map (λ (f : Atoms × List ℕ). sha256 f.1) gs
      → AllByRecursion M (contents_of fs) → AllByRecursion M (contents_of gs) → fs ≡ gs
  same_sources [] [] e d h k = refl
  same_sources [] (g ∷ gs) e d h k = absurd cc
  same_sources (f ∷ fs) [] e d h k = absurd cc
  same_sources (f ∷ fs) (g ∷ gs) e d h k =
      let path : f.0 ≡ g.0 = cc in
      let digest : sha256 f.1 ≡ sha256 g.1 = cc in
      let paths : map Source (paths_of fs) ≡ map Source (paths_of gs) = cc in
      let digests : map (λ (f : Atoms × List ℕ). sha256 f.1) fs ≡ map (λ (f : Atoms × List ℕ). sha256 f.1) gs = cc in
      let here : f ≡ g = same_pair f g path (apart f.1 g.1 h.0 k.0 digest) in
      ap (λ x. x ∷ fs) here ∙ ap (λ xs. g ∷ xs) (same_sources fs gs paths digests h.1 k.1)

  -- a weak text says all of a process that its run uses, but for the contents that it names by digest
  pub same_described : (d e : Desc) → weak_parts d ≡ weak_parts e → AllByRecursion M (desc_contents d) → AllByRecursion M (desc_contents e)
      → described d ≡ described e
  same_described d e w h k =
      let bytes : d.exe ≡ e.exe = apart d.exe e.exe h.0 k.0 (ap (λ (x : WeakParts). x.exe) w) in
      let files : d.files ≡ e.files = same_sources d.files e.files (ap (λ (x : WeakParts). x.process.files) w) (ap (λ (x : WeakParts). x.files) w) h.1 k.1 in
      let exe : d.process.exe ≡ e.process.exe = ap (λ (x : WeakParts). x.process.exe) w in
      let args : d.process.args ≡ e.process.args = ap (λ (x : WeakParts). x.process.args) w in
      let env : d.process.env ≡ e.process.env = ap (λ (x : WeakParts). x.process.env) w in
      let dir : d.process.dir ≡ e.process.dir = ap (λ (x : WeakParts). x.process.dir) w in
      let outs : d.process.outs ≡ e.process.outs = ap (λ (x : WeakParts). x.process.outs) w in
      let outdirs : d.process.outdirs ≡ e.process.outdirs = ap (λ (x : WeakParts). x.process.outdirs) w in
      let console : d.process.console ≡ e.process.console = ap (λ (x : WeakParts). x.process.console) w in
      let budget : d.budget ≡ e.budget = ap (λ (x : WeakParts). x.budget) w in
      let tool : tool_of d.exe ≡ tool_of e.exe = ap tool_of bytes in
      let pairs : variables d.process.env ≡ variables e.process.env = ap variables env in
      let dirs : outdir_paths d.process.outdirs ≡ outdir_paths e.process.outdirs = ap outdir_paths outdirs in
      cc
