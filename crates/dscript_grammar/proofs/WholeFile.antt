-- The reader of files is sound and complete.
use Rattle.std.proofs.Common.{◌≡◌, ℕ, zero, suc, ◌≤◌, max, List, [], ◌∷◌, ◌++◌, length, refl, ap, ◌∙◌, arith}
use Rattle.dscript_lex.specs.declared.token.TokenKind.{TokenKind}
use Rattle.dscript_ast.specs.FileTree.{ItemTree, FileTree, Project, Config, Module}
use Rattle.dscript_ast.specs.declared.file.Form.{Form}
use Rattle.dscript_ast.specs.declared.file.Form.TheVariants as forms
use Rattle.dscript_grammar.specs.Language.{many}
use Rattle.dscript_grammar.specs.Reading.{got, pick}
use Rattle.dscript_grammar.specs.FileGrammar.{item_at, file_at}
use Rattle.dscript_grammar.specs.FileReading.{at_end, items_of, as_project, read_file}
use Rattle.dscript_grammar.proofs.Combinators.{Reads, reads_done, reads_bind, take_bind, keyword_taken, Found, Sound, found_some, found_none, found_bind, found_if, keyword_sound}
use Rattle.dscript_grammar.proofs.FileSound.{called_sound}
use Rattle.dscript_grammar.proofs.FileComplete.{called_complete}
use Rattle.dscript_grammar.proofs.Items.{longest, no_items_in_nothing, items_before, goes_on}

file_derived : (h n : ℕ) (form : Form) (f : FileTree) (ts rest : List TokenKind) → suc n ≤ h → ((k : ℕ) → n ≤ k → file_at (suc k) form f ts rest) → file_at h form f ts rest
file_derived zero n form f ts rest l p = absurd (omega arith)
file_derived (suc k) n form f ts rest l p = p k (omega arith)

project_sound : (depth : ℕ) (ts : List TokenKind) → Found (as_project (items_of depth ts)) (λ f. (h : ℕ) → f.height ≤ h → file_at h forms.Project f.value ts f.rest)
unfolding as_project file_at
project_sound depth ts =
    let xs = items_of depth ts in
    let p = longest depth (length ts) ts (omega arith) in
    found_if (λ e. found_some (λ h l. file_derived h xs.height forms.Project (Project xs.value) ts xs.rest l (λ k lk. p.derived k lk))) (λ e. found_none)

pub file_sound : (depth : ℕ) (form : Form) → Sound (λ h. file_at h form) (read_file depth form)
unfolding read_file file_at
file_sound zero form ts = found_none
file_sound (suc depth) forms.Project ts = project_sound depth ts
file_sound (suc depth) forms.Config ts =
    found_bind (keyword_sound "config" ts) λ r e. found_bind (called_sound depth r) λ x p. found_some (λ h l. file_derived h x.height forms.Config _ ts x.rest l (λ k lk. (r, e, p k lk)))
file_sound (suc depth) forms.Module ts =
    found_bind (keyword_sound "module" ts) λ r e. found_bind (called_sound depth r) λ x p. found_some (λ h l. file_derived h x.height forms.Module _ ts x.rest l (λ k lk. (r, e, p k lk)))

nothing_after : (xs : List ItemTree) → xs ++ [] ≡ xs
nothing_after [] = refl
nothing_after (x ∷ xs) = ap (λ ys. x ∷ ys) (nothing_after xs)

project_complete : (depth h : ℕ) → h ≤ depth → (xs : List ItemTree) (ts : List TokenKind) → many (item_at h) xs ts [] → Reads (as_project (items_of depth ts)) (suc h) (Project xs) []
unfolding as_project pick at_end
project_complete depth h fits xs ts p =
    let c = goes_on depth (length ts) h fits xs ts [] p (omega arith) in
    let read_all : items_of depth ts ≡ items_before xs c.height (record { value = []; height = 0; rest = [] }) =
    c.is ∙ ap (items_before xs c.height) (no_items_in_nothing depth c.bound) in
    let l : max c.height 0 ≤ h = omega (arith, c.within) in
    record {
      height = suc (max c.height 0);
      within = omega (arith, l);
      is = ap as_project read_all ∙ ap (λ ys. got (Project ys) (suc (max c.height 0)) []) (nothing_after xs);
    }

pub file_complete : (depth h : ℕ) → h ≤ depth → (form : Form) (f : FileTree) (ts : List TokenKind) → file_at h form f ts [] → Reads (read_file depth form ts) h f []
unfolding file_at read_file
file_complete zero zero fits form f ts p = absurd p
file_complete zero (suc h) fits form f ts p = absurd (omega arith)
file_complete (suc depth) zero fits form f ts p = absurd p
file_complete (suc depth) (suc h) fits forms.Project (Project xs) ts p = project_complete depth h (omega arith) xs ts p
file_complete (suc depth) (suc h) fits forms.Config (Config e) ts (m, w, p) =
    take_bind _ (keyword_taken "config" w) (reads_bind _ (called_complete depth h (omega arith) e m [] p) λ i li. reads_done (omega arith))
file_complete (suc depth) (suc h) fits forms.Module (Module e) ts (m, w, p) =
    take_bind _ (keyword_taken "module" w) (reads_bind _ (called_complete depth h (omega arith) e m [] p) λ i li. reads_done (omega arith))
file_complete (suc depth) (suc h) fits forms.Project (Config e) ts p = absurd p
file_complete (suc depth) (suc h) fits forms.Project (Module e) ts p = absurd p
file_complete (suc depth) (suc h) fits forms.Config (Project xs) ts p = absurd p
file_complete (suc depth) (suc h) fits forms.Config (Module e) ts p = absurd p
file_complete (suc depth) (suc h) fits forms.Module (Project xs) ts p = absurd p
file_complete (suc depth) (suc h) fits forms.Module (Config e) ts p = absurd p
