-- Files that are put at their places, one after the other.
use Rattle.std.proofs.Common.{◌≡◌, ℕ, suc, ◌+◌, ◌<◌, ◌≤◌, List, [], ◌∷◌, ◌++◌, length, map, drop, get_or, refl, ap, sym, ◌∙◌, add-one}
use Rattle.std.proofs.lemmas.List.{drop_all}
use Rattle.std.proofs.Math.Seq.{drop-cons}
use Rattle.bx_tree.specs.Trees.{Files}
use Rattle.tool_run_writes.specs.Writes.{with_file}
use Rattle.violations.specs.Slots.{slot_files}
use Rattle.pip_model_types.specs.Made.{made_files}
use Rattle.pip_model_types.specs.declared.made.MadeFile.{MadeFile}
use Rattle.pip_model_types.specs.declared.made.Slot.{Slot}
use Rattle.one_thread.specs.OneThread.{all_made, put_all}

put_after : (files xs ys : Files) → put_all files (xs ++ ys) ≡ put_all (put_all files xs) ys
put_after files [] ys = refl
put_after files (x ∷ xs) ys = put_after (with_file files x.0 x.1) xs ys

-- one file more
pub file_more : (made : List MadeFile) (i : ℕ) (f : MadeFile) (files next whole : Files) → i < length made → f ≡ get_or made i f
    → next ≡ with_file files f.path f.blob → put_all files (made_files (drop i made)) ≡ whole → put_all next (made_files (drop (i + 1) made)) ≡ whole
file_more made i f files next whole l is put so_far =
    ap (λ (gs : Files). put_all gs (made_files (drop (i + 1) made))) put
    ∙ ap (λ n. put_all (with_file files f.path f.blob) (made_files (drop n made))) (add-one i)
    ∙ ap (λ (g : MadeFile). put_all files (made_files (g ∷ drop (suc i) made))) is
    ∙ ap (λ (gs : List MadeFile). put_all files (made_files gs)) (sym (drop-cons made i f l))
    ∙ so_far

pub files_end : (made : List MadeFile) (i : ℕ) (files whole : Files) → length made ≤ i → put_all files (made_files (drop i made)) ≡ whole → files ≡ whole
files_end made i files whole l so_far = ap (λ (gs : List MadeFile). put_all files (made_files gs)) (sym (drop_all i made l)) ∙ so_far

-- one slot more
pub slot_more : (ss : List Slot) (i : ℕ) (s : Slot) (files next whole : Files) → i < length ss → s ≡ get_or ss i s → next ≡ put_all files (slot_files s)
    → put_all files (all_made (map slot_files (drop i ss))) ≡ whole → put_all next (all_made (map slot_files (drop (i + 1) ss))) ≡ whole
slot_more ss i s files next whole l is put so_far =
    ap (λ (gs : Files). put_all gs (all_made (map slot_files (drop (i + 1) ss)))) put
    ∙ sym (put_after files (slot_files s) (all_made (map slot_files (drop (i + 1) ss))))
    ∙ ap (λ n. put_all files (slot_files s ++ all_made (map slot_files (drop n ss)))) (add-one i)
    ∙ ap (λ (t : Slot). put_all files (all_made (map slot_files (t ∷ drop (suc i) ss)))) is
    ∙ ap (λ (ts : List Slot). put_all files (all_made (map slot_files ts))) (sym (drop-cons ss i s l))
    ∙ so_far

pub slots_end : (ss : List Slot) (i : ℕ) (files whole : Files) → length ss ≤ i → put_all files (all_made (map slot_files (drop i ss))) ≡ whole → files ≡ whole
slots_end ss i files whole l so_far = ap (λ (ts : List Slot). put_all files (all_made (map slot_files ts))) (sym (drop_all i ss l)) ∙ so_far
