-- Files by their paths and the digests of their contents, place by place.
use Rattle.std.proofs.Common.{◌≡◌, ℕ, ◌+◌, ◌<◌, Bool, true, false, not, List, [], ◌∷◌, length, map, get_or, take, refl, ap, sym, ◌∙◌, arith}
use Rattle.std.proofs.lemmas.Bool.{not-false}
use Rattle.std.proofs.lemmas.List.{get_or-map, length-map, take-map, take_more_same}
use Rattle.bx_tree.specs.Orders.{same_path_decides}
use Rattle.bx_tree.specs.Paths.{Atoms, same_path}
use Rattle.pip_model_types.specs.Made.{made_files}
use Rattle.pip_model_types.specs.declared.made.MadeFile.{MadeFile}
use Rattle.memo_format.specs.Found.{output_lines}
use Rattle.memo_format.specs.declared.entry.OutputLine.{OutputLine}

-- the line of a file
abbrev pub line_of : MadeFile → OutputLine
line_of f = get_or (output_lines (made_files (f ∷ []))) 0 (record { path = f.path; digest = f.blob })

lines_are : (files : List MadeFile) → output_lines (made_files files) ≡ map line_of files
lines_are [] = refl
lines_are (f ∷ files) = ap (λ (ls : List OutputLine). line_of f ∷ ls) (lines_are files)

same_lines : (files others : List MadeFile) → output_lines (made_files files) ≡ output_lines (made_files others) → map line_of files ≡ map line_of others
same_lines files others same = sym (lines_are files) ∙ same ∙ lines_are others

abbrev line : Atoms → List ℕ → OutputLine
line path digest = record { path = path; digest = digest }

same_line : (f g : MadeFile) → f.path ≡ g.path → (line_of f).digest ≡ (line_of g).digest → line_of f ≡ line_of g
same_line f g path digest = ap (λ (p : Atoms). line p (line_of f).digest) path ∙ ap (line g.path) digest

pub alike_size : (files others : List MadeFile) → output_lines (made_files files) ≡ output_lines (made_files others) → length files ≡ length others
alike_size files others same =
    sym (length-map files line_of) ∙ ap length (same_lines files others same) ∙ length-map others line_of

alike_at : (files others : List MadeFile) (k : ℕ) (f g : MadeFile) → k < length files → k < length others → f ≡ get_or files k f → g ≡ get_or others k g
    → output_lines (made_files files) ≡ output_lines (made_files others) → line_of f ≡ line_of g
alike_at files others k f g l l' is_f is_g same =
    ap line_of is_f ∙ sym (get_or-map line_of files k f (line_of f) l)
    ∙ ap (λ (ls : List OutputLine). get_or ls k (line_of f)) (same_lines files others same)
    ∙ get_or-map line_of others k g (line_of f) l' ∙ sym (ap line_of is_g)

-- files with other paths at a place are not alike, nor are files with other digests there
pub other_path : (files others : List MadeFile) (k : ℕ) (f g : MadeFile) (test : Bool) → k < length files → k < length others → f ≡ get_or files k f
    → g ≡ get_or others k g → test ≡ not (same_path f.path g.path) → test ≡ true → output_lines (made_files files) ≡ output_lines (made_files others) → ⊥
other_path files others k f g test l l' is_f is_g is on same =
    let path : f.path ≡ g.path = ap (λ (o : OutputLine). o.path) (alike_at files others k f g l l' is_f is_g same) in
    let clash : true ≡ false = sym on ∙ is ∙ ap not ((same_path_decides f.path g.path).1 path) in
    cc

pub other_digest : (files others : List MadeFile) (k : ℕ) (f g : MadeFile) → k < length files → k < length others → f ≡ get_or files k f
    → g ≡ get_or others k g → ((line_of f).digest ≡ (line_of g).digest → ⊥) → output_lines (made_files files) ≡ output_lines (made_files others) → ⊥
other_digest files others k f g l l' is_f is_g other same =
    other (ap (λ (o : OutputLine). o.digest) (alike_at files others k f g l l' is_f is_g same))

pub path_same : (p q : Atoms) (test : Bool) → test ≡ not (same_path p q) → test ≡ false → p ≡ q
path_same p q test is off = (same_path_decides p q).0 (not-false (same_path p q) (sym is ∙ off))

-- one more place at which paths and digests are the same
pub alike_more : (files others : List MadeFile) (k : ℕ) (f g : MadeFile) → k < length files → k < length others → f ≡ get_or files k f → g ≡ get_or others k g
    → output_lines (made_files (take k files)) ≡ output_lines (made_files (take k others)) → f.path ≡ g.path → (line_of f).digest ≡ (line_of g).digest
    → output_lines (made_files (take (k + 1) files)) ≡ output_lines (made_files (take (k + 1) others))
alike_more files others k f g l l' is_f is_g before path digest =
    let front : take k (map line_of files) ≡ take k (map line_of others) =
    take-map line_of k files ∙ same_lines (take k files) (take k others) before ∙ sym (take-map line_of k others) in
    let here : get_or (map line_of files) k (line_of f) ≡ get_or (map line_of others) k (line_of f) =
    get_or-map line_of files k f (line_of f) l ∙ sym (ap line_of is_f) ∙ same_line f g path digest ∙ ap line_of is_g
    ∙ sym (get_or-map line_of others k g (line_of f) l') in
    lines_are (take (k + 1) files) ∙ sym (take-map line_of (k + 1) files)
    ∙ take_more_same (map line_of files) (map line_of others) k (line_of f) (omega (arith, l, length-map files line_of))
    (omega (arith, l', length-map others line_of)) front here
    ∙ take-map line_of (k + 1) others ∙ sym (lines_are (take (k + 1) others))
