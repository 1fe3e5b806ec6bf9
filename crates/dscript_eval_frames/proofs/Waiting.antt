-- Constants that wait.
use Rattle.std.proofs.Common.{◌≡◌, ℕ, zero, suc, ◌+◌, ◌<◌, ◌≤◌, List, [], ◌∷◌, ◌++◌, append_assoc, length, drop, map, get_or}
use Rattle.std.proofs.Common.{refl, ap, sym, ◌∙◌, arith, add-one}
use Rattle.std.proofs.Math.ListN.{replicate}
use Rattle.std.proofs.lemmas.List.{append-nil, map-append, replicate_more}
use Rattle.std.specs.declared.alloc.Global.{Global}
use Rattle.std.specs.declared.vec.Vec.{Vec}
use Rattle.dscript_program.specs.ProgramData.{DeclData, FileData}
use Rattle.dscript_program.specs.Views.{file_data}
use Rattle.dscript_program.specs.declared.program.BoundFile.{BoundFile}
use Rattle.dscript_eval_meaning.specs.Constants.{Table}
use Rattle.dscript_eval_meaning.specs.States as meaning
use Rattle.dscript_eval_frames.specs.Statuses.{status_of, statuses}
use Rattle.dscript_eval_frames.specs.declared.status.Status.{Status}
use Rattle.dscript_eval_frames.specs.declared.status.Status.TheVariants as variants

-- one more of the places of a file
pub one_more
    : (row now : List Status) (n : ℕ) → map status_of row ≡ replicate n meaning.Waiting
    → now ≡ row ++ variants.Waiting ∷ [] → map status_of now ≡ replicate (n + 1) meaning.Waiting
one_more row now n before is =
    ap (λ l. map status_of l) is
    ∙ map-append status_of row (variants.Waiting ∷ [])
    ∙ ap (λ l. l ++ meaning.Waiting ∷ []) before
    ∙ replicate_more n meaning.Waiting

places_of
    : (ds : List DeclData) → replicate (length ds) meaning.Waiting ≡ map (λ (d : DeclData). meaning.Waiting) ds
places_of [] = refl
places_of (d ∷ ds) = ap (λ l. meaning.Waiting ∷ l) (places_of ds)

-- a place for each declaration
pub all_places
    : (ds : List DeclData) (n : ℕ) → n ≡ length ds
    → replicate n meaning.Waiting ≡ map (λ (d : DeclData). meaning.Waiting) ds
all_places ds n is = ap (λ k. replicate k meaning.Waiting) is ∙ places_of ds

-- the places of these files
abbrev pub places : List BoundFile → Table
places fs = map (λ (f : FileData). map (λ (d : DeclData). meaning.Waiting) f.decls) (map file_data fs)

next_from : (fs : List BoundFile) (i : ℕ) (f : BoundFile) → i < length fs → f ≡ get_or fs i f → drop i fs ≡ f ∷ drop (suc i) fs
next_from [] i f less is = absurd (omega (arith, less))
next_from (g ∷ fs) zero f less is = ap (λ h. h ∷ fs) (sym is)
next_from (g ∷ fs) (suc i) f less is = next_from fs i f (omega (arith, less)) is

-- the places of one more file
pub one_file
    : (rows now : List (Vec Status Global)) (fs : List BoundFile) (i : ℕ) (f : BoundFile) (row : Vec Status Global)
    → i < length fs → f ≡ get_or fs i f → now ≡ rows ++ row ∷ []
    → map status_of row.items ≡ map (λ (d : DeclData). meaning.Waiting) (file_data f).decls
    → statuses rows ++ places (drop i fs) ≡ places fs → statuses now ++ places (drop (i + 1) fs) ≡ places fs
one_file rows now fs i f row less is added row_is before =
    ap (λ l. statuses l ++ places (drop (i + 1) fs)) added
    ∙ ap (λ l. l ++ places (drop (i + 1) fs)) (map-append (λ (r : Vec Status Global). map status_of r.items) rows (row ∷ []))
    ∙ append_assoc (statuses rows) (map status_of row.items ∷ []) (places (drop (i + 1) fs))
    ∙ ap (λ l. statuses rows ++ l ∷ places (drop (i + 1) fs)) row_is
    ∙ ap (λ k. statuses rows ++ places (f ∷ drop k fs)) (add-one i)
    ∙ ap (λ gs. statuses rows ++ places gs) (sym (next_from fs i f less is))
    ∙ before

none_from : (fs : List BoundFile) (i : ℕ) → length fs ≤ i → drop i fs ≡ []
none_from [] zero le = refl
none_from [] (suc i) le = refl
none_from (f ∷ fs) zero le = absurd (omega (arith, le))
none_from (f ∷ fs) (suc i) le = none_from fs i (omega (arith, le))

-- the places of all files
pub all_files
    : (rows : List (Vec Status Global)) (fs : List BoundFile) (i : ℕ) → length fs ≤ i
    → statuses rows ++ places (drop i fs) ≡ places fs → statuses rows ≡ places fs
all_files rows fs i le before =
    sym (append-nil (statuses rows)) ∙ ap (λ gs. statuses rows ++ places gs) (sym (none_from fs i le)) ∙ before
