-- The table in which everything is open, file by file.
use Rattle.std.proofs.Common.{◌≡◌, ℕ, zero, suc, ◌+◌, ◌<◌, ◌≤◌, List, [], ◌∷◌, ◌++◌, append_assoc, drop, get_or, length, map, refl, ap, sym, ◌∙◌, arith}
use Rattle.std.proofs.lemmas.List.{append-nil, length-map, map-append}
use Rattle.std.proofs.lemmas.List.Sums.{sum_by-cons}
use Rattle.std.specs.List.{sum_by}
use Rattle.std.specs.declared.alloc.Global.{Global}
use Rattle.std.specs.declared.vec.Vec.{Vec}
use Rattle.dscript_program.specs.ProgramData.{DeclData, FileData}
use Rattle.dscript_program.specs.Views.{decl_data, file_data, program_data}
use Rattle.dscript_program.specs.declared.program.BoundDecl.{BoundDecl}
use Rattle.dscript_program.specs.declared.program.BoundFile.{BoundFile}
use Rattle.dscript_program.specs.declared.program.Program.{Program}
use Rattle.dscript_types_known.proofs.Counted.{all_are_open}
use Rattle.dscript_types_known.specs.Findings.{Finding, Open}
use Rattle.dscript_types_known.specs.Tables.{all_open, open_count}
use Rattle.dscript_types_known.specs.Views.{finding_data, table_data}
use Rattle.dscript_types_known.specs.declared.finding.Finding.{Finding as AnyFinding}
use Rattle.dscript_types_meaning.specs.Types.{TypeData}

-- ## Lists

dropped_at
    : {X : Type 0} (xs : List X) (i : ℕ) (x : X) → i < length xs → x ≡ get_or xs i x → drop i xs ≡ x ∷ drop (suc i) xs
dropped_at [] i x l e = absurd (omega (arith, l))
dropped_at (y ∷ xs) zero x l e = ap (λ z. z ∷ xs) (sym e)
dropped_at (y ∷ xs) (suc i) x l e = dropped_at xs i x (omega (arith, l)) e

drop_at : {X : Type 0} (xs : List X) (i : ℕ) (x : X) → i < length xs → x ≡ get_or xs i x → drop i xs ≡ x ∷ drop (i + 1) xs
drop_at xs i x l e = let next : suc i ≡ i + 1 = omega arith in dropped_at xs i x l e ∙ ap (λ k. x ∷ drop k xs) next

drop_past : {X : Type 0} (xs : List X) (i : ℕ) → length xs ≤ i → drop i xs ≡ []
drop_past [] zero l = refl
drop_past [] (suc i) l = refl
drop_past (x ∷ xs) zero l = absurd (omega (arith, l))
drop_past (x ∷ xs) (suc i) l = drop_past xs i (omega (arith, l))

-- ## Entries

abbrev row_of : FileData → List (Finding TypeData)
row_of f = map (λ (d : DeclData). Open) f.decls

abbrev an_open : Finding TypeData
an_open = Open

open_row : (ds : List BoundDecl) → map (λ (d : BoundDecl). an_open) ds ≡ map (λ (d : DeclData). Open) (map decl_data ds)
open_row [] = refl
open_row (d ∷ ds) = ap (λ (fs : List (Finding TypeData)). Open ∷ fs) (open_row ds)

-- the files up to this one, and those that are left
abbrev pub OpenGoes : Program → List BoundFile → ℕ → List (Vec (AnyFinding TypeData) Global) → Type 0
OpenGoes p slice i files = table_data files ++ map row_of (map file_data (drop i slice)) ≡ all_open (program_data p)

abbrev pub CountGoes : Program → List BoundFile → ℕ → ℕ → Type 0
CountGoes p slice i count =
    count + sum_by (λ (f : FileData). length f.decls) (map file_data (drop i slice))
    ≡ sum_by (λ (f : FileData). length f.decls) (program_data p).files

module _ (p : Program) (slice : List BoundFile) where
  pub open_begins
      : (files : List (Vec (AnyFinding TypeData) Global)) → files ≡ [] → slice ≡ p.files.items → OpenGoes p slice 0 files
  open_begins files none same =
      ap (λ fs. table_data fs ++ map row_of (map file_data slice)) none ∙ ap (λ fs. map row_of (map file_data fs)) same

  pub open_goes
      : (i : ℕ) (f : BoundFile) (files next : List (Vec (AnyFinding TypeData) Global)) (v : Vec (AnyFinding TypeData) Global)
      (ds : List BoundDecl) → i < length slice → f ≡ get_or slice i f → ds ≡ f.decls.items
      → map finding_data v.items ≡ map (λ (d : BoundDecl). Open) ds → next ≡ files ++ v ∷ [] → OpenGoes p slice i files
      → OpenGoes p slice (i + 1) next
  open_goes i f files next v ds l e same is put goes =
      ap (λ fs. table_data fs ++ left) put
      ∙ ap (λ rs. rs ++ left) (map-append (λ (u : Vec (AnyFinding TypeData) Global). map finding_data u.items) files (v ∷ []))
      ∙ append_assoc (table_data files) (map finding_data v.items ∷ []) left
      ∙ ap (λ row. table_data files ++ row ∷ left) (is ∙ open_row ds ∙ ap (λ xs. map (λ (d : DeclData). Open) (map decl_data xs)) same)
      ∙ ap (λ fs. table_data files ++ map row_of (map file_data fs)) (sym (drop_at slice i f l e))
      ∙ goes
    where
      left : List (List (Finding TypeData))
      left = map row_of (map file_data (drop (i + 1) slice))

  pub open_ends
      : (i : ℕ) (files : List (Vec (AnyFinding TypeData) Global)) → length slice ≤ i → OpenGoes p slice i files
      → table_data files ≡ all_open (program_data p)
  open_ends i files l goes =
      sym (ap (λ fs. table_data files ++ map row_of (map file_data fs)) (drop_past slice i l) ∙ append-nil (table_data files)) ∙ goes

  -- as many are open as are counted
  pub open_counted
      : (i count : ℕ) (files : List (Vec (AnyFinding TypeData) Global)) → length slice ≤ i → OpenGoes p slice i files
      → count ≡ sum_by (λ (f : FileData). length f.decls) (program_data p).files → count ≡ open_count (table_data files)
  open_counted i count files l goes is =
      is ∙ sym (all_are_open (program_data p)) ∙ ap open_count (sym (open_ends i files l goes))

  -- ## How many

  pub count_begins : slice ≡ p.files.items → CountGoes p slice 0 0
  count_begins same =
      let e = ap (λ fs. sum_by (λ (f : FileData). length f.decls) (map file_data fs)) same in omega (arith, e)

  pub count_goes
      : (i : ℕ) (f : BoundFile) (count next more : ℕ) → i < length slice → f ≡ get_or slice i f → more ≡ length f.decls.items
      → next ≡ count + more → CountGoes p slice i count → CountGoes p slice (i + 1) next
  count_goes i f count next more l e size is goes =
      omega (
        arith,
        goes,
        is,
        size,
        length-map f.decls.items decl_data,
        ap (λ fs. sum_by (λ (g : FileData). length g.decls) (map file_data fs)) (drop_at slice i f l e),
        sum_by-cons (λ (g : FileData). length g.decls) (file_data f) (map file_data (drop (i + 1) slice)),
      )

  pub count_ends
      : (i count : ℕ) → length slice ≤ i → CountGoes p slice i count
      → count ≡ sum_by (λ (f : FileData). length f.decls) (program_data p).files
  count_ends i count l goes =
      omega (arith, goes, ap (λ fs. sum_by (λ (g : FileData). length g.decls) (map file_data fs)) (drop_past slice i l))
