-- How many entries of a table are open.
use Rattle.std.proofs.Common.{◌≡◌, ℕ, ◌+◌, ◌<◌, List, [], ◌∷◌, cond, get_or, length, map, refl, arith}
use Rattle.std.proofs.Math.ListN.{set}
use Rattle.std.proofs.lemmas.List.Sums.{sum_by-cons, sum_by-set}
use Rattle.std.specs.List.{sum_by}
use Rattle.dscript_program.specs.ProgramData.{DeclData, FileData, ProgramData}
use Rattle.dscript_types_known.specs.Findings.{Finding, Found, Nothing, Open, is_open}
use Rattle.dscript_types_known.specs.Tables.{TableData, all_open, closed, if_open, open_count, open_in}
use Rattle.dscript_types_meaning.specs.Types.{TypeData}

abbrev one_if : Finding TypeData → ℕ
one_if f = cond (is_open f) 1 0

-- in a table in which everything is open, that is all
open_all : {X : Type 0} (ds : List X) → open_in (map (λ (d : X). Open) ds) ≡ length ds
open_all [] = refl
open_all {X} (d ∷ ds) = omega (arith, sum_by-cons one_if Open (map (λ (e : X). Open) ds), open_all ds)

open_files
    : (fs : List FileData)
    → open_count (map (λ (f : FileData). map (λ (d : DeclData). Open) f.decls) fs)
    ≡ sum_by (λ (f : FileData). length f.decls) fs
open_files [] = refl
open_files (f ∷ fs) =
    let rest = map (λ (g : FileData). map (λ (d : DeclData). Open) g.decls) fs in
    let own : List (Finding TypeData) = map (λ (d : DeclData). Open) f.decls in
    omega (
      arith,
      sum_by-cons open_in own rest,
      sum_by-cons (λ (g : FileData). length g.decls) f fs,
      open_all f.decls,
      open_files fs,
    )

pub all_are_open : (p : ProgramData) → open_count (all_open p) ≡ sum_by (λ (f : FileData). length f.decls) p.files
all_are_open p = open_files p.files

-- in a closed table nothing is open
closed_one : (f : Finding TypeData) → one_if (if_open Nothing f) ≡ 0
closed_one (Found t rank) = refl
closed_one Nothing = refl
closed_one Open = refl

closed_in : (fs : List (Finding TypeData)) → open_in (map (if_open Nothing) fs) ≡ 0
closed_in [] = refl
closed_in (f ∷ fs) =
    omega (arith, sum_by-cons one_if (if_open Nothing f) (map (if_open Nothing) fs), closed_one f, closed_in fs)

pub none_is_open : (table : TableData) → open_count (closed table) ≡ 0
none_is_open [] = refl
none_is_open (fs ∷ table) =
    omega (arith, sum_by-cons open_in (map (if_open Nothing) fs) (closed table), closed_in fs, none_is_open table)

-- the entries of a file are others
pub other_entries
    : (table : TableData) (i : ℕ) (new d : List (Finding TypeData)) → i < length table
    → open_count (set table i new) + open_in (get_or table i d) ≡ open_count table + open_in new
other_entries table i new d l = sum_by-set open_in table i new d l

-- an entry is another
pub other_entry
    : (entries : List (Finding TypeData)) (i : ℕ) (new d : Finding TypeData) → i < length entries
    → open_in (set entries i new) + one_if (get_or entries i d) ≡ open_in entries + one_if new
other_entry entries i new d l = sum_by-set one_if entries i new d l
