-- The directories that a process takes are those of pips of its plan.
use Rattle.std.proofs.Common.{◌≡◌, ℕ, zero, suc, true, List, [], ◌∷◌, length, take, get_or, Option, Some, None, refl, ap, sym, subst, ◌∙◌}
use Rattle.std.specs.Borrow.{Bor}
use Rattle.std.specs.List.Sorted.{IsStrictlySortedBy}
use Rattle.std.specs.Option.{option_copied}
use Rattle.std.specs.Prelude.{IfSome, IsSomeAnd, slice_get}
use Rattle.violations.specs.Producing.{dirs_at}
use Rattle.pip_model_types.specs.Dirs.{RiseByForm}
use Rattle.std.specs.List.{All}
use Rattle.std.proofs.lemmas.Bool.{lt-ltb}
use Rattle.std.proofs.lemmas.List.Elements.{All-weaker}
use Rattle.std.proofs.lemmas.List.Folds.{list_any_at}
use Rattle.std.proofs.lemmas.Option.{get_or_from_slice_get, slice_get_within}
use Rattle.pip_model_types.specs.Makers.{HasOutDir, IsDirAmong, IsPipList, IsSealOf, NamesAmong}
use Rattle.pip_model_types.specs.declared.dir_inputs.DirInput.{DirInput}
use Rattle.pip_model_types.specs.declared.dir_inputs.DirInput.TheVariants.{Sealed, Opaque}
use Rattle.pip_model_types.specs.declared.pip.Pip.{Pip}
use Rattle.pip_model_types.specs.declared.pip.PipKind.{PipKind}
use Rattle.pip_model_types.specs.declared.pip.PipKind.TheVariants.{Process, Copy, Write, Seal}
use Rattle.pip_model_types.specs.declared.pip.ProcessDesc.{ProcessDesc}
use Rattle.pip_view_inputs.specs.Plain.{kind_process, process_in}
use Rattle.pip_model.specs.Listings.{is_wide}
use Rattle.pip_model.specs.declared.listings.TheConstants.{FEW_DIRS}
use Rattle.pip_view_directories.specs.Near.{AreTaken}
use Rattle.pip_model_types.specs.Kinds.{taken_dirs}

pub kind_is : (kind : PipKind) (d : ProcessDesc) → kind_process kind ≡ Some d → kind ≡ Process d
kind_is (Process e) d h = let same : e ≡ d = cc in ap Process same
kind_is (Copy e) d h = absurd cc
kind_is (Write e) d h = absurd cc
kind_is (Seal e) d h = absurd cc

pub process_is : (o : Option Pip) (d : ProcessDesc) → process_in o ≡ Some d → (pip : Pip) × (o ≡ Some pip) × (pip.kind ≡ Process d)
process_is None d h = absurd cc
process_is (Some pip) d h = (pip, refl, kind_is pip.kind d h)

-- what holds of one of the first pips holds of it among all
from_first : (P : Pip → Type 0) (pips : List Pip) (n m : ℕ) → IsSomeAnd (slice_get (take n pips) m) P → IsSomeAnd (slice_get pips m) P
from_first P [] zero m h = h
from_first P [] (suc n) m h = h
from_first P (pip ∷ pips) zero m h = absurd h
from_first P (pip ∷ pips) (suc n) zero h = h
from_first P (pip ∷ pips) (suc n) (suc m) h = from_first P pips n m h

among_all : (pips : List Pip) (n : ℕ) (dir : DirInput) → IsDirAmong (take n pips) dir → IsDirAmong pips dir
among_all pips n (Sealed m form root) h = from_first (λ (pip : Pip). IsSealOf form root pip.kind) pips n m h
among_all pips n (Opaque m path) h = from_first (λ (pip : Pip). HasOutDir path pip.kind) pips n m h

process_takes : (pips : List Pip) (i : ℕ) (d : ProcessDesc) → IsPipList pips → process_in (slice_get pips i) ≡ Some d → AreTaken pips d.dirs
process_takes pips i d list e =
    let (pip, there, is) = process_is (slice_get pips i) d e in
    let within = slice_get_within pips i pip there in
    let here = get_or_from_slice_get pips i pip pip there in
    let kind : (get_or pips i pip).kind ≡ Process d = ap (λ (p : Pip). p.kind) here ∙ is in
    let names : NamesAmong (take i pips) (Process d) = subst (NamesAmong (take i pips)) kind (list i within pip) in record {
      wide = λ long. list_any_at (λ (p : Pip). is_wide p.kind) pips i pip within (ap is_wide kind ∙ lt-ltb FEW_DIRS (length d.dirs) long);
      among = All-weaker (IsDirAmong (take i pips)) (IsDirAmong pips) (among_all pips i) d.dirs names.1;
    }

-- what the process at a place takes, if there is one
pub takes_if : (pips : List Pip) (i : ℕ) (o : Option (Bor ProcessDesc)) → IsPipList pips → option_copied o ≡ process_in (slice_get pips i)
    → IfSome o (λ d. AreTaken pips d.now.dirs)
takes_if pips i None list e = tt
takes_if pips i (Some d) list e = process_takes pips i d.now list (sym e)

-- ## The directories of a process

abbrev pub process_dirs : Option ProcessDesc → List DirInput
process_dirs None = []
process_dirs (Some d) = d.dirs

kind_dirs : (kind : PipKind) → process_dirs (kind_process kind) ≡ taken_dirs kind
kind_dirs (Process d) = refl
kind_dirs (Copy d) = refl
kind_dirs (Write d) = refl
kind_dirs (Seal d) = refl

pub pip_dirs : (o : Option Pip) → process_dirs (process_in o) ≡ dirs_at o
pip_dirs None = refl
pip_dirs (Some pip) = kind_dirs pip.kind

pub no_dirs_rise : RiseByForm []
unfolding IsStrictlySortedBy
no_dirs_rise = tt
