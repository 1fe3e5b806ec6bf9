-- What becomes of the files of names by one call after another.
use Rattle.std.proofs.Common.{◌≡◌, ◌∙◌, ℕ, List, length, length-append, arith, ap, sym, codes, Result, Ok, Err, refl, None, Vec, String, Global, subst, true, false}
use Rattle.std.specs.Prelude.{IsErr}
use Rattle.std.specs.FinMap.{get}
use Rattle.std.specs.declared.io.Error.{Error}
use Rattle.bx_io.specs.Names.{IsName}
use Rattle.bx_io_disk.specs.Files.{Creates, Files, IsExcluded, IsFault, IsFaultBut, Renames, Writes, SameBut}
use Rattle.bx_io_folder.specs.NamedFiles.{IsBegun, Places, Puts, SameNames, begun_at, place_ending}
use Rattle.std.specs.Fmt.{decimal}
use Rattle.std.specs.IoError.{error_kind}
use Rattle.std.specs.declared.io.ErrorKind.{ErrorKind}
use Rattle.std.specs.declared.io.ErrorKind.TheVariants.{AlreadyExists, NotFound}
use Rattle.bx_io.specs.Causes.{HasCause}
use Rattle.bx_io.specs.declared.keeper.Got.TheVariants as got
use Rattle.bx_io.specs.declared.keeper.Listed.TheVariants as listed
use Rattle.bx_io.specs.declared.keeper.PutFault.{PutFault}
use Rattle.bx_io.specs.declared.keeper.PutFault.TheVariants as put_faults
use Rattle.bx_io_disk.specs.Answers.{fault_of, got_of, list_fault_of, listed_of, put_fault_of, put_of}

-- a name with something behind it is no name
pub begun_of : (name path : List ℕ) (place : ℕ) → IsName name → path ≡ begun_at name place → IsBegun path
begun_of name path place named is = omega (arith, named.count, ap length is, length-append name (place_ending place), length-append (codes ".new-") (decimal place))

pub not_begun : (name path : List ℕ) → IsName name → IsBegun path → name ≡ path → ⊥
not_begun name path named begun same = omega (arith, named.count, begun, ap length same)

-- a file is made once more, as the first try changed nothing
pub created_again : (before mid between now : Files) (path : List ℕ) (e : Error) (r : Result (Unit {0}) Error)
    → Creates before mid path (Err e) → between ≡ mid → Creates between now path r → Creates before now path r
created_again before mid between now path e r first same next = subst (λ (files : Files). Creates files now path r) (same ∙ first.0) next

-- a place that was tried
pub placed_there : (before now : Files) (path : List ℕ) → Creates before now path (Ok tt) → Places before now path true
placed_there before now path created = created

pub placed_not : (before now : Files) (path : List ℕ) (e : Error) → error_kind e ≡ AlreadyExists → Creates before now path (Err e) → Places before now path false
placed_not before now path e is created = (created.0, created.1 is)

-- a file that was begun is no name
pub beside_names : (before now : Files) (begun : List ℕ) → IsBegun begun → SameBut before now begun → SameNames before now
beside_names before now begun is same q named = same q (not_begun q begun named is)

-- a file that was written and renamed
pub put_named : (before mid now : Files) (begun name bytes : List ℕ) (r : Result (Unit {0}) Error) → IsBegun begun → Writes before mid begun bytes (Ok tt) → Renames mid now begun name r
    → Puts before now name bytes r
put_named before mid now begun name bytes (Ok x) is writes renames =
    (renames.1 ∙ writes.0, λ q named other. renames.3 q (not_begun q begun named is) other ∙ writes.1 q (not_begun q begun named is))
put_named before mid now begun name bytes (Err e) is writes renames =
    λ q named. ap (λ (files : Files). get files q) renames ∙ writes.1 q (not_begun q begun named is)

pub same_names : (before now : Files) → now ≡ before → SameNames before now
same_names before now is q named = ap (λ (files : Files). get files q) is

-- a put that failed
pub puts_nothing : (before now : Files) (name bytes : List ℕ) (r : Result (Unit {0}) Error) → IsErr r → SameNames before now → Puts before now name bytes r
puts_nothing before now name bytes (Ok x) failed same = absurd (cc)
puts_nothing before now name bytes (Err e) failed same = same

-- a put whose file was begun beside the names
pub put_begun : (before mid now : Files) (name bytes : List ℕ) (r : Result (Unit {0}) Error) → SameNames before mid → Puts mid now name bytes r → Puts before now name bytes r
put_begun before mid now name bytes (Ok x) same puts = (puts.0, λ q named other. puts.1 q named other ∙ same q named)
put_begun before mid now name bytes (Err e) same puts = λ q named. puts q named ∙ same q named

-- a put whose file was removed again
pub put_given_up : (before mid now : Files) (name bytes : List ℕ) (e : Error) → Puts before mid name bytes (Err e) → SameNames mid now → Puts before now name bytes (Err e)
put_given_up before mid now name bytes e puts same = λ q named. same q named ∙ puts q named

-- what was made at a place is no name
pub made_beside : (before now : Files) (path : List ℕ) → IsBegun path → Places before now path true → SameNames before now
made_beside before now path begun placed q named = placed.2 q (not_begun q path named begun)

-- ## Faults

not_found_failed : got.None ≡ got.Failed → ⊥
not_found_failed h = cc

not_memory_failed : got.Memory ≡ got.Failed → ⊥
not_memory_failed h = cc

-- a look that failed is a fault
pub failed_look : (done : Result (Vec ℕ Global) Error) → got_of done ≡ got.Failed → IsFaultBut NotFound done
failed_look (Ok bytes) h = absurd (cc)
failed_look (Err e) h = (
  λ is. not_found_failed (sym (ap fault_of is) ∙ h),
  λ is. not_memory_failed (sym (ap fault_of is) ∙ h),
)

memory_failed : ◌≡◌ {A = Result (Unit {0}) PutFault} (Err put_faults.Memory) (Err put_faults.Failed) → ⊥
memory_failed h = cc

-- a change that failed is a fault
pub failed_change : (done : Result (Unit {0}) Error) → put_of done ≡ Err put_faults.Failed → IsFault done
failed_change (Ok x) h = absurd (cc)
failed_change (Err e) h = λ is. memory_failed (sym (ap (λ (k : ErrorKind). Err (put_fault_of k)) is) ∙ h)

listed_memory_failed : listed.Memory ≡ listed.Failed → ⊥
listed_memory_failed h = cc

-- a listing that failed is a fault
pub failed_listing : (done : Result (Vec (String Global) Global) Error) → listed_of done ≡ listed.Failed → IsFault done
failed_listing (Ok names) h = absurd (cc)
failed_listing (Err e) h = λ is. listed_memory_failed (sym (ap list_fault_of is) ∙ h)

-- ## A folder that another one locked

pub excluded_look : (done : Result (Vec ℕ Global) Error) → IsExcluded done → got_of done ≡ got.Failed
excluded_look (Ok bytes) is = absurd is
excluded_look (Err e) is = ap fault_of is

pub excluded_change : (done : Result (Unit {0}) Error) → IsExcluded done → put_of done ≡ Err put_faults.Failed
excluded_change (Ok x) is = absurd is
excluded_change (Err e) is = ap (λ (k : ErrorKind). Err (put_fault_of k)) is

pub excluded_listing : (done : Result (Vec (String Global) Global) Error) → IsExcluded done → listed_of done ≡ listed.Failed
excluded_listing (Ok names) is = absurd is
excluded_listing (Err e) is = ap list_fault_of is

-- an error is one of the store
pub failed_put : (done : Result (Unit {0}) Error) → IsErr done → IsErr (put_of done)
failed_put (Ok x) is = absurd (cc)
failed_put (Err e) is = refl

-- what has a cause has it where it follows from another that has it
pub cause_of : (before now : ℕ) (fault answer : Type 0) → HasCause before now fault → (answer → fault) → HasCause before now answer
cause_of before now fault answer cause is = record { later = cause.later; rose = λ a. cause.rose (is a) }
