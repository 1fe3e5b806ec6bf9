-- What values name as made, pips make; functions hold what they are said to hold; and what is added to the pips leaves
-- it so.
use Rattle.std.proofs.Common.{◌≡◌, ◌⊎◌, ℕ, zero, suc, List, [], ◌∷◌, ◌++◌, length, take, Option, Some, None}
use Rattle.std.proofs.Common.{refl, sym, ap, subst, inl, inr, arith, get_or}
use Rattle.std.specs.Prelude.{IsSomeAnd, slice_get}
use Rattle.std.specs.List.{AllByRecursion}
use Rattle.std.proofs.lemmas.Option.{same_Some, slice_get-get_or}
use Rattle.bx_tree.specs.Paths.{Atoms}
use Rattle.bx_tree.specs.declared.file_input.FileInput.{FileInput}
use Rattle.bx_tree.specs.declared.file_input.FileInput.TheVariants.{Source, Made}
use Rattle.bx_tree.proofs.Lists.{all_weaker}
use Rattle.pip_model_types.specs.Makers.{FitsAfter, HasOutDir, IsFileAmong, IsPipList, MakesFile}
use Rattle.pip_model_types.specs.declared.pip.Pip.{Pip}
use Rattle.pip_model_types.specs.declared.pip.PipKind.{PipKind}
use Rattle.pip_model_types.specs.declared.pip.PipKind.TheVariants as kinds
use Rattle.dscript_value.specs.declared.parts.Artifact.{Artifact as AnyArtifact}
use Rattle.dscript_value.specs.declared.parts.Artifact.TheVariants as artifacts
use Rattle.dscript_value.specs.declared.parts.Callee.{Callee}
use Rattle.dscript_value.specs.declared.parts.Callee.TheVariants as callees
use Rattle.dscript_value.specs.declared.parts.StaticDir.{StaticDir}
use Rattle.dscript_value.specs.declared.parts.StaticDir.TheVariants as dirs
use Rattle.dscript_value.specs.Plain as plain
use Rattle.dscript_value.specs.Plain.{Plain, PlainField, Items, End, More, Members, Last, Next}
use Rattle.dscript_value.specs.Plain.{item_list, member_list, to_items, to_members}

-- ## Pips that are added

-- each pip keeps its number
abbrev pub Grows : List Pip → List Pip → Type 0
Grows before now =
    (number : ℕ) (pip : Pip) → slice_get before number ≡ Some pip → slice_get now number ≡ Some pip

pub no_growth : (pips : List Pip) → Grows pips pips
no_growth pips = λ number pip e. e

pub grown_on : (a b c : List Pip) → Grows a b → Grows b c → Grows a c
grown_on a b c first more = λ number pip e. more number pip (first number pip e)

some_at : (P : Pip → Type 0) (o : Option Pip) → IsSomeAnd o P → (pip : Pip) × (o ≡ Some pip) × P pip
some_at P None h = absurd h
some_at P (Some pip) h = (pip, refl, h)

pub and_at : (P : Pip → Type 0) (o : Option Pip) (pip : Pip) → o ≡ Some pip → P pip → IsSomeAnd o P
and_at P o pip e h = subst (λ (q : Option Pip). IsSomeAnd q P) (sym e) h

pub still_at
    : (P : Pip → Type 0) (before now : List Pip) (number : ℕ) → Grows before now
    → IsSomeAnd (slice_get before number) P → IsSomeAnd (slice_get now number) P
still_at P before now number grows h =
    let found = some_at P (slice_get before number) h in
    and_at P (slice_get now number) found.0 (grows number found.0 found.1) found.2

front_at
    : (n : ℕ) (pips : List Pip) (number : ℕ) (pip : Pip) → slice_get (take n pips) number ≡ Some pip
    → slice_get pips number ≡ Some pip
front_at zero pips number pip e = absurd cc
front_at (suc n) [] number pip e = absurd cc
front_at (suc n) (x ∷ xs) zero pip e = e
front_at (suc n) (x ∷ xs) (suc number) pip e = front_at n xs number pip e

pub front_grows : (n : ℕ) (pips : List Pip) → Grows (take n pips) pips
front_grows n pips = front_at n pips

back_at
    : (pips more : List Pip) (number : ℕ) (pip : Pip) → slice_get pips number ≡ Some pip
    → slice_get (pips ++ more) number ≡ Some pip
back_at [] more number pip e = absurd cc
back_at (x ∷ xs) more zero pip e = e
back_at (x ∷ xs) more (suc number) pip e = back_at xs more number pip e

pub back_grows : (pips more : List Pip) → Grows pips (pips ++ more)
back_grows pips more = back_at pips more

pub last_at
    : (pips : List Pip) (pip : Pip) (number : ℕ) → length pips ≡ number
    → slice_get (pips ++ pip ∷ []) number ≡ Some pip
last_at [] pip zero e = refl
last_at [] pip (suc number) e = absurd (omega (arith, e))
last_at (x ∷ xs) pip zero e = absurd (omega (arith, e))
last_at (x ∷ xs) pip (suc number) e = last_at xs pip number (omega (arith, e))

-- ## Each pip fits after those before it

abbrev pub AllFit : List Pip → Type 0
AllFit pips =
    (number : ℕ) (pip : Pip) → slice_get pips number ≡ Some pip → FitsAfter (take number pips) pip

-- what is at a place after a pip was added
added_at
    : (pips : List Pip) (added : Pip) (number : ℕ) (pip : Pip)
    → slice_get (pips ++ added ∷ []) number ≡ Some pip
    → ((slice_get pips number ≡ Some pip) × (take number (pips ++ added ∷ []) ≡ take number pips))
    ⊎ ((added ≡ pip) × (take number (pips ++ added ∷ []) ≡ pips))
added_at [] added zero pip e = inr (same_Some added pip e, refl)
added_at [] added (suc number) pip e = absurd cc
added_at (x ∷ xs) added zero pip e = inl (e, refl)
added_at (x ∷ xs) added (suc number) pip e = elim (added_at xs added number pip e) [
  | inl old ↦ inl (old.0, ap (λ (ps : List Pip). x ∷ ps) old.1)
  | inr new ↦ inr (new.0, ap (λ (ps : List Pip). x ∷ ps) new.1)
]

pub all_fit
    : (pips : List Pip) (added : Pip) → AllFit pips → FitsAfter pips added → AllFit (pips ++ added ∷ [])
all_fit pips added fit fits = λ number pip e. elim (added_at pips added number pip e) [
  | inl old ↦ subst (λ (ps : List Pip). FitsAfter ps pip) (sym old.1) (fit number pip old.0)
  | inr new ↦
      subst (λ (ps : List Pip). FitsAfter ps pip) (sym new.1) (subst (λ (q : Pip). FitsAfter pips q) new.0 fits)
]

pub none_fit : AllFit []
none_fit = λ number pip e. absurd cc

pub list_from_fit : (pips : List Pip) → AllFit pips → IsPipList pips
list_from_fit pips fit = λ i within d. fit i (get_or pips i d) (slice_get-get_or pips i d within)

-- ## What values name as made

-- a seal of this root
abbrev pub IsSealAt : Atoms → PipKind → Type 0
IsSealAt root (kinds.Process d) = ⊥
IsSealAt root (kinds.Copy d) = ⊥
IsSealAt root (kinds.Write d) = ⊥
IsSealAt root (kinds.Seal d) = d.root ≡ root

abbrev pub IsProcess : PipKind → Type 0
IsProcess (kinds.Process d) = Unit {0}
IsProcess (kinds.Copy d) = ⊥
IsProcess (kinds.Write d) = ⊥
IsProcess (kinds.Seal d) = ⊥

-- the seal of a static directory has its root, and the process of an output directory has that directory
abbrev pub IsDirMade : List Pip → StaticDir → Type 0
IsDirMade pips (dirs.Seal maker root) =
    IsSomeAnd (slice_get pips maker) (λ (pip : Pip). IsSealAt root pip.kind)
IsDirMade pips (dirs.Opaque maker path) =
    IsSomeAnd (slice_get pips maker) (λ (pip : Pip). HasOutDir path pip.kind)

abbrev pub IsArtifactMade : List Pip → AnyArtifact → Type 0
IsArtifactMade pips (artifacts.Input file) = IsFileAmong pips file
IsArtifactMade pips (artifacts.InputDir dir) = IsDirMade pips dir
IsArtifactMade pips (artifacts.Output path) = Unit {0}
IsArtifactMade pips (artifacts.OutputDir path) = Unit {0}
IsArtifactMade pips (artifacts.Plain path) = Unit {0}

abbrev pub IsArgumentMade : List Pip → Option AnyArtifact → Type 0
IsArgumentMade pips None = Unit {0}
IsArgumentMade pips (Some artifact) = IsArtifactMade pips artifact

pub still_file
    : (before now : List Pip) → Grows before now → (file : FileInput) → IsFileAmong before file
    → IsFileAmong now file
still_file before now grows (Source path) h = tt
still_file before now grows (Made path maker) h =
    still_at (λ pip. MakesFile path pip.kind) before now maker grows h

pub still_dir
    : (before now : List Pip) → Grows before now → (dir : StaticDir) → IsDirMade before dir → IsDirMade now dir
still_dir before now grows (dirs.Seal maker root) h =
    still_at (λ pip. IsSealAt root pip.kind) before now maker grows h
still_dir before now grows (dirs.Opaque maker path) h =
    still_at (λ pip. HasOutDir path pip.kind) before now maker grows h

still_artifact
    : (before now : List Pip) → Grows before now → (artifact : AnyArtifact) → IsArtifactMade before artifact
    → IsArtifactMade now artifact
still_artifact before now grows (artifacts.Input file) h = still_file before now grows file h
still_artifact before now grows (artifacts.InputDir dir) h = still_dir before now grows dir h
still_artifact before now grows (artifacts.Output path) h = tt
still_artifact before now grows (artifacts.OutputDir path) h = tt
still_artifact before now grows (artifacts.Plain path) h = tt

still_argument
    : (before now : List Pip) → Grows before now → (artifact : Option AnyArtifact)
    → IsArgumentMade before artifact → IsArgumentMade now artifact
still_argument before now grows None h = tt
still_argument before now grows (Some artifact) h = still_artifact before now grows artifact h

-- Of how many values the function with this number holds: F.
module _ (F : ℕ → ℕ → Type 0) where
  -- what a function with a body holds is as many as F says
  abbrev pub IsHolding : Callee → ℕ → Type 0
  IsHolding (callees.Place number) count = F number count
  IsHolding (callees.Ambient call) count = Unit {0}
  IsHolding (callees.Member name) count = Unit {0}

  -- each file, directory and process in the value is one that these pips make, and each function holds as many values as F
  -- says
  abbrev mutual
    pub IsMade : List Pip → Plain → Type 0
    IsMade pips (plain.File file) = IsFileAmong pips file
    IsMade pips (plain.Static dir) = IsDirMade pips dir
    IsMade pips (plain.Process number) =
        IsSomeAnd (slice_get pips number) (λ (pip : Pip). IsProcess pip.kind)
    IsMade pips (plain.Artifact artifact) = IsArtifactMade pips artifact
    IsMade pips (plain.Argument argument) = IsArgumentMade pips argument.artifact
    IsMade pips (plain.Listed depth items) = AreItemsMade pips items
    IsMade pips (plain.Object depth members) = AreMembersMade pips members
    IsMade pips (plain.Function callee depth held) =
        IsHolding callee (length (item_list held)) × AreItemsMade pips held
    IsMade pips _ = Unit {0}

    pub AreItemsMade : List Pip → Items → Type 0
    AreItemsMade pips End = Unit {0}
    AreItemsMade pips (More x xs) = IsMade pips x × AreItemsMade pips xs

    pub AreMembersMade : List Pip → Members → Type 0
    AreMembersMade pips Last = Unit {0}
    AreMembersMade pips (Next name x fs) = IsMade pips x × AreMembersMade pips fs

  abbrev pub AreMade : List Pip → List Plain → Type 0
  AreMade pips xs = AllByRecursion (IsMade pips) xs

  abbrev pub AreFieldsMade : List Pip → List PlainField → Type 0
  AreFieldsMade pips fs = AllByRecursion (λ (f : PlainField). IsMade pips f.1) fs

  pub items_made : (pips : List Pip) (items : Items) → AreItemsMade pips items → AreMade pips (item_list items)
  items_made pips End h = tt
  items_made pips (More x xs) h = (h.0, items_made pips xs h.1)

  pub made_items : (pips : List Pip) (xs : List Plain) → AreMade pips xs → AreItemsMade pips (to_items xs)
  made_items pips [] h = tt
  made_items pips (x ∷ xs) h = (h.0, made_items pips xs h.1)

  pub members_made
      : (pips : List Pip) (members : Members) → AreMembersMade pips members
      → AreFieldsMade pips (member_list members)
  members_made pips Last h = tt
  members_made pips (Next name x fs) h = (h.0, members_made pips fs h.1)

  pub made_members
      : (pips : List Pip) (fs : List PlainField) → AreFieldsMade pips fs → AreMembersMade pips (to_members fs)
  made_members pips [] h = tt
  made_members pips (f ∷ fs) h = (h.0, made_members pips fs h.1)

  -- ## It stays so

  mutual
    pub still_made
        : (before now : List Pip) → Grows before now → (x : Plain) → IsMade before x → IsMade now x
    still_made before now grows (plain.File file) h = still_file before now grows file h
    still_made before now grows (plain.Static dir) h = still_dir before now grows dir h
    still_made before now grows (plain.Process number) h =
        still_at (λ pip. IsProcess pip.kind) before now number grows h
    still_made before now grows (plain.Artifact artifact) h = still_artifact before now grows artifact h
    still_made before now grows (plain.Argument argument) h =
        still_argument before now grows argument.artifact h
    still_made before now grows (plain.Listed depth items) h = still_items before now grows items h
    still_made before now grows (plain.Object depth members) h = still_members before now grows members h
    still_made before now grows (plain.Function callee depth held) h = (h.0, still_items before now grows held h.1)
    still_made before now grows _ h = tt

    still_items
        : (before now : List Pip) → Grows before now → (items : Items) → AreItemsMade before items
        → AreItemsMade now items
    still_items before now grows End h = tt
    still_items before now grows (More x xs) h =
        (still_made before now grows x h.0, still_items before now grows xs h.1)

    still_members
        : (before now : List Pip) → Grows before now → (members : Members) → AreMembersMade before members
        → AreMembersMade now members
    still_members before now grows Last h = tt
    still_members before now grows (Next name x fs) h =
        (still_made before now grows x h.0, still_members before now grows fs h.1)

  pub all_still : (before now : List Pip) → Grows before now → (xs : List Plain) → AreMade before xs → AreMade now xs
  all_still before now grows xs h = all_weaker (IsMade before) (IsMade now) (still_made before now grows) xs h

  pub fields_still
      : (before now : List Pip) → Grows before now → (fs : List PlainField) → AreFieldsMade before fs
      → AreFieldsMade now fs
  fields_still before now grows fs h =
      all_weaker (λ (f : PlainField). IsMade before f.1) (λ (f : PlainField). IsMade now f.1)
      (λ f k. still_made before now grows f.1 k) fs h
