-- Tables that are filled further in a pass.
use Rattle.std.proofs.Common.{◌≡◌, ℕ, zero, suc, ◌+◌, ◌-◌, ◌<◌, ◌≤◌, false, Some, None, unwrap_or, refl, ap, sym, subst, ◌∙◌, arith}
use Rattle.dscript_program.specs.ProgramData.{DeclData, ProgramData}
use Rattle.dscript_types_known.specs.Findings.{Finding, Open, Tells, is_open, one_further}
use Rattle.dscript_types_known.specs.Tables.{IsClosedTo, IsRight, TableData, ask_of, closed, entry, filled, open_count}
use Rattle.dscript_types_meaning.specs.Lookups.{decl_at}
use Rattle.dscript_types_meaning.specs.Typed.{found, known_within, reach}
use Rattle.dscript_types_meaning.specs.Types.{TypeData}
use Rattle.dscript_types_scenes.specs.Scenes.{FindsAnywhere}
use Rattle.dscript_types_notes.specs.Means.{program_of}
use Rattle.dscript_types_notes.specs.declared.world.World.{World}
use Rattle.dscript_types.specs.Passes.{FindsIn, GoesOver, IsFull, IsShut, anywhere}
use Rattle.dscript_types.proofs.Tables.{closed_full, closed_right, filled_fewer, filled_right, further, not_open, nothing_further}

-- ## What is found of one

module _ (w : World) (file decl : ℕ) (d : DeclData) (f : Finding TypeData) (whole : w.left ≡ reach (program_of w))
    (there : decl_at (program_of w) file decl ≡ Some d) (before : entry w.table.now file decl ≡ Open)
    (looks : FindsAnywhere w f (λ p known. found p known (ask_of file decl d.kind))) where
  same_decl : (e : DeclData) → decl_at (program_of w) file decl ≡ Some e → d ≡ e
  same_decl e at = ap (λ o. unwrap_or o d) (sym there ∙ at)

  found_at
      : (n : ℕ) → n ≤ reach (program_of w)
      → Tells (IsClosedTo (program_of w) w.table.now (n - 1)) n (one_further f) (known_within (program_of w) n (ask_of file decl d.kind))
  unfolding known_within
  found_at zero within = nothing_further (IsClosedTo (program_of w) w.table.now (0 - 1)) f
  found_at (suc n) within =
      let one : n ≡ suc n - 1 = omega arith in
      further (IsClosedTo (program_of w) w.table.now (suc n - 1)) n f (found (program_of w) (known_within (program_of w) n) (ask_of file decl d.kind))
      (subst
      (λ (m : ℕ). Tells (IsClosedTo (program_of w) w.table.now m) n f (found (program_of w) (known_within (program_of w) n) (ask_of file decl d.kind)))
      one (looks n n (omega arith) (omega (arith, within, whole))))

  pub finds_in : FindsIn (program_of w) w.table.now file decl (one_further f)
  finds_in = record {
    before = before;
    finds = λ n e within at.
        subst
        (λ (x : DeclData). Tells (IsClosedTo (program_of w) w.table.now (n - 1)) n (one_further f) (known_within (program_of w) n (ask_of file decl x.kind)))
        (same_decl e at) (found_at n within);
  }

pub shut_missing : (p : ProgramData) (t : TableData) (file decl : ℕ) → decl_at p file decl ≡ None → IsShut p t file decl
shut_missing p t file decl none d there = let fails : None ≡ Some d = sym none ∙ there in cc

pub shut_found : (p : ProgramData) (t : TableData) (file decl : ℕ) → is_open (entry t file decl) ≡ false → IsShut p t file decl
shut_found p t file decl shut d there e = not_open (entry t file decl) shut e

-- ## Going over declarations

-- the declaration with these numbers
abbrev pub only_at : ℕ → ℕ → ℕ → ℕ → Type 0
only_at file decl k j = (k ≡ file) × (j ≡ decl)

pub over_shut
    : (p : ProgramData) (t : TableData) (file decl : ℕ) → IsRight p t → IsShut p t file decl → GoesOver p t t (only_at file decl)
over_shut p t file decl right shut = record {
  right = right;
  fewer = omega arith;
  stuck = λ e. (
    refl,
    λ n k j d here there open_is within none.
        absurd (shut d (sym (ap (λ i. decl_at p i decl) here.0) ∙ sym (ap (decl_at p k) here.1) ∙ there)
        (sym (ap (λ i. entry t i decl) here.0) ∙ sym (ap (entry t k) here.1) ∙ open_is)),
  );
}

pub over_open
    : (p : ProgramData) (t : TableData) (file decl : ℕ) → IsRight p t → FindsIn p t file decl Open → GoesOver p t t (only_at file decl)
over_open p t file decl right finds = record {
  right = right;
  fewer = omega arith;
  stuck = λ e. (refl, λ n k j d here there open_is within none. moved n d within none k (sym here.0) j (sym here.1) there);
}
  where
    moved
        : (n : ℕ) (d : DeclData) → n < reach p → IsClosedTo p t n → (k : ℕ) → file ≡ k → (j : ℕ) → decl ≡ j → decl_at p k j ≡ Some d
        → known_within p (suc n) (ask_of k j d.kind) ≡ None
    moved n d within none k here =
        subst (λ (i : ℕ). (j : ℕ) → decl ≡ j → decl_at p i j ≡ Some d → known_within p (suc n) (ask_of i j d.kind) ≡ None) here
        (λ j there. subst (λ (i : ℕ). decl_at p file i ≡ Some d → known_within p (suc n) (ask_of file i d.kind) ≡ None) there
        (λ at. let one : n ≡ suc n - 1 = omega arith in
        finds.finds (suc n) d (omega (arith, within)) at (subst (λ (m : ℕ). IsClosedTo p t m) one none)))

pub over_found
    : (p : ProgramData) (old new : TableData) (file decl : ℕ) (f : Finding TypeData) → IsRight p old → FindsIn p old file decl f
    → is_open f ≡ false → new ≡ filled old file decl f → GoesOver p old new (only_at file decl)
over_found p old new file decl f right finds shut put =
    let count : open_count new + 1 ≡ open_count old = ap (λ (t : TableData). open_count t + 1) put ∙ filled_fewer old file decl f finds.before shut in
    record {
      right = subst (λ (t : TableData). IsRight p t) (sym put) (filled_right p old file decl f finds (not_open f shut) right);
      fewer = omega (arith, count);
      stuck = λ e. absurd (omega (arith, count, e));
    }

-- ## The last pass

module _ (p : ProgramData) (old new : TableData) (over : GoesOver p old new anywhere)
    (same : open_count new ≡ open_count old) where
  pub last_right : IsRight p (closed new)
  last_right = closed_right p new (over.stuck same).1 over.right

  pub last_full : IsFull (closed new)
  last_full = closed_full new
