-- The names of the modules that were found differ.
use Rattle.std.proofs.Common.{◌≡◌, ℕ, Bool, true, false, List, [], ◌∷◌, ◌++◌, map, Option, Some, None, cond, refl, ap, sym, subst, ◌∙◌, inl, inr}
use Rattle.std.specs.Prelude.{◌||◌}
use Rattle.std.specs.List.{AllByRecursion, IsDistinct, list_any}
use Rattle.std.specs.Str.{bytes_eq}
use Rattle.std.proofs.lemmas.List.Folds.{list_any-append}
use Rattle.bx_tree.specs.Trees.{Files}
use Rattle.dscript_program.specs.declared.spec_fault.SpecKind.TheVariants as kinds
use Rattle.dscript_program.specs.SpecFaults.{FaultData}
use Rattle.dscript_program.specs.Workspaces.{ModuleData, sdk_name}
use Rattle.dscript_names_workspace.specs.Finding.{Finds, main_module}
use Rattle.dscript_names_workspace.specs.ModuleLaws.{HaveOwnNames}
use Rattle.dscript_names_workspace.specs.Workspaces.{Found, fault_in, is_used, modules, repeated_module_name}
use Rattle.dscript_names_workspace.proofs.FoundModules.{found_from}

abbrev named : List ℕ → ModuleData → Bool
named name m = bytes_eq m.name name

or_false : (a b c : Bool) → (a || (b || (c || false))) ≡ false → ((a || b) ≡ false) × (c ≡ false)
or_false true b c e = cc
or_false false true c e = cc
or_false false false true e = cc
or_false false false false e = (refl, refl)

-- a name that is not used by these and one more is used by neither
unused_before : (before : List ModuleData) (m : ModuleData) (name : List ℕ) → is_used (before ++ m ∷ []) name ≡ false
    → (is_used before name ≡ false) × (bytes_eq m.name name ≡ false)
unused_before before m name e =
    or_false (bytes_eq sdk_name name) (list_any (named name) before) (bytes_eq m.name name)
    (ap (λ b. bytes_eq sdk_name name || b) (sym (list_any-append (named name) before (m ∷ []))) ∙ e)

abbrev AreUnused : List ModuleData → List ModuleData → Type 0
AreUnused before ms = AllByRecursion (λ m. is_used before m.name ≡ false) ms

-- what two facts say of each
each_before : (before : List ModuleData) (m : ModuleData) (ms : List ModuleData) → AreUnused (before ++ m ∷ []) ms
    → AreUnused before ms
each_before before m [] h = tt
each_before before m (n ∷ ns) h = ((unused_before before m n.name h.0).0, each_before before m ns h.1)

each_differs : (before : List ModuleData) (m : ModuleData) (ms : List ModuleData) → AreUnused (before ++ m ∷ []) ms
    → AllByRecursion (λ name. bytes_eq m.name name ≡ false) (map (λ n. n.name) ms)
each_differs before m [] h = tt
each_differs before m (n ∷ ns) h = ((unused_before before m n.name h.0).1, each_differs before m ns h.1)

no_fault : (b : Bool) (fault : FaultData) (later : Option FaultData) → cond b (Some fault) later ≡ None
    → (b ≡ false) × (later ≡ None)
no_fault true fault later e = cc
no_fault false fault later e = (refl, e)

abbrev twice : ModuleData → FaultData
twice m = fault_in kinds.DuplicateModule m.config

unused : (before ms : List ModuleData) → repeated_module_name before ms ≡ None → AreUnused before ms
unused before [] e = tt
unused before (m ∷ ms) e =
    let parts = no_fault (is_used before m.name) (twice m) (repeated_module_name (before ++ m ∷ []) ms) e in
    (parts.0, each_before before m ms (unused (before ++ m ∷ []) ms parts.1))

distinct : (before ms : List ModuleData) → repeated_module_name before ms ≡ None → IsDistinct bytes_eq (map (λ m. m.name) ms)
unfolding IsDistinct
distinct before [] e = tt
distinct before (m ∷ ms) e =
    let parts = no_fault (is_used before m.name) (twice m) (repeated_module_name (before ++ m ∷ []) ms) e in
    (each_differs before m ms (unused (before ++ m ∷ []) ms parts.1), distinct (before ++ m ∷ []) ms parts.1)

not_sdk : (b : Bool) (rest : Bool) → (b || rest) ≡ false → b ≡ false
not_sdk true rest e = cc
not_sdk false rest e = refl

none_is_sdk : (ms : List ModuleData) → AreUnused [] ms → AllByRecursion (λ m. bytes_eq sdk_name m.name ≡ false) ms
none_is_sdk [] h = tt
none_is_sdk (m ∷ ms) h = (not_sdk (bytes_eq sdk_name m.name) false h.0, none_is_sdk ms h.1)

own_names_of : (ms : List ModuleData) → repeated_module_name [] ms ≡ None → HaveOwnNames ms
own_names_of ms e = record { distinct = distinct [] ms e; not_sdk = none_is_sdk ms (unused [] ms e) }

pub own_names : (files : Files) (ms : List ModuleData) → Finds files (Found ms) → HaveOwnNames ms
own_names files ms h = elim (found_from files ms h) [
  | inl main ↦ subst HaveOwnNames (sym main.is) (own_names_of (main_module ∷ []) refl)
  | inr listed ↦ subst HaveOwnNames (sym listed.are) (own_names_of (modules listed.module_files) listed.no_name_fault)
]
