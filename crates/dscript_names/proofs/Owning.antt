-- A table that is filled from the last module to the first has the first module of each file.
use Rattle.std.proofs.Common.{◌≡◌, ℕ, ◌<◌, ◌+◌, Bool, true, false, not, ◌||◌, cond, List, [], ◌∷◌, ◌++◌, Option, Some, length, take, get_or, refl, ap, sym, ◌∙◌, arith}
use Rattle.std.specs.BTreeMap.{is_at}
use Rattle.std.specs.List.{list_any, position_from, position_or_len}
use Rattle.std.specs.Option.{option_or, unwrap_or}
use Rattle.std.proofs.lemmas.List.{map-append, take_more, length-map}
use Rattle.bx_tree.specs.Orders.{path_cmp_matches, same_path_equiv}
use Rattle.bx_tree.specs.Paths.{Atoms, path_cmp, same_path}
use Rattle.bx_tree.proofs.Lists.{any_last}
use Rattle.dscript_program.specs.Workspaces.{module_data, modules_data}
use Rattle.dscript_program.specs.declared.workspace.ModuleText.{ModuleText}
use Rattle.dscript_names_scopes.specs.Declarations.{module_of}
use Rattle.dscript_names_scopes.proofs.FirstValues.{position_last, either_then}
use Rattle.dscript_names.specs.Owners.{HasOwners, has_file, owner_in}
use Rattle.dscript_names.specs.declared.owners.Owners.{Owners}

either_cond : {X : Type 0} (a b : Bool) (x y : X) → cond (a || b) x y ≡ cond b x (cond a x y)
either_cond true true x y = refl
either_cond true false x y = refl
either_cond false b x y = refl

-- one file more
pub owner_more : (q : Atoms) (xs : List Atoms) (i : ℕ) (x key : Atoms) (n : ℕ) (old mid new : Option ℕ)
    → new ≡ cond (is_at (path_cmp key) q) (Some n) mid
    → mid ≡ cond (list_any (same_path q) (take i xs)) (Some n) old → key ≡ x → i < length xs → x ≡ get_or xs i x
    → new ≡ cond (list_any (same_path q) (take (i + 1) xs)) (Some n) old
owner_more q xs i x key n old mid new put before is l e =
    let done = list_any (same_path q) (take i xs) in
    let more : take (i + 1) xs ≡ take i xs ++ x ∷ [] = take_more xs i x l ∙ ap (λ y. take i xs ++ y ∷ []) (sym e) in
    let test : is_at (path_cmp key) q ≡ same_path q x =
    sym (path_cmp_matches key q) ∙ ap (λ k. same_path k q) is ∙ same_path_equiv.symm x q in
    put ∙ ap (λ b. cond b (Some n) mid) test ∙ ap (cond (same_path q x) (Some n)) before
    ∙ sym (either_cond done (same_path q x) (Some n) old)
    ∙ ap (λ b. cond b (Some n) old) (sym (ap (list_any (same_path q)) more ∙ any_last (same_path q) (take i xs) x))

-- one module more, before those in the table
pub module_put : (q : Atoms) (left before : List ModuleText) (m : ModuleText) (n : ℕ) (old new whole : Option ℕ)
    → left ≡ before ++ m ∷ [] → n ≡ length before
    → new ≡ cond (list_any (same_path q) m.files.items) (Some n) old
    → option_or (position_from (has_file q) 0 (modules_data left)) old ≡ whole
    → option_or (position_from (has_file q) 0 (modules_data before)) new ≡ whole
module_put q left before m n old new whole split number put kept =
    let a = position_from (has_file q) 0 (modules_data before) in
    let test = has_file q (module_data m) in
    let place : n ≡ 0 + length (modules_data before) =
    let same : length (modules_data before) ≡ length before = length-map before module_data in omega (arith, same, number) in
    let split_data : modules_data left ≡ modules_data before ++ module_data m ∷ [] =
    ap modules_data split ∙ map-append module_data before (m ∷ []) in
    ap (option_or a) (put ∙ ap (λ k. cond test (Some k) old) place)
    ∙ sym (either_then a test (0 + length (modules_data before)) old)
    ∙ ap (λ o. option_or o old) (sym (ap (position_from (has_file q) 0) split_data
    ∙ position_last (has_file q) 0 (modules_data before) (module_data m)))
    ∙ kept

place_or_len : {X : Type 0} (p : X → Bool) (n : ℕ) (xs : List X) (d : ℕ) → d ≡ n + length xs
    → unwrap_or (position_from p n xs) d ≡ n + position_or_len p xs
place_or_len p n [] d e = e
place_or_len p n (x ∷ xs) d e =
    let next : n + 1 + position_or_len p xs ≡ n + (1 + position_or_len p xs) = omega arith in
    let rest : d ≡ n + 1 + length xs = omega (arith, e) in
    let first : n ≡ n + 0 = omega arith in
    elim (p x) as (λ b. unwrap_or (cond b (Some n) (position_from p (n + 1) xs)) d
    ≡ n + cond (not b) (1 + position_or_len p xs) 0) [
      | true ↦ first
      | false ↦ place_or_len p (n + 1) xs d rest ∙ next
    ]

-- all modules are in the table
pub owners_all : (q : Atoms) (modules left : List ModuleText) (d : ℕ) (at : Option ℕ) → left ≡ [] → d ≡ length modules
    → option_or (position_from (has_file q) 0 (modules_data left)) at ≡ position_from (has_file q) 0 (modules_data modules)
    → unwrap_or at d ≡ module_of (modules_data modules) q
owners_all q modules left d at none count kept =
    let all = modules_data modules in
    let length_is : d ≡ 0 + length all =
    let same : length all ≡ length modules = length-map modules module_data in omega (arith, same, count) in
    let zero_and : 0 + position_or_len (has_file q) all ≡ position_or_len (has_file q) all = omega arith in
    ap (λ o. unwrap_or o d) (ap (λ ms. option_or (position_from (has_file q) 0 (modules_data ms)) at) (sym none) ∙ kept)
    ∙ place_or_len (has_file q) 0 all d length_is ∙ zero_and

-- the module of a file by the table
pub owned : (modules listed : List ModuleText) (o : Owners) (path : Atoms) (owner : ℕ) → owner ≡ owner_in o path
    → HasOwners listed o → listed ≡ modules → owner ≡ module_of (modules_data modules) path
owned modules listed o path owner e h is = e ∙ h path ∙ ap (λ ms. module_of (modules_data ms) path) is
