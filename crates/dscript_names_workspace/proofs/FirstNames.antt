-- The first name that is used before, one module further.
use Rattle.std.proofs.Common.{◌≡◌, ◌<◌, ◌+◌, ℕ, suc, Bool, true, false, List, [], ◌∷◌, ◌++◌, Some, None, length, take, drop, get_or, cond, refl, ap, sym, subst, ◌∙◌, arith}
use Rattle.std.specs.Prelude.{◌||◌, not}
use Rattle.std.specs.Cmp.{Equal-is, both_ways}
use Rattle.std.specs.Cmp.Lexicographic.{slice_cmp}
use Rattle.std.specs.List.{list_any}
use Rattle.std.specs.Ordering.{is_eq, nat_cmp}
use Rattle.std.specs.Str.{bytes_eq}
use Rattle.std.proofs.Math.Seq.{drop-cons, take-suc}
use Rattle.std.proofs.lemmas.Cmp.{nat_list_cmp_total, tied_itself}
use Rattle.std.proofs.lemmas.List.{map-append}
use Rattle.std.proofs.lemmas.List.Folds.{list_any-append}
use Rattle.std.proofs.lemmas.Slice.Eq.{bytes_eq-Decides}
use Rattle.bx_tree.specs.Orders.{equal_texts}
use Rattle.dscript_program.specs.declared.spec_fault.SpecKind.TheVariants as kinds
use Rattle.dscript_program.specs.declared.workspace.ModuleText.{ModuleText}
use Rattle.dscript_program.specs.SpecFaults.{FaultData}
use Rattle.dscript_program.specs.Workspaces.{ModuleData, module_data, modules_data, sdk_name}
use Rattle.dscript_names_workspace.specs.Workspaces.{is_used, repeated_module_name}

same_text : (x y : List ℕ) → bytes_eq x y ≡ is_eq (slice_cmp nat_cmp x y)
same_text x y = both_ways (bytes_eq x y) (is_eq (slice_cmp nat_cmp x y))
    (λ e. subst (λ z. is_eq (slice_cmp nat_cmp x z) ≡ true) ((bytes_eq-Decides x y).0 e)
    (ap is_eq (tied_itself nat_list_cmp_total x)))
    (λ e. (bytes_eq-Decides x y).1 (equal_texts x y ((Equal-is (slice_cmp nat_cmp x y)).0 e)))

prefix-more : (all : List ModuleText) (i : ℕ) (m : ModuleText) → i < length all → m ≡ get_or all i m
    → modules_data (take (i + 1) all) ≡ modules_data (take i all) ++ module_data m ∷ []
prefix-more all i m l is =
    ap (λ n. modules_data (take n all)) (let n : i + 1 ≡ suc i = omega arith in n)
    ∙ ap modules_data (take-suc all i m l) ∙ map-append module_data (take i all) (get_or all i m ∷ [])
    ∙ ap (λ (f : ModuleText). modules_data (take i all) ++ module_data f ∷ []) (sym is)

rest-less : (all : List ModuleText) (i : ℕ) (m : ModuleText) → i < length all → m ≡ get_or all i m
    → modules_data (drop i all) ≡ module_data m ∷ modules_data (drop (i + 1) all)
rest-less all i m l is =
    ap modules_data (drop-cons all i m l)
    ∙ ap (λ (f : ModuleText). module_data f ∷ modules_data (drop (suc i) all)) (sym is)
    ∙ ap (λ n. module_data m ∷ modules_data (drop n all)) (let n : suc i ≡ i + 1 = omega arith in n)

cond_or : (b : Bool) → cond b true false ≡ (b || false)
cond_or true = refl
cond_or false = refl

-- the name that is always used
pub first_name : (key name : List ℕ) (now before : Bool) → key ≡ sdk_name
    → now ≡ cond (is_eq (slice_cmp nat_cmp key name)) true before → before ≡ false → now ≡ is_used [] name
first_name key name now before is e f =
    e ∙ ap (cond (is_eq (slice_cmp nat_cmp key name)) true) f ∙ ap (λ b. cond b true false) (sym (same_text key name))
    ∙ cond_or (bytes_eq key name) ∙ ap (λ k. bytes_eq k name || false) is

last_name : (b s t : Bool) → cond b true (s || t) ≡ (s || (t || (b || false)))
last_name true true t = refl
last_name true false true = refl
last_name true false false = refl
last_name false true t = refl
last_name false false true = refl
last_name false false false = refl

-- one more module uses its name
pub used_more : (all : List ModuleText) (i : ℕ) (m : ModuleText) (key name : List ℕ) (now before : Bool) → i < length all
    → m ≡ get_or all i m → key ≡ m.name → now ≡ cond (is_eq (slice_cmp nat_cmp key name)) true before
    → before ≡ is_used (modules_data (take i all)) name → now ≡ is_used (modules_data (take (i + 1) all)) name
used_more all i m key name now before l is k e f =
    let prefix = modules_data (take i all) in
    let named = λ (d : ModuleData). bytes_eq d.name name in
    e ∙ ap (cond (is_eq (slice_cmp nat_cmp key name)) true) f
    ∙ ap (λ b. cond b true (is_used prefix name)) (sym (same_text key name) ∙ ap (λ t. bytes_eq t name) k)
    ∙ last_name (bytes_eq m.name name) (bytes_eq sdk_name name) (list_any named prefix)
    ∙ ap (λ b. bytes_eq sdk_name name || b) (sym (list_any-append named prefix (module_data m ∷ [])))
    ∙ ap (λ ms. is_used ms name) (sym (prefix-more all i m l is))

abbrev twice : ModuleData → FaultData
twice m = record { kind = kinds.DuplicateModule; file = m.config; place = None }

-- the first fault is that of a module whose name is used before, if the names before it are not
pub fault_here : (all : List ModuleText) (i : ℕ) (m : ModuleText) → i < length all → m ≡ get_or all i m
    → is_used (modules_data (take i all)) m.name ≡ true
    → Some (twice (module_data m)) ≡ repeated_module_name (modules_data (take i all)) (modules_data (drop i all))
fault_here all i m l is e =
    let prefix = modules_data (take i all) in
    let later = repeated_module_name (prefix ++ module_data m ∷ []) (modules_data (drop (i + 1) all)) in
    ap (λ b. cond b (Some (twice (module_data m))) later) (sym e)
    ∙ ap (repeated_module_name prefix) (sym (rest-less all i m l is))

-- a module whose name is not used before leaves the first fault to the rest
pub fault_later : (all : List ModuleText) (i : ℕ) (m : ModuleText) → i < length all → m ≡ get_or all i m
    → is_used (modules_data (take i all)) m.name ≡ false
    → repeated_module_name (modules_data (take (i + 1) all)) (modules_data (drop (i + 1) all))
    ≡ repeated_module_name (modules_data (take i all)) (modules_data (drop i all))
fault_later all i m l is e =
    let prefix = modules_data (take i all) in
    let later = repeated_module_name (prefix ++ module_data m ∷ []) (modules_data (drop (i + 1) all)) in
    ap (λ ms. repeated_module_name ms (modules_data (drop (i + 1) all))) (prefix-more all i m l is)
    ∙ ap (λ b. cond b (Some (twice (module_data m))) later) (sym e)
    ∙ ap (repeated_module_name prefix) (sym (rest-less all i m l is))

-- what was not added was there
pub was_there : (b added : Bool) → added ≡ not b → added ≡ false → b ≡ true
was_there true added e f = refl
was_there false added e f = cc

pub was_new : (b added : Bool) → added ≡ not b → added ≡ true → b ≡ false
was_new true added e f = cc
was_new false added e f = refl
