-- Names that were seen, one by one.
use Rattle.std.proofs.Common.{◌≡◌, ℕ, Bool, true, false, cond, not, map, Result, Ok, Err, ◌&&◌, ◌||◌, List, [], ◌∷◌, refl, sym, ◌∙◌, ap}
use Rattle.std.specs.BTreeMap.{is_at}
use Rattle.std.specs.List.{list_any}
use Rattle.bx_tree.specs.Paths.{same_path}
use Rattle.dscript_program.specs.ProgramData.{Dotted}
use Rattle.std.specs.Str.{bytes_eq}
use Rattle.dscript_names_scopes.specs.Duplicates.{has_repeat, repeats}
use Rattle.dscript_names.specs.Singles.{Finds, single}
use Rattle.dscript_names.specs.declared.repeats.Repeats.{Repeats}
use Rattle.dscript_names_scopes.specs.Orders.{name_cmp, name_cmp_matches}

cond_or : (a b : Bool) → cond a true b ≡ (a || b)
cond_or true b = refl
cond_or false b = refl

pub not_not : (a b : Bool) → a ≡ not b → not a ≡ b
not_not a true e = ap not e
not_not a false e = ap not e

-- what the set has once a name is put in
pub seen_more : (key q : Dotted) (old new : Bool) → new ≡ cond (is_at (name_cmp key) q) true old → new ≡ (same_path key q || old)
seen_more key q old new e =
    e ∙ ap (λ b. cond b true old) (sym (name_cmp_matches key q)) ∙ cond_or (same_path key q) old

-- one more name is seen
pub all_seen_more : (q x : Dotted) (left rest : List Dotted) (old new start whole : Bool)
    → left ≡ x ∷ rest → new ≡ (same_path x q || old)
    → (list_any (λ y. same_path y q) left || old) ≡ (whole || start)
    → (list_any (λ y. same_path y q) rest || new) ≡ (whole || start)
all_seen_more q x left rest old new start whole split more kept =
    let r = list_any (λ y. same_path y q) rest in
    ap (λ b. r || b) more ∙ moved r (same_path x q) old
    ∙ ap (λ ds. list_any (λ y. same_path y q) ds || old) (sym split) ∙ kept
  where
    moved : (r s o : Bool) → (r || (s || o)) ≡ ((s || r) || o)
    moved true true o = refl
    moved true false o = refl
    moved false true o = refl
    moved false false o = refl

-- ## Names by themselves

any_single : (x : List ℕ) (xs : List (List ℕ)) → list_any (same_path (single x)) (map single xs) ≡ list_any (bytes_eq x) xs
any_single x [] = refl
any_single x (y ∷ xs) =
    ap (λ b. b || list_any (same_path (single x)) (map single xs)) (and_true (bytes_eq x y))
    ∙ ap (λ b. bytes_eq x y || b) (any_single x xs)
  where
    and_true : (b : Bool) → (b && true) ≡ b
    and_true true = refl
    and_true false = refl

pub repeats_single : (xs : List (List ℕ)) → has_repeat same_path (map single xs) ≡ repeats xs
repeats_single [] = refl
repeats_single (x ∷ xs) =
    ap (λ b. b || has_repeat same_path (map single xs)) (any_single x xs)
    ∙ ap (λ b. list_any (bytes_eq x) xs || b) (repeats_single xs)

-- a walk looked at the names of a block
pub looked : {R E : Type 0} (r : Result R E) (before after : Repeats) (names : List Dotted) (ns : List (List ℕ))
    → names ≡ map single ns → Finds before after r (has_repeat same_path names) → Finds before after r (repeats ns)
looked (Ok x) before after names ns e h =
    h ∙ ap (λ b. before.found || b) (ap (has_repeat same_path) e ∙ repeats_single ns)
looked (Err y) before after names ns e h = tt

pub itself : (whole declared rest imported blocks d : Bool) (ds : List Dotted) (ns : List (List ℕ))
    → whole ≡ (declared || rest) → rest ≡ (imported || blocks)
    → declared ≡ has_repeat same_path ds → imported ≡ repeats ns → blocks ≡ d
    → whole ≡ (has_repeat same_path ds || (repeats ns || d))
itself whole declared rest imported blocks d ds ns is inner one two three =
    is ∙ ap (λ b. b || rest) one
    ∙ ap (λ b. has_repeat same_path ds || b) (inner ∙ ap (λ b. b || blocks) two ∙ ap (λ b. repeats ns || b) three)
