-- Lists whose depth is known.
use Rattle.std.proofs.Common.{◌≡◌, ℕ, ◌+◌, ◌-◌, ◌<◌, ◌≤◌, max, true, false, nat_lt, List, [], ◌∷◌, ◌++◌, Some, None, cond, ap, sym, ◌∙◌, arith}
use Rattle.dscript_value.specs.declared.makers.TheConstants.{MAX_DEPTH}
use Rattle.dscript_value.specs.Data.{Plain, Listed, PlainValues, item_list, to_items, item_list-to_items, to_items-item_list}
use Rattle.dscript_value.specs.Depths.{greatest_depth, list_value, IsDeep}

pub greatest_depth-append : (xs ys : List Plain) → greatest_depth (xs ++ ys) ≡ max (greatest_depth xs) (greatest_depth ys)
greatest_depth-append [] ys = omega arith
greatest_depth-append (x ∷ xs) ys = omega (arith, greatest_depth-append xs ys)

within_limit : (n : ℕ) → n < MAX_DEPTH → nat_lt n MAX_DEPTH ≡ true
within_limit n h = grind arith

-- the list of values whose depth is known
pub list_of_deep : (v : PlainValues) → IsDeep v → list_value (item_list v.items) ≡ Some (Listed v.depth v.items)
list_of_deep v d =
    let n = greatest_depth (item_list v.items) in
    ap (λ t. cond t (Some (Listed (n + 1) (to_items (item_list v.items)))) None) (within_limit n d.within)
    ∙ ap (λ m. Some (Listed m (to_items (item_list v.items)))) (sym d.one_more)
    ∙ ap (λ xs. Some (Listed v.depth xs)) (to_items-item_list v.items)

pub deep_of : (depth : ℕ) (xs : List Plain) → depth ≡ greatest_depth xs + 1 → greatest_depth xs < MAX_DEPTH
    → IsDeep (record { depth = depth; items = to_items xs })
deep_of depth xs e w =
    let same = ap greatest_depth (item_list-to_items xs) in
    record { one_more = omega (arith, e, same); within = omega (arith, w, same) }

pub deep_joined : (l r : PlainValues) (depth : ℕ) → IsDeep l → IsDeep r → depth ≡ max l.depth r.depth
    → IsDeep (record { depth = depth; items = to_items (item_list l.items ++ item_list r.items) })
deep_joined l r depth d e is =
    let both = greatest_depth-append (item_list l.items) (item_list r.items) in
    deep_of depth (item_list l.items ++ item_list r.items)
    (omega (arith, both, d.one_more, e.one_more, is)) (omega (arith, both, d.within, e.within))

-- values of which the depth and the items are known
pub values_of_items : (v : PlainValues) (depth : ℕ) (xs : List Plain) → xs ≡ item_list v.items → depth ≡ v.depth
    → record { depth = depth; items = to_items xs } ≡ v
values_of_items v depth xs e d =
    ap (λ ys. record { depth = depth; items = to_items ys }) e
    ∙ ap (λ ys. record { depth = depth; items = ys }) (to_items-item_list v.items)
    ∙ ap (λ n. record { depth = n; items = v.items }) d

-- a list after others is too deep with them where it is alone
above_limit : (n : ℕ) → MAX_DEPTH ≤ n → nat_lt n MAX_DEPTH ≡ false
above_limit n h = grind arith

pub too_deep : (xs ys : List Plain) (n : ℕ) → n ≡ greatest_depth ys → MAX_DEPTH ≤ n → list_value (xs ++ ys) ≡ None
too_deep xs ys n e h =
    let whole = greatest_depth (xs ++ ys) in
    ap (λ t. cond t (Some (Listed (whole + 1) (to_items (xs ++ ys)))) None)
    (above_limit whole (omega (arith, greatest_depth-append xs ys, e, h)))

pub deepest_joined : (l r : PlainValues) (depth : ℕ) (xs : List Plain) → IsDeep l → IsDeep r → depth ≡ max l.depth r.depth
    → xs ≡ item_list l.items ++ item_list r.items → depth - 1 ≡ greatest_depth xs
deepest_joined l r depth xs d e is same =
    omega (arith, greatest_depth-append (item_list l.items) (item_list r.items), d.one_more, e.one_more, is, ap greatest_depth same)
