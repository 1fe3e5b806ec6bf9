-- What is known of a list by its parts.
use Rattle.std.proofs.Common.{◌≡◌, ◌∙◌, List, ◌++◌, ℕ, ◌+◌, ◌<◌, ◌^◌, max, length, slice_get, ap, sym, subst, arith, append_assoc, length-append}
use Rattle.bx_tree.proofs.Lists.{slice_get-append}
use Rattle.dscript_value.specs.declared.value.Parts.{Parts}
use Rattle.dscript_value.specs.declared.value.Parts.TheVariants.{Flat, Joined}
use Rattle.dscript_value.specs.declared.value.Join.{Join}
use Rattle.dscript_value.specs.Data.{Plain, PlainValues, item_list, item_list-to_items}
use Rattle.dscript_value.specs.Depths.{IsDeep}
use Rattle.dscript_value.specs.Inner.{AreHalves, IsJoin, IsWhole, joined_items, values_of_parts}
use Rattle.dscript_value.proofs.Deep.{deep_joined}
use Rattle.dscript_value.proofs.Getting.{get_right}

pub deep_of_whole : (p : Parts) → IsWhole p → IsDeep (values_of_parts p)
deep_of_whole (Flat values) whole = whole
deep_of_whole (Joined j) whole = whole.deep

-- one list after another is a list in two
pub join_of : (j : Join) (l r : PlainValues) (count depth height : ℕ)
    → j ≡ record { left = l; right = r; count = count; depth = depth; height = height }
    → 0 < length (item_list l.items) → 0 < length (item_list r.items)
    → count ≡ length (item_list l.items) + length (item_list r.items) → count < 2 ^ 63
    → IsDeep l → IsDeep r → depth ≡ max l.depth r.depth → IsJoin j
join_of j l r count depth height e a b n m d f is =
    subst IsJoin (sym e) (record { left_some = a; right_some = b; count = n; countable = m; deep = deep_joined l r depth d f is })

-- ## A list in two

pub items_joined : (j : Join) (v : PlainValues) → joined_items j ≡ v → item_list v.items ≡ item_list j.left.items ++ item_list j.right.items
items_joined j v e =
    sym (ap (λ (w : PlainValues). item_list w.items) e) ∙ item_list-to_items (item_list j.left.items ++ item_list j.right.items)

pub count_joined : (j : Join) (v : PlainValues) → IsJoin j → joined_items j ≡ v → j.count ≡ length (item_list v.items)
count_joined j v is e =
    is.count ∙ sym (length-append (item_list j.left.items) (item_list j.right.items)) ∙ sym (ap length (items_joined j v e))

pub halves_of : (j : Join) (a b v : PlainValues) → a ≡ j.left → b ≡ j.right → IsJoin j → joined_items j ≡ v → AreHalves a b v
halves_of j a b v x y is e = record {
  left_some = subst (λ (w : PlainValues). 0 < length (item_list w.items)) (sym x) is.left_some;
  right_some = subst (λ (w : PlainValues). 0 < length (item_list w.items)) (sym y) is.right_some;
  items = items_joined j v e
      ∙ ap (λ (w : PlainValues). item_list w.items ++ item_list j.right.items) (sym x)
      ∙ ap (λ (w : PlainValues). item_list a.items ++ item_list w.items) (sym y);
}

pub added_both : (j : Join) (v l r : PlainValues) (old mid new : List Plain) → joined_items j ≡ v → l ≡ j.left → r ≡ j.right
    → mid ≡ old ++ item_list l.items → new ≡ mid ++ item_list r.items → new ≡ old ++ item_list v.items
added_both j v l r old mid new e x y first second =
    second ∙ ap (λ ys. ys ++ item_list r.items) first
    ∙ append_assoc old (item_list l.items) (item_list r.items)
    ∙ ap (λ (w : PlainValues). old ++ (item_list w.items ++ item_list r.items)) x
    ∙ ap (λ (w : PlainValues). old ++ (item_list j.left.items ++ item_list w.items)) y
    ∙ ap (λ ys. old ++ ys) (sym (items_joined j v e))

-- ## An item of a list in two

pub left_smaller : (j : Join) (v : PlainValues) → IsJoin j → joined_items j ≡ v → length (item_list j.left.items) < length (item_list v.items)
left_smaller j v is e =
    omega (arith, is.right_some, ap length (items_joined j v e), length-append (item_list j.left.items) (item_list j.right.items))

pub right_smaller : (j : Join) (v : PlainValues) → IsJoin j → joined_items j ≡ v → length (item_list j.right.items) < length (item_list v.items)
right_smaller j v is e =
    omega (arith, is.left_some, ap length (items_joined j v e), length-append (item_list j.left.items) (item_list j.right.items))

pub item_on_left : (j : Join) (v : PlainValues) (i : ℕ) → joined_items j ≡ v → i < length (item_list j.left.items)
    → slice_get (item_list j.left.items) i ≡ slice_get (item_list v.items) i
item_on_left j v i e l =
    sym (slice_get-append (item_list j.left.items) (item_list j.right.items) i l) ∙ ap (λ xs. slice_get xs i) (sym (items_joined j v e))

pub item_on_right : (j : Join) (v : PlainValues) (i n : ℕ) → joined_items j ≡ v → i ≡ length (item_list j.left.items) + n
    → slice_get (item_list j.right.items) n ≡ slice_get (item_list v.items) i
item_on_right j v i n e is =
    sym (get_right (item_list j.left.items) (item_list j.right.items) i n is) ∙ ap (λ xs. slice_get xs i) (sym (items_joined j v e))
