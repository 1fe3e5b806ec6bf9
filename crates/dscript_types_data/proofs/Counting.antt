-- Counts of nodes, which stand still at the greatest number.
use Rattle.std.proofs.Common.{◌≡◌, ℕ, ◌+◌, ◌^◌, ◌<◌, ◌≤◌, List, [], ◌∷◌, map, drop, length, refl, ap, sym, ◌∙◌, arith}
use Rattle.std.proofs.lemmas.List.{drop_all}
use Rattle.dscript_types_data.specs.declared.types.Field.{Field}
use Rattle.dscript_types_data.specs.declared.types.Group.{Group}
use Rattle.dscript_types_data.specs.declared.types.Group.TheVariants as groups
use Rattle.dscript_types_data.specs.declared.types.Member.{Member}
use Rattle.dscript_types_data.specs.Views.{at_most, field_data, held, member_data, union_data}
use Rattle.dscript_types_meaning.specs.Sizes.{fields_nodes, member_nodes, members_nodes, type_nodes, union_node}
use Rattle.dscript_types_meaning.specs.Types.{to_fields, to_members}

-- a union of one member has no node of its own, and all others have one
pub no_node : (ms : List Member) → length ms ≡ 1 → 0 ≡ union_node (to_members (map member_data ms))
no_node [] e = absurd (omega (arith, e))
no_node (m ∷ []) e = refl
no_node (m ∷ n ∷ ms) e = absurd (omega (arith, e))

pub own_node : (ms : List Member) → (length ms ≡ 1 → ⊥) → 1 ≡ union_node (to_members (map member_data ms))
own_node [] n = refl
own_node (m ∷ []) n = absurd (n refl)
own_node (m ∷ k ∷ ms) n = refl

-- where a loop has gone over all
pub fields_counted
    : (fs : List Field) (i n : ℕ) → length fs ≤ i → n < 2 ^ 32
    → at_most (n + fields_nodes (to_fields (map field_data (drop i fs)))) ≡ at_most (fields_nodes (to_fields (map field_data fs)))
    → n ≡ at_most (fields_nodes (to_fields (map field_data fs)))
unfolding fields_nodes
fields_counted fs i n l small e =
    let f = ap (λ (xs : List Field). at_most (n + fields_nodes (to_fields (map field_data xs)))) (sym (drop_all i fs l)) ∙ e in
    omega (arith, small, f)

pub union_counted
    : (ms : List Member) (i n : ℕ) → length ms ≤ i → n < 2 ^ 32
    → at_most (n + members_nodes (to_members (map member_data (drop i ms)))) ≡ at_most (type_nodes (union_data ms))
    → n ≡ at_most (type_nodes (union_data ms))
unfolding members_nodes
union_counted ms i n l small e =
    let f = ap (λ (xs : List Member). at_most (n + members_nodes (to_members (map member_data xs)))) (sym (drop_all i ms l)) ∙ e in
    omega (arith, small, f)

-- a union of one member
pub one_counted
    : (m : Member) (g : Group) (k : ℕ) → k ≡ at_most (member_nodes (member_data m)) → g ≡ groups.One m
    → k ≡ at_most (type_nodes (union_data (held g)))
unfolding member_nodes
one_counted m g k e is =
    let one : k ≡ at_most (type_nodes (union_data (held (groups.One m)))) = omega (arith, e) in
    one ∙ ap (λ (x : Group). at_most (type_nodes (union_data (held x)))) (sym is)
