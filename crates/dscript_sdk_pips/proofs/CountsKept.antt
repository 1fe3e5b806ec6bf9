-- A map from directories to numbers, and the finite map that it means.
use Rattle.std.proofs.Common.{◌≡◌, ℕ, cond, List, [], ◌∷◌, Option, Some, None, unwrap_or, refl, ap, sym, ◌∙◌, Bor}
use Rattle.std.specs.Cmp.{eq_by_cmp_equiv}
use Rattle.std.specs.Ordering.{is_eq}
use Rattle.std.specs.Map.{lookup}
use Rattle.std.specs.BTreeMap.{BTreeMap, UpdatesBy, is_at}
use Rattle.std.specs.BTreeMap as tree
use Rattle.std.specs.FinMap.{find, get, get-from_entries, get-insert, insert, same_map}
use Rattle.std.specs.Option.{option_copied}
use Rattle.bx_tree.specs.Orders.{equal_paths, path_cmp_total}
use Rattle.bx_tree.specs.Paths.{Atoms, path_cmp}
use Rattle.dscript_sdk_pips.specs.Kept.{counts_of}
use Rattle.dscript_sdk_pips.specs.States.{count_in}

find_kept : (q : Atoms) (es : List (Atoms × ℕ)) → find path_cmp q es ≡ lookup (is_at (path_cmp q)) es
find_kept q [] = refl
find_kept q (e ∷ es) = ap (cond (is_eq (path_cmp q e.0)) (Some e.1)) (find_kept q es)

get_kept : (m : BTreeMap Atoms ℕ) (q : Atoms) → get (counts_of m) q ≡ tree.get path_cmp m q
get_kept m q = get-from_entries path_cmp_total m.entries q ∙ find_kept q m.entries

-- a number that is put is kept
pub put_kept : (m n : BTreeMap Atoms ℕ) (dir : Atoms) (number : ℕ) → UpdatesBy path_cmp (path_cmp dir) m n (Some number)
    → counts_of n ≡ insert (counts_of m) dir number
put_kept m n dir number updates =
    same_map path_cmp_total equal_paths (counts_of n) (insert (counts_of m) dir number)
    (λ q. get_kept n q ∙ updates.0 q
    ∙ ap (cond (is_at (path_cmp dir) q) (Some number)) (sym (get_kept m q))
    ∙ ap (λ b. cond b (Some number) (get (counts_of m) q)) ((eq_by_cmp_equiv path_cmp_total).symm dir q)
    ∙ sym (get-insert path_cmp_total (counts_of m) dir number q))

pub count_kept : (m : BTreeMap Atoms ℕ) (dir : Atoms) (lent : Option (Bor ℕ)) (number : Bor ℕ) → option_copied lent ≡ tree.get path_cmp m dir
    → lent ≡ Some number → number.now ≡ count_in (counts_of m) dir
count_kept m dir lent number value is =
    ap (λ o. unwrap_or o 0) (sym (ap option_copied is) ∙ value ∙ sym (get_kept m dir))

pub no_count_kept : (m : BTreeMap Atoms ℕ) (dir : Atoms) (lent : Option (Bor ℕ)) → option_copied lent ≡ tree.get path_cmp m dir
    → lent ≡ None → 0 ≡ count_in (counts_of m) dir
no_count_kept m dir lent value is = ap (λ o. unwrap_or o 0) (sym (ap option_copied is) ∙ value ∙ sym (get_kept m dir))
