-- What was written below directories or above them.
use Rattle.std.proofs.Common.{◌≡◌, ℕ, Bool, true, false, ◌||◌, cond, List, [], ◌∷◌, Option, Some, refl, ap, sym, ◌∙◌}
use Rattle.std.specs.Prelude.{is_some}
use Rattle.std.specs.BTreeMap.{insert_entry, is_at}
use Rattle.std.specs.List.{list_any}
use Rattle.std.specs.Map.{lookup}
use Rattle.std.specs.Ordering.{match_ordering}
use Rattle.std.specs.declared.cmp.Ordering.{Ordering}
use Rattle.std.specs.declared.cmp.Ordering.TheVariants.{Less, Equal, Greater}
use Rattle.bx_tree.specs.Paths.{Atoms, path_cmp, same_path}
use Rattle.bx_tree.specs.Trees.{Files}
use Rattle.bx_tree.specs.Orders.{equal_paths, path_cmp_matches}
use Rattle.bx_tree.specs.Below.{is_below}
use Rattle.bx_tree.proofs.Lists.{any_either, any_alike, any_swap}
use Rattle.tool_run_writes.specs.Writes.{clashes, has_below}

-- ## A file more

pub either_twice : (a r : Bool) → (a || r) ≡ (a || (a || r))
either_twice true r = refl
either_twice false r = refl

pub either_swapped : (a b r : Bool) → (a || (b || r)) ≡ (b || (a || r))
either_swapped true true r = refl
either_swapped true false r = refl
either_swapped false b r = refl

-- what lies below a directory after a file was put is the file, or what did before
pub below_put : (files : Files) (path : Atoms) (bytes : List ℕ) (dir : Atoms) → has_below (insert_entry path_cmp files path bytes) dir ≡ (is_below path dir || has_below files dir)
below_put [] path bytes dir = refl
below_put (f ∷ fs) path bytes dir =
    by_order (path_cmp path f.0) refl (insert_entry path_cmp fs path bytes) (below_put fs path bytes dir)
  where
    by_order : (o : Ordering) → path_cmp path f.0 ≡ o → (rest : Files) → has_below rest dir ≡ (is_below path dir || has_below fs dir)
        → has_below (match_ordering o ((path, bytes) ∷ f ∷ fs) ((f.0, bytes) ∷ fs) (f ∷ rest)) dir ≡ (is_below path dir || (is_below f.0 dir || has_below fs dir))
    by_order Less e rest h = refl
    by_order Equal e rest h =
        either_twice (is_below f.0 dir) (has_below fs dir)
        ∙ ap (λ (p : Atoms). is_below p dir || (is_below f.0 dir || has_below fs dir)) (sym (equal_paths path f.0 e))
    by_order Greater e rest h = ap (λ t. is_below f.0 dir || t) h ∙ either_swapped (is_below f.0 dir) (is_below path dir) (has_below fs dir)

-- ## A file above

found_some : {X : Type 0} (t : Bool) (x : X) (o : Option X) → is_some (cond t (Some x) o) ≡ (t || is_some o)
found_some true x o = refl
found_some false x o = refl

pub found_any : (files : Files) (dir : Atoms) → is_some (lookup (is_at (path_cmp dir)) files) ≡ list_any (λ f. same_path dir f.0) files
found_any [] dir = refl
found_any (f ∷ fs) dir =
    found_some (is_at (path_cmp dir) f.0) f.1 (lookup (is_at (path_cmp dir)) fs)
    ∙ ap (λ t. t || is_some (lookup (is_at (path_cmp dir)) fs)) (sym (path_cmp_matches dir f.0))
    ∙ ap (λ t. same_path dir f.0 || t) (found_any fs dir)

-- a path lies below a file where one of its directories is a file
pub file_above : (dirs : List Atoms) (files : Files) (path : Atoms) → ((q : Atoms) → list_any (λ d. same_path d q) dirs ≡ is_below path q)
    → list_any (λ d. is_some (lookup (is_at (path_cmp d)) files)) dirs ≡ list_any (λ f. is_below path f.0) files
file_above dirs files path all =
    any_alike (λ d. is_some (lookup (is_at (path_cmp d)) files)) (λ d. list_any (λ f. same_path d f.0) files) dirs (found_any files)
    ∙ any_swap (λ (d : Atoms) (f : Atoms × List ℕ). same_path d f.0) dirs files
    ∙ any_alike (λ (f : Atoms × List ℕ). list_any (λ d. same_path d f.0) dirs) (λ f. is_below path f.0) files (λ f. all f.0)

pub clash_is : (files : Files) (path : Atoms) → (has_below files path || list_any (λ f. is_below path f.0) files) ≡ clashes files path
clash_is files path = sym (any_either (λ (f : Atoms × List ℕ). is_below f.0 path) (λ (f : Atoms × List ℕ). is_below path f.0) files)
