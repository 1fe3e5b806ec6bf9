-- The names that files add to the listing of a directory.
use Rattle.std.proofs.Common.{◌≡◌, ℕ, ◌+◌, Bool, ◌||◌, true, false, List, [], ◌∷◌, ◌++◌, map, Some, None, refl, ap, sym, ◌∙◌}
use Rattle.std.specs.List.{cons_option, filter_map}
use Rattle.std.specs.Borrow.{Bor}
use Rattle.std.proofs.lemmas.List.Elements.{filter_map-append}
use Rattle.std.proofs.lemmas.List.{append-nil, map_push}
use Rattle.bx_tree.specs.Paths.{Atoms}
use Rattle.bx_tree.specs.Trees.{Files}
use Rattle.bx_tree.specs.Below.{is_below, next_atom}
use Rattle.bx_tree.proofs.AtomsBelow.{none_next}
use Rattle.tool_run_writes.specs.Writes.{has_below, own_names}
use Rattle.bx_tree.specs.Lent.{texts_now}

-- the path of a file that is borrowed with its bytes
abbrev pub path_seen : Bor Atoms × Bor (List ℕ) → Atoms
path_seen file = file.0.now

-- one file more, which adds a name
pub name_added : {X : Type 0} (path : X → Atoms) (dir : Atoms) (names : List (Bor (List ℕ))) (files : List X) (name : Bor (List ℕ)) (file : X)
    → next_atom dir (path file) ≡ Some name.now → texts_now names ≡ filter_map (next_atom dir) (map path files)
    → texts_now (names ++ name ∷ []) ≡ filter_map (next_atom dir) (map path (files ++ file ∷ []))
name_added path dir names files name file is so_far =
    map_push (λ (text : Bor (List ℕ)). text.now) names name
    ∙ ap (λ ns. ns ++ name.now ∷ []) so_far
    ∙ ap (λ o. filter_map (next_atom dir) (map path files) ++ cons_option o []) (sym is)
    ∙ sym (filter_map-append (next_atom dir) (map path files) (path file ∷ []))
    ∙ ap (filter_map (next_atom dir)) (sym (map_push path files file))

-- one file more, which adds none
pub name_skipped : {X : Type 0} (path : X → Atoms) (dir : Atoms) (names : List (Bor (List ℕ))) (files : List X) (file : X)
    → next_atom dir (path file) ≡ None → texts_now names ≡ filter_map (next_atom dir) (map path files)
    → texts_now names ≡ filter_map (next_atom dir) (map path (files ++ file ∷ []))
name_skipped path dir names files file is so_far =
    so_far
    ∙ sym (append-nil (filter_map (next_atom dir) (map path files)))
    ∙ ap (λ o. filter_map (next_atom dir) (map path files) ++ cons_option o []) (sym is)
    ∙ sym (filter_map-append (next_atom dir) (map path files) (path file ∷ []))
    ∙ ap (filter_map (next_atom dir)) (sym (map_push path files file))

-- where nothing was written below a directory, nothing is added to its listing
pub no_names : (files : Files) (dir : Atoms) → has_below files dir ≡ false → own_names files dir ≡ []
no_names [] dir e = refl
no_names (f ∷ fs) dir e =
    let parts = neither (is_below f.0 dir) (has_below fs dir) e in
    ap (λ o. cons_option o (own_names fs dir)) (none_next dir f.0 parts.0) ∙ no_names fs dir parts.1
  where
    neither : (a b : Bool) → (a || b) ≡ false → (a ≡ false) × (b ≡ false)
    neither true b e = cc
    neither false b e = (refl, e)
