-- The names of items, one after the other.
use Rattle.std.proofs.Common.{◌≡◌, ℕ, ◌<◌, ◌+◌, List, [], ◌∷◌, ◌++◌, map, length, take, get_or, refl, sym, ◌∙◌, ap, append_assoc, append-nil}
use Rattle.std.specs.List.{flat_map}
use Rattle.std.proofs.lemmas.Grind.{flat_map-append}
use Rattle.std.proofs.lemmas.List.{map-append, take_more}
use Rattle.dscript_ast.specs.FileTree.{to_marked}
use Rattle.dscript_ast.specs.ExprTree.{to_stmts}
use Rattle.dscript_ast.specs.Views.{item_tree, marked_tree, stmt_tree}
use Rattle.dscript_ast.specs.declared.expr.Stmt.{Stmt}
use Rattle.dscript_names_scopes.specs.Blocks.{block_locals, stmt_locals}
use Rattle.dscript_names_scopes.specs.Duplicates.{block_names, stmt_names}
use Rattle.dscript_names_scopes.specs.declared.local.Local.{Local}
use Rattle.dscript_names.specs.Singles.{single}
use Rattle.dscript_ast.specs.declared.file.Item.{Item}
use Rattle.dscript_ast.specs.declared.file.Marked.{Marked}
use Rattle.dscript_program.specs.ProgramData.{Dotted}
use Rattle.dscript_names_scopes.specs.Declarations.{all_declared, declared_by, item_declared, item_imports, item_opened}
use Rattle.dscript_names.specs.Gathered.{AddsItem, NamesOf}
use Rattle.dscript_names.specs.declared.collecting.Names.{Names}

flat_one : {X Y : Type 0} (f : X → List Y) (xs : List X) (x : X) → flat_map f (xs ++ x ∷ []) ≡ flat_map f xs ++ f x
flat_one f xs x = flat_map-append f xs (x ∷ []) ∙ ap (λ ys. flat_map f xs ++ ys) (append-nil (f x))

-- one part more
pub added_more : {X Y : Type 0} (all : List X → List Y) (f : X → List Y) → ((ys : List X) → all ys ≡ flat_map f ys)
    → (xs : List X) (i : ℕ) (x : X) (o s n : List Y)
    → s ≡ o ++ all (take i xs) → n ≡ s ++ f x → i < length xs → x ≡ get_or xs i x
    → n ≡ o ++ all (take (i + 1) xs)
added_more all f listed xs i x o s n before step l e =
    let more : take (i + 1) xs ≡ take i xs ++ x ∷ [] = take_more xs i x l ∙ ap (λ y. take i xs ++ y ∷ []) (sym e) in
    step ∙ ap (λ ys. ys ++ f x) (before ∙ ap (λ ys. o ++ ys) (listed (take i xs)))
    ∙ append_assoc o (flat_map f (take i xs)) (f x)
    ∙ ap (λ ys. o ++ ys) (sym (flat_one f (take i xs) x) ∙ sym (ap all more ∙ listed (take i xs ++ x ∷ [])))

pub marked_listed : (around : Dotted) (xs : List Marked)
    → all_declared around (to_marked (map marked_tree xs)) ≡ flat_map (λ x. declared_by around (marked_tree x)) xs
unfolding declared_by
marked_listed around [] = refl
marked_listed around (x ∷ xs) = ap (λ ds. declared_by around (marked_tree x) ++ ds) (marked_listed around xs)

mapped_more : (xs : List Item) (i : ℕ) (x : Item) → i < length xs → x ≡ get_or xs i x
    → map item_tree (take (i + 1) xs) ≡ map item_tree (take i xs) ++ item_tree x ∷ []
mapped_more xs i x l e =
    ap (map item_tree) (take_more xs i x l ∙ ap (λ y. take i xs ++ y ∷ []) (sym e))
    ∙ map-append item_tree (take i xs) (x ∷ [])

pub names_more : (xs : List Item) (i : ℕ) (x : Item) (now next : Names) → NamesOf now (map item_tree (take i xs))
    → AddsItem now next (item_tree x) → i < length xs → x ≡ get_or xs i x
    → NamesOf next (map item_tree (take (i + 1) xs))
names_more xs i x now next before added l e =
    let more = mapped_more xs i x l e in
    let done = map item_tree (take i xs) in
    record {
      decls = added.decls ∙ ap (λ ds. ds ++ item_declared (item_tree x)) before.decls
          ∙ sym (ap (flat_map item_declared) more ∙ flat_one item_declared done (item_tree x));
      opened = added.opened ∙ ap (λ ds. ds ++ item_opened (item_tree x)) before.opened
          ∙ sym (ap (flat_map item_opened) more ∙ flat_one item_opened done (item_tree x));
      imports = added.imports ∙ ap (λ ds. ds ++ item_imports (item_tree x)) before.imports
          ∙ sym (ap (flat_map item_imports) more ∙ flat_one item_imports done (item_tree x));
    }

pub names_listed : (xs : List Stmt) → map single (block_names (to_stmts (map stmt_tree xs)))
    ≡ flat_map (λ x. map single (stmt_names (stmt_tree x))) xs
names_listed [] = refl
names_listed (x ∷ xs) =
    ap (map single) (map-append (λ (l : Local). l.name) (stmt_locals (stmt_tree x)) (block_locals (to_stmts (map stmt_tree xs))))
    ∙ map-append single (stmt_names (stmt_tree x)) (block_names (to_stmts (map stmt_tree xs)))
    ∙ ap (λ ns. map single (stmt_names (stmt_tree x)) ++ ns) (names_listed xs)
