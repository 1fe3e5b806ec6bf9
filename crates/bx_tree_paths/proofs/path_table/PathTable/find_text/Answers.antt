use Rattle.std.proofs.Common.{◌≡◌, ◌≢◌, List, subst, sym}
use Rattle.std.specs.Prelude.{All, IsSomeAnd, slice_get}
use Rattle.bx_tree.specs.Paths.{Atoms, path_text}
use Rattle.bx_tree_paths.proofs.Numbered.{none_looked, some_looked}
use Rattle.bx_tree_paths.proofs.path_table.PathTable.find_text.Goals as goal

pub returns-in-Some : goal.returns-in-Some
returns-in-Some c =
    subst (λ (ps : List Atoms). IsSomeAnd (slice_get ps c.in-Some.number) (λ path. path_text path ≡ c.args.text.now)) c.self.view_is
    (some_looked c.self.inside.names.entries c.args.text.now c.in-Some.number c.self.invariant.keyed (sym c.in-Some.ensures.found) c.in-Some.ensures.value)

pub returns-in-None : goal.returns-in-None
returns-in-None c =
    subst (λ (ps : List Atoms). All (λ path. path_text path ≢ c.args.text.now) ps) c.self.view_is
    (none_looked c.self.inside.names.entries c.args.text.now c.self.invariant.keyed (sym c.in-None.ensures.found))
