use Rattle.std.proofs.Common.{◌≡◌, ◌+◌, ◌<◌, ◌^◌, ◌++◌, ◌∷◌, [], List, ap, arith, length, subst, sym, ◌∙◌}
use Rattle.std.specs.Prelude.{Contains}
use Rattle.indexmap.proofs.CallerLemmas.{insert_entry-new}
use Rattle.bx_tree.specs.Paths.{Atoms, IsPath, path_text}
use Rattle.bx_tree_paths.specs.Tables.{IsTable, paths_in}
use Rattle.bx_tree_paths.proofs.Numbered.{absent_lookup, paths_more, table_more}
use Rattle.bx_tree_paths.proofs.path_table.PathTable.push.Goals as goal

pub invariant_of-self-2 : goal.invariant_of-self-2
invariant_of-self-2 c =
    let old = c.self.inside.names in
    let key = c.in_ok-text.text in
    let path = c.in_ok-shared.shared in
    let text : c.in_ok-text.text.items ≡ path_text c.args.path.now = c.in_ok-text.ensures.items ∙ c.as_bytes.ensures.value ∙ c.text.ensures.text in
    let same = text ∙ ap path_text (sym c.in_ok-shared.ensures) in
    let is_path = subst IsPath (sym c.in_ok-shared.ensures) c.text.ensures.is_path in
    let absent = subst (λ (p : Atoms). Contains (paths_in old.entries) p → ⊥) (sym c.in_ok-shared.ensures)
    (subst (λ (ps : List Atoms). Contains ps c.args.path.now → ⊥) (sym c.self.view_is) c.requires.absent) in
    let few : length (paths_in c.self.inside.names.entries) + 1 < 2 ^ 32 = omega (arith, c.requires.few, ap length c.self.view_is) in
    subst IsTable
    (sym (c.in_ok-insert.ensures.entries
    ∙ insert_entry-new _ old key path (absent_lookup old.entries path key.items c.self.invariant.keyed c.self.invariant.numbered.are_paths is_path same absent)))
    (table_more old.entries key path c.self.invariant same is_path absent few)

pub returns-clause-added : goal.returns-clause-added
returns-clause-added c =
    let old = c.self.inside.names in
    let key = c.in_ok-text.text in
    let path = c.in_ok-shared.shared in
    let text : c.in_ok-text.text.items ≡ path_text c.args.path.now = c.in_ok-text.ensures.items ∙ c.as_bytes.ensures.value ∙ c.text.ensures.text in
    let same = text ∙ ap path_text (sym c.in_ok-shared.ensures) in
    let is_path = subst IsPath (sym c.in_ok-shared.ensures) c.text.ensures.is_path in
    let absent = subst (λ (p : Atoms). Contains (paths_in old.entries) p → ⊥) (sym c.in_ok-shared.ensures)
    (subst (λ (ps : List Atoms). Contains ps c.args.path.now → ⊥) (sym c.self.view_is) c.requires.absent) in
    ap paths_in
    (c.in_ok-insert.ensures.entries
    ∙ insert_entry-new _ old key path (absent_lookup old.entries path key.items c.self.invariant.keyed c.self.invariant.numbered.are_paths is_path same absent))
    ∙ paths_more old.entries key path ∙ ap (λ (ps : List Atoms). ps ++ path ∷ []) c.self.view_is
    ∙ ap (λ (p : Atoms). c.args.self.now ++ p ∷ []) c.in_ok-shared.ensures
