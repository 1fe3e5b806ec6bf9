-- What gathering the names of a file comes to.
use Rattle.std.specs.Prelude.{◌≡◌, List, ◌++◌, Result, IfOk}
use Rattle.std.specs.List.{flat_map}
use Rattle.dscript_ast.specs.FileTree.{ItemTree}
use Rattle.dscript_names_scopes.specs.Declarations.{item_declared, item_imports, item_opened}
use Rattle.dscript_names.specs.declared.collecting.Names.{Names}

-- the names of the item come after those before
pub record AddsItem (before after : Names) (item : ItemTree) : Type 0 where
  pub decls : after.decls.items ≡ before.decls.items ++ item_declared item
  pub opened : after.opened.items ≡ before.opened.items ++ item_opened item
  pub imports : after.imports.items ≡ before.imports.items ++ item_imports item

abbrev pub GathersItem : {T E : Type 0} → Names → Names → Result T E → ItemTree → Type 0
GathersItem before after result item = IfOk result (λ _. AddsItem before after item)

-- these are the names of the items
pub record NamesOf (names : Names) (items : List ItemTree) : Type 0 where
  pub decls : names.decls.items ≡ flat_map item_declared items
  pub opened : names.opened.items ≡ flat_map item_opened items
  pub imports : names.imports.items ≡ flat_map item_imports items

abbrev pub GathersItems : {E : Type 0} → Result Names E → List ItemTree → Type 0
GathersItems result items = IfOk result (λ names. NamesOf names items)
