use Rattle.std.proofs.Common.{◌≡◌, [], ◌∷◌, ap, map, sym, ◌∙◌}
use Rattle.dscript_types_meaning.specs.Types.{TypeData, Union, Values, to_members}
use Rattle.dscript_types_meaning.specs.declared.kind.Kind.TheVariants as kinds
use Rattle.dscript_types_notes.specs.KnownNames.{type_named}
use Rattle.dscript_types_notes.proofs.Going.{if_ok}
use Rattle.dscript_types_notes.proofs.KnownTypes.{static_made}
use Rattle.dscript_types_notes.proofs.known_names.KnownName.type_of.Goals as goal

pub returns-in-StaticDirectory : goal.returns-in-StaticDirectory
returns-in-StaticDirectory c =
    if_ok (λ (t : TypeData). t ≡ Union (to_members (map Values (kinds.Seal ∷ kinds.Opaque ∷ []))))
    (λ (t : TypeData). t ≡ type_named c.args.self) c.of_kinds.result
    (λ t is. is ∙ static_made ∙ ap type_named (sym c.in-StaticDirectory.is)) c.of_kinds.ensures
