-- The fields of what `Transformer.execute` takes.
use Rattle.std.proofs.Common.{◌≡◌, List, [], ◌∷◌, map, refl, ap, ◌∙◌}
use Rattle.dscript_types_data.specs.Views.{field_data}
use Rattle.dscript_types_data.specs.declared.types.Field.{Field}
use Rattle.dscript_types_meaning.specs.Ambients.{executed}
use Rattle.dscript_types_meaning.specs.Objects.{put_fields}
use Rattle.dscript_types_meaning.specs.Types.{FieldData, TypeData, object_type}
use Rattle.dscript_types_rows.specs.Signatures.{file_fields, further_fields, process_fields}

pub put_three
    : (put : List FieldData → List FieldData → List FieldData) (a b c g d e f x y z : List FieldData) → a ≡ [] → d ≡ x → b ≡ put a d → e ≡ y
    → c ≡ put b e → f ≡ z → g ≡ put c f → g ≡ put (put (put [] x) y) z
put_three put a b c g d e f x y z none i p j q k r = cc

pub executed_is : object_type (put_fields (put_fields (put_fields [] process_fields) file_fields) further_fields) ≡ executed
executed_is = refl

pub two_fields
    : (fs : List Field) (a b : Field) (s t : FieldData) → fs ≡ a ∷ b ∷ [] → field_data a ≡ s → field_data b ≡ t
    → map field_data fs ≡ s ∷ t ∷ []
two_fields fs a b s t is i j = ap (map field_data) is ∙ cc

pub three_fields
    : (fs : List Field) (a b c : Field) (s t u : FieldData) → fs ≡ a ∷ b ∷ c ∷ [] → field_data a ≡ s → field_data b ≡ t
    → field_data c ≡ u → map field_data fs ≡ s ∷ t ∷ u ∷ []
three_fields fs a b c s t u is i j k = ap (map field_data) is ∙ cc

pub two_joins
    : (f : TypeData → TypeData → TypeData) (p d q s x y z : TypeData) → p ≡ x → d ≡ f q s → q ≡ y → s ≡ z → f p d ≡ f x (f y z)
two_joins f p d q s x y z i j k l = cc
