-- Types of kinds, as lists of kinds in their order.
use Rattle.std.proofs.Common.{◌≡◌, List, [], ◌∷◌, map, refl}
use Rattle.dscript_types_meaning.specs.declared.kind.Kind.{Kind}
use Rattle.dscript_types_meaning.specs.declared.kind.Kind.TheVariants as kinds
use Rattle.dscript_types_meaning.specs.Ambients.{argument_value, directory_type, file_type, path_type}
use Rattle.dscript_types_meaning.specs.Annotations.{static_type}
use Rattle.dscript_types_meaning.specs.Operators.{boolean_type, leading_hole, literal_hole, template_hole, text_type}
use Rattle.dscript_types_meaning.specs.Types.{TypeData, Union, Values, to_members}
use Rattle.dscript_types_meaning.specs.Unions.{join, union_of, with_undefined}
use Rattle.dscript_types_meaning.specs.Codes.{member_cmp, member_code}

abbrev of_kinds : List Kind → TypeData
of_kinds ks = Union (to_members (map Values ks))

pub literal_is : of_kinds (kinds.Number ∷ kinds.String ∷ kinds.RelativePath ∷ kinds.PathAtom ∷ []) ≡ literal_hole
unfolding union_of member_cmp member_code
literal_is = refl

pub leading_is
    : of_kinds (kinds.Number ∷ kinds.String ∷ kinds.Path ∷ kinds.File ∷ kinds.Directory ∷ kinds.RelativePath ∷ kinds.PathAtom ∷ [])
    ≡ leading_hole
unfolding union_of member_cmp member_code
leading_is = refl

pub template_is
    : of_kinds (kinds.Boolean ∷ kinds.Number ∷ kinds.String ∷ kinds.Path ∷ kinds.File ∷ kinds.Directory ∷ kinds.RelativePath
    ∷ kinds.PathAtom ∷ [])
    ≡ template_hole
unfolding union_of member_cmp member_code
template_is = refl

pub inputs_are : of_kinds (kinds.File ∷ kinds.Seal ∷ kinds.Opaque ∷ []) ≡ join file_type static_type
unfolding union_of member_cmp member_code
inputs_are = refl

pub argument_is
    : of_kinds (kinds.Undefined ∷ kinds.Number ∷ kinds.String ∷ kinds.Path ∷ kinds.File ∷ kinds.Directory ∷ kinds.PathAtom
    ∷ kinds.Artifact ∷ [])
    ≡ argument_value
unfolding union_of member_cmp member_code
argument_is = refl

pub text_or_undefined : of_kinds (kinds.Undefined ∷ kinds.String ∷ []) ≡ with_undefined text_type
unfolding union_of member_cmp member_code
text_or_undefined = refl

pub flag_or_undefined : of_kinds (kinds.Undefined ∷ kinds.Boolean ∷ []) ≡ with_undefined boolean_type
unfolding union_of member_cmp member_code
flag_or_undefined = refl

pub path_or_directory : of_kinds (kinds.Path ∷ kinds.Directory ∷ []) ≡ join path_type directory_type
unfolding union_of member_cmp member_code
path_or_directory = refl

pub path_file_or_directory
    : of_kinds (kinds.Path ∷ kinds.File ∷ kinds.Directory ∷ []) ≡ join path_type (join file_type directory_type)
unfolding union_of member_cmp member_code
path_file_or_directory = refl
