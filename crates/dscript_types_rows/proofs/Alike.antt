-- Kinds that have the same members.
use Rattle.std.proofs.Common.{◌≡◌, refl}
use Rattle.dscript_sdk_members.specs.declared.member.Member.{Member}
use Rattle.dscript_sdk_members.specs.declared.member.Member.TheVariants as members
use Rattle.dscript_types_meaning.specs.Access.{method_of_kind, property_of_kind, property_of_list}
use Rattle.dscript_types_meaning.specs.declared.kind.Kind.TheVariants as kinds

pub text_property : (m : Member) → property_of_list m ≡ property_of_kind kinds.String m
text_property members.Length = refl
text_property _ = refl

pub directory_property : (m : Member) → property_of_kind kinds.Path m ≡ property_of_kind kinds.Directory m
directory_property members.Name = refl
directory_property members.Parent = refl
directory_property _ = refl

pub opaque_property : (m : Member) → property_of_kind kinds.Seal m ≡ property_of_kind kinds.Opaque m
opaque_property members.Root = refl
opaque_property _ = refl

pub file_method : (m : Member) → method_of_kind kinds.Path m ≡ method_of_kind kinds.File m
file_method members.Combine = refl
file_method members.ChangeExtension = refl
file_method _ = refl
