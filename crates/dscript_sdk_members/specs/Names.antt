-- The members as they are written.
use Rattle.std.specs.Prelude.{ℕ, List, [], ◌∷◌, codes, find, Option}
use Rattle.std.specs.Str.{bytes_eq}
use Rattle.dscript_sdk_members.specs.declared.member.Member.{Member}
use Rattle.dscript_sdk_members.specs.declared.member.Member.TheVariants as members

unfoldable pub written_name : Member → List ℕ
written_name members.Length = codes "length"
written_name members.Contains = codes "contains"
written_name members.StartsWith = codes "startsWith"
written_name members.EndsWith = codes "endsWith"
written_name members.Split = codes "split"
written_name members.Concat = codes "concat"
written_name members.Join = codes "join"
written_name members.Map = codes "map"
written_name members.Filter = codes "filter"
written_name members.MapMany = codes "mapMany"
written_name members.Reduce = codes "reduce"
written_name members.Name = codes "name"
written_name members.Parent = codes "parent"
written_name members.Path = codes "path"
written_name members.Combine = codes "combine"
written_name members.ChangeExtension = codes "changeExtension"
written_name members.Root = codes "root"
written_name members.GetFile = codes "getFile"
written_name members.GetContent = codes "getContent"
written_name members.GetOutputFile = codes "getOutputFile"
written_name members.GetOutputDirectory = codes "getOutputDirectory"

-- every member once, in the order of the kinds of values that have them
abbrev pub every_member : List Member
every_member =
    members.Length ∷ members.Contains ∷ members.StartsWith ∷ members.EndsWith ∷ members.Split
    ∷ members.Concat ∷ members.Join ∷ members.Map ∷ members.Filter ∷ members.MapMany ∷ members.Reduce
    ∷ members.Name ∷ members.Parent ∷ members.Path ∷ members.Combine ∷ members.ChangeExtension
    ∷ members.Root ∷ members.GetFile ∷ members.GetContent
    ∷ members.GetOutputFile ∷ members.GetOutputDirectory ∷ []

-- the member with this written name
unfoldable pub member_named : List ℕ → Option Member
member_named name = find (λ member. bytes_eq (written_name member) name) every_member
