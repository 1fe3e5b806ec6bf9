-- Which values are of a type.
use Rattle.std.specs.Prelude.{◌≡◌, ℕ, true, List, Contains, Some}
use Rattle.dscript_value.specs.declared.parts.StaticDir.{StaticDir}
use Rattle.dscript_value.specs.declared.parts.StaticDir.TheVariants as dirs
use Rattle.dscript_value.specs.Depths.{field_at}
use Rattle.dscript_value.specs.Plain as plain
use Rattle.dscript_value.specs.Plain.{Plain, Items, End, More, Members, Last, Next, member_list}
use Rattle.dscript_types_meaning.specs.declared.kind.Kind.{Kind}
use Rattle.dscript_types_meaning.specs.declared.kind.Kind.TheVariants as kinds
use Rattle.dscript_types_meaning.specs.Types.{TypeData, MemberData, FieldData, FieldRow, Values, Lists, Objects}
use Rattle.dscript_types_meaning.specs.Types.{field_list, members_of}
use Rattle.dscript_types_meaning.specs.Fits.{field_named, requires}

abbrev pub static_kind : StaticDir → Kind
static_kind (dirs.Seal pip path) = kinds.Seal
static_kind (dirs.Opaque pip path) = kinds.Opaque

-- the object holds each field that is required
abbrev pub HasRequired : FieldRow → Members → Type 0
HasRequired fields members =
    (name : List ℕ) → requires (field_list fields) name ≡ true
    → (x : Plain) × (field_at (member_list members) name ≡ Some x)

-- A value is of a member by its kind, a list where each item is of the item's type, and an object where each of its
-- fields is one of the type's and holds a value of its type, and each required field is there. A function is of no
-- type.
unfoldable mutual
  pub IsOf : Plain → MemberData → Type 0
  IsOf plain.Undefined m = m ≡ Values kinds.Undefined
  IsOf (plain.Flag flag) m = m ≡ Values kinds.Boolean
  IsOf (plain.Number number) m = m ≡ Values kinds.Number
  IsOf (plain.Text text) m = m ≡ Values kinds.String
  IsOf (plain.Path path) m = m ≡ Values kinds.Path
  IsOf (plain.File file) m = m ≡ Values kinds.File
  IsOf (plain.Directory path) m = m ≡ Values kinds.Directory
  IsOf (plain.Relative atoms) m = m ≡ Values kinds.RelativePath
  IsOf (plain.Atom text) m = m ≡ Values kinds.PathAtom
  IsOf (plain.Static dir) m = m ≡ Values (static_kind dir)
  IsOf (plain.Process pip) m = m ≡ Values kinds.Process
  IsOf (plain.Artifact artifact) m = m ≡ Values kinds.Artifact
  IsOf (plain.Argument argument) m = m ≡ Values kinds.Argument
  IsOf (plain.Listed depth items) m = (item : TypeData) × (m ≡ Lists item) × AreItems items item
  IsOf (plain.Object depth members) m =
      (fields : FieldRow) × (m ≡ Objects fields) × AreFields members (field_list fields)
      × HasRequired fields members
  IsOf (plain.Function callee depth held) m = ⊥

  pub AreItems : Items → TypeData → Type 0
  AreItems End item = Unit {0}
  AreItems (More x xs) item =
      ((m : MemberData) × Contains (members_of item) m × IsOf x m) × AreItems xs item

  pub AreFields : Members → List FieldData → Type 0
  AreFields Last fields = Unit {0}
  AreFields (Next name x more) fields =
      ((f : FieldData) × (field_named fields name ≡ Some f)
      × (m : MemberData) × Contains (members_of f.type_data) m × IsOf x m)
      × AreFields more fields

-- the value is of the type: of one of its members
unfoldable pub HasType : Plain → TypeData → Type 0
HasType x t = (m : MemberData) × Contains (members_of t) m × IsOf x m
