-- What the values of a kind, lists and objects are.
use Rattle.std.proofs.Common.{◌≡◌, ℕ, ℤ, Bool, List, refl, sym, ap, subst}
use Rattle.std.specs.List.{AllByRecursion}
use Rattle.bx_tree.specs.Paths.{Atoms}
use Rattle.bx_tree.specs.declared.file_input.FileInput.{FileInput}
use Rattle.dscript_value.specs.declared.parts.StaticDir.{StaticDir}
use Rattle.dscript_value.specs.declared.parts.StaticDir.TheVariants as dirs
use Rattle.dscript_value.specs.declared.parts.Artifact.{Artifact as AnyArtifact}
use Rattle.dscript_value.specs.declared.parts.ArgumentParts.{ArgumentParts as AnyArgument}
use Rattle.dscript_value.specs.Plain as plain
use Rattle.dscript_value.specs.Plain.{Plain, Items, End, More, Members, item_list}
use Rattle.dscript_types_meaning.specs.declared.kind.Kind.{Kind}
use Rattle.dscript_types_meaning.specs.declared.kind.Kind.TheVariants as kinds
use Rattle.dscript_types_meaning.specs.Types.{TypeData, FieldRow, Values, Lists, Objects, field_list}
use Rattle.dscript_types_meaning.specs.Values.{AreFields, AreItems, HasRequired, HasType, IsOf, static_kind}

-- a value of this kind
abbrev pub IsKind : Kind → Plain → Type 0
IsKind kinds.Undefined x = x ≡ plain.Undefined
IsKind kinds.Boolean x = (flag : Bool) × (x ≡ plain.Flag flag)
IsKind kinds.Number x = (number : ℤ) × (x ≡ plain.Number number)
IsKind kinds.String x = (text : List ℕ) × (x ≡ plain.Text text)
IsKind kinds.Path x = (path : Atoms) × (x ≡ plain.Path path)
IsKind kinds.File x = (file : FileInput) × (x ≡ plain.File file)
IsKind kinds.Directory x = (path : Atoms) × (x ≡ plain.Directory path)
IsKind kinds.RelativePath x = (atoms : List (List ℕ)) × (x ≡ plain.Relative atoms)
IsKind kinds.PathAtom x = (text : List ℕ) × (x ≡ plain.Atom text)
IsKind kinds.Seal x = (pip : ℕ) × (path : Atoms) × (x ≡ plain.Static (dirs.Seal pip path))
IsKind kinds.Opaque x = (pip : ℕ) × (path : Atoms) × (x ≡ plain.Static (dirs.Opaque pip path))
IsKind kinds.Process x = (pip : ℕ) × (x ≡ plain.Process pip)
IsKind kinds.Artifact x = (artifact : AnyArtifact) × (x ≡ plain.Artifact artifact)
IsKind kinds.Argument x = (argument : AnyArgument) × (x ≡ plain.Argument argument)

of_kind : (k l : Kind) (x : Plain) → Values k ≡ Values l → IsKind l x → IsKind k x
of_kind k l x e h = let same : k ≡ l = cc in subst (λ j. IsKind j x) (sym same) h

static_is : (dir : StaticDir) → IsKind (static_kind dir) (plain.Static dir)
static_is (dirs.Seal pip path) = (pip, path, refl)
static_is (dirs.Opaque pip path) = (pip, path, refl)

pub kind_is : (x : Plain) (k : Kind) → IsOf x (Values k) → IsKind k x
unfolding IsOf
kind_is plain.Undefined k h = of_kind k kinds.Undefined _ h refl
kind_is (plain.Flag flag) k h = of_kind k kinds.Boolean _ h (flag, refl)
kind_is (plain.Number number) k h = of_kind k kinds.Number _ h (number, refl)
kind_is (plain.Text text) k h = of_kind k kinds.String _ h (text, refl)
kind_is (plain.Path path) k h = of_kind k kinds.Path _ h (path, refl)
kind_is (plain.File file) k h = of_kind k kinds.File _ h (file, refl)
kind_is (plain.Directory path) k h = of_kind k kinds.Directory _ h (path, refl)
kind_is (plain.Relative atoms) k h = of_kind k kinds.RelativePath _ h (atoms, refl)
kind_is (plain.Atom text) k h = of_kind k kinds.PathAtom _ h (text, refl)
kind_is (plain.Static dir) k h = of_kind k (static_kind dir) _ h (static_is dir)
kind_is (plain.Process pip) k h = of_kind k kinds.Process _ h (pip, refl)
kind_is (plain.Artifact artifact) k h = of_kind k kinds.Artifact _ h (artifact, refl)
kind_is (plain.Argument argument) k h = of_kind k kinds.Argument _ h (argument, refl)
kind_is (plain.Listed depth items) k h = absurd (let e : Values k ≡ Lists h.0 = h.1 in cc)
kind_is (plain.Object depth members) k h = absurd (let e : Values k ≡ Objects h.0 = h.1 in cc)
kind_is (plain.Function callee depth held) k h = absurd h

-- a list of such items
pub list_is
    : (x : Plain) (item : TypeData) → IsOf x (Lists item)
    → (depth : ℕ) × (xs : Items) × (x ≡ plain.Listed depth xs) × AreItems xs item
unfolding IsOf
list_is plain.Undefined item h = absurd (let e : Lists item ≡ Values kinds.Undefined = h in cc)
list_is (plain.Flag flag) item h = absurd (let e : Lists item ≡ Values kinds.Boolean = h in cc)
list_is (plain.Number number) item h = absurd (let e : Lists item ≡ Values kinds.Number = h in cc)
list_is (plain.Text text) item h = absurd (let e : Lists item ≡ Values kinds.String = h in cc)
list_is (plain.Path path) item h = absurd (let e : Lists item ≡ Values kinds.Path = h in cc)
list_is (plain.File file) item h = absurd (let e : Lists item ≡ Values kinds.File = h in cc)
list_is (plain.Directory path) item h = absurd (let e : Lists item ≡ Values kinds.Directory = h in cc)
list_is (plain.Relative atoms) item h = absurd (let e : Lists item ≡ Values kinds.RelativePath = h in cc)
list_is (plain.Atom text) item h = absurd (let e : Lists item ≡ Values kinds.PathAtom = h in cc)
list_is (plain.Static dir) item h = absurd (let e : Lists item ≡ Values (static_kind dir) = h in cc)
list_is (plain.Process pip) item h = absurd (let e : Lists item ≡ Values kinds.Process = h in cc)
list_is (plain.Artifact artifact) item h = absurd (let e : Lists item ≡ Values kinds.Artifact = h in cc)
list_is (plain.Argument argument) item h = absurd (let e : Lists item ≡ Values kinds.Argument = h in cc)
list_is (plain.Listed depth xs) item h =
    let e : Lists item ≡ Lists h.0 = h.1 in
    let same : h.0 ≡ item = cc in (depth, xs, refl, subst (λ t. AreItems xs t) same h.2)
list_is (plain.Object depth members) item h = absurd (let e : Lists item ≡ Objects h.0 = h.1 in cc)
list_is (plain.Function callee depth held) item h = absurd h

-- an object with these fields
pub object_is
    : (x : Plain) (fields : FieldRow) → IsOf x (Objects fields)
    → (depth : ℕ) × (ms : Members) × (x ≡ plain.Object depth ms) × AreFields ms (field_list fields)
    × HasRequired fields ms
unfolding IsOf
object_is plain.Undefined fields h = absurd (let e : Objects fields ≡ Values kinds.Undefined = h in cc)
object_is (plain.Flag flag) fields h = absurd (let e : Objects fields ≡ Values kinds.Boolean = h in cc)
object_is (plain.Number number) fields h = absurd (let e : Objects fields ≡ Values kinds.Number = h in cc)
object_is (plain.Text text) fields h = absurd (let e : Objects fields ≡ Values kinds.String = h in cc)
object_is (plain.Path path) fields h = absurd (let e : Objects fields ≡ Values kinds.Path = h in cc)
object_is (plain.File file) fields h = absurd (let e : Objects fields ≡ Values kinds.File = h in cc)
object_is (plain.Directory path) fields h = absurd (let e : Objects fields ≡ Values kinds.Directory = h in cc)
object_is (plain.Relative atoms) fields h = absurd (let e : Objects fields ≡ Values kinds.RelativePath = h in cc)
object_is (plain.Atom text) fields h = absurd (let e : Objects fields ≡ Values kinds.PathAtom = h in cc)
object_is (plain.Static dir) fields h = absurd (let e : Objects fields ≡ Values (static_kind dir) = h in cc)
object_is (plain.Process pip) fields h = absurd (let e : Objects fields ≡ Values kinds.Process = h in cc)
object_is (plain.Artifact artifact) fields h = absurd (let e : Objects fields ≡ Values kinds.Artifact = h in cc)
object_is (plain.Argument argument) fields h = absurd (let e : Objects fields ≡ Values kinds.Argument = h in cc)
object_is (plain.Listed depth xs) fields h = absurd (let e : Objects fields ≡ Lists h.0 = h.1 in cc)
object_is (plain.Object depth ms) fields h =
    let e : Objects fields ≡ Objects h.0 = h.1 in
    let same : h.0 ≡ fields = cc in
    (depth, ms, refl, subst (λ fs. AreFields ms (field_list fs)) same h.2, subst (λ fs. HasRequired fs ms) same h.3)
object_is (plain.Function callee depth held) fields h = absurd h

-- ## Items

pub are_items
    : (xs : Items) (item : TypeData) → AllByRecursion (λ x. HasType x item) (item_list xs) → AreItems xs item
unfolding AreItems HasType
are_items End item h = tt
are_items (More x xs) item h = (h.0, are_items xs item h.1)

pub items_are
    : (xs : Items) (item : TypeData) → AreItems xs item → AllByRecursion (λ x. HasType x item) (item_list xs)
unfolding AreItems HasType
items_are End item h = tt
items_are (More x xs) item h = (h.0, items_are xs item h.1)
