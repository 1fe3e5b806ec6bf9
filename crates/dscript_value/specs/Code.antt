-- A code of plain values, of lists and of fields: two that have one code are equal.
use Rattle.std.specs.Prelude.{◌≡◌, ℕ, ℤ, Bool, List, [], ◌⊎◌}
use Rattle.std.proofs.Common.{ap, refl, ◌∙◌}
use Rattle.std.specs.Coded.{Coded, code_by, coded×, coded⊎, coded_ℕ, coded_ℤ, coded_bool, coded_list}
use base.Stored.{Gv, gnil, gcons, coded_unit}
use mathlib.Core.Logic.{inl, inr}
use Rattle.bx_tree.specs.Paths.{Atoms}
use Rattle.bx_tree.specs.declared.file_input.FileInput.{FileInput}
use Rattle.bx_tree.specs.contracts.file_input.FileInput as file
use Rattle.dscript_value.specs.declared.parts.StaticDir.{StaticDir}
use Rattle.dscript_value.specs.declared.parts.Artifact.{Artifact as AnyArtifact}
use Rattle.dscript_value.specs.declared.parts.ArgumentParts.{ArgumentParts as AnyArgument}
use Rattle.dscript_value.specs.declared.parts.Callee.{Callee}
use Rattle.dscript_value.specs.contracts.parts.StaticDir as dir
use Rattle.dscript_value.specs.contracts.parts.Artifact as artifact
use Rattle.dscript_value.specs.contracts.parts.ArgumentParts as argument
use Rattle.dscript_value.specs.contracts.parts.Callee as callee
use Rattle.dscript_value.specs.Data.{Plain, Undefined, Flag, Number, Text, Path, File}
use Rattle.dscript_value.specs.Data.{Directory, Relative, Atom}
use Rattle.dscript_value.specs.Data.{Listed, Object, Function, Static, Process, Artifact, Argument}
use Rattle.dscript_value.specs.Data.{Items, End, More, Members, Last, Next, PlainValues, PlainFields}

-- what a value is without the values that it holds
abbrev Simple : Type 0
Simple = (Unit {0} ⊎ Bool) ⊎ (ℤ ⊎ ℕ)

abbrev Texts : Type 0
Texts = (List ℕ ⊎ List ℕ) ⊎ (Atoms ⊎ (Atoms ⊎ Atoms))

abbrev Files : Type 0
Files = (FileInput ⊎ StaticDir) ⊎ (AnyArtifact ⊎ AnyArgument)

abbrev Holding : Type 0
Holding = ℕ ⊎ (ℕ ⊎ (Callee × ℕ))

abbrev pub Shape : Type 0
Shape = (Simple ⊎ Texts) ⊎ (Files ⊎ Holding)

abbrev pub shape_code : Coded Shape
shape_code =
    coded⊎ (coded⊎ (coded⊎ (coded⊎ coded_unit coded_bool) (coded⊎ coded_ℤ coded_ℕ))
    (coded⊎ (coded⊎ (coded_list coded_ℕ) (coded_list coded_ℕ))
    (coded⊎ (coded_list (coded_list coded_ℕ))
    (coded⊎ (coded_list (coded_list coded_ℕ)) (coded_list (coded_list coded_ℕ))))))
    (coded⊎ (coded⊎ (coded⊎ file.the_row.coded dir.the_row.coded)
    (coded⊎ artifact.the_row.coded argument.the_row.coded))
    (coded⊎ coded_ℕ (coded⊎ coded_ℕ (coded× callee.the_row.coded coded_ℕ))))

abbrev pub shape_of : Plain → Shape
shape_of Undefined = inl (inl (inl (inl tt)))
shape_of (Flag flag) = inl (inl (inl (inr flag)))
shape_of (Number number) = inl (inl (inr (inl number)))
shape_of (Process pip) = inl (inl (inr (inr pip)))
shape_of (Text text) = inl (inr (inl (inl text)))
shape_of (Atom text) = inl (inr (inl (inr text)))
shape_of (Path path) = inl (inr (inr (inl path)))
shape_of (Directory path) = inl (inr (inr (inr (inl path))))
shape_of (Relative atoms) = inl (inr (inr (inr (inr atoms))))
shape_of (File file) = inr (inl (inl (inl file)))
shape_of (Static dir) = inr (inl (inl (inr dir)))
shape_of (Artifact artifact) = inr (inl (inr (inl artifact)))
shape_of (Argument argument) = inr (inl (inr (inr argument)))
shape_of (Listed depth items) = inr (inr (inl depth))
shape_of (Object depth members) = inr (inr (inr (inl depth)))
shape_of (Function callee depth held) = inr (inr (inr (inr (callee, depth))))

-- the value of this shape that holds these
abbrev pub value_of : Shape → Items → Members → Plain
value_of (inl (inl (inl (inl _)))) items members = Undefined
value_of (inl (inl (inl (inr flag)))) items members = Flag flag
value_of (inl (inl (inr (inl number)))) items members = Number number
value_of (inl (inl (inr (inr pip)))) items members = Process pip
value_of (inl (inr (inl (inl text)))) items members = Text text
value_of (inl (inr (inl (inr text)))) items members = Atom text
value_of (inl (inr (inr (inl path)))) items members = Path path
value_of (inl (inr (inr (inr (inl path))))) items members = Directory path
value_of (inl (inr (inr (inr (inr atoms))))) items members = Relative atoms
value_of (inr (inl (inl (inl file)))) items members = File file
value_of (inr (inl (inl (inr dir)))) items members = Static dir
value_of (inr (inl (inr (inl artifact)))) items members = Artifact artifact
value_of (inr (inl (inr (inr argument)))) items members = Argument argument
value_of (inr (inr (inl depth))) items members = Listed depth items
value_of (inr (inr (inr (inl depth)))) items members = Object depth members
value_of (inr (inr (inr (inr callee)))) items members = Function callee.0 callee.1 items

-- A tree of shapes: a value with what it holds on its left, and what comes after it on its right.
pub data Shapes : Type 0 where
  Leaf : Shapes
  Node : Shape → List ℕ → Shapes → Shapes → Shapes

abbrev pub shapes_code : Shapes → Gv
shapes_code Leaf = gnil
shapes_code (Node shape name held rest) =
    gcons (shape_code.code shape)
    (gcons ((coded_list coded_ℕ).code name) (gcons (shapes_code held) (shapes_code rest)))

abbrev left : Gv → Gv
left (gcons a b) = a
left _ = gnil

abbrev right : Gv → Gv
right (gcons a b) = b
right _ = gnil

pub one_tree : (x y : Shapes) → shapes_code x ≡ shapes_code y → x ≡ y
one_tree Leaf Leaf p = refl
one_tree Leaf (Node t n i s) p = absurd (cc p)
one_tree (Node t n i s) Leaf p = absurd (cc p)
one_tree (Node t n i s) (Node u m j r) p =
    λ k. Node (shape_code.inj t u (ap left p) k)
    ((coded_list coded_ℕ).inj n m (ap (λ g. left (right g)) p) k)
    (one_tree i j (ap (λ g. left (right (right g))) p) k)
    (one_tree s r (ap (λ g. right (right (right g))) p) k)

abbrev pub coded_shapes : Coded Shapes
coded_shapes = record { code = shapes_code; inj = one_tree }

abbrev mutual
  -- the trees of what a value holds, of items and of fields
  pub held_shapes : Plain → Shapes
  held_shapes (Listed depth items) = items_shapes items
  held_shapes (Object depth members) = members_shapes members
  held_shapes (Function callee depth held) = items_shapes held
  held_shapes _ = Leaf

  pub items_shapes : Items → Shapes
  items_shapes End = Leaf
  items_shapes (More x xs) = Node (shape_of x) [] (held_shapes x) (items_shapes xs)

  pub members_shapes : Members → Shapes
  members_shapes Last = Leaf
  members_shapes (Next name value fs) = Node (shape_of value) name (held_shapes value) (members_shapes fs)

abbrev mutual
  -- the items and the fields of a tree
  pub items_in : Shapes → Items
  items_in Leaf = End
  items_in (Node shape name held rest) =
      More (value_of shape (items_in held) (members_in held)) (items_in rest)

  pub members_in : Shapes → Members
  members_in Leaf = Last
  members_in (Node shape name held rest) =
      Next name (value_of shape (items_in held) (members_in held)) (members_in rest)

mutual
  pub value_again : (x : Plain)
      → value_of (shape_of x) (items_in (held_shapes x)) (members_in (held_shapes x)) ≡ x
  value_again Undefined = refl
  value_again (Flag flag) = refl
  value_again (Number number) = refl
  value_again (Text text) = refl
  value_again (Path path) = refl
  value_again (File file) = refl
  value_again (Directory path) = refl
  value_again (Relative atoms) = refl
  value_again (Atom text) = refl
  value_again (Listed depth items) = ap (Listed depth) (items_again items)
  value_again (Object depth members) = ap (Object depth) (members_again members)
  value_again (Function callee depth held) = ap (Function callee depth) (items_again held)
  value_again (Static dir) = refl
  value_again (Process pip) = refl
  value_again (Artifact artifact) = refl
  value_again (Argument argument) = refl

  pub items_again : (xs : Items) → items_in (items_shapes xs) ≡ xs
  items_again End = refl
  items_again (More x xs) =
      ap (λ y. More y (items_in (items_shapes xs))) (value_again x) ∙ ap (λ ys. More x ys) (items_again xs)

  pub members_again : (fs : Members) → members_in (members_shapes fs) ≡ fs
  members_again Last = refl
  members_again (Next name value fs) =
      ap (λ y. Next name y (members_in (members_shapes fs))) (value_again value)
      ∙ ap (λ gs. Next name value gs) (members_again fs)

abbrev pub values_code : Coded PlainValues
values_code =
    code_by (ℕ × Shapes) (coded× coded_ℕ coded_shapes) (λ v. (v.depth, items_shapes v.items))
    (λ p. record { depth = p.0; items = items_in p.1 })
    (λ v. ap (λ xs. record { depth = v.depth; items = xs }) (items_again v.items))

abbrev pub fields_code : Coded PlainFields
fields_code =
    code_by (ℕ × Shapes) (coded× coded_ℕ coded_shapes) (λ f. (f.depth, members_shapes f.members))
    (λ p. record { depth = p.0; members = members_in p.1 })
    (λ f. ap (λ fs. record { depth = f.depth; members = fs }) (members_again f.members))
