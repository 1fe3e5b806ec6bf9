-- Values as plain data, without pointers: what contracts see of them.
use Rattle.std.specs.Prelude.{◌≡◌, ℕ, ℤ, Bool, List, [], ◌∷◌, refl}
use Rattle.std.proofs.Common.{ap}
use Rattle.bx_tree.specs.Paths.{Atoms}
use Rattle.bx_tree.specs.declared.file_input.FileInput.{FileInput}
use Rattle.dscript_value.specs.declared.parts.StaticDir.{StaticDir}
use Rattle.dscript_value.specs.declared.parts.Artifact.{Artifact as AnyArtifact}
use Rattle.dscript_value.specs.declared.parts.ArgumentParts.{ArgumentParts as AnyArgument}
use Rattle.dscript_value.specs.declared.parts.Callee.{Callee}

-- A list, an object and a function have their depth beside what they hold.
mutual
  pub data Plain : Type 0 where
    Undefined : Plain
    Flag : Bool → Plain
    Number : ℤ → Plain
    Text : List ℕ → Plain
    Path : Atoms → Plain
    File : FileInput → Plain
    Directory : Atoms → Plain
    Relative : List (List ℕ) → Plain
    Atom : List ℕ → Plain
    Listed : ℕ → Items → Plain
    Object : ℕ → Members → Plain
    Function : Callee → ℕ → Items → Plain
    Static : StaticDir → Plain
    Process : ℕ → Plain
    Artifact : AnyArtifact → Plain
    Argument : AnyArgument → Plain

  pub data Items : Type 0 where
    End : Items
    More : Plain → Items → Items

  pub data Members : Type 0 where
    Last : Members
    Next : List ℕ → Plain → Members → Members

-- ## Lists of values and of fields

abbrev pub to_items : List Plain → Items
to_items [] = End
to_items (x ∷ xs) = More x (to_items xs)

abbrev pub item_list : Items → List Plain
item_list End = []
item_list (More x xs) = x ∷ item_list xs

abbrev pub PlainField : Type 0
PlainField = List ℕ × Plain

abbrev pub to_members : List PlainField → Members
to_members [] = Last
to_members (f ∷ fs) = Next f.0 f.1 (to_members fs)

abbrev pub member_list : Members → List PlainField
member_list Last = []
member_list (Next name value fs) = (name, value) ∷ member_list fs

pub item_list-to_items : (xs : List Plain) → item_list (to_items xs) ≡ xs
item_list-to_items [] = refl
item_list-to_items (x ∷ xs) = ap (λ ys. x ∷ ys) (item_list-to_items xs)

pub to_items-item_list : (xs : Items) → to_items (item_list xs) ≡ xs
to_items-item_list End = refl
to_items-item_list (More x xs) = ap (λ ys. More x ys) (to_items-item_list xs)

pub member_list-to_members : (fs : List PlainField) → member_list (to_members fs) ≡ fs
member_list-to_members [] = refl
member_list-to_members (f ∷ fs) = ap (λ gs. f ∷ gs) (member_list-to_members fs)

-- ## The plain data of a value

-- what values hold, with the depth of a value that holds them
pub record PlainValues : Type 0 where
  pub depth : ℕ
  pub items : Items

pub record PlainFields : Type 0 where
  pub depth : ℕ
  pub members : Members

pub record PlainFunction : Type 0 where
  pub callee : Callee
  pub held : PlainValues
