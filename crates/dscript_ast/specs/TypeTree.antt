-- Types as trees, without where they lie in memory.
use Rattle.std.specs.Prelude.{ℕ, ℤ, Bool, List, [], ◌∷◌}

mutual
  pub data TypeTree : Type 0 where
    Union : TypeTrees → TypeTree
    Array : TypeTree → ℕ → TypeTree
    Named : List (List ℕ) → TypeTrees → TypeTree
    Str : List ℕ → TypeTree
    Number : ℤ → TypeTree
    Undefined : TypeTree
    True : TypeTree
    False : TypeTree
    Body : MemberTrees → TypeTree
    Function : FieldTrees → TypeTree → TypeTree

  -- a parameter: its name, whether `?` follows, and its type
  pub data FieldTree : Type 0 where
    Field : List ℕ → Bool → TypeTree → FieldTree

  pub data MemberTree : Type 0 where
    Property : List ℕ → Bool → TypeTree → MemberTree
    Method : List ℕ → Bool → FieldTrees → TypeTree → MemberTree

  -- lists of these
  pub data TypeTrees : Type 0 where
    no_types : TypeTrees
    more_types : TypeTree → TypeTrees → TypeTrees

  pub data FieldTrees : Type 0 where
    no_fields : FieldTrees
    more_fields : FieldTree → FieldTrees → FieldTrees

  pub data MemberTrees : Type 0 where
    no_members : MemberTrees
    more_members : MemberTree → MemberTrees → MemberTrees

abbrev pub types_of : TypeTrees → List TypeTree
types_of no_types = []
types_of (more_types x xs) = x ∷ types_of xs

abbrev pub fields_of : FieldTrees → List FieldTree
fields_of no_fields = []
fields_of (more_fields x xs) = x ∷ fields_of xs

abbrev pub members_of : MemberTrees → List MemberTree
members_of no_members = []
members_of (more_members x xs) = x ∷ members_of xs

abbrev pub to_types : List TypeTree → TypeTrees
to_types [] = no_types
to_types (x ∷ xs) = more_types x (to_types xs)

abbrev pub to_fields : List FieldTree → FieldTrees
to_fields [] = no_fields
to_fields (x ∷ xs) = more_fields x (to_fields xs)

abbrev pub to_members : List MemberTree → MemberTrees
to_members [] = no_members
to_members (x ∷ xs) = more_members x (to_members xs)
