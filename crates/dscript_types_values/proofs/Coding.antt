-- Members of one code are equal.
use Rattle.std.proofs.Common.{◌≡◌, ℕ, Bool, true, false, cond, eqb, List, [], ◌∷◌, ◌++◌, length, refl, sym, ap, ◌∙◌, append_assoc, append-nil}
use Rattle.dscript_types_meaning.specs.declared.kind.Kind.{Kind}
use Rattle.dscript_types_meaning.specs.declared.kind.Kind.TheVariants as kinds
use Rattle.dscript_types_meaning.specs.Types.{TypeData, MemberData, MemberRow, FieldRow, Union, Values, Lists, Objects}
use Rattle.dscript_types_meaning.specs.Types.{no_members, more_members, no_fields, more_fields}
use Rattle.dscript_types_meaning.specs.Codes.{flag_number, kind_number, type_code, member_code, members_code, fields_code}

-- ## Kinds and names

abbrev kind_of : ℕ → Kind
kind_of n =
    cond (eqb n 0) kinds.Undefined (
    cond (eqb n 1) kinds.Boolean (
    cond (eqb n 2) kinds.Number (
    cond (eqb n 3) kinds.String (
    cond (eqb n 4) kinds.Path (
    cond (eqb n 5) kinds.File (
    cond (eqb n 6) kinds.Directory (
    cond (eqb n 7) kinds.RelativePath (
    cond (eqb n 8) kinds.PathAtom (
    cond (eqb n 9) kinds.Seal (
    cond (eqb n 10) kinds.Opaque (
    cond (eqb n 11) kinds.Process (
    cond (eqb n 12) kinds.Artifact kinds.Argument))))))))))))

kind_again : (k : Kind) → kind_of (kind_number k) ≡ k
kind_again kinds.Undefined = refl
kind_again kinds.Boolean = refl
kind_again kinds.Number = refl
kind_again kinds.String = refl
kind_again kinds.Path = refl
kind_again kinds.File = refl
kind_again kinds.Directory = refl
kind_again kinds.RelativePath = refl
kind_again kinds.PathAtom = refl
kind_again kinds.Seal = refl
kind_again kinds.Opaque = refl
kind_again kinds.Process = refl
kind_again kinds.Artifact = refl
kind_again kinds.Argument = refl

pub one_kind : (k l : Kind) → kind_number k ≡ kind_number l → k ≡ l
one_kind k l e = sym (kind_again k) ∙ ap kind_of e ∙ kind_again l

one_flag : (a b : Bool) → flag_number a ≡ flag_number b → a ≡ b
one_flag false false e = refl
one_flag false true e = absurd cc
one_flag true false e = absurd cc
one_flag true true e = refl

-- what begins with names of one length
names_apart
    : (x y a b : List ℕ) → length x ≡ length y → x ++ a ≡ y ++ b → (x ≡ y) × (a ≡ b)
names_apart [] [] a b l e = (refl, e)
names_apart [] (n ∷ y) a b l e = absurd cc
names_apart (m ∷ x) [] a b l e = absurd cc
names_apart (m ∷ x) (n ∷ y) a b l e =
    let same : length x ≡ length y = cc in
    let first : m ≡ n = cc in
    let rest : x ++ a ≡ y ++ b = cc in
    let r = names_apart x y a b same rest in (cc (first, r.0), r.1)

-- ## Types

mutual
  unfolding type_code member_code members_code fields_code

  type_apart : (t u : TypeData) (a b : List ℕ) → type_code t ++ a ≡ type_code u ++ b → (t ≡ u) × (a ≡ b)
  type_apart (Union ms) (Union ns) a b e = let r = members_apart ms ns a b e in (ap Union r.0, r.1)

  pub member_apart : (m n : MemberData) (a b : List ℕ) → member_code m ++ a ≡ member_code n ++ b → (m ≡ n) × (a ≡ b)
  member_apart (Values k) (Values l) a b e =
      let same : kind_number k ≡ kind_number l = cc in
      let rest : a ≡ b = cc in (ap Values (one_kind k l same), rest)
  member_apart (Values k) (Lists u) a b e = absurd cc
  member_apart (Values k) (Objects gs) a b e = absurd cc
  member_apart (Lists t) (Values l) a b e = absurd cc
  member_apart (Lists t) (Lists u) a b e =
      let rest : type_code t ++ a ≡ type_code u ++ b = cc in
      let r = type_apart t u a b rest in (ap Lists r.0, r.1)
  member_apart (Lists t) (Objects gs) a b e = absurd cc
  member_apart (Objects fs) (Values l) a b e = absurd cc
  member_apart (Objects fs) (Lists u) a b e = absurd cc
  member_apart (Objects fs) (Objects gs) a b e =
      let rest : fields_code fs ++ a ≡ fields_code gs ++ b = cc in
      let r = fields_apart fs gs a b rest in (ap Objects r.0, r.1)

  members_apart
      : (ms ns : MemberRow) (a b : List ℕ) → members_code ms ++ a ≡ members_code ns ++ b → (ms ≡ ns) × (a ≡ b)
  members_apart no_members no_members a b e = let rest : a ≡ b = cc in (refl, rest)
  members_apart no_members (more_members n ns) a b e = absurd cc
  members_apart (more_members m ms) no_members a b e = absurd cc
  members_apart (more_members m ms) (more_members n ns) a b e =
      let whole : (member_code m ++ members_code ms) ++ a ≡ (member_code n ++ members_code ns) ++ b = cc in
      let rest = rw (append_assoc (member_code m) (members_code ms) a, append_assoc (member_code n) (members_code ns) b) at whole in
      let r = member_apart m n (members_code ms ++ a) (members_code ns ++ b) rest in
      let q = members_apart ms ns a b r.1 in (cc (r.0, q.0), q.1)

  fields_apart
      : (fs gs : FieldRow) (a b : List ℕ) → fields_code fs ++ a ≡ fields_code gs ++ b → (fs ≡ gs) × (a ≡ b)
  fields_apart no_fields no_fields a b e = let rest : a ≡ b = cc in (refl, rest)
  fields_apart no_fields (more_fields y p u gs) a b e = absurd cc
  fields_apart (more_fields x o t fs) no_fields a b e = absurd cc
  fields_apart (more_fields x o t fs) (more_fields y p u gs) a b e =
      let long : length x ≡ length y = cc in
      let whole : (x ++ flag_number o ∷ type_code t ++ fields_code fs) ++ a ≡ (y ++ flag_number p ∷ type_code u ++ fields_code gs) ++ b = cc in
      let rest : x ++ flag_number o ∷ (type_code t ++ (fields_code fs ++ a)) ≡ y ++ flag_number p ∷ (type_code u ++ (fields_code gs ++ b))
      = simp append_assoc at whole in
      let n = names_apart x y (flag_number o ∷ (type_code t ++ (fields_code fs ++ a))) (flag_number p ∷ (type_code u ++ (fields_code gs ++ b))) long rest in
      let flag : flag_number o ≡ flag_number p = cc (n.1) in
      let types : type_code t ++ (fields_code fs ++ a) ≡ type_code u ++ (fields_code gs ++ b) = cc (n.1) in
      let r = type_apart t u (fields_code fs ++ a) (fields_code gs ++ b) types in
      let q = fields_apart fs gs a b r.1 in (cc (n.0, one_flag o p flag, r.0, q.0), q.1)

pub one_member : (m n : MemberData) → member_code m ≡ member_code n → m ≡ n
one_member m n e = (member_apart m n [] [] (ap (λ code. code ++ []) e)).0
