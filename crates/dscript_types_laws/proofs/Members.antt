-- Members of values of the types that have them.
use Rattle.std.proofs.Common.{◌≡◌, ℕ, Bool, true, false, cond, not, List, [], ◌∷◌, ◌++◌, length, Option, Some, None, Ok}
use Rattle.std.proofs.Common.{Err, refl, sym, ap, ◌∙◌, subst, inl, pos}
use Rattle.std.specs.List.{filter}
use Rattle.std.specs.Option.{option_and_then}
use Rattle.std.specs.Prelude.{◌^◌, nat_lt, unwrap_or}
use Rattle.bx_tree.specs.Paths.{Atoms}
use Rattle.bx_tree.specs.FileInputs.{input_path}
use Rattle.bx_path.specs.Joining.{parent}
use Rattle.dscript_value.specs.Depths.{field_at}
use Rattle.dscript_value.specs.Equality.{static_path}
use Rattle.dscript_value.specs.declared.parts.StaticDir.TheVariants as dirs
use Rattle.dscript_value.specs.Plain as plain
use Rattle.dscript_value.specs.Plain.{Plain, Items, Members, item_list, member_list}
use Rattle.dscript_sdk_values.specs.declared.fault.SdkFault.TheVariants.{Range}
use Rattle.dscript_sdk_values.specs.Answers.{number_answer}
use Rattle.dscript_sdk_values.specs.Outcomes.{Outcome, ◌>>=◌, unless_none}
use Rattle.dscript_sdk_members.specs.ListMembers.{list_function, list_property, is_callback}
use Rattle.dscript_sdk_members.specs.Names.{member_named}
use Rattle.dscript_sdk_members.specs.PathMembers.{any_path_property, directory_function, file_property, last_atom, path_function}
use Rattle.dscript_sdk_members.specs.TextMembers.{text_function, text_property}
use Rattle.dscript_sdk_members.specs.declared.member.Member.{Member}
use Rattle.dscript_sdk_members.specs.declared.member.Member.TheVariants as members
use Rattle.dscript_sdk.specs.Members.{member_answer, member_of}
use Rattle.dscript_sdk.specs.StaticMembers.{static_function, static_property}
use Rattle.dscript_sdk.specs.ProcessMembers.{process_function}
use Rattle.dscript_sdk_pips.specs.States.{State as Calls}
use Rattle.dscript_types_meaning.specs.declared.kind.Kind.{Kind}
use Rattle.dscript_types_meaning.specs.declared.kind.Kind.TheVariants as kinds
use Rattle.dscript_types_meaning.specs.Types.{TypeData, MemberData, FieldData, Values, Lists, Objects, field_list}
use Rattle.dscript_types_meaning.specs.Types.{kind_type, members_of}
use Rattle.dscript_types_meaning.specs.Sizes.{within_limit}
use Rattle.dscript_types_meaning.specs.Unions.{can_be_list, is_list, items_of}
use Rattle.dscript_types_meaning.specs.Fits.{field_named, holds_of}
use Rattle.dscript_types_meaning.specs.Operators.{at_each, number_type}
use Rattle.dscript_types_meaning.specs.Access.{accessed, held_by, member_type, property_of, property_of_kind, property_of_list}
use Rattle.dscript_types_meaning.specs.Values.{HasType, IsOf}
use Rattle.dscript_types_values.proofs.Among.{Among, among_filter, among_left, among_right}
use Rattle.dscript_types_values.proofs.Fielding.{Holds, objects_hold}
use Rattle.dscript_types_values.proofs.Fitting.{kind_has}
use Rattle.dscript_types_values.proofs.Joining.{IsAmong, has_if_optional, has_undefined, items_have, of_has, undefined_itself}
use Rattle.dscript_types_values.proofs.KindForms.{IsKind, are_items, kind_is, list_is}
use Rattle.dscript_types_laws.proofs.Operating.{AnswersOf, answers_wider, at_each_has}
use Rattle.dscript_types_laws.proofs.Operators.{within_is}

-- ## The members at which a member is taken

list_of_items : (x : Plain) (t item : TypeData) → Among (members_of t) (Lists item) → IsOf x (Lists item)
    → IsOf x (Lists (items_of t))
unfolding IsOf
list_of_items x t item a h =
    let l = list_is x item h in
    subst (λ y. IsOf y (Lists (items_of t))) (sym l.2)
    (items_of t, refl, are_items l.1 (items_of t) (items_have l.1 t item a l.3))

accessed_case
    : (x : Plain) (t : TypeData) (m : MemberData) (b : Bool) → can_be_list t ≡ b → Among (members_of t) m → IsOf x m
    → IsAmong x (cond b (filter (λ n. not (is_list n)) (members_of t) ++ Lists (items_of t) ∷ []) (members_of t))
accessed_case x t m false is a h = (m, a, h)
accessed_case x t (Values k) true is a h = (
  Values k,
  among_left _ (Lists (items_of t) ∷ []) (Values k)
      (among_filter (λ n. not (is_list n)) (members_of t) (Values k) a refl),
  h,
)
accessed_case x t (Objects fs) true is a h = (
  Objects fs,
  among_left _ (Lists (items_of t) ∷ []) (Objects fs)
      (among_filter (λ n. not (is_list n)) (members_of t) (Objects fs) a refl),
  h,
)
accessed_case x t (Lists item) true is a h = (
  Lists (items_of t),
  among_right (filter (λ n. not (is_list n)) (members_of t)) _ (Lists (items_of t)) (inl refl),
  list_of_items x t item a h,
)

pub accessed_has : (x : Plain) (t : TypeData) → HasType x t → IsAmong x (accessed t)
accessed_has x t h = let r = of_has x t h in accessed_case x t r.0 (can_be_list t) refl r.1 r.2

-- ## Members that are no functions

count_case : (n : ℕ) (b : Bool) → AnswersOf number_type (cond b (Ok (plain.Number (pos n))) (Err Range))
count_case n true = kind_has kinds.Number (plain.Number (pos n)) (pos n, refl)
count_case n false = tt

count_answered : (n : ℕ) → AnswersOf number_type (number_answer n)
count_answered n = count_case n (nat_lt n (2 ^ 31))

name_case : (o : Option (List ℕ)) → AnswersOf (kind_type kinds.PathAtom) (unless_none Range o >>= λ atom. Ok (plain.Atom atom))
name_case None = tt
name_case (Some atom) = kind_has kinds.PathAtom (plain.Atom atom) (atom, refl)

parent_case : (o : Option Atoms) → AnswersOf (kind_type kinds.Directory) (unless_none Range o >>= λ dir. Ok (plain.Directory dir))
parent_case None = tt
parent_case (Some dir) = kind_has kinds.Directory (plain.Directory dir) (dir, refl)

of_some : (r t : TypeData) (o : Outcome Plain) → Some t ≡ Some r → AnswersOf t o → AnswersOf r o
of_some r t o e h = let same : t ≡ r = cc in subst (λ u. AnswersOf u o) same h

property_kind_has
    : (k : Kind) (m : Member) (name : List ℕ) (r : TypeData) (x : Plain) (calls : Calls) → property_of_kind k m ≡ Some r
    → IsKind k x → AnswersOf r (member_answer calls name x (Some m))
unfolding text_function text_property path_function directory_function any_path_property file_property static_function
    static_property process_function
property_kind_has kinds.Undefined m name r x calls e h = absurd cc
property_kind_has kinds.Boolean m name r x calls e h = absurd cc
property_kind_has kinds.Number m name r x calls e h = absurd cc
property_kind_has kinds.String members.Length name r x calls e h =
    subst (λ y. AnswersOf r (member_answer calls name y (Some members.Length))) (sym h.1)
    (of_some r number_type _ e (count_answered (length h.0)))
property_kind_has kinds.String members.Contains name r x calls e h = absurd cc
property_kind_has kinds.String members.StartsWith name r x calls e h = absurd cc
property_kind_has kinds.String members.EndsWith name r x calls e h = absurd cc
property_kind_has kinds.String members.Split name r x calls e h = absurd cc
property_kind_has kinds.String members.Concat name r x calls e h = absurd cc
property_kind_has kinds.String members.Join name r x calls e h = absurd cc
property_kind_has kinds.String members.Map name r x calls e h = absurd cc
property_kind_has kinds.String members.Filter name r x calls e h = absurd cc
property_kind_has kinds.String members.MapMany name r x calls e h = absurd cc
property_kind_has kinds.String members.Reduce name r x calls e h = absurd cc
property_kind_has kinds.String members.Name name r x calls e h = absurd cc
property_kind_has kinds.String members.Parent name r x calls e h = absurd cc
property_kind_has kinds.String members.Path name r x calls e h = absurd cc
property_kind_has kinds.String members.Combine name r x calls e h = absurd cc
property_kind_has kinds.String members.ChangeExtension name r x calls e h = absurd cc
property_kind_has kinds.String members.Root name r x calls e h = absurd cc
property_kind_has kinds.String members.GetFile name r x calls e h = absurd cc
property_kind_has kinds.String members.GetContent name r x calls e h = absurd cc
property_kind_has kinds.String members.GetOutputFile name r x calls e h = absurd cc
property_kind_has kinds.String members.GetOutputDirectory name r x calls e h = absurd cc
property_kind_has kinds.Path members.Length name r x calls e h = absurd cc
property_kind_has kinds.Path members.Contains name r x calls e h = absurd cc
property_kind_has kinds.Path members.StartsWith name r x calls e h = absurd cc
property_kind_has kinds.Path members.EndsWith name r x calls e h = absurd cc
property_kind_has kinds.Path members.Split name r x calls e h = absurd cc
property_kind_has kinds.Path members.Concat name r x calls e h = absurd cc
property_kind_has kinds.Path members.Join name r x calls e h = absurd cc
property_kind_has kinds.Path members.Map name r x calls e h = absurd cc
property_kind_has kinds.Path members.Filter name r x calls e h = absurd cc
property_kind_has kinds.Path members.MapMany name r x calls e h = absurd cc
property_kind_has kinds.Path members.Reduce name r x calls e h = absurd cc
property_kind_has kinds.Path members.Name name r x calls e h =
    subst (λ y. AnswersOf r (member_answer calls name y (Some members.Name))) (sym h.1)
    (of_some r (kind_type kinds.PathAtom) _ e (name_case (last_atom h.0)))
property_kind_has kinds.Path members.Parent name r x calls e h =
    subst (λ y. AnswersOf r (member_answer calls name y (Some members.Parent))) (sym h.1)
    (of_some r (kind_type kinds.Directory) _ e (parent_case (parent h.0)))
property_kind_has kinds.Path members.Path name r x calls e h = absurd cc
property_kind_has kinds.Path members.Combine name r x calls e h = absurd cc
property_kind_has kinds.Path members.ChangeExtension name r x calls e h = absurd cc
property_kind_has kinds.Path members.Root name r x calls e h = absurd cc
property_kind_has kinds.Path members.GetFile name r x calls e h = absurd cc
property_kind_has kinds.Path members.GetContent name r x calls e h = absurd cc
property_kind_has kinds.Path members.GetOutputFile name r x calls e h = absurd cc
property_kind_has kinds.Path members.GetOutputDirectory name r x calls e h = absurd cc
property_kind_has kinds.File members.Length name r x calls e h = absurd cc
property_kind_has kinds.File members.Contains name r x calls e h = absurd cc
property_kind_has kinds.File members.StartsWith name r x calls e h = absurd cc
property_kind_has kinds.File members.EndsWith name r x calls e h = absurd cc
property_kind_has kinds.File members.Split name r x calls e h = absurd cc
property_kind_has kinds.File members.Concat name r x calls e h = absurd cc
property_kind_has kinds.File members.Join name r x calls e h = absurd cc
property_kind_has kinds.File members.Map name r x calls e h = absurd cc
property_kind_has kinds.File members.Filter name r x calls e h = absurd cc
property_kind_has kinds.File members.MapMany name r x calls e h = absurd cc
property_kind_has kinds.File members.Reduce name r x calls e h = absurd cc
property_kind_has kinds.File members.Name name r x calls e h =
    subst (λ y. AnswersOf r (member_answer calls name y (Some members.Name))) (sym h.1)
    (of_some r (kind_type kinds.PathAtom) _ e (name_case (last_atom (input_path h.0))))
property_kind_has kinds.File members.Parent name r x calls e h =
    subst (λ y. AnswersOf r (member_answer calls name y (Some members.Parent))) (sym h.1)
    (of_some r (kind_type kinds.Directory) _ e (parent_case (parent (input_path h.0))))
property_kind_has kinds.File members.Path name r x calls e h =
    subst (λ y. AnswersOf r (member_answer calls name y (Some members.Path))) (sym h.1)
    (of_some r (kind_type kinds.Path) (Ok (plain.Path (input_path h.0))) e (kind_has kinds.Path (plain.Path (input_path h.0)) (input_path h.0, refl)))
property_kind_has kinds.File members.Combine name r x calls e h = absurd cc
property_kind_has kinds.File members.ChangeExtension name r x calls e h = absurd cc
property_kind_has kinds.File members.Root name r x calls e h = absurd cc
property_kind_has kinds.File members.GetFile name r x calls e h = absurd cc
property_kind_has kinds.File members.GetContent name r x calls e h = absurd cc
property_kind_has kinds.File members.GetOutputFile name r x calls e h = absurd cc
property_kind_has kinds.File members.GetOutputDirectory name r x calls e h = absurd cc
property_kind_has kinds.Directory members.Length name r x calls e h = absurd cc
property_kind_has kinds.Directory members.Contains name r x calls e h = absurd cc
property_kind_has kinds.Directory members.StartsWith name r x calls e h = absurd cc
property_kind_has kinds.Directory members.EndsWith name r x calls e h = absurd cc
property_kind_has kinds.Directory members.Split name r x calls e h = absurd cc
property_kind_has kinds.Directory members.Concat name r x calls e h = absurd cc
property_kind_has kinds.Directory members.Join name r x calls e h = absurd cc
property_kind_has kinds.Directory members.Map name r x calls e h = absurd cc
property_kind_has kinds.Directory members.Filter name r x calls e h = absurd cc
property_kind_has kinds.Directory members.MapMany name r x calls e h = absurd cc
property_kind_has kinds.Directory members.Reduce name r x calls e h = absurd cc
property_kind_has kinds.Directory members.Name name r x calls e h =
    subst (λ y. AnswersOf r (member_answer calls name y (Some members.Name))) (sym h.1)
    (of_some r (kind_type kinds.PathAtom) _ e (name_case (last_atom h.0)))
property_kind_has kinds.Directory members.Parent name r x calls e h =
    subst (λ y. AnswersOf r (member_answer calls name y (Some members.Parent))) (sym h.1)
    (of_some r (kind_type kinds.Directory) _ e (parent_case (parent h.0)))
property_kind_has kinds.Directory members.Path name r x calls e h = absurd cc
property_kind_has kinds.Directory members.Combine name r x calls e h = absurd cc
property_kind_has kinds.Directory members.ChangeExtension name r x calls e h = absurd cc
property_kind_has kinds.Directory members.Root name r x calls e h = absurd cc
property_kind_has kinds.Directory members.GetFile name r x calls e h = absurd cc
property_kind_has kinds.Directory members.GetContent name r x calls e h = absurd cc
property_kind_has kinds.Directory members.GetOutputFile name r x calls e h = absurd cc
property_kind_has kinds.Directory members.GetOutputDirectory name r x calls e h = absurd cc
property_kind_has kinds.RelativePath m name r x calls e h = absurd cc
property_kind_has kinds.PathAtom m name r x calls e h = absurd cc
property_kind_has kinds.Seal members.Length name r x calls e h = absurd cc
property_kind_has kinds.Seal members.Contains name r x calls e h = absurd cc
property_kind_has kinds.Seal members.StartsWith name r x calls e h = absurd cc
property_kind_has kinds.Seal members.EndsWith name r x calls e h = absurd cc
property_kind_has kinds.Seal members.Split name r x calls e h = absurd cc
property_kind_has kinds.Seal members.Concat name r x calls e h = absurd cc
property_kind_has kinds.Seal members.Join name r x calls e h = absurd cc
property_kind_has kinds.Seal members.Map name r x calls e h = absurd cc
property_kind_has kinds.Seal members.Filter name r x calls e h = absurd cc
property_kind_has kinds.Seal members.MapMany name r x calls e h = absurd cc
property_kind_has kinds.Seal members.Reduce name r x calls e h = absurd cc
property_kind_has kinds.Seal members.Name name r x calls e h = absurd cc
property_kind_has kinds.Seal members.Parent name r x calls e h = absurd cc
property_kind_has kinds.Seal members.Path name r x calls e h = absurd cc
property_kind_has kinds.Seal members.Combine name r x calls e h = absurd cc
property_kind_has kinds.Seal members.ChangeExtension name r x calls e h = absurd cc
property_kind_has kinds.Seal members.Root name r x calls e h =
    subst (λ y. AnswersOf r (member_answer calls name y (Some members.Root))) (sym h.2)
    (of_some r (kind_type kinds.Directory) (Ok (plain.Directory (static_path (dirs.Seal h.0 h.1)))) e
    (kind_has kinds.Directory (plain.Directory (static_path (dirs.Seal h.0 h.1))) (static_path (dirs.Seal h.0 h.1), refl)))
property_kind_has kinds.Seal members.GetFile name r x calls e h = absurd cc
property_kind_has kinds.Seal members.GetContent name r x calls e h = absurd cc
property_kind_has kinds.Seal members.GetOutputFile name r x calls e h = absurd cc
property_kind_has kinds.Seal members.GetOutputDirectory name r x calls e h = absurd cc
property_kind_has kinds.Opaque members.Length name r x calls e h = absurd cc
property_kind_has kinds.Opaque members.Contains name r x calls e h = absurd cc
property_kind_has kinds.Opaque members.StartsWith name r x calls e h = absurd cc
property_kind_has kinds.Opaque members.EndsWith name r x calls e h = absurd cc
property_kind_has kinds.Opaque members.Split name r x calls e h = absurd cc
property_kind_has kinds.Opaque members.Concat name r x calls e h = absurd cc
property_kind_has kinds.Opaque members.Join name r x calls e h = absurd cc
property_kind_has kinds.Opaque members.Map name r x calls e h = absurd cc
property_kind_has kinds.Opaque members.Filter name r x calls e h = absurd cc
property_kind_has kinds.Opaque members.MapMany name r x calls e h = absurd cc
property_kind_has kinds.Opaque members.Reduce name r x calls e h = absurd cc
property_kind_has kinds.Opaque members.Name name r x calls e h = absurd cc
property_kind_has kinds.Opaque members.Parent name r x calls e h = absurd cc
property_kind_has kinds.Opaque members.Path name r x calls e h = absurd cc
property_kind_has kinds.Opaque members.Combine name r x calls e h = absurd cc
property_kind_has kinds.Opaque members.ChangeExtension name r x calls e h = absurd cc
property_kind_has kinds.Opaque members.Root name r x calls e h =
    subst (λ y. AnswersOf r (member_answer calls name y (Some members.Root))) (sym h.2)
    (of_some r (kind_type kinds.Directory) (Ok (plain.Directory (static_path (dirs.Opaque h.0 h.1)))) e
    (kind_has kinds.Directory (plain.Directory (static_path (dirs.Opaque h.0 h.1))) (static_path (dirs.Opaque h.0 h.1), refl)))
property_kind_has kinds.Opaque members.GetFile name r x calls e h = absurd cc
property_kind_has kinds.Opaque members.GetContent name r x calls e h = absurd cc
property_kind_has kinds.Opaque members.GetOutputFile name r x calls e h = absurd cc
property_kind_has kinds.Opaque members.GetOutputDirectory name r x calls e h = absurd cc
property_kind_has kinds.Process m name r x calls e h = absurd cc
property_kind_has kinds.Artifact m name r x calls e h = absurd cc
property_kind_has kinds.Argument m name r x calls e h = absurd cc

named_case
    : (k : Kind) (name : List ℕ) (r : TypeData) (x : Plain) (calls : Calls) (o : Option Member)
    → option_and_then (property_of_kind k) o ≡ Some r → IsKind k x → AnswersOf r (member_answer calls name x o)
named_case k name r x calls None e h = absurd cc
named_case k name r x calls (Some m) e h = property_kind_has k m name r x calls e h

length_has
    : (m : Member) (name : List ℕ) (r : TypeData) (depth : ℕ) (xs : Items) (calls : Calls) → property_of_list m ≡ Some r
    → AnswersOf r (member_answer calls name (plain.Listed depth xs) (Some m))
unfolding list_function list_property is_callback
length_has members.Length name r depth xs calls e = of_some r number_type _ e (count_answered (length (item_list xs)))
length_has members.Contains name r depth xs calls e = absurd cc
length_has members.StartsWith name r depth xs calls e = absurd cc
length_has members.EndsWith name r depth xs calls e = absurd cc
length_has members.Split name r depth xs calls e = absurd cc
length_has members.Concat name r depth xs calls e = absurd cc
length_has members.Join name r depth xs calls e = absurd cc
length_has members.Map name r depth xs calls e = absurd cc
length_has members.Filter name r depth xs calls e = absurd cc
length_has members.MapMany name r depth xs calls e = absurd cc
length_has members.Reduce name r depth xs calls e = absurd cc
length_has members.Name name r depth xs calls e = absurd cc
length_has members.Parent name r depth xs calls e = absurd cc
length_has members.Path name r depth xs calls e = absurd cc
length_has members.Combine name r depth xs calls e = absurd cc
length_has members.ChangeExtension name r depth xs calls e = absurd cc
length_has members.Root name r depth xs calls e = absurd cc
length_has members.GetFile name r depth xs calls e = absurd cc
length_has members.GetContent name r depth xs calls e = absurd cc
length_has members.GetOutputFile name r depth xs calls e = absurd cc
length_has members.GetOutputDirectory name r depth xs calls e = absurd cc

list_case
    : (name : List ℕ) (r : TypeData) (depth : ℕ) (xs : Items) (calls : Calls) (o : Option Member)
    → option_and_then property_of_list o ≡ Some r → AnswersOf r (member_answer calls name (plain.Listed depth xs) o)
list_case name r depth xs calls None e = absurd cc
list_case name r depth xs calls (Some m) e = length_has m name r depth xs calls e

-- a field of an object, or undefined
no_field
    : (o : Option FieldData) → (holds_of (λ (f : FieldData). not f.optional) o ≡ true → ⊥)
    → HasType plain.Undefined (held_by o)
no_field None never = undefined_itself
no_field (Some f) never = optional_case f.optional refl
  where
    optional_case : (b : Bool) → f.optional ≡ b → HasType plain.Undefined (held_by (Some f))
    optional_case true is = subst (λ b. HasType plain.Undefined (held_by (Some (record f { optional = b })))) (sym is) (has_undefined f.type_data)
    optional_case false is = absurd (never (ap not is))

field_case
    : (es : List plain.PlainField) (fs : List FieldData) (name : List ℕ) (o : Option Plain) → Holds es fs
    → field_at es name ≡ o → HasType (unwrap_or o plain.Undefined) (held_by (field_named fs name))
field_case es fs name None holds is =
    no_field (field_named fs name) (λ e. let r = holds.required name e in absurd (let no : None ≡ Some r.0 = sym is ∙ r.1 in cc))
field_case es fs name (Some x) holds is =
    let r = holds.typed name x is in
    subst (λ g. HasType x (held_by g)) (sym r.1) (has_if_optional x r.0.optional r.0.type_data r.2)

no_member
    : (k : Kind) (name : List ℕ) (r : TypeData) (o : Option Member) → ((m : Member) → property_of_kind k m ≡ None)
    → option_and_then (property_of_kind k) o ≡ Some r → ⊥
no_member k name r None none e = absurd cc
no_member k name r (Some m) none e = let no : None ≡ Some r = sym (none m) ∙ e in absurd cc

value_case
    : (k : Kind) (name : List ℕ) (r : TypeData) (x : Plain) (calls : Calls)
    → option_and_then (property_of_kind k) (member_named name) ≡ Some r → IsKind k x
    → AnswersOf r (member_of calls x name)
unfolding member_of
value_case kinds.Undefined name r x calls e h = absurd (no_member kinds.Undefined name r (member_named name) (λ m. refl) e)
value_case kinds.Boolean name r x calls e h = absurd (no_member kinds.Boolean name r (member_named name) (λ m. refl) e)
value_case kinds.Number name r x calls e h = absurd (no_member kinds.Number name r (member_named name) (λ m. refl) e)
value_case kinds.String name r x calls e h =
    subst (λ y. AnswersOf r (member_of calls y name)) (sym h.1)
    (named_case kinds.String name r (plain.Text h.0) calls (member_named name) e (h.0, refl))
value_case kinds.Path name r x calls e h =
    subst (λ y. AnswersOf r (member_of calls y name)) (sym h.1)
    (named_case kinds.Path name r (plain.Path h.0) calls (member_named name) e (h.0, refl))
value_case kinds.File name r x calls e h =
    subst (λ y. AnswersOf r (member_of calls y name)) (sym h.1)
    (named_case kinds.File name r (plain.File h.0) calls (member_named name) e (h.0, refl))
value_case kinds.Directory name r x calls e h =
    subst (λ y. AnswersOf r (member_of calls y name)) (sym h.1)
    (named_case kinds.Directory name r (plain.Directory h.0) calls (member_named name) e (h.0, refl))
value_case kinds.RelativePath name r x calls e h = absurd (no_member kinds.RelativePath name r (member_named name) (λ m. refl) e)
value_case kinds.PathAtom name r x calls e h = absurd (no_member kinds.PathAtom name r (member_named name) (λ m. refl) e)
value_case kinds.Seal name r x calls e h =
    subst (λ y. AnswersOf r (member_of calls y name)) (sym h.2)
    (named_case kinds.Seal name r (plain.Static (dirs.Seal h.0 h.1)) calls (member_named name) e (h.0, h.1, refl))
value_case kinds.Opaque name r x calls e h =
    subst (λ y. AnswersOf r (member_of calls y name)) (sym h.2)
    (named_case kinds.Opaque name r (plain.Static (dirs.Opaque h.0 h.1)) calls (member_named name) e (h.0, h.1, refl))
value_case kinds.Process name r x calls e h =
    subst (λ y. AnswersOf r (member_of calls y name)) (sym h.1)
    (named_case kinds.Process name r (plain.Process h.0) calls (member_named name) e (h.0, refl))
value_case kinds.Artifact name r x calls e h = absurd (no_member kinds.Artifact name r (member_named name) (λ m. refl) e)
value_case kinds.Argument name r x calls e h = absurd (no_member kinds.Argument name r (member_named name) (λ m. refl) e)

-- what a name gives after a value of a member that has it
property_has
    : (m : MemberData) (name : List ℕ) (r : TypeData) (x : Plain) (calls : Calls) → property_of name m ≡ Some r → IsOf x m
    → AnswersOf r (member_of calls x name)
unfolding member_of
property_has (Values k) name r x calls e h = value_case k name r x calls e (kind_is x k h)
property_has (Lists item) name r x calls e h =
    let l = list_is x item h in
    subst (λ y. AnswersOf r (member_of calls y name)) (sym l.2) (list_case name r l.0 l.1 calls (member_named name) e)
property_has (Objects fields) name r x calls e h =
    let f = objects_hold x fields h in
    let same : held_by (field_named (field_list fields) name) ≡ r = cc in
    subst (λ y. AnswersOf r (member_of calls y name)) (sym f.2)
    (subst (λ t. HasType (unwrap_or (field_at (member_list f.1) name) plain.Undefined) t) same
    (field_case (member_list f.1) (field_list fields) name (field_at (member_list f.1) name) f.3 refl))

member_case
    : (name : List ℕ) (t r : TypeData) (o : Option TypeData) → option_and_then within_limit o ≡ Some r → (s : TypeData) × (o ≡ Some s) × (s ≡ r)
member_case name t r None e = absurd cc
member_case name t r (Some s) e = (s, refl, within_is s r e)

-- what a name gives after a value of a type that has it
pub member_has
    : (t r : TypeData) (name : List ℕ) (x : Plain) (calls : Calls) → member_type t name ≡ Some r → HasType x t
    → AnswersOf r (member_of calls x name)
unfolding member_type
member_has t r name x calls e h =
    let a = accessed_has x t h in
    let c = member_case name t r (at_each (property_of name) (accessed t)) e in
    let p = at_each_has (property_of name) (accessed t) c.0 a.0 c.1 a.1 in
    answers_wider p.0 r (member_of calls x name) (λ y g. subst (λ u. HasType y u) c.2 (p.2 y g))
    (property_has a.0 name p.0 x calls p.1 a.2)
