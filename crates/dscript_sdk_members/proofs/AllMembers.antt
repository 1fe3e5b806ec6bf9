-- Every member is in the list of all members, and a name by which none is found is the name of none.
use Rattle.std.proofs.Common.{◌≡◌, ◌≢◌, ℕ, Bool, true, false, cond, List, [], ◌∷◌, Option, Some, None, refl, sym, subst}
use Rattle.std.specs.Prelude.{find, MatchOption}
use Rattle.std.specs.List.{AllByRecursion}
use Rattle.std.specs.Str.{bytes_eq}
use Rattle.std.proofs.lemmas.Bool.{false≢true}
use Rattle.std.proofs.lemmas.Slice.Eq.{bytes_eq-Decides}
use Rattle.dscript_sdk_members.specs.Names.{every_member, written_name}
use Rattle.dscript_sdk_members.specs.declared.member.Member.{Member}
use Rattle.dscript_sdk_members.specs.declared.member.Member.TheVariants as members

of_every_member : (P : Member → Type 0) → AllByRecursion P every_member → (member : Member) → P member
of_every_member P h members.Length = h.0
of_every_member P h members.Contains = h.1.0
of_every_member P h members.StartsWith = h.1.1.0
of_every_member P h members.EndsWith = h.1.1.1.0
of_every_member P h members.Split = h.1.1.1.1.0
of_every_member P h members.Concat = h.1.1.1.1.1.0
of_every_member P h members.Join = h.1.1.1.1.1.1.0
of_every_member P h members.Map = h.1.1.1.1.1.1.1.0
of_every_member P h members.Filter = h.1.1.1.1.1.1.1.1.0
of_every_member P h members.MapMany = h.1.1.1.1.1.1.1.1.1.0
of_every_member P h members.Reduce = h.1.1.1.1.1.1.1.1.1.1.0
of_every_member P h members.Name = h.1.1.1.1.1.1.1.1.1.1.1.0
of_every_member P h members.Parent = h.1.1.1.1.1.1.1.1.1.1.1.1.0
of_every_member P h members.Path = h.1.1.1.1.1.1.1.1.1.1.1.1.1.0
of_every_member P h members.Combine = h.1.1.1.1.1.1.1.1.1.1.1.1.1.1.0
of_every_member P h members.ChangeExtension = h.1.1.1.1.1.1.1.1.1.1.1.1.1.1.1.0
of_every_member P h members.Root = h.1.1.1.1.1.1.1.1.1.1.1.1.1.1.1.1.0
of_every_member P h members.GetFile = h.1.1.1.1.1.1.1.1.1.1.1.1.1.1.1.1.1.0
of_every_member P h members.GetContent = h.1.1.1.1.1.1.1.1.1.1.1.1.1.1.1.1.1.1.0
of_every_member P h members.GetOutputFile = h.1.1.1.1.1.1.1.1.1.1.1.1.1.1.1.1.1.1.1.0
of_every_member P h members.GetOutputDirectory = h.1.1.1.1.1.1.1.1.1.1.1.1.1.1.1.1.1.1.1.1.0

with_none : {X : Type 0} (o : Option X) (P Q : Type 0) (R : X → Type 0) → (P → Q) → MatchOption o P R → MatchOption o Q R
with_none None P Q R f h = f h
with_none (Some x) P Q R f h = h

one_before
    : (name : List ℕ) (m : Member) (ms : List Member) (o : Option Member) (b : Bool) → bytes_eq (written_name m) name ≡ b
    → MatchOption o (AllByRecursion (λ (k : Member). written_name k ≢ name) ms) (λ k. written_name k ≡ name)
    → MatchOption (cond b (Some m) o) (AllByRecursion (λ (k : Member). written_name k ≢ name) (m ∷ ms)) (λ k. written_name k ≡ name)
one_before name m ms o true e h = (bytes_eq-Decides (written_name m) name).0 e
one_before name m ms o false e h =
    with_none o _ _ (λ k. written_name k ≡ name)
    (λ rest. (λ same. false≢true (subst (λ b. b ≡ true) e ((bytes_eq-Decides (written_name m) name).1 same)), rest)) h

found_or_absent
    : (name : List ℕ) (ms : List Member)
    → MatchOption (find (λ member. bytes_eq (written_name member) name) ms)
    (AllByRecursion (λ (k : Member). written_name k ≢ name) ms) (λ k. written_name k ≡ name)
found_or_absent name [] = tt
found_or_absent name (m ∷ ms) =
    one_before name m ms (find (λ member. bytes_eq (written_name member) name) ms) (bytes_eq (written_name m) name) refl
    (found_or_absent name ms)

pub found_among_all
    : (name : List ℕ) (o : Option Member) → o ≡ find (λ member. bytes_eq (written_name member) name) every_member
    → MatchOption o ((member : Member) → written_name member ≢ name) (λ member. written_name member ≡ name)
found_among_all name o e =
    with_none o _ _ (λ k. written_name k ≡ name) (λ h. of_every_member (λ k. written_name k ≢ name) h)
    (subst (λ r. MatchOption r (AllByRecursion (λ (k : Member). written_name k ≢ name) every_member) (λ k. written_name k ≡ name))
    (sym e) (found_or_absent name every_member))
