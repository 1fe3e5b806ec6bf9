-- What is found of a declaration by its name.
use Rattle.std.proofs.Common.{◌≡◌, ℕ, ◌<◌, ◌≤◌, max, [], Option, Some, None, refl, ap, sym, ◌∙◌, inl, inr, subst, arith}
use Rattle.std.proofs.lemmas.Bool.{cases_lt}
use Rattle.std.proofs.Math.Nat.{le-max_left, le-max_right}
use Rattle.std.specs.Option.{option_and_then}
use Rattle.dscript_program.specs.ProgramData.{Dotted}
use Rattle.dscript_types_known.specs.Findings.{Finding, Found, Nothing, Open, Tells}
use Rattle.dscript_types_known.specs.Tables.{IsClosed, IsClosedTo, entry}
use Rattle.dscript_types_meaning.specs.Annotations.{named_type}
use Rattle.dscript_types_meaning.specs.Contexts.{Context, Known, Meaning}
use Rattle.dscript_types_meaning.specs.Sizes.{within_limit}
use Rattle.dscript_types_meaning.specs.Types.{TypeData}
use Rattle.dscript_types_meaning.specs.Typed.{known_within}
use Rattle.dscript_types_notes.specs.Means.{IsAt, IsFrom, IsSound, SaysFrom, found_if, limited_data, program_of, raised}
use Rattle.dscript_types_notes.specs.declared.world.Place.{Place}
use Rattle.dscript_types_notes.specs.declared.world.World.{World}
use Rattle.dscript_types_notes.proofs.Going.{under_both}
use Rattle.dscript_types_notes.proofs.Naming.{IsTypeAt, asks_meaning}

-- from the greater of two ranks on
raised_if
    : {X : Type 0} (closed : Type 0) (n rank from : ℕ) (o answer : Option X) → rank ≤ n
    → (from ≤ n → answer ≡ o) → (n < from → answer ≡ None) → Tells closed n (raised rank (found_if o from)) answer
raised_if closed n rank from None answer over here before = elim (cases_lt n from) [
  | inl less ↦ before less
  | inr more_or ↦ here more_or
]
raised_if closed n rank from (Some x) answer over here before = (
  λ l. here (omega (arith, le-max_right rank from)),
  λ l. before (under_both rank from n over l),
)

-- a type that is too large is none
pub limited_tells
    : (closed : Type 0) (n rank : ℕ) (f : Finding TypeData) (answer : Option TypeData) → rank ≤ n → Tells closed n f answer
    → Tells closed n (raised rank (limited_data f)) (option_and_then within_limit answer)
limited_tells closed n rank (Found t from) answer over tells =
    raised_if closed n rank from (within_limit t) (option_and_then within_limit answer) over
    (λ l. ap (option_and_then within_limit) (tells.0 l)) (λ l. ap (option_and_then within_limit) (tells.1 l))
limited_tells closed n rank Nothing answer over tells = ap (option_and_then within_limit) tells
limited_tells closed n rank Open answer over tells = λ h. ap (option_and_then within_limit) (tells h)

-- where less is assumed
pub tells_under
    : {X : Type 0} (more less : Type 0) (n : ℕ) (f : Finding X) (answer : Option X) → (more → less) → Tells less n f answer
    → Tells more n f answer
tells_under more less n (Found x rank) answer h tells = tells
tells_under more less n Nothing answer h tells = tells
tells_under more less n Open answer h tells = λ m. tells (h m)

raised_from : (rank : ℕ) (f : Finding TypeData) → IsFrom rank (raised rank f)
raised_from rank (Found t from) = le-max_left rank from
raised_from rank Nothing = tt
raised_from rank Open = tt

-- what is in the table of a declared type is what its name means
pub declared_says
    : (w : World) (place : Place) (rank file decl : ℕ) (names : Dotted) → IsSound w → IsTypeAt (program_of w) (file, decl)
    → ((known : Known) (c : Context) → IsAt place c → named_type (program_of w) known c names [] ≡ known (Meaning file decl))
    → SaysFrom w place rank (raised rank (limited_data (entry w.table.now file decl)))
    (λ p known c. option_and_then within_limit (named_type p known c names []))
declared_says w place rank file decl names sound is means =
    let p = program_of w in (
      raised_from rank (limited_data (entry w.table.now file decl)),
      λ n more c over below within at.
          limited_tells (IsClosedTo p w.table.now more) n rank (entry w.table.now file decl) _ over
          (tells_under (IsClosedTo p w.table.now more) (IsClosed p w.table.now n) n (entry w.table.now file decl) _
          (λ closed. closed n below)
          (subst (λ (o : Option TypeData). Tells (IsClosed p w.table.now n) n (entry w.table.now file decl) o)
          (ap (known_within p n) (asks_meaning file decl is.decl.kind is.is) ∙ sym (means (known_within p n) c at))
          (sound.right n file decl is.decl (omega (arith, sound.within)) is.at))),
    )

raised_found : {X : Type 0} (rank from : ℕ) (o : Option X) → found_if o (max rank from) ≡ raised rank (found_if o from)
raised_found rank from None = refl
raised_found rank from (Some x) = refl

-- what is in the table, limited
pub limited_entry
    : (rank from : ℕ) (t : TypeData) (f entry : Finding TypeData) → Found t from ≡ entry
    → f ≡ found_if (within_limit t) (max rank from) → f ≡ raised rank (limited_data entry)
limited_entry rank from t f entry is limited =
    limited ∙ raised_found rank from (within_limit t) ∙ ap (λ (g : Finding TypeData). raised rank (limited_data g)) is
