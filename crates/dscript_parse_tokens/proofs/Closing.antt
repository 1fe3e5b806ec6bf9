-- A list that is read, and the punctuator that closes it.
use Rattle.std.proofs.Common.{◌≡◌, ℕ, ◌+◌, ◌<◌, ◌≤◌, List, length, map, codes, Option, Some, None, Result, Ok, Err, MatchResult, ap, sym, ◌∙◌, subst, arith, rules}
use Rattle.std.specs.declared.alloc.Global.{Global}
use Rattle.std.specs.declared.vec.Vec.{Vec}
use Rattle.dscript_lex.specs.declared.token.TokenKind.{TokenKind}
use Rattle.dscript_grammar.specs.Reading.{Read, got, and_then, take_punctuator_bytes}
use Rattle.dscript_parse_tokens.specs.Enclosed.{Spelling}
use Rattle.dscript_parse_tokens.specs.Gives.{kinds, Gives}
use Rattle.dscript_parse_tokens.specs.declared.parsed.Parsed.{Parsed}
use Rattle.dscript_parse_tokens.specs.declared.parsed.Refusal.{Refusal}
use Rattle.dscript_parse_tokens.specs.declared.parsed.Refusal.TheVariants as refusals
use Rattle.dscript_parse_tokens.proofs.Loops.{then_some, then_none}

-- what `closed` ensures
abbrev pub Closes : {S : Type 0} → Vec S Global → ℕ → List ℕ → List TokenKind → Result (Parsed (Vec S Global)) Refusal → Type 0
Closes values height close ts result =
    MatchResult result
    (λ p. (p.value ≡ values) × (p.height ≡ height) × (take_punctuator_bytes close ts ≡ Some (kinds p.rest.now)) × (length (kinds p.rest.now) < length ts))
    (λ fault. (fault ≡ refusals.Syntax) × (take_punctuator_bytes close ts ≡ None))

module _ {S X : Type 0} (view : S → X) (closer : Spelling) where
  finish : Read (List X) → Option (Read (List X))
  finish xs = and_then (take_punctuator_bytes (codes closer) xs.rest) (λ r. got xs.value xs.height r)

  pub closed_gives : {read : Option (Read (List X))} (values : Vec S Global) {height limit bound : ℕ} {close : List ℕ} {rest : List TokenKind} (result : Result (Parsed (Vec S Global)) Refusal)
      → read ≡ got (map view values.items) height rest → close ≡ codes closer → height ≤ limit → length rest ≤ bound → Closes values height close rest result
      → Gives (λ v. map view v.items) (and_then read (λ xs. and_then (take_punctuator_bytes (codes closer) xs.rest) (λ r. got xs.value xs.height r))) limit bound result
  closed_gives values {height = height} {limit = limit} {bound = bound} {close = close} {rest = rest} (Ok p) is e within short met = record {
    is = then_some _ is ∙ then_some _ (ap (λ s. take_punctuator_bytes s rest) (sym e) ∙ met.2)
        ∙ ap (λ v. got (map view v.items) height (kinds p.rest.now)) (sym met.0) ∙ ap (λ n. got (map view p.value.items) n (kinds p.rest.now)) (sym met.1);
    within = omega (arith, met.1, within);
    shorter = omega (arith, met.3, short);
  }
  closed_gives values {rest = rest} (Err refusals.Syntax) is e within short met = then_some _ is ∙ then_none _ (ap (λ s. take_punctuator_bytes s rest) (sym e) ∙ met.1)
  closed_gives values (Err refusals.Memory) is e within short met = tt
