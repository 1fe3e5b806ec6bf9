-- What is told to the end of a store that is only read.
use Rattle.std.proofs.Common.{◌≡◌, Option, Some, None, Result, Ok, Err, IfOk, refl, ap, sym, ◌∙◌, subst}
use Rattle.std.specs.Prelude.{IsSome}
use Rattle.std.proofs.lemmas.Option.{same_Some}
use Rattle.bx_io.specs.Holdings.{Holdings, Keeps, StoreTold}
use Rattle.bx_io.specs.Told.{Stays}

-- what a reader tells at its end is what the store told at first
pub reader_told : (start named before now : Option Holdings) (S : Holdings) → Stays start named → before ≡ named → Stays before now → start ≡ Some S → IsSome now → now ≡ Some S
reader_told start named before None S keeps is stays held some = absurd cc
reader_told start named before (Some T) S keeps is stays held some =
    let there : start ≡ Some T = keeps T (sym is ∙ stays T refl) in
    ap Some (same_Some T S (sym there ∙ held))

pub found_over : {X E : Type 0} (r : Result X E) (now : Option Holdings) (S : Holdings) (P : X → Holdings → Type 0) → now ≡ Some S → IfOk r (λ x. (T : Holdings) → now ≡ Some T → P x T)
    → IfOk r (λ x. P x S)
found_over (Ok x) now S P told h = h S told
found_over (Err e) now S P told h = tt

pub kept_from : (a b now : StoreTold) → a ≡ b → Keeps a now → Keeps b now
kept_from a b now is keeps = subst (λ (k : StoreTold). Keeps k now) is keeps
