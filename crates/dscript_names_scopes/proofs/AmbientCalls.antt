-- Ambient calls are found by their written names, of which no two are equal.
use Rattle.std.proofs.Common.{◌≡◌, ℕ, Bool, false, List, [], ◌∷◌, Some, None, cond, refl, ap, ◌∙◌, subst}
use Rattle.std.specs.List.{find}
use Rattle.std.specs.Str.{bytes_eq}
use Rattle.bx_tree.proofs.Lists.{texts_differ}
use Rattle.dscript_program.specs.Ambient.{written_name}
use Rattle.dscript_program.specs.declared.ambient.Ambient.{Ambient}
use Rattle.dscript_program.specs.declared.ambient.Ambient.TheVariants as calls
use Rattle.dscript_program.specs.declared.ambient.TheConstants.{AMBIENT_CALLS}

abbrev is_written : List ℕ → Ambient → Bool
is_written text call = bytes_eq (written_name call) text

found_own : (call : Ambient) → find (is_written (written_name call)) AMBIENT_CALLS ≡ Some call
unfolding written_name
found_own calls.WriteAllText = refl
found_own calls.WriteAllLines = refl
found_own calls.CopyFile = refl
found_own calls.SealDirectory = refl
found_own calls.SealPartialDirectory = refl
found_own calls.SealSourceDirectory = refl
found_own calls.Execute = refl
found_own calls.CmdArgument = refl
found_own calls.CmdOption = refl
found_own calls.CmdFlag = refl
found_own calls.ArtifactInput = refl
found_own calls.ArtifactOutput = refl
found_own calls.ArtifactNone = refl
found_own calls.NewOutputDirectory = refl
found_own calls.Fail = refl
found_own calls.Assert = refl
found_own calls.Requires = refl
found_own calls.Glob = refl
found_own calls.GlobRecursive = refl

pub find_named : (call : Ambient) (text : List ℕ) → written_name call ≡ text
    → find (λ c. bytes_eq (written_name c) text) AMBIENT_CALLS ≡ Some call
find_named call text e = subst (λ t. find (is_written t) AMBIENT_CALLS ≡ Some call) e (found_own call)

find_none : {X : Type 0} (p : X → Bool) (xs : List X) → ((x : X) → p x ≡ false) → find p xs ≡ None
find_none p [] h = refl
find_none p (x ∷ xs) h = ap (λ b. cond b (Some x) (find p xs)) (h x) ∙ find_none p xs h

pub find_no_named : (text : List ℕ) → ((call : Ambient) → written_name call ≡ text → ⊥)
    → find (λ c. bytes_eq (written_name c) text) AMBIENT_CALLS ≡ None
find_no_named text h = find_none (is_written text) AMBIENT_CALLS (λ call. texts_differ (written_name call) text (h call))
