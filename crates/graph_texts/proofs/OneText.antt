-- One text is written of one value.
use Rattle.std.proofs.Common.{◌≡◌, ℕ, List, [], sym, ap, ◌∙◌}
use Rattle.std.proofs.lemmas.Option.{same_Some}
use Rattle.prints.specs.Combining.{whole_again}
use Rattle.prints.specs.Forms.{IsForm}
use Rattle.prints.specs.Reading.{Taken, whole_of}

pub one_value : {X : Type 0} {G : X → Type 0} {F : List ℕ → Type 0} {w : X → List ℕ} {r : List ℕ → Taken X}
    → IsForm G F w r → F [] → (x y : X) → G x → G y → w x ≡ w y → x ≡ y
one_value {r = r} form none x y g h e =
    same_Some x y (sym (whole_again form none x g) ∙ ap (whole_of r) e ∙ whole_again form none y h)
