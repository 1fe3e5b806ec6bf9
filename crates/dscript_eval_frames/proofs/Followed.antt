-- One thing after another.
use Rattle.std.proofs.Common.{◌≡◌, Result, Ok, Err, refl}
use Rattle.dscript_eval_meaning.specs.Evaluating.{Gives, Stop, followed}
use Rattle.dscript_eval_meaning.specs.States.{State}

pub followed-followed
    : {A B C : Type 0} (r : Result (A × State) Stop) (f : A → Gives B) (g : B → Gives C)
    → followed (followed r f) g ≡ followed r (λ x s. followed (f x s) g)
followed-followed (Ok r) f g = refl
followed-followed (Err stop) f g = refl

pub followed-same
    : {A B : Type 0} (r : Result (A × State) Stop) (f g : A → Gives B) → ((x : A) (s : State) → f x s ≡ g x s)
    → followed r f ≡ followed r g
followed-same (Ok r) f g same = same r.0 r.1
followed-same (Err stop) f g same = refl

pub followed-end : {A : Type 0} (r : Result (A × State) Stop) → followed r (λ x s. Ok (x, s)) ≡ r
followed-end (Ok r) = refl
followed-end (Err stop) = refl
