-- What comes to one outcome, unless the first stops for a reason that excuses it.
use Rattle.std.proofs.Common.{◌≡◌, Bool, true, false, cond, Result, Ok, Err, refl, ap, ◌∙◌}
use Rattle.dscript_eval_meaning.specs.Evaluating.{Gives, Stop, followed, ◌>>=◌, ◌>>◌}
use Rattle.dscript_eval_meaning.specs.Frames.{within}
use Rattle.dscript_eval_meaning.specs.States.{Frame, State}
use Rattle.dscript_eval_meaning.proofs.Counted.{entering, leaving}

module _ (E : Stop → Type 0) where
  abbrev pub IsExcused : (A : Type 0) → Result (A × State) Stop → Type 0
  IsExcused A (Ok r) = ⊥
  IsExcused A (Err stop) = E stop

  abbrev pub Alike : (A : Type 0) → Gives A → Gives A → Type 0
  Alike A m m' = (s : State) → (IsExcused A (m s) → ⊥) → m' s ≡ m s

  pub same : (A : Type 0) (m : Gives A) → Alike A m m
  same A m s other = refl

  still_excused
      : (A B : Type 0) (f : A → Gives B) (r : Result (A × State) Stop) → IsExcused A r
      → IsExcused B (followed r f)
  still_excused A B f (Ok r) h = absurd h
  still_excused A B f (Err stop) h = h

  followed_alike
      : (A B : Type 0) (f f' : A → Gives B) → ((x : A) → Alike B (f x) (f' x)) → (r : Result (A × State) Stop)
      → (IsExcused B (followed r f) → ⊥) → followed r f' ≡ followed r f
  followed_alike A B f f' next (Ok r) other = next r.0 r.1 other
  followed_alike A B f f' next (Err stop) other = refl

  pub bound
      : (A B : Type 0) (m m' : Gives A) (f f' : A → Gives B) → Alike A m m' → ((x : A) → Alike B (f x) (f' x))
      → Alike B (m >>= f) (m' >>= f')
  bound A B m m' f f' first next s other =
      ap (λ r. followed r f') (first s (λ h. other (still_excused A B f (m s) h)))
      ∙ followed_alike A B f f' next (m s) other

  pub both
      : (A B : Type 0) (m m' : Gives A) (n n' : Gives B) → Alike A m m' → Alike B n n'
      → Alike B (m >> n) (m' >> n')
  both A B m m' n n' first next = bound A B m m' (λ x. n) (λ x. n') first (λ x. next)

  pub choice
      : (A : Type 0) (b : Bool) (m m' n n' : Gives A) → Alike A m m' → Alike A n n'
      → Alike A (cond b m n) (cond b m' n')
  choice A true m m' n n' one other = one
  choice A false m m' n n' one other = other

  pub inside
      : (A : Type 0) (frame : Frame) (m m' : Gives A) → Alike A m m'
      → Alike A (within frame m) (within frame m')
  inside A frame m m' alike s =
      bound A A (entering frame m) (entering frame m') (leaving s.frame) (leaving s.frame)
      (λ t. alike (record t { frame = frame })) (λ x. same A (leaving s.frame x)) s
