-- What comes to the same where asks of the source tree are answered alike.
use Rattle.std.proofs.Common.{◌≡◌, ℕ, ◌-◌, Bool, true, false, cond, List, [], ◌∷◌, ◌++◌, Result, Ok, Err, refl, sym, ap, subst, ◌∙◌, append_assoc}
use Rattle.std.specs.Prelude.{nat_le}
use Rattle.std.proofs.lemmas.List.{append-nil}
use Rattle.dscript_value.specs.Plain.{Plain}
use Rattle.dscript_sdk_calls.specs.Sources.{AgreeOn, Answers}
use Rattle.dscript_sdk_calls.specs.declared.tree_ask.TreeAsk.{TreeAsk}
use Rattle.dscript_sdk_values.specs.Outcomes.{Outcome}
use Rattle.dscript_sdk_pips.specs.States.{State as Calls}
use Rattle.dscript_eval_laws.proofs.HeardCalls.{CallsHeard, Gave, answering, one_given}
use Rattle.dscript_eval_meaning.specs.declared.fault.EvalKind.{EvalKind}
use Rattle.dscript_eval_meaning.specs.declared.fault.EvalKind.TheVariants as kinds
use Rattle.dscript_eval_meaning.specs.Calls.{with_calls}
use Rattle.dscript_eval_meaning.specs.Evaluating.{Gives, Stop, answered, fails, followed, gives}
use Rattle.dscript_eval_meaning.specs.Evaluating.{spend, stop_of, ◌>>=◌, ◌>>◌}
use Rattle.dscript_eval_meaning.specs.Frames.{within}
use Rattle.dscript_eval_meaning.specs.States.{Frame, State}

-- the state where these answer from now on
abbrev pub with_answers : Answers → State → State
with_answers b s = record s { calls = answering b s.calls }

abbrev pub over : {A : Type 0} → Answers → Result (A × State) Stop → Result (A × State) Stop
over b (Ok r) = Ok (r.0, with_answers b r.1)
over b (Err stop) = Err stop

-- What came of a state asked these last, and comes of it wherever these are answered alike.
pub record Hears (A : Type 0) (m : Gives A) (s : State) (x : A) (t : State) : Type 0 where
  pub later : List TreeAsk
  pub asks : t.calls.asks ≡ s.calls.asks ++ later
  pub answers : t.calls.answers ≡ s.calls.answers
  pub same : (b : Answers) → AgreeOn s.calls.answers b later → m (with_answers b s) ≡ Ok (x, with_answers b t)

pub record Runs (A : Type 0) (m : Gives A) (s : State) : Type 0 where
  pub hears : (x : A) (t : State) → m s ≡ Ok (x, t) → Hears A m s x t

abbrev pub Heard : (A : Type 0) → Gives A → Type 0
Heard A m = (s : State) → Runs A m s

-- ## What leaves calls alone

-- what is given leaves the state of calls as it was
abbrev pub LeavesCalls : {A : Type 0} → State → Result (A × State) Stop → Type 0
LeavesCalls s (Ok r) = r.1.calls ≡ s.calls
LeavesCalls s (Err stop) = Unit {0}

quiet : (A : Type 0) (m : Gives A) (s : State) (x : A) (t : State) → t.calls ≡ s.calls
    → ((b : Answers) → m (with_answers b s) ≡ Ok (x, with_answers b t)) → Hears A m s x t
quiet A m s x t calls is = record {
  later = [];
  asks = ap (λ (c : Calls). c.asks) calls ∙ sym (append-nil s.calls.asks);
  answers = ap (λ (c : Calls). c.answers) calls;
  same = λ b agree. is b;
}

pub free
    : (A : Type 0) (m : Gives A) (s : State) (outcome : Result (A × State) Stop) → LeavesCalls s outcome
    → ((b : Answers) → m (with_answers b s) ≡ over b outcome) → Runs A m s
free A m s (Err stop) leaves is = record {
  hears = λ x t e. let clash : Err stop ≡ Ok (x, t) = sym (is s.calls.answers) ∙ e in absurd cc;
}
free A m s (Ok r) leaves is = record {
  hears = λ x t e.
      let own : with_answers s.calls.answers r.1 ≡ r.1 = ap (λ (c : Calls). with_own r.1 c) (sym leaves) in
      let now : Gave (A × State) Stop (r.0, r.1) ≡ Gave (A × State) Stop (x, t) =
      ap (λ (u : State). Gave (A × State) Stop (r.0, u)) (sym own) ∙ sym (is s.calls.answers) ∙ e in
      let both : (r.0, r.1) ≡ (x, t) = one_given (A × State) Stop (r.0, r.1) (x, t) now in
      let value : r.0 ≡ x = ap (λ (y : A × State). y.0) both in
      let state : r.1 ≡ t = ap (λ (y : A × State). y.1) both in
      subst (λ u. Hears A m s x u) state (subst (λ v. Hears A m s v r.1) value (quiet A m s r.0 r.1 leaves is));
}
  where
    with_own : State → Calls → State
    with_own u c = record u { calls = record u.calls { answers = c.answers } }

-- another way to write it
pub same_runs
    : (A : Type 0) (m m' : Gives A) (s s' : State) → s'.calls ≡ s.calls
    → ((b : Answers) → m' (with_answers b s') ≡ m (with_answers b s)) → Runs A m s → Runs A m' s'
same_runs A m m' s s' calls is r = record {
  hears = λ x t e.
      let own : with_answers s'.calls.answers s ≡ s =
      ap (λ (c : Calls). record s { calls = record s.calls { answers = c.answers } }) calls in
      let h = r.hears x t (ap m (sym own) ∙ sym (is s'.calls.answers) ∙ e) in
      record {
        later = h.later;
        asks = h.asks ∙ ap (λ (c : Calls). c.asks ++ h.later) (sym calls);
        answers = h.answers ∙ ap (λ (c : Calls). c.answers) (sym calls);
        same = λ b agree. is b ∙ h.same b (subst (λ (c : Calls). AgreeOn c.answers b h.later) calls agree);
      };
}

spending : (k : ℕ) (s : State) (b : Bool) → nat_le k s.left ≡ b → Runs (Unit {0}) (spend k) s
spending k s true e =
    free (Unit {0}) (spend k) s (Ok (tt, record s { left = s.left - k })) refl
    (λ b. ap (λ t. cond t (Ok (tt, record (with_answers b s) { left = s.left - k })) (fails {A = Unit {0}} kinds.Budget (with_answers b s))) e)
spending k s false e =
    free (Unit {0}) (spend k) s (fails kinds.Budget s) tt
    (λ b. ap (λ t. cond t (Ok (tt, record (with_answers b s) { left = s.left - k })) (fails {A = Unit {0}} kinds.Budget (with_answers b s))) e)

pub spent : (k : ℕ) → Heard (Unit {0}) (spend k)
spent k s = spending k s (nat_le k s.left) refl

-- ## One after another

agree_first : (a b : Answers) (xs ys : List TreeAsk) → AgreeOn a b (xs ++ ys) → AgreeOn a b xs
agree_first a b [] ys h = tt
agree_first a b (x ∷ xs) ys h = (h.0, agree_first a b xs ys h.1)

agree_rest : (a b : Answers) (xs ys : List TreeAsk) → AgreeOn a b (xs ++ ys) → AgreeOn a b ys
agree_rest a b [] ys h = h
agree_rest a b (x ∷ xs) ys h = agree_rest a b xs ys h.1

after_other
    : (A B : Type 0) (m : Gives A) (f : A → Gives B) (s u t : State) (x : A) (y : B) → Hears A m s x u
    → Hears B (f x) u y t → Hears B (m >>= f) s y t
after_other A B m f s u t x y first next = record {
  later = first.later ++ next.later;
  asks =
      next.asks ∙ ap (λ xs. xs ++ next.later) first.asks
      ∙ append_assoc s.calls.asks first.later next.later;
  answers = next.answers ∙ first.answers;
  same = λ b agree.
      ap (λ r. followed r f) (first.same b (agree_first s.calls.answers b first.later next.later agree))
      ∙ next.same b (subst (λ a. AgreeOn a b next.later) (sym first.answers)
      (agree_rest s.calls.answers b first.later next.later agree));
}

bound_at
    : (A B : Type 0) (m : Gives A) (f : A → Gives B) (s : State) → Runs A m s → ((x : A) → Heard B (f x))
    → (r : Result (A × State) Stop) → m s ≡ r → (y : B) (t : State) → followed r f ≡ Ok (y, t)
    → Hears B (m >>= f) s y t
bound_at A B m f s first next (Ok r) is y t e =
    after_other A B m f s r.1 t r.0 y (first.hears r.0 r.1 is) ((next r.0 r.1).hears y t e)
bound_at A B m f s first next (Err stop) is y t e = absurd cc

-- one thing, and then another with its value
pub bound
    : (A B : Type 0) (m : Gives A) (f : A → Gives B) → Heard A m → ((x : A) → Heard B (f x)) → Heard B (m >>= f)
bound A B m f first next s = record { hears = λ y t e. bound_at A B m f s (first s) next (m s) refl y t e }

pub both : (A B : Type 0) (m : Gives A) (m' : Gives B) → Heard A m → Heard B m' → Heard B (m >> m')
both A B m m' first next = bound A B m (λ x. m') first (λ x. next)

pub given : (A : Type 0) (x : A) → Heard A (gives x)
given A x s = free A (gives x) s (Ok (x, s)) refl (λ b. refl)

pub failed : (A : Type 0) (kind : EvalKind) → Unit {0} → Heard A (fails kind)
failed A k any s = free A (fails k) s (fails k s) tt (λ b. refl)

pub answer : (A : Type 0) (o : Outcome A) → Heard A (answered o)
answer A (Ok x) s = free A (answered (Ok x)) s (Ok (x, s)) refl (λ b. refl)
answer A (Err fault) s = free A (answered (Err fault)) s (Err (stop_of fault s.frame.file)) tt (λ b. refl)

-- what changes the state of calls
changed_at
    : (m : Gives Plain) (s : State) (f : Calls → Outcome (Plain × Calls)) → CallsHeard f
    → ((b : Answers) → m (with_answers b s) ≡ with_calls (with_answers b s) (f (answering b s.calls)))
    → (o : Outcome (Plain × Calls)) → f s.calls ≡ o → (x : Plain) (t : State) → with_calls s o ≡ Ok (x, t)
    → Hears Plain m s x t
changed_at m s f heard is (Err fault) now x t e = absurd cc
changed_at m s f heard is (Ok r) now x t e =
    let h = heard s.calls r.0 r.1 now in
    let both : (r.0, record s { calls = r.1 }) ≡ (x, t) = one_given (Plain × State) Stop (r.0, record s { calls = r.1 }) (x, t) e in
    let value : r.0 ≡ x = ap (λ (y : Plain × State). y.0) both in
    let state : record s { calls = r.1 } ≡ t = ap (λ (y : Plain × State). y.1) both in
    subst (λ u. Hears Plain m s x u) state (subst (λ v. Hears Plain m s v (record s { calls = r.1 })) value (record {
      later = h.later;
      asks = h.asks;
      answers = h.answers;
      same = λ b agree. is b ∙ ap (with_calls (with_answers b s)) (h.same b agree);
    }))

pub changed
    : (m : Gives Plain) (s : State) (f : Calls → Outcome (Plain × Calls)) → CallsHeard f
    → ((b : Answers) → m (with_answers b s) ≡ with_calls (with_answers b s) (f (answering b s.calls))) → Runs Plain m s
changed m s f heard is = record {
  hears = λ x t e. changed_at m s f heard is (f s.calls) refl x t (sym (is s.calls.answers) ∙ e);
}

-- ## Frames

abbrev pub entering : {A : Type 0} → Frame → Gives A → Gives A
entering frame body s = body (record s { frame = frame })

abbrev pub leaving : {A : Type 0} → Frame → A → Gives A
leaving old x s = Ok (x, record s { frame = old })

pub inside : (A : Type 0) (frame : Frame) (body : Gives A) → Heard A body → Heard A (within frame body)
inside A frame body said s =
    same_runs A (entering frame body >>= leaving s.frame) (within frame body) s s refl (λ b. refl)
    (bound A A (entering frame body) (leaving s.frame)
    (λ t. same_runs A body (entering frame body) (record t { frame = frame }) t refl (λ b. refl)
    (said (record t { frame = frame })))
    (λ x t. free A (leaving s.frame x) t (Ok (x, record t { frame = s.frame })) refl (λ b. refl)) s)
