-- Calls of a reader or a store, one after another.
use Rattle.std.proofs.Common.{◌≡◌, ℕ, ◌≤◌, Option, Ok, Err, refl, ◌∙◌, subst, arith}
use Rattle.bx_io.specs.Causes.{HasCause, Rose}
use Rattle.bx_io.specs.Holdings.{Holdings}
use Rattle.two_phase.specs.Calls.{KeeperCall, ReaderCall}

cause_then : (f0 f1 f2 : ℕ) (A B : Type 0) → HasCause f0 f1 A → (¬ A → f1 ≡ f0) → ¬ A → HasCause f1 f2 B → HasCause f0 f2 B
cause_then f0 f1 f2 A B first still none next =
    let same : f1 ≡ f0 = still none in
    record {
      later = subst (λ f. f ≤ f2) same next.later;
      rose = λ b. subst (λ f. Rose f f2) same (next.rose b);
    }

-- no call was made
pub reads_none : (held : Option Holdings) (bound : Option ℕ) (faults : ℕ) (A : Type 0) → ¬ A → ReaderCall held held bound bound faults faults A
reads_none held bound faults A none = record {
  held_is = λ S is. is;
  bound_is = refl;
  within = λ h. h;
  can_rise = λ h. h;
  cause = record { later = omega arith; rose = λ a. absurd (none a) };
  no_fault = λ n. refl;
}

-- the answer to a call, said in another way
pub reads_as : (h0 h1 : Option Holdings) (b0 b1 : Option ℕ) (f0 f1 : ℕ) (A B : Type 0) → (B → A) → (A → B) → ReaderCall h0 h1 b0 b1 f0 f1 A → ReaderCall h0 h1 b0 b1 f0 f1 B
reads_as h0 h1 b0 b1 f0 f1 A B from to r = record {
  held_is = r.held_is;
  bound_is = r.bound_is;
  within = r.within;
  can_rise = r.can_rise;
  cause = record { later = r.cause.later; rose = λ b. r.cause.rose (from b) };
  no_fault = λ n. r.no_fault (λ a. n (to a));
}

-- a call that did not fail, and the next one
pub reads_then : (h0 h1 h2 : Option Holdings) (b0 b1 b2 : Option ℕ) (f0 f1 f2 : ℕ) (A B : Type 0) → ¬ A → ReaderCall h0 h1 b0 b1 f0 f1 A
    → ReaderCall h1 h2 b1 b2 f1 f2 B → ReaderCall h0 h2 b0 b2 f0 f2 B
reads_then h0 h1 h2 b0 b1 b2 f0 f1 f2 A B none first next = record {
  held_is = λ S is. first.held_is S (next.held_is S is);
  bound_is = next.bound_is ∙ first.bound_is;
  within = λ h. next.within (first.within h);
  can_rise = λ h. next.can_rise (first.can_rise h);
  cause = cause_then f0 f1 f2 A B first.cause first.no_fault none next.cause;
  no_fault = λ n. next.no_fault n ∙ first.no_fault none;
}

-- a loop goes on after a call that did not fail
pub reads_on : (h0 h1 h2 : Option Holdings) (b0 b1 b2 : Option ℕ) (f0 f1 f2 : ℕ) (A : Type 0) → ¬ A → ReaderCall h0 h1 b0 b1 f0 f1 ⊥ → ReaderCall h1 h2 b1 b2 f1 f2 A
    → ReaderCall h0 h2 b0 b2 f0 f2 ⊥
reads_on h0 h1 h2 b0 b1 b2 f0 f1 f2 A none first next =
    reads_as h0 h2 b0 b2 f0 f2 A ⊥ (λ e. absurd e) none (reads_then h0 h1 h2 b0 b1 b2 f0 f1 f2 ⊥ A (λ e. e) first next)

pub ok_no_err : {X E : Type 0} (x : X) (e : E) → Ok x ≡ Err e → ⊥
ok_no_err x e h = cc

pub keeps_none : (bound : Option ℕ) (faults : ℕ) (A : Type 0) → ¬ A → KeeperCall bound bound faults faults A
keeps_none bound faults A none = record {
  bound_is = refl;
  can_rise = λ h. h;
  fault_can_rise = λ a. absurd (none a);
  cause = record { later = omega arith; rose = λ a. absurd (none a) };
  no_fault = λ n. refl;
}

pub keeps_as : (b0 b1 : Option ℕ) (f0 f1 : ℕ) (A B : Type 0) → (B → A) → (A → B) → KeeperCall b0 b1 f0 f1 A → KeeperCall b0 b1 f0 f1 B
keeps_as b0 b1 f0 f1 A B from to r = record {
  bound_is = r.bound_is;
  can_rise = r.can_rise;
  fault_can_rise = λ b. r.fault_can_rise (from b);
  cause = record { later = r.cause.later; rose = λ b. r.cause.rose (from b) };
  no_fault = λ n. r.no_fault (λ a. n (to a));
}

pub keeps_then : (b0 b1 b2 : Option ℕ) (f0 f1 f2 : ℕ) (A B : Type 0) → ¬ A → KeeperCall b0 b1 f0 f1 A → KeeperCall b1 b2 f1 f2 B → KeeperCall b0 b2 f0 f2 B
keeps_then b0 b1 b2 f0 f1 f2 A B none first next = record {
  bound_is = next.bound_is ∙ first.bound_is;
  can_rise = λ h. next.can_rise (first.can_rise h);
  fault_can_rise = next.fault_can_rise;
  cause = cause_then f0 f1 f2 A B first.cause first.no_fault none next.cause;
  no_fault = λ n. next.no_fault n ∙ first.no_fault none;
}

pub keeps_on : (b0 b1 b2 : Option ℕ) (f0 f1 f2 : ℕ) (A : Type 0) → ¬ A → KeeperCall b0 b1 f0 f1 ⊥ → KeeperCall b1 b2 f1 f2 A → KeeperCall b0 b2 f0 f2 ⊥
keeps_on b0 b1 b2 f0 f1 f2 A none first next =
    keeps_as b0 b2 f0 f2 A ⊥ (λ e. absurd e) none (keeps_then b0 b1 b2 f0 f1 f2 ⊥ A (λ e. e) first next)
