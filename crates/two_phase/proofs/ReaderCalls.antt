-- Calls of a reader, one after another.
use Rattle.std.proofs.Common.{◌≡◌, ℕ, ◌+◌, ◌-◌, ◌^◌, ◌<◌, ◌≤◌, min, Option, Some, None, refl, sym, ◌∙◌, subst, inl, inr, arith}
use Rattle.std.specs.Prelude.{IsSome}
use Rattle.std.proofs.lemmas.Bool.{cases_lt}
use Rattle.bx_io.specs.Causes.{CanRise, HasCause, IsWithin, Rose}
use Rattle.bx_io.specs.Holdings.{Holdings}
use Rattle.two_phase.specs.Calls.{ReaderCall}
use Rattle.two_phase.specs.Reading.{ReaderData, ReadsIfAny, ReadsOn}

-- ## One call

pub reads_nothing : (r : ReaderData) → ReadsOn r r 0
reads_nothing r = record {
  held_is = λ S e. e;
  bound_is = refl;
  within = λ w. w;
  can_rise = λ c. c;
  cause = record { later = omega arith; rose = λ l. absurd (omega (arith, l)) };
  no_fault = λ e. refl;
  rose = λ c s. omega arith;
}

module _ (before now : ReaderData) (fault : Type 0) (call : ReaderCall before.held now.held before.bound now.bound before.faults now.faults fault) where
  -- a call that answers a fault counts one
  pub reads_fault : fault → ReadsOn before now 1
  reads_fault f = record {
    held_is = call.held_is;
    bound_is = call.bound_is;
    within = call.within;
    can_rise = call.can_rise;
    cause = record { later = call.cause.later; rose = λ l. call.cause.rose f };
    no_fault = λ e. absurd (omega (arith, e));
    rose = λ c s. omega (arith, c s, call.cause.rose f);
  }

  -- any other counts none
  pub reads_well : (fault → ⊥) → ReadsOn before now 0
  reads_well none = record {
    held_is = call.held_is;
    bound_is = call.bound_is;
    within = call.within;
    can_rise = call.can_rise;
    cause = record { later = call.cause.later; rose = λ l. absurd (omega (arith, l)) };
    no_fault = λ e. call.no_fault none;
    rose = λ c s. omega (arith, call.cause.later);
  }

-- ## Several calls

rose_after : (a b c : ℕ) → Rose a b → b ≤ c → Rose a c
rose_after a b c rose l = omega (arith, rose, l)

rose_later : (a b c : ℕ) → a ≤ b → Rose b c → Rose a c
rose_later a b c l rose = omega (arith, rose, l)

pub reads_more : (a b c : ReaderData) (m n : ℕ) → ReadsOn a b m → ReadsOn b c n → ReadsOn a c (m + n)
reads_more a b c m n first second = record {
  held_is = λ S e. first.held_is S (second.held_is S e);
  bound_is = second.bound_is ∙ first.bound_is;
  within = λ w. second.within (first.within w);
  can_rise = λ r. second.can_rise (first.can_rise r);
  cause = record {
    later = omega (arith, first.cause.later, second.cause.later);
    rose = λ l. elim (cases_lt 0 m) [
      | inl here ↦ rose_after a.faults b.faults c.faults (first.cause.rose here) second.cause.later
      | inr there ↦ rose_later a.faults b.faults c.faults first.cause.later (second.cause.rose (omega (arith, l, there)))
    ];
  };
  no_fault = λ e. second.no_fault (omega (arith, e)) ∙ first.no_fault (omega (arith, e));
  rose = λ r s. omega (arith, first.rose r s, second.rose (first.can_rise r) (subst IsSome (sym first.bound_is) s));
}

-- ## A reader that may be there

pub none_read : (r : Option ReaderData) → ReadsIfAny r r 0
none_read None = refl
none_read (Some r) = reads_nothing r

pub more_read : (a b c : Option ReaderData) (m n : ℕ) → ReadsIfAny a b m → ReadsIfAny b c n → ReadsIfAny a c (m + n)
more_read None None None m n first second = omega (arith, first, second)
more_read None None (Some c) m n first second = absurd second
more_read None (Some b) c m n first second = absurd first
more_read (Some a) None c m n first second = absurd first
more_read (Some a) (Some b) None m n first second = absurd second
more_read (Some a) (Some b) (Some c) m n first second = reads_more a b c m n first second
