-- The locals that were added last.
use Rattle.std.proofs.Common.{◌≡◌, ℕ, ◌==◌, Option, Some, None, cond, ap, sym, ◌∙◌}
use Rattle.std.specs.declared.alloc.Global.{Global}
use Rattle.std.specs.declared.rc.Rc.{Rc}
use Rattle.dscript_types_known.specs.Matching.{FoundLocal}
use Rattle.dscript_types_known.specs.Views.{found_local, in_recent, recent_over, recent_step}
use Rattle.dscript_types_known.specs.declared.locals.Recent.{Recent}
use Rattle.dscript_types_known.specs.declared.locals.Recent.TheFolds.{fold-roll-Recent}
use Rattle.dscript_types_known.specs.declared.locals.Recent.TheViews.{roll-Recent}
use Rattle.dscript_types_known.specs.declared.locals.Local.{Local}

abbrev Lookup : Type 0
Lookup = ℕ → Option FoundLocal → Option FoundLocal

-- one that is made
rolled_entry
    : (added : ℕ) (local : Local) (older : Option (Rc Recent Global)) (number : ℕ) (other : Option FoundLocal)
    → in_recent (roll-Recent (record { number = added; local = local; older = older })) number other
    ≡ cond (number == added) (Some (found_local local)) (recent_over older number other)
rolled_entry added local None number other =
    ap (λ (f : Lookup). f number other)
    (fold-roll-Recent Lookup recent_step (record { number = added; local = local; older = None }))
rolled_entry added local (Some o) number other =
    ap (λ (f : Lookup). f number other)
    (fold-roll-Recent Lookup recent_step (record { number = added; local = local; older = Some o }))

-- over others that are the same
pub added_entry
    : (r : Recent) (added : ℕ) (local : Local) (older before : Option (Rc Recent Global)) (number : ℕ) (other was : Option FoundLocal)
    → r ≡ roll-Recent (record { number = added; local = local; older = older })
    → ((k : ℕ) (o : Option FoundLocal) → recent_over older k o ≡ recent_over before k o) → other ≡ was
    → in_recent r number other ≡ cond (number == added) (Some (found_local local)) (recent_over before number was)
added_entry r added local older before number other was made same e =
    ap (λ (x : Recent). in_recent x number other) made ∙ rolled_entry added local older number other
    ∙ ap (λ (o : Option FoundLocal). cond (number == added) (Some (found_local local)) o)
    (same number other ∙ ap (λ (o : Option FoundLocal). recent_over before number o) e)
