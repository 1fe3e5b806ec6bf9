-- The processes that a build over a store runs, each with a reason.
use Rattle.std.specs.Prelude.{◌≡◌, ℕ, ◌+◌, List, [], ◌∷◌, ◌++◌, Option, Some, None, is_some, ⊤}
use Rattle.bx_tree.specs.Trees.{Files}
use Rattle.bx_io.specs.Holdings.{Holdings}
use Rattle.pip_model_types.specs.declared.desc.Desc.{Desc}
use Rattle.pip_model_types.specs.declared.pip.Pip.{Pip}
use Rattle.pip_model_types.specs.declared.pip.PipKind.{PipKind}
use Rattle.pip_model_types.specs.declared.pip.PipKind.TheVariants.{Process, Copy, Write, Seal}
use Rattle.observed.specs.declared.ask.Ask.{Ask}
use Rattle.observed.specs.declared.access.Answer.{Answer}
use Rattle.one_thread.specs.OneThread.{Result}
use Rattle.retire_compared.specs.Compared.{desc_after, view_after}
use Rattle.miss_reasons.specs.Reasons.{IsReason}
use Rattle.miss_reasons.specs.declared.reason.Reason.{Reason}
use Rattle.retire.specs.Over.{ComesOver, no_slot}
use Rattle.build_misses.specs.declared.finding.Miss.{Miss}

-- a reason that is told of a process holds
pub data WhyAt (S : Holdings) (d : Desc) (see : Ask → Answer) (why : Option Reason) : Type 0 where
  untold : why ≡ None → WhyAt S d see why
  told : (reason : Reason) → why ≡ Some reason → IsReason S d see reason → WhyAt S d see why

-- that of a pip, where these are the results of the pips before it
abbrev pub WhyOf : List Pip → Files → ℕ → Holdings → List Result → ℕ → PipKind → Option Reason → Type 0
WhyOf pips tree budget S results i (Process d) why =
    WhyAt S (desc_after pips tree budget results d) (view_after pips tree results i d) why
WhyOf pips tree budget S results i (Copy d) why = ⊤
WhyOf pips tree budget S results i (Write d) why = ⊤
WhyOf pips tree budget S results i (Seal d) why = ⊤

abbrev pub miss_if : Option Reason → ℕ → List Miss
miss_if None i = []
miss_if (Some reason) i = record { pip = i; reason = reason } ∷ []

-- the processes that run, of the pips from number i on, each with a reason
abbrev pub ReasonedFrom : List Pip → Files → ℕ → Holdings → List Result → ℕ → List Pip → List Miss → Type 0
ReasonedFrom pips tree budget S results i [] misses = misses ≡ []
ReasonedFrom pips tree budget S results i (pip ∷ left) misses =
    (result : Result) × (why : Option Reason) × (rest : List Miss)
    × ComesOver pips tree budget S no_slot results i pip.kind result (is_some why)
    × WhyOf pips tree budget S results i pip.kind why × (misses ≡ miss_if why i ++ rest)
    × ReasonedFrom pips tree budget S (results ++ result ∷ []) (i + 1) left rest

-- These are the processes that a build of these pips over this store runs, where no call of the store fails, each with a
-- reason why the store has nothing usable for it, with what it is and sees in that build.
abbrev pub AreReasoned : List Pip → Files → ℕ → Holdings → List Miss → Type 0
AreReasoned pips tree budget S misses = ReasonedFrom pips tree budget S [] 0 pips misses
