-- Accepted runs: the slots that a build takes for the runs of its processes; and what they leave to do.
use Rattle.std.specs.Prelude.{◌≡◌, ◌↔◌, ◌==◌, ◌+◌, ◌&&◌, ℕ, Bool, true, false, not, List, [], ◌∷◌, count_by, if◌then◌else◌}
use Rattle.std.specs.List.{list_any, slice_index_or}
use Rattle.bx_tree.specs.Trees.{Files}
use Rattle.pip_model_types.specs.declared.desc.Desc.{Desc}
use Rattle.pip_model_types.specs.declared.pip.Pip.{Pip}
use Rattle.observed.specs.declared.ask.Ask.{Ask}
use Rattle.observed.specs.declared.access.Answer.{Answer}
use Rattle.run_record.specs.Holding.{HoldsNow}
use Rattle.violations.specs.declared.verdict.Verdict.{Verdict}
use Rattle.one_thread.specs.OneThread.{runs}
use Rattle.sched_board_slots.specs.Slots.{slot_at}
use Rattle.sched_board_slots.specs.declared.held.Held.{Held}
use Rattle.sched_board_slots.specs.declared.held.Held.TheVariants as held
use Rattle.retire.specs.Runs.{RunsAs}

-- A slot is an accepted run of a process where it holds the record of a run whose description and answers are, byte by byte, those of
-- the process and what it sees.
abbrev pub IsAccepted : Desc → (Ask → Answer) → Held → Type 0
IsAccepted d see held.Empty = ⊥
IsAccepted d see (held.Ran facts) = HoldsNow d see facts
IsAccepted d see (held.Hit found) = ⊥
IsAccepted d see (held.Plain made) = ⊥
IsAccepted d see held.Skipped = ⊥

-- whether the pip with this number is marked; one that has no mark is not
abbrev pub is_marked : List Bool → ℕ → Bool
is_marked marks i = slice_index_or marks i false

-- The marks say of each process that runs in the sequential build whether its slot is an accepted run of it.
abbrev pub AreAccepted : List Pip → Files → ℕ → List Held → List Bool → Type 0
AreAccepted pips tree budget slots accepted =
    (i : ℕ) (d : Desc) (see : Ask → Answer) → RunsAs pips tree budget i d see
    → (is_marked accepted i ≡ true) ↔ IsAccepted d see (slot_at slots i)

-- ## What is left to do

-- how many of these pips have no accepted run
abbrev pub without_run : List Bool → List ℕ → ℕ
without_run accepted numbers = count_by (λ i. not (is_marked accepted i)) numbers

abbrev pub is_among : List ℕ → ℕ → Bool
is_among numbers i = list_any (λ k. k == i) numbers

-- how many processes run that are none of these and have no accepted run, where the pips from number i on are left
abbrev pub others_from : List Bool → List ℕ → ℕ → List Pip → List Verdict → ℕ
others_from accepted numbers i [] vs = 0
others_from accepted numbers i (pip ∷ pips) [] = 0
others_from accepted numbers i (pip ∷ pips) (v ∷ vs) =
    if runs pip.kind v && not (is_marked accepted i) && not (is_among numbers i)
    then 1 + others_from accepted numbers (i + 1) pips vs
    else others_from accepted numbers (i + 1) pips vs
