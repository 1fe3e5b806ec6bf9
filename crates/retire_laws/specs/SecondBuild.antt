-- What a second build goes on from.
use Rattle.std.specs.Prelude.{◌≡◌, ℕ, List}
use Rattle.bx_tree.specs.Members.{Has}
use Rattle.bx_tree.specs.Trees.{Files}
use Rattle.bx_io.specs.Holdings.{Holdings}
use Rattle.pip_model_types.specs.declared.desc.Desc.{Desc}
use Rattle.pip_model_types.specs.declared.pip.Pip.{Pip}
use Rattle.observed.specs.declared.ask.Ask.{Ask}
use Rattle.observed.specs.declared.access.Answer.{Answer}
use Rattle.content_store.specs.Contents.{IsContent}
use Rattle.memo_format.specs.StoreNames.{HoldsList}
use Rattle.memo_format.specs.declared.selector.Selector.{Selector}
use Rattle.run_record.specs.Digests.{IsReadBack, weak_of}
use Rattle.run_record.specs.Facts.{Facts}
use Rattle.sched_board_slots.specs.Slots.{slot_at}
use Rattle.sched_board_slots.specs.declared.held.Held.{Held}
use Rattle.sched_board_slots.specs.declared.held.Held.TheVariants as held
use Rattle.retire.specs.Runs.{RunsAs}

-- the weak text of each process that runs is parsed as what it was written of
abbrev pub AllReadBack : List Pip → Files → ℕ → Type 0
AllReadBack pips tree budget = (i : ℕ) (d : Desc) (see : Ask → Answer) → RunsAs pips tree budget i d see → IsReadBack d

-- the text of each path set that a list of selectors names is held, as it is where nothing but builds wrote to
-- the store
abbrev pub NamesHeldPaths : Holdings → Type 0
NamesHeldPaths S =
    (d : Desc) (list : List Selector) → HoldsList S (weak_of d) list → (s : Selector) → Has list s
    → (text : List ℕ) × IsContent S s.paths text

-- no slot holds a run, as where nobody ran a tool before the results are collected
abbrev pub HoldNoRun : List Held → Type 0
HoldNoRun slots = (i : ℕ) (f : Facts) → slot_at slots i ≡ held.Ran f → ⊥
