-- What calls leave for those after them.
use Rattle.std.specs.Prelude.{ℕ, ◌+◌, nat_lt, if◌then◌else◌, List, [], ◌∷◌, ◌++◌, length, unwrap_or, Ok, Err}
use Rattle.std.specs.FinMap.{FinMap, empty, get, insert}
use Rattle.bx_tree.specs.Paths.{Atoms, path_cmp}
use Rattle.bx_tree.specs.Trees.{Files}
use Rattle.dscript_sdk_calls.specs.Sources.{Answers, tree_answers}
use Rattle.dscript_sdk_calls.specs.declared.tree_ask.TreeAsk.{TreeAsk}
use Rattle.pip_model_types.specs.declared.pip.Pip.{Pip}
use Rattle.pip_model_types.specs.declared.pip.PipKind.{PipKind}
use Rattle.dscript_value.specs.Plain.{Plain}
use Rattle.dscript_sdk_pips.specs.declared.limits.TheConstants.{MAX_NUMBERED_PIPS}
use Rattle.dscript_sdk_values.specs.declared.fault.SdkFault.TheVariants.{Memory}
use Rattle.dscript_sdk_values.specs.Outcomes.{Outcome}

-- For each directory how many output directories calls made directly in it.
abbrev pub Counts : Type 0
Counts = FinMap path_cmp ℕ

-- What answers asks of the source tree, which no call changes, the pips so far, the output directories as they
-- are counted, and the asks that were made, in order.
pub record State : Type 0 where
  pub answers : Answers
  pub pips : List Pip
  pub counts : Counts
  pub asks : List TreeAsk

-- the state of calls over a source tree, as data
pub record TreeState : Type 0 where
  pub sources : Files
  pub pips : List Pip
  pub counts : Counts
  pub asks : List TreeAsk

-- over a source tree its files answer
abbrev pub over_tree : TreeState → State
over_tree s = record { answers = tree_answers s.sources; pips = s.pips; counts = s.counts; asks = s.asks }

abbrev pub count_in : Counts → Atoms → ℕ
count_in counts dir = unwrap_or (get counts dir) 0

-- the state before the first call
abbrev pub no_calls : Answers → State
no_calls answers = record { answers = answers; pips = []; counts = empty; asks = [] }

-- the state before the first call over a source tree
abbrev pub no_calls_over : Files → TreeState
no_calls_over sources = record { sources = sources; pips = []; counts = empty; asks = [] }

-- what a call comes to: its value and the state after it
abbrev pub Change : Type 0
Change = Outcome (Plain × State)

-- the state of a call that changes nothing
abbrev pub unchanged : Outcome Plain → State → Change
unchanged (Ok value) s = Ok (value, s)
unchanged (Err fault) s = Err fault

-- the state over a source tree with these asks in place of its own
abbrev pub with_asks : List TreeAsk → TreeState → TreeState
with_asks asks s = record s { asks = asks }

-- one more ask
abbrev pub with_ask : TreeAsk → State → State
with_ask ask s = record s { asks = s.asks ++ ask ∷ [] }

-- the state of a call that asks the tree once, and changes nothing else
abbrev pub asking : Outcome (Plain × TreeAsk) → State → Change
asking (Ok r) s = Ok (r.0, with_ask r.1 s)
asking (Err fault) s = Err fault

-- A new pip, and the value that its number gives. More pips than a build may have are out of memory.
abbrev pub with_pip : Atoms → PipKind → (ℕ → Plain) → State → Change
with_pip spec kind value s =
    if nat_lt (length s.pips) MAX_NUMBERED_PIPS
    then Ok (value (length s.pips), record s { pips = s.pips ++ record { spec = spec; kind = kind } ∷ [] })
    else Err Memory

-- one more output directory in a directory
abbrev pub one_more : Counts → Atoms → Counts
one_more counts dir = insert counts dir (count_in counts dir + 1)
