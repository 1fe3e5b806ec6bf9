-- A run depends on its description and on the answers in its path set alone.
use Rattle.std.proofs.Common.{◌≡◌, ℕ, zero, suc, List, [], ◌∷◌, ◌++◌, Option, Some, None, refl, ap, sym, ◌∙◌, inl, inr}
use Rattle.std.specs.Prelude.{slice_get}
use Rattle.bx_tree.specs.Members.{Has}
use Rattle.observed.specs.declared.ask.Ask.{Ask}
use Rattle.observed.specs.declared.access.Access.{Access}
use Rattle.observed.specs.declared.access.Access.TheVariants.{Asked, Wrote, WriteDenied}
use Rattle.observed.specs.declared.access.Answer.{Answer}
use Rattle.observed.specs.declared.access.End.{End}
use Rattle.observed.proofs.OneSet.{set_has}
use Rattle.tool_text.specs.declared.tool.Instr.{Instr}
use Rattle.tool_run.specs.declared.effect.Effect.{Effect}
use Rattle.tool_run.specs.declared.effect.Effect.TheVariants as effects
use Rattle.tool_run.specs.Description.{Description, answer_of, given, or_else}
use Rattle.tool_run.specs.Machine.{Machine, start}
use Rattle.tool_run.specs.Instructions.{act, with_answer}
use Rattle.tool_run.specs.Laws.{Agree, DependsOnPathSet}
use Rattle.tool_run.specs.Run.{Run, Turn, asked, asks_of, at_end_or, onward, run_after, run_from, run_of, run_tool, turn, turned, with_ask}

with_more : (g : Option Answer) (a q : Ask) (bs : List Ask) → Has bs q → Has (with_ask g a bs) q
with_more None a q bs h = inr h
with_more (Some answer) a q bs h = h

with_less : (g : Option Answer) (a q : Ask) (bs cs : List Ask) → (Has bs q → Has cs q) → Has (with_ask g a bs) q → Has (with_ask g a cs) q
with_less None a q bs cs within h = elim h [ inl e ↦ inl e | inr k ↦ inr (within k) ]
with_less (Some answer) a q bs cs within h = within h

-- the asks of accesses grow with them
grows_right : (d : Description) (xs ys : List Access) (q : Ask) → Has (asks_of d ys) q → Has (asks_of d (xs ++ ys)) q
grows_right d [] ys q h = h
grows_right d (Asked ask answer ∷ xs) ys q h = with_more (given d ask) ask q _ (grows_right d xs ys q h)
grows_right d (Wrote p ∷ xs) ys q h = grows_right d xs ys q h
grows_right d (WriteDenied p ∷ xs) ys q h = grows_right d xs ys q h

grows_left : (d : Description) (xs ys : List Access) (q : Ask) → Has (asks_of d xs) q → Has (asks_of d (xs ++ ys)) q
grows_left d [] ys q h = absurd h
grows_left d (Asked ask answer ∷ xs) ys q h = with_less (given d ask) ask q _ _ (λ k. grows_left d xs ys q k) h
grows_left d (Wrote p ∷ xs) ys q h = grows_left d xs ys q h
grows_left d (WriteDenied p ∷ xs) ys q h = grows_left d xs ys q h

-- one instruction
answer_same : (g : Option Answer) (a b : Ask → Answer) (ask : Ask) → Agree a b (with_ask g ask []) → or_else g (b ask) ≡ or_else g (a ask)
answer_same None a b ask agree = sym (agree ask (inl refl))
answer_same (Some answer) a b ask agree = refl

turned_same : (d : Description) (a b : Ask → Answer) (i : Instr) (m : Machine) (effect : Effect)
    → Agree a b (asks_of d (turned (answer_of d a) i (m, effect)).accesses) → turned (answer_of d b) i (m, effect) ≡ turned (answer_of d a) i (m, effect)
turned_same d a b i m effects.Goes agree = refl
turned_same d a b i m (effects.Asks ask) agree = ap (λ answer. asked (with_answer m i ask answer) ask answer) (answer_same (given d ask) a b ask agree)
turned_same d a b i m (effects.Wrote p) agree = refl
turned_same d a b i m (effects.Refused p) agree = refl
turned_same d a b i m (effects.Stops end) agree = refl

turn_same : (d : Description) (a b : Ask → Answer) (m : Machine) (i : Instr)
    → Agree a b (asks_of d (turn d a m i).accesses) → turn d b m i ≡ turn d a m i
turn_same d a b m i agree = turned_same d a b i (act d m i).0 (act d m i).1 agree

-- answers that agree on the asks of a turn and of what comes after it agree on those of the turn
onward_agree : (d : Description) (a b : Ask → Answer) (rest : Machine → Run) (t : Turn) (end : Option End)
    → Agree a b (asks_of d (onward rest t end).accesses) → Agree a b (asks_of d t.accesses)
onward_agree d a b rest t None agree = λ q h. agree q (grows_left d t.accesses (rest t.machine).accesses q h)
onward_agree d a b rest t (Some end) agree = λ q h. agree q (grows_left d t.accesses [] q h)

onward_same : (d : Description) (a b : Ask → Answer) (rest other : Machine → Run) (t : Turn) (end : Option End)
    → ((m : Machine) → Agree a b (asks_of d (rest m).accesses) → other m ≡ rest m)
    → Agree a b (asks_of d (onward rest t end).accesses) → onward other t end ≡ onward rest t end
onward_same d a b rest other t None same agree = ap (run_after t.accesses 1) (same t.machine (λ q h. agree q (grows_right d t.accesses (rest t.machine).accesses q h)))
onward_same d a b rest other t (Some end) same agree = refl

step_same : (d : Description) (a b : Ask → Answer) (rest other : Machine → Run) (m : Machine) (i : Option Instr)
    → ((m : Machine) → Agree a b (asks_of d (rest m).accesses) → other m ≡ rest m)
    → Agree a b (asks_of d (at_end_or m i (λ i. onward rest (turn d a m i) (turn d a m i).end)).accesses)
    → at_end_or m i (λ i. onward other (turn d b m i) (turn d b m i).end) ≡ at_end_or m i (λ i. onward rest (turn d a m i) (turn d a m i).end)
step_same d a b rest other m None same agree = refl
step_same d a b rest other m (Some i) same agree =
    ap (λ (t : Turn). onward other t t.end) (turn_same d a b m i (onward_agree d a b rest (turn d a m i) (turn d a m i).end agree))
    ∙ onward_same d a b rest other (turn d a m i) (turn d a m i).end same agree

run_same : (d : Description) (a b : Ask → Answer) (tool : List Instr) (left : ℕ) (m : Machine)
    → Agree a b (asks_of d (run_from d a tool left m).accesses) → run_from d b tool left m ≡ run_from d a tool left m
run_same d a b tool zero m agree = refl
run_same d a b tool (suc left) m agree =
    step_same d a b (run_from d a tool left) (run_from d b tool left) m (slice_get tool m.place) (λ m' agree'. run_same d a b tool left m' agree') agree

tool_same : (d : Description) (a b : Ask → Answer) (tool : Option (List Instr))
    → Agree a b (asks_of d (run_tool d a tool).accesses) → run_tool d b tool ≡ run_tool d a tool
tool_same d a b None agree = refl
tool_same d a b (Some tool) agree = run_same d a b tool d.budget start agree

pub depends : (d : Description) → DependsOnPathSet d
depends d a b agree = tool_same d a b d.tool (λ q h. agree q (set_has (asks_of d (run_of d a).accesses) q h))
