-- A run of a tool that there was puts only asks that there were.
use Rattle.std.proofs.Common.{◌≡◌, ℕ, zero, suc, ◌+◌, ◌++◌, Bool, true, false, ◌||◌, cond, List, [], ◌∷◌, length, take, drop, Option, Some, None, refl, ap, sym, ◌∙◌, true≢false}
use Rattle.std.specs.Prelude.{nat_lt, slice_get}
use Rattle.std.specs.Fmt.{decimal}
use Rattle.std.specs.List.{AllByRecursion, list_any}
use Rattle.std.proofs.lemmas.Option.{same_Some}
use Rattle.bx_tree.specs.Paths.{Atoms}
use Rattle.observed.specs.declared.ask.AskKind.{AskKind}
use Rattle.observed.specs.declared.ask.AskKind.TheVariants as kinds
use Rattle.observed.specs.declared.ask.Ask.{Ask}
use Rattle.observed.specs.declared.access.Access.{Access}
use Rattle.observed.specs.declared.access.Access.TheVariants.{Asked, Wrote, WriteDenied}
use Rattle.observed.specs.declared.access.Answer.{Answer}
use Rattle.observed.specs.declared.access.End.{End}
use Rattle.tool_text.specs.declared.tool.Instr.{Instr}
use Rattle.tool_text.specs.declared.tool.Instr.TheVariants as instrs
use Rattle.tool_text.specs.Grammar.{is_of_second}
use Rattle.tool_run.specs.declared.effect.Effect.{Effect}
use Rattle.tool_run.specs.declared.effect.Effect.TheVariants as effects
use Rattle.tool_run.specs.declared.limits.TheConstants.{MAX_OUTPUT}
use Rattle.tool_run.specs.Description.{Description, answer_of, given, permits, resolved}
use Rattle.tool_run.specs.Values.{number_of, split_parts, variable}
use Rattle.tool_run_writes.specs.Writes.{clashes, own_answer}
use Rattle.tool_run.specs.Machine.{Machine, effect_of, fitting, fitting_two, start, written}
use Rattle.tool_run.specs.Instructions.{act, look_up, looks, or_jump, value, with_answer, with_number, writes_at}
use Rattle.tool_run.specs.Run.{Run, Turn, asks_of, at_end_or, onward, run_from, run_tool, turn, turned, with_ask}
use Rattle.before_patterns.specs.Asks.{WasKind, WereAsks}
use Rattle.before_patterns.proofs.SameTools.{IsOld}

-- an ask that is put is one that there was
abbrev pub Puts : Machine × Effect → Type 0
Puts (m, effects.Goes) = Unit {0}
Puts (m, effects.Asks ask) = WasKind ask.kind
Puts (m, effects.Wrote path) = Unit {0}
Puts (m, effects.Refused path) = Unit {0}
Puts (m, effects.Stops end) = Unit {0}

effect_puts : (t : Machine × Option End) → Puts (effect_of t)
effect_puts (m, None) = tt
effect_puts (m, Some end) = tt

number_puts : (m : Machine) (n : Option ℕ) (f : ℕ → Machine × Effect) → ((k : ℕ) → Puts (f k)) → Puts (with_number m n f)
number_puts m None f all = tt
number_puts m (Some k) f all = all k

jump_puts : (m : Machine) (r label : ℕ) (o : Option (List ℕ)) → Puts (or_jump m r label o)
jump_puts m r label None = tt
jump_puts m r label (Some bytes) = effect_puts (fitting m r bytes)

look_puts : (m : Machine) (i : Instr) (ask : Ask) (o : Option Answer) → WasKind ask.kind → Puts (look_up m i ask o)
look_puts m i ask None h = h
look_puts m i ask (Some answer) h = effect_puts (with_answer m i ask answer)

looks_puts : (m : Machine) (i : Instr) (kind : AskKind) (o : Option Atoms) → WasKind kind → Puts (looks m i kind o)
looks_puts m i kind None h = tt
looks_puts m i kind (Some path) h =
    look_puts m i (record { kind = kind; path = path }) (own_answer m.writes (record { kind = kind; path = path })) h

either_puts : (t : Bool) (a b : Machine × Effect) → Puts a → Puts b → Puts (cond t a b)
either_puts true a b h k = h
either_puts false a b h k = k

write_puts : (d : Description) (m : Machine) (bytes : List ℕ) (o : Option Atoms) → Puts (writes_at d m bytes o)
write_puts d m bytes None = tt
write_puts d m bytes (Some path) =
    either_puts (permits d path) _ _
    (either_puts (clashes m.writes path) _ (written m path bytes) tt (either_puts (nat_lt MAX_OUTPUT (m.spent + length bytes)) _ _ tt tt)) tt

act_puts : (d : Description) (m : Machine) (i : Instr) → is_of_second i ≡ false → Puts (act d m i)
act_puts d m (instrs.Set r x) h = effect_puts (fitting m r (value m x))
act_puts d m (instrs.Cat r x y) h = effect_puts (fitting m r (value m x ++ value m y))
act_puts d m (instrs.Len r x) h = effect_puts (fitting m r (decimal (length (value m x))))
act_puts d m (instrs.Head r x n) h =
    number_puts m (number_of (value m n)) (λ k. effect_of (fitting m r (take k (value m x)))) (λ k. effect_puts (fitting m r (take k (value m x))))
act_puts d m (instrs.Tail r x n) h =
    number_puts m (number_of (value m n)) (λ k. effect_of (fitting m r (drop k (value m x)))) (λ k. effect_puts (fitting m r (drop k (value m x))))
act_puts d m (instrs.Split r s x y) h =
    effect_puts (fitting_two m r s (split_parts (value m y) (value m x)).0 (split_parts (value m y) (value m x)).1)
act_puts d m (instrs.Arg r n label) h =
    number_puts m (number_of (value m n)) (λ k. or_jump m r label (slice_get d.args k)) (λ k. jump_puts m r label (slice_get d.args k))
act_puts d m (instrs.Args r) h = effect_puts (fitting m r (decimal (length d.args)))
act_puts d m (instrs.Env r x label) h = jump_puts m r label (variable d.env (value m x))
act_puts d m (instrs.Eq x y label) h = tt
act_puts d m (instrs.Jump label) h = tt
act_puts d m (instrs.Exit n) h = tt
act_puts d m (instrs.Say x) h = either_puts (nat_lt MAX_OUTPUT (m.spent + length (value m x) + 1)) _ _ tt tt
act_puts d m (instrs.Read r x label) h = looks_puts m (instrs.Read r x label) kinds.Read (resolved d.dir (value m x)) tt
act_puts d m (instrs.Probe r x) h = looks_puts m (instrs.Probe r x) kinds.Probe (resolved d.dir (value m x)) tt
act_puts d m (instrs.List r x) h = looks_puts m (instrs.List r x) kinds.List (resolved d.dir (value m x)) tt
act_puts d m (instrs.Match r x y) h = absurd (true≢false h)
act_puts d m (instrs.Write x y) h = write_puts d m (value m y) (resolved d.dir (value m x))

-- ## Accesses

abbrev pub WasAccess : Access → Type 0
WasAccess (Asked ask answer) = WasKind ask.kind
WasAccess (Wrote path) = Unit {0}
WasAccess (WriteDenied path) = Unit {0}

abbrev pub WereAccesses : List Access → Type 0
WereAccesses accesses = AllByRecursion WasAccess accesses

turned_were : (see : Ask → Answer) (i : Instr) (m : Machine) (effect : Effect) → Puts (m, effect) → WereAccesses (turned see i (m, effect)).accesses
turned_were see i m effects.Goes h = tt
turned_were see i m (effects.Asks ask) h = (h, tt)
turned_were see i m (effects.Wrote path) h = (tt, tt)
turned_were see i m (effects.Refused path) h = (tt, tt)
turned_were see i m (effects.Stops end) h = tt

both_were : (xs ys : List Access) → WereAccesses xs → WereAccesses ys → WereAccesses (xs ++ ys)
both_were [] ys h k = k
both_were (x ∷ xs) ys h k = (h.0, both_were xs ys h.1 k)

onward_were : (rest : Machine → Run) (t : Turn) (end : Option End) → WereAccesses t.accesses → ((m : Machine) → WereAccesses (rest m).accesses)
    → WereAccesses (onward rest t end).accesses
onward_were rest t None h all = both_were t.accesses (rest t.machine).accesses h (all t.machine)
onward_were rest t (Some end) h all = both_were t.accesses [] h tt

-- an instruction of a tool is of no other version
pub one_old : (tool : List Instr) (k : ℕ) (i : Instr) → list_any is_of_second tool ≡ false → slice_get tool k ≡ Some i → is_of_second i ≡ false
one_old [] k i h e = cc
one_old (x ∷ xs) k i h e = by_first (is_of_second x) refl h (λ j g f. one_old xs j i g f)
  where
    by_place : (j : ℕ) → is_of_second x ≡ false → list_any is_of_second xs ≡ false → slice_get (x ∷ xs) j ≡ Some i
        → ((k : ℕ) → list_any is_of_second xs ≡ false → slice_get xs k ≡ Some i → is_of_second i ≡ false) → is_of_second i ≡ false
    by_place zero first rest e later = ap is_of_second (sym (same_Some x i e)) ∙ first
    by_place (suc j) first rest e later = later j rest e

    by_first : (t : Bool) → is_of_second x ≡ t → (t || list_any is_of_second xs) ≡ false
        → ((k : ℕ) → list_any is_of_second xs ≡ false → slice_get xs k ≡ Some i → is_of_second i ≡ false) → is_of_second i ≡ false
    by_first true first h later = absurd (true≢false h)
    by_first false first h later = by_place k first h e later

step_were : (m : Machine) (tool : List Instr) (o : Option Instr) (rest : Instr → Run) → slice_get tool m.place ≡ o
    → ((i : Instr) → slice_get tool m.place ≡ Some i → WereAccesses (rest i).accesses) → WereAccesses (at_end_or m o rest).accesses
step_were m tool None rest is all = tt
step_were m tool (Some i) rest is all = all i is

from_were : (d : Description) (a : Ask → Answer) (tool : List Instr) (left : ℕ) (m : Machine) → list_any is_of_second tool ≡ false
    → WereAccesses (run_from d a tool left m).accesses
from_were d a tool zero m h = step_were m tool (slice_get tool m.place) _ refl (λ i is. tt)
from_were d a tool (suc left) m h =
    step_were m tool (slice_get tool m.place) _ refl (λ i is.
    onward_were (run_from d a tool left) (turn d a m i) (turn d a m i).end
    (turned_were (answer_of d a) i (act d m i).0 (act d m i).1 (act_puts d m i (one_old tool m.place i h is)))
    (λ m'. from_were d a tool left m' h))

pub tool_were : (d : Description) (a : Ask → Answer) (tool : Option (List Instr)) → IsOld tool → WereAccesses (run_tool d a tool).accesses
tool_were d a None h = tt
tool_were d a (Some tool) h = from_were d a tool d.budget start h

-- the asks that are not answered by the description's own files
pub asks_were : (d : Description) (xs : List Access) → WereAccesses xs → WereAsks (asks_of d xs)
asks_were d [] h = tt
asks_were d (Asked ask answer ∷ rest) h = by_given (given d ask) (asks_were d rest h.1)
  where
    by_given : (g : Option Answer) → WereAsks (asks_of d rest) → WereAsks (with_ask g ask (asks_of d rest))
    by_given None k = (h.0, k)
    by_given (Some own) k = k
asks_were d (Wrote path ∷ rest) h = asks_were d rest h.1
asks_were d (WriteDenied path ∷ rest) h = asks_were d rest h.1
