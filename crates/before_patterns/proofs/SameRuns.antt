-- Runs of tools that there were, and their path sets, are what they were.
use Rattle.std.proofs.Common.{◌≡◌, ℕ, zero, suc, Bool, false, List, [], ◌∷◌, Option, Some, None, refl, ap, sym, ◌∙◌, subst, true≢false}
use Rattle.std.specs.Prelude.{slice_get}
use Rattle.std.specs.List.{list_any}
use Rattle.bx_tree.specs.Paths.{Atoms}
use Rattle.bx_tree.specs.Trees.{file_at}
use Rattle.observed.specs.declared.ask.AskKind.{AskKind}
use Rattle.observed.specs.declared.ask.AskKind.TheVariants as kinds
use Rattle.observed.specs.declared.ask.Ask.{Ask}
use Rattle.observed.specs.declared.access.Access.{Access}
use Rattle.observed.specs.declared.access.Access.TheVariants.{Asked, Wrote, WriteDenied}
use Rattle.observed.specs.declared.access.Answer.{Answer}
use Rattle.observed.specs.declared.access.End.{End}
use Rattle.pip_model_types.specs.declared.desc.Desc.{Desc}
use Rattle.tool_text.specs.declared.tool.Instr.{Instr}
use Rattle.tool_text.specs.declared.tool.Instr.TheVariants as instrs
use Rattle.tool_text.specs.Grammar.{is_of_second}
use Rattle.tool_run.specs.declared.effect.Effect.{Effect}
use Rattle.tool_run.specs.declared.effect.Effect.TheVariants as effects
use Rattle.tool_run.specs.Described.{described}
use Rattle.tool_run.specs.Description as now_desc
use Rattle.tool_run.specs.Description.{Description, declared_at, or_else, resolved}
use Rattle.tool_run.specs.Instructions as now_instrs
use Rattle.tool_run.specs.Instructions.{value}
use Rattle.tool_run.specs.Machine.{Machine, effect_of, start}
use Rattle.tool_run.specs.Run as now
use Rattle.tool_run.specs.Run.{Run, Turn, asked, at_end_or, onward, with_ask}
use Rattle.tool_run_writes.specs.Writes as now_writes
use Rattle.tool_run_writes.specs.Writes.{has_below}
use Rattle.before_patterns.specs.Asks.{WasKind, WereAsks, set_of}
use Rattle.before_patterns.specs.Runs as old
use Rattle.before_patterns.specs.Tools as old_tools
use Rattle.before_patterns.specs.Tools.{IsNoSecond}
use Rattle.before_patterns.proofs.OldKinds.{asks_were, one_old, tool_were}
use Rattle.before_patterns.proofs.SameAsks.{set_same, set_were}
use Rattle.before_patterns.proofs.SameTools.{IsOld, old_tool, tool_same}
use mathlib.Core.Path.{fun_ext}

-- ## Asks

file_same : (kind : AskKind) (o : Option (List ℕ)) → old.file_answer kind o ≡ now_desc.file_answer kind o
file_same kinds.Read None = refl
file_same kinds.Read (Some bytes) = refl
file_same kinds.Probe None = refl
file_same kinds.Probe (Some bytes) = refl
file_same kinds.List None = refl
file_same kinds.List (Some bytes) = refl
file_same (kinds.Match pattern) None = refl
file_same (kinds.Match pattern) (Some bytes) = refl

given_same : (d : Description) (ask : Ask) → old.given d ask ≡ now_desc.given d ask
given_same d ask = file_same ask.kind (declared_at d ask.path)

answers_same : (d : Description) (a : Ask → Answer) → old.answer_of d a ≡ now_desc.answer_of d a
answers_same d a = fun_ext (λ ask. ap (λ o. or_else o (a ask)) (given_same d ask))

own_same : (kind : AskKind) (o : Option (List ℕ)) (below : Bool) → WasKind kind → old.own_file kind o below ≡ now_writes.own_file kind o below
own_same kinds.Read None below h = refl
own_same kinds.Read (Some bytes) below h = refl
own_same kinds.Probe None below h = refl
own_same kinds.Probe (Some bytes) below h = refl
own_same kinds.List None below h = refl
own_same kinds.List (Some bytes) below h = refl
own_same (kinds.Match pattern) o below h = absurd h

-- ## Turns

effect_same : (see : Ask → Answer) (i : Instr) (t : Machine × Option End) → old.turned see i (effect_of t) ≡ now.turned see i (effect_of t)
effect_same see i (m, None) = refl
effect_same see i (m, Some end) = refl

-- an instruction that looks at no path
plain : (see : Ask → Answer) (i : Instr) → ((m : Machine) (ask : Ask) (answer : Answer) → old.with_answer m i ask answer ≡ now_instrs.with_answer m i ask answer)
    → (done : Machine × Effect) → old.turned see i done ≡ now.turned see i done
plain see i h (m, effects.Goes) = refl
plain see i h (m, effects.Asks ask) = ap (λ t. asked t ask (see ask)) (h m ask (see ask))
plain see i h (m, effects.Wrote path) = refl
plain see i h (m, effects.Refused path) = refl
plain see i h (m, effects.Stops end) = refl

look_same : (see : Ask → Answer) (m : Machine) (i : Instr) (ask : Ask) (o : Option Answer)
    → ((answer : Answer) → old.with_answer m i ask answer ≡ now_instrs.with_answer m i ask answer)
    → old.turned see i (old.look_up m i ask o) ≡ now.turned see i (now_instrs.look_up m i ask o)
look_same see m i ask None h = ap (λ t. asked t ask (see ask)) (h (see ask))
look_same see m i ask (Some answer) h = effect_same see i (old.with_answer m i ask answer) ∙ ap (λ t. now.turned see i (effect_of t)) (h answer)

looks_same : (see : Ask → Answer) (m : Machine) (i : Instr) (kind : AskKind) (o : Option Atoms) → WasKind kind
    → ((path : Atoms) (answer : Answer) → old.with_answer m i (record { kind = kind; path = path }) answer ≡ now_instrs.with_answer m i (record { kind = kind; path = path }) answer)
    → old.turned see i (old.looks m i kind o) ≡ now.turned see i (now_instrs.looks m i kind o)
looks_same see m i kind None was h = refl
looks_same see m i kind (Some path) was h =
    let ask : Ask = record { kind = kind; path = path } in
    ap (λ o. old.turned see i (old.look_up m i ask o)) (own_same kind (file_at m.writes path) (has_below m.writes path) was)
    ∙ look_same see m i ask (now_writes.own_answer m.writes ask) (h path)

acted : (d : Description) (see : Ask → Answer) (m : Machine) (i : Instr) → is_of_second i ≡ false
    → old.turned see i (old.act d m i) ≡ now.turned see i (now_instrs.act d m i)
acted d see m (instrs.Set r x) h = plain see (instrs.Set r x) (λ m' ask answer. refl) (now_instrs.act d m (instrs.Set r x))
acted d see m (instrs.Cat r x y) h = plain see (instrs.Cat r x y) (λ m' ask answer. refl) (now_instrs.act d m (instrs.Cat r x y))
acted d see m (instrs.Len r x) h = plain see (instrs.Len r x) (λ m' ask answer. refl) (now_instrs.act d m (instrs.Len r x))
acted d see m (instrs.Head r x n) h = plain see (instrs.Head r x n) (λ m' ask answer. refl) (now_instrs.act d m (instrs.Head r x n))
acted d see m (instrs.Tail r x n) h = plain see (instrs.Tail r x n) (λ m' ask answer. refl) (now_instrs.act d m (instrs.Tail r x n))
acted d see m (instrs.Split r s x y) h = plain see (instrs.Split r s x y) (λ m' ask answer. refl) (now_instrs.act d m (instrs.Split r s x y))
acted d see m (instrs.Arg r n label) h = plain see (instrs.Arg r n label) (λ m' ask answer. refl) (now_instrs.act d m (instrs.Arg r n label))
acted d see m (instrs.Args r) h = plain see (instrs.Args r) (λ m' ask answer. refl) (now_instrs.act d m (instrs.Args r))
acted d see m (instrs.Env r x label) h = plain see (instrs.Env r x label) (λ m' ask answer. refl) (now_instrs.act d m (instrs.Env r x label))
acted d see m (instrs.Eq x y label) h = refl
acted d see m (instrs.Jump label) h = refl
acted d see m (instrs.Exit n) h = refl
acted d see m (instrs.Say x) h = plain see (instrs.Say x) (λ m' ask answer. refl) (now_instrs.act d m (instrs.Say x))
acted d see m (instrs.Read r x label) h = looks_same see m (instrs.Read r x label) kinds.Read (resolved d.dir (value m x)) tt (λ path answer. refl)
acted d see m (instrs.Probe r x) h = looks_same see m (instrs.Probe r x) kinds.Probe (resolved d.dir (value m x)) tt (λ path answer. refl)
acted d see m (instrs.List r x) h = looks_same see m (instrs.List r x) kinds.List (resolved d.dir (value m x)) tt (λ path answer. refl)
acted d see m (instrs.Match r x y) h = absurd (true≢false h)
acted d see m (instrs.Write x y) h = plain see (instrs.Write x y) (λ m' ask answer. refl) (now_instrs.act d m (instrs.Write x y))

turn_same : (d : Description) (a : Ask → Answer) (m : Machine) (i : Instr) → is_of_second i ≡ false → old.turn d a m i ≡ now.turn d a m i
turn_same d a m i h = ap (λ see. old.turned see i (old.act d m i)) (answers_same d a) ∙ acted d (now_desc.answer_of d a) m i h

-- ## Runs

step_same : (d : Description) (a : Ask → Answer) (tool : List Instr) (m : Machine) (o : Option Instr) (before after : Machine → Run) → list_any is_of_second tool ≡ false
    → slice_get tool m.place ≡ o → before ≡ after
    → at_end_or m o (λ i. onward before (old.turn d a m i) (old.turn d a m i).end) ≡ at_end_or m o (λ i. onward after (now.turn d a m i) (now.turn d a m i).end)
step_same d a tool m None before after h is same = refl
step_same d a tool m (Some i) before after h is same =
    ap (λ (t : Turn). onward before t t.end) (turn_same d a m i (one_old tool m.place i h is))
    ∙ ap (λ (rest : Machine → Run). onward rest (now.turn d a m i) (now.turn d a m i).end) same

from_same : (d : Description) (a : Ask → Answer) (tool : List Instr) (left : ℕ) (m : Machine) → list_any is_of_second tool ≡ false
    → old.run_from d a tool left m ≡ now.run_from d a tool left m
from_same d a tool zero m h = refl
from_same d a tool (suc left) m h =
    step_same d a tool m (slice_get tool m.place) (old.run_from d a tool left) (now.run_from d a tool left) h refl
    (fun_ext (λ m'. from_same d a tool left m' h))

tool_run_same : (d : Description) (a : Ask → Answer) (tool : Option (List Instr)) → IsOld tool → old.run_tool d a tool ≡ now.run_tool d a tool
tool_run_same d a None h = refl
tool_run_same d a (Some tool) h = from_same d a tool d.budget start h

-- ## Path sets

asks_same : (d : Description) (xs : List Access) → old.asks_of d xs ≡ now.asks_of d xs
asks_same d [] = refl
asks_same d (Asked ask answer ∷ rest) =
    ap (λ g. with_ask g ask (old.asks_of d rest)) (given_same d ask) ∙ ap (with_ask (now_desc.given d ask) ask) (asks_same d rest)
asks_same d (Wrote path ∷ rest) = asks_same d rest
asks_same d (WriteDenied path ∷ rest) = asks_same d rest

-- ## Of a process

pub described_same : (d : Desc) → IsNoSecond d.exe → old.described d ≡ described d
described_same d none = ap (λ t. record (described d) { tool = t }) (tool_same d.exe none)

-- the run of a description of before
old_run : (d : Desc) (a : Ask → Answer) → old.run_of (old.described d) a ≡ now.run_of (old.described d) a
old_run d a = tool_run_same (old.described d) a (old_tools.tool_of d.exe) (old_tool d.exe)

pub run_same : (d : Desc) (a : Ask → Answer) → IsNoSecond d.exe → now.run_of (described d) a ≡ old.run_of (old.described d) a
run_same d a none = sym (old_run d a ∙ ap (λ (x : Description). now.run_of x a) (described_same d none))

-- the asks of a run
abbrev own_asks : Desc → (Ask → Answer) → List Ask
own_asks d a = now.asks_of (old.described d) (now.run_of (old.described d) a).accesses

own_were : (d : Desc) (a : Ask → Answer) → WereAsks (own_asks d a)
own_were d a =
    asks_were (old.described d) (now.run_of (old.described d) a).accesses (tool_were (old.described d) a (old_tools.tool_of d.exe) (old_tool d.exe))

old_paths : (d : Desc) (a : Ask → Answer)
    → old.path_set (old.described d) (old.run_of (old.described d) a).accesses ≡ now.path_set (old.described d) (now.run_of (old.described d) a).accesses
old_paths d a =
    ap (λ (r : Run). old.path_set (old.described d) r.accesses) (old_run d a)
    ∙ ap set_of (asks_same (old.described d) (now.run_of (old.described d) a).accesses)
    ∙ set_same (own_asks d a) (own_were d a)

now_paths : (d : Desc) (a : Ask → Answer) → IsNoSecond d.exe
    → now.path_set (old.described d) (now.run_of (old.described d) a).accesses ≡ now.path_set (described d) (now.run_of (described d) a).accesses
now_paths d a none = ap (λ (x : Description). now.path_set x (now.run_of x a).accesses) (described_same d none)

pub paths_same : (d : Desc) (a : Ask → Answer) → IsNoSecond d.exe
    → now.path_set (described d) (now.run_of (described d) a).accesses ≡ old.path_set (old.described d) (old.run_of (old.described d) a).accesses
paths_same d a none = sym (old_paths d a ∙ now_paths d a none)

pub paths_were : (d : Desc) (a : Ask → Answer) → IsNoSecond d.exe → WereAsks (now.path_set (described d) (now.run_of (described d) a).accesses)
paths_were d a none = subst WereAsks (now_paths d a none) (set_were (own_asks d a) (own_were d a))
