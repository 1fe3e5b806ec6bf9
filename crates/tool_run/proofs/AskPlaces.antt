-- An instruction that puts an ask leaves the machine at its place.
use Rattle.std.proofs.Common.{◌≡◌, ℕ, ◌++◌, ◌+◌, Bool, true, false, cond, List, length, take, drop, Option, Some, None, refl, sym, subst}
use Rattle.std.specs.Prelude.{nat_lt, slice_get}
use Rattle.std.specs.Fmt.{decimal}
use Rattle.bx_tree.specs.Paths.{Atoms}
use Rattle.bx_path.specs.Globbing.{is_pattern}
use Rattle.observed.specs.declared.ask.AskKind.{AskKind}
use Rattle.observed.specs.declared.ask.AskKind.TheVariants as kinds
use Rattle.observed.specs.declared.ask.Ask.{Ask}
use Rattle.observed.specs.declared.access.Answer.{Answer}
use Rattle.observed.specs.declared.access.End.{End}
use Rattle.tool_text.specs.declared.tool.Instr.{Instr}
use Rattle.tool_text.specs.declared.tool.Instr.TheVariants as instrs
use Rattle.tool_run.specs.declared.effect.Effect.{Effect}
use Rattle.tool_run.specs.declared.effect.Effect.TheVariants as effects
use Rattle.tool_run.specs.declared.limits.TheConstants.{MAX_OUTPUT}
use Rattle.tool_run.specs.Description.{Description, permits, resolved}
use Rattle.tool_run.specs.Values.{number_of, split_parts, variable}
use Rattle.tool_run_writes.specs.Writes.{clashes, own_answer}
use Rattle.tool_run.specs.Machine.{Machine, effect_of, fitting, fitting_two, written}
use Rattle.tool_run.specs.Instructions.{act, look_up, looks, or_jump, value, with_answer, with_number, writes_at}

abbrev pub Stays : ℕ → Machine × Effect → Type 0
Stays place (m, effects.Goes) = Unit {0}
Stays place (m, effects.Asks ask) = m.place ≡ place
Stays place (m, effects.Wrote path) = Unit {0}
Stays place (m, effects.Refused path) = Unit {0}
Stays place (m, effects.Stops end) = Unit {0}

effect_stays : (p : ℕ) (t : Machine × Option End) → Stays p (effect_of t)
effect_stays p (m, None) = tt
effect_stays p (m, Some end) = tt

number_stays : (p : ℕ) (m : Machine) (n : Option ℕ) (f : ℕ → Machine × Effect) → ((k : ℕ) → Stays p (f k)) → Stays p (with_number m n f)
number_stays p m None f all = tt
number_stays p m (Some k) f all = all k

jump_stays : (p : ℕ) (m : Machine) (r label : ℕ) (o : Option (List ℕ)) → Stays p (or_jump m r label o)
jump_stays p m r label None = tt
jump_stays p m r label (Some bytes) = effect_stays p (fitting m r bytes)

look_stays : (m : Machine) (i : Instr) (ask : Ask) (o : Option Answer) → Stays m.place (look_up m i ask o)
look_stays m i ask None = refl
look_stays m i ask (Some answer) = effect_stays m.place (with_answer m i ask answer)

looks_stays : (m : Machine) (i : Instr) (kind : AskKind) (o : Option Atoms) → Stays m.place (looks m i kind o)
looks_stays m i kind None = tt
looks_stays m i kind (Some path) =
    look_stays m i (record { kind = kind; path = path }) (own_answer m.writes (record { kind = kind; path = path }))

either_stays : (p : ℕ) (t : Bool) (a b : Machine × Effect) → Stays p a → Stays p b → Stays p (cond t a b)
either_stays p true a b h k = h
either_stays p false a b h k = k

write_stays : (d : Description) (p : ℕ) (m : Machine) (bytes : List ℕ) (o : Option Atoms) → Stays p (writes_at d m bytes o)
write_stays d p m bytes None = tt
write_stays d p m bytes (Some path) =
    either_stays p (permits d path) _ _
    (either_stays p (clashes m.writes path) _ (written m path bytes) tt (either_stays p (nat_lt MAX_OUTPUT (m.spent + length bytes)) _ _ tt tt)) tt

pub act_stays : (d : Description) (m : Machine) (i : Instr) → Stays m.place (act d m i)
act_stays d m (instrs.Set r x) = effect_stays m.place (fitting m r (value m x))
act_stays d m (instrs.Cat r x y) = effect_stays m.place (fitting m r (value m x ++ value m y))
act_stays d m (instrs.Len r x) = effect_stays m.place (fitting m r (decimal (length (value m x))))
act_stays d m (instrs.Head r x n) =
    number_stays m.place m (number_of (value m n)) (λ k. effect_of (fitting m r (take k (value m x)))) (λ k. effect_stays m.place (fitting m r (take k (value m x))))
act_stays d m (instrs.Tail r x n) =
    number_stays m.place m (number_of (value m n)) (λ k. effect_of (fitting m r (drop k (value m x)))) (λ k. effect_stays m.place (fitting m r (drop k (value m x))))
act_stays d m (instrs.Split r s x y) =
    effect_stays m.place (fitting_two m r s (split_parts (value m y) (value m x)).0 (split_parts (value m y) (value m x)).1)
act_stays d m (instrs.Arg r n label) =
    number_stays m.place m (number_of (value m n)) (λ k. or_jump m r label (slice_get d.args k)) (λ k. jump_stays m.place m r label (slice_get d.args k))
act_stays d m (instrs.Args r) = effect_stays m.place (fitting m r (decimal (length d.args)))
act_stays d m (instrs.Env r x label) = jump_stays m.place m r label (variable d.env (value m x))
act_stays d m (instrs.Eq x y label) = tt
act_stays d m (instrs.Jump label) = tt
act_stays d m (instrs.Exit n) = tt
act_stays d m (instrs.Say x) = either_stays m.place (nat_lt MAX_OUTPUT (m.spent + length (value m x) + 1)) _ _ tt tt
act_stays d m (instrs.Read r x label) = looks_stays m (instrs.Read r x label) kinds.Read (resolved d.dir (value m x))
act_stays d m (instrs.Probe r x) = looks_stays m (instrs.Probe r x) kinds.Probe (resolved d.dir (value m x))
act_stays d m (instrs.List r x) = looks_stays m (instrs.List r x) kinds.List (resolved d.dir (value m x))
act_stays d m (instrs.Match r x y) =
    either_stays m.place (is_pattern (value m y)) _ _ (looks_stays m (instrs.Match r x y) (kinds.Match (value m y)) (resolved d.dir (value m x))) tt
act_stays d m (instrs.Write x y) = write_stays d m.place m (value m y) (resolved d.dir (value m x))

-- the machine that an instruction left where it put an ask
pub asks_there : (d : Description) (m m' : Machine) (i : Instr) (ask : Ask) (effect : Effect) → (m', effect) ≡ act d m i → effect ≡ effects.Asks ask → m'.place ≡ m.place
asks_there d m m' i ask effect e asks =
    let stays : Stays m.place (m', effect) = subst (Stays m.place) (sym e) (act_stays d m i) in
    subst (λ (x : Effect). Stays m.place (m', x)) asks stays
