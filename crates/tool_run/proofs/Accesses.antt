-- A run's asks are answered, a denied access is its last and only one, and what it writes is permitted,
-- in the order of paths, and none of it below another.
use Rattle.std.proofs.Common.{◌≡◌, ◌≢◌, ℕ, ◌+◌, ◌≤◌, zero, suc, true, false, Bool, ◌||◌, cond, List, [], ◌∷◌, ◌++◌, length, codes, take, drop, Option, Some, None, refl, ap, sym, ◌∙◌, subst, arith, append_assoc, IsTrue, true≢false}
use Rattle.std.specs.Prelude.{slice_get, nat_lt}
use Rattle.std.specs.Str.{bytes_eq}
use Rattle.std.specs.Fmt.{decimal}
use Rattle.std.specs.List.{AllByRecursion}
use Rattle.std.specs.List.Sorted.{IsStrictlySortedBy}
use Rattle.std.specs.BTreeMap.{insert_entry}
use Rattle.std.specs.Ordering.{match_ordering}
use Rattle.std.specs.declared.cmp.Ordering.{Ordering}
use Rattle.std.specs.declared.cmp.Ordering.TheVariants.{Less, Equal, Greater}
use Rattle.bx_tree.specs.Paths.{Atoms, path_cmp}
use Rattle.bx_tree.specs.Trees.{Files, NoneNested, file_at, paths_of}
use Rattle.bx_tree.proofs.Lists.{all_append}
use Rattle.bx_path.specs.Globbing.{is_pattern}
use Rattle.observed.specs.Asks.{is_listing}
use Rattle.observed.specs.declared.ask.AskKind.{AskKind}
use Rattle.observed.specs.declared.ask.AskKind.TheVariants as kinds
use Rattle.observed.specs.declared.ask.Ask.{Ask}
use Rattle.observed.specs.declared.access.Access.{Access}
use Rattle.observed.specs.declared.access.Access.TheVariants.{Asked, WriteDenied}
use Rattle.observed.specs.declared.access.Answer.{Answer}
use Rattle.observed.specs.declared.access.Answer.TheVariants as answers
use Rattle.observed.specs.declared.access.End.{End}
use Rattle.observed.specs.declared.access.End.TheVariants as ends
use Rattle.pip_model_types.specs.Made.{RisingFiles}
use Rattle.tool_text.specs.declared.tool.Operand.{Operand}
use Rattle.tool_text.specs.declared.tool.Instr.{Instr}
use Rattle.tool_text.specs.declared.tool.Instr.TheVariants as instrs
use Rattle.tool_run.specs.declared.effect.Effect.{Effect}
use Rattle.tool_run.specs.declared.effect.Effect.TheVariants as effects
use Rattle.tool_run.specs.declared.limits.TheConstants.{MAX_REGISTER, MAX_OUTPUT}
use Rattle.tool_run.specs.Description.{Description, answer_of, permits, resolved}
use Rattle.tool_run.specs.Machine.{Machine, at_place, effect_of, fitting, fitting_two, next, start, written}
use Rattle.tool_run.specs.Values.{number_of, split_parts, variable}
use Rattle.tool_run_writes.specs.Writes.{clashes, own_answer, own_file, has_below}
use Rattle.tool_run_writes.proofs.Unnested.{none_unnested, put_rising, put_unnested}
use Rattle.tool_run.specs.Instructions.{act, list_with, look_up, looks, looks_by, or_jump, probe_with, read_with, value, with_answer, with_number, writes_at}
use Rattle.tool_run.specs.Laws.{EndsDenied, IsAnswered, IsDenied, RunInvariant}
use Rattle.tool_run.specs.Run.{Run, Turn, at_end_or, ended, onward, run_from, run_of, run_tool, turn, turned}

-- ## One instruction

abbrev pub ArePermitted : Description → Files → Type 0
ArePermitted d writes = AllByRecursion (λ f. IsTrue (permits d f.0)) writes

-- the written files have permitted paths, which rise, and none lies below another
pub record Lawful (d : Description) (writes : Files) : Type 0 where
  pub permitted : ArePermitted d writes
  pub rising : RisingFiles writes
  pub unnested : NoneNested (paths_of writes)

-- an end is no denial
abbrev pub IsOther : Option End → Type 0
IsOther None = Unit {0}
IsOther (Some end) = end ≢ ends.Denied

-- an end is a denial exactly where the access is denied
abbrev pub TellsDenied : Access → Option End → Type 0
TellsDenied access None = ¬ IsDenied access
TellsDenied access (Some end) = (end ≡ ends.Denied → IsDenied access) × (end ≢ ends.Denied → ¬ IsDenied access)

-- the writes are as before, and the end is no denial
pub record Plain (m : Machine) (t : Machine × Option End) : Type 0 where
  pub writes : t.0.writes ≡ m.writes
  pub end : IsOther t.1

-- an ask that was answered leaves the writes as they were, and ends as a denial exactly where it is one
pub record Tells (m : Machine) (ask : Ask) (answer : Answer) (t : Machine × Option End) : Type 0 where
  pub writes : t.0.writes ≡ m.writes
  pub end : TellsDenied (Asked ask answer) t.1

abbrev pub EffectFair : Instr → Machine → Effect → Type 0
EffectFair i m effects.Goes = Unit {0}
EffectFair i m (effects.Asks ask) = (answer : Answer) → Tells m ask answer (with_answer m i ask answer)
EffectFair i m (effects.Wrote path) = Unit {0}
EffectFair i m (effects.Refused path) = Unit {0}
EffectFair i m (effects.Stops end) = end ≢ ends.Denied

pub record Fair (d : Description) (i : Instr) (t : Machine × Effect) : Type 0 where
  pub writes : Lawful d t.0.writes
  pub effect : EffectFair i t.0 t.1

plain_if : (m m' : Machine) (t : Bool) → m'.writes ≡ m.writes → Plain m (cond t (m, Some ends.TooLong) (m', None))
plain_if m m' true same = record { writes = refl; end = λ (e : ends.TooLong ≡ ends.Denied). cc }
plain_if m m' false same = record { writes = same; end = tt }

fitting_plain : (m : Machine) (r : ℕ) (bytes : List ℕ) → Plain m (fitting m r bytes)
fitting_plain m r bytes = plain_if m _ (nat_lt MAX_REGISTER (length bytes)) refl

two_plain : (m : Machine) (r s : ℕ) (xs ys : List ℕ) → Plain m (fitting_two m r s xs ys)
two_plain m r s xs ys = plain_if m _ (nat_lt MAX_REGISTER (length xs) || nat_lt MAX_REGISTER (length ys)) refl

effect_plain : (d : Description) (i : Instr) (m : Machine) (t : Machine × Option End) → Lawful d m.writes → Plain m t → Fair d i (effect_of t)
effect_plain d i m (m', None) h p = record { writes = subst (Lawful d) (sym p.writes) h; effect = tt }
effect_plain d i m (m', Some end) h p = record { writes = subst (Lawful d) (sym p.writes) h; effect = p.end }

stops_fair : (d : Description) (i : Instr) (m : Machine) (end : End) → Lawful d m.writes → end ≢ ends.Denied → Fair d i (m, effects.Stops end)
stops_fair d i m end h other = record { writes = h; effect = other }

number_fair : (d : Description) (i : Instr) (m : Machine) (n : Option ℕ) (f : ℕ → Machine × Effect) → Lawful d m.writes → ((k : ℕ) → Fair d i (f k))
    → Fair d i (with_number m n f)
number_fair d i m None f h all = stops_fair d i m ends.BadProgram h (λ e. cc)
number_fair d i m (Some k) f h all = all k

jump_fair : (d : Description) (i : Instr) (m : Machine) (r label : ℕ) (o : Option (List ℕ)) → Lawful d m.writes → Fair d i (or_jump m r label o)
jump_fair d i m r label None h = record { writes = h; effect = tt }
jump_fair d i m r label (Some bytes) h = effect_plain d i m (fitting m r bytes) h (fitting_plain m r bytes)

said_fair : (d : Description) (i : Instr) (m m' : Machine) (t : Bool) → Lawful d m.writes → m'.writes ≡ m.writes
    → Fair d i (cond t (m, effects.Stops ends.TooLong) (m', effects.Goes))
said_fair d i m m' true h same = record { writes = h; effect = λ (e : ends.TooLong ≡ ends.Denied). cc }
said_fair d i m m' false h same = record { writes = subst (Lawful d) (sym same) h; effect = tt }

eq_fair : (d : Description) (i : Instr) (m a b : Machine) (t : Bool) → Lawful d m.writes → a.writes ≡ m.writes → b.writes ≡ m.writes
    → Fair d i (cond t a b, effects.Goes)
eq_fair d i m a b true h same other = record { writes = subst (Lawful d) (sym same) h; effect = tt }
eq_fair d i m a b false h same other = record { writes = subst (Lawful d) (sym other) h; effect = tt }

-- ## Looks

plain_tells : (m : Machine) (ask : Ask) (answer : Answer) (t : Machine × Option End) → Plain m t → (IsDenied (Asked ask answer) → ⊥) → Tells m ask answer t
plain_tells m ask answer (m', None) p none = record { writes = p.writes; end = none }
plain_tells m ask answer (m', Some end) p none = record { writes = p.writes; end = (λ e. absurd (p.end e), λ e. none) }

goes_plain : (m m' : Machine) → m'.writes ≡ m.writes → Plain m (m', None)
goes_plain m m' same = record { writes = same; end = tt }

denies : (m : Machine) (kind : AskKind) (path : Atoms) → is_listing kind ≡ false → Tells m (record { kind = kind; path = path }) answers.Denied (m, Some ends.Denied)
denies m kind path other = record { writes = refl; end = (λ e. (other, refl), λ e. absurd (e refl)) }

read_tells : (m : Machine) (r label : ℕ) (path : Atoms) (answer : Answer) → Tells m (record { kind = kinds.Read; path = path }) answer (read_with m r label answer)
read_tells m r label path (answers.Content bytes) = plain_tells m _ (answers.Content bytes) _ (fitting_plain m r bytes) (λ h. let e = h.1 in cc)
read_tells m r label path answers.Denied = denies m kinds.Read path refl
read_tells m r label path answers.Absent = plain_tells m _ answers.Absent _ (goes_plain m _ refl) (λ h. let e = h.1 in cc)
read_tells m r label path answers.File = plain_tells m _ answers.File _ (goes_plain m _ refl) (λ h. let e = h.1 in cc)
read_tells m r label path answers.Directory = plain_tells m _ answers.Directory _ (goes_plain m _ refl) (λ h. let e = h.1 in cc)
read_tells m r label path (answers.Names names) = plain_tells m _ (answers.Names names) _ (goes_plain m _ refl) (λ h. let e = h.1 in cc)

probe_tells : (m : Machine) (r : ℕ) (path : Atoms) (answer : Answer) → Tells m (record { kind = kinds.Probe; path = path }) answer (probe_with m r answer)
probe_tells m r path (answers.Content bytes) = plain_tells m _ (answers.Content bytes) _ (fitting_plain m r (codes "file")) (λ h. let e = h.1 in cc)
probe_tells m r path answers.Denied = denies m kinds.Probe path refl
probe_tells m r path answers.Absent = plain_tells m _ answers.Absent _ (fitting_plain m r (codes "absent")) (λ h. let e = h.1 in cc)
probe_tells m r path answers.File = plain_tells m _ answers.File _ (fitting_plain m r (codes "file")) (λ h. let e = h.1 in cc)
probe_tells m r path answers.Directory = plain_tells m _ answers.Directory _ (fitting_plain m r (codes "directory")) (λ h. let e = h.1 in cc)
probe_tells m r path (answers.Names names) = plain_tells m _ (answers.Names names) _ (fitting_plain m r (codes "absent")) (λ h. let e = h.1 in cc)

-- a listing is never denied
list_tells : (m : Machine) (r : ℕ) (ask : Ask) (answer : Answer) → is_listing ask.kind ≡ true → Tells m ask answer (list_with m r ask answer)
list_tells m r ask answer listing = plain_tells m ask answer _ (fitting_plain m r _) (λ h. true≢false (sym listing ∙ h.0))

-- what the run's own writes answer denies nothing
read_fair : (d : Description) (m : Machine) (r label : ℕ) (x : Operand) (path : Atoms) (file : Option (List ℕ)) (below : Bool) → Lawful d m.writes
    → Fair d (instrs.Read r x label) (look_up m (instrs.Read r x label) (record { kind = kinds.Read; path = path }) (own_file kinds.Read file below))
read_fair d m r label x path (Some bytes) below h = effect_plain d _ m _ h (fitting_plain m r bytes)
read_fair d m r label x path None true h = effect_plain d _ m _ h (goes_plain m _ refl)
read_fair d m r label x path None false h = record { writes = h; effect = read_tells m r label path }

probe_fair : (d : Description) (m : Machine) (r : ℕ) (x : Operand) (path : Atoms) (file : Option (List ℕ)) (below : Bool) → Lawful d m.writes
    → Fair d (instrs.Probe r x) (look_up m (instrs.Probe r x) (record { kind = kinds.Probe; path = path }) (own_file kinds.Probe file below))
probe_fair d m r x path (Some bytes) below h = effect_plain d _ m _ h (fitting_plain m r (codes "file"))
probe_fair d m r x path None true h = effect_plain d _ m _ h (fitting_plain m r (codes "directory"))
probe_fair d m r x path None false h = record { writes = h; effect = probe_tells m r path }

list_fair : (d : Description) (m : Machine) (r : ℕ) (x : Operand) (path : Atoms) (file : Option (List ℕ)) (below : Bool) → Lawful d m.writes
    → Fair d (instrs.List r x) (look_up m (instrs.List r x) (record { kind = kinds.List; path = path }) (own_file kinds.List file below))
list_fair d m r x path (Some bytes) below h = effect_plain d _ m _ h (fitting_plain m r _)
list_fair d m r x path None below h = record { writes = h; effect = λ answer. list_tells m r (record { kind = kinds.List; path = path }) answer refl }

match_fair : (d : Description) (m : Machine) (r : ℕ) (x y : Operand) (pattern : List ℕ) (path : Atoms) (file : Option (List ℕ)) (below : Bool) → Lawful d m.writes
    → Fair d (instrs.Match r x y) (look_up m (instrs.Match r x y) (record { kind = kinds.Match pattern; path = path }) (own_file (kinds.Match pattern) file below))
match_fair d m r x y pattern path (Some bytes) below h = effect_plain d _ m _ h (fitting_plain m r _)
match_fair d m r x y pattern path None below h =
    record { writes = h; effect = λ answer. list_tells m r (record { kind = kinds.Match pattern; path = path }) answer refl }

looks_fair : (d : Description) (m : Machine) (i : Instr) (kind : AskKind) (o : Option Atoms) → Lawful d m.writes
    → ((path : Atoms) → Fair d i (look_up m i (record { kind = kind; path = path }) (own_answer m.writes (record { kind = kind; path = path }))))
    → Fair d i (looks m i kind o)
looks_fair d m i kind None h all = stops_fair d i m ends.BadPath h (λ e. cc)
looks_fair d m i kind (Some path) h all = all path

by_fair : (d : Description) (m : Machine) (i : Instr) (pattern : List ℕ) (o : Option Atoms) → Lawful d m.writes → Fair d i (looks m i (kinds.Match pattern) o)
    → Fair d i (looks_by m i pattern o)
by_fair d m i pattern o h fair = by_pattern (is_pattern pattern)
  where
    by_pattern : (t : Bool) → Fair d i (cond t (looks m i (kinds.Match pattern) o) (m, effects.Stops ends.BadProgram))
    by_pattern true = fair
    by_pattern false = stops_fair d i m ends.BadProgram h (λ e. cc)

-- ## Writes

inserted : (d : Description) (writes : Files) (path : Atoms) (bytes : List ℕ) → ArePermitted d writes → permits d path ≡ true
    → ArePermitted d (insert_entry path_cmp writes path bytes)
inserted d [] path bytes h may = (may, tt)
inserted d (f ∷ fs) path bytes h may = by_order (path_cmp path f.0) (insert_entry path_cmp fs path bytes) (inserted d fs path bytes h.1 may)
  where
    by_order : (o : Ordering) (rest : Files) → ArePermitted d rest
        → ArePermitted d (match_ordering o ((path, bytes) ∷ f ∷ fs) ((f.0, bytes) ∷ fs) (f ∷ rest))
    by_order Less rest more = (may, h)
    by_order Equal rest more = (h.0, h.1)
    by_order Greater rest more = (h.0, more)

put_lawful : (d : Description) (writes : Files) (path : Atoms) (bytes : List ℕ) → Lawful d writes → permits d path ≡ true → clashes writes path ≡ false
    → Lawful d (insert_entry path_cmp writes path bytes)
put_lawful d writes path bytes h may apart = record {
  permitted = inserted d writes path bytes h.permitted may;
  rising = put_rising writes path bytes h.rising;
  unnested = put_unnested writes path bytes h.unnested apart;
}

write_fair : (d : Description) (i : Instr) (m : Machine) (bytes : List ℕ) (o : Option Atoms) → Lawful d m.writes → Fair d i (writes_at d m bytes o)
write_fair d i m bytes None h = stops_fair d i m ends.BadPath h (λ e. cc)
write_fair d i m bytes (Some path) h = by_permit (permits d path) refl
  where
    by_size : (t : Bool) (m' : Machine) → Lawful d m'.writes → Fair d i (cond t (m, effects.Stops ends.TooLong) (m', effects.Wrote path))
    by_size true m' more = stops_fair d i m ends.TooLong h (λ e. cc)
    by_size false m' more = record { writes = more; effect = tt }

    by_clash : (t : Bool) → permits d path ≡ true → clashes m.writes path ≡ t → Fair d i (cond t (m, effects.Stops ends.NotADirectory) (written m path bytes))
    by_clash true may clash = stops_fair d i m ends.NotADirectory h (λ e. cc)
    by_clash false may apart = by_size (nat_lt MAX_OUTPUT (m.spent + length bytes)) _ (put_lawful d m.writes path bytes h may apart)

    by_permit : (t : Bool) → permits d path ≡ t
        → Fair d i (cond t (cond (clashes m.writes path) (m, effects.Stops ends.NotADirectory) (written m path bytes)) (m, effects.Refused path))
    by_permit true may = by_clash (clashes m.writes path) may refl
    by_permit false may = record { writes = h; effect = tt }

pub act_fair : (d : Description) (m : Machine) (i : Instr) → Lawful d m.writes → Fair d i (act d m i)
act_fair d m (instrs.Set r x) h = effect_plain d _ m _ h (fitting_plain m r (value m x))
act_fair d m (instrs.Cat r x y) h = effect_plain d _ m _ h (fitting_plain m r (value m x ++ value m y))
act_fair d m (instrs.Len r x) h = effect_plain d _ m _ h (fitting_plain m r (decimal (length (value m x))))
act_fair d m (instrs.Head r x n) h =
    number_fair d _ m (number_of (value m n)) (λ k. effect_of (fitting m r (take k (value m x)))) h
    (λ k. effect_plain d _ m _ h (fitting_plain m r (take k (value m x))))
act_fair d m (instrs.Tail r x n) h =
    number_fair d _ m (number_of (value m n)) (λ k. effect_of (fitting m r (drop k (value m x)))) h
    (λ k. effect_plain d _ m _ h (fitting_plain m r (drop k (value m x))))
act_fair d m (instrs.Split r s x y) h =
    let parts = split_parts (value m y) (value m x) in
    effect_plain d _ m _ h (two_plain m r s parts.0 parts.1)
act_fair d m (instrs.Arg r n label) h = number_fair d _ m (number_of (value m n)) _ h (λ k. jump_fair d _ m r label (slice_get d.args k) h)
act_fair d m (instrs.Args r) h = effect_plain d _ m _ h (fitting_plain m r (decimal (length d.args)))
act_fair d m (instrs.Env r x label) h = jump_fair d _ m r label (variable d.env (value m x)) h
act_fair d m (instrs.Eq x y label) h = eq_fair d _ m (at_place m label) (next m) (bytes_eq (value m x) (value m y)) h refl refl
act_fair d m (instrs.Jump label) h = record { writes = h; effect = tt }
act_fair d m (instrs.Exit n) h = stops_fair d _ m (ends.Exit n) h (λ e. cc)
act_fair d m (instrs.Say x) h =
    said_fair d _ m
    (record m { place = m.place + 1; console = m.console ++ value m x ++ codes "\n"; spent = m.spent + length (value m x) + 1 })
    (nat_lt MAX_OUTPUT (m.spent + length (value m x) + 1)) h refl
act_fair d m (instrs.Read r x label) h =
    looks_fair d m _ kinds.Read (resolved d.dir (value m x)) h (λ path. read_fair d m r label x path (file_at m.writes path) (has_below m.writes path) h)
act_fair d m (instrs.Probe r x) h =
    looks_fair d m _ kinds.Probe (resolved d.dir (value m x)) h (λ path. probe_fair d m r x path (file_at m.writes path) (has_below m.writes path) h)
act_fair d m (instrs.List r x) h =
    looks_fair d m _ kinds.List (resolved d.dir (value m x)) h (λ path. list_fair d m r x path (file_at m.writes path) (has_below m.writes path) h)
act_fair d m (instrs.Match r x y) h =
    by_fair d m _ (value m y) (resolved d.dir (value m x)) h
    (looks_fair d m _ (kinds.Match (value m y)) (resolved d.dir (value m x)) h
    (λ path. match_fair d m r x y (value m y) path (file_at m.writes path) (has_below m.writes path) h))
act_fair d m (instrs.Write x y) h = write_fair d _ m (value m y) (resolved d.dir (value m x)) h

-- ## One turn

abbrev pub NoneDenied : List Access → Type 0
NoneDenied accesses = AllByRecursion (λ x. ¬ IsDenied x) accesses

-- the accesses have a denial exactly where the end is one
abbrev pub AreFair : List Access → Option End → Type 0
AreFair accesses None = NoneDenied accesses
AreFair accesses (Some end) = (end ≡ ends.Denied → EndsDenied accesses) × (end ≢ ends.Denied → NoneDenied accesses)

pub record FairTurn (d : Description) (a : Ask → Answer) (t : Turn) : Type 0 where
  pub answered : AllByRecursion (IsAnswered d a) t.accesses
  pub accesses : AreFair t.accesses t.end
  pub writes : Lawful d t.machine.writes

one_denied : (x : Access) → IsDenied x → EndsDenied (x ∷ [])
one_denied x h = record { before = []; last = x; accesses_are = refl; denied = h; others = tt }

one_fair : (x : Access) (end : Option End) → TellsDenied x end → AreFair (x ∷ []) end
one_fair x None h = (h, tt)
one_fair x (Some end) h = (λ e. one_denied x (h.0 e), λ e. (h.1 e, tt))

turned_fair : (d : Description) (a : Ask → Answer) (i : Instr) (m : Machine) (effect : Effect) → Fair d i (m, effect) → FairTurn d a (turned (answer_of d a) i (m, effect))
turned_fair d a i m effects.Goes h = record { answered = tt; accesses = tt; writes = h.writes }
turned_fair d a i m (effects.Asks ask) h =
    let answer = answer_of d a ask in
    let tells = h.effect answer in
    record {
      answered = (refl, tt);
      accesses = one_fair (Asked ask answer) (with_answer m i ask answer).1 tells.end;
      writes = subst (Lawful d) (sym tells.writes) h.writes;
    }
turned_fair d a i m (effects.Wrote path) h = record { answered = (tt, tt); accesses = (λ (k : ⊥). k, tt); writes = h.writes }
turned_fair d a i m (effects.Refused path) h =
    record { answered = (tt, tt); accesses = (λ e. one_denied (WriteDenied path) tt, λ e. absurd (e refl)); writes = h.writes }
turned_fair d a i m (effects.Stops end) h = record { answered = tt; accesses = (λ e. absurd (h.effect e), λ e. tt); writes = h.writes }

turn_fair : (d : Description) (a : Ask → Answer) (m : Machine) (i : Instr) → Lawful d m.writes → FairTurn d a (turn d a m i)
turn_fair d a m i h = turned_fair d a i (act d m i).0 (act d m i).1 (act_fair d m i h)

-- ## All turns

-- what holds of a run from a machine on, with a number of steps left
pub record HoldsFrom (d : Description) (a : Ask → Answer) (left : ℕ) (r : Run) : Type 0 where
  pub answered : AllByRecursion (IsAnswered d a) r.accesses
  pub denied : r.end ≡ ends.Denied → EndsDenied r.accesses
  pub not_denied : r.end ≢ ends.Denied → NoneDenied r.accesses
  pub steps : r.steps ≤ left
  pub lawful : Lawful d r.writes

denied_later : (xs ys : List Access) → NoneDenied xs → EndsDenied ys → EndsDenied (xs ++ ys)
denied_later xs ys none h = record {
  before = xs ++ h.before;
  last = h.last;
  accesses_are = ap (λ t. xs ++ t) h.accesses_are ∙ sym (append_assoc xs h.before (h.last ∷ []));
  denied = h.denied;
  others = all_append (λ x. ¬ IsDenied x) xs h.before none h.others;
}

no_more : (xs : List Access) → xs ++ [] ≡ xs
no_more [] = refl
no_more (x ∷ xs) = ap (λ t. x ∷ t) (no_more xs)

ended_holds : (d : Description) (a : Ask → Answer) (left : ℕ) (m : Machine) (end : End) → Lawful d m.writes → end ≢ ends.Denied → HoldsFrom d a left (ended m end)
ended_holds d a left m end h other = record { answered = tt; denied = λ e. absurd (other e); not_denied = λ e. tt; steps = omega arith; lawful = h }

onward_holds : (d : Description) (a : Ask → Answer) (left : ℕ) (rest : Machine → Run) (t : Turn) (end : Option End)
    → AllByRecursion (IsAnswered d a) t.accesses → AreFair t.accesses end → Lawful d t.machine.writes
    → ((m : Machine) → Lawful d m.writes → HoldsFrom d a left (rest m)) → HoldsFrom d a (suc left) (onward rest t end)
onward_holds d a left rest t None answered fair writes all =
    let more = all t.machine writes in
    let steps = more.steps in
    record {
      answered = all_append (IsAnswered d a) t.accesses (rest t.machine).accesses answered more.answered;
      denied = λ e. denied_later t.accesses (rest t.machine).accesses fair (more.denied e);
      not_denied = λ e. all_append (λ x. ¬ IsDenied x) t.accesses (rest t.machine).accesses fair (more.not_denied e);
      steps = omega (arith, steps);
      lawful = more.lawful;
    }
onward_holds d a left rest t (Some end) answered fair writes all = record {
  answered = subst (AllByRecursion (IsAnswered d a)) (sym (no_more t.accesses)) answered;
  denied = λ e. subst EndsDenied (sym (no_more t.accesses)) (fair.0 e);
  not_denied = λ e. subst NoneDenied (sym (no_more t.accesses)) (fair.1 e);
  steps = omega arith;
  lawful = writes;
}

step_holds : (d : Description) (a : Ask → Answer) (left : ℕ) (m : Machine) (o : Option Instr) (rest : Instr → Run) → Lawful d m.writes
    → ((i : Instr) → HoldsFrom d a left (rest i)) → HoldsFrom d a left (at_end_or m o rest)
step_holds d a left m None rest h all = ended_holds d a left m (ends.Exit 0) h (λ e. cc)
step_holds d a left m (Some i) rest h all = all i

from_holds : (d : Description) (a : Ask → Answer) (tool : List Instr) (left : ℕ) (m : Machine) → Lawful d m.writes → HoldsFrom d a left (run_from d a tool left m)
from_holds d a tool zero m h = step_holds d a zero m (slice_get tool m.place) _ h (λ i. ended_holds d a zero m ends.Budget h (λ e. cc))
from_holds d a tool (suc left) m h =
    step_holds d a (suc left) m (slice_get tool m.place) _ h (λ i.
    let t = turn_fair d a m i h in
    onward_holds d a left (run_from d a tool left) (turn d a m i) (turn d a m i).end t.answered t.accesses t.writes (λ m' h'. from_holds d a tool left m' h'))

start_lawful : (d : Description) → Lawful d []
unfolding IsStrictlySortedBy
start_lawful d = record { permitted = tt; rising = tt; unnested = none_unnested }

tool_holds : (d : Description) (a : Ask → Answer) (tool : Option (List Instr)) → HoldsFrom d a d.budget (run_tool d a tool)
tool_holds d a None = ended_holds d a d.budget start ends.BadProgram (start_lawful d) (λ e. cc)
tool_holds d a (Some tool) = from_holds d a tool d.budget start (start_lawful d)

pub holds : (d : Description) (a : Ask → Answer) → RunInvariant d a (run_of d a)
holds d a =
    let h = tool_holds d a d.tool in
    record {
      answered = h.answered;
      denied = h.denied;
      not_denied = h.not_denied;
      steps = h.steps;
      permitted = h.lawful.permitted;
      rising = h.lawful.rising;
      unnested = h.lawful.unnested;
    }
