-- The settings that were read so far, and those that may follow.
use Rattle.std.proofs.Common.{◌≡◌, ℕ, Bool, true, false, ◌||◌, cond, List, [], ◌∷◌, ◌++◌, Option, Some, None, refl, ap, sym, subst, ◌∙◌, append_assoc, arith, length, map}
use Rattle.std.specs.List.{AllByRecursion, IsDistinct, list_any}
use Rattle.std.specs.Option.{is_some}
use Rattle.std.proofs.lemmas.List.{append-nil}
use Rattle.std.proofs.lemmas.Bool.{or_parts}
use Rattle.std.specs.Prelude.{MatchOption}
use Rattle.bx_engine_words.specs.declared.command.Command.{Command}
use Rattle.bx_engine_words.specs.declared.command.Command.TheVariants as commands
use Rattle.bx_engine_words.specs.declared.given.Given.{Given}
use Rattle.bx_engine_words.specs.declared.order.Order.{Order}
use Rattle.bx_engine_words.specs.declared.setting.FlagOption.{FlagOption}
use Rattle.bx_engine_words.specs.declared.setting.FlagOption.TheVariants as flags
use Rattle.bx_engine_words.specs.declared.setting.NumberOption.{NumberOption}
use Rattle.bx_engine_words.specs.declared.setting.NumberOption.TheVariants as options
use Rattle.bx_engine_words.specs.declared.setting.Setting.{Setting}
use Rattle.bx_engine_words.specs.declared.setting.Setting.TheVariants.{Number, Flag}
use Rattle.bx_engine_words.specs.Commands.{command_of, order_of}
use Rattle.bx_engine_words.specs.Given.{given_of, is_given, order_with_given, with_setting}
use Rattle.bx_engine_words.specs.Settings.{AreSettings, BeginWith, has_flag, is_same, same_flag, same_option, value_of}
use Rattle.bx_engine_words.specs.Words.{AreOptions}
use Rattle.bx_engine_words.proofs.OneSetting.{none_begin, one_beginning}

-- ## One setting more

-- a setting is of the option of one of these
abbrev pub is_among : List Setting → Setting → Bool
is_among ss s = list_any (λ x. is_same x s) ss

or_some : {X : Type 0} (b : Bool) (x : X) (o : Option X) → is_some (cond b (Some x) o) ≡ (b || is_some o)
or_some true x o = refl
or_some false x o = refl

value_among : (option : NumberOption) (n : ℕ) (ss : List Setting)
    → is_some (value_of option ss) ≡ is_among ss (Number option n)
value_among option n [] = refl
value_among option n (Number other m ∷ ss) =
    or_some (same_option other option) m (value_of option ss)
    ∙ ap (λ b. same_option other option || b) (value_among option n ss)
value_among option n (Flag flag ∷ ss) = value_among option n ss

given_among : (ss : List Setting) (s : Setting) → is_given (given_of ss) s ≡ is_among ss s
given_among ss (Number options.Workers n) = value_among options.Workers n ss
given_among ss (Number options.EvalBudget n) = value_among options.EvalBudget n ss
given_among ss (Number options.ToolBudget n) = value_among options.ToolBudget n ss
given_among ss (Number options.Keep n) = value_among options.Keep n ss
given_among ss (Number options.Seed n) = value_among options.Seed n ss
given_among ss (Number options.Pips n) = value_among options.Pips n ss
given_among ss (Flag flags.NoCache) = refl
given_among ss (Flag flags.Types) = refl
given_among ss (Flag flags.GraphCache) = refl

last_after : (b : Bool) (m n : ℕ) (o p : Option ℕ) → is_some (cond b (Some m) o) ≡ false
    → (is_some o ≡ false → p ≡ Some n) → cond b (Some m) p ≡ Some n
last_after true m n o p free h = absurd cc
last_after false m n o p free h = h free

-- the option of the last setting is not set before
set_last : (option : NumberOption) (n : ℕ) (ss : List Setting) → is_some (value_of option ss) ≡ false
    → same_option option option ≡ true → value_of option (ss ++ Number option n ∷ []) ≡ Some n
set_last option n [] free same = ap (λ b. cond b (Some n) None) same
set_last option n (Number other m ∷ ss) free same =
    last_after (same_option other option) m n (value_of option ss) (value_of option (ss ++ Number option n ∷ [])) free
    (λ free_before. set_last option n ss free_before same)
set_last option n (Flag flag ∷ ss) free same = set_last option n ss free same

-- other options are set as before
set_other : (option other : NumberOption) (n : ℕ) (ss : List Setting) → same_option other option ≡ false
    → value_of option (ss ++ Number other n ∷ []) ≡ value_of option ss
set_other option other n [] differ = ap (λ b. cond b (Some n) None) differ
set_other option other n (Number third m ∷ ss) differ =
    ap (λ o. cond (same_option third option) (Some m) o) (set_other option other n ss differ)
set_other option other n (Flag flag ∷ ss) differ = set_other option other n ss differ

set_flag : (option : NumberOption) (last : FlagOption) (ss : List Setting)
    → value_of option (ss ++ Flag last ∷ []) ≡ value_of option ss
set_flag option last [] = refl
set_flag option last (Number other m ∷ ss) =
    ap (λ o. cond (same_option other option) (Some m) o) (set_flag option last ss)
set_flag option last (Flag flag ∷ ss) = set_flag option last ss

number_flagged : (flag : FlagOption) (option : NumberOption) (n : ℕ) (ss : List Setting)
    → has_flag flag (ss ++ Number option n ∷ []) ≡ has_flag flag ss
number_flagged flag option n [] = refl
number_flagged flag option n (s ∷ ss) = ap (λ b. is_same s (Flag flag) || b) (number_flagged flag option n ss)

or_true : (b : Bool) → (b || true) ≡ true
or_true true = refl
or_true false = refl

flag_last : (flag : FlagOption) (ss : List Setting) → same_flag flag flag ≡ true → has_flag flag (ss ++ Flag flag ∷ []) ≡ true
flag_last flag [] same = ap (λ b. b || false) same
flag_last flag (s ∷ ss) same =
    ap (λ b. is_same s (Flag flag) || b) (flag_last flag ss same) ∙ or_true (is_same s (Flag flag))

other_flag_last : (flag last : FlagOption) (ss : List Setting) → same_flag last flag ≡ false
    → has_flag flag (ss ++ Flag last ∷ []) ≡ has_flag flag ss
other_flag_last flag last [] differ = ap (λ b. b || false) differ
other_flag_last flag last (s ∷ ss) differ =
    ap (λ b. is_same s (Flag flag) || b) (other_flag_last flag last ss differ)

abbrev all_given : (w e t k s p : Option ℕ) → Bool → Bool → Bool → Given
all_given w e t k s p c y g =
    record { workers = w; eval_budget = e; tool_budget = t; keep = k; seed = s; pips = p; no_cache = c; types = y; graph_cache = g }

same_given : {w1 w2 e1 e2 t1 t2 k1 k2 s1 s2 p1 p2 : Option ℕ} {c1 c2 y1 y2 g1 g2 : Bool} → w1 ≡ w2 → e1 ≡ e2 → t1 ≡ t2 → k1 ≡ k2
    → s1 ≡ s2 → p1 ≡ p2 → c1 ≡ c2 → y1 ≡ y2 → g1 ≡ g2
    → all_given w1 e1 t1 k1 s1 p1 c1 y1 g1 ≡ all_given w2 e2 t2 k2 s2 p2 c2 y2 g2
same_given a b c d e f g h i = cc

given_more : (ss : List Setting) (s : Setting) → is_given (given_of ss) s ≡ false
    → given_of (ss ++ s ∷ []) ≡ with_setting (given_of ss) s
given_more ss (Number options.Workers n) free =
    same_given (set_last options.Workers n ss free refl) (set_other options.EvalBudget options.Workers n ss refl) (set_other options.ToolBudget options.Workers n ss refl) (set_other options.Keep options.Workers n ss refl) (set_other options.Seed options.Workers n ss refl) (set_other options.Pips options.Workers n ss refl) (number_flagged flags.NoCache options.Workers n ss) (number_flagged flags.Types options.Workers n ss) (number_flagged flags.GraphCache options.Workers n ss)
given_more ss (Number options.EvalBudget n) free =
    same_given (set_other options.Workers options.EvalBudget n ss refl) (set_last options.EvalBudget n ss free refl) (set_other options.ToolBudget options.EvalBudget n ss refl) (set_other options.Keep options.EvalBudget n ss refl) (set_other options.Seed options.EvalBudget n ss refl) (set_other options.Pips options.EvalBudget n ss refl) (number_flagged flags.NoCache options.EvalBudget n ss) (number_flagged flags.Types options.EvalBudget n ss) (number_flagged flags.GraphCache options.EvalBudget n ss)
given_more ss (Number options.ToolBudget n) free =
    same_given (set_other options.Workers options.ToolBudget n ss refl) (set_other options.EvalBudget options.ToolBudget n ss refl) (set_last options.ToolBudget n ss free refl) (set_other options.Keep options.ToolBudget n ss refl) (set_other options.Seed options.ToolBudget n ss refl) (set_other options.Pips options.ToolBudget n ss refl) (number_flagged flags.NoCache options.ToolBudget n ss) (number_flagged flags.Types options.ToolBudget n ss) (number_flagged flags.GraphCache options.ToolBudget n ss)
given_more ss (Number options.Keep n) free =
    same_given (set_other options.Workers options.Keep n ss refl) (set_other options.EvalBudget options.Keep n ss refl) (set_other options.ToolBudget options.Keep n ss refl) (set_last options.Keep n ss free refl) (set_other options.Seed options.Keep n ss refl) (set_other options.Pips options.Keep n ss refl) (number_flagged flags.NoCache options.Keep n ss) (number_flagged flags.Types options.Keep n ss) (number_flagged flags.GraphCache options.Keep n ss)
given_more ss (Number options.Seed n) free =
    same_given (set_other options.Workers options.Seed n ss refl) (set_other options.EvalBudget options.Seed n ss refl) (set_other options.ToolBudget options.Seed n ss refl) (set_other options.Keep options.Seed n ss refl) (set_last options.Seed n ss free refl) (set_other options.Pips options.Seed n ss refl) (number_flagged flags.NoCache options.Seed n ss) (number_flagged flags.Types options.Seed n ss) (number_flagged flags.GraphCache options.Seed n ss)
given_more ss (Number options.Pips n) free =
    same_given (set_other options.Workers options.Pips n ss refl) (set_other options.EvalBudget options.Pips n ss refl) (set_other options.ToolBudget options.Pips n ss refl) (set_other options.Keep options.Pips n ss refl) (set_other options.Seed options.Pips n ss refl) (set_last options.Pips n ss free refl) (number_flagged flags.NoCache options.Pips n ss) (number_flagged flags.Types options.Pips n ss) (number_flagged flags.GraphCache options.Pips n ss)
given_more ss (Flag flags.NoCache) free =
    same_given (set_flag options.Workers flags.NoCache ss) (set_flag options.EvalBudget flags.NoCache ss) (set_flag options.ToolBudget flags.NoCache ss) (set_flag options.Keep flags.NoCache ss) (set_flag options.Seed flags.NoCache ss) (set_flag options.Pips flags.NoCache ss) (flag_last flags.NoCache ss refl) (other_flag_last flags.Types flags.NoCache ss refl) (other_flag_last flags.GraphCache flags.NoCache ss refl)
given_more ss (Flag flags.Types) free =
    same_given (set_flag options.Workers flags.Types ss) (set_flag options.EvalBudget flags.Types ss) (set_flag options.ToolBudget flags.Types ss) (set_flag options.Keep flags.Types ss) (set_flag options.Seed flags.Types ss) (set_flag options.Pips flags.Types ss) (other_flag_last flags.NoCache flags.Types ss refl) (flag_last flags.Types ss refl) (other_flag_last flags.GraphCache flags.Types ss refl)
given_more ss (Flag flags.GraphCache) free =
    same_given (set_flag options.Workers flags.GraphCache ss) (set_flag options.EvalBudget flags.GraphCache ss) (set_flag options.ToolBudget flags.GraphCache ss) (set_flag options.Keep flags.GraphCache ss) (set_flag options.Seed flags.GraphCache ss) (set_flag options.Pips flags.GraphCache ss) (other_flag_last flags.NoCache flags.GraphCache ss refl) (other_flag_last flags.Types flags.GraphCache ss refl) (flag_last flags.GraphCache ss refl)

-- ## Each option once

-- the setting is of another option than each of these
abbrev Differs : Setting → List Setting → Type 0
Differs s ss = AllByRecursion (λ x. is_same x s ≡ false) ss

differs_new : (ss : List Setting) (s : Setting) → is_among ss s ≡ false → Differs s ss
differs_new [] s e = tt
differs_new (x ∷ ss) s e =
    let parts = or_parts (is_same x s) (is_among ss s) e in
    (parts.0, differs_new ss s parts.1)

new_differs : (ss : List Setting) (s : Setting) → Differs s ss → is_among ss s ≡ false
new_differs [] s h = refl
new_differs (x ∷ ss) s h = ap (λ b. b || is_among ss s) h.0 ∙ new_differs ss s h.1

add_last : (P : Setting → Type 0) (ss : List Setting) (s : Setting) → AllByRecursion P ss → P s → AllByRecursion P (ss ++ s ∷ [])
add_last P [] s h p = (p, tt)
add_last P (x ∷ ss) s h p = (h.0, add_last P ss s h.1 p)

in_middle : (P : Setting → Type 0) (ss : List Setting) (s : Setting) (rest : List Setting) → AllByRecursion P (ss ++ s ∷ rest) → P s
in_middle P [] s rest h = h.0
in_middle P (x ∷ ss) s rest h = in_middle P ss s rest h.1

distinct_more : (ss : List Setting) (s : Setting) → IsDistinct is_same ss → Differs s ss → IsDistinct is_same (ss ++ s ∷ [])
unfolding IsDistinct
distinct_more [] s h k = (tt, tt)
distinct_more (x ∷ ss) s h k = (add_last (λ y. is_same x y ≡ false) ss s h.0 k.0, distinct_more ss s h.1 k.1)

distinct_before : (ss : List Setting) (s : Setting) (rest : List Setting) → IsDistinct is_same (ss ++ s ∷ rest) → Differs s ss
unfolding IsDistinct
distinct_before [] s rest h = tt
distinct_before (x ∷ ss) s rest h = (in_middle (λ y. is_same x y ≡ false) ss s rest h.0, distinct_before ss s rest h.1)

-- ## What was read

-- All but the rest of the words were read, as settings of different options of the command, which say this. Settings that the
-- words are begin with them.
pub record ReadSoFar (command : Command) (words rest : List (List ℕ)) (given : Given) : Type 0 where
  pub settings : List Setting
  pub of_command : AllByRecursion (λ s. command_of s ≡ command) settings
  pub given_is : given ≡ given_of settings
  pub distinct : IsDistinct is_same settings
  pub more : (others : List Setting) → AreSettings rest others → AreSettings words (settings ++ others)
  pub only : (all : List Setting) → AreSettings words all
      → (others : List Setting) × (all ≡ settings ++ others) × AreSettings rest others

pub none_read : (command : Command) (words : List (List ℕ)) (given : Given) → given ≡ given_of [] → ReadSoFar command words words given
unfolding IsDistinct
none_read command words given is = record {
  settings = [];
  of_command = tt;
  given_is = is;
  distinct = tt;
  more = λ others h. h;
  only = λ all h. (all, refl, h);
}

-- the settings after the next one
next_only : (rest after : List (List ℕ)) (s : Setting) (before all others : List Setting) → BeginWith rest s after
    → all ≡ before ++ others → AreSettings rest others
    → (more : List Setting) × (all ≡ before ++ s ∷ more) × AreSettings after more
next_only rest after s before all [] b e k = absurd (none_begin rest s after k b)
next_only rest after s before all (t ∷ ts) b e k =
    let one = one_beginning rest s t after k.0 b k.1 in (
      ts,
      e ∙ ap (λ (x : Setting). before ++ x ∷ ts) (sym one.0),
      subst (λ (r : List (List ℕ)). AreSettings r ts) (sym one.1) k.2,
    )

one_more : (command : Command) (words rest after : List (List ℕ)) (given next : Given) (s : Setting)
    → ReadSoFar command words rest given → BeginWith rest s after → command_of s ≡ command → is_given given s ≡ false
    → next ≡ with_setting given s → ReadSoFar command words after next
one_more command words rest after given next s h b own free is =
    let new : is_given (given_of h.settings) s ≡ false = subst (λ (g : Given). is_given g s ≡ false) h.given_is free in
    record {
      settings = h.settings ++ s ∷ [];
      of_command = add_last (λ x. command_of x ≡ command) h.settings s h.of_command own;
      given_is = is ∙ ap (λ (g : Given). with_setting g s) h.given_is ∙ sym (given_more h.settings s new);
      distinct = distinct_more h.settings s h.distinct
          (differs_new h.settings s (sym (given_among h.settings s) ∙ new));
      more = λ others k.
          subst (AreSettings words) (sym (append_assoc h.settings (s ∷ []) others)) (h.more (s ∷ others) (after, b, k));
      only = λ all k.
          let o = h.only all k in
          let n = next_only rest after s h.settings all o.0 b o.1 o.2 in
          (n.0, n.1 ∙ sym (append_assoc h.settings (s ∷ []) n.0), n.2);
    }

-- ## Where the words are no options

left_begin : (rest : List (List ℕ)) (others : List Setting) → ((s : Setting) (after : List (List ℕ)) → BeginWith rest s after → ⊥)
    → (rest ≡ [] → ⊥) → AreSettings rest others → ⊥
left_begin rest [] none some h = some h
left_begin rest (s ∷ others) none some h = none s h.0 h.1

no_setting_left : (command : Command) (words rest : List (List ℕ)) (given : Given) (order : Order) → ReadSoFar command words rest given
    → ((s : Setting) (after : List (List ℕ)) → BeginWith rest s after → ⊥) → (rest ≡ [] → ⊥) → AreOptions command words order → ⊥
no_setting_left command words rest given order h none some are =
    let o = h.only are.settings are.settings_are in left_begin rest o.0 none some o.2

true_not : (b : Bool) → b ≡ true → b ≡ false → ⊥
true_not b e f = cc

-- the setting is of another command
other_command : (command : Command) (words rest after : List (List ℕ)) (given : Given) (s : Setting) (order : Order)
    → ReadSoFar command words rest given → BeginWith rest s after → (command_of s ≡ command → ⊥) → AreOptions command words order → ⊥
other_command command words rest after given s order h b other are =
    let o = h.only are.settings are.settings_are in
    let n = next_only rest after s h.settings are.settings o.0 b o.1 o.2 in
    other (in_middle (λ x. command_of x ≡ command) h.settings s n.0
    (subst (AllByRecursion (λ (x : Setting). command_of x ≡ command)) n.1 are.of_command))

given_twice : (command : Command) (words rest after : List (List ℕ)) (given : Given) (s : Setting) (order : Order)
    → ReadSoFar command words rest given → BeginWith rest s after → is_given given s ≡ true → AreOptions command words order → ⊥
given_twice command words rest after given s order h b twice are =
    let o = h.only are.settings are.settings_are in
    let n = next_only rest after s h.settings are.settings o.0 b o.1 o.2 in
    true_not (is_given given s) twice
    (ap (λ (g : Given). is_given g s) h.given_is ∙ given_among h.settings s
    ∙ new_differs h.settings s (distinct_before h.settings s n.0 (subst (IsDistinct is_same) n.1 are.once)))

-- ## Where they are

same_order : (command : Command) (ss : List Setting) → order_with_given command (given_of ss) ≡ order_of command ss
same_order commands.Build ss = refl
same_order commands.Check ss = refl
same_order commands.Repair ss = refl
same_order commands.Trim ss = refl
same_order commands.Gen ss = refl

-- the settings that were read say this order, if they say one
order_read : (command : Command) (words rest : List (List ℕ)) (given : Given) (h : ReadSoFar command words rest given)
    → order_with_given command given ≡ order_of command h.settings
order_read command words rest given h = ap (order_with_given command) h.given_is ∙ same_order command h.settings

no_more : (rest : List (List ℕ)) (others : List Setting) → rest ≡ [] → AreSettings rest others → others ≡ []
no_more rest [] e h = refl
no_more rest (s ∷ others) e h = absurd (none_begin rest s h.0 e h.1)

none_or_some : (order : Order) → ◌≡◌ {A = Option Order} None (Some order) → ⊥
none_or_some order e = cc

-- nothing is left: the words are options of the order that was read, or of none
pub all_read : (command : Command) (words rest : List (List ℕ)) (given : Given) (found : Option Order)
    → ReadSoFar command words rest given → rest ≡ [] → found ≡ order_with_given command given
    → MatchOption found ((order : Order) → AreOptions command words order → ⊥) (λ order. AreOptions command words order)
all_read command words rest given None h none is = λ order are.
    let o = h.only are.settings are.settings_are in
    let same : are.settings ≡ h.settings = o.1 ∙ ap (λ (ss : List Setting). h.settings ++ ss) (no_more rest o.0 none o.2) ∙ append-nil h.settings in
    none_or_some order (is ∙ order_read command words rest given h ∙ ap (order_of command) (sym same) ∙ are.order_is)
all_read command words rest given (Some order) h none is = record {
  settings = h.settings;
  settings_are = subst (AreSettings words) (append-nil h.settings) (h.more [] none);
  of_command = h.of_command;
  once = h.distinct;
  order_is = sym (order_read command words rest given h) ∙ sym is;
}

-- ## Words in memory

-- the first of some words, by its text
pub starts : {S : Type 0} (text_of : S → List ℕ) (rest others : List S) (first : S) (text : List ℕ) → rest ≡ first ∷ others
    → text ≡ text_of first → map text_of rest ≡ text ∷ map text_of others
starts text_of rest others first text e is =
    ap (map text_of) e ∙ ap (λ (t : List ℕ). t ∷ map text_of others) (sym is)

pub no_words : {S : Type 0} (text_of : S → List ℕ) (rest : List S) → length rest ≡ 0 → map text_of rest ≡ []
no_words text_of [] e = refl
no_words text_of (word ∷ rest) e = absurd (omega (arith, e))

begins : (rest words : List (List ℕ)) (s : Setting) (after : List (List ℕ)) → rest ≡ words → BeginWith words s after
    → BeginWith rest s after
begins rest words s after e h = subst (λ (ws : List (List ℕ)). BeginWith ws s after) (sym e) h

pub next_is_none : (command : Command) (words rest others : List (List ℕ)) (first : List ℕ) (given : Given) (order : Order)
    → ReadSoFar command words rest given → rest ≡ first ∷ others
    → ((s : Setting) (after : List (List ℕ)) → BeginWith (first ∷ others) s after → ⊥) → AreOptions command words order → ⊥
next_is_none command words rest others first given order h e none are =
    no_setting_left command words rest given order h
    (λ s after b. none s after (begins (first ∷ others) rest s after (sym e) b))
    (λ empty. first_or_none empty e) are
  where
    first_or_none : rest ≡ [] → rest ≡ first ∷ others → ⊥
    first_or_none a b = cc

pub next_is_other : (command : Command) (words rest others after : List (List ℕ)) (first : List ℕ) (given : Given) (s : Setting)
    (order : Order) → ReadSoFar command words rest given → rest ≡ first ∷ others → BeginWith (first ∷ others) s after
    → (command_of s ≡ command → ⊥) → AreOptions command words order → ⊥
next_is_other command words rest others after first given s order h e b other are =
    other_command command words rest after given s order h (begins rest (first ∷ others) s after e b) other are

pub next_is_given : (command : Command) (words rest others after : List (List ℕ)) (first : List ℕ) (given : Given) (s : Setting)
    (order : Order) → ReadSoFar command words rest given → rest ≡ first ∷ others → BeginWith (first ∷ others) s after
    → is_given given s ≡ true → AreOptions command words order → ⊥
next_is_given command words rest others after first given s order h e b twice are =
    given_twice command words rest after given s order h (begins rest (first ∷ others) s after e b) twice are

pub next_is_new : (command : Command) (words rest others after : List (List ℕ)) (first : List ℕ) (given next : Given) (s : Setting)
    → ReadSoFar command words rest given → rest ≡ first ∷ others → BeginWith (first ∷ others) s after → command_of s ≡ command
    → is_given given s ≡ false → next ≡ with_setting given s → ReadSoFar command words after next
next_is_new command words rest others after first given next s h e b own free is =
    one_more command words rest after given next s h (begins rest (first ∷ others) s after e b) own free is
