-- Words are settings in one way at most.
use Rattle.std.proofs.Common.{◌≡◌, ℕ, ◌<◌, ◌+◌, ◌*◌, ◌^◌, Bool, true, false, ◌==◌, inl, inr, List, [], ◌∷◌, ◌++◌, codes, get_or, length, refl, ap, sym, subst, ◌∙◌, arith}
use Rattle.std.specs.Fmt.{decimal}
use Rattle.std.specs.Prelude.{◌↔◌, IsTrue}
use Rattle.std.specs.List.{after_first, before_first, list_any}
use Rattle.std.proofs.lemmas.Fmt.{decimal_injective}
use Rattle.std.proofs.lemmas.Bool.{both_ways}
use Rattle.std.proofs.lemmas.Option.{same_Some}
use Rattle.bx_engine_words.specs.declared.command.Command.{Command}
use Rattle.bx_engine_words.specs.declared.command.Command.TheVariants as commands
use Rattle.bx_engine_words.specs.declared.order.Order.{Order}
use Rattle.bx_engine_words.specs.declared.setting.FlagOption.{FlagOption}
use Rattle.bx_engine_words.specs.declared.setting.FlagOption.TheVariants as flags
use Rattle.bx_engine_words.specs.declared.setting.NumberOption.{NumberOption}
use Rattle.bx_engine_words.specs.declared.setting.NumberOption.TheVariants as options
use Rattle.bx_engine_words.specs.declared.setting.Setting.{Setting}
use Rattle.bx_engine_words.specs.declared.setting.Setting.TheVariants.{Number, Flag}
use Rattle.bx_engine_words.specs.Given.{IsNumber}
use Rattle.bx_engine_words.specs.Commands.{command_text, order_of}
use Rattle.bx_engine_words.specs.Settings.{AreSettings, BeginWith, IsValue, flag_text, option_text}
use Rattle.bx_engine_words.specs.Words.{AreOptions, Orders}

-- ## Options

abbrev pub is_equals : ℕ → Bool
is_equals b = b == 61

pub name_before : (option : NumberOption) (v : List ℕ)
    → before_first is_equals (option_text option ++ codes "=" ++ v) ≡ option_text option
name_before options.Workers v = refl
name_before options.EvalBudget v = refl
name_before options.ToolBudget v = refl
name_before options.Keep v = refl
name_before options.Seed v = refl
name_before options.Pips v = refl

pub value_after : (option : NumberOption) (v : List ℕ) → after_first is_equals (option_text option ++ codes "=" ++ v) ≡ v
value_after options.Workers v = refl
value_after options.EvalBudget v = refl
value_after options.ToolBudget v = refl
value_after options.Keep v = refl
value_after options.Seed v = refl
value_after options.Pips v = refl

pub has_equals : (option : NumberOption) (v : List ℕ) → list_any is_equals (option_text option ++ codes "=" ++ v) ≡ true
has_equals options.Workers v = refl
has_equals options.EvalBudget v = refl
has_equals options.ToolBudget v = refl
has_equals options.Keep v = refl
has_equals options.Seed v = refl
has_equals options.Pips v = refl

pub lacks_equals : (option : NumberOption) → list_any is_equals (option_text option) ≡ false
lacks_equals options.Workers = refl
lacks_equals options.EvalBudget = refl
lacks_equals options.ToolBudget = refl
lacks_equals options.Keep = refl
lacks_equals options.Seed = refl
lacks_equals options.Pips = refl

joined_or_alone : (a b : NumberOption) (v : List ℕ) → option_text a ++ codes "=" ++ v ≡ option_text b → ⊥
joined_or_alone a b v e =
    both_ways (list_any is_equals (option_text b)) (lacks_equals b) (ap (list_any is_equals) (sym e) ∙ has_equals a v)

-- the two bytes in which all options differ
abbrev mark : List ℕ → ℕ
mark text = get_or text 2 0 * 256 + get_or text 3 0

abbrev letter : NumberOption → ℕ
letter options.Workers = 30575
letter options.EvalBudget = 25974
letter options.ToolBudget = 29807
letter options.Keep = 27493
letter options.Seed = 29541
letter options.Pips = 28777

letter_in : (option : NumberOption) (v : List ℕ) → mark (option_text option ++ codes "=" ++ v) ≡ letter option
letter_in options.Workers v = refl
letter_in options.EvalBudget v = refl
letter_in options.ToolBudget v = refl
letter_in options.Keep v = refl
letter_in options.Seed v = refl
letter_in options.Pips v = refl

letter_alone : (option : NumberOption) → mark (option_text option) ≡ letter option
letter_alone options.Workers = refl
letter_alone options.EvalBudget = refl
letter_alone options.ToolBudget = refl
letter_alone options.Keep = refl
letter_alone options.Seed = refl
letter_alone options.Pips = refl

same_letters : (a b : NumberOption) → letter a ≡ letter b → a ≡ b
same_letters options.Workers options.Workers e = refl
same_letters options.Workers options.EvalBudget e = absurd (omega (arith, e))
same_letters options.Workers options.ToolBudget e = absurd (omega (arith, e))
same_letters options.Workers options.Keep e = absurd (omega (arith, e))
same_letters options.Workers options.Seed e = absurd (omega (arith, e))
same_letters options.Workers options.Pips e = absurd (omega (arith, e))
same_letters options.EvalBudget options.Workers e = absurd (omega (arith, e))
same_letters options.EvalBudget options.EvalBudget e = refl
same_letters options.EvalBudget options.ToolBudget e = absurd (omega (arith, e))
same_letters options.EvalBudget options.Keep e = absurd (omega (arith, e))
same_letters options.EvalBudget options.Seed e = absurd (omega (arith, e))
same_letters options.EvalBudget options.Pips e = absurd (omega (arith, e))
same_letters options.ToolBudget options.Workers e = absurd (omega (arith, e))
same_letters options.ToolBudget options.EvalBudget e = absurd (omega (arith, e))
same_letters options.ToolBudget options.ToolBudget e = refl
same_letters options.ToolBudget options.Keep e = absurd (omega (arith, e))
same_letters options.ToolBudget options.Seed e = absurd (omega (arith, e))
same_letters options.ToolBudget options.Pips e = absurd (omega (arith, e))
same_letters options.Keep options.Workers e = absurd (omega (arith, e))
same_letters options.Keep options.EvalBudget e = absurd (omega (arith, e))
same_letters options.Keep options.ToolBudget e = absurd (omega (arith, e))
same_letters options.Keep options.Keep e = refl
same_letters options.Keep options.Seed e = absurd (omega (arith, e))
same_letters options.Keep options.Pips e = absurd (omega (arith, e))
same_letters options.Seed options.Workers e = absurd (omega (arith, e))
same_letters options.Seed options.EvalBudget e = absurd (omega (arith, e))
same_letters options.Seed options.ToolBudget e = absurd (omega (arith, e))
same_letters options.Seed options.Keep e = absurd (omega (arith, e))
same_letters options.Seed options.Seed e = refl
same_letters options.Seed options.Pips e = absurd (omega (arith, e))
same_letters options.Pips options.Workers e = absurd (omega (arith, e))
same_letters options.Pips options.EvalBudget e = absurd (omega (arith, e))
same_letters options.Pips options.ToolBudget e = absurd (omega (arith, e))
same_letters options.Pips options.Keep e = absurd (omega (arith, e))
same_letters options.Pips options.Seed e = absurd (omega (arith, e))
same_letters options.Pips options.Pips e = refl

pub same_names : (a b : NumberOption) → option_text a ≡ option_text b → a ≡ b
same_names a b e = same_letters a b (sym (letter_alone a) ∙ ap mark e ∙ letter_alone b)

abbrev flag_letter : FlagOption → ℕ
flag_letter flags.NoCache = 28271
flag_letter flags.Types = 29817
flag_letter flags.GraphCache = 26482

letter_of_flag : (flag : FlagOption) → mark (flag_text flag) ≡ flag_letter flag
letter_of_flag flags.NoCache = refl
letter_of_flag flags.Types = refl
letter_of_flag flags.GraphCache = refl

other_letter : (flag : FlagOption) (option : NumberOption) → flag_letter flag ≡ letter option → ⊥
other_letter flags.NoCache options.Workers e = omega (arith, e)
other_letter flags.NoCache options.EvalBudget e = omega (arith, e)
other_letter flags.NoCache options.ToolBudget e = omega (arith, e)
other_letter flags.NoCache options.Keep e = omega (arith, e)
other_letter flags.NoCache options.Seed e = omega (arith, e)
other_letter flags.NoCache options.Pips e = omega (arith, e)
other_letter flags.Types options.Workers e = omega (arith, e)
other_letter flags.Types options.EvalBudget e = omega (arith, e)
other_letter flags.Types options.ToolBudget e = omega (arith, e)
other_letter flags.Types options.Keep e = omega (arith, e)
other_letter flags.Types options.Seed e = omega (arith, e)
other_letter flags.Types options.Pips e = omega (arith, e)
other_letter flags.GraphCache options.Workers e = omega (arith, e)
other_letter flags.GraphCache options.EvalBudget e = omega (arith, e)
other_letter flags.GraphCache options.ToolBudget e = omega (arith, e)
other_letter flags.GraphCache options.Keep e = omega (arith, e)
other_letter flags.GraphCache options.Seed e = omega (arith, e)
other_letter flags.GraphCache options.Pips e = omega (arith, e)

same_flags : (a b : FlagOption) → flag_letter a ≡ flag_letter b → a ≡ b
same_flags flags.NoCache flags.NoCache e = refl
same_flags flags.NoCache flags.Types e = absurd (omega (arith, e))
same_flags flags.NoCache flags.GraphCache e = absurd (omega (arith, e))
same_flags flags.Types flags.NoCache e = absurd (omega (arith, e))
same_flags flags.Types flags.Types e = refl
same_flags flags.Types flags.GraphCache e = absurd (omega (arith, e))
same_flags flags.GraphCache flags.NoCache e = absurd (omega (arith, e))
same_flags flags.GraphCache flags.Types e = absurd (omega (arith, e))
same_flags flags.GraphCache flags.GraphCache e = refl

-- flags with one text are one
pub one_flag : (a b : FlagOption) → flag_text a ≡ flag_text b → a ≡ b
one_flag a b e = same_flags a b (sym (letter_of_flag a) ∙ ap mark e ∙ letter_of_flag b)

flag_or_joined : (flag : FlagOption) (option : NumberOption) (v : List ℕ) → flag_text flag ≡ option_text option ++ codes "=" ++ v → ⊥
flag_or_joined flag option v e =
    other_letter flag option (sym (letter_of_flag flag) ∙ ap mark e ∙ letter_in option v)

flag_or_alone : (flag : FlagOption) (option : NumberOption) → flag_text flag ≡ option_text option → ⊥
flag_or_alone flag option e = other_letter flag option (sym (letter_of_flag flag) ∙ ap mark e ∙ letter_alone option)

pub small_value : (option : NumberOption) (n : ℕ) → IsValue option n → n < 2 ^ 64
small_value options.Workers n h = omega (arith, h.most)
small_value options.EvalBudget n h = omega (arith, h.most)
small_value options.ToolBudget n h = omega (arith, h.most)
small_value options.Keep n h = omega (arith, h.most)
small_value options.Seed n h = omega (arith, h.most)
small_value options.Pips n h = omega (arith, h.most)

-- two texts are an option and its value in one way
pub not_a_value : (name text : List ℕ) (option other : NumberOption) (m n : ℕ) (r : Bool) → name ≡ option_text option
    → text ≡ decimal m → m < 2 ^ 64 → (IsTrue r ↔ IsValue option m) → r ≡ false → IsNumber name text other n → ⊥
not_a_value name text option other m n r named written small test outside h =
    let same : other ≡ option = same_names other option (sym h.name_is ∙ named) in
    let value : IsValue option n = subst (λ (o : NumberOption). IsValue o n) same h.value in
    let number : n ≡ m = decimal_injective n m (small_value option n value) small (sym h.text_is ∙ written) in
    both_ways r outside (test.1 (subst (IsValue option) number value))

-- ## Words

pub first_same : {X : Type 0} {x y : X} {xs ys : List X} → x ∷ xs ≡ y ∷ ys → x ≡ y
first_same e = cc

pub rest_same : {X : Type 0} {x y : X} {xs ys : List X} → x ∷ xs ≡ y ∷ ys → xs ≡ ys
rest_same e = cc

abbrev SameStart : Setting → Setting → List (List ℕ) → List (List ℕ) → Type 0
SameStart s t rest more = (s ≡ t) × (rest ≡ more)

same_number : (a b : NumberOption) (m n : ℕ) (rest more : List (List ℕ)) → IsValue a m → IsValue b n
    → option_text a ≡ option_text b → decimal m ≡ decimal n → rest ≡ more
    → SameStart (Number a m) (Number b n) rest more
same_number a b m n rest more h k names values rests = (
  ap (λ (option : NumberOption). Number option m) (same_names a b names)
      ∙ ap (Number b) (decimal_injective m n (small_value a m h) (small_value b n k) values),
  rests,
)

both_numbers : (words : List (List ℕ)) (a b : NumberOption) (m n : ℕ) (rest more : List (List ℕ))
    → BeginWith words (Number a m) rest → BeginWith words (Number b n) more
    → SameStart (Number a m) (Number b n) rest more
both_numbers words a b m n rest more h k = elim h.1 [
  | inl x ↦ elim k.1 [
    | inl y ↦
        let e = sym x ∙ y in
        same_number a b m n rest more h.0 k.0
        (sym (name_before a (decimal m)) ∙ ap (before_first is_equals) (first_same e) ∙ name_before b (decimal n))
        (sym (value_after a (decimal m)) ∙ ap (after_first is_equals) (first_same e) ∙ value_after b (decimal n))
        (rest_same e)
    | inr y ↦ absurd (joined_or_alone a b (decimal m) (first_same (sym x ∙ y)))
  ]
  | inr x ↦ elim k.1 [
    | inl y ↦ absurd (joined_or_alone b a (decimal n) (first_same (sym y ∙ x)))
    | inr y ↦
        let e = sym x ∙ y in
        same_number a b m n rest more h.0 k.0 (first_same e) (first_same (rest_same e)) (rest_same (rest_same e))
  ]
]

flag_or_number : (words : List (List ℕ)) (flag : FlagOption) (option : NumberOption) (n : ℕ) (rest more : List (List ℕ))
    → BeginWith words (Flag flag) rest → BeginWith words (Number option n) more → ⊥
flag_or_number words flag option n rest more h k = elim k.1 [
  | inl y ↦ flag_or_joined flag option (decimal n) (first_same (sym h ∙ y))
  | inr y ↦ flag_or_alone flag option (first_same (sym h ∙ y))
]

pub one_beginning : (words : List (List ℕ)) (s t : Setting) (rest more : List (List ℕ)) → BeginWith words s rest
    → BeginWith words t more → SameStart s t rest more
one_beginning words (Flag f) (Flag g) rest more h k =
    (ap Flag (one_flag f g (first_same (sym h ∙ k))), rest_same (sym h ∙ k))
one_beginning words (Flag f) (Number b n) rest more h k = absurd (flag_or_number words f b n rest more h k)
one_beginning words (Number a m) (Flag g) rest more h k = absurd (flag_or_number words g a m more rest k h)
one_beginning words (Number a m) (Number b n) rest more h k = both_numbers words a b m n rest more h k

cons_or_none : {X : Type 0} {words : List X} {x : X} {xs : List X} → words ≡ [] → words ≡ x ∷ xs → ⊥
cons_or_none e f = cc

pub none_begin : (words : List (List ℕ)) (s : Setting) (rest : List (List ℕ)) → words ≡ [] → BeginWith words s rest → ⊥
none_begin words (Flag flag) rest e h = cons_or_none e h
none_begin words (Number option n) rest e h = elim h.1 [ inl x ↦ cons_or_none e x | inr x ↦ cons_or_none e x ]

-- fewer words come after a setting
pub fewer_after : (words : List (List ℕ)) (s : Setting) (rest : List (List ℕ)) → BeginWith words s rest
    → length rest < length words
fewer_after words (Flag flag) rest h = omega (arith, ap length h)
fewer_after words (Number option n) rest h = elim h.1 [
  | inl x ↦ omega (arith, ap length x)
  | inr x ↦ omega (arith, ap length x)
]

-- ## Orders

pub one_settings : (words : List (List ℕ)) (ss ts : List Setting) → AreSettings words ss → AreSettings words ts → ss ≡ ts
one_settings words [] [] h k = refl
one_settings words [] (t ∷ ts) h k = absurd (none_begin words t k.0 h k.1)
one_settings words (s ∷ ss) [] h k = absurd (none_begin words s h.0 k h.1)
one_settings words (s ∷ ss) (t ∷ ts) h k =
    let one = one_beginning words s t h.0 k.0 h.1 k.1 in
    ap (λ (x : Setting). x ∷ ss) one.0
    ∙ ap (λ (xs : List Setting). t ∷ xs)
    (one_settings k.0 ss ts (subst (λ (rest : List (List ℕ)). AreSettings rest ss) one.1 h.2) k.2)

first_byte : (a b : List ℕ) → a ≡ b → get_or a 0 0 ≡ get_or b 0 0
first_byte a b e = ap (λ (t : List ℕ). get_or t 0 0) e

-- commands with one word are one
pub same_commands : (a b : Command) → command_text a ≡ command_text b → a ≡ b
same_commands commands.Build commands.Build e = refl
same_commands commands.Build commands.Check e = absurd (omega (arith, first_byte (command_text commands.Build) (command_text commands.Check) e))
same_commands commands.Build commands.Repair e = absurd (omega (arith, first_byte (command_text commands.Build) (command_text commands.Repair) e))
same_commands commands.Build commands.Trim e = absurd (omega (arith, first_byte (command_text commands.Build) (command_text commands.Trim) e))
same_commands commands.Build commands.Gen e = absurd (omega (arith, first_byte (command_text commands.Build) (command_text commands.Gen) e))
same_commands commands.Check commands.Build e = absurd (omega (arith, first_byte (command_text commands.Check) (command_text commands.Build) e))
same_commands commands.Check commands.Check e = refl
same_commands commands.Check commands.Repair e = absurd (omega (arith, first_byte (command_text commands.Check) (command_text commands.Repair) e))
same_commands commands.Check commands.Trim e = absurd (omega (arith, first_byte (command_text commands.Check) (command_text commands.Trim) e))
same_commands commands.Check commands.Gen e = absurd (omega (arith, first_byte (command_text commands.Check) (command_text commands.Gen) e))
same_commands commands.Repair commands.Build e = absurd (omega (arith, first_byte (command_text commands.Repair) (command_text commands.Build) e))
same_commands commands.Repair commands.Check e = absurd (omega (arith, first_byte (command_text commands.Repair) (command_text commands.Check) e))
same_commands commands.Repair commands.Repair e = refl
same_commands commands.Repair commands.Trim e = absurd (omega (arith, first_byte (command_text commands.Repair) (command_text commands.Trim) e))
same_commands commands.Repair commands.Gen e = absurd (omega (arith, first_byte (command_text commands.Repair) (command_text commands.Gen) e))
same_commands commands.Trim commands.Build e = absurd (omega (arith, first_byte (command_text commands.Trim) (command_text commands.Build) e))
same_commands commands.Trim commands.Check e = absurd (omega (arith, first_byte (command_text commands.Trim) (command_text commands.Check) e))
same_commands commands.Trim commands.Repair e = absurd (omega (arith, first_byte (command_text commands.Trim) (command_text commands.Repair) e))
same_commands commands.Trim commands.Trim e = refl
same_commands commands.Trim commands.Gen e = absurd (omega (arith, first_byte (command_text commands.Trim) (command_text commands.Gen) e))
same_commands commands.Gen commands.Build e = absurd (omega (arith, first_byte (command_text commands.Gen) (command_text commands.Build) e))
same_commands commands.Gen commands.Check e = absurd (omega (arith, first_byte (command_text commands.Gen) (command_text commands.Check) e))
same_commands commands.Gen commands.Repair e = absurd (omega (arith, first_byte (command_text commands.Gen) (command_text commands.Repair) e))
same_commands commands.Gen commands.Trim e = absurd (omega (arith, first_byte (command_text commands.Gen) (command_text commands.Trim) e))
same_commands commands.Gen commands.Gen e = refl

one_options : (command : Command) (words : List (List ℕ)) (a b : Order) → AreOptions command words a → AreOptions command words b → a ≡ b
one_options command words a b h k =
    same_Some a b
    (sym h.order_is ∙ ap (order_of command) (one_settings words h.settings k.settings h.settings_are k.settings_are) ∙ k.order_is)

pub one_order : (words : List (List ℕ)) (a b : Order) → Orders words a → Orders words b → a ≡ b
one_order words a b h k =
    let both = sym h.words_are ∙ k.words_are in
    let command : h.command ≡ k.command = same_commands h.command k.command (first_same both) in
    let rest : h.options ≡ k.options = rest_same both in
    one_options k.command k.options a b
    (subst (λ (c : Command). AreOptions c k.options a) command
    (subst (λ (options : List (List ℕ)). AreOptions h.command options a) rest h.options_are))
    k.options_are
