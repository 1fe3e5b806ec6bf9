-- A table that is filled from the last value to the first has the first value of each name.
use Rattle.std.proofs.Common.{◌≡◌, ℕ, suc, ◌+◌, Bool, true, false, List, [], ◌∷◌, ◌++◌, Option, Some, None, length, cond, refl, ap, sym, ◌∙◌, arith, add-zero}
use Rattle.std.specs.BTreeMap.{is_at}
use Rattle.std.specs.List.{position_from}
use Rattle.std.specs.Option.{option_map, option_or}
use Rattle.std.specs.Prelude.{◌==◌, ◌&&◌}
use Rattle.bx_tree.specs.Paths.{same_path}
use Rattle.dscript_ast.specs.declared.file.Mark.{Mark}
use Rattle.dscript_program.specs.ProgramData.{Dotted}
use Rattle.dscript_program.specs.declared.target.Target.{Target}
use Rattle.dscript_program.specs.declared.target.Target.TheVariants as targets
use Rattle.dscript_names_scopes.specs.Declarations.{is_any}
use Rattle.dscript_names_scopes.specs.Lookup.{is_value_of, value_in, value_of_module}
use Rattle.dscript_names_scopes.specs.Names.{FileNames}
use Rattle.dscript_names_scopes.specs.Orders.{name_cmp, name_cmp_matches}
use Rattle.dscript_names_scopes.specs.declared.names.Declared.{Declared}

-- ## The first that passes a test, where one more comes last

pub position_last : {X : Type 0} (p : X → Bool) (n : ℕ) (xs : List X) (x : X)
    → position_from p n (xs ++ x ∷ []) ≡ option_or (position_from p n xs) (cond (p x) (Some (n + length xs)) None)
position_last p n [] x = ap (λ k. cond (p x) (Some k) None) (sym (add-zero n))
position_last p n (y ∷ xs) x =
    let next : n + 1 + length xs ≡ n + suc (length xs) = omega arith in
    elim (p y) as (λ b. cond b (Some n) (position_from p (n + 1) (xs ++ x ∷ []))
    ≡ option_or (cond b (Some n) (position_from p (n + 1) xs)) (cond (p x) (Some (n + suc (length xs))) None)) [
      | true ↦ refl
      | false ↦
          position_last p (n + 1) xs x
          ∙ ap (λ k. option_or (position_from p (n + 1) xs) (cond (p x) (Some k) None)) next
    ]

pub either_then : {X : Type 0} (a : Option X) (b : Bool) (v : X) (c : Option X)
    → option_or (option_or a (cond b (Some v) None)) c ≡ option_or a (cond b (Some v) c)
either_then (Some x) b v c = refl
either_then None true v c = refl
either_then None false v c = refl

-- the numbers, with one more value before those in the table
pub number_before : {X : Type 0} (p : X → Bool) (xs : List X) (x : X) (test : Bool) (old new whole : Option ℕ)
    → p x ≡ test → new ≡ cond test (Some (length xs)) old
    → option_or (position_from p 0 (xs ++ x ∷ [])) old ≡ whole
    → option_or (position_from p 0 xs) new ≡ whole
number_before p xs x test old new whole e is before =
    let a = position_from p 0 xs in
    ap (option_or a) (is ∙ ap (λ b. cond b (Some (length xs)) old) (sym e))
    ∙ sym (either_then a (p x) (length xs) old)
    ∙ ap (λ k. option_or (option_or a (cond (p x) (Some k) None)) old) (zero_and (length xs))
    ∙ ap (λ o. option_or o old) (sym (position_last p 0 xs x)) ∙ before
  where
    zero_and : (n : ℕ) → n ≡ 0 + n
    zero_and n = omega arith

mapped_either : {X Y : Type 0} (f : X → Y) (a : Option X) (b : Bool) (v : X)
    → option_map f (option_or a (cond b (Some v) None)) ≡ option_or (option_map f a) (cond b (Some (f v)) None)
mapped_either f (Some x) b v = refl
mapped_either f None true v = refl
mapped_either f None false v = refl

-- the targets, with one more value before those in the table
target_before : {X Y : Type 0} (f : ℕ → Y) (p : X → Bool) (xs : List X) (x : X) (test : Bool)
    (old new whole : Option Y)
    → p x ≡ test → new ≡ cond test (Some (f (length xs))) old
    → option_or (option_map f (position_from p 0 (xs ++ x ∷ []))) old ≡ whole
    → option_or (option_map f (position_from p 0 xs)) new ≡ whole
target_before f p xs x test old new whole e is before =
    let a = position_from p 0 xs in
    let same : 0 + length xs ≡ length xs = omega arith in
    ap (option_or (option_map f a)) (is ∙ ap (λ b. cond b (Some (f (length xs))) old) (sym e))
    ∙ sym (either_then (option_map f a) (p x) (f (length xs)) old)
    ∙ ap (λ o. option_or o old) (sym (ap (option_map f) (position_last p 0 xs x
    ∙ ap (λ k. option_or a (cond (p x) (Some k) None)) same) ∙ mapped_either f a (p x) (length xs)))
    ∙ before

-- ## Declarations

this_value : (sees : Mark → Bool) (name : Dotted) (d : Declared) → d.is_value ≡ true → sees d.mark ≡ true
    → is_value_of sees name d ≡ same_path d.name name
this_value sees name d e g =
    ap (λ b. (b && sees d.mark) && same_path d.name name) e ∙ ap (λ b. b && same_path d.name name) g

pub no_value : (sees : Mark → Bool) (name : Dotted) (d : Declared) → d.is_value ≡ false
    → is_value_of sees name d ≡ false
no_value sees name d e = ap (λ b. (b && sees d.mark) && same_path d.name name) e

pub no_seen_value : (sees : Mark → Bool) (name : Dotted) (d : Declared) → d.is_value ≡ true → sees d.mark ≡ false
    → is_value_of sees name d ≡ false
no_seen_value sees name d e g =
    ap (λ b. (b && sees d.mark) && same_path d.name name) e ∙ ap (λ b. b && same_path d.name name) g

-- what the table has once a value is put in under its name
put_at : {Y : Type 0} (d : Declared) (key name : Dotted) (value place : Y) (old new : Option Y)
    → key ≡ d.name → value ≡ place → new ≡ cond (is_at (name_cmp key) name) (Some value) old
    → new ≡ cond (same_path d.name name) (Some place) old
put_at d key name value place old new e g is =
    is ∙ ap (λ v. cond (is_at (name_cmp key) name) (Some v) old) g
    ∙ ap (λ k. cond (is_at (name_cmp k) name) (Some place) old) e
    ∙ ap (λ b. cond b (Some place) old) (sym (name_cmp_matches d.name name))

pub number_put : (left before : List Declared) (d : Declared) (key name : Dotted) (n : ℕ) (old new whole : Option ℕ)
    → left ≡ before ++ d ∷ [] → d.is_value ≡ true → key ≡ d.name → n ≡ length before
    → new ≡ cond (is_at (name_cmp key) name) (Some n) old
    → option_or (position_from (is_value_of is_any name) 0 left) old ≡ whole
    → option_or (position_from (is_value_of is_any name) 0 before) new ≡ whole
number_put left before d key name n old new whole split value e g is kept =
    number_before (is_value_of is_any name) before d (same_path d.name name) old new whole
    (this_value is_any name d value refl) (put_at d key name n (length before) old new e g is)
    (ap (λ ds. option_or (position_from (is_value_of is_any name) 0 ds) old) (sym split) ∙ kept)

pub number_passed : (left before : List Declared) (d : Declared) (name : Dotted) (old whole : Option ℕ)
    → left ≡ before ++ d ∷ [] → d.is_value ≡ false
    → option_or (position_from (is_value_of is_any name) 0 left) old ≡ whole
    → option_or (position_from (is_value_of is_any name) 0 before) old ≡ whole
number_passed left before d name old whole split none kept =
    number_before (is_value_of is_any name) before d false old old whole (no_value is_any name d none) refl
    (ap (λ ds. option_or (position_from (is_value_of is_any name) 0 ds) old) (sym split) ∙ kept)

pub target_put : (sees : Mark → Bool) (f : ℕ → Target) (left before : List Declared) (d : Declared) (key name : Dotted)
    (target : Target) (old new whole : Option Target)
    → left ≡ before ++ d ∷ [] → d.is_value ≡ true → sees d.mark ≡ true → key ≡ d.name → target ≡ f (length before)
    → new ≡ cond (is_at (name_cmp key) name) (Some target) old
    → option_or (option_map f (position_from (is_value_of sees name) 0 left)) old ≡ whole
    → option_or (option_map f (position_from (is_value_of sees name) 0 before)) new ≡ whole
target_put sees f left before d key name target old new whole split value seen e g is kept =
    target_before f (is_value_of sees name) before d (same_path d.name name) old new whole
    (this_value sees name d value seen) (put_at d key name target (f (length before)) old new e g is)
    (ap (λ ds. option_or (option_map f (position_from (is_value_of sees name) 0 ds)) old) (sym split) ∙ kept)

pub target_passed : (sees : Mark → Bool) (f : ℕ → Target) (left before : List Declared) (d : Declared) (name : Dotted)
    (old whole : Option Target)
    → left ≡ before ++ d ∷ [] → is_value_of sees name d ≡ false
    → option_or (option_map f (position_from (is_value_of sees name) 0 left)) old ≡ whole
    → option_or (option_map f (position_from (is_value_of sees name) 0 before)) old ≡ whole
target_passed sees f left before d name old whole split none kept =
    target_before f (is_value_of sees name) before d false old old whole none refl
    (ap (λ ds. option_or (option_map f (position_from (is_value_of sees name) 0 ds)) old) (sym split) ∙ kept)

-- ## Modules

-- what a file has for the module
abbrev level_of : (Mark → Bool) → ℕ → ℕ → FileNames → Dotted → Option Target
level_of sees m n file name =
    cond (file.module_number == m) (option_map (targets.Declared n) (value_in sees file name)) None

or_assoc : {X : Type 0} (a b c : Option X) → option_or (option_or a b) c ≡ option_or a (option_or b c)
or_assoc (Some x) b c = refl
or_assoc None b c = refl

module_last : (sees : Mark → Bool) (m n : ℕ) (files : List FileNames) (file : FileNames) (name : Dotted)
    → value_of_module sees m n (files ++ file ∷ []) name
    ≡ option_or (value_of_module sees m n files name) (level_of sees m (n + length files) file name)
module_last sees m n [] file name =
    or_none (level_of sees m n file name) ∙ ap (λ k. level_of sees m k file name) (sym (add-zero n))
  where
    or_none : (o : Option Target) → option_or o None ≡ o
    or_none (Some x) = refl
    or_none None = refl
module_last sees m n (g ∷ files) file name =
    let next : n + 1 + length files ≡ n + suc (length files) = omega arith in
    ap (option_or (level_of sees m n g name)) (module_last sees m (n + 1) files file name
    ∙ ap (λ k. option_or (value_of_module sees m (n + 1) files name) (level_of sees m k file name)) next)
    ∙ sym (or_assoc (level_of sees m n g name) (value_of_module sees m (n + 1) files name)
    (level_of sees m (n + suc (length files)) file name))

-- the values of a module, with one more file before those in the tables
pub file_put : (sees : Mark → Bool) (m n : ℕ) (left files : List FileNames) (file : FileNames) (name : Dotted)
    (old new whole : Option Target)
    → left ≡ files ++ file ∷ [] → n ≡ length files → new ≡ option_or (level_of sees m n file name) old
    → option_or (value_of_module sees m 0 left name) old ≡ whole
    → option_or (value_of_module sees m 0 files name) new ≡ whole
file_put sees m n left files file name old new whole split number made kept =
    let a = value_of_module sees m 0 files name in
    let same : 0 + length files ≡ length files = omega arith in
    let is = made ∙ ap (λ k. option_or (level_of sees m k file name) old) number in
    let before = ap (λ fs. option_or (value_of_module sees m 0 fs name) old) (sym split) ∙ kept in
    ap (option_or a) is ∙ sym (or_assoc a (level_of sees m (length files) file name) old)
    ∙ ap (λ o. option_or o old) (sym (module_last sees m 0 files file name
    ∙ ap (λ k. option_or a (level_of sees m k file name)) same)) ∙ before
