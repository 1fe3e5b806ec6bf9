-- A table that is filled from the last type to the first has the first type of each name.
use Rattle.std.proofs.Common.{◌≡◌, ℕ, suc, ◌+◌, Bool, true, false, List, [], ◌∷◌, ◌++◌, Option, Some, None, length, cond, refl, ap, sym, ◌∙◌, arith, add-zero}
use Rattle.std.specs.BTreeMap.{is_at}
use Rattle.std.specs.Option.{option_map, option_or}
use Rattle.std.specs.Prelude.{◌==◌, ◌&&◌}
use Rattle.std.proofs.lemmas.Iterator.Adapters.{position_from-zero}
use Rattle.bx_tree.specs.Paths.{same_path}
use Rattle.dscript_ast.specs.declared.file.Mark.{Mark}
use Rattle.dscript_program.specs.ProgramData.{DeclData, Dotted, FileData}
use Rattle.dscript_names_scopes.specs.Declarations.{is_any, is_exported}
use Rattle.dscript_names_scopes.specs.Orders.{name_cmp, name_cmp_matches}
use Rattle.dscript_names_scopes.proofs.FirstValues.{either_then, position_last}
use Rattle.dscript_types_meaning.specs.Lookups.{in_module, is_type, is_type_of, type_in}

-- the first that passes a test, where one more comes last
type_last : (sees : Mark → Bool) (name : Dotted) (ds : List DeclData) (d : DeclData)
    → type_in sees (ds ++ d ∷ []) name
    ≡ option_or (type_in sees ds name) (cond (is_type_of sees name d) (Some (length ds)) None)
type_last sees name ds d =
    let same : 0 + length ds ≡ length ds = omega arith in
    position_from-zero (is_type_of sees name) (ds ++ d ∷ [])
    ∙ position_last (is_type_of sees name) 0 ds d
    ∙ ap (λ o. option_or o (cond (is_type_of sees name d) (Some (0 + length ds)) None))
    (sym (position_from-zero (is_type_of sees name) ds))
    ∙ ap (λ k. option_or (type_in sees ds name) (cond (is_type_of sees name d) (Some k) None)) same

-- the numbers, with one more type before those in the table
number_before : (sees : Mark → Bool) (name : Dotted) (ds : List DeclData) (d : DeclData) (test : Bool)
    (old new whole : Option ℕ)
    → is_type_of sees name d ≡ test → new ≡ cond test (Some (length ds)) old
    → option_or (type_in sees (ds ++ d ∷ []) name) old ≡ whole
    → option_or (type_in sees ds name) new ≡ whole
number_before sees name ds d test old new whole e is before =
    ap (option_or (type_in sees ds name)) (is ∙ ap (λ b. cond b (Some (length ds)) old) (sym e))
    ∙ sym (either_then (type_in sees ds name) (is_type_of sees name d) (length ds) old)
    ∙ ap (λ o. option_or o old) (sym (type_last sees name ds d)) ∙ before

mapped_either : {X Y : Type 0} (f : X → Y) (a : Option X) (b : Bool) (v : X)
    → option_map f (option_or a (cond b (Some v) None)) ≡ option_or (option_map f a) (cond b (Some (f v)) None)
mapped_either f (Some x) b v = refl
mapped_either f None true v = refl
mapped_either f None false v = refl

-- the places, with one more type before those in the table
place_before : {Y : Type 0} (f : ℕ → Y) (sees : Mark → Bool) (name : Dotted) (ds : List DeclData) (d : DeclData)
    (test : Bool) (old new whole : Option Y)
    → is_type_of sees name d ≡ test → new ≡ cond test (Some (f (length ds))) old
    → option_or (option_map f (type_in sees (ds ++ d ∷ []) name)) old ≡ whole
    → option_or (option_map f (type_in sees ds name)) new ≡ whole
place_before f sees name ds d test old new whole e is before =
    ap (option_or (option_map f (type_in sees ds name))) (is ∙ ap (λ b. cond b (Some (f (length ds))) old) (sym e))
    ∙ sym (either_then (option_map f (type_in sees ds name)) (is_type_of sees name d) (f (length ds)) old)
    ∙ ap (λ o. option_or o old)
    (sym (ap (option_map f) (type_last sees name ds d)
    ∙ mapped_either f (type_in sees ds name) (is_type_of sees name d) (length ds)))
    ∙ before

-- ## Declarations

this_type : (sees : Mark → Bool) (name : Dotted) (d : DeclData) → is_type d.kind ≡ true → sees d.mark ≡ true
    → is_type_of sees name d ≡ same_path d.name name
this_type sees name d e g =
    ap (λ b. (b && sees d.mark) && same_path d.name name) e ∙ ap (λ b. b && same_path d.name name) g

pub no_type : (sees : Mark → Bool) (name : Dotted) (d : DeclData) → is_type d.kind ≡ false
    → is_type_of sees name d ≡ false
no_type sees name d e = ap (λ b. (b && sees d.mark) && same_path d.name name) e

pub no_seen_type : (sees : Mark → Bool) (name : Dotted) (d : DeclData) → is_type d.kind ≡ true → sees d.mark ≡ false
    → is_type_of sees name d ≡ false
no_seen_type sees name d e g =
    ap (λ b. (b && sees d.mark) && same_path d.name name) e ∙ ap (λ b. b && same_path d.name name) g

-- what the table has once a type is put in under its name
put_at : {Y : Type 0} (d : DeclData) (key name : Dotted) (value place : Y) (old new : Option Y)
    → key ≡ d.name → value ≡ place → new ≡ cond (is_at (name_cmp key) name) (Some value) old
    → new ≡ cond (same_path d.name name) (Some place) old
put_at d key name value place old new e g is =
    is ∙ ap (λ v. cond (is_at (name_cmp key) name) (Some v) old) g
    ∙ ap (λ k. cond (is_at (name_cmp k) name) (Some place) old) e
    ∙ ap (λ b. cond b (Some place) old) (sym (name_cmp_matches d.name name))

pub number_put : (left before : List DeclData) (d : DeclData) (key name : Dotted) (n : ℕ) (old new whole : Option ℕ)
    → left ≡ before ++ d ∷ [] → is_type d.kind ≡ true → key ≡ d.name → n ≡ length before
    → new ≡ cond (is_at (name_cmp key) name) (Some n) old
    → option_or (type_in is_any left name) old ≡ whole
    → option_or (type_in is_any before name) new ≡ whole
number_put left before d key name n old new whole split value e g is kept =
    number_before is_any name before d (same_path d.name name) old new whole
    (this_type is_any name d value refl) (put_at d key name n (length before) old new e g is)
    (ap (λ ds. option_or (type_in is_any ds name) old) (sym split) ∙ kept)

pub number_passed : (left before : List DeclData) (d : DeclData) (name : Dotted) (old whole : Option ℕ)
    → left ≡ before ++ d ∷ [] → is_type d.kind ≡ false
    → option_or (type_in is_any left name) old ≡ whole
    → option_or (type_in is_any before name) old ≡ whole
number_passed left before d name old whole split none kept =
    number_before is_any name before d false old old whole (no_type is_any name d none) refl
    (ap (λ ds. option_or (type_in is_any ds name) old) (sym split) ∙ kept)

pub place_put : {Y : Type 0} (sees : Mark → Bool) (f : ℕ → Y) (left before : List DeclData) (d : DeclData)
    (key name : Dotted) (place : Y) (old new whole : Option Y)
    → left ≡ before ++ d ∷ [] → is_type d.kind ≡ true → sees d.mark ≡ true → key ≡ d.name → place ≡ f (length before)
    → new ≡ cond (is_at (name_cmp key) name) (Some place) old
    → option_or (option_map f (type_in sees left name)) old ≡ whole
    → option_or (option_map f (type_in sees before name)) new ≡ whole
place_put sees f left before d key name place old new whole split value seen e g is kept =
    place_before f sees name before d (same_path d.name name) old new whole
    (this_type sees name d value seen) (put_at d key name place (f (length before)) old new e g is)
    (ap (λ ds. option_or (option_map f (type_in sees ds name)) old) (sym split) ∙ kept)

pub place_passed : {Y : Type 0} (sees : Mark → Bool) (f : ℕ → Y) (left before : List DeclData) (d : DeclData)
    (name : Dotted) (old whole : Option Y)
    → left ≡ before ++ d ∷ [] → is_type_of sees name d ≡ false
    → option_or (option_map f (type_in sees left name)) old ≡ whole
    → option_or (option_map f (type_in sees before name)) old ≡ whole
place_passed sees f left before d name old whole split none kept =
    place_before f sees name before d false old old whole none refl
    (ap (λ ds. option_or (option_map f (type_in sees ds name)) old) (sym split) ∙ kept)

-- ## Modules

-- what a file has for the module
abbrev level_of : ℕ → ℕ → FileData → Dotted → Option (ℕ × ℕ)
level_of m n file name =
    cond (file.module_number == m) (option_map (λ decl. (n, decl)) (type_in is_exported file.decls name)) None

or_assoc : {X : Type 0} (a b c : Option X) → option_or (option_or a b) c ≡ option_or a (option_or b c)
or_assoc (Some x) b c = refl
or_assoc None b c = refl

or_none : {X : Type 0} (o : Option X) → option_or o None ≡ o
or_none (Some x) = refl
or_none None = refl

module_last : (m n : ℕ) (files : List FileData) (file : FileData) (name : Dotted)
    → in_module m n (files ++ file ∷ []) name
    ≡ option_or (in_module m n files name) (level_of m (n + length files) file name)
module_last m n [] file name =
    or_none (level_of m n file name) ∙ ap (λ k. level_of m k file name) (sym (add-zero n))
module_last m n (g ∷ files) file name =
    let next : n + 1 + length files ≡ n + suc (length files) = omega arith in
    ap (option_or (level_of m n g name)) (module_last m (n + 1) files file name
    ∙ ap (λ k. option_or (in_module m (n + 1) files name) (level_of m k file name)) next)
    ∙ sym (or_assoc (level_of m n g name) (in_module m (n + 1) files name)
    (level_of m (n + suc (length files)) file name))

-- the types of a module, with one more file before those in the tables
pub file_put : (m n : ℕ) (left files : List FileData) (file : FileData) (name : Dotted)
    (old new whole : Option (ℕ × ℕ))
    → left ≡ files ++ file ∷ [] → n ≡ length files → new ≡ option_or (level_of m n file name) old
    → option_or (in_module m 0 left name) old ≡ whole
    → option_or (in_module m 0 files name) new ≡ whole
file_put m n left files file name old new whole split number made kept =
    let a = in_module m 0 files name in
    let same : 0 + length files ≡ length files = omega arith in
    let is = made ∙ ap (λ k. option_or (level_of m k file name) old) number in
    let before = ap (λ fs. option_or (in_module m 0 fs name) old) (sym split) ∙ kept in
    ap (option_or a) is ∙ sym (or_assoc a (level_of m (length files) file name) old)
    ∙ ap (λ o. option_or o old) (sym (module_last m 0 files file name
    ∙ ap (λ k. option_or a (level_of m k file name)) same)) ∙ before
