-- The names of files, and what their modules export, one file after the other.
use Rattle.std.proofs.Common.{◌≡◌, ℕ, suc, ◌+◌, ◌<◌, ◌≤◌, Bool, true, false, ◌&&◌, ◌||◌, ◌==◌, cond, List, [], ◌∷◌, ◌++◌, map, length, take, drop, get_or, Option, Some, None, refl, sym, ◌∙◌, ap, drop-cons, add-one, arith}
use Rattle.std.specs.List.{filter, flat_map, list_any}
use Rattle.std.proofs.lemmas.List.{drop-map, drop_all, map-append, take_more, length-map}
use Rattle.bx_tree.specs.Paths.{Atoms, same_path}
use Rattle.bx_tree.proofs.Lists.{any_last, any_alike, none_any, any_swap}
use Rattle.dscript_ast.specs.FileTree.{ItemTree}
use Rattle.dscript_program.specs.Workspaces.{ModuleData}
use Rattle.dscript_program.specs.ProgramData.{Dotted}
use Rattle.dscript_names_scopes.specs.Declarations.{ParsedData, is_exported, item_declared, item_opened, items_of, module_of, names_of}
use Rattle.dscript_names_scopes.specs.Duplicates.{exported_names, exports_one_of, first_duplicate, has_duplicate, has_repeat, item_repeats, repeats}
use Rattle.dscript_names_scopes.specs.Names.{FileNames}
use Rattle.dscript_names.specs.Exports.{HasExports, exported_at, exports_name}
use Rattle.dscript_names.specs.Gathered.{NamesOf}
use Rattle.dscript_program.specs.declared.spec_fault.SpecFault.{SpecFault}
use Rattle.dscript_program.specs.declared.spec_fault.SpecFault.TheVariants as faults
use Rattle.dscript_names.specs.Gathering.{Added, IsDuplicate, IsDuplicateIn, IsTrueTo, file_names}
use Rattle.dscript_names.specs.Views.{parsed_data}
use Rattle.dscript_names.specs.declared.parsed.Parsed.{Parsed}
use Rattle.dscript_names.specs.declared.collecting.Names.{Names}
use Rattle.dscript_names.specs.declared.exported.Exports.{Exports}
use Rattle.dscript_names.specs.declared.gathering.Gathering.{Gathering}

-- ## Names that are exported

any_and : {X : Type 0} (c : Bool) (g : X → Bool) (xs : List X) → list_any (λ x. c && g x) xs ≡ (c && list_any g xs)
any_and true g xs = refl
any_and false g xs = none_any xs

-- a file of the module exports one of the names
one_exported : (names : List Dotted) (m : ℕ) (f : FileNames)
    → list_any (λ q. exports_name m q f) names ≡ exports_one_of names m f
one_exported names m f =
    any_and (f.module_number == m) (λ q. list_any (λ x. same_path x q) (exported_names f)) names
    ∙ ap (λ b. (f.module_number == m) && b) (sym (any_swap (λ x q. same_path x q) (exported_names f) names))

pub clashes : (e : Exports) (earlier : List FileNames) (m : ℕ) (names : List Dotted) → HasExports earlier e
    → list_any (exported_at e m) names ≡ list_any (exports_one_of names m) earlier
clashes e earlier m names h =
    any_alike (exported_at e m) (λ q. list_any (exports_name m q) earlier) names (h m)
    ∙ sym (any_swap (λ f q. exports_name m q f) earlier names)
    ∙ any_alike (λ f. list_any (λ q. exports_name m q f) names) (exports_one_of names m) earlier (one_exported names m)

or_comm : (a b : Bool) → (a || b) ≡ (b || a)
or_comm true true = refl
or_comm true false = refl
or_comm false true = refl
or_comm false false = refl

pub exports_more : (before after : Exports) (earlier files : List FileNames) (f : FileNames)
    → files ≡ earlier ++ f ∷ []
    → ((m : ℕ) (q : Dotted) → exported_at after m q ≡ (((f.module_number == m) && list_any (λ x. same_path x q) (exported_names f)) || exported_at before m q))
    → HasExports earlier before → HasExports files after
exports_more before after earlier files f grown more h m q =
    more m q ∙ ap (λ b. exports_name m q f || b) (h m q)
    ∙ or_comm (exports_name m q f) (list_any (exports_name m q) earlier)
    ∙ sym (ap (list_any (exports_name m q)) grown ∙ any_last (exports_name m q) earlier f)

-- ## A file

file_is : (owner : ℕ) (n : Names) (items : List ItemTree) (f : FileNames) → NamesOf n items
    → f ≡ record { module_number = owner; decls = n.decls.items; opened = n.opened.items; imports = n.imports.items }
    → f ≡ file_names owner items
file_is owner n items f h e =
    e ∙ ap (λ ds. record { module_number = owner; decls = ds; opened = n.opened.items; imports = n.imports.items }) h.decls
    ∙ ap (λ os. record { module_number = owner; decls = flat_map item_declared items; opened = os; imports = n.imports.items }) h.opened
    ∙ ap (λ is. record { module_number = owner; decls = flat_map item_declared items; opened = flat_map item_opened items; imports = is }) h.imports

ordered : (a b c d : Bool) → ((a || (c || d)) || b) ≡ (((a || b) || c) || d)
ordered true b c d = refl
ordered false true true d = refl
ordered false true false true = refl
ordered false true false false = refl
ordered false false true d = refl
ordered false false false true = refl
ordered false false false false = refl

pub file_added : (g h : Gathering) (owner : ℕ) (items : List ItemTree) (n : Names) (f : FileNames) (exported : List Dotted)
    (twice clash duplicate : Bool)
    → NamesOf n items
    → f ≡ record { module_number = owner; decls = n.decls.items; opened = n.opened.items; imports = n.imports.items }
    → exported ≡ map (λ d. d.name) (filter (λ d. is_exported d.mark) n.decls.items)
    → h.files.items ≡ g.files.items ++ f ∷ []
    → ((m : ℕ) (q : Dotted) → exported_at h.exports m q ≡ (((owner == m) && list_any (λ x. same_path x q) exported) || exported_at g.exports m q))
    → twice ≡ (has_repeat same_path (map (λ d. d.name) n.decls.items) || (repeats (map (λ i. i.name) n.imports.items) || list_any item_repeats items))
    → clash ≡ list_any (exported_at g.exports owner) exported
    → duplicate ≡ (twice || clash)
    → Added g h owner items duplicate
file_added g h owner items n f exported twice clash duplicate names made exports grown more twice_is clash_is is =
    let whole : FileNames = file_names owner items in
    let named : f ≡ whole = file_is owner n items f names made in
    let out : exported ≡ exported_names whole =
    exports ∙ ap (λ ds. map (λ d. d.name) (filter (λ d. is_exported d.mark) ds)) names.decls in
    let files : h.files.items ≡ g.files.items ++ whole ∷ [] = grown ∙ ap (λ x. g.files.items ++ x ∷ []) named in
    let a = has_repeat same_path (map (λ d. d.name) whole.decls) in
    let b = list_any (exports_one_of (exported_names whole) owner) g.files.items in
    let c = repeats (map (λ i. i.name) whole.imports) in
    let d = list_any item_repeats items in
    record {
      files = files;
      exports = exports_more g.exports h.exports g.files.items h.files.items whole files
          (λ m q. more m q ∙ ap (λ xs. ((owner == m) && list_any (λ x. same_path x q) xs) || exported_at g.exports m q) out);
      answers = λ t.
          is
          ∙ ap (λ z. z || clash) (twice_is
          ∙ ap (λ ds. has_repeat same_path (map (λ x. x.name) ds) || (repeats (map (λ i. i.name) n.imports.items) || d)) names.decls
          ∙ ap (λ is. a || (repeats (map (λ i. i.name) is) || d)) names.imports)
          ∙ ap (λ z. (a || (c || d)) || z) (clash_is ∙ ap (list_any (exported_at g.exports owner)) out
          ∙ clashes g.exports g.files.items owner (exported_names whole) t)
          ∙ ordered a b c d;
    }

-- ## All files

pub split_at : {X Y : Type 0} (f : X → Y) (xs : List X) (i : ℕ) (x : X) → i < length xs → x ≡ get_or xs i x
    → drop i (map f xs) ≡ f x ∷ drop (i + 1) (map f xs)
split_at f xs i x l e =
    let parts : drop i xs ≡ get_or xs i x ∷ drop (suc i) xs = drop-cons xs i x l in
    drop-map f i xs ∙ ap (map f) (parts ∙ ap (λ y. y ∷ drop (suc i) xs) (sym e) ∙ ap (λ n. x ∷ drop n xs) (sym (add-one i)))
    ∙ ap (λ ys. f x ∷ ys) (sym (drop-map f (i + 1) xs))

names_eq : (modules : List ModuleData) (p : ParsedData) (owner : ℕ) (items : List ItemTree)
    → owner ≡ module_of modules p.path → items ≡ items_of p.file → file_names owner items ≡ names_of modules p
names_eq modules p owner items o e =
    ap (λ n. file_names n items) o ∙ ap (file_names (module_of modules p.path)) e

-- one file more, which has no duplicate
pub files_more : (modules : List ModuleData) (xs : List Parsed) (i : ℕ) (x : Parsed) (g h : Gathering) (owner : ℕ)
    (items : List ItemTree) (duplicate : Bool) → i < length xs → x ≡ get_or xs i x
    → owner ≡ module_of modules x.path → items ≡ items_of (parsed_data x).file → Added g h owner items duplicate
    → g.files.items ≡ map (names_of modules) (map parsed_data (take i xs))
    → h.files.items ≡ map (names_of modules) (map parsed_data (take (i + 1) xs))
files_more modules xs i x g h owner items duplicate l e o is added before =
    let more : take (i + 1) xs ≡ take i xs ++ x ∷ [] = take_more xs i x l ∙ ap (λ y. take i xs ++ y ∷ []) (sym e) in
    added.files ∙ ap (λ fs. fs ++ file_names owner items ∷ []) before
    ∙ ap (λ f. map (names_of modules) (map parsed_data (take i xs)) ++ f ∷ []) (names_eq modules (parsed_data x) owner items o is)
    ∙ sym (ap (λ ys. map (names_of modules) (map parsed_data ys)) more
    ∙ ap (map (names_of modules)) (map-append parsed_data (take i xs) (x ∷ []))
    ∙ map-append (names_of modules) (map parsed_data (take i xs)) (parsed_data x ∷ []))

abbrev first_from : List ModuleData → Gathering → List ParsedData → Option Atoms
first_from modules g ps = first_duplicate modules g.files.items ps

tried : (modules : List ModuleData) (xs : List Parsed) (i : ℕ) (x : Parsed) (g h : Gathering) (owner : ℕ)
    (items : List ItemTree) (duplicate : Bool) → i < length xs → x ≡ get_or xs i x
    → owner ≡ module_of modules x.path → items ≡ items_of (parsed_data x).file → Added g h owner items duplicate
    → IsTrueTo g
    → first_from modules g (drop i (map parsed_data xs))
    ≡ cond duplicate (Some x.path) (first_from modules h (drop (i + 1) (map parsed_data xs)))
tried modules xs i x g h owner items duplicate l e o is added true_to =
    let p = parsed_data x in
    let rest = drop (i + 1) (map parsed_data xs) in
    let named = names_eq modules p owner items o is in
    ap (first_from modules g) (split_at parsed_data xs i x l e)
    ∙ ap (λ f. cond (has_duplicate g.files.items f (items_of p.file)) (Some x.path)
    (first_duplicate modules (g.files.items ++ f ∷ []) rest)) (sym named)
    ∙ ap (λ js. cond (has_duplicate g.files.items (file_names owner items) js) (Some x.path)
    (first_duplicate modules (g.files.items ++ file_names owner items ∷ []) rest)) (sym is)
    ∙ ap (λ b. cond b (Some x.path) (first_duplicate modules (g.files.items ++ file_names owner items ∷ []) rest))
    (sym (added.answers true_to))
    ∙ ap (λ fs. cond duplicate (Some x.path) (first_duplicate modules fs rest)) (sym added.files)

pub first_later : (modules : List ModuleData) (xs : List Parsed) (i : ℕ) (x : Parsed) (g h : Gathering) (owner : ℕ)
    (items : List ItemTree) (duplicate : Bool) → i < length xs → x ≡ get_or xs i x
    → owner ≡ module_of modules x.path → items ≡ items_of (parsed_data x).file → Added g h owner items duplicate
    → IsTrueTo g → duplicate ≡ false → (whole : Option Atoms)
    → whole ≡ first_from modules g (drop i (map parsed_data xs))
    → whole ≡ first_from modules h (drop (i + 1) (map parsed_data xs))
first_later modules xs i x g h owner items duplicate l e o is added true_to none whole kept =
    kept ∙ tried modules xs i x g h owner items duplicate l e o is added true_to
    ∙ ap (λ b. cond b (Some x.path) (first_from modules h (drop (i + 1) (map parsed_data xs)))) none

pub first_here : (modules : List ModuleData) (xs : List Parsed) (i : ℕ) (x : Parsed) (g h : Gathering) (owner : ℕ)
    (items : List ItemTree) (duplicate : Bool) → i < length xs → x ≡ get_or xs i x
    → owner ≡ module_of modules x.path → items ≡ items_of (parsed_data x).file → Added g h owner items duplicate
    → IsTrueTo g → duplicate ≡ true → (whole : Option Atoms)
    → whole ≡ first_from modules g (drop i (map parsed_data xs)) → whole ≡ Some x.path
first_here modules xs i x g h owner items duplicate l e o is added true_to there whole kept =
    kept ∙ tried modules xs i x g h owner items duplicate l e o is added true_to
    ∙ ap (λ b. cond b (Some x.path) (first_from modules h (drop (i + 1) (map parsed_data xs)))) there

pub first_none : (modules : List ModuleData) (xs : List Parsed) (i : ℕ) (g : Gathering) → length xs ≤ i
    → (whole : Option Atoms) → whole ≡ first_from modules g (drop i (map parsed_data xs)) → whole ≡ None
first_none modules xs i g past whole kept =
    let all : length (map parsed_data xs) ≤ i =
    let same : length (map parsed_data xs) ≡ length xs = length-map xs parsed_data in omega (arith, same) in
    kept ∙ ap (first_from modules g) (drop_all i (map parsed_data xs) all)

pub duplicate_first : (modules : List ModuleData) (ps : List ParsedData) (path : Atoms) (fault : SpecFault)
    → IsDuplicateIn path fault → first_duplicate modules [] ps ≡ Some path → IsDuplicate modules ps fault
duplicate_first modules ps path (faults.Fault kind file place) h e = (h.0, e ∙ ap Some (sym h.1), h.2)
duplicate_first modules ps path faults.Memory h e = tt
