-- Keys with one text say the same.
use Rattle.std.proofs.Common.{◌≡◌, ◌⊎◌, ℕ, ◌<◌, ◌^◌, Bool, true, false, ◌||◌, List, [], ◌∷◌, ◌++◌, codes, map, None, inl, inr, refl, sym, ap, ◌∙◌, append_assoc}
use Rattle.std.specs.List.{AllByRecursion, flat_map}
use Rattle.std.proofs.lemmas.List.Concat.{flat_map-append, flat_map-cons}
use Rattle.observed.specs.Texts.{after_prefix}
use Rattle.sha2.specs.Sha256.{sha256}
use Rattle.bx_digest.specs.Digests.{IsDigest}
use Rattle.bx_tree.specs.Paths.{Atoms, IsPath}
use Rattle.bx_tree.specs.Trees.{Files}
use Rattle.dscript_program.specs.Workspaces.{ModuleData}
use Rattle.prints.specs.Combining.{after_form, as_form, pair_form}
use Rattle.prints.specs.Forms.{Anything, IsForm}
use Rattle.prints.specs.Lines.{begins, lines_at}
use Rattle.prints.specs.PartForms.{counted_form, digest_form, newline, number_form, path_form, space}
use Rattle.prints.specs.Parts.{counted_at, counted_part, digest_at, digest_part, number_at, number_part, path_at, path_part}
use Rattle.prints.specs.Processes.{IsCountable}
use Rattle.prints.specs.Reading.{Taken, after_word, as_at, both_at}
use Rattle.prints.proofs.LineLists.{lines_form}
use Rattle.graph_texts.specs.Either.{first_of}
use Rattle.graph_texts.specs.EitherForms.{first_form}
use Rattle.graph_texts.specs.Keys.{HasKey, IsModule, SaySame, key_text, module_lines, spec_digests, spec_line, text_at}
use Rattle.graph_texts.proofs.Digest.{is_digest}
use Rattle.graph_texts.proofs.OneText.{one_value}

-- ## Lines

abbrev Spec : Type 0
Spec = Atoms × List ℕ

-- a line of a key: the name of a module, or a specification with its digest
abbrev KeyLine : Type 0
KeyLine = List ℕ ⊎ Spec

abbrev spec_written : Spec → List ℕ
spec_written s = path_part 32 s.0 ++ digest_part 10 s.1

abbrev line_written : KeyLine → List ℕ
line_written (inl name) = codes "module " ++ counted_part 10 name
line_written (inr spec) = codes "spec " ++ spec_written spec

abbrev IsSpec : Spec → Type 0
IsSpec s = IsPath s.0 × IsDigest s.1

abbrev IsName : KeyLine → Type 0
IsName (inl name) = IsCountable name
IsName (inr spec) = ⊥

abbrev IsSpecLine : KeyLine → Type 0
IsSpecLine (inl name) = ⊥
IsSpecLine (inr spec) = IsSpec spec

abbrev name_of : KeyLine → List ℕ
name_of (inl name) = name
name_of (inr spec) = []

abbrev spec_of : KeyLine → Spec
spec_of (inl name) = ([], [])
spec_of (inr spec) = spec

abbrev line_at : List ℕ → Taken KeyLine
line_at =
    first_of (codes "module ") (as_at inl (counted_at 10))
    (after_word (codes "spec ") (as_at inr (both_at (path_at 32) (digest_at 10))))

name_form : IsForm IsName Anything (λ l. counted_part 10 (name_of l)) (as_at inl (counted_at 10))
name_form = as_form IsName inl name_of (λ name g. (g, refl)) back (counted_form 10)
  where
    back : (l : KeyLine) → IsName l → IsCountable (name_of l) × (inl (name_of l) ≡ l)
    back (inl name) g = (g, refl)
    back (inr spec) g = absurd g

spec_form : IsForm IsSpecLine Anything (λ l. spec_written (spec_of l)) (as_at inr (both_at (path_at 32) (digest_at 10)))
spec_form =
    as_form IsSpecLine inr spec_of (λ spec g. (g, refl)) back (pair_form (path_form 32 space) (digest_form 10 newline))
  where
    back : (l : KeyLine) → IsSpecLine l → IsSpec (spec_of l) × (inr (spec_of l) ≡ l)
    back (inl name) g = absurd g
    back (inr spec) g = (g, refl)

abbrev IsKeyLine : KeyLine → Type 0
IsKeyLine l = IsName l ⊎ IsSpecLine l

line_form : IsForm IsKeyLine Anything line_written line_at
line_form = first_form line_written (codes "module ") name_form (after_form (codes "spec ") spec_form) one other apart
  where
    one : (l : KeyLine) → IsName l → line_written l ≡ codes "module " ++ counted_part 10 (name_of l)
    one (inl name) g = refl
    one (inr spec) g = absurd g

    other : (l : KeyLine) → IsSpecLine l → line_written l ≡ codes "spec " ++ spec_written (spec_of l)
    other (inl name) g = absurd g
    other (inr spec) g = refl

    apart : (l : KeyLine) (rest : List ℕ) → IsSpecLine l → Anything rest
        → after_prefix (codes "module ") ((codes "spec " ++ spec_written (spec_of l)) ++ rest) ≡ None
    apart l rest g k = refl

abbrev is_line : List ℕ → Bool
is_line text = begins (codes "module ") text || begins (codes "spec ") text

line_seen : (l : KeyLine) (rest : List ℕ) → is_line (line_written l ++ rest) ≡ true
line_seen (inl name) rest = refl
line_seen (inr spec) rest = refl

-- ## Whole keys

abbrev KeyTuple : Type 0
KeyTuple = ℕ × List KeyLine

abbrev tuple_written : KeyTuple → List ℕ
tuple_written t = codes "graph 1\nbudget " ++ (number_part 10 t.0 ++ flat_map line_written t.1)

abbrev NoLine : List ℕ → Type 0
NoLine text = is_line text ≡ false

key_form : IsForm (λ (t : KeyTuple). (t.0 < 2 ^ 64) × AllByRecursion IsKeyLine t.1) NoLine tuple_written
    (after_word (codes "graph 1\nbudget ") (both_at (number_at 10) (lines_at is_line line_at)))
key_form =
    after_form (codes "graph 1\nbudget ")
    (pair_form (number_form 10 newline) (lines_form is_line line_form line_seen refl))

-- ## The lines of modules

abbrev spec_for : Files → Atoms → Spec
spec_for sources path = (path, sha256 (text_at sources path))

abbrev specs_for : Files → List Atoms → List Spec
specs_for sources paths = map (spec_for sources) paths

abbrev lines_for : Files → List ModuleData → List KeyLine
lines_for sources [] = []
lines_for sources (m ∷ ms) = inl m.name ∷ (map inr (specs_for sources m.files) ++ lines_for sources ms)

specs_written : (sources : Files) (paths : List Atoms)
    → flat_map line_written (map inr (specs_for sources paths)) ≡ flat_map (spec_line sources) paths
specs_written sources [] = refl
specs_written sources (p ∷ ps) =
    flat_map-cons line_written (inr (spec_for sources p)) (map inr (specs_for sources ps))
    ∙ ap (λ t. spec_line sources p ++ t) (specs_written sources ps)
    ∙ sym (flat_map-cons (spec_line sources) p ps)

modules_written : (sources : Files) (modules : List ModuleData)
    → flat_map line_written (lines_for sources modules) ≡ flat_map (module_lines sources) modules
modules_written sources [] = refl
modules_written sources (m ∷ ms) =
    let name = codes "module " ++ counted_part 10 m.name in
    let specs = flat_map (spec_line sources) m.files in
    let rest = flat_map (module_lines sources) ms in
    flat_map-cons line_written (inl m.name) (map inr (specs_for sources m.files) ++ lines_for sources ms)
    ∙ ap (λ t. name ++ t)
    (flat_map-append line_written (map inr (specs_for sources m.files)) (lines_for sources ms)
    ∙ ap (λ t. t ++ flat_map line_written (lines_for sources ms)) (specs_written sources m.files)
    ∙ ap (λ t. specs ++ t) (modules_written sources ms))
    ∙ sym (append_assoc name specs rest)
    ∙ ap (λ t. t ++ rest) (append_assoc (codes "module ") (counted_part 10 m.name) specs)
    ∙ sym (flat_map-cons (module_lines sources) m ms)

are_specs : (sources : Files) (paths : List Atoms) (rest : List KeyLine) → AllByRecursion IsPath paths
    → AllByRecursion IsKeyLine rest → AllByRecursion IsKeyLine (map inr (specs_for sources paths) ++ rest)
are_specs sources [] rest h more = more
are_specs sources (p ∷ ps) rest h more =
    (inr (h.0, is_digest (text_at sources p)), are_specs sources ps rest h.1 more)

are_lines : (sources : Files) (modules : List ModuleData) → AllByRecursion IsModule modules
    → AllByRecursion IsKeyLine (lines_for sources modules)
are_lines sources [] h = tt
are_lines sources (m ∷ ms) h =
    (inl h.0.0, are_specs sources m.files (lines_for sources ms) h.0.1 (are_lines sources ms h.1))

-- ## Modules of lines

-- the specifications with which lines begin, and the lines after them
abbrev first_specs : List KeyLine → List Spec
first_specs [] = []
first_specs (inl name ∷ ls) = []
first_specs (inr spec ∷ ls) = spec ∷ first_specs ls

abbrev after_specs : List KeyLine → List KeyLine
after_specs [] = []
after_specs (inl name ∷ ls) = inl name ∷ ls
after_specs (inr spec ∷ ls) = after_specs ls

starts_module : (sources : Files) (ms : List ModuleData)
    → (first_specs (lines_for sources ms) ≡ []) × (after_specs (lines_for sources ms) ≡ lines_for sources ms)
starts_module sources [] = (refl, refl)
starts_module sources (m ∷ ms) = (refl, refl)

first_of_module : (specs : List Spec) (rest : List KeyLine) → first_specs rest ≡ []
    → first_specs (map inr specs ++ rest) ≡ specs
first_of_module [] rest e = e
first_of_module (s ∷ ss) rest e = ap (λ t. s ∷ t) (first_of_module ss rest e)

after_module : (specs : List Spec) (rest : List KeyLine) → after_specs rest ≡ rest
    → after_specs (map inr specs ++ rest) ≡ rest
after_module [] rest e = e
after_module (s ∷ ss) rest e = after_module ss rest e

record AreSame (s t : Files) (m n : List ModuleData) : Type 0 where
  pub names : map (λ (a : ModuleData). a.name) m ≡ map (λ (a : ModuleData). a.name) n
  pub digests : spec_digests m s ≡ spec_digests n t

same_modules : (s t : Files) (m n : List ModuleData) → lines_for s m ≡ lines_for t n → AreSame s t m n
same_modules s t [] [] e = record { names = refl; digests = refl }
same_modules s t [] (b ∷ n) e = absurd cc
same_modules s t (a ∷ m) [] e = absurd cc
same_modules s t (a ∷ m) (b ∷ n) e =
    let name : a.name ≡ b.name = cc in
    let tails : map inr (specs_for s a.files) ++ lines_for s m ≡ map inr (specs_for t b.files) ++ lines_for t n = cc in
    let here = starts_module s m in
    let there = starts_module t n in
    let specs : specs_for s a.files ≡ specs_for t b.files =
    sym (first_of_module (specs_for s a.files) (lines_for s m) here.0) ∙ ap first_specs tails
    ∙ first_of_module (specs_for t b.files) (lines_for t n) there.0 in
    let rest = same_modules s t m n
    (sym (after_module (specs_for s a.files) (lines_for s m) here.1) ∙ ap after_specs tails
    ∙ after_module (specs_for t b.files) (lines_for t n) there.1) in
    record {
      names = ap (λ x. x ∷ map (λ (a : ModuleData). a.name) m) name ∙ ap (λ xs. b.name ∷ xs) rest.names;
      digests = ap (λ x. x ∷ spec_digests m s) specs ∙ ap (λ xs. specs_for t b.files ∷ xs) rest.digests;
    }

pub same_keys : (b c : ℕ) (m n : List ModuleData) (s t : Files) → HasKey b m → HasKey c n
    → key_text b m s ≡ key_text c n t → SaySame b c m n s t
same_keys b c m n s t g h e =
    let whole = one_value key_form refl (b, lines_for s m) (c, lines_for t n)
    (g.small, are_lines s m g.each) (h.small, are_lines t n h.each)
    (ap (λ x. codes "graph 1\nbudget " ++ (number_part 10 b ++ x)) (modules_written s m) ∙ e
    ∙ sym (ap (λ x. codes "graph 1\nbudget " ++ (number_part 10 c ++ x)) (modules_written t n))) in
    let modules = same_modules s t m n (ap (λ (x : KeyTuple). x.1) whole) in
    record { budget = ap (λ (x : KeyTuple). x.0) whole; names = modules.names; digests = modules.digests }
