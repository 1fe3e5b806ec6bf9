-- What is known of files that were begun: where they lie, and what their removal leaves.
use Rattle.std.proofs.Common.{◌≡◌, ◌∙◌, ◌<◌, ◌≤◌, ◌+◌, ℕ, Bool, true, false, List, [], ◌∷◌, ◌++◌, length, take, drop, codes, Some, None, refl, sym, ap, subst, inl, inr, arith, String, Vec, Global, string_bytes, get_or, Option, Result, Ok, Err, OnOk}
use Rattle.std.specs.Prelude.{is_some, ◌||◌, ◌&&◌, ◌⊎◌, ◌^◌, ◌%◌}
use Rattle.std.specs.Str.{bytes_eq}
use Rattle.std.specs.Fmt.{decimal}
use Rattle.std.specs.FinMap.{get}
use Rattle.std.specs.IoError.{error_kind}
use Rattle.std.specs.declared.io.Error.{Error}
use Rattle.std.specs.declared.io.ErrorKind.TheVariants.{NotFound}
use Rattle.std.proofs.lemmas.Bool.{false≢true}
use Rattle.std.proofs.lemmas.Fmt.{decimal_by_steps}
use Rattle.std.proofs.lemmas.List.{length-drop, take-append-drop, take_all}
use Rattle.std.proofs.lemmas.List.Elements.{All-nil, All-cons, All-append}
use Rattle.bx_io.specs.Names.{IsKindLetter, IsName}
use Rattle.bx_io.specs.declared.name.TheConstants.{NAME_LENGTH}
use Rattle.bx_io_folder.specs.NamedFiles.{Clears, IsEnding, IsLeft, SameNames, has_file, is_below}
use Rattle.bx_io_disk.specs.Files.{Files, HasNone, Removes, IsPlain, ListsFiles, SameBut, path_in}
use Rattle.bx_io_folder.proofs.Listing.{Parts, below_held_parts, below_more, none_held_parts, parts_of}
use Rattle.bx_io_disk.proofs.Listing.{are_same, same_bytes}

-- ## Paths

ending_long : (text : List ℕ) → IsEnding text → 0 < length text
ending_long text (inl is) = omega (arith, ap length is)
ending_long text (inr place) = omega (arith, ap length place.2)

pub left_long : (path : List ℕ) → IsLeft path → NAME_LENGTH < length path
left_long path left = omega (arith, length-drop NAME_LENGTH path, ending_long (drop NAME_LENGTH path) left.ending)

-- a name is no such path
pub not_left : (name : List ℕ) → IsName name → IsLeft name → ⊥
not_left name named left = omega (arith, named.count, left_long name left)

decimal_plain : (n : ℕ) → n < 2 ^ 64 → IsPlain (decimal n)
decimal_plain =
    decimal_by_steps (λ m ds. IsPlain ds) (λ m l. All-cons (λ c. c ≡ 47 → ⊥) (48 + m) [] (λ is. omega (arith, is)) (All-nil (λ c. c ≡ 47 → ⊥)))
    (λ m ds l h. All-append (λ c. c ≡ 47 → ⊥) ds ((48 + m % 10) ∷ []) h (All-cons (λ c. c ≡ 47 → ⊥) (48 + m % 10) [] (λ is. omega (arith, is)) (All-nil (λ c. c ≡ 47 → ⊥))))

abbrev IsNoSlash : ℕ → Type 0
IsNoSlash c = c ≡ 47 → ⊥

old_plain : IsPlain (codes ".new")
old_plain =
    All-cons IsNoSlash 46 (110 ∷ 101 ∷ 119 ∷ []) (λ is. omega (arith, is)) (All-cons IsNoSlash 110 (101 ∷ 119 ∷ []) (λ is. omega (arith, is)) (All-cons IsNoSlash 101 (119 ∷ []) (λ is. omega (arith, is)) (All-cons IsNoSlash 119 [] (λ is. omega (arith, is)) (All-nil IsNoSlash))))

place_plain : IsPlain (codes ".new-")
place_plain =
    All-cons IsNoSlash 46 (110 ∷ 101 ∷ 119 ∷ 45 ∷ []) (λ is. omega (arith, is)) (All-cons IsNoSlash 110 (101 ∷ 119 ∷ 45 ∷ []) (λ is. omega (arith, is)) (All-cons IsNoSlash 101 (119 ∷ 45 ∷ []) (λ is. omega (arith, is)) (All-cons IsNoSlash 119 (45 ∷ []) (λ is. omega (arith, is)) (All-cons IsNoSlash 45 [] (λ is. omega (arith, is)) (All-nil IsNoSlash)))))

ending_plain : (text : List ℕ) → IsEnding text → IsPlain text
ending_plain text (inl is) = subst IsPlain (sym is) old_plain
ending_plain text (inr place) = subst IsPlain (sym place.2) (All-append IsNoSlash (codes ".new-") (decimal place.0) place_plain (decimal_plain place.0 (omega (arith, place.1))))

-- such a path is one in the folder of a kind
pub left_parts : (path : List ℕ) → IsLeft path → Parts path
left_parts path left =
    let named = parts_of (take NAME_LENGTH path) left.name in record {
      letter = named.letter;
      digits = named.digits ++ drop NAME_LENGTH path;
      is = sym (take-append-drop NAME_LENGTH path) ∙ ap (λ (front : List ℕ). front ++ drop NAME_LENGTH path) named.is;
      kind = named.kind;
      plain = All-append IsNoSlash named.digits (drop NAME_LENGTH path) named.plain (ending_plain (drop NAME_LENGTH path) left.ending);
    }

-- ## What is left of files

pub clears_none : (files : Files) → Clears files files
clears_none files = record { others = λ path _. refl; fewer = λ path none. none }

pub clears_on : (before between now : Files) → Clears before between → Clears between now → Clears before now
clears_on before between now first next = record {
  others = λ path other. next.others path other ∙ first.others path other;
  fewer = λ path none. next.fewer path (first.fewer path none);
}

-- where files that were begun are cleared, those of names are as they were
pub clears_names : (before now : Files) → Clears before now → SameNames before now
clears_names before now clears q named = clears.others q (not_left q named)

none_less : (b : Bool) (q path : List ℕ) (before now : Files) → bytes_eq q path ≡ b → get now path ≡ None → SameBut before now path → get before q ≡ None → get now q ≡ None
none_less true q path before now is gone same none = ap (λ (p : List ℕ). get now p) (same_bytes q path is) ∙ gone
none_less false q path before now is gone same none = same q (λ here. false≢true (sym is ∙ are_same q path here)) ∙ none

-- the removal of a file that was left
pub clears_one : (before now : Files) (path : List ℕ) → IsLeft path → get now path ≡ None → SameBut before now path → Clears before now
clears_one before now path left gone same = record {
  others = λ q other. same q (λ is. other (subst IsLeft (sym is) left));
  fewer = λ q none. none_less (bytes_eq q path) q path before now refl gone same none;
}

pub clears_same : (before now : Files) → now ≡ before → Clears before now
clears_same before now same = subst (Clears before) (sym same) (clears_none before)

-- the removal of a file that was left, which may fail
pub clears_removed : (before now : Files) (path : List ℕ) (r : Result (Unit {0}) Error) → IsLeft path → Removes before now path r → Clears before now
clears_removed before now path (Ok x) left removes = clears_one before now path left removes.0 removes.1
clears_removed before now path (Err e) left removes = clears_same before now removes.0

pub cleared_removed : (before now : Files) (path : List ℕ) (r : Result (Unit {0}) Error) → Removes before now path r → OnOk r (IsLeft path → get now path ≡ None)
cleared_removed before now path (Ok x) removes = λ left. removes.0
cleared_removed before now path (Err e) removes = tt

-- there was none
pub cleared_absent : (before now : Files) (path : List ℕ) (e : Error) → Removes before now path (Err e) → error_kind e ≡ NotFound → get now path ≡ None
cleared_absent before now path e removes missing = ap (λ (f : Files). get f path) removes.0 ∙ removes.1 missing

pub no_file_yet : (kind : List ℕ) (files : List (String Global)) (path : List ℕ) (now : Files) → is_below kind path (take 0 files) ≡ true → get now path ≡ None
no_file_yet kind files path now below = absurd (false≢true below)

-- ## What is left of a folder

or_cases : (a b : Bool) → (a || b) ≡ true → (a ≡ true) ⊎ (b ≡ true)
or_cases true b is = inl refl
or_cases false b is = inr is

one_more_cleared : (q text : List ℕ) (mid now : Files) (seen : Bool) → Clears mid now → (IsLeft text → get now text ≡ None) → (seen ≡ true → get mid q ≡ None) → IsLeft q
    → (seen ≡ true) ⊎ (bytes_eq q text ≡ true) → get now q ≡ None
one_more_cleared q text mid now seen clears gone before left (inl is) = clears.fewer q (before is)
one_more_cleared q text mid now seen clears gone before left (inr is) =
    let here = same_bytes q text is in
    ap (λ (p : List ℕ). get now p) here ∙ gone (subst IsLeft here left)

-- one more file was looked at
pub cleared_more : (kind q text : List ℕ) (files : List (String Global)) (i : ℕ) (file : String Global) (mid now : Files) → i < length files → file ≡ get_or files i file
    → text ≡ path_in kind (string_bytes file) → Clears mid now → (IsLeft text → get now text ≡ None) → (is_below kind q (take i files) ≡ true → get mid q ≡ None) → IsLeft q
    → is_below kind q (take (i + 1) files) ≡ true → get now q ≡ None
cleared_more kind q text files i file mid now inside is path clears gone before left below =
    let seen = is_below kind q (take i files) in
    let more : (seen || bytes_eq q text) ≡ is_below kind q (take (i + 1) files) = below_more kind q text files i file false seen (seen || bytes_eq q text) inside is path refl refl in
    one_more_cleared q text mid now seen clears gone before left (or_cases seen (bytes_eq q text) (more ∙ below))

-- all were looked at
pub cleared_all_files : (kind q : List ℕ) (files : List (String Global)) (i : ℕ) (now : Files) → length files ≤ i → (is_below kind q (take i files) ≡ true → get now q ≡ None)
    → is_below kind q files ≡ true → get now q ≡ None
cleared_all_files kind q files i now past so_far below = so_far (ap (is_below kind q) (take_all i files past) ∙ below)

held_is_listed : (kind q : List ℕ) (files : Files) (found : Option (List ℕ)) → get files q ≡ found → is_some found ≡ true → take 1 q ≡ kind → has_file kind files q ≡ true
held_is_listed kind q files found is there same = rw (are_same (take 1 q) kind same, is) there

gone_either : (kind q : List ℕ) (files now : Files) (found : Option (List ℕ)) → get files q ≡ found → Clears files now → take 1 q ≡ kind → (has_file kind files q ≡ true → get now q ≡ None)
    → get now q ≡ None
gone_either kind q files now None is clears same gone = clears.fewer q is
gone_either kind q files now (Some bytes) is clears same gone = gone (held_is_listed kind q files (Some bytes) is refl same)

-- the folder of a kind was listed, and its files were looked at
pub cleared_kind : (kind : List ℕ) (files now : Files) (v : Vec (String Global) Global) (lent : List (String Global)) → length kind ≡ 1 → ListsFiles files kind (Ok v) → lent ≡ v.items
    → Clears files now → ((path : List ℕ) → IsLeft path → is_below kind path lent ≡ true → get now path ≡ None) → (path : List ℕ) → IsLeft path → take 1 path ≡ kind → get now path ≡ None
cleared_kind kind files now v lent one lists all clears gone path left same =
    gone_either kind path files now (get files path) refl clears same
    (λ held. gone path left (ap (is_below kind path) all ∙ below_held_parts kind files v path one lists (left_parts path left) ∙ held))

not_both : (q kind : List ℕ) (found : Option (List ℕ)) → bytes_eq (take 1 q) kind ≡ true → (bytes_eq (take 1 q) kind && is_some found) ≡ false → found ≡ None
not_both q kind None here none = refl
not_both q kind (Some bytes) here none = absurd (false≢true (sym none ∙ ap (λ (b : Bool). b && true) here))

-- the folder of a kind is not there
pub cleared_nothing : (kind : List ℕ) (files : Files) (e : Error) → length kind ≡ 1 → ListsFiles files kind (Err e) → error_kind e ≡ NotFound → (path : List ℕ) → IsLeft path → take 1 path ≡ kind
    → get files path ≡ None
cleared_nothing kind files e one lists missing path left same =
    not_both path kind (get files path) (are_same (take 1 path) kind same) (none_held_parts kind files e path one lists missing (left_parts path left))

first_of : (path digits : List ℕ) (letter : ℕ) → path ≡ letter ∷ 47 ∷ digits → take 1 path ≡ letter ∷ []
first_of path digits letter is = ap (take 1) is

kind_cleared : (path digits : List ℕ) (letter : ℕ) (f1 f2 f3 : Files) → path ≡ letter ∷ 47 ∷ digits → IsKindLetter letter → (take 1 path ≡ codes "b" → get f1 path ≡ None)
    → (take 1 path ≡ codes "e" → get f2 path ≡ None) → (take 1 path ≡ codes "w" → get f3 path ≡ None) → Clears f1 f2 → Clears f2 f3 → get f3 path ≡ None
kind_cleared path digits letter f1 f2 f3 is (inl b) first second third one two =
    two.fewer path (one.fewer path (first (first_of path digits letter is ∙ ap (λ (c : ℕ). c ∷ []) b)))
kind_cleared path digits letter f1 f2 f3 is (inr (inl w)) first second third one two = third (first_of path digits letter is ∙ ap (λ (c : ℕ). c ∷ []) w)
kind_cleared path digits letter f1 f2 f3 is (inr (inr e)) first second third one two = two.fewer path (second (first_of path digits letter is ∙ ap (λ (c : ℕ). c ∷ []) e))

-- the folders of all kinds were cleared, one after another
pub cleared_kinds : (f1 f2 f3 : Files) → ((path : List ℕ) → IsLeft path → take 1 path ≡ codes "b" → get f1 path ≡ None)
    → ((path : List ℕ) → IsLeft path → take 1 path ≡ codes "e" → get f2 path ≡ None) → ((path : List ℕ) → IsLeft path → take 1 path ≡ codes "w" → get f3 path ≡ None)
    → Clears f1 f2 → Clears f2 f3 → (path : List ℕ) → IsLeft path → get f3 path ≡ None
cleared_kinds f1 f2 f3 first second third one two path left =
    let parts = left_parts path left in
    kind_cleared path parts.digits parts.letter f1 f2 f3 parts.is parts.kind (first path left) (second path left) (third path left) one two

-- a folder that is not there has no files
pub cleared_missing : (files now : Files) → HasNone files → now ≡ files → (path : List ℕ) → IsLeft path → get now path ≡ None
cleared_missing files now none same path left = ap (λ (f : Files). get f path) same ∙ none path
