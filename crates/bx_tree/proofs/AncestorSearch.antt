-- The search for a file that is a directory of a path finds one exactly if there is one.
use Rattle.std.proofs.Common.{inl, inr, Option, Some, None, not, get_or-take, append-nil, ◌⊎◌, ◌≡◌, ◌≢◌, ℕ, ◌<◌, ◌≤◌, ◌+◌, ◌-◌, Bool, true, false, List, [], ◌∷◌, ◌++◌, length, get_or, take, drop, refl, ap, sym, ◌∙◌, subst, arith}
use Rattle.std.specs.Cmp.Lexicographic.{slice_cmp}
use Rattle.std.specs.declared.cmp.Ordering.{Ordering}
use Rattle.std.specs.declared.cmp.Ordering.TheVariants.{Less, Equal, Greater}
use Rattle.std.specs.List.{All, AllByRecursion, Contains, HoldsAt}
use Rattle.std.specs.List.Sorted.{IsStrictlySortedBy}
use Rattle.std.specs.Option.{IfSome, IfNone, is_some}
use Rattle.std.specs.Ordering.{nat_cmp, ordering_then, is_lt, MatchOrdering}
use Rattle.std.proofs.lemmas.Bool.{cases_lt, false≢true}
use Rattle.std.proofs.lemmas.Cmp.{nat_list_cmp_total, ranked}
use Rattle.std.proofs.lemmas.List.{length-append, get_or_at, take_at, get_or_append_left, get_or_default, take-append-drop, drop_more}
use Rattle.std.proofs.lemmas.List.Elements.{All-from_recursion, recursion_from_All, All-contains, Contains-get_or}
use Rattle.std.proofs.lemmas.Map.Keys.{Less-from_sorted}
use Rattle.bx_tree.specs.declared.tree_file.TreeFile.{TreeFile}
use Rattle.bx_tree.specs.Paths.{Atoms, path_cmp, path_text}
use Rattle.bx_tree.specs.Trees.{IsTree, paths_of}
use Rattle.bx_tree.specs.Bundle.{ComesAfterAll, HasNoAncestor}
use Rattle.bx_tree.specs.Views.{file_of, files_of}
use Rattle.bx_tree.proofs.PathTexts.{below_from_prefix}
use Rattle.bx_tree.proofs.FileSearch.{path_at, length-paths, less_texts}

-- ## Texts between a text and an extension of it

-- two texts that are ordered one way, and their extensions ordered the other way, have equal first bytes
heads_equal : (a b : ℕ) (o p q r : Ordering) → MatchOrdering o (a < b) (a ≡ b) (b < a) → MatchOrdering p (b < a) (b ≡ a) (a < b)
    → ordering_then o q ≡ Less → ordering_then p r ≡ Less → (a ≡ b) × (q ≡ Less) × (r ≡ Less)
heads_equal a b Less Less q r h k e f = absurd (omega arith)
heads_equal a b Less Equal q r h k e f = absurd (omega arith)
heads_equal a b Less Greater q r h k e f = cc
heads_equal a b Equal Less q r h k e f = absurd (omega arith)
heads_equal a b Equal Equal q r h k e f = (h, e, f)
heads_equal a b Equal Greater q r h k e f = cc
heads_equal a b Greater p q r h k e f = cc

-- a text between a prefix and an extension of it starts with the prefix
pub between : (prefix text rest : List ℕ) → slice_cmp nat_cmp prefix text ≡ Less → slice_cmp nat_cmp text (prefix ++ rest) ≡ Less → (more : List ℕ) × (text ≡ prefix ++ more)
between [] text rest e f = (text, refl)
between (a ∷ as') [] rest e f = cc
between (a ∷ as') (b ∷ bs) rest e f =
    let parts = heads_equal a b (nat_cmp a b) (nat_cmp b a) (slice_cmp nat_cmp as' bs) (slice_cmp nat_cmp bs (as' ++ rest)) (ranked a b (nat_cmp a b) refl) (ranked b a (nat_cmp b a) refl) e f in
    let tails = between as' bs rest parts.1 parts.2 in
    (tails.0, cc)

-- ## The last of the files

-- each file is the last, or comes before it
pub below_last : (fs : List TreeFile) (last : TreeFile) (k : ℕ) (d : TreeFile) → IsStrictlySortedBy path_cmp (paths_of (files_of fs)) → k < length fs
    → last ≡ get_or fs (length fs - 1) last
    → (get_or fs k d ≡ last) ⊎ (path_cmp (get_or fs k d).path last.path ≡ Less)
below_last fs last k d up l e = elim (cases_lt k (length fs - 1)) [
  | inl low ↦
      let in' : length fs - 1 < length fs = omega arith in
      let in'' : length fs - 1 < length (paths_of (files_of fs)) = subst (λ n. length fs - 1 < n) (sym (length-paths fs)) in' in
      let rises = Less-from_sorted path_cmp (paths_of (files_of fs)) k (length fs - 1) [] up low in'' in
      let less = rw (path_at fs k d [] l, path_at fs (length fs - 1) last [] in') at rises in
      inr (subst (λ (f : TreeFile). path_cmp (get_or fs k d).path f.path ≡ Less) (sym e) less)
  | inr high ↦
      let same : k ≡ length fs - 1 = omega arith in
      inl (ap (λ i. get_or fs i d) same ∙ get_or_default fs (length fs - 1) d last (omega arith) ∙ sym e)
]

-- a property of each file in memory holds of each file as contracts see it, and conversely
pub all_files : (P : Atoms × List ℕ → Type 0) (fs : List TreeFile) → AllByRecursion (λ (f : TreeFile). P (file_of f)) fs → AllByRecursion P (files_of fs)
all_files P [] h = tt
all_files P (f ∷ fs) h = (h.0, all_files P fs h.1)

pub all_in_memory : (P : Atoms × List ℕ → Type 0) (fs : List TreeFile) → AllByRecursion P (files_of fs) → AllByRecursion (λ (f : TreeFile). P (file_of f)) fs
all_in_memory P [] h = tt
all_in_memory P (f ∷ fs) h = (h.0, all_in_memory P fs h.1)

-- a text that comes after the last file comes after all
pub after_all : (fs : List TreeFile) (last : TreeFile) (text : List ℕ) → IsTree (files_of fs) → last ≡ get_or fs (length fs - 1) last
    → slice_cmp nat_cmp (path_text last.path) text ≡ Less → ComesAfterAll (files_of fs) text
after_all fs last text t e less =
    all_files (λ f. slice_cmp nat_cmp (path_text f.0) text ≡ Less) fs
    (recursion_from_All (λ (f : TreeFile). slice_cmp nat_cmp (path_text f.path) text ≡ Less) fs
    (λ k d l. elim (below_last fs last k d t.rising l e) [
      | inl same ↦ subst (λ (f : TreeFile). slice_cmp nat_cmp (path_text f.path) text ≡ Less) (sym same) less
      | inr low ↦ nat_list_cmp_total.trans (path_text (get_or fs k d).path) (path_text last.path) text
          (less_texts (get_or fs k d).path last.path (get_or fs k d).is_path last.is_path low) less
    ]))

-- a text that comes after all files comes after the last
pub after_last : (fs : List TreeFile) (last : TreeFile) (text : List ℕ) → 0 < length fs → last ≡ get_or fs (length fs - 1) last
    → ComesAfterAll (files_of fs) text → slice_cmp nat_cmp (path_text last.path) text ≡ Less
after_last fs last text some e above =
    let each = All-from_recursion (λ (f : TreeFile). slice_cmp nat_cmp (path_text f.path) text ≡ Less) fs
    (all_in_memory (λ f. slice_cmp nat_cmp (path_text f.0) text ≡ Less) fs above) in
    subst (λ (f : TreeFile). slice_cmp nat_cmp (path_text f.path) text ≡ Less) (sym e) (each (length fs - 1) last (omega arith))

-- ## A directory among the files

-- the longest common prefix of two texts has this length
pub record Shares (a b : List ℕ) (shared : ℕ) : Type 0 where
  pub in_first : shared ≤ length a
  pub in_second : shared ≤ length b
  pub same : take shared a ≡ take shared b
  pub longest : shared < length a → shared < length b → get_or a shared 0 ≢ get_or b shared 0

-- if `/` follows a common prefix in the second text, but not in the first, it is the longest common prefix
shared_is : (prefix more rest : List ℕ) (shared : ℕ) → shared ≤ length (prefix ++ more) → shared ≤ length (prefix ++ 47 ∷ rest)
    → take shared (prefix ++ more) ≡ take shared (prefix ++ 47 ∷ rest)
    → (shared < length (prefix ++ more) → shared < length (prefix ++ 47 ∷ rest) → get_or (prefix ++ more) shared 0 ≢ get_or (prefix ++ 47 ∷ rest) shared 0)
    → ((m : List ℕ) → more ≡ 47 ∷ m → ⊥) → shared ≡ length prefix
shared_is prefix more rest shared a b same most other =
    let la = length-append prefix more in
    let lb = length-append prefix (47 ∷ rest) in
    elim (cases_lt shared (length prefix)) [
      | inl low ↦ absurd (most (omega arith) (omega arith)
          (get_or_append_left prefix more 0 shared low ∙ sym (get_or_append_left prefix (47 ∷ rest) 0 shared low)))
      | inr high ↦ elim (cases_lt (length prefix) shared) [
        | inl far ↦ absurd (first more (omega arith) other
            (sym (get_or-take shared (prefix ++ more) (length prefix) 0 far)
            ∙ ap (λ t. get_or t (length prefix) 0) same
            ∙ get_or-take shared (prefix ++ 47 ∷ rest) (length prefix) 0 far
            ∙ get_or_at prefix 47 rest 0 (length prefix) refl))
        | inr near ↦ omega arith
      ]
    ]
  where
    first : (xs : List ℕ) → 0 < length xs → ((m : List ℕ) → xs ≡ 47 ∷ m → ⊥) → get_or (prefix ++ xs) (length prefix) 0 ≡ 47 → ⊥
    first [] l n e = omega (arith, l)
    first (x ∷ xs) l n e = n xs (ap (λ y. y ∷ xs) (sym (get_or_at prefix x xs 0 (length prefix) refl) ∙ e))

pub contains_at : (fs : List TreeFile) (k : ℕ) (d : TreeFile) → k < length fs → Contains (paths_of (files_of fs)) (get_or fs k d).path
contains_at fs k d l = (k, subst (λ n. k < n) (sym (length-paths fs)) l, path_at fs k d (get_or fs k d).path l)

contains_last : (fs : List TreeFile) (last : TreeFile) → 0 < length fs → last ≡ get_or fs (length fs - 1) last → Contains (paths_of (files_of fs)) last.path
contains_last fs last some e =
    subst (λ (f : TreeFile). Contains (paths_of (files_of fs)) f.path) (sym e) (contains_at fs (length fs - 1) last (omega arith))

not_root_at : (fs : List TreeFile) (k : ℕ) (d : TreeFile) → IsTree (files_of fs) → k < length fs → (get_or fs k d).path ≢ []
not_root_at fs k d t l =
    let each = All-from_recursion (λ path. path ≢ []) (paths_of (files_of fs)) t.no_root k [] (subst (λ n. k < n) (sym (length-paths fs)) l) in
    λ e. each (path_at fs k d [] l ∙ e)

-- the last file starts with the text of a directory of a later path, and no `/` follows it there
last_begins : (fs : List TreeFile) (last : TreeFile) (text : List ℕ) (k : ℕ) (d : TreeFile) (rest : List ℕ) → IsTree (files_of fs)
    → last ≡ get_or fs (length fs - 1) last → slice_cmp nat_cmp (path_text last.path) text ≡ Less → k < length fs
    → text ≡ path_text (get_or fs k d).path ++ 47 ∷ rest
    → (more : List ℕ) × (path_text last.path ≡ path_text (get_or fs k d).path ++ more) × ((m : List ℕ) → more ≡ 47 ∷ m → ⊥)
last_begins fs last text k d rest t e less l is = elim (below_last fs last k d t.rising l e) [
  | inl same ↦ ([], sym (append-nil (path_text (get_or fs k d).path) ∙ ap (λ (f : TreeFile). path_text f.path) same), λ m z. cc)
  | inr low ↦
      let file = get_or fs k d in
      let found = between (path_text file.path) (path_text last.path) (47 ∷ rest)
      (less_texts file.path last.path file.is_path last.is_path low) (subst (λ u. slice_cmp nat_cmp (path_text last.path) u ≡ Less) is less) in (
        found.0,
        found.1,
        λ m z.
            t.unnested file.path last.path (contains_at fs k d l) (contains_last fs last (omega arith) e)
            (below_from_prefix last.path file.path last.is_path file.is_path (not_root_at fs k d t l) m
            (found.1 ∙ ap (λ u. path_text file.path ++ u) z)),
      )
]

-- where a path would lie below a file, the file's text is the longest common prefix of the last file's text and the path's
pub directory_is_shared : (fs : List TreeFile) (last : TreeFile) (text : List ℕ) (shared k : ℕ) (d : TreeFile) (rest : List ℕ) → IsTree (files_of fs)
    → last ≡ get_or fs (length fs - 1) last → slice_cmp nat_cmp (path_text last.path) text ≡ Less → k < length fs
    → Shares (path_text last.path) text shared
    → text ≡ path_text (get_or fs k d).path ++ 47 ∷ rest → shared ≡ length (path_text (get_or fs k d).path)
directory_is_shared fs last text shared k d rest t e less l s is =
    let dir = path_text (get_or fs k d).path in
    let begins = last_begins fs last text k d rest t e less l is in
    shared_is dir begins.0 rest shared
    (subst (λ u. shared ≤ length u) begins.1 s.in_first)
    (subst (λ u. shared ≤ length u) is s.in_second)
    (sym (ap (take shared) begins.1) ∙ s.same ∙ ap (take shared) is)
    (λ x y z. s.longest (subst (λ u. shared < length u) (sym begins.1) x) (subst (λ u. shared < length u) (sym is) y)
    (ap (λ u. get_or u shared 0) begins.1 ∙ z ∙ sym (ap (λ u. get_or u shared 0) is)))
    begins.2

-- ## The search is sound and complete

-- if no file's path is the common prefix with `/` after it, none is a directory of the path
pub no_ancestor_without : (fs : List TreeFile) (last : TreeFile) (text : List ℕ) (shared : ℕ) → IsTree (files_of fs) → 0 < length fs
    → last ≡ get_or fs (length fs - 1) last → ComesAfterAll (files_of fs) text
    → Shares (path_text last.path) text shared
    → ((prefix rest : List ℕ) → text ≡ prefix ++ 47 ∷ rest → shared ≡ length prefix → (f : TreeFile) → Contains fs f → path_text f.path ≡ prefix → ⊥)
    → HasNoAncestor (files_of fs) text
no_ancestor_without fs last text shared t some e above s none =
    all_files (λ f. (rest : List ℕ) → text ≡ path_text f.0 ++ 47 ∷ rest → ⊥) fs
    (recursion_from_All (λ (f : TreeFile). (rest : List ℕ) → text ≡ path_text f.path ++ 47 ∷ rest → ⊥) fs
    (λ k d l rest is.
    none (path_text (get_or fs k d).path) rest is
    (directory_is_shared fs last text shared k d rest t e (after_last fs last text some e above) l s is)
    (get_or fs k d) (Contains-get_or fs k d l) refl))

-- no `/` follows the common prefix
pub no_slash_there : (text : List ℕ) (shared : ℕ) → (shared < length text → get_or text shared 0 ≢ 47)
    → (prefix rest : List ℕ) → text ≡ prefix ++ 47 ∷ rest → shared ≡ length prefix → ⊥
no_slash_there text shared n prefix rest is e =
    n (omega (arith, e, ap length is, length-append prefix (47 ∷ rest)))
    (ap (λ k. get_or text k 0) e ∙ ap (λ u. get_or u (length prefix) 0) is ∙ get_or_at prefix 47 rest 0 (length prefix) refl)

-- no file's path is the common prefix
pub no_file_there : (fs : List TreeFile) (text : List ℕ) (shared : ℕ) → All (λ (f : TreeFile). path_text f.path ≢ take shared text) fs
    → (prefix rest : List ℕ) → text ≡ prefix ++ 47 ∷ rest → shared ≡ length prefix → (f : TreeFile) → Contains fs f → path_text f.path ≡ prefix → ⊥
no_file_there fs text shared none prefix rest is e f c g =
    All-contains (λ (f : TreeFile). path_text f.path ≢ take shared text) fs f none c
    (g ∙ sym (ap (take shared) is ∙ take_at prefix (47 ∷ rest) shared (sym e)))

-- a file whose path is the common prefix is a directory of the path
pub ancestor_found : (fs : List TreeFile) (text : List ℕ) (shared position : ℕ) → position < length fs
    → HoldsAt (λ (f : TreeFile). path_text f.path ≡ take shared text) fs position → shared < length text → get_or text shared 0 ≡ 47
    → HasNoAncestor (files_of fs) text → ⊥
ancestor_found [] text shared position l h s e apart = omega (arith, l)
ancestor_found (f ∷ fs) text shared position l h s e apart =
    let each = All-from_recursion (λ (g : TreeFile). (rest : List ℕ) → text ≡ path_text g.path ++ 47 ∷ rest → ⊥) (f ∷ fs)
    (all_in_memory (λ g. (rest : List ℕ) → text ≡ path_text g.0 ++ 47 ∷ rest → ⊥) (f ∷ fs) apart) in
    each position f l (drop (shared + 1) text)
    (sym (take-append-drop shared text)
    ∙ ap (λ u. take shared text ++ u) (drop_more text shared 0 s ∙ ap (λ b. b ∷ drop (shared + 1) text) e)
    ∙ ap (λ u. u ++ 47 ∷ drop (shared + 1) text) (sym (h f)))

pub less_from_is_lt : (o : Ordering) → is_lt o ≡ true → o ≡ Less
less_from_is_lt Less e = refl
less_from_is_lt Equal e = absurd (false≢true e)
less_from_is_lt Greater e = absurd (false≢true e)

-- a search that finds something refutes a fact, and one that finds nothing proves it
pub none_or_found : (o : Option ℕ) (b : Bool) (P : ℕ → Type 0) (Q A : Type 0) → is_some o ≡ not b → IfSome o P → IfNone o Q
    → ((p : ℕ) → P p → A → ⊥) → (Q → A) → (b ≡ true → A) × (A → b ≡ true)
none_or_found None true P Q A e s n f g = (λ _. g n, λ _. refl)
none_or_found None false P Q A e s n f g = absurd (false≢true e)
none_or_found (Some p) true P Q A e s n f g = absurd (false≢true (sym e))
none_or_found (Some p) false P Q A e s n f g = (λ t. absurd (false≢true t), λ a. absurd (f p s a))
