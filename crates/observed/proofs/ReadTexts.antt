-- The text of a path set is read as the path set.
use Rattle.std.proofs.Common.{Vec, Global, IfOk, OnOk, ◌≡◌, ◌≢◌, ◌↔◌, ℕ, ◌+◌, ◌<◌, ◌≤◌, true, false, Bool, not, ◌&&◌, ◌==◌, cond, List, [], ◌∷◌, ◌++◌, length, codes, drop, get_or, Option, Some, None, Result, Ok, Err, inl, inr, refl, ap, sym, ◌∙◌, subst, arith, append_assoc, IsTrue}
use Rattle.std.specs.declared.alloc.AllocError.{AllocError}
use Rattle.std.specs.Bool.{nat_le, nat_eq}
use Rattle.std.specs.Borrow.{Bor}
use Rattle.std.specs.Cmp.Lexicographic.{pointwise}
use Rattle.std.specs.List.{All, AllByRecursion, flat_map, list_all, slice_split, join_with_byte}
use Rattle.std.specs.List.Sorted.{IsStrictlySortedBy}
use Rattle.std.specs.Option.{MatchOption, option_and_then, option_copied}
use Rattle.std.specs.Ordering.{is_lt}
use Rattle.std.specs.Str.{bytes_eq}
use Rattle.std.specs.declared.cmp.Ordering.TheVariants.{Less}
use Rattle.std.proofs.lemmas.Bool.{and_from, and_parts, cases_Bool, le-leb, leb-true}
use Rattle.std.proofs.lemmas.Bool.Decides.{Decides-eqb}
use Rattle.std.proofs.lemmas.List.{append-nil}
use Rattle.std.proofs.lemmas.List.Elements.{All-from_recursion}
use Rattle.std.proofs.lemmas.List.Splits.{join_with_byte-slice_split, slice_split_at}
use Rattle.std.proofs.lemmas.Slice.Eq.{bytes_eq-Decides}
use Rattle.std.proofs.lemmas.Option.{same_Some}
use Rattle.bx_tree.specs.Paths.{Atoms, IsAtom, IsPath, IsPathText, Names, is_atom_byte, path_of, path_text}
use Rattle.bx_tree.specs.Headers.{HasNo, IsSplitOnce}
use Rattle.bx_tree.specs.declared.limits.TheConstants.{MAX_ATOM_BYTES, MAX_PATH_BYTES}
use Rattle.bx_tree.proofs.PathTexts.{named_by_parts, path_of-named}
use Rattle.bx_path.specs.Joining.{is_atom}
use Rattle.bx_path.proofs.StepsOfTexts.{is_atom_true, other_bytes}
use Rattle.bx_path.specs.Globbing.{IsPattern, is_pattern}
use Rattle.bx_path.proofs.Patterns.{bytes_lack as pattern_lacks, pattern_is, pattern_passes}
use Rattle.observed.specs.declared.ask.AskKind.{AskKind}
use Rattle.observed.specs.declared.ask.AskKind.TheVariants as kinds
use Rattle.observed.specs.declared.ask.Ask.{Ask}
use Rattle.observed.specs.declared.path_set.SetFault.{SetFault}
use Rattle.observed.specs.declared.path_set.SetFault.TheVariants.{BadSet, Memory}
use Rattle.observed.specs.Asks.{ask_cmp}
use Rattle.observed.specs.Orders.{ask_cmp_total}
use Rattle.observed.specs.PathSets.{IsAsk, IsKind, IsPathSet}
use Rattle.observed.specs.Texts.{ReadsPathSet, ReadsAsks, all_asks, after_asks, after_prefix, ask_after, ask_at, ask_line, blank_parts, first_line, has_match, if_set, in_front, is_rising, is_version, kind_text, match_at, match_by, named_ask, named_asks, named_path, paths_text, read_lines, read_paths_text, set_of_lines, with_ask}
use Rattle.bx_tree.specs.Lent.{texts_now}
use Rattle.bx_tree.proofs.Lists.{none_left, all_true}
use Rattle.bx_tree.proofs.Lent.{texts_at, drop_whole}
use Rattle.bx_tree.proofs.Options.{if_some}
use Rattle.bx_tree.proofs.AncestorSearch.{less_from_is_lt}

-- ## Paths

atom_sound : (text : List ℕ) → is_atom text ≡ true → IsAtom text
atom_sound text e =
    let some = nat_le 1 (length text) in
    let short = nat_le (length text) MAX_ATOM_BYTES in
    let bytes = list_all is_atom_byte text in
    let a = and_parts (some && short && bytes && not (bytes_eq text (codes "."))) (not (bytes_eq text (codes ".."))) e in
    let b = and_parts (some && short && bytes) (not (bytes_eq text (codes "."))) a.0 in
    let d = and_parts (some && short) bytes b.0 in
    let f = and_parts some short d.0 in
    record {
      some = leb-true 1 (length text) f.0;
      short = leb-true (length text) MAX_ATOM_BYTES f.1;
      bytes = all_true is_atom_byte text d.1;
      not_dot = other_bytes text (codes ".") b.1;
      not_dots = other_bytes text (codes "..") a.1;
    }

atoms_sound : (path : Atoms) → list_all is_atom path ≡ true → AllByRecursion IsAtom path
atoms_sound [] e = tt
atoms_sound (atom ∷ rest) e = let parts = and_parts (is_atom atom) (list_all is_atom rest) e in (atom_sound atom parts.0, atoms_sound rest parts.1)

atoms_complete : (path : Atoms) → AllByRecursion IsAtom path → list_all is_atom path ≡ true
atoms_complete [] h = refl
atoms_complete (atom ∷ rest) h = and_from (is_atom atom) (list_all is_atom rest) (is_atom_true atom h.0) (atoms_complete rest h.1)

-- the text is that of the path
pub record IsTextOf (text : List ℕ) (path : Atoms) : Type 0 where
  pub is_path : IsPath path
  pub text_is : text ≡ path_text path

pub path_sound : (text : List ℕ) (path : Atoms) → named_path text ≡ Some path → IsTextOf text path
path_sound text path e =
    let named = if_some (list_all is_atom (path_of text) && nat_le (length text) MAX_PATH_BYTES) (Some (path_of text)) path e in
    let tests = and_parts (list_all is_atom (path_of text)) (nat_le (length text) MAX_PATH_BYTES) named.0 in
    subst (IsTextOf text) (same_Some (path_of text) path named.1)
    (by_dot (pointwise nat_eq text (codes ".")) refl tests.0 (leb-true (length text) MAX_PATH_BYTES tests.1))
  where
    by_dot : (t : Bool) → pointwise nat_eq text (codes ".") ≡ t → list_all is_atom (cond t [] (slice_split (λ b. b == 47) text)) ≡ true → length text ≤ MAX_PATH_BYTES
        → IsTextOf text (cond t [] (slice_split (λ b. b == 47) text))
    by_dot true dot atoms short = record { is_path = record { atoms = tt; short = omega arith }; text_is = (bytes_eq-Decides text (codes ".")).0 dot }
    by_dot false dot atoms short =
        let names = named_by_parts text (atoms_sound (slice_split (λ b. b == 47) text) atoms) short in
        record { is_path = names.is_path; text_is = names.text_is }

pub path_complete : (path : Atoms) → IsPath path → named_path (path_text path) ≡ Some path
path_complete [] h = refl
path_complete (atom ∷ rest) h =
    let path = atom ∷ rest in
    let text = path_text path in
    let again : path_of text ≡ path = path_of-named text path (record { is_path = h; not_root = λ (e : atom ∷ rest ≡ []). cc; text_is = refl }) in
    ap (λ p. cond (list_all is_atom p && nat_le (length text) MAX_PATH_BYTES) (Some p) None) again
    ∙ ap (λ t. cond t (Some path) None)
    (and_from (list_all is_atom path) (nat_le (length text) MAX_PATH_BYTES) (atoms_complete path h.atoms) (le-leb (length text) MAX_PATH_BYTES h.short))

pub path_named : (text : List ℕ) (path : Atoms) → Names text path → named_path text ≡ Some path
path_named text path h = ap named_path h.text_is ∙ path_complete path h.is_path

pub no_path : (text : List ℕ) → text ≢ codes "." → (IsPathText text → ⊥) → named_path text ≡ None
no_path text other none = by_option (named_path text) refl
  where
    names : (path : Atoms) → IsTextOf text path → IsPathText text
    names [] h = absurd (other h.text_is)
    names (atom ∷ rest) h = (atom ∷ rest, record { is_path = h.is_path; not_root = λ (e : atom ∷ rest ≡ []). cc; text_is = h.text_is })

    by_option : (o : Option Atoms) → named_path text ≡ o → o ≡ None
    by_option None e = refl
    by_option (Some path) e = absurd (none (names path (path_sound text path e)))

-- ## Lines

pub prefix_sound : (prefix text rest : List ℕ) → after_prefix prefix text ≡ Some rest → text ≡ prefix ++ rest
prefix_sound [] text rest e = same_Some text rest e
prefix_sound (p ∷ ps) [] rest e = cc
prefix_sound (p ∷ ps) (b ∷ bs) rest e =
    let parts = if_some (p == b) (after_prefix ps bs) rest e in
    ap (λ x. x ∷ bs) (sym ((Decides-eqb p b).0 parts.0)) ∙ ap (λ t. p ∷ t) (prefix_sound ps bs rest parts.1)

-- a line without its newline
abbrev pub ask_body : Ask → List ℕ
ask_body ask = kind_text ask.kind ++ codes " " ++ path_text ask.path

pub record IsLineOf (line : List ℕ) (ask : Ask) : Type 0 where
  pub is_ask : IsAsk ask
  pub line_is : line ≡ ask_body ask

at_sound : (kind : AskKind) (line text : List ℕ) (ask : Ask) → IsKind kind → line ≡ kind_text kind ++ codes " " ++ text → ask_at kind (named_path text) ≡ Some ask
    → IsLineOf line ask
at_sound kind line text ask good is e = by_path (named_path text) refl e
  where
    by_path : (o : Option Atoms) → named_path text ≡ o → ask_at kind o ≡ Some ask → IsLineOf line ask
    by_path None named e = cc
    by_path (Some path) named e =
        let h = path_sound text path named in
        let same : record { kind = kind; path = path } ≡ ask = same_Some (record { kind = kind; path = path }) ask e in
        subst (IsLineOf line) same
        (record { is_ask = record { path = h.is_path; kind = good }; line_is = is ∙ ap (λ t. kind_text kind ++ codes " " ++ t) h.text_is })

in_front_sound : (b : ℕ) (o : Option (List ℕ × List ℕ)) (parts : List ℕ × List ℕ) → in_front b o ≡ Some parts
    → (inner : List ℕ × List ℕ) × (o ≡ Some inner) × ((b ∷ inner.0, inner.1) ≡ parts)
in_front_sound b None parts e = cc
in_front_sound b (Some inner) parts e = (inner, refl, same_Some (b ∷ inner.0, inner.1) parts e)

parts_sound : (text : List ℕ) (parts : List ℕ × List ℕ) → blank_parts text ≡ Some parts → text ≡ parts.0 ++ 32 ∷ parts.1
parts_sound [] parts e = cc
parts_sound (b ∷ bs) parts e = by_byte (b == 32) refl (λ u f. parts_sound bs u f) e
  where
    by_byte : (t : Bool) → (b == 32) ≡ t → ((u : List ℕ × List ℕ) → blank_parts bs ≡ Some u → bs ≡ u.0 ++ 32 ∷ u.1)
        → cond t (Some ([], bs)) (in_front b (blank_parts bs)) ≡ Some parts → b ∷ bs ≡ parts.0 ++ 32 ∷ parts.1
    by_byte true same sound e =
        subst (λ (p : List ℕ × List ℕ). b ∷ bs ≡ p.0 ++ 32 ∷ p.1) (same_Some ([], bs) parts e) (ap (λ x. x ∷ bs) ((Decides-eqb b 32).0 same))
    by_byte false other sound e =
        let inner = in_front_sound b (blank_parts bs) parts e in
        subst (λ (p : List ℕ × List ℕ). b ∷ bs ≡ p.0 ++ 32 ∷ p.1) inner.2 (ap (λ t. b ∷ t) (sound inner.0 inner.1))

parts_again : (front rest : List ℕ) → AllByRecursion (λ b. (b == 32) ≡ false) front → blank_parts (front ++ 32 ∷ rest) ≡ Some (front, rest)
parts_again [] rest h = refl
parts_again (b ∷ bs) rest h =
    ap (λ t. cond t (Some ([], bs ++ 32 ∷ rest)) (in_front b (blank_parts (bs ++ 32 ∷ rest)))) h.0 ∙ ap (in_front b) (parts_again bs rest h.1)

no_parts : (text : List ℕ) → AllByRecursion (λ b. (b == 32) ≡ false) text → blank_parts text ≡ None
no_parts [] h = refl
no_parts (b ∷ bs) h = ap (λ t. cond t (Some ([], bs)) (in_front b (blank_parts bs))) h.0 ∙ ap (in_front b) (no_parts bs h.1)

lacks_blank : (text : List ℕ) → HasNo 32 text → AllByRecursion (λ b. (b == 32) ≡ false) text
lacks_blank [] h = tt
lacks_blank (b ∷ bs) h = (differs, lacks_blank bs h.1)
  where
    differs : (b == 32) ≡ false
    differs = elim (cases_Bool (b == 32)) [ inl same ↦ absurd (h.0 ((Decides-eqb b 32).0 same)) | inr e ↦ e ]

-- the cut at the first blank of a text
pub parts_by_cut : (text : List ℕ) (r : Option (Bor (List ℕ) × Bor (List ℕ))) → MatchOption r (HasNo 32 text) (λ parts. IsSplitOnce 32 text parts.0.now parts.1.now)
    → MatchOption r (blank_parts text ≡ None) (λ parts. blank_parts text ≡ Some (parts.0.now, parts.1.now))
parts_by_cut text None h = no_parts text (lacks_blank text h)
parts_by_cut text (Some parts) h = ap blank_parts h.1 ∙ parts_again parts.0.now parts.1.now (lacks_blank parts.0.now h.0)

match_sound : (line text : List ℕ) (ask : Ask) → line ≡ codes "match " ++ text → match_at text ≡ Some ask → IsLineOf line ask
match_sound line text ask is e = by_parts (blank_parts text) refl e
  where
    by_parts : (o : Option (List ℕ × List ℕ)) → blank_parts text ≡ o → match_by o ≡ Some ask → IsLineOf line ask
    by_parts None at e = cc
    by_parts (Some parts) at e =
        let tests = if_some (is_pattern parts.0) (ask_at (kinds.Match parts.0) (named_path parts.1)) ask e in
        at_sound (kinds.Match parts.0) line parts.1 ask (pattern_is parts.0 tests.0)
        (is ∙ ap (λ t. codes "match " ++ t) (parts_sound text parts at ∙ sym (append_assoc parts.0 (32 ∷ []) parts.1))) tests.1

pub ask_sound : (line : List ℕ) (ask : Ask) → named_ask line ≡ Some ask → IsLineOf line ask
ask_sound line ask e =
    by_word (after_prefix (codes "read ") line) (after_prefix (codes "probe ") line) (after_prefix (codes "list ") line) (after_prefix (codes "match ") line) refl refl refl refl e
  where
    by_word : (r p l m : Option (List ℕ)) → after_prefix (codes "read ") line ≡ r → after_prefix (codes "probe ") line ≡ p → after_prefix (codes "list ") line ≡ l
        → after_prefix (codes "match ") line ≡ m → ask_after r p l m ≡ Some ask → IsLineOf line ask
    by_word (Some text) p l m is-r is-p is-l is-m e = at_sound kinds.Read line text ask tt (prefix_sound (codes "read ") line text is-r) e
    by_word None (Some text) l m is-r is-p is-l is-m e = at_sound kinds.Probe line text ask tt (prefix_sound (codes "probe ") line text is-p) e
    by_word None None (Some text) m is-r is-p is-l is-m e = at_sound kinds.List line text ask tt (prefix_sound (codes "list ") line text is-l) e
    by_word None None None (Some text) is-r is-p is-l is-m e = match_sound line text ask (prefix_sound (codes "match ") line text is-m) e
    by_word None None None None is-r is-p is-l is-m e = cc

body_read : (kind : AskKind) (path : Atoms) → IsKind kind → IsPath path → named_ask (kind_text kind ++ codes " " ++ path_text path) ≡ Some (record { kind = kind; path = path })
body_read kinds.Read path k h = ap (ask_at kinds.Read) (path_complete path h)
body_read kinds.Probe path k h = ap (ask_at kinds.Probe) (path_complete path h)
body_read kinds.List path k h = ap (ask_at kinds.List) (path_complete path h)
body_read (kinds.Match pattern) path k h =
    ap match_at (append_assoc pattern (32 ∷ []) (path_text path))
    ∙ ap match_by (parts_again pattern (path_text path) (pattern_lacks 32 pattern refl k.bytes))
    ∙ ap (λ t. cond t (ask_at (kinds.Match pattern) (named_path (path_text path))) None) (pattern_passes pattern k)
    ∙ ap (ask_at (kinds.Match pattern)) (path_complete path h)

-- no byte of a line but its last is a newline
abbrev pub Lacks : List ℕ → Type 0
Lacks text = AllByRecursion (λ b. (b == 10) ≡ false) text

lacks_append : (xs ys : List ℕ) → Lacks xs → Lacks ys → Lacks (xs ++ ys)
lacks_append [] ys h k = k
lacks_append (x ∷ xs) ys h k = (h.0, lacks_append xs ys h.1 k)

atom_byte_lacks : (b : ℕ) → is_atom_byte b ≡ true → (b == 10) ≡ false
atom_byte_lacks b e = elim (cases_Bool (b == 10)) [
  | inl same ↦ let clash : false ≡ true = ap is_atom_byte (sym ((Decides-eqb b 10).0 same)) ∙ e in cc
  | inr other ↦ other
]

bytes_lack : (bs : List ℕ) → AllByRecursion (λ b. IsTrue (is_atom_byte b)) bs → Lacks bs
bytes_lack [] h = tt
bytes_lack (b ∷ bs) h = (atom_byte_lacks b h.0, bytes_lack bs h.1)

path_lacks : (path : Atoms) → AllByRecursion IsAtom path → Lacks (path_text path)
path_lacks [] h = (refl, tt)
path_lacks (atom ∷ rest) h = joined atom rest h
  where
    joined : (atom : List ℕ) (rest : Atoms) → AllByRecursion IsAtom (atom ∷ rest) → Lacks (join_with_byte 47 (atom ∷ rest))
    joined atom [] h = bytes_lack atom h.0.bytes
    joined atom (more ∷ rest) h = lacks_append atom (47 ∷ join_with_byte 47 (more ∷ rest)) (bytes_lack atom h.0.bytes) (refl, joined more rest h.1)

kind_lacks : (kind : AskKind) → IsKind kind → Lacks (kind_text kind ++ codes " ")
kind_lacks kinds.Read k = (refl, (refl, (refl, (refl, (refl, tt)))))
kind_lacks kinds.Probe k = (refl, (refl, (refl, (refl, (refl, (refl, tt))))))
kind_lacks kinds.List k = (refl, (refl, (refl, (refl, (refl, tt)))))
kind_lacks (kinds.Match pattern) k =
    (refl, (refl, (refl, (refl, (refl, (refl, lacks_append pattern (32 ∷ []) (pattern_lacks 10 pattern refl k.bytes) (refl, tt)))))))

body_lacks : (ask : Ask) → IsAsk ask → All (λ b. (b == 10) ≡ false) (ask_body ask)
body_lacks ask h =
    All-from_recursion (λ b. (b == 10) ≡ false) (ask_body ask)
    (lacks_append (kind_text ask.kind ++ codes " ") (path_text ask.path) (kind_lacks ask.kind h.kind) (path_lacks ask.path h.path.atoms))

-- ## All lines

abbrev pub AreAsks : List Ask → Type 0
AreAsks asks = AllByRecursion IsAsk asks

pub record AreLinesOf (lines : List (List ℕ)) (asks : List Ask) : Type 0 where
  pub each : AreAsks asks
  pub joined : join_with_byte 10 lines ≡ flat_map ask_line asks

with_sound : (o : Option Ask) (rest : Option (List Ask)) (asks : List Ask) → with_ask o rest ≡ Some asks
    → (a : Ask) × (more : List Ask) × (o ≡ Some a) × (rest ≡ Some more) × (a ∷ more ≡ asks)
with_sound None rest asks e = cc
with_sound (Some a) None asks e = cc
with_sound (Some a) (Some more) asks e = (a, more, refl, refl, same_Some (a ∷ more) asks e)

pub lines_sound : (lines : List (List ℕ)) (asks : List Ask) → named_asks lines ≡ Some asks → AreLinesOf lines asks
lines_sound [] asks e = cc
lines_sound ([] ∷ []) asks e = subst (AreLinesOf ([] ∷ [])) (same_Some [] asks e) (record { each = tt; joined = refl })
lines_sound ((b ∷ bs) ∷ []) asks e = cc
lines_sound (line ∷ more ∷ lines) asks e =
    let parts = with_sound (named_ask line) (named_asks (more ∷ lines)) asks e in
    let h = ask_sound line parts.0 parts.2 in
    let rest = lines_sound (more ∷ lines) parts.1 parts.3 in
    subst (AreLinesOf (line ∷ more ∷ lines)) parts.4 (record {
      each = (h.is_ask, rest.each);
      joined = ap (λ t. t ++ 10 ∷ join_with_byte 10 (more ∷ lines)) h.line_is
          ∙ sym (append_assoc (ask_body parts.0) (10 ∷ []) (join_with_byte 10 (more ∷ lines)))
          ∙ ap (λ t. ask_line parts.0 ++ t) rest.joined;
    })

one_more : (line : List ℕ) (lines : List (List ℕ)) (a : Ask) (asks : List Ask) → named_ask line ≡ Some a → named_asks lines ≡ Some asks
    → named_asks (line ∷ lines) ≡ Some (a ∷ asks)
one_more line [] a asks e f = cc
one_more line (more ∷ lines) a asks e f = ap (λ o. with_ask o (named_asks (more ∷ lines))) e ∙ ap (with_ask (Some a)) f

pub lines_complete : (asks : List Ask) → AreAsks asks → named_asks (slice_split (λ b. b == 10) (flat_map ask_line asks)) ≡ Some asks
lines_complete [] h = refl
lines_complete (a ∷ as') h =
    let rest = flat_map ask_line as' in
    ap (λ t. named_asks (slice_split (λ b. b == 10) t)) (append_assoc (ask_body a) (10 ∷ []) rest)
    ∙ ap named_asks (slice_split_at (λ b. b == 10) (ask_body a) 10 rest (body_lacks a h.0) refl)
    ∙ one_more (ask_body a) (slice_split (λ b. b == 10) rest) a as' (body_read a.kind a.path h.0.kind h.0.path) (lines_complete as' h.1)

-- ## Order

all_above : (a b : Ask) (rest : List Ask) → ask_cmp a b ≡ Less → AllByRecursion (λ q. ask_cmp b q ≡ Less) rest → AllByRecursion (λ q. ask_cmp a q ≡ Less) rest
all_above a b [] e h = tt
all_above a b (c ∷ rest) e h = (ask_cmp_total.trans a b c e h.0, all_above a b rest e h.1)

pub rising_sound : (asks : List Ask) → is_rising asks ≡ true → IsStrictlySortedBy ask_cmp asks
unfolding IsStrictlySortedBy
rising_sound [] e = tt
rising_sound (a ∷ []) e = (tt, tt)
rising_sound (a ∷ b ∷ rest) e =
    let parts = and_parts (is_lt (ask_cmp a b)) (is_rising (b ∷ rest)) e in
    let less = less_from_is_lt (ask_cmp a b) parts.0 in
    let more = rising_sound (b ∷ rest) parts.1 in
    ((less, all_above a b rest less more.0), more)

pub rising_complete : (asks : List Ask) → IsStrictlySortedBy ask_cmp asks → is_rising asks ≡ true
unfolding IsStrictlySortedBy
rising_complete [] h = refl
rising_complete (a ∷ []) h = refl
rising_complete (a ∷ b ∷ rest) h = and_from (is_lt (ask_cmp a b)) (is_rising (b ∷ rest)) (ap is_lt h.0.0) (rising_complete (b ∷ rest) h.1)

-- ## Whole texts

version_is : (second found : Bool) → cond second found (not found) ≡ true → second ≡ found
version_is true found e = sym e
version_is false true e = cc
version_is false false e = refl

-- the text of a path set whose version is this one
text_of_version : (set : List Ask) (second : Bool) → second ≡ has_match set → first_line second ++ 10 ∷ flat_map ask_line set ≡ paths_text set
text_of_version set second e =
    ap (λ v. first_line v ++ 10 ∷ flat_map ask_line set) e ∙ sym (append_assoc (first_line (has_match set)) (10 ∷ []) (flat_map ask_line set))

-- asks that strictly rise are a path set of their own version
set_sound : (second : Bool) (asks set : List Ask) → if_set second asks ≡ Some set → (is_rising set ≡ true) × (second ≡ has_match set) × (asks ≡ set)
set_sound second asks set e =
    let fits = if_some (is_rising asks && is_version second asks) (Some asks) set e in
    let same : asks ≡ set = same_Some asks set fits.1 in
    by_set asks same (and_parts (is_rising asks) (is_version second asks) fits.0)
  where
    by_set : (xs : List Ask) → xs ≡ set → (is_rising xs ≡ true) × (is_version second xs ≡ true) → (is_rising set ≡ true) × (second ≡ has_match set) × (xs ≡ set)
    by_set xs same tests =
        let tests' = subst (λ (ys : List Ask). (is_rising ys ≡ true) × (is_version second ys ≡ true)) same tests in
        (tests'.0, version_is second (has_match set) tests'.1, same)

some_set : (second : Bool) (o : Option (List Ask)) (set : List Ask) → option_and_then (if_set second) o ≡ Some set
    → (o ≡ Some set) × (is_rising set ≡ true) × (second ≡ has_match set)
some_set second None set e = cc
some_set second (Some asks) set e = let h = set_sound second asks set e in (ap Some h.2, h.0, h.1)

first_join : (first : List ℕ) (lines : List (List ℕ)) (set : List Ask) → named_asks lines ≡ Some set → join_with_byte 10 (first ∷ lines) ≡ first ++ 10 ∷ join_with_byte 10 lines
first_join first [] set e = cc
first_join first (line ∷ lines) set e = refl

of_version : (text : List ℕ) (set : List Ask) (second : Bool) (first : List ℕ) (lines : List (List ℕ)) → slice_split (λ b. b == 10) text ≡ first ∷ lines
    → first ≡ first_line second → set_of_lines second lines ≡ Some set → IsPathSet set × (text ≡ paths_text set)
of_version text set second first lines is named e =
    let found = some_set second (named_asks lines) set e in
    let h = lines_sound lines set found.0 in (
      record { order = rising_sound set found.1; asks = h.each },
      sym (join_with_byte-slice_split 10 text) ∙ ap (join_with_byte 10) is ∙ first_join first lines set found.0
          ∙ ap (λ f. f ++ 10 ∷ join_with_byte 10 lines) named ∙ ap (λ t. first_line second ++ 10 ∷ t) h.joined ∙ text_of_version set second found.2,
    )

pub text_sound : (text : List ℕ) (set : List Ask) → read_paths_text text ≡ Some set → IsPathSet set × (text ≡ paths_text set)
text_sound text set e = by_lines (slice_split (λ b. b == 10) text) refl e
  where
    by_first : (t u : Bool) (first : List ℕ) (lines : List (List ℕ)) → slice_split (λ b. b == 10) text ≡ first ∷ lines → bytes_eq first (first_line true) ≡ t
        → bytes_eq first (first_line false) ≡ u → cond t (set_of_lines true lines) (cond u (set_of_lines false lines) None) ≡ Some set
        → IsPathSet set × (text ≡ paths_text set)
    by_first true u first lines is second other e = of_version text set true first lines is ((bytes_eq-Decides first (first_line true)).0 second) e
    by_first false true first lines is second other e = of_version text set false first lines is ((bytes_eq-Decides first (first_line false)).0 other) e
    by_first false false first lines is second other e = cc

    by_lines : (lines : List (List ℕ)) → slice_split (λ b. b == 10) text ≡ lines → read_lines lines ≡ Some set → IsPathSet set × (text ≡ paths_text set)
    by_lines [] is e = cc
    by_lines (first ∷ lines) is e = by_first (bytes_eq first (first_line true)) (bytes_eq first (first_line false)) first lines is refl refl e

pub text_complete : (set : List Ask) → IsPathSet set → read_paths_text (paths_text set) ≡ Some set
text_complete set h = by_version (has_match set) refl
  where
    by_version : (v : Bool) → has_match set ≡ v → read_paths_text (paths_text set) ≡ Some set
    by_version true e =
        ap (λ v. read_paths_text (first_line v ++ codes "\n" ++ flat_map ask_line set)) e
        ∙ ap (option_and_then (if_set true)) (lines_complete set h.asks)
        ∙ ap (λ t. cond (t && has_match set) (Some set) None) (rising_complete set h.order) ∙ ap (λ t. cond t (Some set) None) e
    by_version false e =
        ap (λ v. read_paths_text (first_line v ++ codes "\n" ++ flat_map ask_line set)) e
        ∙ ap (option_and_then (if_set false)) (lines_complete set h.asks)
        ∙ ap (λ t. cond (t && not (has_match set)) (Some set) None) (rising_complete set h.order) ∙ ap (λ t. cond (not t) (Some set) None) e

pub text_law : (text : List ℕ) (set : List Ask) → (read_paths_text text ≡ Some set) ↔ (IsPathSet set × (text ≡ paths_text set))
text_law text set = (text_sound text set, λ h. ap read_paths_text h.1 ∙ text_complete set h.0)

-- ## Loops

pub named_prefix : (lines : List (List ℕ)) → named_asks (lines ++ [] ∷ []) ≡ all_asks lines
named_prefix [] = refl
named_prefix (line ∷ []) = refl
named_prefix (line ∷ more ∷ lines) = ap (with_ask (named_ask line)) (named_prefix (more ∷ lines))

no_asks : (o : Option Ask) → with_ask o None ≡ None
no_asks None = refl
no_asks (Some ask) = refl

pub named_open : (lines : List (List ℕ)) (b : ℕ) (bs : List ℕ) → named_asks (lines ++ (b ∷ bs) ∷ []) ≡ None
named_open [] b bs = refl
named_open (line ∷ []) b bs = no_asks (named_ask line)
named_open (line ∷ more ∷ lines) b bs = ap (with_ask (named_ask line)) (named_open (more ∷ lines) b bs) ∙ no_asks (named_ask line)

after_more : (earlier : List Ask) (ask : Ask) (read : Option (List Ask)) → after_asks (earlier ++ ask ∷ []) read ≡ after_asks earlier (with_ask (Some ask) read)
after_more earlier ask None = refl
after_more earlier ask (Some asks) = ap Some (append_assoc earlier (ask ∷ []) asks)

pub one_ask : (lines : List (Bor (List ℕ))) (i : ℕ) (d : Bor (List ℕ)) (earlier new : List Ask) (ask : Ask) (all : Option (List Ask)) → i < length lines
    → named_ask (get_or lines i d).now ≡ Some ask → new ≡ earlier ++ ask ∷ [] → after_asks earlier (all_asks (texts_now (drop i lines))) ≡ all
    → after_asks new (all_asks (texts_now (drop (i + 1) lines))) ≡ all
one_ask lines i d earlier new ask all l is more so_far =
    ap (λ xs. after_asks xs (all_asks (texts_now (drop (i + 1) lines)))) more
    ∙ after_more earlier ask (all_asks (texts_now (drop (i + 1) lines)))
    ∙ ap (λ o. after_asks earlier (with_ask o (all_asks (texts_now (drop (i + 1) lines))))) (sym is)
    ∙ ap (λ ts. after_asks earlier (all_asks ts)) (sym (texts_at lines i d l)) ∙ so_far

pub bad_ask : (lines : List (Bor (List ℕ))) (i : ℕ) (d : Bor (List ℕ)) (earlier : List Ask) (all : Option (List Ask)) → i < length lines
    → named_ask (get_or lines i d).now ≡ None → after_asks earlier (all_asks (texts_now (drop i lines))) ≡ all → all ≡ None
bad_ask lines i d earlier all l is so_far =
    sym so_far ∙ ap (λ ts. after_asks earlier (all_asks ts)) (texts_at lines i d l)
    ∙ ap (λ o. after_asks earlier (with_ask o (all_asks (texts_now (drop (i + 1) lines))))) is

pub all_read : (lines : List (Bor (List ℕ))) (i : ℕ) (earlier : List Ask) (all : Option (List Ask)) → length lines ≡ i
    → after_asks earlier (all_asks (texts_now (drop i lines))) ≡ all → all ≡ Some earlier
all_read lines i earlier all l so_far =
    sym so_far ∙ ap (λ ls. after_asks earlier (all_asks (texts_now ls))) (drop_whole lines i l) ∙ ap Some (append-nil earlier)

-- what a fault of a part says of the whole
pub err_again : {X : Type 0} (e : SetFault) (part : Option X) (all : Option (List Ask)) → ReadsPathSet (Err e) part → (part ≡ None → all ≡ None) → ReadsAsks (Err e) all
err_again BadSet part all h f = f h
err_again Memory part all h f = tt

pub err_asks : (e : SetFault) (part all : Option (List Ask)) → ReadsAsks (Err e) part → (part ≡ None → all ≡ None) → ReadsAsks (Err e) all
err_asks BadSet part all h f = f h
err_asks Memory part all h f = tt

pub prefix_complete : (prefix rest : List ℕ) → after_prefix prefix (prefix ++ rest) ≡ Some rest
prefix_complete [] rest = refl
prefix_complete (p ∷ ps) rest = ap (λ t. cond t (after_prefix ps (ps ++ rest)) None) ((Decides-eqb p p).1 refl) ∙ prefix_complete ps rest

pub prefix_is : (prefix text : List ℕ) (r : Option (Bor (List ℕ))) → MatchOption r ((rest : List ℕ) → text ≢ prefix ++ rest) (λ x. text ≡ prefix ++ x.now)
    → option_copied r ≡ after_prefix prefix text
prefix_is prefix text (Some x) h = sym (ap (after_prefix prefix) h ∙ prefix_complete prefix x.now)
prefix_is prefix text None h = sym (by_option (after_prefix prefix text) refl)
  where
    by_option : (o : Option (List ℕ)) → after_prefix prefix text ≡ o → o ≡ None
    by_option None e = refl
    by_option (Some rest) e = absurd (h rest (prefix_sound prefix text rest e))

texts_push : (rest : List (Bor (List ℕ))) (last : Bor (List ℕ)) → texts_now (rest ++ last ∷ []) ≡ texts_now rest ++ last.now ∷ []
texts_push [] last = refl
texts_push (x ∷ xs) last = ap (λ ts. x.now ∷ ts) (texts_push xs last)

pub asks_closed : (lines rest : List (Bor (List ℕ))) (last : Bor (List ℕ)) → lines ≡ rest ++ last ∷ [] → length last.now ≡ 0
    → all_asks (texts_now rest) ≡ named_asks (texts_now lines)
asks_closed lines rest last is none =
    sym (ap (λ ls. named_asks (texts_now ls)) is ∙ ap named_asks (texts_push rest last) ∙ ap (λ t. named_asks (texts_now rest ++ t ∷ [])) (none_left last.now none)
    ∙ named_prefix (texts_now rest))

pub asks_open : (lines rest : List (Bor (List ℕ))) (last : Bor (List ℕ)) → lines ≡ rest ++ last ∷ [] → length last.now ≢ 0 → named_asks (texts_now lines) ≡ None
asks_open lines rest last is some =
    ap (λ ls. named_asks (texts_now ls)) is ∙ ap named_asks (texts_push rest last) ∙ by_text last.now some
  where
    by_text : (t : List ℕ) → length t ≢ 0 → named_asks (texts_now rest ++ t ∷ []) ≡ None
    by_text [] some = absurd (some refl)
    by_text (b ∷ bs) some = named_open (texts_now rest) b bs

pub rising_more : (rest more after : List Ask) (a b : Ask) → rest ≡ a ∷ more → more ≡ b ∷ after → is_lt (ask_cmp a b) ≡ true → is_rising more ≡ is_rising rest
rising_more rest more after a b is next' less =
    ap is_rising next' ∙ sym (ap is_rising (is ∙ ap (λ t. a ∷ t) next') ∙ ap (λ t. t && is_rising (b ∷ after)) less)

pub falls : (rest more after : List Ask) (a b : Ask) → rest ≡ a ∷ more → more ≡ b ∷ after → is_lt (ask_cmp a b) ≡ false → is_rising rest ≡ false
falls rest more after a b is next' less = ap is_rising (is ∙ ap (λ t. a ∷ t) next') ∙ ap (λ t. t && is_rising (b ∷ after)) less

-- ## Calls

-- a listing by a pattern, where the text is a pattern
pub match_made : (r : Result Ask SetFault) (text pattern path : List ℕ) → IsPattern text × (pattern ≡ text) → ReadsPathSet r (ask_at (kinds.Match pattern) (named_path path))
    → ReadsPathSet r (match_by (Some (text, path)))
match_made r text pattern path h read =
    subst (λ (o : Option Ask). ReadsPathSet r o)
    (ap (λ p. ask_at (kinds.Match p) (named_path path)) h.1 ∙ sym (ap (λ t. cond t (ask_at (kinds.Match text) (named_path path)) None) (pattern_passes text h.0))) read

pub no_match : (text path : List ℕ) → (IsPattern text → ⊥) → match_by (Some (text, path)) ≡ None
no_match text path none = by_test (is_pattern text) refl
  where
    by_test : (t : Bool) → is_pattern text ≡ t → cond t (ask_at (kinds.Match text) (named_path path)) None ≡ None
    by_test true e = absurd (none (pattern_is text e))
    by_test false e = refl

pub text_reads : (r : Result (Vec ℕ Global) AllocError) (xs asks : List Ask) → xs ≡ asks → IfOk r (λ text. text.items ≡ paths_text xs) → OnOk r (AreAsks xs)
    → IsStrictlySortedBy ask_cmp asks → IfOk r (λ text. read_paths_text text.items ≡ Some asks)
text_reads (Ok text) xs asks same is paths order =
    ap read_paths_text (is ∙ ap paths_text same) ∙ text_complete asks (record { order = order; asks = subst AreAsks same paths })
text_reads (Err e) xs asks same is paths order = tt

pub err_same : {X : Type 0} (a b : SetFault) (r : Result X SetFault) → r ≡ Err a → r ≡ Err b → a ≡ b
err_same a b r e f = cc

pub no_set : (e : SetFault) (text : List ℕ) → ReadsAsks (Err e) (read_paths_text text) → e ≡ BadSet → (set : List Ask) → IsPathSet set → text ≡ paths_text set → ⊥
no_set BadSet text read bad set h is = none (sym (ap read_paths_text is ∙ text_complete set h) ∙ read)
  where
    none : Some set ≡ None → ⊥
    none e = cc
no_set Memory text read bad set h is = cc
