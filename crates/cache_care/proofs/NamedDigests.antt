-- What entries name are digests, and names tell digests apart.
use Rattle.std.proofs.Common.{◌≡◌, ℕ, zero, suc, Bool, true, false, cond, List, [], ◌∷◌, ◌++◌, filter, flat_map, length, map, take, Option, Some, None, refl, sym, ap, ◌∙◌, subst, inl, inr, arith}
use Rattle.std.specs.Prelude.{◌||◌}
use Rattle.std.specs.FinMap.{get, keys}
use Rattle.std.specs.List.{AllByRecursion, list_any}
use Rattle.std.specs.Str.{bytes_eq}
use Rattle.std.proofs.lemmas.Bool.{cases_Bool}
use Rattle.std.proofs.lemmas.List.{length-map}
use Rattle.std.proofs.lemmas.Slice.Eq.{bytes_eq-Decides}
use Rattle.sha2.specs.Sha256.{sha256}
use Rattle.bx_digest.specs.Digests.{IsDigest}
use Rattle.bx_tree.specs.FileInputs.{input_path}
use Rattle.bx_tree.specs.Paths.{Atoms}
use Rattle.bx_tree.proofs.Lists.{all_append}
use Rattle.bx_io.specs.Holdings.{Holdings}
use Rattle.bx_digest.proofs.HashesAreDigests.{is_digest}
use Rattle.prints.specs.Combining.{bind_some}
use Rattle.prints.specs.Processes.{IsFileLine, IsWeak}
use Rattle.prints.specs.ReadWeak.{read_weak_text}
use Rattle.prints.specs.Reading.{◌>>=◌}
use Rattle.prints.specs.Strong.{IsAnswerLine, IsStrong, read_strong_text}
use Rattle.prints.specs.Weak.{file_lines}
use Rattle.prints.specs.declared.strong_parts.AnswerLine.{AnswerLine}
use Rattle.prints.specs.declared.strong_parts.AnswerLine.TheVariants as lines
use Rattle.prints.specs.declared.strong_parts.StrongParts.{StrongParts}
use Rattle.prints.specs.declared.weak_parts.WeakParts.{WeakParts}
use Rattle.prints.proofs.StrongTexts.{strong_sound}
use Rattle.prints.proofs.WeakTexts.{weak_sound}
use Rattle.memo_format.specs.Entries.{IsEntry, IsOutput, entry_body, read_entry_text}
use Rattle.memo_format.specs.Selectors.{AreSelectors, IsSelector, read_selectors_text}
use Rattle.memo_format.specs.StoreNames.{at_blob, at_entry}
use Rattle.memo_format.specs.declared.entry.Entry.{Entry}
use Rattle.memo_format.specs.declared.entry.OutputLine.{OutputLine}
use Rattle.memo_format.specs.declared.selector.Selector.{Selector}
use Rattle.memo_format.proofs.FormTexts.{entry_sound, selectors_sound}
use Rattle.two_phase_meaning.specs.Saving.{or_none, selectors_in}
use Rattle.two_phase_meaning.proofs.Digests.{same_blob_name, same_entry_name}
use Rattle.cache_care.specs.Naming.{content_at, entry_at, in_entry, in_line, in_strong, in_weak, named_at, named_at_entry, named_by}
use Rattle.cache_care.specs.Trimming.{entry_names, is_selected, list_names, named_digests, remaining}

-- ## Lists

all_flat : {X Y : Type 0} (P : Y → Type 0) (f : X → List Y) (xs : List X) → ((x : X) → AllByRecursion P (f x)) → AllByRecursion P (flat_map f xs)
all_flat P f [] each = tt
all_flat P f (x ∷ xs) each = all_append P (f x) (flat_map f xs) (each x) (all_flat P f xs each)

-- ## What an entry names

outputs_digests : (outputs : List OutputLine) → AllByRecursion IsOutput outputs → AllByRecursion IsDigest (map (λ (o : OutputLine). o.digest) outputs)
outputs_digests [] h = tt
outputs_digests (o ∷ outputs) h = (h.0.1, outputs_digests outputs h.1)

entry_digests : (e : Entry) → IsEntry e → AllByRecursion IsDigest (in_entry e)
entry_digests e h = (
  h.weak,
  (
    h.paths,
    (
      h.strong,
      all_append IsDigest (map (λ (o : OutputLine). o.digest) e.outputs) (sha256 (entry_body e) ∷ []) (outputs_digests e.outputs h.outputs)
          (is_digest (entry_body e), tt),
    ),
  ),
)

files_digests : (paths : List Atoms) (digests : List (List ℕ)) → length paths ≡ length digests → AllByRecursion IsFileLine (file_lines paths digests)
    → AllByRecursion IsDigest digests
files_digests paths [] same h = tt
files_digests [] (d ∷ digests) same h = absurd (omega (arith, same))
files_digests (p ∷ paths) (d ∷ digests) same h = (h.0.1, files_digests paths digests (omega (arith, same)) h.1)

weak_digests : (o : Option WeakParts) → ((w : WeakParts) → o ≡ Some w → IsWeak w) → AllByRecursion IsDigest (in_weak o)
weak_digests None h = tt
weak_digests (Some w) h =
    let is : IsWeak w = h w refl in (
      is.head.digest,
      files_digests (map input_path w.process.files) w.files (length-map w.process.files input_path ∙ is.lists.one_each) is.lists.files,
    )

line_digests : (line : AnswerLine) → IsAnswerLine line → AllByRecursion IsDigest (in_line line)
line_digests lines.Absent h = tt
line_digests (lines.Content digest) h = (h, tt)
line_digests lines.File h = tt
line_digests lines.Directory h = tt
line_digests (lines.Names digest) h = (h, tt)
line_digests lines.Denied h = tt

lines_digests : (ls : List AnswerLine) → AllByRecursion IsAnswerLine ls → AllByRecursion IsDigest (flat_map in_line ls)
lines_digests [] h = tt
lines_digests (l ∷ ls) h = all_append IsDigest (in_line l) (flat_map in_line ls) (line_digests l h.0) (lines_digests ls h.1)

strong_digests : (o : Option StrongParts) → ((s : StrongParts) → o ≡ Some s → IsStrong s) → AllByRecursion IsDigest (in_strong o)
strong_digests None h = tt
strong_digests (Some s) h = let is : IsStrong s = h s refl in (is.weak, (is.paths, lines_digests s.lines is.lines))

is_weak : (o : Option (List ℕ)) (w : WeakParts) → (o >>= read_weak_text) ≡ Some w → IsWeak w
is_weak o w e = let from = bind_some o read_weak_text w e in (weak_sound from.0 w from.2).0

is_strong : (o : Option (List ℕ)) (s : StrongParts) → (o >>= read_strong_text) ≡ Some s → IsStrong s
is_strong o s e = let from = bind_some o read_strong_text s e in (strong_sound from.0 s from.2).0

by_digests : (S : Holdings) (e : Entry) → IsEntry e → AllByRecursion IsDigest (named_by S e)
by_digests S e h =
    all_append IsDigest (in_entry e) (in_weak (content_at S e.weak >>= read_weak_text) ++ in_strong (content_at S e.strong >>= read_strong_text))
    (entry_digests e h)
    (all_append IsDigest (in_weak (content_at S e.weak >>= read_weak_text)) (in_strong (content_at S e.strong >>= read_strong_text))
    (weak_digests (content_at S e.weak >>= read_weak_text) (is_weak (content_at S e.weak)))
    (strong_digests (content_at S e.strong >>= read_strong_text) (is_strong (content_at S e.strong))))

at_digests : (S : Holdings) (o : Option Entry) → ((e : Entry) → o ≡ Some e → IsEntry e) → AllByRecursion IsDigest (named_at_entry S o)
at_digests S None h = tt
at_digests S (Some e) h = by_digests S e (h e refl)

chosen_is : (b : Bool) (d e : Entry) → cond b (Some d) None ≡ Some e → d ≡ e
chosen_is true d e h = cc
chosen_is false d e h = absurd cc

pub is_entry : (S : Holdings) (name : List ℕ) (e : Entry) → entry_at S name ≡ Some e → IsEntry e
is_entry S name e h =
    let from = bind_some (get S name >>= read_entry_text) (λ (d : Entry). cond (bytes_eq (at_entry d.strong) name) (Some d) None) e h in
    let text = bind_some (get S name) read_entry_text from.0 from.1 in
    subst IsEntry (chosen_is (bytes_eq (at_entry from.0.strong) name) from.0 e from.2) (entry_sound text.0 from.0 text.2).0

pub all_named : (S : Holdings) (keep : ℕ) → AllByRecursion IsDigest (named_digests S keep)
all_named S keep =
    all_flat IsDigest (named_at S) (filter (is_selected S keep) (entry_names S)) (λ name. at_digests S (entry_at S name) (is_entry S name))

-- ## Selectors that stay

in_text : (o : Option (List ℕ)) → AllByRecursion IsSelector (selectors_in o)
in_text None = tt
in_text (Some text) = by_read (read_selectors_text text) refl
  where
    by_read : (o : Option (List Selector)) → read_selectors_text text ≡ o → AllByRecursion IsSelector (or_none o)
    by_read None e = tt
    by_read (Some list) e = (selectors_sound text list e).0.each

all_first : {X : Type 0} (P : X → Type 0) (n : ℕ) (xs : List X) → AllByRecursion P xs → AllByRecursion P (take n xs)
all_first P zero xs h = tt
all_first P (suc n) [] h = tt
all_first P (suc n) (x ∷ xs) h = (h.0, all_first P n xs h.1)

all_remaining : (S : Holdings) (keep : ℕ) → AllByRecursion IsSelector (remaining S keep)
all_remaining S keep =
    all_flat IsSelector (λ (name : List ℕ). take keep (selectors_in (get S name))) (list_names S)
    (λ name. all_first IsSelector keep (selectors_in (get S name)) (in_text (get S name)))

-- ## Tests on names and on digests

same_tests : (a b c d : List ℕ) → (a ≡ b → c ≡ d) → (c ≡ d → a ≡ b) → bytes_eq a b ≡ bytes_eq c d
same_tests a b c d to from = elim (cases_Bool (bytes_eq a b)) [
  | inl t ↦ t ∙ sym ((bytes_eq-Decides c d).1 (to ((bytes_eq-Decides a b).0 t)))
  | inr f ↦ elim (cases_Bool (bytes_eq c d)) [
    | inl t ↦ let yes : bytes_eq a b ≡ true = (bytes_eq-Decides a b).1 (from ((bytes_eq-Decides c d).0 t)) in cc
    | inr g ↦ f ∙ sym g
  ]
]

selected_by : (list : List Selector) (strong : List ℕ) → AllByRecursion IsSelector list → IsDigest strong
    → list_any (λ (s : Selector). bytes_eq (at_entry s.strong) (at_entry strong)) list
    ≡ list_any (λ d. bytes_eq d strong) (map (λ (s : Selector). s.strong) list)
selected_by [] strong h is = refl
selected_by (s ∷ list) strong h is =
    ap (λ b. b || list_any (λ (t : Selector). bytes_eq (at_entry t.strong) (at_entry strong)) list)
    (same_tests (at_entry s.strong) (at_entry strong) s.strong strong (same_entry_name s.strong strong h.0.1 is) (ap at_entry))
    ∙ ap (λ b. bytes_eq s.strong strong || b) (selected_by list strong h.1 is)

pub selected_is : (S : Holdings) (keep : ℕ) (strong : List ℕ) → IsDigest strong
    → is_selected S keep (at_entry strong) ≡ list_any (λ d. bytes_eq d strong) (map (λ (s : Selector). s.strong) (remaining S keep))
selected_is S keep strong is = selected_by (remaining S keep) strong (all_remaining S keep) is

pub named_is : (digests : List (List ℕ)) (digest : List ℕ) → AllByRecursion IsDigest digests → IsDigest digest
    → list_any (λ d. bytes_eq (at_blob d) (at_blob digest)) digests ≡ list_any (λ d. bytes_eq d digest) digests
named_is [] digest h is = refl
named_is (d ∷ digests) digest h is =
    ap (λ b. b || list_any (λ e. bytes_eq (at_blob e) (at_blob digest)) digests)
    (same_tests (at_blob d) (at_blob digest) d digest (same_blob_name d digest h.0 is) (ap at_blob))
    ∙ ap (λ b. bytes_eq d digest || b) (named_is digests digest h.1 is)
