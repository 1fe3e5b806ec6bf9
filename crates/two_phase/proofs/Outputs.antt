-- Outputs that are fetched one after another.
use Rattle.std.proofs.Common.{◌≡◌, ◌⊎◌, ℕ, Bool, true, false, true≢false, cond, ◌||◌, List, [], ◌∷◌, ◌++◌, Option, Some, None, ◌+◌, ◌<◌, ◌≤◌, zero, suc, arith, length, get_or, drop, add-one, refl, sym, ap, ◌∙◌, subst, inl, inr, append_assoc, append-nil}
use Rattle.std.proofs.Math.Seq.{drop-cons}
use Rattle.std.specs.BTreeMap.{insert_entry}
use Rattle.std.specs.List.{AllByRecursion}
use Rattle.std.specs.List.Sorted.{IsStrictlySortedBy}
use Rattle.std.specs.Ordering.{match_ordering}
use Rattle.std.specs.declared.cmp.Ordering.TheVariants.{Less}
use Rattle.std.proofs.lemmas.Bool.{or_cases}
use Rattle.sha2.specs.Sha256.{sha256}
use Rattle.bx_io.specs.Holdings.{Holdings}
use Rattle.bx_io.specs.Told.{Stays}
use Rattle.bx_tree.specs.Paths.{Atoms, IsBelow, path_cmp}
use Rattle.bx_tree.specs.Trees.{Files, NoneNested, paths_of}
use Rattle.bx_tree.specs.Members.{Has}
use Rattle.bx_tree.proofs.Sets.{contains_has}
use Rattle.pip_model_types.specs.Made.{RisingFiles}
use Rattle.bx_tree.specs.Below.{is_below}
use Rattle.tool_run_writes.specs.Writes.{clashes, put_file}
use Rattle.bx_tree.proofs.BelowPaths.{below_decides}
use Rattle.bx_tree.proofs.Lists.{all_append}
use Rattle.tool_run_writes.proofs.Unnested.{none_unnested, put_unnested}
use Rattle.tool_run_writes.proofs.PutInOrder.{greater}
use Rattle.memo_format.specs.Entries.{OutputsRise, output_paths}
use Rattle.memo_format.specs.Found.{output_lines}
use Rattle.memo_format.specs.declared.entry.OutputLine.{OutputLine}
use Rattle.content_store.specs.Contents.{IsContent}
use Rattle.run_record.specs.Collisions.{contents_of}
use Rattle.two_phase_meaning.specs.Contents.{HoldsAll}
use Rattle.two_phase_meaning.proofs.FilesFit.{paths_lines}
use Rattle.two_phase.specs.Finding.{AddsTo, AreOutputs, FindsOne}

abbrev pub line_for : Atoms → List ℕ → OutputLine
line_for path digest = record { path = path; digest = digest }

-- ## What was fetched so far

abbrev pub AreHeld : Option Holdings → Files → Type 0
AreHeld told files = (S : Holdings) → told ≡ Some S → HoldsAll S (contents_of files)

-- these files are those of the outputs before the rest
pub record Gathered (held : Option Holdings) (outputs rest : List OutputLine) (files : Files) : Type 0 where
  pub done : output_lines files ++ rest ≡ outputs
  pub are_held : AreHeld held files
  pub unnested : NoneNested (paths_of files)

pub gathered_none : (held : Option Holdings) (outputs : List OutputLine) → Gathered held outputs outputs []
gathered_none held outputs = record { done = refl; are_held = λ S is. tt; unnested = none_unnested }

-- ## One more

less_at : (path : Atoms) (before rest : List OutputLine) (o : OutputLine)
    → AllByRecursion (λ q. path_cmp path q ≡ Less) (output_paths (before ++ o ∷ rest)) → path_cmp path o.path ≡ Less
less_at path [] rest o h = h.0
less_at path (p ∷ ps) rest o h = less_at path ps rest o h.1

-- a file after all others is put last
put_last : (files : Files) (rest : List OutputLine) (o : OutputLine) (bytes : List ℕ) → IsStrictlySortedBy path_cmp (output_paths (output_lines files ++ o ∷ rest))
    → insert_entry path_cmp files o.path bytes ≡ files ++ (o.path, bytes) ∷ []
unfolding IsStrictlySortedBy
put_last [] rest o bytes h = refl
put_last (f ∷ fs) rest o bytes h =
    ap (λ r. match_ordering r ((o.path, bytes) ∷ f ∷ fs) ((f.0, bytes) ∷ fs) (f ∷ insert_entry path_cmp fs o.path bytes))
    (greater f.0 o.path (less_at f.0 (output_lines fs) rest o h.0))
    ∙ ap (λ gs. f ∷ gs) (put_last fs rest o bytes h.1)

lines-append : (fs gs : Files) → output_lines (fs ++ gs) ≡ output_lines fs ++ output_lines gs
lines-append [] gs = refl
lines-append (f ∷ fs) gs = ap (λ ls. line_for f.0 (sha256 f.1) ∷ ls) (lines-append fs gs)

contents-append : (fs gs : Files) → contents_of (fs ++ gs) ≡ contents_of fs ++ contents_of gs
contents-append [] gs = refl
contents-append (f ∷ fs) gs = ap (λ cs. f.1 ∷ cs) (contents-append fs gs)

held_more : (held : Option Holdings) (files : Files) (path : Atoms) (digest bytes : List ℕ) → AreHeld held files
    → FindsOne held (λ S y. IsContent S digest y) (Some bytes) → AreHeld held (files ++ (path, bytes) ∷ [])
held_more held files path digest bytes h k = λ S is.
    subst (HoldsAll S) (sym (contents-append files ((path, bytes) ∷ []))) (all_append _ (contents_of files) (bytes ∷ []) (h S is) ((k S is).held, tt))

-- where a file was put
was_put : (t : Bool) (files now : Files) (path : Atoms) (bytes : List ℕ) → clashes files path ≡ t
    → ◌≡◌ {A = Files × Bool} (now, true) (cond t (files, false) (insert_entry path_cmp files path bytes, true)) → (clashes files path ≡ false) × (now ≡ insert_entry path_cmp files path bytes)
was_put true files now path bytes is e = absurd (true≢false (ap (λ (p : Files × Bool). p.1) e))
was_put false files now path bytes is e = (is, ap (λ (p : Files × Bool). p.0) e)

pub gathered_more : (held : Option Holdings) (outputs rest : List OutputLine) (o : OutputLine) (files now : Files) (path : Atoms) (bytes : List ℕ)
    → OutputsRise outputs → Gathered held outputs (o ∷ rest) files → FindsOne held (λ S y. IsContent S o.digest y) (Some bytes) → sha256 bytes ≡ o.digest
    → path ≡ o.path → ◌≡◌ {A = Files × Bool} (now, true) (put_file files path bytes) → Gathered held outputs rest now
gathered_more held outputs rest o files now path bytes rise g found digest path_is put =
    let made = was_put (clashes files path) files now path bytes refl put in
    let last : insert_entry path_cmp files o.path bytes ≡ files ++ (o.path, bytes) ∷ [] =
    put_last files rest o bytes (subst (λ (ls : List OutputLine). IsStrictlySortedBy path_cmp (output_paths ls)) (sym g.done) rise) in
    let now_is : now ≡ files ++ (o.path, bytes) ∷ [] = made.1 ∙ ap (λ (p : Atoms). insert_entry path_cmp files p bytes) path_is ∙ last in
    let line : line_for o.path (sha256 bytes) ≡ o = ap (line_for o.path) digest in
    record {
      done =
          ap (λ (fs : Files). output_lines fs ++ rest) now_is
          ∙ ap (λ ls. ls ++ rest) (lines-append files ((o.path, bytes) ∷ []))
          ∙ append_assoc (output_lines files) (line_for o.path (sha256 bytes) ∷ []) rest
          ∙ ap (λ (l : OutputLine). output_lines files ++ l ∷ rest) line
          ∙ g.done;
      are_held = subst (AreHeld held) (sym now_is) (held_more held files o.path o.digest bytes g.are_held found);
      unnested = subst (λ (fs : Files). NoneNested (paths_of fs)) (sym made.1) (put_unnested files path bytes g.unnested made.0);
    }

-- ## The end

pub lines_rise : (files : Files) (outputs : List OutputLine) → outputs ≡ output_lines files → RisingFiles files → OutputsRise outputs
lines_rise files outputs is rising = subst (IsStrictlySortedBy path_cmp) (sym (ap output_paths is ∙ paths_lines files)) rising

pub gathered_all : (held : Option Holdings) (outputs : List OutputLine) (files : Files) → Gathered held outputs [] files → output_lines files ≡ outputs
gathered_all held outputs files g = sym (append-nil (output_lines files)) ∙ g.done

pub gathered_end : (held : Option Holdings) (outputs : List OutputLine) (files : Files) → Gathered held outputs [] files
    → FindsOne held (λ S fs. AreOutputs S outputs fs) (Some files)
gathered_end held outputs files g = λ S is.
    let all = gathered_all held outputs files g in
    record {
      outputs_are = all;
      held = g.are_held S is;
      unnested = subst NoneNested (sym (paths_lines files) ∙ ap output_paths all) g.unnested;
    }

-- what was gathered is so of what is still told
pub gathered_on : (held now : Option Holdings) (outputs rest : List OutputLine) (files : Files) → Stays held now → Gathered held outputs rest files
    → Gathered now outputs rest files
gathered_on held now outputs rest files stays g = record {
  done = g.done;
  are_held = λ S is. g.are_held S (stays S is);
  unnested = g.unnested;
}

-- ## What is not held, or clashes

held_at : (S : Holdings) (before rest : List OutputLine) (o : OutputLine) (files : Files) → output_lines files ≡ before ++ o ∷ rest
    → HoldsAll S (contents_of files) → (x : List ℕ) × IsContent S o.digest x
held_at S [] rest o [] e h = absurd cc
held_at S [] rest o (f ∷ fs) e h =
    let first : line_for f.0 (sha256 f.1) ≡ o = cc in (f.1, record { held = h.0; digest_is = ap (λ (l : OutputLine). l.digest) first })
held_at S (p ∷ ps) rest o [] e h = absurd cc
held_at S (p ∷ ps) rest o (f ∷ fs) e h = let more : output_lines fs ≡ ps ++ o ∷ rest = cc in held_at S ps rest o fs more h.1

pub not_held : (held : Option Holdings) (outputs rest : List OutputLine) (o : OutputLine) (files : Files) → Gathered held outputs (o ∷ rest) files
    → FindsOne held (λ S y. IsContent S o.digest y) None → FindsOne held (λ S fs. AreOutputs S outputs fs) None
not_held held outputs rest o files g none = λ S is fs are.
    let there = held_at S (output_lines files) rest o fs (are.outputs_are ∙ sym g.done) are.held in none S is there.0 there.1

clash_at : (files : Files) (path : Atoms) → clashes files path ≡ true → (q : Atoms) × Has (paths_of files) q × (IsBelow q path ⊎ IsBelow path q)
clash_at [] path e = absurd cc
clash_at (f ∷ fs) path e = elim (or_cases (is_below f.0 path || is_below path f.0) (clashes fs path) e) [
  | inl here ↦ elim (or_cases (is_below f.0 path) (is_below path f.0) here) [
    | inl h ↦ (f.0, inl refl, inl ((below_decides f.0 path).0 h))
    | inr h ↦ (f.0, inl refl, inr ((below_decides path f.0).0 h))
  ]
  | inr more ↦ let c = clash_at fs path more in (c.0, inr c.1, c.2)
]

has_before : (files : Files) (more : List OutputLine) (q : Atoms) → Has (paths_of files) q → Has (output_paths (output_lines files ++ more)) q
has_before [] more q h = absurd h
has_before (f ∷ fs) more q h = elim h [ inl e ↦ inl e | inr k ↦ inr (has_before fs more q k) ]

has_here : (before rest : List OutputLine) (o : OutputLine) → Has (output_paths (before ++ o ∷ rest)) o.path
has_here [] rest o = inl refl
has_here (p ∷ ps) rest o = inr (has_here ps rest o)

was_left : (t : Bool) (files now : Files) (path : Atoms) (bytes : List ℕ) → clashes files path ≡ t
    → ◌≡◌ {A = Files × Bool} (now, false) (cond t (files, false) (insert_entry path_cmp files path bytes, true)) → clashes files path ≡ true
was_left true files now path bytes is e = is
was_left false files now path bytes is e = absurd (true≢false (sym (ap (λ (p : Files × Bool). p.1) e)))

nested : (paths : List Atoms) (a b : Atoms) → Has paths a → Has paths b → IsBelow a b ⊎ IsBelow b a → NoneNested paths → ⊥
nested paths a b h k below none = elim below [
  | inl e ↦ none b a (contains_has paths b k) (contains_has paths a h) e
  | inr e ↦ none a b (contains_has paths a h) (contains_has paths b k) e
]

pub not_put : (held : Option Holdings) (outputs rest : List OutputLine) (o : OutputLine) (files now : Files) (path : Atoms) (bytes : List ℕ)
    → Gathered held outputs (o ∷ rest) files → path ≡ o.path → ◌≡◌ {A = Files × Bool} (now, false) (put_file files path bytes) → FindsOne held (λ S fs. AreOutputs S outputs fs) None
not_put held outputs rest o files now path bytes g path_is put =
    λ S is fs are.
    let clash = clash_at files o.path (subst (λ (p : Atoms). clashes files p ≡ true) path_is (was_left (clashes files path) files now path bytes refl put)) in
    let all : List Atoms = output_paths (output_lines files ++ o ∷ rest) in
    nested all clash.0 o.path (has_before files (o ∷ rest) clash.0 clash.1) (has_here (output_lines files) rest o) clash.2
    (subst (λ (ls : List OutputLine). NoneNested (output_paths ls)) (sym g.done) are.unnested)

-- ## In a list

-- what is left of a list from a place on begins with what is there
pub next_of : {X : Type 0} (xs : List X) (i : ℕ) (x : X) → i < length xs → x ≡ get_or xs i x → drop i xs ≡ x ∷ drop (i + 1) xs
next_of xs i x l is = drop-cons xs i x l ∙ ap (λ y. y ∷ drop (suc i) xs) (sym is) ∙ ap (λ n. x ∷ drop n xs) (sym (add-one i))

pub drop_past : {X : Type 0} (xs : List X) (i : ℕ) → length xs ≤ i → drop i xs ≡ []
drop_past [] zero l = refl
drop_past [] (suc i) l = refl
drop_past (x ∷ xs) zero l = absurd (omega (arith, l))
drop_past (x ∷ xs) (suc i) l = drop_past xs i (omega (arith, l))

-- at the end of the list nothing is left of it
pub gathered_past : (held : Option Holdings) (outputs : List OutputLine) (i : ℕ) (files : Files) → length outputs ≤ i → Gathered held outputs (drop i outputs) files
    → Gathered held outputs [] files
gathered_past held outputs i files l g = subst (λ rest. Gathered held outputs rest files) (drop_past outputs i l) g

added : (held : Option Holdings) (outputs rest : List OutputLine) (o : OutputLine) (files : Files) (r : Option Files) (now : Files) → OutputsRise outputs
    → Gathered held outputs (o ∷ rest) files → AddsTo held files o r → r ≡ Some now → Gathered held outputs rest now
added held outputs rest o files (Some x) now rise g a e =
    subst (Gathered held outputs rest) (let same : x ≡ now = cc in same) (gathered_more held outputs rest o files x o.path a.bytes rise g a.found a.digest_is refl a.put)
added held outputs rest o files None now rise g a e = absurd cc

not_added : (held : Option Holdings) (outputs rest : List OutputLine) (o : OutputLine) (files : Files) (r : Option Files)
    → Gathered held outputs (o ∷ rest) files → AddsTo held files o r → r ≡ None → FindsOne held (λ S fs. AreOutputs S outputs fs) None
not_added held outputs rest o files (Some x) g a e = absurd cc
not_added held outputs rest o files None g a e = elim a [
  | inl none ↦ not_held held outputs rest o files g none
  | inr clash ↦ not_put held outputs rest o files clash.1.0 o.path clash.0 g refl clash.1.1
]

-- as a call answers it, after which the reader tells what it told before, or nothing
pub added_at : (held now : Option Holdings) (outputs : List OutputLine) (i : ℕ) (o : OutputLine) (files : Files) (r : Option Files) (next : Files)
    → OutputsRise outputs → i < length outputs → o ≡ get_or outputs i o → Stays held now → Gathered held outputs (drop i outputs) files
    → AddsTo now files o r → r ≡ Some next → Gathered now outputs (drop (i + 1) outputs) next
added_at held now outputs i o files r next rise l is stays g a e =
    added now outputs (drop (i + 1) outputs) o files r next rise
    (gathered_on held now outputs (o ∷ drop (i + 1) outputs) files stays (subst (λ rest. Gathered held outputs rest files) (next_of outputs i o l is) g)) a e

pub not_added_at : (held now : Option Holdings) (outputs : List OutputLine) (i : ℕ) (o : OutputLine) (files : Files) (r : Option Files)
    → i < length outputs → o ≡ get_or outputs i o → Stays held now → Gathered held outputs (drop i outputs) files
    → AddsTo now files o r → r ≡ None → FindsOne now (λ S fs. AreOutputs S outputs fs) None
not_added_at held now outputs i o files r l is stays g a e =
    not_added now outputs (drop (i + 1) outputs) o files r
    (gathered_on held now outputs (o ∷ drop (i + 1) outputs) files stays (subst (λ rest. Gathered held outputs rest files) (next_of outputs i o l is) g)) a e
