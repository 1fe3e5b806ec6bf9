-- A text has no fault exactly where it is a tool.
use Rattle.std.proofs.Common.{◌≡◌, ℕ, ◌+◌, zero, suc, true, false, Bool, not, ◌||◌, ◌==◌, cond, List, [], ◌∷◌, ◌++◌, map, filter, get_or, Option, Some, None, Result, Ok, Err, IfOk, Vec, Global, inl, inr, refl, ap, sym, ◌∙◌, subst, arith, ◌↔◌, ◌⊎◌}
use Rattle.std.specs.List.{list_any, slice_split}
use Rattle.std.specs.Option.{option_and_then}
use Rattle.std.specs.Str.{bytes_eq}
use Rattle.std.proofs.lemmas.Bool.Decides.{Decides-eqb}
use Rattle.std.proofs.lemmas.Option.{same_Some}
use Rattle.std.proofs.lemmas.Slice.Eq.{bytes_eq-Decides}
use Rattle.tool_text.specs.declared.tool.Instr.{Instr}
use Rattle.tool_text.specs.Grammar.{AreDistinct, IsTarget, IsTool, Labels, first_line, is_in_version, is_of_second, says}
use Rattle.tool_text.specs.Reading.{are_distinct, if_in_version, label_of, line_of, lines_of, place_from, place_of, tool_after, tool_from, tool_in, with_line}
use Rattle.tool_text.proofs.OneTool.{read}
use Rattle.tool_text.proofs.Places.{distinct_complete, distinct_sound, target_complete}
use Rattle.tool_text.proofs.Wording.{then_some}
use Rattle.bx_tree.proofs.Options.{if_some}
use Rattle.tool_faults.specs.declared.fault.LineFault.{LineFault}
use Rattle.tool_faults.specs.declared.fault.Wrong.{Wrong}
use Rattle.tool_faults.specs.declared.fault.Wrong.TheVariants as wrongs
use Rattle.tool_faults.specs.Faults.{fault_at, faults_from, faults_in, faults_of, faults_of_lines, first_in, instr_wrong, is_second, is_version, label_wrong, line_faults, numbers_from, read_wrong, taken, version_wrong, why_not}

-- ## Lists of faults

both_empty : {X : Type 0} (xs ys : List X) → xs ++ ys ≡ [] → (xs ≡ []) × (ys ≡ [])
both_empty [] ys e = (refl, e)
both_empty (x ∷ xs) ys e = cc

no_fault : (n : ℕ) (wrong : Option Wrong) → fault_at n wrong ≡ [] → wrong ≡ None
no_fault n None e = refl
no_fault n (Some wrong) e = cc

-- ## Instructions

-- the instruction of a line in which nothing is wrong
record Reads (second : Bool) (read : Option Instr) : Type 0 where
  instr : Instr
  is : read ≡ Some instr
  version : (second || not (is_of_second instr)) ≡ true

reads : (second : Bool) (why : Wrong) (o : Option Instr) → read_wrong second why o ≡ None → Reads second o
reads second why None e = cc
reads second why (Some instr) e = record { instr = instr; is = refl; version = by_test (second || not (is_of_second instr)) e }
  where
    by_test : (t : Bool) → cond t None (Some wrongs.OfSecond) ≡ None → t ≡ true
    by_test true e = refl
    by_test false e = cc

right : (second : Bool) (why : Wrong) (o : Option Instr) (instr : Instr) → o ≡ Some instr → (second || not (is_of_second instr)) ≡ true
    → read_wrong second why o ≡ None
right second why None instr e h = cc
right second why (Some other) instr e h =
    let same : other ≡ instr = same_Some other instr e in
    ap (λ t. cond t None (Some wrongs.OfSecond)) (ap (λ (i : Instr). second || not (is_of_second i)) same ∙ h)

one_more : (second a b : Bool) → (second || not a) ≡ true → (second || not b) ≡ true → (second || not (a || b)) ≡ true
one_more true a b h k = refl
one_more false true b h k = cc
one_more false false b h k = k

fewer : (second a b : Bool) → (second || not (a || b)) ≡ true → ((second || not a) ≡ true) × ((second || not b) ≡ true)
fewer true a b h = (refl, refl)
fewer false true b h = cc
fewer false false b h = (refl, h)

-- ## Labels

-- a label that is free or first here
abbrev AtOrNone : ℕ → Option ℕ → Type 0
AtOrNone place o = (o ≡ None) ⊎ (o ≡ Some place)

not_taken : (numbers : List ℕ) (place : ℕ) (o : Option ℕ) → taken numbers place o ≡ None → AtOrNone place o
not_taken numbers place None e = inl refl
not_taken numbers place (Some first) e = by_test (first == place) refl e
  where
    by_test : (t : Bool) → (first == place) ≡ t
        → cond t None (Some (wrongs.LabelTaken (get_or numbers first 0))) ≡ None → AtOrNone place (Some first)
    by_test true is e = inr (ap Some ((Decides-eqb first place).0 is))
    by_test false is e = cc

first_here : (numbers : List ℕ) (place : ℕ) (o : Option ℕ) → o ≡ Some place → taken numbers place o ≡ None
first_here numbers place None e = cc
first_here numbers place (Some first) e =
    ap (λ t. cond t None (Some (wrongs.LabelTaken (get_or numbers first 0))))
    ((Decides-eqb first place).1 (same_Some first place e))

some_place : (labels : Labels) (text : List ℕ) (start line : ℕ) → IsTarget labels text line → place_from start labels text ≡ None → ⊥
some_place [] text start line h e = cc
some_place (None ∷ labels) text start zero h e = cc
some_place (None ∷ labels) text start (suc line) h e = some_place labels text (start + 1) line h e
some_place (Some own ∷ labels) text start zero h e = by_test (bytes_eq own text) refl e
  where
    by_test : (t : Bool) → bytes_eq own text ≡ t → cond t (Some start) (place_from (start + 1) labels text) ≡ None → ⊥
    by_test true is e = cc
    by_test false is e =
        let same : own ≡ text = same_Some own text (same_Some (Some own) (Some text) h) in
        let z : true ≡ false = sym ((bytes_eq-Decides own text).1 same) ∙ is in
        cc
some_place (Some own ∷ labels) text start (suc line) h e = by_test (bytes_eq own text) (λ none. some_place labels text (start + 1) line h none) e
  where
    by_test : (t : Bool) → (place_from (start + 1) labels text ≡ None → ⊥) → cond t (Some start) (place_from (start + 1) labels text) ≡ None → ⊥
    by_test true more e = cc
    by_test false more e = more e

-- ## Lines

-- what lines without a fault are
record Rights (second : Bool) (labels : Labels) (place : ℕ) (lines : List (List ℕ)) : Type 0 where
  tool : List Instr
  is : lines_of (place_of labels) lines ≡ Some tool
  version : is_in_version second tool ≡ true
  own : (j : ℕ) (label : List ℕ) → IsTarget (map label_of lines) label j → AtOrNone (place + j) (place_of labels label)

none_of_second : (second : Bool) → is_in_version second [] ≡ true
none_of_second true = refl
none_of_second false = refl

rights : (second : Bool) (labels : Labels) (numbers : List ℕ) (place : ℕ) (lines : List (List ℕ)) → faults_from second (place_of labels) numbers place lines ≡ []
    → Rights second labels place lines
rights second labels numbers place [] e = record { tool = []; is = refl; version = none_of_second second; own = λ j label h. cc }
rights second labels numbers place (line ∷ lines) e =
    let n = get_or numbers place 0 in
    let parts = both_empty (line_faults second (place_of labels) numbers place line) (faults_from second (place_of labels) numbers (place + 1) lines) e in
    let of_line = both_empty (fault_at n (label_wrong (place_of labels) numbers place line)) (fault_at n (instr_wrong second (place_of labels) line)) parts.0 in
    let more = rights second labels numbers (place + 1) lines parts.1 in
    let one = reads second (why_not (place_of labels) line) (line_of (place_of labels) line) (no_fault n (instr_wrong second (place_of labels) line) of_line.1) in
    record {
      tool = one.instr ∷ more.tool;
      is = ap (λ o. with_line o (lines_of (place_of labels) lines)) one.is ∙ ap (with_line (Some one.instr)) more.is;
      version = one_more second (is_of_second one.instr) (list_any is_of_second more.tool) one.version more.version;
      own = λ j label h. at j label h (no_fault n (label_wrong (place_of labels) numbers place line) of_line.0) more.own;
    }
  where
    at : (j : ℕ) (label : List ℕ) → IsTarget (map label_of (line ∷ lines)) label j → label_wrong (place_of labels) numbers place line ≡ None
        → ((k : ℕ) (l : List ℕ) → IsTarget (map label_of lines) l k → AtOrNone (place + 1 + k) (place_of labels l)) → AtOrNone (place + j) (place_of labels label)
    at zero label h none more =
        let is : label_of line ≡ Some label = same_Some (label_of line) (Some label) h in
        let here = not_taken numbers place (place_of labels label) (sym (ap (λ o. taken numbers place (first_in (place_of labels) o)) is) ∙ none) in
        subst (λ p. AtOrNone p (place_of labels label)) (let plus : place ≡ place + 0 = omega arith in plus) here
    at (suc k) label h none more = subst (λ p. AtOrNone p (place_of labels label)) (let plus : place + 1 + k ≡ place + suc k = omega arith in plus) (more k label h)

apart : (labels : Labels) → ((j : ℕ) (label : List ℕ) → IsTarget labels label j → AtOrNone (0 + j) (place_of labels label)) → AreDistinct labels
apart labels own i j label h k = both (own i label h) (own j label k)
  where
    both : AtOrNone (0 + i) (place_of labels label) → AtOrNone (0 + j) (place_of labels label) → i ≡ j
    both (inl none) other = absurd (some_place labels label 0 i h none)
    both (inr one) (inl none) = absurd (some_place labels label 0 j k none)
    both (inr one) (inr two) = let same : 0 + i ≡ 0 + j = same_Some (0 + i) (0 + j) (sym one ∙ two) in omega (arith, same)

-- the instruction of a line, and those of the lines after it
record Cut (o : Option Instr) (rest : Option (List Instr)) (tool : List Instr) : Type 0 where
  instr : Instr
  instrs : List Instr
  is : o ≡ Some instr
  rest_is : rest ≡ Some instrs
  whole : instr ∷ instrs ≡ tool

cut_first : (o : Option Instr) (rest : Option (List Instr)) (tool : List Instr) → with_line o rest ≡ Some tool → Cut o rest tool
cut_first None rest tool e = cc
cut_first (Some instr) None tool e = cc
cut_first (Some instr) (Some instrs) tool e = record { instr = instr; instrs = instrs; is = refl; rest_is = refl; whole = same_Some (instr ∷ instrs) tool e }

no_faults : (second : Bool) (labels : Labels) (numbers : List ℕ) (place : ℕ) (lines : List (List ℕ)) (tool : List Instr) → AreDistinct labels
    → ((j : ℕ) (label : List ℕ) → IsTarget (map label_of lines) label j → IsTarget labels label (place + j))
    → lines_of (place_of labels) lines ≡ Some tool → is_in_version second tool ≡ true → faults_from second (place_of labels) numbers place lines ≡ []
no_faults second labels numbers place [] tool distinct own e v = refl
no_faults second labels numbers place (line ∷ lines) tool distinct own e v =
    let n = get_or numbers place 0 in
    let parts = cut_first (line_of (place_of labels) line) (lines_of (place_of labels) lines) tool e in
    let versions = fewer second (is_of_second parts.instr) (list_any is_of_second parts.instrs) (ap (is_in_version second) parts.whole ∙ v) in
    let label_right : label_wrong (place_of labels) numbers place line ≡ None = here (label_of line) refl in
    let instr_right : instr_wrong second (place_of labels) line ≡ None =
    right second (why_not (place_of labels) line) (line_of (place_of labels) line) parts.instr parts.is versions.0 in
    let more : faults_from second (place_of labels) numbers (place + 1) lines ≡ [] =
    no_faults second labels numbers (place + 1) lines parts.instrs distinct
    (λ j label h. subst (IsTarget labels label) (let plus : place + suc j ≡ place + 1 + j = omega arith in plus) (own (suc j) label h)) parts.rest_is versions.1 in
    ap (λ w. (fault_at n w ++ fault_at n (instr_wrong second (place_of labels) line)) ++ faults_from second (place_of labels) numbers (place + 1) lines) label_right
    ∙ ap (λ w. fault_at n w ++ faults_from second (place_of labels) numbers (place + 1) lines) instr_right
    ∙ more
  where
    here : (own_label : Option (List ℕ)) → label_of line ≡ own_label → taken numbers place (first_in (place_of labels) own_label) ≡ None
    here None is = refl
    here (Some label) is =
        let there : IsTarget labels label place = subst (IsTarget labels label) (let plus : place + 0 ≡ place = omega arith in plus) (own 0 label (ap Some is)) in
        first_here numbers place (place_of labels label) (target_complete labels label place distinct there)

-- ## Texts

version_right : (first : List ℕ) → version_wrong first ≡ None → is_version first ≡ true
version_right first e = by_test (is_version first) e
  where
    by_test : (t : Bool) → cond t None (Some wrongs.NoVersion) ≡ None → t ≡ true
    by_test true e = refl
    by_test false e = cc

-- the tool of lines without a fault
tool_there : (second : Bool) (rest : List (List ℕ)) → faults_in second (numbers_from 2 rest) (filter says rest) ≡ [] → (tool : List Instr) × (tool_after second rest ≡ Some tool)
tool_there second rest e =
    let lines = filter says rest in
    let labels = map label_of lines in
    let all = rights second labels (numbers_from 2 rest) 0 lines e in (
      all.tool,
      ap (λ b. option_and_then (if_in_version second) (cond b (lines_of (place_of labels) lines) None)) (distinct_complete labels (apart labels all.own))
          ∙ ap (option_and_then (if_in_version second)) all.is ∙ ap (λ b. cond b (Some all.tool) None) all.version,
    )

nothing_wrong : (second : Bool) (rest : List (List ℕ)) (tool : List Instr) → tool_after second rest ≡ Some tool → faults_in second (numbers_from 2 rest) (filter says rest) ≡ []
nothing_wrong second rest tool e =
    let lines = filter says rest in
    let labels = map label_of lines in
    let own = then_some (if_in_version second) (tool_in lines) tool e in
    let whole = if_some (is_in_version second own.0) (Some own.0) tool own.2 in
    let tests = if_some (are_distinct labels) (lines_of (place_of labels) lines) own.0 own.1 in
    no_faults second labels (numbers_from 2 rest) 0 lines own.0 (distinct_sound labels tests.0)
    (λ j label h. subst (IsTarget labels label) (let plus : j ≡ 0 + j = omega arith in plus) h) tests.1 whole.0

-- the first line says one version at most
other_version : (first : List ℕ) → bytes_eq first (first_line true) ≡ true → bytes_eq first (first_line false) ≡ false
other_version first e =
    ap (λ t. bytes_eq t (first_line false)) ((bytes_eq-Decides first (first_line true)).0 e)

sound_lines : (lines : List (List ℕ)) → faults_of_lines lines ≡ [] → (tool : List Instr) × (tool_from lines ≡ Some tool)
sound_lines [] e = cc
sound_lines (first ∷ rest) e =
    let parts = both_empty (fault_at 1 (version_wrong first)) (faults_in (is_second first) (numbers_from 2 rest) (filter says rest)) e in
    by_first (bytes_eq first (first_line true)) (bytes_eq first (first_line false)) refl refl (version_right first (no_fault 1 (version_wrong first) parts.0)) parts.1
  where
    by_first : (t u : Bool) → bytes_eq first (first_line true) ≡ t → bytes_eq first (first_line false) ≡ u → (t || u) ≡ true
        → faults_in (not u) (numbers_from 2 rest) (filter says rest) ≡ []
        → (tool : List Instr) × (cond t (tool_after true rest) (cond u (tool_after false rest) None) ≡ Some tool)
    by_first true true is is_no v e = let z : true ≡ false = sym is_no ∙ other_version first is in cc
    by_first true false is is_no v e = tool_there true rest e
    by_first false true is is_no v e = tool_there false rest e
    by_first false false is is_no v e = cc

complete_lines : (lines : List (List ℕ)) (tool : List Instr) → tool_from lines ≡ Some tool → faults_of_lines lines ≡ []
complete_lines [] tool e = cc
complete_lines (first ∷ rest) tool e = by_first (bytes_eq first (first_line true)) (bytes_eq first (first_line false)) refl refl e
  where
    by_first : (t u : Bool) → bytes_eq first (first_line true) ≡ t → bytes_eq first (first_line false) ≡ u
        → cond t (tool_after true rest) (cond u (tool_after false rest) None) ≡ Some tool
        → fault_at 1 (cond (t || u) None (Some wrongs.NoVersion))
        ++ faults_in (not u) (numbers_from 2 rest) (filter says rest) ≡ []
    by_first true true is is_no e = let z : true ≡ false = sym is_no ∙ other_version first is in cc
    by_first true false is is_no e = nothing_wrong true rest tool e
    by_first false true is is_no e = nothing_wrong false rest tool e
    by_first false false is is_no e = cc

pub exactly : (text : List ℕ) → (faults_of text ≡ []) ↔ ((tool : List Instr) × IsTool text tool)
exactly text = (
  λ e. let t = sound_lines (slice_split (λ b. b == 10) text) e in (t.0, (read text t.0).0 t.1),
  λ t. complete_lines (slice_split (λ b. b == 10) text) t.0 ((read text t.0).1 t.1),
)

-- as a call answers it
pub exact_given : {E : Type 0} (text : List ℕ) (r : Result (Vec LineFault Global) E) → IfOk r (λ found. found.items ≡ faults_of text)
    → IfOk r (λ found. (found.items ≡ []) ↔ ((tool : List Instr) × IsTool text tool))
exact_given text (Ok found) h = (λ e. (exactly text).0 (sym h ∙ e), λ t. h ∙ (exactly text).1 t)
exact_given text (Err e) h = tt
