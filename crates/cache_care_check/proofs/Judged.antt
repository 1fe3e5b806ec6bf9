-- Whether the run on what the texts of an entry name gives its outputs, from what was found.
use Rattle.std.proofs.Common.{◌≡◌, ◌≢◌, ℕ, ◌+◌, ◌<◌, ◌≤◌, zero, suc, Bool, true, false, not, true≢false, List, [], ◌∷◌, ◌++◌, length, map, take, get_or, Option, Some, None, Result, Ok, Err, IfOk, refl, sym, ap, ◌∙◌, subst, arith}
use Rattle.std.specs.Prelude.{◌↔◌, IsTrue, MatchOption}
use Rattle.std.specs.List.{AllByRecursion}
use Rattle.std.specs.Str.{bytes_eq}
use Rattle.std.proofs.lemmas.Bool.{not-false}
use Rattle.std.proofs.lemmas.List.{get_or-map, length-map, take_all, take_more}
use Rattle.std.proofs.lemmas.Slice.Eq.{bytes_eq-Decides}
use Rattle.sha2.specs.Sha256.{sha256}
use Rattle.bx_tree.specs.Orders.{same_path_decides}
use Rattle.bx_tree.specs.Paths.{Atoms, same_path}
use Rattle.bx_tree.specs.Trees.{Files}
use Rattle.bx_tree.proofs.Lists.{all_push}
use Rattle.bx_io.specs.Holdings.{Holdings}
use Rattle.bx_io.specs.Told.{Stays}
use Rattle.pip_model_types.specs.Made.{made_files}
use Rattle.pip_model_types.specs.declared.desc.Desc.{Desc}
use Rattle.pip_model_types.specs.declared.made.MadeFile.{MadeFile}
use Rattle.observed.specs.declared.ask.Ask.{Ask}
use Rattle.observed.specs.declared.access.Answer.{Answer}
use Rattle.tool_run.specs.Described.{described}
use Rattle.tool_run.specs.Run.{path_set}
use Rattle.memo_format.specs.Found.{output_lines}
use Rattle.memo_format.specs.StoreNames.{HoldsBlob}
use Rattle.memo_format.specs.declared.entry.Entry.{Entry}
use Rattle.memo_format.specs.declared.entry.OutputLine.{OutputLine}
use Rattle.run_record.specs.Answered.{answered}
use Rattle.run_record.specs.Collisions.{contents_of}
use Rattle.run_record.specs.Facts.{Facts, Replays, run_for}
use Rattle.run_record.specs.Outcomes.{outcome_of}
use Rattle.run_record.specs.declared.outcome.Outcome.{Outcome}
use Rattle.run_record.specs.declared.outcome.Outcome.TheVariants.{Good}
use Rattle.content_store.specs.Contents.{IsContent}
use Rattle.two_phase_meaning.specs.Contents.{HoldsAll}
use Rattle.two_phase_meaning.specs.Honest.{HonestEntry, IsGoodRun}
use Rattle.two_phase.specs.Finding.{FindsOne}
use Rattle.cache_care_check.specs.Judging.{AreAnswersOf, AreFilesOf, AreTexts, IsDescOf, IsFileOf, KeepsTexts, MakesJust}
use Rattle.cache_care_check.specs.Known.{TellsWhether}
use Rattle.cache_care_check.specs.declared.texts.EntryTexts.{EntryTexts}
use Rattle.cache_care_check.proofs.Deciding.{content_is, honest_has_texts, honest_keeps, keeps_is_honest, run_of_found, texts_in}

-- ## Answers of tests

no_true : ◌≡◌ {A = Bool} false true → ⊥
no_true e = true≢false (sym e)

-- nothing has the property
pub tells_none : (told : Option Holdings) (P : Holdings → Type 0) → ((S : Holdings) → told ≡ Some S → P S → ⊥) → TellsWhether told P false
tells_none told P none = λ S is. (λ e. absurd (no_true e), λ p. absurd (none S is p))

pub tells_false : (told : Option Holdings) (P : Holdings → Type 0) (answer : Bool) → answer ≡ false
    → ((S : Holdings) → told ≡ Some S → P S → ⊥) → TellsWhether told P answer
tells_false told P answer same none = subst (TellsWhether told P) (sym same) (tells_none told P none)

-- the property is another one of what is told
pub tells_as : {E : Type 0} (told : Option Holdings) (P Q : Holdings → Type 0) (r : Result Bool E)
    → ((S : Holdings) → told ≡ Some S → (P S ↔ Q S)) → IfOk r (TellsWhether told P) → IfOk r (TellsWhether told Q)
tells_as told P Q (Err x) same h = tt
tells_as told P Q (Ok answer) same h = λ S is.
    let s = same S is in
    let t = h S is in
    (λ e. s.0 (t.0 e), λ q. t.1 (s.1 q))

-- ## The run

abbrev IsMadeBy : Facts → Option Files → Type 0
IsMadeBy f made = MatchOption made ((files : Files) → f.outcome ≡ Good files → ⊥) (λ files. f.outcome ≡ Good files)

-- the run of the process ends as the replayed one
outcome_is : (d : Desc) (asks : List Ask) (given : List Answer) (f : Facts) → Replays f d asks given
    → outcome_of (described d) (run_for d (answered asks given)) ≡ f.outcome
outcome_is d asks given f r =
    ap (λ (x : Desc). outcome_of (described x) (run_for d (answered asks given))) (sym r.desc) ∙ r.run.outcome

pub made_just : {E : Type 0} (d : Desc) (asks : List Ask) (given : List Answer) (f : Facts) (r : Result (Option Files) E)
    → Replays f d asks given → IfOk r (IsMadeBy f) → IfOk r (MakesJust d asks given)
made_just d asks given f (Err x) p h = tt
made_just d asks given f (Ok None) p h = λ files run. h files (sym (outcome_is d asks given f p) ∙ run.outcome)
made_just d asks given f (Ok (Some files)) p h = record {
  paths_are =
      ap (λ (x : Desc). path_set (described x) (run_for d (answered asks given)).accesses) (sym p.desc) ∙ p.run.paths ∙ p.paths_are;
  outcome = outcome_is d asks given f p ∙ h;
}

pub another_set : (d : Desc) (asks : List Ask) (given : List Answer)
    → path_set (described d) (run_for d (answered asks given)).accesses ≢ asks → MakesJust d asks given None
another_set d asks given other = λ files run. other run.paths_are

-- ## An output

pub path_same : (p q : Atoms) (test : Bool) → test ≡ not (same_path p q) → test ≡ false → p ≡ q
path_same p q test is off = (same_path_decides p q).0 (not-false (same_path p q) (sym is ∙ off))

pub path_differs : (p q : Atoms) (test : Bool) → test ≡ not (same_path p q) → test ≡ true → p ≡ q → ⊥
path_differs p q test is on same =
    let equal : same_path p q ≡ true = (same_path_decides p q).1 same in
    let clash : true ≡ false = sym on ∙ is ∙ ap not equal in
    true≢false clash

abbrev line_for : Atoms → List ℕ → OutputLine
line_for path bytes = record { path = path; digest = sha256 bytes }

pub another_path : (told : Option Holdings) (o : OutputLine) (path : Atoms) (bytes : List ℕ) → (o.path ≡ path → ⊥)
    → TellsWhether told (λ S. IsFileOf S o (path, bytes)) false
another_path told o path bytes other =
    tells_none told (λ S. IsFileOf S o (path, bytes)) (λ S is f. other (ap (λ (x : OutputLine). x.path) f.0))

pub no_output : (told : Option Holdings) (o : OutputLine) (path : Atoms) (bytes : List ℕ) → FindsOne told (λ S x. IsContent S o.digest x) None
    → TellsWhether told (λ S. IsFileOf S o (path, bytes)) false
no_output told o path bytes none =
    tells_none told (λ S. IsFileOf S o (path, bytes))
    (λ S is f. none S is bytes (record { held = f.1; digest_is = ap (λ (x : OutputLine). x.digest) (sym f.0) }))

abbrev output_with : Atoms → List ℕ → OutputLine
output_with path digest = record { path = path; digest = digest }

-- the content of the output is compared
pub compared : (told : Option Holdings) (o : OutputLine) (path : Atoms) (bytes held left right : List ℕ) (answer : Bool) → o.path ≡ path
    → FindsOne told (λ S x. IsContent S o.digest x) (Some held) → left ≡ held → right ≡ bytes → answer ≡ bytes_eq left right
    → TellsWhether told (λ S. IsFileOf S o (path, bytes)) answer
compared told o path bytes held left right answer same found l r is = λ S tells.
    let h = found S tells in
    let answer_is : answer ≡ bytes_eq held bytes = is ∙ ap (λ (t : List ℕ). bytes_eq t right) l ∙ ap (bytes_eq held) r in (
      λ e.
          let equal : held ≡ bytes = (bytes_eq-Decides held bytes).0 (sym answer_is ∙ e) in (
            ap (λ (p : Atoms). output_with p o.digest) same ∙ ap (output_with path) (sym h.digest_is ∙ ap sha256 equal),
            subst (HoldsBlob S) equal h.held,
          ),
      λ f.
          answer_is
          ∙ (bytes_eq-Decides held bytes).1
          (content_is S o.digest held bytes h (record { held = f.1; digest_is = ap (λ (x : OutputLine). x.digest) (sym f.0) })),
    )

-- ## Outputs, one after another

-- the first so many outputs are the first so many files
pub record SameSoFar (S : Holdings) (outputs : List OutputLine) (files : Files) (k : ℕ) : Type 0 where
  pub lines : output_lines (take k files) ≡ take k outputs
  pub held : HoldsAll S (contents_of (take k files))

abbrev pub SameUpTo : Option Holdings → List OutputLine → Files → ℕ → Type 0
SameUpTo told outputs files k = (S : Holdings) → told ≡ Some S → SameSoFar S outputs files k

pub same_none : (told : Option Holdings) (outputs : List OutputLine) (files : Files) → SameUpTo told outputs files 0
same_none told outputs files = λ S is. record { lines = refl; held = tt }

lines-append : (fs gs : Files) → output_lines (fs ++ gs) ≡ output_lines fs ++ output_lines gs
lines-append [] gs = refl
lines-append (f ∷ fs) gs = ap (λ (ls : List OutputLine). line_for f.0 f.1 ∷ ls) (lines-append fs gs)

contents-append : (fs gs : Files) → contents_of (fs ++ gs) ≡ contents_of fs ++ contents_of gs
contents-append [] gs = refl
contents-append (f ∷ fs) gs = ap (λ (cs : List (List ℕ)). f.1 ∷ cs) (contents-append fs gs)

pub same_more : (told now : Option Holdings) (outputs : List OutputLine) (files : Files) (k : ℕ) (o : OutputLine) (f : Atoms × List ℕ)
    → k < length outputs → k < length files → o ≡ get_or outputs k o → f ≡ get_or files k f → Stays told now → SameUpTo told outputs files k
    → TellsWhether now (λ S. IsFileOf S o f) true → SameUpTo now outputs files (k + 1)
same_more told now outputs files k o f l m o_is f_is stays h same = λ S is.
    let b = h S (stays S is) in
    let i = (same S is).0 refl in
    let next : take (k + 1) files ≡ take k files ++ f ∷ [] =
    take_more files k f m ∙ ap (λ (x : Atoms × List ℕ). take k files ++ x ∷ []) (sym f_is) in
    record {
      lines =
          ap output_lines next
          ∙ lines-append (take k files) (f ∷ [])
          ∙ ap (λ (ls : List OutputLine). ls ++ line_for f.0 f.1 ∷ []) b.lines
          ∙ ap (λ (x : OutputLine). take k outputs ++ x ∷ []) (sym i.0 ∙ o_is)
          ∙ sym (take_more outputs k o l);
      held =
          subst (HoldsAll S) (sym (ap contents_of next ∙ contents-append (take k files) (f ∷ [])))
          (all_push (HoldsBlob S) (contents_of (take k files)) f.1 b.held i.1);
    }

pub same_all : (told : Option Holdings) (outputs : List OutputLine) (files : Files) (k : ℕ) → length outputs ≤ k → length files ≤ k
    → SameUpTo told outputs files k → TellsWhether told (λ S. AreFilesOf S outputs files) true
same_all told outputs files k l m h = λ S is.
    let b = h S is in
    let all : take k files ≡ files = take_all k files m in (
      λ e. (
        ap output_lines (sym all) ∙ b.lines ∙ take_all k outputs l,
        subst (λ (fs : Files). HoldsAll S (contents_of fs)) all b.held,
      ),
      λ f. refl,
    )

abbrev pub pair_of : MadeFile → Atoms × List ℕ
pair_of f = (f.path, f.blob)

-- one of the outputs that are these files is that file
one_file : (S : Holdings) (outputs : List OutputLine) (files : Files) (k : ℕ) (o : OutputLine) (f : Atoms × List ℕ) → AreFilesOf S outputs files
    → k < length outputs → o ≡ get_or outputs k o → f ≡ get_or files k f → IsFileOf S o f
one_file S [] files k o f a l o_is f_is = absurd (omega (arith, l))
one_file S (x ∷ outputs) [] k o f a l o_is f_is = let never : output_lines [] ≡ x ∷ outputs = a.0 in absurd cc
one_file S (x ∷ outputs) (y ∷ files) zero o f a l o_is f_is =
    let first : line_for y.0 y.1 ≡ x = let whole = a.0 in cc in (
      o_is ∙ sym first ∙ ap (λ (g : Atoms × List ℕ). line_for g.0 g.1) (sym f_is),
      subst (λ (g : Atoms × List ℕ). HoldsBlob S g.1) (sym f_is) a.1.0,
    )
one_file S (x ∷ outputs) (y ∷ files) (suc k) o f a l o_is f_is =
    let rest : output_lines files ≡ outputs = let whole = a.0 in cc in
    one_file S outputs files k o f (rest, a.1.1) (omega (arith, l)) o_is f_is

pub one_other : (told : Option Holdings) (outputs : List OutputLine) (files : Files) (k : ℕ) (o : OutputLine) (f : Atoms × List ℕ)
    → k < length outputs → o ≡ get_or outputs k o → f ≡ get_or files k f → TellsWhether told (λ S. IsFileOf S o f) false
    → TellsWhether told (λ S. AreFilesOf S outputs files) false
one_other told outputs files k o f l o_is f_is other =
    tells_none told (λ S. AreFilesOf S outputs files)
    (λ S is a. no_true ((other S is).1 (one_file S outputs files k o f a l o_is f_is)))

-- as the files that were made
pub pair_at : (files : List MadeFile) (k : ℕ) (f : MadeFile) → k < length files → f ≡ get_or files k f
    → pair_of f ≡ get_or (made_files files) k (pair_of f)
pair_at files k f l is = ap pair_of is ∙ sym (get_or-map pair_of files k f (pair_of f) l)

pub other_made : (told : Option Holdings) (outputs : List OutputLine) (files : List MadeFile) (made : Files) (k : ℕ) (o : OutputLine) (f : MadeFile)
    (answer : Bool) → made_files files ≡ made → k < length outputs → k < length files → o ≡ get_or outputs k o → f ≡ get_or files k f
    → TellsWhether told (λ S. IsFileOf S o (f.path, f.blob)) answer → answer ≡ false → TellsWhether told (λ S. AreFilesOf S outputs made) false
other_made told outputs files made k o f answer same l m o_is f_is tells off =
    subst (λ (fs : Files). TellsWhether told (λ S. AreFilesOf S outputs fs) false) same
    (one_other told outputs (made_files files) k o (pair_of f) l o_is (pair_at files k f m f_is)
    (subst (TellsWhether told (λ S. IsFileOf S o (pair_of f))) off tells))

pub more_made : (told now : Option Holdings) (outputs : List OutputLine) (files : List MadeFile) (k : ℕ) (o : OutputLine) (f : MadeFile) (answer : Bool)
    → k < length outputs → k < length files → o ≡ get_or outputs k o → f ≡ get_or files k f → Stays told now
    → SameUpTo told outputs (made_files files) k → TellsWhether now (λ S. IsFileOf S o (f.path, f.blob)) answer → answer ≡ true
    → SameUpTo now outputs (made_files files) (k + 1)
more_made told now outputs files k o f answer l m o_is f_is stays so_far tells on =
    same_more told now outputs (made_files files) k o (pair_of f) l (omega (arith, m, length-map files pair_of)) o_is (pair_at files k f m f_is) stays so_far
    (subst (TellsWhether now (λ S. IsFileOf S o (pair_of f))) on tells)

pub another_number : (told : Option Holdings) (outputs : List OutputLine) (files : Files) → (length outputs ≡ length files → ⊥)
    → TellsWhether told (λ S. AreFilesOf S outputs files) false
another_number told outputs files other =
    tells_none told (λ S. AreFilesOf S outputs files)
    (λ S is a. other (sym (ap (λ (ls : List OutputLine). length ls) a.0) ∙ length-map files (λ (f : Atoms × List ℕ). line_for f.0 f.1)))

-- ## The texts of an entry

pub no_desc : (told : Option Holdings) (e : Entry) (t : EntryTexts) → FindsOne told (λ S d. IsDescOf S t.weak d) None
    → TellsWhether told (λ S. KeepsTexts S e t) false
no_desc told e t none = tells_none told (λ S. KeepsTexts S e t) (λ S is k. none S is k.desc k.desc_is)

pub no_answers : (told : Option Holdings) (e : Entry) (t : EntryTexts) → FindsOne told (λ S a. AreAnswersOf S t.lines a) None
    → TellsWhether told (λ S. KeepsTexts S e t) false
no_answers told e t none = tells_none told (λ S. KeepsTexts S e t) (λ S is k. none S is k.given k.given_are)

-- the run on what was found
abbrev pub IsFoundRun : Option Holdings → EntryTexts → Desc → List Answer → Type 0
IsFoundRun told t d given = (S : Holdings) → told ≡ Some S → IsDescOf S t.weak d × AreAnswersOf S t.lines given

pub found_run : (first second : Option Holdings) (t : EntryTexts) (d : Desc) (given : List Answer) → Stays first second
    → FindsOne first (λ S x. IsDescOf S t.weak x) (Some d) → FindsOne second (λ S x. AreAnswersOf S t.lines x) (Some given)
    → IsFoundRun second t d given
found_run first second t d given stays h k = λ S is. (h S (stays S is), k S is)

pub no_run : (told : Option Holdings) (e : Entry) (t : EntryTexts) (d : Desc) (given : List Answer) → IsFoundRun told t d given
    → MakesJust d t.paths given None → TellsWhether told (λ S. KeepsTexts S e t) false
no_run told e t d given found none =
    tells_none told (λ S. KeepsTexts S e t)
    (λ S is k. let f = found S is in none k.files (run_of_found S e t d given f.0 f.1 k))

same_good : (a b : Files) → ◌≡◌ {A = Outcome} (Good a) (Good b) → a ≡ b
same_good a b e = cc

-- the outputs are compared with the files of the run
pub keeps_where : {E : Type 0} (told now : Option Holdings) (e : Entry) (t : EntryTexts) (d : Desc) (given : List Answer) (made : Files)
    (r : Result Bool E) → Stays told now → IsFoundRun told t d given → MakesJust d t.paths given (Some made)
    → IfOk r (TellsWhether now (λ S. AreFilesOf S e.outputs made)) → IfOk r (TellsWhether now (λ S. KeepsTexts S e t))
keeps_where told now e t d given made r stays found run h =
    tells_as now (λ S. AreFilesOf S e.outputs made) (λ S. KeepsTexts S e t) r
    (λ S is.
    let f = found S (stays S is) in (
      λ a. record { desc = d; given = given; files = made; desc_is = f.0; given_are = f.1; run = run; made = a },
      λ k.
          let again = run_of_found S e t d given f.0 f.1 k in
          subst (AreFilesOf S e.outputs) (same_good k.files made (sym again.outcome ∙ run.outcome)) k.made,
    ))
    h

-- ## An entry

pub no_texts : (told : Option Holdings) (e : Entry) → FindsOne told (λ S t. AreTexts S e t) None
    → TellsWhether told (λ S. HonestEntry S e) false
no_texts told e none = tells_none told (λ S. HonestEntry S e) (λ S is h. none S is (texts_in h) (honest_has_texts S e h))

pub honest_where : {E : Type 0} (told now : Option Holdings) (e : Entry) (t : EntryTexts) (r : Result Bool E) → Stays told now
    → FindsOne told (λ S x. AreTexts S e x) (Some t) → IfOk r (TellsWhether now (λ S. KeepsTexts S e t))
    → IfOk r (TellsWhether now (λ S. HonestEntry S e))
honest_where told now e t r stays found h =
    tells_as now (λ S. KeepsTexts S e t) (λ S. HonestEntry S e) r
    (λ S is. let a = found S (stays S is) in (keeps_is_honest S e t a, honest_keeps S e t a)) h
