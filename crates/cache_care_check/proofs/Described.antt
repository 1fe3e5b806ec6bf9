-- The process and the answers that texts say, with contents that are found or not.
use Rattle.std.proofs.Common.{◌≡◌, ℕ, ◌+◌, ◌<◌, ◌≤◌, zero, suc, List, [], ◌∷◌, ◌++◌, length, map, take, get_or, Option, Some, None, refl, sym, ap, ◌∙◌, subst, arith}
use Rattle.std.specs.List.{AllByRecursion}
use Rattle.std.specs.List.Sorted.{IsPermutation, IsStrictlySortedBy}
use Rattle.std.proofs.lemmas.Grind.{flat_map-append}
use Rattle.std.proofs.lemmas.List.{get_or-map, length-map, length_push, map-append, take_all, take_more}
use Rattle.sha2.specs.Sha256.{sha256}
use Rattle.bx_tree.specs.FileInputs.{input_path}
use Rattle.bx_tree.specs.Paths.{Atoms, path_cmp}
use Rattle.bx_tree.specs.Trees.{Files, paths_of}
use Rattle.bx_tree.specs.declared.file_input.FileInput.{FileInput}
use Rattle.bx_tree.specs.declared.file_input.FileInput.TheVariants.{Source}
use Rattle.bx_tree.proofs.Lists.{all_append, all_front, all_back, all_push}
use Rattle.bx_io.specs.Holdings.{Holdings}
use Rattle.bx_io.specs.Told.{Stays}
use Rattle.pip_model_types.specs.Made.{RisingFiles, made_files}
use Rattle.pip_model_types.specs.declared.desc.Desc.{Desc}
use Rattle.pip_model_types.specs.declared.dir_inputs.DirInput.{DirInput}
use Rattle.pip_model_types.specs.declared.made.MadeFile.{MadeFile}
use Rattle.pip_model_types.specs.declared.pip.ProcessDesc.{ProcessDesc}
use Rattle.pip_model_types.proofs.FilesAt.{paths-made}
use Rattle.pip_model_types.proofs.SameFiles.{same_rising}
use Rattle.observed.specs.declared.access.Answer.{Answer}
use Rattle.observed.specs.declared.access.Answer.TheVariants as answers
use Rattle.prints.specs.Processes.{numbered_from, unlinked, weak_parts, with_sources, without_pips}
use Rattle.prints.specs.Strong.{line_of}
use Rattle.prints.specs.declared.strong_parts.AnswerLine.{AnswerLine}
use Rattle.prints.specs.declared.strong_parts.AnswerLine.TheVariants as kinds
use Rattle.prints.specs.declared.weak_parts.WeakParts.{WeakParts}
use Rattle.memo_format.specs.StoreNames.{HoldsBlob}
use Rattle.run_record.specs.Collisions.{contents_of}
use Rattle.content_store.specs.Contents.{IsContent}
use Rattle.two_phase_meaning.specs.Contents.{HoldsAll, answer_contents, given_contents}
use Rattle.two_phase.specs.Finding.{FindsOne}
use Rattle.cache_care_check.specs.Describing.{AreDeclared, IsDeclared}
use Rattle.cache_care_check.specs.Judging.{AreAnswersOf, IsDescOf}

-- ## A declared file

abbrev pub made_file : Atoms → List ℕ → MadeFile
made_file path bytes = record { path = path; blob = bytes }

pub declared_as : (told : Option Holdings) (path shared : Atoms) (digest bytes : List ℕ) → shared ≡ path
    → FindsOne told (λ S x. IsContent S digest x) (Some bytes) → FindsOne told (λ S f. IsDeclared S path digest f) (Some (made_file shared bytes))
declared_as told path shared digest bytes same h = λ S is. (same, h S is)

pub not_declared : (told : Option Holdings) (path : Atoms) (digest : List ℕ) → FindsOne told (λ S x. IsContent S digest x) None
    → FindsOne told (λ S f. IsDeclared S path digest f) None
not_declared told path digest h = λ S is f d. h S is f.blob d.1

-- ## Declared files, one after another

abbrev path_in : MadeFile → Atoms
path_in f = f.path

abbrev digest_in : MadeFile → List ℕ
digest_in f = sha256 f.blob

abbrev IsHeldIn : Holdings → MadeFile → Type 0
IsHeldIn S f = HoldsBlob S f.blob

-- these files are at the first so many paths, with the contents of the first so many digests
pub record DeclaredSoFar (told : Option Holdings) (paths : List Atoms) (digests : List (List ℕ)) (k : ℕ) (files : List MadeFile)
    : Type 0 where
  pub paths_are : map path_in files ≡ take k paths
  pub held : (S : Holdings) → told ≡ Some S → (map digest_in files ≡ take k digests) × AllByRecursion (IsHeldIn S) files

pub declared_none : (told : Option Holdings) (paths : List Atoms) (digests : List (List ℕ)) (files : List MadeFile) → files ≡ []
    → DeclaredSoFar told paths digests 0 files
declared_none told paths digests files none =
    subst (λ (fs : List MadeFile). DeclaredSoFar told paths digests 0 fs) (sym none) (record { paths_are = refl; held = λ S is. (refl, tt) })

pub declared_more : (told now : Option Holdings) (files : List FileInput) (digests : List (List ℕ)) (k : ℕ) (before next : List MadeFile)
    (f : MadeFile) (file : FileInput) (digest : List ℕ) → length files ≡ length digests → k < length files → file ≡ get_or files k file
    → digest ≡ get_or digests k digest → Stays told now → DeclaredSoFar told (map input_path files) digests k before
    → FindsOne now (λ S x. IsDeclared S (input_path file) digest x) (Some f) → f.path ≡ input_path file → next ≡ before ++ f ∷ []
    → DeclaredSoFar now (map input_path files) digests (k + 1) next
declared_more told now files digests k before next f file digest one_each l file_is digest_is stays h found path more =
    let paths : k < length (map input_path files) = omega (arith, length-map files input_path) in
    let count : k < length digests = omega arith in
    let here : input_path file ≡ get_or (map input_path files) k (input_path file) =
    ap input_path file_is ∙ sym (get_or-map input_path files k file (input_path file) l) in
    record {
      paths_are =
          ap (map path_in) more
          ∙ map-append path_in before (f ∷ [])
          ∙ ap (λ (ps : List Atoms). ps ++ f.path ∷ []) h.paths_are
          ∙ ap (λ (p : Atoms). take k (map input_path files) ++ p ∷ []) (path ∙ here)
          ∙ sym (take_more (map input_path files) k (input_path file) paths);
      held = λ S is.
          let b = h.held S (stays S is) in
          let d = found S is in (
            ap (map digest_in) more
                ∙ map-append digest_in before (f ∷ [])
                ∙ ap (λ (ds : List (List ℕ)). ds ++ sha256 f.blob ∷ []) b.0
                ∙ ap (λ (x : List ℕ). take k digests ++ x ∷ []) (d.1.digest_is ∙ digest_is)
                ∙ sym (take_more digests k digest count),
            subst (AllByRecursion (IsHeldIn S)) (sym more) (all_push (IsHeldIn S) before f b.1 d.1.held),
          );
    }

pub declared_rise : (told : Option Holdings) (paths : List Atoms) (digests : List (List ℕ)) (k : ℕ) (files : List MadeFile)
    → DeclaredSoFar told paths digests k files → length paths ≤ k → IsStrictlySortedBy path_cmp paths → RisingFiles (made_files files)
declared_rise told paths digests k files h l rise =
    subst (IsStrictlySortedBy path_cmp) (sym (paths-made files ∙ h.paths_are ∙ take_all k paths l)) rise

digests_in : (files : List MadeFile) → map sha256 (contents_of (made_files files)) ≡ map digest_in files
digests_in [] = refl
digests_in (f ∷ files) = ap (λ (ds : List (List ℕ)). sha256 f.blob ∷ ds) (digests_in files)

contents_in : (S : Holdings) (files : List MadeFile) → AllByRecursion (IsHeldIn S) files → HoldsAll S (contents_of (made_files files))
contents_in S [] h = tt
contents_in S (f ∷ files) h = (h.0, contents_in S files h.1)

pub declared_all : (told : Option Holdings) (paths : List Atoms) (digests : List (List ℕ)) (k : ℕ) (files : List MadeFile) (made : Files)
    → DeclaredSoFar told paths digests k files → length paths ≤ k → length digests ≤ k → IsStrictlySortedBy path_cmp paths
    → IsPermutation (made_files files) made → RisingFiles made → FindsOne told (λ S m. AreDeclared S paths digests m) (Some made)
declared_all told paths digests k files made h l m rise moved rising = λ S is.
    let b = h.held S is in
    let same : made ≡ made_files files =
    same_rising (made_files files) made (declared_rise told paths digests k files h l rise) rising moved in
    record {
      paths_are = ap paths_of same ∙ paths-made files ∙ h.paths_are ∙ take_all k paths l;
      digests_are = ap (λ (fs : Files). map sha256 (contents_of fs)) same ∙ digests_in files ∙ b.0 ∙ take_all k digests m;
      held = subst (λ (fs : Files). HoldsAll S (contents_of fs)) (sym same) (contents_in S files b.1);
    }

-- the content of one of the digests
content_at : (S : Holdings) (contents digests : List (List ℕ)) (k : ℕ) (digest : List ℕ) → map sha256 contents ≡ digests → HoldsAll S contents
    → k < length digests → digest ≡ get_or digests k digest → (x : List ℕ) × IsContent S digest x
content_at S [] [] k digest e h l is = absurd (omega (arith, l))
content_at S [] (d ∷ digests) k digest e h l is = absurd cc
content_at S (x ∷ contents) [] k digest e h l is = absurd (omega (arith, l))
content_at S (x ∷ contents) (d ∷ digests) zero digest e h l is =
    let first : sha256 x ≡ d = cc in (x, record { held = h.0; digest_is = first ∙ sym is })
content_at S (x ∷ contents) (d ∷ digests) (suc k) digest e h l is =
    let rest : map sha256 contents ≡ digests = cc in content_at S contents digests k digest rest h.1 (omega (arith, l)) is

pub one_missing : (told : Option Holdings) (paths : List Atoms) (digests : List (List ℕ)) (k : ℕ) (path : Atoms) (digest : List ℕ)
    → k < length digests → digest ≡ get_or digests k digest → FindsOne told (λ S f. IsDeclared S path digest f) None
    → FindsOne told (λ S m. AreDeclared S paths digests m) None
one_missing told paths digests k path digest l is none = λ S tells m a.
    let x = content_at S (contents_of m) digests k digest a.digests_are a.held l is in
    none S tells (made_file path x.0) (refl, x.1)

-- ## The process

sources_of : (files : List FileInput) → map Source (map input_path files) ≡ map (λ (f : FileInput). Source (input_path f)) files
sources_of [] = refl
sources_of (f ∷ files) = ap (λ (fs : List FileInput). Source (input_path f) ∷ fs) (sources_of files)

paths_again : (paths : List Atoms) → map input_path (map Source paths) ≡ paths
paths_again [] = refl
paths_again (p ∷ paths) = ap (λ (ps : List Atoms). p ∷ ps) (paths_again paths)

digests_of : (files : Files) → map sha256 (contents_of files) ≡ map (λ (f : Atoms × List ℕ). sha256 f.1) files
digests_of [] = refl
digests_of (f ∷ files) = ap (λ (ds : List (List ℕ)). sha256 f.1 ∷ ds) (digests_of files)

abbrev with_files : ProcessDesc → List FileInput → ProcessDesc
with_files p files = record {
  exe = p.exe;
  args = p.args;
  env = p.env;
  dir = p.dir;
  files = files;
  dirs = numbered_from 0 p.dirs;
  outs = p.outs;
  outdirs = p.outdirs;
  console = p.console;
}

-- the process of a text, with files at its paths
process_again : (p : ProcessDesc) (files : Files) → unlinked p ≡ p → paths_of files ≡ map input_path p.files → with_sources files p ≡ p
process_again p files unlinks paths = ap (with_files p) (ap (map Source) paths ∙ sources_of p.files) ∙ unlinks

abbrev weak_with : ProcessDesc → ℕ → List ℕ → List (List ℕ) → WeakParts
weak_with process budget exe files = record { process = process; budget = budget; exe = exe; files = files }

abbrev pub desc_from : WeakParts → List ℕ → Files → Desc
desc_from parts exe files = record { process = parts.process; exe = exe; files = files; budget = parts.budget }

weak_again : (parts : WeakParts) (exe : List ℕ) (files : Files) → without_pips parts ≡ parts → sha256 exe ≡ parts.exe
    → paths_of files ≡ map input_path parts.process.files → map sha256 (contents_of files) ≡ parts.files
    → weak_parts (desc_from parts exe files) ≡ parts
weak_again parts exe files unlinks digest paths digests =
    ap (λ (p : ProcessDesc). weak_with p parts.budget (sha256 exe) (map (λ (f : Atoms × List ℕ). sha256 f.1) files))
    (process_again parts.process files (ap (λ (w : WeakParts). w.process) unlinks) paths)
    ∙ ap (λ (d : List ℕ). weak_with parts.process parts.budget d (map (λ (f : Atoms × List ℕ). sha256 f.1) files)) digest
    ∙ ap (λ (ds : List (List ℕ)). weak_with parts.process parts.budget parts.exe ds) (sym (digests_of files) ∙ digests)

pub desc_found : (told now : Option Holdings) (parts : WeakParts) (exe : List ℕ) (files : Files) → Stays told now → without_pips parts ≡ parts
    → FindsOne told (λ S x. IsContent S parts.exe x) (Some exe)
    → FindsOne now (λ S m. AreDeclared S (map input_path parts.process.files) parts.files m) (Some files)
    → FindsOne now (λ S d. IsDescOf S parts d) (Some (desc_from parts exe files))
desc_found told now parts exe files stays unlinks h k = λ S is.
    let e = h S (stays S is) in
    let f = k S is in
    (weak_again parts exe files unlinks e.digest_is f.paths_are f.digests_are, (e.held, f.held))

pub no_exe : (told : Option Holdings) (parts : WeakParts) → FindsOne told (λ S x. IsContent S parts.exe x) None
    → FindsOne told (λ S d. IsDescOf S parts d) None
no_exe told parts h = λ S is d k. h S is d.exe (record { held = k.1.0; digest_is = ap (λ (w : WeakParts). w.exe) k.0 })

pub no_files : (told : Option Holdings) (parts : WeakParts)
    → FindsOne told (λ S m. AreDeclared S (map input_path parts.process.files) parts.files m) None
    → FindsOne told (λ S d. IsDescOf S parts d) None
no_files told parts h = λ S is d k.
    h S is d.files (record {
      paths_are = sym (paths_again (paths_of d.files)) ∙ ap (λ (w : WeakParts). map input_path w.process.files) k.0;
      digests_are = digests_of d.files ∙ ap (λ (w : WeakParts). w.files) k.0;
      held = k.1.1;
    })

-- ## An answer

abbrev pub IsAnswerOf : Holdings → AnswerLine → Answer → Type 0
IsAnswerOf S line a = (line_of a ≡ line) × HoldsAll S (answer_contents a)

pub plain_answer : (told : Option Holdings) (line : AnswerLine) (a : Answer) → line_of a ≡ line → answer_contents a ≡ []
    → FindsOne told (λ S x. IsAnswerOf S line x) (Some a)
plain_answer told line a same none = λ S is. (same, subst (HoldsAll S) (sym none) tt)

pub content_answer : (told : Option Holdings) (line : AnswerLine) (digest bytes : List ℕ) → line ≡ kinds.Content digest
    → FindsOne told (λ S x. IsContent S digest x) (Some bytes) → FindsOne told (λ S x. IsAnswerOf S line x) (Some (answers.Content bytes))
content_answer told line digest bytes same h = λ S is. (ap kinds.Content (h S is).digest_is ∙ sym same, ((h S is).held, tt))

pub names_answer : (told : Option Holdings) (line : AnswerLine) (digest bytes : List ℕ) → line ≡ kinds.Names digest
    → FindsOne told (λ S x. IsContent S digest x) (Some bytes) → FindsOne told (λ S x. IsAnswerOf S line x) (Some (answers.Names bytes))
names_answer told line digest bytes same h = λ S is. (ap kinds.Names (h S is).digest_is ∙ sym same, ((h S is).held, tt))

content_of_line : (S : Holdings) (digest : List ℕ) (a : Answer) → line_of a ≡ kinds.Content digest → HoldsAll S (answer_contents a)
    → (x : List ℕ) × IsContent S digest x
content_of_line S digest answers.Absent e h = absurd cc
content_of_line S digest (answers.Content bytes) e h = let same : sha256 bytes ≡ digest = cc in (bytes, record { held = h.0; digest_is = same })
content_of_line S digest answers.File e h = absurd cc
content_of_line S digest answers.Directory e h = absurd cc
content_of_line S digest (answers.Names names) e h = absurd cc
content_of_line S digest answers.Denied e h = absurd cc

names_of_line : (S : Holdings) (digest : List ℕ) (a : Answer) → line_of a ≡ kinds.Names digest → HoldsAll S (answer_contents a)
    → (x : List ℕ) × IsContent S digest x
names_of_line S digest answers.Absent e h = absurd cc
names_of_line S digest (answers.Content bytes) e h = absurd cc
names_of_line S digest answers.File e h = absurd cc
names_of_line S digest answers.Directory e h = absurd cc
names_of_line S digest (answers.Names names) e h = let same : sha256 names ≡ digest = cc in (names, record { held = h.0; digest_is = same })
names_of_line S digest answers.Denied e h = absurd cc

pub no_content_answer : (told : Option Holdings) (line : AnswerLine) (digest : List ℕ) → line ≡ kinds.Content digest
    → FindsOne told (λ S x. IsContent S digest x) None → FindsOne told (λ S x. IsAnswerOf S line x) None
no_content_answer told line digest same h = λ S is a k. let x = content_of_line S digest a (k.0 ∙ same) k.1 in h S is x.0 x.1

pub no_names_answer : (told : Option Holdings) (line : AnswerLine) (digest : List ℕ) → line ≡ kinds.Names digest
    → FindsOne told (λ S x. IsContent S digest x) None → FindsOne told (λ S x. IsAnswerOf S line x) None
no_names_answer told line digest same h = λ S is a k. let x = names_of_line S digest a (k.0 ∙ same) k.1 in h S is x.0 x.1

-- ## Answers, one after another

-- these are the answers of the first so many lines
pub record AnsweredSoFar (told : Option Holdings) (lines : List AnswerLine) (k : ℕ) (given : List Answer) : Type 0 where
  pub number : length given ≡ k
  pub held : (S : Holdings) → told ≡ Some S → AreAnswersOf S (take k lines) given

pub answered_none : (told : Option Holdings) (lines : List AnswerLine) (given : List Answer) → given ≡ [] → AnsweredSoFar told lines 0 given
answered_none told lines given none =
    subst (λ (as' : List Answer). AnsweredSoFar told lines 0 as') (sym none) (record { number = refl; held = λ S is. (refl, tt) })

pub answered_more : (told now : Option Holdings) (lines : List AnswerLine) (k : ℕ) (before next : List Answer) (a : Answer) (line : AnswerLine)
    → k < length lines → line ≡ get_or lines k line → Stays told now → AnsweredSoFar told lines k before
    → FindsOne now (λ S x. IsAnswerOf S line x) (Some a) → next ≡ before ++ a ∷ [] → AnsweredSoFar now lines (k + 1) next
answered_more told now lines k before next a line l line_is stays h found more = record {
  number = ap (λ (as' : List Answer). length as') more ∙ length_push before a ∙ ap (λ n. n + 1) h.number;
  held = λ S is.
      let b = h.held S (stays S is) in
      let f = found S is in (
        ap (map line_of) more
            ∙ map-append line_of before (a ∷ [])
            ∙ ap (λ (ls : List AnswerLine). ls ++ line_of a ∷ []) b.0
            ∙ ap (λ (x : AnswerLine). take k lines ++ x ∷ []) (f.0 ∙ line_is)
            ∙ sym (take_more lines k line l),
        subst (HoldsAll S) (sym (ap given_contents more ∙ flat_map-append answer_contents before (a ∷ [])))
            (all_append (HoldsBlob S) (given_contents before) (given_contents (a ∷ [])) b.1
            (all_append (HoldsBlob S) (answer_contents a) [] f.1 tt)),
      );
}

pub answered_all : (told : Option Holdings) (lines : List AnswerLine) (k : ℕ) (given : List Answer) → length lines ≤ k
    → AnsweredSoFar told lines k given → FindsOne told (λ S x. AreAnswersOf S lines x) (Some given)
answered_all told lines k given l h = λ S is.
    subst (λ (ls : List AnswerLine). AreAnswersOf S ls given) (take_all k lines l) (h.held S is)

answer_at : (S : Holdings) (given : List Answer) (lines : List AnswerLine) (k : ℕ) (line : AnswerLine) → map line_of given ≡ lines
    → HoldsAll S (given_contents given) → k < length lines → line ≡ get_or lines k line → (a : Answer) × IsAnswerOf S line a
answer_at S [] [] k line e h l is = absurd (omega (arith, l))
answer_at S [] (x ∷ lines) k line e h l is = absurd cc
answer_at S (a ∷ given) [] k line e h l is = absurd (omega (arith, l))
answer_at S (a ∷ given) (x ∷ lines) zero line e h l is =
    let first : line_of a ≡ x = cc in
    (a, (first ∙ sym is, all_front (HoldsBlob S) (answer_contents a) (given_contents given) h))
answer_at S (a ∷ given) (x ∷ lines) (suc k) line e h l is =
    let rest : map line_of given ≡ lines = cc in
    answer_at S given lines k line rest (all_back (HoldsBlob S) (answer_contents a) (given_contents given) h) (omega (arith, l)) is

pub one_unanswered : (told : Option Holdings) (lines : List AnswerLine) (k : ℕ) (line : AnswerLine) → k < length lines
    → line ≡ get_or lines k line → FindsOne told (λ S x. IsAnswerOf S line x) None → FindsOne told (λ S x. AreAnswersOf S lines x) None
one_unanswered told lines k line l is none = λ S tells given a.
    let x = answer_at S given lines k line a.0 a.1 l is in none S tells x.0 x.1
