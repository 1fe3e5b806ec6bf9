-- What is written for a record.
use Rattle.std.proofs.Common.{Bool, ◌≡◌, ℕ, ◌<◌, ◌+◌, List, [], ◌∷◌, ◌++◌, take, length, get_or, Some, refl, sym, ap, ◌∙◌, append_assoc, append-nil}
use Rattle.std.proofs.lemmas.List.{take_more}
use Rattle.sha2.specs.Sha256.{sha256}
use Rattle.bx_tree.specs.Trees.{Files}
use Rattle.observed.specs.Texts.{has_match, paths_text, read_paths_text}
use Rattle.observed.specs.declared.ask.Ask.{Ask}
use Rattle.observed.specs.declared.access.Answer.{Answer}
use Rattle.pip_model_types.specs.Made.{made_files}
use Rattle.pip_model_types.specs.declared.desc.Desc.{Desc}
use Rattle.pip_model_types.specs.declared.made.MadeFile.{MadeFile}
use Rattle.run_record.specs.Facts.{Facts}
use Rattle.prints.specs.Processes.{weak_parts}
use Rattle.prints.specs.ReadWeak.{read_weak_text}
use Rattle.prints.specs.Strong.{strong_parts, strong_text}
use Rattle.prints.specs.Weak.{weak_text}
use Rattle.memo_format.specs.Entries.{entry_text, read_entry_text}
use Rattle.memo_format.specs.Found.{output_lines}
use Rattle.run_record.specs.Collisions.{contents_of}
use Rattle.run_record.specs.Digests.{weak_of}
use Rattle.two_phase_meaning.specs.Contents.{answer_contents, desc_contents, given_contents}
use Rattle.two_phase_meaning.specs.Saving.{answers_text, entry_with, outcome_files, paths_digest, record_entry}
use Rattle.two_phase.specs.Putting.{IsWritten}
use Rattle.two_phase.specs.declared.recording.Written.{Written}

-- ## One more

-- what is added to a list that holds what was added before
joined : {X : Type 0} (start before all old now more : List X) → old ≡ start ++ before → now ≡ old ++ more → all ≡ before ++ more → now ≡ start ++ all
joined start before all old now more is put whole =
    put ∙ ap (λ xs. xs ++ more) is ∙ append_assoc start before more ∙ ap (λ xs. start ++ xs) (sym whole)

contents-append : (fs gs : List MadeFile) → contents_of (made_files (fs ++ gs)) ≡ contents_of (made_files fs) ++ contents_of (made_files gs)
contents-append [] gs = refl
contents-append (f ∷ fs) gs = ap (λ xs. f.blob ∷ xs) (contents-append fs gs)

pub file_more : (start old now : List (List ℕ)) (files : List MadeFile) (i : ℕ) (f : MadeFile) (blob : List ℕ) → i < length files → f ≡ get_or files i f
    → old ≡ start ++ contents_of (made_files (take i files)) → blob ≡ f.blob → now ≡ old ++ blob ∷ []
    → now ≡ start ++ contents_of (made_files (take (i + 1) files))
file_more start old now files i f blob l is so_far blob_is put =
    joined start (contents_of (made_files (take i files))) (contents_of (made_files (take (i + 1) files))) old now (f.blob ∷ []) so_far
    (put ∙ ap (λ b. old ++ b ∷ []) blob_is)
    (ap (λ fs. contents_of (made_files fs)) (take_more files i f l ∙ ap (λ y. take i files ++ y ∷ []) (sym is)) ∙ contents-append (take i files) (f ∷ []))

given-append : (as' bs : List Answer) → given_contents (as' ++ bs) ≡ given_contents as' ++ given_contents bs
given-append [] bs = refl
given-append (a ∷ as') bs =
    ap (λ xs. answer_contents a ++ xs) (given-append as' bs) ∙ sym (append_assoc (answer_contents a) (given_contents as') (given_contents bs))

one_given : (a : Answer) → given_contents (a ∷ []) ≡ answer_contents a
one_given a = append-nil (answer_contents a)

pub answer_more : (start old now : List (List ℕ)) (given : List Answer) (i : ℕ) (a : Answer) → i < length given → a ≡ get_or given i a
    → old ≡ start ++ given_contents (take i given) → now ≡ old ++ answer_contents a → now ≡ start ++ given_contents (take (i + 1) given)
answer_more start old now given i a l is so_far put =
    joined start (given_contents (take i given)) (given_contents (take (i + 1) given)) old now (answer_contents a) so_far put
    (ap given_contents (take_more given i a l ∙ ap (λ y. take i given ++ y ∷ []) (sym is)) ∙ given-append (take i given) (a ∷ [])
    ∙ ap (λ xs. given_contents (take i given) ++ xs) (one_given a))

lines-append : (fs gs : List MadeFile) → output_lines (made_files (fs ++ gs)) ≡ output_lines (made_files fs) ++ output_lines (made_files gs)
lines-append [] gs = refl
lines-append (f ∷ fs) gs = ap (λ xs. record { path = f.path; digest = sha256 f.blob } ∷ xs) (lines-append fs gs)

-- all contents, one list after another
pub all_joined : (c0 c1 c2 c3 c4 : List (List ℕ)) (x y : List ℕ) (files given made : List (List ℕ)) → c0 ≡ [] → c1 ≡ c0 ++ x ∷ [] → x ≡ y → c2 ≡ c1 ++ files
    → c3 ≡ c2 ++ given → c4 ≡ c3 ++ made → c4 ≡ (y ∷ files) ++ (given ++ made)
all_joined c0 c1 c2 c3 c4 x y files given made h0 h1 hx h2 h3 h4 =
    let one : c1 ≡ y ∷ [] = h1 ∙ ap (λ c. c ++ x ∷ []) h0 ∙ ap (λ z. z ∷ []) hx in
    let two : c2 ≡ y ∷ files = h2 ∙ ap (λ c. c ++ files) one in
    h4 ∙ ap (λ c. c ++ made) (h3 ∙ ap (λ c. c ++ given) two) ∙ append_assoc (y ∷ files) given made

-- ## All that is written

pub written_is : (f : Facts) (w : Written) (d e : Desc) (ps : List Ask) (second : Bool) (paths_now : List ℕ) (as' bs : List Answer) (files : Files)
    → second ≡ has_match f.paths → d ≡ f.desc → e ≡ f.desc → ps ≡ f.paths → as' ≡ f.answers → bs ≡ f.answers → files ≡ outcome_files f.outcome
    → w.weak.text.items ≡ weak_text (weak_parts d) → w.weak.digest ≡ sha256 w.weak.text.items → read_weak_text w.weak.text.items ≡ Some (weak_parts d)
    → w.paths ≡ paths_text ps → paths_now ≡ sha256 w.paths → read_paths_text w.paths ≡ Some ps
    → w.strong.text.items ≡ strong_text (strong_parts second w.weak.digest paths_now as') → w.strong.digest ≡ sha256 w.strong.text.items
    → w.entry.items ≡ entry_text (entry_with w.weak.digest paths_now w.strong.digest files)
    → read_entry_text w.entry.items ≡ Some (entry_with w.weak.digest paths_now w.strong.digest files)
    → w.contents.items ≡ desc_contents e ++ (given_contents bs ++ contents_of files) → IsWritten f w
written_is f w d e ps second paths_now as' bs files hs hd he hp ha hb hf weak weak_digest weak_read paths paths_digest_is paths_read strong strong_digest entry entry_read contents =
    let weak_is : w.weak.text.items ≡ weak_text (weak_parts f.desc) = weak ∙ ap (λ (x : Desc). weak_text (weak_parts x)) hd in
    let weak_d : w.weak.digest ≡ weak_of f.desc = weak_digest ∙ ap sha256 weak_is in
    let paths_is : w.paths ≡ paths_text f.paths = paths ∙ ap paths_text hp in
    let paths_d : paths_now ≡ paths_digest f = paths_digest_is ∙ ap sha256 paths_is in
    let strong_is : w.strong.text.items ≡ answers_text f =
    strong
    ∙ ap (λ s. strong_text (strong_parts s w.weak.digest paths_now as')) hs
    ∙ ap (λ x. strong_text (strong_parts (has_match f.paths) x paths_now as')) weak_d
    ∙ ap (λ x. strong_text (strong_parts (has_match f.paths) (weak_of f.desc) x as')) paths_d
    ∙ ap (λ (xs : List Answer). strong_text (strong_parts (has_match f.paths) (weak_of f.desc) (paths_digest f) xs)) ha in
    let strong_d : w.strong.digest ≡ sha256 (answers_text f) = strong_digest ∙ ap sha256 strong_is in
    let entry_same : entry_with w.weak.digest paths_now w.strong.digest files ≡ record_entry f =
    ap (λ x. entry_with x paths_now w.strong.digest files) weak_d
    ∙ ap (λ x. entry_with (weak_of f.desc) x w.strong.digest files) paths_d
    ∙ ap (λ x. entry_with (weak_of f.desc) (paths_digest f) x files) strong_d
    ∙ ap (λ (fs : Files). entry_with (weak_of f.desc) (paths_digest f) (sha256 (answers_text f)) fs) hf in
    let entry_is : w.entry.items ≡ entry_text (record_entry f) = entry ∙ ap entry_text entry_same in
    record {
      weak = weak_is;
      weak_digest = weak_d;
      paths = paths_is;
      strong = strong_is;
      strong_digest = strong_d;
      contents = contents
          ∙ ap (λ (x : Desc). desc_contents x ++ (given_contents bs ++ contents_of files)) he
          ∙ ap (λ (xs : List Answer). desc_contents f.desc ++ (given_contents xs ++ contents_of files)) hb
          ∙ ap (λ (fs : Files). desc_contents f.desc ++ (given_contents f.answers ++ contents_of fs)) hf;
      entry = entry_is;
      spelled = record {
        weak = ap read_weak_text (sym weak_is) ∙ weak_read ∙ ap (λ (x : Desc). Some (weak_parts x)) hd;
        paths = ap read_paths_text (sym paths_is) ∙ paths_read ∙ ap Some hp;
        entry = ap read_entry_text (sym entry_is) ∙ entry_read ∙ ap Some entry_same;
      };
    }
