-- A store holds one content under a digest at most, so what an entry names is one thing at most: without any premise on
-- collisions.
use Rattle.std.proofs.Common.{◌≡◌, ◌+◌, ℕ, List, [], ◌∷◌, length, map, Some, refl, sym, ap, subst, ◌∙◌}
use Rattle.std.specs.FinMap.{get}
use Rattle.std.proofs.lemmas.List.{length-map}
use Rattle.std.proofs.lemmas.Option.{same_Some}
use Rattle.sha2.specs.Sha256.{sha256}
use Rattle.bx_tree.specs.Trees.{Files}
use Rattle.bx_io.specs.Holdings.{Holdings}
use Rattle.pip_model_types.specs.declared.desc.Desc.{Desc}
use Rattle.observed.specs.Texts.{has_match, read_paths_text}
use Rattle.observed.specs.declared.ask.Ask.{Ask}
use Rattle.observed.specs.declared.access.Answer.{Answer}
use Rattle.tool_run.specs.Described.{described}
use Rattle.tool_run.specs.Description.{Description}
use Rattle.run_record.specs.Answered.{answered}
use Rattle.run_record.specs.Collisions.{NoCollision}
use Rattle.prints.specs.Processes.{weak_parts}
use Rattle.prints.specs.ReadWeak.{read_weak_text}
use Rattle.prints.specs.Strong.{line_of, read_strong_text}
use Rattle.prints.specs.declared.strong_parts.AnswerLine.{AnswerLine}
use Rattle.prints.specs.declared.strong_parts.StrongParts.{StrongParts}
use Rattle.prints.specs.declared.weak_parts.WeakParts.{WeakParts}
use Rattle.memo_format.specs.StoreNames.{HoldsBlob, at_blob}
use Rattle.memo_format.specs.declared.entry.Entry.{Entry}
use Rattle.content_store.specs.Contents.{IsContent}
use Rattle.two_phase_meaning.specs.Contents.{HoldsPaths, HoldsStrong, HoldsWeak}
use Rattle.two_phase_meaning.specs.Honest.{HonestEntry, IsGoodRun}
use Rattle.two_phase_meaning.proofs.Same.{same_answers, same_described}
use Rattle.cache_care_check.specs.Judging.{AreAnswersOf, AreTexts, IsDescOf, KeepsTexts}
use Rattle.cache_care_check.specs.declared.texts.EntryTexts.{EntryTexts}

-- ## One content under a digest

-- no two contents that a store holds have one digest
pub one_content : (S : Holdings) → NoCollision (HoldsBlob S)
one_content S x y h k e = same_Some x y (sym h ∙ ap (λ (d : List ℕ). get S (at_blob d)) e ∙ k)

pub content_is : (S : Holdings) (digest x y : List ℕ) → IsContent S digest x → IsContent S digest y → x ≡ y
content_is S digest x y h k = one_content S x y h.held k.held (h.digest_is ∙ sym k.digest_is)

-- ## One of each text

pub weak_is : (S : Holdings) (digest : List ℕ) (p q : WeakParts) → HoldsWeak S digest p → HoldsWeak S digest q → p ≡ q
weak_is S digest p q h k = same_Some p q (sym h.2 ∙ ap read_weak_text (content_is S digest h.0 k.0 h.1 k.1) ∙ k.2)

pub paths_is : (S : Holdings) (digest : List ℕ) (p q : List Ask) → HoldsPaths S digest p → HoldsPaths S digest q → p ≡ q
paths_is S digest p q h k = same_Some p q (sym h.2 ∙ ap read_paths_text (content_is S digest h.0 k.0 h.1 k.1) ∙ k.2)

pub strong_is : (S : Holdings) (digest : List ℕ) (p q : StrongParts) → HoldsStrong S digest p → HoldsStrong S digest q → p ≡ q
strong_is S digest p q h k = same_Some p q (sym h.2 ∙ ap read_strong_text (content_is S digest h.0 k.0 h.1 k.1) ∙ k.2)

-- ## What they name

-- the process of a weak text runs in one way
pub one_description : (S : Holdings) (parts : WeakParts) (c d : Desc) → IsDescOf S parts c → IsDescOf S parts d
    → described c ≡ described d
one_description S parts c d h k = same_described (HoldsBlob S) (one_content S) c d (h.0 ∙ sym k.0) h.1 k.1

pub one_answers : (S : Holdings) (lines : List AnswerLine) (a b : List Answer) → AreAnswersOf S lines a → AreAnswersOf S lines b
    → a ≡ b
one_answers S lines a b h k = same_answers (HoldsBlob S) (one_content S) a b (h.0 ∙ sym k.0) h.1 k.1

-- ## Honest entries

pub lines_length : (given : List Answer) → length (map line_of given) ≡ length given
lines_length given = length-map given line_of

abbrev pub strong_with : Entry → List Ask → List AnswerLine → StrongParts
strong_with e asks lines = record { second = has_match asks; weak = e.weak; paths = e.paths; lines = lines }

-- an entry whose texts are these is honest where the run on what they name gives its outputs
pub keeps_is_honest : (S : Holdings) (e : Entry) (t : EntryTexts) → AreTexts S e t → KeepsTexts S e t → HonestEntry S e
keeps_is_honest S e t a k = record {
  desc = k.desc;
  asks = t.paths;
  given = k.given;
  files = k.files;
  weak = subst (HoldsWeak S e.weak) (sym k.desc_is.0) a.weak;
  paths = a.paths;
  strong = subst (λ (ls : List AnswerLine). HoldsStrong S e.strong (strong_with e t.paths ls)) (sym k.given_are.0) a.strong;
  one_each = sym (lines_length k.given) ∙ ap (λ (ls : List AnswerLine). length ls) k.given_are.0 ∙ a.one_each;
  declared = k.desc_is.1;
  answers = k.given_are.1;
  made = k.made.1;
  outputs = k.made.0;
  run = k.run;
}

-- the texts of an honest entry
abbrev pub texts_in : {S : Holdings} {e : Entry} → HonestEntry S e → EntryTexts
texts_in h = record { weak = weak_parts h.desc; paths = h.asks; lines = map line_of h.given }

pub honest_has_texts : (S : Holdings) (e : Entry) (h : HonestEntry S e) → AreTexts S e (texts_in h)
honest_has_texts S e h = record {
  weak = h.weak;
  paths = h.paths;
  strong = h.strong;
  one_each = lines_length h.given ∙ h.one_each;
}

-- an honest entry's texts are these, and the run on what they name gives its outputs
pub honest_keeps : (S : Holdings) (e : Entry) (t : EntryTexts) → AreTexts S e t → HonestEntry S e → KeepsTexts S e t
honest_keeps S e t a h =
    let paths : h.asks ≡ t.paths = paths_is S e.paths h.asks t.paths h.paths a.paths in
    let strong : strong_with e h.asks (map line_of h.given) ≡ strong_with e t.paths t.lines =
    strong_is S e.strong (strong_with e h.asks (map line_of h.given)) (strong_with e t.paths t.lines) h.strong a.strong in
    record {
      desc = h.desc;
      given = h.given;
      files = h.files;
      desc_is = (weak_is S e.weak (weak_parts h.desc) t.weak h.weak a.weak, h.declared);
      given_are = (ap (λ (s : StrongParts). s.lines) strong, h.answers);
      run = subst (λ (asks : List Ask). IsGoodRun (described h.desc) (answered asks h.given) asks h.files) paths h.run;
      made = (h.outputs, h.made);
    }

-- what is found of the process and of the answers decides the run
pub run_of_found : (S : Holdings) (e : Entry) (t : EntryTexts) (d : Desc) (given : List Answer) → IsDescOf S t.weak d
    → AreAnswersOf S t.lines given → (k : KeepsTexts S e t) → IsGoodRun (described d) (answered t.paths given) t.paths k.files
run_of_found S e t d given h a k =
    subst (λ (x : Description). IsGoodRun x (answered t.paths given) t.paths k.files)
    (one_description S t.weak k.desc d k.desc_is h)
    (subst (λ (as' : List Answer). IsGoodRun (described k.desc) (answered t.paths as') t.paths k.files)
    (one_answers S t.lines k.given given k.given_are a) k.run)
