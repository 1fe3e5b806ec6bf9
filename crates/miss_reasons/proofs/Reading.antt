-- What is read of a store on the way to a reason.
use Rattle.std.proofs.Common.{◌≡◌, ℕ, ◌<◌, zero, suc, List, [], ◌∷◌, length, map, get_or, Option, Some, None, Result, Ok, Err, IfOk, inl, inr, refl, ap, sym, ◌∙◌, arith}
use Rattle.std.specs.Prelude.{slice_get}
use Rattle.std.specs.List.{AllByRecursion}
use Rattle.std.proofs.lemmas.Option.{same_Some}
use Rattle.sha2.specs.Sha256.{sha256}
use Rattle.bx_tree.specs.Paths.{Atoms}
use Rattle.bx_tree.specs.Trees.{Files}
use Rattle.bx_tree.specs.Members.{Has}
use Rattle.bx_io.specs.Holdings.{Holdings}
use Rattle.pip_model_types.specs.declared.desc.Desc.{Desc}
use Rattle.observed.specs.Texts.{read_paths_text}
use Rattle.observed.specs.declared.ask.Ask.{Ask}
use Rattle.observed.specs.declared.access.Answer.{Answer}
use Rattle.prints.specs.Strong.{line_of, read_strong_text}
use Rattle.prints.specs.declared.strong_parts.StrongParts.{StrongParts}
use Rattle.memo_format.specs.Found.{output_lines}
use Rattle.memo_format.specs.declared.entry.Entry.{Entry}
use Rattle.memo_format.specs.declared.entry.OutputLine.{OutputLine}
use Rattle.memo_format.specs.declared.selector.Selector.{Selector}
use Rattle.content_store.specs.Contents.{IsContent}
use Rattle.content_store.specs.HeldEntries.{IsHeld}
use Rattle.content_store.proofs.HeldEntries.{none_and_some}
use Rattle.run_record.specs.Collisions.{contents_of}
use Rattle.two_phase_meaning.specs.Contents.{HoldsAll, HoldsPaths, HoldsStrong}
use Rattle.two_phase_meaning.specs.Usable.{UsableBy, asked_text}
use Rattle.two_phase.specs.Finding.{FindsOne}
use Rattle.two_phase.proofs.Fetched.{one_content}
use Rattle.miss_reasons.specs.Finding.{HasContent, IsOther, IsTakenWhole}
use Rattle.miss_reasons.specs.Reasons.{AsksOther, IsNoFit}
use Rattle.miss_reasons.specs.declared.reason.NoFit.{NoFit}
use Rattle.miss_reasons.specs.declared.reason.NoFit.TheVariants as no_fits

-- ## Path sets

set_read : (held : Option Holdings) (digest text : List ℕ) (set : Option (List Ask)) → FindsOne held (λ S y. IsContent S digest y) (Some text)
    → read_paths_text text ≡ set → FindsOne held (λ S asks. HoldsPaths S digest asks) set
set_read held digest text None h e = λ S is asks there.
    none_and_some (read_paths_text text) asks e (ap read_paths_text (one_content S digest text there.0 (h S is) there.1) ∙ there.2)
set_read held digest text (Some asks) h e = λ S is. (text, h S is, e)

-- as a call answers it
pub set_given : {E : Type 0} (held : Option Holdings) (digest text bytes : List ℕ) (r : Result (Option (List Ask)) E) → FindsOne held (λ S y. IsContent S digest y) (Some text)
    → bytes ≡ text → IfOk r (λ set. read_paths_text bytes ≡ set) → IfOk r (FindsOne held (λ S asks. HoldsPaths S digest asks))
set_given held digest text bytes (Ok set) h same e = set_read held digest text set h (ap read_paths_text (sym same) ∙ e)
set_given held digest text bytes (Err x) h same e = tt

pub no_set : (held : Option Holdings) (digest : List ℕ) → FindsOne held (λ S y. IsContent S digest y) None → FindsOne held (λ S asks. HoldsPaths S digest asks) None
no_set held digest h = λ S is asks there. h S is there.0 there.1

-- ## Strong texts

strong_read : (held : Option Holdings) (digest text : List ℕ) (parts : Option StrongParts) → FindsOne held (λ S y. IsContent S digest y) (Some text)
    → read_strong_text text ≡ parts → FindsOne held (λ S p. HoldsStrong S digest p) parts
strong_read held digest text None h e = λ S is p there.
    none_and_some (read_strong_text text) p e (ap read_strong_text (one_content S digest text there.0 (h S is) there.1) ∙ there.2)
strong_read held digest text (Some p) h e = λ S is. (text, h S is, e)

-- as a call answers it
pub strong_given : {E : Type 0} (held : Option Holdings) (digest text bytes : List ℕ) (r : Result (Option StrongParts) E) → FindsOne held (λ S y. IsContent S digest y) (Some text)
    → bytes ≡ text → IfOk r (λ parts. read_strong_text bytes ≡ parts) → IfOk r (FindsOne held (λ S p. HoldsStrong S digest p))
strong_given held digest text bytes (Ok parts) h same e = strong_read held digest text parts h (ap read_strong_text (sym same) ∙ e)
strong_given held digest text bytes (Err x) h same e = tt

pub no_strong : (held : Option Holdings) (digest : List ℕ) → FindsOne held (λ S y. IsContent S digest y) None → FindsOne held (λ S p. HoldsStrong S digest p) None
no_strong held digest h = λ S is parts there. h S is there.0 there.1

-- ## Answers

get_mapped : {X Y : Type 0} (f : X → Y) (xs : List X) (i : ℕ) (x : X) → slice_get xs i ≡ Some x → slice_get (map f xs) i ≡ Some (f x)
get_mapped f [] i x e = cc
get_mapped f (y ∷ ys) zero x e = ap (λ z. Some (f z)) (same_Some y x e)
get_mapped f (y ∷ ys) (suc i) x e = get_mapped f ys i x e

-- an answer that is another is so of the view
pub answered_no_fit : (S : Holdings) (d : Desc) (see : Ask → Answer) (s : Selector) (asks : List Ask) (given : List Answer) (why : NoFit) → AsksOther S d see s asks
    → given ≡ map see asks → IsOther S s asks given why → IsNoFit S d see s why
answered_no_fit S d see s asks given no_fits.NoPaths h k o = absurd o
answered_no_fit S d see s asks given (no_fits.Answered ask line now names) h k (at, stored) =
    let other = at.other in
    let first = other.first in
    let there : slice_get given other.place ≡ Some (see ask) = ap (λ (as' : List Answer). slice_get as' other.place) k ∙ get_mapped see asks other.place ask other.asked in
    let is_now : first.answer ≡ see ask = same_Some first.answer (see ask) (sym first.given_is ∙ there) in (
      asks,
      h,
      record {
        strong = at.strong;
        held = at.held;
        place = other.place;
        asked = other.asked;
        stored = first.stored ∙ ap Some other.line_is;
        differs = λ e. first.differs (other.line_is ∙ e ∙ ap line_of (sym is_now));
        before = λ i q l e. first.before i (see q) l (ap (λ (as' : List Answer). slice_get as' i) k ∙ get_mapped see asks i q e);
      },
      sym other.answer_is ∙ is_now,
      stored,
    )
answered_no_fit S d see s asks given no_fits.AnsweredOtherwise h k o = (asks, h)
answered_no_fit S d see s asks given no_fits.NoEntry h k o = absurd o
answered_no_fit S d see s asks given no_fits.OtherEntry h k o = absurd o
answered_no_fit S d see s asks given (no_fits.NoOutput output) h k o = absurd o

-- ## Outputs

abbrev pub line_at : Atoms → List ℕ → OutputLine
line_at path digest = record { path = path; digest = digest }

-- the files of outputs that are held
record HeldFiles (S : Holdings) (outputs : List OutputLine) : Type 0 where
  files : Files
  lines : output_lines files ≡ outputs
  held : HoldsAll S (contents_of files)

held_files : (S : Holdings) (outputs : List OutputLine) → AllByRecursion (HasContent S) outputs → HeldFiles S outputs
held_files S [] h = record { files = []; lines = refl; held = tt }
held_files S (o ∷ rest) h =
    let more = held_files S rest h.1 in
    let line : line_at o.path (sha256 h.0.0) ≡ o = ap (line_at o.path) h.0.1.digest_is in
    record {
      files = (o.path, h.0.0) ∷ more.files;
      lines = ap (λ (x : OutputLine). x ∷ output_lines more.files) line ∙ ap (λ (xs : List OutputLine). o ∷ xs) more.lines;
      held = (h.0.1.held, more.held);
    }

-- an entry that may be taken, with all its outputs, makes its selector usable
pub whole_usable : (S : Holdings) (d : Desc) (see : Ask → Answer) (s : Selector) (asks : List Ask) (e : Entry) → HoldsPaths S s.paths asks
    → sha256 (asked_text d see s.paths asks) ≡ s.strong → IsHeld S s.strong e → IsTakenWhole S d s e → UsableBy S d see s
whole_usable S d see s asks e paths asked held whole =
    let made = held_files S e.outputs whole.1 in
    record {
      asks = asks;
      paths = paths;
      asked = asked;
      entry = e;
      held = held;
      weak_is = whole.0.0;
      paths_are = whole.0.1;
      fit = whole.0.2;
      unnested = whole.0.3;
      files = made.files;
      outputs = made.lines;
      made = made.held;
    }

pub has_at : {X : Type 0} (xs : List X) (i : ℕ) (d : X) → i < length xs → Has xs (get_or xs i d)
has_at [] i d l = absurd (omega (arith, l))
has_at (x ∷ xs) zero d l = inl refl
has_at (x ∷ xs) (suc i) d l = inr (has_at xs i d (omega (arith, l)))
