-- The texts that an entry names, found or not.
use Rattle.std.proofs.Common.{◌≡◌, ℕ, Bool, List, length, Option, Some, None, Result, Ok, Err, IfOk, refl, sym, ap, ◌∙◌, subst}
use Rattle.std.specs.Prelude.{IfSome}
use Rattle.bx_io.specs.Holdings.{Holdings}
use Rattle.bx_io.specs.Told.{Stays}
use Rattle.observed.specs.Texts.{has_match}
use Rattle.observed.specs.declared.ask.Ask.{Ask}
use Rattle.prints.specs.Processes.{IsWeak, without_pips}
use Rattle.prints.specs.declared.strong_parts.AnswerLine.{AnswerLine}
use Rattle.prints.specs.declared.strong_parts.StrongParts.{StrongParts}
use Rattle.prints.specs.declared.weak_parts.WeakParts.{WeakParts}
use Rattle.memo_format.specs.declared.entry.Entry.{Entry}
use Rattle.content_store.specs.Contents.{IsContent}
use Rattle.content_store.proofs.HeldEntries.{none_and_some}
use Rattle.two_phase_meaning.specs.Contents.{HoldsPaths, HoldsStrong, HoldsWeak}
use Rattle.two_phase.specs.Finding.{FindsOne}
use Rattle.cache_care_check.specs.Judging.{AddsStrong, AreTexts}
use Rattle.cache_care_check.specs.declared.texts.EntryTexts.{EntryTexts}
use Rattle.cache_care_check.proofs.Deciding.{content_is, paths_is, strong_is, strong_with, weak_is}

-- ## One text

-- a text that says this is held under the digest
abbrev pub HoldsText : {X : Type 0} → (List ℕ → Option X) → Holdings → List ℕ → X → Type 0
HoldsText read S digest x = (text : List ℕ) × IsContent S digest text × (read text ≡ Some x)

-- what is read of the text that is held
pub text_found : {X E : Type 0} (read : List ℕ → Option X) (told : Option Holdings) (digest text bytes : List ℕ) (r : Result (Option X) E)
    → FindsOne told (λ S y. IsContent S digest y) (Some text) → bytes ≡ text → IfOk r (λ o. read bytes ≡ o)
    → IfOk r (FindsOne told (λ S x. HoldsText read S digest x))
text_found read told digest text bytes (Ok None) h same e = λ S is x there.
    none_and_some (read text) x (ap read (sym same) ∙ e) (ap read (content_is S digest text there.0 (h S is) there.1) ∙ there.2)
text_found read told digest text bytes (Ok (Some x)) h same e = λ S is. (text, h S is, ap read (sym same) ∙ e)
text_found read told digest text bytes (Err x) h same e = tt

pub no_text : {X : Type 0} (read : List ℕ → Option X) (told : Option Holdings) (digest : List ℕ)
    → FindsOne told (λ S y. IsContent S digest y) None → FindsOne told (λ S x. HoldsText read S digest x) None
no_text read told digest h = λ S is x there. h S is there.0 there.1

-- ## The strong text

-- it is of the version of the path set, names the other two texts, and has a line for each ask
abbrev pub IsOfEntry : Entry → List Ask → StrongParts → Type 0
IsOfEntry e paths p =
    (p.second ≡ has_match paths) × ((p.weak ≡ e.weak) × ((p.paths ≡ e.paths) × (length p.lines ≡ length paths)))

abbrev parts : Bool → List ℕ → List ℕ → List AnswerLine → StrongParts
parts second weak paths lines = record { second = second; weak = weak; paths = paths; lines = lines }

same_parts : (p : StrongParts) (e : Entry) (asks : List Ask) → p.second ≡ has_match asks → p.weak ≡ e.weak → p.paths ≡ e.paths
    → p ≡ strong_with e asks p.lines
same_parts p e asks s h k =
    ap (λ (b : Bool). parts b p.weak p.paths p.lines) s
    ∙ ap (λ (w : List ℕ). parts (has_match asks) w p.paths p.lines) h
    ∙ ap (λ (q : List ℕ). parts (has_match asks) e.weak q p.lines) k

abbrev texts_with : WeakParts → List Ask → List AnswerLine → EntryTexts
texts_with weak paths lines = record { weak = weak; paths = paths; lines = lines }

pub strong_added : (told : Option Holdings) (e : Entry) (weak : WeakParts) (paths : List Ask) (p : StrongParts)
    → FindsOne told (λ S q. HoldsStrong S e.strong q) (Some p) → IsOfEntry e paths p
    → FindsOne told (λ S t. AddsStrong S e weak paths t) (Some (texts_with weak paths p.lines))
strong_added told e weak paths p h of = λ S is. record {
  weak_is = refl;
  paths_are = refl;
  strong = subst (λ (q : StrongParts). HoldsStrong S e.strong q) (same_parts p e paths of.0 of.1.0 of.1.1.0) (h S is);
  one_each = of.1.1.1;
}

pub strong_left : (told : Option Holdings) (e : Entry) (weak : WeakParts) (paths : List Ask) (p : StrongParts)
    → FindsOne told (λ S q. HoldsStrong S e.strong q) (Some p) → (IsOfEntry e paths p → ⊥)
    → FindsOne told (λ S t. AddsStrong S e weak paths t) None
strong_left told e weak paths p h other = λ S is t a.
    let same : p ≡ strong_with e t.paths t.lines = strong_is S e.strong p (strong_with e t.paths t.lines) (h S is) a.strong in
    other (
      ap (λ (q : StrongParts). q.second) same ∙ ap has_match a.paths_are,
      (
        ap (λ (q : StrongParts). q.weak) same,
        (
          ap (λ (q : StrongParts). q.paths) same,
          ap (λ (q : StrongParts). length q.lines) same ∙ a.one_each ∙ ap (λ (asks : List Ask). length asks) a.paths_are,
        ),
      ),
    )

pub no_strong : (told : Option Holdings) (e : Entry) (weak : WeakParts) (paths : List Ask)
    → FindsOne told (λ S q. HoldsStrong S e.strong q) None → FindsOne told (λ S t. AddsStrong S e weak paths t) None
no_strong told e weak paths h = λ S is t a. h S is (strong_with e t.paths t.lines) a.strong

-- ## All three

pub no_weak_text : (told : Option Holdings) (e : Entry) → FindsOne told (λ S p. HoldsWeak S e.weak p) None
    → FindsOne told (λ S t. AreTexts S e t) None
no_weak_text told e h = λ S is t a. h S is t.weak a.weak

pub no_path_set : (told : Option Holdings) (e : Entry) → FindsOne told (λ S p. HoldsPaths S e.paths p) None
    → FindsOne told (λ S t. AreTexts S e t) None
no_path_set told e h = λ S is t a. h S is t.paths a.paths

pub texts_given : {E : Type 0} (first second third : Option Holdings) (e : Entry) (weak : WeakParts) (paths : List Ask)
    (r : Result (Option EntryTexts) E) → Stays first second → Stays second third → FindsOne first (λ S p. HoldsWeak S e.weak p) (Some weak)
    → FindsOne second (λ S p. HoldsPaths S e.paths p) (Some paths) → IfOk r (FindsOne third (λ S t. AddsStrong S e weak paths t))
    → IfOk r (FindsOne third (λ S t. AreTexts S e t))
texts_given first second third e weak paths (Err x) s t h k a = tt
texts_given first second third e weak paths (Ok None) s t h k a = λ S is x are.
    a S is x (record {
      weak_is = weak_is S e.weak x.weak weak are.weak (h S (s S (t S is)));
      paths_are = paths_is S e.paths x.paths paths are.paths (k S (t S is));
      strong = are.strong;
      one_each = are.one_each;
    })
texts_given first second third e weak paths (Ok (Some x)) s t h k a = λ S is.
    let b = a S is in
    record {
      weak = subst (HoldsWeak S e.weak) (sym b.weak_is) (h S (s S (t S is)));
      paths = subst (HoldsPaths S e.paths) (sym b.paths_are) (k S (t S is));
      strong = b.strong;
      one_each = b.one_each;
    }

-- what is known of texts, whatever is held
abbrev pub HasParts : WeakParts → List Ask → EntryTexts → Type 0
HasParts weak paths t = (t.weak ≡ weak) × ((t.paths ≡ paths) × (length t.lines ≡ length t.paths))

pub weak_given : {E : Type 0} (weak : WeakParts) (paths : List Ask) (r : Result (Option EntryTexts) E)
    → IsWeak weak × (without_pips weak ≡ weak) → IfOk r (λ o. IfSome o (HasParts weak paths))
    → IfOk r (λ o. IfSome o (λ t. IsWeak t.weak × (without_pips t.weak ≡ t.weak)))
weak_given weak paths (Err x) h k = tt
weak_given weak paths (Ok None) h k = tt
weak_given weak paths (Ok (Some t)) h k = subst (λ (w : WeakParts). IsWeak w × (without_pips w ≡ w)) (sym k.0) h

pub number_given : {E : Type 0} (weak : WeakParts) (paths : List Ask) (r : Result (Option EntryTexts) E)
    → IfOk r (λ o. IfSome o (HasParts weak paths)) → IfOk r (λ o. IfSome o (λ t. length t.lines ≡ length t.paths))
number_given weak paths (Err x) k = tt
number_given weak paths (Ok None) k = tt
number_given weak paths (Ok (Some t)) k = k.1.1
