-- What a store still has of what was found in it.
use Rattle.std.proofs.Common.{◌≡◌, ℕ, ◌+◌, ◌<◌, ◌≤◌, Bool, true, false, List, [], ◌∷◌, length, get_or, drop, Option, Some, Vec, Global, refl, sym, ap, ◌∙◌, subst, inl, inr}
use Rattle.std.specs.Prelude.{IsTrue}
use Rattle.std.specs.FinMap.{get}
use Rattle.std.specs.List.{list_any}
use Rattle.std.specs.Str.{bytes_eq}
use Rattle.std.proofs.lemmas.Bool.{and_parts, or_cases, false≢true}
use Rattle.std.proofs.lemmas.Slice.Eq.{bytes_eq-Decides}
use Rattle.sha2.specs.Sha256.{sha256}
use Rattle.bx_io.specs.Answers as held_names
use Rattle.bx_io.specs.Holdings.{Holdings}
use Rattle.bx_io.specs.Told.{Stays}
use Rattle.bx_io.specs.declared.keeper.Got.TheVariants as got
use Rattle.bx_tree.specs.Members.{Has}
use Rattle.bx_tree.specs.Trees.{Files, NoneNested, paths_of}
use Rattle.observed.specs.Texts.{has_match}
use Rattle.observed.specs.declared.ask.Ask.{Ask}
use Rattle.observed.specs.declared.access.Answer.{Answer}
use Rattle.pip_model_types.specs.Made.{RisingFiles, made_files}
use Rattle.pip_model_types.specs.declared.desc.Desc.{Desc}
use Rattle.pip_model_types.specs.declared.made.MadeFile.{MadeFile}
use Rattle.prints.specs.Strong.{strong_parts, strong_text}
use Rattle.memo_format.specs.Entries.{OutputsRise, output_paths, read_entry_text}
use Rattle.std.specs.List.Sorted.{IsStrictlySortedBy}
use Rattle.bx_tree.specs.Paths.{Atoms, path_cmp}
use Rattle.memo_format.specs.Found.{FoundParts, IsFound}
use Rattle.memo_format.specs.PathsTexts.{IsPathsText, PathsText}
use Rattle.memo_format.specs.StoreNames.{HoldsBlob, HoldsEntry, HoldsList, at_blob, at_entry}
use Rattle.memo_format.specs.declared.entry.Entry.{Entry}
use Rattle.memo_format.specs.declared.entry.OutputLine.{OutputLine}
use Rattle.memo_format.specs.declared.selector.Selector.{Selector}
use Rattle.run_record.specs.Collisions.{contents_of}
use Rattle.run_record.specs.Digests.{weak_of}
use Rattle.two_phase_meaning.specs.Contents.{HoldsAll, HoldsPaths}
use Rattle.two_phase_meaning.specs.Saving.{same_selector}
use Rattle.two_phase_meaning.specs.Usable.{fits}
use Rattle.two_phase_meaning.proofs.FilesFit.{paths_lines}
use Rattle.two_phase.specs.Finding.{FindsOne}
use Rattle.two_phase.specs.Kept.{IsKept, IsListed, entry_selector}
use Rattle.two_phase.specs.Lookups.{FirstLeadsTo, IsCurrentHit, LeadsIn, LeadsTo, LookupHits}
use Rattle.two_phase.proofs.Outputs.{drop_past, next_of}

-- ## Selectors

same_is : (a b : Selector) → same_selector a b ≡ true → b ≡ a
same_is a b h =
    let parts = and_parts (bytes_eq a.paths b.paths) (bytes_eq a.strong b.strong) h in
    let paths : a.paths ≡ b.paths = (bytes_eq-Decides a.paths b.paths).0 parts.0 in
    let strong : a.strong ≡ b.strong = (bytes_eq-Decides a.strong b.strong).0 parts.1 in
    sym (ap (λ (p : List ℕ). record { paths = p; strong = a.strong }) paths ∙ ap (λ (t : List ℕ). record { paths = b.paths; strong = t }) strong)

has_one : (s : Selector) (list : List Selector) → list_any (same_selector s) list ≡ true → Has list s
has_one s [] h = absurd (false≢true h)
has_one s (x ∷ xs) h = elim (or_cases (same_selector s x) (list_any (same_selector s) xs) h) [
  | inl here ↦ inl (same_is s x here)
  | inr later ↦ inr (has_one s xs later)
]

-- as a call answers it
pub listed_in : (held : Option Holdings) (e : Entry) (list : List Selector) (b : Bool) → FindsOne held (λ S l. HoldsList S e.weak l) (Some list)
    → b ≡ list_any (same_selector (entry_selector e)) list → IsTrue b → (S : Holdings) → held ≡ Some S → IsListed S e
listed_in held e list b h is it S told = (list, h S told, has_one (entry_selector e) list (sym is ∙ it))

-- ## Entries

pub entry_there : (held : Option Holdings) (e : Entry) (name text : List ℕ) (bytes : Vec ℕ Global) → name ≡ at_entry e.strong → read_entry_text text ≡ Some e
    → held_names.Finds held name (got.Found bytes) → bytes.items ≡ text → (S : Holdings) → held ≡ Some S → HoldsEntry S e
entry_there held e name text bytes named read h same S told = (bytes.items, ap (get S) (sym named) ∙ h S told, ap read_entry_text same ∙ read)

-- ## Contents

pub content_there : (held : Option Holdings) (digest name content : List ℕ) (bytes : Vec ℕ Global) → name ≡ at_blob digest → digest ≡ sha256 content
    → held_names.Finds held name (got.Found bytes) → bytes.items ≡ content → (S : Holdings) → held ≡ Some S → HoldsBlob S content
content_there held digest name content bytes named is h same S told =
    ap (λ d. get S (at_blob d)) (sym is) ∙ ap (get S) (sym named) ∙ h S told ∙ ap Some same

pub paths_there : (held : Option Holdings) (p : PathsText) → IsPathsText p → ((S : Holdings) → held ≡ Some S → HoldsBlob S p.text)
    → (S : Holdings) → held ≡ Some S → HoldsPaths S p.digest p.asks
paths_there held p is h S told = (p.text, record { held = h S told; digest_is = sym is.digest_is }, is.read)

-- ## Files

-- where the rest of the files is held, all are
abbrev pub LeavesToFind : Option Holdings → List MadeFile → List MadeFile → Type 0
LeavesToFind told all rest =
    (S : Holdings) → told ≡ Some S → HoldsAll S (contents_of (made_files rest)) → HoldsAll S (contents_of (made_files all))

pub files_start : (told : Option Holdings) (all : List MadeFile) → LeavesToFind told all all
files_start told all = λ S is h. h

pub files_at : (before now : Option Holdings) (all : List MadeFile) (i : ℕ) (f : MadeFile) → i < length all → f ≡ get_or all i f → Stays before now
    → ((S : Holdings) → now ≡ Some S → HoldsBlob S f.blob) → LeavesToFind before all (drop i all) → LeavesToFind now all (drop (i + 1) all)
files_at before now all i f l is stays here leaves = λ S told h.
    leaves S (stays S told) (subst (λ (fs : List MadeFile). HoldsAll S (contents_of (made_files fs))) (sym (next_of all i f l is)) (here S told, h))

pub files_past : (told : Option Holdings) (all : List MadeFile) (i : ℕ) → length all ≤ i → LeavesToFind told all (drop i all)
    → (S : Holdings) → told ≡ Some S → HoldsAll S (contents_of (made_files all))
files_past told all i l leaves S is = leaves S is (subst (λ (fs : List MadeFile). HoldsAll S (contents_of (made_files fs))) (sym (drop_past all i l)) tt)

-- ## All of it

pub kept_all : (h1 h2 h3 h4 : Option Holdings) (f : FoundParts) (p : PathsText) (files : List MadeFile) → Stays h1 h2 → Stays h2 h3 → Stays h3 h4
    → p.asks ≡ f.paths → p.digest ≡ f.entry.paths → made_files files ≡ f.made → ((S : Holdings) → h1 ≡ Some S → IsListed S f.entry)
    → ((S : Holdings) → h2 ≡ Some S → HoldsEntry S f.entry) → ((S : Holdings) → h3 ≡ Some S → HoldsPaths S p.digest p.asks)
    → ((S : Holdings) → h4 ≡ Some S → HoldsAll S (contents_of (made_files files))) → (S : Holdings) → h4 ≡ Some S → IsKept S f
kept_all h1 h2 h3 h4 f p files s12 s23 s34 asks digest made listed entry paths all S told =
    let told3 : h3 ≡ Some S = s34 S told in
    let told2 : h2 ≡ Some S = s23 S told3 in
    record {
      listed = listed S (s12 S told2);
      entry = entry S told2;
      paths = subst (λ (qs : List Ask). HoldsPaths S f.entry.paths qs) asks (subst (λ (d : List ℕ). HoldsPaths S d p.asks) digest (paths S told3));
      made = subst (λ (fs : Files). HoldsAll S (contents_of fs)) made (all S told);
    }

-- the outputs of what was found rise by path
pub found_rise : (f : FoundParts) → IsFound f → RisingFiles f.made → OutputsRise f.entry.outputs
found_rise f is rise =
    subst (λ (os : List OutputLine). OutputsRise os) is.made (subst (IsStrictlySortedBy path_cmp) (sym (paths_lines f.made)) rise)

pub found_paths : (f : FoundParts) → IsFound f → output_paths f.entry.outputs ≡ paths_of f.made
found_paths f is = ap output_paths (sym is.made) ∙ paths_lines f.made

-- ## What leads to it

-- what the store still has of this process, answered as now, is what a usable selector leads to
pub kept_leads : (S : Holdings) (d : Desc) (see : Ask → Answer) (f : FoundParts) → IsFound f → IsKept S f → IsCurrentHit d see f → LeadsIn S d see f
kept_leads S d see f is kept now = record {
  list = kept.listed.0;
  held = subst (λ (w : List ℕ). HoldsList S w kept.listed.0) now.weak_is kept.listed.1;
  selector = entry_selector f.entry;
  listed = kept.listed.2;
  leads = record {
    usable = record {
      asks = f.paths;
      paths = kept.paths;
      asked =
          ap (λ (given : List Answer). sha256 (strong_text (strong_parts (has_match f.paths) (weak_of d) f.entry.paths given))) (sym now.answers_are)
          ∙ ap (λ (w : List ℕ). sha256 (strong_text (strong_parts (has_match f.paths) w f.entry.paths f.answers))) (sym now.weak_is)
          ∙ is.strong;
      entry = f.entry;
      held = record { held = kept.entry; strong_is = refl };
      weak_is = now.weak_is;
      paths_are = refl;
      fit = subst (λ (ps : List Atoms). IsTrue (fits d.process ps)) (sym (found_paths f is)) now.fit;
      unnested = subst NoneNested (sym (found_paths f is)) is.unnested;
      files = f.made;
      outputs = is.made;
      made = kept.made;
    };
    entry_is = refl;
    asks_are = refl;
    files_are = refl;
  };
}

-- so is what a lookup finds
first_leads : (S : Holdings) (d : Desc) (see : Ask → Answer) (list : List Selector) (f : FoundParts) → FirstLeadsTo S d see list f
    → (s : Selector) × Has list s × LeadsTo S d see s f
first_leads S d see [] f h = absurd h
first_leads S d see (s ∷ rest) f h = elim h [
  | inl here ↦ (s, inl refl, here)
  | inr later ↦ let lead = first_leads S d see rest f later.1 in (lead.0, inr lead.1, lead.2)
]

pub hit_leads : (S : Holdings) (d : Desc) (see : Ask → Answer) (f : FoundParts) → LookupHits S d see f → LeadsIn S d see f
hit_leads S d see f h =
    let lead = first_leads S d see h.list f h.first in
    record { list = h.list; held = h.held; selector = lead.0; listed = lead.1; leads = lead.2 }
