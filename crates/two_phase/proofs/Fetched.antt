-- What is found under names, and that nothing else is.
use Rattle.std.proofs.Common.{◌≡◌, ℕ, true, List, [], Option, Some, None, Result, Ok, Err, IfOk, IfSome, Vec, Global, sym, ap, ◌∙◌, subst, inl, inr}
use Rattle.std.specs.FinMap.{get}
use Rattle.std.proofs.lemmas.Option.{same_Some}
use Rattle.sha2.specs.Sha256.{sha256}
use Rattle.bx_tree.specs.Trees.{Files}
use Rattle.bx_io.specs.Answers as held_names
use Rattle.bx_io.specs.Holdings.{Holdings}
use Rattle.bx_io.specs.Told.{Stays}
use Rattle.bx_io.specs.declared.keeper.Got.TheVariants as got
use Rattle.observed.specs.Texts.{read_paths_text}
use Rattle.observed.specs.declared.ask.Ask.{Ask}
use Rattle.pip_model_types.specs.declared.desc.Desc.{Desc}
use Rattle.memo_format.specs.Entries.{output_paths, read_entry_text}
use Rattle.memo_format.specs.Selectors.{read_selectors_text}
use Rattle.memo_format.specs.StoreNames.{HoldsList, at_blob, at_entry, at_list}
use Rattle.memo_format.specs.declared.entry.Entry.{Entry}
use Rattle.memo_format.specs.declared.entry.OutputLine.{OutputLine}
use Rattle.memo_format.specs.declared.selector.Selector.{Selector}
use Rattle.content_store.specs.Contents.{Fetches, IsContent}
use Rattle.content_store.specs.HeldEntries.{IsHeld}
use Rattle.content_store.proofs.HeldEntries.{another_entry, none_and_some}
use Rattle.content_store.specs.declared.content.Fetched.TheVariants as fetched
use Rattle.two_phase_meaning.specs.Contents.{HoldsPaths}
use Rattle.two_phase_meaning.specs.Saving.{or_none, selectors_in}
use Rattle.run_record.specs.Digests.{weak_of}
use Rattle.two_phase_meaning.specs.Usable.{fits}
use Rattle.memo_format.specs.PathsTexts.{IsPathsText, PathsText}
use Rattle.two_phase.specs.Putting.{IsListAt}
use Rattle.two_phase.specs.ReadSets.{IsEntryText, ReadsEntry, ReadsSet, ReadsText, entry_in}
use Rattle.two_phase.specs.declared.fetching.HeldEntry.{HeldEntry}
use Rattle.two_phase.specs.Finding.{AddsTo, FindsOne, IsEntryFor, PutsIn}

-- ## One thing is held under a name

pub one_content : (S : Holdings) (digest x y : List ℕ) → IsContent S digest x → IsContent S digest y → x ≡ y
one_content S digest x y h k = same_Some x y (sym h.held ∙ ap (λ d. get S (at_blob d)) (h.digest_is ∙ sym k.digest_is) ∙ k.held)

pub one_set : (S : Holdings) (digest : List ℕ) (a b : List Ask) → HoldsPaths S digest a → HoldsPaths S digest b → a ≡ b
one_set S digest a b h k = same_Some a b (sym h.2 ∙ ap read_paths_text (one_content S digest h.0 k.0 h.1 k.1) ∙ k.2)

pub one_list : (S : Holdings) (weak : List ℕ) (a b : List Selector) → HoldsList S weak a → HoldsList S weak b → a ≡ b
one_list S weak a b h k = same_Some a b (sym h.2 ∙ ap read_selectors_text (same_Some h.0 k.0 (sym h.1 ∙ k.1)) ∙ k.2)

pub one_entry : (S : Holdings) (strong : List ℕ) (a b : Entry) → IsHeld S strong a → IsHeld S strong b → a ≡ b
one_entry S strong a b h k =
    let there : get S (at_entry a.strong) ≡ get S (at_entry b.strong) = ap (λ d. get S (at_entry d)) (h.strong_is ∙ sym k.strong_is) in
    same_Some a b (sym h.held.2 ∙ ap read_entry_text (same_Some h.held.0 k.held.0 (sym h.held.1 ∙ there ∙ k.held.1)) ∙ k.held.2)

-- ## Contents

pub content_found : (held : Option Holdings) (digest x : List ℕ) → Fetches held digest (fetched.Found x) → FindsOne held (λ S y. IsContent S digest y) (Some x)
content_found held digest x h = h

pub no_content : (held : Option Holdings) (digest : List ℕ) → Fetches held digest fetched.NotWell → FindsOne held (λ S y. IsContent S digest y) None
no_content held digest h = h

-- a content that is put among files as a call answers it
pub put_given : {E : Type 0} (held : Option Holdings) (files : Files) (o : OutputLine) (bytes : List ℕ) (r : Result (Option Files) E)
    → FindsOne held (λ S y. IsContent S o.digest y) (Some bytes) → sha256 bytes ≡ o.digest → IfOk r (PutsIn files o.path bytes) → IfOk r (AddsTo held files o)
put_given held files o bytes (Ok (Some now)) h digest put = record { bytes = bytes; found = h; digest_is = digest; put = put }
put_given held files o bytes (Ok None) h digest put = inr (bytes, put)
put_given held files o bytes (Err e) h digest put = tt

pub no_put : (held : Option Holdings) (files : Files) (o : OutputLine) → FindsOne held (λ S y. IsContent S o.digest y) None → AddsTo held files o None
no_put held files o h = inl h

-- ## Path sets

-- a text of none
pub text_bad : (text : List ℕ) (asks : List Ask) → read_paths_text text ≡ None → read_paths_text text ≡ Some asks → ⊥
text_bad text asks none there = none_and_some (read_paths_text text) asks none there

-- that of bytes which have the digest
pub set_read : {E : Type 0} (bytes digest text : List ℕ) (r : Result (Option PathsText) E) → text ≡ bytes → sha256 bytes ≡ digest → IfOk r (ReadsText text)
    → IfOk r (ReadsSet bytes digest)
set_read bytes digest text (Ok None) same is h = λ asks e read. h asks (ap read_paths_text same ∙ read)
set_read bytes digest text (Ok (Some p)) same is h = (h.0, (h.1 ∙ same, h.0.digest_is ∙ ap sha256 (h.1 ∙ same) ∙ is))
set_read bytes digest text (Err e) same is h = tt

-- one that was read before
pub set_kept : (bytes slice digest : List ℕ) (o : Option PathsText) (p : PathsText) → slice ≡ bytes → o ≡ Some p
    → IfSome o (λ p. IsPathsText p × ((p.text ≡ slice) × (p.digest ≡ digest))) → ReadsSet bytes digest (Some p)
set_kept bytes slice digest o p same is h =
    let kept : IsPathsText p × ((p.text ≡ slice) × (p.digest ≡ digest)) =
    subst (λ (o : Option PathsText). IfSome o (λ p. IsPathsText p × ((p.text ≡ slice) × (p.digest ≡ digest)))) is h in
    (kept.0, (kept.1.0 ∙ same, kept.1.1))

-- as a call finds the bytes
pub set_held : {E : Type 0} (held : Option Holdings) (digest name : List ℕ) (bytes : Vec ℕ Global) (r : Result (Option PathsText) E) → name ≡ at_blob digest
    → held_names.Finds held name (got.Found bytes) → IfOk r (ReadsSet bytes.items digest) → IfOk r (FindsOne held (λ S (p : PathsText). HoldsPaths S digest p.asks))
set_held held digest name bytes (Ok None) named h read = λ S is p there.
    let same : bytes.items ≡ there.0 =
    same_Some bytes.items there.0 (sym (h S is) ∙ ap (get S) (named ∙ ap at_blob (sym there.1.digest_is)) ∙ there.1.held) in
    read p.asks (ap sha256 same ∙ there.1.digest_is) (ap read_paths_text same ∙ there.2)
set_held held digest name bytes (Ok (Some p)) named h read = λ S is.
    let digest_is : sha256 bytes.items ≡ digest = sym (ap sha256 read.1.0) ∙ sym read.0.digest_is ∙ read.1.1 in (
      bytes.items,
      record { held = ap (λ d. get S (at_blob d)) digest_is ∙ ap (get S) (sym named) ∙ h S is; digest_is = digest_is },
      ap read_paths_text (sym read.1.0) ∙ read.0.read,
    )
set_held held digest name bytes (Err x) named h read = tt

pub set_named : {E : Type 0} (bytes digest : List ℕ) (r : Result (Option PathsText) E) → IfOk r (ReadsSet bytes digest)
    → IfOk r (λ o. IfSome o (λ (p : PathsText). p.digest ≡ digest))
set_named bytes digest (Ok None) read = tt
set_named bytes digest (Ok (Some p)) read = read.1.1
set_named bytes digest (Err x) read = tt

pub no_set : (held : Option Holdings) (digest name : List ℕ) → name ≡ at_blob digest → held_names.Finds held name got.None
    → FindsOne held (λ S (p : PathsText). HoldsPaths S digest p.asks) None
no_set held digest name named h = λ S is p there.
    none_and_some (get S name) there.0 (h S is) (ap (get S) (named ∙ ap at_blob (sym there.1.digest_is)) ∙ there.1.held)

-- by its asks
pub set_asks : (held : Option Holdings) (digest : List ℕ) (p : PathsText) → FindsOne held (λ S (p : PathsText). HoldsPaths S digest p.asks) (Some p)
    → FindsOne held (λ S asks. HoldsPaths S digest asks) (Some p.asks)
set_asks held digest p h = h

pub no_asks : (held : Option Holdings) (digest : List ℕ) → FindsOne held (λ S (p : PathsText). HoldsPaths S digest p.asks) None
    → FindsOne held (λ S asks. HoldsPaths S digest asks) None
no_asks held digest h = λ S is asks. h S is (record { text = []; digest = []; asks = asks })

-- ## Entries

-- the entry of a text
pub entry_other : (text strong : List ℕ) (e other : Entry) → read_entry_text text ≡ Some e → (e.strong ≡ strong → ⊥) → read_entry_text text ≡ Some other
    → other.strong ≡ strong → ⊥
entry_other text strong e other read apart there is = another_entry text strong e other read apart there is

pub entry_bad : (text strong : List ℕ) (other : Entry) → read_entry_text text ≡ None → read_entry_text text ≡ Some other → other.strong ≡ strong → ⊥
entry_bad text strong other none there is = none_and_some (read_entry_text text) other none there

-- as a call finds the text
pub entry_held : {E : Type 0} (held : Option Holdings) (strong name : List ℕ) (text : Vec ℕ Global) (r : Result (Option HeldEntry) E) → name ≡ at_entry strong
    → held_names.Finds held name (got.Found text) → IfOk r (ReadsEntry text.items strong)
    → IfOk r (λ o. FindsOne held (λ S e. IsHeld S strong e) (entry_in o))
entry_held held strong name text (Ok None) named h read = λ S is e there.
    let same : text.items ≡ there.held.0 =
    same_Some text.items there.held.0 (sym (h S is) ∙ ap (get S) (named ∙ ap at_entry (sym there.strong_is)) ∙ there.held.1) in
    read e (ap read_entry_text same ∙ there.held.2) there.strong_is
entry_held held strong name text (Ok (Some e)) named h read = λ S is. record {
  held = (
    text.items,
    ap (λ s. get S (at_entry s)) read.1.1 ∙ ap (get S) (sym named) ∙ h S is,
    ap read_entry_text (sym read.1.0) ∙ read.0.1,
  );
  strong_is = read.1.1;
}
entry_held held strong name text (Err x) named h read = tt

pub entry_named : {E : Type 0} (text strong : List ℕ) (r : Result (Option HeldEntry) E) → IfOk r (ReadsEntry text strong)
    → IfOk r (λ o. IfSome o (λ (e : HeldEntry). IsEntryText e × (e.entry.strong ≡ strong)))
entry_named text strong (Ok None) read = tt
entry_named text strong (Ok (Some e)) read = (read.0, read.1.1)
entry_named text strong (Err x) read = tt

pub no_entry : (held : Option Holdings) (strong name : List ℕ) → name ≡ at_entry strong → held_names.Finds held name got.None
    → FindsOne held (λ S e. IsHeld S strong e) None
no_entry held strong name named h = λ S is e there.
    none_and_some (get S name) there.held.0 (h S is) (ap (get S) (named ∙ ap at_entry (sym there.strong_is)) ∙ there.held.1)

-- what an entry must be to be taken
abbrev pub IsTaken : Desc → Selector → Entry → Type 0
IsTaken d s e = (e.weak ≡ weak_of d) × ((e.paths ≡ s.paths) × (fits d.process (output_paths e.outputs) ≡ true))

pub entry_taken : (held : Option Holdings) (d : Desc) (s : Selector) (e : Entry) → FindsOne held (λ S x. IsHeld S s.strong x) (Some e) → IsTaken d s e
    → FindsOne held (λ S x. IsEntryFor S d s x) (Some e)
entry_taken held d s e h taken = λ S is. record { held = h S is; weak_is = taken.0; paths_are = taken.1.0; fit = taken.1.1 }

pub entry_left : (held : Option Holdings) (d : Desc) (s : Selector) (e : Entry) → FindsOne held (λ S x. IsHeld S s.strong x) (Some e) → (IsTaken d s e → ⊥)
    → FindsOne held (λ S x. IsEntryFor S d s x) None
entry_left held d s e h left = λ S is x there.
    left (subst (IsTaken d s) (one_entry S s.strong x e there.held (h S is)) (there.weak_is, (there.paths_are, there.fit)))

pub no_entry_for : (held : Option Holdings) (d : Desc) (s : Selector) → FindsOne held (λ S x. IsHeld S s.strong x) None → FindsOne held (λ S x. IsEntryFor S d s x) None
no_entry_for held d s h = λ S is x there. h S is x there.held

-- ## Lists of selectors

pub list_read : (held : Option Holdings) (weak name : List ℕ) (text : Vec ℕ Global) (list : Option (List Selector)) → name ≡ at_list weak
    → held_names.Finds held name (got.Found text) → read_selectors_text text.items ≡ list → FindsOne held (λ S l. HoldsList S weak l) list
list_read held weak name text None named h e = λ S is l there.
    let same : text.items ≡ there.0 = same_Some text.items there.0 (sym (h S is) ∙ ap (get S) named ∙ there.1) in
    none_and_some (read_selectors_text text.items) l e (ap read_selectors_text same ∙ there.2)
list_read held weak name text (Some l) named h e = λ S is. (text.items, ap (get S) (sym named) ∙ h S is, e)

-- as a call answers it
pub list_given : {E : Type 0} (held : Option Holdings) (weak name : List ℕ) (text : Vec ℕ Global) (bytes : List ℕ) (r : Result (Option (List Selector)) E) → name ≡ at_list weak
    → held_names.Finds held name (got.Found text) → bytes ≡ text.items → IfOk r (λ list. read_selectors_text bytes ≡ list)
    → IfOk r (FindsOne held (λ S l. HoldsList S weak l))
list_given held weak name text bytes (Ok list) named h same e = list_read held weak name text list named h (ap read_selectors_text (sym same) ∙ e)
list_given held weak name text bytes (Err x) named h same e = tt

pub no_list : (held : Option Holdings) (weak name : List ℕ) → name ≡ at_list weak → held_names.Finds held name got.None → FindsOne held (λ S l. HoldsList S weak l) None
no_list held weak name named h = λ S is l there. none_and_some (get S name) there.0 (h S is) (ap (get S) named ∙ there.1)

-- ## Lists for a save

pub held_text : (told : Option Holdings) (weak name : List ℕ) (text : Vec ℕ Global) (list : List Selector) → name ≡ at_list weak
    → held_names.Finds told name (got.Found text) → list ≡ or_none (read_selectors_text text.items) → IsListAt told weak list
held_text told weak name text list named h is = λ S tells. is ∙ ap selectors_in (sym (ap (get S) (sym named) ∙ h S tells))

-- as a call answers it
pub held_given : (told : Option Holdings) (weak name : List ℕ) (text : Vec ℕ Global) (bytes : List ℕ) (list : List Selector) → name ≡ at_list weak
    → held_names.Finds told name (got.Found text) → bytes ≡ text.items → list ≡ or_none (read_selectors_text bytes) → IsListAt told weak list
held_given told weak name text bytes list named h same is =
    held_text told weak name text list named h (is ∙ ap (λ t. or_none (read_selectors_text t)) same)

pub none_listed : (told : Option Holdings) (weak name : List ℕ) (list : List Selector) → name ≡ at_list weak → held_names.Finds told name got.None
    → list ≡ [] → IsListAt told weak list
none_listed told weak name list named h is = λ S tells. is ∙ ap selectors_in (sym (ap (get S) (sym named) ∙ h S tells))

-- what was found is so of what is still told
pub finds_on : {X : Type 0} (held now : Option Holdings) (P : Holdings → X → Type 0) (r : Option X) → Stays held now → FindsOne held P r → FindsOne now P r
finds_on held now P r stays h = λ S is. h S (stays S is)
