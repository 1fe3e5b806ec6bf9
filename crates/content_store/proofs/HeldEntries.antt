-- What is held under the name of an entry, and what a look under it answers.
use Rattle.std.proofs.Common.{◌≡◌, ℕ, List, Option, Some, None, Vec, Global, sym, ap, ◌∙◌, subst}
use Rattle.std.specs.FinMap.{get}
use Rattle.std.proofs.lemmas.Option.{same_Some}
use Rattle.bx_io.specs.Answers.{Finds}
use Rattle.bx_io.specs.Holdings.{Holdings}
use Rattle.bx_io.specs.declared.keeper.Got.TheVariants as got
use Rattle.memo_format.specs.Entries.{read_entry_text}
use Rattle.memo_format.specs.StoreNames.{at_entry}
use Rattle.memo_format.specs.declared.entry.Entry.{Entry}
use Rattle.content_store.specs.declared.entries.FetchedEntry.{FetchedEntry}
use Rattle.content_store.specs.declared.entries.FetchedEntry.TheVariants as fetched
use Rattle.content_store.specs.HeldEntries.{ChecksEntry, FetchesEntry, IsFetchedEntry, IsHeld}

pub none_and_some : {X : Type 0} (o : Option X) (x : X) → o ≡ None → o ≡ Some x → ⊥
none_and_some o x h k = let never : None ≡ Some x = sym h ∙ k in cc

-- a text of an entry of one digest is not that of one of another
pub another_entry : (text strong : List ℕ) (e other : Entry) → read_entry_text text ≡ Some e → (e.strong ≡ strong → ⊥)
    → read_entry_text text ≡ Some other → other.strong ≡ strong → ⊥
another_entry text strong e other h apart k same =
    apart (ap (λ (x : Entry). x.strong) (same_Some e other (sym h ∙ k)) ∙ same)

pub no_entry : (text strong : List ℕ) (other : Entry) → read_entry_text text ≡ None
    → read_entry_text text ≡ Some other → other.strong ≡ strong → ⊥
no_entry text strong other h k same = none_and_some (read_entry_text text) other h k

-- ## What a text under the name of a digest answers

held_text : (S : Holdings) (strong text : List ℕ) (answer : FetchedEntry) → get S (at_entry strong) ≡ Some text
    → ChecksEntry text strong answer → IsFetchedEntry S strong answer
held_text S strong text (fetched.Found e) h check = record {
  held = (text, subst (λ d. get S (at_entry d) ≡ Some text) (sym check.1.1) h, check.1.0);
  strong_is = check.1.1;
}
held_text S strong text fetched.NotWell h check =
    λ e there. check e
    (ap read_entry_text (same_Some text there.held.0 (sym h ∙ subst (λ d. get S (at_entry d) ≡ Some there.held.0) there.strong_is there.held.1))
    ∙ there.held.2)
    there.strong_is
held_text S strong text fetched.Fault h check = tt
held_text S strong text fetched.Memory h check = tt

no_text : (S : Holdings) (strong : List ℕ) → get S (at_entry strong) ≡ None → IsFetchedEntry S strong fetched.NotWell
no_text S strong h =
    λ e there. none_and_some (get S (at_entry strong)) there.held.0 h (subst (λ d. get S (at_entry d) ≡ Some there.held.0) there.strong_is there.held.1)

-- a text that is found answers what its check answers
pub held_entry : (held : Option Holdings) (strong name : List ℕ) (bytes : Vec ℕ Global) (answer : FetchedEntry)
    → name ≡ at_entry strong → Finds held name (got.Found bytes) → ChecksEntry bytes.items strong answer
    → FetchesEntry held strong answer
held_entry held strong name bytes answer named h check = λ S is.
    held_text S strong bytes.items answer (subst (λ n. get S n ≡ Some bytes.items) named (h S is)) check

-- where nothing is found, no entry is held
pub none_held : (held : Option Holdings) (strong name : List ℕ) → name ≡ at_entry strong → Finds held name got.None
    → FetchesEntry held strong fetched.NotWell
none_held held strong name named h = λ S is. no_text S strong (subst (λ n. get S n ≡ None) named (h S is))
