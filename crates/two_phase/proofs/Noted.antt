-- Contents that a store is known to hold.
use Rattle.std.proofs.Common.{◌==◌, ◌≡◌, ◌⊎◌, arith, ℕ, Bool, true, false, List, [], ◌∷◌, Option, Some, None, Result, Ok, Err, cond, refl, sym, ap, ◌∙◌, subst, inl, inr}
use Rattle.std.proofs.lemmas.Bool.{cases_Bool, eqb-false, eqb-true}
use Rattle.std.proofs.lemmas.Cmp.{eq_by_cmp_equiv, nat_cmp_total, nat_list_cmp_total}
use Rattle.std.specs.Cmp.{unsigned_ties}
use Rattle.std.proofs.lemmas.Slice.Eq.{bytes_eq-Decides}
use Rattle.std.specs.BTreeMap.{UpdatesBy}
use Rattle.std.specs.Cmp.Lexicographic.{slice_cmp}
use Rattle.std.specs.FinMap.{get, insert, get-insert}
use Rattle.std.specs.Map.{AreApart, IsKeyTest, KeepsOthers, lookup}
use Rattle.std.specs.Ordering.{eq_by_cmp, is_eq, nat_cmp}
use Rattle.std.specs.Prelude.{OnErr, OnOk}
use Rattle.std.specs.Str.{bytes_eq}
use Rattle.std.proofs.lemmas.Option.{same_Some}
use Rattle.bx_tree.proofs.TextTables.{text_put}
use Rattle.bx_tree.proofs.Lists.{texts_differ}
use Rattle.sha2.specs.Sha256.{sha256}
use Rattle.bx_io.specs.Holdings.{Holdings, Keeps, Makes, Put, StoreTold, held_in}
use Rattle.bx_io.specs.declared.keeper.PutFault.{PutFault}
use Rattle.bx_io.proofs.Changes.{keeps_all, makes_some}
use Rattle.bx_io.proofs.Mapped.{same_holdings}
use Rattle.memo_format.specs.StoreNames.{HoldsBlob, at_blob, at_entry, at_list}
use Rattle.content_store.specs.Contents.{IsContent, blob_put}
use Rattle.bx_digest.proofs.HashesAreDigests.{is_digest}
use Rattle.two_phase_meaning.proofs.Digests.{blob_no_entry, blob_no_list, same_blob_name}
use Rattle.two_phase_meaning.proofs.Puts.{still_there, there_now, same_name}
use Rattle.two_phase.specs.Applying.{Applies, IsNoOp}
use Rattle.two_phase.specs.Held.{AreHeld, IsNoted, Tracks, key_of, noted_at}
use Rattle.two_phase.specs.declared.held.HeldContents.{HeldContents}

-- ## The table

same_or_other : (a b : ℕ) → (a ≡ b) ⊎ (a ≡ b → ⊥)
same_or_other a b = elim (cases_Bool (a == b)) [
  | inl t ↦ inl (eqb-true a b t)
  | inr f ↦ inr (eqb-false a b f)
]

other_entries : {K X : Type 0} (eq : K → K → Bool) (test : K → Bool) (old new : List (K × X)) → KeepsOthers eq test old new → (other : K → Bool)
    → IsKeyTest eq other → AreApart test other → lookup other new ≡ lookup other old
unfolding KeepsOthers
other_entries eq test old new kept = kept

-- a number that differs from the key of an entry is not at it
apart : (key q k : ℕ) → (key ≡ q → ⊥) → is_eq (nat_cmp key k) ≡ true → is_eq (nat_cmp q k) ≡ false
apart key q k other y =
    let at : key ≡ k = eqb-true key k (unsigned_ties key k ∙ y) in
    elim (cases_Bool (q == k)) [
      | inl t ↦ absurd (other (at ∙ sym (eqb-true q k t)))
      | inr f ↦ sym (unsigned_ties q k) ∙ f
    ]

abbrev Updated : ℕ → HeldContents → HeldContents → Option (List ℕ) → Type 0
Updated key old new value = UpdatesBy nat_cmp (nat_cmp key) old.contents new.contents value

other_noted : (key : ℕ) (old new : HeldContents) (value : Option (List ℕ)) → Updated key old new value → (q : ℕ) → (key ≡ q → ⊥)
    → noted_at new q ≡ noted_at old q
other_noted key old new value h q other =
    other_entries _ _ old.contents.entries new.contents.entries h.3 (λ k. is_eq (nat_cmp q k)) (λ a b. (eq_by_cmp_equiv nat_cmp_total).congr q a b)
    (λ k. apart key q k other)

pub forgotten : (key : ℕ) (old new : HeldContents) → Updated key old new None → (content : List ℕ) → Tracks old new key content
forgotten key old new h content = record {
  here = λ other there. let none : noted_at new key ≡ None = h.1 in absurd cc;
  others = λ q apart. other_noted key old new None h q apart;
}

pub noted : (key : ℕ) (content value : List ℕ) (old new : HeldContents) → value ≡ content → Updated key old new (Some value) → Tracks old new key content
noted key content value old new same h = record {
  here = λ other there. same_Some other content (sym there ∙ h.1 ∙ ap Some same);
  others = λ q apart. other_noted key old new (Some value) h q apart;
}

pub unchanged : (old new : HeldContents) → new.contents.entries ≡ old.contents.entries → (q : ℕ) → noted_at new q ≡ noted_at old q
unchanged old new same q = ap (λ es. lookup (λ k. is_eq (nat_cmp q k)) es) same

pub on_err : {X E : Type 0} (P : Type 0) (r : Result X E) → P → OnErr r P
on_err P (Ok x) p = tt
on_err P (Err e) p = p

-- what is at the digest was taken out, and the content was noted there or not
pub noted_or_none : {E : Type 0} (key : ℕ) (content : List ℕ) (old between new : HeldContents) (r : Result (Unit {0}) E) → Tracks old between key content
    → OnOk r (Tracks between new key content) → OnErr r ((q : ℕ) → noted_at new q ≡ noted_at between q) → Tracks old new key content
noted_or_none key content old between new (Ok x) first next same = record {
  here = next.here;
  others = λ q apart. next.others q apart ∙ first.others q apart;
}
noted_or_none key content old between new (Err e) first next same = record {
  here = λ other there. first.here other (sym (same key) ∙ there);
  others = λ q apart. same q ∙ first.others q apart;
}

-- ## What is held

held_there : (b : Bool) (S : Holdings) (name bytes q : List ℕ) → eq_by_cmp (slice_cmp nat_cmp) q name ≡ b → get S name ≡ Some bytes
    → cond b (Some bytes) (get S q) ≡ get S q
held_there true S name bytes q e there = sym there ∙ ap (get S) (sym (same_name q name e))
held_there false S name bytes q e there = refl

-- a put of what is held changes nothing
put_again : (S : Holdings) (name bytes : List ℕ) → get S name ≡ Some bytes → insert S name bytes ≡ S
put_again S name bytes there =
    same_holdings (insert S name bytes) S
    (λ q. get-insert nat_list_cmp_total S name bytes q ∙ held_there (eq_by_cmp (slice_cmp nat_cmp) q name) S name bytes q refl there)

pub no_op : (told : Option Holdings) (h : HeldContents) (key : ℕ) (content : List ℕ) → AreHeld told h → noted_at h key ≡ Some content
    → IsNoOp told (blob_put content)
no_op told h key content held there = λ S is. put_again S (at_blob (sha256 content)) content (held S is key content there).held

pub left_out : (known : StoreTold) (h : HeldContents) (key : ℕ) (content : List ℕ) → AreHeld (held_in known) h → noted_at h key ≡ Some content
    → Applies known (blob_put content) known
left_out known h key content held there = inr (keeps_all known, no_op (held_in known) h key content held there)

-- nothing was put
pub held_still : (before now : StoreTold) (h : HeldContents) → Keeps before now → AreHeld (held_in before) h → AreHeld (held_in now) h
held_still before now h keeps held = λ S is. held S (keeps.held S is)

-- what is held after a content was put, which was noted or forgotten
held_after : (S : Holdings) (old new : HeldContents) (digest content : List ℕ) → digest ≡ sha256 content
    → ((q : ℕ) (x : List ℕ) → noted_at old q ≡ Some x → IsNoted S q x) → Tracks old new (key_of digest) content
    → (q : ℕ) (x : List ℕ) → noted_at new q ≡ Some x → IsNoted (insert S (at_blob (sha256 content)) content) q x
held_after S old new digest content is held notes q x there = elim (same_or_other (key_of digest) q) [
  | inl same ↦
      let new_one : x ≡ content = notes.here x (ap (noted_at new) same ∙ there) in
      record {
        held = subst (HoldsBlob (insert S (at_blob (sha256 content)) content)) (sym new_one) (there_now S (at_blob (sha256 content)) content);
        key_is = ap (λ (xs : List ℕ). key_of (sha256 xs)) new_one ∙ ap key_of (sym is) ∙ same;
      }
  | inr other ↦
      let old_one : IsNoted S q x = held q x (sym (notes.others q other) ∙ there) in
      record {
        held = still_there S (at_blob (sha256 content)) content (at_blob (sha256 x)) x
            (λ e. absurd (other (ap key_of (is ∙ sym (same_blob_name (sha256 x) (sha256 content) (is_digest x) (is_digest content) e)) ∙ old_one.key_is))) old_one.held;
        key_is = old_one.key_is;
      }
]

-- a content was put, and noted or forgotten
pub held_noted : (before now : StoreTold) (old new : HeldContents) (digest content : List ℕ) → digest ≡ sha256 content → AreHeld (held_in before) old
    → Makes before (blob_put content ∷ []) now → Tracks old new (key_of digest) content → AreHeld (held_in now) new
held_noted before now old new digest content is held put notes = λ S told.
    let from = makes_some before now (blob_put content ∷ []) S put told in
    subst (λ (T : Holdings). (q : ℕ) (x : List ℕ) → noted_at new q ≡ Some x → IsNoted T q x) from.2
    (held_after from.0 old new digest content is (held from.0 from.1) notes)

-- what is held after bytes were put that are no content
held_beside_put : (S : Holdings) (h : HeldContents) (name bytes : List ℕ) → ((digest : List ℕ) → at_blob digest ≡ name → ⊥)
    → ((q : ℕ) (x : List ℕ) → noted_at h q ≡ Some x → IsNoted S q x) → (q : ℕ) (x : List ℕ) → noted_at h q ≡ Some x → IsNoted (insert S name bytes) q x
held_beside_put S h name bytes none held q x there =
    let old_one : IsNoted S q x = held q x there in
    record {
      held = still_there S name bytes (at_blob (sha256 x)) x (λ e. absurd (none (sha256 x) e)) old_one.held;
      key_is = old_one.key_is;
    }

held_beside : (before now : StoreTold) (h : HeldContents) (name bytes : List ℕ) → ((digest : List ℕ) → at_blob digest ≡ name → ⊥) → AreHeld (held_in before) h
    → Makes before (Put name bytes ∷ []) now → AreHeld (held_in now) h
held_beside before now h name bytes none held put = λ S told.
    let from = makes_some before now (Put name bytes ∷ []) S put told in
    subst (λ (T : Holdings). (q : ℕ) (x : List ℕ) → noted_at h q ≡ Some x → IsNoted T q x) from.2
    (held_beside_put from.0 h name bytes none (held from.0 from.1))

-- an entry or a list was put
pub held_by_entry : (before now : StoreTold) (h : HeldContents) (strong bytes : List ℕ) → AreHeld (held_in before) h
    → Makes before (Put (at_entry strong) bytes ∷ []) now → AreHeld (held_in now) h
held_by_entry before now h strong bytes held put = held_beside before now h (at_entry strong) bytes (λ digest e. blob_no_entry digest strong e) held put

held_by_list : (before now : StoreTold) (h : HeldContents) (weak bytes : List ℕ) → AreHeld (held_in before) h
    → Makes before (Put (at_list weak) bytes ∷ []) now → AreHeld (held_in now) h
held_by_list before now h weak bytes held put = held_beside before now h (at_list weak) bytes (λ digest e. blob_no_list digest weak e) held put

pub held_then_list : (before now : StoreTold) (h : HeldContents) (weak bytes : List ℕ) (r : Result (Unit {0}) PutFault) → AreHeld (held_in before) h
    → OnOk r (Makes before (Put (at_list weak) bytes ∷ []) now) → OnErr r (Keeps before now) → AreHeld (held_in now) h
held_then_list before now h weak bytes (Ok x) held put refused = held_by_list before now h weak bytes held put
held_then_list before now h weak bytes (Err e) held put refused = held_still before now h refused held

-- nothing is noted
pub none_noted : (told : Option Holdings) (h : HeldContents) → h.contents.entries ≡ [] → AreHeld told h
none_noted told h none =
    λ S is q x there. let nothing : noted_at h q ≡ None = ap (λ es. lookup (λ k. is_eq (nat_cmp q k)) es) none in absurd cc

-- a content was put, and its bytes were said in another way
pub put_made : (before now : StoreTold) (bytes content : List ℕ) → bytes ≡ content → Makes before (blob_put bytes ∷ []) now → Applies before (blob_put content) now
put_made before now bytes content same made = inl (subst (λ (xs : List ℕ). Makes before (blob_put xs ∷ []) now) same made)

pub put_same : (before now : StoreTold) (bytes content : List ℕ) → bytes ≡ content → Makes before (blob_put bytes ∷ []) now → Makes before (blob_put content ∷ []) now
put_same before now bytes content same made = subst (λ (xs : List ℕ). Makes before (blob_put xs ∷ []) now) same made
