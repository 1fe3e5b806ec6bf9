-- What selectors lead to, one after another.
use Rattle.std.proofs.Common.{Bool, ◌≡◌, ℕ, ◌+◌, ◌<◌, ◌≤◌, List, [], ◌∷◌, length, get_or, drop, map, Option, Some, None, Result, Ok, Err, IfOk, IfSome, refl, sym, ap, ◌∙◌, subst, inl, inr}
use Rattle.std.specs.Prelude.{IsTrue}
use Rattle.std.proofs.lemmas.List.{length-map}
use Rattle.sha2.specs.Sha256.{sha256}
use Rattle.bx_tree.specs.Paths.{Atoms}
use Rattle.bx_io.specs.Holdings.{Holdings}
use Rattle.bx_io.specs.Told.{Stays}
use Rattle.observed.specs.Texts.{has_match}
use Rattle.observed.specs.declared.ask.Ask.{Ask}
use Rattle.observed.specs.declared.access.Answer.{Answer}
use Rattle.pip_model_types.specs.declared.desc.Desc.{Desc}
use Rattle.memo_format.specs.Entries.{output_paths}
use Rattle.memo_format.specs.Found.{FoundParts, found_parts}
use Rattle.memo_format.specs.PathsTexts.{PathsText}
use Rattle.memo_format.specs.StoreNames.{HoldsList}
use Rattle.memo_format.specs.declared.entry.Entry.{Entry}
use Rattle.prints.specs.Strong.{strong_parts, strong_text}
use Rattle.memo_format.specs.declared.selector.Selector.{Selector}
use Rattle.two_phase_meaning.specs.Contents.{HoldsPaths}
use Rattle.run_record.specs.Digests.{IsReadBack, weak_of}
use Rattle.two_phase_meaning.specs.Usable.{AnyUsable, UsableBy, asked_text, fits}
use Rattle.two_phase_meaning.proofs.FilesFit.{paths_lines}
use Rattle.two_phase.specs.Finding.{AreOutputs, FindsOne, HasParts, IsEntryFor, IsNamedBy, IsOf, IsOn, IsStrongMatch, IsWith}
use Rattle.two_phase.specs.Lookups.{FindsFirst, FindsUsable, IsCurrentHit, LeadsTo, LookupGives, Onward}
use Rattle.two_phase.specs.declared.lookups.LookupResult.TheVariants as lookup_results
use Rattle.two_phase.proofs.Fetched.{finds_on, one_entry, one_list, one_set}
use Rattle.two_phase.proofs.Outputs.{drop_past, next_of}

-- ## Found with one property, and so with another

pub ok_map : {X E : Type 0} (r : Result X E) (P Q : X → Type 0) → ((x : X) → P x → Q x) → IfOk r P → IfOk r Q
ok_map (Ok x) P Q f h = f x h
ok_map (Err e) P Q f h = tt

pub some_map : {X : Type 0} (r : Option X) (P Q : X → Type 0) → ((x : X) → P x → Q x) → IfSome r P → IfSome r Q
some_map (Some x) P Q f h = f x h
some_map None P Q f h = tt

-- ## One selector

pub with_found : (held : Option Holdings) (e : Entry) (asks : List Ask) (given : List Answer) (found : FoundParts)
    → FindsOne held (λ S fs. AreOutputs S e.outputs fs) (Some found.made) → found.entry ≡ e → found.paths ≡ asks → found.answers ≡ given
    → FindsOne held (λ S f. IsWith S e asks given f) (Some found)
with_found held e asks given found h entry_is asks_are given_are =
    λ S is. record { entry_is = entry_is; made = h S is; asks_are = asks_are; given_are = given_are }

pub no_outputs : (held : Option Holdings) (e : Entry) (asks : List Ask) (given : List Answer) → FindsOne held (λ S fs. AreOutputs S e.outputs fs) None
    → FindsOne held (λ S f. IsWith S e asks given f) None
no_outputs held e asks given h = λ S is f there. h S is f.made there.made

pub on_entry : (held now : Option Holdings) (d : Desc) (s : Selector) (e : Entry) (asks : List Ask) (given : List Answer) (r : Option FoundParts) → Stays held now
    → FindsOne held (λ S x. IsEntryFor S d s x) (Some e) → FindsOne now (λ S f. IsWith S e asks given f) r → FindsOne now (λ S f. IsOn S d s asks given f) r
on_entry held now d s e asks given None stays entry h =
    λ S is f there.
    let one : f.entry ≡ e = one_entry S s.strong f.entry e there.entry.held (entry S (stays S is)).held in
    h S is f (record {
      entry_is = one;
      made = subst (λ (x : Entry). AreOutputs S x.outputs f.made) one there.made;
      asks_are = there.asks_are;
      given_are = there.given_are;
    })
on_entry held now d s e asks given (Some f) stays entry h = λ S is. record {
  entry = subst (IsEntryFor S d s) (sym (h S is).entry_is) (entry S (stays S is));
  made = subst (λ (x : Entry). AreOutputs S x.outputs f.made) (sym (h S is).entry_is) (h S is).made;
  asks_are = (h S is).asks_are;
  given_are = (h S is).given_are;
}

pub on_given : {E : Type 0} (held now : Option Holdings) (d : Desc) (s : Selector) (e : Entry) (asks : List Ask) (given : List Answer)
    (r : Result (Option FoundParts) E) → Stays held now → FindsOne held (λ S x. IsEntryFor S d s x) (Some e) → IfOk r (FindsOne now (λ S f. IsWith S e asks given f))
    → IfOk r (FindsOne now (λ S f. IsOn S d s asks given f))
on_given held now d s e asks given (Ok found) stays entry h = on_entry held now d s e asks given found stays entry h
on_given held now d s e asks given (Err x) stays entry h = tt

pub no_entry_on : (held : Option Holdings) (d : Desc) (s : Selector) (asks : List Ask) (given : List Answer) → FindsOne held (λ S x. IsEntryFor S d s x) None
    → FindsOne held (λ S f. IsOn S d s asks given f) None
no_entry_on held d s asks given h = λ S is f there. h S is f.entry there.entry

-- the digest of the strong text of answers, by the entry that a selector names
pub strong_named : (asks : List Ask) (d : Desc) (s : Selector) (e : Entry) (given : List Answer) → IsNamedBy d s e
    → sha256 (strong_text (strong_parts (has_match asks) (weak_of d) s.paths given)) ≡ s.strong
    → sha256 (strong_text (strong_parts (has_match asks) e.weak e.paths given)) ≡ e.strong
strong_named asks d s e given named is =
    ap (λ w. sha256 (strong_text (strong_parts (has_match asks) w e.paths given))) named.weak_is
    ∙ ap (λ p. sha256 (strong_text (strong_parts (has_match asks) (weak_of d) p given))) named.paths_are
    ∙ is ∙ sym named.strong_is

-- the digest of the strong text that was written
pub one_digest : (p : PathsText) (d : Desc) (weak paths : List ℕ) (given : List Answer) (digest : List ℕ) → p.digest ≡ paths → weak ≡ weak_of d
    → digest ≡ sha256 (strong_text (strong_parts (has_match p.asks) weak p.digest given))
    → digest ≡ sha256 (strong_text (strong_parts (has_match p.asks) (weak_of d) paths given))
one_digest p d weak paths given digest paths_is weak_is is =
    is
    ∙ ap (λ w. sha256 (strong_text (strong_parts (has_match p.asks) w p.digest given))) weak_is
    ∙ ap (λ q. sha256 (strong_text (strong_parts (has_match p.asks) (weak_of d) q given))) paths_is

-- as it is written and hashed by a call
pub written_digest : (asks set : List Ask) (second : Bool) (weak paths named text digest : List ℕ) (given written : List Answer) → set ≡ asks → second ≡ has_match set
    → named ≡ paths → written ≡ given → text ≡ strong_text (strong_parts second weak named written) → digest ≡ sha256 text
    → digest ≡ sha256 (strong_text (strong_parts (has_match asks) weak paths given))
written_digest asks set second weak paths named text digest given written set_is second_is named_is given_is text_is is =
    is ∙ ap sha256 text_is
    ∙ ap (λ s. sha256 (strong_text (strong_parts s weak named written))) (second_is ∙ ap has_match set_is)
    ∙ ap (λ p. sha256 (strong_text (strong_parts (has_match asks) weak p written))) named_is
    ∙ ap (λ as'. sha256 (strong_text (strong_parts (has_match asks) weak paths as'))) given_is

pub asked_number : (asks : List Ask) (given : List Answer) (see : Ask → Answer) → given ≡ map see asks → length given ≡ length asks
asked_number asks given see is = ap length is ∙ length-map asks see

-- answers that are those of now, and give the strong digest
pub asked_found : (held : Option Holdings) (d : Desc) (see : Ask → Answer) (s : Selector) (asks : List Ask) (given : List Answer) (r : Option FoundParts)
    → given ≡ map see asks → sha256 (strong_text (strong_parts (has_match asks) (weak_of d) s.paths given)) ≡ s.strong
    → FindsOne held (λ S f. IsOn S d s asks given f) r → FindsOne held (λ S f. IsStrongMatch S d see s asks f) r
asked_found held d see s asks given r given_is asked h =
    by_found r (subst (λ as'. FindsOne held (λ S f. IsOn S d s asks as' f) r) given_is h)
  where
    now : sha256 (asked_text d see s.paths asks) ≡ s.strong
    now = ap (λ as'. sha256 (strong_text (strong_parts (has_match asks) (weak_of d) s.paths as'))) (sym given_is) ∙ asked

    by_found : (r : Option FoundParts) → FindsOne held (λ S f. IsOn S d s asks (map see asks) f) r → FindsOne held (λ S f. IsStrongMatch S d see s asks f) r
    by_found None h = λ S is f there. h S is f there.on
    by_found (Some f) h = λ S is. record { asked = now; on = h S is }

pub asked_given : {E : Type 0} (held : Option Holdings) (d : Desc) (see : Ask → Answer) (s : Selector) (asks : List Ask) (given : List Answer)
    (r : Result (Option FoundParts) E) → given ≡ map see asks → sha256 (strong_text (strong_parts (has_match asks) (weak_of d) s.paths given)) ≡ s.strong
    → IfOk r (FindsOne held (λ S f. IsOn S d s asks given f)) → IfOk r (FindsOne held (λ S f. IsStrongMatch S d see s asks f))
asked_given held d see s asks given (Ok found) given_is asked h = asked_found held d see s asks given found given_is asked h
asked_given held d see s asks given (Err x) given_is asked h = tt

pub not_asked : (held : Option Holdings) (d : Desc) (see : Ask → Answer) (s : Selector) (asks : List Ask) (given : List Answer)
    → given ≡ map see asks → (sha256 (strong_text (strong_parts (has_match asks) (weak_of d) s.paths given)) ≡ s.strong → ⊥)
    → FindsOne held (λ S f. IsStrongMatch S d see s asks f) None
not_asked held d see s asks given given_is other =
    λ S is f there. other (ap (λ as'. sha256 (strong_text (strong_parts (has_match asks) (weak_of d) s.paths as'))) given_is ∙ there.asked)

pub leads : (held now : Option Holdings) (d : Desc) (see : Ask → Answer) (s : Selector) (asks : List Ask) (r : Option FoundParts) → Stays held now
    → FindsOne held (λ S a. HoldsPaths S s.paths a) (Some asks) → FindsOne now (λ S f. IsStrongMatch S d see s asks f) r → FindsOne now (λ S f. LeadsTo S d see s f) r
leads held now d see s asks None stays paths h =
    λ S is f there.
    let u : UsableBy S d see s = there.usable in
    let one : u.asks ≡ asks = one_set S s.paths u.asks asks u.paths (paths S (stays S is)) in
    h S is (found_parts u.entry asks (map see asks) u.files) (record {
      asked = subst (λ (qs : List Ask). sha256 (asked_text d see s.paths qs) ≡ s.strong) one u.asked;
      on = record {
        entry = record { held = u.held; weak_is = u.weak_is; paths_are = u.paths_are; fit = u.fit };
        made = record { outputs_are = u.outputs; held = u.made; unnested = u.unnested };
        asks_are = refl;
        given_are = refl;
      };
    })
leads held now d see s asks (Some f) stays paths h =
    λ S is.
    let strong : IsStrongMatch S d see s asks f = h S is in
    record {
      usable = record {
        asks = asks;
        paths = paths S (stays S is);
        asked = strong.asked;
        entry = f.entry;
        held = strong.on.entry.held;
        weak_is = strong.on.entry.weak_is;
        paths_are = strong.on.entry.paths_are;
        fit = strong.on.entry.fit;
        unnested = strong.on.made.unnested;
        files = f.made;
        outputs = strong.on.made.outputs_are;
        made = strong.on.made.held;
      };
      entry_is = refl;
      asks_are = sym strong.on.asks_are;
      files_are = refl;
    }

pub leads_given : {E : Type 0} (held now : Option Holdings) (d : Desc) (see : Ask → Answer) (s : Selector) (asks : List Ask) (r : Result (Option FoundParts) E) → Stays held now
    → FindsOne held (λ S a. HoldsPaths S s.paths a) (Some asks) → IfOk r (FindsOne now (λ S f. IsStrongMatch S d see s asks f)) → IfOk r (FindsOne now (λ S f. LeadsTo S d see s f))
leads_given held now d see s asks (Ok found) stays paths h = leads held now d see s asks found stays paths h
leads_given held now d see s asks (Err x) stays paths h = tt

pub no_paths : (held : Option Holdings) (d : Desc) (see : Ask → Answer) (s : Selector) → FindsOne held (λ S a. HoldsPaths S s.paths a) None
    → FindsOne held (λ S f. LeadsTo S d see s f) None
no_paths held d see s h = λ S is f there. h S is there.usable.asks there.usable.paths

-- ## Lists of selectors

not_usable : (S : Holdings) (d : Desc) (see : Ask → Answer) (s : Selector) → ((f : FoundParts) → LeadsTo S d see s f → ⊥) → UsableBy S d see s → ⊥
not_usable S d see s none u =
    none (found_parts u.entry u.asks (map see u.asks) u.files) (record { usable = u; entry_is = refl; asks_are = refl; files_are = refl })

pub onward_start : (held : Option Holdings) (d : Desc) (see : Ask → Answer) (all : List Selector) → Onward held d see all all
onward_start held d see all = λ S is. (λ f h. h, λ a. a)

-- what leads on where something was told leads on where it is still told
pub onward_on : (held now : Option Holdings) (d : Desc) (see : Ask → Answer) (all rest : List Selector) → Stays held now → Onward held d see all rest → Onward now d see all rest
onward_on held now d see all rest stays on = λ S is. on S (stays S is)

pub onward_next : (held : Option Holdings) (d : Desc) (see : Ask → Answer) (all rest : List Selector) (s : Selector) → Onward held d see all (s ∷ rest)
    → FindsOne held (λ S f. LeadsTo S d see s f) None → Onward held d see all rest
onward_next held d see all rest s on none = λ S is. (
  λ f h. (on S is).0 f (inr (not_usable S d see s (none S is), h)),
  λ a. elim ((on S is).1 a) [ inl u ↦ absurd (not_usable S d see s (none S is) u) | inr r ↦ r ],
)

pub onward_found : (held : Option Holdings) (d : Desc) (see : Ask → Answer) (all rest : List Selector) (s : Selector) (f : FoundParts)
    → Onward held d see all (s ∷ rest) → FindsOne held (λ S f. LeadsTo S d see s f) (Some f) → FindsFirst held d see all (Some f)
onward_found held d see all rest s f on h = λ S is. (on S is).0 f (inl (h S is))

pub onward_end : (held : Option Holdings) (d : Desc) (see : Ask → Answer) (all : List Selector) → Onward held d see all [] → FindsFirst held d see all None
onward_end held d see all on = λ S is. (on S is).1

-- ## In a list

pub onward_at : (held now : Option Holdings) (d : Desc) (see view : Ask → Answer) (all : List Selector) (i : ℕ) (s : Selector) (r : Option FoundParts)
    → i < length all → s ≡ get_or all i s → Stays held now → view ≡ see → Onward held d see all (drop i all)
    → FindsOne now (λ S f. LeadsTo S d view s f) r → r ≡ None → Onward now d see all (drop (i + 1) all)
onward_at held now d see view all i s r l is stays seen on h e =
    onward_next now d see all (drop (i + 1) all) s
    (onward_on held now d see all (s ∷ drop (i + 1) all) stays (subst (Onward held d see all) (next_of all i s l is) on))
    (subst (λ o. FindsOne now (λ S f. LeadsTo S d see s f) o) e (subst (λ (v : Ask → Answer). FindsOne now (λ S f. LeadsTo S d v s f) r) seen h))

pub found_at : (held now : Option Holdings) (d : Desc) (see view : Ask → Answer) (all : List Selector) (i : ℕ) (s : Selector) (r : Option FoundParts) (f : FoundParts)
    → i < length all → s ≡ get_or all i s → Stays held now → view ≡ see → Onward held d see all (drop i all)
    → FindsOne now (λ S x. LeadsTo S d view s x) r → r ≡ Some f → FindsFirst now d see all (Some f)
found_at held now d see view all i s r f l is stays seen on h e =
    onward_found now d see all (drop (i + 1) all) s f
    (onward_on held now d see all (s ∷ drop (i + 1) all) stays (subst (Onward held d see all) (next_of all i s l is) on))
    (subst (λ o. FindsOne now (λ S x. LeadsTo S d see s x) o) e (subst (λ (v : Ask → Answer). FindsOne now (λ S x. LeadsTo S d v s x) r) seen h))

pub onward_past : (held : Option Holdings) (d : Desc) (see : Ask → Answer) (all : List Selector) (i : ℕ) → length all ≤ i → Onward held d see all (drop i all)
    → FindsFirst held d see all None
onward_past held d see all i l on = onward_end held d see all (subst (Onward held d see all) (drop_past all i l) on)

-- ## All that is held for a process

pub in_list : (held : Option Holdings) (d : Desc) (see : Ask → Answer) (list : List Selector) (found : Option FoundParts)
    → FindsOne held (λ S l. HoldsList S (weak_of d) l) (Some list) → FindsFirst held d see list found → FindsUsable held d see found
in_list held d see list None h none =
    λ S is u. none S is (subst (AnyUsable S d see) (one_list S (weak_of d) u.list list u.held (h S is)) u.any)
in_list held d see list (Some f) h first = λ S is. record { list = list; held = h S is; first = first S is }

pub list_tried : {E : Type 0} (held now : Option Holdings) (d : Desc) (see : Ask → Answer) (list : List Selector) (r : Result (Option FoundParts) E) → Stays held now
    → FindsOne held (λ S l. HoldsList S (weak_of d) l) (Some list) → IfOk r (FindsFirst now d see list) → IfOk r (FindsUsable now d see)
list_tried held now d see list (Ok found) stays h first = in_list now d see list found (finds_on held now (λ S l. HoldsList S (weak_of d) l) (Some list) stays h) first
list_tried held now d see list (Err x) stays h first = tt

pub no_list_for : (held : Option Holdings) (d : Desc) (see : Ask → Answer) → FindsOne held (λ S l. HoldsList S (weak_of d) l) None → FindsUsable held d see None
no_list_for held d see h = λ S is u. h S is u.list u.held

pub hit : (held : Option Holdings) (d : Desc) (see : Ask → Answer) (f : FoundParts) → FindsUsable held d see (Some f) → LookupGives held d see (lookup_results.Hit f)
hit held d see f h = h

pub miss : (held : Option Holdings) (d : Desc) (see : Ask → Answer) → FindsUsable held d see None → LookupGives held d see lookup_results.Miss
miss held d see h = h

pub fault : (held : Option Holdings) (d : Desc) (see : Ask → Answer) → LookupGives held d see lookup_results.Fault
fault held d see = λ S is. tt

pub memory : (held : Option Holdings) (d : Desc) (see : Ask → Answer) → LookupGives held d see lookup_results.Memory
memory held d see = λ S is. tt

-- ## Whatever is held

pub of_now : {E : Type 0} (d : Desc) (see : Ask → Answer) (asks : List Ask) (given : List Answer) (r : Result (Option FoundParts) E) → given ≡ map see asks
    → IfOk r (λ found. IfSome found (IsOf d asks given)) → IfOk r (λ found. IfSome found (IsCurrentHit d see))
of_now d see asks given (Ok (Some f)) is h = record {
  weak_is = h.weak_is;
  answers_are = h.given_are ∙ is ∙ ap (map see) (sym h.asks_are);
  fit = h.fit;
  unnested = h.unnested;
}
of_now d see asks given (Ok None) is h = tt
of_now d see asks given (Err e) is h = tt

pub now_spelled : {E : Type 0} (d : Desc) (see : Ask → Answer) (r : Result (Option FoundParts) E) → IsReadBack d → IfOk r (λ found. IfSome found (IsCurrentHit d see))
    → IfOk r (λ found. IfSome found (λ f. IsReadBack d × IsCurrentHit d see f))
now_spelled d see (Ok (Some f)) spells h = (spells, h)
now_spelled d see (Ok None) spells h = tt
now_spelled d see (Err e) spells h = tt

pub parts_of : {E : Type 0} (d : Desc) (e : Entry) (asks : List Ask) (given : List Answer) (r : Result (Option FoundParts) E) → e.weak ≡ weak_of d
    → IsTrue (fits d.process (output_paths e.outputs)) → IfOk r (λ found. IfSome found (HasParts e asks given)) → IfOk r (λ found. IfSome found (IsOf d asks given))
parts_of d e asks given (Ok (Some f)) is fit h = record {
  weak_is = ap (λ (x : Entry). x.weak) h.entry_is ∙ is;
  asks_are = h.asks_are;
  given_are = h.given_are;
  fit = subst (λ (ps : List Atoms). IsTrue (fits d.process ps)) (sym (ap output_paths h.lines_are) ∙ paths_lines f.made) fit;
  unnested = h.unnested;
}
parts_of d e asks given (Ok None) is fit h = tt
parts_of d e asks given (Err x) is fit h = tt
