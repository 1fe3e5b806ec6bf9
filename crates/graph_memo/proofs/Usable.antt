-- Which entries are usable.
use Rattle.std.proofs.Common.{◌≡◌, ℕ, Bool, true, false, List, [], ◌∷◌, ◌++◌, map, Option, Some, None, Result, Ok, Err, Vec, Global, refl, sym, ap, ◌∙◌, subst, true≢false}
use Rattle.std.specs.Prelude.{◌↔◌, IfOk, IfSome, is_some}
use Rattle.std.specs.List.{AllByRecursion}
use Rattle.std.proofs.lemmas.List.{map-append}
use Rattle.std.proofs.lemmas.Option.{same_Some}
use Rattle.std.specs.FinMap.{get}
use Rattle.sha2.specs.Sha256.{sha256}
use Rattle.bx_io.specs.Answers as held_names
use Rattle.bx_io.specs.Holdings.{Holdings}
use Rattle.bx_io.specs.Told.{Stays}
use Rattle.bx_io.specs.declared.keeper.Got.TheVariants as got
use Rattle.bx_tree.proofs.Lists.{all_append, all_back, all_front}
use Rattle.bx_tree.specs.Paths.{Atoms}
use Rattle.bx_tree.specs.Trees.{Files}
use Rattle.dscript_names.specs.ProjectFiles.{paths_of_modules}
use Rattle.dscript_program.specs.Workspaces.{modules_data, modules_of}
use Rattle.dscript_program.specs.declared.workspace.ModuleText.{ModuleText}
use Rattle.dscript_program.specs.declared.workspace.Workspace.{Workspace}
use Rattle.dscript_sdk_calls.specs.Sources.{Answers, tree_answers}
use Rattle.dscript_sdk_calls.specs.declared.tree_ask.TreeAsk.{TreeAsk}
use Rattle.pip_model_types.specs.declared.pip.Pip.{Pip}
use Rattle.content_store.specs.Contents.{IsContent}
use Rattle.memo_format.specs.StoreNames.{at_blob, at_entry}
use Rattle.graph_texts.specs.Asks.{ask_with}
use Rattle.graph_texts.specs.Entries.{IsGraphEntry, graph_entry_text}
use Rattle.graph_texts.specs.Keys.{text_at}
use Rattle.graph_texts.specs.Listings.{listing_text}
use Rattle.graph_texts.specs.declared.asks.AskLine.{AskLine}
use Rattle.graph_texts.specs.declared.entry.GraphEntry.{GraphEntry}
use Rattle.graph_texts.proofs.EntryTexts.{same_entries}
use Rattle.two_phase.specs.Finding.{FindsOne}
use Rattle.graph_memo_meaning.specs.Contents.{HoldsDigest, asks_of, key_of, line_for, listing_texts, spec_texts}
use Rattle.graph_memo_meaning.specs.Usable.{UsableGraph}
use Rattle.graph_memo_meaning.specs.Work.{Work, own_answers}
use Rattle.graph_memo.specs.Finding.{ChecksGraph, Decides, DecidesUsable, FindsGraph, HoldsModule, HoldsSpec, IsAnswered, IsEntryOf, work_of}
use Rattle.graph_memo.specs.declared.finding.GraphFound.TheVariants as found_as

-- ## Specifications

specs_held : (G : Holdings) (s : Files) (paths : List Atoms) → AllByRecursion (HoldsSpec s G) paths
    → AllByRecursion (HoldsDigest G) (map sha256 (map (text_at s) paths))
specs_held G s [] h = tt
specs_held G s (p ∷ ps) h = (h.0, specs_held G s ps h.1)

held_specs : (G : Holdings) (s : Files) (paths : List Atoms) → AllByRecursion (HoldsDigest G) (map sha256 (map (text_at s) paths))
    → AllByRecursion (HoldsSpec s G) paths
held_specs G s [] h = tt
held_specs G s (p ∷ ps) h = (h.0, held_specs G s ps h.1)

modules_flat : (G : Holdings) (s : Files) (modules : List ModuleText) → AllByRecursion (HoldsModule s G) modules
    → AllByRecursion (HoldsSpec s G) (paths_of_modules (modules_data modules))
modules_flat G s [] h = tt
modules_flat G s (m ∷ ms) h =
    all_append (HoldsSpec s G) m.files.items (paths_of_modules (modules_data ms)) h.0 (modules_flat G s ms h.1)

flat_modules : (G : Holdings) (s : Files) (modules : List ModuleText) → AllByRecursion (HoldsSpec s G) (paths_of_modules (modules_data modules))
    → AllByRecursion (HoldsModule s G) modules
flat_modules G s [] h = tt
flat_modules G s (m ∷ ms) h = (
  all_front (HoldsSpec s G) m.files.items (paths_of_modules (modules_data ms)) h,
  flat_modules G s ms (all_back (HoldsSpec s G) m.files.items (paths_of_modules (modules_data ms)) h),
)

-- ## Answers

same_lines : (answers : Answers) (G : Holdings) (lines : List AskLine) → AllByRecursion (IsAnswered answers G) lines
    → map (line_for answers) (map (λ (a : AskLine). a.ask) lines) ≡ lines
same_lines answers G [] h = refl
same_lines answers G (l ∷ ls) h =
    ap (λ x. x ∷ map (line_for answers) (map (λ (a : AskLine). a.ask) ls)) h.0.same ∙ ap (λ xs. l ∷ xs) (same_lines answers G ls h.1)

listings_held : (answers : Answers) (G : Holdings) (lines : List AskLine) → AllByRecursion (IsAnswered answers G) lines
    → AllByRecursion (HoldsDigest G) (map sha256 (listing_texts answers (map (λ (a : AskLine). a.ask) lines)))
listings_held answers G [] h = tt
listings_held answers G (l ∷ ls) h =
    (subst (HoldsDigest G) (sym (ap (λ (a : AskLine). a.listing) h.0.same)) h.0.held, listings_held answers G ls h.1)

are_answered : (answers : Answers) (G : Holdings) (lines : List AskLine) → map (line_for answers) (map (λ (a : AskLine). a.ask) lines) ≡ lines
    → AllByRecursion (HoldsDigest G) (map sha256 (listing_texts answers (map (λ (a : AskLine). a.ask) lines)))
    → AllByRecursion (IsAnswered answers G) lines
are_answered answers G [] same h = tt
are_answered answers G (l ∷ ls) same h =
    let one : line_for answers l.ask ≡ l = cc in
    let more : map (line_for answers) (map (λ (a : AskLine). a.ask) ls) ≡ ls = cc in (
      record { same = one; held = subst (HoldsDigest G) (ap (λ (a : AskLine). a.listing) one) h.0 },
      are_answered answers G ls more h.1,
    )

-- ## An entry

texts_of : (w : Work) (G : Holdings) (asks : List TreeAsk) → HoldsDigest G (sha256 (key_of w))
    → AllByRecursion (HoldsDigest G) (map sha256 (spec_texts w)) → AllByRecursion (HoldsDigest G) (map sha256 (listing_texts (own_answers w) asks))
    → AllByRecursion (HoldsDigest G) (map sha256 (key_of w ∷ (spec_texts w ++ listing_texts (own_answers w) asks)))
texts_of w G asks key specs listings = (
  key,
  subst (AllByRecursion (HoldsDigest G)) (sym (map-append sha256 (spec_texts w) (listing_texts (own_answers w) asks)))
      (all_append (HoldsDigest G) (map sha256 (spec_texts w)) (map sha256 (listing_texts (own_answers w) asks)) specs listings),
)

abbrev with_parts : List ℕ → List AskLine → List Pip → GraphEntry
with_parts key asks pips = record { key = key; asks = asks; pips = pips }

-- an entry of this key is usable where all that it names is held and answered
pub is_usable : (G : Holdings) (work : Workspace) (tree : Files) (budget : ℕ) (e : GraphEntry) → e.key ≡ sha256 (key_of (work_of work tree budget))
    → HoldsDigest G e.key → AllByRecursion (HoldsModule tree G) work.modules.items → AllByRecursion (IsAnswered (tree_answers tree) G) e.asks
    → IsEntryOf G e.key e → UsableGraph G (work_of work tree budget) e
is_usable G work tree budget e key_is key specs answered is =
    let w = work_of work tree budget in
    record {
      held = is.held;
      entry_is =
          ap (λ (k : List ℕ). with_parts k (map (line_for (own_answers w)) (asks_of e)) e.pips) (sym key_is)
          ∙ ap (λ (a : List AskLine). with_parts e.key a e.pips) (same_lines (tree_answers tree) G e.asks answered);
      texts =
          texts_of w G (asks_of e) (subst (HoldsDigest G) key_is key)
          (specs_held G tree (paths_of_modules (modules_of work)) (modules_flat G tree work.modules.items specs))
          (listings_held (tree_answers tree) G e.asks answered);
    }

-- and a usable one has all of these
pub usable_key : (G : Holdings) (work : Workspace) (tree : Files) (budget : ℕ) (e : GraphEntry) → UsableGraph G (work_of work tree budget) e
    → sha256 (key_of (work_of work tree budget)) ≡ e.key
usable_key G work tree budget e u = ap (λ (x : GraphEntry). x.key) u.entry_is

pub usable_key_held : (G : Holdings) (work : Workspace) (tree : Files) (budget : ℕ) (e : GraphEntry) → UsableGraph G (work_of work tree budget) e
    → HoldsDigest G e.key
usable_key_held G work tree budget e u = subst (HoldsDigest G) (usable_key G work tree budget e u) u.texts.0

later_texts : (w : Work) (G : Holdings) (e : GraphEntry) → UsableGraph G w e
    → AllByRecursion (HoldsDigest G) (map sha256 (spec_texts w) ++ map sha256 (listing_texts (own_answers w) (asks_of e)))
later_texts w G e u =
    subst (AllByRecursion (HoldsDigest G)) (map-append sha256 (spec_texts w) (listing_texts (own_answers w) (asks_of e))) u.texts.1

pub usable_specs : (G : Holdings) (work : Workspace) (tree : Files) (budget : ℕ) (e : GraphEntry) → UsableGraph G (work_of work tree budget) e
    → AllByRecursion (HoldsModule tree G) work.modules.items
usable_specs G work tree budget e u =
    let w = work_of work tree budget in
    flat_modules G tree work.modules.items
    (held_specs G tree (paths_of_modules (modules_of work))
    (all_front (HoldsDigest G) (map sha256 (spec_texts w)) (map sha256 (listing_texts (own_answers w) (asks_of e))) (later_texts w G e u)))

pub usable_answers : (G : Holdings) (work : Workspace) (tree : Files) (budget : ℕ) (e : GraphEntry) → UsableGraph G (work_of work tree budget) e
    → AllByRecursion (IsAnswered (tree_answers tree) G) e.asks
usable_answers G work tree budget e u =
    let w = work_of work tree budget in
    are_answered (tree_answers tree) G e.asks (ap (λ (x : GraphEntry). x.asks) u.entry_is)
    (all_back (HoldsDigest G) (map sha256 (spec_texts w)) (map sha256 (listing_texts (own_answers w) (asks_of e))) (later_texts w G e u))

-- ## The entry of a key

-- under one name one entry is held
pub one_graph : (G : Holdings) (key : List ℕ) (d e : GraphEntry) → IsEntryOf G key d → IsEntryOf G key e → d ≡ e
one_graph G key d e h k =
    same_entries d e h.held.is_entry k.held.is_entry
    (same_Some (graph_entry_text d) (graph_entry_text e)
    (sym h.held.held ∙ ap (λ (x : List ℕ). get G (at_entry x)) (h.key_is ∙ sym k.key_is) ∙ k.held.held))

-- a text of an entry of one key is not that of one of another
pub other_graph : (text key : List ℕ) (d e : GraphEntry) → IsGraphEntry d → text ≡ graph_entry_text d → (d.key ≡ key → ⊥) → IsGraphEntry e
    → text ≡ graph_entry_text e → e.key ≡ key → ⊥
other_graph text key d e g there apart h is same = apart (ap (λ (x : GraphEntry). x.key) (same_entries d e g h (sym there ∙ is)) ∙ same)

-- what was found under the name of the key
pub found_entry : (told : Option Holdings) (key name text : List ℕ) (found : Option GraphEntry) → name ≡ at_entry key
    → ((G : Holdings) → told ≡ Some G → get G name ≡ Some text) → ChecksGraph text key found → FindsOne told (λ G e. IsEntryOf G key e) found
found_entry told key name text None name_is held checks = λ G is e of.
    checks e of.held.is_entry
    (same_Some text (graph_entry_text e)
    (sym (held G is) ∙ ap (get G) (name_is ∙ ap at_entry (sym of.key_is)) ∙ of.held.held))
    of.key_is
found_entry told key name text (Some e) name_is held checks = λ G is. record {
  held = record {
    is_entry = checks.0;
    held = ap (get G) (ap at_entry checks.2 ∙ sym name_is) ∙ held G is ∙ ap Some checks.1;
  };
  key_is = checks.2;
}

-- as a call answers it
pub entry_given
    : {E : Type 0} (told : Option Holdings) (key name : List ℕ) (text : Vec ℕ Global) (bytes : List ℕ)
    (r : Result (Option GraphEntry) E) → name ≡ at_entry key → held_names.Finds told name (got.Found text)
    → bytes ≡ text.items → IfOk r (ChecksGraph bytes key) → IfOk r (FindsOne told (λ G e. IsEntryOf G key e))
entry_given told key name text bytes (Ok found) named held same checks =
    found_entry told key name bytes found named (λ G is. held G is ∙ ap Some (sym same)) checks
entry_given told key name text bytes (Err x) named held same checks = tt

pub entry_key
    : {E : Type 0} (bytes key : List ℕ) (r : Result (Option GraphEntry) E) → IfOk r (ChecksGraph bytes key)
    → IfOk r (λ (found : Option GraphEntry). IfSome found (λ (e : GraphEntry). e.key ≡ key))
entry_key bytes key (Ok None) checks = tt
entry_key bytes key (Ok (Some e)) checks = checks.2
entry_key bytes key (Err x) checks = tt

-- nothing was found there
pub no_entry : (told : Option Holdings) (key name : List ℕ) → name ≡ at_entry key → ((G : Holdings) → told ≡ Some G → get G name ≡ None)
    → FindsOne told (λ G e. IsEntryOf G key e) None
no_entry told key name name_is none = λ G is e of.
    none_or_some (graph_entry_text e) (sym (none G is) ∙ ap (get G) (name_is ∙ ap at_entry (sym of.key_is)) ∙ of.held.held)
  where
    none_or_some : (text : List ℕ) → None ≡ Some text → ⊥
    none_or_some text e = cc

-- ## The usable entry

-- the entry of the key is usable, as was decided
pub usable_found : (held now : Option Holdings) (work : Workspace) (tree : Files) (budget : ℕ) (key : List ℕ) (e : GraphEntry) → Stays held now
    → FindsOne held (λ G d. IsEntryOf G key d) (Some e) → e.key ≡ key
    → DecidesUsable now (work_of work tree budget) e true → FindsOne now (λ G d. UsableGraph G (work_of work tree budget) d) (Some e)
usable_found held now work tree budget key e stays entry key_is decides = λ G is.
    (decides G is (subst (λ k. IsEntryOf G k e) (sym key_is) (entry G (stays G is)))).0 refl

-- it is not, and so no entry is
pub usable_missed : (held now : Option Holdings) (work : Workspace) (tree : Files) (budget : ℕ) (key : List ℕ) (e : GraphEntry)
    → key ≡ sha256 (key_of (work_of work tree budget)) → e.key ≡ key → Stays held now → FindsOne held (λ G d. IsEntryOf G key d) (Some e)
    → DecidesUsable now (work_of work tree budget) e false → FindsOne now (λ G d. UsableGraph G (work_of work tree budget) d) None
usable_missed held now work tree budget key e key_is own stays entry decides = λ G is d u.
    let there : IsEntryOf G key d = record { held = u.held; key_is = sym (usable_key G work tree budget d u) ∙ sym key_is } in
    let here : IsEntryOf G key e = entry G (stays G is) in
    let same : e ≡ d = one_graph G key e d here there in
    true≢false
    (sym ((decides G is (subst (λ k. IsEntryOf G k e) (sym own) here)).1
    (subst (λ (x : GraphEntry). UsableGraph G (work_of work tree budget) x) (sym same) u)))

-- no entry has the key, and so none is usable
pub none_usable : (held : Option Holdings) (work : Workspace) (tree : Files) (budget : ℕ) (key : List ℕ)
    → key ≡ sha256 (key_of (work_of work tree budget)) → FindsOne held (λ G d. IsEntryOf G key d) None
    → FindsOne held (λ G d. UsableGraph G (work_of work tree budget) d) None
none_usable held work tree budget key key_is none = λ G is d u.
    none G is d (record { held = u.held; key_is = sym (usable_key G work tree budget d u) ∙ sym key_is })

-- ## What is answered

pub hit_graph : (told : Option Holdings) (work : Workspace) (tree : Files) (budget : ℕ) (e : GraphEntry)
    → FindsOne told (λ G d. UsableGraph G (work_of work tree budget) d) (Some e) → FindsGraph told (work_of work tree budget) (found_as.Hit e.pips)
hit_graph told work tree budget e h = λ G is. record { entry = e; usable = h G is; pips_are = refl }

pub miss_graph : (told : Option Holdings) (work : Workspace) (tree : Files) (budget : ℕ)
    → FindsOne told (λ G d. UsableGraph G (work_of work tree budget) d) None → FindsGraph told (work_of work tree budget) found_as.Miss
miss_graph told work tree budget h = λ G is has. h G is has.0 has.1

pub fault_graph : (told : Option Holdings) (work : Workspace) (tree : Files) (budget : ℕ) → FindsGraph told (work_of work tree budget) found_as.Fault
fault_graph told work tree budget = λ G is. tt

pub memory_graph : (told : Option Holdings) (work : Workspace) (tree : Files) (budget : ℕ) → FindsGraph told (work_of work tree budget) found_as.Memory
memory_graph told work tree budget = λ G is. tt

-- ## Parts of the decision

-- the key is not held
pub key_missed : (told : Option Holdings) (work : Workspace) (tree : Files) (budget : ℕ) (e : GraphEntry) (held : Bool) → held ≡ false
    → Decides told (λ G. HoldsDigest G e.key) held → DecidesUsable told (work_of work tree budget) e false
key_missed told work tree budget e held none decides = λ G is of. (
  λ no. absurd (true≢false (sym no)),
  λ u. sym none ∙ (decides G is).1 (usable_key_held G work tree budget e u),
)

-- some specification is not
pub specs_missed : (told : Option Holdings) (work : Workspace) (tree : Files) (budget : ℕ) (e : GraphEntry) (modules : List ModuleText) (held : Bool)
    → modules ≡ work.modules.items → held ≡ false → Decides told (λ G. AllByRecursion (HoldsModule tree G) modules) held
    → DecidesUsable told (work_of work tree budget) e false
specs_missed told work tree budget e modules held same none decides = λ G is of. (
  λ no. absurd (true≢false (sym no)),
  λ u.
      sym none
      ∙ (decides G is).1
      (subst (λ (ms : List ModuleText). AllByRecursion (HoldsModule tree G) ms) (sym same) (usable_specs G work tree budget e u)),
)

-- all but the listings are held, and these decide
listings_decide : (first second now : Option Holdings) (work : Workspace) (tree : Files) (budget : ℕ) (e : GraphEntry) (answer : Bool)
    → e.key ≡ sha256 (key_of (work_of work tree budget)) → Stays first second → Stays second now → Decides first (λ G. HoldsDigest G e.key) true
    → Decides second (λ G. AllByRecursion (HoldsModule tree G) work.modules.items) true
    → Decides now (λ G. AllByRecursion (IsAnswered (tree_answers tree) G) e.asks) answer → DecidesUsable now (work_of work tree budget) e answer
listings_decide first second now work tree budget e answer key_is one two key specs listings = λ G is of. (
  λ yes.
      is_usable G work tree budget e key_is ((key G (one G (two G is))).0 refl) ((specs G (two G is)).0 refl) ((listings G is).0 yes) of,
  λ u. (listings G is).1 (usable_answers G work tree budget e u),
)

-- as a call answers it
pub listings_given : {E : Type 0} (first second now : Option Holdings) (work : Workspace) (tree : Files) (budget : ℕ) (e : GraphEntry)
    (key_held specs_held : Bool) (modules : List ModuleText) (lines : List AskLine) (r : Result Bool E)
    → e.key ≡ sha256 (key_of (work_of work tree budget)) → key_held ≡ true → specs_held ≡ true → modules ≡ work.modules.items → lines ≡ e.asks
    → Stays first second → Stays second now → Decides first (λ G. HoldsDigest G e.key) key_held
    → Decides second (λ G. AllByRecursion (HoldsModule tree G) modules) specs_held
    → IfOk r (Decides now (λ G. AllByRecursion (IsAnswered (tree_answers tree) G) lines)) → IfOk r (DecidesUsable now (work_of work tree budget) e)
listings_given first second now work tree budget e key_held specs_held modules lines (Ok answer) key_is k s same_modules same_lines one two key specs listings =
    listings_decide first second now work tree budget e answer key_is one two
    (subst (λ (b : Bool). Decides first (λ G. HoldsDigest G e.key) b) k key)
    (subst (λ (ms : List ModuleText). Decides second (λ G. AllByRecursion (HoldsModule tree G) ms) true) same_modules
    (subst (λ (b : Bool). Decides second (λ G. AllByRecursion (HoldsModule tree G) modules) b) s specs))
    (subst (λ (ls : List AskLine). Decides now (λ G. AllByRecursion (IsAnswered (tree_answers tree) G) ls) answer) same_lines listings)
listings_given first second now work tree budget e key_held specs_held modules lines (Err x) key_is k s same_modules same_lines one two key specs listings =
    tt

-- ## Single answers

found_decides : (told : Option Holdings) (digest : List ℕ) (found : Option (List ℕ)) → FindsOne told (λ S bytes. IsContent S digest bytes) found
    → Decides told (λ G. HoldsDigest G digest) (is_some found)
found_decides told digest None h = λ G is. ((λ no. absurd (true≢false (sym no))), λ held. absurd (h G is held.0 held.1))
found_decides told digest (Some bytes) h = λ G is. ((λ yes. (bytes, h G is)), λ held. refl)

-- a content that was found is held, and where none is found, none is
pub held_decides : (told : Option Holdings) (digest : List ℕ) (found : Option (List ℕ)) (answer : Bool) → answer ≡ is_some found
    → FindsOne told (λ S bytes. IsContent S digest bytes) found → Decides told (λ G. HoldsDigest G digest) answer
held_decides told digest found answer same h =
    subst (λ (b : Bool). Decides told (λ G. HoldsDigest G digest) b) (sym same) (found_decides told digest found h)

pub spec_decided : (told : Option Holdings) (s : Files) (path : Atoms) (digest : List ℕ) (held : Bool) → digest ≡ sha256 (text_at s path)
    → Decides told (λ G. HoldsDigest G digest) held → {b : Bool} → held ≡ b → Decides told (λ G. HoldsSpec s G path) b
spec_decided told s path digest held is decides {b = b} same =
    subst (λ (a : Bool). Decides told (λ G. HoldsSpec s G path) a) same
    (subst (λ (d : List ℕ). Decides told (λ G. HoldsDigest G d) held) is decides)

pub module_decided : (told : Option Holdings) (s : Files) (m : ModuleText) (paths : List Atoms) (held : Bool) → paths ≡ m.files.items
    → Decides told (λ G. AllByRecursion (HoldsSpec s G) paths) held → {b : Bool} → held ≡ b → Decides told (λ G. HoldsModule s G m) b
module_decided told s m paths held is decides {b = b} same =
    subst (λ (a : Bool). Decides told (λ G. HoldsModule s G m) a) same
    (subst (λ (ps : List Atoms). Decides told (λ G. AllByRecursion (HoldsSpec s G) ps) held) is decides)

pub line_decided : (told : Option Holdings) (answers : Answers) (line : AskLine) (answered : Bool) → Decides told (λ G. IsAnswered answers G line) answered
    → {b : Bool} → answered ≡ b → Decides told (λ G. IsAnswered answers G line) b
line_decided told answers line answered decides same = subst (λ (a : Bool). Decides told (λ G. IsAnswered answers G line) a) same decides

-- the listing of now has another digest
pub answer_differs : (told : Option Holdings) (tree : Files) (line : AskLine) (now : List ℕ) → now ≡ sha256 (listing_text (tree_answers tree line.ask))
    → (now ≡ line.listing → ⊥) → Decides told (λ G. IsAnswered (tree_answers tree) G line) false
answer_differs told tree line now is other = λ G told_is. (
  (λ no. absurd (true≢false (sym no))),
  λ h. absurd (other (is ∙ ap (λ (a : AskLine). a.listing) h.same)),
)

-- it has the same, and is held or not
pub answer_decided : {E : Type 0} (told : Option Holdings) (tree : Files) (line : AskLine) (now : List ℕ) (r : Result Bool E)
    → now ≡ sha256 (listing_text (tree_answers tree line.ask)) → now ≡ line.listing → IfOk r (Decides told (λ G. HoldsDigest G line.listing))
    → IfOk r (Decides told (λ G. IsAnswered (tree_answers tree) G line))
answer_decided told tree line now (Err x) is same held = tt
answer_decided told tree line now (Ok answer) is same held = λ G told_is. (
  λ yes. record {
    same = ap (ask_with line.ask) (sym is ∙ same);
    held = (held G told_is).0 yes;
  },
  λ h. (held G told_is).1 h.held,
)

-- ## Texts that are known

-- bytes that are found under the name of a digest decide whether some content of it is held
pub bytes_decide : (told : Option Holdings) (digest name : List ℕ) (bytes : Vec ℕ Global) (slice : List ℕ) (answer : Bool) → name ≡ at_blob digest
    → held_names.Finds told name (got.Found bytes) → slice ≡ bytes.items → (answer ≡ true ↔ sha256 slice ≡ digest)
    → Decides told (λ G. HoldsDigest G digest) answer
bytes_decide told digest name bytes slice answer named held same decides = λ G is.
    let found : get G name ≡ Some slice = held G is ∙ ap Some (sym same) in (
      λ yes.
          let d = decides.0 yes in
          (slice, record { held = ap (λ x. get G (at_blob x)) d ∙ ap (get G) (sym named) ∙ found; digest_is = d }),
      λ has.
          let there : get G name ≡ Some has.0 = ap (get G) (named ∙ ap at_blob (sym has.1.digest_is)) ∙ has.1.held in
          decides.1 (ap sha256 (same_Some slice has.0 (sym found ∙ there)) ∙ has.1.digest_is),
    )

-- where nothing is found under it, none is
pub none_decides : (told : Option Holdings) (digest name : List ℕ) → name ≡ at_blob digest
    → ((G : Holdings) → told ≡ Some G → get G name ≡ None) → Decides told (λ G. HoldsDigest G digest) false
none_decides told digest name named none = λ G is. (
  λ yes. absurd (true≢false (sym yes)),
  λ has. absurd (never has.0 (sym (none G is) ∙ ap (get G) (named ∙ ap at_blob (sym has.1.digest_is)) ∙ has.1.held)),
)
  where
    never : (text : List ℕ) → None ≡ Some text → ⊥
    never text e = cc
