-- Texts that are put one after another.
use Rattle.std.proofs.Common.{◌≡◌, ℕ, ◌+◌, ◌<◌, ◌≤◌, List, [], ◌∷◌, ◌++◌, length, get_or, map, take, drop, Result, Ok, Err, refl, sym, ap, ◌∙◌, subst, arith, append-nil}
use Rattle.std.specs.Prelude.{OnOk}
use Rattle.std.proofs.lemmas.Grind.{flat_map-append}
use Rattle.std.proofs.lemmas.List.{get_or-map, length-map, map-append, take_all, take_more, take-append-drop}
use Rattle.sha2.specs.Sha256.{sha256}
use Rattle.bx_io.specs.Holdings.{StoreTold}
use Rattle.bx_io.specs.declared.keeper.PutFault.{PutFault}
use Rattle.bx_tree.specs.Paths.{Atoms}
use Rattle.bx_tree.specs.Trees.{Files}
use Rattle.content_store.specs.Contents.{blob_put}
use Rattle.dscript_names.specs.ProjectFiles.{paths_of_modules}
use Rattle.dscript_program.specs.Workspaces.{ModuleData, module_data, modules_data}
use Rattle.dscript_program.specs.declared.workspace.ModuleText.{ModuleText}
use Rattle.dscript_sdk_calls.specs.Sources.{Answers}
use Rattle.dscript_sdk_calls.specs.declared.tree_ask.TreeAsk.{TreeAsk}
use Rattle.graph_texts.specs.Asks.{ask_with}
use Rattle.graph_texts.specs.Keys.{text_at}
use Rattle.graph_texts.specs.Listings.{listing_text}
use Rattle.graph_texts.specs.declared.asks.AskLine.{AskLine}
use Rattle.graph_memo_meaning.specs.Contents.{line_for, listing_texts}
use Rattle.two_phase.specs.Applying.{Applies, AppliesAll, AppliesPrefix}
use Rattle.two_phase.proofs.Applied.{blob_more, both, in_first, in_next, one_applied, whole_applied}

-- ## Texts of a list of things

pub mapped_length : {X : Type 0} (f : X → List ℕ) (xs : List X) (i : ℕ) → length xs ≤ i → length (map f xs) ≤ i
mapped_length f xs i l = omega (arith, l, length-map xs f)

mapped_place : {X : Type 0} (f : X → List ℕ) (xs : List X) (i : ℕ) (x : X) (y : List ℕ) → i < length xs → x ≡ get_or xs i x → y ≡ f x → y ≡ get_or (map f xs) i y
mapped_place f xs i x y l is text =
    text ∙ ap f is ∙ sym (get_or-map f xs i x y l)

-- one text more
pub mapped_more : {X : Type 0} (f : X → List ℕ) (start before now : StoreTold) (xs : List X) (i : ℕ) (x : X) (y : List ℕ) → i < length xs → x ≡ get_or xs i x
    → y ≡ f x → AppliesAll start (map blob_put (take i (map f xs))) before → Applies before (blob_put y) now
    → AppliesAll start (map blob_put (take (i + 1) (map f xs))) now
mapped_more f start before now xs i x y l is text so_far put =
    blob_more start before now (map f xs) i y (omega (arith, l, length-map xs f)) (mapped_place f xs i x y l is text) so_far put

-- ## Specifications, module by module

specs_more : (s : Files) (ms : List ModuleText) (i : ℕ) (m : ModuleText) (paths : List Atoms) → i < length ms → m ≡ get_or ms i m → paths ≡ m.files.items
    → map blob_put (map (text_at s) (paths_of_modules (modules_data (take (i + 1) ms))))
    ≡ map blob_put (map (text_at s) (paths_of_modules (modules_data (take i ms)))) ++ map blob_put (map (text_at s) paths)
specs_more s ms i m paths l is files =
    let more : take (i + 1) ms ≡ take i ms ++ m ∷ [] = take_more ms i m l ∙ ap (λ y. take i ms ++ y ∷ []) (sym is) in
    let flat : paths_of_modules (modules_data (take (i + 1) ms)) ≡ paths_of_modules (modules_data (take i ms)) ++ paths =
    ap (λ (t : List ModuleText). paths_of_modules (modules_data t)) more
    ∙ ap paths_of_modules (map-append module_data (take i ms) (m ∷ []))
    ∙ flat_map-append (λ (d : ModuleData). d.files) (modules_data (take i ms)) (module_data m ∷ [])
    ∙ ap (λ (ps : List Atoms). paths_of_modules (modules_data (take i ms)) ++ ps) (one_module m ∙ sym files) in
    ap (λ (ps : List Atoms). map blob_put (map (text_at s) ps)) flat
    ∙ ap (map blob_put) (map-append (text_at s) (paths_of_modules (modules_data (take i ms))) paths)
    ∙ map-append blob_put (map (text_at s) (paths_of_modules (modules_data (take i ms)))) (map (text_at s) paths)
  where
    one_module : (m : ModuleText) → m.files.items ++ [] ≡ m.files.items
    one_module m = append-nil m.files.items

pub module_more : (s : Files) (start before now : StoreTold) (ms : List ModuleText) (i : ℕ) (m : ModuleText) (paths : List Atoms) → i < length ms → m ≡ get_or ms i m
    → paths ≡ m.files.items → AppliesAll start (map blob_put (map (text_at s) (paths_of_modules (modules_data (take i ms))))) before
    → AppliesAll before (map blob_put (map (text_at s) paths)) now
    → AppliesAll start (map blob_put (map (text_at s) (paths_of_modules (modules_data (take (i + 1) ms))))) now
module_more s start before now ms i m paths l is files so_far put =
    subst (λ cs. AppliesAll start cs now) (sym (specs_more s ms i m paths l is files))
    (both (map blob_put (map (text_at s) (paths_of_modules (modules_data (take i ms))))) (map blob_put (map (text_at s) paths)) start before now so_far put)

specs_split : (s : Files) (ms : List ModuleText) (i : ℕ)
    → map blob_put (map (text_at s) (paths_of_modules (modules_data (take i ms)))) ++ map blob_put (map (text_at s) (paths_of_modules (modules_data (drop i ms))))
    ≡ map blob_put (map (text_at s) (paths_of_modules (modules_data ms)))
specs_split s ms i =
    sym (map-append blob_put (map (text_at s) (paths_of_modules (modules_data (take i ms)))) (map (text_at s) (paths_of_modules (modules_data (drop i ms)))))
    ∙ ap (map blob_put) (sym (map-append (text_at s) (paths_of_modules (modules_data (take i ms))) (paths_of_modules (modules_data (drop i ms)))))
    ∙ ap (λ (ps : List Atoms). map blob_put (map (text_at s) ps))
    (sym (flat_map-append (λ (d : ModuleData). d.files) (modules_data (take i ms)) (modules_data (drop i ms)))
    ∙ ap paths_of_modules (sym (map-append module_data (take i ms) (drop i ms))) ∙ ap (λ (t : List ModuleText). paths_of_modules (modules_data t)) (take-append-drop i ms))

-- a module's texts were put in part
pub modules_cut : (s : Files) (start before now : StoreTold) (ms : List ModuleText) (i : ℕ) (m : ModuleText) (paths : List Atoms) → i < length ms → m ≡ get_or ms i m
    → paths ≡ m.files.items → AppliesAll start (map blob_put (map (text_at s) (paths_of_modules (modules_data (take i ms))))) before
    → AppliesPrefix before now (map blob_put (map (text_at s) paths)) → AppliesPrefix start now (map blob_put (map (text_at s) (paths_of_modules (modules_data ms))))
modules_cut s start before now ms i m paths l is files so_far put =
    subst (λ cs. AppliesPrefix start now cs) (specs_split s ms (i + 1))
    (in_first start now (map blob_put (map (text_at s) (paths_of_modules (modules_data (take (i + 1) ms)))))
    (map blob_put (map (text_at s) (paths_of_modules (modules_data (drop (i + 1) ms)))))
    (subst (λ cs. AppliesPrefix start now cs) (sym (specs_more s ms i m paths l is files))
    (in_next start before now (map blob_put (map (text_at s) (paths_of_modules (modules_data (take i ms))))) (map blob_put (map (text_at s) paths)) so_far put)))

pub modules_whole : (s : Files) (start now : StoreTold) (ms : List ModuleText) (i : ℕ) → length ms ≤ i
    → AppliesAll start (map blob_put (map (text_at s) (paths_of_modules (modules_data (take i ms))))) now
    → AppliesAll start (map blob_put (map (text_at s) (paths_of_modules (modules_data ms)))) now
modules_whole s start now ms i l so_far =
    subst (λ (t : List ModuleText). AppliesAll start (map blob_put (map (text_at s) (paths_of_modules (modules_data t)))) now) (take_all i ms l) so_far

pub modules_done : (s : Files) (start now : StoreTold) (ms : List ModuleText) (i : ℕ) → length ms ≤ i
    → AppliesAll start (map blob_put (map (text_at s) (paths_of_modules (modules_data (take i ms))))) now
    → AppliesPrefix start now (map blob_put (map (text_at s) (paths_of_modules (modules_data ms))))
modules_done s start now ms i l so_far =
    whole_applied start now (map blob_put (map (text_at s) (paths_of_modules (modules_data ms)))) (modules_whole s start now ms i l so_far)

-- ## Answers to asks

abbrev pub text_of_ask : Answers → TreeAsk → List ℕ
text_of_ask answers ask = listing_text (answers ask)

-- the listing was put, as the blob that has its text
pub listing_put : (before now : StoreTold) (blob text : List ℕ) → blob ≡ text → Applies before (blob_put blob) now
    → AppliesAll before (blob_put text ∷ []) now
listing_put before now blob text is put =
    subst (λ (x : List ℕ). AppliesAll before (blob_put x ∷ []) now) is (one_applied before now (blob_put blob) put)

-- the line of an ask, as it is made
pub line_is : (answers : Answers) (ask asked : TreeAsk) (blob digest : List ℕ) → asked ≡ ask → digest ≡ sha256 blob → blob ≡ text_of_ask answers ask
    → ask_with asked digest ≡ line_for answers ask
line_is answers ask asked blob digest same of is =
    ap (λ (a : TreeAsk). ask_with a digest) same ∙ ap (λ (d : List ℕ). ask_with ask d) (of ∙ ap sha256 is)

-- ## All texts

-- the key, and then some of the texts of specifications
pub specs_first : (k0 k1 k2 : StoreTold) (key : List ℕ) (specs listings : List (List ℕ)) → Applies k0 (blob_put key) k1
    → AppliesPrefix k1 k2 (map blob_put specs) → AppliesPrefix k0 k2 (map blob_put (key ∷ (specs ++ listings)))
specs_first k0 k1 k2 key specs listings one two =
    subst (λ cs. AppliesPrefix k0 k2 (blob_put key ∷ cs)) (sym (map-append blob_put specs listings))
    (in_next k0 k1 k2 (blob_put key ∷ []) (map blob_put specs ++ map blob_put listings) (one_applied k0 k1 (blob_put key) one)
    (in_first k1 k2 (map blob_put specs) (map blob_put listings) two))

-- the key, the texts of specifications, and then some of the listings
pub texts_first : (k0 k1 k2 k3 : StoreTold) (key : List ℕ) (specs listings : List (List ℕ)) → Applies k0 (blob_put key) k1
    → AppliesAll k1 (map blob_put specs) k2 → AppliesPrefix k2 k3 (map blob_put listings)
    → AppliesPrefix k0 k3 (map blob_put (key ∷ (specs ++ listings)))
texts_first k0 k1 k2 k3 key specs listings one two three =
    subst (λ cs. AppliesPrefix k0 k3 (blob_put key ∷ cs)) (sym (map-append blob_put specs listings))
    (in_next k0 k1 k3 (blob_put key ∷ []) (map blob_put specs ++ map blob_put listings) (one_applied k0 k1 (blob_put key) one)
    (in_next k1 k2 k3 (map blob_put specs) (map blob_put listings) two three))

-- all of them
pub texts_made : {X : Type 0} (k0 k1 k2 k3 : StoreTold) (key : List ℕ) (specs listings : List (List ℕ)) (r : Result X PutFault)
    → Applies k0 (blob_put key) k1 → AppliesAll k1 (map blob_put specs) k2 → OnOk r (AppliesAll k2 (map blob_put listings) k3)
    → OnOk r (AppliesAll k0 (map blob_put (key ∷ (specs ++ listings))) k3)
texts_made k0 k1 k2 k3 key specs listings (Err e) one two three = tt
texts_made k0 k1 k2 k3 key specs listings (Ok x) one two three =
    subst (λ cs. AppliesAll k0 (blob_put key ∷ cs) k3) (sym (map-append blob_put specs listings))
    (k1, one, both (map blob_put specs) (map blob_put listings) k1 k2 k3 two three)

answers_more : (answers : Answers) (asks : List TreeAsk) (i : ℕ) (ask : TreeAsk) → i < length asks → ask ≡ get_or asks i ask
    → take (i + 1) (listing_texts answers asks) ≡ take i (listing_texts answers asks) ++ text_of_ask answers ask ∷ []
answers_more answers asks i ask l is =
    let t = text_of_ask answers ask in
    take_more (listing_texts answers asks) i t (omega (arith, l, length-map asks (text_of_ask answers)))
    ∙ ap (λ y. take i (listing_texts answers asks) ++ y ∷ []) (sym (mapped_place (text_of_ask answers) asks i ask t l is refl))

pub answer_more : (answers : Answers) (start before now : StoreTold) (asks : List TreeAsk) (i : ℕ) (ask : TreeAsk) → i < length asks → ask ≡ get_or asks i ask
    → AppliesAll start (map blob_put (take i (listing_texts answers asks))) before → AppliesAll before (blob_put (text_of_ask answers ask) ∷ []) now
    → AppliesAll start (map blob_put (take (i + 1) (listing_texts answers asks))) now
answer_more answers start before now asks i ask l is so_far put =
    subst (λ (ts : List (List ℕ)). AppliesAll start (map blob_put ts) now) (sym (answers_more answers asks i ask l is))
    (subst (λ cs. AppliesAll start cs now) (sym (map-append blob_put (take i (listing_texts answers asks)) (text_of_ask answers ask ∷ [])))
    (both (map blob_put (take i (listing_texts answers asks))) (blob_put (text_of_ask answers ask) ∷ []) start before now so_far put))

pub answer_cut : (answers : Answers) (start before now : StoreTold) (asks : List TreeAsk) (i : ℕ) (ask : TreeAsk) → i < length asks → ask ≡ get_or asks i ask
    → AppliesAll start (map blob_put (take i (listing_texts answers asks))) before → AppliesPrefix before now (blob_put (text_of_ask answers ask) ∷ [])
    → AppliesPrefix start now (map blob_put (listing_texts answers asks))
answer_cut answers start before now asks i ask l is so_far put =
    let all = listing_texts answers asks in
    subst (λ (ts : List (List ℕ)). AppliesPrefix start now (map blob_put ts)) (take-append-drop (i + 1) all)
    (subst (λ cs. AppliesPrefix start now cs) (sym (map-append blob_put (take (i + 1) all) (drop (i + 1) all)))
    (in_first start now (map blob_put (take (i + 1) all)) (map blob_put (drop (i + 1) all))
    (subst (λ (ts : List (List ℕ)). AppliesPrefix start now (map blob_put ts)) (sym (answers_more answers asks i ask l is))
    (subst (λ cs. AppliesPrefix start now cs) (sym (map-append blob_put (take i all) (text_of_ask answers ask ∷ [])))
    (in_next start before now (map blob_put (take i all)) (blob_put (text_of_ask answers ask) ∷ []) so_far put)))))

pub line_more : (answers : Answers) (asks : List TreeAsk) (i : ℕ) (ask : TreeAsk) (old new : List AskLine) → i < length asks → ask ≡ get_or asks i ask
    → old ≡ map (line_for answers) (take i asks) → new ≡ old ++ line_for answers ask ∷ [] → new ≡ map (line_for answers) (take (i + 1) asks)
line_more answers asks i ask old new l is before added =
    added ∙ ap (λ (ls : List AskLine). ls ++ line_for answers ask ∷ []) before
    ∙ sym (map-append (line_for answers) (take i asks) (ask ∷ []))
    ∙ ap (map (line_for answers)) (sym (take_more asks i ask l ∙ ap (λ y. take i asks ++ y ∷ []) (sym is)))

pub lines_whole : (answers : Answers) (asks : List TreeAsk) (i : ℕ) (lines : List AskLine) → length asks ≤ i → lines ≡ map (line_for answers) (take i asks)
    → lines ≡ map (line_for answers) asks
lines_whole answers asks i lines l is = is ∙ ap (map (line_for answers)) (take_all i asks l)
