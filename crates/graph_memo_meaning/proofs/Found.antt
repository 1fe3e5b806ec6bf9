-- What a usable entry of an honest store has is what evaluation makes.
use Rattle.std.proofs.Common.{◌≡◌, ℕ, Bool, true, false, cond, ◌||◌, List, [], ◌∷◌, ◌++◌, map, filter, Option, Some, None, IsSome, inl, inr, refl, sym, ap, subst, ◌∙◌}
use Rattle.std.specs.Prelude.{unwrap_or}
use Rattle.std.specs.List.{AllByRecursion, flat_map}
use Rattle.std.proofs.lemmas.List.Concat.{flat_map-cons}
use Rattle.sha2.specs.Sha256.{sha256}
use Rattle.bx_io.specs.Holdings.{Holdings}
use Rattle.bx_tree.proofs.Lists.{all_back, all_front}
use Rattle.bx_tree.proofs.Members.{has_back, has_front}
use Rattle.bx_tree.specs.Members.{Has}
use Rattle.bx_tree.specs.Orders.{same_path_decides}
use Rattle.bx_tree.specs.Paths.{Atoms, IsPath, has_path, same_path}
use Rattle.bx_tree.specs.Trees.{Files, IsTree, file_at, paths_of}
use Rattle.dscript_names.specs.ProjectFiles.{AreParsed, paths_of_modules, project_files}
use Rattle.dscript_eval_meaning.specs.Meaning.{answered_meaning}
use Rattle.dscript_eval_laws.proofs.HeardPrograms.{asks_decide}
use Rattle.dscript_program.specs.Workspaces.{ModuleData}
use Rattle.dscript_sdk_calls.specs.Sources.{AgreeOn, Answers, files_below, files_found, tree_answers}
use Rattle.dscript_sdk_calls.specs.declared.tree_ask.TreeAsk.{TreeAsk}
use Rattle.dscript_sdk_calls.specs.declared.tree_ask.TreeAsk.TheVariants.{Glob, GlobDeep, Below}
use Rattle.memo_format.specs.StoreNames.{HoldsBlob}
use Rattle.run_record.specs.Collisions.{NoCollision}
use Rattle.graph_texts.specs.Keys.{SaySame, spec_digests, text_at}
use Rattle.graph_texts.specs.Listings.{ArePaths, listing_text}
use Rattle.graph_texts.specs.declared.asks.AskLine.{AskLine}
use Rattle.graph_texts.specs.declared.entry.GraphEntry.{GraphEntry}
use Rattle.graph_texts.proofs.KeyTexts.{same_keys}
use Rattle.graph_texts.proofs.ListingTexts.{same_paths}
use Rattle.two_phase_meaning.specs.Contents.{HoldsAll}
use Rattle.graph_memo_meaning.specs.Compared.{ComparedInFind, stored, today}
use Rattle.graph_memo_meaning.specs.Contents.{asks_of, key_of, line_for, listing_texts, made_of, named_texts, spec_texts}
use Rattle.graph_memo_meaning.specs.Honest.{HonestGraphs}
use Rattle.graph_memo_meaning.specs.Usable.{UsableGraph}
use Rattle.graph_memo_meaning.specs.Work.{Evaluates, IsWork, Work, own_answers, spec_paths}
use Rattle.graph_memo_meaning.proofs.SameFiles.{same_passing}
use Rattle.graph_memo_meaning.proofs.SameNames.{same_named}

-- ## Answers of trees are paths

all_passing : {X : Type 0} (P : X → Type 0) (test : X → Bool) (xs : List X) → AllByRecursion P xs
    → AllByRecursion P (filter test xs)
all_passing P test [] h = tt
all_passing {X = X} P test (x ∷ xs) h = by_test (test x) (all_passing P test xs h.1)
  where
    by_test : (b : Bool) → AllByRecursion P (filter test xs) → AllByRecursion P (cond b (x ∷ filter test xs) (filter test xs))
    by_test true more = (h.0, more)
    by_test false more = more

pub tree_paths : (sources : Files) → IsTree sources → (ask : TreeAsk) → ArePaths (tree_answers sources ask)
unfolding files_found files_below
tree_paths sources tree (Glob dir pattern) = all_passing IsPath _ (paths_of sources) tree.paths
tree_paths sources tree (GlobDeep dir pattern) = all_passing IsPath _ (paths_of sources) tree.paths
tree_paths sources tree (Below dir) = all_passing IsPath _ (paths_of sources) tree.paths

-- ## Specifications

abbrev Spec : Type 0
Spec = Atoms × List ℕ

abbrev spec_at : Files → Atoms → Spec
spec_at sources path = (path, sha256 (text_at sources path))

abbrev specs_at : Files → List Atoms → List Spec
specs_at sources paths = map (spec_at sources) paths

specs_of_append : (sources : Files) (ps qs : List Atoms) → specs_at sources (ps ++ qs) ≡ specs_at sources ps ++ specs_at sources qs
specs_of_append sources [] qs = refl
specs_of_append sources (p ∷ ps) qs = ap (λ xs. spec_at sources p ∷ xs) (specs_of_append sources ps qs)

all_specs : (modules : List ModuleData) (sources : Files)
    → specs_at sources (paths_of_modules modules) ≡ flat_map (λ xs. xs) (spec_digests modules sources)
all_specs [] sources = refl
all_specs (m ∷ ms) sources =
    ap (specs_at sources) (flat_map-cons (λ (a : ModuleData). a.files) m ms)
    ∙ specs_of_append sources m.files (paths_of_modules ms)
    ∙ ap (λ xs. specs_at sources m.files ++ xs) (all_specs ms sources)
    ∙ sym (flat_map-cons (λ (xs : List Spec). xs) (specs_at sources m.files) (spec_digests ms sources))

paths_at : (sources : Files) (paths : List Atoms) → map (λ (s : Spec). s.0) (specs_at sources paths) ≡ paths
paths_at sources [] = refl
paths_at sources (p ∷ ps) = ap (λ xs. p ∷ xs) (paths_at sources ps)

files_at : (modules : List ModuleData) (sources : Files)
    → map (λ (xs : List Spec). map (λ (s : Spec). s.0) xs) (spec_digests modules sources) ≡ map (λ (m : ModuleData). m.files) modules
files_at [] sources = refl
files_at (m ∷ ms) sources =
    ap (λ x. x ∷ map (λ (xs : List Spec). map (λ (s : Spec). s.0) xs) (spec_digests ms sources)) (paths_at sources m.files)
    ∙ ap (λ xs. m.files ∷ xs) (files_at ms sources)

module _ (s t : Files) (M : List ℕ → Type 0) (none : NoCollision M) where
  -- texts with the same digests are the same
  same_texts : (ps qs : List Atoms) → specs_at s ps ≡ specs_at t qs → AllByRecursion M (map (text_at s) ps)
      → AllByRecursion M (map (text_at t) qs) → AllByRecursion (λ path. text_at s path ≡ text_at t path) ps
  same_texts [] qs e g h = tt
  same_texts (p ∷ ps) [] e g h = absurd cc
  same_texts (p ∷ ps) (q ∷ qs) e g h =
      let first : spec_at s p ≡ spec_at t q = cc in
      let path : p ≡ q = ap (λ (x : Spec). x.0) first in
      let digest : sha256 (text_at s p) ≡ sha256 (text_at t q) = ap (λ (x : Spec). x.1) first in
      let more : specs_at s ps ≡ specs_at t qs = cc in
      (none (text_at s p) (text_at t q) g.0 h.0 digest ∙ ap (text_at t) (sym path), same_texts ps qs more g.1 h.1)

-- a path at which a test finds one of a list is that one
module _ (s t : Files) where
  abbrev AreSame : List Atoms → Type 0
  AreSame paths = AllByRecursion (λ path. file_at s path ≡ file_at t path) paths

  texts_there : (paths : List Atoms) → AllByRecursion (λ path. IsSome (file_at s path)) paths
      → AllByRecursion (λ path. IsSome (file_at t path)) paths
      → AllByRecursion (λ path. text_at s path ≡ text_at t path) paths → AreSame paths
  texts_there [] g h e = tt
  texts_there (p ∷ ps) g h e = (by_file (file_at s p) (file_at t p) g.0 h.0 e.0, texts_there ps g.1 h.1 e.1)
    where
      by_file : (a b : Option (List ℕ)) → IsSome a → IsSome b → unwrap_or a [] ≡ unwrap_or b [] → a ≡ b
      by_file (Some x) (Some y) g h e = ap Some e
      by_file (Some x) None g h e = absurd cc
      by_file None b g h e = absurd cc

  same_among : (paths : List Atoms) → AreSame paths → (p : Atoms) → has_path paths p ≡ true → file_at s p ≡ file_at t p
  same_among [] h p e = absurd cc
  same_among (q ∷ qs) h p e = by_test (same_path q p) refl (λ later. same_among qs h.1 p later) e
    where
      by_test : (b : Bool) → same_path q p ≡ b → (has_path qs p ≡ true → file_at s p ≡ file_at t p)
          → (b || has_path qs p) ≡ true → file_at s p ≡ file_at t p
      by_test true same rest e = subst (λ r. file_at s r ≡ file_at t r) ((same_path_decides q p).0 same) h.0
      by_test false other rest e = rest e

-- ## Hits

module _ (G : Holdings) (w : Work) (e : GraphEntry) (honest : HonestGraphs G) (is : IsWork w)
    (none : NoCollision (ComparedInFind G w)) (usable : UsableGraph G w e) where
  key_is : e.key ≡ sha256 (key_of w)
  key_is = sym (ap (λ (x : GraphEntry). x.key) usable.entry_is)

  -- what is held, and what is written today, are compared
  met_held : (xs : List (List ℕ)) → HoldsAll G xs → AllByRecursion (ComparedInFind G w) xs
  met_held [] h = tt
  met_held (x ∷ xs) h = (stored h.0, met_held xs h.1)

  met_today : (xs : List (List ℕ)) → ((x : List ℕ) → Has xs x → Has (named_texts w (own_answers w) (asks_of e)) x)
      → AllByRecursion (ComparedInFind G w) xs
  met_today [] among = tt
  met_today (x ∷ xs) among =
      (today e usable.held key_is (among x (inl refl)), met_today xs (λ y h. among y (inr h)))

  abbrev old : Work
  old = (honest e usable.held).work

  abbrev given : Answers
  given = (honest e usable.held).answers

  same_key : SaySame old.budget w.budget old.modules w.modules old.sources w.sources
  same_key =
      let digests : sha256 (key_of old) ≡ sha256 (key_of w) =
      ap (λ (x : GraphEntry). x.key) ((honest e usable.held).entry_is ∙ sym usable.entry_is) in
      same_keys old.budget w.budget old.modules w.modules old.sources w.sources
      (honest e usable.held).is_work.has_key is.has_key
      (none (key_of old) (key_of w) (stored (honest e usable.held).texts.0) (today e usable.held key_is (inl refl)) digests)

  same_specs : AllByRecursion (λ path. text_at old.sources path ≡ text_at w.sources path) (spec_paths old)
  same_specs =
      same_texts old.sources w.sources (ComparedInFind G w) none (spec_paths old) (spec_paths w)
      (all_specs old.modules old.sources ∙ ap (flat_map (λ xs. xs)) same_key.digests ∙ sym (all_specs w.modules w.sources))
      (met_held (spec_texts old)
      (all_front (HoldsBlob G) (spec_texts old) (listing_texts given (asks_of e)) (honest e usable.held).texts.1))
      (met_today (spec_texts w)
      (λ x h. inr (has_front (spec_texts w) (listing_texts (own_answers w) (asks_of e)) x h)))

  same_files : map (λ (m : ModuleData). m.files) old.modules ≡ map (λ (m : ModuleData). m.files) w.modules
  same_files =
      sym (files_at old.modules old.sources)
      ∙ ap (map (λ (xs : List Spec). map (λ (s : Spec). s.0) xs)) same_key.digests ∙ files_at w.modules w.sources

  flat_files : (modules : List ModuleData) → paths_of_modules modules ≡ flat_map (λ xs. xs) (map (λ (m : ModuleData). m.files) modules)
  flat_files [] = refl
  flat_files (m ∷ ms) =
      flat_map-cons (λ (a : ModuleData). a.files) m ms ∙ ap (λ xs. m.files ++ xs) (flat_files ms)
      ∙ sym (flat_map-cons (λ (xs : List Atoms). xs) m.files (map (λ (a : ModuleData). a.files) ms))

  same_spec_paths : spec_paths old ≡ spec_paths w
  same_spec_paths = flat_files old.modules ∙ ap (flat_map (λ xs. xs)) same_files ∙ sym (flat_files w.modules)

  same_projects : project_files old.sources old.modules ≡ project_files w.sources w.modules
  same_projects =
      let there : AllByRecursion (λ path. IsSome (file_at w.sources path)) (spec_paths old) =
      subst (AllByRecursion (λ path. IsSome (file_at w.sources path))) (sym same_spec_paths) is.files in
      let alike = texts_there old.sources w.sources (spec_paths old) (honest e usable.held).is_work.files there same_specs in
      same_passing (has_path (spec_paths old)) old.sources w.sources
      (same_among old.sources w.sources (spec_paths old) alike)
      (honest e usable.held).is_work.tree.rising is.tree.rising
      ∙ ap (λ paths. filter (λ (f : Spec). has_path paths f.0) w.sources) same_spec_paths

  agree_on : (asks : List TreeAsk) → map (line_for given) asks ≡ map (line_for (own_answers w)) asks
      → AllByRecursion (ComparedInFind G w) (listing_texts given asks)
      → AllByRecursion (ComparedInFind G w) (listing_texts (own_answers w) asks)
      → AllByRecursion (λ ask. ArePaths (given ask)) asks → AgreeOn given (own_answers w) asks
  agree_on [] same g h paths = tt
  agree_on (ask ∷ asks) same g h paths =
      let first : line_for given ask ≡ line_for (own_answers w) ask = cc in
      let digest : sha256 (listing_text (given ask)) ≡ sha256 (listing_text (own_answers w ask)) = ap (λ (l : AskLine). l.listing) first in
      let more : map (line_for given) asks ≡ map (line_for (own_answers w)) asks = cc in (
        same_paths (given ask) (own_answers w ask) paths.0 (tree_paths w.sources is.tree ask)
            (none (listing_text (given ask)) (listing_text (own_answers w ask)) g.0 h.0 digest),
        agree_on asks more g.1 h.1 paths.1,
      )

  agrees : AgreeOn given (own_answers w) (asks_of e)
  agrees =
      agree_on (asks_of e) (ap (λ (x : GraphEntry). x.asks) ((honest e usable.held).entry_is ∙ sym usable.entry_is))
      (met_held (listing_texts given (asks_of e))
      (all_back (HoldsBlob G) (spec_texts old) (listing_texts given (asks_of e)) (honest e usable.held).texts.1))
      (met_today (listing_texts (own_answers w) (asks_of e))
      (λ x h. inr (has_back (spec_texts w) (listing_texts (own_answers w) (asks_of e)) x h)))
      (honest e usable.held).paths

  pub hit : Evaluates w (own_answers w) (made_of e)
  hit =
      let was = (honest e usable.held).evaluates in
      record {
        parsed = was.parsed;
        parses = subst (λ files. AreParsed files was.parsed) same_projects was.parses;
        program = was.program;
        names = sym (same_named old.modules w.modules was.parsed same_key.names same_files) ∙ was.names;
        makes =
            ap (answered_meaning was.program (own_answers w)) (sym same_key.budget)
            ∙ asks_decide was.program given (own_answers w) old.budget e.pips (asks_of e) was.makes agrees;
      }

pub graphs_hit : (G : Holdings) (w : Work) (e : GraphEntry) → HonestGraphs G → IsWork w
    → NoCollision (ComparedInFind G w) → UsableGraph G w e → Evaluates w (own_answers w) (made_of e)
graphs_hit G w e honest is none usable = hit G w e honest is none usable
