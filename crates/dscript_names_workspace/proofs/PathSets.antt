-- Sets of paths and lists of files, one step further.
use Rattle.std.proofs.Common.{◌≡◌, ◌<◌, ◌+◌, ℕ, Bool, true, false, List, [], ◌∷◌, ◌++◌, Option, Some, None, length, take, get_or, cond, refl, ap, append-nil, sym, ◌∙◌}
use Rattle.std.specs.Prelude.{◌||◌, unwrap_or}
use Rattle.std.specs.declared.alloc.Global.{Global}
use Rattle.std.specs.declared.vec.Vec.{Vec}
use Rattle.std.specs.BTreeMap.{BTreeMap, get, is_at}
use Rattle.std.specs.Option.{option_map_or}
use Rattle.std.proofs.lemmas.List.Folds.{list_any_more}
use Rattle.bx_tree.specs.Paths.{Atoms, has_path, path_cmp, same_path}
use Rattle.bx_tree.specs.Orders.{path_cmp_matches, same_path_decides}
use Rattle.dscript_names_workspace.specs.PathSets.{files_in}

either : (b s t : Bool) → cond b true (s || t) ≡ (s || (t || b))
either true true t = refl
either true false true = refl
either true false false = refl
either false true t = refl
either false false true = refl
either false false false = refl

-- one more path of a list in a set
pub one_more : (paths : List Atoms) (i : ℕ) (path q : Atoms) (start before now : Bool) → i < length paths
    → path ≡ get_or paths i path → now ≡ cond (is_at (path_cmp path) q) true before
    → before ≡ (start || has_path (take i paths) q) → now ≡ (start || has_path (take (i + 1) paths) q)
one_more paths i path q start before now l is e h =
    e ∙ ap (cond (is_at (path_cmp path) q) true) h
    ∙ either (is_at (path_cmp path) q) start (has_path (take i paths) q)
    ∙ ap (λ b. start || (has_path (take i paths) q || b)) (sym (path_cmp_matches path q) ∙ ap (λ p. same_path p q) is)
    ∙ ap (λ b. start || b) (sym (list_any_more (λ other. same_path other q) paths i path l))

abbrev items_of : Option (Vec Atoms Global) → List Atoms
items_of o = option_map_or (λ own. own.items) o []

with_file : (b : Bool) (old mid new : Option (Vec Atoms Global)) (own : Vec Atoms Global) (before : List Atoms) (file : Atoms)
    → new ≡ cond b (Some own) mid → mid ≡ cond b None old → own.items ≡ before ++ file ∷ []
    → (b ≡ true → before ≡ items_of old)
    → items_of new ≡ items_of old ++ cond b (file ∷ []) []
with_file true old mid new own before file e f g h =
    ap items_of e ∙ g ∙ ap (λ xs. xs ++ file ∷ []) (h refl)
with_file false old mid new own before file e f g h = ap items_of (e ∙ f) ∙ sym (append-nil (items_of old))

-- the files of a directory after one was put to those of another or of its own
pub put_with : (dir q : Atoms) (old : BTreeMap Atoms (Vec Atoms Global)) (mid new : Option (Vec Atoms Global))
    (own : Vec Atoms Global) (file : Atoms)
    → new ≡ cond (is_at (path_cmp dir) q) (Some own) mid → mid ≡ cond (is_at (path_cmp dir) q) None (get path_cmp old q)
    → own.items ≡ files_in old dir ++ file ∷ []
    → items_of new ≡ files_in old q ++ cond (same_path dir q) (file ∷ []) []
put_with dir q old mid new own file e f g =
    let same = path_cmp_matches dir q in
    with_file (same_path dir q) (get path_cmp old q) mid new own (files_in old dir) file
    (e ∙ ap (λ b. cond b (Some own) mid) (sym same)) (f ∙ ap (λ b. cond b None (get path_cmp old q)) (sym same)) g
    (λ is. ap (files_in old) ((same_path_decides dir q).0 is))

-- the files that were there, or none
pub items_or_none : (found : Option (Vec Atoms Global)) (none own : Vec Atoms Global) (o : Option (Vec Atoms Global))
    → own ≡ unwrap_or found none → found ≡ o → none.items ≡ [] → own.items ≡ items_of o
items_or_none (Some v) none own o e f g = ap (λ (w : Vec Atoms Global). w.items) e ∙ ap items_of f
items_or_none None none own o e f g = ap (λ (w : Vec Atoms Global). w.items) e ∙ g ∙ ap items_of f
