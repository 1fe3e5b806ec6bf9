-- Two module files in one directory are one.
use Rattle.std.proofs.Common.{◌≡◌, ◌⊎◌, ◌-◌, ℕ, Bool, true, false, List, [], ◌∷◌, ◌++◌, cond, length, take, drop, codes, refl, ap, sym, ◌∙◌, inl, inr, arith}
use Rattle.std.specs.Prelude.{◌||◌, nat_eq}
use Rattle.std.specs.List.{ends_with, onto_first, slice_split}
use Rattle.std.proofs.Math.Seq.{take-append_seam}
use Rattle.std.proofs.lemmas.Bool.{false≢true}
use Rattle.std.proofs.lemmas.List.{length-append, take-append-drop}
use Rattle.std.proofs.lemmas.Slice.Eq.{bytes_eq-Decides}
use Rattle.std.specs.Str.{bytes_eq}
use Rattle.bx_tree.specs.Paths.{Atoms, IsPath, path_text}
use Rattle.bx_tree.proofs.PathTexts.{is_slash, split-join}
use Rattle.dscript_names_workspace.specs.Paths.{is_module_file}
use Rattle.dscript_names_workspace.specs.Membership.{dir_of}

abbrev module_name : List ℕ
module_name = codes "module.config.dsc"

-- ## Texts split at a slash

never_none : (s : Bool) (b : ℕ) (ps : Atoms) → cond s ([] ∷ ps) (onto_first b ps) ≡ [] → ⊥
never_none true b ps e = cc
never_none false b [] e = cc
never_none false b (p ∷ ps) e = cc

some_part : (bs : List ℕ) → slice_split is_slash bs ≡ [] → ⊥
some_part [] e = cc
some_part (b ∷ bs) e = never_none (is_slash b) b (slice_split is_slash bs) e

onto_more : (x : ℕ) (ps qs : Atoms) → (ps ≡ [] → ⊥) → onto_first x (ps ++ qs) ≡ onto_first x ps ++ qs
onto_more x [] qs n = absurd (n refl)
onto_more x (p ∷ ps) qs n = refl

-- a text splits at a slash into the parts before it and those after it
split-slash : (bs cs : List ℕ) → slice_split is_slash (bs ++ 47 ∷ cs) ≡ slice_split is_slash bs ++ slice_split is_slash cs
split-slash [] cs = refl
split-slash (b ∷ bs) cs =
    ap (λ ps. cond (is_slash b) ([] ∷ ps) (onto_first b ps)) (split-slash bs cs)
    ∙ both (is_slash b) b bs (slice_split is_slash cs)
  where
    both : (s : Bool) (b : ℕ) (bs : List ℕ) (ps : Atoms)
        → cond s ([] ∷ (slice_split is_slash bs ++ ps)) (onto_first b (slice_split is_slash bs ++ ps))
        ≡ cond s ([] ∷ slice_split is_slash bs) (onto_first b (slice_split is_slash bs)) ++ ps
    both true b bs ps = refl
    both false b bs ps = onto_more b (slice_split is_slash bs) ps (some_part bs)

-- ## Module files

-- the last atom of a module file is its name
abbrev IsLast : Atoms → Type 0
IsLast path = (prefix : Atoms) × (path ≡ prefix ++ module_name ∷ [])

name_split : slice_split is_slash module_name ≡ module_name ∷ []
name_split = refl

from_text : (path : Atoms) (text : List ℕ) → slice_split is_slash text ≡ path
    → (bytes_eq text module_name ≡ true) ⊎ ((prefix : List ℕ) × (text ≡ prefix ++ 47 ∷ module_name)) → IsLast path
from_text path text e (inl whole) =
    ([], sym e ∙ ap (slice_split is_slash) ((bytes_eq-Decides text module_name).0 whole) ∙ name_split)
from_text path text e (inr after) = (
  slice_split is_slash after.0,
  sym e ∙ ap (slice_split is_slash) after.1 ∙ split-slash after.0 module_name
      ∙ ap (λ ps. slice_split is_slash after.0 ++ ps) name_split,
)

ending : (text : List ℕ) → ends_with nat_eq text (codes "/module.config.dsc") ≡ true
    → (prefix : List ℕ) × (text ≡ prefix ++ 47 ∷ module_name)
ending text e =
    let n = length text - length (codes "/module.config.dsc") in (
      take n text,
      sym (take-append-drop n text)
          ∙ ap (λ rest. take n text ++ rest) (sym ((bytes_eq-Decides (codes "/module.config.dsc") (drop n text)).0 e)),
    )

either : (text : List ℕ) (a b : Bool) → bytes_eq text module_name ≡ a
    → ends_with nat_eq text (codes "/module.config.dsc") ≡ b → (a || b) ≡ true
    → (bytes_eq text module_name ≡ true) ⊎ ((prefix : List ℕ) × (text ≡ prefix ++ 47 ∷ module_name))
either text true b e f h = inl e
either text false true e f h = inr (ending text f)
either text false false e f h = absurd (false≢true h)

last_is : (path : Atoms) → IsPath path → is_module_file path ≡ true → IsLast path
last_is [] h e = absurd (false≢true e)
last_is (a ∷ rest) h e =
    let text = path_text (a ∷ rest) in
    from_text (a ∷ rest) text (split-join a rest h.atoms)
    (either text (bytes_eq text module_name) (ends_with nat_eq text (codes "/module.config.dsc")) refl refl e)

parent-last : (prefix : Atoms) (name : List ℕ) → dir_of (prefix ++ name ∷ []) ≡ prefix
parent-last [] name = refl
parent-last (a ∷ prefix) name =
    let n : length (prefix ++ name ∷ []) ≡ length (a ∷ prefix) = omega (arith, length-append prefix (name ∷ [])) in
    ap (λ k. take k (a ∷ (prefix ++ name ∷ []))) n ∙ take-append_seam (a ∷ prefix) (name ∷ [])

pub same_dir : (p q : Atoms) → IsPath p → IsPath q → is_module_file p ≡ true → is_module_file q ≡ true
    → dir_of p ≡ dir_of q → p ≡ q
same_dir p q h k m n e =
    let a = last_is p h m in
    let b = last_is q k n in
    let prefixes : a.0 ≡ b.0 =
    sym (parent-last a.0 module_name) ∙ ap dir_of (sym a.1) ∙ e ∙ ap dir_of b.1 ∙ parent-last b.0 module_name in
    a.1 ∙ ap (λ f. f ++ module_name ∷ []) prefixes ∙ sym b.1
