-- The files that seals list are found by their paths.
use Rattle.std.proofs.Common.{zero, suc, ◌≡◌, ℕ, ◌+◌, ◌<◌, ◌≤◌, List, [], ◌∷◌, ◌++◌, ◌⊎◌, length, drop, get_or, map, take, refl, ap, sym, ◌∙◌, inl, inr, arith, append_assoc, append-nil, add-one}
use Rattle.std.specs.Prelude.{Any, Contains, slice_range}
use Rattle.std.proofs.lemmas.List.{drop_all, get_or-map, length-map, take_more}
use Rattle.std.proofs.lemmas.List.Elements.{Contains-append_left, Contains-append_right}
use Rattle.std.proofs.Math.Seq.{drop-cons}
use Rattle.bx_tree.specs.declared.file_input.FileInput.{FileInput}
use Rattle.bx_tree_paths.specs.Spans.{IsBetween, IsSpanOf}
use Rattle.bx_tree_paths.proofs.BetweenTexts.{beside_place, place_in_span, text_between, under_between}
use Rattle.pip_model_types.specs.declared.pip.Pip.{Pip}
use Rattle.pip_model_types.specs.Kinds.{listed_files}
use Rattle.pip_model.specs.Listings.{IsNear, IsNearText, ListsNear, listing, listing_seal, listings_from}
use Rattle.pip_model.specs.declared.listings.Listing.{Listing}

-- ## One by one

-- one element more of a list of what a function makes of each
pub map_more : {X Y : Type 0} (f : X → Y) (xs : List X) (i : ℕ) (x : X) (start now next : List Y) → i < length xs → x ≡ get_or xs i x
    → next ≡ now ++ f x ∷ [] → now ≡ start ++ map f (take i xs) → next ≡ start ++ map f (take (i + 1) xs)
map_more {X = X} f xs i x start now next l is e h =
    e ∙ ap (λ ys. ys ++ f x ∷ []) h ∙ append_assoc start (map f (take i xs)) (f x ∷ [])
    ∙ ap (λ ys. start ++ ys)
    (sym (ap (map f) (take_more xs i x l) ∙ push_map (take i xs) (get_or xs i x) ∙ ap (λ y. map f (take i xs) ++ f y ∷ []) (sym is)))
  where
    push_map : (ys : List X) (y : X) → map f (ys ++ y ∷ []) ≡ map f ys ++ f y ∷ []
    push_map [] y = refl
    push_map (z ∷ zs) y = ap (λ ws. f z ∷ ws) (push_map zs y)

next_listings : (pips : List Pip) (j : ℕ) (pip : Pip) → j < length pips → pip ≡ get_or pips j pip
    → listings_from j (drop j pips) ≡ map (listing j) (listed_files pip.kind) ++ listings_from (j + 1) (drop (j + 1) pips)
next_listings pips j pip l is =
    ap (listings_from j) (drop-cons pips j pip l)
    ∙ ap (λ (p : Pip). map (listing j) (listed_files p.kind) ++ listings_from (j + 1) (drop (suc j) pips)) (sym is)
    ∙ ap (λ m. map (listing j) (listed_files pip.kind) ++ listings_from (j + 1) (drop m pips)) (sym (add-one j))

pub pips_more : (pips : List Pip) (j : ℕ) (pip : Pip) (old new : List Listing) → j < length pips → pip ≡ get_or pips j pip
    → new ≡ old ++ map (listing j) (listed_files pip.kind) → old ++ listings_from j (drop j pips) ≡ listings_from 0 pips
    → new ++ listings_from (j + 1) (drop (j + 1) pips) ≡ listings_from 0 pips
pips_more pips j pip old new l is e h =
    let here = map (listing j) (listed_files pip.kind) in
    let rest = listings_from (j + 1) (drop (j + 1) pips) in
    ap (λ ls. ls ++ rest) e ∙ append_assoc old here rest
    ∙ ap (λ ls. old ++ ls) (sym (next_listings pips j pip l is)) ∙ h

pub pips_all : (pips : List Pip) (j : ℕ) (old : List Listing) → length pips ≤ j → old ++ listings_from j (drop j pips) ≡ listings_from 0 pips
    → old ≡ listings_from 0 pips
pips_all pips j old l h = sym (append-nil old) ∙ ap (λ ps. old ++ listings_from j ps) (sym (drop_all j pips l)) ∙ h

-- ## Near a text

-- the path has the text
abbrev pub IsAtText : List ℕ → Listing → Type 0
IsAtText text l = IsBetween (text ++ []) (text ++ 0 ∷ []) l.path

-- the path lies below the one with the text
abbrev pub IsBelowText : List ℕ → Listing → Type 0
IsBelowText text l = IsBetween (text ++ 47 ∷ []) (text ++ 48 ∷ []) l.path

-- a range has the seals of all files near a text if it has the places of those at it and of those below it
pub near_seal : (text : List ℕ) (files : List Listing) (seals : List ℕ) (a b c d from to : ℕ) → seals ≡ map listing_seal files
    → IsSpanOf (IsAtText text) files a b → IsSpanOf (IsBelowText text) files c d → (to ≡ b) ⊎ (to ≡ d)
    → ((k : ℕ) → a ≤ k → k < b → (from ≤ k) × (k < to)) → ((k : ℕ) → c ≤ k → k < d → (from ≤ k) × (k < to))
    → (l : Listing) → Contains files l → IsNearText text l.path → Contains (slice_range seals from to) l.seal
near_seal text files seals a b c d from to beside at below end has_at has_below l k near = elim near [
  | inl same ↦
      let p = place_in_span (IsAtText text) files a b l at k (text_between text 0 l.path same) in
      let in' = has_at p.0 p.1 p.2 in beside_place listing_seal files seals from to p.0 l beside in'.0 in'.1 (ends_within end) p.3
  | inr (rest, e) ↦
      let p = place_in_span (IsBelowText text) files c d l below k (under_between text rest l.path e) in
      let in' = has_below p.0 p.1 p.2 in beside_place listing_seal files seals from to p.0 l beside in'.0 in'.1 (ends_within end) p.3
]
  where
    ends_within : (to ≡ b) ⊎ (to ≡ d) → to ≤ length files
    ends_within e = elim e [
      | inl first ↦ omega (arith, first, at.within)
      | inr last ↦ omega (arith, last, below.within)
    ]

among_files : (j : ℕ) (text : List ℕ) (files : List FileInput) → Any (IsNear text) files
    → (l : Listing) × Contains (map (listing j) files) l × IsNearText text l.path × (l.seal ≡ j)
among_files j text files (k, file, less, is, near) = (
  listing j file,
  (k, omega (arith, less, length-map files (listing j)), get_or-map (listing j) files k file (listing j file) less ∙ ap (listing j) is),
  near,
  refl,
)

-- a seal that lists a file near a text is found there
pub listed_there : (pips : List Pip) (i j : ℕ) (text : List ℕ) → ListsNear pips j text
    → (l : Listing) × Contains (listings_from i pips) l × IsNearText text l.path × (l.seal ≡ i + j)
listed_there [] i j text h = absurd h
listed_there (pip ∷ pips) i zero text h =
    let f = among_files i text (listed_files pip.kind) h in
    (f.0, Contains-append_left (map (listing i) (listed_files pip.kind)) (listings_from (i + 1) pips) f.0 f.1, f.2, omega (arith, f.3))
listed_there (pip ∷ pips) i (suc j) text h =
    let f = listed_there pips (i + 1) j text h in
    (f.0, Contains-append_right (map (listing i) (listed_files pip.kind)) (listings_from (i + 1) pips) f.0 f.1, f.2, f.3 ∙ omega arith)
