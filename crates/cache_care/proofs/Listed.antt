-- What becomes of the names of a kind, one name after another.
use Rattle.std.proofs.Common.{◌≡◌, ℕ, ◌+◌, ◌<◌, ◌≤◌, Bool, true, false, cond, not, List, [], ◌∷◌, ◌++◌, codes, drop, filter, flat_map, get_or, length, map, take, Result, Ok, Err, refl, sym, ap, ◌∙◌, subst}
use Rattle.std.specs.Prelude.{OnOk}
use Rattle.std.specs.List.{AllByRecursion, list_any}
use Rattle.std.specs.Str.{bytes_eq}
use Rattle.std.proofs.lemmas.List.{append-nil, append_assoc, map-append, take_all}
use Rattle.std.proofs.lemmas.List.Elements.{filter-append}
use Rattle.bx_digest.specs.Digests.{IsDigest}
use Rattle.bx_digest.proofs.HexTexts.{digest_of_hex_text}
use Rattle.bx_io.specs.Holdings.{Change, Drop, Holdings}
use Rattle.bx_io.specs.Names.{IsName}
use Rattle.prints.specs.Lines.{begins}
use Rattle.memo_format.specs.StoreNames.{at_blob, at_entry, at_list}
use Rattle.memo_format.specs.declared.selector.Selector.{Selector}
use Rattle.cache_care_check.specs.Named.{name_text}
use Rattle.cache_care_check.proofs.NameParts.{hex_text}
use Rattle.cache_care_check.specs.declared.names.Named.{Named}
use Rattle.cache_care_check.specs.declared.names.Named.TheVariants as kinds
use Rattle.cache_care.specs.Digests.{AddsAll, IsSetOf, has_digest}
use Rattle.cache_care.specs.Trimming.{AreTrims, IsListName, is_selected, remaining}
use Rattle.cache_care.specs.declared.digests.DigestSet.{DigestSet}
use Rattle.cache_care.proofs.NamedDigests.{named_is, selected_is}
use Rattle.cache_care.proofs.Planned.{mapped_more}
use Rattle.cache_care.proofs.Sets.{adds_none, adds_same, set_more}

-- ## One name

pub of_kind : (p : List ℕ → Bool) (name : List ℕ) → p name ≡ true → filter p (name ∷ []) ≡ name ∷ []
of_kind p name holds = ap (λ b. cond b (name ∷ []) []) holds

pub not_of_kind : (p : List ℕ → Bool) (name : List ℕ) → p name ≡ false → filter p (name ∷ []) ≡ []
not_of_kind p name other = ap (λ b. cond b (name ∷ []) []) other

pub one_flat : {Y : Type 0} (f : List ℕ → List Y) (p : List ℕ → Bool) (name : List ℕ) → p name ≡ true → f name ≡ flat_map f (filter p (name ∷ []))
one_flat f p name holds = sym (append-nil (f name)) ∙ ap (flat_map f) (sym (of_kind p name holds))

pub none_flat : {Y : Type 0} (f : List ℕ → List Y) (p : List ℕ → Bool) (name : List ℕ) → p name ≡ false → flat_map f (filter p (name ∷ [])) ≡ []
none_flat f p name other = ap (flat_map f) (not_of_kind p name other)

-- nothing is planned, and nothing is added
pub unchanged_by : (before changes : List Change) → changes ≡ [] → before ≡ before ++ changes
unchanged_by before changes none = sym (append-nil before) ∙ ap (λ (cs : List Change). before ++ cs) (sym none)

pub adds_nothing : (set : DigestSet) (digests : List (List ℕ)) → digests ≡ [] → AddsAll set set digests
adds_nothing set digests none = adds_same set set [] digests (sym none) (adds_none set)

pub trims_as : {E : Type 0} (r : Result (Unit {0}) E) (p : List ℕ → Bool) (name : List ℕ) (before now : List Change) → p name ≡ true
    → OnOk r ((names : List (List ℕ)) → AreTrims names before → AreTrims (names ++ name ∷ []) now)
    → OnOk r ((names : List (List ℕ)) → AreTrims names before → AreTrims (names ++ filter p (name ∷ [])) now)
trims_as r p name before now holds h =
    subst (λ (ks : List (List ℕ)). OnOk r ((names : List (List ℕ)) → AreTrims names before → AreTrims (names ++ ks) now)) (sym (of_kind p name holds)) h

pub trims_not : (p : List ℕ → Bool) (name : List ℕ) (before : List Change) → p name ≡ false
    → (names : List (List ℕ)) → AreTrims names before → AreTrims (names ++ filter p (name ∷ [])) before
trims_not p name before other names h =
    subst (λ (ks : List (List ℕ)). AreTrims ks before) (sym (append-nil names) ∙ ap (λ (ks : List (List ℕ)). names ++ ks) (sym (not_of_kind p name other))) h

-- ## Kinds by what a name is read as

pub of_list : (name text digest : List ℕ) (n : Named) → text ≡ name → text ≡ name_text n → n ≡ kinds.Selectors digest → name ≡ at_list digest
of_list name text digest n same read is = sym same ∙ read ∙ ap name_text is

-- the digits of a name are those of a digest
pub list_name : (name digest : List ℕ) → IsName name → name ≡ at_list digest → IsListName name
list_name name digest is e =
    let d = digest_of_hex_text (drop 2 name) (hex_text name is) in
    (d.digest, d.is_digest, e ∙ ap (λ (t : List ℕ). codes "w/" ++ t) (sym (ap (drop 2) e) ∙ sym d.text_is))

pub of_entry : (name text digest : List ℕ) (n : Named) → text ≡ name → text ≡ name_text n → n ≡ kinds.Entry digest → name ≡ at_entry digest
of_entry name text digest n same read is = sym same ∙ read ∙ ap name_text is

pub of_content : (name text digest : List ℕ) (n : Named) → text ≡ name → text ≡ name_text n → n ≡ kinds.Content digest → name ≡ at_blob digest
of_content name text digest n same read is = sym same ∙ read ∙ ap name_text is

pub list_kind : (name digest : List ℕ) → name ≡ at_list digest
    → (begins (codes "w/") name ≡ true) × (begins (codes "e/") name ≡ false) × (begins (codes "b/") name ≡ false)
list_kind name digest e = (ap (begins (codes "w/")) e, ap (begins (codes "e/")) e, ap (begins (codes "b/")) e)

pub entry_kind : (name digest : List ℕ) → name ≡ at_entry digest
    → (begins (codes "w/") name ≡ false) × (begins (codes "e/") name ≡ true) × (begins (codes "b/") name ≡ false)
entry_kind name digest e = (ap (begins (codes "w/")) e, ap (begins (codes "e/")) e, ap (begins (codes "b/")) e)

pub content_kind : (name digest : List ℕ) → name ≡ at_blob digest
    → (begins (codes "w/") name ≡ false) × (begins (codes "e/") name ≡ false) × (begins (codes "b/") name ≡ true)
content_kind name digest e = (ap (begins (codes "w/")) e, ap (begins (codes "e/")) e, ap (begins (codes "b/")) e)

-- ## One name after another

pub flat_both : {Y : Type 0} (f : List ℕ → List Y) (xs ys : List (List ℕ)) → flat_map f (xs ++ ys) ≡ flat_map f xs ++ flat_map f ys
flat_both f [] ys = refl
flat_both f (x ∷ xs) ys = ap (λ rest. f x ++ rest) (flat_both f xs ys) ∙ sym (append_assoc (f x) (flat_map f xs) (flat_map f ys))

pub kind_next : {X : Type 0} (p : List ℕ → Bool) (text : X → List ℕ) (names : List X) (i : ℕ) (x : X) → i < length names → x ≡ get_or names i x
    → filter p (map text (take (i + 1) names)) ≡ filter p (map text (take i names)) ++ filter p (text x ∷ [])
kind_next p text names i x l is = ap (filter p) (mapped_more text names i x l is) ∙ filter-append p (map text (take i names)) (text x ∷ [])

pub changes_next : {X : Type 0} (f : List (List ℕ) → List Change) (both : (xs ys : List (List ℕ)) → f (xs ++ ys) ≡ f xs ++ f ys) (p : List ℕ → Bool)
    (text : X → List ℕ) (names : List X) (i : ℕ) (x : X) (start before now : List Change) → i < length names → x ≡ get_or names i x
    → before ≡ start ++ f (filter p (map text (take i names))) → now ≡ before ++ f (filter p (text x ∷ []))
    → now ≡ start ++ f (filter p (map text (take (i + 1) names)))
changes_next f both p text names i x start before now l is so_far step =
    let done : List (List ℕ) = filter p (map text (take i names)) in
    let next : List (List ℕ) = filter p (text x ∷ []) in
    step ∙ ap (λ (cs : List Change). cs ++ f next) so_far ∙ append_assoc start (f done) (f next)
    ∙ ap (λ (cs : List Change). start ++ cs) (sym (both done next) ∙ ap f (sym (kind_next p text names i x l is)))

pub set_next : {X : Type 0} (f : List (List ℕ) → List (List ℕ)) (both : (xs ys : List (List ℕ)) → f (xs ++ ys) ≡ f xs ++ f ys) (p : List ℕ → Bool)
    (text : X → List ℕ) (names : List X) (i : ℕ) (x : X) (before now : DigestSet) → i < length names → x ≡ get_or names i x
    → IsSetOf before (f (filter p (map text (take i names)))) → AddsAll before now (f (filter p (text x ∷ [])))
    → IsSetOf now (f (filter p (map text (take (i + 1) names))))
set_next f both p text names i x before now l is so_far step =
    let done : List (List ℕ) = filter p (map text (take i names)) in
    let next : List (List ℕ) = filter p (text x ∷ []) in
    subst (IsSetOf now) (sym (both done next) ∙ ap f (sym (kind_next p text names i x l is))) (set_more before now (f done) (f next) so_far step)

pub trims_next : {X : Type 0} (p : List ℕ → Bool) (text : X → List ℕ) (names : List X) (i : ℕ) (x : X) (first : List (List ℕ)) (before now : List Change)
    → i < length names → x ≡ get_or names i x → AreTrims (first ++ filter p (map text (take i names))) before
    → ((ns : List (List ℕ)) → AreTrims ns before → AreTrims (ns ++ filter p (text x ∷ [])) now)
    → AreTrims (first ++ filter p (map text (take (i + 1) names))) now
trims_next p text names i x first before now l is so_far step =
    let done : List (List ℕ) = filter p (map text (take i names)) in
    subst (λ (ns : List (List ℕ)). AreTrims ns now)
    (append_assoc first done (filter p (text x ∷ [])) ∙ ap (λ (ns : List (List ℕ)). first ++ ns) (sym (kind_next p text names i x l is)))
    (step (first ++ done) so_far)

-- all names
pub kind_whole : {X : Type 0} (p : List ℕ → Bool) (text : X → List ℕ) (names : List X) (i : ℕ) → length names ≤ i
    → filter p (map text (take i names)) ≡ filter p (map text names)
kind_whole p text names i l = ap (λ ns. filter p (map text ns)) (take_all i names l)

-- ## Lists

pub strongs_both : (f : List ℕ → List Selector) (xs ys : List (List ℕ))
    → map (λ (s : Selector). s.strong) (flat_map f (xs ++ ys)) ≡ map (λ (s : Selector). s.strong) (flat_map f xs) ++ map (λ (s : Selector). s.strong) (flat_map f ys)
strongs_both f xs ys =
    ap (map (λ (s : Selector). s.strong)) (flat_both f xs ys) ∙ map-append (λ (s : Selector). s.strong) (flat_map f xs) (flat_map f ys)

-- ## Entries

pub drops_both : (q : List ℕ → Bool) (xs ys : List (List ℕ)) → map Drop (filter q (xs ++ ys)) ≡ map Drop (filter q xs) ++ map Drop (filter q ys)
drops_both q xs ys = ap (map Drop) (filter-append q xs ys) ∙ map-append Drop (filter q xs) (filter q ys)

pub named_both : (f : List ℕ → List (List ℕ)) (q : List ℕ → Bool) (xs ys : List (List ℕ))
    → flat_map f (filter q (xs ++ ys)) ≡ flat_map f (filter q xs) ++ flat_map f (filter q ys)
named_both f q xs ys = ap (flat_map f) (filter-append q xs ys) ∙ flat_both f (filter q xs) (filter q ys)

-- whether a set of the selectors that stay has the digest is whether its entry is selected
pub chosen : (S : Holdings) (keep : ℕ) (selected : DigestSet) (name strong : List ℕ) → IsSetOf selected (map (λ (s : Selector). s.strong) (remaining S keep))
    → IsDigest strong → name ≡ at_entry strong → is_selected S keep name ≡ has_digest selected strong
chosen S keep selected name strong is digest named =
    ap (is_selected S keep) named ∙ selected_is S keep strong digest ∙ sym (is strong)

-- a name of the kind is dropped where it does not pass
pub dropped_one : (q p : List ℕ → Bool) (name : List ℕ) (b : Bool) → p name ≡ true → q name ≡ b
    → cond b [] (Drop name ∷ []) ≡ map Drop (filter (λ n. not (q n)) (filter p (name ∷ [])))
dropped_one q p name b holds is =
    by_test b ∙ ap (λ t. map Drop (cond (not t) (name ∷ []) [])) (sym is)
    ∙ ap (λ (ns : List (List ℕ)). map Drop (filter (λ n. not (q n)) ns)) (sym (of_kind p name holds))
  where
    by_test : (t : Bool) → cond t [] (Drop name ∷ []) ≡ map Drop (cond (not t) (name ∷ []) [])
    by_test true = refl
    by_test false = refl

pub dropped_none : (q p : List ℕ → Bool) (name : List ℕ) → p name ≡ false → map Drop (filter q (filter p (name ∷ []))) ≡ []
dropped_none q p name other = ap (λ (ns : List (List ℕ)). map Drop (filter q ns)) (not_of_kind p name other)

-- and names what it names where it does
pub named_one : (f : List ℕ → List (List ℕ)) (q p : List ℕ → Bool) (name : List ℕ) (b : Bool) → p name ≡ true → q name ≡ b
    → cond b (f name) [] ≡ flat_map f (filter q (filter p (name ∷ [])))
named_one f q p name b holds is =
    by_test b ∙ ap (λ t. flat_map f (cond t (name ∷ []) [])) (sym is) ∙ ap (λ (ns : List (List ℕ)). flat_map f (filter q ns)) (sym (of_kind p name holds))
  where
    by_test : (t : Bool) → cond t (f name) [] ≡ flat_map f (cond t (name ∷ []) [])
    by_test true = sym (append-nil (f name))
    by_test false = refl

pub named_no : (f : List ℕ → List (List ℕ)) (q p : List ℕ → Bool) (name : List ℕ) → p name ≡ false → flat_map f (filter q (filter p (name ∷ []))) ≡ []
named_no f q p name other = ap (λ (ns : List (List ℕ)). flat_map f (filter q ns)) (not_of_kind p name other)

-- ## Contents

-- whether a set of what is named has the digest is whether its content is named
pub named_content : (digests : List (List ℕ)) (set : DigestSet) (name digest : List ℕ) → IsSetOf set digests → AllByRecursion IsDigest digests → IsDigest digest
    → name ≡ at_blob digest → list_any (λ d. bytes_eq (at_blob d) name) digests ≡ has_digest set digest
named_content digests set name digest is all own named =
    ap (λ (n : List ℕ). list_any (λ d. bytes_eq (at_blob d) n) digests) named ∙ named_is digests digest all own ∙ sym (is digest)
