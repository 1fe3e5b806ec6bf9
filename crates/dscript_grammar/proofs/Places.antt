-- A list of tokens has a file or one place, and reading items one by one finds it.
use Rattle.std.proofs.Common.{◌≡◌, ℕ, suc, ◌+◌, ◌-◌, ◌<◌, ◌≤◌, ◌⊎◌, true, false, ◌&&◌, nat_le, List, [], ◌++◌, length, take, drop, Option, Some, None, refl, ap, sym, ◌∙◌, subst, inl, inr, arith}
use Rattle.std.proofs.lemmas.Bool.Decides.{nat_tests}
use Rattle.std.proofs.lemmas.List.{append-nil, length-append, take-append-drop, length-drop, take_all}
use Rattle.std.proofs.lemmas.Option.{same_Some, none-some}
use Rattle.std.proofs.Math.Seq.{take-append_seam}
use Rattle.dscript_lex.specs.declared.token.TokenKind.{TokenKind}
use Rattle.dscript_ast.specs.FileTree.{ItemTree, FileTree, Project, Config, Module}
use Rattle.dscript_ast.specs.declared.file.Form.{Form}
use Rattle.dscript_ast.specs.declared.file.Form.TheVariants as forms
use Rattle.dscript_grammar.specs.declared.height.TheConstants.{MAX_HEIGHT}
use Rattle.dscript_grammar.specs.Language.{many}
use Rattle.dscript_grammar.specs.Reading.{Read, got, and_then, pick}
use Rattle.dscript_grammar.specs.FileGrammar.{item_at, file_at}
use Rattle.dscript_grammar.specs.FileReading.{at_end, items_of, as_project, read_file, file_of, max_item_height, tokens_read}
use Rattle.dscript_grammar.specs.Derives.{Derives}
use Rattle.dscript_grammar.specs.Place.{IsProjectUpTo, IsPlace, IsRefusedAt}
use Rattle.dscript_grammar.proofs.ContextFree.{items_free}
use Rattle.dscript_grammar.proofs.FileComplete.{item_complete}
use Rattle.dscript_grammar.proofs.FileLaws.{reading_sound, reading_complete, higher}
use Rattle.dscript_grammar.proofs.Items.{longest, items_shorter, goes_on}

-- items are prefix free
pub items_prefix_free : (i j : ItemTree) (h k : ℕ) (ts us vs : List TokenKind) → item_at h i ts us → item_at k j ts vs → (i ≡ j) × (us ≡ vs)
items_prefix_free i j h k ts us vs p q =
    let a = item_complete (h + k) h (omega arith) i ts us p in
    let b = item_complete (h + k) k (omega arith) j ts vs q in
    let e = same_Some _ _ (sym a.is ∙ b.is) in
    (ap (λ r. r.value) e, ap (λ r. r.rest) e)

-- the tokens that some items are derived from, when the others are taken away
cut_items : (h : ℕ) (xs : List ItemTree) (ts rest : List TokenKind) → many (item_at h) xs ts rest → many (item_at h) xs (take (length ts - length rest) ts) []
cut_items h xs ts rest p =
    let x = items_free h xs ts rest p in
    let count : length ts - length rest ≡ length x.tokens = omega (arith, ap length x.split, length-append x.tokens rest) in
    let same : take (length ts - length rest) ts ≡ x.tokens ++ [] =
    ap (λ n. take n ts) count ∙ ap (take (length x.tokens)) x.split ∙ take-append_seam x.tokens rest ∙ sym (append-nil x.tokens) in
    subst (λ (us : List TokenKind). many (item_at h) xs us []) (sym same) (x.derived [])

-- the tokens that some items are derived from, when others are put after them
followed_items : (h : ℕ) (xs : List ItemTree) (ts more : List TokenKind) → many (item_at h) xs ts [] → many (item_at h) xs (ts ++ more) more
followed_items h xs ts more p =
    let x = items_free h xs ts [] p in
    subst (λ (us : List TokenKind). many (item_at h) xs (us ++ more) more) (sym (x.split ∙ append-nil x.tokens)) (x.derived more)

-- the tokens of the items that are read are a project file
read_up_to : (ts : List TokenKind) → IsProjectUpTo ts (tokens_read ts)
unfolding file_at
read_up_to ts =
    let xs = items_of max_item_height ts in
    let p = longest max_item_height (length ts) ts (omega arith) in
    record {
      within = omega arith;
      file = Project xs.value;
      height = MAX_HEIGHT;
      derived = record { counts = omega arith; derived = cut_items max_item_height xs.value ts xs.rest (p.derived max_item_height p.within) };
    }

project_items : (ts : List TokenKind) (f : FileTree) → file_at MAX_HEIGHT forms.Project f ts [] → (xs : List ItemTree) × many (item_at max_item_height) xs ts []
unfolding file_at
project_items ts (Project xs) p = (xs, p)
project_items ts (Config e) p = absurd p
project_items ts (Module e) p = absurd p

-- no more tokens are a project file
read_most : (ts : List TokenKind) (n : ℕ) → IsProjectUpTo ts n → n ≤ tokens_read ts
read_most ts n u =
    let d = higher forms.Project (take n ts) u.file u.height MAX_HEIGHT u.derived.counts (omega arith) u.derived in
    let items = project_items (take n ts) u.file d.derived in
    let q : many (item_at max_item_height) items.0 ts (drop n ts) =
    subst (λ (us : List TokenKind). many (item_at max_item_height) items.0 us (drop n ts)) (take-append-drop n ts) (followed_items max_item_height items.0 (take n ts) (drop n ts) items.1) in
    let c = goes_on max_item_height (length ts) max_item_height (omega arith) items.0 ts (drop n ts) q (omega arith) in
    let l : length (items_of max_item_height ts).rest ≤ length (drop n ts) =
    subst (λ (us : List TokenKind). length us ≤ length (drop n ts)) (sym (ap (λ r. r.rest) c.is)) (items_shorter max_item_height c.bound (drop n ts) c.enough) in
    omega (arith, l, length-drop n ts, u.within)

pub place_read : (ts : List TokenKind) → IsPlace forms.Project ts (tokens_read ts)
place_read ts = (read_up_to ts, read_most ts)

pub one_place : (form : Form) (ts : List TokenKind) (n m : ℕ) → IsPlace form ts n → IsPlace form ts m → n ≡ m
one_place forms.Project ts n m p q = omega (arith, p.1 m q.0, q.1 n p.0)
one_place forms.Config ts n m p q = p ∙ sym q
one_place forms.Module ts n m p q = p ∙ sym q

a_place : (form : Form) (ts : List TokenKind) → (n : ℕ) × IsPlace form ts n
a_place forms.Project ts = (tokens_read ts, place_read ts)
a_place forms.Config ts = (0, refl)
a_place forms.Module ts = (0, refl)

none_derived : (form : Form) (ts : List TokenKind) → file_of form ts ≡ None → (f : FileTree) (h : ℕ) → Derives form ts f h → ⊥
none_derived form ts e f h d = none-some f (sym e ∙ reading_complete form ts f h d)

-- what is refused by the reader is refused at the place that it finds
pub refused_at : (form : Form) (ts : List TokenKind) (n : ℕ) → file_of form ts ≡ None → IsPlace form ts n → IsRefusedAt form ts n
refused_at form ts n e p = record { no_file = none_derived form ts e; place = p }

pub file_or_place : (form : Form) (ts : List TokenKind) → ((f : FileTree) × Derives form ts f MAX_HEIGHT) ⊎ ((n : ℕ) × IsRefusedAt form ts n)
file_or_place form ts = by (file_of form ts) refl
  where
    by : (o : Option FileTree) → file_of form ts ≡ o → ((f : FileTree) × Derives form ts f MAX_HEIGHT) ⊎ ((n : ℕ) × IsRefusedAt form ts n)
    by (Some f) e = inl (f, reading_sound form ts f e)
    by None e = let p = a_place form ts in inr (p.0, refused_at form ts p.0 e p.1)

-- a project file is refused at a token
pub at_a_token : (ts : List TokenKind) (n : ℕ) → IsRefusedAt forms.Project ts n → n < length ts
at_a_token ts n r =
    let u = r.place.0 in
    let short : n ≡ length ts → ⊥ = λ e. r.no_file u.file u.height (subst (λ (us : List TokenKind). Derives forms.Project us u.file u.height) (take_all n ts (omega (arith, e))) u.derived) in
    omega (arith, short, u.within)

pub reading_refuses : (ts : List TokenKind) → file_of forms.Project ts ≡ None → IsRefusedAt forms.Project ts (tokens_read ts)
reading_refuses ts e = refused_at forms.Project ts (tokens_read ts) e (place_read ts)

pub refusal_is_read : (ts : List TokenKind) (n : ℕ) → IsRefusedAt forms.Project ts n → n ≡ tokens_read ts
refusal_is_read ts n r = one_place forms.Project ts n (tokens_read ts) r.place (place_read ts)

-- from the items that are read to the file, and to the place
pub project_of_items : (ts : List TokenKind) (xs : List ItemTree) (height : ℕ) → items_of max_item_height ts ≡ record { value = xs; height = height; rest = [] } → file_of forms.Project ts ≡ Some (Project xs)
unfolding file_of read_file as_project and_then pick at_end
project_of_items ts xs height e =
    let p = longest max_item_height (length ts) ts (omega arith) in
    let low : height ≤ max_item_height = subst (λ (r : Read (List ItemTree)). r.height ≤ max_item_height) e p.within in
    let counts : nat_le (suc height) MAX_HEIGHT ≡ true = grind (arith, nat_tests, low) in
    ap (λ r. and_then (as_project r) (λ f. pick (at_end f.rest && nat_le f.height MAX_HEIGHT) (Some f.value) None)) e ∙ ap (λ b. pick b (Some (Project xs)) None) counts

pub no_project_of_items : (ts : List TokenKind) (xs : List ItemTree) (height : ℕ) (rest : List TokenKind) → items_of max_item_height ts ≡ record { value = xs; height = height; rest = rest } → at_end rest ≡ false → file_of forms.Project ts ≡ None
unfolding file_of read_file as_project and_then pick
no_project_of_items ts xs height rest e more =
    ap (λ r. and_then (as_project r) (λ f. pick (at_end f.rest && nat_le f.height MAX_HEIGHT) (Some f.value) None)) e
    ∙ ap (λ b. and_then (pick b (got (Project xs) (suc height) rest) None) (λ f. pick (at_end f.rest && nat_le f.height MAX_HEIGHT) (Some f.value) None)) more

pub refused_after_items : (ts : List TokenKind) (xs : List ItemTree) (height : ℕ) (rest : List TokenKind) → items_of max_item_height ts ≡ record { value = xs; height = height; rest = rest } → at_end rest ≡ false
    → IsRefusedAt forms.Project ts (length ts - length rest)
refused_after_items ts xs height rest e more =
    subst (λ (r : Read (List ItemTree)). IsRefusedAt forms.Project ts (length ts - length r.rest)) e (reading_refuses ts (no_project_of_items ts xs height rest e more))
