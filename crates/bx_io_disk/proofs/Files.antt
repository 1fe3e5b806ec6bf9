-- What becomes of the files of a map in memory.
use Rattle.std.proofs.Common.{◌≡◌, ◌∙◌, ℕ, List, ap, sym, Ok, Some, refl, None, Option, Vec, String, Global, rules, subst, Bool, true, false, Bor, IsSome, cond}
use Rattle.std.specs.Prelude.{option_map, option_copied, is_some, not}
use Rattle.std.proofs.lemmas.Bool.{false≢true}
use Rattle.std.specs.FinMap.{get, gets, insert, remove, get-insert, get-remove, slice_cmp-IsAntisymmetric, nat_cmp-IsAntisymmetric}
use Rattle.std.specs.Ordering.{nat_cmp, eq_by_cmp}
use Rattle.std.specs.Cmp.Lexicographic.{slice_cmp, nat_list_cmp_total}
use Rattle.std.specs.BTreeMap.{BTreeMap, get_by_text}
use Rattle.bx_io.specs.Stored.{holdings_of}
use Rattle.bx_io.proofs.Mapped.{get-holdings_of}
use Rattle.bx_io_disk.specs.Files.{Files, Renames, SameBut}
use Rattle.std.specs.Cmp.{Equal-is}
use Rattle.std.proofs.lemmas.Cmp.{tied_itself}

eq_by_cmp-refl : (q : List ℕ) → eq_by_cmp (slice_cmp nat_cmp) q q ≡ true
eq_by_cmp-refl q = (Equal-is (slice_cmp nat_cmp q q)).1 (tied_itself nat_list_cmp_total q)

pub equal_names : (q name : List ℕ) → eq_by_cmp (slice_cmp nat_cmp) q name ≡ true → q ≡ name
equal_names q name here = slice_cmp-IsAntisymmetric nat_cmp-IsAntisymmetric q name ((Equal-is (slice_cmp nat_cmp q name)).0 here)

pub other_names : (q name : List ℕ) → eq_by_cmp (slice_cmp nat_cmp) q name ≡ false → q ≡ name → ⊥
other_names q name other same =
    let here : eq_by_cmp (slice_cmp nat_cmp) q q ≡ true = eq_by_cmp-refl q in
    false≢true (sym (subst (λ (n : List ℕ). eq_by_cmp (slice_cmp nat_cmp) q n ≡ false) (sym same) other) ∙ here)

pub other_at : (b : Bool) (q name : List ℕ) (put held : Option (List ℕ)) → eq_by_cmp (slice_cmp nat_cmp) q name ≡ b → (q ≡ name → ⊥) → cond b put held ≡ held
other_at true q name put held here other = absurd (other (equal_names q name here))
other_at false q name put held not other = refl

-- ## A map in memory

pub put_here : (files : Files) (path bytes : List ℕ) → get (insert files path bytes) path ≡ Some bytes
put_here files path bytes = grind (gets, rules)

pub put_other : (files : Files) (path bytes q : List ℕ) → (q ≡ path → ⊥) → get (insert files path bytes) q ≡ get files q
put_other files path bytes q other =
    get-insert nat_list_cmp_total files path bytes q ∙ other_at (eq_by_cmp (slice_cmp nat_cmp) q path) q path (Some bytes) (get files q) refl other

pub dropped_here : (files : Files) (path : List ℕ) → get (remove files path) path ≡ None
dropped_here files path = grind (gets, rules)

pub dropped_other : (files : Files) (path q : List ℕ) → (q ≡ path → ⊥) → get (remove files path) q ≡ get files q
dropped_other files path q other =
    get-remove nat_list_cmp_total files path q ∙ other_at (eq_by_cmp (slice_cmp nat_cmp) q path) q path None (get files q) refl other

pub written_to : (before now : Files) (key path items bytes : List ℕ) → now ≡ insert before key items → key ≡ path → items ≡ bytes
    → (get now path ≡ Some bytes) × SameBut before now path
written_to before now key path items bytes is same all =
    let now_is : now ≡ insert before path bytes = is ∙ ap (λ (k : List ℕ). insert before k items) same ∙ ap (λ (b : List ℕ). insert before path b) all in
    (ap (λ (f : Files). get f path) now_is ∙ put_here before path bytes, λ q other. ap (λ (f : Files). get f q) now_is ∙ put_other before path bytes q other)

pub removed_at : (before now : Files) (path : List ℕ) → now ≡ remove before path → (get now path ≡ None) × SameBut before now path
removed_at before now path is =
    (ap (λ (f : Files). get f path) is ∙ dropped_here before path, λ q other. ap (λ (f : Files). get f q) is ∙ dropped_other before path q other)

found_bytes : (lent : Option (Vec ℕ Global)) (v : Vec ℕ Global) (items : List ℕ) → Some v ≡ lent → items ≡ v.items → option_map (λ (w : Vec ℕ Global). w.items) lent ≡ Some items
found_bytes lent v items is same = ap (option_map (λ (w : Vec ℕ Global). w.items)) (sym is) ∙ ap Some (sym same)

pub read_found : (m : BTreeMap (String Global) (Vec ℕ Global)) (path : List ℕ) (v : Vec ℕ Global) (items : List ℕ) → Some v ≡ get_by_text m path → items ≡ v.items
    → get (holdings_of m) path ≡ Some items
read_found m path v items is same = get-holdings_of m path ∙ found_bytes (get_by_text m path) v items is same

pub read_none : (m : BTreeMap (String Global) (Vec ℕ Global)) (path : List ℕ) → None ≡ get_by_text m path → get (holdings_of m) path ≡ None
read_none m path is = get-holdings_of m path ∙ ap (option_map (λ (w : Vec ℕ Global). w.items)) (sym is)

true_is_not : (b : Bool) → true ≡ not b → b ≡ true → ⊥
true_is_not true some here = false≢true (sym some)
true_is_not false some here = false≢true here

pub absent_at : (m : BTreeMap (String Global) (Vec ℕ Global)) (path : List ℕ) (lent : Option (Bor (Vec ℕ Global))) (b : Bool) → is_some lent ≡ not b → b ≡ true
    → option_copied lent ≡ get_by_text m path → get (holdings_of m) path ≡ None
absent_at m path None b some here value = read_none m path value
absent_at m path (Some v) b some here value = absurd (true_is_not b some here)

-- what a look at a map found
pub present_at : (m : BTreeMap (String Global) (Vec ℕ Global)) (path : List ℕ) (lent : Option (Bor (Vec ℕ Global))) → is_some lent ≡ true → option_copied lent ≡ get_by_text m path
    → IsSome (get (holdings_of m) path)
present_at m path None some value = absurd (false≢true some)
present_at m path (Some v) some value = ap is_some (get-holdings_of m path ∙ ap (option_map (λ (w : Vec ℕ Global). w.items)) (sym value))

pub absent_from : (m : BTreeMap (String Global) (Vec ℕ Global)) (path : List ℕ) (lent : Option (Bor (Vec ℕ Global))) → is_some lent ≡ false → option_copied lent ≡ get_by_text m path
    → get (holdings_of m) path ≡ None
absent_from m path None none value = read_none m path value
absent_from m path (Some v) none value = absurd (false≢true (sym none))

-- ## Renaming in memory

not_there : (held : Option (List ℕ)) (bytes : List ℕ) → held ≡ Some bytes → IsSome held
not_there None bytes h = absurd (cc)
not_there (Some x) bytes h = refl

-- a file that was put at another path and removed at its own
pub renamed_to : (before mid now : Files) (old path key items : List ℕ) → get before old ≡ Some items → mid ≡ insert before key items → key ≡ path → (old ≡ path → ⊥) → now ≡ remove mid old
    → Renames before now old path (Ok tt)
renamed_to before mid now old path key items was put same apart removed =
    let there = written_to before mid key path items items put same refl in
    let gone = removed_at mid now old removed in (
      not_there (get before old) items was,
      gone.1 path (λ e. apart (sym e)) ∙ there.0 ∙ sym was,
      λ _. gone.0,
      λ q other elsewhere. gone.1 q other ∙ there.1 q elsewhere,
    )

-- a file that was put at its own path
pub renamed_itself : (before now : Files) (old path key items : List ℕ) → get before old ≡ Some items → now ≡ insert before key items → key ≡ path → old ≡ path → Renames before now old path (Ok tt)
renamed_itself before now old path key items was put same here =
    let there = written_to before now key path items items put same refl in (
      not_there (get before old) items was,
      there.0 ∙ sym was,
      λ apart. absurd (apart here),
      λ q _ elsewhere. there.1 q elsewhere,
    )
