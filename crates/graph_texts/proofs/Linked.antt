-- Pips say their lines, and lines are those of one list of pips.
use Rattle.std.proofs.Common.{◌≡◌, ◌⊎◌, ℕ, zero, suc, ◌+◌, ◌<◌, true, cond, List, [], ◌∷◌, ◌++◌, length, map, take, drop, get_or, slice_get, Option, Some, None, Ok, Err, IsSomeAnd, All, refl, sym, ap, subst, ◌∙◌, inl, inr, append_assoc, arith, length-append}
use Rattle.std.specs.List.{AllByRecursion}
use Rattle.std.specs.List.Sorted.{IsStrictlySortedBy}
use Rattle.std.proofs.lemmas.List.{append-nil, map-append, map-id, take-append-drop, take_at, take_more}
use Rattle.std.proofs.lemmas.List.Elements.{recursion_from_All}
use Rattle.std.proofs.lemmas.Option.{cond_some, same_Some}
use Rattle.bx_tree.proofs.Lists.{all_back, all_push}
use Rattle.pip_model_types.specs.Dirs.{RiseByForm, dir_cmp}
use Rattle.pip_model_types.specs.Kinds.{taken_dirs}
use Rattle.pip_model_types.specs.Makers.{FitsAfter, IsDirAmong, IsPipList, IsSealOf, NamesAmong}
use Rattle.pip_model_types.specs.Orders.{dir_cmp_total}
use Rattle.pip_model_types.specs.declared.dir_inputs.DirInput.{DirInput}
use Rattle.pip_model_types.specs.declared.dir_inputs.DirInput.TheVariants.{Sealed, Opaque}
use Rattle.pip_model_types.specs.declared.pip.Pip.{Pip}
use Rattle.pip_model_types.specs.declared.pip.PipKind.{PipKind}
use Rattle.pip_model_types.specs.declared.pip.PipKind.TheVariants as kinds
use Rattle.prints.specs.Combining.{bind_some}
use Rattle.prints.specs.Lines.{rises}
use Rattle.prints.specs.ReadWeak.{dir_before}
use Rattle.prints.specs.Reading.{◌>>=◌}
use Rattle.prints.proofs.Rising.{sorted_rising}
use Rattle.prints.proofs.WeakTexts.{rising_itself}
use Rattle.prints.specs.declared.fault.PrintFault.{PrintFault}
use Rattle.prints.specs.declared.fault.PrintFault.TheVariants as faults
use Rattle.graph_texts.specs.Linking.{AddsLinked, LinksTo, if_rising, linked_kind, linked_pip, linked_process, named_dir, named_dirs, process_with, rising_named, seal_dir, seal_dir_of}
use Rattle.graph_texts.specs.Pips.{ArePips, IsPip, dir_ref, kind_row, pip_row, process_row}
use Rattle.graph_texts.specs.Rows.{IsRow}
use Rattle.graph_texts.specs.declared.rows.DirRef.{DirRef}
use Rattle.graph_texts.specs.declared.rows.DirRef.TheVariants.{OfSeal, OfProcess}
use Rattle.graph_texts.specs.declared.rows.PipRow.{PipRow}
use Rattle.graph_texts.specs.declared.rows.ProcessRow.{ProcessRow}
use Rattle.graph_texts.specs.declared.rows.RowKind.{RowKind}
use Rattle.graph_texts.specs.declared.rows.RowKind.TheVariants as rows

-- directories that rise do so step by step
rises_by_step : (ds : List DirInput) → RiseByForm ds → rises dir_before ds ≡ true
rises_by_step ds h = sorted_rising dir_cmp_total (λ d. d) ds (subst (IsStrictlySortedBy dir_cmp) (sym (map-id ds)) h)

pub none_rise : RiseByForm []
unfolding IsStrictlySortedBy
none_rise = tt

module _ (before : List Pip) where
  -- ## What a pip says is that pip again

  dir_again : (d : DirInput) → IsDirAmong before d → named_dir before (dir_ref d) ≡ Some d
  dir_again (Sealed pip form root) h = of_pip (slice_get before pip) h
    where
      of_kind : (k : PipKind) → IsSealOf form root k → seal_dir pip k ≡ Some (Sealed pip form root)
      of_kind (kinds.Seal d) h = ap (λ f. Some (Sealed pip f d.root)) h.0 ∙ ap (λ r. Some (Sealed pip form r)) h.1
      of_kind (kinds.Process d) h = absurd h
      of_kind (kinds.Copy d) h = absurd h
      of_kind (kinds.Write d) h = absurd h

      of_pip : (o : Option Pip) → IsSomeAnd o (λ (p : Pip). IsSealOf form root p.kind)
          → seal_dir_of pip o ≡ Some (Sealed pip form root)
      of_pip None h = absurd h
      of_pip (Some p) h = of_kind p.kind h
  dir_again (Opaque pip path) h = refl

  dirs_again : (ds : List DirInput) → AllByRecursion (IsDirAmong before) ds → named_dirs before (map dir_ref ds) ≡ Some ds
  dirs_again [] h = refl
  dirs_again (d ∷ ds) h =
      ap (λ o. o >>= λ dir. named_dirs before (map dir_ref ds) >>= λ dirs. Some (dir ∷ dirs)) (dir_again d h.0)
      ∙ ap (λ o. o >>= λ dirs. Some (d ∷ dirs)) (dirs_again ds h.1)

  rising_again : (ds : List DirInput) → All (IsDirAmong before) ds → RiseByForm ds
      → rising_named before (map dir_ref ds) ≡ Some ds
  rising_again ds h r =
      ap (λ o. o >>= if_rising) (dirs_again ds (recursion_from_All (IsDirAmong before) ds h))
      ∙ ap (λ b. cond b (Some ds) None) (rises_by_step ds r)

  kind_again : (k : PipKind) → NamesAmong before k → RiseByForm (taken_dirs k) → linked_kind before (kind_row k) ≡ Some k
  kind_again (kinds.Process d) h r =
      ap (λ o. (o >>= λ dirs. Some (process_with (process_row d) dirs)) >>= λ e. Some (kinds.Process e))
      (rising_again d.dirs h.1 r)
  kind_again (kinds.Copy d) h r = refl
  kind_again (kinds.Write d) h r = refl
  kind_again (kinds.Seal d) h r = refl

  -- the lines of a pip that fits after these are those of that pip
  pub pip_again : (p : Pip) → FitsAfter before p → RiseByForm (taken_dirs p.kind) → linked_pip before (pip_row p) ≡ Some p
  pip_again p h r = ap (λ o. o >>= λ kind. Some (record { spec = p.spec; kind = kind })) (kind_again p.kind h r)

  -- ## Lines are those of what they say

  dir_row : (r : DirRef) (d : DirInput) → named_dir before r ≡ Some d → dir_ref d ≡ r
  dir_row (OfSeal pip) d e = of_pip (slice_get before pip) e
    where
      of_kind : (k : PipKind) → seal_dir pip k ≡ Some d → dir_ref d ≡ OfSeal pip
      of_kind (kinds.Seal s) e = sym (ap dir_ref (same_Some (Sealed pip s.form s.root) d e))
      of_kind (kinds.Process s) e = absurd cc
      of_kind (kinds.Copy s) e = absurd cc
      of_kind (kinds.Write s) e = absurd cc

      of_pip : (o : Option Pip) → seal_dir_of pip o ≡ Some d → dir_ref d ≡ OfSeal pip
      of_pip None e = absurd cc
      of_pip (Some p) e = of_kind p.kind e
  dir_row (OfProcess pip path) d e = sym (ap dir_ref (same_Some (Opaque pip path) d e))

  dirs_row : (rs : List DirRef) (ds : List DirInput) → named_dirs before rs ≡ Some ds → map dir_ref ds ≡ rs
  dirs_row [] ds e = ap (map dir_ref) (sym (same_Some [] ds e))
  dirs_row (r ∷ rs) ds e =
      let a = bind_some (named_dir before r) (λ dir. named_dirs before rs >>= λ dirs. Some (dir ∷ dirs)) ds e in
      let b = bind_some (named_dirs before rs) (λ dirs. Some (a.0 ∷ dirs)) ds a.2 in
      ap (map dir_ref) (sym (same_Some (a.0 ∷ b.0) ds b.2))
      ∙ ap (λ x. x ∷ map dir_ref b.0) (dir_row r a.0 a.1)
      ∙ ap (λ xs. r ∷ xs) (dirs_row rs b.0 b.1)

  -- What lines say of directories: these lines, and that they rise.
  record SaysDirs (rs : List DirRef) (ds : List DirInput) : Type 0 where
    pub lines : map dir_ref ds ≡ rs
    pub rise : RiseByForm ds

  says_dirs : (rs : List DirRef) (ds : List DirInput) → rising_named before rs ≡ Some ds → SaysDirs rs ds
  says_dirs rs ds e =
      let a = bind_some (named_dirs before rs) if_rising ds e in
      let b = cond_some (rises dir_before a.0) a.0 ds a.2 in
      subst (SaysDirs rs) b.1 (record { lines = dirs_row rs a.0 a.1; rise = rising_itself dir_cmp_total a.0 b.0 })

  -- What lines say of a pip: these lines, and that its directories rise.
  pub record SaysKind (r : RowKind) (k : PipKind) : Type 0 where
    pub lines : kind_row k ≡ r
    pub rise : RiseByForm (taken_dirs k)

  says_process : (r : ProcessRow) (k : PipKind) → linked_kind before (rows.Process r) ≡ Some k → SaysKind (rows.Process r) k
  says_process r k e =
      let a = bind_some (linked_process before r) (λ d. Some (kinds.Process d)) k e in
      let b = bind_some (rising_named before r.dirs) (λ dirs. Some (process_with r dirs)) a.0 a.1 in
      let dirs = says_dirs r.dirs b.0 b.1 in
      subst (SaysKind (rows.Process r)) (ap kinds.Process (same_Some (process_with r b.0) a.0 b.2) ∙ same_Some (kinds.Process a.0) k a.2)
      (record { lines = ap (λ ds. rows.Process (with_refs r ds)) dirs.lines; rise = dirs.rise })
    where
      with_refs : ProcessRow → List DirRef → ProcessRow
      with_refs r ds = record r { dirs = ds }

  says_kind : (r : RowKind) (k : PipKind) → linked_kind before r ≡ Some k → SaysKind r k
  says_kind (rows.Process r) k e = says_process r k e
  says_kind (rows.Copy d) k e =
      subst (SaysKind (rows.Copy d)) (same_Some (kinds.Copy d) k e) (record { lines = refl; rise = none_rise })
  says_kind (rows.Write d) k e =
      subst (SaysKind (rows.Write d)) (same_Some (kinds.Write d) k e) (record { lines = refl; rise = none_rise })
  says_kind (rows.Seal d) k e =
      subst (SaysKind (rows.Seal d)) (same_Some (kinds.Seal d) k e) (record { lines = refl; rise = none_rise })

  pub record SaysPip (r : PipRow) (p : Pip) : Type 0 where
    pub lines : pip_row p ≡ r
    pub rise : RiseByForm (taken_dirs p.kind)

  pub says_pip : (r : PipRow) (p : Pip) → linked_pip before r ≡ Some p → SaysPip r p
  says_pip r p e =
      let a = bind_some (linked_kind before r.kind) (λ kind. Some (record { spec = r.spec; kind = kind })) p e in
      let said = says_kind r.kind a.0 a.1 in
      subst (SaysPip r) (same_Some (record { spec = r.spec; kind = a.0 }) p a.2)
      (record { lines = ap (λ k. record { spec = r.spec; kind = k }) said.lines; rise = said.rise })

-- ## Lists of pips

-- each of these pips fits after those before it, which come after these
abbrev pub FitFrom : List Pip → List Pip → Type 0
FitFrom before [] = Unit {0}
FitFrom before (p ∷ ps) = (FitsAfter before p × RiseByForm (taken_dirs p.kind)) × FitFrom (before ++ p ∷ []) ps

-- what comes next in a list, after these
next_read : (before : List Pip) (p : Pip) (ps : List Pip) (d : Pip) → get_or (before ++ p ∷ ps) (length before) d ≡ p
next_read [] p ps d = refl
next_read (b ∷ bs) p ps d = next_read bs p ps d

fit_from : (before rest : List Pip) → IsPipList (before ++ rest) → AllByRecursion IsPip rest → FitFrom before rest
fit_from before [] h each = tt
fit_from before (p ∷ ps) h each =
    let here : FitsAfter (take (length before) (before ++ p ∷ ps)) (get_or (before ++ p ∷ ps) (length before) p) =
    h (length before) (omega (arith, length-append before (p ∷ ps))) p in
    let fits = subst (λ b. FitsAfter b p) (take_at before (p ∷ ps) (length before) refl)
    (subst (FitsAfter (take (length before) (before ++ p ∷ ps))) (next_read before p ps p) here) in
    ((fits, each.0.dirs), fit_from (before ++ p ∷ []) ps (subst IsPipList (sym (append_assoc before (p ∷ []) ps)) h) each.1)

one_from : (before p q : List Pip) → FitFrom before p → FitFrom before q → map pip_row p ≡ map pip_row q → p ≡ q
one_from before [] [] g h e = refl
one_from before [] (y ∷ q) g h e = absurd cc
one_from before (x ∷ p) [] g h e = absurd cc
one_from before (x ∷ p) (y ∷ q) g h e =
    let row : pip_row x ≡ pip_row y = cc in
    let more : map pip_row p ≡ map pip_row q = cc in
    let same = same_Some x y (sym (pip_again before x g.0.0 g.0.1) ∙ ap (linked_pip before) row ∙ pip_again before y h.0.0 h.0.1) in
    let rest = one_from (before ++ x ∷ []) p q g.1 (subst (λ z. FitFrom (before ++ z ∷ []) q) (sym same) h.1) more in
    ap (λ z. z ∷ p) same ∙ ap (λ zs. y ∷ zs) rest

-- lists of pips with the same lines are the same
pub one_link : (p q : List Pip) → ArePips p → ArePips q → map pip_row p ≡ map pip_row q → p ≡ q
one_link p q g h e = one_from [] p q (fit_from [] p g.list g.each) (fit_from [] q h.list h.each) e

-- ## Directories one after another

pub named_none : (pips : List Pip) (xs : List DirRef) (r : DirRef) (rest : List DirRef) → named_dir pips r ≡ None
    → named_dirs pips (xs ++ r ∷ rest) ≡ None
named_none pips [] r rest none = ap (λ o. o >>= λ dir. named_dirs pips rest >>= λ dirs. Some (dir ∷ dirs)) none
named_none pips (x ∷ xs) r rest none = by_first (named_dir pips x) (named_none pips xs r rest none)
  where
    by_first : (o : Option DirInput) → named_dirs pips (xs ++ r ∷ rest) ≡ None
        → (o >>= λ dir. named_dirs pips (xs ++ r ∷ rest) >>= λ dirs. Some (dir ∷ dirs)) ≡ None
    by_first None e = refl
    by_first (Some d) e = ap (λ o. o >>= λ dirs. Some (d ∷ dirs)) e

pub named_more : (pips : List Pip) (xs : List DirRef) (r : DirRef) (ds : List DirInput) (d : DirInput)
    → named_dirs pips xs ≡ Some ds → named_dir pips r ≡ Some d → named_dirs pips (xs ++ r ∷ []) ≡ Some (ds ++ d ∷ [])
named_more pips [] r ds d e f =
    ap (λ o. o >>= λ dir. Some [] >>= λ dirs. Some (dir ∷ dirs)) f ∙ ap (λ xs. Some (xs ++ d ∷ [])) (same_Some [] ds e)
named_more pips (x ∷ xs) r ds d e f =
    let a = bind_some (named_dir pips x) (λ dir. named_dirs pips xs >>= λ dirs. Some (dir ∷ dirs)) ds e in
    let b = bind_some (named_dirs pips xs) (λ dirs. Some (a.0 ∷ dirs)) ds a.2 in
    ap (λ o. o >>= λ dir. named_dirs pips (xs ++ r ∷ []) >>= λ dirs. Some (dir ∷ dirs)) a.1
    ∙ ap (λ o. o >>= λ dirs. Some (a.0 ∷ dirs)) (named_more pips xs r b.0 d b.1 f)
    ∙ ap (λ xs. Some (xs ++ d ∷ [])) (same_Some (a.0 ∷ b.0) ds b.2)

-- ## Pips one after another

-- What may come next after these pips with a line.
pub record MayFollow (before : List Pip) (r : PipRow) : Type 0 where
  pub pip : Pip
  pub fits : FitsAfter before pip
  pub linked : linked_pip before r ≡ Some pip

follow : (before : List Pip) (r : PipRow) (rest : List PipRow) (done pips : List Pip) → FitFrom before done
    → FitFrom before pips → map pip_row pips ≡ map pip_row done ++ r ∷ rest → MayFollow (before ++ done) r
follow before r rest [] [] g h e = absurd cc
follow before r rest [] (p ∷ ps) g h e =
    let row : pip_row p ≡ r = cc in
    subst (λ b. MayFollow b r) (sym (append-nil before)) (record {
      pip = p;
      fits = h.0.0;
      linked = ap (linked_pip before) (sym row) ∙ pip_again before p h.0.0 h.0.1;
    })
follow before r rest (d ∷ ds) [] g h e = absurd cc
follow before r rest (d ∷ ds) (p ∷ ps) g h e =
    let row : pip_row p ≡ pip_row d = cc in
    let more : map pip_row ps ≡ map pip_row ds ++ r ∷ rest = cc in
    let same = same_Some p d (sym (pip_again before p h.0.0 h.0.1) ∙ ap (linked_pip before) row ∙ pip_again before d g.0.0 g.0.1) in
    subst (λ b. MayFollow b r) (append_assoc before (d ∷ []) ds)
    (follow (before ++ d ∷ []) r rest ds ps g.1 (subst (λ z. FitFrom (before ++ z ∷ []) ps) same h.1) more)

-- where pips have these lines, what has the first of them is followed by what has the next
pub may_follow : (r : PipRow) (rest : List PipRow) (done pips : List Pip) → ArePips done → ArePips pips
    → map pip_row pips ≡ map pip_row done ++ r ∷ rest → MayFollow done r
may_follow r rest done pips g h e =
    follow [] r rest done pips (fit_from [] done g.list g.each) (fit_from [] pips h.list h.each) e

-- ## One pip more

-- what is at a place after a pip was added
added_at
    : (xs : List Pip) (p : Pip) (i : ℕ) (d : Pip) → i < length (xs ++ p ∷ [])
    → ((i < length xs) × (get_or (xs ++ p ∷ []) i d ≡ get_or xs i d) × (take i (xs ++ p ∷ []) ≡ take i xs))
    ⊎ ((get_or (xs ++ p ∷ []) i d ≡ p) × (take i (xs ++ p ∷ []) ≡ xs))
added_at [] p zero d within = inr (refl, refl)
added_at [] p (suc i) d within = absurd (omega (arith, within))
added_at (x ∷ xs) p zero d within = inl (omega arith, refl, refl)
added_at (x ∷ xs) p (suc i) d within = elim (added_at xs p i d (omega (arith, within))) [
  | inl old ↦ inl (omega (arith, old.0), old.1, ap (λ (ps : List Pip). x ∷ ps) old.2)
  | inr new ↦ inr (new.0, ap (λ (ps : List Pip). x ∷ ps) new.1)
]

list_pushed : (before : List Pip) (p : Pip) → IsPipList before → FitsAfter before p → IsPipList (before ++ p ∷ [])
list_pushed before p list fits = λ i within d. elim (added_at before p i d within) [
  | inl old ↦
      subst (λ (ps : List Pip). FitsAfter ps (get_or (before ++ p ∷ []) i d)) (sym old.2)
      (subst (λ (q : Pip). FitsAfter (take i before) q) (sym old.1) (list i old.0 d))
  | inr new ↦
      subst (λ (ps : List Pip). FitsAfter ps (get_or (before ++ p ∷ []) i d)) (sym new.1)
      (subst (λ (q : Pip). FitsAfter before q) (sym new.0) fits)
]

pub none_are : ArePips []
none_are = record { each = tt; list = λ i within d. absurd (omega (arith, within)) }

pub pushed : (before : List Pip) (p : Pip) → ArePips before → FitsAfter before p → IsPip p → ArePips (before ++ p ∷ [])
pushed before p are fits is = record {
  each = all_push IsPip before p are.each is;
  list = list_pushed before p are.list fits;
}

-- The lines of these pips and those that are left are all lines, and what these are is said.
pub record LinkedSoFar (rows : List PipRow) (left : List PipRow) (pips : List Pip) : Type 0 where
  pub lines : map pip_row pips ++ left ≡ rows
  pub are : ArePips pips

-- a pip with the next lines was added
pub linked_more
    : (rows : List PipRow) (row : PipRow) (rest : List PipRow) (before now : List Pip) → AllByRecursion IsRow rows
    → LinkedSoFar rows (row ∷ rest) before → AddsLinked (Ok tt) row before now → LinkedSoFar rows rest now
linked_more rows row rest before now each so adds =
    let said = says_pip before row adds.0 adds.1 in
    let these : AllByRecursion IsRow (row ∷ rest) =
    all_back IsRow (map pip_row before) (row ∷ rest) (subst (AllByRecursion IsRow) (sym so.lines) each) in
    let is : IsPip adds.0 = record { row = subst IsRow (sym said.lines) these.0; dirs = said.rise } in
    subst (LinkedSoFar rows rest) (sym adds.3) (record {
      lines = ap (λ xs. xs ++ rest) (map-append pip_row before (adds.0 ∷ []))
          ∙ append_assoc (map pip_row before) (pip_row adds.0 ∷ []) rest
          ∙ ap (λ r. map pip_row before ++ r ∷ rest) said.lines ∙ so.lines;
      are = pushed before adds.0 so.are adds.2 is;
    })

-- none with the next lines may follow
pub linked_refused
    : (rows : List PipRow) (row : PipRow) (rest : List PipRow) (before now : List Pip) (fault : PrintFault)
    → LinkedSoFar rows (row ∷ rest) before → AddsLinked (Err fault) row before now → LinksTo (Err fault) rows
linked_refused rows row rest before now faults.BadPrint so adds = λ pips links.
    let next = may_follow row rest before pips so.are links.are (links.rows_are ∙ sym so.lines) in
    adds next.pip next.linked next.fits
linked_refused rows row rest before now faults.Memory so adds = tt

-- all are
pub linked_all : (rows : List PipRow) (pips : List Pip) → LinkedSoFar rows [] pips → LinksTo (Ok pips) rows
linked_all rows pips so = record { rows_are = sym (append-nil (map pip_row pips)) ∙ so.lines; are = so.are }

-- ## Directories of a list, up to a place

pub one_named : (pips : List Pip) (named : List DirRef) (i : ℕ) (r : DirRef) (ds : List DirInput) (d : DirInput) → i < length named
    → r ≡ get_or named i r → named_dirs pips (take i named) ≡ Some ds → named_dir pips r ≡ Some d
    → named_dirs pips (take (i + 1) named) ≡ Some (ds ++ d ∷ [])
one_named pips named i r ds d l is so_far this =
    ap (named_dirs pips) (take_more named i r l ∙ ap (λ x. take i named ++ x ∷ []) (sym is)) ∙ named_more pips (take i named) r ds d so_far this

pub one_unnamed : (pips : List Pip) (named : List DirRef) (i : ℕ) (r : DirRef) → i < length named → r ≡ get_or named i r
    → named_dir pips r ≡ None → named_dirs pips named ≡ None
one_unnamed pips named i r l is none =
    let first : take (i + 1) named ≡ take i named ++ r ∷ [] = take_more named i r l ∙ ap (λ x. take i named ++ x ∷ []) (sym is) in
    ap (named_dirs pips)
    (sym (take-append-drop (i + 1) named) ∙ ap (λ xs. xs ++ drop (i + 1) named) first ∙ append_assoc (take i named) (r ∷ []) (drop (i + 1) named))
    ∙ named_none pips (take i named) r (drop (i + 1) named) none
