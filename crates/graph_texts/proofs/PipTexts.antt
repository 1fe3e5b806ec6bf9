-- Lists of pips with one text are the same.
use Rattle.std.proofs.Common.{◌≡◌, ℕ, false, List, [], ◌∷◌, ◌++◌, map, Some, None, Result, Ok, Err, refl, sym, ap, subst, ◌∙◌}
use Rattle.std.specs.List.{AllByRecursion, flat_map}
use Rattle.std.proofs.lemmas.List.Concat.{flat_map-cons}
use Rattle.std.proofs.lemmas.Option.{same_Some}
use Rattle.pip_model_types.specs.Dirs.{RiseByForm}
use Rattle.pip_model_types.specs.Kinds.{taken_dirs}
use Rattle.pip_model_types.specs.Makers.{IsPipList}
use Rattle.pip_model_types.specs.declared.pip.Pip.{Pip}
use Rattle.prints.specs.Forms.{IsForm}
use Rattle.prints.specs.Reading.{Taken, TakesItems}
use Rattle.prints.specs.declared.fault.PrintFault.{PrintFault}
use Rattle.prints.specs.declared.fault.PrintFault.TheVariants as faults
use Rattle.prints.proofs.LineLists.{lines_form}
use Rattle.graph_texts.specs.Linking.{Links, LinksTo, TakesPips}
use Rattle.graph_texts.specs.Pips.{ArePips, IsPip, pip_row, pip_text, pips_text, rows_at}
use Rattle.graph_texts.specs.RowForms.{no_row, row_form, row_seen}
use Rattle.graph_texts.specs.Rows.{IsRow, is_row, row_text}
use Rattle.graph_texts.specs.declared.rows.PipRow.{PipRow}
use Rattle.graph_texts.proofs.Linked.{one_link}
use Rattle.graph_texts.proofs.OneText.{one_value}

-- what may follow the lines of pips
abbrev pub NoRow : List ℕ → Type 0
NoRow text = is_row text ≡ false

pub rows_form : IsForm (AllByRecursion IsRow) NoRow (flat_map row_text) rows_at
unfolding rows_at
rows_form = lines_form is_row row_form row_seen no_row

-- the lines of pips are those of what they say
pub rows_of_pips : (pips : List Pip) → flat_map row_text (map pip_row pips) ≡ pips_text pips
rows_of_pips [] = refl
rows_of_pips (p ∷ ps) =
    flat_map-cons row_text (pip_row p) (map pip_row ps)
    ∙ ap (λ t. row_text (pip_row p) ++ t) (rows_of_pips ps)
    ∙ sym (flat_map-cons pip_text p ps)

pub are_rows : (pips : List Pip) → AllByRecursion IsPip pips → AllByRecursion IsRow (map pip_row pips)
are_rows [] h = tt
are_rows (p ∷ ps) h = (h.0.row, are_rows ps h.1)

-- ## What is written and read

pub each_pip : (pips list : List Pip) → list ≡ pips → IsPipList pips → AllByRecursion IsRow (map pip_row list)
    → AllByRecursion (λ (p : Pip). RiseByForm (taken_dirs p.kind)) list → ArePips pips
each_pip pips list same are fit order =
    record { each = subst (AllByRecursion IsPip) same (each_one list fit order); list = are }
  where
    each_one : (ps : List Pip) → AllByRecursion IsRow (map pip_row ps)
        → AllByRecursion (λ (p : Pip). RiseByForm (taken_dirs p.kind)) ps → AllByRecursion IsPip ps
    each_one [] h k = tt
    each_one (p ∷ ps) h k = (record { row = h.0; dirs = k.0 }, each_one ps h.1 k.1)

-- what lines say, as it is linked
pub pips_taken : (r : Result (List Pip) PrintFault) (rows : List PipRow) (rest : List ℕ) (taken : Taken (List PipRow))
    → taken ≡ Some (rows, rest) → LinksTo r rows → TakesPips r rest taken
pips_taken (Ok pips) rows rest taken e links = (rows, e, links)
pips_taken (Err faults.BadPrint) rows rest taken e none = λ others pips left f links.
    let one : List PipRow × List ℕ = (rows, rest) in
    let other : List PipRow × List ℕ = (others, left) in
    let both : one ≡ other = same_Some one other (sym e ∙ f) in
    none pips (subst (λ (rs : List PipRow). Links rs pips) (sym (ap (λ (t : List PipRow × List ℕ). t.0) both)) links)
pips_taken (Err faults.Memory) rows rest taken e links = tt

-- the lines of some pips, and what is left
abbrev taken_rows : List PipRow → List ℕ → Taken (List PipRow)
taken_rows rows left = Some (rows, left)

no_rows : (rows : List PipRow) (left : List ℕ) → ◌≡◌ {A = Taken (List PipRow)} None (taken_rows rows left) → ⊥
no_rows rows left e = cc

-- what was not read is of no pips
pub rows_refused : (fault : PrintFault) (rest : List ℕ) (taken : Taken (List PipRow)) → TakesItems (Err fault) rest taken
    → TakesPips (Err fault) rest taken
rows_refused faults.BadPrint rest taken none = λ rows pips left e links. no_rows rows left (sym none ∙ e)
rows_refused faults.Memory rest taken h = tt

pub same_pips : (p q : List Pip) → ArePips p → ArePips q → pips_text p ≡ pips_text q → p ≡ q
same_pips p q g h e =
    one_link p q g h
    (one_value rows_form refl (map pip_row p) (map pip_row q) (are_rows p g.each) (are_rows q h.each)
    (rows_of_pips p ∙ e ∙ sym (rows_of_pips q)))
