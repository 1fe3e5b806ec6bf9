-- Writing one token more.
use Rattle.std.proofs.Common.{◌≡◌, ℕ, ◌+◌, ◌<◌, ◌≤◌, List, [], ◌∷◌, ◌++◌, length, get_or, drop, sym, ap, ◌∙◌}
use Rattle.std.proofs.lemmas.List.{append_assoc, drop_more, drop_all}
use Rattle.dscript_print_tokens.specs.declared.laid.Laid.{Laid}
use Rattle.dscript_print_tokens.specs.declared.side.Side.{Side}
use Rattle.dscript_print_tokens.specs.Sides.{side_of, run_together}
use Rattle.dscript_print_tokens.specs.Spellings.{spelling}
use Rattle.dscript_print_tokens.specs.Layout.{blanks, written}

pub write_more : (laid : List Laid) (i : ℕ) (item : Laid) → i < length laid → item ≡ get_or laid i item → (before : Side) (text whole : List ℕ) → text ++ written before (drop i laid) ≡ whole → ((text ++ blanks item.gap (run_together before (side_of item.kind))) ++ spelling item.kind) ++ written (side_of item.kind) (drop (i + 1) laid) ≡ whole
unfolding written
write_more laid i item lt is before text whole so_far =
    let gap = blanks item.gap (run_together before (side_of item.kind)) in
    let rest = written (side_of item.kind) (drop (i + 1) laid) in
    let left : drop i laid ≡ item ∷ drop (i + 1) laid = drop_more laid i item lt ∙ ap (λ x. x ∷ drop (i + 1) laid) (sym is) in
    append_assoc (text ++ gap) (spelling item.kind) rest
    ∙ append_assoc text gap (spelling item.kind ++ rest)
    ∙ ap (λ ls. text ++ written before ls) (sym left)
    ∙ so_far

pub write_end : (laid : List Laid) (i : ℕ) → length laid ≤ i → (before : Side) (text whole : List ℕ) → text ++ written before (drop i laid) ≡ whole → text ++ 0x0a ∷ [] ≡ whole
unfolding written
write_end laid i le before text whole so_far = ap (λ ls. text ++ written before ls) (sym (drop_all i laid le)) ∙ so_far
