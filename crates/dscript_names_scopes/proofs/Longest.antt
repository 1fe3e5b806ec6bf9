-- Names with more parts than any declared one.
use Rattle.std.proofs.Common.{◌≡◌, ℕ, ◌<◌, ◌≤◌, ◌+◌, suc, Bool, true, false, inl, inr, ◌&&◌, cond, List, [], ◌∷◌, ◌++◌, length, take, get_or, Some, None, refl, ap, sym, subst, ◌∙◌, arith}
use Rattle.std.specs.List.{position_from}
use Rattle.std.proofs.lemmas.Bool.{cases_Bool}
use Rattle.std.proofs.lemmas.List.{take_more}
use Rattle.std.proofs.lemmas.List.Elements.{All-push}
use Rattle.bx_tree.specs.Orders.{same_path_decides}
use Rattle.bx_tree.specs.Paths.{same_path}
use Rattle.dscript_ast.specs.declared.file.Mark.{Mark}
use Rattle.dscript_program.specs.ProgramData.{Dotted}
use Rattle.dscript_names_scopes.specs.Lookup.{is_value_of}
use Rattle.dscript_names_scopes.specs.Tables.{AreWithin}
use Rattle.dscript_names_scopes.specs.declared.names.Declared.{Declared}

-- one declaration more
pub within_more : (decls : List Declared) (i old new : ℕ) (d : Declared) → i < length decls → d ≡ get_or decls i d → AreWithin old (take i decls) → old ≤ new
    → length d.name ≤ new → AreWithin new (take (i + 1) decls)
within_more decls i old new d l is before more here =
    subst (AreWithin new) (sym (take_more decls i d l ∙ ap (λ x. take i decls ++ x ∷ []) (sym is)))
    (All-push (λ (x : Declared). length x.name ≤ new) (take i decls) d (λ k e m. let old_at = before k e m in omega (arith, old_at, more)) here)

and_false : (b : Bool) → (b && false) ≡ false
and_false true = refl
and_false false = refl

other_name : (sees : Mark → Bool) (name : Dotted) (d : Declared) → length d.name < length name → is_value_of sees name d ≡ false
other_name sees name d l = elim (cases_Bool (same_path d.name name)) [
  | inl e ↦ let same = ap length ((same_path_decides d.name name).0 e) in absurd (omega (arith, l, same))
  | inr e ↦ ap (λ b. (d.is_value && sees d.mark) && b) e ∙ and_false (d.is_value && sees d.mark)
]

-- no declaration has such a name
pub none_longer : (sees : Mark → Bool) (name : Dotted) (most n : ℕ) (decls : List Declared) → AreWithin most decls → most < length name
    → position_from (is_value_of sees name) n decls ≡ None
none_longer sees name most n [] within l = refl
none_longer sees name most n (d ∷ decls) within l =
    let here = within 0 d (omega arith) in
    ap (λ b. cond b (Some n) (position_from (is_value_of sees name) (n + 1) decls)) (other_name sees name d (omega (arith, here, l)))
    ∙ none_longer sees name most (n + 1) decls (λ k e m. within (suc k) e (omega (arith, m))) l
