-- How the loop over the holes of a template begins, goes on and ends.
use Rattle.std.proofs.Common.{◌≡◌, ℕ, zero, suc, ◌-◌, ◌<◌, max, List, [], ◌∷◌, ◌++◌, length, map, None, refl, ap, sym, ◌∙◌, subst, arith}
use Rattle.std.proofs.lemmas.List.{map_push}
use Rattle.dscript_lex.specs.declared.token.TokenKind.{TokenKind}
use Rattle.dscript_grammar.specs.Reading.{got, and_then}
use Rattle.dscript_ast.specs.ExprTree as tree
use Rattle.dscript_ast.specs.ExprTree.{ExprTree, HoleTree}
use Rattle.dscript_grammar.specs.ExprReading.{read_expr, read_holes, read_middle, read_stmt, read_tail}
use Rattle.dscript_ast.specs.Views.{hole_tree}
use Rattle.dscript_ast.specs.declared.expr.Hole.{Hole}
use Rattle.dscript_parse_tokens.specs.LoopInvariants.{with_items}
use Rattle.dscript_parse_exprs.specs.HolesInvariant.{HolesInvariant}
use Rattle.dscript_parse_tokens.proofs.Loops.{length_push, items_none, items_one, items_fails, items_moves, then_some, then_none, choose_some, choose_none}

module _ (depth : ℕ) where
  pub holes_init : {items : List Hole} {start : List TokenKind} → items ≡ [] → HolesInvariant depth items 0 start start
  holes_init {start = start} e =
      subst (λ (xs : List Hole). HolesInvariant depth xs 0 start start) (sym e)
      (record { resumes = λ n. items_none _ ∙ ap (λ k. read_holes depth (read_expr depth) (read_stmt depth) k start) (omega arith); count = omega arith })

  holes_step : (n : ℕ) (e : ExprTree) (text : List ℕ) (k : ℕ) (rest next after : List TokenKind) → read_expr depth rest ≡ got e k next → read_tail next ≡ None → read_middle next ≡ got text 0 after
      → read_holes depth (read_expr depth) (read_stmt depth) (suc n) rest
      ≡ and_then (read_holes depth (read_expr depth) (read_stmt depth) n after) (λ hs. got (tree.Hole e text ∷ hs.value) (max k hs.height) hs.rest)
  unfolding read_holes
  holes_step n e text k rest next after is none some = then_some _ is ∙ choose_none _ _ none ∙ then_some _ some

  pub holes_next : (x : Hole) (e : ExprTree) (text : List ℕ) {items pushed : List Hole} {height k : ℕ} {rest start next after : List TokenKind} → hole_tree x ≡ tree.Hole e text → pushed ≡ items ++ x ∷ []
      → HolesInvariant depth items height rest start → read_expr depth rest ≡ got e k next → read_tail next ≡ None → read_middle next ≡ got text 0 after
      → length next < length rest → length after < length next → HolesInvariant depth pushed (max height k) after start
  holes_next x e text {items = items} {pushed = pushed} {height = height} {k = k} {rest = rest} {start = start} {next = next} {after = after} seen e1 f is none some s u =
      let pushes : map hole_tree pushed ≡ map hole_tree items ++ tree.Hole e text ∷ [] = ap (map hole_tree) e1 ∙ map_push hole_tree items x ∙ ap (λ y. map hole_tree items ++ y ∷ []) seen in
      let long : length pushed ≡ suc (length items) = ap length e1 ∙ length_push items x in
      record {
        resumes = λ n. ap (λ xs. with_items xs (max height k) (read_holes depth (read_expr depth) (read_stmt depth) n after)) pushes
            ∙ items_moves (map hole_tree items) (tree.Hole e text) height k (read_holes depth (read_expr depth) (read_stmt depth) n after)
            ∙ ap (with_items (map hole_tree items) height) (sym (holes_step n e text k rest next after is none some))
            ∙ f.resumes (suc n)
            ∙ ap (λ j. read_holes depth (read_expr depth) (read_stmt depth) j start) (omega arith);
        count = omega (arith, f.count);
      }

  holes_last : (n : ℕ) (e : ExprTree) (text : List ℕ) (k : ℕ) (rest next after : List TokenKind) → read_expr depth rest ≡ got e k next → read_tail next ≡ got text 0 after
      → read_holes depth (read_expr depth) (read_stmt depth) (suc n) rest ≡ got (tree.Hole e text ∷ []) k after
  unfolding read_holes
  holes_last n e text k rest next after is some = then_some _ is ∙ choose_some _ _ some

  pub holes_done : (x : Hole) (e : ExprTree) (text : List ℕ) {items pushed : List Hole} {height k : ℕ} {rest start next after : List TokenKind} → hole_tree x ≡ tree.Hole e text → pushed ≡ items ++ x ∷ []
      → HolesInvariant depth items height rest start → read_expr depth rest ≡ got e k next → read_tail next ≡ got text 0 after → length next < length rest
      → read_holes depth (read_expr depth) (read_stmt depth) (length start) start ≡ got (map hole_tree pushed) (max height k) after
  holes_done x e text {items = items} {pushed = pushed} {height = height} {k = k} {rest = rest} {start = start} {next = next} {after = after} seen e1 f is some s =
      let n : ℕ = length start - length items - 1 in
      ap (λ j. read_holes depth (read_expr depth) (read_stmt depth) j start) (omega (arith, f.count))
      ∙ sym (f.resumes (suc n)) ∙ ap (with_items (map hole_tree items) height) (holes_last n e text k rest next after is some)
      ∙ items_one (map hole_tree items) (tree.Hole e text) height k after
      ∙ ap (λ xs. got xs (max height k) after) (sym (ap (map hole_tree) e1 ∙ map_push hole_tree items x ∙ ap (λ y. map hole_tree items ++ y ∷ []) seen))

  holes_at : (items : List Hole) (height : ℕ) (rest start : List TokenKind) → HolesInvariant depth items height rest start
      → ((n : ℕ) → read_holes depth (read_expr depth) (read_stmt depth) n rest ≡ None) → read_holes depth (read_expr depth) (read_stmt depth) (length start) start ≡ None
  holes_at items height rest start f none =
      let n : ℕ = length start - length items in
      ap (λ j. read_holes depth (read_expr depth) (read_stmt depth) j start) (omega (arith, f.count))
      ∙ sym (f.resumes n) ∙ ap (with_items (map hole_tree items) height) (none n) ∙ items_fails (map hole_tree items) height

  no_value : (n : ℕ) (rest : List TokenKind) → read_expr depth rest ≡ None → read_holes depth (read_expr depth) (read_stmt depth) n rest ≡ None
  unfolding read_holes
  no_value zero rest none = refl
  no_value (suc n) rest none = then_none _ none

  no_end : (n : ℕ) (e : ExprTree) (k : ℕ) (rest next : List TokenKind) → read_expr depth rest ≡ got e k next → read_tail next ≡ None → read_middle next ≡ None → read_holes depth (read_expr depth) (read_stmt depth) n rest ≡ None
  unfolding read_holes
  no_end zero e k rest next is none none2 = refl
  no_end (suc n) e k rest next is none none2 = then_some _ is ∙ choose_none _ _ none ∙ then_none _ none2

  pub holes_none : {items : List Hole} {height : ℕ} {rest start : List TokenKind} → HolesInvariant depth items height rest start → read_expr depth rest ≡ None
      → read_holes depth (read_expr depth) (read_stmt depth) (length start) start ≡ None
  holes_none {items = items} {height = height} {rest = rest} {start = start} f none = holes_at items height rest start f (λ n. no_value n rest none)

  pub holes_open : (e : ExprTree) {items : List Hole} {height k : ℕ} {rest start next : List TokenKind} → HolesInvariant depth items height rest start → read_expr depth rest ≡ got e k next → read_tail next ≡ None → read_middle next ≡ None
      → read_holes depth (read_expr depth) (read_stmt depth) (length start) start ≡ None
  holes_open e {items = items} {height = height} {k = k} {rest = rest} {start = start} {next = next} f is none none2 = holes_at items height rest start f (λ n. no_end n e k rest next is none none2)
