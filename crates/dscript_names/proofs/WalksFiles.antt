-- A walk through the items of a file counts at most their size.
use Rattle.std.proofs.Common.{◌≡◌, ℕ, ◌+◌, ◌≤◌, List, [], ◌∷◌, ◌++◌, length, Option, Some, None, Result, Ok, Err, refl, arith}
use Rattle.std.specs.Bool.{⊤}
use Rattle.std.proofs.lemmas.List.{length-append}
use Rattle.dscript_ast.specs.ExprTree.{ParamTree, StmtTree, to_stmts}
use Rattle.dscript_ast.specs.FileTree as file
use Rattle.dscript_ast.specs.FileTree.{MarkedTree, DeclTree, MarkedTrees, ItemTree, Marked}
use Rattle.dscript_ast.specs.declared.file.Mark.{Mark}
use Rattle.dscript_names_scopes.specs.Blocks.{block_locals}
use Rattle.dscript_names_binding.specs.Binding.{bind_marked, bind_decl, bind_all_marked, bind_item, bind_items, declared_function, imports_fault, site_in}
use Rattle.dscript_names_binding.specs.Walk.{Here, Bound, Binds, chained, continued, ◌>>=◌, gives, no_fault, declaration}
use Rattle.dscript_program.specs.declared.spec_fault.SpecKind.{SpecKind}
use Rattle.dscript_program.specs.BoundTree as bound
use Rattle.dscript_program.specs.ProgramData as declares
use Rattle.dscript_program.specs.ProgramData.{DeclData, Dotted}
use Rattle.dscript_names_scopes.specs.Lookup.{Site}
use Rattle.dscript_names_scopes.specs.Names.{FileNames, World}
use Rattle.dscript_names.specs.Counted.{CountedWithin}
use Rattle.dscript_names.specs.Sizes.{marked_size, decl_size, all_marked_size, expr_size, item_size, items_size, stmts_size}
use Rattle.dscript_names.proofs.Steps.{AllBelow, Counts, RisesIfOk, all_below_append, all_below_more, function_counts, last}
use Rattle.dscript_names.proofs.Walks.{expr_counts, stmts_counts}

pub counted_more : (n k : ℕ) (b : Bound (List DeclData)) → n ≤ k → CountedWithin n b → CountedWithin k b
counted_more n k b le h =
    let decls : length b.value ≤ n = h.decls in
    let functions : length b.functions ≤ n = h.functions in
    record {
      decls = omega (arith, decls, le);
      functions = omega (arith, functions, le);
      locals = all_below_more n k b.functions le h.locals;
    }

abbrev pub FiledIfOk : ℕ → Result (Bound (List DeclData)) SpecKind → Type 0
FiledIfOk n (Ok b) = CountedWithin n b
FiledIfOk n (Err kind) = ⊤

pub record Filed (n : ℕ) (m : Binds (List DeclData)) : Type 0 where
  pub good : (here : Here) → FiledIfOk n (m here)

pub filed_if : (n k : ℕ) (r : Result (Bound (List DeclData)) SpecKind) → n ≤ k → FiledIfOk n r → FiledIfOk k r
filed_if n k (Ok b) le h = counted_more n k b le h
filed_if n k (Err kind) le h = tt

filed_more : {m : Binds (List DeclData)} (n k : ℕ) → n ≤ k → Filed n m → Filed k m
filed_more {m = m} n k le h = record { good = λ here. filed_if n k (m here) le (h.good here) }

-- a declaration counts its locals from 0
abbrev ResetIfOk : {A : Type 0} → ℕ → Result (Bound A) SpecKind → Type 0
ResetIfOk n (Ok b) = (length b.functions ≤ n) × AllBelow n b.functions
ResetIfOk n (Err kind) = ⊤

record Reset {A : Type 0} (n : ℕ) (m : Binds A) : Type 0 where
  good : (here : Here) → ResetIfOk n (m here)

reset_if : {A : Type 0} (n : ℕ) (start : Here) (r : Result (Bound A) SpecKind) → start.locals ≡ 0 → RisesIfOk n start r
    → ResetIfOk n r
reset_if n start (Ok b) at_zero h =
    let within : start.locals + n ≤ n = omega (arith, at_zero) in
    (h.functions, all_below_more (start.locals + n) n b.functions within h.below)
reset_if n start (Err kind) at_zero h = tt

reset_of : {A : Type 0} {m : Binds A} (n : ℕ) → Counts n m → Reset n (declaration m)
reset_of {m = m} n h = record {
  good = λ here.
      let start : Here = record here { blocks = []; locals = 0 } in
      reset_if n start (m start) refl (h.good start);
}

named_if : {A : Type 0} (n : ℕ) (decl : A → DeclData) (r : Result (Bound A) SpecKind) → ResetIfOk n r
    → FiledIfOk (1 + n) (continued r (λ x. gives (decl x ∷ [])))
named_if n decl (Err kind) h = tt
named_if n decl (Ok a) h =
    let functions : length a.functions ≤ n = h.0 in
    let up : n ≤ 1 + n = omega arith in
    record {
      decls = omega arith;
      functions = omega (arith, functions, length-append a.functions []);
      locals = all_below_append (1 + n) a.functions [] (all_below_more n (1 + n) a.functions up h.1) tt;
    }

filed_named : {A : Type 0} {m : Binds A} (n : ℕ) (decl : A → DeclData) → Reset n m
    → Filed (1 + n) (m >>= λ x. gives (decl x ∷ []))
filed_named {m = m} n decl h = record { good = λ here. named_if n decl (m here) (h.good here) }

filed_one : (d : DeclData) → Filed 1 (gives (d ∷ []))
filed_one d = record { good = λ here. record { decls = omega arith; functions = omega arith; locals = tt } }

filed_none : Filed 0 (gives [])
filed_none = record { good = λ here. record { decls = omega arith; functions = omega arith; locals = tt } }

joined_after : (n k : ℕ) (a : Bound (List DeclData)) (r : Result (Bound (List DeclData)) SpecKind) → CountedWithin n a
    → FiledIfOk k r → FiledIfOk (n + k) (chained a (continued r (λ es. gives (a.value ++ es))))
joined_after n k a (Err kind) first second = tt
joined_after n k a (Ok c) first second =
    let one : length a.value ≤ n = first.decls in
    let two : length c.value ≤ k = second.decls in
    let some : length a.functions ≤ n = first.functions in
    let others : length c.functions ≤ k = second.functions in
    let left : n ≤ n + k = omega arith in
    let right : k ≤ n + k = omega arith in
    record {
      decls = omega (arith, one, two, length-append a.value c.value);
      functions = omega (arith, some, others, length-append a.functions (c.functions ++ []), length-append c.functions []);
      locals = all_below_append (n + k) a.functions (c.functions ++ []) (all_below_more n (n + k) a.functions left first.locals)
          (all_below_append (n + k) c.functions [] (all_below_more k (n + k) c.functions right second.locals) tt);
    }

joined_if : (n k : ℕ) (r : Result (Bound (List DeclData)) SpecKind) (l : Binds (List DeclData)) → FiledIfOk n r → Filed k l
    → FiledIfOk (n + k) (continued r (λ ds. l >>= λ es. gives (ds ++ es)))
joined_if n k (Err kind) l first second = tt
joined_if n k (Ok a) l first second = joined_after n k a (l a.after) first (second.good a.after)

filed_joined : {m l : Binds (List DeclData)} (n k : ℕ) → Filed n m → Filed k l
    → Filed (n + k) (m >>= λ ds. l >>= λ es. gives (ds ++ es))
filed_joined {m = m} {l = l} n k first second = record { good = λ here. joined_if n k (m here) l (first.good here) second }

filed_import : (kind : Option SpecKind) → Filed 0 (no_fault kind >>= λ x. gives [])
filed_import None = record { good = λ here. record { decls = omega arith; functions = omega arith; locals = tt } }
filed_import (Some kind) = record { good = λ here. tt }

declared_counts : (world : World) (site : Site) (ps : List ParamTree) (ss : List StmtTree)
    → Counts (1 + length ps + stmts_size (to_stmts ss)) (declared_function world site ps ss)
declared_counts world site ps ss =
    function_counts site.number ps (block_locals (to_stmts ss)) (last bound.Stmts (stmts_counts world site (to_stmts ss)))

module _ (world : World) (number : ℕ) (names : FileNames) where
  mutual
    unfolding bind_marked marked_size

    marked_filed : (m : MarkedTree) (around : Dotted) → Filed (marked_size m) (bind_marked world number names around m)
    marked_filed (Marked x d) around = decl_filed d around x

    decl_filed : (d : DeclTree) (around : Dotted) (x : Mark) → Filed (decl_size d) (bind_decl world number names around x d)
    decl_filed (file.Const x t e) around m =
        filed_named (expr_size e) (λ b. record { name = around ++ x ∷ []; mark = m; kind = declares.Const t b })
        (reset_of (expr_size e) (expr_counts world (site_in world number names around) e))
    decl_filed (file.Function x ts ps t ss) around m =
        let n = 1 + length ps + stmts_size (to_stmts ss) in
        filed_more (1 + n) (2 + length ps + stmts_size (to_stmts ss)) (omega arith)
        (filed_named n (λ f. record { name = around ++ x ∷ []; mark = m; kind = declares.Function ts t f })
        (reset_of n (declared_counts world (site_in world number names around) ps ss)))
    decl_filed (file.Namespace xs ms) around m = all_marked_filed ms (around ++ xs)
    decl_filed (file.Interface x ts es ms) around m = filed_one _
    decl_filed (file.TypeAlias x ts t) around m = filed_one _

    all_marked_filed : (ms : MarkedTrees) (around : Dotted) → Filed (all_marked_size ms) (bind_all_marked world number names around ms)
    all_marked_filed file.no_marked around = filed_none
    all_marked_filed (file.more_marked m ms) around =
        filed_joined (marked_size m) (all_marked_size ms) (marked_filed m around) (all_marked_filed ms around)

  item_filed : (i : ItemTree) → Filed (item_size i) (bind_item world number names i)
  item_filed (file.ImportAll x module_name) = filed_import (imports_fault world [] module_name)
  item_filed (file.ImportNames imported module_name) = filed_import (imports_fault world imported module_name)
  item_filed (file.Declared m) = marked_filed m []
  item_filed file.Empty = filed_none

  pub items_filed : (is : List ItemTree) → Filed (items_size is) (bind_items world number names is)
  items_filed [] = filed_none
  items_filed (i ∷ is) = filed_joined (item_size i) (items_size is) (item_filed i) (items_filed is)
