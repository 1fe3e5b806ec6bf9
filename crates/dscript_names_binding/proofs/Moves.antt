-- The single moves of a walk.
use Rattle.std.proofs.Common.{◌≡◌, ℕ, ◌+◌, false, List, [], ◌∷◌, ◌++◌, map, drop, Option, Some, None, Result, Ok, Err, refl, sym, ◌∙◌, ap, append-nil}
use Rattle.dscript_ast.specs.ExprTree.{PartTrees}
use Rattle.dscript_program.specs.declared.spec_fault.SpecKind.{SpecKind}
use Rattle.dscript_program.specs.ProgramData.{FunctionData}
use Rattle.dscript_names_scopes.specs.Blocks.{Block}
use Rattle.dscript_names_scopes.specs.Lookup.{Site, assigned, declare_in, found_at}
use Rattle.dscript_names_scopes.specs.Names.{World}
use Rattle.dscript_names_scopes.specs.declared.found.Found.{Found}
use Rattle.dscript_names_scopes.specs.declared.local.Local.{Local}
use Rattle.dscript_names_scopes.specs.declared.stop.Stop.{Stop}
use Rattle.dscript_names_scopes.specs.declared.stop.Stop.TheVariants as stops
use Rattle.std.specs.declared.vec.Vec.{Vec}
use Rattle.std.specs.declared.alloc.Global.{Global}
use Rattle.dscript_names_binding.specs.Binding.{assigns, bind_name, local_named, names_target}
use Rattle.dscript_names_binding.specs.Walk.{Here, Bound, Binds, chained, continued, declare, leave, next_local, or_fault, within}
use Rattle.dscript_names_binding.specs.Walked.{here_of, table_of, Walked, Walks}
use Rattle.dscript_names_binding.specs.declared.walker.Walker.{Walker}

pub next_walked : (s : Walker) (k : ℕ) → k ≡ s.locals + 1
    → Walked (λ (n : ℕ). n) next_local s (record s { locals = k }) s.locals
next_walked s k e = record {
  functions = [];
  names = [];
  is = ap (λ n. Ok (record {
    value = s.locals;
    after = record (here_of s) { locals = n };
    functions = [];
    names = [];
  })) (sym e);
  table = sym (append-nil (table_of s));
  named = sym (append-nil s.names.items);
  outer = refl;
}

drop_declared : (x : List ℕ) (n : ℕ) (blocks : List Block) → drop 1 (declare_in x n blocks) ≡ drop 1 blocks
drop_declared x n [] = refl
drop_declared x n (b ∷ blocks) = refl

pub declare_walked : (x : List ℕ) (n : ℕ) (s : Walker) (blocks : List Block) → blocks ≡ declare_in x n s.scopes
    → Walked (λ (m : ℕ). m) (declare x n) s (record s { scopes = blocks }) n
declare_walked x n s blocks e = record {
  functions = [];
  names = [];
  is = ap (λ bs. Ok (record {
    value = n;
    after = record (here_of s) { blocks = bs };
    functions = [];
    names = [];
  })) (sym e);
  table = sym (append-nil (table_of s));
  named = sym (append-nil s.names.items);
  outer = ap (drop 1) e ∙ drop_declared x n s.scopes;
}

pub assigned_walked : (x : List ℕ) (s : Walker) (n : ℕ) → assigned s.scopes x ≡ Ok n
    → Walked (λ (m : ℕ). m) (assigns x) s s n
assigned_walked x s n h = record {
  functions = [];
  names = [];
  is = ap (λ r. or_fault r (here_of s)) h;
  table = sym (append-nil (table_of s));
  named = sym (append-nil s.names.items);
  outer = refl;
}

pub assigned_stops : (x : List ℕ) (s : Walker) (kind : SpecKind) → assigned s.scopes x ≡ Err kind
    → assigns x (here_of s) ≡ Err kind
assigned_stops x s kind h = ap (λ r. or_fault r (here_of s)) h

pub named_walked : (world : World) (site : Site) (x : List ℕ) (parts : PartTrees) (s t : Walker) (f : Found)
    → found_at world site s.scopes x parts ≡ Ok f → here_of t ≡ here_of s → table_of t ≡ table_of s
    → t.names.items ≡ s.names.items ++ local_named f.target → drop 1 t.scopes ≡ drop 1 s.scopes
    → Walked (λ (g : Found). g) (bind_name world site x parts) s t f
named_walked world site x parts s t f e here table named outer = record {
  functions = [];
  names = local_named f.target;
  is = ap (λ r. continued (or_fault r (here_of s)) names_target) e
      ∙ ap (λ h. Ok (record { value = f; after = h; functions = []; names = local_named f.target })) (sym here);
  table = table ∙ sym (append-nil (table_of s));
  named = named;
  outer = outer;
}

-- ## Blocks

pub within_walked : {X A : Type 0} {view : X → A} {m : Binds A} {s0 s1 s2 s3 : Walker} {x : X} {locals : List Local}
    → s1 ≡ record s0 { scopes = record { locals = locals; is_body = false } ∷ s0.scopes }
    → Walked view m s1 s2 x → s3 ≡ record s2 { scopes = drop 1 s2.scopes }
    → Walked view (within locals m) s0 s3 x
within_walked {X} {A} {view} {m} {s0} {s1} {s2} {s3} {x} {locals} into w out =
    let outside : drop 1 s2.scopes ≡ s0.scopes = w.outer ∙ ap (λ (s : Walker). drop 1 s.scopes) into in
    let entered : Here = record (here_of s0) { blocks = record { locals = locals; is_body = false } ∷ s0.scopes } in
    record {
      functions = w.functions;
      names = w.names;
      is = ap (λ (h : Here). leave (here_of s0) (m h)) (ap here_of (sym into))
          ∙ ap (leave (here_of s0)) w.is
          ∙ ap (λ bs. Ok (record {
            value = view x;
            after = record (here_of s2) { blocks = bs };
            functions = w.functions;
            names = w.names;
          })) (sym outside)
          ∙ ap (λ (h : Here). Ok (record {
            value = view x;
            after = h;
            functions = w.functions;
            names = w.names;
          })) (ap here_of (sym out));
      table = ap table_of out ∙ w.table ∙ ap (λ t. t ++ w.functions) (ap table_of into);
      named = ap (λ (s : Walker). s.names.items) out ∙ w.named
          ∙ ap (λ (s : Walker). s.names.items ++ w.names) into;
      outer = ap (λ (s : Walker). drop 1 s.scopes) out ∙ ap (drop 1) outside;
    }

pub within_stops : {X A : Type 0} {s0 s1 : Walker} {locals : List Local}
    (view : X → A) (m : Binds A) (s2 s3 : Walker) (e : Stop)
    → s1 ≡ record s0 { scopes = record { locals = locals; is_body = false } ∷ s0.scopes }
    → Walks view m s1 s2 (Err e) → Walks view (within locals m) s0 s3 (Err e)
within_stops {X} {A} {s0} {s1} view m s2 s3 (stops.Fault kind) into h =
    ap (λ (here : Here). leave (here_of s0) (m here)) (ap here_of (sym into)) ∙ ap (leave (here_of s0)) h
within_stops view m s2 s3 stops.Memory into h = tt

pub entered_with : (s0 s1 : Walker) (locals locals' : List Local) → locals ≡ locals'
    → s1 ≡ record s0 { scopes = record { locals = locals; is_body = false } ∷ s0.scopes }
    → s1 ≡ record s0 { scopes = record { locals = locals'; is_body = false } ∷ s0.scopes }
entered_with s0 s1 locals locals' e h =
    h ∙ ap (λ (ls : List Local). record s0 { scopes = record { locals = ls; is_body = false } ∷ s0.scopes }) e
