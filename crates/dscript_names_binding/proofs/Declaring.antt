-- Declarations, one after the other.
use Rattle.std.proofs.Common.{◌≡◌, ℕ, List, [], ◌∷◌, ◌++◌, map, Option, Result, Ok, Err, refl, sym, ◌∙◌, ap, subst, append_assoc, append-nil}
use Rattle.std.proofs.lemmas.List.{map-append}
use Rattle.std.specs.declared.alloc.Global.{Global}
use Rattle.std.specs.declared.vec.Vec.{Vec}
use Rattle.dscript_program.specs.declared.spec_fault.SpecKind.{SpecKind}
use Rattle.dscript_program.specs.ProgramData.{DeclData, Dotted, FunctionData}
use Rattle.dscript_program.specs.Views.{around_names, decl_data, kind_data}
use Rattle.dscript_program.specs.declared.program.BoundDecl.{BoundDecl}
use Rattle.dscript_names_scopes.specs.Answers.{Checks}
use Rattle.dscript_names_scopes.specs.declared.stop.Stop.{Stop}
use Rattle.dscript_names_scopes.specs.declared.stop.Stop.TheVariants as stops
use Rattle.dscript_names_binding.specs.Binding.{named_decl}
use Rattle.dscript_names_binding.specs.Walk.{Bound, Binds, chained, continued, ◌>>=◌, gives, no_fault}
use Rattle.dscript_names_binding.specs.Walked.{here_of, table_of}
use Rattle.dscript_names_binding.specs.Turned.{after_turns}
use Rattle.dscript_names_binding.specs.Declares.{gathered_in, Gathered, Gathers, Passed}
use Rattle.dscript_names_binding.specs.declared.walker.Walker.{Walker}
use Rattle.dscript_names_binding.specs.declared.decls.Binder.{Binder}

-- ## One declaration

pub gathers_at : {X : Type 0} {m n : Binds (List DeclData)} (g0 g1 : Binder) (r : Result X Stop) → m ≡ n
    → Gathers n g0 g1 r → Gathers m g0 g1 r
gathers_at {X} {m} {n} g0 g1 r e h =
    let P : Binds (List DeclData) → Type 0 = λ k. Gathers k g0 g1 r in subst P (sym e) h

-- this declaration, at the end of those before
pub gathered_one : (g0 g1 : Binder) (ds : List DeclData) → gathered_in g1 ≡ gathered_in g0 ++ ds
    → g1.walker ≡ g0.walker → Gathered (gives ds) g0 g1
gathered_one g0 g1 ds e same = record {
  decls = ds;
  gathered = e;
  came = record {
    functions = [];
    names = [];
    is = ap (λ (s : Walker). gives ds (here_of s)) (sym same);
    table = ap table_of same ∙ sym (append-nil (table_of g0.walker));
  };
}

pub decl_added : (g : Binder) (v : Vec BoundDecl Global) (d : BoundDecl) (around : Dotted)
    → v.items ≡ g.decls.items ++ d ∷ [] → around_names d.around ≡ around
    → Gathered (named_decl around d.mark d.name (kind_data d.kind)) g (record g { decls = v })
decl_added g v d around pushed same =
    gathered_one g (record g { decls = v })
    (record { name = around ++ d.name ∷ []; mark = d.mark; kind = kind_data d.kind } ∷ [])
    (ap (map decl_data) pushed ∙ map-append decl_data g.decls.items (d ∷ [])
    ∙ ap (λ a. map decl_data g.decls.items ++ record { name = a ++ d.name ∷ []; mark = d.mark; kind = kind_data d.kind } ∷ []) same)
    refl

pub none_gathered : (g : Binder) → Gathered (gives []) g g
none_gathered g = gathered_one g g [] (sym (append-nil (gathered_in g))) refl

-- ## Lists

abbrev both : Binds (List DeclData) → Binds (List DeclData) → Binds (List DeclData)
both m rest = m >>= λ ds. rest >>= λ es. gives (ds ++ es)

after_none : (r : Result (Bound (List DeclData)) SpecKind) → after_turns [] [] [] r ≡ r
after_none (Ok b) = refl
after_none (Err kind) = refl

pub passed_init : {all rest : Binds (List DeclData)} {g : Binder} → rest ≡ all → Passed all rest g g
passed_init {all} {rest} {g} e = record {
  decls = [];
  functions = [];
  names = [];
  is = sym (after_none (rest (here_of g.walker)) ∙ ap (λ (m : Binds (List DeclData)). m (here_of g.walker)) e);
  gathered = sym (append-nil (gathered_in g));
  table = sym (append-nil (table_of g.walker));
}

after_next : (xs : List DeclData) (fs : List FunctionData) (ns : List ℕ) (b : Bound (List DeclData))
    (r : Result (Bound (List DeclData)) SpecKind)
    → after_turns xs fs ns (chained b (continued r (λ es. gives (b.value ++ es))))
    ≡ after_turns (xs ++ b.value) (fs ++ b.functions) (ns ++ b.names) r
after_next xs fs ns b (Err kind) = refl
after_next xs fs ns b (Ok c) =
    ap (λ vs. Ok (record {
      value = vs;
      after = c.after;
      functions = fs ++ (b.functions ++ (c.functions ++ []));
      names = ns ++ (b.names ++ (c.names ++ []));
    })) (sym (append_assoc xs b.value c.value))
    ∙ ap (λ gs. Ok (record {
      value = (xs ++ b.value) ++ c.value;
      after = c.after;
      functions = gs;
      names = ns ++ (b.names ++ (c.names ++ []));
    })) (ap (λ gs. fs ++ (b.functions ++ gs)) (append-nil c.functions) ∙ sym (append_assoc fs b.functions c.functions))
    ∙ ap (λ ms. Ok (record {
      value = (xs ++ b.value) ++ c.value;
      after = c.after;
      functions = (fs ++ b.functions) ++ c.functions;
      names = ms;
    })) (ap (λ ms. ns ++ (b.names ++ ms)) (append-nil c.names) ∙ sym (append_assoc ns b.names c.names))

pub passed_next : {all more rest m : Binds (List DeclData)} {g0 g1 g2 : Binder}
    → Passed all more g0 g1 → more ≡ both m rest → Gathered m g1 g2 → Passed all rest g0 g2
passed_next {all} {more} {rest} {m} {g0} {g1} {g2} p split h =
    let b : Bound (List DeclData) = record {
      value = h.decls;
      after = here_of g2.walker;
      functions = h.came.functions;
      names = h.came.names;
    } in
    record {
      decls = p.decls ++ h.decls;
      functions = p.functions ++ h.came.functions;
      names = p.names ++ h.came.names;
      is = p.is
          ∙ ap (λ (k : Binds (List DeclData)). after_turns p.decls p.functions p.names (k (here_of g1.walker))) split
          ∙ ap (λ r. after_turns p.decls p.functions p.names
          (continued r (λ ds. rest >>= λ es. gives (ds ++ es)))) h.came.is
          ∙ after_next p.decls p.functions p.names b (rest (here_of g2.walker));
      gathered = h.gathered ∙ ap (λ ds. ds ++ h.decls) p.gathered
          ∙ append_assoc (gathered_in g0) p.decls h.decls;
      table = h.came.table ∙ ap (λ fs. fs ++ h.came.functions) p.table
          ∙ append_assoc (table_of g0.walker) p.functions h.came.functions;
    }

-- ## Imports

pub import_gathers : {X : Type 0} (fault : Option SpecKind) (g : Binder) (r : Result X Stop) → Checks r fault
    → Gathers (no_fault fault >>= λ x. gives []) g g r
import_gathers fault g (Ok x) e =
    let same : (no_fault fault >>= λ (y : Option SpecKind). gives []) ≡ gives [] =
    ap (λ f. no_fault f >>= λ (y : Option SpecKind). gives []) e in
    gathers_at {X = Unit {0}} g g (Ok tt) same (none_gathered g)
import_gathers fault g (Err (stops.Fault kind)) e =
    ap (λ f. (no_fault f >>= λ (y : Option SpecKind). gives []) (here_of g.walker)) e
import_gathers fault g (Err stops.Memory) e = tt
