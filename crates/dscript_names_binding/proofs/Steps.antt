-- A walk, step by step.
use Rattle.std.proofs.Common.{◌≡◌, ℕ, List, [], ◌∷◌, ◌++◌, map, drop, Result, Ok, Err, refl, sym, ◌∙◌, ap, subst, append_assoc, append-nil}
use Rattle.std.proofs.lemmas.List.{map_push}
use Rattle.dscript_program.specs.declared.spec_fault.SpecKind.{SpecKind}
use Rattle.dscript_program.specs.ProgramData.{FunctionData}
use Rattle.dscript_names_scopes.specs.Blocks.{Block}
use Rattle.dscript_names_scopes.specs.declared.local.Local.{Local}
use Rattle.dscript_names_scopes.specs.declared.stop.Stop.{Stop}
use Rattle.dscript_names_scopes.specs.declared.stop.Stop.TheVariants as stops
use Rattle.dscript_names_binding.specs.Walk.{Here, Bound, Binds, chained, continued, ◌>>=◌, gives, in_turn, leave, within}
use Rattle.dscript_names_binding.specs.Walked.{here_of, table_of, Walked, Walks}
use Rattle.dscript_names_binding.specs.Turned.{after_turns, Turned}
use Rattle.dscript_names_binding.specs.declared.walker.Walker.{Walker}

pub walked_then : {X Y A B : Type 0} {va : X → A} {vb : Y → B} {m : Binds A} {s0 s1 s2 : Walker} {x : X} {y : Y}
    → (next : A → Binds B) → Walked va m s0 s1 x → Walked vb (next (va x)) s1 s2 y → Walked vb (m >>= next) s0 s2 y
walked_then {X} {Y} {A} {B} {va} {vb} {m} {s0} {s1} {s2} {x} {y} next first second =
    let b : Bound A = record {
      value = va x;
      after = here_of s1;
      functions = first.functions;
      names = first.names;
    } in
    record {
      functions = first.functions ++ second.functions;
      names = first.names ++ second.names;
      is = ap (λ r. continued r next) first.is ∙ ap (chained b) second.is;
      table = second.table ∙ ap (λ t. t ++ second.functions) first.table
          ∙ append_assoc (table_of s0) first.functions second.functions;
      named = second.named ∙ ap (λ t. t ++ second.names) first.named
          ∙ append_assoc s0.names.items first.names second.names;
      outer = second.outer ∙ first.outer;
    }

pub walked_gives : {X A : Type 0} {view : X → A} {a : A} {s : Walker} {x : X} → view x ≡ a
    → Walked view (gives a) s s x
walked_gives {X} {A} {view} {a} {s} {x} e = record {
  functions = [];
  names = [];
  is = ap (λ (v : A). gives v (here_of s)) (sym e);
  table = sym (append-nil (table_of s));
  named = sym (append-nil s.names.items);
  outer = refl;
}

-- another meaning, which is equal
pub walks_at : {X A : Type 0} {m n : Binds A} (view : X → A) (s0 s1 : Walker) (r : Result X Stop) → m ≡ n
    → Walks view n s0 s1 r → Walks view m s0 s1 r
walks_at {X} {A} {m} {n} view s0 s1 r e h =
    let P : Binds A → Type 0 = λ k. Walks view k s0 s1 r in subst P (sym e) h

pub walked_at : {X A : Type 0} {m n : Binds A} {view : X → A} {s0 s1 : Walker} {x : X} → m ≡ n
    → Walked view n s0 s1 x → Walked view m s0 s1 x
walked_at {X} {A} {m} {n} {view} {s0} {s1} {x} e h =
    let P : Binds A → Type 0 = λ k. Walked view k s0 s1 x in subst P (sym e) h

-- one step, and then another that may fail
pub then_walks : {X Y A B : Type 0} {va : X → A} {m : Binds A} {s0 s1 : Walker} {x : X}
    (next : A → Binds B) (vb : Y → B) (s2 : Walker) (r : Result Y Stop)
    → Walked va m s0 s1 x → Walks vb (next (va x)) s1 s2 r → Walks vb (m >>= next) s0 s2 r
then_walks next vb s2 (Ok y) w h = walked_then next w h
then_walks {X} {Y} {A} {B} {va} {m} {s0} {s1} {x} next vb s2 (Err (stops.Fault kind)) w h =
    let b : Bound A = record {
      value = va x;
      after = here_of s1;
      functions = w.functions;
      names = w.names;
    } in ap (λ r. continued r next) w.is ∙ ap (chained b) h
then_walks next vb s2 (Err stops.Memory) w h = tt

pub stop_first : {X Y A B : Type 0} (m : Binds A) (s0 : Walker) (next : A → Binds B) (va : X → A) (vb : Y → B)
    (s1 s2 : Walker) (e : Stop)
    → Walks va m s0 s1 (Err e) → Walks vb (m >>= next) s0 s2 (Err e)
stop_first m s0 next va vb s1 s2 (stops.Fault kind) h = ap (λ r. continued r next) h
stop_first m s0 next va vb s1 s2 stops.Memory h = tt

pub stopped : {Y B : Type 0} (m : Binds B) (s0 : Walker) (vb : Y → B) (s1 : Walker) (r : Result Y Stop) (y e : Stop)
    → r ≡ Err y → y ≡ e → Walks vb m s0 s1 (Err e) → Walks vb m s0 s1 r
stopped {Y} {B} m s0 vb s1 r y e is same h =
    let P : Result Y Stop → Type 0 = λ q. Walks vb m s0 s1 q in subst P (sym (is ∙ ap Err same)) h

-- another view, which is equal at this value
pub walked_as : {X Y A : Type 0} {m : Binds A} {va : X → A} {s0 s1 : Walker} {x : X} (vb : Y → A) (y : Y)
    → vb y ≡ va x → Walked va m s0 s1 x → Walked vb m s0 s1 y
walked_as {X} {Y} {A} {m} {va} {s0} {s1} {x} vb y e w = record {
  functions = w.functions;
  names = w.names;
  is = w.is ∙ ap (λ a. Ok (record {
    value = a;
    after = here_of s1;
    functions = w.functions;
    names = w.names;
  })) (sym e);
  table = w.table;
  named = w.named;
  outer = w.outer;
}

-- a fault does not depend on the view, nor on where the walker is after it
pub stop_as : {X Y A : Type 0} (m : Binds A) (s0 : Walker) (va : X → A) (vb : Y → A) (s1 s2 : Walker) (e : Stop)
    → Walks va m s0 s1 (Err e) → Walks vb m s0 s2 (Err e)
stop_as m s0 va vb s1 s2 (stops.Fault kind) h = h
stop_as m s0 va vb s1 s2 stops.Memory h = tt

pub out_of_memory : {Y B : Type 0} (m : Binds B) (s0 : Walker) (vb : Y → B) (s1 : Walker) (r : Result Y Stop) (y : Stop)
    → r ≡ Err y → y ≡ stops.Memory → Walks vb m s0 s1 r
out_of_memory m s0 vb s1 r y is same = stopped m s0 vb s1 r y stops.Memory is same tt

-- ## Lists

after_none : {A : Type 0} (r : Result (Bound (List A)) SpecKind) → after_turns [] [] [] r ≡ r
after_none (Ok b) = refl
after_none (Err kind) = refl

pub turned_init : {X A : Type 0} {view : X → A} {all rest : List (Binds A)} {s : Walker} {xs : List X}
    → rest ≡ all → xs ≡ [] → Turned view all rest s s xs
turned_init {X} {A} {view} {all} {rest} {s} {xs} e none = record {
  functions = [];
  names = [];
  is = sym (ap (λ ys. after_turns (map view ys) [] [] (in_turn rest (here_of s))) none
      ∙ after_none (in_turn rest (here_of s)) ∙ ap (λ ms. in_turn ms (here_of s)) e);
  table = sym (append-nil (table_of s));
  named = sym (append-nil s.names.items);
  outer = refl;
}

-- one more
after_next : {A : Type 0} (xs : List A) (fs : List FunctionData) (ns : List ℕ) (b : Bound A)
    (r : Result (Bound (List A)) SpecKind)
    → after_turns xs fs ns (chained b (continued r (λ ys. gives (b.value ∷ ys))))
    ≡ after_turns (xs ++ b.value ∷ []) (fs ++ b.functions) (ns ++ b.names) r
after_next xs fs ns b (Err kind) = refl
after_next {A} xs fs ns b (Ok c) =
    ap (λ vs. Ok (record {
      value = vs;
      after = c.after;
      functions = fs ++ (b.functions ++ (c.functions ++ []));
      names = ns ++ (b.names ++ (c.names ++ []));
    })) (sym (append_assoc xs (b.value ∷ []) c.value))
    ∙ ap (λ gs. Ok (record {
      value = (xs ++ b.value ∷ []) ++ c.value;
      after = c.after;
      functions = gs;
      names = ns ++ (b.names ++ (c.names ++ []));
    })) (ap (λ gs. fs ++ (b.functions ++ gs)) (append-nil c.functions) ∙ sym (append_assoc fs b.functions c.functions))
    ∙ ap (λ ms. Ok (record {
      value = (xs ++ b.value ∷ []) ++ c.value;
      after = c.after;
      functions = (fs ++ b.functions) ++ c.functions;
      names = ms;
    })) (ap (λ ms. ns ++ (b.names ++ ms)) (append-nil c.names) ∙ sym (append_assoc ns b.names c.names))

pub turned_next : {X A : Type 0} {view : X → A} {all more rest : List (Binds A)} {m : Binds A}
    {old mid new : Walker} {xs ys : List X} {x : X}
    → Turned view all more old mid xs → more ≡ m ∷ rest → Walked view m mid new x → ys ≡ xs ++ x ∷ []
    → Turned view all rest old new ys
turned_next {X} {A} {view} {all} {more} {rest} {m} {old} {mid} {new} {xs} {ys} {x} t split w grown =
    let b : Bound A = record {
      value = view x;
      after = here_of new;
      functions = w.functions;
      names = w.names;
    } in
    record {
      functions = t.functions ++ w.functions;
      names = t.names ++ w.names;
      is = t.is
          ∙ ap (λ ms. after_turns (map view xs) t.functions t.names (in_turn ms (here_of mid))) split
          ∙ ap (λ r. after_turns (map view xs) t.functions t.names
          (continued r (λ v. in_turn rest >>= λ vs. gives (v ∷ vs)))) w.is
          ∙ after_next (map view xs) t.functions t.names b (in_turn rest (here_of new))
          ∙ ap (λ vs. after_turns vs (t.functions ++ w.functions) (t.names ++ w.names)
          (in_turn rest (here_of new))) (sym (map_push view xs x) ∙ ap (map view) (sym grown));
      table = w.table ∙ ap (λ fs. fs ++ w.functions) t.table
          ∙ append_assoc (table_of old) t.functions w.functions;
      named = w.named ∙ ap (λ ns. ns ++ w.names) t.named
          ∙ append_assoc old.names.items t.names w.names;
      outer = w.outer ∙ t.outer;
    }

-- a fault of one
pub turned_err : {X A : Type 0} {view : X → A} {all more rest : List (Binds A)} {m : Binds A}
    {old mid : Walker} {xs : List X} {kind : SpecKind}
    → Turned view all more old mid xs → more ≡ m ∷ rest → m (here_of mid) ≡ Err kind
    → in_turn all (here_of old) ≡ Err kind
turned_err {X} {A} {view} {all} {more} {rest} {m} {old} {mid} {xs} {kind} t split e =
    t.is ∙ ap (λ ms. after_turns (map view xs) t.functions t.names (in_turn ms (here_of mid))) split
    ∙ ap (λ r. after_turns (map view xs) t.functions t.names
    (continued r (λ v. in_turn rest >>= λ vs. gives (v ∷ vs)))) e

pub turned_stop : {X Y A : Type 0} {view : X → A} {all more rest : List (Binds A)} {m : Binds A}
    {old mid : Walker} {xs : List X} (shape : Y → List A) (new end : Walker) (stop : Stop)
    → Turned view all more old mid xs → more ≡ m ∷ rest → Walks view m mid new (Err stop)
    → Walks shape (in_turn all) old end (Err stop)
turned_stop shape new end stops.Memory t split h = tt
turned_stop shape new end (stops.Fault kind) t split h = turned_err t split h

-- all of them
pub turned_done : {X Y A : Type 0} {view : X → A} {shape : Y → List A} {all rest : List (Binds A)}
    {old new : Walker} {xs : List X} {y : Y}
    → Turned view all rest old new xs → rest ≡ [] → shape y ≡ map view xs
    → Walked shape (in_turn all) old new y
turned_done {X} {Y} {A} {view} {shape} {all} {rest} {old} {new} {xs} {y} t none whole = record {
  functions = t.functions;
  names = t.names;
  is = t.is
      ∙ ap (λ ms. after_turns (map view xs) t.functions t.names (in_turn ms (here_of new))) none
      ∙ ap (λ vs. Ok (record {
        value = vs;
        after = here_of new;
        functions = t.functions ++ [];
        names = t.names ++ [];
      })) (append-nil (map view xs) ∙ sym whole)
      ∙ ap (λ fs. Ok (record {
        value = shape y;
        after = here_of new;
        functions = fs;
        names = t.names ++ [];
      })) (append-nil t.functions)
      ∙ ap (λ ns. Ok (record {
        value = shape y;
        after = here_of new;
        functions = t.functions;
        names = ns;
      })) (append-nil t.names);
  table = t.table;
  named = t.named;
  outer = t.outer;
}

pub turned_at : {X A : Type 0} {view : X → A} {all more rest : List (Binds A)} {old mid : Walker} {xs : List X}
    → more ≡ rest → Turned view all more old mid xs → Turned view all rest old mid xs
turned_at {X} {A} {view} {all} {more} {rest} {old} {mid} {xs} e t =
    let P : List (Binds A) → Type 0 = λ ms. Turned view all ms old mid xs in subst P e t
