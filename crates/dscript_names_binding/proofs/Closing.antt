-- Functions, from their opening to their closing.
use Rattle.std.proofs.Common.{◌≡◌, ℕ, ◌+◌, ◌-◌, ◌<◌, ◌≤◌, Bool, true, false, not, cond, ◌||◌, nat_eq, nat_lt, ◌⊎◌, inl, inr, List, [], ◌∷◌, ◌++◌, drop, length, zero, suc, Result, Ok, Err, refl, sym, ◌∙◌, ap, subst, append-nil, arith}
use Rattle.std.proofs.Common.{length-append}
use Rattle.std.specs.List.{filter, list_any}
use Rattle.std.proofs.lemmas.Bool.{cases_Bool}
use Rattle.std.proofs.Math.ListN.{set}
use Rattle.std.proofs.lemmas.List.{length-map}
use Rattle.dscript_ast.specs.ExprTree.{ParamTree}
use Rattle.dscript_program.specs.BoundTree.{BodyData}
use Rattle.dscript_program.specs.ProgramData.{FunctionData}
use Rattle.dscript_program.specs.Views.{body_data}
use Rattle.dscript_program.specs.declared.bound.Body.{Body}
use Rattle.dscript_names_scopes.specs.Blocks.{Block}
use Rattle.dscript_names_scopes.specs.declared.local.Local.{Local}
use Rattle.dscript_names_binding.specs.Walk.{Here, Bound, Binds, closed, each_once, function_in, function_of, params_from, with_once}
use Rattle.dscript_names_scopes.specs.declared.stop.Stop.{Stop}
use Rattle.dscript_names_scopes.specs.declared.stop.Stop.TheVariants as stops
use Rattle.dscript_names_binding.specs.Walked.{here_of, table_of, Walked, Walks}
use Rattle.dscript_names_binding.specs.Opened.{Closed, Opened, closed_data}
use Rattle.dscript_names_binding.specs.declared.functions.OpenFunction.{OpenFunction}
use Rattle.dscript_names_binding.specs.declared.walker.Walker.{Walker}

-- ## Numbers, each once

abbrev differs : ℕ → ℕ → Bool
differs n m = not (nat_eq m n)

abbrev pub has : ℕ → List ℕ → Bool
has n ns = list_any (λ m. nat_eq m n) ns

any_filtered : (n m : ℕ) (ns : List ℕ) → nat_eq m n ≡ false → has n (filter (differs m) ns) ≡ has n ns
any_filtered n m [] other = refl
any_filtered n m (k ∷ ns) other = elim (cases_Bool (nat_eq k m)) [
  | inl same ↦
      let ne : nat_eq k n ≡ false = grind (arith, same, other) in
      ap (λ b. has n (cond (not b) (k ∷ filter (differs m) ns) (filter (differs m) ns))) same
      ∙ any_filtered n m ns other ∙ ap (λ b. b || has n ns) (sym ne)
  | inr apart ↦
      ap (λ b. has n (cond (not b) (k ∷ filter (differs m) ns) (filter (differs m) ns))) apart
      ∙ ap (λ b. nat_eq k n || b) (any_filtered n m ns other)
]

filter_last : (p : ℕ → Bool) (ns : List ℕ) (n : ℕ)
    → filter p (ns ++ n ∷ []) ≡ filter p ns ++ cond (p n) (n ∷ []) []
filter_last p [] n = refl
filter_last p (m ∷ ns) n = elim (cases_Bool (p m)) [
  | inl t ↦
      ap (λ b. cond b (m ∷ filter p (ns ++ n ∷ [])) (filter p (ns ++ n ∷ []))) t
      ∙ ap (λ ks. m ∷ ks) (filter_last p ns n)
      ∙ ap (λ b. cond b (m ∷ filter p ns) (filter p ns) ++ cond (p n) (n ∷ []) []) (sym t)
  | inr f ↦
      ap (λ b. cond b (m ∷ filter p (ns ++ n ∷ [])) (filter p (ns ++ n ∷ []))) f
      ∙ filter_last p ns n
      ∙ ap (λ b. cond b (m ∷ filter p ns) (filter p ns) ++ cond (p n) (n ∷ []) []) (sym f)
]

once_last : (ns : List ℕ) (n : ℕ) → each_once (ns ++ n ∷ []) ≡ with_once (each_once ns) n
once_last [] n = refl
once_last (m ∷ ns) n =
    let old = each_once ns in
    let kept = filter (differs m) old in
    let base : each_once (m ∷ ns ++ n ∷ []) ≡ m ∷ filter (differs m) (with_once old n) =
    ap (λ ks. m ∷ filter (differs m) ks) (once_last ns n) in
    let added : filter (differs m) (old ++ n ∷ []) ≡ kept ++ cond (differs m n) (n ∷ []) [] =
    filter_last (differs m) old n in
    elim (cases_Bool (nat_eq m n)) [
      | inl same ↦
          let no : differs m n ≡ false = grind (arith, same) in
          let whole : with_once (m ∷ kept) n ≡ m ∷ kept =
          ap (λ b. cond (b || has n kept) (m ∷ kept) (m ∷ kept ++ n ∷ [])) same in
          elim (cases_Bool (has n old)) [
            | inl there ↦
                base ∙ ap (λ b. m ∷ filter (differs m) (cond b old (old ++ n ∷ []))) there ∙ sym whole
            | inr absent ↦
                base ∙ ap (λ b. m ∷ filter (differs m) (cond b old (old ++ n ∷ []))) absent
                ∙ ap (λ ks. m ∷ ks) (added ∙ ap (λ b. kept ++ cond b (n ∷ []) []) no ∙ append-nil kept)
                ∙ sym whole
          ]
      | inr apart ↦
          let apart_too : differs m n ≡ true = grind (arith, apart) in
          let whole : with_once (m ∷ kept) n ≡ cond (has n old) (m ∷ kept) (m ∷ kept ++ n ∷ []) =
          ap (λ b. cond (b || has n kept) (m ∷ kept) (m ∷ kept ++ n ∷ [])) apart
          ∙ ap (λ b. cond b (m ∷ kept) (m ∷ kept ++ n ∷ [])) (any_filtered n m old apart) in
          elim (cases_Bool (has n old)) [
            | inl there ↦
                base ∙ ap (λ b. m ∷ filter (differs m) (cond b old (old ++ n ∷ []))) there
                ∙ sym (whole ∙ ap (λ b. cond b (m ∷ kept) (m ∷ kept ++ n ∷ [])) there)
            | inr absent ↦
                base ∙ ap (λ b. m ∷ filter (differs m) (cond b old (old ++ n ∷ []))) absent
                ∙ ap (λ ks. m ∷ ks) (added ∙ ap (λ b. kept ++ cond b (n ∷ []) []) apart_too)
                ∙ sym (whole ∙ ap (λ b. cond b (m ∷ kept) (m ∷ kept ++ n ∷ [])) absent)
          ]
    ]

pub captured_next : (p : ℕ → Bool) (taken more : List ℕ) (n : ℕ) (old new : List ℕ) → more ≡ taken ++ n ∷ []
    → old ≡ each_once (filter p taken) → p n ≡ true → new ≡ with_once old n → new ≡ each_once (filter p more)
captured_next p taken more n old new grown is holds made =
    made ∙ ap (λ ks. with_once ks n) is ∙ sym (once_last (filter p taken) n)
    ∙ sym (ap (λ ks. each_once (filter p ks)) grown
    ∙ ap each_once (filter_last p taken n ∙ ap (λ b. filter p taken ++ cond b (n ∷ []) []) holds))

pub captured_same : (p : ℕ → Bool) (taken more : List ℕ) (n : ℕ) (old new : List ℕ) → more ≡ taken ++ n ∷ []
    → old ≡ each_once (filter p taken) → p n ≡ false → new ≡ old → new ≡ each_once (filter p more)
captured_same p taken more n old new grown is none made =
    made ∙ is
    ∙ sym (ap (λ ks. each_once (filter p ks)) grown
    ∙ ap each_once (filter_last p taken n ∙ ap (λ b. filter p taken ++ cond b (n ∷ []) []) none
    ∙ append-nil (filter p taken)))

-- ## Tables

length_end : (t : List FunctionData) (f : FunctionData) → length (t ++ f ∷ []) ≡ length t + 1
length_end [] f = refl
length_end (g ∷ t) f = let h = length_end t f in omega (arith, h)

length_set : (t : List FunctionData) (i : ℕ) (f : FunctionData) → length (set t i f) ≡ length t
length_set [] i f = refl
length_set (g ∷ t) zero f = refl
length_set (g ∷ t) (suc i) f = ap suc (length_set t i f)

set_middle : (t : List FunctionData) (old f : FunctionData) (more : List FunctionData)
    → set ((t ++ old ∷ []) ++ more) (length t) f ≡ t ++ f ∷ more
set_middle [] old f more = refl
set_middle (g ∷ t) old f more = ap (λ u. g ∷ u) (set_middle t old f more)

drop_first_part : (xs ys : List ℕ) → drop (length xs) (xs ++ ys) ≡ ys
drop_first_part [] ys = refl
drop_first_part (x ∷ xs) ys = drop_first_part xs ys

length_table : (w : Walker) → length (table_of w) ≡ length w.functions.items
length_table w = length-map w.functions.items _

-- a function is at its place as long as it is open
pub still_open : {A X : Type 0} {view : X → A} {m : Binds A} {s0 s1 s2 : Walker} {x : X}
    {params : List ParamTree} {locals : List Local} {f : OpenFunction}
    → Opened params locals s0 s1 f → Walked view m s1 s2 x
    → (f.number < length s2.functions.items) × (f.names ≤ length s2.names.items)
still_open {s0} {s1} {s2} {f} o w =
    let before : length (table_of s1) ≡ length s0.functions.items + 1 =
    ap length o.table ∙ length_end (table_of s0) o.before ∙ ap (λ n. n + 1) (length_table s0) in
    let after : length (table_of s2) ≡ length (table_of s1) + length w.functions =
    ap length w.table ∙ length-append (table_of s1) w.functions in
    let names : length s2.names.items ≡ length s1.names.items + length w.names =
    ap length w.named ∙ length-append s1.names.items w.names in
    let same : length s1.names.items ≡ length s0.names.items = ap length o.named in
    let whole : length (table_of s2) ≡ length s2.functions.items = length_table s2 in
    (omega (arith, o.number), omega (arith, o.names))

function_is : (file : ℕ) (params : List ParamTree) (captured captured' : List ℕ) (ps : List ParamTree)
    (first first' last : ℕ) (body : BodyData)
    → captured ≡ captured' → ps ≡ params → first ≡ first'
    → ◌≡◌ {A = FunctionData} (record {
      file = file;
      captured = captured;
      params = ps;
      first_local = first;
      local_count = last - first;
      body = body;
    }) (record {
      file = file;
      captured = captured';
      params = params;
      first_local = first';
      local_count = last - first';
      body = body;
    })
function_is file params captured captured' ps first first' last body e g h =
    ap (λ ns. record {
      file = file;
      captured = ns;
      params = ps;
      first_local = first;
      local_count = last - first;
      body = body;
    }) e
    ∙ ap (λ qs. record {
      file = file;
      captured = captured';
      params = qs;
      first_local = first;
      local_count = last - first;
      body = body;
    }) g
    ∙ ap (λ n. record {
      file = file;
      captured = captured';
      params = params;
      first_local = n;
      local_count = last - n;
      body = body;
    }) h

pub closed_is : (file file' : ℕ) (captured captured' : List ℕ) (ps : List ParamTree) (first count count' : ℕ)
    (body : BodyData) → file ≡ file' → captured ≡ captured' → count ≡ count'
    → ◌≡◌ {A = FunctionData} (record {
      file = file;
      captured = captured;
      params = ps;
      first_local = first;
      local_count = count;
      body = body;
    }) (record {
      file = file';
      captured = captured';
      params = ps;
      first_local = first;
      local_count = count';
      body = body;
    })
closed_is file file' captured captured' ps first count count' body e g h =
    ap (λ n. record {
      file = n;
      captured = captured;
      params = ps;
      first_local = first;
      local_count = count;
      body = body;
    }) e
    ∙ ap (λ ns. record {
      file = file';
      captured = ns;
      params = ps;
      first_local = first;
      local_count = count;
      body = body;
    }) g
    ∙ ap (λ n. record {
      file = file';
      captured = captured';
      params = ps;
      first_local = first;
      local_count = n;
      body = body;
    }) h

here_is : (bs bs' : List Block) (n n' k k' : ℕ) → bs ≡ bs' → n ≡ n' → k ≡ k'
    → ◌≡◌ {A = Here} (record { blocks = bs; locals = n; functions = k })
    (record { blocks = bs'; locals = n'; functions = k' })
here_is bs bs' n n' k k' e g h =
    ap (λ cs. record { blocks = cs; locals = n; functions = k }) e
    ∙ ap (λ m. record { blocks = bs'; locals = m; functions = k }) g
    ∙ ap (λ m. record { blocks = bs'; locals = n'; functions = m }) h

-- where the walk is as the body begins
abbrev inside_of : Walker → List ParamTree → List Local → Here
inside_of s params locals = record {
  blocks = record { locals = params_from s.locals params ++ locals; is_body = true } ∷ s.scopes;
  locals = s.locals + length params;
  functions = length s.functions.items + 1;
}

opened_here : {params : List ParamTree} {locals : List Local} {s0 s1 : Walker} {f : OpenFunction}
    → Opened params locals s0 s1 f → here_of s1 ≡ inside_of s0 params locals
opened_here {params} {locals} {s0} {s1} {f} o =
    let inside = inside_of s0 params locals in
    let grown : length s1.functions.items ≡ length s0.functions.items + 1 =
    sym (length_table s1) ∙ ap length o.table ∙ length_end (table_of s0) o.before
    ∙ ap (λ k. k + 1) (length_table s0) in
    here_is s1.scopes inside.blocks s1.locals inside.locals (length s1.functions.items) inside.functions
    o.scopes o.counted grown

pub opened_as : {params params' : List ParamTree} {locals locals' : List Local} {s0 s1 : Walker} {f : OpenFunction}
    → params ≡ params' → locals ≡ locals' → Opened params locals s0 s1 f → Opened params' locals' s0 s1 f
opened_as {params} {params'} {locals} {locals'} {s0} {s1} {f} e g o =
    let P : List ParamTree → Type 0 = λ ps. Opened ps locals s0 s1 f in
    let Q : List Local → Type 0 = λ ls. Opened params' ls s0 s1 f in
    subst Q g (subst P e o)

pub function_stops : {params : List ParamTree} {locals : List Local} {s0 s1 : Walker} {f : OpenFunction}
    (file : ℕ) (m : Binds BodyData) (s2 s3 : Walker) (e : Stop)
    → Opened params locals s0 s1 f → Walks body_data m s1 s2 (Err e)
    → Walks (λ (k : ℕ). k) (function_in file params locals m) s0 s3 (Err e)
function_stops {params} {locals} {s0} {s1} {f} file m s2 s3 (stops.Fault kind) o h =
    ap (λ (here : Here). closed file params (here_of s0) (m here)) (sym (opened_here o))
    ∙ ap (closed file params (here_of s0)) h
function_stops file m s2 s3 stops.Memory o h = tt

pub function_walked : {m : Binds BodyData} {s0 s1 s2 s3 : Walker} {body : Body} {n file : ℕ}
    {params : List ParamTree} {locals : List Local} {f : OpenFunction}
    → Opened params locals s0 s1 f → Walked body_data m s1 s2 body → Closed file f body s2 s3 n
    → Walked (λ (k : ℕ). k) (function_in file params locals m) s0 s3 n
function_walked {m} {s0} {s1} {s2} {s3} {body} {n} {file} {params} {locals} {f} o w d =
    let entered = opened_here o in
    let outside : s3.scopes ≡ s0.scopes = d.scopes ∙ w.outer ∙ ap (drop 1) o.scopes in
    let kept : length s3.functions.items ≡ length s2.functions.items =
    sym (length_table s3) ∙ ap length d.table
    ∙ length_set (table_of s2) f.number (closed_data file f body s2) ∙ length_table s2 in
    let left : here_of s3 ≡ record (here_of s2) { blocks = s0.scopes } =
    here_is s3.scopes s0.scopes s3.locals s2.locals (length s3.functions.items) (length s2.functions.items)
    outside d.counted kept in
    let all : s2.names.items ≡ s0.names.items ++ w.names = w.named ∙ ap (λ ns. ns ++ w.names) o.named in
    let own : drop f.names s2.names.items ≡ w.names =
    ap (λ k. drop k s2.names.items) o.names ∙ ap (drop (length s0.names.items)) all
    ∙ drop_first_part s0.names.items w.names in
    let b : Bound BodyData = record {
      value = body_data body;
      after = here_of s2;
      functions = w.functions;
      names = w.names;
    } in
    let made = function_of file params s0.locals b in
    let same : closed_data file f body s2 ≡ made =
    function_is file params _ _ _ f.first_local s0.locals s2.locals (body_data body)
    (ap (λ ns. each_once (filter (λ k. nat_lt k f.first_local) ns)) own
    ∙ ap (λ k. each_once (filter (λ i. nat_lt i k) w.names)) o.first) o.params_are o.first in
    let place : f.number ≡ length (table_of s0) = o.number ∙ sym (length_table s0) in
    record {
      functions = made ∷ w.functions;
      names = w.names;
      is = ap (λ h. closed file params (here_of s0) (m h)) (sym entered)
          ∙ ap (closed file params (here_of s0)) w.is
          ∙ ap (λ k. Ok (record {
            value = k;
            after = record (here_of s2) { blocks = s0.scopes };
            functions = made ∷ w.functions;
            names = w.names;
          })) (sym (d.number ∙ o.number))
          ∙ ap (λ h. Ok (record {
            value = n;
            after = h;
            functions = made ∷ w.functions;
            names = w.names;
          })) (sym left);
      table = d.table ∙ ap (λ t. set t f.number (closed_data file f body s2)) (w.table
          ∙ ap (λ t. t ++ w.functions) o.table)
          ∙ ap (λ k. set ((table_of s0 ++ o.before ∷ []) ++ w.functions) k (closed_data file f body s2)) place
          ∙ set_middle (table_of s0) o.before (closed_data file f body s2) w.functions
          ∙ ap (λ g. table_of s0 ++ g ∷ w.functions) same;
      named = d.named ∙ all;
      outer = ap (drop 1) outside;
    }
