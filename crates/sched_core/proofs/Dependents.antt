-- For each pip the pips that have it among their inputs: how the lists are made.
use Rattle.std.proofs.Common.{◌≡◌, ℕ, ◌+◌, ◌==◌, ◌<◌, ◌≤◌, Bool, true, false, cond, ltb, if◌then◌else◌, List, [], ◌∷◌, ◌++◌, length, get_or, set, take, replicate, zero, suc, refl, ap, sym, ◌∙◌, arith, inl, inr, add-zero}
use Rattle.std.proofs.lemmas.Bool.{cases_Bool, cases_eq, cases_lt, eq-eqb, ne_eqb, lt-ltb, le-ltb}
use Rattle.std.proofs.lemmas.List.{length-replicate, get_or-set_same, get_or-set_other, get_or_past, get_or-replicate}
use Rattle.std.proofs.lemmas.List.Sums.{sum_by-cons, sum_by-append, count_by_more_yes, count_by_more_no}
use Rattle.sched_core.specs.Indexes.{AddsDependents, AreDependents, list_at, times}
use Rattle.sched_core.specs.Table.{node_inputs, no_node}
use Rattle.sched_core.specs.declared.graph.Node.{Node}

-- ## How often a number stands in a list

pub times_push : (x y : ℕ) (xs : List ℕ) → times x (xs ++ y ∷ []) ≡ times x xs + cond (y == x) 1 0
times_push x y xs =
    let f : ℕ → ℕ = λ z. cond (z == x) 1 0 in
    omega (arith, sum_by-append f xs (y ∷ []), sum_by-cons f y [])

pub times_more : (x : ℕ) (xs : List ℕ) (k : ℕ) → k < length xs → times x (take (k + 1) xs) ≡ times x (take k xs) + cond (get_or xs k 0 == x) 1 0
times_more x xs k l = elim (cases_Bool (get_or xs k 0 == x)) [
  | inl hit ↦ rw hit (count_by_more_yes (λ y. y == x) xs k 0 l hit)
  | inr miss ↦ rw miss (omega (arith, count_by_more_no (λ y. y == x) xs k 0 l miss))
]

-- there is room for one more of what comes next
pub times_room : (xs : List ℕ) (k : ℕ) → k < length xs → times (get_or xs k 0) (take k xs) + 1 ≤ times (get_or xs k 0) xs
times_room [] k l = absurd (omega (arith, l))
times_room (x ∷ xs) zero l =
    let hit : cond (x == x) 1 0 ≡ 1 = ap {B = ℕ} (λ b. cond b 1 0) (eq-eqb x x refl) in
    omega (arith, sum_by-cons (λ y. cond (y == x) 1 0) x xs, hit)
times_room (x ∷ xs) (suc k) l =
    let f : ℕ → ℕ = λ y. cond (y == get_or xs k 0) 1 0 in
    omega (arith, sum_by-cons f x xs, sum_by-cons f x (take k xs), times_room xs k (omega (arith, l)))

-- ## One pip more among the dependents of an input

more_there : (a t c : ℕ) (b : Bool) → (a + (if b then t else 0)) + cond b 1 0 ≡ a + (if b then t + 1 else 0)
more_there a t c true = omega arith
more_there a t c false = omega arith

pub adds_none : (lists : List (List ℕ)) (pip : ℕ) → AddsDependents lists lists [] pip
adds_none lists pip q p = elim (cases_Bool (pip == p)) [
  | inl hit ↦ rw hit (sym (add-zero (times p (list_at lists q))))
  | inr miss ↦ rw miss (sym (add-zero (times p (list_at lists q))))
]

pub adds_more : (old now : List (List ℕ)) (inputs : List ℕ) (pip k : ℕ) → k < length inputs → get_or inputs k 0 < length now
    → AddsDependents old now (take k inputs) pip
    → AddsDependents old (set now (get_or inputs k 0) (list_at now (get_or inputs k 0) ++ pip ∷ [])) (take (k + 1) inputs) pip
adds_more old now inputs pip k l there h q p =
    let input = get_or inputs k 0 in
    let next = list_at now input ++ pip ∷ [] in
    elim (cases_eq q input) [
      | inl e ↦
          let read : list_at (set now input next) q ≡ list_at now q ++ pip ∷ [] =
          ap (λ i. list_at (set now input next) i) e ∙ get_or-set_same now input next [] there
          ∙ ap (λ i. list_at now i ++ pip ∷ []) (sym e) in
          let hit : cond (input == q) 1 0 ≡ 1 = ap {B = ℕ} (λ b. cond b 1 0) (eq-eqb input q (sym e)) in
          let grown : times q (take (k + 1) inputs) ≡ times q (take k inputs) + 1 =
          omega (arith, times_more q inputs k l, hit) in
          ap (times p) read ∙ times_push p pip (list_at now q)
          ∙ ap (λ n. n + cond (pip == p) 1 0) (h q p)
          ∙ more_there (times p (list_at old q)) (times q (take k inputs)) 0 (pip == p)
          ∙ ap (λ n. times p (list_at old q) + (if pip == p then n else 0)) (sym grown)
      | inr n ↦
          let read : list_at (set now input next) q ≡ list_at now q = get_or-set_other now input q next [] n in
          let miss : cond (input == q) 1 0 ≡ 0 = ap {B = ℕ} (λ b. cond b 1 0) (ne_eqb input q (λ e. n (sym e))) in
          let same : times q (take (k + 1) inputs) ≡ times q (take k inputs) =
          omega (arith, times_more q inputs k l, miss) in
          ap (times p) read ∙ h q p
          ∙ ap (λ m. times p (list_at old q) + (if pip == p then m else 0)) (sym same)
    ]

-- ## All pips

-- the pips before one stand among the dependents of their inputs
abbrev pub AreDependentsBelow : List Node → List (List ℕ) → ℕ → Type 0
AreDependentsBelow nodes lists i = (q p : ℕ) → times p (list_at lists q) ≡ (if ltb p i then times q (node_inputs nodes p) else 0)

no_list : (n q : ℕ) → list_at (replicate n []) q ≡ []
no_list n q = elim (cases_lt q n) [
  | inl l ↦ get_or-replicate n q [] [] l
  | inr past ↦ get_or_past (replicate n []) q [] (omega (arith, length-replicate {A = List ℕ} n [], past))
]

pub none_below : (nodes : List Node) (n : ℕ) → AreDependentsBelow nodes (replicate n []) 0
none_below nodes n q p = rw (le-ltb p 0 (omega arith)) (ap (times p) (no_list n q))

pub more_below : (nodes : List Node) (old new : List (List ℕ)) (i : ℕ) → AreDependentsBelow nodes old i
    → AddsDependents old new (node_inputs nodes i) i → AreDependentsBelow nodes new (i + 1)
more_below nodes old new i h adds q p = elim (cases_eq i p) [
  | inl e ↦
      let hit : (i == p) ≡ true = eq-eqb i p e in
      let before : ltb p i ≡ false = le-ltb p i (omega (arith, e)) in
      let now : ltb p (i + 1) ≡ true = lt-ltb p (i + 1) (omega (arith, e)) in
      let a : times p (list_at old q) ≡ 0 = h q p ∙ ap (λ b. if b then times q (node_inputs nodes p) else 0) before in
      let b : times p (list_at new q) ≡ times p (list_at old q) + times q (node_inputs nodes i) =
      adds q p ∙ ap (λ b. times p (list_at old q) + (if b then times q (node_inputs nodes i) else 0)) hit in
      rw now (omega (arith, a, b, ap (λ k. times q (node_inputs nodes k)) e))
  | inr n ↦
      let miss : (i == p) ≡ false = ne_eqb i p n in
      let b : times p (list_at new q) ≡ times p (list_at old q) + 0 =
      adds q p ∙ ap (λ b. times p (list_at old q) + (if b then times q (node_inputs nodes i) else 0)) miss in
      let same : ltb p i ≡ ltb p (i + 1) = elim (cases_lt p i) [
        | inl l ↦ lt-ltb p i l ∙ sym (lt-ltb p (i + 1) (omega (arith, l)))
        | inr g ↦ le-ltb p i g ∙ sym (le-ltb p (i + 1) (omega (arith, g, n)))
      ] in
      b ∙ add-zero (times p (list_at old q)) ∙ h q p ∙ ap (λ b. if b then times q (node_inputs nodes p) else 0) same
]

pub all_below : (nodes : List Node) (lists : List (List ℕ)) (i : ℕ) → length nodes ≤ i → AreDependentsBelow nodes lists i → AreDependents nodes lists
all_below nodes lists i past h q p = elim (cases_lt p i) [
  | inl l ↦ h q p ∙ ap (λ b. if b then times q (node_inputs nodes p) else 0) (lt-ltb p i l)
  | inr g ↦
      let none : node_inputs nodes p ≡ [] = ap (λ (node : Node). node.inputs) (get_or_past nodes p no_node (omega (arith, past, g))) in
      h q p ∙ ap (λ b. if b then times q (node_inputs nodes p) else 0) (le-ltb p i g) ∙ sym (ap (times q) none)
]
