-- A call over an outside that was just made.
use Rattle.std.proofs.Common.{◌≡◌, ℕ, Bool, List, [], Option, Some, subst}
use Rattle.bx_io.specs.Holdings.{Holdings, StoreTold, opened}
use Rattle.bx_engine.specs.Calls.{Call, Given, StoreChange, Written, change_of, given_of, graph_call_of, written_of}
use Rattle.bx_engine.specs.declared.status.Status.{Status}

-- a store that was just made told that it holds this, and had no fault
begun_store : (F : StoreChange → Type 0) (k0 k1 : StoreTold) (bound : Option ℕ) (f0 f1 : ℕ) (held : Holdings) → k0 ≡ opened held
    → f0 ≡ 0 → F (change_of k0 k1 bound f0 f1) → F (change_of (opened held) k1 bound 0 f1)
begun_store F k0 k1 bound f0 f1 held store faults h =
    subst (λ (k : StoreTold). F (change_of k k1 bound 0 f1)) store (subst (λ (f : ℕ). F (change_of k0 k1 bound f f1)) faults h)

-- a sink that was just made took nothing, and had no fault
begun_sink : (F : Written → Type 0) (t0 t1 : List ℕ) (f0 f1 : ℕ) → t0 ≡ [] → f0 ≡ 0 → F (written_of t0 t1 f0 f1) → F (written_of [] t1 0 f1)
begun_sink F t0 t1 f0 f1 taken faults h =
    subst (λ (t : List ℕ). F (written_of t t1 0 f1)) taken (subst (λ (f : ℕ). F (written_of t0 t1 f f1)) faults h)

-- a source that was just made gave nothing, told that this is left, and had no fault
begun_source : (F : Given → Type 0) (g0 g1 : List ℕ) (l0 l1 : Option (List ℕ)) (ended : Bool) (f0 f1 : ℕ) (first : List ℕ) → g0 ≡ [] → l0 ≡ Some first
    → f0 ≡ 0 → F (given_of g0 g1 l0 l1 ended f0 f1) → F (given_of [] g1 (Some first) l1 ended 0 f1)
begun_source F g0 g1 l0 l1 ended f0 f1 first gave left faults h =
    subst (λ (g : List ℕ). F (given_of g g1 (Some first) l1 ended 0 f1)) gave
    (subst (λ (l : Option (List ℕ)). F (given_of g0 g1 l l1 ended 0 f1)) left
    (subst (λ (f : ℕ). F (given_of g0 g1 l0 l1 ended f f1)) faults h))

-- What is so of a call over such a source, two such sinks and two such stores.
pub begun : (P : Call → Type 0) (status : Status) (g0 g1 : List ℕ) (l0 l1 : Option (List ℕ)) (ended : Bool) (f0 f1 : ℕ) (t0 t1 : List ℕ) (tf0 tf1 : ℕ)
    (n0 n1 : List ℕ) (nf0 nf1 : ℕ) (k0 k1 : StoreTold) (bound : Option ℕ) (kf0 kf1 : ℕ) (m0 m1 : StoreTold) (other : Option ℕ) (mf0 mf1 : ℕ)
    (first : List ℕ) (held graphs : Holdings)
    → g0 ≡ [] → l0 ≡ Some first → f0 ≡ 0 → t0 ≡ [] → tf0 ≡ 0 → n0 ≡ [] → nf0 ≡ 0 → k0 ≡ opened held → kf0 ≡ 0
    → m0 ≡ opened graphs → mf0 ≡ 0
    → P (graph_call_of status (given_of g0 g1 l0 l1 ended f0 f1) (written_of t0 t1 tf0 tf1) (written_of n0 n1 nf0 nf1) (change_of k0 k1 bound kf0 kf1)
    (change_of m0 m1 other mf0 mf1))
    → P (graph_call_of status (given_of [] g1 (Some first) l1 ended 0 f1) (written_of [] t1 0 tf1) (written_of [] n1 0 nf1)
    (change_of (opened held) k1 bound 0 kf1) (change_of (opened graphs) m1 other 0 mf1))
begun P status g0 g1 l0 l1 ended f0 f1 t0 t1 tf0 tf1 n0 n1 nf0 nf1 k0 k1 bound kf0 kf1 m0 m1 other mf0 mf1 first held graphs gave left source out out_faults
    notes notes_faults store faults graph graph_faults h =
    let out0 = written_of t0 t1 tf0 tf1 in
    let notes0 = written_of n0 n1 nf0 nf1 in
    let store0 = change_of k0 k1 bound kf0 kf1 in
    let graphs0 = change_of m0 m1 other mf0 mf1 in
    let source1 = given_of [] g1 (Some first) l1 ended 0 f1 in
    let out1 = written_of [] t1 0 tf1 in
    let notes1 = written_of [] n1 0 nf1 in
    let store1 = change_of (opened held) k1 bound 0 kf1 in
    begun_store (λ (x : StoreChange). P (graph_call_of status source1 out1 notes1 store1 x)) m0 m1 other mf0 mf1 graphs graph graph_faults
    (begun_store (λ (x : StoreChange). P (graph_call_of status source1 out1 notes1 x graphs0)) k0 k1 bound kf0 kf1 held store faults
    (begun_sink (λ (x : Written). P (graph_call_of status source1 out1 x store0 graphs0)) n0 n1 nf0 nf1 notes notes_faults
    (begun_sink (λ (x : Written). P (graph_call_of status source1 x notes0 store0 graphs0)) t0 t1 tf0 tf1 out out_faults
    (begun_source (λ (x : Given). P (graph_call_of status x out0 notes0 store0 graphs0)) g0 g1 l0 l1 ended f0 f1 first gave left source h))))
