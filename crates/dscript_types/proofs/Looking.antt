-- Passes over declarations, each looked at once.
use Rattle.std.proofs.Common.{◌≡◌, ℕ, suc, ◌+◌, ◌-◌, ◌<◌, ◌≤◌, ◌⊎◌, inl, inr, Bool, true, false, List, [], ◌∷◌, ◌++◌, Option, Some, None, if◌then◌else◌, length, slice_get, refl, ap, sym, subst, ◌∙◌, arith}
use Rattle.std.proofs.lemmas.Bool.{cases_lt}
use Rattle.std.proofs.lemmas.List.Sums.{sum_by-append, sum_by-cons}
use Rattle.std.proofs.lemmas.Option.{slice_get_within}
use Rattle.std.specs.List.{sum_by}
use Rattle.dscript_program.specs.ProgramData.{DeclData, FileData, ProgramData}
use Rattle.dscript_types_known.specs.Tables.{IsClosedTo, IsRight, TableData, ask_of, entry, open_count}
use Rattle.dscript_types_known.specs.Findings.{Open}
use Rattle.dscript_types_known.specs.declared.finding.Pending.{Pending}
use Rattle.dscript_types_meaning.specs.Lookups.{decl_at, decls_at, decls_in}
use Rattle.dscript_types_meaning.specs.Typed.{known_within, reach}
use Rattle.dscript_types.specs.Passes.{AreStuck, GoesOver, anywhere}
use Rattle.dscript_types.specs.Visits.{IsWaiting, Looks, LooksAt, Sees, WaitsFor, count_of, has_seen, looks_in, looks_left, unseen}
use Rattle.dscript_types.specs.declared.finding.Waiting.{Waiting}
use Rattle.dscript_types.specs.declared.visits.Visits.{Visits}
use Rattle.dscript_types.proofs.Passing.{only_at}

-- ## Those that are stuck

stuck_if
    : (p : ProgramData) (t : TableData) (all some : ℕ → ℕ → Type 0) → ((k j : ℕ) → some k j → all k j) → AreStuck p t all
    → AreStuck p t some
stuck_if p t all some is stuck n k j d here = stuck n k j d (is k j here)

stuck_as : (p : ProgramData) (t u : TableData) (which : ℕ → ℕ → Type 0) → u ≡ t → AreStuck p t which → AreStuck p u which
stuck_as p t u which same stuck = subst (λ (v : TableData). AreStuck p v which) (sym same) stuck

-- one of them is not known where none that is open is
abbrev NotKnown : ProgramData → TableData → ℕ → ℕ → ℕ → DeclData → Type 0
NotKnown p t n k j d =
    decl_at p k j ≡ Some d → entry t k j ≡ Open → n < reach p → IsClosedTo p t n → known_within p (suc n) (ask_of k j d.kind) ≡ None

no_flag : {A : Type 0} (b : Bool) → b ≡ true → b ≡ false → A
no_flag b passed fails = let both : true ≡ false = sym passed ∙ fails in cc

-- ## Looks, one after another

module _ (p : ProgramData) where
  pub looks_begin : (t : TableData) (v : Visits) → IsRight p t → Looks p t t v v
  looks_begin t v right = record {
    right = right;
    fewer = omega arith;
    seen = λ k j e. e;
    size = λ k. refl;
    stuck = λ e. (refl, λ n k j d here there before within none. no_flag (has_seen v k j) here.0 here.1);
  }

  -- one that was seen before, or is not there
  pub looks_again
      : (t : TableData) (v w : Visits) (file decl : ℕ) (result : Bool) → IsRight p t → Sees v w file decl result → result ≡ false
      → Looks p t t v w
  looks_again t v w file decl result right sees fails = record {
    right = right;
    fewer = omega arith;
    seen = sees.seen;
    size = sees.size;
    stuck = λ e. (
      refl,
      λ n k j d here there before within none. elim (sees.only k j here.0) [
        | inl old ↦ no_flag (has_seen v k j) old here.1
        | inr new ↦ no_flag result new.0 fails
      ],
    );
  }

  module _ (a b c : TableData) (v w x : Visits) (first : Looks p a b v w) (second : Looks p b c w x) where
    pub looks_then : Looks p a c v x
    looks_then = record {
      right = second.right;
      fewer = omega (arith, first.fewer, second.fewer);
      seen = λ k j e. second.seen k j (first.seen k j e);
      size = λ k. second.size k ∙ first.size k;
      stuck = λ e.
          let one = first.stuck (omega (arith, e, first.fewer, second.fewer)) in
          let two = second.stuck (omega (arith, e, first.fewer, second.fewer)) in (
            two.0 ∙ one.0,
            λ n k j d here. by_flag one.1 two.0 two.1 n k j d here (has_seen w k j) refl,
          );
    }
      where
        by_flag
            : AreStuck p b (λ k j. (has_seen w k j ≡ true) × (has_seen v k j ≡ false)) → c ≡ b
            → AreStuck p c (λ k j. (has_seen x k j ≡ true) × (has_seen w k j ≡ false))
            → (n k j : ℕ) (d : DeclData) → (has_seen x k j ≡ true) × (has_seen v k j ≡ false) → (flag : Bool) → has_seen w k j ≡ flag
            → NotKnown p c n k j d
        by_flag one same two n k j d here true e =
            stuck_as p b c (λ k j. (has_seen w k j ≡ true) × (has_seen v k j ≡ false)) same one n k j d (e, here.1)
        by_flag one same two n k j d here false e = two n k j d (here.0, e)

  -- one that is seen now
  pub looks_down
      : (a b : TableData) (v w x : Visits) (at : Pending) (result : Bool) → Sees v w at.file at.decl result → LooksAt p a b w x at
      → Looks p a b v x
  looks_down a b v w x at result sees down = record {
    right = down.looks.right;
    fewer = down.looks.fewer;
    seen = λ k j e. down.looks.seen k j (sees.seen k j e);
    size = λ k. down.looks.size k ∙ sees.size k;
    stuck = λ e.
        let further = down.looks.stuck e in (
          further.0,
          λ n k j d here. by_flag (down.own e) further.1 n k j d here (has_seen w k j) refl,
        );
  }
    where
      by_flag
          : AreStuck p b (only_at at.file at.decl) → AreStuck p b (λ k j. (has_seen x k j ≡ true) × (has_seen w k j ≡ false))
          → (n k j : ℕ) (d : DeclData) → (has_seen x k j ≡ true) × (has_seen v k j ≡ false) → (flag : Bool) → has_seen w k j ≡ flag
          → NotKnown p b n k j d
      by_flag own further n k j d here true e = elim (sees.only k j e) [
        | inl old ↦ no_flag (has_seen v k j) old here.1
        | inr new ↦ own n k j d (new.1, new.2)
      ]
      by_flag own further n k j d here false e = further n k j d (here.0, e)

-- one that is there is seen from now on
pub sees_one
    : (p : ProgramData) (a b : TableData) (v w x : Visits) (at : Pending) (result : Bool) → Sees v w at.file at.decl result
    → LooksAt p a b w x at → at.decl < count_of v at.file → has_seen x at.file at.decl ≡ true
sees_one p a b v w x at result sees down less = down.looks.seen at.file at.decl (sees.own less)

-- ## Those that wait

waits_before : (ws xs : List Waiting) (k j : ℕ) → IsWaiting ws k j → IsWaiting (ws ++ xs) k j
waits_before [] xs k j h = absurd h
waits_before (w ∷ ws) xs k j h = elim h [
  | inl here ↦ inl here
  | inr there ↦ inr (waits_before ws xs k j there)
]

waits_after : (ws xs : List Waiting) (k j : ℕ) → IsWaiting xs k j → IsWaiting (ws ++ xs) k j
waits_after [] xs k j h = h
waits_after (w ∷ ws) xs k j h = inr (waits_after ws xs k j h)

waits_in : (ws xs : List Waiting) (k j : ℕ) → IsWaiting (ws ++ xs) k j → IsWaiting ws k j ⊎ IsWaiting xs k j
waits_in [] xs k j h = inr h
waits_in (w ∷ ws) xs k j h = elim h [
  | inl here ↦ inl (inl here)
  | inr there ↦ elim (waits_in ws xs k j there) [
    | inl a ↦ inl (inr a)
    | inr b ↦ inr b
  ]
]

left_of_two : (ws : List Waiting) (x y : Waiting) → sum_by looks_left ((ws ++ x ∷ []) ++ y ∷ []) ≡ sum_by looks_left ws + (looks_left x + looks_left y)
left_of_two ws x y =
    omega (
      arith,
      sum_by-append looks_left (ws ++ x ∷ []) (y ∷ []),
      sum_by-append looks_left ws (x ∷ []),
      sum_by-cons looks_left x [],
      sum_by-cons looks_left y [],
    )

module _ (old : List Waiting) (before : Visits) (looks : ℕ) where
  -- nothing changes
  pub waits_no_more : WaitsFor old old before before looks
  waits_no_more = record {
    kept = λ k j h. h;
    seen = λ k j e. e;
    only = λ k j e. inl e;
    size = λ k. refl;
    fewer = omega arith;
  }

  pub waits_not
      : (now : Visits) (file decl : ℕ) (result : Bool) → Sees before now file decl result → result ≡ false → WaitsFor old old before now looks
  waits_not now file decl result sees fails = record {
    kept = λ k j h. h;
    seen = sees.seen;
    only = λ k j e. elim (sees.only k j e) [
      | inl f ↦ inl f
      | inr f ↦ no_flag result f.0 fails
    ];
    size = sees.size;
    fewer = let same = sees.fewer ∙ ap (λ (b : Bool). unseen now + (if b then 1 else 0)) fails in omega (arith, same);
  }

  pub waits_for
      : (new : List Waiting) (now : Visits) (result : Bool) (top other : Waiting) → Sees before now other.at.file other.at.decl result
      → result ≡ true → looks < 16 → top.looks ≡ looks + 1 → other.looks ≡ 0 → new ≡ (old ++ top ∷ []) ++ other ∷ []
      → WaitsFor old new before now looks
  waits_for new now result top other sees passed less again first put = record {
    kept = λ k j h. subst (λ ws. IsWaiting ws k j) (sym put) (waits_before (old ++ top ∷ []) (other ∷ []) k j (waits_before old (top ∷ []) k j h));
    seen = sees.seen;
    only = λ k j e. elim (sees.only k j e) [
      | inl f ↦ inl f
      | inr f ↦ inr (subst (λ ws. IsWaiting ws k j) (sym put)
          (waits_after (old ++ top ∷ []) (other ∷ []) k j (inl (sym f.1, sym f.2))))
    ];
    size = sees.size;
    fewer =
        let same = sees.fewer ∙ ap (λ (b : Bool). unseen now + (if b then 1 else 0)) passed in
        omega (arith, same, ap (sum_by looks_left) put, left_of_two old top other, less, again, first);
  }

-- what is taken from those that wait
pub fewer_wait
    : (rest old : List Waiting) (top : Waiting) (v : Visits) → old ≡ rest ++ top ∷ [] → looks_in rest v + (16 - top.looks) < looks_in old v
fewer_wait rest old top v is =
    omega (arith, ap (sum_by looks_left) is, sum_by-append looks_left rest (top ∷ []), sum_by-cons looks_left top [])

-- ## Down to those that others hang on

-- newly seen, or the one that was asked for
abbrev pub IsNew : Visits → Visits → Pending → ℕ → ℕ → Type 0
IsNew before now at k j = ((has_seen now k j ≡ true) × (has_seen before k j ≡ false)) ⊎ ((k ≡ at.file) × (j ≡ at.decl))

-- Each that is newly seen waits, or is stuck.
pub record LooksDown (p : ProgramData) (old table : TableData) (before now : Visits) (at : Pending) (waiting : List Waiting) : Type 0 where
  pub right : IsRight p table
  pub fewer : open_count table ≤ open_count old
  pub seen : (k j : ℕ) → has_seen before k j ≡ true → has_seen now k j ≡ true
  pub size : (k : ℕ) → count_of now k ≡ count_of before k
  pub same : open_count table ≡ open_count old → table ≡ old
  pub stuck : open_count table ≡ open_count old → (k j : ℕ) → IsNew before now at k j
      → IsWaiting waiting k j ⊎ AreStuck p table (only_at k j)

module _ (p : ProgramData) (old : TableData) (before : Visits) (at : Pending) where
  pub down_begins
      : (waiting : List Waiting) (top : Waiting) → IsRight p old → waiting ≡ top ∷ [] → top.at ≡ at
      → LooksDown p old old before before at waiting
  down_begins waiting top right is first = record {
    right = right;
    fewer = omega arith;
    seen = λ k j e. e;
    size = λ k. refl;
    same = λ e. refl;
    stuck = λ e k j new. elim new [
      | inl both ↦ no_flag (has_seen before k j) both.0 both.1
      | inr own ↦ inl (subst (λ ws. IsWaiting ws k j) (sym is)
          (inl (ap (λ (a : Pending). a.file) first ∙ sym own.0, ap (λ (a : Pending). a.decl) first ∙ sym own.1)))
    ];
  }

  module _ (table : TableData) (now : Visits) (waiting : List Waiting) (down : LooksDown p old table before now at waiting) where
    -- one is looked at
    pub down_goes
        : (next : TableData) (rest : List Waiting) (top : Waiting) → waiting ≡ rest ++ top ∷ []
        → GoesOver p table next (only_at top.at.file top.at.decl) → LooksDown p old next before now at rest
    down_goes next rest top is over = record {
      right = over.right;
      fewer = omega (arith, over.fewer, down.fewer);
      seen = down.seen;
      size = down.size;
      same = λ e. (over.stuck (omega (arith, e, over.fewer, down.fewer))).0 ∙ down.same (omega (arith, e, over.fewer, down.fewer));
      stuck = λ e k j new.
          let went = over.stuck (omega (arith, e, over.fewer, down.fewer)) in
          elim (down.stuck (omega (arith, e, over.fewer, down.fewer)) k j new) [
            | inl waits ↦ elim (waits_in rest (top ∷ []) k j (subst (λ ws. IsWaiting ws k j) is waits)) [
              | inl later ↦ inl later
              | inr now_it ↦ elim now_it [
                | inl here ↦
                    inr (stuck_if p next (only_at top.at.file top.at.decl) (only_at k j)
                    (λ a b h. (h.0 ∙ sym here.0, h.1 ∙ sym here.1)) went.1)
                | inr none ↦ absurd none
              ]
            ]
            | inr is_stuck ↦ inr (stuck_as p table next (only_at k j) went.0 is_stuck)
          ];
    }

    -- more wait
    pub down_waits
        : (new : List Waiting) (later : Visits) (looks : ℕ) → WaitsFor waiting new now later looks → LooksDown p old table before later at new
    down_waits new later looks waits = record {
      right = down.right;
      fewer = down.fewer;
      seen = λ k j e. waits.seen k j (down.seen k j e);
      size = λ k. waits.size k ∙ down.size k;
      same = down.same;
      stuck = λ e k j is_new. elim is_new [
        | inl both ↦ elim (waits.only k j both.0) [
          | inl before_it ↦ still e k j (inl (before_it, both.1))
          | inr waiting_now ↦ inl waiting_now
        ]
        | inr own ↦ still e k j (inr own)
      ];
    }
      where
        still
            : open_count table ≡ open_count old → (k j : ℕ) → IsNew before now at k j
            → IsWaiting new k j ⊎ AreStuck p table (only_at k j)
        still e k j is_new = elim (down.stuck e k j is_new) [
          | inl waits_still ↦ inl (waits.kept k j waits_still)
          | inr is_stuck ↦ inr is_stuck
        ]

    -- none waits any more
    pub down_ends : waiting ≡ [] → LooksAt p old table before now at
    down_ends none = record {
      looks = record {
        right = down.right;
        fewer = down.fewer;
        seen = down.seen;
        size = down.size;
        stuck = λ e. (down.same e, λ n k j d here. settled e k j (inl here) n k j d (refl, refl));
      };
      own = λ e n k j d here. settled e k j (inr here) n k j d (refl, refl);
    }
      where
        settled : open_count table ≡ open_count old → (k j : ℕ) → IsNew before now at k j → AreStuck p table (only_at k j)
        settled e k j new = elim (down.stuck e k j new) [
          | inl waits ↦ absurd (subst (λ ws. IsWaiting ws k j) none waits)
          | inr is_stuck ↦ is_stuck
        ]

-- ## All files

-- those of a file, up to this one
pub record FileGoes (p : ProgramData) (old : TableData) (before : Visits) (file place : ℕ) (table : TableData) (now : Visits) : Type 0 where
  pub looks : Looks p old table before now
  pub seen : (decl : ℕ) → decl < place → has_seen now file decl ≡ true

-- those of the files before this one
pub record FilesGo (p : ProgramData) (old : TableData) (before : Visits) (file : ℕ) (table : TableData) (now : Visits) : Type 0 where
  pub looks : Looks p old table before now
  pub seen : (k decl : ℕ) → k < file → decl < length (decls_at p k) → has_seen now k decl ≡ true

module _ (p : ProgramData) (old : TableData) (before : Visits) where
  pub file_begins : (file : ℕ) → IsRight p old → FileGoes p old before file 0 old before
  file_begins file right = record {
    looks = looks_begin p old before right;
    seen = λ decl l. absurd (omega (arith, l));
  }

  pub file_goes
      : (file place : ℕ) (table next : TableData) (now later : Visits) → FileGoes p old before file place table now → Looks p table next now later
      → has_seen later file place ≡ true → FileGoes p old before file (place + 1) next later
  file_goes file place table next now later goes looks own = record {
    looks = looks_then p old table next before now later goes.looks looks;
    seen = λ decl l. elim (cases_lt decl place) [
      | inl less ↦ looks.seen file decl (goes.seen decl less)
      | inr more ↦ let same : place ≡ decl = omega (arith, l, more) in subst (λ (k : ℕ). has_seen later file k ≡ true) same own
    ];
  }

  pub files_begin : IsRight p old → FilesGo p old before 0 old before
  files_begin right = record {
    looks = looks_begin p old before right;
    seen = λ k decl l within. absurd (omega (arith, l));
  }

  pub files_go
      : (file : ℕ) (table next : TableData) (now later : Visits) → FilesGo p old before file table now → Looks p table next now later
      → ((decl : ℕ) → decl < length (decls_at p file) → has_seen later file decl ≡ true) → FilesGo p old before (file + 1) next later
  files_go file table next now later goes looks own = record {
    looks = looks_then p old table next before now later goes.looks looks;
    seen = λ k decl l within. elim (cases_lt k file) [
      | inl less ↦ looks.seen k decl (goes.seen k decl less within)
      | inr more ↦
          let same : file ≡ k = omega (arith, l, more) in
          subst (λ (i : ℕ). decl < length (decls_at p i) → has_seen later i decl ≡ true) same (own decl) within
    ];
  }

  pub files_end
      : (file : ℕ) (table : TableData) (now : Visits) → length p.files ≤ file → ((k j : ℕ) → has_seen before k j ≡ false)
      → FilesGo p old before file table now → GoesOver p old table anywhere
  files_end file table now all none goes = record {
    right = goes.looks.right;
    fewer = goes.looks.fewer;
    stuck = λ e.
        let went = goes.looks.stuck e in (
          went.0,
          λ n k j d here there. went.1 n k j d
              (goes.seen k j (omega (arith, all, file_within k j d there)) (slice_get_within (decls_at p k) j d there), none k j) there,
        );
  }
    where
      none_there : (k j : ℕ) (d : DeclData) (o : Option FileData) → slice_get p.files k ≡ o → slice_get (decls_in o) j ≡ Some d → k < length p.files
      none_there k j d None e at = cc
      none_there k j d (Some f) e at = slice_get_within p.files k f e

      file_within : (k j : ℕ) (d : DeclData) → decl_at p k j ≡ Some d → k < length p.files
      file_within k j d there = none_there k j d (slice_get p.files k) refl there
