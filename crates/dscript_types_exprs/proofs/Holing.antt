-- Holes of templates and literals.
use Rattle.std.proofs.Common.{◌+◌, ◌<◌, ◌∙◌, ◌≡◌, ◌≤◌, ℕ, Bool, List, ap, drop, false, get_or, length, map, refl, subst, sym, true}
use Rattle.dscript_program.specs.BoundTree as tree
use Rattle.dscript_program.specs.BoundTree.{ExprData, HoleRow, to_holes}
use Rattle.dscript_program.specs.ProgramData.{ProgramData}
use Rattle.dscript_program.specs.Views.{hole_data}
use Rattle.dscript_program.specs.declared.bound.BoundHole.{BoundHole}
use Rattle.dscript_types_known.specs.declared.finding.Pending.{Pending}
use Rattle.dscript_types_meaning.specs.Contexts.{◌>>=◌, ◌>>◌, Context, Known, Types, gives, needs}
use Rattle.dscript_types_meaning.specs.Expressions as rules
use Rattle.dscript_types_meaning.specs.Expressions.{expr_type, holes_fit, literal_fits}
use Rattle.dscript_types_meaning.specs.Fits.{fits}
use Rattle.dscript_types_meaning.specs.Operators.{literal_hole}
use Rattle.dscript_types_meaning.specs.Typed.{known_within}
use Rattle.dscript_types_meaning.specs.Types.{TypeData}
use Rattle.dscript_types_notes.proofs.Meant.{drop_all, drop_next}
use Rattle.dscript_types_notes.specs.Means.{program_of}
use Rattle.dscript_types_notes.specs.declared.world.World.{World}
use Rattle.dscript_types_scenes.proofs.Going.{Going, at_once, begins, both_seen, ends, ends_found, ends_none, ends_open, goes_on, opens, part_by_part, starts, stops}
use Rattle.dscript_types_scenes.specs.Holes.{after_typing, hole_type}
use Rattle.dscript_types_scenes.specs.Scenes.{Closed, Matches, TypesAs}
use Rattle.dscript_types_scenes.specs.Typings.{TypesTo, subject_data}
use Rattle.dscript_types_scenes.specs.declared.found.Seen.{Seen}
use Rattle.dscript_types_scenes.specs.declared.found.Subject.{Subject}
use Rattle.dscript_types_scenes.specs.declared.found.Subject.TheVariants as subjects
use Rattle.dscript_types_scenes.specs.declared.found.Typing.{Typing}
use Rattle.dscript_types_scenes.specs.declared.found.Typing.TheVariants as typings
use Rattle.dscript_types_scenes.specs.declared.holes.Allowed.{Allowed}
use Rattle.dscript_types_scenes.specs.declared.scene.Scene.{Scene}
use Rattle.dscript_types_exprs.specs.Parts.{nothing}

abbrev typed_as : TypeData → TypeData
typed_as t = t

module _ (p : ProgramData) (closed : Type 0) (n : ℕ) where
  -- a value of a type, after what has none
  pub after_typed
      : (found : Typing (Unit {0})) (m : Types (Unit {0})) (t : TypeData) → TypesTo nothing p closed n found m
      → TypesTo subject_data p closed n (after_typing found t) (m >> rules.is t)
  after_typed (typings.Found u seen) m t h =
      ends p closed n subject_data seen _ _ (starts p closed n nothing u seen m (λ v. rules.is t) h) (subjects.Whole t) refl
  after_typed typings.Nothing m t h = ap (λ o. o >>= λ v. rules.is t) h
  after_typed (typings.Open pending) m t h = λ c. ap (λ o. o >>= λ v. rules.is t) (h c)

  -- ## A hole

  module _ (allowed : TypeData) (m : Types TypeData) where
    abbrev pub hole_of : Types (Unit {0})
    hole_of = m >>= λ t. needs (fits t allowed)

    needed : (b : Bool) (t : TypeData) → fits t allowed ≡ b → needs (fits t allowed) ≡ needs b
    needed b t e = ap needs e

    pub hole_found
        : (t : TypeData) (s : Seen) → TypesTo typed_as p closed n (typings.Found t s) m → fits t allowed ≡ true
        → TypesTo nothing p closed n (typings.Found tt s) hole_of
    hole_found t s found e =
        ends p closed n nothing s _ _ (starts p closed n typed_as t s m (λ u. needs (fits u allowed)) found) tt (ap needs e)

    pub hole_refused
        : (t : TypeData) (s : Seen) → TypesTo typed_as p closed n (typings.Found t s) m → fits t allowed ≡ false
        → TypesTo nothing p closed n typings.Nothing hole_of
    hole_refused t s found e =
        ends_none p closed n nothing s _ _ (starts p closed n typed_as t s m (λ u. needs (fits u allowed)) found) (ap needs e)

    pub hole_nothing : TypesTo typed_as p closed n typings.Nothing m → TypesTo nothing p closed n typings.Nothing hole_of
    hole_nothing h = ap (λ o. o >>= λ u. needs (fits u allowed)) h

    pub hole_open
        : (a : Pending) → TypesTo typed_as p closed n (typings.Open a) m → TypesTo nothing p closed n (typings.Open a) hole_of
    hole_open a h = λ c. ap (λ o. o >>= λ u. needs (fits u allowed)) (h c)

-- ## Holes, one after another

module _ (known : Known) (c : Context) (p : ProgramData) (closed : Type 0) (n : ℕ) (allowed : TypeData) (holes : List BoundHole) where
  abbrev pub holes_from : ℕ → Types (Unit {0})
  holes_from i = holes_fit p known c allowed (to_holes (map hole_data (drop i holes)))

  module _ (s : Seen) (whole : Types (Unit {0})) (i : ℕ) (hole : BoundHole) (l : i < length holes) (e : hole ≡ get_or holes i hole)
      (value : ExprData) (text : List ℕ) (is : hole_data hole ≡ tree.Hole value text)
      (goes : Going p closed n s whole (holes_from i)) where
    hole_step : holes_from i ≡ (hole_of p closed n allowed (expr_type p known c value) >>= λ u. holes_from (i + 1))
    unfolding holes_fit
    hole_step =
        ap (λ hs. holes_fit p known c allowed (to_holes (map hole_data hs))) (drop_next holes i hole l e)
        ∙ ap (λ h. holes_fit p known c allowed (tree.more_holes h (to_holes (map hole_data (drop (i + 1) holes))))) is
        ∙ sym (part_by_part (expr_type p known c value) (λ t. needs (fits t allowed)) (λ u. holes_from (i + 1)))

    pub holes_go
        : (r : Seen) → TypesTo nothing p closed n (typings.Found tt r) (hole_of p closed n allowed (expr_type p known c value))
        → Going p closed n (both_seen s r) whole (holes_from (i + 1))
    holes_go r found =
        goes_on p closed n nothing s whole (holes_from i) (hole_of p closed n allowed (expr_type p known c value))
        (λ u. holes_from (i + 1)) hole_step goes tt r found

    pub holes_stop
        : TypesTo nothing p closed n typings.Nothing (hole_of p closed n allowed (expr_type p known c value))
        → TypesTo nothing p closed n typings.Nothing whole
    holes_stop found =
        stops p closed n nothing s whole (holes_from i) (hole_of p closed n allowed (expr_type p known c value))
        (λ u. holes_from (i + 1)) hole_step goes nothing found

    pub holes_open
        : (a : Pending) → TypesTo nothing p closed n (typings.Open a) (hole_of p closed n allowed (expr_type p known c value))
        → TypesTo nothing p closed n (typings.Open a) whole
    holes_open a found =
        opens p closed n nothing s whole (holes_from i) (hole_of p closed n allowed (expr_type p known c value))
        (λ u. holes_from (i + 1)) hole_step goes nothing a a found

  pub holes_end
      : (s : Seen) (whole : Types (Unit {0})) (i : ℕ) → length holes ≤ i → Going p closed n s whole (holes_from i)
      → TypesTo nothing p closed n (typings.Found tt s) whole
  unfolding holes_fit
  holes_end s whole i l goes =
      ends p closed n nothing s whole (holes_from i) goes tt
      (ap (λ hs. holes_fit p known c allowed (to_holes (map hole_data hs))) (drop_all holes i l))

-- ## In each context of a scene

abbrev pub value_in : ExprData → ProgramData → Known → Context → Types TypeData
value_in e p known c = expr_type p known c e

module _ (w : World) (scene : Scene) where
  -- a hole
  module _ (allowed : Allowed) (value : ExprData) where
    abbrev pub hole_in : ProgramData → Known → Context → Types (Unit {0})
    hole_in p known c = expr_type p known c value >>= λ t. needs (fits t (hole_type allowed))

    pub hole_is_found
        : (t : TypeData) (s : Seen) (test : Bool) → TypesAs typed_as w scene (typings.Found t s) (value_in value)
        → test ≡ fits t (hole_type allowed) → test ≡ true → TypesAs nothing w scene (typings.Found tt s) hole_in
    hole_is_found t s test found is passed n more c below within m =
        let p = program_of w in let known = known_within p n in
        hole_found p (Closed w more) n (hole_type allowed) (expr_type p known c value) t s (found n more c below within m) (sym is ∙ passed)

    pub hole_is_refused
        : (t : TypeData) (s : Seen) (test : Bool) → TypesAs typed_as w scene (typings.Found t s) (value_in value)
        → test ≡ fits t (hole_type allowed) → test ≡ false → TypesAs nothing w scene typings.Nothing hole_in
    hole_is_refused t s test found is fails n more c below within m =
        let p = program_of w in let known = known_within p n in
        hole_refused p (Closed w more) n (hole_type allowed) (expr_type p known c value) t s (found n more c below within m) (sym is ∙ fails)

    pub hole_is_nothing
        : TypesAs typed_as w scene typings.Nothing (value_in value) → TypesAs nothing w scene typings.Nothing hole_in
    hole_is_nothing found n more c below within m =
        let p = program_of w in let known = known_within p n in
        hole_nothing p (Closed w more) n (hole_type allowed) (expr_type p known c value) (found n more c below within m)

    pub hole_is_open
        : (a : Pending) → TypesAs typed_as w scene (typings.Open a) (value_in value) → TypesAs nothing w scene (typings.Open a) hole_in
    hole_is_open a found n more c below within m =
        let p = program_of w in let known = known_within p n in
        hole_open p (Closed w more) n (hole_type allowed) (expr_type p known c value) a (found n more c below within m)

  -- holes that may each hold this
  module _ (allowed : Allowed) (holes : List BoundHole) where
    abbrev pub all_holes : ProgramData → Known → Context → Types (Unit {0})
    all_holes p known c = holes_fit p known c (hole_type allowed) (to_holes (map hole_data holes))

    abbrev from_hole : ℕ → ProgramData → Known → Context → Types (Unit {0})
    from_hole i p known c = holes_fit p known c (hole_type allowed) (to_holes (map hole_data (drop i holes)))

    abbrev pub HolesGo : ℕ → Seen → Type 0
    HolesGo i s =
        (n more : ℕ) (c : Context) → n ≤ more → n ≤ w.left → Matches (Closed w more) n scene c
        → Going (program_of w) (Closed w more) n s (all_holes (program_of w) (known_within (program_of w) n) c)
        (from_hole i (program_of w) (known_within (program_of w) n) c)

    pub holes_begin : (s : Seen) → s ≡ at_once → HolesGo 0 s
    holes_begin s is n more c below within m =
        let p = program_of w in let known = known_within p n in
        subst (λ (r : Seen). Going p (Closed w more) n r (all_holes p known c) (from_hole 0 p known c)) (sym is)
        (begins p (Closed w more) n (all_holes p known c) (from_hole 0 p known c) refl)

    module _ (i : ℕ) (s : Seen) (goes : HolesGo i s) (hole : BoundHole) (l : i < length holes) (e : hole ≡ get_or holes i hole)
        (value : ExprData) (text : List ℕ) (is : hole_data hole ≡ tree.Hole value text) where
      pub holes_go_on
          : (r z : Seen) → TypesAs nothing w scene (typings.Found tt r) (hole_in allowed value) → z ≡ both_seen s r → HolesGo (i + 1) z
      holes_go_on r z found seen n more c below within m =
          let p = program_of w in let known = known_within p n in
          subst (λ (q : Seen). Going p (Closed w more) n q (all_holes p known c) (from_hole (i + 1) p known c)) (sym seen)
          (holes_go known c p (Closed w more) n (hole_type allowed) holes s (all_holes p known c) i hole l e value text is
          (goes n more c below within m) r (found n more c below within m))

      pub holes_stop_at
          : TypesAs nothing w scene typings.Nothing (hole_in allowed value) → TypesAs nothing w scene typings.Nothing all_holes
      holes_stop_at found n more c below within m =
          let p = program_of w in let known = known_within p n in
          holes_stop known c p (Closed w more) n (hole_type allowed) holes s (all_holes p known c) i hole l e value text is
          (goes n more c below within m) (found n more c below within m)

      pub holes_open_at
          : (a : Pending) → TypesAs nothing w scene (typings.Open a) (hole_in allowed value)
          → TypesAs nothing w scene (typings.Open a) all_holes
      holes_open_at a found n more c below within m =
          let p = program_of w in let known = known_within p n in
          holes_open known c p (Closed w more) n (hole_type allowed) holes s (all_holes p known c) i hole l e value text is
          (goes n more c below within m) a (found n more c below within m)

    pub holes_end_at
        : (i : ℕ) (s : Seen) → length holes ≤ i → HolesGo i s → TypesAs nothing w scene (typings.Found tt s) all_holes
    holes_end_at i s l goes n more c below within m =
        let p = program_of w in let known = known_within p n in
        holes_end known c p (Closed w more) n (hole_type allowed) holes s (all_holes p known c) i l (goes n more c below within m)

  -- the holes of a literal
  module _ (allowed : Allowed) where
    abbrev pub literal_in : HoleRow → ProgramData → Known → Context → Types (Unit {0})
    literal_in hs p known c = literal_fits p known c (hole_type allowed) hs

    pub literal_plain
        : (hs : HoleRow) (s : Seen) → hs ≡ tree.no_holes → s ≡ at_once → TypesAs nothing w scene (typings.Found tt s) (literal_in hs)
    unfolding literal_fits
    literal_plain hs s none is n more c below within m =
        let p = program_of w in let known = known_within p n in
        subst (λ (q : Seen). TypesTo nothing p (Closed w more) n (typings.Found tt q) (literal_in hs p known c)) (sym is)
        (ends p (Closed w more) n nothing at_once _ _
        (begins p (Closed w more) n (literal_in hs p known c) (gives tt) (ap (λ h. literal_fits p known c (hole_type allowed) h) none)) tt
        refl)

    module _ (hs more_holes : HoleRow) (value : ExprData) (text : List ℕ) (is : hs ≡ tree.more_holes (tree.Hole value text) more_holes) where
      abbrev others_in : ProgramData → Known → Context → Types (Unit {0})
      others_in p known c = holes_fit p known c literal_hole more_holes

      literal_step : (p : ProgramData) (known : Known) (c : Context)
          → literal_in hs p known c ≡ (hole_in allowed value p known c >>= λ u. others_in p known c)
      unfolding literal_fits
      literal_step p known c =
          ap (λ h. literal_fits p known c (hole_type allowed) h) is
          ∙ sym (part_by_part (expr_type p known c value) (λ t. needs (fits t (hole_type allowed))) (λ u. others_in p known c))

      pub literal_nothing
          : TypesAs nothing w scene typings.Nothing (hole_in allowed value) → TypesAs nothing w scene typings.Nothing (literal_in hs)
      literal_nothing found n more c below within m =
          let p = program_of w in let known = known_within p n in
          literal_step p known c ∙ ap (λ o. o >>= λ u. others_in p known c) (found n more c below within m)

      pub literal_open
          : (a : Pending) → TypesAs nothing w scene (typings.Open a) (hole_in allowed value)
          → TypesAs nothing w scene (typings.Open a) (literal_in hs)
      literal_open a found n more c below within m = λ closed.
          let p = program_of w in let known = known_within p n in
          literal_step p known c ∙ ap (λ o. o >>= λ u. others_in p known c) (found n more c below within m closed)

      module _ (s : Seen) (first : TypesAs nothing w scene (typings.Found tt s) (hole_in allowed value)) where
        at_others
            : (n more : ℕ) (c : Context) → n ≤ more → n ≤ w.left → Matches (Closed w more) n scene c
            → Going (program_of w) (Closed w more) n s (literal_in hs (program_of w) (known_within (program_of w) n) c)
            (others_in (program_of w) (known_within (program_of w) n) c)
        at_others n more c below within m =
            let p = program_of w in let known = known_within p n in
            subst (λ (o : Types (Unit {0})). Going p (Closed w more) n s o (others_in p known c)) (sym (literal_step p known c))
            (starts p (Closed w more) n nothing tt s (hole_in allowed value p known c) (λ u. others_in p known c)
            (first n more c below within m))

        pub literal_then
            : (t z : Seen) → TypesAs nothing w scene (typings.Found tt t) others_in → z ≡ both_seen s t
            → TypesAs nothing w scene (typings.Found tt z) (literal_in hs)
        literal_then t z found seen n more c below within m =
            let p = program_of w in let known = known_within p n in
            subst (λ (q : Seen). TypesTo nothing p (Closed w more) n (typings.Found tt q) (literal_in hs p known c)) (sym seen)
            (ends_found p (Closed w more) n nothing s (literal_in hs p known c) (others_in p known c) (at_others n more c below within m)
            tt t (found n more c below within m))

        pub literal_then_nothing
            : TypesAs nothing w scene typings.Nothing others_in → TypesAs nothing w scene typings.Nothing (literal_in hs)
        literal_then_nothing found n more c below within m =
            let p = program_of w in let known = known_within p n in
            ends_none p (Closed w more) n nothing s (literal_in hs p known c) (others_in p known c) (at_others n more c below within m)
            (found n more c below within m)

        pub literal_then_open
            : (a : Pending) → TypesAs nothing w scene (typings.Open a) others_in → TypesAs nothing w scene (typings.Open a) (literal_in hs)
        literal_then_open a found n more c below within m =
            let p = program_of w in let known = known_within p n in
            ends_open p (Closed w more) n nothing s (literal_in hs p known c) (others_in p known c) (at_others n more c below within m) a
            (found n more c below within m)

  -- a value after holes
  pub after_holes_as
      : (found : Typing (Unit {0})) (end : Typing Subject) (t : TypeData) (m : ProgramData → Known → Context → Types (Unit {0}))
      → TypesAs nothing w scene found m → end ≡ after_typing found t
      → TypesAs subject_data w scene end (λ p known c. m p known c >> rules.is t)
  after_holes_as found end t m says is n more c below within at =
      let p = program_of w in let known = known_within p n in
      subst (λ (f : Typing Subject). TypesTo subject_data p (Closed w more) n f (m p known c >> rules.is t)) (sym is)
      (after_typed p (Closed w more) n found (m p known c) t (says n more c below within at))
