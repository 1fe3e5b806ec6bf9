-- The members, indices and calls after a subject, one after another.
use Rattle.std.proofs.Common.{◌+◌, ◌<◌, ◌∙◌, ◌≡◌, ◌≤◌, ℕ, List, None, Some, ap, drop, get_or, length, map, refl, subst, sym}
use Rattle.dscript_program.specs.BoundTree as tree
use Rattle.dscript_program.specs.BoundTree.{ExprData, ExprRow, PartData, PartRow, to_parts}
use Rattle.dscript_program.specs.ProgramData.{ProgramData}
use Rattle.dscript_program.specs.Views.{part_data}
use Rattle.dscript_program.specs.declared.bound.BoundPart.{BoundPart}
use Rattle.dscript_types_meaning.specs.Access.{indexed}
use Rattle.dscript_types_meaning.specs.Contexts.{◌>>=◌, Context, Known, Standing, Types, gives, only}
use Rattle.dscript_types_meaning.specs.Expressions as rules
use Rattle.dscript_types_meaning.specs.Expressions.{after, arguments, expr_type, first_of, further_arguments, subject_call, whole}
use Rattle.dscript_types_meaning.specs.Typed.{known_within}
use Rattle.dscript_types_meaning.specs.Types.{TypeData}
use Rattle.dscript_types_notes.proofs.Meant.{drop_all, drop_next}
use Rattle.dscript_types_notes.specs.Means.{program_of}
use Rattle.dscript_types_notes.specs.declared.world.World.{World}
use Rattle.dscript_types_scenes.proofs.Going.{ends, nil_right, no_bodies, part_by_part, starts}
use Rattle.dscript_types_scenes.proofs.Values.{whole_typed}
use Rattle.dscript_types_scenes.specs.Scenes.{Closed, Matches}
use Rattle.dscript_types_scenes.specs.Subjects.{named_typing, whole_of}
use Rattle.dscript_types_scenes.specs.Typings.{TypesTo, subject_data}
use Rattle.dscript_types_scenes.specs.declared.found.Subject.{Subject}
use Rattle.dscript_types_scenes.specs.declared.found.Subject.TheVariants as subjects
use Rattle.dscript_types_scenes.specs.declared.found.Typing.{Typing}
use Rattle.dscript_types_scenes.specs.declared.found.Typing.TheVariants as typings
use Rattle.dscript_types_scenes.specs.declared.scene.Scene.{Scene}
use Rattle.dscript_types_exprs.proofs.Listing.{and_same}
use Rattle.dscript_types_exprs.specs.Calls.{GoesOn, call_subject, index_subject}

gives_then : {X Y : Type 0} (x : X) (k : X → Types Y) → (gives x >>= k) ≡ k x
gives_then x k = no_bodies (k x)

module _ (p : ProgramData) (known : Known) (c : Context) (more : PartRow) where
  abbrev further : rules.Subject → Types rules.Subject
  further s = after p known c more s

  one_part
      : {X : Type 0} (m : Types X) (to : X → rules.Subject)
      → (m >>= λ x. further (to x)) ≡ ((m >>= λ x. gives (to x)) >>= further)
  one_part m to =
      and_same m (λ x. further (to x)) (λ x. gives (to x) >>= further) (λ x. sym (gives_then (to x) further))
      ∙ sym (part_by_part m (λ x. gives (to x)) further)

  two_parts
      : {X Y Z : Type 0} (m : Types X) (k : X → Types Y) (q : X → Y → Types Z) (to : Z → rules.Subject)
      → (m >>= λ x. k x >>= λ y. q x y >>= λ z. further (to z))
      ≡ ((m >>= λ x. k x >>= λ y. q x y >>= λ z. gives (to z)) >>= further)
  two_parts m k q to =
      and_same m (λ x. k x >>= λ y. q x y >>= λ z. further (to z)) (λ x. (k x >>= λ y. q x y >>= λ z. gives (to z)) >>= further)
      (λ x. and_same (k x) (λ y. q x y >>= λ z. further (to z)) (λ y. (q x y >>= λ z. gives (to z)) >>= further)
      (λ y. one_part (q x y) to)
      ∙ sym (part_by_part (k x) (λ y. q x y >>= λ z. gives (to z)) further))
      ∙ sym (part_by_part m (λ x. k x >>= λ y. q x y >>= λ z. gives (to z)) further)

  -- a part and then others
  pub part_first
      : (part : PartData) (s : rules.Subject)
      → after p known c (tree.more_parts part more) s
      ≡ (after p known c (tree.more_parts part tree.no_parts) s >>= further)
  unfolding after
  part_first (tree.Member name) s = one_part (whole s) (λ t. rules.Named t name)
  part_first (tree.Index e) s = two_parts (whole s) (λ t. expr_type p known c e) (λ t u. only (indexed t u)) rules.Whole
  part_first (tree.Call es) s =
      one_part (subject_call p known c (first_of es) (arguments p known c es) (further_arguments p known c es) s) rules.Whole

-- ## One after another

module _ (w : World) (scene : Scene) (found : Typing Subject) (parts : List BoundPart) where
  abbrev all_parts : PartRow
  all_parts = to_parts (map part_data parts)

  abbrev from_part : ℕ → PartRow
  from_part i = to_parts (map part_data (drop i parts))

  -- Where the first typing says what comes before, this one says what it comes to with the parts before this one.
  abbrev pub AfterGoes : ℕ → Typing Subject → Type 0
  AfterGoes i now =
      (n more : ℕ) (c : Context) → n ≤ more → n ≤ w.left → Matches (Closed w more) n scene c
      → (before : Types rules.Subject) → TypesTo subject_data (program_of w) (Closed w more) n found before
      → (sofar : Types rules.Subject) × TypesTo subject_data (program_of w) (Closed w more) n now sofar
      × ((before >>= after (program_of w) (known_within (program_of w) n) c all_parts)
      ≡ (sofar >>= after (program_of w) (known_within (program_of w) n) c (from_part i)))

  pub after_begin : AfterGoes 0 found
  after_begin n more c below within m before says = (before, says, refl)

  pub after_goes
      : (i : ℕ) (now new : Typing Subject) (part : BoundPart) → AfterGoes i now → i < length parts → part ≡ get_or parts i part
      → GoesOn subject_data w scene now new (λ p known c s. after p known c (tree.more_parts (part_data part) tree.no_parts) s)
      → AfterGoes (i + 1) new
  after_goes i now new part goes l e one n more c below within m before says =
      let p = program_of w in let known = known_within p n in
      let g = goes n more c below within m before says in
      let single = after p known c (tree.more_parts (part_data part) tree.no_parts) in (
        g.0 >>= single,
        one n more c below within m g.0 g.1,
        g.2
            ∙ ap (λ ps. g.0 >>= after p known c (to_parts (map part_data ps))) (drop_next parts i part l e)
            ∙ and_same g.0 (after p known c (tree.more_parts (part_data part) (from_part (i + 1))))
            (λ s. single s >>= after p known c (from_part (i + 1)))
            (λ s. part_first p known c (from_part (i + 1)) (part_data part) s)
            ∙ sym (part_by_part g.0 single (after p known c (from_part (i + 1)))),
      )

  and_gives : (o : Types rules.Subject) → (o >>= λ s. gives s) ≡ o
  and_gives None = refl
  and_gives (Some r) = ap (λ (bs : List Standing). Some (r.0, bs)) (nil_right r.1)

  pub after_end
      : (i : ℕ) (now : Typing Subject) → length parts ≤ i → AfterGoes i now
      → GoesOn subject_data w scene found now (λ p known c s. after p known c all_parts s)
  unfolding after
  after_end i now l goes n more c below within m before says =
      let p = program_of w in let known = known_within p n in
      let g = goes n more c below within m before says in
      subst (λ (o : Types rules.Subject). TypesTo subject_data p (Closed w more) n now o)
      (sym (g.2 ∙ ap (λ ps. g.0 >>= after p known c (to_parts (map part_data ps))) (drop_all parts i l) ∙ and_gives g.0)) g.1

-- ## One part

module _ (w : World) (scene : Scene) (found : Typing Subject) where
  abbrev pub AfterOne : PartData → Typing Subject → Type 0
  AfterOne part end =
      GoesOn subject_data w scene found end (λ p known c s. after p known c (tree.more_parts part tree.no_parts) s)

  -- of a value
  of_value
      : (p : ProgramData) (closed : Type 0) (n : ℕ) (end : Typing Subject) (before : Types rules.Subject)
      (next : TypeData → Types rules.Subject)
      → TypesTo subject_data p closed n end ((before >>= whole) >>= next)
      → TypesTo subject_data p closed n end (before >>= λ s. whole s >>= next)
  of_value p closed n end before next says =
      subst (λ (o : Types rules.Subject). TypesTo subject_data p closed n end o) (part_by_part before whole next) says

  pub member_after
      : (name : List ℕ) (value : Typing TypeData) (end : Typing Subject) → value ≡ whole_of found → end ≡ named_typing value name
      → AfterOne (tree.Member name) end
  unfolding after
  member_after name value end is named n more c below within m before says =
      let p = program_of w in let known = known_within p n in
      of_value p (Closed w more) n end before (λ t. gives (rules.Named t name))
      (subst (λ (q : Typing Subject). TypesTo subject_data p (Closed w more) n q ((before >>= whole) >>= λ t. gives (rules.Named t name)))
      (sym (named ∙ ap (λ v. named_typing v name) is))
      (by_value (whole_of found) (before >>= whole) (whole_typed p (Closed w more) n found before says)))
    where
      by_value
          : (v : Typing TypeData) (o : Types TypeData) → TypesTo (λ (t : TypeData). t) (program_of w) (Closed w more) n v o
          → TypesTo subject_data (program_of w) (Closed w more) n (named_typing v name) (o >>= λ t. gives (rules.Named t name))
      by_value (typings.Found t s) o h =
          ends (program_of w) (Closed w more) n subject_data s _ _
          (starts (program_of w) (Closed w more) n (λ (u : TypeData). u) t s o (λ u. gives (rules.Named u name)) h) (subjects.Named t name)
          refl
      by_value typings.Nothing o h = ap (λ q. q >>= λ t. gives (rules.Named t name)) h
      by_value (typings.Open a) o h = λ closed. ap (λ q. q >>= λ t. gives (rules.Named t name)) (h closed)

  pub index_after
      : (e : ExprData) (value : Typing TypeData) (end : Typing Subject) → value ≡ whole_of found
      → GoesOn (λ (t : TypeData). t) w scene value end (λ p known c t. index_subject p known c e t) → AfterOne (tree.Index e) end
  unfolding after
  index_after e value end is goes n more c below within m before says =
      let p = program_of w in let known = known_within p n in
      of_value p (Closed w more) n end before (index_subject p known c e)
      (goes n more c below within m (before >>= whole)
      (subst (λ (v : Typing TypeData). TypesTo (λ (t : TypeData). t) p (Closed w more) n v (before >>= whole)) (sym is)
      (whole_typed p (Closed w more) n found before says)))

  pub call_after
      : (es : ExprRow) (end : Typing Subject)
      → GoesOn subject_data w scene found end (λ p known c s. call_subject p known c es s) → AfterOne (tree.Call es) end
  unfolding after
  call_after es end goes = goes

  pub part_as : (part other : PartData) (end : Typing Subject) → other ≡ part → AfterOne other end → AfterOne part end
  part_as part other end e says = subst (λ (q : PartData). AfterOne q end) e says
