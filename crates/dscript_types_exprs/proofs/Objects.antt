-- The properties of objects, one after another.
use Rattle.std.proofs.Common.{◌+◌, ◌<◌, ◌∙◌, ◌∷◌, ◌≡◌, ◌≤◌, ℕ, List, None, Option, Some, [], ap, arith, drop, get_or, length, map, refl, subst, sym}
use Rattle.std.specs.Option.{option_and_then, option_map}
use Rattle.std.specs.declared.alloc.Global.{Global}
use Rattle.std.specs.declared.vec.Vec.{Vec}
use Rattle.dscript_program.specs.BoundTree as tree
use Rattle.dscript_program.specs.BoundTree.{ExprData, PropData, PropRow, to_props}
use Rattle.dscript_program.specs.ProgramData.{ProgramData}
use Rattle.dscript_program.specs.Views.{prop_data}
use Rattle.dscript_program.specs.declared.bound.BoundProp.{BoundProp}
use Rattle.dscript_types_data.specs.Views.{fields_now}
use Rattle.dscript_types_data.specs.declared.types.Field.{Field}
use Rattle.dscript_types_known.specs.declared.finding.Pending.{Pending}
use Rattle.dscript_types_meaning.specs.Contexts.{◌>>=◌, Context, Known, Standing, Types, gives, only, with_bodies}
use Rattle.dscript_types_meaning.specs.Expressions as rules
use Rattle.dscript_types_meaning.specs.Expressions.{expr_type, fields, subject}
use Rattle.dscript_types_meaning.specs.Fits.{field_named}
use Rattle.dscript_types_meaning.specs.Objects.{after_earlier, holding, put_field, spread_fields, write_fields}
use Rattle.dscript_types_meaning.specs.Sizes.{within_limit}
use Rattle.dscript_types_meaning.specs.Typed.{known_within}
use Rattle.dscript_types_meaning.specs.Types.{FieldData, TypeData, object_type}
use Rattle.dscript_types_meaning.specs.declared.limits.TheConstants.{MAX_TYPE_NODES}
use Rattle.dscript_types_notes.proofs.Large.{object_large, over_limit, put_longer}
use Rattle.dscript_types_notes.proofs.Meant.{drop_all, drop_next}
use Rattle.dscript_types_notes.specs.Means.{program_of}
use Rattle.dscript_types_notes.specs.declared.world.World.{World}
use Rattle.dscript_types_scenes.proofs.Going.{Going, at_once, begins, both_seen, ends, ends_if, ends_none, goes_on, no_bodies, opens, part_by_part, starts, stops}
use Rattle.dscript_types_scenes.proofs.Values.{ends_is}
use Rattle.dscript_types_scenes.specs.Scenes.{Closed, Matches, TypesAs}
use Rattle.dscript_types_scenes.specs.Subjects.{is_whole, only_found}
use Rattle.dscript_types_scenes.specs.Typings.{TypesTo, subject_data}
use Rattle.dscript_types_scenes.specs.declared.found.Seen.{Seen}
use Rattle.dscript_types_scenes.specs.declared.found.Typing.{Typing}
use Rattle.dscript_types_scenes.specs.declared.found.Typing.TheVariants as typings
use Rattle.dscript_types_scenes.specs.declared.scene.Scene.{Scene}
use Rattle.dscript_types_exprs.proofs.Listing.{and_same}
use Rattle.dscript_types_exprs.specs.Parts.{property_fields, with_property}

gives_then : {X Y : Type 0} (x : X) (k : X → Types Y) → (gives x >>= k) ≡ k x
gives_then x k = no_bodies (k x)

module _ (p : ProgramData) (known : Known) (c : Context) (more : PropRow) where
  abbrev further : List FieldData → Types (List FieldData)
  further fs = fields p known c more fs

  one_field
      : (m : Types TypeData) (put : TypeData → List FieldData)
      → (m >>= λ t. further (put t)) ≡ ((m >>= λ t. gives (put t)) >>= further)
  one_field m put =
      and_same m (λ t. further (put t)) (λ t. gives (put t) >>= further) (λ t. sym (gives_then (put t) further))
      ∙ sym (part_by_part m (λ t. gives (put t)) further)

  spread_one
      : (done : List FieldData) (o : Option (List FieldData))
      → (only o >>= λ fs. only (write_fields done fs) >>= further)
      ≡ ((only o >>= λ fs. only (write_fields done fs) >>= λ now. gives now) >>= further)
  spread_one done None = refl
  spread_one done (Some fs) = written (write_fields done fs)
    where
      written
          : (o : Option (List FieldData))
          → with_bodies [] (only o >>= further) ≡ (with_bodies [] (only o >>= λ now. gives now) >>= further)
      written None = refl
      written (Some now) = no_bodies (with_bodies [] (further now))

  -- a property and then others
  pub prop_first
      : (prop : PropData) (done : List FieldData)
      → fields p known c (tree.more_props prop more) done
      ≡ (fields p known c (tree.more_props prop tree.no_props) done >>= further)
  unfolding fields
  prop_first (tree.Named name e) done = one_field (expr_type p known c e) (λ t. put_field done (holding name t))
  prop_first (tree.Quoted name e) done = one_field (expr_type p known c e) (λ t. put_field done (holding name t))
  prop_first (tree.Short name target) done =
      one_field (rules.typed (rules.named p known c target)) (λ t. put_field done (holding name t))
  prop_first (tree.Spread e) done =
      and_same (expr_type p known c e) (λ t. only (spread_fields t) >>= λ fs. only (write_fields done fs) >>= further)
      (λ t. (only (spread_fields t) >>= λ fs. only (write_fields done fs) >>= λ now. gives now) >>= further)
      (λ t. spread_one done (spread_fields t))
      ∙ sym (part_by_part (expr_type p known c e) (λ t. only (spread_fields t) >>= λ fs. only (write_fields done fs) >>= λ now. gives now)
      further)

-- ## Too many fields

abbrev IsLonger : ℕ → Types (List FieldData) → Type 0
IsLonger n None = Unit {0}
IsLonger n (Some r) = n ≤ length r.0

longer_bodies : (n : ℕ) (bodies : List Standing) (o : Types (List FieldData)) → IsLonger n o → IsLonger n (with_bodies bodies o)
longer_bodies n bodies None l = tt
longer_bodies n bodies (Some r) l = l

longer_then
    : {X : Type 0} (n : ℕ) (m : Types X) (k : X → Types (List FieldData)) → ((x : X) → IsLonger n (k x)) → IsLonger n (m >>= k)
longer_then n None k h = tt
longer_then n (Some r) k h = longer_bodies n r.1 (k r.0) (h r.0)

written_one
    : (done fs now : List FieldData) (o : Option FieldData)
    → ((new : List FieldData) → write_fields new fs ≡ Some now → length new ≤ length now)
    → option_and_then (λ (new : List FieldData). write_fields new fs) (option_map (put_field done) o) ≡ Some now
    → length done ≤ length now
written_one done fs now None further e = cc
written_one done fs now (Some f) further e = omega (arith, put_longer done f, further (put_field done f) e)

write_longer : (fs done now : List FieldData) → write_fields done fs ≡ Some now → length done ≤ length now
write_longer [] done now e =
    let same : done ≡ now = cc in
    omega (arith, ap (λ (xs : List FieldData). length xs) same)
write_longer (f ∷ fs) done now e =
    written_one done fs now (after_earlier (field_named done f.name) f) (λ new h. write_longer fs new now h) e

spread_longer
    : (n : ℕ) (done : List FieldData) (o : Option (List FieldData)) (k : List FieldData → Types (List FieldData))
    → ((now : List FieldData) → o ≡ Some now → length done ≤ length now) → n ≤ length done
    → ((now : List FieldData) → n ≤ length now → IsLonger n (k now)) → IsLonger n (only o >>= k)
spread_longer n done None k longer l h = tt
spread_longer n done (Some now) k longer l h = longer_bodies n [] (k now) (h now (omega (arith, l, longer now refl)))

fields_longer
    : (p : ProgramData) (known : Known) (c : Context) (n : ℕ) (ps : PropRow) (done : List FieldData) → n ≤ length done
    → IsLonger n (fields p known c ps done)
unfolding fields
fields_longer p known c n tree.no_props done l = l
fields_longer p known c n (tree.more_props (tree.Named name e) more) done l =
    longer_then n (expr_type p known c e) (λ t. fields p known c more (put_field done (holding name t)))
    (λ t. fields_longer p known c n more (put_field done (holding name t)) (omega (arith, l, put_longer done (holding name t))))
fields_longer p known c n (tree.more_props (tree.Quoted name e) more) done l =
    longer_then n (expr_type p known c e) (λ t. fields p known c more (put_field done (holding name t)))
    (λ t. fields_longer p known c n more (put_field done (holding name t)) (omega (arith, l, put_longer done (holding name t))))
fields_longer p known c n (tree.more_props (tree.Short name target) more) done l =
    longer_then n (rules.typed (rules.named p known c target)) (λ t. fields p known c more (put_field done (holding name t)))
    (λ t. fields_longer p known c n more (put_field done (holding name t)) (omega (arith, l, put_longer done (holding name t))))
fields_longer p known c n (tree.more_props (tree.Spread e) more) done l =
    longer_then n (expr_type p known c e)
    (λ t. only (spread_fields t) >>= λ fs. only (write_fields done fs) >>= λ now. fields p known c more now)
    (λ t. longer_then n (only (spread_fields t)) (λ fs. only (write_fields done fs) >>= λ now. fields p known c more now)
    (λ fs. spread_longer n done (write_fields done fs) (λ now. fields p known c more now) (λ now h. write_longer fs done now h) l
    (λ now h. fields_longer p known c n more now h)))

-- the object that these fields come to
abbrev pub to_object : List FieldData → Types rules.Subject
to_object fs = rules.within (object_type fs)

too_large : (n : ℕ) (o : Types (List FieldData)) → MAX_TYPE_NODES < n → IsLonger n o → (o >>= to_object) ≡ None
too_large n None l h = refl
too_large n (Some r) l h =
    ap (λ (q : Option TypeData). with_bodies r.1 (only q >>= rules.is))
    (over_limit (object_type r.0) (omega (arith, l, h, object_large r.0)))

-- ## Properties, one after another

module _ (w : World) (scene : Scene) (props : List BoundProp) where
  abbrev pub object_of : ProgramData → Known → Context → Types rules.Subject
  object_of p known c = subject p known c (tree.Object (to_props (map prop_data props)))

  abbrev rest_of : ℕ → List FieldData → ProgramData → Known → Context → Types rules.Subject
  rest_of i done p known c = fields p known c (to_props (map prop_data (drop i props))) done >>= to_object

  abbrev pub ObjectGoes : ℕ → List FieldData → Seen → Type 0
  ObjectGoes i done s =
      (n more : ℕ) (c : Context) → n ≤ more → n ≤ w.left → Matches (Closed w more) n scene c
      → Going (program_of w) (Closed w more) n s (object_of (program_of w) (known_within (program_of w) n) c)
      (rest_of i done (program_of w) (known_within (program_of w) n) c)

  pub object_begin : (done : List FieldData) (s : Seen) → done ≡ [] → s ≡ at_once → ObjectGoes 0 done s
  unfolding subject
  object_begin done s none is n more c below within m =
      let p = program_of w in let known = known_within p n in
      subst (λ (q : Seen). Going p (Closed w more) n q (object_of p known c) (rest_of 0 done p known c)) (sym is)
      (begins p (Closed w more) n (object_of p known c) (rest_of 0 done p known c)
      (ap (λ fs. fields p known c (to_props (map prop_data props)) fs >>= to_object) (sym none)))

  module _ (i : ℕ) (done : List FieldData) (s : Seen) (goes : ObjectGoes i done s) (prop : BoundProp) (l : i < length props)
      (e : prop ≡ get_or props i prop) where
    abbrev pub property_of : ProgramData → Known → Context → Types (List FieldData)
    property_of p known c = fields p known c (tree.more_props (prop_data prop) tree.no_props) done

    abbrev then_rest : ProgramData → Known → Context → List FieldData → Types rules.Subject
    then_rest p known c fs = rest_of (i + 1) fs p known c

    object_step : (p : ProgramData) (known : Known) (c : Context)
        → rest_of i done p known c ≡ (property_of p known c >>= then_rest p known c)
    object_step p known c =
        ap (λ ps. fields p known c (to_props (map prop_data ps)) done >>= to_object) (drop_next props i prop l e)
        ∙ ap (λ o. o >>= to_object) (prop_first p known c (to_props (map prop_data (drop (i + 1) props))) (prop_data prop) done)
        ∙ part_by_part (property_of p known c) (λ fs. fields p known c (to_props (map prop_data (drop (i + 1) props))) fs) to_object

    pub object_goes
        : (fs : Vec Field Global) (r z : Seen) → TypesAs fields_now w scene (typings.Found fs r) property_of → z ≡ both_seen s r
        → ObjectGoes (i + 1) (fields_now fs) z
    object_goes fs r z found seen n more c below within m =
        let p = program_of w in let known = known_within p n in
        subst (λ (q : Seen). Going p (Closed w more) n q (object_of p known c) (rest_of (i + 1) (fields_now fs) p known c)) (sym seen)
        (goes_on p (Closed w more) n fields_now s (object_of p known c) (rest_of i done p known c) (property_of p known c)
        (then_rest p known c) (object_step p known c) (goes n more c below within m) fs r (found n more c below within m))

    pub object_stop : TypesAs fields_now w scene typings.Nothing property_of → TypesAs subject_data w scene typings.Nothing object_of
    object_stop found n more c below within m =
        let p = program_of w in let known = known_within p n in
        stops p (Closed w more) n fields_now s (object_of p known c) (rest_of i done p known c) (property_of p known c)
        (then_rest p known c) (object_step p known c) (goes n more c below within m) subject_data (found n more c below within m)

    pub object_open
        : (a : Pending) → TypesAs fields_now w scene (typings.Open a) property_of → TypesAs subject_data w scene (typings.Open a) object_of
    object_open a found n more c below within m =
        let p = program_of w in let known = known_within p n in
        opens p (Closed w more) n fields_now s (object_of p known c) (rest_of i done p known c) (property_of p known c)
        (then_rest p known c) (object_step p known c) (goes n more c below within m) subject_data a a (found n more c below within m)

  -- more fields than nodes are allowed
  pub object_many
      : (i : ℕ) (done : List FieldData) (s : Seen) → MAX_TYPE_NODES < length done → ObjectGoes i done s
      → TypesAs subject_data w scene typings.Nothing object_of
  object_many i done s l goes n more c below within m =
      let p = program_of w in let known = known_within p n in
      ends_none p (Closed w more) n subject_data s (object_of p known c) (rest_of i done p known c) (goes n more c below within m)
      (too_large (length done) (fields p known c (to_props (map prop_data (drop i props))) done) l
      (fields_longer p known c (length done) (to_props (map prop_data (drop i props))) done (omega arith)))

  pub object_end
      : (i : ℕ) (done : List FieldData) (s : Seen) (t : TypeData) (o : Option TypeData) → length props ≤ i → ObjectGoes i done s
      → t ≡ object_type done → o ≡ within_limit t → TypesAs subject_data w scene (is_whole (only_found o s)) object_of
  unfolding fields
  object_end i done s t o l goes made limits n more c below within m =
      let p = program_of w in let known = known_within p n in
      ends_is p (Closed w more) n s (object_of p known c) (rest_of i done p known c) o (goes n more c below within m)
      (ap (λ ps. fields p known c (to_props (map prop_data ps)) done >>= to_object) (drop_all props i l)
      ∙ no_bodies (to_object done) ∙ ap (λ k. only k >>= rules.is) (sym (limits ∙ ap within_limit made)))

-- ## A property

module _ (w : World) (scene : Scene) (done : List FieldData) (name : List ℕ) where
  abbrev puts : TypeData → Types (List FieldData)
  puts t = gives (put_field done (holding name t))

  pub holds_value
      : (found : Typing TypeData) (fs : Typing (Vec Field Global)) (m : ProgramData → Known → Context → Types TypeData)
      → TypesAs (λ (t : TypeData). t) w scene found m → property_fields fs ≡ with_property done name found
      → TypesAs fields_now w scene fs (λ p known c. m p known c >>= puts)
  holds_value (typings.Found t s) (typings.Found v r) m says is n more c below within at =
      let p = program_of w in let known = known_within p n in
      let same : fields_now v ≡ put_field done (holding name t) = cc in
      let seen : r ≡ s = cc in
      subst (λ (q : Seen). TypesTo fields_now p (Closed w more) n (typings.Found v q) (m p known c >>= puts)) (sym seen)
      (ends p (Closed w more) n fields_now s (m p known c >>= puts) (puts t)
      (starts p (Closed w more) n (λ (u : TypeData). u) t s (m p known c) puts (says n more c below within at)) v (ap gives (sym same)))
  holds_value (typings.Found t s) typings.Nothing m says is n more c below within at =
      let fails : typings.Nothing ≡ typings.Found (put_field done (holding name t)) s = is in cc
  holds_value (typings.Found t s) (typings.Open a) m says is n more c below within at =
      let fails : typings.Open a ≡ typings.Found (put_field done (holding name t)) s = is in cc
  holds_value typings.Nothing typings.Nothing m says is n more c below within at = ap (λ o. o >>= puts) (says n more c below within at)
  holds_value typings.Nothing (typings.Found v r) m says is n more c below within at =
      let fails : typings.Found (fields_now v) r ≡ typings.Nothing = is in cc
  holds_value typings.Nothing (typings.Open a) m says is n more c below within at =
      let fails : typings.Open a ≡ typings.Nothing = is in cc
  holds_value (typings.Open a) (typings.Open b) m says is n more c below within at = λ closed.
      ap (λ o. o >>= puts) (says n more c below within at closed)
  holds_value (typings.Open a) (typings.Found v r) m says is n more c below within at =
      let fails : typings.Found (fields_now v) r ≡ typings.Open a = is in cc
  holds_value (typings.Open a) typings.Nothing m says is n more c below within at =
      let fails : typings.Nothing ≡ typings.Open a = is in cc

-- a spread
module _ (w : World) (scene : Scene) (done : List FieldData) (e : ExprData) where
  abbrev writes : TypeData → Types (List FieldData)
  writes t = only (spread_fields t) >>= λ fs. only (write_fields done fs) >>= λ now. gives now

  abbrev pub spread_of : ProgramData → Known → Context → Types (List FieldData)
  spread_of p known c = expr_type p known c e >>= writes

  pub spread_nothing
      : TypesAs (λ (t : TypeData). t) w scene typings.Nothing (λ p known c. expr_type p known c e)
      → TypesAs fields_now w scene typings.Nothing spread_of
  spread_nothing found n more c below within m = ap (λ o. o >>= writes) (found n more c below within m)

  pub spread_open
      : (a : Pending) → TypesAs (λ (t : TypeData). t) w scene (typings.Open a) (λ p known c. expr_type p known c e)
      → TypesAs fields_now w scene (typings.Open a) spread_of
  spread_open a found n more c below within m = λ closed. ap (λ o. o >>= writes) (found n more c below within m closed)

  module _ (t : TypeData) (s : Seen)
      (found : TypesAs (λ (u : TypeData). u) w scene (typings.Found t s) (λ p known c. expr_type p known c e)) where
    at_spread
        : (n more : ℕ) (c : Context) → n ≤ more → n ≤ w.left → Matches (Closed w more) n scene c
        → Going (program_of w) (Closed w more) n s (spread_of (program_of w) (known_within (program_of w) n) c) (writes t)
    at_spread n more c below within m =
        let p = program_of w in let known = known_within p n in
        starts p (Closed w more) n (λ (u : TypeData). u) t s (expr_type p known c e) writes (found n more c below within m)

    pub spread_fails : None ≡ spread_fields t → TypesAs fields_now w scene typings.Nothing spread_of
    spread_fails none n more c below within m =
        let p = program_of w in let known = known_within p n in
        ends_none p (Closed w more) n fields_now s (spread_of p known c) (writes t) (at_spread n more c below within m)
        (ap (λ o. only o >>= λ fs. only (write_fields done fs) >>= λ now. gives now) (sym none))

    gives_only : (o : Option (List FieldData)) → (only o >>= λ now. gives now) ≡ only o
    gives_only None = refl
    gives_only (Some now) = refl

    pub spread_writes
        : (fs : List FieldData) (o : Option (Vec Field Global)) → Some fs ≡ spread_fields t
        → option_map fields_now o ≡ write_fields done fs → TypesAs fields_now w scene (only_found o s) spread_of
    spread_writes fs o some written n more c below within m =
        let p = program_of w in let known = known_within p n in
        ends_if p (Closed w more) n fields_now s (spread_of p known c) (writes t) (at_spread n more c below within m) o
        (ap (λ q. only q >>= λ gs. only (write_fields done gs) >>= λ now. gives now) (sym some)
        ∙ no_bodies (only (write_fields done fs) >>= λ now. gives now) ∙ gives_only (write_fields done fs) ∙ ap only (sym written))
