-- What comes of lists and objects comes of the works in their places.
use Rattle.std.proofs.Common.{◌≡◌, ℕ, true, false, List, [], ◌∷◌, ◌++◌, append_assoc, length, map, Some, None, Ok, inl, inr, ◌⊎◌, ap, sym, ◌∙◌}
use Rattle.std.specs.Borrow.{Bor}
use Rattle.std.specs.declared.alloc.Global.{Global}
use Rattle.std.specs.declared.vec.Vec.{Vec}
use Rattle.std.proofs.lemmas.List.{append-nil}
use Rattle.bx_tree.proofs.Lists.{none_left}
use Rattle.dscript_program.specs.BoundTree as tree
use Rattle.dscript_program.specs.BoundTree.{ExprData, PropData, PropRow, more_elements, more_props, to_elements, to_props}
use Rattle.dscript_program.specs.ProgramData.{ProgramData}
use Rattle.dscript_program.specs.Views.{element_data, expr_data, prop_data}
use Rattle.dscript_program.specs.declared.bound.BoundElement.{BoundElement}
use Rattle.dscript_program.specs.declared.bound.BoundExpr.{BoundExpr}
use Rattle.dscript_program.specs.declared.bound.BoundProp.{BoundProp}
use Rattle.dscript_program.specs.declared.target.Target.{Target}
use Rattle.dscript_value.specs.Grown.{grown_items}
use Rattle.dscript_value.specs.Plain as plain
use Rattle.dscript_value.specs.Plain.{Plain, PlainField, plain_field}
use Rattle.dscript_value.specs.declared.growing.GrowingList.{GrowingList}
use Rattle.dscript_value.specs.declared.value.Field.{Field}
use Rattle.dscript_sdk_values.specs.Answers.{list_answer}
use Rattle.dscript_eval_operators.specs.Spreads.{spread_fields, with_items_of}
use Rattle.dscript_eval_meaning.specs.Acts.{Acts}
use Rattle.dscript_eval_meaning.specs.Evaluating.{Gives, answered, followed, gives, spend, ◌>>=◌, ◌>>◌}
use Rattle.dscript_eval_meaning.specs.Expressions.{elements, fields, named}
use Rattle.dscript_eval_meaning.specs.States.{State}
use Rattle.dscript_eval_meaning.specs.Statements.{On}
use Rattle.dscript_eval_frames.specs.Forms.{acts_at, field_form, list_form, object_form, value_at}
use Rattle.dscript_eval_frames.specs.Views.{View}
use Rattle.dscript_eval_frames.specs.Works.{comes, comes_by, comes_with, run}
use Rattle.dscript_eval_frames.specs.Made.{object_answer}
use Rattle.dscript_eval_frames.specs.declared.work.ExprWork.TheVariants as expr
use Rattle.dscript_eval_frames.specs.declared.work.Work.TheVariants as works
use Rattle.dscript_eval_direct.specs.Now.{name_and_value}
use Rattle.dscript_eval_direct.proofs.Makes.{named_or_quoted}
use Rattle.dscript_eval_exprs.proofs.Equations.{element-is, named-is, no_elements-is, no_fields-is}
use Rattle.dscript_eval_exprs.proofs.Equations.{quoted-is, short-is, spread-is, spread_fields-are}
use Rattle.dscript_eval_frames.proofs.Followed.{followed-followed, followed-same}

-- ## Elements

abbrev then_list : View → Gives (List Plain) → Gives Plain
then_list v m = m >>= λ items. answered (list_answer items)

pub list_move
    : (v : View) (es : Bor (List BoundElement)) (done : GrowingList) → grown_items done ≡ []
    → comes_by (list_form v.program (acts_at v) (to_elements (map element_data es.now))) v
    ≡ comes_with (works.Expr (expr.Items es done)) v
list_move v es done none =
    ap (λ xs. comes_by (then_list v (elements v.program (acts_at v) (to_elements (map element_data es.now)) xs)) v)
    (sym none)

pub items_end
    : (v : View) (es : Bor (List BoundElement)) (done : GrowingList) → length es.now ≡ 0
    → comes_with (works.Expr (expr.Items es done)) v
    ≡ comes_by (answered (list_answer (grown_items done))) v
items_end v es done none =
    ap (λ xs. comes_by (then_list v (elements v.program (acts_at v) (to_elements (map element_data xs)) (grown_items done))) v)
    (none_left es.now none)
    ∙ ap (λ r. followed (followed r (λ items. answered (list_answer items))) (λ x later. run v.program v.work On v.openable x later))
    (no_elements-is v.program (acts_at v) v.state (grown_items done))

pub element_move
    : (v : View) (es others : Bor (List BoundElement)) (element : BoundElement) (e : Bor BoundExpr) (done : GrowingList)
    → es.now ≡ element ∷ others.now → element_data element ≡ tree.Element false (expr_data e.now)
    → comes_with (works.Expr (expr.Items es done)) v
    ≡ comes (record v { work = works.Expr (expr.Value e) ∷ works.Expr (expr.Item others done) ∷ v.work })
element_move v es others element e done is parts =
    ap (λ xs. comes_by (then_list v (elements v.program (acts_at v) (to_elements (map element_data xs)) (grown_items done))) v) is
    ∙ ap (λ d. comes_by (then_list v (elements v.program (acts_at v) (more_elements d (to_elements (map element_data others.now))) (grown_items done))) v) parts
    ∙ ap (λ r. followed (followed r (λ items. answered (list_answer items))) (λ x later. run v.program v.work On v.openable x later))
    (element-is v.program (acts_at v) v.state (expr_data e.now) (to_elements (map element_data others.now)) (grown_items done))
    ∙ ap (λ r. followed r (λ x later. run v.program v.work On v.openable x later)) (followed-followed (value_at v (expr_data e.now) v.state) _ _)
    ∙ followed-followed (value_at v (expr_data e.now) v.state) _ _

pub spread_move
    : (v : View) (es others : Bor (List BoundElement)) (element : BoundElement) (e : Bor BoundExpr) (done : GrowingList)
    → es.now ≡ element ∷ others.now → element_data element ≡ tree.Element true (expr_data e.now)
    → comes_with (works.Expr (expr.Items es done)) v
    ≡ comes (record v { work = works.Expr (expr.Value e) ∷ works.Expr (expr.SpreadItem others done) ∷ v.work })
spread_move v es others element e done is parts =
    ap (λ xs. comes_by (then_list v (elements v.program (acts_at v) (to_elements (map element_data xs)) (grown_items done))) v) is
    ∙ ap (λ d. comes_by (then_list v (elements v.program (acts_at v) (more_elements d (to_elements (map element_data others.now))) (grown_items done))) v) parts
    ∙ ap (λ r. followed (followed r (λ items. answered (list_answer items))) (λ x later. run v.program v.work On v.openable x later))
    (spread-is v.program (acts_at v) v.state (expr_data e.now) (to_elements (map element_data others.now)) (grown_items done))
    ∙ ap (λ r. followed r (λ x later. run v.program v.work On v.openable x later)) (followed-followed (value_at v (expr_data e.now) v.state) _ _)
    ∙ followed-followed (value_at v (expr_data e.now) v.state) _ _
    ∙ followed-same (value_at v (expr_data e.now) v.state) _ _
    (λ x s. ap (λ r. followed r (λ y later. run v.program v.work On v.openable y later))
    (followed-followed (answered (with_items_of (grown_items done) x) s) _ _))

-- the item that is given is added after those that are done
pub item_move
    : (v w : View) (others : Bor (List BoundElement)) (done more : GrowingList)
    → grown_items more ≡ grown_items done ++ v.given ∷ []
    → w ≡ record v { given = plain.Undefined }
    → comes_with (works.Expr (expr.Item others done)) v ≡ comes_with (works.Expr (expr.Items others more)) w
item_move v w others done more is taken =
    ap (λ xs. comes_by (then_list v (elements v.program (acts_at v) (to_elements (map element_data others.now)) xs)) v) (sym is)
    ∙ ap (λ (u : View). comes_with (works.Expr (expr.Items others more)) u) (sym taken)

-- the list that is given is spread after the items that are done
pub spread_item_move
    : (v : View) (others : Bor (List BoundElement)) (done more : GrowingList)
    → with_items_of (grown_items done) v.given ≡ Ok (grown_items more)
    → comes_with (works.Expr (expr.SpreadItem others done)) v ≡ comes_with (works.Expr (expr.Items others more)) v
spread_item_move v others done more is =
    ap (λ o. comes_by (answered o >>= λ items. then_list v (elements v.program (acts_at v) (to_elements (map element_data others.now)) items)) v) is

-- ## Properties

abbrev then_object : View → List PlainField → Gives (List PlainField) → Gives Plain
then_object v done m = m >>= λ found. answered (object_answer (done ++ found))

pub object_move
    : (v : View) (ps : Bor (List BoundProp)) (done : Vec Field Global) → done.items ≡ []
    → comes_by (object_form v.program (acts_at v) (to_props (map prop_data ps.now))) v
    ≡ comes_with (works.Expr (expr.Fields ps done)) v
object_move v ps done none =
    ap (λ fs. comes_by (then_object v (map plain_field fs) (fields v.program (acts_at v) (to_props (map prop_data ps.now)))) v)
    (sym none)

pub fields_end
    : (v : View) (ps : Bor (List BoundProp)) (done : Vec Field Global) → length ps.now ≡ 0
    → comes_with (works.Expr (expr.Fields ps done)) v
    ≡ comes_by (answered (object_answer (map plain_field done.items))) v
fields_end v ps done none =
    ap (λ xs. comes_by (then_object v (map plain_field done.items) (fields v.program (acts_at v) (to_props (map prop_data xs)))) v)
    (none_left ps.now none)
    ∙ ap (λ r. followed (followed r (λ found. answered (object_answer (map plain_field done.items ++ found))))
    (λ x later. run v.program v.work On v.openable x later)) (no_fields-is v.program (acts_at v) v.state)
    ∙ ap (λ fs. comes_by (answered (object_answer fs)) v) (append-nil (map plain_field done.items))

named_first
    : (v : View) (name : List ℕ) (done : List PlainField) (more : PropRow) (m : Gives Plain) (s : State)
    → followed ((m >>= λ x. fields v.program (acts_at v) more >>= λ found. gives ((name, x) ∷ found)) s)
    (λ found. answered (object_answer (done ++ found)))
    ≡ field_form v.program (acts_at v) name done more m s
named_first v name done more m s =
    followed-followed (m s) _ _
    ∙ followed-same (m s) _ _ (λ x s1. followed-followed (fields v.program (acts_at v) more s1) _ _)

-- what a property with a value of its own comes to
property_first
    : (v : View) (ps others : Bor (List BoundProp)) (p : BoundProp) (d : PropData) (name : List ℕ) (m : Gives Plain)
    (done : Vec Field Global) → ps.now ≡ p ∷ others.now → prop_data p ≡ d
    → fields v.program (acts_at v) (more_props d (to_props (map prop_data others.now))) v.state
    ≡ (m >>= λ x. fields v.program (acts_at v) (to_props (map prop_data others.now)) >>= λ found. gives ((name, x) ∷ found)) v.state
    → comes_with (works.Expr (expr.Fields ps done)) v
    ≡ comes_by (field_form v.program (acts_at v) name (map plain_field done.items) (to_props (map prop_data others.now)) m) v
property_first v ps others p d name m done is shape first =
    ap (λ xs. comes_by (then_object v (map plain_field done.items) (fields v.program (acts_at v) (to_props (map prop_data xs)))) v) is
    ∙ ap (λ x. comes_by (then_object v (map plain_field done.items) (fields v.program (acts_at v) (more_props x (to_props (map prop_data others.now))))) v) shape
    ∙ ap (λ r. followed (followed r (λ found. answered (object_answer (map plain_field done.items ++ found))))
    (λ x later. run v.program v.work On v.openable x later)) first
    ∙ ap (λ r. followed r (λ x later. run v.program v.work On v.openable x later))
    (named_first v name (map plain_field done.items) (to_props (map prop_data others.now)) m v.state)

pub value_next
    : (v : View) (name : Bor (List ℕ)) (others : Bor (List BoundProp)) (e : Bor BoundExpr) (done : Vec Field Global)
    → comes_by (field_form v.program (acts_at v) name.now (map plain_field done.items) (to_props (map prop_data others.now)) (value_at v (expr_data e.now))) v
    ≡ comes (record v { work = works.Expr (expr.Value e) ∷ works.Expr (expr.Named name others done) ∷ v.work })
value_next v name others e done = followed-followed (value_at v (expr_data e.now) v.state) _ _

pub named_move
    : (v : View) (ps others : Bor (List BoundProp)) (p : BoundProp) (name : List ℕ) (e : ExprData) (done : Vec Field Global)
    → ps.now ≡ p ∷ others.now → prop_data p ≡ tree.Named name e
    → comes_with (works.Expr (expr.Fields ps done)) v
    ≡ comes_by (field_form v.program (acts_at v) name (map plain_field done.items) (to_props (map prop_data others.now)) (value_at v e)) v
named_move v ps others p name e done is shape =
    property_first v ps others p (tree.Named name e) name (value_at v e) done is shape
    (named-is v.program (acts_at v) v.state name e (to_props (map prop_data others.now)))

pub quoted_move
    : (v : View) (ps others : Bor (List BoundProp)) (p : BoundProp) (name : List ℕ) (e : ExprData) (done : Vec Field Global)
    → ps.now ≡ p ∷ others.now → prop_data p ≡ tree.Quoted name e
    → comes_with (works.Expr (expr.Fields ps done)) v
    ≡ comes_by (field_form v.program (acts_at v) name (map plain_field done.items) (to_props (map prop_data others.now)) (value_at v e)) v
quoted_move v ps others p name e done is shape =
    property_first v ps others p (tree.Quoted name e) name (value_at v e) done is shape
    (quoted-is v.program (acts_at v) v.state name e (to_props (map prop_data others.now)))

-- a property that has a name and an expression of its own
pub field_named
    : (v : View) (ps others : Bor (List BoundProp)) (p : BoundProp) (name : List ℕ) (e : ExprData) (done : Vec Field Global)
    → ps.now ≡ p ∷ others.now → name_and_value (prop_data p) ≡ Some (name, e)
    → comes_with (works.Expr (expr.Fields ps done)) v
    ≡ comes_by (field_form v.program (acts_at v) name (map plain_field done.items) (to_props (map prop_data others.now)) (value_at v e)) v
field_named v ps others p name e done is has =
    let parts = named_or_quoted (prop_data p) name e has in
    elim parts [
      | inl named ↦ named_move v ps others p name e done is named
      | inr quoted ↦ quoted_move v ps others p name e done is quoted
    ]

-- the name of a short property is its own value, which takes a step
pub short_move
    : (v : View) (ps others : Bor (List BoundProp)) (p : BoundProp) (name : List ℕ) (target : Target) (done : Vec Field Global)
    → ps.now ≡ p ∷ others.now → prop_data p ≡ tree.Short name target
    → comes_with (works.Expr (expr.Fields ps done)) v
    ≡ comes_by (spend 1 >> field_form v.program (acts_at v) name (map plain_field done.items) (to_props (map prop_data others.now))
    (named v.program (acts_at v) target)) v
short_move v ps others p name target done is shape =
    property_first v ps others p (tree.Short name target) name (spend 1 >> named v.program (acts_at v) target) done is shape
    (short-is v.program (acts_at v) v.state name target (to_props (map prop_data others.now))
    ∙ sym (followed-followed (spend 1 v.state) _ _))
    ∙ ap (λ r. followed r (λ x later. run v.program v.work On v.openable x later)) (followed-followed (spend 1 v.state) _ _)

pub name_next
    : (v w : View) (name : Bor (List ℕ)) (target : Target) (others : Bor (List BoundProp)) (done : Vec Field Global)
    → w ≡ record v { work = works.Expr (expr.Named name others done) ∷ v.work }
    → comes_by (field_form v.program (acts_at v) name.now (map plain_field done.items) (to_props (map prop_data others.now))
    (named v.program (acts_at v) target)) v
    ≡ comes_by (named w.program (acts_at w) target) w
name_next v w name target others done is =
    followed-followed (named v.program (acts_at v) target v.state) _ _
    ∙ ap (λ (z : View). comes_by (named z.program (acts_at z) target) z) (sym is)

-- the fields of a spread and those of the other properties, in the end of an object
spread_rest
    : (p : ProgramData) (act : Acts) (done : List PlainField) (more : PropRow) (x : Plain) (s : State)
    → followed (followed (answered (spread_fields x) s)
    (λ these. fields p act more >>= λ found. gives (these ++ found)))
    (λ found. answered (object_answer (done ++ found)))
    ≡ (answered (spread_fields x) >>= λ these. fields p act more
    >>= λ found. answered (object_answer (done ++ these ++ found))) s
spread_rest p act done more x s =
    followed-followed (answered (spread_fields x) s) _ _
    ∙ followed-same (answered (spread_fields x) s) _ _
    (λ these s1. followed-followed (fields p act more s1) _ _
    ∙ followed-same (fields p act more s1) _ _
    (λ found s2. ap (λ fs. answered (object_answer fs) s2) (sym (append_assoc done these found))))

pub spread_fields_move
    : (v : View) (ps others : Bor (List BoundProp)) (p : BoundProp) (e : Bor BoundExpr) (done : Vec Field Global)
    → ps.now ≡ p ∷ others.now → prop_data p ≡ tree.Spread (expr_data e.now)
    → comes_with (works.Expr (expr.Fields ps done)) v
    ≡ comes (record v { work = works.Expr (expr.Value e) ∷ works.Expr (expr.SpreadFields others done) ∷ v.work })
spread_fields_move v ps others p e done is shape =
    let more = to_props (map prop_data others.now) in
    let K = λ (x : Plain) (later : State). run v.program v.work On v.openable x later in
    ap (λ xs. comes_by (then_object v (map plain_field done.items) (fields v.program (acts_at v) (to_props (map prop_data xs)))) v) is
    ∙ ap (λ x. comes_by (then_object v (map plain_field done.items) (fields v.program (acts_at v) (more_props x more))) v) shape
    ∙ ap (λ r. followed (followed r (λ found. answered (object_answer (map plain_field done.items ++ found)))) K)
    (spread_fields-are v.program (acts_at v) v.state (expr_data e.now) more)
    ∙ ap (λ r. followed r K) (followed-followed (value_at v (expr_data e.now) v.state) _ _)
    ∙ followed-followed (value_at v (expr_data e.now) v.state) _ _
    ∙ followed-same (value_at v (expr_data e.now) v.state) _ _
    (λ x s. ap (λ r. followed r K) (spread_rest v.program (acts_at v) (map plain_field done.items) more x s))

-- the field whose value is given is added after those that are done
pub named_field_move
    : (v w : View) (name : Bor (List ℕ)) (others : Bor (List BoundProp)) (done more : Vec Field Global)
    → map plain_field more.items ≡ map plain_field done.items ++ (name.now, v.given) ∷ [] → w ≡ record v { given = plain.Undefined }
    → comes_with (works.Expr (expr.Named name others done)) v ≡ comes_with (works.Expr (expr.Fields others more)) w
named_field_move v w name others done more is taken =
    ap (λ r. followed r (λ x later. run v.program v.work On v.openable x later))
    (followed-same (fields v.program (acts_at v) (to_props (map prop_data others.now)) v.state) _ _
    (λ found s. ap (λ fs. answered (object_answer fs) s)
    (sym (append_assoc (map plain_field done.items) ((name.now, v.given) ∷ []) found) ∙ ap (λ fs. fs ++ found) (sym is))))
    ∙ ap (λ (u : View). comes_with (works.Expr (expr.Fields others more)) u) (sym taken)

-- the fields of the object that is given go following those that are done
pub spread_fields_done
    : (v : View) (others : Bor (List BoundProp)) (done more : Vec Field Global) (these : List PlainField)
    → spread_fields v.given ≡ Ok these → map plain_field done.items ++ these ≡ map plain_field more.items
    → comes_with (works.Expr (expr.SpreadFields others done)) v ≡ comes_with (works.Expr (expr.Fields others more)) v
spread_fields_done v others done more these is same =
    ap (λ o. comes_by (answered o >>= λ ts. fields v.program (acts_at v) (to_props (map prop_data others.now)) >>= λ found.
    answered (object_answer (map plain_field done.items ++ ts ++ found))) v) is
    ∙ ap (λ r. followed r (λ x later. run v.program v.work On v.openable x later))
    (followed-same (fields v.program (acts_at v) (to_props (map prop_data others.now)) v.state) _ _
    (λ found s. ap (λ fs. answered (object_answer (fs ++ found)) s) same))
