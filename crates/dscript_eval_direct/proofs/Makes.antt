-- What lists, objects, members and indices give at once, by what their parts give.
use Rattle.std.proofs.Common.{◌≡◌, ℕ, ◌-◌, ◌≤◌, Bool, true, false, cond, List, [], ◌∷◌, ◌++◌, append_assoc, length, map, Option, Some, None, Ok, inl, inr, ◌⊎◌, refl, ap, sym, subst, ◌∙◌, arith}
use Rattle.std.specs.Prelude.{slice_get, unwrap_or}
use Rattle.std.proofs.lemmas.List.{append-nil}
use Rattle.bx_tree.specs.Paths.{Atoms}
use Rattle.bx_path.specs.Joining.{parent}
use Rattle.dscript_ast.specs.declared.expr.PathKind.{PathKind}
use Rattle.dscript_ast.specs.declared.expr.PathKind.TheVariants as letters
use Rattle.dscript_program.specs.BoundTree as tree
use Rattle.dscript_program.specs.BoundTree.{ElementData, ElementRow, ExprData, ExprRow, PartData, PartRow, PropData, PropRow, more_elements, more_exprs, more_parts, more_props, no_elements, no_exprs, no_holes, no_parts, no_props, to_elements, to_exprs, to_holes, to_parts, to_props}
use Rattle.dscript_program.specs.ProgramData.{FileData, ProgramData}
use Rattle.dscript_program.specs.declared.ambient.Ambient.{Ambient as AmbientCall}
use Rattle.dscript_program.specs.declared.bound.BoundExpr.{BoundExpr}
use Rattle.dscript_program.specs.declared.bound.BoundHole.{BoundHole}
use Rattle.dscript_program.specs.Views.{element_data, expr_data, hole_data, part_data, prop_data}
use Rattle.dscript_program.specs.declared.bound.BoundElement.{BoundElement}
use Rattle.dscript_program.specs.declared.bound.BoundPart.{BoundPart}
use Rattle.dscript_program.specs.declared.bound.BoundProp.{BoundProp}
use Rattle.dscript_value.specs.Plain as plain
use Rattle.dscript_value.specs.Plain.{Plain, PlainField, item_list}
use Rattle.dscript_value.specs.declared.parts.Callee.TheVariants as callees
use Rattle.dscript_sdk_members.specs.declared.member.Member.{Member}
use Rattle.dscript_sdk_pips.specs.States.{State as Calls}
use Rattle.dscript_sdk_values.specs.Answers.{list_answer}
use Rattle.dscript_eval_operators.specs.Indexing.{indexed}
use Rattle.dscript_eval_operators.specs.PathLiterals.{path_literal}
use Rattle.dscript_sdk.specs.Calls.{call_of}
use Rattle.dscript_sdk.specs.Members.{is_function_found, is_function_named, member_of}
use Rattle.dscript_eval_meaning.specs.Acts.{Acts}
use Rattle.dscript_eval_meaning.specs.Calls.{Named, Whole, ambient, applied, call_of_function, member, method, subject_call, with_calls}
use Rattle.dscript_eval_meaning.specs.Evaluating.{Gives, answered, followed, gives, spend, step, ◌>>=◌, ◌>>◌}
use Rattle.dscript_eval_meaning.specs.Expressions.{after, arguments, elements, fields, path_holes, path_value, value}
use Rattle.dscript_eval_meaning.specs.Lookups.{path_at, path_in}
use Rattle.dscript_eval_meaning.specs.States.{State}
use Rattle.dscript_eval_frames.specs.Made.{object_answer}
use Rattle.dscript_eval_direct.specs.Now.{FollowsAtOnce, GivesAtOnce, GoesOnAtOnce, HasArgumentsAtOnce, HasFieldsAtOnce, IsAtOnce}
use Rattle.dscript_eval_direct.specs.Now.{Knowledge, Knows, callee_of, directory_in, is_rooted, name_and_value}
use Rattle.dscript_eval_direct.proofs.Steps.{at_later, spent}

-- an object has no member functions
pub no_function
    : (s : Calls) (depth : ℕ) (ms : plain.Members) (m : Option Member) → is_function_found s (plain.Object depth ms) m ≡ false
no_function s depth ms None = refl
no_function s depth ms (Some x) = refl

pub named_or_quoted
    : (d : PropData) (name : List ℕ) (e : ExprData) → name_and_value d ≡ Some (name, e)
    → (d ≡ tree.Named name e) ⊎ (d ≡ tree.Quoted name e)
named_or_quoted (tree.Named m a) name e is =
    let pair : (m, a) ≡ (name, e) = cc in
    let same : m ≡ name = ap (λ (z : List ℕ × ExprData). z.0) pair in
    let other : a ≡ e = ap (λ (z : List ℕ × ExprData). z.1) pair in
    inl (ap (λ n. tree.Named n a) same ∙ ap (λ x. tree.Named name x) other)
named_or_quoted (tree.Quoted m a) name e is =
    let pair : (m, a) ≡ (name, e) = cc in
    let same : m ≡ name = ap (λ (z : List ℕ × ExprData). z.0) pair in
    let other : a ≡ e = ap (λ (z : List ℕ × ExprData). z.1) pair in
    inr (ap (λ n. tree.Quoted n a) same ∙ ap (λ x. tree.Quoted name x) other)
named_or_quoted (tree.Short m target) name e is = absurd (let never : None ≡ Some (name, e) = is in cc)
named_or_quoted (tree.Spread a) name e is = absurd (let never : None ≡ Some (name, e) = is in cc)

-- the parts after a member that is found go on after its value
found_parts
    : (p : ProgramData) (act : Acts) (parts : PartRow) (x y : Plain) (name : List ℕ) (s : State)
    → is_function_named s.calls x name ≡ false → member x name s ≡ Ok (y, s)
    → after p act parts (Named x name) s ≡ after p act parts (Whole y) s
unfolding after subject_call
found_parts p act no_parts x y name s never is = is
found_parts p act (more_parts (tree.Member n) more) x y name s never is =
    ap (λ r. followed r (λ z. step >> after p act more (Named z n))) is
found_parts p act (more_parts (tree.Index e) more) x y name s never is =
    ap (λ r. followed r (λ z. step >> value p act e >>= λ i. answered (indexed z i) >>= λ w. after p act more (Whole w))) is
found_parts p act (more_parts (tree.Call args) more) x y name s never is =
    ap (λ b. followed (cond b (step >> arguments p act args >>= λ xs. method act x name xs)
    (member x name >>= λ f. step >> arguments p act args >>= λ xs. applied p act f xs) s) (λ w. after p act more (Whole w))) never
    ∙ ap (λ r. followed (followed r (λ f. step >> arguments p act args >>= λ xs. applied p act f xs)) (λ w. after p act more (Whole w))) is

-- what a member is, in any state
member_is
    : (x y : Plain) (name : List ℕ) (s : State) → member_of s.calls x name ≡ Ok y → member x name s ≡ Ok (y, s)
unfolding member
member_is x y name s is = ap (λ o. answered o s) is

-- the call of an ambient call gives what that gives
applies
    : (p : ProgramData) (act : Acts) (f x : Plain) (name : AmbientCall) (xs : List Plain) (s : State)
    → callee_of f ≡ Some (callees.Ambient name) → ((spec : Atoms) (c : Calls) → call_of name spec xs c ≡ Ok (x, c))
    → applied p act f xs s ≡ Ok (x, s)
unfolding applied ambient
applies p act (plain.Function callee depth held) x name xs s is gives_x =
    let same : callee ≡ callees.Ambient name = cc in
    ap (λ g. call_of_function p act g (item_list held) xs s) same ∙ ap (λ r. with_calls s r) (gives_x (path_at p s.frame.file) s.calls)
applies p act _ x name xs s is gives_x = let never : None ≡ Some (callees.Ambient name) = is in cc

module _ (known : Knowledge) where
  -- ## Lists

  pub list_gives
      : (es : ElementRow) (xs : List Plain) (x : Plain) (left after later : ℕ) → 1 ≤ left → after ≡ left - 1
      → GoesOnAtOnce known es [] after xs later → list_answer xs ≡ Ok x
      → IsAtOnce known (tree.Elements es) left x later
  unfolding value
  list_gives es xs x left after later le is all made p act s knows =
      let P : ℕ → Type 0 = λ k. GoesOnAtOnce known es [] k xs later in
      let here = subst P is all in
      spent 1 (elements p act es [] >>= λ items. answered (list_answer items)) s left le
      ∙ ap (λ r. followed r (λ items. answered (list_answer items))) (here p act s knows)
      ∙ ap (λ o. answered o (record s { left = later })) made

  pub element_more
      : (d : ElementData) (e : ExprData) (more : ElementRow) (done : List Plain) (x : Plain) (xs : List Plain) (left mid later : ℕ)
      → d ≡ tree.Element false e → IsAtOnce known e left x mid → GoesOnAtOnce known more (done ++ x ∷ []) mid xs later
      → GoesOnAtOnce known (more_elements d more) done left xs later
  unfolding elements
  element_more d e more done x xs left mid later d_is now rest p act s knows =
      ap (λ z. elements p act (more_elements z more) done (record s { left = left })) d_is
      ∙ ap (λ r. followed r (λ y. elements p act more (done ++ y ∷ []))) (now p act s knows)
      ∙ rest p act s knows

  pub no_more_elements : (done : List Plain) (left : ℕ) → GoesOnAtOnce known no_elements done left done left
  unfolding elements
  no_more_elements done left p act s knows = refl

  pub last_element
      : (os : List BoundElement) (done : List Plain) (left : ℕ) → length os ≡ 0
      → GoesOnAtOnce known (to_elements (map element_data os)) done left done left
  last_element [] done left none = no_more_elements done left
  last_element (o ∷ os) done left none = absurd (omega (arith, none))

  pub next_element
      : (os others : List BoundElement) (o : BoundElement) (e : ExprData) (done more : List Plain) (x : Plain) (xs : List Plain)
      (left mid later : ℕ) → os ≡ o ∷ others → element_data o ≡ tree.Element false e → IsAtOnce known e left x mid
      → more ≡ done ++ x ∷ [] → GoesOnAtOnce known (to_elements (map element_data others)) more mid xs later
      → GoesOnAtOnce known (to_elements (map element_data os)) done left xs later
  next_element os others o e done more x xs left mid later is parts now more_is rest =
      let P : List BoundElement → Type 0 = λ l. GoesOnAtOnce known (to_elements (map element_data l)) done left xs later in
      let Q : List Plain → Type 0 = λ l. GoesOnAtOnce known (to_elements (map element_data others)) l mid xs later in
      subst P (sym is)
      (element_more (element_data o) e (to_elements (map element_data others)) done x xs left mid later parts now (subst Q more_is rest))

  -- nothing is done before the first element
  pub first_element
      : (es : ElementRow) (done : List Plain) (xs : List Plain) (left later : ℕ) → done ≡ []
      → GoesOnAtOnce known es done left xs later → GoesOnAtOnce known es [] left xs later
  first_element es done xs left later none all =
      let P : List Plain → Type 0 = λ l. GoesOnAtOnce known es l left xs later in subst P none all

  -- ## Objects

  pub object_gives
      : (ps : PropRow) (fs : List PlainField) (x : Plain) (left after later : ℕ) → 1 ≤ left → after ≡ left - 1
      → HasFieldsAtOnce known ps after fs later → object_answer fs ≡ Ok x
      → IsAtOnce known (tree.Object ps) left x later
  unfolding value
  object_gives ps fs x left after later le is all made p act s knows =
      let P : ℕ → Type 0 = λ k. HasFieldsAtOnce known ps k fs later in
      let here = subst P is all in
      spent 1 (fields p act ps >>= λ found. answered (object_answer found)) s left le
      ∙ ap (λ r. followed r (λ found. answered (object_answer found))) (here p act s knows)
      ∙ ap (λ o. answered o (record s { left = later })) made

  named_more
      : (name : List ℕ) (e : ExprData) (more : PropRow) (x : Plain) (fs : List PlainField) (left mid later : ℕ)
      → IsAtOnce known e left x mid → HasFieldsAtOnce known more mid fs later
      → HasFieldsAtOnce known (more_props (tree.Named name e) more) left ((name, x) ∷ fs) later
  unfolding fields
  named_more name e more x fs left mid later now rest p act s knows =
      ap (λ r. followed r (λ y. fields p act more >>= λ found. gives ((name, y) ∷ found))) (now p act s knows)
      ∙ ap (λ r. followed r (λ found. gives ((name, x) ∷ found))) (rest p act s knows)

  quoted_more
      : (name : List ℕ) (e : ExprData) (more : PropRow) (x : Plain) (fs : List PlainField) (left mid later : ℕ)
      → IsAtOnce known e left x mid → HasFieldsAtOnce known more mid fs later
      → HasFieldsAtOnce known (more_props (tree.Quoted name e) more) left ((name, x) ∷ fs) later
  unfolding fields
  quoted_more name e more x fs left mid later now rest p act s knows =
      ap (λ r. followed r (λ y. fields p act more >>= λ found. gives ((name, y) ∷ found))) (now p act s knows)
      ∙ ap (λ r. followed r (λ found. gives ((name, x) ∷ found))) (rest p act s knows)

  property_more
      : (d : PropData) (name : List ℕ) (e : ExprData) (more : PropRow) (x : Plain) (fs : List PlainField) (left mid later : ℕ)
      → name_and_value d ≡ Some (name, e) → IsAtOnce known e left x mid → HasFieldsAtOnce known more mid fs later
      → HasFieldsAtOnce known (more_props d more) left ((name, x) ∷ fs) later
  property_more d name e more x fs left mid later has now rest =
      let P : PropData → Type 0 = λ a. HasFieldsAtOnce known (more_props a more) left ((name, x) ∷ fs) later in
      let parts = named_or_quoted d name e has in
      elim parts [
        | inl is ↦ subst P (sym is) (named_more name e more x fs left mid later now rest)
        | inr is ↦ subst P (sym is) (quoted_more name e more x fs left mid later now rest)
      ]

  pub no_more_fields : (left : ℕ) → HasFieldsAtOnce known no_props left [] left
  unfolding fields
  no_more_fields left p act s knows = refl

  pub last_property
      : (os : List BoundProp) (left : ℕ) → length os ≡ 0 → HasFieldsAtOnce known (to_props (map prop_data os)) left [] left
  last_property [] left none = no_more_fields left
  last_property (o ∷ os) left none = absurd (omega (arith, none))

  -- what all properties give, by what those that are left give
  pub next_property
      : (all : PropRow) (start : ℕ) (os others : List BoundProp) (o : BoundProp) (name : List ℕ) (e : ExprData)
      (done more : List PlainField) (x : Plain) (left mid : ℕ)
      → ((fs : List PlainField) (later : ℕ) → HasFieldsAtOnce known (to_props (map prop_data os)) left fs later
      → HasFieldsAtOnce known all start (done ++ fs) later)
      → os ≡ o ∷ others → name_and_value (prop_data o) ≡ Some (name, e) → IsAtOnce known e left x mid
      → more ≡ done ++ (name, x) ∷ []
      → (fs : List PlainField) (later : ℕ) → HasFieldsAtOnce known (to_props (map prop_data others)) mid fs later
      → HasFieldsAtOnce known all start (more ++ fs) later
  next_property all start os others o name e done more x left mid before is has now more_is fs later rest =
      let P : List BoundProp → Type 0 = λ l. HasFieldsAtOnce known (to_props (map prop_data l)) left ((name, x) ∷ fs) later in
      let Q : List PlainField → Type 0 = λ l. HasFieldsAtOnce known all start l later in
      subst Q (sym (append_assoc done ((name, x) ∷ []) fs) ∙ ap (λ l. l ++ fs) (sym more_is))
      (before ((name, x) ∷ fs) later (subst P (sym is)
      (property_more (prop_data o) name e (to_props (map prop_data others)) x fs left mid later has now rest)))

  pub all_properties
      : (all : PropRow) (start : ℕ) (os : List BoundProp) (done : List PlainField) (left : ℕ)
      → ((fs : List PlainField) (later : ℕ) → HasFieldsAtOnce known (to_props (map prop_data os)) left fs later
      → HasFieldsAtOnce known all start (done ++ fs) later)
      → length os ≡ 0 → HasFieldsAtOnce known all start done left
  all_properties all start os done left before none =
      let Q : List PlainField → Type 0 = λ l. HasFieldsAtOnce known all start l left in
      subst Q (append-nil done) (before [] left (last_property os left none))

  pub first_property
      : (all : PropRow) (start : ℕ) (done fs : List PlainField) (later : ℕ) → done ≡ []
      → HasFieldsAtOnce known all start fs later → HasFieldsAtOnce known all start (done ++ fs) later
  first_property all start done fs later none found =
      let Q : List PlainField → Type 0 = λ l. HasFieldsAtOnce known all start (l ++ fs) later in subst Q (sym none) found

  -- ## Members and indices

  pub postfix_gives
      : (e : ExprData) (parts : PartRow) (x y : Plain) (left mid later : ℕ)
      → IsAtOnce known e left x mid → FollowsAtOnce known parts x mid y later
      → IsAtOnce known (tree.Postfix e parts) left y later
  unfolding value
  postfix_gives e parts x y left mid later head rest p act s knows =
      ap (λ r. followed r (λ z. after p act parts (Whole z))) (head p act s knows) ∙ rest p act s knows

  pub no_more_parts : (x : Plain) (left : ℕ) → FollowsAtOnce known no_parts x left x left
  unfolding after
  no_more_parts x left p act s knows = refl

  pub last_part
      : (os : List BoundPart) (x : Plain) (left : ℕ) → length os ≡ 0
      → FollowsAtOnce known (to_parts (map part_data os)) x left x left
  last_part [] x left none = no_more_parts x left
  last_part (o ∷ os) x left none = absurd (omega (arith, none))

  pub next_part
      : (os others : List BoundPart) (o : BoundPart) (x y : Plain) (left later : ℕ) → os ≡ o ∷ others
      → FollowsAtOnce known (more_parts (part_data o) (to_parts (map part_data others))) x left y later
      → FollowsAtOnce known (to_parts (map part_data os)) x left y later
  next_part os others o x y left later is now =
      let P : List BoundPart → Type 0 = λ l. FollowsAtOnce known (to_parts (map part_data l)) x left y later in
      subst P (sym is) now

  pub member_gives
      : (name : List ℕ) (x z : Plain) (left mid : ℕ) → 1 ≤ left → mid ≡ left - 1
      → ((s : Calls) → is_function_named s x name ≡ false) → ((s : Calls) → member_of s x name ≡ Ok z)
      → (more : PartRow) (y : Plain) (later : ℕ) → FollowsAtOnce known more z mid y later
      → FollowsAtOnce known (more_parts (tree.Member name) more) x left y later
  unfolding after
  member_gives name x z left mid le is never found more y later rest p act s knows =
      let P : ℕ → Type 0 = λ k. FollowsAtOnce known more z k y later in
      let here = subst P is rest in
      spent 1 (after p act more (Named x name)) s left le
      ∙ found_parts p act more x z name (record s { left = left - 1 }) (never s.calls)
      (member_is x z name (record s { left = left - 1 }) (found s.calls))
      ∙ here p act s knows

  pub index_gives
      : (e : ExprData) (x i z : Plain) (left after_step mid : ℕ) → 1 ≤ left → after_step ≡ left - 1
      → IsAtOnce known e after_step i mid → indexed x i ≡ Ok z
      → (more : PartRow) (y : Plain) (later : ℕ) → FollowsAtOnce known more z mid y later
      → FollowsAtOnce known (more_parts (tree.Index e) more) x left y later
  unfolding after
  index_gives e x i z left after_step mid le is now found more y later rest p act s knows =
      let P : ℕ → Type 0 = λ k. IsAtOnce known e k i mid in
      let here = subst P is now in
      spent 1 (value p act e >>= λ j. answered (indexed x j) >>= λ w. after p act more (Whole w)) s left le
      ∙ ap (λ r. followed r (λ j. answered (indexed x j) >>= λ w. after p act more (Whole w))) (here p act s knows)
      ∙ ap (λ o. followed (answered o (record s { left = mid })) (λ w. after p act more (Whole w))) found
      ∙ rest p act s knows

  -- ## Path, file and directory literals

  -- a text in the directory of the file of the running body
  in_directory
      : (letter : PathKind) (text : List ℕ) (x : Plain) (p : ProgramData) (s : State) (n : ℕ) → Knows known p s
      → path_literal letter (directory_in known) None text ≡ Ok x
      → path_value p letter None text (record s { left = n }) ≡ Ok (x, record s { left = n })
  in_directory letter text x p s n knows is =
      let later : State = record s { left = n } in
      ap (λ (fs : List FileData). answered (path_literal letter (unwrap_or (parent (path_in (slice_get fs s.frame.file))) []) None text) later)
      knows.files_are
      ∙ ap (λ (k : ℕ). answered (path_literal letter (unwrap_or (parent (path_in (slice_get known.files k))) []) None text) later)
      knows.file_is
      ∙ ap (λ o. answered o later) is

  rooted_gives
      : (letter : PathKind) (text : List ℕ) (x : Plain) (left : ℕ) → is_rooted letter ≡ true
      → path_literal letter (directory_in known) None text ≡ Ok x → 1 ≤ left
      → IsAtOnce known (tree.Path letter text no_holes) left x (left - 1)
  unfolding value path_holes
  rooted_gives letters.Path text x left rooted is le p act s knows =
      spent 1 (path_value p letters.Path None text) s left le ∙ in_directory letters.Path text x p s (left - 1) knows is
  rooted_gives letters.File text x left rooted is le p act s knows =
      spent 1 (path_value p letters.File None text) s left le ∙ in_directory letters.File text x p s (left - 1) knows is
  rooted_gives letters.Directory text x left rooted is le p act s knows =
      spent 1 (path_value p letters.Directory None text) s left le
      ∙ in_directory letters.Directory text x p s (left - 1) knows is
  rooted_gives letters.Relative text x left rooted is le p act s knows = absurd (let never : false ≡ true = rooted in cc)
  rooted_gives letters.Atom text x left rooted is le p act s knows = absurd (let never : false ≡ true = rooted in cc)

  pub path_gives
      : (letter : PathKind) (text : List ℕ) (holes : List BoundHole) (x : Plain) (left later : ℕ) → length holes ≡ 0
      → is_rooted letter ≡ true → path_literal letter (directory_in known) None text ≡ Ok x → 1 ≤ left → later ≡ left - 1
      → IsAtOnce known (tree.Path letter text (to_holes (map hole_data holes))) left x later
  path_gives letter text [] x left later none rooted is le later_is =
      at_later known (tree.Path letter text no_holes) left x later (left - 1) later_is
      (rooted_gives letter text x left rooted is le)
  path_gives letter text (h ∷ hs) x left later none rooted is le later_is = absurd (omega (arith, none))

  -- ## Calls

  argument_more
      : (e : ExprData) (more : ExprRow) (x : Plain) (xs : List Plain) (left mid later : ℕ)
      → IsAtOnce known e left x mid → HasArgumentsAtOnce known more mid xs later
      → HasArgumentsAtOnce known (more_exprs e more) left (x ∷ xs) later
  unfolding arguments
  argument_more e more x xs left mid later now rest p act s knows =
      ap (λ r. followed r (λ y. arguments p act more >>= λ ys. gives (y ∷ ys))) (now p act s knows)
      ∙ ap (λ r. followed r (λ ys. gives (x ∷ ys))) (rest p act s knows)

  no_more_arguments : (left : ℕ) → HasArgumentsAtOnce known no_exprs left [] left
  unfolding arguments
  no_more_arguments left p act s knows = refl

  last_argument
      : (os : List BoundExpr) (left : ℕ) → length os ≡ 0 → HasArgumentsAtOnce known (to_exprs (map expr_data os)) left [] left
  last_argument [] left none = no_more_arguments left
  last_argument (o ∷ os) left none = absurd (omega (arith, none))

  -- what all arguments give, by what those that are left give
  pub next_argument
      : (all : ExprRow) (start : ℕ) (os others : List BoundExpr) (o : BoundExpr) (done more : List Plain) (x : Plain)
      (left mid : ℕ)
      → ((xs : List Plain) (later : ℕ) → HasArgumentsAtOnce known (to_exprs (map expr_data os)) left xs later
      → HasArgumentsAtOnce known all start (done ++ xs) later)
      → os ≡ o ∷ others → IsAtOnce known (expr_data o) left x mid → more ≡ done ++ x ∷ []
      → (xs : List Plain) (later : ℕ) → HasArgumentsAtOnce known (to_exprs (map expr_data others)) mid xs later
      → HasArgumentsAtOnce known all start (more ++ xs) later
  next_argument all start os others o done more x left mid before is now more_is xs later rest =
      let P : List BoundExpr → Type 0 = λ l. HasArgumentsAtOnce known (to_exprs (map expr_data l)) left (x ∷ xs) later in
      let Q : List Plain → Type 0 = λ l. HasArgumentsAtOnce known all start l later in
      subst Q (sym (append_assoc done (x ∷ []) xs) ∙ ap (λ l. l ++ xs) (sym more_is))
      (before (x ∷ xs) later (subst P (sym is)
      (argument_more (expr_data o) (to_exprs (map expr_data others)) x xs left mid later now rest)))

  pub all_arguments
      : (all : ExprRow) (start : ℕ) (os : List BoundExpr) (done : List Plain) (left : ℕ)
      → ((xs : List Plain) (later : ℕ) → HasArgumentsAtOnce known (to_exprs (map expr_data os)) left xs later
      → HasArgumentsAtOnce known all start (done ++ xs) later)
      → length os ≡ 0 → HasArgumentsAtOnce known all start done left
  all_arguments all start os done left before none =
      let Q : List Plain → Type 0 = λ l. HasArgumentsAtOnce known all start l left in
      subst Q (append-nil done) (before [] left (last_argument os left none))

  -- nothing is done before the first argument
  pub first_argument
      : (all : ExprRow) (start : ℕ) (done xs : List Plain) (later : ℕ) → done ≡ []
      → HasArgumentsAtOnce known all start xs later → HasArgumentsAtOnce known all start (done ++ xs) later
  first_argument all start done xs later none given =
      let Q : List Plain → Type 0 = λ l. HasArgumentsAtOnce known all start (l ++ xs) later in subst Q (sym none) given

  -- a call takes its step before its arguments
  pub call_gives
      : (args : ExprRow) (f x : Plain) (name : AmbientCall) (xs : List Plain) (left after_step mid : ℕ) → 1 ≤ left
      → after_step ≡ left - 1 → callee_of f ≡ Some (callees.Ambient name) → HasArgumentsAtOnce known args after_step xs mid
      → ((spec : Atoms) (c : Calls) → call_of name spec xs c ≡ Ok (x, c))
      → (more : PartRow) (y : Plain) (later : ℕ) → FollowsAtOnce known more x mid y later
      → FollowsAtOnce known (more_parts (tree.Call args) more) f left y later
  unfolding after subject_call
  call_gives args f x name xs left after_step mid le is callee all gives_x more y later rest p act s knows =
      let P : ℕ → Type 0 = λ k. HasArgumentsAtOnce known args k xs mid in
      let here = subst P is all in
      ap (λ r. followed r (λ w. after p act more (Whole w)))
      (spent 1 (arguments p act args >>= λ zs. applied p act f zs) s left le
      ∙ ap (λ r. followed r (λ zs. applied p act f zs)) (here p act s knows)
      ∙ applies p act f x name xs (record s { left = mid }) callee gives_x)
      ∙ rest p act s knows
