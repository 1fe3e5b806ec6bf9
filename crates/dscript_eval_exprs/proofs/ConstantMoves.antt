-- What comes of constants comes of the works in their places.
use Rattle.std.proofs.Common.{◌≡◌, ℕ, ◌+◌, ◌-◌, ◌<◌, ◌≤◌, List, [], ◌∷◌, drop, Option, Some, None, Ok, refl, ap, sym, ◌∙◌, inl, inr, arith}
use Rattle.std.specs.Prelude.{is_some, slice_get, true, false}
use Rattle.std.proofs.lemmas.Option.{slice_get_cases}
use Rattle.std.specs.Borrow.{Bor}
use Rattle.dscript_program.specs.BoundTree.{ExprData}
use Rattle.dscript_program.specs.ProgramData as declared
use Rattle.dscript_program.specs.ProgramData.{DeclData, FileData, KindData, ProgramData}
use Rattle.dscript_program.specs.Views.{expr_data}
use Rattle.dscript_program.specs.declared.bound.BoundExpr.{BoundExpr}
use Rattle.dscript_value.specs.Plain as plain
use Rattle.dscript_value.specs.Plain.{Plain}
use Rattle.dscript_eval_meaning.specs.declared.fault.EvalKind.TheVariants as kinds
use Rattle.dscript_eval_meaning.specs.Acts.{Acts, Demand}
use Rattle.dscript_eval_meaning.specs.Constants.{by_status, constant, mark, status_in, with_status}
use Rattle.dscript_eval_meaning.specs.Evaluating.{Gives, fails, followed, gives, ◌>>=◌, ◌>>◌}
use Rattle.dscript_eval_meaning.specs.Expressions.{value}
use Rattle.dscript_eval_meaning.specs.Frames.{constant_frame, within}
use Rattle.dscript_eval_meaning.specs.Lookups.{declared_at}
use Rattle.dscript_eval_meaning.specs.Meaning.{acts, demand, demand_decls, demand_files, demanded}
use Rattle.dscript_eval_meaning.specs.States as meaning
use Rattle.dscript_eval_meaning.specs.States.{State, Status}
use Rattle.dscript_eval_meaning.specs.Statements.{Way, On}
use Rattle.dscript_eval_frames.specs.Consts.{const_of}
use Rattle.dscript_eval_frames.specs.Forms.{acts_at}
use Rattle.dscript_eval_frames.specs.Views.{View}
use Rattle.dscript_eval_frames.specs.Frames.{frame_of}
use Rattle.dscript_eval_frames.specs.Works.{comes, comes_by, comes_with, decls_of, goes_by, run}
use Rattle.dscript_eval_frames.specs.declared.frame.Frame.{Frame}
use Rattle.dscript_eval_frames.specs.declared.work.ExprWork.TheVariants as expr
use Rattle.dscript_eval_frames.specs.declared.work.StmtWork.TheVariants as stmt
use Rattle.dscript_eval_frames.specs.declared.work.Work.{Work}
use Rattle.dscript_eval_frames.specs.declared.work.Work.TheVariants as works
use Rattle.dscript_eval_frames.proofs.Opening.{acts_open}
use Rattle.dscript_eval_frames.proofs.Followed.{followed-followed, followed-same}
use Rattle.dscript_eval_frames.proofs.ItemLists.{none_left, none_next, none_of_none, same_first}

pub constant_at
    : (v : View) (file decl : ℕ) (status : Status) → status_in v.state.constants file decl ≡ status
    → comes_by (constant (acts_at v) file decl) v ≡ comes_by (by_status (acts_at v) file decl status) v
unfolding constant
constant_at v file decl status is = ap (λ st. comes_by (by_status (acts_at v) file decl st) v) is

-- a constant that is being evaluated, in its own frame
const_body
    : (p : ProgramData) (act : Acts) (file decl : ℕ) (e : ExprData) (ws : List Work) (frame : Frame)
    (openable outside : ℕ) (s : State)
    → openable + 1 ≡ outside → frame_of frame ≡ s.frame
    → followed ((within (constant_frame file) (value p act e) >>= λ x. mark file decl (meaning.Done x) >> gives x) s)
    (λ x later. run p ws On outside x later)
    ≡ followed (value p act e (record s { frame = constant_frame file }))
    (λ x later. run p (works.Keep file decl frame ∷ ws) On openable x later)
const_body p act file decl e ws frame openable outside s openable_is frame_is =
    let body = value p act e (record s { frame = constant_frame file }) in
    followed-followed (followed body (λ x later. Ok (x, record later { frame = s.frame }))) _ _
    ∙ followed-followed body _ _
    ∙ followed-same body _ _
    (λ x later. ap (λ n. run p ws On n x (record later {
      frame = s.frame;
      constants = with_status later.constants file decl (meaning.Done x);
    })) (sym openable_is)
    ∙ ap (λ f. run p ws On (openable + 1) x (record later {
      frame = f;
      constants = with_status later.constants file decl (meaning.Done x);
    })) (sym frame_is))

demanded-const
    : (p : ProgramData) (act : Acts) (file decl : ℕ) (k : Option KindData) (e : ExprData) (s : State) → const_of k ≡ Some e
    → demanded p act file decl k s
    ≡ (within (constant_frame file) (value p act e) >>= λ x. mark file decl (meaning.Done x) >> gives x)
    (record s { constants = with_status s.constants file decl meaning.Running })
demanded-const p act file decl None e s is = let never : None ≡ Some e = is in cc
demanded-const p act file decl (Some (declared.Const t d)) e s is =
    let some : Some d ≡ Some e = is in
    let same : d ≡ e = cc in
    ap (λ x. (within (constant_frame file) (value p act x) >>= λ y. mark file decl (meaning.Done y) >> gives y)
    (record s { constants = with_status s.constants file decl meaning.Running })) same
demanded-const p act file decl (Some (declared.Function ts t n)) e s is = let never : None ≡ Some e = is in cc
demanded-const p act file decl (Some (declared.Interface ts es ms)) e s is = let never : None ≡ Some e = is in cc
demanded-const p act file decl (Some (declared.TypeAlias ts t)) e s is = let never : None ≡ Some e = is in cc

demanded-other
    : (p : ProgramData) (act : Acts) (file decl : ℕ) (k : Option KindData) → const_of k ≡ None
    → demanded p act file decl k ≡ fails kinds.Kind
demanded-other p act file decl None is = refl
demanded-other p act file decl (Some (declared.Const t d)) is = let never : Some d ≡ None = is in cc
demanded-other p act file decl (Some (declared.Function ts t n)) is = refl
demanded-other p act file decl (Some (declared.Interface ts es ms)) is = refl
demanded-other p act file decl (Some (declared.TypeAlias ts t)) is = refl

-- a constant is demanded: its expression is next, in its own frame, and one call fewer may be opened
demand_move
    : (v : View) (file decl : ℕ) (e : Bor BoundExpr) (frame : Frame) → 0 < v.openable
    → const_of (declared_at v.program file decl) ≡ Some (expr_data e.now) → frame_of frame ≡ v.state.frame
    → comes_by (acts_at v (Demand file decl)) v
    ≡ comes (record v {
      work = works.Expr (expr.Value e) ∷ works.Keep file decl frame ∷ v.work;
      openable = v.openable - 1;
      state = record v.state {
        frame = constant_frame file;
        constants = with_status v.state.constants file decl meaning.Running;
      };
    })
demand_move v file decl e frame some is frame_is =
    let K = λ (x : Plain) (later : State). run v.program v.work On v.openable x later in
    ap (λ r. followed r K) (acts_open v.program v.openable (Demand file decl) v.state some)
    ∙ ap (λ r. followed r K)
    (demanded-const v.program (acts v.program (v.openable - 1)) file decl (declared_at v.program file decl) (expr_data e.now) v.state is)
    ∙ const_body v.program (acts v.program (v.openable - 1)) file decl (expr_data e.now) v.work frame (v.openable - 1) v.openable
    (record v.state { constants = with_status v.state.constants file decl meaning.Running }) (omega (arith, some)) frame_is

-- what comes once a constant was opened
pub constant_opened
    : (v u w : View) (file decl : ℕ) (e : Bor BoundExpr) (before : Frame) (inside : meaning.Frame) (status : Status)
    → 0 < v.openable → const_of (declared_at v.program file decl) ≡ Some (expr_data e.now) → frame_of before ≡ v.state.frame
    → u ≡ record v { openable = v.openable - 1; state = record v.state { frame = inside } }
    → inside ≡ constant_frame file
    → w ≡ record u { state = record u.state { constants = with_status u.state.constants file decl status } }
    → status ≡ meaning.Running
    → comes_by (acts_at v (Demand file decl)) v
    ≡ comes (record w { work = works.Expr (expr.Value e) ∷ works.Keep file decl before ∷ w.work })
constant_opened v u w file decl e before inside status some is before_is entered inside_is marked status_is =
    let pushed = λ (z : View). comes (record z { work = works.Expr (expr.Value e) ∷ works.Keep file decl before ∷ z.work }) in
    let marked_as = λ (z : View) (st : Status).
    record z { state = record z.state { constants = with_status z.state.constants file decl st } } in
    let entered_in = λ (f : meaning.Frame). record v { openable = v.openable - 1; state = record v.state { frame = f } } in
    demand_move v file decl e before some is before_is
    ∙ ap (λ f. pushed (marked_as (entered_in f) meaning.Running)) (sym inside_is)
    ∙ ap (λ st. pushed (marked_as (entered_in inside) st)) (sym status_is)
    ∙ ap (λ (z : View). pushed (marked_as z status)) (sym entered)
    ∙ ap pushed (sym marked)

-- there is no such constant
pub no_constant
    : (v : View) (file decl : ℕ) → 0 < v.openable → const_of (declared_at v.program file decl) ≡ None
    → comes_by (acts_at v (Demand file decl)) v ≡ comes_by (fails kinds.Kind) v
no_constant v file decl some none =
    let K = λ (x : Plain) (later : State). run v.program v.work On v.openable x later in
    ap (λ r. followed r K) (acts_open v.program v.openable (Demand file decl) v.state some)
    ∙ ap (λ (m : Gives Plain). followed (m v.state) K)
    (demanded-other v.program (acts v.program (v.openable - 1)) file decl (declared_at v.program file decl) none)

-- a constant that is evaluated holds its value
pub kept_constant
    : (v u w z : View) (file decl : ℕ) (frame : Frame) (status : Status) (x : Plain)
    → u ≡ record v { openable = v.openable + 1 }
    → w ≡ record u { state = record u.state { frame = frame_of frame } }
    → z ≡ record w { state = record w.state { constants = with_status w.state.constants file decl status } }
    → status ≡ meaning.Done x → x ≡ w.given
    → comes_with (works.Keep file decl frame) v ≡ comes z
kept_constant v u w z file decl frame status x ended restored marked status_is is =
    let marked_as = λ (y : View) (st : Status).
    record y { state = record y.state { constants = with_status y.state.constants file decl st } } in
    let restored_in = λ (y : View). record y { state = record y.state { frame = frame_of frame } } in
    ap (λ (y : View). comes (marked_as (restored_in y) (meaning.Done y.given))) (sym ended)
    ∙ ap (λ (y : View). comes (marked_as y (meaning.Done y.given))) (sym restored)
    ∙ ap (λ g. comes (marked_as w (meaning.Done g))) (sym is)
    ∙ ap (λ st. comes (marked_as w st)) (sym status_is)
    ∙ ap comes (sym marked)

-- ## All constants

-- what a constant comes to, and then the others
first_const
    : (act : Acts) (file decl : ℕ) (d : DeclData) (k : KindData) (ds : List DeclData) (s : State)
    → d.kind ≡ k → is_some (const_of (Some k)) ≡ true
    → demand_decls act file decl (d ∷ ds) s ≡ (constant act file decl >>= λ x. demand_decls act file (decl + 1) ds) s
first_const act file decl d (declared.Const t e) ds s is holds =
    ap (λ k. (demand act file decl k >> demand_decls act file (decl + 1) ds) s) is
    ∙ followed-followed (constant act file decl s) _ _
first_const act file decl d (declared.Function ts t n) ds s is holds = let never : false ≡ true = holds in cc
first_const act file decl d (declared.Interface ts es ms) ds s is holds = let never : false ≡ true = holds in cc
first_const act file decl d (declared.TypeAlias ts t) ds s is holds = let never : false ≡ true = holds in cc

first_other
    : (act : Acts) (file decl : ℕ) (d : DeclData) (k : KindData) (ds : List DeclData) (s : State)
    → d.kind ≡ k → is_some (const_of (Some k)) ≡ false
    → demand_decls act file decl (d ∷ ds) s ≡ demand_decls act file (decl + 1) ds s
first_other act file decl d (declared.Const t e) ds s is none = let never : true ≡ false = none in cc
first_other act file decl d (declared.Function ts t n) ds s is none =
    ap (λ k. (demand act file decl k >> demand_decls act file (decl + 1) ds) s) is
first_other act file decl d (declared.Interface ts es ms) ds s is none =
    ap (λ k. (demand act file decl k >> demand_decls act file (decl + 1) ds) s) is
first_other act file decl d (declared.TypeAlias ts t) ds s is none =
    ap (λ k. (demand act file decl k >> demand_decls act file (decl + 1) ds) s) is

-- the constants of a file from a declaration on, and those of the files from another on
abbrev from_decl : Acts → ℕ → ℕ → List DeclData → List FileData → Gives Way
from_decl act file decl ds fs = demand_decls act file decl ds >> demand_files act (file + 1) fs >> gives On

-- the files from one on begin with its declarations
files_from
    : (act : Acts) (fs : List FileData) (n : ℕ) (s : State)
    → followed (demand_files act n (drop n fs) s) (λ x. gives On)
    ≡ from_decl act n 0 (drop 0 (decls_of (slice_get fs n))) (drop (n + 1) fs) s
files_from act fs n s = elim (slice_get_cases fs n).1 [
  | inl p ↦
      ap (λ xs. followed (demand_files act n xs s) (λ x. gives On)) (same_first fs n p.0 p.2)
      ∙ followed-followed (demand_decls act n 0 p.0.decls s) _ _
      ∙ ap (λ o. from_decl act n 0 (drop 0 (decls_of o)) (drop (n + 1) fs) s) (sym p.2)
  | inr p ↦
      ap (λ xs. followed (demand_files act n xs s) (λ x. gives On)) (none_left fs n p.1)
      ∙ ap (λ xs. from_decl act n 0 [] xs s) (sym (none_next fs n (none_left fs n p.1)))
      ∙ ap (λ o. from_decl act n 0 (drop 0 (decls_of o)) (drop (n + 1) fs) s) (sym p.1)
]

-- no file has this number
pub demands_end
    : (v : View) (file decl : ℕ) → slice_get v.program.files file ≡ None
    → comes_with (works.Stmt (stmt.Demands file decl)) v ≡ comes_with (works.Stmt stmt.Forget) v
demands_end v file decl none =
    ap (λ o. goes_by (from_decl (acts_at v) file decl (drop decl (decls_of o)) (drop (file + 1) v.program.files)) v) none
    ∙ ap (λ ds. goes_by (from_decl (acts_at v) file decl ds (drop (file + 1) v.program.files)) v) (none_of_none decl)
    ∙ ap (λ fs. goes_by (from_decl (acts_at v) file decl [] fs) v) (none_next v.program.files file (none_left v.program.files file none))

-- the file has no such declaration, and the next file follows
pub demands_file
    : (v : View) (file decl : ℕ) (ds : List DeclData) → decls_of (slice_get v.program.files file) ≡ ds → slice_get ds decl ≡ None
    → comes_with (works.Stmt (stmt.Demands file decl)) v ≡ comes_with (works.Stmt (stmt.Demands (file + 1) 0)) v
demands_file v file decl ds found none =
    ap (λ xs. goes_by (from_decl (acts_at v) file decl (drop decl xs) (drop (file + 1) v.program.files)) v) found
    ∙ ap (λ xs. goes_by (from_decl (acts_at v) file decl xs (drop (file + 1) v.program.files)) v) (none_left ds decl none)
    ∙ ap (λ r. followed r (λ way later. run v.program v.work way v.openable plain.Undefined later))
    (files_from (acts_at v) v.program.files (file + 1) v.state)

from_one
    : (v : View) (file decl : ℕ) (d : DeclData) → slice_get (decls_of (slice_get v.program.files file)) decl ≡ Some d
    → comes_with (works.Stmt (stmt.Demands file decl)) v
    ≡ goes_by (from_decl (acts_at v) file decl (d ∷ drop (decl + 1) (decls_of (slice_get v.program.files file))) (drop (file + 1) v.program.files)) v
from_one v file decl d there =
    ap (λ ds. goes_by (from_decl (acts_at v) file decl ds (drop (file + 1) v.program.files)) v)
    (same_first (decls_of (slice_get v.program.files file)) decl d there)

-- a constant, and then what follows it
demands_const
    : (v : View) (file decl : ℕ) (d : DeclData) → slice_get (decls_of (slice_get v.program.files file)) decl ≡ Some d
    → is_some (const_of (Some d.kind)) ≡ true
    → comes_with (works.Stmt (stmt.Demands file decl)) v
    ≡ comes_by (constant (acts_at v) file decl) (record v { work = works.Stmt (stmt.Demands file (decl + 1)) ∷ v.work })
demands_const v file decl d there holds =
    let K = λ (way : Way) (later : State). run v.program v.work way v.openable plain.Undefined later in
    from_one v file decl d there
    ∙ ap (λ r. followed (followed r (λ x. demand_files (acts_at v) (file + 1) (drop (file + 1) v.program.files) >> gives On)) K)
    (first_const (acts_at v) file decl d d.kind (drop (decl + 1) (decls_of (slice_get v.program.files file))) v.state refl holds)
    ∙ ap (λ r. followed r K) (followed-followed (constant (acts_at v) file decl v.state) _ _)
    ∙ followed-followed (constant (acts_at v) file decl v.state) _ _

-- what is no constant is passed over
demands_other
    : (v : View) (file decl : ℕ) (d : DeclData) → slice_get (decls_of (slice_get v.program.files file)) decl ≡ Some d
    → is_some (const_of (Some d.kind)) ≡ false
    → comes_with (works.Stmt (stmt.Demands file decl)) v ≡ comes_with (works.Stmt (stmt.Demands file (decl + 1))) v
demands_other v file decl d there none =
    let K = λ (way : Way) (later : State). run v.program v.work way v.openable plain.Undefined later in
    from_one v file decl d there
    ∙ ap (λ r. followed (followed r (λ x. demand_files (acts_at v) (file + 1) (drop (file + 1) v.program.files) >> gives On)) K)
    (first_other (acts_at v) file decl d d.kind (drop (decl + 1) (decls_of (slice_get v.program.files file))) v.state refl none)

pub const_first
    : (v w : View) (file decl : ℕ) (d : DeclData) → slice_get (decls_of (slice_get v.program.files file)) decl ≡ Some d
    → is_some (const_of (Some d.kind)) ≡ true → w ≡ record v { work = works.Stmt (stmt.Demands file (decl + 1)) ∷ v.work }
    → comes_with (works.Stmt (stmt.Demands file decl)) v ≡ comes_by (constant (acts_at w) file decl) w
const_first v w file decl d there holds is =
    demands_const v file decl d there holds ∙ ap (λ (z : View). comes_by (constant (acts_at z) file decl) z) (sym is)

pub other_first
    : (v w : View) (file decl : ℕ) (d : DeclData) → slice_get (decls_of (slice_get v.program.files file)) decl ≡ Some d
    → is_some (const_of (Some d.kind)) ≡ false → w ≡ record v { work = works.Stmt (stmt.Demands file (decl + 1)) ∷ v.work }
    → comes_with (works.Stmt (stmt.Demands file decl)) v ≡ comes w
other_first v w file decl d there none is = demands_other v file decl d there none ∙ ap comes (sym is)
