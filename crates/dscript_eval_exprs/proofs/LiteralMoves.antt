-- What comes of literals comes of the works in their places.
use Rattle.std.proofs.Common.{◌≡◌, ℕ, List, [], ◌∷◌, ◌++◌, append_assoc, length, map, Option, Some, None, Ok, Err, refl, ap, sym, ◌∙◌}
use Rattle.std.specs.Borrow.{Bor}
use Rattle.std.specs.declared.alloc.Global.{Global}
use Rattle.std.specs.declared.vec.Vec.{Vec}
use Rattle.std.proofs.lemmas.List.{append-nil}
use Rattle.bx_tree.specs.Paths.{Atoms}
use Rattle.bx_tree.proofs.Lists.{none_left}
use Rattle.dscript_ast.specs.declared.expr.PathKind.{PathKind}
use Rattle.dscript_program.specs.BoundTree as tree
use Rattle.dscript_program.specs.BoundTree.{ExprData, HoleRow, more_holes, no_holes, to_holes}
use Rattle.dscript_program.specs.ProgramData.{ProgramData}
use Rattle.dscript_program.specs.Views.{expr_data, hole_data}
use Rattle.dscript_program.specs.declared.bound.BoundExpr.{BoundExpr}
use Rattle.dscript_program.specs.declared.bound.BoundHole.{BoundHole}
use Rattle.dscript_value.specs.Plain.{Plain, plain_of}
use Rattle.dscript_sdk_values.specs.Outcomes.{Outcome}
use Rattle.dscript_eval_operators.specs.PathLiterals.{first_hole}
use Rattle.dscript_eval_operators.specs.Texts.{appended_hole, literal_hole}
use Rattle.dscript_eval_meaning.specs.Acts.{Acts}
use Rattle.dscript_eval_meaning.specs.Evaluating.{Gives, answered, followed, gives, ◌>>=◌}
use Rattle.dscript_eval_meaning.specs.Expressions.{hole_texts, path_holes, path_value, value}
use Rattle.dscript_eval_meaning.specs.States.{State}
use Rattle.dscript_eval_meaning.specs.Statements.{On}
use Rattle.dscript_eval_frames.specs.Forms.{acts_at, literal_form, value_at}
use Rattle.dscript_eval_frames.specs.Views.{View}
use Rattle.dscript_eval_frames.specs.Works.{comes, comes_by, comes_with, ended, reader, run}
use Rattle.dscript_eval_frames.specs.declared.work.ExprWork.TheVariants as expr
use Rattle.dscript_eval_frames.specs.declared.work.Literal.{Literal}
use Rattle.dscript_eval_frames.specs.declared.work.Literal.TheVariants as literals
use Rattle.dscript_eval_frames.specs.declared.work.Work.TheVariants as works
use Rattle.dscript_eval_exprs.proofs.Equations.{holes-are, no_holes-is}
use Rattle.dscript_eval_frames.proofs.Followed.{followed-followed, followed-same}

-- a literal begins with its text
pub literal_move
    : (v : View) (literal : Literal) (text : List ℕ) (holes : Bor (List BoundHole)) (done : Vec ℕ Global) → done.items ≡ text
    → comes_by (literal_form v.program (acts_at v) literal text (to_holes (map hole_data holes.now))) v
    ≡ comes_with (works.Expr (expr.Holes holes done literal)) v
literal_move v literal text holes done is =
    ap (λ t. comes_by (literal_form v.program (acts_at v) literal t (to_holes (map hole_data holes.now))) v) (sym is)

pub holes_end
    : (v : View) (holes : Bor (List BoundHole)) (text : Vec ℕ Global) (literal : Literal) → length holes.now ≡ 0
    → comes_with (works.Expr (expr.Holes holes text literal)) v ≡ comes_by (ended v.program literal text.items) v
holes_end v holes text literal none =
    ap (λ hs. comes_by (literal_form v.program (acts_at v) literal text.items (to_holes (map hole_data hs))) v) (none_left holes.now none)
    ∙ ap (λ r. followed (followed r (λ rest. ended v.program literal (text.items ++ rest))) (λ x later. run v.program v.work On v.openable x later))
    (no_holes-is v.program (acts_at v) v.state (reader literal))
    ∙ ap (λ t. comes_by (ended v.program literal t) v) (append-nil text.items)

-- the text before a hole, the hole, and what follows it
hole_before
    : (text hole following rest : List ℕ) → text ++ (hole ++ following ++ rest) ≡ text ++ hole ++ following ++ rest
hole_before text hole following rest =
    sym (append_assoc text (hole ++ following) rest) ∙ ap (λ t. t ++ rest) (sym (append_assoc text hole following))

-- a hole and those after it, in the end of a literal
one_hole
    : (p : ProgramData) (act : Acts) (literal : Literal) (text following : List ℕ) (more : HoleRow) (x : Plain) (s : State)
    → followed (followed (answered (reader literal x) s) (λ hole. hole_texts p act (reader literal) more >>= λ rest. gives (hole ++ following ++ rest)))
    (λ rest. ended p literal (text ++ rest))
    ≡ (answered (reader literal x) >>= λ hole. hole_texts p act (reader literal) more >>= λ rest. ended p literal (text ++ hole ++ following ++ rest)) s
one_hole p act literal text following more x s =
    followed-followed (answered (reader literal x) s) _ _
    ∙ followed-same (answered (reader literal x) s) _ _
    (λ hole s1. followed-followed (hole_texts p act (reader literal) more s1) _ _
    ∙ followed-same (hole_texts p act (reader literal) more s1) _ _
    (λ rest s2. ap (λ t. ended p literal t s2) (hole_before text hole following rest)))

pub holes_move
    : (v : View) (holes others : Bor (List BoundHole)) (hole : BoundHole) (e : Bor BoundExpr) (following : Bor (List ℕ))
    (text : Vec ℕ Global) (literal : Literal)
    → holes.now ≡ hole ∷ others.now → hole_data hole ≡ tree.Hole (expr_data e.now) following.now
    → comes_with (works.Expr (expr.Holes holes text literal)) v
    ≡ comes (record v { work = works.Expr (expr.Value e) ∷ works.Expr (expr.Hole following others text literal) ∷ v.work })
holes_move v holes others hole e following text literal is parts =
    ap (λ hs. comes_by (literal_form v.program (acts_at v) literal text.items (to_holes (map hole_data hs))) v) is
    ∙ ap (λ d. comes_by (literal_form v.program (acts_at v) literal text.items (more_holes d (to_holes (map hole_data others.now)))) v) parts
    ∙ ap (λ r. followed (followed r (λ rest. ended v.program literal (text.items ++ rest))) (λ x later. run v.program v.work On v.openable x later))
    (holes-are v.program (acts_at v) v.state (reader literal) (expr_data e.now) following.now (to_holes (map hole_data others.now)))
    ∙ ap (λ r. followed r (λ x later. run v.program v.work On v.openable x later)) (followed-followed (value_at v (expr_data e.now) v.state) _ _)
    ∙ followed-followed (value_at v (expr_data e.now) v.state) _ _
    ∙ followed-same (value_at v (expr_data e.now) v.state) _ _
    (λ x s. ap (λ r. followed r (λ y later. run v.program v.work On v.openable y later))
    (one_hole v.program (acts_at v) literal text.items following.now (to_holes (map hole_data others.now)) x s))

hole_at
    : (p : ProgramData) (act : Acts) (literal : Literal) (text following longer with_hole : List ℕ) (more : HoleRow)
    (o : Outcome (List ℕ)) (s : State) → appended_hole text o ≡ Ok with_hole → longer ≡ with_hole ++ following
    → (answered o >>= λ hole. hole_texts p act (reader literal) more >>= λ rest. ended p literal (text ++ hole ++ following ++ rest)) s
    ≡ (hole_texts p act (reader literal) more >>= λ rest. ended p literal (longer ++ rest)) s
hole_at p act literal text following longer with_hole more (Err fault) s is long = let never : Err fault ≡ Ok with_hole = is in cc
hole_at p act literal text following longer with_hole more (Ok hole) s is long =
    let here : text ++ hole ≡ with_hole = cc in
    let whole : (rest : List ℕ) → text ++ hole ++ following ++ rest ≡ longer ++ rest =
    λ rest. ap (λ t. t ++ rest) (ap (λ t. t ++ following) here ∙ sym long) in
    followed-same (hole_texts p act (reader literal) more s) _ _ (λ rest s1. ap (λ t. ended p literal t s1) (whole rest))

-- the hole that is given, with the text after it, is added after the text before it
pub hole_move
    : (v : View) (following : Bor (List ℕ)) (others : Bor (List BoundHole)) (text with_hole longer : Vec ℕ Global) (literal : Literal)
    → appended_hole text.items (reader literal v.given) ≡ Ok with_hole.items → longer.items ≡ with_hole.items ++ following.now
    → comes_with (works.Expr (expr.Hole following others text literal)) v
    ≡ comes_with (works.Expr (expr.Holes others longer literal)) v
hole_move v following others text with_hole longer literal is more =
    ap (λ r. followed r (λ x later. run v.program v.work On v.openable x later))
    (hole_at v.program (acts_at v) literal text.items following.now longer.items with_hole.items (to_holes (map hole_data others.now))
    (reader literal v.given) v.state is more)

-- ## Path, file and directory literals

path_holes-none
    : (p : ProgramData) (act : Acts) (letter : PathKind) (text : List ℕ) (s : State)
    → path_holes p act letter text no_holes s ≡ path_value p letter None text s
unfolding path_holes
path_holes-none p act letter text s = refl

path_holes-more
    : (p : ProgramData) (act : Acts) (letter : PathKind) (text : List ℕ) (e : ExprData) (following : List ℕ) (more : HoleRow) (s : State)
    → path_holes p act letter text (more_holes (tree.Hole e following) more) s
    ≡ (value p act e >>= λ x. answered (first_hole text x) >>= λ start.
    hole_texts p act literal_hole more >>= λ rest. path_value p letter start.0 (start.1 ++ following ++ rest)) s
unfolding path_holes
path_holes-more p act letter text e following more s = refl

pub path_move
    : (v : View) (letter : PathKind) (text following : Bor (List ℕ)) (holes others : Bor (List BoundHole)) (hole : BoundHole)
    (e : Bor BoundExpr)
    → holes.now ≡ hole ∷ others.now → hole_data hole ≡ tree.Hole (expr_data e.now) following.now
    → comes_by (path_holes v.program (acts_at v) letter text.now (to_holes (map hole_data holes.now))) v
    ≡ comes (record v { work = works.Expr (expr.Value e) ∷ works.Expr (expr.FirstHole letter text following others) ∷ v.work })
path_move v letter text following holes others hole e is parts =
    ap (λ hs. comes_by (path_holes v.program (acts_at v) letter text.now (to_holes (map hole_data hs))) v) is
    ∙ ap (λ d. comes_by (path_holes v.program (acts_at v) letter text.now (more_holes d (to_holes (map hole_data others.now)))) v) parts
    ∙ ap (λ r. followed r (λ x later. run v.program v.work On v.openable x later))
    (path_holes-more v.program (acts_at v) letter text.now (expr_data e.now) following.now (to_holes (map hole_data others.now)) v.state)
    ∙ followed-followed (value_at v (expr_data e.now) v.state) _ _

pub path_alone
    : (v : View) (letter : PathKind) (text : List ℕ) (holes : Bor (List BoundHole)) → length holes.now ≡ 0
    → comes_by (path_holes v.program (acts_at v) letter text (to_holes (map hole_data holes.now))) v
    ≡ comes_by (literal_form v.program (acts_at v) (literals.Path letter None) text (to_holes (map hole_data holes.now))) v
path_alone v letter text holes none =
    ap (λ hs. comes_by (path_holes v.program (acts_at v) letter text (to_holes (map hole_data hs))) v) (none_left holes.now none)
    ∙ ap (λ r. followed r (λ x later. run v.program v.work On v.openable x later)) (path_holes-none v.program (acts_at v) letter text v.state)
    ∙ ap (λ t. comes_by (path_value v.program letter None t) v) (sym (append-nil text))
    ∙ ap (λ r. followed (followed r (λ rest. path_value v.program letter None (text ++ rest))) (λ x later. run v.program v.work On v.openable x later))
    (sym (no_holes-is v.program (acts_at v) v.state literal_hole))
    ∙ ap (λ hs. comes_by (literal_form v.program (acts_at v) (literals.Path letter None) text (to_holes (map hole_data hs))) v)
    (sym (none_left holes.now none))

first_at
    : (p : ProgramData) (act : Acts) (letter : PathKind) (following longer start : List ℕ) (base : Option Atoms) (more : HoleRow)
    (o : Outcome (Option Atoms × List ℕ)) (s : State) → o ≡ Ok (base, start) → longer ≡ start ++ following
    → (answered o >>= λ found. hole_texts p act literal_hole more >>= λ rest. path_value p letter found.0 (found.1 ++ following ++ rest)) s
    ≡ (hole_texts p act literal_hole more >>= λ rest. path_value p letter base (longer ++ rest)) s
first_at p act letter following longer start base more o s is long =
    ap (λ r. (answered r >>= λ found. hole_texts p act literal_hole more >>= λ rest. path_value p letter found.0 (found.1 ++ following ++ rest)) s) is
    ∙ followed-same (hole_texts p act literal_hole more s) _ _
    (λ rest s1. ap (λ t. path_value p letter base t s1) (ap (λ t. t ++ rest) (sym long)))

pub first_hole_move
    : (v : View) (letter : PathKind) (text following : Bor (List ℕ)) (others : Bor (List BoundHole)) (base : Option Atoms)
    (start : List ℕ) (longer : Vec ℕ Global)
    → first_hole text.now v.given ≡ Ok (base, start) → longer.items ≡ start ++ following.now
    → comes_with (works.Expr (expr.FirstHole letter text following others)) v
    ≡ comes_by (literal_form v.program (acts_at v) (literals.Path letter base) longer.items (to_holes (map hole_data others.now))) v
first_hole_move v letter text following others base start longer is long =
    ap (λ r. followed r (λ x later. run v.program v.work On v.openable x later))
    (first_at v.program (acts_at v) letter following.now longer.items start base (to_holes (map hole_data others.now))
    (first_hole text.now v.given) v.state is long)
