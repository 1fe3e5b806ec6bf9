-- What is put in a place.
use Rattle.std.proofs.Common.{◌≡◌, ℕ, zero, suc, ◌≤◌, ◌<◌, List, [], ◌∷◌, length, map, get_or, slice_set}
use Rattle.std.proofs.Common.{ap, ◌∙◌, arith}
use Rattle.std.proofs.Math.Seq.{set_out}
use Rattle.std.proofs.lemmas.List.{length-map, map-set}
use Rattle.std.specs.declared.alloc.Global.{Global}
use Rattle.std.specs.declared.vec.Vec.{Vec}
use Rattle.dscript_eval_meaning.specs.Constants.{with_status}
use Rattle.dscript_eval_meaning.specs.States as meaning
use Rattle.dscript_eval_frames.specs.Statuses.{status_of, statuses}
use Rattle.dscript_eval_frames.specs.declared.status.Status.{Status}

pub ruleset places = (map-set, set_out, length-map)

-- a status is put in a row
pub status_set
    : (rows : List (Vec Status Global)) (file decl : ℕ) (row now : Vec Status Global) (s : meaning.Status)
    → file < length rows → row ≡ get_or rows file row
    → map status_of now.items ≡ slice_set (map status_of row.items) decl s
    → statuses (slice_set rows file now) ≡ with_status (statuses rows) file decl s
status_set [] file decl row now s less is put = absurd (omega (arith, less))
status_set (r ∷ rs) zero decl row now s less is put =
    ap (λ l. l ∷ statuses rs) (put ∙ ap (λ (q : Vec Status Global). slice_set (map status_of q.items) decl s) is)
status_set (r ∷ rs) (suc i) decl row now s less is put =
    ap (λ l. map status_of r.items ∷ l) (status_set rs i decl row now s (omega (arith, less)) is put)

-- there is no such row
pub status_out
    : (rows : List (Vec Status Global)) (file decl : ℕ) (s : meaning.Status) → length rows ≤ file
    → with_status (statuses rows) file decl s ≡ statuses rows
status_out [] file decl s le = set_out [] file (slice_set [] decl s) (omega arith)
status_out (r ∷ rs) zero decl s le = absurd (omega (arith, le))
status_out (r ∷ rs) (suc i) decl s le = ap (λ l. map status_of r.items ∷ l) (status_out rs i decl s (omega (arith, le)))
