use Rattle.std.proofs.Common.{◌∙◌, ◌<◌, ◌-◌, ap, arith, drop, length, sym, take}
use Rattle.std.proofs.lemmas.Bool.{false≢true}
use Rattle.bx_io.specs.Names.{IsName}
use Rattle.bx_io.specs.declared.name.TheConstants.{NAME_LENGTH}
use Rattle.bx_io_folder.proofs.Places.{is_left_ok, rest_of, short_is_not_left}
use Rattle.bx_io_folder.proofs.ordered.is_left.Goals as goal
use Rattle.bx_io_folder.proofs.ordered.is_left.Goals.{then-bytes-lt-NAME_LENGTH-via-then-bytes-lt-NAME_LENGTH, then-bytes-lt-NAME_LENGTH-via-else-bytes-lt-NAME_LENGTH+then-not-is_name}

pub returns-then-bytes-lt-NAME_LENGTH : goal.returns-then-bytes-lt-NAME_LENGTH
returns-then-bytes-lt-NAME_LENGTH c = elim c.then-bytes-lt-NAME_LENGTH.branch [
  | then-bytes-lt-NAME_LENGTH-via-then-bytes-lt-NAME_LENGTH w ↦
      let short : length c.args.path.now < NAME_LENGTH = omega (arith, ap length c.as_bytes-bytes.ensures.value, w.if-bytes-lt-NAME_LENGTH.true) in
      (λ yes. absurd (false≢true yes), λ left. absurd (short_is_not_left c.args.path.now short left))
  | then-bytes-lt-NAME_LENGTH-via-else-bytes-lt-NAME_LENGTH+then-not-is_name w ↦ (
    λ yes. absurd (false≢true yes),
    λ left. absurd (false≢true (sym w.if-not-is_name.true ∙ w.is_name.ensures.1 (rw c.as_bytes-bytes.ensures.value left.name))),
  )
]

pub returns : goal.returns
returns c =
    let named : IsName (take NAME_LENGTH c.args.path.now) = rw c.as_bytes-bytes.ensures.value at (c.is_name.ensures.0 c.if-not-is_name.false) in
    let bytes = c.as_bytes-bytes.result.now in
    is_left_ok c.args.path.now (take (length bytes - NAME_LENGTH) (drop NAME_LENGTH bytes)) c.is_ending.result named
    (rest_of NAME_LENGTH bytes ∙ ap (drop NAME_LENGTH) c.as_bytes-bytes.ensures.value) c.is_ending.ensures
