use Rattle.std.proofs.Common.{◌≡◌, ℕ, ◌<◌, false, true, List, length, sym, ◌∙◌, arith}
use Rattle.pip_model_types.specs.declared.made.MadeFile.{MadeFile}
use Rattle.run_record.proofs.Differ.{is_other, is_same}
use Rattle.sched_board.proofs.Alike.{alike_more, line_of, other_digest, other_path, path_same}
use Rattle.sched_board.proofs.comparing.are_alike.Goals as goal
use Rattle.sched_board.proofs.comparing.are_alike.Goals.{then-ne-via-then-ne, then-ne-via-else-ne+then-ne-2}

pub returns-then-ne : goal.returns-then-ne
returns-then-ne c =
    let files : List MadeFile = c.args.made.now in
    let others : List MadeFile = c.args.own.now in
    let k : ℕ = c.files.place in
    let mine : MadeFile = c.index-made-place.result in
    let other : MadeFile = c.index-own-place.result in
    let l : k < length files = c.files-test.true in
    let l' : k < length others = omega (arith, c.files-test.true, c.if-made-own.false) in
    elim c.then-ne.branch [
      | then-ne-via-then-ne w ↦ (
        λ (yes : false ≡ true). absurd cc,
        λ same. absurd (other_path files others k mine other c.ne.result l l' c.index-made-place.is c.index-own-place.is c.ne.ensures w.if-ne.true same),
      )
      | then-ne-via-else-ne+then-ne-2 w ↦ (
        λ (yes : false ≡ true). absurd cc,
        λ same. absurd (other_digest files others k mine other l l' c.index-made-place.is c.index-own-place.is
            (λ (e : (line_of mine).digest ≡ (line_of other).digest).
            is_other w.digest.result w.digest-else-ne.result w.ne-else-ne.result w.ne-else-ne.ensures w.if-ne-2.true
            (w.digest.ensures ∙ e ∙ sym w.digest-else-ne.ensures)) same),
      )
    ]

pub files-preserved : goal.files-preserved
files-preserved c =
    let mine : MadeFile = c.index-made-place.result in
    let other : MadeFile = c.index-own-place.result in
    alike_more c.args.made.now c.args.own.now c.files.place mine other c.files-test.true (omega (arith, c.files-test.true, c.if-made-own.false))
    c.index-made-place.is c.index-own-place.is c.files.invariant (path_same mine.path other.path c.ne.result c.ne.ensures c.if-ne.false)
    (sym c.digest.ensures ∙ is_same c.digest.result c.digest-else-ne.result c.ne-else-ne.result c.ne-else-ne.ensures c.if-ne-2.false ∙ c.digest-else-ne.ensures)
