use Rattle.std.proofs.Common.{◌∙◌, sym}
use Rattle.std.proofs.lemmas.Bool.{false≢true}
use Rattle.std.proofs.lemmas.Slice.Eq.{bytes_eq-Decides}
use Rattle.observed.proofs.ReadTexts.{no_path, path_named}
use Rattle.prints.proofs.cursor.path_of.Goals as goal

pub returns-in-Ok : goal.returns-in-Ok
returns-in-Ok c = path_named c.args.text.now c.in-Ok.path c.in-Ok.ensures

pub returns-in-Err-BadPath : goal.returns-in-Err-BadPath
returns-in-Err-BadPath c =
    no_path c.args.text.now
    (λ dot. false≢true (sym c.if-eq.false ∙ c.eq.ensures ∙ (bytes_eq-Decides c.args.text.now c.as_slice.result.now).1 (dot ∙ sym c.as_slice.ensures)))
    (c.in-Err-BadPath.ensures c.in-Err-BadPath.field-0-is)
