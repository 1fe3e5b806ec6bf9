use Rattle.std.proofs.Common.{sym}
use Rattle.dscript_value.proofs.AtomByAtom.{alike, all_alike, other_length, unlike}
use Rattle.dscript_value.proofs.comparing.same_atoms.Goals as goal

pub returns-then-a-b : goal.returns-then-a-b
returns-then-a-b c = sym (other_length c.args.a.now c.args.b.now c.if-a-b.true)

pub atoms-preserved : goal.atoms-preserved
atoms-preserved c =
    alike c.args.a.now c.args.b.now c.atoms.place c.index-a-place.result c.index-b-place.result c.same_text.result _ c.atoms-test.true
    c.if-a-b.false c.index-a-place.is c.index-b-place.is c.same_text.ensures c.if-not-same_text.false c.atoms.invariant

pub returns-then-not-same_text : goal.returns-then-not-same_text
returns-then-not-same_text c =
    unlike c.args.a.now c.args.b.now c.atoms.place c.index-a-place.result c.index-b-place.result c.same_text.result _ c.atoms-test.true
    c.if-a-b.false c.index-a-place.is c.index-b-place.is c.same_text.ensures c.if-not-same_text.true c.atoms.invariant

pub returns : goal.returns
returns c = all_alike c.args.a.now c.args.b.now c.atoms.place _ c.atoms-test.false c.if-a-b.false c.atoms.invariant
