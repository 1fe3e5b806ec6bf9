use Rattle.std.proofs.Common.{ap, drop, length, sym, ◌∙◌}
use Rattle.dscript_value.specs.Plain.{plain_of}
use Rattle.dscript_sdk_members.proofs.PlaceLemmas.{piece_end, piece_on}
use Rattle.dscript_sdk_members.proofs.text_members.pieces_of.Goals as goal

pub pieces-preserved : goal.pieces-preserved
pieces-preserved c =
    piece_on plain_of c.args.separator.now c.pieces.rest.now _ _ c.pieces.pieces.items c.push.new.self.items c.in_ok-piece-in-Some.field-0 c.in-Some.place _
    c.requires (sym c.in-Some.ensures.place) c.split_at.ensures.front
    (c.split_at-in-Some.ensures.back ∙ ap (drop (length c.args.separator.now)) c.split_at.ensures.back)
    c.in_ok-push-in-Some.ensures.items c.in_ok-piece-in-Some.ensures c.pieces.invariant

pub returns-in-None : goal.returns-in-None
returns-in-None c =
    piece_end plain_of c.args.separator.now c.pieces.rest.now c.pieces.pieces.items _ c.in_ok-piece-in-None.field-0 _
    c.requires (sym c.in-None.ensures.place) c.in_ok-push-in-None.ensures.items c.in_ok-piece-in-None.ensures c.pieces.invariant
