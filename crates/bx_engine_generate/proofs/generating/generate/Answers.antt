use Rattle.std.proofs.Common.{◌∙◌}
use Rattle.bx_engine_generate.specs.Generated.{tool_text}
use Rattle.bx_engine_generate.proofs.Lines.{bundled}
use Rattle.bx_engine_generate.proofs.generating.generate.Goals as goal

pub returns : goal.returns
unfolding tool_text
returns c =
    bundled c.in_ok-text.text.items c.append_file-2.new.text.items c.append_file-4.new.text.items c.extend_from_slice.new.self.items c.as_slice.result.now
    c.as_bytes.result.now c.in_ok-specification_path.field-0 c.in_ok-tool_path.field-0 c.args.seed c.args.pips c.in_ok-text.ensures.items
    c.in_ok-append_file.ensures c.in_ok-append_file-2.ensures c.in_ok-extend_from_slice.ensures.items c.in_ok-specification_path.ensures
    (c.as_slice.ensures.value ∙ c.in_ok-specification.ensures) c.in_ok-tool_path.ensures c.as_bytes.ensures.value
