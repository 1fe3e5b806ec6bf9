use Rattle.std.proofs.Common.{◌++◌}
use Rattle.bx_tree_paths.specs.Spans.{IsBetween}
use Rattle.bx_tree_paths.proofs.BetweenTexts.{from_range, in_span}
use Rattle.pip_model_types.specs.Dirs.{dir_path}
use Rattle.pip_model_types.specs.declared.dir_inputs.DirInput.{DirInput}
use Rattle.pip_view_directories.proofs.Between.{dirs_rise}
use Rattle.pip_view_directories.proofs.ranges.between.Goals as goal

pub span_between-span-requires : goal.span_between-span-requires
span_between-span-requires c = dirs_rise c.args.dirs.now c.requires

pub returns-clause-only : goal.returns-clause-only
returns-clause-only c = λ dir k.
    from_range c.args.dirs.now c.span_between-span.result.from c.span_between-span.result.to dir c.span_between-span.ensures.within k

pub returns-clause-all : goal.returns-clause-all
returns-clause-all c = λ dir k is.
    let text = c.args.text.now in
    in_span (λ (d : DirInput). IsBetween (text ++ c.args.low.now) (text ++ c.args.high.now) (dir_path d)) c.args.dirs.now
    c.span_between-span.result.from c.span_between-span.result.to dir c.span_between-span.ensures k is
