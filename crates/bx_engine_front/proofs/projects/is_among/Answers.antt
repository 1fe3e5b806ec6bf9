use Rattle.std.proofs.Common.{◌∙◌}
use Rattle.bx_engine_front.proofs.ProjectFiles.{search_answers}
use Rattle.bx_engine_front.proofs.projects.is_among.Goals as goal

pub returns : goal.returns
returns c =
    c.is_ok.ensures.value
    ∙ search_answers c.args.paths.now c.args.path.now c.binary_search.result c.requires
    c.binary_search.ensures.bound c.binary_search.ensures.position
