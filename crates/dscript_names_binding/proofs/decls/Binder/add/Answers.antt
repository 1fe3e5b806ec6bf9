use Rattle.dscript_program.specs.Views.{around_names}
use Rattle.dscript_names_binding.proofs.Declaring.{decl_added}
use Rattle.dscript_names_binding.proofs.decls.Binder.add.Goals as goal

pub returns : goal.returns
returns c =
    decl_added c.args.self.now c.push.new.self _ (around_names c.args.around.now) c.in_ok-push.ensures.items c.in_ok-around.ensures
