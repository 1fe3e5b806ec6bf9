use Rattle.bx_io_folder.proofs.folder_keeper.FolderKeeper.new.Given as goal

abbrev pub ghost-new : goal.ghost-new
ghost-new g a = g.held
