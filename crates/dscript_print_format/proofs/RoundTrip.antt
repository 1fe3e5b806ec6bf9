-- A printed text is its file laid out.
use Rattle.std.specs.Prelude.{ℕ, List}
use Rattle.dscript_ast.specs.declared.file.Form.{Form}
use Rattle.dscript_ast.specs.FileTree.{FileTree}
use Rattle.dscript_print.specs.Printing.{Prints, TextDerives}
use Rattle.dscript_print_format.specs.Layouts.{IsLaidOut}

pub laid_out : (form : Form) (text laid : List ℕ) (file : FileTree) (height : ℕ)
    → TextDerives form text file height → Prints laid file → IsLaidOut form text laid
laid_out form text laid file height reads prints =
    record { file = file; height = height; was = reads; is = prints form text height reads }
