-- The source files that a process declares rise by path where its lines do.
use Rattle.std.proofs.Common.{◌≡◌, true, List, [], ◌∷◌, map, refl, ap, sym, subst}
use Rattle.std.specs.List.Sorted.{IsStrictlySortedBy}
use Rattle.bx_tree.specs.Paths.{path_cmp}
use Rattle.bx_tree.specs.Orders.{path_cmp_total}
use Rattle.pip_model_types.specs.Inputs.{RiseByPath}
use Rattle.prints.specs.Lines.{rises}
use Rattle.prints.proofs.Rising.{rising_sorted}
use Rattle.prints.specs.declared.weak_lines.FileLine.{FileLine}
use Rattle.prints.specs.ReadWeak.{file_before, sources_of}
use Rattle.bx_tree.specs.FileInputs.{input_path}

pub source_paths : (lines : List FileLine) → map input_path (sources_of lines) ≡ map (λ (f : FileLine). f.path) lines
source_paths [] = refl
source_paths (f ∷ fs) = ap (λ t. f.path ∷ t) (source_paths fs)

pub sources_rise : (lines : List FileLine) → rises file_before lines ≡ true → RiseByPath (sources_of lines)
sources_rise lines e =
    subst (IsStrictlySortedBy path_cmp) (sym (source_paths lines)) (rising_sorted path_cmp_total (λ (f : FileLine). f.path) lines e)
