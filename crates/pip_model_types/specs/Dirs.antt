-- Directories that processes take, and the order of lists of them.
use Rattle.std.specs.Prelude.{Bool, List, false, true, ℕ, ◌==◌}
use Rattle.std.specs.List.Sorted.{IsStrictlySortedBy}
use Rattle.std.specs.Ordering.{nat_cmp, on, then_cmp, eq_of_both}
use Rattle.std.specs.declared.cmp.Ordering.{Ordering}
use Rattle.bx_tree.specs.Paths.{Atoms, path_cmp, same_path}
use Rattle.pip_model_types.specs.declared.dir_inputs.SealForm.{SealForm}
use Rattle.pip_model_types.specs.declared.dir_inputs.SealForm.TheVariants.{Full, Partial, SourceTop, SourceAll}
use Rattle.pip_model_types.specs.declared.dir_inputs.DirInput.{DirInput}
use Rattle.pip_model_types.specs.declared.dir_inputs.DirInput.TheVariants.{Sealed, Opaque}

abbrev pub dir_path : DirInput → Atoms
dir_path (Sealed pip form root) = root
dir_path (Opaque pip path) = path

-- the pip whose directory this is
abbrev pub dir_pip : DirInput → ℕ
dir_pip (Sealed pip form root) = pip
dir_pip (Opaque pip path) = pip

abbrev pub seal_rank : SealForm → ℕ
seal_rank Full = 0
seal_rank Partial = 1
seal_rank SourceTop = 2
seal_rank SourceAll = 3

-- the place of its form: full, partial, top, all, opaque
abbrev pub form_rank : DirInput → ℕ
form_rank (Sealed pip form root) = seal_rank form
form_rank (Opaque pip path) = 4

-- by path, then by form, then by pip
abbrev pub dir_cmp : DirInput → DirInput → Ordering
dir_cmp = then_cmp (on dir_path path_cmp) (then_cmp (on form_rank nat_cmp) (on dir_pip nat_cmp))

abbrev pub same_dir : DirInput → DirInput → Bool
same_dir = eq_of_both (on dir_path same_path) (eq_of_both (on form_rank ◌==◌) (on dir_pip ◌==◌))

abbrev pub RiseByForm : List DirInput → Type 0
RiseByForm = IsStrictlySortedBy dir_cmp

-- whether the members of a seal of this form are source files
abbrev pub is_source_form : SealForm → Bool
is_source_form Full = false
is_source_form Partial = false
is_source_form SourceTop = true
is_source_form SourceAll = true
