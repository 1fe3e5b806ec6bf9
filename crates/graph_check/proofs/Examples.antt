-- Worked examples of the rules, each computed by tests that are proved to give the first fault.
use Rattle.std.proofs.Common.{◌≡◌, ℕ, Bool, true, false, List, [], ◌∷◌, Some, None, codes, refl}
use Rattle.bx_tree.specs.Paths.{Atoms}
use Rattle.bx_tree.specs.Trees.{Files}
use Rattle.bx_tree.specs.declared.file_input.FileInput.{FileInput}
use Rattle.bx_tree.specs.declared.file_input.FileInput.TheVariants.{Source}
use Rattle.pip_model_types.specs.declared.dir_inputs.DirInput.TheVariants.{Sealed}
use Rattle.pip_model_types.specs.declared.dir_inputs.SealForm.{SealForm}
use Rattle.pip_model_types.specs.declared.dir_inputs.SealForm.TheVariants.{Full, Partial}
use Rattle.pip_model_types.specs.declared.pip.Pip.{Pip}
use Rattle.pip_model_types.specs.declared.pip.PipKind.{PipKind}
use Rattle.pip_model_types.specs.declared.pip.PipKind.TheVariants.{Process, Copy, Write, Seal}
use Rattle.pip_model_types.specs.declared.pip.ProcessDesc.{ProcessDesc}
use Rattle.graph_check.specs.declared.fault.GraphKind.TheVariants.{DoubleProducer, Overlap, NoSuchSource, OutsideOut, Twin}
use Rattle.graph_check.proofs.Verdicts.{verdict}

-- `out` and a path below it
abbrev out : Atoms → Atoms
out path = codes "out" ∷ path

abbrev a : Atoms
a = out (codes "a" ∷ [])

abbrev a_b : Atoms
a_b = out (codes "a" ∷ codes "b" ∷ [])

abbrev pip : PipKind → Pip
pip kind = record { spec = codes "build.dsc" ∷ []; kind = kind }

abbrev write : Atoms → Pip
write path = pip (Write (record { to = path; text = [] }))

abbrev copy : Atoms → Pip
copy path = pip (Copy (record { from = Source path; to = a }))

abbrev seal : SealForm → Atoms → List FileInput → Pip
seal form root files = pip (Seal (record { form = form; root = root; files = files }))

abbrev process : ProcessDesc
process = record {
  exe = codes "t" ∷ [];
  args = [];
  env = [];
  dir = [];
  files = [];
  dirs = [];
  outs = [];
  outdirs = [];
  console = None;
}

abbrev with_dir : Bool → Atoms → Pip
with_dir shared path = pip (Process (record process { outdirs = record { path = path; shared = shared } ∷ [] }))

abbrev with_console : Atoms → Pip
with_console path = pip (Process (record process { console = Some path }))

abbrev takes : ℕ → Pip
takes number = pip (Process (record process { dirs = Sealed number Partial a ∷ [] }))

-- the source file `t`
abbrev tree : Files
tree = (codes "t" ∷ [], []) ∷ []

two_files : verdict (write a ∷ write a ∷ []) tree ≡ Some (DoubleProducer, 1)
two_files = refl

console_counts : verdict (write a ∷ with_console a ∷ []) tree ≡ Some (DoubleProducer, 1)
console_counts = refl

nested : verdict (write a_b ∷ write a ∷ []) tree ≡ Some (Overlap, 1)
nested = refl

file_and_dir : verdict (write a ∷ with_dir true a ∷ []) tree ≡ Some (Overlap, 1)
file_and_dir = refl

both_shared : verdict (with_dir true a ∷ pip (Process (record process { args = [] ∷ []; outdirs = record { path = a; shared = true } ∷ [] })) ∷ []) tree ≡ None
both_shared = refl

one_shared : verdict (with_dir true a ∷ with_dir false a ∷ []) tree ≡ Some (Overlap, 1)
one_shared = refl

nested_shared : verdict (with_dir true a ∷ with_dir true a_b ∷ []) tree ≡ Some (Overlap, 1)
nested_shared = refl

non_member : verdict (write a ∷ seal Full (out []) [] ∷ []) tree ≡ Some (Overlap, 1)
non_member = refl

seal_member : verdict (write a ∷ seal Full (out []) (Source (codes "t" ∷ []) ∷ []) ∷ []) tree ≡ Some (Overlap, 1)
seal_member = refl

partial_seal : verdict (write a ∷ seal Partial (out []) [] ∷ []) tree ≡ None
partial_seal = refl

seal_in_dir : verdict (with_dir false a ∷ seal Full a_b [] ∷ []) tree ≡ Some (Overlap, 1)
seal_in_dir = refl

no_source : verdict (copy (codes "s" ∷ []) ∷ []) tree ≡ Some (NoSuchSource, 0)
no_source = refl

out_itself : verdict (write (out []) ∷ []) tree ≡ Some (OutsideOut, 0)
out_itself = refl

twins : verdict (seal Partial a [] ∷ seal Partial a [] ∷ takes 0 ∷ takes 1 ∷ []) tree ≡ Some (Twin, 3)
twins = refl

-- an earlier rule at a later pip comes first
rules_first : verdict (write (codes "z" ∷ []) ∷ write a ∷ write a_b ∷ []) tree ≡ Some (Overlap, 2)
rules_first = refl

pips_second : verdict (write (codes "z" ∷ []) ∷ copy (codes "s" ∷ []) ∷ copy (codes "s" ∷ []) ∷ []) tree ≡ Some (DoubleProducer, 2)
pips_second = refl
