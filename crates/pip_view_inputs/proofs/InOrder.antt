-- What is in order already stays as it is where it is put in order.
use Rattle.std.proofs.Common.{◌≡◌, List, map, sym, subst}
use Rattle.std.specs.Cmp.{IsTotalOrder}
use Rattle.std.specs.List.{IsDistinct}
use Rattle.std.specs.List.Sorted.{IsPermutation, IsStrictlySortedBy}
use Rattle.std.specs.declared.cmp.Ordering.{Ordering}
use Rattle.bx_tree.specs.Paths.{same_path}
use Rattle.bx_tree.specs.Orders.{path_cmp_total}
use Rattle.bx_tree.specs.declared.file_input.FileInput.{FileInput}
use Rattle.pip_model_types.specs.Inputs.{RiseByPath}
use Rattle.bx_tree.specs.FileInputs.{input_path}
use Rattle.bx_tree.specs.Sets.{IsSetOf}
use Rattle.bx_tree.proofs.InOrder.{moved_same, rising_distinct, set_same}

-- the set of a list that shares what rises is what rises
pub shared_same : {K : Type 0} {R : K → K → Ordering} → IsTotalOrder R → (given shared set : List K) → IsStrictlySortedBy R given → shared ≡ given
    → IsSetOf R shared set → set ≡ given
shared_same {K = K} {R = R} order given shared set sorted e is = set_same order given set sorted (subst (λ (ks : List K). IsSetOf R ks set) e is)

-- ## Files that pips take

pub files_distinct : (given shared : List FileInput) → RiseByPath given → shared ≡ given → IsDistinct same_path (map input_path shared)
files_distinct given shared rising e =
    subst (λ (fs : List FileInput). IsDistinct same_path (map input_path fs)) (sym e) (rising_distinct (map input_path given) rising)

pub files_same : (given shared moved : List FileInput) → RiseByPath given → shared ≡ given → IsPermutation shared moved → RiseByPath moved → moved ≡ given
files_same given shared moved rising e same risen =
    moved_same path_cmp_total input_path given moved (subst (λ (fs : List FileInput). IsPermutation fs moved) e same) rising risen
