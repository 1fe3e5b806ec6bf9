-- What the slots give to a pip: only those of its inputs matter.
use Rattle.std.proofs.Common.{◌≡◌, ℕ, zero, suc, ◌<◌, ◌≤◌, List, [], ◌∷◌, length, map, get_or, set, Option, Some, refl, ap, sym, ◌∙◌, subst, inl, inr, arith}
use Rattle.std.specs.Prelude.{Contains, IsSomeAnd, slice_get}
use Rattle.std.specs.List.{All}
use Rattle.std.proofs.lemmas.List.{get_or-set_other, length-map}
use Rattle.std.proofs.lemmas.List.Elements.{All-contains_itself}
use Rattle.bx_tree.specs.Members.{Has}
use Rattle.bx_tree.specs.Trees.{Files}
use Rattle.bx_tree.proofs.Sets.{contains_has, has_contained}
use Rattle.pip_model_types.specs.Makers.{IsPipList}
use Rattle.pip_model_types.specs.declared.pip.Pip.{Pip}
use Rattle.pip_model.specs.Edges.{Edge, targets}
use Rattle.pip_model.specs.Plans.{AreInputs, PlanData}
use Rattle.pip_model.proofs.EdgesBack.{edge_back}
use Rattle.pip_view_inputs.specs.Results.{ByPip, inputs_at}
use Rattle.pip_view_inputs.proofs.KeptInputs.{inputs_each}
use Rattle.sched_core.specs.Table.{node_inputs}
use Rattle.sched_core.specs.declared.graph.Node.{Node}
use Rattle.sched_board_slots.specs.Graphs.{IsGraphOf}
use Rattle.sched_board_slots.specs.Slots.{held_files, own_inputs, slot_at}
use Rattle.sched_board_slots.specs.declared.held.Held.{Held}
use Rattle.sched_board_slots.specs.declared.held.Held.TheVariants as held

pub files_at : (slots : List Held) (j : ℕ) → get_or (map held_files slots) j [] ≡ held_files (slot_at slots j)
files_at [] zero = refl
files_at [] (suc j) = refl
files_at (s ∷ ss) zero = refl
files_at (s ∷ ss) (suc j) = files_at ss j

-- pairs of numbers with what is read at them
pub pairs_alike : (f g : ℕ → Files) (js : List ℕ) → ((j : ℕ) → Has js j → f j ≡ g j) → map {B = ℕ × Files} (λ j. (j, f j)) js ≡ map {B = ℕ × Files} (λ j. (j, g j)) js
pairs_alike f g [] same = refl
pairs_alike f g (j ∷ js) same =
    ap (λ (files : Files). (j, files) ∷ map {B = ℕ × Files} (λ k. (k, f k)) js) (same j (inl refl))
    ∙ ap (λ (ps : ByPip). (j, g j) ∷ ps) (pairs_alike f g js (λ k h. same k (inr h)))

module _ (plan : PlanData) (nodes : List Node) (list : IsPipList plan.pips) (graph : IsGraphOf plan nodes) where
  pub are_inputs : (i : ℕ) → i < length plan.pips → AreInputs plan.pips i (node_inputs nodes i)
  are_inputs i l = (graph.each i (omega (arith, l, graph.size))).inputs

  pub edge_of : (i j : ℕ) → i < length plan.pips → Has (node_inputs nodes i) j → Edge plan.pips i j
  edge_of i j l h = ((are_inputs i l).edges j).0 (contains_has (node_inputs nodes i) j h)

  pub input_below : (i j : ℕ) → i < length plan.pips → Has (node_inputs nodes i) j → j < i
  input_below i j l h = edge_back plan.pips list i j (edge_of i j l h)

  pub is_target : (i j : ℕ) (pip : Pip) → i < length plan.pips → slice_get plan.pips i ≡ Some pip → Has (node_inputs nodes i) j
      → Has (targets plan.pips pip.kind) j
  is_target i j pip l at h =
      has_contained (targets plan.pips pip.kind) j
      (subst (λ (o : Option Pip). IsSomeAnd o (λ (p : Pip). Contains (targets plan.pips p.kind) j)) at (edge_of i j l h))

  all_below : (i : ℕ) → i < length plan.pips → All (λ j. j < i) (node_inputs nodes i)
  all_below i l = λ k d w.
      edge_back plan.pips list i (get_or (node_inputs nodes i) k d) (((are_inputs i l).edges (get_or (node_inputs nodes i) k d)).0 (All-contains_itself (node_inputs nodes i) k d w))

  -- the inputs of a pip, each with what is read at its number
  pub each_input : (i : ℕ) (files : List Files) → i < length plan.pips → i ≤ length files
      → inputs_at plan.pips i files ≡ map {B = ℕ × Files} (λ j. (j, get_or files j [])) (node_inputs nodes i)
  each_input i files l long = inputs_each plan.pips i files (node_inputs nodes i) (are_inputs i l) (all_below i l) long

  -- what is read of two lists of files is one where they agree at the inputs
  pub same_inputs : (i : ℕ) (files others : List Files) → i < length plan.pips → i ≤ length files → i ≤ length others
      → ((j : ℕ) → Has (node_inputs nodes i) j → get_or files j [] ≡ get_or others j []) → inputs_at plan.pips i files ≡ inputs_at plan.pips i others
  same_inputs i files others l long long' same =
      each_input i files l long
      ∙ pairs_alike (λ j. get_or files j []) (λ j. get_or others j []) (node_inputs nodes i) same
      ∙ sym (each_input i others l long')

  -- a write to a slot that is no input of the pip changes nothing of what the pip is given
  pub inputs_kept : (slots : List Held) (i q : ℕ) (slot : Held) → i < length plan.pips → length slots ≡ length plan.pips
      → (Has (node_inputs nodes i) q → ⊥) → length (set slots q slot) ≡ length slots → own_inputs plan (set slots q slot) i ≡ own_inputs plan slots i
  inputs_kept slots i q slot l size other long =
      same_inputs i (map held_files (set slots q slot)) (map held_files slots) l
      (omega (arith, l, size, long, length-map (set slots q slot) held_files)) (omega (arith, l, size, length-map slots held_files))
      (λ j h.
      files_at (set slots q slot) j
      ∙ ap held_files (get_or-set_other slots q j slot held.Skipped (λ e. other (subst (Has (node_inputs nodes i)) e h)))
      ∙ sym (files_at slots j))
