-- What can be produced where no directory is taken.
use Rattle.std.proofs.Common.{◌≡◌, ℕ, Bool, true, false, ◌&&◌, ◌||◌, List, [], Option, Some, None, refl, ap, inl, inr}
use Rattle.std.specs.Bool.{Decides}
use Rattle.std.specs.List.{Any, list_any}
use Rattle.std.specs.Prelude.{◌⊎◌}
use Rattle.std.proofs.lemmas.Bool.Decides.{Decides-at, Decides-like, Decides-or}
use Rattle.std.proofs.lemmas.List.Folds.{Any-from_list_any, list_any-from_Any}
use Rattle.bx_tree.specs.Orders.{same_path_decides}
use Rattle.bx_tree.specs.Paths.{Atoms, IsBelow, has_path}
use Rattle.pip_model_types.specs.declared.outputs.OutDir.{OutDir}
use Rattle.pip_model_types.specs.declared.pip.PipKind.{PipKind}
use Rattle.pip_model_types.specs.declared.pip.PipKind.TheVariants.{Process, Copy, Write, Seal}
use Rattle.pip_model.specs.Edges.{Produces}
use Rattle.bx_tree.proofs.BelowPaths.{below_decides}
use Rattle.bx_tree.proofs.FoundByTest.{has_path_decides}
use Rattle.bx_tree.specs.Below.{is_below}
use Rattle.violations.specs.Producing.{is_unseen_in, produces_unseen}
use Rattle.pip_model_types.specs.Outputs.{is_console}

any_decides : {X : Type 0} (p : X → Bool) (P : X → Type 0) → ((x : X) → Decides (p x) (P x)) → (xs : List X)
    → Decides (list_any p xs) (Any P xs)
any_decides p P each xs = (
  λ e. let (k, x, l, at, h) = Any-from_list_any p xs e in (k, x, l, at, (each x).0 h),
  λ (k, x, l, at, h). list_any-from_Any p xs (k, x, l, at, (each x).1 h),
)

console_decides : (console : Option Atoms) (path : Atoms) → Decides (is_console console path) (console ≡ Some path)
console_decides None path = (λ e. cc, λ e. cc)
console_decides (Some file) path = (λ e. ap Some ((same_path_decides file path).0 e), λ (e : Some file ≡ Some path). (same_path_decides file path).1 (cc))

and_true : (b : Bool) → (b && true) ≡ b
and_true true = refl
and_true false = refl

dir_decides : (j : ℕ) (path : Atoms) (out : OutDir) → Decides (is_unseen_in [] j path out) (IsBelow path out.path)
dir_decides j path out =
    Decides-at (is_unseen_in [] j path out) (is_below path out.path) (and_true (is_below path out.path)) (below_decides path out.path)

to_right : {A B C : Type 0} → (A ⊎ B) ⊎ C → A ⊎ (B ⊎ C)
to_right (inl (inl a)) = inl a
to_right (inl (inr b)) = inr (inl b)
to_right (inr c) = inr (inr c)

to_left : {A B C : Type 0} → A ⊎ (B ⊎ C) → (A ⊎ B) ⊎ C
to_left (inl a) = inl (inl a)
to_left (inr (inl b)) = inl (inr b)
to_left (inr (inr c)) = inr c

pub produced : (j : ℕ) (path : Atoms) (kind : PipKind) → Decides (produces_unseen [] j path kind) (Produces path kind)
produced j path (Process d) =
    let named = has_path d.outs path in
    let console = is_console d.console path in
    let below = list_any (is_unseen_in [] j path) d.outdirs in
    Decides-like (named || console || below) to_right to_left
    (Decides-or (named || console) below
    (Decides-or named console (has_path_decides d.outs path) (console_decides d.console path))
    (any_decides (is_unseen_in [] j path) (λ (out : OutDir). IsBelow path out.path) (dir_decides j path) d.outdirs))
produced j path (Copy d) = same_path_decides d.to path
produced j path (Write d) = same_path_decides d.to path
produced j path (Seal d) = (λ e. cc, λ h. absurd h)
