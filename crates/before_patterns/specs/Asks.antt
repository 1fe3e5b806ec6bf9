-- Asks as they were before there were listings with a pattern: by path, and then by kind. Of a listing with a pattern, of which there
-- was none then, these definitions say something that no law uses.
use Rattle.std.specs.Prelude.{ℕ, Bool, nat_eq, List, [], ◌∷◌}
use Rattle.std.specs.Ordering.{nat_cmp, on, then_cmp, eq_of_both}
use Rattle.std.specs.BTreeSet.{insert_key}
use Rattle.std.specs.List.{AllByRecursion}
use Rattle.std.specs.declared.cmp.Ordering.{Ordering}
use Rattle.bx_tree.specs.Paths.{path_cmp, same_path}
use Rattle.observed.specs.declared.ask.AskKind.{AskKind}
use Rattle.observed.specs.declared.ask.AskKind.TheVariants as kinds
use Rattle.observed.specs.declared.ask.Ask.{Ask}

-- a kind of ask that there was
abbrev pub WasKind : AskKind → Type 0
WasKind kinds.Read = Unit {0}
WasKind kinds.Probe = Unit {0}
WasKind kinds.List = Unit {0}
WasKind (kinds.Match pattern) = ⊥

-- asks that there were
abbrev pub WereAsks : List Ask → Type 0
WereAsks asks = AllByRecursion (λ (a : Ask). WasKind a.kind) asks

abbrev pub kind_place : AskKind → ℕ
kind_place kinds.Read = 0
kind_place kinds.Probe = 1
kind_place kinds.List = 2
kind_place (kinds.Match pattern) = 3

abbrev pub ask_cmp : Ask → Ask → Ordering
ask_cmp = then_cmp (on (λ (a : Ask). a.path) path_cmp) (on (λ (a : Ask). kind_place a.kind) nat_cmp)

abbrev pub same_ask : Ask → Ask → Bool
same_ask = eq_of_both (on (λ (a : Ask). a.path) same_path) (on (λ (a : Ask). kind_place a.kind) nat_eq)

-- the asks of a list, in order and each once
abbrev pub set_of : List Ask → List Ask
set_of [] = []
set_of (a ∷ as') = insert_key ask_cmp (set_of as') a
