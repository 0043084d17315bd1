-- The numbers of nodes fit in a machine word.
use Rattle.std.proofs.Common.{◌≡◌, ◌<◌, ◌^◌, ℕ, List, Option, Some, None, slice_get, refl, arith}
use Rattle.rgo_summaries.specs.declared.nodes.Nodes.{Nodes}
use Rattle.rgo_summaries.specs.Joining.{IsNodes}
use Rattle.rgo_summaries.specs.Progress.{size_at, size_in}

pub few_in : (nodes : List Nodes) (f : ℕ) → ((g : ℕ) (n : Nodes) → slice_get nodes g ≡ Some n → IsNodes n)
    → size_in nodes f < 2 ^ 64
few_in nodes f are = by (slice_get nodes f) refl where
  by : (o : Option Nodes) → slice_get nodes f ≡ o → size_at o < 2 ^ 64
  by None e = omega arith
  by (Some n) e = (are f n e).few
