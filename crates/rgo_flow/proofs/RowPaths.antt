-- Paths through the rows of a function are paths through its instructions.
use Rattle.std.proofs.Common.{◌↔◌, ◌<◌, ℕ, zero, suc, length}
use Rattle.rgo_graphs.specs.Rows.{rows_of}
use Rattle.rgo_tac.specs.Code.{TacFn}
use Rattle.rgo_flow.specs.declared.graphs.Graph.{Graph}
use Rattle.rgo_flow.specs.Live.{IsReadAfter, Live}
use Rattle.rgo_flow.specs.Graphs.{IsReadIn, IsLiveIn, IsGraphOf}
use Rattle.rgo_flow.proofs.Instructions.{reads_inside, leads_inside}

inside : (f : TacFn) (n v at : ℕ) → IsReadAfter f n v at → at < length f.body
inside f zero v at path = reads_inside f at v path
inside f (suc n) v at path = leads_inside f at path.1 path.2

module _ (f : TacFn) (g : Graph) (is : IsGraphOf f g) where
  abbrev ReadIn : ℕ → ℕ → ℕ → Type 0
  ReadIn v at n = IsReadIn (rows_of g.successors.items) (rows_of g.reads.items) (rows_of g.writes.items) v at n

  from_rows : (n v at : ℕ) → ReadIn v at n → IsReadAfter f n v at
  from_rows zero v at path = (is.reads at v).0 path
  from_rows (suc n) v at path = (
    λ w. path.1 ((is.writes at v).1 w),
    path.0,
    ((is.leads at path.0).0 path.2).0,
    from_rows n v path.0 path.3,
  )

  to_rows : (n v at : ℕ) → IsReadAfter f n v at → ReadIn v at n
  to_rows zero v at path = (is.reads at v).1 path
  to_rows (suc n) v at path = (
    path.1,
    λ w. path.0 ((is.writes at v).0 w),
    (is.leads at path.1).1 (path.2, inside f n v path.1 path.3),
    to_rows n v path.1 path.3,
  )

  pub same : (v at : ℕ) → IsLiveIn g v at ↔ Live f v at
  same v at = (λ h. (h.0, from_rows h.0 v at h.1), λ h. (h.0, to_rows h.0 v at h.1))
