-- The tables say what is live.
use Rattle.std.proofs.Common.{◌≡◌, ℕ, zero, suc, ◌<◌, List, length, get_or, arith}
use Rattle.rgo_graphs.specs.Rows.{Relates, row_at, IsTransposed}
use Rattle.rgo_graphs.proofs.Pushed.{row_inside}
use Rattle.rgo_flow.specs.Graphs.{IsReadIn, LiveAt}
use Rattle.rgo_flow.specs.Solved.{BlockGraph, Solves, IsLiveFrom}
use Rattle.rgo_flow.proofs.Paths.{from_tables, to_tables}

path_point : (succ reads writes : List (List ℕ)) (v n i : ℕ) → length reads ≡ length succ
    → IsReadIn succ reads writes v i n → i < length succ
path_point succ reads writes v zero i e p = omega (arith, row_inside reads i v p)
path_point succ reads writes v (suc n) i e p = row_inside succ i p.0 p.2

path_variable : (succ reads writes : List (List ℕ)) (v n i count : ℕ)
    → ((i x : ℕ) → Relates reads i x → x < count) → IsReadIn succ reads writes v i n → v < count
path_variable succ reads writes v zero i count read p = read i v p
path_variable succ reads writes v (suc n) i count read p =
    path_variable succ reads writes v n p.0 count read p.3

module _ (succ reads writes exits before readers writers solved : List (List ℕ)) (first last : List ℕ)
    (count : ℕ)
    (block_graph : BlockGraph succ exits before first last) (t_read : IsTransposed reads readers)
    (t_written : IsTransposed writes writers)
    (long : length reads ≡ length succ) (read : (i x : ℕ) → Relates reads i x → x < count)
    (all : (v : ℕ) → v < count → Solves before first last (row_at readers v) (row_at writers v)
    (row_at solved v)) where
  pub is_live : (v i : ℕ) → i < length succ → v < count →
      IsLiveFrom exits (get_or first i 0) (get_or last i 0) (row_at readers v) (row_at writers v)
      (row_at solved v) i → LiveAt succ reads writes v i
  is_live v i h l t = from_tables succ reads writes first last block_graph.blocks v (row_at readers v)
      (row_at writers v)
      (λ k. ((t_read k v).1, (t_read k v).0)) (λ k.
      ((t_written k v).1, (t_written k v).0)) exits block_graph.are_exits (row_at solved v)
      (all v l succ exits reads writes v block_graph (λ k. ((t_read k v).1, (t_read k v).0))
      (λ k. ((t_written k v).1, (t_written k v).0))) i h t

  pub at_point : (v i : ℕ) → LiveAt succ reads writes v i → i < length succ
  at_point v i p = path_point succ reads writes v p.0 i long p.1

  pub of_variable : (v i : ℕ) → LiveAt succ reads writes v i → v < count
  of_variable v i p = path_variable succ reads writes v p.0 i count read p.1

  pub was_live : (v i : ℕ) → LiveAt succ reads writes v i →
      IsLiveFrom exits (get_or first i 0) (get_or last i 0) (row_at readers v) (row_at writers v)
      (row_at solved v) i
  was_live v i p = to_tables succ reads writes first last block_graph.blocks v (row_at readers v)
      (row_at writers v)
      (λ k. ((t_read k v).1, (t_read k v).0)) (λ k.
      ((t_written k v).1, (t_written k v).0)) exits block_graph.are_exits (row_at solved v)
      (all v (of_variable v i p) succ exits reads writes v block_graph (λ k. ((t_read k v).1, (t_read k v).0))
      (λ k. ((t_written k v).1, (t_written k v).0))) i (at_point v i p) p
