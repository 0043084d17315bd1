use Rattle.std.proofs.Common.{◌≡◌, ◌≤◌, ◌-◌, ◌++◌, List, reverse, vec_capacity, vec_len}
use Rattle.rgo_goroutine.specs.Passing.{AreBorn}
use Rattle.rgo_goroutine.specs.declared.goroutine.Child.{Child}
use Rattle.rgo_goroutine.specs.declared.goroutine.Goroutine.{Goroutine}
use Rattle.rgo_goroutine.proofs.goroutine.raise.Given as goal

-- the goroutines of those that were taken from the end
abbrev pub invariant-loop-child : goal.invariant-loop-child
invariant-loop-child l = record {
  born : (done : List Child) × (more : List Goroutine) × (done ++ reverse l.children.items ≡ l.fn.children.items)
      × (l.into.items ≡ l.fn.into.items ++ more) × AreBorn l.run done more;
  room : vec_len l.children ≤ vec_capacity l.into - vec_len l.into;
}

abbrev pub decreases-loop-child : goal.decreases-loop-child
decreases-loop-child l = vec_len l.children
