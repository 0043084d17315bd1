use Rattle.std.proofs.Common.{◌≡◌, ◌++◌, All, List, reverse, vec_len}
use Rattle.rgo_table_runs.specs.Goroutine.declared.goroutine.Goroutine.{Goroutine}
use Rattle.rgo_runtime.specs.Crews.{IsNewborn}
use Rattle.rgo_runtime.specs.Leaving.{HaveLeft}
use Rattle.rgo_runtime.proofs.retiring.retire_newborns.Given as goal

-- some have gone, the last first
abbrev pub invariant-loop-goroutine : goal.invariant-loop-goroutine
invariant-loop-goroutine l = record {
  gone : List Goroutine;
  is : reverse l.fn.born.items ≡ gone ++ reverse l.born.items;
  all : All (IsNewborn l.fn.run) l.born.items;
  left : HaveLeft l.fn.run.setup gone l.fn.left l.left;
}

abbrev pub decreases-loop-goroutine : goal.decreases-loop-goroutine
decreases-loop-goroutine l = vec_len l.born
