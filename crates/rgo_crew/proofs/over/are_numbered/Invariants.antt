-- Tickets below the place are their places; the loop leaves at the first that is not.
use Rattle.std.proofs.Common.{◌≡◌, ◌<◌, ℕ, Some, slice_get}
use Rattle.rgo_goroutine.specs.Acts.declared.prints.Print.{Print}
use Rattle.rgo_crew.proofs.over.are_numbered.Given as goal

abbrev pub invariant-loop-i : goal.invariant-loop-i
invariant-loop-i l = (k : ℕ) (print : Print) → k < l.i → slice_get l.fn.prints k ≡ Some print → print.ticket ≡ k
