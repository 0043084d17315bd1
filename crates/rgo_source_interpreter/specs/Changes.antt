-- What a result of the code says about a change: all of it or, on allocation failure, nothing. So a step that fails can be left out.
use Rattle.std.specs.Prelude.{◌≡◌, Result, Ok, Err}
use Rattle.std.specs.declared.alloc.AllocError.{AllocError}

-- what was `before` is `after`, and is to be `next`; on allocation failure nothing changed
abbrev pub Changes : {A : Type 0} → Result (Unit {0}) AllocError → (before after next : A) → Type 0
Changes (Ok u) before after next = after ≡ next
Changes (Err e) before after next = after ≡ before
