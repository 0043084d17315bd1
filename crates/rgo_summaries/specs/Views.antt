-- What the code's own types say.
use Rattle.std.specs.Prelude.{ℕ, List, Vec, map, slice_index_or, []}
use Rattle.std.specs.Borrow.{Bor}
use Rattle.std.specs.Global.{Global}
use Rattle.rgo_tac.specs.Code.{TacFn}
use Rattle.rgo_summaries.specs.declared.calls.Call.{Call}
use Rattle.rgo_summaries.specs.declared.progress.Site.{Site}
use Rattle.rgo_summaries.specs.Calls.{CallParts}

-- a call, as the definitions see it
abbrev pub parts_of_call : Call → CallParts
parts_of_call c = record { to = c.to; function = c.function; from = c.from.now }

-- the same with the function that is called
abbrev pub called_with : (Call × Bor TacFn) → CallParts × TacFn
called_with c = (parts_of_call c.0, c.1.now)

-- the calls of this function
abbrev pub call_sites_of : List (Vec Site Global) → ℕ → List Site
call_sites_of sites n = slice_index_or (map (λ row. row.items) sites) n []
