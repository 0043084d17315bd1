-- The records of all goroutines, as a driver has them when its goroutines are retired.
use Rattle.std.specs.Prelude.{◌≡◌, ◌<◌, ℕ, suc, [], ◌∷◌}
use mathlib.Core.Option.{some}
use lib.ListN.{get_elem?}
use Rattle.rgo_core.specs.Records.{Record}
use Rattle.rgo_core.specs.Memory.Records.{Calm}
use Rattle.rgo_core.specs.Rule.Views.{HasRow, Rows, view}
use Rattle.rgo_core.specs.Rule.declared.accesses.View.{View}
use Rattle.rgo_core_steps.specs.Outcomes.{HasFamily}
use Rattle.rgo_sound.specs.RegionMachine.Counts.{Counts}
use Rattle.rgo_sound.specs.Tally.{counts_plus, no_share}

-- what the goroutines have made and done
abbrev pub all_shares : Rows Record → Counts
all_shares [] = no_share
all_shares (r ∷ rows) = counts_plus r.1.clock.share (all_shares rows)

-- The rows of a view that have the record of `main`, and with each record those of the goroutines that it has started. They are in the
-- order of their numbers, each once. No goroutine has a chain to give back.
pub record AreAll (v : View Record) (rows : Rows Record) : Type 0 where
  pub here : (g : ℕ) (c : Record) → HasRow rows g c → HasRow v.records g c
  pub family : HasFamily (view rows v.seen)
  pub ascending : (i : ℕ) (r q : ℕ × Record) → get_elem? rows i ≡ some r → get_elem? rows (suc i) ≡ some q → r.0 < q.0
  pub calm : (g : ℕ) (c : Record) → HasRow rows g c → c.memory.give ≡ Calm
