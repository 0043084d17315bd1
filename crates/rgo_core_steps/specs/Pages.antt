-- The record after an access to the state of a page. The number found decides, so one function has both outcomes.
use Rattle.std.specs.Prelude.{◌==◌, ℕ, if◌then◌else◌}
use Rattle.rgo_core.specs.Memory.Records.{with_tried_page}
use Rattle.rgo_core.specs.moves.Chains.{remembers}
use Rattle.rgo_core.specs.moves.Claims.{claims, reserves}
use Rattle.rgo_core.specs.Core.{Setup}
use Rattle.rgo_core.specs.Records.{Record}
use Rattle.rgo_core_steps.specs.Making.{next_is_spread}

-- the record after it has found a page that was not free
abbrev pub tried_page : Record → (page : ℕ) → Record
tried_page c p = remembers c (with_tried_page c.memory p)

-- the record after it has claimed a page for a slot: the page is reserved for the next object if that is spread, otherwise it is the own
-- page there
abbrev pub claims_or_reserves : Setup → Record → (page slot : ℕ) → Record
claims_or_reserves T c p s = if next_is_spread T c then reserves c p s else claims c p s

-- the record after an exchange of the state of a page that was n: 0 is a free page, which is then claimed for the slot
abbrev pub tries_page : Setup → Record → (page slot n : ℕ) → Record
tries_page T c p s n = if n == 0 then claims_or_reserves T c p s else tried_page c p
