-- Single entries, and what reading one by its key returns.
use Rattle.std.specs.Prelude.{ℕ, Bool, true, false, not, List, Option, Some, None, slice_get}
use Rattle.rgo_holding.specs.declared.entries.Entry.{Entry}
use Rattle.rgo_holding.specs.declared.keys.Key.{Key as KeyRecord}

abbrev pub Key : Type 0
Key = KeyRecord

abbrev pub new_entry : (slot : ℕ) → Entry
new_entry slot = record { slot = slot; page = None; protections = 0; shared = 0; used = true }

abbrev pub no_entry : Entry
no_entry = record { slot = 0; page = None; protections = 0; shared = 0; used = false }

abbrev pub spare_in : Option Entry → Bool
spare_in None = false
spare_in (Some e) = not e.used

-- whether the key has an entry that is not in use
abbrev pub is_spare : List Entry → Key → Bool
is_spare entries key = spare_in (slice_get entries key.0)

-- the entry, in which no stake is taken for a child
abbrev pub forgotten : Option Entry → Option Entry
forgotten None = None
forgotten (Some e) = Some (record e { shared = 0 })
