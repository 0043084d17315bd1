-- What an access tells may be replaced by what follows from it.
use Rattle.std.proofs.Common.{ℕ, inl, inr, ⊎_elim}
use Rattle.rgo_core.specs.Core.{Setup}
use Rattle.rgo_core.specs.Records.{Record}
use Rattle.rgo_core.specs.Steps.{Moves, MovesEither}

-- an access of which P is known is one of which Q is known, if P has Q
pub tells_more : (T : Setup) (g : ℕ) (c : Record) (i : ℕ) (f : ℕ → ℕ) {P Q : ℕ → Record → Type 0}
    → ((n : ℕ) (d : Record) → P n d → Q n d) → Moves T g c i f P → Moves T g c i f Q
tells_more T g c i f by moves words recs run explains is small =
    let m = moves words recs run explains is small in
    record { after = m.after; gain = m.gain; explains = m.explains; counts = m.counts; tells_so = by _ m.after m.tells_so }

-- the same of an access that may start a goroutine
pub either_tells_more : (T : Setup) (g : ℕ) (c : Record) (i : ℕ) (f : ℕ → ℕ) {P Q : ℕ → Record → Type 0} {PC QC : ℕ → Record → Record → Type 0}
    → ((n : ℕ) (d : Record) → P n d → Q n d) → ((n : ℕ) (d e : Record) → PC n d e → QC n d e)
    → MovesEither T g c i f P PC → MovesEither T g c i f Q QC
either_tells_more T g c i f by by_child moves words recs run explains is small =
    ⊎_elim
    (λ m. inl (record { after = m.after; gain = m.gain; explains = m.explains; counts = m.counts; tells_so = by _ m.after m.tells_so }))
    (λ m. inr (record {
      after = m.after;
      child = m.child;
      gain = m.gain;
      explains = m.explains;
      counts = m.counts;
      new = m.new;
      number = m.number;
      tells_so = by_child _ m.after m.child m.tells_so;
    }))
    (moves words recs run explains is small)
