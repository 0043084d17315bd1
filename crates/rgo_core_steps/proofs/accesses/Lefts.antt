-- What an access has left, with a weaker fact in place of what it tells.
use Rattle.std.proofs.Common.{◌≡◌, ℕ}
use Rattle.rgo_core.specs.Rule.Views.{Me}
use Rattle.rgo_core.specs.Rule.declared.accesses.Kind.{Kind}
use Rattle.rgo_core.specs.Core.{Setup}
use Rattle.rgo_core.specs.Records.{Record}
use Rattle.rgo_core_steps.specs.Seats.{HasAccessed, Stored}

module _ (T : Setup) (kind : Kind) (i : ℕ) (f : ℕ → ℕ) {P Q : ℕ → Record → Type 0} (m : Me Record) (n : ℕ) (w : Me Record) where
  pub left_as : ((d : Record) → P n d → Q n d) → HasAccessed T kind i f P m n w → HasAccessed T kind i f Q m n w
  left_as by l = (
    l.0,
    record {
      after = l.1.after;
      between = l.1.between;
      tells_so = by l.1.after l.1.tells_so;
      alone = l.1.alone;
      seen = l.1.seen;
      others = l.1.others;
      counts = l.1.counts;
    },
  )

-- an access that shows more than the record after it
module _ (T : Setup) (kind : Kind) (i : ℕ) (m w : Me Record) (more : ℕ → Record → Type 0) where
  pub left_after : (n : ℕ) (after : ℕ → Record) → HasAccessed T kind i (λ n. n) (λ n d. (d ≡ after n) × more n d) m n w
      → HasAccessed T kind i (λ n. n) (λ n d. d ≡ after n) m n w
  left_after n after = left_as T kind i (λ n. n) {P = λ n d. (d ≡ after n) × more n d} {Q = λ n d. d ≡ after n} m n w (λ d e. e.0)

  pub stored_after : (x : ℕ) (d : Record) → ((n : ℕ) × HasAccessed T kind i (λ found. x) (λ n e. (e ≡ d) × more n e) m n w) → Stored T kind i x d m w
  stored_after x d l = (
    l.0,
    left_as T kind i (λ found. x) {P = λ n e. (e ≡ d) × more n e} {Q = λ n e. e ≡ d} m l.0 w (λ d e. e.0) l.1,
  )
