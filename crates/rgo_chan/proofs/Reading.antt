-- What the tests of a control mean, for the definitions of `Ready`.
use Rattle.std.proofs.Common.{◌≡◌, ◌≢◌, ◌⊎◌, ◌%◌, ℕ, Bool, true, false, refl, ap, sym, ◌∙◌, ⊎_elim, arith}
use Rattle.rgo_core.specs.Channels.Controls.{bit, closed_of}
use Rattle.rgo_chan.specs.Ready.{HasNoOffer, HasOffer, BufferHasRoom, HasValue, IsClosed, IsDrained, IsOpen, IsUnlocked}

module _ (b : Bool) (n : ℕ) where
  pub is_even : bit b ≡ n % 2 → b ≡ false → IsUnlocked n
  is_even e f = sym e ∙ ap bit f

  pub is_odd : bit b ≡ n % 2 → b ≡ true → n % 2 ≡ 1
  is_odd e f = sym e ∙ ap bit f

  pub not_shut : bit b ≡ closed_of n → b ≡ false → IsOpen n
  not_shut e f = sym e ∙ ap bit f

  pub is_shut : bit b ≡ closed_of n → b ≡ true → IsClosed n
  is_shut e f = sym e ∙ ap bit f

module _ (size n : ℕ) where
  pub has_room : BufferHasRoom size n ⊎ HasNoOffer size n → size ≢ 0 → BufferHasRoom size n
  has_room r some = ⊎_elim (λ t. t) (λ t. absurd (some t.1)) r

  pub no_offer : BufferHasRoom size n ⊎ HasNoOffer size n → size ≡ 0 → HasNoOffer 0 n
  no_offer r none = ⊎_elim (λ t. absurd (omega (arith, t.1, none))) (λ t. (t.0, refl, t.2)) r

  -- a receive that can take effect: the buffer has a value; or the channel is closed and nothing is left; or there is an offer
  pub drained : HasValue size n ⊎ (IsDrained size n ⊎ HasOffer size n) → (HasValue size n → ⊥) → IsClosed n → IsDrained size n
  drained r none shut = ⊎_elim (λ t. absurd (none t)) (λ t. ⊎_elim (λ d. d) (λ o. absurd (let e = o.0 in omega (arith, e, shut))) t) r

  pub offer : HasValue size n ⊎ (IsDrained size n ⊎ HasOffer size n) → (HasValue size n → ⊥) → IsOpen n → HasOffer size n
  offer r none is_open = ⊎_elim (λ t. absurd (none t)) (λ t. ⊎_elim (λ d. absurd (let e = d.0 in omega (arith, e, is_open))) (λ o. o) t) r
