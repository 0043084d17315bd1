-- A receiver and a sender that meet are looked for by the numbers of their channels: whether two meet depends on that number alone, so a
-- sender that does not meet the receiver that was found for its channel meets no other.
use Rattle.std.proofs.Common.{◌≡◌, ◌<◌, ◌≤◌, ◌+◌, ◌⊎◌, inl, inr, ℕ, true, false, length}
use Rattle.std.proofs.Common.{Option, Some, None, slice_get, option_map, refl, ap, sym, subst, ◌∙◌, arith}
use Rattle.std.proofs.lemmas.Bool.{cases_eq, cases_lt, ne_eqb}
use Rattle.std.proofs.lemmas.Option.{same_Some, slice_get_past}
use Rattle.std.specs.Prelude.{option_and_then, if◌then◌else◌}
use Rattle.rgo_memory.specs.declared.values.Value.{Value}
use Rattle.rgo_memory.specs.declared.values.Value.TheVariants as value
use Rattle.rgo_memory.specs.Channels.{meets_at, is_meeting_at}
use Rattle.rgo_memory.specs.Memory.{Memory}
use Rattle.rgo_interpreter.specs.declared.machines.Stand.{Stand as CodeStand}
use Rattle.rgo_interpreter.specs.declared.machines.Stand.TheVariants as code
use Rattle.rgo_machine.specs.declared.picks.Pick.TheVariants.{Meet}
use Rattle.rgo_interpreter.specs.Acting.{newest_stand, standing}
use Rattle.rgo_interpreter.specs.Alone.{receives_at, sends_at}
use Rattle.rgo_machine.specs.Machines.{Machine, State, picked, unless_ended, step_by}
use Rattle.rgo_interpreter.specs.Meetings.{channel_number, receiver_at, sender_at, IsUnmet, CanMeet, FindsReceivers}
use Rattle.rgo_interpreter.proofs.Meeting.{unmet, both_go_on}

-- ---- by numbers

-- two that meet meet at one number
meets_nowhere : (m : Memory) (c d : Value) → ((n : ℕ) → channel_number c ≡ Some n → channel_number d ≡ Some n
    → meets_at m (value.Object n) (value.Object n) ≡ false) → meets_at m c d ≡ false
meets_nowhere m (value.Object n) (value.Object k) none = by_number (cases_eq n k) where
  by_number : (n ≡ k) ⊎ (n ≡ k → ⊥) → meets_at m (value.Object n) (value.Object k) ≡ false
  by_number (inl e) = ap (λ x. meets_at m (value.Object n) (value.Object x)) (sym e) ∙ none n refl (ap Some (sym e))
  by_number (inr other) = ap (λ b. if b then is_meeting_at (slice_get m.heap n) else false) (ne_eqb n k other)
meets_nowhere m (value.Object n) value.Nil none = refl
meets_nowhere m (value.Object n) (value.Int k) none = refl
meets_nowhere m (value.Object n) (value.Bool b) none = refl
meets_nowhere m value.Nil d none = refl
meets_nowhere m (value.Int n) d none = refl
meets_nowhere m (value.Bool b) d none = refl

object_of_number : (c : Value) (n : ℕ) → channel_number c ≡ Some n → c ≡ value.Object n
object_of_number (value.Object k) n e = ap value.Object (same_Some k n e)
object_of_number value.Nil n e = cc
object_of_number (value.Int k) n e = cc
object_of_number (value.Bool b) n e = cc

received_at : (o : Option Value) (n : ℕ) → option_and_then channel_number o ≡ Some n → o ≡ Some (value.Object n)
received_at None n e = cc
received_at (Some c) n e = ap Some (object_of_number c n e)

sent_at : (o : Option (Value × Value)) (n : ℕ) → option_and_then channel_number (option_map (λ send. send.0) o) ≡ Some n
    → (v : Value) × (o ≡ Some (value.Object n, v))
sent_at None n e = cc
sent_at (Some send) n e = (send.1, ap (λ c. Some (c, send.1)) (object_of_number send.0 n e))

-- nobody stands at a receive and at a send
not_both : (x : Option CodeStand) (c : Value) (send : Value × Value) → receives_at x ≡ Some c → sends_at x ≡ Some send
    → ⊥
not_both None c send p q = cc
not_both (Some (code.Receive channel blank)) c send p q = cc
not_both (Some (code.Send channel v place)) c send p q = cc
not_both (Some (code.Close channel place)) c send p q = cc
not_both (Some code.Call) c send p q = cc
not_both (Some code.Start) c send p q = cc
not_both (Some code.Elsewhere) c send p q = cc

module _ {F : Type 0} (machine : Machine F) (s : State F) (r t : ℕ) where
  -- a receiver and a sender at no channel where goroutines meet
  apart : ((n : ℕ) → receiver_at machine s r ≡ Some n → sender_at machine s t ≡ Some n
      → meets_at s.memory (value.Object n) (value.Object n) ≡ false) → step_by machine s (Meet r t) ≡ None
  apart none = unmet machine s r t (λ c d v gets gives. meets_nowhere s.memory c d (λ n p q.
      none n (ap (option_and_then channel_number) gets ∙ p)
      (ap (λ o. option_and_then channel_number (option_map (λ send. send.0) o)) gives ∙ q)))

  -- both at one
  together : (n : ℕ) → s.ended ≡ None → receiver_at machine s r ≡ Some n → sender_at machine s t ≡ Some n
      → meets_at s.memory (value.Object n) (value.Object n) ≡ true → CanMeet machine s r t
  together n running gets gives meets none =
      let receives = received_at (receives_at (standing machine s r)) n gets in
      let sends = sent_at (sends_at (standing machine s t)) n gives in
      let differ : r ≡ t → ⊥ = λ same. not_both (standing machine s t) (value.Object n) (value.Object n, sends.0)
      (ap (λ g. receives_at (standing machine s g)) (sym same) ∙ receives) sends.1 in
      let step = both_go_on machine s r t (value.Object n) (value.Object n) sends.0 differ meets receives sends.1 in
      let stuck : picked machine s (Meet r t) ≡ None =
      ap (λ ended. unless_ended ended (picked machine s (Meet r t))) (sym running) ∙ none in
      absurd (something _ (sym stuck ∙ step)) where
        something : (u : State F) → None ≡ Some u → ⊥
        something u e = cc

-- ---- a sender and its partner

module _ {F : Type 0} (machine : Machine F) (s : State F) (t : ℕ) where
  different : (n : ℕ) → None ≡ Some n → ⊥
  different n e = cc

  -- it does not send, or to nil
  pub sends_nowhere : sender_at machine s t ≡ None → IsUnmet machine s t
  sends_nowhere none r = apart machine s r t (λ n gets gives. absurd (different n (sym none ∙ gives)))

  exists : (r n : ℕ) → receiver_at machine s r ≡ Some n → (r < length s.goroutines) ⊎ (length s.goroutines ≤ r)
      → r < length s.goroutines
  exists r n gets (inl below) = below
  exists r n gets (inr past) =
      absurd (different n (sym (ap (λ f. option_and_then channel_number (receives_at (option_and_then
      (newest_stand machine) f))) (slice_get_past s.goroutines r past)) ∙ gets))

  module _ (channel : ℕ) (found : ℕ → Option ℕ) (sends : sender_at machine s t ≡ Some channel)
      (finds : FindsReceivers machine s (length s.goroutines) found) where
    -- no goroutine receives there
    pub none_there : found channel ≡ None → IsUnmet machine s t
    none_there none r = apart machine s r t (λ n gets gives.
        let here : receiver_at machine s r ≡ Some channel = gets ∙ sym gives ∙ sends in
        absurd (finds.complete channel r (exists r channel here (cases_lt r (length s.goroutines))) here none))

    -- nobody meets there
    pub no_place : meets_at s.memory (value.Object channel) (value.Object channel) ≡ false → IsUnmet machine s t
    no_place never r = apart machine s r t (λ n gets gives.
        subst (λ k. meets_at s.memory (value.Object k) (value.Object k) ≡ false)
        (same_Some channel n (sym sends ∙ gives)) never)

    -- one does
    pub one_there : s.ended ≡ None → (r : ℕ) → found channel ≡ Some r
        → meets_at s.memory (value.Object channel) (value.Object channel) ≡ true → CanMeet machine s r t
    one_there running r is meets = together machine s r t channel running (finds.sound channel r is) sends meets

-- ---- all of them

module _ {F : Type 0} (machine : Machine F) (s : State F) where
  pub one_unmet_more : (i : ℕ) → ((g : ℕ) → g < i → IsUnmet machine s g) → IsUnmet machine s i
      → (g : ℕ) → g < i + 1 → IsUnmet machine s g
  one_unmet_more i before here g lt = by_cases (cases_lt g i) where
    by_cases : (g < i) ⊎ (i ≤ g) → IsUnmet machine s g
    by_cases (inl less) = before g less
    by_cases (inr behind) = subst (IsUnmet machine s) (omega (arith, lt, behind)) here

  -- a goroutine that does not exist sends nowhere
  pub all_unmet : (n : ℕ) → length s.goroutines ≤ n → ((g : ℕ) → g < n → IsUnmet machine s g) → (g : ℕ)
      → IsUnmet machine s g
  all_unmet n all h g = by_cases (cases_lt g n) where
    by_cases : (g < n) ⊎ (n ≤ g) → IsUnmet machine s g
    by_cases (inl before) = h g before
    by_cases (inr behind) =
        sends_nowhere machine s g
        (ap (λ f. option_and_then channel_number (option_map (λ send. send.0) (sends_at (option_and_then
        (newest_stand machine) f)))) (slice_get_past s.goroutines g (omega (arith, all, behind))))
