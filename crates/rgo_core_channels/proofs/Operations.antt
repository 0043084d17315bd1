-- What operations do to a channel, by its capacity, its queue and whether it is closed: the definitions of rgo_memory, case by case.
use Rattle.std.proofs.Common.{◌≡◌, ℕ, ◌<◌, ◌≤◌, true, false, List, [], ◌∷◌, length, Some, None}
use Rattle.std.proofs.Common.{ap, sym, ◌∙◌, nat_lt, if◌then◌else◌, arith}
use Rattle.std.proofs.lemmas.Bool.Decides.{nat_tests}
use Rattle.rgo_sound.specs.Memory.Channels.{send, sent, receive, received, close, shut}
use Rattle.rgo_sound.specs.Memory.Effects.{Does, Traps, in_memory_if_ready, to_object_if_ready, to_object, in_memory}
use Rattle.rgo_sound.specs.Memory.Memory.{Channel, Memory, with_object}
use Rattle.rgo_sound.specs.Memory.declared.traps.Trap.TheVariants.{SendClosed, CloseClosed}
use Rattle.rgo_sound.specs.Memory.declared.values.Value.{Value}
use Rattle.rgo_sound.specs.Memory.declared.values.Value.TheVariants as value
use Rattle.rgo_core_channels.specs.Channels.{Chan, channel, IsChan}
use Rattle.rgo_core_channels.specs.After.{pushed, popped, closed_now}

module _ (m : Memory) (o : ℕ) (k : Chan) (on : IsChan m o k) where
  send_at : (v : Value) → send m (value.Object o) v ≡ in_memory_if_ready m o (sent v (channel k))
  send_at v = ap (to_object_if_ready m o (sent v)) on

  receive_at : (blank : Value) → receive m (value.Object o) blank ≡ in_memory_if_ready m o (received blank (channel k))
  receive_at blank = ap (to_object_if_ready m o (received blank)) on

  pub send_does : (v : Value) → k.closed ≡ false → length k.queue < k.capacity
      → send m (value.Object o) v ≡ Some (Does (with_object m o (channel (pushed v k))) value.Nil)
  send_does v is_open room =
      send_at v ∙ ap (λ b. in_memory_if_ready m o (sent v (Channel k.capacity k.queue b))) is_open
      ∙ ap (λ b. in_memory_if_ready m o (if b then Some (Does (channel (pushed v k)) value.Nil) else None)) test
    where
      test : nat_lt (length k.queue) k.capacity ≡ true
      test = grind (arith, nat_tests)

  pub send_waits : (v : Value) → k.closed ≡ false → k.capacity ≤ length k.queue → send m (value.Object o) v ≡ None
  send_waits v is_open full =
      send_at v ∙ ap (λ b. in_memory_if_ready m o (sent v (Channel k.capacity k.queue b))) is_open
      ∙ ap (λ b. in_memory_if_ready m o (if b then Some (Does (channel (pushed v k)) value.Nil) else None)) test
    where
      test : nat_lt (length k.queue) k.capacity ≡ false
      test = grind (arith, nat_tests)

  pub send_traps : (v : Value) → k.closed ≡ true → send m (value.Object o) v ≡ Some (Traps SendClosed)
  send_traps v is_shut = send_at v ∙ ap (λ b. in_memory_if_ready m o (sent v (Channel k.capacity k.queue b))) is_shut

  pub receive_does : (blank v : Value) (queue : List Value) → k.queue ≡ v ∷ queue
      → receive m (value.Object o) blank ≡ Some (Does (with_object m o (channel (popped k queue))) v)
  receive_does blank v queue filled =
      receive_at blank ∙ ap (λ q. in_memory_if_ready m o (received blank (Channel k.capacity q k.closed))) filled

  pub receive_blank : (blank : Value) → k.queue ≡ [] → k.closed ≡ true
      → receive m (value.Object o) blank ≡ Some (Does (with_object m o (channel k)) blank)
  receive_blank blank empty is_shut =
      receive_at blank ∙ ap (λ q. in_memory_if_ready m o (received blank (Channel k.capacity q k.closed))) empty
      ∙ ap (λ b. in_memory_if_ready m o (received blank (Channel k.capacity [] b))) is_shut
      ∙ ap (λ b. Some (Does (with_object m o (Channel k.capacity [] b)) blank)) (sym is_shut)
      ∙ ap (λ q. Some (Does (with_object m o (Channel k.capacity q k.closed)) blank)) (sym empty)

  pub receive_waits : (blank : Value) → k.queue ≡ [] → k.closed ≡ false → receive m (value.Object o) blank ≡ None
  receive_waits blank empty is_open =
      receive_at blank ∙ ap (λ q. in_memory_if_ready m o (received blank (Channel k.capacity q k.closed))) empty
      ∙ ap (λ b. in_memory_if_ready m o (received blank (Channel k.capacity [] b))) is_open

  pub close_does : k.closed ≡ false
      → close m (value.Object o) ≡ Does (with_object m o (channel (closed_now k))) value.Nil
  close_does is_open =
      ap (to_object m o shut) on ∙ ap (λ b. in_memory m o (shut (Channel k.capacity k.queue b))) is_open

  pub close_traps : k.closed ≡ true → close m (value.Object o) ≡ Traps CloseClosed
  close_traps is_shut =
      ap (to_object m o shut) on ∙ ap (λ b. in_memory m o (shut (Channel k.capacity k.queue b))) is_shut
