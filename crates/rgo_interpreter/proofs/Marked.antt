-- Receivers at channels, as they are found one by one.
use Rattle.std.proofs.Common.{◌≡◌, ◌<◌, ◌≤◌, ◌+◌, ◌⊎◌, inl, inr, ℕ, true, false, Option, Some, None, cond, nat_eq}
use Rattle.std.proofs.Common.{ap, sym, ◌∙◌, arith}
use Rattle.std.proofs.lemmas.Bool.{eqb-true, eq-eqb, cases_Bool, cases_lt, both_ways}
use Rattle.std.proofs.lemmas.Option.{same_Some}
use Rattle.std.specs.Map.{update}
use Rattle.rgo_machine.specs.Machines.{Machine, State}
use Rattle.rgo_interpreter.specs.Meetings.{receiver_at, FindsReceivers}

pub none_yet : {F : Type 0} (machine : Machine F) (s : State F) (found : ℕ → Option ℕ) → ((channel : ℕ)
    → found channel ≡ None) → FindsReceivers machine s 0 found
none_yet machine s found none = record {
  sound = λ channel receiver is. absurd (different receiver (sym (none channel) ∙ is));
  complete = λ channel receiver lt is not. absurd (omega (arith, lt));
} where
  different : (r : ℕ) → None ≡ Some r → ⊥
  different r e = cc

module _ {F : Type 0} (machine : Machine F) (s : State F) (i : ℕ) (found : ℕ → Option ℕ)
    (so_far : FindsReceivers machine s i found) where
  -- one more goroutine, which receives nowhere
  pub passed : receiver_at machine s i ≡ None → FindsReceivers machine s (i + 1) found
  passed nowhere = record {
    sound = so_far.sound;
    complete = λ channel receiver lt is not. by_order channel receiver lt is not (cases_lt receiver i);
  } where
    by_order : (channel receiver : ℕ) → receiver < i + 1 → receiver_at machine s receiver ≡ Some channel
        → found channel ≡ None
        → (receiver < i) ⊎ (i ≤ receiver) → ⊥
    by_order channel receiver lt is not (inl before) = so_far.complete channel receiver before is not
    by_order channel receiver lt is not (inr behind) =
        let same : receiver ≡ i = omega (arith, lt, behind) in
        let here : None ≡ Some channel = sym nowhere ∙ ap (λ g. receiver_at machine s g) (sym same) ∙ is in
        cc

  module _ (channel : ℕ) (after : ℕ → Option ℕ) (here : receiver_at machine s i ≡ Some channel)
      (updates : (q : ℕ) → after q ≡ update nat_eq found channel (Some i) q) where
    at_channel : (q : ℕ) → nat_eq channel q ≡ true → after q ≡ Some i
    at_channel q same = updates q ∙ ap (λ b. cond b (Some i) (found q)) same

    elsewhere : (q : ℕ) → nat_eq channel q ≡ false → after q ≡ found q
    elsewhere q other = updates q ∙ ap (λ b. cond b (Some i) (found q)) other

    sound_at : (q receiver : ℕ) → after q ≡ Some receiver → (nat_eq channel q ≡ true) ⊎ (nat_eq channel q ≡ false)
        → receiver_at machine s receiver ≡ Some q
    sound_at q receiver is (inl same) =
        let mine : i ≡ receiver = same_Some i receiver (sym (at_channel q same) ∙ is) in
        ap (λ g. receiver_at machine s g) (sym mine) ∙ here ∙ ap Some (eqb-true channel q same)
    sound_at q receiver is (inr other) = so_far.sound q receiver (sym (elsewhere q other) ∙ is)

    complete_at : (q receiver : ℕ) → receiver < i + 1 → receiver_at machine s receiver ≡ Some q → after q ≡ None
        → (nat_eq channel q ≡ true) ⊎ (nat_eq channel q ≡ false) → (receiver < i) ⊎ (i ≤ receiver) → ⊥
    complete_at q receiver lt is not (inl same) order =
        let there : None ≡ Some i = sym not ∙ at_channel q same in
        cc
    complete_at q receiver lt is not (inr other) (inl before) =
        so_far.complete q receiver before is (sym (elsewhere q other) ∙ not)
    complete_at q receiver lt is not (inr other) (inr behind) =
        let mine : receiver ≡ i = omega (arith, lt, behind) in
        let same : channel ≡ q = same_Some channel q (sym here ∙ ap (λ g. receiver_at machine s g) (sym mine) ∙ is) in
        both_ways (nat_eq channel q) other (eq-eqb channel q same)

    -- one more, which receives at this channel
    pub marked : FindsReceivers machine s (i + 1) after
    marked = record {
      sound = λ q receiver is. sound_at q receiver is (cases_Bool (nat_eq channel q));
      complete = λ q receiver lt is not.
          complete_at q receiver lt is not (cases_Bool (nat_eq channel q)) (cases_lt receiver i);
    }
