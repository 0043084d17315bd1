-- The examples, by computation.
use Rattle.std.proofs.Common.{inl, None, ◌≡◌, ◌≢◌, ℕ, zero, suc, [], ◌∷◌, Some, refl, ap, sym, ◌∙◌, inr, arith}
use mathlib.Core.Option.{some, some-injective, some-ne-none}
use lib.ListN.{get_elem?}
use Rattle.rgo_chan.specs.Answers.{loads_capacity, loads_control}
use Rattle.rgo_chan.specs.Examples.{before_a_send}
use Rattle.rgo_chan.proofs.Carrying.{sends_at}
use Rattle.rgo_chan.proofs.Examples.{answer_examples, ready_examples}
use Rattle.rgo_core.specs.examples.Channels.{offered_record}
use Rattle.rgo_core.specs.Core.{Setup}
use Rattle.rgo_core.specs.Records.{Record}
use Rattle.rgo_core.specs.Rule.declared.accesses.Access.{Access}
use Rattle.rgo_core.specs.Rule.declared.accesses.Kind.{Kind}
use Rattle.rgo_core.specs.Rule.declared.accesses.Kind.TheVariants.{LoadControl, LockChannel}
use Rattle.rgo_core_steps.specs.Grown.{Found}
use Rattle.rgo_sound.specs.Typed.declared.actions.Action.TheVariants.{Send}
use Rattle.rgo_acts.specs.WaitExamples.{WaitExamples, place}
use Rattle.rgo_acts.specs.Waits.{HasChanged, IsLocked, Loses, Offers, Receives, ReceivesOnNil, Sends, SendsOnNil, WaitsAtChannel}

-- the only access that was made is the one that found it
found_one : (x : Access) (kind : Kind) (i n : ℕ) → Found 0 (x ∷ []) kind i n → (x.kind ≡ kind) × (x.found ≡ n)
found_one x kind i n f = by f.place f.there
  where
    by : (j : ℕ) → get_elem? (x ∷ []) j ≡ some f.access → (x.kind ≡ kind) × (x.found ≡ n)
    by zero e = (
      ap (λ (y : Access). y.kind) (some-injective x f.access e) ∙ f.of_kind,
      ap (λ (y : Access). y.found) (some-injective x f.access e) ∙ f.found,
    )
    by (suc j) e = absurd (some-ne-none f.access (sym e))

found_none : (kind : Kind) (i n : ℕ) → Found 0 [] kind i n → ⊥
found_none kind i n f = some-ne-none f.access (sym f.there)

unseen : (T : Setup) (c : Record) (at : ℕ) → WaitsAtChannel T 0 c [] (Some at) → ⊥
unseen T c at (Sends k value size n is here size_is control_is full) = found_none LoadControl k n control_is
unseen T c at (Receives k size n is here size_is control_is empty) = found_none LoadControl k n control_is
unseen T c at (SendsOnNil value is before) = absurd (cc is)
unseen T c at (ReceivesOnNil is before) = absurd (cc is)
unseen T c at (Offers k n is own control_is shut one) = found_none LoadControl k n control_is

unlocked : (T : Setup) → Loses T 0 offered_record (loads_control 700 4 0 ∷ []) 700 → ⊥
unlocked T (IsLocked n here control_is odd) =
    let f = (found_one (loads_control 700 4 0) LoadControl 700 n control_is).1 in
    omega (arith, f, odd)
unlocked T (HasChanged n k here control_is lock other) =
    let f = (found_one (loads_control 700 4 0) LockChannel 700 k lock).0 in
    absurd (cc f)

pub wait_examples : WaitExamples
wait_examples = record {
  full = λ sizes limits.
      Sends (place sizes limits) 3 2 8 refl (sends_at refl (six 6 refl) (answer_examples.sends sizes limits))
      (record { place = 0; access = loads_capacity (place sizes limits) 2 0; there = refl; own = refl; of_kind = refl; word = refl; found = refl })
      (record { place = 1; access = loads_control (place sizes limits) 8 0; there = refl; own = refl; of_kind = refl; word = refl; found = refl })
      ready_examples.full;
  send_on_nil = λ sizes limits. SendsOnNil 3 refl (answer_examples.sends_on_nil sizes limits);
  unseen = unseen;
  locked = λ T. IsLocked 5 (inr refl)
      (record { place = 0; access = loads_control 700 5 0; there = refl; own = refl; of_kind = refl; word = refl; found = refl }) refl;
  unlocked = unlocked;
  offering = λ r a next at e can. can.none at e;
  trap = record { send = λ e. refl; close = λ e. absurd (omega (arith, e)) };
  no_trap = λ n. absurd (let e = n.send refl in cc e);
  receive = λ at p. p;
  close = λ at p. p;
  talk = (None, Send, 0 ∷ 1 ∷ [], inr (inl refl), refl);
  no_talk = λ t. absurd (let e = t.4 in cc e);
}
  where
    six : (n : ℕ) → n ≡ 6 → n ≢ 0
    six n is e = omega (arith, is, e)
