-- Records that may access a channel, and some that may not.
use Rattle.std.proofs.Common.{◌≡◌, ◌<◌, ◌≢◌, ℕ, zero, suc, ◌+◌, ◌%◌, true, List, [], ◌∷◌, None, Option, Some, refl, inl, inr, ⊎_elim, ap, subst, sym, ◌∙◌, arith}
use Rattle.std.proofs.lemmas.Bool.{false≢true}
use Rattle.rgo_sound.specs.Code.Code.{Do}
use Rattle.rgo_core.specs.Channels.Controls.{count_of, extent, head_of, spreads}
use Rattle.rgo_core.specs.Channels.Records.{Free, Hold, Locked, Offering, Reached, Sized, Unreached, Wrote}
use Rattle.rgo_core.specs.Channels.Standing.{IsOfChannel}
use Rattle.rgo_sound.specs.Machine.declared.limits.Limits.{Limits}
use Rattle.rgo_sound.specs.Machine.declared.limits.Sizes.{Sizes}
use Rattle.rgo_sound.specs.RegionMachine.Examples.{int_slot, main_of, plain_instr}
use Rattle.rgo_sound.specs.Typed.declared.actions.Action.{Action}
use Rattle.rgo_sound.specs.Typed.declared.actions.Action.TheVariants.{Close, Recv, Send}
use Rattle.rgo_core.specs.ties.AtChannels.{Operates}
use Rattle.rgo_core_steps.specs.ChannelExamples.{ChannelAccessExamples, at_work, control_in, the_send}
use Rattle.rgo_core_steps.specs.MemoryExamples.{doing_setup}

apart : (a b : ℕ) → a ≡ b → a < b → ⊥
apart a b e h = omega arith

size_is : (at n size : ℕ) → Sized at n ≡ Sized at size → n ≡ size
size_is at n size e = cc

two_is : (at size : ℕ) → Sized at 2 ≡ Sized at size → 2 ≡ size
two_is at size e = size_is at 2 size e

-- the instruction operates on the channel with address 5, whatever the goroutine has of it
abbrev operates : (to : Option ℕ) (action : Action) (others : List ℕ) (sizes : Sizes) (limits : Limits) (hold : Hold) (capacity : ℕ) → IsOfChannel action
    → (let T = doing_setup (Do to action (0 ∷ others) []) sizes limits in
    Operates T (at_work (control_in T) hold capacity) to action others (control_in T))
operates to action others sizes limits hold capacity of_channel = record {
  channel = 0;
  removes = [];
  here = record {
    w = record { function = 0; next = 0; variables = 6 ∷ 3 ∷ [] };
    ws = [];
    frames = refl;
    fn = main_of (int_slot ∷ int_slot ∷ []) (plain_instr (Do to action (0 ∷ others) []) ∷ []);
    in_fn = refl;
    instr = plain_instr (Do to action (0 ∷ others) []);
    cur = refl;
    is = refl;
    none = refl;
    free = refl;
  };
  of_channel = of_channel;
  address = 5;
  points = refl;
  lies = refl;
}

pub channel_examples : ChannelAccessExamples
channel_examples = record {
  loads = λ limits. record { n = 8; size = 2; locked = refl; sized = refl; within = omega arith; is_there = inl (refl, refl) };
  no_third = λ T word k. no_cell (subst (λ s. 2 < extent s) (sym (two_is 700 k.size k.sized)) k.within);
  unlocked = λ T word k. free 700 k.n k.locked;
  misplaced = λ T k. ⊎_elim (λ t. apart 702 703 t.1 (omega arith)) (λ e. nowhere 700 1 702 e) k.is_there;
  stores = λ limits. record {
    n = 4;
    size = 2;
    locked = refl;
    sized = refl;
    spare = (omega arith, one_only, λ none one. apart 0 2 (sym none) (omega arith));
    is_there = inl (refl, refl);
  };
  used = λ T word k. first_used k.n k.size (found_is 700 k.n k.locked) (two_is 700 k.size k.sized) (k.spare.1 0);
  reaches = λ limits. record { size = 9; sized = refl; spread = refl; within = omega arith };
  no_page = λ limits cell k. false≢true (subst (λ s. spreads 8 s ≡ true) (sym (two_is 700 k.size k.sized)) k.spread);
  no_tenth = λ T k. no_cell_after (subst (λ s. 9 < extent s) (sym (size_is 700 9 k.size k.sized)) k.within);
  shows = λ limits. record { is = refl; some = omega arith; inside = omega arith };
  no_number = λ T c at cell d k. let s : 0 < 0 = k.some in omega (arith, s);
  no_such_page = λ limits c at cell d k. let s = k.inside in omega (arith, s);
  loads_apart = λ limits word. record { n = 4; size = 9; locked = refl; sized = refl; within = omega arith; is_there = inr refl };
  unreached = λ limits word k. ⊎_elim
      (λ t. false≢true (sym t.0 ∙ ap (λ s. spreads 8 s) (sym (size_is 700 9 k.size k.sized)))) (λ e. nowhere 700 8 word e) k.is_there;
  sends = λ sizes limits. record {
    to = None;
    sent = 1;
    cell = 1;
    size = 2;
    here = operates None Send (1 ∷ []) sizes limits _ 2 (inr (inl refl));
    wrote = refl;
    sized = refl;
    is_open = refl;
    room = omega arith;
    first = refl;
  };
  elsewhere = λ T at k. apart 0 1
      (cell_is at 4 0 3 k.cell _ k.wrote ∙ k.first ∙ ap (λ s. (0 + 1) % s) (sym (two_is at k.size k.sized))) (omega arith);
  full = λ T at k. let s = two_is at k.size k.sized in let r : 2 < k.size = k.room in omega (arith, s, r);
  receives = λ sizes limits. record {
    to = Some 1;
    cell = 0;
    value = 9;
    here = operates (Some 1) Recv [] sizes limits _ 2 (inl refl);
    read = refl;
    sized = refl;
    some = omega arith;
    buffer = omega arith;
    oldest = refl;
  };
  empty = λ T c at size k. let s : 0 < 0 = k.some in omega (arith, s);
  receives_zero = λ sizes limits. record {
    to = Some 1;
    size = 2;
    here = operates (Some 1) Recv [] sizes limits _ 2 (inl refl);
    locked = refl;
    sized = refl;
    closed = refl;
    none = inr refl;
  };
  still_open = λ T c at k. apart 0 1 k.closed (omega arith);
  left = λ T at k. let s = two_is at k.size k.sized in ⊎_elim (λ e. omega (arith, s, e)) (λ e. apart 0 1 (sym e) (omega arith)) k.none;
  closes = λ sizes limits. record {
    to = None;
    here = operates None Close [] sizes limits _ 2 (inr (inr refl));
    locked = refl;
    is_open = refl;
  };
  closed = λ T c at k. apart 0 1 (sym k.is_open) (omega arith);
  offers = λ sizes limits. record {
    to = None;
    sent = 1;
    here = operates None Send (1 ∷ []) sizes limits _ 0 (inr (inl refl));
    wrote = refl;
    sized = refl;
    is_open = refl;
    none = refl;
  };
  occupied = λ T c at k. apart 0 1 (sym k.none) (omega arith);
  buffered = λ T at k. apart 0 2 (sym (two_is at 0 k.sized)) (omega arith);
  meets = λ sizes limits. record {
    to = Some 1;
    value = 9;
    here = operates (Some 1) Recv [] sizes limits _ 0 (inl refl);
    read = refl;
    sized = refl;
    is_open = refl;
    offered = refl;
  };
  gone = λ T c at k. apart 1 2 (sym k.offered) (omega arith);
  acknowledges = λ sizes limits at. record {
    here = record {
      w = record { function = 0; next = 0; variables = 6 ∷ 3 ∷ [] };
      ws = [];
      frames = refl;
      instr = plain_instr the_send;
      cur = refl;
      to = None;
      from = 0 ∷ 1 ∷ [];
      removes = [];
      is = refl;
    };
    own = refl;
    locked = refl;
    taken = refl;
  };
  not_taken = λ T c at k. apart 1 2 k.taken (omega arith);
  another = λ T k. apart 700 701 (offer_is 700 701 k.own) (omega arith);
}
  where
    no_cell : 2 < extent 2 → ⊥
    no_cell l = omega (arith, l)

    no_cell_after : 9 < extent 9 → ⊥
    no_cell_after l = omega (arith, l)

    nowhere : (at cell word : ℕ) → Unreached ≡ Reached at cell word → ⊥
    nowhere at cell word e = cc e

    one_only : (j : ℕ) → j < 1 → 0 < 2 → (0 + j) % 2 ≢ 1
    one_only zero l s e = apart 0 1 e (omega arith)
    one_only (suc j) l s e = omega (arith, l)

    first_used : (n size : ℕ) → 4 ≡ n → 2 ≡ size → (0 < count_of n → 0 < size → (head_of n + 0) % size ≢ 0) → ⊥
    first_used n size e f h =
        let g = subst (λ m. 0 < count_of m → 0 < size → (head_of m + 0) % size ≢ 0) (sym e) h in
        let k = subst (λ s. 0 < count_of 4 → 0 < s → (head_of 4 + 0) % s ≢ 0) (sym f) g in
        k (omega arith) (omega arith) refl

    cell_is : (at n i x j y : ℕ) → Wrote at n i x ≡ Wrote at n j y → i ≡ j
    cell_is at n i x j y e = cc

    free : (at n : ℕ) → Free ≡ Locked at n → ⊥
    free at n e = cc

    found_is : (at n : ℕ) → Locked at 4 ≡ Locked at n → 4 ≡ n
    found_is at n e = cc

    offer_is : (at other : ℕ) → Offering at ≡ Offering other → at ≡ other
    offer_is at other e = cc
