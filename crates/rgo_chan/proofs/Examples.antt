-- The examples, by computation.
use Rattle.std.proofs.Common.{◌≡◌, ◌<◌, ◌+◌, ℕ, List, [], ◌∷◌, ◌++◌, Option, None, length, refl, ap, sym, subst, ◌∙◌, inl, inr, ⊎_elim, arith}
use Rattle.std.proofs.lemmas.Option.{same_Some}
use Rattle.rgo_sound.specs.Code.Code.{CodeInstr, CodeOp, Do}
use Rattle.rgo_core.specs.examples.Channels.{sending}
use Rattle.rgo_core.specs.Core.{Setup, layout}
use Rattle.rgo_core.specs.Next.{IsAtOp}
use Rattle.rgo_core.specs.Records.{Record}
use Rattle.rgo_core.specs.Channels.Records.{ChannelRec as SideRec, at_rest, offering_record, with_look, with_own_look}
use Rattle.rgo_core.specs.Frames.shown.WordFrames.{WordFrame, bare, frame_word}
use Rattle.rgo_core.specs.Rule.declared.accesses.Access.{Access}
use Rattle.rgo_core_steps.specs.Calls.{Did, waited}
use Rattle.rgo_core_steps.specs.Grown.{own_by}
use Rattle.rgo_sound.specs.Machine.declared.limits.Limits.{Limits}
use Rattle.rgo_sound.specs.Machine.declared.limits.Sizes.{Sizes}
use Rattle.rgo_sound.specs.RegionMachine.Examples.{int_slot, main_of, plain_instr}
use Rattle.rgo_sound.specs.RegionMachine.Owed.{current}
use Rattle.rgo_sound.specs.Typed.declared.actions.Action.TheVariants.{Recv, Send}
use Rattle.rgo_chan.specs.Answers.{Acknowledges, Closes, Sends, cell_word, commits, free_cell, loads_capacity, loads_control, locks, looked, looks, reaches, stores_cell}
use Rattle.rgo_chan.specs.Before.{IsBeforeReceive, IsBeforeSend, SendsAt}
use Rattle.rgo_core.specs.Memory.Words.{base}
use Rattle.rgo_chan.specs.Ready.{IsClosed, IsBufferFull, IsOffered}
use Rattle.rgo_chan.specs.Examples.{AnswerExamples, ReadyExamples, before_a_send, first_seat, loaded_seat, looked_seat, on_nil, with_offer}
use Rattle.rgo_chan.specs.declared.answers.Tried.TheVariants.{Busy, Done, NotReady, Trap}

apart : (a b : ℕ) → a ≡ b → a < b → ⊥
apart a b e h = omega arith

pub ready_examples : ReadyExamples
ready_examples = record {
  unlocked = refl;
  locked = λ e. apart 0 1 (sym e) (omega arith);
  is_open = refl;
  not_open = λ e. apart 0 1 (sym e) (omega arith);
  closed = refl;
  room = (refl, omega arith);
  no_room = λ r. omega (arith, r.1);
  full = (refl, inl (omega arith, omega arith));
  not_full = λ f. ⊎_elim (λ t. omega (arith, t.1)) (λ t. apart 0 2 (sym t.0) (omega arith)) f.1;
  offered_before = (refl, inr (refl, omega arith));
  no_offer = (refl, refl, refl);
  an_offer = λ o. apart 0 1 (sym o.2) (omega arith);
  value = (omega arith, omega arith);
  no_value = λ v. omega (arith, v.1);
  offer = (refl, refl, refl);
  taken = λ o. apart 1 2 (sym o.2) (omega arith);
  drained = (refl, inr refl);
  not_drained = λ d. ⊎_elim (λ e. apart 0 2 (sym e) (omega arith)) (λ e. apart 0 1 (sym e) (omega arith)) d.1;
  empty = (refl, inl (omega arith, refl));
  nothing_to_take = (refl, inr (refl, λ e. apart 1 2 (sym e) (omega arith)));
  not_empty = λ x. ⊎_elim (λ t. omega (arith, t.0)) (λ t. t.1 refl) x.1;
  not_waiting = λ x. apart 0 1 (sym x.0) (omega arith);
}

-- ---- records

abbrev at_send : (sizes : Sizes) (limits : Limits) → IsBeforeSend (sending sizes limits) before_a_send 6 3
at_send sizes limits = record {
  to = None;
  from = 0;
  sent = 1;
  removes = [];
  here = record {
    w = record { function = 0; next = 0; variables = 6 ∷ 3 ∷ [] };
    ws = [];
    frames = refl;
    fn = main_of (int_slot ∷ int_slot ∷ []) (plain_instr (Do None Send (0 ∷ 1 ∷ []) []) ∷ []);
    in_fn = refl;
    instr = plain_instr (Do None Send (0 ∷ 1 ∷ []) []);
    cur = refl;
    is = refl;
    none = refl;
    free = refl;
  };
  on = refl;
  word = refl;
}

abbrev on_nil_send : (sizes : Sizes) (limits : Limits) → IsBeforeSend (sending sizes limits) on_nil 0 3
on_nil_send sizes limits = record {
  to = None;
  from = 0;
  sent = 1;
  removes = [];
  here = record {
    w = record { function = 0; next = 0; variables = 0 ∷ 3 ∷ [] };
    ws = [];
    frames = refl;
    fn = main_of (int_slot ∷ int_slot ∷ []) (plain_instr (Do None Send (0 ∷ 1 ∷ []) []) ∷ []);
    in_fn = refl;
    instr = plain_instr (Do None Send (0 ∷ 1 ∷ []) []);
    cur = refl;
    is = refl;
    none = refl;
    free = refl;
  };
  on = refl;
  word = refl;
}

there : (sizes : Sizes) (limits : Limits) → SendsAt (sending sizes limits) before_a_send (base (layout (sending sizes limits)) + 5) 3
there sizes limits = record {
  to = None;
  sent = 1;
  here = record {
    channel = 0;
    removes = [];
    here = (at_send sizes limits).here;
    of_channel = inr (inl refl);
    address = 5;
    points = refl;
    lies = refl;
  };
  word = refl;
}

first_is : (v w : WordFrame) (vs ws : List WordFrame) → v ∷ vs ≡ w ∷ ws → v ≡ w
first_is v w vs ws e = cc

abbrev the_frame : WordFrame
the_frame = record { function = 0; next = 0; variables = 6 ∷ 3 ∷ [] }

abbrev the_send : CodeInstr
the_send = plain_instr (Do None Send (0 ∷ 1 ∷ []) [])

sent_is : (to : Option ℕ) (n x y : ℕ) (removes : List ℕ) → Do None Send (0 ∷ n ∷ []) [] ≡ Do to Send (x ∷ y ∷ []) removes → n ≡ y
sent_is to n x y removes e = cc

no_receive : (to : Option ℕ) (n : ℕ) (from removes : List ℕ) → Do None Send (0 ∷ n ∷ []) [] ≡ Do to Recv from removes → ⊥
no_receive to n from removes e = cc

module _ (sizes : Sizes) (limits : Limits) where
  the_instr : {op : CodeOp} (a : IsAtOp (sending sizes limits).code before_a_send op) → (the_frame ≡ a.w) × (the_send.op ≡ op)
  the_instr a =
      let w = first_is the_frame a.w [] a.ws a.frames in
      let i = same_Some the_send a.instr (ap (λ (f : WordFrame). current (sending sizes limits).code (bare f)) w ∙ a.cur) in
      (w, ap (λ (j : CodeInstr). j.op) i ∙ a.is)

  another : IsBeforeSend (sending sizes limits) before_a_send 6 4 → ⊥
  another a =
      let t = the_instr a.here in
      let sent = sent_is a.to 1 a.from a.sent a.removes t.1 in
      apart 3 4 ((λ j. frame_word (t.0 j) (sent j)) ∙ a.word) (omega arith)

  receive_not : IsBeforeReceive (sending sizes limits) before_a_send 6 → ⊥
  receive_not a = no_receive a.to 1 (a.from ∷ []) a.removes (the_instr a.here).1

-- ---- results

long : (a b c : Access) (es : List Access) → 7 ≡ 5 + length (a ∷ b ∷ c ∷ es) → ⊥
long a b c es e = omega (arith, e)

module _ (T : Setup) where
  -- the capacity 2 and this control were loaded, and both loads were counted
  did_look : (n : ℕ) → Did T (first_seat before_a_send) 5 (looks 700 2 n) (waited 2 before_a_send (looked 700 before_a_send.side 2 n)) (looked_seat before_a_send n) 7
  did_look n = record {
    made = record {
      es = looks 700 2 n 0;
      grew = record { alone = (refl, refl); same = refl; seen = refl; more = refl; counts = λ any. refl };
      own = refl;
      after = refl;
    };
    counted = refl;
  }

  uncounted : Sends T 700 before_a_send 3 NotReady (first_seat before_a_send) 5 (looked_seat before_a_send 8) 5 → ⊥
  uncounted a = apart 5 7 a.4.counted (omega arith)

  -- what was found is what the seat has seen
  found_is : (n size k : ℕ) (rest : List Access) (es : List Access) → looks 700 2 n 0 ≡ [] ++ es → own_by 0 es ≡ looks 700 size k 0 ++ rest
      → (2 ≡ size) × (n ≡ k)
  found_is n size k rest es seen own = (
    let e : looks 700 2 n 0 ≡ looks 700 size k 0 ++ rest = ap (own_by 0) seen ∙ own in
        let first : loads_capacity 700 2 0 ≡ loads_capacity 700 size 0 = cc in ap (λ (a : Access). a.found) first,
    let e : looks 700 2 n 0 ≡ looks 700 size k 0 ++ rest = ap (own_by 0) seen ∙ own in
        let second : loads_control 700 n 0 ≡ loads_control 700 k 0 = cc in ap (λ (a : Access). a.found) second,
  )

  ready : Sends T 700 before_a_send 3 NotReady (first_seat before_a_send) 5 (looked_seat before_a_send 4) 7 → ⊥
  ready a =
      let f = found_is 4 a.0 a.1 [] a.4.made.es a.4.made.grew.seen a.4.made.own in
      ready_examples.not_full (subst (λ n. IsBufferFull 2 n) (sym f.1) (subst (λ s. IsBufferFull s a.1) (sym f.0) a.3))

  found_another : Sends T 700 before_a_send 3 (Busy 11) (first_seat before_a_send) 5 (looked_seat before_a_send 9) 7 → ⊥
  found_another a = ⊎_elim
      (λ b. apart 9 11 (found_is 9 b.0 11 [] b.2.made.es b.2.made.grew.seen b.2.made.own).1 (omega arith))
      (λ b. apart 7 8 b.5.counted (omega arith))
      a

  not_done : Sends T 700 before_a_send 3 (Done 0) (first_seat before_a_send) 5 (looked_seat before_a_send 4) 7 → ⊥
  not_done a = long (loads_capacity 700 a.1 0) (loads_control 700 a.2 0) (locks 700 a.2 0)
      (reaches T 700 a.1 (free_cell a.1 a.2) a.3 0
      ++ stores_cell (cell_word T 700 a.1 (free_cell a.1 a.2) a.3) a.4 3 0 ∷ commits 700 a.5 (a.2 + 4) 0 ∷ []) a.8.counted

  -- this control was loaded, and the load was counted
  did_load : (old side : SideRec) (n : ℕ)
      → (let c : Record = record before_a_send { side = old } in
      Did T (first_seat c) 5 (λ g. loads_control 700 n g ∷ []) (waited 1 c side) (loaded_seat c side n) 6)
  did_load old side n = record {
    made = record {
      es = loads_control 700 n 0 ∷ [];
      grew = record { alone = (refl, refl); same = refl; seen = refl; more = refl; counts = λ any. refl };
      own = refl;
      after = refl;
    };
    counted = refl;
  }

  loaded_is : (n k : ℕ) (es : List Access) → loads_control 700 n 0 ∷ [] ≡ [] ++ es → own_by 0 es ≡ loads_control 700 k 0 ∷ [] → n ≡ k
  loaded_is n k es seen own =
      let e : loads_control 700 n 0 ∷ [] ≡ loads_control 700 k 0 ∷ [] = ap (own_by 0) seen ∙ own in
      let one : loads_control 700 n 0 ≡ loads_control 700 k 0 = cc in
      ap (λ (a : Access). a.found) one

  not_closed_before : Closes T 700 before_a_send (Trap 6) (first_seat before_a_send) 5 (loaded_seat before_a_send at_rest 4) 6 → ⊥
  not_closed_before a =
      let is = loaded_is 4 a.1 a.4.made.es a.4.made.grew.seen a.4.made.own in
      apart 0 1 (subst IsClosed (sym is) a.3) (omega arith)

  taken : Acknowledges T 700 with_offer NotReady (first_seat with_offer) 5 (loaded_seat with_offer (offering_record 700) 8) 6 → ⊥
  taken a =
      let is = loaded_is 8 a.0 a.4.made.es a.4.made.grew.seen a.4.made.own in
      apart 1 2 (sym (subst IsOffered (sym is) a.3)) (omega arith)

  not_stranded : Acknowledges T 700 with_offer (Trap 5) (first_seat with_offer) 5 (loaded_seat with_offer (offering_record 700) 4) 6 → ⊥
  not_stranded a =
      let is = loaded_is 4 a.1 a.5.made.es a.5.made.grew.seen a.5.made.own in
      apart 0 1 (subst IsClosed (sym is) a.3) (omega arith)

pub answer_examples : AnswerExamples
answer_examples = record {
  sends = at_send;
  sends_another = another;
  sends_on_nil = on_nil_send;
  receives = receive_not;
  sends_there = there;
  nil_lies = λ T base some. absurd (some refl);
  not_ready = λ T. (2, 8, refl, ready_examples.full, did_look T 8);
  uncounted = uncounted;
  ready = ready;
  not_done = not_done;
  busy = λ T. inl (2, refl, did_look T 9);
  found_another = found_another;
  no_trap = λ T e a. a;
  close_busy = λ T. inl (refl, did_load T at_rest at_rest 5);
  closed_before = λ T. (refl, 2, refl, refl, did_load T at_rest (with_look at_rest 700 2) 2);
  not_closed_before = not_closed_before;
  not_closed = λ T a. apart 6 8 a.5.counted (omega arith);
  no_wait = λ T m w s t a. a;
  not_taken = λ T. (4, refl, refl, refl, did_load T (offering_record 700) (offering_record 700) 4);
  taken = taken;
  stranded = λ T. (refl, 6, refl, refl, refl, did_load T (offering_record 700) (with_own_look (offering_record 700) 700 6) 6);
  not_stranded = not_stranded;
  not_acknowledged = λ T a. apart 6 8 a.5.counted (omega arith);
}
