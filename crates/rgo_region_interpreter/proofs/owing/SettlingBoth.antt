-- What two goroutines owe after an instruction of both, or after one has started the other, is done: first by one and then by the
-- other. In between the second one still owes what it owed, since a step with a region leaves the others alone.
use Rattle.std.proofs.Common.{◌≡◌, ℕ, ◌≤◌, ◌<◌, false, List, ◌++◌, map, drop, length, Some}
use Rattle.std.proofs.Common.{sym, ap, ◌∙◌, subst, arith, nat_eq, slice_get}
use Rattle.rgo_code.specs.Code.{Code}
use Rattle.rgo_region_machine.specs.Owed.{next_duties}
use Rattle.rgo_region_machine.specs.Room.{roomy_step}
use Rattle.rgo_region_machine.specs.States as spec
use Rattle.rgo_region_machine.specs.States.{Duty, RegionState, Remove, frames_of}
use Rattle.rgo_tac.specs.Tac.{TacState}
use Rattle.rgo_region_interpreter.specs.declared.holders.Holder.{Holder}
use Rattle.rgo_region_interpreter.specs.declared.worlds.World.{World}
use Rattle.rgo_region_interpreter.specs.Worlds.{OwesNext, next_creates}
use Rattle.rgo_region_interpreter.specs.Works.{Attended, WorldAttends, BothWork, KeepsOthers, OthersOwe, SameRun, WorldSettled, Works}
use Rattle.rgo_region_interpreter.specs.Works.{done_in, done_of}
use Rattle.rgo_region_interpreter.proofs.owing.Attending.{leads_append, only_append, same_then}
use Rattle.rgo_region_interpreter.proofs.holding.OneHolder.{the_same}
use Rattle.rgo_region_interpreter.proofs.stepping.Taking.{leads_on, settled}
use Rattle.rgo_sound.proofs.Tests.{eq_of, split}

-- a goroutine owes what it owed, if its frames are the same
pub owes_on : (code now : Code) (s t : RegionState) (k : ℕ) (c : Holder) (h : spec.Holder) → now ≡ code
    → frames_of t.plain k ≡ frames_of s.plain k → OwesNext code s k c h → OwesNext now t k c h
owes_on code now s t k c h same frames was = record {
  left = was.left ∙ (λ i. drop c.done (next_duties (sym same i) (sym frames i)));
  within = subst (λ (n : ℕ). c.done ≤ n) (λ i. length (next_duties (sym same i) (sym frames i))) was.within;
  together = λ l. was.together
      (subst (λ (n : ℕ). n < c.done) (λ i. length (next_creates (same i) (frames i))) l);
}

-- it owes all that comes before its next instruction, if none of that is done
pub owes_all : (code : Code) (t : RegionState) (k : ℕ) (c : Holder) (h : spec.Holder) → c.done ≡ 0
    → h.duties ≡ next_duties code (frames_of t.plain k) → OwesNext code t k c h
owes_all code t k c h none owed = record {
  left = owed ∙ all c.done none (next_duties code (frames_of t.plain k));
  within = omega (arith, none);
  together = λ l. absurd (omega (arith, none, l));
}
  where
    all : (n : ℕ) → n ≡ 0 → (ds : List Duty) → ds ≡ drop n ds
    all n z ds = sym (ap (λ m. drop m ds) z)

-- first goroutine g has done its part, and then goroutine j
pub settled_both : (w u x y v : World) (s : RegionState) (g : ℕ) (removes : List ℕ) (j : ℕ) (others : List ℕ)
    → (b : BothWork w s g removes j others) → SameRun w u → KeepsOthers w u g
    → (a : Attended u x s g (next_duties w.code.now (frames_of s.plain g))) → done_of x g ≡ 0
    → SameRun x y → KeepsOthers x y j
    → ((t : RegionState) (duties : List Duty) → Works x t j duties → Works y t j duties)
    → ((rest : List Duty) → WorldAttends y v j (map Remove others ++ rest) rest) → done_of v j ≡ 0 → WorldSettled w v s
settled_both w u x y v s g removes j others b same kept a none same_j kept_j owe removed none_j = record {
  events = a.events ++ z.events;
  only_regions = only_append a.events z.events a.only_regions z.only_regions;
  state = z.state;
  leads = leads_append (roomy_step w.code.now w.sizes) a.events z.events s a.state z.state
      (leads_on w u s a.state a.events same a.leads) (leads_on w x a.state z.state z.events same_x z.leads);
  between = z.between;
  plain = z.plain ∙ a.plain;
  same = same_then w x v same_x z.same;
}
  where
    same_x : SameRun w x
    same_x = same_then w u x same a.same

    frames : (k : ℕ) → frames_of a.state.plain k ≡ frames_of s.plain k
    frames k = ap (λ (p : TacState). frames_of p k) a.plain

    -- what j owes is as it was
    works_j : Works x a.state j (map Remove others ++ next_duties x.code.now (frames_of a.state.plain j))
    works_j = record {
      prepared = a.works.prepared;
      good = a.works.good;
      orderly = a.works.orderly;
      shown = a.works.shown;
      running = a.works.running;
      holder = b.other;
      is_holder = a.others j b.apart ∙ b.is_other;
      owed = b.other_owes
          ∙ (λ i. map Remove others ++ next_duties (sym same_x.code i) (sym (frames j) i));
    }

    rest : OthersOwe x a.state j
    rest k c h n e f = split (nat_eq g k)
        (λ q. own k c h (eq_of g k q) e f)
        (λ q. owes_on w.code.now x.code.now s a.state k c h same_x.code (frames k)
        (b.rest k c h (apart k q) n (sym (kept k (apart k q)) ∙ sym (a.kept k (apart k q)) ∙ e)
        (sym (a.others k (apart k q)) ∙ f)))
      where
        apart : (k : ℕ) → nat_eq g k ≡ false → k ≡ g → ⊥
        apart k q e = differ k g q e
          where
            differ : (a b : ℕ) → nat_eq b a ≡ false → a ≡ b → ⊥
            differ a b f e = grind arith

        own : (k : ℕ) (c : Holder) (h : spec.Holder) → g ≡ k → slice_get x.holders.items k ≡ Some c
            → slice_get a.state.holders k ≡ Some h → OwesNext x.code.now a.state k c h
        own k c h q e f = owes_all x.code.now a.state k c h
            (sym (ap done_in (ap (slice_get x.holders.items) q ∙ e)) ∙ none)
            (ap (λ (h : spec.Holder). h.duties)
            (the_same h a.works.holder (sym f ∙ ap (slice_get a.state.holders) (sym q) ∙ a.works.is_holder))
            ∙ a.works.owed
            ∙ (λ i. next_duties (sym same_x.code i) (sym (frames g) i))
            ∙ ap (λ k. next_duties x.code.now (frames_of a.state.plain k)) q)

    z : WorldSettled x v a.state
    z = settled x y v a.state j same_j kept_j rest
        (removed (next_duties x.code.now (frames_of a.state.plain j)) a.state (owe a.state _ works_j)) none_j
