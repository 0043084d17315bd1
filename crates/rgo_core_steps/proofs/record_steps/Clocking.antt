-- Accesses to the clock, by the functions of the record alone. An end has a case for each cause that a record can show.
use Rattle.std.proofs.Common.{◌≡◌, ℕ, ◌+◌, ◌%◌, ◌^◌, bit_or, unwrap_or, Option, Some, ap, subst, sym, ◌∙◌}
use Rattle.rgo_core.specs.Frames.steps.Local.{local}
use Rattle.rgo_core.specs.Frames.Records.{FramesRec as FrameRec}
use Rattle.rgo_core.specs.Memory.Words.{clock_at}
use Rattle.rgo_sound.specs.Machine.declared.picks.End.TheVariants as the_end
use Rattle.rgo_sound.specs.Memory.declared.traps.Trap.{Trap}
use Rattle.rgo_sound.specs.RegionMachine.States.{Ended, Mark}
use Rattle.rgo_core.specs.Core.{Setup}
use Rattle.rgo_core.specs.Records.{Record, instructed, with_end}
use Rattle.rgo_core.specs.Steps.{Moves}
use Rattle.rgo_core.specs.moves.ChannelTraps.{trapped_record}
use Rattle.rgo_core.proofs.accesses.ElementTraps.{at_trap_move, put_trap_move}
use Rattle.rgo_core.proofs.clock.Ending.{calls_move, full_move, stop_move}
use Rattle.rgo_core.proofs.steps.Local.{exit_move}
use Rattle.rgo_core.proofs.clock.OperandTraps.{divide_trap_move, load_trap_move, size_trap_move, store_trap_move}
use Rattle.rgo_core.proofs.clock.Printing.{print_move}
use Rattle.rgo_core.proofs.channel_steps.TrapMoves.{close_nil_move, close_trap_move, send_trap_move, stranded_move}
use Rattle.rgo_core_steps.specs.After.{next_place, printing}
use Rattle.rgo_core_steps.specs.Ends.{Closes, ClosesNil, Divides, GoroutineEndsRun, Exits, HasBadSize, IsFull, IsTooDeep, Loads, LoadsNil, Meets, Offers, Sends, Stores, StoresNil, Trapped, InstrTraps, WantsMemory, ending}
use Rattle.rgo_core_steps.specs.Prints.{IsAtPrint}
use Rattle.rgo_core_steps.proofs.record_steps.After.{place_by, place_is, printing_is}
use Rattle.rgo_core_steps.proofs.accesses.Telling.{tells_more}

pub ticket_moves : (T : Setup) (g : ℕ) (c : Record) → IsAtPrint T c
    → Moves T g c clock_at (λ n. (n + 1) % 2 ^ 64) (λ n d. d ≡ printing T.code c n)
ticket_moves T g c p =
    tells_more T g c clock_at (λ n. (n + 1) % 2 ^ 64) (λ n d e. e ∙ sym (printing_is T p.here n))
    (print_move T g c p.pieces p.from p.removes p.here p.rests p.few)

-- ---- ends

module _ (T : Setup) (g : ℕ) (c : Record) where
  -- the end mark is set, after which the record is this by the clock found
  abbrev Marks : (ℕ → Record) → Type 0
  Marks after = Moves T g c clock_at (λ n. bit_or n (2 ^ 63)) (λ n d. d ≡ after n)

  marks_as : (after other : ℕ → Record) → ((n : ℕ) → after n ≡ other n) → Marks after → Marks other
  marks_as after other same = tells_more T g c clock_at (λ n. bit_or n (2 ^ 63)) (λ n d e. e ∙ same n)

  traps_at : (trap : Trap) (place : ℕ) → next_place T.code c ≡ place → Marks (λ n. trapped_record c n trap place)
      → Marks (λ n. trapped_record c n trap (next_place T.code c))
  traps_at trap place is = marks_as _ _ (λ n. ap (trapped_record c n trap) (sym is))

  trap_moves : (trap : Trap) → InstrTraps T c trap → Marks (λ n. trapped_record c n trap (next_place T.code c))
  trap_moves trap (Sends to sent at a saw is) =
      subst (λ (t : Trap). Marks (λ n. trapped_record c n t (next_place T.code c))) (sym is)
      (traps_at _ a.here.instr.place (place_is a.here) (send_trap_move T g c to sent at a saw))
  trap_moves trap (Offers at a saw is) =
      subst (λ (t : Trap). Marks (λ n. trapped_record c n t (next_place T.code c))) (sym is)
      (traps_at _ a.instr.place (place_by T.code c a.w a.ws a.instr a.frames a.cur) (stranded_move T g c at a saw))
  trap_moves trap (Closes to at a saw is) =
      subst (λ (t : Trap). Marks (λ n. trapped_record c n t (next_place T.code c))) (sym is)
      (traps_at _ a.here.instr.place (place_is a.here) (close_trap_move T g c to at a saw))
  trap_moves trap (ClosesNil to channel removes a nil is) =
      subst (λ (t : Trap). Marks (λ n. trapped_record c n t (next_place T.code c))) (sym is)
      (traps_at _ a.instr.place (place_is a) (close_nil_move T g c to channel removes a nil))
  trap_moves trap (Loads d p q removes a rests none is) =
      subst (λ (t : Trap). Marks (λ n. trapped_record c n t (next_place T.code c))) (sym is)
      (traps_at _ a.instr.place (place_is a) (at_trap_move T g c d p q removes a rests none))
  trap_moves trap (Stores p q r removes a rests none is) =
      subst (λ (t : Trap). Marks (λ n. trapped_record c n t (next_place T.code c))) (sym is)
      (traps_at _ a.instr.place (place_is a) (put_trap_move T g c p q r removes a rests none))
  trap_moves trap (LoadsNil d k p removes a rests nil is) =
      subst (λ (t : Trap). Marks (λ n. trapped_record c n t (next_place T.code c))) (sym is)
      (traps_at _ a.instr.place (place_is a) (load_trap_move T g c d k p removes a rests nil))
  trap_moves trap (StoresNil k p q removes a rests nil is) =
      subst (λ (t : Trap). Marks (λ n. trapped_record c n t (next_place T.code c))) (sym is)
      (traps_at _ a.instr.place (place_is a) (store_trap_move T g c k p q removes a rests nil))
  trap_moves trap (Divides op d p q removes a divides rests zero is) =
      subst (λ (t : Trap). Marks (λ n. trapped_record c n t (next_place T.code c))) (sym is)
      (traps_at _ a.instr.place (place_is a) (divide_trap_move T g c op d p q removes a divides rests zero))
  trap_moves trap (HasBadSize act d p removes a makes rests big is) =
      subst (λ (t : Trap). Marks (λ n. trapped_record c n t (next_place T.code c))) (sym is)
      (traps_at _ a.instr.place (place_is a) (size_trap_move T g c act d p removes a makes rests big))

  exits_as : (e : FrameRec) (n : ℕ) → local T.code c.frame ≡ Some e
      → record c { clock = with_end (instructed c.clock) n (Ended the_end.Exit); frame = e } ≡ ending T.code c n (Ended the_end.Exit)
  exits_as e n is =
      ap (λ (o : Option FrameRec). record c { clock = with_end (instructed c.clock) n (Ended the_end.Exit); frame = unwrap_or o c.frame }) (sym is)

  pub end_moves : (mark : Mark) → GoroutineEndsRun T g c mark → Marks (λ n. ending T.code c n mark)
  end_moves mark (Exits e rests none loc exits is) =
      subst (λ (m : Mark). Marks (λ n. ending T.code c n m)) (sym is)
      (marks_as _ _ (λ n. exits_as e n loc) (exit_move T g c e rests none loc exits))
  end_moves mark (Trapped trap traps is) =
      subst (λ (m : Mark). Marks (λ n. ending T.code c n m)) (sym is) (trap_moves trap traps)
  end_moves mark (IsTooDeep to f callee from passes protects removes a calls deep is) =
      subst (λ (m : Mark). Marks (λ n. ending T.code c n m)) (sym is) (calls_move T g c to f callee from passes protects removes a calls deep)
  end_moves mark (IsFull f callee from passes removes a calls refused is) =
      subst (λ (m : Mark). Marks (λ n. ending T.code c n m)) (sym is) (full_move T g c f callee from passes removes a calls refused)
  end_moves mark (WantsMemory is) =
      subst (λ (m : Mark). Marks (λ n. ending T.code c n m)) (sym is) (stop_move T g c _ (λ x. tt))
  end_moves mark (Meets why stops is) =
      subst (λ (m : Mark). Marks (λ n. ending T.code c n m)) (sym is) (stop_move T g c why stops)
