-- A recorded run that has ended: from what is known of its world, the run of the region machine.
use Rattle.std.proofs.Common.{◌≡◌, ℕ, List, ◌++◌, refl, sym, ◌∙◌, subst}
use Rattle.rgo_machine.specs.declared.limits.Sizes.{Sizes}
use Rattle.rgo_machine.specs.declared.limits.Shortage.{Shortage}
use Rattle.rgo_tac.specs.Tac.{TacState}
use Rattle.rgo_code.specs.Code.{Code}
use Rattle.rgo_machine.specs.declared.ends.RunEnd.{RunEnd}
use Rattle.rgo_machine.specs.declared.ends.RunEnd.TheVariants as run_end
use Rattle.rgo_region_machine.specs.Room.{LacksIn}
use Rattle.rgo_sound.specs.RegionRuns.{RegionRun}
use Rattle.rgo_region_interpreter.specs.declared.worlds.World.{World}
use Rattle.rgo_region_interpreter.specs.Worlds.{WorldLacks, WorldReaches}
use Rattle.rgo_run.proofs.TextLemmas.{region_run_of}

-- what one run of the region machine shows: where it is, and why there was no room
pub record Ended (w : World) (before : List ℕ) (p : TacState) (end : RunEnd) : Type 0 where
  pub reaches : WorldReaches w before p
  pub lacks : (why : Shortage) → end ≡ run_end.NoRoom why → LacksIn w.code.now w.sizes why reaches.state

pub ended_so : (w : World) (before : List ℕ) (p : TacState) (end : RunEnd) → WorldReaches w before p
    → ((why : Shortage) → end ≡ run_end.NoRoom why → WorldLacks w why before p) → Ended w before p end
ended_so w before p (run_end.NoRoom why) left lacks =
    let l = lacks why refl in
    record { reaches = l.0.reaches; lacks = λ other is. subst (λ x. LacksIn w.code.now w.sizes x l.0.reaches.state) (same other is) l.1 }
  where
    same : (other : Shortage) → run_end.NoRoom why ≡ run_end.NoRoom other → why ≡ other
    same other is = cc
ended_so w before p run_end.NoMemory left lacks = record { reaches = left; lacks = λ why is. cc }
ended_so w before p run_end.WriteFault left lacks = record { reaches = left; lacks = λ why is. cc }
ended_so w before p (run_end.Ended end) left lacks = record { reaches = left; lacks = λ why is. cc }
ended_so w before p run_end.Deadlock left lacks = record { reaches = left; lacks = λ why is. cc }
ended_so w before p run_end.CallsTooDeep left lacks = record { reaches = left; lacks = λ why is. cc }
ended_so w before p run_end.StepsSpent left lacks = record { reaches = left; lacks = λ why is. cc }
ended_so w before p run_end.GoroutinesSpent left lacks = record { reaches = left; lacks = λ why is. cc }

-- it is one of the code and the sizes with which the world began
pub region_run : (code : Code) (sizes : Sizes) (w : World) (before : List ℕ) (t : TacState) (end : RunEnd)
    → ◌≡◌ {A = Code × Sizes} (w.code.now, w.sizes) (code, sizes)
    → t.printed ≡ before ++ w.state.printed → (ended : Ended w before (record t { printed = w.state.printed }) end)
    → RegionRun code sizes end t
region_run code sizes w before t end same whole ended =
    subst (λ (x : Code × Sizes). RegionRun x.0 x.1 end t) same (region_run_of w.code.now w.sizes end t ended.reaches.events ended.reaches.state
    ended.reaches.checked ended.reaches.ascends ended.reaches.run (λ i. record (sym ended.reaches.is i) { printed = t.printed })
    (ended.reaches.print ∙ sym whole) ended.lacks)
