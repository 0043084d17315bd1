-- A run in a smaller table is one that a larger table allows. All parts of a run but one are the same for both; only that each state fits
-- is weakened. A lack of room is the exception: it says nothing of the larger table, so it becomes want of memory, which claims no more.
use Rattle.std.proofs.Common.{◌≡◌, ◌≤◌, ◌<◌, ◌*◌, ℕ, zero, suc, Bool, List, Option, refl, subst, arith}
use Rattle.rgo_core.specs.Image.{table_sizes}
use Rattle.rgo_core.specs.Memory.Words.{all_words}
use Rattle.rgo_sound.specs.Machine.Ends.{RunsFreely}
use Rattle.rgo_sound.specs.Machine.declared.ends.RunEnd.{RunEnd}
use Rattle.rgo_sound.specs.Machine.declared.ends.RunEnd.TheVariants as run_end
use Rattle.rgo_sound.specs.Code.Code.{Code}
use Rattle.rgo_sound.specs.Code.Erasure.{erased}
use Rattle.rgo_sound.specs.Machine.declared.limits.Limits.{Limits}
use Rattle.rgo_sound.specs.Machine.declared.limits.Sizes.{Sizes}
use Rattle.rgo_sound.specs.Machine.declared.limits.Shortage.{Shortage}
use Rattle.rgo_sound.specs.RegionMachine.Counts.{Counts}
use Rattle.rgo_sound.specs.RegionMachine.Room.{StateFitsIn}
use Rattle.rgo_sound.specs.RegionMachine.States.{RegionState}
use Rattle.rgo_sound.specs.Tac.Tac.{TacState, tac, tac_start}
use Rattle.rgo_sound.specs.RegionRuns.{CodeRuns, RegionRun}
use Rattle.rgo_runtime.specs.Runs.{FailsIf}
use Rattle.rgo_runtime.specs.Sizing.{IsNarrower, SizingExamples, unless_short}

-- the smaller table has fewer words
times : (p w : ℕ) → 0 < p → w ≤ p * w
times zero w some = absurd (omega (arith, some))
times (suc p) w some = omega arith

pub fits_still : (code : Code) (few sizes : Sizes) (most : ℕ) → few.pages ≡ 1 → IsNarrower few sizes
    → all_words (table_sizes code sizes) ≤ most → all_words (table_sizes code few) ≤ most
fits_still code few sizes most one narrow fits =
    let more = times sizes.pages sizes.page_words (omega (arith, narrow.some, narrow.pages)) in
    let same : few.pages * few.page_words ≡ 1 * sizes.page_words = λ i. one i * narrow.page_words i in
    omega (arith, one, narrow.pages, narrow.regions, more, same, fits)

fits_wider : (few sizes : Sizes) (s : RegionState) → IsNarrower few sizes → StateFitsIn few s → StateFitsIn sizes s
fits_wider few sizes s narrow fits = record {
  pages = omega (arith, fits.pages, narrow.pages);
  regions = omega (arith, fits.regions, narrow.regions);
}

module _ (code : Code) (few sizes : Sizes) (limits : Limits) (tally : Counts) (old new : Option (List ℕ)) where
  abbrev RunsIn : Sizes → RunEnd → Type 0
  RunsIn in_sizes end = CodeRuns code in_sizes limits end tally old new

  -- the same sizes but for how many pages and regions there are
  abbrev cut : Sizes
  cut = record sizes { pages = few.pages; regions = few.regions }

  -- the same run with its regions, if its end is not a want of room
  abbrev widened : (end other : RunEnd) (t : TacState) → IsNarrower cut sizes → ((why : Shortage) → other ≡ run_end.NoRoom why → ⊥)
      → RegionRun code cut end t → RegionRun code sizes other t
  widened end other t narrow roomy r = record {
    events = r.events;
    late = r.late;
    state = r.state;
    last = r.last;
    run = r.run;
    more = r.more;
    is = r.is;
    printed = r.printed;
    safe = r.safe;
    within = λ before after s is leads. fits_wider cut sizes s narrow (r.within before after s is leads);
    lacks = λ why is. absurd (roomy why is);
  }

  still : (end : RunEnd) → IsNarrower cut sizes → ((why : Shortage) → end ≡ run_end.NoRoom why → ⊥) → RunsIn cut end → RunsIn sizes end
  still end narrow roomy r = record {
    runs = r.runs;
    regions = widened end end r.runs.state narrow roomy r.regions;
    same = r.same;
    made = r.made;
  }

  -- a want of room is reported as want of memory
  given_up : (why : Shortage) → IsNarrower cut sizes → RunsIn cut (run_end.NoRoom why) → RunsIn sizes run_end.NoMemory
  given_up why narrow r = record {
    runs = record {
      picks = r.runs.picks;
      tested = r.runs.tested;
      state = r.runs.state;
      ran = r.runs.ran;
      early = r.runs.early;
      ends = tt;
      gives = r.runs.gives;
    };
    regions = widened (run_end.NoRoom why) run_end.NoMemory r.runs.state narrow (λ other is. cc) r.regions;
    same = r.same;
    made = r.made;
  }

  by_end : (end : RunEnd) → IsNarrower cut sizes → RunsIn cut end → RunsIn sizes (unless_short end)
  by_end (run_end.NoRoom why) narrow r = given_up why narrow r
  by_end (run_end.Ended end) narrow r = still (run_end.Ended end) narrow (λ why is. cc) r
  by_end run_end.Deadlock narrow r = still run_end.Deadlock narrow (λ why is. cc) r
  by_end run_end.CallsTooDeep narrow r = still run_end.CallsTooDeep narrow (λ why is. cc) r
  by_end run_end.StepsSpent narrow r = still run_end.StepsSpent narrow (λ why is. cc) r
  by_end run_end.GoroutinesSpent narrow r = still run_end.GoroutinesSpent narrow (λ why is. cc) r
  by_end run_end.WriteFault narrow r = still run_end.WriteFault narrow (λ why is. cc) r
  by_end run_end.NoMemory narrow r = still run_end.NoMemory narrow (λ why is. cc) r

  -- what is cut is the smaller sizes
  is_cut : IsNarrower few sizes → few ≡ cut
  is_cut narrow = λ i. record sizes { page_words = narrow.page_words i; pages = few.pages; regions = few.regions }

  pub in_wider : (end : RunEnd) → IsNarrower few sizes → RunsIn few end → RunsIn sizes (unless_short end)
  in_wider end narrow r =
      by_end end (record { page_words = refl; some = narrow.some; pages = narrow.pages; regions = narrow.regions })
      (subst (λ z. RunsIn z end) (is_cut narrow) r)

-- an end that is spent steps or a failed write was so before
pub spent_before : (end : RunEnd) → unless_short end ≡ run_end.StepsSpent → end ≡ run_end.StepsSpent
spent_before (run_end.NoRoom why) is = cc
spent_before (run_end.Ended end) is = is
spent_before run_end.Deadlock is = is
spent_before run_end.CallsTooDeep is = is
spent_before run_end.StepsSpent is = is
spent_before run_end.GoroutinesSpent is = is
spent_before run_end.WriteFault is = is
spent_before run_end.NoMemory is = is

fault_before : (end : RunEnd) → unless_short end ≡ run_end.WriteFault → end ≡ run_end.WriteFault
fault_before (run_end.NoRoom why) is = cc
fault_before (run_end.Ended end) is = is
fault_before run_end.Deadlock is = is
fault_before run_end.CallsTooDeep is = is
fault_before run_end.StepsSpent is = is
fault_before run_end.GoroutinesSpent is = is
fault_before run_end.WriteFault is = is
fault_before run_end.NoMemory is = is

fault_after : (end : RunEnd) → end ≡ run_end.WriteFault → unless_short end ≡ run_end.WriteFault
fault_after end is = λ i. unless_short (is i)

pub fails_still : (end : RunEnd) (before now : ℕ) (broken : Bool) → FailsIf (end ≡ run_end.WriteFault) before now broken
    → FailsIf (unless_short end ≡ run_end.WriteFault) before now broken
fails_still end before now broken f = record {
  fault = λ is. f.fault (fault_before end is);
  broken = λ is. f.broken (fault_before end is);
  held = λ n. f.held (λ is. n (fault_after end is));
}

pub sizing_examples : SizingExamples
sizing_examples = record {
  one_page = record { page_words = refl; some = omega arith; pages = omega arith; regions = omega arith };
  short_pages = λ n. let wrong = n.page_words in cc;
  no_page = λ n. omega (arith, n.some);
  lacked = refl;
  stuck = refl;
}
