-- The examples of runs with regions: that one exists is shown by its events, and that none exists by a property of all states that the
-- code reaches.
use Rattle.std.proofs.Common.{◌≡◌, ◌≤◌, ℕ, [], ◌∷◌, List, Some, length, refl, sym, ap, ◌∙◌, subst, arith}
use Rattle.std.specs.Prelude.{nat_lt, unwrap_or}
use Rattle.std.proofs.lemmas.Bool.{leb-true, ltb-true}
use Rattle.rgo_machine.specs.declared.limits.Sizes.{Sizes}
use Rattle.rgo_machine.specs.declared.picks.End.TheVariants.{Exit}
use Rattle.rgo_machine.specs.declared.picks.Pick.TheVariants.{One}
use Rattle.rgo_machine.specs.declared.limits.Shortage.{Shortage}
use Rattle.rgo_machine.specs.declared.limits.Shortage.TheVariants as shortage
use Rattle.rgo_tac.specs.Tac.{TacState, tac, tac_start}
use Rattle.rgo_code.specs.Erasure.{erased}
use Rattle.rgo_region_machine.specs.Counts.{counts_of}
use Rattle.rgo_region_machine.specs.Machine.{Attend, Event, Instruct, TakePage, region_run, region_start}
use Rattle.rgo_region_machine.specs.Room.{roomy_run, LacksIn}
use Rattle.rgo_region_machine.specs.States.{RegionState, plain_at}
use Rattle.rgo_sound.specs.Safety.{IsSafe}
use Rattle.rgo_sound.proofs.counts.Room.{room_is_kept}
use Rattle.rgo_sound.proofs.Safe.{safety}
use Rattle.rgo_sound.proofs.offers.Offers.{names_only_live}
use Rattle.rgo_machine.specs.declared.ends.RunEnd.{RunEnd}
use Rattle.rgo_machine.specs.declared.ends.RunEnd.TheVariants as run_end
use Rattle.rgo_command_line.specs.Limits.{default_options}
use Rattle.rgo_run.specs.Headline.{Suffices}
use Rattle.rgo_run.specs.Runs.{of_program}
use Rattle.rgo_sound.specs.RegionRuns.{NamesLive, RegionRun}
use Rattle.rgo_claim_examples.specs.Programs.{one_object}
use Rattle.rgo_claim_examples.specs.RegionRuns.{RegionRunExamples, code}
use Rattle.rgo_claim_examples.specs.States.{sizes}
use Rattle.rgo_claim_examples.proofs.Checked.{checked}
use Rattle.rgo_claim_examples.proofs.Codes.{one_object_code}
use Rattle.rgo_claim_examples.proofs.Compiled.{ascends, compiled}
use Rattle.rgo_claim_examples.proofs.Enough.{few_pages, few_steps, suffices}
use Rattle.rgo_claim_examples.proofs.Lowered.{one_object_lowered}
use Rattle.rgo_claim_examples.proofs.PlainRuns.{plain_run}
use Rattle.rgo_claim_examples.proofs.Quiet.{quiet, quiet_is_of, quiet_step}
use Rattle.rgo_claim_examples.proofs.Search.{found}

-- what holds of each state of a run
good : (page_words : ℕ) (events : List Event) (s : RegionState) → region_run code page_words events ≡ Some s
    → IsSafe code page_words s × NamesLive code s
good page_words events s is_run = (
  safety code page_words events s checked ascends is_run,
  λ g h r at named. names_only_live code page_words events s g h r checked ascends is_run at named,
)

-- ---- to the exit

abbrev step : Event
step = Instruct (One 0)

abbrev events : List Event
events = Attend 0 ∷ TakePage 0 ∷ step ∷ step ∷ step ∷ Attend 0 ∷ step ∷ step ∷ []

abbrev pub last : RegionState
last = unwrap_or (region_run code 256 events) (region_start code)

not_lacking : (why : Shortage) → run_end.Ended Exit ≡ run_end.NoRoom why → ⊥
not_lacking why e = cc

pub exits : RegionRun code default_options.sizes (run_end.Ended Exit) (plain_at last last.plain.printed)
exits = record {
  events = events;
  late = [];
  state = last;
  last = last;
  run = refl;
  more = refl;
  is = refl;
  printed = refl;
  safe = λ before after s e is_run. good 256 before s is_run;
  within =
      λ before after s e is_run. room_is_kept.fits code default_options.sizes before after s last
      (subst (λ es. roomy_run code default_options.sizes es ≡ Some last) e refl) is_run;
  lacks = λ why e. absurd (not_lacking why e);
}

-- ---- without a region

wants : (why : Shortage) → run_end.NoRoom shortage.Regions ≡ run_end.NoRoom why → shortage.Regions ≡ why
wants why e = cc

no_region : RegionRun code (sizes 16 1 0) (run_end.NoRoom shortage.Regions) (tac_start (erased code))
no_region = record {
  events = [];
  late = [];
  state = region_start code;
  last = region_start code;
  run = refl;
  more = refl;
  is = refl;
  printed = refl;
  safe = λ before after s e is_run. good 16 before s is_run;
  within =
      λ before after s e is_run. room_is_kept.fits code (sizes 16 1 0) before after s (region_start code)
      (subst (λ es. roomy_run code (sizes 16 1 0) es ≡ Some (region_start code)) e refl) is_run;
  lacks =
      λ why e. subst (λ w. LacksIn code (sizes 16 1 0) w (region_start code)) (wants why e)
      (0, 0, _, [], refl, refl, leb-true 0 0 refl);
}

-- ---- with enough regions

enough : Suffices default_options (of_program one_object)
enough = suffices default_options one_object_code 6 refl one_object one_object_lowered

has_region : (t : TacState) → RegionRun code default_options.sizes (run_end.NoRoom shortage.Regions) t → ⊥
has_region t r = enough.regions code compiled r.events r.state r.run (r.lacks shortage.Regions refl)

has_room : (events : List Event) (s : RegionState) → region_run code default_options.sizes.page_words events ≡ Some s
    → ((counts_of s).taken ≤ default_options.sizes.pages) × ((counts_of s).made ≤ default_options.sizes.regions)
has_room events s is_run =
    let counts = (good default_options.sizes.page_words events s is_run).0.counts in
    let pages = few_pages default_options one_object_code 6 refl one_object one_object_lowered code compiled events s
    is_run in
    let steps = few_steps default_options one_object_code 6 refl one_object one_object_lowered code compiled events s
    is_run in
    (omega (arith, counts.pages, pages), omega (arith, counts.regions, steps))

-- ---- one goroutine

no_second : (page_sizes : Sizes) (end : RunEnd) (t : TacState) → length t.goroutines ≡ 2
    → RegionRun code page_sizes end t → ⊥
no_second page_sizes end t two r =
    let plain = plain_run code page_sizes.page_words r.events (region_start code) r.state r.run in
    let one =
    found (tac (erased code)) (quiet_step (tac (erased code))) (quiet_is_of (tac (erased code)))
    (λ s. nat_lt (length s.goroutines) 2) 6 plain.picks (tac_start (erased code)) (quiet r.state.plain) refl
    plain.leads in
    let less = ltb-true (length r.state.plain.goroutines) 2 one.0 in
    let same = ap (λ (s : TacState). length s.goroutines) r.is in
    omega (arith, less, same, two)

pub region_run_examples : RegionRunExamples
region_run_examples = record {
  exits = (plain_at last last.plain.printed, refl, exits);
  no_region = (tac_start (erased code), no_region);
  has_region = has_region;
  has_room = has_room;
  no_second = no_second;
  unsaid = λ made said. said;
  unasked = λ made tally said. said;
  cut = λ made. tt;
  two_runs = λ what options end out r none one is. let same = sym none ∙ is.same ∙ one in cc;
  overspent = λ what options out r steps is.
      let less = is.spent refl in omega (arith, less, steps);
}
