-- The examples, by computation.
use Rattle.std.proofs.Common.{◌<◌, ℕ, zero, suc, [], ◌∷◌, Some, refl, subst, arith, slice_index}
use Rattle.rgo_core.specs.Next.{IsAtOp}
use Rattle.rgo_core_facts.proofs.NewWords.{makes_slice}
use Rattle.rgo_sound.specs.Code.Code.{Do}
use Rattle.rgo_sound.specs.Machine.declared.limits.Limits.{Limits}
use Rattle.rgo_sound.specs.RegionMachine.declared.regions.Region.TheVariants.{Global as GlobalRegion}
use Rattle.rgo_sound.specs.Typed.declared.actions.Action.TheVariants as action
use Rattle.rgo_core_facts.specs.MemoryObjects.{slice_opens}
use Rattle.rgo_core_facts.proofs.MemoryExamples as facts
use Rattle.rgo_core_facts.proofs.Storing.{new_stays}
use Rattle.rgo_core_facts.specs.MemoryExamples.{making_slices, slicing_instr, slicing_main, before_three}
use Rattle.rgo_acts.specs.Actors.{IsUnmoved}
use Rattle.rgo_acts.proofs.examples.Duties.{moved}
use Rattle.rgo_acts.specs.ObjectExamples.{PlacementExamples, five, its_pages, making_in_three, with_own}

abbrev at_five : (limits : Limits) → IsAtOp (making_in_three limits).code (five its_pages) (Do (Some 1) action.Slice (0 ∷ []) [])
at_five limits = record {
  w = record { function = 0; next = 0; variables = 5 ∷ 0 ∷ [] };
  ws = [];
  frames = refl;
  fn = slicing_main;
  in_fn = refl;
  instr = slicing_instr;
  cur = refl;
  is = refl;
  none = refl;
  free = refl;
}

all_low : (i : ℕ) → i < 3 → slice_index its_pages i < 3
all_low zero low = omega arith
all_low (suc zero) low = omega arith
all_low (suc (suc zero)) low = omega arith
all_low (suc (suc (suc i))) low = absurd (omega (arith, low))

pub examples : PlacementExamples
examples = record {
  first = refl;
  other = refl;
  no_page = tt;
  no_room = omega arith;
  room = λ few. omega (arith, few);
  moved = λ r a b none its e. moved r.setup a b its (subst (IsUnmoved r.setup a b) e none.unmoved);
  placed = λ limits. record {
    object = new_stays (making_slices limits) before_three (with_own 0) 1 4 1 (slice_opens 3) refl (facts.object_examples.slice limits);
    is_page = refl;
    room = omega arith;
    low = omega arith;
    rests = refl;
    make = refl;
    some = omega arith;
  };
  overfull = λ limits placed. let room = placed.room in omega (arith, room);
  few_steps = λ limits. refl;
  more_steps = λ limits. refl;
  small = λ limits. omega arith;
  large = λ limits few. omega (arith, few);
  apart = λ limits. record {
    slot = 1;
    object = makes_slice (making_in_three limits) (five its_pages) (Some 1) 0 [] (at_five limits) GlobalRegion refl (omega arith);
    spread = omega arith;
    small = omega arith;
    few = omega arith;
    reserved = refl;
    all = refl;
    low = λ i low. all_low i low;
    rests = refl;
    make = refl;
  };
  too_few = λ limits c placed. let all = placed.all in omega (arith, all);
  not_spread = λ limits c ps placed. let spread = placed.spread in omega (arith, spread);
}
