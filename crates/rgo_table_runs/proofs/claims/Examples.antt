-- Where the definitions of runs hold and where they do not.
use Rattle.std.proofs.Common.{◌≡◌, ◌<◌, ℕ, max, List, [], ◌∷◌, ◌++◌, Option, Some, None, refl, ap, sym, subst, ◌∙◌, arith}
use Rattle.std.proofs.lemmas.List.{append-nil}
use Rattle.rgo_sound.specs.Code.Code.{Code}
use Rattle.rgo_sound.specs.Machine.declared.ends.RunEnd.TheVariants.{NoMemory, NoRoom}
use Rattle.rgo_sound.specs.Machine.declared.limits.Limits.{Limits}
use Rattle.rgo_sound.specs.Machine.declared.limits.Sizes.{Sizes}
use Rattle.rgo_sound.specs.Machine.declared.limits.Shortage.{Shortage}
use Rattle.rgo_sound.specs.RegionMachine.Counts.{counts_of}
use Rattle.rgo_sound.specs.RegionMachine.Machine.{region_start}
use Rattle.rgo_sound.specs.RegionMachine.Room.{LacksIn, roomy_run}
use Rattle.rgo_sound.proofs.counts.Room.{room_is_kept}
use Rattle.rgo_table_runs.specs.claims.Examples.{ClaimExamples}
use Rattle.rgo_table_runs.specs.claims.TableRuns.{TableRun}
use Rattle.rgo_table_runs.proofs.claims.Claimed.{gives_claim}
use Rattle.std.specs.Io.KnownBytes.{Appends}

no_room : (code : Code) (sizes : Sizes) (why : Shortage) → NoMemory ≡ NoRoom why → LacksIn code sizes why (region_start code)
no_room code sizes why e = cc

-- the run without a step
empty : (code : Code) (sizes : Sizes) (limits : Limits) (old new : Option (List ℕ)) → Appends old new []
    → TableRun code sizes limits NoMemory (counts_of (region_start code)) old new
empty code sizes limits old new gave = record {
  events = [];
  late = [];
  state = region_start code;
  last = region_start code;
  run = refl;
  more = refl;
  room = refl;
  made = refl;
  silent = λ q. refl;
  plain = (region_start code).plain;
  ran = refl;
  is = refl;
  printed = refl;
  tested = 0;
  early = omega arith;
  ends = tt;
  gives = gave;
  lacks = no_room code sizes;
}

one : (n tested : ℕ) → tested < max 1 n → n ≡ 0 → tested ≡ 1 → ⊥
one n tested l e f = let z : tested < max 1 0 = subst (λ (m : ℕ). tested < max 1 m) e l in omega arith

pub claim_examples : ClaimExamples
claim_examples = record {
  none_yet = λ code sizes limits. empty code sizes limits (Some []) (Some []) refl;
  lost = λ code sizes limits tally b t. lost_print b t.plain.printed t.gives;
  tested_late = λ code sizes limits tally old new t e f. one limits.steps t.tested t.ends.2 e f;
  crowded = λ code sizes limits end tally old new t no.
      no (room_is_kept.fits code sizes (t.events ++ t.late) [] t.last t.last
      (ap (roomy_run code sizes) (append-nil (t.events ++ t.late)) ∙ t.room) t.more);
  claimed = λ code sizes limits checked ascends.
      gives_claim code sizes limits NoMemory (counts_of (region_start code)) None None checked ascends (empty code sizes limits None None tt);
  outgrown = λ code sizes end t r no. no (r.within (r.events ++ r.late) [] r.last (sym (append-nil (r.events ++ r.late))) r.more);
}
  where
    lost_print : (b : ℕ) (print : List ℕ) → [] ≡ (b ∷ []) ++ print → ⊥
    lost_print b print e = cc e
