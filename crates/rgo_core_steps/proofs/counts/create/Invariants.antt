use Rattle.std.proofs.Common.{◌≡◌, false}
use Rattle.rgo_sound.specs.Stakes.{is_in}
use Rattle.rgo_core_steps.specs.Counts.{tries_slot}
use Rattle.rgo_core.specs.Rule.declared.accesses.Kind.TheVariants as kind
use Rattle.rgo_core.specs.runs.Plans.{setup_of}
use Rattle.rgo_core_steps.specs.Seats.{settled}
use Rattle.rgo_core_steps.proofs.counts.create.Given as goal

abbrev pub ghosts-compare_exchange : goal.ghosts-compare_exchange
ghosts-compare_exchange a =
    let T = setup_of a.table.now.shared.key in
    let c = settled T a._about.now.1 a.seat.now.me in
    record {
      kind = kind.CreateRegion;
      tells = λ n d. (d ≡ tries_slot c a._about.now.0 n) × (n ≡ 0 → is_in a._about.now.0 c.frame.holder.stakes ≡ false);
    }
