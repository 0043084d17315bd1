use Rattle.std.proofs.Common.{◌≡◌, ◌-◌, ◌%◌, ◌<◌}
use Rattle.rgo_core.specs.moves.Cells.{locates}
use Rattle.rgo_core.specs.Core.{layout}
use Rattle.rgo_core.specs.Memory.Words.{all_words, cell_at}
use Rattle.rgo_core.specs.Rule.declared.accesses.Kind.TheVariants as kind
use Rattle.rgo_core.specs.runs.Plans.{setup_of}
use Rattle.rgo_core_steps.specs.Seats.{settled}
use Rattle.rgo_core_steps.proofs.memory.index.Given as goal

abbrev pub ghosts-load : goal.ghosts-load
ghosts-load a =
    let T = setup_of a.table.now.shared.key in
    let c = settled T a._about.now.3 a.seat.now.me in
    record {
      kind = kind.LoadIndex;
      tells = λ n d. (d ≡ locates c a._about.now.0 a._about.now.2 (n - 1)) × (0 < n)
          × (cell_at (layout T) (n - 1) (a._about.now.2 % T.sizes.page_words) < all_words (layout T));
    }
