use Rattle.std.proofs.Common.{Ok, Err, refl}
use Rattle.std.proofs.lemmas.Bool.{false≢true}
use Rattle.std.proofs.lemmas.List.Sorted.{searched}
use Rattle.rgo_region_sets.proofs.Picking.{found_name, missing_name}
use Rattle.rgo_region_sets.proofs.Tables.{rising_ascends}
use Rattle.rgo_region_sets.proofs.sets.has.Goals as goal

pub returns-in-Ok : goal.returns-in-Ok
returns-in-Ok c =
    let names = c.args.names.now in
    let s = searched names c.args.name (Ok c.in-Ok.field-0) c.in-Ok.ensures.position
    (rising_ascends names c.requires.ascends) in
    (λ e. found_name names c.args.name c.in-Ok.field-0 s.0 s.1, λ h. refl)

pub returns-in-Err : goal.returns-in-Err
returns-in-Err c =
    let names = c.args.names.now in
    let s = searched names c.args.name (Err c.in-Err.field-0) c.in-Err.ensures.position
    (rising_ascends names c.requires.ascends) in
    (λ e. absurd (false≢true e), λ h. absurd (missing_name names c.args.name c.in-Err.field-0 s.1 s.2 h))
