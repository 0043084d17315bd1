use Rattle.std.proofs.lemmas.List.Sorted.{IsPermutation-append_left}
use Rattle.rgo_runtime.specs.Parking.{all_parked, parked_values}
use Rattle.rgo_runtime.proofs.crews.Moving.{turns_kept}
use Rattle.rgo_runtime.proofs.crew.Crew.reverse_queue.Goals as goal

pub returns-clause-kept : goal.returns-clause-kept
returns-clause-kept c =
    let all = all_parked c.self.inside.parked in
    turns_kept _ c.reverse.new.self.items all
    (IsPermutation-append_left (parked_values all) c.self.inside.ready.items c.reverse.new.self.items c.reverse.ensures.permutation)
    c.args.self.now c.self.view_is
