-- What is left is the front of the list and the rest after the place that was taken: both keep what holds of all.
use Rattle.std.proofs.Common.{◌+◌, ◌++◌, take, drop}
use Rattle.std.proofs.lemmas.List.Elements.{All-append, All-drop, All-same, All-take}
use Rattle.rgo_goroutine.specs.Goroutines.{IsOf}
use Rattle.rgo_crew.proofs.crew.take.Goals as goal

pub returns-clause-all : goal.returns-clause-all
returns-clause-all c =
    let P = IsOf c.args.run.now in
    let all = c.args.goroutines.now.items in
    let place = c.args.place in
    All-same P _ (take place all ++ drop (place + 1) all) c.remove.ensures.by_index.2
    (All-append P (take place all) (drop (place + 1) all) (All-take P place all c.requires.all)
    (All-drop P (place + 1) all c.requires.all))
