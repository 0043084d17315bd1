use Rattle.std.proofs.Common.{◌≡◌, Some, None, nat_eq, refl}
use Rattle.std.specs.HashMap.{get}
use Rattle.std.proofs.lemmas.Result.{on_ok_weaker}
use Rattle.rgo_tac.specs.declared.regions.Class.TheVariants as class
use Rattle.rgo_tac.specs.declared.regions.Member.TheVariants.{Variable}
use Rattle.rgo_classes.proofs.Labelled.{has_label, old_fits}
use Rattle.rgo_classes.proofs.Listing.{holding_first, holding_joined, name_found, name_some, others_apart}
use Rattle.rgo_classes.proofs.calls.hold_name.Goals as goal

pub join-requires-clause-b : goal.join-requires-clause-b
join-requires-clause-b c =
    let found : get nat_eq c.args.holders.now c.args.name ≡ Some c.in-Some.first = cc in
    has_label c.args.function.now c.args.labels.now (Variable c.in-Some.first) c.requires.fits
    (c.requires.holders c.args.name c.in-Some.first found)

pub returns-in-Some-clause-joined : goal.returns-in-Some-clause-joined
returns-in-Some-clause-joined c =
    let found : get nat_eq c.args.holders.now c.args.name ≡ Some c.in-Some.first = cc in
    let like = c.requires.holders c.args.name c.in-Some.first found in
    on_ok_weaker c.join.result
    (λ j old held h. holding_joined c.args.function.now held (class.Name c.args.name) c.args.variable old
    c.args.labels.now
    c.args.holders.now h c.join.new.self (old_fits c.args.function.now old c.args.labels.now _ h.joined c.requires.fits)
    (Variable c.in-Some.first) (name_some c.args.name) c.requires.like (h.listed c.args.name c.in-Some.first found)
    like j
    (λ k e. name_found c.args.holders.now c.args.name k c.in-Some.first found e))
    c.join.ensures.joined

pub returns-in-Ok-clause-joined : goal.returns-in-Ok-clause-joined
returns-in-Ok-clause-joined c = λ old held h.
    let none : get nat_eq c.args.holders.now c.args.name ≡ None = cc in
    let updates = c.in-Ok.ensures.updates in
    holding_first c.args.function.now held (class.Name c.args.name) c.args.variable old c.args.labels.now
    c.args.holders.now h c.args.name c.insert.new.self refl none updates.1
    (λ q n. updates.2 q (others_apart q c.args.name n))
