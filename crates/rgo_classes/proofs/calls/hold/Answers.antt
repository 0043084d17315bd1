use Rattle.std.proofs.Common.{◌≡◌, ◌∙◌, true, false, refl, sym, arith}
use Rattle.std.proofs.lemmas.Bool.{false≢true}
use Rattle.std.proofs.lemmas.Result.{on_ok_weaker}
use Rattle.rgo_tac.specs.declared.regions.Member.TheVariants.{Variable, Global}
use Rattle.rgo_tac.specs.Joins.{is_pointer_like_member}
use Rattle.rgo_classes.proofs.Labelled.{has_label, old_fits}
use Rattle.rgo_classes.proofs.Listing.{global_some, global_unnamed, holding_idle, holding_joined}
use Rattle.rgo_classes.proofs.calls.hold.Goals as goal

pub returns-then-not-is_pointer_like-clause-joined : goal.returns-then-not-is_pointer_like-clause-joined
returns-then-not-is_pointer_like-clause-joined c = λ old held h.
    let no : is_pointer_like_member c.args.function.now (Variable c.args.variable) ≡ false = grind arith in
    holding_idle c.args.function.now held c.args.class c.args.variable old c.args.labels.now c.args.holders.now h
    (λ some like. false≢true (sym no ∙ like))

pub join-requires-clause-a : goal.join-requires-clause-a
join-requires-clause-a c =
    let like : is_pointer_like_member c.args.function.now (Variable c.args.variable) ≡ true = grind arith in
    has_label c.args.function.now c.args.labels.now (Variable c.args.variable) c.requires.fits like

pub returns-in-NoClass-clause-joined : goal.returns-in-NoClass-clause-joined
returns-in-NoClass-clause-joined c = λ old held h.
    holding_idle c.args.function.now held c.args.class c.args.variable old c.args.labels.now c.args.holders.now h
    (λ some like. some c.in-NoClass.is)

pub returns-in-Global-clause-joined : goal.returns-in-Global-clause-joined
returns-in-Global-clause-joined c =
    let like : is_pointer_like_member c.args.function.now (Variable c.args.variable) ≡ true = grind arith in
    on_ok_weaker c.join.result
    (λ j old held h. holding_joined c.args.function.now held c.args.class c.args.variable old c.args.labels.now
    c.args.holders.now h c.join.new.self (old_fits c.args.function.now old c.args.labels.now _ h.joined c.requires.fits)
    Global (global_some c.args.class c.in-Global.is) like c.in-Global.is refl j
    (λ k e. absurd (global_unnamed c.args.class k c.in-Global.is e)))
    c.join.ensures.joined

pub returns-in-Name-clause-joined : goal.returns-in-Name-clause-joined
returns-in-Name-clause-joined c = rw c.in-Name.is c.hold_name.ensures.joined
