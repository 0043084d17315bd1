use Rattle.std.proofs.Common.{Some, [], ap, option_map, refl, subst, sym, ◌∙◌}
use Rattle.rgo_sound.specs.RegionMachine.States.{environment_of}
use Rattle.rgo_sound.specs.Tac.declared.regions.Class.TheVariants.{NoClass}
use Rattle.rgo_holding.specs.Holds.{region_of_key}
use Rattle.rgo_holding.specs.Learning.{MayBeGiven}
use Rattle.rgo_holding.proofs.Starting.{fresh_global}
use Rattle.rgo_holding.proofs.holding.Holding.learn_given.Goals as goal

pub returns-in-Global-clause-key : goal.returns-in-Global-clause-key
returns-in-Global-clause-key c = λ slots stakes tracks shows given.
    let is = c.in-Some.is ∙ ap Some c.in-Global.is in
    ap Some (ap (region_of_key c.args.self.now) c.global.ensures ∙ fresh_global c.args.self.now slots _ stakes shows)
    ∙ sym (ap (option_map Some) is)

pub returns-in_ok-learn-in-Numbered-clause-shows : goal.returns-in_ok-learn-in-Numbered-clause-shows
returns-in_ok-learn-in-Numbered-clause-shows c = λ slots stakes tracks shows given.
    let is = c.in-Some.is ∙ ap Some c.in-Numbered.is in
    let fits = subst (MayBeGiven slots stakes) is given in
    c.in_ok-learn-in-Numbered.ensures.shows slots stakes tracks shows fits.0 fits.1

pub returns-in_ok-learn-in-Numbered-clause-key : goal.returns-in_ok-learn-in-Numbered-clause-key
returns-in_ok-learn-in-Numbered-clause-key c = λ slots stakes tracks shows given.
    let is = c.in-Some.is ∙ ap Some c.in-Numbered.is in
    let fits = subst (MayBeGiven slots stakes) is given in
    ap Some (c.in_ok-learn-in-Numbered.ensures.key tracks (λ e. fits.0 (e ∙ (shows (environment_of NoClass []) refl refl).slots_are)))
    ∙ sym (ap (option_map Some) is)
