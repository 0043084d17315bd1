use Rattle.std.proofs.Common.{◌≡◌, ℕ, List, None, Option, [], ap, map, nat_eq, refl, reverse, rules, subst, sym, ◌∙◌}
use Rattle.std.specs.HashMap.{get}
use Rattle.rgo_sound.specs.RegionMachine.Owed.{passed_regions, twice}
use Rattle.rgo_sound.specs.RegionMachine.States.{environment_of, top_names}
use Rattle.rgo_sound.specs.RegionMachine.declared.regions.Region.TheVariants.{Numbered}
use Rattle.rgo_sound.specs.RegionMachine.declared.regions.Region.{Region}
use Rattle.rgo_sound.specs.Tac.declared.regions.Class.TheVariants.{NoClass}
use Rattle.rgo_holding.specs.declared.frames.Frames.{Frames}
use Rattle.rgo_holding.specs.Holds.{region_of_key}
use Rattle.rgo_holding.specs.Learning.{AreGiven, Learned, ShowsFresh, SlotsKnown}
use Rattle.rgo_holding.specs.Passing.{key_for}
use Rattle.rgo_holding.proofs.Starting.{child_shows, given_fit, keys_still, tracks_none, twice_known}
use Rattle.rgo_holding.proofs.holding.Holding.child.Goals as goal

pub returns : goal.returns
returns c = λ slots h fills shows passed.
    let k = c.args.self.now in
    let given : List (Option Region) = passed_regions (top_names h.environments) c.args.passes.now in
    let items : c.in_ok-given.given.items ≡ given = c.in_ok-given.ensures slots h fills shows in
    let all = given_fit k slots h fills shows c.args.passes.now passed in
    let none : (s : ℕ) → get nat_eq c.new-known.result s ≡ None = λ s. search rules in
    let learned = subst (Learned slots h.pending c.learn_all.new.self (get nat_eq c.learn_all.new.known) c.in_ok-keys.keys.items)
    (c.deref-2.ensures.value ∙ items)
    (c.in_ok-keys.ensures.learns slots h.pending (tracks_none c.in_ok-child.child _ none c.in_ok-child.ensures.known)
    (subst (λ s. ShowsFresh s c.in_ok-child.child [] h.pending) shows.slots_are (c.in_ok-child.ensures.shows h.pending))
    (subst (AreGiven slots h.pending) (sym (c.deref-2.ensures.value ∙ items)) all)) in
    let found : map Numbered (reverse c.in_ok-found.found.items) ≡ twice given =
    c.in_ok-found.ensures ∙ ap twice (c.deref.ensures.value ∙ items) in
    let slots_are = (learned.shows (environment_of NoClass []) refl refl).slots_are in
    let known = twice_known slots h.pending c.learn_all.new.self (get nat_eq c.learn_all.new.known) learned.tracks slots_are
    c.in_ok-keys.keys.items given c.in_ok-found.found.items all learned.keys_are found in
    let based = c.in_ok-add_bases.ensures.adds slots h.pending learned.tracks learned.shows
    (subst (SlotsKnown slots (get nat_eq c.learn_all.new.known)) (sym c.deref-3.ensures.value) known) in
    child_shows c.add_bases.new.self c.name_first.new.self slots h.pending c.args.formals.now given
    (map Numbered (reverse c.deref-3.result.now)) c.in_ok-keys.keys.items c.pass.new.keys.items based
    (ap (λ ps. map Numbered (reverse ps)) c.deref-3.ensures.value ∙ found)
    (keys_still (region_of_key c.learn_all.new.self) (region_of_key c.add_bases.new.self)
    (λ key r at. c.in_ok-add_bases.ensures.regions key ∙ at) c.in_ok-keys.keys.items given learned.keys_are)
    (λ n. c.in_ok-pass.ensures n ∙ ap (λ ks. key_for c.args.formals.now ks n) c.deref-4.ensures.value)
    (ap (λ (f : Frames). f.tables.items) (c.add_bases.ensures.kept.1 ∙ c.learn_all.ensures.kept.1) ∙ c.in_ok-child.ensures.tables)
    c.in_ok-name_first.ensures
