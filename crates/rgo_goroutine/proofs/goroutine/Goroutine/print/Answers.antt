use Rattle.std.proofs.Common.{List, [], ◌∷◌, ◌++◌, ◌∙◌, ap, refl, subst, sym}
use Rattle.rgo_acts.specs.Actors.{ActorActed}
use Rattle.rgo_acts.specs.declared.actors.Actor.{Actor}
use Rattle.rgo_acts.specs.declared.prints.Print.{Print}
use Rattle.rgo_acts.proofs.computing.LocalActs.{unchanged}
use Rattle.rgo_goroutine.proofs.Concluding.{counted_print, only_told}
use Rattle.rgo_goroutine.proofs.Keeping.{printed_on, same_halts}
use Rattle.rgo_goroutine.proofs.goroutine.Goroutine.print.Goals as goal

pub returns-then-is_err : goal.returns-then-is_err
returns-then-is_err c =
    same_halts c.args.run.now c.args.self.now (record c.args.self.now { prints = c.reserve.new.self }) c.args.turning.now
    c.move_on.new.self c.requires.can.at.goes c.requires.can.noted
    (record { prints = c.reserve.ensures.items; children = refl; number = refl; first = refl })
    (unchanged c.args.run.now c.args.self.now.actor c.requires.can.at.goes.stands)
    (only_told c.args.turning.now c.move_on.new.self c.move_on.ensures)

pub returns-in-Ok : goal.returns-in-Ok
returns-in-Ok c =
    printed_on c.args.run.now c.args.self.now
    (record c.args.self.now { actor = c.print_line.new.actor; prints = c.push_reserved.new.self }) c.args.turning.now
    c.count_print.new.self c.requires.can.at.goes c.requires.can.noted c.in-Ok.print
    (c.push_reserved.ensures.items ∙ ap (λ (l : List Print). l ++ c.in-Ok.print ∷ []) c.reserve.ensures.items) refl refl refl
    c.in-Ok.ensures.printed
    (counted_print c.args.turning.now c.count_print.new.self c.requires.can.at.some c.count_print.ensures) c.unless_much.result
    c.unless_much.ensures

pub returns-in-Err : goal.returns-in-Err
returns-in-Err c =
    same_halts c.args.run.now c.args.self.now
    (record c.args.self.now { actor = c.print_line.new.actor; prints = c.reserve.new.self }) c.args.turning.now c.move_on-in-Err.new.self
    c.requires.can.at.goes c.requires.can.noted
    (record { prints = c.reserve.ensures.items; children = refl; number = refl; first = refl })
    (subst (λ (a : Actor). ActorActed c.args.run.now c.args.self.now.actor a 0 [] []) (sym c.in-Err.ensures.same)
    (unchanged c.args.run.now c.args.self.now.actor c.requires.can.at.goes.stands))
    (only_told c.args.turning.now c.move_on-in-Err.new.self c.move_on-in-Err.ensures)
