use Rattle.std.proofs.Common.{List, [], ◌∷◌, ◌++◌, ◌∙◌, ap, refl, subst, sym}
use Rattle.rgo_core.specs.Channels.Records.{ChannelRec as SideRec}
use Rattle.rgo_core.specs.Memory.Records.{Rec as MemoryRec}
use Rattle.rgo_goroutine.specs.declared.goroutine.Child.{Child}
use Rattle.rgo_acts.specs.Starts.{ActorStarts}
use Rattle.rgo_acts.specs.declared.starts.Outcome.{Outcome}
use Rattle.rgo_acts.proofs.computing.LocalActs.{unchanged}
use Rattle.rgo_goroutine.proofs.Beginning.{same_ends}
use Rattle.rgo_goroutine.proofs.Concluding.{counted, ended, only_told}
use Rattle.rgo_goroutine.proofs.Keeping.{same_halts, started_on}
use Rattle.rgo_goroutine.proofs.goroutine.Goroutine.start.Goals as goal

pub returns-then-is_refused : goal.returns-then-is_refused
returns-then-is_refused c =
    ended c.args.run.now c.args.self.now c.too_many.new.self c.args.turning.now c.move_on.new.self c.requires.can.at.goes
    c.requires.can.noted 0 c.too_many.result c.too_many.ensures (only_told c.args.turning.now c.move_on.new.self c.move_on.ensures)

pub returns-then-is_err : goal.returns-then-is_err
returns-then-is_err c =
    same_halts c.args.run.now c.args.self.now (record c.args.self.now { children = c.reserve.new.self }) c.args.turning.now
    c.move_on-then-is_err.new.self c.requires.can.at.goes c.requires.can.noted
    (record { prints = refl; children = c.reserve.ensures.items; number = refl; first = refl })
    (unchanged c.args.run.now c.args.self.now.actor c.requires.can.at.goes.stands)
    (only_told c.args.turning.now c.move_on-then-is_err.new.self c.move_on-then-is_err.ensures)

pub stop-requires-clause-cause : goal.stop-requires-clause-cause
stop-requires-clause-cause c =
    (subst (λ (o : Outcome). ActorStarts c.args.run.now c.args.self.now.actor c.start.new.actor o) c.in-Ok-Refused.field-0-is
    c.in-Ok-Refused.ensures).1

pub returns-in-Ok-Started : goal.returns-in-Ok-Started
returns-in-Ok-Started c =
    let has =
    subst (λ (o : Outcome). ActorStarts c.args.run.now c.args.self.now.actor c.start.new.actor o) c.in-Ok-Started.field-0-is
    c.in-Ok-Started.ensures in
    started_on c.args.run.now c.args.self.now
    (record c.args.self.now { actor = c.start.new.actor; children = c.push_reserved.new.self }) c.args.turning.now c.count.new.self
    c.requires.can.at.goes c.requires.can.noted (record { actor = c.in-Ok-Started.actor; number = c.in-Ok-Started.number })
    (record {
      stands = has.stands;
      settled = has.settled;
      number = sym has.number;
      blank = has.blank;
      tidy = record {
        hold = ap (λ (k : SideRec). k.hold) has.rests;
        make = ap (λ (m : MemoryRec). m.make) has.memory;
        claim = ap (λ (m : MemoryRec). m.claim) has.memory;
        give = ap (λ (m : MemoryRec). m.give) has.memory;
      };
    }) refl
    (c.push_reserved.ensures.items ∙ ap (λ (l : List Child). l ++ record { actor = c.in-Ok-Started.actor; number = c.in-Ok-Started.number } ∷ []) c.reserve.ensures.items) refl refl has.acted
    (counted c.args.turning.now c.count.new.self 1 c.requires.can.at.some c.count.ensures)

pub returns-in-Ok-Refused : goal.returns-in-Ok-Refused
returns-in-Ok-Refused c =
    let at =
    subst (λ (o : Outcome). ActorStarts c.args.run.now c.args.self.now.actor c.start.new.actor o) c.in-Ok-Refused.field-0-is
    c.in-Ok-Refused.ensures in
    same_ends c.args.run.now c.args.self.now
    (record c.args.self.now { actor = c.start.new.actor; children = c.reserve.new.self }) c.stop.new.self c.args.turning.now
    c.move_on-in-Ok-Refused.new.self c.stop.result c.requires.can.at.goes c.requires.can.noted
    (only_told c.args.turning.now c.move_on-in-Ok-Refused.new.self c.move_on-in-Ok-Refused.ensures)
    (record { prints = refl; children = c.reserve.ensures.items; number = refl; first = refl }) at.0 c.stop.ensures

pub returns-in-Err : goal.returns-in-Err
returns-in-Err c =
    same_halts c.args.run.now c.args.self.now
    (record c.args.self.now { actor = c.start.new.actor; children = c.reserve.new.self }) c.args.turning.now c.move_on-in-Err.new.self
    c.requires.can.at.goes c.requires.can.noted
    (record { prints = refl; children = c.reserve.ensures.items; number = refl; first = refl }) c.in-Err.ensures
    (only_told c.args.turning.now c.move_on-in-Err.new.self c.move_on-in-Err.ensures)
