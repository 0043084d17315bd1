use Rattle.std.proofs.Common.{◌≡◌, ◌∷◌, ◌++◌, [], ap, arith, inr, length, refl, reverse, subst, sym}
use Rattle.atomic_table.specs.Seated.{TableId}
use Rattle.rgo_core.specs.Memory.Words.{clock_at}
use Rattle.rgo_core.specs.Records.{ClockRec}
use Rattle.rgo_core_steps.specs.Seats.{IsSeatOf}
use Rattle.rgo_runtime.specs.Crews.{IsNewborn}
use Rattle.rgo_runtime.proofs.leaving.All.{both_left, but_last, last_gone, last_one, nobody_leaves, none_left}
use Rattle.rgo_runtime.proofs.lists.Queues.{nothing_in}
use Rattle.rgo_runtime.proofs.retiring.retire_newborns.Goals as goal

pub loop-goroutine-init : goal.loop-goroutine-init
loop-goroutine-init c = record { gone = []; is = refl; all = c.requires.all; left = nobody_leaves c.args.run.now.setup c.args.left.now }

pub retire_or_give_up-requires-clause-of : goal.retire_or_give_up-requires-clause-of
retire_or_give_up-requires-clause-of c =
    let P = IsNewborn c.args.run.now in
    let is = last_one P c.loop-goroutine.born.items c.pop.new.self.items c.in-Some.goroutine c.in-Some.ensures.items c.loop-goroutine.invariant.all in
    is.of

pub retire_or_give_up-requires-clause-tidy : goal.retire_or_give_up-requires-clause-tidy
retire_or_give_up-requires-clause-tidy c =
    let P = IsNewborn c.args.run.now in
    let is = last_one P c.loop-goroutine.born.items c.pop.new.self.items c.in-Some.goroutine c.in-Some.ensures.items c.loop-goroutine.invariant.all in
    is.tidy

-- it has counted nothing
pub retire_or_give_up-requires-clause-place : goal.retire_or_give_up-requires-clause-place
retire_or_give_up-requires-clause-place c =
    let P = IsNewborn c.args.run.now in
    let is = last_one P c.loop-goroutine.born.items c.pop.new.self.items c.in-Some.goroutine c.in-Some.ensures.items c.loop-goroutine.invariant.all in
    inr (ap (λ (k : ClockRec). k.share) is.blank)

pub retire_or_give_up-requires-clause-own : goal.retire_or_give_up-requires-clause-own
retire_or_give_up-requires-clause-own c =
    subst (λ (id : TableId). IsSeatOf id c.args.run.now.table clock_at) (sym c.loop-goroutine.invariant.left.own) c.requires.own

pub loop-goroutine-preserved : goal.loop-goroutine-preserved
loop-goroutine-preserved c =
    let before = c.loop-goroutine.born.items in
    let rest = c.pop.new.self.items in
    let go = c.in-Some.goroutine in
    let gone = c.loop-goroutine.invariant.gone in
    record {
      gone = gone ++ go ∷ [];
      is = last_gone c.args.born.items gone before rest go c.loop-goroutine.invariant.is c.in-Some.ensures.items;
      all = but_last (IsNewborn c.args.run.now) before rest (go ∷ []) c.in-Some.ensures.items c.loop-goroutine.invariant.all;
      left = both_left c.args.run.now.setup gone (go ∷ []) c.args.left.now c.loop-goroutine.left c.retire_or_give_up.new.left
          c.loop-goroutine.invariant.left c.retire_or_give_up.ensures;
    }

pub returns : goal.returns
returns c =
    let left = c.loop-goroutine.born in
    let is = c.loop-goroutine.invariant in
    let none : length left.items ≡ 0 = omega (arith, c.in_default.ensures.cases.0, left.ok.0) in
    none_left c.args.run.now.setup (reverse c.args.born.items) is.gone left.items c.args.left.now c.loop-goroutine.left is.is
    (nothing_in left.items none) is.left
