-- Prints first, then children. If the second call fails, the goroutine still has its children (`keeps_prints_only`); so the clause `kept`
-- holds in each way out.
use Rattle.std.proofs.Common.{◌∷◌, subst, sym}
use Rattle.std.specs.List.{All}
use Rattle.std.proofs.lemmas.List.Elements.{All-same}
use Rattle.rgo_table_runs.specs.Goroutine.Goroutines.{IsOf}
use Rattle.rgo_table_runs.specs.Goroutine.declared.goroutine.Goroutine.{Goroutine}
use Rattle.rgo_runtime.specs.Crews.{IsNewborn, DriverKeeps, drawn, its_member, member_of, members}
use Rattle.rgo_runtime.specs.Turns.{Turn}
use Rattle.rgo_runtime.proofs.crews.Parts.{adopts_newborn, keeps_collect, keeps_prints_only}
use Rattle.rgo_runtime.proofs.turns.Turn.collect.Goals as goal

pub returns-in_err-adopt-clause-kept : goal.returns-in_err-adopt-clause-kept
returns-in_err-adopt-clause-kept c =
    let r = c.self.inside.run.now in
    let go = c.as_mut-goroutine.result.now in
    let is = c.as_mut-goroutine.ensures.value in
    let list = c.args.born.now.items in
    let gathered = c.in_ok-gather.ensures in
    let none = c.in_err-adopt.ensures.adopts in
    subst (λ (x : Turn). DriverKeeps (its_member x ∷ members x.run.setup list) (drawn c.args.queue.now.waiting)
    (member_of r.setup c.adopt.new.self ∷ members x.run.setup c.adopt.new.into.items) (drawn c.gather.new.self.waiting)) c.self.view_is
    (subst (λ (x : Goroutine). DriverKeeps (member_of r.setup x ∷ members r.setup list) (drawn c.args.queue.now.waiting)
    (member_of r.setup c.adopt.new.self ∷ members r.setup c.adopt.new.into.items) (drawn c.gather.new.self.waiting)) is
    (keeps_prints_only r go c.gather.new.goroutine c.adopt.new.self c.args.queue.now.waiting c.gather.new.self.waiting
    c.in_ok-gather.field-0 list c.adopt.new.into.items (subst (IsOf r) (sym is) c.self.invariant.of) gathered.gathers none.0 none.1))

pub returns-in_err-adopt-clause-born : goal.returns-in_err-adopt-clause-born
returns-in_err-adopt-clause-born c =
    All-same (IsNewborn c.args.self.now.run) c.adopt.new.into.items c.args.born.now.items c.in_err-adopt.ensures.adopts.1 c.requires.born

pub returns-clause-born : goal.returns-clause-born
returns-clause-born c =
    let r = c.self.inside.run.now in
    let list = c.args.born.now.items in
    let longer = c.adopt.new.into.items in
    let of = subst (IsOf r) (sym c.as_mut-goroutine.ensures.value) c.self.invariant.of in
    subst (λ (x : Turn). All (IsNewborn x.run) list → All (IsNewborn x.run) longer) c.self.view_is
    (adopts_newborn r c.gather.new.goroutine c.adopt.new.self list longer c.in_ok-adopt.field-0
    (c.in_ok-gather.ensures.of r of) c.in_ok-adopt.ensures.adopts) c.requires.born

pub returns-clause-kept : goal.returns-clause-kept
returns-clause-kept c =
    let r = c.self.inside.run.now in
    let go = c.as_mut-goroutine.result.now in
    let is = c.as_mut-goroutine.ensures.value in
    let of = subst (IsOf r) (sym is) c.self.invariant.of in
    let list = c.args.born.now.items in
    let gathered = c.in_ok-gather.ensures in
    subst (λ (x : Turn). DriverKeeps (its_member x ∷ members x.run.setup list) (drawn c.args.queue.now.waiting)
    (member_of r.setup c.adopt.new.self ∷ members x.run.setup c.adopt.new.into.items) (drawn c.gather.new.self.waiting)) c.self.view_is
    (subst (λ (x : Goroutine). DriverKeeps (member_of r.setup x ∷ members r.setup list) (drawn c.args.queue.now.waiting)
    (member_of r.setup c.adopt.new.self ∷ members r.setup c.adopt.new.into.items) (drawn c.gather.new.self.waiting)) is
    (keeps_collect r go c.gather.new.goroutine c.adopt.new.self c.args.queue.now.waiting c.gather.new.self.waiting
    c.in_ok-gather.field-0 list c.adopt.new.into.items of gathered.gathers c.in_ok-adopt.field-0
    (gathered.of r of) c.in_ok-adopt.ensures.adopts))
