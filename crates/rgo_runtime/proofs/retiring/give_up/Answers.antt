-- The goroutine adds its row and those of its children, which were not adopted. They have counted nothing (`children_new`), so no share is
-- missing.
use Rattle.std.proofs.Common.{refl}
use Rattle.rgo_table_runs.specs.Goroutine.Goroutines.{record_of_goroutine, rows_of_children}
use Rattle.rgo_runtime.proofs.leaving.One.{children_new, given_up, noted, retired_either}
use Rattle.rgo_runtime.specs.Crews.{end_mark, member_of}
use Rattle.rgo_runtime.proofs.retiring.give_up.Goals as goal

pub returns-clause-retired : goal.returns-clause-retired
returns-clause-retired c k =
    let go = c.args.goroutine in
    let r = c.args.run.now in
    let its = record_of_goroutine r.setup go in
    let how = noted go.first c.args.first.now c.save_counts.new.first its.clock.first c.save_counts.ensures.first c.requires.of.first in
    rw (c.give_up.ensures.records, c.save_counts.ensures.share r c.requires.of)
    (retired_either c.args.seat.now.me.0.records (rows_of_children r.setup go.children.items) go.number its (children_new r go.children.items c.requires.of.all) c.args.shares.now
    (end_mark c.args.first.now) (end_mark c.save_counts.new.first) c.requires.tidy how k c.requires.place)

pub returns-clause-kept : goal.returns-clause-kept
returns-clause-kept c =
    let go = c.args.goroutine in
    let r = c.args.run.now in
    rw c.give_up.ensures.records
    (given_up r (member_of r.setup go) go.children.items c.args.seat.now.me.0.records refl c.requires.of.all)
