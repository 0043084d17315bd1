-- The goroutine adds one row and no children. Since nothing is left to gather or adopt, it is as a member the row itself (`as_row`).
use Rattle.std.proofs.Common.{[], ap, map}
use Rattle.rgo_table_runs.specs.Goroutine.Goroutines.{drawn_by, numbers, record_of_goroutine}
use Rattle.rgo_runtime.proofs.leaving.One.{as_row, none_in, noted, one_retires, retired_more}
use Rattle.rgo_runtime.specs.Crews.{end_mark, member_of}
use Rattle.rgo_runtime.proofs.retiring.retire.Goals as goal

pub returns-clause-retired : goal.returns-clause-retired
returns-clause-retired c k =
    let go = c.args.goroutine in
    let r = c.args.run.now in
    let its = record_of_goroutine r.setup go in
    let how = noted go.first c.args.first.now c.save_counts.new.first its.clock.first c.save_counts.ensures.first c.requires.of.first in
    rw (c.retire.ensures.records, c.save_counts.ensures.share r c.requires.of)
    (retired_more c.args.seat.now.me.0.records [] go.number its (λ g d t. absurd (none_in (g, d) t)) c.args.shares.now
    (end_mark c.args.first.now) (end_mark c.save_counts.new.first) c.requires.tidy how k c.requires.place)

pub returns-clause-kept : goal.returns-clause-kept
returns-clause-kept c =
    let go = c.args.goroutine in
    let m = member_of c.args.run.now.setup go in
    rw c.retire.ensures.records
    (one_retires m c.args.seat.now.me.0.records (m.number, m.its) (as_row m (ap (map drawn_by) c.requires.gathered) (ap numbers c.requires.adopted)))
