use Rattle.std.proofs.Common.{refl, string_bytes}
use Rattle.rgo_run.specs.declared.replaying.ReplayEnding.TheVariants.{NoJournal}
use Rattle.rgo_run.proofs.ReplayLemmas.{number_reported, other_reported}
use Rattle.rgo_run.proofs.replaying.report_replay.Goals as goal

pub returns-in-NoJournal : goal.returns-in-NoJournal
returns-in-NoJournal g c = rw c.in-NoJournal.is
    (number_reported string_bytes c.args.text.now (NoJournal c.in-NoJournal.line) c.journal_line-line.result 1 _ _ tt refl
    c.journal_line-line.ensures c.write_or_no_memory.ensures)

pub returns-in-Other : goal.returns-in-Other
returns-in-Other g c = rw c.in-Other.is
    (other_reported c.args.text.now c.in-Other.ending _ _ (c.requires.written c.in-Other.ending c.in-Other.is) c.report.ensures)
