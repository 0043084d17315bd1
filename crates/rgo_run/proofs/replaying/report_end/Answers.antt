use Rattle.std.proofs.Common.{inl}
use Rattle.rgo_run.proofs.ReplayLemmas.{deadlock_reported, ended_reported, fault_reported, memory_reported}
use Rattle.rgo_run.proofs.replaying.report_end.Goals as goal

pub returns-in-Ended : goal.returns-in-Ended
returns-in-Ended g c = rw c.in-Ended.is
    (ended_reported c.args.text.now c.in-Ended.end _ _ (rw c.of_run.ensures at c.report.ensures))

pub returns-in-Deadlock : goal.returns-in-Deadlock
returns-in-Deadlock g c = rw c.in-Deadlock.is
    (deadlock_reported c.args.text.now _ _ (rw c.of_run-in-Deadlock.ensures at c.report-in-Deadlock.ensures))

pub returns-in-Unfinished : goal.returns-in-Unfinished
returns-in-Unfinished g c = rw c.in-Unfinished.is (inl c.write.ensures)

pub returns-in-WriteFault : goal.returns-in-WriteFault
returns-in-WriteFault g c = rw c.in-WriteFault.is
    (fault_reported c.args.text.now _ _ (rw c.of_run-in-WriteFault.ensures at c.report-in-WriteFault.ensures))

pub returns-in-NoMemory : goal.returns-in-NoMemory
returns-in-NoMemory g c = rw c.in-NoMemory.is
    (memory_reported c.args.text.now _ _ (rw c.of_run-in-NoMemory.ensures at c.report-in-NoMemory.ensures))
