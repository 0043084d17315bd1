use Rattle.std.proofs.Common.{[]}
use Rattle.rgo_run.proofs.report.write_or_no_memory.Goals as goal

pub returns-in-Err : goal.returns-in-Err
returns-in-Err g c = rw c.in-Err.is (c.tell.ensures [])
