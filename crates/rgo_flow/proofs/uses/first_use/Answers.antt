use Rattle.std.proofs.Common.{◌<◌, arith}
use Rattle.rgo_flow.proofs.Choices.{chosen}
use Rattle.rgo_flow.proofs.uses.first_use.Goals as goal
use Rattle.rgo_flow.proofs.uses.first_use.Goals.{else-read-to-via-then-read-to+else-read-written, else-read-to-via-else-read-to}

pub returns-then-read-written : goal.returns-then-read-written
returns-then-read-written c =
    let r = chosen _ _ _ c.next_from-read.ensures.is (omega (arith, c.requires.to)) in
    record {
      at = c.next_from-read.result;
      from = r.1;
      to = c.if-read-to.true;
      read = r.0;
      before = λ m a b w. absurd (omega (arith, c.next_from-written.ensures.least m w a));
    }

pub returns-then-written-to : goal.returns-then-written-to
returns-then-written-to c =
    let r = chosen _ _ _ c.next_from-written.ensures.is (omega (arith, c.requires.to)) in
    let less : c.next_from-written.result < c.next_from-read.result =
    elim c.else-read-to.branch [
      | else-read-to-via-then-read-to+else-read-written w ↦ omega arith
      | else-read-to-via-else-read-to w ↦ omega arith
    ] in
    record {
      at = c.next_from-written.result;
      from = r.1;
      to = c.if-written-to.true;
      written = r.0;
      before = λ m a b w. absurd (omega (arith, c.next_from-read.ensures.least m w a));
    }

pub returns-else-written-to : goal.returns-else-written-to
returns-else-written-to c =
    let less : c.args.to < c.next_from-read.result =
    elim c.else-read-to.branch [
      | else-read-to-via-then-read-to+else-read-written w ↦ omega arith
      | else-read-to-via-else-read-to w ↦ omega arith
    ] in
    record {
      unread = λ m a b w. absurd (omega (arith, c.next_from-read.ensures.least m w a));
      unwritten = λ m a b w. absurd (omega (arith, c.next_from-written.ensures.least m w a));
    }
