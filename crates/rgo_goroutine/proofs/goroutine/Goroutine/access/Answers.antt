use Rattle.rgo_goroutine.proofs.Instructing.{come_to}
use Rattle.rgo_goroutine.proofs.goroutine.Goroutine.access.Goals as goal

pub unless_trapped-requires : goal.unless_trapped-requires
unless_trapped-requires g c = record {
  come = (
    c.args.self.now,
    come_to c.args.run.now c.args.self.now c.args.next.now c.args.turning.now c.requires.can c.access_word-done.new.actor
        c.access_word-done.result c.access_word-done.ensures,
  );
}
