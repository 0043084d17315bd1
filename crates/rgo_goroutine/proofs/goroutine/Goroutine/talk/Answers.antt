use Rattle.rgo_goroutine.proofs.Instructing.{talked_to}
use Rattle.rgo_goroutine.proofs.goroutine.Goroutine.talk.Goals as goal

pub after_talk-requires : goal.after_talk-requires
after_talk-requires g c = record {
  talked = (
    c.args.self.now,
    talked_to c.args.run.now c.args.self.now c.args.next.now c.args.turning.now c.requires.at c.requires.noted c.operate-talked.new.actor
        c.operate-talked.result c.operate-talked.ensures,
  );
}
