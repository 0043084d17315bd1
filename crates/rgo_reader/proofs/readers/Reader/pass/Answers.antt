use Rattle.std.proofs.Common.{sym}
use Rattle.std.proofs.lemmas.List.{drop-drop}
use Rattle.rgo_reader.proofs.readers.Reader.pass.Goals as goal

pub returns-then-self : goal.returns-then-self
returns-then-self c = rw (← c.self.view_is) (sym (drop-drop 1 c.self.inside.at c.self.inside.lexemes.now))
