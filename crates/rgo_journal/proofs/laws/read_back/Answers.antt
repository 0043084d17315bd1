use Rattle.rgo_journal.proofs.OneJournal.{read_back}
use Rattle.rgo_journal.proofs.laws.read_back.Goals as goal

pub returns : goal.returns
returns c = read_back
