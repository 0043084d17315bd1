use Rattle.rgo_chan.proofs.Waiting as lemmas
use Rattle.rgo_chan.proofs.laws.receive_waits.Goals as goal

pub returns-clause-not_ready : goal.returns-clause-not_ready
returns-clause-not_ready c = lemmas.receive_waits

pub returns-clause-nil : goal.returns-clause-nil
returns-clause-nil c = lemmas.nil_receive_waits
