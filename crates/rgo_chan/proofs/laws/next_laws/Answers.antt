use Rattle.rgo_chan.proofs.Again as lemmas
use Rattle.rgo_chan.proofs.laws.next_laws.Goals as goal

pub returns-clause-send : goal.returns-clause-send
returns-clause-send c = lemmas.send_then

pub returns-clause-receive : goal.returns-clause-receive
returns-clause-receive c = lemmas.receive_then

pub returns-clause-close : goal.returns-clause-close
returns-clause-close c = lemmas.close_then

pub returns-clause-acknowledge : goal.returns-clause-acknowledge
returns-clause-acknowledge c = lemmas.acknowledge_then
