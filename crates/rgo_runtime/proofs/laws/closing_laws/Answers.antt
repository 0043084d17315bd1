use Rattle.rgo_runtime.proofs.ending.Closing.{closes_anyway, closes_whole}
use Rattle.rgo_runtime.proofs.laws.closing_laws.Goals as goal

pub returns-clause-anyway : goal.returns-clause-anyway
returns-clause-anyway c = closes_anyway

pub returns-clause-whole : goal.returns-clause-whole
returns-clause-whole c = closes_whole
