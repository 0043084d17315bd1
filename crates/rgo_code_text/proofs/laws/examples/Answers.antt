use Rattle.rgo_code_text.proofs.readings.PrintableExamples as printable
use Rattle.rgo_code_text.proofs.laws.examples.Goals as goal

pub returns : goal.returns
returns c = printable.examples
