use Rattle.rgo_code_text.proofs.readings.Refusing.{too_large_exactly}
use Rattle.rgo_code_text.proofs.reading.read_code.Goals as goal

pub returns-clause-large : goal.returns-clause-large
returns-clause-large c =
    too_large_exactly c.args.text.now c.read_few.result c.read_few.ensures c.if-text-gt-MOST_BYTES.false
