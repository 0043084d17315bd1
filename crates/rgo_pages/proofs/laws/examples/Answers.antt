use Rattle.rgo_pages.proofs.Examples.{page_examples}
use Rattle.rgo_pages.proofs.laws.examples.Goals as goal

pub returns : goal.returns
returns c = page_examples
