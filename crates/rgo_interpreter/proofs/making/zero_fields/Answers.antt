use Rattle.std.proofs.Common.{◌≡◌, rules}
use Rattle.std.proofs.lemmas.Iterator.{YieldsList-from_slice, YieldsList-from_map}
use Rattle.std.proofs.lemmas.Iterator.Adapters.{fact_from_collect}
use Rattle.std.proofs.lemmas.Iterator.Consumers.{YieldsList-at}
use Rattle.rgo_memory.specs.Values.{zero_of}
use Rattle.rgo_interpreter.proofs.making.zero_fields.Goals as goal

pub returns : goal.returns
returns c =
    fact_from_collect (λ zeros cells. cells.items ≡ zeros) c.collect.result c.collect.ensures.ran
    (YieldsList-from_map _ zero_of
    (YieldsList-at c.map.ensures.source (YieldsList-from_slice c.args.types.now c.iter.ensures.rest))
    c.map.ensures.closure (λ x r q called. search rules))
