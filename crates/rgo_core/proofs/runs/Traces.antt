-- Small runs, computed.
use Rattle.std.proofs.Common.{refl}
use Rattle.rgo_core.specs.examples.Traces.{TraceExamples}

pub trace_examples : TraceExamples
trace_examples = record {
  opens = refl;
  prints = refl;
  tickets = refl;
  fills = refl;
  own_page = refl;
  gives = refl;
  counted = refl;
  calm = refl;
  no_page = refl;
  meets = refl;
  met = refl;
  first_sent = refl;
  second_sent = refl;
  third_sent = refl;
  received = refl;
  again = refl;
  unlocked = refl;
  taken = refl;
}
