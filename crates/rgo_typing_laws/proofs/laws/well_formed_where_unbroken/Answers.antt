use Rattle.rgo_typing_laws.proofs.Headers.{grammar_has_headers}
use Rattle.rgo_typing_laws.proofs.Needed.{headers_are_needed}
use Rattle.rgo_typing_laws.proofs.Programs.{well_formed, typed_ends, parsed_well}
use Rattle.rgo_typing_laws.proofs.laws.well_formed_where_unbroken.Goals as goal

pub returns : goal.returns
returns c = record {
  well_formed = well_formed;
  ends = typed_ends;
  headers = grammar_has_headers;
  parsed = parsed_well;
  needed = headers_are_needed;
}
