-- Which records are possible: what the rule keeps of a record (`Occurs`) is a table of this core.
use Rattle.std.proofs.Common.{ℕ, [], ◌∷◌, refl, arith}
use Rattle.rgo_core_rule.specs.Steps.{Occurs}
use Rattle.rgo_core_rule.proofs.Occurring.{still_occurs}
use Rattle.rgo_core_rule.proofs.Lists.{at_below}
use Rattle.rgo_core.specs.Core.{Core, IsPossible, Setup}
use Rattle.rgo_core.specs.runs.Opening.{first_of, opening_table}
use Rattle.rgo_core.specs.runs.Possible.{FirstPossible, OccursPossible, PossibleExamples, StillPossible}
use Rattle.rgo_core.specs.Records.{Record, accesses}
use Rattle.rgo_core.proofs.steps.Lift.{few_records}
use Rattle.rgo_core.proofs.Lists.{elem_of, get_of}
use Rattle.rgo_core.proofs.runs.Opening.{opening_law}

pub is_possible : OccursPossible
is_possible T g c o = record {
  words = o.words;
  recs = o.recs;
  events = o.run;
  s = o.explains.0;
  core = o.explains.1;
  is_c = get_of o.recs g c o.its;
}

occurs : (T : Setup) (g : ℕ) (c : Record) → IsPossible T g c → Occurs (Core T) g c
occurs T g c x = record { words = x.words; recs = x.recs; run = x.events; explains = (x.s, x.core); its = elem_of x.recs g c x.is_c }

pub still_possible : StillPossible
still_possible T g c d x still = is_possible T g d (still_occurs accesses (Core T) g c d still (occurs T g c x))

pub opens_possible : (T : Setup) → Core T (opening_table T) (first_of T.code ∷ []) [] → IsPossible T 0 (first_of T.code)
opens_possible T core = record {
  words = opening_table T;
  recs = first_of T.code ∷ [];
  events = [];
  s = core.0;
  core = core.1;
  is_c = refl;
}

pub first_possible : FirstPossible
first_possible T checked written constants capped = opens_possible T (opening_law T checked written constants capped)

pub possible_examples : PossibleExamples
possible_examples = record {
  main = first_possible;
  unnumbered = λ T c x.
      let few = few_records x in
      let low = at_below x.recs 1000000 c (elem_of x.recs 1000000 c x.is_c) in
      let cap = x.core.capped in
      omega arith;
}
