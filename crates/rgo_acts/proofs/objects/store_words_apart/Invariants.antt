use Rattle.std.proofs.Common.{◌≡◌, ◌+◌, ◌<◌, List}
use Rattle.rgo_core.specs.Rule.declared.accesses.Access.{Access}
use Rattle.rgo_core.specs.runs.Opening.{first_of}
use Rattle.rgo_core.specs.runs.Plans.{setup_of}
use Rattle.rgo_core.specs.Records.{accesses}
use Rattle.rgo_core_facts.specs.MemoryObjects.{data_pages_of}
use Rattle.rgo_core_steps.specs.Grown.{SeatGrew}
use Rattle.rgo_core_steps.specs.Seats.{HasOne, HasPossible, Settles, settled}
use Rattle.rgo_acts.specs.Objects.{IsSpreadOverPages}
use Rattle.rgo_acts.proofs.new_objects.Apart.{IsSoFarApart}
use Rattle.rgo_acts.proofs.objects.store_words_apart.Given as goal

abbrev pub invariant-loop-i : goal.invariant-loop-i
invariant-loop-i g l =
    let T = setup_of l.table.shared.key in
    let c = settled T l.fn.behind l.fn.seat.me in
    record {
      own : l.seat.table_id ≡ l.fn.seat.table_id;
      alone : HasOne T l.seat.me;
      settles : Settles T l.left l.seat.me;
      so_far : (p : IsSpreadOverPages T c l.pages l.new)
          → IsSoFarApart T c p.object.object (l.new.words + data_pages_of T.sizes.page_words l.new.words l.new.before) l.i
          (settled T l.left l.seat.me);
      grew : (es : List Access) × SeatGrew accesses (first_of T.code) l.fn.seat.me es l.seat.me;
      possible : 0 < l.i → HasPossible T l.seat.me;
      left : 0 < l.i → l.left ≡ 0;
      counted : l.steps ≡ l.fn.steps + l.i;
    }
