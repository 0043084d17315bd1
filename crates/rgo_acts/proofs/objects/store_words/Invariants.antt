use Rattle.std.proofs.Common.{◌≡◌, ◌+◌, ◌<◌, ℕ, List}
use Rattle.rgo_core.specs.Rule.declared.accesses.Access.{Access}
use Rattle.rgo_core.specs.runs.Opening.{first_of}
use Rattle.rgo_core.specs.runs.Plans.{setup_of}
use Rattle.rgo_core.specs.Records.{accesses}
use Rattle.rgo_core_steps.specs.Grown.{SeatGrew}
use Rattle.rgo_core_steps.specs.Seats.{HasOne, HasPossible, Settles, settled}
use Rattle.rgo_holding.specs.Known.{own_page}
use Rattle.rgo_acts.specs.Objects.{IsPlacedInPage}
use Rattle.rgo_acts.proofs.new_objects.Stores.{IsSoFar}
use Rattle.rgo_acts.proofs.objects.store_words.Given as goal

abbrev pub invariant-loop-i : goal.invariant-loop-i
invariant-loop-i g l =
    let T = setup_of l.table.shared.key in
    let c = settled T l.fn.behind l.fn.seat.me in
    record {
      own : l.seat.table_id ≡ l.fn.seat.table_id;
      alone : HasOne T l.seat.me;
      settles : Settles T l.left l.seat.me;
      so_far : (slot : ℕ) (p : IsPlacedInPage T c slot l.page l.new)
          → IsSoFar T c (own_page slot l.page) p.object.object l.new.words l.i (settled T l.left l.seat.me);
      grew : (es : List Access) × SeatGrew accesses (first_of T.code) l.fn.seat.me es l.seat.me;
      possible : 0 < l.i → HasPossible T l.seat.me;
      left : 0 < l.i → l.left ≡ 0;
      counted : l.steps ≡ l.fn.steps + l.i;
    }
