-- What a driver has when all goroutines have left and the table is closed. `family_is_all` carries it: the rows at the driver's seat have
-- `main` and every child of a row, so they are all goroutines of the run. Then a row of the view is that of its number, and what was
-- counted, printed and marked in the rows is so of the whole run.
use lib.ListN.{get_elem?}
use mathlib.Core.Option.{some}
use Rattle.std.proofs.Common.{◌≡◌, ℕ, false, List, ◌++◌, Option, None, Some, length}
use Rattle.rgo_core.proofs.Lists.{get_of}
use Rattle.rgo_core.specs.Core.{Setup}
use Rattle.rgo_core.specs.Records.{Drawn, Record}
use Rattle.rgo_core.specs.Rule.Views.{HasRow, Rows}
use Rattle.rgo_core.specs.Rule.declared.accesses.View.{View}
use Rattle.rgo_core_steps.specs.Outcomes.{ClosesTable, HasFamily}
use Rattle.rgo_sound.specs.RegionMachine.Counts.{Counts}
use Rattle.rgo_sound.specs.RegionMachine.States.{Mark}
use Rattle.rgo_table_runs.proofs.closing.Closed.{has_row}
use Rattle.rgo_table_runs.proofs.closing.Gathering.{family_is_all, gathered_are_given, shares_are_all}
use Rattle.rgo_table_runs.proofs.closing.Members.{all_retired}
use Rattle.rgo_table_runs.specs.closing.Ends.{IsFirst}
use Rattle.rgo_table_runs.specs.closing.Gathering.{IsDrawnIn, numbered_rows}
use Rattle.rgo_table_runs.specs.closing.Prints.{AllGiven, TicketsInOrder, SomePrinted}
use Rattle.rgo_table_runs.specs.closing.Rows.{AreAll}
use Rattle.rgo_runtime.specs.Closing.{AreInOrder, ClosesAnyway, ClosesWhole, ClosesWith}
use Rattle.rgo_runtime.specs.Crews.{AreRetired}
use Rattle.rgo_runtime.proofs.leaving.One.{family_left, has_shares, in_either, in_left}

module _ (T : Setup) (words : List ℕ) (v : View Record) (e : ClosesTable T words v) (shares : List Counts) (first : Option Mark)
    (given waiting : List Drawn) (turns : AreInOrder given) (gone : AreRetired v.records shares first) where
  abbrev rows : Rows Record
  rows = numbered_rows e.recs

  all_of : HasFamily v → AreAll v rows
  all_of family = family_is_all T words v e family (λ g c has. (gone.tidy g c has).give)

  -- at the close each row of the view is that of its number
  row_there : (all : AreAll v rows) (g : ℕ) (c : Record) → HasRow v.records g c → HasRow rows g c
  row_there all g c has = has_row e rows all g c (get_of e.recs g c (e.here g c has).0)

  print_there : AreAll v rows → (d : Drawn) → SomePrinted v.records d → SomePrinted rows d
  print_there all d p = record {
    goroutine = p.goroutine;
    its = p.its;
    has = row_there all p.goroutine p.its p.has;
    place = p.place;
    there = p.there;
  }

  print_here : AreAll v rows → (d : Drawn) → SomePrinted rows d → SomePrinted v.records d
  print_here all d p = record {
    goroutine = p.goroutine;
    its = p.its;
    has = all.here p.goroutine p.its p.has;
    place = p.place;
    there = p.there;
  }

  first_there : AreAll v rows → (first : Option Mark) → IsFirst v.records first → IsFirst rows first
  first_there all None none = λ g c has. none g c (all.here g c has)
  first_there all (Some mark) set = (set.0, set.1, row_there all set.0 set.1 set.2, set.3)

  -- what holds of each print that has gone out
  module _ (family : HasFamily v) (are : (d : Drawn) → IsDrawnIn (given ++ waiting) d → (d.is_void ≡ false) × SomePrinted v.records d) where
    given_is : (i : ℕ) (d : Drawn) → get_elem? given i ≡ some d → (d.is_void ≡ false) × SomePrinted v.records d
    given_is i d at = are d (in_left given waiting d (i, at))

    in_order : TicketsInOrder rows given
    in_order = record {
      are = λ i d at. print_there (all_of family) d (given_is i d at).1;
      next = turns;
      valid = λ i d at. (given_is i d at).0;
    }

    pub closes_with : ClosesWith T words v e shares first given
    closes_with = record {
      all = all_of family;
      order = in_order;
      is_first = first_there (all_of family) first gone.is_first;
      sum = shares_are_all T words v e rows shares (all_of family) (has_shares T words v e shares first gone);
    }

    -- if each print that is not void has gone out or waits
    pub all_out : ((d : Drawn) → IsDrawnIn waiting d → d.ticket ≡ length given → ⊥)
        → ((d : Drawn) → SomePrinted v.records d → d.is_void ≡ false → IsDrawnIn (given ++ waiting) d) → AllGiven rows given
    all_out next each = gathered_are_given T words v e rows given waiting (all_of family) in_order (record {
      each = λ d p valid. in_either given waiting d (each d (print_here (all_of family) d p) valid);
      next = next;
    })

pub closes_anyway : ClosesAnyway
closes_anyway T words v e shares first given waiting nobody turns gone =
    let left = family_left v (given ++ waiting) nobody in
    closes_with T words v e shares first given waiting turns gone left.0 left.1

pub closes_whole : ClosesWhole
closes_whole T words v e shares first given waiting none turn gone =
    let left = all_retired v (given ++ waiting) none in (
      closes_with T words v e shares first given waiting turn.turns gone left.0 left.2,
      all_out T words v e shares first given waiting turn.turns gone left.0 left.2 turn.next left.1,
    )
