-- What goroutines have counted so far, some of which have retired while others have more turns. It is the same statement as for those that
-- have retired, over the rows of both; each turn of the loop adds the row of one turn.
use Rattle.std.proofs.Common.{◌≡◌, inl, inr, ⊎_elim, ℕ, ◌+◌, ◌<◌, ◌≤◌, List, [], ◌∷◌, ◌++◌, All, append_assoc, get_or, length, map, take, MatchOption, Option, None, Some, slice_get, slice_set, ap, sym, subst, ◌∙◌, arith}
use Rattle.std.proofs.lemmas.List.{map_more}
use Rattle.std.proofs.lemmas.List.Elements.{All-get_or}
use Rattle.rgo_core.specs.Records.{Record}
use Rattle.rgo_core.specs.Rule.Views.{HasRow, Rows}
use Rattle.rgo_core_steps.specs.declared.clock.Mark as clock
use Rattle.rgo_table_runs.specs.Goroutine.Acts.Runs.{Run}
use Rattle.rgo_table_runs.specs.Goroutine.Goroutines.{IsOf, IsTidy, record_of_goroutine}
use Rattle.rgo_table_runs.specs.Goroutine.declared.goroutine.Goroutine.{Goroutine}
use Rattle.rgo_sound.specs.RegionMachine.Counts.{Counts}
use Rattle.rgo_sound.specs.RegionMachine.States.{Mark}
use Rattle.rgo_sound.specs.Tally.{no_share}
use Rattle.rgo_table_runs.specs.closing.Ends.{IsFirst}
use Rattle.rgo_runtime.specs.Crews.{AreRetired, IsOfCrew, end_mark}
use Rattle.rgo_runtime.specs.Leaving.{goroutine_row, turn_row}
use Rattle.rgo_runtime.specs.Turns.{Turn}
use Rattle.rgo_runtime.proofs.leaving.One.{none_in, noted, retired_more}

-- the same rows, in whatever order and however often each is there
pub same_rows : (rows others : Rows Record) (shares : List Counts) (first : Option Mark) → ((g : ℕ) (c : Record) → HasRow rows g c → HasRow others g c)
    → ((g : ℕ) (c : Record) → HasRow others g c → HasRow rows g c) → AreRetired rows shares first → AreRetired others shares first
same_rows rows others shares first there back k = record {
  tidy = λ g c has. k.tidy g c (back g c has);
  is_first = first_too first k.is_first;
  its = λ g c has. ⊎_elim
      (λ (q : (d : Record) × HasRow rows g d × (slice_get shares g ≡ Some d.clock.share)). inl (q.0, there g q.0 q.1, q.2))
      (λ (q : (length shares ≤ g) × (c.clock.share ≡ no_share)). inr q)
      (k.its g c (back g c has));
  others = λ g share at. ⊎_elim
      (λ (q : (c : Record) × HasRow rows g c × (c.clock.share ≡ share)). inl (q.0, there g q.0 q.1, q.2))
      (λ (none : share ≡ no_share). inr none)
      (k.others g share at);
}
  where
    first_too : (mark : Option Mark) → IsFirst rows mark → IsFirst others mark
    first_too None none = λ g c has. none g c (back g c has)
    first_too (Some mark) one = (one.0, one.1, there one.0 one.1 one.2, one.3)

-- the rows of the first i turns, and then that of the next one, whose goroutine is go
row_comes : (r : Run) (rows : Rows Record) (ts : List Turn) (i : ℕ) (t : Turn) (go : Goroutine) → i < length ts → t ≡ get_or ts i t → go ≡ t.goroutine
    → (rows ++ map (turn_row r.setup) (take i ts)) ++ goroutine_row r.setup go ∷ [] ≡ rows ++ map (turn_row r.setup) (take (i + 1) ts)
row_comes r rows ts i t go within at is =
    let row = turn_row r.setup in
    let before : Rows Record = map row (take i ts) in
    let more : before ++ goroutine_row r.setup go ∷ [] ≡ map row (take (i + 1) ts) =
    ap (λ (x : Goroutine). before ++ goroutine_row r.setup x ∷ []) is ∙ ap (λ (x : Turn). before ++ row x ∷ []) at ∙ sym (map_more row ts i t within) in
    append_assoc rows before (goroutine_row r.setup go ∷ []) ∙ ap (λ (l : Rows Record). rows ++ l) more

-- `go` is the goroutine of the next turn. What it has counted is put at its place, and how it has ended the run is recorded: now one more
-- row is known.
pub one_noted : (r : Run) (rows : Rows Record) (ts : List Turn) (n i : ℕ) (t : Turn) (go : Goroutine) (shares then : List Counts)
    (old new : Option clock.Mark) → i < length ts → t ≡ get_or ts i t → go ≡ t.goroutine → All (IsOfCrew r n) ts → length shares ≡ n
    → IsOf t.run go → IsTidy (record_of_goroutine t.run.setup go)
    → ((q : Run) → IsOf q go → then ≡ slice_set shares go.number (record_of_goroutine q.setup go).clock.share)
    → MatchOption go.first (new ≡ old) (λ mark. new ≡ Some mark) → AreRetired (rows ++ map (turn_row r.setup) (take i ts)) shares (end_mark old)
    → AreRetired (rows ++ map (turn_row r.setup) (take (i + 1) ts)) then (end_mark new)
one_noted r rows ts n i t go shares then old new within at is all places of tidy put says k =
    let it : IsOfCrew r n t = subst (IsOfCrew r n) (sym at) (All-get_or (IsOfCrew r n) ts i t within all) in
    let its = record_of_goroutine r.setup go in
    let of_run : IsOf r go = subst (λ (q : Run). IsOf q go) it.run of in
    let tidy_too : IsTidy its = subst (λ (q : Run). IsTidy (record_of_goroutine q.setup go)) it.run tidy in
    let how = noted go.first old new its.clock.first says of_run.first in
    let place : go.number < length shares = omega (arith, it.place, places, ap (λ (x : Goroutine). x.number) is) in
    let before : Rows Record = rows ++ map (turn_row r.setup) (take i ts) in
    subst (λ (l : Rows Record). AreRetired l then (end_mark new)) (row_comes r rows ts i t go within at is)
    (subst (λ (ss : List Counts). AreRetired (before ++ goroutine_row r.setup go ∷ []) ss (end_mark new)) (sym (put r of_run))
    (retired_more before [] go.number its (λ g d has. absurd (none_in (g, d) has)) shares (end_mark old) (end_mark new) tidy_too how k place))
