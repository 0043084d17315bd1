-- A seat with the records of two goroutines, and the seats with one record each after it was split. Their numbers differ, so a split by
-- number separates them.
use Rattle.std.proofs.Common.{◌≡◌, ℕ, [], ◌∷◌, ap, sym, ◌∙◌, arith}
use lib.ListN.{get_elem?}
use Rattle.rgo_core.specs.Rule.Views.{HasRow, Me, Rows, number_in, number_of, record_in, rows_but, rows_for, view}
use Rattle.rgo_core.proofs.Rule.Rows.{two_rows}
use Rattle.rgo_core.specs.Core.{Setup}
use Rattle.rgo_core.specs.runs.Opening.{first_of}
use Rattle.rgo_core.specs.Records.{Record}
use Rattle.rgo_core_steps.specs.Seats.{HasTwo, mine, other, rest_of}
use Rattle.rgo_core_steps.specs.Starts.{StartedLaw}

module _ (T : Setup) (m : Me Record) (n : ℕ) (two : HasTwo T m n) where
  pub has_second : (c : Record) × HasRow m.0.records n c
  has_second = (other T m, (1, ap (λ (rows : Rows Record). get_elem? rows 1) two.records))

  own_row : rows_but n m.0.records ≡ (number_of m, mine T m) ∷ []
  own_row = ap (rows_but n) two.records ∙ (two_rows (number_of m) n (mine T m) (other T m) two.later).1

  other_row : rows_for n m.0.records ≡ (n, other T m) ∷ []
  other_row = ap (rows_for n) two.records ∙ (two_rows (number_of m) n (mine T m) (other T m) two.later).0

  pub left_is : ◌≡◌ {A = Me Record} (view (rows_but n m.0.records) m.0.seen, m.1) (view ((number_of m, mine T m) ∷ []) m.0.seen, [])
  left_is = λ j. (view (own_row j) m.0.seen, two.slots j)

  pub right_is : ◌≡◌ {A = Me Record} (view (rows_for n m.0.records) m.0.seen, []) (view ((n, other T m) ∷ []) m.0.seen, [])
  right_is = λ j. (view (other_row j) m.0.seen, [])

pub started_law : StartedLaw
started_law T q m w n t =
    let g = number_of m in
    let rows : w.0.records ≡ (g, t.after) ∷ (n, t.child) ∷ [] = t.both.0 in
    let own : number_of w ≡ g = ap number_in rows in
    let first : mine T w ≡ t.after = ap (record_in (first_of T.code)) rows in
    let second : other T w ≡ t.child = ap (λ (r : Rows Record). record_in (first_of T.code) (rest_of r)) rows in
    let pair : ◌≡◌ {A = Rows Record} ((number_of w, mine T w) ∷ (n, other T w) ∷ []) ((g, t.after) ∷ (n, t.child) ∷ []) =
    λ j. (own j, first j) ∷ (n, second j) ∷ [] in
    let less = t.later in
    (record { records = rows ∙ sym pair; slots = t.both.1; later = omega arith }, own, first ∙ t.tells_so.0, second ∙ t.tells_so.1)
