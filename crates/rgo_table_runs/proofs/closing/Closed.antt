-- What a driver has when the table is closed gives the run of the program. The rule of the table gives the run; what is left is that the
-- driver's rows are all rows, and that its reason is the run's.
use Rattle.std.proofs.Common.{◌≡◌, ℕ, zero, suc, ◌≤◌, List, [], ◌∷◌, Option, Some, None, length, map, take, slice_get, refl, ap, sym, subst, ◌∙◌, arith}
use Rattle.std.proofs.lemmas.Option.{same_Some}
use Rattle.std.specs.Io.KnownBytes.{Appends}
use Rattle.rgo_core.proofs.Lists.{get_of}
use Rattle.rgo_core.specs.Core.{CoreAt, Setup, layout}
use Rattle.rgo_core.specs.ties.Links.{left_to_free}
use Rattle.rgo_core.specs.Records.{ClockRec, Drawn, Record, all_counted, clock_of}
use Rattle.rgo_core.proofs.Memory.image.Stepped.{map_get}
use Rattle.rgo_core.specs.Rule.Lists.{flattened}
use Rattle.rgo_core.specs.Rule.Views.{HasRow, Rows}
use Rattle.rgo_core.specs.Rule.declared.accesses.View.{View}
use Rattle.rgo_core_steps.specs.Outcomes.{ClosesTable}
use Rattle.rgo_sound.specs.Machine.declared.ends.RunEnd.{RunEnd}
use Rattle.rgo_sound.specs.Machine.declared.ends.RunEnd.TheVariants as run_end
use Rattle.rgo_sound.specs.RegionMachine.Counts.{Counts}
use Rattle.rgo_sound.specs.RegionMachine.States.{Ended, Mark, RegionState, Stopped}
use Rattle.rgo_table_runs.specs.closing.Ends.{TableRunEnds, GaveOut, IsFirst, run_end_of_mark}
use Rattle.rgo_table_runs.specs.closing.Laws.{ClosedClaims, ClosedRuns, HasClosed, RowsAreAll, last_state, whole_run}
use Rattle.rgo_table_runs.specs.closing.Prints.{AllGiven, bytes_of}
use Rattle.rgo_table_runs.specs.closing.Rows.{AreAll, all_shares}
use Rattle.rgo_table_runs.proofs.claims.Claimed.{gives_claim}
use Rattle.rgo_table_runs.proofs.closing.Final.{WholeRun, by_deadlock, by_fault, by_instruction, by_limit, by_memory, by_shortage, by_steps}
use Rattle.rgo_table_runs.proofs.closing.Prints.{all_pieces, first_pieces, flattened_front, its_mark, no_mark, take_front}
use Rattle.rgo_table_runs.proofs.closing.Rows.{all_counts, all_rows, is_there as row_there, record_in, row_of}

find_clock : (recs : List Record) (g : ℕ) (c : ClockRec) → slice_get (map clock_of recs) g ≡ Some c
    → (d : Record) × (slice_get recs g ≡ Some d) × (d.clock ≡ c)
find_clock recs g c e = by (slice_get recs g) refl
  where
    by : (o : Option Record) → slice_get recs g ≡ o → (d : Record) × (slice_get recs g ≡ Some d) × (d.clock ≡ c)
    by (Some d) q = (d, q, same_Some d.clock c (sym (map_get clock_of recs g d q) ∙ e))
    by None q = absurd (let z : None ≡ Some c = sym (none_map recs g q) ∙ e in cc z)
      where
        none_map : (recs : List Record) (g : ℕ) → slice_get recs g ≡ None → slice_get (map clock_of recs) g ≡ None
        none_map [] g e = refl
        none_map (r ∷ rs) zero e = cc
        none_map (r ∷ rs) (suc g) e = none_map rs g e

module _ {T : Setup} {words : List ℕ} {v : View Record} (e : ClosesTable T words v) (rows : Rows Record) (all : AreAll v rows) where
  abbrev pub at_last : CoreAt T words e.recs (whole_run e) (last_state e)
  at_last = e.account.explains.1

  pub recs_are : e.recs ≡ map record_in rows
  recs_are = all_rows T words v e rows all

  pub has_row : (g : ℕ) (c : Record) → slice_get e.recs g ≡ Some c → HasRow rows g c
  has_row g c q = row_of T words v e rows all g c q

  pub is_there : (g : ℕ) (c : Record) → HasRow rows g c → slice_get e.recs g ≡ Some c
  is_there g c has = get_of e.recs g c (row_there T words v e rows all g c has)

  clock_here : (g : ℕ) (c : Record) → HasRow rows g c → slice_get (map clock_of e.recs) g ≡ Some c.clock
  clock_here g c has = map_get clock_of e.recs g c (is_there g c has)

  clock_row : (g : ℕ) (c : ClockRec) → slice_get (map clock_of e.recs) g ≡ Some c → (d : Record) × HasRow rows g d × (d.clock ≡ c)
  clock_row g c q = let f = find_clock e.recs g c q in (f.0, has_row g f.0 f.1, f.2)

  pub tally_is : all_counted (map clock_of e.recs) ≡ all_shares rows
  tally_is = ap (λ (l : List Record). all_counted (map clock_of l)) recs_are
      ∙ all_counts rows (λ i r q. let has : HasRow rows r.0 r.1 = (i, q) in
      (at_last.links r.0 r.1 (is_there r.0 r.1 has)).owed ∙ ap (left_to_free (layout T) words) (all.calm r.0 r.1 has))

  module _ (given : List Drawn) (first : Option Mark) (tested : ℕ) (end : RunEnd) (old new : Option (List ℕ))
      (k : HasClosed T words v e rows given first tested end old new) where
    abbrev s : RegionState
    s = last_state e

    abbrev before : List (List ℕ)
    before = at_last.story.before

    abbrev Run : RunEnd → Type 0
    Run end = WholeRun T.code T.sizes T.limits (whole_run e) s end (all_counted (map clock_of e.recs)) old new

    begins : (length given ≤ length before) × (bytes_of given ≡ flattened (take (length given) before))
    begins = first_pieces words (map clock_of e.recs) s before at_last.story.late at_last.story.clock rows clock_here clock_row given k.order

    whole : AllGiven rows given × Appends old new (bytes_of given) → Appends old new (flattened before)
    whole gave = subst (λ (b : List ℕ). Appends old new b)
        (all_pieces words (map clock_of e.recs) s before at_last.story.late at_last.story.clock rows clock_here clock_row given k.order gave.0) gave.1

    none : IsFirst rows None → s.mark ≡ None
    none = no_mark words (map clock_of e.recs) s before at_last.story.late at_last.story.clock rows clock_here clock_row

    mark_is : (mark : Mark) → IsFirst rows (Some mark) → s.mark ≡ Some mark
    mark_is = its_mark words (map clock_of e.recs) s before at_last.story.late at_last.story.clock rows clock_here clock_row

    by_mark : (mark : Mark) (end : RunEnd) → IsFirst rows (Some mark) → run_end_of_mark mark ≡ end → Appends old new (flattened before) → Run end
    by_mark (Ended x) end f is gave = subst Run is
        (by_instruction T.code T.sizes T.limits words (map clock_of e.recs) (whole_run e) s at_last.story x old new (mark_is (Ended x) f) gave)
    by_mark (Stopped l) end f is gave =
        by_limit T.code T.sizes T.limits words (map clock_of e.recs) (whole_run e) s at_last.story l end old new is (mark_is (Stopped l) f) gave

    steps_are : s.steps ≡ (all_shares rows).steps
    steps_are = ap (λ (c : Counts). c.steps) (at_last.story.shares ∙ tally_is)

    -- the end is of a mark, or the driver's own
    by : (first : Option Mark) (end : RunEnd) → IsFirst rows first
        → TableRunEnds T.code T.sizes T.limits tested (all_shares rows).steps s first end → GaveOut rows given end old new → Run end
    by first run_end.NoMemory f w gave =
        by_memory T.code T.sizes T.limits words (map clock_of e.recs) (whole_run e) s at_last.story old new (length given) begins.0
        (subst (λ (b : List ℕ). Appends old new b) begins.1 gave)
    by first run_end.WriteFault f w gave =
        let rest = flattened_front before (length given) in
        let some_of = take_front (flattened (take (length given) before)) rest.0 gave.0 in
        by_fault T.code T.sizes T.limits words (map clock_of e.recs) (whole_run e) s at_last.story old new
        (some_of.0, subst (λ (b : List ℕ). Appends old new b) (ap (take gave.0) begins.1 ∙ (some_of.1 ∙ ap (take some_of.0) (sym rest.1))) gave.1)
        s.mark refl
    by (Some mark) (run_end.Ended x) f w gave = by_mark mark (run_end.Ended x) f w (whole gave)
    by (Some mark) run_end.Deadlock f w gave = by_mark mark run_end.Deadlock f w (whole gave)
    by (Some mark) run_end.CallsTooDeep f w gave = by_mark mark run_end.CallsTooDeep f w (whole gave)
    by (Some mark) run_end.StepsSpent f w gave = by_mark mark run_end.StepsSpent f w (whole gave)
    by (Some mark) run_end.GoroutinesSpent f w gave = by_mark mark run_end.GoroutinesSpent f w (whole gave)
    by (Some mark) (run_end.NoRoom why) f w gave = by_mark mark (run_end.NoRoom why) f w (whole gave)
    by None run_end.Deadlock f w gave =
        by_deadlock T.code T.sizes T.limits words (map clock_of e.recs) (whole_run e) s at_last.story old new (none f) w (whole gave)
    by None run_end.StepsSpent f w gave =
        let n = steps_are in
        by_steps T.code T.sizes T.limits words (map clock_of e.recs) (whole_run e) s at_last.story old new tested (none f)
        (omega (arith, n, w.0)) (omega (arith, n, w.1)) w.2 (whole gave)
    by None (run_end.NoRoom why) f w gave =
        by_shortage T.code T.sizes T.limits words (map clock_of e.recs) (whole_run e) s at_last.story why old new (none f) w (whole gave)
    by None (run_end.Ended x) f w gave = absurd w
    by None run_end.CallsTooDeep f w gave = absurd w
    by None run_end.GoroutinesSpent f w gave = absurd w

    pub closed : WholeRun T.code T.sizes T.limits (whole_run e) s end (all_shares rows) old new
    closed = subst (λ (c : Counts). WholeRun T.code T.sizes T.limits (whole_run e) s end c old new) tally_is (by first end k.is_first k.ends k.gave)

pub rows_are_all : RowsAreAll
rows_are_all T words v e rows all = recs_are e rows all

pub closed_runs : ClosedRuns
closed_runs T words v e rows given first tested end old new k = closed e rows k.all given first tested end old new k

pub closed_claims : ClosedClaims
closed_claims T words v e rows given first tested end old new k =
    gives_claim T.code T.sizes T.limits end (all_shares rows) old new e.account.explains.1.sound.checked e.account.explains.1.sound.written
    (closed_runs T words v e rows given first tested end old new k).0
