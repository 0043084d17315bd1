-- If all goroutines have passed, each access of a turn found what its word holds in the end. Nobody has changed a word since the pass
-- began: each goroutine's accesses are those before it and those of its turn.
use Rattle.std.proofs.Common.{◌≡◌, ℕ, List, [], ◌∷◌, ◌++◌, Option, slice_index, ap, sym, subst, ◌∙◌, arith, append_assoc, zero, suc}
use Rattle.std.proofs.lemmas.List.{append-nil}
use mathlib.Core.Option.{some, some-ne-none}
use lib.ListN.{get_elem?}
use Rattle.rgo_core.specs.Core.{Core, Setup}
use Rattle.rgo_core.specs.runs.Opening.{opening_table}
use Rattle.rgo_core.specs.Records.{Record, accesses}
use Rattle.rgo_core.proofs.Rule.Histories.{by_append}
use Rattle.rgo_core.proofs.Rule.Lists.{at_append, cancel}
use Rattle.rgo_core.proofs.Rule.Settled.{found_stays, turn_looks}
use Rattle.rgo_core.specs.Rule.Histories.{accesses_by}
use Rattle.rgo_core.specs.Rule.Passes.{HasLooked}
use Rattle.rgo_core.specs.Rule.Views.{HasRow, Rows}
use Rattle.rgo_core.specs.Rule.declared.accesses.Access.{Access}
use Rattle.rgo_core.specs.Rule.declared.accesses.View.{View}
use Rattle.rgo_core_steps.specs.Outcomes.{ClosesTable}
use Rattle.rgo_sound.specs.Machine.declared.limits.Shortage.{Shortage}
use Rattle.rgo_goroutine.specs.Acts.Waits.{FoundNow}
use Rattle.rgo_table_runs.specs.passing.Passes.{AllPassed}
use Rattle.rgo_table_runs.specs.passing.Turns.{HadTurn, HasPassed, Over, HasStopped, Still}
use Rattle.rgo_table_runs.proofs.closing.Closed.{has_row}
use Rattle.rgo_table_runs.proofs.passing.Turning.{stays_passed}
use Rattle.rgo_core.proofs.Lists.{get_of}

-- an element of a list is one of a longer list
in_front : {A : Type 0} (xs ys : List A) (i : ℕ) (a : A) → get_elem? xs i ≡ some a → get_elem? (xs ++ ys) i ≡ some a
in_front [] ys i a e = absurd (some-ne-none a (sym e))
in_front (x ∷ xs) ys zero a e = e
in_front (x ∷ xs) ys (suc i) a e = in_front xs ys i a e

-- where n accesses are all that goroutine g made, and they were made early, there are none later
none_later : (g n : ℕ) (early later rest before history : List Access) → before ≡ early ++ later → history ≡ before ++ rest
    → n ≡ accesses_by g early → n ≡ accesses_by g history → n ≡ accesses_by g before
none_later g n early later rest before history is all own whole =
    let a = by_append g early later in
    let b = by_append g before rest in
    let c : accesses_by g before ≡ accesses_by g (early ++ later) = ap (accesses_by g) is in
    let d : accesses_by g history ≡ accesses_by g (before ++ rest) = ap (accesses_by g) all in
    omega arith

module _ {T : Setup} {words : List ℕ} {v : View Record} (e : ClosesTable T words v) (rows : Rows Record) (before : List Access)
    (lack : ℕ → Option Shortage) (k : AllPassed T v rows before lack) where
  -- what followed, up to the close
  abbrev pub since : List Access
  since = k.since ++ e.seen.0

  pub history_is : e.history ≡ before ++ since
  history_is = sym e.seen.1 ∙ (ap (λ (l : List Access). l ++ e.seen.0) k.seen ∙ append_assoc before k.since e.seen.0)

  pub passed : (g : ℕ) (c : Record) → HasRow rows g c → HasPassed T before e.history g c (lack g)
  passed g c has = subst (λ (l : List Access). HasPassed T before l g c (lack g)) e.seen.1
      (stays_passed T before v.seen e.seen.0 g c (lack g) (k.each g c has))

  looked_by : (g : ℕ) (c : Record) → get_elem? e.recs g ≡ some c → HasStopped T before e.history g c (lack g)
      → HasLooked accesses before e.history g c
  looked_by g c there (Over is known over) = record {
    front = [];
    rest = since;
    is = history_is ∙ ap (λ (l : List Access). l ++ since) (sym (append-nil before));
    own = none_later g (accesses c) known.early known.later since before e.history known.is history_is known.own (e.account.counted g c there)
        ∙ ap (accesses_by g) (sym (append-nil before));
    still = λ i a q w. absurd (some-ne-none a (sym q));
  }
  looked_by g c there (Still t stands) =
      let l = turn_looks g t.had (accesses c) before t.known.early t.known.later t.front t.turn t.rest e.history t.known.is t.known.own t.is t.more t.whole t.still in
      record { front = l.front; rest = l.rest; is = l.is; own = l.own; still = l.still }

  looked : (g : ℕ) (c : Record) → get_elem? e.recs g ≡ some c → HasLooked accesses before e.history g c
  looked g c there = looked_by g c there (passed g c (has_row e rows k.all g c (get_of e.recs g c there))).stands

  found : (i : ℕ) (a : Access) → get_elem? since i ≡ some a → a.found ≡ slice_index words a.word
  found i a q = found_stays accesses (Core T) (opening_table T) words v e before since history_is looked i a q

  -- what a turn found
  pub found_now : (g : ℕ) (c : Record) (t : HadTurn before e.history g c) → FoundNow words g t.turn
  found_now g c t i a q own =
      let parts : since ≡ t.front ++ (t.turn ++ t.rest) = cancel before since (t.front ++ (t.turn ++ t.rest))
      (sym history_is ∙ (t.is ∙ (append_assoc (before ++ t.front) t.turn t.rest ∙ append_assoc before t.front (t.turn ++ t.rest)))) in
      let p = at_append t.front (t.turn ++ t.rest) i a (in_front t.turn t.rest i a q) in
      found p.0 a (subst (λ (l : List Access). get_elem? l p.0 ≡ some a) (sym parts) p.1)
