-- Draws of numbers, by the functions of the record alone. The number found decides between the two outcomes, as the code's comparison does.
use Rattle.std.proofs.Common.{◌≡◌, ℕ, ◌+◌, ◌%◌, ◌^◌, ◌<◌, ◌≤◌, ◌⊎◌, inl, inr, [], ◌∷◌, Some, None, max, refl, ap, subst, sym, ◌∙◌, arith}
use Rattle.std.proofs.lemmas.Bool.Decides.{nat_tests}
use Rattle.std.proofs.lemmas.Grind.{common_steps}
use Rattle.rgo_core.specs.Memory.Words.{made_at}
use Rattle.rgo_core.specs.Rule.Steps.{Occurs, Told, ToldChild}
use Rattle.rgo_core.specs.Rule.Views.{HasRow, Me, Rows, number_in, number_of, record_in}
use Rattle.rgo_core.specs.Rule.declared.accesses.Kind.TheVariants.{DrawNumber}
use Rattle.rgo_sound.specs.Machine.Limits.{most_goroutines}
use Rattle.rgo_sound.specs.Machine.declared.limits.Limits.{Limits}
use Rattle.rgo_core.specs.Core.{Core, IsPossible, Setup}
use Rattle.rgo_core.specs.runs.Opening.{first_of}
use Rattle.rgo_core.specs.Records.{Record, accesses}
use Rattle.rgo_core.specs.Steps.{MovesEither}
use Rattle.rgo_core.proofs.runs.Possible.{is_possible}
use Rattle.rgo_core.proofs.goroutines.Starting.{start_move}
use Rattle.rgo_core_steps.specs.After.{child, starting}
use Rattle.rgo_core_steps.specs.Seats.{HasPossible, mine, other, rest_of, settled}
use Rattle.rgo_core_steps.specs.Starts.{HasDrawn, IsBeforeGo, next_number, refusing}
use Rattle.rgo_core_steps.proofs.record_steps.After.{child_is, starting_is}
use Rattle.rgo_core_steps.proofs.accesses.Telling.{either_tells_more}

module _ (T : Setup) (c : Record) where
  -- what holds after a draw: at the limit or above it nothing has started
  abbrev pub Refused : ℕ → Record → Type 0
  Refused n d = (most_goroutines T.limits ≤ n) × (d ≡ refusing c)

  abbrev pub Starts : ℕ → Record → Record → Type 0
  Starts n d e = (n < most_goroutines T.limits) × (d ≡ starting T.code c n) × (e ≡ child T.code c)

pub number_moves : (T : Setup) (g : ℕ) (c : Record) → IsBeforeGo T c
    → MovesEither T g c made_at (λ n. (n + 1) % 2 ^ 64) (Refused T c) (Starts T c)
number_moves T g c p =
    either_tells_more T g c made_at (λ n. (n + 1) % 2 ^ 64) (λ n d t. t)
    (λ n d e t. (t.0, t.1 ∙ sym (starting_is T p.here n), t.2 ∙ sym (child_is T p.here p.callee p.calls)))
    (start_move T g c p.function p.callee p.from p.passes p.removes p.here p.calls p.rests p.never)

one_row : (blank : Record) (rows : Rows Record) (g : ℕ) (c : Record) → rows ≡ (g, c) ∷ []
    → rows ≡ (number_in rows, record_in blank rows) ∷ []
one_row blank rows g c e = e ∙ sym (ap (λ (rs : Rows Record). (number_in rs, record_in blank rs) ∷ []) e)

first_row : (blank : Record) (rows : Rows Record) (r : ℕ × Record) (rs : Rows Record) → rows ≡ r ∷ rs
    → HasRow rows (number_in rows) (record_in blank rows)
first_row blank rows r rs e = subst (λ (l : Rows Record). HasRow l (number_in l) (record_in blank l)) (sym e) (0, refl)

second_row : (blank : Record) (rows : Rows Record) (n : ℕ) (r : ℕ × Record) (c : Record) → rows ≡ r ∷ (n, c) ∷ []
    → HasRow rows n (record_in blank (rest_of rows))
second_row blank rows n r c e = subst (λ (l : Rows Record). HasRow l n (record_in blank (rest_of l))) (sym e) (1, refl)

-- the same by what the call returns
module _ (T : Setup) (q : ℕ) (m : Me Record) (n : ℕ) (w : Me Record) where
  abbrev Drew : Type 0
  Drew = Told accesses (number_of m) DrawNumber made_at next_number (Refused T (settled T q m)) m n w
      ⊎ ToldChild accesses (number_of m) DrawNumber made_at next_number (Starts T (settled T q m)) m n w

  pub drawn_some : n < most_goroutines T.limits → Drew → HasDrawn T q m (Some n) w
  drawn_some low (inl t) = let h = t.tells_so.0 in absurd (omega arith)
  drawn_some low (inr t) = (
    low,
    record {
      after = t.after;
      child = t.child;
      between = t.between;
      tells_so = (t.tells_so.1, t.tells_so.2);
      later = t.later;
      both = t.both;
      seen = t.seen;
      others = t.others;
      counts = t.counts;
      new = t.new;
    },
  )

  pub drawn_none : most_goroutines T.limits ≤ n → Drew → HasDrawn T q m None w
  drawn_none high (inl t) = (
    n,
    high,
    (
      (one_row (first_of T.code) w.0.records (number_of m) t.after t.alone.0, t.alone.1),
      record {
        after = t.after;
        between = t.between;
        tells_so = t.tells_so.1;
        alone = t.alone;
        seen = t.seen;
        others = t.others;
        counts = t.counts;
      },
    ),
  )
  drawn_none high (inr t) = let h = t.tells_so.0 in absurd (omega arith)

  -- if all rows of a seat are possible, so is its record, and the one beside it
  pub drawn_possible : Drew → ((g : ℕ) (c : Record) → HasRow w.0.records g c → Occurs (Core T) g c) → HasPossible T w
  drawn_possible (inl t) all = is_possible T (number_of w) (mine T w)
      (all (number_of w) (mine T w) (first_row (first_of T.code) w.0.records (number_of m, t.after) [] t.alone.0))
  drawn_possible (inr t) all = is_possible T (number_of w) (mine T w)
      (all (number_of w) (mine T w) (first_row (first_of T.code) w.0.records (number_of m, t.after) ((n, t.child) ∷ []) t.both.0))

  pub child_possible : n < most_goroutines T.limits → Drew → ((g : ℕ) (c : Record) → HasRow w.0.records g c → Occurs (Core T) g c)
      → IsPossible T n (other T w)
  child_possible low (inl t) all = let h = t.tells_so.0 in absurd (omega arith)
  child_possible low (inr t) all = is_possible T n (other T w)
      (all n (other T w) (second_row (first_of T.code) w.0.records n (number_of m, t.after) t.child t.both.0))

-- ---- what the code compares with

swapped : (n : ℕ) → max n 1 ≡ max 1 n
swapped n = grind (arith, nat_tests, common_steps)

module _ (n most : ℕ) (given limits : Limits) (is : most ≡ max given.goroutines 1) (same : given ≡ limits) where
  most_is : most ≡ most_goroutines limits
  most_is = is ∙ (swapped given.goroutines ∙ ap most_goroutines same)

  pub below : n < most → n < most_goroutines limits
  below h = let m = most_is in omega arith

  pub above : most ≤ n → most_goroutines limits ≤ n
  above h = let m = most_is in omega arith
