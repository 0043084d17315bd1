-- How a cell is reached: at once, or by the number of its page; and what is done with it then. The two ways are kept apart until the
-- word of the cell is known, and are one from there on.
use Rattle.std.proofs.Common.{◌≡◌, ℕ, suc, ◌+◌, ◌-◌, ◌*◌, ◌/◌, ◌%◌, ◌<◌, ◌≤◌, Bool, true, false, if◌then◌else◌, List, [], ◌∷◌, ◌++◌, Option, refl, ap, sym, subst, ◌∙◌, inl, inr, arith}
use Rattle.rgo_sound.specs.Memory.Memory.{Channel}
use Rattle.rgo_sound.specs.RegionMachine.Objects.{data_pages}
use Rattle.rgo_sound.specs.Typed.declared.actions.Action.{Action}
use Rattle.rgo_core.specs.Channels.Controls.{extent, spreads, tail_words}
use Rattle.rgo_core.specs.Channels.Records.{Reached, Sized, with_reach}
use Rattle.rgo_core.specs.Memory.Words.{all_words, base, cell_at}
use Rattle.rgo_core.specs.Rule.Histories.{access}
use Rattle.rgo_core.specs.Rule.Views.{Me}
use Rattle.rgo_core.specs.Rule.declared.accesses.Access.{Access}
use Rattle.rgo_core.specs.Rule.declared.accesses.Kind.TheVariants.{LoadIndex}
use Rattle.rgo_core.specs.ties.AtChannels.{Operates}
use Rattle.rgo_core.specs.moves.Commits.{offers}
use Rattle.rgo_core.specs.Core.{Setup, layout}
use Rattle.rgo_core.specs.Records.{ClockRec, Record}
use Rattle.rgo_core.proofs.Channels.Positions.{page_low}
use Rattle.rgo_core_steps.specs.After.{committing}
use Rattle.rgo_core_steps.specs.Calls.{Did, accessed_by, accessing, waited}
use Rattle.rgo_core_steps.specs.Channels.{CanReachCell, ShowsPage}
use Rattle.rgo_core_steps.specs.Seats.{HasOne, HasAccessed, mine}
use Rattle.rgo_core_steps.proofs.accesses.Calling.{did_as, did_none, did_one, did_then, left_record}
use Rattle.rgo_chan.specs.Answers.{IsReached, numbers, reaches}
use Rattle.rgo_chan.proofs.Carrying.{committed_as}

module _ (T : Setup) (at size cell : ℕ) where
  abbrev n : ℕ
  n = T.sizes.page_words

  -- what follows the capacity
  abbrev tail_if : Bool → ℕ
  tail_if b = if b then data_pages n (Channel size [] false) else extent size

  abbrev reaches_if : Bool → (k g : ℕ) → List Access
  reaches_if b k g = if b then access g LoadIndex (at + 2 + cell / n) k k ∷ [] else []

  abbrev word_if : Bool → (k : ℕ) → ℕ
  word_if b k = if b then cell_at (layout T) (k - 1) (cell % n) else at + 2 + cell

  -- the numbers of the pages lie in the table
  module _ (inside : at + 2 + tail_words n size ≤ all_words (layout T)) (within : cell < extent size) where
    pub number_inside : spreads n size ≡ true → 0 < n → at + 2 + cell / n < all_words (layout T)
    number_inside sp some =
        let e : tail_words n size ≡ (extent size - 1) / n + 1 =
        ap tail_if sp ∙ ap (λ (b : Bool). if b then (extent size - 1) / n + 1 else 0) sp in
        let low = page_low n cell (extent size) some within in
        omega (arith, e, low, inside)

    cell_inside : spreads n size ≡ false → at + 2 + cell < all_words (layout T)
    cell_inside whole = let e : tail_words n size ≡ extent size = ap tail_if whole in omega (arith, e, within, inside)

    -- the cell follows the capacity
    pub at_once : (m : Me Record) (s : ℕ) → HasOne T m → spreads n size ≡ false → IsReached T at size cell (at + 2 + cell) (mine T m) m s m s
    at_once m s alone whole = record {
      k = 0;
      side = (mine T m).side;
      is = sym (ap (λ b. word_if b 0) whole);
      inside = cell_inside whole;
      hold = refl;
      sized = refl;
      there = inl (whole, refl);
      did = subst (λ b. Did T m s (reaches_if b 0) (waited (if b then 1 else 0) (mine T m) (mine T m).side) m s) (sym whole) (did_none T m s alone);
    }

  pub can_reach : (c : Record) → c.side.size ≡ Sized at size → spreads n size ≡ true → cell < extent size → CanReachCell T c at cell
  can_reach c sized sp within = record { size = size; sized = sized; spread = sp; within = within }

  -- the number of the page was loaded, where a page has p words
  module _ (p : ℕ) (words : p ≡ n) (m v : Me Record) (k : ℕ)
      (l : HasAccessed T LoadIndex (at + 2 + cell / p) (λ x. x) (ShowsPage T (mine T m) at cell) m k v) where
    shows : ShowsPage T (mine T m) at cell k (mine T v)
    shows = left_record T m v l

    -- the page has a number, and its cell lies in the table
    pub some_number : 0 < k
    some_number = shows.some

    pub low_word : base (layout T) + ((k - 1) * p + cell % p) < all_words (layout T)
    low_word = subst (λ x. base (layout T) + ((k - 1) * x + cell % x) < all_words (layout T)) (sym words) shows.inside

    pub by_number : (first s t : ℕ) → first ≡ base (layout T) → t ≡ s + 1 → spreads n size ≡ true
        → IsReached T at size cell (first + ((k - 1) * p + cell % p)) (mine T m) m s v t
    by_number first s t begins one sp =
        let side = with_reach (mine T m).side at cell (cell_at (layout T) (k - 1) (cell % n)) in
        let is : first + ((k - 1) * p + cell % p) ≡ cell_at (layout T) (k - 1) (cell % n) =
        ap (λ x. x + ((k - 1) * p + cell % p)) begins ∙ ap (λ x. base (layout T) + ((k - 1) * x + cell % x)) words in
        record {
          k = k;
          side = side;
          is = is ∙ sym (ap (λ b. word_if b k) sp);
          inside = subst (λ x. x < all_words (layout T)) (sym is) shows.inside;
          hold = refl;
          sized = refl;
          there = inr (ap (Reached at cell) (sym is));
          did = subst (λ b. Did T m s (reaches_if b k) (waited (if b then 1 else 0) (mine T m) side) v t) (sym sp)
              (subst (λ x. Did T m s (λ g. access g LoadIndex (at + 2 + cell / x) k k ∷ []) (waited 1 (mine T m) side) v t) words
              (did_one T m v (waited 1 (mine T m) side) l (λ q. q.is) refl s t one));
        }

  -- ---- then the cell is accessed, and the operation takes effect

  module _ (word : ℕ) (c : Record) (m v w : Me Record) (s r u : ℕ) (reach : IsReached T at size cell word c m s v r) where
    pub reached_commit : {to : Option ℕ} {action : Action} {others : List ℕ} {ys : ℕ → List Access} → Operates T c to action others at
        → (value : ℕ) → Did T v r ys (committing T.code (accessing 1 (mine T v)) value) w u
        → Did T m s (λ g. reaches T at size cell reach.k g ++ ys g) (committing T.code (accessing (suc (numbers T size)) c) value) w u
    reached_commit here value b =
        did_as T m w (committing T.code (accessing 1 (mine T v)) value) (committing T.code (accessing (suc (numbers T size)) c) value) s u
        (ap (λ (d : Record). committing T.code (accessing 1 d) value) reach.did.made.after
        ∙ committed_as here (suc (numbers T size)) reach.side value)
        (did_then T m v w (waited (numbers T size) c reach.side) (committing T.code (accessing 1 (mine T v)) value) s r u reach.did b)

    pub reached_offer : {ys : ℕ → List Access} → Did T v r ys (offers (accessing 1 (mine T v)) at) w u
        → Did T m s (λ g. reaches T at size cell reach.k g ++ ys g) (offers (accessing (suc (numbers T size)) c) at) w u
    reached_offer b =
        did_as T m w (offers (accessing 1 (mine T v)) at) (offers (accessing (suc (numbers T size)) c) at) s u
        (ap (λ (d : Record). offers (accessing 1 d) at) reach.did.made.after)
        (did_then T m v w (waited (numbers T size) c reach.side) (offers (accessing 1 (mine T v)) at) s r u reach.did b)

-- the accesses of an operation up to the lock, and those after it
pub counted_both : (T : Setup) (size : ℕ) (k : ClockRec) → accessed_by (suc (numbers T size)) (accessed_by 3 k) ≡ accessed_by (4 + numbers T size) k
counted_both T size k = by (spreads T.sizes.page_words size)
  where
    by : (b : Bool) → accessed_by (suc (if b then 1 else 0)) (accessed_by 3 k) ≡ accessed_by (4 + (if b then 1 else 0)) k
    by true = refl
    by false = refl

-- one at most is loaded
pub few : (T : Setup) (size : ℕ) → numbers T size ≤ 1
few T size = by (spreads T.sizes.page_words size)
  where
    by : (b : Bool) → (if b then 1 else 0) ≤ 1
    by true = omega arith
    by false = omega arith
