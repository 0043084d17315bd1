-- What `park` and `unpark` do to all values that are parked: one is more, or some are moved. For the callers of `Parked`: one lemma for each
-- of its calls, from the clause of that call. Those at an address and those elsewhere are together all (`both_parts`), and the queues of the
-- other operations stay.
use Rattle.std.proofs.Common.{◌≡◌, ◌==◌, ◌∙◌, ℕ, Bool, true, false, List, [], ◌∷◌, ◌++◌, Err, IsPermutation, Ok, OnErr, OnOk, Result, ap, append_assoc, drop, filter, map, not, refl, subst, sym, take}
use Rattle.std.proofs.lemmas.List.{map-append, take-append-drop}
use Rattle.std.proofs.lemmas.List.Sorted.{IsPermutation-append_comm, IsPermutation-append_left, IsPermutation-append_right, IsPermutation-filter_both, IsPermutation-map, IsPermutation-middle, IsPermutation-refl, IsPermutation-sym, IsPermutation-to_front, IsPermutation-trans}
use Rattle.rgo_table_runs.specs.Goroutine.declared.waking.OperationKind.{OperationKind}
use Rattle.rgo_table_runs.specs.Goroutine.declared.waking.OperationKind.TheVariants.{Acknowledge, Close, Receive, Send}
use Rattle.rgo_runtime.specs.Parking.{Parked, Parks, Wakes, all_parked, elsewhere, queue_with, parked_values, values_at, waiting_for, with_waiting}

module _ {T : Type 0} where
  both_parts : (at : ℕ) (ps : List (ℕ × T)) → IsPermutation (parked_values ps) (values_at at ps ++ parked_values (elsewhere at ps))
  both_parts at ps =
      let here : List (ℕ × T) = filter (λ p. at == p.0) ps in
      subst (IsPermutation (parked_values ps)) (map-append (λ (p : ℕ × T). p.1) here (elsewhere at ps))
      (IsPermutation-map (λ (p : ℕ × T). p.1) ps (here ++ elsewhere at ps)
      (IsPermutation-filter_both (λ (p : ℕ × T). at == p.0) (λ (p : ℕ × T). not (at == p.0)) (λ x. refl) ps))

  one_joined : (b : Bool) (value : T) (values : List T) → IsPermutation (queue_with b value values) (value ∷ values)
  one_joined true value values = IsPermutation-refl (value ∷ values)
  one_joined false value values = IsPermutation-to_front values value

  -- in one queue
  module _ (at : ℕ) (old new : List (ℕ × T)) (others : elsewhere at new ≡ elsewhere at old) where
    abbrev rest : List T
    rest = parked_values (elsewhere at old)

    parts_now : IsPermutation (parked_values new) (values_at at new ++ rest)
    parts_now = subst (λ ps. IsPermutation (parked_values new) (values_at at new ++ parked_values ps)) others (both_parts at new)

    one_more : (b : Bool) (value : T) → values_at at new ≡ queue_with b value (values_at at old) → IsPermutation (parked_values new) (value ∷ parked_values old)
    one_more b value joins =
        IsPermutation-trans _ _ _ (subst (λ l. IsPermutation (parked_values new) (l ++ rest)) joins parts_now)
        (IsPermutation-trans _ _ _ (IsPermutation-append_left rest _ _ (one_joined b value (values_at at old)))
        (IsPermutation-append_right (value ∷ []) (values_at at old ++ rest) (parked_values old)
        (IsPermutation-sym (parked_values old) _ (both_parts at old))))

    some_moved : (n : ℕ) → values_at at new ≡ drop n (values_at at old) → IsPermutation (parked_values old) (take n (values_at at old) ++ parked_values new)
    some_moved n left =
        let values = values_at at old in
        IsPermutation-trans _ _ _ (both_parts at old)
        (subst (λ l. IsPermutation l (take n values ++ parked_values new)) (ap (λ l. l ++ rest) (take-append-drop n values))
        (subst (λ l. IsPermutation l (take n values ++ parked_values new)) (sym (append_assoc (take n values) (drop n values) rest))
        (IsPermutation-append_right (take n values) (drop n values ++ rest) (parked_values new)
        (IsPermutation-sym (parked_values new) _ (subst (λ l. IsPermutation (parked_values new) (l ++ rest)) left parts_now)))))

  -- one of several lists has changed
  second_more : (a b c d : List T) (more : List T) → IsPermutation b (more ++ c) → IsPermutation (a ++ (b ++ d)) (more ++ (a ++ (c ++ d)))
  second_more a b c d more same =
      IsPermutation-trans _ _ _ (IsPermutation-append_right a (b ++ d) ((more ++ c) ++ d) (IsPermutation-append_left d b (more ++ c) same))
      (subst (λ l. IsPermutation (a ++ l) (more ++ (a ++ (c ++ d)))) (sym (append_assoc more c d))
      (subst (λ l. IsPermutation l (more ++ (a ++ (c ++ d)))) (append_assoc a more (c ++ d))
      (subst (IsPermutation ((a ++ more) ++ (c ++ d))) (append_assoc more a (c ++ d))
      (IsPermutation-append_left (c ++ d) (a ++ more) (more ++ a) (IsPermutation-append_comm a more)))))

  pub values_of_all : (p : Parked T) → parked_values (all_parked p) ≡ parked_values p.senders ++ (parked_values p.receivers ++ parked_values p.offerers)
  values_of_all p =
      map-append (λ (q : ℕ × T). q.1) p.senders (p.receivers ++ p.offerers)
      ∙ ap (λ l. parked_values p.senders ++ l) (map-append (λ (q : ℕ × T). q.1) p.receivers p.offerers)

  last_more : (a b c more : List T) → IsPermutation b (more ++ c) → IsPermutation (a ++ b) (more ++ (a ++ c))
  last_more a b c more is =
      IsPermutation-trans _ _ _ (IsPermutation-append_right a b (more ++ c) is)
      (subst (λ l. IsPermutation l (more ++ (a ++ c))) (append_assoc a more c)
      (subst (IsPermutation ((a ++ more) ++ c)) (append_assoc more a c)
      (IsPermutation-append_left c (a ++ more) (more ++ a) (IsPermutation-append_comm a more))))

  -- Those that wait for one operation are these and the ones in `pairs`; so it is of all.
  its : (operation : OperationKind) (pairs : List (ℕ × T)) (more : List T) (p : Parked T)
      → IsPermutation (parked_values (waiting_for operation p)) (more ++ parked_values pairs)
      → IsPermutation (parked_values p.senders ++ (parked_values p.receivers ++ parked_values p.offerers))
      (more ++ (parked_values (with_waiting operation pairs p).senders
      ++ (parked_values (with_waiting operation pairs p).receivers ++ parked_values (with_waiting operation pairs p).offerers)))
  its Send pairs more p same =
      second_more [] (parked_values p.senders) (parked_values pairs) (parked_values p.receivers ++ parked_values p.offerers) more same
  its Receive pairs more p same =
      second_more (parked_values p.senders) (parked_values p.receivers) (parked_values pairs) (parked_values p.offerers) more same
  its Acknowledge pairs more p same =
      let s = parked_values p.senders in
      let r = parked_values p.receivers in
      subst (λ l. IsPermutation l (more ++ (s ++ (r ++ parked_values pairs)))) (append_assoc s r (parked_values p.offerers))
      (subst (λ l. IsPermutation ((s ++ r) ++ parked_values p.offerers) (more ++ l)) (append_assoc s r (parked_values pairs))
      (last_more (s ++ r) (parked_values p.offerers) (parked_values pairs) more same))
  its Close pairs more p same =
      second_more [] (parked_values p.senders) (parked_values pairs) (parked_values p.receivers ++ parked_values p.offerers) more same

  of_all : (operation : OperationKind) (pairs : List (ℕ × T)) (more : List T) (p : Parked T)
      → IsPermutation (parked_values (waiting_for operation p)) (more ++ parked_values pairs)
      → IsPermutation (parked_values (all_parked p)) (more ++ parked_values (all_parked (with_waiting operation pairs p)))
  of_all operation pairs more p same =
      subst (λ l. IsPermutation l (more ++ parked_values (all_parked (with_waiting operation pairs p)))) (sym (values_of_all p))
      (subst (λ l. IsPermutation (parked_values p.senders ++ (parked_values p.receivers ++ parked_values p.offerers)) (more ++ l))
      (sym (values_of_all (with_waiting operation pairs p))) (its operation pairs more p same))

  put_back : (operation : OperationKind) (pairs : List (ℕ × T)) (p : Parked T)
      → with_waiting operation (waiting_for operation p) (with_waiting operation pairs p) ≡ p
  put_back Send pairs p = refl
  put_back Receive pairs p = refl
  put_back Acknowledge pairs p = refl
  put_back Close pairs p = refl

  -- `park`
  pub parks_one : (at : ℕ) (operation : OperationKind) (b : Bool) (value : T) (old new : Parked T) → Parks at operation b value old new
      → IsPermutation (parked_values (all_parked new)) (value ∷ parked_values (all_parked old))
  parks_one at operation b value old new k =
      let before = waiting_for operation old in
      let back : with_waiting operation before new ≡ old =
      ap (with_waiting operation before) k.rest ∙ put_back operation (waiting_for operation new) old in
      subst (λ (p : Parked T). IsPermutation (parked_values (all_parked new)) (value ∷ parked_values (all_parked p))) back
      (of_all operation before (value ∷ []) new (one_more at before (waiting_for operation new) k.others b value k.joins))

  -- `unpark`
  pub wakes_some : (at : ℕ) (operation : OperationKind) (most many : ℕ) (old : Parked T) (into : List T) (new : Parked T) (come : List T)
      → Wakes at operation most many old into new come
      → IsPermutation (parked_values (all_parked old)) (take many (values_at at (waiting_for operation old)) ++ parked_values (all_parked new))
  wakes_some at operation most many old into new come k =
      subst (λ (p : Parked T). IsPermutation (parked_values (all_parked old)) (take many (values_at at (waiting_for operation old)) ++ parked_values (all_parked p)))
      (sym k.rest)
      (of_all operation (waiting_for operation new) (take many (values_at at (waiting_for operation old))) old
      (some_moved at (waiting_for operation old) (waiting_for operation new) k.others many k.left))

-- what follows from success, and from an error
pub if_ok : {A E : Type 0} {P Q : Type 0} (result : Result A E) → (P → Q) → OnOk result P → OnOk result Q
if_ok (Ok a) follows p = follows p
if_ok (Err e) follows p = p

pub if_err : {A E : Type 0} {P Q : Type 0} (result : Result A E) → (P → Q) → OnErr result P → OnErr result Q
if_err (Ok a) follows p = p
if_err (Err e) follows p = follows p
