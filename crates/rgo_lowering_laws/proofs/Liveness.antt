-- Liveness within a number of steps, at each kind of instruction.
use Rattle.std.proofs.Common.{◌≡◌, ℕ, zero, suc, ◌+◌, ◌<◌, ◌≤◌, ◌⊎◌, inl, inr, ⊎_elim, List, [], ◌∷◌, ◌++◌}
use Rattle.std.proofs.Common.{Option, Some, Contains, option_to_list, sym, ap, ◌∙◌, subst, arith}
use Rattle.rgo_tac.specs.Code.{Op, Jump, Branch, Return, TacFn}
use Rattle.rgo_tac.specs.Flow.{reads, writes, leads_to}
use Rattle.rgo_flow.specs.Live.{read_by, written_by, led_to_by, IsReadAfter}
use Rattle.rgo_lower.specs.Lowered.{LoweringPoint, OpAt}

-- v is one of these
abbrev pub Among : List ℕ → ℕ → Type 0
Among [] v = ⊥
Among (d ∷ ds) v = (v ≡ d) ⊎ Among ds v

-- v is one of these, or in R
abbrev pub Or : List ℕ → (ℕ → Type 0) → ℕ → Type 0
Or ds R v = Among ds v ⊎ R v

pub among : (xs : List ℕ) (v : ℕ) → Contains xs v → Among xs v
among [] v (k, lt, e) = absurd (omega (arith, lt))
among (x ∷ xs) v (zero, lt, e) = inl (sym e)
among (x ∷ xs) v (suc k, lt, e) = inr (among xs v (k, omega (arith, lt), e))

only_one : (d v : ℕ) → Contains (d ∷ []) v → v ≡ d
only_one d v h = ⊎_elim (λ e. e) (λ none. absurd none) (among (d ∷ []) v h)

-- ---- the same sets in other words

pub nothing_more : (R : ℕ → Type 0) (v : ℕ) → Or [] R v → R v
nothing_more R v h = ⊎_elim (λ none. absurd none) (λ r. r) h

pub join : (ds : List ℕ) (R : ℕ → Type 0) (v : ℕ) → Or ds (Or ds R) v → Or ds R v
join ds R v h = ⊎_elim (λ a. inl a) (λ r. r) h

pub first_apart : (d : ℕ) (ds : List ℕ) (R : ℕ → Type 0) (v : ℕ) → Or (d ∷ ds) R v → Or ds (Or (d ∷ []) R) v
first_apart d ds R v h = ⊎_elim (⊎_elim (λ e. inr (inl (inl e))) (λ a. inl a)) (λ r. inr (inr r)) h

among_push : (ds : List ℕ) (x v : ℕ) → Among (ds ++ x ∷ []) v → (v ≡ x) ⊎ Among ds v
among_push [] x v h = ⊎_elim (λ e. inl e) (λ none. absurd none) h
among_push (d ∷ ds) x v h =
    ⊎_elim (λ e. inr (inl e)) (λ a. ⊎_elim (λ e. inl e) (λ b. inr (inr b)) (among_push ds x v a)) h

pub last_apart : (ds : List ℕ) (x : ℕ) (R : ℕ → Type 0) (v : ℕ) → Or (ds ++ x ∷ []) R v → Or (x ∷ []) (Or ds R) v
last_apart ds x R v h =
    ⊎_elim (λ a. ⊎_elim (λ e. inl (inl e)) (λ b. inr (inl b)) (among_push ds x v a)) (λ r. inr (inr r)) h

-- ---- instructions

module _ (f : TacFn) where
  -- on paths of at most n steps, only variables of K are live at this instruction
  abbrev pub OnlyLive : (n at : ℕ) → (ℕ → Type 0) → Type 0
  OnlyLive n at K = (m v : ℕ) → m ≤ n → IsReadAfter f m v at → K v

  pub weaker : (n at : ℕ) (K L : ℕ → Type 0) → ((v : ℕ) → K v → L v) → OnlyLive n at K → OnlyLive n at L
  weaker n at K L sub k = λ m v le h. sub v (k m v le h)

  pub fewer : (n k at : ℕ) (K : ℕ → Type 0) → n ≤ k → OnlyLive k at K → OnlyLive n at K
  fewer n k at K le h = λ m v less r. h m v (omega (arith, le, less)) r

  pub same_point : (n : ℕ) (p q : LoweringPoint) (K : ℕ → Type 0) → q ≡ p → OnlyLive n q.instr K → OnlyLive n p.instr K
  same_point n p q K e k = subst (λ (z : LoweringPoint). OnlyLive n z.instr K) e k

  -- live at an instruction: what it reads, and what it does not write and is live at one that may be next
  step : (n i : ℕ) (op : Op) (place : ℕ) (K : ℕ → Type 0) → OpAt f i op place
      → ((v : ℕ) → Contains (reads op) v → K v)
      → ((m v j : ℕ) → m < n → (writes op ≡ Some v → ⊥) → Contains (leads_to op i) j → IsReadAfter f m v j → K v)
      → (m v : ℕ) → m ≤ n → IsReadAfter f m v i → K v
  step n i op place K at read next zero v le h = read v (subst (λ o. Contains (read_by o) v) at h)
  step n i op place K at read next (suc m) v le h =
      next m v h.1 (omega (arith, le)) (λ e. h.0 (ap written_by at ∙ e))
      (subst (λ o. Contains (led_to_by i o) h.1) at h.2) h.3

  module _ (n i : ℕ) (op : Op) (place : ℕ) (R : ℕ → Type 0) where
    -- an instruction that writes d and leads to the next in order
    pub at_write : (d : ℕ) → OpAt f i op place → leads_to op i ≡ (i + 1) ∷ [] → writes op ≡ Some d
        → OnlyLive n (i + 1) (Or (d ∷ []) R) → OnlyLive n i (Or (reads op) R)
    at_write d at leads written k =
        step n i op place (Or (reads op) R) at (λ v h. inl (among (reads op) v h)) (λ m v j less unwritten to h.
        let next = only_one (i + 1) j (subst (λ l. Contains l j) leads to) in
        ⊎_elim (λ a. ⊎_elim (λ e. absurd (unwritten (written ∙ ap Some (sym e)))) (λ none. absurd none) a) (λ r. inr r)
        (k m v (omega (arith, less)) (subst (λ z. IsReadAfter f m v z) next h)))

    -- an instruction that leads to the next in order, whatever it writes
    pub at_next : OpAt f i op place → leads_to op i ≡ (i + 1) ∷ [] → OnlyLive n (i + 1) R
        → OnlyLive n i (Or (reads op) R)
    at_next at leads k =
        step n i op place (Or (reads op) R) at (λ v h. inl (among (reads op) v h)) (λ m v j less unwritten to h.
        let next = only_one (i + 1) j (subst (λ l. Contains l j) leads to) in
        inr (k m v (omega (arith, less)) (subst (λ z. IsReadAfter f m v z) next h)))

  module _ (n i : ℕ) (place : ℕ) (R : ℕ → Type 0) where
    pub at_branch : (d a b : ℕ) → OpAt f i (Branch d a b) place → OnlyLive n a R → OnlyLive n b R
        → OnlyLive n i (Or (d ∷ []) R)
    at_branch d a b at k l =
        step n i (Branch d a b) place (Or (d ∷ []) R) at (λ v h. inl (among (d ∷ []) v h)) (λ m v j less unwritten to h.
        ⊎_elim (λ e. inr (k m v (omega (arith, less)) (subst (λ z. IsReadAfter f m v z) e h)))
        (λ more. ⊎_elim (λ e. inr (l m v (omega (arith, less)) (subst (λ z. IsReadAfter f m v z) e h)))
        (λ none. absurd none) more)
        (among (a ∷ b ∷ []) j to))

    pub at_return : (value : Option ℕ) → OpAt f i (Return value) place
        → OnlyLive n i (Or (option_to_list value) R)
    at_return value at =
        step n i (Return value) place (Or (option_to_list value) R) at (λ v h. inl (among (option_to_list value) v h))
        (λ m v j less unwritten to h. absurd (among [] j to))

    -- a jump takes one step
    pub at_jump_back : (t : ℕ) → OpAt f i (Jump t) place → ((m : ℕ) → m < n → OnlyLive m t R) → OnlyLive n i R
    at_jump_back t at k =
        step n i (Jump t) place R at (λ v h. absurd (among [] v h)) (λ m v j less unwritten to h.
        k m less m v (omega arith) (subst (λ z. IsReadAfter f m v z) (only_one t j to) h))

    pub at_jump : (t : ℕ) → OpAt f i (Jump t) place → OnlyLive n t R → OnlyLive n i R
    at_jump t at k = at_jump_back t at (λ m less. fewer m n t R (omega (arith, less)) k)

  -- a jump to itself reads nothing
  pub at_stay : (i place : ℕ) (R : ℕ → Type 0) → OpAt f i (Jump i) place → (n : ℕ) → OnlyLive n i R
  at_stay i place R at zero = at_jump_back 0 i place R i at (λ m less. absurd (omega (arith, less)))
  at_stay i place R at (suc n) =
      at_jump_back (suc n) i place R i at (λ m less. fewer m n i R (omega (arith, less)) (at_stay i place R at n))
