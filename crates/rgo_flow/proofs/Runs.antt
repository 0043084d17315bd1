-- Blocks from joins: the first and the last instruction of each block, as the two loops over the joins compute them.
use Rattle.std.proofs.Common.{◌≡◌, ◌⊎◌, inl, inr, ⊎_elim, ℕ, zero, suc, ◌<◌, ◌≤◌, ◌+◌, ◌-◌, Bool, true, false, List, [], ◌∷◌, length, get_or, refl, sym, ap, ◌∙◌, subst, arith}
use Rattle.std.specs.List.{Contains}
use Rattle.rgo_graphs.specs.Rows.{Relates, IsTransposed}
use Rattle.rgo_flow.specs.Blocks.{AreJoined, Lasts, Firsts, Blocks}
use Rattle.std.proofs.lemmas.Bool.{false≢true}

pub less_or : (a b : ℕ) → (a < b) ⊎ (b ≤ a)
less_or a b = grind arith

bool_cases : (b : Bool) → (b ≡ true) ⊎ (b ≡ false)
bool_cases true = inl refl
bool_cases false = inr refl

pub no_member : (x : ℕ) → Contains [] x → ⊥
no_member x h = omega (arith, h.1)

pub member_one : (x y : ℕ) → Contains (x ∷ []) y → y ≡ x
member_one x y h =
    let e : h.0 ≡ 0 = omega (arith, h.1) in
    sym (subst (λ k. get_or (x ∷ []) k y ≡ y) e h.2)

-- what is known of the last instructions of blocks
record LastFacts (succ : List (List ℕ)) (joins : List Bool) (last : List ℕ) (i : ℕ) : Type 0 where
  pub ahead : i ≤ get_or last i 0
  pub inside : get_or last i 0 < length succ
  pub ends : get_or joins (get_or last i 0) false ≡ false
  pub joined : (k : ℕ) → i ≤ k → k < get_or last i 0 → get_or joins k false ≡ true

module _ (succ before : List (List ℕ)) (joins : List Bool) (first last : List ℕ)
    (size : length joins ≡ length succ) (joined : AreJoined succ before joins)
    (transposed : IsTransposed succ before)
    (f : Firsts joins first) (l : Lasts joins last) where
  abbrev at_last : ℕ → ℕ
  at_last i = get_or last i 0

  last_here : (i : ℕ) → i < length succ → get_or joins i false ≡ false → LastFacts succ joins last i
  last_here i h t =
      let s : get_or last i 0 ≡ i = l.end i (omega arith) t in
      record {
        ahead = omega arith;
        inside = omega arith;
        ends = ap (λ k. get_or joins k false) s ∙ t;
        joined = λ k a b. absurd (omega arith);
      }

  last_on : (i : ℕ) → i < length succ → get_or joins i false ≡ true → LastFacts succ joins last (i + 1)
      → LastFacts succ joins last i
  last_on i h t r =
      let s : get_or last i 0 ≡ get_or last (i + 1) 0 = l.same i (omega (arith, (joined i t).inside)) t in
      record {
        ahead = omega (arith, r.ahead);
        inside = omega (arith, r.inside);
        ends = ap (λ k. get_or joins k false) s ∙ r.ends;
        joined = λ k a b. ⊎_elim
            (λ m. r.joined k (omega arith) (omega arith))
            (λ m. let e : k ≡ i = omega arith in ap (λ q. get_or joins q false) e ∙ t)
            (less_or i k);
      }

  last_facts : (d i : ℕ) → i + d ≡ length succ → 0 < d → LastFacts succ joins last i
  last_facts zero i e some = absurd (omega arith)
  last_facts (suc d) i e some = ⊎_elim
      (λ t. last_on i (omega arith) t (last_facts d (i + 1) (omega arith) (omega (arith, (joined i t).inside))))
      (λ t. last_here i (omega arith) t)
      (bool_cases (get_or joins i false))

  facts : (i : ℕ) → i < length succ → LastFacts succ joins last i
  facts i h = last_facts (length succ - i) i (omega arith) (omega arith)

  record FirstFacts (i : ℕ) : Type 0 where
    pub back : get_or first i 0 ≤ i
    pub same : get_or last (get_or first i 0) 0 ≡ get_or last i 0
    pub head : get_or first (get_or first i 0) 0 ≡ get_or first i 0

  first_here : (i : ℕ) → i + 1 < length succ → get_or joins i false ≡ false → FirstFacts (i + 1)
  first_here i h t =
      let e : get_or first (i + 1) 0 ≡ i + 1 = f.new i (omega arith) t in
      record { back = omega arith; same = ap (λ k. get_or last k 0) e; head = ap (λ k. get_or first k 0) e }

  first_on : (i : ℕ) → i + 1 < length succ → get_or joins i false ≡ true → FirstFacts i → FirstFacts (i + 1)
  first_on i h t r =
      let e : get_or first (i + 1) 0 ≡ get_or first i 0 = f.same i (omega arith) t in
      record {
        back = omega (arith, r.back);
        same = ap (λ k. get_or last k 0) e ∙ r.same ∙ l.same i (omega arith) t;
        head = ap (λ k. get_or first k 0) e ∙ r.head ∙ sym e;
      }

  first_facts : (i : ℕ) → i < length succ → FirstFacts i
  first_facts zero h =
      let e : get_or first 0 0 ≡ 0 = f.start (omega arith) in
      record { back = omega arith; same = ap (λ k. get_or last k 0) e; head = ap (λ k. get_or first k 0) e }
  first_facts (suc i) h =
      let n : i + 1 ≡ suc i = omega arith in
      subst FirstFacts n (⊎_elim
      (λ t. first_on i (omega arith) t (first_facts i (omega arith)))
      (λ t. first_here i (omega arith) t)
      (bool_cases (get_or joins i false)))

  whole : (d i k : ℕ) → i + d ≡ k → i < length succ → get_or first i 0 ≡ i → k ≤ get_or last i 0
      → get_or first k 0 ≡ i
  whole zero i k e h head b = ap (λ q. get_or first q 0) (omega arith) ∙ head
  whole (suc d) i k e h head b =
      let m = facts i h in
      let t = m.joined (i + d) (omega arith) (omega arith) in
      let j = joined (i + d) t in
      let s : get_or first (i + d + 1) 0 ≡ get_or first (i + d) 0 =
      f.same (i + d) (omega (arith, j.inside)) t in
      ap (λ q. get_or first q 0) (omega arith) ∙ s ∙ whole d i (i + d) refl h head (omega arith)

  entered : (i j : ℕ) → i < length succ → Relates succ (get_or last i 0) j → j < length succ
      → get_or first j 0 ≡ j
  entered i zero h r b = f.start (omega arith)
  entered i (suc j) h r b = ⊎_elim
      (λ t. inside t)
      (λ t. ap (λ q. get_or first q 0) (omega arith) ∙ f.new j (omega arith) t ∙ omega arith)
      (bool_cases (get_or joins j false))
    where
      inside : get_or joins j false ≡ true → get_or first (suc j) 0 ≡ suc j
      inside t =
          let jo = joined j t in
          let back = (transposed (get_or last i 0) (suc j)).0 r in
          let at : Relates before (j + 1) (get_or last i 0) =
          subst (λ q. Relates before q (get_or last i 0)) (omega arith) back in
          let e : get_or last i 0 ≡ j = member_one j (get_or last i 0)
          (subst (λ (row : List ℕ). Contains row (get_or last i 0)) jo.from at) in
          absurd (false≢true (sym (facts i h).ends ∙ ap (λ k. get_or joins k false) e ∙ t))

  pub blocks : ((i j : ℕ) → Relates succ i j → j < length succ) → Blocks succ first last
  blocks targets = record {
    firsts = f.size ∙ size;
    lasts = l.size ∙ size;
    targets = targets;
    ahead = λ i h. (facts i h).ahead;
    inside = λ i h. (facts i h).inside;
    next = λ i h b.
        let t = (facts i h).joined i (omega arith) b in
        let j = joined i t in
        (j.on, sym (l.same i (omega (arith, j.inside)) t));
    back = λ i h. (first_facts i h).back;
    same = λ i h. (first_facts i h).same;
    head = λ i h. (first_facts i h).head;
    whole = λ i k h e a b. whole (k - i) i k (omega arith) h e b;
    entered = λ i j h r. entered i j h r (targets _ j r);
  }
