-- Paths through blocks. Within a block a path has no choice, so liveness at its first instruction depends on the first use in the block,
-- and else on the blocks that follow: this lets the search skip instructions.
use Rattle.std.proofs.Common.{◌≡◌, ◌⊎◌, inl, inr, ⊎_elim, ◌↔◌, ℕ, zero, suc, ◌<◌, ◌≤◌, ◌+◌, ◌-◌, List, [], ◌∷◌, length, get_or, refl, sym, ap, ◌∙◌, subst, arith}
use Rattle.std.specs.List.{Contains}
use Rattle.rgo_graphs.specs.Rows.{Relates, row_at, IsTransposed}
use Rattle.rgo_graphs.specs.Reach.{Reached, ReachedIn}
use Rattle.rgo_flow.specs.declared.uses.FirstUse.TheVariants.{Read, Written}
use Rattle.rgo_flow.specs.Uses.{IsRead, IsWritten, IsUnused}
use Rattle.rgo_flow.specs.Blocks.{Blocks, IsHead, AreExits}
use Rattle.rgo_flow.specs.Graphs.{IsReadIn}
use Rattle.rgo_flow.specs.Solved.{AreHeads}
use Rattle.rgo_flow.specs.Solved.{IsLiveFrom}
use Rattle.rgo_flow.proofs.Choices.{FirstUses, is_read, is_written, is_unused, some_first_use}
use Rattle.rgo_flow.proofs.Runs.{member_one, less_or}

module _ (succ reads writes : List (List ℕ)) (first last : List ℕ) (blocks : Blocks succ first last) (v : ℕ)
    (readers writers : List ℕ) (read_by : (i : ℕ) → Contains readers i ↔ Relates reads i v)
    (written_by : (i : ℕ) → Contains writers i ↔ Relates writes i v) where
  abbrev pub Is : ℕ → Type 0
  Is i = (n : ℕ) × IsReadIn succ reads writes v i n

  -- a path leaves the block, or reads in it
  record Leaves (i n : ℕ) : Type 0 where
    pub unwritten : (m : ℕ) → i ≤ m → m ≤ get_or last i 0 → Contains writers m → ⊥
    pub to : ℕ
    pub exit : Relates succ (get_or last i 0) to
    pub left : ℕ
    pub rest : IsReadIn succ reads writes v to left
    pub less : left < n

  not_here : (i j n m : ℕ) → (Relates writes i v → ⊥) → m ≡ i → Contains writers m → ⊥
  not_here i j n m none e w = none ((written_by i).0 (subst (Contains writers) e w))

  leaves_now : (i j n : ℕ) → i < length succ → (Relates writes i v → ⊥) → Relates succ i j
      → IsReadIn succ reads writes v j n → get_or last i 0 ≤ i → Leaves i (suc n)
  leaves_now i j n h none edge rest b =
      let e : get_or last i 0 ≡ i = omega (arith, blocks.ahead i h) in
      record {
        unwritten = λ m a c. not_here i j n m none (omega arith);
        to = j;
        exit = subst (λ k. Relates succ k j) (sym e) edge;
        left = n;
        rest = rest;
        less = omega arith;
      }

  continues : (i n : ℕ) → i < length succ → (Relates writes i v → ⊥) → get_or last (i + 1) 0 ≡ get_or last i 0 →
      IsRead readers writers (i + 1) (get_or last (i + 1) 0) ⊎ Leaves (i + 1) n
      → IsRead readers writers i (get_or last i 0) ⊎ Leaves i (suc n)
  continues i n h none e w = ⊎_elim
      (λ r. inl (record {
        at = r.at;
        from = omega (arith, r.from);
        to = omega (arith, r.to);
        read = r.read;
        before = λ m a c. ⊎_elim
            (λ g. r.before m (omega arith) c)
            (λ g. not_here i i n m none (omega arith))
            (less_or i m);
      }))
      (λ r. inr (record {
        unwritten = λ m a c. ⊎_elim
            (λ g. r.unwritten m (omega arith) (omega arith))
            (λ g. not_here i i n m none (omega arith))
            (less_or i m);
        to = r.to;
        exit = subst (λ k. Relates succ k r.to) e r.exit;
        left = r.left;
        rest = r.rest;
        less = omega (arith, r.less);
      }))
      w

  to_next : (i j n : ℕ) → row_at succ i ≡ (i + 1) ∷ [] → Relates succ i j → IsReadIn succ reads writes v j n
      → IsReadIn succ reads writes v (i + 1) n
  to_next i j n row edge p =
      let e : j ≡ i + 1 = member_one (i + 1) j (subst (λ (r : List ℕ). Contains r j) row edge) in
      subst (λ k. IsReadIn succ reads writes v k n) e p

  splits : (n i : ℕ) → i < length succ → IsReadIn succ reads writes v i n
      → IsRead readers writers i (get_or last i 0) ⊎ Leaves i n
  splits zero i h p = inl (record {
    at = i;
    from = omega arith;
    to = blocks.ahead i h;
    read = (read_by i).1 p;
    before = λ m a b. absurd (omega arith);
  })
  splits (suc n) i h p = ⊎_elim
      (λ b. let x = blocks.next i h b in continues i n h p.1 x.1
      (splits n (i + 1) (omega (arith, blocks.inside i h)) (to_next i p.0 n x.0 p.2 p.3)))
      (λ b. inr (leaves_now i p.0 n h p.1 p.2 p.3 b))
      (less_or i (get_or last i 0))

  -- along a block
  along : (d i k : ℕ) → i + d ≡ k → i < length succ → k ≤ get_or last i 0
      → ((m : ℕ) → i ≤ m → m < k → Contains writers m → ⊥) → Is k → Is i
  along zero i k e h b none p = let q : k ≡ i = omega arith in subst Is q p
  along (suc d) i k e h b none p =
      let x = blocks.next i h (omega arith) in
      let q = along d (i + 1) k (omega arith) (omega (arith, blocks.inside i h)) (omega (arith, x.1))
      (λ m a c. none m (omega arith) c) p in (
        suc q.0,
        (
          i + 1,
          λ w. none i (omega arith) (omega arith) ((written_by i).1 w),
          subst (λ (row : List ℕ). Contains row (i + 1)) (sym x.0) (0, omega arith, refl),
          q.1,
        ),
      )

  pub read_is : (i : ℕ) → i < length succ → IsRead readers writers i (get_or last i 0) → Is i
  read_is i h r = along (r.at - i) i r.at (omega (arith, r.from)) h r.to r.before (0, (read_by r.at).0 r.read)

  pub written_is : (i : ℕ) → i < length succ → IsWritten readers writers i (get_or last i 0) → Is i → ⊥
  written_is i h w p = ⊎_elim
      (λ r. ⊎_elim
      (λ l. r.before w.at w.from l w.written)
      (λ l. w.before r.at r.from l r.read)
      (less_or w.at r.at))
      (λ r. r.unwritten w.at w.from w.to w.written)
      (splits p.0 i h p.1)

  pub exit_is : (i j : ℕ) → i < length succ → ((m : ℕ) → i ≤ m → m ≤ get_or last i 0 → Contains writers m → ⊥)
      → Relates succ (get_or last i 0) j → Is j → Is i
  exit_is i j h none r p =
      let e = get_or last i 0 in
      along (e - i) i e (omega (arith, blocks.ahead i h)) h (omega arith) (λ m a c. none m a (omega arith))
      (suc p.0, (j, λ w. none e (blocks.ahead i h) (omega arith) ((written_by e).1 w), r, p.1))

  pub unused_is : (i : ℕ) → i < length succ → IsUnused readers writers i (get_or last i 0) → Is i
      → (j : ℕ) × Relates succ (get_or last i 0) j × Is j
  unused_is i h s p = ⊎_elim
      (λ r. absurd (s.unread r.at r.from r.to r.read))
      (λ r. (r.to, r.exit, (r.left, r.rest)))
      (splits p.0 i h p.1)

  module _ (exits : List (List ℕ)) (are_exits : AreExits succ first last exits) (solved : List ℕ)
      (are_solved : (s : ℕ) → Contains solved s ↔ (IsHead first s × Is s)) where
    pub from_tables : (i : ℕ) → i < length succ → IsLiveFrom exits (get_or first i 0)
        (get_or last i 0) readers writers solved i → Is i
    from_tables i h t = ⊎_elim
        (λ r. read_is i h r)
        (λ r.
        let x = (are_exits (get_or first i 0) r.into).0 r.exit in
        exit_is i r.into h r.passed.unwritten (subst (λ k. Relates succ k r.into) (blocks.same i h) x.1)
        ((are_solved r.into).0 r.live).1)
        t

    tables_by : (i : ℕ) → i < length succ → Is i → FirstUses readers writers i (get_or last i 0)
        → IsLiveFrom exits (get_or first i 0) (get_or last i 0) readers writers solved i
    tables_by i h p (is_read r) = inl r
    tables_by i h p (is_written r) = absurd (written_is i h r p)
    tables_by i h p (is_unused r) =
        let q = unused_is i h r p in
        let b = blocks.back i h in
        let head : IsHead first (get_or first i 0) = (omega (arith, b, blocks.firsts), blocks.head i h) in
        let t = blocks.targets (get_or last i 0) q.0 q.1 in
        inr (record {
          passed = r;
          into = q.0;
          exit = (are_exits (get_or first i 0) q.0).1
              (head, subst (λ k. Relates succ k q.0) (sym (blocks.same i h)) q.1);
          live = (are_solved q.0).1 ((omega (arith, t, blocks.firsts), blocks.entered i q.0 h q.1), q.2);
        })

    pub to_tables : (i : ℕ) → i < length succ → Is i
        → IsLiveFrom exits (get_or first i 0) (get_or last i 0) readers writers solved i
    to_tables i h p = tables_by i h p (some_first_use readers writers i (get_or last i 0) (blocks.ahead i h))

  module _ (exits before : List (List ℕ)) (are_exits : AreExits succ first last exits)
      (transposed : IsTransposed exits before)
      (inside : (p : ℕ) → Contains readers p → p < length succ)
      (inside' : (p : ℕ) → Contains writers p → p < length succ)
      (seeds barriers : List ℕ) (s_are : AreHeads readers Read readers writers first last seeds)
      (b_are : AreHeads writers Written readers writers first last barriers) where
    head_of : (p s : ℕ) → p < length succ → get_or first p 0 ≡ s → IsHead first s
    head_of p s l e =
        let b = blocks.back p l in
        (omega (arith, b, blocks.firsts), ap (λ k. get_or first k 0) (sym e) ∙ blocks.head p l ∙ e)

    Good : ℕ → Type 0
    Good s = IsHead first s × Is s

    through : (s j : ℕ) → (Contains barriers s → ⊥) → IsHead first s → Relates succ (get_or last s 0) j → Is j
        → FirstUses readers writers s (get_or last s 0) → Is s
    through s j nb h r p (is_read w) = read_is s (omega (arith, h.0, blocks.firsts)) w
    through s j nb h r p (is_written w) = absurd (nb
        ((b_are s).1 (record {
          point = w.at;
          among = w.written;
          head = blocks.whole s w.at (omega (arith, h.0, blocks.firsts)) h.1 w.from w.to;
          uses = w;
        })))
    through s j nb h r p (is_unused w) = exit_is s j (omega (arith, h.0, blocks.firsts)) w.unwritten r p

    sound : (n s : ℕ) → ReachedIn before seeds barriers n s → IsHead first s × Is s
    sound zero s c =
        let g = (s_are s).0 c in
        let h = head_of g.point s (inside g.point g.among) g.head in
        (h, read_is s (omega (arith, h.0, blocks.firsts)) g.uses)
    sound (suc n) s c =
        let x = (are_exits s c.0).0 ((transposed s c.0).1 c.2) in
        let r = sound n c.0 c.3 in (
          x.0,
          through s c.0 c.1 x.0 x.1 r.1 (some_first_use readers writers s (get_or last s 0)
              (blocks.ahead s (omega (arith, x.0.0, blocks.firsts)))),
        )

    whole_by : (d n s : ℕ) → n < d → IsHead first s → IsReadIn succ reads writes v s n
        → Reached before seeds barriers s
    whole_by zero n s l h p = absurd (omega arith)
    whole_by (suc d) n s l h p =
        let b : s < length succ = omega (arith, h.0, blocks.firsts) in
        ⊎_elim
        (λ r. (
          0,
          (s_are s).1 (record {
            point = r.at;
            among = r.read;
            head = blocks.whole s r.at b h.1 r.from r.to;
            uses = r;
          }),
        ))
        (λ r.
        let e = blocks.entered s r.to b r.exit in
        let t = blocks.targets _ r.to r.exit in
        let q = whole_by d r.left r.to (omega (arith, r.less)) (omega (arith, t, blocks.firsts), e) r.rest in (
          suc q.0,
          (
            r.to,
            λ c. let g = (b_are s).0 c in
                r.unwritten g.uses.at g.uses.from g.uses.to g.uses.written,
            (transposed s r.to).0 ((are_exits s r.to).1 (h, r.exit)),
            q.1,
          ),
        ))
        (splits n s b p)

    pub solved : (found : List ℕ) → ((p : ℕ) → Contains found p ↔ Reached before seeds barriers p) → (s : ℕ)
        → Contains found s ↔ (IsHead first s × Is s)
    solved found are s = (
      λ h. let r = (are s).0 h in
          sound r.0 s r.1,
      λ h. (are s).1 (whole_by (suc h.1.0) h.1.0 s (omega arith) h.0 h.1.1),
    )
