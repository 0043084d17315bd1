-- What dies on the ways of an instruction. An instruction that leads to one only uses every name that dies after it (`dies_used`), so its
-- names are candidates enough; for a branch the tables list them.
use Rattle.std.proofs.Common.{◌≡◌, ◌⊎◌, ⊎_elim, inl, inr, ◌+◌, ℕ, zero, suc, List, [], ◌∷◌, Option, Some, None, slice_get, sym, ap, subst, ◌∙◌, arith}
use Rattle.std.specs.Prelude.{◌↔◌}
use Rattle.std.specs.List.{Contains}
use Rattle.std.specs.Option.{option_map}
use Rattle.std.proofs.lemmas.Option.{same_Some, none-some, slice_get-map}
use Rattle.rgo_tac.specs.declared.regions.Class.TheVariants.{Name}
use Rattle.rgo_tac.specs.Code.{Op, Instr, Do, Call, Go, Print, Jump, Branch, Return}
use Rattle.rgo_tac.specs.Flow.{leads_to}
use Rattle.rgo_tac.specs.Ops.{op_in}
use Rattle.rgo_flow.specs.Live.{read_by, ReadsVariable, IsSuccessor, Live, IsReadAfter, led_to_by}
use Rattle.rgo_graphs.specs.Rows.{rows_of}
use Rattle.rgo_graphs.proofs.Lists.{member_one}
use Rattle.rgo_code.specs.Code.{CodeInstr, CodeFn}
use Rattle.rgo_code.specs.Erasure.{erased_instr, erased_fn}
use Rattle.rgo_code.specs.Names.{class_of, IsOwn, IsLiveName, Holds}
use Rattle.rgo_region_sets.specs.Asked.{Creates, Removes, IsDead, AreCandidates, way}
use Rattle.rgo_region_sets.specs.Branches.{ways_of, ways_in, branch_at}
use Rattle.rgo_region_sets.specs.declared.table.LiveNames.{LiveNames}
use Rattle.rgo_region_sets.specs.Live.{AreLiveNames, HasDying, IsWay, AddsDying}
use Rattle.rgo_region_sets.specs.Used.{UsesName}
use Rattle.rgo_region_sets.proofs.Spanning.{spanned_or}

-- ---- a name that is live before an instruction and not after it is used

-- a variable that an instruction reads is used by it
read_used : (f : CodeFn) (found : Option CodeInstr) (v k : ℕ) → class_of f v ≡ Name k
    → Contains (read_by (option_map erased_instr found)) v → UsesName f found k
read_used f None v k named h = absurd (omega (arith, h.1))
read_used f (Some i) v k named h = record { variable = v; used = inl h; named = named }

pub reads_use : (f : CodeFn) (at v k : ℕ) → class_of f v ≡ Name k → ReadsVariable (erased_fn f) at v
    → UsesName f (slice_get f.body at) k
reads_use f at v k named h =
    read_used f (slice_get f.body at) v k named
    (subst (λ o. Contains (read_by o) v) (slice_get-map erased_instr f.body at) h)

-- where an instruction leads to one instruction only, what is live before it and not there is read
step_used : (f : CodeFn) (at next v k : ℕ) (steps : ℕ) → class_of f v ≡ Name k
    → ((j : ℕ) → IsSuccessor (erased_fn f) at j → j ≡ next) → IsReadAfter (erased_fn f) steps v at
    → (Live (erased_fn f) v next → ⊥) → UsesName f (slice_get f.body at) k
step_used f at next v k zero named only h dead = reads_use f at v k named h
step_used f at next v k (suc n) named only h dead =
    absurd (dead (n, subst (IsReadAfter (erased_fn f) n v) (only h.1 h.2) h.3))

pub dies_used : (f : CodeFn) (at next k : ℕ) → ((j : ℕ) → IsSuccessor (erased_fn f) at j → j ≡ next) → IsLiveName f k at
    → (IsLiveName f k next → ⊥) → UsesName f (slice_get f.body at) k
dies_used f at next k only live dead =
    step_used f at next live.variable k live.live.0 live.named only live.live.1
    (λ l. dead (record { variable = live.variable; named = live.named; live = l }))

-- ---- candidates

module _ (live : LiveNames) (f : CodeFn) (tables : AreLiveNames live f) (at next : ℕ) (used names : List ℕ)
    (uses : (k : ℕ) → Contains used k ↔ UsesName f (slice_get f.body at) k) where
  -- of a branch
  pub branch_candidates : AddsDying live used names at next → AreCandidates f at next names
  branch_candidates adds = record {
    known = λ k h. ⊎_elim
        (λ u. inr ((uses k).0 u))
        (λ d. inl ((tables.names k at).0 d.0))
        ((adds k).0 h);
    used = λ k u. (adds k).1 (inl ((uses k).1 u));
    live = λ k l dead. (adds k).1 (inr ((tables.names k at).1 l, λ h. dead ((tables.names k next).0 h)));
  }

  -- of another instruction, which leads to one only
  pub other_candidates : names ≡ used → ((j : ℕ) → IsSuccessor (erased_fn f) at j → j ≡ next) → AreCandidates f at next names
  other_candidates same only = record {
    known = λ k h. inr ((uses k).0 (subst (λ l. Contains l k) same h));
    used = λ k u. subst (λ l. Contains l k) (sym same) ((uses k).1 u);
    live = λ k l dead. subst (λ l. Contains l k) (sym same) ((uses k).1 (dies_used f at next k only l dead));
  }

-- the same candidates in another list
pub same_candidates : (f : CodeFn) (at next : ℕ) (names sorted : List ℕ)
    → ((k : ℕ) → Contains sorted k ↔ Contains names k) → AreCandidates f at next names → AreCandidates f at next sorted
same_candidates f at next names sorted same h = record {
  known = λ k m. h.known k ((same k).0 m);
  used = λ k u. (same k).1 (h.used k u);
  live = λ k l dead. (same k).1 (h.live k l dead);
}

-- ---- what is removed

module _ (live : LiveNames) (f : CodeFn) (tables : AreLiveNames live f) where
  pub live_or : (k at : ℕ) → IsLiveName f k at ⊎ (IsLiveName f k at → ⊥)
  live_or k at = ⊎_elim
      (λ h. inl ((tables.names k at).0 h))
      (λ n. inr (λ h. n ((tables.names k at).1 h)))
      (spanned_or live.spans.items k at)

  pub removed : (at next : ℕ) (gives names : List ℕ) → AreCandidates f at next names → (k : ℕ)
      → (Contains names k × IsDead f gives next k) ↔ Removes f at gives next k
  removed at next gives names candidates k = (
    λ h.
        let own = h.1 in
        ((by_use own (candidates.known k h.0), own.1), λ held. own.2 held.1),
    λ h. (
      ⊎_elim
          (λ held. candidates.live k held.1 (λ l. h.1 (held.0, l)))
          (λ created. candidates.used k created.1)
          h.0.0,
      (own_of h.0.0, h.0.1, λ l. h.1 (own_of h.0.0, l)),
    ),
  )
    where
      own_of : Holds f k at ⊎ Creates f at k → IsOwn f k
      own_of may = ⊎_elim (λ held. held.0) (λ created. created.0) may

      by_use : IsDead f gives next k → IsLiveName f k at ⊎ UsesName f (slice_get f.body at) k
          → Holds f k at ⊎ Creates f at k
      by_use dead known = ⊎_elim
          (λ l. inl (dead.0, l))
          (λ u. ⊎_elim
          (λ l. inl (dead.0, l))
          (λ n. inr (dead.0, u, λ held. n held.1))
          (live_or k at))
          known

-- ---- the ways of an instruction

single : (target n next : ℕ) → slice_get (target ∷ []) n ≡ Some next → (j : ℕ) → Contains (target ∷ []) j → j ≡ next
single target zero next e j h = member_one target j h ∙ same_Some target next e
single target (suc n) next e j h = absurd (none-some next e)

-- an instruction other than a branch leads to one at most
one_way : (op : Op) (at : ℕ) → ways_of op ≡ None → (n next : ℕ) → slice_get (leads_to op at) n ≡ Some next
    → (j : ℕ) → Contains (leads_to op at) j → j ≡ next
one_way (Do to action from) at none n next e j h = single (at + 1) n next e j h
one_way (Call to function from) at none n next e j h = single (at + 1) n next e j h
one_way (Go function from) at none n next e j h = single (at + 1) n next e j h
one_way (Print pieces from) at none n next e j h = single (at + 1) n next e j h
one_way (Jump target) at none n next e j h = single target n next e j h
one_way (Branch test target other) at none n next e j h = absurd (none-some (target, other) (sym none))
one_way (Return value) at none n next e j h = absurd (omega (arith, h.1))

one_way_in : (found : Option Instr) (at : ℕ) → ways_in (op_in found) ≡ None → (n next : ℕ)
    → slice_get (led_to_by at found) n ≡ Some next → (j : ℕ) → Contains (led_to_by at found) j → j ≡ next
one_way_in None at none n next e j h = absurd (none-some next e)
one_way_in (Some i) at none n next e j h = one_way i.op at none n next e j h

branch_ways : (op : Op) (at : ℕ) (ways : ℕ × ℕ) → ways_of op ≡ Some ways
    → leads_to op at ≡ ways.0 ∷ ways.1 ∷ []
branch_ways (Do to action from) at ways e = absurd (none-some ways e)
branch_ways (Call to function from) at ways e = absurd (none-some ways e)
branch_ways (Go function from) at ways e = absurd (none-some ways e)
branch_ways (Print pieces from) at ways e = absurd (none-some ways e)
branch_ways (Jump target) at ways e = absurd (none-some ways e)
branch_ways (Branch test target other) at ways e =
    ap (λ (p : ℕ × ℕ). p.0 ∷ p.1 ∷ []) (same_Some (target, other) ways e)
branch_ways (Return value) at ways e = absurd (none-some ways e)

branch_ways_in : (found : Option Instr) (at : ℕ) (ways : ℕ × ℕ) → ways_in (op_in found) ≡ Some ways
    → led_to_by at found ≡ ways.0 ∷ ways.1 ∷ []
branch_ways_in None at ways e = absurd (none-some ways e)
branch_ways_in (Some i) at ways e = branch_ways i.op at ways e

module _ (live : LiveNames) (f : CodeFn) (tables : AreLiveNames live f) (at next : ℕ) where
  first_is : (ways : ℕ × ℕ) → branch_at (erased_fn f) at ≡ Some ways → way f at 0 ≡ Some next → ways.0 ≡ next
  first_is ways is leads =
      same_Some ways.0 next
      (sym (ap (λ l. slice_get l 0) (branch_ways_in (slice_get (erased_fn f).body at) at ways is)) ∙ leads)

  second_is : (ways : ℕ × ℕ) → branch_at (erased_fn f) at ≡ Some ways → way f at 1 ≡ Some next → ways.1 ≡ next
  second_is ways is leads =
      same_Some ways.1 next
      (sym (ap (λ l. slice_get l 1) (branch_ways_in (slice_get (erased_fn f).body at) at ways is)) ∙ leads)

  pub first_way : way f at 0 ≡ Some next → IsWay live f (rows_of live.taken.items) at next
  first_way leads = record {
    known = λ ways is.
        let b = tables.branches at ways is in
        record {
          branch = b.0;
          point = b.1.point;
          dying = subst (λ n. HasDying live (rows_of live.taken.items) b.0 at n) (first_is ways is leads) b.1.taken;
        };
    only = λ none. one_way_in (slice_get (erased_fn f).body at) at none 0 next leads;
  }

  pub second_way : way f at 1 ≡ Some next → IsWay live f (rows_of live.passed.items) at next
  second_way leads = record {
    known = λ ways is.
        let b = tables.branches at ways is in
        record {
          branch = b.0;
          point = b.1.point;
          dying = subst (λ n. HasDying live (rows_of live.passed.items) b.0 at n) (second_is ways is leads) b.1.passed;
        };
    only = λ none. one_way_in (slice_get (erased_fn f).body at) at none 1 next leads;
  }
