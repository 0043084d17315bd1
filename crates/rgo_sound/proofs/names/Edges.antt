-- What the rules say of the names along an edge, and that the duties on it can be done. The order is that of the machine: removals
-- first, then creations, then what the next instruction asks for. After them the frame is settled (`arrives`): the removals unbind what
-- is no longer held, and the creations bind what was not.
use Rattle.std.proofs.Common.{◌≡◌, ◌≢◌, ℕ, suc, ◌+◌, true, false, List, [], ◌∷◌, ◌++◌, map, Option, Some, None, refl}
use Rattle.std.proofs.Common.{sym, ap, ◌∙◌, subst, nat_eq, arith, ◌⊎◌, inl, inr, Contains, option_map, slice_get}
use Rattle.std.proofs.Common.{if◌then◌else◌}
use Rattle.std.proofs.lemmas.Option.{same_Some, slice_get-map}
use Rattle.rgo_region_machine.specs.Owed.{current, current_in, duties_before, duties_of_op, regions_named}
use Rattle.rgo_region_machine.specs.States.{RegionEnvironment, Create, Duty, Protect, Remove, Share}
use Rattle.rgo_sound.specs.Invariant.{Stands, AreProtections, HasInstr, IsFree, IsReady, Left, Settled, bound_times}
use Rattle.rgo_sound.specs.Invariant.{same_bound, times}
use Rattle.rgo_tac.specs.Frames.{TacFrame}
use Rattle.rgo_sound.proofs.Places.{contains_nil, contains_here, contains_there, contains_one, contains_cases}
use Rattle.rgo_sound.proofs.Places.{stands_or_not, AreDistinct, ascending_distinct}
use Rattle.rgo_sound.proofs.Tests.{ne_of, split, eq_of}
use Rattle.rgo_sound.proofs.names.Core.{bound_unbind, bound_unbind_other}
use Rattle.rgo_code.specs.Code.{Branch, Call, Code, CodeFn, CodeInstr, CodeOp, Do, Go, Jump, Print, Return}
use Rattle.rgo_code.specs.Erasure.{erased_fn, erased_instr, erased_op}
use Rattle.rgo_code.specs.NameRules.{CreatesUsed, InstrAscends, MayRemove, ProtectsUsed, RemovesDead, protected_names}
use Rattle.rgo_code.specs.Names.{LeavesToCallee, Holds, IsLiveName, IsOwn, UsesRegionName, edges, is_class_named, result_class}
use Rattle.rgo_flow.specs.Live.{Live, led_to_by, written_by}
use Rattle.rgo_region_machine.specs.Regions.{Bindings, bound, same_region, unbind}
use Rattle.rgo_region_machine.specs.declared.regions.Region.{Region}
use Rattle.rgo_region_machine.specs.declared.regions.Region.TheVariants.{Numbered}
use Rattle.rgo_sound.specs.Stakes.{one_when}
use Rattle.rgo_tac.specs.Flow.{leads_to, writes}
use Rattle.rgo_tac.specs.declared.regions.Class.{Class}
use Rattle.rgo_tac.specs.declared.regions.Class.TheVariants.{Global, Name, NoClass}

-- ---- duties that can be done

module _ (Own : ℕ → Type 0) (Then : Bindings → List Region → Type 0) where
  -- names that are bound, and free to go, can be removed in their turn; after the removals none of them is bound, and the others are as
  -- they were
  pub ready_removes : (rs : List ℕ) (duties : List Duty) (names : Bindings) → AreDistinct rs
      → ((k : ℕ) → Contains rs k → (bound names k ≢ None) × Own k)
      → ((left : Bindings) → ((k : ℕ) → Contains rs k → bound left k ≡ None)
      → ((k : ℕ) → ¬ (Contains rs k) → bound left k ≡ bound names k) → IsReady Own Then duties left [])
      → IsReady Own Then (map Remove rs ++ duties) names []
  ready_removes [] duties names d h next = next names (λ k c. absurd (contains_nil k c)) (λ k n. refl)
  ready_removes (r ∷ rs) duties names d h next = (
    refl,
    (h r (contains_here r rs)).0,
    (h r (contains_here r rs)).1,
    ready_removes rs duties (unbind names r) d.1
        (λ k c. (
          (λ e. (h k (contains_there r rs k c)).0 (sym (bound_unbind_other names r k (other k c)) ∙ e)),
          (h k (contains_there r rs k c)).1,
        ))
        (λ left gone kept. next left
        (λ k c. first left gone kept k (contains_cases r rs k c))
        (λ k n. kept k (λ c. n (contains_there r rs k c)) ∙ bound_unbind_other names r k
        (ne_of r k (λ e. n (subst (λ x. Contains (r ∷ rs) x) e (contains_here r rs)))))),
  )
    where
      other : (k : ℕ) → Contains rs k → nat_eq r k ≡ false
      other k c = ne_of r k (λ e. d.0 (subst (λ x. Contains rs x) (sym e) c))

      first : (left : Bindings) → ((k : ℕ) → Contains rs k → bound left k ≡ None)
          → ((k : ℕ) → ¬ (Contains rs k) → bound left k ≡ bound (unbind names r) k) → (k : ℕ) → (r ≡ k) ⊎ Contains rs k
          → bound left k ≡ None
      first left gone kept k (inl e) = subst (λ x. bound left x ≡ None) e (kept r d.0 ∙ bound_unbind names r)
      first left gone kept k (inr c) = gone k c

  -- the same for creations, of names that are not bound
  pub ready_creates : (cs : List ℕ) (duties : List Duty) (names : Bindings) (protections : List Region) → AreDistinct cs
      → ((k : ℕ) → Contains cs k → (bound names k ≡ None) × Own k)
      → ((new : Bindings) → ((k : ℕ) → Contains cs k → bound new k ≢ None)
      → ((k : ℕ) → ¬ (Contains cs k) → bound new k ≡ bound names k) → IsReady Own Then duties new protections)
      → IsReady Own Then (map Create cs ++ duties) names protections
  ready_creates [] duties names protections d h next = next names (λ k c. absurd (contains_nil k c)) (λ k n. refl)
  ready_creates (c ∷ cs) duties names protections d h next = (
    (h c (contains_here c cs)).0,
    (h c (contains_here c cs)).1,
    λ r.
        ready_creates cs duties ((c, Numbered r) ∷ unbind names c) protections d.1
        (λ k i. (more r k (other k i) ∙ (h k (contains_there c cs k i)).0, (h k (contains_there c cs k i)).1))
        (λ new made kept. next new
        (λ k i. first r new made kept k (contains_cases c cs k i))
        (λ k n. kept k (λ i. n (contains_there c cs k i)) ∙ more r k
        (ne_of c k (λ e. n (subst (λ x. Contains (c ∷ cs) x) e (contains_here c cs)))))),
  )
    where
      other : (k : ℕ) → Contains cs k → nat_eq c k ≡ false
      other k i = ne_of c k (λ e. d.0 (subst (λ x. Contains cs x) (sym e) i))

      more : (r k : ℕ) → nat_eq c k ≡ false → bound ((c, Numbered r) ∷ unbind names c) k ≡ bound names k
      more r k n = ap (λ x. if x then Some (Numbered r) else bound (unbind names c) k) n
          ∙ bound_unbind_other names c k n

      same : (r : ℕ) → bound ((c, Numbered r) ∷ unbind names c) c ≡ Some (Numbered r)
      same r = grind arith

      first : (r : ℕ) (new : Bindings) → ((k : ℕ) → Contains cs k → bound new k ≢ None)
          → ((k : ℕ) → ¬ (Contains cs k) → bound new k ≡ bound ((c, Numbered r) ∷ unbind names c) k) → (k : ℕ) → (c ≡ k)
          ⊎ Contains cs k → bound new k ≢ None
      first r new made kept k (inl e) = subst (λ x. bound new x ≢ None) e
          (λ none. some_none r (sym (kept c d.0 ∙ same r) ∙ none))
        where
          some_none : (r : ℕ) → Some (Numbered r) ≡ None → ⊥
          some_none r e = cc
      first r new made kept k (inr i) = made k i

  -- bound names can be shared, and no name changes
  pub ready_shares : (ks : List ℕ) (names : Bindings) (protections : List Region)
      → ((k : ℕ) → Contains ks k → bound names k ≢ None) → Then names protections
      → IsReady Own Then (map Share ks) names protections
  ready_shares [] names protections h t = t
  ready_shares (k ∷ ks) names protections h t = (
    h k (contains_here k ks),
    ready_shares ks names protections
        (λ j c. h j (contains_there k ks j c)) t,
  )

  -- bound names can be protected, and each is counted once more among the protections
  pub ready_protects : (ks : List ℕ) (names : Bindings) (protections : List Region)
      → ((k : ℕ) → Contains ks k → bound names k ≢ None) → ((more : List Region)
      → ((r : Region) → times r more ≡ bound_times r names ks + times r protections) → Then names more)
      → IsReady Own Then (map Protect ks) names protections
  ready_protects [] names protections h next = next protections (λ r. omega arith)
  ready_protects (k ∷ ks) names protections h next = (
    h k (contains_here k ks),
    λ q e.
        ready_protects ks names (q ∷ protections) (λ j c. h j (contains_there k ks j c))
        (λ more eq. next more (λ r. let a = eq r in let b : one_when (same_bound r (bound names k))
        ≡ one_when (same_region r q) = ap (λ x. one_when (same_bound r x)) e in omega (arith, a, b))),
  )

-- ---- along an edge

-- an edge of an instruction is an edge of its erasure
edge_leads : (op : CodeOp) (i j : ℕ) (removes : List ℕ) → Contains (edges op i) (j, removes)
    → Contains (leads_to (erased_op op) i) j
edge_leads (Do to action from rs) i j removes c = subst (λ x. Contains ((i + 1) ∷ []) x)
    (ap (λ (p : ℕ × List ℕ). p.0) (contains_one (i + 1, rs) (j, removes) c)) (contains_here (i + 1) [])
edge_leads (Call to n from passes protects rs) i j removes c =
    subst (λ x. Contains ((i + 1) ∷ []) x) (ap (λ (p : ℕ × List ℕ). p.0) (contains_one (i + 1, rs) (j, removes) c))
    (contains_here (i + 1) [])
edge_leads (Go n from passes rs) i j removes c = subst (λ x. Contains ((i + 1) ∷ []) x)
    (ap (λ (p : ℕ × List ℕ). p.0) (contains_one (i + 1, rs) (j, removes) c)) (contains_here (i + 1) [])
edge_leads (Print pieces from rs) i j removes c = subst (λ x. Contains ((i + 1) ∷ []) x)
    (ap (λ (p : ℕ × List ℕ). p.0) (contains_one (i + 1, rs) (j, removes) c)) (contains_here (i + 1) [])
edge_leads (Jump t rs) i j removes c = subst (λ x. Contains (t ∷ []) x)
    (ap (λ (p : ℕ × List ℕ). p.0) (contains_one (t, rs) (j, removes) c)) (contains_here t [])
edge_leads (Branch v t rs u rs') i j removes c = go (contains_cases (t, rs) ((u, rs') ∷ []) (j, removes) c)
  where
    go : (◌≡◌ {A = ℕ × List ℕ} (t, rs) (j, removes)) ⊎ Contains {X = ℕ × List ℕ} ((u, rs') ∷ []) (j, removes)
        → Contains (t ∷ u ∷ []) j
    go (inl e) = subst (λ x. Contains (t ∷ u ∷ []) x) (ap (λ (p : ℕ × List ℕ). p.0) e) (contains_here t (u ∷ []))
    go (inr d) = contains_there t (u ∷ []) j (subst (λ x. Contains (u ∷ []) x)
        (ap (λ (p : ℕ × List ℕ). p.0) (contains_one (u, rs') (j, removes) d)) (contains_here u []))
edge_leads (Return value) i j removes c = absurd (contains_nil (j, removes) c)

-- a variable that is live after an edge, and not written by the instruction, is live before it
pub live_back : (fn : CodeFn) (i j v : ℕ) (instr : CodeInstr) (removes : List ℕ) → HasInstr fn i instr
    → Contains (edges instr.op i) (j, removes) → (writes (erased_op instr.op) ≡ Some v → ⊥) → Live (erased_fn fn) v j
    → Live (erased_fn fn) v i
live_back fn i j v instr removes here c w (n, l) =
    let e : slice_get (erased_fn fn).body i ≡ Some (erased_instr instr) =
    slice_get-map erased_instr fn.body i ∙ ap (option_map erased_instr) here in (
      suc n,
      (
        (λ x. w (ap written_by (sym e) ∙ x)),
        j,
        subst (λ o. Contains (led_to_by i o) j) (sym e)
            (edge_leads instr.op i j removes c),
        l,
      ),
    )

-- what is held after an instruction was held before it, or was created
hold_back : (fn : CodeFn) (i j k : ℕ) (instr : CodeInstr) (removes : List ℕ) → HasInstr fn i instr
    → Contains (edges instr.op i) (j, removes) → CreatesUsed fn i instr → ¬ (Contains instr.creates k) → Holds fn k j
    → ¬ (¬ (Holds fn k i))
hold_back fn i j k instr removes here c creates n (own, at) never =
    never (
      own,
      record {
        variable = at.variable;
        named = at.named;
        live =
            live_back fn i j at.variable instr removes here c (λ w.
            n ((creates k).1 (own, record { variable = at.variable; used = inr w; named = at.named }, never))) at.live;
      },
    )

-- what is held after a call was not given: by rule 10 a name that is live after it is protected, if it is passed
hold_not_given : (code : Code) (fn : CodeFn) (i j k : ℕ) (op : CodeOp) (removes : List ℕ)
    → Contains (edges op i) (j, removes) → ProtectsUsed fn i op → Holds fn k j → ¬ (LeavesToCallee code op k)
hold_not_given code fn i j k (Call to n from passes protects rs) removes c p h g =
    let e : i + 1 ≡ j = ap (λ (x : ℕ × List ℕ). x.0) (contains_one (i + 1, rs) (j, removes) c) in
    g.1 ((p k).1 (g.0, inl (subst (λ x. IsLiveName fn k x) (sym e) h.1)))
hold_not_given code fn i j k (Do to action from rs) removes c p h g = g
hold_not_given code fn i j k (Go n from passes rs) removes c p h g = g
hold_not_given code fn i j k (Print pieces from rs) removes c p h g = g
hold_not_given code fn i j k (Jump t rs) removes c p h g = g
hold_not_given code fn i j k (Branch v t rs u rs') removes c p h g = g
hold_not_given code fn i j k (Return value) removes c p h g = g

-- the names that are shared or protected before an instruction
abbrev pub asked_names : CodeOp → List ℕ
asked_names (Call to n from passes protects removes) = protects
asked_names (Go n from passes removes) = regions_named passes
asked_names op = []

-- what an instruction asks for can be done if all of it is bound; after it the protections are those that it names
pub ready_ops : (Own : ℕ → Type 0) (Then : Bindings → List Region → Type 0) (op : CodeOp) (names : Bindings)
    → ((k : ℕ) → Contains (asked_names op) k → bound names k ≢ None)
    → ((protections : List Region) → AreProtections protections names (protected_names op) → Then names protections)
    → IsReady Own Then (duties_of_op op) names []
ready_ops Own Then (Call to n from passes protects rs) names h next =
    ready_protects Own Then protects names [] h (λ more eq. next more (λ r. let a = eq r in omega (arith, a)))
ready_ops Own Then (Go n from passes rs) names h next =
    ready_shares Own Then (regions_named passes) names [] h (next [] (λ r. refl))
ready_ops Own Then (Do to action from rs) names h next = next [] (λ r. refl)
ready_ops Own Then (Print pieces from rs) names h next = next [] (λ r. refl)
ready_ops Own Then (Jump t rs) names h next = next [] (λ r. refl)
ready_ops Own Then (Branch v t rs u rs') names h next = next [] (λ r. refl)
ready_ops Own Then (Return value) names h next = next [] (λ r. refl)

-- whether a name is bound
pub decide : (o : Option Region) → (o ≡ None) ⊎ (o ≢ None)
decide None = inl refl
decide (Some r) = inr (λ e. cc)

-- whether a class is a name
pub is_named : (k : ℕ) (c : Class) → is_class_named k c ≡ true → c ≡ Name k
is_named k NoClass e = cc
is_named k Global e = cc
is_named k (Name j) e = ap Name (sym (eq_of k j e))

pub not_named : (k : ℕ) (c : Class) → is_class_named k c ≡ false → c ≢ Name k
not_named k c e q = let t : is_class_named k c ≡ true = ap (is_class_named k) q ∙ self k in cc
  where
    self : (k : ℕ) → is_class_named k (Name k) ≡ true
    self k = grind arith

-- the facts of the rules at one instruction
pub record Kept (code : Code) (fn : CodeFn) (i : ℕ) (instr : CodeInstr) : Type 0 where
  pub here : HasInstr fn i instr
  pub creates : CreatesUsed fn i instr
  pub removes : RemovesDead code fn i instr
  pub protects : ProtectsUsed fn i instr.op
  pub written : InstrAscends i instr
  pub asked : (k : ℕ) → Contains (asked_names instr.op) k → UsesRegionName fn instr.op k

-- every name that an instruction uses is bound before it
pub named_bound : (fn : CodeFn) (i k : ℕ) (instr : CodeInstr) (names : Bindings) → CreatesUsed fn i instr
    → ((k : ℕ) → Holds fn k i → bound names k ≢ None) → ((k : ℕ) → Contains instr.creates k → bound names k ≢ None)
    → ((k : ℕ) → result_class fn ≡ Name k → bound names k ≢ None) → UsesRegionName fn instr.op k → bound names k ≢ None
named_bound fn i k instr names creates there made lent n e =
    split (is_class_named k (result_class fn)) (λ t. lent k (is_named k (result_class fn) t) e)
    (λ f. own (not_named k (result_class fn) f) (stands_or_not instr.creates k))
  where
    own : IsOwn fn k → Contains instr.creates k ⊎ (¬ (Contains instr.creates k)) → ⊥
    own o (inl c) = made k c e
    own o (inr m) = m ((creates k).1 (o, n, (λ h. there k h e)))

-- Along an edge: the removals, the creations and what the next instruction asks for can all be done, and then the frame is settled.
-- Here the rules on names become facts on duties, for every kind of instruction at once.
pub arrives : (code : Code) (fn : CodeFn) (i j : ℕ) (instr next : CodeInstr) (removes : List ℕ) (names : Bindings)
    → Kept code fn i instr → Contains (edges instr.op i) (j, removes) → Kept code fn j next → Left code fn i instr names
    → IsReady (IsFree fn j) (Settled fn j next) (map Remove removes ++ duties_before (Some next)) names []
arrives code fn i j instr next removes names a c b l =
    ready_removes (IsFree fn j) (Settled fn j next) removes (duties_before (Some next)) names
    (ascending_distinct removes (a.written.removes j removes c)) (λ k d. goes k ((a.removes j removes c k).0 d))
    (λ left gone kept. ready_creates (IsFree fn j) (Settled fn j next) next.creates (duties_of_op next.op) left []
    (ascending_distinct next.creates b.written.creates)
    (λ k d. let x = (b.creates k).0 d in (unbound left gone kept k x.0 x.2 (stands_or_not removes k), (x.0, x.2)))
    (λ new made kept'. ready_ops (IsFree fn j) (Settled fn j next) next.op new
    (λ k d. named_bound fn j k next new b.creates (there left kept new made kept') made (lent left kept new kept')
    (b.asked k d))
    (λ protections fit. record {
      there = there left kept new made kept';
      made = made;
      gone = λ k o h m. kept' k m ∙ unbound left gone kept k o h (stands_or_not removes k);
      lent = lent left kept new kept';
      protections_fit = fit;
    })))
  where
    goes : (k : ℕ) → MayRemove code fn i instr k × (¬ (Holds fn k j)) → (bound names k ≢ None) × IsFree fn j k
    goes k ((inl h, g), n) = (l.there k h g, (h.0, n))
    goes k ((inr m, g), n) = (l.made k m g, (((a.creates k).0 m).0, n))

    unbound : (left : Bindings) → ((k : ℕ) → Contains removes k → bound left k ≡ None)
        → ((k : ℕ) → ¬ (Contains removes k) → bound left k ≡ bound names k) → (k : ℕ) → IsOwn fn k → ¬ (Holds fn k j)
        → Contains removes k ⊎ (¬ (Contains removes k)) → bound left k ≡ None
    unbound left gone kept k o h (inl d) = gone k d
    unbound left gone kept k o h (inr n) = kept k n ∙ still (decide (bound names k))
      where
        still : (bound names k ≡ None) ⊎ (bound names k ≢ None) → bound names k ≡ None
        still (inl e) = e
        still (inr s) =
            let not_given : ¬ (LeavesToCallee code instr.op k) = λ g. s (l.given k g) in
            l.gone k o (λ x. n ((a.removes j removes c k).1 ((inl x, not_given), h)))
            (λ x. n ((a.removes j removes c k).1 ((inr x, not_given), h)))

    here : (k : ℕ) → Holds fn k j → bound names k ≢ None
    here k h e = go (stands_or_not instr.creates k)
      where
        g : ¬ (LeavesToCallee code instr.op k)
        g = hold_not_given code fn i j k instr.op removes c a.protects h

        go : Contains instr.creates k ⊎ (¬ (Contains instr.creates k)) → ⊥
        go (inl m) = l.made k m g e
        go (inr m) = hold_back fn i j k instr removes a.here c a.creates m h (λ x. l.there k x g e)

    there : (left : Bindings) → ((k : ℕ) → ¬ (Contains removes k) → bound left k ≡ bound names k) → (new : Bindings)
        → ((k : ℕ) → Contains next.creates k → bound new k ≢ None)
        → ((k : ℕ) → ¬ (Contains next.creates k) → bound new k ≡ bound left k) → (k : ℕ) → Holds fn k j
        → bound new k ≢ None
    there left kept new made kept' k h e = go (stands_or_not next.creates k)
      where
        go : Contains next.creates k ⊎ (¬ (Contains next.creates k)) → ⊥
        go (inl m) = made k m e
        go (inr m) = here k h (sym (kept k (λ d. ((a.removes j removes c k).0 d).1 h)) ∙ sym (kept' k m) ∙ e)

    lent : (left : Bindings) → ((k : ℕ) → ¬ (Contains removes k) → bound left k ≡ bound names k) → (new : Bindings)
        → ((k : ℕ) → ¬ (Contains next.creates k) → bound new k ≡ bound left k) → (k : ℕ) → result_class fn ≡ Name k
        → bound new k ≢ None
    lent left kept new kept' k r e =
        l.lent k r (sym (kept k (λ d. (goes k ((a.removes j removes c k).0 d)).1.0 r))
        ∙ sym (kept' k (λ d. ((b.creates k).0 d).0 r)) ∙ e)

-- ---- the top frame of a goroutine that owes nothing

-- the instruction that its facts name is its next one
pub standing_instr : (code : Code) (frame : TacFrame) (f : RegionEnvironment) (duties : List Duty) (instr : CodeInstr)
    (st : Stands code frame f duties) → current code frame ≡ Some instr → st.instr ≡ instr
standing_instr code frame f duties instr st cur =
    same_Some st.instr instr (sym (ap (λ o. current_in o frame.next) st.is_fn ∙ st.is_instr) ∙ cur)

-- its names and protections are those of that instruction
pub standing_settled : (code : Code) (frame : TacFrame) (f : RegionEnvironment) (duties : List Duty) (instr : CodeInstr)
    (st : Stands code frame f duties) → current code frame ≡ Some instr → duties ≡ []
    → Settled st.fn frame.next instr f.names f.protections
standing_settled code frame f duties instr st cur d =
    subst (λ x. Settled st.fn frame.next x f.names f.protections) (standing_instr code frame f duties instr st cur)
    (subst (λ x. IsReady (IsFree st.fn frame.next) (Settled st.fn frame.next st.instr) x f.names f.protections) d
    st.ready)
