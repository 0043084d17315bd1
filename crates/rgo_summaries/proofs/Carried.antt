-- What is carried to callers is joined in every family of summaries that names at least as much: a call in that family joins, by the
-- summary of its callee, what is carried here node by node.
use Rattle.std.proofs.Common.{◌≡◌, ⊎_elim, ◌↔◌, ℕ, ◌+◌, List, Option, Some, None, slice_get, refl, sym, ◌∙◌, subst}
use Rattle.std.proofs.lemmas.Option.{same_Some}
use Rattle.rgo_tac.specs.declared.regions.Member.{Member}
use Rattle.rgo_tac.specs.Code.{TacFn, Tac}
use Rattle.rgo_classes.specs.declared.classes.Summary.{Summary}
use Rattle.rgo_classes.specs.Joins.{IsPointerLike, Joins}
use Rattle.rgo_classes.specs.Classes.{InOneClass}
use Rattle.rgo_classes.specs.Same.{AreSame}
use Rattle.rgo_summaries.specs.Calls.{CallParts, call_and_callee_at, passed_member}
use Rattle.rgo_summaries.specs.Nodes.{NodeKind, Own, Callee, IsOuter, JoinsOwn, JoinsPassed, JoinsAtFirst}
use Rattle.rgo_summaries.specs.Spreading.{Spreads, first, carried, itself, turned, chained}
use Rattle.rgo_classes.proofs.Chains as chain
use Rattle.rgo_summaries.proofs.Chains.{IsEquivalence, least}
use Rattle.rgo_summaries.proofs.Standing.{Together, call_here, joined_by_call, joined_own}

-- the nodes of a call, from a base on
pub record Block (code : Tac) (kinds : ℕ → ℕ → Option NodeKind) (Inside : ℕ → ℕ → Type 0) (g n base : ℕ) : Type 0 where
  pub f : TacFn
  pub caller : slice_get code.functions n ≡ Some f
  pub at : ℕ
  pub call : CallParts
  pub callee : TacFn
  pub here : call_and_callee_at code f at ≡ Some (call, callee)
  pub calls : call.function ≡ g
  pub nodes : (i : ℕ) → Inside g i → kinds n (base + i) ≡ Some (Callee at i)

-- summaries that put related members into one class
abbrev pub Speak : Tac → List Summary → (ℕ → ℕ → ℕ → Type 0) → Type 0
Speak code sums Related = (n : ℕ) (g : TacFn) (i j : ℕ) → slice_get code.functions n ≡ Some g → IsOuter g i
    → IsOuter g j
    → Related n i j → (s : Summary) × (slice_get sums n ≡ Some s) × Together s i j

abbrev pub AreEquivalences : (ℕ → ℕ → ℕ → Type 0) → Type 0
AreEquivalences Related = (n : ℕ) → IsEquivalence (Related n)

module _ (code : Tac) (sums : List Summary) (Related : ℕ → ℕ → ℕ → Type 0) where
  -- a member is in one class with one that is passed for a member related to this one
  pub record Reaches (f : TacFn) (a : Member) (i : ℕ) (call : CallParts) (callee : TacFn) : Type 0 where
    pub through : ℕ
    pub actual : Member
    pub outer : IsOuter callee through
    pub same : Related call.function through i
    pub passes : passed_member call through ≡ Some actual
    pub pointer_like : IsPointerLike f actual
    pub chain : InOneClass sums f a actual

  abbrev pub ReachesAt : TacFn → Member → ℕ → Option (CallParts × TacFn) → Type 0
  ReachesAt f a i None = ⊥
  ReachesAt f a i (Some c) = Reaches f a i c.0 c.1

  -- a member is in one class with what a node represents
  abbrev pub Stands : TacFn → Member → Option NodeKind → Type 0
  Stands f a None = ⊥
  Stands f a (Some (Own b)) = InOneClass sums f a b
  Stands f a (Some (Callee at i)) = ReachesAt f a i (call_and_callee_at code f at)

  abbrev pub Means : TacFn → (ℕ → Option NodeKind) → ℕ → ℕ → Type 0
  Means f kinds x y = (a : Member) → Stands f a (kinds x) ↔ Stands f a (kinds y)

  means_itself : (f : TacFn) (kinds : ℕ → Option NodeKind) (x : ℕ) → Means f kinds x x
  means_itself f kinds x a = (λ s. s, λ s. s)

  means_turned : (f : TacFn) (kinds : ℕ → Option NodeKind) (x y : ℕ) → Means f kinds x y → Means f kinds y x
  means_turned f kinds x y m a = let e = m a in (e.1, e.0)

  means_chained : (f : TacFn) (kinds : ℕ → Option NodeKind) (x y z : ℕ) → Means f kinds x y → Means f kinds y z
      → Means f kinds x z
  means_chained f kinds x y z m n a = let e = m a in let g = n a in (λ s. g.0 (e.0 s), λ s. e.1 (g.1 s))

  means_equal : (f : TacFn) (kinds : ℕ → Option NodeKind) → IsEquivalence (Means f kinds)
  means_equal f kinds = record {
    reflexive = means_itself f kinds;
    symmetric = means_turned f kinds;
    transitive = means_chained f kinds;
  }

  -- by the nodes' kinds
  means_by : (f : TacFn) (kinds : ℕ → Option NodeKind) (x y : ℕ) (p q : NodeKind) → kinds x ≡ Some p → kinds y ≡ Some q
      → ((a : Member) → Stands f a (Some p) ↔ Stands f a (Some q)) → Means f kinds x y
  means_by f kinds x y p q e g m a =
      subst (λ o. Stands f a o ↔ Stands f a (kinds y)) (sym e)
      (subst (λ o. Stands f a (Some p) ↔ Stands f a o) (sym g) (m a))

  own_means : (f : TacFn) (kinds : ℕ → Option NodeKind) (x y : ℕ) → JoinsOwn f kinds x y → Means f kinds x y
  own_means f kinds x y j =
      let c = chain.contains (Joins sums f) j.one j.other
      (joined_own sums f j.at j.instr j.one j.other j.here j.joined) in
      means_by f kinds x y (Own j.one) (Own j.other) j.x_is j.y_is
      (λ a. (
        λ s. chain.transitive (Joins sums f) a j.one j.other s c,
        λ s. chain.transitive (Joins sums f) a j.other j.one s (chain.symmetric (Joins sums f) j.one j.other c),
      ))

  module _ (equal : AreEquivalences Related) (speak : Speak code sums Related) where
    at_call : (f : TacFn) (a : Member) (at i : ℕ) (call : CallParts) (callee : TacFn)
        → call_and_callee_at code f at ≡ Some (call, callee)
        → Stands f a (Some (Callee at i)) ↔ Reaches f a i call callee
    at_call f a at i call callee e = (λ s. subst (ReachesAt f a i) e s, λ s. subst (ReachesAt f a i) (sym e) s)

    reached : (f : TacFn) (a b : Member) (at i : ℕ) (call : CallParts) (callee : TacFn)
        → call_and_callee_at code f at ≡ Some (call, callee) → slice_get code.functions call.function ≡ Some callee
        → IsOuter callee i → passed_member call i ≡ Some b → IsPointerLike f b → Reaches f a i call callee
        → InOneClass sums f a b
    reached f a b at i call callee here known outer p pb r =
        let t = speak call.function callee r.through i known r.outer outer r.same in
        chain.transitive (Joins sums f) a r.actual b r.chain
        (chain.contains (Joins sums f) r.actual b
        (joined_by_call code sums f at call callee t.0 r.through i r.actual b here t.1 t.2 r.passes p r.pointer_like
        pb))

    passed_means : (f : TacFn) (kinds : ℕ → Option NodeKind) (x y : ℕ) → JoinsPassed code f kinds x y → Means f kinds x y
    passed_means f kinds x y j =
        means_by f kinds x y (Callee j.at j.number) (Own j.actual) j.x_is j.y_is
        (λ a. (
          λ s. reached f a j.actual j.at j.number j.call j.callee j.here (known_here j) j.outer j.passes j.pointer_like
              ((at_call f a j.at j.number j.call j.callee j.here).0 s),
          λ s. (at_call f a j.at j.number j.call j.callee j.here).1 (record {
            through = j.number;
            actual = j.actual;
            outer = j.outer;
            same = (equal j.call.function).reflexive j.number;
            passes = j.passes;
            pointer_like = j.pointer_like;
            chain = s;
          }),
        ))
      where
        known_here : (p : JoinsPassed code f kinds x y) → slice_get code.functions p.call.function ≡ Some p.callee
        known_here p = (call_here code f p.at p.call p.callee p.here).known

    begins_means : (f : TacFn) (kinds : ℕ → Option NodeKind) (x y : ℕ) → JoinsAtFirst code f kinds x y → Means f kinds x y
    begins_means f kinds x y h = ⊎_elim (λ j. own_means f kinds x y j) (λ j. passed_means f kinds x y j) h

    same_means : (f : TacFn) (kinds : ℕ → Option NodeKind) (x y : ℕ) → AreSame (JoinsAtFirst code f kinds) x y → Means f kinds x y
    same_means f kinds x y s =
        least (JoinsAtFirst code f kinds) (Means f kinds) (means_equal f kinds) (begins_means f kinds) x y s

    moved : (f : TacFn) (a : Member) (call : CallParts) (callee : TacFn) (i j : ℕ) → Related call.function i j
        → Reaches f a i call callee → Reaches f a j call callee
    moved f a call callee i j e r = record {
      through = r.through;
      actual = r.actual;
      outer = r.outer;
      same = (equal call.function).transitive r.through i j r.same e;
      passes = r.passes;
      pointer_like = r.pointer_like;
      chain = r.chain;
    }

    carried_means : (f : TacFn) (kinds : ℕ → Option NodeKind) (x y at i j : ℕ) (call : CallParts) (callee : TacFn)
        → call_and_callee_at code f at ≡ Some (call, callee) → kinds x ≡ Some (Callee at i) → kinds y ≡ Some (Callee at j)
        → Related call.function i j → Means f kinds x y
    carried_means f kinds x y at i j call callee here p q e =
        means_by f kinds x y (Callee at i) (Callee at j) p q
        (λ a. (
          λ s. (at_call f a at j call callee here).1
              (moved f a call callee i j e ((at_call f a at i call callee here).0 s)),
          λ s. (at_call f a at i call callee here).1
              (moved f a call callee j i ((equal call.function).symmetric i j e)
              ((at_call f a at j call callee here).0 s)),
        ))

    -- ---- what spreads

    module _ (kinds : ℕ → ℕ → Option NodeKind) (First : ℕ → ℕ → ℕ → Type 0) (Inside : ℕ → ℕ → Type 0)
        (Carries : ℕ → ℕ → ℕ → Type 0) where
      abbrev pub MeansIn : ℕ → ℕ → ℕ → Type 0
      MeansIn n x y = (f : TacFn) → slice_get code.functions n ≡ Some f → Means f (kinds n) x y

      -- two members, each represented by a node
      pub means_joins : (n x y : ℕ) (f : TacFn) (a b : Member) → slice_get code.functions n ≡ Some f
          → kinds n x ≡ Some (Own a) → kinds n y ≡ Some (Own b) → MeansIn n x y → InOneClass sums f a b
      means_joins n x y f a b k p q m =
          subst (Stands f a) q ((m f k a).0 (subst (Stands f a) (sym p) (chain.reflexive (Joins sums f) a a refl)))

      module _ (begun : (n x y : ℕ) (f : TacFn) → slice_get code.functions n ≡ Some f → First n x y
          → AreSame (JoinsAtFirst code f (kinds n)) x y)
          (blocks : (g n base : ℕ) → Carries g n base → Block code kinds Inside g n base)
          (known : (g x y : ℕ) → Inside g x → Inside g y → Spreads First Inside Carries g x y → MeansIn g x y
          → Related g x y) where
        block_means : (g n base i j : ℕ) → Block code kinds Inside g n base → Inside g i → Inside g j → Related g i j
            → MeansIn n (base + i) (base + j)
        block_means g n base i j b hi hj e f k =
            let same : b.f ≡ f = same_Some b.f f (sym b.caller ∙ k) in
            carried_means f (kinds n) (base + i) (base + j) b.at i j b.call b.callee
            (subst (λ (h : TacFn). call_and_callee_at code h b.at ≡ Some (b.call, b.callee)) same b.here)
            (b.nodes i hi) (b.nodes j hj) (subst (λ m. Related m i j) (sym b.calls) e)

        pub spread_means : {n x y : ℕ} → Spreads First Inside Carries n x y → MeansIn n x y
        spread_means {n} {x} {y} (first h) = λ f k. same_means f (kinds n) x y (begun n x y f k h)
        spread_means {n} (carried {g} {f} {base} {x = i} {y = j} c hi hj s) =
            block_means g f base i j (blocks g f base c) hi hj (known g i j hi hj s (spread_means s))
        spread_means (itself n x) = λ f k. means_itself f (kinds n) x
        spread_means (turned {f = n} {x} {y} s) = λ f k. means_turned f (kinds n) x y (spread_means s f k)
        spread_means (chained {f = n} {x} {y} {z} s t) =
            λ f k. means_chained f (kinds n) x y z (spread_means s f k) (spread_means t f k)

        pub spread_joins : (n x y : ℕ) (f : TacFn) (a b : Member) → slice_get code.functions n ≡ Some f
            → kinds n x ≡ Some (Own a) → kinds n y ≡ Some (Own b) → Spreads First Inside Carries n x y
            → InOneClass sums f a b
        spread_joins n x y f a b k p q s = means_joins n x y f a b k p q (spread_means s)
