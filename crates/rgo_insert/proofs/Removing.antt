-- Right notes keep the rules on creations, protections and removals.
use Rattle.std.proofs.Common.{◌≡◌, ◌↔◌, ⊎_elim, inl, inr, ◌+◌, ℕ, List, [], ◌∷◌, Some, slice_get, refl, sym, ap, ◌∙◌, subst, arith}
use Rattle.std.specs.List.{Contains}
use Rattle.std.specs.List.Sorted.{IsStrictlyIncreasing}
use Rattle.std.proofs.lemmas.List.Elements.{Contains-append_cases}
use Rattle.rgo_graphs.proofs.Lists.{member_one, no_member}
use Rattle.rgo_tac.specs.Code.{Instr, Op, TacFn, Do, Call, Go, Print, Jump, Branch, Return}
use Rattle.rgo_tac.specs.Flow.{leads_to}
use Rattle.rgo_flow.specs.Live.{led_to_by}
use Rattle.rgo_code.specs.declared.notes.Note.{Note}
use Rattle.rgo_code.specs.declared.notes.Regions.{Regions}
use Rattle.rgo_code.specs.Code.{Code, CodeFn}
use Rattle.rgo_code.specs.Names.{edges, LeavesToCallee, Holds}
use Rattle.rgo_code.specs.NameRules.{protected_names, CreatesUsed, EntryLendsResult, EntryRemovesDead, InstrAscends, LendsResult, MayRemove, ProtectsUsed, RemovesDead}
use Rattle.rgo_code.specs.Views.{code_instr, code_op}
use Rattle.rgo_code.proofs.Erased.{fn_erased}
use Rattle.rgo_region_sets.specs.Asked as asked
use Rattle.rgo_region_sets.specs.Asked.{AreRemoved, Creates, EntryRemoves, Protects, way}
use Rattle.rgo_region_sets.specs.Sets.{IsSet}
use Rattle.rgo_insert.specs.Filled.{GivesFor, IsRight, ProtectsFor}
use Rattle.rgo_insert.proofs.Alike.{AreAlike, AreLikeCallees, holds, needed, passed_for_result}
use Rattle.rgo_insert.proofs.Told.{after, alike, before, uses}

abbrev Edge : Type 0
Edge = ℕ × List ℕ

module _ (f : TacFn) (b : Regions) (entry : List ℕ) (notes : List Note) where
  abbrev f0 : CodeFn
  f0 = before f b entry notes

  abbrev f1 : CodeFn
  f1 = after f b entry notes

  like_bare : AreAlike f0 f1
  like_bare = alike f b entry notes

  module _ (bares : List CodeFn) (code : Code)
      (like : (n : ℕ) → AreLikeCallees (slice_get bares n) (slice_get code.functions n)) where
    given_is : (op : Op) (m : Note) (gives : List ℕ) → GivesFor bares op m.passes m.protects gives
        → (k : ℕ) → Contains gives k ↔ LeavesToCallee code (code_op op m) k
    given_is (Do to action from) m gives e k =
        (λ h. no_member k (subst (λ l. Contains l k) e h), λ h. absurd h)
    given_is (Call to n from) m gives e k =
        let one = slice_get bares n in
        let other = slice_get code.functions n in (
          λ h.
              let g = (e.members k).0 h in
              (g.0, g.1, λ p. g.2 ((passed_for_result one other (like n) m.passes k).1 p)),
          λ g. (e.members k).1 (g.0, g.1, λ p. g.2 ((passed_for_result one other (like n) m.passes k).0 p)),
        )
    given_is (Go n from) m gives e k =
        (λ h. no_member k (subst (λ l. Contains l k) e h), λ h. absurd h)
    given_is (Print pieces from) m gives e k =
        (λ h. no_member k (subst (λ l. Contains l k) e h), λ h. absurd h)
    given_is (Jump target) m gives e k =
        (λ h. no_member k (subst (λ l. Contains l k) e h), λ h. absurd h)
    given_is (Branch test target other) m gives e k =
        (λ h. no_member k (subst (λ l. Contains l k) e h), λ h. absurd h)
    given_is (Return value) m gives e k =
        (λ h. no_member k (subst (λ l. Contains l k) e h), λ h. absurd h)

    module _ (i : ℕ) (plain : Instr) (here : slice_get f.body i ≡ Some plain) (m : Note)
        (right : IsRight bares f0 i plain.op m) where
      pub creates_used : CreatesUsed f1 i (code_instr plain m)
      creates_used k =
          let u = uses f b entry notes i plain m here k in
          let h = holds f0 f1 like_bare k i in (
            λ c. let p = (right.creates.members k).0 c in (p.0, u.0 p.1, λ z. p.2 (h.1 z)),
            λ p. (right.creates.members k).1 (p.0, u.1 p.1, λ z. p.2 (h.0 z)),
          )

      -- ---- protections

      protects_by : (op : Op) → ProtectsFor f0 i op m.passes m.protects → ProtectsUsed f1 i (code_op op m)
      protects_by (Do to action from) e = tt
      protects_by (Call to n from) e = λ k. (
        λ c. let p = (e.members k).0 c in (p.0, (needed f0 f1 like_bare k (i + 1) m.passes).0 p.1),
        λ p. (e.members k).1 (p.0, (needed f0 f1 like_bare k (i + 1) m.passes).1 p.1),
      )
      protects_by (Go n from) e = tt
      protects_by (Print pieces from) e = tt
      protects_by (Jump target) e = tt
      protects_by (Branch test target other) e = tt
      protects_by (Return value) e = tt

      pub protects_used : ProtectsUsed f1 i (code_op plain.op m)
      protects_used = protects_by plain.op right.protects

      none_rises : IsStrictlyIncreasing []
      none_rises = λ k within. absurd (omega (arith, within))

      protects_ascend : (op : Op) → ProtectsFor f0 i op m.passes m.protects
          → IsStrictlyIncreasing (protected_names (code_op op m))
      protects_ascend (Do to action from) e = none_rises
      protects_ascend (Call to n from) e = e.ascends
      protects_ascend (Go n from) e = none_rises
      protects_ascend (Print pieces from) e = none_rises
      protects_ascend (Jump target) e = none_rises
      protects_ascend (Branch test target other) e = none_rises
      protects_ascend (Return value) e = none_rises

      -- ---- removals

      abbrev Dead : (next : ℕ) → List ℕ → Type 0
      Dead next names = IsSet names (asked.Removes f0 i right.gives next)

      leads : (n : ℕ) → way f0 i n ≡ slice_get (leads_to plain.op i) n
      leads n =
          ap (λ g. slice_get (led_to_by i (slice_get g.body i)) n) (fn_erased f b)
          ∙ ap (λ o. slice_get (led_to_by i o) n) here

      removed : (n next : ℕ) (names : List ℕ) → slice_get (leads_to plain.op i) n ≡ Some next
          → AreRemoved f0 i right.gives (way f0 i n) names → Dead next names
      removed n next names e h = subst (λ w. AreRemoved f0 i right.gives w names) (leads n ∙ e) h

      only : (next j : ℕ) (names removes : List ℕ) → Dead next names
          → Contains {X = Edge} ((next, names) ∷ []) (j, removes)
          → Dead j removes
      only next j names removes d c =
          subst (λ (x : Edge). Dead x.0 x.1) (sym (member_one {X = Edge} (next, names) (j, removes) c)) d

      either : (next j other : ℕ) (names removes others : List ℕ) → Dead next names → Dead other others
          → Contains {X = Edge} ((next, names) ∷ (other, others) ∷ []) (j, removes) → Dead j removes
      either next j other names removes others d e c = ⊎_elim
          (λ h. only next j names removes d h)
          (λ h. only other j others removes e h)
          (Contains-append_cases {X = Edge} ((next, names) ∷ []) ((other, others) ∷ []) (j, removes) c)

      on_edge : (op : Op) → plain.op ≡ op → (j : ℕ) (removes : List ℕ) → Contains (edges (code_op op m) i) (j, removes)
          → Dead j removes
      on_edge (Do to action from) e j removes c =
          only (i + 1) j m.removes removes
          (removed 0 (i + 1) m.removes (ap (λ o. slice_get (leads_to o i) 0) e) right.removes) c
      on_edge (Call to n from) e j removes c =
          only (i + 1) j m.removes removes
          (removed 0 (i + 1) m.removes (ap (λ o. slice_get (leads_to o i) 0) e) right.removes) c
      on_edge (Go n from) e j removes c =
          only (i + 1) j m.removes removes
          (removed 0 (i + 1) m.removes (ap (λ o. slice_get (leads_to o i) 0) e) right.removes) c
      on_edge (Print pieces from) e j removes c =
          only (i + 1) j m.removes removes
          (removed 0 (i + 1) m.removes (ap (λ o. slice_get (leads_to o i) 0) e) right.removes) c
      on_edge (Jump target) e j removes c =
          only target j m.removes removes
          (removed 0 target m.removes (ap (λ o. slice_get (leads_to o i) 0) e) right.removes) c
      on_edge (Branch test target other) e j removes c =
          either target j other m.removes removes m.otherwise
          (removed 0 target m.removes (ap (λ o. slice_get (leads_to o i) 0) e) right.removes)
          (removed 1 other m.otherwise (ap (λ o. slice_get (leads_to o i) 1) e) right.otherwise) c
      on_edge (Return value) e j removes c = absurd (no_member (j, removes) c)

      on_way : (j : ℕ) (removes : List ℕ) → Contains (edges (code_op plain.op m) i) (j, removes) → Dead j removes
      on_way j removes c = on_edge plain.op refl j removes c

      removes_when : (j : ℕ) (removes : List ℕ) → Dead j removes → (k : ℕ)
          → Contains removes k ↔ (MayRemove code f1 i (code_instr plain m) k × (Holds f1 k j → ⊥))
      removes_when j removes d k =
          let h = holds f0 f1 like_bare k i in
          let n = holds f0 f1 like_bare k j in
          let g = given_is plain.op m right.gives right.given k in (
            λ c.
                let p = (d.members k).0 c in (
                  (
                    ⊎_elim (λ z. inl (h.0 z)) (λ z. inr ((right.creates.members k).1 z)) p.0.0,
                    λ z. p.0.1 (g.1 z),
                  ),
                  λ z. p.1 (n.1 z),
                ),
            λ p.
                (d.members k).1 (
                  (
                    ⊎_elim (λ z. inl (h.1 z)) (λ z. inr ((right.creates.members k).0 z)) p.0.0,
                    λ z. p.0.1 (g.0 z),
                  ),
                  λ z. p.1 (n.0 z),
                ),
          )

      pub removes_dead : RemovesDead code f1 i (code_instr plain m)
      removes_dead j removes c = removes_when j removes (on_way j removes c)

      pub ascends : InstrAscends i (code_instr plain m)
      ascends = record {
        creates = right.creates.ascends;
        protects = protects_ascend plain.op right.protects;
        removes = λ j removes c. (on_way j removes c).ascends;
      }

      -- ---- the region of the result

      pub lends_result : LendsResult f1 i (code_instr plain m)
      lends_result = record {
        creates = λ k e c. ((creates_used k).0 c).0 e;
        removes = λ k j removes e c h.
            let p = (removes_dead j removes c k).0 h in
            ⊎_elim (λ z. z.0 e) (λ z. ((creates_used k).0 z).0 e) p.0.0;
      }

  -- ---- at entry

  module _ (set : IsSet entry (EntryRemoves f0)) where
    pub entry_removes_dead : EntryRemovesDead f1
    entry_removes_dead k =
        let h = holds f0 f1 like_bare k 0 in (
          λ c. let p = (set.members k).0 c in (p.0, p.1, λ z. p.2 (h.1 z)),
          λ p. (set.members k).1 (p.0, p.1, λ z. p.2 (h.0 z)),
        )

    pub entry_lends_result : EntryLendsResult f1
    entry_lends_result k e c = ((entry_removes_dead k).0 c).0 e
