-- The rules leave one form of an instruction.
use Rattle.std.proofs.Common.{◌≡◌, ◌↔◌, ◌⊎◌, ⊎_elim, inl, inr, ◌+◌, ℕ, List, [], ◌∷◌, slice_get, refl, sym, ap, ◌∙◌, subst}
use Rattle.std.specs.List.{Contains}
use Rattle.std.specs.List.Sorted.{IsStrictlyIncreasing}
use Rattle.std.proofs.lemmas.List.Elements.{Contains-append_left, Contains-append_right}
use Rattle.rgo_graphs.proofs.Lists.{no_member, one_member}
use Rattle.rgo_tac.specs.declared.regions.Class.{Class}
use Rattle.rgo_tac.specs.declared.regions.Class.TheVariants.{Name}
use Rattle.rgo_tac.specs.Code as tac
use Rattle.rgo_tac.specs.Code.{Instr, Op}
use Rattle.rgo_tac.specs.Flow.{leads_to}
use Rattle.rgo_code.specs.ClassRules.{CallPasses, CallsPass, StartPasses, StartsPass}
use Rattle.rgo_code.specs.Code.{Code, CodeFn, CodeInstr, CodeOp, Do, Call, Go, Print, Jump, Branch, Return}
use Rattle.rgo_code.specs.Erasure.{erased_instr, erased_op}
use Rattle.rgo_code.specs.Lists.{passes_of}
use Rattle.rgo_code.specs.Names.{edges, result_class, LeavesToCallee, Holds, IsLiveName, IsPassedForResult, IsPassedTwice}
use Rattle.rgo_code.specs.NameRules.{protected_names, CreatesUsed, InstrAscends, MayRemove, ProtectsUsed, RemovesDead}
use Rattle.rgo_region_sets.proofs.SameLists.{same_list}
use Rattle.rgo_insert.proofs.Alike.{AreAlike, AreLikeCallees, holds, names, needed, own, passed_for_result}

abbrev Edge : Type 0
Edge = ℕ × List ℕ

-- ---- an instruction from its erasure and its lists

abbrev first : List (List ℕ) → List ℕ
first [] = []
first (l ∷ ls) = l

abbrev second : List (List ℕ) → List ℕ
second [] = []
second (l ∷ ls) = first ls

abbrev removals : List Edge → List (List ℕ)
removals [] = []
removals (e ∷ es) = e.1 ∷ removals es

abbrev targets : List Edge → List ℕ
targets [] = []
targets (e ∷ es) = e.0 ∷ targets es

abbrev rebuild : Op → List Class → List ℕ → List (List ℕ) → CodeOp
rebuild (tac.Do to action from) passes protects ls = Do to action from (first ls)
rebuild (tac.Call to n from) passes protects ls = Call to n from passes protects (first ls)
rebuild (tac.Go n from) passes protects ls = Go n from passes (first ls)
rebuild (tac.Print pieces from) passes protects ls = Print pieces from (first ls)
rebuild (tac.Jump target) passes protects ls = Jump target (first ls)
rebuild (tac.Branch test target other) passes protects ls = Branch test target (first ls) other (second ls)
rebuild (tac.Return value) passes protects ls = Return value

rebuilt : (op : CodeOp) (i : ℕ)
    → op ≡ rebuild (erased_op op) (passes_of op) (protected_names op) (removals (edges op i))
rebuilt (Do to action from removes) i = refl
rebuilt (Call to n from passes protects removes) i = refl
rebuilt (Go n from passes removes) i = refl
rebuilt (Print pieces from removes) i = refl
rebuilt (Jump target removes) i = refl
rebuilt (Branch test target removes other otherwise) i = refl
rebuilt (Return value) i = refl

targets_are : (op : CodeOp) (i : ℕ) → targets (edges op i) ≡ leads_to (erased_op op) i
targets_are (Do to action from removes) i = refl
targets_are (Call to n from passes protects removes) i = refl
targets_are (Go n from passes removes) i = refl
targets_are (Print pieces from removes) i = refl
targets_are (Jump target removes) i = refl
targets_are (Branch test target removes other otherwise) i = refl
targets_are (Return value) i = refl

-- ---- what the rules say, by the erasure

abbrev pub PassesAt : Code → CodeFn → Op → List Class → Type 0
PassesAt code f (tac.Call to n from) passes = CallPasses f (slice_get code.functions n) to from passes
PassesAt code f (tac.Go n from) passes = StartPasses f (slice_get code.functions n) from passes
PassesAt code f op passes = passes ≡ []

pub passes_at : (code : Code) (f : CodeFn) (op : CodeOp) → CallsPass code f op → StartsPass code f op
    → PassesAt code f (erased_op op) (passes_of op)
passes_at code f (Do to action from removes) c s = refl
passes_at code f (Call to n from passes protects removes) c s = c
passes_at code f (Go n from passes removes) c s = s
passes_at code f (Print pieces from removes) c s = refl
passes_at code f (Jump target removes) c s = refl
passes_at code f (Branch test target removes other otherwise) c s = refl
passes_at code f (Return value) c s = refl

abbrev Protected : CodeFn → ℕ → Op → List Class → ℕ → Type 0
Protected f i (tac.Call to n from) passes k =
    Contains passes (Name k) × (IsLiveName f k (i + 1) ⊎ ((result_class f ≡ Name k) ⊎ IsPassedTwice passes k))
Protected f i op passes k = ⊥

none_protected : (k : ℕ) → Contains [] k ↔ ⊥
none_protected k = (λ c. no_member k c, λ c. absurd c)

protected_are : (f : CodeFn) (i : ℕ) (op : CodeOp) → ProtectsUsed f i op → (k : ℕ)
    → Contains (protected_names op) k ↔ Protected f i (erased_op op) (passes_of op) k
protected_are f i (Do to action from removes) h k = none_protected k
protected_are f i (Call to n from passes protects removes) h k = h k
protected_are f i (Go n from passes removes) h k = none_protected k
protected_are f i (Print pieces from removes) h k = none_protected k
protected_are f i (Jump target removes) h k = none_protected k
protected_are f i (Branch test target removes other otherwise) h k = none_protected k
protected_are f i (Return value) h k = none_protected k

abbrev Given : List CodeFn → Op → List Class → List ℕ → ℕ → Type 0
Given functions (tac.Call to n from) passes protects k =
    Contains passes (Name k) × (Contains protects k → ⊥) × (IsPassedForResult (slice_get functions n) passes k → ⊥)
Given functions op passes protects k = ⊥

given_is : (code : Code) (op : CodeOp) (k : ℕ)
    → LeavesToCallee code op k ↔ Given code.functions (erased_op op) (passes_of op) (protected_names op) k
given_is code (Do to action from removes) k = (λ g. g, λ g. g)
given_is code (Call to n from passes protects removes) k = (λ g. g, λ g. g)
given_is code (Go n from passes removes) k = (λ g. g, λ g. g)
given_is code (Print pieces from removes) k = (λ g. g, λ g. g)
given_is code (Jump target removes) k = (λ g. g, λ g. g)
given_is code (Branch test target removes other otherwise) k = (λ g. g, λ g. g)
given_is code (Return value) k = (λ g. g, λ g. g)

-- ---- in functions that are alike

protected_alike : (f g : CodeFn) → AreAlike f g → (i : ℕ) (op : Op) (passes : List Class) (k : ℕ)
    → Protected f i op passes k ↔ Protected g i op passes k
protected_alike f g like i (tac.Do to action from) passes k = (λ h. h, λ h. h)
protected_alike f g like i (tac.Call to n from) passes k =
    let w = needed f g like k (i + 1) passes in (λ h. (h.0, w.0 h.1), λ h. (h.0, w.1 h.1))
protected_alike f g like i (tac.Go n from) passes k = (λ h. h, λ h. h)
protected_alike f g like i (tac.Print pieces from) passes k = (λ h. h, λ h. h)
protected_alike f g like i (tac.Jump target) passes k = (λ h. h, λ h. h)
protected_alike f g like i (tac.Branch test target other) passes k = (λ h. h, λ h. h)
protected_alike f g like i (tac.Return value) passes k = (λ h. h, λ h. h)

given_alike : (fs gs : List CodeFn) → ((n : ℕ) → AreLikeCallees (slice_get fs n) (slice_get gs n)) → (op : Op)
    (passes : List Class) (protects : List ℕ) (k : ℕ) → Given fs op passes protects k ↔ Given gs op passes protects k
given_alike fs gs like (tac.Do to action from) passes protects k = (λ h. h, λ h. h)
given_alike fs gs like (tac.Call to n from) passes protects k =
    let w = passed_for_result (slice_get fs n) (slice_get gs n) (like n) passes k in
    (λ h. (h.0, h.1, λ p. h.2 (w.1 p)), λ h. (h.0, h.1, λ p. h.2 (w.0 p)))
given_alike fs gs like (tac.Go n from) passes protects k = (λ h. h, λ h. h)
given_alike fs gs like (tac.Print pieces from) passes protects k = (λ h. h, λ h. h)
given_alike fs gs like (tac.Jump target) passes protects k = (λ h. h, λ h. h)
given_alike fs gs like (tac.Branch test target other) passes protects k = (λ h. h, λ h. h)
given_alike fs gs like (tac.Return value) passes protects k = (λ h. h, λ h. h)

-- ---- edges with the same targets, whose removals are settled by the targets

edge_here : (e : Edge) (es : List Edge) → Contains (e ∷ es) (e.0, e.1)
edge_here e es = Contains-append_left {X = Edge} (e ∷ []) es (e.0, e.1) (one_member {X = Edge} e)

module _ (Has : ℕ → ℕ → Type 0) where
  abbrev Settled : List Edge → Type 0
  Settled es = (j : ℕ) (l : List ℕ) → Contains {X = Edge} es (j, l)
      → IsStrictlyIncreasing l × ((k : ℕ) → Contains l k ↔ Has j k)

  later : (e : Edge) (es : List Edge) → Settled (e ∷ es) → Settled es
  later e es settled = λ j l c. settled j l (Contains-append_right {X = Edge} (e ∷ []) es (j, l) c)

  one_list : (a b : List ℕ) (i j : ℕ) → i ≡ j → IsStrictlyIncreasing a × ((k : ℕ) → Contains a k ↔ Has i k)
      → IsStrictlyIncreasing b × ((k : ℕ) → Contains b k ↔ Has j k) → a ≡ b
  one_list a b i j same x y = same_list a b x.0 y.0 (λ k.
      let z = subst (λ n. Contains b k ↔ Has n k) (sym same) (y.1 k) in
      (λ c. z.1 ((x.1 k).0 c), λ c. (x.1 k).1 (z.0 c)))

  same_removals : (es ds : List Edge) → targets es ≡ targets ds → Settled es → Settled ds → removals es ≡ removals ds
  same_removals [] [] t p q = refl
  same_removals [] (d ∷ ds) t p q = absurd cc
  same_removals (e ∷ es) [] t p q = absurd cc
  same_removals (e ∷ es) (d ∷ ds) t p q =
      let heads : e.0 ≡ d.0 = cc in
      let tails : targets es ≡ targets ds = cc in
      let h = one_list e.1 d.1 e.0 d.0 heads (p e.0 e.1 (edge_here e es)) (q d.0 d.1 (edge_here d ds)) in
      ap (λ l. l ∷ removals es) h
      ∙ ap (λ ls. d.1 ∷ ls) (same_removals es ds tails (later e es p) (later d ds q))

-- ---- the instruction

-- the rules on its lists
pub record KeepsLists (code : Code) (f : CodeFn) (i : ℕ) (instr : CodeInstr) : Type 0 where
  pub creates : CreatesUsed f i instr
  pub protects : ProtectsUsed f i instr.op
  pub removes : RemovesDead code f i instr
  pub ascends : InstrAscends i instr

module _ (a b : Code) (f g : CodeFn) (i : ℕ) (x y : CodeInstr) (like : AreAlike f g)
    (callees : (n : ℕ) → AreLikeCallees (slice_get a.functions n) (slice_get b.functions n))
    (erased : erased_instr x ≡ erased_instr y) (passes : passes_of x.op ≡ passes_of y.op)
    (kx : KeepsLists a f i x) (ky : KeepsLists b g i y) where
  ops : erased_op x.op ≡ erased_op y.op
  ops = ap (λ (z : Instr). z.op) erased

  same_creates : x.creates ≡ y.creates
  same_creates = same_list x.creates y.creates kx.ascends.creates ky.ascends.creates (λ k.
      let o = own f g like k in
      let n = names f g like x.op y.op ops k in
      let h = holds f g like k i in (
        λ c. let p = (kx.creates k).0 c in (ky.creates k).1 (o.0 p.0, n.0 p.1, λ z. p.2 (h.1 z)),
        λ c. let p = (ky.creates k).0 c in (kx.creates k).1 (o.1 p.0, n.1 p.1, λ z. p.2 (h.0 z)),
      ))

  protected_there : (k : ℕ) → Protected g i (erased_op x.op) (passes_of x.op) k
      ↔ Protected g i (erased_op y.op) (passes_of y.op) k
  protected_there k = (
    λ h. subst (λ l. Protected g i (erased_op y.op) l k) passes (subst (λ o. Protected g i o (passes_of x.op) k) ops h),
    λ h. subst (λ o. Protected g i o (passes_of x.op) k) (sym ops)
        (subst (λ l. Protected g i (erased_op y.op) l k) (sym passes) h),
  )

  same_protects : protected_names x.op ≡ protected_names y.op
  same_protects = same_list (protected_names x.op) (protected_names y.op) kx.ascends.protects ky.ascends.protects (λ k.
      let p = protected_are f i x.op kx.protects k in
      let q = protected_are g i y.op ky.protects k in
      let w = protected_alike f g like i (erased_op x.op) (passes_of x.op) k in
      let t = protected_there k in
      (λ c. q.1 (t.0 (w.0 (p.0 c))), λ c. p.1 (w.1 (t.1 (q.0 c)))))

  given_there : (k : ℕ) → Given b.functions (erased_op x.op) (passes_of x.op) (protected_names x.op) k
      ↔ Given b.functions (erased_op y.op) (passes_of y.op) (protected_names y.op) k
  given_there k = (
    λ h. subst (λ l. Given b.functions (erased_op y.op) (passes_of y.op) l k) same_protects
        (subst (λ l. Given b.functions (erased_op y.op) l (protected_names x.op) k) passes
        (subst (λ o. Given b.functions o (passes_of x.op) (protected_names x.op) k) ops h)),
    λ h. subst (λ o. Given b.functions o (passes_of x.op) (protected_names x.op) k) (sym ops)
        (subst (λ l. Given b.functions (erased_op y.op) l (protected_names x.op) k) (sym passes)
        (subst (λ l. Given b.functions (erased_op y.op) (passes_of y.op) l k) (sym same_protects) h)),
  )

  same_gives : (k : ℕ) → LeavesToCallee a x.op k ↔ LeavesToCallee b y.op k
  same_gives k =
      let p = given_is a x.op k in
      let q = given_is b y.op k in
      let w = given_alike a.functions b.functions callees (erased_op x.op) (passes_of x.op) (protected_names x.op) k in
      let t = given_there k in
      (λ c. q.1 (t.0 (w.0 (p.0 c))), λ c. p.1 (w.1 (t.1 (q.0 c))))

  abbrev Dies : ℕ → ℕ → Type 0
  Dies j k = MayRemove a f i x k × (Holds f k j → ⊥)

  may_remove : (k : ℕ) → MayRemove a f i x k ↔ MayRemove b g i y k
  may_remove k =
      let h = holds f g like k i in
      let w = same_gives k in (
        λ p. (
          ⊎_elim (λ z. inl (h.0 z)) (λ c. inr (subst (λ l. Contains l k) same_creates c)) p.0,
          λ z. p.1 (w.1 z),
        ),
        λ p. (
          ⊎_elim (λ z. inl (h.1 z)) (λ c. inr (subst (λ l. Contains l k) (sym same_creates) c)) p.0,
          λ z. p.1 (w.0 z),
        ),
      )

  dies : (j k : ℕ) → (MayRemove b g i y k × (Holds g k j → ⊥)) ↔ Dies j k
  dies j k =
      let m = may_remove k in
      let h = holds f g like k j in
      (λ p. (m.1 p.0, λ z. p.1 (h.0 z)), λ p. (m.0 p.0, λ z. p.1 (h.1 z)))

  same_lists : removals (edges x.op i) ≡ removals (edges y.op i)
  same_lists = same_removals Dies (edges x.op i) (edges y.op i)
      (targets_are x.op i ∙ ap (λ o. leads_to o i) ops ∙ sym (targets_are y.op i))
      (λ j l c. (kx.ascends.removes j l c, kx.removes j l c))
      (λ j l c. (
        ky.ascends.removes j l c,
        λ k.
            let r = ky.removes j l c k in
            let d = dies j k in
            (λ z. d.0 (r.0 z), λ z. r.1 (d.1 z)),
      ))

  same_op : x.op ≡ y.op
  same_op =
      rebuilt x.op i
      ∙ ap (λ o. rebuild o (passes_of x.op) (protected_names x.op) (removals (edges x.op i))) ops
      ∙ ap (λ l. rebuild (erased_op y.op) l (protected_names x.op) (removals (edges x.op i))) passes
      ∙ ap (λ l. rebuild (erased_op y.op) (passes_of y.op) l (removals (edges x.op i))) same_protects
      ∙ ap (λ l. rebuild (erased_op y.op) (passes_of y.op) (protected_names y.op) l) same_lists
      ∙ sym (rebuilt y.op i)

  pub one_instr : x ≡ y
  one_instr =
      ap (λ l. record { creates = l; op = x.op; place = x.place }) same_creates
      ∙ ap (λ o. record { creates = y.creates; op = o; place = x.place }) same_op
      ∙ ap (λ n. record { creates = y.creates; op = y.op; place = n }) (ap (λ (z : Instr). z.place) erased)
