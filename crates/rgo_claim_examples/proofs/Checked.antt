-- The code of `one_object` keeps the fourteen rules. Most rules are about live variables, and for this code each variable is live only
-- between its write and its read; so each rule is a case analysis on five instructions.
use Rattle.std.proofs.Common.{◌≡◌, ◌↔◌, ◌⊎◌, inl, inr, ◌<◌, ◌≤◌, ◌+◌, ℕ, zero, suc, Bool, true, ◌&&◌, List, [], ◌∷◌, length}
use Rattle.std.proofs.Common.{Option, Some, None, refl, sym, ap, subst, arith, true≢false, slice_get, Contains}
use Rattle.std.specs.Prelude.{nat_lt}
use Rattle.std.specs.List.{list_all}
use Rattle.std.proofs.lemmas.Bool.{and_parts, leb-true, ltb-true}
use Rattle.std.proofs.lemmas.Option.{same_Some}
use Rattle.rgo_typed.specs.declared.actions.Action.TheVariants as action
use Rattle.rgo_typed.specs.declared.programs.Struct.{Struct}
use Rattle.rgo_typed.specs.declared.programs.Variable.{Variable}
use Rattle.rgo_typed.specs.declared.statements.Piece.TheVariants as piece
use Rattle.rgo_typed.specs.declared.types.Type.{«Type»}
use Rattle.rgo_wellformed.specs.TypeRules.{int, pointer_to}
use Rattle.rgo_tac.specs.declared.regions.Class.{Class}
use Rattle.rgo_tac.specs.declared.regions.Class.TheVariants.{Global, Name, NoClass}
use Rattle.rgo_tac.specs.Code as tac
use Rattle.rgo_tac.specs.Code.{Op}
use Rattle.rgo_tac.specs.Flow.{reads, writes}
use Rattle.rgo_flow.specs.Live.{IsReadAfter}
use Rattle.rgo_code.specs.Checked.{IsChecked, KeptAt, KeptAfterLast, KeptByEnd, KeptByEntry, KeptByHead}
use Rattle.rgo_code.specs.Checked.{KeptByInstr, KeptBySlot, KeptByStruct}
use Rattle.rgo_code.specs.NameRules.{LendsResult}
use Rattle.rgo_code.specs.Code.{Code, CodeFn, CodeInstr}
use Rattle.rgo_code.specs.Erasure.{erased_fn}
use Rattle.rgo_code.specs.Exists.{UsesVariable}
use Rattle.rgo_code.specs.Names.{Holds, UsesRegionName, class_of}
use Rattle.rgo_code.specs.declared.rules.Line.{Line}
use Rattle.rgo_code.specs.declared.rules.Line.TheVariants as line
use Rattle.rgo_code.specs.declared.rules.Rule.{Rule}
use Rattle.rgo_code.specs.declared.rules.Rule.TheVariants as rule
use Rattle.rgo_sound.proofs.Places.{contains_here, contains_one}
use Rattle.rgo_claim_examples.specs.CompiledCode.{code_with, main_with}
use Rattle.rgo_claim_examples.specs.Programs.{node}

-- ---- lists

-- a property of each item of a list, with its number
abbrev pub AllAt : {X : Type 0} → (ℕ → X → Type 0) → List X → Type 0
AllAt P [] = Unit {0}
AllAt P (x ∷ xs) = P 0 x × AllAt (λ k. P (suc k)) xs

pub all_at : {X : Type 0} (P : ℕ → X → Type 0) (xs : List X) (i : ℕ) (x : X) → AllAt P xs → slice_get xs i ≡ Some x → P i x
all_at P [] i x all at = absurd cc
all_at P (y ∷ ys) zero x all at = subst (P 0) (same_Some y x at) all.0
all_at P (y ∷ ys) (suc i) x all at = all_at (λ k. P (suc k)) ys i x all.1 at

pub nothing : {X : Type 0} (x : X) → Contains [] x → ⊥
nothing x c = let less = c.1 in omega (arith, less)

-- ---- what instructions use

abbrev pub below_or_none : ℕ → Option ℕ → Bool
below_or_none n None = true
below_or_none n (Some v) = nat_lt v n

-- whether an instruction uses only variables below n
abbrev pub uses_below : ℕ → Op → Bool
uses_below n op = list_all (λ v. nat_lt v n) (reads op) && below_or_none n (writes op)

in_all : (test : ℕ → Bool) (xs : List ℕ) (x : ℕ) → list_all test xs ≡ true → Contains xs x → test x ≡ true
in_all test [] x all c = absurd (nothing x c)
in_all test (y ∷ ys) x all (zero, less, is) = subst (λ z. test z ≡ true) is (and_parts (test y) (list_all test ys) all).0
in_all test (y ∷ ys) x all (suc k, less, is) =
    in_all test ys x (and_parts (test y) (list_all test ys) all).1 (k, omega (arith, less), is)

pub used_below : (n : ℕ) (op : Op) (v : ℕ) → uses_below n op ≡ true → UsesVariable op v → v < n
used_below n op v all (inl read) =
    ltb-true v n (in_all (λ v. nat_lt v n) (reads op) v (and_parts (list_all (λ v. nat_lt v n) (reads op)) _ all).0 read)
used_below n op v all (inr written) =
    ltb-true v n (subst (λ o. below_or_none n o ≡ true) written (and_parts (list_all (λ v. nat_lt v n) (reads op)) _ all).1)

-- ---- classes

name_number : Class → ℕ
name_number (Name k) = k
name_number NoClass = 0
name_number Global = 0

pub no_name : (k : ℕ) → NoClass ≡ Name k → ⊥
no_name k e = cc

no_class : (k : ℕ) → Name k ≡ NoClass → ⊥
no_class k e = cc

number_of_zero : (k : ℕ) → Name 0 ≡ Name k → k ≡ 0
number_of_zero k e = sym (same e)
  where
    same : Name 0 ≡ Name k → 0 ≡ k
    same e = cc

module _ (creates : List ℕ) where
  -- the only name is 0
  class_zero : (v k : ℕ) → class_of (main_with creates) v ≡ Name k → k ≡ 0
  class_zero zero k e = number_of_zero k e
  class_zero (suc zero) k e = number_of_zero k e
  class_zero (suc (suc zero)) k e = absurd (no_name k e)
  class_zero (suc (suc (suc v))) k e = absurd (no_name k e)

  -- ---- each variable is live only between its write and its read

  live_at : (n v i : ℕ) → IsReadAfter (erased_fn (main_with creates)) n v i → (v + 1 ≡ i) × (v < 3)
  live_at zero v zero r = absurd (nothing v r)
  live_at zero v (suc zero) r = let e = contains_one 0 v r in (omega (arith, e), omega (arith, e))
  live_at zero v (suc (suc zero)) r = let e = contains_one 1 v r in (omega (arith, e), omega (arith, e))
  live_at zero v (suc (suc (suc zero))) r = let e = contains_one 2 v r in (omega (arith, e), omega (arith, e))
  live_at zero v (suc (suc (suc (suc zero)))) r = absurd (nothing v r)
  live_at zero v (suc (suc (suc (suc (suc i))))) r = absurd (nothing v r)
  live_at (suc n) v zero r =
      let next = contains_one 1 r.1 r.2 in
      let rest = live_at n v r.1 r.3 in
      let is : 0 ≡ v = omega (arith, next, rest.0) in
      absurd (r.0 (ap Some is))
  live_at (suc n) v (suc zero) r =
      let next = contains_one 2 r.1 r.2 in
      let rest = live_at n v r.1 r.3 in
      let is : 1 ≡ v = omega (arith, next, rest.0) in
      absurd (r.0 (ap Some is))
  live_at (suc n) v (suc (suc zero)) r =
      let next = contains_one 3 r.1 r.2 in
      let rest = live_at n v r.1 r.3 in
      let is : 2 ≡ v = omega (arith, next, rest.0) in
      absurd (r.0 (ap Some is))
  live_at (suc n) v (suc (suc (suc zero))) r =
      let next = contains_one 4 r.1 r.2 in
      let rest = live_at n v r.1 r.3 in
      absurd (omega (arith, next, rest.0, rest.1))
  live_at (suc n) v (suc (suc (suc (suc zero)))) r = absurd (nothing r.1 r.2)
  live_at (suc n) v (suc (suc (suc (suc (suc i))))) r = absurd (nothing r.1 r.2)

  by_class : (v k i : ℕ) → class_of (main_with creates) v ≡ Name k → v + 1 ≡ i → v < 3 → (i ≡ 1) ⊎ (i ≡ 2)
  by_class zero k i named at less = inl (omega (arith, at))
  by_class (suc zero) k i named at less = inr (omega (arith, at))
  by_class (suc (suc zero)) k i named at less = absurd (no_name k named)
  by_class (suc (suc (suc v))) k i named at less = absurd (no_name k named)

  held_at : (k i : ℕ) → Holds (main_with creates) k i → (k ≡ 0) × ((i ≡ 1) ⊎ (i ≡ 2))
  held_at k i h =
      let l = live_at h.1.live.0 h.1.variable i h.1.live.1 in
      (class_zero h.1.variable k h.1.named, by_class h.1.variable k i h.1.named l.0 l.1)

  pub not_held : (k i : ℕ) → (i ≡ 1 → ⊥) → (i ≡ 2 → ⊥) → Holds (main_with creates) k i → ⊥
  not_held k i p q h = by (held_at k i h).1
    where
      by : (i ≡ 1) ⊎ (i ≡ 2) → ⊥
      by (inl e) = p e
      by (inr e) = q e

  held_first : Holds (main_with creates) 0 1
  held_first = (no_name 0, record { variable = 0; named = refl; live = (0, contains_here 0 []) })

  held_second : Holds (main_with creates) 0 2
  held_second = (no_name 0, record { variable = 1; named = refl; live = (0, contains_here 1 []) })

-- ---- the rules

abbrev main : CodeFn
main = main_with (0 ∷ [])

abbrev code : Code
code = code_with (0 ∷ [])

held_one : (k : ℕ) → k ≡ 0 → Holds main k 1
held_one k e = subst (λ q. Holds main q 1) (sym e) (held_first (0 ∷ []))

held_two : (k : ℕ) → k ≡ 0 → Holds main k 2
held_two k e = subst (λ q. Holds main q 2) (sym e) (held_second (0 ∷ []))

no : (k i : ℕ) → (i ≡ 1 → ⊥) → (i ≡ 2 → ⊥) → Holds main k i → ⊥
no = not_held (0 ∷ [])

not_at_0 : (k : ℕ) → Holds main k 0 → ⊥
not_at_0 k h = no k 0 (λ e. omega (arith, e)) (λ e. omega (arith, e)) h

not_at_3 : (k : ℕ) → Holds main k 3 → ⊥
not_at_3 k h = no k 3 (λ e. omega (arith, e)) (λ e. omega (arith, e)) h

not_at_4 : (k : ℕ) → Holds main k 4 → ⊥
not_at_4 k h = no k 4 (λ e. omega (arith, e)) (λ e. omega (arith, e)) h

pub one_edge : (e : ℕ × List ℕ) (P : ℕ → List ℕ → Type 0) → P e.0 e.1 → (j : ℕ) (removes : List ℕ)
    → Contains (e ∷ []) (j, removes) → P j removes
one_edge e P p j removes c = subst (λ (x : ℕ × List ℕ). P x.0 x.1) (contains_one e (j, removes) c) p

held_or_created : (creates : List ℕ) (k i : ℕ) → (Contains creates k → k ≡ 0) → Holds main k i ⊎ Contains creates k
    → k ≡ 0
held_or_created creates k i created (inl h) = (held_at (0 ∷ []) k i h).0
held_or_created creates k i created (inr c) = created c

not_three : (k : ℕ) → Holds main k 3 ⊎ Contains [] k → ⊥
not_three k (inl h) = not_at_3 k h
not_three k (inr c) = nothing k c

-- what an instruction names is 0
only_zero : (op : _) (k : ℕ) → UsesRegionName main op k → k ≡ 0
only_zero op k n = class_zero (0 ∷ []) n.variable k n.named

none_written : (v : ℕ) → None ≡ Some v → ⊥
none_written v e = cc

-- ---- at each instruction

load_field : (n : ℕ) (s : Struct) → slice_get (erased_fn main).variables 1 ≡ Some (pointer_to n)
    → slice_get (node ∷ []) n ≡ Some s → 0 < length s.fields
load_field zero s is at = subst (λ (t : Struct). 0 < length t.fields) (same_Some node s at) (ltb-true 0 2 refl)
load_field (suc n) s is at = absurd cc

not_five : (n : ℕ) → n ≡ 5 → n ≤ 4 → ⊥
not_five n e less = omega (arith, e, less)

exist : AllAt (KeptByInstr code rule.Exists main) main.body
exist = (
  record {
    variables = λ v uses. used_below 3 (tac.Do (Some 0) (action.New 0) []) v refl uses;
    exists = (ltb-true 0 1 refl, tt);
    last = λ e. absurd (not_five 1 e (leb-true 1 4 refl));
  },
  (
    record {
      variables = λ v uses. used_below 3 (tac.Do (Some 1) action.Copy (0 ∷ [])) v refl uses;
      exists = (tt, tt);
      last = λ e. absurd (not_five 2 e (leb-true 2 4 refl));
    },
    (
      record {
        variables = λ v uses. used_below 3 (tac.Do (Some 2) (action.Load 0) (1 ∷ [])) v refl uses;
        exists = (tt, load_field);
        last = λ e. absurd (not_five 3 e (leb-true 3 4 refl));
      },
      (
        record {
          variables = λ v uses. used_below 3 (tac.Print (piece.Value ∷ []) (2 ∷ [])) v refl uses;
          exists = tt;
          last = λ e. absurd (not_five 4 e (leb-true 4 4 refl));
        },
        (record { variables = λ v uses. used_below 3 (tac.Return None) v refl uses; exists = tt; last = λ e. refl }, tt),
      ),
    ),
  ),
)

printed : (v : ℕ) → Contains (2 ∷ []) v → slice_get (erased_fn main).variables v ≡ Some int
printed v c = subst (λ w. slice_get (erased_fn main).variables w ≡ Some int) (contains_one 2 v c) refl

typed : AllAt (KeptByInstr code rule.Types main) main.body
typed = (
  ([], refl, (pointer_to 0, refl, (refl, refl, ltb-true 0 1 refl))),
  (
    (pointer_to 0 ∷ [], refl, (pointer_to 0, refl, refl)),
    (
      (pointer_to 0 ∷ [], refl, (int, refl, (0, refl, (int ∷ pointer_to 0 ∷ [], refl, refl)))),
      (λ v c. (int, printed v c, refl), (refl, tt)),
    ),
  ),
)

printed_zero : (v k : ℕ) → Contains (2 ∷ []) v ⊎ (None ≡ Some v) → class_of main v ≡ Name k → ⊥
printed_zero v k (inl c) named =
    no_name k (subst (λ w. class_of main w ≡ Name k) (sym (contains_one 2 v c)) named)
printed_zero v k (inr e) named = none_written v e

nothing_used : (v : ℕ) → Contains [] v ⊎ (None ≡ Some v) → ⊥
nothing_used v (inl c) = nothing v c
nothing_used v (inr e) = none_written v e

created : AllAt (KeptByInstr code rule.Creations main) main.body
created = (
  λ k. (
    λ c. let is = contains_one 0 k c in
        (no_name k, subst (UsesRegionName main _) is (record { variable = 0; used = inr refl; named = refl }), not_at_0 k),
    λ all. subst (Contains (0 ∷ [])) (sym (only_zero _ k all.1)) (contains_here 0 []),
  ),
  (
    λ k. (λ c. absurd (nothing k c), λ all. absurd (all.2 (held_one k (only_zero _ k all.1)))),
    (
      λ k. (λ c. absurd (nothing k c), λ all. absurd (all.2 (held_two k (only_zero _ k all.1)))),
      (
        λ k. (λ c. absurd (nothing k c), λ all. absurd (printed_zero all.1.variable k all.1.used all.1.named)),
        (λ k. (λ c. absurd (nothing k c), λ all. absurd (nothing_used all.1.variable all.1.used)), tt),
      ),
    ),
  ),
)

abbrev Dies : (i : ℕ) → (creates removes : List ℕ) → (j : ℕ) → Type 0
Dies i creates removes j =
    (k : ℕ) → Contains removes k
    ↔ (((Holds main k i ⊎ Contains creates k) × (⊥ → ⊥)) × (Holds main k j → ⊥))

dies_0 : Dies 0 (0 ∷ []) [] 1
dies_0 k = (
  λ c. absurd (nothing k c),
  λ m. absurd (m.1 (held_one k (held_or_created (0 ∷ []) k 0 (λ c. sym (contains_one 0 k c)) m.0.0))),
)

dies_1 : Dies 1 [] [] 2
dies_1 k = (
  λ c. absurd (nothing k c),
  λ m. absurd (m.1 (held_two k (held_or_created [] k 1 (λ c. absurd (nothing k c)) m.0.0))),
)

dies_2 : Dies 2 [] (0 ∷ []) 3
dies_2 k = (
  λ c. ((inl (held_two k (sym (contains_one 0 k c))), λ g. g), not_at_3 k),
  λ m.
      subst (Contains (0 ∷ [])) (sym (held_or_created [] k 2 (λ c. absurd (nothing k c)) m.0.0)) (contains_here 0 []),
)

dies_3 : Dies 3 [] [] 4
dies_3 k = (λ c. absurd (nothing k c), λ m. absurd (not_three k m.0.0))

removed : AllAt (KeptByInstr code rule.Removals main) main.body
removed = (
  one_edge (1, []) (λ j removes. Dies 0 (0 ∷ []) removes j) dies_0,
  (
    one_edge (2, []) (λ j removes. Dies 1 [] removes j) dies_1,
    (
      one_edge (3, 0 ∷ []) (λ j removes. Dies 2 [] removes j) dies_2,
      (
        one_edge (4, []) (λ j removes. Dies 3 [] removes j) dies_3,
        (λ j removes c. absurd (nothing (j, removes) c), tt),
      ),
    ),
  ),
)

-- no result, so no region is lent
lends : {i : ℕ} (instr : CodeInstr) → LendsResult main i instr
lends instr =
    record { creates = λ k e c. no_name k e; removes = λ k j removes e c d. no_name k e }

instrs : (r : Rule) → AllAt (KeptByInstr code r main) main.body
instrs rule.Exists = exist
instrs rule.Types = typed
instrs rule.Classes = (tt, (tt, (tt, (tt, (tt, tt)))))
instrs rule.Joins = (λ e. tt, (λ e. refl, (λ e. tt, (tt, (tt, tt)))))
instrs rule.Globals = (
  λ e. absurd (true≢false (sym e)),
  (λ e. absurd (true≢false (sym e)), (λ e. absurd (true≢false (sym e)), (tt, (tt, tt)))),
)
instrs rule.Calls = (tt, (tt, (tt, (tt, (tt, tt)))))
instrs rule.Starts = (tt, (tt, (tt, (tt, (tt, tt)))))
instrs rule.Entry = (tt, (tt, (tt, (tt, (tt, tt)))))
instrs rule.Creations = created
instrs rule.Protections = (tt, (tt, (tt, (tt, (tt, tt)))))
instrs rule.Returns = (tt, (tt, (tt, (tt, (tt, tt)))))
instrs rule.Lending = (lends _, (lends _, (lends _, (lends _, (lends _, tt)))))
instrs rule.Removals = removed
instrs rule.Endings = (tt, (tt, (tt, (tt, (record { creates = refl; holds = not_at_4 }, tt)))))

-- ---- at the other lines

struct_exists : KeptByStruct code rule.Exists 0 node
struct_exists = record {
  is_new = λ m name less at same. omega (arith, less);
  fields =
      λ k ty at. all_at (λ k ty. KeptBySlot code rule.Exists (record { ty = ty; class = NoClass })) node.fields k ty
      (tt, (ltb-true 0 1 refl, tt)) at;
}

struct_kept : (r : Rule) → KeptByStruct code r 0 node
struct_kept rule.Exists = struct_exists
struct_kept rule.Types = tt
struct_kept rule.Classes = tt
struct_kept rule.Joins = tt
struct_kept rule.Globals = tt
struct_kept rule.Calls = tt
struct_kept rule.Starts = tt
struct_kept rule.Entry = tt
struct_kept rule.Creations = tt
struct_kept rule.Protections = tt
struct_kept rule.Returns = tt
struct_kept rule.Lending = tt
struct_kept rule.Removals = tt
struct_kept rule.Endings = tt

head_exists : KeptByHead code rule.Exists 0 main
head_exists = record {
  is_new = λ m name less at same. omega (arith, less);
  params = leb-true 0 3 refl;
  result = λ ty e. absurd (no_result ty e);
}
  where
    no_result : (ty : «Type») → None ≡ Some ty → ⊥
    no_result ty e = cc

head_kept : (r : Rule) → KeptByHead code r 0 main
head_kept rule.Exists = head_exists
head_kept rule.Types = tt
head_kept rule.Classes = tt
head_kept rule.Joins = tt
head_kept rule.Globals = tt
head_kept rule.Calls = tt
head_kept rule.Starts = tt
head_kept rule.Entry = tt
head_kept rule.Creations = tt
head_kept rule.Protections = tt
head_kept rule.Returns = tt
head_kept rule.Lending = tt
head_kept rule.Removals = tt
head_kept rule.Endings = tt

slots : (r : Rule) → AllAt (λ v s. KeptBySlot code r s) main.variables
slots rule.Exists = (ltb-true 0 1 refl, (ltb-true 0 1 refl, (tt, tt)))
slots rule.Types = (tt, (tt, (tt, tt)))
slots rule.Classes = (
  (λ p. refl, λ p e. no_class 0 e),
  ((λ p. refl, λ p e. no_class 0 e), ((λ p. absurd (p refl), λ e. absurd (true≢false (sym e))), tt)),
)
slots rule.Joins = (tt, (tt, (tt, tt)))
slots rule.Globals = (tt, (tt, (tt, tt)))
slots rule.Calls = (tt, (tt, (tt, tt)))
slots rule.Starts = (tt, (tt, (tt, tt)))
slots rule.Entry = (tt, (tt, (tt, tt)))
slots rule.Creations = (tt, (tt, (tt, tt)))
slots rule.Protections = (tt, (tt, (tt, tt)))
slots rule.Returns = (tt, (tt, (tt, tt)))
slots rule.Lending = (tt, (tt, (tt, tt)))
slots rule.Removals = (tt, (tt, (tt, tt)))
slots rule.Endings = (tt, (tt, (tt, tt)))

entry_kept : (r : Rule) → KeptByEntry r main
entry_kept rule.Exists = tt
entry_kept rule.Types = tt
entry_kept rule.Classes = tt
entry_kept rule.Joins = tt
entry_kept rule.Globals = tt
entry_kept rule.Calls = tt
entry_kept rule.Starts = tt
entry_kept rule.Entry = λ k h. absurd (not_at_0 k h)
entry_kept rule.Creations = tt
entry_kept rule.Protections = tt
entry_kept rule.Returns = tt
entry_kept rule.Lending = λ k e c. no_name k e
entry_kept rule.Removals = λ k. (λ c. absurd (nothing k c), λ m. absurd (nothing (Name k) m.1))
entry_kept rule.Endings = tt

has_body : main.body ≡ [] → ⊥
has_body e = cc

end_kept : (r : Rule) → KeptByEnd r main
end_kept rule.Exists = has_body
end_kept rule.Types = tt
end_kept rule.Classes = tt
end_kept rule.Joins = tt
end_kept rule.Globals = tt
end_kept rule.Calls = tt
end_kept rule.Starts = tt
end_kept rule.Entry = tt
end_kept rule.Creations = tt
end_kept rule.Protections = tt
end_kept rule.Returns = tt
end_kept rule.Lending = tt
end_kept rule.Removals = tt
end_kept rule.Endings = tt

last_kept : (r : Rule) → KeptAfterLast code r
last_kept rule.Exists = record { number = 0; main = _; declared = refl; named = refl; no_params = refl; no_result = refl }
last_kept rule.Types = tt
last_kept rule.Classes = tt
last_kept rule.Joins = tt
last_kept rule.Globals = tt
last_kept rule.Calls = tt
last_kept rule.Starts = tt
last_kept rule.Entry = tt
last_kept rule.Creations = tt
last_kept rule.Protections = tt
last_kept rule.Returns = tt
last_kept rule.Lending = tt
last_kept rule.Removals = tt
last_kept rule.Endings = tt

-- what holds of `main` holds of each function
of_main : (P : ℕ → CodeFn → Type 0) → P 0 main → (n : ℕ) (f : CodeFn) → slice_get code.functions n ≡ Some f → P n f
of_main P p n f there = all_at P code.functions n f (p, tt) there

no_variable : (n : ℕ) (v : Variable) → slice_get code.variables n ≡ Some v → ⊥
no_variable n v e = cc

kept : (r : Rule) (l : Line) → KeptAt code r l
kept r (line.Struct n) = λ s at. all_at (KeptByStruct code r) code.structs n s (struct_kept r, tt) at
kept r (line.Variable n) = λ v at. absurd (no_variable n v at)
kept r (line.Function n) = λ f there. of_main (KeptByHead code r) (head_kept r) n f there
kept r (line.Slot n v) =
    λ f s there at.
    of_main (λ n g. slice_get g.variables v ≡ Some s → KeptBySlot code r s)
    (all_at (λ v s. KeptBySlot code r s) main.variables v s (slots r)) n f there at
kept r (line.Entry n) = λ f there. of_main (λ n g. KeptByEntry r g) (entry_kept r) n f there
kept r (line.Instr n i) =
    λ f instr there at.
    of_main (λ n g. slice_get g.body i ≡ Some instr → KeptByInstr code r g i instr)
    (all_at (KeptByInstr code r main) main.body i instr (instrs r)) n f there at
kept r (line.End n) = λ f there. of_main (λ n g. KeptByEnd r g) (end_kept r) n f there
kept r line.AfterLast = last_kept r

pub checked : IsChecked (code_with (0 ∷ []))
checked = kept
