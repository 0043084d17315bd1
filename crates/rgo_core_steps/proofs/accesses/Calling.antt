-- What calls of several accesses have done, from what each access has left: lists of accesses are appended, and counts added.
use Rattle.std.proofs.Common.{◌≡◌, ℕ, suc, ◌+◌, List, [], ◌∷◌, ◌++◌, length, ap, subst, arith, length-append}
use Rattle.rgo_core.specs.Rule.Histories.{access}
use Rattle.rgo_core.specs.Rule.Views.{Me, number_of}
use Rattle.rgo_core.specs.Rule.declared.accesses.Access.{Access}
use Rattle.rgo_core.specs.Rule.declared.accesses.Kind.{Kind}
use Rattle.rgo_core.specs.Core.{Setup}
use Rattle.rgo_core.specs.runs.Opening.{first_of}
use Rattle.rgo_core.specs.Records.{Record, accesses}
use Rattle.rgo_core_steps.specs.Calls.{Did}
use Rattle.rgo_core_steps.specs.Seats.{HasOne, HasAccessed, Stored, mine}
use Rattle.rgo_core_steps.proofs.accesses.Growing.{made_none, made_one, made_then, told_record}

module _ (T : Setup) where
  pub did_none : (m : Me Record) (s : ℕ) → HasOne T m → Did T m s (λ g. []) (mine T m) m s
  did_none m s alone = record { made = made_none accesses (first_of T.code) m alone; counted = omega arith }

  pub left_record : {kind : Kind} {i n : ℕ} {f : ℕ → ℕ} {tells : ℕ → Record → Type 0} (m w : Me Record) → HasAccessed T kind i f tells m n w
      → tells n (mine T w)
  left_record {kind} {i} {n} {f} {tells} m w l = told_record accesses (first_of T.code) m w kind i n f tells l

  -- one access, which has made the record d
  pub did_one : {kind : Kind} {i n : ℕ} {f : ℕ → ℕ} {tells : ℕ → Record → Type 0} (m w : Me Record) (d : Record)
      → HasAccessed T kind i f tells m n w → (tells n (mine T w) → mine T w ≡ d) → accesses d ≡ suc (accesses (mine T m)) → (s t : ℕ)
      → t ≡ s + 1 → Did T m s (λ g. access g kind i n (f n) ∷ []) d w t
  did_one {kind} {i} {n} {f} {tells} m w d l is one s t e =
      record { made = made_one accesses (first_of T.code) m w kind i n f tells d l is one; counted = e }

  -- one store
  pub did_store : {kind : Kind} {i x : ℕ} (m w : Me Record) (d : Record) → Stored T kind i x d m w
      → accesses d ≡ suc (accesses (mine T m)) → (s t : ℕ) → t ≡ s + 1
      → (found : ℕ) × Did T m s (λ g. access g kind i found x ∷ []) d w t
  did_store m w d l one s t e = (l.0, did_one m w d l.1 (λ q. q) one s t e)

  pub did_then : {xs ys : ℕ → List Access} (m v w : Me Record) (c d : Record) (s t u : ℕ) → Did T m s xs c v t → Did T v t ys d w u
      → Did T m s (λ g. xs g ++ ys g) d w u
  did_then {xs} {ys} m v w c d s t u a b = record {
    made = made_then accesses (first_of T.code) m v w xs ys c d a.made b.made;
    counted =
        let first = a.counted in
        let second = b.counted in
        let same : length (ys (number_of v)) ≡ length (ys (number_of m)) = ap (λ g. length (ys g)) a.made.grew.same in
        let both = length-append (xs (number_of m)) (ys (number_of m)) in
        omega arith;
  }

  -- the record by another name
  pub did_as : {xs : ℕ → List Access} (m w : Me Record) (c d : Record) (s t : ℕ) → c ≡ d → Did T m s xs c w t → Did T m s xs d w t
  did_as {xs} m w c d s t e a = subst (λ r. Did T m s xs r w t) e a
