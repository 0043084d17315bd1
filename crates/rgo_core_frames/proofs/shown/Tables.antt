-- The names of a frame in a table.
use Rattle.std.proofs.Common.{◌≡◌, ◌≢◌, ℕ, zero, suc, ◌<◌, false, List, [], ◌∷◌, Option, None, Some, get_or, length, slice_set, nat_eq, refl, sym, ap, ◌∙◌, arith, if◌then◌else◌}
use Rattle.rgo_sound.specs.RegionMachine.declared.regions.Region.{Region}
use Rattle.rgo_sound.specs.RegionMachine.Regions.{Bindings, bound, unbind, without_all}
use Rattle.rgo_sound.proofs.names.Core.{bound_unbind, bound_unbind_other}
use Rattle.rgo_sound.proofs.Tests.{eq_of, split}
use Rattle.rgo_core_frames.specs.shown.NameTables.{NameTable, TableLaws, TableShows, cleared}

set_none : (table : NameTable) (k : ℕ) → get_or (slice_set table k None) k None ≡ None
set_none [] k = refl
set_none (x ∷ table) zero = refl
set_none (x ∷ table) (suc k) = set_none table k

set_here : (table : NameTable) (k : ℕ) (x : Option Region) → k < length table → get_or (slice_set table k x) k None ≡ x
set_here [] k x l = absurd (omega (arith, l))
set_here (y ∷ table) zero x l = refl
set_here (y ∷ table) (suc k) x l = set_here table k x (omega (arith, l))

set_other : (table : NameTable) (k j : ℕ) (x : Option Region) → k ≢ j → get_or (slice_set table k x) j None ≡ get_or table j None
set_other [] k j x n = refl
set_other (y ∷ table) zero zero x n = absurd (n refl)
set_other (y ∷ table) zero (suc j) x n = refl
set_other (y ∷ table) (suc k) zero x n = refl
set_other (y ∷ table) (suc k) (suc j) x n = set_other table k j x (λ e. n (ap suc e))

differ : (k j : ℕ) → nat_eq k j ≡ false → k ≢ j
differ k j f e = grind arith

unbinds : (names : Bindings) (table : NameTable) (k : ℕ) → TableShows names table
    → TableShows (unbind names k) (slice_set table k None)
unbinds names table k h j = split (nat_eq k j)
    (λ t. let e = eq_of k j t in ap (bound (unbind names k)) (sym e) ∙ bound_unbind names k
    ∙ sym (ap (λ i. get_or (slice_set table k None) i None) (sym e) ∙ set_none table k))
    (λ f. bound_unbind_other names k j f ∙ h j ∙ sym (set_other table k j None (differ k j f)))

creates : (names : Bindings) (table : NameTable) (k : ℕ) (r : Region) → k < length table → TableShows names table
    → TableShows ((k, r) ∷ unbind names k) (slice_set table k (Some r))
creates names table k r l h j = split (nat_eq k j)
    (λ t. let e = eq_of k j t in ap (λ b. if b then Some r else bound (unbind names k) j) t
    ∙ sym (ap (λ i. get_or (slice_set table k (Some r)) i None) (sym e) ∙ set_here table k (Some r) l))
    (λ f. ap (λ b. if b then Some r else bound (unbind names k) j) f ∙ bound_unbind_other names k j f ∙ h j
    ∙ sym (set_other table k j (Some r) (differ k j f)))

leaves : (ks : List ℕ) (names : Bindings) (table : NameTable) → TableShows names table
    → TableShows (without_all names ks) (cleared table ks)
leaves [] names table h = h
leaves (k ∷ ks) names table h = leaves ks (unbind names k) (slice_set table k None) (unbinds names table k h)

pub table_laws : TableLaws
table_laws = record { unbinds = unbinds; leaves = leaves; creates = creates }
