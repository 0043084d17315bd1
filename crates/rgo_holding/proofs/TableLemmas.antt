-- Keys are written and added in the table of the newest frame. Its keys are the end of the list, so other frames keep theirs.
use Rattle.std.proofs.Common.{◌≡◌, ◌+◌, ℕ, zero, suc, Bool, true, false, List, [], ◌∷◌, ◌++◌, Option, Some, None, ap, arith, drop, if◌then◌else◌, nat_eq, refl, replicate, slice_set, subst, sym, take, ◌∙◌}
use Rattle.std.proofs.lemmas.List.{drop-append-le, drop-set-add, length-append, length-set, take-append-le, take-set-le}
use Rattle.std.proofs.lemmas.Option.{none-some, same_Some}
use Rattle.rgo_holding.specs.declared.frames.Table.{Table}
use Rattle.rgo_holding.specs.declared.keys.Key.{Key}
use Rattle.rgo_holding.specs.Naming.{keys_changed_at, start_at}
use Rattle.rgo_holding.specs.Tables.{Keys, Named, StartWithin, key_in, keys_at, named_below, named_in}

-- the first table is of this height, and starts here
pub start_is : (t : Table) (ts : List Table) (n start : ℕ) → start_at (t ∷ ts) n ≡ Some start
    → (nat_eq t.height n ≡ true) × (t.start ≡ start)
start_is t ts n start e = go (nat_eq t.height n) e
  where
    go : (b : Bool) → (if b then Some t.start else None) ≡ Some start → (b ≡ true) × (t.start ≡ start)
    go true e = (refl, same_Some _ _ e)
    go false e = absurd (none-some _ e)

-- ---- a key is written

pub set_within : (keys : Keys) (ts : List Table) (n start name : ℕ) (key : Option Key) → start_at ts n ≡ Some start
    → StartWithin keys ts → StartWithin (slice_set keys (start + name) key) ts
set_within keys [] n start name key e w = tt
set_within keys (t ∷ ts) n start name key e w =
    let s = (start_is t ts n start e).1 in
    let l = length-set keys (start + name) key in (
      omega (arith, l, w.0),
      subst (λ x. StartWithin x ts) (sym (take-set-le t.start keys (start + name) key (omega (arith, s)))) w.1,
    )

pub set_named : (keys : Keys) (ts : List Table) (n start name : ℕ) (key : Option Key) → start_at ts n ≡ Some start
    → named_in (slice_set keys (start + name) key) ts ≡ keys_changed_at n (λ ks. slice_set ks name key) (named_in keys ts)
set_named keys [] n start name key e = absurd (none-some _ e)
set_named keys (t ∷ ts) n start name key e =
    let s = start_is t ts n start e in
    let first : Named = record { height = t.height; keys = drop t.start keys } in
    (λ i. record {
      height = t.height;
      keys = (ap (λ x. drop t.start (slice_set keys (x + name) key)) (sym s.1) ∙ drop-set-add t.start keys name key) i;
    } ∷ named_in (take-set-le t.start keys (start + name) key (omega (arith, s.1)) i) ts)
    ∙ ap (λ b. (if b then record first { keys = slice_set first.keys name key } else first) ∷ named_in (take t.start keys) ts)
    (sym s.0)

-- ---- places are added

pub longer_within : (keys : Keys) (ts : List Table) (n start m : ℕ) → start_at ts n ≡ Some start → StartWithin keys ts
    → StartWithin (keys ++ replicate m None) ts
longer_within keys [] n start m e w = tt
longer_within keys (t ∷ ts) n start m e w =
    let none : Option Key = None in
    let l = length-append keys (replicate m none) in (
      omega (arith, l, w.0),
      subst (λ x. StartWithin x ts) (sym (take-append-le t.start keys (replicate m None) w.0)) w.1,
    )

pub longer_at : (keys : Keys) (ts : List Table) (n start m : ℕ) → start_at ts n ≡ Some start → StartWithin keys ts
    → keys_at (named_in (keys ++ replicate m None) ts) n ≡ keys_at (named_in keys ts) n ++ replicate m None
longer_at keys [] n start m e w = absurd (none-some _ e)
longer_at keys (t ∷ ts) n start m e w =
    let s = start_is t ts n start e in
    ap (λ b. if b then drop t.start (keys ++ replicate m None) else []) s.0
    ∙ drop-append-le t.start keys (replicate m None) w.0
    ∙ ap (λ b. (if b then drop t.start keys else []) ++ replicate m None) (sym s.0)

pub longer_below : (keys : Keys) (ts : List Table) (n start m : ℕ) → start_at ts n ≡ Some start → StartWithin keys ts
    → named_below (named_in (keys ++ replicate m None) ts) n ≡ named_below (named_in keys ts) n
longer_below keys [] n start m e w = absurd (none-some _ e)
longer_below keys (t ∷ ts) n start m e w =
    let s = start_is t ts n start e in
    ap (λ b. if b then named_in (take t.start (keys ++ replicate m None)) ts
    else record { height = t.height; keys = drop t.start (keys ++ replicate m None) }
    ∷ named_in (take t.start (keys ++ replicate m None)) ts) s.0
    ∙ ap (λ x. named_in x ts) (take-append-le t.start keys (replicate m None) w.0)
    ∙ ap (λ b. if b then named_in (take t.start keys) ts
    else record { height = t.height; keys = drop t.start keys } ∷ named_in (take t.start keys) ts) (sym s.0)

none_in : (m k : ℕ) → key_in (replicate m None) k ≡ None
none_in zero k = refl
none_in (suc m) zero = refl
none_in (suc m) (suc k) = none_in m k

-- a place without a key is as good as none
pub longer_keys : (keys : Keys) (m k : ℕ) → key_in (keys ++ replicate m None) k ≡ key_in keys k
longer_keys [] m k = none_in m k
longer_keys (key ∷ keys) m zero = refl
longer_keys (key ∷ keys) m (suc k) = longer_keys keys m k
