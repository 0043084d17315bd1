-- What a call passes and leaves to its callee, as the code goes over its lists from the front. The machine's definitions are recursive
-- from the front, too, so the invariant of each loop is the definition on what is left.
use Rattle.std.proofs.Common.{◌≡◌, ◌⊎◌, ◌<◌, ◌+◌, ℕ, zero, suc, Bool, true, false, not, ◌||◌, List, [], ◌∷◌, Option, Some, None, Result, Ok, Err, OnOk, ap, arith, drop, get_or, if◌then◌else◌, is_err, is_some, length, nat_eq, refl, slice_set, subst, sym, true≢false, ◌∙◌, ⊎_elim}
use Rattle.std.proofs.lemmas.Bool.{cases_lt, eq-eqb, eqb-true, ne_eqb, or_from, or_left, or_right}
use Rattle.std.proofs.lemmas.List.{at_drop_more}
use Rattle.std.proofs.lemmas.List.Sorted.{searched}
use Rattle.std.specs.List.Sorted.{IsBinarySearchResult, IsStrictlyIncreasing}
use Rattle.std.specs.List.{list_any}
use Rattle.std.specs.Ordering.{nat_cmp}
use Rattle.rgo_sound.specs.RegionMachine.Owed.{given_names, same_class}
use Rattle.rgo_region_sets.proofs.Tables.{rising_ascends}
use Rattle.rgo_sound.specs.Tac.declared.regions.Class.TheVariants.{NoClass, Global, Name}
use Rattle.rgo_sound.specs.Tac.declared.regions.Class.{Class}
use Rattle.rgo_holding.specs.declared.frames.Frames.{Frames}
use Rattle.rgo_holding.specs.declared.keys.Key.{Key}
use Rattle.rgo_holding.specs.Naming.{Changed, keys_changed_at, cleared_keys}
use Rattle.rgo_holding.specs.Passing.{first_key, key_for, key_with, or_else}
use Rattle.rgo_holding.specs.Tables.{IsOrdered, Keys, Named, key_in, named_frames}

-- ---- what is passed

pub or_none_same : (o : Option Key) → or_else o None ≡ o
or_none_same (Some r) = refl
or_none_same None = refl

for_at : (fs : List Class) (ks : List (Option Key)) (i k : ℕ) → i < length fs → i < length ks
    → key_for (drop i fs) (drop i ks) k
    ≡ key_for (get_or fs i NoClass ∷ drop (i + 1) fs) (get_or ks i None ∷ drop (i + 1) ks) k
for_at fs ks i k h h' =
    at_drop_more (λ x. key_for x (drop i ks) k) fs i NoClass h
    ∙ at_drop_more (λ x. key_for (get_or fs i NoClass ∷ drop (i + 1) fs) x k) ks i None h'

for_nil : (fs : List Class) (k : ℕ) → key_for fs [] k ≡ None
for_nil [] k = refl
for_nil (NoClass ∷ fs) k = refl
for_nil (Global ∷ fs) k = refl
for_nil (Name n ∷ fs) k = refl

pub for_end : (fs : List Class) (ks : List (Option Key)) (i k : ℕ) → (i < length fs → i < length ks → ⊥)
    → key_for (drop i fs) (drop i ks) k ≡ None
for_end [] ks zero k h = refl
for_end [] ks (suc i) k h = refl
for_end (f ∷ fs) [] zero k h = for_nil (f ∷ fs) k
for_end (f ∷ fs) [] (suc i) k h = for_nil (drop i fs) k
for_end (f ∷ fs) (x ∷ ks) zero k h = absurd (h (omega arith) (omega arith))
for_end (f ∷ fs) (x ∷ ks) (suc i) k h = for_end fs ks i k (λ a b. h (omega (arith, a)) (omega (arith, b)))

for_name : (fs : List Class) (ks : List (Option Key)) (name k : ℕ) (x : Option Key)
    → key_for (Name name ∷ fs) (x ∷ ks) k ≡ or_else (if nat_eq name k then x else None) (key_for fs ks k)
for_name fs ks name k None = go (nat_eq name k)
  where
    go : (b : Bool) → key_for fs ks k ≡ or_else (if b then None else None) (key_for fs ks k)
    go true = refl
    go false = refl
for_name fs ks name k (Some key) = go (nat_eq name k)
  where
    go : (b : Bool) → (if b then Some key else key_for fs ks k) ≡ or_else (if b then Some key else None) (key_for fs ks k)
    go true = refl
    go false = refl

or_else_assoc : (a b c : Option Key) → or_else (or_else a b) c ≡ or_else a (or_else b c)
or_else_assoc (Some a) b c = refl
or_else_assoc None b c = refl

-- a name gets the key that is passed for it
pub step_first : (fs : List Class) (ks : List (Option Key)) (i name k : ℕ) (keys after : Keys) (x : Option Key)
    → i < length fs → i < length ks → get_or fs i NoClass ≡ Name name → get_or ks i None ≡ x
    → key_in after k ≡ first_key keys name x k
    → or_else (key_in after k) (key_for (drop (i + 1) fs) (drop (i + 1) ks) k)
    ≡ or_else (key_in keys k) (key_for (drop i fs) (drop i ks) k)
step_first fs ks i name k keys after x a b f e is =
    ap (λ o. or_else o (key_for (drop (i + 1) fs) (drop (i + 1) ks) k)) is
    ∙ or_else_assoc (key_in keys k) (if nat_eq name k then x else None) (key_for (drop (i + 1) fs) (drop (i + 1) ks) k)
    ∙ ap (or_else (key_in keys k))
    (sym (for_at fs ks i k a b ∙ ap (λ c. key_for (c ∷ drop (i + 1) fs) (get_or ks i None ∷ drop (i + 1) ks) k) f
    ∙ ap (λ c. key_for (Name name ∷ drop (i + 1) fs) (c ∷ drop (i + 1) ks) k) e
    ∙ for_name (drop (i + 1) fs) (drop (i + 1) ks) name k x))

for_other : (f : Class) (x : Option Key) (fs : List Class) (ks : List (Option Key)) (k : ℕ)
    → ((n : ℕ) → f ≡ Name n → ⊥) → key_for fs ks k ≡ key_for (f ∷ fs) (x ∷ ks) k
for_other NoClass x fs ks k other = refl
for_other Global x fs ks k other = refl
for_other (Name n) x fs ks k other = absurd (other n refl)

pub step_other : (fs : List Class) (ks : List (Option Key)) (i k : ℕ) → i < length fs → i < length ks
    → ((n : ℕ) → get_or fs i NoClass ≡ Name n → ⊥)
    → key_for (drop (i + 1) fs) (drop (i + 1) ks) k ≡ key_for (drop i fs) (drop i ks) k
step_other fs ks i k a b other =
    for_other (get_or fs i NoClass) (get_or ks i None) (drop (i + 1) fs) (drop (i + 1) ks) k other ∙ sym (for_at fs ks i k a b)

-- a class without a name
pub not_named : (class : Class) → ((class ≡ NoClass) ⊎ (class ≡ Global)) → (k : ℕ) → class ≡ Name k → ⊥
not_named class is k named = ⊎_elim (λ e. cc) (λ e. cc) is

-- ---- a name and the key that is passed for it

none_some : (key : Key) → None ≡ Some key → ⊥
none_some key e = true≢false (sym (ap is_some e))

pub first_none : (keys : Keys) (name : ℕ) (x : Option Key) (k : ℕ) → ((key : Key) → x ≡ Some key → ⊥)
    → key_in keys k ≡ first_key keys name x k
first_none keys name (Some key) k none = absurd (none key refl)
first_none keys name None k none = go (nat_eq name k) (key_in keys k)
  where
    go : (t : Bool) (o : Option Key) → o ≡ or_else o (if t then None else None)
    go t (Some r) = refl
    go true None = refl
    go false None = refl

pub first_kept : (keys : Keys) (name : ℕ) (x : Option Key) (other : Key) (k : ℕ) → key_in keys name ≡ Some other
    → key_in keys k ≡ first_key keys name x k
first_kept keys name x other k some =
    go (nat_eq name k) (key_in keys k) (λ t. ap (key_in keys) (sym (eqb-true name k t)) ∙ some)
  where
    go : (t : Bool) (o : Option Key) → (t ≡ true → o ≡ Some other) → o ≡ or_else o (if t then x else None)
    go t (Some r) f = refl
    go true None f = absurd (none_some other (f refl))
    go false None f = refl

pub first_new : (keys after : Keys) (name : ℕ) (key : Key) (k : ℕ) → key_in keys name ≡ None
    → key_in after k ≡ key_with keys name key k → key_in after k ≡ first_key keys name (Some key) k
first_new keys after name key k none is =
    is ∙ go (nat_eq name k) (key_in keys k) (λ t. ap (key_in keys) (sym (eqb-true name k t)) ∙ none)
  where
    go : (t : Bool) (o : Option Key) → (t ≡ true → o ≡ None)
        → (if t then Some key else o) ≡ or_else o (if t then Some key else None)
    go true (Some r) f = absurd (none_some r (sym (f refl)))
    go true None f = refl
    go false (Some r) f = refl
    go false None f = refl

pub on_ok : {A E : Type 0} (r : Result A E) (P Q : Type 0) → (P → Q) → OnOk r P → OnOk r Q
on_ok (Ok a) P Q f h = f h
on_ok (Err x) P Q f h = h

-- ---- names that are left to a callee

pub given_at : (lent : Class) (fs ps : List Class) (protects : List ℕ) (i : ℕ) (d e : Class)
    → i < length fs → i < length ps
    → given_names lent (drop i fs) (drop i ps) protects
    ≡ given_names lent (get_or fs i d ∷ drop (i + 1) fs) (get_or ps i e ∷ drop (i + 1) ps) protects
given_at lent fs ps protects i d e h h' =
    at_drop_more (λ x. given_names lent x (drop i ps) protects) fs i d h
    ∙ at_drop_more (λ x. given_names lent (get_or fs i d ∷ drop (i + 1) fs) x protects) ps i e h'

given_nil : (lent : Class) (fs : List Class) (protects : List ℕ) → given_names lent fs [] protects ≡ []
given_nil lent [] protects = refl
given_nil lent (f ∷ fs) protects = refl

pub given_end : (lent : Class) (fs ps : List Class) (protects : List ℕ) (i : ℕ)
    → (i < length fs → i < length ps → ⊥) → given_names lent (drop i fs) (drop i ps) protects ≡ []
given_end lent [] ps protects zero h = refl
given_end lent [] ps protects (suc i) h = refl
given_end lent (f ∷ fs) [] protects zero h = refl
given_end lent (f ∷ fs) [] protects (suc i) h = given_nil lent (drop i fs) protects
given_end lent (f ∷ fs) (p ∷ ps) protects zero h = absurd (h (omega arith) (omega arith))
given_end lent (f ∷ fs) (p ∷ ps) protects (suc i) h =
    given_end lent fs ps protects i (λ a b. h (omega (arith, a)) (omega (arith, b)))

pub left_given : (lent formal : Class) (fs ps : List Class) (k : ℕ) (protects : List ℕ)
    → list_any (nat_eq k) protects ≡ false → same_class formal lent ≡ false
    → k ∷ given_names lent fs ps protects ≡ given_names lent (formal ∷ fs) (Name k ∷ ps) protects
left_given lent formal fs ps k protects a b =
    sym (ap (λ t. if t || same_class formal lent then given_names lent fs ps protects
    else k ∷ given_names lent fs ps protects) a
    ∙ ap (λ t. if t then given_names lent fs ps protects else k ∷ given_names lent fs ps protects) b)

pub left_protected : (lent formal : Class) (fs ps : List Class) (k : ℕ) (protects : List ℕ)
    → list_any (nat_eq k) protects ≡ true
    → given_names lent fs ps protects ≡ given_names lent (formal ∷ fs) (Name k ∷ ps) protects
left_protected lent formal fs ps k protects a =
    sym (ap (λ t. if t || same_class formal lent then given_names lent fs ps protects
    else k ∷ given_names lent fs ps protects) a)

pub left_lent : (lent formal : Class) (fs ps : List Class) (k : ℕ) (protects : List ℕ)
    → same_class formal lent ≡ true
    → given_names lent fs ps protects ≡ given_names lent (formal ∷ fs) (Name k ∷ ps) protects
left_lent lent formal fs ps k protects b =
    go (list_any (nat_eq k) protects)
    ∙ sym (ap (λ t. if list_any (nat_eq k) protects || t then given_names lent fs ps protects
    else k ∷ given_names lent fs ps protects) b)
  where
    go : (t : Bool) → given_names lent fs ps protects
        ≡ (if t || true then given_names lent fs ps protects else k ∷ given_names lent fs ps protects)
    go true = refl
    go false = refl

left_same : (lent : Class) (formal pass : Class) (fs ps : List Class) (protects : List ℕ)
    → ((k : ℕ) → pass ≡ Name k → ⊥)
    → given_names lent fs ps protects ≡ given_names lent (formal ∷ fs) (pass ∷ ps) protects
left_same lent formal NoClass fs ps protects other = refl
left_same lent formal Global fs ps protects other = refl
left_same lent formal (Name k) fs ps protects other = absurd (other k refl)

pub left_at : (lent : Class) (fs ps : List Class) (protects : List ℕ) (i k : ℕ) → i < length fs → i < length ps
    → get_or ps i NoClass ≡ Name k
    → given_names lent (get_or fs i NoClass ∷ drop (i + 1) fs) (Name k ∷ drop (i + 1) ps) protects
    ≡ given_names lent (drop i fs) (drop i ps) protects
left_at lent fs ps protects i k a b p =
    sym (given_at lent fs ps protects i NoClass NoClass a b
    ∙ ap (λ x. given_names lent (get_or fs i NoClass ∷ drop (i + 1) fs) (x ∷ drop (i + 1) ps) protects) p)

pub left_other : (lent : Class) (fs ps : List Class) (protects : List ℕ) (i : ℕ) → i < length fs → i < length ps
    → ((k : ℕ) → get_or ps i NoClass ≡ Name k → ⊥)
    → given_names lent (drop (i + 1) fs) (drop (i + 1) ps) protects
    ≡ given_names lent (drop i fs) (drop i ps) protects
left_other lent fs ps protects i a b other =
    left_same lent (get_or fs i NoClass) (get_or ps i NoClass) (drop (i + 1) fs) (drop (i + 1) ps) protects other
    ∙ sym (given_at lent fs ps protects i NoClass NoClass a b)

-- ---- whether a name is protected

any_at : (k : ℕ) (xs : List ℕ) (i : ℕ) → i < length xs → get_or xs i 0 ≡ k → list_any (nat_eq k) xs ≡ true
any_at k [] i h e = absurd (omega (arith, h))
any_at k (x ∷ xs) zero h e = or_left (nat_eq k x) (list_any (nat_eq k) xs) (eq-eqb k x (sym e))
any_at k (x ∷ xs) (suc i) h e =
    or_right (nat_eq k x) (list_any (nat_eq k) xs) (any_at k xs i (omega (arith, h)) e)

any_nowhere : (k : ℕ) (xs : List ℕ) → ((i : ℕ) → i < length xs → get_or xs i 0 ≡ k → ⊥)
    → list_any (nat_eq k) xs ≡ false
any_nowhere k [] h = refl
any_nowhere k (x ∷ xs) h =
    or_from (nat_eq k x) (list_any (nat_eq k) xs) (ne_eqb k x (λ e. h 0 (omega arith) (sym e)))
    (any_nowhere k xs (λ i l e. h (suc i) (omega (arith, l)) e))

-- what a search in an ascending list returned
pub any_in : (k : ℕ) (xs : List ℕ) (r : Result ℕ ℕ) → IsBinarySearchResult (λ y. nat_cmp y k) xs r
    → IsStrictlyIncreasing xs → list_any (nat_eq k) xs ≡ not (is_err r)
any_in k xs (Ok i) is rises =
    let s = searched xs k (Ok i) is (rising_ascends xs rises) in
    any_at k xs i s.0 s.1
any_in k xs (Err i) is rises =
    let s = searched xs k (Err i) is (rising_ascends xs rises) in
    any_nowhere k xs (λ j l e. absurd (⊎_elim
    (λ below. omega (arith, s.1 j below, e))
    (λ above. omega (arith, s.2 j above l, e))
    (cases_lt j i)))

-- ---- keys that are taken away

changed_again : (n : ℕ) (f g : Keys → Keys) (fs : List Named)
    → keys_changed_at n g (keys_changed_at n f fs) ≡ keys_changed_at n (λ ks. g (f ks)) fs
changed_again n f g [] = refl
changed_again n f g (x ∷ fs) = ap (λ (y : Named). y ∷ fs) (go (nat_eq x.height n) refl)
  where
    go : (b : Bool) → nat_eq x.height n ≡ b
        → (if nat_eq (if b then record x { keys = f x.keys } else x).height n
        then record (if b then record x { keys = f x.keys } else x) { keys = g (if b then record x { keys = f x.keys } else x).keys }
        else (if b then record x { keys = f x.keys } else x))
        ≡ (if b then record x { keys = g (f x.keys) } else x)
    go true t = ap (λ c. if c then record x { keys = g (f x.keys) } else record x { keys = f x.keys }) t
    go false t = ap (λ c. if c then record x { keys = g x.keys } else x) t

changed_none : (n : ℕ) (fs : List Named) → keys_changed_at n (λ ks. ks) fs ≡ fs
changed_none n [] = refl
changed_none n (x ∷ fs) = ap (λ (y : Named). y ∷ fs) (go (nat_eq x.height n))
  where
    go : (b : Bool) → (if b then x else x) ≡ x
    go true = refl
    go false = refl

-- the newest frame no longer has these names
pub record Clears (f g : Frames) (given : List ℕ) : Type 0 where
  pub changed : Changed f g (λ keys. cleared_keys keys given)

pub clears_none : (f : Frames) (given : List ℕ) → IsOrdered f → given ≡ [] → Clears f f given
clears_none f given ordered none = record {
  changed = record {
    named = sym (ap (λ g. keys_changed_at f.depth (λ keys. cleared_keys keys g) (named_frames f)) none ∙ changed_none f.depth (named_frames f));
    depth = refl;
    ordered = ordered;
  };
}

pub clears_more : (a b d : Frames) (name : ℕ) (given : List ℕ) → Changed a b (λ keys. slice_set keys name None)
    → Clears b d given → Clears a d (name ∷ given)
clears_more a b d name given f h =
    let g = h.changed in
    record {
      changed = record {
        named = g.named ∙ ap (λ n. keys_changed_at n (λ keys. cleared_keys keys given) (named_frames b)) f.depth
            ∙ ap (keys_changed_at a.depth (λ keys. cleared_keys keys given)) f.named
            ∙ changed_again a.depth (λ keys. slice_set keys name None) (λ keys. cleared_keys keys given) (named_frames a);
        depth = g.depth ∙ f.depth;
        ordered = g.ordered;
      };
    }

pub clears_as : (a b : Frames) (given others : List ℕ) → given ≡ others → Clears a b given → Clears a b others
clears_as a b given others e h = subst (Clears a b) e h

pub clears_from : (a b d : Frames) (given : List ℕ) → a ≡ b → Clears a d given → Clears b d given
clears_from a b d given e h = subst (λ x. Clears x d given) e h
