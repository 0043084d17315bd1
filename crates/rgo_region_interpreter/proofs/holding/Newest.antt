-- The newest frame of a goroutine is the last one that the code keeps; and what a holder that begins has.
use Rattle.std.proofs.Common.{◌≡◌, ℕ, ◌+◌, ◌-◌, ◌<◌, List, [], ◌∷◌, ◌++◌, length, map, reverse, take, get_or, sym, ap, ◌∙◌}
use Rattle.std.proofs.Common.{arith, nat_eq, if◌then◌else◌, Bool, true, false, Option, Some}
use Rattle.std.proofs.lemmas.Bool.{ne_eqb}
use Rattle.std.proofs.Math.ListN.{set}
use Rattle.std.proofs.lemmas.List.{take_all, take_more, map_push, reverse-append, length-set, get_or-set_same, take-set}
use Rattle.rgo_region_machine.specs.declared.regions.Region.{Region}
use Rattle.rgo_region_machine.specs.declared.regions.Region.TheVariants.{Global as GlobalRegion, Numbered}
use Rattle.rgo_sound.specs.Stakes.{one_when}
use Rattle.rgo_region_interpreter.specs.Holders.{count_in, times_among}

last_first : {X Y : Type 0} (f : X → Y) (xs : List X) (n : ℕ) (d : X) → length xs ≡ n + 1
    → reverse (map f xs) ≡ f (get_or xs n d) ∷ reverse (map f (take n xs))
last_first f xs n d l =
    ap (λ ys. reverse (map f ys)) (sym (take_all (n + 1) xs (omega arith)) ∙ take_more xs n d (omega arith))
    ∙ ap reverse (map_push f (take n xs) (get_or xs n d))
    ∙ reverse-append (map f (take n xs)) (f (get_or xs n d) ∷ [])

some_there : {X Y : Type 0} (f : X → Y) (xs : List X) (first : Y) (others : List Y) → reverse (map f xs) ≡ first ∷ others
    → 0 < length xs
some_there f [] first others e = cc
some_there f (x ∷ xs) first others e = omega arith

-- the last one, x, is written over by y
pub last_set : {X Y : Type 0} (f : X → Y) (xs : List X) (n : ℕ) (x y : X) → n ≡ length xs - 1 → x ≡ get_or xs n x
    → (first : Y) (others : List Y) → reverse (map f xs) ≡ first ∷ others
    → (reverse (map f (set xs n y)) ≡ f y ∷ others) × (f x ≡ first)
last_set f xs n x y last is first others e =
    let some = some_there f xs first others e in
    let l : length xs ≡ n + 1 = omega arith in
    let a = last_first f xs n x l in
    let b = last_first f (set xs n y) n y (length-set xs n y ∙ l) in
    let s = get_or-set_same xs n y y (omega arith) in
    let t = take-set xs n y in
    (cc, cc)

-- one was put at a free place
pub one_frame : {X Y : Type 0} (f : X → Y) (xs ys : List X) (y : X) → xs ≡ ys ++ y ∷ [] → ys ≡ []
    → reverse (map f xs) ≡ f y ∷ []
one_frame f xs ys y e none = ap (λ l. reverse (map f l)) (e ∙ ap (λ l. l ++ y ∷ []) none)

-- ---- regions

pub each_region : (P : Region → Type 0) → P GlobalRegion → ((r : ℕ) → P (Numbered r)) → (region : Region) → P region
each_region P global numbered GlobalRegion = global
each_region P global numbered (Numbered r) = numbered r

-- ---- the protections of a base

-- one more region of a base
pub times_push : (r : ℕ) (qs : List ℕ) (q : ℕ) → times_among r (qs ++ q ∷ []) ≡ times_among r qs + one_when (nat_eq q r)
times_push r [] q = omega arith
times_push r (p ∷ ps) q = let e = times_push r ps q in omega (arith, e)

-- at most once
abbrev pub one_at_most : ℕ → ℕ
one_at_most n = if nat_eq n 0 then 0 else 1

pub count_more : (o : Option ℕ) (r q n : ℕ) → count_in o ≡ one_at_most n
    → count_in (if nat_eq r q then Some 1 else o) ≡ one_at_most (n + one_when (nat_eq r q))
count_more o r q n e = go (nat_eq r q)
  where
    go : (b : Bool) → count_in (if b then Some 1 else o) ≡ one_at_most (n + one_when b)
    go true = sym (ap (λ b. if b then 0 else 1) (ne_eqb (n + 1) 0 (λ z. omega (arith, z))))
    go false = e ∙ ap one_at_most (let z : n ≡ n + 0 = omega arith in z)
