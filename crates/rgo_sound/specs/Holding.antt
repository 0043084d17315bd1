-- Holding names: which names of a goroutine's frames keep its stake in a region. A removal ends the stake without counting names,
-- so it is right only if the name that it removes was the last one: that is what `OneHoldingName` says.
use Rattle.std.specs.Prelude.{Bool, Contains, List, Some, [], false, not, slice_get, ℕ, ◌&&◌, ◌+◌, ◌∷◌, ◌≡◌}
use Rattle.rgo_code.specs.Names.{is_class_named}
use Rattle.rgo_region_machine.specs.Duties.{guards}
use Rattle.rgo_region_machine.specs.Regions.{Bindings, same_region}
use Rattle.rgo_region_machine.specs.States.{RegionEnvironment, Holder, RegionState}
use Rattle.rgo_region_machine.specs.declared.regions.Region.TheVariants.{Numbered}
use Rattle.rgo_sound.specs.Stakes.{one_when}
use Rattle.rgo_tac.specs.declared.regions.Class.{Class}

-- Whether k is the function's own name, and not that of its result. The result's region is the caller's, which has a name of its
-- own for it; counted in both frames it would seem to be held twice.
abbrev pub is_mine : Class → ℕ → Bool
is_mine lent k = not (is_class_named k lent)

-- how many of the function's own names denote region r
abbrev pub held_in : Class → ℕ → Bindings → ℕ
held_in lent r [] = 0
held_in lent r (b ∷ bs) = one_when (is_mine lent b.0 && same_region (Numbered r) b.1) + held_in lent r bs

-- how many holding names a goroutine's frames have for region r
abbrev pub held : ℕ → List RegionEnvironment → ℕ
held r [] = 0
held r (f ∷ fs) = held_in f.lent r f.names + held r fs

-- Each stake that no base and no frame protects has exactly one holding name. With none the region could never be removed; with two,
-- the removal of the first would end a stake that the second relies on. Under a protection two names are allowed, since removals do
-- nothing then.
abbrev pub OneHoldingName : RegionState → Type 0
OneHoldingName s =
    (g : ℕ) (h : Holder) (r : ℕ) → slice_get s.holders g ≡ Some h → Contains h.stakes r
    → guards h.base h.environments (Numbered r) ≡ false →
    held r h.environments ≡ 1
