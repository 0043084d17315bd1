-- Which value a word of 64 bits shows. The same word shows several values, so the type of its variable has to come along.
use Rattle.rgo_sound.specs.Memory.declared.values.Value.TheVariants as value
use Rattle.rgo_sound.specs.Memory.declared.values.Value.{Value}
use Rattle.std.specs.Int.{cast_signed, w64, from_bool}
use Rattle.std.specs.Prelude.{List, Some, [], slice_get, suc, ℕ, ◌<◌, ◌^◌, ◌∷◌, ◌≡◌}

-- `addresses` has the address of each object in the order of making. An int is its two's complement, a bool 1 or 0, nil 0, and a
-- pointer, slice or channel one more than the address of its object. It stays true when an address is appended, so a new object
-- changes no frame.
abbrev pub Shows : (addresses : List ℕ) → Value → ℕ → Type 0
Shows addresses (value.Int z) w = (w < 2 ^ 64) × (z ≡ cast_signed w64 w)
Shows addresses (value.Bool b) w = w ≡ from_bool b
Shows addresses value.Nil w = w ≡ 0
Shows addresses (value.Object o) w = (a : ℕ) × (slice_get addresses o ≡ Some a) × (w ≡ suc a)

-- each of a list
abbrev pub AllShow : (addresses : List ℕ) → List Value → List ℕ → Type 0
AllShow addresses [] [] = Unit {0}
AllShow addresses [] (w ∷ ws) = ⊥
AllShow addresses (v ∷ vs) [] = ⊥
AllShow addresses (v ∷ vs) (w ∷ ws) = Shows addresses v w × AllShow addresses vs ws
