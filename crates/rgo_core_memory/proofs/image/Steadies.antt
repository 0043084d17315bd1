-- What region safety guarantees of what memory shows, from its invariant.
use Rattle.std.proofs.Common.{◌≡◌, ℕ, zero, suc, true, List, [], ◌∷◌, map, Some, slice_get, refl, sym, subst, arith}
use Rattle.std.proofs.lemmas.Option.{same_Some}
use Rattle.rgo_sound.specs.Code.Code.{Code}
use Rattle.rgo_sound.specs.Memory.Memory.{Object, StructObject, SliceObject, Channel}
use Rattle.rgo_sound.specs.Memory.declared.values.Value.TheVariants as value
use Rattle.rgo_sound.specs.RegionMachine.States.{RegionState}
use Rattle.rgo_sound.specs.RegionMachine.declared.regions.Region.{Region}
use Rattle.rgo_sound.specs.RegionMachine.declared.regions.Region.TheVariants.{Global as GlobalRegion}
use Rattle.rgo_sound.proofs.duties.Attends.{staked_live}
use Rattle.rgo_sound.proofs.Places.{each_get, get_some}
use Rattle.rgo_sound.specs.Good.{AllGood}
use Rattle.rgo_sound.specs.Safety.{cells_of}
use Rattle.rgo_sound.specs.Stakes.{is_in}
use Rattle.rgo_sound.specs.Types.{Each}
use Rattle.rgo_sound.specs.Values.{LeadsInto}
use Rattle.rgo_core_memory.specs.Encoding.{content}
use Rattle.rgo_core_memory.specs.Ground.{Held, Steady, ground_of, held_of}
use Rattle.rgo_core_memory.proofs.Rows.{below}

pub map_back : {A B : Type 0} (f : A → B) (l : List A) (i : ℕ) (b : B) → slice_get (map f l) i ≡ Some b → (a : A) × (slice_get l i ≡ Some a)
    × (f a ≡ b)
map_back f [] i b e = cc
map_back f (a ∷ l) zero b e = (a, refl, same_Some (f a) b e)
map_back f (a ∷ l) (suc i) b e = map_back f l i b e

leads : (owners : List Region) (r : Region) (object : Object) (i p : ℕ) → Each (LeadsInto owners r) (cells_of object)
    → content object i ≡ Some (value.Object p) → slice_get owners p ≡ Some r
leads owners r (StructObject cells) i p h e = each_get (LeadsInto owners r) cells i (value.Object p) h e
leads owners r (SliceObject cells) zero p h e = cc
leads owners r (SliceObject cells) (suc i) p h e = each_get (LeadsInto owners r) cells i (value.Object p) h e
leads owners r (Channel capacity queue closed) zero p h e = cc
leads owners r (Channel capacity queue closed) (suc zero) p h e = cc
leads owners r (Channel capacity queue closed) (suc (suc i)) p h e = cc

pub steady_of : (code : Code) (s : RegionState) → AllGood code s → Steady (ground_of s)
steady_of code s all =
    let home = all.good.values.memory in
    record {
      owned = home.owned;
      staked = λ g k h e i. let b = map_back held_of s.holders g h e in
          staked_live code s g b.0 k all.good.fine b.1 (subst (λ (y : Held). is_in k y.stakes ≡ true) (sym b.2) i);
      cells = λ o i p object e q.
          let l = below s.plain.memory.heap o object e in
          let w = home.owned in
          let r = get_some s.owners o (omega arith) in
          let b = below s.owners p r.0 (leads s.owners r.0 object i p (home.cells o object r.0 e r.1) q) in omega arith;
      variables = λ n p e.
          let w = home.owned in
          let b = below s.owners p GlobalRegion (each_get (LeadsInto s.owners GlobalRegion) s.plain.memory.variables n
          (value.Object p) home.variables e) in omega arith;
    }
