-- How an insertion into the map of the newest declarations changes what names mean: that of one name, and no other.
use Rattle.std.proofs.Common.{◌≡◌, ℕ, List, Bool, true, false, Option, None, Some, bytes_eq, if◌then◌else◌, refl, sym, ap, ◌∙◌, Result, Ok, Err, OnErr, IsSome, IsOk, is_some, true≢false}
use Rattle.std.proofs.lemmas.Map.Text.{hash_map_updates_str}
use Rattle.indexmap.specs.IndexMap.{get_by, UpdatesBy}
use Rattle.rgo_scopes.specs.declared.newest.Seen.{Seen}
use Rattle.rgo_scopes.specs.Newest.{Newest, flat, noted_meaning, Notes}

module _ {T S : Type 0} where
  pub Notes-insert : (old new : Newest T S) (name : List ℕ) (seen : Option (Seen T))
      → UpdatesBy (λ x y. bytes_eq x.now y.now) (λ k. bytes_eq name k.now) old new (Some seen) → Notes old name seen new
  Notes-insert old new name seen h q = ap flat (hash_map_updates_str name old new (Some seen) h q)
      ∙ by (bytes_eq name q)
    where
      by : (b : Bool) → flat (if b then Some seen else get_by (λ k. bytes_eq q k.now) old)
          ≡ (if b then seen else noted_meaning old q)
      by true = refl
      by false = refl

-- the insertion of a name that means something needs no memory
pub ok_from_absent : {X Y T : Type 0} (r : Result X Y) (o : Option (Option (Seen T))) → OnErr r (o ≡ None)
    → IsSome (flat o) → IsOk r
ok_from_absent (Ok x) o absent h = refl
ok_from_absent (Err y) o absent h = absurd (true≢false (sym h ∙ ap (λ o. is_some (flat o)) absent))
