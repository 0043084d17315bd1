-- Region parameters are names, each that of a formal.
use Rattle.std.proofs.Common.{◌≡◌, ℕ, zero, suc, Bool, true, false, List, [], ◌∷◌, Some, slice_get, refl, sym}
use Rattle.std.specs.List.{list_any}
use Rattle.std.specs.Prelude.{if◌then◌else◌}
use Rattle.std.proofs.lemmas.Option.{same_Some, none-some}
use Rattle.rgo_tac.specs.declared.regions.Class.{Class}
use Rattle.rgo_tac.specs.declared.regions.Class.TheVariants.{NoClass, Global, Name}
use Rattle.rgo_code.specs.Names.{distinct_names, is_class_named}

pub record IsNameOf (classes : List Class) (c : Class) : Type 0 where
  pub name : ℕ
  pub is : c ≡ Name name
  pub at : ℕ
  pub here : slice_get classes at ≡ Some (Name name)

later : (d : Class) (classes : List Class) (c : Class) → IsNameOf classes c → IsNameOf (d ∷ classes) c
later d classes c h = record { name = h.name; is = h.is; at = suc h.at; here = h.here }

pub name_of_one : (seen classes : List Class) (p : ℕ) (c : Class) → slice_get (distinct_names seen classes) p ≡ Some c
    → IsNameOf classes c
name_of_one seen [] p c e = absurd (none-some c e)
name_of_one seen (NoClass ∷ classes) p c e = later NoClass classes c (name_of_one seen classes p c e)
name_of_one seen (Global ∷ classes) p c e = later Global classes c (name_of_one seen classes p c e)
name_of_one seen (Name k ∷ classes) p c e =
    by (list_any (is_class_named k) seen) p (name_of_one seen classes p c) (λ q. name_of_one (Name k ∷ seen) classes q c) e
  where
    by : (b : Bool) (q : ℕ) → (slice_get (distinct_names seen classes) q ≡ Some c → IsNameOf classes c)
        → ((r : ℕ) → slice_get (distinct_names (Name k ∷ seen) classes) r ≡ Some c → IsNameOf classes c)
        → slice_get (if b then distinct_names seen classes else Name k ∷ distinct_names (Name k ∷ seen) classes) q
        ≡ Some c
        → IsNameOf (Name k ∷ classes) c
    by true q old new h = later (Name k) classes c (old h)
    by false zero old new h = record { name = k; is = sym (same_Some (Name k) c h); at = 0; here = refl }
    by false (suc r) old new h = later (Name k) classes c (new r h)
