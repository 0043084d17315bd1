-- A duty that leaves the regions leaves what memory shows of the state: an equation, by the tests of the duty.
use Rattle.std.proofs.Common.{◌≡◌, ◌⊎◌, inl, inr, ⊎_elim, ℕ, Bool, true, false, nat_eq, List, [], ◌∷◌, Option, Some, None, if◌then◌else◌, option_and_then, length, map, slice_get, slice_set, refl, ap, sym, ◌∙◌, arith, length-append}
use Rattle.std.specs.List.{list_any}
use Rattle.std.proofs.lemmas.Option.{same_Some}
use Rattle.rgo_sound.specs.Code.Code.{Code}
use Rattle.rgo_core_memory.proofs.regions.Attending.{first_duty, same_held}
use Rattle.rgo_core_memory.proofs.regions.Infos.{info_here}
use Rattle.rgo_core_memory.proofs.regions.Slots.{live_info}
use Rattle.rgo_core_memory.specs.Ground.{ground_of, held_of}
use Rattle.rgo_sound.specs.Memory.Memory.{Memory as Heap}
use Rattle.rgo_sound.specs.RegionMachine.Duties.{attend, attended, created, duty_done, guards, protected, removal, shared, unprotected}
use Rattle.rgo_sound.specs.RegionMachine.Machine.{Attend, region_step}
use Rattle.rgo_sound.specs.RegionMachine.Regions.{RegionInfo, bound, is_live, one_fewer, removed_once, unbind, with_info}
use Rattle.rgo_sound.specs.RegionMachine.States.{Create, Duty, EndBase, Holder, Protect, RegionState, Remove, Share, Unprotect, top_names, with_top}
use Rattle.rgo_sound.specs.RegionMachine.declared.regions.Region.{Region}
use Rattle.rgo_sound.specs.RegionMachine.declared.regions.Region.TheVariants.{Global as GlobalRegion, Numbered}

-- the holder after a duty
pub record Attends (s t : RegionState) (g : ℕ) (h : Holder) : Type 0 where
  pub holder : Holder
  pub holders : t.holders ≡ slice_set s.holders g holder
  -- if the regions are the same, so are stakes and fills
  pub held : t.regions ≡ s.regions → held_of holder ≡ held_of h

attends_is : (s t u : RegionState) (g : ℕ) (h k : Holder) → u.holders ≡ slice_set s.holders g k
    → (u.regions ≡ s.regions → held_of k ≡ held_of h) → u ≡ t → Attends s t g h
attends_is s t u g h k hs held e = record {
  holder = k;
  holders = ap (λ (x : RegionState). x.holders) (sym e) ∙ hs;
  held = λ q. held (ap (λ (x : RegionState). x.regions) e ∙ q);
}

either_of : (b : Bool) (u v t : RegionState) → (if b then Some u else Some v) ≡ Some t → (u ≡ t) ⊎ (v ≡ t)
either_of true u v t e = inl (same_Some u t e)
either_of false u v t e = inr (same_Some v t e)

some_of : (b : Bool) (o : Option RegionState) (t : RegionState) → (if b then o else None) ≡ Some t → o ≡ Some t
some_of true o t e = e
some_of false o t e = cc

pub test_of : (b : Bool) (o : Option RegionState) (t : RegionState) → (if b then o else None) ≡ Some t → b ≡ true
test_of true o t e = refl
test_of false o t e = cc

fewer_differs : (regions : List RegionInfo) (r : ℕ) → is_live regions (Numbered r) ≡ true → with_info regions r one_fewer ≡ regions → ⊥
fewer_differs regions r live e =
    let i = live_info regions r live in
    let same : one_fewer i.0 ≡ i.0 = same_Some (one_fewer i.0) i.0 (sym (info_here regions r one_fewer i.0 i.1) ∙ (ap (λ l. slice_get l r) e ∙ i.1)) in
    let n = ap (λ (x : RegionInfo). x.stakes) same in
    let p = i.2 in omega (arith, n, p)

module _ (s t : RegionState) (g : ℕ) (h0 : Holder) where
  removal_attends : (h : Holder) (r : Region) → held_of h ≡ held_of h0 → removal s g h r ≡ Some t → Attends s t g h0
  removal_attends h GlobalRegion q e = attends_is s t (attended s g h) g h0 h refl (λ w. q) (same_Some (attended s g h) t e)
  removal_attends h (Numbered r) q e = ⊎_elim
      (λ w. attends_is s t _ g h0 h refl (λ v. q) w)
      (λ w. attends_is s t _ g h0 _ refl (λ v. absurd (fewer_differs s.regions r (test_of (is_live s.regions (Numbered r)) _ t e) v)) w)
      (either_of (guards h.base h.environments (Numbered r)) _ _ t (some_of (is_live s.regions (Numbered r)) _ t e))

  shared_attends : (h : Holder) (r : Region) → held_of h ≡ held_of h0 → shared s g h r ≡ Some t → Attends s t g h0
  shared_attends h GlobalRegion q e = attends_is s t (attended s g h) g h0 h refl (λ w. q) (same_Some (attended s g h) t e)
  shared_attends h (Numbered r) q e = ⊎_elim
      (λ w. attends_is s t _ g h0 h refl (λ v. q) w) (λ w. attends_is s t _ g h0 _ refl (λ v. q) w)
      (either_of (list_any (nat_eq r) h.pending) _ _ t (some_of (is_live s.regions (Numbered r)) _ t e))

  protected_attends : (h : Holder) (r : Region) → held_of h ≡ held_of h0 → protected s g h r ≡ Some t → Attends s t g h0
  protected_attends h r q e = attends_is s t _ g h0 _ refl (λ w. q) (same_Some _ t (some_of (is_live s.regions r) _ t e))

  named : (k : Region → Option RegionState) → ((r : Region) → k r ≡ Some t → Attends s t g h0) → (o : Option Region)
      → option_and_then k o ≡ Some t → Attends s t g h0
  named k next None e = cc
  named k next (Some r) e = next r e

  done_attends : (h : Holder) (d : Duty) → held_of h ≡ held_of h0 → duty_done s g h d ≡ Some t → Attends s t g h0
  done_attends h (Create k) q e = attends_is s t (created s g h k) g h0 _ refl
      (λ w. absurd (let l = ap length w in let m = length-append s.regions (record { stakes = 1; pages = 0 } ∷ []) in omega (arith, l, m)))
      (same_Some (created s g h k) t e)
  done_attends h (Share k) q e = named (shared s g h) (λ r w. shared_attends h r q w) (bound (top_names h.environments) k) e
  done_attends h (Protect k) q e = named (protected s g h) (λ r w. protected_attends h r q w) (bound (top_names h.environments) k) e
  done_attends h (Unprotect k) q e = named (λ r. Some (attended s g (unprotected h r)))
      (λ r w. attends_is s t (attended s g (unprotected h r)) g h0 (unprotected h r) refl (λ v. q) (same_Some (attended s g (unprotected h r)) t w))
      (bound (top_names h.environments) k) e
  done_attends h (Remove k) q e =
      named (removal s g (record h { environments = with_top h.environments (unbind (top_names h.environments) k) }))
      (λ r w. removal_attends (record h { environments = with_top h.environments (unbind (top_names h.environments) k) }) r q w)
      (bound (top_names h.environments) k) e
  done_attends h (EndBase r) q e = removal_attends (record h { base = removed_once r h.base }) r q e

pub duty_ground : (code : Code) (page_words : ℕ) (s t : RegionState) (g : ℕ) → region_step code page_words s (Attend g) ≡ Some t
    → t.plain.memory ≡ s.plain.memory → t.owners ≡ s.owners → t.regions ≡ s.regions → t.global_pages ≡ s.global_pages → ground_of t ≡ ground_of s
duty_ground code page_words s t g step memory owners regions pages = holder (slice_get s.holders g) refl step
  where
    same : (h : Holder) → slice_get s.holders g ≡ Some h → Attends s t g h → ground_of t ≡ ground_of s
    same h there a = λ i. record {
      heap = ap (λ (m : Heap). m.heap) memory i;
      variables = ap (λ (m : Heap). m.variables) memory i;
      owners = owners i;
      regions = regions i;
      global_pages = pages i;
      held = (ap (map held_of) a.holders ∙ same_held s g h a.holder there (a.held regions)) i;
    }

    duties : (h : Holder) → slice_get s.holders g ≡ Some h → (ds : List Duty) → h.duties ≡ ds → attend s g h ds ≡ Some t → ground_of t ≡ ground_of s
    duties h there [] is e = cc
    duties h there (d ∷ ds) is e =
        same h there (done_attends s t g h (record h { duties = ds }) d refl (first_duty code page_words s t g h d ds there is step))

    holder : (o : Option Holder) → slice_get s.holders g ≡ o → option_and_then (λ (h : Holder). attend s g h h.duties) o ≡ Some t
        → ground_of t ≡ ground_of s
    holder None there e = cc
    holder (Some h) there e = duties h there h.duties refl e
