-- The heads of points, one point more.
use Rattle.std.proofs.Common.{◌≡◌, ⊎_elim, ℕ, ◌<◌, ◌+◌, List, [], ◌∷◌, ◌++◌, length, get_or, take, sym, ap, ◌∙◌, subst}
use Rattle.std.specs.List.{Contains}
use Rattle.std.proofs.lemmas.List.Elements.{Contains-push, Contains-push_cases, Contains-append_left}
use Rattle.rgo_graphs.proofs.Lists.{take_cases, take_more_left, take_more_here}
use Rattle.rgo_flow.specs.declared.uses.FirstUse.{FirstUse}
use Rattle.rgo_flow.specs.Uses.{IsFirstUse}
use Rattle.rgo_flow.specs.Solved.{AreHeads, HeadUses}
use Rattle.rgo_flow.proofs.Runs.{no_member}

module _ (points : List ℕ) (wanted : FirstUse) (readers writers first last : List ℕ) where
  abbrev pub Heads : ℕ → List ℕ → Type 0
  Heads i heads = AreHeads (take i points) wanted readers writers first last heads

  wider : (i s : ℕ) → i < length points → HeadUses (take i points) wanted readers writers first last s
      → HeadUses (take (i + 1) points) wanted readers writers first last s
  wider i s l h = record {
    point = h.point;
    among = take_more_left points i 0 h.point l h.among;
    head = h.head;
    uses = h.uses;
  }

  pub heads_none : Heads 0 []
  heads_none s = (λ h. absurd (no_member s h), λ h. absurd (no_member h.point h.among))

  pub heads_yes : (i h : ℕ) (heads : List ℕ) → i < length points → get_or first (get_or points i 0) 0 ≡ h
      → IsFirstUse readers writers h (get_or last h 0) wanted → Heads i heads → Heads (i + 1) (heads ++ h ∷ [])
  heads_yes i h heads l e g old s = (
    λ c. ⊎_elim
        (λ o. wider i s l ((old s).0 o))
        (λ q. record {
          point = get_or points i 0;
          among = take_more_here points i 0 l;
          head = e ∙ q;
          uses = subst (λ k. IsFirstUse readers writers k (get_or last k 0) wanted) q g;
        })
        (Contains-push_cases heads h s c),
    λ c. ⊎_elim
        (λ o. Contains-append_left heads (h ∷ []) s
        ((old s).1 (record { point = c.point; among = o; head = c.head; uses = c.uses })))
        (λ q. let r : h ≡ s = sym e ∙ ap (λ k. get_or first k 0) q ∙ c.head in
        subst (λ (k : ℕ). Contains (heads ++ h ∷ []) k) r (Contains-push heads h))
        (take_cases points i 0 c.point l c.among),
  )

  pub heads_no : (i h : ℕ) (heads : List ℕ) → i < length points → get_or first (get_or points i 0) 0 ≡ h
      → (IsFirstUse readers writers h (get_or last h 0) wanted → ⊥) → Heads i heads → Heads (i + 1) heads
  heads_no i h heads l e n old s = (
    λ c. wider i s l ((old s).0 c),
    λ c. ⊎_elim
        (λ o. (old s).1 (record { point = c.point; among = o; head = c.head; uses = c.uses }))
        (λ q. let r : s ≡ h = sym c.head ∙ ap (λ k. get_or first k 0) (sym q) ∙ e in
        absurd (n (subst (λ k. IsFirstUse readers writers k (get_or last k 0) wanted) r c.uses)))
        (take_cases points i 0 c.point l c.among),
  )
