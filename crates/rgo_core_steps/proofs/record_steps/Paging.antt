-- Accesses to the states of pages, by the functions of the record alone. The record decides whether the page becomes an own one or a
-- reserved one, and each has its law.
use prog.Atomic.{either}
use Rattle.std.proofs.Common.{◌≡◌, ⊎_elim, ℕ, suc, ◌+◌, ◌<◌, ◌≤◌, ◌==◌, Bool, true, false, nat_lt, if◌then◌else◌, add-one, ap, sym, subst, ◌∙◌, arith}
use Rattle.std.proofs.lemmas.Bool.Decides.{nat_tests}
use Rattle.rgo_sound.specs.RegionMachine.Objects.{object_words as words_of}
use Rattle.rgo_core.specs.Memory.Records.{Giving, Got, Hung, Past, with_claim, with_give}
use Rattle.rgo_core.specs.Memory.Words.{head_at, next_at, state_at}
use Rattle.rgo_core.specs.moves.Chains.{frees, remembers}
use Rattle.rgo_core.specs.moves.Claims.{claims, reserves}
use Rattle.rgo_core.specs.Core.{Setup, layout}
use Rattle.rgo_core.specs.moves.NewObjects.{slot_number}
use Rattle.rgo_core.specs.Records.{Record}
use Rattle.rgo_core.specs.Steps.{Moves}
use Rattle.rgo_core.proofs.pages.Chains.{free_move, hang_move, next_move}
use Rattle.rgo_core.proofs.pages.Claims.{claim_move}
use Rattle.rgo_core.proofs.pages.Reserves.{reserve_move}
use Rattle.rgo_core_steps.specs.Making.{IsCalm, NeedsOwnPage, NeedsPage, NeedsReserved, next_is_spread}
use Rattle.rgo_core_steps.specs.Pages.{tried_page, tries_page}
use Rattle.rgo_core_steps.proofs.making.Objects.{next_is_spread_is}
use Rattle.rgo_core_steps.proofs.record_steps.Staking.{exchanges}
use Rattle.rgo_core_steps.proofs.accesses.Telling.{tells_more}

-- an object that fits a page is not spread
whole : (n page_words : ℕ) → n ≤ page_words → nat_lt page_words n ≡ false
whole n page_words fits = grind (arith, nat_tests)

module _ (T : Setup) (g : ℕ) (c : Record) where
  -- the exchange that claims a page, by the functions of the record
  tries : (p s r : ℕ) (spread : Bool) → r ≡ s → next_is_spread T c ≡ spread
      → Moves T g c (state_at (layout T) p) (λ n. if n == 0 then suc r else n)
      (λ n d. d ≡ (if n == 0 then (if spread then reserves c p r else claims c p r) else tried_page c p))
      → Moves T g c (state_at (layout T) p) (λ n. either (n == 0) (s + 1) n) (λ n d. d ≡ tries_page T c p s n)
  tries p s r spread in_slot is moves =
      exchanges T g c (state_at (layout T) p) 0 (s + 1) (λ n d. d ≡ tries_page T c p s n)
      (subst (λ (k : ℕ). Moves T g c (state_at (layout T) p) (λ n. if n == 0 then k else n) (λ n d. d ≡ tries_page T c p s n)) (sym (add-one s))
      (subst (λ (r : ℕ). Moves T g c (state_at (layout T) p) (λ n. if n == 0 then suc r else n) (λ n d. d ≡ tries_page T c p r n)) in_slot
      (tells_more T g c (state_at (layout T) p) (λ n. if n == 0 then suc r else n)
      (λ n d e. e ∙ ap (λ (b : Bool). if n == 0 then (if b then reserves c p r else claims c p r) else tried_page c p) (sym is)) moves)))

  own_page : (p s : ℕ) → IsCalm c → NeedsOwnPage T c s → p < T.sizes.pages
      → Moves T g c (state_at (layout T) p) (λ n. either (n == 0) (s + 1) n) (λ n d. d ≡ tries_page T c p s n)
  own_page p s calm needs low =
      let next = needs.next in
      tries p s (slot_number (layout T) next.region) false next.in_slot
      (next_is_spread_is next ∙ whole (words_of needs.object) T.sizes.page_words needs.fits)
      (claim_move T g c next.to next.act next.from next.removes next.here needs.object next.region p calm.side next.makes next.in_region
      needs.fits (λ f owned same. needs.full f owned (same ∙ next.in_slot)) calm.claim calm.make low)

  reserved_page : (p s : ℕ) → IsCalm c → NeedsReserved T c s → p < T.sizes.pages
      → Moves T g c (state_at (layout T) p) (λ n. either (n == 0) (s + 1) n) (λ n d. d ≡ tries_page T c p s n)
  reserved_page p s calm needs low =
      let next = needs.next in
      tries p s (slot_number (layout T) next.region) true next.in_slot (next_is_spread_is next ∙ needs.spread)
      (reserve_move T g c next.to next.act next.from next.removes next.here needs.object next.region p calm.side next.makes next.in_region
      needs.spread needs.small needs.more calm.claim calm.make low)

  pub claim_moves : (p s : ℕ) → IsCalm c → NeedsPage T c s → p < T.sizes.pages
      → Moves T g c (state_at (layout T) p) (λ n. either (n == 0) (s + 1) n) (λ n d. d ≡ tries_page T c p s n)
  claim_moves p s calm needs low =
      ⊎_elim (λ (own : NeedsOwnPage T c s). own_page p s calm own low) (λ (more : NeedsReserved T c s). reserved_page p s calm more low) needs

  pub hang_moves : (p s : ℕ) → c.memory.claim ≡ Got p s
      → Moves T g c (head_at (layout T) s) (λ n. p + 1) (λ n d. d ≡ remembers c (with_claim c.memory (Hung p s n)))
  hang_moves p s got =
      subst (λ (k : ℕ). Moves T g c (head_at (layout T) s) (λ n. k) (λ n d. d ≡ remembers c (with_claim c.memory (Hung p s n)))) (sym (add-one p))
      (hang_move T g c p s got)

  pub next_moves : (s p : ℕ) → c.memory.give ≡ Giving s (p + 1)
      → Moves T g c (next_at (layout T) p) (λ n. n)
      (λ n d. (d ≡ remembers c (with_give c.memory (Past s (p + 1) n))) × (n ≤ T.sizes.pages))
  next_moves s p gives =
      subst (λ (k : ℕ). Moves T g c (next_at (layout T) p) (λ n. n)
      (λ n d. (d ≡ remembers c (with_give c.memory (Past s k n))) × (n ≤ T.sizes.pages))) (sym (add-one p))
      (next_move T g c s p (gives ∙ ap (Giving s) (add-one p)))

  pub free_moves : (s p q : ℕ) → c.memory.give ≡ Past s (p + 1) q
      → Moves T g c (state_at (layout T) p) (λ n. 0) (λ n d. (d ≡ frees c s q) × (0 < c.clock.owed))
  free_moves s p q past = free_move T g c s p q (past ∙ ap (λ k. Past s k q) (add-one p))
