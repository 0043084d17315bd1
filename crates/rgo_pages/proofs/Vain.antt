-- What a search in vain shows. The search goes around, so each page is among the tried ones whatever the first one was.
use Rattle.std.proofs.Common.{◌≡◌, ℕ, ◌<◌, List, [], ◌∷◌, ⊎_elim, sym, subst, arith}
use Rattle.std.proofs.lemmas.Bool.Decides.{nat_tests}
use Rattle.rgo_core.specs.Rule.declared.accesses.Kind.TheVariants.{ClaimPage}
use Rattle.rgo_core.specs.Memory.Pages.{occurrences}
use Rattle.rgo_core.specs.Memory.Words.{state_at}
use Rattle.rgo_core.proofs.Memory.pages.Chains.{times_first}
use Rattle.rgo_core.specs.runs.Opening.{first_of}
use Rattle.rgo_core.specs.Records.{Record, accesses}
use Rattle.rgo_core_steps.specs.Pages.{tried_page}
use Rattle.rgo_core_steps.specs.Searches.{Miss, missing, places_of}
use Rattle.rgo_core_steps.proofs.searching.Covering.{Among, found_each, tried_each, tried_long, tried_still}
use Rattle.rgo_pages.specs.Claiming.{FullPagesLaw}

times_more : (s p : ℕ) (ps : List ℕ) → 0 < occurrences s ps → 0 < occurrences s (p ∷ ps)
times_more s p ps h = grind (arith, nat_tests, h)

times_here : (s p : ℕ) (ps : List ℕ) → p ≡ s → 0 < occurrences s (p ∷ ps)
times_here s p ps e = let w = times_first s p ps e in omega (arith, w)

-- a record keeps what it remembers
kept : (s : ℕ) (ts : List Miss) (c : Record) → 0 < occurrences s c.memory.tried_pages → 0 < occurrences s (missing tried_page c ts).memory.tried_pages
kept s [] c h = h
kept s (t ∷ ts) c h = kept s ts (tried_page c t.place) (times_more s t.place c.memory.tried_pages h)

remembers : (s : ℕ) (ts : List Miss) (c : Record) → Among s (places_of ts) → 0 < occurrences s (missing tried_page c ts).memory.tried_pages
remembers s [] c a = absurd a
remembers s (t ∷ ts) c a = ⊎_elim
    (λ (e : t.place ≡ s). kept s ts (tried_page c t.place) (times_here s t.place c.memory.tried_pages e))
    (λ (b : Among s (places_of ts)). remembers s ts (tried_page c t.place) b)
    a

pub full_law : FullPagesLaw
full_law T z c m w t = record {
  es = t.tried.made.es;
  grew = t.tried.made.grew;
  made = tried_long accesses (first_of T.code) ClaimPage (state_at z) tried_page c z.pages m w t;
  still = tried_still accesses (first_of T.code) ClaimPage (state_at z) tried_page c z.pages m w t;
  found = found_each accesses (first_of T.code) ClaimPage (state_at z) tried_page c z.pages m w t;
  remembered = λ s low. subst (λ (d : Record). 0 < occurrences s d.memory.tried_pages) (sym t.tried.made.after)
      (remembers s t.tried.tries c (tried_each accesses (first_of T.code) ClaimPage (state_at z) tried_page c z.pages m w t s low));
}
