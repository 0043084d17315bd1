-- One step of the search for the first lexeme that nests too deep, for the loop of `deep_at`.
use Rattle.std.proofs.Common.{◌≡◌, ℕ, ◌+◌, ◌<◌, ◌≤◌, nat_lt, cond, List, length, get_or, drop, Option, Some, None, refl}
use Rattle.std.proofs.lemmas.List.{drop_more, drop_all}
use Rattle.std.proofs.lemmas.Bool.{lt-ltb, le-ltb}
use Rattle.rgo_lexer.specs.declared.terminals.Terminal.{Terminal}
use Rattle.rgo_grammar.specs.declared.nesting.Level.{Level}
use Rattle.rgo_lexer.specs.Lexemes.{Lexeme}
use Rattle.rgo_grammar.specs.Nesting.{levels_after, nesting, terminals, deep_from}

abbrev deep_by : ℕ → Terminal → List Level → ℕ → Terminal → List Lexeme → Option ℕ
deep_by limit before s k terminal rest =
    cond (nat_lt limit (nesting (levels_after before terminal s))) (Some k) (deep_from limit terminal (levels_after before terminal s) (k + 1) (terminals rest))

deep_step : (limit : ℕ) (before : Terminal) (s : List Level) (k : ℕ) (l : List Lexeme) (i : ℕ) (d : Lexeme) → i < length l
    → deep_from limit before s k (terminals (drop i l)) ≡ deep_by limit before s k (get_or l i d).terminal (drop (i + 1) l)
unfolding deep_from
deep_step limit before s k l i d h = rw (drop_more l i d h) refl

-- at a lexeme, by its terminal
module _ (limit : ℕ) (before terminal : Terminal) (s after : List Level) (k : ℕ) (l : List Lexeme) (i : ℕ) (d : Lexeme) (h : i < length l) (this : (get_or l i d).terminal ≡ terminal)
    (passed : after ≡ levels_after before terminal s) where
  -- it nests too deep
  pub deep_here : limit < nesting after → deep_from limit before s k (terminals (drop i l)) ≡ Some k
  deep_here g = rw (deep_step limit before s k l i d h, this, ← passed, lt-ltb limit (nesting after) g) refl

  -- one after it may
  pub deep_later : nesting after ≤ limit
      → deep_from limit before s k (terminals (drop i l)) ≡ deep_from limit terminal after (k + 1) (terminals (drop (i + 1) l))
  deep_later g = rw (deep_step limit before s k l i d h, this, ← passed, le-ltb limit (nesting after) g) refl

pub deep_never : (limit : ℕ) (before : Terminal) (s : List Level) (k : ℕ) (l : List Lexeme) (i : ℕ) → length l ≤ i
    → deep_from limit before s k (terminals (drop i l)) ≡ None
unfolding deep_from
deep_never limit before s k l i h = rw (drop_all i l h) refl
