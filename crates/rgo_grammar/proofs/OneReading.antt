-- A list of lexemes has at most one first bad lexeme, and none if it is a program: if there were two, some program would begin with the
-- tokens up to and including the first, which is bad. This needs no reading function.
use Rattle.std.proofs.Common.{◌≡◌, ℕ, ◌+◌, ◌≤◌, ◌<◌, ◌⊎◌, inl, inr, List, [], ◌++◌, length, take, drop, subst, append_assoc, append-nil, arith}
use Rattle.std.proofs.lemmas.List.{take-take, take-append-drop}
use Rattle.std.proofs.lemmas.Bool.{cases_order, cases_lt}
use Rattle.rgo_ast.specs.Tree.{Import, Decl}
use Rattle.rgo_lexer.specs.Lexemes.{Lexeme}
use Rattle.rgo_grammar.specs.Grammar.{IsProgram}
use Rattle.rgo_grammar.specs.FirstBad.{Begins, IsFirstBad}
use Rattle.rgo_grammar.specs.Laws.{OneFirstBad, NeverProgramAndBad}

-- a program begins with each of its fronts
front_begins : (k : ℕ) (l : List Lexeme) → Begins l → Begins (take k l)
front_begins k l b = (drop k l ++ b.0, b.1, b.2, rw (← append_assoc, take-append-drop) b.3)

less_begins : (k j : ℕ) (l : List Lexeme) → k ≤ j → Begins (take j l) → Begins (take k l)
less_begins k j l h b = subst Begins (take-take k j l h) (front_begins k (take j l) b)

whole_begins : (l : List Lexeme) (imports : List Import) (decls : List Decl) → IsProgram l imports decls → Begins l
whole_begins l imports decls p = ([], imports, decls, rw append-nil p)

-- no list has two: one of them would come first
no_second : (l : List Lexeme) (k j : ℕ) → k < j → IsFirstBad l k → IsFirstBad l j → ⊥
no_second l k j h f g = f.next (omega (arith, g.within)) (less_begins (k + 1) j l (omega arith) g.before)

pub one_refusal : OneFirstBad
one_refusal l k j f g = by_order (cases_order k j) where
  by_order : (k ≡ j) ⊎ ((k < j) ⊎ (j < k)) → k ≡ j
  by_order (inl e) = e
  by_order (inr (inl h)) = absurd (no_second l k j h f g)
  by_order (inr (inr h)) = absurd (no_second l j k h g f)

pub never_both : NeverProgramAndBad
never_both l imports decls k p f = by_order (cases_lt k (length l)) where
  by_order : (k < length l) ⊎ (length l ≤ k) → ⊥
  by_order (inl h) = f.next h (front_begins (k + 1) l (whole_begins l imports decls p))
  by_order (inr h) = f.all (omega (arith, f.within)) imports decls p
