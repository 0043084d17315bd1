-- A list that nests too deep is read up to the lexeme where it does: a bad lexeme before that is also the first bad one of the whole
-- list, since whether a lexeme is bad depends on no lexeme after it.
use Rattle.std.proofs.Common.{◌≡◌, ℕ, suc, ◌+◌, ◌<◌, ◌≤◌, Bool, true, false, cond, List, [], ◌∷◌, ◌++◌, length, take, drop, map, Some, None, sym, subst, append_assoc, append-nil, arith}
use Rattle.std.specs.Prelude.{nat_lt}
use Rattle.std.proofs.lemmas.List.{take-take, length-take, length-map, take-append-drop}
use Rattle.rgo_ast.specs.Tree.{Import, Decl}
use Rattle.rgo_lexer.specs.declared.terminals.Terminal.{Terminal}
use Rattle.rgo_lexer.specs.declared.terminals.Terminal.TheVariants.{Other}
use Rattle.rgo_grammar.specs.declared.nesting.Level.{Level}
use Rattle.rgo_lexer.specs.Lexemes.{Lexeme}
use Rattle.rgo_grammar.specs.Grammar.{IsProgram}
use Rattle.rgo_grammar.specs.FirstBad.{Begins, IsFirstBad}
use Rattle.rgo_grammar.specs.Nesting.{deep_at, deep_from, levels_after, nesting, outermost}
use Rattle.rgo_parser.specs.Parsing.{limit, IsSyntax, IsTooDeep}

-- a program begins with each of its fronts
pub whole_begins : (k : ℕ) (l : List Lexeme) (imports : List Import) (decls : List Decl) → IsProgram l imports decls → Begins (take k l)
whole_begins k l imports decls p = (drop k l, imports, decls, rw take-append-drop p)

pub less_begins : (k j : ℕ) (l : List Lexeme) → k ≤ j → Begins (take j l) → Begins (take k l)
less_begins k j l h b = subst Begins (take-take k j l h) (drop k (take j l) ++ b.0, b.1, b.2, rw (← append_assoc, take-append-drop) b.3)

deep_from_within : (most : ℕ) (before : Terminal) (s : List Level) (k : ℕ) (l : List Terminal) (d : ℕ) → deep_from most before s k l ≡ Some d → d < k + length l
unfolding deep_from
deep_from_within most before s k [] d e = cc
deep_from_within most before s k (t ∷ l) d e =
    by_test (deep_from_within most t (levels_after before t s) (k + 1) l d) (nat_lt most (nesting (levels_after before t s))) e
  where
    by_test : (deep_from most t (levels_after before t s) (k + 1) l ≡ Some d → d < k + 1 + length l) → (b : Bool)
        → cond b (Some k) (deep_from most t (levels_after before t s) (k + 1) l) ≡ Some d → d < k + suc (length l)
    by_test later true g = let same : k ≡ d = cc in omega (arith, same)
    by_test later false g = omega (arith, later g)

pub deep_within : (l : List Lexeme) (d : ℕ) → deep_at limit l ≡ Some d → d < length l
deep_within l d e = omega (arith, deep_from_within limit Other (outermost ∷ []) 0 (map (λ t. t.terminal) l) d e, length-map l (λ t. t.terminal))

-- a refusal before the end of the front is one of the whole
pub cut_syntax : (l : List Lexeme) (k d : ℕ) → deep_at limit l ≡ Some d → k ≤ d → IsFirstBad (take (d + 1) l) k → IsSyntax l k
cut_syntax l k d e h bad =
    let long = deep_within l d e in
    record {
      bad = record {
        within = omega arith;
        before = subst Begins (take-take k (d + 1) l (omega arith)) bad.before;
        next = λ g b. bad.next (omega (arith, long, length-take (d + 1) l)) (subst Begins (sym (take-take (k + 1) (d + 1) l (omega arith))) b);
        all = λ g is ds p. absurd (omega (arith, long, g));
      };
      shallow = rw e h;
    }

-- if the front is a program, or begins one to its end, the nesting is refused
pub cut_program : (l : List Lexeme) (d : ℕ) (imports : List Import) (decls : List Decl) → deep_at limit l ≡ Some d
    → IsProgram (take (d + 1) l) imports decls → IsTooDeep l d
cut_program l d imports decls e p = record { deep = e; begun = ([], imports, decls, rw append-nil p) }

pub cut_open : (l : List Lexeme) (k d : ℕ) → deep_at limit l ≡ Some d → d < k → IsFirstBad (take (d + 1) l) k → IsTooDeep l d
cut_open l k d e h bad = record {
  deep = e;
  begun = subst Begins (take-take (d + 1) (d + 1) l (omega arith)) (less_begins (d + 1) k (take (d + 1) l) (omega arith) bad.before);
}

-- where none nests too deep
pub whole_syntax : (l : List Lexeme) (k : ℕ) → deep_at limit l ≡ None → IsFirstBad l k → IsSyntax l k
whole_syntax l k e bad = record { bad = bad; shallow = rw e tt }
