-- How deeply a list of lexemes nests, by their terminals alone. The depth is the sum over all open levels; a level counts the bracket
-- that began it, its joints since its last `;` or `,`, and its `else` since its last `;` after a `}`. These are what makes the parser
-- and every later function on trees recur, so a bound on the depth bounds their stack; it is defined on lexemes, so that it can be
-- checked before the parser recurs.
use Rattle.std.specs.Prelude.{ℕ, ◌+◌, ◌≤◌, nat_lt, if◌then◌else◌, List, [], ◌∷◌, Option, Some, None, map, sum_by}
use Rattle.rgo_lexer.specs.declared.terminals.Terminal.{Terminal}
use Rattle.rgo_lexer.specs.declared.terminals.Terminal.TheVariants.{Binary, Bang, Ampersand, Arrow, OpenParen, CloseParen, OpenBracket, CloseBracket, OpenBrace, CloseBrace, Comma, Semicolon, Dot, Chan, Else, Other}
use Rattle.rgo_grammar.specs.declared.nesting.Level.{Level}
use Rattle.rgo_lexer.specs.Lexemes.{Lexeme}

-- the text itself
abbrev pub outermost : Level
outermost = record { brackets = 0; joints = 0; elses = 0 }

-- the inside of a bracket
abbrev pub inner : Level
inner = record { brackets = 1; joints = 0; elses = 0 }

-- what a level adds to the depth
abbrev pub weight : Level → ℕ
weight v = v.brackets + v.joints + v.elses

-- Below, the innermost level comes first.

-- f at the innermost level. There is none after a bracket that closes and was not opened; such a text has wrong syntax
abbrev pub at_innermost : (Level → Level) → List Level → List Level
at_innermost f [] = []
at_innermost f (v ∷ s) = f v ∷ s

-- the levels outside the innermost
abbrev pub outside_level : List Level → List Level
outside_level [] = []
outside_level (v ∷ s) = s

-- a level with one more joint: a terminal, other than an opening bracket, that makes an expression or a type part of a larger one.
-- `levels_after` lists them
abbrev pub with_joint : Level → Level
with_joint v = record { brackets = v.brackets; joints = v.joints + 1; elses = v.elses }

-- a level with one more `else`: the `if` after it is part of the `if` before it
abbrev pub branched : Level → Level
branched v = record { brackets = v.brackets; joints = v.joints; elses = v.elses + 1 }

-- a level after a `,` or `;`, which ends an expression and so all joints. An `else` stays, since a `;` in the header of the `if` after it
-- does not end that
abbrev pub separated : Level → Level
separated v = record { brackets = v.brackets; joints = 0; elses = v.elses }

-- a level after the `;` that follows a `}` and ends the whole `if`
abbrev pub ended_level : Level → Level
ended_level v = record { brackets = v.brackets; joints = 0; elses = 0 }

-- a level after a `;`, by the terminal before the `;`
abbrev pub after_semicolon : Terminal → Level → Level
after_semicolon CloseBrace v = ended_level v
after_semicolon _ v = separated v

-- The levels after a terminal, by the one before it. Joints are binary and unary operators, `.`, `chan`, and what closes parentheses
-- and brackets, in the level outside them: `f(1)(2)` is a call in a call although no bracket is open. A `}` adds none, since statements
-- after one another are not nested.
abbrev pub levels_after : Terminal → Terminal → List Level → List Level
levels_after before OpenParen s = inner ∷ s
levels_after before OpenBracket s = inner ∷ s
levels_after before OpenBrace s = inner ∷ s
levels_after before CloseParen s = at_innermost with_joint (outside_level s)
levels_after before CloseBracket s = at_innermost with_joint (outside_level s)
levels_after before CloseBrace s = outside_level s
levels_after before (Binary o) s = at_innermost with_joint s
levels_after before Bang s = at_innermost with_joint s
levels_after before Ampersand s = at_innermost with_joint s
levels_after before Arrow s = at_innermost with_joint s
levels_after before Dot s = at_innermost with_joint s
levels_after before Chan s = at_innermost with_joint s
levels_after before Else s = at_innermost branched s
levels_after before Comma s = at_innermost separated s
levels_after before Semicolon s = at_innermost (after_semicolon before) s
levels_after before _ s = s

-- the depth: the sum over all open levels
abbrev pub nesting : List Level → ℕ
nesting s = sum_by weight s

-- the number, counted from k, of the first terminal after which the nesting exceeds the limit
unfoldable pub deep_from : ℕ → Terminal → List Level → ℕ → List Terminal → Option ℕ
deep_from limit before s k [] = None
deep_from limit before s k (t ∷ l) =
    if nat_lt limit (nesting (levels_after before t s)) then Some k
    else deep_from limit t (levels_after before t s) (k + 1) l

-- the first terminal of a text after which it nests deeper than the limit, counted from 0. None is before the first, so `Other`, of which
-- no rule of `levels_after` asks, is put there
abbrev pub deep_among : ℕ → List Terminal → Option ℕ
deep_among limit l = deep_from limit Other (outermost ∷ []) 0 l

-- the terminals of lexemes: the depth depends on nothing else of them
abbrev pub terminals : List Lexeme → List Terminal
terminals l = map (λ t. t.terminal) l

-- the first lexeme after which the lexemes nest deeper than the limit
abbrev pub deep_at : ℕ → List Lexeme → Option ℕ
deep_at limit l = deep_among limit (terminals l)

-- no lexeme before the k-th nests too deep
abbrev pub NotBefore : Option ℕ → ℕ → Type 0
NotBefore None k = Unit {0}
NotBefore (Some d) k = k ≤ d
