-- Each list of lexemes is one program, or has one refusal. From the law of the grammar, with the nesting: of a list that nests too deep
-- the part up to that lexeme decides which refusal it has.
use Rattle.std.proofs.Common.{◌≡◌, ℕ, ◌+◌, ◌<◌, ◌≤◌, ◌⊎◌, inl, inr, List, Option, Some, None, refl, sym, ap, subst, ◌∙◌, arith}
use Rattle.std.proofs.lemmas.Bool.{cases_lt}
use Rattle.rgo_ast.specs.Tree.{Import, Decl, Program}
use Rattle.rgo_lexer.specs.Lexemes.{Lexeme}
use Rattle.rgo_grammar.specs.Grammar.{IsProgram}
use Rattle.rgo_grammar.specs.FirstBad.{IsFirstBad}
use Rattle.rgo_grammar.specs.Nesting.{deep_at, NotBefore}
use Rattle.rgo_grammar.proofs.OneReading as reading
use Rattle.rgo_grammar.proofs.Whole.{one_tree as grammar_tree, one_of_both as grammar_both}
use Rattle.rgo_parser.specs.declared.parser.ParseRefusal.{ParseRefusal}
use Rattle.rgo_parser.specs.declared.parser.ParseRefusal.TheVariants as refusal
use Rattle.rgo_parser.specs.Parsing.{limit, IsParsed, IsSyntax, IsTooDeep, RefusesLexemes}
use Rattle.rgo_parser.specs.Laws.{OneParseTree, OneParseRefusal, NeverParsedAndRefused, ParsedOrRefused}
use Rattle.rgo_parser.proofs.Cuts.{whole_begins, less_begins, deep_within}

abbrev made : List Import → List Decl → ℕ → Program
made imports decls end = record { imports = imports; decls = decls; end = end }

same_made : (imports imports' : List Import) (decls decls' : List Decl) (end end' : ℕ) → imports ≡ imports' → decls ≡ decls' → end ≡ end'
    → made imports decls end ≡ made imports' decls' end'
same_made imports imports' decls decls' end end' e f g = rw (e, f, g) refl

pub one_tree : OneParseTree
one_tree end l p q h g =
    let e = grammar_tree l p.imports q.imports p.decls q.decls h.derived g.derived in
    same_made p.imports q.imports p.decls q.decls p.end q.end e.0 e.1 (h.ended ∙ sym g.ended)

-- a lexeme with which no program continues does not come after one that nests too deep
not_both : (l : List Lexeme) (k d : ℕ) → IsSyntax l k → IsTooDeep l d → ⊥
not_both l k d h g =
    let before : k ≤ d = subst (λ o. NotBefore o k) g.deep h.shallow in
    h.bad.next (omega (arith, before, deep_within l d g.deep)) (less_begins (k + 1) (d + 1) l (omega (arith, before)) g.begun)

pub one_refusal : OneParseRefusal
one_refusal l (refusal.Syntax k) (refusal.Syntax j) h g = ap refusal.Syntax (reading.one_refusal l k j h.bad g.bad)
one_refusal l (refusal.Syntax k) (refusal.TooDeep d) h g = absurd (not_both l k d h g)
one_refusal l (refusal.TooDeep d) (refusal.Syntax k) h g = absurd (not_both l k d g h)
one_refusal l (refusal.TooDeep d) (refusal.TooDeep c) h g = let e = sym h.deep ∙ g.deep in let same : d ≡ c = cc in ap refusal.TooDeep same

pub never_both : NeverParsedAndRefused
never_both end l p (refusal.Syntax k) h g = reading.never_both l p.imports p.decls k h.derived g.bad
never_both end l p (refusal.TooDeep d) h g = let e = sym h.shallow ∙ g.deep in cc

abbrev Answer : ℕ → List Lexeme → Type 0
Answer end l = ((program : Program) × IsParsed end l program) ⊎ ((r : ParseRefusal) × RefusesLexemes l r)

by_order : (end : ℕ) (l : List Lexeme) (k d : ℕ) → deep_at limit l ≡ Some d → IsFirstBad l k → (d < k) ⊎ (k ≤ d) → Answer end l
by_order end l k d e bad (inl h) = inr (refusal.TooDeep d, record { deep = e; begun = less_begins (d + 1) k l (omega (arith, h)) bad.before })
by_order end l k d e bad (inr h) = inr (refusal.Syntax k, record { bad = bad; shallow = rw e h })

by_both : (end : ℕ) (l : List Lexeme) (o : Option ℕ) → deep_at limit l ≡ o
    → ((imports : List Import) × (decls : List Decl) × IsProgram l imports decls) ⊎ ((k : ℕ) × IsFirstBad l k)
    → Answer end l
by_both end l None e (inl p) = inl (record { imports = p.0; decls = p.1; end = end }, record { derived = p.2; ended = refl; shallow = e })
by_both end l (Some d) e (inl p) = inr (refusal.TooDeep d, record { deep = e; begun = whole_begins (d + 1) l p.0 p.1 p.2 })
by_both end l None e (inr b) = inr (refusal.Syntax b.0, record { bad = b.1; shallow = rw e tt })
by_both end l (Some d) e (inr b) = by_order end l b.0 d e b.1 (cases_lt d b.0)

pub one_of_both : ParsedOrRefused
one_of_both end l = by_both end l (deep_at limit l) refl (grammar_both l)
