-- Each text is at most one program, and is valid or has one refusal, never both. Each stage has this law for itself. They fit together
-- because a text has one list of lexemes: what holds of one list of them holds of the other (`moved`).
use Rattle.std.proofs.Common.{◌≡◌, ℕ, ◌<◌, ◌≤◌, ◌⊎◌, inl, inr, List, length, Option, Some, None, refl, sym, ap, ◌∙◌, subst, arith}
use Rattle.std.proofs.lemmas.Bool.{cases_lt}
use Rattle.rgo_lexer.specs.declared.refusals.LexRefusal.{LexRefusal}
use Rattle.rgo_lexer.specs.Lexemes.{Lexeme}
use Rattle.rgo_lexer.specs.Lexing.{LexesAs}
use Rattle.rgo_lexer.specs.Refusals.{LexRefuses}
use Rattle.rgo_lexer.proofs.OneReading as lexer
use Rattle.rgo_ast.specs.Tree.{Program}
use Rattle.rgo_parser.specs.Parsing.{IsParsed, RefusesLexemes}
use Rattle.rgo_parser.specs.declared.parser.ParseRefusal.{ParseRefusal}
use Rattle.rgo_parser.specs.declared.parser.ParseRefusal.TheVariants as parse
use Rattle.rgo_typing_rules.specs.Sites.{first_refusal}
use Rattle.rgo_typing_rules.specs.declared.errors.TypeRefusal.{TypeRefusal}
use Rattle.rgo_typed.specs.Tree.{Typed}
use Rattle.rgo_types.specs.Programs.{sites_of, typed_program}
use Rattle.rgo_run.specs.declared.refusals.TextRefusal.{TextRefusal}
use Rattle.rgo_run.specs.declared.refusals.TextRefusal.TheVariants.{TooLong, Lexical, Syntax, Nesting, Typing}
use Rattle.rgo_run.specs.Positions.{lexeme_place}
use Rattle.rgo_run.specs.Verdicts.{text_limit, IsTree, IsWellTyped, IsValidProgram, IsTypedProgram, IsRefused, IsMistyped, Refused, OneVerdict}
use Rattle.rgo_parser.proofs.Answered as parser

-- what holds of one list of lexemes of a text holds of the other
moved : (text : List ℕ) (a b : List Lexeme) (P : List Lexeme → Type 0) → LexesAs text a → LexesAs text b → P a → P b
moved text a b P s t h = subst P (lexer.one_list text a b s t) h

one_tree : (text : List ℕ) (p q : Program) → IsTree text p → IsTree text q → p ≡ q
one_tree text p q a b =
    parser.one_tree (length text) b.lexemes p q (moved text a.lexemes b.lexemes (λ t. IsParsed (length text) t p) a.lexed b.lexed a.parsed) b.parsed

pub one_program : (text : List ℕ) (p q : Typed) → IsTypedProgram text p → IsTypedProgram text q → p ≡ q
one_program text p q a b = a.typed ∙ ap typed_program (one_tree text a.tree b.tree a.is_well_typed.is_tree b.is_well_typed.is_tree) ∙ sym b.typed

-- a tree has no lexical refusal, and no refusal of its lexemes
not_lexical : (text : List ℕ) (tree : Program) (r : LexRefusal) → IsTree text tree → LexRefuses text r → ⊥
not_lexical text tree r a w = lexer.never_both text a.lexemes r a.lexed w

not_refused : (text : List ℕ) (tree : Program) (r : ParseRefusal) (k at : ℕ) → IsTree text tree → IsRefused text r k at → ⊥
not_refused text tree r k at a w =
    parser.never_both (length text) w.lexemes tree r (moved text a.lexemes w.lexemes (λ t. IsParsed (length text) t tree) a.lexed w.lexed a.parsed) w.refused

-- the first broken rule of a tree is that of each tree of the text
moved_rule : (text : List ℕ) (tree : Program) (refusal : TypeRefusal) → IsTree text tree → (w : IsMistyped text refusal)
    → first_refusal (sites_of tree) ≡ Some refusal
moved_rule text tree refusal a w =
    subst (λ t. first_refusal (sites_of t) ≡ Some refusal) (one_tree text w.tree tree w.is_tree a) w.broken

not_mistyped : (text : List ℕ) (tree : Program) (refusal : TypeRefusal) → IsWellTyped text tree → IsMistyped text refusal → ⊥
not_mistyped text tree refusal a w = let broken = moved_rule text tree refusal a.is_tree w in let none = a.unbroken in cc

-- a text that keeps the rules breaks none
keeps : (text : List ℕ) (tree : Program) (why : TextRefusal) → IsWellTyped text tree → Refused text why → ⊥
keeps text tree TooLong a r = omega (arith, a.is_tree.within)
keeps text tree (Lexical refusal) a r = not_lexical text tree refusal a.is_tree r.1
keeps text tree (Syntax at) a r = not_refused text tree (parse.Syntax r.0) r.0 at a.is_tree r.1
keeps text tree (Nesting at) a r = not_refused text tree (parse.TooDeep r.0) r.0 at a.is_tree r.1
keeps text tree (Typing refusal) a r = not_mistyped text tree refusal a r

pub never_both : (text : List ℕ) (why : TextRefusal) → IsValidProgram text → Refused text why → ⊥
never_both text why t r = keeps text t.0 why t.1 r

-- one lexical refusal
same_lexical : (text : List ℕ) (p q : LexRefusal) → LexRefuses text p → LexRefuses text q → Lexical p ≡ Lexical q
same_lexical text p q r s = ap Lexical (lexer.one_refusal text p q r s)

-- one refusal of the lexemes
same_refusal : (text : List ℕ) (r s : ParseRefusal) (j k a b : ℕ) → IsRefused text r j a → IsRefused text s k b → r ≡ s
same_refusal text r s j k a b v w =
    parser.one_refusal w.lexemes r s (moved text v.lexemes w.lexemes (λ t. RefusesLexemes t r) v.lexed w.lexed v.refused) w.refused

same_place : (text : List ℕ) (r s : ParseRefusal) (j k a b : ℕ) → IsRefused text r j a → IsRefused text s k b → j ≡ k → a ≡ b
same_place text r s j k a b v w e =
    v.place ∙ ap (λ l. lexeme_place text l j) (lexer.one_list text v.lexemes w.lexemes v.lexed w.lexed)
    ∙ ap (λ n. lexeme_place text w.lexemes n) e ∙ sym w.place

same_syntax : (text : List ℕ) (j k a b : ℕ) → IsRefused text (parse.Syntax j) j a → IsRefused text (parse.Syntax k) k b → Syntax a ≡ Syntax b
same_syntax text j k a b v w =
    let same = same_refusal text (parse.Syntax j) (parse.Syntax k) j k a b v w in
    let numbers : j ≡ k = cc in
    ap Syntax (same_place text (parse.Syntax j) (parse.Syntax k) j k a b v w numbers)

same_nesting : (text : List ℕ) (j k a b : ℕ) → IsRefused text (parse.TooDeep j) j a → IsRefused text (parse.TooDeep k) k b → Nesting a ≡ Nesting b
same_nesting text j k a b v w =
    let same = same_refusal text (parse.TooDeep j) (parse.TooDeep k) j k a b v w in
    let numbers : j ≡ k = cc in
    ap Nesting (same_place text (parse.TooDeep j) (parse.TooDeep k) j k a b v w numbers)

not_both_ways : (text : List ℕ) (j k a b : ℕ) → IsRefused text (parse.Syntax j) j a → IsRefused text (parse.TooDeep k) k b → ⊥
not_both_ways text j k a b v w = let same = same_refusal text (parse.Syntax j) (parse.TooDeep k) j k a b v w in cc

not_both_orders : (text : List ℕ) (r : LexRefusal) (s : ParseRefusal) (k at : ℕ) → LexRefuses text r → IsRefused text s k at → ⊥
not_both_orders text r s k at v w = lexer.never_both text w.lexemes r w.lexed v

abbrev refusal_or : TypeRefusal → Option TypeRefusal → TypeRefusal
refusal_or r None = r
refusal_or r (Some s) = s

same_rule : (text : List ℕ) (p q : TypeRefusal) → IsMistyped text p → IsMistyped text q → Typing p ≡ Typing q
same_rule text p q v w = ap (λ r. Typing (refusal_or p r)) (sym (moved_rule text w.tree p w.is_tree v) ∙ w.broken)

pub one_refusal : (text : List ℕ) (a b : TextRefusal) → Refused text a → Refused text b → a ≡ b
one_refusal text TooLong TooLong r s = refl
one_refusal text TooLong (Lexical q) r s = absurd (omega (arith, s.0))
one_refusal text TooLong (Syntax b) r s = absurd (omega (arith, s.1.within))
one_refusal text TooLong (Nesting b) r s = absurd (omega (arith, s.1.within))
one_refusal text TooLong (Typing q) r s = absurd (omega (arith, s.is_tree.within))
one_refusal text (Lexical p) TooLong r s = absurd (omega (arith, r.0))
one_refusal text (Lexical p) (Lexical q) r s = same_lexical text p q r.1 s.1
one_refusal text (Lexical p) (Syntax b) r s = absurd (not_both_orders text p (parse.Syntax s.0) s.0 b r.1 s.1)
one_refusal text (Lexical p) (Nesting b) r s = absurd (not_both_orders text p (parse.TooDeep s.0) s.0 b r.1 s.1)
one_refusal text (Lexical p) (Typing q) r s = absurd (not_lexical text s.tree p s.is_tree r.1)
one_refusal text (Syntax a) TooLong r s = absurd (omega (arith, r.1.within))
one_refusal text (Syntax a) (Lexical q) r s = absurd (not_both_orders text q (parse.Syntax r.0) r.0 a s.1 r.1)
one_refusal text (Syntax a) (Syntax b) r s = same_syntax text r.0 s.0 a b r.1 s.1
one_refusal text (Syntax a) (Nesting b) r s = absurd (not_both_ways text r.0 s.0 a b r.1 s.1)
one_refusal text (Syntax a) (Typing q) r s = absurd (not_refused text s.tree (parse.Syntax r.0) r.0 a s.is_tree r.1)
one_refusal text (Nesting a) TooLong r s = absurd (omega (arith, r.1.within))
one_refusal text (Nesting a) (Lexical q) r s = absurd (not_both_orders text q (parse.TooDeep r.0) r.0 a s.1 r.1)
one_refusal text (Nesting a) (Syntax b) r s = absurd (not_both_ways text s.0 r.0 b a s.1 r.1)
one_refusal text (Nesting a) (Nesting b) r s = same_nesting text r.0 s.0 a b r.1 s.1
one_refusal text (Nesting a) (Typing q) r s = absurd (not_refused text s.tree (parse.TooDeep r.0) r.0 a s.is_tree r.1)
one_refusal text (Typing p) TooLong r s = absurd (omega (arith, r.is_tree.within))
one_refusal text (Typing p) (Lexical q) r s = absurd (not_lexical text r.tree q r.is_tree s.1)
one_refusal text (Typing p) (Syntax b) r s = absurd (not_refused text r.tree (parse.Syntax s.0) s.0 b r.is_tree s.1)
one_refusal text (Typing p) (Nesting b) r s = absurd (not_refused text r.tree (parse.TooDeep s.0) s.0 b r.is_tree s.1)
one_refusal text (Typing p) (Typing q) r s = same_rule text p q r s

abbrev pub Judged : List ℕ → Type 0
Judged text = IsValidProgram text ⊎ ((why : TextRefusal) × Refused text why)

of_rule : (text : List ℕ) (tree : Program) (broken : Option TypeRefusal) → IsTree text tree → first_refusal (sites_of tree) ≡ broken → Judged text
of_rule text tree None t e = inl (tree, record { is_tree = t; unbroken = e })
of_rule text tree (Some r) t e = inr (Typing r, record { tree = tree; is_tree = t; broken = e })

refused_at : (text : List ℕ) (lexemes : List Lexeme) (r : ParseRefusal) (k : ℕ) → length text ≤ text_limit → LexesAs text lexemes → RefusesLexemes lexemes r → IsRefused text r k (lexeme_place text lexemes k)
refused_at text lexemes r k h t w = record { within = h; lexemes = lexemes; lexed = t; refused = w; place = refl }

of_refusal : (text : List ℕ) (lexemes : List Lexeme) (r : ParseRefusal) → length text ≤ text_limit → LexesAs text lexemes → RefusesLexemes lexemes r → Judged text
of_refusal text lexemes (parse.Syntax k) h t w = inr (Syntax (lexeme_place text lexemes k), (k, refused_at text lexemes (parse.Syntax k) k h t w))
of_refusal text lexemes (parse.TooDeep k) h t w = inr (Nesting (lexeme_place text lexemes k), (k, refused_at text lexemes (parse.TooDeep k) k h t w))

of_answer : (text : List ℕ) (lexemes : List Lexeme) → length text ≤ text_limit → LexesAs text lexemes
    → ((tree : Program) × IsParsed (length text) lexemes tree) ⊎ ((r : ParseRefusal) × RefusesLexemes lexemes r) → Judged text
of_answer text lexemes h t (inl p) = of_rule text p.0 (first_refusal (sites_of p.0)) (record { within = h; lexemes = lexemes; lexed = t; parsed = p.1 }) refl
of_answer text lexemes h t (inr r) = of_refusal text lexemes r.0 h t r.1

of_tokens : (text : List ℕ) → length text ≤ text_limit → ((lexemes : List Lexeme) × LexesAs text lexemes) ⊎ ((r : LexRefusal) × LexRefuses text r) → Judged text
of_tokens text h (inl t) = of_answer text t.0 h t.1 (parser.one_of_both (length text) t.0)
of_tokens text h (inr r) = inr (Lexical r.0, (h, r.1))

of_length : (text : List ℕ) → (text_limit < length text) ⊎ (length text ≤ text_limit) → Judged text
of_length text (inl h) = inr (TooLong, h)
of_length text (inr h) = of_tokens text h (lexer.one_of_both text)

pub one_of_both : (text : List ℕ) → Judged text
one_of_both text = of_length text (cases_lt text_limit (length text))

pub one_verdict : OneVerdict
one_verdict = record { one_program = one_program; one_refusal = one_refusal; never_both = never_both; one_of_both = one_of_both }
