-- Where an expression ends, and how one is read that a token follows: operators, selections, indexes, calls, signs. One lemma for each
-- production, from which `Complete` takes its cases.
use Rattle.std.proofs.Common.{◌≡◌, ℕ, zero, suc, ◌+◌, ◌<◌, ◌≤◌, inl, inr, Bool, true, false, List, [], ◌∷◌, ◌++◌, Some, refl, arith}
use Rattle.std.proofs.lemmas.Bool.{le-leb, lt-leb}
use Rattle.rgo_ast.specs.declared.ops.{BinaryOp.{BinaryOp}, UnaryOp.{UnaryOp}}
use Rattle.rgo_ast.specs.Tree.{exprs_of}
use Rattle.rgo_ast.specs.declared.ops.BinaryOp.TheVariants as op
use Rattle.rgo_ast.specs.declared.ops.UnaryOp.TheVariants as unary_op
use Rattle.rgo_ast.specs.Tree as tree
use Rattle.rgo_lexer.specs.{declared.terminals.Terminal.{Terminal, TheVariants.{Name, Binary, Bang, Ampersand, Arrow, OpenParen, CloseParen, OpenBracket, CloseBracket, Dot}}, Lexemes.{Leaf, Lexeme, tok, ident}}
use Rattle.rgo_grammar.specs.Grammar.{level, sign}
use Rattle.rgo_grammar.specs.reading.{Read.{Reader, Done}, Expressions.{exprs, signed, unary_by, post_by, climb_by, expr, climb, unary, primary, post}}
use Rattle.rgo_grammar.proofs.reading.{Complete.{Meets, meets_trans, meets_bind, meets_then}, Next.{IsNext, NotNext}}
use Rattle.rgo_grammar.proofs.expressions.Starts.{level_of, top, unsigned}

-- what continues a primary expression
abbrev pub posts : Terminal → Bool
posts Dot = true
posts OpenBracket = true
posts OpenParen = true
posts _ = false

abbrev pub Unposted : List Lexeme → Type 0
Unposted = NotNext posts

-- nothing comes next that continues an expression
abbrev pub EndsExpr : List Lexeme → Type 0
EndsExpr l = (top l < 1) × Unposted l

-- x is read as v, in brackets
abbrev pub ReadsAs : List Lexeme → tree.Expr → Type 0
ReadsAs x v = (n : ℕ) (l : List Lexeme) → EndsExpr l → Meets (expr false n 1 (x ++ l)) (Done v l)

post_done_by : (n : ℕ) (inner : Reader tree.Expr) (again : tree.Expr → Reader tree.Expr)
    (v : tree.Expr) (k : Terminal) (i : Leaf) (l m : List Lexeme) → posts k ≡ false
    → post_by n inner again v k i l m ≡ Done v l
post_done_by n inner again v Dot i l m h = cc
post_done_by n inner again v OpenBracket i l m h = cc
post_done_by n inner again v OpenParen i l m h = cc
post_done_by n inner again v _ i l m h = refl

pub post_done : (n : ℕ) (v : tree.Expr) (l : List Lexeme) → Unposted l
    → Meets (post n v l) (Done v l)
unfolding expr
post_done zero v l h = inl refl
post_done (suc n) v [] h = inr refl
post_done (suc n) v (t ∷ l) h =
    inr (post_done_by n (expr false n 1) (post n) v t.terminal t.leaf (t ∷ l) l h)

climb_done_by : (right : ℕ → Reader tree.Expr) (again : tree.Expr → Reader tree.Expr) (p : ℕ)
    (v : tree.Expr) (k : Terminal) (i : Leaf) (l m : List Lexeme) → level_of k < p
    → climb_by right again p v k i l m ≡ Done v l
climb_done_by right again p v (Binary o) i l m h = rw (lt-leb p (level o) h) refl
climb_done_by right again p v _ i l m h = refl

pub climb_done : (h : Bool) (n p : ℕ) (v : tree.Expr) (l : List Lexeme) → top l < p
    → Meets (climb h n p v l) (Done v l)
unfolding expr
climb_done h zero p v l e = inl refl
climb_done h (suc n) p v [] e = inr refl
climb_done h (suc n) p v (t ∷ l) e =
    inr (climb_done_by (expr h n) (climb h n p) p v t.terminal t.leaf (t ∷ l) l e)

-- if nothing continues an expression, it has been read whole
pub finished : (h : Bool) (n : ℕ) (x : List Lexeme) {v : tree.Expr} {l : List Lexeme} → EndsExpr l
    → (top l ≤ 1 → Unposted l → (m : ℕ) × Meets (expr h n 1 (x ++ l)) (climb h m 1 v l))
    → Meets (expr h n 1 (x ++ l)) (Done v l)
finished h n x {v} {l} e g =
    let r = g (omega (arith, e.0)) e.1 in meets_trans r.1 (climb_done h r.0 1 v l e.0)

pub operated : (h : Bool) (p : ℕ) (o : BinaryOp) (i : Leaf) (a b : tree.Expr) (y : List Lexeme)
    (m : ℕ) (l : List Lexeme) → p ≤ level o → top l < level o + 1
    → ((n : ℕ) → (m' : ℕ) × Meets (expr h n (level o + 1) (y ++ l)) (climb h m' (level o + 1) b l))
    → (m' : ℕ) × Meets (climb h m p a (tok (Binary o) i ∷ (y ++ l)))
    (climb h m' p (tree.Binary o a b i.at) l)
unfolding expr
operated h p o i a b y zero l e t g = (0, inl refl)
operated h p o i a b y (suc m) l e t g =
    let right = g m in
    let done = meets_trans right.1 (climb_done h right.0 (level o + 1) b l t) in (
      m,
      rw (le-leb p (level o) e) (meets_bind _ done),
    )

-- ---- what follows a primary expression

pub selected : (i j : Leaf) (v : tree.Expr) (n : ℕ) (l : List Lexeme)
    → (m : ℕ) × Meets (post n v (tok Dot i ∷ tok Name j ∷ l)) (post m (tree.Select v (ident j)) l)
unfolding expr
selected i j v zero l = (0, inl refl)
selected i j v (suc n) l = (n, inr refl)

pub indexed_at : (i j : Leaf) (v w : tree.Expr) (y : List Lexeme) (n : ℕ) (l : List Lexeme)
    → ReadsAs y w
    → (m : ℕ) × Meets (post n v (tok OpenBracket i ∷ (y ++ tok CloseBracket j ∷ l)))
    (post m (tree.Index v w i.at) l)
unfolding expr
indexed_at i j v w y zero l h = (0, inl refl)
indexed_at i j v w y (suc n) l h = (
  n,
  meets_then _ (h n (tok CloseBracket j ∷ l) (omega arith, refl)) (inr refl),
)

pub called_at : (i : Leaf) (v : tree.Expr) (y : List Lexeme) (vs : List tree.Expr) (n : ℕ)
    (l : List Lexeme)
    → ((m k : ℕ)
    → (j : Leaf) × Meets (exprs CloseParen k (expr false m 1) (y ++ l)) (Done (vs, j) l))
    → (m : ℕ) × Meets (post n v (tok OpenParen i ∷ (y ++ l)))
    (post m (tree.Called v (exprs_of vs) i.at) l)
unfolding expr
called_at i v y vs zero l h = (0, inl refl)
called_at i v y vs (suc n) l h =
    let g = h n n in
    (n, meets_bind _ g.1)

-- ---- signs

pub signed_by : (h : Bool) (n : ℕ) (inner again primary : Reader tree.Expr) (k : Terminal)
    (o : UnaryOp) (i : Leaf) (l m : List Lexeme) → sign k ≡ Some o
    → unary_by h n inner again primary k i l m ≡ signed again o i m
signed_by h n inner again primary (Binary op.Add) o i l m e =
    let f : o ≡ unary_op.Plus = cc in rw f refl
signed_by h n inner again primary (Binary op.Sub) o i l m e =
    let f : o ≡ unary_op.Minus = cc in rw f refl
signed_by h n inner again primary Bang o i l m e = let f : o ≡ unary_op.Not = cc in rw f refl
signed_by h n inner again primary Arrow o i l m e = let f : o ≡ unary_op.Receive = cc in rw f refl
signed_by h n inner again primary _ o i l m e = cc

-- ---- without a sign

unsigned_by : (h : Bool) (n : ℕ) (inner again primary : Reader tree.Expr) (k : Terminal) (i : Leaf)
    (l m : List Lexeme) → unsigned k ≡ true → unary_by h n inner again primary k i l m ≡ primary l
unsigned_by h n inner again primary (Binary op.Add) i l m e = cc
unsigned_by h n inner again primary (Binary op.Sub) i l m e = cc
unsigned_by h n inner again primary Bang i l m e = cc
unsigned_by h n inner again primary Arrow i l m e = cc
unsigned_by h n inner again primary Ampersand i l m e = cc
unsigned_by h n inner again primary _ i l m e = refl

pub unsigned_at : (h : Bool) (n : ℕ) (l : List Lexeme) → IsNext unsigned l
    → unary h (suc n) l ≡ primary n l
unfolding expr
unsigned_at h n [] u = absurd u
unsigned_at h n (t ∷ l) u =
    unsigned_by h n (expr false n 1) (unary h n) (primary n) t.terminal t.leaf (t ∷ l) l u
