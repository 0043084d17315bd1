-- The grammar as the table of a machine that takes one token at a time, with a stack of what is still to come: each symbol of the stack
-- has a row, which lists for each token the symbols that replace it. The machine looks at no token but the next, so where it stops is
-- a function of the tokens before; that is why the first bad token is found with it. It has no levels of precedence: which
-- lists of tokens are expressions does not depend on how operators group.
use Rattle.std.proofs.Common.{◌≡◌, Bool, true, false, cond, not, List, [], ◌∷◌, ◌++◌, Option, Some, None, refl, inl, inr, ◌⊎◌, ◌==◌, ◌||◌, ◌&&◌, nat_le}
use Rattle.std.proofs.lemmas.Bool.{eq-eqb}
use Rattle.rgo_ast.specs.declared.ops.BinaryOp.TheVariants as op
use Rattle.rgo_ast.specs.declared.ops.AssignOp.TheVariants as assign_op
use Rattle.rgo_ast.specs.declared.ops.StepOp.TheVariants as step_op
use Rattle.rgo_lexer.specs.{declared.terminals.Terminal.{Terminal, TheVariants.{Name, Main, New, Make, Number, Text, Binary, Bang, Ampersand, Arrow, Define, Assign, Step, OpenParen, CloseParen, OpenBracket, CloseBracket, OpenBrace, CloseBrace, Comma, Semicolon, Colon, Dot, Package, Import, TypeWord, Struct, Var, Func, Chan, Go, If, Else, For, Return, Break, Continue}}, Lexemes.{class, subclass, is_same_terminal}}

-- where a simple statement is: alone, in the header of an `if` or `for`, or after the second `;` of
-- a `for`
pub data Context : Type 0 where
  alone before_if before_for for_post : Context

pub data Sym : Type 0 where
  T : Terminal → Sym
  Unary Bin : Bool → Sym
  Tail Named : Context → Sym
  Program Imports Decls Paths PathList PathSep Specs SpecList SpecSep Vars VarList VarSep : Sym
  Fields FieldSep NamesType AType Params ParamSep Result Block Stmts StmtEnd Locals LocalList : Sym
  LocalSep LocalRest Initial Value IfHead IfElse ElseBody ForHead Condition ForStep Post : Sym
  MakeType MakeSize MakeMore MakeEnd Args ArgsEnd Elems ElemsNamed ElemsEnd ElemsMore : Sym
  KeyedEnd KeyedMore : Sym

abbrev pub Row : Type 0
Row = List (Terminal × List Sym)

-- each entry followed by more
abbrev pub then_all : Row → List Sym → Row
then_all [] after = []
then_all ((k, a) ∷ r) after = (k, a ++ after) ∷ then_all r after

abbrev pub joined : Row → Row → Row
joined [] s = s
joined (e ∷ r) s = e ∷ joined r s

abbrev pub header : Context → Bool
header alone = false
header before_if = true
header before_for = true
header for_post = true

-- what follows a simple statement other than an expression
abbrev pub rest : Context → List Sym
rest alone = []
rest before_if = T Semicolon ∷ Unary true ∷ Bin true ∷ Block ∷ IfElse ∷ []
rest before_for = T Semicolon ∷ Condition ∷ []
rest for_post = Block ∷ []

-- what may follow one that is an expression
abbrev pub plain_row : Context → Row
plain_row alone = []
plain_row before_if =
    (OpenBrace, Stmts ∷ IfElse ∷ []) ∷ (Semicolon, Unary true ∷ Bin true ∷ Block ∷ IfElse ∷ []) ∷ []
plain_row before_for = (OpenBrace, Stmts ∷ []) ∷ (Semicolon, Condition ∷ []) ∷ []
plain_row for_post = (OpenBrace, Stmts ∷ []) ∷ []

abbrev pub tail_row : Context → Row
tail_row c =
    (Arrow, Unary (header c) ∷ Bin (header c) ∷ rest c)
    ∷ (Assign assign_op.Plain, Unary (header c) ∷ Bin (header c) ∷ rest c)
    ∷ (Assign assign_op.Add, Unary (header c) ∷ Bin (header c) ∷ rest c)
    ∷ (Step step_op.Increment, rest c) ∷ plain_row c

abbrev pub post_row : Row
post_row =
    (Dot, T Name ∷ Post ∷ []) ∷ (OpenBracket, Unary false ∷ Bin false ∷ T CloseBracket ∷ Post ∷ [])
    ∷ (OpenParen, Args ∷ Post ∷ []) ∷ []

abbrev pub bin_row : Bool → Row
bin_row h =
    (Binary op.Add, Unary h ∷ Bin h ∷ []) ∷ (Binary op.Sub, Unary h ∷ Bin h ∷ [])
    ∷ (Binary op.Mul, Unary h ∷ Bin h ∷ []) ∷ (Binary op.Div, Unary h ∷ Bin h ∷ []) ∷ []

abbrev pub literal_row : Bool → Row
literal_row true = []
literal_row false = (Ampersand, T Name ∷ T OpenBrace ∷ Elems ∷ []) ∷ []

-- what an expression begins with but names
abbrev pub unnamed_row : Bool → Row
unnamed_row h =
    (Binary op.Add, Unary h ∷ []) ∷ (Binary op.Sub, Unary h ∷ []) ∷ (Bang, Unary h ∷ [])
    ∷ (Arrow, Unary h ∷ []) ∷ (Number 0, Post ∷ []) ∷ (Text, Post ∷ [])
    ∷ (OpenParen, Unary false ∷ Bin false ∷ T CloseParen ∷ Post ∷ [])
    ∷ (New, T OpenParen ∷ T Name ∷ T CloseParen ∷ Post ∷ [])
    ∷ (Make, T OpenParen ∷ MakeType ∷ Post ∷ []) ∷ literal_row h

-- an expression and what follows it, with what follows a name that begins it
abbrev pub starts_row : Bool → List Sym → List Sym → Row
starts_row h after named = (Name, named) ∷ then_all (unnamed_row h) after

abbrev pub expr_row : Bool → List Sym → Row
expr_row h after = starts_row h after (Post ∷ after)

abbrev pub named_row : Context → Row
named_row c =
    (Define, Unary (header c) ∷ Bin (header c) ∷ rest c) ∷ joined
    (then_all post_row (Bin (header c) ∷ Tail c ∷ []))
    (joined (then_all (bin_row (header c)) (Tail c ∷ [])) (tail_row c))

abbrev pub type_row : Row
type_row =
    (Name, []) ∷ (Binary op.Mul, T Name ∷ []) ∷ (OpenBracket, T CloseBracket ∷ AType ∷ [])
    ∷ (Chan, AType ∷ []) ∷ []

abbrev pub decls_row : Row
decls_row =
    (TypeWord, Specs ∷ T Semicolon ∷ Decls ∷ []) ∷ (Var, Vars ∷ T Semicolon ∷ Decls ∷ [])
    ∷ (Func, T Name ∷ T OpenParen ∷ Params ∷ Result ∷ T Semicolon ∷ Decls ∷ []) ∷ []

abbrev pub stmt_row : Row
stmt_row =
    (OpenBrace, Stmts ∷ StmtEnd ∷ []) ∷ (If, IfHead ∷ StmtEnd ∷ []) ∷ (For, ForHead ∷ StmtEnd ∷ [])
    ∷ (Go, T Name ∷ T OpenParen ∷ Args ∷ StmtEnd ∷ []) ∷ (Var, Locals ∷ StmtEnd ∷ [])
    ∷ (Return, Value ∷ StmtEnd ∷ []) ∷ (Break, StmtEnd ∷ []) ∷ (Continue, StmtEnd ∷ []) ∷ starts_row
    false (Bin false ∷ Tail alone ∷ StmtEnd ∷ []) (Named alone ∷ StmtEnd ∷ [])

abbrev pub row : Sym → Row
row (T k) = (k, []) ∷ []
row (Unary h) = expr_row h []
row (Bin h) = bin_row h
row (Tail c) = tail_row c
row (Named c) = named_row c
row Program = (Package, T Main ∷ T Semicolon ∷ Imports ∷ []) ∷ []
row Imports = (Import, Paths ∷ T Semicolon ∷ Imports ∷ []) ∷ decls_row
row Decls = decls_row
row Paths = (OpenParen, PathList ∷ []) ∷ (Text, []) ∷ []
row PathList = (CloseParen, []) ∷ (Text, PathSep ∷ []) ∷ []
row PathSep = (CloseParen, []) ∷ (Semicolon, PathList ∷ []) ∷ []
row Specs = (OpenParen, SpecList ∷ []) ∷ (Name, T Struct ∷ T OpenBrace ∷ Fields ∷ []) ∷ []
row SpecList = (CloseParen, []) ∷ (Name, T Struct ∷ T OpenBrace ∷ Fields ∷ SpecSep ∷ []) ∷ []
row SpecSep = (CloseParen, []) ∷ (Semicolon, SpecList ∷ []) ∷ []
row Vars = (OpenParen, VarList ∷ []) ∷ (Name, NamesType ∷ []) ∷ []
row VarList = (CloseParen, []) ∷ (Name, NamesType ∷ VarSep ∷ []) ∷ []
row VarSep = (CloseParen, []) ∷ (Semicolon, VarList ∷ []) ∷ []
row Fields = (CloseBrace, []) ∷ (Name, NamesType ∷ FieldSep ∷ []) ∷ []
row FieldSep = (CloseBrace, []) ∷ (Semicolon, Fields ∷ []) ∷ []
row NamesType = (Comma, T Name ∷ NamesType ∷ []) ∷ type_row
row AType = type_row
row Params = (CloseParen, []) ∷ (Name, NamesType ∷ ParamSep ∷ []) ∷ []
row ParamSep = (CloseParen, []) ∷ (Comma, Params ∷ []) ∷ []
row Result = (OpenBrace, Stmts ∷ []) ∷ then_all type_row (Block ∷ [])
row Block = (OpenBrace, Stmts ∷ []) ∷ []
row Stmts = (CloseBrace, []) ∷ (Semicolon, Stmts ∷ []) ∷ stmt_row
row StmtEnd = (CloseBrace, []) ∷ (Semicolon, Stmts ∷ []) ∷ []
row Locals = (OpenParen, LocalList ∷ []) ∷ (Name, LocalRest ∷ []) ∷ []
row LocalList = (CloseParen, []) ∷ (Name, LocalRest ∷ LocalSep ∷ []) ∷ []
row LocalSep = (CloseParen, []) ∷ (Semicolon, LocalList ∷ []) ∷ []
row LocalRest =
    (Comma, T Name ∷ NamesType ∷ []) ∷ (Assign assign_op.Plain, Unary false ∷ Bin false ∷ [])
    ∷ then_all type_row (Initial ∷ [])
row Initial = (Assign assign_op.Plain, Unary false ∷ Bin false ∷ []) ∷ []
row Value = expr_row false (Bin false ∷ [])
row IfHead =
    (Semicolon, Unary true ∷ Bin true ∷ Block ∷ IfElse ∷ []) ∷ starts_row true
    (Bin true ∷ Tail before_if ∷ []) (Named before_if ∷ [])
row IfElse = (Else, ElseBody ∷ []) ∷ []
row ElseBody = (OpenBrace, Stmts ∷ []) ∷ (If, IfHead ∷ []) ∷ []
row ForHead =
    (OpenBrace, Stmts ∷ []) ∷ (Semicolon, Condition ∷ []) ∷ starts_row true
    (Bin true ∷ Tail before_for ∷ []) (Named before_for ∷ [])
row Condition = (Semicolon, ForStep ∷ []) ∷ expr_row true (Bin true ∷ T Semicolon ∷ ForStep ∷ [])
row ForStep = (OpenBrace, Stmts ∷ []) ∷ expr_row true (Bin true ∷ Tail for_post ∷ [])
row Post = post_row
row MakeType =
    (OpenBracket, T CloseBracket ∷ AType ∷ T Comma ∷ Unary false ∷ Bin false ∷ MakeEnd ∷ [])
    ∷ (Chan, AType ∷ MakeSize ∷ []) ∷ []
row MakeSize = (CloseParen, []) ∷ (Comma, MakeMore ∷ []) ∷ []
row MakeMore = (CloseParen, []) ∷ expr_row false (Bin false ∷ MakeEnd ∷ [])
row MakeEnd = (CloseParen, []) ∷ (Comma, T CloseParen ∷ []) ∷ []
row Args = (CloseParen, []) ∷ expr_row false (Bin false ∷ ArgsEnd ∷ [])
row ArgsEnd = (CloseParen, []) ∷ (Comma, Args ∷ []) ∷ []
row Elems = (CloseBrace, []) ∷ starts_row false (Bin false ∷ ElemsEnd ∷ []) (ElemsNamed ∷ [])
row ElemsNamed =
    (Colon, Unary false ∷ Bin false ∷ KeyedEnd ∷ []) ∷ joined
    (then_all post_row (Bin false ∷ ElemsEnd ∷ []))
    (joined (then_all (bin_row false) (ElemsEnd ∷ []))
    ((CloseBrace, []) ∷ (Comma, ElemsMore ∷ []) ∷ []))
row ElemsEnd = (CloseBrace, []) ∷ (Comma, ElemsMore ∷ []) ∷ []
row ElemsMore = (CloseBrace, []) ∷ expr_row false (Bin false ∷ ElemsEnd ∷ [])
row KeyedEnd = (CloseBrace, []) ∷ (Comma, KeyedMore ∷ []) ∷ []
row KeyedMore = (CloseBrace, []) ∷ (Name, T Colon ∷ Unary false ∷ Bin false ∷ KeyedEnd ∷ []) ∷ []

-- what may be left out: the next token may belong to what is under it on the stack
abbrev pub nullable : Sym → Bool
nullable Imports = true
nullable Decls = true
nullable Initial = true
nullable Value = true
nullable IfElse = true
nullable Post = true
nullable (Tail alone) = true
nullable (Named alone) = true
nullable (Bin h) = true
nullable _ = false

-- A short text that a symbol derives. It is the first token of the row if that token alone is enough; the others are listed. Nothing
-- depends on how they were found, since each is checked below.
abbrev one_token : Row → List Terminal
one_token ((k, []) ∷ r) = k ∷ []
one_token _ = []

abbrev braces : List Terminal
braces = OpenBrace ∷ CloseBrace ∷ []

abbrev pub word : Sym → List Terminal
word (Unary h) = Name ∷ []
word (Tail alone) = []
word (Tail _) = braces
word (Named alone) = []
word (Named _) = braces
word Program = Package ∷ Main ∷ Semicolon ∷ []
word Paths = Text ∷ []
word Specs = Name ∷ Struct ∷ braces
word Vars = Name ∷ Name ∷ []
word NamesType = Name ∷ []
word Result = braces
word Block = braces
word Locals = Name ∷ Name ∷ []
word LocalRest = Name ∷ []
word IfHead = Name ∷ braces
word ElseBody = braces
word ForHead = braces
word Condition = Semicolon ∷ braces
word ForStep = braces
word MakeType = Chan ∷ Name ∷ CloseParen ∷ []
word ElemsNamed = CloseBrace ∷ []
word x = one_token (row x)

-- what may continue at its end
abbrev pub opens : Sym → Bool
opens (Unary h) = true
opens (Bin h) = true
opens (Tail alone) = true
opens (Named alone) = true
opens (Tail before_if) = true
opens (Named before_if) = true
opens Program = true
opens Imports = true
opens Decls = true
opens Initial = true
opens Value = true
opens IfHead = true
opens IfElse = true
opens ElseBody = true
opens Post = true
opens Locals = true
opens LocalRest = true
opens _ = false

-- closers, the tokens that end what comes before them: `)`, `]`, `{`, `}`, `,`, `;` and `:`
abbrev pub closer : Terminal → Bool
closer k = class k == 14 || (nat_le 16 (class k) && nat_le (class k) 21)

abbrev pub find : Terminal → Row → Option (List Sym)
find k [] = None
find k ((j, a) ∷ r) = cond (is_same_terminal j k) (Some a) (find k r)

abbrev pub next : Sym → Terminal → Option (List Sym)
next x k = find k (row x)

abbrev pub entered : Option (List Sym) → List Sym → Option (List Sym) → Option (List Sym)
entered (Some a) s other = Some (a ++ s)
entered None s other = other

-- the stack after a token
unfoldable pub step : List Sym → Terminal → Option (List Sym)
step [] k = None
step (x ∷ s) k = entered (next x k) s (cond (nullable x) (step s k) None)

abbrev pub closes_first : List Terminal → Bool
closes_first [] = false
closes_first (k ∷ ks) = closer k

unfoldable pub leads : List Sym → Bool → Bool
leads [] o = o
leads (x ∷ s) o = cond (nullable x) (leads s o) (closes_first (word x))

-- Each symbol that may continue at its end is followed by one whose short text begins with a closer. Without this a short text could
-- be read as a continuation of what comes before it, and the stack would not be emptied.
unfoldable pub fine : List Sym → Bool → Bool
fine [] o = true
fine (x ∷ s) o = cond (cond (opens x) (leads s o) true) (fine s o) false

abbrev pub all_entries : (Terminal → List Sym → Bool) → Row → Bool
all_entries p [] = true
all_entries p ((k, a) ∷ r) = cond (p k a) (all_entries p r) false

abbrev pub and_then : Option (List Sym) → (List Sym → Option (List Sym)) → Option (List Sym)
and_then (Some r) f = f r
and_then None f = None

unfoldable pub after : List Terminal → List Sym → Option (List Sym)
after [] s = Some s
after (k ∷ ks) s = and_then (step s k) (after ks)

unfoldable pub all_nullable : List Sym → Bool
all_nullable [] = true
all_nullable (x ∷ s) = cond (nullable x) (all_nullable s) false

abbrev empty : {A : Type 0} → List A → Bool
empty [] = true
empty (x ∷ l) = false

-- ---- the table is checked by computing: a test of each symbol, and what the test implies; a new production needs no new proof here

-- a symbol that may be left out: no closer begins it, and nothing is its short text
abbrev skipped : Sym → Bool
skipped x =
    cond (all_entries (λ k a. not (closer k)) (row x)) (cond (empty (word x)) (opens x) false) false

-- another: after its short text only what may be left out remains on the stack, and nothing unless
-- it may continue
abbrev settles : Sym → Option (List Sym) → Bool
settles x None = false
settles x (Some s) = cond (all_nullable s) (cond (empty s) true (opens x)) false

abbrev skips_or_settles : Sym → Bool
skips_or_settles x = cond (nullable x) (skipped x) (settles x (after (word x) (x ∷ [])))

abbrev checks : Sym → Bool
checks x = cond (all_entries (λ k a. fine a (opens x)) (row x)) (skips_or_settles x) false

pub same_self : (k : Terminal) → is_same_terminal k k ≡ true
same_self k = rw (eq-eqb (class k) (class k) refl) (eq-eqb (subclass k) (subclass k) refl)

checked : (x : Sym) → checks x ≡ true
unfolding fine leads after step all_nullable
checked (T k) = rw same_self refl
checked (Unary true) = refl
checked (Unary false) = refl
checked (Bin true) = refl
checked (Bin false) = refl
checked (Tail alone) = refl
checked (Tail before_if) = refl
checked (Tail before_for) = refl
checked (Tail for_post) = refl
checked (Named alone) = refl
checked (Named before_if) = refl
checked (Named before_for) = refl
checked (Named for_post) = refl
checked _ = refl

pub both : {a b : Bool} → cond a b false ≡ true → (a ≡ true) × (b ≡ true)
both {a = true} e = (refl, e)
both {a = false} e = cc

pub join : (a b : Bool) → a ≡ true → b ≡ true → cond a b false ≡ true
join true b d e = e
join false b d e = cc

pub entries_fine : (x : Sym) → all_entries (λ k a. fine a (opens x)) (row x) ≡ true
entries_fine x = (both (checked x)).0

-- what holds of a symbol that may be left out
pub record Skips (x : Sym) : Type 0 where
  pub passes_closers : all_entries (λ k a. not (closer k)) (row x) ≡ true
  pub no_word : word x ≡ []
  pub is_open : opens x ≡ true

no_item : {A : Type 0} (l : List A) → empty l ≡ true → l ≡ []
no_item [] e = refl
no_item (x ∷ l) e = cc

pub skips : (x : Sym) → nullable x ≡ true → Skips x
skips x n =
    let h : skips_or_settles x ≡ true = (both (checked x)).1 in
    let h' : skipped x ≡ true = rw n at h in
    let k = both h' in
    let w = both k.1 in record
    { passes_closers = k.0; no_word = no_item (word x) w.0; is_open = w.1 }

-- what holds of another: the stack after its short text
pub record Settles (x : Sym) : Type 0 where
  pub stack : List Sym
  pub reached : after (word x) (x ∷ []) ≡ Some stack
  pub may_end : all_nullable stack ≡ true
  pub is_open : (stack ≡ []) ⊎ (opens x ≡ true)

empty_or : (s : List Sym) (b : Bool) → cond (empty s) true b ≡ true → (s ≡ []) ⊎ (b ≡ true)
empty_or [] b e = inl refl
empty_or (x ∷ s) b e = inr e

settled_by : (x : Sym) (o : Option (List Sym)) → after (word x) (x ∷ []) ≡ o
    → settles x o ≡ true → Settles x
settled_by x None a e = cc
settled_by x (Some s) a e =
    let h = both e in record
    { stack = s; reached = a; may_end = h.0; is_open = empty_or s (opens x) h.1 }

pub settled : (x : Sym) → nullable x ≡ false → Settles x
settled x n =
    let h : skips_or_settles x ≡ true = (both (checked x)).1 in
    let h' : settles x (after (word x) (x ∷ [])) ≡ true = rw n at h in
    settled_by x (after (word x) (x ∷ [])) refl h'
