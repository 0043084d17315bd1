-- What is proved of each reading function: what it reads is in the grammar; the machine takes the same tokens, or stops at the same one;
-- its turns are enough. And how such facts are put together. The three are proved at once, since each step of reading has to know that
-- the step before it left a shorter list and the stack that the next one begins with.
use Rattle.std.proofs.Common.{◌≡◌, ℕ, ◌+◌, ◌==◌, ◌||◌, ◌&&◌, nat_le, Bool, true, false, cond, get_or, List, [], ◌∷◌, ◌++◌, length, refl, sym, ◌∙◌, ap, append_assoc, arith, length-append}
use Rattle.rgo_lexer.specs.{declared.terminals.Terminal.{Terminal, TheVariants.{Name, Main, New, Make, Number, Text, Binary, Bang, Ampersand, Arrow, Define, Assign, Step, OpenParen, CloseParen, OpenBracket, CloseBracket, OpenBrace, CloseBrace, Comma, Semicolon, Colon, Dot, Package, Import, TypeWord, Struct, Var, Func, Chan, Go, If, Else, For, Return, Break, Continue, Other}}, Lexemes.{Leaf, Lexeme, tok, class, is_same_terminal, is_plain_terminal}}
use Rattle.rgo_grammar.specs.reading.Read.{Reader, Read, Done, Failed, At, ◌>>=◌, yielding, token}
use Rattle.rgo_grammar.proofs.machine.{Table.{Sym, T, step, same_self, nullable}, Runs.{Stopped, run, closes, same_class}, Starts.{stays}}

-- Reading from l on, in step with the machine, whose stack begins with `from`: a value for which P holds with the tokens read, and the
-- stack that is left for it; or the machine stops at the same token. Whatever is under `from` on the stack makes no difference.
pub data Correct {A : Type 0} (from : List Sym) (to : A → List Sym)
    (P : List Lexeme → A → List Lexeme → Type 0) (l : List Lexeme)
    : Read A → Type 0 where
  done : (z : List Lexeme) {a : A} {w : List Lexeme} → l ≡ z ++ w → P z a w
      → ((s : List Sym) → run l (from ++ s) ≡ run w (to a ++ s)) → Correct from to P l (Done a w)
  stops : {w : List Lexeme} → ((s : List Sym) → run l (from ++ s) ≡ Stopped w)
      → Correct from to P l (Failed (At w))

-- the same if nothing of `from` is left, and P is about what was read alone
abbrev pub Empties : {A : Type 0} → List Sym → (List Lexeme → A → Type 0)
    → List Lexeme → Read A → Type 0
Empties from P l r = Correct from (λ _. []) (λ z a w. P z a) l r

-- after tokens z that lead from one stack to another
pub correct_after : {A : Type 0} {from via : List Sym} {to : A → List Sym}
    {Q : List Lexeme → A → List Lexeme → Type 0} (z : List Lexeme) {l w : List Lexeme} {r : Read A}
    → l ≡ z ++ w → Correct via to (λ x a u. Q (z ++ x) a u) w r
    → ((s : List Sym) → run l (from ++ s) ≡ run w (via ++ s)) → Correct from to Q l r
correct_after z {w = w} c (done x {w = u} d p h) e =
    done (z ++ x) (c ∙ ap (λ m. z ++ m) d ∙ sym (append_assoc z x u)) p (λ s. e s ∙ h s)
correct_after z c (stops h) e = stops (λ s. e s ∙ h s)

-- a token first
pub token_read : {A : Type 0} {from via : List Sym} {to : A → List Sym}
    {Q : List Lexeme → A → List Lexeme → Type 0} {t : Lexeme} {l : List Lexeme} {r : Read A}
    → Correct via to (λ x a u. Q (t ∷ x) a u) l r
    → ((s : List Sym) → run (t ∷ l) (from ++ s) ≡ run l (via ++ s)) → Correct from to Q (t ∷ l) r
token_read {t = t} h e = correct_after (t ∷ []) refl h e

-- no token yet, if the machine does the same with both stacks
pub same_start : {A : Type 0} {from via : List Sym} {to : A → List Sym}
    {Q : List Lexeme → A → List Lexeme → Type 0} {l : List Lexeme} {r : Read A}
    → Correct via to Q l r → ((s : List Sym) → run l (from ++ s) ≡ run l (via ++ s))
    → Correct from to Q l r
same_start h e = correct_after [] refl h e

pub correct_bind : {A B : Type 0} {from : List Sym} {via : A → List Sym} {to : B → List Sym}
    {P : List Lexeme → A → List Lexeme → Type 0} {Q : List Lexeme → B → List Lexeme → Type 0}
    {l : List Lexeme} {m : Read A} {f : A → Reader B} → Correct from via P l m
    → ((z : List Lexeme) (a : A) (w : List Lexeme) → l ≡ z ++ w → P z a w
    → Correct (via a) to (λ x b u. Q (z ++ x) b u) w (f a w)) → Correct from to Q l (m >>= f)
correct_bind (done z {a} {w} c p h) g = correct_after z c (g z a w c p) h
correct_bind (stops h) g = stops h

-- a value made into another; the stack that is left is the same for both
pub correct_given : {A B : Type 0} {from to : List Sym} {P : List Lexeme → A → List Lexeme → Type 0}
    {Q : List Lexeme → B → List Lexeme → Type 0} {l : List Lexeme} {m : Read A} (f : A → B)
    → Correct from (λ _. to) P l m
    → ((z : List Lexeme) (a : A) (w : List Lexeme) → P z a w → Q z (f a) w)
    → Correct from (λ _. to) Q l (m >>= yielding f)
correct_given f (done z {a} {w} c p h) g = done z c (g z a w p) h
correct_given f (stops h) g = stops h

-- the same with weaker facts
pub correct_weaker : {A : Type 0} {from : List Sym} {to : A → List Sym}
    {P Q : List Lexeme → A → List Lexeme → Type 0} {l : List Lexeme} {m : Read A}
    → Correct from to P l m
    → ((z : List Lexeme) (a : A) (w : List Lexeme) → l ≡ z ++ w → P z a w → Q z a w)
    → Correct from to Q l m
correct_weaker (done z {a} {w} c p h) g = done z c (g z a w c p) h
correct_weaker (stops h) g = stops h

-- how much shorter a rest is
pub shorter : (l z w : List Lexeme) → l ≡ z ++ w → length w + length z ≡ length l
shorter l z w c = omega (arith, ap length c, length-append z w)

-- ---- one token

abbrev all : List Terminal
all =
    Name ∷ Main ∷ New ∷ Make ∷ Other ∷ Text ∷ Other ∷ Bang ∷ Ampersand ∷ Arrow ∷ Define ∷ Other
    ∷ Other ∷ OpenParen ∷ CloseParen ∷ OpenBracket ∷ CloseBracket ∷ OpenBrace ∷ CloseBrace ∷ Comma
    ∷ Semicolon ∷ Colon ∷ Dot ∷ Package ∷ Import ∷ TypeWord ∷ Struct ∷ Var ∷ Func ∷ Chan ∷ Go ∷ If
    ∷ Else ∷ For ∷ Return ∷ Break ∷ Continue ∷ Other ∷ []

decoded : (k : Terminal) → is_plain_terminal k ≡ true → get_or all (class k) Other ≡ k
decoded (Number n) e = cc
decoded (Binary o) e = cc
decoded (Assign o) e = cc
decoded (Step o) e = cc
decoded _ e = refl

abbrev plain_class : ℕ → Bool
plain_class n = nat_le n 3 || n == 5 || (nat_le 7 n && nat_le n 10) || nat_le 13 n

plain_by_class : (k : Terminal) → is_plain_terminal k ≡ plain_class (class k)
plain_by_class (Number n) = refl
plain_by_class (Binary o) = refl
plain_by_class (Assign o) = refl
plain_by_class (Step o) = refl
plain_by_class _ = refl

pub same_plain : (k j : Terminal) → is_plain_terminal k ≡ true → is_same_terminal k j ≡ true → j ≡ k
same_plain k j p e =
    let c : class k ≡ class j = same_class k j e in
    let q : is_plain_terminal j ≡ true = plain_by_class j ∙ rw (← c) refl ∙ sym (plain_by_class k) ∙ p in
    sym (decoded j q) ∙ rw (← c) refl ∙ decoded k p

take_token : (k : Terminal) (i : Leaf) (l : List Lexeme) (s : List Sym)
    → run (tok k i ∷ l) (T k ∷ s) ≡ run l s
unfolding run step
take_token k i l s = rw same_self refl

leave_token : (k : Terminal) (t : Lexeme) (l : List Lexeme) (s : List Sym)
    → is_same_terminal k t.terminal ≡ false → run (t ∷ l) (T k ∷ s) ≡ Stopped (t ∷ l)
unfolding run step
leave_token k t l s e = rw e refl

no_token : (k : Terminal) (s : List Sym) → run [] (T k ∷ s) ≡ Stopped []
unfolding run closes
no_token k s = refl

abbrev pub IsToken : Terminal → List Lexeme → Leaf → List Lexeme → Type 0
IsToken k z i w = z ≡ tok k i ∷ []

token_by : (k j : Terminal) (i : Leaf) (l : List Lexeme) (v : Bool) → is_plain_terminal k ≡ true → is_same_terminal k j ≡ v
    → Correct (T k ∷ [])
    (λ _. []) (IsToken k) (tok j i ∷ l) (cond v (Done i l) (Failed (At (tok j i ∷ l))))
token_by k j i l true p e =
    let is : j ≡ k = same_plain k j p e in
    done (tok j i ∷ []) refl (rw is refl) (λ s. rw is (take_token k i l s))
token_by k j i l false p e = stops (λ s. leave_token k (tok j i) l s e)

pub correct_token : (k : Terminal) {l : List Lexeme} → is_plain_terminal k ≡ true
    → Correct (T k ∷ []) (λ _. []) (IsToken k) l (token k l)
correct_token k {l = []} p = stops (λ s. no_token k s)
correct_token k {l = t ∷ l} p = token_by k t.terminal t.leaf l (is_same_terminal k t.terminal) p refl

-- ---- one thing after another

-- with more under it on the stack
pub correct_under : {A : Type 0} {from : List Sym} {to : A → List Sym} (more : List Sym)
    {P : List Lexeme → A → List Lexeme → Type 0} {l : List Lexeme} {m : Read A}
    → Correct from to P l m → Correct (from ++ more) (λ a. to a ++ more) P l m
correct_under {from = from} {to = to} more (done z {a} c p h) =
    done z c p (λ s. rw (append_assoc from more s, append_assoc (to a) more s) (h (more ++ s)))
correct_under more (stops h) = stops (λ s. rw append_assoc (h (more ++ s)))

-- what is read first leaves what lay under it on the stack
pub correct_then : {A B : Type 0} {from more : List Sym} {to : B → List Sym}
    {P : List Lexeme → A → List Lexeme → Type 0} {Q : List Lexeme → B → List Lexeme → Type 0}
    {l : List Lexeme} {m : Read A} {f : A → Reader B} → Correct from (λ _. []) P l m
    → ((z : List Lexeme) (a : A) (w : List Lexeme) → l ≡ z ++ w → P z a w
    → Correct more to (λ x b u. Q (z ++ x) b u) w (f a w)) → Correct (from ++ more) to Q l (m >>= f)
correct_then {more = more} h g = correct_bind (correct_under more h) g

-- a token first
pub correct_token_then : {B : Type 0} (k : Terminal) {more : List Sym} {to : B → List Sym}
    {Q : List Lexeme → B → List Lexeme → Type 0} {l : List Lexeme} {f : Leaf → Reader B}
    → is_plain_terminal k ≡ true
    → ((i : Leaf) (w : List Lexeme) → l ≡ tok k i ∷ w
    → Correct more to (λ x b u. Q (tok k i ∷ x) b u) w (f i w))
    → Correct (T k ∷ more) to Q l (token k l >>= f)
correct_token_then k p g = correct_then (correct_token k p) (λ z i w c e. rw e (g i w (rw e at c)))

-- a token alone, made into something
pub correct_token_given : {B : Type 0} (k : Terminal) {Q : List Lexeme → B → List Lexeme → Type 0}
    {l : List Lexeme} (f : Leaf → B) → is_plain_terminal k ≡ true
    → ((i : Leaf) (w : List Lexeme) → Q (tok k i ∷ []) (f i) w)
    → Correct (T k ∷ []) (λ _. []) Q l (token k l >>= yielding f)
correct_token_given k f p g = correct_given f (correct_token k p) (λ z i w e. rw e (g i w))

-- ---- at the next token, if there is one

pub at_token : {A : Type 0} {X : Sym} {under : List Sym} {to : A → List Sym}
    {Q : List Lexeme → A → List Lexeme → Type 0} {l : List Lexeme} (read : Reader A)
    → nullable X ≡ false → read [] ≡ Failed (At [])
    → ((t : Lexeme) (m : List Lexeme) → l ≡ t ∷ m → Correct (X ∷ under) to Q (t ∷ m) (read (t ∷ m)))
    → Correct (X ∷ under) to Q l (read l)
at_token {X = X} {under = under} {l = []} read n e h = rw e (stops (λ s. stays X (under ++ s) n))
at_token {l = t ∷ m} read n e h = h t m refl
