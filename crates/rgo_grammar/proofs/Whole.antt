-- From reading to the laws: reading fails at the first bad token, and what it returns is the one tree. The order matters: correctness
-- shows that the turns are enough; so completeness makes every program read as its tree, and two trees of one list are equal.
use Rattle.std.proofs.Common.{◌≡◌, ℕ, suc, ◌+◌, ◌-◌, ◌*◌, ◌<◌, ◌≤◌, ◌⊎◌, inl, inr, true, List, [], ◌∷◌, ◌++◌, length, take, refl, ◌∙◌, ap, append_assoc, arith, length-append, add-one}
use Rattle.std.proofs.Math.Seq.{take-append_seam}
use Rattle.rgo_ast.specs.Tree.{Import, Decl}
use Rattle.rgo_lexer.specs.Lexemes.{Lexeme}
use Rattle.rgo_grammar.specs.Grammar.{IsProgram}
use Rattle.rgo_grammar.specs.FirstBad.{Begins, IsFirstBad}
use Rattle.rgo_grammar.specs.Laws.{OneTree, ProgramOrBad}
use Rattle.rgo_grammar.specs.reading.{Read.{Read, Done, Failed, At, Starving}, Declarations.{program}}
use Rattle.rgo_grammar.proofs.machine.{Table.{Program, fine, leads}, Runs.{Accepted, Stopped, run, Reached, stopped, finish, finish_run}}
use Rattle.rgo_grammar.proofs.reading.Complete.{Meets}
use Rattle.rgo_grammar.proofs.declarations.{Program.Closed.{accepts, rejects}, Program.{Closed, program_correct}, Complete.{program_complete}}

-- enough turns for a list of tokens
abbrev pub turns : List Lexeme → ℕ
turns l = 4 * length l + 4

abbrev pub read : List Lexeme → Read (List Import × List Decl)
read l = program (turns l) l

abbrev pub IsRead : List Lexeme → List Import × List Decl → Type 0
IsRead l x = IsProgram l x.0 x.1

start_fine : fine (Program ∷ []) true ≡ true
unfolding fine leads
start_fine = refl

closed : (l : List Lexeme) → Closed (Program ∷ []) IsRead l (read l)
closed l = program_correct (turns l) l (omega arith)

starves : {l : List Lexeme} {r : Read (List Import × List Decl)} → Closed (Program ∷ []) IsRead l r
    → r ≡ Failed Starving → ⊥
starves (accepts p h) e = cc
starves (rejects h) e = cc

pub never_starved : (l : List Lexeme) → read l ≡ Failed Starving → ⊥
never_starved l e = starves (closed l) e

-- a program is read as its tree
pub read_again : (l : List Lexeme) (is : List Import) (ds : List Decl) → IsProgram l is ds
    → read l ≡ Done (is, ds) []
read_again l is ds h = by_cases (program_complete (turns l) h) where
  by_cases : Meets (read l) (Done (is, ds) []) → read l ≡ Done (is, ds) []
  by_cases (inl e) = absurd (never_starved l e)
  by_cases (inr e) = e

parsed_by : {l : List Lexeme} {x : List Import × List Decl} {w : List Lexeme}
    {r : Read (List Import × List Decl)} → Closed (Program ∷ []) IsRead l r → r ≡ Done x w
    → IsRead l x × (run l (Program ∷ []) ≡ Accepted)
parsed_by {x = x} (accepts {a} p h) e = let f : a ≡ x = cc in (rw (← f) p, h)
parsed_by (rejects h) e = cc

pub parsed : (l : List Lexeme) (x : List Import × List Decl) (w : List Lexeme)
    → read l ≡ Done x w → IsProgram l x.0 x.1
parsed l x w e = (parsed_by (closed l) e).0

takes : (l : List Lexeme) (is : List Import) (ds : List Decl) → IsProgram l is ds
    → run l (Program ∷ []) ≡ Accepted
takes l is ds h = (parsed_by (closed l) (read_again l is ds h)).1

accepted_by : {l : List Lexeme} {r : Read (List Import × List Decl)}
    → Closed (Program ∷ []) IsRead l r → run l (Program ∷ []) ≡ Accepted
    → (is : List Import) × (ds : List Decl) × IsProgram l is ds
accepted_by (accepts {a = x} p h) e = (x.0, x.1, p)
accepted_by (rejects h) a = cc

accepted : (l : List Lexeme) → run l (Program ∷ []) ≡ Accepted
    → (is : List Import) × (ds : List Decl) × IsProgram l is ds
accepted l a = accepted_by (closed l) a

same_pair : (x y : List Import × List Decl) → x ≡ y → (x.0 ≡ y.0) × (x.1 ≡ y.1)
same_pair x y e = (ap (λ z. z.0) e, ap (λ z. z.1) e)

pub one_tree : OneTree
one_tree l is js ds es f g =
    let e = read_again l is ds f in let d = read_again l js es g in same_pair (is, ds) (js, es) cc

take_front_more : (x y : List Lexeme) (t : Lexeme)
    → take (suc (length x)) (x ++ t ∷ y) ≡ x ++ t ∷ []
take_front_more [] y t = refl
take_front_more (u ∷ x) y t = ap (λ m. u ∷ m) (take_front_more x y t)

first_bad_at : (l r : List Lexeme) → read l ≡ Failed (At r) → Reached l (Program ∷ []) r
    → IsFirstBad l (length l - length r)
first_bad_at l r e at =
    let k : length l - length r ≡ length at.before = omega
    (arith, ap length at.cut, length-append at.before r) in
    rw (k, at.cut) (record {
      within = omega (arith, length-append at.before r);
      before = begun;
      next = λ h b. ends_by r refl h b;
      all = λ h is ds p. let yes =
          read_again (at.before ++ r) is ds p in let no = rw at.cut at e in cc;
    })
  where
    begun : Begins (take (length at.before) (at.before ++ r))
    begun =
        let p = accepted (at.before ++ finish at.stack)
        (at.leads_here (finish at.stack) ∙ finish_run at.stack at.is_fine) in
        (finish at.stack, p.0, p.1, rw take-append_seam p.2)

    ends_by : (q : List Lexeme) → r ≡ q → length at.before < length (at.before ++ r)
        → Begins (take (length at.before + 1) (at.before ++ r)) → ⊥
    ends_by [] g h b = omega (arith, length-append at.before r, ap length g)
    ends_by (t ∷ q) g h b =
        let p = b.3 in
        let p' : IsProgram (at.before ++ t ∷ b.0) b.1
        b.2 = rw (g, add-one, take_front_more at.before q t, append_assoc) at p in
        let yes = takes (at.before ++ t ∷ b.0) b.1 b.2 p' in
        let no = at.leads_here (t ∷ b.0) ∙ at.stuck t q b.0 g in
        cc

stopped_at : {l r : List Lexeme} {x : Read (List Import × List Decl)}
    → Closed (Program ∷ []) IsRead l x → x ≡ Failed (At r) → run l (Program ∷ []) ≡ Stopped r
stopped_at (accepts p h) e = cc
stopped_at {r = r} (rejects {w} h) e = let f : w ≡ r = cc in rw (← f) h

reached : (l r : List Lexeme) → read l ≡ Failed (At r) → Reached l (Program ∷ []) r
reached l r e = stopped l (Program ∷ []) r start_fine (stopped_at (closed l) e)

pub first_bad : (l r : List Lexeme) → read l ≡ Failed (At r) → IsFirstBad l (length l - length r)
first_bad l r e = first_bad_at l r e (reached l r e)

pub rest_within : (l r : List Lexeme) → read l ≡ Failed (At r) → length r ≤ length l
rest_within l r e =
    let at = reached l r e in omega (arith, ap length at.cut, length-append at.before r)

pub one_of_both : ProgramOrBad
one_of_both l = by_read (read l) refl where
  by_read : (r : Read (List Import × List Decl)) → read l ≡ r
      → ((is : List Import) × (ds : List Decl) × IsProgram l is ds) ⊎ ((k : ℕ) × IsFirstBad l k)
  by_read (Done x w) e = inl (x.0, x.1, parsed l x w e)
  by_read (Failed (At r)) e = inr (length l - length r, first_bad l r e)
  by_read (Failed Starving) e = absurd (never_starved l e)
